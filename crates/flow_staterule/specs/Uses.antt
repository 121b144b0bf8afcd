-- Which uses of locals may come after a wait: what a local holds is lost at a wait.
--
-- A walk leads from the declaration of a local to a use of it, passes a wait, and doesn't pass the declaration again: then the use is
-- stale. Between its declaration and the end of its scope a walk doesn't pass the declaration again, so it is enough to look
-- at the walks from a declaration to each point of its scope.
use Rattle.std.specs.Prelude.{ℕ, ◌-◌, Bool, ◌&&◌, nat_le, nat_lt, List, [], ◌∷◌, ◌++◌, length, if◌then◌else◌}
use Rattle.std.specs.Str.{bytes_eq}
use Rattle.std.specs.declared.option.Option.{Option}
use Rattle.std.specs.declared.option.Option.TheVariants.{None, Some}
use Rattle.flow_base.specs.declared.place.Place.{Place}
use Rattle.flow_tree.specs.declared.ty.Ident.{Ident}
use Rattle.flow_tree.specs.Tree.{ExprTree, ExprTrees}
use Rattle.flow_tree.specs.Body.{IntoTree, ChangeTree, PlusChange, MinusChange, UpChange, DownChange, Body, End, BlockStmt, IfStmt, IfElseStmt, WhileStmt, ForStmt, LoopStmt, BreakStmt, ContinueStmt, ReturnStmt, ThrowStmt, TryStmt, ChooseStmt, DeclareStmt, AssignStmt, ModifyStmt, CallStmt, WaitStmt, Branches, NoBranches, MoreBranches}
use Rattle.flow_tree.specs.Decls.{ParamTree}
use Rattle.flow_tree.specs.Folds.{names_listed, all_names_listed}
use Rattle.flow_staterule.specs.declared.scope.Point.{Point}
use Rattle.flow_staterule.specs.declared.scope.Use.{Use}
use Rattle.flow_staterule.specs.declared.uses.Caught.{Caught}
use Rattle.flow_staterule.specs.declared.ways.Reached.{Reached}
use Rattle.flow_ast.specs.Slots.{body_groups}
use Rattle.flow_staterule.specs.Ways.{ways, never, with_step, head, round, waited_at}

-- A variable in force, and where it is declared if it is a local. The variables in force stand newest first.
pub record Variable : Type 0 where
  pub name : List ℕ
  pub local : Option Place

-- the point to which these walks lead from p, with so many variables in force
abbrev pub behind : ℕ → Point → Reached → Point
behind d p r = if r.waited then record p { stale = d } else if r.fresh then p else record { from = d; stale = d }

abbrev pub is_stale : Point → (number : ℕ) → Bool
is_stale p n = nat_le p.from n && nat_lt n p.stale

abbrev pub use_of : Place → Point → Option Place → ℕ → List Use
use_of at p None n = []
use_of at p (Some named) n = record { at = at; declared = named; stale = is_stale p n } ∷ []

-- a mention of a name: that of the newest variable of this name
abbrev pub mention : List Variable → Point → Place → List ℕ → List Use
mention [] p at x = []
mention (v ∷ vs) p at x = if bytes_eq v.name x then use_of at p v.local (length vs) else mention vs p at x

abbrev pub named : List Variable → Point → Ident → List Use
named vs p x = mention vs p x.at x.name

-- the uses in an expression, in the order of the text
abbrev pub expr_uses : List Variable → Point → ExprTree → List Use
expr_uses vs p e = names_listed (named vs p) e

abbrev pub exprs_uses : List Variable → Point → ExprTrees → List Use
exprs_uses vs p es = all_names_listed (named vs p) es

abbrev pub maybe_uses : List Variable → Point → Option ExprTree → List Use
maybe_uses vs p None = []
maybe_uses vs p (Some e) = expr_uses vs p e

-- the variable of a target, and the base of a call, whose own name is no mention
abbrev pub target_uses : List Variable → Point → List Ident → List Use
target_uses vs p [] = []
target_uses vs p (x ∷ xs) = named vs p x

abbrev pub base_uses : List Variable → Point → List Ident → List Use
base_uses vs p (x ∷ (y ∷ ys)) = named vs p x
base_uses vs p _ = []

abbrev pub change_uses : List Variable → Point → ChangeTree → List Use
change_uses vs p (PlusChange e) = expr_uses vs p e
change_uses vs p (MinusChange e) = expr_uses vs p e
change_uses vs p UpChange = []
change_uses vs p DownChange = []

-- a declared variable: one of the state outlives each wait, so it is no local
abbrev pub declared : IntoTree → Variable
declared i = record { name = i.name.name; local = if i.state then None else Some i.name.at }

abbrev pub with_into : List Variable → Option IntoTree → List Variable
with_into vs None = vs
with_into vs (Some i) = declared i ∷ vs

-- the variables in force behind the first statement of a body
abbrev pub declaring : List Variable → Body → List Variable
declaring vs (DeclareStmt at i v k) = declared i ∷ vs
declaring vs (WaitStmt at w k) = with_into vs w.into
declaring vs b = vs

-- of the first n waits, those that come behind a body
abbrev pub left : ℕ → Body → ℕ
left n b = n - length (body_groups b)

-- the point behind a body
abbrev pub beyond : ℕ → List Variable → Point → Body → Point
beyond n vs p b = behind (length vs) p (ways n b).ends

-- the variable of a catch
abbrev pub caught_as : Ident → Variable
caught_as x = record { name = x.name; local = Some x.at }

-- `throw;` uses the variable of the innermost catch around it
abbrev pub thrown_uses : Point → Option Caught → Place → Option ExprTree → List Variable → List Use
thrown_uses p c at (Some e) vs = expr_uses vs p e
thrown_uses p None at None vs = []
thrown_uses p (Some c) at None vs = use_of at p (Some c.declared) c.number

-- The uses in a body, of whose waits the first n are looked for, in the order of the text.
abbrev mutual
  pub uses : ℕ → List Variable → Point → Option Caught → Body → List Use
  uses n vs p c End = []
  uses n vs p c (BlockStmt at b k) =
      let s = BlockStmt at b End in
      uses n vs p c b ++ uses (left n s) vs (beyond n vs p s) c k
  uses n vs p c (IfStmt at e b k) =
      let s = IfStmt at e b End in
      expr_uses vs p e ++ uses n vs p c b ++ uses (left n s) vs (beyond n vs p s) c k
  uses n vs p c (IfElseStmt at e b d k) =
      let s = IfElseStmt at e b d End in
      expr_uses vs p e ++ uses n vs p c b ++ uses (left n b) vs p c d ++ uses (left n s) vs (beyond n vs p s) c k
  uses n vs p c (WhileStmt at e b k) =
      let s = WhileStmt at e b End in
      let h = behind (length vs) p (head (ways n b)) in
      expr_uses vs h e ++ uses n vs h c b ++ uses (left n s) vs (beyond n vs p s) c k
  uses n vs p c (ForStmt at i e t b k) =
      let s = ForStmt at i e t b End in
      let l = left n i in
      let m = left l t in
      let ws = declaring vs i in
      let h = behind (length ws) (beyond n vs p i) (head (with_step (ways m b) (ways l t))) in
      uses n vs p c i ++ maybe_uses ws h e ++ uses l ws (behind (length ws) h (round (ways m b))) c t ++ uses m ws h c b ++
      uses (left n s) vs (beyond n vs p s) c k
  uses n vs p c (LoopStmt at b k) =
      let s = LoopStmt at b End in
      uses n vs (behind (length vs) p (head (ways n b))) c b ++ uses (left n s) vs (beyond n vs p s) c k
  uses n vs p c (BreakStmt at k) = uses n vs (behind (length vs) p never) c k
  uses n vs p c (ContinueStmt at k) = uses n vs (behind (length vs) p never) c k
  uses n vs p c (ReturnStmt at v k) = maybe_uses vs p v ++ uses n vs (behind (length vs) p never) c k
  uses n vs p c (ThrowStmt at v k) = thrown_uses p c at v vs ++ uses n vs (behind (length vs) p never) c k
  uses n vs p c (TryStmt at b q x h k) =
      let s = TryStmt at b q x h End in
      uses n vs p c b ++
      uses (left n b) (caught_as x ∷ vs) (behind (length vs) p (ways n b).throws) (Some (record { number = length vs; declared = x.at })) h
      ++
      uses (left n s) vs (beyond n vs p s) c k
  uses n vs p c (ChooseStmt at bs k) =
      let s = ChooseStmt at bs End in
      branch_uses (n - 1) vs p (behind (length vs) p (waited_at n)) c bs ++ uses (left n s) vs (beyond n vs p s) c k
  uses n vs p c (DeclareStmt at i v k) = maybe_uses vs p v ++ uses n (declared i ∷ vs) p c k
  uses n vs p c (AssignStmt at xs v k) = target_uses vs p xs ++ expr_uses vs p v ++ uses n vs p c k
  uses n vs p c (ModifyStmt at xs d k) = target_uses vs p xs ++ change_uses vs p d ++ uses n vs p c k
  uses n vs p c (CallStmt at xs es k) = base_uses vs p xs ++ exprs_uses vs p es ++ uses n vs p c k
  uses n vs p c (WaitStmt at w k) =
      let s = WaitStmt at w End in
      expr_uses vs p w.operand ++ uses (left n s) (with_into vs w.into) (beyond n vs p s) c k

  -- the operands of branches are read before the `choose` is left, at p, and the branches are run behind it, at q
  pub branch_uses : ℕ → List Variable → Point → Point → Option Caught → Branches → List Use
  branch_uses n vs p q c NoBranches = []
  branch_uses n vs p q c (MoreBranches at w b bs) =
      expr_uses vs p w.operand ++ uses n (with_into vs w.into) q c b ++ branch_uses (left n b) vs p q c bs

-- the uses in the body of an `else`, and in the branches of a `choose`
abbrev pub else_uses : ℕ → List Variable → Point → Option Caught → Option Body → List Use
else_uses n vs p c None = []
else_uses n vs p c (Some b) = uses n vs p c b

abbrev pub choose_uses : ℕ → List Variable → Point → Option Caught → Branches → List Use
choose_uses n vs p c bs = branch_uses (n - 1) vs p (behind (length vs) p (waited_at n)) c bs

-- a parameter is no local
abbrev pub parameter : ParamTree → Variable
parameter p = record { name = p.name.name; local = None }

abbrev pub begins : Point
begins = record { from = 0; stale = 0 }
