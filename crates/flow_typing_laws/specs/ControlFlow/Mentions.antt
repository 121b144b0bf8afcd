-- The uses of locals in a body: each mention of one, an assignment included, and `throw;`, which mentions the variable of the
-- catch around it. Each has the point of the control graph at which it is read, and that at which its local is declared: a
-- declaration, a wait, the `when` of a branch, or a `catch`. Parameters and variables of the state are no locals.
use Rattle.std.specs.Prelude.{ℕ, suc, ◌+◌, List, [], ◌∷◌, ◌++◌, map, reverse, if◌then◌else◌}
use Rattle.std.specs.Str.{bytes_eq}
use Rattle.std.specs.declared.option.Option.{Option}
use Rattle.std.specs.declared.option.Option.TheVariants.{None, Some}
use Rattle.flow_base.specs.declared.place.Place.{Place}
use Rattle.flow_tree.specs.declared.ty.Ident.{Ident}
use Rattle.flow_tree.specs.Tree.{ExprTree, ExprTrees}
use Rattle.flow_tree.specs.Body.{IntoTree, ChangeTree, PlusChange, MinusChange, UpChange, DownChange, Body, End, BlockStmt, IfStmt, IfElseStmt, WhileStmt, ForStmt, LoopStmt, BreakStmt, ContinueStmt, ReturnStmt, ThrowStmt, TryStmt, ChooseStmt, DeclareStmt, AssignStmt, ModifyStmt, CallStmt, WaitStmt, Branches, NoBranches, MoreBranches}
use Rattle.flow_tree.specs.Decls.{ParamTree}
use Rattle.flow_tree.specs.Folds.{names_listed, all_names_listed}
use Rattle.flow_typing_laws.specs.ControlFlow.Control.{points, branch_points}

-- a declaration of a local: the place of its name, and its point
pub record Declared : Type 0 where
  pub at : Place
  pub point : ℕ

-- a variable in force, and its declaration if it is a local; the variables in force stand newest first
pub record Named : Type 0 where
  pub name : List ℕ
  pub local : Option Declared

-- a use of a local
pub record Mention : Type 0 where
  pub at : Place
  pub point : ℕ
  pub declared : Declared

abbrev pub mention_of : ℕ → Place → Option Declared → List Mention
mention_of n at None = []
mention_of n at (Some d) = record { at = at; point = n; declared = d } ∷ []

-- a name means the newest variable of this name
abbrev pub of_name : List Named → ℕ → Ident → List Mention
of_name [] n x = []
of_name (v ∷ vs) n x = if bytes_eq v.name x.name then mention_of n x.at v.local else of_name vs n x

abbrev pub of_names : List Named → ℕ → List Ident → List Mention
of_names vs n [] = []
of_names vs n (x ∷ xs) = of_name vs n x ++ of_names vs n xs

-- the variables that an expression names, in the order of the text
abbrev pub expr_names : ExprTree → List Ident
expr_names e = names_listed (λ x. x ∷ []) e

abbrev pub exprs_names : ExprTrees → List Ident
exprs_names es = all_names_listed (λ x. x ∷ []) es

abbrev pub maybe_names : Option ExprTree → List Ident
maybe_names None = []
maybe_names (Some e) = expr_names e

-- the variable of a target; the base of a call, whose own name is no mention; what is added or taken
abbrev pub target_names : List Ident → List Ident
target_names [] = []
target_names (x ∷ xs) = x ∷ []

abbrev pub base_names : List Ident → List Ident
base_names (x ∷ (y ∷ ys)) = x ∷ []
base_names _ = []

abbrev pub change_names : ChangeTree → List Ident
change_names (PlusChange e) = expr_names e
change_names (MinusChange e) = expr_names e
change_names UpChange = []
change_names DownChange = []

-- a local of this name, declared at a point
abbrev pub local_at : ℕ → Ident → Named
local_at n x = record { name = x.name; local = Some (record { at = x.at; point = n }) }

abbrev pub declared : ℕ → IntoTree → Named
declared n i = if i.state then record { name = i.name.name; local = None } else local_at n i.name

abbrev pub with_into : ℕ → Option IntoTree → List Named → List Named
with_into n None vs = vs
with_into n (Some i) vs = declared n i ∷ vs

-- the variables in force behind the init of a `for`
abbrev pub declaring : ℕ → Body → List Named → List Named
declaring n (DeclareStmt at i v k) vs = declared n i ∷ vs
declaring n (WaitStmt at w k) vs = with_into n w.into vs
declaring n b vs = vs

-- what a `throw` mentions: without an expression the variable of the catch around it
abbrev pub thrown : List Named → ℕ → Place → Option Declared → Option ExprTree → List Mention
thrown vs n at c (Some e) = of_names vs n (expr_names e)
thrown vs n at c None = mention_of n at c

-- the uses in a body that begins with this number, with these variables in force and this variable of the catch around it
abbrev mutual
  pub mentions : Body → ℕ → List Named → Option Declared → List Mention
  mentions End n vs c = []
  mentions (BlockStmt at b k) n vs c = mentions b (suc n) vs c ++ mentions k (suc n + points b) vs c
  mentions (IfStmt at e b k) n vs c =
      of_names vs n (expr_names e) ++ mentions b (suc n) vs c ++ mentions k (suc n + points b) vs c
  mentions (IfElseStmt at e b d k) n vs c =
      let l = suc n + points b in
      of_names vs n (expr_names e) ++ mentions b (suc n) vs c ++ mentions d l vs c ++ mentions k (l + points d) vs c
  mentions (WhileStmt at e b k) n vs c =
      of_names vs n (expr_names e) ++ mentions b (suc n) vs c ++ mentions k (suc n + points b) vs c
  mentions (ForStmt at i e t b k) n vs c =
      let h = n + points i in
      let l = suc h + points t in
      let ws = declaring n i vs in
      mentions i n vs c ++ of_names ws h (maybe_names e) ++ mentions t (suc h) ws c ++ mentions b l ws c
      ++ mentions k (l + points b) vs c
  mentions (LoopStmt at b k) n vs c = mentions b (suc n) vs c ++ mentions k (suc n + points b) vs c
  mentions (BreakStmt at k) n vs c = mentions k (suc n) vs c
  mentions (ContinueStmt at k) n vs c = mentions k (suc n) vs c
  mentions (ReturnStmt at v k) n vs c = of_names vs n (maybe_names v) ++ mentions k (suc n) vs c
  mentions (ThrowStmt at v k) n vs c = thrown vs n at c v ++ mentions k (suc n) vs c
  mentions (TryStmt at b q x h k) n vs c =
      let l = suc n + points b in
      mentions b (suc n) vs c ++ mentions h (suc l) (local_at l x ∷ vs) (Some (record { at = x.at; point = l }))
      ++ mentions k (suc l + points h) vs c
  mentions (ChooseStmt at bs k) n vs c =
      branch_mentions bs n (suc n) vs c ++ mentions k (suc n + branch_points bs) vs c
  mentions (DeclareStmt at i v k) n vs c = of_names vs n (maybe_names v) ++ mentions k (suc n) (declared n i ∷ vs) c
  mentions (AssignStmt at xs v k) n vs c =
      of_names vs n (target_names xs) ++ of_names vs n (expr_names v) ++ mentions k (suc n) vs c
  mentions (ModifyStmt at xs d k) n vs c =
      of_names vs n (target_names xs) ++ of_names vs n (change_names d) ++ mentions k (suc n) vs c
  mentions (CallStmt at xs es k) n vs c =
      of_names vs n (base_names xs) ++ of_names vs n (exprs_names es) ++ mentions k (suc n) vs c
  mentions (WaitStmt at w k) n vs c =
      of_names vs n (expr_names w.operand) ++ mentions k (suc n) (with_into n w.into vs) c

  -- the operands of the branches of a `choose` are read at the point of the `choose`
  pub branch_mentions : Branches → (choose next : ℕ) → List Named → Option Declared → List Mention
  branch_mentions NoBranches q n vs c = []
  branch_mentions (MoreBranches at w b bs) q n vs c =
      of_names vs q (expr_names w.operand) ++ mentions b (suc n) (with_into n w.into vs) c
      ++ branch_mentions bs q (suc (n + points b)) vs c

-- a parameter is no local
abbrev pub parameter : ParamTree → Named
parameter p = record { name = p.name.name; local = None }

-- the uses in a function or actor
abbrev pub routine_mentions : List ParamTree → Body → List Mention
routine_mentions ps b = mentions b 1 (reverse (map parameter ps)) None

-- A wait or choose: its place and its point.
pub record Wait : Type 0 where
  pub at : Place
  pub point : ℕ

-- the waits of a body that begins with this number, in the order of the text
abbrev mutual
  pub waits : Body → ℕ → List Wait
  waits End n = []
  waits (BlockStmt at b k) n = waits b (suc n) ++ waits k (suc n + points b)
  waits (IfStmt at e b k) n = waits b (suc n) ++ waits k (suc n + points b)
  waits (IfElseStmt at e b c k) n =
      let l = suc n + points b in
      waits b (suc n) ++ waits c l ++ waits k (l + points c)
  waits (WhileStmt at e b k) n = waits b (suc n) ++ waits k (suc n + points b)
  waits (ForStmt at i e t b k) n =
      let h = suc (n + points i) in
      let l = h + points t in
      waits i n ++ waits t h ++ waits b l ++ waits k (l + points b)
  waits (LoopStmt at b k) n = waits b (suc n) ++ waits k (suc n + points b)
  waits (BreakStmt at k) n = waits k (suc n)
  waits (ContinueStmt at k) n = waits k (suc n)
  waits (ReturnStmt at v k) n = waits k (suc n)
  waits (ThrowStmt at v k) n = waits k (suc n)
  waits (TryStmt at b q x h k) n =
      let l = suc (suc n + points b) in
      waits b (suc n) ++ waits h l ++ waits k (l + points h)
  waits (ChooseStmt at bs k) n =
      record { at = at; point = n } ∷ branch_waits bs (suc n) ++ waits k (suc n + branch_points bs)
  waits (DeclareStmt at i v k) n = waits k (suc n)
  waits (AssignStmt at xs v k) n = waits k (suc n)
  waits (ModifyStmt at xs c k) n = waits k (suc n)
  waits (CallStmt at xs es k) n = waits k (suc n)
  waits (WaitStmt at w k) n = record { at = at; point = n } ∷ waits k (suc n)

  pub branch_waits : Branches → ℕ → List Wait
  branch_waits NoBranches n = []
  branch_waits (MoreBranches at w b bs) n = waits b (suc n) ++ branch_waits bs (suc (n + points b))
