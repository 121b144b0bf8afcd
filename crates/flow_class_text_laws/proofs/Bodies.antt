-- What the grammar derives of a body can be said: each expression, path, type and list of arguments is derived by tokens that can be
-- spelled, and a wait has a branch at least and 64 at most.
use Rattle.std.proofs.Common.{ℕ, suc, ◌+◌, ◌≤◌, ◌≡◌, Bool, List, [], length, refl, subst, arith}
use Rattle.std.specs.declared.option.Option.{Option}
use Rattle.std.specs.declared.option.Option.TheVariants.{None, Some}
use Rattle.flow_base.specs.declared.place.Place.{Place}
use Rattle.flow_tree.specs.declared.limits.TheConstants.{BRANCHES}
use Rattle.flow_tree.specs.declared.token.Token.TheVariants as token
use Rattle.flow_tree.specs.declared.ty.Ident.{Ident}
use Rattle.flow_tree.specs.declared.decl.RoutineKind.{RoutineKind}
use Rattle.flow_tree.specs.Tree.{ExprTree, ExprTrees}
use Rattle.flow_tree.specs.Body.{IntoTree, WaitTree, ChangeTree, PlusChange, MinusChange, UpChange, DownChange, Body, IfStmt, IfElseStmt, WhileStmt, ForStmt, ReturnStmt, ThrowStmt, ChooseStmt, DeclareStmt, AssignStmt, ModifyStmt, CallStmt, WaitStmt, Branches}
use Rattle.flow_tree.specs.GrammarToken.{Marked}
use Rattle.flow_tree.specs.Grammar.{ExprRule, ArgsRule}
use Rattle.flow_tree.specs.GrammarStmt.{Counts, IntoRule, declared, OperandRule, wait, wait_next, WaitingRule, plain_wait, into_wait, PathRule, AssignRule, assign, plus, minus, up, down, InitRule, declare, declare_value, change, InitPart, no_init, some_init, StepPart, no_step, some_step, MaybeExprRule, no_expr, some_expr, ReturnedRule, nothing, something, PlainRule, if_stmt, if_else_stmt, while_stmt, for_stmt, loop_stmt, break_stmt, continue_stmt, return_stmt, throw_stmt, try_stmt, choose_stmt, init_stmt, wait_stmt, call_stmt, StmtRule, block_stmt, plain_stmt, BlockRule, braces, BodyRule, block_body, one_body, StmtsRule, no_stmts, more_stmts, WhensRule, no_whens, more_whens, WhenRule, branch}
use Rattle.flow_tree.specs.Folds.{EachStmt, EachBranch}
use Rattle.flow_tree.proofs.Formed.{path_formed}
use Rattle.flow_ast.specs.Slots.{branch_waits}
use Rattle.flow_classprint.specs.ClassGrammar.{IsSpelled}
use Rattle.flow_class_text_laws.proofs.Writable.{Derived, TypeWritable}
use Rattle.flow_class_text_laws.proofs.Paths.{retyped}
use Rattle.flow_class_text_laws.proofs.Lexed.{Fine, fine_front, fine_back, fine_are, statement_unbegun}

-- an expression of a statement has depth 3 at least, and so have arguments
pub record ExprSaid (e : ExprTree) : Type 0 where
  pub depth : ℕ
  pub deep : 3 ≤ depth
  pub of : Derived (λ ts. ExprRule 0 depth ts e)

pub record ArgsSaid (es : ExprTrees) : Type 0 where
  pub depth : ℕ
  pub deep : 3 ≤ depth
  pub of : Derived (λ ts. ArgsRule depth ts es)

abbrev pub MaybeSaid : Option ExprTree → Type 0
MaybeSaid None = Unit {0}
MaybeSaid (Some e) = ExprSaid e

abbrev pub PathSaid : List Ident → Type 0
PathSaid xs = Derived (λ ts. PathRule ts xs)

pub no_path : PathSaid [] → ⊥
no_path h = path_formed h.rule

abbrev pub IntoSaid : IntoTree → Type 0
IntoSaid i = TypeWritable i.ty × IsSpelled (token.Name i.name.name)

abbrev pub TakenSaid : Option IntoTree → Type 0
TakenSaid None = Unit {0}
TakenSaid (Some i) = IntoSaid i

abbrev pub ChangeSaid : ChangeTree → Type 0
ChangeSaid (PlusChange e) = ExprSaid e
ChangeSaid (MinusChange e) = ExprSaid e
ChangeSaid UpChange = Unit {0}
ChangeSaid DownChange = Unit {0}

abbrev pub WaitSaid : WaitTree → Type 0
WaitSaid w = TakenSaid w.into × ExprSaid w.operand

abbrev pub branches_of : Branches → ℕ
branches_of bs = length (branch_waits bs)

-- what a statement says by itself can be said; a choose has a branch at least and 64 at most
abbrev pub StmtSaid : Body → Type 0
StmtSaid (IfStmt at e b k) = ExprSaid e
StmtSaid (IfElseStmt at e b c k) = ExprSaid e
StmtSaid (WhileStmt at e b k) = ExprSaid e
StmtSaid (ForStmt at i e p b k) = MaybeSaid e
StmtSaid (ReturnStmt at e k) = MaybeSaid e
StmtSaid (ThrowStmt at e k) = MaybeSaid e
StmtSaid (ChooseStmt at bs k) = (1 ≤ branches_of bs) × (branches_of bs ≤ BRANCHES)
StmtSaid (DeclareStmt at i e k) = IntoSaid i × MaybeSaid e
StmtSaid (AssignStmt at xs e k) = PathSaid xs × ExprSaid e
StmtSaid (ModifyStmt at xs d k) = PathSaid xs × ChangeSaid d
StmtSaid (CallStmt at xs es k) = PathSaid xs × ArgsSaid es
StmtSaid (WaitStmt at w k) = WaitSaid w
StmtSaid b = Unit {0}

abbrev pub BodySaid : Body → Type 0
BodySaid b = EachStmt StmtSaid b

abbrev pub BranchesSaid : Branches → Type 0
BranchesSaid bs = EachBranch StmtSaid bs

-- expressions, paths and variables
expr_said : {d : ℕ} {ts : List Marked} {e : ExprTree} → ExprRule 0 d ts e → 3 ≤ d → Fine ts → ExprSaid e
expr_said {d = d} {ts = ts} r l h = record { depth = d; deep = l; of = record { tokens = ts; rule = r; are = fine_are ts h } }

args_said : {d : ℕ} {ts : List Marked} {es : ExprTrees} → ArgsRule d ts es → 3 ≤ d → Fine ts → ArgsSaid es
args_said {d = d} {ts = ts} r l h = record { depth = d; deep = l; of = record { tokens = ts; rule = r; are = fine_are ts h } }

maybe_said : {d : ℕ} {ts : List Marked} {e : Option ExprTree} → MaybeExprRule d ts e → 3 ≤ d → Fine ts → MaybeSaid e
maybe_said no_expr l h = tt
maybe_said (some_expr r) l h = expr_said r l h

returned_said : {home : RoutineKind} {d : ℕ} {ts : List Marked} {e : Option ExprTree} → ReturnedRule home d ts e → 3 ≤ d → Fine ts → MaybeSaid e
returned_said (nothing b) l h = tt
returned_said (something r) l h = expr_said r l h

path_said : {ts : List Marked} {xs : List Ident} → PathRule ts xs → Fine ts → PathSaid xs
path_said {ts = ts} r h = record { tokens = ts; rule = r; are = fine_are ts h }

into_said : {home : RoutineKind} {d : ℕ} {c c' : Counts} {all : List Marked} {i : IntoTree} → IntoRule home d c c' all i → 2 ≤ d → Fine all → IntoSaid i
into_said (declared x kept of s t eq) l h =
    let u = fine_back kept _ (subst Fine eq h) in
    (retyped 1 (omega (arith, l)) t (fine_are of (fine_front of _ u)), (fine_back of _ u).0.0)

operand_said : {d : ℕ} {all : List Marked} {next : Bool} {e : ExprTree} → OperandRule d all next e → 2 ≤ d → Fine all → ExprSaid e
operand_said (wait p q r of e eq) l h = let t = subst Fine eq h in expr_said e (omega (arith, l)) (fine_front of _ t.1.1)
operand_said (wait_next p q r of e eq) l h = let t = subst Fine eq h in expr_said e (omega (arith, l)) (fine_front of _ t.1.1)

waiting_said : {home : RoutineKind} {d : ℕ} {c c' : Counts} {all : List Marked} {w : WaitTree} → WaitingRule home d c c' all w → 2 ≤ d → Fine all → WaitSaid w
waiting_said (plain_wait o) l h = (tt, operand_said o l h)
waiting_said (into_wait p left right i o eq) l h =
    let t = subst Fine eq h in
    (into_said i l (fine_front left _ t), operand_said o l (fine_back left _ t).1)

-- statements by themselves
assign_said : {d : ℕ} {all : List Marked} {at : Place} {rest body : Body} → AssignRule d all at rest body → 2 ≤ d → Fine all → BodySaid rest → BodySaid body
assign_said (assign at p path value x e eq s) l h k =
    let t = subst Fine eq h in
    ((path_said x (fine_front path _ t), expr_said e (omega (arith, l)) (fine_back path _ t).1), k)
assign_said (plus at p path value x e eq s) l h k =
    let t = subst Fine eq h in
    ((path_said x (fine_front path _ t), expr_said e (omega (arith, l)) (fine_back path _ t).1), k)
assign_said (minus at p path value x e eq s) l h k =
    let t = subst Fine eq h in
    ((path_said x (fine_front path _ t), expr_said e (omega (arith, l)) (fine_back path _ t).1), k)
assign_said (up at p path x eq s) l h k = ((path_said x (fine_front path _ (subst Fine eq h)), tt), k)
assign_said (down at p path x eq s) l h k = ((path_said x (fine_front path _ (subst Fine eq h)), tt), k)

init_said : {home : RoutineKind} {d : ℕ} {c c' : Counts} {all : List Marked} {at : Place} {rest body : Body} → InitRule home d c c' all at rest body → 2 ≤ d → Fine all → BodySaid rest → BodySaid body
init_said (declare at i s) l h k = ((into_said i l h, tt), k)
init_said (declare_value at p left value i e eq s) l h k =
    let t = subst Fine eq h in
    ((into_said i l (fine_front left _ t), expr_said e (omega (arith, l)) (fine_back left _ t).1), k)
init_said (change at a) l h k = assign_said a l h k

init_part : {home : RoutineKind} {d : ℕ} {c c' : Counts} {all : List Marked} {body : Body} → InitPart home d c c' all body → 2 ≤ d → Fine all → BodySaid body
init_part no_init l h = tt
init_part {d = d} {c = c} (some_init at xs r eq) l h = init_said r l (statement_unbegun c d xs (subst Fine eq h)) tt

step_part : {d : ℕ} {c c' : Counts} {all : List Marked} {body : Body} → StepPart d c c' all body → 2 ≤ d → Fine all → BodySaid body
step_part no_step l h = tt
step_part {d = d} {c = c} (some_step at xs r eq) l h = assign_said r l (statement_unbegun c d xs (subst Fine eq h)) tt

-- branches put before others, of which the first has this number; and branches of which it is the first
record Whens (n : ℕ) (rest bs : Branches) : Type 0 where
  said : BranchesSaid rest → BranchesSaid bs
  one_more : branches_of bs ≡ suc (branches_of rest)
  few : n ≤ BRANCHES

record Choice (n : ℕ) (bs : Branches) : Type 0 where
  said : BranchesSaid bs
  few : n ≤ suc BRANCHES → n + branches_of bs ≤ suc BRANCHES

mutual
  plain : {home : RoutineKind} {d : ℕ} {c c' : Counts} {all : List Marked} {at : Place} {rest body : Body} {e : Bool} → PlainRule home d c c' all at rest body e → 2 ≤ d → Fine all → BodySaid rest
      → BodySaid body
  plain (if_stmt at p q test body e b eq) l h k =
      let t = subst Fine eq h in
      (expr_said e (omega (arith, l)) (fine_front test _ t.1.1), of_body b (omega (arith, l)) (fine_back test _ t.1.1).1, k)
  plain (if_else_stmt at p q r test body other e b o eq) l h k =
      let t = subst Fine eq h in
      let u = (fine_back test _ t.1.1).1 in
      (expr_said e (omega (arith, l)) (fine_front test _ t.1.1), of_body b (omega (arith, l)) (fine_front body _ u), of_body o (omega (arith, l)) (fine_back body _ u).1, k)
  plain (while_stmt at p q test body e b eq) l h k =
      let t = subst Fine eq h in
      (expr_said e (omega (arith, l)) (fine_front test _ t.1.1), of_body b (omega (arith, l)) (fine_back test _ t.1.1).1, k)
  plain (for_stmt at p q r s init test step body i e n b eq) l h k =
      let t = subst Fine eq h in
      let u = (fine_back init _ t.1.1).1 in
      let v = (fine_back test _ u).1 in (
        maybe_said e (omega (arith, l)) (fine_front test _ u),
        init_part i (omega (arith, l)) (fine_front init _ t.1.1),
        step_part n (omega (arith, l)) (fine_front step _ v),
        of_body b (omega (arith, l)) (fine_back step _ v).1,
        k,
      )
  plain (loop_stmt at body b eq) l h k = (tt, of_body b (omega (arith, l)) (subst Fine eq h).1, k)
  plain (break_stmt at p) l h k = (tt, k)
  plain (continue_stmt at p) l h k = (tt, k)
  plain (return_stmt at p value e eq) l h k = (returned_said e (omega (arith, l)) (fine_front value _ (subst Fine eq h).1), k)
  plain (throw_stmt at p value e eq) l h k = (maybe_said e (omega (arith, l)) (fine_front value _ (subst Fine eq h).1), k)
  plain (try_stmt at p q r s u x body caught b c eq) l h k =
      let t = subst Fine eq h in
      (tt, block b (omega (arith, l)) (fine_front body _ t.1), block c (omega (arith, l)) (fine_back body _ t.1).1.1.1.1.1.1, k)
  plain (choose_stmt {b = b} {bs = bs} at p q first more w ws eq) l h k =
      let t = subst Fine eq h in
      let one = when w (omega (arith, l)) (fine_front first _ t.1.1) in
      let rest = whens ws (omega (arith, l)) (fine_front more _ (fine_back first _ t.1.1)) in
      let few = rest.few (omega arith) in
      ((omega (arith, one.one_more), omega (arith, one.one_more, few)), one.said rest.said, k)
  plain (init_stmt at p xs i eq) l h k = init_said i l (fine_front xs _ (subst Fine eq h)) k
  plain (wait_stmt at p xs w eq s) l h k = (waiting_said w l (fine_front xs _ (subst Fine eq h)), k)
  plain (call_stmt at p q r path args x a eq s) l h k =
      let t = subst Fine eq h in
      ((path_said x (fine_front path _ t), args_said a (omega (arith, l)) (fine_front args _ (fine_back path _ t).1)), k)

  stmt : {home : RoutineKind} {d : ℕ} {c c' : Counts} {all : List Marked} {rest body : Body} {e : Bool} → StmtRule home d c c' all rest body e → 2 ≤ d → Fine all → BodySaid rest → BodySaid body
  stmt {d = d} {c = c} (block_stmt at xs b s eq) l h k = (tt, block b (omega (arith, l)) (statement_unbegun c d xs (subst Fine eq h)), k)
  stmt {d = d} {c = c} (plain_stmt at xs r eq) l h k = plain r l (statement_unbegun c d xs (subst Fine eq h)) k

  block : {home : RoutineKind} {d : ℕ} {c c' : Counts} {all : List Marked} {body : Body} → BlockRule home d c c' all body → 2 ≤ d → Fine all → BodySaid body
  block (braces p q xs r eq) l h = stmts r l (fine_front xs _ (subst Fine eq h).1)

  of_body : {home : RoutineKind} {d : ℕ} {c c' : Counts} {all : List Marked} {body : Body} {e : Bool} → BodyRule home d c c' all body e → 2 ≤ d → Fine all → BodySaid body
  of_body (block_body b) l h = block b l h
  of_body {d = d} {c = c} (one_body at xs r eq) l h = plain r l (statement_unbegun c d xs (subst Fine eq h)) tt

  pub stmts : {home : RoutineKind} {d : ℕ} {c c' : Counts} {all : List Marked} {body : Body} → StmtsRule home d c c' all body → 2 ≤ d → Fine all → BodySaid body
  stmts no_stmts l h = tt
  stmts (more_stmts first more r rs eq) l h =
      let t = subst Fine eq h in
      stmt r l (fine_front first _ t) (stmts rs l (fine_back first _ t))

  whens : {home : RoutineKind} {d n : ℕ} {c c' : Counts} {all : List Marked} {bs : Branches} → WhensRule home d n c c' all bs → 2 ≤ d → Fine all → Choice n bs
  whens no_whens l h = record { said = tt; few = λ le. omega (arith, le) }
  whens (more_whens first more w ws eq) l h =
      let t = subst Fine eq h in
      let one = when w l (fine_front first _ t) in
      let rest = whens ws l (fine_back first _ t) in
      record { said = one.said rest.said; few = λ le. let more = rest.few (omega (arith, one.few)) in omega (arith, one.one_more, more) }

  when : {home : RoutineKind} {d n : ℕ} {c c' : Counts} {all : List Marked} {rest bs : Branches} → WhenRule home d n c c' all rest bs → 2 ≤ d → Fine all → Whens n rest bs
  when (branch at p q xs body w b eq) l h =
      let t = subst Fine eq h in
      record {
        said = λ k. (waiting_said w l (fine_front xs _ t.1.1), of_body b (omega (arith, l)) (fine_back xs _ t.1.1).1, k);
        one_more = refl;
        few = t.0.1.0 (omega arith);
      }
