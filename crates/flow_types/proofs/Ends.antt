-- What the parts of the walk answer at each of their exits.
use Rattle.std.proofs.Common.{◌≡◌, ℕ, ◌+◌, ◌<◌, ◌≤◌, Bool, true, false, not, List, [], ◌∷◌, ◌++◌, map, take, drop, length, get_or, Result, Ok, Err, refl, sym, ap, ap₂, subst, ◌∙◌, append_assoc, append-nil}
use Rattle.std.specs.declared.option.Option.{Option}
use Rattle.std.specs.declared.option.Option.TheVariants.{None, Some}
use Rattle.flow_base.specs.declared.place.Place.{Place}
use Rattle.flow_tree.specs.declared.ty.Ident.{Ident}
use Rattle.flow_tree.specs.declared.fault.SourceFault.{SourceFault}
use Rattle.flow_tree.specs.declared.fault.SourceFault.TheVariants.{Refused, AcrossWait, OutOfMemory}
use Rattle.flow_tree.specs.declared.stmt.Stmt.{Stmt}
use Rattle.flow_tree.specs.declared.stmt.When.{When}
use Rattle.flow_tree.specs.Tree.{ExprTree, ErrorType}
use Rattle.flow_tree.specs.Body.{IntoTree, WaitTree, Body, End, BlockStmt, WhileStmt, ForStmt, LoopStmt, BreakStmt, ContinueStmt, ReturnStmt, ThrowStmt, TryStmt, ChooseStmt, DeclareStmt, AssignStmt, ModifyStmt, CallStmt, WaitStmt, Branches, NoBranches, MoreBranches}
use Rattle.flow_tree.specs.Decls.{SlotTree}
use Rattle.flow_tree.specs.StmtView.{stmt_of, body_of, branch_of, branches_of}
use Rattle.flow_ast.specs.Slots.{body_slots, branch_slots, waited_slots}
use Rattle.flow_ast.specs.Typing.{or_else}
use Rattle.flow_rules.specs.declared.rule.SemanticRule.TheVariants.{WaitInFunction}
use Rattle.flow_rules.specs.Least.{unless}
use Rattle.flow_rules.specs.Items.{Env, Refusal, item, with_states, with_var, in_loop, in_catch, declared, waited, behind, started, slot_names, fresh, test_fault, maybe_test, declare_fault, wait_fault, body_refusal, branch_refusal}
use Rattle.flow_types.specs.WalkView.{bare, Grows, Says, Steps, Passes, StmtAnswer, BranchAnswer, BodyAnswer, PartAnswer, Leads, else_refusal, else_slots}
use Rattle.flow_types.proofs.Steps.{drop_more, drop_all}
use Rattle.flow_types.proofs.Walking.{Along, along_step, along_last, Beside, beside_step, beside_last}
use Rattle.flow_types.proofs.Arms.{Shape, shape_answer, shape_block, shape_while, shape_loop, shape_choose, shape_item}
use Rattle.flow_types.proofs.Fails.{Fails, fails_first, fails_next, says_fails, leads_fails, fails_leads, part_fails, body_fails, fails_body, memory_fails, stmt_fails, shape_fails, if_or, shape_if_or, for_refusal, shape_for, try_refusal, shape_try, declare_steps, wait_steps, when_passes, when_fails, scoped_closed, handler_closed, when_closed, ForWalk, for_step, for_closed}

-- a scope of its own
pub scoped_err : (e inner new : Env) (b : Body) (x : SourceFault) → BodyAnswer e inner b (Err x) → Leads e new (body_refusal e b) (body_slots b) (Err x)
scoped_err e inner new b x h = fails_leads e new (body_refusal e b) (body_slots b) x (body_fails e inner b x h)

pub scoped_ok : (e inner new : Env) (b : Body) (u : Unit {0}) → BodyAnswer e inner b (Ok u) → new.setting.vars ≡ take (length e.setting.vars) inner.setting.vars → new.states ≡ inner.states
    → bare new ≡ bare inner → new.looped ≡ e.looped → new.caught ≡ e.caught → Leads e new (body_refusal e b) (body_slots b) (Ok u)
scoped_ok e inner new b u h v s o l c = (h.0, scoped_closed e inner new b h.1 v s o l c)

-- one statement after another
pub body_step : (ss : List Stmt) (i : ℕ) (s : Stmt) (first e new : Env) (all : Body) (u : Unit {0}) → i < length ss → s ≡ get_or ss i s → Along first e (body_of (drop i ss)) all
    → StmtAnswer e new (stmt_of s) (Ok u) → Along first new (body_of (drop (i + 1) ss)) all
body_step ss i s first e new all u lt at h a =
    along_step first e new (stmt_of s) (body_of (drop (i + 1) ss)) all (subst (λ l. Along first e (body_of l) all) (drop_more ss i s lt at) h) a

pub body_err : (ss : List Stmt) (i : ℕ) (s : Stmt) (first e mid new : Env) (all : Body) (x : SourceFault) → i < length ss → s ≡ get_or ss i s → Along first e (body_of (drop i ss)) all
    → StmtAnswer e mid (stmt_of s) (Err x) → BodyAnswer first new all (Err x)
body_err ss i s first e mid new all (Refused rule place) lt at h a =
    h.refusal ∙ ap (λ l. body_refusal e (body_of l)) (drop_more ss i s lt at) ∙ a (body_of (drop (i + 1) ss))
body_err ss i s first e mid new all (AcrossWait place declared wait) lt at h a = a
body_err ss i s first e mid new all OutOfMemory lt at h a = a

pub body_ok : (ss : List Stmt) (i : ℕ) (first e : Env) (all : Body) (u : Unit {0}) → length ss ≤ i → Along first e (body_of (drop i ss)) all → BodyAnswer first e all (Ok u)
body_ok ss i first e all u le h = along_last first e all (subst (λ l. Along first e (body_of l) all) (drop_all ss i le) h)

-- one branch after another
pub branches_step : (ss : List When) (i : ℕ) (s : When) (first e new : Env) (all : Branches) (u : Unit {0}) → i < length ss → s ≡ get_or ss i s → Beside first e (branches_of (drop i ss)) all
    → BranchAnswer e new (branch_of s) (Ok u) → Beside first new (branches_of (drop (i + 1) ss)) all
branches_step ss i s first e new all u lt at h a =
    beside_step first e new (branch_of s) (branches_of (drop (i + 1) ss)) all (subst (λ l. Beside first e (branches_of l) all) (drop_more ss i s lt at) h) a

pub branches_err : (ss : List When) (i : ℕ) (s : When) (first e mid new : Env) (all : Branches) (x : SourceFault) → i < length ss → s ≡ get_or ss i s → Beside first e (branches_of (drop i ss)) all
    → BranchAnswer e mid (branch_of s) (Err x) → Leads first new (branch_refusal first all) (branch_slots all) (Err x)
branches_err ss i s first e mid new all (Refused rule place) lt at h a =
    h.refusal ∙ ap (λ l. branch_refusal e (branches_of l)) (drop_more ss i s lt at) ∙ a (branches_of (drop (i + 1) ss))
branches_err ss i s first e mid new all (AcrossWait place declared wait) lt at h a = a
branches_err ss i s first e mid new all OutOfMemory lt at h a = a

pub branches_ok : (ss : List When) (i : ℕ) (first e : Env) (all : Branches) (u : Unit {0}) → length ss ≤ i → Beside first e (branches_of (drop i ss)) all
    → Leads first e (branch_refusal first all) (branch_slots all) (Ok u)
branches_ok ss i first e all u le h = beside_last first e all (subst (λ l. Beside first e (branches_of l) all) (drop_all ss i le) h)

-- no `else`, and the parts of a `for`
pub else_none : (e : Env) (u : Unit {0}) → Leads e e None [] (Ok u)
else_none e u = (refl, ap (λ ss. record e { states = ss }) (sym (append-nil e.states)))

pub part_some : (e new : Env) (f : Body → Body) (r : Result (Unit {0}) SourceFault) → StmtAnswer e new f r → PartAnswer e new (f End) r
part_some e new f (Ok u) s = (s.refusal End, s.exact, sym (append-nil new.states) ∙ s.states End)
part_some e new f (Err (Refused rule at)) s = s End
part_some e new f (Err (AcrossWait at declared wait)) s = s
part_some e new f (Err OutOfMemory) s = s

pub part_none : (e : Env) (u : Unit {0}) → PartAnswer e e End (Ok u)
part_none e u = (refl, ap (λ ss. record e { states = ss }) (sym (append-nil e.states)), sym (append-nil e.states))

-- the body of a `catch`
abbrev caught_in : Env → Ident → Env
caught_in e x = in_catch (with_var e x.name ErrorType)

pub handler_memory : (e new : Env) (x : Ident) (b : Body) (f : SourceFault) → f ≡ OutOfMemory → Leads e new (body_refusal (caught_in e x) b) (body_slots b) (Err f)
handler_memory e new x b f h = fails_leads e new (body_refusal (caught_in e x) b) (body_slots b) f (memory_fails (body_refusal (caught_in e x) b) f h)

pub handler_err : (e mid inner new : Env) (x : Ident) (b : Body) (f : SourceFault) → mid ≡ caught_in e x → BodyAnswer mid inner b (Err f)
    → Leads e new (body_refusal (caught_in e x) b) (body_slots b) (Err f)
handler_err e mid inner new x b f is h =
    fails_leads e new (body_refusal (caught_in e x) b) (body_slots b) f (subst (λ m. Fails (body_refusal m b) f) is (body_fails mid inner b f h))

pub handler_ok : (e mid inner new : Env) (x : Ident) (b : Body) (u : Unit {0}) → mid ≡ caught_in e x → BodyAnswer mid inner b (Ok u)
    → new.setting.vars ≡ take (length e.setting.vars) inner.setting.vars
    → new.states ≡ inner.states → bare new ≡ bare inner → new.looped ≡ e.looped → new.caught ≡ e.caught → Leads e new (body_refusal (caught_in e x) b) (body_slots b) (Ok u)
handler_ok e mid inner new x b u is h v s o l c =
    (sym (ap (λ m. body_refusal m b) is) ∙ h.0, handler_closed e mid inner new x.name b is h.1 v s o l c)

-- a branch
pub when_item : (e new : Env) (at : Place) (w : WaitTree) (b : Body) (x : SourceFault) → Says (item at (wait_fault e.setting e.states w)) (Err x) → BranchAnswer e new (MoreBranches at w b) (Err x)
when_item e new at w b x h =
    let i = item at (wait_fault e.setting e.states w) in
    when_fails e new at w b x (fails_first i (body_refusal (waited e w.into) b) x (says_fails i x h))

pub when_memory : (e new : Env) (at : Place) (w : WaitTree) (b : Body) (x : SourceFault) → x ≡ OutOfMemory → BranchAnswer e new (MoreBranches at w b) (Err x)
when_memory e new at w b x h = when_fails e new at w b x (memory_fails _ x h)

pub when_body : (e mid inner new : Env) (at : Place) (w : WaitTree) (b : Body) (x : SourceFault) (u : Unit {0}) → Says (item at (wait_fault e.setting e.states w)) (Ok u) → mid ≡ waited e w.into
    → BodyAnswer mid inner b (Err x) → BranchAnswer e new (MoreBranches at w b) (Err x)
when_body e mid inner new at w b x u i is h =
    when_fails e new at w b x (fails_next (item at (wait_fault e.setting e.states w)) (body_refusal (waited e w.into) b) x i (subst (λ m. Fails (body_refusal m b) x) is (body_fails mid inner b x h)))

pub when_ok : (e mid inner new : Env) (at : Place) (w : WaitTree) (b : Body) (u v : Unit {0}) → Says (item at (wait_fault e.setting e.states w)) (Ok v) → mid ≡ waited e w.into
    → BodyAnswer mid inner b (Ok u) → new.setting.vars ≡ take (length e.setting.vars) inner.setting.vars → new.states ≡ inner.states → bare new ≡ bare inner → new.looped ≡ e.looped
    → new.caught ≡ e.caught → BranchAnswer e new (MoreBranches at w b) (Ok u)
when_ok e mid inner new at w b u v i is h vars s o l c =
    when_passes e new at w b i (sym (ap (λ m. body_refusal m b) is) ∙ h.0) (when_closed e mid inner new w b is h.1 vars s o l c)
