-- What each kind of statement answers where one of its parts is the first in which a rule fails, and where none is.
use Rattle.std.proofs.Common.{◌≡◌, ℕ, Bool, true, false, not, List, [], ◌∷◌, ◌++◌, map, take, length, if◌then◌else◌, Result, Ok, Err, refl, sym, ap, ap₂, subst, ◌∙◌, append_assoc, append-nil}
use Rattle.std.specs.declared.option.Option.{Option}
use Rattle.std.specs.declared.option.Option.TheVariants.{None, Some}
use Rattle.flow_base.specs.declared.place.Place.{Place}
use Rattle.flow_tree.specs.declared.ty.Ident.{Ident}
use Rattle.flow_tree.specs.declared.fault.SourceFault.{SourceFault}
use Rattle.flow_tree.specs.declared.fault.SourceFault.TheVariants.{Refused, AcrossWait, OutOfMemory}
use Rattle.flow_tree.specs.Tree.{ExprTree, ErrorType}
use Rattle.flow_tree.specs.Body.{IntoTree, WaitTree, Body, End, IfStmt, IfElseStmt, ForStmt, TryStmt, DeclareStmt, WaitStmt, Branches, MoreBranches}
use Rattle.flow_tree.specs.Decls.{SlotTree}
use Rattle.flow_ast.specs.Slots.{body_slots, branch_slots, waited_slots, declared_slots, into_slots}
use Rattle.flow_ast.specs.Typing.{or_else}
use Rattle.flow_rules.specs.Items.{Env, Refusal, item, with_states, with_var, in_loop, in_catch, declared, waited, if_state, behind, started, slot_names, fresh, test_fault, maybe_test, declare_fault, wait_fault, body_refusal, branch_refusal}
use Rattle.flow_types.specs.WalkView.{bare, Grows, Says, Steps, Passes, StmtAnswer, BranchAnswer, BodyAnswer, PartAnswer, Leads, else_refusal, else_slots}
use Rattle.flow_types.proofs.Walking.{take_own, take_first, vars_started, placeless_started, vars_waited, placeless_waited, scope_closed}
use Rattle.flow_types.proofs.Arms.{Shape, names_both, states_both, or_assoc}

-- this is the first refusal
abbrev pub Fails : Option Refusal → SourceFault → Type 0
Fails before (Refused rule at) = before ≡ Some (rule, at)
Fails before (AcrossWait at declared wait) = ⊥
Fails before OutOfMemory = Unit {0}

pub fails_first : (p q : Option Refusal) (x : SourceFault) → Fails p x → Fails (or_else p q) x
fails_first p q (Refused rule at) h = ap (λ b. or_else b q) h
fails_first p q (AcrossWait at declared wait) h = h
fails_first p q OutOfMemory h = h

pub fails_next : (p q : Option Refusal) (x : SourceFault) → p ≡ None → Fails q x → Fails (or_else p q) x
fails_next p q (Refused rule at) e h = ap (λ b. or_else b q) e ∙ h
fails_next p q (AcrossWait at declared wait) e h = h
fails_next p q OutOfMemory e h = h

pub says_fails : (p : Option Refusal) (x : SourceFault) → Says p (Err x) → Fails p x
says_fails p (Refused rule at) h = h
says_fails p (AcrossWait at declared wait) h = h
says_fails p OutOfMemory h = h

pub leads_fails : (e new : Env) (p : Option Refusal) (ss : List SlotTree) (x : SourceFault) → Leads e new p ss (Err x) → Fails p x
leads_fails e new p ss (Refused rule at) h = h
leads_fails e new p ss (AcrossWait at declared wait) h = h
leads_fails e new p ss OutOfMemory h = h

pub fails_leads : (e new : Env) (p : Option Refusal) (ss : List SlotTree) (x : SourceFault) → Fails p x → Leads e new p ss (Err x)
fails_leads e new p ss (Refused rule at) h = h
fails_leads e new p ss (AcrossWait at declared wait) h = h
fails_leads e new p ss OutOfMemory h = h

pub part_fails : (e new : Env) (b : Body) (x : SourceFault) → PartAnswer e new b (Err x) → Fails (body_refusal e b) x
part_fails e new b (Refused rule at) h = h
part_fails e new b (AcrossWait at declared wait) h = h
part_fails e new b OutOfMemory h = h

pub body_fails : (e new : Env) (b : Body) (x : SourceFault) → BodyAnswer e new b (Err x) → Fails (body_refusal e b) x
body_fails e new b (Refused rule at) h = h
body_fails e new b (AcrossWait at declared wait) h = h
body_fails e new b OutOfMemory h = h

pub fails_body : (e new : Env) (b : Body) (x : SourceFault) → Fails (body_refusal e b) x → BodyAnswer e new b (Err x)
fails_body e new b (Refused rule at) h = h
fails_body e new b (AcrossWait at declared wait) h = h
fails_body e new b OutOfMemory h = h

pub memory_fails : (p : Option Refusal) (x : SourceFault) → x ≡ OutOfMemory → Fails p x
memory_fails p (Refused rule at) h = cc
memory_fails p (AcrossWait at declared wait) h = cc
memory_fails p OutOfMemory h = _

-- a statement fails where what is judged in it does
pub stmt_fails : (e new : Env) (f : Body → Body) (before rest : Option Refusal) (x : SourceFault) → ((k : Body) → (r : Option Refusal) × (body_refusal e (f k) ≡ or_else before r)) → Fails before x
    → StmtAnswer e new f (Err x)
stmt_fails e new f before rest (Refused rule at) s h = λ k. (s k).1 ∙ ap (λ b. or_else b (s k).0) h
stmt_fails e new f before rest (AcrossWait at declared wait) s h = h
stmt_fails e new f before rest OutOfMemory s h = h

pub shape_fails : (e new : Env) (f : Body → Body) (before : Option Refusal) (ss : List SlotTree) (x : SourceFault) → Shape e f before ss → Fails before x → StmtAnswer e new f (Err x)
shape_fails e new f before ss x sh h = stmt_fails e new f before None x (λ k. (body_refusal (with_states e (slot_names ss)) k, sh.refusal k)) h

-- an `if`, which may have an `else`
abbrev pub if_or : Place → ExprTree → Body → Option Body → Body → Body
if_or at t b None k = IfStmt at t b k
if_or at t b (Some c) k = IfElseStmt at t b c k

pub shape_if_or : (e : Env) (at : Place) (t : ExprTree) (b : Body) (o : Option Body)
    → Shape e (if_or at t b o) (or_else (item at (test_fault e.setting t)) (or_else (body_refusal e b) (else_refusal (behind e b) o))) (body_slots b ++ else_slots o)
shape_if_or e at t b None =
    let i = item at (test_fault e.setting t) in
    let p = body_refusal e b in
    record {
      refusal = λ k. ap (λ n. or_else i (or_else p (body_refusal (with_states e (slot_names n)) k))) (sym (append-nil (body_slots b)))
          ∙ ap (λ z. or_else i z) (sym (or_assoc p None (body_refusal (with_states e (slot_names (body_slots b ++ []))) k)))
          ∙ sym (or_assoc i (or_else p None) (body_refusal (with_states e (slot_names (body_slots b ++ []))) k));
      slots = λ k. ap (λ n. n ++ body_slots k) (sym (append-nil (body_slots b)));
      exact = refl;
    }
shape_if_or e at t b (Some c) =
    let i = item at (test_fault e.setting t) in
    let p = body_refusal e b in
    let q = body_refusal (behind e b) c in
    record {
      refusal = λ k. ap (λ n. or_else i (or_else p (or_else q (body_refusal n k)))) (states_both e (body_slots b) (body_slots c))
          ∙ ap (λ z. or_else i z) (sym (or_assoc p q (body_refusal (with_states e (slot_names (body_slots b ++ body_slots c))) k)))
          ∙ sym (or_assoc i (or_else p q) (body_refusal (with_states e (slot_names (body_slots b ++ body_slots c))) k));
      slots = λ k. refl;
      exact = refl;
    }

-- a `for`: its init, itself with its test, its step and its body
abbrev pub for_refusal : Env → Place → Body → Option ExprTree → Body → Body → Option Refusal
for_refusal e at i t n b =
    or_else (body_refusal e i) (or_else (item at (maybe_test (started e i).setting t))
    (or_else (body_refusal (started e i) n) (body_refusal (in_loop (behind (started e i) n)) b)))

behind_three : (e : Env) (i n b : Body) → behind (behind (behind e i) n) b ≡ with_states e (slot_names (body_slots i ++ (body_slots n ++ body_slots b)))
behind_three e i n b =
    states_both (behind e i) (body_slots n) (body_slots b) ∙ states_both e (body_slots i) (body_slots n ++ body_slots b)

pub shape_for : (e : Env) (at : Place) (i : Body) (t : Option ExprTree) (n b : Body) → Shape e (ForStmt at i t n b) (for_refusal e at i t n b) (body_slots i ++ (body_slots n ++ body_slots b))
shape_for e at i t n b =
    let p = body_refusal e i in
    let q = item at (maybe_test (started e i).setting t) in
    let r = body_refusal (started e i) n in
    let s = body_refusal (in_loop (behind (started e i) n)) b in
    record {
      refusal = λ k.
          let z = body_refusal (with_states e (slot_names (body_slots i ++ (body_slots n ++ body_slots b)))) k in
          ap (λ m. or_else p (or_else q (or_else r (or_else s (body_refusal m k))))) (behind_three e i n b)
          ∙ ap (λ y. or_else p (or_else q y)) (sym (or_assoc r s z)) ∙ ap (λ y. or_else p y) (sym (or_assoc q (or_else r s) z)) ∙ sym (or_assoc p (or_else q (or_else r s)) z);
      slots = λ k. ap (λ l. l ++ body_slots k) (append_assoc (body_slots i) (body_slots n) (body_slots b));
      exact = refl;
    }

-- a `try`: its body, its `catch`, and its handler
abbrev pub try_refusal : Env → Body → Place → Ident → Body → Option Refusal
try_refusal e b q x h =
    or_else (body_refusal e b) (or_else (item q (fresh e.setting (behind e b).states false x.name)) (body_refusal (in_catch (with_var (behind e b) x.name ErrorType)) h))

pub shape_try : (e : Env) (at : Place) (b : Body) (q : Place) (x : Ident) (h : Body) → Shape e (TryStmt at b q x h) (try_refusal e b q x h) (body_slots b ++ body_slots h)
shape_try e at b q x h =
    let p = body_refusal e b in
    let f = item q (fresh e.setting (behind e b).states false x.name) in
    let r = body_refusal (in_catch (with_var (behind e b) x.name ErrorType)) h in
    record {
      refusal = λ k.
          let z = body_refusal (with_states e (slot_names (body_slots b ++ body_slots h))) k in
          ap (λ m. or_else p (or_else f (or_else r (body_refusal m k)))) (states_both e (body_slots b) (body_slots h))
          ∙ ap (λ y. or_else p y) (sym (or_assoc f r z)) ∙ sym (or_assoc p (or_else f r) z);
      slots = λ k. refl;
      exact = refl;
    }

-- a declaration, and a wait
state_name : (i : IntoTree) → slot_names (declared_slots i) ≡ if_state i.state i.name.name
state_name i = elim i.state as (λ b. slot_names (if b then record { ty = i.ty; name = i.name.name } ∷ [] else []) ≡ if_state b i.name.name) [ true ↦ refl | false ↦ refl ]

declared_states : (e : Env) (i : IntoTree) (ss : List SlotTree) → (declared e i).states ++ slot_names ss ≡ e.states ++ slot_names (declared_slots i ++ ss)
declared_states e i ss =
    append_assoc e.states (if_state i.state i.name.name) (slot_names ss) ∙ ap (λ l. e.states ++ (l ++ slot_names ss)) (sym (state_name i))
    ∙ ap (λ l. e.states ++ l) (sym (names_both (declared_slots i) ss))

waited_states : (e : Env) (i : Option IntoTree) (ss : List SlotTree) → (waited e i).states ++ slot_names ss ≡ e.states ++ slot_names (into_slots i ++ ss)
waited_states e None ss = refl
waited_states e (Some i) ss = declared_states e i ss

pub declare_steps : (e new : Env) (at : Place) (i : IntoTree) (v : Option ExprTree) → item at (declare_fault e.setting e.states i v) ≡ None → new ≡ declared e i → Steps e new (DeclareStmt at i v)
declare_steps e new at i v h is = record {
  refusal = λ k. ap₂ (λ f n. or_else f (body_refusal n k)) h (sym is);
  states = λ k. ap (λ (n : Env). n.states ++ slot_names (body_slots k)) is ∙ declared_states e i (body_slots k);
  exact = is;
}

pub wait_steps : (e new : Env) (at : Place) (w : WaitTree) → item at (wait_fault e.setting e.states w) ≡ None → new ≡ waited e w.into → Steps e new (WaitStmt at w)
wait_steps e new at w h is = record {
  refusal = λ k. ap₂ (λ f n. or_else f (body_refusal n k)) h (sym is);
  states = λ k. ap (λ (n : Env). n.states ++ slot_names (body_slots k)) is ∙ waited_states e w.into (body_slots k);
  exact = is;
}

-- a branch
pub when_passes : (e new : Env) (at : Place) (w : WaitTree) (b : Body) → item at (wait_fault e.setting e.states w) ≡ None → body_refusal (waited e w.into) b ≡ None
    → new ≡ with_states e (slot_names (waited_slots w ++ body_slots b)) → Passes e new (MoreBranches at w b)
when_passes e new at w b p q is = record {
  refusal = λ k. ap₂ (λ f g. or_else f (or_else g (branch_refusal (with_states e (slot_names (waited_slots w ++ body_slots b))) k))) p q ∙ ap (λ n. branch_refusal n k) (sym is);
  states = λ k. ap (λ (n : Env). n.states ++ slot_names (branch_slots k)) is ∙ append_assoc e.states (slot_names (waited_slots w ++ body_slots b)) (slot_names (branch_slots k))
      ∙ ap (λ l. e.states ++ l) (sym (names_both (waited_slots w ++ body_slots b) (branch_slots k)));
  others = is ∙ ap (λ l. record e { states = l }) (sym (ap (λ (n : Env). n.states) is));
}

pub when_fails : (e new : Env) (at : Place) (w : WaitTree) (b : Body) (x : SourceFault) → Fails (or_else (item at (wait_fault e.setting e.states w)) (body_refusal (waited e w.into) b)) x
    → BranchAnswer e new (MoreBranches at w b) (Err x)
when_fails e new at w b (Refused rule place) h = λ k.
    let i = item at (wait_fault e.setting e.states w) in
    let p = body_refusal (waited e w.into) b in
    let z = branch_refusal (with_states e (slot_names (waited_slots w ++ body_slots b))) k in
    sym (or_assoc i p z) ∙ ap (λ y. or_else y z) h
when_fails e new at w b (AcrossWait place declared wait) h = h
when_fails e new at w b OutOfMemory h = h

-- what is in force behind parts of statements
pub grows_started : (e inner : Env) (b : Body) → inner ≡ started e b → inner.states ≡ e.states ++ slot_names (body_slots b) → Grows e inner b
grows_started e inner b is states = record {
  states = states;
  vars = ap (λ n. take (length e.setting.vars) n.setting.vars) is ∙ vars_started e b;
  others = ap bare is ∙ placeless_started e b;
}

pub grows_behind : (e inner : Env) (b : Body) → inner ≡ behind e b → Grows e inner b
grows_behind e inner b is = record {
  states = ap (λ (n : Env). n.states) is;
  vars = ap (λ n. take (length e.setting.vars) n.setting.vars) is ∙ take_own e.setting.vars;
  others = ap bare is;
}

-- behind a scope of its own
pub scoped_closed : (e inner new : Env) (b : Body) → Grows e inner b → new.setting.vars ≡ take (length e.setting.vars) inner.setting.vars → new.states ≡ inner.states → bare new ≡ bare inner
    → new.looped ≡ e.looped → new.caught ≡ e.caught → new ≡ behind e b
scoped_closed e inner new b g v s o l c =
    scope_closed e e inner new b [] (sym (append-nil e.states)) (take_own e.setting.vars) refl g v s o l c

-- behind the body of a `catch`, whose error was in force in it
pub handler_closed : (e mid inner new : Env) (x : List ℕ) (b : Body) → mid ≡ in_catch (with_var e x ErrorType) → Grows mid inner b → new.setting.vars ≡ take (length e.setting.vars) inner.setting.vars
    → new.states ≡ inner.states → bare new ≡ bare inner → new.looped ≡ e.looped → new.caught ≡ e.caught → new ≡ behind e b
handler_closed e mid inner new x b is g v s o l c =
    scope_closed e mid inner new b [] (ap (λ (n : Env). n.states) is ∙ sym (append-nil e.states))
    (ap (λ n. take (length e.setting.vars) n.setting.vars) is ∙ take_first e.setting.vars ((x, ErrorType) ∷ [])) (ap bare is) g v s o l c

-- behind the body of a branch, in which what it waited for was in force
pub when_closed : (e mid inner new : Env) (w : WaitTree) (b : Body) → mid ≡ waited e w.into → Grows mid inner b → new.setting.vars ≡ take (length e.setting.vars) inner.setting.vars
    → new.states ≡ inner.states → bare new ≡ bare inner → new.looped ≡ e.looped → new.caught ≡ e.caught → new ≡ with_states e (slot_names (waited_slots w ++ body_slots b))
when_closed e mid inner new w b is g v s o l c =
    let states : mid.states ≡ e.states ++ slot_names (waited_slots w) =
    ap (λ (n : Env). n.states) is ∙ sym (append-nil (waited e w.into).states) ∙ waited_states e w.into [] ∙ ap (λ l. e.states ++ slot_names l) (append-nil (waited_slots w)) in
    scope_closed e mid inner new b (slot_names (waited_slots w)) states
    (ap (λ n. take (length e.setting.vars) n.setting.vars) is ∙ vars_waited e w.into) (ap bare is ∙ placeless_waited e w.into) g v s o l c
    ∙ ap (λ l. with_states e l) (sym (names_both (waited_slots w) (body_slots b)))

-- behind a `for`
module _ (e e1 e2 e3 e4 new : Env) (i n b : Body) where
  pub record ForWalk : Type 0 where
    pub init : e1 ≡ started e i
    pub init_states : e1.states ≡ e.states ++ slot_names (body_slots i)
    pub step : e2 ≡ started e1 n
    pub step_states : e2.states ≡ e1.states ++ slot_names (body_slots n)
    pub step_vars : e3.setting.vars ≡ take (length e1.setting.vars) e2.setting.vars
    pub kept_states : e3.states ≡ e2.states
    pub kept : bare e3 ≡ bare e2
    pub kept_looped : e3.looped ≡ e1.looped
    pub kept_caught : e3.caught ≡ e1.caught
    pub body : e4 ≡ behind e3 b
    pub body_vars : new.setting.vars ≡ take (length e.setting.vars) e4.setting.vars
    pub new_states : new.states ≡ e4.states
    pub new_kept : bare new ≡ bare e4
    pub new_looped : new.looped ≡ e.looped
    pub new_caught : new.caught ≡ e.caught

  pub for_step : ForWalk → e3 ≡ behind e1 n
  for_step w = scoped_closed e1 e2 e3 n (grows_started e1 e2 n w.step w.step_states) w.step_vars w.kept_states w.kept w.kept_looped w.kept_caught

  pub for_closed : ForWalk → new ≡ with_states e (slot_names (body_slots i ++ (body_slots n ++ body_slots b)))
  for_closed w =
      let three : e3 ≡ behind e1 n = for_step w in
      let ss = slot_names (body_slots i ++ body_slots n) in
      let states : e3.states ≡ e.states ++ ss =
      ap (λ (m : Env). m.states) three ∙ ap (λ l. l ++ slot_names (body_slots n)) w.init_states
      ∙ append_assoc e.states (slot_names (body_slots i)) (slot_names (body_slots n)) ∙ ap (λ l. e.states ++ l) (sym (names_both (body_slots i) (body_slots n))) in
      let vars : take (length e.setting.vars) e3.setting.vars ≡ e.setting.vars =
      ap (λ m. take (length e.setting.vars) m.setting.vars) three ∙ ap (λ m. take (length e.setting.vars) m.setting.vars) w.init ∙ vars_started e i in
      let others : bare e3 ≡ bare e = ap bare three ∙ ap bare w.init ∙ placeless_started e i in
      scope_closed e e3 e4 new b ss states vars others (grows_behind e3 e4 b w.body) w.body_vars w.new_states w.new_kept w.new_looped w.new_caught
      ∙ ap (λ l. with_states e l) (sym (names_both (body_slots i ++ body_slots n) (body_slots b)) ∙ ap slot_names (append_assoc (body_slots i) (body_slots n) (body_slots b)))
