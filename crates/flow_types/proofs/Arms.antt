-- What each kind of statement answers: its item and its bodies fail none, or one of them is the first that does.
use Rattle.std.proofs.Common.{◌≡◌, ℕ, List, [], ◌∷◌, ◌++◌, map, Result, Ok, Err, refl, sym, ap, ap₂, ◌∙◌, not, append_assoc, append-nil}
use Rattle.std.specs.declared.option.Option.{Option}
use Rattle.std.specs.declared.option.Option.TheVariants.{None, Some}
use Rattle.flow_base.specs.declared.place.Place.{Place}
use Rattle.flow_tree.specs.declared.ty.Ident.{Ident}
use Rattle.flow_tree.specs.declared.fault.SourceFault.{SourceFault}
use Rattle.flow_tree.specs.declared.fault.SourceFault.TheVariants.{Refused, AcrossWait, OutOfMemory}
use Rattle.flow_tree.specs.Tree.{ExprTree, ErrorType}
use Rattle.flow_tree.specs.Body.{Body, End, BlockStmt, IfStmt, IfElseStmt, WhileStmt, ForStmt, LoopStmt, TryStmt, ChooseStmt, Branches}
use Rattle.flow_tree.specs.Decls.{SlotTree}
use Rattle.flow_ast.specs.Slots.{body_slots, branch_slots}
use Rattle.flow_ast.specs.Typing.{or_else}
use Rattle.flow_rules.specs.Least.{unless}
use Rattle.flow_rules.specs.declared.rule.SemanticRule.TheVariants.{WaitInFunction}
use Rattle.flow_rules.specs.Judged.{Setting}
use Rattle.flow_rules.specs.Items.{Env, Refusal, item, with_states, with_var, in_loop, in_catch, behind, started, slot_names, fresh, test_fault, maybe_test, body_refusal, branch_refusal}
use Rattle.flow_types.specs.WalkView.{Says, Steps, StmtAnswer, Leads, PartAnswer, else_refusal, else_slots}

-- a statement that leaves no variable in force: what is judged in it, and the state variables in it
pub record Shape (e : Env) (f : Body → Body) (before : Option Refusal) (ss : List SlotTree) : Type 0 where
  pub refusal : (k : Body) → body_refusal e (f k) ≡ or_else before (body_refusal (with_states e (slot_names ss)) k)
  pub slots : (k : Body) → body_slots (f k) ≡ ss ++ body_slots k
  pub exact : started e (f End) ≡ behind e (f End)

pub names_both : (xs ys : List SlotTree) → slot_names (xs ++ ys) ≡ slot_names xs ++ slot_names ys
names_both [] ys = refl
names_both (x ∷ xs) ys = ap (λ l. x.name ∷ l) (names_both xs ys)

-- behind some state variables, and then behind more
pub states_both : (e : Env) (xs ys : List SlotTree) → with_states (with_states e (slot_names xs)) (slot_names ys) ≡ with_states e (slot_names (xs ++ ys))
states_both e xs ys =
    ap (λ ss. record e { states = ss }) (append_assoc e.states (slot_names xs) (slot_names ys) ∙ ap (λ l. e.states ++ l) (sym (names_both xs ys)))

pub or_assoc : {A : Type 0} (x y z : Option A) → or_else (or_else x y) z ≡ or_else x (or_else y z)
or_assoc None y z = refl
or_assoc (Some a) y z = refl

pub shape_answer : (e new : Env) (f : Body → Body) (before : Option Refusal) (ss : List SlotTree) (r : Result (Unit {0}) SourceFault)
    → Shape e f before ss → Leads e new before ss r → StmtAnswer e new f r
shape_answer e new f before ss (Ok u) sh h = record {
  refusal = λ k. sh.refusal k ∙ ap₂ (λ b n. or_else b (body_refusal n k)) h.0 (sym h.1);
  states = λ k. ap (λ (n : Env). n.states ++ slot_names (body_slots k)) h.1 ∙ append_assoc e.states (slot_names ss) (slot_names (body_slots k))
      ∙ ap (λ l. e.states ++ l) (sym (names_both ss (body_slots k))) ∙ ap (λ l. e.states ++ slot_names l) (sym (sh.slots k));
  exact = h.1 ∙ ap (λ l. with_states e (slot_names l)) (sym (append-nil ss) ∙ sym (sh.slots End)) ∙ sym sh.exact;
}
shape_answer e new f before ss (Err (Refused rule at)) sh h = λ k. sh.refusal k ∙ ap (λ b. or_else b (body_refusal (with_states e (slot_names ss)) k)) h
shape_answer e new f before ss (Err (AcrossWait at declared wait)) sh h = h
shape_answer e new f before ss (Err OutOfMemory) sh h = h

-- one part and then another
pub then_answer : (e mid new : Env) (p q : Option Refusal) (ss tt : List SlotTree) (r : Result (Unit {0}) SourceFault)
    → p ≡ None → mid ≡ with_states e (slot_names ss) → Leads mid new q tt r → Leads e new (or_else p q) (ss ++ tt) r
then_answer e mid new p q ss tt (Ok u) hp hm h =
    (ap (λ b. or_else b q) hp ∙ h.0, h.1 ∙ ap (λ m. with_states m (slot_names tt)) hm ∙ states_both e ss tt)
then_answer e mid new p q ss tt (Err (Refused rule at)) hp hm h = ap (λ b. or_else b q) hp ∙ h
then_answer e mid new p q ss tt (Err (AcrossWait at declared wait)) hp hm h = h
then_answer e mid new p q ss tt (Err OutOfMemory) hp hm h = h

-- the first part is the last where it fails
pub stop_answer : (e mid new : Env) (p q : Option Refusal) (ss tt : List SlotTree) (x : SourceFault) → Leads e mid p ss (Err x) → Leads e new (or_else p q) tt (Err x)
stop_answer e mid new p q ss tt (Refused rule at) h = ap (λ b. or_else b q) h
stop_answer e mid new p q ss tt (AcrossWait at declared wait) h = h
stop_answer e mid new p q ss tt OutOfMemory h = h

-- an item changes nothing
pub item_answer : (e : Env) (before : Option Refusal) (r : Result (Unit {0}) SourceFault) → Says before r → Leads e e before [] r
item_answer e before (Ok u) h = (h, ap (λ ss. record e { states = ss }) (sym (append-nil e.states)))
item_answer e before (Err (Refused rule at)) h = h
item_answer e before (Err (AcrossWait at declared wait)) h = h
item_answer e before (Err OutOfMemory) h = h

-- the shapes
pub shape_block : (e : Env) (at : Place) (b : Body) → Shape e (BlockStmt at b) (body_refusal e b) (body_slots b)
shape_block e at b = record { refusal = λ k. refl; slots = λ k. refl; exact = refl }

pub shape_if : (e : Env) (at : Place) (t : ExprTree) (b : Body) → Shape e (IfStmt at t b) (or_else (item at (test_fault e.setting t)) (body_refusal e b)) (body_slots b)
shape_if e at t b = record {
  refusal = λ k. sym (or_assoc (item at (test_fault e.setting t)) (body_refusal e b) (body_refusal (behind e b) k));
  slots = λ k. refl;
  exact = refl;
}

pub shape_if_else : (e : Env) (at : Place) (t : ExprTree) (b c : Body)
    → Shape e (IfElseStmt at t b c) (or_else (item at (test_fault e.setting t)) (or_else (body_refusal e b) (body_refusal (behind e b) c))) (body_slots b ++ body_slots c)
shape_if_else e at t b c = record {
  refusal = λ k.
      let i = item at (test_fault e.setting t) in
      let p = body_refusal e b in
      let q = body_refusal (behind e b) c in
      ap (λ n. or_else i (or_else p (or_else q (body_refusal n k)))) (states_both e (body_slots b) (body_slots c))
      ∙ ap (λ z. or_else i z) (sym (or_assoc p q (body_refusal (with_states e (slot_names (body_slots b ++ body_slots c))) k)))
      ∙ sym (or_assoc i (or_else p q) (body_refusal (with_states e (slot_names (body_slots b ++ body_slots c))) k));
  slots = λ k. refl;
  exact = refl;
}

pub shape_while : (e : Env) (at : Place) (t : ExprTree) (b : Body)
    → Shape e (WhileStmt at t b) (or_else (item at (test_fault e.setting t)) (body_refusal (in_loop e) b)) (body_slots b)
shape_while e at t b = record {
  refusal = λ k. sym (or_assoc (item at (test_fault e.setting t)) (body_refusal (in_loop e) b) (body_refusal (behind e b) k));
  slots = λ k. refl;
  exact = refl;
}

pub shape_loop : (e : Env) (at : Place) (b : Body) → Shape e (LoopStmt at b) (body_refusal (in_loop e) b) (body_slots b)
shape_loop e at b = record { refusal = λ k. refl; slots = λ k. refl; exact = refl }

pub shape_choose : (e : Env) (at : Place) (bs : Branches)
    → Shape e (ChooseStmt at bs) (or_else (item at (unless (not e.setting.plain) WaitInFunction)) (branch_refusal e bs)) (branch_slots bs)
shape_choose e at bs = record {
  refusal = λ k. sym (or_assoc (item at (unless (not e.setting.plain) WaitInFunction)) (branch_refusal e bs) (body_refusal (with_states e (slot_names (branch_slots bs))) k));
  slots = λ k. refl;
  exact = refl;
}

-- a statement with an item alone
pub shape_item : (e : Env) (f : Body → Body) (before : Option Refusal) → ((k : Body) → body_refusal e (f k) ≡ or_else before (body_refusal e k))
    → ((k : Body) → body_slots (f k) ≡ body_slots k) → started e (f End) ≡ behind e (f End) → Shape e f before []
shape_item e f before refuses slots exact = record {
  refusal = λ k. refuses k ∙ ap (λ (ss : List (List ℕ)). or_else before (body_refusal (record e { states = ss }) k)) (sym (append-nil e.states));
  slots = slots;
  exact = exact;
}
