-- What each kind of statement answers at each of its exits.
use Rattle.std.proofs.Common.{◌≡◌, ℕ, Bool, true, false, not, List, [], ◌∷◌, ◌++◌, map, take, length, Result, Ok, Err, refl, sym, ap, ap₂, subst, ◌∙◌, append-nil}
use Rattle.std.specs.declared.option.Option.{Option}
use Rattle.std.specs.declared.option.Option.TheVariants.{None, Some}
use Rattle.flow_base.specs.declared.place.Place.{Place}
use Rattle.flow_tree.specs.declared.ty.Ident.{Ident}
use Rattle.flow_tree.specs.declared.fault.SourceFault.{SourceFault}
use Rattle.flow_tree.specs.declared.fault.SourceFault.TheVariants.{Refused, AcrossWait, OutOfMemory}
use Rattle.flow_tree.specs.Tree.{ExprTree, ExprTrees, ErrorType}
use Rattle.flow_tree.specs.Body.{IntoTree, WaitTree, ChangeTree, Body, End, BlockStmt, WhileStmt, ForStmt, LoopStmt, BreakStmt, ContinueStmt, ReturnStmt, ThrowStmt, TryStmt, ChooseStmt, DeclareStmt, AssignStmt, ModifyStmt, CallStmt, WaitStmt, Branches}
use Rattle.flow_tree.specs.Decls.{SlotTree}
use Rattle.flow_ast.specs.Slots.{body_slots, branch_slots}
use Rattle.flow_ast.specs.Typing.{or_else}
use Rattle.flow_rules.specs.declared.rule.SemanticRule.TheVariants.{WaitInFunction, BreakOutside}
use Rattle.flow_rules.specs.Least.{unless}
use Rattle.flow_rules.specs.Judged.{returned}
use Rattle.flow_rules.specs.Items.{Env, Refusal, item, with_states, with_var, in_loop, in_catch, declared, waited, behind, started, slot_names, fresh, test_fault, maybe_test, throw_fault, assign_fault, modify_fault, call_fault, declare_fault, wait_fault, body_refusal, branch_refusal}
use Rattle.flow_types.specs.WalkView.{bare, Grows, Says, Steps, StmtAnswer, PartAnswer, Leads, else_refusal, else_slots}
use Rattle.flow_types.proofs.Arms.{Shape, shape_answer, shape_block, shape_while, shape_loop, shape_choose, shape_item, then_answer, item_answer}
use Rattle.flow_types.proofs.Fails.{Fails, fails_first, fails_next, says_fails, leads_fails, part_fails, memory_fails, stmt_fails, shape_fails, if_or, shape_if_or, for_refusal, shape_for, try_refusal, shape_try, declare_steps, wait_steps, ForWalk, for_step, for_closed}

own_states : (e : Env) → e ≡ with_states e (slot_names [])
own_states e = ap (λ ss. record e { states = ss }) (sym (append-nil e.states))

-- an item that holds, and what stands behind it
after_item : (e new : Env) (i q : Option Refusal) (ss : List SlotTree) (u : Unit {0}) (r : Result (Unit {0}) SourceFault) → Says i (Ok u) → Leads e new q ss r → Leads e new (or_else i q) ss r
after_item e new i q ss u r h l = then_answer e e new i q [] ss r h (own_states e) l

pub block_leads : (e new : Env) (at : Place) (b : Body) (r : Result (Unit {0}) SourceFault) → Leads e new (body_refusal e b) (body_slots b) r → StmtAnswer e new (BlockStmt at b) r
block_leads e new at b r h = shape_answer e new (BlockStmt at b) (body_refusal e b) (body_slots b) r (shape_block e at b) h

-- an `if`
module _ (e new : Env) (at : Place) (t : ExprTree) (b : Body) (o : Option Body) where
  abbrev if_part : Option Refusal
  if_part = or_else (body_refusal e b) (else_refusal (behind e b) o)

  pub if_item : (x : SourceFault) → Says (item at (test_fault e.setting t)) (Err x) → StmtAnswer e new (if_or at t b o) (Err x)
  if_item x h =
      shape_fails e new (if_or at t b o) (or_else (item at (test_fault e.setting t)) if_part) (body_slots b ++ else_slots o) x (shape_if_or e at t b o)
      (fails_first (item at (test_fault e.setting t)) if_part x (says_fails (item at (test_fault e.setting t)) x h))

  pub if_then : (mid : Env) (u : Unit {0}) (x : SourceFault) → Says (item at (test_fault e.setting t)) (Ok u) → Leads e mid (body_refusal e b) (body_slots b) (Err x)
      → StmtAnswer e new (if_or at t b o) (Err x)
  if_then mid u x h l =
      shape_fails e new (if_or at t b o) (or_else (item at (test_fault e.setting t)) if_part) (body_slots b ++ else_slots o) x (shape_if_or e at t b o)
      (fails_next (item at (test_fault e.setting t)) if_part x h (fails_first (body_refusal e b) (else_refusal (behind e b) o) x (leads_fails e mid (body_refusal e b) (body_slots b) x l)))

  pub if_last : (mid : Env) (u v : Unit {0}) (r : Result (Unit {0}) SourceFault) → Says (item at (test_fault e.setting t)) (Ok u) → Leads e mid (body_refusal e b) (body_slots b) (Ok v)
      → Leads mid new (else_refusal mid o) (else_slots o) r → StmtAnswer e new (if_or at t b o) r
  if_last mid u v r h l m =
      shape_answer e new (if_or at t b o) (or_else (item at (test_fault e.setting t)) if_part) (body_slots b ++ else_slots o) r (shape_if_or e at t b o)
      (after_item e new (item at (test_fault e.setting t)) if_part (body_slots b ++ else_slots o) u r h
      (then_answer e mid new (body_refusal e b) (else_refusal (behind e b) o) (body_slots b) (else_slots o) r l.0 l.1 (subst (λ n. Leads mid new (else_refusal n o) (else_slots o) r) l.1 m)))

-- in a loop
unlooped : (e new : Env) (p : Option Refusal) (ss : List SlotTree) (r : Result (Unit {0}) SourceFault) → new.looped ≡ e.looped → Leads (in_loop e) (in_loop new) p ss r → Leads e new p ss r
unlooped e new p ss (Ok u) l h = (h.0, ap (λ b. record new { looped = b }) l ∙ ap (λ (n : Env). record n { looped = e.looped }) h.1)
unlooped e new p ss (Err (Refused rule at)) l h = h
unlooped e new p ss (Err (AcrossWait at declared wait)) l h = h
unlooped e new p ss (Err OutOfMemory) l h = h

pub loop_leads : (e inner new last : Env) (b : Body) (r : Result (Unit {0}) SourceFault) → inner ≡ in_loop e → last ≡ in_loop new → new.looped ≡ e.looped
    → Leads inner last (body_refusal inner b) (body_slots b) r → Leads e new (body_refusal (in_loop e) b) (body_slots b) r
loop_leads e inner new last b r i j l h =
    unlooped e new (body_refusal (in_loop e) b) (body_slots b) r l
    (subst (λ n. Leads (in_loop e) n (body_refusal (in_loop e) b) (body_slots b) r) j (subst (λ m. Leads m last (body_refusal m b) (body_slots b) r) i h))

pub while_item : (e new : Env) (at : Place) (t : ExprTree) (b : Body) (x : SourceFault) → Says (item at (test_fault e.setting t)) (Err x) → StmtAnswer e new (WhileStmt at t b) (Err x)
while_item e new at t b x h =
    shape_fails e new (WhileStmt at t b) (or_else (item at (test_fault e.setting t)) (body_refusal (in_loop e) b)) (body_slots b) x (shape_while e at t b)
    (fails_first (item at (test_fault e.setting t)) (body_refusal (in_loop e) b) x (says_fails (item at (test_fault e.setting t)) x h))

pub while_last : (e new : Env) (at : Place) (t : ExprTree) (b : Body) (u : Unit {0}) (r : Result (Unit {0}) SourceFault) → Says (item at (test_fault e.setting t)) (Ok u)
    → Leads e new (body_refusal (in_loop e) b) (body_slots b) r → StmtAnswer e new (WhileStmt at t b) r
while_last e new at t b u r h l =
    shape_answer e new (WhileStmt at t b) (or_else (item at (test_fault e.setting t)) (body_refusal (in_loop e) b)) (body_slots b) r (shape_while e at t b)
    (after_item e new (item at (test_fault e.setting t)) (body_refusal (in_loop e) b) (body_slots b) u r h l)

pub loop_last : (e new : Env) (at : Place) (b : Body) (r : Result (Unit {0}) SourceFault) → Leads e new (body_refusal (in_loop e) b) (body_slots b) r → StmtAnswer e new (LoopStmt at b) r
loop_last e new at b r l = shape_answer e new (LoopStmt at b) (body_refusal (in_loop e) b) (body_slots b) r (shape_loop e at b) l

-- a `for`
module _ (e new : Env) (at : Place) (i : Body) (t : Option ExprTree) (n b : Body) (x : SourceFault) where
  abbrev for_slots : List SlotTree
  for_slots = body_slots i ++ (body_slots n ++ body_slots b)

  abbrev for_test : Option Refusal
  for_test = item at (maybe_test (started e i).setting t)

  abbrev for_parts : Option Refusal
  for_parts = or_else (body_refusal (started e i) n) (body_refusal (in_loop (behind (started e i) n)) b)

  for_fails : Fails (for_refusal e at i t n b) x → StmtAnswer e new (ForStmt at i t n b) (Err x)
  for_fails h = shape_fails e new (ForStmt at i t n b) (for_refusal e at i t n b) for_slots x (shape_for e at i t n b) h

  pub for_init : (mid : Env) → PartAnswer e mid i (Err x) → StmtAnswer e new (ForStmt at i t n b) (Err x)
  for_init mid h = for_fails (fails_first (body_refusal e i) (or_else for_test for_parts) x (part_fails e mid i x h))

  pub for_item : (mid : Env) (u : Unit {0}) → PartAnswer e mid i (Ok u) → Says (item at (maybe_test mid.setting t)) (Err x) → StmtAnswer e new (ForStmt at i t n b) (Err x)
  for_item mid u h s =
      for_fails (fails_next (body_refusal e i) (or_else for_test for_parts) x h.0
      (fails_first for_test for_parts x (says_fails for_test x (subst (λ (m : Env). Says (item at (maybe_test m.setting t)) (Err x)) h.1 s))))

  pub for_step_err : (mid last : Env) (u v : Unit {0}) → PartAnswer e mid i (Ok u) → Says (item at (maybe_test mid.setting t)) (Ok v) → PartAnswer mid last n (Err x)
      → StmtAnswer e new (ForStmt at i t n b) (Err x)
  for_step_err mid last u v h s p =
      for_fails (fails_next (body_refusal e i) (or_else for_test for_parts) x h.0
      (fails_next for_test for_parts x (subst (λ (m : Env). item at (maybe_test m.setting t) ≡ None) h.1 s)
      (fails_first (body_refusal (started e i) n) (body_refusal (in_loop (behind (started e i) n)) b) x (subst (λ m. Fails (body_refusal m n) x) h.1 (part_fails mid last n x p)))))

  pub for_body_err : (mid cut last : Env) (u v : Unit {0}) → PartAnswer e mid i (Ok u) → Says (item at (maybe_test mid.setting t)) (Ok v) → body_refusal mid n ≡ None → cut ≡ behind mid n
      → Leads cut last (body_refusal (in_loop cut) b) (body_slots b) (Err x) → StmtAnswer e new (ForStmt at i t n b) (Err x)
  for_body_err mid cut last u v h s p is l =
      for_fails (fails_next (body_refusal e i) (or_else for_test for_parts) x h.0
      (fails_next for_test for_parts x (subst (λ (m : Env). item at (maybe_test m.setting t) ≡ None) h.1 s)
      (fails_next (body_refusal (started e i) n) (body_refusal (in_loop (behind (started e i) n)) b) x (subst (λ m. body_refusal m n ≡ None) h.1 p)
      (subst (λ m. Fails (body_refusal (in_loop (behind m n)) b) x) h.1
      (subst (λ m. Fails (body_refusal (in_loop m) b) x) is (leads_fails cut last (body_refusal (in_loop cut) b) (body_slots b) x l))))))

pub for_ok : (e e1 e2 e3 e4 new : Env) (at : Place) (i : Body) (t : Option ExprTree) (n b : Body) (u v w z y : Unit {0}) → PartAnswer e e1 i (Ok u) → Says (item at (maybe_test e1.setting t)) (Ok v)
    → PartAnswer e1 e2 n (Ok w) → Leads e3 e4 (body_refusal (in_loop e3) b) (body_slots b) (Ok z) → ForWalk e e1 e2 e3 e4 new i n b → StmtAnswer e new (ForStmt at i t n b) (Ok y)
for_ok e e1 e2 e3 e4 new at i t n b u v w z y p s q l f =
    let three = for_step e e1 e2 e3 e4 new i n b f in
    let test : item at (maybe_test (started e i).setting t) ≡ None = subst (λ (m : Env). item at (maybe_test m.setting t) ≡ None) p.1 s in
    let step : body_refusal (started e i) n ≡ None = subst (λ m. body_refusal m n ≡ None) p.1 q.0 in
    let body : body_refusal (in_loop (behind (started e i) n)) b ≡ None =
    subst (λ m. body_refusal (in_loop (behind m n)) b ≡ None) p.1 (subst (λ m. body_refusal (in_loop m) b ≡ None) three l.0) in
    let before : for_refusal e at i t n b ≡ None =
    ap (λ o. or_else o (or_else (item at (maybe_test (started e i).setting t)) (or_else (body_refusal (started e i) n) (body_refusal (in_loop (behind (started e i) n)) b)))) p.0
    ∙ ap (λ o. or_else o (or_else (body_refusal (started e i) n) (body_refusal (in_loop (behind (started e i) n)) b))) test
    ∙ ap (λ o. or_else o (body_refusal (in_loop (behind (started e i) n)) b)) step ∙ body in
    shape_answer e new (ForStmt at i t n b) (for_refusal e at i t n b) (body_slots i ++ (body_slots n ++ body_slots b)) (Ok y) (shape_for e at i t n b)
    (before, for_closed e e1 e2 e3 e4 new i n b f)

-- a `try`
module _ (e new : Env) (at : Place) (b : Body) (q : Place) (x : Ident) (h : Body) where
  abbrev catch_item : Option Refusal
  catch_item = item q (fresh e.setting (behind e b).states false x.name)

  abbrev catch_body : Option Refusal
  catch_body = body_refusal (in_catch (with_var (behind e b) x.name ErrorType)) h

  pub try_body : (mid : Env) (f : SourceFault) → Leads e mid (body_refusal e b) (body_slots b) (Err f) → StmtAnswer e new (TryStmt at b q x h) (Err f)
  try_body mid f l =
      shape_fails e new (TryStmt at b q x h) (try_refusal e b q x h) (body_slots b ++ body_slots h) f (shape_try e at b q x h)
      (fails_first (body_refusal e b) (or_else catch_item catch_body) f (leads_fails e mid (body_refusal e b) (body_slots b) f l))

  pub try_item : (mid : Env) (u : Unit {0}) (f : SourceFault) → Leads e mid (body_refusal e b) (body_slots b) (Ok u) → Says (item q (fresh mid.setting mid.states false x.name)) (Err f)
      → StmtAnswer e new (TryStmt at b q x h) (Err f)
  try_item mid u f l s =
      shape_fails e new (TryStmt at b q x h) (try_refusal e b q x h) (body_slots b ++ body_slots h) f (shape_try e at b q x h)
      (fails_next (body_refusal e b) (or_else catch_item catch_body) f l.0
      (fails_first catch_item catch_body f (says_fails catch_item f (subst (λ (m : Env). Says (item q (fresh m.setting m.states false x.name)) (Err f)) l.1 s))))

  pub try_last : (mid : Env) (u v : Unit {0}) (r : Result (Unit {0}) SourceFault) → Leads e mid (body_refusal e b) (body_slots b) (Ok u)
      → Says (item q (fresh mid.setting mid.states false x.name)) (Ok v)
      → Leads mid new (body_refusal (in_catch (with_var mid x.name ErrorType)) h) (body_slots h) r → StmtAnswer e new (TryStmt at b q x h) r
  try_last mid u v r l s k =
      shape_answer e new (TryStmt at b q x h) (try_refusal e b q x h) (body_slots b ++ body_slots h) r (shape_try e at b q x h)
      (then_answer e mid new (body_refusal e b) (or_else catch_item catch_body) (body_slots b) (body_slots h) r l.0 l.1
      (after_item mid new catch_item catch_body (body_slots h) v r (subst (λ (m : Env). item q (fresh m.setting m.states false x.name) ≡ None) l.1 s)
      (subst (λ (m : Env). Leads mid new (body_refusal (in_catch (with_var m x.name ErrorType)) h) (body_slots h) r) l.1 k)))

-- a `choose`
pub choose_item : (e new : Env) (at : Place) (bs : Branches) (x : SourceFault) → Says (item at (unless (not e.setting.plain) WaitInFunction)) (Err x) → StmtAnswer e new (ChooseStmt at bs) (Err x)
choose_item e new at bs x h =
    let i = item at (unless (not e.setting.plain) WaitInFunction) in
    shape_fails e new (ChooseStmt at bs) (or_else i (branch_refusal e bs)) (branch_slots bs) x (shape_choose e at bs) (fails_first i (branch_refusal e bs) x (says_fails i x h))

pub choose_last : (e new : Env) (at : Place) (bs : Branches) (u : Unit {0}) (r : Result (Unit {0}) SourceFault) → Says (item at (unless (not e.setting.plain) WaitInFunction)) (Ok u)
    → Leads e new (branch_refusal e bs) (branch_slots bs) r → StmtAnswer e new (ChooseStmt at bs) r
choose_last e new at bs u r h l =
    let i = item at (unless (not e.setting.plain) WaitInFunction) in
    shape_answer e new (ChooseStmt at bs) (or_else i (branch_refusal e bs)) (branch_slots bs) r (shape_choose e at bs) (after_item e new i (branch_refusal e bs) (branch_slots bs) u r h l)

-- a declaration, and a wait
pub declare_item : (e new : Env) (at : Place) (i : IntoTree) (v : Option ExprTree) (x : SourceFault) → Says (item at (declare_fault e.setting e.states i v)) (Err x)
    → StmtAnswer e new (DeclareStmt at i v) (Err x)
declare_item e new at i v x h =
    stmt_fails e new (DeclareStmt at i v) (item at (declare_fault e.setting e.states i v)) None x (λ k. (body_refusal (declared e i) k, refl))
    (says_fails (item at (declare_fault e.setting e.states i v)) x h)

pub declare_ok : (e new : Env) (at : Place) (i : IntoTree) (v : Option ExprTree) (u w : Unit {0}) → Says (item at (declare_fault e.setting e.states i v)) (Ok u) → new ≡ declared e i
    → StmtAnswer e new (DeclareStmt at i v) (Ok w)
declare_ok e new at i v u w h is = declare_steps e new at i v h is

pub wait_item : (e new : Env) (at : Place) (w : WaitTree) (x : SourceFault) → Says (item at (wait_fault e.setting e.states w)) (Err x) → StmtAnswer e new (WaitStmt at w) (Err x)
wait_item e new at w x h =
    stmt_fails e new (WaitStmt at w) (item at (wait_fault e.setting e.states w)) None x (λ k. (body_refusal (waited e w.into) k, refl)) (says_fails (item at (wait_fault e.setting e.states w)) x h)

pub wait_ok : (e new : Env) (at : Place) (w : WaitTree) (u v : Unit {0}) → Says (item at (wait_fault e.setting e.states w)) (Ok u) → new ≡ waited e w.into → StmtAnswer e new (WaitStmt at w) (Ok v)
wait_ok e new at w u v h is = wait_steps e new at w h is

pub memory_stmt : (e new : Env) (f : Body → Body) (x : SourceFault) → x ≡ OutOfMemory → StmtAnswer e new f (Err x)
memory_stmt e new f (Refused rule at) h = cc
memory_stmt e new f (AcrossWait at declared wait) h = cc
memory_stmt e new f OutOfMemory h = _

-- statements that are an item alone
only_item : (e : Env) (f : Body → Body) (before : Option Refusal) (r : Result (Unit {0}) SourceFault) → ((k : Body) → body_refusal e (f k) ≡ or_else before (body_refusal e k))
    → ((k : Body) → body_slots (f k) ≡ body_slots k) → started e (f End) ≡ behind e (f End) → Says before r → StmtAnswer e e f r
only_item e f before r refuses slots exact h = shape_answer e e f before [] r (shape_item e f before refuses slots exact) (item_answer e before r h)

module _ (e : Env) (at : Place) (r : Result (Unit {0}) SourceFault) where
  pub break_is : Says (item at (unless e.looped BreakOutside)) r → StmtAnswer e e (BreakStmt at) r
  break_is h = only_item e (BreakStmt at) (item at (unless e.looped BreakOutside)) r (λ k. refl) (λ k. refl) refl h

  pub continue_is : Says (item at (unless e.looped BreakOutside)) r → StmtAnswer e e (ContinueStmt at) r
  continue_is h = only_item e (ContinueStmt at) (item at (unless e.looped BreakOutside)) r (λ k. refl) (λ k. refl) refl h

  pub return_is : (v : Option ExprTree) → Says (item at (returned e.setting v e.returns)) r → StmtAnswer e e (ReturnStmt at v) r
  return_is v h = only_item e (ReturnStmt at v) (item at (returned e.setting v e.returns)) r (λ k. refl) (λ k. refl) refl h

  pub throw_is : (v : Option ExprTree) → Says (item at (throw_fault e.setting e.caught v)) r → StmtAnswer e e (ThrowStmt at v) r
  throw_is v h = only_item e (ThrowStmt at v) (item at (throw_fault e.setting e.caught v)) r (λ k. refl) (λ k. refl) refl h

  pub assign_is : (xs : List Ident) (v : ExprTree) → Says (item at (assign_fault e.setting xs v)) r → StmtAnswer e e (AssignStmt at xs v) r
  assign_is xs v h = only_item e (AssignStmt at xs v) (item at (assign_fault e.setting xs v)) r (λ k. refl) (λ k. refl) refl h

  pub modify_is : (xs : List Ident) (c : ChangeTree) → Says (item at (modify_fault e.setting xs c)) r → StmtAnswer e e (ModifyStmt at xs c) r
  modify_is xs c h = only_item e (ModifyStmt at xs c) (item at (modify_fault e.setting xs c)) r (λ k. refl) (λ k. refl) refl h

  pub call_stmt_is : (xs : List Ident) (es : ExprTrees) → Says (item at (call_fault e.setting xs es)) r → StmtAnswer e e (CallStmt at xs es) r
  call_stmt_is xs es h = only_item e (CallStmt at xs es) (item at (call_fault e.setting xs es)) r (λ k. refl) (λ k. refl) refl h
