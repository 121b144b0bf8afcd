-- By what it stands at, an actor may take its next step.
use Rattle.std.proofs.Common.{◌≡◌, ℕ, zero, suc, true, List, [], ◌∷◌, length, refl, sym, ap, subst, ◌∙◌}
use Rattle.std.specs.Prelude.{slice_get, ◌&&◌}
use Rattle.std.specs.List.{list_all}
use Rattle.std.specs.declared.option.Option.{Option}
use Rattle.std.specs.declared.option.Option.TheVariants.{None, Some}
use Rattle.flow_ast.specs.Typing.{is_there}
use Rattle.flow_tree.specs.Tree.{ExprTree, ExprTrees, TypeTree, returned_expr}
use Rattle.flow_tree.specs.declared.ty.Ident.{Ident}
use Rattle.flow_value.specs.Values.{RefValue, OutcomeTree, GoodOutcome, refs_of}
use Rattle.flow_class.specs.declared.class.Slotted.{Slotted}
use Rattle.flow_class.specs.declared.class.Slotted.TheVariants.{Slot, Local}
use Rattle.flow_class.specs.Classes.{SetInstr, EffectInstr, NewInstr, ActInstr, DropInstr, InstrTree, GotoLast, PassLast, TestLast, ChooseLast, ReturnLast, ThrowLast, LastTree, CallbackTree, BlockTree, ClassTree, RawTree}
use Rattle.flow_class.specs.Code.{type_at, Fetched, Body, Last, Nothing, fetch_in, fetch_at, fetch, callback_at}
use Rattle.flow_valid.specs.Named.{has_place, has_catcher, has_last, listed, path_place, base_place, expr_places, exprs_places, instr_places}
use Rattle.flow_valid.specs.Validity.{IsValid}
use Rattle.flow_numbered.specs.Numbered.{thing}
use Rattle.flow_meaning.specs.Cells.{Ref, Cell, Single, Stream, taken, outcome}
use Rattle.flow_meaning.specs.Requests.{Supply}
use Rattle.flow_meaning.specs.Process.{Run, Entry, Proc}
use Rattle.flow_meaning.specs.Evaluating.{evaluated, effect_in, value, values, base_of, before_last}
use Rattle.flow_meaning.specs.References.{refs_in, value_in}
use Rattle.flow_meaning.specs.Work.{pushed}
use Rattle.flow_meaning.specs.Step.{kept_by, view, on_core}
use Rattle.flow_meaning.specs.Class.{fetched, next_step, instruction, last, choose, operand_by, class_names}
use Rattle.flow_meaning.specs.Frame.{Frame, look, assign, spot_of}
use Rattle.flow_meaning.proofs.Shifts.{run_of, same_of}
use Rattle.flow_meaning.proofs.TaskShifts.{popped_at}
use Rattle.flow_heap_refinement.specs.FrameChanges.{HasPlace}
use Rattle.flow_heap_refinement.specs.Holds.{AllThere}
use Rattle.flow_progress.specs.Places.{class_vars, HoldsTypes}
use Rattle.flow_progress.specs.Rules.{KeepsRules, ClassRules}
use Rattle.flow_progress.specs.Asking.{AsksFit}
use Rattle.flow_progress.specs.Fitting.{typed_by, CellFits, OperandsFit}
use Rattle.flow_progress.specs.Written.{heads}
use Rattle.flow_progress.proofs.Asks.{held_some, next_fits}
use Rattle.flow_progress.proofs.CellStates.{type_there}
use Rattle.flow_progress.proofs.Functions.{functions_kept}
use Rattle.flow_progress.proofs.KeptClasses.{class_rules}
use Rattle.flow_progress.proofs.Memories.{within_of}
use Rattle.flow_progress.proofs.StepFits.{Actor, actor_here, cells_seen}
use Rattle.flow_progress.proofs.Tops.{first_true, second_true}
use Rattle.flow_invariants.proofs.Unmarked.Groups.{group_begins}
use Rattle.flow_operation_refinement.specs.Waiting.{Waitable}
use Rattle.flow_step_refinement.specs.Deciding.{GivesThere}
use Rattle.flow_step_refinement.specs.Assigning.{CanAssignAll}
use Rattle.flow_step_refinement.specs.Choosing.{GivesOperand}
use Rattle.flow_step_refinement.specs.Decoding.{root_of, Rooted}
use Rattle.flow_step_refinement.specs.Referring.{HoldsThere, SetThere}
use Rattle.flow_step_refinement.specs.Executing.{AllKept, MayDoNext}
use Rattle.flow_step_refinement.proofs.Refers.{value_there, arguments_there}
use Rattle.flow_step_refinement.proofs.Effects.Fresh.{actor_free}
use Rattle.flow_burst_refinement.specs.Invariants.Invariant.{ProcessInvariant}
use Rattle.flow_burst_refinement.proofs.Invariants.Homes.{named_block}
use Rattle.flow_burst_refinement.proofs.Invariants.Theres as there
use Rattle.flow_burst_refinement.proofs.Invariants.MayDo.{locals_there, both_parts}
use Rattle.flow_burst_refinement.proofs.Invariants.Off.{go_off}
use Rattle.flow_burst_refinement.specs.Enabled.Allowing as law
use Rattle.flow_burst_refinement.specs.Enabled.Allowing.{Running}

-- the places that an instruction of a valid class names are there
body_named : (c : ClassTree) (is : List InstrTree) (l : LastTree) (n : ℕ) (x : InstrTree) → fetch_in is l n ≡ Body x → list_all (λ (i : InstrTree). list_all (has_place c) (instr_places i)) is ≡ true
    → list_all (has_place c) (instr_places x) ≡ true
body_named c [] l zero x e h = cc
body_named c [] l (suc n) x e h = cc
body_named c (i ∷ is) l zero x e h =
    let s : i ≡ x = cc in
    subst (λ y. list_all (has_place c) (instr_places y) ≡ true) s (first_true (list_all (has_place c) (instr_places i)) (list_all (λ (i : InstrTree). list_all (has_place c) (instr_places i)) is) h)
body_named c (i ∷ is) l (suc n) x e h =
    body_named c is l n x e (second_true (list_all (has_place c) (instr_places i)) (list_all (λ (i : InstrTree). list_all (has_place c) (instr_places i)) is) h)

pub instr_named : (r : RawTree) → IsValid r → (k : ℕ) (c : ClassTree) → slice_get r.classes k ≡ Some c → (b n : ℕ) (x : InstrTree) → fetch c b n ≡ Body x
    → list_all (has_place c) (instr_places x) ≡ true
instr_named r valid k c at b n x e = by_block (slice_get c.blocks b) refl e
  where
    by_block : (o : Option BlockTree) → slice_get c.blocks b ≡ o → fetch_at o n ≡ Body x → list_all (has_place c) (instr_places x) ≡ true
    by_block None is e = cc
    by_block (Some d) is e =
        let all = list_all (λ (i : InstrTree). list_all (has_place c) (instr_places i)) d.body in
        body_named c d.body d.last n x e (second_true (has_catcher c d.catcher) all (first_true (has_catcher c d.catcher && all) (has_last c d.last) (named_block r valid k c at b d is)))

-- a place that the class has is one of its frames
pub place_there : (rs : _) (typed : ℕ → TypeTree → Type 0) (f : Frame) (q : Slotted) → HoldsTypes rs typed f.code f.mem → is_there (type_at f.code q) ≡ true → HasPlace f q
place_there rs typed f q h e = by_type (type_at f.code q) refl e
  where
    as_place : (q : Slotted) (t : TypeTree) → type_at f.code q ≡ Some t → HasPlace f q
    as_place (Slot n) t at = within_of f.code f.mem (Slot n) t h.slots h.locals at
    as_place (Local n) t at = within_of f.code f.mem (Local n) t h.slots h.locals at

    by_type : (o : Option TypeTree) → type_at f.code q ≡ o → is_there o ≡ true → HasPlace f q
    by_type None at e = cc
    by_type (Some t) at e = as_place q t at

pub root_listed : (c : ClassTree) (path : List Ident) (q : Slotted) → root_of path ≡ Some q → list_all (has_place c) (path_place path) ≡ true → has_place c q ≡ true
root_listed c [] q e h = cc
root_listed c (x ∷ xs) q e h =
    first_true (has_place c q) (list_all (has_place c) []) (subst (λ o. list_all (has_place c) (listed o) ≡ true) e h)

module _ (r : RawTree) (w : Supply) (p : Proc Frame) (i : ℕ) (e : Entry) (f : Frame) (run : Running r p i e f) where
  abbrev full : Proc Frame
  full = on_core (pushed (Run i)) p

  abbrev k : ProcessInvariant r full
  k = run.kept

  actor : Actor r k.types i (Run i) p.core.tasks full.core full.actors
  actor = actor_here r k.types i (Run i) p.core.tasks full.core full.actors k.orderly refl (run_of i) k.fits

  -- its entry and its frame are these
  same_entry : actor.entry ≡ e
  same_entry = same_of (sym actor.at ∙ run.entered)

  same_frame : actor.frame ≡ f
  same_frame = same_of (sym actor.stands ∙ run.acting)

  pub standing : Rattle.flow_progress.specs.Fitting.Standing r k.types f
  standing = subst (Rattle.flow_progress.specs.Fitting.Standing r k.types) same_frame actor.doing.1

  pub class_is : slice_get r.classes e.class ≡ Some f.code
  class_is =
      ap (λ (y : Entry). slice_get r.classes y.class) (sym same_entry) ∙ actor.owner.is ∙ ap (λ c. Some c) (sym actor.doing.0 ∙ ap (λ (y : Frame). y.code) same_frame)

  operands : OperandsFit r k.types f 0 e.operands
  operands = subst (λ (y : Entry). OperandsFit r k.types f 0 y.operands) same_entry (subst (λ y. OperandsFit r k.types y 0 actor.entry.operands) same_frame actor.doing.2)

  pub rules : ClassRules r (heads r)
  rules = class_rules r run.whole.valid.valid run.whole.valid.written (functions_kept r run.whole.valid.valid run.whole.valid.functions)

  own_rules : KeepsRules r (heads r) f.code (class_vars f.code)
  own_rules = rules.classes e.class f.code class_is

  -- what stands in its places and in cells refers to what is there
  pub holds_there : HoldsThere p f
  holds_there q v at =
      let x = held_some r.records (typed_by k.types) f.code f.mem q v standing.holds at in there.value_there r k.types p k.fits.cells v x.0 x.1

  set_there : SetThere p
  set_there n v at = by_cell (thing p.core.cells n) refl at
    where
      by_cell : (o : Option Cell) → thing p.core.cells n ≡ o → outcome o ≡ Some (GoodOutcome v) → AllThere p (refs_of v)
      by_cell None is e = cc
      by_cell (Some (Single None ws)) is e = cc
      by_cell (Some (Stream q d x)) is e = cc
      by_cell (Some (Single (Some o) ws)) is e =
          let t = type_there r k.types n (Single (Some o) ws) (k.types n) (subst (Rattle.flow_progress.specs.Fitting.CellAt r k.types (k.types n)) is (k.fits.cells n)) in
          let same : o ≡ GoodOutcome v = cc in
          let fits = subst (λ z. Rattle.flow_progress.specs.Asking.OutcomeFits r.records (typed_by k.types) z t.2.0) same t.2.2 in
          there.value_there r k.types p k.fits.cells v t.2.0 fits

  pub gives_there : (t : ExprTree) → GivesThere p (value (class_names r) (view w i p.core) (look f.mem) t)
  gives_there t = value_there r p f w i t holds_there set_there

  -- what it asks for fits
  pub asks_fit : (o : Fetched) → fetch f.code f.block f.instr ≡ o → AsksFit r (class_vars f.code) (typed_by k.types) f.code (kept_by (thing p.core.entries i))
      (fetched (class_names r) (view w i p.core) f o)
  asks_fit o at =
      subst (λ z. AsksFit r (class_vars f.code) (typed_by k.types) f.code (kept_by (thing p.core.entries i)) (fetched (class_names r) (view w i p.core) f z)) at
      (next_fits r (heads r) (class_vars f.code) (typed_by k.types) (view w i p.core) f own_rules rules.functions (cells_seen r k.types w i full.core full.actors k.fits) standing)

  can_assign : (path : List Ident) (t : ExprTree) → fetch f.code f.block f.instr ≡ Body (SetInstr path t) → CanAssignAll r.records f path (value (class_names r) (view w i p.core) (look f.mem) t)
  can_assign path t at v left is none =
      let fit = asks_fit (Body (SetInstr path t)) at in
      let one = subst (λ z. AsksFit r (class_vars f.code) (typed_by k.types) f.code (kept_by (thing p.core.entries i))
      (evaluated f z (λ u left. Rattle.flow_meaning.specs.Evaluating.given f (assign r.records f.mem path u)
      (Rattle.flow_meaning.specs.Class.placed (class_names r) (view w i p.core) f left)))) is fit in
      let two = subst (λ z. AsksFit r (class_vars f.code) (typed_by k.types) f.code (kept_by (thing p.core.entries i))
      (Rattle.flow_meaning.specs.Evaluating.given f z (Rattle.flow_meaning.specs.Class.placed (class_names r) (view w i p.core) f left))) none one in two.0

  rooted : (path : List Ident) (t : ExprTree) → fetch f.code f.block f.instr ≡ Body (SetInstr path t) → Rooted f path
  rooted path t at q root =
      let named = instr_named r run.whole.valid.valid e.class f.code class_is f.block f.instr (SetInstr path t) at in
      place_there r.records (typed_by k.types) f q standing.holds (root_listed f.code path q root (both_parts (has_place f.code) (path_place path) (expr_places t) named).0)

  -- what a call statement is on begins with a place of the frame
  pub call_rooted : (path : List Ident) (es : ExprTrees) → fetch f.code f.block f.instr ≡ Body (ActInstr path es) → Rooted f (base_of path)
  call_rooted [] es at q root = cc
  call_rooted (y ∷ []) es at q root = cc
  call_rooted (y ∷ z ∷ ys) es at q root =
      let named = instr_named r run.whole.valid.valid e.class f.code class_is f.block f.instr (ActInstr (y ∷ z ∷ ys) es) at in
      let base = (both_parts (has_place f.code) (base_place (y ∷ z ∷ ys)) (exprs_places es) named).0 in
      place_there r.records (typed_by k.types) f q standing.holds (root_listed f.code (y ∷ before_last z ys) q root base)

  -- the next operand of a wait may wait at its cell
  may_wait : (g : ℕ) (b : CallbackTree) → fetch f.code f.block f.instr ≡ Last (ChooseLast g) → callback_at f.code g (length e.operands) ≡ Some b → effect_in (class_names r) b.operand ≡ None
      → GivesOperand p (value (class_names r) (view w i p.core) (look f.mem) b.operand)
  may_wait g b at next none kd n left is =
      let spot = spot_of f.code g in
      let kept = kept_by (thing p.core.entries i) in
      let fit = asks_fit (Last (ChooseLast g)) at in
      let one = subst (λ z. AsksFit r (class_vars f.code) (typed_by k.types) f.code kept (choose (class_names r) (view w i p.core) f spot z))
      (ap (λ o. callback_at f.code g (kept_by o)) run.entered ∙ next) fit in
      let two = subst (λ z. AsksFit r (class_vars f.code) (typed_by k.types) f.code kept (operand_by (class_names r) (view w i p.core) f spot b.operand z)) none one in
      let three = subst (λ z. AsksFit r (class_vars f.code) (typed_by k.types) f.code kept
      (evaluated f z (λ u left. Rattle.flow_meaning.specs.Class.operand_ref (class_names r) (view w i p.core) f left spot u))) is two in
      let c = there.operand_cell r k.types p k.fits.cells kd n three.0.1.1.callback.next three.0.1.1.takes
      (subst (Rattle.flow_progress.specs.Fitting.Fits r k.types (RefValue kd n)) three.0.1.1.type three.0.1.2) in
      record { cell = c.cell; takeable = record { at = c.at; there = there.content_there r k.types p k.fits.cells c.cell c.type c.fits }; kind = c.kind; there = c.there }

  contents : (n : ℕ) (c : Cell) (o : OutcomeTree) → thing p.core.cells n ≡ Some c → taken c ≡ Some o → AllThere p (refs_in (value_in o))
  contents n c o at is =
      let t = type_there r k.types n c (k.types n) (subst (Rattle.flow_progress.specs.Fitting.CellAt r k.types (k.types n)) at (k.fits.cells n)) in there.content_there r k.types p k.fits.cells c t.0
      t.2 o is

  all_waitable : (n : ℕ) (qs : List Ref) → OperandsFit r k.types f n qs → Waitable p.core.cells qs
  all_waitable n [] h = tt
  all_waitable n (q ∷ qs) h =
      let c = there.operand_cell r k.types p k.fits.cells q.0 q.1 h.0.1.callback.next h.0.1.takes (subst (Rattle.flow_progress.specs.Fitting.Fits r k.types (RefValue q.0 q.1)) h.0.1.type h.0.2) in
      ((c.cell, c.at, c.kind), all_waitable (suc n) qs h.1)

  all_kept : (g : ℕ) → fetch f.code f.block f.instr ≡ Last (ChooseLast g) → callback_at f.code g (length e.operands) ≡ None → AllKept r w p i e f
  all_kept g at none = by_operands e.operands refl
    where
      by_operands : (qs : List Ref) → e.operands ≡ qs → AllKept r w p i e f
      by_operands [] is =
          absurd (group_begins r run.whole.valid.valid e.class f.code class_is (run.whole.groups e.class f.code class_is) f.block f.instr g at
          (ap (λ qs. callback_at f.code g (length qs)) (sym is) ∙ none))
      by_operands (q ∷ qs) is = record { first = q; others = qs; operands = is; waitable = all_waitable 0 e.operands operands; contents = contents }

  by_fetched : (o : Fetched) → fetch f.code f.block f.instr ≡ o → MayDoNext r w p i e f o
  by_fetched (Body (SetInstr path t)) at = record { there = gives_there t; rooted = rooted path t at; can = can_assign path t at }
  by_fetched (Body (NewInstr q)) at =
      let named = instr_named r run.whole.valid.valid e.class f.code class_is f.block f.instr (NewInstr q) at in
      (place_there r.records (typed_by k.types) f q standing.holds (first_true (has_place f.code q) (list_all (has_place f.code) []) named), k.fits.numbered)
  by_fetched (Body (DropInstr ns)) at = locals_there f.code f ns standing.holds.locals (instr_named r run.whole.valid.valid e.class f.code class_is f.block f.instr (DropInstr ns) at)
  by_fetched (Body (EffectInstr path t)) at = tt
  by_fetched (Body (ActInstr path es)) at = record { rooted = call_rooted path es at; there = λ t is. gives_there t }
  by_fetched (Last (ReturnLast t)) at = gives_there (returned_expr t)
  by_fetched (Last (ChooseLast g)) at = record {
    go = go_off r full k (Run i) p.core.tasks refl i e run.entered (popped_at i full.core.left (Run i) p.core.tasks full.core k.orderly refl (run_of i)).rest;
    operand = λ b next none. may_wait g b at next none;
    kept = all_kept g at;
  }
  by_fetched (Last (GotoLast b)) at = tt
  by_fetched (Last (PassLast b)) at = tt
  by_fetched (Last (TestLast t a b)) at = tt
  by_fetched (Last (ThrowLast t)) at = tt
  by_fetched Nothing at = tt

pub step_allowed : law.StepAllowed
step_allowed r w p i e f run = by_fetched r w p i e f run (fetch f.code f.block f.instr) refl

pub values_there : law.ValuesThere
values_there r w p i e f run =
    (gives_there r w p i e f run, λ es. arguments_there r p f w i es (holds_there r w p i e f run) (set_there r w p i e f run))

pub making_allowed : law.MakingAllowed
making_allowed r p i e f run = record {
  cells = run.kept.fits.numbered;
  entries = run.kept.orderly.numbered;
  next = let x = actor_free (on_core (pushed (Run i)) p).core run.kept.tied.agree run.kept.orderly in record { waits = x.waits; keeps = x.keeps };
}
