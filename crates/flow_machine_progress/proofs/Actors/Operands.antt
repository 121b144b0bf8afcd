-- An operand that is kept, and one that is ready, finds what it looks for.
use Rattle.std.proofs.Common.{◌≡◌, ◌≤◌, ℕ, suc, Bool, true, false, List, [], ◌∷◌, map, inl, inr, if◌then◌else◌, refl, sym, ap, ◌∙◌, subst, arith}
use Rattle.std.specs.declared.option.Option.TheVariants.{Some}
use Rattle.flow_value.specs.declared.value.Kind.{Kind}
use Rattle.flow_value.specs.declared.value.Value.{Value}
use Rattle.flow_value.specs.Values.{OutcomeTree}
use Rattle.flow_numbered.specs.Numbered as stored
use Rattle.flow_class.specs.Classes.{RawTree}
use Rattle.flow_code.specs.declared.class.Group.{Group}
use Rattle.flow_code.specs.declared.class.Last.TheVariants as last
use Rattle.flow_code.specs.View.{group_numbered}
use Rattle.flow_frame.specs.declared.held.Held.{Held}
use Rattle.flow_frame.specs.Frames.{FrameTree}
use Rattle.flow_cancel.specs.declared.actors.Note.{Note}
use Rattle.flow_cancel.specs.Heap.{HeapTree, cell_id}
use Rattle.flow_numbered.specs.Numbered.{thing}
use Rattle.flow_meaning.specs.Cells.{Ref, Cell, Single, Stream, taken}
use Rattle.flow_meaning.specs.Process.{Proc}
use Rattle.flow_meaning.specs.References.{Scan, refs_in, value_in}
use Rattle.flow_meaning.specs.Frame.{Frame}
use Rattle.flow_heap_refinement.specs.Representing.{held_from}
use Rattle.flow_heap_refinement.specs.Losing.{RightCell}
use Rattle.flow_heap_refinement.specs.Leaving.{wait_kind}
use Rattle.flow_heap_refinement.specs.Holds.{Holds, AllThere, hold}
use Rattle.flow_steps.specs.declared.frames.ControlPoint.{ControlPoint}
use Rattle.flow_steps.specs.Waiting.{ready_at, first_ready}
use Rattle.flow_steps.specs.StuckWaits.{NoBranchOf, no_wait, no_group, before_first, ReadyStuck, KeepsStuck, finished, no_frame, when_ready}
use Rattle.flow_operation_refinement.specs.Taking.{Takeable}
use Rattle.flow_operation_refinement.specs.Waiting.{Waitable}
use Rattle.flow_operation_refinement.proofs.Takings.{all_frames}
use Rattle.flow_machine_progress.proofs.Lookups.References.{some_none}
use Rattle.flow_machine_progress.proofs.Lookups.Taking.{taken_by}

-- An actor that stands at the wait of a group: it is unfinished, and its frame is there.
pub record Waiting (h : HeapTree) (s : ControlPoint) (number : ℕ) (group : Group) : Type 0 where
  pub note : Note
  pub frame : FrameTree Value
  pub noted : stored.thing h.actors.things s.actor.0 ≡ Some note
  pub framed : stored.thing h.frames.things s.actor.0 ≡ Some frame
  pub waits : s.block.now.last ≡ last.Choose number
  pub of_number : group_numbered number s.class.now.groups.items ≡ Some group

-- it does so where a reference counts
pub waiting_held : (kd : Kind) (k : ℕ) (h : HeapTree) (s : ControlPoint) (number : ℕ) (group : Group) → Waiting h s number group → Waiting (hold kd k h) s number group
waiting_held kd k h s number group w =
    let same = all_frames ((kd, k) ∷ []) h in record {
      note = w.note;
      frame = w.frame;
      noted = ap (λ (z : stored.Store Note). stored.thing z.things s.actor.0) same.1 ∙ w.noted;
      framed = ap (λ (z : stored.Store (FrameTree Value)). stored.thing z.things s.actor.0) same.0 ∙ w.framed;
      waits = w.waits;
      of_number = w.of_number;
    }

module _ (r : RawTree) (x : Scan) (h : HeapTree) (p : Proc Frame) (s : ControlPoint) (number : ℕ) (group : Group) (holds : Holds r x h p) (w : Waiting h s number group) where
  same_wait : (g : ℕ) → s.block.now.last ≡ last.Choose g → number ≡ g
  same_wait g e = let a = w.waits in cc (a, e)

  branch_there : (callback : ℕ) → group.first ≤ callback → NoBranchOf s callback → ⊥
  branch_there callback l (no_wait none) = none number w.waits
  branch_there callback l (no_group g at none) =
      let same = same_wait g at in
      let a = ap (λ k. group_numbered k s.class.now.groups.items) same in
      let b = w.of_number in cc (a, b, none)
  branch_there callback l (before_first g of at there below) =
      let same = same_wait g at in
      let is : of ≡ group = let a = ap (λ k. group_numbered k s.class.now.groups.items) same in let b = w.of_number in cc (a, b, there) in
      let first = ap (λ (z : Group). z.first) is in omega (arith, l, below, first)

  pub ready_found : (y : Held) (c : Cell) → group.first ≤ y.callback → Takeable p y.cell.0 c → ready_at y.cell.0 h ≡ true → ReadyStuck s y h → ⊥
  ready_found y c l takes ready (inl none) = branch_there y.callback l none
  ready_found y c l takes ready (inr (inl none)) = none number w.waits
  ready_found y c l takes ready (inr (inr (inl nothing))) = taken_by r x h p y.cell.0 c holds takes ready nothing
  ready_found y c l takes ready (inr (inr (inr none))) = some_none (sym w.framed ∙ none)

  pub keeps_found : (y : Held) (c : Cell) → group.first ≤ y.callback → Takeable p y.cell.0 c → KeepsStuck s y h → ⊥
  keeps_found y c l takes (finished none) = some_none (sym w.noted ∙ none)
  keeps_found y c l takes (no_frame none) = some_none (sym w.framed ∙ none)
  keeps_found y c l takes (when_ready ready stuck) = ready_found y c l takes ready stuck

-- The operands of an actor as its frame keeps them: the first that is ready, and their cells.
pub record FirstReady (p : Proc Frame) (h : HeapTree) (n : ℕ) (y : Held) : Type 0 where
  pub after : n ≤ y.callback
  pub ready : ready_at y.cell.0 h ≡ true
  pub cell : Cell
  pub takes : Takeable p y.cell.0 cell

-- what stands in cells refers to what is there
abbrev pub ContentsThere : Proc Frame → Type 0
ContentsThere p = (k : ℕ) (c : Cell) (o : OutcomeTree) → thing p.core.cells k ≡ Some c → taken c ≡ Some o → AllThere p (refs_in (value_in o))

pub first_found : (p : Proc Frame) (h : HeapTree) → ContentsThere p → (n : ℕ) (qs : List Ref) (y : Held) → Waitable p.core.cells qs → first_ready h (held_from n qs) ≡ Some y
    → FirstReady p h n y
first_found p h there n [] y w e = absurd (cc (e))
first_found p h there n (q ∷ qs) y w e = by_test (ready_at q.1 h) refl e (first_found p h there (suc n) qs y w.1)
  where
    by_test : (b : Bool) → ready_at q.1 h ≡ b → (if b then Some (record { callback = n; cell = cell_id q.1 }) else first_ready h (held_from (suc n) qs)) ≡ Some y
        → (first_ready h (held_from (suc n) qs) ≡ Some y → FirstReady p h (suc n) y) → FirstReady p h n y
    by_test true is f rest =
        let same : record { callback = n; cell = cell_id q.1 } ≡ y = cc (f) in
        subst (FirstReady p h n) same (record { after = omega arith; ready = is; cell = w.0.0; takes = record { at = w.0.1; there = λ o z. there q.1 w.0.0 o w.0.1 z } })
    by_test false is f rest =
        let a = rest f in
        let b = a.after in record { after = omega (arith, b); ready = a.ready; cell = a.cell; takes = a.takes }

pub cells_kept : (n : ℕ) (qs : List Ref) → map (λ (q : Ref). q.1) qs ≡ map (λ (y : Held). y.cell.0) (held_from n qs)
cells_kept n [] = refl
cells_kept n (q ∷ qs) = ap (λ ks. q.1 ∷ ks) (cells_kept (suc n) qs)

waits_right : (c : Cell) → RightCell (wait_kind (Some c)) c
waits_right (Single content ws) = tt
waits_right (Stream queue end w) = tt

pub operands_there : (p : Proc Frame) (qs : List Ref) → Waitable p.core.cells qs → AllThere p qs
operands_there p [] w = tt
operands_there p (q ∷ qs) w =
    (record { cell = w.0.0; at = w.0.1; right = subst (λ kd. RightCell kd w.0.0) (sym w.0.2) (waits_right w.0.0) }, operands_there p qs w.1)
