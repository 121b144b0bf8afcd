-- An actor leaves its wait, one is cancelled, and a reference is lost, as the definitions have it.
use Rattle.std.proofs.Common.{◌≡◌, ℕ, ◌≤◌, Bool, true, false, List, [], ◌∷◌, ◌++◌, if◌then◌else◌, refl, sym, ap, ◌∙◌, subst, arith}
use Rattle.std.specs.Option.{option_map}
use Rattle.std.specs.declared.option.Option.{Option}
use Rattle.std.specs.declared.option.Option.TheVariants.{None, Some}
use Rattle.flow_class.specs.Classes.{RawTree}
use Rattle.flow_trace.specs.declared.line.Line.{Line}
use Rattle.flow_numbered.specs.Numbered as stored
use Rattle.flow_cancel.specs.declared.actors.Note.{Note}
use Rattle.flow_cancel.specs.declared.task.Dropped.{Dropped}
use Rattle.flow_cancel.specs.declared.task.Dropped.TheVariants as after
use Rattle.flow_cancel.specs.Heap.{HeapTree, actor_id}
use Rattle.flow_cancel.specs.Heap as heap
use Rattle.flow_cancel.specs.Dropping.{Lost, dropped}
use Rattle.flow_cancel.specs.Dropping as dropping
use Rattle.flow_cancel.specs.Leaving.{withdrawn, cancelled}
use Rattle.flow_numbered.specs.Numbered.{Numbered, thing}
use Rattle.flow_meaning.specs.Cells.{PromiseSide}
use Rattle.flow_meaning.specs.Process.{Entry, Core, Proc}
use Rattle.flow_meaning.specs.References.{Scan, in_entries}
use Rattle.flow_meaning.specs.Lines.{cancel_line}
use Rattle.flow_meaning.specs.Work.{writes, cancel, cancel_by, cancel_owner, owner}
use Rattle.flow_meaning.specs.Step.{on_core}
use Rattle.flow_meaning.specs.Frame.{Frame}
use Rattle.flow_heap_refinement.specs.Representing.{cell_number}
use Rattle.flow_heap_refinement.specs.Rested.{Sorted}
use Rattle.flow_heap_refinement.specs.Acting.{At}
use Rattle.flow_heap_refinement.specs.Leaving.{left_wait}
use Rattle.flow_heap_refinement.specs.Holds.{Holds, MayWait}
use Rattle.flow_heap_refinement.proofs.Actors.{by_note, by_entry}
use Rattle.flow_heap_refinement.proofs.Owners.{noted_result, result_noted, note_found, note_unfound, entry_found, entry_unfound, one_owner}
use Rattle.flow_heap_refinement.proofs.Further.{wait_left, actor_cancelled}
use Rattle.flow_steps.specs.declared.process.Process.{Process}
use Rattle.flow_steps.specs.Doing.{stopped}
use Rattle.flow_steps.specs.Holding.{cancelled_if}
use Rattle.flow_operation_refinement.specs.Matching.{told, ProcessRepresents, Sound}
use Rattle.flow_operation_refinement.specs.Working as law
use Rattle.flow_operation_refinement.specs.Working.{Sendable}
use Rattle.flow_operation_refinement.proofs.Working.{changed, no_more}

-- a cancelled actor changes neither turns nor the halt, and one line more is written
cancelled_lines : (b : Bool) (i : ℕ) (e : Entry) (c : Core) → (cancel_by b i e c).lines ≡ c.lines
cancelled_lines true i e c = refl
cancelled_lines false i e c = refl

cancelled_left : (b : Bool) (i : ℕ) (e : Entry) (c : Core) → (cancel_by b i e c).left ≡ c.left
cancelled_left true i e c = refl
cancelled_left false i e c = refl

cancelled_halt : (b : Bool) (i : ℕ) (e : Entry) (c : Core) → (cancel_by b i e c).halted ≡ c.halted
cancelled_halt true i e c = refl
cancelled_halt false i e c = refl

module _ (r : RawTree) (ls : List Line) (x : Scan) (m : Process) (p : Proc Frame) where
  pub actor_departed : law.ActorDeparted r ls x m p
  actor_departed i s w at n = changed r ls x x m p (on_core (left_wait i at.entry) p) (withdrawn i m.heap) s (wait_left r m.heap p x i s.holds w at n) refl refl refl

  pub actor_stopped : law.ActorStopped r ls x m p
  actor_stopped i e s none w at = record {
    holds = subst (λ y. Holds r x (cancelled i m.heap) (on_core (cancel i y) p)) same (actor_cancelled r m.heap p x i s.holds w b);
    left = cancelled_left e.suspended i e (writes (cancel_line i) p.core) ∙ s.left;
    lines = cancelled_lines e.suspended i e (writes (cancel_line i) p.core)
        ∙ ap (λ k. k ++ cancel_line i ∷ []) (s.lines ∙ ap (λ a. ls ++ told a) none ∙ no_more ls);
    unspent = s.unspent;
    goes = cancelled_halt e.suspended i e (writes (cancel_line i) p.core) ∙ s.goes;
  }
    where
      b : At r m.heap p i
      b = by_entry r (stored.thing m.heap.actors.things i) (stored.thing m.heap.frames.things i) (thing p.core.entries i) (thing p.actors i) e at (s.holds.shows.actors i)

      same : b.entry ≡ e
      same = let y = b.entered in cc (y, at)

-- the actor of a result in memory is that in the process
abbrev pub SameOwner : Numbered Entry → Dropped → Option (ℕ × Entry) → Type 0
SameOwner es after.Nothing None = Unit {0}
SameOwner es (after.Cancel a) (Some y) = (a ≡ actor_id y.0) × (thing es y.0 ≡ Some y.1)
SameOwner es _ _ = ⊥

module _ (r : RawTree) (h : HeapTree) (p : Proc Frame) (x : Scan) (hs : Holds r x h p) (sound : Sound p) (sorted : Sorted h) (k : ℕ) where
  person : (i : ℕ) (n : Note) → stored.thing h.actors.things i ≡ Some n → At r h p i
  person i n e = by_note r (stored.thing h.actors.things i) (stored.thing h.frames.things i) (thing p.core.entries i) (thing p.actors i) n e (hs.shows.actors i)

  acting : (i : ℕ) (e : Entry) → thing p.core.entries i ≡ Some e → At r h p i
  acting i e f = by_entry r (stored.thing h.actors.things i) (stored.thing h.frames.things i) (thing p.core.entries i) (thing p.actors i) e f (hs.shows.actors i)

  few : (i : ℕ) (e : Entry) → thing p.core.entries i ≡ Some e → e.result ≡ Some k → in_entries PromiseSide k p.core.entries ≤ 1
  few i e f g = let a = (sound.owned.result i k e f g).1 in omega (arith, a)

  by_mark : (i : ℕ) (n : Note) (e : Entry) → stored.thing h.actors.things i ≡ Some n → thing p.core.entries i ≡ Some e → e.result ≡ Some k → (b : Bool) → n.marked ≡ b → e.marked ≡ b
      → (y : Option (ℕ × Entry)) → owner k p.core.entries ≡ y → SameOwner p.core.entries (dropping.cancel_if_not i (Some n)) y
  by_mark i n e ni ei ek true nm em None u = subst (λ b. SameOwner p.core.entries (if b then after.Nothing else after.Cancel (actor_id i)) None) (sym nm) tt
  by_mark i n e ni ei ek true nm em (Some y) u =
      let g = entry_found k 0 p.core.started y p.core.entries sound.entries u in
      let same : i ≡ y.0 = one_owner k i y.0 e y.1 p.core.entries (few i e ei ek) ei g.0 ek g.1 in
      let f : e ≡ y.1 = cc (subst (λ j. thing p.core.entries j ≡ Some e) same ei, g.0) in absurd (cc (em, g.2, f))
  by_mark i n e ni ei ek false nm em None u = let g = entry_unfound k i e p.core.entries u ei ek in absurd (cc (em, g))
  by_mark i n e ni ei ek false nm em (Some y) u =
      let g = entry_found k 0 p.core.started y p.core.entries sound.entries u in
      let same : i ≡ y.0 = one_owner k i y.0 e y.1 p.core.entries (few i e ei ek) ei g.0 ek g.1 in
      subst (λ b. SameOwner p.core.entries (if b then after.Nothing else after.Cancel (actor_id i)) (Some y)) (sym nm) (ap actor_id same, g.0)

  by_owner : (o : Option ℕ) → heap.owner k h.actors.things ≡ o → (y : Option (ℕ × Entry)) → owner k p.core.entries ≡ y
      → SameOwner p.core.entries (dropping.cancel_owner h.actors.things o) y
  by_owner None e None f = tt
  by_owner None e (Some y) f =
      let g = entry_found k 0 p.core.started y p.core.entries sound.entries f in
      let a = acting y.0 y.1 g.0 in
      let same : a.entry ≡ y.1 = let b = a.entered in cc (b, g.0) in
      let u = note_unfound k y.0 a.note h.actors.things e a.noted in
      let v = result_noted k a.note.result (sym a.same.result ∙ ap (λ (z : Entry). z.result) same ∙ g.1) in absurd (cc (u, v))
  by_owner (Some i) e y f =
      let g = note_found k i 0 h.actors.greatest h.actors.things sorted.actors e in
      let a = person i g.0 g.1 in
      let same : a.note ≡ g.0 = let b = a.noted in let c = g.1 in cc (b, c) in
      let ek = a.same.result ∙ ap (λ (z : Note). option_map cell_number z.result) same ∙ noted_result k g.0.result g.2 in
      subst (λ z. SameOwner p.core.entries (dropping.cancel_if_not i z) y) (sym g.1)
      (by_mark i g.0 a.entry g.1 a.entered ek g.0.marked refl (a.same.marked ∙ ap (λ (z : Note). z.marked) same) y f)

  pub same_owner : SameOwner p.core.entries (dropping.cancel_owner h.actors.things (heap.owner k h.actors.things)) (owner k p.core.entries)
  same_owner = by_owner (heap.owner k h.actors.things) refl (owner k p.core.entries) refl

module _ (r : RawTree) (ls : List Line) (x : Scan) (m : Process) (p : Proc Frame) where
  cancelled_same : (d : Dropped) (y : Option (ℕ × Entry)) → SameOwner p.core.entries d y → ProcessRepresents r ls x m p → m.asked ≡ None → MayWait p.core
      → ProcessRepresents r ls x (cancelled_if d m) (on_core (cancel_owner y) p)
  cancelled_same after.Nothing None o s none w = s
  cancelled_same (after.Cancel a) (Some y) o s none w =
      subst (λ b. ProcessRepresents r ls x (stopped b.0 m) (on_core (cancel y.0 y.1) p)) (sym o.0) (actor_stopped r ls x m p y.0 y.1 s none w o.1)
  cancelled_same after.Nothing (Some y) o s none w = absurd o
  cancelled_same (after.Cancel a) None o s none w = absurd o
  cancelled_same after.Freed y o s none w = absurd o
  cancelled_same after.Broken y o s none w = absurd o
  cancelled_same after.PortFreed y o s none w = absurd o

  pub owner_stopped : law.OwnerStopped r ls x m p
  owner_stopped k s none sound sorted =
      cancelled_same (dropping.cancel_owner m.heap.actors.things (heap.owner k m.heap.actors.things)) (owner k p.core.entries)
      (same_owner r m.heap p x s.holds sound sorted k) s none sound.waits
