-- What the heap of a process tells is what is seen of the actors beside its frames.
use Rattle.std.proofs.Common.{◌≡◌, ℕ, true, false, List, [], ◌∷◌, ◌++◌, map, refl, sym, ap, ap₂, subst, ◌∙◌}
use Rattle.std.specs.List.{flat_map}
use Rattle.std.specs.declared.option.Option.{Option}
use Rattle.std.specs.declared.option.Option.TheVariants.{None, Some}
use Rattle.flow_base.specs.declared.place.Place.{Place}
use Rattle.flow_tree.specs.Decls.{ProgramTree}
use Rattle.flow_value.specs.declared.value.Value.{Value}
use Rattle.flow_class.specs.Classes.{RawTree}
use Rattle.flow_numbered.specs.Numbered as stored
use Rattle.flow_numbered.specs.Numbered.{Numbered, thing}
use Rattle.flow_frame.specs.Frames.{FrameTree}
use Rattle.flow_cancel.specs.Heap.{HeapTree}
use Rattle.flow_heapstate.specs.State.{actor_part, parts_of}
use Rattle.flow_meaning.specs.Frame.{Frame}
use Rattle.flow_meaning.specs.Items.{Actor}
use Rattle.flow_meaning.specs.Law.{BothOrNone, AtRest, Related}
use Rattle.flow_meaning.specs.Orderly.{Phase, Waiting, is_suspended}
use Rattle.flow_meaning.specs.Process.{Entry, Proc}
use Rattle.flow_meaning.proofs.Posture.{phase_waits}
use Rattle.flow_heap_refinement.specs.Representing.{Represents, ActorRepresents, nobody, somebody, Somebody, FrameRepresents, stands, ended}
use Rattle.flow_heap_refinement.specs.Rested.{Sorted}
use Rattle.flow_compile_laws.specs.Simulation.Carried.{AreCarried}
use Rattle.flow_world_refinement.proofs.Views.Paired.{Both, Paired, paired}
use Rattle.flow_debug.specs.Told.{places_of_waits, actor_told, if_told, actors_told}
use Rattle.flow_debug.specs.SourceView.{actor_seen}
use Rattle.flow_typing_laws.specs.ControlFlow.Laws.{AllHaveSimpleParts}
use Rattle.flow_view_laws.proofs.Names.{AreDistinct}
use Rattle.flow_view_laws.proofs.Tied.{Stands}
use Rattle.flow_view_laws.proofs.Frames.{frame_told}

module _ (p : ProgramTree) (r : RawTree) (carried : AreCarried p r) (differ : AreDistinct r) (simple : AllHaveSimpleParts p.decls) where
  abbrev pub Beside : Phase → Actor → Frame → Type 0
  Beside = Stands p r carried differ simple

  abbrev pub waits : List (List Place)
  waits = places_of_waits p.decls

  -- what is told of a frame is what is seen of its actor
  module _ (process : ℕ) (h : HeapTree) (x : Proc Frame) (ys : Numbered Actor) (shows : Represents r h x) (rest : AtRest x.core)
      (related : Related Beside x.core ys x.actors) where
    abbrev Told : ℕ → FrameTree Value → Entry → Type 0
    Told i m e = if_told (actor_told waits r.classes process (actor_part h.actors.things (i, m))) ≡ actor_seen p process (i, e) (thing ys i)

    beside : (i : ℕ) (o : Option Actor) (u : Option Frame) (f : Frame) → u ≡ Some f → BothOrNone (Beside Waiting) o u
        → (a : Actor) × (o ≡ Some a) × Beside Waiting a f
    beside i None u f e b = absurd (subst (λ z. BothOrNone (Beside Waiting) None z) e b)
    beside i (Some a) u f e b = (a, refl, subst (λ z. BothOrNone (Beside Waiting) (Some a) z) e b)

    one_told : (i : ℕ) (s : Somebody r (stored.thing h.actors.things i) (stored.thing h.frames.things i) (thing x.core.entries i) (thing x.actors i))
        → FrameRepresents r s.memory s.entry s.frame → Told i s.memory s.entry
    one_told i s (ended k) = absurd (unsuspended k.suspended (rest.suspended i s.entry s.entered))
      where
        unsuspended : s.entry.suspended ≡ false → s.entry.suspended ≡ true → ⊥
        unsuspended a b = cc
    one_told i s (stands k) =
        let on = rest.suspended i s.entry s.entered in
        let phase = phase_waits i x.core (ap is_suspended s.entered ∙ ap (λ z. Some z) on) in
        let both = subst (λ z. BothOrNone (Beside z) (thing ys i) (thing x.actors i)) phase (related.phases i) in
        let (a, there, stand) = beside i (thing ys i) (thing x.actors i) s.frame s.acting both in
        frame_told p r carried differ simple process h.actors.things i s.memory s.entry s.frame a s.same.class on k stand
        ∙ ap (actor_seen p process (i, s.entry)) (sym there)

    both : (i : ℕ) → Both Told i (stored.thing h.frames.things i) (thing x.core.entries i)
    both i = by_case (shows.actors i)
      where
        by_case : ActorRepresents r (stored.thing h.actors.things i) (stored.thing h.frames.things i) (thing x.core.entries i) (thing x.actors i)
            → Both Told i (stored.thing h.frames.things i) (thing x.core.entries i)
        by_case (nobody n m e f) =
            subst (λ o. Both Told i o (thing x.core.entries i)) (sym m) (subst (λ o. Both Told i None o) (sym e) tt)
        by_case (somebody s) =
            subst (λ o. Both Told i o (thing x.core.entries i)) (sym s.framed)
            (subst (λ o. Both Told i (Some s.memory) o) (sym s.entered) (one_told i s s.same.frame))

    rows : (xs : List (ℕ × FrameTree Value)) (es : Numbered Entry) → Paired Told xs es
        → actors_told waits r.classes process (map (actor_part h.actors.things) xs) ≡ flat_map (λ e. actor_seen p process e (thing ys e.0)) es
    rows [] [] k = refl
    rows [] (e ∷ es) k = absurd k
    rows (m ∷ xs) [] k = absurd k
    rows (m ∷ xs) (e ∷ es) k = ap₂ (λ us vs. us ++ vs) (first m.0 e.0 m.1 e.1 k.0 k.1) (rows xs es k.2)
      where
        first : (i j : ℕ) (n : FrameTree Value) (d : Entry) → i ≡ j → Told i n d
            → if_told (actor_told waits r.classes process (actor_part h.actors.things (i, n))) ≡ actor_seen p process (j, d) (thing ys j)
        first i j n d same t = t ∙ ap (λ k. actor_seen p process (k, d) (thing ys k)) same

    pub heap_told : Sorted h → actors_told waits r.classes process (parts_of h).actors ≡ flat_map (λ e. actor_seen p process e (thing ys e.0)) x.core.entries
    heap_told sorted =
        rows h.frames.things x.core.entries
        (paired Told 0 0 h.frames.greatest x.core.started h.frames.things x.core.entries sorted.frames rest.orderly.numbered both)
