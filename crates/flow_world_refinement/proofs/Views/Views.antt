-- What is told of a heap are the views of the process that it shows.
use Rattle.std.proofs.Common.{◌≡◌, ℕ, suc, true, false, List, [], ◌∷◌, ◌++◌, map, refl, sym, ap, ap₂, ◌∙◌, subst}
use Rattle.std.proofs.lemmas.List.{map-append}
use Rattle.std.specs.List.{flat_map}
use Rattle.std.specs.declared.option.Option.TheVariants.{None, Some}
use Rattle.flow_value.specs.declared.value.Value.{Value}
use Rattle.flow_numbered.specs.Numbered as stored
use Rattle.flow_frame.specs.declared.held.Held.{Held}
use Rattle.flow_frame.specs.Frames.{FrameTree}
use Rattle.flow_class.specs.Classes.{RawTree}
use Rattle.flow_cancel.specs.Heap.{HeapTree}
use Rattle.flow_cancel.specs.Leaving.{waits}
use Rattle.flow_steps.specs.Views.{frame_view, callback_view, callback_views}
use Rattle.flow_meaning.specs.Requests.{Spot}
use Rattle.flow_meaning.specs.Cells.{Ref}
use Rattle.flow_meaning.specs.Frame.{Frame}
use Rattle.flow_meaning.specs.Law.{AtRest}
use Rattle.flow_numbered.specs.Numbered.{Numbered, thing}
use Rattle.flow_meaning.specs.Process.{Entry, Proc}
use Rattle.flow_meaning.specs.Views.{spot_at, frame_spot, unfinished, branches_from, waiting}
use Rattle.flow_heap_refinement.specs.Representing.{Represents, FrameRepresents, stands, ended, here, at_wait, Position, ActorRepresents, nobody, somebody, Somebody, wait_spot, held_from}
use Rattle.flow_world_refinement.specs.Views.Waiting.{InState}
use Rattle.flow_world_refinement.specs.Views.Views.{told_frame, told_callback, ViewsShown}
use Rattle.flow_world_refinement.proofs.Views.Paired.{Both, Paired, paired}

-- a frame in memory as it is told, by what the process keeps of its actor and by where the actor waits
pub record ToldAt (fs : Numbered Frame) (i : ℕ) (m : FrameTree Value) (e : Entry) : Type 0 where
  pub class : m.class ≡ e.class
  pub state : m.state ≡ (spot_at frame_spot (thing fs i)).group
  pub callbacks : m.callbacks ≡ held_from (spot_at frame_spot (thing fs i)).first e.operands

-- a suspended actor's frame is in the state of the wait at which it stands
wait_state : (m : FrameTree Value) (f : Frame) → Position m f → waits m.state m.callbacks ≡ true → m.state ≡ (wait_spot f).group
wait_state m f (at_wait g e k) h = k
wait_state m f (here e b i) h = absurd (none m.callbacks (sym (ap (λ n. waits n m.callbacks) e) ∙ h))
  where
    none : (hs : List Held) → waits 0 hs ≡ true → ⊥
    none hs h = cc

module _ (r : RawTree) (h : HeapTree) (p : Proc Frame) (shows : Represents r h p) (rest : AtRest p.core) (state : InState p) where
  told : (i : ℕ) (s : Somebody r (stored.thing h.actors.things i) (stored.thing h.frames.things i) (thing p.core.entries i) (thing p.actors i))
      → FrameRepresents r s.memory s.entry s.frame → ToldAt p.actors i s.memory s.entry
  told i s (ended k) = absurd (unsuspended k.suspended (rest.suspended i s.entry s.entered))
    where
      unsuspended : s.entry.suspended ≡ false → s.entry.suspended ≡ true → ⊥
      unsuspended a b = cc
  told i s (stands k) =
      let on = rest.suspended i s.entry s.entered in
      let spot : spot_at frame_spot (thing p.actors i) ≡ wait_spot s.frame = ap (spot_at frame_spot) s.acting ∙ state i s.entry s.frame s.entered s.acting on in
      record {
        class = sym s.same.class;
        state = wait_state s.memory s.frame k.position (k.suspended ∙ on) ∙ ap (λ (z : Spot). z.group) (sym spot);
        callbacks = k.callbacks ∙ ap (λ (z : Spot). held_from z.first s.entry.operands) (sym spot);
      }

  both : (i : ℕ) → Both (ToldAt p.actors) i (stored.thing h.frames.things i) (thing p.core.entries i)
  both i = by_case (shows.actors i)
    where
      by_case : ActorRepresents r (stored.thing h.actors.things i) (stored.thing h.frames.things i) (thing p.core.entries i) (thing p.actors i)
          → Both (ToldAt p.actors) i (stored.thing h.frames.things i) (thing p.core.entries i)
      by_case (nobody n m e f) =
          subst (λ o. Both (ToldAt p.actors) i o (thing p.core.entries i)) (sym m)
          (subst (λ o. Both (ToldAt p.actors) i None o) (sym e) tt)
      by_case (somebody s) =
          subst (λ o. Both (ToldAt p.actors) i o (thing p.core.entries i)) (sym s.framed)
          (subst (λ o. Both (ToldAt p.actors) i (Some s.memory) o) (sym s.entered) (told i s s.same.frame))

-- the callbacks of an actor are its branches
callbacks_told : (i n : ℕ) (rs : List Ref) → map (callback_view i) (held_from n rs) ≡ map told_callback (branches_from i n rs)
callbacks_told i n [] = refl
callbacks_told i n (q ∷ rs) = ap (λ vs. told_callback (record { actor = i; branch = n; cell = q.1 }) ∷ vs) (callbacks_told i (suc n) rs)

module _ (fs : Numbered Frame) where
  frames_told : (xs : List (ℕ × FrameTree Value)) (es : Numbered Entry) → Paired (ToldAt fs) xs es
      → map frame_view xs ≡ map told_frame (unfinished frame_spot fs es)
  frames_told [] [] h = refl
  frames_told [] (e ∷ es) h = absurd h
  frames_told (x ∷ xs) [] h = absurd h
  frames_told (x ∷ xs) (e ∷ es) h =
      ap₂ (λ v vs. v ∷ vs) (first x.0 e.0 x.1 e.1 h.0 h.1) (frames_told xs es h.2)
    where
      first : (i j : ℕ) (m : FrameTree Value) (e : Entry) → i ≡ j → ToldAt fs i m e
          → frame_view (i, m) ≡ told_frame (record { actor = j; class = e.class; group = (spot_at frame_spot (thing fs j)).group })
      first i j m e same t =
          ap₂ (λ c s. record { actor = record { 0 = i }; class = c; state = s }) t.class t.state
          ∙ ap (λ k. told_frame (record { actor = k; class = e.class; group = (spot_at frame_spot (thing fs k)).group })) same

  branches_told : (xs : List (ℕ × FrameTree Value)) (es : Numbered Entry) → Paired (ToldAt fs) xs es
      → flat_map callback_views xs ≡ map told_callback (waiting frame_spot fs es)
  branches_told [] [] h = refl
  branches_told [] (e ∷ es) h = absurd h
  branches_told (x ∷ xs) [] h = absurd h
  branches_told (x ∷ xs) (e ∷ es) h =
      ap₂ (λ vs us. vs ++ us) (first x.0 e.0 x.1 e.1 h.0 h.1) (branches_told xs es h.2)
      ∙ sym (map-append told_callback (branches_from e.0 (spot_at frame_spot (thing fs e.0)).first e.1.operands) (waiting frame_spot fs es))
    where
      first : (i j : ℕ) (m : FrameTree Value) (e : Entry) → i ≡ j → ToldAt fs i m e
          → callback_views (i, m) ≡ map told_callback (branches_from j (spot_at frame_spot (thing fs j)).first e.operands)
      first i j m e same t =
          ap (map (callback_view i)) t.callbacks ∙ callbacks_told i (spot_at frame_spot (thing fs i)).first e.operands
          ∙ ap (λ k. map told_callback (branches_from k (spot_at frame_spot (thing fs k)).first e.operands)) same

pub views_shown : ViewsShown
views_shown r h p shows sorted rest state =
    let pairs = paired (ToldAt p.actors) 0 0 h.frames.greatest p.core.started h.frames.things p.core.entries sorted.frames rest.orderly.numbered (both r h p shows rest state) in
    (frames_told p.actors h.frames.things p.core.entries pairs, branches_told p.actors h.frames.things p.core.entries pairs)
