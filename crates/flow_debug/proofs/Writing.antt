-- The lines of frames, one frame after another.
use Rattle.std.proofs.Common.{◌≡◌, ℕ, ◌+◌, ◌<◌, ◌≤◌, List, [], ◌++◌, map, length, drop, get_or, refl, sym, ap, ◌∙◌, append_assoc, append-nil, subst}
use Rattle.std.specs.List.{flat_map}
use Rattle.std.specs.declared.option.Option.{Option}
use Rattle.std.specs.declared.option.Option.TheVariants.{None, Some}
use Rattle.std.proofs.lemmas.List.{drop_more, drop_all}
use Rattle.std.specs.Io.KnownBytes.{Appends}
use Rattle.flow_base.specs.declared.place.Place.{Place}
use Rattle.flow_class.specs.Classes.{ClassTree}
use Rattle.flow_heapstate.specs.declared.state.ActorState.{ActorState}
use Rattle.flow_heapstate.specs.State.{actor_kept}
use Rattle.flow_debug.specs.Seen.{ActorSeen}
use Rattle.flow_debug.specs.Told.{actor_told, if_told, actors_told}
use Rattle.flow_debug.specs.ViewText.{actor_lines}
use Rattle.flow_debug.specs.Writing.{told_lines}

module _ (waits : List (List Place)) (classes : List ClassTree) (process : ℕ) where
  -- the lines of all frames from a place on
  abbrev pub lines_from : ℕ → List ActorState → List ℕ
  lines_from i frames = flat_map actor_lines (actors_told waits classes process (map actor_kept (drop i frames)))

  split : (o : Option ActorSeen) (others : List ActorSeen) → flat_map actor_lines (if_told o ++ others) ≡ flat_map actor_lines (if_told o) ++ flat_map actor_lines others
  split None others = refl
  split (Some a) others = sym (append_assoc (actor_lines a) [] (flat_map actor_lines others))

  -- those of one, and of those behind it
  pub next_lines : (frames : List ActorState) (i : ℕ) (x : ActorState) → i < length frames → x ≡ get_or frames i x
      → lines_from i frames ≡ told_lines waits classes process (actor_kept x) ++ lines_from (i + 1) frames
  next_lines frames i x lt is =
      ap (λ l. flat_map actor_lines (actors_told waits classes process (map actor_kept l))) (drop_more frames i x lt)
      ∙ split (actor_told waits classes process (actor_kept (get_or frames i x))) (actors_told waits classes process (map actor_kept (drop (i + 1) frames)))
      ∙ ap (λ z. told_lines waits classes process (actor_kept z) ++ lines_from (i + 1) frames) (sym is)

  pub ahead_next : (frames : List ActorState) (i : ℕ) (x : ActorState) (text : List ℕ) → i < length frames → x ≡ get_or frames i x
      → text ++ lines_from i frames ≡ lines_from 0 frames
      → (text ++ told_lines waits classes process (actor_kept x)) ++ lines_from (i + 1) frames ≡ lines_from 0 frames
  ahead_next frames i x text lt is ahead =
      append_assoc text (told_lines waits classes process (actor_kept x)) (lines_from (i + 1) frames)
      ∙ ap (λ l. text ++ l) (sym (next_lines frames i x lt is)) ∙ ahead

  pub all_lines : (frames : List ActorState) (i : ℕ) (text : List ℕ) → length frames ≤ i → text ++ lines_from i frames ≡ lines_from 0 frames → text ≡ lines_from 0 frames
  all_lines frames i text le ahead =
      sym (append-nil text) ∙ ap (λ l. text ++ flat_map actor_lines (actors_told waits classes process (map actor_kept l))) (sym (drop_all i frames le)) ∙ ahead

  pub whole : (a b : Option (List ℕ)) (frames : List ActorState) (i : ℕ) (text : List ℕ) → length frames ≤ i → text ++ lines_from i frames ≡ lines_from 0 frames → Appends a b text
      → Appends a b (lines_from 0 frames)
  whole a b frames i text le ahead h = subst (Appends a b) (all_lines frames i text le ahead) h
