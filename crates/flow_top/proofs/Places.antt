-- The lines of the processes of a world, one process after another.
use Rattle.std.proofs.Common.{◌≡◌, ℕ, zero, suc, ◌+◌, ◌<◌, ◌≤◌, List, [], ◌∷◌, ◌++◌, length, drop, refl, sym, ap, subst, ◌∙◌, append_assoc, append-nil, arith}
use Rattle.std.proofs.lemmas.List.{drop_all}
use Rattle.std.specs.Prelude.{slice_get}
use Rattle.std.specs.List.{flat_map}
use Rattle.std.specs.Io.KnownBytes.{Appends}
use Rattle.std.specs.declared.option.Option.{Option}
use Rattle.std.specs.declared.option.Option.TheVariants.{None, Some}
use Rattle.flow_base.specs.declared.place.Place as text
use Rattle.flow_class.specs.Classes.{ClassTree}
use Rattle.flow_class.specs.View.{raw_of}
use Rattle.flow_world.specs.declared.place.Place.{Place}
use Rattle.flow_world.specs.Ending.{Seen}
use Rattle.flow_world.specs.Views.{actors_at, NumbersRiseAt}
use Rattle.flow_debug.specs.Seen.{ActorSeen}
use Rattle.flow_debug.specs.Told.{actors_told}
use Rattle.flow_debug.specs.ViewText.{actor_lines}
use Rattle.flow_view_laws.specs.Told.{places_told, AllRise}
use Rattle.flow_top.specs.Debugged.{process_text}

-- lines of some actors and of others
both : (us vs : List ActorSeen) → flat_map actor_lines (us ++ vs) ≡ flat_map actor_lines us ++ flat_map actor_lines vs
both [] vs = refl
both (u ∷ us) vs = ap (λ l. actor_lines u ++ l) (both us vs) ∙ sym (append_assoc (actor_lines u) (flat_map actor_lines us) (flat_map actor_lines vs))

module _ (waits : List (List text.Place)) (classes : List ClassTree) where
  first_of : (ats : List Place) (m n : ℕ) → n < length ats
      → flat_map actor_lines (places_told waits classes m (drop n ats))
      ≡ flat_map actor_lines (actors_told waits classes m (actors_at (slice_get ats n))) ++ flat_map actor_lines (places_told waits classes (suc m) (drop (suc n) ats))
  first_of [] m n lt = absurd (omega (arith, lt))
  first_of (at ∷ ats) m zero lt = both (actors_told waits classes m (actors_at (Some at))) (places_told waits classes (suc m) ats)
  first_of (at ∷ ats) m (suc n) lt = first_of ats m n (omega (arith, lt))

-- the numbers in each rise
pub rise_at : (ats : List Place) (n : ℕ) → AllRise ats → n < length ats → NumbersRiseAt (slice_get ats n)
rise_at [] n h lt = absurd (omega (arith, lt))
rise_at (at ∷ ats) zero h lt = h.0
rise_at (at ∷ ats) (suc n) h lt = rise_at ats n h.1 (omega (arith, lt))

module _ (waits : List (List text.Place)) (v : Seen) where
  -- the lines of all processes from a number on
  abbrev pub lines_from : ℕ → List ℕ
  lines_from n = flat_map actor_lines (places_told waits (raw_of v.code.program).classes n (drop n v.places))

  -- those of one, and of those behind it
  pub next_lines : (n : ℕ) → n < length v.places → lines_from n ≡ process_text waits v n ++ lines_from (n + 1)
  next_lines n lt = first_of waits (raw_of v.code.program).classes v.places n n lt ∙ ap (λ k. process_text waits v n ++ lines_from k) (one n)
    where
      one : (n : ℕ) → suc n ≡ n + 1
      one n = omega arith

  pub ahead_next : (n : ℕ) (text : List ℕ) → n < length v.places → text ++ lines_from n ≡ lines_from 0 → (text ++ process_text waits v n) ++ lines_from (n + 1) ≡ lines_from 0
  ahead_next n text lt ahead = append_assoc text (process_text waits v n) (lines_from (n + 1)) ∙ ap (λ l. text ++ l) (sym (next_lines n lt)) ∙ ahead

  pub all_lines : (n : ℕ) (text : List ℕ) → length v.places ≤ n → text ++ lines_from n ≡ lines_from 0 → text ≡ lines_from 0
  all_lines n text le ahead =
      sym (append-nil text) ∙ ap (λ l. text ++ flat_map actor_lines (places_told waits (raw_of v.code.program).classes n l)) (sym (drop_all n v.places le)) ∙ ahead

  -- what was written of them is written behind what was written before
  pub whole : (a b c : Option (List ℕ)) (head text : List ℕ) (n : ℕ) → length v.places ≤ n → text ++ lines_from n ≡ lines_from 0 → Appends a b head → Appends b c text → Appends a c (head ++ lines_from 0)
  whole a b c head text n le ahead first rest =
      Rattle.std.proofs.KnownBytes.Appends-trans a b c head (lines_from 0) first (subst (Appends b c) (all_lines n text le ahead) rest)
