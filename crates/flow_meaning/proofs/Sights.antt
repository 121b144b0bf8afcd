-- At the boundaries of related runs the same is seen: where related actors that wait do so at the same place.
use Rattle.std.proofs.Common.{◌≡◌, ℕ, ◌++◌, nat_eq, Bool, true, false, List, [], ◌∷◌, map, refl, sym, ap, ap₂, ◌∙◌, subst, if◌then◌else◌}
use Rattle.std.specs.declared.option.Option.{Option}
use Rattle.std.specs.declared.option.Option.TheVariants.{None, Some}
use Rattle.flow_numbered.specs.Numbered.{Numbered, thing}
use Rattle.flow_meaning.specs.Requests.{Spot}
use Rattle.flow_meaning.specs.Process.{Entry, Task, Core, Engine}
use Rattle.flow_meaning.specs.Orderly.{Phase, Waiting, phase_by, is_suspended, tasks_of}
use Rattle.flow_meaning.specs.Law.{BothOrNone, Simulates, Related, AtRest}
use Rattle.flow_meaning.specs.World.{Place, World}
use Rattle.flow_meaning.specs.RunLaw.{SamePlace, SamePlaces, SameWorld, SameStates}
use Rattle.flow_meaning.specs.Views.{spot_at, unfinished, branches_from, waiting}
use Rattle.flow_meaning.specs.Observations.{observation, WaitAlike, ObservationsFollow, ObservationsReturn}
use Rattle.flow_meaning.proofs.Posture.{same_number}
use Rattle.flow_meaning.proofs.LiftRuns.{traces_follow, traces_return}

-- the number of an entry is given
abbrev pub IsGiven : Numbered Entry → ℕ → Type 0
IsGiven es i = (e : Entry) × (thing es i ≡ Some e)

pub given_first : (x : ℕ × Entry) (es : Numbered Entry) → IsGiven (x ∷ es) x.0
given_first x es = (x.1, ap (λ t. if t then Some x.1 else thing es x.0) (same_number x.0))

pub given_later : (x : ℕ × Entry) (es : Numbered Entry) (i : ℕ) → IsGiven es i → IsGiven (x ∷ es) i
given_later x es i h = by_test (nat_eq i x.0)
  where
    by_test : (t : Bool) → (e : Entry) × ((if t then Some x.1 else thing es i) ≡ Some e)
    by_test true = (x.1, refl)
    by_test false = h

-- whoever is suspended waits
phase_waits : (o : Option Entry) (e : Entry) (ts : List Task) → o ≡ Some e → e.suspended ≡ true → phase_by (is_suspended o) ts ≡ Waiting
phase_waits o e ts h s = ap (λ z. phase_by (is_suspended z) ts) h ∙ ap (λ z. phase_by (Some z) ts) s

module _ {A B : Type 0} (R : Phase → A → B → Type 0) (p : A → Spot) (q : B → Spot) (same : WaitAlike R p q) where
  spot_both : (o : Option A) (u : Option B) → BothOrNone (R Waiting) o u → spot_at p o ≡ spot_at q u
  spot_both None None h = refl
  spot_both None (Some b) h = absurd h
  spot_both (Some a) None h = absurd h
  spot_both (Some a) (Some b) h = same a b h

  -- at rest every unfinished actor waits
  pub spots_same : (c : Core) (xs : Numbered A) (ys : Numbered B) → AtRest c → Related R c xs ys → (i : ℕ) → IsGiven c.entries i → spot_at p (thing xs i) ≡ spot_at q (thing ys i)
  spots_same c xs ys rest rs i h =
      spot_both (thing xs i) (thing ys i)
      (subst (λ z. BothOrNone (R z) (thing xs i) (thing ys i)) (phase_waits (thing c.entries i) h.0 (tasks_of i c.tasks) h.1 (rest.suspended i h.0 h.1)) (rs.phases i))

  unfinished_same : (xs : Numbered A) (ys : Numbered B) (es : Numbered Entry) → ((i : ℕ) → IsGiven es i → spot_at p (thing xs i) ≡ spot_at q (thing ys i)) → unfinished p xs es ≡ unfinished q ys es
  unfinished_same xs ys [] f = refl
  unfinished_same xs ys (x ∷ es) f =
      ap₂ (λ z us. record { actor = x.0; class = x.1.class; group = z.group } ∷ us) (f x.0 (given_first x es)) (unfinished_same xs ys es (λ i h. f i (given_later x es i h)))

  waiting_same : (xs : Numbered A) (ys : Numbered B) (es : Numbered Entry) → ((i : ℕ) → IsGiven es i → spot_at p (thing xs i) ≡ spot_at q (thing ys i)) → waiting p xs es ≡ waiting q ys es
  waiting_same xs ys [] f = refl
  waiting_same xs ys (x ∷ es) f =
      ap₂ (λ (z : Spot) bs. branches_from x.0 z.first x.1.operands ++ bs) (f x.0 (given_first x es)) (waiting_same xs ys es (λ i h. f i (given_later x es i h)))

  place_unfinished : (a : Place A) (b : Place B) → SamePlace R a b → unfinished p a.proc.actors a.proc.core.entries ≡ unfinished q b.proc.actors b.proc.core.entries
  place_unfinished a b s =
      unfinished_same a.proc.actors b.proc.actors a.proc.core.entries (spots_same a.proc.core a.proc.actors b.proc.actors s.2 s.3)
      ∙ ap (λ (c : Core). unfinished q b.proc.actors c.entries) s.1

  place_waiting : (a : Place A) (b : Place B) → SamePlace R a b → waiting p a.proc.actors a.proc.core.entries ≡ waiting q b.proc.actors b.proc.core.entries
  place_waiting a b s =
      waiting_same a.proc.actors b.proc.actors a.proc.core.entries (spots_same a.proc.core a.proc.actors b.proc.actors s.2 s.3)
      ∙ ap (λ (c : Core). waiting q b.proc.actors c.entries) s.1

  all_unfinished : (ps : List (Place A)) (qs : List (Place B)) → SamePlaces R ps qs
      → map (λ a. unfinished p a.proc.actors a.proc.core.entries) ps ≡ map (λ b. unfinished q b.proc.actors b.proc.core.entries) qs
  all_unfinished [] [] h = refl
  all_unfinished [] (b ∷ bs) h = absurd h
  all_unfinished (a ∷ rest) [] h = absurd h
  all_unfinished (a ∷ rest) (b ∷ bs) h = ap₂ (λ x xs. x ∷ xs) (place_unfinished a b h.0) (all_unfinished rest bs h.1)

  all_waiting : (ps : List (Place A)) (qs : List (Place B)) → SamePlaces R ps qs → map (λ a. waiting p a.proc.actors a.proc.core.entries) ps ≡ map (λ b. waiting q b.proc.actors b.proc.core.entries) qs
  all_waiting [] [] h = refl
  all_waiting [] (b ∷ bs) h = absurd h
  all_waiting (a ∷ rest) [] h = absurd h
  all_waiting (a ∷ rest) (b ∷ bs) h = ap₂ (λ x xs. x ∷ xs) (place_waiting a b h.0) (all_waiting rest bs h.1)

  world_same : (w : World A) (v : World B) → SameWorld R w v → observation p w ≡ observation q v
  world_same w v h = ap₂ (λ us bs. record { unfinished = us; branches = bs }) (all_unfinished w.places v.places h.1) (all_waiting w.places v.places h.1)

  pub sights_same : (states : List (World A)) (others : List (World B)) → SameStates R states others → map (observation p) states ≡ map (observation q) others
  sights_same [] [] h = refl
  sights_same [] (v ∷ vs) h = absurd h
  sights_same (w ∷ ws) [] h = absurd h
  sights_same (w ∷ ws) (v ∷ vs) h = ap₂ (λ x xs. x ∷ xs) (world_same w v h.0) (sights_same ws vs h.1)

-- so the same is seen of runs of both kinds
module _ {A B : Type 0} (e : Engine A) (d : Engine B) (R : Phase → A → B → Type 0) (sim : Simulates e d R) where
  pub sights_follow : ObservationsFollow e d R
  sights_follow p q same w lines sights s =
      let other = traces_follow e d R sim w s.states lines s.run in
      record { states = other.0; run = other.1; boundaries = s.boundaries ∙ sights_same R p q same s.states other.0 other.2 }

  pub sights_return : ObservationsReturn e d R
  sights_return p q same w lines sights s =
      let other = traces_return e d R sim w s.states lines s.run in
      record { states = other.0; run = other.1; boundaries = s.boundaries ∙ sym (sights_same R p q same other.0 s.states other.2) }
