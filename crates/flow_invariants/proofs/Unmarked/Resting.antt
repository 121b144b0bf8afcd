-- What a process keeps whose actors are steady and whose cells are referred to, and that at rest no actor of it is marked.
use Rattle.std.proofs.Common.{◌≡◌, inl, inr, ℕ, nat_eq, Bool, true, false, List, [], ◌∷◌, if◌then◌else◌, refl, sym, ap, subst, ◌∙◌, arith}
use Rattle.std.specs.declared.option.Option.{Option}
use Rattle.std.specs.declared.option.Option.TheVariants.{None, Some}
use Rattle.flow_timers.specs.Pending.{Pending}
use Rattle.flow_class.specs.Classes.{RawTree}
use Rattle.flow_numbered.specs.Numbered.{Numbered, thing}
use Rattle.flow_meaning.specs.Process.{Entry, Core, Proc}
use Rattle.flow_meaning.specs.Orderly.{Rising, tasks_of}
use Rattle.flow_meaning.specs.Law.{AtRest}
use Rattle.flow_meaning.specs.Outside.{What}
use Rattle.flow_meaning.specs.Views.{IsReferred, AllReferred}
use Rattle.flow_meaning.specs.Frame.{Frame}
use Rattle.flow_meaning.specs.Class.{classes}
use Rattle.flow_meaning.proofs.Posture.{same_number, above_none}
use Rattle.flow_meaning.proofs.InOrder.{no_thing}
use Rattle.flow_meaning.proofs.Shifts.{same_of}
use Rattle.flow_invariants.specs.Fitting.Among.{FitsAmong}
use Rattle.flow_invariants.specs.Owned.{Unset}
use Rattle.flow_invariants.proofs.Owned.Owns.{owns}
use Rattle.flow_invariants.proofs.Referenced.Onward.{IsThere}
use Rattle.flow_invariants.proofs.Referenced.Worlds as care
use Rattle.flow_invariants.specs.Unmarked.{EventInvariant, BoundaryInvariant}
use Rattle.flow_invariants.proofs.Unmarked.Steady.{Steady, S}
use Rattle.flow_invariants.proofs.Unmarked.Steps.{Fine}
use Rattle.flow_invariants.proofs.Unmarked.Brought.{AllFine}

no_mark : {m : Bool} → m ≡ true → m ≡ false → ⊥
no_mark a b = cc

-- a marked actor runs
awake : (c : Core) → AllFine c → (i : ℕ) (e : Entry) → thing c.entries i ≡ Some e → e.marked ≡ true → e.suspended ≡ false
awake c h i e at m = by_fine (h i)
  where
    by_fine : Fine i c → e.suspended ≡ false
    by_fine (inl x) = let y : Steady (Some e) (tasks_of i c.tasks) = subst (λ z. Steady z (tasks_of i c.tasks)) at x in y.0 m
    by_fine (inr x) =
        let same : x.entry ≡ e = same_of (sym x.at ∙ at) in absurd (no_mark m (subst (λ (z : Entry). z.marked ≡ false) same x.unmarked))

pub keeps : (r : RawTree) (n : ℕ) (events : List (Pending What)) (p : Proc Frame) → FitsAmong r n events p → Unset p.core → care.Referred p → AllFine p.core → EventInvariant p
keeps r n events p f u h fine = record {
  owned = owns r n events p f u;
  cared = record { awake = awake p.core fine; wanted = λ i k e at m own. (h k).1 (i, e, at, m, own) };
  referenced = λ k cell at. (h k).0 (subst IsThere (sym at) tt);
}

-- what holds of each actor by its number holds of all
module _ (futures : ℕ → ℕ) where
  abbrev Held : Entry → Type 0
  Held e = (e.marked ≡ false) × IsReferred e.result futures

  all_held : (es : Numbered Entry) (above n : ℕ) → Rising above n es → ((i : ℕ) (e : Entry) → thing es i ≡ Some e → Held e) → AllReferred futures es
  all_held [] above n up h = tt
  all_held (x ∷ es) above n up h =
      let own = h x.0 x.1 (ap (λ b. if b then Some x.1 else thing es x.0) (same_number x.0)) in (own.0, own.1, all_held es x.0 n up.2 (λ i e at. h i e (later i e at)))
    where
      later : (i : ℕ) (e : Entry) → thing es i ≡ Some e → thing (x ∷ es) i ≡ Some e
      later i e at = by_test (nat_eq i x.0) refl
        where
          by_test : (b : Bool) → nat_eq i x.0 ≡ b → (if b then Some x.1 else thing es i) ≡ Some e
          by_test true q = let same : i ≡ x.0 = grind (arith, q) in absurd (no_thing (sym (above_none es x.0 n i up.2 (omega (arith, same))) ∙ at))
          by_test false q = at

pub rests : (r : RawTree) (n : ℕ) (events : List (Pending What)) (p : Proc Frame) → AtRest p.core → FitsAmong r n events p → Unset p.core → care.Referred p → ((j : ℕ) → S j p.core)
    → BoundaryInvariant r p
rests r n events p rest f u h steady = record {
  keeps = keeps r n events p f u h (λ j. inl (steady j));
  referred = all_held _ p.core.entries 0 p.core.started rest.orderly.numbered each;
}
  where
    each : (i : ℕ) (e : Entry) → thing p.core.entries i ≡ Some e → (e.marked ≡ false)
        × IsReferred e.result (λ k. Rattle.flow_meaning.specs.References.reference_count (Rattle.flow_meaning.specs.Step.scanned (classes r) p) Rattle.flow_meaning.specs.Cells.FutureSide k p.core)
    each i e at = (unmarked, by_result e.result refl)
      where
        by_mark : (b : Bool) → e.marked ≡ b → e.marked ≡ false
        by_mark true q = absurd (no_mark (rest.suspended i e at) (awake p.core (λ j. inl (steady j)) i e at q))
        by_mark false q = q

        unmarked : e.marked ≡ false
        unmarked = by_mark e.marked refl

        by_result : (o : Option ℕ) → e.result ≡ o → IsReferred o (λ k. Rattle.flow_meaning.specs.References.reference_count (Rattle.flow_meaning.specs.Step.scanned (classes r) p) Rattle.flow_meaning.specs.Cells.FutureSide k
            p.core)
        by_result None own = tt
        by_result (Some k) own = (h k).1 (i, e, at, unmarked, own)
