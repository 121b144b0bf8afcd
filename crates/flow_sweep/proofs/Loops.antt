-- Runs with losses of power, one after another.
use Rattle.std.proofs.Common.{◌≡◌, ℕ, ◌+◌, Bool, List, [], ◌∷◌, ◌++◌, map, sym, ap, ◌∙◌, subst, Option, Result, Ok, Err}
use Rattle.std.proofs.lemmas.List.{map-append}
use Rattle.flow_base.specs.declared.fault.OutFault.{OutFault}
use Rattle.flow_trace.specs.declared.line.Line.{Line}
use Rattle.flow_worldfile.specs.Worlds.{World}
use Rattle.flow_family.specs.declared.losses.PowerLoss.{PowerLoss}
use Rattle.flow_sweep.specs.declared.sweep.Went.{Went}
use Rattle.flow_sweep.specs.declared.sweep.Went.TheVariants.{On, Found}
use Rattle.flow_sweep.specs.Sweeps.{Tally, Hearing, Row, Trial, loss_trial, loss_trials_of, AreRuns, BeginRuns, Goes, finds, fails, GoesThrough}
use Rattle.flow_sweep.proofs.Going.{then_goes}
use Rattle.flow_sweep.proofs.Making.{runs_two, runs_begin, begin_more}

-- what is said by what is kept and by whether the first find ends all, where both are the same
pub moved : {K : Type 0} (means : K → World → List Line → Type 0) (hearing : K → Hearing) (k k' : K) (f f' : Bool)
    (P : (World → List Line → Type 0) → Hearing → Bool → Type 0) → k ≡ k' → f ≡ f' → P (means k) (hearing k) f → P (means k') (hearing k') f'
moved means hearing k k' f f' P ke fe h = subst (λ x. P (means x) (hearing x) f') ke (subst (P (means k) (hearing k)) fe h)

-- and by how it went
pub moved_on : {K : Type 0} (means : K → World → List Line → Type 0) (hearing : K → Hearing) (k k' : K) (f f' : Bool) (went went' : Went)
    (P : (World → List Line → Type 0) → Hearing → Bool → Went → Type 0) → k ≡ k' → f ≡ f' → went ≡ went' → P (means k) (hearing k) f went
    → P (means k') (hearing k') f' went'
moved_on means hearing k k' f f' went went' P ke fe we h =
    moved means hearing k k' f f' (λ m e b. P m e b went') ke fe (subst (P (means k) (hearing k) f) we h)

module _ (All Part Whole Begun : List Row → Type 0) (first : Bool) where
  -- a find, or a fault, ends more runs as well
  pub found_early : (t0 t1 : Tally) (w0 w1 : Option (List ℕ)) → Goes All Part first t0 t1 w0 w1 (Ok Found) → ((a : List Row) → Part a → Begun a)
      → Goes Whole Begun first t0 t1 w0 w1 (Ok Found)
  found_early t0 t1 w0 w1 (finds rows found part is_first quiet told tally written) g =
      finds rows found (g (rows ++ found ∷ []) part) is_first quiet told tally written

  pub failed_early : (t0 t1 : Tally) (w0 w1 : Option (List ℕ)) (f : OutFault) → Goes All Part first t0 t1 w0 w1 (Err f)
      → ((a : List Row) → Part a → Begun a) → Goes Whole Begun first t0 t1 w0 w1 (Err f)
  failed_early t0 t1 w0 w1 _ (fails rows f part written) g = fails rows f (g rows part) written

module _ (means : World → List Line → Type 0) (hearing : Hearing) (first : Bool) (down seed : ℕ) (own : World) where
  abbrev runs_with : List PowerLoss → List Trial
  runs_with = loss_trials_of down seed own

  -- some losses, and then others
  pub losses_then : (xs ys zs : List PowerLoss) (t0 t1 t2 : Tally) (w0 w1 w2 : Option (List ℕ)) (r : Result Went OutFault) → zs ≡ xs ++ ys
      → GoesThrough means hearing (runs_with xs) first t0 t1 w0 w1 (Ok On) → GoesThrough means hearing (runs_with ys) first t1 t2 w1 w2 r
      → GoesThrough means hearing (runs_with zs) first t0 t2 w0 w2 r
  losses_then xs ys zs t0 t1 t2 w0 w1 w2 r is h k =
      let s = runs_with xs in
      let t = runs_with ys in
      let both = then_goes (AreRuns means hearing s) (BeginRuns means hearing s) (AreRuns means hearing t) (BeginRuns means hearing t)
      (AreRuns means hearing (s ++ t)) (BeginRuns means hearing (s ++ t)) first t0 t1 t2 w0 w1 w2 r h k
      (runs_two means hearing s t) (runs_begin means hearing s t) in
      subst (λ ts. GoesThrough means hearing ts first t0 t2 w0 w2 r)
      (sym (map-append (loss_trial down seed own) xs ys) ∙ ap runs_with (sym is)) both

  more_of : (xs zs rest : List PowerLoss) → zs ≡ xs ++ rest → (a : List Row) → BeginRuns means hearing (runs_with xs) a
      → BeginRuns means hearing (runs_with zs) a
  more_of xs zs rest is a part =
      subst (λ ts. BeginRuns means hearing ts a) (sym (map-append (loss_trial down seed own) xs rest) ∙ ap runs_with (sym is))
      (begin_more means hearing (runs_with xs) (runs_with rest) a part)

  -- of which these are the first ones
  pub found_of_more : (xs zs rest : List PowerLoss) (t0 t1 : Tally) (w0 w1 : Option (List ℕ)) → zs ≡ xs ++ rest
      → GoesThrough means hearing (runs_with xs) first t0 t1 w0 w1 (Ok Found) → GoesThrough means hearing (runs_with zs) first t0 t1 w0 w1 (Ok Found)
  found_of_more xs zs rest t0 t1 w0 w1 is h =
      found_early (AreRuns means hearing (runs_with xs)) (BeginRuns means hearing (runs_with xs)) (AreRuns means hearing (runs_with zs))
      (BeginRuns means hearing (runs_with zs)) first t0 t1 w0 w1 h (more_of xs zs rest is)

  pub failed_of_more : (xs zs rest : List PowerLoss) (t0 t1 : Tally) (w0 w1 : Option (List ℕ)) (f : OutFault) → zs ≡ xs ++ rest
      → GoesThrough means hearing (runs_with xs) first t0 t1 w0 w1 (Err f) → GoesThrough means hearing (runs_with zs) first t0 t1 w0 w1 (Err f)
  failed_of_more xs zs rest t0 t1 w0 w1 f is h =
      failed_early (AreRuns means hearing (runs_with xs)) (BeginRuns means hearing (runs_with xs)) (AreRuns means hearing (runs_with zs))
      (BeginRuns means hearing (runs_with zs)) first t0 t1 w0 w1 f h (more_of xs zs rest is)
