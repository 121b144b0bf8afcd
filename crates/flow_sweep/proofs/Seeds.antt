-- The runs of a seed, and of one seed after another.
use Rattle.std.proofs.Common.{◌≡◌, ℕ, ◌+◌, ◌-◌, Bool, true, List, [], ◌∷◌, ◌++◌, if◌then◌else◌, refl, sym, ap, ◌∙◌, append-nil, subst, Option, None, Some, Result, Ok, Err}
use Rattle.flow_base.specs.Bytes.{AppendsPart}
use Rattle.flow_base.specs.declared.fault.OutFault.{OutFault}
use Rattle.flow_trace.specs.declared.line.Line.{Line}
use Rattle.flow_worldfile.specs.Worlds.{World}
use Rattle.flow_family.specs.declared.family.Family.{Family}
use Rattle.flow_family.specs.Families.{world_of, times_of, losses_of}
use Rattle.flow_sweep.specs.declared.sweep.Went.{Went}
use Rattle.flow_sweep.specs.declared.sweep.Went.TheVariants.{On, Found}
use Rattle.flow_sweep.specs.Sweeps.{Tally, Hearing, Row, Trial, loss_trials, loss_trials_of, AreRuns, BeginRuns, OfSeed, BeginsSeed, none_of_it, some_of_it, OfSeeds, one_more, BeginsSweep, Swept, Goes, fails, GoesThrough, RunMade, RunFails, not_made, not_told, row_text}
use Rattle.flow_sweep.proofs.Going.{goes_none, then_goes}
use Rattle.flow_sweep.proofs.One.{made_as, nothing_yet}
use Rattle.flow_sweep.proofs.Making.{no_runs}
use Rattle.flow_sweep.proofs.Loops.{found_early, failed_early}

module _ (means : World → List Line → Type 0) (hearing : Hearing) (first : Bool) (f : Family) (w : World) (seed : ℕ) where
  abbrev Seed : List Row → Type 0
  Seed = OfSeed means hearing f w seed

  abbrev Begins : List Row → Type 0
  Begins = BeginsSeed means hearing f w seed

  -- nothing of it was run
  pub seed_unrun : (t : Tally) (v : Option (List ℕ)) (x : OutFault) → Goes Seed Begins first t t v v (Err x)
  seed_unrun t v x = fails [] x none_of_it (nothing_yet v)

  none_begun : (due : List Trial) → BeginRuns means hearing due []
  none_begun due = ([], due, refl, no_runs means hearing)

  -- its own run in a world, which is the one of the seed
  abbrev own_in : World → Trial
  own_in own = record { seed = seed; loss = None; world = own }

  -- it failed
  pub seed_fails : (own : World) (t t' : Tally) (v v' : Option (List ℕ)) (x : OutFault) → own ≡ world_of f seed w
      → RunFails means hearing first (own_in own) v v' → Goes Seed Begins first t t' v v' (Err x)
  seed_fails own t t' v v' x is h = by_run (subst (λ o. RunFails means hearing first (own_in o) v v') is h)
    where
      by_run : RunFails means hearing first (own_in (world_of f seed w)) v v' → Goes Seed Begins first t t' v v' (Err x)
      by_run (not_made written) = fails [] x none_of_it written
      by_run (not_told row made written) =
          fails (row ∷ []) x (some_of_it row [] made (none_begun _)) (subst (AppendsPart v v') (sym (append-nil (row_text first row))) written)

  -- it was the find
  here : (own : World) (timed : Bool) (t t' : Tally) (v v' : Option (List ℕ)) (went went' : Went) (times : List ℕ) → own ≡ world_of f seed w
      → went ≡ went' → RunMade means hearing first (own_in own) timed t t' v v' went times
      → RunMade means hearing first (own_in (world_of f seed w)) timed t t' v v' went' times
  here own timed t t' v v' went went' times is how h =
      subst (λ x. RunMade means hearing first (own_in (world_of f seed w)) timed t t' v v' x times) how
      (subst (λ o. RunMade means hearing first (own_in o) timed t t' v v' went times) is h)

  pub seed_found : (own : World) (timed : Bool) (t t' : Tally) (v v' : Option (List ℕ)) (went : Went) (times : List ℕ) → own ≡ world_of f seed w
      → went ≡ Found → RunMade means hearing first (own_in own) timed t t' v v' went times → Goes Seed Begins first t t' v v' (Ok Found)
  seed_found own timed t t' v v' went times is how h =
      let m = here own timed t t' v v' went Found times is how h in
      found_early Begins Begins Seed Begins first t t' v v'
      (made_as means hearing first (own_in (world_of f seed w)) Begins Begins timed t t' v v' Found times m
      (some_of_it m.row [] m.made (none_begun _)) (some_of_it m.row [] m.made (none_begun _)))
      (λ a part. part)

  -- it ended nothing, and those with losses of power follow
  seed_then : (timed : Bool) (t t' t'' : Tally) (v v' v'' : Option (List ℕ)) (times : List ℕ) (r : Result Went OutFault)
      (m : RunMade means hearing first (own_in (world_of f seed w)) timed t t' v v' On times)
      → GoesThrough means hearing (loss_trials f.down seed (world_of f seed w) (times_of m.row.cut)) first t' t'' v' v'' r
      → Goes Seed Begins first t t'' v v'' r
  seed_then timed t t' t'' v v' v'' times r m h =
      let Own = λ (a : List Row). a ≡ m.row ∷ [] in
      let due = loss_trials f.down seed (world_of f seed w) (times_of m.row.cut) in
      then_goes Own Own (AreRuns means hearing due) (BeginRuns means hearing due) Seed Begins first t t' t'' v v' v'' r
      (made_as means hearing first (own_in (world_of f seed w)) Own Own timed t t' v v' On times m refl refl) h
      (λ a b is runs. subst (λ x. Seed (x ++ b)) (sym is) (record { own = m.row; losses = b; all = refl; is_own = m.made; are_losses = runs }))
      (λ a b is runs. subst (λ x. Begins (x ++ b)) (sym is) (some_of_it m.row b m.made runs))

  pub seed_alone : (own : World) (timed : Bool) (t t' : Tally) (v v' : Option (List ℕ)) (went : Went) (times : List ℕ) → own ≡ world_of f seed w
      → f.down ≡ None → went ≡ On → RunMade means hearing first (own_in own) timed t t' v v' went times → Goes Seed Begins first t t' v v' (Ok On)
  seed_alone own timed t t' v v' went times is none how h =
      let m = here own timed t t' v v' went On times is how h in
      seed_then timed t t' t' v v' v' times (Ok On) m
      (subst (λ d. GoesThrough means hearing (loss_trials d seed (world_of f seed w) (times_of m.row.cut)) first t' t' v' v' (Ok On)) (sym none)
      (goes_none (AreRuns means hearing []) (BeginRuns means hearing []) first t' v' (no_runs means hearing)))

  pub seed_lossy : (own : World) (timed : Bool) (down : ℕ) (t t' t'' : Tally) (v v' v'' : Option (List ℕ)) (went : Went)
      (times given : List ℕ) (r : Result Went OutFault) → own ≡ world_of f seed w → f.down ≡ Some down → timed ≡ true → went ≡ On → given ≡ times
      → RunMade means hearing first (own_in own) timed t t' v v' went times
      → GoesThrough means hearing (loss_trials_of down seed own (losses_of down given own.processes)) first t' t'' v' v'' r
      → Goes Seed Begins first t t'' v v'' r
  seed_lossy own timed down t t' t'' v v' v'' went times given r is some is_timed how are h k =
      let m = here own timed t t' v v' went On times is how h in
      let told : given ≡ times_of m.row.cut = are ∙ m.times ∙ ap (λ b. if b then times_of m.row.cut else []) is_timed in
      let so = subst (λ o. GoesThrough means hearing (loss_trials_of down seed o (losses_of down given o.processes)) first t' t'' v' v'' r) is k in
      let own' = world_of f seed w in
      let cut = subst (λ ts. GoesThrough means hearing (loss_trials_of down seed own' (losses_of down ts own'.processes)) first t' t'' v' v'' r) told so in
      seed_then timed t t' t'' v v' v'' times r m
      (subst (λ d. GoesThrough means hearing (loss_trials d seed own' (times_of m.row.cut)) first t' t'' v' v'' r) (sym some) cut)

module _ (means : World → List Line → Type 0) (hearing : Hearing) (first : Bool) (f : Family) (w : World) where
  -- one seed more
  pub seeds_then : (n : ℕ) (t0 t1 t2 : Tally) (w0 w1 w2 : Option (List ℕ)) (r : Result Went OutFault)
      → Goes (OfSeeds means hearing f w n) (BeginsSweep means hearing f w) first t0 t1 w0 w1 (Ok On)
      → Goes (OfSeed means hearing f w (f.from + n)) (BeginsSeed means hearing f w (f.from + n)) first t1 t2 w1 w2 r
      → Goes (OfSeeds means hearing f w (n + 1)) (BeginsSweep means hearing f w) first t0 t2 w0 w2 r
  seeds_then n t0 t1 t2 w0 w1 w2 r h k =
      then_goes (OfSeeds means hearing f w n) (BeginsSweep means hearing f w) (OfSeed means hearing f w (f.from + n)) (BeginsSeed means hearing f w (f.from + n))
      (OfSeeds means hearing f w (n + 1)) (BeginsSweep means hearing f w) first t0 t1 t2 w0 w1 w2 r h k
      (λ a b whole seed. one_more n a b whole seed)
      (λ a b whole part. (n, a, b, whole, part, refl))

  pub seeds_found : (n : ℕ) (t0 t1 : Tally) (w0 w1 : Option (List ℕ))
      → Goes (OfSeeds means hearing f w n) (BeginsSweep means hearing f w) first t0 t1 w0 w1 (Ok Found)
      → Goes (Swept means hearing f w) (BeginsSweep means hearing f w) first t0 t1 w0 w1 (Ok Found)
  seeds_found n t0 t1 w0 w1 h =
      found_early (OfSeeds means hearing f w n) (BeginsSweep means hearing f w) (Swept means hearing f w) (BeginsSweep means hearing f w) first t0 t1 w0 w1 h
      (λ a part. part)

  pub seeds_failed : (n : ℕ) (t0 t1 : Tally) (w0 w1 : Option (List ℕ)) (x : OutFault)
      → Goes (OfSeeds means hearing f w n) (BeginsSweep means hearing f w) first t0 t1 w0 w1 (Err x)
      → Goes (Swept means hearing f w) (BeginsSweep means hearing f w) first t0 t1 w0 w1 (Err x)
  seeds_failed n t0 t1 w0 w1 x h =
      failed_early (OfSeeds means hearing f w n) (BeginsSweep means hearing f w) (Swept means hearing f w) (BeginsSweep means hearing f w) first t0 t1 w0 w1 x h
      (λ a part. part)
