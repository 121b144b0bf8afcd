-- What one run comes to.
use Rattle.std.proofs.Common.{◌≡◌, ℕ, Bool, true, false, true≢false, if◌then◌else◌, List, [], ◌∷◌, refl, sym, ap, append-nil, subst, Option, Result, Ok, Err}
use Rattle.std.specs.Prelude.{◌&&◌, ◌||◌}
use Rattle.std.specs.Io.KnownBytes.{Appends}
use Rattle.flow_base.specs.Bytes.{AppendsPart}
use Rattle.flow_base.specs.declared.fault.OutFault.{OutFault}
use Rattle.flow_trace.specs.declared.line.Line.{Line}
use Rattle.flow_worldfile.specs.Worlds.{World}
use Rattle.flow_sweep.specs.declared.ran.Ran.{Ran}
use Rattle.flow_sweep.specs.declared.sweep.Went.{Went}
use Rattle.flow_sweep.specs.declared.sweep.Went.TheVariants.{On, Found}
use Rattle.flow_sweep.specs.Sweeps.{Tally, Hearing, Trial, Row, Tries, AreRuns, BeginRuns, is_told, told_text, row_text, rows_text, went_of, tallied, Goes, goes_on, finds, fails, GoesThrough, RunMade, RunFails, not_made, not_told}
use Rattle.flow_sweep.proofs.Going.{appends_nothing}

-- nothing was written
pub nothing_yet : (a : Option (List ℕ)) → AppendsPart a a []
nothing_yet a = ([], [], refl, appends_nothing a)

module _ (means : World → List Line → Type 0) (hearing : Hearing) (first : Bool) (t : Trial) where
  abbrev row_of : (timed : Bool) (r : Ran) (times : List ℕ) → Tries means hearing t.world timed r times → Row
  row_of timed r times tries = record { trial = t; cut = tries.cut; ran = r }

  one_run : (timed : Bool) (r : Ran) (times : List ℕ) (tries : Tries means hearing t.world timed r times)
      → AreRuns means hearing (t ∷ []) (row_of timed r times tries ∷ [])
  one_run timed r times tries = record { trials = refl; each = (tries.ends, tt) }

  -- it was made, and told
  pub run_made : (timed : Bool) (tally tally' : Tally) (w0 w1 : Option (List ℕ)) (r : Ran) (times : List ℕ) (went : Went)
      → Tries means hearing t.world timed r times → went ≡ went_of first r.ended → tally' ≡ tallied r tally
      → Appends w0 w1 (told_text first t.seed t.loss t.world r) → RunMade means hearing first t timed tally tally' w0 w1 went times
  run_made timed tally tally' w0 w1 r times went tries is counted written = record {
    row = row_of timed r times tries;
    made = one_run timed r times tries;
    times = tries.times;
    went = is;
    counted = counted;
    written = written;
  }

  -- it wasn't made, or not told to its end
  pub run_unmade : (w : Option (List ℕ)) → RunFails means hearing first t w w
  run_unmade w = not_made (nothing_yet w)

  pub run_untold : (timed : Bool) (w0 w1 : Option (List ℕ)) (r : Ran) (times : List ℕ) → Tries means hearing t.world timed r times
      → AppendsPart w0 w1 (told_text first t.seed t.loss t.world r) → RunFails means hearing first t w0 w1
  run_untold timed w0 w1 r times tries written = not_told (row_of timed r times tries) (one_run timed r times tries) written

-- one run ends all others, or doesn't
pub settle : (first told : Bool) (tally tally' : Tally) (w0 w1 : Option (List ℕ)) (row : Row) (All Part : List Row → Type 0) → All (row ∷ [])
    → Part (row ∷ []) → is_told row ≡ told → tally' ≡ tallied row.ran tally → Appends w0 w1 (rows_text first (row ∷ []))
    → Goes All Part first tally tally' w0 w1 (Ok (if first && told then Found else On))
settle true true tally tally' w0 w1 row All Part all part is counted written = finds [] row part refl refl is counted written
settle true false tally tally' w0 w1 row All Part all part is counted written =
    goes_on (row ∷ []) all (λ h. ap (λ b. b || false) is) counted written
settle false told tally tally' w0 w1 row All Part all part is counted written =
    goes_on (row ∷ []) all (λ h. absurd (true≢false (sym h))) counted written

module _ (means : World → List Line → Type 0) (hearing : Hearing) (first : Bool) (t : Trial) where
  -- what it ends, of any runs of which it is one
  pub made_as : (All Part : List Row → Type 0) (timed : Bool) (tally tally' : Tally) (w0 w1 : Option (List ℕ)) (went : Went) (times : List ℕ)
      (m : RunMade means hearing first t timed tally tally' w0 w1 went times) → All (m.row ∷ []) → Part (m.row ∷ [])
      → Goes All Part first tally tally' w0 w1 (Ok went)
  made_as All Part timed tally tally' w0 w1 went times m all part =
      subst (λ a. Goes All Part first tally tally' w0 w1 (Ok a)) (sym m.went)
      (settle first (is_told m.row) tally tally' w0 w1 m.row All Part all part refl m.counted
      (subst (Appends w0 w1) (sym (append-nil (row_text first m.row))) m.written))

  pub made_goes : (timed : Bool) (tally tally' : Tally) (w0 w1 : Option (List ℕ)) (went : Went) (times : List ℕ)
      → RunMade means hearing first t timed tally tally' w0 w1 went times → GoesThrough means hearing (t ∷ []) first tally tally' w0 w1 (Ok went)
  made_goes timed tally tally' w0 w1 went times m =
      made_as (AreRuns means hearing (t ∷ [])) (BeginRuns means hearing (t ∷ [])) timed tally tally' w0 w1 went times m m.made (t ∷ [], [], refl, m.made)

  pub fails_goes : (tally tally' : Tally) (w0 w1 : Option (List ℕ)) (f : OutFault) → RunFails means hearing first t w0 w1
      → GoesThrough means hearing (t ∷ []) first tally tally' w0 w1 (Err f)
  fails_goes tally tally' w0 w1 f (not_made written) = fails [] f ([], t ∷ [], refl, record { trials = refl; each = tt }) written
  fails_goes tally tally' w0 w1 f (not_told row made written) =
      fails (row ∷ []) f (t ∷ [], [], refl, made) (subst (AppendsPart w0 w1) (sym (append-nil (row_text first row))) written)

  -- the same, of equal runs
  pub retold : (same : Trial) (tally tally' : Tally) (w0 w1 : Option (List ℕ)) (r : Result Went OutFault) → t ≡ same
      → GoesThrough means hearing (t ∷ []) first tally tally' w0 w1 r → GoesThrough means hearing (same ∷ []) first tally tally' w0 w1 r
  retold same tally tally' w0 w1 r is = subst (λ x. GoesThrough means hearing (x ∷ []) first tally tally' w0 w1 r) is
