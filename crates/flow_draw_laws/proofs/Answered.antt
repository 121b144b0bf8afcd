-- What a run asks, and that it is a function of the answers.
use Rattle.std.proofs.Common.{◌≡◌, ◌⊎◌, inl, inr, ℕ, zero, suc, List, [], ◌∷◌, take, refl, sym, ap, subst}
use Rattle.flow_trace.specs.declared.line.Line.{Line}
use Rattle.flow_worldfile.specs.Worlds as file
use Rattle.flow_draw.specs.declared.question.Question.{Question}
use Rattle.flow_meaning.specs.Process.{Engine}
use Rattle.flow_meaning.specs.World.{World, at_start, outside_at_start}
use Rattle.flow_meaning.specs.Runs as runs
use Rattle.flow_meaning.specs.Runs.{Runs, after}
use Rattle.flow_draw_laws.specs.Answers.{answers, Asks, ends, spent, event, Asked}
use Rattle.flow_draw_laws.specs.Laws.{RunsAsk, AskedRuns, SameRun, SameNext}
use Rattle.flow_draw_laws.proofs.Parted.{not_parted, parted_next}
use Rattle.flow_draw_laws.proofs.Twins.{reworded, Part}
use Rattle.flow_draw_laws.proofs.Following.{TwinWorld, twin_world, run_follows, run_both}

module _ {A : Type 0} (e : Engine A) where
  run_asks : {w : World A} {states : List (World A)} {lines : List Line} → Runs e w states lines → (qs : List Question) × Asks e w lines qs
  run_asks (runs.ends last a) = (_, ends last a)
  run_asks (runs.spent b l a k d h) = (_, spent b l a k d h)
  run_asks (runs.event b l a k d h r) = let q = run_asks r in (q.0, event b l a k d h q.1)

  pub runs_ask : RunsAsk e
  runs_ask w states lines r = let q = run_asks r.runs in (q.0, record { rest = r.rest; asks = q.1; with_head = r.with_head })

  asks_run : {w : World A} {lines : List Line} {qs : List Question} → Asks e w lines qs → (states : List (World A)) × Runs e w states lines
  asks_run (ends last a) = ([], runs.ends last a)
  asks_run (spent b l a k d h) = ([], runs.spent b l a k d h)
  asks_run {w = w} (event b l a k d h r) = let q = asks_run r in (after w b l ∷ q.0, runs.event b l a k d h q.1)

  pub asked_runs : AskedRuns e
  asked_runs w lines qs a =
      let q = asks_run a.asks in
      (at_start w ∷ q.0, record { later = q.0; rest = a.rest; runs = q.1; from_start = refl; with_head = a.with_head })

  starts_twin : (v : file.World) (seed : ℕ) (words : List ℕ) → TwinWorld v seed words e (at_start v) (at_start (reworded v seed words))
  starts_twin v seed words = twin_world _ (outside_at_start v)

  follows : (v : file.World) (seed : ℕ) (words : List ℕ) (lines : List Line) (qs : List Question) → Asked e v lines qs
      → answers qs v ≡ answers qs (reworded v seed words) → Asked e (reworded v seed words) lines qs
  follows v seed words lines qs a h = record {
    rest = a.rest;
    asks = run_follows v seed words e a.asks _ (starts_twin v seed words) (λ rs. not_parted v (reworded v seed words) zero qs rs h);
    with_head = a.with_head;
  }

  pub same_run : SameRun e
  same_run v w lines qs s a h =
      subst (λ u. Asked e u lines qs) s (follows v w.seed w.words lines qs a (subst (λ u. answers qs v ≡ answers qs u) (sym s) h))

  asks_next : (v : file.World) (seed : ℕ) (words : List ℕ) (qs rs : List Question) → (qs ≡ rs) ⊎ Part v seed words qs rs → (k : ℕ)
      → answers (take k qs) v ≡ answers (take k qs) (reworded v seed words) → take (suc k) qs ≡ take (suc k) rs
  asks_next v seed words qs rs (inl e) k h = ap (take (suc k)) e
  asks_next v seed words qs rs (inr p) k h = parted_next v (reworded v seed words) zero qs rs p k h

  next_asked : (v : file.World) (seed : ℕ) (words : List ℕ) (lines others : List Line) (qs rs : List Question) → Asked e v lines qs
      → Asked e (reworded v seed words) others rs → (k : ℕ) → answers (take k qs) v ≡ answers (take k qs) (reworded v seed words)
      → take (suc k) qs ≡ take (suc k) rs
  next_asked v seed words lines others qs rs a b k h =
      asks_next v seed words qs rs (run_both v seed words e a.asks _ (starts_twin v seed words) b.rest rs b.asks) k h

  pub same_next : SameNext e
  same_next v w lines others qs rs s a b k h =
      next_asked v w.seed w.words lines others qs rs a (subst (λ u. Asked e u others rs) (sym s) b) k
      (subst (λ u. answers (take k qs) v ≡ answers (take k qs) u) (sym s) h)
