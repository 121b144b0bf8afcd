-- Which runs are made, one after another.
use Rattle.std.proofs.Common.{◌≡◌, ℕ, zero, suc, ◌+◌, ◌-◌, ◌<◌, Bool, true, false, if◌then◌else◌, List, [], ◌∷◌, ◌++◌, map, length, take, drop, get_or, refl, sym, ap, ap₂, ◌∙◌, append_assoc, append-nil, arith, add-one, subst, Option, Some, Result}
use Rattle.std.proofs.lemmas.List.{map-append, take-append-drop}
use Rattle.flow_trace.specs.declared.line.Line.{Line}
use Rattle.flow_worldfile.specs.Worlds.{World}
use Rattle.flow_storm.proofs.Adding.{all_added}
use Rattle.flow_family.specs.declared.losses.PowerLoss.{PowerLoss}
use Rattle.flow_base.specs.declared.fault.OutFault.{OutFault}
use Rattle.flow_family.specs.Families.{is_borne, losses_at, losses_of, with_loss}
use Rattle.flow_sweep.specs.declared.sweep.Went.{Went}
use Rattle.flow_sweep.specs.Sweeps.{Tally, Hearing, Trial, Row, trial_of, loss_trial, loss_trials_of, IsRow, AreRuns, BeginRuns, GoesThrough}

losses_first : (b : Bool) (l : PowerLoss) (xs ys : List PowerLoss) → (if b then l ∷ xs else xs) ++ ys ≡ (if b then l ∷ (xs ++ ys) else xs ++ ys)
losses_first true l xs ys = refl
losses_first false l xs ys = refl

-- losses of power at some times, and then at others
pub losses_two : (down p : ℕ) (a b : List ℕ) → losses_at down p (a ++ b) ≡ losses_at down p a ++ losses_at down p b
losses_two down p [] b = refl
losses_two down p (t ∷ a) b =
    let l : PowerLoss = record { process = record { 0 = p }; time = t } in
    ap (λ xs. if is_borne t down then l ∷ xs else xs) (losses_two down p a b)
    ∙ sym (losses_first (is_borne t down) l (losses_at down p a) (losses_at down p b))

-- so many more than the next one
abbrev grown : (further n : ℕ) → ℕ
grown zero n = suc n
grown (suc further) n = suc (grown further n)

grown_is : (further n : ℕ) → grown further n ≡ further + (n + 1)
grown_is zero n = omega arith
grown_is (suc further) n = let is = grown_is further n in omega (arith, is)

losses_grown : (down : ℕ) (times : List ℕ) (n further : ℕ) → (rest : List PowerLoss)
    × (losses_of down times (grown further n) ≡ (losses_of down times n ++ losses_at down n times) ++ rest)
losses_grown down times n zero = ([], sym (append-nil (losses_of down times n ++ losses_at down n times)))
losses_grown down times n (suc further) =
    let less = losses_grown down times n further in
    let more = losses_at down (grown further n) times in
    (less.0 ++ more, ap (λ l. l ++ more) less.1 ∙ append_assoc (losses_of down times n ++ losses_at down n times) less.0 more)

-- those of some processes are the first ones of those of more
pub losses_more : (down : ℕ) (times : List ℕ) (n m : ℕ) → n < m → (rest : List PowerLoss)
    × (losses_of down times m ≡ (losses_of down times n ++ losses_at down n times) ++ rest)
losses_more down times n m lt =
    let all = losses_grown down times n (m - (n + 1)) in
    let is : grown (m - (n + 1)) n ≡ m = let g = grown_is (m - (n + 1)) n in omega (arith, g, lt) in
    (all.0, ap (losses_of down times) (sym is) ∙ all.1)

module _ (means : World → List Line → Type 0) (hearing : Hearing) where
  pub no_runs : AreRuns means hearing [] []
  no_runs = record { trials = refl; each = tt }

  -- some runs, and then others
  pub runs_two : (s t : List Trial) (a b : List Row) → AreRuns means hearing s a → AreRuns means hearing t b → AreRuns means hearing (s ++ t) (a ++ b)
  runs_two s t a b p q = record {
    trials = map-append trial_of a b ∙ ap₂ (λ x y. x ++ y) p.trials q.trials;
    each = all_added (IsRow means hearing) a b p.each q.each;
  }

  -- some, and then a first part of others
  pub runs_begin : (s t : List Trial) (a b : List Row) → AreRuns means hearing s a → BeginRuns means hearing t b → BeginRuns means hearing (s ++ t) (a ++ b)
  runs_begin s t a b p q =
      (s ++ q.0, q.1, ap (λ l. s ++ l) q.2 ∙ sym (append_assoc s q.0 q.1), runs_two s q.0 a b p q.3)

  -- a first part of a first part
  pub begin_more : (s t : List Trial) (a : List Row) → BeginRuns means hearing s a → BeginRuns means hearing (s ++ t) a
  begin_more s t a q = (q.0, q.1 ++ t, ap (λ l. l ++ t) q.2 ∙ append_assoc q.0 q.1 t, q.3)

-- a loss of power that can't be is none, and one that can be is one
pub losses_none : (down p t : ℕ) → is_borne t down ≡ false → losses_at down p (t ∷ []) ≡ []
losses_none down p t is = ap (λ b. if b then record { process = record { 0 = p }; time = t } ∷ [] else []) is

pub losses_one : (down : ℕ) (l : PowerLoss) → is_borne l.time down ≡ true → losses_at down l.process.0 (l.time ∷ []) ≡ l ∷ []
losses_one down l is = ap (λ b. if b then l ∷ [] else []) is

-- the runs with these losses
pub lossy_runs : (means : World → List Line → Type 0) (hearing : Hearing) (first : Bool) (down seed : ℕ) (own : World) (xs ys : List PowerLoss)
    (tally tally' : Tally) (w0 w1 : Option (List ℕ)) (r : Result Went OutFault) → xs ≡ ys
    → GoesThrough means hearing (loss_trials_of down seed own xs) first tally tally' w0 w1 r
    → GoesThrough means hearing (loss_trials_of down seed own ys) first tally tally' w0 w1 r
lossy_runs means hearing first down seed own xs ys tally tally' w0 w1 r is =
    subst (λ l. GoesThrough means hearing (loss_trials_of down seed own l) first tally tally' w0 w1 r) is

pub lossy_world : (down seed : ℕ) (own w : World) (l : PowerLoss) → w ≡ with_loss down l own
    → record { seed = seed; loss = Some l; world = w } ≡ loss_trial down seed own l
lossy_world down seed own w l is = ap {B = Trial} (λ v. record { seed = seed; loss = Some l; world = v }) is

-- one time more
take_next : (xs : List ℕ) (i : ℕ) → i < length xs → take (suc i) xs ≡ take i xs ++ get_or xs i 0 ∷ []
take_next [] i lt = absurd (omega (arith, lt))
take_next (x ∷ xs) zero lt = refl
take_next (x ∷ xs) (suc i) lt = ap (λ l. x ∷ l) (take_next xs i (omega (arith, lt)))

pub losses_next : (down p : ℕ) (times : List ℕ) (i : ℕ) → i < length times
    → losses_at down p (take (i + 1) times) ≡ losses_at down p (take i times) ++ losses_at down p (get_or times i 0 ∷ [])
losses_next down p times i lt =
    ap (λ n. losses_at down p (take n times)) (add-one i) ∙ ap (losses_at down p) (take_next times i lt) ∙ losses_two down p (take i times) (get_or times i 0 ∷ [])

pub losses_all : (down p : ℕ) (times : List ℕ) (n : ℕ)
    → losses_at down p times ≡ losses_at down p (take n times) ++ losses_at down p (drop n times)
losses_all down p times n = ap (losses_at down p) (sym (take-append-drop n times)) ∙ losses_two down p (take n times) (drop n times)
