-- Where a run is after some events, and where it ends.
use Rattle.std.proofs.Common.{◌≡◌, ℕ, zero, suc, ◌+◌, List, [], ◌∷◌, ◌++◌, length, refl, sym, ap, subst, ◌∙◌, append_assoc, arith}
use Rattle.std.specs.Prelude.{slice_get}
use Rattle.std.specs.declared.option.Option.TheVariants.{Some}
use Rattle.flow_trace.specs.declared.line.Line.{Line}
use Rattle.flow_trace.specs.declared.line.Line.TheVariants as line
use Rattle.flow_meaning.specs.Process.{Engine}
use Rattle.flow_meaning.specs.World.{World}
use Rattle.flow_meaning.specs.Runs.{Runs, ends, spent, event, IsRun, after, lines_of}
use Rattle.flow_meaning.proofs.Once.{run_once}
use Rattle.flow_world.specs.Ends.{LastIs}

-- a list has one last line
one_front : (x y : Line) (xs ys : List Line) → xs ++ (x ∷ []) ≡ ys ++ (y ∷ []) → x ≡ y
one_front x y [] [] e = cc
one_front x y [] (b ∷ ys) e = absurd (longer (length ys) (ap length e ∙ ap suc (behind ys y)))
  where
    behind : (ys : List Line) (y : Line) → length (ys ++ (y ∷ [])) ≡ suc (length ys)
    behind [] y = refl
    behind (z ∷ ys) y = ap suc (behind ys y)

    longer : (n : ℕ) → 1 ≡ suc (suc n) → ⊥
    longer n e = absurd (omega (arith, e))
one_front x y (a ∷ xs) [] e = absurd (longer (length xs) (sym (ap length e) ∙ ap suc (behind xs x)))
  where
    behind : (ys : List Line) (y : Line) → length (ys ++ (y ∷ [])) ≡ suc (length ys)
    behind [] y = refl
    behind (z ∷ ys) y = ap suc (behind ys y)

    longer : (n : ℕ) → 1 ≡ suc (suc n) → ⊥
    longer n e = absurd (omega (arith, e))
one_front x y (a ∷ xs) (b ∷ ys) e = one_front x y xs ys (same_rest e)
  where
    same_rest : {A : Type 0} {a b : A} {xs ys : List A} → a ∷ xs ≡ b ∷ ys → xs ≡ ys
    same_rest e = cc

pub one_last : (x y : Line) (lines : List Line) → LastIs x lines → LastIs y lines → x ≡ y
one_last x y lines p q = one_front x y p.0 q.0 (sym p.1 ∙ q.1)

module _ {A : Type 0} (e : Engine A) where
  -- the rest of a run, from the state of a number on
  pub record Onward (states : List (World A)) (lines : List Line) (n : ℕ) (s : World A) : Type 0 where
    pub rest : List (World A)
    pub own : List Line
    pub before : List Line
    pub runs : Runs e s rest own
    pub many : length states ≡ suc n + length rest
    pub are : lines ≡ before ++ own

  onward : (w : World A) (states : List (World A)) (lines : List Line) (n : ℕ) (s : World A) → Runs e w states lines → slice_get (w ∷ states) n ≡ Some s
      → Onward (w ∷ states) lines n s
  onward w states lines zero s r g =
      let same : w ≡ s = cc in record { rest = states; own = lines; before = []; runs = subst (λ z. Runs e z states lines) same r; many = omega arith; are = refl }
  onward w _ _ (suc n) s (ends last x) g = cc
  onward w _ _ (suc n) s (spent b l x k q h) g = cc
  onward w _ _ (suc n) s (event {states = states} {lines = lines} b l x k q h r) g =
      let o = onward (after w b l) states lines n s r g in
      record {
        rest = o.rest;
        own = o.own;
        before = lines_of b l ++ o.before;
        runs = o.runs;
        many = omega (arith, o.many);
        are = ap (λ ls. lines_of b l ++ ls) o.are ∙ sym (append_assoc (lines_of b l) o.before o.own);
      }

  -- Where the run ends right after some events, there are no more states, and its last line is that of the end.
  pub ended_at : (w : Rattle.flow_worldfile.specs.Worlds.World) (states : List (World A)) (lines : List Line) (n : ℕ) (s : World A) (own : List Line) (last : Line)
      → IsRun e w states lines → slice_get states n ≡ Some s → Runs e s [] (own ++ (last ∷ []))
      → (length states ≡ suc n) × LastIs last lines
  ended_at w states lines n s own last run g over =
      let o = onward (Rattle.flow_meaning.specs.World.at_start w) run.later run.rest n s run.runs (ap (λ l. slice_get l n) (sym run.from_start) ∙ g) in
      let once = run_once e s o.rest [] o.own (own ++ (last ∷ [])) o.runs over in (
        ap length run.from_start ∙ o.many ∙ ap (λ l. suc n + length l) once.0 ∙ none n,
        (
          line.Head ∷ (o.before ++ own),
          run.with_head ∙ ap (λ l. line.Head ∷ l) (o.are ∙ ap (λ l. o.before ++ l) once.1 ∙ sym (append_assoc o.before own (last ∷ []))),
        ),
      )
    where
      none : (n : ℕ) → suc n + 0 ≡ suc n
      none n = omega arith
