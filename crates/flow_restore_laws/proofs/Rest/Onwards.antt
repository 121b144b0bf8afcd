-- Where a run is after some events, it goes on by the next event.
use Rattle.std.proofs.Common.{◌≡◌, ℕ, zero, suc, List, [], ◌∷◌, drop, refl, sym, ap, ◌∙◌, subst}
use Rattle.std.specs.Prelude.{slice_get}
use Rattle.std.specs.List.{AllByRecursion}
use Rattle.std.specs.declared.option.Option.TheVariants.{None, Some}
use Rattle.flow_trace.specs.declared.line.Line.{Line}
use Rattle.flow_meaning.specs.Burst.{Live, Burst}
use Rattle.flow_meaning.specs.Outside.{Outside, host}
use Rattle.flow_meaning.specs.Process.{Engine}
use Rattle.flow_meaning.specs.Runs.{Runs, ends, spent, event, before, after}
use Rattle.flow_meaning.specs.World.{World, Begun, next_of, begun_by, ending}
use Rattle.flow_meaning.proofs.BurstOnce.{two, same, burst_once}

-- parts of equal lists and options
same_first : {X : Type 0} {x y : X} {xs ys : List X} → x ∷ xs ≡ y ∷ ys → x ≡ y
same_first e = cc

same_rest : {X : Type 0} {x y : X} {xs ys : List X} → x ∷ xs ≡ y ∷ ys → xs ≡ ys
same_rest e = cc

not_empty : {X : Type 0} {x : X} {xs : List X} → [] ≡ x ∷ xs → ⊥
not_empty e = cc

same_some : {X : Type 0} {x y : X} → Some x ≡ Some y → x ≡ y
same_some e = cc

no_some : {X : Type 0} {x : X} → None ≡ Some x → ⊥
no_some e = cc

-- what is left of a list begins with what stands at that number, and one later the rest is left
pub first_left : {X : Type 0} (xs : List X) (n : ℕ) (x : X) (rest : List X) → drop n xs ≡ x ∷ rest → slice_get xs n ≡ Some x
first_left [] zero x rest e = absurd (not_empty e)
first_left [] (suc n) x rest e = absurd (not_empty e)
first_left (y ∷ ys) zero x rest e = ap (λ z. Some z) (same_first e)
first_left (y ∷ ys) (suc n) x rest e = first_left ys n x rest e

later_left : {X : Type 0} (xs : List X) (n : ℕ) (x : X) (rest : List X) → drop n xs ≡ x ∷ rest → drop (suc n) xs ≡ rest
later_left [] zero x rest e = absurd (not_empty e)
later_left [] (suc n) x rest e = absurd (not_empty e)
later_left (y ∷ ys) zero x rest e = same_rest e
later_left (y ∷ ys) (suc n) x rest e = later_left ys n x rest e

-- what holds of each holds of one
pub holds_at : {X : Type 0} (P : X → Type 0) (xs : List X) (n : ℕ) (x : X) → AllByRecursion P xs → slice_get xs n ≡ Some x → P x
holds_at P [] n x h e = absurd (no_some e)
holds_at P (y ∷ ys) zero x h e = subst P (same_some e) h.0
holds_at P (y ∷ ys) (suc n) x h e = holds_at P ys n x h.1 e

module _ {A : Type 0} (e : Engine A) where
  -- a run goes on from this state, the one of that number among all of its states
  pub record Onwards (states : List (World A)) (n : ℕ) (w : World A) : Type 0 where
    pub rest : List (World A)
    pub lines : List Line
    pub runs : Runs e w rest lines
    pub left : drop n states ≡ w ∷ rest

  -- the run after the next event
  record Further (w : World A) (b : Begun A) (l : Live Outside A) (states : List (World A)) : Type 0 where
    rest : List (World A)
    lines : List Line
    are : states ≡ after w b l ∷ rest
    runs : Runs e (after w b l) rest lines

  same_end : (b c : Begun A) (l m : Live Outside A) → b ≡ c → Burst e host (before b) l → Burst e host (before c) m → l ≡ m
  same_end b c l m h k n = burst_once e host (before b) l m k (subst (λ x. Burst e host (before x) m) (sym h) n)

  further : (w : World A) (b : Begun A) (l : Live Outside A) (states : List (World A)) (lines : List Line) → ending w.out (next_of w.out) ≡ None
      → begun_by e w (next_of w.out) ≡ Some b → Burst e host (before b) l → l.proc.core.halted ≡ None → Runs e w states lines → Further w b l states
  further w b l _ _ g k n h (ends last x) = two g x
  further w b l _ _ g k n h (spent c m i j o q) = two (sym (ap (λ x. x.proc.core.halted) (same_end b c l m (same k j) n o)) ∙ h) q
  further w b l _ _ g k n h (event {states = rest} {lines = lines} c m i j o q runs) =
      subst (λ x. Further w x l (after w c m ∷ rest)) (sym (same k j))
      (subst (λ x. Further w c x (after w c m ∷ rest)) (sym (same_end b c l m (same k j) n o)) (record { rest = rest; lines = lines; are = refl; runs = runs }))

  pub next_on : (states : List (World A)) (n : ℕ) (w : World A) (b : Begun A) (l : Live Outside A) → Onwards states n w → ending w.out (next_of w.out) ≡ None
      → begun_by e w (next_of w.out) ≡ Some b → Burst e host (before b) l → l.proc.core.halted ≡ None → Onwards states (suc n) (after w b l)
  next_on states n w b l o g k r h =
      let f = further w b l o.rest o.lines g k r h o.runs in
      record { rest = f.rest; lines = f.lines; runs = f.runs; left = later_left states n w o.rest o.left ∙ f.are }
