-- What is shown from a world on goes on after the next event of that world, since this event comes to one end.
use Rattle.std.proofs.Common.{◌≡◌, Bool, List, ◌++◌, refl, sym, ap, ◌∙◌, subst}
use Rattle.std.specs.declared.option.Option.TheVariants.{None, Some}
use Rattle.flow_trace.specs.declared.line.Line.{Line}
use Rattle.flow_meaning.specs.Requests.{Spot}
use Rattle.flow_meaning.specs.Burst.{Live, Burst}
use Rattle.flow_meaning.specs.Outside.{Outside, host}
use Rattle.flow_meaning.specs.Process.{Engine}
use Rattle.flow_meaning.specs.Runs.{before, after, lines_of}
use Rattle.flow_meaning.specs.World.{World, Begun, next_of, begun_by, ending}
use Rattle.flow_meaning.proofs.BurstOnce.{two, same, burst_once}
use Rattle.flow_compile_laws.specs.Frames.Framed.{seen_if, Shows, ends, spent, event}

module _ {A : Type 0} (e : Engine A) (spot : A → Spot) (with_frames : Bool) where
  -- these lines are those of an event, what is seen then, and those of what follows
  abbrev GoesOn : World A → Begun A → Live Outside A → List Line → Type 0
  GoesOn w b l lines =
      (rest : List Line) × (lines ≡ lines_of b l ++ (seen_if e spot with_frames (after w b l) ++ rest)) × Shows e spot with_frames (after w b l) rest

  same_end : (b c : Begun A) (l m : Live Outside A) → b ≡ c → Burst e host (before b) l → Burst e host (before c) m → l ≡ m
  same_end b c l m h k n = burst_once e host (before b) l m k (subst (λ x. Burst e host (before x) m) (sym h) n)

  pub goes_on : (w : World A) (b : Begun A) (l : Live Outside A) (lines : List Line) → ending w.out (next_of w.out) ≡ None
      → begun_by e w (next_of w.out) ≡ Some b → Burst e host (before b) l → l.proc.core.halted ≡ None → Shows e spot with_frames w lines
      → GoesOn w b l lines
  goes_on w b l _ g k n h (ends last x) = two g x
  goes_on w b l _ g k n h (spent c m i j o q) = two (sym (ap (λ x. x.proc.core.halted) (same_end b c l m (same k j) n o)) ∙ h) q
  goes_on w b l _ g k n h (event {lines = rest} c m i j o q runs) =
      let shown = lines_of c m ++ (seen_if e spot with_frames (after w c m) ++ rest) in
      subst (λ x. GoesOn w x l shown) (sym (same k j))
      (subst (λ x. GoesOn w c x shown) (sym (same_end b c l m (same k j) n o)) (rest, refl, runs))
