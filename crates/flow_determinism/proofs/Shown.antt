-- A run shows exactly one list of lines, with frames and without.
use Rattle.std.proofs.Common.{◌≡◌, Bool, List, [], ◌∷◌, ◌++◌, refl, sym, ap, ◌∙◌, subst}
use Rattle.std.specs.declared.option.Option.TheVariants.{None, Some}
use Rattle.flow_trace.specs.declared.line.Line.{Line}
use Rattle.flow_trace.specs.declared.line.Line.TheVariants as line
use Rattle.flow_worldfile.specs.Worlds as file
use Rattle.flow_meaning.specs.Burst.{Live, Burst}
use Rattle.flow_meaning.specs.Outside.{Outside, host}
use Rattle.flow_meaning.specs.Process.{Engine, Spent}
use Rattle.flow_meaning.specs.Requests.{Spot}
use Rattle.flow_meaning.specs.Runs.{Runs, IsRun, before, after, lines_of}
use Rattle.flow_meaning.specs.Runs as run
use Rattle.flow_meaning.specs.World.{World, Begun, at_start}
use Rattle.flow_meaning.proofs.BurstOnce.{two, same, burst_once}
use Rattle.flow_compile_laws.specs.Frames.Framed.{seen_if, Shows, ends, spent, event, IsShown}
use Rattle.flow_invariants.specs.Fitting.Laws.{OneTrace}

module _ {A : Type 0} (e : Engine A) (spot : A → Spot) (f : Bool) where
  -- whoever runs shows something: the lines of the run, with what is seen after each event where it is asked for
  pub shown_by : (w : World A) (states : List (World A)) (lines : List Line) → Runs e w states lines → (shown : List Line) × Shows e spot f w shown
  shown_by w _ _ (run.ends last g) = (last ∷ [], ends last g)
  shown_by w _ _ (run.spent b l g k n h) = (lines_of b l ++ line.EndSpent ∷ [], spent b l g k n h)
  shown_by w _ _ (run.event {states = states} {lines = lines} b l g k n h rest) =
      let later = shown_by (after w b l) states lines rest in
      (lines_of b l ++ (seen_if e spot f (after w b l) ++ later.0), event b l g k n h later.1)

  -- the next event is one, and its burst comes to one end
  same_burst : {b c : Begun A} {l m : Live Outside A} → b ≡ c → Burst e host (before b) l → Burst e host (before c) m → l ≡ m
  same_burst {b = b} {l = l} {m = m} bc k n = burst_once e host (before b) l m k (subst (λ x. Burst e host (before x) m) (sym bc) n)

  halted_twice : {l m : Live Outside A} {Y : Type 0} → l ≡ m → l.proc.core.halted ≡ None → m.proc.core.halted ≡ Some Spent → Y
  halted_twice h a b = two (sym (ap (λ x. x.proc.core.halted) h) ∙ a) b

  same_end : {k m : Line} → k ≡ m → k ∷ [] ≡ m ∷ []
  same_end h = cc

  same_spent : {b c : Begun A} {l m : Live Outside A} → b ≡ c → l ≡ m → lines_of b l ++ line.EndSpent ∷ [] ≡ lines_of c m ++ line.EndSpent ∷ []
  same_spent h k = cc

  same_event : (w : World A) {b c : Begun A} {l m : Live Outside A} {ls ks : List Line} → b ≡ c → l ≡ m → ls ≡ ks
      → lines_of b l ++ (seen_if e spot f (after w b l) ++ ls) ≡ lines_of c m ++ (seen_if e spot f (after w c m) ++ ks)
  same_event w h k r = cc

  rest_of : (w : World A) {b c : Begun A} {l m : Live Outside A} {ks : List Line} → b ≡ c → l ≡ m → Shows e spot f (after w c m) ks → Shows e spot f (after w b l) ks
  rest_of w {b = b} {m = m} {ks = ks} h k r = subst (λ x. Shows e spot f (after w b x) ks) (sym k) (subst (λ x. Shows e spot f (after w x m) ks) (sym h) r)

  shows_once : (w : World A) (ls ks : List Line) → Shows e spot f w ls → Shows e spot f w ks → ls ≡ ks
  shows_once w ls ks (ends a b) (ends c d) = same_end (same b d)
  shows_once w ls ks (ends a b) (spent c m g k n h) = two g b
  shows_once w ls ks (ends a b) (event c m g k n h r) = two g b
  shows_once w ls ks (spent b l g k n h) (ends c d) = two g d
  shows_once w ls ks (spent b l g k n h) (spent c m i j o q) = let bc = same k j in same_spent bc (same_burst bc n o)
  shows_once w ls ks (spent b l g k n h) (event c m i j o q r) = let bc = same j k in halted_twice (same_burst bc o n) q h
  shows_once w ls ks (event b l g k n h r) (ends c d) = two g d
  shows_once w ls ks (event b l g k n h r) (spent c m i j o q) = let bc = same k j in halted_twice (same_burst bc n o) h q
  shows_once w ls ks (event b l g k n h r) (event c m i j o q t) =
      let bc = same k j in
      let lm = same_burst bc n o in
      same_event w bc lm (shows_once (after w b l) _ _ r (rest_of w bc lm t))

  headed : {ls ks : List Line} → ls ≡ ks → line.Head ∷ ls ≡ line.Head ∷ ks
  headed h = cc

  -- so where there is a run from the start of a world, one list is shown
  pub one_shown : (w : file.World) (states : List (World A)) (lines : List Line) → IsRun e w states lines → OneTrace (IsShown e spot f w)
  one_shown w states lines r =
      let all = shown_by (at_start w) r.later r.rest r.runs in
      record {
        lines = line.Head ∷ all.0;
        is = record { rest = all.0; shows = all.1; with_head = refl };
        only = λ more s. s.with_head ∙ headed (shows_once (at_start w) s.rest all.0 s.shows all.1);
      }
