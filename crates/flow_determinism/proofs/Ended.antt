-- An actor of a text whose last future goes within an event that isn't spent has ended at its end, since that of the classes has.
use Rattle.std.proofs.Common.{◌≡◌, ℕ, List, [], ◌∷◌, refl, sym, ap, subst, ◌∙◌}
use Rattle.std.specs.List.{AllByRecursion}
use Rattle.std.specs.declared.option.Option.{Option}
use Rattle.std.specs.declared.option.Option.TheVariants.{None, Some}
use Rattle.flow_tree.specs.DeclView.{program_of}
use Rattle.flow_numbered.specs.Numbered.{thing}
use Rattle.flow_meaning.specs.Burst.{Host, Live, Burst, rests, steps, advanced, advance}
use Rattle.flow_meaning.specs.Cells.{FutureSide}
use Rattle.flow_meaning.specs.Class.{classes}
use Rattle.flow_meaning.specs.Law.{Simulates, Same, Related}
use Rattle.flow_meaning.specs.Orderly.{Orderly, UnlessStopped, Phase}
use Rattle.flow_meaning.specs.Outside.{Outside, host}
use Rattle.flow_meaning.specs.Process.{Halt, Core, Engine}
use Rattle.flow_meaning.specs.References.{reference_count}
use Rattle.flow_meaning.specs.RunLaw.{SameWorld, SameStates}
use Rattle.flow_meaning.specs.Runs.{before}
use Rattle.flow_meaning.specs.Source.{source, names_of}
use Rattle.flow_meaning.specs.Step.{scanned, step_if}
use Rattle.flow_meaning.specs.World.{World, Begun, next_of, begun_by}
use Rattle.flow_meaning.proofs.Alike.{scans}
use Rattle.flow_meaning.proofs.InOrder.{no_thing}
use Rattle.flow_meaning.proofs.Lift.{Many, here, after, many_follow, bursts_follow}
use Rattle.flow_meaning.proofs.LiftRuns.{begun_follows, traces_follow}
use Rattle.flow_progress.specs.Ending.{Reaches}
use Rattle.flow_progress.specs.Ending as ending
use Rattle.flow_compile_laws.specs.Simulation.Matching.{ActorMatches}
use Rattle.flow_invariants.specs.Ended.{Unreferred, UnreferredEnd}
use Rattle.flow_invariants.proofs.Ended.{states_end}
use Rattle.flow_determinism.specs.Laws.{classes_of, SourcesEnd}
use Rattle.flow_determinism.proofs.Referred.{simulated}
use Rattle.flow_determinism.proofs.Whole.{compiles_whole}

module _ {W A : Type 0} (e : Engine A) (h : Host W) where
  to_many : {s t : Live W A} → Reaches e h s t → Many e h s t
  to_many ending.here = here
  to_many (ending.onward next a more) = after next a (to_many more)

  to_reaches : {s t : Live W A} → Many e h s t → Reaches e h s t
  to_reaches here = ending.here
  to_reaches (after next a more) = ending.onward next a (to_reaches more)

  -- what is stopped goes on to nothing
  stopped : (x : Halt) (s : Live W A) → s.proc.core.halted ≡ Some x → advance e h s ≡ None
  stopped x s q = ap (λ o. advanced h s.out (step_if e (h.supply s.out) o s.proc)) q

  never : (x : Halt) (s t : Live W A) → s.proc.core.halted ≡ Some x → Burst e h s t → t.proc.core.halted ≡ None → ⊥
  never x s t q (rests a) go = no_thing (sym go ∙ q)
  never x s t q (steps next a more) go = no_thing (sym (stopped x s q) ∙ a)

-- related worlds
module _ {A B : Type 0} (e : Engine A) (d : Engine B) (R : Phase → A → B → Type 0) (sim : Simulates e d R) where
  unreferred_same : (m : Live Outside A) (n : Live Outside B) (i : ℕ) → m.proc.core ≡ n.proc.core → Related R m.proc.core m.proc.actors n.proc.actors → Unreferred e m.proc i → Unreferred d n.proc i
  unreferred_same m n i same related u = record {
    entry = u.entry;
    cell = u.cell;
    unfinished = subst (λ (c : Core). thing c.entries i ≡ Some u.entry) same u.unfinished;
    result = u.result;
    no_future = subst (λ c. reference_count (scanned d n.proc) FutureSide u.cell c ≡ 0) same
        (subst (λ scan. reference_count scan FutureSide u.cell m.proc.core ≡ 0) (scans e d R sim m.proc.actors n.proc.actors related.all) u.no_future);
  }

  event_ends : (w : World A) (v : World B) → SameWorld R w v → UnreferredEnd d v → UnreferredEnd e w
  event_ends w v same ends b m l i g reach u burst go =
      let k = begun_follows e d R sim w v b same g in
      let mid = many_follow e d host R sim (before b) m (before k.0) k.2 (to_many e host reach) in
      let end = bursts_follow e d host R sim m l mid.0 mid.2 burst in
      by_halt k.0 mid.0 end.0 k.1 mid.1 mid.2 end.1 end.2 m.proc.core.halted refl mid.2.0.1
    where
      by_halt : (k : Begun B) (n o : Live Outside B) → begun_by d v (next_of v.out) ≡ Some k → Many d host (before k) n → Same R m n → Burst d host n o → Same R l o → (x : Option Halt)
          → m.proc.core.halted ≡ x
          → UnlessStopped x (Orderly m.proc.core × Related R m.proc.core m.proc.actors n.proc.actors) → thing l.proc.core.entries i ≡ None
      by_halt k n o is_begun many at_mid rest at_end None q related =
          let stops : o.proc.core.halted ≡ None = sym (ap (λ (c : Core). c.halted) at_end.0.0) ∙ go in
          subst (λ (c : Core). thing c.entries i ≡ None) (sym at_end.0.0)
          (ends k n o i is_begun (to_reaches d host many) (unreferred_same m n i at_mid.0.0 related.1 u) rest stops)
      by_halt k n o is_begun many at_mid rest at_end (Some x) q related = absurd (never e host x m l q burst go)

  states_ends : (ws : List (World A)) (vs : List (World B)) → SameStates R ws vs → AllByRecursion (UnreferredEnd d) vs → AllByRecursion (UnreferredEnd e) ws
  states_ends [] [] same h = tt
  states_ends [] (v ∷ vs) same h = absurd same
  states_ends (w ∷ ws) [] same h = absurd same
  states_ends (w ∷ ws) (v ∷ vs) same h = (event_ends w v same.0 h.0, states_ends ws vs same.1 h.1)

pub sources_end : SourcesEnd
sources_end text p w states h range run =
    let t = program_of p in
    let r = classes_of p in
    let sim = simulated text p h in
    let other = traces_follow (source t) (classes r) (ActorMatches (names_of t)) sim w states run.0 run.1 in
    states_ends (source t) (classes r) (ActorMatches (names_of t)) sim states other.0 other.2
    (states_end r (compiles_whole text p h) w other.0 range (run.0, other.1))
