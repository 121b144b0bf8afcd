-- Runs that are computed, step by step, and that they are runs.
use Rattle.std.proofs.Common.{◌≡◌, ℕ, zero, suc, List, [], ◌∷◌, ◌++◌, refl, subst}
use Rattle.std.specs.Option.{option_map}
use Rattle.std.specs.declared.option.Option.{Option}
use Rattle.std.specs.declared.option.Option.TheVariants.{None, Some}
use Rattle.flow_trace.specs.declared.line.Line.{Line}
use Rattle.flow_trace.specs.declared.line.Line.TheVariants as line
use Rattle.flow_worldfile.specs.Worlds as file
use Rattle.flow_tree.specs.Decls.{ProgramTree}
use Rattle.flow_class.specs.Classes.{RawTree}
use Rattle.flow_meaning.specs.Process.{Engine, Halt, Spent, NoMeaning}
use Rattle.flow_meaning.specs.Burst.{Host, Live, Burst, burst, burst_from, advance, rests, steps}
use Rattle.flow_meaning.specs.Outside.{Outside, host}
use Rattle.flow_meaning.specs.World.{World, Begun, next_of, begun_by, ending, at_start}
use Rattle.flow_meaning.specs.Runs.{Runs, ends, spent, event, IsRun, before, after, lines_of, SourceTrace, ClassTrace}
use Rattle.flow_meaning.specs.Source.{source}
use Rattle.flow_meaning.specs.Class.{classes}

-- a burst that is computed is one
burst_from_is : {W A : Type 0} (e : Engine A) (h : Host W) (n : ℕ) (s t : Live W A) (o : Option (Live W A)) → advance e h s ≡ o → burst_from e h n s o ≡ Some t → Burst e h s t
burst_from_is e h n s t None a b = subst (Burst e h s) (same_live b) (rests a)
  where
    same_live : {W A : Type 0} {s t : Live W A} → Some s ≡ Some t → s ≡ t
    same_live h = cc
burst_from_is e h zero s t (Some r) a b = absurd (none_live b)
  where
    none_live : {W A : Type 0} {t : Live W A} → None ≡ Some t → ⊥
    none_live h = cc
burst_from_is e h (suc n) s t (Some r) a b = steps r a (burst_from_is e h n r t (advance e h r) refl b)

burst_is : {W A : Type 0} (e : Engine A) (h : Host W) (n : ℕ) (s t : Live W A) → burst e h n s ≡ Some t → Burst e h s t
burst_is e h n s t b = burst_from_is e h n s t (advance e h s) refl b

-- the worlds and the lines of a run
abbrev Ran : Type 0 → Type 0
Ran A = List (World A) × List Line

abbrev prepended : {A : Type 0} → World A → List Line → Option (Ran A) → Option (Ran A)
prepended w ls None = None
prepended w ls (Some r) = Some (w ∷ r.0, ls ++ r.1)

module _ {A : Type 0} (count : ℕ) (e : Engine A) where
  abbrev by_halt : World A → Begun A → Live Outside A → Option Halt → Option (Ran A) → Option (Ran A)
  by_halt w b l None rest = prepended (after w b l) (lines_of b l) rest
  by_halt w b l (Some Spent) rest = Some ([], lines_of b l ++ line.EndSpent ∷ [])
  by_halt w b l (Some NoMeaning) rest = None

  abbrev by_burst : World A → Begun A → Option (Live Outside A) → (World A → Option (Ran A)) → Option (Ran A)
  by_burst w b None rest = None
  by_burst w b (Some l) rest = by_halt w b l l.proc.core.halted (rest (after w b l))

  abbrev by_begun : World A → Option (Begun A) → (World A → Option (Ran A)) → Option (Ran A)
  by_begun w None rest = None
  by_begun w (Some b) rest = by_burst w b (burst e host count (before b)) rest

  abbrev by_ending : World A → Option Line → (World A → Option (Ran A)) → Option (Ran A)
  by_ending w (Some last) rest = Some ([], last ∷ [])
  by_ending w None rest = by_begun w (begun_by e w (next_of w.out)) rest

  -- a run followed for so many events, each for so many steps
  abbrev pub run_for : ℕ → World A → Option (Ran A)
  run_for zero w = None
  run_for (suc n) w = by_ending w (ending w.out (next_of w.out)) (run_for n)

  -- what was computed is a run
  abbrev Follows : World A → Option (Ran A) → Type 0
  Follows w o = (r : Ran A) → o ≡ Some r → Runs e w r.0 r.1

  same : {r q : Ran A} → Some r ≡ Some q → r ≡ q
  same h = cc

  moved : (w : World A) (r q : Ran A) → Some r ≡ Some q → Runs e w r.0 r.1 → Runs e w q.0 q.1
  moved w r q h k = subst (λ x. Runs e w x.0 x.1) (same h) k

  none_some : {r : Ran A} → None ≡ Some r → ⊥
  none_some h = cc

  -- an event begins so, and its burst comes to this
  record Passes (w : World A) (b : Begun A) (l : Live Outside A) : Type 0 where
    goes : ending w.out (next_of w.out) ≡ None
    begins : begun_by e w (next_of w.out) ≡ Some b
    runs : Burst e host (before b) l

  follows_event : (w : World A) (b : Begun A) (l : Live Outside A) → Passes w b l → l.proc.core.halted ≡ None → (rest : Option (Ran A)) → Follows (after w b l) rest
      → Follows w (prepended (after w b l) (lines_of b l) rest)
  follows_event w b l p h None f r e = absurd (none_some e)
  follows_event w b l p h (Some q) f r e = moved w (after w b l ∷ q.0, lines_of b l ++ q.1) r e (event b l p.goes p.begins p.runs h (f q refl))

  follows_halt : (w : World A) (b : Begun A) (l : Live Outside A) → Passes w b l → (h : Option Halt) → l.proc.core.halted ≡ h → (rest : Option (Ran A)) → Follows (after w b l) rest
      → Follows w (by_halt w b l h rest)
  follows_halt w b l p None h rest f = follows_event w b l p h rest f
  follows_halt w b l p (Some Spent) h rest f = λ r e. moved w ([], lines_of b l ++ line.EndSpent ∷ []) r e (spent b l p.goes p.begins p.runs h)
  follows_halt w b l p (Some NoMeaning) h rest f = λ r e. absurd (none_some e)

  follows_burst : (w : World A) (b : Begun A) → ending w.out (next_of w.out) ≡ None → begun_by e w (next_of w.out) ≡ Some b → (o : Option (Live Outside A)) → burst e host count (before b) ≡ o
      → (rest : World A → Option (Ran A)) → ((v : World A) → Follows v (rest v)) → Follows w (by_burst w b o rest)
  follows_burst w b g k None h rest f = λ r e. absurd (none_some e)
  follows_burst w b g k (Some l) h rest f =
      follows_halt w b l (record { goes = g; begins = k; runs = burst_is e host count (before b) l h }) l.proc.core.halted refl (rest (after w b l)) (f (after w b l))

  follows_begun : (w : World A) → ending w.out (next_of w.out) ≡ None → (o : Option (Begun A)) → begun_by e w (next_of w.out) ≡ o → (rest : World A → Option (Ran A))
      → ((v : World A) → Follows v (rest v)) → Follows w (by_begun w o rest)
  follows_begun w g None k rest f = λ r e. absurd (none_some e)
  follows_begun w g (Some b) k rest f = follows_burst w b g k (burst e host count (before b)) refl rest f

  follows_ending : (w : World A) (o : Option Line) → ending w.out (next_of w.out) ≡ o → (rest : World A → Option (Ran A)) → ((v : World A) → Follows v (rest v)) → Follows w (by_ending w o rest)
  follows_ending w (Some last) g rest f = λ r e. moved w ([], last ∷ []) r e (ends last g)
  follows_ending w None g rest f = follows_begun w g (begun_by e w (next_of w.out)) refl rest f

  pub follows : (n : ℕ) (w : World A) → Follows w (run_for n w)
  follows zero w = λ r e. absurd (none_some e)
  follows (suc n) w = follows_ending w (ending w.out (next_of w.out)) refl (run_for n) (follows n)

-- a trace that is computed
abbrev pub lines_for : {A : Type 0} → ℕ → ℕ → Engine A → file.World → Option (List Line)
lines_for events count e w = option_map (λ r. line.Head ∷ r.1) (run_for count e events (at_start w))

a_run : {A : Type 0} (count : ℕ) (e : Engine A) (w : file.World) (lines : List Line) (o : Option (Ran A)) → Follows count e (at_start w) o → option_map (λ r. line.Head ∷ r.1) o ≡ Some lines
    → (states : List (World A)) × IsRun e w states lines
a_run count e w lines None f h = absurd (no_lines h)
  where
    no_lines : {ls : List Line} → None ≡ Some ls → ⊥
    no_lines h = cc
a_run count e w lines (Some r) f h =
    (at_start w ∷ r.0, record { later = r.0; rest = r.1; runs = f r refl; from_start = refl; with_head = these h })
  where
    these : {ls ks : List Line} → Some ls ≡ Some ks → ks ≡ ls
    these h = cc

pub source_trace : (events count : ℕ) (p : ProgramTree) (w : file.World) (lines : List Line) → lines_for events count (source p) w ≡ Some lines → SourceTrace p w lines
source_trace events count p w lines h = a_run count (source p) w lines (run_for count (source p) events (at_start w)) (follows count (source p) events (at_start w)) h

pub class_trace : (events count : ℕ) (c : RawTree) (w : file.World) (lines : List Line) → lines_for events count (classes c) w ≡ Some lines → ClassTrace c w lines
class_trace events count c w lines h = a_run count (classes c) w lines (run_for count (classes c) events (at_start w)) (follows count (classes c) events (at_start w)) h
