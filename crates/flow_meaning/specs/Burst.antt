-- A burst: the steps of a process with the world around it, from one delivery until nothing is left to do.
use Rattle.std.specs.Prelude.{◌≡◌, ℕ, zero, suc, List, ◌++◌}
use Rattle.std.specs.declared.option.Option.{Option}
use Rattle.std.specs.declared.option.Option.TheVariants.{None, Some}
use Rattle.flow_trace.specs.declared.line.Line.{Line}
use Rattle.flow_meaning.specs.Requests.{Request, Supply}
use Rattle.flow_meaning.specs.Process.{Core, Proc, Engine}
use Rattle.flow_meaning.specs.Step.{Stepped, step, proc}

-- The world around a process, of which W is what can change: what it hands to a step, and how it serves a request, with
-- the lines that it writes for it.
pub record Host (W : Type 0) : Type 0 where
  pub supply : W → Supply
  pub serve : Request → W → List Line × W

-- a process in its world
pub record Live (W A : Type 0) : Type 0 where
  pub proc : Proc A
  pub out : W

abbrev pub live : {W A : Type 0} → Proc A → W → Live W A
live p w = record { proc = p; out = w }

-- lines come after those of the process
abbrev pub add_lines : List Line → Core → Core
add_lines ls c = record c { lines = c.lines ++ ls }

-- the world serves what a step asks of it
abbrev pub served : {W A : Type 0} → Proc A → List Line × W → Live W A
served p r = live (proc (add_lines r.0 p.core) p.actors) r.1

abbrev pub serve : {W A : Type 0} → Host W → Option Request → Proc A → W → Live W A
serve h None p w = live p w
serve h (Some r) p w = served p (h.serve r w)

abbrev pub advanced : {W A : Type 0} → Host W → W → Option (Stepped A) → Option (Live W A)
advanced h w None = None
advanced h w (Some r) = Some (serve h r.1 r.0 w)

-- one step of a process in its world
abbrev pub advance : {W A : Type 0} → Engine A → Host W → Live W A → Option (Live W A)
advance e h s = advanced h s.out (step e (h.supply s.out) s.proc)

-- steps as long as there are any
pub data Burst {W A : Type 0} (e : Engine A) (h : Host W) : Live W A → Live W A → Type 0 where
  rests : {s : Live W A} → advance e h s ≡ None → Burst e h s s
  steps : {s t : Live W A} → (r : Live W A) → advance e h s ≡ Some r → Burst e h r t → Burst e h s t

-- The same by so many steps at most; none, where they aren't enough.
abbrev pub burst_from : {W A : Type 0} → Engine A → Host W → ℕ → Live W A → Option (Live W A) → Option (Live W A)
burst_from e h n s None = Some s
burst_from e h zero s (Some r) = None
burst_from e h (suc n) s (Some r) = burst_from e h n r (advance e h r)

abbrev pub burst : {W A : Type 0} → Engine A → Host W → ℕ → Live W A → Option (Live W A)
burst e h n s = burst_from e h n s (advance e h s)
