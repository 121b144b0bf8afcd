-- What it means that more turns change nothing but where they run out.
use Rattle.std.specs.Prelude.{◌≡◌, ℕ, ◌+◌, ◌⊎◌, List, ◌++◌}
use Rattle.std.specs.declared.option.Option.{Option}
use Rattle.std.specs.declared.option.Option.TheVariants.{None, Some}
use Rattle.flow_trace.specs.declared.line.Line.{Line}
use Rattle.flow_meaning.specs.Requests.{Act, RunsOut, Stuck, Ask}
use Rattle.flow_meaning.specs.Process.{Halt, Core, View, Engine}
use Rattle.flow_meaning.specs.Step.{proc}
use Rattle.flow_meaning.specs.Burst.{Host, Live, live, Burst}

-- the first lines, and some behind them
abbrev pub Starts : List Line → List Line → Type 0
Starts ls ks = (rest : List Line) × (ks ≡ ls ++ rest)

-- a process with so many turns more
abbrev pub more : ℕ → Core → Core
more k c = record c { left = c.left + k }

abbrev pub more_live : {W A : Type 0} → ℕ → Live W A → Live W A
more_live k s = live (proc (more k s.proc.core) s.proc.actors) s.out

-- an answer that leaves so many turns more
abbrev pub later : {A : Type 0} → ℕ → Option Ask × A → Option Ask × A
later k (None, a) = (None, a)
later k (Some q, a) = (Some (record q { left = q.left + k }), a)

-- an actor asks for an act, and goes on as this one
abbrev pub Asks : {A : Type 0} → Act → Option Ask × A → Type 0
Asks {A = A} act r = (left : ℕ) × (a : A) × (r ≡ (Some (record { left = left; act = act }), a))

-- an actor has run out of turns, or has no meaning: either stops the event
abbrev pub IsOut : {A : Type 0} → Option Ask × A → Type 0
IsOut r = Asks RunsOut r ⊎ Asks Stuck r

-- Actors that see of their turns only whether there are enough: with more turns they ask the same, or they ran out.
pub record Thrifty {A : Type 0} (e : Engine A) : Type 0 where
  pub same : (k sum : ℕ) (v : View) (a : A) → sum ≡ v.left + k
      → (e.next (record v { left = sum }) a ≡ later k (e.next v a)) ⊎ IsOut (e.next v a)

-- the event was stopped
abbrev pub IsHalted : Core → Type 0
IsHalted c = (h : Halt) × (c.halted ≡ Some h)

-- A burst that was stopped, for want of turns say, has written a first part of what is written with more turns.
abbrev pub WritesFirst : {W A : Type 0} → Engine A → Host W → Type 0
WritesFirst {W} {A} e h =
    (k : ℕ) (s t u : Live W A) → Burst e h s t → IsHalted t.proc.core → Burst e h (more_live k s) u
    → Starts t.proc.core.lines u.proc.core.lines
