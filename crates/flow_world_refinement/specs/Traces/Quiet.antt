-- Events that do nothing to a process: a link is cut or heals, a disk is to fail.
use Rattle.std.specs.Prelude.{◌≡◌, ℕ, ◌<◌, ◌≤◌, true, List, ◌∷◌, length, Result}
use Rattle.std.specs.declared.option.Option.TheVariants.{None, Some}
use Rattle.flow_base.specs.declared.ids.ProcId.{ProcId}
use Rattle.flow_base.specs.declared.fault.OutFault.{OutFault}
use Rattle.flow_trace.specs.declared.line.Line.{Line}
use Rattle.flow_class.specs.Classes.{RawTree}
use Rattle.flow_code.specs.declared.program.Code.{Code}
use Rattle.flow_worldfile.specs.declared.world.Act.{Act}
use Rattle.flow_worldfile.specs.declared.world.Act.TheVariants as act
use Rattle.flow_worldfile.specs.declared.world.At.{At}
use Rattle.flow_meaning.specs.Burst.{advance, live}
use Rattle.flow_meaning.specs.Class.{classes}
use Rattle.flow_meaning.specs.Deliver.{begin}
use Rattle.flow_meaning.specs.Frame.{Frame}
use Rattle.flow_meaning.specs.Outside.{Outside, host}
use Rattle.flow_meaning.specs.Process.{Proc}
use Rattle.flow_meaning.specs.World.{World}
use Rattle.flow_steps.specs.declared.process.Process.{Process}
use Rattle.flow_machine.specs.declared.host.Burst.TheVariants.{Rested}
use Rattle.flow_world.specs.Ending.{Seen, next}
use Rattle.flow_world.specs.Happening.{Happens}
use Rattle.flow_world_refinement.specs.Order.Showing.{WorldRepresents}
use Rattle.flow_world_refinement.specs.Traces.Traced.{EventShown}

-- an event begins for a process
abbrev pub begun_proc : (turns : ℕ) → Proc Frame → Proc Frame
begun_proc turns x = record { core = begin turns x.core; actors = x.actors }

module _ (Rests : Process → Proc Frame → Type 0) (Keeps : World Frame → Type 0) (IsCode : Code → Type 0) (r : RawTree) where
  -- A process that rests has nothing to do, however many turns it gets, and rests still.
  abbrev pub StaysQuiet : Type 0
  StaysQuiet =
      (turns : ℕ) (p : Process) (x : Proc Frame) (out : Outside) → Rests p x
      → (advance (classes r) host (live (begun_proc turns x) out) ≡ None) × Rests p (begun_proc turns x)

  -- The next line of the script comes in a world in memory that represents this one, and does what it orders.
  pub record OrderComes {A : Type 0} (puts : A → Line → Result (Unit {0}) OutFault → A → Type 0) (before after : Seen) (world : World Frame)
      (out told : A) (does : Act) : Type 0 where
    pub represents : WorldRepresents Rests before world
    pub time : ℕ
    pub line : At
    pub rest : List At
    pub next_is : next before ≡ Some (time, true)
    pub script : before.script ≡ line ∷ rest
    pub orders : line.act ≡ does
    pub happens : Happens puts before out Rested after told

  -- two processes of a world
  pub record AreLinked (world : World Frame) (one other : ProcId) : Type 0 where
    pub few : world.out.file.processes ≤ 64
    pub stands : one.0 < length world.places
    pub first : one.0 < world.out.file.processes
    pub second : other.0 < world.out.file.processes

  -- a link of two processes of the world is cut
  abbrev pub CutFollows : {A : Type 0} (puts : A → Line → Result (Unit {0}) OutFault → A → Type 0) → Type 0
  CutFollows {A} puts =
      (before after : Seen) (world : World Frame) (out told : A) (one other : ProcId) → StaysQuiet → AreLinked world one other
      → OrderComes puts before after world out told (act.Cut one other) → EventShown Rests Keeps IsCode puts r world out after told

  -- a link of two processes of the world heals
  abbrev pub HealFollows : {A : Type 0} (puts : A → Line → Result (Unit {0}) OutFault → A → Type 0) → Type 0
  HealFollows {A} puts =
      (before after : Seen) (world : World Frame) (out told : A) (one other : ProcId) → StaysQuiet → AreLinked world one other
      → OrderComes puts before after world out told (act.Heal one other) → EventShown Rests Keeps IsCode puts r world out after told

  -- a disk of a process of the world is to fail so many of the next requests
  abbrev pub FailureFollows : {A : Type 0} (puts : A → Line → Result (Unit {0}) OutFault → A → Type 0) → Type 0
  FailureFollows {A} puts =
      (before after : Seen) (world : World Frame) (out told : A) (one : ProcId) (count : ℕ) → StaysQuiet → one.0 < length world.places
      → OrderComes puts before after world out told (act.DiskFail one count) → EventShown Rests Keeps IsCode puts r world out after told
