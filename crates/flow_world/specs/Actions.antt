-- What follows of what an event does to a process.
use Rattle.std.specs.Prelude.{◌≡◌, ℕ, Bool, true, false, List, is_some}
use Rattle.flow_trace.specs.declared.line.Line.{Line}
use Rattle.flow_code.specs.declared.program.Code.{Code}
use Rattle.flow_value.specs.declared.value.Kind.TheVariants as kind
use Rattle.flow_value.specs.declared.value.Outcome.TheVariants as outcome
use Rattle.flow_numbered.specs.Numbered.{Numbered}
use Rattle.flow_meaning.specs.Burst.{Host}
use Rattle.flow_steps.specs.declared.process.Process.{Process}
use Rattle.flow_steps.specs.Doing.{begun}
use Rattle.flow_steps.specs.Holding.{on_heap}
use Rattle.flow_steps.specs.Delivering.{brought, answered, main_dropped}
use Rattle.flow_machine.specs.declared.host.Burst.{Burst}
use Rattle.flow_machine.specs.declared.machine.Machine.{Machine}
use Rattle.flow_machine.specs.Bursts.{Bursts, MainBursts}
use Rattle.flow_world.specs.declared.action.EventAction.{EventAction}
use Rattle.flow_world.specs.declared.action.EventAction.TheVariants.{Boots, Stops, Delivers, Brings}

-- a process as the deed leaves it, before anything follows; a boot calls `main` by itself
abbrev pub dealt : EventAction → Process → Process
dealt Boots p = p
dealt Stops p = on_heap (main_dropped p.heap.main) p
dealt (Delivers k o) p = brought kind.Promise k.0 o (on_heap (answered k.0) p)
dealt (Brings k v) p = brought kind.PromiseStream k.0 (outcome.Value v) p

-- a boot does nothing where the process holds its `main`
abbrev pub holds_already : EventAction → Machine → Bool
holds_already Boots m = is_some m.process.heap.main
holds_already _ m = false

-- a process is up from its boot on
abbrev pub up_after : EventAction → Bool → Bool
up_after Boots up = true
up_after _ up = up

module _ {A W : Type 0} (serves : Host W) (shows : A → Numbered ℕ → W → Type 0) (wrote : A → List Line → A → Type 0) (code : Code) where
  abbrev pub BurstsAfter : EventAction → Machine → (begun : Process) → A → Burst → Process → A → Type 0
  BurstsAfter Boots m p a e q b = MainBursts serves shows wrote code m.processes m.me p a e q b
  BurstsAfter d m p a e q b = Bursts serves shows wrote code m.processes (dealt d p) a e q b

  -- a process does what follows of a deed, with so many turns from a time on, in ticks
  pub record Does (now turns : ℕ) (d : EventAction) (m : Machine) (a : A) (e : Burst) (n : Machine) (b : A) : Type 0 where
    pub follows : BurstsAfter d m (begun now turns m.process) a e n.process b
    pub me : n.me ≡ m.me
    pub processes : n.processes ≡ m.processes
