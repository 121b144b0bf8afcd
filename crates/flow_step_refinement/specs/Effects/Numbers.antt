-- The numbers of new cells and of new actors are new.
use Rattle.std.specs.Prelude.{◌≡◌, suc}
use Rattle.std.specs.declared.option.Option.TheVariants.{None}
use Rattle.flow_meaning.specs.Process.{Core}
use Rattle.flow_meaning.specs.Orderly.{Orderly}
use Rattle.flow_meaning.specs.Dropping.{port_of}
use Rattle.flow_heap_refinement.specs.Counted.{Agree}
use Rattle.flow_heap_refinement.specs.Rested.{InNumbers}
use Rattle.flow_heap_refinement.specs.Acting.{Free}

-- the next cell is the stream of no port
abbrev pub PortFree : Type 0
PortFree = (c : Core) → InNumbers c → port_of (suc c.made) c.ports ≡ None

-- nothing waits for the next actor, and nothing is to be kept by it
abbrev pub ActorFree : Type 0
ActorFree = (c : Core) → Agree c → Orderly c → Free (suc c.started) c
