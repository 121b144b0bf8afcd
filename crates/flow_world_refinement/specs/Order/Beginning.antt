-- A world in memory before its first event shows the first of the definitions.
use Rattle.flow_class.specs.declared.class.RawClasses.{RawClasses}
use Rattle.flow_worldfile.specs.declared.world.World0.{World0}
use Rattle.flow_worldfile.specs.Worlds.{seen}
use Rattle.std.specs.declared.alloc.Global.{Global}
use Rattle.flow_meaning.specs.Frame.{Frame}
use Rattle.flow_meaning.specs.Process.{Proc}
use Rattle.flow_meaning.specs.Deliver.{idle}
use Rattle.flow_meaning.specs.World.{at_start}
use Rattle.flow_steps.specs.declared.process.Process.{Process}
use Rattle.flow_steps.specs.Doing.{never_ran}
use Rattle.flow_world.specs.Ending.{Seen}
use Rattle.flow_world.specs.Starting.{Starts}
use Rattle.flow_world_refinement.specs.Order.Showing.{WorldRepresents}

-- where a process that never ran rests as one of the definitions that never ran
abbrev pub StartShown : (Rests : Process → Proc Frame → Type 0) → Type 0
StartShown Rests =
    (classes : RawClasses) (file : World0) (w : Seen) → ((memory : Global) → Rests (never_ran memory) idle) → Starts classes file w
    → WorldRepresents Rests w (at_start (seen file))
