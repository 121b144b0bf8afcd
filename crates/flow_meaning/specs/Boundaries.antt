-- What is seen of a world at the boundary of events, process by process.
use Rattle.std.specs.Prelude.{List, map}
use Rattle.std.specs.List.{AllByRecursion}
use Rattle.flow_meaning.specs.Process.{Engine}
use Rattle.flow_meaning.specs.Items.{Actor}
use Rattle.flow_meaning.specs.Frame.{Frame}
use Rattle.flow_meaning.specs.World.{World}
use Rattle.flow_meaning.specs.Views.{Unfinished, WaitingBranch, Live, Pending, Frames, Callbacks, Referred}

-- the unfinished actors of each process and their branches, by their texts
abbrev pub LiveIn : World Actor → List (List Unfinished)
LiveIn w = map (λ p. Live p.proc) w.places

abbrev pub PendingIn : World Actor → List (List WaitingBranch)
PendingIn w = map (λ p. Pending p.proc) w.places

-- the same by their frames
abbrev pub FramesIn : World Frame → List (List Unfinished)
FramesIn w = map (λ p. Frames p.proc) w.places

abbrev pub CallbacksIn : World Frame → List (List WaitingBranch)
CallbacksIn w = map (λ p. Callbacks p.proc) w.places

-- each unfinished actor of the world is uncancelled and, unless it is void, still referred to
abbrev pub ReferredIn : {A : Type 0} → Engine A → World A → Type 0
ReferredIn e w = AllByRecursion (λ p. Referred e p.proc) w.places
