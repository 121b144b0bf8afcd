-- Where processes that fit begin, and what the world brings to them.
use Rattle.std.specs.Prelude.{◌≡◌, ℕ, List}
use Rattle.std.specs.declared.option.Option.TheVariants.{None, Some}
use Rattle.flow_tree.specs.Tree.{TypeTree, FutureType}
use Rattle.flow_value.specs.Values.{OutcomeTree}
use Rattle.flow_class.specs.Classes.{RawTree}
use Rattle.flow_numbered.specs.Numbered.{Numbered, thing}
use Rattle.flow_meaning.specs.Process.{Core, Proc}
use Rattle.flow_meaning.specs.Orderly.{Rising}
use Rattle.flow_meaning.specs.Class.{classes}
use Rattle.flow_meaning.specs.Deliver.{idle, vanish, boot, stop, deliver, arrive}
use Rattle.flow_meaning.specs.World.{packet}
use Rattle.flow_meaning.specs.Frame.{Frame}
use Rattle.flow_progress.specs.Keeping.{FitsSome, Fine, IsFine}
use Rattle.flow_progress.specs.Asking.{OutcomeFits}
use Rattle.flow_progress.specs.Fitting.{CellTypes, typed_by, ProcessFits}

abbrev pub Holds : RawTree → Proc Frame → Type 0
Holds r p = FitsSome r p.core p.actors

-- a process in which nothing is, and one that was killed
abbrev pub IdleFits : RawTree → Type 0
IdleFits r = Holds r idle

abbrev pub VanishedFits : RawTree → Type 0
VanishedFits r = (p : Proc Frame) → Holds r (vanish p)

-- a process that is stopped
abbrev pub StoppedFits : RawTree → Type 0
StoppedFits r =
    (types : CellTypes) (c : Core) (xs : Numbered Frame) → ProcessFits r types c xs
    → ProcessFits r types (stop c) xs

-- A packet that comes to a port, and what a timer or the disk answers where it has the type of what its cell holds.
abbrev pub ArrivalsFit : RawTree → Type 0
ArrivalsFit r =
    (types : CellTypes) (c : Core) (xs : Numbered Frame) (port k from at : ℕ) (text : List ℕ)
    → ProcessFits r types c xs → c.halted ≡ None → thing c.ports port ≡ Some k
    → Fine r types (arrive k (packet from at text) c).halted (arrive k (packet from at text) c) xs

abbrev pub DeliveriesFit : RawTree → Type 0
DeliveriesFit r =
    (types : CellTypes) (c : Core) (xs : Numbered Frame) (k : ℕ) (o : OutcomeTree) (u : TypeTree) → ProcessFits r types c xs
    → c.halted ≡ None
    → types k ≡ Some (FutureType u) → OutcomeFits r.records (typed_by types) o u → Fine r types (deliver k o c).halted (deliver k o c) xs

-- A boot of `main`, where actors are numbered in order.
abbrev pub BootsFit : RawTree → Type 0
BootsFit r =
    (types : CellTypes) (me : ℕ) (p : Proc Frame) → ProcessFits r types p.core p.actors
    → Rising 0 p.core.started p.core.entries → p.core.halted ≡ None
    → IsFine r types (Some (boot (classes r) me p, None))
