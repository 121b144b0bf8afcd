-- What comes to a process in memory from outside, what is made in it and sent is what the definitions have.
use Rattle.std.specs.Prelude.{◌≡◌, ℕ, suc, true, List}
use Rattle.std.specs.declared.option.Option.TheVariants.{None}
use Rattle.flow_base.specs.declared.ids.ActorId.{ActorId}
use Rattle.flow_base.specs.declared.ids.CellId.{CellId}
use Rattle.flow_value.specs.declared.value.Value.TheVariants.{Ref}
use Rattle.flow_value.specs.declared.value.Outcome.{Outcome}
use Rattle.flow_value.specs.declared.value.Kind.{Kind}
use Rattle.flow_value.specs.declared.value.Kind.TheVariants as kind
use Rattle.flow_value.specs.View.{outcome_of}
use Rattle.flow_class.specs.Classes.{RawTree}
use Rattle.flow_trace.specs.declared.line.Line.{Line}
use Rattle.flow_cancel.specs.Heap.{next_cell}
use Rattle.flow_numbered.specs.Numbered.{thing}
use Rattle.flow_meaning.specs.Requests as asks
use Rattle.flow_meaning.specs.Process.{Drop, Proc}
use Rattle.flow_meaning.specs.References.{Scan}
use Rattle.flow_meaning.specs.Orderly.{Rising}
use Rattle.flow_meaning.specs.Work.{turn, pushed, fill, new_cell}
use Rattle.flow_meaning.specs.Effects.{gives_new, gives_open, empty_cell, open_port}
use Rattle.flow_meaning.specs.React.{send_in}
use Rattle.flow_meaning.specs.Deliver.{closed_request, stop}
use Rattle.flow_meaning.specs.Step.{on_core}
use Rattle.flow_meaning.specs.Frame.{Frame}
use Rattle.flow_heap_refinement.specs.Rested.{has, InNumbers}
use Rattle.flow_heap_refinement.specs.Holds.{There, AllThere}
use Rattle.flow_steps.specs.declared.call.Goal.{Goal}
use Rattle.flow_steps.specs.declared.process.Process.{Process}
use Rattle.flow_steps.specs.Holding.{on_heap, outcome_refs, Gives}
use Rattle.flow_steps.specs.Delivering.{brought, answered, main_dropped, made, OpenGiven, PortGiven, sending}
use Rattle.flow_operation_refinement.specs.Matching.{ProcessRepresents, Matches}
use Rattle.flow_operation_refinement.specs.Working.{SameGoal, Sendable}

module _ (r : RawTree) (ls : List Line) (x : Scan) (m : Process) (p : Proc Frame) where
  -- a cell gets content from outside, where a turn is left
  abbrev pub ContentDelivered : Type 0
  ContentDelivered =
      (kd : Kind) (k : ℕ) (o : Outcome) → ProcessRepresents r ls x m p → AllThere p (outcome_refs o) → Sendable p kd k
      → Matches r ls x (brought kd k o m) (on_core (λ c. turn c (λ d. fill k (outcome_of o) d)) p)

  -- an open request is answered: its promise is to be dropped
  abbrev pub RequestAnswered : Type 0
  RequestAnswered =
      (k : ℕ) → ProcessRepresents r ls x m p → has k p.core.requests ≡ true
      → ProcessRepresents r ls x (on_heap (answered k) m)
      (on_core (λ c. pushed (Drop kind.Promise k) (record c { requests = closed_request k c.requests })) p)

  -- the hold on the result of `main` is dropped
  abbrev pub MainDropped : Type 0
  MainDropped = ProcessRepresents r ls x m p → ProcessRepresents r ls x (on_heap (main_dropped m.heap.main) m) (on_core stop p)

  -- a new cell, to which nobody refers yet
  abbrev pub CellMade : Type 0
  CellMade =
      (kd : Kind) → ProcessRepresents r ls x m p → Rising 0 p.core.made p.core.cells
      → ProcessRepresents r ls x (on_heap (made kd) m) (on_core (new_cell (empty_cell kd)) p)

  -- a new cell is given, one for which the world has an open request, and one for a port that nobody listens to
  abbrev pub CellGiven : Type 0
  CellGiven =
      (g : Goal) (h : asks.Goal) (i : ActorId) (kd : Kind) (k : CellId) (n : Process) → ProcessRepresents r ls x m p
      → Rising 0 p.core.made p.core.cells → SameGoal p i.0 g h → k.0 ≡ next_cell m.heap
      → Gives g i (Ref kd k) (on_heap (made kd) m) n
      → ProcessRepresents r ls x n (on_core (gives_new i.0 h kd (empty_cell kd)) p)

  abbrev pub RequestGiven : Type 0
  RequestGiven =
      (g : Goal) (h : asks.Goal) (i : ActorId) (k : CellId) (n : Process) → ProcessRepresents r ls x m p → InNumbers p.core
      → SameGoal p i.0 g h → OpenGiven g i k m n
      → (k.0 ≡ suc p.core.made) × ProcessRepresents r ls x n (on_core (gives_open i.0 h) p)

  abbrev pub StreamGiven : Type 0
  StreamGiven =
      (g : Goal) (h : asks.Goal) (i : ActorId) (k : CellId) (port : ℕ) (n : Process) → ProcessRepresents r ls x m p
      → InNumbers p.core → SameGoal p i.0 g h → thing p.core.ports port ≡ None → PortGiven g i k m n
      → (k.0 ≡ suc p.core.made) × ProcessRepresents r ls x n (on_core (λ c. (open_port i.0 h port (thing c.ports port) c).0) p)

  -- an actor sends an outcome into a cell
  abbrev pub OutcomeSent : Type 0
  OutcomeSent =
      (i : ActorId) (kd : Kind) (k : ℕ) (o : Outcome) → ProcessRepresents r ls x m p → AllThere p (outcome_refs o)
      → There p (kd, k)
      → Matches r ls x (sending i kd k o m) (on_core (λ c. send_in (thing c.cells k) i.0 k (outcome_of o) c) p)
