use Rattle.std.proofs.Common.{length}
use Rattle.std.specs.Option.{ForSome}
use Rattle.flow_value.specs.View.{value_of}
use Rattle.flow_numbered.specs.Numbered.{thing}
use Rattle.flow_heapstate.proofs.Reading.{IsReadOf, left_of}
use Rattle.flow_heapstate.proofs.parts.elements.Given as goal

abbrev pub invariant-loop-value : goal.invariant-loop-value
invariant-loop-value l = ForSome (thing l.streams.things l.cell.0) (λ s. IsReadOf value_of value_of s.queue l.elements.items)

abbrev pub decreases-loop-value : goal.decreases-loop-value
decreases-loop-value l = left_of (λ s. s.queue) (thing l.streams.things l.cell.0) (length l.elements.items)
