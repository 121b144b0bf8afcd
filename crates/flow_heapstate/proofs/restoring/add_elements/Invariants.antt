use Rattle.std.proofs.Common.{◌≡◌, None, IsSome}
use Rattle.std.specs.Option.{ForSome}
use Rattle.flow_numbered.specs.Numbered.{thing}
use Rattle.flow_heapstate.proofs.Building.{more}
use Rattle.flow_heapstate.specs.Restoring.{queue_more}
use Rattle.flow_heapstate.proofs.restoring.add_elements.Given as goal

abbrev pub invariant-loop-value : goal.invariant-loop-value
invariant-loop-value l = record {
  there : IsSome (thing l.streams.things l.cell.0);
  endless : ForSome (thing l.streams.things l.cell.0) (λ s. s.end ≡ None);
  same : more queue_more l.cell.0 l.value-iterator.rest.items (thing l.streams.things l.cell.0) l.streams
      ≡ more queue_more l.cell.0 l.fn.queue.items (thing l.initial.streams.things l.cell.0) l.initial.streams;
}
