use Rattle.std.proofs.Common.{◌≡◌, ℕ, List, IsSome, Some, refl, sym, ap, ap₂, ◌∙◌}
use Rattle.flow_value.specs.declared.value.Value.{Value}
use Rattle.flow_numbered.specs.Numbered.{Store, thing, with_thing}
use Rattle.flow_cell.specs.declared.counts.Side.TheVariants.{Promise}
use Rattle.flow_cell.specs.Cells.{released}
use Rattle.flow_stream.specs.Streams.{StreamTree}
use Rattle.flow_cancel.specs.contracts.heap.Heap.{the_view}
use Rattle.flow_cancel.specs.Heap.{HeapTree, without_number}
use Rattle.flow_cancel.specs.Dropping.{stream_less, freed_stream, without_port, put_stream}
use Rattle.flow_cancel.proofs.Puts.{found_put, some_of}
use Rattle.flow_cancel.proofs.Losses.{freed_less_stream}
use Rattle.flow_cancel.proofs.heap.Heap.free_port.Goals as goal

-- the stream without its promise
less : (k : ℕ) (old new : Store (StreamTree Value)) (s : StreamTree Value) → thing old.things k ≡ Some s → new ≡ with_thing old k (stream_less Promise s)
    → thing new.things k ≡ Some (stream_less Promise s)
less k old new s there e = ap (λ (x : Store (StreamTree Value)). thing x.things k) e ∙ found_put old.things k s (stream_less Promise s) there

pub free_stream-requires-clause-there : goal.free_stream-requires-clause-there
free_stream-requires-clause-there c =
    let l = some_of (thing c.self.inside.streams.things c.args.cell.0) (rw (← c.self.view_is) at c.requires.there) in
    rw (less c.args.cell.0 c.self.inside.streams c.release.new.self l.0 l.1 (c.release.ensures.counts l.0 l.1)) refl

pub free_stream-requires-clause-references : goal.free_stream-requires-clause-references
free_stream-requires-clause-references c = λ x is.
    let l = some_of (thing c.self.inside.streams.things c.args.cell.0) (rw (← c.self.view_is) at c.requires.there) in
    let there = less c.args.cell.0 c.self.inside.streams c.release.new.self l.0 l.1 (c.release.ensures.counts l.0 l.1) in
    let same : x ≡ stream_less Promise l.0 = cc (there, is) in
    ap (λ (y : StreamTree Value). y.references) same ∙ ap (released Promise) ((rw (← c.self.view_is) at c.requires.references) l.0 l.1)

pub free_stream-requires-clause-waiter : goal.free_stream-requires-clause-waiter
free_stream-requires-clause-waiter c = λ x is.
    let l = some_of (thing c.self.inside.streams.things c.args.cell.0) (rw (← c.self.view_is) at c.requires.there) in
    let there = less c.args.cell.0 c.self.inside.streams c.release.new.self l.0 l.1 (c.release.ensures.counts l.0 l.1) in
    let same : x ≡ stream_less Promise l.0 = cc (there, is) in
    ap (λ (y : StreamTree Value). y.waiter) same ∙ (rw (← c.self.view_is) at c.requires.waiter) l.0 l.1

pub returns : goal.returns
returns c =
    let h = the_view c.self.inside in
    let k = c.args.cell.0 in
    let l = some_of (thing c.self.inside.streams.things k) (rw (← c.self.view_is) at c.requires.there) in
    let counts = c.release.ensures.counts l.0 l.1 in
    rw (← c.self.view_is)
    (c.in_ok-free_stream.ensures
    ∙ ap₂ (λ (ps : List ℕ) (s : Store (StreamTree Value)). freed_stream k (record h { ports = ps; streams = s }) (thing s.things k)) c.remove.ensures.keys counts
    ∙ freed_less_stream k l.0 (stream_less Promise l.0) (without_port k h) l.1 ∙ sym (ap (freed_stream k (without_port k h)) l.1))
