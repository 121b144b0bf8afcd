use Rattle.std.proofs.Common.{◌≡◌, ℕ, Bool, true, false, is_some, Some, None, refl, sym, ap, ap₂, ◌∙◌, subst}
use Rattle.flow_value.specs.declared.value.Value.{Value}
use Rattle.flow_numbered.specs.Numbered.{Store, thing, with_thing}
use Rattle.flow_cell.specs.declared.counts.Side.{Side}
use Rattle.flow_cell.specs.declared.counts.Loss.{Loss}
use Rattle.flow_cell.specs.declared.counts.Loss.TheVariants as loss
use Rattle.flow_cell.specs.Cells.{Counts, loss, released}
use Rattle.flow_stream.specs.Streams.{StreamTree}
use Rattle.flow_cancel.specs.declared.task.Dropped.{Dropped}
use Rattle.flow_cancel.specs.declared.task.Dropped.TheVariants.{Freed, Nothing, PortFreed}
use Rattle.flow_cancel.specs.contracts.heap.Heap.{the_view}
use Rattle.flow_cancel.specs.Heap.{HeapTree, has_number}
use Rattle.flow_cancel.specs.Dropping.{Lost, broken_if_not, unheard, without_port, one_promise, stream_less, stream_lost, drop_stream, freed_stream, put_stream}
use Rattle.flow_cancel.proofs.Puts.{found_put}
use Rattle.flow_cancel.proofs.Losses.{StreamLoses, stream_loses, none_left, no_future, a_future, freed_less_stream}
use Rattle.flow_cancel.proofs.heap.Heap.drop_stream.Goals as goal

-- the cell after the loss
less : (s : Side) (port : Bool) (k : ℕ) (old new : Store (StreamTree Value)) (l : StreamLoses s port (thing old.things k)) → new ≡ with_thing old k (stream_less s l.stream)
    → thing new.things k ≡ Some (stream_less s l.stream)
less s port k old new l e = ap (λ (x : Store (StreamTree Value)). thing x.things k) e ∙ found_put old.things k l.stream (stream_less s l.stream) l.there

pub ended-requires : goal.ended-requires
ended-requires c =
    let l = stream_loses c.args.side (has_number c.self.inside.ports.keys c.args.cell.0) (thing c.self.inside.streams.things c.args.cell.0) (rw (← c.self.view_is) at c.requires) in
    rw (less c.args.side _ c.args.cell.0 c.self.inside.streams c.release.new.self l (c.release.ensures.counts l.stream l.there)) refl

pub free_stream-requires-clause-there : goal.free_stream-requires-clause-there
free_stream-requires-clause-there c =
    let l = stream_loses c.args.side (has_number c.self.inside.ports.keys c.args.cell.0) (thing c.self.inside.streams.things c.args.cell.0) (rw (← c.self.view_is) at c.requires) in
    rw (less c.args.side _ c.args.cell.0 c.self.inside.streams c.release.new.self l (c.release.ensures.counts l.stream l.there)) refl

pub free_stream-requires-clause-references : goal.free_stream-requires-clause-references
free_stream-requires-clause-references c = λ x is.
    let l = stream_loses c.args.side (has_number c.self.inside.ports.keys c.args.cell.0) (thing c.self.inside.streams.things c.args.cell.0) (rw (← c.self.view_is) at c.requires) in
    let there = less c.args.side _ c.args.cell.0 c.self.inside.streams c.release.new.self l (c.release.ensures.counts l.stream l.there) in
    let same : x ≡ stream_less c.args.side l.stream = cc (there, is) in
    ap (λ (y : StreamTree Value). y.references) same ∙ none_left c.args.side _ (sym (c.release.ensures.loss l.stream l.there) ∙ c.in-Gone.is)

pub free_stream-requires-clause-waiter : goal.free_stream-requires-clause-waiter
free_stream-requires-clause-waiter c = λ x is.
    let l = stream_loses c.args.side (has_number c.self.inside.ports.keys c.args.cell.0) (thing c.self.inside.streams.things c.args.cell.0) (rw (← c.self.view_is) at c.requires) in
    let there = less c.args.side _ c.args.cell.0 c.self.inside.streams c.release.new.self l (c.release.ensures.counts l.stream l.there) in
    let same : x ≡ stream_less c.args.side l.stream = cc (there, is) in
    ap (λ (y : StreamTree Value). y.waiter) same ∙ l.alone (sym (c.release.ensures.loss l.stream l.there) ∙ c.in-Gone.is)

-- the heap after the loss, by what the loss leaves
lost : (s : Side) (port : Bool) (k : ℕ) (h : HeapTree) (l : StreamLoses s port (thing h.streams.things k)) (m : Loss) → loss s (released s l.stream.references) ≡ m
    → drop_stream s k h (thing h.streams.things k) ≡ stream_lost k (stream_less s l.stream) h m
lost s port k h l m e = ap (drop_stream s k h) l.there ∙ ap (stream_lost k (stream_less s l.stream) h) e

pub returns-in-LastPromise : goal.returns-in-LastPromise
returns-in-LastPromise c =
    let h = the_view c.self.inside in
    let k = c.args.cell.0 in
    let l = stream_loses c.args.side (has_number c.self.inside.ports.keys c.args.cell.0) (thing c.self.inside.streams.things k) (rw (← c.self.view_is) at c.requires) in
    let counts = c.release.ensures.counts l.stream l.there in
    let there = less c.args.side _ k c.self.inside.streams c.release.new.self l counts in
    rw (← c.self.view_is)
    (ap₂ (λ (s : Store (StreamTree Value)) (d : Dropped). (record h { streams = s }, d)) counts
    (c.broken_if_not.ensures ∙ ap broken_if_not (c.ended.ensures (stream_less c.args.side l.stream) there))
    ∙ sym (lost c.args.side _ k h l loss.LastPromise (sym (c.release.ensures.loss l.stream l.there) ∙ c.in-LastPromise.is)))

pub returns-in_ok-free_stream-in-Gone : goal.returns-in_ok-free_stream-in-Gone
returns-in_ok-free_stream-in-Gone c =
    let h = the_view c.self.inside in
    let k = c.args.cell.0 in
    let l = stream_loses c.args.side (has_number c.self.inside.ports.keys c.args.cell.0) (thing c.self.inside.streams.things k) (rw (← c.self.view_is) at c.requires) in
    let counts = c.release.ensures.counts l.stream l.there in
    let gone =
    c.in_ok-free_stream-in-Gone.ensures ∙ ap (λ (s : Store (StreamTree Value)). freed_stream k (record h { streams = s }) (thing s.things k)) counts
    ∙ freed_less_stream k l.stream (stream_less c.args.side l.stream) h l.there in
    rw (← c.self.view_is)
    (ap (λ (x : HeapTree). (x, Freed)) gone
    ∙ sym (lost c.args.side _ k h l loss.Gone (sym (c.release.ensures.loss l.stream l.there) ∙ c.in-Gone.is)))

pub returns-then-not-is_port : goal.returns-then-not-is_port
returns-then-not-is_port c =
    let h = the_view c.self.inside in
    let k = c.args.cell.0 in
    let l = stream_loses c.args.side (has_number c.self.inside.ports.keys c.args.cell.0) (thing c.self.inside.streams.things k) (rw (← c.self.view_is) at c.requires) in
    let counts = c.release.ensures.counts l.stream l.there in
    let port : has_number h.ports k ≡ false = sym c.is_port.ensures ∙ c.if-not-is_port.true in
    rw (← c.self.view_is)
    (ap (λ (s : Store (StreamTree Value)). (record h { streams = s }, Nothing)) counts ∙ sym (ap (unheard k (stream_less c.args.side l.stream) h) port)
    ∙ sym (lost c.args.side _ k h l loss.LastFuture (sym (c.release.ensures.loss l.stream l.there) ∙ c.in-LastFuture.is)))

pub free_port-requires-clause-there : goal.free_port-requires-clause-there
free_port-requires-clause-there c =
    let l = stream_loses c.args.side (has_number c.self.inside.ports.keys c.args.cell.0) (thing c.self.inside.streams.things c.args.cell.0) (rw (← c.self.view_is) at c.requires) in
    rw (less c.args.side _ c.args.cell.0 c.self.inside.streams c.release.new.self l (c.release.ensures.counts l.stream l.there)) refl

-- the references of a port's stream that lost its last future
one_left : (s : Side) (r : Counts) → loss s (released s r) ≡ loss.LastFuture → r.promises ≡ 1 → released s r ≡ one_promise
one_left s r e one =
    ap₂ (λ p f. record { promises = p; futures = f }) (a_future s r e ∙ one) (no_future s (released s r) e)

pub free_port-requires-clause-references : goal.free_port-requires-clause-references
free_port-requires-clause-references c = λ x is.
    let l = stream_loses c.args.side (has_number c.self.inside.ports.keys c.args.cell.0) (thing c.self.inside.streams.things c.args.cell.0) (rw (← c.self.view_is) at c.requires) in
    let there = less c.args.side _ c.args.cell.0 c.self.inside.streams c.release.new.self l (c.release.ensures.counts l.stream l.there) in
    let same : x ≡ stream_less c.args.side l.stream = cc (there, is) in
    let last = sym (c.release.ensures.loss l.stream l.there) ∙ c.in-LastFuture.is in
    ap (λ (y : StreamTree Value). y.references) same ∙ one_left c.args.side l.stream.references last (l.one last (sym c.is_port.ensures ∙ c.if-not-is_port.false))

pub free_port-requires-clause-waiter : goal.free_port-requires-clause-waiter
free_port-requires-clause-waiter c = λ x is.
    let l = stream_loses c.args.side (has_number c.self.inside.ports.keys c.args.cell.0) (thing c.self.inside.streams.things c.args.cell.0) (rw (← c.self.view_is) at c.requires) in
    let there = less c.args.side _ c.args.cell.0 c.self.inside.streams c.release.new.self l (c.release.ensures.counts l.stream l.there) in
    let same : x ≡ stream_less c.args.side l.stream = cc (there, is) in
    let last = sym (c.release.ensures.loss l.stream l.there) ∙ c.in-LastFuture.is in
    ap (λ (y : StreamTree Value). y.waiter) same ∙ l.unheard last (sym c.is_port.ensures ∙ c.if-not-is_port.false)

pub returns-in_ok-free_port-in-LastFuture : goal.returns-in_ok-free_port-in-LastFuture
returns-in_ok-free_port-in-LastFuture c =
    let h = the_view c.self.inside in
    let k = c.args.cell.0 in
    let l = stream_loses c.args.side (has_number c.self.inside.ports.keys c.args.cell.0) (thing c.self.inside.streams.things k) (rw (← c.self.view_is) at c.requires) in
    let counts = c.release.ensures.counts l.stream l.there in
    let port : has_number h.ports k ≡ true = sym c.is_port.ensures ∙ c.if-not-is_port.false in
    let gone =
    c.in_ok-free_port-in-LastFuture.ensures ∙ ap (λ (s : Store (StreamTree Value)). freed_stream k (without_port k (record h { streams = s })) (thing s.things k)) counts
    ∙ freed_less_stream k l.stream (stream_less c.args.side l.stream) (without_port k h) l.there in
    rw (← c.self.view_is)
    (ap (λ (x : HeapTree). (x, PortFreed)) gone ∙ sym (ap (unheard k (stream_less c.args.side l.stream) h) port)
    ∙ sym (lost c.args.side _ k h l loss.LastFuture (sym (c.release.ensures.loss l.stream l.there) ∙ c.in-LastFuture.is)))
