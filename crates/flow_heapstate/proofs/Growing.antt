-- Waiters, elements and callbacks that come one after another.
use Rattle.std.proofs.Common.{◌≡◌, List, [], ◌∷◌, ap}
use Rattle.std.proofs.lemmas.List.{append_assoc, append-nil}
use Rattle.flow_value.specs.declared.value.Value.{Value}
use Rattle.flow_value.specs.declared.value.Outcome.{Outcome}
use Rattle.flow_cell.specs.declared.waiter.Waiter.{Waiter}
use Rattle.flow_cell.specs.Cells.{CellTree}
use Rattle.flow_heapstate.specs.Restoring.{waiters_more, queue_more, callbacks_more}
use Rattle.flow_stream.specs.Streams.{StreamTree}
use Rattle.flow_frame.specs.declared.held.Held.{Held}
use Rattle.flow_frame.specs.Frames.{FrameTree}

pub waiters_both : (c : CellTree Outcome) (w : Waiter) (ws : List Waiter) → waiters_more (waiters_more c (w ∷ [])) ws ≡ waiters_more c (w ∷ ws)
waiters_both c w ws = ap (λ xs. record c { waiters = xs }) (append_assoc c.waiters (w ∷ []) ws)

pub waiters_none : (c : CellTree Outcome) → waiters_more c [] ≡ c
waiters_none c = ap (λ xs. record c { waiters = xs }) (append-nil c.waiters)

pub queue_both : (s : StreamTree Value) (v : Value) (vs : List Value) → queue_more (queue_more s (v ∷ [])) vs ≡ queue_more s (v ∷ vs)
queue_both s v vs = ap (λ xs. record s { queue = xs }) (append_assoc s.queue (v ∷ []) vs)

pub queue_none : (s : StreamTree Value) → queue_more s [] ≡ s
queue_none s = ap (λ xs. record s { queue = xs }) (append-nil s.queue)

pub callbacks_both : (f : FrameTree Value) (h : Held) (hs : List Held) → callbacks_more (callbacks_more f (h ∷ [])) hs ≡ callbacks_more f (h ∷ hs)
callbacks_both f h hs = ap (λ xs. record f { callbacks = xs }) (append_assoc f.callbacks (h ∷ []) hs)

pub callbacks_none : (f : FrameTree Value) → callbacks_more f [] ≡ f
callbacks_none f = ap (λ xs. record f { callbacks = xs }) (append-nil f.callbacks)
