-- No actor comes to be in the state of a wait while the world serves what was asked.
use Rattle.std.proofs.Common.{◌≡◌, inr, ℕ, Bool, true, false, refl, sym, subst}
use Rattle.std.specs.Prelude.{List, ℤ}
use Rattle.std.specs.declared.option.Option.{Option}
use Rattle.std.specs.declared.option.Option.TheVariants.{None, Some}
use Rattle.flow_base.specs.declared.ids.ActorId.{ActorId}
use Rattle.flow_base.specs.declared.ids.CellId.{CellId}
use Rattle.flow_value.specs.declared.value.Outcome.{Outcome}
use Rattle.flow_value.specs.declared.value.Value.{Value}
use Rattle.flow_value.specs.declared.value.Kind.{Kind}
use Rattle.flow_value.specs.declared.value.Kind.TheVariants as kind
use Rattle.flow_trace.specs.declared.line.Line.{Line}
use Rattle.flow_numbered.specs.Numbered.{thing, Numbered}
use Rattle.flow_cell.specs.declared.counts.Side.{Side}
use Rattle.flow_cell.specs.declared.counts.Side.TheVariants.{Promise, Future}
use Rattle.flow_cell.specs.Cells.{CellTree}
use Rattle.flow_stream.specs.Streams.{StreamTree}
use Rattle.flow_cancel.specs.declared.task.Task.{Task}
use Rattle.flow_cancel.specs.Heap.{HeapTree, pushed}
use Rattle.flow_meaning.specs.Requests.{DiskCall}
use Rattle.flow_meaning.specs.Burst.{Host}
use Rattle.flow_heap_refinement.specs.Holds.{held_cell, held_stream, hold}
use Rattle.flow_steps.specs.declared.call.Call.{Call}
use Rattle.flow_steps.specs.declared.call.Call.TheVariants as call
use Rattle.flow_steps.specs.declared.call.Goal.{Goal}
use Rattle.flow_steps.specs.declared.process.Process.{Process}
use Rattle.flow_steps.specs.Doing.{doing}
use Rattle.flow_steps.specs.Holding.{on_heap}
use Rattle.flow_steps.specs.Delivering.{made, requested, heard, OpenGiven, PortGiven}
use Rattle.flow_machine.specs.Serving.{DrawServed, DelayServed, DiskServed, PortOpened, ListenServed, SendServed, Served}
use Rattle.flow_step_refinement.specs.Resuming.{IsEnding, NoStaleWaits}
use Rattle.flow_step_refinement.proofs.Resuming.Tasks.{aside_keeps, gives_keeps}

-- what is done beside frames and tasks
beside : (h g : HeapTree) → g.frames ≡ h.frames → g.tasks ≡ h.tasks → NoStaleWaits h → NoStaleWaits g
beside h g f t p = aside_keeps h g f (λ i e. subst (IsEnding i) (sym t) e) p

hold_frames : (kd : Kind) (k : ℕ) (h : HeapTree) → NoStaleWaits h → NoStaleWaits (hold kd k h)
hold_frames kd k h p = by_kind kd
  where
    cell : (s : Side) (x : Option (CellTree Outcome)) → NoStaleWaits (held_cell s k x h)
    cell s None = p
    cell s (Some c) = beside h (held_cell s k (Some c) h) refl refl p

    stream : (s : Side) (x : Option (StreamTree Value)) → NoStaleWaits (held_stream s k x h)
    stream s None = p
    stream s (Some c) = beside h (held_stream s k (Some c) h) refl refl p

    by_kind : (kd : Kind) → NoStaleWaits (hold kd k h)
    by_kind kind.Promise = cell Promise (thing h.cells.things k)
    by_kind kind.Future = cell Future (thing h.cells.things k)
    by_kind kind.PromiseStream = stream Promise (thing h.streams.things k)
    by_kind kind.FutureStream = stream Future (thing h.streams.things k)

does_poised : (t : Task) (m n : Process) → n ≡ doing t m → NoStaleWaits m.heap → NoStaleWaits n.heap
does_poised t m n e p = subst (λ (x : Process). NoStaleWaits x.heap) (sym e) (aside_keeps m.heap (pushed t m.heap) refl (λ i z. inr z) p)

open_poised : (g : Goal) (i : ActorId) (k : CellId) (m n : Process) → OpenGiven g i k m n → NoStaleWaits m.heap → NoStaleWaits n.heap
open_poised g i k m n h p =
    let a = on_heap (made kind.Future) m in
    let one = gives_keeps g i _ a h.between h.given (beside m.heap a.heap refl refl p) in
    let two = hold_frames kind.Promise k.0 h.between.heap one in
    subst (λ (x : Process). NoStaleWaits x.heap) (sym h.requested_then) (beside (hold kind.Promise k.0 h.between.heap) (requested k.0 (hold kind.Promise k.0 h.between.heap)) refl refl two)

port_poised : (g : Goal) (i : ActorId) (k : CellId) (m n : Process) → PortGiven g i k m n → NoStaleWaits m.heap → NoStaleWaits n.heap
port_poised g i k m n h p =
    let a = on_heap (made kind.FutureStream) m in
    let one = gives_keeps g i _ a h.between h.given (beside m.heap a.heap refl refl p) in
    let two = hold_frames kind.PromiseStream k.0 h.between.heap one in
    subst (λ (x : Process). NoStaleWaits x.heap) (sym h.heard_then) (beside (hold kind.PromiseStream k.0 h.between.heap) (heard k.0 (hold kind.PromiseStream k.0 h.between.heap)) refl refl two)

module _ {A W : Type 0} (serves : Host W) (shows : A → Numbered ℕ → W → Type 0) (wrote : A → List Line → A → Type 0) (m n : Process) (a b : A) where
  draw_poised : (fits : Bool) (i : ActorId) (g : Goal) (lo : ℤ) (width : ℕ) → DrawServed serves shows wrote fits i g lo width m a n b → NoStaleWaits m.heap → NoStaleWaits n.heap
  draw_poised true i g lo width h p = gives_keeps g i _ m n h.given p
  draw_poised false i g lo width h p = does_poised _ m n h.thrown p

  delay_poised : (fits : Bool) (i : ActorId) (g : Goal) (time : ℕ) → DelayServed serves shows wrote fits i g time m a n b → NoStaleWaits m.heap → NoStaleWaits n.heap
  delay_poised true i g time h p = open_poised g i h.cell m n h.given p
  delay_poised false i g time h p = does_poised _ m n h.thrown p

  disk_poised : (o : Option (DiskCall ℕ)) (i : ActorId) (g : Goal) → DiskServed serves shows wrote o i g m a n b → NoStaleWaits m.heap → NoStaleWaits n.heap
  disk_poised (Some asked) i g h p = open_poised g i h.cell m n h.given p
  disk_poised None i g h p = does_poised _ m n h.thrown p

  opened_poised : (used : Bool) (i : ActorId) (g : Goal) (port : ℕ) → PortOpened serves shows wrote used i g port m a n b → NoStaleWaits m.heap → NoStaleWaits n.heap
  opened_poised true i g port h p = does_poised _ m n h.thrown p
  opened_poised false i g port h p = port_poised g i h.cell m n h.given p

  listen_poised : (fits : Bool) (i : ActorId) (g : Goal) (port : ℕ) → ListenServed serves shows wrote fits i g port m a n b → NoStaleWaits m.heap → NoStaleWaits n.heap
  listen_poised true i g port h p = opened_poised h.in_use i g port h.opened p
  listen_poised false i g port h p = does_poised _ m n h.thrown p

  send_poised : (fits : Bool) (i : ActorId) (number port : ℕ) (text : List ℕ) → SendServed serves shows wrote fits i number port text m a n b → NoStaleWaits m.heap → NoStaleWaits n.heap
  send_poised true i number port text h p = does_poised _ m n h.goes p
  send_poised false i number port text h p = does_poised _ m n h.thrown p

  pub served_poised : (count : ℕ) (c : Call) → Served serves shows wrote count c m a n b → NoStaleWaits m.heap → NoStaleWaits n.heap
  served_poised count (call.Line l) h p = subst (λ (x : Process). NoStaleWaits x.heap) (sym h.0) p
  served_poised count (call.Draw i g lo hi) h p = draw_poised _ i g lo _ h p
  served_poised count (call.Delay i g ticks) h p = delay_poised _ i g _ h p
  served_poised count (call.Listen i g port) h p = listen_poised _ i g _ h p
  served_poised count (call.Disk i g d) h p = disk_poised _ i g h p
  served_poised count (call.SendTo i q port text) h p = send_poised _ i _ _ text h p
  served_poised count (call.Unlisten k) h p = subst (λ (x : Process). NoStaleWaits x.heap) (sym h.0) p
