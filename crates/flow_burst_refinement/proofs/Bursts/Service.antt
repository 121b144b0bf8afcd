-- What a process in memory keeps while the world serves what it asked.
use Rattle.std.proofs.Common.{◌≡◌, ℕ, Bool, true, false, refl, sym, ap, subst, ◌∙◌}
use Rattle.std.specs.Prelude.{List}
use Rattle.std.specs.declared.option.Option.{Option}
use Rattle.std.specs.declared.option.Option.TheVariants.{None, Some}
use Rattle.flow_base.specs.declared.ids.ActorId.{ActorId}
use Rattle.flow_base.specs.declared.ids.CellId.{CellId}
use Rattle.flow_value.specs.declared.value.Kind.TheVariants as kind
use Rattle.flow_trace.specs.declared.line.Line.{Line}
use Rattle.flow_cancel.specs.Heap.{HeapTree, has_number, next_cell}
use Rattle.flow_numbered.specs.Numbered.{Numbered}
use Rattle.flow_meaning.specs.Requests.{DiskCall}
use Rattle.flow_meaning.specs.Burst.{Host}
use Rattle.flow_heap_refinement.specs.Rested.{Sorted}
use Rattle.flow_steps.specs.declared.call.Call.{Call}
use Rattle.flow_steps.specs.declared.call.Call.TheVariants as call
use Rattle.flow_steps.specs.declared.call.Goal.{Goal}
use Rattle.flow_steps.specs.declared.process.Process.{Process}
use Rattle.flow_steps.specs.Holding.{on_heap}
use Rattle.flow_steps.specs.Delivering.{made, requested, OpenGiven, PortGiven}
use Rattle.flow_machine.specs.Serving.{Thrown, DrawServed, DelayServed, DiskServed, PortOpened, ListenServed, SendServed, Served}
use Rattle.flow_burst_refinement.proofs.Invariants.Once.{Once}
use Rattle.flow_burst_refinement.proofs.Invariants.Rising.{HeapStays, made_stays, hold_stays}
use Rattle.flow_burst_refinement.proofs.Invariants.Quiet.{Quiet, quiet_still, quiet_then, quiet_is, on_heap_quiet, doing_quiet, gives_quiet}
use Rattle.flow_burst_refinement.proofs.Bursts.Ports.{once_more}

-- the time, and the order of the heap
pub record Serves (m n : Process) : Type 0 where
  pub time : n.time ≡ m.time
  pub sorted : Sorted m.heap → Sorted n.heap

quiet_serves : (m n : Process) → Quiet m n → Serves m n
quiet_serves m n q = record {
  time = q.calm.time;
  sorted = λ s. let r = q.calm.heap.rise (record { cells = s.cells; streams = s.streams; actors = s.actors; frames = s.frames }) in
      record { cells = r.cells; streams = r.streams; actors = r.actors; frames = r.frames; ports = subst Once (sym q.calm.heap.ports) s.ports };
}

requested_stays : (k : ℕ) (h : HeapTree) → HeapStays h (requested k h)
requested_stays k h = record { rise = λ s. record { cells = s.cells; streams = s.streams; actors = s.actors; frames = s.frames }; ports = refl }

open_quiet : (g : Goal) (i : ActorId) (k : CellId) (m n : Process) → OpenGiven g i k m n → Quiet m n
open_quiet g i k m n h =
    let a = on_heap (made kind.Future) m in
    let hold = Rattle.flow_heap_refinement.specs.Holds.hold kind.Promise k.0 in
    let b = on_heap hold h.between in
    quiet_is m n _ h.requested_then
    (quiet_then m a _ (on_heap_quiet (made kind.Future) m (made_stays kind.Future m.heap))
    (quiet_then a h.between _ (gives_quiet g i _ a h.between h.given)
    (quiet_then h.between b _ (on_heap_quiet hold h.between (hold_stays kind.Promise k.0 h.between.heap)) (on_heap_quiet (requested k.0) b (requested_stays k.0 b.heap)))))

port_serves : (g : Goal) (i : ActorId) (k : CellId) (m n : Process) → has_number m.heap.ports (next_cell m.heap) ≡ false → PortGiven g i k m n → Serves m n
port_serves g i k m n none h =
    let a = on_heap (made kind.FutureStream) m in
    let hold = Rattle.flow_heap_refinement.specs.Holds.hold kind.PromiseStream k.0 in
    let b = on_heap hold h.between in
    let quiet : Quiet m b =
    quiet_then m a b (on_heap_quiet (made kind.FutureStream) m (made_stays kind.FutureStream m.heap))
    (quiet_then a h.between b (gives_quiet g i _ a h.between h.given) (on_heap_quiet hold h.between (hold_stays kind.PromiseStream k.0 h.between.heap))) in
    record {
      time = ap (λ (x : Process). x.time) h.heard_then ∙ quiet.calm.time;
      sorted = λ s. let r = quiet.calm.heap.rise (record { cells = s.cells; streams = s.streams; actors = s.actors; frames = s.frames }) in
          let free : has_number b.heap.ports k.0 ≡ false = ap (λ ps. has_number ps k.0) quiet.calm.heap.ports ∙ ap (has_number m.heap.ports) h.number ∙ none in
          subst (λ (x : Process). Sorted x.heap) (sym h.heard_then)
          (record { cells = r.cells; streams = r.streams; actors = r.actors; frames = r.frames; ports = once_more k.0 b.heap.ports free (subst Once (sym quiet.calm.heap.ports) s.ports) });
    }

module _ {A W : Type 0} (serves : Host W) (shows : A → Numbered ℕ → W → Type 0) (wrote : A → List Line → A → Type 0) (m n : Process) (a b : A)
    (none : has_number m.heap.ports (next_cell m.heap) ≡ false) where
  thrown_serves : (i : ActorId) (e : ℕ) → Thrown serves shows wrote i e m a n b → Serves m n
  thrown_serves i e h = quiet_serves m n (quiet_is m n _ h.thrown (doing_quiet _ m))

  draw_serves : (fits : Bool) (i : ActorId) (g : Goal) (lo : _) (width : ℕ) → DrawServed serves shows wrote fits i g lo width m a n b → Serves m n
  draw_serves true i g lo width h = quiet_serves m n (gives_quiet g i _ m n h.given)
  draw_serves false i g lo width h = thrown_serves i _ h

  delay_serves : (fits : Bool) (i : ActorId) (g : Goal) (time : ℕ) → DelayServed serves shows wrote fits i g time m a n b → Serves m n
  delay_serves true i g time h = quiet_serves m n (open_quiet g i h.cell m n h.given)
  delay_serves false i g time h = thrown_serves i _ h

  disk_serves : (o : Option (DiskCall ℕ)) (i : ActorId) (g : Goal) → DiskServed serves shows wrote o i g m a n b → Serves m n
  disk_serves (Some asked) i g h = quiet_serves m n (open_quiet g i h.cell m n h.given)
  disk_serves None i g h = thrown_serves i _ h

  opened_serves : (used : Bool) (i : ActorId) (g : Goal) (port : ℕ) → PortOpened serves shows wrote used i g port m a n b → Serves m n
  opened_serves true i g port h = thrown_serves i _ h
  opened_serves false i g port h = port_serves g i h.cell m n none h.given

  listen_serves : (fits : Bool) (i : ActorId) (g : Goal) (port : ℕ) → ListenServed serves shows wrote fits i g port m a n b → Serves m n
  listen_serves true i g port h = opened_serves h.in_use i g port h.opened
  listen_serves false i g port h = thrown_serves i _ h

  send_serves : (fits : Bool) (i : ActorId) (number port : ℕ) (text : List ℕ) → SendServed serves shows wrote fits i number port text m a n b → Serves m n
  send_serves true i number port text h = quiet_serves m n (quiet_is m n _ h.goes (doing_quiet _ m))
  send_serves false i number port text h = thrown_serves i _ h

  pub served_serves : (count : ℕ) (c : Call) → Served serves shows wrote count c m a n b → Serves m n
  served_serves count (call.Line l) h = quiet_serves m n (quiet_is m n m h.0 (quiet_still m))
  served_serves count (call.Draw i g lo hi) h = draw_serves _ i g lo _ h
  served_serves count (call.Delay i g ticks) h = delay_serves _ i g _ h
  served_serves count (call.Listen i g port) h = listen_serves _ i g _ h
  served_serves count (call.Disk i g d) h = disk_serves _ i g h
  served_serves count (call.SendTo i q port text) h = send_serves _ i _ _ text h
  served_serves count (call.Unlisten k) h = quiet_serves m n (quiet_is m n m h.0 (quiet_still m))
