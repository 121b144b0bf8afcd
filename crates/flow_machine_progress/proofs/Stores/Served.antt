-- What the world makes of a call.
use Rattle.std.proofs.Common.{◌≡◌, ℕ, Bool, true, false, List}
use Rattle.std.specs.Prelude.{ℤ}
use Rattle.std.specs.declared.option.Option.{Option}
use Rattle.std.specs.declared.option.Option.TheVariants.{None, Some}
use Rattle.flow_base.specs.declared.ids.ActorId.{ActorId}
use Rattle.flow_base.specs.declared.ids.CellId.{CellId}
use Rattle.flow_value.specs.declared.value.Kind.TheVariants as kind
use Rattle.flow_simdisk.specs.Asks.{DiskCall}
use Rattle.flow_trace.specs.declared.line.Line.{Line}
use Rattle.flow_cancel.specs.declared.task.Task.{Task}
use Rattle.flow_numbered.specs.Numbered.{Numbered}
use Rattle.flow_meaning.specs.Burst.{Host}
use Rattle.flow_steps.specs.declared.call.Call.{Call}
use Rattle.flow_steps.specs.declared.call.Call.TheVariants as call
use Rattle.flow_steps.specs.declared.call.Goal.{Goal}
use Rattle.flow_steps.specs.declared.process.Process.{Process}
use Rattle.flow_steps.specs.Doing.{doing}
use Rattle.flow_steps.specs.Holding.{on_heap}
use Rattle.flow_steps.specs.Delivering.{made, OpenGiven, PortGiven}
use Rattle.flow_machine.specs.Serving.{DrawServed, DelayServed, DiskServed, PortOpened, ListenServed, SendServed, Served}
use Rattle.flow_machine_progress.specs.Stores as law
use Rattle.flow_machine_progress.specs.Stores.{StoresNone, NoPromiseStored}
use Rattle.flow_machine_progress.proofs.Stores.Beside.{making, holding}
use Rattle.flow_machine_progress.proofs.Stores.Steps.{good_is, stream_seen, number_seen, gives_good, gives_future}

does_good : (t : Task) (m n : Process) → n ≡ doing t m → StoresNone t → NoPromiseStored m.heap → NoPromiseStored n.heap
does_good t m n e none p = good_is n (doing t m) e (none, p)

open_good : (g : Goal) (i : ActorId) (k : CellId) (m n : Process) → OpenGiven g i k m n → NoPromiseStored m.heap → NoPromiseStored n.heap
open_good g i k m n h p =
    good_is n _ h.requested_then
    (holding kind.Promise k.0 h.between.heap (gives_future g i k (on_heap (made kind.Future) m) h.between h.given (making kind.Future m.heap p)))

port_good : (g : Goal) (i : ActorId) (k : CellId) (m n : Process) → PortGiven g i k m n → NoPromiseStored m.heap → NoPromiseStored n.heap
port_good g i k m n h p =
    good_is n _ h.heard_then
    (holding kind.PromiseStream k.0 h.between.heap
    (gives_good g i _ (on_heap (made kind.FutureStream) m) h.between (stream_seen k) h.given (making kind.FutureStream m.heap p)))

module _ {A W : Type 0} (serves : Host W) (shows : A → Numbered ℕ → W → Type 0) (wrote : A → List Line → A → Type 0) (m n : Process) (a b : A) where
  draw_good : (fits : Bool) (i : ActorId) (g : Goal) (lo : ℤ) (width : ℕ) → DrawServed serves shows wrote fits i g lo width m a n b → NoPromiseStored m.heap → NoPromiseStored n.heap
  draw_good true i g lo width h p = gives_good g i _ m n (number_seen h.number) h.given p
  draw_good false i g lo width h p = does_good _ m n h.thrown tt p

  delay_good : (fits : Bool) (i : ActorId) (g : Goal) (time : ℕ) → DelayServed serves shows wrote fits i g time m a n b → NoPromiseStored m.heap → NoPromiseStored n.heap
  delay_good true i g time h p = open_good g i h.cell m n h.given p
  delay_good false i g time h p = does_good _ m n h.thrown tt p

  disk_good : (o : Option (DiskCall ℕ)) (i : ActorId) (g : Goal) → DiskServed serves shows wrote o i g m a n b → NoPromiseStored m.heap → NoPromiseStored n.heap
  disk_good (Some asked) i g h p = open_good g i h.cell m n h.given p
  disk_good None i g h p = does_good _ m n h.thrown tt p

  opened_good : (used : Bool) (i : ActorId) (g : Goal) (port : ℕ) → PortOpened serves shows wrote used i g port m a n b → NoPromiseStored m.heap → NoPromiseStored n.heap
  opened_good true i g port h p = does_good _ m n h.thrown tt p
  opened_good false i g port h p = port_good g i h.cell m n h.given p

  listen_good : (fits : Bool) (i : ActorId) (g : Goal) (port : ℕ) → ListenServed serves shows wrote fits i g port m a n b → NoPromiseStored m.heap → NoPromiseStored n.heap
  listen_good true i g port h p = opened_good h.in_use i g port h.opened p
  listen_good false i g port h p = does_good _ m n h.thrown tt p

  send_good : (fits : Bool) (i : ActorId) (number port : ℕ) (text : List ℕ) → SendServed serves shows wrote fits i number port text m a n b → NoPromiseStored m.heap → NoPromiseStored n.heap
  send_good true i number port text h p = does_good _ m n h.goes tt p
  send_good false i number port text h p = does_good _ m n h.thrown tt p

  served_good : (count : ℕ) (c : Call) → Served serves shows wrote count c m a n b → NoPromiseStored m.heap → NoPromiseStored n.heap
  served_good count (call.Line l) h p = good_is n m h.0 p
  served_good count (call.Draw i g lo hi) h p = draw_good _ i g lo _ h p
  served_good count (call.Delay i g ticks) h p = delay_good _ i g _ h p
  served_good count (call.Listen i g port) h p = listen_good _ i g _ h p
  served_good count (call.Disk i g d) h p = disk_good _ i g h p
  served_good count (call.SendTo i q port text) h p = send_good _ i _ _ text h p
  served_good count (call.Unlisten k) h p = good_is n m h.0 p

pub served_stores : {A W : Type 0} → (serves : Host W) (shows : A → Numbered ℕ → W → Type 0) (wrote : A → List Line → A → Type 0) → law.ServedStoresNone serves shows wrote
served_stores serves shows wrote count c m n a b h p = served_good serves shows wrote m n a b count c h p
