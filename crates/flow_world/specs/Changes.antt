-- What is outside of the processes of a world, as contracts see it, and what the calls of the world make of it.
use Rattle.std.specs.Prelude.{◌≡◌, ℕ, Bool, false, not, List, [], ◌∷◌, filter, nat_eq, slice_get, slice_set}
use Rattle.std.specs.declared.option.Option.{Option}
use Rattle.std.specs.declared.option.Option.TheVariants.{None, Some}
use Rattle.flow_base.specs.declared.ids.ProcId.{ProcId}
use Rattle.flow_draw.specs.declared.question.Question.TheVariants.{Among}
use Rattle.flow_draw.specs.Words.{Drawn, next_word, word_in, asked}
use Rattle.flow_timers.specs.Pending.{Pending, Queue, with_event}
use Rattle.flow_simnet.specs.declared.packet.Fate.{Fate}
use Rattle.flow_simnet.specs.declared.packet.Letter.{Letter}
use Rattle.flow_simnet.specs.Links.{Links, draw_in, fate, questions_of, with_sent}
use Rattle.flow_simdisk.specs.Asks.{DiskCall}
use Rattle.flow_simdisk.specs.declared.ask.DiskReply.{DiskReply}
use Rattle.flow_simdisk.specs.declared.write.Kept.{Kept}
use Rattle.flow_simdisk.specs.Disk.{Disk, File, Losing, served, power_lost}
use Rattle.flow_world.specs.declared.outside.Outside.{Outside}
use Rattle.flow_world.specs.declared.outside.What.{What}
use Rattle.flow_world.specs.declared.outside.What.TheVariants.{Boots, Rings, Arrives, Answers}

-- the time, the pending events, the links and the packets on their way, the disks, the drawn words, and the range of a disk's delays
pub record Surroundings : Type 0 where
  pub time : ℕ
  pub timers : Queue What
  pub net : Links
  pub disks : List Disk
  pub draws : Drawn
  pub disk_delay : ℕ × ℕ

abbrev pub seen : Outside → Surroundings
seen w = record { time = w.time; timers = w.timers; net = w.net; disks = w.disks.items; draws = w.draws; disk_delay = w.disk_delay }

-- one more pending event
abbrev pub with_pending : Surroundings → (time : ℕ) → What → Surroundings
with_pending w t what = record w { timers = with_event w.timers t what }

-- other events are pending
abbrev pub with_events : List (Pending What) → Surroundings → Surroundings
with_events es w = record w { timers = record w.timers { pending = es } }

-- the first pending event is taken, if there is one
abbrev pub FirstTaken : List (Pending What) → Option What → (before after : Surroundings) → Type 0
FirstTaken [] None before after = after ≡ before
FirstTaken [] (Some x) before after = ⊥
FirstTaken (e ∷ es) None before after = ⊥
FirstTaken (e ∷ es) (Some x) before after = (x ≡ e.what) × (after ≡ with_events es before)

-- one more word is drawn, for one of so many numbers
abbrev pub with_word : (width : ℕ) → Surroundings → Surroundings
with_word n w = record w { draws = asked w.draws (Among n ∷ []) }

-- the delay of a disk that the next word gives
abbrev pub next_delay : Surroundings → ℕ
next_delay w = draw_in w.disk_delay (next_word w.draws)

-- a packet is sent: what becomes of it, and what is outside then
abbrev pub fate_of : Surroundings → (from to : ProcId) → Fate
fate_of w p q = fate w.net w.time p.0 q.0 (word_in w.draws)

abbrev pub letter : (from to : ProcId) → (port : ℕ) → List ℕ → Letter
letter p q port text = record { from = p; to = q; port = port; text = text }

abbrev pub sent_by : Fate → Letter → Surroundings → Surroundings
sent_by f l w = record w { net = with_sent w.net f l; draws = asked w.draws (questions_of w.net.loss w.net.latency f) }

-- The disk of a process serves a request.
abbrev pub with_disk : (process : ℕ) → Disk → Surroundings → Surroundings
with_disk p d w = record w { disks = slice_set w.disks p d }

pub record DiskServes (p : ProcId) (request : DiskCall ℕ) (before after : Surroundings) (reply : DiskReply) : Type 0 where
  pub disk : Disk
  pub there : slice_get before.disks p.0 ≡ Some disk
  pub replied : reply ≡ (served request disk.fails disk.files).1
  pub left : after ≡ with_disk p.0 (served request disk.fails disk.files).0 before

-- The disk of a process loses what it may by words that are drawn for that.
abbrev pub loss_on : Disk → Surroundings → Losing (List (List ℕ × File))
loss_on d w = power_lost (word_in w.draws) d.files

abbrev pub with_loss : (process : ℕ) → Disk → Surroundings → Surroundings
with_loss p d w =
    record (with_disk p (record { fails = d.fails; files = (loss_on d w).left }) w) { draws = asked w.draws (loss_on d w).asked }

pub record DiskLoses (p : ProcId) (before after : Surroundings) (fates : List Kept) : Type 0 where
  pub disk : Disk
  pub there : slice_get before.disks p.0 ≡ Some disk
  pub lost : fates ≡ (loss_on disk before).fates
  pub left : after ≡ with_loss p.0 disk before

-- a timer or a disk request of this process
abbrev pub is_request_of : ProcId → What → Bool
is_request_of p (Boots q) = false
is_request_of p (Rings q cell) = nat_eq q.0 p.0
is_request_of p (Arrives q number) = false
is_request_of p (Answers q cell asked) = nat_eq q.0 p.0

-- those are gone
abbrev pub requests_gone : ProcId → List (Pending What) → List (Pending What)
requests_gone p es = filter (λ e. not (is_request_of p e.what)) es

abbrev pub without_requests : ProcId → Surroundings → Surroundings
without_requests p w = record w { timers = record w.timers { pending = requests_gone p w.timers.pending } }
