-- What the world holds beside its processes: time, pending events, the script, links, disks and drawn
-- words; and how it serves what a process asks.
use Rattle.std.specs.Prelude.{ℕ, suc, ◌+◌, Bool, false, ◌&&◌, ◌||◌, List, [], ◌∷◌, ◌++◌, length, nat_eq, if◌then◌else◌}
use Rattle.flow_base.specs.declared.ids.ProcId.{ProcId}
use Rattle.flow_trace.specs.declared.line.Line.{Line}
use Rattle.flow_trace.specs.declared.line.Line.TheVariants as line
use Rattle.flow_worldfile.specs.Worlds as file
use Rattle.flow_worldfile.specs.declared.directive.Order.{Order}
pub use Rattle.flow_draw.specs.Words.{word_at}
use Rattle.flow_draw.specs.declared.question.Question.{Question}
use Rattle.flow_draw.specs.declared.question.Question.TheVariants.{Among}
use Rattle.flow_timers.specs.Pending.{Queue, with_event}
use Rattle.flow_simnet.specs.declared.packet.Fate.{Fate}
use Rattle.flow_simnet.specs.declared.packet.Fate.TheVariants.{Cut, Drawn as LostDraw, At}
use Rattle.flow_simnet.specs.Links.{width, draw_in, fate_by, questions_of}
use Rattle.flow_meaning.specs.Requests.{DiskCall, Request, Drew, Timer, Packet, Disks, Supply}
use Rattle.flow_meaning.specs.Burst.{Host}
use Rattle.flow_simdisk.specs.Disk.{Disk}

-- What happens when a pending event comes: a process boots; a timer or a disk request of a process sets a
-- cell; a packet arrives, with its number, its sender, and the process and port for which it is meant.
pub data What : Type 0 where
  Boots : (process : ℕ) → What
  Rings : (process cell : ℕ) → What
  Arrives : (number from to port : ℕ) → (text : List ℕ) → What
  Answers : (process cell : ℕ) → DiskCall ℕ → What

-- The world without its processes: what its file says; the time; how many events have run; how many packets were
-- sent; what each drawn word was asked for; how many events were made, and those that are pending, in the order in which
-- they come; the lines of the script that are left, in the order of the file; the links that are cut, by their two
-- processes; the disk of each process; and the process of the event in progress.
pub record Outside : Type 0 where
  pub file : file.World
  pub time : ℕ
  pub ran : ℕ
  pub sent : ℕ
  pub asked : List Question
  pub events : Queue What
  pub script : List (ℕ × Order)
  pub cuts : List (ℕ × ℕ)
  pub disks : List Disk
  pub active : ℕ

abbrev pub process_id : ℕ → ProcId
process_id p = record { 0 = p }

-- how many words were drawn
abbrev pub drawn : Outside → ℕ
drawn w = length w.asked

-- the word that is drawn so many words from now
abbrev pub word_in : Outside → ℕ → ℕ
word_in w k = word_at w.file.seed w.file.words (drawn w + k)

-- words were drawn for these questions
abbrev pub with_asked : Outside → List Question → Outside
with_asked w qs = record w { asked = w.asked ++ qs }

-- one more pending event
abbrev pub with_pending : Outside → ℕ → What → Outside
with_pending w time what = record w { events = with_event w.events time what }

-- a link is cut for both directions
abbrev pub is_link : ℕ → ℕ → ℕ × ℕ → Bool
is_link p q c = (nat_eq p c.0 && nat_eq q c.1) || (nat_eq p c.1 && nat_eq q c.0)

abbrev pub is_cut : List (ℕ × ℕ) → ℕ → ℕ → Bool
is_cut [] p q = false
is_cut (c ∷ cs) p q = is_link p q c || is_cut cs p q

abbrev pub healed : List (ℕ × ℕ) → ℕ → ℕ → List (ℕ × ℕ)
healed [] p q = []
healed (c ∷ cs) p q = if is_link p q c then healed cs p q else c ∷ healed cs p q

-- A packet is numbered. Over a cut link it is lost without a draw; else a drawn word loses it, or the next one says when it
-- arrives.
abbrev pub sent_by : Fate → Outside → (number to port : ℕ) → List ℕ → List Line × Outside
sent_by Cut w m q port text = (line.LostCut m ∷ [], w)
sent_by LostDraw w m q port text = (line.LostDraw m ∷ [], w)
sent_by (At time) w m q port text = ([], with_pending w time (Arrives m w.active q port text))

abbrev pub drawn_by : Fate → Outside → Outside
drawn_by f w = with_asked w (questions_of w.file.loss w.file.latency f)

abbrev pub fate_in : Outside → (to : ℕ) → Fate
fate_in w q = fate_by (is_cut w.cuts w.active q) w.file.loss w.file.latency w.time (word_in w)

abbrev pub after_line : Line → List Line × Outside → List Line × Outside
after_line l r = (l ∷ r.0, r.1)

abbrev pub send_packet : Outside → (to port : ℕ) → List ℕ → List Line × Outside
send_packet w q port text =
    after_line (line.Send w.sent (process_id q) port text)
    (sent_by (fate_in w q) (drawn_by (fate_in w q) w) w.sent q port text)

-- the world after a request of the process of its event, and the lines that this writes
abbrev pub serve : Request → Outside → List Line × Outside
serve (Drew n) w = ([], with_asked w (Among n ∷ []))
serve (Timer cell time) w = ([], with_pending w time (Rings w.active cell))
serve (Packet q port text) w = send_packet (record w { sent = suc w.sent }) q port text
serve (Disks cell call) w = (
  [],
  with_pending (with_asked w (Among (width w.file.diskdelay) ∷ []))
      (w.time + draw_in w.file.diskdelay (word_in w 0)) (Answers w.active cell call),
)

-- what the world hands to a step
abbrev pub supply : Outside → Supply
supply w = record { now = w.time; processes = w.file.processes; word = word_in w 0 }

abbrev pub host : Host Outside
host = record { supply = supply; serve = serve }
