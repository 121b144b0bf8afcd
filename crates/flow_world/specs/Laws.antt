-- What the calls of a world do is what the definitions say, where what is outside shows.
use Rattle.std.specs.Prelude.{◌≡◌, ℕ, suc, ◌+◌, ◌<◌, ◌≤◌, List, [], ◌∷◌}
use Rattle.flow_base.specs.declared.ids.CellId.{CellId}
use Rattle.flow_base.specs.declared.ids.ProcId.{ProcId}
use Rattle.flow_draw.specs.Words.{next_word}
use Rattle.flow_trace.specs.declared.line.Line.{Line}
use Rattle.flow_trace.specs.declared.line.Line.TheVariants as line
use Rattle.flow_timers.specs.Pending.{Pending}
use Rattle.flow_simnet.specs.declared.packet.Fate.{Fate}
use Rattle.flow_simnet.specs.declared.packet.Fate.TheVariants.{Cut, Drawn, At}
use Rattle.flow_simdisk.specs.declared.ask.DiskAsk.{DiskAsk}
use Rattle.flow_simdisk.specs.declared.ask.DiskReply.{DiskReply}
use Rattle.flow_simdisk.specs.Disk.{served}
use Rattle.flow_simnet.specs.Links as table
use Rattle.flow_machine.specs.Requests.{call_of}
use Rattle.flow_meaning.specs.Requests.{Drew, Timer, Packet, Disks, DiskCall}
use Rattle.flow_meaning.specs.Outside.{Outside, word_in, healed, serve}
use Rattle.flow_meaning.specs.World.{with_left, with_disk, disk_of, without_requests}
use Rattle.flow_world.specs.Changes.{Surroundings}
use Rattle.flow_world.specs.declared.outside.What.TheVariants as kept_what
use Rattle.flow_world.specs.Changes as does
use Rattle.flow_world.specs.Representing.{OutsideRepresents}

-- A drawn word is the next one, and is taken.
abbrev pub WordDrawn : Surroundings → Outside → Type 0
WordDrawn m w =
    (width : ℕ) → OutsideRepresents m w
    → (next_word m.draws ≡ word_in w 0) × OutsideRepresents (does.with_word width m) (serve (Drew width) w).1

-- A timer is asked for.
abbrev pub TimerAsked : Surroundings → Outside → Type 0
TimerAsked m w =
    (p : ProcId) (k : CellId) (time : ℕ) → OutsideRepresents m w → p.0 ≡ w.active
    → OutsideRepresents (does.with_pending m time (kept_what.Rings p k)) (serve (Timer k.0 time) w).1

-- The disk of the process is asked, after a delay by the next word.
abbrev pub disk_asked : Surroundings → ProcId → CellId → DiskAsk → Surroundings
disk_asked m p k a =
    does.with_pending (does.with_word (table.width m.disk_delay) m) (m.time + does.next_delay m) (kept_what.Answers p k a)

abbrev pub DiskAsked : Surroundings → Outside → Type 0
DiskAsked m w =
    (p : ProcId) (k : CellId) (a : DiskAsk) → OutsideRepresents m w → p.0 ≡ w.active
    → OutsideRepresents (disk_asked m p k a) (serve (Disks k.0 (call_of a)) w).1

-- A packet is sent: the lines of that, and what is outside then.
abbrev pub fate_lines : Fate → (number : ℕ) → List Line
fate_lines Cut n = line.LostCut n ∷ []
fate_lines Drawn n = line.LostDraw n ∷ []
fate_lines (At time) n = []

abbrev pub with_arrival : Fate → ProcId → (number : ℕ) → Surroundings → Surroundings
with_arrival Cut q n m = m
with_arrival Drawn q n m = m
with_arrival (At time) q n m = does.with_pending m time (kept_what.Arrives q n)

abbrev pub packet_sent : Surroundings → (from to : ProcId) → (port : ℕ) → List ℕ → Surroundings
packet_sent m p q port text =
    with_arrival (does.fate_of m p q) q (suc m.net.sent) (does.sent_by (does.fate_of m p q) (does.letter p q port text) m)

abbrev pub packet_lines : Surroundings → (from to : ProcId) → (port : ℕ) → List ℕ → List Line
packet_lines m p q port text = line.Send (suc m.net.sent) q port text ∷ fate_lines (does.fate_of m p q) (suc m.net.sent)

abbrev pub PacketSent : Surroundings → Outside → Type 0
PacketSent m w =
    (p q : ProcId) (port : ℕ) (text : List ℕ) → OutsideRepresents m w → p.0 ≡ w.active → p.0 < w.file.processes → q.0 < w.file.processes
    → (packet_lines m p q port text ≡ (serve (Packet q.0 port text) w).0)
    × OutsideRepresents (packet_sent m p q port text) (serve (Packet q.0 port text) w).1

-- A link is cut, and heals.
abbrev pub LinkCut : Surroundings → Outside → Type 0
LinkCut m w =
    (p q : ℕ) → OutsideRepresents m w → w.file.processes ≤ 64 → p < w.file.processes → q < w.file.processes
    → OutsideRepresents (record m { net = record m.net { cuts = table.cut m.net.cuts p q } }) (record w { cuts = (p, q) ∷ w.cuts })

abbrev pub LinkHealed : Surroundings → Outside → Type 0
LinkHealed m w =
    (p q : ℕ) → OutsideRepresents m w → w.file.processes ≤ 64 → p < w.file.processes → q < w.file.processes
    → OutsideRepresents (record m { net = record m.net { cuts = table.healed m.net.cuts p q } }) (record w { cuts = healed w.cuts p q })

-- The disk of a process serves a request.
abbrev pub DiskServed : Surroundings → Outside → Type 0
DiskServed m w =
    (p : ProcId) (request : DiskCall ℕ) (n : Surroundings) (reply : DiskReply) → OutsideRepresents m w → does.DiskServes p request m n reply
    → (reply ≡ (served request (disk_of w p.0).fails (disk_of w p.0).files).1)
    × OutsideRepresents n (with_disk w p.0 (served request (disk_of w p.0).fails (disk_of w p.0).files).0)

-- The first pending event is taken.
abbrev pub first_left : {A : Type 0} → List (Pending A) → List (Pending A)
first_left [] = []
first_left (e ∷ es) = es

abbrev pub event_taken : Surroundings → Surroundings
event_taken m = record m { timers = record m.timers { pending = first_left m.timers.pending } }

abbrev pub EventTaken : Surroundings → Outside → Type 0
EventTaken m w = OutsideRepresents m w → OutsideRepresents (event_taken m) (with_left w (first_left w.events.pending))

-- The timers and disk requests of a process are gone.
abbrev pub RequestsGone : Surroundings → Outside → Type 0
RequestsGone m w =
    (p : ProcId) → OutsideRepresents m w
    → OutsideRepresents (does.without_requests p m) (with_left w (without_requests p.0 w.events.pending))
