-- The world, generic in its actors: its processes and what is outside of them, which event comes next, and
-- how an event begins.
use Rattle.std.specs.Prelude.{ℕ, suc, pos, Bool, true, false, not, List, [], ◌∷◌, ◌++◌, map, replicate, filter, nat_eq, nat_lt, nat_le, slice_set, slice_index_or, if◌then◌else◌}
use Rattle.std.specs.List.{range_with_len}
use Rattle.std.specs.declared.option.Option.{Option}
use Rattle.std.specs.declared.option.Option.TheVariants.{None, Some}
use Rattle.flow_base.specs.ErrorNumbers.{disk_failed}
use Rattle.flow_trace.specs.declared.line.Line.{Line}
use Rattle.flow_trace.specs.declared.line.Line.TheVariants as line
use Rattle.flow_worldfile.specs.Worlds as file
use Rattle.flow_worldfile.specs.declared.directive.Order.{Order}
use Rattle.flow_worldfile.specs.declared.directive.Order.TheVariants.{Kill, Stop, Boot, Cut, Heal, DiskFail}
use Rattle.flow_value.specs.declared.value.RecordId.TheVariants as record_id
use Rattle.flow_value.specs.Values.{ValueTree, IntValue, TextValue, VoidValue, CompositeValue, OutcomeTree, GoodOutcome, BadOutcome, values_of_list, RecordWhole}
use Rattle.flow_numbered.specs.Numbered.{thing}
use Rattle.flow_meaning.specs.Requests.{DiskCall, ReadCall, WriteCall, SyncCall, SizeCall}
use Rattle.flow_meaning.specs.Process.{Core, Proc, Engine}
use Rattle.flow_meaning.specs.Deliver.{begin, boot, stop, deliver, arrive, vanish, idle}
use Rattle.flow_timers.specs.Pending.{Pending}
use Rattle.flow_simdisk.specs.declared.ask.DiskReply.{DiskReply}
use Rattle.flow_simdisk.specs.declared.ask.DiskReply.TheVariants.{Text, Done, Size, Failed}
use Rattle.flow_simdisk.specs.declared.write.Kept.{Kept}
use Rattle.flow_simdisk.specs.Disk.{Disk, File, Losing, served, power_lost}
use Rattle.flow_meaning.specs.Outside.{What, Boots, Rings, Arrives, Answers, Outside, process_id, word_in, with_asked, healed}

-- a process is up from its boot to its kill
pub record Place (A : Type 0) : Type 0 where
  pub up : Bool
  pub proc : Proc A

pub record World (A : Type 0) : Type 0 where
  pub places : List (Place A)
  pub out : Outside

-- at the start each process is down, and a boot of each is pending at time 0, in the order of their numbers
abbrev pub outside_at_start : file.World → Outside
outside_at_start w = record {
  file = w;
  time = 0;
  ran = 0;
  sent = 0;
  asked = [];
  events = record {
    made = w.processes;
    pending = map (λ p. record { time = 0; number = suc p; what = Boots p })
        (range_with_len 0 w.processes);
  };
  script = w.script;
  cuts = [];
  disks = replicate w.processes (record { fails = 0; files = [] });
  active = 0;
}

abbrev pub at_start : {A : Type 0} → file.World → World A
at_start w = record { places = replicate w.processes (record { up = false; proc = idle }); out = outside_at_start w }

-- the first line of a script with the least time, and the others in their order
abbrev pub sooner : ℕ × Order → List (ℕ × Order) → Option ((ℕ × Order) × List (ℕ × Order)) → (ℕ × Order) × List (ℕ × Order)
sooner x xs None = (x, xs)
sooner x xs (Some y) = if nat_lt y.0.0 x.0 then (y.0, x ∷ y.1) else (x, xs)

abbrev pub soonest : List (ℕ × Order) → Option ((ℕ × Order) × List (ℕ × Order))
soonest [] = None
soonest (x ∷ xs) = Some (sooner x xs (soonest xs))

-- what comes next: nothing, a line of the script, or a pending event, with what is left of the script or of
-- the pending events then
pub data Next : Type 0 where
  Nothing : Next
  Script : (time : ℕ) → Order → List (ℕ × Order) → Next
  Event : Pending What → List (Pending What) → Next

-- a line of the script comes before a pending event of the same time
abbrev pub first_of : Option ((ℕ × Order) × List (ℕ × Order)) → List (Pending What) → Next
first_of None [] = Nothing
first_of None (e ∷ es) = Event e es
first_of (Some s) [] = Script s.0.0 s.0.1 s.1
first_of (Some s) (e ∷ es) = if nat_le s.0.0 e.time then Script s.0.0 s.0.1 s.1 else Event e es

abbrev pub next_of : Outside → Next
next_of w = first_of (soonest w.script) w.events.pending

-- these pending events are left
abbrev pub with_left : Outside → List (Pending What) → Outside
with_left w es = record w { events = record { made = w.events.made; pending = es } }

-- An event that has begun: its line and those that come before its process does anything, its process with
-- what was delivered to it, and the world outside.
pub record Begun (A : Type 0) : Type 0 where
  pub head : List Line
  pub place : Place A
  pub out : Outside

-- one more event, at this time, of this process
abbrev pub counted : (time process : ℕ) → Outside → Outside
counted t p w = record w { time = t; ran = suc w.ran; active = p }

abbrev pub disk_of : Outside → ℕ → Disk
disk_of w p = slice_index_or w.disks p (record { fails = 0; files = [] })

abbrev pub with_disk : Outside → ℕ → Disk → Outside
with_disk w p d = record w { disks = slice_set w.disks p d }

abbrev pub with_core : {A : Type 0} → Place A → (Core → Core) → Place A
with_core p f = record { up = p.up; proc = record { core = f p.proc.core; actors = p.proc.actors } }

-- a boot does nothing where the process holds its `main`
abbrev pub booted : {A : Type 0} → Engine A → ℕ → Place A → Option ℕ → Place A
booted e p at (Some held) = at
booted e p at None = record { up = true; proc = boot e p at.proc }

-- the timers and disk requests of a process are gone
abbrev pub is_of : ℕ → What → Bool
is_of p (Boots q) = false
is_of p (Rings q cell) = nat_eq p q
is_of p (Arrives m from to port text) = false
is_of p (Answers q cell call) = nat_eq p q

abbrev pub without_requests : ℕ → List (Pending What) → List (Pending What)
without_requests p es = filter (λ e. not (is_of p e.what)) es

abbrev pub kept_line : Kept → Line
kept_line k = line.Kept k.name k.offset k.length k.kept

abbrev pub lost : {A : Type 0} → List Line → ℕ → Place A → Outside → Losing (List (List ℕ × File)) → Begun A
lost head p at w l = record {
  head = head ++ map kept_line l.fates;
  place = record { up = false; proc = vanish at.proc };
  out = with_disk (with_asked (with_left w (without_requests p w.events.pending)) l.asked) p
      (record { fails = (disk_of w p).fails; files = l.left });
}

-- a kill: the disk loses what it may, and the process is gone
abbrev pub killed : {A : Type 0} → List Line → ℕ → Place A → Outside → Begun A
killed head p at w = lost head p at w (power_lost (word_in w) (disk_of w p).files)

abbrev pub alone : {A : Type 0} → Line → Place A → Outside → Begun A
alone l at w = record { head = l ∷ []; place = at; out = w }

-- a line of the script, by what it orders
abbrev pub ordered : {A : Type 0} → Engine A → Order → Place A → Outside → Begun A
ordered e (Boot p) at w = alone (line.Boot w.ran w.time (process_id p)) (booted e p at at.proc.core.main) w
ordered e (Stop p) at w = alone (line.Stop w.ran w.time (process_id p)) (with_core at stop) w
ordered e (Kill p) at w = killed (line.Kill w.ran w.time (process_id p) ∷ []) p at w
ordered e (Cut p q) at w = alone (line.Cut w.ran w.time (process_id p) (process_id q)) at (record w { cuts = (p, q) ∷ w.cuts })
ordered e (Heal p q) at w = alone (line.Heal w.ran w.time (process_id p) (process_id q)) at (record w { cuts = healed w.cuts p q })
ordered e (DiskFail p n) at w =
    alone (line.DiskFail w.ran w.time (process_id p) n) at (with_disk w p (record { fails = n; files = (disk_of w p).files }))

-- a packet as a value
abbrev pub packet : (from port : ℕ) → List ℕ → ValueTree
packet from port text = CompositeValue (RecordWhole record_id.Packet)
    (values_of_list (IntValue (pos from) ∷ IntValue (pos port) ∷ TextValue text ∷ []))

-- a packet goes to the stream of its port, or is discarded where the process is down or nobody listens
abbrev pub arrived : {A : Type 0} → (number from port : ℕ) → List ℕ → Place A → Outside → Option ℕ → Begun A
arrived m from port text at w None =
    record { head = line.Arrival w.ran w.time (process_id w.active) m ∷ line.Discard m ∷ []; place = at; out = w }
arrived m from port text at w (Some cell) =
    alone (line.Arrival w.ran w.time (process_id w.active) m) (with_core at (arrive cell (packet from port text))) w

abbrev pub listener : {A : Type 0} → Place A → ℕ → Option ℕ
listener at port = if at.up then thing at.proc.core.ports port else None

-- the line of a disk's answer, and what its cell gets
abbrev pub disk_line : DiskCall ℕ → DiskReply → Outside → ℕ → Line
disk_line (ReadCall x offset count) (Text bs) w c = line.Read w.ran w.time (process_id w.active) (record { 0 = c }) (Some bs)
disk_line (ReadCall x offset count) r w c = line.Read w.ran w.time (process_id w.active) (record { 0 = c }) None
disk_line (WriteCall x offset bytes) Done w c = line.Write w.ran w.time (process_id w.active) (record { 0 = c }) true
disk_line (WriteCall x offset bytes) r w c = line.Write w.ran w.time (process_id w.active) (record { 0 = c }) false
disk_line (SyncCall x) Done w c = line.Sync w.ran w.time (process_id w.active) (record { 0 = c }) true
disk_line (SyncCall x) r w c = line.Sync w.ran w.time (process_id w.active) (record { 0 = c }) false
disk_line (SizeCall x) (Size n) w c = line.Size w.ran w.time (process_id w.active) (record { 0 = c }) (Some n)
disk_line (SizeCall x) r w c = line.Size w.ran w.time (process_id w.active) (record { 0 = c }) None

abbrev pub disk_outcome : DiskReply → OutcomeTree
disk_outcome (Text bs) = GoodOutcome (TextValue bs)
disk_outcome Done = GoodOutcome VoidValue
disk_outcome (Size n) = GoodOutcome (IntValue (pos n))
disk_outcome Failed = BadOutcome disk_failed

-- a request takes effect when its event comes
abbrev pub answered : {A : Type 0} → (cell : ℕ) → DiskCall ℕ → Place A → Outside → Disk × DiskReply → Begun A
answered c call at w r =
    alone (disk_line call r.1 w c) (with_core at (deliver c (disk_outcome r.1))) (with_disk w w.active r.0)

-- a pending event, by what happens
abbrev pub happened : {A : Type 0} → Engine A → What → Place A → Outside → Begun A
happened e (Boots p) at w = ordered e (Boot p) at w
happened e (Rings p c) at w =
    alone (line.Timer w.ran w.time (process_id p) (record { 0 = c })) (with_core at (deliver c (GoodOutcome VoidValue))) w
happened e (Arrives m from to port text) at w = arrived m from port text at w (listener at port)
happened e (Answers p c call) at w = answered c call at w (served call (disk_of w p).fails (disk_of w p).files)

-- the process of an event; that of a link's event is the first of its two, which does nothing
abbrev pub process_of : Order → ℕ
process_of (Boot p) = p
process_of (Stop p) = p
process_of (Kill p) = p
process_of (Cut p q) = p
process_of (Heal p q) = p
process_of (DiskFail p n) = p

abbrev pub process_in : What → ℕ
process_in (Boots p) = p
process_in (Rings p c) = p
process_in (Arrives m from to port text) = to
process_in (Answers p c call) = p

-- the process before its event, with the turns that one event may take
abbrev pub ready : {A : Type 0} → World A → ℕ → Place A
ready w p = with_core (slice_index_or w.places p (record { up = false; proc = idle })) (begin w.out.file.turns)

-- the next event begins, where there is one
abbrev pub begun_by : {A : Type 0} → Engine A → World A → Next → Option (Begun A)
begun_by e w Nothing = None
begun_by e w (Script t order left) =
    Some (ordered e order (ready w (process_of order)) (counted t (process_of order) (record w.out { script = left })))
begun_by e w (Event p left) =
    Some (happened e p.what (ready w (process_in p.what)) (counted p.time (process_in p.what) (with_left w.out left)))

-- how a run ends before its next event: idle where nothing comes, by the bound where as many events have run
abbrev pub ending : Outside → Next → Option Line
ending w Nothing = Some line.EndIdle
ending w n = if nat_le w.file.events w.ran then Some line.EndBound else None
