-- What is drawn of lines, one after another.
use Rattle.std.specs.Prelude.{ℕ, suc, true, false, List, [], ◌∷◌, ◌++◌, replicate, get_or, set, fold, if◌then◌else◌}
use Rattle.std.specs.Ordering.{nat_cmp}
use Rattle.std.specs.Map.{lookup, remove_entry}
use Rattle.std.specs.BTreeMap.{is_at, insert_entry}
use Rattle.std.specs.declared.option.Option.{Option}
use Rattle.std.specs.declared.option.Option.TheVariants.{None, Some}
use Rattle.flow_trace.specs.declared.line.Line.{Line}
use Rattle.flow_trace.specs.declared.line.Line.TheVariants.{Boot, Kill, Arrival, Send, LostCut, LostDraw}
use Rattle.flow_chart.specs.declared.packets.Way.{Way}
use Rattle.flow_chart.specs.declared.spot.Cursor.{Cursor}
use Rattle.flow_chart.specs.declared.spot.Moment.{Moment}
use Rattle.flow_chart.specs.declared.spot.Spot.{Spot}
use Rattle.flow_chart.specs.declared.spot.Tone.{Tone}
use Rattle.flow_chart.specs.declared.uptimes.Bar.{Bar}
use Rattle.flow_chart.specs.Marks.{moment_of, Sign, sign_of, end_of}

-- what there is, as a list
abbrev pub if_any : {A : Type 0} → Option A → List A
if_any None = []
if_any (Some a) = a ∷ []

-- the spot at which a drawing stands
abbrev pub spot_at : Cursor → Spot
spot_at c = record { column = c.process; row = c.row }

-- An event has a row, and each further mark of it one more.
abbrev pub at_event : Option Moment → Cursor → Cursor
at_event None c = c
at_event (Some m) c = record { row = suc c.row; process = m.process; marked = false }

abbrev pub at_mark : Cursor → Cursor
at_mark c = record { row = if c.marked then suc c.row else c.row; process = c.process; marked = true }

-- what is written: the number and the time of an event, and a mark
pub data Note : Type 0 where
  Event : (number time : ℕ) → Spot → Note
  Mark : Tone → Spot → (text : List ℕ) → Note

abbrev pub event_note : Option Moment → Cursor → List Note
event_note None c = []
event_note (Some m) c = Event m.number m.time (spot_at c) ∷ []

abbrev pub sign_note : Sign → Cursor → List Note
sign_note s c = Mark s.tone (spot_at c) s.text ∷ []

-- for each process the row of its boot, while it is up; and the times that are over
pub record Uptimes : Type 0 where
  pub since : List (Option ℕ)
  pub over : List Bar

abbrev pub no_uptimes : Uptimes
no_uptimes = record { since = replicate 256 None; over = [] }

abbrev pub or_row : Option ℕ → (row : ℕ) → Option ℕ
or_row None row = Some row
or_row (Some first) row = Some first

abbrev pub goes_up : (process row : ℕ) → Uptimes → Uptimes
goes_up p row u = record u { since = set u.since p (or_row (get_or u.since p None) row) }

-- the time of a process that is up since a row, if it is
abbrev pub bar : (process : ℕ) → (since : Option ℕ) → (last : ℕ) → Option Bar
bar p None last = None
bar p (Some first) last = Some (record { process = p; first = first; last = last })

abbrev pub goes_down : (process row : ℕ) → Uptimes → Uptimes
goes_down p row u = record { since = set u.since p None; over = u.over ++ if_any (bar p (get_or u.since p None) row) }

abbrev pub up_after : Line → (row : ℕ) → Uptimes → Uptimes
up_after (Boot n t p) row u = goes_up p.0 row u
up_after (Kill n t p) row u = goes_down p.0 row u
up_after _ row u = u

-- the packets under way, by their numbers, each with where it was sent; and the ways that are over
pub record Packets : Type 0 where
  pub under_way : List (ℕ × Spot)
  pub over : List Way

abbrev pub sent_at : (packet : ℕ) → List (ℕ × Spot) → Option Spot
sent_at m under_way = lookup (is_at (nat_cmp m)) under_way

-- the way of a packet that was sent at a spot, if it was
abbrev pub way : (packet : ℕ) → (sent comes : Option Spot) → Option Way
way m None comes = None
way m (Some sent) comes = Some (record { packet = m; sent = sent; comes = comes })

abbrev pub no_packets : Packets
no_packets = record { under_way = []; over = [] }

abbrev pub sends : (packet : ℕ) → Spot → Packets → Packets
sends m at w = record w { under_way = insert_entry nat_cmp w.under_way m at }

abbrev pub arrives : (packet : ℕ) → (comes : Option Spot) → Packets → Packets
arrives m comes w = record {
  under_way = remove_entry (is_at (nat_cmp m)) w.under_way;
  over = w.over ++ if_any (way m (sent_at m w.under_way) comes);
}

abbrev pub packets_after : Line → Spot → Packets → Packets
packets_after (Send m q port x) at w = sends m at w
packets_after (Arrival n t q m) at w = arrives m (Some at) w
packets_after (LostCut m) at w = arrives m None w
packets_after (LostDraw m) at w = arrives m None w
packets_after _ at w = w

pub record Drawing : Type 0 where
  pub events : ℕ
  pub cursor : Cursor
  pub notes : List Note
  pub uptimes : Uptimes
  pub packets : Packets
  pub end : List ℕ

abbrev pub empty_drawing : Drawing
empty_drawing = record {
  events = 0;
  cursor = record { row = 0; process = 0; marked = false };
  notes = [];
  uptimes = no_uptimes;
  packets = no_packets;
  end = [];
}

abbrev pub with_event : Option Moment → Drawing → Drawing
with_event None d = d
with_event (Some m) d = record d {
  events = suc d.events;
  cursor = at_event (Some m) d.cursor;
  notes = d.notes ++ event_note (Some m) (at_event (Some m) d.cursor);
}

abbrev pub with_sign : Option Sign → Drawing → Drawing
with_sign None d = d
with_sign (Some s) d = record d { cursor = at_mark d.cursor; notes = d.notes ++ sign_note s (at_mark d.cursor) }

abbrev pub or_text : Option (List ℕ) → List ℕ → List ℕ
or_text None text = text
or_text (Some new) text = new

-- what is drawn with a line more: its event, then its mark, then what it says of processes and packets
abbrev pub told_of : Line → Drawing → Drawing
told_of l d = record d {
  uptimes = up_after l d.cursor.row d.uptimes;
  packets = packets_after l (spot_at d.cursor) d.packets;
  end = or_text (end_of l) d.end;
}

abbrev pub drawn : Line → Drawing → Drawing
drawn l d = told_of l (with_sign (sign_of l) (with_event (moment_of l) d))

-- what is drawn of lines, the first one first
abbrev pub drawing_of : List Line → Drawing
drawing_of ls = fold (λ d l. drawn l d) empty_drawing ls
