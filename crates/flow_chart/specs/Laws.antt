-- What holds of pictures: each packet that comes has one arrow, and each that is lost one stub; there is one of at most so many events;
-- and each has the grammar of pictures.
use Rattle.std.specs.Prelude.{◌≡◌, ℕ, Bool, false, ◌==◌, nat_lt, List, [], ◌∷◌, ◌++◌, length, if◌then◌else◌}
use Rattle.std.specs.List.{AllByRecursion, filter}
use Rattle.std.specs.declared.option.Option.{Option}
use Rattle.std.specs.declared.option.Option.TheVariants.{None, Some}
use Rattle.flow_base.specs.declared.ids.ProcId.{ProcId}
use Rattle.flow_trace.specs.declared.line.Line.{Line}
use Rattle.flow_trace.specs.declared.line.Line.TheVariants.{Arrival, Send, LostCut, LostDraw}
use Rattle.flow_trace.specs.Groups.{is_event}
use Rattle.flow_chart.specs.declared.chart_out.TheConstants.{MOST_EVENTS}
use Rattle.flow_chart.specs.declared.packets.Way.{Way}
use Rattle.flow_chart.specs.declared.spot.Spot.{Spot}
use Rattle.flow_chart.specs.Charting.{chart_of}
use Rattle.flow_chart.specs.Drawing.{Drawing, drawing_of, spot_at}
use Rattle.flow_chart.specs.Grammar.{IsPicture}
use Rattle.flow_chart.specs.Picture.{picture}

-- whether a line tells what becomes of a packet
abbrev pub tells_of : (packet : ℕ) → Line → Bool
tells_of m (Send k q port x) = m == k
tells_of m (Arrival n t q k) = m == k
tells_of m (LostCut k) = m == k
tells_of m (LostDraw k) = m == k
tells_of m _ = false

abbrev pub AreSilent : (packet : ℕ) → List Line → Type 0
AreSilent m ls = AllByRecursion (λ l. tells_of m l ≡ false) ls

-- the ways of a packet that are over, each of which is drawn once: as an arrow where it comes, and else as a stub
abbrev pub ways_of : (packet : ℕ) → Drawing → List Way
ways_of m d = filter (λ w. m == w.packet) d.packets.over

-- where the drawing of lines stands
abbrev pub stands : List Line → Spot
stands ls = spot_at (drawing_of ls).cursor

-- lines of which just two tell of a packet: it is sent, and then it comes or is lost
abbrev pub told_between : (before : List Line) → (send : Line) → (between : List Line) → (ends : Line) → (after : List Line) → List Line
told_between before send between ends after = before ++ (send ∷ (between ++ (ends ∷ after)))

-- the packet has one way, from where it was sent to where it comes, if it does
abbrev pub HasOneWay : (m : ℕ) → (ends : Line) → (comes : Spot → Option Spot) → Type 0
HasOneWay m ends comes =
    (q : ProcId) (port : ℕ) (x : List ℕ) (before between after : List Line) → AreSilent m before → AreSilent m between → AreSilent m after
    → ways_of m (drawing_of (told_between before (Send m q port x) between ends after))
    ≡ record {
      packet = m;
      sent = stands before;
      comes = comes (stands (told_between before (Send m q port x) between ends []));
    } ∷ []

-- A packet that comes has one arrow, from the row in which it was sent to the row in which it comes.
abbrev pub OneArrow : Type 0
OneArrow = (m n t : ℕ) (r : ProcId) → HasOneWay m (Arrival n t r m) (λ at. Some at)

-- A packet that is lost has one stub, where it was sent.
abbrev pub OneStub : Type 0
OneStub = (m : ℕ) → HasOneWay m (LostCut m) (λ at. None) × HasOneWay m (LostDraw m) (λ at. None)

-- Lines are drawn as long as there are not too many events among them.
abbrev pub HasRoom : Type 0
HasRoom =
    (ls : List Line) → chart_of ls ≡ (if nat_lt MOST_EVENTS (length (filter is_event ls)) then None else Some (drawing_of ls))

-- Each picture has the grammar, whatever texts stand in it.
abbrev pub IsWellFormed : Type 0
IsWellFormed = (processes : ℕ) (d : Drawing) → IsPicture (picture processes d)
