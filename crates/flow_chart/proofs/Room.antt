-- Lines are drawn as long as there are not too many events among them.
use Rattle.std.proofs.Common.{◌≡◌, ℕ, suc, ◌+◌, ◌<◌, ◌≤◌, List, [], ◌∷◌, length, nat_lt, refl, sym, ap, ◌∙◌, arith, fold, if◌then◌else◌}
use Rattle.std.specs.List.{filter}
use Rattle.std.specs.declared.option.Option.{Option}
use Rattle.std.specs.declared.option.Option.TheVariants.{None, Some}
use Rattle.std.proofs.lemmas.Bool.{cond-true, cond-false, cond_both, lt-ltb, ltb-true, le-ltb, ltb-false}
use Rattle.flow_trace.specs.Groups.{is_event}
use Rattle.flow_trace.specs.declared.line.Line.{Line}
use Rattle.flow_trace.specs.declared.line.Line.TheVariants.{Head, Boot, Kill, Stop, Cut, Heal, DiskFail, Timer, Arrival, Read, Write, Sync, Size, Start, Wait, Take, Throw, Catch, Fail, Finish, Cancel, Broken, PrintInt, PrintBool, PrintText, Send, LostCut, LostDraw, Discard, Kept, Frame, Callback, EndIdle, EndBound, EndSpent, EndStop}
use Rattle.flow_chart.specs.declared.chart_out.TheConstants.{MOST_EVENTS}
use Rattle.flow_chart.specs.declared.spot.Moment.{Moment}
use Rattle.flow_chart.specs.Marks.{Sign, moment_of, sign_of}
use Rattle.flow_chart.specs.Drawing.{Drawing, drawn, empty_drawing, with_event, with_sign}
use Rattle.flow_chart.specs.Charting.{charted}
use Rattle.flow_chart.specs.Laws.{HasRoom}

abbrev from : Drawing → List Line → Drawing
from d ls = fold (λ e l. drawn l e) d ls

abbrev charted_from : Option Drawing → List Line → Option Drawing
charted_from c ls = fold (λ o l. charted l o) c ls

abbrev events_in : List Line → ℕ
events_in ls = length (filter is_event ls)

abbrev counted : Option Moment → ℕ → ℕ
counted None n = n
counted (Some m) n = suc n

counted-plus : (o : Option Moment) (m n : ℕ) → counted o m + n ≡ m + counted o n
counted-plus None m n = refl
counted-plus (Some e) m n = omega arith

events_drawn : (o : Option Moment) (s : Option Sign) (d : Drawing) → (with_sign s (with_event o d)).events ≡ counted o d.events
events_drawn None None d = refl
events_drawn None (Some s) d = refl
events_drawn (Some m) None d = refl
events_drawn (Some m) (Some s) d = refl

events_more : (l : Line) (ls : List Line) → events_in (l ∷ ls) ≡ counted (moment_of l) (events_in ls)
events_more Head ls = refl
events_more (Boot u v w) ls = refl
events_more (Kill u v w) ls = refl
events_more (Stop u v w) ls = refl
events_more (Cut u v w x) ls = refl
events_more (Heal u v w x) ls = refl
events_more (DiskFail u v w x) ls = refl
events_more (Timer u v w x) ls = refl
events_more (Arrival u v w x) ls = refl
events_more (Read u v w x y) ls = refl
events_more (Write u v w x y) ls = refl
events_more (Sync u v w x y) ls = refl
events_more (Size u v w x y) ls = refl
events_more (Start u v) ls = refl
events_more (Wait u v) ls = refl
events_more (Take u v w) ls = refl
events_more (Throw u v) ls = refl
events_more (Catch u v) ls = refl
events_more (Fail u v) ls = refl
events_more (Finish u) ls = refl
events_more (Cancel u) ls = refl
events_more (Broken u) ls = refl
events_more (PrintInt u v) ls = refl
events_more (PrintBool u v) ls = refl
events_more (PrintText u v) ls = refl
events_more (Send u v w x) ls = refl
events_more (LostCut u) ls = refl
events_more (LostDraw u) ls = refl
events_more (Discard u) ls = refl
events_more (Kept u v w x) ls = refl
events_more (Frame u v w x) ls = refl
events_more (Callback u v w x) ls = refl
events_more EndIdle ls = refl
events_more EndBound ls = refl
events_more EndSpent ls = refl
events_more (EndStop u) ls = refl

-- too many are too many for ever
none_stays : (ls : List Line) → charted_from None ls ≡ None
none_stays [] = refl
none_stays (l ∷ ls) = none_stays ls

room_from : (ls : List Line) (d : Drawing) → d.events ≤ MOST_EVENTS
    → charted_from (Some d) ls ≡ (if nat_lt MOST_EVENTS (d.events + events_in ls) then None else Some (from d ls))
room_from [] d few = sym (cond-false (nat_lt MOST_EVENTS (d.events + 0)) None (Some d) (le-ltb MOST_EVENTS (d.events + 0) (omega (arith, few))))
room_from (l ∷ ls) d few =
    let e = drawn l d in
    let number : e.events ≡ counted (moment_of l) d.events = events_drawn (moment_of l) (sign_of l) d in
    let all : e.events + events_in ls ≡ d.events + events_in (l ∷ ls) =
    ap (λ k. k + events_in ls) number
    ∙ counted-plus (moment_of l) d.events (events_in ls)
    ∙ ap (λ k. d.events + k) (sym (events_more l ls)) in
    let whole = if nat_lt MOST_EVENTS (d.events + events_in (l ∷ ls)) then None else Some (from e ls) in
    cond_both (nat_lt MOST_EVENTS e.events) None (Some e) (λ c. charted_from c ls ≡ whole)
    (λ over.
    let many : MOST_EVENTS < d.events + events_in (l ∷ ls) = omega (arith, all, ltb-true MOST_EVENTS e.events over) in
    none_stays ls ∙ sym (cond-true (nat_lt MOST_EVENTS (d.events + events_in (l ∷ ls))) None (Some (from e ls)) (lt-ltb MOST_EVENTS (d.events + events_in (l ∷ ls)) many)))
    (λ within.
    room_from ls e (ltb-false MOST_EVENTS e.events within)
    ∙ ap (λ k. if nat_lt MOST_EVENTS k then None else Some (from e ls)) all)

pub has_room : HasRoom
has_room ls =
    let none : 0 ≤ MOST_EVENTS = omega arith in
    let number : 0 + events_in ls ≡ events_in ls = omega arith in
    room_from ls empty_drawing none ∙ ap (λ k. if nat_lt MOST_EVENTS k then None else Some (from empty_drawing ls)) number
