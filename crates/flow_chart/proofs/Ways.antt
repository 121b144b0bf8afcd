-- The way of one packet, whatever else lines tell.
use Rattle.std.proofs.Common.{◌≡◌, ℕ, List, [], ◌∷◌, ◌++◌, Bool, false, refl, sym, ap, ◌∙◌, append-nil, fold}
use Rattle.std.specs.Bool.{◌==◌}
use Rattle.std.specs.List.{filter}
use Rattle.std.specs.declared.option.Option.{Option}
use Rattle.std.specs.declared.option.Option.TheVariants.{None, Some}
use Rattle.std.proofs.lemmas.Bool.{cond-true, cond-false, eq-eqb}
use Rattle.std.proofs.lemmas.List.Elements.{filter-append}
use Rattle.std.proofs.lemmas.List.Sums.{fold-append}
use Rattle.flow_trace.specs.declared.line.Line.{Line}
use Rattle.flow_trace.specs.declared.line.Line.TheVariants.{Head, Boot, Kill, Stop, Cut, Heal, DiskFail, Timer, Read, Write, Sync, Size, Start, Wait, Take, Throw, Catch, Fail, Finish, Cancel, Broken, PrintInt, PrintBool, PrintText, Discard, Kept, Frame, Callback, EndIdle, EndBound, EndSpent, EndStop, Arrival, Send, LostCut, LostDraw}
use Rattle.flow_chart.specs.declared.packets.Way.{Way}
use Rattle.flow_chart.specs.declared.spot.Moment.{Moment}
use Rattle.flow_chart.specs.declared.spot.Spot.{Spot}
use Rattle.flow_chart.specs.Marks.{Sign, moment_of, sign_of}
use Rattle.flow_chart.specs.Drawing.{Drawing, Packets, drawn, empty_drawing, drawing_of, spot_at, with_event, with_sign, sent_at, way, if_any, arrives, packets_after}
use Rattle.flow_chart.specs.Laws.{tells_of, AreSilent, ways_of, told_between, HasOneWay, OneArrow, OneStub}
use Rattle.flow_chart.proofs.UnderWay.{other_inserted, here_inserted, other_removed}

abbrev of : (m : ℕ) → Way → Bool
of m w = m == w.packet

-- a way of another packet is no way of this one
other_way : (m k : ℕ) (sent comes : Option Spot) → (m == k) ≡ false → filter (of m) (if_any (way k sent comes)) ≡ []
other_way m k None comes apart = refl
other_way m k (Some s) comes apart = cond-false (m == k) _ _ apart

own_way : (m : ℕ) (s : Spot) (comes : Option Spot) → filter (of m) (if_any (way m (Some s) comes)) ≡ record { packet = m; sent = s; comes = comes } ∷ []
own_way m s comes = cond-true (m == m) _ _ (eq-eqb m m refl)

-- what is known of a packet before a line that doesn't tell of it is known after
abbrev Stays : (m : ℕ) → Packets → Packets → Type 0
Stays m p q = (sent_at m q.under_way ≡ sent_at m p.under_way) × (filter (of m) q.over ≡ filter (of m) p.over)

quiet_end : (m k : ℕ) (comes : Option Spot) → (m == k) ≡ false → (p : Packets) → Stays m p (arrives k comes p)
quiet_end m k comes apart p = (
  other_removed m k apart p.under_way,
  filter-append (of m) p.over (if_any (way k (sent_at k p.under_way) comes))
      ∙ ap (λ l. filter (of m) p.over ++ l) (other_way m k (sent_at k p.under_way) comes apart)
      ∙ append-nil (filter (of m) p.over),
)

quiet : (m : ℕ) (l : Line) → tells_of m l ≡ false → (at : Spot) (p : Packets) → Stays m p (packets_after l at p)
quiet m (Send k q port x) apart at p = (other_inserted m k at apart p.under_way, refl)
quiet m (Arrival n t q k) apart at p = quiet_end m k (Some at) apart p
quiet m (LostCut k) apart at p = quiet_end m k None apart p
quiet m (LostDraw k) apart at p = quiet_end m k None apart p
quiet m Head apart at p = (refl, refl)
quiet m (Boot u v w) apart at p = (refl, refl)
quiet m (Kill u v w) apart at p = (refl, refl)
quiet m (Stop u v w) apart at p = (refl, refl)
quiet m (Cut u v w x) apart at p = (refl, refl)
quiet m (Heal u v w x) apart at p = (refl, refl)
quiet m (DiskFail u v w x) apart at p = (refl, refl)
quiet m (Timer u v w x) apart at p = (refl, refl)
quiet m (Read u v w x y) apart at p = (refl, refl)
quiet m (Write u v w x y) apart at p = (refl, refl)
quiet m (Sync u v w x y) apart at p = (refl, refl)
quiet m (Size u v w x y) apart at p = (refl, refl)
quiet m (Start u v) apart at p = (refl, refl)
quiet m (Wait u v) apart at p = (refl, refl)
quiet m (Take u v w) apart at p = (refl, refl)
quiet m (Throw u v) apart at p = (refl, refl)
quiet m (Catch u v) apart at p = (refl, refl)
quiet m (Fail u v) apart at p = (refl, refl)
quiet m (Finish u) apart at p = (refl, refl)
quiet m (Cancel u) apart at p = (refl, refl)
quiet m (Broken u) apart at p = (refl, refl)
quiet m (PrintInt u v) apart at p = (refl, refl)
quiet m (PrintBool u v) apart at p = (refl, refl)
quiet m (PrintText u v) apart at p = (refl, refl)
quiet m (Discard u) apart at p = (refl, refl)
quiet m (Kept u v w x) apart at p = (refl, refl)
quiet m (Frame u v w x) apart at p = (refl, refl)
quiet m (Callback u v w x) apart at p = (refl, refl)
quiet m EndIdle apart at p = (refl, refl)
quiet m EndBound apart at p = (refl, refl)
quiet m EndSpent apart at p = (refl, refl)
quiet m (EndStop u) apart at p = (refl, refl)

-- events and marks change no packets
same_packets : (o : Option Moment) (s : Option Sign) (d : Drawing) → (with_sign s (with_event o d)).packets ≡ d.packets
same_packets None None d = refl
same_packets None (Some s) d = refl
same_packets (Some m) None d = refl
same_packets (Some m) (Some s) d = refl

packets_drawn : (l : Line) (d : Drawing) → (drawn l d).packets ≡ packets_after l (spot_at (drawn l d).cursor) d.packets
packets_drawn l d = ap (packets_after l (spot_at (drawn l d).cursor)) (same_packets (moment_of l) (sign_of l) d)

abbrev from : Drawing → List Line → Drawing
from d ls = fold (λ e l. drawn l e) d ls

silent : (m : ℕ) (ls : List Line) → AreSilent m ls → (d : Drawing) → Stays m d.packets (from d ls).packets
silent m [] none d = (refl, refl)
silent m (l ∷ ls) none d =
    let here = quiet m l none.0 (spot_at (drawn l d).cursor) d.packets in
    let later = silent m ls none.1 (drawn l d) in (
      later.0 ∙ ap (λ p. sent_at m p.under_way) (packets_drawn l d) ∙ here.0,
      later.1 ∙ ap (λ p. filter (of m) p.over) (packets_drawn l d) ∙ here.1,
    )

-- the way of a packet is over at a line
way_over : (m : ℕ) (ends : Line) (comes : Spot → Option Spot) (s : Spot) → ((at : Spot) (p : Packets) → packets_after ends at p ≡ arrives m (comes at) p)
    → (d : Drawing) → sent_at m d.packets.under_way ≡ Some s → ways_of m d ≡ []
    → ways_of m (drawn ends d) ≡ record { packet = m; sent = s; comes = comes (spot_at (drawn ends d).cursor) } ∷ []
way_over m ends comes s is d sent none =
    let at = spot_at (drawn ends d).cursor in
    ap (λ p. filter (of m) p.over) (packets_drawn ends d ∙ is at d.packets)
    ∙ filter-append (of m) d.packets.over (if_any (way m (sent_at m d.packets.under_way) (comes at)))
    ∙ ap (λ l. l ++ filter (of m) (if_any (way m (sent_at m d.packets.under_way) (comes at)))) none
    ∙ ap (λ o. filter (of m) (if_any (way m o (comes at)))) sent
    ∙ own_way m s (comes at)

-- lines one after another
joined : (d : Drawing) (before : List Line) (l : Line) (after : List Line) → from d (before ++ (l ∷ after)) ≡ from (drawn l (from d before)) after
joined d before l after = fold-append (λ e l. drawn l e) d before (l ∷ after)

one_way : (m : ℕ) (ends : Line) (comes : Spot → Option Spot) → ((at : Spot) (p : Packets) → packets_after ends at p ≡ arrives m (comes at) p)
    → HasOneWay m ends comes
one_way m ends comes is q port x before between after none_before none_between none_after =
    let first = drawing_of before in
    let sent = drawn (Send m q port x) first in
    let under_way = from sent between in
    let over = drawn ends under_way in
    let none : ways_of m first ≡ [] = (silent m before none_before empty_drawing).1 in
    let at : sent_at m sent.packets.under_way ≡ Some (spot_at first.cursor) = here_inserted m (spot_at first.cursor) first.packets.under_way in
    let kept = silent m between none_between sent in
    let whole : (rest : List Line) → drawing_of (told_between before (Send m q port x) between ends rest) ≡ from over rest =
    λ rest. joined empty_drawing before (Send m q port x) (between ++ (ends ∷ rest)) ∙ joined sent between ends rest in
    ap (ways_of m) (whole after)
    ∙ (silent m after none_after over).1
    ∙ way_over m ends comes (spot_at first.cursor) is under_way (kept.0 ∙ at) (kept.1 ∙ none)
    ∙ ap (λ d. record { packet = m; sent = spot_at first.cursor; comes = comes (spot_at d.cursor) } ∷ []) (sym (whole []))

pub one_arrow : OneArrow
one_arrow m n t r = one_way m (Arrival n t r m) (λ at. Some at) (λ at p. refl)

pub one_stub : OneStub
one_stub m = (one_way m (LostCut m) (λ at. None) (λ at p. refl), one_way m (LostDraw m) (λ at. None) (λ at p. refl))
