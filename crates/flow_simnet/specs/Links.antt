-- The links between processes: which are cut, and the packets on their way.
use Rattle.std.specs.Prelude.{◌≡◌, ◌<◌, ◌≤◌, map, length, replicate, ℕ, suc, ◌+◌, ◌-◌, ◌*◌, ◌/◌, ◌%◌, Bool, true, false, List, [], ◌∷◌, min, max, nat_lt, slice_set, slice_index_or, if◌then◌else◌}
use Rattle.std.specs.List.{All, fold}
use Rattle.std.specs.List.Sorted.{IsStrictlySortedBy}
use Rattle.std.specs.Map.{keys_of}
use Rattle.std.specs.Ordering.{nat_cmp}
use Rattle.std.specs.BTreeMap.{insert_entry}
use Rattle.flow_draw.specs.declared.question.Question.{Question}
use Rattle.flow_draw.specs.declared.question.Question.TheVariants.{Among, Loses}
use Rattle.flow_base.specs.declared.ids.ProcId.{ProcId}
use Rattle.flow_simnet.specs.declared.packet.Fate.{Fate}
use Rattle.flow_simnet.specs.declared.packet.Fate.TheVariants.{Cut, Drawn as LostDraw, At}
use Rattle.flow_simnet.specs.declared.packet.Letter.{Letter}
use Rattle.flow_simnet.specs.declared.packet.Packet.{Packet}

-- How many processes there are; the permille of packets that are lost; the range of delays, its first number and the one past its last; how
-- many
-- packets were sent; for each link whether it is cut; and the packets on their way, by number.
pub record Links : Type 0 where
  pub processes : ℕ
  pub latency : ℕ × ℕ
  pub loss : ℕ
  pub sent : ℕ
  pub cuts : List Bool
  pub on_way : List (ℕ × Letter)

-- the place of the link of two processes, of which there are up to 64: the link is the same in both directions
abbrev pub link : ℕ → ℕ → ℕ
link p q = min p q * 64 + max p q

abbrev pub is_cut : List Bool → ℕ → ℕ → Bool
is_cut cuts p q = slice_index_or cuts (link p q) false

abbrev pub cut : List Bool → ℕ → ℕ → List Bool
cut cuts p q = slice_set cuts (link p q) true

abbrev pub healed : List Bool → ℕ → ℕ → List Bool
healed cuts p q = slice_set cuts (link p q) false

-- how many numbers are in a range
abbrev pub width : ℕ × ℕ → ℕ
width range = range.1 - range.0

-- what a word gives in a range: the first number of the range, and as many more as the remainder by its width says
abbrev pub draw_in : ℕ × ℕ → ℕ → ℕ
draw_in range word = range.0 + word % width range

-- What becomes of a packet by the words that are drawn for it: over a cut link it is lost without a draw; else a word
-- below the permille loses it; else the next word gives its delay.
abbrev pub fate_by : (cut : Bool) → (loss : ℕ) → (latency : ℕ × ℕ) → (now : ℕ) → (ℕ → ℕ) → Fate
fate_by cut loss latency now word =
    if cut then Cut
    else if nat_lt (word 0 % 1000) loss then LostDraw
    else At (now + draw_in latency (word 1))

abbrev pub fate : Links → (now from to : ℕ) → (ℕ → ℕ) → Fate
fate net now p q word = fate_by (is_cut net.cuts p q) net.loss net.latency now word

-- what the words of a fate are asked for: whether the packet is lost, and if not, how late it is
abbrev pub questions_of : (loss : ℕ) → (latency : ℕ × ℕ) → Fate → List Question
questions_of loss latency Cut = []
questions_of loss latency LostDraw = Loses loss ∷ []
questions_of loss latency (At time) = Loses loss ∷ Among (width latency) ∷ []

-- a packet that isn't lost is on its way
abbrev pub put_on_way : Fate → ℕ → Letter → List (ℕ × Letter) → List (ℕ × Letter)
put_on_way Cut number letter on_way = on_way
put_on_way LostDraw number letter on_way = on_way
put_on_way (At time) number letter on_way = insert_entry nat_cmp on_way number letter

-- the net after a packet of this fate was sent
abbrev pub with_sent : Links → Fate → Letter → Links
with_sent net f letter = record net { sent = suc net.sent; on_way = put_on_way f (suc net.sent) letter net.on_way }

-- a letter with its number
abbrev pub numbered : ℕ → Letter → Packet
numbered n l = record { number = n; from = l.from; to = l.to; port = l.port; text = l.text }

-- the cut links from a place on, each with the lesser process first
abbrev pub cut_links : ℕ → List Bool → List (ProcId × ProcId)
cut_links place [] = []
cut_links place (b ∷ bs) =
    if b then (record { 0 = place / 64 }, record { 0 = place % 64 }) ∷ cut_links (suc place) bs else cut_links (suc place) bs

-- no packet was sent and no link is cut
abbrev pub open_links : (processes : ℕ) → (latency : ℕ × ℕ) → (loss : ℕ) → Links
open_links n latency loss = record { processes = n; latency = latency; loss = loss; sent = 0; cuts = replicate 4096 false; on_way = [] }

-- a link of two of so many processes, the lesser first
abbrev pub IsLinkBelow : ℕ → ProcId × ProcId → Type 0
IsLinkBelow n l = (l.0.0 ≤ l.1.0) × (l.1.0 < n)

-- links are of two of so many processes
abbrev pub AreBelow : ℕ → List (ProcId × ProcId) → Type 0
AreBelow n links = All (λ l. (l.0.0 < n) × (l.1.0 < n)) links

-- the links that are cut are links of the processes, each at its own place
abbrev pub HasLinks : (processes : ℕ) → List Bool → Type 0
HasLinks n cuts = All (IsLinkBelow n) (cut_links 0 cuts)

-- these links cut
abbrev pub all_cut : List Bool → List (ProcId × ProcId) → List Bool
all_cut cuts links = fold (λ cs l. cut cs l.0.0 l.1.0) cuts links

-- these packets on their way
abbrev pub letter_of : Packet → Letter
letter_of p = record { from = p.from; to = p.to; port = p.port; text = p.text }

abbrev pub packets_of : List (ℕ × Letter) → List Packet
packets_of on_way = map (λ e. numbered e.0 e.1) on_way

abbrev pub all_on_way : List (ℕ × Letter) → List Packet → List (ℕ × Letter)
all_on_way on_way ps = fold (λ es p. insert_entry nat_cmp es p.number (letter_of p)) on_way ps

-- what is restored from the state of links is those links: where the cut links stand at their places, and the numbers of
-- the packets rise
abbrev pub ComesBack : Links → Type 0
ComesBack net = (all_cut (replicate 4096 false) (cut_links 0 net.cuts) ≡ net.cuts) × (all_on_way [] (packets_of net.on_way) ≡ net.on_way)

abbrev pub Restores : Type 0
Restores = (net : Links) → length net.cuts ≡ 4096 → HasLinks net.processes net.cuts → IsStrictlySortedBy nat_cmp (keys_of net.on_way)
    → ComesBack net
