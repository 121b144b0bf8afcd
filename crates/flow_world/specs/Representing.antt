-- Which world of the definitions the things outside of the processes show.
use Rattle.std.specs.Prelude.{◌≡◌, ℕ, ◌+◌, ◌<◌, ◌≤◌, nat_eq, List, [], ◌∷◌, length, take, if◌then◌else◌}
use Rattle.std.specs.Map.{lookup}
use Rattle.std.specs.Ordering.{nat_cmp}
use Rattle.std.specs.BTreeMap.{is_at}
use Rattle.std.specs.declared.option.Option.{Option}
use Rattle.std.specs.declared.option.Option.TheVariants.{None, Some}
use Rattle.flow_timers.specs.Pending.{Pending}
use Rattle.flow_simnet.specs.declared.packet.Letter.{Letter}
use Rattle.flow_simnet.specs.Links as table
use Rattle.flow_machine.specs.Requests.{call_of}
use Rattle.flow_meaning.specs.Outside.{What, Boots, Rings, Arrives, Answers, Outside, is_cut}
use Rattle.flow_world.specs.Changes.{Surroundings}
use Rattle.flow_world.specs.declared.outside.What as kept
use Rattle.flow_world.specs.declared.outside.What.TheVariants as kept_what

-- the packet of a number that is on its way
abbrev pub letter_at : List (ℕ × Letter) → (number : ℕ) → Option Letter
letter_at ls m = lookup (is_at (nat_cmp m)) ls

-- A packet comes to the process for which it is meant, with what was sent.
abbrev pub ArrivalRepresents : (process number : ℕ) → Option Letter → What → Type 0
ArrivalRepresents p m None x = ⊥
ArrivalRepresents p m (Some l) x = (l.to.0 ≡ p) × (x ≡ Arrives m l.from.0 p l.port l.text)

-- What happens when a pending event comes.
abbrev pub PendingRepresents : List (ℕ × Letter) → kept.What → What → Type 0
PendingRepresents ls (kept_what.Boots p) x = x ≡ Boots p.0
PendingRepresents ls (kept_what.Rings p k) x = x ≡ Rings p.0 k.0
PendingRepresents ls (kept_what.Arrives p m) x = ArrivalRepresents p.0 m (letter_at ls m) x
PendingRepresents ls (kept_what.Answers p k a) x = x ≡ Answers p.0 k.0 (call_of a)

pub record EventRepresents (ls : List (ℕ × Letter)) (e : Pending kept.What) (x : Pending What) : Type 0 where
  pub time : e.time ≡ x.time
  pub number : e.number ≡ x.number
  pub what : PendingRepresents ls e.what x.what

abbrev pub EventsRepresent : List (ℕ × Letter) → List (Pending kept.What) → List (Pending What) → Type 0
EventsRepresent ls [] [] = Unit {0}
EventsRepresent ls [] (x ∷ xs) = ⊥
EventsRepresent ls (e ∷ es) [] = ⊥
EventsRepresent ls (e ∷ es) (x ∷ xs) = EventRepresents ls e x × EventsRepresent ls es xs

-- how many pending events bring the packet of a number
abbrev pub brings : ℕ → kept.What → ℕ
brings m (kept_what.Arrives p n) = if nat_eq m n then 1 else 0
brings m _ = 0

abbrev pub coming : ℕ → List (Pending kept.What) → ℕ
coming m [] = 0
coming m (e ∷ es) = brings m e.what + coming m es

-- no packet comes twice, and each that comes was sent
abbrev pub PacketsOnce : (sent : ℕ) → List (Pending kept.What) → Type 0
PacketsOnce n es = (m : ℕ) → (coming m es ≤ 1) × (n < m → coming m es ≡ 0)

-- how many pending events have a number; no two have the same, and each was made
abbrev pub having : ℕ → List (Pending kept.What) → ℕ
having n [] = 0
having n (e ∷ es) = (if nat_eq n e.number then 1 else 0) + having n es

abbrev pub NumbersOnce : (made : ℕ) → List (Pending kept.What) → Type 0
NumbersOnce made es = (n : ℕ) → (having n es ≤ 1) × (made < n → having n es ≡ 0)

-- the same links are cut
abbrev pub CutsRepresent : (processes : ℕ) → table.Links → Outside → Type 0
CutsRepresent n net w = (p q : ℕ) → p < n → q < n → table.is_cut net.cuts p q ≡ is_cut w.cuts p q

-- All that is outside of the processes but the script: what the world's file fixes, the time, what was counted, what the first
-- words were asked for, the pending events in the order in which they come, the links that are cut, and the disks.
pub record OutsideRepresents (m : Surroundings) (w : Outside) : Type 0 where
  pub seed : m.draws.seed ≡ w.file.seed
  pub words : m.draws.listed ≡ w.file.words
  pub processes : m.net.processes ≡ w.file.processes
  pub latency : m.net.latency ≡ w.file.latency
  pub loss : m.net.loss ≡ w.file.loss
  pub diskdelay : m.disk_delay ≡ w.file.diskdelay
  pub time : m.time ≡ w.time
  pub sent : m.net.sent ≡ w.sent
  pub drawn : m.draws.used ≡ length w.asked
  pub noted : m.draws.noted ≡ take m.draws.room w.asked
  pub made : m.timers.made ≡ w.events.made
  pub events : EventsRepresent m.net.on_way m.timers.pending w.events.pending
  pub packets : PacketsOnce m.net.sent m.timers.pending
  pub numbers : NumbersOnce m.timers.made m.timers.pending
  pub table : length m.net.cuts ≡ 4096
  pub cuts : CutsRepresent w.file.processes m.net w
  pub disks : m.disks ≡ w.disks
