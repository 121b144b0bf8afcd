-- What an event does to what is outside.
use Rattle.std.proofs.Common.{◌≡◌, ℕ, zero, suc, ◌<◌, Bool, true, false, List, [], ◌∷◌, length, refl, sym, ap, subst, ◌∙◌, arith, if◌then◌else◌}
use Rattle.std.specs.Prelude.{◌||◌, slice_get, slice_set, slice_index_or}
use Rattle.std.specs.declared.option.Option.TheVariants.{Some}
use Rattle.flow_timers.specs.Pending.{Pending}
use Rattle.flow_simnet.specs.Links as table
use Rattle.flow_simdisk.specs.Disk.{Disk, served}
use Rattle.flow_meaning.specs.Outside.{What, Outside, is_link, is_cut}
use Rattle.flow_worldfile.specs.declared.directive.Order.{Order}
use Rattle.flow_meaning.specs.World.{disk_of, with_disk, counted}
use Rattle.flow_world.specs.Changes.{Surroundings}
use Rattle.flow_world.specs.declared.outside.What as kept
use Rattle.flow_world.specs.Representing.{EventsRepresent, PacketsOnce, NumbersOnce, OutsideRepresents}
use Rattle.flow_world.specs.Laws.{LinkCut, LinkHealed, DiskServed, EventTaken, RequestsGone, first_left}
use Rattle.flow_world.proofs.Coming.{once_left, once_gone, gone_shows}
use Rattle.flow_world.proofs.Numbers.{numbers_gone, numbers_left}
use Rattle.flow_world.proofs.Links.{at_set, set_length, same_place, link_within, healed_cuts}

-- what doesn't count for what is outside: how many events ran, whose event it is, and the script;
-- and the time is that of both
pub on_time : (m : Surroundings) (o : Outside) (t u n : ℕ) (left : List (ℕ × Order)) → t ≡ u → OutsideRepresents m o
    → OutsideRepresents (record m { time = t }) (counted u n (record o { script = left }))
on_time m o t u n left same s = record {
  seed = s.seed;
  words = s.words;
  processes = s.processes;
  latency = s.latency;
  loss = s.loss;
  diskdelay = s.diskdelay;
  time = same;
  sent = s.sent;
  drawn = s.drawn;
  noted = s.noted;
  made = s.made;
  events = s.events;
  packets = s.packets;
  numbers = s.numbers;
  table = s.table;
  cuts = s.cuts;
  disks = s.disks;
}

pub link_cut : (m : Surroundings) (w : Outside) → LinkCut m w
link_cut m w p q s few h i = record {
  seed = s.seed;
  words = s.words;
  processes = s.processes;
  latency = s.latency;
  loss = s.loss;
  diskdelay = s.diskdelay;
  time = s.time;
  sent = s.sent;
  drawn = s.drawn;
  noted = s.noted;
  made = s.made;
  events = s.events;
  packets = s.packets;
  numbers = s.numbers;
  table = set_length m.net.cuts (table.link p q) true ∙ s.table;
  cuts = λ a b j k.
      at_set m.net.cuts (table.link p q) (table.link a b) true (subst (λ n. table.link p q < n) (sym s.table) (link_within p q (omega (arith, h, few)) (omega (arith, i, few))))
      ∙ ap (λ t. if t then true else table.is_cut m.net.cuts a b) (same_place p q a b (omega (arith, h, few)) (omega (arith, i, few)) (omega (arith, j, few)) (omega (arith, k, few)))
      ∙ ap (λ t. if is_link a b (p, q) then true else t) (s.cuts a b j k)
      ∙ either (is_link a b (p, q)) (is_cut w.cuts a b);
  disks = s.disks;
}
  where
    either : (t u : Bool) → (if t then true else u) ≡ (t || u)
    either true u = refl
    either false u = refl

pub link_healed : (m : Surroundings) (w : Outside) → LinkHealed m w
link_healed m w p q s few h i = record {
  seed = s.seed;
  words = s.words;
  processes = s.processes;
  latency = s.latency;
  loss = s.loss;
  diskdelay = s.diskdelay;
  time = s.time;
  sent = s.sent;
  drawn = s.drawn;
  noted = s.noted;
  made = s.made;
  events = s.events;
  packets = s.packets;
  numbers = s.numbers;
  table = set_length m.net.cuts (table.link p q) false ∙ s.table;
  cuts = λ a b j k.
      at_set m.net.cuts (table.link p q) (table.link a b) false (subst (λ n. table.link p q < n) (sym s.table) (link_within p q (omega (arith, h, few)) (omega (arith, i, few))))
      ∙ ap (λ t. if t then false else table.is_cut m.net.cuts a b) (same_place p q a b (omega (arith, h, few)) (omega (arith, i, few)) (omega (arith, j, few)) (omega (arith, k, few)))
      ∙ ap (λ t. if is_link a b (p, q) then false else t) (s.cuts a b j k)
      ∙ sym (healed_cuts w.cuts p q a b (omega (arith, h, few)) (omega (arith, i, few)) (omega (arith, j, few)) (omega (arith, k, few)));
  disks = s.disks;
}

pub event_is_taken : (m : Surroundings) (w : Outside) → EventTaken m w
event_is_taken m w s = record {
  seed = s.seed;
  words = s.words;
  processes = s.processes;
  latency = s.latency;
  loss = s.loss;
  diskdelay = s.diskdelay;
  time = s.time;
  sent = s.sent;
  drawn = s.drawn;
  noted = s.noted;
  made = s.made;
  events = left_shows m.timers.pending w.events.pending s.events;
  packets = left_once m.timers.pending s.packets;
  numbers = left_numbers m.timers.pending s.numbers;
  table = s.table;
  cuts = s.cuts;
  disks = s.disks;
}
  where
    left_shows : (es : List (Pending kept.What)) (xs : List (Pending What)) → EventsRepresent m.net.on_way es xs → EventsRepresent m.net.on_way (first_left es) (first_left xs)
    left_shows [] [] h = h
    left_shows [] (x ∷ xs) h = absurd h
    left_shows (e ∷ es) [] h = absurd h
    left_shows (e ∷ es) (x ∷ xs) h = h.1

    left_numbers : (es : List (Pending kept.What)) → NumbersOnce m.timers.made es → NumbersOnce m.timers.made (first_left es)
    left_numbers [] h = h
    left_numbers (e ∷ es) h = numbers_left m.timers.made e es h

    left_once : (es : List (Pending kept.What)) → PacketsOnce m.net.sent es → PacketsOnce m.net.sent (first_left es)
    left_once [] h = h
    left_once (e ∷ es) h = once_left m.net.sent e es h

pub requests_are_gone : (m : Surroundings) (w : Outside) → RequestsGone m w
requests_are_gone m w p s = record {
  seed = s.seed;
  words = s.words;
  processes = s.processes;
  latency = s.latency;
  loss = s.loss;
  diskdelay = s.diskdelay;
  time = s.time;
  sent = s.sent;
  drawn = s.drawn;
  noted = s.noted;
  made = s.made;
  events = gone_shows m.net.on_way p m.timers.pending w.events.pending s.events;
  packets = once_gone m.net.sent p m.timers.pending s.packets;
  numbers = numbers_gone m.timers.made p m.timers.pending s.numbers;
  table = s.table;
  cuts = s.cuts;
  disks = s.disks;
}

-- what stands at a place of a list is there
pub at_place : {Y : Type 0} (xs : List Y) (i : ℕ) (x d : Y) → i < length xs → x ≡ slice_index_or xs i d → slice_get xs i ≡ Some x
at_place [] i x d lt h = absurd (omega (arith, lt))
at_place (y ∷ ys) zero x d lt h = ap Some (sym h)
at_place (y ∷ ys) (suc i) x d lt h = at_place ys i x d (omega (arith, lt)) h

-- what stands at a place, and what is read there
pub found : {Y : Type 0} (xs : List Y) (i : ℕ) (x d : Y) → slice_get xs i ≡ Some x → slice_index_or xs i d ≡ x
found [] i x d e = absurd (cc)
found (y ∷ ys) zero x d e = some e
  where
    some : {Z : Type 0} {z u : Z} → Some z ≡ Some u → z ≡ u
    some g = cc
found (y ∷ ys) (suc i) x d e = found ys i x d e

pub disk_served : (m : Surroundings) (w : Outside) → DiskServed m w
disk_served m w p request n reply s d =
    subst (λ y. (reply ≡ (served request y.fails y.files).1) × OutsideRepresents n (with_disk w p.0 (served request y.fails y.files).0)) same (d.replied, shown)
  where
    same : d.disk ≡ disk_of w p.0
    same = sym (found m.disks p.0 d.disk _ d.there) ∙ ap (λ ds. slice_index_or ds p.0 (record { fails = 0; files = [] })) s.disks

    new : Disk
    new = (served request d.disk.fails d.disk.files).0

    shown : OutsideRepresents n (with_disk w p.0 new)
    shown = subst (λ x. OutsideRepresents x (with_disk w p.0 new)) (sym d.left) (record {
      seed = s.seed;
      words = s.words;
      processes = s.processes;
      latency = s.latency;
      loss = s.loss;
      diskdelay = s.diskdelay;
      time = s.time;
      sent = s.sent;
      drawn = s.drawn;
      noted = s.noted;
      made = s.made;
      events = s.events;
      packets = s.packets;
      numbers = s.numbers;
      table = s.table;
      cuts = s.cuts;
      disks = ap (λ ds. slice_set ds p.0 new) s.disks;
    })
