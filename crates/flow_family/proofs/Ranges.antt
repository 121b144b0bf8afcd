-- What a family's worlds have room for, and that they are in range.
use Rattle.std.proofs.Common.{◌≡◌, ℕ, ◌+◌, ◌*◌, ◌^◌, ◌<◌, ◌≤◌, List, [], ◌∷◌, ◌++◌, length, ap, sym, arith, subst, Option, Some, None}
use Rattle.std.specs.Prelude.{IfSome}
use Rattle.std.proofs.lemmas.List.{length-append}
use Rattle.flow_worldfile.specs.declared.directive.Order.{Order}
use Rattle.flow_worldfile.specs.declared.directive.Order.TheVariants as order
use Rattle.flow_worldfile.specs.Worlds.{World, IsInRange, most_orders}
use Rattle.flow_storm.specs.declared.storm.Storm.{Storm}
use Rattle.flow_storm.specs.Storms.{storm_of, storm_orders}
use Rattle.flow_storm.proofs.Adding.{Fits, all_added, storm_short}
use Rattle.flow_family.specs.declared.family.Family.{Family}
use Rattle.flow_family.specs.declared.losses.PowerLoss.{PowerLoss}
use Rattle.flow_family.specs.Families.{by_storm, world_of, orders_of_storm, orders_of_down, IsFamily, with_loss}

stormy_room : (s : Option Storm) (seed more : ℕ) (w : World) → length w.script + orders_of_storm s + more ≤ most_orders
    → length (by_storm s seed w).script + more ≤ most_orders
stormy_room None seed more w room = omega (arith, room)
stormy_room (Some s) seed more w room =
    let short = storm_short seed w.processes s.horizon s.faults in
    omega (arith, room, short, length-append w.script (storm_orders seed w.processes s.horizon s.faults))

-- a world of a family has room for a loss of power
pub loss_room : (f : Family) (seed : ℕ) (first own : World) → IsFamily f first → own ≡ world_of f seed first
    → length own.script + orders_of_down f.down ≤ most_orders
loss_room f seed first own is same =
    subst (λ (w : World). length w.script + orders_of_down f.down ≤ most_orders) (sym same)
    (stormy_room f.storm seed (orders_of_down f.down) first is.room)

lossy_in_range : (down : ℕ) (l : PowerLoss) (w : World) → IsInRange w → length w.script + 2 ≤ most_orders → l.process.0 < w.processes
    → l.time + down ≤ 2 ^ 62 → IsInRange (with_loss down l w)
lossy_in_range down l w range room process borne =
    let orders : List (ℕ × Order) = (l.time, order.Kill l.process.0) ∷ (l.time + down, order.Boot l.process.0) ∷ [] in
    record {
      seed = range.seed;
      words = range.words;
      words_few = range.words_few;
      processes = range.processes;
      events = range.events;
      turns = range.turns;
      latency = range.latency;
      loss = range.loss;
      diskdelay = range.diskdelay;
      script = all_added (Fits w.processes) w.script orders range.script (((omega (arith, borne), tt), process), (((borne, tt), process), tt));
      script_short = omega (arith, room, length-append w.script orders);
    }

-- a world stays in range with a loss of power
pub loss_in_range : (down : ℕ) (l : PowerLoss) (w own : World) → IsInRange w → length w.script + 2 ≤ most_orders → l.process.0 < w.processes
    → l.time + down ≤ 2 ^ 62 → own ≡ with_loss down l w → IsInRange own
loss_in_range down l w own range room process borne same = subst IsInRange (sym same) (lossy_in_range down l w range room process borne)
