-- What stands before the first event shows.
use Rattle.std.proofs.Common.{◌≡◌, ℕ, zero, suc, ◌+◌, ◌<◌, ◌≤◌, Bool, true, false, List, [], ◌∷◌, length, map, take, replicate, get_or, nat_eq, refl, sym, ap, ◌∙◌, subst, arith, if◌then◌else◌}
use Rattle.std.specs.List.{range_with_len}
use Rattle.std.proofs.lemmas.Bool.Decides.{nat_tests}
use Rattle.std.proofs.lemmas.List.{length-replicate}
use Rattle.std.specs.declared.alloc.Global.{Global}
use Rattle.flow_worldfile.specs.declared.world.World0.{World0}
use Rattle.flow_worldfile.specs.Worlds.{seen}
use Rattle.flow_draw.specs.declared.question.Question.{Question}
use Rattle.flow_timers.specs.Pending.{Pending}
use Rattle.flow_simnet.specs.Links as table
use Rattle.flow_meaning.specs.Frame.{Frame}
use Rattle.flow_meaning.specs.Process.{Proc}
use Rattle.flow_meaning.specs.Deliver.{idle}
use Rattle.flow_meaning.specs.Outside.{Outside}
use Rattle.flow_meaning.specs.Outside as meaning
use Rattle.flow_meaning.specs.World.{Place, outside_at_start}
use Rattle.flow_steps.specs.declared.process.Process.{Process}
use Rattle.flow_steps.specs.Doing.{never_ran}
use Rattle.flow_world.specs.declared.place.Place as memory
use Rattle.flow_world.specs.Representing.{EventsRepresent, OutsideRepresents, coming, having}
use Rattle.flow_world.specs.Starting.{AreFresh, boot_of}
use Rattle.flow_world.specs.Starting as start
use Rattle.flow_world_refinement.specs.Order.Showing.{PlacesRepresent}
use Rattle.flow_world_refinement.specs.Order.Beginning.{StartShown}
use Rattle.flow_world_refinement.proofs.Order.Scripts.{sorted_shows}

abbrev down : Place Frame
down = record { up = false; proc = idle }

places_show :
    (Rests : Process → Proc Frame → Type 0) → ((m : Global) → Rests (never_ran m) idle) → (n k count : ℕ) (ats : List memory.Place) → AreFresh n k ats
    → length ats ≡ count → PlacesRepresent Rests n k ats (replicate count down)
places_show Rests fresh n k zero [] f e = tt
places_show Rests fresh n k (suc count) [] f e = absurd (omega (arith, e))
places_show Rests fresh n k zero (at ∷ ats) f e = absurd (omega (arith, e))
places_show Rests fresh n k (suc count) (at ∷ ats) f e = (
  record {
    up = f.0.down;
    me = f.0.me;
    processes_are = f.0.processes_are;
    rests = subst (λ p. Rests p idle) (sym f.0.never) (fresh f.0.memory);
    ports = f.0.ports;
  },
  places_show Rests fresh n (suc k) count ats f.1 (omega (arith, e)),
)

abbrev boot_by : ℕ → Pending meaning.What
boot_by p = record { time = 0; number = suc p; what = meaning.Boots p }

events_show : (k n : ℕ) → EventsRepresent [] (map boot_of (range_with_len k n)) (map boot_by (range_with_len k n))
events_show k zero = tt
events_show k (suc n) = (record { time = refl; number = refl; what = refl }, events_show (k + 1) n)

none_coming : (m k n : ℕ) → coming m (map boot_of (range_with_len k n)) ≡ 0
none_coming m k zero = refl
none_coming m k (suc n) = omega (arith, none_coming m (k + 1) n)

none_before : (m k n : ℕ) → m ≤ k → having m (map boot_of (range_with_len k n)) ≡ 0
none_before m k zero le = refl
none_before m k (suc n) le =
    let other : nat_eq m (suc k) ≡ false = grind (arith, nat_tests) in
    rw other (omega (arith, none_before m (k + 1) n (omega arith)))

none_behind : (m k n : ℕ) → k + n < m → having m (map boot_of (range_with_len k n)) ≡ 0
none_behind m k zero lt = refl
none_behind m k (suc n) lt =
    let other : nat_eq m (suc k) ≡ false = grind (arith, nat_tests) in
    rw other (omega (arith, none_behind m (k + 1) n (omega arith)))

at_most_one : (m k n : ℕ) → having m (map boot_of (range_with_len k n)) ≤ 1
at_most_one m k zero = omega arith
at_most_one m k (suc n) = by_test (nat_eq m (suc k)) refl (at_most_one m (k + 1) n)
  where
    by_test :
        (b : Bool) → nat_eq m (suc k) ≡ b → having m (map boot_of (range_with_len (k + 1) n)) ≤ 1
        → (if b then 1 else 0) + having m (map boot_of (range_with_len (k + 1) n)) ≤ 1
    by_test true e rest =
        let le : m ≤ k + 1 = grind (arith, nat_tests) in
        omega (arith, none_before m (k + 1) n le)
    by_test false e rest = omega (arith, rest)

none_cut : (n i : ℕ) → get_or (replicate n false) i false ≡ false
none_cut zero i = refl
none_cut (suc n) zero = refl
none_cut (suc n) (suc i) = none_cut n i

nothing_noted : (room : ℕ) (qs : List Question) → qs ≡ [] → qs ≡ take room qs
nothing_noted zero qs none = none
nothing_noted (suc n) qs none = none ∙ sym (ap (take (suc n)) none)

outside_shows : (room : ℕ) (file : World0) → OutsideRepresents (start.outside_at_start room file) (outside_at_start (seen file))
outside_shows room file = record {
  seed = refl;
  words = refl;
  processes = refl;
  latency = refl;
  loss = refl;
  diskdelay = refl;
  time = refl;
  sent = refl;
  drawn = refl;
  noted = nothing_noted room [] refl;
  made = refl;
  events = events_show 0 file.processes;
  packets = λ m. (omega (arith, none_coming m 0 file.processes), λ _. none_coming m 0 file.processes);
  numbers = λ m. (at_most_one m 0 file.processes, λ lt. none_behind m 0 file.processes (omega (arith, lt)));
  table = length-replicate 4096 false;
  cuts = λ p q j k. none_cut 4096 (table.link p q);
  disks = refl;
}

pub start_shown : (Rests : Process → Proc Frame → Type 0) → StartShown Rests
start_shown Rests classes file w fresh s = record {
  places = places_show Rests fresh file.processes 0 file.processes w.places s.places s.count;
  outside = subst (λ m. OutsideRepresents m (outside_at_start (seen file))) (sym s.outside) (outside_shows w.outside.draws.room file);
  script = sorted_shows file.script.items w.script s.script;
  ran = s.ran;
  bound = s.bound;
  turns = s.turns;
  going = s.ended;
}
