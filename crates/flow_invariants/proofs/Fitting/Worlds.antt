-- Each event begins in a world that fits, and leaves one.
use Rattle.std.proofs.Common.{◌≡◌, ℕ, zero, suc, ◌+◌, ◌<◌, ◌≤◌, Bool, true, false, List, [], ◌∷◌, length, if◌then◌else◌, refl, ap, subst, arith}
use Rattle.std.specs.Prelude.{replicate, slice_index_or, slice_set, nat_lt, nat_le, map}
use Rattle.std.specs.List.{AllByRecursion, range_with_len}
use Rattle.std.specs.declared.option.Option.{Option}
use Rattle.std.specs.declared.option.Option.TheVariants.{None, Some}
use Rattle.flow_timers.specs.Pending.{Pending}
use Rattle.flow_worldfile.specs.Worlds as file
use Rattle.flow_worldfile.specs.Directives.{InRange, Names, OrderNames}
use Rattle.flow_worldfile.specs.declared.directive.Order.{Order}
use Rattle.flow_worldfile.specs.declared.directive.Order.TheVariants.{Kill, Stop, Boot, Cut, Heal, DiskFail}
use Rattle.flow_class.specs.Classes.{RawTree}
use Rattle.flow_meaning.specs.Deliver.{idle}
use Rattle.flow_meaning.specs.Outside.{What, Boots, Outside}
use Rattle.flow_meaning.specs.World.{Place, World, sooner, soonest, Next, Nothing, Script, Event, first_of, next_of, process_of, process_in}
use Rattle.flow_meaning.specs.Frame.{Frame}
use Rattle.flow_meaning.proofs.RestRuns.{idle_at_rest}
use Rattle.flow_heap_refinement.proofs.Lonely.{idle_lonely}
use Rattle.flow_heap_refinement.proofs.TidySteps.{idle_tied}
use Rattle.flow_progress.specs.Existing.{RestsInPlace}
use Rattle.flow_progress.specs.Fitting.{CellTypes}
use Rattle.flow_progress.proofs.Begun.{idle_fits}
use Rattle.flow_invariants.specs.Fitting.Due.{due, AllBring}
use Rattle.flow_invariants.specs.Fitting.Among.{FitsAmong, RestsAmong, AllRest, EventNames, LineNames, WorldFits}
use Rattle.flow_invariants.proofs.Fitting.Served.{Fewer, rests_fewer}

module _ (r : RawTree) where
  -- the process with a number
  pub rests_at : (ps : List (Place Frame)) (n k : ℕ) (d : Place Frame) (es : List (Pending What)) → k < length ps → AllRest r n es ps → RestsAmong r (n + k) es (slice_index_or ps k d)
  rests_at [] n k d es l h = absurd (omega (arith, l))
  rests_at (p ∷ ps) n zero d es l h = let z : n ≡ n + 0 = omega arith in subst (λ m. RestsAmong r m es p) z h.0
  rests_at (p ∷ ps) n (suc k) d es l h =
      let z : suc n + k ≡ n + suc k = omega arith in subst (λ m. RestsAmong r m es (slice_index_or ps k d)) z (rests_at ps (suc n) k d es (omega (arith, l)) h.1)

  -- each process but one
  abbrev pub OthersRest : (from active : ℕ) → List (Pending What) → List (Place Frame) → Type 0
  OthersRest n active es [] = Unit {0}
  OthersRest n active es (p ∷ ps) = ((n ≡ active → ⊥) → RestsAmong r n es p) × OthersRest (suc n) active es ps

  pub others_of : (ps : List (Place Frame)) (n active : ℕ) (es : List (Pending What)) → AllRest r n es ps → OthersRest n active es ps
  others_of [] n active es h = tt
  others_of (p ∷ ps) n active es h = ((λ o. h.0), others_of ps (suc n) active es h.1)

  pub others_fewer : (ps : List (Place Frame)) (n active : ℕ) (es fs : List (Pending What)) → ((m : ℕ) → (m ≡ active → ⊥) → Fewer m es fs) → OthersRest n active es ps → OthersRest n active fs ps
  others_fewer [] n active es fs l h = tt
  others_fewer (p ∷ ps) n active es fs l h = ((λ o. rests_fewer r n es fs p (l n o) (h.0 o)), others_fewer ps (suc n) active es fs l h.1)

  -- the others and it
  all_others : (ps : List (Place Frame)) (n active : ℕ) (es : List (Pending What)) → active < n → OthersRest n active es ps → AllRest r n es ps
  all_others [] n active es l h = tt
  all_others (p ∷ ps) n active es l h = (h.0 (λ e. absurd (omega (arith, e, l))), all_others ps (suc n) active es (omega (arith, l)) h.1)

  pub set_rest : (ps : List (Place Frame)) (n k active : ℕ) (es : List (Pending What)) (x : Place Frame) → n + k ≡ active → OthersRest n active es ps → RestsAmong r active es x
      → AllRest r n es (slice_set ps k x)
  set_rest [] n k active es x e h i = tt
  set_rest (p ∷ ps) n zero active es x e h i =
      let z : active ≡ n = omega (arith, e) in (subst (λ m. RestsAmong r m es x) z i, all_others ps (suc n) active es (omega (arith, e)) h.1)
  set_rest (p ∷ ps) n (suc k) active es x e h i =
      (h.0 (λ q. absurd (omega (arith, q, e))), set_rest ps (suc n) k active es x (omega (arith, e)) h.1 i)

  pub set_length : (ps : List (Place Frame)) (k : ℕ) (x : Place Frame) → length (slice_set ps k x) ≡ length ps
  set_length [] k x = refl
  set_length (p ∷ ps) zero x = refl
  set_length (p ∷ ps) (suc k) x = ap suc (set_length ps k x)

  -- processes at rest, with frames that are known
  pub all_in_place : (ps : List (Place Frame)) (n : ℕ) (es : List (Pending What)) → AllRest r n es ps → AllByRecursion (λ (a : Place Frame). RestsInPlace r a) ps
  all_in_place [] n es h = tt
  all_in_place (p ∷ ps) n es h = ((h.0.0, h.0.1.in_place.frames), all_in_place ps (suc n) es h.1)

abbrev Lines : Type 0
Lines = (ℕ × Order) × List (ℕ × Order)

abbrev chosen : ℕ × Order → List (ℕ × Order) → Lines → Bool → Lines
chosen x xs y b = if b then (y.0, x ∷ y.1) else (x, xs)

-- what comes next names the processes of the world
module _ (P : ℕ × Order → Type 0) where
  sooner_all : (x : ℕ × Order) (xs : List (ℕ × Order)) (o : Option ((ℕ × Order) × List (ℕ × Order))) → P x → AllByRecursion P xs
      → ((s : (ℕ × Order) × List (ℕ × Order)) → o ≡ Some s → P s.0 × AllByRecursion P s.1)
      → P (sooner x xs o).0 × AllByRecursion P (sooner x xs o).1
  sooner_all x xs None h k f = (h, k)
  sooner_all x xs (Some y) h k f = by_test (nat_lt y.0.0 x.0) (f y refl)
    where
      by_test : (b : Bool) → P y.0 × AllByRecursion P y.1 → P (chosen x xs y b).0 × AllByRecursion P (chosen x xs y b).1
      by_test true g = (g.0, (h, g.1))
      by_test false g = (h, k)

  soonest_all : (xs : List (ℕ × Order)) (s : (ℕ × Order) × List (ℕ × Order)) → AllByRecursion P xs → soonest xs ≡ Some s → P s.0 × AllByRecursion P s.1
  soonest_all [] s h e = absurd cc
  soonest_all (x ∷ xs) s h e = subst (λ (z : (ℕ × Order) × List (ℕ × Order)). P z.0 × AllByRecursion P z.1) (same e) (sooner_all x xs (soonest xs) h.0 h.1 (λ t q. soonest_all xs t h.1 q))
    where
      same : {a b : (ℕ × Order) × List (ℕ × Order)} → Some a ≡ Some b → a ≡ b
      same q = cc

-- by what comes next
pub record NextIn (count : ℕ) (es : List (Pending What)) (n : Next) : Type 0 where
  pub script : (t : ℕ) (x : Order) (left : List (ℕ × Order)) → n ≡ Script t x left → OrderNames count x × AllByRecursion (LineNames count) left
  pub event : (p : Pending What) (left : List (Pending What)) → n ≡ Event p left → es ≡ p ∷ left

pub next_in : (count : ℕ) (w : Outside) → AllByRecursion (LineNames count) w.script → NextIn count w.events.pending (next_of w)
next_in count w h = by_script (soonest w.script) w.events.pending (λ s e. soonest_all (LineNames count) w.script s h e)
  where
    by_script : (o : Option ((ℕ × Order) × List (ℕ × Order))) (es : List (Pending What))
        → ((s : (ℕ × Order) × List (ℕ × Order)) → o ≡ Some s → LineNames count s.0 × AllByRecursion (LineNames count) s.1) → NextIn count es (first_of o es)
    by_script None [] f = record { script = λ t x left e. absurd cc; event = λ p left e. absurd cc }
    by_script None (e ∷ es) f = record { script = λ t x left q. absurd cc; event = λ p left q. let a : e ≡ p = cc in let b : es ≡ left = cc in subst (λ z. e ∷ es ≡ z ∷ left) a (ap (λ l. e ∷ l) b) }
    by_script (Some s) [] f = record {
      script = λ t x left q. let k = f s refl in
          let a : s.0.1 ≡ x = cc in
          let b : s.1 ≡ left = cc in (subst (OrderNames count) a k.0, subst (AllByRecursion (LineNames count)) b k.1);
      event = λ p left q. absurd cc;
    }
    by_script (Some s) (e ∷ es) f = by_test (nat_le s.0.0 e.time)
      where
        by_test : (b : Bool) → NextIn count (e ∷ es) (if b then Script s.0.0 s.0.1 s.1 else Event e es)
        by_test true = record {
          script = λ t x left q. let k = f s refl in
              let a : s.0.1 ≡ x = cc in
              let b : s.1 ≡ left = cc in (subst (OrderNames count) a k.0, subst (AllByRecursion (LineNames count)) b k.1);
          event = λ p left q. absurd cc;
        }
        by_test false = record { script = λ t x left q. absurd cc; event = λ p left q. let a : e ≡ p = cc in let b : es ≡ left = cc in subst (λ z. e ∷ es ≡ z ∷ left) a (ap (λ l. e ∷ l) b) }

-- an order names its process
pub order_process : (count : ℕ) (x : Order) → OrderNames count x → process_of x < count
order_process count (Boot p) h = h
order_process count (Stop p) h = h
order_process count (Kill p) h = h
order_process count (Cut p q) h = h.0
order_process count (Heal p q) h = h.0
order_process count (DiskFail p n) h = h

-- the start: each process is idle, and its boot is pending
abbrev Boots_of : ℕ → Pending What
Boots_of p = record { time = 0; number = suc p; what = Boots p }

boots_bring : (types : CellTypes) (n : ℕ) (from count : ℕ) → AllBring n types (map Boots_of (range_with_len from count))
boots_bring types n from zero = tt
boots_bring types n from (suc count) = (tt, boots_bring types n (from + 1) count)

boots_due : (n k from count : ℕ) → due n k (map Boots_of (range_with_len from count)) ≡ 0
boots_due n k from zero = refl
boots_due n k from (suc count) = let m = boots_due n k (from + 1) count in omega (arith, m)

idle_among : (r : RawTree) (n count : ℕ) → FitsAmong r n (map Boots_of (range_with_len 0 count)) idle
idle_among r n count =
    let f = idle_fits r in record {
      in_place = record { orderly = idle_at_rest.orderly; frames = record { all = tt; phases = λ i g q. absurd cc } };
      tied = idle_tied;
      alone = idle_lonely;
      types = f.0;
      fits = f.1;
      brought = boots_bring f.0 n 0 count;
      awaited = λ k. let m = boots_due n k 0 count in omega (arith, m);
    }

start_rest : (r : RawTree) (count m n : ℕ) → AllRest r n (map Boots_of (range_with_len 0 count)) (replicate m (record { up = false; proc = idle }))
start_rest r count zero n = tt
start_rest r count (suc m) n = ((idle_at_rest, idle_among r n count), start_rest r count m (suc n))

start_length : {A : Type 0} (m : ℕ) (x : A) → length (replicate m x) ≡ m
start_length zero x = refl
start_length (suc m) x = ap suc (start_length m x)

boots_names : (top from count : ℕ) → from + count ≤ top → AllByRecursion (EventNames top) (map Boots_of (range_with_len from count))
boots_names top from zero l = tt
boots_names top from (suc count) l = (omega (arith, l), boots_names top (from + 1) count (omega (arith, l)))

lines_named : (count : ℕ) (xs : List (ℕ × Order)) → AllByRecursion (λ (x : ℕ × Order). InRange (file.at_line x) × Names count (file.at_line x)) xs → AllByRecursion (LineNames count) xs
lines_named count [] h = tt
lines_named count (x ∷ xs) h = (h.0.1, lines_named count xs h.1)

pub starts_fit : (r : RawTree) (w : file.World) → file.IsInRange w → WorldFits r (Rattle.flow_meaning.specs.World.at_start w)
starts_fit r w h = record {
  places = start_rest r w.processes w.processes 0;
  count = start_length w.processes (record { up = false; proc = idle });
  events = boots_names w.processes 0 w.processes (omega arith);
  script = lines_named w.processes w.script h.script;
}
