-- A world to which faults are added, one after another.
use Rattle.std.proofs.Common.{◌≡◌, ℕ, zero, suc, ◌+◌, ◌*◌, ◌/◌, ◌%◌, ◌^◌, ◌<◌, ◌≤◌, Bool, true, false, nat_eq, if◌then◌else◌, ◌-◌, List, [], ◌∷◌, ◌++◌, length, sym, ap, ap₂, ◌∙◌, add-one, arith, subst}
use Rattle.std.specs.Prelude.{replicate}
use Rattle.std.specs.List.{AllByRecursion}
use Rattle.flow_draw.specs.declared.question.Question.TheVariants.{Among}
use Rattle.std.proofs.lemmas.Nat.{mod_below}
use Rattle.std.proofs.lemmas.List.{append_assoc, append-nil, length-append}
use Rattle.flow_draw.specs.Words.{Drawn, drawn_from, word_at, asked}
use Rattle.flow_worldfile.specs.declared.directive.Order.{Order}
use Rattle.flow_worldfile.specs.Directives.{InRange, Names}
use Rattle.flow_worldfile.specs.Worlds.{World, IsInRange, at_line, most_orders}
use Rattle.flow_storm.specs.declared.strike.Fault.{Fault}
use Rattle.flow_storm.specs.declared.strike.Fault.TheVariants.{Crash, CutOff, Stop, Disk}
use Rattle.flow_storm.specs.declared.strike.Strike.{Strike}
use Rattle.flow_storm.specs.Storms.{first_word, other_process, strike_by, strike_at, orders, orders_of, storm_orders, storm_of, struck_by, storm_draws}

-- before the first fault
pub not_struck : (w : World) (seed horizon : ℕ) → w ≡ struck_by seed horizon 0 w
not_struck w seed horizon = ap (λ l. record w { script = l }) (sym (append-nil w.script))

-- one more
pub strike_drawn : (seed processes horizon i : ℕ) (d : Drawn) (s : Strike) → d ≡ storm_draws seed i
    → s ≡ strike_by (λ k. word_at d.seed d.listed (d.used + k)) processes horizon → s ≡ strike_at seed processes horizon i
strike_drawn seed processes horizon i d s is drawn =
    drawn ∙ ap (λ e. strike_by (λ k. word_at e.seed e.listed (e.used + k)) processes horizon) is

pub five_drawn : (seed i : ℕ) (d next : Drawn) → d ≡ storm_draws seed i → next ≡ asked d (replicate 5 (Among (2 ^ 32))) → next ≡ storm_draws seed (i + 1)
five_drawn seed i d next is taken =
    let five : first_word + 5 * i + 5 ≡ first_word + 5 * (i + 1) = omega arith in
    taken ∙ ap (λ e. asked e (replicate 5 (Among (2 ^ 32)))) is ∙ ap (drawn_from seed []) five

pub struck_more : (seed horizon i : ℕ) (first now : World) (script : List (ℕ × Order)) (s : Strike)
    → now ≡ struck_by seed horizon i first → script ≡ now.script ++ orders s → s ≡ strike_at seed now.processes horizon i
    → record now { script = script } ≡ struck_by seed horizon (i + 1) first
struck_more seed horizon i first now script s is grown drawn =
    let whole : script ≡ (first.script ++ storm_orders seed first.processes horizon i) ++ orders (strike_at seed first.processes horizon i) =
    grown ∙ ap₂ (λ l t. l ++ orders t) (ap (λ w. w.script) is) (drawn ∙ ap (λ w. strike_at seed w.processes horizon i) is)
    in
    let one_more = append_assoc first.script (storm_orders seed first.processes horizon i) (orders (strike_at seed first.processes horizon i)) in
    ap₂ {A = World} {B = List (ℕ × Order)} {C = World} (λ w l. record w { script = l }) is (whole ∙ one_more)
    ∙ ap (λ n. struck_by seed horizon n first) (sym (add-one i))

-- orders in range, for so many processes
abbrev pub Fits : ℕ → ℕ × Order → Type 0
Fits processes at = InRange (at_line at) × Names processes (at_line at)

pub all_added : {A : Type 0} (P : A → Type 0) (xs ys : List A) → AllByRecursion P xs → AllByRecursion P ys → AllByRecursion P (xs ++ ys)
all_added P [] ys h k = k
all_added P (x ∷ xs) ys h k = (h.0, all_added P xs ys h.1 k)

orders_fit : (f : Fault) (s : Strike) (processes : ℕ) → s.process.0 < processes → s.other.0 < processes → s.time + s.length ≤ 2 ^ 62
    → AllByRecursion (Fits processes) (orders_of f s)
orders_fit Crash s processes p q t = (((omega arith, tt), p), (((t, tt), p), tt))
orders_fit CutOff s processes p q t = (((omega arith, tt), (p, q)), (((t, tt), (p, q)), tt))
orders_fit Stop s processes p q t = (((omega arith, tt), p), (((t, tt), p), tt))
orders_fit Disk s processes p q t = (((omega arith, omega arith), p), tt)

other_below : (p word processes : ℕ) → p < processes → other_process p word processes < processes
other_below p word processes lt = by_number (nat_eq processes 1)
  where
    by_number : (one : Bool) → (if one then p else (p + 1 + word % (processes - 1)) % processes) < processes
    by_number true = lt
    by_number false = mod_below _ processes (omega arith)

strike_fits : (word : ℕ → ℕ) (processes horizon : ℕ) → 1 ≤ processes → horizon ≤ 1000000000
    → AllByRecursion (Fits processes) (orders (strike_by word processes horizon))
strike_fits word processes horizon some low =
    let s = strike_by word processes horizon in
    let p : s.process.0 < processes = mod_below (word 1) processes some in
    let t = mod_below (word 3) (horizon + 1) (omega arith) in
    let l = mod_below (word 4) (horizon / 8 + 1) (omega arith) in
    orders_fit s.fault s processes p (other_below s.process.0 (word 2) processes p) (omega (arith, t, l, low))

storm_fits : (seed processes horizon n : ℕ) → 1 ≤ processes → horizon ≤ 1000000000 → AllByRecursion (Fits processes) (storm_orders seed processes horizon n)
storm_fits seed processes horizon zero some low = tt
storm_fits seed processes horizon (suc n) some low =
    all_added (Fits processes) (storm_orders seed processes horizon n) _ (storm_fits seed processes horizon n some low)
    (strike_fits (λ k. word_at seed [] (first_word + 5 * n + k)) processes horizon some low)

two_orders : (f : Fault) (s : Strike) → length (orders_of f s) ≤ 2
two_orders Crash s = omega arith
two_orders CutOff s = omega arith
two_orders Stop s = omega arith
two_orders Disk s = omega arith

pub storm_short : (seed processes horizon n : ℕ) → length (storm_orders seed processes horizon n) ≤ 2 * n
storm_short seed processes horizon zero = omega arith
storm_short seed processes horizon (suc n) =
    let s = strike_at seed processes horizon n in
    let less = storm_short seed processes horizon n in
    let two = two_orders s.fault s in
    omega (arith, less, two, length-append (storm_orders seed processes horizon n) (orders s))

pub storm_in_range : (seed n horizon : ℕ) (w : World) → IsInRange w → seed < 2 ^ 64 → horizon ≤ 1000000000 → length w.script + 2 * n ≤ most_orders
    → IsInRange (storm_of seed n horizon w)
storm_in_range seed n horizon w range low short room =
    let short' = storm_short seed w.processes horizon n in
    record {
      seed = low;
      words = range.words;
      words_few = range.words_few;
      processes = range.processes;
      events = range.events;
      turns = range.turns;
      latency = range.latency;
      loss = range.loss;
      diskdelay = range.diskdelay;
      script = all_added (Fits w.processes) w.script _ range.script (storm_fits seed w.processes horizon n range.processes.0 short);
      script_short = omega (arith, room, short', length-append w.script (storm_orders seed w.processes horizon n));
    }

-- what so many faults made of a world, with their seed
pub struck_in_range : (seed n horizon : ℕ) (w now : World) → IsInRange w → seed < 2 ^ 64 → horizon ≤ 1000000000 → length w.script + 2 * n ≤ most_orders
    → (k : ℕ) → k ≡ n → now ≡ struck_by seed horizon k w → IsInRange (record now { seed = seed })
struck_in_range seed n horizon w now range low short room k all is =
    subst (λ v. IsInRange (record v { seed = seed })) (sym (is ∙ ap (λ m. struck_by seed horizon m w) all))
    (storm_in_range seed n horizon w range low short room)
