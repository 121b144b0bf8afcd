-- Lists without an item, and worlds without a line.
use Rattle.std.proofs.Common.{◌≡◌, ℕ, zero, suc, ◌+◌, ◌-◌, ◌^◌, ◌<◌, ◌≤◌, Bool, true, false, nat_lt, List, [], ◌∷◌, map, length, remove, if◌then◌else◌, refl, sym, ap, ◌∙◌, arith, subst}
use Rattle.std.specs.List.{AllByRecursion}
use Rattle.std.specs.declared.vec.Vec.{Vec}
use Rattle.std.specs.declared.alloc.Global.{Global}
use Rattle.std.proofs.lemmas.List.{length-map}
use Rattle.std.proofs.lemmas.List.Edits.{length-remove}
use Rattle.flow_base.specs.Faults.{next_count}
use Rattle.flow_worldfile.specs.declared.world.World0.{World0}
use Rattle.flow_worldfile.specs.declared.world.At.{At}
use Rattle.flow_worldfile.specs.Directives.{InRange, Names}
use Rattle.flow_worldfile.specs.Worlds.{World, IsInRange, seen, timed, at_line}
use Rattle.flow_shrink.specs.Shrinking.{without, Among, none, goes, stays, IsLeast}
use Rattle.flow_shrink.specs.Editing.{line_goes, Leads, itself, edits, IsLeastBy}

pub map_remove : {X Y : Type 0} (f : X → Y) (xs : List X) (k : ℕ) → map f (remove xs k) ≡ remove (map f xs) k
map_remove f [] zero = refl
map_remove f [] (suc k) = refl
map_remove f (x ∷ xs) zero = refl
map_remove f (x ∷ xs) (suc k) = ap (λ l. f x ∷ l) (map_remove f xs k)

all_remove : {X : Type 0} (P : X → Type 0) (xs : List X) (k : ℕ) → AllByRecursion P xs → AllByRecursion P (remove xs k)
all_remove P [] zero h = tt
all_remove P [] (suc k) h = tt
all_remove P (x ∷ xs) zero h = h.1
all_remove P (x ∷ xs) (suc k) h = (h.0, all_remove P xs k h.1)

pub among_itself : {X : Type 0} (xs : List X) → Among xs xs
among_itself [] = none
among_itself (x ∷ xs) = stays (among_itself xs)

pub among_remove : {X : Type 0} (xs : List X) (k : ℕ) → Among (remove xs k) xs
among_remove [] zero = none
among_remove [] (suc k) = none
among_remove (x ∷ xs) zero = goes (among_itself xs)
among_remove (x ∷ xs) (suc k) = stays (among_remove xs k)

pub among_then : {X : Type 0} {xs ys zs : List X} → Among xs ys → Among ys zs → Among xs zs
among_then h none = h
among_then h (goes k) = goes (among_then h k)
among_then (goes h) (stays k) = goes (among_then h k)
among_then (stays h) (stays k) = stays (among_then h k)

pub among_short : {X : Type 0} {xs ys : List X} → Among xs ys → length xs ≤ length ys
among_short none = omega arith
among_short (goes h) = let le = among_short h in omega (arith, le)
among_short (stays h) = let le = among_short h in omega (arith, le)

-- a world in range stays so without a line
pub in_range_without : (w : World) (k : ℕ) → k < length w.script → IsInRange w → IsInRange (without k w)
in_range_without w k lt r =
    let less = length-remove w.script k lt in
    record {
      seed = r.seed;
      words = r.words;
      words_few = r.words_few;
      processes = r.processes;
      events = r.events;
      turns = r.turns;
      latency = r.latency;
      loss = r.loss;
      diskdelay = r.diskdelay;
      script = all_remove (λ at. InRange (at_line at) × Names w.processes (at_line at)) w.script k r.script;
      script_short = omega (arith, less, r.script_short);
    }

-- a copy of a world from whose script a line was taken
pub taken : (w : World) (copy : World0) (v : Vec At Global) (k : ℕ) → seen copy ≡ w → v.items ≡ remove copy.script.items k
    → seen (record copy { script = v }) ≡ without k w
taken w copy v k same is =
    ap (λ s. record (seen copy) { script = s }) (ap (map timed) is ∙ map_remove timed copy.script.items k) ∙ ap (without k) same

pub range_taken : (w : World) (copy : World0) (v : Vec At Global) (k : ℕ) → seen copy ≡ w → v.items ≡ remove copy.script.items k → k < length w.script
    → IsInRange w → IsInRange (seen (record copy { script = v }))
range_taken w copy v k same is lt r = subst IsInRange (sym (taken w copy v k same is)) (in_range_without w k lt r)

-- how long the script is, as the code reads it
pub script_length : (w : World0) → length (seen w).script ≡ w.script.len
script_length w = length-map w.script.items timed ∙ sym w.script.ok.0

-- a count rises by one at most
rises_by : (n : ℕ) (b : Bool) → (if b then n + 1 else n) ≤ n + 1
rises_by n true = omega arith
rises_by n false = omega arith

pub rises : (n : ℕ) → next_count n ≤ n + 1
rises n = rises_by n (nat_lt n (2 ^ 64 - 1))

kept_by : (n : ℕ) (b : Bool) → n ≤ (if b then n + 1 else n)
kept_by n true = omega arith
kept_by n false = omega arith

pub never_falls : (n : ℕ) → n ≤ next_count n
never_falls n = kept_by n (nat_lt n (2 ^ 64 - 1))

-- lines that went leave a script with some of its lines, and nothing else changes
pub lines_went : (first now : World) → Leads line_goes first now → (now ≡ record first { script = now.script }) × Among now.script first.script
lines_went first _ itself = (refl, among_itself first.script)
lines_went first _ (edits {w} k within led) =
    let was = lines_went first w led in (ap (without k) was.0, among_then (among_remove w.script k) was.1)

pub least_lines : (S : World → Type 0) (first least : World) → IsLeastBy line_goes S first least → IsLeast S first least
least_lines S first least l =
    let went = lines_went first least l.leads in record { same = went.0; fewer = went.1; stops = l.stops; each = l.each }
