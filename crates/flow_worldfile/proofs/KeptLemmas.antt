-- What lines keep together.
use Rattle.std.proofs.Common.{◌≡◌, ℕ, ◌+◌, ◌≤◌, ◌<◌, inl, inr, true, false, List, [], ◌∷◌, ◌++◌, length, length-append, Option, Some, None, ap, sym, ◌∙◌, refl, subst, arith}
use Rattle.std.specs.Option.{unwrap_or, is_some}
use Rattle.std.specs.List.{filter_map, cons_option, AllByRecursion}
use Rattle.std.proofs.lemmas.List.Elements.{filter_map-append}
use Rattle.flow_worldfile.specs.declared.directive.Order.{Order}
use Rattle.flow_worldfile.specs.declared.directive.Directive.{Directive}
use Rattle.flow_worldfile.specs.declared.directive.Directive.TheVariants.{Seed, Processes, Events, Turns, Latency, DiskDelay, Loss, Word, At}
use Rattle.flow_worldfile.specs.Lines.{lines}
use Rattle.flow_worldfile.specs.Directives.{HasForm, InRange, Names}
use Rattle.flow_worldfile.specs.Worlds.{World, said, world_of, head, first, seed_in, processes_in, events_in, turns_in, latency_in, diskdelay_in, loss_in, word_in, order_in, at_line, most_words, most_orders, IsInRange}
use Rattle.flow_worldfile.specs.Reading.{HasRoom, is_repeated, Keeps, Say, amount, AllKept, IsCount, IsFileOf}
use Rattle.flow_worldfile.proofs.SaidLemmas.{other, one_longer}
use Rattle.flow_worldfile.proofs.FormLemmas.{one_form, count_said}
use Rattle.flow_worldfile.proofs.RuleLemmas.{over_formless}

-- no line at all
pub none_kept : (count : ℕ) → AllKept count []
none_kept count = record {
  ranges = tt;
  names = tt;
  seed = omega arith;
  processes = omega arith;
  events = omega arith;
  turns = omega arith;
  latency = omega arith;
  diskdelay = omega arith;
  loss = omega arith;
  words = omega arith;
  script = omega arith;
}

pub all_with : {X : Type 0} (P : X → Type 0) (xs ys : List X) → AllByRecursion P xs → AllByRecursion P ys → AllByRecursion P (xs ++ ys)
all_with P [] ys first rest = rest
all_with P (x ∷ xs) ys first rest = (first.0, all_with P xs ys first.1 rest)

all_at : {X : Type 0} (P : X → Type 0) (xs ys : List X) (x : X) → AllByRecursion P (xs ++ x ∷ ys) → P x
all_at P [] ys x all = all.0
all_at P (y ∷ xs) ys x all = all_at P xs ys x all.1

-- where one more is added only below the limit, there are no more than the limit
no_more : {X : Type 0} (kind : Directive → Option X) (limit : ℕ) (ds : List Directive) (d : Directive)
    → (is_some (kind d) ≡ true → length (filter_map kind ds) < limit) → length (filter_map kind ds) ≤ limit
    → length (filter_map kind (ds ++ d ∷ [])) ≤ limit
no_more {X} kind limit ds d room few = step (kind d) refl
  where
    step : (o : Option X) → kind d ≡ o → length (filter_map kind (ds ++ d ∷ [])) ≤ limit
    step None e = subst (λ xs. length xs ≤ limit) (sym (other kind ds d e)) few
    step (Some x) e =
        let below : length (filter_map kind ds) < limit = room (ap is_some e) in
        omega (arith, one_longer kind ds d x e)

word_room : (ds : List Directive) (d : Directive) → HasRoom (said ds) d → is_some (word_in d) ≡ true → amount word_in ds < most_words
word_room ds (Word n) room is = room
word_room ds _ room is = absurd (cc)

order_room : (ds : List Directive) (d : Directive) → HasRoom (said ds) d → is_some (order_in d) ≡ true → amount order_in ds < most_orders
order_room ds (At t order) room is = room
order_room ds _ room is = absurd (cc)

-- where no line of a kind says anything, there is none
none_there : {X : Type 0} (xs : List X) → is_some (head xs) ≡ false → length xs < 1
none_there [] none = omega arith
none_there (x ∷ xs) none = absurd (cc)

says_none : {X : Type 0} (xs : List X) → length xs < 1 → is_some (head xs) ≡ false
says_none [] none = refl
says_none (x ∷ xs) none = absurd (omega arith)

seed_room : (ds : List Directive) (d : Directive) → is_repeated (said ds) d ≡ false → is_some (seed_in d) ≡ true → amount seed_in ds < 1
seed_room ds (Seed n) once is = none_there (filter_map seed_in ds) once
seed_room ds _ once is = absurd (cc)

processes_room : (ds : List Directive) (d : Directive) → is_repeated (said ds) d ≡ false → is_some (processes_in d) ≡ true → amount processes_in ds < 1
processes_room ds (Processes n) once is = none_there (filter_map processes_in ds) once
processes_room ds _ once is = absurd (cc)

events_room : (ds : List Directive) (d : Directive) → is_repeated (said ds) d ≡ false → is_some (events_in d) ≡ true → amount events_in ds < 1
events_room ds (Events n) once is = none_there (filter_map events_in ds) once
events_room ds _ once is = absurd (cc)

turns_room : (ds : List Directive) (d : Directive) → is_repeated (said ds) d ≡ false → is_some (turns_in d) ≡ true → amount turns_in ds < 1
turns_room ds (Turns n) once is = none_there (filter_map turns_in ds) once
turns_room ds _ once is = absurd (cc)

latency_room : (ds : List Directive) (d : Directive) → is_repeated (said ds) d ≡ false → is_some (latency_in d) ≡ true → amount latency_in ds < 1
latency_room ds (Latency lo hi) once is = none_there (filter_map latency_in ds) once
latency_room ds _ once is = absurd (cc)

diskdelay_room : (ds : List Directive) (d : Directive) → is_repeated (said ds) d ≡ false → is_some (diskdelay_in d) ≡ true → amount diskdelay_in ds < 1
diskdelay_room ds (DiskDelay lo hi) once is = none_there (filter_map diskdelay_in ds) once
diskdelay_room ds _ once is = absurd (cc)

loss_room : (ds : List Directive) (d : Directive) → is_repeated (said ds) d ≡ false → is_some (loss_in d) ≡ true → amount loss_in ds < 1
loss_room ds (Loss n) once is = none_there (filter_map loss_in ds) once
loss_room ds _ once is = absurd (cc)

-- one more line
pub kept_more : (count : ℕ) (ds : List Directive) (line : List ℕ) (d : Directive) → Keeps count (said ds) line d → AllKept count ds → AllKept count (ds ++ d ∷ [])
kept_more count ds line d keeps kept = record {
  ranges = all_with InRange ds (d ∷ []) kept.ranges (keeps.within.0, tt);
  names = all_with (Names count) ds (d ∷ []) kept.names (keeps.names, tt);
  seed = no_more seed_in 1 ds d (seed_room ds d keeps.once) kept.seed;
  processes = no_more processes_in 1 ds d (processes_room ds d keeps.once) kept.processes;
  events = no_more events_in 1 ds d (events_room ds d keeps.once) kept.events;
  turns = no_more turns_in 1 ds d (turns_room ds d keeps.once) kept.turns;
  latency = no_more latency_in 1 ds d (latency_room ds d keeps.once) kept.latency;
  diskdelay = no_more diskdelay_in 1 ds d (diskdelay_room ds d keeps.once) kept.diskdelay;
  loss = no_more loss_in 1 ds d (loss_room ds d keeps.once) kept.loss;
  words = no_more word_in most_words ds d (word_room ds d keeps.within.1) kept.words;
  script = no_more order_in most_orders ds d (order_room ds d keeps.within.1) kept.script;
}

-- there was room for a line of a kind
room_before : {X : Type 0} (kind : Directive → Option X) (limit : ℕ) (before rest : List Directive) (d : Directive) (x : X) → kind d ≡ Some x
    → amount kind (before ++ d ∷ rest) ≤ limit → amount kind before < limit
room_before kind limit before rest d x e few =
    let whole : amount kind (before ++ d ∷ rest) ≡ amount kind before + length (cons_option (kind d) (filter_map kind rest)) =
    ap length (filter_map-append kind before (d ∷ rest)) ∙ length-append (filter_map kind before) (cons_option (kind d) (filter_map kind rest)) in
    let one : length (cons_option (kind d) (filter_map kind rest)) ≡ length (x ∷ filter_map kind rest) = ap (λ o. length (cons_option o (filter_map kind rest))) e in
    omega arith

had_room : (count : ℕ) (before rest : List Directive) (d : Directive) → AllKept count (before ++ d ∷ rest) → HasRoom (said before) d
had_room count before rest (Word n) kept = room_before word_in most_words before rest (Word n) n refl kept.words
had_room count before rest (At t order) kept = room_before order_in most_orders before rest (At t order) (t, order) refl kept.script
had_room count before rest (Seed n) kept = tt
had_room count before rest (Processes n) kept = tt
had_room count before rest (Events n) kept = tt
had_room count before rest (Turns n) kept = tt
had_room count before rest (Latency lo hi) kept = tt
had_room count before rest (DiskDelay lo hi) kept = tt
had_room count before rest (Loss n) kept = tt

was_once : (count : ℕ) (before rest : List Directive) (d : Directive) → AllKept count (before ++ d ∷ rest) → is_repeated (said before) d ≡ false
was_once count before rest (Seed n) kept = says_none (filter_map seed_in before) (room_before seed_in 1 before rest (Seed n) n refl kept.seed)
was_once count before rest (Processes n) kept = says_none (filter_map processes_in before) (room_before processes_in 1 before rest (Processes n) n refl kept.processes)
was_once count before rest (Events n) kept = says_none (filter_map events_in before) (room_before events_in 1 before rest (Events n) n refl kept.events)
was_once count before rest (Turns n) kept = says_none (filter_map turns_in before) (room_before turns_in 1 before rest (Turns n) n refl kept.turns)
was_once count before rest (Latency lo hi) kept = says_none (filter_map latency_in before) (room_before latency_in 1 before rest (Latency lo hi) (lo, hi) refl kept.latency)
was_once count before rest (DiskDelay lo hi) kept = says_none (filter_map diskdelay_in before) (room_before diskdelay_in 1 before rest (DiskDelay lo hi) (lo, hi) refl kept.diskdelay)
was_once count before rest (Loss n) kept = says_none (filter_map loss_in before) (room_before loss_in 1 before rest (Loss n) n refl kept.loss)
was_once count before rest (Word n) kept = refl
was_once count before rest (At t order) kept = refl

-- each line kept the rules after those before it
pub kept_at : (count : ℕ) (line : List ℕ) (before : List Directive) (d : Directive) (rest : List Directive) → HasForm line d → AllKept count (before ++ d ∷ rest)
    → Keeps count (said before) line d
kept_at count line before d rest form kept = record {
  form = form;
  within = (all_at InRange before rest d kept.ranges, had_room count before rest d kept);
  once = was_once count before rest d kept;
  names = all_at (Names count) before rest d kept.names;
}

-- what is no count of processes gives none
no_count : (d : Directive) → ((m : ℕ) → d ≡ Processes m → ⊥) → processes_in d ≡ None
no_count (Processes m) none = absurd (none m refl)
no_count (Seed n) none = refl
no_count (Events n) none = refl
no_count (Turns n) none = refl
no_count (Latency lo hi) none = refl
no_count (DiskDelay lo hi) none = refl
no_count (Loss n) none = refl
no_count (Word n) none = refl
no_count (At t order) none = refl

-- the count of processes of an accepted text is the one that it says
counted : (count : ℕ) (ls : List (List ℕ)) (ds : List Directive) → IsCount ls count → Say ls ds → AllByRecursion InRange ds → unwrap_or (first processes_in ds) 1 ≡ count
counted count [] ds is says all = ap (λ l. unwrap_or (first processes_in l) 1) says ∙ sym is
counted count (line ∷ more) ds (inl counts) (inl over) all = absurd (over_formless line (Processes count) over.0 counts.0)
counted count (line ∷ more) ds (inr later) (inl over) all = counted count more ds later.1 over.1 all
counted count (line ∷ more) ds (inl counts) (inr h) all =
    let is : h.0 ≡ Processes count = one_form line h.0 (Processes count) h.3 counts.0 in
    ap (λ l. unwrap_or (first processes_in l) 1) (h.2 ∙ ap (λ d. d ∷ h.1) is)
counted count (line ∷ more) ds (inr later) (inr h) all =
    let within : AllByRecursion InRange (h.0 ∷ h.1) = subst (AllByRecursion InRange) h.2 all in
    let none : processes_in h.0 ≡ None = no_count h.0 (λ m is. later.0 m (subst (HasForm line) is h.3, subst InRange is within.0)) in
    ap (λ l. unwrap_or (first processes_in l) 1) h.2
    ∙ ap (λ o. unwrap_or (head (cons_option o (filter_map processes_in h.1))) 1) none
    ∙ counted count more h.1 later.1 h.4 within.1

-- what the first line of a kind says has what each line has
first_in : {X : Type 0} (kind : Directive → Option X) (back : X → Directive) → ((d : Directive) (x : X) → kind d ≡ Some x → d ≡ back x)
    → (P : Directive → Type 0) (ds : List Directive) → AllByRecursion P ds → (default : X) → P (back default) → P (back (unwrap_or (first kind ds) default))
first_in kind back is P [] all default h = h
first_in {X} kind back is P (d ∷ ds) all default h = step (kind d) refl (first_in kind back is P ds all.1 default h)
  where
    step : (o : Option X) → kind d ≡ o → P (back (unwrap_or (first kind ds) default)) → P (back (unwrap_or (head (cons_option o (filter_map kind ds))) default))
    step None e rest = rest
    step (Some x) e rest = subst P (is d x e) all.0

-- and so with all lines of a kind
all_in : {X : Type 0} (kind : Directive → Option X) (back : X → Directive) → ((d : Directive) (x : X) → kind d ≡ Some x → d ≡ back x)
    → (P : Directive → Type 0) (ds : List Directive) → AllByRecursion P ds → AllByRecursion (λ x. P (back x)) (filter_map kind ds)
all_in kind back is P [] all = tt
all_in {X} kind back is P (d ∷ ds) all = step (kind d) refl (all_in kind back is P ds all.1)
  where
    step : (o : Option X) → kind d ≡ o → AllByRecursion (λ x. P (back x)) (filter_map kind ds) → AllByRecursion (λ x. P (back x)) (cons_option o (filter_map kind ds))
    step None e rest = rest
    step (Some x) e rest = (subst P (is d x e) all.0, rest)

-- a line says what it was made of
seed_is : (d : Directive) (n : ℕ) → seed_in d ≡ Some n → d ≡ Seed n
seed_is (Seed k) n e = cc
seed_is _ n e = absurd (cc)

events_is : (d : Directive) (n : ℕ) → events_in d ≡ Some n → d ≡ Events n
events_is (Events k) n e = cc
events_is _ n e = absurd (cc)

turns_is : (d : Directive) (n : ℕ) → turns_in d ≡ Some n → d ≡ Turns n
turns_is (Turns k) n e = cc
turns_is _ n e = absurd (cc)

latency_is : (d : Directive) (p : ℕ × ℕ) → latency_in d ≡ Some p → d ≡ Latency p.0 p.1
latency_is (Latency lo hi) p e =
    let same : (lo, hi) ≡ p = cc in
    ap (λ (q : ℕ × ℕ). Latency q.0 q.1) same
latency_is _ p e = absurd (cc)

diskdelay_is : (d : Directive) (p : ℕ × ℕ) → diskdelay_in d ≡ Some p → d ≡ DiskDelay p.0 p.1
diskdelay_is (DiskDelay lo hi) p e =
    let same : (lo, hi) ≡ p = cc in
    ap (λ (q : ℕ × ℕ). DiskDelay q.0 q.1) same
diskdelay_is _ p e = absurd (cc)

loss_is : (d : Directive) (n : ℕ) → loss_in d ≡ Some n → d ≡ Loss n
loss_is (Loss k) n e = cc
loss_is _ n e = absurd (cc)

word_is : (d : Directive) (n : ℕ) → word_in d ≡ Some n → d ≡ Word n
word_is (Word k) n e = cc
word_is _ n e = absurd (cc)

order_is : (d : Directive) (p : ℕ × Order) → order_in d ≡ Some p → d ≡ at_line p
order_is (At t order) p e =
    let same : (t, order) ≡ p = cc in
    ap (at_line) same
order_is _ p e = absurd (cc)

both : {X : Type 0} (P Q : X → Type 0) (xs : List X) → AllByRecursion P xs → AllByRecursion Q xs → AllByRecursion (λ x. P x × Q x) xs
both P Q [] all each = tt
both P Q (x ∷ xs) all each = ((all.0, each.0), both P Q xs all.1 each.1)

-- the world of kept lines is in range
kept_in_range : (count : ℕ) (ds : List Directive) → AllKept count ds → unwrap_or (first processes_in ds) 1 ≡ count → IsInRange (world_of (said ds))
kept_in_range count ds kept is =
    let within = kept.ranges in
    record {
      seed = first_in seed_in Seed seed_is InRange ds within 0 (omega arith);
      words = all_in word_in Word word_is InRange ds within;
      words_few = kept.words;
      processes = first_in processes_in Processes count_said InRange ds within 1 (omega arith, omega arith);
      events = first_in events_in Events events_is InRange ds within 1000 (omega arith);
      turns = first_in turns_in Turns turns_is InRange ds within 100000 (omega arith, omega arith);
      latency = first_in latency_in (λ (p : ℕ × ℕ). Latency p.0 p.1) latency_is InRange ds within (1, 2) (omega arith, omega arith);
      loss = first_in loss_in Loss loss_is InRange ds within 0 (omega arith);
      diskdelay = first_in diskdelay_in (λ (p : ℕ × ℕ). DiskDelay p.0 p.1) diskdelay_is InRange ds within (1, 2) (omega arith, omega arith);
      script = subst (λ n. AllByRecursion (λ at. InRange (at_line at) × Names n (at_line at)) (filter_map order_in ds)) (sym is)
          (all_in order_in at_line order_is (λ d. InRange d × Names count d) ds (both InRange (Names count) ds kept.ranges kept.names));
      script_short = kept.script;
    }

-- the world of a world file is in range
pub file_in_range : (bytes : List ℕ) (w : World) → IsFileOf bytes w → IsInRange w
file_in_range bytes w (ds, (count, is, judged), says) =
    subst IsInRange (sym says) (kept_in_range count ds judged.1 (counted count (lines bytes) ds is judged.0 judged.1.ranges))
