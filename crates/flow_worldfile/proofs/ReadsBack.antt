-- The printed text of a world is a file of that world.
use Rattle.std.proofs.Common.{◌≡◌, ℕ, ◌≤◌, inl, inr, List, [], ◌∷◌, ◌++◌, map, length, Option, None, ap, sym, ◌∙◌, refl, subst, append-nil, arith, codes}
use Rattle.std.specs.List.{flat_map, filter_map, cons_option, AllByRecursion}
use Rattle.std.proofs.lemmas.List.Elements.{filter_map-append}
use Rattle.flow_worldfile.specs.declared.directive.Order.{Order}
use Rattle.flow_worldfile.specs.declared.directive.Order.TheVariants.{Kill, Stop, Boot, Cut, Heal, DiskFail}
use Rattle.flow_worldfile.specs.declared.directive.Directive.{Directive}
use Rattle.flow_worldfile.specs.declared.directive.Directive.TheVariants.{Seed, Processes, Events, Turns, Latency, DiskDelay, Loss, Word, At}
use Rattle.flow_worldfile.specs.Lines.{lines}
use Rattle.flow_worldfile.specs.Directives.{order_form, form, fields_text, line_text, HasForm, OrderInRange, InRange, OrderNames, Names}
use Rattle.flow_worldfile.specs.Worlds.{World, said, world_of, seed_in, processes_in, events_in, turns_in, latency_in, diskdelay_in, loss_in, word_in, order_in, at_line, directives, world_text, IsInRange}
use Rattle.flow_worldfile.specs.Reading.{Say, AllKept, IsCount}
use Rattle.flow_worldfile.specs.Laws.{ReadsBack}
use Rattle.flow_worldfile.proofs.KeptLemmas.{all_with}
use Rattle.flow_worldfile.proofs.FormLemmas.{one_form}
use Rattle.flow_worldfile.proofs.PrintedLemmas.{Prints, number_prints, word_prints, fields_again, fields_printed, printed_line}

-- a printed line, without its line feed
abbrev line_of : Directive → List ℕ
line_of d = fields_text (form d)

order_prints : (count : ℕ) → count ≤ 64 → (order : Order) → OrderInRange order → OrderNames count order → AllByRecursion Prints (order_form order)
order_prints count few (Kill p) within named = (word_prints (codes "kill") refl, (number_prints p (omega arith), tt))
order_prints count few (Stop p) within named = (word_prints (codes "stop") refl, (number_prints p (omega arith), tt))
order_prints count few (Boot p) within named = (word_prints (codes "boot") refl, (number_prints p (omega arith), tt))
order_prints count few (Cut p q) within named = (word_prints (codes "cut") refl, (number_prints p (omega arith), (number_prints q (omega arith), tt)))
order_prints count few (Heal p q) within named = (word_prints (codes "heal") refl, (number_prints p (omega arith), (number_prints q (omega arith), tt)))
order_prints count few (DiskFail p n) within named = (word_prints (codes "diskfail") refl, (number_prints p (omega arith), (number_prints n (omega arith), tt)))

form_prints : (count : ℕ) → count ≤ 64 → (d : Directive) → InRange d → Names count d → AllByRecursion Prints (form d)
form_prints count few (Seed n) within named = (word_prints (codes "seed") refl, (number_prints n within, tt))
form_prints count few (Processes n) within named = (word_prints (codes "processes") refl, (number_prints n (omega arith), tt))
form_prints count few (Events n) within named = (word_prints (codes "events") refl, (number_prints n (omega arith), tt))
form_prints count few (Turns n) within named = (word_prints (codes "turns") refl, (number_prints n (omega arith), tt))
form_prints count few (Latency lo hi) within named = (word_prints (codes "latency") refl, (number_prints lo (omega arith), (number_prints hi (omega arith), tt)))
form_prints count few (DiskDelay lo hi) within named = (word_prints (codes "diskdelay") refl, (number_prints lo (omega arith), (number_prints hi (omega arith), tt)))
form_prints count few (Loss n) within named = (word_prints (codes "loss") refl, (number_prints n (omega arith), tt))
form_prints count few (Word n) within named = (word_prints (codes "word") refl, (number_prints n (omega arith), tt))
form_prints count few (At t order) within named = (word_prints (codes "at") refl, (number_prints t (omega arith), order_prints count few order within.1 named))

form_again : (d : Directive) → AllByRecursion Prints (form d) → HasForm (line_of d) d
form_again (Seed n) all = fields_again _ _ all
form_again (Processes n) all = fields_again _ _ all
form_again (Events n) all = fields_again _ _ all
form_again (Turns n) all = fields_again _ _ all
form_again (Latency lo hi) all = fields_again _ _ all
form_again (DiskDelay lo hi) all = fields_again _ _ all
form_again (Loss n) all = fields_again _ _ all
form_again (Word n) all = fields_again _ _ all
form_again (At t order) all = fields_again _ _ all

-- the lines of some printed lines
lines_again : (ds : List Directive) → AllByRecursion (λ d. AllByRecursion Prints (form d)) ds → lines (flat_map line_text ds) ≡ map line_of ds
lines_again [] all = refl
lines_again (d ∷ ds) all =
    printed_line (line_of d) (flat_map line_text ds) (fields_printed (form d) all.0) ∙ ap (λ ls. line_of d ∷ ls) (lines_again ds all.1)

-- printed lines say what they were printed from
says_again : (ds : List Directive) → AllByRecursion (λ d. AllByRecursion Prints (form d)) ds → Say (map line_of ds) ds
says_again [] all = refl
says_again (d ∷ ds) all = inr (d, ds, refl, form_again d all.0, says_again ds all.1)

all_print : (count : ℕ) → count ≤ 64 → (ds : List Directive) → AllByRecursion InRange ds → AllByRecursion (Names count) ds → AllByRecursion (λ d. AllByRecursion Prints (form d)) ds
all_print count few [] within named = tt
all_print count few (d ∷ ds) within named = (form_prints count few d within.0 named.0, all_print count few ds within.1 named.1)

-- what holds of each item holds of what is made of it
all_made : {X Y : Type 0} (P : Y → Type 0) (f : X → Y) (xs : List X) → AllByRecursion (λ x. P (f x)) xs → AllByRecursion P (map f xs)
all_made P f [] all = tt
all_made P f (x ∷ xs) all = (all.0, all_made P f xs all.1)

firsts : {X : Type 0} (P Q : X → Type 0) (xs : List X) → AllByRecursion (λ x. P x × Q x) xs → AllByRecursion P xs
firsts P Q [] all = tt
firsts P Q (x ∷ xs) all = (all.0.0, firsts P Q xs all.1)

seconds : {X : Type 0} (P Q : X → Type 0) (xs : List X) → AllByRecursion (λ x. P x × Q x) xs → AllByRecursion Q xs
seconds P Q [] all = tt
seconds P Q (x ∷ xs) all = (all.0.1, seconds P Q xs all.1)

no_names : (count : ℕ) (ws : List ℕ) → AllByRecursion (λ n. Names count (Word n)) ws
no_names count [] = tt
no_names count (n ∷ ws) = (tt, no_names count ws)

-- lines of another kind
none_of : {X Y : Type 0} (kind : Directive → Option Y) (f : X → Directive) (xs : List X) → ((x : X) → kind (f x) ≡ None) → filter_map kind (map f xs) ≡ []
none_of kind f [] none = refl
none_of kind f (x ∷ xs) none = ap (λ o. cons_option o (filter_map kind (map f xs))) (none x) ∙ none_of kind f xs none

-- there are no settings among words and orders
only_once : {Y : Type 0} (kind : Directive → Option Y) (ws : List ℕ) (ats : List (ℕ × Order)) → ((n : ℕ) → kind (Word n) ≡ None) → ((at : ℕ × Order) → kind (at_line at) ≡ None)
    → filter_map kind (map Word ws ++ map at_line ats) ≡ []
only_once kind ws ats w a =
    filter_map-append kind (map Word ws) (map at_line ats) ∙ ap (λ l. l ++ filter_map kind (map at_line ats)) (none_of kind Word ws w) ∙ none_of kind at_line ats a

-- what words and orders say
words_said : (ws : List ℕ) → filter_map word_in (map Word ws) ≡ ws
words_said [] = refl
words_said (n ∷ ws) = ap (λ l. n ∷ l) (words_said ws)

orders_said : (ats : List (ℕ × Order)) → filter_map order_in (map at_line ats) ≡ ats
orders_said [] = refl
orders_said (at ∷ ats) = ap (λ l. at ∷ l) (orders_said ats)

-- the words and the orders that the printed lines say
printed_words : (w : World) → filter_map word_in (map Word w.words ++ map at_line w.script) ≡ w.words
printed_words w =
    filter_map-append word_in (map Word w.words) (map at_line w.script)
    ∙ ap (λ l. filter_map word_in (map Word w.words) ++ l) (none_of word_in at_line w.script (λ at. refl)) ∙ append-nil _ ∙ words_said w.words

printed_script : (w : World) → filter_map order_in (map Word w.words ++ map at_line w.script) ≡ w.script
printed_script w =
    filter_map-append order_in (map Word w.words) (map at_line w.script)
    ∙ ap (λ l. l ++ filter_map order_in (map at_line w.script)) (none_of order_in Word w.words (λ n. refl)) ∙ orders_said w.script

-- the printed lines keep the rules
world_kept : (w : World) → IsInRange w → AllKept w.processes (directives w)
world_kept w within =
    let rest = map Word w.words ++ map at_line w.script in
    let ranges : AllByRecursion InRange rest = all_with InRange (map Word w.words) (map at_line w.script) (all_made InRange Word w.words within.words)
    (all_made InRange at_line w.script (firsts (λ at. InRange (at_line at)) (λ at. Names w.processes (at_line at)) w.script within.script)) in
    let names : AllByRecursion (Names w.processes) rest = all_with (Names w.processes) (map Word w.words) (map at_line w.script)
    (all_made (Names w.processes) Word w.words (no_names w.processes w.words))
    (all_made (Names w.processes) at_line w.script (seconds (λ at. InRange (at_line at)) (λ at. Names w.processes (at_line at)) w.script within.script)) in
    record {
      ranges = (within.seed, (within.processes, (within.events, (within.turns, (within.latency, (within.diskdelay, (within.loss, ranges)))))));
      names = (tt, (tt, (tt, (tt, (tt, (tt, (tt, names)))))));
      seed = omega (arith, ap length (only_once seed_in w.words w.script (λ n. refl) (λ at. refl)));
      processes = omega (arith, ap length (only_once processes_in w.words w.script (λ n. refl) (λ at. refl)));
      events = omega (arith, ap length (only_once events_in w.words w.script (λ n. refl) (λ at. refl)));
      turns = omega (arith, ap length (only_once turns_in w.words w.script (λ n. refl) (λ at. refl)));
      latency = omega (arith, ap length (only_once latency_in w.words w.script (λ n. refl) (λ at. refl)));
      diskdelay = omega (arith, ap length (only_once diskdelay_in w.words w.script (λ n. refl) (λ at. refl)));
      loss = omega (arith, ap length (only_once loss_in w.words w.script (λ n. refl) (λ at. refl)));
      words = omega (arith, ap length (printed_words w), within.words_few);
      script = omega (arith, ap length (printed_script w), within.script_short);
    }

-- the world that the printed lines say
world_said : (w : World) → w ≡ world_of (said (directives w))
world_said w =
    let words : w.words ≡ filter_map word_in (map Word w.words ++ map at_line w.script) = sym (printed_words w) in
    let script : w.script ≡ filter_map order_in (map Word w.words ++ map at_line w.script) = sym (printed_script w) in
    λ i. record {
      seed = w.seed;
      words = words i;
      processes = w.processes;
      events = w.events;
      turns = w.turns;
      latency = w.latency;
      loss = w.loss;
      diskdelay = w.diskdelay;
      script = script i;
    }

-- the first line gives no count of processes, and the second does
world_count : (w : World) → IsInRange w → IsCount (map line_of (directives w)) w.processes
world_count w within =
    let few : w.processes ≤ 64 = within.processes.1 in
    let seed : HasForm (line_of (Seed w.seed)) (Seed w.seed) = form_again (Seed w.seed) (form_prints w.processes few (Seed w.seed) within.seed tt) in
    let given : HasForm (line_of (Processes w.processes)) (Processes w.processes) =
    form_again (Processes w.processes) (form_prints w.processes few (Processes w.processes) within.processes tt) in
    inr (λ n counts. absurd (cc (one_form (line_of (Seed w.seed)) (Seed w.seed) (Processes n) seed counts.0)), inl (given, within.processes))

pub reads_back : ReadsBack
reads_back w within =
    let few : w.processes ≤ 64 = within.processes.1 in
    let kept = world_kept w within in
    let prints = all_print w.processes few (directives w) kept.ranges kept.names in
    let again : lines (world_text w) ≡ map line_of (directives w) = lines_again (directives w) prints in (
      directives w,
      (
        w.processes,
        subst (λ ls. IsCount ls w.processes) (sym again) (world_count w within),
        (subst (λ ls. Say ls (directives w)) (sym again) (says_again (directives w) prints), kept),
      ),
      world_said w,
    )
