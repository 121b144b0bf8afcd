-- Fields that have no form.
use Rattle.std.proofs.Common.{◌≡◌, ◌≢◌, ℕ, Bool, true, false, true≢false, cond, List, [], ◌∷◌, map, ap, sym, ◌∙◌, refl, codes}
use Rattle.std.specs.Str.{bytes_eq}
use Rattle.flow_worldfile.specs.declared.directive.Order.{Order}
use Rattle.flow_worldfile.specs.declared.directive.Order.TheVariants.{Kill, Stop, Boot, Cut, Heal, DiskFail}
use Rattle.flow_worldfile.specs.declared.directive.Directive.{Directive}
use Rattle.flow_worldfile.specs.declared.directive.Directive.TheVariants.{Seed, Processes, Events, Turns, Latency, DiskDelay, Loss, Word, At}
use Rattle.flow_worldfile.specs.Lines.{Field, text, number, field_of, is_number, pieces, fields}
use Rattle.flow_worldfile.specs.Directives.{order_form, form}

-- a field that is another text is no number
pub no_number : (line piece : List ℕ) (others : List (List ℕ)) → pieces line ≡ piece ∷ others → field_of piece ≡ text piece
    → (n : ℕ) (more : List Field) → fields line ≢ number n ∷ more
no_number line piece others parts is n more e = cc

chosen : (b : Bool) (n : ℕ) (piece word : List ℕ) → cond b (number n) (text piece) ≡ text word → piece ≡ word
chosen true n piece word e = absurd (cc)
chosen false n piece word e = cc

-- a field that is a word's text is that word
pub is_word : (piece word : List ℕ) → field_of piece ≡ text word → piece ≡ word
is_word piece word e = chosen (is_number piece) _ piece word e

-- the first field of a line is the first of the form
pub first_is : {f g : Field} {fs gs : List Field} → f ∷ fs ≡ g ∷ gs → f ≡ g
first_is e = cc

-- two words that differ
clash : (v w : List ℕ) → bytes_eq v w ≡ false → bytes_eq v v ≡ true → text v ≡ text w → ⊥
clash v w differ same e =
    let is : v ≡ w = cc in
    true≢false (sym same ∙ ap (bytes_eq v) is ∙ differ)

pub no_short_order : (word : List ℕ) (n : ℕ) → word ≢ codes "kill" → word ≢ codes "stop" → word ≢ codes "boot"
    → (order : Order) → field_of word ∷ number n ∷ [] ≢ order_form order
no_short_order word n kill stop boot (Kill p) e = kill (is_word word _ (first_is e))
no_short_order word n kill stop boot (Stop p) e = stop (is_word word _ (first_is e))
no_short_order word n kill stop boot (Boot p) e = boot (is_word word _ (first_is e))
no_short_order word n kill stop boot _ e = absurd (cc)

pub no_long_order : (word : List ℕ) (m n : ℕ) → word ≢ codes "cut" → word ≢ codes "heal" → word ≢ codes "diskfail"
    → (order : Order) → field_of word ∷ number m ∷ number n ∷ [] ≢ order_form order
no_long_order word m n cut heal fail (Cut p q) e = cut (is_word word _ (first_is e))
no_long_order word m n cut heal fail (Heal p q) e = heal (is_word word _ (first_is e))
no_long_order word m n cut heal fail (DiskFail p k) e = fail (is_word word _ (first_is e))
no_long_order word m n cut heal fail _ e = absurd (cc)

-- no order has other fields behind its word than one number or two
pub no_order : (line piece : List ℕ) (more : List ℕ) → pieces line ≡ piece ∷ pieces more
    → ((n : ℕ) → fields more ≢ number n ∷ []) → ((m n : ℕ) → fields more ≢ number m ∷ number n ∷ [])
    → (order : Order) → fields line ≢ order_form order
no_order line piece more parts one two (Kill p) e = one p (cc)
no_order line piece more parts one two (Stop p) e = one p (cc)
no_order line piece more parts one two (Boot p) e = one p (cc)
no_order line piece more parts one two (Cut p q) e = two p q (cc)
no_order line piece more parts one two (Heal p q) e = two p q (cc)
no_order line piece more parts one two (DiskFail p n) e = two p n (cc)

-- an order begins with a word
not_empty : (order : Order) → [] ≢ order_form order
not_empty (Kill p) e = absurd (cc)
not_empty (Stop p) e = absurd (cc)
not_empty (Boot p) e = absurd (cc)
not_empty (Cut p q) e = absurd (cc)
not_empty (Heal p q) e = absurd (cc)
not_empty (DiskFail p n) e = absurd (cc)

pub no_order_empty : (line : List ℕ) → pieces line ≡ [] → (order : Order) → fields line ≢ order_form order
no_order_empty line none order e = not_empty order (sym (ap (map field_of) none) ∙ e)

not_number : (n : ℕ) (more : List Field) (order : Order) → number n ∷ more ≢ order_form order
not_number n more (Kill p) e = absurd (cc)
not_number n more (Stop p) e = absurd (cc)
not_number n more (Boot p) e = absurd (cc)
not_number n more (Cut p q) e = absurd (cc)
not_number n more (Heal p q) e = absurd (cc)
not_number n more (DiskFail p k) e = absurd (cc)

pub no_short_line : (word : List ℕ) (n : ℕ) → word ≢ codes "word" → word ≢ codes "seed" → word ≢ codes "processes" → word ≢ codes "events"
    → word ≢ codes "turns" → word ≢ codes "loss" → (d : Directive) → field_of word ∷ number n ∷ [] ≢ form d
no_short_line word n w seed processes events turns loss (Word k) e = w (is_word word _ (first_is e))
no_short_line word n w seed processes events turns loss (Seed k) e = seed (is_word word _ (first_is e))
no_short_line word n w seed processes events turns loss (Processes k) e = processes (is_word word _ (first_is e))
no_short_line word n w seed processes events turns loss (Events k) e = events (is_word word _ (first_is e))
no_short_line word n w seed processes events turns loss (Turns k) e = turns (is_word word _ (first_is e))
no_short_line word n w seed processes events turns loss (Loss k) e = loss (is_word word _ (first_is e))
no_short_line word n w seed processes events turns loss (At t order) e = not_empty order (cc)
no_short_line word n w seed processes events turns loss _ e = absurd (cc)

pub no_long_line : (word : List ℕ) (m n : ℕ) → word ≢ codes "latency" → word ≢ codes "diskdelay" → (d : Directive) → field_of word ∷ number m ∷ number n ∷ [] ≢ form d
no_long_line word m n latency disk (Latency lo hi) e = latency (is_word word _ (first_is e))
no_long_line word m n latency disk (DiskDelay lo hi) e = disk (is_word word _ (first_is e))
no_long_line word m n latency disk (At t order) e = not_number n [] order (cc)
no_long_line word m n latency disk _ e = absurd (cc)

pub no_line_empty : (line : List ℕ) → pieces line ≡ [] → (d : Directive) → fields line ≢ form d
no_line_empty line none (Seed n) e = absurd (cc)
no_line_empty line none _ e = absurd (cc)

-- a line that begins with `at` doesn't begin with another word
begins_with_at : (line more : List ℕ) → pieces line ≡ codes "at" ∷ pieces more → (word : List ℕ) (behind : List Field)
    → bytes_eq (codes "at") word ≡ false → fields line ≢ text word ∷ behind
begins_with_at line more parts word behind differ e = clash (codes "at") word differ refl (first_is (sym (ap (map field_of) parts) ∙ e))

-- behind `at` only a number and an order have a form
pub no_at_line : (line more : List ℕ) → pieces line ≡ codes "at" ∷ pieces more
    → ((t : ℕ) (order : Order) → fields more ≢ number t ∷ order_form order) → (d : Directive) → fields line ≢ form d
no_at_line line more parts none (At t order) e = none t order (cc)
no_at_line line more parts none (Seed n) e = begins_with_at line more parts _ _ refl e
no_at_line line more parts none (Processes n) e = begins_with_at line more parts _ _ refl e
no_at_line line more parts none (Events n) e = begins_with_at line more parts _ _ refl e
no_at_line line more parts none (Turns n) e = begins_with_at line more parts _ _ refl e
no_at_line line more parts none (Latency lo hi) e = begins_with_at line more parts _ _ refl e
no_at_line line more parts none (DiskDelay lo hi) e = begins_with_at line more parts _ _ refl e
no_at_line line more parts none (Loss n) e = begins_with_at line more parts _ _ refl e
no_at_line line more parts none (Word n) e = begins_with_at line more parts _ _ refl e

-- no other line has other fields behind its word than one number or two
pub no_line : (line piece more : List ℕ) → pieces line ≡ piece ∷ pieces more → piece ≢ codes "at"
    → ((n : ℕ) → fields more ≢ number n ∷ []) → ((m n : ℕ) → fields more ≢ number m ∷ number n ∷ [])
    → (d : Directive) → fields line ≢ form d
no_line line piece more parts at one two (At t order) e =
    let same : field_of piece ≡ text (codes "at") = cc in
    at (is_word piece _ same)
no_line line piece more parts at one two (Latency lo hi) e = two lo hi (cc)
no_line line piece more parts at one two (DiskDelay lo hi) e = two lo hi (cc)
no_line line piece more parts at one two (Seed n) e = one n (cc)
no_line line piece more parts at one two (Processes n) e = one n (cc)
no_line line piece more parts at one two (Events n) e = one n (cc)
no_line line piece more parts at one two (Turns n) e = one n (cc)
no_line line piece more parts at one two (Loss n) e = one n (cc)
no_line line piece more parts at one two (Word n) e = one n (cc)
