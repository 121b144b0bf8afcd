-- The words that are scanned of a line in words are those of its fields.
use Rattle.std.proofs.Common.{◌≡◌, ℕ, ◌+◌, ◌%◌, ◌^◌, ◌<◌, ℤ, List, [], ◌∷◌, ◌++◌, true, map, ap, ◌∙◌, refl, arith, decimal}
use Rattle.std.specs.declared.option.Option.{Option}
use Rattle.std.specs.declared.option.Option.TheVariants.{None, Some}
use lib.Dec.{leb}
use lib.Signed.{mag}
use Rattle.std.specs.List.{list_all, AllByRecursion}
use Rattle.std.proofs.lemmas.Bool.{and_from, agree_below_at}
use Rattle.std.proofs.lemmas.Fmt.{decimal_by_steps}
use Rattle.std.proofs.lemmas.List.Folds.{list_all-append}
use Rattle.flow_base.specs.Names.{IsName}
use Rattle.flow_base.specs.declared.place.Place.{Place}
use Rattle.flow_trace.specs.Quote.{IsText}
use Rattle.flow_trace.specs.Bytes.{Field, word, name, number, integer, text, spelled, joined, IsField}
use Rattle.flow_trace.specs.Scan.{words_in}
use Rattle.flow_trace.proofs.Scanning.{word_of, is_plain, is_plain_field, printed_words}
use Rattle.flow_explain.specs.Phrases.{marked, spot, event, inner}
use Rattle.flow_explain.specs.Laws.{IsKnown}

-- fields in their ranges, whose fixed words have plain bytes
pub record Clean (fs : List Field) : Type 0 where
  pub range : AllByRecursion IsField fs
  pub plain : list_all is_plain_field fs ≡ true

pub done : Clean []
done = record { range = tt; plain = refl }

more : (f : Field) (fs : List Field) → IsField f → is_plain_field f ≡ true → Clean fs → Clean (f ∷ fs)
more f fs range plain rest = record {
  range = (range, rest.range);
  plain = and_from (is_plain_field f) (list_all is_plain_field fs) plain rest.plain;
}

pub fixed : {bytes : List ℕ} {fs : List Field} → list_all is_plain bytes ≡ true → Clean fs → Clean (word bytes ∷ fs)
fixed {bytes} {fs} plain rest = more (word bytes) fs tt plain rest

pub named : {bytes : List ℕ} {fs : List Field} → IsName bytes → Clean fs → Clean (name bytes ∷ fs)
named {bytes} {fs} range rest = more (name bytes) fs range refl rest

pub counted : {bits n : ℕ} {fs : List Field} → n < 2 ^ bits → leb bits 64 ≡ true → Clean fs → Clean (number bits n ∷ fs)
counted {bits} {n} {fs} range plain rest = more (number bits n) fs range plain rest

pub signed : {z : ℤ} {fs : List Field} → mag z < 2 ^ 63 → Clean fs → Clean (integer z ∷ fs)
signed {z} {fs} range rest = more (integer z) fs range refl rest

pub quoted : {bytes : List ℕ} {fs : List Field} → IsText bytes → Clean fs → Clean (text bytes ∷ fs)
quoted {bytes} {fs} range rest = more (text bytes) fs range refl rest

-- digits are plain
digit_plain : (d : ℕ) → d < 10 → is_plain (48 + d) ≡ true
digit_plain d small = agree_below_at (λ k. is_plain (48 + k)) (λ _. true) 10 d refl small

pub plain_decimal : (n : ℕ) → n < 2 ^ 64 → list_all is_plain (decimal n) ≡ true
plain_decimal =
    decimal_by_steps (λ _ ds. list_all is_plain ds ≡ true)
    (λ n small. and_from (is_plain (48 + n)) true (digit_plain n small) refl)
    (λ n ds large before. list_all-append is_plain ds ((48 + n % 10) ∷ [])
    ∙ and_from (list_all is_plain ds) (list_all is_plain ((48 + n % 10) ∷ [])) before
    (and_from (is_plain (48 + n % 10)) true (digit_plain (n % 10) (omega arith)) refl))

plain_marked : (n : ℕ) (sign : List ℕ) → n < 2 ^ 64 → list_all is_plain sign ≡ true → list_all is_plain (decimal n ++ sign) ≡ true
plain_marked n sign small plain =
    list_all-append is_plain (decimal n) sign ∙ and_from (list_all is_plain (decimal n)) (list_all is_plain sign) (plain_decimal n small) plain

pub signing : (n : ℕ) (sign : List ℕ) {fs : List Field} → n < 2 ^ 64 → list_all is_plain sign ≡ true → Clean fs → Clean (marked n sign ∷ fs)
signing n sign {fs} small plain rest = fixed (plain_marked n sign small plain) rest

-- a place in a text
plain_spot : (o : Option Place) → IsKnown o → list_all is_plain (spot o) ≡ true
plain_spot None (at, is, _) = cc
plain_spot (Some at) (p, is, range) =
    let same : at ≡ p = cc in
    let line : at.line < 2 ^ 64 = omega (arith, range.line, ap (λ q. q.line) same) in
    let column : at.column < 2 ^ 64 = omega (arith, range.column, ap (λ q. q.column) same) in
    list_all-append is_plain (decimal at.line ++ 58 ∷ []) (decimal at.column)
    ∙ and_from (list_all is_plain (decimal at.line ++ 58 ∷ [])) (list_all is_plain (decimal at.column))
    (plain_marked at.line (58 ∷ []) line refl) (plain_decimal at.column column)

pub spotted : {o : Option Place} {fs : List Field} → IsKnown o → Clean fs → Clean (word (spot o) ∷ fs)
spotted {o} known rest = fixed (plain_spot o known) rest

-- fields of a line: there is one at least
abbrev Filled : List Field → Type 0
Filled [] = ⊥
Filled (f ∷ fs) = Unit {0}

pub record IsTold (fs : List Field) : Type 0 where
  pub clean : Clean fs
  pub filled : Filled fs

pub told : {f : Field} {fs : List Field} → Clean (f ∷ fs) → IsTold (f ∷ fs)
told clean = record { clean = clean; filled = tt }

pub event_told : {n t : ℕ} {what : List Field} → n < 2 ^ 64 → t < 2 ^ 64 → Clean what → IsTold (event n t what)
event_told {n} {t} {what} small time clean = told (fixed refl (counted small refl (fixed refl (signing t (58 ∷ []) time refl clean))))

pub inner_told : {what : List Field} → Clean what → IsTold (inner what)
inner_told clean = told (fixed refl (fixed refl (fixed refl (fixed refl clean))))

pub words_told : (fs : List Field) → IsTold fs → words_in (joined (map spelled fs) ++ 10 ∷ []) ≡ map word_of fs
words_told [] t = absurd t.filled
words_told (f ∷ fs) t = printed_words f fs t.clean.range t.clean.plain (10 ∷ []) (λ ws w. refl)
