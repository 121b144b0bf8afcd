-- Tokens that can be spelled.
use Rattle.std.proofs.Common.{◌≡◌, ◌⊎◌, inl, inr, eqb, nat_le, ◌<◌, ◌≤◌, ◌^◌, ℕ, zero, suc, nat_eq, pos, Bool, true, false, ◌&&◌, ◌||◌, List, [], ◌∷◌, ◌++◌, length, get_or, decimal, refl, sym, ap, subst, arith, rules, if◌then◌else◌}
use Rattle.std.specs.Prelude.{codes, IsTrue}
use Rattle.std.specs.List.{list_all, AllByRecursion}
use Rattle.std.specs.Str.Parse.{digits_value}
use Rattle.std.proofs.lemmas.Bool.Decides.{nat_tests}
use Rattle.std.proofs.lemmas.Fmt.{decimal_digit, decimal_nonempty, first_decimal, digits_decimal, digits_value-decimal, length-decimal-le}
use Rattle.std.proofs.lemmas.Str.Parse.{IsNumeralModel, numerals_by_value}
use Rattle.flow_base.specs.Names.{digit, letter, name_byte, is_name_text}
use Rattle.flow_tree.specs.declared.token.Token.TheVariants as token
use Rattle.flow_tree.specs.declared.token.Word as words
use Rattle.flow_tree.specs.declared.token.Word.TheVariants.{Actor, Struct, State, Wait, WaitNext, Choose, When, Loop, While, For, If, Else, Break, Continue, Return, Throw, Try, Catch, Yes, No, Int, Bool as Bool', Str, Void, Error, Future, FutureStream, Promise, PromiseStream, Vector, NoResult}
use Rattle.flow_tree.specs.declared.token.Sign as signs
use Rattle.flow_tree.specs.Spelling.{word_bytes, sign_bytes, is_number_text}
use Rattle.flow_class.specs.declared.class.Slotted.{Slotted}
use Rattle.flow_class.specs.declared.class.Slotted.TheVariants.{Slot, Local}
use Rattle.flow_class.specs.Places.{place_name}
use Rattle.flow_tree.specs.declared.limits.TheConstants.{OF_CLASS_TEXT}
use Rattle.flow_tree.specs.GrammarToken.{Marked, AllInLimitsOf, KeepsOf}
use Rattle.flow_classprint.specs.ClassGrammar.{IsNumber, IsPlace, IsSpelled, AreSpelled}

-- tokens that can be spelled, whose parts keep the limits of class text
abbrev pub AreTokens : List Marked → Type 0
AreTokens [] = Unit {0}
AreTokens (x ∷ xs) = (IsSpelled x.spot.token × AllInLimitsOf OF_CLASS_TEXT 7 x.parts) × AreTokens xs

pub are_spelled : (xs : List Marked) → AreTokens xs → AreSpelled xs
are_spelled [] h = tt
are_spelled (x ∷ xs) h = (h.0.0, are_spelled xs h.1)

pub are_kept : (xs : List Marked) → AreTokens xs → KeepsOf OF_CLASS_TEXT 7 xs
are_kept [] h = tt
are_kept (x ∷ xs) h = (h.0.1, are_kept xs h.1)

-- signs and reserved words
pub sign_spelled : (s : signs.Sign) → IsSpelled (token.Sign s)
sign_spelled s = record { bytes = sign_bytes s; spells = refl; bounded = tt }

pub word_spelled : (w : words.Word) → IsSpelled (token.Word w)
word_spelled w = record { bytes = word_bytes w; spells = refl; bounded = tt }

-- names that are no reserved words
same : List ℕ → List ℕ → Bool
same [] [] = true
same [] (y ∷ ys) = false
same (x ∷ xs) [] = false
same (x ∷ xs) (y ∷ ys) = nat_eq x y && same xs ys

same_self : (xs : List ℕ) → same xs xs ≡ true
unfolding same
same_self [] = refl
same_self (x ∷ xs) = let here : nat_eq x x ≡ true = grind (arith, nat_tests) in rw (here, same_self xs) refl

abbrev all_words : List (List ℕ)
all_words =
    word_bytes Actor ∷
    word_bytes Struct ∷
    word_bytes State ∷
    word_bytes Wait ∷
    word_bytes WaitNext ∷
    word_bytes Choose ∷
    word_bytes When ∷
    word_bytes Loop ∷
    word_bytes While ∷
    word_bytes For ∷
    word_bytes If ∷
    word_bytes Else ∷
    word_bytes Break ∷
    word_bytes Continue ∷
    word_bytes Return ∷
    word_bytes Throw ∷
    word_bytes Try ∷
    word_bytes Catch ∷
    word_bytes Yes ∷
    word_bytes No ∷
    word_bytes Int ∷
    word_bytes Bool' ∷
    word_bytes Str ∷
    word_bytes Void ∷
    word_bytes Error ∷
    word_bytes Future ∷
    word_bytes FutureStream ∷
    word_bytes Promise ∷
    word_bytes PromiseStream ∷
    word_bytes Vector ∷
    word_bytes NoResult ∷ []

any : (List ℕ → Bool) → List (List ℕ) → Bool
any is [] = false
any is (w ∷ ws) = is w || any is ws

any_none : (is : List ℕ → Bool) (ws : List (List ℕ)) → any is ws ≡ false → AllByRecursion (λ w. is w ≡ false) ws
unfolding any
any_none is [] e = tt
any_none is (w ∷ ws) e = by_test (is w) refl e (λ f. any_none is ws f)
  where
    by_test : (t : Bool) → is w ≡ t → (t || any is ws) ≡ false → (any is ws ≡ false → AllByRecursion (λ v. is v ≡ false) ws) → (is w ≡ false) × AllByRecursion (λ v. is v ≡ false) ws
    by_test true g f rest = absurd (cc)
    by_test false g f rest = (g, rest f)

none : (is : List ℕ → Bool) → any is all_words ≡ false → (k : words.Word) → is (word_bytes k) ≡ false
none is e Actor = (any_none is all_words e).0
none is e Struct = (any_none is all_words e).1.0
none is e State = (any_none is all_words e).1.1.0
none is e Wait = (any_none is all_words e).1.1.1.0
none is e WaitNext = (any_none is all_words e).1.1.1.1.0
none is e Choose = (any_none is all_words e).1.1.1.1.1.0
none is e When = (any_none is all_words e).1.1.1.1.1.1.0
none is e Loop = (any_none is all_words e).1.1.1.1.1.1.1.0
none is e While = (any_none is all_words e).1.1.1.1.1.1.1.1.0
none is e For = (any_none is all_words e).1.1.1.1.1.1.1.1.1.0
none is e If = (any_none is all_words e).1.1.1.1.1.1.1.1.1.1.0
none is e Else = (any_none is all_words e).1.1.1.1.1.1.1.1.1.1.1.0
none is e Break = (any_none is all_words e).1.1.1.1.1.1.1.1.1.1.1.1.0
none is e Continue = (any_none is all_words e).1.1.1.1.1.1.1.1.1.1.1.1.1.0
none is e Return = (any_none is all_words e).1.1.1.1.1.1.1.1.1.1.1.1.1.1.0
none is e Throw = (any_none is all_words e).1.1.1.1.1.1.1.1.1.1.1.1.1.1.1.0
none is e Try = (any_none is all_words e).1.1.1.1.1.1.1.1.1.1.1.1.1.1.1.1.0
none is e Catch = (any_none is all_words e).1.1.1.1.1.1.1.1.1.1.1.1.1.1.1.1.1.0
none is e Yes = (any_none is all_words e).1.1.1.1.1.1.1.1.1.1.1.1.1.1.1.1.1.1.0
none is e No = (any_none is all_words e).1.1.1.1.1.1.1.1.1.1.1.1.1.1.1.1.1.1.1.0
none is e Int = (any_none is all_words e).1.1.1.1.1.1.1.1.1.1.1.1.1.1.1.1.1.1.1.1.0
none is e Bool' = (any_none is all_words e).1.1.1.1.1.1.1.1.1.1.1.1.1.1.1.1.1.1.1.1.1.0
none is e Str = (any_none is all_words e).1.1.1.1.1.1.1.1.1.1.1.1.1.1.1.1.1.1.1.1.1.1.0
none is e Void = (any_none is all_words e).1.1.1.1.1.1.1.1.1.1.1.1.1.1.1.1.1.1.1.1.1.1.1.0
none is e Error = (any_none is all_words e).1.1.1.1.1.1.1.1.1.1.1.1.1.1.1.1.1.1.1.1.1.1.1.1.0
none is e Future = (any_none is all_words e).1.1.1.1.1.1.1.1.1.1.1.1.1.1.1.1.1.1.1.1.1.1.1.1.1.0
none is e FutureStream = (any_none is all_words e).1.1.1.1.1.1.1.1.1.1.1.1.1.1.1.1.1.1.1.1.1.1.1.1.1.1.0
none is e Promise = (any_none is all_words e).1.1.1.1.1.1.1.1.1.1.1.1.1.1.1.1.1.1.1.1.1.1.1.1.1.1.1.0
none is e PromiseStream = (any_none is all_words e).1.1.1.1.1.1.1.1.1.1.1.1.1.1.1.1.1.1.1.1.1.1.1.1.1.1.1.1.0
none is e Vector = (any_none is all_words e).1.1.1.1.1.1.1.1.1.1.1.1.1.1.1.1.1.1.1.1.1.1.1.1.1.1.1.1.1.0
none is e NoResult = (any_none is all_words e).1.1.1.1.1.1.1.1.1.1.1.1.1.1.1.1.1.1.1.1.1.1.1.1.1.1.1.1.1.1.0

name_spelled : (w : List ℕ) → IsTrue (is_name_text w) → length w ≤ 255 → any (λ v. same v w) all_words ≡ false → IsSpelled (token.Name w)
name_spelled w text short free = record { bytes = w; spells = (text, λ k e. reserved k e, refl); bounded = short }
  where
    reserved : (k : words.Word) → word_bytes k ≡ w → ⊥
    reserved k e = let is = none (λ v. same v w) free k in let self = same_self w in let bad : same w w ≡ false = subst (λ v. same v w ≡ false) e is in absurd (cc (bad, self))

-- the words of class text that are names
pub data Said : List ℕ → Type 0 where
  said_set : Said (codes "set")
  said_do : Said (codes "do")
  said_new : Said (codes "new")
  said_act : Said (codes "act")
  said_drop : Said (codes "drop")
  said_goto : Said (codes "goto")
  said_pass : Said (codes "pass")
  said_test : Said (codes "test")
  said_params : Said (codes "params")
  said_classes : Said (codes "classes")
  said_class : Said (codes "class")
  said_returns : Said (codes "returns")
  said_slot : Said (codes "slot")
  said_local : Said (codes "local")
  said_block : Said (codes "block")
  said_group : Said (codes "group")
  said_callback : Said (codes "callback")
  said_into : Said (codes "into")
  said_error : Said (codes "error")

pub said_spelled : (w : List ℕ) → Said w → IsSpelled (token.Name w)
unfolding same any
said_spelled w said_set = name_spelled (codes "set") refl (omega arith) refl
said_spelled w said_do = name_spelled (codes "do") refl (omega arith) refl
said_spelled w said_new = name_spelled (codes "new") refl (omega arith) refl
said_spelled w said_act = name_spelled (codes "act") refl (omega arith) refl
said_spelled w said_drop = name_spelled (codes "drop") refl (omega arith) refl
said_spelled w said_goto = name_spelled (codes "goto") refl (omega arith) refl
said_spelled w said_pass = name_spelled (codes "pass") refl (omega arith) refl
said_spelled w said_test = name_spelled (codes "test") refl (omega arith) refl
said_spelled w said_params = name_spelled (codes "params") refl (omega arith) refl
said_spelled w said_classes = name_spelled (codes "classes") refl (omega arith) refl
said_spelled w said_class = name_spelled (codes "class") refl (omega arith) refl
said_spelled w said_returns = name_spelled (codes "returns") refl (omega arith) refl
said_spelled w said_slot = name_spelled (codes "slot") refl (omega arith) refl
said_spelled w said_local = name_spelled (codes "local") refl (omega arith) refl
said_spelled w said_block = name_spelled (codes "block") refl (omega arith) refl
said_spelled w said_group = name_spelled (codes "group") refl (omega arith) refl
said_spelled w said_callback = name_spelled (codes "callback") refl (omega arith) refl
said_spelled w said_into = name_spelled (codes "into") refl (omega arith) refl
said_spelled w said_error = name_spelled (codes "error") refl (omega arith) refl

pub both_are : (xs ys : List Marked) → AreTokens xs → AreTokens ys → AreTokens (xs ++ ys)
both_are [] ys h g = g
both_are (x ∷ xs) ys h g = (h.0, both_are xs ys h.1 g)

-- the name that names nothing
pub nothing_spelled : IsSpelled (token.Name (codes "_"))
unfolding same any
nothing_spelled = name_spelled (codes "_") refl (omega arith) refl

-- the error of an actor that ends without a result
pub cancelled_spelled : IsSpelled (token.Name (codes "operation_cancelled"))
unfolding same any
cancelled_spelled = name_spelled (codes "operation_cancelled") refl (omega arith) refl

-- numbers
own : IsNumeralModel (λ ds. list_all digit ds ≡ true) (digits_value 10)
own = numerals_by_value _ (search rules)

number_text : (ds : List ℕ) → list_all digit ds ≡ true → 0 < length ds → (length ds ≡ 1) ⊎ (48 < get_or ds 0 0) → is_number_text ds ≡ true
number_text [] all lt h = absurd (omega arith)
number_text (d ∷ []) all lt h = by_test (eqb d 48)
  where
    by_test : (t : Bool) → (if t then true else digit d && list_all digit []) ≡ true
    by_test true = refl
    by_test false = all
number_text (d ∷ e ∷ ds) all lt (inl h) = absurd (omega (arith, h))
number_text (d ∷ e ∷ ds) all lt (inr h) = let other : eqb d 48 ≡ false = grind (arith, nat_tests, h) in rw other all

decimal_text : (n : ℕ) → n < 2 ^ 64 → is_number_text (decimal n) ≡ true
decimal_text zero lt = number_text (decimal 0) (digits_decimal own 0 lt) (decimal_nonempty 0 lt) (inl (ap length (decimal_digit 0 (omega arith))))
decimal_text (suc n) lt = number_text (decimal (suc n)) (digits_decimal own (suc n) lt) (decimal_nonempty (suc n) lt) (inr (first_decimal (suc n) (omega arith) lt))

pub number_spelled : (n : ℕ) → IsNumber n → IsSpelled (token.Number (pos n))
number_spelled n h = record {
  bytes = decimal n;
  spells = (decimal_text n (omega (arith, h)), ap pos (sym (digits_value-decimal own n (omega (arith, h)))));
  bounded = omega (arith, h);
}

-- places
digits_named : (ds : List ℕ) → list_all digit ds ≡ true → list_all name_byte ds ≡ true
digits_named [] e = refl
digits_named (d ∷ ds) e = by_test (digit d) (letter d) e (λ f. digits_named ds f)
  where
    by_test : (t u : Bool) → (t && list_all digit ds) ≡ true → (list_all digit ds ≡ true → list_all name_byte ds ≡ true) → ((u || t) && list_all name_byte ds) ≡ true
    by_test true true e rest = rest e
    by_test true false e rest = rest e
    by_test false u e rest = absurd (cc)

first_small : (d : ℕ) (ds : List ℕ) → list_all digit (d ∷ ds) ≡ true → d ≤ 57
first_small d ds e = by_test (nat_le 48 d) (nat_le d 57) refl e
  where
    by_test : (t u : Bool) → nat_le d 57 ≡ u → ((t && u) && list_all digit ds) ≡ true → d ≤ 57
    by_test true true g f = grind (arith, nat_tests)
    by_test true false g f = absurd (cc)
    by_test false u g f = absurd (cc)

slot_free : (ds : List ℕ) → list_all digit ds ≡ true → 0 < length ds → any (λ v. same v (115 ∷ ds)) all_words ≡ false
unfolding same any
slot_free [] e l = absurd (omega arith)
slot_free (d ∷ ds) e l = let small = first_small d ds e in let other : nat_eq 116 d ≡ false = grind (arith, nat_tests, small) in rw other refl

local_free : (ds : List ℕ) → list_all digit ds ≡ true → 0 < length ds → any (λ v. same v (108 ∷ ds)) all_words ≡ false
unfolding same any
local_free [] e l = absurd (omega arith)
local_free (d ∷ ds) e l = let small = first_small d ds e in let other : nat_eq 111 d ≡ false = grind (arith, nat_tests, small) in rw other refl

short : (n : ℕ) → IsNumber n → length (decimal n) ≤ 10
short n h = length-decimal-le 10 n (omega arith) (omega (arith, h)) (omega (arith, h))

pub place_spelled : (p : Slotted) → IsPlace p → IsSpelled (token.Name (place_name p))
place_spelled (Slot n) h =
    let lt : n < 2 ^ 64 = omega (arith, h) in
    let all = digits_decimal own n lt in
    name_spelled (115 ∷ decimal n) (digits_named (decimal n) all) (omega (arith, short n h)) (slot_free (decimal n) all (decimal_nonempty n lt))
place_spelled (Local n) h =
    let lt : n < 2 ^ 64 = omega (arith, h) in
    let all = digits_decimal own n lt in
    name_spelled (108 ∷ decimal n) (digits_named (decimal n) all) (omega (arith, short n h)) (local_free (decimal n) all (decimal_nonempty n lt))
