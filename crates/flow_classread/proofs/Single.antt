-- Parts of one token.
use Rattle.std.proofs.Common.{◌≡◌, ℕ, ◌+◌, List, [], ◌∷◌, refl, sym, ap, ◌∙◌, arith}
use Rattle.std.specs.Prelude.{pos}
use Rattle.std.specs.Option.{option_map}
use Rattle.std.specs.declared.option.Option.{Option}
use Rattle.std.specs.declared.option.Option.TheVariants.{None, Some}
use Rattle.flow_base.specs.declared.place.Place.{Place}
use Rattle.flow_tree.specs.declared.limits.TheConstants.{OF_CLASS_TEXT}
use Rattle.flow_tree.specs.declared.fault.Rule.TheVariants as rule
use Rattle.flow_tree.specs.declared.fault.SourceFault.TheVariants.{Refused}
use Rattle.flow_tree.specs.declared.token.Token.{Token}
use Rattle.flow_tree.specs.declared.token.Token.TheVariants as token
use Rattle.flow_tree.specs.declared.token.Tokens.{Tokens}
use Rattle.flow_tree.specs.GrammarToken.{Marked, opens}
use Rattle.flow_tree.specs.GrammarAnswer.{place_at}
use Rattle.flow_exprs.proofs.Goes.{nowhere}
use Rattle.flow_parse.specs.Reading.{token_at, Any, Reads}
use Rattle.flow_parse.specs.Failing.{Fails}
use Rattle.flow_parse.proofs.Failing.{Inhabited}
use Rattle.flow_parse.proofs.Begins.{looks_is}
use Rattle.flow_parse.proofs.Leaves.{tok_reads, become, none_fails}
use Rattle.flow_class.specs.declared.class.Slotted.{Slotted}
use Rattle.flow_class.specs.declared.class.Slotted.TheVariants.{Slot, Local}
use Rattle.flow_class.specs.Places.{place_name, place_named}
use Rattle.flow_class.proofs.Numbers.{place_back}
use Rattle.flow_classprint.specs.ClassGrammar.{IsNumber, IsPlace}
use Rattle.flow_classread.specs.Parts.{NumberPart, SlottedPart, LocalPart}
use Rattle.flow_classread.specs.Tokens.{number_in, place_in, local_in, local_number}
use Rattle.flow_classread.proofs.Places.{small_back, number_is, place_is}

-- one token that means this
abbrev pub One : {A : Type 0} → (A → Token) → (A → Type 0) → List Marked → A → Type 0
One tok Fit w a = (p : Place) × Fit a × (w ≡ opens [] (tok a) p ∷ [])

some_same : (x y : Token) → Some x ≡ Some y → x ≡ y
some_same x y e = cc

module _ {A : Type 0} (tok : A → Token) (Fit : A → Type 0) (one : (a b : A) → Fit a → Fit b → tok a ≡ tok b → a ≡ b) (t : Tokens) (at : ℕ) where
  pub one_reads : (a : A) → Fit a → token_at t.spots.items at ≡ Some (tok a) → Reads OF_CLASS_TEXT (One tok Fit) Any t.spots.items at a (at + 1)
  one_reads a h e = become OF_CLASS_TEXT t.spots.items e (record {
    back = λ w z b r f l.
        let s : tok b ≡ tok a = some_same (tok b) (tok a) (sym (looks_is (Some (tok a)) (opens [] (tok b) r.0) [] z r.2 l)) in
        record { tree = r.0; rule = r.2 ∙ ap (λ k. opens [] k r.0 ∷ []) s; is = one b a r.1 h s; follows = tt };
    forth = λ w p r. (p, h, r);
  }) (tok_reads OF_CLASS_TEXT t at (tok a) e)

  pub one_fails : (a : A) → Fit a → ((b : A) → Fit b → token_at t.spots.items at ≡ Some (tok b) → ⊥) → Fails OF_CLASS_TEXT (One tok Fit) Any t at (Refused (rule.S 5) (place_at t at))
  one_fails a h f = none_fails OF_CLASS_TEXT (One tok Fit) Any t at (record { marked = opens [] (tok a) nowhere ∷ []; tree = a; rule = (nowhere, h, refl) })
      (λ w z b r g l. f b r.1 (looks_is (token_at t.spots.items at) (opens [] (tok b) r.0) [] z r.2 l))

pub some_number : Inhabited NumberPart
some_number = record { marked = opens [] (token.Number (pos 0)) nowhere ∷ []; tree = 0; rule = (nowhere, omega arith, refl) }

pub some_slotted : Inhabited SlottedPart
some_slotted = record { marked = opens [] (token.Name (place_name (Slot 0))) nowhere ∷ []; tree = Slot 0; rule = (nowhere, omega arith, refl) }

pub some_local : Inhabited LocalPart
some_local = record { marked = opens [] (token.Name (place_name (Local 0))) nowhere ∷ []; tree = 0; rule = (nowhere, omega arith, refl) }

abbrev number_token : ℕ → Token
number_token n = token.Number (pos n)

abbrev place_token : Slotted → Token
place_token p = token.Name (place_name p)

abbrev local_token : ℕ → Token
local_token n = token.Name (place_name (Local n))

one_number : (a b : ℕ) → IsNumber a → IsNumber b → number_token a ≡ number_token b → a ≡ b
one_number a b h k e = cc

names_back : (p : Slotted) → IsPlace p → place_named (place_name p) ≡ Some p
names_back (Slot n) h = place_back (Slot n) (omega (arith, h))
names_back (Local n) h = place_back (Local n) (omega (arith, h))

one_place : (a b : Slotted) → IsPlace a → IsPlace b → place_token a ≡ place_token b → a ≡ b
one_place a b h k e =
    let f : place_name a ≡ place_name b = cc in
    let g : Some a ≡ Some b = sym (names_back a h) ∙ ap place_named f ∙ names_back b k in
    cc

one_local : (a b : ℕ) → IsNumber a → IsNumber b → local_token a ≡ local_token b → a ≡ b
one_local a b h k e = let f : Local a ≡ Local b = one_place (Local a) (Local b) h k e in cc

-- what a name of a place, and a number, shows
pub shows_number : (n : ℕ) → IsNumber n → number_in (Some (number_token n)) ≡ Some n
shows_number n h = small_back n h

pub shows_place : (p : Slotted) → IsPlace p → place_in (Some (place_token p)) ≡ Some p
shows_place (Slot n) h = rw (names_back (Slot n) h) (ap (λ o. option_map Slot o) (small_back n h))
shows_place (Local n) h = rw (names_back (Local n) h) (ap (λ o. option_map Local o) (small_back n h))

module _ (t : Tokens) (at : ℕ) where
  pub number_reads : (n : ℕ) → number_in (token_at t.spots.items at) ≡ Some n → Reads OF_CLASS_TEXT NumberPart Any t.spots.items at n (at + 1)
  number_reads n e = let r = number_is (token_at t.spots.items at) n e in one_reads number_token IsNumber one_number t at n r.0 r.1

  pub number_fails : number_in (token_at t.spots.items at) ≡ None → Fails OF_CLASS_TEXT NumberPart Any t at (Refused (rule.S 5) (place_at t at))
  number_fails e = one_fails number_token IsNumber one_number t at 0 (omega arith) (λ b h f. let g : None ≡ Some b = sym e ∙ ap number_in f ∙ shows_number b h in cc)

  pub place_reads : (p : Slotted) → place_in (token_at t.spots.items at) ≡ Some p → Reads OF_CLASS_TEXT SlottedPart Any t.spots.items at p (at + 1)
  place_reads p e = let r = place_is (token_at t.spots.items at) p e in one_reads place_token IsPlace one_place t at p r.0 r.1

  pub place_fails : place_in (token_at t.spots.items at) ≡ None → Fails OF_CLASS_TEXT SlottedPart Any t at (Refused (rule.S 5) (place_at t at))
  place_fails e = one_fails place_token IsPlace one_place t at (Slot 0) (omega arith) (λ b h f. let g : None ≡ Some b = sym e ∙ ap place_in f ∙ shows_place b h in cc)

  local_at : (o : Option Slotted) (n : ℕ) → local_number o ≡ Some n → o ≡ Some (Local n)
  local_at (Some (Local m)) n e = let f : m ≡ n = cc in ap (λ k. Some (Local k)) f
  local_at (Some (Slot m)) n e = absurd (cc)
  local_at None n e = absurd (cc)

  pub local_reads : (n : ℕ) → local_in (token_at t.spots.items at) ≡ Some n → Reads OF_CLASS_TEXT LocalPart Any t.spots.items at n (at + 1)
  local_reads n e = let r = place_is (token_at t.spots.items at) (Local n) (local_at (place_in (token_at t.spots.items at)) n e) in one_reads local_token IsNumber one_local t at n r.0 r.1

  pub local_fails : local_in (token_at t.spots.items at) ≡ None → Fails OF_CLASS_TEXT LocalPart Any t at (Refused (rule.S 5) (place_at t at))
  local_fails e = one_fails local_token IsNumber one_local t at 0 (omega arith)
      (λ b h g. let k : None ≡ Some b = sym e ∙ ap local_in g ∙ ap local_number (shows_place (Local b) h) in cc)
