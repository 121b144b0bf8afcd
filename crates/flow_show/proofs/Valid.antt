-- Tokens that some text has: valid names, numbers in range, short texts.
use Rattle.std.proofs.Common.{◌≡◌, ℕ, ℤ, pos, ◌^◌, ◌≤◌, ◌<◌, List, [], ◌∷◌, ◌++◌, length, take, sym, ap, ◌∙◌, subst, arith, true}
use Rattle.flow_tree.specs.declared.token.Spot.{Spot}
use Rattle.flow_tree.specs.declared.token.Token.{Token}
use Rattle.flow_tree.specs.declared.token.Token.TheVariants as token
use Rattle.flow_tree.specs.declared.token.Token.TheVariants.{Name, Number, Text}
use Rattle.std.specs.Str.Parse.{digits_value}
use Rattle.flow_base.specs.Names.{is_name_text}
use Rattle.flow_tree.specs.Spelling.{Spells, IsBounded}
use Rattle.flow_tree.specs.Lexing.{ReadsTokens, here, gap, token as and_token}
use Rattle.flow_tree.specs.GrammarToken.{Part, Marked, begin, spots_of}
use Rattle.flow_show.proofs.TokenPieces.{IsNameToken}
use Rattle.flow_show.proofs.ValuePieces.{Bytes, inside_bytes}

-- a number from 0 to the greatest
pub record IsNumberToken (z : ℤ) : Type 0 where
  pub value : ℕ
  pub is : z ≡ pos value
  pub small : value < 2 ^ 63

pub record IsTextToken (t : List ℕ) : Type 0 where
  pub bytes : Bytes t
  pub short : length t ≤ 65535

abbrev pub Valid : Token → Type 0
Valid (Name n) = IsNameToken n
Valid (Number z) = IsNumberToken z
Valid (Text t) = IsTextToken t
Valid (token.Word k) = Unit {0}
Valid (token.Sign g) = Unit {0}

pub valid_token : (t : Token) (w : List ℕ) → Spells t w → IsBounded t → Valid t
valid_token (Name n) w s b = record { form = subst (λ x. is_name_text x ≡ true) (sym s.2) s.0; free = λ k e. s.1 k (e ∙ s.2); short = b }
valid_token (Number z) w s b = record { value = digits_value 10 w; is = s.1; small = omega (arith, subst IsBounded (ap Number s.1) b) }
valid_token (Text t) w s b = record { bytes = inside_bytes s.2; short = b }
valid_token (token.Word k) w s b = tt
valid_token (token.Sign g) w s b = tt

abbrev AreValid : List Spot → Type 0
AreValid [] = Unit {0}
AreValid (s ∷ ss) = Valid s.token × AreValid ss

-- the tokens of these marks are valid
pub record AllValid (m : List Marked) : Type 0 where
  pub all : AreValid (spots_of m)

pub valid_reads : {b t b' t' : List ℕ} {s : List Spot} → ReadsTokens b t s b' t' → AreValid s
valid_reads here = tt
valid_reads (gap some l) = valid_reads l
valid_reads {b} {t} (and_token u n at bound l) = (valid_token u (take n t) at.spelled bound, valid_reads l)

pub valid_marks : (m : List Marked) (s : List Spot) → spots_of m ≡ s → AreValid s → AllValid m
valid_marks m s e v = record { all = subst AreValid (sym e) v }

pub valid_head : {x : Marked} {xs : List Marked} → AllValid (x ∷ xs) → Valid x.spot.token
valid_head v = v.all.0

pub valid_tail : {x : Marked} {xs : List Marked} → AllValid (x ∷ xs) → AllValid xs
valid_tail v = record { all = v.all.1 }

pub valid_left : (a b : List Marked) → AllValid (a ++ b) → AllValid a
valid_left [] b v = record { all = tt }
valid_left (x ∷ a) b v = record { all = (valid_head v, (valid_left a b (valid_tail v)).all) }

pub valid_right : (a b : List Marked) → AllValid (a ++ b) → AllValid b
valid_right [] b v = v
valid_right (x ∷ a) b v = valid_right a b (valid_tail v)

pub valid_begun : (p : Part) (xs : List Marked) → AllValid (begin p xs) → AllValid xs
valid_begun p [] v = v
valid_begun p (x ∷ xs) v = record { all = v.all }
