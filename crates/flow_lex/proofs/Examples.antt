-- Small texts, and what the definition of tokens says of them.
use Rattle.std.proofs.Common.{ℕ, [], ◌∷◌, refl, arith, pos}
use Rattle.std.specs.Prelude.{codes}
use Rattle.flow_tree.specs.declared.token.Spot.{Spot}
use Rattle.flow_tree.specs.declared.token.Token.{Token}
use Rattle.flow_tree.specs.declared.token.Token.TheVariants as token
use Rattle.flow_tree.specs.declared.token.Token.TheVariants.{Name, Number}
use Rattle.flow_tree.specs.declared.token.Word.TheVariants.{If, Void, NoResult}
use Rattle.flow_tree.specs.declared.token.Sign.TheVariants.{LessEqual, Greater}
use Rattle.flow_tree.specs.declared.fault.Rule.TheVariants.{S}
use Rattle.flow_tree.specs.Lexing.{here, gap, token as and_token, Lexes, LexFault, open_comment, too_big}
use Rattle.flow_lex.proofs.Tables.{word_missing, sign_missing}
use Rattle.flow_lex.proofs.Longest.{finds_name}
use Rattle.flow_lex.proofs.Numbers.{finds_zero, finds_number}
use Rattle.flow_lex.proofs.Tokens.{token_of, name_found, found_word, number_over, sign_two, sign_one, sign_none}

abbrev pub at : ℕ → ℕ → ℕ → Token → Spot
at line column byte t = record { token = t; at = record { line = line; column = column; byte = byte } }

-- a zero ends a number
pub zeros : Lexes (codes "007") (at 1 1 0 (Number (pos 0)) ∷ (at 1 2 1 (Number (pos 0)) ∷ (at 1 3 2 (Number (pos 7)) ∷ []))) (record { line = 1; column = 4; byte = 3 })
zeros = record {
  reads =
      and_token (Number (pos 0)) 1 (token_of (codes "007") (Number (pos 0)) 1 refl (finds_zero (codes "007") (omega arith) refl)) (omega arith)
      (and_token (Number (pos 0)) 1 (token_of (codes "07") (Number (pos 0)) 1 refl (finds_zero (codes "07") (omega arith) refl)) (omega arith)
      (and_token (Number (pos 7)) 1 (token_of (codes "7") (Number (pos 7)) 1 refl (finds_number (codes "7") (omega arith) refl (λ e. omega (arith, e)))) (omega arith) here));
  ends = refl;
}

-- a word, a blank and a comment over a line, and a name on the next
pub lines : Lexes (codes "if /*\n*/x") (at 1 1 0 (token.Word If) ∷ (at 2 3 8 (Name (codes "x")) ∷ [])) (record { line = 2; column = 4; byte = 9 })
lines = record {
  reads =
      and_token (token.Word If) 2 (token_of (codes "if /*\n*/x") (token.Word If) 2 refl (found_word (codes "if /*\n*/x") 2 If (finds_name (codes "if /*\n*/x") (omega arith) refl) refl)) tt
      (gap (omega arith)
      (gap (omega arith)
      (and_token (Name (codes "x")) 1
      (token_of (codes "x") (Name (codes "x")) 1 refl (name_found (codes "x") 1 (codes "x") (finds_name (codes "x") (omega arith) refl) (word_missing (codes "x") refl) refl)) (omega arith) here)));
  ends = refl;
}

-- a word, and another one that begins with a capital
pub words : Lexes (codes "void Void") (at 1 1 0 (token.Word NoResult) ∷ (at 1 6 5 (token.Word Void) ∷ [])) (record { line = 1; column = 10; byte = 9 })
words = record {
  reads =
      and_token (token.Word NoResult) 4 (token_of (codes "void Void") (token.Word NoResult) 4 refl (found_word (codes "void Void") 4 NoResult (finds_name (codes "void Void") (omega arith) refl) refl)) tt
      (gap (omega arith)
      (and_token (token.Word Void) 4 (token_of (codes "Void") (token.Word Void) 4 refl (found_word (codes "Void") 4 Void (finds_name (codes "Void") (omega arith) refl) refl)) tt here));
  ends = refl;
}

-- the longest sign
pub signs : Lexes (codes "<=>") (at 1 1 0 (token.Sign LessEqual) ∷ (at 1 3 2 (token.Sign Greater) ∷ [])) (record { line = 1; column = 4; byte = 3 })
signs = record {
  reads =
      and_token (token.Sign LessEqual) 2 (token_of (codes "<=>") (token.Sign LessEqual) 2 refl (sign_two (codes "<=>") LessEqual refl (omega arith) refl)) tt
      (and_token (token.Sign Greater) 1 (token_of (codes ">") (token.Sign Greater) 1 refl (sign_one (codes ">") Greater refl (omega arith) refl (λ lt h e. omega arith))) tt here);
  ends = refl;
}

-- the end of a comment comes behind its opening
pub unclosed : LexFault (codes "/*/") (S 3) (record { line = 1; column = 1; byte = 0 })
unclosed = record { spots = []; before = []; text = codes "/*/"; reads = here; refused = open_comment (refl, refl) }

-- one more than the greatest number
pub big : LexFault (codes "9223372036854775808") (S 4) (record { line = 1; column = 1; byte = 0 })
big = record {
  spots = [];
  before = [];
  text = codes "9223372036854775808";
  reads = here;
  refused = too_big (Number (pos 9223372036854775808)) 19
      (token_of (codes "9223372036854775808") (Number (pos 9223372036854775808)) 19 refl (finds_number (codes "9223372036854775808") (omega arith) refl (λ e. omega (arith, e))))
      (number_over 9223372036854775808 (omega arith));
}

-- a byte that begins nothing, behind a line feed
pub byte : LexFault (codes "\n#") (S 1) (record { line = 2; column = 1; byte = 1 })
byte = record {
  spots = [];
  before = codes "\n";
  text = codes "#";
  reads = gap (omega arith) here;
  refused = sign_none (codes "#") (record { line = 2; column = 1; byte = 1 }) refl refl (omega arith) (sign_missing (codes "#") refl) (λ lt h e. omega arith) (codes "\n") refl;
}
