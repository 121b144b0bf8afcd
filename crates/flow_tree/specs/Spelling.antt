-- How each token is spelled, and what stands between tokens.
use Rattle.std.specs.Prelude.{◌≡◌, ℕ, ℤ, negsuc, pos, ◌+◌, ◌*◌, ◌-◌, ◌^◌, ◌≤◌, ◌<◌, Bool, true, false, ◌&&◌, ◌||◌, eqb, nat_le, nat_lt, if◌then◌else◌, List, [], ◌∷◌, ◌++◌, length, take, IsTrue, Option, Some, None, codes}
use Rattle.std.specs.Option.{option_map}
use Rattle.std.specs.List.{list_all, prefix_len}
use Rattle.std.specs.Str.Parse.{digits_value}
use Rattle.flow_base.specs.Names.{digit, is_name_text}
use Rattle.flow_tree.specs.declared.token.Token.{Token}
use Rattle.flow_tree.specs.declared.token.Token.TheVariants as token
use Rattle.flow_tree.specs.declared.token.Token.TheVariants.{Name, Number, Text}
use Rattle.flow_tree.specs.declared.token.Word as words
use Rattle.flow_tree.specs.declared.token.Word.TheVariants.{Actor, Struct, State, Wait, WaitNext, Choose, When, Loop, While, For, If, Else, Break, Continue, Return, Throw, Try, Catch, Yes, No, Int, Bool as Bool', Str, Void, Error, Future, FutureStream, Promise, PromiseStream, Vector, NoResult}
use Rattle.flow_tree.specs.declared.token.Sign as signs
use Rattle.flow_tree.specs.declared.token.Sign.TheVariants.{OpenRound, CloseRound, OpenCurly, CloseCurly, OpenSquare, CloseSquare, Less, Greater, Comma, Semicolon, Dot, Assign, Equal, NotEqual, LessEqual, GreaterEqual, AndAnd, OrOr, Not, Plus, Minus, Star, Slash, Percent, PlusAssign, MinusAssign, PlusPlus, MinusMinus, Amp}

-- the bytes of a reserved word
abbrev pub word_bytes : words.Word → List ℕ
word_bytes Actor = codes "ACTOR"
word_bytes Struct = codes "struct"
word_bytes State = codes "state"
word_bytes Wait = codes "wait"
word_bytes WaitNext = codes "waitNext"
word_bytes Choose = codes "choose"
word_bytes When = codes "when"
word_bytes Loop = codes "loop"
word_bytes While = codes "while"
word_bytes For = codes "for"
word_bytes If = codes "if"
word_bytes Else = codes "else"
word_bytes Break = codes "break"
word_bytes Continue = codes "continue"
word_bytes Return = codes "return"
word_bytes Throw = codes "throw"
word_bytes Try = codes "try"
word_bytes Catch = codes "catch"
word_bytes Yes = codes "true"
word_bytes No = codes "false"
word_bytes Int = codes "int"
word_bytes Bool' = codes "bool"
word_bytes Str = codes "string"
word_bytes Void = codes "Void"
word_bytes Error = codes "Error"
word_bytes Future = codes "Future"
word_bytes FutureStream = codes "FutureStream"
word_bytes Promise = codes "Promise"
word_bytes PromiseStream = codes "PromiseStream"
word_bytes Vector = codes "vector"
word_bytes NoResult = codes "void"

-- the bytes of a sign
abbrev pub sign_bytes : signs.Sign → List ℕ
sign_bytes OpenRound = codes "("
sign_bytes CloseRound = codes ")"
sign_bytes OpenCurly = codes "{"
sign_bytes CloseCurly = codes "}"
sign_bytes OpenSquare = codes "["
sign_bytes CloseSquare = codes "]"
sign_bytes Less = codes "<"
sign_bytes Greater = codes ">"
sign_bytes Comma = codes ","
sign_bytes Semicolon = codes ";"
sign_bytes Dot = codes "."
sign_bytes Assign = codes "="
sign_bytes Equal = codes "=="
sign_bytes NotEqual = codes "!="
sign_bytes LessEqual = codes "<="
sign_bytes GreaterEqual = codes ">="
sign_bytes AndAnd = codes "&&"
sign_bytes OrOr = codes "||"
sign_bytes Not = codes "!"
sign_bytes Plus = codes "+"
sign_bytes Minus = codes "-"
sign_bytes Star = codes "*"
sign_bytes Slash = codes "/"
sign_bytes Percent = codes "%"
sign_bytes PlusAssign = codes "+="
sign_bytes MinusAssign = codes "-="
sign_bytes PlusPlus = codes "++"
sign_bytes MinusMinus = codes "--"
sign_bytes Amp = codes "&"

-- 0 alone, or a digit from 1 to 9 and further digits
abbrev pub is_number_text : List ℕ → Bool
is_number_text [] = false
is_number_text (b ∷ w) = if eqb b 48 then nat_lt (length w) 1 else digit b && list_all digit w

-- a byte that stands for itself in a quoted text: 32 to 126 but the quote and the backslash, and 128 to 255
abbrev pub plain_byte : ℕ → Bool
plain_byte b = if eqb b 34 || eqb b 92 then false else (nat_le 32 b && nat_le b 126) || (nat_le 128 b && nat_le b 255)

-- what a byte behind a backslash stands for
abbrev pub escaped : ℕ → Option ℕ
escaped c =
    if eqb c 110 then Some 10
    else if eqb c 116 then Some 9
    else if eqb c 34 then Some 34
    else if eqb c 92 then Some 92
    else None

-- the value of a hexadecimal digit of either case
abbrev pub hex_value : ℕ → Option ℕ
hex_value c =
    if nat_le 48 c && nat_le c 57 then Some (c - 48)
    else if nat_le 97 c && nat_le c 102 then Some (c - 87)
    else if nat_le 65 c && nat_le c 70 then Some (c - 55)
    else None

-- how one byte is spelled in a quoted text: by itself, by an escape, or by `\x` and two hexadecimal digits
pub data Piece : List ℕ → ℕ → Type 0 where
  itself : {w : List ℕ} {b : ℕ} → IsTrue (plain_byte b) → w ≡ b ∷ [] → Piece w b
  escape : {w : List ℕ} {b : ℕ} → (c : ℕ) → escaped c ≡ Some b → w ≡ 92 ∷ (c ∷ []) → Piece w b
  code : {w : List ℕ} {b : ℕ} → (high low h l : ℕ) → hex_value high ≡ Some h → hex_value low ≡ Some l
      → w ≡ 92 ∷ (120 ∷ (high ∷ (low ∷ []))) → b ≡ 16 * h + l → Piece w b

-- the inside of a quoted text, and the bytes that it holds
pub data Inside : List ℕ → List ℕ → Type 0 where
  empty : Inside [] []
  piece : {text t : List ℕ} → (w rest : List ℕ) (b : ℕ) → Piece w b → text ≡ w ++ rest → Inside rest t → Inside text (b ∷ t)

-- no piece begins here
abbrev pub NoPiece : List ℕ → Type 0
NoPiece text = (w rest : List ℕ) (b : ℕ) → text ≡ w ++ rest → Piece w b → ⊥

-- The bytes spell the token, however long it is: a name that is no reserved word, a number, a quoted
-- text, a reserved word, a sign.
abbrev pub Spells : Token → List ℕ → Type 0
Spells (Name n) w = IsTrue (is_name_text w) × ((k : words.Word) → word_bytes k ≡ w → ⊥) × (n ≡ w)
Spells (Number z) w = IsTrue (is_number_text w) × (z ≡ pos (digits_value 10 w))
Spells (Text t) w = (inside : List ℕ) × (w ≡ 34 ∷ (inside ++ 34 ∷ [])) × Inside inside t
Spells (token.Word k) w = word_bytes k ≡ w
Spells (token.Sign s) w = sign_bytes s ≡ w

-- a 64-bit int
abbrev pub IsInt : ℤ → Type 0
IsInt (pos n) = n < 2 ^ 63
IsInt (negsuc n) = n < 2 ^ 63

-- The bounds of a token: 255 bytes of a name, the greatest 64-bit number, 65,535 bytes that a text holds.
abbrev pub IsBounded : Token → Type 0
IsBounded (Name n) = length n ≤ 255
IsBounded (Number z) = IsInt z
IsBounded (Text t) = length t ≤ 65535
IsBounded (token.Word k) = Unit {0}
IsBounded (token.Sign s) = Unit {0}

-- no longer front of the text spells a token
abbrev pub IsLongest : ℕ → List ℕ → Type 0
IsLongest n text = (k : ℕ) (t : Token) → n < k → k ≤ length text → Spells t (take k text) → ⊥

-- the bytes 9, 10, 13 and 32
abbrev pub is_blank : ℕ → Bool
is_blank b = eqb b 9 || eqb b 10 || eqb b 13 || eqb b 32

-- no line feed
abbrev pub in_line : ℕ → Bool
in_line b = if eqb b 10 then false else true

abbrev pub begins_close : List ℕ → Bool
begins_close [] = false
begins_close (b ∷ []) = false
begins_close (b ∷ c ∷ w) = eqb b 42 && eqb c 47

-- how many bytes stand before the first `*/`
abbrev pub close_position : List ℕ → Option ℕ
close_position [] = None
close_position (b ∷ w) = if begins_close (b ∷ w) then Some 0 else option_map (λ k. k + 1) (close_position w)

-- the length of a comment that goes up to the next `*/`, which stands in what follows its opening; 0 where there is none
abbrev pub block_length : Option ℕ → ℕ
block_length None = 0
block_length (Some k) = k + 4

-- a blank or a comment begins here
abbrev pub begins_gap : List ℕ → Bool
begins_gap [] = false
begins_gap (b ∷ []) = is_blank b
begins_gap (b ∷ c ∷ w) = is_blank b || (eqb b 47 && (eqb c 47 || eqb c 42))

-- the length of the blank or comment that begins here; 0 where none does, and for a comment that is not closed
abbrev pub gap_length : List ℕ → ℕ
gap_length [] = 0
gap_length (b ∷ []) = if is_blank b then 1 else 0
gap_length (b ∷ c ∷ w) =
    if is_blank b then 1
    else if eqb b 47 && eqb c 47 then prefix_len in_line w + 2
    else if eqb b 47 && eqb c 42 then block_length (close_position w)
    else 0
