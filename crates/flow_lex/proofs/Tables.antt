-- The table of reserved words and the table of signs, in order.
use Rattle.std.proofs.Common.{◌≡◌, ℕ, zero, suc, ◌<◌, List, [], ◌∷◌, length, get_or, take, refl, sym, ap, ◌∙◌, arith, rules, Bool, true, false, cond, Option, Some, None}
use Rattle.std.specs.Prelude.{bytes_eq, nat_lt, IfSome}
use Rattle.std.proofs.lemmas.Bool.Decides.{nat_tests}
use Rattle.std.specs.List.{find}
use Rattle.std.proofs.lemmas.Slice.Eq.{bytes_eq-Decides}
use Rattle.flow_tree.specs.declared.token.Word as words
use Rattle.flow_tree.specs.declared.token.Word.TheVariants.{Actor, Struct, State, Wait, WaitNext, Choose, When, Loop, While, For, If, Else, Break, Continue, Return, Throw, Try, Catch, Yes, No, Int, Bool as Bool', Str, Void, Error, Future, FutureStream, Promise, PromiseStream, Vector, NoResult}
use Rattle.flow_tree.specs.declared.token.Sign as signs
use Rattle.flow_tree.specs.declared.token.Sign.TheVariants.{OpenRound, CloseRound, OpenCurly, CloseCurly, OpenSquare, CloseSquare, Less, Greater, Comma, Semicolon, Dot, Assign, Equal, NotEqual, LessEqual, GreaterEqual, AndAnd, OrOr, Not, Plus, Minus, Star, Slash, Percent, PlusAssign, MinusAssign, PlusPlus, MinusMinus, Amp}
use Rattle.flow_tree.specs.Spelling.{word_bytes, sign_bytes}
use Rattle.flow_lex.proofs.Bytes.{true_false}

-- what is found passes the test, and where nothing is, each place fails it
pub find_passes : {X : Type 0} (p : X → Bool) (xs : List X) (x : X) → Some x ≡ find p xs → p x ≡ true
find_passes p [] x h = cc
find_passes p (y ∷ ys) x h = elim (p y) as (λ b. (p y ≡ b) → Some x ≡ cond b (Some y) (find p ys) → p x ≡ true) [
  | true ↦ λ e f. let g : x ≡ y = cc in ap p g ∙ e
  | false ↦ λ e f. find_passes p ys x f
] refl h

fails_at : {X : Type 0} (p : X → Bool) (y : X) (ys : List X) (d : X) → ((j : ℕ) → j < length ys → p (get_or ys j d) ≡ true → ⊥) → p y ≡ false
    → (i : ℕ) → i < length (y ∷ ys) → p (get_or (y ∷ ys) i d) ≡ true → ⊥
fails_at p y ys d rest e zero lt t = true_false (sym t ∙ e)
fails_at p y ys d rest e (suc i) lt t = rest i (omega arith) t

pub find_fails : {X : Type 0} (p : X → Bool) (xs : List X) → None ≡ find p xs → (i : ℕ) (d : X) → i < length xs → p (get_or xs i d) ≡ true → ⊥
find_fails p [] h i d lt t = omega arith
find_fails p (y ∷ ys) h i d lt t = elim (p y) as (λ b. (p y ≡ b) → None ≡ cond b (Some y) (find p ys) → ⊥) [
  | true ↦ λ e f. cc
  | false ↦ λ e f. fails_at p y ys d (λ j l. find_fails p ys f j d l) e i lt t
] refl h

abbrev pub all_words : List words.Word
all_words = Actor ∷ (Struct ∷ (State ∷ (Wait ∷ (WaitNext ∷ (Choose
    ∷ (When ∷ (Loop ∷ (While ∷ (For ∷ (If ∷ (Else ∷ (Break ∷ (Continue
    ∷ (Return ∷ (Throw ∷ (Try ∷ (Catch ∷ (Yes ∷ (No ∷ (Int ∷ (Bool' ∷ (Str ∷ (Void ∷ (Error ∷ (Future ∷ (FutureStream ∷ (Promise ∷ (PromiseStream ∷ (Vector ∷ (NoResult ∷ []))))))))))))))))))))))))))))))

abbrev word_index : words.Word → ℕ
word_index Actor = 0
word_index Struct = 1
word_index State = 2
word_index Wait = 3
word_index WaitNext = 4
word_index Choose = 5
word_index When = 6
word_index Loop = 7
word_index While = 8
word_index For = 9
word_index If = 10
word_index Else = 11
word_index Break = 12
word_index Continue = 13
word_index Return = 14
word_index Throw = 15
word_index Try = 16
word_index Catch = 17
word_index Yes = 18
word_index No = 19
word_index Int = 20
word_index Bool' = 21
word_index Str = 22
word_index Void = 23
word_index Error = 24
word_index Future = 25
word_index FutureStream = 26
word_index Promise = 27
word_index PromiseStream = 28
word_index Vector = 29
word_index NoResult = 30

word_there : (k : words.Word) → get_or all_words (word_index k) Actor ≡ k
word_there Actor = refl
word_there _ = refl

word_within : (k : words.Word) → nat_lt (word_index k) 31 ≡ true
word_within Actor = refl
word_within _ = refl

pub word_found : (w : List ℕ) (k : words.Word) → Some k ≡ find (λ x. bytes_eq (word_bytes x) w) all_words → word_bytes k ≡ w
word_found w k h = search (rules, bytes_eq-Decides (word_bytes k) w, find_passes (λ x. bytes_eq (word_bytes x) w) all_words k h)

pub word_missing : (w : List ℕ) → None ≡ find (λ x. bytes_eq (word_bytes x) w) all_words → (k : words.Word) → word_bytes k ≡ w → ⊥
word_missing w h k e =
    let within = word_within k in
    let equal : bytes_eq (word_bytes k) w ≡ true = search (rules, bytes_eq-Decides (word_bytes k) w, e) in
    find_fails (λ x. bytes_eq (word_bytes x) w) all_words h (word_index k) Actor (grind (arith, nat_tests)) (ap (λ x. bytes_eq (word_bytes x) w) (word_there k) ∙ equal)

abbrev pub all_signs : List signs.Sign
all_signs = OpenRound ∷ (CloseRound ∷ (OpenCurly ∷ (CloseCurly ∷ (OpenSquare
    ∷ (CloseSquare ∷ (Less ∷ (Greater ∷ (Comma ∷ (Semicolon ∷ (Dot
    ∷ (Assign ∷ (Equal ∷ (NotEqual ∷ (LessEqual ∷ (GreaterEqual ∷ (AndAnd
    ∷ (OrOr ∷ (Not ∷ (Plus ∷ (Minus ∷ (Star ∷ (Slash ∷ (Percent ∷ (PlusAssign ∷ (MinusAssign ∷ (PlusPlus ∷ (MinusMinus ∷ (Amp ∷ []))))))))))))))))))))))))))))

abbrev sign_index : signs.Sign → ℕ
sign_index OpenRound = 0
sign_index CloseRound = 1
sign_index OpenCurly = 2
sign_index CloseCurly = 3
sign_index OpenSquare = 4
sign_index CloseSquare = 5
sign_index Less = 6
sign_index Greater = 7
sign_index Comma = 8
sign_index Semicolon = 9
sign_index Dot = 10
sign_index Assign = 11
sign_index Equal = 12
sign_index NotEqual = 13
sign_index LessEqual = 14
sign_index GreaterEqual = 15
sign_index AndAnd = 16
sign_index OrOr = 17
sign_index Not = 18
sign_index Plus = 19
sign_index Minus = 20
sign_index Star = 21
sign_index Slash = 22
sign_index Percent = 23
sign_index PlusAssign = 24
sign_index MinusAssign = 25
sign_index PlusPlus = 26
sign_index MinusMinus = 27
sign_index Amp = 28

sign_there : (k : signs.Sign) → get_or all_signs (sign_index k) OpenRound ≡ k
sign_there OpenRound = refl
sign_there _ = refl

sign_within : (k : signs.Sign) → nat_lt (sign_index k) 29 ≡ true
sign_within OpenRound = refl
sign_within _ = refl

pub sign_found : (w : List ℕ) (k : signs.Sign) → Some k ≡ find (λ x. bytes_eq (sign_bytes x) w) all_signs → sign_bytes k ≡ w
sign_found w k h = search (rules, bytes_eq-Decides (sign_bytes k) w, find_passes (λ x. bytes_eq (sign_bytes x) w) all_signs k h)

pub sign_missing : (w : List ℕ) → None ≡ find (λ x. bytes_eq (sign_bytes x) w) all_signs → (k : signs.Sign) → sign_bytes k ≡ w → ⊥
sign_missing w h k e =
    let within = sign_within k in
    let equal : bytes_eq (sign_bytes k) w ≡ true = search (rules, bytes_eq-Decides (sign_bytes k) w, e) in
    find_fails (λ x. bytes_eq (sign_bytes x) w) all_signs h (sign_index k) OpenRound (grind (arith, nat_tests)) (ap (λ x. bytes_eq (sign_bytes x) w) (sign_there k) ∙ equal)

-- the sign of two bytes
pub long_missing : (text front : List ℕ) (r : Option signs.Sign) → r ≡ find (λ x. bytes_eq (sign_bytes x) front) all_signs → front ≡ take 2 text → r ≡ None
    → (s : signs.Sign) → sign_bytes s ≡ take 2 text → ⊥
long_missing text front r h e is s q = sign_missing front (sym is ∙ h) s (q ∙ sym e)

pub long_found : (text front : List ℕ) (r : Option signs.Sign) → r ≡ find (λ x. bytes_eq (sign_bytes x) front) all_signs → front ≡ take 2 text → 1 < length text
    → IfSome r (λ s. (1 < length text) × (sign_bytes s ≡ take 2 text))
long_found text front None h e lt = tt
long_found text front (Some s) h e lt = (lt, sign_found front s h ∙ e)
