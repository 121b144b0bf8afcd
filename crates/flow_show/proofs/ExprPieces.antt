-- Types and expressions are read back from their texts.
use Rattle.std.proofs.Common.{◌≡◌, ℕ, pos, suc, ◌^◌, ◌≤◌, ◌<◌, List, [], ◌∷◌, ◌++◌, length, refl, sym, ap, ap₂, ◌∙◌, subst, arith, append_assoc, length-append, append-nil, true, false, decimal, ◌⊎◌, inl, inr}
use Rattle.std.proofs.lemmas.Bool.Decides.{nat_tests}
use Rattle.std.specs.Prelude.{nat_le, codes}
use Rattle.std.specs.Fmt.{signed_decimal}
use Rattle.std.specs.List.{list_all}
use Rattle.flow_base.proofs.Bools.{and_left}
use Rattle.flow_base.specs.declared.place.Place.{Place}
use Rattle.flow_base.specs.Names.{letter, digit, name_byte, is_name_text}
use Rattle.flow_tree.specs.declared.token.Token.TheVariants.{Number}
use Rattle.flow_tree.specs.declared.token.Word.TheVariants as word
use Rattle.flow_tree.specs.declared.token.Sign.TheVariants as sign
use Rattle.flow_tree.specs.declared.expr.Op.{Op}
use Rattle.flow_tree.specs.declared.expr.Op.TheVariants.{Or}
use Rattle.flow_tree.specs.Spelling.{word_bytes, sign_bytes}
use Rattle.flow_tree.specs.Tree.{ByName, ByIndex, indexed, TypeTree, ExprTree, ExprTrees, IntExpr, TextExpr, BoolExpr, VoidExpr, VarExpr, CallExpr, FieldExpr, MethodExpr, NotExpr, NegExpr, BinaryExpr, ParenExpr, NoExprs, MoreExprs}
use Rattle.flow_tree.specs.GrammarToken.{Node, Marked, opens, begin}
use Rattle.flow_tree.specs.Grammar.{sign_at, node_sign, Wrapper, FutureOf, FutureStreamOf, PromiseOf, PromiseStreamOf, VectorOf, wrapper_word, wrapped, TypeRule, int_type, bool_type, string_type, void_type, error_type, named_type, wrapped_type, level, op_sign, ExprRule, number, text, truth, falsehood, void, variable, call, paren, field, method, index, negation, minus, binary, ArgsRule, no_args, some_args, MoreArgsRule, end_args, more_args}
use Rattle.flow_tree.specs.Canon.{type_text, minus_gap, expr_text, args_text, more_args_text, placeless_ident, placeless_expr, placeless_exprs}
use Rattle.flow_lex.proofs.Bytes.{true_false, word_is_name}
use Rattle.flow_show.proofs.Going.{Piece, nothing, both, as_rule, begun, spaced, under}
use Rattle.flow_show.proofs.TokenPieces.{Apart, name_piece, word_piece, sign_piece, Ends, opens_expr, open_round_ends, close_round_ends, open_square_ends, close_square_ends, comma_ends, dot_ends, not_ends, minus_ends, less_ends, greater_greater, greater_semicolon, space_ends}
use Rattle.flow_show.proofs.ValuePieces.{number_piece, text_piece, decimal_opens}
use Rattle.flow_show.proofs.Valid.{AllValid, valid_head, valid_tail, valid_left, valid_right, valid_begun}

-- a list that ends in something has something
pub some_in : {xs : List Marked} (a : List Marked) (x : Marked) (b : List Marked) → xs ≡ a ++ (x ∷ b) → 0 < length xs
some_in a x b e = omega (arith, ap length e, length-append a (x ∷ b))

-- types

pub record TypeKept (d : ℕ) (t : TypeTree) : Type 0 where
  pub marked : List Marked
  pub rule : TypeRule d marked t

pub type_some : {d : ℕ} {m : List Marked} {t : TypeTree} → TypeRule d m t → 0 < length m
type_some (int_type p) = omega arith
type_some (bool_type p) = omega arith
type_some (string_type p) = omega arith
type_some (void_type p) = omega arith
type_some (error_type p) = omega arith
type_some (named_type x) = omega arith
type_some (wrapped_type w p q r of rule e) = some_in [] _ _ e

wrapped_text : (w : Wrapper) (t : TypeTree) → type_text (wrapped w t) ≡ word_bytes (wrapper_word w) ++ (60 ∷ (type_text t ++ 62 ∷ []))
wrapped_text FutureOf t = refl
wrapped_text FutureStreamOf t = refl
wrapped_text PromiseOf t = refl
wrapped_text PromiseStreamOf t = refl
wrapped_text VectorOf t = refl

-- a type begins with a letter
pub record Lettered (w : List ℕ) : Type 0 where
  pub first : ℕ
  pub rest : List ℕ
  pub is : w ≡ first ∷ rest
  pub letter : letter first ≡ true

lettered : (w v : List ℕ) → is_name_text w ≡ true → Lettered (w ++ v)
lettered [] v h = absurd (true_false (sym h))
lettered (b ∷ w) v h = record { first = b; rest = w ++ v; is = refl; letter = and_left (letter b) (list_all name_byte w) h }

pub type_opens : {d : ℕ} {m : List Marked} {t : TypeTree} (v : List ℕ) → TypeRule d m t → AllValid m → Lettered (type_text t ++ v)
type_opens v (int_type p) a = lettered (word_bytes word.Int) v refl
type_opens v (bool_type p) a = lettered (word_bytes word.Bool) v refl
type_opens v (string_type p) a = lettered (word_bytes word.Str) v refl
type_opens v (void_type p) a = lettered (word_bytes word.Void) v refl
type_opens v (error_type p) a = lettered (word_bytes word.Error) v refl
type_opens v (named_type x) a = lettered x.name v (valid_head a).form
type_opens v (wrapped_type {t = t} w p q r of rule e) a =
    subst Lettered (sym (ap (λ l. l ++ v) (wrapped_text w t) ∙ append_assoc (word_bytes (wrapper_word w)) (60 ∷ (type_text t ++ 62 ∷ [])) v))
    (lettered (word_bytes (wrapper_word w)) ((60 ∷ (type_text t ++ 62 ∷ [])) ++ v) (word_is_name (wrapper_word w)))

pub less_by : (v : List ℕ) → Lettered v → Ends sign.Less v
less_by v l = subst (Ends sign.Less) (sym l.is) (less_ends l.first l.rest l.letter)

-- behind a type comes a space, the `>` of the type around it, or a semicolon
pub data AfterType : List ℕ → Type 0 where
  space : (w : List ℕ) → AfterType (32 ∷ w)
  closed : (w : List ℕ) → AfterType (62 ∷ w)
  semicolon : (w : List ℕ) → AfterType (59 ∷ w)

after_apart : (w : List ℕ) → AfterType w → Apart w
after_apart w (space v) = refl
after_apart w (closed v) = refl
after_apart w (semicolon v) = refl

greater_after : (w : List ℕ) → AfterType w → Ends sign.Greater w
greater_after w (space v) = space_ends sign.Greater v
greater_after w (closed v) = greater_greater v
greater_after w (semicolon v) = greater_semicolon v

pub type_piece : {d : ℕ} {m : List Marked} {t : TypeTree} → TypeRule d m t → AllValid m → Piece {X = TypeKept d t} (λ x. x.marked) m (type_text t) AfterType
type_piece {d} (int_type p) v = under (as_rule (word_piece (Node d ∷ []) word.Int p) (λ x. record { marked = _; rule = int_type x }) (λ x. refl) refl refl) after_apart
type_piece {d} (bool_type p) v = under (as_rule (word_piece (Node d ∷ []) word.Bool p) (λ x. record { marked = _; rule = bool_type x }) (λ x. refl) refl refl) after_apart
type_piece {d} (string_type p) v = under (as_rule (word_piece (Node d ∷ []) word.Str p) (λ x. record { marked = _; rule = string_type x }) (λ x. refl) refl refl) after_apart
type_piece {d} (void_type p) v = under (as_rule (word_piece (Node d ∷ []) word.Void p) (λ x. record { marked = _; rule = void_type x }) (λ x. refl) refl refl) after_apart
type_piece {d} (error_type p) v = under (as_rule (word_piece (Node d ∷ []) word.Error p) (λ x. record { marked = _; rule = error_type x }) (λ x. refl) refl refl) after_apart
type_piece {d} (named_type x) v = under (as_rule (name_piece (Node d ∷ []) x.name x.at (valid_head v)) (λ p. record { marked = _; rule = named_type (record { name = x.name; at = p }) })
    (λ x. refl) refl refl) after_apart
type_piece {d} (wrapped_type {t = t} w p q r of rule e) v =
    let a = subst AllValid e v in
    let inner = valid_left of _ (valid_tail (valid_tail a)) in
    as_rule
    (both (under (word_piece (Node d ∷ []) (wrapper_word w) p) (λ rest g. g))
    (both (sign_piece [] sign.Less q)
    (both (type_piece rule inner) (under (sign_piece [] sign.Greater r) greater_after) (λ rest g. closed rest))
    (λ rest g. subst (Ends sign.Less) (sym (append_assoc (type_text t) (62 ∷ []) rest)) (less_by (type_text t ++ (62 ∷ rest)) (type_opens (62 ∷ rest) rule inner))))
    (λ rest g. refl))
    (λ x. record { marked = _; rule = wrapped_type w x.0 x.1.0 x.1.1.1 x.1.1.0.marked x.1.1.0.rule refl })
    (λ x. refl) e (wrapped_text w t)

-- expressions

pub record ExprKept (k d : ℕ) (t : ExprTree) : Type 0 where
  pub marked : List Marked
  pub tree : ExprTree
  pub rule : ExprRule k d marked tree
  pub like : placeless_expr tree ≡ placeless_expr t

pub record ArgsKept (d : ℕ) (ts : ExprTrees) : Type 0 where
  pub marked : List Marked
  pub trees : ExprTrees
  pub rule : ArgsRule d marked trees
  pub like : placeless_exprs trees ≡ placeless_exprs ts

pub record MoreArgsKept (d : ℕ) (ts : ExprTrees) : Type 0 where
  pub marked : List Marked
  pub trees : ExprTrees
  pub rule : MoreArgsRule d marked trees
  pub like : placeless_exprs trees ≡ placeless_exprs ts

pub expr_some : {k d : ℕ} {m : List Marked} {t : ExprTree} → ExprRule k d m t → 0 < length m
expr_some (number n p) = omega arith
expr_some (text t p) = omega arith
expr_some (truth p) = omega arith
expr_some (falsehood p) = omega arith
expr_some (void p q r) = omega arith
expr_some (variable x) = omega arith
expr_some (call f p q args r e) = some_in [] _ _ e
expr_some (paren p q of r e) = some_in [] _ _ e
expr_some {k} {d} (field p x of r e) = some_in (begin (Node d) of) _ _ e
expr_some {k} {d} (method p q r f of args a b e) = some_in (begin (Node d) of) _ _ e
expr_some {k} {d} (index p q of at a b e) = some_in (begin (Node d) of) _ _ e
expr_some (negation p of le r e) = some_in [] _ _ e
expr_some (minus p of le r e) = some_in [] _ _ e
expr_some {k} {d} (binary op p left right le a b e) = some_in (begin (Node d) left) _ _ e

-- What an expression begins with. Only a unary `-` begins with one where no sign between two operands
-- splits it.
pub record Opening (k : ℕ) (t : ExprTree) (w : List ℕ) : Type 0 where
  pub first : ℕ
  pub rest : List ℕ
  pub is : w ≡ first ∷ rest
  pub opens : opens_expr first ≡ true
  pub unsigned : first ≡ 45 → 7 ≤ k → ⊥
  pub negative : first ≡ 45 → 6 ≤ k → minus_gap t ≡ 32 ∷ []

letter_opens : (b : ℕ) → letter b ≡ true → opens_expr b ≡ true
letter_opens b h = grind (arith, nat_tests)

letter_unsigned : (b : ℕ) → letter b ≡ true → b ≡ 45 → ⊥
letter_unsigned b h e = grind (arith, nat_tests)

digit_opens : (b : ℕ) → digit b ≡ true → opens_expr b ≡ true
digit_opens b h = grind (arith, nat_tests)

digit_unsigned : (b : ℕ) → digit b ≡ true → b ≡ 45 → ⊥
digit_unsigned b h e = grind (arith, nat_tests)

name_opens : (k : ℕ) (t : ExprTree) (w v : List ℕ) → is_name_text w ≡ true → Opening k t (w ++ v)
name_opens k t w v h =
    let l = lettered w v h in
    record {
      first = l.first;
      rest = l.rest;
      is = l.is;
      opens = letter_opens l.first l.letter;
      unsigned = λ e le. letter_unsigned l.first l.letter e;
      negative = λ e le. absurd (letter_unsigned l.first l.letter e);
    }

byte_opens : (k : ℕ) (t : ExprTree) (b : ℕ) (w : List ℕ) → opens_expr b ≡ true → (b ≡ 45 → ⊥) → Opening k t (b ∷ w)
byte_opens k t b w o n = record { first = b; rest = w; is = refl; opens = o; unsigned = λ e le. n e; negative = λ e le. absurd (n e) }

-- an expression that begins with another one, which no sign splits
more_opens : (k : ℕ) (t u : ExprTree) (w v : List ℕ) → Opening 7 u w → Opening k t (w ++ v)
more_opens k t u w v o = record {
  first = o.first;
  rest = o.rest ++ v;
  is = ap (λ l. l ++ v) o.is;
  opens = o.opens;
  unsigned = λ e le. o.unsigned e (omega arith);
  negative = λ e le. absurd (o.unsigned e (omega arith));
}

level_low : (op : Op) → nat_le (level op) 5 ≡ true
level_low Or = refl
level_low _ = refl

low_level : (k : ℕ) (op : Op) → k ≤ level op → k ≤ 5
low_level k op le = let h = level_low op in grind (arith, nat_tests)

operands_open : (k j : ℕ) (t u : ExprTree) (w v : List ℕ) → k ≤ 5 → Opening j u w → Opening k t (w ++ v)
operands_open k j t u w v le o = record {
  first = o.first;
  rest = o.rest ++ v;
  is = ap (λ l. l ++ v) o.is;
  opens = o.opens;
  unsigned = λ e l. absurd (omega arith);
  negative = λ e l. absurd (omega arith);
}

number_opens : (k v : ℕ) → v < 2 ^ 63 → Opening k (IntExpr (pos v)) (decimal v)
number_opens k v small =
    let d = decimal_opens v small in
    record {
      first = d.first;
      rest = d.rest;
      is = d.is;
      opens = digit_opens d.first d.digit;
      unsigned = λ e le. digit_unsigned d.first d.digit e;
      negative = λ e le. absurd (digit_unsigned d.first d.digit e);
    }

pub call_text : (f a : List ℕ) → f ++ codes "(" ++ a ++ codes ")" ≡ f ++ (40 ∷ (a ++ 41 ∷ []))
call_text f a = simp append_assoc refl

pub method_text : (t f a : List ℕ) → t ++ codes "." ++ f ++ codes "(" ++ a ++ codes ")" ≡ t ++ (46 ∷ (f ++ (40 ∷ (a ++ 41 ∷ []))))
method_text t f a = simp append_assoc refl

pub index_text : (t i : List ℕ) → t ++ codes "[" ++ (i ++ []) ++ codes "]" ≡ t ++ (91 ∷ (i ++ 93 ∷ []))
index_text t i = simp (append_assoc, append-nil) refl

pub field_text : (t f : List ℕ) → t ++ codes "." ++ f ≡ t ++ (46 ∷ f)
field_text t f = simp append_assoc refl

pub binary_text : (a s b : List ℕ) → a ++ codes " " ++ s ++ codes " " ++ b ≡ a ++ (32 ∷ (s ++ (32 ∷ b)))
binary_text a s b = simp append_assoc refl

pub expr_opens : {k d : ℕ} {m : List Marked} {t : ExprTree} → ExprRule k d m t → AllValid m → Opening k t (expr_text t)
expr_opens {k} (number n p) v =
    let h = valid_head v in
    subst (λ z. Opening k (IntExpr z) (signed_decimal z)) (sym h.is) (number_opens k h.value h.small)
expr_opens {k} (text t p) v = byte_opens k (TextExpr t) 34 _ refl (λ e. omega (arith, e))
expr_opens {k} (truth p) v = name_opens k (BoolExpr true) (word_bytes word.Yes) [] refl
expr_opens {k} (falsehood p) v = name_opens k (BoolExpr false) (word_bytes word.No) [] refl
expr_opens {k} (void p q r) v = name_opens k VoidExpr (word_bytes word.Void) (codes "()") refl
expr_opens {k} (variable x) v = subst (Opening k (VarExpr x)) (append-nil x.name) (name_opens k (VarExpr x) x.name [] (valid_head v).form)
expr_opens {k} (call {ts = ts} f p q args r e) v =
    subst (Opening k (CallExpr f ts)) (sym (call_text f.name (args_text ts)))
    (name_opens k (CallExpr f ts) f.name (40 ∷ (args_text ts ++ 41 ∷ [])) (valid_head (subst AllValid e v)).form)
expr_opens {k} (paren p q of r e) v = byte_opens k (ParenExpr _) 40 _ refl (λ e. omega (arith, e))
expr_opens {k} {d} (field {t = t} p x of r e) v =
    subst (Opening k (FieldExpr t x)) (sym (field_text (expr_text t) x.name))
    (more_opens k (FieldExpr t x) t (expr_text t) (46 ∷ x.name) (expr_opens r (valid_begun (Node d) of (valid_left (begin (Node d) of) _ (subst AllValid e v)))))
expr_opens {k} {d} (method {t = t} {ts = ts} p q r f of args a b e) v =
    subst (Opening k (MethodExpr t (ByName f) ts)) (sym (method_text (expr_text t) f.name (args_text ts)))
    (more_opens k (MethodExpr t (ByName f) ts) t (expr_text t) (46 ∷ (f.name ++ (40 ∷ (args_text ts ++ 41 ∷ []))))
    (expr_opens a (valid_begun (Node d) of (valid_left (begin (Node d) of) _ (subst AllValid e v)))))
expr_opens {k} {d} (index {t = t} {i = i} p q of at a b e) v =
    subst (Opening k (indexed t i)) (sym (index_text (expr_text t) (expr_text i)))
    (more_opens k (indexed t i) t (expr_text t) (91 ∷ (expr_text i ++ 93 ∷ []))
    (expr_opens a (valid_begun (Node d) of (valid_left (begin (Node d) of) _ (subst AllValid e v)))))
expr_opens {k} (negation p of le r e) v = byte_opens k (NotExpr _) 33 _ refl (λ e. omega (arith, e))
expr_opens {k} (minus {t = t} p of le r e) v = record {
  first = 45;
  rest = minus_gap t ++ expr_text t;
  is = refl;
  opens = refl;
  unsigned = λ e le'. omega arith;
  negative = λ e le'. refl;
}
expr_opens {k} {d} (binary {a = x} {b = y} op p left right le a b e) v =
    subst (Opening k (BinaryExpr op x y)) (sym (binary_text (expr_text x) (sign_bytes (op_sign op)) (expr_text y)))
    (operands_open k (level op) (BinaryExpr op x y) x (expr_text x) (32 ∷ (sign_bytes (op_sign op) ++ (32 ∷ expr_text y))) (low_level k op le)
    (expr_opens a (valid_begun (Node d) left (valid_left (begin (Node d) left) _ (subst AllValid e v)))))

gap_either : (t : ExprTree) → (minus_gap t ≡ 32 ∷ []) ⊎ (minus_gap t ≡ [])
gap_either (NegExpr t) = inl refl
gap_either t = inr refl

-- what follows a unary sign
not_by : {k : ℕ} (t : ExprTree) (w rest : List ℕ) → Opening k t w → Ends sign.Not (w ++ rest)
not_by t w rest o = subst (λ l. Ends sign.Not (l ++ rest)) (sym o.is) (not_ends o.first (o.rest ++ rest) o.opens)

minus_by : (t : ExprTree) (w rest : List ℕ) → Opening 6 t w → minus_gap t ≡ [] → Ends sign.Minus (w ++ rest)
minus_by t w rest o none = subst (λ l. Ends sign.Minus (l ++ rest)) (sym o.is) (minus_ends o.first (o.rest ++ rest) o.opens (λ e. nil_cons (sym none ∙ o.negative e (omega arith))))
  where
    nil_cons : ◌≡◌ {A = List ℕ} [] (32 ∷ []) → ⊥
    nil_cons e = cc

more_apart : (ts : ExprTrees) (rest : List ℕ) → Apart (more_args_text ts ++ (41 ∷ rest))
more_apart NoExprs rest = refl
more_apart (MoreExprs t ts) rest = refl

pub shut : (p : Place) → Piece {X = Place} (λ x. sign_at sign.CloseRound x ∷ []) (sign_at sign.CloseRound p ∷ []) (41 ∷ []) Apart
shut p = under (sign_piece [] sign.CloseRound p) (λ rest g. close_round_ends rest)

square_shut : (p : Place) → Piece {X = Place} (λ x. sign_at sign.CloseSquare x ∷ []) (sign_at sign.CloseSquare p ∷ []) (93 ∷ []) Apart
square_shut p = under (sign_piece [] sign.CloseSquare p) (λ rest g. close_square_ends rest)

-- behind arguments comes a closing bracket
pub data Closing : List ℕ → Type 0 where
  closing : (w : List ℕ) → Closing (41 ∷ w)

closing_apart : (ts : ExprTrees) (rest : List ℕ) → Closing rest → Apart (more_args_text ts ++ rest)
closing_apart ts rest (closing w) = more_apart ts w

minus_piece : {k d : ℕ} {m : List Marked} {t : ExprTree} (p : Place) (of : List Marked) → k ≤ 6 → m ≡ node_sign d sign.Minus p ∷ of → Opening 6 t (expr_text t)
    → Piece {X = ExprKept 6 (suc d) t} (λ x. x.marked) of (expr_text t) Apart → (minus_gap t ≡ 32 ∷ []) ⊎ (minus_gap t ≡ [])
    → Piece {X = ExprKept k d (NegExpr t)} (λ x. x.marked) m (expr_text (NegExpr t)) Apart
minus_piece {k} {d} {m} {t} p of le e o inner (inl some) =
    as_rule (both (sign_piece (Node d ∷ []) sign.Minus p) (spaced inner) (λ rest g. space_ends sign.Minus _))
    (λ x. record { marked = _; tree = _; rule = minus x.0 x.1.marked le x.1.rule refl; like = ap NegExpr x.1.like })
    (λ x. refl) e (ap (λ l. 45 ∷ (l ++ expr_text t)) some)
minus_piece {k} {d} {m} {t} p of le e o inner (inr none) =
    as_rule (both (sign_piece (Node d ∷ []) sign.Minus p) inner (λ rest g. minus_by t (expr_text t) rest o none))
    (λ x. record { marked = _; tree = _; rule = minus x.0 x.1.marked le x.1.rule refl; like = ap NegExpr x.1.like })
    (λ x. refl) e (ap (λ l. 45 ∷ (l ++ expr_text t)) none)

mutual
  pub expr_piece : {k d : ℕ} {m : List Marked} {t : ExprTree} → ExprRule k d m t → AllValid m → Piece {X = ExprKept k d t} (λ x. x.marked) m (expr_text t) Apart
  expr_piece {k} {d} (number n p) v =
      let h = valid_head v in
      subst (λ z. Piece {X = ExprKept k d (IntExpr z)} (λ x. x.marked) (opens (Node d ∷ []) (Number z) p ∷ []) (signed_decimal z) Apart) (sym h.is)
      (as_rule (number_piece (Node d ∷ []) h.value p h.small) (λ x. record { marked = _; tree = _; rule = number (pos h.value) x; like = refl }) (λ x. refl) refl refl)
  expr_piece {k} {d} (text t p) v =
      let h = valid_head v in
      under (as_rule (text_piece (Node d ∷ []) t p h.bytes h.short) (λ x. record { marked = _; tree = _; rule = text t x; like = refl }) (λ x. refl) refl refl) (λ rest g. tt)
  expr_piece {k} {d} (truth p) v = as_rule (word_piece (Node d ∷ []) word.Yes p) (λ x. record { marked = _; tree = _; rule = truth x; like = refl }) (λ x. refl) refl refl
  expr_piece {k} {d} (falsehood p) v = as_rule (word_piece (Node d ∷ []) word.No p) (λ x. record { marked = _; tree = _; rule = falsehood x; like = refl }) (λ x. refl) refl refl
  expr_piece {k} {d} (void p q r) v =
      as_rule (both (word_piece (Node d ∷ []) word.Void p) (both (sign_piece [] sign.OpenRound q) (shut r) (λ rest g. open_round_ends _)) (λ rest g. refl))
      (λ x. record { marked = _; tree = _; rule = void x.0 x.1.0 x.1.1; like = refl }) (λ x. refl) refl refl
  expr_piece {k} {d} (variable x) v = as_rule (name_piece (Node d ∷ []) x.name x.at (valid_head v))
      (λ p. record { marked = _; tree = _; rule = variable (record { name = x.name; at = p }); like = refl }) (λ x. refl) refl refl
  expr_piece {k} {d} (call {ts = ts} f p q args r e) v =
      let a = subst AllValid e v in
      as_rule
      (both (name_piece (Node d ∷ []) f.name f.at (valid_head a))
      (both (sign_piece [] sign.OpenRound p)
      (both (args_piece r (valid_left args _ (valid_tail (valid_tail a)))) (shut q) (λ rest g. closing rest)) (λ rest g. open_round_ends _)) (λ rest g. refl))
      (λ x. record { marked = _; tree = _; rule = call (record { name = f.name; at = x.0 }) x.1.0 x.1.1.1 x.1.1.0.marked x.1.1.0.rule refl; like = ap (CallExpr (placeless_ident f)) x.1.1.0.like })
      (λ x. refl) e (call_text f.name (args_text ts))
  expr_piece {k} {d} (paren p q of r e) v =
      let a = subst AllValid e v in
      as_rule
      (both (sign_piece (Node d ∷ []) sign.OpenRound p) (both (expr_piece r (valid_left of _ (valid_tail a))) (shut q) (λ rest g. refl)) (λ rest g. open_round_ends _))
      (λ x. record { marked = _; tree = _; rule = paren x.0 x.1.1 x.1.0.marked x.1.0.rule refl; like = ap ParenExpr x.1.0.like })
      (λ x. refl) e refl
  expr_piece {k} {d} (field {t = t} p x of r e) v =
      let a = subst AllValid e v in
      as_rule
      (both (begun (Node d) (λ y. expr_some y.rule) (expr_some r) (expr_piece r (valid_begun (Node d) of (valid_left (begin (Node d) of) _ a))))
      (both (sign_piece [] sign.Dot p) (name_piece [] x.name x.at (valid_head (valid_tail (valid_right (begin (Node d) of) _ a)))) (λ rest g. dot_ends _)) (λ rest g. refl))
      (λ y. record { marked = _; tree = _; rule = field y.1.0 (record { name = x.name; at = y.1.1 }) y.0.marked y.0.rule refl; like = ap (λ u. FieldExpr u (placeless_ident x)) y.0.like })
      (λ y. refl) e (field_text (expr_text t) x.name)
  expr_piece {k} {d} (method {t = t} {ts = ts} p q r f of args b c e) v =
      let a = subst AllValid e v in
      let tail = valid_right (begin (Node d) of) _ a in
      as_rule
      (both (begun (Node d) (λ y. expr_some y.rule) (expr_some b) (expr_piece b (valid_begun (Node d) of (valid_left (begin (Node d) of) _ a))))
      (both (sign_piece [] sign.Dot p)
      (both (name_piece [] f.name f.at (valid_head (valid_tail tail)))
      (both (sign_piece [] sign.OpenRound q)
      (both (args_piece c (valid_left args _ (valid_tail (valid_tail (valid_tail tail))))) (shut r) (λ rest g. closing rest)) (λ rest g. open_round_ends _)) (λ rest g. refl)) (λ rest g. dot_ends _))
      (λ rest g. refl))
      (λ y. record {
        marked = _;
        tree = _;
        rule = method y.1.0 y.1.1.1.0 y.1.1.1.1.1 (record { name = f.name; at = y.1.1.0 }) y.0.marked y.1.1.1.1.0.marked y.0.rule y.1.1.1.1.0.rule refl;
        like = ap₂ (λ u us. MethodExpr u (ByName (placeless_ident f)) us) y.0.like y.1.1.1.1.0.like;
      })
      (λ y. refl) e (method_text (expr_text t) f.name (args_text ts))
  expr_piece {k} {d} (index {t = t} {i = i} p q of at b c e) v =
      let a = subst AllValid e v in
      as_rule
      (both (begun (Node d) (λ y. expr_some y.rule) (expr_some b) (expr_piece b (valid_begun (Node d) of (valid_left (begin (Node d) of) _ a))))
      (both (sign_piece [] sign.OpenSquare p)
      (both (expr_piece c (valid_left at _ (valid_tail (valid_right (begin (Node d) of) _ a)))) (square_shut q) (λ rest g. refl)) (λ rest g. open_square_ends _)) (λ rest g. refl))
      (λ y. record {
        marked = _;
        tree = _;
        rule = index y.1.0 y.1.1.1 y.0.marked y.1.1.0.marked y.0.rule y.1.1.0.rule refl;
        like = ap₂ indexed y.0.like y.1.1.0.like;
      })
      (λ y. refl) e (index_text (expr_text t) (expr_text i))
  expr_piece {k} {d} (negation {t = t} p of le r e) v =
      let w = valid_tail (subst AllValid e v) in
      as_rule (both (sign_piece (Node d ∷ []) sign.Not p) (expr_piece r w) (λ rest g. not_by t (expr_text t) rest (expr_opens r w)))
      (λ x. record { marked = _; tree = _; rule = negation x.0 x.1.marked le x.1.rule refl; like = ap NotExpr x.1.like })
      (λ x. refl) e refl
  expr_piece {k} {d} (minus {t = t} p of le r e) v =
      let w = valid_tail (subst AllValid e v) in
      minus_piece p of le e (expr_opens r w) (expr_piece r w) (gap_either t)
  expr_piece {k} {d} (binary {a = x} {b = y} op p left right le b c e) v =
      let a = subst AllValid e v in
      as_rule
      (both (begun (Node d) (λ z. expr_some z.rule) (expr_some b) (expr_piece b (valid_begun (Node d) left (valid_left (begin (Node d) left) _ a))))
      (spaced (both (sign_piece [] (op_sign op) p) (spaced (expr_piece c (valid_tail (valid_right (begin (Node d) left) _ a)))) (λ rest g. space_ends (op_sign op) _))) (λ rest g. refl))
      (λ z. record {
        marked = _;
        tree = _;
        rule = binary op z.1.0 z.0.marked z.1.1.marked le z.0.rule z.1.1.rule refl;
        like = ap₂ (BinaryExpr op) z.0.like z.1.1.like;
      })
      (λ z. refl) e (binary_text (expr_text x) (sign_bytes (op_sign op)) (expr_text y))

  pub args_piece : {d : ℕ} {m : List Marked} {ts : ExprTrees} → ArgsRule d m ts → AllValid m → Piece {X = ArgsKept d ts} (λ x. x.marked) m (args_text ts) Closing
  args_piece {d} no_args v = as_rule nothing (λ x. record { marked = _; trees = _; rule = no_args; like = refl }) (λ x. refl) refl refl
  args_piece {d} (some_args {t = t} {ts = ts} first more r s e) v =
      let a = subst AllValid e v in
      as_rule (both (expr_piece r (valid_left first more a)) (more_args_piece s (valid_right first more a)) (λ rest g. closing_apart ts rest g))
      (λ x. record { marked = _; trees = _; rule = some_args x.0.marked x.1.marked x.0.rule x.1.rule refl; like = ap₂ MoreExprs x.0.like x.1.like })
      (λ x. refl) e refl

  pub more_args_piece : {d : ℕ} {m : List Marked} {ts : ExprTrees} → MoreArgsRule d m ts → AllValid m → Piece {X = MoreArgsKept d ts} (λ x. x.marked) m (more_args_text ts) Closing
  more_args_piece {d} end_args v = as_rule nothing (λ x. record { marked = _; trees = _; rule = end_args; like = refl }) (λ x. refl) refl refl
  more_args_piece {d} (more_args {t = t} {ts = ts} p next more r s e) v =
      let a = valid_tail (subst AllValid e v) in
      as_rule
      (both (sign_piece [] sign.Comma p) (spaced (both (expr_piece r (valid_left next more a)) (more_args_piece s (valid_right next more a)) (λ rest g. closing_apart ts rest g)))
      (λ rest g. comma_ends _))
      (λ x. record { marked = _; trees = _; rule = more_args x.0 x.1.0.marked x.1.1.marked x.1.0.rule x.1.1.rule refl; like = ap₂ MoreExprs x.1.0.like x.1.1.like })
      (λ x. refl) e refl
