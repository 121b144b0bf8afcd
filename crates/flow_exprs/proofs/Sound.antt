-- What the machine has read is derived: the derivations stand beside the trees, at each depth.
use Rattle.std.proofs.Common.{◌≡◌, ℕ, suc, ◌+◌, ◌≤◌, ◌<◌, max, List, [], ◌∷◌, ◌++◌, refl, ap, ◌∙◌, arith}
use Rattle.flow_base.specs.declared.place.Place.{Place}
use Rattle.flow_tree.specs.declared.token.Token.{Token}
use Rattle.flow_tree.specs.declared.token.Token.TheVariants as token
use Rattle.flow_tree.specs.declared.token.Word.{Word}
use Rattle.flow_tree.specs.declared.token.Word.TheVariants as word
use Rattle.flow_tree.specs.declared.token.Sign.{Sign}
use Rattle.flow_tree.specs.declared.token.Sign.TheVariants as sign
use Rattle.flow_tree.specs.declared.token.Spot.{Spot}
use Rattle.flow_tree.specs.declared.expr.Op.{Op}
use Rattle.flow_tree.specs.declared.ty.Ident.{Ident}
use Rattle.flow_tree.specs.Tree.{indexed, ExprTree, ExprTrees, IntExpr, TextExpr, BoolExpr, VoidExpr, VarExpr, CallExpr, FieldExpr, MethodExpr, NotExpr, NegExpr, BinaryExpr, ParenExpr, NoExprs, MoreExprs}
use Rattle.flow_tree.specs.GrammarToken.{Node, Marked, opens, begin, spots_of, Keeps}
use Rattle.flow_tree.specs.Grammar.{sign_at, name_at, node_sign, node_word, node_name, level, op_sign, ExprRule, number, text, truth, falsehood, void, variable, paren, field, index, negation, minus, binary, ArgsRule, MoreArgsRule}
use Rattle.flow_tree.proofs.GrammarLists.{spots_append, spots_begin, keeps_append, keeps_begin}
use Rattle.flow_exprs.specs.declared.kind.Kind.{Kind}
use Rattle.flow_exprs.specs.declared.kind.Kind.TheVariants as kind
use Rattle.flow_exprs.specs.Kinds.{kind_of, sign_kind, word_kind}
use Rattle.flow_exprs.specs.Machine.{leaf, name_bytes, Head, Function, Method, called, Negation, Minus, Stack, Top, InParen, InUnary, InTwo, InArgs, InIndex, State, Want, Have, WantArgs, WantName, WantOpen, WantClose, Dead, push, height, heights, head_height, Below}

abbrev pub spot : Token → Place → Spot
spot t p = record { token = t; at = p }

abbrev pub sign_spot : Sign → Place → Spot
sign_spot s p = spot (token.Sign s) p

abbrev pub name_spot : Ident → Spot
name_spot x = spot (token.Name x.name) x.at

-- tokens are an expression of this level at this depth
pub record Own (m d : ℕ) (toks : List Spot) (t : ExprTree) : Type 0 where
  pub marked : List Marked
  pub rule : ExprRule m d marked t
  pub is : spots_of marked ≡ toks
  pub keeps : (n : ℕ) → (5 ≤ n → d + height t ≤ 65) → Keeps n marked

-- what is called, with the opening bracket
pub record HeadOwn (d : ℕ) (toks : List Spot) (h : Head) : Type 0 where
  pub marked : List Marked
  pub rule : (m : ℕ) (p : Place) (args : List Marked) (ts : ExprTrees) → ArgsRule (suc d) args ts → ExprRule m d (marked ++ (args ++ sign_at sign.CloseRound p ∷ [])) (called h ts)
  pub is : spots_of marked ≡ toks
  pub keeps : (n : ℕ) → (5 ≤ n → d + head_height h ≤ 64) → Keeps n marked

abbrev pub join : ExprTrees → ExprTrees → ExprTrees
join NoExprs us = us
join (MoreExprs t ts) us = MoreExprs t (join ts us)

pub join_push : (ts us : ExprTrees) (t : ExprTree) → join (push ts t) us ≡ join ts (MoreExprs t us)
join_push NoExprs us t = refl
join_push (MoreExprs u ts) us t = ap (MoreExprs u) (join_push ts us t)

pub join_none : (ts : ExprTrees) → join ts NoExprs ≡ ts
join_none NoExprs = refl
join_none (MoreExprs u ts) = ap (MoreExprs u) (join_none ts)

pub heights_push : (ts : ExprTrees) (t : ExprTree) → heights (push ts t) ≡ max (heights ts) (height t)
heights_push NoExprs t = omega arith
heights_push (MoreExprs u us) t = omega (arith, heights_push us t)

pub called_height : (h : Head) (ts : ExprTrees) → height (called h ts) ≡ suc (max (head_height h) (heights ts))
called_height (Function f) ts = omega arith
called_height (Method t f) ts = refl

-- arguments, each with the comma behind it
pub record ArgsOwn (d : ℕ) (toks : List Spot) (ts : ExprTrees) : Type 0 where
  pub marked : List Marked
  pub rule : (next more : List Marked) (t : ExprTree) (us : ExprTrees) → ExprRule 0 d next t → MoreArgsRule d more us → ArgsRule d (marked ++ (next ++ more)) (join (push ts t) us)
  pub is : spots_of marked ≡ toks
  pub keeps : (n : ℕ) → (5 ≤ n → d + heights ts ≤ 65) → Keeps n marked

-- these tokens were read to come to this stack, over a whole of this depth
abbrev pub Front : ℕ → Stack → List Spot → Type 0
Front base (Top d) toks = (d ≡ base) × (toks ≡ [])
Front base (InParen K) toks = (a : List Spot) × (p : Place) × Front base K a × (toks ≡ a ++ sign_spot sign.OpenRound p ∷ [])
Front base (InUnary Negation K) toks = (a : List Spot) × (p : Place) × Front base K a × (toks ≡ a ++ sign_spot sign.Not p ∷ [])
Front base (InUnary Minus K) toks = (a : List Spot) × (p : Place) × Front base K a × (toks ≡ a ++ sign_spot sign.Minus p ∷ [])
Front base (InTwo op l K) toks = (a b : List Spot) × (p : Place) × Front base K a × ((d : ℕ) → Own (level op) d b l) × Below (level op) K × (toks ≡ a ++ (b ++ sign_spot (op_sign op) p ∷ []))
Front base (InArgs h ts K) toks = (a b c : List Spot) × Front base K a × ((d : ℕ) → HeadOwn d b h) × ((d : ℕ) → ArgsOwn d c ts) × (toks ≡ a ++ (b ++ c))
Front base (InIndex l K) toks = (a b : List Spot) × (p : Place) × Front base K a × ((m d : ℕ) → Own m d b l) × (toks ≡ a ++ (b ++ sign_spot sign.OpenSquare p ∷ []))

-- the level that an operand needs
abbrev pub need : Stack → ℕ
need (Top d) = 0
need (InParen K) = 0
need (InUnary u K) = 6
need (InTwo op l K) = suc (level op)
need (InArgs h ts K) = 0
need (InIndex l K) = 0

-- what an opening bracket would call
abbrev pub CallOwn : ExprTree → List Spot → Type 0
CallOwn (VarExpr x) toks = toks ≡ name_spot x ∷ []
CallOwn (FieldExpr t x) toks = (a : List Spot) × (p : Place) × ((m d : ℕ) → Own m d a t) × (toks ≡ a ++ (sign_spot sign.Dot p ∷ name_spot x ∷ []))
CallOwn _ toks = Unit {0}

pub record HaveRead (base : ℕ) (t : ExprTree) (K : Stack) (toks : List Spot) : Type 0 where
  pub front : List Spot
  pub own : List Spot
  pub stack : Front base K front
  pub rule : (m d : ℕ) → Own m d own t
  pub callee : CallOwn t own
  pub is : toks ≡ front ++ own

abbrev pub HasRead : ℕ → State → List Spot → Type 0
HasRead base (Want K) toks = Front base K toks
HasRead base (Have t K) toks = HaveRead base t K toks
HasRead base (WantArgs h K) toks = (a b : List Spot) × Front base K a × ((d : ℕ) → HeadOwn d b h) × (toks ≡ a ++ b)
HasRead base (WantName t K) toks = (a b : List Spot) × (p : Place) × Front base K a × ((m d : ℕ) → Own m d b t) × (toks ≡ a ++ (b ++ sign_spot sign.Dot p ∷ []))
HasRead base (WantOpen K) toks = (a : List Spot) × (p : Place) × Front base K a × (toks ≡ a ++ spot (token.Word word.Void) p ∷ [])
HasRead base (WantClose K) toks = (a : List Spot) × (p q : Place) × Front base K a × (toks ≡ a ++ (spot (token.Word word.Void) p ∷ sign_spot sign.OpenRound q ∷ []))
HasRead base Dead toks = Unit {0}

-- building one node
pub not_own : (m d : ℕ) (p : Place) (toks : List Spot) (t : ExprTree) → m ≤ 6 → Own 6 (suc d) toks t → Own m d (sign_spot sign.Not p ∷ toks) (NotExpr t)
not_own m d p toks t le o = record {
  marked = node_sign d sign.Not p ∷ o.marked;
  rule = negation p o.marked le o.rule refl;
  is = ap (λ x. sign_spot sign.Not p ∷ x) o.is;
  keeps = λ n h. (((λ l. omega (arith, h l)), tt), o.keeps n (λ l. omega (arith, h l)));
}

pub minus_own : (m d : ℕ) (p : Place) (toks : List Spot) (t : ExprTree) → m ≤ 6 → Own 6 (suc d) toks t → Own m d (sign_spot sign.Minus p ∷ toks) (NegExpr t)
minus_own m d p toks t le o = record {
  marked = node_sign d sign.Minus p ∷ o.marked;
  rule = minus p o.marked le o.rule refl;
  is = ap (λ x. sign_spot sign.Minus p ∷ x) o.is;
  keeps = λ n h. (((λ l. omega (arith, h l)), tt), o.keeps n (λ l. omega (arith, h l)));
}

pub height_some : (t : ExprTree) → 0 < height t
height_some (IntExpr n) = omega arith
height_some (TextExpr x) = omega arith
height_some (BoolExpr b) = omega arith
height_some VoidExpr = omega arith
height_some (VarExpr x) = omega arith
height_some (CallExpr f ts) = omega arith
height_some (FieldExpr t x) = omega arith
height_some (MethodExpr t f ts) = omega arith
height_some (NotExpr t) = omega arith
height_some (NegExpr t) = omega arith
height_some (BinaryExpr op l r) = omega arith
height_some (ParenExpr t) = omega arith

pub two_own : (op : Op) (m d : ℕ) (p : Place) (a b : List Spot) (l r : ExprTree) → m ≤ level op → Own (level op) (suc d) a l → Own (suc (level op)) (suc d) b r
    → Own m d (a ++ (sign_spot (op_sign op) p ∷ b)) (BinaryExpr op l r)
two_own op m d p a b l r le x y = record {
  marked = begin (Node d) x.marked ++ (sign_at (op_sign op) p ∷ y.marked);
  rule = binary op p x.marked y.marked le x.rule y.rule refl;
  is = spots_append (begin (Node d) x.marked) (sign_at (op_sign op) p ∷ y.marked)
      ∙ ap (λ z. z ++ (sign_spot (op_sign op) p ∷ spots_of y.marked)) (spots_begin (Node d) x.marked ∙ x.is)
      ∙ ap (λ z. a ++ (sign_spot (op_sign op) p ∷ z)) y.is;
  keeps = λ n h. keeps_append n (begin (Node d) x.marked) (sign_at (op_sign op) p ∷ y.marked)
      (keeps_begin n (Node d) x.marked (λ i. omega (arith, h i)) (x.keeps n (λ i. omega (arith, h i))))
      (tt, y.keeps n (λ i. omega (arith, h i)));
}

pub field_own : (m d : ℕ) (p : Place) (x : Ident) (a : List Spot) (t : ExprTree) → Own 7 (suc d) a t → Own m d (a ++ (sign_spot sign.Dot p ∷ name_spot x ∷ [])) (FieldExpr t x)
field_own m d p x a t o = record {
  marked = begin (Node d) o.marked ++ (sign_at sign.Dot p ∷ name_at x ∷ []);
  rule = field p x o.marked o.rule refl;
  is = spots_append (begin (Node d) o.marked) (sign_at sign.Dot p ∷ name_at x ∷ []) ∙ ap (λ z. z ++ (sign_spot sign.Dot p ∷ name_spot x ∷ [])) (spots_begin (Node d) o.marked ∙ o.is);
  keeps = λ n h. keeps_append n (begin (Node d) o.marked) (sign_at sign.Dot p ∷ name_at x ∷ [])
      (keeps_begin n (Node d) o.marked (λ i. omega (arith, h i, height_some t)) (o.keeps n (λ i. omega (arith, h i)))) (tt, (tt, tt));
}

pub index_own : (m d : ℕ) (p q : Place) (a b : List Spot) (l t : ExprTree) → Own 7 (suc d) a l → Own 0 (suc d) b t
    → Own m d (a ++ (sign_spot sign.OpenSquare p ∷ (b ++ sign_spot sign.CloseSquare q ∷ []))) (indexed l t)
index_own m d p q a b l t x y =
    let shut = sign_at sign.CloseSquare q ∷ [] in
    record {
      marked = begin (Node d) x.marked ++ (sign_at sign.OpenSquare p ∷ (y.marked ++ shut));
      rule = index p q x.marked y.marked x.rule y.rule refl;
      is = spots_append (begin (Node d) x.marked) (sign_at sign.OpenSquare p ∷ (y.marked ++ shut))
          ∙ ap (λ z. z ++ (sign_spot sign.OpenSquare p ∷ spots_of (y.marked ++ shut))) (spots_begin (Node d) x.marked ∙ x.is)
          ∙ ap (λ z. a ++ (sign_spot sign.OpenSquare p ∷ z)) (spots_append y.marked shut ∙ ap (λ z. z ++ sign_spot sign.CloseSquare q ∷ []) y.is);
      keeps = λ n h. keeps_append n (begin (Node d) x.marked) (sign_at sign.OpenSquare p ∷ (y.marked ++ shut))
          (keeps_begin n (Node d) x.marked (λ i. omega (arith, h i, height_some l)) (x.keeps n (λ i. omega (arith, h i))))
          (tt, keeps_append n y.marked shut (y.keeps n (λ i. omega (arith, h i))) (tt, tt));
    }

pub paren_own : (m d : ℕ) (p q : Place) (a : List Spot) (t : ExprTree) → Own 0 (suc d) a t → Own m d (sign_spot sign.OpenRound p ∷ (a ++ sign_spot sign.CloseRound q ∷ [])) (ParenExpr t)
paren_own m d p q a t o = record {
  marked = node_sign d sign.OpenRound p ∷ (o.marked ++ sign_at sign.CloseRound q ∷ []);
  rule = paren p q o.marked o.rule refl;
  is = ap (λ z. sign_spot sign.OpenRound p ∷ z) (spots_append o.marked (sign_at sign.CloseRound q ∷ []) ∙ ap (λ z. z ++ sign_spot sign.CloseRound q ∷ []) o.is);
  keeps = λ n h. (((λ l. omega (arith, h l)), tt), keeps_append n o.marked (sign_at sign.CloseRound q ∷ []) (o.keeps n (λ l. omega (arith, h l))) (tt, tt));
}

pub void_own : (m d : ℕ) (p q r : Place) → Own m d (spot (token.Word word.Void) p ∷ sign_spot sign.OpenRound q ∷ sign_spot sign.CloseRound r ∷ []) VoidExpr
void_own m d p q r = record {
  marked = node_word d word.Void p ∷ sign_at sign.OpenRound q ∷ sign_at sign.CloseRound r ∷ [];
  rule = void p q r;
  is = refl;
  keeps = λ n h. (((λ l. omega (arith, h l)), tt), (tt, (tt, tt)));
}

pub name_own : (m d : ℕ) (x : Ident) → Own m d (name_spot x ∷ []) (VarExpr x)
name_own m d x = record { marked = node_name d x ∷ []; rule = variable x; is = refl; keeps = λ n h. (((λ l. omega (arith, h l)), tt), tt) }

-- what a token is
abbrev pub KindSpot : Kind → Token → Place → Type 0
KindSpot kind.Leaf x p = ((m d : ℕ) → Own m d (spot x p ∷ []) (leaf x)) × CallOwn (leaf x) (spot x p ∷ [])
KindSpot kind.Name x p = x ≡ token.Name (name_bytes x)
KindSpot kind.Void x p = x ≡ token.Word word.Void
KindSpot kind.Open x p = x ≡ token.Sign sign.OpenRound
KindSpot kind.Close x p = x ≡ token.Sign sign.CloseRound
KindSpot kind.OpenSquare x p = x ≡ token.Sign sign.OpenSquare
KindSpot kind.CloseSquare x p = x ≡ token.Sign sign.CloseSquare
KindSpot kind.Comma x p = x ≡ token.Sign sign.Comma
KindSpot kind.Dot x p = x ≡ token.Sign sign.Dot
KindSpot kind.Not x p = x ≡ token.Sign sign.Not
KindSpot (kind.Op op) x p = x ≡ token.Sign (op_sign op)
KindSpot kind.Other x p = Unit {0}

word_spot : (w : Word) (p : Place) → KindSpot (word_kind w) (token.Word w) p
word_spot word.Yes p = ((λ m d. record { marked = node_word d word.Yes p ∷ []; rule = truth p; is = refl; keeps = λ n h. (((λ l. omega (arith, h l)), tt), tt) }), tt)
word_spot word.No p = ((λ m d. record { marked = node_word d word.No p ∷ []; rule = falsehood p; is = refl; keeps = λ n h. (((λ l. omega (arith, h l)), tt), tt) }), tt)
word_spot word.Void p = refl
word_spot _ p = tt

sign_is : (s : Sign) (p : Place) → KindSpot (sign_kind s) (token.Sign s) p
sign_is sign.OpenRound p = refl
sign_is sign.CloseRound p = refl
sign_is sign.OpenSquare p = refl
sign_is sign.CloseSquare p = refl
sign_is sign.Less p = refl
sign_is sign.Greater p = refl
sign_is sign.Comma p = refl
sign_is sign.Dot p = refl
sign_is sign.Equal p = refl
sign_is sign.NotEqual p = refl
sign_is sign.LessEqual p = refl
sign_is sign.GreaterEqual p = refl
sign_is sign.AndAnd p = refl
sign_is sign.OrOr p = refl
sign_is sign.Not p = refl
sign_is sign.Plus p = refl
sign_is sign.Minus p = refl
sign_is sign.Star p = refl
sign_is sign.Slash p = refl
sign_is sign.Percent p = refl
sign_is _ p = tt

pub kind_spot : (x : Token) (p : Place) → KindSpot (kind_of x) x p
kind_spot (token.Name n) p = refl
kind_spot (token.Number n) p = ((λ m d. record { marked = opens (Node d ∷ []) (token.Number n) p ∷ []; rule = number n p; is = refl; keeps = λ i h. (((λ l. omega (arith, h l)), tt), tt) }), tt)
kind_spot (token.Text t) p = ((λ m d. record { marked = opens (Node d ∷ []) (token.Text t) p ∷ []; rule = text t p; is = refl; keeps = λ i h. (((λ l. omega (arith, h l)), tt), tt) }), tt)
kind_spot (token.Word w) p = word_spot w p
kind_spot (token.Sign s) p = sign_is s p
