-- With each token that a type or an expression may begin with, one begins; and below the greatest
-- depth none does.
use Rattle.std.proofs.Common.{◌≡◌, ℕ, zero, suc, ◌+◌, ◌≤◌, ◌<◌, List, [], ◌∷◌, ◌++◌, length, take, drop, refl, sym, ap, subst, arith, true, false}
use Rattle.flow_tree.specs.declared.limits.Limits.{Limits}
use Rattle.flow_base.specs.declared.place.Place.{Place}
use Rattle.flow_tree.specs.declared.fault.Rule.TheVariants as rule
use Rattle.flow_tree.specs.declared.fault.SourceFault.TheVariants.{Refused}
use Rattle.flow_tree.specs.declared.token.Token.{Token}
use Rattle.flow_tree.specs.declared.token.Token.TheVariants as token
use Rattle.flow_tree.specs.declared.token.Word.TheVariants as word
use Rattle.flow_tree.specs.declared.token.Sign.TheVariants as sign
use Rattle.flow_tree.specs.declared.token.Spot.{Spot}
use Rattle.flow_tree.specs.declared.token.Tokens.{Tokens}
use Rattle.flow_tree.specs.Tree.{IntType, BoolType, StringType, VoidType, ErrorType, NamedType, FutureType, FutureStreamType, PromiseType, PromiseStreamType, VectorType, ExprTree, IntExpr, TextExpr, BoolExpr, VoidExpr, VarExpr, NotExpr, NegExpr, ParenExpr}
use Rattle.flow_tree.specs.GrammarToken.{Node, Marked, opens, begin, AllInLimitsOf, GoodOf}
use Rattle.flow_tree.specs.GrammarAnswer.{place_at}
use Rattle.flow_tree.specs.Grammar.{TypeRule, int_type, bool_type, string_type, void_type, error_type, named_type, wrapped_type, FutureOf, FutureStreamOf, PromiseOf, PromiseStreamOf, VectorOf, ExprRule, number, text, truth, falsehood, void, variable, call, paren, field, method, index, negation, minus, binary}
use Rattle.flow_exprs.proofs.Goes.{nowhere}
use Rattle.flow_parse.specs.Failing.{Sees, Fails}
use Rattle.flow_parse.specs.Reading.{token_at}
use Rattle.flow_parse.specs.Follow.{ExprEnds}
use Rattle.flow_parse.specs.Openers.{AsFirst, ExprToken, TypeToken}
use Rattle.flow_parse.proofs.Looking.{first_of}
use Rattle.flow_parse.proofs.Leaves.{next_is}
use Rattle.flow_parse.proofs.Inhabitants.{some_expr}

-- one token, read of a part
pub one_token : (limits : Limits) → {A : Type 0} {R : List Marked → A → Type 0} (m d : ℕ) (x : Token) (p : Place) (ts : List Spot) (rest : List Marked) (a : A) → (5 ≤ m → d ≤ 64)
    → R (opens (Node d ∷ []) x p ∷ rest) a → GoodOf limits R m (take 1 (record { token = x; at = p } ∷ ts))
one_token limits m d x p ts rest a k r = record { read = opens (Node d ∷ []) x p ∷ []; rest = rest; tree = a; rule = r; is = refl; keeps = ((k, tt), tt) }

module _ (limits : Limits) (m d : ℕ) (k : 5 ≤ m → d ≤ 64) where
  type_with : (x : Token) (p : Place) (ts : List Spot) → TypeToken x → GoodOf limits (TypeRule d) m (take 1 (record { token = x; at = p } ∷ ts))
  type_with (token.Name n) p ts h = one_token limits m d (token.Name n) p ts [] (NamedType n) k (named_type (record { name = n; at = p }))
  type_with (token.Word word.Int) p ts h = one_token limits m d (token.Word word.Int) p ts [] IntType k (int_type p)
  type_with (token.Word word.Bool) p ts h = one_token limits m d (token.Word word.Bool) p ts [] BoolType k (bool_type p)
  type_with (token.Word word.Str) p ts h = one_token limits m d (token.Word word.Str) p ts [] StringType k (string_type p)
  type_with (token.Word word.Void) p ts h = one_token limits m d (token.Word word.Void) p ts [] VoidType k (void_type p)
  type_with (token.Word word.Error) p ts h = one_token limits m d (token.Word word.Error) p ts [] ErrorType k (error_type p)
  type_with (token.Word word.Future) p ts h = one_token limits m d (token.Word word.Future) p ts _ (FutureType IntType) k (wrapped_type FutureOf p nowhere nowhere _ (int_type nowhere) refl)
  type_with (token.Word word.FutureStream) p ts h = one_token limits m d (token.Word word.FutureStream) p ts _ (FutureStreamType IntType) k
      (wrapped_type FutureStreamOf p nowhere nowhere _ (int_type nowhere) refl)
  type_with (token.Word word.Promise) p ts h = one_token limits m d (token.Word word.Promise) p ts _ (PromiseType IntType) k (wrapped_type PromiseOf p nowhere nowhere _ (int_type nowhere) refl)
  type_with (token.Word word.PromiseStream) p ts h = one_token limits m d (token.Word word.PromiseStream) p ts _ (PromiseStreamType IntType) k
      (wrapped_type PromiseStreamOf p nowhere nowhere _ (int_type nowhere) refl)
  type_with (token.Word word.Vector) p ts h = one_token limits m d (token.Word word.Vector) p ts _ (VectorType IntType) k (wrapped_type VectorOf p nowhere nowhere _ (int_type nowhere) refl)
  type_with _ p ts h = absurd h

  expr_with : (x : Token) (p : Place) (ts : List Spot) → ExprToken x → GoodOf limits (ExprRule 0 d) m (take 1 (record { token = x; at = p } ∷ ts))
  expr_with (token.Number n) p ts h = one_token limits m d (token.Number n) p ts [] (IntExpr n) k (number n p)
  expr_with (token.Text t) p ts h = one_token limits m d (token.Text t) p ts [] (TextExpr t) k (text t p)
  expr_with (token.Name n) p ts h = one_token limits m d (token.Name n) p ts [] (VarExpr (record { name = n; at = p })) k (variable (record { name = n; at = p }))
  expr_with (token.Word word.Yes) p ts h = one_token limits m d (token.Word word.Yes) p ts [] (BoolExpr true) k (truth p)
  expr_with (token.Word word.No) p ts h = one_token limits m d (token.Word word.No) p ts [] (BoolExpr false) k (falsehood p)
  expr_with (token.Word word.Void) p ts h = one_token limits m d (token.Word word.Void) p ts _ VoidExpr k (void p nowhere nowhere)
  expr_with (token.Sign sign.OpenRound) p ts h = one_token limits m d (token.Sign sign.OpenRound) p ts _ (ParenExpr VoidExpr) k (paren p nowhere _ (void nowhere nowhere nowhere) refl)
  expr_with (token.Sign sign.Not) p ts h = one_token limits m d (token.Sign sign.Not) p ts _ (NotExpr VoidExpr) k (negation p _ (omega arith) (void nowhere nowhere nowhere) refl)
  expr_with (token.Sign sign.Minus) p ts h = one_token limits m d (token.Sign sign.Minus) p ts _ (NegExpr VoidExpr) k (minus p _ (omega arith) (void nowhere nowhere nowhere) refl)
  expr_with _ p ts h = absurd h

  pub type_opens : (ts : List Spot) → AsFirst TypeToken (first_of ts) → GoodOf limits (TypeRule d) m (take 1 ts)
  type_opens [] h = absurd h
  type_opens (x ∷ ts) h = type_with x.token x.at ts h

  pub expr_opens : (ts : List Spot) → AsFirst ExprToken (first_of ts) → GoodOf limits (ExprRule 0 d) m (take 1 ts)
  expr_opens [] h = absurd h
  expr_opens (x ∷ ts) h = expr_with x.token x.at ts h

-- an expression is a node of its depth
abbrev Deep : (limits : Limits) → ℕ → List Marked → Type 0
Deep limits d [] = ⊥
Deep limits d (x ∷ xs) = AllInLimitsOf limits 5 x.parts → d ≤ 64

deep_is : (limits : Limits) (d : ℕ) (ps : List Marked) (x : Marked) {w : List Marked} → w ≡ x ∷ ps → (AllInLimitsOf limits 5 x.parts → d ≤ 64) → Deep limits d w
deep_is limits d ps x e h = subst (Deep limits d) (sym e) h

deep_begin : (limits : Limits) (d j : ℕ) (of rest : List Marked) {w : List Marked} → w ≡ begin (Node d) of ++ rest → Deep limits j of → Deep limits d w
deep_begin limits d j [] rest e h = absurd h
deep_begin limits d j (x ∷ xs) rest e h = subst (Deep limits d) (sym e) (λ l. l.0 (omega arith))

expr_deep : (limits : Limits) → {k d : ℕ} {w : List Marked} {e : ExprTree} → ExprRule k d w e → Deep limits d w
expr_deep limits (number n p) = λ l. l.0 (omega arith)
expr_deep limits (text t p) = λ l. l.0 (omega arith)
expr_deep limits (truth p) = λ l. l.0 (omega arith)
expr_deep limits (falsehood p) = λ l. l.0 (omega arith)
expr_deep limits (void p q r) = λ l. l.0 (omega arith)
expr_deep limits (variable x) = λ l. l.0 (omega arith)
expr_deep limits {d = d} (call f p q args a e) = deep_is limits d _ _ e (λ l. l.0 (omega arith))
expr_deep limits {d = d} (paren p q of r e) = deep_is limits d _ _ e (λ l. l.0 (omega arith))
expr_deep limits {d = d} (field p x of r e) = deep_begin limits d (suc d) of _ e (expr_deep limits r)
expr_deep limits {d = d} (method p q r f of args t a e) = deep_begin limits d (suc d) of _ e (expr_deep limits t)
expr_deep limits {d = d} (index p q of at t i e) = deep_begin limits d (suc d) of _ e (expr_deep limits t)
expr_deep limits {d = d} (negation p of h r e) = deep_is limits d _ _ e (λ l. l.0 (omega arith))
expr_deep limits {d = d} (minus p of h r e) = deep_is limits d _ _ e (λ l. l.0 (omega arith))
expr_deep limits {d = d} (binary op p left right h a b e) = deep_begin limits d (suc d) left _ e (expr_deep limits a)

deep_never : (limits : Limits) (d : ℕ) (ts : List Spot) (w z : List Marked) → 64 < d → Deep limits d w → Sees limits 5 1 ts (w ++ z) → ⊥
deep_never limits d ts [] z h k s = k
deep_never limits d [] (x ∷ w) z h k s = s
deep_never limits d (t ∷ ts) (x ∷ w) z h k s = omega (arith, k s.1)

-- an expression could begin here, but too deep
pub expr_beyond : (limits : Limits) (t : Tokens) (at d : ℕ) → 64 < d → at < length t.spots.items → AsFirst ExprToken (token_at t.spots.items at)
    → Fails limits (ExprRule 0 d) ExprEnds t at (Refused (rule.L 5) (place_at t at))
expr_beyond limits t at d h lt f =
    let ts = drop at t.spots.items in
    let o = subst (AsFirst ExprToken) (sym (next_is t.spots.items at)) f in
    let any = some_expr d in
    let e : at ≡ at + 0 = omega arith in (
      omega arith,
      omega arith,
      record {
        number = 0;
        place = ap (place_at t) e;
        stops = record {
          within = omega arith;
          token = λ l. omega (arith, length_drop_some t.spots.items at lt);
          bad = λ w z b r g s. deep_never limits d ts w z h (expr_deep limits r) s;
          good = record { read = []; rest = any.marked; tree = any.tree; rule = any.rule; is = refl; keeps = tt };
          below = λ m l k. expr_opens limits m d (λ i. absurd (omega arith)) ts o;
        };
      },
    )
  where
    length_drop_some : (xs : List Spot) (i : ℕ) → i < length xs → 0 < length (drop i xs)
    length_drop_some [] i l = absurd (omega arith)
    length_drop_some (x ∷ xs) zero l = omega arith
    length_drop_some (x ∷ xs) (suc i) l = length_drop_some xs i (omega arith)
