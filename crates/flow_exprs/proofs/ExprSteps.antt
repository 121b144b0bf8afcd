-- The steps of the functions that read expressions against the machine's.
use Rattle.std.proofs.Common.{◌≡◌, ℕ, zero, suc, ◌+◌, ◌≤◌, ◌<◌, max, List, [], ◌∷◌, ◌++◌, length, drop, refl, sym, ap, ◌∙◌, subst, arith, Bool, true, false, cond, ◌⊎◌, inl, inr, slice_get, add-one}
use Rattle.std.specs.Prelude.{nat_lt, nat_le, ◌&&◌}
use Rattle.std.specs.Option.{option_map}
use Rattle.std.specs.declared.option.Option.{Option}
use Rattle.std.specs.declared.option.Option.TheVariants.{None, Some}
use Rattle.std.proofs.lemmas.Option.{slice_get_within}
use Rattle.std.proofs.lemmas.Bool.{cases_lt}
use Rattle.flow_base.specs.declared.place.Place.{Place}
use Rattle.flow_tree.specs.declared.token.Token.{Token}
use Rattle.flow_tree.specs.declared.token.Token.TheVariants as token
use Rattle.flow_tree.specs.declared.token.Word.{Word}
use Rattle.flow_tree.specs.declared.token.Word.TheVariants as word
use Rattle.flow_tree.specs.declared.token.Sign.{Sign}
use Rattle.flow_tree.specs.declared.token.Sign.TheVariants as sign
use Rattle.flow_tree.specs.declared.token.Spot.{Spot}
use Rattle.flow_tree.specs.declared.expr.Op.{Op}
use Rattle.flow_tree.specs.declared.expr.Op.TheVariants.{Sub}
use Rattle.flow_tree.specs.declared.ty.Ident.{Ident}
use Rattle.flow_tree.specs.Tree.{ByName, indexed, ExprTree, ExprTrees, IntExpr, TextExpr, BoolExpr, VoidExpr, VarExpr, CallExpr, FieldExpr, MethodExpr, NotExpr, NegExpr, BinaryExpr, ParenExpr, NoExprs, MoreExprs}
use Rattle.flow_tree.specs.declared.expr.Expr.{Expr}
use Rattle.flow_tree.specs.View.{expr_of, exprs_of}
use Rattle.flow_tree.specs.declared.token.Tokens.{Tokens}
use Rattle.flow_tree.specs.declared.fault.SourceFault.{SourceFault}
use Rattle.std.specs.Prelude.{Err}
use Rattle.flow_tree.specs.GrammarAnswer.{place_at, ReaderAnswer}
use Rattle.flow_tree.specs.Grammar.{level, ExprRule}
use Rattle.flow_exprs.specs.declared.kind.Kind.{Kind}
use Rattle.flow_exprs.specs.declared.kind.Kind.TheVariants as kind
use Rattle.flow_exprs.specs.declared.stop.Stop.{Stop}
use Rattle.flow_exprs.specs.declared.stop.Stop.TheVariants.{Short, Deep, NoMemory}
use Rattle.flow_exprs.specs.Kinds.{kind_of, sign_kind, kind_at}
use Rattle.flow_exprs.specs.Machine.{leaf, word_leaf, name_bytes, ident, Head, Function, Method, called, Unary, Negation, Minus, unary, Stack, Top, InParen, InUnary, InTwo, InArgs, InIndex, State, Want, Have, WantArgs, WantName, WantOpen, WantClose, Dead, push, closed_stack, step_kind, step, height, heights, head_height, hole, fits_stack, fits, Outcome, Ended, ShortAt, DeepAt, halt, turn, run, Below}
use Rattle.flow_exprs.specs.Answer.{NotCallable, KindStops, Stops, Fit, ReadsExpr, Extends, ReadsArgs, Ends, Refuses, RefusesArgs, next_op, leaf_of_word, leaf_of, leaf_in, leaf_at, ident_of, ident_in, ident_at, NoSign, RefusalIs}
use Rattle.flow_exprs.proofs.Sound.{heights_push, called_height, height_some}
use Rattle.flow_exprs.proofs.Steps.{nat_lt_ge, level_small}
use Rattle.flow_exprs.proofs.Goes.{Alive}
use Rattle.flow_exprs.proofs.Complete.{open_dead, two_step, unary_step, open_tree, open_stack, below_more, kind_stops_more, args_want, NotClose}
use Rattle.flow_exprs.proofs.Fits.{and_true}
use Rattle.flow_exprs.proofs.Outcomes.{turn_alive, short_missing, deep_refused}

pub not_true : false ≡ true → ⊥
not_true h = cc

abbrev pub first : List Spot → Option Spot
first [] = None
first (x ∷ xs) = Some x

pub first_drop : (xs : List Spot) (i : ℕ) → first (drop i xs) ≡ slice_get xs i
first_drop [] zero = refl
first_drop [] (suc i) = refl
first_drop (x ∷ xs) zero = refl
first_drop (x ∷ xs) (suc i) = first_drop xs i

pub drop_some : (xs : List Spot) (i : ℕ) (x : Spot) → slice_get xs i ≡ Some x → drop i xs ≡ x ∷ drop (i + 1) xs
drop_some [] i x h = absurd (cc)
drop_some (y ∷ ys) zero x h = let e : y ≡ x = cc in ap (λ z. z ∷ ys) e
drop_some (y ∷ ys) (suc i) x h = let e : suc (i + 1) ≡ suc i + 1 = omega arith in drop_some ys i x h ∙ ap (λ n. x ∷ drop n (y ∷ ys)) e

pub and_false : (a b : ℕ) (c : Bool) → b < a → nat_le a b && c ≡ false
and_false a b c h = grind arith

record Here (spots : List Spot) (i : ℕ) (k : Kind) : Type 0 where
  spot : Spot
  is : slice_get spots i ≡ Some spot
  kind_is : kind_of spot.token ≡ k

here_in : (o : Option Spot) (k : Kind) → option_map (λ s. kind_of s.token) o ≡ Some k → (x : Spot) × (o ≡ Some x) × (kind_of x.token ≡ k)
here_in None k h = absurd (cc)
here_in (Some x) k h = (x, refl, cc)

here : (spots : List Spot) (i : ℕ) (k : Kind) → kind_at spots i ≡ Some k → Here spots i k
here spots i k h = let r = here_in (slice_get spots i) k h in record { spot = r.0; is = r.1; kind_is = r.2 }

pub ends_is : (o p : Outcome) (s : Stop) → o ≡ p → Ends p s → Ends o s
ends_is o p (Short k) e h = e ∙ h
ends_is o p (Deep k) e h = e ∙ h
ends_is o p NoMemory e h = tt

module _ (spots : List Spot) where
  -- one token
  one : (i : ℕ) (S : State) (x : Spot) → slice_get spots i ≡ Some x → run i S (drop i spots) ≡ turn i S (step S x) (run (i + 1) (step S x) (drop (i + 1) spots))
  one i S x h = ap (λ z. run i S z) (drop_some spots i x h) ∙ ap (λ n. turn i S (step S x) (run n (step S x) (drop (i + 1) spots))) (sym (add-one i))

  one_kind : (i : ℕ) (S : State) (k : Kind) → kind_at spots i ≡ Some k
      → (x : Spot) × (slice_get spots i ≡ Some x) × (run i S (drop i spots) ≡ turn i S (step_kind S k x) (run (i + 1) (step_kind S k x) (drop (i + 1) spots)))
  one_kind i S k h =
      let r = here spots i k h in
      (r.spot, r.is, one i S r.spot r.is ∙ ap (λ q. turn i S (step_kind S q r.spot) (run (i + 1) (step_kind S q r.spot) (drop (i + 1) spots))) r.kind_is)

  go : (i : ℕ) (S T : State) (k : Kind) → kind_at spots i ≡ Some k → ((x : Spot) → slice_get spots i ≡ Some x → step_kind S k x ≡ T) → Alive T → fits T ≡ true
      → run i S (drop i spots) ≡ run (i + 1) T (drop (i + 1) spots)
  go i S T k h t a f =
      let r = one_kind i S k h in
      r.2 ∙ ap (λ Q. turn i S Q (run (i + 1) Q (drop (i + 1) spots))) (t r.0 r.1) ∙ turn_alive i S T (run (i + 1) T (drop (i + 1) spots)) a
      ∙ ap (λ b. cond b (run (i + 1) T (drop (i + 1) spots)) (DeepAt i)) f

  deep : (i : ℕ) (S : State) (k : Kind) → kind_at spots i ≡ Some k → ((x : Spot) → Alive (step_kind S k x) × (fits (step_kind S k x) ≡ false)) → run i S (drop i spots) ≡ DeepAt i
  deep i S k h t =
      let r = one_kind i S k h in
      let T = step_kind S k r.0 in
      r.2 ∙ turn_alive i S T (run (i + 1) T (drop (i + 1) spots)) (t r.0).0 ∙ ap (λ b. cond b (run (i + 1) T (drop (i + 1) spots)) (DeepAt i)) (t r.0).1

  halt_in : (i : ℕ) (S : State) (rest : List Spot) → ((x : Spot) → first rest ≡ Some x → step S x ≡ Dead) → run i S rest ≡ halt i S
  halt_in i S [] t = refl
  halt_in i S (x ∷ xs) t = ap (λ Q. turn i S Q (run (suc i) (step S x) xs)) (t x refl)

  some_kind : (i : ℕ) (x : Spot) → first (drop i spots) ≡ Some x → kind_at spots i ≡ Some (kind_of x.token)
  some_kind i x h = ap (option_map (λ s. kind_of s.token)) (sym (first_drop spots i) ∙ h)

  stuck : (i : ℕ) (S : State) → ((k : Kind) (x : Spot) → kind_at spots i ≡ Some k → step_kind S k x ≡ Dead) → run i S (drop i spots) ≡ halt i S
  stuck i S t = halt_in i S (drop i spots) (λ x h. t (kind_of x.token) x (some_kind i x h))

  kind_none : (i : ℕ) (k : Kind) → kind_at spots i ≡ None → kind_at spots i ≡ Some k → ⊥
  kind_none i k a b = let e : None ≡ Some k = sym a ∙ b in none_some k e
    where
      none_some : (k : Kind) → None ≡ Some k → ⊥
      none_some k h = cc

  pub kind_within : (i : ℕ) (k : Kind) → kind_at spots i ≡ Some k → i < length spots
  kind_within i k h = let r = here spots i k h in slice_get_within spots i r.spot r.is

  -- an operand that begins too deep
  abbrev pub Begins : Kind → Type 0
  Begins kind.Leaf = Unit {0}
  Begins kind.Name = Unit {0}
  Begins kind.Void = Unit {0}
  Begins kind.Open = Unit {0}
  Begins kind.Not = Unit {0}
  Begins (kind.Op Sub) = Unit {0}
  Begins _ = ⊥

  begins_deep : (k : Kind) (K : Stack) (x : Spot) → Begins k → 64 < hole K → Alive (step_kind (Want K) k x) × (fits (step_kind (Want K) k x) ≡ false)
  begins_deep kind.Leaf K x b h = (tt, and_false (hole K + height (leaf x.token)) 65 (fits_stack K) (omega (arith, height_some (leaf x.token))))
  begins_deep kind.Name K x b h = (tt, and_false (hole K + 1) 65 (fits_stack K) (omega arith))
  begins_deep kind.Void K x b h = (tt, and_false (hole K) 64 (fits_stack K) h)
  begins_deep kind.Open K x b h = (tt, and_false (hole K) 64 (fits_stack K) h)
  begins_deep kind.Not K x b h = (tt, and_false (hole K) 64 (fits_stack K) h)
  begins_deep (kind.Op Sub) K x b h = (tt, and_false (hole K) 64 (fits_stack K) h)
  begins_deep (kind.Op _) K x b h = absurd b
  begins_deep kind.Close K x b h = absurd b
  begins_deep kind.OpenSquare K x b h = absurd b
  begins_deep kind.CloseSquare K x b h = absurd b
  begins_deep kind.Comma K x b h = absurd b
  begins_deep kind.Dot K x b h = absurd b
  begins_deep kind.Other K x b h = absurd b

  pub too_deep : (i n d : ℕ) (k : Kind) → kind_at spots i ≡ Some k → Begins k → 64 < d → Refuses spots i n d (Deep i)
  too_deep i n d k h b lt K f = deep i (Want K) k h (λ x. begins_deep k K x b (omega (arith, f.depth_is)))

  -- nothing begins here
  none_begins : (k : Kind) (K : Stack) (x : Spot) → NoSign k → (Begins k → ⊥) → step_kind (Want K) k x ≡ Dead
  none_begins kind.Leaf K x s b = absurd (b tt)
  none_begins kind.Name K x s b = absurd (b tt)
  none_begins kind.Void K x s b = absurd (b tt)
  none_begins kind.Open K x s b = absurd (b tt)
  none_begins kind.Not K x s b = absurd s
  none_begins (kind.Op Sub) K x s b = absurd s
  none_begins (kind.Op _) K x s b = refl
  none_begins kind.Close K x s b = refl
  none_begins kind.OpenSquare K x s b = refl
  none_begins kind.CloseSquare K x s b = refl
  none_begins kind.Comma K x s b = refl
  none_begins kind.Dot K x s b = refl
  none_begins kind.Other K x s b = refl

  some_same : (j k : Kind) → Some j ≡ Some k → j ≡ k
  some_same j k h = cc

  pub no_operand : (i n d : ℕ) (k : Kind) → kind_at spots i ≡ Some k → NoSign k → (Begins k → ⊥) → Refuses spots i n d (Short i)
  no_operand i n d k h s b K f = stuck i (Want K) (λ q x e. subst (λ w. step_kind (Want K) w x ≡ Dead) (some_same k q (sym h ∙ e)) (none_begins k K x s b))

  pub at_the_end : (i n d : ℕ) → kind_at spots i ≡ None → Refuses spots i n d (Short i)
  at_the_end i n d h K f = stuck i (Want K) (λ q x e. absurd (kind_none i q h e))

  -- what follows an expression
  stops_eight : (t : ExprTree) (o : Option Kind) → (o ≡ Some kind.Open → NotCallable t) → Stops 8 t o
  stops_eight t None c = tt
  stops_eight t (Some kind.Open) c = c refl
  stops_eight t (Some (kind.Op op)) c = omega (arith, level_small op)
  stops_eight t (Some kind.Dot) c = omega arith
  stops_eight t (Some kind.OpenSquare) c = omega arith
  stops_eight t (Some kind.CloseSquare) c = tt
  stops_eight t (Some kind.Leaf) c = tt
  stops_eight t (Some kind.Name) c = tt
  stops_eight t (Some kind.Void) c = tt
  stops_eight t (Some kind.Close) c = tt
  stops_eight t (Some kind.Comma) c = tt
  stops_eight t (Some kind.Not) c = tt
  stops_eight t (Some kind.Other) c = tt

  stops_seven : (t : ExprTree) (o : Option Kind) → Stops 8 t o → (o ≡ Some kind.Dot → ⊥) → (o ≡ Some kind.OpenSquare → ⊥) → Stops 7 t o
  stops_seven t None s c q = tt
  stops_seven t (Some kind.Open) s c q = s
  stops_seven t (Some (kind.Op op)) s c q = omega (arith, level_small op)
  stops_seven t (Some kind.Dot) s c q = absurd (c refl)
  stops_seven t (Some kind.OpenSquare) s c q = absurd (q refl)
  stops_seven t (Some kind.CloseSquare) s c q = tt
  stops_seven t (Some kind.Leaf) s c q = tt
  stops_seven t (Some kind.Name) s c q = tt
  stops_seven t (Some kind.Void) s c q = tt
  stops_seven t (Some kind.Close) s c q = tt
  stops_seven t (Some kind.Comma) s c q = tt
  stops_seven t (Some kind.Not) s c q = tt
  stops_seven t (Some kind.Other) s c q = tt

  some_none : (op : Op) → Some op ≡ None → ⊥
  some_none op h = cc

  stops_least : (n : ℕ) (t : ExprTree) (o : Option Kind) → n ≤ 6 → Stops 7 t o → next_op n o ≡ None → Stops n t o
  stops_least n t None le s h = tt
  stops_least n t (Some (kind.Op op)) le s h =
      elim (cases_lt (level op) n) [
        | inl l ↦ l
        | inr g ↦ absurd (some_none op (sym (ap (λ b. cond b None (Some op)) (nat_lt_ge (level op) n g)) ∙ h))
      ]
  stops_least n t (Some kind.Dot) le s h = absurd (omega arith)
  stops_least n t (Some kind.OpenSquare) le s h = absurd (omega arith)
  stops_least n t (Some kind.CloseSquare) le s h = tt
  stops_least n t (Some kind.Open) le s h = s
  stops_least n t (Some kind.Leaf) le s h = tt
  stops_least n t (Some kind.Name) le s h = tt
  stops_least n t (Some kind.Void) le s h = tt
  stops_least n t (Some kind.Close) le s h = tt
  stops_least n t (Some kind.Comma) le s h = tt
  stops_least n t (Some kind.Not) le s h = tt
  stops_least n t (Some kind.Other) le s h = tt

  cond_op : (b : Bool) (p q : Op) → cond b None (Some q) ≡ Some p → (b ≡ false) × (q ≡ p)
  cond_op true p q h = absurd (cc)
  cond_op false p q h = (refl, cc)

  pub op_is : (n : ℕ) (o : Option Kind) (op : Op) → next_op n o ≡ Some op → (o ≡ Some (kind.Op op)) × (n ≤ level op)
  op_is n None op h = absurd (cc)
  op_is n (Some (kind.Op q)) op h = let c = cond_op (nat_lt (level q) n) op q h in (ap (λ x. Some (kind.Op x)) c.1, grind (arith, c.0, c.1))
  op_is n (Some kind.Dot) op h = absurd (cc)
  op_is n (Some kind.Open) op h = absurd (cc)
  op_is n (Some kind.Leaf) op h = absurd (cc)
  op_is n (Some kind.Name) op h = absurd (cc)
  op_is n (Some kind.Void) op h = absurd (cc)
  op_is n (Some kind.Close) op h = absurd (cc)
  op_is n (Some kind.OpenSquare) op h = absurd (cc)
  op_is n (Some kind.CloseSquare) op h = absurd (cc)
  op_is n (Some kind.Comma) op h = absurd (cc)
  op_is n (Some kind.Not) op h = absurd (cc)
  op_is n (Some kind.Other) op h = absurd (cc)

  -- one token by itself
  word_same : (w : Word) (t : ExprTree) → leaf_of_word w ≡ Some t → (word_leaf w ≡ t) × (height t ≡ 1) × NotCallable t
  word_same word.Yes t h = let e : BoolExpr true ≡ t = cc in (e, sym (ap height e), subst NotCallable e tt)
  word_same word.No t h = let e : BoolExpr false ≡ t = cc in (e, sym (ap height e), subst NotCallable e tt)
  word_same _ t h = absurd (cc)

  leaf_same : (x : Token) (t : ExprTree) → leaf_of x ≡ Some t → (leaf x ≡ t) × (height t ≡ 1) × NotCallable t
  leaf_same (token.Number n) t h = let e : IntExpr n ≡ t = cc in (e, sym (ap height e), subst NotCallable e tt)
  leaf_same (token.Text b) t h = let e : TextExpr b ≡ t = cc in (e, sym (ap height e), subst NotCallable e tt)
  leaf_same (token.Word w) t h = word_same w t h
  leaf_same (token.Name n) t h = absurd (cc)
  leaf_same (token.Sign s) t h = absurd (cc)

  leaf_is : (i : ℕ) (t : ExprTree) (x : Spot) → leaf_at spots i ≡ Some t → slice_get spots i ≡ Some x → leaf_of x.token ≡ Some t
  leaf_is i t x h e = sym (ap leaf_in e) ∙ h

  pub leaf_reads : (i d : ℕ) (t : ExprTree) → kind_at spots i ≡ Some kind.Leaf → leaf_at spots i ≡ Some t → d ≤ 64 → ReadsExpr spots i 6 d 8 t 1 (i + 1)
  leaf_reads i d t h l le =
      let r = here spots i kind.Leaf h in
      let s = leaf_same r.spot.token t (leaf_is i t r.spot l r.is) in
      record {
        after = omega arith;
        within = omega (arith, kind_within i kind.Leaf h);
        high_is = sym s.1;
        fits_in = omega arith;
        comes = λ K f. go i (Want K) (Have t K) kind.Leaf h (λ x e. ap (λ w. Have w K) (leaf_same x.token t (leaf_is i t x l e)).0) tt
            (and_true (hole K + height t) 65 (fits_stack K) (omega (arith, f.depth_is, s.1)) f.fits_is);
        stops = stops_eight t (kind_at spots (i + 1)) (λ e. s.2);
      }

  name_leaf : kind.Name ≡ kind.Leaf → ⊥
  name_leaf h = cc

  leaf_name : kind.Leaf ≡ kind.Name → ⊥
  leaf_name h = cc

  token_some : (x : Token) → kind_of x ≡ kind.Leaf → leaf_of x ≡ None → ⊥
  token_some (token.Number n) k h = cc
  token_some (token.Text b) k h = cc
  token_some (token.Word w) k h = word_some w k h
    where
      word_some : (w : Word) → kind_of (token.Word w) ≡ kind.Leaf → leaf_of_word w ≡ None → ⊥
      word_some word.Yes k h = cc
      word_some word.No k h = cc
      word_some word.Void k h = cc
      word_some _ k h = cc
  token_some (token.Name n) k h = name_leaf k
  token_some (token.Sign s) k h = sign_some s k
    where
      sign_some : (s : Sign) → sign_kind s ≡ kind.Leaf → ⊥
      sign_some sign.OpenRound k = cc
      sign_some _ k = cc

  pub leaf_some : (i : ℕ) → kind_at spots i ≡ Some kind.Leaf → leaf_at spots i ≡ None → ⊥
  leaf_some i h l = let r = here spots i kind.Leaf h in token_some r.spot.token r.kind_is (sym (ap leaf_in r.is) ∙ l)

  pub void_reads : (i d : ℕ) → kind_at spots i ≡ Some kind.Void → kind_at spots (i + 1) ≡ Some kind.Open → kind_at spots (i + 2) ≡ Some kind.Close → d ≤ 64 → ReadsExpr spots i 6 d 8 VoidExpr 1 (i + 3)
  void_reads i d a b c le =
      let e1 : i + 1 + 1 ≡ i + 2 = omega arith in
      let e2 : i + 2 + 1 ≡ i + 3 = omega arith in
      record {
        after = omega arith;
        within = omega (arith, kind_within (i + 2) kind.Close c);
        high_is = refl;
        fits_in = omega arith;
        comes = λ K f.
            go i (Want K) (WantOpen K) kind.Void a (λ x e. refl) tt (and_true (hole K) 64 (fits_stack K) (omega (arith, f.depth_is)) f.fits_is)
            ∙ go (i + 1) (WantOpen K) (WantClose K) kind.Open b (λ x e. refl) tt (and_true (hole K) 64 (fits_stack K) (omega (arith, f.depth_is)) f.fits_is)
            ∙ ap (λ n. run n (WantClose K) (drop n spots)) e1
            ∙ go (i + 2) (WantClose K) (Have VoidExpr K) kind.Close c (λ x e. refl) tt (and_true (hole K + 1) 65 (fits_stack K) (omega (arith, f.depth_is)) f.fits_is)
            ∙ ap (λ n. run n (Have VoidExpr K) (drop n spots)) e2;
        stops = stops_eight VoidExpr (kind_at spots (i + 3)) (λ e. tt);
      }

  open_only : (K : Stack) (k : Kind) (x : Spot) → (k ≡ kind.Open → ⊥) → step_kind (WantOpen K) k x ≡ Dead
  open_only K kind.Open x h = absurd (h refl)
  open_only K _ x h = refl

  close_only : (K : Stack) (k : Kind) (x : Spot) → (k ≡ kind.Close → ⊥) → step_kind (WantClose K) k x ≡ Dead
  close_only K kind.Close x h = absurd (h refl)
  close_only K _ x h = refl

  name_only : (t : ExprTree) (K : Stack) (k : Kind) (x : Spot) → (k ≡ kind.Name → ⊥) → step_kind (WantName t K) k x ≡ Dead
  name_only t K kind.Name x h = absurd (h refl)
  name_only t K _ x h = refl

  not_kind : (i : ℕ) (j k : Kind) → (kind_at spots i ≡ Some j → ⊥) → kind_at spots i ≡ Some k → k ≡ j → ⊥
  not_kind i j k differs h e = differs (h ∙ ap (λ q. Some q) e)

  pub void_no_open : (i d : ℕ) → kind_at spots i ≡ Some kind.Void → (kind_at spots (i + 1) ≡ Some kind.Open → ⊥) → d ≤ 64 → Refuses spots i 6 d (Short (i + 1))
  void_no_open i d a b le K f =
      go i (Want K) (WantOpen K) kind.Void a (λ x e. refl) tt (and_true (hole K) 64 (fits_stack K) (omega (arith, f.depth_is)) f.fits_is)
      ∙ stuck (i + 1) (WantOpen K) (λ k x e. open_only K k x (not_kind (i + 1) kind.Open k b e))

  pub void_no_close : (i d : ℕ) → kind_at spots i ≡ Some kind.Void → kind_at spots (i + 1) ≡ Some kind.Open → (kind_at spots (i + 2) ≡ Some kind.Close → ⊥) → d ≤ 64
      → Refuses spots i 6 d (Short (i + 2))
  void_no_close i d a b c le K f =
      let e1 : i + 1 + 1 ≡ i + 2 = omega arith in
      go i (Want K) (WantOpen K) kind.Void a (λ x e. refl) tt (and_true (hole K) 64 (fits_stack K) (omega (arith, f.depth_is)) f.fits_is)
      ∙ go (i + 1) (WantOpen K) (WantClose K) kind.Open b (λ x e. refl) tt (and_true (hole K) 64 (fits_stack K) (omega (arith, f.depth_is)) f.fits_is)
      ∙ ap (λ n. run n (WantClose K) (drop n spots)) e1
      ∙ stuck (i + 2) (WantClose K) (λ k x e. close_only K k x (not_kind (i + 2) kind.Close k c e))

  -- names and calls
  token_ident : (x : Token) (p : Place) (v : Ident) → ident_of x p ≡ Some v → record { name = name_bytes x; at = p } ≡ v
  token_ident (token.Name n) p v h = cc
  token_ident (token.Number n) p v h = absurd (cc)
  token_ident (token.Text b) p v h = absurd (cc)
  token_ident (token.Word w) p v h = absurd (cc)
  token_ident (token.Sign s) p v h = absurd (cc)

  ident_is : (i : ℕ) (v : Ident) (x : Spot) → ident_at spots i ≡ Some v → slice_get spots i ≡ Some x → ident x ≡ v
  ident_is i v x h e = token_ident x.token x.at v (sym (ap ident_in e) ∙ h)

  token_name : (x : Token) (p : Place) (v : Ident) → ident_of x p ≡ Some v → kind_of x ≡ kind.Name
  token_name (token.Name n) p v h = refl
  token_name (token.Number n) p v h = absurd (cc)
  token_name (token.Text b) p v h = absurd (cc)
  token_name (token.Word w) p v h = absurd (cc)
  token_name (token.Sign s) p v h = absurd (cc)

  in_name : (o : Option Spot) (v : Ident) → ident_in o ≡ Some v → option_map (λ s. kind_of s.token) o ≡ Some kind.Name
  in_name None v h = absurd (cc)
  in_name (Some x) v h = ap (λ k. Some k) (token_name x.token x.at v h)

  pub name_kind : (i : ℕ) (v : Ident) → ident_at spots i ≡ Some v → kind_at spots i ≡ Some kind.Name
  name_kind i v h = in_name (slice_get spots i) v h

  token_no_name : (x : Token) (p : Place) → ident_of x p ≡ None → kind_of x ≡ kind.Name → ⊥
  token_no_name (token.Name n) p h k = cc
  token_no_name (token.Number n) p h k = leaf_name k
  token_no_name (token.Text b) p h k = leaf_name k
  token_no_name (token.Word w) p h k = word_no w k
    where
      word_no : (w : Word) → kind_of (token.Word w) ≡ kind.Name → ⊥
      word_no word.Yes k = cc
      word_no _ k = cc
  token_no_name (token.Sign s) p h k = sign_no s k
    where
      sign_no : (s : Sign) → sign_kind s ≡ kind.Name → ⊥
      sign_no sign.OpenRound k = cc
      sign_no _ k = cc

  pub no_name : (i : ℕ) → ident_at spots i ≡ None → kind_at spots i ≡ Some kind.Name → ⊥
  no_name i h k = let r = here spots i kind.Name k in token_no_name r.spot.token r.spot.at (sym (ap ident_in r.is) ∙ h) r.kind_is

  name_comes : (i d : ℕ) (v : Ident) (K : Stack) → ident_at spots i ≡ Some v → d ≤ 64 → hole K ≡ d → fits_stack K ≡ true
      → run i (Want K) (drop i spots) ≡ run (i + 1) (Have (VarExpr v) K) (drop (i + 1) spots)
  name_comes i d v K h le hd fs = go i (Want K) (Have (VarExpr v) K) kind.Name (name_kind i v h) (λ x e. ap (λ w. Have (VarExpr w) K) (ident_is i v x h e)) tt
      (and_true (hole K + 1) 65 (fits_stack K) (omega arith) fs)

  pub name_reads : (i d : ℕ) (v : Ident) → ident_at spots i ≡ Some v → (kind_at spots (i + 1) ≡ Some kind.Open → ⊥) → d ≤ 64 → ReadsExpr spots i 6 d 8 (VarExpr v) 1 (i + 1)
  name_reads i d v h differs le = record {
    after = omega arith;
    within = omega (arith, kind_within i kind.Name (name_kind i v h));
    high_is = refl;
    fits_in = omega arith;
    comes = λ K f. name_comes i d v K h le f.depth_is f.fits_is;
    stops = stops_eight (VarExpr v) (kind_at spots (i + 1)) differs;
  }

  call_comes : (i d : ℕ) (v : Ident) (K : Stack) → ident_at spots i ≡ Some v → kind_at spots (i + 1) ≡ Some kind.Open → d ≤ 64 → hole K ≡ d → fits_stack K ≡ true
      → run i (Want K) (drop i spots) ≡ run (i + 2) (WantArgs (Function v) K) (drop (i + 2) spots)
  call_comes i d v K h o le hd fs =
      let e1 : i + 1 + 1 ≡ i + 2 = omega arith in
      name_comes i d v K h le hd fs
      ∙ go (i + 1) (Have (VarExpr v) K) (WantArgs (Function v) K) kind.Open o (λ x e. refl) tt (and_true (hole K + 0) 64 (fits_stack K) (omega arith) fs)
      ∙ ap (λ n. run n (WantArgs (Function v) K) (drop n spots)) e1

  any_fit : (n m d : ℕ) (K : Stack) → m ≤ n → Fit m d K → Fit n d K
  any_fit n m d K le f = record { below = below_more m n K f.below le; depth_is = f.depth_is; fits_is = f.fits_is }

  pub call_reads : (i d : ℕ) (v : Ident) (ts : ExprTrees) (high to : ℕ) → ident_at spots i ≡ Some v → kind_at spots (i + 1) ≡ Some kind.Open → d ≤ 64 → ReadsArgs spots (i + 2) d ts high to
      → ReadsExpr spots i 6 d 8 (CallExpr v ts) (high + 1) to
  call_reads i d v ts high to h o le r = record {
    after = omega (arith, r.after);
    within = r.within;
    high_is = omega (arith, r.high_is);
    fits_in = omega (arith, r.fits_in);
    comes = λ K f. call_comes i d v K h o le f.depth_is f.fits_is ∙ r.comes (Function v) K (any_fit 7 6 d K (omega arith) f) (omega arith);
    stops = stops_eight (CallExpr v ts) (kind_at spots to) (λ e. tt);
  }

  pub call_refused : (i d : ℕ) (v : Ident) (s : Stop) → ident_at spots i ≡ Some v → kind_at spots (i + 1) ≡ Some kind.Open → d ≤ 64 → RefusesArgs spots (i + 2) d s → Refuses spots i 6 d s
  call_refused i d v s h o le r K f = ends_is (run i (Want K) (drop i spots)) (run (i + 2) (WantArgs (Function v) K) (drop (i + 2) spots)) s (call_comes i d v K h o le f.depth_is f.fits_is)
      (r (Function v) K (any_fit 7 6 d K (omega arith) f) (omega arith))

  -- brackets
  bracket_comes : (i d : ℕ) (K : Stack) → kind_at spots i ≡ Some kind.Open → d ≤ 64 → hole K ≡ d → fits_stack K ≡ true
      → run i (Want K) (drop i spots) ≡ run (i + 1) (Want (InParen K)) (drop (i + 1) spots)
  bracket_comes i d K h le hd fs = go i (Want K) (Want (InParen K)) kind.Open h (λ x e. refl) tt (and_true (hole K) 64 (fits_stack K) (omega arith) fs)

  paren_fit : (d : ℕ) (K : Stack) → d ≤ 64 → hole K ≡ d → fits_stack K ≡ true → Fit 0 (d + 1) (InParen K)
  paren_fit d K le hd fs = record { below = tt; depth_is = omega arith; fits_is = and_true (hole K) 64 (fits_stack K) (omega arith) fs }

  pub bracket_reads : (i d : ℕ) (t : ExprTree) (high to : ℕ) → kind_at spots i ≡ Some kind.Open → d ≤ 64 → ReadsExpr spots (i + 1) 0 (d + 1) 0 t high to → kind_at spots to ≡ Some kind.Close
      → ReadsExpr spots i 6 d 8 (ParenExpr t) (high + 1) (to + 1)
  bracket_reads i d t high to h le r c = record {
    after = omega (arith, r.after);
    within = omega (arith, kind_within to kind.Close c);
    high_is = omega (arith, r.high_is);
    fits_in = omega (arith, r.fits_in);
    comes = λ K f. bracket_comes i d K h le f.depth_is f.fits_is ∙ r.comes (InParen K) (paren_fit d K le f.depth_is f.fits_is)
        ∙ go to (Have t (InParen K)) (Have (ParenExpr t) K) kind.Close c (λ x e. refl) tt
        (and_true (hole K + suc (height t)) 65 (fits_stack K) (omega (arith, r.high_is, r.fits_in, f.depth_is)) f.fits_is);
    stops = stops_eight (ParenExpr t) (kind_at spots (to + 1)) (λ e. tt);
  }

  pub bracket_refused : (i d : ℕ) (s : Stop) → kind_at spots i ≡ Some kind.Open → d ≤ 64 → Refuses spots (i + 1) 0 (d + 1) s → Refuses spots i 6 d s
  bracket_refused i d s h le r K f = ends_is (run i (Want K) (drop i spots)) (run (i + 1) (Want (InParen K)) (drop (i + 1) spots)) s (bracket_comes i d K h le f.depth_is f.fits_is)
      (r (InParen K) (paren_fit d K le f.depth_is f.fits_is))

  -- behind a whole expression only these go on
  base_stuck : (t : ExprTree) (K : Stack) (k : Kind) (x : Spot) → KindStops 0 t k → (k ≡ kind.Close → ⊥) → step_kind (Have t (InParen K)) k x ≡ Dead
  base_stuck t K kind.Close x s c = absurd (c refl)
  base_stuck t K kind.Open x s c = open_dead t (InParen K) s
  base_stuck t K kind.Dot x s c = absurd (omega arith)
  base_stuck t K kind.OpenSquare x s c = absurd (omega arith)
  base_stuck t K (kind.Op op) x s c = absurd (omega arith)
  base_stuck t K _ x s c = refl

  stops_at : (n : ℕ) (t : ExprTree) (i : ℕ) (k : Kind) → Stops n t (kind_at spots i) → kind_at spots i ≡ Some k → KindStops n t k
  stops_at n t i k s e = subst (Stops n t) e s

  pub bracket_open : (i d : ℕ) (t : ExprTree) (high to : ℕ) → kind_at spots i ≡ Some kind.Open → d ≤ 64 → ReadsExpr spots (i + 1) 0 (d + 1) 0 t high to → (kind_at spots to ≡ Some kind.Close → ⊥)
      → Refuses spots i 6 d (Short to)
  bracket_open i d t high to h le r c K f =
      bracket_comes i d K h le f.depth_is f.fits_is ∙ r.comes (InParen K) (paren_fit d K le f.depth_is f.fits_is)
      ∙ stuck to (Have t (InParen K)) (λ k x e. base_stuck t K k x (stops_at 0 t to k r.stops e) (not_kind to kind.Close k c e))

  -- a sign before an operand
  unary_comes : (i d : ℕ) (u : Unary) (k : Kind) (K : Stack) → kind_at spots i ≡ Some k → ((x : Spot) → step_kind (Want K) k x ≡ Want (InUnary u K)) → d ≤ 64 → hole K ≡ d → fits_stack K ≡ true
      → run i (Want K) (drop i spots) ≡ run (i + 1) (Want (InUnary u K)) (drop (i + 1) spots)
  unary_comes i d u k K h s le hd fs = go i (Want K) (Want (InUnary u K)) k h (λ x e. s x) tt (and_true (hole K) 64 (fits_stack K) (omega arith) fs)

  unary_fit : (d : ℕ) (u : Unary) (K : Stack) → d ≤ 64 → hole K ≡ d → fits_stack K ≡ true → Fit 6 (d + 1) (InUnary u K)
  unary_fit d u K le hd fs = record { below = omega arith; depth_is = omega arith; fits_is = and_true (hole K) 64 (fits_stack K) (omega arith) fs }

  unary_ends : (j : ℕ) (u : Unary) (t : ExprTree) (K : Stack) (rest : List Spot) → Stops 7 t (option_map (λ s. kind_of s.token) (first rest))
      → run j (Have t (InUnary u K)) rest ≡ run j (Have (unary u t) K) rest
  unary_ends j u t K [] s = refl
  unary_ends j u t K (x ∷ xs) s = ap (λ Q. turn j (Have t (InUnary u K)) Q (run (suc j) Q xs)) (unary_step u t K (kind_of x.token) x s)

  first_is : (j : ℕ) → option_map (λ s. kind_of s.token) (first (drop j spots)) ≡ kind_at spots j
  first_is j = ap (option_map (λ s. kind_of s.token)) (first_drop spots j)

  unary_high : (u : Unary) (t : ExprTree) → height (unary u t) ≡ suc (height t)
  unary_high Negation t = refl
  unary_high Minus t = refl

  unary_bare : (u : Unary) (t : ExprTree) → NotCallable (unary u t)
  unary_bare Negation t = tt
  unary_bare Minus t = tt

  stops_bare : (m : ℕ) (t u : ExprTree) (o : Option Kind) → NotCallable u → Stops m t o → Stops m u o
  stops_bare m t u None b s = tt
  stops_bare m t u (Some k) b s = kind_stops_more m m t u k (omega arith) (λ c. b) s

  unary_reads : (i d : ℕ) (u : Unary) (k : Kind) (t : ExprTree) (high to : ℕ) → kind_at spots i ≡ Some k → ((K : Stack) (x : Spot) → step_kind (Want K) k x ≡ Want (InUnary u K)) → d ≤ 64
      → ReadsExpr spots (i + 1) 6 (d + 1) 7 t high to → ReadsExpr spots i 6 d 7 (unary u t) (high + 1) to
  unary_reads i d u k t high to h s le r = record {
    after = omega (arith, r.after);
    within = r.within;
    high_is = omega (arith, r.high_is, unary_high u t);
    fits_in = omega (arith, r.fits_in);
    comes = λ K f. unary_comes i d u k K h (s K) le f.depth_is f.fits_is ∙ r.comes (InUnary u K) (unary_fit d u K le f.depth_is f.fits_is)
        ∙ unary_ends to u t K (drop to spots) (subst (Stops 7 t) (sym (first_is to)) r.stops);
    stops = stops_bare 7 t (unary u t) (kind_at spots to) (unary_bare u t) r.stops;
  }

  pub not_reads : (i d : ℕ) (t : ExprTree) (high to : ℕ) → kind_at spots i ≡ Some kind.Not → d ≤ 64 → ReadsExpr spots (i + 1) 6 (d + 1) 7 t high to → ReadsExpr spots i 6 d 7 (NotExpr t) (high + 1) to
  not_reads i d t high to h le r = unary_reads i d Negation kind.Not t high to h (λ K x. refl) le r

  pub minus_reads : (i d : ℕ) (t : ExprTree) (high to : ℕ) → kind_at spots i ≡ Some (kind.Op Sub) → d ≤ 64 → ReadsExpr spots (i + 1) 6 (d + 1) 7 t high to
      → ReadsExpr spots i 6 d 7 (NegExpr t) (high + 1) to
  minus_reads i d t high to h le r = unary_reads i d Minus (kind.Op Sub) t high to h (λ K x. refl) le r

  pub not_refused : (i d : ℕ) (s : Stop) → kind_at spots i ≡ Some kind.Not → d ≤ 64 → Refuses spots (i + 1) 6 (d + 1) s → Refuses spots i 6 d s
  not_refused i d s h le r K f = ends_is (run i (Want K) (drop i spots)) (run (i + 1) (Want (InUnary Negation K)) (drop (i + 1) spots)) s
      (unary_comes i d Negation kind.Not K h (λ x. refl) le f.depth_is f.fits_is) (r (InUnary Negation K) (unary_fit d Negation K le f.depth_is f.fits_is))

  pub minus_refused : (i d : ℕ) (s : Stop) → kind_at spots i ≡ Some (kind.Op Sub) → d ≤ 64 → Refuses spots (i + 1) 6 (d + 1) s → Refuses spots i 6 d s
  minus_refused i d s h le r K f = ends_is (run i (Want K) (drop i spots)) (run (i + 1) (Want (InUnary Minus K)) (drop (i + 1) spots)) s
      (unary_comes i d Minus (kind.Op Sub) K h (λ x. refl) le f.depth_is f.fits_is) (r (InUnary Minus K) (unary_fit d Minus K le f.depth_is f.fits_is))

  -- a dot behind an expression
  dot_comes : (j d : ℕ) (t : ExprTree) (K : Stack) → kind_at spots j ≡ Some kind.Dot → d + height t ≤ 64 → hole K ≡ d → fits_stack K ≡ true
      → run j (Have t K) (drop j spots) ≡ run (j + 1) (WantName t K) (drop (j + 1) spots)
  dot_comes j d t K h le hd fs = go j (Have t K) (WantName t K) kind.Dot h (λ x e. refl) tt (and_true (hole K + height t) 64 (fits_stack K) (omega arith) fs)

  pub dot_deep : (j d : ℕ) (t : ExprTree) (K : Stack) → kind_at spots j ≡ Some kind.Dot → 64 < d + height t → hole K ≡ d → run j (Have t K) (drop j spots) ≡ DeepAt j
  dot_deep j d t K h lt hd = deep j (Have t K) kind.Dot h (λ x. (tt, and_false (hole K + height t) 64 (fits_stack K) (omega arith)))

  pub dot_short : (j d : ℕ) (t : ExprTree) (K : Stack) → kind_at spots j ≡ Some kind.Dot → d + height t ≤ 64 → hole K ≡ d → fits_stack K ≡ true → ident_at spots (j + 1) ≡ None
      → run j (Have t K) (drop j spots) ≡ ShortAt (j + 1)
  dot_short j d t K h le hd fs differs = dot_comes j d t K h le hd fs ∙ stuck (j + 1) (WantName t K) (λ k x e. name_only t K k x (not_kind (j + 1) kind.Name k (no_name (j + 1) differs) e))

  field_comes : (j d : ℕ) (t : ExprTree) (v : Ident) (K : Stack) → kind_at spots j ≡ Some kind.Dot → d + height t ≤ 64 → ident_at spots (j + 1) ≡ Some v → hole K ≡ d → fits_stack K ≡ true
      → run j (Have t K) (drop j spots) ≡ run (j + 2) (Have (FieldExpr t v) K) (drop (j + 2) spots)
  field_comes j d t v K h le n hd fs =
      let e1 : j + 1 + 1 ≡ j + 2 = omega arith in
      dot_comes j d t K h le hd fs
      ∙ go (j + 1) (WantName t K) (Have (FieldExpr t v) K) kind.Name (name_kind (j + 1) v n) (λ x e. ap (λ w. Have (FieldExpr t w) K) (ident_is (j + 1) v x n e)) tt
      (and_true (hole K + suc (height t)) 65 (fits_stack K) (omega arith) fs)
      ∙ ap (λ m. run m (Have (FieldExpr t v) K) (drop m spots)) e1

  pub field_goes : (j d : ℕ) (t : ExprTree) (high : ℕ) (v : Ident) → kind_at spots j ≡ Some kind.Dot → high ≡ height t → d + high ≤ 64 → ident_at spots (j + 1) ≡ Some v
      → (kind_at spots (j + 2) ≡ Some kind.Open → ⊥) → Extends spots t j 6 d 8 (FieldExpr t v) (high + 1) (j + 2)
  field_goes j d t high v h hi le n differs = record {
    after = omega arith;
    within = omega (arith, kind_within (j + 1) kind.Name (name_kind (j + 1) v n));
    high_is = omega arith;
    fits_in = omega arith;
    comes = λ K f. field_comes j d t v K h (omega arith) n f.depth_is f.fits_is;
    stops = stops_eight (FieldExpr t v) (kind_at spots (j + 2)) differs;
  }

  method_comes : (j d : ℕ) (t : ExprTree) (v : Ident) (K : Stack) → kind_at spots j ≡ Some kind.Dot → d + height t ≤ 64 → ident_at spots (j + 1) ≡ Some v → kind_at spots (j + 2) ≡ Some kind.Open
      → hole K ≡ d → fits_stack K ≡ true → run j (Have t K) (drop j spots) ≡ run (j + 3) (WantArgs (Method t v) K) (drop (j + 3) spots)
  method_comes j d t v K h le n o hd fs =
      let e1 : j + 2 + 1 ≡ j + 3 = omega arith in
      field_comes j d t v K h le n hd fs
      ∙ go (j + 2) (Have (FieldExpr t v) K) (WantArgs (Method t v) K) kind.Open o (λ x e. refl) tt (and_true (hole K + height t) 64 (fits_stack K) (omega arith) fs)
      ∙ ap (λ m. run m (WantArgs (Method t v) K) (drop m spots)) e1

  pub method_goes : (j d : ℕ) (t : ExprTree) (high : ℕ) (v : Ident) (ts : ExprTrees) (wide to : ℕ) → kind_at spots j ≡ Some kind.Dot → high ≡ height t → d + high ≤ 64 → ident_at spots (j + 1) ≡ Some v
      → kind_at spots (j + 2) ≡ Some kind.Open → ReadsArgs spots (j + 3) d ts wide to → Extends spots t j 6 d 8 (MethodExpr t (ByName v) ts) (max high wide + 1) to
  method_goes j d t high v ts wide to h hi le n o r = record {
    after = omega (arith, r.after);
    within = r.within;
    high_is = omega (arith, r.high_is);
    fits_in = omega (arith, r.fits_in);
    comes = λ K f. method_comes j d t v K h (omega arith) n o f.depth_is f.fits_is ∙ r.comes (Method t v) K (any_fit 7 6 d K (omega arith) f) (omega arith);
    stops = stops_eight (MethodExpr t (ByName v) ts) (kind_at spots to) (λ e. tt);
  }

  pub method_refused : (j d : ℕ) (t : ExprTree) (v : Ident) (s : Stop) (K : Stack) → kind_at spots j ≡ Some kind.Dot → d + height t ≤ 64 → ident_at spots (j + 1) ≡ Some v
      → kind_at spots (j + 2) ≡ Some kind.Open → RefusesArgs spots (j + 3) d s → Fit 6 d K → Ends (run j (Have t K) (drop j spots)) s
  method_refused j d t v s K h le n o r f = ends_is (run j (Have t K) (drop j spots)) (run (j + 3) (WantArgs (Method t v) K) (drop (j + 3) spots)) s
      (method_comes j d t v K h le n o f.depth_is f.fits_is) (r (Method t v) K (any_fit 7 6 d K (omega arith) f) (omega arith))

  -- an index behind an expression
  square_comes : (j d : ℕ) (t : ExprTree) (K : Stack) → kind_at spots j ≡ Some kind.OpenSquare → d + height t ≤ 64 → hole K ≡ d → fits_stack K ≡ true
      → run j (Have t K) (drop j spots) ≡ run (j + 1) (Want (InIndex t K)) (drop (j + 1) spots)
  square_comes j d t K h le hd fs = go j (Have t K) (Want (InIndex t K)) kind.OpenSquare h (λ x e. refl) tt (and_true (hole K + height t) 64 (fits_stack K) (omega arith) fs)

  pub square_deep : (j d : ℕ) (t : ExprTree) (K : Stack) → kind_at spots j ≡ Some kind.OpenSquare → 64 < d + height t → hole K ≡ d → run j (Have t K) (drop j spots) ≡ DeepAt j
  square_deep j d t K h lt hd = deep j (Have t K) kind.OpenSquare h (λ x. (tt, and_false (hole K + height t) 64 (fits_stack K) (omega arith)))

  index_fit : (d : ℕ) (t : ExprTree) (K : Stack) → d + height t ≤ 64 → Fit 6 d K → Fit 0 (d + 1) (InIndex t K)
  index_fit d t K le f = record { below = tt; depth_is = omega (arith, f.depth_is); fits_is = and_true (hole K + height t) 64 (fits_stack K) (omega (arith, f.depth_is)) f.fits_is }

  index_stuck : (l t : ExprTree) (K : Stack) (k : Kind) (x : Spot) → KindStops 0 t k → (k ≡ kind.CloseSquare → ⊥) → step_kind (Have t (InIndex l K)) k x ≡ Dead
  index_stuck l t K kind.CloseSquare x s c = absurd (c refl)
  index_stuck l t K kind.Open x s c = open_dead t (InIndex l K) s
  index_stuck l t K kind.Dot x s c = absurd (omega arith)
  index_stuck l t K kind.OpenSquare x s c = absurd (omega arith)
  index_stuck l t K (kind.Op op) x s c = absurd (omega arith)
  index_stuck l t K _ x s c = refl

  pub index_refused : (j d : ℕ) (t : ExprTree) (s : Stop) (K : Stack) → kind_at spots j ≡ Some kind.OpenSquare → d + height t ≤ 64 → Refuses spots (j + 1) 0 (d + 1) s → Fit 6 d K
      → Ends (run j (Have t K) (drop j spots)) s
  index_refused j d t s K h le r f = ends_is (run j (Have t K) (drop j spots)) (run (j + 1) (Want (InIndex t K)) (drop (j + 1) spots)) s
      (square_comes j d t K h le f.depth_is f.fits_is) (r (InIndex t K) (index_fit d t K le f))

  pub index_open : (j d : ℕ) (t u : ExprTree) (wide to : ℕ) (K : Stack) → kind_at spots j ≡ Some kind.OpenSquare → d + height t ≤ 64 → ReadsExpr spots (j + 1) 0 (d + 1) 0 u wide to
      → (kind_at spots to ≡ Some kind.CloseSquare → ⊥) → Fit 6 d K → run j (Have t K) (drop j spots) ≡ ShortAt to
  index_open j d t u wide to K h le r c f =
      square_comes j d t K h le f.depth_is f.fits_is ∙ r.comes (InIndex t K) (index_fit d t K le f)
      ∙ stuck to (Have u (InIndex t K)) (λ k x e. index_stuck t u K k x (stops_at 0 u to k r.stops e) (not_kind to kind.CloseSquare k c e))

  pub index_goes : (j d : ℕ) (t u : ExprTree) (high wide to : ℕ) → kind_at spots j ≡ Some kind.OpenSquare → high ≡ height t → d + high ≤ 64 → ReadsExpr spots (j + 1) 0 (d + 1) 0 u wide to
      → kind_at spots to ≡ Some kind.CloseSquare → Extends spots t j 6 d 8 (indexed t u) (max high wide + 1) (to + 1)
  index_goes j d t u high wide to h hi le r c = record {
    after = omega (arith, r.after);
    within = omega (arith, kind_within to kind.CloseSquare c);
    high_is = omega (arith, r.high_is);
    fits_in = omega (arith, r.fits_in);
    comes = λ K f. square_comes j d t K h (omega arith) f.depth_is f.fits_is ∙ r.comes (InIndex t K) (index_fit d t K (omega arith) f)
        ∙ go to (Have u (InIndex t K)) (Have (indexed t u) K) kind.CloseSquare c (λ x e. refl) tt
        (and_true (hole K + height (indexed t u)) 65 (fits_stack K) (omega (arith, r.high_is, r.fits_in, f.depth_is)) f.fits_is);
    stops = stops_eight (indexed t u) (kind_at spots (to + 1)) (λ e. tt);
  }

  -- a sign behind an operand
  sign_is : (op : Op) (t : ExprTree) (K : Stack) (x : Spot) → Below (level op) K → step_kind (Have t K) (kind.Op op) x ≡ Want (InTwo op t K)
  sign_is op t K x b = ap (λ w. Want (InTwo op w (closed_stack (level op) K))) (open_tree (level op) t K (level_small op) b)
      ∙ ap (λ Q. Want (InTwo op t Q)) (open_stack (level op) K (level_small op) b)

  right_comes : (j d : ℕ) (op : Op) (t : ExprTree) (K : Stack) → kind_at spots j ≡ Some (kind.Op op) → d + height t ≤ 64 → Fit (level op) d K
      → run j (Have t K) (drop j spots) ≡ run (j + 1) (Want (InTwo op t K)) (drop (j + 1) spots)
  right_comes j d op t K h le f = go j (Have t K) (Want (InTwo op t K)) (kind.Op op) h (λ x e. sign_is op t K x f.below) tt
      (and_true (hole K + height t) 64 (fits_stack K) (omega (arith, f.depth_is)) f.fits_is)

  pub right_deep : (j d : ℕ) (op : Op) (t : ExprTree) (K : Stack) → kind_at spots j ≡ Some (kind.Op op) → 64 < d + height t → Fit (level op) d K → run j (Have t K) (drop j spots) ≡ DeepAt j
  right_deep j d op t K h lt f = deep j (Have t K) (kind.Op op) h (λ x. (tt, ap fits (sign_is op t K x f.below) ∙ and_false (hole K + height t) 64 (fits_stack K) (omega (arith, f.depth_is))))

  right_fit : (d : ℕ) (op : Op) (t : ExprTree) (K : Stack) → d + height t ≤ 64 → Fit (level op) d K → Fit (level op + 1) (d + 1) (InTwo op t K)
  right_fit d op t K le f = record { below = omega arith; depth_is = omega (arith, f.depth_is); fits_is = and_true (hole K + height t) 64 (fits_stack K) (omega (arith, f.depth_is)) f.fits_is }

  two_ends : (j : ℕ) (op : Op) (l r : ExprTree) (K : Stack) (rest : List Spot) → Stops (suc (level op)) r (option_map (λ s. kind_of s.token) (first rest))
      → run j (Have r (InTwo op l K)) rest ≡ run j (Have (BinaryExpr op l r) K) rest
  two_ends j op l r K [] s = rw (nat_lt_ge (level op) 0 (omega arith))
  two_ends j op l r K (x ∷ xs) s =
      ap (λ Q. turn j (Have r (InTwo op l K)) Q (run (suc j) Q xs)) (two_step op l r K (kind_of x.token) x s)
      ∙ same_turn (step (Have (BinaryExpr op l r) K) x) (run (suc j) (step (Have (BinaryExpr op l r) K) x) xs)
    where
      same_halt : halt j (Have r (InTwo op l K)) ≡ halt j (Have (BinaryExpr op l r) K)
      same_halt = rw (nat_lt_ge (level op) 0 (omega arith))

      same_turn : (Q : State) (o : Outcome) → turn j (Have r (InTwo op l K)) Q o ≡ turn j (Have (BinaryExpr op l r) K) Q o
      same_turn Dead o = same_halt
      same_turn _ o = refl

  pub right_goes : (j d : ℕ) (op : Op) (t u : ExprTree) (high wide to : ℕ) → kind_at spots j ≡ Some (kind.Op op) → high ≡ height t → d + high ≤ 64
      → ReadsExpr spots (j + 1) (level op + 1) (d + 1) (level op + 1) u wide to → Extends spots t j (level op) d 7 (BinaryExpr op t u) (max high wide + 1) to
  right_goes j d op t u high wide to h hi le r = record {
    after = omega (arith, r.after);
    within = r.within;
    high_is = omega (arith, r.high_is);
    fits_in = omega (arith, r.fits_in);
    comes = λ K f. right_comes j d op t K h (omega arith) f ∙ r.comes (InTwo op t K) (right_fit d op t K (omega arith) f)
        ∙ two_ends to op t u K (drop to spots) (subst (Stops (suc (level op)) u) (sym (first_is to)) (subst (λ n. Stops n u (kind_at spots to)) (add-one (level op)) r.stops));
    stops = stops_op u (kind_at spots to) r.stops;
  }
    where
      stops_op : (w : ExprTree) (o : Option Kind) → Stops (level op + 1) w o → Stops 7 (BinaryExpr op t u) o
      stops_op w None s = tt
      stops_op w (Some k) s = kind_stops_more (level op + 1) 7 w (BinaryExpr op t u) k (omega (arith, level_small op)) (λ c. tt) s

  pub right_refused : (j d : ℕ) (op : Op) (t : ExprTree) (s : Stop) (K : Stack) → kind_at spots j ≡ Some (kind.Op op) → d + height t ≤ 64 → Refuses spots (j + 1) (level op + 1) (d + 1) s
      → Fit (level op) d K → Ends (run j (Have t K) (drop j spots)) s
  right_refused j d op t s K h le r f = ends_is (run j (Have t K) (drop j spots)) (run (j + 1) (Want (InTwo op t K)) (drop (j + 1) spots)) s (right_comes j d op t K h le f)
      (r (InTwo op t K) (right_fit d op t K le f))

  -- going on
  pub goes_on : (i n m d k : ℕ) (t u : ExprTree) (high to wide end : ℕ) → n ≤ m → ReadsExpr spots i n d k t high to → Extends spots t to m d k u wide end → ReadsExpr spots i n d k u wide end
  goes_on i n m d k t u high to wide end le r g = record {
    after = omega (arith, r.after, g.after);
    within = g.within;
    high_is = g.high_is;
    fits_in = g.fits_in;
    comes = λ K f. r.comes K f ∙ g.comes K (any_fit m n d K le f);
    stops = g.stops;
  }

  pub goes_refused : (i n m d k : ℕ) (t : ExprTree) (high to : ℕ) (s : Stop) → n ≤ m → ReadsExpr spots i n d k t high to → ((K : Stack) → Fit m d K → Ends (run to (Have t K) (drop to spots)) s)
      → Refuses spots i n d s
  goes_refused i n m d k t high to s le r g K f = ends_is (run i (Want K) (drop i spots)) (run to (Have t K) (drop to spots)) s (r.comes K f) (g K (any_fit m n d K le f))

  pub looser : (i n m d k : ℕ) (t : ExprTree) (high to : ℕ) → n ≤ m → ReadsExpr spots i m d k t high to → ReadsExpr spots i n d k t high to
  looser i n m d k t high to le r = record { after = r.after; within = r.within; high_is = r.high_is; fits_in = r.fits_in; comes = λ K f. r.comes K (any_fit m n d K le f); stops = r.stops }

  pub looser_refused : (i n m d : ℕ) (s : Stop) → n ≤ m → Refuses spots i m d s → Refuses spots i n d s
  looser_refused i n m d s le r K f = r K (any_fit m n d K le f)

  pub no_op : (i n d : ℕ) (t : ExprTree) (high to : ℕ) → n ≤ 6 → ReadsExpr spots i n d 7 t high to → next_op n (kind_at spots to) ≡ None → ReadsExpr spots i n d n t high to
  no_op i n d t high to le r h = record { after = r.after; within = r.within; high_is = r.high_is; fits_in = r.fits_in; comes = r.comes; stops = stops_least n t (kind_at spots to) le r.stops h }

  pub no_suffix : (i d : ℕ) (t : ExprTree) (high to : ℕ) → ReadsExpr spots i 6 d 8 t high to → (kind_at spots to ≡ Some kind.Dot → ⊥) → (kind_at spots to ≡ Some kind.OpenSquare → ⊥)
      → ReadsExpr spots i 6 d 7 t high to
  no_suffix i d t high to r h q = record { after = r.after; within = r.within; high_is = r.high_is; fits_in = r.fits_in; comes = r.comes; stops = stops_seven t (kind_at spots to) r.stops h q }

  -- the arguments of a call
  pub record Args (i d : ℕ) (ts : ExprTrees) (high at : ℕ) : Type 0 where
    pub after : i ≤ at
    pub within : at ≤ length spots
    pub high_is : high ≡ heights ts
    pub fits_in : d + 1 + high ≤ 65
    pub comes : (h : Head) (K : Stack) → Fit 7 d K → d + head_height h ≤ 64 → run i (WantArgs h K) (drop i spots) ≡ run at (Want (InArgs h ts K)) (drop at spots)

  not_close : (k : Kind) → (k ≡ kind.Close → ⊥) → NotClose k
  not_close kind.Close h = h refl
  not_close _ h = tt

  args_first : (i : ℕ) (h : Head) (K : Stack) (rest : List Spot) → ((x : Spot) → first rest ≡ Some x → NotClose (kind_of x.token)) → run i (WantArgs h K) rest ≡ run i (Want (InArgs h NoExprs K)) rest
  args_first i h K [] n = refl
  args_first i h K (x ∷ xs) n = ap (λ Q. turn i (WantArgs h K) Q (run (suc i) Q xs)) (args_want h K (kind_of x.token) x (n x refl))
      ∙ same_turn (step (Want (InArgs h NoExprs K)) x) (run (suc i) (step (Want (InArgs h NoExprs K)) x) xs)
    where
      same_turn : (Q : State) (o : Outcome) → turn i (WantArgs h K) Q o ≡ turn i (Want (InArgs h NoExprs K)) Q o
      same_turn Dead o = refl
      same_turn _ o = refl

  pub args_begin : (i d : ℕ) → i ≤ length spots → d ≤ 64 → (kind_at spots i ≡ Some kind.Close → ⊥) → Args i d NoExprs 0 i
  args_begin i d w le differs = record {
    after = omega arith;
    within = w;
    high_is = refl;
    fits_in = omega arith;
    comes = λ h K f b. args_first i h K (drop i spots) (λ x e. not_close (kind_of x.token) (λ q. differs (some_kind i x e ∙ ap (λ z. Some z) q)));
  }

  pub args_none : (i d : ℕ) → d ≤ 64 → kind_at spots i ≡ Some kind.Close → ReadsArgs spots i d NoExprs 0 (i + 1)
  args_none i d le c = record {
    after = omega arith;
    within = omega (arith, kind_within i kind.Close c);
    high_is = refl;
    fits_in = omega arith;
    comes = λ h K f b. go i (WantArgs h K) (Have (called h NoExprs) K) kind.Close c (λ x e. refl) tt
        (and_true (hole K + height (called h NoExprs)) 65 (fits_stack K) (omega (arith, f.depth_is, called_height h NoExprs)) f.fits_is);
  }

  args_fit : (d : ℕ) (h : Head) (ts : ExprTrees) (high : ℕ) (K : Stack) → high ≡ heights ts → d + 1 + high ≤ 65 → d + head_height h ≤ 64 → Fit 7 d K → Fit 0 (d + 1) (InArgs h ts K)
  args_fit d h ts high K hi le b f = record {
    below = tt;
    depth_is = omega (arith, f.depth_is);
    fits_is = and_true (hole K + max (head_height h) (heights ts)) 64 (fits_stack K) (omega (arith, f.depth_is)) f.fits_is;
  }

  pub args_refused : (i d : ℕ) (ts : ExprTrees) (high at : ℕ) (s : Stop) → Args i d ts high at → Refuses spots at 0 (d + 1) s → RefusesArgs spots i d s
  args_refused i d ts high at s a r h K f b = ends_is (run i (WantArgs h K) (drop i spots)) (run at (Want (InArgs h ts K)) (drop at spots)) s (a.comes h K f b)
      (r (InArgs h ts K) (args_fit d h ts high K a.high_is a.fits_in b f))

  pub args_more : (i d : ℕ) (ts : ExprTrees) (high at : ℕ) (t : ExprTree) (wide to : ℕ) → Args i d ts high at → ReadsExpr spots at 0 (d + 1) 0 t wide to → kind_at spots to ≡ Some kind.Comma
      → Args i d (push ts t) (max high wide) (to + 1)
  args_more i d ts high at t wide to a r c = record {
    after = omega (arith, a.after, r.after);
    within = omega (arith, kind_within to kind.Comma c);
    high_is = omega (arith, a.high_is, r.high_is, heights_push ts t);
    fits_in = omega (arith, a.fits_in, r.fits_in);
    comes = λ h K f b.
        a.comes h K f b ∙ r.comes (InArgs h ts K) (args_fit d h ts high K a.high_is a.fits_in b f)
        ∙ go to (Have t (InArgs h ts K)) (Want (InArgs h (push ts t) K)) kind.Comma c (λ x e. refl) tt
        (and_true (hole K + max (head_height h) (heights (push ts t))) 64 (fits_stack K) (omega (arith, f.depth_is, a.high_is, a.fits_in, r.high_is, r.fits_in, heights_push ts t)) f.fits_is);
  }

  pub args_end : (i d : ℕ) (ts : ExprTrees) (high at : ℕ) (t : ExprTree) (wide to : ℕ) → Args i d ts high at → ReadsExpr spots at 0 (d + 1) 0 t wide to → kind_at spots to ≡ Some kind.Close
      → ReadsArgs spots i d (push ts t) (max high wide) (to + 1)
  args_end i d ts high at t wide to a r c = record {
    after = omega (arith, a.after, r.after);
    within = omega (arith, kind_within to kind.Close c);
    high_is = omega (arith, a.high_is, r.high_is, heights_push ts t);
    fits_in = omega (arith, a.fits_in, r.fits_in);
    comes = λ h K f b.
        a.comes h K f b ∙ r.comes (InArgs h ts K) (args_fit d h ts high K a.high_is a.fits_in b f)
        ∙ go to (Have t (InArgs h ts K)) (Have (called h (push ts t)) K) kind.Close c (λ x e. refl) tt
        (and_true (hole K + height (called h (push ts t))) 65 (fits_stack K) (omega (arith, f.depth_is, a.high_is, a.fits_in, r.high_is, r.fits_in, heights_push ts t, called_height h (push ts t)))
        f.fits_is);
  }

  args_stuck : (h : Head) (ts : ExprTrees) (t : ExprTree) (K : Stack) (k : Kind) (x : Spot) → KindStops 0 t k → (k ≡ kind.Close → ⊥) → (k ≡ kind.Comma → ⊥)
      → step_kind (Have t (InArgs h ts K)) k x ≡ Dead
  args_stuck h ts t K kind.Close x s c d = absurd (c refl)
  args_stuck h ts t K kind.Comma x s c d = absurd (d refl)
  args_stuck h ts t K kind.Open x s c d = open_dead t (InArgs h ts K) s
  args_stuck h ts t K kind.Dot x s c d = absurd (omega arith)
  args_stuck h ts t K kind.OpenSquare x s c d = absurd (omega arith)
  args_stuck h ts t K (kind.Op op) x s c d = absurd (omega arith)
  args_stuck h ts t K _ x s c d = refl

  pub args_bad : (i d : ℕ) (ts : ExprTrees) (high at : ℕ) (t : ExprTree) (wide to : ℕ) → Args i d ts high at → ReadsExpr spots at 0 (d + 1) 0 t wide to → (kind_at spots to ≡ Some kind.Close → ⊥)
      → (kind_at spots to ≡ Some kind.Comma → ⊥) → RefusesArgs spots i d (Short to)
  args_bad i d ts high at t wide to a r c m h K f b =
      a.comes h K f b ∙ r.comes (InArgs h ts K) (args_fit d h ts high K a.high_is a.fits_in b f)
      ∙ stuck to (Have t (InArgs h ts K)) (λ k x e. args_stuck h ts t K k x (stops_at 0 t to k r.stops e) (not_kind to kind.Close k c e) (not_kind to kind.Comma k m e))

pub exprs_push : (xs : List Expr) (x : Expr) → exprs_of (xs ++ x ∷ []) ≡ push (exprs_of xs) (expr_of x)
exprs_push [] x = refl
exprs_push (y ∷ ys) x = ap (MoreExprs (expr_of y)) (exprs_push ys x)

module _ (spots : List Spot) where
  pub args_more_is : (i d : ℕ) (ts : ExprTrees) (high at : ℕ) (t : ExprTree) (wide to : ℕ) (us : ExprTrees) (m : ℕ) → Args spots i d ts high at → ReadsExpr spots at 0 (d + 1) 0 t wide to
      → kind_at spots to ≡ Some kind.Comma → us ≡ push ts t → m ≡ max high wide → Args spots i d us m (to + 1)
  args_more_is i d ts high at t wide to us m a r c e f = subst (λ vs. Args spots i d vs m (to + 1)) (sym e)
      (subst (λ n. Args spots i d (push ts t) n (to + 1)) (sym f) (args_more spots i d ts high at t wide to a r c))

  pub args_end_is : (i d : ℕ) (ts : ExprTrees) (high at : ℕ) (t : ExprTree) (wide to : ℕ) (us : ExprTrees) (m : ℕ) → Args spots i d ts high at → ReadsExpr spots at 0 (d + 1) 0 t wide to
      → kind_at spots to ≡ Some kind.Close → us ≡ push ts t → m ≡ max high wide → ReadsArgs spots i d us m (to + 1)
  args_end_is i d ts high at t wide to us m a r c e f = subst (λ vs. ReadsArgs spots i d vs m (to + 1)) (sym e)
      (subst (λ n. ReadsArgs spots i d (push ts t) n (to + 1)) (sym f) (args_end spots i d ts high at t wide to a r c))

  pub reads_is : (i n d m : ℕ) (t u : ExprTree) (high to : ℕ) → u ≡ t → ReadsExpr spots i n d m t high to → ReadsExpr spots i n d m u high to
  reads_is i n d m t u high to e r = subst (λ w. ReadsExpr spots i n d m w high to) (sym e) r

  pub goes_is : (j n d m : ℕ) (t u v : ExprTree) (high wide to : ℕ) → u ≡ v → high ≡ wide → Extends spots t j n d m v wide to → Extends spots t j n d m u high to
  goes_is j n d m t u v high wide to e f g = subst (λ w. Extends spots t j n d m w high to) (sym e) (subst (λ h. Extends spots t j n d m v h to) (sym f) g)

  op_begins : (op : Op) → NoSign (kind.Op op) → Begins spots (kind.Op op) → ⊥
  op_begins Sub s b = s
  op_begins _ s b = b

  pub signs_refused : (i n d : ℕ) (k : Kind) → kind_at spots i ≡ Some k → NoSign k → ((k ≡ kind.Not) ⊎ ((op : Op) × (k ≡ kind.Op op))) → Refuses spots i n d (Short i)
  signs_refused i n d k h s e = no_operand spots i n d k h s (λ b. elim e [
    | inl q ↦ subst NoSign q s
    | inr w ↦ op_begins w.0 (subst NoSign w.1 s) (subst (Begins spots) w.1 b)
  ])

  pub others_refused : (i n d : ℕ) (k : Kind) → kind_at spots i ≡ Some k → NoSign k →
      ((k ≡ kind.Close) ⊎ ((k ≡ kind.OpenSquare) ⊎ ((k ≡ kind.CloseSquare) ⊎ ((k ≡ kind.Comma) ⊎ ((k ≡ kind.Dot) ⊎ (k ≡ kind.Other)))))) → Refuses spots i n d (Short i)
  others_refused i n d k h s e = no_operand spots i n d k h s (λ b. elim e [
    | inl q ↦ subst (Begins spots) q b
    | inr w ↦ elim w [
      | inl q ↦ subst (Begins spots) q b
      | inr v ↦ elim v [
        | inl q ↦ subst (Begins spots) q b
        | inr u ↦ elim u [
          | inl q ↦ subst (Begins spots) q b
          | inr y ↦ elim y [ inl q ↦ subst (Begins spots) q b | inr q ↦ subst (Begins spots) q b ]
        ]
      ]
    ]
  ])

  -- the whole
  top_stuck : (t : ExprTree) (d : ℕ) (k : Kind) (x : Spot) → KindStops 0 t k → step_kind (Have t (Top d)) k x ≡ Dead
  top_stuck t d kind.Open x s = open_dead t (Top d) s
  top_stuck t d kind.Dot x s = absurd (omega arith)
  top_stuck t d kind.OpenSquare x s = absurd (omega arith)
  top_stuck t d (kind.Op op) x s = absurd (omega arith)
  top_stuck t d _ x s = refl

  pub top_fit : (d : ℕ) → Fit 0 d (Top d)
  top_fit d = record { below = tt; depth_is = refl; fits_is = refl }

  pub top_ends : (i d : ℕ) (t : ExprTree) (high to : ℕ) → ReadsExpr spots i 0 d 0 t high to → run i (Want (Top d)) (drop i spots) ≡ Ended t to
  top_ends i d t high to r = r.comes (Top d) (top_fit d) ∙ stuck spots to (Have t (Top d)) (λ k x e. top_stuck t d k x (stops_at spots 0 t to k r.stops e))

pub refusal_answer : (t : Tokens) (from d : ℕ) (s : Stop) (e : SourceFault) → Refuses t.spots.items from 0 d s → RefusalIs t s e → ReaderAnswer (ExprRule 0 d) expr_of t from (Err e)
refusal_answer t from d (Short k) e r q = subst (λ x. ReaderAnswer (ExprRule 0 d) expr_of t from (Err x)) (sym q)
    (refl, short_missing t from d (place_at t k) k (r (Top d) (top_fit t.spots.items d)) refl)
refusal_answer t from d (Deep k) e r q = subst (λ x. ReaderAnswer (ExprRule 0 d) expr_of t from (Err x)) (sym q)
    (refl, deep_refused t from d (place_at t k) k (r (Top d) (top_fit t.spots.items d)) refl)
refusal_answer t from d NoMemory e r q = subst (λ x. ReaderAnswer (ExprRule 0 d) expr_of t from (Err x)) (sym q) tt
