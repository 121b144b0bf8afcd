-- How whole expressions are read.
use Rattle.std.proofs.Common.{◌≡◌, ℕ, zero, suc, ◌+◌, ◌-◌, ◌≤◌, ◌<◌, Bool, true, false, List, [], ◌∷◌, ◌++◌, length, take, drop, refl, sym, ap, ◌∙◌, subst, arith, length-append, length-drop, ◌⊎◌, inl, inr}
use Rattle.std.specs.Prelude.{Result, Ok, Err}
use Rattle.std.specs.declared.option.Option.{Option}
use Rattle.std.specs.declared.option.Option.TheVariants.{None, Some}
use Rattle.std.proofs.lemmas.List.{append-nil}
use Rattle.flow_base.specs.declared.place.Place.{Place}
use Rattle.flow_tree.specs.declared.limits.TheConstants.{OF_PROGRAMS, OF_CLASS_TEXT}
use Rattle.flow_tree.specs.declared.fault.Rule.TheVariants as rule
use Rattle.flow_tree.specs.declared.fault.SourceFault.{SourceFault}
use Rattle.flow_tree.specs.declared.fault.SourceFault.TheVariants.{Refused, AcrossWait, OutOfMemory}
use Rattle.flow_tree.specs.declared.expr.Expr.{Expr}
use Rattle.flow_tree.specs.declared.token.Token.{Token}
use Rattle.flow_tree.specs.declared.token.Token.TheVariants as token
use Rattle.flow_tree.specs.declared.token.Sign.TheVariants as sign
use Rattle.flow_tree.specs.declared.token.Spot.{Spot}
use Rattle.flow_tree.specs.declared.token.Tokens.{Tokens}
use Rattle.flow_tree.specs.Tree.{ExprTree}
use Rattle.flow_tree.specs.View.{expr_of}
use Rattle.flow_tree.specs.GrammarAnswer.{place_at}
use Rattle.flow_tree.specs.GrammarToken.{Marked, spots_of, KeepsOf, Good, GoodOf}
use Rattle.flow_tree.specs.Grammar.{ExprRule}
use Rattle.flow_tree.proofs.GrammarLists.{length_spots}
use Rattle.flow_exprs.proofs.Sound.{sign_spot}
use Rattle.flow_parse.specs.Failing.{Sees, Never, Stops, Fails}
use Rattle.flow_parse.specs.Follow.{ExprEnds}
use Rattle.flow_parse.specs.Reading.{token_at, Reads, Answer}
use Rattle.flow_parse.proofs.Leaves.{drop_drop}
use Rattle.flow_parse.proofs.Readers.{keeps_two, sees_next, expr_ends, three}
use Rattle.flow_classprint.specs.ClassGrammar.{WholeRule}
use Rattle.flow_classread.specs.Rising.{AreRising}
use Rattle.flow_classread.specs.Strays.{is_far, IsStray, NoStrays, IsFirstStray, Reaches}
use Rattle.flow_classread.proofs.FreeForms.{Opens, FreeMarks, is_dot, free_expr, expr_free}
use Rattle.flow_classread.proofs.Straying.{Dotted, dotted_first, dotted_next}
use Rattle.flow_classread.proofs.WholeForms.{EndsInDot, OpenSpots, FreeSpots, free_marks, whole_good, stray_good, shrink, opened, other_limits}

opens_or : (o : Option Token) → (o ≡ Some (token.Sign sign.OpenRound)) ⊎ (o ≡ Some (token.Sign sign.OpenRound) → ⊥)
opens_or None = inr (λ e. cc)
opens_or (Some (token.Sign sign.OpenRound)) = inl refl
opens_or (Some (token.Name m)) = inr (λ e. cc)
opens_or (Some (token.Number m)) = inr (λ e. cc)
opens_or (Some (token.Text m)) = inr (λ e. cc)
opens_or (Some (token.Word m)) = inr (λ e. cc)
opens_or (Some (token.Sign _)) = inr (λ e. cc)

dot_is : (t : Token) → is_dot t ≡ true → t ≡ token.Sign sign.Dot
dot_is (token.Sign sign.Dot) e = refl
dot_is (token.Name m) e = absurd (cc)
dot_is (token.Number m) e = absurd (cc)
dot_is (token.Text m) e = absurd (cc)
dot_is (token.Word m) e = absurd (cc)
dot_is (token.Sign _) e = absurd (cc)

far_name : (t : Token) → is_far (Some t) ≡ true → (m : List ℕ) × (t ≡ token.Name m)
far_name (token.Name m) e = (m, refl)
far_name (token.Number m) e = absurd (cc)
far_name (token.Text m) e = absurd (cc)
far_name (token.Word m) e = absurd (cc)
far_name (token.Sign m) e = absurd (cc)

-- the token of this number, and what stands behind it
record At (spots : List Spot) (k : ℕ) : Type 0 where
  spot : Spot
  is : drop k spots ≡ spot ∷ drop (suc k) spots
  token : token_at spots k ≡ Some spot.token

at_of : (spots : List Spot) (k : ℕ) → k < length spots → At spots k
at_of [] k h = absurd (omega (arith, h))
at_of (s ∷ spots) zero h = record { spot = s; is = refl; token = refl }
at_of (s ∷ spots) (suc k) h = let r = at_of spots k (omega (arith, h)) in record { spot = r.spot; is = r.is; token = r.token }

-- whether the last of these tokens is a dot
abbrev last_dot : Bool → List Spot → Bool
last_dot b [] = b
last_dot b (x ∷ xs) = last_dot (is_dot x.token) xs

last_dot_is : (b : Bool) (front : List Spot) (p : Place) → last_dot b (front ++ sign_spot sign.Dot p ∷ []) ≡ true
last_dot_is b [] p = refl
last_dot_is b (x ∷ front) p = last_dot_is (is_dot x.token) front p

no_dot : (pre : List Spot) → last_dot false pre ≡ false → EndsInDot pre → ⊥
no_dot pre e d = let f : false ≡ true = sym e ∙ ap (last_dot false) d.2 ∙ last_dot_is false d.0 d.1 in cc

-- the last token alone is a far name that no dot stands before; it is a stray if no bracket stands behind it
record LastStray (spots : List Spot) (from end : ℕ) (b : Bool) (toks : List Spot) : Type 0 where
  at : ℕ
  at_is : suc at ≡ end
  after : from ≤ at
  stray : (token_at spots (suc at) ≡ Some (token.Sign sign.OpenRound) → ⊥) → IsStray spots from at
  pre : List Spot
  last : Spot
  name : List ℕ
  is : toks ≡ pre ++ last ∷ []
  token : last.token ≡ token.Name name
  far : is_far (Some last.token) ≡ true
  undotted : last_dot b pre ≡ false
  free : FreeSpots b ((pre ++ last ∷ []) ++ sign_spot sign.OpenRound last.at ∷ [])

open_near : (b : Bool) (p : Place) → FreeSpots b (sign_spot sign.OpenRound p ∷ [])
open_near b p = ((λ e. absurd (cc)), tt)

module _ (spots : List Spot) (from : ℕ) where
  -- a token far and undotted, and no stray, has a bracket behind it
  bracket : (k : ℕ) (s : At spots k) → Dotted spots from k false → is_far (Some s.spot.token) ≡ true → (IsStray spots from k → ⊥) → token_at spots (suc k) ≡ Some (token.Sign sign.OpenRound)
  bracket k s d far nope = elim (opens_or (token_at spots (suc k))) [
    | inl e ↦ e
    | inr f ↦ absurd (nope (record { lone = record { far = ap is_far s.token ∙ far; alone = f }; undotted = d.none refl }))
  ]

  next_dotted : (k : ℕ) (b : Bool) (s : At spots k) → from ≤ k → Dotted spots from (suc k) (is_dot s.spot.token)
  next_dotted k b s h = dotted_next spots from k (suc k) (is_dot s.spot.token) h refl (λ e. s.token ∙ ap Some (dot_is s.spot.token e))
      (λ e. let f : s.spot.token ≡ token.Sign sign.Dot = (let g = sym s.token ∙ e in cc) in ap is_dot f)

  open_here : (k n : ℕ) → suc k < length spots → token_at spots (suc k) ≡ Some (token.Sign sign.OpenRound) → OpenSpots (take (suc n) (drop (suc k) spots))
  open_here k n h e =
      let s = at_of spots (suc k) h in
      subst (λ z. OpenSpots (take (suc n) z)) (sym s.is) (let f : s.spot.token ≡ token.Sign sign.OpenRound = (let g = sym s.token ∙ e in cc) in f)

  free_or_last : (n k : ℕ) (b : Bool) → k + n ≤ length spots → from ≤ k → Dotted spots from k b → ((j : ℕ) → from ≤ j → suc j < k + n → IsStray spots from j → ⊥)
      → FreeSpots b (take n (drop k spots)) ⊎ LastStray spots from (k + n) b (take n (drop k spots))
  free_or_last zero k b le h d nope = inl tt
  free_or_last (suc zero) k b le h d nope =
      let s = at_of spots k (omega (arith, le)) in
      let one : take 1 (drop k spots) ≡ s.spot ∷ [] = ap (take 1) s.is in
      subst (λ z. FreeSpots b z ⊎ LastStray spots from (k + 1) b z) (sym one) (of s.spot s.token b d (is_far (Some s.spot.token)) refl)
    where
      of : (x : Spot) → token_at spots k ≡ Some x.token → (c : Bool) → Dotted spots from k c → (f : Bool) → is_far (Some x.token) ≡ f → FreeSpots c (x ∷ []) ⊎ LastStray spots from (k + 1) c (x ∷ [])
      of x o c q false e = inl ((λ g. let q : false ≡ true = sym e ∙ g in absurd (cc)), tt)
      of x o true q true e = inl ((λ g. inl refl), tt)
      of x o false q true e =
          let m = far_name x.token e in
          inr (record {
            at = k;
            at_is = omega arith;
            after = h;
            stray = λ f. record { lone = record { far = ap is_far o ∙ e; alone = f }; undotted = q.none refl };
            pre = [];
            last = x;
            name = m.0;
            is = refl;
            token = m.1;
            far = e;
            undotted = refl;
            free = ((λ g. inr refl), open_near (is_dot x.token) x.at);
          })
  free_or_last (suc (suc n)) k b le h d nope =
      let s = at_of spots k (omega (arith, le)) in
      let is : take (suc (suc n)) (drop k spots) ≡ s.spot ∷ take (suc n) (drop (suc k) spots) = ap (take (suc (suc n))) s.is in
      let r = free_or_last (suc n) (suc k) (is_dot s.spot.token) (omega (arith, le)) (omega (arith, h)) (next_dotted k b s h) (λ j f l. nope j f (omega (arith, l))) in
      let far : is_far (Some s.spot.token) ≡ true → (b ≡ true) ⊎ OpenSpots (take (suc n) (drop (suc k) spots)) = λ e. dotted b s d e (nope k h (omega arith)) in
      subst (λ z. FreeSpots b z ⊎ LastStray spots from (k + suc (suc n)) b z) (sym is) (elim r [
        | inl f ↦ inl (far, f)
        | inr l ↦ inr (record {
          at = l.at;
          at_is = omega (arith, l.at_is);
          after = l.after;
          stray = l.stray;
          pre = s.spot ∷ l.pre;
          last = l.last;
          name = l.name;
          is = ap (λ z. s.spot ∷ z) l.is;
          token = l.token;
          far = l.far;
          undotted = l.undotted;
          free = (
            (λ e. elim (far e) [
              | inl g ↦ inl g
              | inr o ↦ inr (opens_more (take (suc n) (drop (suc k) spots)) (l.pre ++ l.last ∷ []) (sign_spot sign.OpenRound l.last.at ∷ []) l.is o)
            ]),
            l.free,
          );
        })
      ])
    where
      dotted : (c : Bool) (s : At spots k) → Dotted spots from k c → is_far (Some s.spot.token) ≡ true → (IsStray spots from k → ⊥) → (c ≡ true) ⊎ OpenSpots (take (suc n) (drop (suc k) spots))
      dotted true s d e f = inl refl
      dotted false s d e f = inr (open_here k n (omega (arith, le)) (bracket k s d e f))

      opens_more : (xs ys zs : List Spot) → xs ≡ ys → OpenSpots xs → OpenSpots (ys ++ zs)
      opens_more xs [] zs e o = absurd (subst OpenSpots e o)
      opens_more xs (y ∷ ys) zs e o = subst OpenSpots e o

  -- tokens that begin an expression, with no stray before the last one, begin a whole one
  pub whole_begins : (m n : ℕ) → from + n ≤ length spots → ((j : ℕ) → from ≤ j → suc j < from + n → IsStray spots from j → ⊥) → GoodOf OF_CLASS_TEXT (ExprRule 0 1) m (take n (drop from spots))
      → GoodOf OF_CLASS_TEXT WholeRule m (take n (drop from spots))
  whole_begins m n le nope g = elim (free_or_last n from false le (omega arith) (dotted_first spots from) nope) [
    | inl f ↦ whole_good m (take n (drop from spots)) f g
    | inr l ↦ subst (GoodOf OF_CLASS_TEXT WholeRule m) (sym l.is) (stray_good m l.pre l.last l.name l.token (no_dot l.pre l.undotted) l.free (subst (GoodOf OF_CLASS_TEXT (ExprRule 0 1) m) l.is g))
  ]

-- what is seen of what begins with these tokens
pub sees_of : (n j : ℕ) (ts : List Spot) (xs ys : List Marked) → j ≤ length ts → spots_of xs ≡ take j ts → KeepsOf OF_CLASS_TEXT n xs → Sees OF_CLASS_TEXT n j ts (xs ++ ys)
sees_of n zero ts xs ys h e k = tt
sees_of n (suc j) [] xs ys h e k = absurd (omega (arith, h))
sees_of n (suc j) (t ∷ ts) [] ys h e k = absurd (cc)
sees_of n (suc j) (t ∷ ts) (x ∷ xs) ys h e k = (let f : x.spot ≡ t = cc in f, k.0, sees_of n j ts xs ys (omega (arith, h)) (let g : spots_of xs ≡ take j ts = cc in g) k.1)

take_take : (j i : ℕ) (ts : List Spot) → j ≤ i → take j (take i ts) ≡ take j ts
take_take zero i ts h = refl
take_take (suc j) zero ts h = absurd (omega (arith, h))
take_take (suc j) (suc i) [] h = refl
take_take (suc j) (suc i) (t ∷ ts) h = ap (λ y. t ∷ y) (take_take j i ts (omega (arith, h)))

module _ (t : Tokens) (from : ℕ) (within : from ≤ length t.spots.items) where
  rest_length : length (drop from t.spots.items) ≡ length t.spots.items - from
  rest_length = length-drop from t.spots.items

  -- where reading fails before any stray
  pub whole_stops : (n k : ℕ) → Stops OF_CLASS_TEXT (ExprRule 0 1) ExprEnds n (drop from t.spots.items) k → NoStrays t.spots.items from (from + k)
      → Stops OF_CLASS_TEXT WholeRule ExprEnds n (drop from t.spots.items) k
  whole_stops n k s clear =
      let ts = drop from t.spots.items in
      let l = rest_length in
      record {
        within = s.within;
        token = s.token;
        bad = λ w z b r f q. s.bad w z b r.rule f q;
        good = whole_begins t.spots.items from 7 k (omega (arith, s.within, l, within)) (λ j h lt. clear j h (omega (arith, lt))) s.good;
        below = λ m lt h. whole_begins t.spots.items from m (suc k) (omega (arith, s.token h, l, within)) (λ j g u. clear j g (omega (arith, u))) (s.below m lt h);
      }

-- what free marks say of a far name
record Before (ts : List Spot) (i : ℕ) : Type 0 where
  number : ℕ
  next : i ≡ suc number
  dot : token_at ts number ≡ Some (token.Sign sign.Dot)

far_marks : (d : Bool) (w z : List Marked) (i : ℕ) (ts : List Spot) (x : Token) → FreeMarks d (w ++ []) → i < length w → Sees OF_CLASS_TEXT 2 (suc (suc i)) ts (w ++ z) → token_at ts i ≡ Some x
    → is_far (Some x) ≡ true → ((i ≡ 0) × (d ≡ true)) ⊎ (Before ts i ⊎ (token_at ts (suc i) ≡ Some (token.Sign sign.OpenRound)))
far_marks d [] z i ts x f lt s e far = absurd (omega (arith, lt))
far_marks d (m ∷ w) z i [] x f lt s e far = absurd s
far_marks d (m ∷ w) z zero (t ∷ ts) x f lt s e far =
    let g : m.spot.token ≡ x = ap (λ y. y.token) s.0 ∙ (let h : t.token ≡ x = cc in h) in
    elim (f.0 (ap (λ y. is_far (Some y)) g ∙ far)) [
      | inl h ↦ inl (refl, h)
      | inr o ↦ inr (inr (behind w ts o s.2))
    ]
  where
    behind : (w : List Marked) (ts : List Spot) → Opens (w ++ []) → Sees OF_CLASS_TEXT 2 1 ts (w ++ z) → token_at ts 0 ≡ Some (token.Sign sign.OpenRound)
    behind [] ts o s = absurd o
    behind (y ∷ w) [] o s = absurd s
    behind (y ∷ w) (u ∷ ts) o s = ap (λ k. Some k.token) (sym s.0) ∙ ap Some o
far_marks d (m ∷ w) z (suc i) (t ∷ ts) x f lt s e far =
    elim (far_marks (is_dot m.spot.token) w z i ts x f.1 (omega (arith, lt)) s.2 e far) [
      | inl h ↦ inr (inl (record { number = 0; next = ap suc h.0; dot = ap (λ y. Some y.token) (sym s.0) ∙ ap Some (dot_is m.spot.token h.1) }))
      | inr h ↦ elim h [
        | inl b ↦ inr (inl (record { number = suc b.number; next = ap suc b.next; dot = b.dot }))
        | inr o ↦ inr (inr o)
      ]
    ]

no_token : (i : ℕ) → token_at [] i ≡ None
no_token zero = refl
no_token (suc i) = refl

token_drop : (spots : List Spot) (from i : ℕ) → token_at (drop from spots) i ≡ token_at spots (from + i)
token_drop spots zero i = let e : 0 + i ≡ i = omega arith in ap (token_at spots) (sym e)
token_drop [] (suc from) i = no_token i ∙ sym (no_token (suc from + i))
token_drop (s ∷ spots) (suc from) i = let e : suc from + i ≡ suc (from + i) = omega arith in token_drop spots from i ∙ ap (token_at (s ∷ spots)) (sym e)

token_within : (spots : List Spot) (k : ℕ) (x : Token) → token_at spots k ≡ Some x → k < length spots
token_within [] k x e = absurd (let f : None ≡ Some x = sym (no_token k) ∙ e in cc)
token_within (s ∷ spots) zero x e = omega arith
token_within (s ∷ spots) (suc k) x e = let r = token_within spots k x e in omega (arith, r)

take_front : (xs ys : List Spot) → take (length xs) (xs ++ ys) ≡ xs
take_front [] ys = refl
take_front (x ∷ xs) ys = ap (λ z. x ∷ z) (take_front xs ys)

take_one : (n : ℕ) (ts us : List Spot) (x : Spot) → drop n ts ≡ x ∷ us → take (suc n) ts ≡ take n ts ++ x ∷ []
take_one zero [] us x e = absurd (cc)
take_one zero (y ∷ ts) us x e = let f : y ≡ x = cc in ap (λ z. z ∷ []) f
take_one (suc n) [] us x e = absurd (cc)
take_one (suc n) (y ∷ ts) us x e = ap (λ z. y ∷ z) (take_one n ts us x e)

module _ (t : Tokens) (from : ℕ) (within : from ≤ length t.spots.items) where
  -- where a stray comes first
  stray_bad : (i : ℕ) → from + i < length t.spots.items → IsStray t.spots.items from (from + i) → GoodOf OF_CLASS_TEXT (ExprRule 0 1) 7 (take (suc i) (drop from t.spots.items))
      → Never OF_CLASS_TEXT WholeRule ExprEnds 2 (suc (suc i)) (drop from t.spots.items)
  stray_bad i lt s g w z b r f q = elim (three i (length w)) [
    | inl l ↦ inside l
    | inr h ↦ elim h [
      | inl l ↦ outside (omega (arith, l))
      | inr e ↦ outside (omega (arith, e))
    ]
  ]
    where
      inside : i < length w → ⊥
      inside l =
          let a = at_of t.spots.items (from + i) lt in
          let m = expr_free r.rule r.free false [] tt in
          elim (far_marks false w z i (drop from t.spots.items) a.spot.token m l q (token_drop t.spots.items from i ∙ a.token) (ap is_far (sym a.token) ∙ s.lone.far)) [
            | inl h ↦ let e : false ≡ true = h.1 in cc
            | inr h ↦ elim h [
              | inl d ↦ s.undotted (from + d.number) (omega arith) (omega (arith, d.next)) (sym (token_drop t.spots.items from d.number) ∙ d.dot)
              | inr o ↦ s.lone.alone (let e : suc (from + i) ≡ from + suc i = omega arith in ap (token_at t.spots.items) e ∙ sym (token_drop t.spots.items from (suc i)) ∙ o)
            ]
          ]

      outside : length w ≤ i → ⊥
      outside l =
          let ts = drop from t.spots.items in
          let n = length-drop from t.spots.items in
          let x = sees_next OF_CLASS_TEXT 2 (suc (suc i)) ts w z (omega (arith, l)) (omega (arith, l, n, lt)) q in
          let h = other_limits OF_CLASS_TEXT 7 (take (suc (length w)) (take (suc i) ts)) (shrink 7 (suc (length w)) (take (suc i) ts) g) in
          let same : take (suc (length w)) (take (suc i) ts) ≡ spots_of w ++ x.first.spot ∷ [] = take_take (suc (length w)) (suc i) ts (omega (arith, l)) ∙ x.seen in
          expr_ends 1 w b x.first x.rest r.rule (subst (ExprEnds b) x.is f)
          (subst (Good (ExprRule 0 1) 2) same (record { read = h.read; rest = h.rest; tree = h.tree; rule = h.rule; is = h.is; keeps = keeps_two OF_PROGRAMS h.read }))

  stray_stops : (i : ℕ) → from + i < length t.spots.items → IsStray t.spots.items from (from + i) → NoStrays t.spots.items from (from + i)
      → GoodOf OF_CLASS_TEXT (ExprRule 0 1) 7 (take (suc i) (drop from t.spots.items)) → Stops OF_CLASS_TEXT WholeRule ExprEnds 2 (drop from t.spots.items) (suc i)
  stray_stops i lt s clear g = record {
    within = omega (arith, length-drop from t.spots.items, lt);
    token = λ h. absurd (omega (arith, h));
    bad = stray_bad i lt s g;
    good = whole_begins t.spots.items from 7 (suc i) (omega (arith, lt)) (λ j h l. clear j h (omega (arith, l))) g;
    below = λ m l h. absurd (omega (arith, h));
  }

  module _ (a : ExprTree) (to : ℕ) (r : Reads OF_CLASS_TEXT (ExprRule 0 1) ExprEnds t.spots.items from a to) where
    read_count : length (spots_of r.marked) ≡ to - from
    read_count = omega (
      arith,
      ap length r.is,
      length-append (spots_of r.marked) (drop to t.spots.items),
      length-drop from t.spots.items,
      length-drop to t.spots.items,
      r.after,
      r.within,
    )

    read_front : take (to - from) (drop from t.spots.items) ≡ spots_of r.marked
    read_front = ap (take (to - from)) r.is ∙ ap (λ n. take n (spots_of r.marked ++ drop to t.spots.items)) (sym read_count) ∙ take_front (spots_of r.marked) (drop to t.spots.items)

    -- the tokens of an expression begin one
    read_good : GoodOf OF_CLASS_TEXT (ExprRule 0 1) 7 (take (to - from) (drop from t.spots.items))
    read_good = subst (GoodOf OF_CLASS_TEXT (ExprRule 0 1) 7) (sym read_front)
        (record { read = r.marked; rest = []; tree = a; rule = subst (λ z. ExprRule 0 1 z a) (sym (append-nil r.marked)) r.rule; is = refl; keeps = r.keeps })

    -- a last far name, with a bracket behind it, would be called
    called : (l : LastStray t.spots.items from (from + (to - from)) false (take (to - from) (drop from t.spots.items))) → token_at t.spots.items (suc l.at) ≡ Some (token.Sign sign.OpenRound) → ⊥
    called l o =
        let i = to - from in
        let ts = drop from t.spots.items in
        let lt : from + i < length t.spots.items = token_within t.spots.items (from + i) (token.Sign sign.OpenRound) (ap (token_at t.spots.items) (sym l.at_is) ∙ o) in
        let s = at_of t.spots.items (from + i) lt in
        let round : s.spot.token ≡ token.Sign sign.OpenRound = let e = sym s.token ∙ ap (token_at t.spots.items) (sym l.at_is) ∙ o in cc in
        let y : s.spot ≡ sign_spot sign.OpenRound s.spot.at = ap (λ k. record { token = k; at = s.spot.at }) round in
        let h = other_limits OF_CLASS_TEXT 7 (take i ts) read_good in
        let good = subst (Good (ExprRule 0 1) 2) l.is (record { read = h.read; rest = h.rest; tree = h.tree; rule = h.rule; is = h.is; keeps = keeps_two OF_PROGRAMS h.read }) in
        let g = opened 2 l.pre l.last l.name s.spot.at l.token (no_dot l.pre l.undotted) good in
        let all : take (suc i) ts ≡ (l.pre ++ l.last ∷ []) ++ sign_spot sign.OpenRound s.spot.at ∷ [] =
        take_one i ts (drop (suc (from + i)) t.spots.items) s.spot (drop_drop i from t.spots.items ∙ s.is) ∙ ap (λ z. z ++ s.spot ∷ []) l.is ∙ ap (λ z. (l.pre ++ l.last ∷ []) ++ z ∷ []) y in
        let n = length-drop from t.spots.items in
        let sees = sees_of 2 (suc i) ts g.read g.rest (omega (arith, n, lt)) (g.is ∙ sym all) (keeps_two OF_CLASS_TEXT g.read) in
        let v = r.only 2 (suc i) (g.read ++ g.rest) [] g.tree g.rule tt (omega arith) (subst (Sees OF_CLASS_TEXT 2 (suc i) ts) (sym (append-nil (g.read ++ g.rest))) sees) in
        let count : length g.read ≡ suc i = sym (length_spots g.read) ∙ ap length (g.is ∙ sym all) ∙ length_take_all (suc i) ts (omega (arith, n, lt)) in
        omega (arith, v.1, count, length-append g.read g.rest)
      where
        length_take_all : (k : ℕ) (xs : List Spot) → k ≤ length xs → length (take k xs) ≡ k
        length_take_all zero xs h = refl
        length_take_all (suc k) [] h = absurd (omega (arith, h))
        length_take_all (suc k) (x ∷ xs) h = ap suc (length_take_all k xs (omega (arith, h)))

    -- an expression without a stray is a whole one
    pub free_of : NoStrays t.spots.items from to → WholeRule r.marked a
    free_of clear =
        elim (free_or_last t.spots.items from (to - from) from false (omega (arith, r.after, r.within)) (omega arith) (dotted_first t.spots.items from)
        (λ j h l. clear j h (omega (arith, l, r.after)))) [
          | inl f ↦ record { rule = r.rule; free = (free_expr r.rule [] (λ x. x) (free_marks false r.marked [] (subst (FreeSpots false) read_front f))).0 }
          | inr l ↦ elim (opens_or (token_at t.spots.items (suc l.at))) [
            | inr f ↦ absurd (clear l.at l.after (omega (arith, l.at_is, r.after)) (l.stray f))
            | inl o ↦ absurd (called l o)
          ]
        ]

    pub whole_reads : NoStrays t.spots.items from to → Reads OF_CLASS_TEXT WholeRule ExprEnds t.spots.items from a to
    whole_reads clear = record {
      after = r.after;
      within = r.within;
      marked = r.marked;
      rule = free_of clear;
      is = r.is;
      keeps = r.keeps;
      only = λ n j w z b q f lt s. r.only n j w z b q.rule f lt s;
    }

    -- or a stray stops it
    pub stray_read : (i : ℕ) → from + i < to → IsStray t.spots.items from (from + i) → NoStrays t.spots.items from (from + i)
        → Stops OF_CLASS_TEXT WholeRule ExprEnds 2 (drop from t.spots.items) (suc i)
    stray_read i lt s clear = stray_stops i (omega (arith, lt, r.within)) s clear
        (subst (GoodOf OF_CLASS_TEXT (ExprRule 0 1) 7) (take_take (suc i) (to - from) (drop from t.spots.items) (omega (arith, lt)))
        (shrink 7 (suc i) (take (to - from) (drop from t.spots.items)) read_good))

  pub stray_failed : (n k i : ℕ) → Stops OF_CLASS_TEXT (ExprRule 0 1) ExprEnds n (drop from t.spots.items) k → i < k → IsStray t.spots.items from (from + i) → NoStrays t.spots.items from (from + i)
      → Stops OF_CLASS_TEXT WholeRule ExprEnds 2 (drop from t.spots.items) (suc i)
  stray_failed n k i x lt s clear = stray_stops i (omega (arith, lt, x.within, length-drop from t.spots.items)) s clear
      (subst (GoodOf OF_CLASS_TEXT (ExprRule 0 1) 7) (take_take (suc i) k (drop from t.spots.items) (omega (arith, lt))) (shrink 7 (suc i) (take k (drop from t.spots.items)) x.good))

  -- what is answered of an expression
  clear_to : AreRising t → (until : ℕ) → ((k : ℕ) → from ≤ k → (place_at t k).byte < until → IsStray t.spots.items from k → ⊥) → (to : ℕ) → to ≤ length t.spots.items → until ≡ (place_at t to).byte
      → NoStrays t.spots.items from to
  clear_to rising until f to le e k h lt s = f k h (omega (arith, e, rising.rise k to lt le)) s

  pub whole_none : AreRising t → (until : Place) → ((k : ℕ) → from ≤ k → (place_at t k).byte < until.byte → IsStray t.spots.items from k → ⊥) → (r : Result (Expr × ℕ) SourceFault)
      → Reaches t r (Some until) → Answer OF_CLASS_TEXT (ExprRule 0 1) ExprEnds (λ x. expr_of x.0) (λ x. x.1) t from r → Answer OF_CLASS_TEXT WholeRule ExprEnds (λ x. expr_of x.0) (λ x. x.1) t from r
  whole_none rising until f (Ok x) e a = whole_reads (expr_of x.0) x.1 a (clear_to rising until.byte f x.1 a.within (let g : until ≡ place_at t x.1 = cc in ap (λ p. p.byte) g))
  whole_none rising until f (Err (Refused (rule.S n) p)) e a =
      let s = a.1 in
      let g : until ≡ p = cc in (
        a.0,
        record {
          number = s.number;
          place = s.place;
          stops = whole_stops t from within 2 s.number s.stops
              (clear_to rising until.byte f (from + s.number) (omega (arith, s.stops.within, length-drop from t.spots.items, within)) (ap (λ p. p.byte) (g ∙ s.place)));
        },
      )
  whole_none rising until f (Err (Refused (rule.L n) p)) e a =
      let s = a.2 in
      let g : until ≡ p = cc in (
        a.0,
        a.1,
        record {
          number = s.number;
          place = s.place;
          stops = whole_stops t from within n s.number s.stops
              (clear_to rising until.byte f (from + s.number) (omega (arith, s.stops.within, length-drop from t.spots.items, within)) (ap (λ p. p.byte) (g ∙ s.place)));
        },
      )
  whole_none rising until f (Err (Refused (rule.K n) p)) e a = a
  whole_none rising until f (Err (AcrossWait p q r)) e a = a
  whole_none rising until f (Err OutOfMemory) e a = tt

  pub whole_memory : (r : Result (Expr × ℕ) SourceFault) → Reaches t r None → Answer OF_CLASS_TEXT (ExprRule 0 1) ExprEnds (λ x. expr_of x.0) (λ x. x.1) t from r
      → Answer OF_CLASS_TEXT WholeRule ExprEnds (λ x. expr_of x.0) (λ x. x.1) t from r
  whole_memory (Ok x) e a = absurd (cc)
  whole_memory (Err (Refused n p)) e a = absurd (cc)
  whole_memory (Err (AcrossWait p q r)) e a = a
  whole_memory (Err OutOfMemory) e a = tt

  -- a token before another stands before its place
  before_place : AreRising t → (k to : ℕ) → k < length t.spots.items → to ≤ length t.spots.items → (place_at t k).byte < (place_at t to).byte → k < to
  before_place rising k to h le lt = elim (three k to) [
    | inl l ↦ l
    | inr q ↦ elim q [
      | inl l ↦ absurd (let r = rising.rise to k l (omega (arith, h)) in omega (arith, r, lt))
      | inr e ↦ absurd (let r = ap (λ n. (place_at t n).byte) e in omega (arith, r, lt))
    ]
  ]

  pub whole_stray : AreRising t → (until : Place) (k : ℕ) → IsFirstStray t from until.byte (Some k) → (r : Result (Expr × ℕ) SourceFault) → Reaches t r (Some until)
      → Answer OF_CLASS_TEXT (ExprRule 0 1) ExprEnds (λ x. expr_of x.0) (λ x. x.1) t from r → Fails OF_CLASS_TEXT WholeRule ExprEnds t from (Refused (rule.S 5) (place_at t (k + 1)))
  whole_stray rising until k f r e a = (refl, record { number = suc i; place = ap (place_at t) next; stops = stops r e a })
    where
      i : ℕ
      i = k - from

      long : from + (k - from) ≡ k
      long = omega (arith, f.0)

      next : k + 1 ≡ from + suc (k - from)
      next = omega (arith, f.0)

      stray : IsStray t.spots.items from (from + (k - from))
      stray = subst (IsStray t.spots.items from) (sym long) f.3

      clear : NoStrays t.spots.items from (from + (k - from))
      clear = subst (NoStrays t.spots.items from) (sym long) f.4

      stops : (r : Result (Expr × ℕ) SourceFault) → Reaches t r (Some until) → Answer OF_CLASS_TEXT (ExprRule 0 1) ExprEnds (λ x. expr_of x.0) (λ x. x.1) t from r
          → Stops OF_CLASS_TEXT WholeRule ExprEnds 2 (drop from t.spots.items) (suc (k - from))
      stops (Ok x) e a =
          let g : until ≡ place_at t x.1 = cc in
          let h = ap (λ p. p.byte) g in
          stray_read (expr_of x.0) x.1 a (k - from) (omega (arith, long, before_place rising k x.1 f.1 a.within (omega (arith, h, f.2)))) stray clear
      stops (Err (Refused (rule.S n) p)) e a =
          let s = a.1 in
          let g : until ≡ p = cc in
          let h = ap (λ p. p.byte) (g ∙ s.place) in
          stray_failed 2 s.number (k - from) s.stops
          (omega (arith, long, before_place rising k (from + s.number) f.1 (omega (arith, s.stops.within, length-drop from t.spots.items, within)) (omega (arith, h, f.2)))) stray clear
      stops (Err (Refused (rule.L n) p)) e a =
          let s = a.2 in
          let g : until ≡ p = cc in
          let h = ap (λ p. p.byte) (g ∙ s.place) in
          stray_failed n s.number (k - from) s.stops
          (omega (arith, long, before_place rising k (from + s.number) f.1 (omega (arith, s.stops.within, length-drop from t.spots.items, within)) (omega (arith, h, f.2)))) stray clear
      stops (Err (Refused (rule.K n) p)) e a = absurd a
      stops (Err (AcrossWait p q u)) e a = absurd a
      stops (Err OutOfMemory) e a = absurd (cc)
