-- An expression is one too where its names are others.
use Rattle.std.proofs.Common.{◌≡◌, ℕ, true, false, List, [], ◌∷◌, ◌++◌, refl, sym, ap, ◌∙◌, subst}
use Rattle.flow_base.specs.declared.place.Place.{Place}
use Rattle.flow_tree.specs.declared.token.Token.{Token}
use Rattle.flow_tree.specs.declared.token.Token.TheVariants as token
use Rattle.flow_tree.specs.declared.token.Word.TheVariants as word
use Rattle.flow_tree.specs.declared.token.Sign.{Sign}
use Rattle.flow_tree.specs.declared.token.Sign.TheVariants as sign
use Rattle.flow_tree.specs.declared.ty.Ident.{Ident}
use Rattle.flow_tree.specs.Tree.{ByName, indexed, ExprTree, ExprTrees, IntExpr, TextExpr, BoolExpr, VoidExpr, VarExpr, CallExpr, FieldExpr, MethodExpr, NotExpr, NegExpr, BinaryExpr, ParenExpr, NoExprs, MoreExprs}
use Rattle.flow_tree.specs.GrammarToken.{Part, Node, Marked, opens, begin}
use Rattle.flow_tree.specs.Grammar.{sign_at, name_at, node_sign, node_word, node_name, in_round, op_sign, ExprRule, number, text, truth, falsehood, void, variable, call, paren, field, method, index, negation, minus, binary, ArgsRule, no_args, some_args, MoreArgsRule, end_args, more_args}

-- the same tokens at the same places, but for their names
abbrev pub LikeToken : Token → Token → Type 0
LikeToken (token.Name m) (token.Name n) = Unit {0}
LikeToken s t = s ≡ t

abbrev pub Like : Marked → Marked → Type 0
Like x y = (x.parts ≡ y.parts) × (x.spot.at ≡ y.spot.at) × LikeToken x.spot.token y.spot.token

abbrev pub Alike : List Marked → List Marked → Type 0
Alike [] [] = Unit {0}
Alike (x ∷ xs) (y ∷ ys) = Like x y × Alike xs ys
Alike [] (y ∷ ys) = ⊥
Alike (x ∷ xs) [] = ⊥

abbrev pub IsName : Token → Type 0
IsName (token.Name m) = Unit {0}
IsName _ = ⊥

other_same : (s t : Token) → (IsName s → ⊥) → LikeToken s t → s ≡ t
other_same (token.Name m) t f h = absurd (f tt)
other_same (token.Number m) t f h = h
other_same (token.Text m) t f h = h
other_same (token.Word m) t f h = h
other_same (token.Sign m) t f h = h

name_like : (m : List ℕ) (t : Token) → LikeToken (token.Name m) t → (n : List ℕ) × (t ≡ token.Name n)
name_like m (token.Name n) h = (n, refl)
name_like m (token.Number n) h = absurd (cc)
name_like m (token.Text n) h = absurd (cc)
name_like m (token.Word n) h = absurd (cc)
name_like m (token.Sign n) h = absurd (cc)

marked_is : (y : Marked) (ps : List Part) (t : Token) (p : Place) → ps ≡ y.parts → p ≡ y.spot.at → t ≡ y.spot.token → y ≡ opens ps t p
marked_is y ps t p e f g =
    ap (λ k. record { spot = y.spot; parts = k }) (sym e) ∙ ap (λ k. record { spot = record { token = y.spot.token; at = k }; parts = ps }) (sym f)
    ∙ ap (λ k. record { spot = record { token = k; at = p }; parts = ps }) (sym g)

-- a token that is no name is the same, and one that is is a name
same_token : (ps : List Part) (t : Token) (p : Place) (y : Marked) → (IsName t → ⊥) → Like (opens ps t p) y → y ≡ opens ps t p
same_token ps t p y f h = marked_is y ps t p h.0 h.1 (other_same t y.spot.token f h.2)

new_name : (ps : List Part) (x : Ident) (y : Marked) → Like (opens ps (token.Name x.name) x.at) y → (z : Ident) × (y ≡ opens ps (token.Name z.name) z.at)
new_name ps x y h =
    let n = name_like x.name y.spot.token h.2 in
    (record { name = n.0; at = x.at }, marked_is y ps (token.Name n.0) x.at h.0 h.1 (sym n.1))

record First (x : Marked) (xs w : List Marked) : Type 0 where
  head : Marked
  tail : List Marked
  is : w ≡ head ∷ tail
  like : Like x head
  alike : Alike xs tail

first : (x : Marked) (xs w : List Marked) → Alike (x ∷ xs) w → First x xs w
first x xs [] h = absurd h
first x xs (y ∷ w) h = record { head = y; tail = w; is = refl; like = h.0; alike = h.1 }

none_left : (w : List Marked) → Alike [] w → w ≡ []
none_left [] h = refl
none_left (x ∷ w) h = absurd h

record Parted (xs ys w : List Marked) : Type 0 where
  left : List Marked
  right : List Marked
  is : w ≡ left ++ right
  front : Alike xs left
  back : Alike ys right

parted : (xs ys w : List Marked) → Alike (xs ++ ys) w → Parted xs ys w
parted [] ys w h = record { left = []; right = w; is = refl; front = tt; back = h }
parted (x ∷ xs) ys w h =
    let f = first x (xs ++ ys) w h in
    let r = parted xs ys f.tail f.alike in
    record { left = f.head ∷ r.left; right = r.right; is = f.is ∙ ap (λ z. f.head ∷ z) r.is; front = (f.like, r.front); back = r.back }

record Begun (p : Part) (xs w : List Marked) : Type 0 where
  of : List Marked
  is : w ≡ begin p of
  alike : Alike xs of

begun : (p : Part) (xs w : List Marked) → Alike (begin p xs) w → Begun p xs w
begun p [] w h = record { of = []; is = none_left w h; alike = tt }
begun p (x ∷ xs) w h =
    let f = first (record { spot = x.spot; parts = p ∷ x.parts }) xs w h in
    let y : Marked = record { spot = f.head.spot; parts = x.parts } in
    record { of = y ∷ f.tail; is = f.is ∙ ap (λ k. record { spot = f.head.spot; parts = k } ∷ f.tail) (sym f.like.0); alike = ((refl, f.like.1, f.like.2), f.alike) }

-- one token that is no name, and the rest
step : (ps : List Part) (t : Token) (p : Place) (xs w : List Marked) → (IsName t → ⊥) → Alike (opens ps t p ∷ xs) w → (v : List Marked) × (w ≡ opens ps t p ∷ v) × Alike xs v
step ps t p xs w f h = let r = first (opens ps t p) xs w h in (r.tail, r.is ∙ ap (λ y. y ∷ r.tail) (same_token ps t p r.head f r.like), r.alike)

step_name : (ps : List Part) (x : Ident) (xs w : List Marked) → Alike (opens ps (token.Name x.name) x.at ∷ xs) w
    → (z : Ident) × (v : List Marked) × (w ≡ opens ps (token.Name z.name) z.at ∷ v) × Alike xs v
step_name ps x xs w h =
    let r = first (opens ps (token.Name x.name) x.at) xs w h in
    let n = new_name ps x r.head r.like in
    (n.0, r.tail, r.is ∙ ap (λ y. y ∷ r.tail) n.1, r.alike)

alone : (ps : List Part) (t : Token) (p : Place) (w : List Marked) → (IsName t → ⊥) → Alike (opens ps t p ∷ []) w → w ≡ opens ps t p ∷ []
alone ps t p w f h = let r = step ps t p [] w f h in r.1 ∙ ap (λ z. opens ps t p ∷ z) (none_left r.0 r.2)

-- behind a part, a bracket
record Shut (s : Sign) (xs : List Marked) (q : Place) (w : List Marked) : Type 0 where
  of : List Marked
  is : w ≡ of ++ sign_at s q ∷ []
  alike : Alike xs of

shut : (s : Sign) (xs : List Marked) (q : Place) (w : List Marked) → Alike (xs ++ sign_at s q ∷ []) w → Shut s xs q w
shut s xs q w h =
    let r = parted xs (sign_at s q ∷ []) w h in
    record { of = r.left; is = r.is ∙ ap (λ z. r.left ++ z) (alone [] (token.Sign s) q r.right (λ x. x) r.back); alike = r.front }

abbrev pub Other : ℕ → ℕ → List Marked → Type 0
Other k d w = (e : ExprTree) × ExprRule k d w e

abbrev pub OtherArgs : ℕ → List Marked → Type 0
OtherArgs d w = (es : ExprTrees) × ArgsRule d w es

abbrev pub OtherMore : ℕ → List Marked → Type 0
OtherMore d w = (es : ExprTrees) × MoreArgsRule d w es

mutual
  pub renamed : {k d : ℕ} {v : List Marked} {e : ExprTree} → ExprRule k d v e → (w : List Marked) → Alike v w → Other k d w
  renamed {k} {d} (number n p) w h = (IntExpr n, subst (λ z. ExprRule k d z (IntExpr n)) (sym (alone (Node d ∷ []) (token.Number n) p w (λ x. x) h)) (number n p))
  renamed {k} {d} (text t p) w h = (TextExpr t, subst (λ z. ExprRule k d z (TextExpr t)) (sym (alone (Node d ∷ []) (token.Text t) p w (λ x. x) h)) (text t p))
  renamed {k} {d} (truth p) w h = (BoolExpr true, subst (λ z. ExprRule k d z (BoolExpr true)) (sym (alone (Node d ∷ []) (token.Word word.Yes) p w (λ x. x) h)) (truth p))
  renamed {k} {d} (falsehood p) w h = (BoolExpr false, subst (λ z. ExprRule k d z (BoolExpr false)) (sym (alone (Node d ∷ []) (token.Word word.No) p w (λ x. x) h)) (falsehood p))
  renamed {k} {d} (void p q r) w h =
      let a = step (Node d ∷ []) (token.Word word.Void) p (in_round q [] r []) w (λ x. x) h in
      let b = step [] (token.Sign sign.OpenRound) q (sign_at sign.CloseRound r ∷ []) a.0 (λ x. x) a.2 in
      let c = alone [] (token.Sign sign.CloseRound) r b.0 (λ x. x) b.2 in
      (VoidExpr, subst (λ z. ExprRule k d z VoidExpr) (sym (a.1 ∙ ap (λ z. node_word d word.Void p ∷ z) (b.1 ∙ ap (λ z. sign_at sign.OpenRound q ∷ z) c))) (void p q r))
  renamed {k} {d} (variable x) w h =
      let a = step_name (Node d ∷ []) x [] w h in
      (VarExpr a.0, subst (λ z. ExprRule k d z (VarExpr a.0)) (sym (a.2 ∙ ap (λ z. node_name d a.0 ∷ z) (none_left a.1 a.3))) (variable a.0))
  renamed {d = d} (call f p q args r e) w h =
      let a = step_name (Node d ∷ []) f (in_round p args q []) w (subst (λ z. Alike z w) e h) in
      let b = step [] (token.Sign sign.OpenRound) p (args ++ sign_at sign.CloseRound q ∷ []) a.1 (λ x. x) a.3 in
      let c = shut sign.CloseRound args q b.0 b.2 in
      let s = renamed_args r c.of c.alike in
      (CallExpr a.0 s.0, call a.0 p q c.of s.1 (a.2 ∙ ap (λ z. node_name d a.0 ∷ z) (b.1 ∙ ap (λ z. sign_at sign.OpenRound p ∷ z) c.is)))
  renamed {d = d} (paren p q of r e) w h =
      let a = step (Node d ∷ []) (token.Sign sign.OpenRound) p (of ++ sign_at sign.CloseRound q ∷ []) w (λ x. x) (subst (λ z. Alike z w) e h) in
      let c = shut sign.CloseRound of q a.0 a.2 in
      let s = renamed r c.of c.alike in
      (ParenExpr s.0, paren p q c.of s.1 (a.1 ∙ ap (λ z. node_sign d sign.OpenRound p ∷ z) c.is))
  renamed {d = d} (field p x of r e) w h =
      let a = parted (begin (Node d) of) (sign_at sign.Dot p ∷ name_at x ∷ []) w (subst (λ z. Alike z w) e h) in
      let b = begun (Node d) of a.left a.front in
      let c = step [] (token.Sign sign.Dot) p (name_at x ∷ []) a.right (λ x. x) a.back in
      let n = step_name [] x [] c.0 c.2 in
      let s = renamed r b.of b.alike in (
        FieldExpr s.0 n.0,
        field p n.0 b.of s.1 (a.is ∙ ap (λ z. z ++ a.right) b.is ∙ ap (λ z. begin (Node d) b.of ++ z)
            (c.1 ∙ ap (λ z. sign_at sign.Dot p ∷ z) (n.2 ∙ ap (λ z. name_at n.0 ∷ z) (none_left n.1 n.3)))),
      )
  renamed {d = d} (method p q r f of args t u e) w h =
      let a = parted (begin (Node d) of) (sign_at sign.Dot p ∷ name_at f ∷ in_round q args r []) w (subst (λ z. Alike z w) e h) in
      let b = begun (Node d) of a.left a.front in
      let c = step [] (token.Sign sign.Dot) p (name_at f ∷ in_round q args r []) a.right (λ x. x) a.back in
      let n = step_name [] f (in_round q args r []) c.0 c.2 in
      let o = step [] (token.Sign sign.OpenRound) q (args ++ sign_at sign.CloseRound r ∷ []) n.1 (λ x. x) n.3 in
      let g = shut sign.CloseRound args r o.0 o.2 in
      let s = renamed t b.of b.alike in
      let v = renamed_args u g.of g.alike in (
        MethodExpr s.0 (ByName n.0) v.0,
        method p q r n.0 b.of g.of s.1 v.1
            (a.is ∙ ap (λ z. z ++ a.right) b.is ∙ ap (λ z. begin (Node d) b.of ++ z)
            (c.1 ∙ ap (λ z. sign_at sign.Dot p ∷ z) (n.2 ∙ ap (λ z. name_at n.0 ∷ z) (o.1 ∙ ap (λ z. sign_at sign.OpenRound q ∷ z) g.is)))),
      )
  renamed {d = d} (index p q of at t i e) w h =
      let a = parted (begin (Node d) of) (sign_at sign.OpenSquare p ∷ (at ++ sign_at sign.CloseSquare q ∷ [])) w (subst (λ z. Alike z w) e h) in
      let b = begun (Node d) of a.left a.front in
      let c = step [] (token.Sign sign.OpenSquare) p (at ++ sign_at sign.CloseSquare q ∷ []) a.right (λ x. x) a.back in
      let g = shut sign.CloseSquare at q c.0 c.2 in
      let s = renamed t b.of b.alike in
      let u = renamed i g.of g.alike in (
        indexed s.0 u.0,
        index p q b.of g.of s.1 u.1
            (a.is ∙ ap (λ z. z ++ a.right) b.is ∙ ap (λ z. begin (Node d) b.of ++ z)
            (c.1 ∙ ap (λ z. sign_at sign.OpenSquare p ∷ z) g.is)),
      )
  renamed {d = d} (negation p of le r e) w h =
      let a = step (Node d ∷ []) (token.Sign sign.Not) p of w (λ x. x) (subst (λ z. Alike z w) e h) in
      let s = renamed r a.0 a.2 in
      (NotExpr s.0, negation p a.0 le s.1 a.1)
  renamed {d = d} (minus p of le r e) w h =
      let a = step (Node d ∷ []) (token.Sign sign.Minus) p of w (λ x. x) (subst (λ z. Alike z w) e h) in
      let s = renamed r a.0 a.2 in
      (NegExpr s.0, minus p a.0 le s.1 a.1)
  renamed {d = d} (binary op p left right le x y e) w h =
      let a = parted (begin (Node d) left) (sign_at (op_sign op) p ∷ right) w (subst (λ z. Alike z w) e h) in
      let b = begun (Node d) left a.left a.front in
      let c = step [] (token.Sign (op_sign op)) p right a.right (λ x. x) a.back in
      let s = renamed x b.of b.alike in
      let u = renamed y c.0 c.2 in
      (BinaryExpr op s.0 u.0, binary op p b.of c.0 le s.1 u.1 (a.is ∙ ap (λ z. z ++ a.right) b.is ∙ ap (λ z. begin (Node d) b.of ++ z) c.1))

  renamed_args : {d : ℕ} {v : List Marked} {es : ExprTrees} → ArgsRule d v es → (w : List Marked) → Alike v w → OtherArgs d w
  renamed_args {d} no_args w h = (NoExprs, subst (λ z. ArgsRule d z NoExprs) (sym (none_left w h)) no_args)
  renamed_args (some_args one more r s e) w h =
      let a = parted one more w (subst (λ z. Alike z w) e h) in
      let x = renamed r a.left a.front in
      let y = renamed_more s a.right a.back in
      (MoreExprs x.0 y.0, some_args a.left a.right x.1 y.1 a.is)

  renamed_more : {d : ℕ} {v : List Marked} {es : ExprTrees} → MoreArgsRule d v es → (w : List Marked) → Alike v w → OtherMore d w
  renamed_more {d} end_args w h = (NoExprs, subst (λ z. MoreArgsRule d z NoExprs) (sym (none_left w h)) end_args)
  renamed_more (more_args p next more r s e) w h =
      let c = step [] (token.Sign sign.Comma) p (next ++ more) w (λ x. x) (subst (λ z. Alike z w) e h) in
      let a = parted next more c.0 c.2 in
      let x = renamed r a.left a.front in
      let y = renamed_more s a.right a.back in
      (MoreExprs x.0 y.0, more_args p a.left a.right x.1 y.1 (c.1 ∙ ap (λ z. sign_at sign.Comma p ∷ z) a.is))

-- the names of these tokens become one that names no place
abbrev pub plain_token : Token → Token
plain_token (token.Name m) = token.Name (97 ∷ [])
plain_token t = t

abbrev pub plain : List Marked → List Marked
plain [] = []
plain (x ∷ xs) = opens x.parts (plain_token x.spot.token) x.spot.at ∷ plain xs

plain_like : (t : Token) → LikeToken t (plain_token t)
plain_like (token.Name m) = tt
plain_like (token.Number m) = refl
plain_like (token.Text m) = refl
plain_like (token.Word m) = refl
plain_like (token.Sign m) = refl

self_like : (t : Token) → LikeToken t t
self_like (token.Name m) = tt
self_like (token.Number m) = refl
self_like (token.Text m) = refl
self_like (token.Word m) = refl
self_like (token.Sign m) = refl

plain_alike : (xs : List Marked) → Alike xs (plain xs)
plain_alike [] = tt
plain_alike (x ∷ xs) = ((refl, refl, plain_like x.spot.token), plain_alike xs)

pub front_alike : (xs ys : List Marked) → Alike (xs ++ ys) (xs ++ plain ys)
front_alike [] ys = plain_alike ys
front_alike (x ∷ xs) ys = ((refl, refl, self_like x.spot.token), front_alike xs ys)
