-- The machine that reads types follows the grammar.
use Rattle.std.proofs.Common.{◌≡◌, ℕ, zero, suc, ◌+◌, ◌-◌, ◌≤◌, ◌<◌, List, [], ◌∷◌, ◌++◌, length, take, drop, refl, sym, ap, ◌∙◌, subst, arith, append_assoc, Bool, true, false, cond, ◌⊎◌, inl, inr, length-append}
use Rattle.std.specs.Prelude.{nat_le, ◌&&◌}
use Rattle.std.proofs.lemmas.List.{append-nil}
use Rattle.flow_base.proofs.Bools.{and_left, and_right, bool_cases}
use Rattle.flow_base.specs.declared.place.Place.{Place}
use Rattle.flow_tree.specs.declared.token.Token.{Token}
use Rattle.flow_tree.specs.declared.token.Token.TheVariants as token
use Rattle.flow_tree.specs.declared.token.Word.{Word}
use Rattle.flow_tree.specs.declared.token.Word.TheVariants as word
use Rattle.flow_tree.specs.declared.token.Sign.{Sign}
use Rattle.flow_tree.specs.declared.token.Sign.TheVariants as sign
use Rattle.flow_tree.specs.declared.token.Spot.{Spot}
use Rattle.flow_tree.specs.declared.token.Tokens.{Tokens}
use Rattle.flow_tree.specs.Tree.{TypeTree, IntType, BoolType, StringType, VoidType, ErrorType, NamedType}
use Rattle.flow_tree.specs.GrammarToken.{Node, Marked, spots_of, AllInLimits, Keeps, Good, Derives}
use Rattle.flow_tree.specs.Grammar.{sign_at, node_word, node_name, Wrapper, FutureOf, FutureStreamOf, PromiseOf, PromiseStreamOf, VectorOf, wrapper_word, wrapped, TypeRule, int_type, bool_type, string_type, void_type, error_type, named_type, wrapped_type}
use Rattle.flow_tree.specs.GrammarAnswer.{place_at, ReadsAll, IsRead, IsMissing, IsTooDeep}
use Rattle.flow_tree.proofs.GrammarLists.{spots_append, keeps_append}
use Rattle.flow_exprs.specs.declared.ty.TypeKind.{TypeKind}
use Rattle.flow_exprs.specs.declared.ty.TypeKind.TheVariants.{Plain, Future, FutureStream, Promise, PromiseStream, Vector, Less, Greater, Other}
use Rattle.flow_exprs.specs.TypeMachine.{type_word_kind, type_sign_kind, type_kind_of, plain_of, type_or_void, Around, Bottom, Inside, TypeState, WantType, WantLess, HaveType, DeadType, type_greater, type_step_kind, type_step, type_height, type_hole, around_fits, type_fits, TypeOutcome, TypeEnded, TypeShort, TypeDeep, type_halt, type_turn, type_run}
use Rattle.flow_exprs.proofs.Sound.{spot, sign_spot}
use Rattle.flow_exprs.proofs.Reading.{le_true}
use Rattle.flow_exprs.proofs.Goes.{nowhere}
use Rattle.flow_exprs.proofs.Fits.{and_true, FirstKeep, keep_first, keep_append}

abbrev word_spot : Word → Place → Spot
word_spot w p = spot (token.Word w) p

-- tokens are a type at this depth
record OwnType (d : ℕ) (toks : List Spot) (t : TypeTree) : Type 0 where
  marked : List Marked
  rule : TypeRule d marked t
  is : spots_of marked ≡ toks
  keeps : (n : ℕ) → (5 ≤ n → d + type_height t ≤ 65) → Keeps n marked

pub wrapped_height : (w : Wrapper) (t : TypeTree) → type_height (wrapped w t) ≡ suc (type_height t)
wrapped_height FutureOf t = refl
wrapped_height FutureStreamOf t = refl
wrapped_height PromiseOf t = refl
wrapped_height PromiseStreamOf t = refl
wrapped_height VectorOf t = refl

wrapped_own : (d : ℕ) (w : Wrapper) (p q r : Place) (toks : List Spot) (t : TypeTree) → OwnType (suc d) toks t
    → OwnType d (word_spot (wrapper_word w) p ∷ sign_spot sign.Less q ∷ (toks ++ sign_spot sign.Greater r ∷ [])) (wrapped w t)
wrapped_own d w p q r toks t o = record {
  marked = node_word d (wrapper_word w) p ∷ sign_at sign.Less q ∷ (o.marked ++ sign_at sign.Greater r ∷ []);
  rule = wrapped_type w p q r o.marked o.rule refl;
  is = ap (λ z. word_spot (wrapper_word w) p ∷ sign_spot sign.Less q ∷ z) (spots_append o.marked (sign_at sign.Greater r ∷ []) ∙ ap (λ z. z ++ sign_spot sign.Greater r ∷ []) o.is);
  keeps = λ n h. (((λ l. omega (arith, h l, wrapped_height w t)), tt), (tt, keeps_append n o.marked (sign_at sign.Greater r ∷ []) (o.keeps n (λ l. omega (arith, h l, wrapped_height w t))) (tt, tt)));
}

abbrev FrontType : ℕ → Around → List Spot → Type 0
FrontType base (Bottom d) toks = (d ≡ base) × (toks ≡ [])
FrontType base (Inside w K) toks = (a : List Spot) × (p q : Place) × FrontType base K a × (toks ≡ a ++ (word_spot (wrapper_word w) p ∷ sign_spot sign.Less q ∷ []))

record TypeHave (base : ℕ) (t : TypeTree) (K : Around) (toks : List Spot) : Type 0 where
  front : List Spot
  own : List Spot
  around : FrontType base K front
  rule : (d : ℕ) → OwnType d own t
  is : toks ≡ front ++ own

abbrev HasReadType : ℕ → TypeState → List Spot → Type 0
HasReadType base (WantType K) toks = FrontType base K toks
HasReadType base (WantLess w K) toks = (a : List Spot) × (p : Place) × FrontType base K a × (toks ≡ a ++ word_spot (wrapper_word w) p ∷ [])
HasReadType base (HaveType t K) toks = TypeHave base t K toks
HasReadType base DeadType toks = Unit {0}

abbrev TypeSpot : TypeKind → Token → Place → Type 0
TypeSpot Plain x p = (d : ℕ) → OwnType d (spot x p ∷ []) (type_or_void (plain_of x))
TypeSpot Future x p = x ≡ token.Word word.Future
TypeSpot FutureStream x p = x ≡ token.Word word.FutureStream
TypeSpot Promise x p = x ≡ token.Word word.Promise
TypeSpot PromiseStream x p = x ≡ token.Word word.PromiseStream
TypeSpot Vector x p = x ≡ token.Word word.Vector
TypeSpot Less x p = x ≡ token.Sign sign.Less
TypeSpot Greater x p = x ≡ token.Sign sign.Greater
TypeSpot Other x p = Unit {0}

word_type_spot : (w : Word) (p : Place) → TypeSpot (type_word_kind w) (token.Word w) p
word_type_spot word.Int p = λ d. record { marked = node_word d word.Int p ∷ []; rule = int_type p; is = refl; keeps = λ n h. (((λ l. omega (arith, h l)), tt), tt) }
word_type_spot word.Bool p = λ d. record { marked = node_word d word.Bool p ∷ []; rule = bool_type p; is = refl; keeps = λ n h. (((λ l. omega (arith, h l)), tt), tt) }
word_type_spot word.Str p = λ d. record { marked = node_word d word.Str p ∷ []; rule = string_type p; is = refl; keeps = λ n h. (((λ l. omega (arith, h l)), tt), tt) }
word_type_spot word.Void p = λ d. record { marked = node_word d word.Void p ∷ []; rule = void_type p; is = refl; keeps = λ n h. (((λ l. omega (arith, h l)), tt), tt) }
word_type_spot word.Error p = λ d. record { marked = node_word d word.Error p ∷ []; rule = error_type p; is = refl; keeps = λ n h. (((λ l. omega (arith, h l)), tt), tt) }
word_type_spot word.Future p = refl
word_type_spot word.FutureStream p = refl
word_type_spot word.Promise p = refl
word_type_spot word.PromiseStream p = refl
word_type_spot word.Vector p = refl
word_type_spot _ p = tt

sign_type_spot : (s : Sign) (p : Place) → TypeSpot (type_sign_kind s) (token.Sign s) p
sign_type_spot sign.Less p = refl
sign_type_spot sign.Greater p = refl
sign_type_spot _ p = tt

type_spot : (x : Token) (p : Place) → TypeSpot (type_kind_of x) x p
type_spot (token.Name n) p = λ d. record {
  marked = node_name d (record { name = n; at = p }) ∷ [];
  rule = named_type (record { name = n; at = p });
  is = refl;
  keeps = λ i h. (((λ l. omega (arith, h l)), tt), tt);
}
type_spot (token.Word w) p = word_type_spot w p
type_spot (token.Sign s) p = sign_type_spot s p
type_spot (token.Number n) p = tt
type_spot (token.Text b) p = tt

greater_step : (base : ℕ) (t : TypeTree) (K : Around) (toks : List Spot) (x : Token) (p : Place) → x ≡ token.Sign sign.Greater → TypeHave base t K toks
    → HasReadType base (type_greater t K) (toks ++ spot x p ∷ [])
greater_step base t (Bottom d) toks x p e h = tt
greater_step base t (Inside w K) toks x p e h =
    let s = h.around in
    record {
      front = s.0;
      own = word_spot (wrapper_word w) s.1 ∷ sign_spot sign.Less s.2 ∷ (h.own ++ sign_spot sign.Greater p ∷ []);
      around = s.3;
      rule = λ d. wrapped_own d w s.1 s.2 p h.own t (h.rule (suc d));
      is = ap (λ y. toks ++ spot y p ∷ []) e ∙ ap (λ z. z ++ sign_spot sign.Greater p ∷ []) (h.is ∙ ap (λ z. z ++ h.own) s.4) ∙ simp append_assoc;
    }

type_kind_step : (base : ℕ) (S : TypeState) (k : TypeKind) (toks : List Spot) (x : Token) (p : Place) → TypeSpot k x p → HasReadType base S toks
    → HasReadType base (type_step_kind S k (spot x p)) (toks ++ spot x p ∷ [])
type_kind_step base (WantType K) Plain toks x p e f = record { front = toks; own = spot x p ∷ []; around = f; rule = e; is = refl }
type_kind_step base (WantType K) Future toks x p e f = (toks, p, f, ap (λ y. toks ++ spot y p ∷ []) e)
type_kind_step base (WantType K) FutureStream toks x p e f = (toks, p, f, ap (λ y. toks ++ spot y p ∷ []) e)
type_kind_step base (WantType K) Promise toks x p e f = (toks, p, f, ap (λ y. toks ++ spot y p ∷ []) e)
type_kind_step base (WantType K) PromiseStream toks x p e f = (toks, p, f, ap (λ y. toks ++ spot y p ∷ []) e)
type_kind_step base (WantType K) Vector toks x p e f = (toks, p, f, ap (λ y. toks ++ spot y p ∷ []) e)
type_kind_step base (WantType K) _ toks x p e f = tt
type_kind_step base (WantLess w K) Less toks x p e f = (
  f.0,
  f.1,
  p,
  f.2,
  ap (λ y. toks ++ spot y p ∷ []) e ∙ ap (λ z. z ++ sign_spot sign.Less p ∷ []) f.3
      ∙ append_assoc f.0 (word_spot (wrapper_word w) f.1 ∷ []) (sign_spot sign.Less p ∷ []),
)
type_kind_step base (WantLess w K) _ toks x p e f = tt
type_kind_step base (HaveType t K) Greater toks x p e f = greater_step base t K toks x p e f
type_kind_step base (HaveType t K) _ toks x p e f = tt
type_kind_step base DeadType k toks x p e f = tt

abbrev pub AliveType : TypeState → Type 0
AliveType DeadType = ⊥
AliveType _ = Unit {0}

abbrev feed_type : TypeState → List Spot → TypeState
feed_type S [] = S
feed_type S (x ∷ xs) = feed_type (type_step S x) xs

feed_reads : (base : ℕ) (xs : List Spot) (S : TypeState) (toks : List Spot) → HasReadType base S toks → HasReadType base (feed_type S xs) (toks ++ xs)
feed_reads base [] S toks h = subst (HasReadType base S) (sym (append-nil toks)) h
feed_reads base (x ∷ xs) S toks h = subst (HasReadType base (feed_type (type_step S x) xs)) (append_assoc toks (x ∷ []) xs)
    (feed_reads base xs (type_step S x) (toks ++ x ∷ []) (type_kind_step base S (type_kind_of x.token) toks x.token x.at (type_spot x.token x.at) h))

has_read_type : (base : ℕ) (xs : List Spot) → HasReadType base (feed_type (WantType (Bottom base)) xs) xs
has_read_type base xs = feed_reads base xs (WantType (Bottom base)) [] (refl, refl)

plug_type : (n base : ℕ) (K : Around) (front : List Spot) → FrontType base K front → (5 ≤ n → around_fits K ≡ true) → (t : TypeTree) (read rest : List Marked) → TypeRule (type_hole K) (read ++ rest) t
    → Keeps n read → Good (TypeRule base) n (front ++ spots_of read)
plug_type n base (Bottom d) front f h t read rest r k = record {
  read = read;
  rest = rest;
  tree = t;
  rule = subst (λ e. TypeRule e (read ++ rest) t) f.0 r;
  is = ap (λ z. z ++ spots_of read) (sym f.1);
  keeps = k;
}
plug_type n base (Inside w K) front f h t read rest r k =
    let a = f.0 in let p = f.1 in let q = f.2 in
    let head = node_word (type_hole K) (wrapper_word w) p ∷ sign_at sign.Less q ∷ [] in
    let g = plug_type n base K a f.3 (λ l. and_right (nat_le (type_hole K) 64) (around_fits K) (h l)) (wrapped w t) (head ++ read) (rest ++ sign_at sign.Greater nowhere ∷ [])
    (wrapped_type w p q nowhere (read ++ rest) r (ap (λ z. head ++ z) (sym (append_assoc read rest (sign_at sign.Greater nowhere ∷ [])))))
    (((λ l. le_true (type_hole K) 64 (and_left (nat_le (type_hole K) 64) (around_fits K) (h l))), tt), (tt, k)) in
    let e : a ++ (word_spot (wrapper_word w) p ∷ sign_spot sign.Less q ∷ spots_of read) ≡ front ++ spots_of read =
    sym (ap (λ z. z ++ spots_of read) f.4 ∙ append_assoc a (word_spot (wrapper_word w) p ∷ sign_spot sign.Less q ∷ []) (spots_of read)) in
    subst (Good (TypeRule base) n) e g

good_type : (n base : ℕ) (S : TypeState) (toks : List Spot) → HasReadType base S toks → AliveType S → (5 ≤ n → type_fits S ≡ true) → Good (TypeRule base) n toks
good_type n base (WantType K) toks f a h =
    let g = plug_type n base K toks f h IntType [] (node_word (type_hole K) word.Int nowhere ∷ []) (int_type nowhere) tt in
    subst (Good (TypeRule base) n) (append-nil toks) g
good_type n base (WantLess w K) toks f a h =
    let d = type_hole K in
    let head = node_word d (wrapper_word w) f.1 ∷ [] in
    let g = plug_type n base K f.0 f.2 (λ l. and_right (nat_le d 64) (around_fits K) (h l)) (wrapped w IntType) head
    (sign_at sign.Less nowhere ∷ node_word (suc d) word.Int nowhere ∷ sign_at sign.Greater nowhere ∷ [])
    (wrapped_type w f.1 nowhere nowhere (node_word (suc d) word.Int nowhere ∷ []) (int_type nowhere) refl)
    (((λ l. le_true d 64 (and_left (nat_le d 64) (around_fits K) (h l))), tt), tt) in
    subst (Good (TypeRule base) n) (sym f.3) g
good_type n base (HaveType t K) toks f a h =
    let o = f.rule (type_hole K) in
    let b : 5 ≤ n → type_hole K + type_height t ≤ 65 = λ i. le_true (type_hole K + type_height t) 65 (and_left (nat_le (type_hole K + type_height t) 65) (around_fits K) (h i)) in
    let g = plug_type n base K f.front f.around (λ i. and_right (nat_le (type_hole K + type_height t) 65) (around_fits K) (h i)) t o.marked []
    (subst (λ z. TypeRule (type_hole K) z t) (sym (append-nil o.marked)) o.rule) (o.keeps n b) in
    subst (Good (TypeRule base) n) (ap (λ z. f.front ++ z) o.is ∙ sym f.is) g
good_type n base DeadType toks f a h = absurd a

-- what is derived is read
wrapper_step : (w : Wrapper) (K : Around) (p : Place) → type_step (WantType K) (word_spot (wrapper_word w) p) ≡ WantLess w K
wrapper_step FutureOf K p = refl
wrapper_step FutureStreamOf K p = refl
wrapper_step PromiseOf K p = refl
wrapper_step PromiseStreamOf K p = refl
wrapper_step VectorOf K p = refl

inner_flat : (w : Wrapper) (d : ℕ) (p q r : Place) (of : List Marked) (rest : List Spot)
    → spots_of (node_word d (wrapper_word w) p ∷ sign_at sign.Less q ∷ (of ++ sign_at sign.Greater r ∷ [])) ++ rest ≡ word_spot (wrapper_word w) p ∷ sign_spot sign.Less q
    ∷ (spots_of of ++ (sign_spot sign.Greater r ∷ rest))
inner_flat w d p q r of rest = ap (λ z. word_spot (wrapper_word w) p ∷ sign_spot sign.Less q ∷ z)
    (ap (λ z. z ++ rest) (spots_append of (sign_at sign.Greater r ∷ [])) ∙ append_assoc (spots_of of) (sign_spot sign.Greater r ∷ []) rest)

reads_type : {d : ℕ} {xs : List Marked} {t : TypeTree} → TypeRule d xs t → (K : Around) (rest : List Spot) → feed_type (WantType K) (spots_of xs ++ rest) ≡ feed_type (HaveType t K) rest
reads_type (int_type p) K rest = refl
reads_type (bool_type p) K rest = refl
reads_type (string_type p) K rest = refl
reads_type (void_type p) K rest = refl
reads_type (error_type p) K rest = refl
reads_type (named_type x) K rest = refl
reads_type {d} (wrapped_type {t = t} w p q r of rule e) K rest =
    ap (λ z. feed_type (WantType K) (spots_of z ++ rest)) e
    ∙ ap (feed_type (WantType K)) (inner_flat w d p q r of rest)
    ∙ ap (λ S. feed_type S (sign_spot sign.Less q ∷ (spots_of of ++ (sign_spot sign.Greater r ∷ rest)))) (wrapper_step w K p)
    ∙ reads_type rule (Inside w K) (sign_spot sign.Greater r ∷ rest)

abbrev AlongType : ℕ → TypeState → List Spot → Type 0
AlongType zero S xs = Unit {0}
AlongType (suc j) S [] = Unit {0}
AlongType (suc j) S (x ∷ xs) = (type_fits (type_step S x) ≡ true) × AlongType j (type_step S x) xs

along_is : (i j : ℕ) (S : TypeState) (xs : List Spot) → i ≡ j → AlongType i S xs → AlongType j S xs
along_is i j S xs e a = subst (λ k. AlongType k S xs) e a

along_step : (j : ℕ) (S : TypeState) (x : Spot) (xs : List Spot) → (0 < j → (type_fits (type_step S x) ≡ true) × AlongType (j - 1) (type_step S x) xs) → AlongType j S (x ∷ xs)
along_step zero S x xs f = tt
along_step (suc j) S x xs f = let r = f (omega arith) in let e : suc j - 1 ≡ j = omega arith in (r.0, along_is (suc j - 1) j (type_step S x) xs e r.1)

leaf_fit : (d : ℕ) (x : Marked) (t : TypeTree) (K : Around) (j : ℕ) (rest : List Spot) → type_step (WantType K) x.spot ≡ HaveType t K → type_height t ≡ 1 → x.parts ≡ Node d ∷ [] → type_hole K ≡ d
    → around_fits K ≡ true
    → FirstKeep j (x ∷ []) → (d + type_height t ≤ 65 → AlongType (j - 1) (HaveType t K) rest) → AlongType j (WantType K) (x.spot ∷ rest)
leaf_fit d x t K zero rest s one ps hd fs k c = tt
leaf_fit d x t K (suc j) rest s one ps hd fs k c =
    let b : AllInLimits 5 (Node d ∷ []) = subst (AllInLimits 5) ps k.0 in
    let le : d ≤ 64 = b.0 (omega arith) in
    let a : AlongType (suc j - 1) (HaveType t K) rest = c (omega arith) in
    let e : suc j - 1 ≡ j = omega arith in
    subst (λ S. (type_fits S ≡ true) × AlongType j S rest) (sym s) (and_true (type_hole K + type_height t) 65 (around_fits K) (omega arith) fs, along_is (suc j - 1) j (HaveType t K) rest e a)

fit_type : {d : ℕ} {xs : List Marked} {t : TypeTree} → TypeRule d xs t → (K : Around) → type_hole K ≡ d → around_fits K ≡ true → (j : ℕ) (rest : List Spot) → FirstKeep j xs
    → (d + type_height t ≤ 65 → AlongType (j - length xs) (HaveType t K) rest) → AlongType j (WantType K) (spots_of xs ++ rest)
fit_type {d} (int_type p) K hd fs j rest k c = leaf_fit d (node_word d word.Int p) IntType K j rest refl refl refl hd fs k c
fit_type {d} (bool_type p) K hd fs j rest k c = leaf_fit d (node_word d word.Bool p) BoolType K j rest refl refl refl hd fs k c
fit_type {d} (string_type p) K hd fs j rest k c = leaf_fit d (node_word d word.Str p) StringType K j rest refl refl refl hd fs k c
fit_type {d} (void_type p) K hd fs j rest k c = leaf_fit d (node_word d word.Void p) VoidType K j rest refl refl refl hd fs k c
fit_type {d} (error_type p) K hd fs j rest k c = leaf_fit d (node_word d word.Error p) ErrorType K j rest refl refl refl hd fs k c
fit_type {d} (named_type x) K hd fs j rest k c = leaf_fit d (node_name d x) (NamedType x.name) K j rest refl refl refl hd fs k c
fit_type {d} {xs} (wrapped_type {t = t} w p q r of rule e) K hd fs j rest k c =
    let tail = of ++ sign_at sign.Greater r ∷ [] in
    let whole = node_word d (wrapper_word w) p ∷ sign_at sign.Less q ∷ tail in
    let flat : word_spot (wrapper_word w) p ∷ sign_spot sign.Less q ∷ (spots_of of ++ (sign_spot sign.Greater r ∷ rest)) ≡ spots_of xs ++ rest =
    sym (ap (λ z. spots_of z ++ rest) e ∙ inner_flat w d p q r of rest) in
    let k1 = keep_first j (node_word d (wrapper_word w) p) (sign_at sign.Less q ∷ tail) (subst (FirstKeep j) e k) in
    let k2 = keep_first (j - 1) (sign_at sign.Less q) tail k1.1 in
    let k3 = keep_append (j - 1 - 1) of (sign_at sign.Greater r ∷ []) k2.1 in
    let i : j - length xs ≡ j - 1 - 1 - length of - 1 = omega (arith, ap length e, length-append of (sign_at sign.Greater r ∷ [])) in
    subst (AlongType j (WantType K)) flat
    (along_step j (WantType K) (word_spot (wrapper_word w) p) (sign_spot sign.Less q ∷ (spots_of of ++ (sign_spot sign.Greater r ∷ rest))) (λ z.
    let le : d ≤ 64 = (k1.0 z).0 (omega arith) in
    let fs' : nat_le (type_hole K) 64 && around_fits K ≡ true = and_true (type_hole K) 64 (around_fits K) (omega arith) fs in
    subst (λ S. (type_fits S ≡ true) × AlongType (j - 1) S (sign_spot sign.Less q ∷ (spots_of of ++ (sign_spot sign.Greater r ∷ rest)))) (sym (wrapper_step w K p)) (
      fs',
      along_step (j - 1) (WantLess w K) (sign_spot sign.Less q) (spots_of of ++ (sign_spot sign.Greater r ∷ rest)) (λ y. (
        fs',
        fit_type rule (Inside w K) (omega arith) fs' (j - 1 - 1) (sign_spot sign.Greater r ∷ rest) k3.0 (λ m.
            along_step (j - 1 - 1 - length of) (HaveType t (Inside w K)) (sign_spot sign.Greater r) rest (λ v. (
              and_true (type_hole K + type_height (wrapped w t)) 65 (around_fits K) (omega (arith, wrapped_height w t)) fs,
              along_is (j - length xs) (j - 1 - 1 - length of - 1) (HaveType (wrapped w t) K) rest i (c (omega (arith, wrapped_height w t))),
            ))),
      )),
    )))

-- where a run stops
feed_dead_type : (xs : List Spot) → feed_type DeadType xs ≡ DeadType
feed_dead_type [] = refl
feed_dead_type (x ∷ xs) = feed_dead_type xs

feed_append_type : (xs ys : List Spot) (S : TypeState) → feed_type S (xs ++ ys) ≡ feed_type (feed_type S xs) ys
feed_append_type [] ys S = refl
feed_append_type (x ∷ xs) ys S = feed_append_type xs ys (type_step S x)

alive_or_dead_type : (S : TypeState) → AliveType S ⊎ (S ≡ DeadType)
alive_or_dead_type (WantType K) = inl tt
alive_or_dead_type (WantLess w K) = inl tt
alive_or_dead_type (HaveType t K) = inl tt
alive_or_dead_type DeadType = inr refl

pub type_turn_alive : (k : ℕ) (S T : TypeState) (o : TypeOutcome) → AliveType T → type_turn k S T o ≡ cond (type_fits T) o (TypeDeep k)
type_turn_alive k S (WantType K) o a = refl
type_turn_alive k S (WantLess w K) o a = refl
type_turn_alive k S (HaveType t K) o a = refl
type_turn_alive k S DeadType o a = absurd a

record HaltsType (S : TypeState) (k : ℕ) (xs : List Spot) (o : TypeOutcome) : Type 0 where
  count : ℕ
  within : count ≤ length xs
  alive : AliveType (feed_type S (take count xs))
  fit : type_fits (feed_type S (take count xs)) ≡ true
  stuck : count < length xs → feed_type S (take (suc count) xs) ≡ DeadType
  is : o ≡ type_halt (k + count) (feed_type S (take count xs))

record DeepensType (S : TypeState) (k : ℕ) (xs : List Spot) (o : TypeOutcome) : Type 0 where
  count : ℕ
  within : count < length xs
  before : AliveType (feed_type S (take count xs))
  alive : AliveType (feed_type S (take (suc count) xs))
  fit : type_fits (feed_type S (take count xs)) ≡ true
  deep : type_fits (feed_type S (take (suc count) xs)) ≡ false
  is : o ≡ TypeDeep (k + count)

runs_type : (xs : List Spot) (S : TypeState) (k : ℕ) → AliveType S → type_fits S ≡ true → HaltsType S k xs (type_run k S xs) ⊎ DeepensType S k xs (type_run k S xs)
runs_type [] S k a f = inl (record { count = 0; within = omega arith; alive = a; fit = f; stuck = λ h. absurd (omega arith); is = let e : k ≡ k + 0 = omega arith in ap (λ n. type_halt n S) e })
runs_type (x ∷ xs) S k a f =
    elim (alive_or_dead_type (type_step S x)) [
      | inr d ↦ inl (record {
        count = 0;
        within = omega arith;
        alive = a;
        fit = f;
        stuck = λ h. d;
        is = ap (λ Q. type_turn k S Q (type_run (suc k) (type_step S x) xs)) d ∙ (let e : k ≡ k + 0 = omega arith in ap (λ n. type_halt n S) e);
      })
      | inl l ↦ elim (bool_cases (type_fits (type_step S x))) [
        | inr over ↦ inr (record {
          count = 0;
          within = omega arith;
          before = a;
          alive = l;
          fit = f;
          deep = over;
          is = type_turn_alive k S (type_step S x) (type_run (suc k) (type_step S x) xs) l ∙ ap (λ b. cond b (type_run (suc k) (type_step S x) xs) (TypeDeep k)) over
              ∙ (let e : k ≡ k + 0 = omega arith in ap TypeDeep e);
        })
        | inl okay ↦
            let same : type_run k S (x ∷ xs) ≡ type_run (suc k) (type_step S x) xs =
            type_turn_alive k S (type_step S x) (type_run (suc k) (type_step S x) xs) l ∙ ap (λ b. cond b (type_run (suc k) (type_step S x) xs) (TypeDeep k)) okay in
            elim (runs_type xs (type_step S x) (suc k) l okay) [
              | inl h ↦ inl (record {
                count = suc h.count;
                within = omega (arith, h.within);
                alive = h.alive;
                fit = h.fit;
                stuck = λ z. h.stuck (omega arith);
                is = same ∙ h.is ∙ (let e : suc k + h.count ≡ k + suc h.count = omega arith in ap (λ n. type_halt n (feed_type (type_step S x) (take h.count xs))) e);
              })
              | inr h ↦ inr (record {
                count = suc h.count;
                within = omega (arith, h.within);
                before = h.before;
                alive = h.alive;
                fit = h.fit;
                deep = h.deep;
                is = same ∙ h.is ∙ (let e : suc k + h.count ≡ k + suc h.count = omega arith in ap TypeDeep e);
              })
            ]
      ]
    ]

pub type_settles : {d : ℕ} {xs : List Marked} {t : TypeTree} → TypeRule d xs t → feed_type (WantType (Bottom d)) (spots_of xs) ≡ HaveType t (Bottom d)
type_settles {d} {xs} r = ap (feed_type (WantType (Bottom d))) (sym (append-nil (spots_of xs))) ∙ reads_type r (Bottom d) []

dead_have : (t : TypeTree) (K : Around) → DeadType ≡ HaveType t K → ⊥
dead_have t K h = cc

dead_bad_type : (d n : ℕ) (toks : List Spot) → feed_type (WantType (Bottom d)) toks ≡ DeadType → Good (TypeRule d) n toks → ⊥
dead_bad_type d n toks e g =
    let flat : spots_of (g.read ++ g.rest) ≡ toks ++ spots_of g.rest = spots_append g.read g.rest ∙ ap (λ z. z ++ spots_of g.rest) g.is in
    let dead : feed_type (WantType (Bottom d)) (toks ++ spots_of g.rest) ≡ DeadType =
    feed_append_type toks (spots_of g.rest) (WantType (Bottom d)) ∙ ap (λ S. feed_type S (spots_of g.rest)) e ∙ feed_dead_type (spots_of g.rest) in
    dead_have g.tree (Bottom d) (sym (ap (feed_type (WantType (Bottom d))) flat ∙ dead) ∙ type_settles g.rule)

along_feed : (ys zs : List Spot) (S : TypeState) → type_fits S ≡ true → AlongType (length ys) S (ys ++ zs) → type_fits (feed_type S ys) ≡ true
along_feed [] zs S f a = f
along_feed (y ∷ ys) zs S f a = along_feed ys zs (type_step S y) a.0 a.1

along_nil : (j : ℕ) (S : TypeState) → AlongType j S []
along_nil zero S = tt
along_nil (suc j) S = tt

keeps_first : (xs ys : List Marked) → Keeps 5 xs → FirstKeep (length (spots_of xs)) (xs ++ ys)
keeps_first [] ys k = tt
keeps_first (x ∷ xs) ys k = (k.0, keeps_first xs ys k.1)

good_fits_type : (d : ℕ) (toks : List Spot) → Good (TypeRule d) 5 toks → type_fits (feed_type (WantType (Bottom d)) toks) ≡ true
good_fits_type d toks g =
    let j = length (spots_of g.read) in
    let a = fit_type g.rule (Bottom d) refl refl j [] (keeps_first g.read g.rest g.keeps) (λ h. along_nil (j - length (g.read ++ g.rest)) (HaveType g.tree (Bottom d))) in
    let flat : spots_of (g.read ++ g.rest) ++ [] ≡ spots_of g.read ++ spots_of g.rest = append-nil (spots_of (g.read ++ g.rest)) ∙ spots_append g.read g.rest in
    let b = subst (AlongType j (WantType (Bottom d))) flat a in
    subst (λ z. type_fits (feed_type (WantType (Bottom d)) z) ≡ true) g.is (along_feed (spots_of g.read) (spots_of g.rest) (WantType (Bottom d)) refl b)

-- at most one tree
pub one_type : (d n m : ℕ) (toks : List Spot) (t u : TypeTree) → Derives (TypeRule d) n toks t → Derives (TypeRule d) m toks u → t ≡ u
one_type d n m toks t u a b =
    let w : HaveType t (Bottom d) ≡ HaveType u (Bottom d) = sym (type_settles a.rule) ∙ ap (feed_type (WantType (Bottom d))) (a.is ∙ sym b.is) ∙ type_settles b.rule in
    cc

good_at_type : (d n : ℕ) (toks : List Spot) → AliveType (feed_type (WantType (Bottom d)) toks) → (5 ≤ n → type_fits (feed_type (WantType (Bottom d)) toks) ≡ true) → Good (TypeRule d) n toks
good_at_type d n toks a f = good_type n d (feed_type (WantType (Bottom d)) toks) toks (has_read_type d toks) a f

reads_all_type : (d k : ℕ) (xs : List Spot) (o : TypeOutcome) → (h : HaltsType (WantType (Bottom d)) k xs o) → ReadsAll (TypeRule d) xs h.count
reads_all_type d k xs o h = record {
  within = h.within;
  good = good_at_type d 5 (take h.count xs) h.alive (λ z. h.fit);
  most = λ lt g. dead_bad_type d 2 (take (suc h.count) xs) (h.stuck lt) g;
}

-- what a state halts with
halt_ended : (k : ℕ) (S : TypeState) (u : TypeTree) (j : ℕ) → type_halt k S ≡ TypeEnded u j → (d : ℕ) × (S ≡ HaveType u (Bottom d)) × (k ≡ j)
halt_ended k (HaveType t (Bottom d)) u j h = let e : t ≡ u = cc in (d, ap (λ w. HaveType w (Bottom d)) e, cc)
halt_ended k (HaveType t (Inside w K)) u j h = absurd (cc)
halt_ended k (WantType K) u j h = absurd (cc)
halt_ended k (WantLess w K) u j h = absurd (cc)
halt_ended k DeadType u j h = absurd (cc)

halt_deep : (k : ℕ) (S : TypeState) (j : ℕ) → type_halt k S ≡ TypeDeep j → ⊥
halt_deep k (HaveType t (Bottom d)) j h = cc
halt_deep k (HaveType t (Inside w K)) j h = cc
halt_deep k (WantType K) j h = cc
halt_deep k (WantLess w K) j h = cc
halt_deep k DeadType j h = cc

halt_short : (k : ℕ) (S : TypeState) (j : ℕ) → type_halt k S ≡ TypeShort j → k ≡ j
halt_short k (HaveType t (Bottom d)) j h = absurd (cc)
halt_short k (HaveType t (Inside w K)) j h = cc
halt_short k (WantType K) j h = cc
halt_short k (WantLess w K) j h = cc
halt_short k DeadType j h = cc

ended_short : (u : TypeTree) (k j : ℕ) → TypeEnded u k ≡ TypeShort j → ⊥
ended_short u k j h = cc

deep_ended : (k : ℕ) (u : TypeTree) (j : ℕ) → TypeDeep k ≡ TypeEnded u j → ⊥
deep_ended k u j h = cc

deep_short : (k j : ℕ) → TypeDeep k ≡ TypeShort j → ⊥
deep_short k j h = cc

deep_same : (k j : ℕ) → TypeDeep k ≡ TypeDeep j → k ≡ j
deep_same k j h = cc

true_false : (b : Bool) → b ≡ true → b ≡ false → ⊥
true_false b x y = cc

whole_type : (base d : ℕ) (xs : List Spot) (u : TypeTree) → feed_type (WantType (Bottom base)) xs ≡ HaveType u (Bottom d) → type_fits (feed_type (WantType (Bottom base)) xs) ≡ true
    → Derives (TypeRule base) 5 xs u
whole_type base d xs u e f =
    let h : TypeHave base u (Bottom d) xs = subst (λ S. HasReadType base S xs) e (has_read_type base xs) in
    let o = h.rule base in
    let b : nat_le (d + type_height u) 65 && true ≡ true = sym (ap type_fits e) ∙ f in
    let le : d + type_height u ≤ 65 = le_true (d + type_height u) 65 (and_left (nat_le (d + type_height u) 65) true b) in
    record { marked = o.marked; rule = o.rule; is = o.is ∙ sym (h.is ∙ ap (λ z. z ++ h.own) h.around.1); keeps = o.keeps 5 (λ z. omega (arith, h.around.0, le)) }

pub ended_type : (t : Tokens) (from d : ℕ) (u : TypeTree) (j : ℕ) → type_run from (WantType (Bottom d)) (drop from t.spots.items) ≡ TypeEnded u j → IsRead (TypeRule d) t from u j
ended_type t from d u j e =
    let xs = drop from t.spots.items in
    elim (runs_type xs (WantType (Bottom d)) from tt refl) [
      | inl h ↦
          let S = feed_type (WantType (Bottom d)) (take h.count xs) in
          let r = halt_ended (from + h.count) S u j (sym h.is ∙ e) in
          let n : h.count ≡ j - from = omega (arith, r.2) in
          record {
            after = omega (arith, r.2);
            reads = subst (ReadsAll (TypeRule d) xs) n (reads_all_type d from xs _ h);
            derived = subst (λ i. Derives (TypeRule d) 5 (take i xs) u) n (whole_type d r.0 (take h.count xs) u r.1 h.fit);
          }
      | inr h ↦ absurd (deep_ended (from + h.count) u j (sym h.is ∙ e))
    ]

pub short_type : (t : Tokens) (from d : ℕ) (at : Place) (j : ℕ) → type_run from (WantType (Bottom d)) (drop from t.spots.items) ≡ TypeShort j → at ≡ place_at t j → IsMissing (TypeRule d) t from at
short_type t from d at j e p =
    let xs = drop from t.spots.items in
    elim (runs_type xs (WantType (Bottom d)) from tt refl) [
      | inl h ↦
          let S = feed_type (WantType (Bottom d)) (take h.count xs) in
          let s = sym h.is ∙ e in
          record {
            count = h.count;
            reads = reads_all_type d from xs _ h;
            nothing = λ u w. let q : S ≡ HaveType u (Bottom d) = ap (feed_type (WantType (Bottom d))) (sym w.is)
                ∙ type_settles w.rule in ended_short u (from + h.count) j (sym (ap (type_halt (from + h.count)) q) ∙ s);
            place = p ∙ ap (place_at t) (sym (halt_short (from + h.count) S j s));
          }
      | inr h ↦ absurd (deep_short (from + h.count) j (sym h.is ∙ e))
    ]

pub deep_type : (t : Tokens) (from d : ℕ) (at : Place) (j : ℕ) → type_run from (WantType (Bottom d)) (drop from t.spots.items) ≡ TypeDeep j → at ≡ place_at t j → IsTooDeep (TypeRule d) t from at
deep_type t from d at j e p =
    let xs = drop from t.spots.items in
    elim (runs_type xs (WantType (Bottom d)) from tt refl) [
      | inl h ↦ absurd (halt_deep (from + h.count) (feed_type (WantType (Bottom d)) (take h.count xs)) j (sym h.is ∙ e))
      | inr h ↦ record {
        number = h.count;
        deep = record {
          within = h.within;
          read = good_at_type d 2 (take (suc h.count) xs) h.alive (λ z. absurd (omega arith));
          before = good_at_type d 5 (take h.count xs) h.before (λ z. h.fit);
          deep = λ g. true_false (type_fits (feed_type (WantType (Bottom d)) (take (suc h.count) xs))) (good_fits_type d (take (suc h.count) xs) g) h.deep;
        };
        place = p ∙ ap (place_at t) (sym (deep_same (from + h.count) j (sym h.is ∙ e)));
      }
    ]
