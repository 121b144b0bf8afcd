-- Whole expressions: what is read of them, and where a variable with too great a number stops them.
use Rattle.std.proofs.Common.{◌≡◌, ℕ, zero, suc, ◌+◌, ◌≤◌, Bool, true, false, ◌&&◌, List, [], ◌∷◌, ◌++◌, length, take, drop, refl, sym, ap, ◌∙◌, subst, arith, append_assoc, ◌⊎◌, inl, inr}
use Rattle.std.specs.Prelude.{nat_le}
use Rattle.std.specs.declared.option.Option.TheVariants.{Some}
use Rattle.std.proofs.lemmas.List.{append-nil, take-append-drop}
use Rattle.flow_base.specs.declared.place.Place.{Place}
use Rattle.flow_tree.specs.declared.limits.Limits.{Limits}
use Rattle.flow_tree.specs.declared.limits.TheConstants.{OF_PROGRAMS, OF_CLASS_TEXT}
use Rattle.flow_tree.specs.declared.token.Token.{Token}
use Rattle.flow_tree.specs.declared.token.Token.TheVariants as token
use Rattle.flow_tree.specs.declared.token.Sign.TheVariants as sign
use Rattle.flow_tree.specs.declared.token.Spot.{Spot}
use Rattle.flow_tree.specs.Tree.{ExprTree, VarExpr, NoExprs}
use Rattle.flow_tree.specs.GrammarToken.{Marked, spots_of, KeepsOf, Good, GoodOf}
use Rattle.flow_tree.specs.Grammar.{ExprRule}
use Rattle.flow_exprs.specs.Machine.{Function, Stack, State, Top, InArgs, Want, Have, WantArgs, WantName, WantOpen, WantClose, Dead, step, step_kind, hole, fits, fits_stack, ident}
use Rattle.flow_exprs.specs.Kinds.{kind_of}
use Rattle.flow_exprs.proofs.Sound.{HasRead, sign_spot}
use Rattle.flow_exprs.proofs.Goes.{Alive, good_state, feed, has_read, feed_append, alive_or_dead}
use Rattle.flow_exprs.proofs.Outcomes.{dead_bad, good_fits}
use Rattle.flow_parse.proofs.Nodes.{nodes_front, expr_nodes, depth_keeps}
use Rattle.flow_parse.proofs.Spots.{spots_take}
use Rattle.flow_parse.proofs.Verdict.{fewer}
use Rattle.flow_classprint.specs.ClassGrammar.{WholeRule}
use Rattle.flow_classread.specs.Strays.{is_far}
use Rattle.flow_classread.proofs.FreeForms.{Opens, FreeMarks, is_dot, free_expr}
use Rattle.flow_classread.proofs.Renamed.{plain, plain_token, renamed, front_alike}

-- the limit of depth is the same in all texts
pub other_limits : (limits : Limits) (n : ℕ) (toks : List Spot) → GoodOf limits (ExprRule 0 1) n toks → Good (ExprRule 0 1) n toks
other_limits limits n toks g = record {
  read = g.read;
  rest = g.rest;
  tree = g.tree;
  rule = g.rule;
  is = g.is;
  keeps = depth_keeps limits OF_PROGRAMS n g.read (nodes_front g.read g.rest (expr_nodes g.rule)) (λ l. fewer limits 5 n g.read l g.keeps);
}

pub class_limits : (n : ℕ) (toks : List Spot) → Good (ExprRule 0 1) n toks → GoodOf OF_CLASS_TEXT (ExprRule 0 1) n toks
class_limits n toks g = record {
  read = g.read;
  rest = g.rest;
  tree = g.tree;
  rule = g.rule;
  is = g.is;
  keeps = depth_keeps OF_PROGRAMS OF_CLASS_TEXT n g.read (nodes_front g.read g.rest (expr_nodes g.rule)) (λ l. fewer OF_PROGRAMS 5 n g.read l g.keeps);
}

fit_at : (n : ℕ) (toks : List Spot) → Good (ExprRule 0 1) n toks → 5 ≤ n → fits (feed (Want (Top 1)) toks) ≡ true
fit_at n toks g l = good_fits 1 toks (record { read = g.read; rest = g.rest; tree = g.tree; rule = g.rule; is = g.is; keeps = fewer OF_PROGRAMS 5 n g.read l g.keeps })

-- behind a name that is no field a bracket may open
record Named (S : State) (x : Spot) : Type 0 where
  stack : Stack
  is : step S x ≡ Have (VarExpr (ident x)) stack

name_step : (S : State) (x : Spot) (m : List ℕ) → x.token ≡ token.Name m → Alive (step S x) → ((t : ExprTree) (K : Stack) → S ≡ WantName t K → ⊥) → Named S x
name_step S x m e a nope = of S refl
  where
    kind : kind_of x.token ≡ kind_of (token.Name m)
    kind = ap kind_of e

    dead : (T : State) → S ≡ T → step_kind T (kind_of (token.Name m)) x ≡ Dead → Named S x
    dead T f g = absurd (subst Alive (ap (λ U. step_kind U (kind_of x.token) x) f ∙ ap (λ k. step_kind T k x) kind ∙ g) a)

    named : (T : State) (K : Stack) → S ≡ T → step_kind T (kind_of (token.Name m)) x ≡ Have (VarExpr (ident x)) K → Named S x
    named T K f g = record { stack = K; is = ap (λ U. step_kind U (kind_of x.token) x) f ∙ ap (λ k. step_kind T k x) kind ∙ g }

    of : (T : State) → S ≡ T → Named S x
    of (Want K) f = named (Want K) K f refl
    of (Have t K) f = dead (Have t K) f refl
    of (WantArgs h K) f = named (WantArgs h K) (InArgs h NoExprs K) f refl
    of (WantName t K) f = absurd (nope t K f)
    of (WantOpen K) f = dead (WantOpen K) f refl
    of (WantClose K) f = dead (WantClose K) f refl
    of Dead f = dead Dead f refl

alive_now : (n : ℕ) (toks : List Spot) → Good (ExprRule 0 1) n toks → Alive (feed (Want (Top 1)) toks)
alive_now n toks g = elim (alive_or_dead (feed (Want (Top 1)) toks)) [
  | inl a ↦ a
  | inr d ↦ absurd (dead_bad 1 n toks d g)
]

-- the last of these tokens is a dot
abbrev pub EndsInDot : List Spot → Type 0
EndsInDot toks = (front : List Spot) × (p : Place) × (toks ≡ front ++ sign_spot sign.Dot p ∷ [])

after_dot : (pre : List Spot) (t : ExprTree) (K : Stack) → feed (Want (Top 1)) pre ≡ WantName t K → EndsInDot pre
after_dot pre t K e =
    let h = subst (λ S. HasRead 1 S pre) e (has_read 1 pre) in
    (h.0 ++ h.1, h.2, h.5 ∙ sym (append_assoc h.0 h.1 (sign_spot sign.Dot h.2 ∷ [])))

open_fits : (a : ℕ) (b : Bool) → nat_le (a + 1) 65 && b ≡ true → nat_le (a + 0) 64 && b ≡ true
open_fits a b h = grind arith

pub opened : (n : ℕ) (pre : List Spot) (x : Spot) (m : List ℕ) (p : Place) → x.token ≡ token.Name m → (EndsInDot pre → ⊥) → Good (ExprRule 0 1) n (pre ++ x ∷ [])
    → Good (ExprRule 0 1) n ((pre ++ x ∷ []) ++ sign_spot sign.OpenRound p ∷ [])
opened n pre x m p e nope g =
    let toks = pre ++ x ∷ [] in
    let S = feed (Want (Top 1)) pre in
    let last : feed (Want (Top 1)) toks ≡ step S x = feed_append pre (x ∷ []) (Want (Top 1)) in
    let k = name_step S x m e (subst Alive last (alive_now n toks g)) (λ t K f. nope (after_dot pre t K f)) in
    let have = last ∙ k.is in
    let next : feed (Want (Top 1)) (toks ++ sign_spot sign.OpenRound p ∷ []) ≡ WantArgs (Function (ident x)) k.stack =
    feed_append toks (sign_spot sign.OpenRound p ∷ []) (Want (Top 1)) ∙ ap (λ T. step T (sign_spot sign.OpenRound p)) have in
    good_state n 1 (WantArgs (Function (ident x)) k.stack) (toks ++ sign_spot sign.OpenRound p ∷ [])
    (subst (λ T. HasRead 1 T (toks ++ sign_spot sign.OpenRound p ∷ [])) next (has_read 1 (toks ++ sign_spot sign.OpenRound p ∷ []))) tt
    (λ l. open_fits (hole k.stack) (fits_stack k.stack) (sym (ap fits have) ∙ fit_at n toks g l))

-- tokens each far name of which stands behind a dot or before a bracket
abbrev pub OpenSpots : List Spot → Type 0
OpenSpots [] = ⊥
OpenSpots (y ∷ ys) = y.token ≡ token.Sign sign.OpenRound

abbrev pub FreeSpots : (dotted : Bool) → List Spot → Type 0
FreeSpots d [] = Unit {0}
FreeSpots d (x ∷ xs) = (is_far (Some x.token) ≡ true → (d ≡ true) ⊎ OpenSpots xs) × FreeSpots (is_dot x.token) xs

plain_near : (t : Token) → is_far (Some (plain_token t)) ≡ true → ⊥
plain_near (token.Name m) e = cc
plain_near (token.Number m) e = cc
plain_near (token.Text m) e = cc
plain_near (token.Word m) e = cc
plain_near (token.Sign m) e = cc

plain_free : (d : Bool) (m : List Marked) → FreeMarks d (plain m)
plain_free d [] = tt
plain_free d (x ∷ m) = ((λ e. absurd (plain_near x.spot.token e)), plain_free (is_dot (plain_token x.spot.token)) m)

open_marks : (m k : List Marked) → OpenSpots (spots_of m) → Opens (m ++ k)
open_marks [] k h = absurd h
open_marks (x ∷ m) k h = h

pub free_marks : (d : Bool) (m k : List Marked) → FreeSpots d (spots_of m) → FreeMarks d (m ++ plain k)
free_marks d [] k h = plain_free d k
free_marks d (x ∷ m) k h = (
  (λ e. elim (h.0 e) [
    | inl g ↦ inl g
    | inr o ↦ inr (open_marks m (plain k) o)
  ]),
  free_marks (is_dot x.spot.token) m k h.1,
)

-- such tokens that begin an expression begin a whole one
pub whole_good : (n : ℕ) (toks : List Spot) → FreeSpots false toks → GoodOf OF_CLASS_TEXT (ExprRule 0 1) n toks → GoodOf OF_CLASS_TEXT WholeRule n toks
whole_good n toks f g =
    let r = renamed g.rule (g.read ++ plain g.rest) (front_alike g.read g.rest) in
    let h = subst (FreeMarks false) (sym (append-nil (g.read ++ plain g.rest))) (free_marks false g.read g.rest (subst (FreeSpots false) (sym g.is) f)) in
    let e = free_expr r.1 [] (λ x. x) h in
    record { read = g.read; rest = plain g.rest; tree = r.0; rule = record { rule = r.1; free = e.0 }; is = g.is; keeps = g.keeps }

-- fewer tokens begin what more begin
keeps_first : (n k : ℕ) (xs : List Marked) → KeepsOf OF_CLASS_TEXT n xs → KeepsOf OF_CLASS_TEXT n (take k xs)
keeps_first n zero xs h = tt
keeps_first n (suc k) [] h = tt
keeps_first n (suc k) (x ∷ xs) h = (h.0, keeps_first n k xs h.1)

pub shrink : {A : Type 0} {R : List Marked → A → Type 0} (n k : ℕ) (toks : List Spot) → GoodOf OF_CLASS_TEXT R n toks → GoodOf OF_CLASS_TEXT R n (take k toks)
shrink {R = R} n k toks g = record {
  read = take k g.read;
  rest = drop k g.read ++ g.rest;
  tree = g.tree;
  rule = subst (λ z. R z g.tree) (ap (λ z. z ++ g.rest) (sym (take-append-drop k g.read)) ∙ append_assoc (take k g.read) (drop k g.read) g.rest) g.rule;
  is = spots_take k g.read ∙ ap (take k) g.is;
  keeps = keeps_first n k g.read g.keeps;
}

take_length : (xs ys : List Spot) → take (length xs) (xs ++ ys) ≡ xs
take_length [] ys = refl
take_length (x ∷ xs) ys = ap (λ z. x ∷ z) (take_length xs ys)

-- a last far name that no dot stands before
pub stray_good : (n : ℕ) (pre : List Spot) (x : Spot) (m : List ℕ) → x.token ≡ token.Name m → (EndsInDot pre → ⊥) → FreeSpots false ((pre ++ x ∷ []) ++ sign_spot sign.OpenRound x.at ∷ [])
    → GoodOf OF_CLASS_TEXT (ExprRule 0 1) n (pre ++ x ∷ []) → GoodOf OF_CLASS_TEXT WholeRule n (pre ++ x ∷ [])
stray_good n pre x m e nope f g =
    let more = (pre ++ x ∷ []) ++ sign_spot sign.OpenRound x.at ∷ [] in
    let o = class_limits n more (opened n pre x m x.at e nope (other_limits OF_CLASS_TEXT n (pre ++ x ∷ []) g)) in
    subst (GoodOf OF_CLASS_TEXT WholeRule n) (take_length (pre ++ x ∷ []) (sign_spot sign.OpenRound x.at ∷ [])) (shrink n (length (pre ++ x ∷ [])) more (whole_good n more f o))
