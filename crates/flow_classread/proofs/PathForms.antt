-- Paths of class text.
use Rattle.std.proofs.Common.{◌≡◌, ℕ, ◌+◌, ◌≤◌, List, [], ◌∷◌, ◌++◌, length, refl, sym, ap, ◌∙◌, subst, arith}
use Rattle.std.specs.Option.{option_map}
use Rattle.std.specs.declared.option.Option.{Option}
use Rattle.std.specs.declared.option.Option.TheVariants.{None, Some}
use Rattle.flow_tree.specs.declared.limits.TheConstants.{OF_CLASS_TEXT}
use Rattle.flow_tree.specs.declared.fault.Rule.TheVariants as rule
use Rattle.flow_tree.specs.declared.fault.SourceFault.TheVariants.{Refused}
use Rattle.flow_tree.specs.declared.token.Token.{Token}
use Rattle.flow_tree.specs.declared.token.Token.TheVariants as token
use Rattle.flow_tree.specs.declared.token.Sign.TheVariants as sign
use Rattle.flow_tree.specs.declared.token.Tokens.{Tokens}
use Rattle.flow_tree.specs.declared.ty.Ident.{Ident}
use Rattle.flow_tree.specs.GrammarToken.{Marked}
use Rattle.flow_tree.specs.Grammar.{sign_at, name_at}
use Rattle.flow_tree.specs.GrammarStmt.{PathRule, last_name, more_names}
use Rattle.flow_tree.specs.GrammarAnswer.{place_at}
use Rattle.flow_exprs.specs.Answer.{ident_at}
use Rattle.flow_exprs.proofs.Goes.{nowhere}
use Rattle.flow_parse.specs.Reading.{token_at, Named, Then, Any, Reads}
use Rattle.flow_parse.specs.Failing.{Fails}
use Rattle.flow_parse.specs.Follow.{NotBefore}
use Rattle.flow_parse.specs.Parts.{MoreNames}
use Rattle.flow_parse.proofs.Looking.{Looks, Back}
use Rattle.flow_parse.proofs.Begins.{looks_is}
use Rattle.flow_parse.proofs.Exact.{spot_name}
use Rattle.flow_parse.proofs.Failing.{Inhabited}
use Rattle.flow_parse.proofs.Inhabitants.{some_names, some_named}
use Rattle.flow_parse.proofs.Leaves.{Leaves, Turns, free, nothing, narrow, then_reads, name_reads, name_token, nameless, none_fails}
use Rattle.flow_class.specs.declared.class.Slotted.{Slotted}
use Rattle.flow_class.specs.declared.class.Slotted.TheVariants.{Slot, Local}
use Rattle.flow_class.specs.Places.{place_name, place_named, small_place}
use Rattle.flow_class.proofs.Numbers.{place_back}
use Rattle.flow_classprint.specs.ClassGrammar.{IsPlace, VarPathRule, var_path, CalleeRule, callee, method}
use Rattle.flow_classread.specs.Parts.{SinglePart}
use Rattle.flow_classread.specs.Tokens.{place_in, if_there, place_ident_at}
use Rattle.flow_classread.proofs.Places.{place_is, small_back}
use Rattle.flow_classread.proofs.Equal.{one_then}

-- a name of a place with a number below 2^32
abbrev pub IsPlaceName : List ℕ → Type 0
IsPlaceName x = (p : Slotted) × (place_named x ≡ Some p) × IsPlace p

abbrev pub PlaceNamed : List Marked → Ident → Type 0
PlaceNamed w x = IsPlaceName x.name × Named w x

shows : (x : List ℕ) (p : Slotted) → place_named x ≡ Some p → IsPlace p → small_place (place_named x) ≡ Some p
shows x (Slot n) e h = ap small_place e ∙ ap (λ o. option_map Slot o) (small_back n h)
shows x (Local n) e h = ap small_place e ∙ ap (λ o. option_map Local o) (small_back n h)

place_name_is : (x : List ℕ) (p : Slotted) → place_in (Some (token.Name x)) ≡ Some p → IsPlaceName x
place_name_is x p e =
    let r = place_is (Some (token.Name x)) p e in
    let f : x ≡ place_name p = let g = r.1 in cc in
    (p, ap place_named f ∙ back p r.0, r.0)
  where
    back : (p : Slotted) → IsPlace p → place_named (place_name p) ≡ Some p
    back (Slot n) h = place_back (Slot n) (omega (arith, h))
    back (Local n) h = place_back (Local n) (omega (arith, h))

-- the first name of a path
path_head : {w : List Marked} {xs : List Ident} → PathRule w xs → (x : Ident) × (ys : List Ident) × (m : List Marked) × (xs ≡ x ∷ ys) × (w ≡ name_at x ∷ m)
path_head (last_name x) = (x, [], [], refl, refl)
path_head (more_names {xs} x p more r e) = (x, xs, sign_at sign.Dot p ∷ more, refl, e)

same_name : (x y : Ident) (m k : List Marked) → name_at x ∷ m ≡ name_at y ∷ k → x ≡ y
same_name x y m k e = spot_name x y (head e)
  where
    head : name_at x ∷ m ≡ name_at y ∷ k → (name_at x).spot ≡ (name_at y).spot
    head e = let f : name_at x ≡ name_at y = cc in ap (λ z. z.spot) f

named_path : (x : Ident) (rest : List Marked) (xs : List Ident) → IsPlaceName x.name → MoreNames x rest xs → VarPathRule (name_at x ∷ rest) xs
named_path x rest xs h r =
    let k = path_head r in
    let e : k.0 ≡ x = sym (same_name x k.0 rest k.2 k.4) in
    let q : PathRule (name_at x ∷ rest) (k.0 ∷ k.1) = subst (PathRule (name_at x ∷ rest)) k.3 r in
    subst (VarPathRule (name_at x ∷ rest)) (sym k.3) (var_path h.0 (ap (λ y. place_named y.name) e ∙ h.1) h.2 q)

path_parts : {w : List Marked} {x : Ident} {xs : List Ident} → IsPlaceName x.name → PathRule w (x ∷ xs) → (y : Ident × List Ident) × Then PlaceNamed MoreNames w y × (x ∷ xs ≡ y.1)
path_parts {w} {x} {xs} h r =
    let k = path_head r in
    let e : x ≡ k.0 = let f = k.3 in cc in (
      (k.0, x ∷ xs),
      record {
        first = name_at k.0 ∷ [];
        rest = k.2;
        is = k.4;
        front = (subst (λ y. IsPlaceName y.name) e h, refl);
        back = subst (λ z. PathRule z (x ∷ xs)) k.4 r;
      },
      refl,
    )

same_not : {A B : Type 0} (t : Token) (a : A) (b : B) (z : List Marked) → NotBefore t a z → NotBefore t b z
same_not t a b [] f = tt
same_not t a b (x ∷ z) f = f

path_turns : (o : Option Token) → Turns VarPathRule (NotBefore (token.Sign sign.Dot)) (Then PlaceNamed MoreNames) (λ y. NotBefore (token.Sign sign.Dot) y.1) (λ y. y.1) o
path_turns o = record {
  back = λ w z b r f l. of w z b f r;
  forth = λ w y r. subst (λ k. VarPathRule k y.1) (sym (one_then r.is r.front.1 refl)) (named_path y.0 r.rest y.1 r.front.0 r.back);
}
  where
    of : (w z : List Marked) (b : List Ident) → NotBefore (token.Sign sign.Dot) b z → VarPathRule w b
        → Back VarPathRule (NotBefore (token.Sign sign.Dot)) (Then PlaceNamed MoreNames) (λ y. NotBefore (token.Sign sign.Dot) y.1) (λ y. y.1) w z b
    of w z b f (var_path p e h r) = let k = path_parts (p, e, h) r in record { tree = k.0; rule = k.1; is = k.2; follows = same_not (token.Sign sign.Dot) b k.0.1 z f }

-- which name stands here
there : (o : Option Slotted) (x : Option Ident) (y : Ident) → if_there o x ≡ Some y → (p : Slotted) × (o ≡ Some p) × (x ≡ Some y)
there None x y e = absurd (cc)
there (Some p) x y e = (p, refl, e)

named_reads : (t : Tokens) (at : ℕ) (x : Ident) → IsPlaceName x.name → Reads OF_CLASS_TEXT Named Any t.spots.items at x (at + 1) → Reads OF_CLASS_TEXT PlaceNamed Any t.spots.items at x (at + 1)
named_reads t at x h r = record {
  after = r.after;
  within = r.within;
  marked = r.marked;
  rule = (h, r.rule);
  is = r.is;
  keeps = r.keeps;
  only = λ n j w z b q f lt s. r.only n j w z b q.1 f lt s;
}

pub some_path : Inhabited VarPathRule
some_path =
    let x : Ident = record { name = place_name (Slot 0); at = nowhere } in
    record { marked = name_at x ∷ []; tree = x ∷ []; rule = var_path (Slot 0) (place_back (Slot 0) (omega arith)) (omega arith) (last_name x) }

module _ (t : Tokens) (at : ℕ) (within : at ≤ length t.spots.items) where
  pub path_left : (x : Ident) → place_ident_at t.spots.items at ≡ Some x
      → Leaves OF_CLASS_TEXT VarPathRule (NotBefore (token.Sign sign.Dot)) (MoreNames x) (NotBefore (token.Sign sign.Dot)) (λ xs. xs) t.spots.items at (at + 1)
  path_left x e =
      let k = there (place_in (token_at t.spots.items at)) (ident_at t.spots.items at) x e in
      let o = name_token t at x k.2 in
      let h = place_name_is x.name k.0 (ap place_in (sym o) ∙ k.1) in
      then_reads OF_CLASS_TEXT t.spots.items (free some_names)
      (narrow OF_CLASS_TEXT t.spots.items refl (path_turns (token_at t.spots.items at)) (nothing OF_CLASS_TEXT t.spots.items VarPathRule (NotBefore (token.Sign sign.Dot)) at within))
      (named_reads t at x h (name_reads OF_CLASS_TEXT t at x k.2))

  gone : (o : Option Slotted) (x : Option Ident) (y : Slotted) → if_there o x ≡ None → o ≡ Some y → x ≡ None
  gone None x y e f = absurd (cc)
  gone (Some p) x y e f = e

  no_path : (w z : List Marked) (b : List Ident) → place_ident_at t.spots.items at ≡ None → VarPathRule w b → Looks (token_at t.spots.items at) (w ++ z) → ⊥
  no_path w z b e (var_path {x} {xs} p f h r) l =
      let k = path_head r in
      let same : x ≡ k.0 = let g = k.3 in cc in
      let o = looks_is (token_at t.spots.items at) (name_at k.0) k.2 z k.4 l in
      let q : place_in (token_at t.spots.items at) ≡ Some p = ap place_in o ∙ ap (λ y. small_place (place_named y.name)) (sym same) ∙ shows x.name p f h in
      nameless t at (gone (place_in (token_at t.spots.items at)) (ident_at t.spots.items at) p e q) k.0.name o

  pub path_fails : place_ident_at t.spots.items at ≡ None → Fails OF_CLASS_TEXT VarPathRule (NotBefore (token.Sign sign.Dot)) t at (Refused (rule.S 5) (place_at t at))
  path_fails e = none_fails OF_CLASS_TEXT VarPathRule (NotBefore (token.Sign sign.Dot)) t at some_path (λ w z b r f l. no_path w z b e r l)

-- what is called
alone : {w : List Marked} {x : Ident} (xs : List Ident) → VarPathRule w (x ∷ xs) → CalleeRule w (x ∷ xs)
alone [] (var_path p e h r) = only r
  where
    empty : {w : List Marked} {ys : List Ident} → PathRule w ys → ys ≡ [] → ⊥
    empty r e = let k = path_head r in let f = sym k.3 ∙ e in cc

    only : {w : List Marked} {x : Ident} → PathRule w (x ∷ []) → CalleeRule w (x ∷ [])
    only (last_name x) = callee x
    only (more_names x p more r e) = absurd (empty r refl)
alone (y ∷ ys) r = method r

path_callee : {w : List Marked} {xs : List Ident} → VarPathRule w xs → CalleeRule w xs
path_callee (var_path {xs = xs} p e h r) = alone xs (var_path p e h r)

pub place_callee : (o : Option Token) (p : Slotted) → place_in o ≡ Some p → Turns CalleeRule (NotBefore (token.Sign sign.Dot)) VarPathRule (NotBefore (token.Sign sign.Dot)) (λ xs. xs) o
place_callee o p e = record { back = λ w z b r f l. record { tree = b; rule = of z r l; is = refl; follows = f }; forth = λ w xs r. path_callee r }
  where
    of : {w : List Marked} {b : List Ident} (z : List Marked) → CalleeRule w b → Looks o (w ++ z) → VarPathRule w b
    of z (callee x) l =
        let f : o ≡ Some (token.Name x.name) = looks_is o (name_at x) [] z refl l in
        let h = place_name_is x.name p (ap place_in (sym f) ∙ e) in
        var_path h.0 h.1 h.2 (last_name x)
    of z (method r) l = r

pub plain_callee : (o : Option Token) → place_in o ≡ None → Turns CalleeRule (NotBefore (token.Sign sign.Dot)) SinglePart Any (λ xs. xs) o
plain_callee o e = record {
  back = λ w z b r f l. record { tree = b; rule = of z r l; is = refl; follows = tt };
  forth = λ w xs r. subst (CalleeRule w) (sym r.2) (subst (λ k. CalleeRule k (r.0 ∷ [])) (sym r.1) (callee r.0));
}
  where
    nope : {w : List Marked} {b : List Ident} (z : List Marked) → VarPathRule w b → Looks o (w ++ z) → ⊥
    nope z (var_path {x} {xs} p f h r) l =
        let k = path_head r in
        let same : x ≡ k.0 = let g = k.3 in cc in
        let q = looks_is o (name_at k.0) k.2 z k.4 l in
        let s : None ≡ Some p = sym e ∙ ap place_in q ∙ ap (λ y. small_place (place_named y.name)) (sym same) ∙ shows x.name p f h in
        cc

    of : {w : List Marked} {b : List Ident} (z : List Marked) → CalleeRule w b → Looks o (w ++ z) → SinglePart w b
    of z (callee x) l = (x, refl, refl)
    of z (method r) l = absurd (nope z r l)

pub some_callee : Inhabited CalleeRule
some_callee = record { marked = name_at (some_named.tree) ∷ []; tree = some_named.tree ∷ []; rule = callee some_named.tree }
