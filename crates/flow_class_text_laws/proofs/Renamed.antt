-- An expression of a program is one of a class: at a lesser depth, and over places.
use Rattle.std.proofs.Common.{◌≤◌, ℕ, suc, List, [], ◌∷◌, ◌++◌, refl, subst, arith}
use Rattle.flow_tree.specs.declared.limits.TheConstants.{DEPTH}
use Rattle.flow_tree.specs.declared.token.Token.TheVariants as token
use Rattle.flow_tree.specs.declared.token.Sign.TheVariants as sign
use Rattle.flow_tree.specs.declared.ty.Ident.{Ident}
use Rattle.flow_tree.specs.Tree.{ExprTree, ExprTrees}
use Rattle.flow_tree.specs.Decls.{SlotTree}
use Rattle.flow_tree.specs.GrammarToken.{Part, Node, Marked, begin}
use Rattle.flow_tree.specs.Grammar.{sign_at, name_at, op_sign, ExprRule, ArgsRule, MoreArgsRule, number, text, truth, falsehood, void, variable, call, paren, field, method, index, negation, minus, binary, no_args, some_args, end_args, more_args}
use Rattle.flow_class.specs.Places.{place_named}
use Rattle.flow_class.specs.Scopes.{Scope, ident_over, over, over_all}
use Rattle.flow_classprint.specs.ClassGrammar.{IsFree, AreFree, AllAreFree, IsSpelled}
use Rattle.flow_class_text_laws.proofs.Writable.{Derived}
use Rattle.flow_class_text_laws.proofs.Spelled.{AreTokens, both_are}

pub are_front : (xs ys : List Marked) → AreTokens (xs ++ ys) → AreTokens xs
are_front [] ys h = tt
are_front (x ∷ xs) ys h = (h.0, are_front xs ys h.1)

pub are_back : (xs ys : List Marked) → AreTokens (xs ++ ys) → AreTokens ys
are_back [] ys h = h
are_back (x ∷ xs) ys h = are_back xs ys h.1

pub unbegin : (part : Part) (xs : List Marked) → AreTokens (begin part xs) → AreTokens xs
unbegin part [] h = tt
unbegin part (x ∷ xs) h = ((h.0.0, h.0.1.1), h.1)

pub rebegin : (d : ℕ) (xs : List Marked) → d ≤ DEPTH → AreTokens xs → AreTokens (begin (Node d) xs)
rebegin d [] l h = tt
rebegin d (x ∷ xs) l h = ((h.0.0, ((λ j. l), h.0.1)), h.1)

-- no expression stands deeper than its first token says
deep : {k d : ℕ} {ts : List Marked} {e : ExprTree} → ExprRule k d ts e → AreTokens ts → d ≤ DEPTH
deep (call f p q args r e) h = (subst AreTokens e h).0.1.0 (omega arith)
deep (paren p q of r e) h = (subst AreTokens e h).0.1.0 (omega arith)
deep (field p x of r e) h = let inner = deep r (unbegin _ of (are_front _ _ (subst AreTokens e h))) in omega (arith, inner)
deep (method p q r f of args a b e) h = let inner = deep a (unbegin _ of (are_front _ _ (subst AreTokens e h))) in omega (arith, inner)
deep (index p q of at a b e) h = let inner = deep a (unbegin _ of (are_front _ _ (subst AreTokens e h))) in omega (arith, inner)
deep (negation p of l r e) h = (subst AreTokens e h).0.1.0 (omega arith)
deep (minus p of l r e) h = (subst AreTokens e h).0.1.0 (omega arith)
deep (binary op p left right l a b e) h = let inner = deep a (unbegin _ left (are_front _ _ (subst AreTokens e h))) in omega (arith, inner)
deep _ h = h.0.1.0 (omega arith)

-- each name that can be spelled is over places one that can be, whose place has a small number
module _ (slots : List SlotTree) (s : Scope)
    (good : (x : Ident) → IsSpelled (token.Name x.name) → IsSpelled (token.Name (ident_over slots s x).name) × IsFree (place_named (ident_over slots s x).name)) where
  abbrev pub Over : (k d : ℕ) → ExprTree → Type 0
  Over k d e = Derived (λ us. ExprRule k d us (over slots s e)) × AreFree (over slots s e)

  abbrev pub OverAll : (d : ℕ) → ExprTrees → Type 0
  OverAll d es = Derived (λ us. ArgsRule d us (over_all slots s es)) × AllAreFree (over_all slots s es)

  abbrev pub OverMore : (d : ℕ) → ExprTrees → Type 0
  OverMore d es = Derived (λ us. MoreArgsRule d us (over_all slots s es)) × AllAreFree (over_all slots s es)

  mutual
    pub renamed : {k d : ℕ} {ts : List Marked} {e : ExprTree} (c : ℕ) → c ≤ d → ExprRule k d ts e → AreTokens ts → Over k c e
    renamed c l (number n p) h = (record { tokens = _; rule = number n p; are = ((h.0.0, ((λ j. omega (arith, l, h.0.1.0 j)), tt)), tt) }, tt)
    renamed c l (text t p) h = (record { tokens = _; rule = text t p; are = ((h.0.0, ((λ j. omega (arith, l, h.0.1.0 j)), tt)), tt) }, tt)
    renamed c l (truth p) h = (record { tokens = _; rule = truth p; are = ((h.0.0, ((λ j. omega (arith, l, h.0.1.0 j)), tt)), tt) }, tt)
    renamed c l (falsehood p) h = (record { tokens = _; rule = falsehood p; are = ((h.0.0, ((λ j. omega (arith, l, h.0.1.0 j)), tt)), tt) }, tt)
    renamed c l (void p q r) h = (record { tokens = _; rule = void p q r; are = ((h.0.0, ((λ j. omega (arith, l, h.0.1.0 j)), tt)), h.1) }, tt)
    renamed c l (variable x) h =
        let new = good x h.0.0 in
        (record { tokens = _; rule = variable (ident_over slots s x); are = ((new.0, ((λ j. omega (arith, l, h.0.1.0 j)), tt)), tt) }, new.1)
    renamed c l (call f p q args r e) h =
        let t = subst AreTokens e h in
        let as_over = all_renamed (suc c) (omega (arith, l)) r (are_front args _ t.1.1) in (
          record {
            tokens = _;
            rule = call f p q as_over.0.tokens as_over.0.rule refl;
            are = ((t.0.0, ((λ j. omega (arith, l, t.0.1.0 j)), tt)), (t.1.0, both_are as_over.0.tokens _ as_over.0.are (are_back args _ t.1.1)));
          },
          as_over.1,
        )
    renamed c l (paren p q of r e) h =
        let t = subst AreTokens e h in
        let inner = renamed (suc c) (omega (arith, l)) r (are_front of _ t.1) in (
          record {
            tokens = _;
            rule = paren p q inner.0.tokens inner.0.rule refl;
            are = ((t.0.0, ((λ j. omega (arith, l, t.0.1.0 j)), tt)), both_are inner.0.tokens _ inner.0.are (are_back of _ t.1));
          },
          inner.1,
        )
    renamed c l (field p x of r e) h =
        let t = subst AreTokens e h in
        let before = unbegin _ of (are_front _ _ t) in
        let inner = renamed (suc c) (omega (arith, l)) r before in (
          record {
            tokens = _;
            rule = field p x inner.0.tokens inner.0.rule refl;
            are = both_are (begin (Node c) inner.0.tokens) _ (rebegin c inner.0.tokens (omega (arith, l, deep r before)) inner.0.are)
                (are_back (begin (Node _) of) (sign_at sign.Dot p ∷ name_at x ∷ []) t);
          },
          inner.1,
        )
    renamed c l (method p q r f of args a b e) h =
        let t = subst AreTokens e h in
        let before = unbegin _ of (are_front _ _ t) in
        let rest : AreTokens (sign_at sign.Dot p ∷ name_at f ∷ sign_at sign.OpenRound q ∷ (args ++ sign_at sign.CloseRound r ∷ [])) = are_back (begin (Node _) of) _ t in
        let inner = renamed (suc c) (omega (arith, l)) a before in
        let as_over = all_renamed (suc c) (omega (arith, l)) b (are_front args _ rest.1.1.1) in (
          record {
            tokens = _;
            rule = method p q r f inner.0.tokens as_over.0.tokens inner.0.rule as_over.0.rule refl;
            are = both_are (begin (Node c) inner.0.tokens) _ (rebegin c inner.0.tokens (omega (arith, l, deep a before)) inner.0.are)
                (rest.0, (rest.1.0, (rest.1.1.0, both_are as_over.0.tokens _ as_over.0.are (are_back args _ rest.1.1.1))));
          },
          (inner.1, as_over.1),
        )
    renamed c l (index p q of at a b e) h =
        let t = subst AreTokens e h in
        let before = unbegin _ of (are_front _ _ t) in
        let rest : AreTokens (sign_at sign.OpenSquare p ∷ (at ++ sign_at sign.CloseSquare q ∷ [])) = are_back (begin (Node _) of) _ t in
        let inner = renamed (suc c) (omega (arith, l)) a before in
        let as_over = renamed (suc c) (omega (arith, l)) b (are_front at _ rest.1) in (
          record {
            tokens = _;
            rule = index p q inner.0.tokens as_over.0.tokens inner.0.rule as_over.0.rule refl;
            are = both_are (begin (Node c) inner.0.tokens) _ (rebegin c inner.0.tokens (omega (arith, l, deep a before)) inner.0.are)
                (rest.0, both_are as_over.0.tokens _ as_over.0.are (are_back at _ rest.1));
          },
          (inner.1, (as_over.1, tt)),
        )
    renamed c l (negation p of k r e) h =
        let t = subst AreTokens e h in
        let inner = renamed (suc c) (omega (arith, l)) r t.1 in
        (record { tokens = _; rule = negation p inner.0.tokens k inner.0.rule refl; are = ((t.0.0, ((λ j. omega (arith, l, t.0.1.0 j)), tt)), inner.0.are) }, inner.1)
    renamed c l (minus p of k r e) h =
        let t = subst AreTokens e h in
        let inner = renamed (suc c) (omega (arith, l)) r t.1 in
        (record { tokens = _; rule = minus p inner.0.tokens k inner.0.rule refl; are = ((t.0.0, ((λ j. omega (arith, l, t.0.1.0 j)), tt)), inner.0.are) }, inner.1)
    renamed c l (binary op p left right k a b e) h =
        let t = subst AreTokens e h in
        let before = unbegin _ left (are_front _ _ t) in
        let rest : AreTokens (sign_at (op_sign op) p ∷ right) = are_back (begin (Node _) left) _ t in
        let one = renamed (suc c) (omega (arith, l)) a before in
        let two = renamed (suc c) (omega (arith, l)) b rest.1 in (
          record {
            tokens = _;
            rule = binary op p one.0.tokens two.0.tokens k one.0.rule two.0.rule refl;
            are = both_are (begin (Node c) one.0.tokens) _ (rebegin c one.0.tokens (omega (arith, l, deep a before)) one.0.are) (rest.0, two.0.are);
          },
          (one.1, two.1),
        )

    pub all_renamed : {d : ℕ} {ts : List Marked} {es : ExprTrees} (c : ℕ) → c ≤ d → ArgsRule d ts es → AreTokens ts → OverAll c es
    all_renamed c l no_args h = (record { tokens = []; rule = no_args; are = tt }, tt)
    all_renamed c l (some_args first more a b e) h =
        let t = subst AreTokens e h in
        let one = renamed c l a (are_front first more t) in
        let rest = more_renamed c l b (are_back first more t) in
        (record { tokens = _; rule = some_args one.0.tokens rest.0.tokens one.0.rule rest.0.rule refl; are = both_are one.0.tokens rest.0.tokens one.0.are rest.0.are }, (one.1, rest.1))

    pub more_renamed : {d : ℕ} {ts : List Marked} {es : ExprTrees} (c : ℕ) → c ≤ d → MoreArgsRule d ts es → AreTokens ts → OverMore c es
    more_renamed c l end_args h = (record { tokens = []; rule = end_args; are = tt }, tt)
    more_renamed c l (more_args p next more a b e) h =
        let t = subst AreTokens e h in
        let one = renamed c l a (are_front next more t.1) in
        let rest = more_renamed c l b (are_back next more t.1) in
        (record { tokens = _; rule = more_args p one.0.tokens rest.0.tokens one.0.rule rest.0.rule refl; are = (t.0, both_are one.0.tokens rest.0.tokens one.0.are rest.0.are) }, (one.1, rest.1))
