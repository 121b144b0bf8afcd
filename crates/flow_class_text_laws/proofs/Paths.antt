-- Types at a lesser depth, and paths with another first name.
use Rattle.std.proofs.Common.{◌≡◌, ◌≤◌, ℕ, suc, List, [], ◌∷◌, refl, subst, arith}
use Rattle.flow_tree.specs.declared.token.Token.TheVariants as token
use Rattle.flow_tree.specs.declared.ty.Ident.{Ident}
use Rattle.flow_tree.specs.Tree.{TypeTree}
use Rattle.flow_tree.specs.GrammarToken.{Marked}
use Rattle.flow_tree.specs.Grammar.{TypeRule, int_type, bool_type, string_type, void_type, error_type, named_type, wrapped_type}
use Rattle.flow_tree.specs.GrammarStmt.{PathRule, last_name, more_names}
use Rattle.flow_classprint.specs.ClassGrammar.{IsSpelled}
use Rattle.flow_class_text_laws.proofs.Writable.{Derived}
use Rattle.flow_class_text_laws.proofs.Spelled.{AreTokens, both_are}
use Rattle.flow_class_text_laws.proofs.Renamed.{are_front, are_back}

pub retyped : {d : ℕ} {ts : List Marked} {t : TypeTree} (c : ℕ) → c ≤ d → TypeRule d ts t → AreTokens ts → Derived (λ us. TypeRule c us t)
retyped c l (int_type p) h = record { tokens = _; rule = int_type p; are = ((h.0.0, ((λ j. omega (arith, l, h.0.1.0 j)), tt)), tt) }
retyped c l (bool_type p) h = record { tokens = _; rule = bool_type p; are = ((h.0.0, ((λ j. omega (arith, l, h.0.1.0 j)), tt)), tt) }
retyped c l (string_type p) h = record { tokens = _; rule = string_type p; are = ((h.0.0, ((λ j. omega (arith, l, h.0.1.0 j)), tt)), tt) }
retyped c l (void_type p) h = record { tokens = _; rule = void_type p; are = ((h.0.0, ((λ j. omega (arith, l, h.0.1.0 j)), tt)), tt) }
retyped c l (error_type p) h = record { tokens = _; rule = error_type p; are = ((h.0.0, ((λ j. omega (arith, l, h.0.1.0 j)), tt)), tt) }
retyped c l (named_type x) h = record { tokens = _; rule = named_type x; are = ((h.0.0, ((λ j. omega (arith, l, h.0.1.0 j)), tt)), tt) }
retyped c l (wrapped_type w p q r of a e) h =
    let t = subst AreTokens e h in
    let inner = retyped (suc c) (omega (arith, l)) a (are_front of _ t.1.1) in
    record {
      tokens = _;
      rule = wrapped_type w p q r inner.tokens inner.rule refl;
      are = ((t.0.0, ((λ j. omega (arith, l, t.0.1.0 j)), tt)), (t.1.0, both_are inner.tokens _ inner.are (are_back of _ t.1.1)));
    }

-- a path with another first name
pub path_renamed : {ts : List Marked} {xs : List Ident} (w : List ℕ) → IsSpelled (token.Name w) → PathRule ts xs → AreTokens ts
    → (x : Ident) (rest : List Ident) → xs ≡ x ∷ rest → Derived (λ us. PathRule us (record x { name = w } ∷ rest))
path_renamed w spelled (last_name y) h x rest e =
    let none : [] ≡ rest = cc (e) in
    subst (λ r. Derived (λ us. PathRule us (record x { name = w } ∷ r))) none
    (record { tokens = _; rule = last_name (record x { name = w }); are = ((spelled, tt), tt) })
path_renamed w spelled (more_names {xs = ys} y at more r e) h x rest is =
    let t = subst AreTokens e h in
    let same : ys ≡ rest = cc (is) in
    subst (λ zs. Derived (λ us. PathRule us (record x { name = w } ∷ zs))) same
    (record { tokens = _; rule = more_names (record x { name = w }) at more r refl; are = ((spelled, tt), t.1) })
