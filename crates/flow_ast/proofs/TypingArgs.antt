-- The types of arguments, as far as a loop has come.
use Rattle.std.proofs.Common.{◌≡◌, ℕ, zero, suc, ◌+◌, ◌<◌, List, [], ◌∷◌, ◌++◌, length, drop, get_or, refl, ap, sym, ◌∙◌, arith, add-one, append_assoc}
use Rattle.std.specs.declared.option.Option.{Option}
use Rattle.std.specs.declared.option.Option.TheVariants.{None, Some}
use Rattle.flow_tree.specs.declared.expr.Expr.{Expr}
use Rattle.flow_tree.specs.Tree.{TypeTree}
use Rattle.flow_tree.specs.View.{expr_of, exprs_of}
use Rattle.flow_ast.specs.Typing.{ScopeTree, type_in, types_in, more_types}

-- types found so far, before those of the rest
abbrev pub before : List TypeTree → Option (List TypeTree) → Option (List TypeTree)
before ts None = None
before ts (Some us) = Some (ts ++ us)

before_more : (ts : List TypeTree) (t : TypeTree) (o : Option (List TypeTree)) → before ts (more_types (Some t) o) ≡ before (ts ++ t ∷ []) o
before_more ts t None = refl
before_more ts t (Some us) = ap Some (sym (append_assoc ts (t ∷ []) us))

types_at : (s : ScopeTree) (es : List Expr) (i : ℕ) (d : Expr) → i < length es
    → types_in s (exprs_of (drop i es)) ≡ more_types (type_in s (expr_of (get_or es i d))) (types_in s (exprs_of (drop (suc i) es)))
types_at s [] i d lt = absurd (omega arith)
types_at s (e ∷ es) zero d lt = refl
types_at s (e ∷ es) (suc i) d lt =
    let lt' : i < length es = omega arith in
    types_at s es i d lt'

pub types_more : (s : ScopeTree) (es : List Expr) (i : ℕ) (d : Expr) (ts : List TypeTree) (t : TypeTree) → i < length es → type_in s (expr_of (get_or es i d)) ≡ Some t
    → before ts (types_in s (exprs_of (drop i es))) ≡ before (ts ++ t ∷ []) (types_in s (exprs_of (drop (i + 1) es)))
types_more s es i d ts t lt e =
    rw add-one
    (ap (before ts) (types_at s es i d lt)
    ∙ ap (λ o. before ts (more_types o (types_in s (exprs_of (drop (suc i) es))))) e
    ∙ before_more ts t (types_in s (exprs_of (drop (suc i) es))))

pub types_none : (s : ScopeTree) (es : List Expr) (i : ℕ) (d : Expr) (ts : List TypeTree) → i < length es → type_in s (expr_of (get_or es i d)) ≡ None
    → before ts (types_in s (exprs_of (drop i es))) ≡ None
types_none s es i d ts lt e =
    ap (before ts) (types_at s es i d lt) ∙ ap (λ o. before ts (more_types o (types_in s (exprs_of (drop (suc i) es))))) e

pub before_none : (o : Option (List TypeTree)) → before [] o ≡ o
before_none None = refl
before_none (Some us) = refl
