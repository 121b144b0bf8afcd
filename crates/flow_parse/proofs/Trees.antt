-- Types and expressions that were read.
use Rattle.std.proofs.Common.{◌≡◌, ℕ, ◌+◌, ◌-◌, ◌≤◌, ◌<◌, List, [], ◌∷◌, ◌++◌, length, drop, sym, ap, ◌∙◌, subst, arith, length-append, length-drop}
use Rattle.std.specs.Prelude.{IfOk, Result, Ok, Err}
use Rattle.std.proofs.lemmas.List.{take-append-drop}
use Rattle.flow_tree.specs.declared.limits.Limits.{Limits}
use Rattle.flow_tree.specs.declared.limits.TheConstants.{OF_PROGRAMS}
use Rattle.flow_tree.specs.declared.token.Sign.TheVariants as sign
use Rattle.flow_tree.specs.declared.token.Spot.{Spot}
use Rattle.flow_tree.specs.declared.token.Tokens.{Tokens}
use Rattle.flow_base.specs.declared.place.Place.{Place}
use Rattle.flow_tree.specs.declared.fault.Rule.TheVariants as rule
use Rattle.flow_tree.specs.declared.fault.SourceFault.{SourceFault}
use Rattle.flow_tree.specs.declared.fault.SourceFault.TheVariants.{Refused, AcrossWait, OutOfMemory}
use Rattle.flow_tree.specs.declared.ty.Ty.{Ty}
use Rattle.flow_tree.specs.declared.expr.Expr.{Expr}
use Rattle.flow_tree.specs.View.{type_of, expr_of}
use Rattle.flow_tree.specs.Tree.{TypeTree, ExprTree}
use Rattle.flow_tree.specs.GrammarToken.{Node, Marked, begin, spots_of}
use Rattle.flow_tree.specs.Grammar.{sign_at, name_at, op_sign, TypeRule, int_type, bool_type, string_type, void_type, error_type, named_type, wrapped_type, ExprRule, number, text, truth, falsehood, void, variable, call, paren, field, method, index, negation, minus, binary}
use Rattle.flow_tree.specs.GrammarAnswer.{IsRead, ReaderAnswer}
use Rattle.flow_tree.proofs.GrammarLists.{length_spots}
use Rattle.flow_parse.specs.Reading.{Any, Reads, Answer}
use Rattle.flow_parse.specs.Failing.{Only, StopsAt, Fails}
use Rattle.flow_parse.proofs.Leaves.{drop_drop}
use Rattle.flow_parse.proofs.Readers.{expr_only}
use Rattle.flow_parse.proofs.TypeReaders.{type_only}
use Rattle.flow_parse.proofs.Nodes.{Nodes, expr_nodes, type_nodes, depth_keeps}
use Rattle.flow_parse.proofs.ReaderStops.{expr_missing_stops, expr_deep_stops, type_missing_stops, type_deep_stops}
use Rattle.flow_parse.specs.Follow.{ExprEnds}

-- a type and an expression have a token at least
expr_some : {k d : ℕ} {xs : List Marked} {t : ExprTree} → ExprRule k d xs t → 0 < length xs
expr_some (number n p) = omega arith
expr_some (text t p) = omega arith
expr_some (truth p) = omega arith
expr_some (falsehood p) = omega arith
expr_some (void p q r) = omega arith
expr_some (variable x) = omega arith
expr_some (call f p q args r e) = omega (arith, ap length e)
expr_some (paren p q of r e) = omega (arith, ap length e)
expr_some {k} {d} (field p x of r e) = omega (arith, ap length e, length-append (begin (Node d) of) (sign_at sign.Dot p ∷ name_at x ∷ []))
expr_some {k} {d} (method p q s f of args r a e) = omega (
  arith,
  ap length e,
  length-append (begin (Node d) of)
      (sign_at sign.Dot p ∷ name_at f ∷ sign_at sign.OpenRound q ∷ (args ++ sign_at sign.CloseRound s ∷ [])),
)
expr_some {k} {d} (index p q of at r i e) = omega (arith, ap length e, length-append (begin (Node d) of) (sign_at sign.OpenSquare p ∷ (at ++ sign_at sign.CloseSquare q ∷ [])))
expr_some (negation p of le r e) = omega (arith, ap length e)
expr_some (minus p of le r e) = omega (arith, ap length e)
expr_some {k} {d} (binary op p left right le r s e) = omega (arith, ap length e, length-append (begin (Node d) left) (sign_at (op_sign op) p ∷ right))

type_some : {d : ℕ} {xs : List Marked} {t : TypeTree} → TypeRule d xs t → 0 < length xs
type_some (int_type p) = omega arith
type_some (bool_type p) = omega arith
type_some (string_type p) = omega arith
type_some (void_type p) = omega arith
type_some (error_type p) = omega arith
type_some (named_type x) = omega arith
type_some (wrapped_type w p q r of t e) = omega (arith, ap length e)

part_of : (limits : Limits) → {A : Type 0} (R : List Marked → A → Type 0) (F : A → List Marked → Type 0) (t : Tokens) (from : ℕ) (tree : A) (to : ℕ) → from ≤ length t.spots.items
    → IsRead R t from tree to → ((xs : List Marked) → R xs tree → Nodes xs) → Only limits R F tree (to - from) (drop from t.spots.items) → Reads limits R F t.spots.items from tree to
part_of limits R F t from tree to w r n o =
    let spots = t.spots.items in
    let k = to - from in
    let d = r.derived in
    let e : from + k ≡ to = omega (arith, r.after) in
    record {
      after = r.after;
      within = omega (arith, r.reads.within, r.after, length-drop from spots);
      marked = d.marked;
      rule = d.rule;
      is = sym (take-append-drop k (drop from spots)) ∙ ap (λ z. z ++ drop k (drop from spots)) (sym d.is) ∙ ap (λ z. spots_of d.marked ++ z) (drop_drop k from spots ∙ ap (λ i. drop i spots) e);
      keeps = depth_keeps OF_PROGRAMS limits 7 d.marked (n d.marked d.rule) (λ l. d.keeps);
      only = o;
    }

longer : (limits : Limits) → {A : Type 0} {F : A → List Marked → Type 0} (R : List Marked → A → Type 0) (spots : List Spot) (a b : ℕ) (tree : A) → a ≤ length spots
    → ((xs : List Marked) → R xs tree → 0 < length xs) → Reads limits R F spots a tree b → a < b
longer limits R spots a b tree w f r = omega (
  arith,
  f r.marked r.rule,
  ap length r.is,
  length-append (spots_of r.marked)
      (drop b spots),
  length-drop a spots,
  length-drop b spots,
  length_spots r.marked,
  r.within,
  r.after,
)

fifth : (limits : Limits) → {A : Type 0} {R : List Marked → A → Type 0} {F : A → List Marked → Type 0} {t : Tokens} {from : ℕ} {p : Place} (n : ℕ) → n ≡ 5 → StopsAt limits R F 5 t from p
    → Fails limits R F t from (Refused (rule.L n) p)
fifth limits {R = R} {F = F} {t = t} {from = from} {p = p} n e s = (omega (arith, e), omega (arith, e), subst (λ k. StopsAt limits R F k t from p) (sym e) s)

module _ (limits : Limits) (t : Tokens) (from d : ℕ) (h : from ≤ length t.spots.items) where
  type_reads : (y : TypeTree) (to : ℕ) → IsRead (TypeRule d) t from y to → Reads limits (TypeRule d) Any t.spots.items from y to
  type_reads y to a = part_of limits (TypeRule d) Any t from y to h a (λ xs q. type_nodes q) (type_only limits t from d y to a)

  expr_reads : (e : ExprTree) (to : ℕ) → IsRead (ExprRule 0 d) t from e to → Reads limits (ExprRule 0 d) ExprEnds t.spots.items from e to
  expr_reads e to a = part_of limits (ExprRule 0 d) ExprEnds t from e to h a (λ xs q. expr_nodes q) (expr_only limits t from d e to a)

  pub type_answer : (r : Result (Ty × ℕ) SourceFault) → ReaderAnswer (TypeRule d) type_of t from r → Answer limits (TypeRule d) Any (λ x. type_of x.0) (λ x. x.1) t from r
  type_answer (Ok x) a = type_reads (type_of x.0) x.1 a
  type_answer (Err (Refused (rule.S n) p)) a = (a.0, record { number = a.1.count; place = a.1.place; stops = type_missing_stops limits t from d p a.1 })
  type_answer (Err (Refused (rule.L n) p)) a = fifth limits n a.0 (record { number = a.1.number; place = a.1.place; stops = type_deep_stops limits t from d p a.1 })
  type_answer (Err (Refused (rule.K n) p)) a = a
  type_answer (Err (AcrossWait p q r)) a = a
  type_answer (Err OutOfMemory) a = tt

  pub type_moves : (r : Result (Ty × ℕ) SourceFault) → ReaderAnswer (TypeRule d) type_of t from r → IfOk r (λ x. (from < x.1) × (x.1 ≤ length t.spots.items))
  type_moves (Ok x) a =
      let r = type_reads (type_of x.0) x.1 a in
      (longer limits (TypeRule d) t.spots.items from x.1 (type_of x.0) h (λ xs q. type_some q) r, r.within)
  type_moves (Err e) a = tt

  pub expr_answer : (r : Result (Expr × ℕ) SourceFault) → ReaderAnswer (ExprRule 0 d) expr_of t from r → Answer limits (ExprRule 0 d) ExprEnds (λ x. expr_of x.0) (λ x. x.1) t from r
  expr_answer (Ok x) a = expr_reads (expr_of x.0) x.1 a
  expr_answer (Err (Refused (rule.S n) p)) a = (a.0, record { number = a.1.count; place = a.1.place; stops = expr_missing_stops limits t from d p a.1 })
  expr_answer (Err (Refused (rule.L n) p)) a = fifth limits n a.0 (record { number = a.1.number; place = a.1.place; stops = expr_deep_stops limits t from d p a.1 })
  expr_answer (Err (Refused (rule.K n) p)) a = a
  expr_answer (Err (AcrossWait p q r)) a = a
  expr_answer (Err OutOfMemory) a = tt

  pub expr_moves : (r : Result (Expr × ℕ) SourceFault) → ReaderAnswer (ExprRule 0 d) expr_of t from r → IfOk r (λ x. (from < x.1) × (x.1 ≤ length t.spots.items))
  expr_moves (Ok x) a =
      let r = expr_reads (expr_of x.0) x.1 a in
      (longer limits (ExprRule 0 d) t.spots.items from x.1 (expr_of x.0) h (λ xs q. expr_some q) r, r.within)
  expr_moves (Err e) a = tt
