-- With the tokens of a type or of an expression only nodes begin, so that of all limits the depth alone binds, and that is the same in all
-- texts.
use Rattle.std.proofs.Common.{ℕ, zero, suc, ◌≤◌, List, [], ◌∷◌, ◌++◌, take, sym, subst, arith}
use Rattle.flow_tree.specs.declared.limits.Limits.{Limits}
use Rattle.flow_tree.specs.Tree.{TypeTree, ExprTree, ExprTrees}
use Rattle.flow_tree.specs.GrammarToken.{Part, Declaration, Statement, Node, Variable, Branch, Marked, begin, AllInLimitsOf, KeepsOf}
use Rattle.flow_tree.specs.Grammar.{ExprRule, number, text, truth, falsehood, void, variable, call, paren, field, method, index, negation, minus, binary, ArgsRule, no_args, some_args, MoreArgsRule, end_args, more_args, TypeRule, int_type, bool_type, string_type, void_type, error_type, named_type, wrapped_type}

abbrev pub OnlyNodes : List Part → Type 0
OnlyNodes [] = Unit {0}
OnlyNodes (Node d ∷ ps) = OnlyNodes ps
OnlyNodes (_ ∷ ps) = ⊥

-- only nodes begin with these tokens
abbrev pub Nodes : List Marked → Type 0
Nodes [] = Unit {0}
Nodes (x ∷ xs) = OnlyNodes x.parts × Nodes xs

nodes_append : (xs ys : List Marked) → Nodes xs → Nodes ys → Nodes (xs ++ ys)
nodes_append [] ys h k = k
nodes_append (x ∷ xs) ys h k = (h.0, nodes_append xs ys h.1 k)

nodes_begin : (d : ℕ) (xs : List Marked) → Nodes xs → Nodes (begin (Node d) xs)
nodes_begin d [] h = tt
nodes_begin d (x ∷ xs) h = h

pub nodes_front : (xs ys : List Marked) → Nodes (xs ++ ys) → Nodes xs
nodes_front [] ys h = tt
nodes_front (x ∷ xs) ys h = (h.0, nodes_front xs ys h.1)

mutual
  pub expr_nodes : {k d : ℕ} {w : List Marked} {e : ExprTree} → ExprRule k d w e → Nodes w
  expr_nodes (number n p) = (tt, tt)
  expr_nodes (text t p) = (tt, tt)
  expr_nodes (truth p) = (tt, tt)
  expr_nodes (falsehood p) = (tt, tt)
  expr_nodes (void p q r) = (tt, (tt, (tt, tt)))
  expr_nodes (variable x) = (tt, tt)
  expr_nodes (call f p q args a e) = subst Nodes (sym e) (tt, (tt, nodes_append args _ (args_nodes a) (tt, tt)))
  expr_nodes (paren p q of r e) = subst Nodes (sym e) (tt, nodes_append of _ (expr_nodes r) (tt, tt))
  expr_nodes {d = d} (field p x of r e) = subst Nodes (sym e) (nodes_append (begin (Node d) of) _ (nodes_begin d of (expr_nodes r)) (tt, (tt, tt)))
  expr_nodes {d = d} (method p q r f of args t a e) = subst Nodes (sym e)
      (nodes_append (begin (Node d) of) _ (nodes_begin d of (expr_nodes t)) (tt, (tt, (tt, nodes_append args _ (args_nodes a) (tt, tt)))))
  expr_nodes {d = d} (index p q of at t i e) = subst Nodes (sym e)
      (nodes_append (begin (Node d) of) _ (nodes_begin d of (expr_nodes t)) (tt, nodes_append at _ (expr_nodes i) (tt, tt)))
  expr_nodes (negation p of h r e) = subst Nodes (sym e) (tt, expr_nodes r)
  expr_nodes (minus p of h r e) = subst Nodes (sym e) (tt, expr_nodes r)
  expr_nodes {d = d} (binary op p left right h a b e) = subst Nodes (sym e) (nodes_append (begin (Node d) left) _ (nodes_begin d left (expr_nodes a)) (tt, expr_nodes b))

  args_nodes : {d : ℕ} {w : List Marked} {ts : ExprTrees} → ArgsRule d w ts → Nodes w
  args_nodes no_args = tt
  args_nodes (some_args first more a m e) = subst Nodes (sym e) (nodes_append first more (expr_nodes a) (more_nodes m))

  more_nodes : {d : ℕ} {w : List Marked} {ts : ExprTrees} → MoreArgsRule d w ts → Nodes w
  more_nodes end_args = tt
  more_nodes (more_args p next more a m e) = subst Nodes (sym e) (tt, nodes_append next more (expr_nodes a) (more_nodes m))

pub type_nodes : {d : ℕ} {w : List Marked} {t : TypeTree} → TypeRule d w t → Nodes w
type_nodes (int_type p) = (tt, tt)
type_nodes (bool_type p) = (tt, tt)
type_nodes (string_type p) = (tt, tt)
type_nodes (void_type p) = (tt, tt)
type_nodes (error_type p) = (tt, tt)
type_nodes (named_type x) = (tt, tt)
type_nodes (wrapped_type w p q r of t e) = subst Nodes (sym e) (tt, (tt, nodes_append of _ (type_nodes t) (tt, tt)))

pub nodes_take : (k : ℕ) (xs : List Marked) → Nodes xs → Nodes (take k xs)
nodes_take zero xs h = tt
nodes_take (suc k) [] h = tt
nodes_take (suc k) (x ∷ xs) h = (h.0, nodes_take k xs h.1)

-- what keeps the limit of depth of one kind of text keeps all limits of another
depth_parts : (from to : Limits) (n : ℕ) (ps : List Part) → OnlyNodes ps → (5 ≤ n → AllInLimitsOf from 5 ps) → AllInLimitsOf to n ps
depth_parts from to n [] h k = tt
depth_parts from to n (Node d ∷ ps) h k = ((λ l. (k l).0 (omega arith)), depth_parts from to n ps h (λ l. (k l).1))
depth_parts from to n (Declaration d ∷ ps) h k = absurd h
depth_parts from to n (Statement d ∷ ps) h k = absurd h
depth_parts from to n (Variable d ∷ ps) h k = absurd h
depth_parts from to n (Branch d ∷ ps) h k = absurd h

pub depth_keeps : (from to : Limits) (n : ℕ) (xs : List Marked) → Nodes xs → (5 ≤ n → KeepsOf from 5 xs) → KeepsOf to n xs
depth_keeps from to n [] h k = tt
depth_keeps from to n (x ∷ xs) h k = (depth_parts from to n x.parts h.0 (λ l. (k l).0), depth_keeps from to n xs h.1 (λ l. (k l).1))
