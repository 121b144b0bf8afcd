-- With which tokens statements begin.
use Rattle.std.proofs.Common.{◌≡◌, ℕ, Bool, List, [], ◌∷◌, ◌++◌, sym, subst}
use Rattle.std.specs.declared.option.Option.{Option}
use Rattle.std.specs.declared.option.Option.TheVariants.{None, Some}
use Rattle.flow_base.specs.declared.place.Place.{Place}
use Rattle.flow_tree.specs.declared.token.Token.{Token}
use Rattle.flow_tree.specs.declared.token.Token.TheVariants as token
use Rattle.flow_tree.specs.declared.token.Word.{Word}
use Rattle.flow_tree.specs.declared.ty.Ident.{Ident}
use Rattle.flow_tree.specs.declared.decl.RoutineKind.{RoutineKind}
use Rattle.flow_tree.specs.Tree.{TypeTree, ExprTree}
use Rattle.flow_tree.specs.Body.{IntoTree, WaitTree, Body}
use Rattle.flow_tree.specs.GrammarToken.{Marked}
use Rattle.flow_tree.specs.Grammar.{TypeRule, int_type, bool_type, string_type, void_type, error_type, named_type, wrapped_type, FutureOf, FutureStreamOf, PromiseOf, PromiseStreamOf, VectorOf}
use Rattle.flow_tree.specs.GrammarStmt.{Counts, no_state, some_state, IntoRule, declared, OperandRule, wait, wait_next, WaitingRule, plain_wait, into_wait, PathRule, last_name, more_names, AssignRule, assign, plus, minus, up, down, InitRule, declare, declare_value, change, PlainRule, if_stmt, if_else_stmt, while_stmt, for_stmt, loop_stmt, break_stmt, continue_stmt, return_stmt, throw_stmt, try_stmt, choose_stmt, init_stmt, wait_stmt, call_stmt}
use Rattle.flow_parse.specs.Openers.{StartsWord}
use Rattle.flow_parse.proofs.Looking.{Looks}
use Rattle.flow_parse.proofs.Backs.{opener}

abbrev pub StartsSimple : Token → Type 0
StartsSimple (token.Name n) = Unit {0}
StartsSimple (token.Word w) = StartsWord w
StartsSimple _ = ⊥

abbrev pub Begins : List Marked → Type 0
Begins [] = ⊥
Begins (x ∷ xs) = StartsSimple x.spot.token

begins_append : (xs ys : List Marked) → Begins xs → Begins (xs ++ ys)
begins_append [] ys h = absurd h
begins_append (x ∷ xs) ys h = h

begins_is : {w : List Marked} (xs ys : List Marked) → w ≡ xs ++ ys → Begins xs → Begins w
begins_is xs ys e h = subst Begins (sym e) (begins_append xs ys h)

pub type_begins : {d : ℕ} {w : List Marked} {t : TypeTree} → TypeRule d w t → Begins w
type_begins (int_type p) = tt
type_begins (bool_type p) = tt
type_begins (string_type p) = tt
type_begins (void_type p) = tt
type_begins (error_type p) = tt
type_begins (named_type x) = tt
type_begins (wrapped_type FutureOf p q r of t e) = subst Begins (sym e) tt
type_begins (wrapped_type FutureStreamOf p q r of t e) = subst Begins (sym e) tt
type_begins (wrapped_type PromiseOf p q r of t e) = subst Begins (sym e) tt
type_begins (wrapped_type PromiseStreamOf p q r of t e) = subst Begins (sym e) tt
type_begins (wrapped_type VectorOf p q r of t e) = subst Begins (sym e) tt

pub into_begins : {home : RoutineKind} {d : ℕ} {c c' : Counts} {w : List Marked} {i : IntoTree} → IntoRule home d c c' w i → Begins w
into_begins (declared x kept of no_state t e) = begins_is of _ e (type_begins t)
into_begins (declared x kept of (some_state p) t e) = subst Begins (sym e) tt

pub operand_begins : {d : ℕ} {w : List Marked} {b : Bool} {e : ExprTree} → OperandRule d w b e → Begins w
operand_begins (wait p q r of x e) = subst Begins (sym e) tt
operand_begins (wait_next p q r of x e) = subst Begins (sym e) tt

pub waiting_begins : {home : RoutineKind} {d : ℕ} {c c' : Counts} {w : List Marked} {x : WaitTree} → WaitingRule home d c c' w x → Begins w
waiting_begins (plain_wait o) = operand_begins o
waiting_begins (into_wait p left right i o e) = begins_is left _ e (into_begins i)

pub path_begins : {w : List Marked} {xs : List Ident} → PathRule w xs → Begins w
path_begins (last_name x) = tt
path_begins (more_names x p more r e) = subst Begins (sym e) tt

pub assign_begins : {d : ℕ} {w : List Marked} {p : Place} {rest body : Body} → AssignRule d w p rest body → Begins w
assign_begins (assign at p path value r x e s) = begins_is path _ e (path_begins r)
assign_begins (plus at p path value r x e s) = begins_is path _ e (path_begins r)
assign_begins (minus at p path value r x e s) = begins_is path _ e (path_begins r)
assign_begins (up at p path r e s) = begins_is path _ e (path_begins r)
assign_begins (down at p path r e s) = begins_is path _ e (path_begins r)

pub init_begins : {home : RoutineKind} {d : ℕ} {c c' : Counts} {w : List Marked} {p : Place} {rest body : Body} → InitRule home d c c' w p rest body → Begins w
init_begins (declare at i s) = into_begins i
init_begins (declare_value at p left value i x e s) = begins_is left _ e (into_begins i)
init_begins (change at r) = assign_begins r

-- what the first word of a statement says of its first token
abbrev pub OpenerIs : Option Word → Token → Type 0
OpenerIs (Some k) t = t ≡ token.Word k
OpenerIs None t = StartsSimple t

begins_looks : (w z : List Marked) (t : Token) → Begins w → Looks (Some t) (w ++ z) → StartsSimple t
begins_looks [] z t b l = absurd b
begins_looks (x ∷ w) z t b l = subst StartsSimple l b

pub opener_is : {home : RoutineKind} {d : ℕ} {c c' : Counts} {w : List Marked} {p : Place} {rest body : Body} {b : Bool} (z : List Marked) (t : Token) → (r : PlainRule home d c c' w p rest body b)
    → Looks (Some t) (w ++ z) → OpenerIs (opener r) t
opener_is z t (if_stmt at p q test body e b f) l = sym (subst (λ x. Looks (Some t) (x ++ z)) f l)
opener_is z t (if_else_stmt at p q r test body other e b o f) l = sym (subst (λ x. Looks (Some t) (x ++ z)) f l)
opener_is z t (while_stmt at p q test body e b f) l = sym (subst (λ x. Looks (Some t) (x ++ z)) f l)
opener_is z t (for_stmt at p q r s init test step body i e n b f) l = sym (subst (λ x. Looks (Some t) (x ++ z)) f l)
opener_is z t (loop_stmt at body b f) l = sym (subst (λ x. Looks (Some t) (x ++ z)) f l)
opener_is z t (break_stmt at p) l = sym l
opener_is z t (continue_stmt at p) l = sym l
opener_is z t (return_stmt at p value e f) l = sym (subst (λ x. Looks (Some t) (x ++ z)) f l)
opener_is z t (throw_stmt at p value e f) l = sym (subst (λ x. Looks (Some t) (x ++ z)) f l)
opener_is z t (try_stmt at p q r s u x body caught b h f) l = sym (subst (λ y. Looks (Some t) (y ++ z)) f l)
opener_is z t (choose_stmt at p q first more w ws f) l = sym (subst (λ x. Looks (Some t) (x ++ z)) f l)
opener_is {w = w} z t (init_stmt at p xs i f) l = begins_looks w z t (begins_is xs _ f (init_begins i)) l
opener_is {w = w} z t (wait_stmt at p xs o f s) l = begins_looks w z t (begins_is xs _ f (waiting_begins o)) l
opener_is {w = w} z t (call_stmt at p q r path args x a f s) l = begins_looks w z t (begins_is path _ f (path_begins x)) l
