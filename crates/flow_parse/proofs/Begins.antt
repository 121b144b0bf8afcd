-- With which tokens expressions, types and what holds them begin.
use Rattle.std.proofs.Common.{◌≡◌, ℕ, List, [], ◌∷◌, ◌++◌, sym, ap, subst, Bool}
use Rattle.std.specs.declared.option.Option.{Option}
use Rattle.std.specs.declared.option.Option.TheVariants.{None, Some}
use Rattle.flow_tree.specs.declared.token.Token.{Token}
use Rattle.flow_tree.specs.declared.token.Token.TheVariants as token
use Rattle.flow_tree.specs.declared.token.Word.{Word}
use Rattle.flow_tree.specs.declared.token.Word.TheVariants as word
use Rattle.flow_tree.specs.declared.decl.RoutineKind.{RoutineKind}
use Rattle.flow_tree.specs.Tree.{TypeTree, ExprTree}
use Rattle.flow_tree.specs.Body.{IntoTree}
use Rattle.flow_tree.specs.GrammarToken.{Part, Node, Marked, begin}
use Rattle.flow_tree.specs.Grammar.{ExprRule, number, text, truth, falsehood, void, variable, call, paren, field, method, index, negation, minus, binary, TypeRule, int_type, bool_type, string_type, void_type, error_type, named_type, wrapped_type, FutureOf, FutureStreamOf, PromiseOf, PromiseStreamOf, VectorOf}
use Rattle.flow_tree.specs.GrammarStmt.{Counts, no_state, some_state, IntoRule, declared, OperandRule, wait, wait_next}
use Rattle.flow_parse.specs.Openers.{AsFirst, ExprToken, TypeWord, TypeToken, IntoWord, IntoToken, WaitWord, WaitToken}
use Rattle.flow_parse.proofs.Looking.{Looks}

-- the first of these tokens is such
abbrev pub Starts : (Token → Type 0) → List Marked → Type 0
Starts P [] = ⊥
Starts P (x ∷ xs) = P x.spot.token

pub starts_append : (P : Token → Type 0) (xs ys : List Marked) → Starts P xs → Starts P (xs ++ ys)
starts_append P [] ys h = absurd h
starts_append P (x ∷ xs) ys h = h

pub starts_is : (P : Token → Type 0) {w : List Marked} (xs ys : List Marked) → w ≡ xs ++ ys → Starts P xs → Starts P w
starts_is P xs ys e h = subst (Starts P) (sym e) (starts_append P xs ys h)

starts_begin : (P : Token → Type 0) {w : List Marked} (p : Part) (xs ys : List Marked) → w ≡ begin p xs ++ ys → Starts P xs → Starts P w
starts_begin P p [] ys e h = absurd h
starts_begin P p (x ∷ xs) ys e h = subst (Starts P) (sym e) h

pub starts_looks : (P : Token → Type 0) (w z : List Marked) (o : Option Token) → Starts P w → Looks o (w ++ z) → AsFirst P o
starts_looks P [] z o h l = absurd h
starts_looks P (x ∷ w) z None h l = absurd l
starts_looks P (x ∷ w) z (Some t) h l = subst P l h

-- the next token is the first of a part that isn't empty
pub looks_first : (o : Option Token) (x : Marked) (m : List Marked) → Looks o (x ∷ m) → o ≡ Some x.spot.token
looks_first None x m l = absurd l
looks_first (Some t) x m l = ap Some (sym l)

pub looks_is : {w : List Marked} (o : Option Token) (x : Marked) (m z : List Marked) → w ≡ x ∷ m → Looks o (w ++ z) → o ≡ Some x.spot.token
looks_is o x m z e l = looks_first o x (m ++ z) (subst (λ k. Looks o (k ++ z)) e l)

pub expr_starts : {k d : ℕ} {w : List Marked} {e : ExprTree} → ExprRule k d w e → Starts ExprToken w
expr_starts (number n p) = tt
expr_starts (text t p) = tt
expr_starts (truth p) = tt
expr_starts (falsehood p) = tt
expr_starts (void p q r) = tt
expr_starts (variable x) = tt
expr_starts (call f p q args a e) = subst (Starts ExprToken) (sym e) tt
expr_starts (paren p q of r e) = subst (Starts ExprToken) (sym e) tt
expr_starts {d = d} (field p x of r e) = starts_begin ExprToken (Node d) of _ e (expr_starts r)
expr_starts {d = d} (method p q r f of args t a e) = starts_begin ExprToken (Node d) of _ e (expr_starts t)
expr_starts {d = d} (index p q of at t i e) = starts_begin ExprToken (Node d) of _ e (expr_starts t)
expr_starts (negation p of h r e) = subst (Starts ExprToken) (sym e) tt
expr_starts (minus p of h r e) = subst (Starts ExprToken) (sym e) tt
expr_starts {d = d} (binary op p left right h a b e) = starts_begin ExprToken (Node d) left _ e (expr_starts a)

pub type_starts : {d : ℕ} {w : List Marked} {t : TypeTree} → TypeRule d w t → Starts TypeToken w
type_starts (int_type p) = tt
type_starts (bool_type p) = tt
type_starts (string_type p) = tt
type_starts (void_type p) = tt
type_starts (error_type p) = tt
type_starts (named_type x) = tt
type_starts (wrapped_type FutureOf p q r of t e) = subst (Starts TypeToken) (sym e) tt
type_starts (wrapped_type FutureStreamOf p q r of t e) = subst (Starts TypeToken) (sym e) tt
type_starts (wrapped_type PromiseOf p q r of t e) = subst (Starts TypeToken) (sym e) tt
type_starts (wrapped_type PromiseStreamOf p q r of t e) = subst (Starts TypeToken) (sym e) tt
type_starts (wrapped_type VectorOf p q r of t e) = subst (Starts TypeToken) (sym e) tt

type_into_word : (k : Word) → TypeWord k → IntoWord k
type_into_word word.State h = tt
type_into_word word.Int h = tt
type_into_word word.Bool h = tt
type_into_word word.Str h = tt
type_into_word word.Void h = tt
type_into_word word.Error h = tt
type_into_word word.Future h = tt
type_into_word word.FutureStream h = tt
type_into_word word.Promise h = tt
type_into_word word.PromiseStream h = tt
type_into_word word.Vector h = tt
type_into_word _ h = h

type_into : (t : Token) → TypeToken t → IntoToken t
type_into (token.Name n) h = tt
type_into (token.Word k) h = type_into_word k h
type_into (token.Number n) h = absurd h
type_into (token.Text n) h = absurd h
type_into (token.Sign n) h = absurd h

pub starts_weaken : (P Q : Token → Type 0) (f : (t : Token) → P t → Q t) (xs : List Marked) → Starts P xs → Starts Q xs
starts_weaken P Q f [] h = absurd h
starts_weaken P Q f (x ∷ xs) h = f x.spot.token h

pub into_starts : {home : RoutineKind} {d : ℕ} {c c' : Counts} {w : List Marked} {i : IntoTree} → IntoRule home d c c' w i → Starts IntoToken w
into_starts (declared x kept of no_state t e) = starts_is IntoToken of _ e (starts_weaken TypeToken IntoToken type_into of (type_starts t))
into_starts (declared x kept of (some_state p) t e) = subst (Starts IntoToken) (sym e) tt

pub operand_starts : {d : ℕ} {w : List Marked} {b : Bool} {e : ExprTree} → OperandRule d w b e → Starts WaitToken w
operand_starts (wait p q r of x e) = subst (Starts WaitToken) (sym e) tt
operand_starts (wait_next p q r of x e) = subst (Starts WaitToken) (sym e) tt

wait_into_word : (k : Word) → WaitWord k → IntoWord k → ⊥
wait_into_word word.Wait h i = i
wait_into_word word.WaitNext h i = i
wait_into_word _ h i = h

-- no wait begins as a declaration does, and none as an expression
pub wait_no_into : (o : Option Token) → AsFirst WaitToken o → AsFirst IntoToken o → ⊥
wait_no_into None h i = h
wait_no_into (Some (token.Word k)) h i = wait_into_word k h i
wait_no_into (Some (token.Name n)) h i = h
wait_no_into (Some (token.Number n)) h i = h
wait_no_into (Some (token.Text n)) h i = h
wait_no_into (Some (token.Sign n)) h i = h

wait_expr_word : (k : Word) → WaitWord k → ExprToken (token.Word k) → ⊥
wait_expr_word word.Wait h i = i
wait_expr_word word.WaitNext h i = i
wait_expr_word _ h i = h

pub wait_no_expr : (o : Option Token) → AsFirst WaitToken o → AsFirst ExprToken o → ⊥
wait_no_expr None h i = h
wait_no_expr (Some (token.Word k)) h i = wait_expr_word k h i
wait_no_expr (Some (token.Name n)) h i = h
wait_no_expr (Some (token.Number n)) h i = h
wait_no_expr (Some (token.Text n)) h i = h
wait_no_expr (Some (token.Sign n)) h i = h
