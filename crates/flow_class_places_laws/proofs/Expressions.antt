-- The rules on expressions don't see places.
use Rattle.std.proofs.Common.{◌≡◌, ℕ, suc, List, [], ◌∷◌, Bool, false, refl, ap, ap₂, ◌∙◌}
use Rattle.std.specs.Prelude.{slice_get}
use Rattle.std.specs.declared.option.Option.{Option}
use Rattle.std.specs.declared.option.Option.TheVariants.{None, Some}
use Rattle.flow_tree.specs.Tree.{Selector, ByName, ByIndex, TypeTree, BoolType, IntType, ExprTree, ExprTrees, IntExpr, TextExpr, BoolExpr, VoidExpr, VarExpr, CallExpr, FieldExpr, MethodExpr, NotExpr, NegExpr, BinaryExpr, ParenExpr, NoExprs, MoreExprs}
use Rattle.flow_tree.specs.Canon.{placeless_expr, placeless_exprs, placeless_selector}
use Rattle.flow_ast.specs.Typing.{with_type}
use Rattle.flow_rules.specs.declared.rule.SemanticRule.{SemanticRule}
use Rattle.flow_rules.specs.declared.rule.SemanticRule.TheVariants.{WrongCount}
use Rattle.flow_rules.specs.Least.{lesser, unless}
use Rattle.flow_rules.specs.Judged.{Setting, Need, Kind, Callee, called, needs_of, gives_of, field_form, sign_form, form, wants, fits, operands, placed, as_many, calls, calls_on, of_field, fault, faults, wanted, selected_on}

as_many_aside : (es : ExprTrees) (ns : List Need) → as_many (placeless_exprs es) ns ≡ as_many es ns
as_many_aside NoExprs [] = refl
as_many_aside NoExprs (n ∷ ns) = refl
as_many_aside (MoreExprs e es) [] = refl
as_many_aside (MoreExprs e es) (n ∷ ns) = as_many_aside es ns

pub calls_aside : (es : ExprTrees) (c : Option Callee) (may : Kind → Option SemanticRule) → calls (placeless_exprs es) c may ≡ calls es c may
calls_aside es None may = refl
calls_aside es (Some c) may = ap (λ b. lesser (unless b WrongCount) (may c.kind)) (as_many_aside es c.needs)

calls_on_aside : (t : Option TypeTree) (es : ExprTrees) (c : Option Callee) (may : Kind → Option SemanticRule) → calls_on t (placeless_exprs es) c may ≡ calls_on t es c may
calls_on_aside None es c may = refl
calls_on_aside (Some t) es c may = calls_aside es c may

selected_aside : (t : Option TypeTree) (m : Selector) → selected_on t (placeless_selector m) ≡ selected_on t m
selected_aside t (ByName x) = refl
selected_aside t ByIndex = refl

module _ (s : Setting) where
  pub form_aside : (e : ExprTree) → form s (placeless_expr e) ≡ form s e
  form_aside (IntExpr n) = refl
  form_aside (TextExpr t) = refl
  form_aside (BoolExpr b) = refl
  form_aside VoidExpr = refl
  form_aside (VarExpr x) = refl
  form_aside (CallExpr f es) = refl
  form_aside (FieldExpr e x) = ap (λ o. with_type o (λ t. field_form s t x.name)) (form_aside e)
  form_aside (MethodExpr e m es) = ap gives_of (selected_aside (form s (placeless_expr e)) m) ∙ ap (λ o. gives_of (selected_on o m)) (form_aside e)
  form_aside (NotExpr e) = refl
  form_aside (NegExpr e) = refl
  form_aside (BinaryExpr op a b) = ap₂ (λ t u. sign_form op t u) (form_aside a) (form_aside b)
  form_aside (ParenExpr e) = form_aside e

  mutual
    pub fault_aside : (whole : Bool) (e : ExprTree) → fault s whole (placeless_expr e) ≡ fault s whole e
    fault_aside whole (IntExpr n) = refl
    fault_aside whole (TextExpr t) = refl
    fault_aside whole (BoolExpr b) = refl
    fault_aside whole VoidExpr = refl
    fault_aside whole (VarExpr x) = refl
    fault_aside whole (CallExpr f es) =
        ap₂ (λ k n. lesser k n) (faults_aside 0 (needs_of (called s f.name)) es) (calls_aside es (called s f.name) (placed s whole))
    fault_aside whole (FieldExpr e x) = ap₂ (λ k t. lesser k (of_field s t x.name)) (fault_aside false e) (form_aside e)
    fault_aside whole (MethodExpr e m es) =
        ap (λ c. lesser (fault s false (placeless_expr e)) (lesser (faults s 0 (needs_of c) (placeless_exprs es)) (calls_on (form s (placeless_expr e)) (placeless_exprs es) c (placed s false))))
        (selected_aside (form s (placeless_expr e)) m)
        ∙ ap₂ (λ k t. lesser k (lesser (faults s 0 (needs_of (selected_on t m)) (placeless_exprs es)) (calls_on t (placeless_exprs es) (selected_on t m) (placed s false))))
        (fault_aside false e) (form_aside e)
        ∙ ap₂ (λ k n. lesser (fault s false e) (lesser k n))
        (faults_aside 0 (needs_of (selected_on (form s e) m)) es) (calls_on_aside (form s e) es (selected_on (form s e) m) (placed s false))
    fault_aside whole (NotExpr e) = ap₂ (λ k t. lesser k (wants t BoolType)) (fault_aside false e) (form_aside e)
    fault_aside whole (NegExpr e) = ap₂ (λ k t. lesser k (wants t IntType)) (fault_aside false e) (form_aside e)
    fault_aside whole (BinaryExpr op a b) =
        ap₂ (λ k n. lesser k n) (ap₂ (λ k n. lesser k n) (fault_aside false a) (fault_aside false b)) (ap₂ (λ t u. operands op t u) (form_aside a) (form_aside b))
    fault_aside whole (ParenExpr e) = fault_aside false e

    pub faults_aside : (k : ℕ) (ns : List Need) (es : ExprTrees) → faults s k ns (placeless_exprs es) ≡ faults s k ns es
    faults_aside k ns NoExprs = refl
    faults_aside k ns (MoreExprs e es) =
        ap₂ (λ m n. lesser m n) (ap₂ (λ m t. lesser m (fits t (slice_get ns k))) (fault_aside false e) (form_aside e)) (faults_aside (suc k) ns es)

  pub wanted_aside : (whole : Bool) (e : ExprTree) (t : TypeTree) → wanted s whole (placeless_expr e) t ≡ wanted s whole e t
  wanted_aside whole e t = ap₂ (λ k u. lesser k (wants u t)) (fault_aside whole e) (form_aside e)
