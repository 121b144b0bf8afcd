-- A resolved expression comes to what its text means.
use Rattle.std.proofs.Common.{◌≡◌, ℕ, Bool, true, false, List, ◌∷◌, refl, ap, sym, ◌∙◌, Option, None, Some}
use Rattle.flow_tree.specs.declared.expr.Op.{Op}
use Rattle.flow_tree.specs.declared.expr.Op.TheVariants.{Or, And, Eq, Ne, Lt, Le, Gt, Ge, Add, Sub, Mul, Div, Rem}
use Rattle.flow_tree.specs.Tree.{ExprTree, ExprTrees, IntExpr, TextExpr, BoolExpr, VoidExpr, VarExpr, CallExpr, FieldExpr, MethodExpr, NotExpr, NegExpr, BinaryExpr, ParenExpr, NoExprs, MoreExprs}
use Rattle.flow_tree.specs.Decls.{RecordTree}
use Rattle.flow_ast.specs.declared.predefined.Predefined.{Predefined}
use Rattle.flow_ast.specs.Typing.{routine_named}
use Rattle.flow_ast.specs.TypingNames.{named, selected, call_names, constant_names}
use Rattle.flow_value.specs.declared.value.RecordId.{RecordId}
use Rattle.flow_value.specs.Values.{ValueTree, IntValue, BoolValue, TextValue, VoidValue, ErrorValue, CompositeValue, RefValue, at_place, Whole}
use Rattle.flow_eval.specs.Answers.{bool_of}
use Rattle.flow_eval.specs.Functions.{routine_at}
use Rattle.flow_eval.specs.Operators.{inverted, negated}
use Rattle.flow_eval.specs.Records.{record_id, field_place, field, field_answer}
use Rattle.flow_eval.specs.Eval.{Res, Done, Fails, Spent, Meaningless, then, at_once, more_args, found, variable, or_then, and_then, truth_of, both, second, method_called, function_called, declared_called, called, eval, eval_all}
use Rattle.flow_code.specs.Resolved.Tree.{Nodes}
use Rattle.flow_code.specs.Resolved.Evaluation.{ActorViewTree, field_by, value_at, values_at}
use Rattle.flow_code.specs.Resolved.Resolving.{Naming, place_node, variable_node, function_node, declared_node, call_node, resolved, resolved_all, place_by, IsNumbering, AreRecords, AreFunctions, held_by, AreSeen, ResolvedAlike}

then_same : {A B : Type 0} (r q : Res A) (go to : A → ℕ → Res B) → r ≡ q → ((x : A) (left : ℕ) → go x left ≡ to x left) → then r go ≡ then q to
then_same (Done x left) q go to e same = same x left ∙ ap (λ q. then q to) e
then_same (Fails c left) q go to e same = ap (λ q. then q to) e
then_same Spent q go to e same = ap (λ q. then q to) e
then_same Meaningless q go to e same = ap (λ q. then q to) e

-- one more argument, and a sign whose left operand is known
more_same : (r q : Res ValueTree) (go to : ℕ → Res (List ValueTree)) → r ≡ q → ((left : ℕ) → go left ≡ to left) → more_args r go ≡ more_args q to
more_same r q go to e same = then_same r q _ _ e (λ v left. ap (λ r. then r (λ vs left. Done (v ∷ vs) left)) (same left))

or_same : (b : Option Bool) (go to : ℕ → Res ValueTree) (left : ℕ) → ((left : ℕ) → go left ≡ to left) → or_then b go left ≡ or_then b to left
or_same None go to left same = refl
or_same (Some true) go to left same = refl
or_same (Some false) go to left same = ap truth_of (same left)

and_same : (b : Option Bool) (go to : ℕ → Res ValueTree) (left : ℕ) → ((left : ℕ) → go left ≡ to left) → and_then b go left ≡ and_then b to left
and_same None go to left same = refl
and_same (Some true) go to left same = ap truth_of (same left)
and_same (Some false) go to left same = refl

second_same : (op : Op) (v : ValueTree) (go to : ℕ → Res ValueTree) (left : ℕ) → ((left : ℕ) → go left ≡ to left) → second op v go left ≡ second op v to left
second_same Or v go to left same = or_same (bool_of v) go to left same
second_same And v go to left same = and_same (bool_of v) go to left same
second_same Eq v go to left same = ap (both Eq v) (same left)
second_same Ne v go to left same = ap (both Ne v) (same left)
second_same Lt v go to left same = ap (both Lt v) (same left)
second_same Le v go to left same = ap (both Le v) (same left)
second_same Gt v go to left same = ap (both Gt v) (same left)
second_same Ge v go to left same = ap (both Ge v) (same left)
second_same Add v go to left same = ap (both Add v) (same left)
second_same Sub v go to left same = ap (both Sub v) (same left)
second_same Mul v go to left same = ap (both Mul v) (same left)
second_same Div v go to left same = ap (both Div v) (same left)
second_same Rem v go to left same = ap (both Rem v) (same left)

-- a field by the number of its name is the field of its name
field_same : (places : Whole → ℕ → Option ℕ) (rs : List RecordTree) (x : List ℕ) (o : Option ℕ) (v : ValueTree)
    → ((w : Whole) → place_by places w o ≡ field_place rs w x) → field_by places v o ≡ field rs v x
field_same places rs x None (IntValue n) e = refl
field_same places rs x None (BoolValue b) e = refl
field_same places rs x None (TextValue t) e = refl
field_same places rs x None VoidValue e = refl
field_same places rs x None (ErrorValue c) e = refl
field_same places rs x None (CompositeValue w vs) e = ap (at_place vs) (e w)
field_same places rs x None (RefValue k c) e = refl
field_same places rs x (Some f) (IntValue n) e = refl
field_same places rs x (Some f) (BoolValue b) e = refl
field_same places rs x (Some f) (TextValue t) e = refl
field_same places rs x (Some f) VoidValue e = refl
field_same places rs x (Some f) (ErrorValue c) e = refl
field_same places rs x (Some f) (CompositeValue w vs) e = ap (at_place vs) (e w)
field_same places rs x (Some f) (RefValue k c) e = refl

-- a variable
place_same : (s : ActorViewTree) (o : Option ℕ) (left : ℕ) → value_at s (place_node o) left ≡ at_once (found (held_by s.held o)) left
place_same s None left = refl
place_same s (Some n) left = refl

variable_same : (s : ActorViewTree) (look : List ℕ → Option ValueTree) (x : List ℕ) (c o : Option ℕ) (left : ℕ) → look x ≡ held_by s.held o
    → value_at s (variable_node c o) left ≡ at_once (variable look x c) left
variable_same s look x None o left e = place_same s o left ∙ ap (λ v. at_once (found v) left) (sym e)
variable_same s look x (Some n) o left e = refl

module _ (n : Naming) (s : ActorViewTree) (look : List ℕ → Option ValueTree)
    (records : AreRecords s.setting.records n.record_of) (functions : AreFunctions s.setting.functions n.function)
    (fields : IsNumbering s.setting.records n.field s.places) (seen : AreSeen look n.place s.held) where
  -- a call whose arguments are known
  function_same : (f : List ℕ) (k : Option ℕ) (xs : Nodes) (left : ℕ) → routine_named s.setting.functions f ≡ routine_at s.setting.functions k
      → value_at s (function_node k xs) left ≡ then (values_at s xs left) (λ vs left. function_called s.setting s.run (routine_named s.setting.functions f) vs left)
  function_same f None xs left e = then_same (values_at s xs left) (values_at s xs left) _ _ refl (λ vs left. ap (λ o. function_called s.setting s.run o vs left) (sym e))
  function_same f (Some k) xs left e = then_same (values_at s xs left) (values_at s xs left) _ _ refl (λ vs left. ap (λ o. function_called s.setting s.run o vs left) (sym e))

  declared_same : (f : List ℕ) (r : Option RecordId) (k : Option ℕ) (xs : Nodes) (left : ℕ) → routine_named s.setting.functions f ≡ routine_at s.setting.functions k
      → value_at s (declared_node r k xs) left ≡ then (values_at s xs left) (λ vs left. declared_called s.setting s.run r f vs left)
  declared_same f None k xs left e = function_same f k xs left e
  declared_same f (Some r) k xs left e = refl

  call_same : (f : List ℕ) (p : Option Predefined) (r : Option RecordId) (k : Option ℕ) (xs : Nodes) (left : ℕ) → r ≡ record_id s.setting.records f
      → routine_named s.setting.functions f ≡ routine_at s.setting.functions k
      → value_at s (call_node p r k xs) left ≡ then (values_at s xs left) (λ vs left. called s.setting s.run p f vs left)
  call_same f None r k xs left d e = declared_same f r k xs left e ∙ ap (λ r. then (values_at s xs left) (λ vs left. declared_called s.setting s.run r f vs left)) d
  call_same f (Some p) r k xs left d e = refl

  the_field : (x : List ℕ) (v : ValueTree) → field_by s.places v (n.field x) ≡ field s.setting.records v x
  the_field x v = field_same s.places s.setting.records x (n.field x) v (λ w. fields w x)

  mutual
    same : (e : ExprTree) (left : ℕ) → value_at s (resolved n e) left ≡ eval s.setting s.run look e left
    same (IntExpr i) left = refl
    same (TextExpr t) left = refl
    same (BoolExpr b) left = refl
    same VoidExpr left = refl
    same (VarExpr x) left = variable_same s look x.name (named constant_names x.name) (n.place x.name) left (seen x.name)
    same (CallExpr f xs) left =
        call_same f.name (named call_names f.name) (n.record_of f.name) (n.function f.name) (resolved_all n xs) left (records f.name) (functions f.name).0
        ∙ ap (λ r. then r (λ vs left. called s.setting s.run (named call_names f.name) f.name vs left)) (same_all xs left)
    same (FieldExpr e x) left = then_same _ _ _ _ (same e left) (λ v left. ap (λ o. at_once (field_answer o) left) (the_field x.name v))
    same (MethodExpr e m xs) left =
        then_same _ _ _ _ (same e left) (λ v left. ap (λ r. then r (λ vs left. at_once (method_called s.setting.cells (selected m) v vs) left)) (same_all xs left))
    same (NotExpr e) left = ap (λ r. then r (λ v left. at_once (inverted v) left)) (same e left)
    same (NegExpr e) left = ap (λ r. then r (λ v left. at_once (negated v) left)) (same e left)
    same (BinaryExpr op a b) left = then_same _ _ _ _ (same a left) (λ v left. second_same op v _ _ left (same b))
    same (ParenExpr e) left = same e left

    same_all : (es : ExprTrees) (left : ℕ) → values_at s (resolved_all n es) left ≡ eval_all s.setting s.run look es left
    same_all NoExprs left = refl
    same_all (MoreExprs e es) left = more_same _ _ _ _ (same e left) (same_all es)

pub resolved_alike : ResolvedAlike
resolved_alike n s look records functions fields seen = record { same = same n s look records functions fields seen }
