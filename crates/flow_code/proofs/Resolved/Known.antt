-- What is known of an expression without evaluation.
use Rattle.std.proofs.Common.{◌≡◌, ℕ, ℤ, pos, Bool, is_some, IfSome, Bor, refl, ap, sym, subst, ◌∙◌, int_cmp}
use Rattle.std.proofs.lemmas.Bool.{false≢true}
use Rattle.std.specs.Option.{option_map, option_copied}
use Rattle.std.specs.declared.option.Option.{Option}
use Rattle.std.specs.declared.option.Option.TheVariants.{None, Some}
use Rattle.std.specs.declared.result.Result.{Result}
use Rattle.std.specs.declared.alloc.Global.{Global}
use Rattle.std.specs.declared.boxed.Box.{Box}
use Rattle.flow_tree.specs.declared.expr.Op.{Op}
use Rattle.flow_tree.specs.Tree.{ByIndex}
use Rattle.flow_ast.specs.TypingNames.{selected}
use Rattle.flow_tree.specs.declared.expr.Op.TheVariants.{Or, And, Eq, Ne, Lt, Le, Gt, Ge, Add, Sub, Mul, Div, Rem}
use Rattle.flow_value.specs.declared.value.Record.{Record}
use Rattle.flow_value.specs.declared.value.Value.{Value}
use Rattle.flow_value.specs.declared.value.Value.TheVariants.{Struct, rolls-Struct}
use Rattle.flow_value.specs.declared.value.Value.TheOpen as layer
use Rattle.flow_value.specs.declared.value.Value.TheFolds.{fold-roll-Value}
use Rattle.flow_value.specs.Values.{ValueTree, ValueTrees, IntValue, BoolValue, CompositeValue, RecordWhole, ListWhole, value_at as at}
use Rattle.flow_value.specs.View.{value_of, values_of, value_step}
use Rattle.flow_eval.specs.declared.stop.Halt.{Halt}
use Rattle.flow_eval.specs.Answers.{truth}
use Rattle.flow_eval.specs.Operators.{compared, on_ints}
use Rattle.flow_eval.specs.Predefined.{element_got}
use Rattle.flow_eval.specs.Records.{field_answer}
use Rattle.flow_eval.specs.Eval.{Res, Done, then, at_once, more_args, method_called, both, second, truth_of}
use Rattle.flow_eval.specs.View.{GivesAnswer, Gives}
use Rattle.flow_eval.proofs.Results.{answer_gives}
use Rattle.flow_code.specs.declared.expr.expr.Resolved.{Resolved}
use Rattle.flow_code.specs.declared.expr.expr.Resolved.TheVariants.{Field, Binary, rolls-Field, rolls-Binary}
use Rattle.flow_code.specs.declared.expr.expr.Resolved.TheOpen as resolved
use Rattle.flow_code.specs.declared.expr.expr.Resolved.TheFolds.{fold-roll-Resolved}
use Rattle.flow_code.specs.Resolved.Tree.{Node, NoNodes, MoreNodes, FieldNode, BinaryNode, indexed_node}
use Rattle.flow_code.specs.Resolved.View.{node_of, node_step}
use Rattle.flow_code.specs.Resolved.Evaluation.{ActorViewTree, numbered_field, field_by, value_at, values_at}

pub struct_seen : (b : Box (Record Value) Global) → value_of (Struct b) ≡ CompositeValue (RecordWhole b.value.id) (values_of b.value.fields.items)
struct_seen b = ap value_of (sym (rolls-Struct b)) ∙ fold-roll-Value ValueTree value_step (layer.Struct b)

-- an expression comes to this value, whatever turns are left
abbrev pub Comes : ActorViewTree → Node → ValueTree → Type 0
Comes s e v = (left : ℕ) → value_at s e left ≡ Done v left

pub field_comes : (s : ActorViewTree) (e : Node) (f : ℕ) (v w : ValueTree) → Comes s e v → Some w ≡ numbered_field s.places v f → Comes s (FieldNode e (Some f)) w
field_comes s e f v w h k left =
    ap (λ r. then r (λ v left. at_once (field_answer (field_by s.places v (Some f))) left)) (h left)
    ∙ ap (λ o. at_once (field_answer o) left) (sym k)

pub field_seen : (s : ActorViewTree) (e : Node) (f : ℕ) (v : ValueTree) (r : Option (Bor Value)) → Comes s e v → option_map value_of (option_copied r) ≡ numbered_field s.places v f
    → IfSome r (λ w. Comes s (FieldNode e (Some f)) (value_of w.now))
field_seen s e f v None h k = tt
field_seen s e f v (Some w) h k = field_comes s e f v (value_of w.now) h k

-- an element of a list, by an index that is known
element_comes : (s : ActorViewTree) (e i : Node) (es : ValueTrees) (k : ℕ) (w : ValueTree) → Comes s e (CompositeValue ListWhole es) → Comes s i (IntValue (pos k))
    → Some w ≡ at es k → Comes s (indexed_node e i) w
element_comes s e i es k w h g a left =
    ap (λ r. then r (λ v l. then (values_at s (MoreNodes i NoNodes) l) (λ vs l. at_once (method_called s.setting.cells (selected ByIndex) v vs) l))) (h left)
    ∙ ap (λ r. then (more_args r (values_at s NoNodes)) (λ vs l. at_once (method_called s.setting.cells (selected ByIndex) (CompositeValue ListWhole es) vs) l)) (g left)
    ∙ ap (λ o. at_once (element_got o) left) (sym a)

pub element_seen : (s : ActorViewTree) (e i : Node) (es : ValueTrees) (k : ℕ) (r : Option (Bor Value)) → Comes s e (CompositeValue ListWhole es) → Comes s i (IntValue (pos k))
    → option_map value_of (option_copied r) ≡ at es k → IfSome r (λ w. Comes s (indexed_node e i) (value_of w.now))
element_seen s e i es k None h g a = tt
element_seen s e i es k (Some w) h g a = element_comes s e i es k (value_of w.now) h g a

-- a sign between whole numbers that are known
both_known : (s : ActorViewTree) (op : Op) (l : Node) (b : ℤ) (v : ValueTree) (left : ℕ) → Comes s l (IntValue b) → both op v (value_at s l left) ≡ both op v (Done (IntValue b) left)
both_known s op l b v left h = ap (both op v) (h left)

second_known : (s : ActorViewTree) (op : Op) (r : Node) (a b : ℤ) (left : ℕ) → Comes s r (IntValue b) → second op (IntValue a) (value_at s r) left ≡ at_once (on_ints op a b) left
second_known s Or r a b left h = refl
second_known s And r a b left h = refl
second_known s Eq r a b left h = both_known s Eq r b (IntValue a) left h
second_known s Ne r a b left h = both_known s Ne r b (IntValue a) left h
second_known s Lt r a b left h = both_known s Lt r b (IntValue a) left h
second_known s Le r a b left h = both_known s Le r b (IntValue a) left h
second_known s Gt r a b left h = both_known s Gt r b (IntValue a) left h
second_known s Ge r a b left h = both_known s Ge r b (IntValue a) left h
second_known s Add r a b left h = both_known s Add r b (IntValue a) left h
second_known s Sub r a b left h = both_known s Sub r b (IntValue a) left h
second_known s Mul r a b left h = both_known s Mul r b (IntValue a) left h
second_known s Div r a b left h = both_known s Div r b (IntValue a) left h
second_known s Rem r a b left h = both_known s Rem r b (IntValue a) left h

binary_known : (s : ActorViewTree) (op : Op) (l r : Node) (a b : ℤ) (left : ℕ) → Comes s l (IntValue a) → Comes s r (IntValue b)
    → then (value_at s l left) (λ v k. second op v (value_at s r) k) ≡ at_once (on_ints op a b) left
binary_known s op l r a b left h k = ap (λ q. then q (λ v k. second op v (value_at s r) k)) (h left) ∙ second_known s op r a b left k

pub ints_give : (s : ActorViewTree) (op : Op) (l r : Node) (a b : ℤ) (q : Result Value Halt) (left : ℕ) → Comes s l (IntValue a) → Comes s r (IntValue b) → GivesAnswer (on_ints op a b) q
    → Gives (then (value_at s l left) (λ v k. second op v (value_at s r) k)) q left
ints_give s op l r a b q left h k g = subst (λ z. Gives z q left) (sym (binary_known s op l r a b left h k)) (answer_gives (on_ints op a b) left q g)

-- what follows a value that is known
pub known_gives : (s : ActorViewTree) (e : Node) (v : ValueTree) (go : ValueTree → ℕ → Res ValueTree) (q : Result Value Halt) (left rest : ℕ) → Comes s e v → Gives (go v left) q rest
    → Gives (then (value_at s e left) go) q rest
known_gives s e v go q left rest h g = subst (λ z. Gives z q rest) (sym (ap (λ r. then r go) (h left))) g

some_none : {A : Type 0} (x : A) → Some x ≡ None → ⊥
some_none x e = false≢true (sym (ap is_some e))

-- a comparison of whole numbers that are known
truth_once : (op : Op) (a b : ℤ) (t : Bool) (left : ℕ) → Some t ≡ compared op (int_cmp a b) → truth_of (at_once (on_ints op a b) left) ≡ Done (BoolValue t) left
truth_once Or a b t left e = absurd (some_none t e)
truth_once And a b t left e = absurd (some_none t e)
truth_once Eq a b t left e = ap (λ o. truth_of (at_once (truth o) left)) (sym e)
truth_once Ne a b t left e = ap (λ o. truth_of (at_once (truth o) left)) (sym e)
truth_once Lt a b t left e = ap (λ o. truth_of (at_once (truth o) left)) (sym e)
truth_once Le a b t left e = ap (λ o. truth_of (at_once (truth o) left)) (sym e)
truth_once Gt a b t left e = ap (λ o. truth_of (at_once (truth o) left)) (sym e)
truth_once Ge a b t left e = ap (λ o. truth_of (at_once (truth o) left)) (sym e)
truth_once Add a b t left e = absurd (some_none t e)
truth_once Sub a b t left e = absurd (some_none t e)
truth_once Mul a b t left e = absurd (some_none t e)
truth_once Div a b t left e = absurd (some_none t e)
truth_once Rem a b t left e = absurd (some_none t e)

pub ints_compare : (s : ActorViewTree) (op : Op) (l r : Node) (a b : ℤ) (o : Option Bool) → Comes s l (IntValue a) → Comes s r (IntValue b) → o ≡ compared op (int_cmp a b)
    → IfSome o (λ t. (left : ℕ) → truth_of (value_at s (BinaryNode op l r) left) ≡ Done (BoolValue t) left)
ints_compare s op l r a b None h k e = tt
ints_compare s op l r a b (Some t) h k e = λ left. ap truth_of (binary_known s op l r a b left h k) ∙ truth_once op a b t left e

-- the layers of a field and of a sign
pub field_node : (e : Box Resolved Global) (f : Option ℕ) → node_of (Field e f) ≡ FieldNode (node_of e.value) f
field_node e f = ap node_of (sym (rolls-Field e f)) ∙ fold-roll-Resolved Node node_step (resolved.Field e f)

pub binary_node : (op : Op) (l r : Box Resolved Global) → node_of (Binary op l r) ≡ BinaryNode op (node_of l.value) (node_of r.value)
binary_node op l r = ap node_of (sym (rolls-Binary op l r)) ∙ fold-roll-Resolved Node node_step (resolved.Binary op l r)
