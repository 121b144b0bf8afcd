-- What stands in the places of a class: variables by name, and memories that fit.
use Rattle.std.specs.Prelude.{◌≡◌, ℕ, suc, List, [], ◌∷◌, ◌++◌, length}
use Rattle.std.specs.declared.option.Option.TheVariants.{Some}
use Rattle.flow_tree.specs.Tree.{TypeTree}
use Rattle.flow_tree.specs.Decls.{ParamTree, SlotTree, RecordTree}
use Rattle.flow_ast.specs.Typing.{param_named}
use Rattle.flow_value.specs.Values.{ValueTree}
use Rattle.flow_eval.specs.Typed.{HasType}
use Rattle.flow_class.specs.declared.class.Slotted.{Slotted}
use Rattle.flow_class.specs.declared.class.Slotted.TheVariants.{Slot, Local}
use Rattle.flow_class.specs.Classes.{ClassTree}
use Rattle.flow_class.specs.Places.{place_name, place_named}
use Rattle.flow_class.specs.Code.{type_at}
use Rattle.flow_valid.specs.Heads.{ident}
use Rattle.flow_meaning.specs.Frame.{Memory, read}

-- the places of a class as variables: the slots and then the locals
abbrev pub slot_vars : (from : ℕ) → List SlotTree → List ParamTree
slot_vars n [] = []
slot_vars n (s ∷ ss) = record { ty = s.ty; name = ident (place_name (Slot n)) } ∷ slot_vars (suc n) ss

abbrev pub local_vars : (from : ℕ) → List TypeTree → List ParamTree
local_vars n [] = []
local_vars n (t ∷ ts) = record { ty = t; name = ident (place_name (Local n)) } ∷ local_vars (suc n) ts

abbrev pub class_vars : ClassTree → List ParamTree
class_vars c = slot_vars 0 c.slots ++ local_vars 0 c.locals

-- a variable is the place that its name names, with its type
abbrev pub AreNamed : ClassTree → List ParamTree → Type 0
AreNamed c vars =
    (x : List ℕ) (p : ParamTree) → param_named vars x ≡ Some p → (q : Slotted) × (place_named x ≡ Some q) × (type_at c q ≡ Some p.ty)

-- a place holds a value
abbrev pub Filled : Memory → Slotted → Type 0
Filled m q = (v : ValueTree) × (read m q ≡ Some v)

-- A memory has as many slots and locals as its class, and what stands at a place has its type.
pub record HoldsTypes (rs : List RecordTree) (typed : ℕ → TypeTree → Type 0) (c : ClassTree) (m : Memory) : Type 0 where
  pub slots : length m.slots ≡ length c.slots
  pub locals : length m.locals ≡ length c.locals
  pub types : (q : Slotted) (t : TypeTree) (v : ValueTree) → type_at c q ≡ Some t → read m q ≡ Some v → HasType rs typed v t
