-- Names in the maps of the code.
use Rattle.std.specs.Prelude.{◌≡◌, ℕ, suc, List, [], ◌∷◌, map, position, slice_get, if◌then◌else◌}
use Rattle.std.specs.Option.{option_map}
use Rattle.std.specs.Str.{bytes_eq}
use Rattle.std.specs.Map.{lookup}
use Rattle.std.specs.declared.alloc.Global.{Global}
use Rattle.std.specs.declared.option.Option.{Option}
use Rattle.std.specs.declared.option.Option.TheVariants.{None, Some}
use Rattle.std.specs.declared.vec.Vec.{Vec}
use denote.Ref.{Bor}
use Rattle.indexmap.specs.IndexMap.{IndexMap}
use Rattle.flow_tree.specs.declared.decl.FunctionDecl.{FunctionDecl}
use Rattle.flow_tree.specs.declared.decl.RecordDecl.{RecordDecl}
use Rattle.flow_tree.specs.Decls.{ParamTree, RecordTree}
use Rattle.flow_ast.specs.Typing.{is_packet}
use Rattle.flow_value.specs.declared.value.RecordId.{RecordId}
use Rattle.flow_value.specs.declared.value.RecordId.TheVariants.{Packet, Declared}
use Rattle.flow_code.specs.declared.expr.names.Names.{Names}
use Rattle.flow_code.specs.Resolved.Resolving.{Naming}

-- the number of a name in a map, and in a set
abbrev pub at_name : {S : Type 0} → IndexMap (Bor (List ℕ)) ℕ S → List ℕ → Option ℕ
at_name m x = lookup (λ k. bytes_eq x k.now) m.entries

abbrev pub key_at : List (Bor (List ℕ)) → List ℕ → Option ℕ
key_at ks x = position (λ k. bytes_eq x k.now) ks

-- the place of the first of these names that is this one, from a place on
abbrev pub first_from : ℕ → List (List ℕ) → List ℕ → Option ℕ
first_from k [] x = None
first_from k (y ∷ ys) x = if bytes_eq x y then Some k else first_from (suc k) ys x

-- the first of two that is there
abbrev pub or_else : Option ℕ → Option ℕ → Option ℕ
or_else None o = o
or_else (Some k) o = Some k

-- the number of each key stays
abbrev pub Keeps : List (Bor (List ℕ)) → List (Bor (List ℕ)) → Type 0
Keeps ks ls = (n : ℕ) (k : Bor (List ℕ)) → slice_get ks n ≡ Some k → slice_get ls n ≡ Some k

abbrev pub name_of_record : RecordDecl → List ℕ
name_of_record r = r.name.name

abbrev pub name_of_function : FunctionDecl → List ℕ
name_of_function f = f.name.name

-- what the names of a program stand for, with the places of an actor
abbrev pub record_at : Option ℕ → List ℕ → Option RecordId
record_at k x = if is_packet x then Some Packet else option_map Declared k

abbrev pub naming_of : Names → (List ℕ → Option ℕ) → Naming
naming_of n place = record {
  record_of = λ x. record_at (at_name n.records x) x;
  function = λ x. at_name n.functions x;
  field = λ x. key_at n.fields.keys x;
  place = place;
}

-- each number is that of a key that is the name of the field
abbrev pub IsNamed : List (Bor (List ℕ)) → ℕ → List ℕ → Type 0
IsNamed ks n x = (k : Bor (List ℕ)) × (slice_get ks n ≡ Some k) × (k.now ≡ x)

abbrev pub AreNamed : {A : Type 0} → (A → List ℕ) → List (Bor (List ℕ)) → List ℕ → List A → Type 0
AreNamed f ks [] [] = Unit {0}
AreNamed f ks [] (p ∷ ps) = ⊥
AreNamed f ks (n ∷ ns) [] = ⊥
AreNamed f ks (n ∷ ns) (p ∷ ps) = IsNamed ks n (f p) × AreNamed f ks ns ps

abbrev pub param_name : ParamTree → List ℕ
param_name p = p.name.name

abbrev pub AllNamed : List (Bor (List ℕ)) → List (Vec ℕ Global) → List RecordTree → Type 0
AllNamed ks [] [] = Unit {0}
AllNamed ks [] (r ∷ rs) = ⊥
AllNamed ks (v ∷ vs) [] = ⊥
AllNamed ks (v ∷ vs) (r ∷ rs) = AreNamed param_name ks v.items r.fields × AllNamed ks vs rs
