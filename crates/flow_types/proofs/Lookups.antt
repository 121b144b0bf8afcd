-- Look-ups in the maps of the code are look-ups in tables.
use Rattle.std.proofs.Common.{◌≡◌, ℕ, Bool, true, false, List, [], ◌∷◌, ◌++◌, ◌||◌, map, if◌then◌else◌, find, refl, sym, ap, ◌∙◌}
use Rattle.std.specs.Option.{option_map}
use Rattle.std.specs.Str.{bytes_eq}
use Rattle.std.specs.Map.{lookup}
use Rattle.std.specs.List.{list_any}
use Rattle.std.specs.declared.option.Option.{Option}
use Rattle.std.specs.declared.option.Option.TheVariants.{None, Some}
use denote.Ref.{Bor}
use Rattle.flow_ast.specs.TypingNames.{named}
use Rattle.flow_ast.specs.Typing.{is_there}
use Rattle.std.proofs.lemmas.Cmp.{nat_list_eq_equiv}
use Rattle.flow_tree.specs.declared.decl.Param.{Param}
use Rattle.flow_tree.specs.DeclView.{params_of}
use Rattle.flow_tree.specs.View.{type_of}
use Rattle.flow_rules.specs.Known.{field_row}
use Rattle.flow_rules.specs.Items.{among}
use Rattle.flow_types.specs.MapView.{bound}

-- what a table of a map's entries has at a name is what the map has there
pub named_lookup : {A X : Type 0} (f : A → X) (x : List ℕ) (es : List (Bor (List ℕ) × A)) → named (map (bound f) es) x ≡ option_map f (lookup (λ k. bytes_eq x k.now) es)
named_lookup f x [] = refl
named_lookup f x (e ∷ es) =
    elim (bytes_eq x e.0.now) as (λ b. (if b then Some (f e.1) else named (map (bound f) es) x) ≡ option_map f (if b then Some e.1 else lookup (λ k. bytes_eq x k.now) es))
    [ true ↦ refl | false ↦ named_lookup f x es ]

pub is_there_map : {A X : Type 0} (f : A → X) (o : Option A) → is_there (option_map f o) ≡ is_there o
is_there_map f None = refl
is_there_map f (Some x) = refl

pub bytes_sym : (x y : List ℕ) → bytes_eq x y ≡ bytes_eq y x
bytes_sym x y = nat_list_eq_equiv.symm x y

-- the first field of a name
pub field_find : (ps : List Param) (x : List ℕ)
    → named (map field_row (params_of ps)) x ≡ option_map (λ (p : Param). type_of p.ty) (find (λ (p : Param). bytes_eq p.name.name x) ps)
field_find [] x = refl
field_find (p ∷ ps) x =
    ap (λ b. if b then Some (type_of p.ty) else named (map field_row (params_of ps)) x) (bytes_sym x p.name.name)
    ∙ (elim (bytes_eq p.name.name x) as (λ b. (if b then Some (type_of p.ty) else named (map field_row (params_of ps)) x)
    ≡ option_map (λ (q : Param). type_of q.ty) (if b then Some p else find (λ (q : Param). bytes_eq q.name.name x) ps))
    [ true ↦ refl | false ↦ field_find ps x ])

-- a name is among the texts of a set
pub among_any : (x : List ℕ) (ks : List (Bor (List ℕ))) → among (map (λ (k : Bor (List ℕ)). k.now) ks) x ≡ list_any (λ k. bytes_eq x k.now) ks
among_any x [] = refl
among_any x (k ∷ ks) = ap (λ b. bytes_eq x k.now || b) (among_any x ks)
