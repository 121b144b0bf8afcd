-- The first of each name, and fields by the numbers of their names, are what the texts say.
use Rattle.std.proofs.Common.{◌≡◌, ℕ, suc, ◌+◌, Bool, true, false, cond, ltb, List, [], ◌∷◌, length, map, position, slice_get, if◌then◌else◌, refl, ap, sym, ◌∙◌, arith}
use Rattle.std.proofs.lemmas.Bool.{ltb-false}
use Rattle.std.proofs.lemmas.Cmp.{nat_list_eq_equiv}
use Rattle.std.proofs.lemmas.List.Folds.{find_at}
use Rattle.std.proofs.lemmas.Option.{slice_get_past}
use Rattle.std.specs.List.{position_or_len}
use Rattle.std.specs.Option.{option_map}
use Rattle.std.specs.Str.{bytes_eq}
use Rattle.std.specs.declared.option.Option.{Option}
use Rattle.std.specs.declared.option.Option.TheVariants.{None, Some}
use Rattle.flow_tree.specs.declared.decl.FunctionDecl.{FunctionDecl}
use Rattle.flow_tree.specs.declared.decl.RecordDecl.{RecordDecl}
use Rattle.flow_tree.specs.DeclView.{record_of, function_of}
use Rattle.flow_tree.specs.Decls.{RoutineTree}
use Rattle.flow_ast.specs.Typing.{is_there, is_packet, routine_named}
use Rattle.flow_value.specs.declared.value.RecordId.TheVariants.{Packet, Declared}
use Rattle.flow_eval.specs.Functions.{routine_at}
use Rattle.flow_eval.specs.Records.{record_id}
use Rattle.flow_eval.proofs.Lookups.{position_records}
use Rattle.flow_code.specs.Resolved.Named.{first_from, record_at, name_of_record, name_of_function}

bytes_sym : (x y : List ℕ) → bytes_eq x y ≡ bytes_eq y x
bytes_sym x y = nat_list_eq_equiv.symm x y

-- the first of a name is the one at its place
from_place : {A : Type 0} (f : A → List ℕ) (x : List ℕ) (k : ℕ) (rs : List A)
    → first_from k (map f rs) x ≡ cond (ltb (position_or_len (λ r. bytes_eq (f r) x) rs) (length rs)) (Some (k + position_or_len (λ r. bytes_eq (f r) x) rs)) None
from_place f x k [] = refl
from_place f x k (r ∷ rs) = ap (λ b. if b then Some k else first_from (suc k) (map f rs) x) (bytes_sym x (f r)) ∙ grind (arith, from_place f x (suc k) rs)

pub first_at : {A : Type 0} (f : A → List ℕ) (x : List ℕ) (rs : List A) → first_from 0 (map f rs) x ≡ position (λ r. bytes_eq (f r) x) rs
first_at f x rs =
    let none : 0 + position_or_len (λ r. bytes_eq (f r) x) rs ≡ position_or_len (λ r. bytes_eq (f r) x) rs = omega arith in
    from_place f x 0 rs ∙ ap (λ n. cond (ltb (position_or_len (λ r. bytes_eq (f r) x) rs) (length rs)) (Some n) None) none

pub records_named : (rs : List RecordDecl) (o : Option ℕ) (x : List ℕ) → o ≡ first_from 0 (map name_of_record rs) x → record_at o x ≡ record_id (map record_of rs) x
records_named rs o x e =
    ap (λ o. if is_packet x then Some Packet else option_map Declared o) (e ∙ first_at name_of_record x rs ∙ sym (position_records rs x))

place_mapped : {X Y : Type 0} (f : X → Y) (p : Y → Bool) (xs : List X) → position_or_len p (map f xs) ≡ position_or_len (λ x. p (f x)) xs
place_mapped f p [] = refl
place_mapped f p (x ∷ xs) = grind (arith, place_mapped f p xs)

length_mapped : {X Y : Type 0} (f : X → Y) (xs : List X) → length (map f xs) ≡ length xs
length_mapped f [] = refl
length_mapped f (x ∷ xs) = ap suc (length_mapped f xs)

at_place_or_none : (fs : List RoutineTree) (n : ℕ) (b : Bool) → ltb n (length fs) ≡ b → slice_get fs n ≡ routine_at fs (cond b (Some n) None)
at_place_or_none fs n true e = refl
at_place_or_none fs n false e = slice_get_past fs n (ltb-false n (length fs) e)

found_by : (b : Bool) (k : ℕ) (f : RoutineTree) (o : Option ℕ) (q : Option RoutineTree) → is_there o ≡ is_there q
    → is_there (if b then Some k else o) ≡ is_there (cond b (Some f) q)
found_by true k f o q e = refl
found_by false k f o q e = e

found_too : (fs : List FunctionDecl) (k : ℕ) (x : List ℕ) → is_there (first_from k (map name_of_function fs) x) ≡ is_there (routine_named (map function_of fs) x)
found_too [] k x = refl
found_too (f ∷ fs) k x =
    ap (λ b. is_there (if b then Some k else first_from (suc k) (map name_of_function fs) x)) (bytes_sym x f.name.name)
    ∙ found_by (bytes_eq f.name.name x) k (function_of f) (first_from (suc k) (map name_of_function fs) x) (routine_named (map function_of fs) x) (found_too fs (suc k) x)

-- and no other name has a number
pub functions_there : (fs : List FunctionDecl) (o : Option ℕ) (x : List ℕ) → o ≡ first_from 0 (map name_of_function fs) x → is_there o ≡ is_there (routine_named (map function_of fs) x)
functions_there fs o x e = ap is_there e ∙ found_too fs 0 x

pub functions_named : (fs : List FunctionDecl) (o : Option ℕ) (x : List ℕ) → o ≡ first_from 0 (map name_of_function fs) x → routine_named (map function_of fs) x ≡ routine_at (map function_of fs) o
functions_named fs o x e =
    let p : RoutineTree → Bool = λ f. bytes_eq f.name.name x in
    find_at p (map function_of fs)
    ∙ at_place_or_none (map function_of fs) (position_or_len p (map function_of fs)) (ltb (position_or_len p (map function_of fs)) (length (map function_of fs))) refl
    ∙ ap (λ n. routine_at (map function_of fs) (cond (ltb n (length (map function_of fs))) (Some n) None)) (place_mapped function_of p fs)
    ∙ ap (λ n. routine_at (map function_of fs) (cond (ltb (position_or_len (λ f. p (function_of f)) fs) n) (Some (position_or_len (λ f. p (function_of f)) fs)) None)) (length_mapped function_of fs)
    ∙ ap (routine_at (map function_of fs)) (sym (e ∙ first_at name_of_function x fs))
