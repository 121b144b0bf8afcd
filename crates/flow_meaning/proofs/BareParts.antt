-- What evaluation reads of records, functions and paths doesn't depend on places.
use Rattle.std.proofs.Common.{◌≡◌, ℕ, zero, suc, ◌+◌, List, [], ◌∷◌, Bool, true, false, cond, not, map, refl, ap, ◌∙◌, ap₂, arith, if◌then◌else◌}
use Rattle.std.specs.Prelude.{position, slice_get, option_map}
use Rattle.std.specs.List.{position_or_len}
use Rattle.std.specs.Str.{bytes_eq}
use Rattle.std.specs.declared.option.Option.{Option}
use Rattle.std.specs.declared.option.Option.TheVariants.{None, Some}
use Rattle.std.proofs.lemmas.List.{length-map}
use Rattle.flow_tree.specs.declared.ty.Ident.{Ident}
use Rattle.flow_tree.specs.Decls.{ParamTree, RecordTree, RoutineTree}
use Rattle.flow_tree.specs.Canon.{placeless_ident, placeless_param, placeless_record, placeless_routine}
use Rattle.flow_ast.specs.Typing.{routine_named, is_packet}
use Rattle.flow_value.specs.declared.value.RecordId.TheVariants.{Packet, Declared}
use Rattle.flow_value.specs.Values.{ValueTree, CompositeValue, at_place, Whole, RecordWhole, ListWhole}
use Rattle.flow_eval.specs.Records.{record_id, place_in, field_place, field}
use Rattle.flow_eval.specs.Functions.{place_of, put_at, put_in, read_in}

places-map : {A B : Type 0} (f : A → B) (p : B → Bool) (xs : List A) → position_or_len p (map f xs) ≡ position_or_len (λ x. p (f x)) xs
places-map f p [] = refl
places-map f p (x ∷ xs) = ap (λ n. cond (not (p (f x))) (1 + n) 0) (places-map f p xs)

pub position-map : {A B : Type 0} (f : A → B) (p : B → Bool) (xs : List A) → position p (map f xs) ≡ position (λ x. p (f x)) xs
position-map f p xs = grind (arith, places-map f p xs, length-map xs f)

pub get-map : {A B : Type 0} (f : A → B) (xs : List A) (k : ℕ) → slice_get (map f xs) k ≡ option_map f (slice_get xs k)
get-map f [] k = refl
get-map f (x ∷ xs) zero = refl
get-map f (x ∷ xs) (suc k) = get-map f xs k

pub routine_bare : (fs : List RoutineTree) (x : List ℕ) → routine_named (map placeless_routine fs) x ≡ option_map placeless_routine (routine_named fs x)
routine_bare [] x = refl
routine_bare (f ∷ fs) x = by_test (bytes_eq f.name.name x) (routine_named fs x) (routine_named (map placeless_routine fs) x) (routine_bare fs x)
  where
    by_test : (b : Bool) (r q : Option RoutineTree) → q ≡ option_map placeless_routine r → cond b (Some (placeless_routine f)) q ≡ option_map placeless_routine (cond b (Some f) r)
    by_test true r q h = refl
    by_test false r q h = h

pub record_bare : (rs : List RecordTree) (x : List ℕ) → record_id (map placeless_record rs) x ≡ record_id rs x
record_bare rs x = ap (λ o. if is_packet x then Some Packet else option_map Declared o) (position-map placeless_record (λ (r : RecordTree). bytes_eq r.name.name x) rs)

place_in_bare : (rs : List RecordTree) (k : ℕ) (x : List ℕ) → place_in (map placeless_record rs) k x ≡ place_in rs k x
place_in_bare [] k x = refl
place_in_bare (r ∷ rs) zero x = position-map placeless_param (λ (p : ParamTree). bytes_eq p.name.name x) r.fields
place_in_bare (r ∷ rs) (suc k) x = place_in_bare rs k x

field_place_bare : (rs : List RecordTree) (w : Whole) (x : List ℕ) → field_place (map placeless_record rs) w x ≡ field_place rs w x
field_place_bare rs (RecordWhole Packet) x = refl
field_place_bare rs (RecordWhole (Declared k)) x = place_in_bare rs k x
field_place_bare rs ListWhole x = refl

module _ (rs : List RecordTree) where
  pub field_bare : (v : ValueTree) (x : List ℕ) → field (map placeless_record rs) v x ≡ field rs v x
  field_bare (CompositeValue w vs) x = ap (at_place vs) (field_place_bare rs w x)
  field_bare v x = refl

  place_bare : (v : ValueTree) (x : List ℕ) → place_of (map placeless_record rs) v x ≡ place_of rs v x
  place_bare (CompositeValue w vs) x = field_place_bare rs w x
  place_bare v x = refl

  pub put_in_bare : (o : Option ValueTree) (xs : List Ident) (w : ValueTree) → put_in (map placeless_record rs) o (map placeless_ident xs) w ≡ put_in rs o xs w
  put_in_bare None xs w = refl
  put_in_bare (Some v) [] w = refl
  put_in_bare (Some v) (x ∷ xs) w =
      ap₂ (put_at v) (place_bare v x.name)
      (ap (λ o. put_in (map placeless_record rs) o (map placeless_ident xs) w) (field_bare v x.name) ∙ put_in_bare (field rs v x.name) xs w)

  pub read_in_bare : (o : Option ValueTree) (xs : List Ident) → read_in (map placeless_record rs) o (map placeless_ident xs) ≡ read_in rs o xs
  read_in_bare None xs = refl
  read_in_bare (Some v) [] = refl
  read_in_bare (Some v) (x ∷ xs) = ap (λ o. read_in (map placeless_record rs) o (map placeless_ident xs)) (field_bare v x.name) ∙ read_in_bare (field rs v x.name) xs
