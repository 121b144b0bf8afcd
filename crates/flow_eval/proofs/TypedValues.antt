-- Well-typed values: what kind they are of, and their fields.
use Rattle.std.proofs.Common.{◌≡◌, ℕ, zero, suc, ℤ, ◌<◌, ◌≤◌, Bool, true, false, cond, if◌then◌else◌, List, [], ◌∷◌, length, map, find, position, slice_get, refl, ap, sym, subst, ◌∙◌, arith, ltb}
use Rattle.std.specs.List.{position_or_len}
use Rattle.std.specs.Option.{option_map}
use Rattle.std.specs.Str.{bytes_eq}
use Rattle.std.specs.declared.option.Option.{Option}
use Rattle.std.specs.declared.option.Option.TheVariants.{None, Some}
use Rattle.std.proofs.lemmas.List.Folds.{find_at}
use Rattle.std.proofs.lemmas.Slice.Eq.{bytes_eq-Decides}
use Rattle.flow_tree.specs.Tree.{TypeTree, IntType, BoolType, StringType, ErrorType, NamedType, FutureType, FutureStreamType, PromiseType, PromiseStreamType, VectorType}
use Rattle.flow_tree.specs.Decls.{ParamTree, RecordTree}
use Rattle.flow_ast.specs.TypingNames.{named}
use Rattle.flow_ast.specs.Typing.{Signature, is_packet, packet_fields, takes, record_named, param_named, param_types, record_call, record_field, declared_field}
use Rattle.flow_value.specs.declared.value.Kind.{Kind}
use Rattle.flow_value.specs.declared.value.Kind.TheVariants.{Promise, Future, PromiseStream, FutureStream}
use Rattle.flow_value.specs.declared.value.RecordId.{RecordId}
use Rattle.flow_value.specs.declared.value.RecordId.TheVariants.{Packet, Declared}
use Rattle.flow_value.specs.Values.{ValueTree, ValueTrees, NoValues, MoreValues, IntValue, BoolValue, TextValue, VoidValue, ErrorValue, CompositeValue, RefValue, Whole, RecordWhole, ListWhole, value_at, value_put}
use Rattle.flow_eval.specs.Records.{record_id, field_place, place_in}
use Rattle.flow_eval.specs.Typed.{reference_type, AllAre, IsMadeOf, HasType, HaveTypes}

pub some_same : {A : Type 0} (x y : A) → Some x ≡ Some y → x ≡ y
some_same x y e = cc

pub none_some : {A B : Type 0} (x : A) → None ≡ Some x → B
none_some x e = absurd (cc)

-- the first that passes has a place
pub ltb_yes : (a b : ℕ) → a < b → ltb a b ≡ true
ltb_yes a b lt = search (arith, lt)

pub there_within : {X : Type 0} (xs : List X) (n : ℕ) (x : X) → slice_get xs n ≡ Some x → n < length xs
there_within [] n x e = absurd (cc)
there_within (y ∷ xs) zero x e = omega arith
there_within (y ∷ xs) (suc n) x e = omega (arith, there_within xs n x e)

pub first_there : {X : Type 0} (p : X → Bool) (xs : List X) (x : X) → find p xs ≡ Some x → (k : ℕ) × (position p xs ≡ Some k) × (slice_get xs k ≡ Some x)
first_there p xs x e =
    let at : slice_get xs (position_or_len p xs) ≡ Some x = sym (find_at p xs) ∙ e in
    (position_or_len p xs, ap (λ b. cond b (Some (position_or_len p xs)) None) (ltb_yes (position_or_len p xs) (length xs) (there_within xs (position_or_len p xs) x at)), at)

ltb_no : (a b : ℕ) → b ≤ a → ltb a b ≡ false
ltb_no a b le = search (arith, le)

none_past : {X : Type 0} (xs : List X) (n : ℕ) → slice_get xs n ≡ None → length xs ≤ n
none_past [] n e = omega arith
none_past (y ∷ xs) zero e = absurd (cc)
none_past (y ∷ xs) (suc n) e = omega (arith, none_past xs n e)

past_end : {X : Type 0} (xs : List X) (n : ℕ) → slice_get xs n ≡ None → ltb n (length xs) ≡ false
past_end xs n e = ltb_no n (length xs) (none_past xs n e)

pub none_there : {X : Type 0} (p : X → Bool) (xs : List X) → find p xs ≡ None → position p xs ≡ None
none_there p xs e = ap (λ b. cond b (Some (position_or_len p xs)) None) (past_end xs (position_or_len p xs) (sym (find_at p xs) ∙ e))

pub bytes_same : (x y : List ℕ) → bytes_eq x y ≡ true → x ≡ y
bytes_same x y e = (bytes_eq-Decides x y).0 e

pub bytes_self : (x : List ℕ) → bytes_eq x x ≡ true
bytes_self x = (bytes_eq-Decides x x).1 refl

pub slice_map : {X Y : Type 0} (f : X → Y) (xs : List X) (k : ℕ) (x : X) → slice_get xs k ≡ Some x → slice_get (map f xs) k ≡ Some (f x)
slice_map f [] k x e = absurd (cc)
slice_map f (y ∷ xs) zero x e = ap Some (ap f (some_same y x e))
slice_map f (y ∷ xs) (suc k) x e = slice_map f xs k x e

-- a name among rows and among parameters has the place where its type stands
bytes_turned : (x y : List ℕ) → bytes_eq x y ≡ true → bytes_eq y x ≡ true
bytes_turned x y e = subst (λ z. bytes_eq z x ≡ true) (bytes_same x y e) (bytes_self x)

bytes_symmetric : (x y : List ℕ) (a b : Bool) → bytes_eq x y ≡ a → bytes_eq y x ≡ b → a ≡ b
bytes_symmetric x y true true e h = refl
bytes_symmetric x y false false e h = refl
bytes_symmetric x y true false e h = sym (bytes_turned x y e) ∙ h
bytes_symmetric x y false true e h = sym e ∙ bytes_turned y x h

pub bytes_sym : (x y : List ℕ) → bytes_eq x y ≡ bytes_eq y x
bytes_sym x y = bytes_symmetric x y (bytes_eq x y) (bytes_eq y x) refl refl

row_of : {A : Type 0} (b : Bool) (row : List ℕ × A) (o : Option A) (p : Option (List ℕ × A)) (t : A)
    → ((t : A) → o ≡ Some t → (row : List ℕ × A) × (p ≡ Some row) × (row.1 ≡ t))
    → (if b then Some row.1 else o) ≡ Some t → (r : List ℕ × A) × (cond b (Some row) p ≡ Some r) × (r.1 ≡ t)
row_of true row o p t h e = (row, refl, some_same row.1 t e)
row_of false row o p t h e = h t e

pub named_row : {A : Type 0} (rows : List (List ℕ × A)) (x : List ℕ) (t : A) → named rows x ≡ Some t
    → (r : List ℕ × A) × (find (λ (f : List ℕ × A). bytes_eq f.0 x) rows ≡ Some r) × (r.1 ≡ t)
named_row [] x t e = none_some t e
named_row (row ∷ rows) x t e =
    row_of (bytes_eq row.0 x) row (named rows x) (find (λ f. bytes_eq f.0 x) rows) t (named_row rows x)
    (subst (λ b. (if b then Some row.1 else named rows x) ≡ Some t) (bytes_sym x row.0) e)

place_in_at : (rs : List RecordTree) (k : ℕ) (r : RecordTree) (x : List ℕ) → slice_get rs k ≡ Some r → place_in rs k x ≡ position (λ (p : ParamTree). bytes_eq p.name.name x) r.fields
place_in_at [] k r x e = none_some r e
place_in_at (q ∷ rs) zero r x e = ap (λ (q : RecordTree). position (λ (p : ParamTree). bytes_eq p.name.name x) q.fields) (some_same q r e)
place_in_at (q ∷ rs) (suc k) r x e = place_in_at rs k r x e

-- the field of this type
abbrev pub FieldAt : List RecordTree → RecordId → Signature → List ℕ → TypeTree → Type 0
FieldAt rs r s x t = (k : ℕ) × (field_place rs (RecordWhole r) x ≡ Some k) × (slice_get s.params k ≡ Some t)

packet_field : (rs : List RecordTree) (n : List ℕ) (r : RecordId) (s : Signature) (x : List ℕ) (t : TypeTree)
    → Some Packet ≡ Some r → takes (map (λ (f : List ℕ × TypeTree). f.1) packet_fields) (NamedType n) ≡ Some s → named packet_fields x ≡ Some t → FieldAt rs r s x t
packet_field rs n r s x t er es e =
    let row = named_row packet_fields x t e in
    let at = first_there (λ (f : List ℕ × TypeTree). bytes_eq f.0 x) packet_fields row.0 row.1 in
    let place : field_place rs (RecordWhole r) x ≡ Some at.0 = subst (λ r. field_place rs (RecordWhole r) x ≡ Some at.0) (some_same Packet r er) at.1 in
    let type : slice_get (map (λ (f : List ℕ × TypeTree). f.1) packet_fields) at.0 ≡ Some t =
    slice_map (λ (f : List ℕ × TypeTree). f.1) packet_fields at.0 row.0 at.2 ∙ ap Some row.2 in
    (at.0, place, subst (λ (s : Signature). slice_get s.params at.0 ≡ Some t) (some_same (record { params = map (λ (f : List ℕ × TypeTree). f.1) packet_fields; gives = NamedType n }) s es) type)

pub param_type : (o : Option ParamTree) (t : TypeTree) → option_map (λ (p : ParamTree). p.ty) o ≡ Some t → (p : ParamTree) × (o ≡ Some p) × (p.ty ≡ t)
param_type None t e = none_some t e
param_type (Some p) t e = (p, refl, some_same p.ty t e)

declared_field_at : (rs : List RecordTree) (n : List ℕ) (r : RecordId) (s : Signature) (x : List ℕ) (t : TypeTree) (o : Option RecordTree)
    → record_named rs n ≡ o
    → option_map Declared (position (λ (q : RecordTree). bytes_eq q.name.name n) rs) ≡ Some r
    → option_map (λ (q : RecordTree). record { params = param_types q.fields; gives = NamedType n }) o ≡ Some s
    → declared_field o x ≡ Some t → FieldAt rs r s x t
declared_field_at rs n r s x t None is er es e = none_some t e
declared_field_at rs n r s x t (Some q) is er es e =
    let there = first_there (λ (q : RecordTree). bytes_eq q.name.name n) rs q is in
    let one : Declared there.0 ≡ r = some_same (Declared there.0) r (sym (ap (option_map Declared) there.1) ∙ er) in
    let p = param_type (param_named q.fields x) t e in
    let at = first_there (λ (p : ParamTree). bytes_eq p.name.name x) q.fields p.0 p.1 in
    let place : field_place rs (RecordWhole (Declared there.0)) x ≡ Some at.0 = place_in_at rs there.0 q x there.2 ∙ at.1 in
    let type : slice_get (param_types q.fields) at.0 ≡ Some t = slice_map (λ (p : ParamTree). p.ty) q.fields at.0 p.0 at.2 ∙ ap Some p.2 in (
      at.0,
      subst (λ r. field_place rs (RecordWhole r) x ≡ Some at.0) one place,
      subst (λ (s : Signature). slice_get s.params at.0 ≡ Some t)
          (some_same (record { params = param_types q.fields; gives = NamedType n }) s es) type,
    )

field_by : (b : Bool) (rs : List RecordTree) (n : List ℕ) (r : RecordId) (s : Signature) (x : List ℕ) (t : TypeTree)
    → (if b then Some Packet else option_map Declared (position (λ (q : RecordTree). bytes_eq q.name.name n) rs)) ≡ Some r
    → (if b then takes (map (λ (f : List ℕ × TypeTree). f.1) packet_fields) (NamedType n)
    else option_map (λ (q : RecordTree). record { params = param_types q.fields; gives = NamedType n }) (record_named rs n)) ≡ Some s
    → (if b then named packet_fields x else declared_field (record_named rs n) x) ≡ Some t → FieldAt rs r s x t
field_by true rs n r s x t er es e = packet_field rs n r s x t er es e
field_by false rs n r s x t er es e = declared_field_at rs n r s x t (record_named rs n) refl er es e

pub field_at : (rs : List RecordTree) (n : List ℕ) (r : RecordId) (s : Signature) (x : List ℕ) (t : TypeTree)
    → record_id rs n ≡ Some r → record_call rs n ≡ Some s → record_field rs n x ≡ Some t → FieldAt rs r s x t
field_at rs n r s x t er es e = field_by (is_packet n) rs n r s x t er es e

-- a record that is called has its number, and one that isn't there has none
id_by : (b : Bool) (rs : List RecordTree) (n : List ℕ) (o : Option RecordTree)
    → record_named rs n ≡ o
    → (s : Signature)
    → (if b then takes (map (λ (f : List ℕ × TypeTree). f.1) packet_fields) (NamedType n)
    else option_map (λ (q : RecordTree). record { params = param_types q.fields; gives = NamedType n }) o) ≡ Some s
    → (r : RecordId) × ((if b then Some Packet else option_map Declared (position (λ (q : RecordTree). bytes_eq q.name.name n) rs)) ≡ Some r) × (s.gives ≡ NamedType n)
id_by true rs n o is s e = (Packet, refl, ap (λ (s : Signature). s.gives) (sym (some_same (record { params = map (λ (f : List ℕ × TypeTree). f.1) packet_fields; gives = NamedType n }) s e)))
id_by false rs n None is s e = none_some s e
id_by false rs n (Some q) is s e =
    let there = first_there (λ (q : RecordTree). bytes_eq q.name.name n) rs q is in
    (Declared there.0, ap (option_map Declared) there.1, ap (λ (s : Signature). s.gives) (sym (some_same (record { params = param_types q.fields; gives = NamedType n }) s e)))

pub id_there : (rs : List RecordTree) (n : List ℕ) (s : Signature) → record_call rs n ≡ Some s → (r : RecordId) × (record_id rs n ≡ Some r) × (s.gives ≡ NamedType n)
id_there rs n s e = id_by (is_packet n) rs n (record_named rs n) refl s e

no_id_by : (b : Bool) (rs : List RecordTree) (n : List ℕ) (o : Option RecordTree)
    → record_named rs n ≡ o
    → (if b then takes (map (λ (f : List ℕ × TypeTree). f.1) packet_fields) (NamedType n)
    else option_map (λ (q : RecordTree). record { params = param_types q.fields; gives = NamedType n }) o) ≡ None
    → (if b then Some Packet else option_map Declared (position (λ (q : RecordTree). bytes_eq q.name.name n) rs)) ≡ None
no_id_by true rs n o is e = none_some (record { params = map (λ (f : List ℕ × TypeTree). f.1) packet_fields; gives = NamedType n }) (sym e)
no_id_by false rs n None is e = ap (option_map Declared) (none_there (λ (q : RecordTree). bytes_eq q.name.name n) rs is)
no_id_by false rs n (Some q) is e = none_some (record { params = param_types q.fields; gives = NamedType n }) (sym e)

pub no_id : (rs : List RecordTree) (n : List ℕ) → record_call rs n ≡ None → record_id rs n ≡ None
no_id rs n e = no_id_by (is_packet n) rs n (record_named rs n) refl e

-- a type that is no reference's
abbrev pub is_plain : TypeTree → Bool
is_plain (FutureType t) = false
is_plain (FutureStreamType t) = false
is_plain (PromiseType t) = false
is_plain (PromiseStreamType t) = false
is_plain t = true

reference_plain : (k : Kind) (u : TypeTree) → is_plain (reference_type k u) ≡ false
reference_plain Promise u = refl
reference_plain Future u = refl
reference_plain PromiseStream u = refl
reference_plain FutureStream u = refl

pub no_reference : {A : Type 0} (k : Kind) (t u : TypeTree) → is_plain t ≡ true → t ≡ reference_type k u → A
no_reference k t u p e = absurd (let d : true ≡ false = sym p ∙ ap is_plain e ∙ reference_plain k u in cc)

-- a type whose values have parts
abbrev pub has_parts : TypeTree → Bool
has_parts (NamedType x) = true
has_parts (VectorType t) = true
has_parts _ = false

made_parts : (rs : List RecordTree) (w : Whole) (t : TypeTree) (ts : List TypeTree) → IsMadeOf rs w t ts → has_parts t ≡ true
made_parts rs (RecordWhole r) t ts h = ap has_parts h.named
made_parts rs ListWhole t ts h = ap has_parts h.1

pub no_parts : {A : Type 0} (rs : List RecordTree) (w : Whole) (t : TypeTree) (ts : List TypeTree) → has_parts t ≡ false → IsMadeOf rs w t ts → A
no_parts rs w t ts e h = absurd (let d : false ≡ true = sym e ∙ made_parts rs w t ts h in cc)

module _ (rs : List RecordTree) (typed : ℕ → TypeTree → Type 0) where
  pub is_int_value : (v : ValueTree) → HasType rs typed v IntType → (n : ℤ) × (v ≡ IntValue n)
  is_int_value (IntValue n) h = (n, refl)
  is_int_value (BoolValue b) h = absurd (cc)
  is_int_value (TextValue s) h = absurd (cc)
  is_int_value VoidValue h = absurd (cc)
  is_int_value (ErrorValue e) h = absurd (cc)
  is_int_value (CompositeValue w vs) h = no_parts rs w IntType h.0 refl h.1
  is_int_value (RefValue k c) h = no_reference k IntType h.0 refl h.1

  pub is_bool_value : (v : ValueTree) → HasType rs typed v BoolType → (b : Bool) × (v ≡ BoolValue b)
  is_bool_value (IntValue n) h = absurd (cc)
  is_bool_value (BoolValue b) h = (b, refl)
  is_bool_value (TextValue s) h = absurd (cc)
  is_bool_value VoidValue h = absurd (cc)
  is_bool_value (ErrorValue e) h = absurd (cc)
  is_bool_value (CompositeValue w vs) h = no_parts rs w BoolType h.0 refl h.1
  is_bool_value (RefValue k c) h = no_reference k BoolType h.0 refl h.1

  pub is_text_value : (v : ValueTree) → HasType rs typed v StringType → (s : List ℕ) × (v ≡ TextValue s)
  is_text_value (IntValue n) h = absurd (cc)
  is_text_value (BoolValue b) h = absurd (cc)
  is_text_value (TextValue s) h = (s, refl)
  is_text_value VoidValue h = absurd (cc)
  is_text_value (ErrorValue e) h = absurd (cc)
  is_text_value (CompositeValue w vs) h = no_parts rs w StringType h.0 refl h.1
  is_text_value (RefValue k c) h = no_reference k StringType h.0 refl h.1

  pub is_error_value : (v : ValueTree) → HasType rs typed v ErrorType → (e : ℕ) × (v ≡ ErrorValue e)
  is_error_value (IntValue n) h = absurd (cc)
  is_error_value (BoolValue b) h = absurd (cc)
  is_error_value (TextValue s) h = absurd (cc)
  is_error_value VoidValue h = absurd (cc)
  is_error_value (ErrorValue e) h = (e, refl)
  is_error_value (CompositeValue w vs) h = no_parts rs w ErrorType h.0 refl h.1
  is_error_value (RefValue k c) h = no_reference k ErrorType h.0 refl h.1

  -- the field at the place of a type
  pub value_got : (vs : ValueTrees) (ts : List TypeTree) (k : ℕ) (t : TypeTree) → HaveTypes rs typed vs ts → slice_get ts k ≡ Some t
      → (v : ValueTree) × (value_at vs k ≡ Some v) × HasType rs typed v t
  value_got NoValues ts k t h e = none_some t (sym (ap (λ l. slice_get l k) h) ∙ e)
  value_got (MoreValues v vs) ts zero t h e =
      let same : h.0 ≡ t = some_same h.0 t (sym (ap (λ l. slice_get l 0) h.2) ∙ e) in
      (v, refl, subst (HasType rs typed v) same h.3)
  value_got (MoreValues v vs) ts (suc k) t h e = value_got vs h.1 k t h.4 (sym (ap (λ l. slice_get l (suc k)) h.2) ∙ e)

  -- an element of a list, whose elements are of one type
  pub element_fits : (vs : ValueTrees) (ts : List TypeTree) (u : TypeTree) (k : ℕ) (v : ValueTree) → HaveTypes rs typed vs ts → AllAre u ts → value_at vs k ≡ Some v
      → HasType rs typed v u
  element_fits NoValues ts u k v h a e = none_some v e
  element_fits (MoreValues w vs) ts u zero v h a e =
      let is : AllAre u (h.0 ∷ h.1) = subst (AllAre u) h.2 a in
      subst (λ w. HasType rs typed w u) (some_same w v e) (subst (HasType rs typed w) is.0 h.3)
  element_fits (MoreValues w vs) ts u (suc k) v h a e =
      let is : AllAre u (h.0 ∷ h.1) = subst (AllAre u) h.2 a in
      element_fits vs h.1 u k v h.4 is.1 e

  pub value_put_fits : (vs : ValueTrees) (ts : List TypeTree) (k : ℕ) (t : TypeTree) (w : ValueTree) → HaveTypes rs typed vs ts → slice_get ts k ≡ Some t → HasType rs typed w t
      → HaveTypes rs typed (value_put vs k w) ts
  value_put_fits NoValues ts k t w h e f = h
  value_put_fits (MoreValues v vs) ts zero t w h e f =
      let same : t ≡ h.0 = sym (some_same h.0 t (sym (ap (λ l. slice_get l 0) h.2) ∙ e)) in
      (h.0, h.1, h.2, subst (HasType rs typed w) same f, h.4)
  value_put_fits (MoreValues v vs) ts (suc k) t w h e f =
      (h.0, h.1, h.2, h.3, value_put_fits vs h.1 k t w h.4 (sym (ap (λ l. slice_get l (suc k)) h.2) ∙ e) f)
