-- Fields by the numbers of their names are the fields of their names.
use Rattle.std.proofs.Common.{◌≡◌, ℕ, zero, suc, ◌+◌, ◌<◌, ◌≤◌, Bool, true, false, cond, ltb, List, [], ◌∷◌, length, map, position, slice_get, nat_eq, nat_lt, if◌then◌else◌, refl, ap, sym, subst, ◌∙◌, arith}
use Rattle.std.proofs.lemmas.Bool.{false≢true}
use Rattle.std.proofs.lemmas.Bool.Decides.{Decides-eqb}
use Rattle.std.proofs.lemmas.Slice.Eq.{bytes_eq-Decides}
use Rattle.std.proofs.lemmas.Map.Keys.{IsDistinct-head, IsDistinct-tail}
use Rattle.std.specs.List.{position_or_len, IsDistinct, AllByRecursion}
use Rattle.std.specs.Str.{bytes_eq}
use Rattle.std.specs.declared.alloc.Global.{Global}
use Rattle.std.specs.declared.option.Option.{Option}
use Rattle.std.specs.declared.option.Option.TheVariants.{None, Some}
use Rattle.std.specs.declared.vec.Vec.{Vec}
use denote.Ref.{Bor}
use Rattle.flow_tree.specs.Decls.{ParamTree, RecordTree}
use Rattle.flow_tree.specs.Tree.{TypeTree}
use Rattle.flow_ast.specs.Typing.{packet_fields}
use Rattle.flow_value.specs.declared.value.RecordId.TheVariants.{Packet, Declared}
use Rattle.flow_value.specs.Values.{Whole, RecordWhole, ListWhole}
use Rattle.flow_eval.specs.Records as fields
use Rattle.flow_code.specs.declared.expr.names.FieldNames.{FieldNames}
use Rattle.flow_code.specs.Resolved.Named.{key_at, first_from, IsNamed, AreNamed, AllNamed, Keeps, param_name}
use Rattle.flow_code.specs.Resolved.Resolving.{place_by}
use Rattle.flow_code.specs.Resolved.View.{place_in, places_in}
use Rattle.flow_code.proofs.Resolved.Fields.{Key, are_kept}

abbrev pub same : Key → Key → Bool
same x y = bytes_eq x.now y.now

bytes_same : (x y : List ℕ) → bytes_eq x y ≡ true → x ≡ y
bytes_same x y e = (bytes_eq-Decides x y).0 e

bytes_self : (x : List ℕ) → bytes_eq x x ≡ true
bytes_self x = (bytes_eq-Decides x x).1 refl

-- keys by their place, from a number on
abbrev pub key_from : ℕ → List Key → List ℕ → Option ℕ
key_from n [] x = None
key_from n (k ∷ ks) x = if bytes_eq x k.now then Some n else key_from (suc n) ks x

key_place : (n : ℕ) (ks : List Key) (x : List ℕ) → key_from n ks x ≡ cond (ltb (position_or_len (λ k. bytes_eq x k.now) ks) (length ks)) (Some (n + position_or_len (λ k. bytes_eq x k.now) ks)) None
key_place n [] x = refl
key_place n (k ∷ ks) x = grind (arith, key_place (suc n) ks x)

key_first : (ks : List Key) (x : List ℕ) → key_at ks x ≡ key_from 0 ks x
key_first ks x =
    let none : 0 + position_or_len (λ k. bytes_eq x k.now) ks ≡ position_or_len (λ k. bytes_eq x k.now) ks = omega arith in
    sym (key_place 0 ks x ∙ ap (λ n. cond (ltb (position_or_len (λ k. bytes_eq x k.now) ks) (length ks)) (Some n) None) none)

some_same : {A : Type 0} (x y : A) → Some x ≡ Some y → x ≡ y
some_same x y e = cc

none_some : {A B : Type 0} (x : A) → None ≡ Some x → B
none_some x e = absurd (cc)

-- a key that is found is that name
key_named : (n : ℕ) (ks : List Key) (x : List ℕ) (f : ℕ) → key_from n ks x ≡ Some f → (i : ℕ) × (f ≡ n + i) × IsNamed ks i x
key_named n [] x f e = none_some f e
key_named n (k ∷ ks) x f e = by (key_named (suc n) ks x f) (bytes_eq x k.now) refl
  where
    by : (key_from (suc n) ks x ≡ Some f → (i : ℕ) × (f ≡ suc n + i) × IsNamed ks i x) → (b : Bool) → bytes_eq x k.now ≡ b → (i : ℕ) × (f ≡ n + i) × IsNamed (k ∷ ks) i x
    by more true is =
        let here : n ≡ f = some_same n f (sym (ap (λ b. if b then Some n else key_from (suc n) ks x) is) ∙ e) in
        (0, omega (arith, here), (k, refl, sym (bytes_same x k.now is)))
    by more false is =
        let r = more (sym (ap (λ b. if b then Some n else key_from (suc n) ks x) is) ∙ e) in
        (suc r.0, omega (arith, r.1), r.2)

-- a name that is a key is found
key_there : (n : ℕ) (ks : List Key) (x : List ℕ) (i : ℕ) → key_from n ks x ≡ None → IsNamed ks i x → ⊥
key_there n [] x i e h = none_some h.0 h.1
key_there n (k ∷ ks) x i e h = by (λ i e h. key_there (suc n) ks x i e h) i h (bytes_eq x k.now) refl
  where
    by : ((i : ℕ) → key_from (suc n) ks x ≡ None → IsNamed ks i x → ⊥) → (i : ℕ) → IsNamed (k ∷ ks) i x → (b : Bool) → bytes_eq x k.now ≡ b → ⊥
    by more i h true is = none_some n (sym e ∙ ap (λ b. if b then Some n else key_from (suc n) ks x) is)
    by more zero h false is =
        let this : k ≡ h.0 = some_same k h.0 h.1 in
        false≢true (sym is ∙ ap (λ y. bytes_eq x y) (ap (λ (j : Key). j.now) this ∙ h.2) ∙ bytes_self x)
    by more (suc i) h false is = more i (sym (ap (λ b. if b then Some n else key_from (suc n) ks x) is) ∙ e) h

-- keys differ
all_at : (P : Key → Type 0) (ks : List Key) (i : ℕ) (y : Key) → AllByRecursion P ks → slice_get ks i ≡ Some y → P y
all_at P [] i y h e = none_some y e
all_at P (k ∷ ks) zero y h e = subst P (some_same k y e) h.0
all_at P (k ∷ ks) (suc i) y h e = all_at P ks i y h.1 e

differs : (k : Key) (ks : List Key) (i : ℕ) (x : List ℕ) → IsDistinct same (k ∷ ks) → k.now ≡ x → IsNamed ks i x → ⊥
differs k ks i x d e h =
    let apart : same k h.0 ≡ false = all_at (λ y. same k y ≡ false) ks i h.0 (IsDistinct-head same k ks d) h.1 in
    false≢true (sym apart ∙ ap (λ z. bytes_eq z h.0.now) e ∙ ap (bytes_eq x) h.2 ∙ bytes_self x)

one_number : (ks : List Key) (i j : ℕ) (x : List ℕ) → IsDistinct same ks → IsNamed ks i x → IsNamed ks j x → i ≡ j
one_number [] i j x d h g = none_some h.0 h.1
one_number (k ∷ ks) zero zero x d h g = refl
one_number (k ∷ ks) zero (suc j) x d h g = absurd (differs k ks j x d (ap (λ (y : Key). y.now) (some_same k h.0 h.1) ∙ h.2) g)
one_number (k ∷ ks) (suc i) zero x d h g = absurd (differs k ks i x d (ap (λ (y : Key). y.now) (some_same k g.0 g.1) ∙ g.2) h)
one_number (k ∷ ks) (suc i) (suc j) x d h g = ap suc (one_number ks i j x (IsDistinct-tail same k ks d) h g)

one_name : (ks : List Key) (i : ℕ) (x y : List ℕ) → IsNamed ks i x → IsNamed ks i y → x ≡ y
one_name ks i x y h g = sym h.2 ∙ ap (λ (k : Key). k.now) (some_same h.0 g.0 (sym h.1 ∙ g.1)) ∙ g.2

-- a number is that of a name exactly where the names are the same
number_tells : (ks : List Key) (n f : ℕ) (y x : List ℕ) → IsDistinct same ks → IsNamed ks n y → IsNamed ks f x → nat_eq n f ≡ bytes_eq y x
number_tells ks n f y x d h g = by (bytes_eq y x) refl (nat_eq n f) refl
  where
    by : (b : Bool) → bytes_eq y x ≡ b → (c : Bool) → nat_eq n f ≡ c → c ≡ b
    by true e true i = refl
    by false e false i = refl
    by true e false i = sym i ∙ (Decides-eqb n f).1 (one_number ks n f x d (subst (IsNamed ks n) (bytes_same y x e) h) g)
    by false e true i =
        let at : n ≡ f = (Decides-eqb n f).0 i in
        absurd (false≢true (sym e ∙ ap (bytes_eq y) (sym (one_name ks f y x (subst (λ m. IsNamed ks m y) at h) g)) ∙ bytes_self y))

name_apart : (ks : List Key) (n : ℕ) (y x : List ℕ) → key_from 0 ks x ≡ None → IsNamed ks n y → bytes_eq y x ≡ false
name_apart ks n y x e h = by (bytes_eq y x) refl
  where
    by : (b : Bool) → bytes_eq y x ≡ b → b ≡ false
    by false i = refl
    by true i = absurd (key_there 0 ks x n e (subst (IsNamed ks n) (bytes_same y x i) h))

module _ {A : Type 0} (name : A → List ℕ) (ks : List Key) (distinct : IsDistinct same ks) (x : List ℕ) where
  places_same : (f : ℕ) → IsNamed ks f x → (ns : List ℕ) (ps : List A) → AreNamed name ks ns ps
      → (position_or_len (λ n. nat_eq n f) ns ≡ position_or_len (λ p. bytes_eq (name p) x) ps) × (length ns ≡ length ps)
  places_same f g [] [] h = (refl, refl)
  places_same f g [] (p ∷ ps) h = absurd h
  places_same f g (n ∷ ns) [] h = absurd h
  places_same f g (n ∷ ns) (p ∷ ps) h =
      let r = places_same f g ns ps h.1 in
      let tells : nat_eq n f ≡ bytes_eq (name p) x = number_tells ks n f (name p) x distinct h.0 g in
      (grind (arith, tells, r.0), ap suc r.1)

  no_place : key_from 0 ks x ≡ None → (ns : List ℕ) (ps : List A) → AreNamed name ks ns ps → position_or_len (λ p. bytes_eq (name p) x) ps ≡ length ps
  no_place e [] [] h = refl
  no_place e [] (p ∷ ps) h = absurd h
  no_place e (n ∷ ns) [] h = absurd h
  no_place e (n ∷ ns) (p ∷ ps) h =
      let r = no_place e ns ps h.1 in
      let apart : bytes_eq (name p) x ≡ false = name_apart ks n (name p) x e h.0 in
      grind (arith, apart, r)

  -- the place of a number among numbers is that of its name among names
  abbrev place_of : Option ℕ → List ℕ → Option ℕ
  place_of None ns = None
  place_of (Some f) ns = position (λ n. nat_eq n f) ns

  by_key : (o : Option ℕ) → key_from 0 ks x ≡ o → (ns : List ℕ) (ps : List A) → AreNamed name ks ns ps → place_of o ns ≡ position (λ p. bytes_eq (name p) x) ps
  by_key None e ns ps h =
      let all : position_or_len (λ p. bytes_eq (name p) x) ps ≡ length ps = no_place e ns ps h in
      grind (arith, all)
  by_key (Some f) e ns ps h =
      let k = key_named 0 ks x f e in
      let i : k.0 ≡ f = omega (arith, k.1) in
      let r = places_same f (subst (λ m. IsNamed ks m x) i k.2) ns ps h in
      ap (λ m. cond (ltb m (length ns)) (Some m) None) r.0 ∙ ap (λ m. cond (ltb (position_or_len (λ p. bytes_eq (name p) x) ps) m) (Some (position_or_len (λ p. bytes_eq (name p) x) ps)) None) r.1

-- fields of a packet
packet_named : (pk : List Key) → map (λ (k : Key). k.now) pk ≡ map (λ (f : List ℕ × TypeTree). f.0) packet_fields → AreNamed (λ (f : List ℕ × TypeTree). f.0) pk (0 ∷ 1 ∷ 2 ∷ []) packet_fields
packet_named [] e = absurd (cc)
packet_named (a ∷ []) e = absurd (cc)
packet_named (a ∷ b ∷ []) e = absurd (cc)
packet_named (a ∷ b ∷ c ∷ []) e = ((a, refl, cc), ((b, refl, cc), ((c, refl, cc), tt)))
packet_named (a ∷ b ∷ c ∷ d ∷ ks) e = absurd (cc)

three : (f : ℕ) → position (λ n. nat_eq n f) (0 ∷ 1 ∷ 2 ∷ []) ≡ (if nat_lt f 3 then Some f else None)
three zero = refl
three (suc zero) = refl
three (suc (suc zero)) = refl
three (suc (suc (suc f))) = grind arith

packet_kept : (pk ks : List Key) (ns : List ℕ) (ps : List (List ℕ × TypeTree)) → Keeps pk ks → AreNamed (λ (f : List ℕ × TypeTree). f.0) pk ns ps → AreNamed (λ (f : List ℕ × TypeTree). f.0) ks ns ps
packet_kept pk ks [] [] kept h = tt
packet_kept pk ks [] (p ∷ ps) kept h = absurd h
packet_kept pk ks (n ∷ ns) [] kept h = absurd h
packet_kept pk ks (n ∷ ns) (p ∷ ps) kept h = ((h.0.0, kept n h.0.0 h.0.1, h.0.2), packet_kept pk ks ns ps kept h.1)

module _ (ks : List Key) (distinct : IsDistinct same ks) (x : List ℕ) where
  -- fields of a declared record
  abbrev by_place : Option ℕ → List (Vec ℕ Global) → ℕ → Option ℕ
  by_place None vs k = None
  by_place (Some f) vs k = place_in vs k f

  here : (o : Option ℕ) (v : Vec ℕ Global) (vs : List (Vec ℕ Global)) → by_place o (v ∷ vs) zero ≡ place_of param_name ks distinct x o v.items
  here None v vs = refl
  here (Some f) v vs = refl

  later : (o : Option ℕ) (v : Vec ℕ Global) (vs : List (Vec ℕ Global)) (k : ℕ) → by_place o (v ∷ vs) (suc k) ≡ by_place o vs k
  later None v vs k = refl
  later (Some f) v vs k = refl

  no_record : (o : Option ℕ) (k : ℕ) → by_place o [] k ≡ None
  no_record None k = refl
  no_record (Some f) k = refl

  declared : (o : Option ℕ) → key_from 0 ks x ≡ o → (vs : List (Vec ℕ Global)) (rs : List RecordTree) (k : ℕ) → AllNamed ks vs rs → by_place o vs k ≡ fields.place_in rs k x
  declared o e [] [] k h = no_record o k
  declared o e [] (r ∷ rs) k h = absurd h
  declared o e (v ∷ vs) [] k h = absurd h
  declared o e (v ∷ vs) (r ∷ rs) zero h = here o v vs ∙ by_key param_name ks distinct x o e v.items r.fields h.0
  declared o e (v ∷ vs) (r ∷ rs) (suc k) h = later o v vs k ∙ declared o e vs rs k h.1

  packet : (names : FieldNames) (o : Option ℕ) → place_by (places_in names) (RecordWhole Packet) o ≡ place_of (λ (f : List ℕ × TypeTree). f.0) ks distinct x o (0 ∷ 1 ∷ 2 ∷ [])
  packet names None = refl
  packet names (Some f) = sym (three f)

  of_record : (names : FieldNames) (o : Option ℕ) (k : ℕ) → place_by (places_in names) (RecordWhole (Declared k)) o ≡ by_place o names.records.items k
  of_record names None k = refl
  of_record names (Some f) k = refl

  no_field : (names : FieldNames) (o : Option ℕ) → place_by (places_in names) ListWhole o ≡ None
  no_field names None = refl
  no_field names (Some f) = refl

  by_record : (names : FieldNames) (rs : List RecordTree) (o : Option ℕ) → key_from 0 ks x ≡ o → AreNamed (λ (f : List ℕ × TypeTree). f.0) ks (0 ∷ 1 ∷ 2 ∷ []) packet_fields
      → AllNamed ks names.records.items rs
      → (w : Whole) → place_by (places_in names) w o ≡ fields.field_place rs w x
  by_record names rs o e p h (RecordWhole Packet) = packet names o ∙ by_key (λ (f : List ℕ × TypeTree). f.0) ks distinct x o e (0 ∷ 1 ∷ 2 ∷ []) packet_fields p
  by_record names rs o e p h (RecordWhole (Declared k)) = of_record names o k ∙ declared o e names.records.items rs k h
  by_record names rs o e p h ListWhole = no_field names o

pub numbered : (pk ks : List Key) (names : FieldNames) (rs : List RecordTree) → IsDistinct same ks → map (λ (k : Key). k.now) pk ≡ map (λ (f : List ℕ × TypeTree). f.0) packet_fields → Keeps pk ks
    → AllNamed ks names.records.items rs → (w : Whole) (x : List ℕ) → place_by (places_in names) w (key_at ks x) ≡ fields.field_place rs w x
numbered pk ks names rs d first kept h w x =
    ap (place_by (places_in names) w) (key_first ks x)
    ∙ by_record ks d x names rs (key_from 0 ks x) refl (packet_kept pk ks (0 ∷ 1 ∷ 2 ∷ []) packet_fields kept (packet_named pk first)) h w
