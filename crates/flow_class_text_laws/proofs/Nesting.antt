-- A path has no more fields than records lie inside one another, and these are 16 at most.
use Rattle.std.proofs.Common.{◌≡◌, ℕ, suc, ◌≤◌, ◌<◌, nat_lt, Bool, true, false, not, ◌||◌, List, [], ◌∷◌, ◌++◌, length, map, if◌then◌else◌, refl, ap, sym, subst, ◌∙◌, arith}
use Rattle.std.specs.Prelude.{codes}
use Rattle.std.specs.List.{AllByRecursion}
use Rattle.std.specs.Str.{bytes_eq}
use Rattle.std.proofs.lemmas.Bool.{false≢true, true≢false}
use Rattle.std.proofs.lemmas.Bool.Decides.{nat_tests}
use Rattle.std.proofs.lemmas.List.{append-nil, append_assoc, map-append}
use Rattle.std.specs.declared.option.Option.{Option}
use Rattle.std.specs.declared.option.Option.TheVariants.{None, Some}
use Rattle.flow_tree.specs.declared.limits.TheConstants.{NESTING, LEAF_FIELDS}
use Rattle.flow_tree.specs.declared.ty.Ident.{Ident}
use Rattle.flow_tree.specs.Tree.{TypeTree, NamedType}
use Rattle.flow_tree.specs.Decls.{ParamTree, RecordTree, DeclTree, StructDecl, FunctionDecl, ActorDecl}
use Rattle.flow_ast.specs.TypingNames.{named}
use Rattle.flow_ast.specs.Typing.{is_there, packet_fields}
use Rattle.flow_rules.specs.Least.{unless}
use Rattle.flow_rules.specs.Known.{Meaning, RecordOf, FunctionOf, ActorOf, field_row, row_of, packet_row, known, is_record, type_known, is_predefined}
use Rattle.flow_rules.specs.Judged.{Setting, field_of, field_form, of_field}
use Rattle.flow_rules.specs.Items.{path_fault, target_fault}
use Rattle.flow_rules.specs.Rules.{name_fault, with_name, fields_fault, record_fault, decl_refusal, decls_refusal, Size, packet_size, or_leaf, type_size, fields_size, record_size, too_large, large_record, with_size, first_large}
use Rattle.flow_rules.proofs.Lesser.{no_first, no_second, holds, no_item}
use Rattle.flow_typing_laws.proofs.Typing.Names.{some_none, none_some, some_same, Held, there}
use Rattle.flow_typing_laws.proofs.Typing.Agreement.{neither_first, neither_second}

-- names in two tables
pub data Where {A : Type 0} (xs ys : List (List ℕ × A)) (x : List ℕ) (a : A) : Type 0 where
  front : named xs x ≡ Some a → Where xs ys x a
  back : named xs x ≡ None → named ys x ≡ Some a → Where xs ys x a

pub where_named : {A : Type 0} (xs ys : List (List ℕ × A)) (x : List ℕ) (a : A) → named (xs ++ ys) x ≡ Some a → Where xs ys x a
where_named [] ys x a e = back refl e
where_named (r ∷ xs) ys x a e = by_name (bytes_eq x r.0) refl e (where_named xs ys x a)
  where
    by_name : (b : Bool) → bytes_eq x r.0 ≡ b → (if b then Some r.1 else named (xs ++ ys) x) ≡ Some a → (named (xs ++ ys) x ≡ Some a → Where xs ys x a) → Where (r ∷ xs) ys x a
    by_name true is f rest = front (ap (λ b. if b then Some r.1 else named xs x) is ∙ f)
    by_name false is f rest = by_place (rest f)
      where
        by_place : Where xs ys x a → Where (r ∷ xs) ys x a
        by_place (front g) = front (ap (λ b. if b then Some r.1 else named xs x) is ∙ g)
        by_place (back g h) = back (ap (λ b. if b then Some r.1 else named xs x) is ∙ g) h

pub named_front : {A : Type 0} (xs ys : List (List ℕ × A)) (x : List ℕ) (a : A) → named xs x ≡ Some a → named (xs ++ ys) x ≡ Some a
named_front [] ys x a e = absurd (none_some e)
named_front (r ∷ xs) ys x a e = by_name (bytes_eq x r.0) e (named_front xs ys x a)
  where
    by_name : (b : Bool) → (if b then Some r.1 else named xs x) ≡ Some a → (named xs x ≡ Some a → named (xs ++ ys) x ≡ Some a) → (if b then Some r.1 else named (xs ++ ys) x) ≡ Some a
    by_name true f rest = f
    by_name false f rest = rest f

named_back : {A : Type 0} (xs ys : List (List ℕ × A)) (x : List ℕ) → named xs x ≡ None → named (xs ++ ys) x ≡ named ys x
named_back [] ys x e = refl
named_back (r ∷ xs) ys x e = by_name (bytes_eq x r.0) e (named_back xs ys x)
  where
    by_name : (b : Bool) → (if b then Some r.1 else named xs x) ≡ None → (named xs x ≡ None → named (xs ++ ys) x ≡ named ys x) → (if b then Some r.1 else named (xs ++ ys) x) ≡ named ys x
    by_name true f rest = absurd (some_none f)
    by_name false f rest = rest f

-- what one row has
row_is : {A : Type 0} (r : List ℕ × A) (x : List ℕ) (a : A) → named (r ∷ []) x ≡ Some a → (bytes_eq x r.0 ≡ true) × (r.1 ≡ a)
row_is r x a e = by_name (bytes_eq x r.0) refl e
  where
    by_name : (b : Bool) → bytes_eq x r.0 ≡ b → (if b then Some r.1 else None) ≡ Some a → (bytes_eq x r.0 ≡ true) × (r.1 ≡ a)
    by_name true is f = (is, some_same r.1 a f)
    by_name false is f = absurd (none_some f)

row_has : {A : Type 0} (r : List ℕ × A) (x : List ℕ) → bytes_eq x r.0 ≡ true → named (r ∷ []) x ≡ Some r.1
row_has r x e = ap (λ b. if b then Some r.1 else None) e

-- how deep records lie in a type, by the sizes of records; and the record that it names has a size
abbrev pub nest : List (List ℕ × Size) → TypeTree → ℕ
nest ns t = (type_size ns t).nesting

abbrev Settled : List (List ℕ × Size) → TypeTree → Type 0
Settled ns (NamedType x) = Held (named ns x)
Settled ns _ = Unit {0}

-- the fields of a record of this nesting
abbrev pub Fields : List (List ℕ × Size) → ℕ → List (List ℕ × TypeTree) → Type 0
Fields ns n fs = AllByRecursion (λ (r : List ℕ × TypeTree). Settled ns r.1 × (nest ns r.1 < n)) fs

-- each record that is known has a size, with its fields within
pub record HasSize (ns : List (List ℕ × Size)) (x : List ℕ) (fs : List (List ℕ × TypeTree)) : Type 0 where
  pub size : Size
  pub is : named ns x ≡ Some size
  pub fields : Fields ns size.nesting fs

pub record Sized (k : List ℕ → Option Meaning) (ns : List (List ℕ × Size)) : Type 0 where
  pub large : (x : List ℕ) (z : Size) → named ns x ≡ Some z → z.nesting ≤ NESTING
  pub records : (x : List ℕ) (fs : List (List ℕ × TypeTree)) → k x ≡ Some (RecordOf fs) → HasSize ns x fs
  pub only : (x : List ℕ) (z : Size) → named ns x ≡ Some z → Held (k x)

-- sizes behind others change nothing
settled_more : (ns ms : List (List ℕ × Size)) (t : TypeTree) → Settled ns t → Settled (ns ++ ms) t × (nest (ns ++ ms) t ≡ nest ns t)
settled_more ns ms (NamedType x) h =
    let more = named_front ns ms x h.value h.is in
    (record { value = h.value; is = more }, ap (λ o. (or_leaf o).nesting) (more ∙ sym h.is))
settled_more ns ms _ h = (tt, refl)

fields_more : (ns ms : List (List ℕ × Size)) (n : ℕ) (fs : List (List ℕ × TypeTree)) → Fields ns n fs → Fields (ns ++ ms) n fs
fields_more ns ms n [] h = tt
fields_more ns ms n (f ∷ fs) h =
    let more = settled_more ns ms f.1 h.0.0 in
    ((more.0, omega (arith, more.1, h.0.1)), fields_more ns ms n fs h.1)

size_more : (ns ms : List (List ℕ × Size)) (x : List ℕ) (fs : List (List ℕ × TypeTree)) → HasSize ns x fs → HasSize (ns ++ ms) x fs
size_more ns ms x fs h = record { size = h.size; is = named_front ns ms x h.size h.is; fields = fields_more ns ms h.size.nesting fs h.fields }

-- one more declaration
known_more : (before : List DeclTree) (d : DeclTree) (x : List ℕ) → known (before ++ d ∷ []) x ≡ named ((packet_row ∷ map row_of before) ++ row_of d ∷ []) x
known_more before d x = ap (λ rows. named (packet_row ∷ rows) x) (map-append row_of before (d ∷ []))

known_front : (before : List DeclTree) (d : DeclTree) (x : List ℕ) → Held (known before x) → Held (known (before ++ d ∷ []) x)
known_front before d x h = record { value = h.value; is = known_more before d x ∙ named_front (packet_row ∷ map row_of before) (row_of d ∷ []) x h.value h.is }

known_where : (before : List DeclTree) (d : DeclTree) (x : List ℕ) (m : Meaning) → known (before ++ d ∷ []) x ≡ Some m → Where (packet_row ∷ map row_of before) (row_of d ∷ []) x m
known_where before d x m e = where_named (packet_row ∷ map row_of before) (row_of d ∷ []) x m (sym (known_more before d x) ∙ e)

-- one that is no record
abbrev pub NoRecord : Meaning → Type 0
NoRecord (RecordOf fs) = ⊥
NoRecord _ = Unit {0}

no_record : (m : Meaning) (fs : List (List ℕ × TypeTree)) → NoRecord m → m ≡ RecordOf fs → ⊥
no_record m fs h e = subst NoRecord e h

sized_other : (before : List DeclTree) (d : DeclTree) (ns : List (List ℕ × Size)) → NoRecord (row_of d).1 → Sized (known before) ns → Sized (known (before ++ d ∷ [])) ns
sized_other before d ns other h = record {
  large = h.large;
  records = λ x fs e. by_place x fs (known_where before d x (RecordOf fs) e);
  only = λ x z e. known_front before d x (h.only x z e);
}
  where
    by_place : (x : List ℕ) (fs : List (List ℕ × TypeTree)) → Where (packet_row ∷ map row_of before) (row_of d ∷ []) x (RecordOf fs) → HasSize ns x fs
    by_place x fs (front e) = h.records x fs e
    by_place x fs (back e f) = absurd (no_record (row_of d).1 fs other (row_is (row_of d) x (RecordOf fs) f).1)

-- a record: its fields name records before it
is_record_held : (m : Option Meaning) → is_record m ≡ true → (fs : List (List ℕ × TypeTree)) × (m ≡ Some (RecordOf fs))
is_record_held None e = absurd (false≢true e)
is_record_held (Some (RecordOf fs)) e = (fs, refl)
is_record_held (Some (FunctionOf ts t)) e = absurd (false≢true e)
is_record_held (Some (ActorOf ts t)) e = absurd (false≢true e)

settled : (k : List ℕ → Option Meaning) (ns : List (List ℕ × Size)) → Sized k ns → (t : TypeTree) → type_known k t ≡ true → Settled ns t
settled k ns h (NamedType x) e = let m = is_record_held (k x) e in let s = h.records x m.0 m.1 in record { value = s.size; is = s.is }
settled k ns h _ e = tt

fields_sized : (k : List ℕ → Option Meaning) (ns : List (List ℕ × Size)) → Sized k ns → (taken : List ℕ → Bool) (fs : List ParamTree) (n : ℕ)
    → fields_fault k taken fs ≡ None → (fields_size ns fs).nesting < n → Fields ns n (map field_row fs)
fields_sized k ns h taken [] n e l = tt
fields_sized k ns h taken (f ∷ fs) n e l =
    let one = no_first _ (fields_fault k (with_name f.name.name taken) fs) e in
    let types = holds (type_known k f.ty) _ (no_first (unless (type_known k f.ty) _) _ one) in
    ((settled k ns h f.ty types, omega (arith, l)), fields_sized k ns h (with_name f.name.name taken) fs n (no_second _ (fields_fault k (with_name f.name.name taken) fs) e) (omega (arith, l)))

not_or : (a b : Bool) → not (a || b) ≡ true → b ≡ false
not_or false false e = refl
not_or false true e = absurd (false≢true e)
not_or true b e = absurd (false≢true e)

no_such : (o : Option Meaning) → is_there o ≡ false → o ≡ None
no_such None e = refl
no_such (Some m) e = absurd (true≢false e)

not_large : (r : RecordTree) (z : Size) → large_record (too_large z) r ≡ None → z.nesting ≤ NESTING
not_large r z e = by_tests (nat_lt NESTING z.nesting) (nat_lt LEAF_FIELDS z.leaves) refl e
  where
    by_tests : (a b : Bool) → nat_lt NESTING z.nesting ≡ a → large_record (a || b) r ≡ None → z.nesting ≤ NESTING
    by_tests false b is f = grind (arith, nat_tests)
    by_tests true b is f = absurd (some_none f)

with_new : (ns : List (List ℕ × Size)) (r : RecordTree) → named ns r.name.name ≡ None → with_size ns r ≡ ns ++ (r.name.name, record_size ns r) ∷ []
with_new ns r e = ap (λ o. if is_there o then ns else ns ++ (r.name.name, record_size ns r) ∷ []) e

sized_record : (before : List DeclTree) (r : RecordTree) (ns : List (List ℕ × Size)) → record_fault (known before) r ≡ None → large_record (too_large (record_size ns r)) r ≡ None
    → Sized (known before) ns → Sized (known (before ++ StructDecl r ∷ [])) (with_size ns r)
sized_record before r ns kept within h = subst (Sized (known (before ++ StructDecl r ∷ []))) (sym (with_new ns r unsized)) (record { large = larger; records = sizes; only = mine })
  where
    unknown : known before r.name.name ≡ None
    unknown = no_such (known before r.name.name) (not_or (is_predefined r.name.name) (is_there (known before r.name.name))
        (holds (not (is_predefined r.name.name || is_there (known before r.name.name))) _ (no_first (name_fault (known before) r.name.name) _ kept)))

    unnamed : (x : List ℕ) → known before x ≡ None → named ns x ≡ None
    unnamed x e = by_size (named ns x) refl
      where
        by_size : (o : Option Size) → named ns x ≡ o → o ≡ None
        by_size None g = refl
        by_size (Some z) g = let m = h.only x z g in absurd (none_some (sym e ∙ m.is))

    unsized : named ns r.name.name ≡ None
    unsized = unnamed r.name.name unknown

    larger : (x : List ℕ) (z : Size) → named (ns ++ (r.name.name, record_size ns r) ∷ []) x ≡ Some z → z.nesting ≤ NESTING
    larger x z e = by_place (where_named ns ((r.name.name, record_size ns r) ∷ []) x z e)
      where
        by_place : Where ns ((r.name.name, record_size ns r) ∷ []) x z → z.nesting ≤ NESTING
        by_place (front f) = h.large x z f
        by_place (back f g) = subst (λ y. y.nesting ≤ NESTING) (row_is (r.name.name, record_size ns r) x z g).1 (not_large r (record_size ns r) within)

    sizes : (x : List ℕ) (fs : List (List ℕ × TypeTree)) → known (before ++ StructDecl r ∷ []) x ≡ Some (RecordOf fs) → HasSize (ns ++ (r.name.name, record_size ns r) ∷ []) x fs
    sizes x fs e = by_place (known_where before (StructDecl r) x (RecordOf fs) e)
      where
        same : (gs : List (List ℕ × TypeTree)) → RecordOf gs ≡ RecordOf fs → gs ≡ fs
        same gs f = cc

        by_place : Where (packet_row ∷ map row_of before) (row_of (StructDecl r) ∷ []) x (RecordOf fs) → HasSize (ns ++ (r.name.name, record_size ns r) ∷ []) x fs
        by_place (front f) = size_more ns ((r.name.name, record_size ns r) ∷ []) x fs (h.records x fs f)
        by_place (back f g) =
            let row = row_is (row_of (StructDecl r)) x (RecordOf fs) g in
            let new : HasSize (ns ++ (r.name.name, record_size ns r) ∷ []) x (map field_row r.fields) = record {
              size = record_size ns r;
              is = named_back ns ((r.name.name, record_size ns r) ∷ []) x (unnamed x f) ∙ row_has (r.name.name, record_size ns r) x row.0;
              fields = fields_more ns ((r.name.name, record_size ns r) ∷ []) (record_size ns r).nesting (map field_row r.fields)
                  (fields_sized (known before) ns h (λ y. false) r.fields (record_size ns r).nesting (no_second (name_fault (known before) r.name.name) _ kept) (omega arith));
            } in
            subst (HasSize (ns ++ (r.name.name, record_size ns r) ∷ []) x) (same (map field_row r.fields) row.1) new

    mine : (x : List ℕ) (z : Size) → named (ns ++ (r.name.name, record_size ns r) ∷ []) x ≡ Some z → Held (known (before ++ StructDecl r ∷ []) x)
    mine x z e = by_place (where_named ns ((r.name.name, record_size ns r) ∷ []) x z e)
      where
        by_place : Where ns ((r.name.name, record_size ns r) ∷ []) x z → Held (known (before ++ StructDecl r ∷ []) x)
        by_place (front f) = known_front before (StructDecl r) x (h.only x z f)
        by_place (back f g) = known_last (known before x) refl
          where
            known_last : (o : Option Meaning) → known before x ≡ o → Held (known (before ++ StructDecl r ∷ []) x)
            known_last (Some m) is = known_front before (StructDecl r) x (record { value = m; is = is })
            known_last None is = record {
              value = (row_of (StructDecl r)).1;
              is = known_more before (StructDecl r) x ∙ named_back (packet_row ∷ map row_of before) (row_of (StructDecl r) ∷ []) x is
                  ∙ row_has (row_of (StructDecl r)) x (row_is (r.name.name, record_size ns r) x z g).0;
            }

-- all declarations
pub record AllSized (k : List ℕ → Option Meaning) : Type 0 where
  pub sizes : List (List ℕ × Size)
  pub sized : Sized k sizes

behind_more : (before ds : List DeclTree) (d : DeclTree) → AllSized (known ((before ++ d ∷ []) ++ ds)) → AllSized (known (before ++ d ∷ ds))
behind_more before ds d h = subst (λ l. AllSized (known l)) (append_assoc before (d ∷ []) ds) h

decls_sized : (all : Bool → Setting) (before ds : List DeclTree) (ns : List (List ℕ × Size)) → decls_refusal all before ds ≡ None → first_large ns ds ≡ None → Sized (known before) ns
    → AllSized (known (before ++ ds))
decls_sized all before [] ns e f h = record { sizes = ns; sized = subst (λ l. Sized (known l) ns) (sym (append-nil before)) h }
decls_sized all before (StructDecl r ∷ ds) ns e f h =
    let kept = no_item r.at (record_fault (known before) r) (neither_first (decl_refusal all (known before) (StructDecl r)) _ e) in
    behind_more before ds (StructDecl r)
    (decls_sized all (before ++ StructDecl r ∷ []) ds (with_size ns r) (neither_second (decl_refusal all (known before) (StructDecl r)) _ e)
    (neither_second (large_record (too_large (record_size ns r)) r) _ f)
    (sized_record before r ns kept (neither_first (large_record (too_large (record_size ns r)) r) _ f) h))
decls_sized all before (FunctionDecl g ∷ ds) ns e f h =
    behind_more before ds (FunctionDecl g)
    (decls_sized all (before ++ FunctionDecl g ∷ []) ds ns (neither_second (decl_refusal all (known before) (FunctionDecl g)) _ e) f (sized_other before (FunctionDecl g) ns tt h))
decls_sized all before (ActorDecl a ∷ ds) ns e f h =
    behind_more before ds (ActorDecl a)
    (decls_sized all (before ++ ActorDecl a ∷ []) ds ns (neither_second (decl_refusal all (known before) (ActorDecl a)) _ e) f (sized_other before (ActorDecl a) ns tt h))

-- the predefined record
packet_sized : Sized (known []) ((codes "Packet", packet_size) ∷ [])
packet_sized = record {
  large = λ x z e. subst (λ y. y.nesting ≤ NESTING) (row_is (codes "Packet", packet_size) x z e).1 (omega arith);
  records = λ x fs e. let row = row_is packet_row x (RecordOf fs) e in subst (HasSize ((codes "Packet", packet_size) ∷ []) x) (same fs row.1)
      (record { size = packet_size; is = row_has (codes "Packet", packet_size) x row.0; fields = ((tt, omega arith), ((tt, omega arith), ((tt, omega arith), tt))) });
  only = λ x z e. record { value = packet_row.1; is = row_has packet_row x (row_is (codes "Packet", packet_size) x z e).0 };
}
  where
    same : (fs : List (List ℕ × TypeTree)) → RecordOf packet_fields ≡ RecordOf fs → packet_fields ≡ fs
    same fs f = cc

pub plain_sized : (all : Bool → Setting) (ds : List DeclTree) → decls_refusal all [] ds ≡ None → first_large ((codes "Packet", packet_size) ∷ []) ds ≡ None → AllSized (known ds)
plain_sized all ds e f = decls_sized all [] ds ((codes "Packet", packet_size) ∷ []) e f packet_sized

-- heads of actors behind them change nothing
pub no_records : (ds : List DeclTree) → AllByRecursion (λ d. NoRecord (row_of d).1) ds → (k : List DeclTree) → AllSized (known k) → AllSized (known (k ++ ds))
no_records [] h k s = subst (λ l. AllSized (known l)) (sym (append-nil k)) s
no_records (d ∷ ds) h k s = behind_more k ds d (no_records ds h.1 (k ++ d ∷ []) (record { sizes = s.sizes; sized = sized_other k d s.sizes h.0 s.sized }))

among : (ns : List (List ℕ × Size)) (n : ℕ) (fs : List (List ℕ × TypeTree)) (x : List ℕ) (u : TypeTree) → Fields ns n fs → named fs x ≡ Some u → nest ns u < n
among ns n [] x u g e = absurd (none_some e)
among ns n (f ∷ fs) x u g e = by_name (bytes_eq x f.0) e (among ns n fs x u g.1)
  where
    by_name : (b : Bool) → (if b then Some f.1 else named fs x) ≡ Some u → (named fs x ≡ Some u → nest ns u < n) → nest ns u < n
    by_name true q rest = subst (λ t. nest ns t < n) (some_same f.1 u q) g.0.1
    by_name false q rest = rest q

-- paths
module _ (s : Setting) (ns : List (List ℕ × Size)) (h : Sized s.known ns) where
  field_in : (o : Option Meaning) (r x : List ℕ) (u : TypeTree) → s.known r ≡ o → field_of o x ≡ Some u → nest ns u < nest ns (NamedType r)
  field_in (Some (RecordOf fs)) r x u is e =
      let z = h.records r fs is in
      let size : nest ns (NamedType r) ≡ z.size.nesting = ap (λ o. (or_leaf o).nesting) z.is in
      let lt = among ns z.size.nesting fs x u z.fields e in
      omega (arith, lt, size)
  field_in (Some (FunctionOf ts t)) r x u is e = absurd (none_some e)
  field_in (Some (ActorOf ts t)) r x u is e = absurd (none_some e)
  field_in None r x u is e = absurd (none_some e)

  field_less : (t : TypeTree) (x : List ℕ) (u : TypeTree) → field_form s t x ≡ Some u → nest ns u < nest ns t
  field_less (NamedType r) x u e = field_in (s.known r) r x u refl e
  field_less _ x u e = absurd (none_some e)

  path_within : (xs : List Ident) (t : TypeTree) → path_fault s (Some t) xs ≡ None → length xs ≤ nest ns t
  path_within [] t e = omega arith
  path_within (x ∷ xs) t e =
      let u = there (field_form s t x.name) (holds (is_there (field_form s t x.name)) _ (no_first (of_field s (Some t) x.name) (path_fault s (field_form s t x.name) xs) e)) in
      let rest = path_within xs u.value (subst (λ o. path_fault s o xs ≡ None) u.is (no_second (of_field s (Some t) x.name) (path_fault s (field_form s t x.name) xs) e)) in
      omega (arith, rest, field_less t x.name u.value u.is)

  nest_within : (t : TypeTree) → nest ns t ≤ NESTING
  nest_within (NamedType r) = by_size (named ns r) refl
    where
      by_size : (o : Option Size) → named ns r ≡ o → (or_leaf o).nesting ≤ NESTING
      by_size None e = omega arith
      by_size (Some z) e = h.large r z e
  nest_within _ = omega arith

  pub reached : (xs : List Ident) → target_fault s xs ≡ None → length xs ≤ suc NESTING
  reached [] e = omega arith
  reached (x ∷ xs) e =
      let t = there (named s.vars x.name) (holds (is_there (named s.vars x.name)) _ (no_first _ (path_fault s (named s.vars x.name) xs) e)) in
      let rest = path_within xs t.value (subst (λ o. path_fault s o xs ≡ None) t.is (no_second _ (path_fault s (named s.vars x.name) xs) e)) in
      omega (arith, rest, nest_within t.value)
