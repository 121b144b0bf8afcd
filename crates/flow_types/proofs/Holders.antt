-- The records of a program that hold a reference.
use Rattle.std.proofs.Common.{◌≡◌, ℕ, zero, suc, ◌+◌, ◌≤◌, ◌<◌, Bool, true, false, ◌||◌, List, [], ◌∷◌, ◌++◌, length, map, drop, take, get_or, slice_get, position, is_some, if◌then◌else◌, Result, Ok, Err, IfOk, refl, sym, ap, ap₂, subst, ◌∙◌, arith, append_assoc, append-nil}
use Rattle.std.specs.List.{list_any}
use Rattle.std.specs.Option.{option_map}
use Rattle.std.specs.Str.{bytes_eq}
use Rattle.std.specs.declared.option.Option.{Option}
use Rattle.std.specs.declared.option.Option.TheVariants.{None, Some}
use Rattle.std.specs.Map.{keys_of, values_of, lookup}
use Rattle.std.proofs.lemmas.Slice.Eq.{bytes_eq-Decides}
use Rattle.std.proofs.lemmas.Option.{slice_get-map}
use lib.ListN.{length-map}
use Rattle.indexmap.proofs.MapLemmas.{Found-position, some_index}
use Rattle.std.specs.declared.alloc.Global.{Global}
use Rattle.std.specs.declared.vec.Vec.{Vec}
use Rattle.flow_base.specs.declared.memory.NoMemory.{NoMemory}
use denote.Ref.{Bor}
use Rattle.flow_tree.specs.declared.decl.Param.{Param}
use Rattle.flow_tree.specs.declared.decl.Decl.{Decl}
use Rattle.flow_tree.specs.Decls.{DeclTree}
use Rattle.flow_tree.specs.View.{type_of}
use Rattle.flow_tree.specs.DeclView.{params_of, decl_of}
use Rattle.flow_ast.specs.TypingNames.{named}
use Rattle.flow_ast.specs.Typing.{is_there, or_else}
use Rattle.flow_types.specs.declared.holding.Uses.{Uses}
use Rattle.flow_types.specs.declared.callee.Meaning as meant
use Rattle.flow_types.specs.Holding.{marked, uses_hold, some_hold, held, level}
use Rattle.flow_rules.specs.Known.{Meaning, field_row, row_of, holds_by, fields_hold, meaning_holds, record_holds}
use Rattle.flow_types.specs.View.{meaning_of}
use Rattle.flow_types.specs.MapView.{bound, at_number}
use Rattle.flow_types.proofs.Steps.{drop_more, drop_all}
use Rattle.flow_types.proofs.Lookups.{named_lookup}
use Rattle.flow_types.proofs.Inserts.{row_inserted}
use Rattle.indexmap.specs.IndexMap.{insert_entry}

or_or : (a b c : Bool) → ((a || b) || c) ≡ (a || (b || c))
or_or true b c = refl
or_or false b c = refl

or_false : (b : Bool) → (b || false) ≡ b
or_false true = refl
or_false false = refl

any_last : (g : ℕ → Bool) (ns : List ℕ) (n : ℕ) → list_any g (ns ++ n ∷ []) ≡ (list_any g ns || g n)
any_last g [] n = or_false (g n)
any_last g (m ∷ ns) n = ap (λ b. g m || b) (any_last g ns n) ∙ sym (or_or (g m) (list_any g ns) (g n))

-- a field that is a record, a reference, or neither
note_record : (g : ℕ → Bool) (old new : Uses) (n : ℕ) → new.direct ≡ old.direct → new.records.items ≡ old.records.items ++ n ∷ [] → uses_hold g new ≡ (uses_hold g old || g n)
note_record g old new n d r =
    ap₂ (λ a ns. a || list_any g ns) d r ∙ ap (λ b. old.direct || b) (any_last g old.records.items n) ∙ sym (or_or old.direct (list_any g old.records.items) (g n))

pub note_found : (g : ℕ → Bool) (old new : Uses) (n : ℕ) (r : Option ℕ) → Some n ≡ r → new.direct ≡ old.direct → new.records.items ≡ old.records.items ++ n ∷ []
    → uses_hold g new ≡ (uses_hold g old || at_number g r)
note_found g old new n r is d more = note_record g old new n d more ∙ ap (λ o. uses_hold g old || at_number g o) is

pub note_reference : (g : ℕ → Bool) (old new : Uses) → new.direct ≡ true → uses_hold g new ≡ (uses_hold g old || true)
note_reference g old new d = ap (λ a. a || list_any g new.records.items) d ∙ sym (or_true (uses_hold g old))
  where
    or_true : (b : Bool) → (b || true) ≡ true
    or_true true = refl
    or_true false = refl

pub note_nothing : (g : ℕ → Bool) (old : Uses) → uses_hold g old ≡ (uses_hold g old || false)
note_nothing g old = sym (or_false (uses_hold g old))

pub note_missing : (g : ℕ → Bool) (old : Uses) (r : Option ℕ) → None ≡ r → uses_hold g old ≡ (uses_hold g old || at_number g r)
note_missing g old r is = note_nothing g old ∙ ap (λ o. uses_hold g old || at_number g o) is

-- one field after another
pub fields_step : (p : List ℕ → Bool) (fs : List Param) (i : ℕ) (f : Param) (old new total : Bool) → i < length fs → f ≡ get_or fs i f → new ≡ (old || holds_by p (type_of f.ty))
    → (old || fields_hold p (map field_row (params_of (drop i fs)))) ≡ total → (new || fields_hold p (map field_row (params_of (drop (i + 1) fs)))) ≡ total
fields_step p fs i f old new total lt at n h =
    let rest = fields_hold p (map field_row (params_of (drop (i + 1) fs))) in
    ap (λ b. b || rest) n ∙ or_or old (holds_by p (type_of f.ty)) rest ∙ ap (λ l. old || fields_hold p (map field_row (params_of l))) (sym (drop_more fs i f lt at)) ∙ h

pub fields_end : (p : List ℕ → Bool) (fs : List Param) (i : ℕ) (old total : Bool) → length fs ≤ i → (old || fields_hold p (map field_row (params_of (drop i fs)))) ≡ total → old ≡ total
fields_end p fs i old total le h = sym (or_false old) ∙ ap (λ l. old || fields_hold p (map field_row (params_of l))) (sym (drop_all fs i le)) ∙ h

-- one meaning after another
take_some : {E : Type 0} (k : E → Bool) (es : List E) (n : ℕ) (b : Bool) → Some b ≡ option_map k (slice_get es n) → map k (take (n + 1) es) ≡ map k (take n es) ++ b ∷ []
take_some k [] n b h = cc
take_some k (e ∷ es) zero b h = let same : k e ≡ b = cc in ap (λ c. c ∷ []) same
take_some k (e ∷ es) (suc n) b h =
    let m : suc n + 1 ≡ suc (n + 1) = omega arith in
    ap (λ i. map k (take i (e ∷ es))) m ∙ ap (λ l. k e ∷ l) (take_some k es n b h)

map_last : {A B : Type 0} (f : A → B) (xs : List A) (x : A) → map f (xs ++ x ∷ []) ≡ map f xs ++ f x ∷ []
map_last f [] x = refl
map_last f (y ∷ ys) x = ap (λ l. f y ∷ l) (map_last f ys x)

take_own : {A : Type 0} (xs : List A) → take (length xs) xs ≡ xs
take_own [] = refl
take_own (x ∷ xs) = ap (λ l. x ∷ l) (take_own xs)

pub uses_more : {E : Type 0} (h : Uses → Bool) (k : E → Bool) (old new : List Uses) (u : Uses) (es : List E) (n : ℕ) → new ≡ old ++ u ∷ [] → Some (h u) ≡ option_map k (slice_get es n)
    → map h old ≡ map k (take n es) → map h new ≡ map k (take (n + 1) es)
uses_more h k old new u es n is at t =
    ap (map h) is ∙ map_last h old u ∙ ap (λ l. l ++ h u ∷ []) t ∙ sym (take_some k es n (h u) at)

pub uses_all : {E : Type 0} (h : Uses → Bool) (k : E → Bool) (us : List Uses) (es : List E) (n : ℕ) → n ≡ length es → map h us ≡ map k (take n es) → map h us ≡ map k es
uses_all h k us es n is t = t ∙ ap (λ i. map k (take i es)) is ∙ ap (map k) (take_own es)

-- a record by its name, and by its number
abbrev or_flag : Option Bool → Bool
or_flag None = false
or_flag (Some b) = b

flag_some : (g : ℕ → Bool) (o : Option Uses) → some_hold g o ≡ or_flag (option_map (uses_hold g) o)
flag_some g None = refl
flag_some g (Some u) = refl

flag_meaning : (q : List ℕ → Bool) (o : Option meant.Meaning) → or_flag (option_map (λ (m : meant.Meaning). meaning_holds q (Some (meaning_of m))) o) ≡ meaning_holds q (option_map meaning_of o)
flag_meaning q None = refl
flag_meaning q (Some m) = refl

values_mapped : {K X Y : Type 0} (f : X → Y) (es : List (K × X)) → map (λ (e : K × X). f e.1) es ≡ map f (values_of es)
values_mapped f [] = refl
values_mapped f (e ∷ es) = ap (λ l. f e.1 ∷ l) (values_mapped f es)

at_none : (o : Option ℕ) → at_number (λ i. false) o ≡ false
at_none None = refl
at_none (Some i) = refl

lookup_none : {A : Type 0} (o : Option A) → is_some o ≡ false → o ≡ None
lookup_none None h = refl
lookup_none (Some a) h = cc

abbrev Row : Type 0
Row = Bor (List ℕ) × meant.Meaning

abbrev test : List ℕ → Bor (List ℕ) → Bool
test x k = bytes_eq x k.now

number_some : (us : List Uses) (g : ℕ → Bool) (q : List ℕ → Bool) (x : List ℕ) (es : List Row) (i : ℕ)
    → map (uses_hold g) us ≡ map (λ (e : Row). meaning_holds q (Some (meaning_of e.1))) es → position (test x) (keys_of es) ≡ Some i
    → held us g i ≡ meaning_holds q (named (map (bound meaning_of) es) x)
number_some us g q x es i h e =
    let f = λ (m : meant.Meaning). meaning_holds q (Some (meaning_of m)) in
    let value : lookup (test x) es ≡ slice_get (values_of es) i = (Found-position (test x) es i e).value in
    let flags : option_map (uses_hold g) (slice_get us i) ≡ option_map f (slice_get (values_of es) i) =
    sym (slice_get-map (uses_hold g) us i) ∙ ap (λ l. slice_get l i) (h ∙ values_mapped f es) ∙ slice_get-map f (values_of es) i in
    flag_some g (slice_get us i) ∙ ap or_flag (flags ∙ ap (option_map f) (sym value)) ∙ flag_meaning q (lookup (test x) es)
    ∙ ap (meaning_holds q) (sym (named_lookup meaning_of x es))

number_by : (us : List Uses) (g : ℕ → Bool) (q : List ℕ → Bool) (x : List ℕ) (es : List Row) (r : Option ℕ)
    → map (uses_hold g) us ≡ map (λ (e : Row). meaning_holds q (Some (meaning_of e.1))) es → position (test x) (keys_of es) ≡ r
    → at_number (held us g) r ≡ meaning_holds q (named (map (bound meaning_of) es) x)
number_by us g q x es None h e =
    let missing : lookup (test x) es ≡ None = lookup_none (lookup (test x) es) (sym (some_index (test x) es) ∙ ap is_some e) in
    sym (ap (meaning_holds q) (named_lookup meaning_of x es ∙ ap (option_map meaning_of) missing))
number_by us g q x es (Some i) h e = number_some us g q x es i h e

module _ (us : List Uses) (es : List Row)
    (h : (g : ℕ → Bool) → map (uses_hold g) us ≡ map (λ (e : Row). meaning_holds (λ y. at_number g (position (test y) (keys_of es))) (Some (meaning_of e.1))) es) where
  record_level : (n : ℕ) (x : List ℕ) → at_number (level us n) (position (test x) (keys_of es)) ≡ record_holds (named (map (bound meaning_of) es)) n x
  record_level zero x = at_none (position (test x) (keys_of es))
  record_level (suc n) x =
      number_by us (level us n) (λ y. at_number (level us n) (position (test y) (keys_of es))) x es (position (test x) (keys_of es)) (h (level us n)) refl
      ∙ ap (λ p. meaning_holds p (named (map (bound meaning_of) es) x)) (λ i y. record_level n y i)

  same_count : length us ≡ length es
  same_count =
      let f = λ (e : Row). meaning_holds (λ y. at_number (λ i. false) (position (test y) (keys_of es))) (Some (meaning_of e.1)) in
      sym (length-map (us) (uses_hold (λ i. false))) ∙ ap length (h (λ i. false)) ∙ length-map es f

  at_same : (g k : ℕ → Bool) (o : Option ℕ) → ((i : ℕ) → g i ≡ k i) → at_number g o ≡ at_number k o
  at_same g k None e = refl
  at_same g k (Some i) e = e i

  pub holders_are : (bs : List Bool) → ((n : ℕ) → length us ≤ n → (i : ℕ) → marked bs i ≡ level us n i) → (n : ℕ) → length es ≤ n → (x : List ℕ)
      → at_number (marked bs) (position (test x) (keys_of es)) ≡ record_holds (named (map (bound meaning_of) es)) n x
  holders_are bs s n le x =
      let c = same_count in
      let few : length us ≤ n = omega (arith, c, le) in
      at_same (marked bs) (level us n) (position (test x) (keys_of es)) (s n few) ∙ record_level n x

pub holders_all : (us : List Uses) (es : List Row)
    → ((g : ℕ → Bool) → map (uses_hold g) us ≡ map (λ (e : Row). meaning_holds (λ y. at_number g (position (test y) (keys_of es))) (Some (meaning_of e.1))) es)
    → (ts : List Uses) → ts ≡ us → (r : Result (Vec Bool Global) NoMemory) → IfOk r (λ v. (n : ℕ) → length ts ≤ n → (i : ℕ) → marked v.items i ≡ level ts n i)
    → IfOk r (λ v. (n : ℕ) → length es ≤ n → (x : List ℕ) → at_number (marked v.items) (position (test x) (keys_of es)) ≡ record_holds (named (map (bound meaning_of) es)) n x)
holders_all us es h ts same (Ok v) s = λ n le x. holders_are us es h v.items (subst (λ l. (n : ℕ) → length l ≤ n → (i : ℕ) → marked v.items i ≡ level l n i) same s) n le x
holders_all us es h ts same (Err e) s = s

pub same_functions : {A B : Type 0} {f g : A → B} → ((x : A) → f x ≡ g x) → f ≡ g
same_functions h = λ i x. h x i

-- names, of several the first
named_head : {A : Type 0} (r : List ℕ × A) (xs ys : List (List ℕ × A)) (x : List ℕ) → named (xs ++ ys) x ≡ or_else (named xs x) (named ys x) → (b : Bool) → bytes_eq x r.0 ≡ b
    → (if bytes_eq x r.0 then Some r.1 else named (xs ++ ys) x) ≡ or_else (if bytes_eq x r.0 then Some r.1 else named xs x) (named ys x)
named_head r xs ys x h true is =
    ap (λ b. if b then Some r.1 else named (xs ++ ys) x) is ∙ sym (ap (λ b. or_else (if b then Some r.1 else named xs x) (named ys x)) is)
named_head r xs ys x h false is =
    ap (λ b. if b then Some r.1 else named (xs ++ ys) x) is ∙ h ∙ sym (ap (λ b. or_else (if b then Some r.1 else named xs x) (named ys x)) is)

named_append : {A : Type 0} (xs ys : List (List ℕ × A)) (x : List ℕ) → named (xs ++ ys) x ≡ or_else (named xs x) (named ys x)
named_append [] ys x = refl
named_append (r ∷ xs) ys x = named_head r xs ys x (named_append xs ys x) (bytes_eq x r.0) refl

first_there : {A : Type 0} (o p q : Option A) → is_there o ≡ true → or_else o p ≡ or_else o q
first_there None p q h = cc
first_there (Some a) p q h = refl

text_same : (x y : List ℕ) → bytes_eq x y ≡ true → x ≡ y
text_same x y is = (bytes_eq-Decides x y).0 is

skip_row : {A : Type 0} (rows zs : List (List ℕ × A)) (y x : List ℕ) (m : A) → is_there (named rows y) ≡ true → (b : Bool) → bytes_eq x y ≡ b
    → or_else (named rows x) (named zs x) ≡ or_else (named rows x) (if bytes_eq x y then Some m else named zs x)
skip_row rows zs y x m there false is = ap (λ b. or_else (named rows x) (if b then Some m else named zs x)) (sym is)
skip_row rows zs y x m there true is = first_there (named rows x) (named zs x) (if bytes_eq x y then Some m else named zs x) (ap (λ z. is_there (named rows z)) (text_same x y is) ∙ there)

pub row_there : {A : Type 0} (rows zs : List (List ℕ × A)) (y : List ℕ) (m : A) → is_there (named rows y) ≡ true → named (rows ++ zs) ≡ named (rows ++ ((y, m) ∷ zs))
row_there rows zs y m there = same_functions (λ x. named_append rows zs x ∙ skip_row rows zs y x m there (bytes_eq x y) refl ∙ sym (named_append rows ((y, m) ∷ zs) x))

pub row_put : {A : Type 0} (old new zs : List (List ℕ × A)) (y : List ℕ) (m : A) → new ≡ old ++ (y, m) ∷ [] → named (new ++ zs) ≡ named (old ++ ((y, m) ∷ zs))
row_put old new zs y m n = ap (λ l. named (l ++ zs)) n ∙ ap named (append_assoc old ((y, m) ∷ []) zs)

-- what a declaration declares is put in where its name is new
pub put_known : {A : Type 0} (rows zs : List (List ℕ × A)) (r : List ℕ × A) → is_there (named rows r.0) ≡ true → named (rows ++ zs) ≡ named (rows ++ (r ∷ zs))
put_known rows zs r h = row_there rows zs r.0 r.1 h

absent_none : {A : Type 0} (o : Option A) → is_there o ≡ false → o ≡ None
absent_none None h = refl
absent_none (Some a) h = cc

pub put_new : {A X : Type 0} (f : A → X) (k : Bor (List ℕ)) (v : A) (es new : List (Bor (List ℕ) × A)) (r : List ℕ × X) (zs : List (List ℕ × X))
    → new ≡ insert_entry (λ (x y : Bor (List ℕ)). bytes_eq x.now y.now) es k v → is_there (named (map (bound f) es) k.now) ≡ false → k.now ≡ r.0 → f v ≡ r.1
    → named (map (bound f) new ++ zs) ≡ named (map (bound f) es ++ (r ∷ zs))
put_new f k v es new r zs is free x m =
    row_put (map (bound f) es) (map (bound f) new) zs r.0 r.1
    (ap (map (bound f)) is ∙ row_inserted f k v es (absent_none _ free) ∙ ap₂ (λ y t. map (bound f) es ++ (y, t) ∷ []) x m)

pub known_step : (ds : List Decl) (i : ℕ) (d : Decl) (old new : List (List ℕ × Meaning)) (all : List ℕ → Option Meaning) → i < length ds → d ≡ get_or ds i d
    → ((zs : List DeclTree) → named (new ++ map row_of zs) ≡ named (old ++ (row_of (decl_of d) ∷ map row_of zs))) → named (old ++ map row_of (map decl_of (drop i ds))) ≡ all
    → named (new ++ map row_of (map decl_of (drop (i + 1) ds))) ≡ all
known_step ds i d old new all lt at n h =
    n (map decl_of (drop (i + 1) ds)) ∙ ap (λ l. named (old ++ map row_of (map decl_of l))) (sym (drop_more ds i d lt at)) ∙ h

pub known_end : (ds : List Decl) (i : ℕ) (rows : List (List ℕ × Meaning)) (all : List ℕ → Option Meaning) → length ds ≤ i → named (rows ++ map row_of (map decl_of (drop i ds))) ≡ all
    → named rows ≡ all
known_end ds i rows all le h = sym (ap named (append-nil rows)) ∙ ap (λ l. named (rows ++ map row_of (map decl_of l))) (sym (drop_all ds i le)) ∙ h
