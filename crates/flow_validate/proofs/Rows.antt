-- The places of a class become variables by their names, one more at a time: no two places have one name.
use Rattle.std.proofs.Common.{◌≡◌, ℕ, suc, ◌+◌, ◌<◌, ◌≤◌, ◌^◌, Bool, true, false, List, [], ◌∷◌, ◌++◌, length, map, take, get_or, decimal, append_assoc, if◌then◌else◌, refl, sym, ap, ap₂, ◌∙◌, arith}
use Rattle.std.specs.Str.{bytes_eq}
use Rattle.std.specs.Str.Parse.{digits_value}
use Rattle.std.specs.declared.option.Option.TheVariants.{None, Some}
use Rattle.std.proofs.lemmas.Fmt.{decimal_is_IsNumeral}
use Rattle.std.proofs.lemmas.List.{map_more, length-map, length-take-le}
use Rattle.std.proofs.lemmas.Option.{get_or_from_slice_get}
use Rattle.std.proofs.lemmas.Slice.Eq.{bytes_eq-Decides}
use denote.Ref.{Bor}
use Rattle.indexmap.specs.IndexMap.{insert_entry}
use Rattle.flow_tree.specs.Tree.{TypeTree}
use Rattle.flow_tree.specs.declared.decl.Slot.{Slot as code_slot}
use Rattle.flow_tree.specs.declared.ty.Ty.{Ty}
use Rattle.flow_tree.specs.Decls.{SlotTree}
use Rattle.flow_tree.specs.View.{type_of}
use Rattle.flow_tree.specs.DeclView.{slot_of}
use Rattle.flow_ast.specs.TypingNames.{named}
use Rattle.flow_types.specs.declared.type_view.TypeView as code
use Rattle.flow_types.specs.View.{found_of}
use Rattle.flow_types.specs.MapView.{bound}
use Rattle.flow_class.specs.declared.class.Slotted.TheVariants.{Slot, Local}
use Rattle.flow_class.specs.Places.{place_name}
use Rattle.flow_valid.specs.Validity.{slot_rows, local_rows}
use Rattle.flow_validate.specs.PlaceNames.{AreNames}
use Rattle.flow_validate.specs.Rows.{AreSlotRows}

-- names of places of one kind are those of one number
abbrev tail : List ℕ → List ℕ
tail [] = []
tail (x ∷ xs) = xs

abbrev head : List ℕ → ℕ
head [] = 0
head (x ∷ xs) = x

same_number : (m n : ℕ) → m < 2 ^ 64 → n < 2 ^ 64 → decimal m ≡ decimal n → m ≡ n
same_number m n h k e = sym (decimal_is_IsNumeral m h).1 ∙ ap (digits_value 10) e ∙ (decimal_is_IsNumeral n k).1

-- a test of two names that aren't the same
differ : (x y : List ℕ) → (x ≡ y → ⊥) → (b : Bool) → bytes_eq x y ≡ b → bytes_eq x y ≡ false
differ x y ne true is = absurd (ne ((bytes_eq-Decides x y).0 is))
differ x y ne false is = is

no_row : {A : Type 0} (row : List ℕ × A) (rows : List (List ℕ × A)) (x : List ℕ) → (x ≡ row.0 → ⊥) → named rows x ≡ None → named (row ∷ rows) x ≡ None
no_row row rows x ne h = ap (λ b. if b then Some row.1 else named rows x) (differ x row.0 ne (bytes_eq x row.0) refl) ∙ h

-- no slot before a number has its name, and no slot has the name of a local
slots_before : (from n : ℕ) (ss : List SlotTree) → from + length ss ≤ n → n < 2 ^ 64 → named (slot_rows from ss) (place_name (Slot n)) ≡ None
slots_before from n [] le small = refl
slots_before from n (s ∷ ss) le small =
    no_row (place_name (Slot from), s.ty) (slot_rows (suc from) ss) (place_name (Slot n))
    (λ e. let same = same_number n from small (omega arith) (ap tail e) in omega arith)
    (slots_before (suc from) n ss (omega arith) small)

no_slot : (from n : ℕ) (ss : List SlotTree) → named (slot_rows from ss) (place_name (Local n)) ≡ None
no_slot from n [] = refl
no_slot from n (s ∷ ss) =
    no_row (place_name (Slot from), s.ty) (slot_rows (suc from) ss) (place_name (Local n)) (λ e. let same : 108 ≡ 115 = ap head e in omega arith)
    (no_slot (suc from) n ss)

locals_before : (from n : ℕ) (ts : List TypeTree) → from + length ts ≤ n → n < 2 ^ 64 → named (local_rows from ts) (place_name (Local n)) ≡ None
locals_before from n [] le small = refl
locals_before from n (t ∷ ts) le small =
    no_row (place_name (Local from), t) (local_rows (suc from) ts) (place_name (Local n))
    (λ e. let same = same_number n from small (omega arith) (ap tail e) in omega arith)
    (locals_before (suc from) n ts (omega arith) small)

named_both : {A : Type 0} (rows more : List (List ℕ × A)) (x : List ℕ) → named rows x ≡ None → named more x ≡ None → named (rows ++ more) x ≡ None
named_both [] more x h k = k
named_both (row ∷ rows) more x h k = by (λ g. named_both rows more x g k) (bytes_eq x row.0) refl
  where
    by : (named rows x ≡ None → named (rows ++ more) x ≡ None) → (b : Bool) → bytes_eq x row.0 ≡ b → named ((row ∷ rows) ++ more) x ≡ None
    by further true is = let there : Some row.1 ≡ None = sym (ap (λ c. if c then Some row.1 else named rows x) is) ∙ h in absurd cc
    by further false is =
        ap (λ c. if c then Some row.1 else named (rows ++ more) x) is ∙ further (sym (ap (λ c. if c then Some row.1 else named rows x) is) ∙ h)

-- one row more
slots_last : (from : ℕ) (ss : List SlotTree) (s : SlotTree) → slot_rows from (ss ++ s ∷ []) ≡ slot_rows from ss ++ (place_name (Slot (from + length ss)), s.ty) ∷ []
slots_last from [] s = ap (λ n. (place_name (Slot n), s.ty) ∷ []) (omega arith)
slots_last from (r ∷ ss) s =
    ap (λ l. (place_name (Slot from), r.ty) ∷ l)
    (slots_last (suc from) ss s ∙ ap (λ n. slot_rows (suc from) ss ++ (place_name (Slot n), s.ty) ∷ []) (omega arith))

locals_last : (from : ℕ) (ts : List TypeTree) (t : TypeTree) → local_rows from (ts ++ t ∷ []) ≡ local_rows from ts ++ (place_name (Local (from + length ts)), t) ∷ []
locals_last from [] t = ap (λ n. (place_name (Local n), t) ∷ []) (omega arith)
locals_last from (u ∷ ts) t =
    ap (λ l. (place_name (Local from), u) ∷ l)
    (locals_last (suc from) ts t ∙ ap (λ n. local_rows (suc from) ts ++ (place_name (Local n), t) ∷ []) (omega arith))

-- what is put in under a new name comes last
row_put : (k : Bor (List ℕ)) (v : code.TypeView) (es : List (Bor (List ℕ) × code.TypeView)) → named (map (bound found_of) es) k.now ≡ None
    → map (bound found_of) (insert_entry (λ (x y : Bor (List ℕ)). bytes_eq x.now y.now) es k v) ≡ map (bound found_of) es ++ (k.now, found_of v) ∷ []
row_put k v [] h = refl
row_put k v (e ∷ es) h = by (row_put k v es) (bytes_eq k.now e.0.now) refl
  where
    by : (named (map (bound found_of) es) k.now ≡ None → map (bound found_of) (insert_entry (λ (x y : Bor (List ℕ)). bytes_eq x.now y.now) es k v) ≡ map (bound found_of) es ++ (k.now, found_of v)
        ∷ [])
        → (b : Bool) → bytes_eq k.now e.0.now ≡ b
        → map (bound found_of) (if bytes_eq k.now e.0.now then (e.0, v) ∷ es else e ∷ insert_entry (λ (x y : Bor (List ℕ)). bytes_eq x.now y.now) es k v)
        ≡ bound found_of e ∷ (map (bound found_of) es ++ (k.now, found_of v) ∷ [])
    by more true is = let there : Some (found_of e.1) ≡ None = sym (ap (λ b. if b then Some (found_of e.1) else named (map (bound found_of) es) k.now) is) ∙ h in absurd cc
    by more false is =
        ap (λ b. map (bound found_of) (if b then (e.0, v) ∷ es else e ∷ insert_entry (λ (x y : Bor (List ℕ)). bytes_eq x.now y.now) es k v)) is
        ∙ ap (λ l. bound found_of e ∷ l) (more (sym (ap (λ b. if b then Some (found_of e.1) else named (map (bound found_of) es) k.now) is) ∙ h))

abbrev rows : List (Bor (List ℕ) × code.TypeView) → List (List ℕ × TypeTree)
rows es = map (bound found_of) es

pub slot_put : (k : Bor (List ℕ)) (v : code.TypeView) (es new : List (Bor (List ℕ) × code.TypeView)) (ss : List SlotTree) (s : SlotTree)
    → length ss < 2 ^ 32 → rows es ≡ slot_rows 0 ss → k.now ≡ place_name (Slot (length ss)) → found_of v ≡ s.ty
    → new ≡ insert_entry (λ (x y : Bor (List ℕ)). bytes_eq x.now y.now) es k v → rows new ≡ slot_rows 0 (ss ++ s ∷ [])
slot_put k v es new ss s few before name type put =
    let free = ap₂ named before name ∙ slots_before 0 (length ss) ss (omega arith) (omega arith) in
    ap rows put ∙ row_put k v es free ∙ ap₂ (λ l x. l ++ (x, found_of v) ∷ []) before name
    ∙ ap (λ t. slot_rows 0 ss ++ (place_name (Slot (length ss)), t) ∷ []) type
    ∙ ap (λ n. slot_rows 0 ss ++ (place_name (Slot n), s.ty) ∷ []) (omega arith) ∙ sym (slots_last 0 ss s)

pub local_put : (k : Bor (List ℕ)) (v : code.TypeView) (es new : List (Bor (List ℕ) × code.TypeView)) (ss : List SlotTree) (ts : List TypeTree) (t : TypeTree)
    → length ts < 2 ^ 32 → rows es ≡ slot_rows 0 ss ++ local_rows 0 ts → k.now ≡ place_name (Local (length ts)) → found_of v ≡ t
    → new ≡ insert_entry (λ (x y : Bor (List ℕ)). bytes_eq x.now y.now) es k v → rows new ≡ slot_rows 0 ss ++ local_rows 0 (ts ++ t ∷ [])
local_put k v es new ss ts t few before name type put =
    let free =
    ap₂ named before name
    ∙ named_both (slot_rows 0 ss) (local_rows 0 ts) (place_name (Local (length ts))) (no_slot 0 (length ts) ss) (locals_before 0 (length ts) ts (omega arith) (omega arith)) in
    ap rows put ∙ row_put k v es free ∙ ap₂ (λ l x. l ++ (x, found_of v) ∷ []) before name
    ∙ ap (λ u. (slot_rows 0 ss ++ local_rows 0 ts) ++ (place_name (Local (length ts)), u) ∷ []) type
    ∙ append_assoc (slot_rows 0 ss) (local_rows 0 ts) ((place_name (Local (length ts)), t) ∷ [])
    ∙ ap (λ l. slot_rows 0 ss ++ l) (ap (λ n. local_rows 0 ts ++ (place_name (Local n), t) ∷ []) (omega arith) ∙ sym (locals_last 0 ts t))

-- so many of a list, seen one by one
so_many : {A B : Type 0} (f : A → B) (xs : List A) (n : ℕ) → n < length xs → length (map f (take n xs)) ≡ n
so_many f xs n lt = length-map (take n xs) f ∙ length-take-le n xs (omega arith)

last_of : {A B : Type 0} (f : A → B) (xs : List A) (n : ℕ) (x : A) → n < length xs → x ≡ get_or xs n x → map f (take n xs) ++ f x ∷ [] ≡ map f (take (n + 1) xs)
last_of f xs n x lt at = ap (λ y. map f (take n xs) ++ f y ∷ []) at ∙ sym (map_more f xs n x lt)

pub slot_step : (slots : List code_slot) (names : List (List ℕ)) (n : ℕ) (slot : code_slot) (k : Bor (List ℕ)) (v : code.TypeView) (es new : List (Bor (List ℕ) × code.TypeView))
    → length slots < 2 ^ 32 → n < length slots → n < length names → AreNames false names → slot ≡ get_or slots n slot → k.now ≡ get_or names n k.now
    → found_of v ≡ type_of slot.ty → new ≡ insert_entry (λ (x y : Bor (List ℕ)). bytes_eq x.now y.now) es k v
    → rows es ≡ slot_rows 0 (map slot_of (take n slots)) → rows new ≡ slot_rows 0 (map slot_of (take (n + 1) slots))
slot_step slots names n slot k v es new few lt has named at name type put before =
    let many = so_many slot_of slots n lt in
    let called = name ∙ get_or_from_slice_get names n (place_name (Slot n)) k.now (named n has) ∙ ap (λ m. place_name (Slot m)) (sym many) in
    slot_put k v es new (map slot_of (take n slots)) (slot_of slot) (omega (arith, many)) before called type put
    ∙ ap (slot_rows 0) (last_of slot_of slots n slot lt at)

pub local_step : (locals : List Ty) (names : List (List ℕ)) (n : ℕ) (ty : Ty) (k : Bor (List ℕ)) (v : code.TypeView) (first es new : List (Bor (List ℕ) × code.TypeView))
    → AreSlotRows (rows first) → length locals < 2 ^ 32 → n < length locals → n < length names → AreNames true names → ty ≡ get_or locals n ty → k.now ≡ get_or names n k.now
    → found_of v ≡ type_of ty → new ≡ insert_entry (λ (x y : Bor (List ℕ)). bytes_eq x.now y.now) es k v
    → rows es ≡ rows first ++ local_rows 0 (map type_of (take n locals)) → rows new ≡ rows first ++ local_rows 0 (map type_of (take (n + 1) locals))
local_step locals names n ty k v first es new slots few lt has named at name type put before =
    let many = so_many type_of locals n lt in
    let called = name ∙ get_or_from_slice_get names n (place_name (Local n)) k.now (named n has) ∙ ap (λ m. place_name (Local m)) (sym many) in
    let behind = ap (λ l. l ++ local_rows 0 (map type_of (take n locals))) slots.1 in
    local_put k v es new slots.0 (map type_of (take n locals)) (type_of ty) (omega (arith, many)) (before ∙ behind) called type put
    ∙ ap₂ (λ l ts. l ++ local_rows 0 ts) (sym slots.1) (last_of type_of locals n ty lt at)
