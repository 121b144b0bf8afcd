-- The places of a class are its variables.
use Rattle.std.proofs.Common.{◌≡◌, ◌<◌, ◌^◌, ℕ, zero, suc, ◌+◌, Bool, true, false, cond, List, [], ◌∷◌, ◌++◌, map, length, ◌⊎◌, inl, inr, refl, sym, ap, ◌∙◌, arith}
use Rattle.std.specs.Prelude.{slice_get}
use Rattle.std.specs.Str.{bytes_eq}
use Rattle.std.specs.Option.{option_map}
use Rattle.std.specs.declared.option.Option.TheVariants.{Some}
use Rattle.flow_tree.specs.Tree.{TypeTree}
use Rattle.flow_tree.specs.Decls.{ParamTree, SlotTree}
use Rattle.flow_ast.specs.Typing.{param_named}
use Rattle.flow_rules.specs.Known.{field_row}
use Rattle.flow_rules.specs.Rules.{setting_of}
use Rattle.flow_class.specs.declared.class.Slotted.{Slotted}
use Rattle.flow_class.specs.declared.class.Slotted.TheVariants.{Slot, Local}
use Rattle.flow_class.specs.Places.{place_name, place_named}
use Rattle.flow_class.specs.Classes.{ClassTree, RawTree}
use Rattle.flow_class.specs.Code.{type_at}
use Rattle.flow_valid.specs.Heads.{ident, all_decls}
use Rattle.flow_valid.specs.Validity.{slot_rows, local_rows, class_setting}
use Rattle.flow_typing_laws.specs.Typing.Scopes.{setting_in}
use Rattle.flow_typing_laws.proofs.Typing.Names.{bytes_same, none_some, some_same}
use Rattle.flow_progress.specs.Places.{slot_vars, local_vars, class_vars, AreNamed}
use Rattle.flow_progress.specs.Written.{IsWritten}
use Rattle.flow_class.proofs.Numbers.{place_back}

record FoundSlot (n : ℕ) (ss : List SlotTree) (x : List ℕ) (p : ParamTree) : Type 0 where
  at : ℕ
  slot : SlotTree
  name : x ≡ place_name (Slot (n + at))
  is : slice_get ss at ≡ Some slot
  type : p.ty ≡ slot.ty

record FoundLocal (n : ℕ) (ts : List TypeTree) (x : List ℕ) (p : ParamTree) : Type 0 where
  at : ℕ
  name : x ≡ place_name (Local (n + at))
  is : slice_get ts at ≡ Some p.ty

slot_later : (n : ℕ) (s : SlotTree) (ss : List SlotTree) (x : List ℕ) (p : ParamTree) → FoundSlot (suc n) ss x p → FoundSlot n (s ∷ ss) x p
slot_later n s ss x p h =
    let e : suc n + h.at ≡ n + suc h.at = omega arith in
    record { at = suc h.at; slot = h.slot; name = h.name ∙ ap (λ k. place_name (Slot k)) e; is = h.is; type = h.type }

slot_found : (n : ℕ) (ss : List SlotTree) (rest : List ParamTree) (x : List ℕ) (p : ParamTree) → param_named (slot_vars n ss ++ rest) x ≡ Some p → FoundSlot n ss x p ⊎ (param_named rest x ≡ Some p)
slot_found n [] rest x p e = inr e
slot_found n (s ∷ ss) rest x p e = by_test (bytes_eq (place_name (Slot n)) x) refl e (slot_found (suc n) ss rest x p)
  where
    var : ParamTree
    var = record { ty = s.ty; name = ident (place_name (Slot n)) }

    by_test : (b : Bool) → bytes_eq (place_name (Slot n)) x ≡ b → cond b (Some var) (param_named (slot_vars (suc n) ss ++ rest) x) ≡ Some p
        → (param_named (slot_vars (suc n) ss ++ rest) x ≡ Some p → FoundSlot (suc n) ss x p ⊎ (param_named rest x ≡ Some p)) → FoundSlot n (s ∷ ss) x p ⊎ (param_named rest x ≡ Some p)
    by_test true q e f =
        let z : n ≡ n + 0 = omega arith in
        inl (record { at = 0; slot = s; name = sym (bytes_same (place_name (Slot n)) x q) ∙ ap (λ k. place_name (Slot k)) z; is = refl; type = ap (λ (v : ParamTree). v.ty) (sym (some_same var p e)) })
    by_test false q e f = either (f e)
      where
        either : FoundSlot (suc n) ss x p ⊎ (param_named rest x ≡ Some p) → FoundSlot n (s ∷ ss) x p ⊎ (param_named rest x ≡ Some p)
        either (inl h) = inl (slot_later n s ss x p h)
        either (inr h) = inr h

local_found : (n : ℕ) (ts : List TypeTree) (x : List ℕ) (p : ParamTree) → param_named (local_vars n ts) x ≡ Some p → FoundLocal n ts x p
local_found n [] x p e = absurd (none_some e)
local_found n (t ∷ ts) x p e = by_test (bytes_eq (place_name (Local n)) x) refl e (local_found (suc n) ts x p)
  where
    var : ParamTree
    var = record { ty = t; name = ident (place_name (Local n)) }

    by_test : (b : Bool) → bytes_eq (place_name (Local n)) x ≡ b → cond b (Some var) (param_named (local_vars (suc n) ts) x) ≡ Some p
        → (param_named (local_vars (suc n) ts) x ≡ Some p → FoundLocal (suc n) ts x p) → FoundLocal n (t ∷ ts) x p
    by_test true q e f =
        let z : n ≡ n + 0 = omega arith in
        record { at = 0; name = sym (bytes_same (place_name (Local n)) x q) ∙ ap (λ k. place_name (Local k)) z; is = ap (λ (v : ParamTree). Some v.ty) (some_same var p e) }
    by_test false q e f =
        let h = f e in
        let z : suc n + h.at ≡ n + suc h.at = omega arith in
        record { at = suc h.at; name = h.name ∙ ap (λ k. place_name (Local k)) z; is = h.is }

-- a thing that is there has a number below the length
pub below_length : {A : Type 0} (xs : List A) (n : ℕ) (x : A) → slice_get xs n ≡ Some x → n < length xs
below_length [] n x e = absurd (none_some e)
below_length (y ∷ ys) zero x e = omega arith
below_length (y ∷ ys) (suc n) x e = let h = below_length ys n x e in omega (arith, h)

pub are_named : (c : ClassTree) → IsWritten c → AreNamed c (class_vars c)
are_named c w x p e = go (slot_found 0 c.slots (local_vars 0 c.locals) x p e)
  where
    go : FoundSlot 0 c.slots x p ⊎ (param_named (local_vars 0 c.locals) x ≡ Some p) → (q : Slotted) × (place_named x ≡ Some q) × (type_at c q ≡ Some p.ty)
    go (inl h) =
        let b = below_length c.slots h.at h.slot h.is in
        let small : 0 + h.at < 2 ^ 64 = let l = w.slots in omega (arith, b, l) in
        let z : 0 + h.at ≡ h.at = omega arith in (
          Slot (0 + h.at),
          ap place_named h.name ∙ place_back (Slot (0 + h.at)) small,
          ap (λ k. option_map (λ (s : SlotTree). s.ty) (slice_get c.slots k)) z
              ∙ ap (option_map (λ (s : SlotTree). s.ty)) h.is ∙ ap Some (sym h.type),
        )
    go (inr f) =
        let h = local_found 0 c.locals x p f in
        let b = below_length c.locals h.at p.ty h.is in
        let small : 0 + h.at < 2 ^ 64 = let l = w.locals in omega (arith, b, l) in
        let z : 0 + h.at ≡ h.at = omega arith in
        (Local (0 + h.at), ap place_named h.name ∙ place_back (Local (0 + h.at)) small, ap (slice_get c.locals) z ∙ h.is)

-- the setting of a class
slot_rows_same : (n : ℕ) (ss : List SlotTree) (rest : List ParamTree) → map field_row (slot_vars n ss ++ rest) ≡ slot_rows n ss ++ map field_row rest
slot_rows_same n [] rest = refl
slot_rows_same n (s ∷ ss) rest = ap (λ l. (place_name (Slot n), s.ty) ∷ l) (slot_rows_same (suc n) ss rest)

local_rows_same : (n : ℕ) (ts : List TypeTree) → map field_row (local_vars n ts) ≡ local_rows n ts
local_rows_same n [] = refl
local_rows_same n (t ∷ ts) = ap (λ l. (place_name (Local n), t) ∷ l) (local_rows_same (suc n) ts)

pub same_setting : (r : RawTree) (c : ClassTree) → class_setting r c ≡ setting_in (all_decls r) false (class_vars c)
same_setting r c =
    ap (λ (vs : List (List ℕ × TypeTree)). record (setting_of (all_decls r) false) { vars = vs })
    (sym (slot_rows_same 0 c.slots (local_vars 0 c.locals) ∙ ap (λ l. slot_rows 0 c.slots ++ l) (local_rows_same 0 c.locals)))
