-- A declared variable has a place: the next local, or its slot.
use Rattle.std.proofs.Common.{◌≡◌, ℕ, ◌^◌, ◌<◌, Bool, true, false, not, List, [], ◌∷◌, length, slice_get, position, if◌then◌else◌, refl, ap, ◌∙◌, arith}
use Rattle.std.specs.Str.{bytes_eq}
use Rattle.std.specs.Option.{option_map, option_and_then}
use Rattle.std.proofs.lemmas.Option.{slice_get_within}
use Rattle.std.specs.declared.option.Option.{Option}
use Rattle.std.specs.declared.option.Option.TheVariants.{None, Some}
use Rattle.flow_tree.specs.Body.{IntoTree}
use Rattle.flow_tree.specs.Decls.{SlotTree}
use Rattle.flow_class.specs.declared.class.Slotted.{Slotted}
use Rattle.flow_class.specs.declared.class.Slotted.TheVariants as place
use Rattle.flow_class.specs.Classes.{ClassTree}
use Rattle.flow_class.specs.Code.{type_at}
use Rattle.flow_class.specs.Places.{place_name, place_named}
use Rattle.flow_class.proofs.Numbers.{place_back}
use Rattle.flow_class.specs.Scopes.{Scope, Mark, Var, find, Above, place_of}
use Rattle.flow_class.specs.Scopes as scopes
use Rattle.flow_layout.specs.Locals.{declared_locals}
use Rattle.flow_meaning.specs.Evaluating.{Names}
use Rattle.flow_meaning.specs.Carry.{DeclaredAs}
use Rattle.flow_split.specs.Lowered.{with_local, with_into, place_by, place_in}
use Rattle.flow_lowering_laws.specs.Actors.InPlace.{NotAmong, naming_if, HasSlot, MayDeclare}
use Rattle.flow_lowering_laws.proofs.Actors.Standing.{LocalsAt}

-- the name of a place is read as that place
pub slot_named : (n : ℕ) → n < 2 ^ 64 → place_named (place_name (place.Slot n)) ≡ Some (place.Slot n)
slot_named n lt = place_back (place.Slot n) lt

pub local_named : (n : ℕ) → n < 2 ^ 64 → place_named (place_name (place.Local n)) ≡ Some (place.Local n)
local_named n lt = place_back (place.Local n) lt

-- the names of the locals in force
abbrev pub names : Scope → List (List ℕ)
names [] = []
names (Mark ∷ s) = names s
names (Var x n ∷ s) = x ∷ names s

pub names_with : (b : Bool) (x : List ℕ) (l : ℕ) (s : Scope) → names (with_local b x l s) ≡ naming_if b x (names s)
names_with true x l s = refl
names_with false x l s = refl

not_found : (s : Scope) (x : List ℕ) → NotAmong (names s) x → find s x ≡ None
not_found [] x h = refl
not_found (Mark ∷ s) x h = not_found s x h
not_found (Var y n ∷ s) x h = ap (λ b. if b then Some n else find s x) h.0 ∙ not_found s x h.1

module _ (ns : Names) (c : ClassTree) (few_slots : length c.slots < 2 ^ 64) (few_locals : length c.locals < 2 ^ 64) where
  -- the place of a declared variable
  pub record Placing (s : Scope) (l : ℕ) (i : IntoTree) : Type 0 where
    pub to : Slotted
    pub is : place_in ns c.slots i l s ≡ Some to
    pub declared : DeclaredAs ns c s i to (with_into i l s)
    pub type : type_at c to ≡ Some i.ty
    pub named : place_named (place_name to) ≡ Some to

  -- the first slot of its name
  record Found (x : List ℕ) (t : SlotTree) : Type 0 where
    at : ℕ
    is : position (λ (u : SlotTree). bytes_eq x u.name) c.slots ≡ Some at
    slot : slice_get c.slots at ≡ Some t

  found_by : (x : List ℕ) (t : SlotTree) (o : Option ℕ) → position (λ (u : SlotTree). bytes_eq x u.name) c.slots ≡ o → option_and_then (slice_get c.slots) o ≡ Some t → Found x t
  found_by x t None e h = absurd (no_some h)
    where
      no_some : {t : SlotTree} → None ≡ Some t → ⊥
      no_some h = cc
  found_by x t (Some n) e h = record { at = n; is = e; slot = h }

  placing_state : (s : Scope) (l : ℕ) (i : IntoTree) → i.state ≡ true → HasSlot c.slots (names s) i → Placing s l i
  placing_state s l i e h =
      let f = found_by i.name.name _ (position (λ (u : SlotTree). bytes_eq i.name.name u.name) c.slots) refl h.slot in
      let is : place_of c.slots s i.name.name ≡ Some (place.Slot f.at) =
      ap (λ o. scopes.place_by o (position (λ (u : SlotTree). bytes_eq i.name.name u.name) c.slots)) (not_found s i.name.name h.apart) ∙ ap scopes.slot_place f.is in
      let lt : f.at < 2 ^ 64 = omega (arith, slice_get_within c.slots f.at _ f.slot, few_slots) in
      record {
        to = place.Slot f.at;
        is = ap (λ b. place_by ns c.slots b i.name.name l s) e ∙ is;
        declared = (e, is, ap (λ b. with_local b i.name.name l s) e);
        type = ap (option_map (λ (t : SlotTree). t.ty)) f.slot;
        named = slot_named f.at lt;
      }

  placing_local : (s : Scope) (l : ℕ) (i : IntoTree) → i.state ≡ false → Above l s → slice_get c.locals l ≡ Some i.ty → Placing s l i
  placing_local s l i e a h =
      let within = slice_get_within c.locals l _ h in
      let lt : l < 2 ^ 64 = omega (arith, within, few_locals) in
      record {
        to = place.Local l;
        is = ap (λ b. place_by ns c.slots b i.name.name l s) e;
        declared = (e, (within, a), ap (λ b. with_local b i.name.name l s) e);
        type = h;
        named = local_named l lt;
      }

  placing_if : (b : Bool) (s : Scope) (l : ℕ) (i : IntoTree) → i.state ≡ b → Above l s → LocalsAt ns c l (if b then [] else i.ty ∷ []) → MayDeclare c.slots (names s) i → Placing s l i
  placing_if true s l i e a h m = placing_state s l i e (m e)
  placing_if false s l i e a h m = placing_local s l i e a h.0

  pub placing : (s : Scope) (l : ℕ) (i : IntoTree) → Above l s → LocalsAt ns c l (declared_locals i) → MayDeclare c.slots (names s) i → Placing s l i
  placing s l i a h m = placing_if i.state s l i refl a h m
