-- The variables in force have places in the class, of their types.
use Rattle.std.proofs.Common.{◌≡◌, ℕ, zero, suc, ◌+◌, ◌^◌, ◌<◌, ◌≤◌, Bool, true, false, ◌&&◌, ◌||◌, cond, List, [], ◌∷◌, ◌++◌, length, map, slice_get, position, if◌then◌else◌, refl, ap, sym, subst, ◌∙◌, arith}
use Rattle.std.specs.Str.{bytes_eq}
use Rattle.std.specs.Option.{option_map}
use Rattle.std.specs.List.{position_from}
use Rattle.std.proofs.lemmas.Iterator.Adapters.{position_from-zero}
use Rattle.std.specs.declared.option.Option.{Option}
use Rattle.std.specs.declared.option.Option.TheVariants.{None, Some}
use Rattle.flow_tree.specs.Tree.{TypeTree, ErrorType}
use Rattle.flow_tree.specs.Body.{IntoTree}
use Rattle.flow_tree.specs.Decls.{ParamTree, SlotTree}
use Rattle.flow_ast.specs.Slots.{param_slot}
use Rattle.flow_ast.specs.TypingNames.{named, constant_names, call_names}
use Rattle.flow_ast.specs.Typing.{or_else, is_there, is_packet}
use Rattle.flow_class.specs.declared.class.Slotted.{Slotted}
use Rattle.flow_class.specs.declared.class.Slotted.TheVariants as place
use Rattle.flow_class.specs.Places.{place_name, place_named}
use Rattle.flow_class.specs.Classes.{ClassTree}
use Rattle.flow_class.specs.Code.{type_at}
use Rattle.flow_class.specs.Scopes.{Scope, Var, find, slot_place, place_by, place_of}
use Rattle.flow_rules.specs.declared.rule.SemanticRule.TheVariants.{TakenName}
use Rattle.flow_rules.specs.Least.{lesser}
use Rattle.flow_rules.specs.Known.{field_row, is_predefined}
use Rattle.flow_rules.specs.Judged.{Setting}
use Rattle.flow_rules.specs.Items.{written, state_here, among, fresh, into_fault}
use Rattle.flow_rules.specs.Rules.{with_name, param_fault, params_fault}
use Rattle.flow_rules.proofs.Lesser.{no_first, no_second, holds}
use Rattle.flow_meaning.specs.Evaluating.{Names}
use Rattle.flow_meaning.specs.Carry.{DeclaredAs}
use Rattle.flow_split.specs.Lowered.{with_into}
use Rattle.flow_valid.specs.Validity.{slot_rows, local_rows}
use Rattle.flow_lowering_laws.proofs.Actors.Places.{slot_named, local_named, Placing}
use Rattle.flow_typing_laws.proofs.Typing.Names.{bytes_same, bytes_self, none_some, some_same}
use Rattle.flow_typing_laws.proofs.Typing.Agreement.{not_true, neither_left, neither_right}
use Rattle.flow_validity_laws.proofs.Naming.{constant_no_place}
use Rattle.flow_validity_laws.proofs.OverPlaces.{class_vars, Placed, Sees}

-- names of places differ where the places do
differ : (p q : Slotted) → place_named (place_name p) ≡ Some p → place_named (place_name q) ≡ Some q → (p ≡ q → ⊥) → bytes_eq (place_name p) (place_name q) ≡ false
differ p q e f n = by_name (bytes_eq (place_name p) (place_name q)) refl
  where
    by_name : (b : Bool) → bytes_eq (place_name p) (place_name q) ≡ b → b ≡ false
    by_name true h = absurd (n (some_same p q (sym e ∙ ap place_named (bytes_same (place_name p) (place_name q) h) ∙ f)))
    by_name false h = refl

number_in : Slotted → ℕ
number_in (place.Slot n) = n
number_in (place.Local n) = n

in_slot : Slotted → Bool
in_slot (place.Slot n) = true
in_slot (place.Local n) = false

slots_differ : (a b : ℕ) → b < a → a < 2 ^ 64 → bytes_eq (place_name (place.Slot a)) (place_name (place.Slot b)) ≡ false
unfolding number_in
slots_differ a b lt small = differ (place.Slot a) (place.Slot b) (slot_named a small) (slot_named b (omega arith)) (λ e. unlike (ap number_in e))
  where
    unlike : a ≡ b → ⊥
    unlike e = omega (arith, e)

locals_differ : (a b : ℕ) → b < a → a < 2 ^ 64 → bytes_eq (place_name (place.Local a)) (place_name (place.Local b)) ≡ false
unfolding number_in
locals_differ a b lt small = differ (place.Local a) (place.Local b) (local_named a small) (local_named b (omega arith)) (λ e. unlike (ap number_in e))
  where
    unlike : a ≡ b → ⊥
    unlike e = omega (arith, e)

kinds_differ : (a b : ℕ) → a < 2 ^ 64 → b < 2 ^ 64 → bytes_eq (place_name (place.Local a)) (place_name (place.Slot b)) ≡ false
unfolding in_slot
kinds_differ a b lt small = differ (place.Local a) (place.Slot b) (local_named a lt) (slot_named b small) (λ e. unlike (ap in_slot e))
  where
    unlike : false ≡ true → ⊥
    unlike e = cc

if_same : {A : Type 0} (b : Bool) (x y : A) → b ≡ true → (if b then x else y) ≡ x
if_same true x y e = refl
if_same false x y e = cc

if_other : {A : Type 0} (b : Bool) (x y : A) → b ≡ false → (if b then x else y) ≡ y
if_other true x y e = cc
if_other false x y e = refl

slot_found : (n k : ℕ) (ss : List SlotTree) (t : SlotTree) (rest : List (List ℕ × TypeTree)) → n + length ss ≤ 2 ^ 64 → k < length ss → slice_get ss k ≡ Some t
    → named (slot_rows n ss ++ rest) (place_name (place.Slot (n + k))) ≡ Some t.ty
slot_found n k [] t rest le lt e = absurd (none_some e)
slot_found n zero (s ∷ ss) t rest le lt e =
    if_same (bytes_eq (place_name (place.Slot (n + 0))) (place_name (place.Slot n))) (Some s.ty) _
    (ap (λ m. bytes_eq (place_name (place.Slot m)) (place_name (place.Slot n))) plus_zero ∙ bytes_self (place_name (place.Slot n)))
    ∙ ap (λ (u : SlotTree). Some u.ty) (some_same s t e)
  where
    plus_zero : n + 0 ≡ n
    plus_zero = omega arith
slot_found n (suc k) (s ∷ ss) t rest le lt e =
    if_other (bytes_eq (place_name (place.Slot (n + suc k))) (place_name (place.Slot n))) (Some s.ty) _ (slots_differ (n + suc k) n (omega arith) (omega (arith, le, lt)))
    ∙ ap (λ m. named (slot_rows (suc n) ss ++ rest) (place_name (place.Slot m))) plus_suc ∙ slot_found (suc n) k ss t rest (omega (arith, le)) (omega (arith, lt)) e
  where
    plus_suc : n + suc k ≡ suc n + k
    plus_suc = omega arith

slots_skipped : (n k : ℕ) (ss : List SlotTree) (rest : List (List ℕ × TypeTree)) → n + length ss ≤ 2 ^ 64 → k < 2 ^ 64
    → named (slot_rows n ss ++ rest) (place_name (place.Local k)) ≡ named rest (place_name (place.Local k))
slots_skipped n k [] rest le lt = refl
slots_skipped n k (s ∷ ss) rest le lt =
    if_other (bytes_eq (place_name (place.Local k)) (place_name (place.Slot n))) (Some s.ty) _ (kinds_differ k n lt (omega (arith, le))) ∙ slots_skipped (suc n) k ss rest (omega (arith, le)) lt

local_found : (n k : ℕ) (ts : List TypeTree) (t : TypeTree) → n + length ts ≤ 2 ^ 64 → k < length ts → slice_get ts k ≡ Some t → named (local_rows n ts) (place_name (place.Local (n + k))) ≡ Some t
local_found n k [] t le lt e = absurd (none_some e)
local_found n zero (s ∷ ts) t le lt e =
    if_same (bytes_eq (place_name (place.Local (n + 0))) (place_name (place.Local n))) (Some s) _
    (ap (λ m. bytes_eq (place_name (place.Local m)) (place_name (place.Local n))) plus_zero ∙ bytes_self (place_name (place.Local n))) ∙ e
  where
    plus_zero : n + 0 ≡ n
    plus_zero = omega arith
local_found n (suc k) (s ∷ ts) t le lt e =
    if_other (bytes_eq (place_name (place.Local (n + suc k))) (place_name (place.Local n))) (Some s) _ (locals_differ (n + suc k) n (omega arith) (omega (arith, le, lt)))
    ∙ ap (λ m. named (local_rows (suc n) ts) (place_name (place.Local m))) plus_suc ∙ local_found (suc n) k ts t (omega (arith, le)) (omega (arith, lt)) e
  where
    plus_suc : n + suc k ≡ suc n + k
    plus_suc = omega arith

pub named_append : {A : Type 0} (xs ys : List (List ℕ × A)) (x : List ℕ) → named (xs ++ ys) x ≡ or_else (named xs x) (named ys x)
named_append [] ys x = refl
named_append (r ∷ xs) ys x = by_name (bytes_eq x r.0) (named_append xs ys x)
  where
    by_name : (b : Bool) → named (xs ++ ys) x ≡ or_else (named xs x) (named ys x) → (if b then Some r.1 else named (xs ++ ys) x) ≡ or_else (if b then Some r.1 else named xs x) (named ys x)
    by_name true h = refl
    by_name false h = h

-- a place that is read back is no constant
pub no_constant : (q : Slotted) → place_named (place_name q) ≡ Some q → named constant_names (place_name q) ≡ None
no_constant q e = by_constant (named constant_names (place_name q)) refl
  where
    by_constant : (o : Option ℕ) → named constant_names (place_name q) ≡ o → o ≡ None
    by_constant None h = refl
    by_constant (Some n) h = absurd (none_some (sym (constant_no_place (place_name q) n h) ∙ e))

-- a new variable: its name is that of none in force, nor of a constant
pub record New (vs : List (List ℕ × TypeTree)) (x : List ℕ) : Type 0 where
  pub unknown : named vs x ≡ None
  pub plain : named constant_names x ≡ None

not_there : {A : Type 0} (o : Option A) → is_there o ≡ false → o ≡ None
not_there None h = refl
not_there (Some x) h = cc

plain_of : (x : List ℕ) → is_predefined x ≡ false → named constant_names x ≡ None
plain_of x h = not_there (named constant_names x) (neither_right (is_packet x || is_there (named call_names x)) (is_there (named constant_names x)) h)

pub is_new : (s : Setting) (states : List (List ℕ)) (state : Bool) (x : List ℕ) → fresh s states state x ≡ None → New s.vars x
is_new s states state x h =
    let a = is_there (named s.vars x) in
    let b = is_predefined x in
    let d = is_there (s.known x) in
    let n = not_true (a || b || d || (state && among states x)) (holds _ TakenName h) in
    let m = neither_left (a || b) d (neither_left (a || b || d) (state && among states x) n) in
    record { unknown = not_there (named s.vars x) (neither_left a b m); plain = plain_of x (neither_right a b m) }

pub new_into : (s : Setting) (states : List (List ℕ)) (i : IntoTree) → into_fault s states i ≡ None → New s.vars i.name.name
new_into s states i h =
    let f = fresh s states i.state i.name.name in
    is_new s states i.state i.name.name (no_second (state_here s i.state) f (no_second (written s i.ty) (lesser (state_here s i.state) f) h))

module _ (base : Setting) (ns : Names) (c : ClassTree) (few_slots : length c.slots < 2 ^ 64) (few_locals : length c.locals < 2 ^ 64) where
  abbrev vars_of_class : List (List ℕ × TypeTree)
  vars_of_class = class_vars base c

  by_slot : (n : ℕ) (t : TypeTree) (o : Option SlotTree) → slice_get c.slots n ≡ o → option_map (λ (s : SlotTree). s.ty) o ≡ Some t → n < length c.slots
      → named vars_of_class (place_name (place.Slot n)) ≡ Some t
  by_slot n t None e h lt = absurd (none_some h)
  by_slot n t (Some s) e h lt =
      ap (λ m. named vars_of_class (place_name (place.Slot m))) zero_plus ∙ slot_found 0 n c.slots s (local_rows 0 c.locals) (omega (arith, few_slots)) lt e ∙ h
    where
      zero_plus : n ≡ 0 + n
      zero_plus = omega arith

  there_within : {A : Type 0} (xs : List A) (n : ℕ) → is_there (slice_get xs n) ≡ true → n < length xs
  there_within [] n e = cc
  there_within (x ∷ xs) zero e = omega arith
  there_within (x ∷ xs) (suc n) e = omega (arith, there_within xs n e)

  typed_there : {A : Type 0} (f : A → TypeTree) (o : Option A) (t : TypeTree) → option_map f o ≡ Some t → is_there o ≡ true
  typed_there f None t e = absurd (none_some e)
  typed_there f (Some a) t e = refl

  -- a place of the class is a variable of its type
  pub class_var : (q : Slotted) (t : TypeTree) → type_at c q ≡ Some t → named vars_of_class (place_name q) ≡ Some t
  class_var (place.Slot n) t e = by_slot n t (slice_get c.slots n) refl e (there_within c.slots n (typed_there (λ (s : SlotTree). s.ty) (slice_get c.slots n) t e))
  class_var (place.Local n) t e =
      let lt = there_within c.locals n (ap (λ (o : Option TypeTree). is_there o) e) in
      slots_skipped 0 n c.slots (local_rows 0 c.locals) (omega (arith, few_slots)) (omega (arith, lt, few_locals)) ∙ ap (λ m. named (local_rows 0 c.locals) (place_name (place.Local m))) zero_plus
      ∙ local_found 0 n c.locals t (omega (arith, few_locals)) lt e
    where
      zero_plus : n ≡ 0 + n
      zero_plus = omega arith

  -- the scope with one more variable
  pub record Grows (s later : Scope) (x : List ℕ) (to : Slotted) : Type 0 where
    pub own : place_of c.slots later x ≡ Some to
    pub others : (y : List ℕ) → bytes_eq y x ≡ false → place_of c.slots later y ≡ place_of c.slots s y

  pub grows_local : (s : Scope) (x : List ℕ) (l : ℕ) → Grows s (Var x l ∷ s) x (place.Local l)
  grows_local s x l = record {
    own = ap (λ b. place_by (if b then Some l else find s x) (position (λ (t : SlotTree). bytes_eq x t.name) c.slots)) (bytes_self x);
    others = λ y e. ap (λ b. place_by (if b then Some l else find s y) (position (λ (t : SlotTree). bytes_eq y t.name) c.slots)) e;
  }

  pub grows_declared : (s later : Scope) (i : IntoTree) (to : Slotted) → DeclaredAs ns c s i to later → Grows s later i.name.name to
  grows_declared s later i (place.Slot n) d = record { own = ap (λ z. place_of c.slots z i.name.name) d.2 ∙ d.1; others = λ y e. ap (λ z. place_of c.slots z y) d.2 }
  grows_declared s later i (place.Local n) d = subst (λ z. Grows s z i.name.name (place.Local n)) (sym d.2) (grows_local s i.name.name n)

  -- what is in force with one more variable
  sees_grown : (vs : List (List ℕ × TypeTree)) (s later : Scope) (x : List ℕ) (t : TypeTree) (to : Slotted) → Sees base c vs s → New vs x → Grows s later x to → type_at c to ≡ Some t
      → place_named (place_name to) ≡ Some to
      → Sees base c (vs ++ (x, t) ∷ []) later
  sees_grown vs s later x t to sees new grows type read y u e = by_found (named vs y) refl (sym (named_append vs ((x, t) ∷ []) y) ∙ e)
    where
      old_name : (v : TypeTree) → named vs y ≡ Some v → bytes_eq y x ≡ false
      old_name v is = by_name (bytes_eq y x) refl
        where
          by_name : (b : Bool) → bytes_eq y x ≡ b → b ≡ false
          by_name true h = absurd (none_some (sym new.unknown ∙ ap (named vs) (sym (bytes_same y x h)) ∙ is))
          by_name false h = refl

      this_name : (b : Bool) → bytes_eq y x ≡ b → (if b then Some t else None) ≡ Some u → Placed base c later y u
      this_name false h k = absurd (none_some k)
      this_name true h k =
          let same : y ≡ x = bytes_same y x h in
          record {
            to = to;
            is = ap (place_of c.slots later) same ∙ grows.own;
            typed = class_var to t type ∙ k;
            plain = ap (named constant_names) same ∙ new.plain;
            variable = no_constant to read;
          }

      by_found : (o : Option TypeTree) → named vs y ≡ o → or_else o (named ((x, t) ∷ []) y) ≡ Some u → Placed base c later y u
      by_found (Some v) is k =
          let p = sees y u (is ∙ k) in
          record { to = p.to; is = grows.others y (old_name v is) ∙ p.is; typed = p.typed; plain = p.plain; variable = p.variable }
      by_found None is k = this_name (bytes_eq y x) refl k

  pub sees_into : (vs : List (List ℕ × TypeTree)) (s : Scope) (l : ℕ) (i : IntoTree) → Sees base c vs s → New vs i.name.name → Placing ns c few_slots few_locals s l i
      → Sees base c (vs ++ (i.name.name, i.ty) ∷ []) (with_into i l s)
  sees_into vs s l i sees new p = sees_grown vs s (with_into i l s) i.name.name i.ty p.to sees new (grows_declared s (with_into i l s) i p.to p.declared) p.type p.named

  pub sees_error : (vs : List (List ℕ × TypeTree)) (s : Scope) (l : ℕ) (x : List ℕ) → Sees base c vs s → New vs x → type_at c (place.Local l) ≡ Some ErrorType
      → Sees base c (vs ++ (x, ErrorType) ∷ []) (Var x l ∷ s)
  sees_error vs s l x sees new type =
      let lt = there_within c.locals l (ap (λ (o : Option TypeTree). is_there o) type) in
      sees_grown vs s (Var x l ∷ s) x ErrorType (place.Local l) sees new (grows_local s x l) type (local_named l (omega (arith, lt, few_locals)))

  -- parameters
  record FirstSlot (x : List ℕ) (t : TypeTree) (k many : ℕ) (ss : List SlotTree) : Type 0 where
    at : ℕ
    low : at < many
    is : position_from (λ (s : SlotTree). bytes_eq x s.name) k ss ≡ Some (k + at)
    typed : option_map (λ (s : SlotTree). s.ty) (slice_get ss at) ≡ Some t

  first_slot : (x : List ℕ) (t : TypeTree) (k : ℕ) (ps : List ParamTree) (ss : List SlotTree) → named (map field_row ps) x ≡ Some t → FirstSlot x t k (length ps) (map param_slot ps ++ ss)
  first_slot x t k [] ss e = absurd (none_some e)
  first_slot x t k (p ∷ ps) ss e = by_name (bytes_eq x p.name.name) refl e (first_slot x t (k + 1) ps ss)
    where
      plus_zero : k ≡ k + 0
      plus_zero = omega arith

      plus_suc : (n : ℕ) → k + 1 + n ≡ k + suc n
      plus_suc n = omega arith

      by_name : (b : Bool) → bytes_eq x p.name.name ≡ b → (if b then Some p.ty else named (map field_row ps) x) ≡ Some t
          → (named (map field_row ps) x ≡ Some t → FirstSlot x t (k + 1) (length ps) (map param_slot ps ++ ss))
          → FirstSlot x t k (suc (length ps)) (param_slot p ∷ (map param_slot ps ++ ss))
      by_name true h q f = record {
        at = 0;
        low = omega arith;
        is = ap (λ b. cond b (Some k) (position_from (λ (s : SlotTree). bytes_eq x s.name) (k + 1) (map param_slot ps ++ ss))) h
            ∙ ap Some plus_zero;
        typed = q;
      }
      by_name false h q f =
          let r = f q in
          record {
            at = suc r.at;
            low = (let l = r.low in omega (arith, l));
            is = ap (λ b. cond b (Some k) (position_from (λ (s : SlotTree). bytes_eq x s.name) (k + 1) (map param_slot ps ++ ss))) h ∙ r.is ∙ ap Some (plus_suc r.at);
            typed = r.typed;
          }

  params_plain : (s : Setting) (taken : List ℕ → Bool) (ps : List ParamTree) (x : List ℕ) (t : TypeTree) → params_fault s taken ps ≡ None → named (map field_row ps) x ≡ Some t
      → named constant_names x ≡ None
  params_plain s taken [] x t h e = absurd (none_some e)
  params_plain s taken (p ∷ ps) x t h e = by_name (bytes_eq x p.name.name) refl e
      (params_plain s (with_name p.name.name taken) ps x t (no_second (param_fault s taken p) (params_fault s (with_name p.name.name taken) ps) h))
    where
      own : named constant_names p.name.name ≡ None
      own =
          let f = no_second (written s p.ty) _ (no_first (param_fault s taken p) (params_fault s (with_name p.name.name taken) ps) h) in
          let n = not_true (taken p.name.name || is_predefined p.name.name || is_there (s.known p.name.name)) (holds _ TakenName f) in
          plain_of p.name.name (neither_right (taken p.name.name) (is_predefined p.name.name) (neither_left (taken p.name.name || is_predefined p.name.name) (is_there (s.known p.name.name)) n))

      by_name : (b : Bool) → bytes_eq x p.name.name ≡ b → (if b then Some p.ty else named (map field_row ps) x) ≡ Some t → (named (map field_row ps) x ≡ Some t → named constant_names x ≡ None)
          → named constant_names x ≡ None
      by_name true h k f = ap (named constant_names) (bytes_same x p.name.name h) ∙ own
      by_name false h k f = f k

  pub sees_params : (s : Setting) (ps : List ParamTree) (ss : List SlotTree) → c.slots ≡ map param_slot ps ++ ss → params_fault s (λ x. false) ps ≡ None → Sees base c (map field_row ps) []
  sees_params s ps ss same h x t e =
      let f = first_slot x t 0 ps ss e in
      let zero_plus : 0 + f.at ≡ f.at = omega arith in
      let to = place.Slot f.at in
      let typed : type_at c to ≡ Some t = ap (λ l. option_map (λ (u : SlotTree). u.ty) (slice_get l f.at)) same ∙ f.typed in
      let within = there_within c.slots f.at (typed_there (λ (u : SlotTree). u.ty) (slice_get c.slots f.at) t typed) in
      let at : position (λ (u : SlotTree). bytes_eq x u.name) c.slots ≡ Some f.at =
      ap (position (λ (u : SlotTree). bytes_eq x u.name)) same ∙ position_from-zero (λ (u : SlotTree). bytes_eq x u.name) (map param_slot ps ++ ss) ∙ f.is ∙ ap Some zero_plus in
      record {
        to = to;
        is = ap slot_place at;
        typed = class_var to t typed;
        plain = params_plain s (λ y. false) ps x t h e;
        variable = no_constant to (slot_named f.at (omega (arith, within, few_slots)));
      }

  -- where a parameter stands
  pub record ParamAt (many : ℕ) (x : List ℕ) : Type 0 where
    pub at : ℕ
    pub low : at < many
    pub is : place_of c.slots [] x ≡ Some (place.Slot at)
    pub read : place_named (place_name (place.Slot at)) ≡ Some (place.Slot at)

  pub param_at : (ps : List ParamTree) (ss : List SlotTree) → c.slots ≡ map param_slot ps ++ ss → (x : List ℕ) (t : TypeTree) → named (map field_row ps) x ≡ Some t → ParamAt (length ps) x
  param_at ps ss same x t e =
      let f = first_slot x t 0 ps ss e in
      let zero_plus : 0 + f.at ≡ f.at = omega arith in
      let to = place.Slot f.at in
      let typed : type_at c to ≡ Some t = ap (λ l. option_map (λ (u : SlotTree). u.ty) (slice_get l f.at)) same ∙ f.typed in
      let within = there_within c.slots f.at (typed_there (λ (u : SlotTree). u.ty) (slice_get c.slots f.at) t typed) in
      let at : position (λ (u : SlotTree). bytes_eq x u.name) c.slots ≡ Some f.at =
      ap (position (λ (u : SlotTree). bytes_eq x u.name)) same ∙ position_from-zero (λ (u : SlotTree). bytes_eq x u.name) (map param_slot ps ++ ss) ∙ f.is ∙ ap Some zero_plus in
      record { at = f.at; low = f.low; is = ap slot_place at; read = slot_named f.at (omega (arith, within, few_slots)) }
