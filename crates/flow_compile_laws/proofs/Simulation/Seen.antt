-- The variables of a frame after each kind of write, and what stays true of its memory.
use Rattle.std.proofs.Common.{◌≡◌, ◌≢◌, ℕ, suc, ◌<◌, ◌^◌, Bool, true, false, List, [], ◌∷◌, ◌++◌, length, refl, sym, ap, ap₂, subst, ◌∙◌, arith, if◌then◌else◌}
use Rattle.std.specs.Prelude.{position, slice_set, option_map, cond, not, nat_lt, ◌+◌}
use Rattle.std.specs.List.{position_or_len}
use Rattle.std.specs.Str.{bytes_eq}
use Rattle.std.specs.declared.option.Option.{Option}
use Rattle.std.specs.declared.option.Option.TheVariants.{None, Some}
use Rattle.flow_tree.specs.Decls.{SlotTree}
use Rattle.flow_ast.specs.TypingNames.{named}
use Rattle.flow_value.specs.Values.{ValueTree}
use Rattle.flow_class.specs.declared.class.Slotted.{Slotted}
use Rattle.flow_class.specs.declared.class.Slotted.TheVariants as place
use Rattle.flow_class.specs.Classes.{ClassTree}
use Rattle.flow_class.specs.Scopes.{Local, Mark, Var, find, scope, all_locals, outside, Scope, Above, place_by, place_of}
use Rattle.flow_meaning.specs.Variables.{Vars, flat, filled, backwards, set_local, set_state, set_found, set_var, place_in, look, or_else}
use Rattle.flow_meaning.specs.Variables as source
use Rattle.flow_meaning.specs.Frame.{Memory, read, write, held_in, reversed, emptied, all_emptied}
use Rattle.flow_compile_laws.specs.Simulation.Memories.{seen, slots_seen, vars_of, Falling, NotIn, Held}
use Rattle.flow_compile_laws.proofs.Simulation.Lists.{at_number, at_numbers, at-set_same, at-set_other, length-slice_set, not_both, falling_first, falling_rest, falling_out, below_out, AllOut, all_filled}
use Rattle.flow_compile_laws.proofs.Simulation.Memory.{local, without, emptied_or, emptied_slots, emptied_length, blank, length-blanks, covers_all, covered_values}
use Rattle.flow_class.proofs.Numbers.{IsSmall}

-- Locals in force

-- the locals in force are those of the innermost scope and those outside
pub locals_parts : (s : Scope) → all_locals s ≡ scope s ++ all_locals (outside s)
locals_parts [] = refl
locals_parts (Mark ∷ s) = refl
locals_parts (Var x n ∷ s) = ap (λ l. n ∷ l) (locals_parts s)

pub seen_scope : (m : Memory) (s : Scope) → scope (seen m s) ≡ at_numbers m.locals (scope s)
seen_scope m [] = refl
seen_scope m (Mark ∷ s) = refl
seen_scope m (Var x n ∷ s) = ap (λ l. local m n ∷ l) (seen_scope m s)

pub seen_locals : (m : Memory) (s : Scope) → all_locals (seen m s) ≡ at_numbers m.locals (all_locals s)
seen_locals m [] = refl
seen_locals m (Mark ∷ s) = seen_locals m s
seen_locals m (Var x n ∷ s) = ap (λ l. local m n ∷ l) (seen_locals m s)

pub seen_outside : (m : Memory) (s : Scope) → outside (seen m s) ≡ seen m (outside s)
seen_outside m [] = refl
seen_outside m (Mark ∷ s) = refl
seen_outside m (Var x n ∷ s) = seen_outside m s

-- memories with equal locals at these numbers
abbrev pub Agree : Memory → Memory → List ℕ → Type 0
Agree m k [] = Unit {0}
Agree m k (n ∷ ns) = (local m n ≡ local k n) × Agree m k ns

pub agree_over : (m k l : Memory) (ns : List ℕ) → Agree m k ns → Agree k l ns → Agree m l ns
agree_over m k l [] a b = tt
agree_over m k l (n ∷ ns) a b = (a.0 ∙ b.0, agree_over m k l ns a.1 b.1)

pub agree_back : (m k : Memory) (ns : List ℕ) → Agree m k ns → Agree k m ns
agree_back m k [] a = tt
agree_back m k (n ∷ ns) a = (sym a.0, agree_back m k ns a.1)

pub agree_slot : (m : Memory) (n : ℕ) (o : Option ValueTree) (ns : List ℕ) → Agree (write m (place.Slot n) o) m ns
agree_slot m n o [] = tt
agree_slot m n o (k ∷ ns) = (refl, agree_slot m n o ns)

pub agree_written : (m : Memory) (n : ℕ) (o : Option ValueTree) (ns : List ℕ) → NotIn n ns → Agree (write m (place.Local n) o) m ns
agree_written m n o [] h = tt
agree_written m n o (k ∷ ns) h = (at-set_other m.locals n k o (λ e. h.0 (sym e)), agree_written m n o ns h.1)

pub agree_emptied : (ds : List ℕ) (m : Memory) (ns : List ℕ) → AllOut ds ns → Agree (emptied ds m) m ns
agree_emptied [] m ns h = agree_refl ns
  where
    agree_refl : (ns : List ℕ) → Agree m m ns
    agree_refl [] = tt
    agree_refl (n ∷ ns) = (refl, agree_refl ns)
agree_emptied (d ∷ ds) m ns h = agree_over (emptied ds (without m d)) (without m d) m ns (agree_emptied ds (without m d) ns h.1) (agree_written m d None ns h.0)

var_same : {x : List ℕ} {a b : Option ValueTree} {es fs : List (Local (Option ValueTree))} → a ≡ b → es ≡ fs → Var x a ∷ es ≡ Var x b ∷ fs
var_same p q = cc

pub seen_same : (m k : Memory) (s : Scope) → Agree m k (all_locals s) → seen m s ≡ seen k s
seen_same m k [] h = refl
seen_same m k (Mark ∷ s) h = ap (λ l. Mark ∷ l) (seen_same m k s h)
seen_same m k (Var x n ∷ s) h = var_same h.0 (seen_same m k s h.1)

-- a local by name
pub seen_found : (m : Memory) (s : Scope) (x : List ℕ) → find (seen m s) x ≡ option_map (local m) (find s x)
seen_found m [] x = refl
seen_found m (Mark ∷ s) x = seen_found m s x
seen_found m (Var y n ∷ s) x = by_test (bytes_eq x y) (find s x) (find (seen m s) x) (seen_found m s x)
  where
    by_test : (b : Bool) (o : Option ℕ) (q : Option (Option ValueTree)) → q ≡ option_map (local m) o → (if b then Some (local m n) else q) ≡ option_map (local m) (if b then Some n else o)
    by_test true o q h = refl
    by_test false o q h = h

-- the number of a local that was found is below the top, and no number outside
pub found_below : (s : Scope) (x : List ℕ) (n top : ℕ) → find s x ≡ Some n → Falling top (all_locals s) → n < top
found_below [] x n top e f = cc
found_below (Mark ∷ s) x n top e f = found_below s x n top e f
found_below (Var y k ∷ s) x n top e f = by_test (bytes_eq x y) (find s x) (λ g. found_below s x n k g f.1) e
  where
    by_test : (b : Bool) (o : Option ℕ) → (o ≡ Some n → n < k) → (if b then Some k else o) ≡ Some n → n < top
    by_test true o h e = let same : k ≡ n = cc in omega (arith, f.0)
    by_test false o h e = omega (arith, h e, f.0)

pub found_in : (s : Scope) (x : List ℕ) (n k : ℕ) → find s x ≡ Some n → NotIn k (all_locals s) → k ≢ n
found_in [] x n k e h = cc
found_in (Mark ∷ s) x n k e h = found_in s x n k e h
found_in (Var y i ∷ s) x n k e h = by_test (bytes_eq x y) (find s x) (λ g. found_in s x n k g h.1) e
  where
    by_test : (b : Bool) (o : Option ℕ) → (o ≡ Some n → k ≢ n) → (if b then Some i else o) ≡ Some n → k ≢ n
    by_test true o g e = λ same. h.0 (cc)
    by_test false o g e = g e

-- a local gets a value
pub seen_set : (m : Memory) (s : Scope) (x : List ℕ) (n top : ℕ) (v : ValueTree) → n < length m.locals → Falling top (all_locals s) → find s x ≡ Some n
    → set_local (seen m s) x (Some v) ≡ seen (write m (place.Local n) (Some v)) s
seen_set m [] x n top v lt f e = cc
seen_set m (Mark ∷ s) x n top v lt f e = ap (λ l. Mark ∷ l) (seen_set m s x n top v lt f e)
seen_set m (Var y k ∷ s) x n top v lt f e = by_test (bytes_eq x y) (find s x) (set_local (seen m s) x (Some v)) (λ g. seen_set m s x n k v lt f.1 g) (λ g. found_below s x n k g f.1) e
  where
    w : Memory
    w = write m (place.Local n) (Some v)

    by_test : (b : Bool) (o : Option ℕ) (q : List (Local (Option ValueTree))) → (o ≡ Some n → q ≡ seen w s) → (o ≡ Some n → n < k) → (if b then Some k else o) ≡ Some n
        → (if b then Var y (Some v) ∷ seen m s else Var y (local m k) ∷ q) ≡ seen w (Var y k ∷ s)
    by_test true o q h below e =
        let same : k ≡ n = cc in
        var_same (sym (at-set_same m.locals n (Some v) lt) ∙ ap (local w) (sym same))
        (seen_same m w s (agree_back w m (all_locals s) (agree_written m n (Some v) (all_locals s) (below_out n (all_locals s) (subst (λ j. Falling j (all_locals s)) same f.1)))))
    by_test false o q h below e = var_same (sym (at-set_other m.locals n k (Some v) (λ i. absurd (omega (arith, below e))))) (h e)

-- a new local
pub seen_new : (m : Memory) (s : Scope) (x : List ℕ) (n : ℕ) (v : ValueTree) → n < length m.locals → NotIn n (all_locals s)
    → seen (write m (place.Local n) (Some v)) (Var x n ∷ s) ≡ Var x (Some v) ∷ seen m s
seen_new m s x n v lt h =
    var_same (at-set_same m.locals n (Some v) lt) (seen_same (write m (place.Local n) (Some v)) m s (agree_written m n (Some v) (all_locals s) h))

-- all locals are emptied
pub seen_lost : (m : Memory) (s : Scope) → source.emptied (seen m s) ≡ seen (all_emptied m) s
seen_lost m [] = refl
seen_lost m (Mark ∷ s) = ap (λ l. Mark ∷ l) (seen_lost m s)
seen_lost m (Var x n ∷ s) = var_same (sym (blank m.locals n)) (seen_lost m s)

-- State variables
position_step : (p : SlotTree → Bool) (t : SlotTree) (ts : List SlotTree) → position p (t ∷ ts) ≡ (if p t then Some 0 else option_map suc (position p ts))
position_step p t ts = step (p t) (position_or_len p ts) (length ts)
  where
    found : ℕ → ℕ → Option ℕ
    found k l = cond (nat_lt k l) (Some k) None

    step : (b : Bool) (k l : ℕ) → cond (nat_lt (cond (not b) (1 + k) 0) (suc l)) (Some (cond (not b) (1 + k) 0)) None ≡ (if b then Some 0 else option_map suc (cond (nat_lt k l) (Some k) None))
    step true k l = grind arith
    step false k l = grind arith

position_within : (p : SlotTree → Bool) (ts : List SlotTree) (k : ℕ) → position p ts ≡ Some k → k < length ts
position_within p [] k e = cc
position_within p (t ∷ ts) k e = by_test (p t) (position p ts) k (λ j g. position_within p ts j g) (sym (position_step p t ts) ∙ e)
  where
    by_test : (b : Bool) (o : Option ℕ) (k : ℕ) → ((j : ℕ) → o ≡ Some j → j < length ts) → (if b then Some 0 else option_map suc o) ≡ Some k → k < suc (length ts)
    by_test true o k h e = let same : 0 ≡ k = cc in omega arith
    by_test false None k h e = cc
    by_test false (Some j) k h e = let same : suc j ≡ k = cc in omega (arith, h j refl)

abbrev is_slot : List ℕ → SlotTree → Bool
is_slot x t = bytes_eq x t.name

-- the slot of a name, and what stands there
pub slot_found : (ts : List SlotTree) (os : List (Option ValueTree)) (x : List ℕ) → length os ≡ length ts
    → named (slots_seen ts os) x ≡ option_map (at_number os) (position (λ (t : SlotTree). bytes_eq x t.name) ts)
slot_found [] os x h = refl
slot_found (t ∷ ts) [] x h = cc
slot_found (t ∷ ts) (o ∷ os) x h =
    by_test (bytes_eq x t.name) (position (is_slot x) ts) (named (slots_seen ts os) x) (slot_found ts os x (omega arith))
    ∙ ap (option_map (at_number (o ∷ os))) (sym (position_step (is_slot x) t ts))
  where
    by_test : (b : Bool) (q : Option ℕ) (r : Option (Option ValueTree)) → r ≡ option_map (at_number os) q
        → (if b then Some o else r) ≡ option_map (at_number (o ∷ os)) (if b then Some 0 else option_map suc q)
    by_test true q r h = refl
    by_test false None r h = h
    by_test false (Some k) r h = h

-- a state variable gets a value
pub slot_set : (ts : List SlotTree) (os : List (Option ValueTree)) (x : List ℕ) (k : ℕ) (v : ValueTree) → length os ≡ length ts
    → position (λ (t : SlotTree). bytes_eq x t.name) ts ≡ Some k → set_state (slots_seen ts os) x (Some v) ≡ slots_seen ts (slice_set os k (Some v))
slot_set [] os x k v h e = cc
slot_set (t ∷ ts) [] x k v h e = cc
slot_set (t ∷ ts) (o ∷ os) x k v h e =
    by_test (bytes_eq x t.name) (position (is_slot x) ts) (set_state (slots_seen ts os) x (Some v)) k (λ j g. slot_set ts os x j v (omega arith) g)
    (sym (position_step (is_slot x) t ts) ∙ e)
  where
    by_test : (b : Bool) (q : Option ℕ) (r : List (List ℕ × Option ValueTree)) (k : ℕ) → ((j : ℕ) → q ≡ Some j → r ≡ slots_seen ts (slice_set os j (Some v)))
        → (if b then Some 0 else option_map suc q) ≡ Some k → (if b then (t.name, Some v) ∷ slots_seen ts os else (t.name, o) ∷ r) ≡ slots_seen (t ∷ ts) (slice_set (o ∷ os) k (Some v))
    by_test true q r k h e =
        let same : 0 ≡ k = cc in
        subst (λ j. (t.name, Some v) ∷ slots_seen ts os ≡ slots_seen (t ∷ ts) (slice_set (o ∷ os) j (Some v))) same refl
    by_test false None r k h e = cc
    by_test false (Some j) r k h e =
        let same : suc j ≡ k = cc in
        subst (λ i. (t.name, o) ∷ r ≡ slots_seen (t ∷ ts) (slice_set (o ∷ os) i (Some v))) same (ap (λ l. (t.name, o) ∷ l) (h j refl))

-- the values of state variables, the last one first
pub slots_backwards : (ts : List SlotTree) (os : List (Option ValueTree)) → length os ≡ length ts → backwards (slots_seen ts os) ≡ reversed os
slots_backwards [] [] h = refl
slots_backwards [] (o ∷ os) h = cc
slots_backwards (t ∷ ts) [] h = cc
slots_backwards (t ∷ ts) (o ∷ os) h = ap (λ l. l ++ o ∷ []) (slots_backwards ts os (omega arith))

-- What stays true of a memory.
module _ (c : ClassTree) (m : Memory) (s : Scope) (held : Held c m s) where
  pub held_mark : Held c m (Mark ∷ s)
  held_mark = record { numbered = held.numbered; slots = held.slots; locals = held.locals; falling = held.falling; empty = held.empty }

  pub held_slot : (n : ℕ) (o : Option ValueTree) → Held c (write m (place.Slot n) o) s
  held_slot n o = record {
    numbered = held.numbered;
    slots = length-slice_set m.slots n o ∙ held.slots;
    locals = held.locals;
    falling = held.falling;
    empty = held.empty;
  }

  pub held_local : (x : List ℕ) (n : ℕ) (o : Option ValueTree) → find s x ≡ Some n → Held c (write m (place.Local n) o) s
  held_local x n o e = record {
    numbered = held.numbered;
    slots = held.slots;
    locals = length-slice_set m.locals n o ∙ held.locals;
    falling = held.falling;
    empty = λ k h. at-set_other m.locals n k o (found_in s x n k e h) ∙ held.empty k h;
  }

  -- the numbers of a new local
  above_falls : (n : ℕ) (t : Scope) (top : ℕ) → Above n t → Falling top (all_locals t) → Falling n (all_locals t)
  above_falls n [] top a f = tt
  above_falls n (Mark ∷ t) top a f = above_falls n t top a f
  above_falls n (Var x k ∷ t) top a f = (a.0, f.1)

  pub new_falls : (n : ℕ) → Above n s → Falling n (all_locals s)
  new_falls n a = above_falls n s (length c.locals) a held.falling

  pub held_new : (x : List ℕ) (n : ℕ) (o : Option ValueTree) → n < length c.locals → Above n s → Held c (write m (place.Local n) o) (Var x n ∷ s)
  held_new x n o lt a = record {
    numbered = held.numbered;
    slots = held.slots;
    locals = length-slice_set m.locals n o ∙ held.locals;
    falling = (lt, new_falls n a);
    empty = λ k h. at-set_other m.locals n k o h.0 ∙ held.empty k h.1;
  }

  pub held_leave : Held c (emptied (scope s) m) (outside s)
  held_leave = record {
    numbered = held.numbered;
    slots = ap length (emptied_slots (scope s) m) ∙ held.slots;
    locals = emptied_length (scope s) m ∙ held.locals;
    falling = falling_rest (length c.locals) (scope s) (all_locals (outside s)) (subst (Falling (length c.locals)) (locals_parts s) held.falling);
    empty = λ k h. emptied_or (scope s) m k (λ out. held.empty k (subst (NotIn k) (sym (locals_parts s)) (not_both k (scope s) (all_locals (outside s)) out h)));
  }

  pub seen_leave : outside (seen m s) ≡ seen (emptied (scope s) m) (outside s)
  seen_leave =
      seen_outside m s
      ∙ sym (seen_same (emptied (scope s) m) m (outside s) (agree_emptied (scope s) m (all_locals (outside s))
      (falling_out (length c.locals) (scope s) (all_locals (outside s)) (subst (Falling (length c.locals)) (locals_parts s) held.falling))))

  pub held_lost : Held c (all_emptied m) s
  held_lost = record {
    numbered = held.numbered;
    slots = held.slots;
    locals = length-blanks m.locals ∙ held.locals;
    falling = held.falling;
    empty = λ k h. blank m.locals k;
  }

  -- what is dropped at the end of a scope, and what all locals hold
  pub scope_values : filled (scope (seen m s)) ≡ held_in m (scope s)
  scope_values =
      ap filled (seen_scope m s)
      ∙ sym (covered_values s m (length c.locals) (covers_all s (scope s))
      (falling_first (length c.locals) (scope s) (all_locals (outside s)) (subst (Falling (length c.locals)) (locals_parts s) held.falling)) held.empty)

  pub locals_values : filled (all_locals (seen m s)) ≡ filled (reversed m.locals)
  locals_values =
      ap filled (seen_locals m s) ∙ sym (all_filled m.locals (all_locals s) (subst (λ n. Falling n (all_locals s)) (sym held.locals) held.falling) held.empty)

  pub every_value : source.filled (all_locals (seen m s)) ++ filled (backwards (slots_seen c.slots m.slots)) ≡ filled (reversed m.locals) ++ filled (reversed m.slots)
  every_value = ap₂ (λ xs ys. xs ++ filled ys) locals_values (slots_backwards c.slots m.slots held.slots)

  -- the place of a name, and what stands there
  pub place_found : (x : List ℕ) → place_in (vars_of c m s) x ≡ option_map (read m) (place_of c.slots s x)
  place_found x =
      ap₂ or_else (seen_found m s x) (slot_found c.slots m.slots x held.slots) ∙ by_place (find s x) (position (is_slot x) c.slots)
    where
      by_place : (o q : Option ℕ) → or_else (option_map (local m) o) (option_map (at_number m.slots) q) ≡ option_map (read m) (place_by o q)
      by_place (Some n) q = refl
      by_place None None = refl
      by_place None (Some k) = refl

  pub place_small : (x : List ℕ) (p : Slotted) → place_of c.slots s x ≡ Some p → IsSmall p
  place_small x p e = by_place (find s x) (position (is_slot x) c.slots) (λ n g. omega (arith, found_below s x n (length c.locals) g held.falling, held.numbered.locals))
      (λ n g. omega (arith, position_within (is_slot x) c.slots n g, held.numbered.slots)) e
    where
      by_place : (o q : Option ℕ) → ((n : ℕ) → o ≡ Some n → n < 2 ^ 64) → ((n : ℕ) → q ≡ Some n → n < 2 ^ 64) → place_by o q ≡ Some p → IsSmall p
      by_place (Some n) q f g e = let same : place.Local n ≡ p = cc in subst IsSmall same (f n refl)
      by_place None None f g e = cc
      by_place None (Some k) f g e = let same : place.Slot k ≡ p = cc in subst IsSmall same (g k refl)

  -- the variable of a name gets a value
  pub var_set : (x : List ℕ) (p : Slotted) (v : ValueTree) → place_of c.slots s x ≡ Some p → set_var (vars_of c m s) x v ≡ vars_of c (write m p (Some v)) s
  var_set x p v e = by_place (find s x) refl (position (is_slot x) c.slots) refl e
    where
      by_place : (o : Option ℕ) → find s x ≡ o → (q : Option ℕ) → position (is_slot x) c.slots ≡ q → place_by o q ≡ Some p → set_var (vars_of c m s) x v ≡ vars_of c (write m p (Some v)) s
      by_place (Some n) eo q eq e =
          let same : place.Local n ≡ p = cc in
          ap (λ f. set_found f (vars_of c m s) x v) (seen_found m s x ∙ ap (option_map (local m)) eo)
          ∙ ap (λ l. record (vars_of c m s) { locals = l })
          (seen_set m s x n (length c.locals) v (subst (λ k. n < k) (sym held.locals) (found_below s x n (length c.locals) eo held.falling)) held.falling eo)
          ∙ ap (λ t. vars_of c (write m t (Some v)) s) same
      by_place None eo None eq e = cc
      by_place None eo (Some k) eq e =
          let same : place.Slot k ≡ p = cc in
          ap (λ f. set_found f (vars_of c m s) x v) (seen_found m s x ∙ ap (option_map (local m)) eo)
          ∙ ap₂ (λ a b. record { states = a; locals = b }) (slot_set c.slots m.slots x k v held.slots eq)
          (sym (seen_same (write m (place.Slot k) (Some v)) m s (agree_slot m k (Some v) (all_locals s))))
          ∙ ap (λ t. vars_of c (write m t (Some v)) s) same

  pub held_set : (x : List ℕ) (p : Slotted) (o : Option ValueTree) → place_of c.slots s x ≡ Some p → Held c (write m p o) s
  held_set x p o e = by_place (find s x) refl (position (is_slot x) c.slots) e
    where
      by_place : (q : Option ℕ) → find s x ≡ q → (k : Option ℕ) → place_by q k ≡ Some p → Held c (write m p o) s
      by_place (Some n) eq k e = let same : place.Local n ≡ p = cc in subst (λ t. Held c (write m t o) s) same (held_local x n o eq)
      by_place None eq None e = cc
      by_place None eq (Some k) e = let same : place.Slot k ≡ p = cc in subst (λ t. Held c (write m t o) s) same (held_slot k o)
