-- Places, positions and operands of a frame in memory and in the process.
use Rattle.std.proofs.Common.{◌≡◌, ℕ, zero, suc, ◌+◌, ◌<◌, nat_lt, true, false, List, [], ◌∷◌, ◌++◌, map, length, get_or, set, refl, sym, ap, ◌∙◌, arith}
use Rattle.std.specs.Prelude.{slice_get}
use Rattle.std.proofs.lemmas.Bool.Decides.{nat_tests}
use Rattle.std.specs.Option.{option_map}
use Rattle.std.specs.declared.option.Option.{Option}
use Rattle.std.specs.declared.option.Option.TheVariants.{None}
use Rattle.flow_value.specs.declared.value.Value.{Value}
use Rattle.flow_value.specs.Values.{ValueTree}
use Rattle.flow_value.specs.View.{value_of}
use Rattle.flow_class.specs.declared.class.Slotted.TheVariants.{Slot, Local}
use Rattle.flow_class.specs.Classes.{RawTree}
use Rattle.flow_frame.specs.declared.held.Held.{Held}
use Rattle.flow_frame.specs.Frames.{FrameTree, with_callback}
use Rattle.flow_cancel.specs.Heap.{cell_id}
use Rattle.flow_cancel.specs.Leaving.{waits}
use Rattle.flow_meaning.specs.Variables.{flat}
use Rattle.flow_meaning.specs.Cells.{Ref}
use Rattle.flow_meaning.specs.Process.{Entry}
use Rattle.flow_meaning.specs.Frame.{Memory, Frame, write}
use Rattle.flow_heap_refinement.specs.Representing.{LiveFrameRepresents, ended, Position, here, at_wait, held_from, wait_spot}
use Rattle.flow_heap_refinement.specs.FrameChanges as law
use Rattle.flow_heap_refinement.specs.FrameChanges.{number_in, HasPlace, next_callback}
use Rattle.flow_heap_refinement.proofs.Left.{held_as}

-- lists
module _ {A : Type 0} where
  set_left : (xs ys : List A) (n : ℕ) (a : A) → n < length xs → set (xs ++ ys) n a ≡ set xs n a ++ ys
  set_left [] ys n a l = absurd (omega arith)
  set_left (x ∷ xs) ys zero a l = refl
  set_left (x ∷ xs) ys (suc n) a l = ap (λ zs. x ∷ zs) (set_left xs ys n a (omega (arith, l)))

  set_right : (xs ys : List A) (n : ℕ) (a : A) → set (xs ++ ys) (length xs + n) a ≡ xs ++ set ys n a
  set_right [] ys n a = let e : 0 + n ≡ n = omega arith in ap (λ i. set ys i a) e
  set_right (x ∷ xs) ys n a =
      let e : suc (length xs) + n ≡ suc (length xs + n) = omega arith in ap (λ i. set (x ∷ xs ++ ys) i a) e ∙ ap (λ zs. x ∷ zs) (set_right xs ys n a)

  get_left : (xs ys : List A) (n : ℕ) (d : A) → n < length xs → get_or (xs ++ ys) n d ≡ get_or xs n d
  get_left [] ys n d l = absurd (omega arith)
  get_left (x ∷ xs) ys zero d l = refl
  get_left (x ∷ xs) ys (suc n) d l = get_left xs ys n d (omega (arith, l))

  get_right : (xs ys : List A) (n : ℕ) (d : A) → get_or (xs ++ ys) (length xs + n) d ≡ get_or ys n d
  get_right [] ys n d = let e : 0 + n ≡ n = omega arith in ap (λ i. get_or ys i d) e
  get_right (x ∷ xs) ys n d =
      let e : suc (length xs) + n ≡ suc (length xs + n) = omega arith in ap (λ i. get_or (x ∷ xs ++ ys) i d) e ∙ get_right xs ys n d

  as_long : (xs : List A) (n : ℕ) (a : A) → length (set xs n a) ≡ length xs
  as_long [] n a = refl
  as_long (x ∷ xs) zero a = refl
  as_long (x ∷ xs) (suc n) a = ap suc (as_long xs n a)

  both_long : (xs ys : List A) → length (xs ++ ys) ≡ length xs + length ys
  both_long [] ys = omega arith
  both_long (x ∷ xs) ys = let e = both_long xs ys in omega (arith, e)

  flat_get : (xs : List (Option A)) (n : ℕ) → flat (slice_get xs n) ≡ get_or xs n None
  flat_get [] n = refl
  flat_get (x ∷ xs) zero = refl
  flat_get (x ∷ xs) (suc n) = flat_get xs n

-- places in memory, as values
abbrev seen : List (Option Value) → List (Option ValueTree)
seen xs = map (option_map value_of) xs

seen_set : (xs : List (Option Value)) (n : ℕ) (v : Option Value) → seen (set xs n v) ≡ set (seen xs) n (option_map value_of v)
seen_set [] n v = refl
seen_set (x ∷ xs) zero v = refl
seen_set (x ∷ xs) (suc n) v = ap (λ ys. option_map value_of x ∷ ys) (seen_set xs n v)

seen_get : (xs : List (Option Value)) (n : ℕ) → option_map value_of (get_or xs n None) ≡ get_or (seen xs) n None
seen_get [] n = refl
seen_get (x ∷ xs) zero = refl
seen_get (x ∷ xs) (suc n) = seen_get xs n

as_many : (xs : List (Option Value)) → length (seen xs) ≡ length xs
as_many [] = refl
as_many (x ∷ xs) = ap suc (as_many xs)

-- callbacks
held_more : (n : ℕ) (rs : List Ref) (x : Ref) → held_from n rs ++ record { callback = n + length rs; cell = cell_id x.1 } ∷ [] ≡ held_from n (rs ++ x ∷ [])
held_more n [] x = let e : n + 0 ≡ n = omega arith in ap (λ m. record { callback = m; cell = cell_id x.1 } ∷ []) e
held_more n (r ∷ rs) x =
    let e : n + suc (length rs) ≡ suc n + length rs = omega arith in
    ap (λ m. record { callback = n; cell = cell_id r.1 } ∷ (held_from (suc n) rs ++ record { callback = m; cell = cell_id x.1 } ∷ [])) e
    ∙ ap (λ hs. record { callback = n; cell = cell_id r.1 } ∷ hs) (held_more (suc n) rs x)

waits_at_zero : (n : ℕ) (hs : List Held) → n ≡ 0 → waits n hs ≡ false
waits_at_zero zero hs e = refl
waits_at_zero (suc n) hs e = absurd (omega (arith, e))

module _ (r : RawTree) (m : FrameTree Value) (e : Entry) (f : Frame) where
  pub place_read : law.PlaceRead r m e f
  place_read (Slot n) s l = rw within (seen_get m.places n ∙ ap (λ xs. get_or xs n None) s.places ∙ get_left f.mem.slots f.mem.locals n None l ∙ sym (flat_get f.mem.slots n))
    where
      within : nat_lt n (length m.places) ≡ true
      within = let a = ap length s.places in let b = both_long f.mem.slots f.mem.locals in let c = as_many m.places in grind (arith, nat_tests, a, b, c, l)
  place_read (Local n) s l = rw within (seen_get m.places (length f.code.slots + n) ∙ ap (λ xs. get_or xs (length f.code.slots + n) None) s.places
      ∙ ap (λ k. get_or (f.mem.slots ++ f.mem.locals) (k + n) None) (sym s.slots) ∙ get_right f.mem.slots f.mem.locals n None ∙ sym (flat_get f.mem.locals n))
    where
      within : nat_lt (length f.code.slots + n) (length m.places) ≡ true
      within = let a = ap length s.places in let b = both_long f.mem.slots f.mem.locals in let c = as_many m.places in let d = s.slots in grind (arith, nat_tests, a, b, c, d, l)

  position_of : (b : Memory) (places : List (Option Value)) → Position m f → Position (record m { places = places }) (record f { mem = b })
  position_of b places (here x y z) = here x y z
  position_of b places (at_wait g x y) = at_wait g x y

  pub place_written : law.PlaceWritten r m e f
  place_written (Slot n) v s l = record {
    code = s.code;
    places = seen_set m.places n v ∙ ap (λ xs. set xs n (option_map value_of v)) s.places ∙ set_left f.mem.slots f.mem.locals n (option_map value_of v) l;
    slots = as_long f.mem.slots n (option_map value_of v) ∙ s.slots;
    position = position_of (write f.mem (Slot n) (option_map value_of v)) (set m.places n v) s.position;
    callbacks = s.callbacks;
    suspended = s.suspended;
    spot = s.spot;
  }
  place_written (Local n) v s l = record {
    code = s.code;
    places =
        seen_set m.places (length f.code.slots + n) v ∙ ap (λ xs. set xs (length f.code.slots + n) (option_map value_of v)) s.places
        ∙ ap (λ k. set (f.mem.slots ++ f.mem.locals) (k + n) (option_map value_of v)) (sym s.slots) ∙ set_right f.mem.slots f.mem.locals n (option_map value_of v);
    slots = s.slots;
    position = position_of (write f.mem (Local n) (option_map value_of v)) (set m.places (length f.code.slots + n) v) s.position;
    callbacks = s.callbacks;
    suspended = s.suspended;
    spot = s.spot;
  }

  no_callback : LiveFrameRepresents r m e f → e.operands ≡ [] → m.callbacks ≡ []
  no_callback s n = s.callbacks ∙ ap (held_from (wait_spot f).first) n

  none_waits : (n : ℕ) → waits n [] ≡ false
  none_waits zero = refl
  none_waits (suc n) = refl

  pub goes_on : law.GoesOn r m e f
  goes_on b i s n =
      let free : false ≡ e.suspended = sym (none_waits m.state) ∙ ap (waits m.state) (sym (no_callback s n)) ∙ s.suspended in record {
        code = s.code;
        places = s.places;
        slots = s.slots;
        position = here refl refl refl;
        callbacks = no_callback s n ∙ ap (held_from (wait_spot (record f { block = b; instr = i; state = 0 })).first) (sym n);
        suspended = free;
        spot = λ h. absurd (cc (free, h));
      }

  pub operand_kept : law.OperandKept r m e f
  operand_kept x spot s z awake = record {
    code = s.code;
    places = s.places;
    slots = s.slots;
    position = moved s.position;
    callbacks = ap (λ hs. hs ++ record { callback = next_callback e f; cell = cell_id x.1 } ∷ []) s.callbacks ∙ held_more (wait_spot f).first e.operands x;
    suspended = waits_at_zero m.state (m.callbacks ++ record { callback = next_callback e f; cell = cell_id x.1 } ∷ []) z ∙ sym awake;
    spot = λ h. absurd (cc (awake, h));
  }
    where
      moved : Position m f → Position (with_callback m (record { callback = next_callback e f; cell = cell_id x.1 })) f
      moved (here a b c) = here a b c
      moved (at_wait g a b) = at_wait g a b

  pub suspends : law.Suspends r m e f
  suspends g x xs s grp ops = record {
    code = s.code;
    places = s.places;
    slots = s.slots;
    position = at_wait g refl (sym grp);
    callbacks = s.callbacks;
    suspended = ap (waits (suc g)) (s.callbacks ∙ ap (held_from (wait_spot f).first) ops);
    spot = λ h. refl;
  }

  pub is_over : law.IsOver r m e f
  is_over n o awake none empty = record {
    class = o.class;
    result = o.result;
    marked = o.marked;
    frame = ended (record {
      frame = refl;
      places = empty;
      callbacks = held_as r n m e f o ∙ ap (held_from (wait_spot f).first) none;
      operands = none;
      suspended = awake;
    });
  }
