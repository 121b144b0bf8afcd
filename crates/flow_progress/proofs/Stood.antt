-- A frame that goes along an edge of its class stands where it comes to.
use Rattle.std.proofs.Common.{◌≡◌, ℕ, zero, suc, true, false, List, [], ◌∷◌, sym, ◌∙◌}
use Rattle.std.specs.Prelude.{Contains}
use Rattle.std.specs.List.{list_any}
use Rattle.std.specs.declared.option.Option.{Option}
use Rattle.std.specs.declared.option.Option.TheVariants.{None, Some}
use Rattle.flow_tree.specs.Tree.{TypeTree}
use Rattle.flow_class.specs.declared.class.Slotted.{Slotted}
use Rattle.flow_class.specs.declared.class.Slotted.TheVariants.{Slot, Local}
use Rattle.flow_class.specs.Classes.{CatcherTree, InstrTree, LastTree, ChooseLast, BlockTree, CallbackTree, ClassTree}
use Rattle.flow_class.specs.Code.{Body, Last, Nothing, fetch_in, fetch_at, fetch, catcher_at, callback_at, type_at}
use Rattle.flow_valid.specs.Named.{listed, targets}
use Rattle.flow_valid.specs.Filling.{among, is_local, dropped, instr_fills, instr_empties, reads, behind, waited, taken, is_error, handled, Comes, goes_on, jumps, is_taken, fails, wait_fails, ReadsFilled}
use Rattle.flow_meaning.specs.Frame.{Memory}
use Rattle.flow_progress.specs.Places.{Filled}
use Rattle.flow_progress.specs.FramesAtPoints.{Reached, FullAt}
use Rattle.flow_progress.proofs.Turning.{must_turn, turns_of, turns_on}

-- behind an instruction there is another one
body_next : (is : List InstrTree) (l : LastTree) (n : ℕ) (i : InstrTree) → fetch_in is l n ≡ Body i → fetch_in is l (suc n) ≡ Nothing → ⊥
body_next [] l zero i q h = absurd (no_body q)
  where
    no_body : {l : LastTree} {i : InstrTree} → Last l ≡ Body i → ⊥
    no_body h = cc
body_next [] l (suc n) i q h = absurd (no_body q)
  where
    no_body : {i : InstrTree} → Nothing ≡ Body i → ⊥
    no_body h = cc
body_next (x ∷ is) l zero i q h = first_there is h
  where
    first_there : (is : List InstrTree) → fetch_in is l zero ≡ Nothing → ⊥
    first_there [] h = cc
    first_there (x ∷ is) h = cc
body_next (x ∷ is) l (suc n) i q h = body_next is l n i q h

pub next_there : (c : ClassTree) (b n : ℕ) (i : InstrTree) → fetch c b n ≡ Body i → fetch c b (suc n) ≡ Nothing → ⊥
next_there c b n i q = by_block (Rattle.std.specs.Prelude.slice_get c.blocks b) q
  where
    no_body : {i : InstrTree} → Nothing ≡ Body i → ⊥
    no_body h = cc

    by_block : (o : Option BlockTree) → fetch_at o n ≡ Body i → fetch_at o (suc n) ≡ Nothing → ⊥
    by_block None q h = no_body q
    by_block (Some x) q h = body_next x.body x.last n i q h

-- what is read where a frame stands is filled
pub read_filled : (c : ClassTree) (m : Memory) (b n : ℕ) → ReadsFilled c → FullAt c m b n → (q : Slotted) (t : TypeTree) → type_at c q ≡ Some t → among (reads c (fetch c b n)) q ≡ true → Filled m q
read_filled c m b n rule full q t at h = full q t at (λ k. differs (sym (rule q b n k) ∙ h))
  where
    differs : false ≡ true → ⊥
    differs h = cc

-- edges
pub reached_next : (c : ClassTree) (b n : ℕ) (i : InstrTree) → fetch c b n ≡ Body i → Reached c b n → Reached c b (suc n)
reached_next c b n i q h p = let k = h p in (behind c p i k.0, goes_on i k.1 q)

pub full_next : (c : ClassTree) (m k : Memory) (b n : ℕ) (i : InstrTree) → fetch c b n ≡ Body i → Reached c b n → FullAt c m b n
    → ((p : Slotted) (t : TypeTree) → type_at c p ≡ Some t → among (instr_fills i) p ≡ true → Filled k p)
    → ((p : Slotted) → among (instr_fills i) p ≡ false → instr_empties i p ≡ false → Filled m p → Filled k p) → FullAt c k b (suc n)
full_next c m k b n i q reached full fill keep p t at =
    must_turn (Comes c p b n) (Comes c p b (suc n)) (behind c p i) (Filled m p) (Filled k p) (λ x h. goes_on i h q)
    (turns_of (among (instr_fills i) p) (instr_empties i p) (Filled m p) (Filled k p) (fill p t at) (keep p)) (reached p) (full p t at)

pub reached_jump : (c : ClassTree) (b n to : ℕ) (l : LastTree) → fetch c b n ≡ Last l → Contains (targets l) to → Reached c b n → Reached c to 0
reached_jump c b n to l q in_targets h p = let k = h p in (k.0, jumps l to k.1 q in_targets)

pub full_jump : (c : ClassTree) (m : Memory) (b n to : ℕ) (l : LastTree) → fetch c b n ≡ Last l → Contains (targets l) to → FullAt c m b n → FullAt c m to 0
full_jump c m b n to l q in_targets full p t at never = full p t at (λ k. never (jumps l to k q in_targets))

-- a branch is taken
pub reached_taken : (c : ClassTree) (b n g branch : ℕ) (k : CallbackTree) → fetch c b n ≡ Last (ChooseLast g) → callback_at c g branch ≡ Some k → Reached c b n → Reached c k.block 0
reached_taken c b n g branch k q at h p = let x = h p in (taken c p k x.0, is_taken g branch k x.1 q at)

-- a slot is filled, and of locals nothing is said
abbrev SlotFilled : Memory → Slotted → Type 0
SlotFilled m p = is_local p ≡ false → Filled m p

abbrev pub SlotsFull : ClassTree → Memory → (block instr : ℕ) → Type 0
SlotsFull c m b n = (i : ℕ) (t : TypeTree) → type_at c (Slot i) ≡ Some t → (Comes c (Slot i) b n false → ⊥) → Filled m (Slot i)

slot_filled : (c : ClassTree) (m : Memory) (b n : ℕ) → SlotsFull c m b n → (p : Slotted) (t : TypeTree) → type_at c p ≡ Some t → (Comes c p b n false → ⊥) → SlotFilled m p
slot_filled c m b n full (Slot i) t has never l = full i t has never
slot_filled c m b n full (Local i) t has never l = absurd (no_false l)
  where
    no_false : true ≡ false → ⊥
    no_false h = cc

pub full_taken : (c : ClassTree) (m k : Memory) (b n g branch : ℕ) (x : CallbackTree) → fetch c b n ≡ Last (ChooseLast g) → callback_at c g branch ≡ Some x → Reached c b n → SlotsFull c m b n
    → ((p : Slotted) (t : TypeTree) → type_at c p ≡ Some t → among (listed x.into) p ≡ true → Filled k p)
    → ((p : Slotted) → among (listed x.into) p ≡ false → is_local p ≡ false → Filled m p → Filled k p) → FullAt c k x.block 0
full_taken c m k b n g branch x q at reached full fill keep p t has =
    must_turn (Comes c p b n) (Comes c p x.block 0) (taken c p x) (SlotFilled m p) (Filled k p) (λ y h. is_taken g branch x h q at)
    (turns_of (among (listed x.into) p) (is_local p) (SlotFilled m p) (Filled k p) (fill p t has) (λ a l f. keep p a l (f l))) (reached p) (slot_filled c m b n full p t has)

-- an error goes to the handler of a block, before or behind its wait
pub reached_failed : (c : ClassTree) (b n : ℕ) (k : CatcherTree) → catcher_at c b ≡ Some k → Reached c b n → Reached c k.block 0
reached_failed c b n k q h p = let x = h p in (handled c p k x.0, fails k x.1 q)

module _ (c : ClassTree) (m k : Memory) (b n : ℕ) (x : CatcherTree) (q : catcher_at c b ≡ Some x) (reached : Reached c b n)
    (fill : (p : Slotted) (t : TypeTree) → type_at c p ≡ Some t → is_error c p x.error p ≡ true → Filled k p)
    (keep : (p : Slotted) → is_error c p x.error p ≡ false → dropped x.drops p ≡ false → Filled m p → Filled k p) where
  pub full_failed : FullAt c m b n → FullAt c k x.block 0
  full_failed full p t has =
      must_turn (Comes c p b n) (Comes c p x.block 0) (handled c p x) (Filled m p) (Filled k p) (λ y h. fails x h q)
      (turns_of (is_error c p x.error p) (dropped x.drops p) (Filled m p) (Filled k p) (fill p t has) (keep p)) (reached p) (full p t has)

  pub full_wait_failed : (g : ℕ) → fetch c b n ≡ Last (ChooseLast g) → SlotsFull c m b n → FullAt c k x.block 0
  full_wait_failed g at full p t has =
      must_turn (Comes c p b n) (Comes c p x.block 0) (λ y. handled c p x (waited c p y)) (SlotFilled m p) (Filled k p) (λ y h. wait_fails g x h at q)
      (turns_on (waited c p) (handled c p x) (SlotFilled m p) (Filled m p) (Filled k p)
      (turns_of false (is_local p) (SlotFilled m p) (Filled m p) no_true (λ a l f. f l))
      (turns_of (is_error c p x.error p) (dropped x.drops p) (Filled m p) (Filled k p) (fill p t has) (keep p)))
      (reached p) (slot_filled c m b n full p t has)
    where
      no_true : {X : Type 0} → false ≡ true → X
      no_true h = absurd cc
