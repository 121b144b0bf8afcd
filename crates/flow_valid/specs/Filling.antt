-- No place is read while it is empty.
--
-- A walk begins at block 0 with the parameters filled, and goes on from instruction to instruction. An error may lead to the
-- handler of a block before each of its instructions, and behind its last one.
use Rattle.std.specs.Prelude.{◌≡◌, ℕ, suc, Bool, true, false, not, ◌&&◌, ◌||◌, nat_eq, nat_lt, List, [], ◌∷◌, ◌++◌, Contains}
use Rattle.std.specs.List.{list_any}
use Rattle.std.specs.declared.option.Option.{Option}
use Rattle.std.specs.declared.option.Option.TheVariants.{None, Some}
use Rattle.flow_tree.specs.declared.ty.Ident.{Ident}
use Rattle.flow_class.specs.declared.class.Slotted.{Slotted}
use Rattle.flow_class.specs.declared.class.Slotted.TheVariants.{Slot, Local}
use Rattle.flow_class.specs.Classes.{CatcherTree, InstrTree, SetInstr, EffectInstr, NewInstr, ActInstr, DropInstr, LastTree, ChooseLast, CallbackTree, ClassTree}
use Rattle.flow_class.specs.Code.{Fetched, Body, Last, Nothing, fetch, catcher_at, callback_at, group_at}
use Rattle.flow_valid.specs.Named.{listed, expr_places, exprs_places, path_place, base_place, last_places, targets}

abbrev pub same_place : Slotted → Slotted → Bool
same_place (Slot m) (Slot n) = nat_eq m n
same_place (Local m) (Local n) = nat_eq m n
same_place _ _ = false

abbrev pub among : List Slotted → Slotted → Bool
among ps p = list_any (same_place p) ps

abbrev pub is_local : Slotted → Bool
is_local (Slot n) = false
is_local (Local n) = true

-- A path that is one place fills it; a path to a field in it reads it.
abbrev pub filled_path : List Ident → List Slotted
filled_path (x ∷ []) = path_place (x ∷ [])
filled_path _ = []

-- the places that an instruction reads, fills and empties
abbrev pub instr_reads : InstrTree → List Slotted
instr_reads (SetInstr path e) = base_place path ++ expr_places e
instr_reads (EffectInstr path e) = base_place path ++ expr_places e
instr_reads (NewInstr p) = []
instr_reads (ActInstr path es) = base_place path ++ exprs_places es
instr_reads (DropInstr ns) = []

abbrev pub instr_fills : InstrTree → List Slotted
instr_fills (SetInstr path e) = filled_path path
instr_fills (EffectInstr path e) = filled_path path
instr_fills (NewInstr p) = p ∷ []
instr_fills _ = []

abbrev pub dropped : List ℕ → Slotted → Bool
dropped ns (Slot m) = false
dropped ns (Local m) = list_any (nat_eq m) ns

abbrev pub instr_empties : InstrTree → Slotted → Bool
instr_empties (DropInstr ns) p = dropped ns p
instr_empties _ p = false

-- the operands of a group are read before it waits
abbrev pub operands : List CallbackTree → List Slotted
operands [] = []
operands (k ∷ ks) = expr_places k.operand ++ operands ks

abbrev pub group_reads : Option (List CallbackTree) → List Slotted
group_reads None = []
group_reads (Some ks) = operands ks

abbrev pub reads : ClassTree → Fetched → List Slotted
reads c (Body i) = instr_reads i
reads c (Last (ChooseLast g)) = group_reads (group_at c.groups g)
reads c (Last l) = last_places l
reads c Nothing = []

-- Whether a place is filled: at the begin; behind an instruction; behind a wait, which empties all locals, and in the branch
-- that it takes; and in the handler of an error.
module _ (c : ClassTree) (p : Slotted) where
  abbrev pub is_parameter : Slotted → Bool
  is_parameter (Slot n) = nat_lt n c.params
  is_parameter (Local n) = false

  abbrev pub behind : InstrTree → (filled : Bool) → Bool
  behind i filled = among (instr_fills i) p || (filled && not (instr_empties i p))

  abbrev pub waited : (filled : Bool) → Bool
  waited filled = filled && not (is_local p)

  abbrev pub taken : CallbackTree → (filled : Bool) → Bool
  taken k filled = among (listed k.into) p || waited filled

  abbrev pub is_error : Option ℕ → Slotted → Bool
  is_error None q = false
  is_error (Some n) q = same_place (Local n) q

  abbrev pub handled : CatcherTree → (filled : Bool) → Bool
  handled k filled = is_error k.error p || (filled && not (dropped k.drops p))

  -- some walk from block 0 comes to an instruction, and the place is filled there or not
  pub data Comes : (block instr : ℕ) → (filled : Bool) → Type 0 where
    begins : Comes 0 0 (is_parameter p)
    goes_on : {b n : ℕ} {filled : Bool} (i : InstrTree) →
        Comes b n filled → fetch c b n ≡ Body i → Comes b (suc n) (behind i filled)
    jumps : {b n : ℕ} {filled : Bool} (l : LastTree) (to : ℕ) →
        Comes b n filled → fetch c b n ≡ Last l → Contains (targets l) to → Comes to 0 filled
    is_taken : {b n : ℕ} {filled : Bool} (g branch : ℕ) (k : CallbackTree) →
        Comes b n filled → fetch c b n ≡ Last (ChooseLast g) → callback_at c g branch ≡ Some k → Comes k.block 0 (taken k filled)
    fails : {b n : ℕ} {filled : Bool} (k : CatcherTree) →
        Comes b n filled → catcher_at c b ≡ Some k → Comes k.block 0 (handled k filled)
    wait_fails : {b n : ℕ} {filled : Bool} (g : ℕ) (k : CatcherTree) →
        Comes b n filled → fetch c b n ≡ Last (ChooseLast g) → catcher_at c b ≡ Some k → Comes k.block 0 (handled k (waited filled))

-- a walk comes to an instruction that reads a place which is empty there
abbrev pub ReadsEmpty : ClassTree → Type 0
ReadsEmpty c = (p : Slotted) × (b : ℕ) × (n : ℕ) × Comes c p b n false × (among (reads c (fetch c b n)) p ≡ true)

-- and no walk does
abbrev pub ReadsFilled : ClassTree → Type 0
ReadsFilled c = (p : Slotted) (b n : ℕ) → Comes c p b n false → among (reads c (fetch c b n)) p ≡ false
