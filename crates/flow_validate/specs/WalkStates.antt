-- How far the code has followed 64 places: for each block which of them may be empty where it begins, where a walk leads to it, and
-- the blocks that are still to be passed.
use Rattle.std.specs.Prelude.{◌≡◌, ◌⊎◌, ℕ, ◌+◌, ◌-◌, ◌*◌, ◌^◌, ◌<◌, ◌≤◌, Bool, true, false, not, nat_eq, List, [], ◌∷◌, map, length, slice_get, Contains, bit_or, if◌then◌else◌}
use Rattle.std.specs.List.{sum_by}
use Rattle.std.specs.declared.option.Option.{Option}
use Rattle.std.specs.declared.option.Option.TheVariants.{None, Some}
use Rattle.flow_class.specs.declared.class.Slotted.{Slotted}
use Rattle.flow_class.specs.Classes.{CatcherTree, LastTree, ChooseLast, BlockTree, CallbackTree, ClassTree}
use Rattle.flow_class.specs.Code.{group_at}
use Rattle.flow_validate.specs.declared.touch.Touch.{Touch}
use Rattle.flow_validate.specs.declared.touch.Touches.{Touches}
use Rattle.flow_validate.specs.Joined.{AreJoined}
use Rattle.flow_validate.specs.declared.window.Window.{Window}
use Rattle.flow_validate.specs.declared.filling.Walks.{Walks}
use Rattle.flow_valid.specs.Named.{targets}
use Rattle.flow_valid.specs.Filling.{among, reads, is_parameter, Comes, ReadsEmpty}
use Rattle.flow_validate.specs.Following.{entering, passed, block_touches, place_in, has_bit}
use Rattle.flow_validate.specs.Entered.{Covers, Enters, empty_handled, empty_taken, IsPassed}
use Rattle.flow_class.specs.Code.{fetch}
use Rattle.flow_class.specs.declared.class.Slotted.TheVariants.{Slot, Local}

pub record WalkState : Type 0 where
  pub entries : List (Option ℕ)
  pub todo : List ℕ

abbrev pub standing : Walks → WalkState
standing w = record { entries = w.entries.items; todo = w.todo.items }

-- more places may be empty than an entry says
abbrev pub widened : Option ℕ → (empty : ℕ) → Option ℕ
widened None e = Some e
widened (Some x) e = if nat_eq (bit_or x e) x then None else Some (bit_or x e)

-- one of 64 bits is set, or none
abbrev pub AnyBit : ℕ → (any : Bool) → Type 0
AnyBit n true = (j : ℕ) × (j < 64) × (has_bit n j ≡ true)
AnyBit n false = n ≡ 0

-- an entry, for one of the places
abbrev pub entry_bit : Option (Option ℕ) → (bit : ℕ) → Option Bool
entry_bit None j = None
entry_bit (Some None) j = None
entry_bit (Some (Some x)) j = Some (has_bit x j)

abbrev pub entry_of : List (Option ℕ) → (bit block : ℕ) → Option Bool
entry_of es j b = entry_bit (slice_get es b) j

-- a way to a block, and which places are empty on it
pub record Way : Type 0 where
  pub block : ℕ
  pub empty : (bit : ℕ) → Bool

abbrev pub handler_ways : ClassTree → Window → Option CatcherTree → (thrown : ℕ) → List Way
handler_ways c w None t = []
handler_ways c w (Some h) t = record { block = h.block; empty = λ j. empty_handled c (place_in w j) h (has_bit t j) } ∷ []

abbrev pub branch_way : Window → (empty : ℕ) → CallbackTree → Way
branch_way w e k = record { block = k.block; empty = λ j. empty_taken (place_in w j) k (has_bit e j) }

abbrev pub group_ways : Window → (empty : ℕ) → Option (List CallbackTree) → List Way
group_ways w e None = []
group_ways w e (Some ks) = map (branch_way w e) ks

abbrev pub plain_way : (empty block : ℕ) → Way
plain_way e b = record { block = b; empty = has_bit e }

abbrev pub last_ways : ClassTree → Window → LastTree → (empty : ℕ) → List Way
last_ways c w (ChooseLast g) e = group_ways w e (group_at c.groups g)
last_ways c w l e = map (plain_way e) (targets l)

-- of two entries, the second says at least as much
abbrev pub Widens : Option ℕ → Option ℕ → Type 0
Widens None y = Unit {0}
Widens (Some x) None = ⊥
Widens (Some x) (Some y) = (j : ℕ) → has_bit x j ≡ true → has_bit y j ≡ true

-- What is still to be done: it falls with each block that is passed.
abbrev pub room : Option ℕ → ℕ
room None = 2 ^ 64 + 1
room (Some x) = 2 ^ 64 - x

abbrev pub work : WalkState → ℕ
work s = 2 * sum_by room s.entries + length s.todo

-- The entries widen, and where one does, its block is to be passed again.
pub record Grows (old new : WalkState) : Type 0 where
  pub same_length : length new.entries ≡ length old.entries
  pub widens : (b : ℕ) (x y : Option ℕ) → slice_get old.entries b ≡ Some x → slice_get new.entries b ≡ Some y → Widens x y
  pub todo : (b : ℕ) → Contains old.todo b → Contains new.todo b
  pub changed : (b : ℕ) → (slice_get new.entries b ≡ slice_get old.entries b) ⊎ Contains new.todo b
  pub less : work new ≤ work old

-- each way is covered by the entries
abbrev pub IsCovered : List (Option ℕ) → Way → Type 0
IsCovered es v = (j : ℕ) → j < 64 → v.block < length es → Covers (entry_of es j v.block) (v.empty j)

abbrev pub AreCovered : List (Option ℕ) → List Way → Type 0
AreCovered es [] = Unit {0}
AreCovered es (v ∷ vs) = IsCovered es v × AreCovered es vs

-- one of these ways leads to a block with a place empty, or filled
abbrev pub Led : List Way → (block bit : ℕ) → Bool → Type 0
Led [] b j e = ⊥
Led (v ∷ vs) b j e = ((v.block ≡ b) × (v.empty j ≡ e)) ⊎ Led vs b j e

-- These ways are entered: the entries cover them, and what they say is so by an entry that was there or by one of the ways.
pub record Entered (old new : WalkState) (ways : List Way) : Type 0 where
  pub grows : Grows old new
  pub covers : AreCovered new.entries ways
  pub from : (b y j : ℕ) → slice_get new.entries b ≡ Some (Some y) → j < 64 →
      ((x : ℕ) × (slice_get old.entries b ≡ Some (Some x)) × (has_bit x j ≡ has_bit y j)) ⊎ Led ways b j (has_bit y j)

-- some walk leads to a block as its entry says
abbrev pub AreSound : ClassTree → Window → List (Option ℕ) → Type 0
AreSound c w es = (b x j : ℕ) → slice_get es b ≡ Some (Some x) → j < 64 → Comes c (place_in w j) b 0 (not (has_bit x j))

-- a block is passed as its entry says
abbrev pub AllPassed : ClassTree → Window → List (Option ℕ) → BlockTree → (entry : ℕ) → Type 0
AllPassed c w es k x =
    (j : ℕ) → j < 64 → IsPassed c (place_in w j) (entry_of es j) k (passed (place_in w j) (block_touches c k) (entering (has_bit x j)))

-- what the blocks do to places is known
pub record AreTouches (c : ClassTree) (touches : List (List Touch)) : Type 0 where
  pub same_length : length touches ≡ length c.blocks
  pub each : (b : ℕ) (k : BlockTree) (ts : List Touch) → slice_get c.blocks b ≡ Some k → slice_get touches b ≡ Some ts
      → ts ≡ block_touches c k

abbrev pub HoldsTouches : ClassTree → Touches → Type 0
HoldsTouches c t = (all : List (List Touch)) × AreJoined t all × AreTouches c all

-- a block is passed, or a place is read in it while it is empty
pub record Passes (c : ClassTree) (w : Window) (old new : WalkState) (block : ℕ) : Type 0 where
  pub grows : Grows old new
  pub sound : AreSound c w old.entries → AreSound c w new.entries
  pub passed : (k : BlockTree) (x : ℕ) → slice_get c.blocks block ≡ Some k → slice_get old.entries block ≡ Some (Some x)
      → AllPassed c w new.entries k x

abbrev pub PassesOr : ClassTree → Window → (old new : WalkState) → (block : ℕ) → (filled : Bool) → Type 0
PassesOr c w old new b true = Passes c w old new b
PassesOr c w old new b false = AreSound c w old.entries → ReadsEmpty c

-- Walks so far: each block that a walk is known to enter is passed, or is still to be.
pub record AreWalks (c : ClassTree) (w : Window) (s : WalkState) : Type 0 where
  pub same_length : length s.entries ≡ length c.blocks
  pub sound : AreSound c w s.entries
  pub begin : (j : ℕ) → j < 64 → Enters c (place_in w j) (entry_of s.entries j) 0 (not (is_parameter c (place_in w j) (place_in w j)))
  pub passed : (b x : ℕ) (k : BlockTree) → slice_get c.blocks b ≡ Some k → slice_get s.entries b ≡ Some (Some x)
      → Contains s.todo b ⊎ AllPassed c w s.entries k x

-- no walk reads a place while it is empty
abbrev pub IsFilled : ClassTree → Slotted → Type 0
IsFilled c p = (b n : ℕ) → Comes c p b n false → among (reads c (fetch c b n)) p ≡ false

abbrev pub FilledOr : ClassTree → Type 0 → (filled : Bool) → Type 0
FilledOr c t true = t
FilledOr c t false = ReadsEmpty c

abbrev pub AreFilledBelow : ClassTree → (locals : Bool) → (count : ℕ) → Type 0
AreFilledBelow c locals count = (n : ℕ) → n < count → IsFilled c (if locals then Local n else Slot n)

-- entries before any walk
abbrev pub nothing_entered : {A : Type 0} → List A → List (Option ℕ)
nothing_entered [] = []
nothing_entered (x ∷ xs) = None ∷ nothing_entered xs
