-- What it takes that all walks of a class are followed: by entries, which say of each block to which a walk leads whether a
-- place may be empty where it begins.
use Rattle.std.specs.Prelude.{◌≡◌, ℕ, ◌<◌, Bool, true, false, not, ◌&&◌, ◌||◌, length, slice_get, Contains}
use Rattle.std.specs.declared.option.Option.{Option}
use Rattle.std.specs.declared.option.Option.TheVariants.{None, Some}
use Rattle.flow_class.specs.declared.class.Slotted.{Slotted}
use Rattle.flow_class.specs.Classes.{CatcherTree, ChooseLast, BlockTree, CallbackTree, ClassTree}
use Rattle.flow_class.specs.Code.{callback_at}
use Rattle.flow_valid.specs.Named.{listed, targets}
use Rattle.flow_valid.specs.Filling.{among, dropped, is_parameter, is_error}
use Rattle.flow_validate.specs.Following.{Passing, entering, passed, block_touches}

-- an entry says that the place may be empty, if it is
abbrev pub Covers : Option Bool → (empty : Bool) → Type 0
Covers None e = ⊥
Covers (Some x) e = e ≡ true → x ≡ true

-- where an error of a block, and a branch, lead with the place empty
abbrev pub empty_handled : (c : ClassTree) (p : Slotted) → CatcherTree → (thrown : Bool) → Bool
empty_handled c p h thrown = (thrown || dropped h.drops p) && not (is_error c p h.error p)

abbrev pub empty_taken : (p : Slotted) → CallbackTree → (empty : Bool) → Bool
empty_taken p k empty = empty && not (among (listed k.into) p)

module _ (c : ClassTree) (p : Slotted) (entry : ℕ → Option Bool) where
  -- a walk leads to a block, if there is one
  abbrev pub Enters : (block : ℕ) (empty : Bool) → Type 0
  Enters b e = b < length c.blocks → Covers (entry b) e

  -- a block is passed: nothing is read while it is empty, and all to which it leads are entered
  pub record IsPassed (k : BlockTree) (s : Passing) : Type 0 where
    pub misread : s.misread ≡ false
    pub handler : (h : CatcherTree) → k.catcher ≡ Some h → Enters h.block (empty_handled c p h s.thrown)
    pub targets : (to : ℕ) → Contains (targets k.last) to → Enters to s.empty
    pub branches : (g n : ℕ) (cb : CallbackTree) → k.last ≡ ChooseLast g → callback_at c g n ≡ Some cb
        → Enters cb.block (empty_taken p cb s.empty)

  -- all blocks are passed to which a walk leads
  pub record AreFollowed : Type 0 where
    pub begin : Enters 0 (not (is_parameter c p p))
    pub all : (b : ℕ) (k : BlockTree) (e : Bool) → slice_get c.blocks b ≡ Some k → entry b ≡ Some e
        → IsPassed k (passed p (block_touches c k) (entering e))
