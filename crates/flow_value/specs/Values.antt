-- Values as plain data: the mirror through which contracts see the values of the code.
use Rattle.std.specs.Prelude.{ℕ, zero, suc, ℤ, Bool, true, false, ◌||◌, List, [], ◌∷◌, ◌++◌}
use Rattle.std.specs.declared.option.Option.{Option}
use Rattle.std.specs.declared.option.Option.TheVariants.{None, Some}
use Rattle.flow_value.specs.declared.value.Kind.{Kind}
use Rattle.flow_value.specs.declared.value.RecordId.{RecordId}

-- what a value is that is made of parts: the record of its fields, or the list of its elements
pub data Whole : Type 0 where
  RecordWhole : RecordId → Whole
  ListWhole : Whole

-- a value, and the parts of one in order; errors and cells go by their numbers
mutual
  pub data ValueTree : Type 0 where
    IntValue : ℤ → ValueTree
    BoolValue : Bool → ValueTree
    TextValue : List ℕ → ValueTree
    VoidValue : ValueTree
    ErrorValue : ℕ → ValueTree
    CompositeValue : Whole → ValueTrees → ValueTree
    RefValue : Kind → ℕ → ValueTree

  pub data ValueTrees : Type 0 where
    NoValues : ValueTrees
    MoreValues : ValueTree → ValueTrees → ValueTrees

-- what a set cell holds
pub data OutcomeTree : Type 0 where
  GoodOutcome : ValueTree → OutcomeTree
  BadOutcome : ℕ → OutcomeTree

-- how many parts there are, and one more behind them
abbrev pub count_of : ValueTrees → ℕ
count_of NoValues = 0
count_of (MoreValues v vs) = suc (count_of vs)

abbrev pub with_last : ValueTrees → ValueTree → ValueTrees
with_last NoValues w = MoreValues w NoValues
with_last (MoreValues v vs) w = MoreValues v (with_last vs w)

-- a list of values as parts
abbrev pub values_of_list : List ValueTree → ValueTrees
values_of_list [] = NoValues
values_of_list (v ∷ vs) = MoreValues v (values_of_list vs)

-- the part at a place, counted from 0, and one put there
abbrev pub value_at : ValueTrees → ℕ → Option ValueTree
value_at NoValues k = None
value_at (MoreValues v vs) zero = Some v
value_at (MoreValues v vs) (suc k) = value_at vs k

abbrev pub value_put : ValueTrees → ℕ → ValueTree → ValueTrees
value_put NoValues k w = NoValues
value_put (MoreValues v vs) zero w = MoreValues w vs
value_put (MoreValues v vs) (suc k) w = MoreValues v (value_put vs k w)

abbrev pub at_place : ValueTrees → Option ℕ → Option ValueTree
at_place vs None = None
at_place vs (Some k) = value_at vs k

-- the references of a value in the order of its parts
abbrev mutual
  pub refs_of : ValueTree → List (Kind × ℕ)
  refs_of (IntValue n) = []
  refs_of (BoolValue b) = []
  refs_of (TextValue t) = []
  refs_of VoidValue = []
  refs_of (ErrorValue e) = []
  refs_of (CompositeValue w vs) = refs_of_all vs
  refs_of (RefValue k c) = (k, c) ∷ []

  pub refs_of_all : ValueTrees → List (Kind × ℕ)
  refs_of_all NoValues = []
  refs_of_all (MoreValues v vs) = refs_of v ++ refs_of_all vs

-- whether a value of its kind may refer to cells, and whether one of some may
abbrev pub may_refer : ValueTree → Bool
may_refer (CompositeValue w vs) = true
may_refer (RefValue k c) = true
may_refer _ = false

abbrev pub any_may_refer : ValueTrees → Bool
any_may_refer NoValues = false
any_may_refer (MoreValues v vs) = may_refer v || any_may_refer vs

-- each reference of a value has a property, and of some values, and of a list of references
module _ (P : Kind × ℕ → Type 0) where
  abbrev mutual
    pub AllRefs : ValueTree → Type 0
    AllRefs (IntValue n) = Unit {0}
    AllRefs (BoolValue b) = Unit {0}
    AllRefs (TextValue t) = Unit {0}
    AllRefs VoidValue = Unit {0}
    AllRefs (ErrorValue e) = Unit {0}
    AllRefs (CompositeValue w vs) = AllRefsIn vs
    AllRefs (RefValue k c) = P (k, c)

    pub AllRefsIn : ValueTrees → Type 0
    AllRefsIn NoValues = Unit {0}
    AllRefsIn (MoreValues v vs) = AllRefs v × AllRefsIn vs

  abbrev pub AllListed : List (Kind × ℕ) → Type 0
  AllListed [] = Unit {0}
  AllListed (r ∷ rs) = P r × AllListed rs
