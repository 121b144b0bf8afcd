-- What the code tells of classes, one after another.
use Rattle.std.specs.Prelude.{◌≡◌, ℕ, ◌<◌, true, List, slice_get}
use Rattle.std.specs.declared.option.Option.{Option}
use Rattle.std.specs.declared.option.Option.TheVariants.{None, Some}
use Rattle.flow_types.specs.declared.top_names.TopNames.{TopNames}
use Rattle.flow_types.specs.ProgramView.{setting_by}
use Rattle.flow_rules.specs.Rules.{setting_of}
use Rattle.flow_class.specs.Classes.{ClassTree, RawTree}
use Rattle.flow_validate.specs.declared.invalid.Invalid.{Invalid}
use Rattle.flow_validate.specs.declared.invalid.Invalid.TheVariants as invalid
use Rattle.flow_valid.specs.declared.rule.ClassRule.{ClassRule}
use Rattle.flow_valid.specs.Heads.{all_decls, declarations_kept, broken_head, has_main}
use Rattle.flow_valid.specs.Validity.{IsSoundClass, BreaksIn, Breaks}

-- a class breaks no rule, or a first one
abbrev pub ClassTold : RawTree → ClassTree → Option ClassRule → Type 0
ClassTold r c None = IsSoundClass r c
ClassTold r c (Some k) = BreaksIn r c k

-- a refusal tells the first rule that is broken, and where; want of memory tells nothing
abbrev pub IsRightRefusal : RawTree → Invalid → Type 0
IsRightRefusal r (invalid.Rule k c) = Breaks r k c
IsRightRefusal r invalid.OutOfMemory = Unit {0}

-- what the names at the top show is what the whole program declares
abbrev pub Sees : RawTree → TopNames → Type 0
Sees r n = setting_by n ≡ setting_of (all_decls r)

-- the rules V1 and V2 hold
pub record AreHeadsKept (r : RawTree) : Type 0 where
  pub declarations : declarations_kept r ≡ true
  pub heads : broken_head r ≡ None
  pub main : has_main r ≡ true

-- all classes are sound
abbrev pub AreSoundClasses : RawTree → Type 0
AreSoundClasses r = (i : ℕ) (c : ClassTree) → slice_get r.classes i ≡ Some c → IsSoundClass r c

-- the first of these classes are sound in each class program in which the names are these
abbrev pub AreSoundBelow : TopNames → List ClassTree → (count : ℕ) → Type 0
AreSoundBelow n cs count = (r : RawTree) → Sees r n → (i : ℕ) (c : ClassTree) → i < count → slice_get cs i ≡ Some c → IsSoundClass r c
