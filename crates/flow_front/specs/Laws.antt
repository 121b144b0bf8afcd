-- What holds of the verdict on any text.
use Rattle.std.specs.Prelude.{◌≡◌, ℕ, List}
use Rattle.flow_base.specs.declared.place.Place.{Place}
use Rattle.flow_tree.specs.declared.decl.Program.{Program}
use Rattle.flow_tree.specs.declared.fault.Rule.{Rule}
use Rattle.flow_tree.specs.DeclView.{program_of}
use Rattle.flow_staterule.specs.declared.rule.Lost.{Lost}
use Rattle.flow_front.specs.Verdict.{IsUnread, IsProgram, IsRefused, IsTyped, IsSound, IsLost}

-- A text is one program at most; where it is none or is refused, that is told by one rule at one place at most; where it loses a local,
-- by one use of it at most; it is never a program and none, and never two of sound, refused and losing a local.
pub record OneVerdict (text : List ℕ) : Type 0 where
  pub program : (p q : Program) → IsProgram text p → IsProgram text q → program_of p ≡ program_of q
  pub refusal : (r s : Rule) (p q : Place) → IsRefused text r p → IsRefused text s q → (r ≡ s) × (p ≡ q)
  pub lost : (p q : Program) (l m : Lost) → IsLost text p l → IsLost text q m → l ≡ m
  pub unread : (r s : Rule) (p q : Place) → IsUnread text r p → IsUnread text s q → (r ≡ s) × (p ≡ q)
  pub read_or_unread : (program : Program) (r : Rule) (p : Place) → IsProgram text program → IsUnread text r p → ⊥
  pub typed_or_refused : (program : Program) (r : Rule) (p : Place) → IsTyped text program → IsRefused text r p → ⊥
  pub sound_or_lost : (p q : Program) (l : Lost) → IsSound text p → IsLost text q l → ⊥
