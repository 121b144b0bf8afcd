-- What holds of reading any text.
use Rattle.std.specs.Prelude.{◌≡◌, ℕ, List}
use Rattle.flow_base.specs.declared.place.Place.{Place}
use Rattle.flow_tree.specs.declared.token.Spot.{Spot}
use Rattle.flow_tree.specs.declared.fault.Rule.{Rule}
use Rattle.flow_tree.specs.Lexing.{Lexes, LexFault}

-- a text has one list of tokens at most, one refusal at most, and never both
pub record ReadsOnce (bytes : List ℕ) : Type 0 where
  pub tokens : (s t : List Spot) (p q : Place) → Lexes bytes s p → Lexes bytes t q → (s ≡ t) × (p ≡ q)
  pub fault : (r s : Rule) (p q : Place) → LexFault bytes r p → LexFault bytes s q → (r ≡ s) × (p ≡ q)
  pub either : (s : List Spot) (e : Place) (r : Rule) (p : Place) → Lexes bytes s e → LexFault bytes r p → ⊥

-- a text has tokens, or a refusal
pub data HasVerdict (bytes : List ℕ) : Type 0 where
  read : (spots : List Spot) (end : Place) → Lexes bytes spots end → HasVerdict bytes
  refused : (rule : Rule) (at : Place) → LexFault bytes rule at → HasVerdict bytes
