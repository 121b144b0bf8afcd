-- What `read_classes` answers.
use Rattle.std.specs.Prelude.{◌≡◌, ℕ, suc, ◌+◌, ◌^◌, ◌≤◌, ◌<◌, List, take, length, slice_get, Result, Ok, Err}
use Rattle.std.specs.Option.{option_map}
use Rattle.std.specs.declared.option.Option.{Option}
use Rattle.std.specs.declared.option.Option.TheVariants.{None, Some}
use Rattle.flow_base.specs.declared.place.Place.{Place}
use Rattle.flow_tree.specs.declared.fault.Rule.{Rule}
use Rattle.flow_tree.specs.declared.limits.TheConstants.{OF_CLASS_TEXT}
use Rattle.flow_tree.specs.declared.token.Spot.{Spot}
use Rattle.flow_tree.specs.declared.token.Tokens.{Tokens}
use Rattle.flow_tree.specs.Lexing.{Lexes, LexFault}
use Rattle.flow_tree.specs.GrammarToken.{DerivesOf, GoodOf}
use Rattle.flow_tree.specs.GrammarAnswer.{place_at}
use Rattle.flow_class.specs.declared.class.RawClasses.{RawClasses}
use Rattle.flow_class.specs.Classes.{ClassTree, RawTree}
use Rattle.flow_class.specs.View.{raw_of}
use Rattle.flow_classprint.specs.ClassGrammar.{TextRule}
use Rattle.flow_valid.specs.Validity.{IsValid, Breaks}
use Rattle.flow_classread.specs.declared.fault.ClassFault.{ClassFault}
use Rattle.flow_classread.specs.declared.fault.ClassFault.TheVariants.{Form, Invalid, TooLarge, OutOfMemory}
use Rattle.flow_classread.specs.declared.read.TheConstants.{CLASS_BYTES}

-- The tokens are these records, functions and classes by the grammar, and nothing is deeper than 64.
abbrev pub DerivesClasses : List Spot → RawTree → Type 0
DerivesClasses spots raw = DerivesOf OF_CLASS_TEXT TextRule 7 spots raw

-- A class text begins with the tokens up to the one of this number, it among them, and what has begun of it isn't deeper than 64.
-- The end counts as one more token, and up to it the tokens begin one where they are a whole one.
pub data BeginsText (t : Tokens) : ℕ → Type 0 where
  begun : {k : ℕ} → k < length t.spots.items → GoodOf OF_CLASS_TEXT TextRule 7 (take (suc k) t.spots.items) → BeginsText t k
  whole : (raw : RawTree) → DerivesClasses t.spots.items raw → BeginsText t (length t.spots.items)

-- This is the line of the first token such that no class text begins with the tokens up to it.
pub record FailsIn (t : Tokens) (line : ℕ) : Type 0 where
  pub number : ℕ
  pub within : number ≤ length t.spots.items
  pub line_is : line ≡ (place_at t number).line
  pub first : (k : ℕ) → k < number → BeginsText t k
  pub bad : BeginsText t number → ⊥

-- The text is these records, functions and classes, and no others.
pub record IsClassText (bytes : List ℕ) (raw : RawTree) : Type 0 where
  pub short : length bytes ≤ CLASS_BYTES
  pub spots : List Spot
  pub end : Place
  pub lexes : Lexes bytes spots end
  pub derives : DerivesClasses spots raw
  pub only : (other : RawTree) → DerivesClasses spots other → other ≡ raw

-- The text is none: it has a lexical refusal in this line, or else fails there.
pub data IsNoText (bytes : List ℕ) (line : ℕ) : Type 0 where
  lexical : (rule : Rule) (at : Place) → length bytes ≤ CLASS_BYTES → LexFault bytes rule at → line ≡ at.line → IsNoText bytes line
  form : (t : Tokens) → length bytes ≤ CLASS_BYTES → Lexes bytes t.spots.items t.end → FailsIn t line → IsNoText bytes line

-- the name of a class by its number, where one is told
abbrev pub class_name : RawTree → Option ℕ → Option (List ℕ)
class_name raw None = None
class_name raw (Some k) = option_map (λ (c : ClassTree). c.name) (slice_get raw.classes k)

-- The text's classes break this rule first, in the class of this name, where it is one.
pub record BreaksFirst (bytes : List ℕ) (rule : ℕ) (class : Option (List ℕ)) : Type 0 where
  pub raw : RawTree
  pub text : IsClassText bytes raw
  pub number : Option ℕ
  pub breaks : Breaks raw rule number
  pub name : class ≡ class_name raw number

-- each class has fewer than 2^24 slots and locals together
abbrev pub HaveSmallFrames : RawTree → Type 0
HaveSmallFrames raw = (k : ℕ) (c : ClassTree) → slice_get raw.classes k ≡ Some c → length c.slots + length c.locals < 2 ^ 24

-- the text's valid classes; else why it is refused; want of memory may come at any time
abbrev pub ClassAnswer : List ℕ → Result RawClasses ClassFault → Type 0
ClassAnswer bytes (Ok c) = IsClassText bytes (raw_of c) × IsValid (raw_of c) × HaveSmallFrames (raw_of c)
ClassAnswer bytes (Err TooLarge) = CLASS_BYTES < length bytes
ClassAnswer bytes (Err (Form line)) = IsNoText bytes line
ClassAnswer bytes (Err (Invalid rule class)) = BreaksFirst bytes rule class
ClassAnswer bytes (Err OutOfMemory) = Unit {0}
