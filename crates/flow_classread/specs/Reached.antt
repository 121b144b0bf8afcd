-- How far a class text was read.
use Rattle.std.specs.Prelude.{◌≡◌, ℕ, List, map, slice_get, Result, Ok, Err}
use Rattle.std.specs.Option.{option_and_then}
use Rattle.flow_base.specs.declared.place.Place.{Place}
use Rattle.flow_tree.specs.declared.fault.Rule.{Rule}
use Rattle.flow_tree.specs.declared.fault.SourceFault.{SourceFault}
use Rattle.flow_tree.specs.declared.fault.SourceFault.TheVariants.{Refused, AcrossWait}
use Rattle.flow_tree.specs.declared.fault.SourceFault.TheVariants as source
use Rattle.flow_tree.specs.declared.token.Tokens.{Tokens}
use Rattle.flow_tree.specs.Lexing.{Lexes, LexFault}
use Rattle.flow_class.specs.declared.class.RawClasses.{RawClasses}
use Rattle.flow_class.specs.Classes.{ClassTree}
use Rattle.flow_class.specs.View.{raw_of}
use Rattle.flow_validate.specs.declared.invalid.Invalid.{Invalid}
use Rattle.flow_validate.specs.declared.invalid.Invalid.TheVariants as judged
use Rattle.flow_classread.specs.declared.fault.ClassFault.{ClassFault}
use Rattle.flow_classread.specs.declared.fault.ClassFault.TheVariants as fault
use Rattle.flow_classread.specs.ClassAnswer.{IsClassText, IsNoText}

-- a refusal of tokens or of their grammar as one of class text
abbrev pub form_of : SourceFault → ClassFault
form_of (Refused rule at) = fault.Form at.line
form_of (AcrossWait at declared wait) = fault.Form at.line
form_of source.OutOfMemory = fault.OutOfMemory

-- the tokens of a text, or the line of its lexical refusal
pub record IsLexical (bytes : List ℕ) (line : ℕ) : Type 0 where
  pub rule : Rule
  pub at : Place
  pub refused : LexFault bytes rule at
  pub line_is : line ≡ at.line

abbrev pub TokensAnswer : List ℕ → Result Tokens ClassFault → Type 0
TokensAnswer bytes (Ok t) = Lexes bytes t.spots.items t.end
TokensAnswer bytes (Err (fault.Form line)) = IsLexical bytes line
TokensAnswer bytes (Err fault.OutOfMemory) = Unit {0}
TokensAnswer bytes (Err _) = ⊥

-- the records, functions and classes that a text is, or the line where it isn't one
abbrev pub RawAnswer : List ℕ → Result RawClasses ClassFault → Type 0
RawAnswer bytes (Ok raw) = IsClassText bytes (raw_of raw)
RawAnswer bytes (Err (fault.Form line)) = IsNoText bytes line
RawAnswer bytes (Err fault.OutOfMemory) = Unit {0}
RawAnswer bytes (Err _) = ⊥

-- the names of classes in order
abbrev pub class_names : List ClassTree → List (List ℕ)
class_names cs = map (λ (c : ClassTree). c.name) cs

-- a refusal of classes with these names, where there was memory for the name
abbrev pub RefusalAnswer : List (List ℕ) → ClassFault → Invalid → Type 0
RefusalAnswer names fault.OutOfMemory i = Unit {0}
RefusalAnswer names (fault.Invalid k class) (judged.Rule rule number) =
    (k ≡ rule) × (class ≡ option_and_then (λ n. slice_get names n) number)
RefusalAnswer names _ _ = ⊥
