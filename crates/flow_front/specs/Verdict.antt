-- What a program text comes to: why it is refused, and where, or the program that it is.
use Rattle.std.specs.Prelude.{◌≡◌, ℕ, ◌≤◌, ◌<◌, List, length, Result, Ok, Err}
use Rattle.std.specs.declared.option.Option.TheVariants.{None, Some}
use Rattle.flow_tree.specs.declared.limits.TheConstants.{PROGRAM_BYTES}
use Rattle.flow_base.specs.declared.place.Place.{Place}
use Rattle.flow_tree.specs.declared.token.Tokens.{Tokens}
use Rattle.flow_tree.specs.declared.decl.Program.{Program}
use Rattle.flow_tree.specs.declared.fault.Rule.{Rule}
use Rattle.flow_tree.specs.declared.fault.Rule.TheVariants.{L}
use Rattle.flow_tree.specs.declared.fault.SourceFault.{SourceFault}
use Rattle.flow_tree.specs.declared.fault.SourceFault.TheVariants.{Refused, AcrossWait, OutOfMemory}
use Rattle.flow_tree.specs.DeclView.{program_of}
use Rattle.flow_tree.specs.Lexing.{Lexes, LexFault}
use Rattle.flow_tree.specs.Canon.{first_place}
use Rattle.flow_parse.specs.ParseAnswer.{ParseAnswer}
use Rattle.flow_rules.specs.Rules.{refusal_of}
use Rattle.flow_staterule.specs.declared.sound.Sound.{Sound}
use Rattle.flow_staterule.specs.declared.rule.Lost.{Lost}
use Rattle.flow_staterule.specs.StateRule.{first_lost}

-- the text has at most 1,048,576 bytes, and these are its tokens
pub record HasTokens (text : List ℕ) (tokens : Tokens) : Type 0 where
  pub short : length text ≤ PROGRAM_BYTES
  pub lexes : Lexes text tokens.spots.items tokens.end

-- the text is no program: its size, its first lexical refusal, or what its tokens are refused for
pub data IsUnread (text : List ℕ) : Rule → Place → Type 0 where
  too_long : PROGRAM_BYTES < length text → IsUnread text (L 1) first_place
  no_tokens : {rule : Rule} {at : Place} → length text ≤ PROGRAM_BYTES → LexFault text rule at → IsUnread text rule at
  no_program : {rule : Rule} {at : Place} → (tokens : Tokens) → HasTokens text tokens → ParseAnswer tokens (Err (Refused rule at))
      → IsUnread text rule at

-- the text is this program
pub record IsProgram (text : List ℕ) (p : Program) : Type 0 where
  pub tokens : Tokens
  pub has : HasTokens text tokens
  pub parsed : ParseAnswer tokens (Ok p)

-- what reading a text comes to; want of memory may come anywhere
abbrev pub Reading : List ℕ → Result Program SourceFault → Type 0
Reading text (Ok p) = IsProgram text p
Reading text (Err (Refused rule at)) = IsUnread text rule at
Reading text (Err (AcrossWait at declared wait)) = ⊥
Reading text (Err OutOfMemory) = Unit {0}

-- the text is this program, and none of the rules K1 to K12 and L8 refuses it
pub record IsTyped (text : List ℕ) (p : Program) : Type 0 where
  pub read : IsProgram text p
  pub accepted : refusal_of (program_of p) ≡ None

-- nor is a use of a local lost in it
pub record IsSound (text : List ℕ) (p : Program) : Type 0 where
  pub typed : IsTyped text p
  pub kept : first_lost (program_of p).decls ≡ None

-- the text is this program, which these rules accept, and the first use of a local that is lost in it is this one
pub record IsLost (text : List ℕ) (p : Program) (l : Lost) : Type 0 where
  pub typed : IsTyped text p
  pub first : first_lost (program_of p).decls ≡ Some l

-- the text is refused: it is no program, or one of the rules K1 to K12 and L8 refuses the program that it is
pub data IsRefused (text : List ℕ) : Rule → Place → Type 0 where
  unread : {rule : Rule} {at : Place} → IsUnread text rule at → IsRefused text rule at
  breaks : {rule : Rule} {at : Place} → (p : Program) → IsProgram text p → refusal_of (program_of p) ≡ Some (rule, at)
      → IsRefused text rule at

-- What the front answers; want of memory may come anywhere.
abbrev pub AnswersText : List ℕ → Result Sound SourceFault → Type 0
AnswersText text (Ok s) = IsSound text s.typed.program
AnswersText text (Err (Refused rule at)) = IsRefused text rule at
AnswersText text (Err (AcrossWait at declared wait)) = (p : Program) × IsLost text p (record { at = at; declared = declared; wait = wait })
AnswersText text (Err OutOfMemory) = Unit {0}
