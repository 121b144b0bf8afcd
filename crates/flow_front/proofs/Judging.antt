-- What reading a text comes to, by how far it was read.
use Rattle.std.proofs.Common.{◌≡◌, ℕ, ◌≤◌, List, length, Result, Ok, Err, sym, subst}
use Rattle.flow_tree.specs.declared.limits.TheConstants.{PROGRAM_BYTES}
use Rattle.flow_tree.specs.declared.token.Tokens.{Tokens}
use Rattle.flow_tree.specs.declared.decl.Program.{Program}
use Rattle.flow_tree.specs.declared.fault.SourceFault.{SourceFault}
use Rattle.flow_tree.specs.declared.fault.SourceFault.TheVariants.{Refused, AcrossWait, OutOfMemory}
use Rattle.flow_tree.specs.Lexing.{Lexes, Lexed}
use Rattle.flow_parse.specs.ParseAnswer.{ParseAnswer}
use Rattle.flow_tree.specs.DeclView.{program_of}
use Rattle.flow_types.specs.declared.check.Typed.{Typed}
use Rattle.flow_types.specs.Checked.{Checked}
use Rattle.flow_staterule.specs.declared.sound.Sound.{Sound}
use Rattle.flow_staterule.specs.Answer.{JudgesUses}
use Rattle.flow_front.specs.Verdict.{no_tokens, no_program, Reading, IsProgram, IsTyped, IsSound, unread, breaks, AnswersText}

pub without_tokens : (text : List ℕ) (fault : SourceFault) → length text ≤ PROGRAM_BYTES → Lexed text (Err fault) → Reading text (Err fault)
without_tokens text (Refused rule at) short l = no_tokens short l
without_tokens text (AcrossWait at declared wait) short l = l
without_tokens text OutOfMemory short l = l

pub by_tokens : (text : List ℕ) (tokens : Tokens) (answer : Result Program SourceFault) → length text ≤ PROGRAM_BYTES → Lexes text tokens.spots.items tokens.end → ParseAnswer tokens answer
    → Reading text answer
by_tokens text tokens (Ok p) short l a = record { tokens = tokens; has = record { short = short; lexes = l }; parsed = a }
by_tokens text tokens (Err (Refused rule at)) short l a = no_program tokens (record { short = short; lexes = l }) a
by_tokens text tokens (Err (AcrossWait at declared wait)) short l a = a
by_tokens text tokens (Err OutOfMemory) short l a = a

-- a text that is no program, and a program that isn't accepted
pub unread_verdict : (text : List ℕ) (fault : SourceFault) → Reading text (Err fault) → AnswersText text (Err fault)
unread_verdict text (Refused rule at) v = unread v
unread_verdict text (AcrossWait at declared wait) v = absurd v
unread_verdict text OutOfMemory v = v

-- a program that a rule on what it means refuses
pub checked_verdict : (text : List ℕ) (p : Program) (fault : SourceFault) → IsProgram text p → Checked (program_of p) (Err fault) → AnswersText text (Err fault)
checked_verdict text p (Refused rule at) i c = breaks p i c
checked_verdict text p (AcrossWait at declared wait) i c = absurd c
checked_verdict text p OutOfMemory i c = tt

-- a program that these rules accept
pub typed_text : (text : List ℕ) (p : Program) (t : Typed) → IsProgram text p → Checked (program_of p) (Ok t) → t.program ≡ p → IsTyped text t.program
typed_text text p t i c e = subst (IsTyped text) (sym e) (record { read = i; accepted = c })

-- and that the rule on state was asked of
pub state_verdict : (text : List ℕ) (t : Typed) (answer : Result Sound SourceFault) → IsTyped text t.program → JudgesUses t answer → AnswersText text answer
state_verdict text t (Ok s) i a = subst (λ x. IsSound text x.program) (sym a.0) (record { typed = i; kept = a.1 })
state_verdict text t (Err (Refused rule at)) i a = absurd a
state_verdict text t (Err (AcrossWait at declared wait)) i a = (t.program, record { typed = i; first = a })
state_verdict text t (Err OutOfMemory) i a = tt
