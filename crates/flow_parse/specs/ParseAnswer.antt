-- What `parse` answers.
use Rattle.std.specs.Prelude.{◌≡◌, ℕ, suc, ◌≤◌, ◌<◌, take, length, ◌⊎◌, Result, Ok, Err}
use Rattle.flow_base.specs.declared.place.Place.{Place}
use Rattle.flow_tree.specs.declared.token.Tokens.{Tokens}
use Rattle.flow_tree.specs.declared.decl.Program.{Program}
use Rattle.flow_tree.specs.declared.fault.Rule.TheVariants.{S, L, K}
use Rattle.flow_tree.specs.declared.fault.SourceFault.{SourceFault}
use Rattle.flow_tree.specs.declared.fault.SourceFault.TheVariants.{Refused, AcrossWait, OutOfMemory}
use Rattle.flow_tree.specs.Decls.{ProgramTree}
use Rattle.flow_tree.specs.DeclView.{program_of}
use Rattle.flow_tree.specs.GrammarToken.{Derives, Good}
use Rattle.flow_tree.specs.GrammarDecl.{ProgramRule, IsProgram}
use Rattle.flow_tree.specs.GrammarAnswer.{place_at}
use Rattle.flow_tree.specs.declared.limits.TheConstants.{TOKENS}

-- The tokens up to the one of this number, it among them, are good within Ln: some program begins
-- with them, and what has begun of it keeps the limits L3 to Ln; with n below 3 there is no limit.
-- The end counts as one more token, and up to it the tokens are good where they are a whole program.
pub data GoodTo (t : Tokens) (n : ℕ) : ℕ → Type 0 where
  begun : {k : ℕ} → k < length t.spots.items → Good (ProgramRule t.end) n (take (suc k) t.spots.items) → GoodTo t n k
  whole : (p : ProgramTree) → Derives (ProgramRule t.end) n t.spots.items p → GoodTo t n (length t.spots.items)

-- The token of this number, at this place, is the first one such that the tokens up to it aren't good
-- within L7. They aren't good within Ln, and they are within the limits below.
pub record FailsBy (n : ℕ) (t : Tokens) (at : Place) : Type 0 where
  pub few : length t.spots.items ≤ TOKENS
  pub number : ℕ
  pub within : number ≤ length t.spots.items
  pub place : at ≡ place_at t number
  pub first : (k : ℕ) → k < number → GoodTo t 7 k
  pub bad : GoodTo t n number → ⊥

-- no program at all begins so
abbrev pub FailsAtAll : Tokens → Place → Type 0
FailsAtAll t at = FailsBy 2 t at

-- the limit Ln is the first of L3 to L7 that can't be kept
pub record FailsLimit (n : ℕ) (t : Tokens) (at : Place) : Type 0 where
  pub least : 3 ≤ n
  pub greatest : n ≤ 7
  pub fails : FailsBy n t at
  pub below : (m : ℕ) → m < n → GoodTo t m fails.number

-- there are more than 200,000 tokens, and this is the place of the first of them that is too many
pub record TooMany (t : Tokens) (at : Place) : Type 0 where
  pub many : TOKENS < length t.spots.items
  pub place : at ≡ place_at t TOKENS

abbrev pub LimitAnswer : ℕ → Tokens → Place → Type 0
LimitAnswer n t at = ((n ≡ 2) × TooMany t at) ⊎ FailsLimit n t at

-- the program that the tokens are; or S5 or a limit, at the first token that fails; want of memory may
-- come anywhere
abbrev pub ParseAnswer : Tokens → Result Program SourceFault → Type 0
ParseAnswer t (Ok p) = (length t.spots.items ≤ TOKENS) × IsProgram t (program_of p)
ParseAnswer t (Err (Refused (S n) at)) = (n ≡ 5) × FailsAtAll t at
ParseAnswer t (Err (Refused (L n) at)) = LimitAnswer n t at
ParseAnswer t (Err (Refused (K n) at)) = ⊥
ParseAnswer t (Err (AcrossWait at declared wait)) = ⊥
ParseAnswer t (Err OutOfMemory) = Unit {0}
