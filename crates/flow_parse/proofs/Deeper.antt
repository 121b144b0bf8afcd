-- Refusals of a part whose parameter is written in another way, and of a part that is a statement.
use Rattle.std.proofs.Common.{◌≡◌, ℕ, suc, ◌+◌, ◌≤◌, ◌<◌, List, length, arith, subst}
use Rattle.std.specs.Prelude.{Ok, Err}
use Rattle.flow_tree.specs.declared.limits.Limits.{Limits}
use Rattle.flow_tree.specs.declared.token.Tokens.{Tokens}
use Rattle.flow_tree.specs.declared.fault.SourceFault.{SourceFault}
use Rattle.flow_tree.specs.GrammarToken.{Marked}
use Rattle.flow_tree.specs.GrammarStmt.{Counts}
use Rattle.flow_parse.specs.Reading.{Reads}
use Rattle.flow_parse.specs.Failing.{Fails}
use Rattle.flow_parse.specs.Parts.{Begun}
use Rattle.flow_parse.proofs.Leaves.{answer_begun}

pub moved_fails : (limits : Limits) → {P A : Type 0} {p q : P} (R : P → List Marked → A → Type 0) (F : A → List Marked → Type 0) (t : Tokens) (at : ℕ) (e : SourceFault) → p ≡ q
    → Fails limits (R p) F t at e → Fails limits (R q) F t at e
moved_fails limits R F t at e h a = subst (λ k. Fails limits (R k) F t at e) h a

pub deeper_fails : (limits : Limits) → {A : Type 0} (R : ℕ → List Marked → A → Type 0) (F : A → List Marked → Type 0) (t : Tokens) (at d : ℕ) (e : SourceFault) → Fails limits (R (d + 1)) F t at e
    → Fails limits (R (suc d)) F t at e
deeper_fails limits R F t at d e a = let h : d + 1 ≡ suc d = omega arith in moved_fails limits R F t at e h a

module _ (limits : Limits) {A : Type 0} (R : List Marked → A → Type 0) (F : A → List Marked → Type 0) (t : Tokens) (from : ℕ) (c : Counts) (d : ℕ) (h : from ≤ length t.spots.items)
    (few : c.statements < limits.statements) (shallow : d ≤ 64) where
  pub begun_reads : (a : A) (to : ℕ) → Reads limits R F t.spots.items from a to → Reads limits (Begun c d R) F t.spots.items from a to
  begun_reads a to r = answer_begun limits R F (λ x. x) (λ x. to) t from c d h few shallow (Ok a) r

  pub begun_fails : (e : SourceFault) → Fails limits R F t from e → Fails limits (Begun c d R) F t from e
  begun_fails e r = answer_begun limits R F (λ x. x) (λ x. from) t from c d h few shallow (Err e) r
