-- The classes of a program that the front accepts are valid.
use Rattle.std.specs.Prelude.{◌≡◌, ℕ, true, List, slice_get}
use Rattle.std.specs.declared.option.Option.TheVariants.{None, Some}
use Rattle.flow_tree.specs.declared.decl.Program.{Program}
use Rattle.flow_tree.specs.DeclView.{program_of}
use Rattle.flow_class.specs.Classes.{ClassTree, RawTree}
use Rattle.flow_lower.specs.Compiled.{compiled}
use Rattle.flow_front.specs.Verdict.{IsTyped, IsSound}
use Rattle.flow_valid.specs.Heads.{declarations_kept, broken_head, has_main}
use Rattle.flow_valid.specs.Validity.{broken_rule, IsValid}

-- Their records and functions keep the rules on declarations, no head breaks its rule, there is a `main`, and no class
-- breaks one of the rules V3 to V7.
pub record KeepsRules (r : RawTree) : Type 0 where
  pub declarations : declarations_kept r ≡ true
  pub heads : broken_head r ≡ None
  pub main : has_main r ≡ true
  pub classes : (i : ℕ) (c : ClassTree) → slice_get r.classes i ≡ Some c → broken_rule r c ≡ None

-- so it is for each text that is a program, in which no rule K1 to K12 or L8 fails
abbrev pub CompilesWithinRules : Type 0
CompilesWithinRules = (text : List ℕ) (program : Program) → IsTyped text program → KeepsRules (compiled (program_of program))

-- And for each text that the front accepts, in which no use of a local is lost either, all rules hold: its classes are
-- valid, so they read only what is filled too.
abbrev pub CompilesValid : Type 0
CompilesValid = (text : List ℕ) (program : Program) → IsSound text program → IsValid (compiled (program_of program))
