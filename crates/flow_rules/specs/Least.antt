-- The least rule that fails: a rule is read only where the ones before it hold.
use Rattle.std.specs.Prelude.{ℕ, Bool, true, false, nat_lt, if◌then◌else◌}
use Rattle.std.specs.declared.option.Option.{Option}
use Rattle.std.specs.declared.option.Option.TheVariants.{None, Some}
use Rattle.flow_rules.specs.declared.rule.SemanticRule.{SemanticRule}
use Rattle.flow_rules.specs.declared.rule.SemanticRule.TheVariants.{UnknownName, TakenName, WrongType, WrongCount, EffectInside, NotInFunction, NeedsValue, FallsOff, BreakOutside, WaitInFunction, NoMain, LostValue}

-- the number of a rule, behind the letter K
abbrev pub number : SemanticRule → ℕ
number UnknownName = 1
number TakenName = 2
number WrongType = 3
number WrongCount = 4
number EffectInside = 5
number NotInFunction = 6
number NeedsValue = 7
number FallsOff = 8
number BreakOutside = 9
number WaitInFunction = 10
number NoMain = 11
number LostValue = 12

-- the one with the lesser number
abbrev pub first_of : SemanticRule → SemanticRule → SemanticRule
first_of m n = if nat_lt (number n) (number m) then n else m

-- the lesser of two rules, where one fails that one
abbrev pub lesser : Option SemanticRule → Option SemanticRule → Option SemanticRule
lesser None y = y
lesser (Some m) None = Some m
lesser (Some m) (Some n) = Some (first_of m n)

-- this rule fails unless that holds
abbrev pub unless : Bool → SemanticRule → Option SemanticRule
unless true k = None
unless false k = Some k
