-- The lines that a process writes, from plain numbers.
use Rattle.std.specs.Prelude.{ℕ, List}
use Rattle.std.specs.declared.option.Option.{Option}
use Rattle.std.specs.declared.option.Option.TheVariants.{None, Some}
use Rattle.flow_base.specs.declared.ids.ActorId.{ActorId}
use Rattle.flow_base.specs.declared.ids.CellId.{CellId}
use Rattle.flow_base.specs.declared.ids.ErrorCode.{ErrorCode}
use Rattle.flow_value.specs.Values.{ValueTree, IntValue, BoolValue, TextValue, OutcomeTree, GoodOutcome, BadOutcome}
use Rattle.flow_trace.specs.declared.line.Line.{Line}
use Rattle.flow_trace.specs.declared.line.Line.TheVariants.{Start, Wait, Take, Throw, Catch, Fail, Finish, Cancel, Broken, PrintInt, PrintBool, PrintText}

abbrev pub actor_id : ℕ → ActorId
actor_id n = record { 0 = n }

abbrev pub cell_id : ℕ → CellId
cell_id n = record { 0 = n }

abbrev pub error_code : ℕ → ErrorCode
error_code n = record { 0 = n }

abbrev pub start_line : (actor : ℕ) → List ℕ → Line
start_line i name = Start (actor_id i) name

abbrev pub wait_line : (actor group : ℕ) → Line
wait_line i g = Wait (actor_id i) g

abbrev pub take_line : (actor group branch : ℕ) → Line
take_line i g b = Take (actor_id i) g b

abbrev pub throw_line : (actor error : ℕ) → Line
throw_line i e = Throw (actor_id i) (error_code e)

abbrev pub catch_line : (actor error : ℕ) → Line
catch_line i e = Catch (actor_id i) (error_code e)

abbrev pub cancel_line : (actor : ℕ) → Line
cancel_line i = Cancel (actor_id i)

abbrev pub broken_line : (cell : ℕ) → Line
broken_line k = Broken (cell_id k)

-- the line of an actor's end, by its outcome
abbrev pub end_line : (actor : ℕ) → OutcomeTree → Line
end_line i (GoodOutcome v) = Finish (actor_id i)
end_line i (BadOutcome e) = Fail (actor_id i) (error_code e)

-- the line of a printed value; a number, a truth value or a text is printed
abbrev pub print_line : (actor : ℕ) → ValueTree → Option Line
print_line i (IntValue n) = Some (PrintInt (actor_id i) n)
print_line i (BoolValue b) = Some (PrintBool (actor_id i) b)
print_line i (TextValue t) = Some (PrintText (actor_id i) t)
print_line i _ = None
