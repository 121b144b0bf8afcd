-- What a process does for an actor that asks, and for each task that needs no actor. The asking actor's task is off
-- the stack, and comes back where the actor goes on.
use Rattle.std.specs.Prelude.{ℕ, Bool, true, false, List}
use Rattle.std.specs.declared.option.Option.{Option}
use Rattle.std.specs.declared.option.Option.TheVariants.{None, Some}
use Rattle.flow_value.specs.Values.{ValueTree, OutcomeTree, GoodOutcome}
use Rattle.flow_trace.specs.declared.line.Line.{Line}
use Rattle.flow_base.specs.ErrorNumbers.{second_waiter, already_set}
use Rattle.flow_numbered.specs.Numbered.{thing, put}
use Rattle.flow_meaning.specs.Cells.{Cell, is_complete}
use Rattle.flow_meaning.specs.Requests.{Spot, Act, Goes, Pass, Drops, Effects, Starts, Operand, Waits, Sends, Cancels, Prints, SendsTo, Returns, Throws, RunsOut, Stuck, Supply}
use Rattle.flow_meaning.specs.Process.{Run, Throw, Keep, Close, Entry, Spent, NoMeaning, Core}
use Rattle.flow_meaning.specs.Lines.{wait_line, print_line}
use Rattle.flow_meaning.specs.Work.{halt, turn, writes, pushed, dropping_values, fill, leave_for, take_branch, first_ready, Registration, Registered, Refused, Missing, register, owner, cancel_owner}
use Rattle.flow_meaning.specs.Effects.{Reaction, quiet, throws, effect, send_to}

-- A send into a cell that nothing more can be sent to throws `already_set`; otherwise a turn, and the cell fires.
abbrev pub send_by : (complete : Bool) → (actor cell : ℕ) → OutcomeTree → Core → Core
send_by true i k o c = pushed (Throw i already_set) c
send_by false i k o c = turn c (λ d. fill k o (pushed (Run i) d))

abbrev pub send_in : Option Cell → (actor cell : ℕ) → OutcomeTree → Core → Core
send_in None i k o c = halt NoMeaning c
send_in (Some cell) i k o c = send_by (is_complete cell) i k o c

abbrev pub print : (actor : ℕ) → Option Line → Core → Core
print i None c = halt NoMeaning c
print i (Some line) c = pushed (Run i) (writes line c)

-- All operands are kept. The first that is ready is taken. Otherwise the actor is registered at all of them in order,
-- the line is written, it is suspended, and then its locals are dropped; where a stream refuses, `second_waiter` is thrown.
abbrev pub at_spot : Spot → Entry → Entry
at_spot spot e = record e { spot = spot }

abbrev pub suspend : (actor : ℕ) → Spot → Entry → List ValueTree → Registration → Core → Core
suspend i spot e vs Missing c = halt NoMeaning c
suspend i spot e vs Refused c = leave_for i e vs (Throw i second_waiter) c
suspend i spot e vs (Registered cells) c =
    dropping_values vs (record (writes (wait_line i spot.group) c)
    { cells = cells; entries = put c.entries i (record e { suspended = true }) })

abbrev pub wait_by : (actor : ℕ) → Spot → Entry → List ValueTree → Option (ℕ × ℕ) → Core → Core
wait_by i spot e vs (Some b) c = take_branch i b.0 b.1 e vs (thing c.cells b.1) c
wait_by i spot e vs None c = suspend i spot e vs (register i 0 e.operands (Registered c.cells)) c

abbrev pub wait : (actor : ℕ) → Spot → Option Entry → List ValueTree → Core → Core
wait i spot None vs c = halt NoMeaning c
wait i spot (Some e) vs c = wait_by i spot (at_spot spot e) vs (first_ready c.cells 0 e.operands) c

-- what a process does for an ask of the actor with this number; the call of a void actor is done where actors are made
abbrev pub react : Supply → (actor : ℕ) → Act → Core → Reaction
react s i Goes c = quiet (pushed (Run i) c)
react s i Pass c = quiet (turn c (λ d. pushed (Run i) d))
react s i (Drops vs) c = quiet (dropping_values vs (pushed (Run i) c))
react s i (Effects goal eff) c = effect s i goal eff c
react s i (Starts class args) c = quiet (halt NoMeaning c)
react s i (Operand spot r) c = quiet (pushed (Keep i spot r) (pushed (Run i) c))
react s i (Waits spot vs) c = quiet (wait i spot (thing c.entries i) vs c)
react s i (Sends k o) c = quiet (send_in (thing c.cells k) i k o c)
react s i (Cancels k) c = quiet (cancel_owner (owner k c.entries) (pushed (Run i) c))
react s i (Prints v) c = quiet (print i (print_line i v) c)
react s i (SendsTo q port text) c = send_to s i q port text c
react s i (Returns v vs) c = quiet (dropping_values vs (pushed (Close i (GoodOutcome v)) c))
react s i (Throws e) c = throws i e c
react s i RunsOut c = quiet (halt Spent c)
react s i Stuck c = quiet (halt NoMeaning c)
