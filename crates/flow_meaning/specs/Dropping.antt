-- Drops: what follows where a reference to a side of a cell counts no more.
use Rattle.std.specs.Prelude.{ℕ, zero, suc, nat_eq, Bool, true, false, List, [], ◌∷◌, if◌then◌else◌}
use Rattle.std.specs.declared.option.Option.{Option}
use Rattle.std.specs.declared.option.Option.TheVariants.{None, Some}
use Rattle.flow_base.specs.ErrorNumbers.{broken_promise}
use Rattle.flow_value.specs.declared.value.Kind.{Kind}
use Rattle.flow_value.specs.Values.{OutcomeTree, BadOutcome}
use Rattle.flow_numbered.specs.Numbered.{Numbered, thing, removed}
use Rattle.flow_meaning.specs.Cells.{Side, PromiseSide, FutureSide, side_of, Cell, is_complete, is_ready, waiters, Waiter}
use Rattle.flow_meaning.specs.Process.{Fire, Entry, NoMeaning, Core}
use Rattle.flow_meaning.specs.Lines.{broken_line, end_line}
use Rattle.flow_meaning.specs.References.{value_in, Scan, reference_count}
use Rattle.flow_meaning.specs.Work.{halt, turn, writes, pushed, dropping_values, fill, free, take_branch, owner, cancel}

-- What a lost reference leads to: nothing more; the cell is freed; the cell is broken; the actor of its result is
-- cancelled; the port of its stream is freed.
pub data Loss : Type 0 where
  Kept : Loss
  Freed : Loss
  Broken : Loss
  Orphan : (actor : ℕ) → Entry → Loss
  Unheard : (port : ℕ) → Loss

-- the port of a stream
abbrev pub port_of : ℕ → Numbered ℕ → Option ℕ
port_of k [] = None
port_of k (x ∷ xs) = if nat_eq k x.1 then Some x.0 else port_of k xs

-- no promise is left of a cell that futures refer to
abbrev pub promises_gone : (complete : Bool) → Loss
promises_gone true = Kept
promises_gone false = Broken

-- no future is left of a cell that promises refer to: of the result of an unfinished and unmarked actor, of a port's stream
abbrev pub futures_gone : Option (ℕ × Entry) → Option ℕ → Loss
futures_gone (Some o) port = Orphan o.0 o.1
futures_gone None (Some port) = Unheard port
futures_gone None None = Kept

-- the first case that holds, by the side that lost a reference and the places that still refer to each side
abbrev pub loss : Side → (promises futures : ℕ) → Cell → Option (ℕ × Entry) → Option ℕ → Loss
loss s zero zero cell o port = Freed
loss PromiseSide zero (suc f) cell o port = promises_gone (is_complete cell)
loss PromiseSide (suc p) f cell o port = Kept
loss FutureSide (suc p) zero cell o port = futures_gone o port
loss FutureSide p (suc f) cell o port = Kept

-- a cell is broken: a turn, the line, the error of a broken promise
abbrev pub break_cell : ℕ → Core → Core
break_cell k c = turn c (λ d. fill k (BadOutcome broken_promise) (writes (broken_line k) d))

abbrev pub suffer : ℕ → Loss → Core → Core
suffer k Kept c = c
suffer k Freed c = free k c
suffer k Broken c = break_cell k c
suffer k (Orphan i e) c = cancel i e c
suffer k (Unheard port) c = free k (record c { ports = removed c.ports port })

-- a reference to that side counts no more
abbrev pub lose_cell : Scan → Side → ℕ → Option Cell → Core → Core
lose_cell scan s k None c = halt NoMeaning c
lose_cell scan s k (Some cell) c =
    suffer k (loss s (reference_count scan PromiseSide k c) (reference_count scan FutureSide k c) cell (owner k c.entries)
    (port_of k c.ports)) c

abbrev pub lose_ref : Scan → Side → ℕ → Core → Core
lose_ref scan s k c = lose_cell scan s k (thing c.cells k) c

-- the task Drop: a turn, and the reference counts no more
abbrev pub drop : Scan → Kind → ℕ → Core → Core
drop scan kind k c = turn c (λ d. lose_ref scan (side_of kind) k d)

-- The task Fire: the oldest waiter takes its branch, and the fire goes on after it. It ends, without a turn, where no
-- waiter is left or, on a stream, neither element nor end.
abbrev pub fire_to : ℕ → Cell → Waiter → Option Entry → Core → Core
fire_to k cell w None c = halt NoMeaning c
fire_to k cell w (Some e) c = take_branch w.actor w.branch k e [] (Some cell) (pushed (Fire k) c)

abbrev pub fire_at : Scan → ℕ → Cell → (ready : Bool) → List Waiter → Core → Core
fire_at scan k cell ready [] c = lose_ref scan FutureSide k c
fire_at scan k cell false (w ∷ ws) c = lose_ref scan FutureSide k c
fire_at scan k cell true (w ∷ ws) c = fire_to k cell w (thing c.entries w.actor) c

abbrev pub fire_cell : Scan → ℕ → Option Cell → Core → Core
fire_cell scan k None c = halt NoMeaning c
fire_cell scan k (Some cell) c = fire_at scan k cell (is_ready cell) (waiters cell) c

abbrev pub fire : Scan → ℕ → Core → Core
fire scan k c = fire_cell scan k (thing c.cells k) c

-- The task Close, when the actor is gone from the process: a turn and the line; then the result is set, where a future
-- refers to it, and otherwise its cell goes and the value is dropped.
abbrev pub set_result : ℕ → OutcomeTree → (futures : ℕ) → Core → Core
set_result k o zero c = dropping_values (value_in o) (record c { cells = removed c.cells k })
set_result k o (suc f) c = turn c (λ d. fill k o d)

abbrev pub give_result : Scan → Option ℕ → OutcomeTree → Core → Core
give_result scan None o c = dropping_values (value_in o) c
give_result scan (Some k) o c = set_result k o (reference_count scan FutureSide k c) c

abbrev pub close : Scan → (actor : ℕ) → Option ℕ → OutcomeTree → Core → Core
close scan i result o c = turn (record c { entries = removed c.entries i }) (λ d. give_result scan result o (writes (end_line i o) d))
