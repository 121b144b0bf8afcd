-- What the world brings to a process at the begin of an event.
use Rattle.std.specs.Prelude.{ℕ, suc, pos, nat_eq, List, [], ◌∷◌, if◌then◌else◌}
use Rattle.std.specs.declared.option.Option.{Option}
use Rattle.std.specs.declared.option.Option.TheVariants.{None, Some}
use Rattle.flow_value.specs.declared.value.Kind.TheVariants as kind
use Rattle.flow_value.specs.Values.{ValueTree, IntValue, OutcomeTree, GoodOutcome}
use Rattle.flow_numbered.specs.Numbered.{added}
use Rattle.flow_meaning.specs.Process.{Drop, Core, Proc, Engine}
use Rattle.flow_meaning.specs.Work.{turn, pushed, fill}
use Rattle.flow_meaning.specs.Step.{proc, enrol, stuck}

-- a process that never ran
abbrev pub idle_core : Core
idle_core = record {
  cells = [];
  made = 0;
  entries = [];
  started = 0;
  main = None;
  ports = [];
  requests = [];
  tasks = [];
  lines = [];
  left = 0;
  halted = None;
}

abbrev pub idle : {A : Type 0} → Proc A
idle = proc idle_core []

-- a loss of power: everything goes but the numbers given so far
abbrev pub vanish : {A : Type 0} → Proc A → Proc A
vanish p = proc (record idle_core { made = p.core.made; started = p.core.started }) []

-- an event begins, with its budget of turns
abbrev pub begin : (turns : ℕ) → Core → Core
begin turns c = record c { lines = []; left = turns; halted = None }

-- `main` is called with the process's number, and the process holds its result from the moment that its cell is made.
abbrev pub boot_core : (class : ℕ) → List ℕ → Core → Core
boot_core class name c = turn c (λ d. record (enrol class name d) { main = Some (suc d.made) })

abbrev pub boot_with : {A : Type 0} → Engine A → Option A → Proc A → Proc A
boot_with e None p = (stuck p).0
boot_with e (Some a) p = proc (boot_core e.main (e.label e.main) p.core) (added p.actors (suc p.core.started) a)

abbrev pub boot : {A : Type 0} → Engine A → (process : ℕ) → Proc A → Proc A
boot e me p = boot_with e (e.fresh e.main (IntValue (pos me) ∷ [])) p

-- the hold on the result of `main` is dropped, if there is one
abbrev pub stop_main : Option ℕ → Core → Core
stop_main None c = c
stop_main (Some cell) c = pushed (Drop kind.Future cell) (record c { main = None })

abbrev pub stop : Core → Core
stop c = stop_main c.main c

-- one request on a cell is open no more
abbrev pub closed_request : ℕ → List ℕ → List ℕ
closed_request k [] = []
closed_request k (cell ∷ cells) = if nat_eq k cell then cells else cell ∷ closed_request k cells

-- A timer or a disk answers: the cell is set and fires, and then the request's promise reference is dropped.
abbrev pub deliver : (cell : ℕ) → OutcomeTree → Core → Core
deliver k o c = turn (pushed (Drop kind.Promise k) (record c { requests = closed_request k c.requests })) (λ d. fill k o d)

-- an element comes to a port's stream
abbrev pub arrive : (cell : ℕ) → ValueTree → Core → Core
arrive k v c = turn c (λ d. fill k (GoodOutcome v) d)
