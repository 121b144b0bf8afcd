-- The cells of a process: single results and streams.
use Rattle.std.specs.Prelude.{ℕ, nat_eq, Bool, true, false, List, [], ◌∷◌, ◌++◌, if◌then◌else◌}
use Rattle.std.specs.declared.option.Option.{Option}
use Rattle.std.specs.declared.option.Option.TheVariants.{None, Some}
use Rattle.flow_value.specs.declared.value.Kind.{Kind}
use Rattle.flow_value.specs.declared.value.Kind.TheVariants as kind
use Rattle.flow_value.specs.Values.{ValueTree, OutcomeTree, GoodOutcome, BadOutcome}

-- the two sides of a cell
pub data Side : Type 0 where
  PromiseSide : Side
  FutureSide : Side

-- a reference: what it is, and its cell
abbrev pub Ref : Type 0
Ref = Kind × ℕ

abbrev pub side_of : Kind → Side
side_of kind.Promise = PromiseSide
side_of kind.PromiseStream = PromiseSide
side_of kind.Future = FutureSide
side_of kind.FutureStream = FutureSide

-- an actor that waits at a cell, and the branch of its wait, from 0
pub record Waiter : Type 0 where
  pub actor : ℕ
  pub branch : ℕ

-- A single result is unset or holds an outcome, and has its waiters, oldest first. A stream has its elements, oldest
-- first, perhaps the error of its end, and at most one waiter.
pub data Cell : Type 0 where
  Single : (content : Option OutcomeTree) (waiters : List Waiter) → Cell
  Stream : (queue : List ValueTree) (end : Option ℕ) (waiter : Option Waiter) → Cell

abbrev pub is_some : {A : Type 0} → Option A → Bool
is_some None = false
is_some (Some a) = true

abbrev pub as_list : {A : Type 0} → Option A → List A
as_list None = []
as_list (Some a) = a ∷ []

-- nothing more can be sent: a single result that is set, or a stream with an end
abbrev pub is_complete : Cell → Bool
is_complete (Single content ws) = is_some content
is_complete (Stream queue end w) = is_some end

-- a wait needn't suspend: a single result that is set, or a stream with an element or an end
abbrev pub is_ready : Cell → Bool
is_ready (Single content ws) = is_some content
is_ready (Stream [] end w) = is_some end
is_ready (Stream (v ∷ vs) end w) = true

abbrev pub waiters : Cell → List Waiter
waiters (Single content ws) = ws
waiters (Stream queue end w) = as_list w

-- what evaluation sees of a cell: the outcome of a single result
abbrev pub outcome : Option Cell → Option OutcomeTree
outcome (Some (Single content ws)) = content
outcome _ = None

-- the values that stand in a cell, in order
abbrev pub good : Option OutcomeTree → List ValueTree
good (Some (GoodOutcome v)) = v ∷ []
good _ = []

abbrev pub held : Cell → List ValueTree
held (Single content ws) = good content
held (Stream queue end w) = queue

-- a cell after a send: a single result is set, a stream gets an element or its end
abbrev pub filled : Cell → OutcomeTree → Cell
filled (Single content ws) o = Single (Some o) ws
filled (Stream queue end w) (GoodOutcome v) = Stream (queue ++ v ∷ []) end w
filled (Stream queue end w) (BadOutcome e) = Stream queue (Some e) w

-- what a branch takes from a cell that is ready: a copy of the outcome, the first element, or else the end
abbrev pub bad : Option ℕ → Option OutcomeTree
bad None = None
bad (Some e) = Some (BadOutcome e)

abbrev pub taken : Cell → Option OutcomeTree
taken (Single content ws) = content
taken (Stream [] end w) = bad end
taken (Stream (v ∷ vs) end w) = Some (GoodOutcome v)

-- the cell afterwards
abbrev pub after_taking : Cell → Cell
after_taking (Single content ws) = Single content ws
after_taking (Stream [] end w) = Stream [] end w
after_taking (Stream (v ∷ vs) end w) = Stream vs end w

-- a cell with one more waiter, the newest; a stream with a waiter takes no other
abbrev pub or_waiter : Option Waiter → Waiter → Option Waiter
or_waiter None new = Some new
or_waiter (Some old) new = Some old

abbrev pub with_waiter : Cell → Waiter → Cell
with_waiter (Single content ws) new = Single content (ws ++ new ∷ [])
with_waiter (Stream queue end w) new = Stream queue end (or_waiter w new)

-- a registration is refused
abbrev pub is_busy : Cell → Bool
is_busy (Single content ws) = false
is_busy (Stream queue end w) = is_some w

-- the waiters of an actor leave a cell
abbrev pub without : List Waiter → ℕ → List Waiter
without [] actor = []
without (w ∷ ws) actor = if nat_eq w.actor actor then without ws actor else w ∷ without ws actor

abbrev pub without_one : Option Waiter → ℕ → Option Waiter
without_one None actor = None
without_one (Some w) actor = if nat_eq w.actor actor then None else Some w

abbrev pub left_by : ℕ → Cell → Cell
left_by actor (Single content ws) = Single content (without ws actor)
left_by actor (Stream queue end w) = Stream queue end (without_one w actor)
