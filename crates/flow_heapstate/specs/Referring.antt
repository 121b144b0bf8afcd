-- What counts as a reference in a heap that rests.
use Rattle.std.specs.Prelude.{◌≡◌, ℕ, suc, nat_eq, Bool, true, false, ◌&&◌, List, [], ◌∷◌, ◌++◌, map, if◌then◌else◌}
use Rattle.std.specs.List.{flat_map}
use Rattle.std.specs.declared.option.Option.{Option}
use Rattle.std.specs.declared.option.Option.TheVariants.{None, Some}
use Rattle.flow_base.specs.declared.ids.CellId.{CellId}
use Rattle.flow_value.specs.declared.value.Kind.{Kind}
use Rattle.flow_value.specs.declared.value.Kind.TheVariants.{Promise, Future, PromiseStream, FutureStream}
use Rattle.flow_value.specs.Values.{ValueTree, OutcomeTree, GoodOutcome, BadOutcome, refs_of}
use Rattle.flow_value.specs.View.{ref_of}
use Rattle.flow_cell.specs.declared.waiter.Waiter.{Waiter}
use Rattle.flow_heapstate.specs.State.{CellPart, StreamPart, ActorPart, Parts}

-- a reference: its kind, and the number of its cell
abbrev pub Ref : Type 0
Ref = Kind × ℕ

-- the values that stand in a single result and in a place
abbrev pub content_refs : Option OutcomeTree → List Ref
content_refs None = []
content_refs (Some (GoodOutcome v)) = refs_of v
content_refs (Some (BadOutcome e)) = []

abbrev pub place_refs : Option ValueTree → List Ref
place_refs None = []
place_refs (Some v) = refs_of v

-- what is noted of a cell
abbrev pub noted : Bool → Kind → ℕ → List Ref
noted false k n = []
noted true k n = (k, n) ∷ []

abbrev pub named : Option CellId → Kind → List Ref
named None k = []
named (Some c) k = (k, c.0) ∷ []

abbrev pub waited : Option Waiter → ℕ → List Ref
waited None n = []
waited (Some w) n = (FutureStream, n) ∷ []

-- A waiter is a future, an open request a promise, a port a promise of its stream.
abbrev pub waits_of : ℕ → List Waiter → List Ref
waits_of n [] = []
waits_of n (w ∷ ws) = (Future, n) ∷ waits_of n ws

abbrev pub cell_refs : CellPart → List Ref
cell_refs c = content_refs c.content ++ (noted c.requested Promise c.cell ++ waits_of c.cell c.waiters)

abbrev pub stream_refs : StreamPart → List Ref
stream_refs s = flat_map refs_of s.queue ++ (noted s.port PromiseStream s.cell ++ waited s.waiter s.cell)

abbrev pub actor_refs : ActorPart → List Ref
actor_refs a = flat_map place_refs a.places

-- An unfinished actor is a promise of its result.
abbrev pub result_refs : ActorPart → List Ref
result_refs a = named a.result Promise

-- what is stored or noted, and what the process holds of `main`
abbrev pub stored_refs : Parts → List Ref
stored_refs p =
    flat_map cell_refs p.cells
    ++ (flat_map stream_refs p.streams ++ (flat_map actor_refs p.actors ++ named p.main Future))

abbrev pub references : Parts → List Ref
references p = flat_map result_refs p.actors ++ stored_refs p

-- these references come behind those that were found
abbrev pub Adds : List (Kind × CellId) → List Ref → List (Kind × CellId) → Type 0
Adds old rs new = map ref_of new ≡ map ref_of old ++ rs

-- how often a reference is among them
abbrev pub same_kind : Kind → Kind → Bool
same_kind Promise Promise = true
same_kind Future Future = true
same_kind PromiseStream PromiseStream = true
same_kind FutureStream FutureStream = true
same_kind _ _ = false

abbrev pub times : Kind → ℕ → List Ref → ℕ
times k n [] = 0
times k n (r ∷ rs) = if same_kind k r.0 && nat_eq n r.1 then suc (times k n rs) else times k n rs
