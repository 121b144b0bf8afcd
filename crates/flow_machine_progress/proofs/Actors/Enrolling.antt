-- An actor that is called can be made: its class is there and takes the arguments, whose references lead to cells there, and the
-- new cell is nobody's result.
use Rattle.std.proofs.Common.{◌≡◌, ℕ, suc, true, List, [], ◌∷◌, map, length, refl, sym, ap, ◌∙◌, subst, arith}
use Rattle.std.proofs.lemmas.Bool.{false≢true}
use Rattle.std.specs.Prelude.{slice_get}
use Rattle.std.specs.Option.{option_map}
use Rattle.std.specs.declared.option.Option.{Option}
use Rattle.std.specs.declared.option.Option.TheVariants.{None, Some}
use Rattle.flow_value.specs.declared.value.Value.{Value}
use Rattle.flow_value.specs.declared.value.Outcome.{Outcome}
use Rattle.flow_value.specs.declared.value.Kind.{Kind}
use Rattle.flow_value.specs.declared.value.Kind.TheVariants as kind
use Rattle.flow_value.specs.View.{value_of}
use Rattle.flow_numbered.specs.Numbered as stored
use Rattle.flow_cell.specs.declared.counts.Side as memory
use Rattle.flow_cell.specs.declared.counts.Side.TheVariants.{Promise, Future}
use Rattle.flow_cell.specs.Cells.{CellTree, held, unset}
use Rattle.flow_stream.specs.Streams.{StreamTree}
use Rattle.flow_class.specs.Classes.{RawTree}
use Rattle.flow_code.specs.declared.class.Class.{Class}
use Rattle.flow_code.specs.declared.program.Code.{Code}
use Rattle.flow_code.specs.Classes.{ClassCode}
use Rattle.flow_code.specs.View.{code_of}
use Rattle.flow_code.specs.Coded.{coded}
use Rattle.flow_trace.specs.declared.line.Line.{Line}
use Rattle.flow_cancel.specs.declared.actors.Note.{Note}
use Rattle.flow_cancel.specs.Heap.{HeapTree, next_cell, with_result, cell_id, is_result, owner, may_start, may_start_at}
use Rattle.flow_cancel.specs.Dropping as memory_refs
use Rattle.flow_numbered.specs.Numbered.{thing}
use Rattle.flow_meaning.specs.Cells.{Ref, Cell, Single}
use Rattle.flow_meaning.specs.Process.{Entry, Proc}
use Rattle.flow_meaning.specs.References.{Scan, refs_in}
use Rattle.flow_meaning.specs.Orderly.{Rising}
use Rattle.flow_meaning.specs.Work.{new_cell}
use Rattle.flow_meaning.specs.Step.{on_core}
use Rattle.flow_meaning.specs.Frame.{Frame}
use Rattle.flow_meaning.proofs.Posture.{thing_added}
use Rattle.flow_heap_refinement.specs.Representing.{ActorRepresents, nobody, somebody, spot_of_actor, cell_number}
use Rattle.flow_heap_refinement.specs.Holds.{There, AllThere, held_cell, held_stream, hold, hold_all}
use Rattle.flow_heap_refinement.proofs.Cells.{nothing_at}
use Rattle.flow_heap_refinement.proofs.Finds.{none_above, stored_other, stored_new}
use Rattle.flow_heap_refinement.proofs.Owners.{note_found, noted_result}
use Rattle.flow_heap_refinement.proofs.Tasks.{refs_same}
use Rattle.flow_steps.specs.declared.process.Process.{Process}
use Rattle.flow_steps.specs.Acting.{with_args}
use Rattle.flow_steps.specs.Stuck.{SomeMissing}
use Rattle.flow_steps.specs.StuckCalls.{EnrolsStuck, no_class_of, other_params, args_missing, no_result, EnrolsAloneStuck, no_void_class, other_void_params, void_args_missing}
use Rattle.flow_operation_refinement.specs.Matching.{ProcessRepresents}
use Rattle.flow_operation_refinement.proofs.Stands.{both_mapped, as_many}
use Rattle.flow_operation_refinement.proofs.Takings.{all_frames}
use Rattle.flow_operation_refinement.proofs.Making.{cell_made}
use Rattle.flow_step_refinement.specs.Effects.Starting.{MayStart}
use Rattle.flow_step_refinement.proofs.Effects.Starts.{same_class}
use Rattle.flow_machine_progress.proofs.Lookups.References.{none_missing}

-- a cell stays as it is where references to other cells count
cell_beside : (z : memory.Side) (j k : ℕ) (o : Option (CellTree Outcome)) (h : HeapTree) → (j ≡ k → ⊥) → stored.thing (held_cell z j o h).cells.things k ≡ stored.thing h.cells.things k
cell_beside z j k None h d = refl
cell_beside z j k (Some c) h d = stored_other h.cells.things j k (record c { references = held z c.references }) d

stream_beside : (z : memory.Side) (j k : ℕ) (o : Option (StreamTree Value)) (h : HeapTree) → stored.thing (held_stream z j o h).cells.things k ≡ stored.thing h.cells.things k
stream_beside z j k None h = refl
stream_beside z j k (Some c) h = refl

one_beside : (kd : Kind) (j k : ℕ) (h : HeapTree) → (j ≡ k → ⊥) → stored.thing (hold kd j h).cells.things k ≡ stored.thing h.cells.things k
one_beside kind.Promise j k h d = cell_beside Promise j k (stored.thing h.cells.things j) h d
one_beside kind.Future j k h d = cell_beside Future j k (stored.thing h.cells.things j) h d
one_beside kind.PromiseStream j k h d = stream_beside Promise j k (stored.thing h.streams.things j) h
one_beside kind.FutureStream j k h d = stream_beside Future j k (stored.thing h.streams.things j) h

another : (q : Proc Frame) (u : Ref) (k : ℕ) → thing q.core.cells k ≡ None → There q u → u.1 ≡ k → ⊥
another q u k none t e = let a = ap (thing q.core.cells) e in let b = t.at in cc (a, b, none)

all_beside : (q : Proc Frame) (us : List Ref) (k : ℕ) (h : HeapTree) → thing q.core.cells k ≡ None → AllThere q us
    → stored.thing (hold_all us h).cells.things k ≡ stored.thing h.cells.things k
all_beside q [] k h none t = refl
all_beside q (u ∷ us) k h none t =
    all_beside q us k (hold u.0 u.1 h) none t.1 ∙ one_beside u.0 u.1 k h (another q u k none t.0)

-- what is there stays there when a cell is made
module _ (q : Proc Frame) (none : thing q.core.cells (suc q.core.made) ≡ None) where
  abbrev with_cell : Proc Frame
  with_cell = on_core (new_cell (Single None [])) q

  still : (u : Ref) → There q u → There with_cell u
  still u t = record {
    cell = t.cell;
    at = thing_added q.core.cells (suc q.core.made) u.1 (Single None []) (λ e. another q u (suc q.core.made) none t (sym e)) ∙ t.at;
    right = t.right;
  }

  all_still : (us : List Ref) → AllThere q us → AllThere with_cell us
  all_still [] t = tt
  all_still (u ∷ us) t = (still u t.0, all_still us t.1)

-- the cells of the results of a process's actors are there
abbrev pub ResultsThere : Proc Frame → Type 0
ResultsThere q = (j n : ℕ) (d : Entry) → thing q.core.entries j ≡ Some d → d.result ≡ Some n → (c : Cell) × (thing q.core.cells n ≡ Some c)

abbrev pub NotesRise : HeapTree → Type 0
NotesRise h = stored.IsRising 0 h.actors.things h.actors.greatest

module _ (r : RawTree) (ls : List Line) (x : Scan) (k : Process) (q : Proc Frame) (s : ProcessRepresents r ls x k q) (rising : Rising 0 q.core.made q.core.cells) where
  abbrev h : HeapTree
  h = k.heap

  none_next : thing q.core.cells (suc q.core.made) ≡ None
  none_next = none_above q.core.cells 0 q.core.made (suc q.core.made) rising (omega arith)

  none_then : thing q.core.cells (next_cell h) ≡ None
  none_then = ap (thing q.core.cells) s.holds.shows.made ∙ none_next

  -- the next cell is nobody's result
  no_owner : NotesRise h → ResultsThere q → (o : Option ℕ) → owner (next_cell h) h.actors.things ≡ o → o ≡ None
  no_owner notes results None e = refl
  no_owner notes results (Some j) e = absurd (by_actor (s.holds.shows.actors j))
    where
      n : (n : Note) × (stored.thing h.actors.things j ≡ Some n) × (is_result (next_cell h) n.result ≡ true)
      n = note_found (next_cell h) j 0 h.actors.greatest h.actors.things notes e

      by_actor : ActorRepresents r (stored.thing h.actors.things j) (stored.thing h.frames.things j) (thing q.core.entries j) (thing q.actors j) → ⊥
      by_actor (nobody none b c d) = let a = n.1 in cc (a, none)
      by_actor (somebody y) =
          let same : y.note ≡ n.0 = let a = y.noted in let b = n.1 in cc (a, b) in
          let result : y.entry.result ≡ Some (next_cell h) =
          y.same.result ∙ ap (λ (z : Note). option_map cell_number z.result) same ∙ noted_result (next_cell h) n.0.result n.2 in
          let a = (results j (next_cell h) y.entry y.entered result).1 in
          let b = none_then in cc (a, b)

  module _ (code : Code) (class : ℕ) (vs : List Value) (may : MayStart r q code class (map value_of vs)) where
    abbrev us : List Ref
    us = refs_in (map value_of vs)

    abbrev made_for : HeapTree
    made_for = with_result (next_cell h) h

    class_there : slice_get code.classes.items class ≡ None → ⊥
    class_there none =
        let a = both_mapped code_of (coded may.coded.names may.coded.class) code.classes.items r.classes class may.coded.are_coded in
        let b = sym (ap (option_map code_of) none) ∙ a ∙ ap (option_map (coded may.coded.names may.coded.class)) may.at in cc (b)

    as_many_params : (c : Class) → slice_get code.classes.items class ≡ Some c → length vs ≡ c.params
    as_many_params c at =
        let same = same_class r code.classes.items may.coded class c may.tree at may.at in
        sym (as_many value_of vs) ∙ may.taken ∙ sym (ap (λ (z : ClassCode). z.params) same)

    args_there : SomeMissing (memory_refs.refs_in vs) made_for → ⊥
    args_there missing =
        none_missing r x made_for (with_cell q none_next) us (cell_made r ls x k q kind.Future s rising).holds
        (all_still q none_next us may.there) (subst (λ rs. SomeMissing rs made_for) (refs_same vs) missing)

    -- a void actor
    pub enrols_alone_found : EnrolsAloneStuck code class vs h → ⊥
    enrols_alone_found (no_void_class none) = class_there none
    enrols_alone_found (other_void_params c at other) = other (as_many_params c at)
    enrols_alone_found (void_args_missing missing) = none_missing r x h q us s.holds may.there (subst (λ rs. SomeMissing rs h) (refs_same vs) missing)

    unset_there : stored.thing (with_args vs h).cells.things (next_cell h) ≡ Some unset
    unset_there =
        ap (λ rs. stored.thing (hold_all rs made_for).cells.things (next_cell h)) (refs_same vs)
        ∙ all_beside q us (next_cell h) made_for none_then may.there
        ∙ stored_new h.cells.things (next_cell h) unset
        (nothing_at (spot_of_actor q.actors) h.cells.things h.streams.things q.core.cells s.holds.shows.cells (next_cell h) none_then).0

    may_be_result : NotesRise h → ResultsThere q → may_start (Some (cell_id (next_cell h))) (with_args vs h) ≡ true
    may_be_result notes results =
        ap (λ (z : stored.Store Note). may_start_at (owner (next_cell h) z.things) (stored.thing (with_args vs h).cells.things (next_cell h)))
        (all_frames (memory_refs.refs_in vs) made_for).1
        ∙ ap (λ o. may_start_at o (stored.thing (with_args vs h).cells.things (next_cell h)))
        (no_owner notes results (owner (next_cell h) h.actors.things) refl)
        ∙ ap (may_start_at None) unset_there

    pub enrols_found : NotesRise h → ResultsThere q → EnrolsStuck code class vs h → ⊥
    enrols_found notes results (no_class_of none) = class_there none
    enrols_found notes results (other_params c at other) = other (as_many_params c at)
    enrols_found notes results (args_missing missing) = args_there missing
    enrols_found notes results (no_result refused) = false≢true (sym refused ∙ may_be_result notes results)
