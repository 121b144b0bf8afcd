-- What is ready can be taken.
use Rattle.std.proofs.Common.{◌≡◌, ℕ, true, List, [], ◌∷◌, refl, sym, ap, ◌∙◌, subst}
use Rattle.std.proofs.lemmas.Bool.{false≢true}
use Rattle.std.specs.Option.{is_some, option_map}
use Rattle.std.specs.declared.option.Option.{Option}
use Rattle.std.specs.declared.option.Option.TheVariants.{None, Some}
use Rattle.flow_base.specs.declared.ids.ErrorCode.{ErrorCode}
use Rattle.flow_value.specs.declared.value.Value.{Value}
use Rattle.flow_value.specs.declared.value.Outcome.{Outcome}
use Rattle.flow_value.specs.Values.{OutcomeTree}
use Rattle.flow_value.specs.View.{outcome_of}
use Rattle.flow_class.specs.Classes.{RawTree}
use Rattle.flow_numbered.specs.Numbered.{thing}
use Rattle.flow_cell.specs.Cells.{CellTree}
use Rattle.flow_stream.specs.Streams.{StreamTree, ready, head}
use Rattle.flow_stream.specs.declared.head.Head.TheVariants.{Nothing}
use Rattle.flow_cancel.specs.Heap.{HeapTree}
use Rattle.flow_meaning.specs.Requests.{Spot}
use Rattle.flow_meaning.specs.Cells.{Cell, Single, Stream, taken}
use Rattle.flow_meaning.specs.References.{Scan}
use Rattle.flow_meaning.specs.Process.{Proc}
use Rattle.flow_meaning.specs.Frame.{Frame}
use Rattle.flow_heap_refinement.specs.Holds.{Holds}
use Rattle.flow_heap_refinement.specs.Representing.{CellRepresents, spot_of_actor}
use Rattle.flow_steps.specs.Seen.{content_of, content_in}
use Rattle.flow_steps.specs.Holding.{outcome_refs}
use Rattle.flow_steps.specs.Waiting.{ready_in, ready_at}
use Rattle.flow_steps.specs.Stuck.{SomeMissing}
use Rattle.flow_operation_refinement.specs.Taking.{Takeable}
use Rattle.flow_machine_progress.specs.Lookups.{TakenFound}
use Rattle.flow_machine_progress.proofs.Lookups.References.{none_missing}
use Rattle.flow_steps.specs.StuckWaits.{NoCopy, NothingIn, NothingTaken}

no_head : (q : List Value) (e : Option ErrorCode) → ready q e ≡ true → head q e ≡ Nothing → ⊥
no_head [] None is h = false≢true is
no_head [] (Some e) is h = cc (h)
no_head (v ∷ vs) e is h = cc (h)

-- where a cell is ready, and no reference of what it holds is missing, there is something to take
ready_taken : (k : ℕ) (h : HeapTree) → ((o : Outcome) → content_in h.cells k ≡ Some (outcome_of o) → SomeMissing (outcome_refs o) h → ⊥) → ready_at k h ≡ true
    → NothingTaken k h → ⊥
ready_taken k h there is nothing = by (thing h.cells.things k) (thing h.streams.things k) refl is nothing
  where
    copy : (o : Option Outcome) → option_map outcome_of o ≡ content_in h.cells k → is_some o ≡ true → NoCopy o h → ⊥
    copy None same is m = false≢true is
    copy (Some o) same is m = there o (sym same) m

    by : (c : Option (CellTree Outcome)) (s : Option (StreamTree Value)) → thing h.cells.things k ≡ c → ready_in c s ≡ true → NothingIn c s h → ⊥
    by (Some c) s at is m = copy c.content (sym (ap content_of at)) is m
    by None (Some s) at is m = no_head s.queue s.end is m
    by None None at is m = false≢true is

pub taken_there : TakenFound
taken_there r in_hand h p k holds there is nothing =
    ready_taken k h (λ o e m. none_missing r in_hand h p (outcome_refs o) holds (there o e) m) is nothing

-- what a single result in memory holds is what a branch takes from it
content_is : (spots : ℕ → Spot) (a : Option (CellTree Outcome)) (b : Option (StreamTree Value)) (c : Cell) (o : OutcomeTree) → CellRepresents spots a b (Some c)
    → content_of a ≡ Some o → taken c ≡ Some o
content_is spots None b c o s e = absurd (cc (e))
content_is spots (Some m) None (Single x ws) o s e = s.0 ∙ e
content_is spots (Some m) None (Stream q d w) o s e = absurd s
content_is spots (Some m) (Some n) c o s e = absurd s

-- so where what it takes is there, there is something to take
pub taken_by : (r : RawTree) (in_hand : Scan) (h : HeapTree) (p : Proc Frame) (k : ℕ) (c : Cell) → Holds r in_hand h p → Takeable p k c → ready_at k h ≡ true → NothingTaken k h → ⊥
taken_by r in_hand h p k c holds t is nothing = taken_there r in_hand h p k holds (λ o e. t.there (outcome_of o) (seen (outcome_of o) e)) is nothing
  where
    spots : ℕ → Spot
    spots = spot_of_actor p.actors

    seen : (o : OutcomeTree) → content_in h.cells k ≡ Some o → taken c ≡ Some o
    seen o e =
        content_is spots (thing h.cells.things k) (thing h.streams.things k) c o
        (subst (CellRepresents spots (thing h.cells.things k) (thing h.streams.things k)) t.at (holds.shows.cells k)) e
