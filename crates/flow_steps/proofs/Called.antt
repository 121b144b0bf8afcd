-- Where effects and calls go astray: what arguments refer to, and cells that are there because they are new.
use Rattle.std.proofs.Common.{◌≡◌, ◌⊎◌, ◌<◌, ℕ, nat_eq, Bool, true, false, List, [], ◌∷◌, length, take, get_or, map, set, inl, inr, refl, ap, sym, ◌∙◌, subst, arith, if◌then◌else◌}
use Rattle.std.proofs.lemmas.Bool.Decides.{nat_tests}
use Rattle.std.specs.declared.option.Option.{Option}
use Rattle.std.specs.declared.option.Option.TheVariants.{None, Some}
use Rattle.flow_base.specs.declared.ids.ActorId.{ActorId}
use Rattle.flow_base.specs.declared.ids.CellId.{CellId}
use Rattle.flow_ast.specs.declared.predefined.Predefined.TheVariants as predefined
use Rattle.flow_value.specs.declared.value.Value.{Value}
use Rattle.flow_value.specs.declared.value.Value.TheVariants.{Ref, Void}
use Rattle.flow_value.specs.declared.value.Outcome.{Outcome}
use Rattle.flow_value.specs.declared.value.Kind.{Kind}
use Rattle.flow_value.specs.declared.value.Kind.TheVariants as kind
use Rattle.flow_value.specs.Values.{ValueTree, RefValue, refs_of}
use Rattle.flow_value.specs.View.{value_of, value_step}
use Rattle.flow_value.specs.declared.value.Value.TheFolds.{fold-roll-Value}
use Rattle.flow_value.specs.declared.value.Value.TheOpen as layer
use Rattle.flow_value.specs.declared.value.Value.TheVariants.{Ref, rolls-Ref}
use Rattle.flow_eval.specs.Answers.{int_of, text_of, arg}
use Rattle.flow_numbered.specs.Numbered.{Numbered, thing, added}
use Rattle.flow_cell.specs.declared.counts.Side.{Side}
use Rattle.flow_cell.specs.declared.counts.Side.TheVariants.{Promise, Future}
use Rattle.flow_cell.specs.Cells.{CellTree, unset, held}
use Rattle.flow_stream.specs.Streams.{StreamTree, empty}
use Rattle.flow_code.specs.declared.program.Code.{Code}
use Rattle.flow_cancel.specs.Heap.{HeapTree, next_cell, with_result, promised, promised_at}
use Rattle.flow_cancel.specs.Dropping.{refs_in}
use Rattle.flow_meaning.specs.Requests as asks
use Rattle.flow_meaning.specs.Cells as cells
use Rattle.flow_meaning.specs.Evaluating.{bind, world_effect}
use Rattle.flow_heap_refinement.specs.Holds.{hold, hold_all, held_cell, held_stream}
use Rattle.flow_steps.specs.declared.call.Goal.{Goal}
use Rattle.flow_steps.specs.declared.call.Goal.TheVariants as goal
use Rattle.flow_steps.specs.declared.process.Process.{Process}
use Rattle.flow_steps.specs.Holding.{on_heap, value_refs, Gives}
use Rattle.flow_steps.specs.Delivering.{made}
use Rattle.flow_steps.specs.Acting.{Enrols, with_args}
use Rattle.flow_steps.specs.Stuck.{CellMissing, StreamMissing, Missing, SomeMissing, NoReference}
use Rattle.flow_steps.proofs.Acts.{first_kept}
use Rattle.flow_steps.proofs.Before.{put_still}
use Rattle.flow_steps.proofs.Holding.{hold_append, missing_first, missing_later}

-- a write whose file is no text
pub write_stuck : (vs : List Value) → text_of (arg (map value_of (set vs 2 Void)) 0) ≡ None → world_effect predefined.WriteFile (map value_of vs) ≡ None
write_stuck vs f =
    ap (λ x. bind x (λ file. bind (int_of (arg (map value_of vs) 1)) (λ offset. bind (text_of (arg (map value_of vs) 2)) (λ text. Some (asks.Disk (asks.WriteCall file offset text))))))
    (ap text_of (sym (first_kept vs)) ∙ f)

-- a reference of an argument is missing once those before it count
pub missing_arg : (args ys : List Value) (v : Value) (h : HeapTree) → ys ≡ take (length ys) args → length ys < length args → v ≡ get_or args (length ys) v
    → SomeMissing (value_refs v) (hold_all (refs_in ys) h) → SomeMissing (refs_in args) h
missing_arg [] ys v h t lt e m = absurd (omega (arith, lt))
missing_arg (a ∷ more) [] v h t lt e m = missing_first (value_refs a) (refs_in more) h (subst (λ w. SomeMissing (value_refs w) h) e m)
missing_arg (a ∷ more) (y ∷ ys) v h t lt e m =
    let same : y ≡ a = cc (t) in
    let rest : ys ≡ take (length ys) more = cc (t) in
    let less : length ys < length more = omega (arith, lt) in
    let here = subst (SomeMissing (value_refs v)) (hold_append (value_refs y) (refs_in ys) h) m in
    missing_later (value_refs a) (refs_in more) h
    (missing_arg more ys v (hold_all (value_refs a) h) rest less e (subst (λ w. SomeMissing (value_refs v) (hold_all (refs_in ys) (hold_all (value_refs w) h))) same here))

same_items : (ys : List Value) → map (λ y. y) ys ≡ ys
same_items [] = refl
same_items (y ∷ ys) = ap (λ l. y ∷ l) (same_items ys)

pub missing_argument : (args ys : List Value) (v : Value) (p q : Process) → map (λ y. y) ys ≡ take (length ys) args
    → (length ys < length args) × (v ≡ get_or args (length ys) v) → q ≡ on_heap (hold_all (refs_in ys)) p
    → SomeMissing (value_refs v) q.heap → SomeMissing (refs_in args) p.heap
missing_argument args ys v p q t at e m =
    missing_arg args ys v p.heap (sym (same_items ys) ∙ t) at.0 at.1 (subst (λ (x : Process). SomeMissing (value_refs v) x.heap) e m)

-- what is missing once references count was missing before
held_still : (s : Side) (k m : ℕ) (o : Option (CellTree Outcome)) (h : HeapTree) → CellMissing m (held_cell s k o h) → CellMissing m h
held_still s k m None h e = e
held_still s k m (Some c) h e = put_still h.cells.things k m (record c { references = held s c.references }) e

streamed_still : (s : Side) (k m : ℕ) (o : Option (StreamTree Value)) (h : HeapTree) → StreamMissing m (held_stream s k o h) → StreamMissing m h
streamed_still s k m None h e = e
streamed_still s k m (Some c) h e = put_still h.streams.things k m (record c { references = held s c.references }) e

cell_aside : (s : Side) (k m : ℕ) (o : Option (StreamTree Value)) (h : HeapTree) → CellMissing m (held_stream s k o h) → CellMissing m h
cell_aside s k m None h e = e
cell_aside s k m (Some c) h e = e

stream_aside : (s : Side) (k m : ℕ) (o : Option (CellTree Outcome)) (h : HeapTree) → StreamMissing m (held_cell s k o h) → StreamMissing m h
stream_aside s k m None h e = e
stream_aside s k m (Some c) h e = e

cell_still : (kd : Kind) (k m : ℕ) (h : HeapTree) → CellMissing m (hold kd k h) → CellMissing m h
cell_still kind.Promise k m h = held_still Promise k m (thing h.cells.things k) h
cell_still kind.Future k m h = held_still Future k m (thing h.cells.things k) h
cell_still kind.PromiseStream k m h = cell_aside Promise k m (thing h.streams.things k) h
cell_still kind.FutureStream k m h = cell_aside Future k m (thing h.streams.things k) h

stream_still : (kd : Kind) (k m : ℕ) (h : HeapTree) → StreamMissing m (hold kd k h) → StreamMissing m h
stream_still kind.Promise k m h = stream_aside Promise k m (thing h.cells.things k) h
stream_still kind.Future k m h = stream_aside Future k m (thing h.cells.things k) h
stream_still kind.PromiseStream k m h = streamed_still Promise k m (thing h.streams.things k) h
stream_still kind.FutureStream k m h = streamed_still Future k m (thing h.streams.things k) h

pub cells_still : (rs : List cells.Ref) (m : ℕ) (h : HeapTree) → CellMissing m (hold_all rs h) → CellMissing m h
cells_still [] m h e = e
cells_still (r ∷ rs) m h e = cell_still r.0 r.1 m h (cells_still rs m (hold r.0 r.1 h) e)

pub streams_still : (rs : List cells.Ref) (m : ℕ) (h : HeapTree) → StreamMissing m (hold_all rs h) → StreamMissing m h
streams_still [] m h e = e
streams_still (r ∷ rs) m h e = stream_still r.0 r.1 m h (streams_still rs m (hold r.0 r.1 h) e)

-- a new cell is there
added_there : {A : Type 0} (xs : Numbered A) (n : ℕ) (a : A) → thing (added xs n a) n ≡ None → ⊥
added_there [] n a e = by (nat_eq n n) refl e
  where
    by : (b : Bool) → nat_eq n n ≡ b → (if b then Some a else None) ≡ None → ⊥
    by true g e = cc (e)
    by false g e = grind (arith, nat_tests, g)
added_there (x ∷ xs) n a e = by (nat_eq n x.0) (added_there xs n a) e
  where
    by : (b : Bool) → (thing (added xs n a) n ≡ None → ⊥) → (if b then Some x.1 else thing (added xs n a) n) ≡ None → ⊥
    by true later e = cc (e)
    by false later e = later e

pub made_there : (kd : Kind) (h : HeapTree) → Missing kd (next_cell h) (made kd h) → ⊥
made_there kind.Promise h e = added_there h.cells.things (next_cell h) unset e
made_there kind.Future h e = added_there h.cells.things (next_cell h) unset e
made_there kind.PromiseStream h e = added_there h.streams.things (next_cell h) empty e
made_there kind.FutureStream h e = added_there h.streams.things (next_cell h) empty e

-- a reference may be given where it leads somewhere
pub ref_seen : (kd : Kind) (k : CellId) → value_of (Ref kd k) ≡ RefValue kd k.0
ref_seen kd k = ap value_of (sym (rolls-Ref kd k)) ∙ fold-roll-Value ValueTree value_step (layer.Ref kd k)

pub gives_stuck : (g : Goal) (kd : Kind) (k : CellId) (h : HeapTree) → (Missing kd k.0 h → ⊥) → SomeMissing (value_refs (Ref kd k)) h ⊎ NoReference g (Ref kd k) → ⊥
gives_stuck g kd k h there (inl m) = by (subst (λ v. SomeMissing (refs_of v) h) (ref_seen kd k) m)
  where
    by : Missing kd k.0 h ⊎ ⊥ → ⊥
    by (inl e) = there e
    by (inr e) = e
gives_stuck goal.Stored kd k h there (inr e) = e
gives_stuck (goal.Kept n) kd k h there (inr e) = e

pub new_stuck : (g : Goal) (kd : Kind) (k : CellId) (p q : Process) → k.0 ≡ next_cell p.heap → q ≡ on_heap (made kd) p
    → SomeMissing (value_refs (Ref kd k)) q.heap ⊎ NoReference g (Ref kd k) → ⊥
new_stuck g kd k p q n e =
    gives_stuck g kd k q.heap (λ m. made_there kd p.heap (subst (λ i. Missing kd i (made kd p.heap)) n (subst (λ (x : Process). Missing kd k.0 x.heap) e m)))

-- a cell that was given is there, for its other side too
pub open_there : (g : Goal) (i : ActorId) (k : CellId) (p q : Process) → k.0 ≡ next_cell p.heap → Gives g i (Ref kind.Future k) (on_heap (made kind.Future) p) q
    → CellMissing k.0 q.heap → ⊥
open_there g i k p q n is m =
    let now : CellMissing k.0 (made kind.Future p.heap) = cells_still (value_refs (Ref kind.Future k)) k.0 (made kind.Future p.heap) (subst (λ (x : Process). CellMissing k.0 x.heap) is.given_by m) in
    made_there kind.Future p.heap (subst (λ j. CellMissing j (made kind.Future p.heap)) n now)

pub port_there : (g : Goal) (i : ActorId) (k : CellId) (p q : Process) → k.0 ≡ next_cell p.heap → Gives g i (Ref kind.FutureStream k) (on_heap (made kind.FutureStream) p) q
    → StreamMissing k.0 q.heap → ⊥
port_there g i k p q n is m =
    let now : StreamMissing k.0 (made kind.FutureStream p.heap) = streams_still (value_refs (Ref kind.FutureStream k)) k.0 (made kind.FutureStream p.heap)
    (subst (λ (x : Process). StreamMissing k.0 x.heap) is.given_by m) in
    made_there kind.FutureStream p.heap (subst (λ j. StreamMissing j (made kind.FutureStream p.heap)) n now)

-- the result of an actor that was made is there
promised_still : (k m : ℕ) (o : Option (CellTree Outcome)) (h : HeapTree) → thing (promised_at k o h.cells).things m ≡ None → CellMissing m h
promised_still k m None h e = e
promised_still k m (Some c) h e = put_still h.cells.things k m (promised c) e

pub result_there : (code : Code) (class : ℕ) (args : List Value) (i : ActorId) (k : CellId) (p q : Process) → Enrols code class args i k p q → CellMissing k.0 q.heap → ⊥
result_there code class args i k p q is m =
    let then_missing = subst (λ (x : Process). CellMissing k.0 x.heap) is.made m in
    let now : CellMissing k.0 (with_result (next_cell p.heap) p.heap) =
    cells_still (refs_in args) k.0 (with_result (next_cell p.heap) p.heap) (promised_still k.0 k.0 (thing (with_args args p.heap).cells.things k.0) (with_args args p.heap) then_missing) in
    made_there kind.Future p.heap (subst (λ j. CellMissing j (with_result (next_cell p.heap) p.heap)) is.cell now)

pub call_stuck : (code : Code) (class : ℕ) (args : List Value) (i : ActorId) (k : CellId) (g : Goal) (p q : Process) → Enrols code class args i k p q
    → SomeMissing (value_refs (Ref kind.Future k)) q.heap ⊎ NoReference g (Ref kind.Future k) → ⊥
call_stuck code class args i k g p q is = gives_stuck g kind.Future k q.heap (result_there code class args i k p q is)
