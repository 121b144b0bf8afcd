-- An actor that takes its next step: what it looks for is there, and what it asks for in the class machine fits.
use Rattle.std.proofs.Common.{◌≡◌, ◌<◌, ◌≤◌, ℕ, nat_eq, ◌+◌, Bool, true, false, if◌then◌else◌, List, [], ◌∷◌, length, length-append, inl, inr, refl, sym, ap, ◌∙◌, subst, arith}
use Rattle.std.specs.Prelude.{pos, ◌^◌, slice_get}
use Rattle.std.specs.Option.{option_map}
use Rattle.std.specs.declared.option.Option.{Option}
use Rattle.std.specs.declared.option.Option.TheVariants.{None, Some}
use Rattle.flow_value.specs.declared.value.Value.{Value}
use Rattle.flow_base.specs.declared.ids.ActorId.{ActorId}
use Rattle.flow_tree.specs.Tree.{ExprTree, ExprTrees}
use Rattle.flow_value.specs.View.{value_of}
use Rattle.flow_eval.specs.Eval.{Res, Done, Meaningless}
use Rattle.flow_code.specs.declared.expr.expr.Resolved.{Resolved}
use Rattle.flow_code.specs.Resolved.View.{node_of, nodes_of}
use Rattle.flow_code.specs.Resolved.Evaluation.{value_at, values_at}
use Rattle.flow_code.specs.Resolved.Resolving.{Naming, resolved, resolved_all}
use Rattle.flow_class.specs.declared.class.Slotted.{Slotted}
use Rattle.flow_class.specs.declared.class.Slotted.TheVariants.{Slot, Local}
use Rattle.flow_class.specs.Classes.{RawTree}
use Rattle.flow_class.specs.Code.{Fetched, fetch}
use Rattle.flow_code.specs.declared.class.Instruction.{Instruction}
use Rattle.flow_code.specs.declared.program.Code.{Code}
use Rattle.flow_code.specs.Places.{place_in}
use Rattle.flow_trace.specs.declared.line.Line.{Line}
use Rattle.flow_numbered.specs.Numbered as stored
use Rattle.flow_frame.specs.Frames.{FrameTree}
use Rattle.flow_cancel.specs.Heap.{actor_id, owner, is_result}
use Rattle.flow_cancel.specs.declared.actors.Note.{Note}
use Rattle.flow_numbered.specs.Numbered.{thing}
use Rattle.flow_meaning.specs.Requests.{Supply}
use Rattle.flow_meaning.specs.Cells.{Ref}
use Rattle.flow_meaning.specs.Evaluating.{StepOf, evaluated, value, values}
use Rattle.flow_meaning.specs.Process.{Entry, Proc}
use Rattle.flow_meaning.specs.References.{Scan}
use Rattle.flow_meaning.specs.Step.{kept_by, view}
use Rattle.flow_meaning.specs.Class.{fetched, class_names}
use Rattle.flow_meaning.specs.Frame.{Frame, look}
use Rattle.flow_meaning.proofs.Posture.{same_number}
use Rattle.flow_heap_refinement.specs.Representing.{LiveFrameRepresents, ActorRepresents, nobody, somebody}
use Rattle.flow_heap_refinement.specs.FrameChanges.{HasPlace, number_in}
use Rattle.flow_heap_refinement.specs.Holds.{AllThere}
use Rattle.flow_progress.specs.Places.{class_vars}
use Rattle.flow_progress.specs.Rules.{KeepsRules}
use Rattle.flow_progress.specs.Written.{heads}
use Rattle.flow_progress.specs.Asking.{AsksFit}
use Rattle.flow_progress.specs.Fitting.{typed_by}
use Rattle.flow_steps.specs.declared.frames.ControlPoint.{ControlPoint}
use Rattle.flow_steps.specs.declared.process.Process.{Process}
use Rattle.flow_steps.specs.Evaluating.{sight_in, with_left, program_time}
use Rattle.flow_steps.specs.Stepping.{value_for, values_for}
use Rattle.flow_steps.specs.Stuck.{SomeMissing, FrameMissing, PlaceMissing, NoPlace, CancelsStuck, OwnerStuck}
use Rattle.flow_steps.specs.StuckCalls.{EvaluatesStuck, meaningless, frame_gone, rest_stuck}
use Rattle.flow_operation_refinement.specs.Placing.{RepresentsActor}
use Rattle.flow_operation_refinement.specs.Matching.{ProcessRepresents}
use Rattle.flow_operation_refinement.specs.Seeing.{IsCodeOf}
use Rattle.flow_operation_refinement.proofs.Arguments.{args_follow}
use Rattle.flow_operation_refinement.proofs.Seen.{expr_follows}
use Rattle.flow_operation_refinement.proofs.Stands.{as_many}
use Rattle.flow_step_refinement.specs.Executing.{coded_by, InProgram}
use Rattle.flow_step_refinement.specs.Continuing.{AtOperands, MayStep, moves, chooses}
use Rattle.flow_step_refinement.proofs.Decodes.{the_instruction}
use Rattle.flow_machine_progress.proofs.Lookups.References.{some_none, none_missing}
use Rattle.flow_burst_refinement.specs.Enabled.Allowing.{Running}
use Rattle.flow_burst_refinement.proofs.Enabled.Steps.{class_is, rules, asks_fit}

-- a frame in memory has as many places as the one that it shows
pub as_many_places : (r : RawTree) (n : FrameTree Value) (e : Entry) (f : Frame) → LiveFrameRepresents r n e f → length n.places ≡ length f.mem.slots + length f.mem.locals
as_many_places r n e f s = sym (as_many (option_map value_of) n.places) ∙ ap length s.places ∙ length-append f.mem.slots f.mem.locals

place_below : (r : RawTree) (n : FrameTree Value) (e : Entry) (f : Frame) (q : Slotted) → LiveFrameRepresents r n e f → HasPlace f q → number_in (length f.code.slots) q < length n.places
place_below r n e f (Slot k) s has = let many = as_many_places r n e f s in omega (arith, many, has)
place_below r n e f (Local k) s has = let many = as_many_places r n e f s in let slots = s.slots in omega (arith, many, slots, has)

-- an actor that stands somewhere in memory has its frame and the places of the frame, and what it refers to is there
module _ (r : RawTree) (ls : List Line) (x : Scan) (m : Process) (p : Proc Frame) (i : ℕ) (e : Entry) (f : Frame) (st : RepresentsActor r ls x m p i e f) where
  pub frame_there : FrameMissing i m.heap → ⊥
  frame_there none = some_none (sym st.acts.framed ∙ none)

  pub has_place : (q : Slotted) → HasPlace f q → NoPlace i (number_in (length f.code.slots) q) m.heap → ⊥
  has_place q has none =
      let short : length st.acts.memory.places ≤ number_in (length f.code.slots) q = subst (PlaceMissing (number_in (length f.code.slots) q)) st.acts.framed none in
      let below = place_below r st.acts.memory e f q st.acts.stands has in omega (arith, short, below)

  pub frame_of : (a : ActorId) → a ≡ actor_id i → FrameMissing a.0 m.heap → ⊥
  frame_of a is none = frame_there (subst (λ (b : ActorId). FrameMissing b.0 m.heap) is none)

  pub refers_there : (qs : List Ref) → AllThere p qs → SomeMissing qs m.heap → ⊥
  refers_there qs there missing = none_missing r x m.heap p qs st.shown.holds there missing

  -- and what it evaluates comes to the same in memory
  module _ (code : Code) (w : Supply) (program : IsCodeOf r code) (time : program_time m.time ≡ pos w.now) (few : length f.code.slots + length f.mem.locals ≤ 2 ^ 32)
      (a : ActorId) (is : a ≡ actor_id i) where
    abbrev names : Naming
    names = record program.coded.names { place = place_in (length f.code.slots) }

    pub value_seen : (t : ExprTree) (res : Resolved) → node_of res ≡ resolved names t → value_for code a.0 res m ≡ value (class_names r) (view w i p.core) (look f.mem) t
    value_seen t res same =
        ap (λ (b : ActorId). value_for code b.0 res m) is ∙ ap (λ k. value_at (sight_in code i m) k m.left) same ∙ expr_follows r ls x m p i e f code w t st program time few

    pub values_seen : (es : ExprTrees) (rs : List Resolved) → nodes_of rs ≡ resolved_all names es → values_for code a.0 rs m ≡ values (class_names r) (view w i p.core) (look f.mem) es
    values_seen es rs same =
        ap (λ (b : ActorId). values_for code b.0 rs m) is ∙ ap (λ k. values_at (sight_in code i m) k m.left) same ∙ args_follow r ls x m p i e f code w st program time few es

-- one that takes its next step does, also at its wait, where it stands at no instruction
pub step_framed : (r : RawTree) (ls : List Line) (x : Scan) (s : ControlPoint) (m : Process) (p : Proc Frame) (i : ℕ) (e : Entry) (f : Frame) → MayStep r ls x s m p i e f
    → FrameMissing s.actor.0 m.heap → ⊥
step_framed r ls x s m p i e f (moves st zero_state) none = frame_of r ls x m _ i e _ st.stood s.actor st.standing.actor none
step_framed r ls x s m p i e f (chooses at) none = frame_of r ls x m p i e f at.stood s.actor at.standing.actor none

pub no_instruction : (r : RawTree) (ls : List Line) (x : Scan) (s : ControlPoint) (m : Process) (p : Proc Frame) (i : ℕ) (e : Entry) (f : Frame) (code : Code) → InProgram r code s f
    → AtOperands r ls x s m p i e f
    → (y : Instruction) → slice_get s.block.now.body.items s.instruction ≡ Some y → ⊥
no_instruction r ls x s m p i e f code inp at y there =
    let a = the_instruction r code.classes.items s i f (coded_by inp.program) inp.standing y at.standing at.instruction there in
    let b = at.wait.fetched in
    let c = a.fetched in cc (b, c)

-- what is noted of the actor whose result a cell is
owner_noted : (k a : ℕ) (xs : stored.Numbered Note) → owner k xs ≡ Some a → stored.thing xs a ≡ None → ⊥
owner_noted k a [] e none = absurd (cc (e))
owner_noted k a (y ∷ ys) e none = by_number (nat_eq a y.0) refl none (owner_noted k a ys)
  where
    by_number : (b : Bool) → nat_eq a y.0 ≡ b → (if b then Some y.1 else stored.thing ys a) ≡ None → (owner k ys ≡ Some a → stored.thing ys a ≡ None → ⊥) → ⊥
    by_number true h none rest = some_none none
    by_number false h none rest = by_result (is_result k y.1.result) e
      where
        by_result : (b : Bool) → (if b then Some y.0 else owner k ys) ≡ Some a → ⊥
        by_result true g =
            let same : y.0 ≡ a = cc (g) in
            let equal = ap (λ n. nat_eq n y.0) (sym same) ∙ same_number y.0 in cc (h, equal)
        by_result false g = rest g none

pub owner_there : (r : RawTree) (ls : List Line) (x : Scan) (m : Process) (p : Proc Frame) (k : ℕ) → ProcessRepresents r ls x m p → OwnerStuck k m.heap → ⊥
owner_there r ls x m p k shown stuck =
    by (stored.thing m.heap.actors.things stuck.0) (stored.thing m.heap.frames.things stuck.0) refl refl (shown.holds.shows.actors stuck.0) stuck.2
  where
    by : (n : Option Note) (g : Option (FrameTree Value)) → stored.thing m.heap.actors.things stuck.0 ≡ n → stored.thing m.heap.frames.things stuck.0 ≡ g
        → ActorRepresents r n g (thing p.core.entries stuck.0) (thing p.actors stuck.0) → CancelsStuck stuck.0 m.heap → ⊥
    by n g noted framed (nobody none a b c) is = owner_noted k stuck.0 m.heap.actors.things stuck.1 (noted ∙ none)
    by n g noted framed (somebody y) (inl none) = some_none (sym (noted ∙ y.noted) ∙ none)
    by n g noted framed (somebody y) (inr none) = some_none (sym (framed ∙ y.framed) ∙ none)

-- what is evaluated has a meaning, and what comes after it doesn't go astray
pub evaluation_there : {A B : Type 0} (s : ControlPoint) (seen : B → A) (c : Res A) (m : Process) (rest : B → Process → Type 0) → (c ≡ Meaningless → ⊥) → (FrameMissing s.actor.0 m.heap → ⊥)
    → ((b : B) (left : ℕ) → c ≡ Done (seen b) left → rest b (with_left left m) → ⊥) → EvaluatesStuck s seen c m rest → ⊥
evaluation_there s seen c m rest has_meaning framed onward (meaningless is) = has_meaning is
evaluation_there s seen c m rest has_meaning framed onward (frame_gone is) = framed is
evaluation_there s seen c m rest has_meaning framed onward (rest_stuck b left done stuck) = onward b left done stuck

-- an actor that runs is never stuck
module _ (r : RawTree) (w : Supply) (p : Proc Frame) (i : ℕ) (e : Entry) (f : Frame) (run : Running r p i e f) where
  abbrev pub Fit : StepOf Frame → Type 0
  Fit z = AsksFit r (class_vars f.code) (typed_by run.kept.types) f.code (kept_by (thing p.core.entries i)) z

  -- the class of its frame keeps the rules
  pub own_rules : KeepsRules r (heads r) f.code (class_vars f.code)
  own_rules = (rules r w p i e f run).classes e.class f.code (class_is r w p i e f run)

  pub fits_at : (o : Fetched) → fetch f.code f.block f.instr ≡ o → Fit (fetched (class_names r) (view w i p.core) f o)
  fits_at o is = asks_fit r w p i e f run o is

  pub has_meaning : {B : Type 0} (c : Res B) (go : B → ℕ → StepOf Frame) → Fit (evaluated f c go) → c ≡ Meaningless → ⊥
  has_meaning c go fit is = (subst (λ z. Fit (evaluated f z go)) is fit).0

  pub fits_onward : {B : Type 0} (c : Res B) (go : B → ℕ → StepOf Frame) (b : B) (left : ℕ) → Fit (evaluated f c go) → c ≡ Done b left → Fit (go b left)
  fits_onward c go b left fit is = subst (λ z. Fit (evaluated f z go)) is fit
