-- An assignment, a new cell and a drop find their places.
use Rattle.std.proofs.Common.{◌≡◌, ℕ, ◌+◌, List, [], ◌∷◌, length, map, inl, inr, refl, sym, ap, ◌∙◌, subst, arith}
use Rattle.std.specs.declared.option.Option.TheVariants.{Some}
use Rattle.flow_base.specs.declared.ids.ActorId.{ActorId}
use Rattle.flow_tree.specs.declared.ty.Ident.{Ident}
use Rattle.flow_tree.specs.Tree.{ExprTree, ExprTrees}
use Rattle.flow_value.specs.declared.value.Value.{Value}
use Rattle.flow_value.specs.Values.{ValueTree, NoValues, CompositeValue, ListWhole, refs_of}
use Rattle.flow_value.specs.View.{value_of}
use Rattle.flow_eval.specs.Eval.{Res, Done, Meaningless}
use Rattle.flow_code.specs.declared.expr.expr.Resolved.{Resolved}
use Rattle.flow_code.specs.Resolved.Tree.{EmptyNode}
use Rattle.flow_code.specs.Resolved.View.{node_of, nodes_of}
use Rattle.flow_code.specs.Resolved.Evaluation.{value_at}
use Rattle.flow_code.specs.Resolved.Resolving.{resolved, resolved_all}
use Rattle.flow_class.specs.declared.class.Slotted.{Slotted}
use Rattle.flow_class.specs.Classes.{SetInstr, NewInstr, DropInstr, RawTree}
use Rattle.flow_class.specs.Code.{Body, fetch}
use Rattle.flow_code.specs.declared.class.Aim.{Aim}
use Rattle.flow_code.specs.declared.program.Code.{Code}
use Rattle.flow_code.specs.View.{aim_of}
use Rattle.flow_code.specs.Coding.{Coding, aimed, places}
use Rattle.flow_code.specs.Coded.{coding}
use Rattle.flow_code.specs.Places.{place_of}
use Rattle.flow_trace.specs.declared.line.Line.{Line}
use Rattle.flow_frame.specs.Frames.{FrameTree}
use Rattle.flow_meaning.specs.Requests.{Supply}
use Rattle.flow_meaning.specs.Cells.{Ref}
use Rattle.flow_meaning.specs.Evaluating.{given, value, values}
use Rattle.flow_meaning.specs.Process.{Entry, Proc}
use Rattle.flow_meaning.specs.References.{Scan}
use Rattle.flow_meaning.specs.Step.{view}
use Rattle.flow_meaning.specs.Class.{placed, class_names}
use Rattle.flow_meaning.specs.Frame.{Frame, look, assign}
use Rattle.flow_heap_refinement.specs.Acting.{put_frame}
use Rattle.flow_heap_refinement.specs.FrameChanges.{HasPlace, number_in}
use Rattle.flow_heap_refinement.specs.Holds.{AllThere}
use Rattle.flow_steps.specs.declared.frames.ControlPoint.{ControlPoint}
use Rattle.flow_steps.specs.declared.process.Process.{Process}
use Rattle.flow_steps.specs.Holding.{value_refs}
use Rattle.flow_steps.specs.Evaluating.{sight_in, with_left}
use Rattle.flow_steps.specs.Stepping.{value_for, values_for}
use Rattle.flow_steps.specs.Stuck.{SomeMissing, FrameMissing, NoPlace, SomePlaceMissing, AimsStuck, no_place, no_part}
use Rattle.flow_steps.specs.StuckCalls.{EvaluatesStuck}
use Rattle.flow_steps.specs.StuckSteps.{SetStuck, EmptiesStuck}
use Rattle.flow_operation_refinement.specs.Placing.{HasLocals}
use Rattle.flow_operation_refinement.specs.Continuing.{stale, MayBeStale}
use Rattle.flow_operation_refinement.specs.Coded.{CodedBy}
use Rattle.flow_operation_refinement.proofs.Brought.{all_there_by}
use Rattle.flow_step_refinement.specs.Assigning.{AimsAt, CanAssign}
use Rattle.flow_step_refinement.specs.Executing.{MaySet, MayDoNext, coded_by}
use Rattle.flow_step_refinement.proofs.Decodes.{placed as place_placed, aim_there}
use Rattle.flow_burst_refinement.proofs.Enabled.Steps.{step_allowed}
use Rattle.flow_machine_progress.specs.Lookups.{AllBelow}
use Rattle.flow_machine_progress.proofs.Lookups.Closing.{places_found}
use Rattle.flow_machine_progress.specs.Actors.{AtStep}
use Rattle.flow_machine_progress.proofs.Actors.Aims.{aims_there}
use Rattle.flow_machine_progress.proofs.Actors.Here.{as_many_places, frame_of, value_seen, values_seen, has_place, refers_there, evaluation_there, fits_at, has_meaning}

-- numbers of locals that a frame has are those of places
locals_below : (f : Frame) (n : ℕ) (ns : List ℕ) → HasLocals f ns → n ≡ length f.code.slots + length f.mem.locals → AllBelow n (map (λ k. length f.code.slots + k) ns)
locals_below f n [] has e = tt
locals_below f n (k ∷ ns) has e = (let lt = has.0 in omega (arith, lt, e), locals_below f n ns has.1 e)

module _ (r : RawTree) (code : Code) (w : Supply) (ls : List Line) (x : Scan) (s : ControlPoint) (m : Process) (p : Proc Frame) (i : ℕ) (e : Entry) (f : Frame)
    (now : AtStep r code w ls x s m p i e f) (st : MayBeStale r ls x s m p i e f) where
  abbrev pub by : CodedBy r code.classes.items
  by = coded_by now.standing.program

  abbrev pub coding_now : Coding
  coding_now = coding by.names by.class (length f.code.slots)

  -- its frame as memory has it, and the process with that
  abbrev pub old : Frame
  old = stale st.block st.instr st.state f

  abbrev pub seen : Proc Frame
  seen = put_frame i old p

  pub framed : FrameMissing s.actor.0 m.heap → ⊥
  framed none = frame_of r ls x m seen i e old st.stood s.actor st.standing.actor none

  pub place_is : (q : Slotted) (n : ℕ) → HasPlace f q → n ≡ number_in (length f.code.slots) q → NoPlace s.actor.0 n m.heap → ⊥
  place_is q n has is none =
      has_place r ls x m seen i e old st.stood q has
      (subst (λ k. NoPlace i k m.heap) is (subst (λ (a : ActorId). NoPlace a.0 n m.heap) st.standing.actor none))

  pub refers : (qs : List Ref) → AllThere p qs → SomeMissing qs m.heap → ⊥
  refers qs there = refers_there r ls x m seen i e old st.stood qs (all_there_by p seen qs refl there)

  pub value_is_that : (t : ExprTree) (res : Resolved) → node_of res ≡ resolved coding_now.names t → value_for code s.actor.0 res m ≡ value (class_names r) (view w i p.core) (look f.mem) t
  value_is_that = value_seen r ls x m seen i e old st.stood code w now.standing.program now.clock now.standing.few s.actor st.standing.actor

  pub values_are : (es : ExprTrees) (rs : List Resolved) → nodes_of rs ≡ resolved_all coding_now.names es → values_for code s.actor.0 rs m ≡ values (class_names r) (view w i p.core) (look f.mem) es
  values_are = values_seen r ls x m seen i e old st.stood code w now.standing.program now.clock now.standing.few s.actor st.standing.actor

  -- a value that can be put where a path leads
  aims_meant : (xs : List Ident) (aim : Aim) (v : ValueTree) → AimsAt r.records code f xs aim → CanAssign r.records f xs v → AimsStuck code.fields s.actor.0 aim m.heap → ⊥
  aims_meant xs aim v to can stuck =
      aims_there r ls x m seen i e old st.stood code xs aim v to_old can (subst (λ (a : ActorId). AimsStuck code.fields a.0 aim m.heap) st.standing.actor stuck)
    where
      to_old : AimsAt r.records code old xs aim
      to_old = record {
        name = to.name;
        fields = to.fields;
        place = to.place;
        field = to.field;
        names = to.names;
        named = to.named;
        has = to.has;
        number = to.number;
        numbering = to.numbering;
        numbers = to.numbers;
      }

  -- an assignment
  pub set_meant : (aim : Aim) (res : Resolved) (xs : List Ident) (t : ExprTree) → fetch f.code f.block f.instr ≡ Body (SetInstr xs t) → aimed coding_now xs ≡ Some (aim_of aim)
      → node_of res ≡ resolved coding_now.names t → EvaluatesStuck s value_of (value_for code s.actor.0 res m) m (SetStuck code s aim) → ⊥
  set_meant aim res xs t there aims node = evaluation_there s value_of (value_for code s.actor.0 res m) m (SetStuck code s aim) meant framed set_there
    where
      comes_to : Res ValueTree
      comes_to = value (class_names r) (view w i p.core) (look f.mem) t

      is : value_for code s.actor.0 res m ≡ comes_to
      is = value_is_that t res node

      may : MaySet r w p i e f xs t
      may = subst (MayDoNext r w p i e f) there (step_allowed r w p i e f now.running)

      to : AimsAt r.records code f xs aim
      to = aim_there r code.classes.items code f xs aim by now.standing.program.coded.are_numbers may.rooted aims

      meant : value_for code s.actor.0 res m ≡ Meaningless → ⊥
      meant none =
          has_meaning r w p i e f now.running comes_to (λ u left. given f (assign r.records f.mem xs u) (placed (class_names r) (view w i p.core) f left))
          (fits_at r w p i e f now.running (Body (SetInstr xs t)) there) (sym is ∙ none)

      set_there : (v : Value) (left : ℕ) → value_for code s.actor.0 res m ≡ Done (value_of v) left → SetStuck code s aim v (with_left left m) → ⊥
      set_there v left done (inl missing) = refers (value_refs v) (may.there (value_of v) left (sym is ∙ done)) missing
      set_there v left done (inr stuck) = aims_meant xs aim (value_of v) to (may.can (value_of v) left (sym is ∙ done)) stuck

  -- a new cell
  pub new_meant : (place : ℕ) (q : Slotted) → fetch f.code f.block f.instr ≡ Body (NewInstr q) → place_of (length f.code.slots) q ≡ Some place → NoPlace s.actor.0 place m.heap → ⊥
  new_meant place q there placed none =
      let may = subst (MayDoNext r w p i e f) there (step_allowed r w p i e f now.running) in place_is q place may.0 (place_placed (length f.code.slots) q place placed) none

  -- the empty vector goes into a place
  pub vector_meant : (aim : Aim) (res : Resolved) (q : Slotted) → fetch f.code f.block f.instr ≡ Body (NewInstr q) → place_of (length f.code.slots) q ≡ Some aim.place → aim.path.items ≡ []
      → node_of res ≡ EmptyNode → EvaluatesStuck s value_of (value_for code s.actor.0 res m) m (SetStuck code s aim) → ⊥
  vector_meant aim res q there place path node = evaluation_there s value_of (value_for code s.actor.0 res m) m (SetStuck code s aim) meant framed set_there
    where
      is : value_for code s.actor.0 res m ≡ Done (CompositeValue ListWhole NoValues) m.left
      is = ap (λ k. value_at (sight_in code s.actor.0 m) k m.left) node

      meant : value_for code s.actor.0 res m ≡ Meaningless → ⊥
      meant none = cc (is, none)

      aims_somewhere : AimsStuck code.fields s.actor.0 aim m.heap → ⊥
      aims_somewhere (no_place none) = new_meant aim.place q there place none
      aims_somewhere (no_part g gs goes none) = cc (path, goes)

      set_there : (v : Value) (left : ℕ) → value_for code s.actor.0 res m ≡ Done (value_of v) left → SetStuck code s aim v (with_left left m) → ⊥
      set_there v left done (inl missing) =
          let both = sym is ∙ done in
          let same : CompositeValue ListWhole NoValues ≡ value_of v = cc (both) in
          refers (value_refs v) (subst (λ u. AllThere p (refs_of u)) same tt) missing
      set_there v left done (inr stuck) = aims_somewhere stuck

  -- a drop
  pub drop_meant : (ps ns : List ℕ) → fetch f.code f.block f.instr ≡ Body (DropInstr ns) → ps ≡ places coding_now ns → EmptiesStuck s ps m.heap → ⊥
  drop_meant ps ns there same (inl none) = framed none
  drop_meant ps ns there same (inr missing) =
      let may = subst (MayDoNext r w p i e f) there (step_allowed r w p i e f now.running) in
      let n : FrameTree Value = st.stood.acts.memory in
      places_found i (places coding_now ns) m.heap n st.stood.acts.framed
      (locals_below f (length n.places) ns may (let many : length n.places ≡ length f.mem.slots + length f.mem.locals = as_many_places r n e old st.stood.acts.stands in let slots : length f.mem.slots
      ≡ length f.code.slots = st.stood.acts.stands.slots in omega (arith, many, slots)))
      (subst (λ l. SomePlaceMissing i l m.heap) same (subst (λ (a : ActorId). SomePlaceMissing a.0 ps m.heap) st.standing.actor missing))
