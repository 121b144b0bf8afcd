-- The wait at which an actor stands begins: its next operand is kept, or it waits at the cells of all of them.
use Rattle.std.proofs.Common.{◌≡◌, ℕ, ◌+◌, List, [], ◌∷◌, length, inl, inr, refl, sym, ap, ◌∙◌, subst, arith}
use Rattle.std.specs.Prelude.{slice_get}
use Rattle.std.specs.Option.{option_map, option_and_then}
use Rattle.std.specs.declared.option.Option.{Option}
use Rattle.std.specs.declared.option.Option.TheVariants.{None, Some}
use Rattle.flow_base.specs.declared.ids.ActorId.{ActorId}
use Rattle.flow_tree.specs.Tree.{ExprTrees}
use Rattle.flow_value.specs.Values.{ValueTree, IntValue, BoolValue, TextValue, VoidValue, ErrorValue, CompositeValue, RefValue}
use Rattle.flow_value.specs.View.{value_of}
use Rattle.flow_eval.specs.Eval.{Done}
use Rattle.flow_class.specs.Classes.{ChooseLast, CallbackTree, RawTree}
use Rattle.flow_class.specs.Code.{Last, fetch, group_at, callback_at}
use Rattle.flow_code.specs.declared.expr.expr.Resolved.{Resolved}
use Rattle.flow_code.specs.Resolved.Resolving.{resolved}
use Rattle.flow_code.specs.Resolved.Tree.{Nodes}
use Rattle.flow_code.specs.Resolved.Evaluation.{values_at}
use Rattle.flow_code.specs.Resolved.View.{node_of, nodes_of}
use Rattle.flow_code.specs.declared.class.Branch.{Branch}
use Rattle.flow_code.specs.declared.class.Effect.{Effect}
use Rattle.flow_code.specs.declared.class.Group.{Group}
use Rattle.flow_code.specs.declared.class.Last.TheVariants as last
use Rattle.flow_code.specs.declared.class.Operand.{Operand}
use Rattle.flow_code.specs.declared.class.Operand.TheVariants as operand
use Rattle.flow_code.specs.declared.program.Code.{Code}
use Rattle.flow_code.specs.Classes.{BranchCode}
use Rattle.flow_code.specs.View.{end_of, branch_of, operand_of, group_numbered}
use Rattle.flow_code.specs.Coding.{Coding, operand_code, coded_branch, coded_operand}
use Rattle.flow_code.specs.Coding as codes
use Rattle.flow_code.specs.Coded.{coding}
use Rattle.flow_trace.specs.declared.line.Line.{Line}
use Rattle.flow_numbered.specs.Numbered as stored
use Rattle.flow_cancel.specs.declared.actors.Note.{Note}
use Rattle.flow_cancel.specs.Heap.{cell_id}
use Rattle.flow_numbered.specs.Numbered.{thing}
use Rattle.flow_meaning.specs.Requests.{Supply, Kept}
use Rattle.flow_meaning.specs.Evaluating as effects
use Rattle.flow_meaning.specs.Evaluating.{StepOf, evaluated, value}
use Rattle.flow_meaning.specs.Process.{Entry, Proc}
use Rattle.flow_meaning.specs.References.{Scan}
use Rattle.flow_meaning.specs.Step as machine
use Rattle.flow_meaning.specs.Step.{view}
use Rattle.flow_meaning.specs.Class.{operand_ref, operand_by, choose, class_names}
use Rattle.flow_meaning.specs.Frame.{Frame, look, spot_of}
use Rattle.flow_heap_refinement.specs.Representing.{wait_spot, held_from}
use Rattle.flow_heap_refinement.specs.Holds.{with_refs, hold}
use Rattle.flow_heap_refinement.proofs.Holds.{held_holds}
use Rattle.flow_steps.specs.declared.frames.ControlPoint.{ControlPoint}
use Rattle.flow_steps.specs.declared.process.Process.{Process}
use Rattle.flow_steps.specs.Holding.{on_heap}
use Rattle.flow_steps.specs.Evaluating.{sight_in}
use Rattle.flow_steps.specs.Points.{noting, noted, noted_stand}
use Rattle.flow_steps.specs.Stepping.{value_for, kept_by}
use Rattle.flow_steps.specs.Waiting.{callbacks_in, callbacks_of, first_ready}
use Rattle.flow_steps.specs.Stuck.{FrameMissing}
use Rattle.flow_steps.specs.StuckWaits.{SomeNoCell, WaitsStuck, first_stuck, no_cell, frameless}
use Rattle.flow_steps.specs.StuckCalls.{EvaluatesStuck, EffectStuck, meaningless, rest_stuck}
use Rattle.flow_steps.specs.StuckCalls as calls
use Rattle.flow_steps.specs.StuckSteps.{ReferenceStuck, ValueKeptStuck, AsksStuck, ChoosesStuck, no_group_of, operand_stuck, wait_stuck}
use Rattle.flow_steps.specs.StuckSteps as steps
use Rattle.flow_operation_refinement.proofs.Stands.{both_mapped}
use Rattle.flow_step_refinement.specs.Continuing.{AtOperands, MayStep, moves, chooses}
use Rattle.flow_step_refinement.specs.Decoding.{IsGroup, effect_of_name}
use Rattle.flow_step_refinement.specs.Choosing.{CanWaitAt}
use Rattle.flow_step_refinement.specs.Executing.{AllKept, MayDoNext, MayChoose, coded_by, InProgram}
use Rattle.flow_step_refinement.proofs.Named.{effect_there}
use Rattle.flow_step_refinement.proofs.Decodes.{both_there, the_end, the_wait, group_there}
use Rattle.flow_step_refinement.proofs.Choices.{choice_begins}
use Rattle.flow_step_refinement.specs.Effects.Texts.{EffectText}
use Rattle.flow_step_refinement.proofs.Effects.Decoded.{operand_coded}
use Rattle.flow_invariants.proofs.Unmarked.Groups.{group_begins}
use Rattle.flow_burst_refinement.proofs.Invariants.Homes.{at_home}
use Rattle.flow_burst_refinement.proofs.Enabled.Steps.{class_is, step_allowed}
use Rattle.flow_burst_refinement.specs.Requests.Next.{MayChooseBy, MayAskNext}
use Rattle.flow_burst_refinement.proofs.Requests.Allowed.{ask_allowed}
use Rattle.flow_machine_progress.proofs.Lookups.References.{none_missing, cells_there}
use Rattle.flow_machine_progress.proofs.Lookups.Standing.{group_found}
use Rattle.flow_machine_progress.specs.Actors.{AtStep}
use Rattle.flow_burst_refinement.proofs.Requests.Answers.{as_many}
use Rattle.flow_step_refinement.proofs.Chooses.{nothing_mapped}
use Rattle.flow_machine_progress.specs.Actors as law
use Rattle.flow_machine_progress.proofs.Actors.Here.{frame_of, value_seen, values_seen, step_framed, Fit, fits_at}
use Rattle.flow_machine_progress.proofs.Actors.Froms.{EndOf, end_from}
use Rattle.flow_machine_progress.proofs.Actors.Effects.{noting_notes, effect_made}
use Rattle.flow_machine_progress.proofs.Actors.Operands.{Waiting, waiting_held, ready_found, keeps_found, first_found, cells_kept, operands_there}

module _ (r : RawTree) (code : Code) (w : Supply) (ls : List Line) (x : Scan) (s : ControlPoint) (m : Process) (p : Proc Frame) (i : ℕ) (e : Entry) (f : Frame)
    (st : AtStep r code w ls x s m p i e f) where
  abbrev inp : InProgram r code s f
  inp = st.standing

  abbrev by : Coding
  by = coding inp.program.coded.names inp.program.coded.class (length f.code.slots)

  abbrev told : Process
  told = noted s m

  abbrev own : ControlPoint
  own = noted_stand s

  abbrev Fits : StepOf Frame → Type 0
  Fits z = Fit r w p i e f st.running z

  -- a group at whose wait the actor stands
  class_at : slice_get r.classes e.class ≡ Some f.code
  class_at = class_is r w p i e f st.running

  callbacks_there : (number : ℕ) → fetch f.code f.block f.instr ≡ Last (ChooseLast number) → (cs : List CallbackTree) × (group_at f.code.groups number ≡ Some cs)
  callbacks_there number fetched = by_group (group_at f.code.groups number) refl
    where
      by_group : (o : Option (List CallbackTree)) → group_at f.code.groups number ≡ o → (cs : List CallbackTree) × (group_at f.code.groups number ≡ Some cs)
      by_group None at =
          absurd (group_begins r st.running.whole.valid.valid e.class f.code class_at (st.running.whole.groups e.class f.code class_at) f.block f.instr number fetched
          (ap (option_and_then (λ cs. slice_get cs 0)) at))
      by_group (Some cs) at = (cs, at)

  has_group : (number : ℕ) → fetch f.code f.block f.instr ≡ Last (ChooseLast number) → group_numbered number s.class.now.groups.items ≡ None → ⊥
  has_group number fetched none =
      let there = callbacks_there number fetched in
      group_found r code.classes.items (coded_by inp.program) s.class.now f inp.standing.class (at_home r st.running.whole.valid.valid e.class f.code class_at) number fetched there.0 there.1 none

  module _ (number : ℕ) (fetched : fetch f.code f.block f.instr ≡ Last (ChooseLast number)) (ends_in : s.block.now.last ≡ last.Choose number)
      (at : AtOperands r ls x own told p i e f) (may : MayChoose r w p i e f number) where
    abbrev kept : ℕ
    kept = kept_by s told

    -- its frame keeps its operands
    callbacks_are : callbacks_of s.actor.0 told.heap ≡ held_from (wait_spot f).first e.operands
    callbacks_are =
        ap (λ (a : ActorId). callbacks_of a.0 told.heap) at.standing.actor
        ∙ ap (λ o. callbacks_in o) at.stood.acts.framed
        ∙ at.stood.acts.stands.callbacks

    many : kept ≡ length e.operands
    many = ap length callbacks_are ∙ as_many (wait_spot f).first e.operands

    entered : machine.kept_by (thing p.core.entries i) ≡ length e.operands
    entered = ap machine.kept_by at.stood.acts.entered

    frame_told : FrameMissing s.actor.0 told.heap → ⊥
    frame_told none = frame_of r ls x told p i e f at.stood s.actor at.standing.actor none

    module _ (group : Group) (of_number : group_numbered number s.class.now.groups.items ≡ Some group) where
      pub is_group : IsGroup by f number group
      is_group = group_there r code.classes.items s i f number group (coded_by inp.program) inp.standing of_number

      first_is : group.first ≡ (wait_spot f).first
      first_is =
          let same : at.group ≡ number = let a = at.wait.fetched in cc (a, fetched) in
          at.wait.first group (ap (λ k. group_numbered k s.class.now.groups.items) same ∙ of_number)

      waiting : Waiting told.heap own number group
      waiting = record {
        note = at.stood.acts.note;
        frame = at.stood.acts.memory;
        noted = ap (λ (z : ActorId). stored.thing told.heap.actors.things z.0) at.standing.actor ∙ at.stood.acts.noted;
        framed = ap (λ (z : ActorId). stored.thing told.heap.frames.things z.0) at.standing.actor ∙ at.stood.acts.framed;
        waits = ends_in;
        of_number = of_number;
      }

      -- the branch and the callback of a number
      pub branches : option_map branch_of (slice_get group.branches.items kept) ≡ option_map (coded_branch by) (slice_get is_group.callbacks kept)
      branches = both_mapped branch_of (coded_branch by) group.branches.items is_group.callbacks kept is_group.coded

      pub callback_is : (o : Option CallbackTree) → slice_get is_group.callbacks kept ≡ o → callback_at f.code number (length e.operands) ≡ o
      callback_is o there = ap (option_and_then (λ cs. slice_get cs (length e.operands))) is_group.at ∙ ap (slice_get is_group.callbacks) (sym many) ∙ there

      -- what it asks for by a callback fits
      pub fits_by : (c : CallbackTree) → callback_at f.code number (length e.operands) ≡ Some c → (o : Option (effects.Effectful × ExprTrees)) → effects.effect_in (class_names r) c.operand ≡ o
          → Fits (operand_by (class_names r) (view w i p.core) f (spot_of f.code number) c.operand o)
      fits_by c there o is =
          let fit = fits_at r w p i e f st.running (Last (ChooseLast number)) fetched in
          let one = subst (λ z. Fits (choose (class_names r) (view w i p.core) f (spot_of f.code number) z)) (ap (callback_at f.code number) entered ∙ there) fit in
          subst (λ z. Fits (operand_by (class_names r) (view w i p.core) f (spot_of f.code number) c.operand z)) is one

      -- an operand by its value
      abbrev asked_of : ValueTree → ℕ → StepOf Frame
      asked_of u left = operand_ref (class_names r) (view w i p.core) f left (spot_of f.code number) u

      value_kept : (c : CallbackTree) → callback_at f.code number (length e.operands) ≡ Some c → effects.effect_in (class_names r) c.operand ≡ None
          → (u : ValueTree) (left : ℕ) → value (class_names r) (view w i p.core) (look f.mem) c.operand ≡ Done u left
          → Fits (asked_of u left) → ReferenceStuck own (group.first + kept) u told.heap → ⊥
      value_kept c there pure (RefValue kd k) left done fit (inl missing) =
          let can : CanWaitAt p (kd, k) = may.operand c there pure kd k left done in
          none_missing r x told.heap p ((kd, k) ∷ []) at.stood.shown.holds (can.there, tt) (inl missing)
      value_kept c there pure (RefValue kd k) left done fit (inr stuck) =
          let can : CanWaitAt p (kd, k) = may.operand c there pure kd k left done in
          let holds = held_holds r told.heap p x (kd, k) at.stood.shown.holds can.there in
          keeps_found r (with_refs ((kd, k) ∷ []) x) (hold kd k told.heap) p own number group holds (waiting_held kd k told.heap own number group waiting)
          (record { callback = group.first + kept; cell = cell_id k }) can.cell (omega arith) can.takeable stuck
      value_kept c there pure (IntValue z) left done fit stuck = fit.0
      value_kept c there pure (BoolValue z) left done fit stuck = fit.0
      value_kept c there pure (TextValue z) left done fit stuck = fit.0
      value_kept c there pure VoidValue left done fit stuck = fit.0
      value_kept c there pure (ErrorValue z) left done fit stuck = fit.0
      value_kept c there pure (CompositeValue n vs) left done fit stuck = fit.0

      by_value : (c : CallbackTree) (res : Resolved) → callback_at f.code number (length e.operands) ≡ Some c → effects.effect_in (class_names r) c.operand ≡ None
          → node_of res ≡ resolved by.names c.operand
          → EvaluatesStuck own value_of (value_for code s.actor.0 res told) told (ValueKeptStuck own (group.first + kept)) → ⊥
      by_value c res there pure same stuck = by_case stuck
        where
          is : value_for code s.actor.0 res told ≡ value (class_names r) (view w i p.core) (look f.mem) c.operand
          is = value_seen r ls x told p i e f at.stood code w inp.program st.clock inp.few s.actor at.standing.actor c.operand res same

          fit : Fits (evaluated f (value (class_names r) (view w i p.core) (look f.mem) c.operand) asked_of)
          fit = fits_by c there None pure

          by_case : EvaluatesStuck own value_of (value_for code s.actor.0 res told) told (ValueKeptStuck own (group.first + kept)) → ⊥
          by_case (meaningless none) = (subst (λ z. Fits (evaluated f z asked_of)) (sym is ∙ none) fit).0
          by_case (calls.frame_gone none) = frame_told none
          by_case (rest_stuck u left done further) =
              value_kept c there pure (value_of u) left (sym is ∙ done) (subst (λ z. Fits (evaluated f z asked_of)) (sym is ∙ done) fit) further

      -- and by an effect
      by_effect : (c : CallbackTree) (eff : Effect) (args : List Resolved) → callback_at f.code number (length e.operands) ≡ Some c → EffectText r by c.operand eff (nodes_of args)
          → EffectStuck code own eff args told → ⊥
      by_effect c eff args there of stuck =
          let may : MayChooseBy r code w p i e f number = subst (MayAskNext r code w p i e f) fetched (ask_allowed r code w p i e f st.running inp.program) in
          effect_made r code w ls x own told p i e f st.running of.exprs (Kept (spot_of f.code number)) of.called eff
          (values_at (sight_in code s.actor.0 told) (nodes_of args) told.left) of.same
          (record {
            ask = record { actor = at.standing.actor; stood = at.stood; asked = st.unasked };
            framed = frame_told;
            notes = subst (λ (z : stored.Store Note). stored.IsRising 0 z.things z.greatest) (sym (noting_notes s.noted s.actor.0 s.place s.instruction m.heap)) st.sorted.actors;
            fits = fits_by c there (Some (of.called, of.exprs)) of.is_effect;
            may = may.operand c there of.called of.exprs of.is_effect;
          })
          (values_seen r ls x told p i e f at.stood code w inp.program st.clock inp.few s.actor at.standing.actor of.exprs args of.resolved) stuck

      by_operand : (b : Branch) (o : Operand) → b.operand ≡ o → (c : CallbackTree) → callback_at f.code number (length e.operands) ≡ Some c → operand_of o ≡ coded_operand by c.operand
          → AsksStuck code own (group.first + kept) o told → ⊥
      by_operand b (operand.Value res) is c there coded stuck = by_code (codes.effect_in by c.operand) refl coded
        where
          by_code : (y : Option (Effect × Nodes)) → codes.effect_in by c.operand ≡ y → operand_of (operand.Value res) ≡ operand_code y (resolved by.names c.operand) → ⊥
          by_code (Some y) effect same = cc (same)
          by_code None effect same =
              let node : node_of res ≡ resolved by.names c.operand = cc (same) in
              let pure : effects.effect_in (class_names r) c.operand ≡ None =
              nothing_mapped (λ y. (effect_of_name y.0, _)) (effects.effect_in (class_names r) c.operand)
              (sym effect ∙ effect_there r code.classes.items f c.operand (coded_by inp.program) inp.program.coded.are_classes) in
              by_value c res there pure node stuck
      by_operand b (operand.Effect eff args) is c there coded stuck =
          by_effect c eff args.items there (operand_coded r by c.operand eff (nodes_of args.items) inp.program.coded.are_classes coded) stuck

      operand_found : (b : Branch) → slice_get group.branches.items kept ≡ Some b → AsksStuck code own (group.first + kept) b.operand told → ⊥
      operand_found b there stuck =
          let c = both_there branch_of (coded_branch by) b (slice_get is_group.callbacks kept) (sym (ap (option_map branch_of) there) ∙ branches) in
          by_operand b b.operand refl c.0 (callback_is (Some c.0) c.1.0) (ap (λ (y : BranchCode). y.operand) c.1.1) stuck

      -- all operands are kept
      wait_found : slice_get group.branches.items kept ≡ None → WaitsStuck own told.heap → ⊥
      wait_found over stuck = by_case stuck
        where
          no_callback : slice_get is_group.callbacks kept ≡ None
          no_callback = nothing_mapped (coded_branch by) (slice_get is_group.callbacks kept) (sym (ap (option_map branch_of) over) ∙ branches)

          all : AllKept r w p i e f
          all = may.kept (callback_is None no_callback)

          by_case : WaitsStuck own told.heap → ⊥
          by_case (first_stuck y first stuck) =
              let a = first_found p told.heap all.contents (wait_spot f).first e.operands y all.waitable (ap (first_ready told.heap) (sym callbacks_are) ∙ first) in
              let after = a.after in
              let begins = first_is in
              ready_found r x told.heap p own number group at.stood.shown.holds waiting y a.cell (omega (arith, after, begins)) a.takes a.ready stuck
          by_case (no_cell none) =
              cells_there r x told.heap p e.operands (held_from (wait_spot f).first e.operands) at.stood.shown.holds (operands_there p e.operands all.waitable)
              (cells_kept (wait_spot f).first e.operands) (subst (λ ys. SomeNoCell ys told.heap) callbacks_are none)
          by_case (frameless none) = frame_told none

    chosen : ChoosesStuck code s number m → ⊥
    chosen (no_group_of none) = has_group number fetched none
    chosen (steps.frame_gone none) = step_framed r ls x s m p i e f st.may none
    chosen (operand_stuck group b of_number there stuck) = operand_found group of_number b there stuck
    chosen (wait_stuck group of_number over stuck) = wait_found group of_number over stuck

  -- where its frame is told
  pub at_told : AtOperands r ls x s m p i e f → AtOperands r ls x own told p i e f
  at_told at =
      let same_stand : own ≡ s = ap (λ b. record s { noted = b }) (sym at.noted) in
      let same_told : told ≡ m = ap (λ b. on_heap (noting b s.actor.0 s.place s.instruction) m) at.noted in
      subst (λ y. AtOperands r ls x y told p i e f) (sym same_stand) (subst (λ y. AtOperands r ls x s y p i e f) (sym same_told) at)

  pub may_choose : (number : ℕ) → fetch f.code f.block f.instr ≡ Last (ChooseLast number) → MayChoose r w p i e f number
  may_choose number fetched = subst (MayDoNext r w p i e f) fetched (step_allowed r w p i e f st.running)

  choice_made : (number : ℕ) → s.instruction ≡ length s.block.now.body.items → s.block.now.last ≡ last.Choose number → MayStep r ls x s m p i e f → ChoosesStuck code s number m → ⊥
  choice_made number end ends_in (moves stale zero_state) stuck =
      let here = the_end r code.classes.items s i f (coded_by inp.program) inp.standing stale.standing stale.instruction end in
      let text : here.text ≡ ChooseLast number = subst (EndOf by here.text) (sym here.coded ∙ ap end_of ends_in) (end_from by here.text) in
      let fetched = here.fetched ∙ ap Last text in
      let wait = the_wait r code.classes.items s i f (coded_by inp.program) inp.standing number stale.standing fetched in
      let may = may_choose number fetched in
      chosen number fetched ends_in (choice_begins r ls m p i e f x s number stale wait may.go zero_state) may stuck
  choice_made number end ends_in (chooses at) stuck =
      let same : at.group ≡ number = let k = at.wait.last in cc (k, ends_in) in
      let fetched : fetch f.code f.block f.instr ≡ Last (ChooseLast number) = at.wait.fetched ∙ ap (λ k. Last (ChooseLast k)) same in
      chosen number fetched ends_in (at_told at) (may_choose number fetched) stuck

pub choice_meant : (r : RawTree) (code : Code) (w : Supply) (ls : List Line) (x : Scan) (s : ControlPoint) (m : Process) (p : Proc Frame) (i : ℕ) (e : Entry) (f : Frame)
    → law.ChoiceMeant r code w ls x s m p i e f
choice_meant r code w ls x s m p i e f number at end ends_in stuck =
    choice_made r code w ls x s m p i e f at number end ends_in at.may stuck
