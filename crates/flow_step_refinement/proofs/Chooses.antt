-- A wait in memory asks for the operand that the text has next, or waits where there is none.
use Rattle.std.proofs.Common.{◌≡◌, ◌⊎◌, inl, inr, ℕ, zero, suc, ◌+◌, pos, List, [], ◌∷◌, length, refl, sym, ap, ◌∙◌, subst, arith}
use Rattle.std.specs.Prelude.{slice_get}
use Rattle.std.specs.Option.{option_map, option_and_then}
use Rattle.std.specs.declared.option.Option.{Option}
use Rattle.std.specs.declared.option.Option.TheVariants.{None, Some}
use Rattle.flow_base.specs.declared.ids.ActorId.{ActorId}
use Rattle.flow_value.specs.View.{value_of}
use Rattle.flow_code.specs.declared.expr.expr.Resolved.{Resolved}
use Rattle.flow_code.specs.Resolved.View.{node_of}
use Rattle.flow_code.specs.Resolved.Tree.{Nodes}
use Rattle.flow_code.specs.Resolved.Evaluation.{value_at}
use Rattle.flow_code.specs.Resolved.Resolving.{resolved}
use Rattle.flow_class.specs.Classes.{ChooseLast, CallbackTree, RawTree}
use Rattle.flow_class.specs.Code.{Last, fetch, callback_at}
use Rattle.flow_code.specs.declared.class.Branch.{Branch}
use Rattle.flow_code.specs.declared.class.Effect.{Effect}
use Rattle.flow_code.specs.declared.class.Group.{Group}
use Rattle.flow_code.specs.declared.class.Last.TheVariants as last
use Rattle.flow_code.specs.declared.class.Operand.{Operand}
use Rattle.flow_code.specs.declared.class.Operand.TheVariants as operand
use Rattle.flow_code.specs.declared.program.Code.{Code}
use Rattle.flow_code.specs.Classes.{BranchCode}
use Rattle.flow_code.specs.View.{operand_of, branch_of, group_numbered}
use Rattle.flow_code.specs.Coding.{Coding, operand_code, effect_in, coded_branch}
use Rattle.flow_code.specs.Coded.{coding}
use Rattle.flow_trace.specs.declared.line.Line.{Line}
use Rattle.flow_meaning.specs.Requests.{Supply}
use Rattle.flow_meaning.specs.Cells.{Ref}
use Rattle.flow_meaning.specs.Evaluating as effects
use Rattle.flow_meaning.specs.Evaluating.{value}
use Rattle.flow_meaning.specs.Process.{Run, Entry, Proc}
use Rattle.flow_meaning.specs.References.{Scan}
use Rattle.flow_meaning.specs.Work.{pushed}
use Rattle.flow_meaning.specs.Step.{view, on_core}
use Rattle.flow_meaning.specs.Class.{class_names}
use Rattle.flow_meaning.specs.Frame.{Frame, look}
use Rattle.flow_heap_refinement.specs.Representing.{wait_spot, held_from}
use Rattle.flow_heap_refinement.specs.FrameChanges.{next_callback}
use Rattle.flow_steps.specs.declared.frames.ControlPoint.{ControlPoint}
use Rattle.flow_steps.specs.declared.next.Pace.{Pace}
use Rattle.flow_steps.specs.declared.next.Pace.TheVariants.{Off}
use Rattle.flow_steps.specs.declared.process.Process.{Process}
use Rattle.flow_steps.specs.Evaluating.{sight_in, program_time, Evaluates}
use Rattle.flow_steps.specs.Points.{noted, noted_stand}
use Rattle.flow_steps.specs.Stepping.{value_for, OperandKept, OperandStep, kept_by, Chooses, asks_operand, all_kept, IsChoose}
use Rattle.flow_steps.specs.Waiting.{Waits, callbacks_in, callbacks_of}
use Rattle.flow_operation_refinement.specs.Taking.{AtWait}
use Rattle.flow_operation_refinement.specs.Coded.{CodedBy}
use Rattle.flow_operation_refinement.proofs.Seen.{expr_follows}
use Rattle.flow_operation_refinement.proofs.Stands.{both_mapped}
use Rattle.flow_step_refinement.specs.Continuing.{AtOperands, GoesBy}
use Rattle.flow_step_refinement.specs.Decoding.{IsGroup, effect_of_name}
use Rattle.flow_step_refinement.specs.Executing.{MayChoose, coded_by, InProgram, Asks, by_operand}
use Rattle.flow_step_refinement.proofs.Decodes.{both_there, group_there}
use Rattle.flow_step_refinement.proofs.Named.{effect_there}
use Rattle.flow_step_refinement.proofs.Choices.{operand_step, wait_step}

as_many_held : (n : ℕ) (rs : List Ref) → length (held_from n rs) ≡ length rs
as_many_held n [] = refl
as_many_held n (q ∷ rs) = ap suc (as_many_held (suc n) rs)

pub nothing_mapped : {A B : Type 0} (g : A → B) (o : Option A) → None ≡ option_map g o → o ≡ None
nothing_mapped g None e = refl
nothing_mapped g (Some a) e = absurd (cc (e))

module _ (r : RawTree) (ls : List Line) (m : Process) (p : Proc Frame) (i : ℕ) (e : Entry) (f : Frame) (x : Scan) (s : ControlPoint) (w : Supply) (code : Code)
    (inp : InProgram r code s f) (time : program_time m.time ≡ pos w.now) (none : m.asked ≡ None)
    (at : AtOperands r ls x (noted_stand s) (noted s m) p i e f) (g : ℕ) (fetched : fetch f.code f.block f.instr ≡ Last (ChooseLast g)) (last_is : s.block.now.last ≡ last.Choose g)
    (may : MayChoose r w p i e f g) (pace : Pace) (n : Process) where
  abbrev by : CodedBy r code.classes.items
  by = coded_by inp.program

  abbrev coding_now : Coding
  coding_now = coding by.names by.class (length f.code.slots)

  abbrev row : Pace → Process → Type 0
  row pace n = GoesBy r ls x w i e.class (on_core (pushed (Run i)) p) pace n

  abbrev told : Process
  told = noted s m

  abbrev kept : ℕ
  kept = kept_by (noted_stand s) told

  same_group : at.group ≡ g
  same_group = let a = at.wait.fetched in cc (a, fetched)

  many : kept ≡ length e.operands
  many =
      ap (λ (a : ActorId). length (callbacks_of a.0 told.heap)) at.standing.actor
      ∙ ap (λ o. length (callbacks_in o)) at.stood.acts.framed
      ∙ ap length at.stood.acts.stands.callbacks
      ∙ as_many_held (wait_spot f).first e.operands

  module _ (group : Group) (of_number : group_numbered g s.class.now.groups.items ≡ Some group) where
    is_group : IsGroup coding_now f g group
    is_group = group_there r code.classes.items s i f g group by inp.standing of_number

    first_is : group.first + kept ≡ next_callback e f
    first_is =
        let a = at.wait.first group (subst (λ y. group_numbered y s.class.now.groups.items ≡ Some group) (sym same_group) of_number) in
        let b = many in omega (arith, a, b)

    -- the branch and the callback of a number
    branches : option_map branch_of (slice_get group.branches.items kept) ≡ option_map (coded_branch coding_now) (slice_get is_group.callbacks kept)
    branches = both_mapped branch_of (coded_branch coding_now) group.branches.items is_group.callbacks kept is_group.coded

    callback_is : (o : Option CallbackTree) → slice_get is_group.callbacks kept ≡ o → callback_at f.code g (length e.operands) ≡ o
    callback_is o h = ap (option_and_then (λ cs. slice_get cs (length e.operands))) is_group.at ∙ ap (slice_get is_group.callbacks) (sym many) ∙ h

    -- its operand by value
    by_value : (b : CallbackTree) (res : Resolved) → slice_get is_group.callbacks kept ≡ Some b → effect_in coding_now b.operand ≡ None → node_of res ≡ resolved coding_now.names b.operand
        → Evaluates (noted_stand s) value_of (value_for code s.actor.0 res told) told (OperandKept (noted_stand s) (group.first + kept)) pace n → row pace n
    by_value b res there effect same evaluates =
        let v : value_for code s.actor.0 res told ≡ value (class_names r) (view w i p.core) (look f.mem) b.operand =
        ap (λ (a : ActorId). value_at (sight_in code a.0 told) (node_of res) told.left) at.standing.actor
        ∙ ap (λ k. value_at (sight_in code i told) k told.left) same
        ∙ expr_follows r ls x told p i e f code w b.operand at.stood inp.program time inp.few in
        let callback = callback_is (Some b) there in
        let pure : effects.effect_in (class_names r) b.operand ≡ None =
        nothing_mapped (λ y. (effect_of_name y.0, _)) (effects.effect_in (class_names r) b.operand) (sym effect ∙ effect_there r code.classes.items f b.operand by inp.program.coded.are_classes) in
        operand_step r ls told p i e f x (noted_stand s) w b (value_for code s.actor.0 res told) pace n at none
        (subst (λ y. callback_at f.code y (length e.operands) ≡ Some b) (sym same_group) callback) pure v
        (λ kd k left done. may.operand b callback pure kd k left (sym v ∙ done))
        (subst (λ y. Evaluates (noted_stand s) value_of (value_for code s.actor.0 res told) told (OperandKept (noted_stand s) y) pace n) first_is evaluates)

    by_code : (b : Branch) → slice_get group.branches.items kept ≡ Some b → (o : Operand) → b.operand ≡ o → (c : CallbackTree) → slice_get is_group.callbacks kept ≡ Some c
        → (y : Option (Effect × Nodes)) → effect_in coding_now c.operand ≡ y → operand_of o ≡ operand_code y (resolved coding_now.names c.operand)
        → OperandStep code (noted_stand s) (group.first + kept) o told pace n → row pace n ⊎ Asks code s m pace n
    by_code b there (operand.Value res) is c callback None effect same does =
        inl (by_value c res callback effect (let a : node_of res ≡ resolved coding_now.names c.operand = cc (same) in a) does)
    by_code b there (operand.Value res) is c callback (Some y) effect same does = absurd (cc (same))
    by_code b there (operand.Effect eff args) is c callback y effect same does = inr (by_operand g group b eff args (at.instruction ∙ sym at.wait.end) last_is of_number there is does)

    all_are_kept : (g : ℕ) → at.group ≡ g → MayChoose r w p i e f g → callback_at f.code g (length e.operands) ≡ None → group_numbered g s.class.now.groups.items ≡ Some group
        → Waits (noted_stand s) g told n → row Off n
    all_are_kept zero same may callback of waits = absurd (cc (of))
    all_are_kept (suc k) same may callback of waits =
        let a = may.kept callback in
        wait_step r ls told p i e f x (noted_stand s) w k n at.stood none (record {
          standing = at.standing;
          wait = subst (AtWait (noted_stand s) f) same at.wait;
          go = at.go;
          awake = at.awake;
          first = a.first;
          others = a.others;
          operands = a.operands;
          waitable = a.waitable;
          contents = a.contents;
        }) callback waits

    chosen : Chooses code (noted_stand s) g group told pace n → row pace n ⊎ Asks code s m pace n
    chosen (asks_operand b there does) =
        let c = both_there branch_of (coded_branch coding_now) b (slice_get is_group.callbacks kept) (sym (ap (option_map branch_of) there) ∙ branches) in
        by_code b there b.operand refl c.0 c.1.0 (effect_in coding_now c.0.operand) refl (ap (λ (y : BranchCode). y.operand) c.1.1) does
    chosen (all_kept ended off waits) =
        let no_callback = nothing_mapped (coded_branch coding_now) (slice_get is_group.callbacks kept) (sym (ap (option_map branch_of) ended) ∙ branches) in
        inl (subst (λ y. row y n) (sym off) (all_are_kept g same_group may (callback_is None no_callback) of_number waits))

  pub choice_follows : IsChoose code s g m pace n → row pace n ⊎ Asks code s m pace n
  choice_follows is = chosen is.group is.of_number is.chooses
