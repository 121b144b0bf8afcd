-- A drawn number is never asked for as an operand of a wait.
use Rattle.std.proofs.Common.{◌≡◌, ◌⊎◌, inl, inr, ℕ, Bool, true, false, List, [], ◌∷◌, length, refl, sym, ap, ◌∙◌, subst, ◌+◌}
use Rattle.flow_machine.specs.Breaking.{IsOperand, ServingStuck}
use Rattle.flow_machine_progress.specs.Actors.{AtStep}
use Rattle.flow_machine_progress.proofs.Actors.Here.{Fit}
use Rattle.flow_machine_progress.proofs.Actors.Froms.{EndOf, end_from}
use Rattle.flow_step_refinement.proofs.Rows.{entered, acting, runs_follow, further_follows}
use Rattle.flow_step_refinement.specs.Continuing.{AtOperands, MayStep, moves, chooses}
use Rattle.flow_step_refinement.specs.Running.{AsksAtLast, RanOff}
use Rattle.flow_step_refinement.specs.Executing.{coded_by, InProgram, Asks, by_effect, by_act, by_start, by_method, by_operand}
use Rattle.flow_step_refinement.specs.Tasking.{TaskGoes, is_step, goes_further, runs}
use Rattle.flow_steps.specs.Evaluating.{program_time, sight_in, with_left, Evaluates, gives, throws, runs_out}
use Rattle.flow_steps.specs.Doing.{turned, doing, asking}
use Rattle.flow_steps.specs.Acting.{Values, args_of, EffectAsked, ActorCalled, not_called, actor_starts, VoidCalled, void_not_called, void_starts, IsEffect, PredefinedCalled, IsMessage, MethodCalled}
use Rattle.flow_steps.specs.Stepping.{IsAct, IsCall, IsMethodBy, IsMethod, IsMethodOf, MethodStep, kept_by, value_for, values_for}
use Rattle.flow_steps.specs.Points.{noted, noted_stand, next_stand}
use Rattle.flow_steps.specs.Tasks.{TopTaken, IsDone}
use Rattle.flow_steps.specs.declared.call.Goal.{Goal}
use Rattle.flow_meaning.specs.Requests.{Supply, Draw, Effects}
use Rattle.flow_meaning.specs.Evaluating.{change_by, Effectful, World, Actor, StepOf, given, evaluated, effect_of, world_effect, values, asks as asking_for}
use Rattle.flow_ast.specs.declared.predefined.Predefined.{Predefined}
use Rattle.flow_ast.specs.declared.predefined.Method.{Method}
use Rattle.flow_cancel.specs.Dropping.{cancel_owner}
use Rattle.flow_cancel.specs.Heap.{owner}
use Rattle.flow_tree.specs.Tree.{TypeTree, IntType}
use Rattle.flow_valid.specs.Validity.{operand_type}
use Rattle.flow_code.specs.Resolved.Evaluation.{values_at}
use Rattle.flow_eval.specs.Eval.{Res, Done}
use Rattle.std.specs.Prelude.{ℤ, pos, slice_get}
use Rattle.flow_burst_refinement.proofs.Invariants.Quiet.{Quiet}
use Rattle.flow_burst_refinement.proofs.Invariants.Stays.{popped_quiet}
use Rattle.flow_step_refinement.specs.Effects.Effects.{SameEffect}
use Rattle.flow_step_refinement.proofs.Effects.Methods.{sending_asked, cancelled_told}
use Rattle.flow_heap_refinement.specs.Rested.{Sorted}
use Rattle.flow_step_refinement.specs.Resuming.{NoStaleWaits}
use Rattle.flow_burst_refinement.proofs.Enabled.Tasks.{any_goes, still_sorted}
use Rattle.std.specs.Option.{option_map}
use Rattle.std.specs.declared.option.Option.{Option}
use Rattle.std.specs.declared.option.Option.TheVariants.{None, Some}
use Rattle.flow_base.specs.declared.ids.ActorId.{ActorId}
use Rattle.flow_base.specs.declared.ids.CellId.{CellId}
use Rattle.flow_value.specs.declared.value.Kind.{Kind}
use Rattle.flow_value.specs.declared.value.Value.{Value}
use Rattle.flow_value.specs.View.{value_of}
use Rattle.flow_class.specs.Classes.{RawTree, ChooseLast}
use Rattle.flow_class.specs.Code.{fetch, Last}
use Rattle.flow_code.specs.declared.class.Aim.{Aim}
use Rattle.flow_code.specs.declared.program.Code.{Code}
use Rattle.flow_trace.specs.declared.line.Line.{Line}
use Rattle.flow_code.specs.Resolved.View.{nodes_of}
use Rattle.flow_meaning.specs.Process.{Run, Entry, Proc}
use Rattle.flow_meaning.specs.References.{Scan}
use Rattle.flow_meaning.specs.Work.{pushed}
use Rattle.flow_meaning.specs.Step.{view, on_core}
use Rattle.flow_meaning.specs.Class.{class_names}
use Rattle.flow_meaning.specs.Frame.{Frame, look, spot_of}
use Rattle.flow_heap_refinement.specs.Counted.{nothing_in_hand}
use Rattle.flow_steps.specs.declared.frames.ControlPoint.{ControlPoint}
use Rattle.flow_steps.specs.declared.next.Pace.{Pace}
use Rattle.flow_steps.specs.declared.next.Pace.TheVariants.{Off}
use Rattle.flow_steps.specs.declared.process.Process.{Process}
use Rattle.flow_operation_refinement.specs.Stepped.{OnlyTells}
use Rattle.flow_operation_refinement.proofs.Takings.{turned_asked}
use Rattle.flow_code.specs.declared.class.Effect.{Effect}
use Rattle.flow_steps.specs.declared.call.Call.{Call}
use Rattle.std.specs.declared.vec.Vec.{Vec}
use Rattle.std.specs.declared.alloc.Global.{Global}
use Rattle.flow_code.specs.declared.expr.expr.Resolved.{Resolved}
use Rattle.flow_code.specs.declared.class.Branch.{Branch}
use Rattle.flow_code.specs.declared.class.Group.{Group}
use Rattle.flow_code.specs.Classes.{BranchCode}
use Rattle.flow_code.specs.View.{end_of, branch_of, operand_of, group_numbered}
use Rattle.flow_code.specs.Coding.{Coding, coded_branch, coded_operand}
use Rattle.flow_code.specs.Coded.{coding}
use Rattle.flow_step_refinement.proofs.Decodes.{both_there, the_end, the_wait}
use Rattle.flow_step_refinement.proofs.Choices.{choice_begins}
use Rattle.flow_step_refinement.proofs.Effects.Decoded.{operand_coded}
use Rattle.flow_operation_refinement.proofs.Arguments.{args_follow}
use Rattle.flow_burst_refinement.specs.Invariants.Allowed.{BetweenTasks}
use Rattle.flow_burst_refinement.specs.Invariants.Invariant.{ProcessInvariant}
use Rattle.flow_burst_refinement.specs.Enabled.Tasking.{IsProgram}
use Rattle.flow_machine_progress.proofs.Actors.Choices as choices
use Rattle.flow_burst_refinement.proofs.Programs.Goes as goes
use Rattle.flow_steps.specs.declared.call.Goal.TheVariants as goal
use Rattle.flow_meaning.specs.Requests as asks
use Rattle.flow_ast.specs.declared.predefined.Predefined.TheVariants as predefined
use Rattle.flow_value.specs.declared.value.Kind.TheVariants as kind
use Rattle.flow_cancel.specs.declared.task.Task.TheVariants as task
use Rattle.flow_code.specs.declared.class.Effect.TheVariants as effect
use Rattle.flow_trace.specs.declared.line.Line.TheVariants as line
use Rattle.flow_steps.specs.declared.call.Call.TheVariants as call
use Rattle.flow_code.specs.declared.class.Act.TheVariants as act
use Rattle.flow_code.specs.declared.class.Operand.TheVariants as operand
use Rattle.flow_code.specs.declared.class.Last.TheVariants as last
use Rattle.flow_cancel.specs.declared.task.Task as stack

-- What is asked where an operand would be drawn: an effect of the world comes to a draw, whose goal is an operand.
record Drawn (code : Code) (s : ControlPoint) (g : Goal) (e : Effect) (args : List Resolved) (m : Process) : Type 0 where
  called : Predefined
  is_world : e ≡ effect.World called
  arguments : Values
  left : ℕ
  done : values_at (sight_in code s.actor.0 m) (nodes_of args) m.left ≡ Done (args_of arguments) left
  lo : ℤ
  hi : ℤ
  draws : world_effect called (args_of arguments) ≡ Some (Draw lo hi)
  operand : IsOperand g

-- nothing of the kind is asked
nothing_drawn : (o : Option Call) → o ≡ None → ServingStuck o → ⊥
nothing_drawn None e stuck = stuck
nothing_drawn (Some c) e stuck = cc (e)

quiet_drawn : (n k : Process) → n ≡ k → k.asked ≡ None → ServingStuck n.asked → ⊥
quiet_drawn n k e none stuck = nothing_drawn n.asked (ap (λ (z : Process). z.asked) e ∙ none) stuck

asked_drawn : (n k : Process) (c : Call) → n ≡ asking c k → ServingStuck n.asked → ServingStuck (Some c)
asked_drawn n k c e stuck = subst (λ (z : Process). ServingStuck z.asked) e stuck

told_drawn : (o : Option Call) → OnlyTells o → ServingStuck o → ⊥
told_drawn None told stuck = stuck
told_drawn (Some (call.Line l)) told stuck = stuck
told_drawn (Some (call.Unlisten k)) told stuck = stuck
told_drawn (Some (call.Draw i g lo hi)) told stuck = told
told_drawn (Some (call.Delay i g t)) told stuck = stuck
told_drawn (Some (call.Listen i g t)) told stuck = stuck
told_drawn (Some (call.Disk i g d)) told stuck = stuck
told_drawn (Some (call.SendTo i t port text)) told stuck = stuck

-- an effect of the world
world_drawn : (i : ActorId) (g : Goal) (o : Option asks.Effect) (k n : Process) → k.asked ≡ None → EffectAsked i g o k n → ServingStuck n.asked
    → (lo : ℤ) × ((hi : ℤ) × ((o ≡ Some (Draw lo hi)) × IsOperand g))
world_drawn i g None k n none asked stuck = absurd asked
world_drawn i g (Some (asks.Make kd)) k n none asked stuck = absurd asked
world_drawn i g (Some (asks.Start class args)) k n none asked stuck = absurd asked
world_drawn i g (Some (asks.Draw lo hi)) k n none asked stuck = (lo, (hi, (refl, asked_drawn n k (call.Draw i g lo hi) asked stuck)))
world_drawn i g (Some (asks.Delay ticks)) k n none asked stuck = absurd (asked_drawn n k (call.Delay i g ticks) asked stuck)
world_drawn i g (Some (asks.Listen port)) k n none asked stuck = absurd (asked_drawn n k (call.Listen i g port) asked stuck)
world_drawn i g (Some asks.Never) k n none asked stuck = absurd (quiet_drawn n _ asked.given.given_by none stuck)
world_drawn i g (Some (asks.Disk request)) k n none asked stuck = absurd (asked_drawn n k (call.Disk i g asked.asked) asked.asks stuck)

actor_drawn : (code : Code) (caller : ActorId) (g : Goal) (class : ℕ) (args : List Value) (k n : Process) → k.asked ≡ None → ActorCalled code caller g class args k n → ServingStuck n.asked → ⊥
actor_drawn code caller g class args k n none (not_called l e) stuck = quiet_drawn n (turned k) e (turned_asked k ∙ none) stuck
actor_drawn code caller g class args k n none (actor_starts l h) stuck = asked_drawn n (doing (task.Run h.actor) h.given) (call.Line (line.Start h.actor h.starts.of.name)) h.starts.told stuck

void_drawn : (code : Code) (caller : ActorId) (class : ℕ) (args : List Value) (k n : Process) → k.asked ≡ None → VoidCalled code caller class args k n → ServingStuck n.asked → ⊥
void_drawn code caller class args k n none (void_not_called l e) stuck = quiet_drawn n (turned k) e (turned_asked k ∙ none) stuck
void_drawn code caller class args k n none (void_starts l h) stuck =
    asked_drawn n (doing (task.Run h.actor) (doing (task.Run caller) h.enrolled)) (call.Line (line.Start h.actor h.starts.of.name)) h.starts.told stuck

effect_drawn : (code : Code) (s : ControlPoint) (g : Goal) (e : Effect) (args : List Resolved) (m n : Process) (pace : Pace) → m.asked ≡ None → IsEffect code s g e args m pace n → ServingStuck n.asked
    → Drawn code s g e args m
effect_drawn code s g e args m n pace none (throws err left _ fails h) stuck = absurd (quiet_drawn n _ h none stuck)
effect_drawn code s g e args m n pace none (runs_out _ spent h) stuck = absurd (quiet_drawn n _ h none stuck)
effect_drawn code s g (effect.Actor class) args m n pace none (gives b left _ _ done h) stuck = absurd (actor_drawn code s.actor g class b.items (noted s (with_left left m)) n none h.1 stuck)
effect_drawn code s g (effect.World called) args m n pace none (gives b left _ _ done h) stuck =
    let z = world_drawn s.actor g (world_effect called (args_of b)) (noted s (with_left left m)) n none h.1 stuck in
    record { called = called; is_world = refl; arguments = b; left = left; done = done; lo = z.0; hi = z.1.0; draws = z.1.1.0; operand = z.1.1.1 }

-- a call statement
predefined_drawn : (i : ActorId) (called : Predefined) (args : Values) (k n : Process) → PredefinedCalled i called args k n → ServingStuck n.asked → ⊥
predefined_drawn i predefined.Trace args k n h stuck = asked_drawn n (doing (task.Run i) k) (call.Line h.line) h.told stuck
predefined_drawn i predefined.SendTo args k n h stuck = by_message h.message h.is_message (asked_drawn n k h.message h.asks stuck)
  where
    by_message : (c : Call) → IsMessage i (args_of args) c → ServingStuck (Some c) → ⊥
    by_message (call.SendTo j process port text) is stuck = stuck
    by_message (call.Line l) is stuck = is
    by_message (call.Unlisten k) is stuck = is
    by_message (call.Draw j g lo hi) is stuck = is
    by_message (call.Delay j g t) is stuck = is
    by_message (call.Listen j g t) is stuck = is
    by_message (call.Disk j g d) is stuck = is
predefined_drawn i called args k n h stuck = absurd h

-- a call statement on a reference
called_drawn : (i : ActorId) (m : Method) (kd : Kind) (k : CellId) (given : Option Value) (p n : Process) → p.asked ≡ None → MethodCalled i m kd k given p n → ServingStuck n.asked → ⊥
called_drawn i m kind.Promise k given p n none h stuck = quiet_drawn n _ h.sends (sending_asked i kind.Promise k.0 h.outcome p ∙ none) stuck
called_drawn i m kind.PromiseStream k given p n none h stuck = quiet_drawn n _ h.sends (sending_asked i kind.PromiseStream k.0 h.outcome p ∙ none) stuck
called_drawn i m kind.Future k given p n none h stuck =
    let q : Process = doing (task.Run i) p in
    let told = cancelled_told (cancel_owner q.heap.actors.things (owner k.0 q.heap.actors.things)) q none in
    told_drawn n.asked (subst (λ (z : Process). OnlyTells z.asked) (sym h.1) told) stuck
called_drawn i m kind.FutureStream k given p n none h stuck = absurd h

module _ (code : Code) (s : ControlPoint) (n : Process) where
  evaluated_drawn : {A B : Type 0} (seen : B → A) (comes_to : Res A) (m : Process) (goes : B → Process → Pace → Process → Type 0) (pace : Pace) → m.asked ≡ None
      → ((v : B) (k : Process) → k.asked ≡ None → goes v k pace n → ServingStuck n.asked → ⊥) → Evaluates s seen comes_to m goes pace n → ServingStuck n.asked → ⊥
  evaluated_drawn seen comes_to m goes pace none further (gives b left _ _ done h) stuck = further b (with_left left m) none h stuck
  evaluated_drawn seen comes_to m goes pace none further (throws err left _ fails h) stuck = quiet_drawn n _ h none stuck
  evaluated_drawn seen comes_to m goes pace none further (runs_out _ spent h) stuck = quiet_drawn n _ h none stuck

  -- a method that changes nothing is a call
  is_call : (aim : Aim) (called : Method) (given : Option Value) (k : Process) (pace : Pace) → change_by (Some called) ≡ None → IsMethod code s aim called given k pace n
      → IsCall code s aim called given k pace n
  is_call aim called given k pace no_change h = subst (λ o. IsMethodBy o code s aim called given k pace n) no_change h

  method_drawn : (aim : Aim) (called : Method) (args : List Resolved) (m : Process) (pace : Pace) → m.asked ≡ None → change_by (Some called) ≡ None
      → MethodStep code s aim called args m pace n → ServingStuck n.asked → ⊥
  method_drawn aim called [] m pace none no_change h stuck =
      let c = is_call aim called None m pace no_change h in called_drawn s.actor called c.kind c.cell None (noted (next_stand s) m) n none c.calls stuck
  method_drawn aim called (e ∷ []) m pace none no_change h stuck =
      evaluated_drawn value_of (value_for code s.actor.0 e m) m (IsMethodOf code s aim called) pace none
      (λ v k none h stuck.
      let c = is_call aim called (Some v) k pace no_change h in called_drawn s.actor called c.kind c.cell (Some v) (noted (next_stand s) k) n none c.calls stuck) h stuck
  method_drawn aim called (e ∷ d ∷ es) m pace none no_change h stuck = absurd h

  start_drawn : (class : ℕ) (args : List Resolved) (m : Process) (pace : Pace) → m.asked ≡ None
      → Evaluates s args_of (values_for code s.actor.0 args m) m (IsAct code s (act.Actor class)) pace n
      → ServingStuck n.asked → ⊥
  start_drawn class args m pace none h stuck =
      evaluated_drawn args_of (values_for code s.actor.0 args m) m (IsAct code s (act.Actor class)) pace none
      (λ v k none h stuck. void_drawn code s.actor class v.items (noted (next_stand s) k) n none h.1 stuck) h stuck

  act_drawn : (called : Predefined) (args : List Resolved) (m : Process) (pace : Pace) → m.asked ≡ None
      → Evaluates s args_of (values_for code s.actor.0 args m) m (IsAct code s (act.World called)) pace n
      → ServingStuck n.asked → ⊥
  act_drawn called args m pace none h stuck =
      evaluated_drawn args_of (values_for code s.actor.0 args m) m (IsAct code s (act.World called)) pace none
      (λ v k none h stuck. predefined_drawn s.actor called v (noted (next_stand s) k) n h.1 stuck) h stuck

-- no operand's type is that of a number
no_number : (next : Bool) (t : TypeTree) → IntType ≡ operand_type next t → ⊥
no_number true t e = cc (e)
no_number false t e = cc (e)

-- an operand by an effect, where its actor stands at its wait
module _ (r : RawTree) (code : Code) (w : Supply) (ls : List Line) (x : Scan) (s : ControlPoint) (m : Process) (p : Proc Frame) (i : ℕ) (e : Entry) (f : Frame)
    (st : AtStep r code w ls x s m p i e f) where
  abbrev inp : InProgram r code s f
  inp = st.standing

  abbrev by : Coding
  by = coding inp.program.coded.names inp.program.coded.class (length f.code.slots)

  abbrev told : Process
  told = noted s m

  abbrev own : ControlPoint
  own = noted_stand s

  abbrev Fits : StepOf Frame → Type 0
  Fits z = Fit r w p i e f st.running z

  module _ (number : ℕ) (fetched : fetch f.code f.block f.instr ≡ Last (ChooseLast number)) (ends_in : s.block.now.last ≡ last.Choose number) (at : AtOperands r ls x own told p i e f)
      (group : Group) (of_number : group_numbered number s.class.now.groups.items ≡ Some group) where
    abbrev kept : ℕ
    kept = kept_by s told

    drawn_there : (b : Branch) (eff : Effect) (args : Vec Resolved Global) → slice_get group.branches.items kept ≡ Some b → b.operand ≡ operand.Effect eff args
        → Drawn code own (goal.Kept (group.first + kept)) eff args.items told → ⊥
    drawn_there b eff args there is drawn =
        let may = choices.may_choose r code w ls x s m p i e f st number fetched in
        let of_group = choices.is_group r code w ls x s m p i e f st number fetched ends_in at may group of_number in
        let branches = choices.branches r code w ls x s m p i e f st number fetched ends_in at may group of_number in
        let c = both_there branch_of (coded_branch by) b (slice_get of_group.callbacks kept) (sym (ap (option_map branch_of) there) ∙ branches) in
        let callback = choices.callback_is r code w ls x s m p i e f st number fetched ends_in at may group of_number (Some c.0) c.1.0 in
        let coded : operand_of (operand.Effect eff args) ≡ coded_operand by c.0.operand = ap operand_of (sym is) ∙ ap (λ (y : BranchCode). y.operand) c.1.1 in
        let of = operand_coded r by c.0.operand eff (nodes_of args.items) inp.program.coded.are_classes coded in
        let fits = choices.fits_by r code w ls x s m p i e f st number fetched ends_in at may group of_number c.0 callback (Some (of.called, of.exprs)) of.is_effect in
        let same : values_at (sight_in code s.actor.0 told) (nodes_of args.items) told.left ≡ values (class_names r) (view w i p.core) (look f.mem) of.exprs =
        ap (λ (a : ActorId). values_at (sight_in code a.0 told) (nodes_of args.items) told.left) at.standing.actor
        ∙ ap (λ k. values_at (sight_in code i told) k told.left) of.resolved
        ∙ args_follow r ls x told p i e f code w at.stood inp.program st.clock inp.few of.exprs in
        by_called of.called (subst (λ z. SameEffect z of.called) drawn.is_world of.same)
        (subst (λ z. Fits (evaluated f z (λ vs left. given f (effect_of of.called vs) (λ a. asking_for left (Effects (asks.Kept (spot_of f.code number)) a) f)))) (sym same ∙ drawn.done) fits)
      where
        by_called : (called : Effectful) → SameEffect (effect.World drawn.called) called
            → Fits (given f (effect_of called (args_of drawn.arguments)) (λ a. asking_for drawn.left (Effects (asks.Kept (spot_of f.code number)) a) f)) → ⊥
        by_called (Actor k) same fits = same
        by_called (World q) same fits =
            let draws : world_effect q (args_of drawn.arguments) ≡ Some (Draw drawn.lo drawn.hi) = ap (λ z. world_effect z (args_of drawn.arguments)) (sym same) ∙ drawn.draws in
            let one = subst (λ z. Fits (given f z (λ a. asking_for drawn.left (Effects (asks.Kept (spot_of f.code number)) a) f))) draws fits in
            let wanted = one.0.1 in no_number wanted.1.callback.next wanted.1.takes (sym wanted.2 ∙ wanted.1.type)

  asks_drawn : (n : Process) → MayStep r ls x s m p i e f → Asks code s m Off n → ServingStuck n.asked → ⊥
  asks_drawn n may (by_effect aim eff args at does) stuck = (effect_drawn code s goal.Stored eff args.items m n Off st.unasked does stuck).operand
  asks_drawn n may (by_act called args at does) stuck = act_drawn code s n called args.items m Off st.unasked does stuck
  asks_drawn n may (by_start class args at does) stuck = start_drawn code s n class args.items m Off st.unasked does stuck
  asks_drawn n may (by_method aim called args at no_change does) stuck = method_drawn code s n aim called args.items m Off st.unasked no_change does stuck
  asks_drawn n (chooses at) (by_operand number group b eff args end ends_in of_number there is does) stuck =
      let same : at.group ≡ number = let k = at.wait.last in cc (k, ends_in) in
      let fetched : fetch f.code f.block f.instr ≡ Last (ChooseLast number) = at.wait.fetched ∙ ap (λ k. Last (ChooseLast k)) same in
      drawn_there number fetched ends_in (choices.at_told r code w ls x s m p i e f st at) group of_number b eff args there is
      (effect_drawn code own (goal.Kept (group.first + kept_by own told)) eff args.items told n Off st.unasked does stuck)
  asks_drawn n (moves stale zero_state) (by_operand number group b eff args end ends_in of_number there is does) stuck =
      let here = the_end r code.classes.items s i f (coded_by inp.program) inp.standing stale.standing stale.instruction end in
      let text : here.text ≡ ChooseLast number = subst (EndOf by here.text) (sym here.coded ∙ ap end_of ends_in) (end_from by here.text) in
      let fetched = here.fetched ∙ ap Last text in
      let wait = the_wait r code.classes.items s i f (coded_by inp.program) inp.standing number stale.standing fetched in
      let go = (choices.may_choose r code w ls x s m p i e f st number fetched).go in
      drawn_there number fetched ends_in (choice_begins r ls m p i e f x s number stale wait go zero_state) group of_number b eff args there is
      (effect_drawn code own (goal.Kept (group.first + kept_by own told)) eff args.items told n Off st.unasked does stuck)

module _ (r : RawTree) (code : Code) (program : IsProgram r code) (ls : List Line) (m : Process) (p : Proc Frame) (now : BetweenTasks r ls m p) (poised : NoStaleWaits m.heap) (none : m.asked ≡ None)
    (clock : program_time m.time ≡ pos m.time) (t : stack.Task) (start n : Process) (taken : TopTaken t m start) (done : IsDone code t start n) where
  abbrev supply : Supply
  supply = record { now = m.time; processes = 0; word = 0 }

  off : Quiet m start
  off = popped_quiet t m start taken

  -- the actor has come to a step that asks something
  asks_at_last : (i : ℕ) (start_at : Proc Frame) (from : Process) → Sorted from.heap → AsksAtLast r ls nothing_in_hand supply (ProcessInvariant r) code program.coded i start_at from n
      → ServingStuck n.asked → ⊥
  asks_at_last i start_at from sorted x stuck =
      asks_drawn r code supply ls nothing_in_hand x.stand x.memory x.process i x.entry x.frame
      (record {
        may = x.may;
        standing = x.standing;
        running = goes.running r code program x.process i x.entry x.frame x.held (entered r ls nothing_in_hand x.stand x.memory x.process i x.entry x.frame x.may)
            (acting r ls nothing_in_hand x.stand x.memory x.process i x.entry x.frame x.may);
        unasked = x.none;
        clock = x.time;
        sorted = goes.leads_sorted code from x.memory x.leads x.none sorted;
      }) n x.may x.asks stuck

  by_end : (i : ℕ) (start_at : Proc Frame) (from : Process) → Sorted from.heap
      → RanOff r ls nothing_in_hand supply (ProcessInvariant r) code start_at n ⊎ AsksAtLast r ls nothing_in_hand supply (ProcessInvariant r) code program.coded i start_at from n
      → ServingStuck n.asked → ⊥
  by_end i start_at from sorted (inl x) stuck = told_drawn n.asked x.told stuck
  by_end i start_at from sorted (inr x) stuck = asks_at_last i start_at from sorted x stuck

  sorted : Sorted start.heap
  sorted = still_sorted r code program ls m p now t start taken

  by_goes : TaskGoes code r ls supply p start n → ServingStuck n.asked → ⊥
  by_goes (is_step s told) stuck = told_drawn n.asked told stuck
  by_goes (goes_further i class g) stuck =
      let none_off = off.asked ∙ none in
      let after = goes.began_after start g.pace g.between none_off g.began in
      let calm = goes.after_calm g.pace start g.between after in
      by_end i p g.between (goes.calm_sorted start g.between calm sorted)
      (further_follows r ls nothing_in_hand supply (ProcessInvariant r) code i class p start n program.coded (goes.allows r code program supply) now.kept g
      (goes.after_asked g.pace start g.between none_off after)
      (ap program_time (calm.time ∙ off.calm.time) ∙ clock)) stuck
  by_goes (runs i q e f is begins) stuck =
      by_end i (on_core (pushed (Run i)) q) start sorted
      (runs_follow r ls nothing_in_hand supply (ProcessInvariant r) code start q i e f begins.stand n program.coded (goes.allows r code program supply)
      (subst (ProcessInvariant r) is now.kept) begins.may begins.stands (off.asked ∙ none)
      (ap program_time off.calm.time ∙ clock) begins.runs) stuck

  pub draw_stored : ServingStuck n.asked → ⊥
  draw_stored stuck =
      by_goes (any_goes r code program ls m p now supply t start n none taken (goes.no_wait r code program ls m p now poised t start taken) done) stuck
