-- An effect of an actor in memory is a step of the class machine.
use Rattle.std.proofs.Common.{◌≡◌, ◌⊎◌, inl, inr, ℕ, ◌++◌, List, refl, sym, ap, ◌∙◌, subst}
use Rattle.std.specs.declared.option.Option.{Option}
use Rattle.std.specs.declared.option.Option.TheVariants.{None, Some}
use Rattle.flow_base.specs.declared.ids.ActorId.{ActorId}
use Rattle.flow_tree.specs.Tree.{ExprTrees}
use Rattle.flow_value.specs.declared.value.Kind.TheVariants as kind
use Rattle.flow_value.specs.Values.{ValueTree}
use Rattle.flow_eval.specs.Eval.{Res, Done}
use Rattle.flow_class.specs.Classes.{RawTree}
use Rattle.flow_code.specs.declared.class.Effect.{Effect}
use Rattle.flow_code.specs.declared.class.Effect.TheVariants as effect
use Rattle.flow_code.specs.declared.program.Code.{Code}
use Rattle.flow_trace.specs.declared.line.Line.{Line}
use Rattle.flow_trace.specs.declared.line.Line.TheVariants as line
use Rattle.flow_cancel.specs.Heap.{actor_id}
use Rattle.flow_numbered.specs.Numbered.{thing, put}
use Rattle.flow_meaning.specs.Requests as asks
use Rattle.flow_meaning.specs.Requests.{Supply}
use Rattle.flow_meaning.specs.Evaluating.{Effectful, World, Actor, StepOf, given, evaluated, effect_of, world_effect, values, asks as asking_for}
use Rattle.flow_meaning.specs.Effects.{gives_new, empty_cell}
use Rattle.flow_meaning.specs.Process.{Run, Entry, Proc}
use Rattle.flow_meaning.specs.References.{Scan}
use Rattle.flow_meaning.specs.Work.{pushed}
use Rattle.flow_meaning.specs.React.{react}
use Rattle.flow_meaning.specs.Orderly.{Rising}
use Rattle.flow_meaning.specs.Step.{view, silent, step, start, answer, reacted, on_core}
use Rattle.flow_meaning.specs.Class.{effects, fetched, choose, operand_by, next_step, class_names, classes}
use Rattle.flow_meaning.specs.Frame.{Frame, look, spot_of}
use Rattle.flow_meaning.specs.Views.{spot_at}
use Rattle.flow_heap_refinement.specs.Representing.{spot_by, wait_spot}
use Rattle.flow_heap_refinement.proofs.Acted.{same_put}
use Rattle.flow_steps.specs.declared.call.Call.{Call}
use Rattle.flow_steps.specs.declared.call.Call.TheVariants as call
use Rattle.flow_steps.specs.declared.call.DiskCall.{DiskCall}
use Rattle.flow_steps.specs.declared.call.DiskCall.TheVariants as disk
use Rattle.flow_steps.specs.declared.call.Goal.{Goal}
use Rattle.flow_steps.specs.declared.call.Goal.TheVariants as goal
use Rattle.flow_steps.specs.declared.frames.ControlPoint.{ControlPoint}
use Rattle.flow_steps.specs.declared.next.Pace.{Pace}
use Rattle.flow_steps.specs.declared.next.Pace.TheVariants.{Off}
use Rattle.flow_steps.specs.declared.process.Process.{Process}
use Rattle.flow_steps.specs.Doing.{asking, unasked}
use Rattle.flow_steps.specs.Points.{noted}
use Rattle.flow_steps.specs.Evaluating.{with_left, Evaluates}
use Rattle.flow_steps.specs.Acting.{Values, args_of, disk_of, EffectAsked, ActorCalled, not_called, actor_starts, EffectDone}
use Rattle.flow_machine.specs.Requests.{asked_of}
use Rattle.flow_operation_refinement.specs.Stepped.{OnlyTells}
use Rattle.flow_operation_refinement.specs.Matching.{ProcessRepresents, shows, told}
use Rattle.flow_operation_refinement.specs.Working.{SameGoal}
use Rattle.flow_operation_refinement.specs.Placing.{RepresentsActor}
use Rattle.flow_operation_refinement.specs.Evaluated.{GivesValue}
use Rattle.flow_operation_refinement.proofs.Making.{same_goal_by, cell_given}
use Rattle.flow_operation_refinement.proofs.Takings.{turned_asked}
use Rattle.flow_operation_refinement.proofs.Carrying.{asked}
use Rattle.flow_step_refinement.specs.Effects.Asking.{Asks, draws, delays, listens, disks, resumed, AsksAs, Answered, by_itself, by_the_world, MayAsk}
use Rattle.flow_step_refinement.specs.Effects.Effects as law
use Rattle.flow_step_refinement.specs.Effects.Effects.{SameEffect, MayMake}
use Rattle.flow_step_refinement.proofs.Effects.Answering.{nothing_told, line_told, resumed_stood, evaluation_at}
use Rattle.flow_step_refinement.proofs.Effects.Starts.{call_starts, may_resumed}

-- a request to a disk is seen the same
disk_same : (d : DiskCall) → disk_of d ≡ asked_of d
disk_same (disk.Read file offset count) = refl
disk_same (disk.Write file offset text) = refl
disk_same (disk.Sync file) = refl
disk_same (disk.Size file) = refl

module _ (r : RawTree) (ls : List Line) (m : Process) (p : Proc Frame) (i : ℕ) (e : Entry) (f : Frame) where
  -- what is asked of the world is asked no more
  pub unasked_shown : (x : Scan) (k : Process) (q : Proc Frame) → k.asked ≡ None → ProcessRepresents r ls x k q → ProcessRepresents r ls x (unasked k) q
  unasked_shown x k q none s = record {
    holds = s.holds;
    left = s.left;
    lines = s.lines ∙ ap (λ o. ls ++ told o) none;
    unspent = s.unspent;
    goes = s.goes;
  }

  -- the world is asked
  pub asks_the_world : (x : Scan) (s : ControlPoint) (w : Supply) (g : Frame) (left : ℕ) (c : Call) (a : asks.Act) (k n : Process)
      → RepresentsActor r ls x k (resumed i g left p) i e g → k.asked ≡ None → Asks (resumed i g left p) (actor_id i) c a → n ≡ asking c k
      → step (classes r) w (on_core (pushed (Run i)) p) ≡ Some (reacted (put p.actors i g) (react w i a (resumed i g left p).core))
      → AsksAs r ls x w p i n
  asks_the_world x s w g left c a k n st none same is steps = record {
    frame = g;
    left = left;
    called = c;
    act = a;
    asked = ap (λ (z : Process). z.asked) is;
    shown = subst (λ z. ProcessRepresents r ls x (unasked z) (resumed i g left p)) (sym is) (unasked_shown x k (resumed i g left p) none st.shown);
    same = same;
    steps = steps;
  }

  module _ (x : Scan) (s : ControlPoint) (w : Supply) (code : Code) (g : Goal) (h : asks.Goal) (st : MayAsk r ls x s m p i e f) (same : SameGoal p i g h) where
    -- the goal after evaluation
    goal_then : (left : ℕ) → SameGoal (resumed i f left p) i g h
    goal_then left = same_goal_by p (resumed i f left p) i g h (same_put p.actors i f st.stood.acts.acting) refl same

    -- the step of the process by what its actor asks
    stepped : (left : ℕ) (eff : asks.Effect) → next_step (class_names r) (view w i p.core) f ≡ asking_for left (asks.Effects h eff) f
        → step (classes r) w (on_core (pushed (Run i)) p) ≡ Some (answer (classes r) w i (asks.Effects h eff) (resumed i f left p))
    stepped left eff next = asked r ls m p i e f w (asking_for left (asks.Effects h eff) f) st.stood.shown.goes st.stood.acts.acting next

    -- an effect of the world
    by_effect : (left : ℕ) (o : Option asks.Effect) (n : Process)
        → next_step (class_names r) (view w i p.core) f ≡ given f o (λ eff. asking_for left (asks.Effects h eff) f)
        → Rising 0 p.core.made p.core.cells
        → EffectAsked (actor_id i) g o (noted s (with_left left m)) n → Answered r ls x w p i e Off n
    by_effect left None n next rising t = absurd t
    by_effect left (Some (asks.Make kd)) n next rising t = absurd t
    by_effect left (Some (asks.Start class args)) n next rising t = absurd t
    by_effect left (Some (asks.Draw lo hi)) n next rising t =
        by_the_world refl (asks_the_world x s w f left (call.Draw (actor_id i) g lo hi) (asks.Effects h (asks.Draw lo hi)) (noted s (with_left left m)) n
        (resumed_stood r ls m p i e f x s left st) st.asked
        (draws g h lo hi (goal_then left) refl refl) t (stepped left (asks.Draw lo hi) next))
    by_effect left (Some (asks.Delay ticks)) n next rising t =
        by_the_world refl (asks_the_world x s w f left (call.Delay (actor_id i) g ticks) (asks.Effects h (asks.Delay ticks)) (noted s (with_left left m)) n
        (resumed_stood r ls m p i e f x s left st) st.asked
        (delays g h ticks (goal_then left) refl refl) t (stepped left (asks.Delay ticks) next))
    by_effect left (Some (asks.Listen port)) n next rising t =
        by_the_world refl (asks_the_world x s w f left (call.Listen (actor_id i) g port) (asks.Effects h (asks.Listen port)) (noted s (with_left left m)) n
        (resumed_stood r ls m p i e f x s left st) st.asked
        (listens g h port (goal_then left) refl refl) t (stepped left (asks.Listen port) next))
    by_effect left (Some (asks.Disk request)) n next rising t =
        by_the_world refl (asks_the_world x s w f left (call.Disk (actor_id i) g t.asked) (asks.Effects h (asks.Disk request)) (noted s (with_left left m)) n
        (resumed_stood r ls m p i e f x s left st) st.asked
        (disks g h t.asked (goal_then left) refl (ap (λ d. asks.Effects h (asks.Disk d)) (sym t.same ∙ disk_same t.asked))) t.asks (stepped left (asks.Disk request) next))
    by_effect left (Some asks.Never) n next rising t = by_itself (record {
      after = on_core (gives_new i h kind.Future (empty_cell kind.Future)) (resumed i f left p);
      steps = stepped left asks.Never next;
      carries = shows (cell_given r ls x (noted s (with_left left m)) (resumed i f left p) g h (actor_id i) kind.Future t.cell n (resumed_stood r ls m p i e f x s left st).shown rising
          (goal_then left) t.number t.given);
    }) (nothing_told n.asked (ap (λ (k : Process). k.asked) t.given.given_by ∙ st.asked))

    -- an effect, with its arguments
    by_called : (called : Effectful) (eff : Effect) (args : Values) (comes_to : Res (List ValueTree)) (left : ℕ) (pace : Pace) (n : Process) → SameEffect eff called → MayMake r code p called comes_to
        → comes_to ≡ Done (args_of args) left
        → next_step (class_names r) (view w i p.core) f ≡ given f (effect_of called (args_of args)) (λ a. asking_for left (asks.Effects h a) f)
        → EffectDone code s g eff args (with_left left m) pace n → Answered r ls x w p i e pace n
    by_called (World q) (effect.World c) args comes_to left pace n is may done next goes =
        subst (λ z. Answered r ls x w p i e z n) (sym goes.0)
        (by_effect left (world_effect c (args_of args)) n (next ∙ ap (λ z. given f (world_effect z (args_of args)) (λ a. asking_for left (asks.Effects h a) f)) (sym is)) may.cells
        (subst (λ (a : ActorId). EffectAsked a g (world_effect c (args_of args)) (noted s (with_left left m)) n) st.actor goes.1))
    by_called (Actor k) (effect.Actor c) args comes_to left pace n is may done next goes =
        let there = resumed_stood r ls m p i e f x s left st in
        let started = may_resumed r p code k (args_of args) i f left (may.starts k refl (args_of args) left done) in
        subst (λ z. Answered r ls x w p i e z n) (sym goes.0) (by_itself (record {
          after = (start (classes r) i h k ((classes r).fresh k (args_of args)) (resumed i f left p)).0;
          steps = stepped left (asks.Start k (args_of args)) next ∙ silent_start ((classes r).fresh k (args_of args)) k left;
          carries = call_starts r ls x (noted s (with_left left m)) (resumed i f left p) code (actor_id i) g h k args.items e f n there.shown st.asked there.acts started (goal_then left)
              (subst (λ (a : ActorId). ActorCalled code a g k args.items (noted s (with_left left m)) n) st.actor
              (subst (λ z. ActorCalled code s.actor g z args.items (noted s (with_left left m)) n) is goes.1));
        }) (start_told (noted s (with_left left m)) s.actor c args n st.asked goes.1))
      where
        silent_start : (o : Option Frame) (k left : ℕ) → Some (start (classes r) i h k o (resumed i f left p)) ≡ Some (silent (start (classes r) i h k o (resumed i f left p)).0)
        silent_start None k left = refl
        silent_start (Some a) k left = refl

        start_told : (k : Process) (caller : ActorId) (class : ℕ) (args : Values) (n : Process) → k.asked ≡ None → ActorCalled code caller g class args.items k n → OnlyTells n.asked
        start_told k caller class args n none (not_called l q) = nothing_told n.asked (ap (λ (z : Process). z.asked) q ∙ turned_asked k ∙ none)
        start_told k caller class args n none (actor_starts l z) = line_told n.asked (line.Start z.actor z.starts.of.name) (ap (λ (z : Process). z.asked) z.starts.told)
    by_called (World q) (effect.Actor c) args comes_to left pace n is may done next goes = absurd is
    by_called (Actor k) (effect.World c) args comes_to left pace n is may done next goes = absurd is

    -- how it goes on with its arguments
    abbrev onward : Effectful → List ValueTree → ℕ → StepOf Frame
    onward called vs left = given f (effect_of called vs) (λ a. asking_for left (asks.Effects h a) f)

    pub effect_follows : (es : ExprTrees) (called : Effectful) (eff : Effect) (comes_to : Res (List ValueTree)) (pace : Pace) (n : Process)
        → MayMake r code p called comes_to → SameEffect eff called
        → next_step (class_names r) (view w i p.core) f ≡ effects (class_names r) (view w i p.core) f h (called, es)
        → comes_to ≡ values (class_names r) (view w i p.core) (look f.mem) es
        → Evaluates s args_of comes_to m (EffectDone code s g eff) pace n → Answered r ls x w p i e pace n
    effect_follows es called eff comes_to pace n may is next same_values evaluates =
        by_case (evaluation_at r ls m p i e f x s w args_of comes_to (onward called) (EffectDone code s g eff) pace n st next_is evaluates)
      where
        next_is : next_step (class_names r) (view w i p.core) f ≡ evaluated f comes_to (onward called)
        next_is = next ∙ ap (λ k. evaluated f k (onward called)) (sym same_values)

        by_case : GivesValue args_of comes_to m (EffectDone code s g eff) pace n ⊎ Answered r ls x w p i e pace n → Answered r ls x w p i e pace n
        by_case (inl v) = by_called called eff v.value comes_to v.left pace n is may v.done (next_is ∙ ap (λ k. evaluated f k (onward called)) v.done) v.goes
        by_case (inr a) = a

  pub effect_step : law.EffectStep r ls m p i e f
  effect_step x s w code path t es called eff comes_to pace n st may there is_effect is same_values evaluates =
      effect_follows x s w code goal.Stored asks.Stored st tt es called eff comes_to pace n may is
      (ap (fetched (class_names r) (view w i p.core) f) there ∙ ap (λ o. given f o (effects (class_names r) (view w i p.core) f asks.Stored)) is_effect)
      same_values evaluates

  pub effect_operand_step : law.EffectOperandStep r ls m p i e f
  effect_operand_step x s w code group k b es called eff comes_to pace n st may there callback is_effect is number same_values evaluates =
      effect_follows x s w code (goal.Kept k) (asks.Kept (spot_of f.code group)) st (spot_is, number) es called eff comes_to pace n may is
      (ap (fetched (class_names r) (view w i p.core) f) there
      ∙ ap (choose (class_names r) (view w i p.core) f (spot_of f.code group)) callback
      ∙ ap (operand_by (class_names r) (view w i p.core) f (spot_of f.code group) b.operand) is_effect)
      same_values evaluates
    where
      spot_is : spot_of f.code group ≡ spot_at wait_spot (thing p.actors i)
      spot_is = sym (ap (spot_at wait_spot) st.stood.acts.acting ∙ ap (spot_by f.code) there)
