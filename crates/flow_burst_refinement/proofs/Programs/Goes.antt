-- Each task of a process in memory that runs valid classes is a row of steps of the class machine.
use Rattle.std.proofs.Common.{◌≡◌, ◌≤◌, ◌⊎◌, inl, inr, ℕ, zero, suc, ◌+◌, ◌^◌, Bool, true, false, List, [], ◌∷◌, length, refl, sym, ap, subst, ◌∙◌, arith}
use Rattle.std.specs.Prelude.{pos, is_some, slice_get}
use Rattle.std.specs.List.{AllByRecursion}
use Rattle.std.specs.declared.option.Option.{Option}
use Rattle.std.specs.declared.option.Option.TheVariants.{None, Some}
use Rattle.flow_value.specs.declared.value.Value.{Value}
use Rattle.flow_class.specs.Classes.{CallbackTree, ClassTree, RawTree}
use Rattle.flow_code.specs.declared.program.Code.{Code}
use Rattle.flow_trace.specs.declared.line.Line.{Line}
use Rattle.flow_frame.specs.Frames.{FrameTree}
use Rattle.flow_cancel.specs.declared.task.Task as stack
use Rattle.flow_cancel.specs.declared.task.Task.TheVariants as task
use Rattle.flow_cancel.specs.Heap.{HeapTree, actor_id, has_number}
use Rattle.flow_numbered.specs.Numbered.{Numbered, thing}
use Rattle.flow_meaning.specs.Cells.{Ref}
use Rattle.flow_meaning.specs.Requests as asking
use Rattle.flow_meaning.specs.Requests.{Spot, Supply}
use Rattle.flow_meaning.specs.Process.{Task, Halt, Run, Give, Throw, Catch, Store, Keep, Close, Fire, Drop, Entry, Proc}
use Rattle.flow_meaning.specs.Dropping.{port_of}
use Rattle.flow_meaning.specs.Orderly.{UnlessStopped, tasks_of}
use Rattle.flow_meaning.specs.Burst.{Host, live, advanced}
use Rattle.flow_meaning.specs.Work.{pushed}
use Rattle.flow_meaning.specs.Step.{Stepped, silent, step_if, step, on_core}
use Rattle.flow_meaning.specs.Class.{classes}
use Rattle.flow_meaning.specs.Frame.{Frame, over}
use Rattle.flow_meaning.proofs.Shifts.{run_of, keep_of, same_of}
use Rattle.flow_heap_refinement.specs.Counted.{nothing_in_hand}
use Rattle.flow_heap_refinement.specs.Rested.{Sorted}
use Rattle.flow_heap_refinement.specs.Representing.{spot_of_actor}
use Rattle.flow_progress.specs.Ending.{Reaches, here, onward}
use Rattle.flow_progress.specs.Places.{HoldsTypes}
use Rattle.flow_progress.specs.Fitting.{typed_by, DoingFits, PostureFits}
use Rattle.flow_progress.proofs.StepFits.{actor_here}
use Rattle.flow_steps.specs.declared.call.Call.{Call}
use Rattle.flow_steps.specs.declared.frames.ControlPoint.{ControlPoint}
use Rattle.flow_steps.specs.declared.next.Pace.{Pace}
use Rattle.flow_steps.specs.declared.next.Pace.TheVariants.{On, Off}
use Rattle.flow_steps.specs.declared.process.Process.{Process}
use Rattle.flow_steps.specs.Holding.{on_heap}
use Rattle.flow_steps.specs.Evaluating.{program_time}
use Rattle.flow_steps.specs.Tasks.{TopTaken, IsDone, bound}
use Rattle.flow_operation_refinement.specs.Matching.{Sound, Matches, shows, ends}
use Rattle.flow_operation_refinement.specs.Placing.{Acts}
use Rattle.flow_operation_refinement.specs.Coded.{CodedBy}
use Rattle.flow_operation_refinement.specs.Stepped.{OnlyTells, TopOff}
use Rattle.flow_operation_refinement.proofs.Doing.{top_follows}
use Rattle.flow_invariants.specs.Unmarked.{HasCallback}
use Rattle.flow_burst_refinement.specs.Invariants.Invariant.{ProcessInvariant}
use Rattle.flow_burst_refinement.specs.Invariants.Staying.{ports_after, Stays}
use Rattle.flow_burst_refinement.specs.Invariants.Allowed.{BetweenTasks}
use Rattle.flow_burst_refinement.proofs.Invariants.Keeping.{step_keeps}
use Rattle.flow_burst_refinement.proofs.Invariants.Off.{sound_off, unfinished}
use Rattle.flow_burst_refinement.proofs.Invariants.Acting.{acts_at, standing_there}
use Rattle.flow_burst_refinement.proofs.Invariants.Quiet.{Calm, Quiet, After, after_then, quiet_still, quiet_then, on_heap_quiet, left_over, keeps_after, step_after}
use Rattle.flow_burst_refinement.proofs.Invariants.Stays.{task_stays, bound_stays, popped_quiet}
use Rattle.flow_burst_refinement.specs.Bursts.{ports_left, RepresentsInWorld, TaskGoes, by_itself, by_the_world}
use Rattle.flow_burst_refinement.proofs.Bursts.Rows.{burst_follows}
use Rattle.flow_step_refinement.specs.Continuing.{Silent, no_more, then_on, MayStep, moves, chooses, Leads, stays_there, goes_on, Began, by_value, by_operand}
use Rattle.flow_step_refinement.specs.Running.{Allows, AsksAtLast, RanOff}
use Rattle.flow_step_refinement.specs.Tasking as executes
use Rattle.flow_step_refinement.specs.Tasking.{is_step, goes_further, runs}
use Rattle.flow_step_refinement.proofs.Rows.{runs_follow, further_follows}
use Rattle.flow_step_refinement.proofs.Quiet.{step_quiet}
use Rattle.flow_step_refinement.proofs.Choices.{with_last}
use Rattle.flow_step_refinement.proofs.Resuming.Next.{at_next_step, at_kept_operand}
use Rattle.flow_step_refinement.proofs.Resuming.Branches.{branched}
use Rattle.flow_step_refinement.specs.Resuming.{Branched}
use Rattle.flow_step_refinement.specs.Effects.Asking as effects
use Rattle.flow_step_refinement.specs.Effects.Asking.{AsksAs, Answered, draws, delays, listens, disks, sends}
use Rattle.flow_burst_refinement.proofs.Requests.Answers.{ask_follows}
use Rattle.flow_burst_refinement.proofs.Requests.Remaining.{ports_remain, ports_stay}
use Rattle.flow_burst_refinement.proofs.Requests.Worlds.{world_asked}
use Rattle.flow_burst_refinement.proofs.Requests.Allowed.{ask_allowed}
use Rattle.flow_burst_refinement.specs.Enabled.Allowing.{Running}
use Rattle.flow_burst_refinement.specs.Enabled.Tasking.{IsProgram, StateIsNone, InNoWait}
use Rattle.flow_burst_refinement.proofs.Enabled.Steps.{step_allowed}
use Rattle.flow_burst_refinement.proofs.Enabled.Tasks.{any_goes}
use Rattle.flow_burst_refinement.specs.Programs.Goes as law

-- what an actor asks of the world is about no port that is heard
not_heard : (p : Proc Frame) (i : _) (c : Call) (a : asking.Act) → effects.Asks p i c a → (ps : List ℕ) → ports_after (Some c) ps ≡ ps
not_heard p i c a (draws g h lo hi same is act) ps = ap (λ x. ports_after (Some x) ps) is
not_heard p i c a (delays g h ticks same is act) ps = ap (λ x. ports_after (Some x) ps) is
not_heard p i c a (listens g h port same is act) ps = ap (λ x. ports_after (Some x) ps) is
not_heard p i c a (disks g h d same is act) ps = ap (λ x. ports_after (Some x) ps) is
not_heard p i c a (sends process port text is act) ps = ap (λ x. ports_after (Some x) ps) is

both_ways : {b : Bool} → b ≡ true → b ≡ false → ⊥
both_ways e f = cc

-- each group has a callback
callback_there : (gs : List (List CallbackTree)) (n : ℕ) (ks : List CallbackTree) → AllByRecursion HasCallback gs → slice_get gs n ≡ Some ks → HasCallback ks
callback_there [] n ks h e = cc
callback_there (g ∷ gs) zero ks h e = let s : g ≡ ks = cc in subst HasCallback s h.0
callback_there (g ∷ gs) (suc n) ks h e = callback_there gs n ks h.1 e

-- steps of an actor in memory keep its order, the time, and what is asked
leads_asked : (code : Code) (m n : Process) → Leads code m n → n.asked ≡ m.asked
leads_asked code m n (stays_there _) = refl
leads_asked code m n (goes_on s t _ between _ one rest) = leads_asked code between n rest ∙ (step_quiet code s m between t (On t) refl one).asked

leads_quiet : (code : Code) (m n : Process) → m.asked ≡ None → Leads code m n → Quiet m n
leads_quiet code m n none (stays_there _) = quiet_still m
leads_quiet code m n none (goes_on s t _ between _ one rest) =
    let a = step_after code s m between (On t) none one in quiet_then m between n a (leads_quiet code between n (a.asked ∙ none) rest)

pub calm_sorted : (m n : Process) → Calm m n → Sorted m.heap → Sorted n.heap
calm_sorted m n calm s =
    let r = calm.heap.rise (record { cells = s.cells; streams = s.streams; actors = s.actors; frames = s.frames }) in
    record {
      cells = r.cells;
      streams = r.streams;
      actors = r.actors;
      frames = r.frames;
      ports = subst (λ ps. (k : ℕ) → has_number (Rattle.flow_cancel.specs.Heap.without_number ps k) k ≡ false) (sym calm.heap.ports) s.ports;
    }

pub leads_sorted : (code : Code) (m n : Process) → Leads code m n → n.asked ≡ None → Sorted m.heap → Sorted n.heap
leads_sorted code m n leads none sorted = calm_sorted m n (leads_quiet code m n (sym (leads_asked code m n leads) ∙ none) leads).calm sorted

pub began_after : (m : Process) (pace : Pace) (between : Process) → m.asked ≡ None → Began m pace between → After pace m between
began_after m pace between none (by_value t vs i into v after) =
    let k = on_heap (bound i into v) m in after_then pace m k between (on_heap_quiet (bound i into v) m (bound_stays i into v m.heap)) (left_over t vs k between pace none after)
began_after m pace between none (by_operand s x start i taken keeps) =
    let a = popped_quiet (task.Run i) m start taken in after_then pace m start between a (keeps_after s x start between pace (a.asked ∙ none) keeps)

pub after_calm : (pace : Pace) (m n : Process) → After pace m n → Calm m n
after_calm (On t) m n a = a.calm
after_calm Off m n a = a.calm

pub after_asked : (pace : Pace) (m n : Process) → m.asked ≡ None → After pace m n → (n.asked ≡ None) ⊎ (pace ≡ Off)
after_asked (On t) m n none a = inl (a.asked ∙ none)
after_asked Off m n none a = inr refl

-- an actor that takes a step is there
entered_by : (r : RawTree) (ls : List Line) (x : _) (s : ControlPoint) (m : Process) (p : Proc Frame) (i : ℕ) (e : Entry) (f : Frame) → MayStep r ls x s m p i e f → thing p.core.entries i ≡ Some e
entered_by r ls x s m p i e f (moves st state) = st.stood.acts.entered
entered_by r ls x s m p i e f (chooses at) = at.stood.acts.entered

acting_by : (r : RawTree) (ls : List Line) (x : _) (s : ControlPoint) (m : Process) (p : Proc Frame) (i : ℕ) (e : Entry) (f : Frame) → MayStep r ls x s m p i e f → thing p.actors i ≡ Some f
acting_by r ls x s m p i e f (moves st state) = st.acting
acting_by r ls x s m p i e f (chooses at) = at.stood.acts.acting

-- a process that takes a step isn't stopped
unstopped : (r : RawTree) (w : Supply) (p : Proc Frame) (o : Option Halt) (x : Stepped Frame) → p.core.halted ≡ o → step (classes r) w p ≡ Some x → o ≡ None
unstopped r w p None x h e = refl
unstopped r w p (Some k) x h e = absurd (let a : None ≡ Some x = sym (ap (λ o. step_if (classes r) w o p) h) ∙ e in cc (a))

module _ (r : RawTree) (code : Code) (program : IsProgram r code) where
  kept_on : (w : Supply) (p q : Proc Frame) → ProcessInvariant r p → step (classes r) w p ≡ Some (silent q) → q.core.halted ≡ None → ProcessInvariant r q
  kept_on w p q k e goes =
      subst (λ x. UnlessStopped x (ProcessInvariant r q)) goes (step_keeps r w p (silent q) program.whole.valid k (unstopped r w p p.core.halted (silent q) refl e) e)

  few_of : (p : Proc Frame) (i : ℕ) (e : Entry) (f : Frame) → ProcessInvariant r p → thing p.core.entries i ≡ Some e → thing p.actors i ≡ Some f → length f.code.slots + length f.mem.locals ≤ 2 ^ 32
  few_of p i e f k at acting =
      let u = unfinished r p k i e at in
      let same : u.frame ≡ f = same_of (sym u.acting ∙ acting) in
      subst (λ g. length g.code.slots + length g.mem.locals ≤ 2 ^ 32) same (by_posture e.suspended u.fits.class u.frame u.fits.is u.fits.posture)
    where
      few_held : (c : ClassTree) (g : Frame) → slice_get r.classes e.class ≡ Some c → g.code ≡ c → HoldsTypes r.records (typed_by k.types) g.code g.mem
          → length g.code.slots + length g.mem.locals ≤ 2 ^ 32
      few_held c g is same holds =
          let z = program.few e.class g.code (is ∙ ap Some (sym same)) in subst (λ n. length g.code.slots + n ≤ 2 ^ 32) (sym holds.locals) z

      few_over : (g : Frame) → g ≡ over → length g.code.slots + length g.mem.locals ≤ 2 ^ 32
      few_over g is = subst (λ z. length z.code.slots + length z.mem.locals ≤ 2 ^ 32) (sym is) (let z : 0 ≤ 2 ^ 32 = omega arith in z)

      by_doing : (c : ClassTree) (g : Frame) (ts : List Task) → slice_get r.classes e.class ≡ Some c → DoingFits r k.types c e g ts → length g.code.slots + length g.mem.locals ≤ 2 ^ 32
      by_doing c g [] is h = absurd h
      by_doing c g (Run j ∷ ts) is h = few_held c g is h.0 h.1.holds
      by_doing c g (Store j v ∷ ts) is h = few_held c g is h.0 h.1.holds
      by_doing c g (Keep j spot q ∷ ts) is h = few_held c g is h.0 h.1.holds
      by_doing c g (Give j b o ∷ ts) is h = few_held c g is h.0 h.1.waiting.holds
      by_doing c g (Throw j err ∷ ts) is (same, inl h, ops) = few_held c g is same h.holds
      by_doing c g (Throw j err ∷ ts) is (same, inr h, ops) = few_held c g is same h.holds
      by_doing c g (Catch j err ∷ ts) is h = few_held c g is h.0 h.1.holds
      by_doing c g (Close j o ∷ ts) is h = few_over g h.1
      by_doing c g (Fire j ∷ ts) is h = absurd h
      by_doing c g (Drop kd j ∷ ts) is h = absurd h

      by_posture : (b : Bool) (c : ClassTree) (g : Frame) → slice_get r.classes e.class ≡ Some c → PostureFits r k.types b c e g (tasks_of i p.core.tasks)
          → length g.code.slots + length g.mem.locals ≤ 2 ^ 32
      by_posture true c g is h = few_held c g is h.0 h.1.holds
      by_posture false c g is h = by_doing c g (tasks_of i p.core.tasks) is h

  pub running : (p : Proc Frame) (i : ℕ) (e : Entry) (f : Frame) → ProcessInvariant r (on_core (pushed (Run i)) p) → thing p.core.entries i ≡ Some e → thing p.actors i ≡ Some f → Running r p i e f
  running p i e f k at acting = record { whole = program.whole; kept = k; entered = at; acting = acting }

  pub allows : (w : Supply) → Allows r w (ProcessInvariant r)
  allows w = record {
    kept = kept_on w;
    next = λ p i e f k at acting. step_allowed r w p i e f (running p i e f k at acting);
    few = few_of;
  }

  module _ (ls : List Line) (m : Process) (p : Proc Frame) (now : BetweenTasks r ls m p) where
    state_is : (h : HeapTree) (q : Proc Frame) (i : ℕ) (e : Entry) (f : Frame) → (a : Acts r h q i e f) → a.memory.state ≡ 0 → StateIsNone h i
    state_is h q i e f a zero_state g at = let same : a.memory ≡ g = same_of (sym a.framed ∙ at) in subst (λ (z : FrameTree Value). z.state ≡ 0) same zero_state

    -- an actor that is to take its next step, or to keep an operand, is in no state of a wait
    pub no_wait : Rattle.flow_step_refinement.specs.Resuming.NoStaleWaits m.heap → (t : stack.Task) (start : Process) → TopTaken t m start → InNoWait m.heap t
    no_wait poised t start taken = by_task t (top_follows r ls m p t start now.shown taken)
      where
        by_task : (t : stack.Task) → TopOff r ls t start p → InNoWait m.heap t
        by_task (task.Run j) o =
            let i = j.0 in
            let tops : p.core.tasks ≡ Run i ∷ o.below = o.tasks ∙ ap (λ u. u ∷ o.below) o.same in
            let a = actor_here r now.kept.types i (Run i) o.below p.core p.actors now.kept.orderly tops (run_of i) now.kept.fits in
            let acts = acts_at r m.heap p i a.entry a.frame now.shown.holds.shows a.at a.stands (standing_there r now.kept.types a.frame a.doing.1) in
            state_is m.heap p i a.entry a.frame acts (at_next_step r m.heap p p i a.entry a.frame o.below now.shown.holds.shows now.kept.orderly poised tops acts a.awake)
        by_task (task.Keep j n k) o =
            let i = j.0 in
            let spot = spot_of_actor p.actors i in
            let q : Ref = (o.same.0, k.0) in
            let tops : p.core.tasks ≡ Keep i spot q ∷ o.below = o.tasks ∙ ap (λ u. u ∷ o.below) o.same.2 in
            let a = actor_here r now.kept.types i (Keep i spot q) o.below p.core p.actors now.kept.orderly tops (keep_of i spot q) now.kept.fits in
            let acts = acts_at r m.heap p i a.entry a.frame now.shown.holds.shows a.at a.stands (standing_there r now.kept.types a.frame a.doing.1) in
            state_is m.heap p i a.entry a.frame acts (at_kept_operand r m.heap p p i spot q a.entry a.frame o.below now.shown.holds.shows now.kept.orderly poised tops acts a.awake)
        by_task (task.Give j b v) o = tt
        by_task (task.Store j v) o = tt
        by_task (task.Drop kd j) o = tt
        by_task (task.Fire j) o = tt
        by_task (task.Throw j e) o = tt
        by_task (task.Catch j e) o = tt
        by_task (task.Close j v) o = tt

  module _ {A W : Type 0} (serves : Host W) (shown_by : A → Numbered ℕ → W → Type 0) (wrote : A → List Line → A → Type 0) (processes : ℕ) where
    silent_reaches : (w : W) (p q : Proc Frame) → Silent r (serves.supply w) p q → Reaches (classes r) serves (live p w) (live q w)
    silent_reaches w p q (no_more _) = here
    silent_reaches w p q (then_on _ b _ one rest) = onward (live b w) (ap (advanced serves w) one) (silent_reaches w b q rest)

    module _ (ls : List Line) (m start n : Process) (a : A) (p : Proc Frame) (w : W) (t : stack.Task) (now : RepresentsInWorld serves shown_by wrote code processes r ls m a p w)
        (taken : TopTaken t m start) (done : IsDone code t start n) where
      stays : Stays m n
      stays = task_stays code t m start n now.asked taken done

      abbrev Goes : Type 0
      Goes = TaskGoes serves shown_by wrote code processes r ls n a p w

      ports : (q : Proc Frame) → Matches r ls nothing_in_hand n q → OnlyTells n.asked → Silent r (serves.supply w) p q → n.spent ≡ false → q.core.ports ≡ ports_left n.asked p.core.ports
      ports q (shows s) told row unspent =
          ports_remain r (serves.supply w) m.heap n.heap p q n.asked now.between.shown.holds.shows s.holds.shows now.between.kept.tied.numbers now.between.sorted.ports row told stays.ports
      ports q (ends s) told row unspent = absurd (both_ways s.spent unspent)

      off : Quiet m start
      off = popped_quiet t m start taken

      clock : program_time m.time ≡ pos (serves.supply w).now
      clock = now.clock ∙ ap pos now.time

      ran_off : RanOff r ls nothing_in_hand (serves.supply w) (ProcessInvariant r) code p n → Goes
      ran_off x = by_itself x.after (silent_reaches w p x.after x.steps) x.follows x.told (ports x.after x.follows x.told x.steps)

      asks_last : (i : ℕ) (from : Process) → Sorted from.heap → AsksAtLast r ls nothing_in_hand (serves.supply w) (ProcessInvariant r) code program.coded i p from n → Goes
      asks_last i from sorted x =
          by_answer
          (ask_follows r ls x.memory x.process i x.entry x.frame nothing_in_hand x.stand (serves.supply w) code Off n x.may x.standing
          (record { sound = sound; sorted = at_ask; asked = x.none }) x.time
          (ask_allowed r code (serves.supply w) x.process i x.entry x.frame (running x.process i x.entry x.frame x.held at acts) program.coded) x.asks)
        where
          full : Proc Frame
          full = on_core (pushed (Run i)) x.process

          at : thing x.process.core.entries i ≡ Some x.entry
          at = entered_by r ls nothing_in_hand x.stand x.memory x.process i x.entry x.frame x.may

          acts : thing x.process.actors i ≡ Some x.frame
          acts = acting_by r ls nothing_in_hand x.stand x.memory x.process i x.entry x.frame x.may

          sound : Sound x.process
          sound = sound_off r full x.held (Run i) x.process.core.tasks refl

          at_ask : Sorted x.memory.heap
          at_ask = leads_sorted code from x.memory x.leads x.none sorted

          by_answer : Answered r ls nothing_in_hand (serves.supply w) x.process i x.entry Off n → Goes
          by_answer (effects.by_itself s told) =
              let row = with_last r (serves.supply w) p full s.after x.steps s.steps in
              by_itself s.after (silent_reaches w p s.after row) s.carries told (ports s.after s.carries told row)
          by_answer (effects.by_the_world is ask) =
              by_the_world full (silent_reaches w p full x.steps)
              (world_asked serves shown_by wrote code processes r ls n a x.process i w ask sound.numbers (stays.time ∙ now.time) now.among (subst (λ ps. shown_by a ps w) (sym same) now.world))
            where
              as_before : n.heap.ports ≡ m.heap.ports
              as_before =
                  stays.ports ∙ ap (λ o. ports_after o m.heap.ports) ask.asked ∙ not_heard (effects.resumed i ask.frame ask.left x.process) (actor_id i) ask.called ask.act ask.same m.heap.ports

              many : (k : ℕ) → is_some (port_of k full.core.ports) ≡ is_some (port_of k p.core.ports)
              many k = sym (ask.shown.holds.shows.ports k) ∙ ap (λ ns. has_number ns k) as_before ∙ now.between.shown.holds.shows.ports k

              same : x.process.core.ports ≡ p.core.ports
              same = ports_stay r (serves.supply w) p full now.between.kept.tied.numbers x.steps many

      by_goes : executes.TaskGoes code r ls (serves.supply w) p start n → Goes
      by_goes (is_step s told) =
          let row = then_on p s.after s.after s.steps (no_more s.after) in
          by_itself s.after (silent_reaches w p s.after row) s.follows told (ports s.after s.follows told row)
      by_goes (goes_further i class g) =
          let none = off.asked ∙ now.asked in
          let after = began_after start g.pace g.between none g.began in
          let calm = after_calm g.pace start g.between after in
          by_end i g.between (calm_sorted start g.between calm (calm_sorted m start off.calm now.between.sorted))
          (further_follows r ls nothing_in_hand (serves.supply w) (ProcessInvariant r) code i class p start n program.coded (allows (serves.supply w)) now.between.kept g
          (after_asked g.pace start g.between none after)
          (ap program_time (calm.time ∙ off.calm.time) ∙ clock))
        where
          by_end : (i : ℕ) (from : Process) → Sorted from.heap → RanOff r ls nothing_in_hand (serves.supply w) (ProcessInvariant r) code p n
              ⊎ AsksAtLast r ls nothing_in_hand (serves.supply w) (ProcessInvariant r) code program.coded i p from n → Goes
          by_end i from sorted (inl x) = ran_off x
          by_end i from sorted (inr x) = asks_last i from sorted x
      by_goes (runs i q e f is begins) =
          by_end (subst (λ z. RanOff r ls nothing_in_hand (serves.supply w) (ProcessInvariant r) code z n
          ⊎ AsksAtLast r ls nothing_in_hand (serves.supply w) (ProcessInvariant r) code program.coded i z start n) (sym is)
          (runs_follow r ls nothing_in_hand (serves.supply w) (ProcessInvariant r) code start q i e f begins.stand n program.coded (allows (serves.supply w))
          (subst (ProcessInvariant r) is now.between.kept) begins.may begins.stands (off.asked ∙ now.asked)
          (ap program_time off.calm.time ∙ clock) begins.runs))
        where
          by_end : RanOff r ls nothing_in_hand (serves.supply w) (ProcessInvariant r) code p n ⊎ AsksAtLast r ls nothing_in_hand (serves.supply w) (ProcessInvariant r) code program.coded i p start n
              → Goes
          by_end (inl x) = ran_off x
          by_end (inr x) = asks_last i start (calm_sorted m start off.calm now.between.sorted) x

      task_goes : Goes
      task_goes =
          by_goes
          (any_goes r code program ls m p now.between (serves.supply w) t start n now.asked taken (no_wait ls m p now.between now.poised t start taken) done)

pub program_goes : {A W : Type 0} (serves : Host W) (shown_by : A → Numbered ℕ → W → Type 0) (wrote : A → List Line → A → Type 0) (code : Code) (processes : ℕ) (r : RawTree)
    → law.ProgramGoes serves shown_by wrote code processes r
program_goes serves shown_by wrote code processes r program ls m start n a p w t now taken done =
    task_goes r code program serves shown_by wrote processes ls m start n a p w t now taken done

-- each wait of a program has a branch
pub branches_of : (r : RawTree) (code : Code) → IsProgram r code → Branched code.classes.items
branches_of r code program =
    let coded : CodedBy r code.classes.items = record { names = program.coded.coded.names; class = program.coded.coded.class; are_coded = program.coded.coded.are_coded } in
    branched r code.classes.items coded
    (λ k c n g at there none. subst HasCallback none (callback_there c.groups n g (program.whole.groups k c at) there))

pub program_follows : {A W : Type 0} (serves : Host W) (shown_by : A → Numbered ℕ → W → Type 0) (wrote : A → List Line → A → Type 0) (code : Code) (processes : ℕ) (r : RawTree)
    → law.ProgramFollows serves shown_by wrote code processes r
program_follows serves shown_by wrote code processes r program steady ls m n a b p w e now bursts =
    burst_follows serves shown_by wrote code processes r (record { valid = program.whole.valid; coded = program.coded }) (branches_of r code program) steady
    (program_goes serves shown_by wrote code processes r program) ls m n a b p w e now bursts
