-- An actor's own step leaves each cell with a reference.
use Rattle.std.proofs.Common.{◌≡◌, ℕ, suc, ◌+◌, ◌≤◌, true, List, [], ◌∷◌, sym, subst, arith}
use Rattle.std.specs.declared.option.Option.{Option}
use Rattle.std.specs.declared.option.Option.TheVariants.{None, Some}
use Rattle.flow_tree.specs.Tree.{FutureType}
use Rattle.flow_value.specs.Values.{ValueTree, GoodOutcome}
use Rattle.flow_class.specs.Classes.{RawTree}
use Rattle.flow_numbered.specs.Numbered.{Numbered, thing, put}
use Rattle.flow_meaning.specs.Cells.{Side}
use Rattle.flow_meaning.specs.Requests.{Act, Goes, Pass, Drops, Effects, Operand, Waits, Sends, Cancels, Prints, SendsTo, Returns, Throws, RunsOut, Stuck, Effect, Make, Start, Draw, Delay, Never, Listen, Disk, Goal, Ask, Supply, Starts, Stored}
use Rattle.flow_meaning.specs.Process.{Task, Run, Throw, Keep, Close, Entry, Core}
use Rattle.flow_meaning.specs.References.{count, refs_in}
use Rattle.flow_meaning.specs.Orderly.{Orderly, tasks_of}
use Rattle.flow_meaning.specs.Lines.{print_line}
use Rattle.flow_meaning.specs.Work.{pushed}
use Rattle.flow_meaning.specs.Step as steps
use Rattle.flow_meaning.specs.Step.{proc, view, start, answer_effect, answer, run_next, run, start_alone}
use Rattle.flow_meaning.specs.Frame.{Frame}
use Rattle.flow_meaning.specs.Class.{next_step, classes, class_names}
use Rattle.flow_meaning.proofs.Posture.{Unless, unless, after_turn}
use Rattle.flow_meaning.proofs.Shifts.{run_of}
use Rattle.flow_meaning.proofs.TaskShifts.{beyond_none}
use Rattle.flow_heap_refinement.specs.CellsTied.{CellsTied}
use Rattle.flow_heap_refinement.specs.Leaving.{RightKinds}
use Rattle.flow_progress.specs.Fitting.{CellTypes, ActorAt, PostureFits, ProcessFits, OwnsResult}
use Rattle.flow_progress.proofs.CellStates.{cell_there}
use Rattle.flow_progress.proofs.StepFits.{Actor, actor_here}
use Rattle.flow_invariants.proofs.Referenced.Frames.{holds, all, handed, handed_by, next_gives}
use Rattle.flow_invariants.proofs.Referenced.Onward.{IsThere, no_refs, Wants, Onward, Refers, refers_on, pop_onward, frame_onward}
use Rattle.flow_invariants.proofs.Referenced.Tasks.{right_kinds}
use Rattle.flow_invariants.proofs.Referenced.Acts as acts
use Rattle.flow_invariants.proofs.Referenced.Waits as waits

module _ (k : ℕ) (r : RawTree) (types : CellTypes) (c : Core) (xs : Numbered Frame) (p : ProcessFits r types c xs) where
  -- what an actor wants is there, so nobody wants what isn't yet
  wants_there : Wants k c → IsThere (thing c.cells k)
  wants_there w = by_frame (thing xs w.0) (subst (λ z. ActorAt r types z (thing xs w.0) (tasks_of w.0 c.tasks)) w.2 (p.actors w.0))
    where
      by_frame : (x : Option Frame) → ActorAt r types (Some w.1) x (tasks_of w.0 c.tasks) → IsThere (thing c.cells k)
      by_frame None f = absurd f
      by_frame (Some f) a =
          let own = subst (λ z. OwnsResult r types z a.class.returns) w.4 a.owns in
          let cell = cell_there r types k (FutureType a.class.returns) (thing c.cells k) own.1 (p.cells k) in subst IsThere (sym cell.1) tt

  pub fresh_cell : suc c.made ≡ k → Wants k c → ⊥
  fresh_cell e w = subst IsThere (subst (λ n. thing c.cells n ≡ None) e (beyond_none c.cells 0 c.made (suc c.made) p.numbered (omega arith))) (wants_there w)

  -- whoever is suspended has operands of the kinds of their cells
  pub kinds_of : (i : ℕ) (e : Entry) → thing c.entries i ≡ Some e → e.suspended ≡ true → RightKinds c.cells e.operands
  kinds_of i e at s = by_frame (thing xs i) (subst (λ z. ActorAt r types z (thing xs i) (tasks_of i c.tasks)) at (p.actors i))
    where
      by_frame : (x : Option Frame) → ActorAt r types (Some e) x (tasks_of i c.tasks) → RightKinds c.cells e.operands
      by_frame None f = absurd f
      by_frame (Some f) a = right_kinds r types c p.cells f 0 e.operands (subst (λ b. PostureFits r types b a.class e f (tasks_of i c.tasks)) s a.posture).2

module _ (k : ℕ) (r : RawTree) (s : Supply) (types : CellTypes) (c : Core) (xs : Numbered Frame) (o : Orderly c) (p : ProcessFits r types c xs) (t : CellsTied c) (ts : List Task) (h : Refers k c xs)
    (i : ℕ) (top : c.tasks ≡ Run i ∷ ts) where
  abbrev After : steps.Stepped Frame → Type 0
  After z = Unless (λ d. Refers k d z.0.actors) z.0.core

  module _ (a : Actor r types i (Run i) ts c xs) (n : ℕ) (g : Frame) where
    abbrev now : Core
    now = record c { tasks = ts; left = n }

    abbrev ys : Numbered Frame
    ys = put xs i g

    abbrev Given : List ValueTree → Type 0
    Given vs = (z : Side) → holds z k a.frame.mem ≤ holds z k g.mem + count z k (refs_in vs)

    gone_on : (vs : List ValueTree) → Given vs → Onward k no_refs (λ z. count z k (refs_in vs)) c xs now ys
    gone_on vs f = (
      λ z. z,
      λ z.
          let m = (pop_onward k (Run i) ts c xs top).1 z in
          let give = f in
          let l = (frame_onward k no_refs (λ z. count z k (refs_in vs)) i a.frame g (record c { tasks = ts }) xs a.stands (λ z. let w = give z in omega (arith, w))).1 z in omega (arith, m, l),
      λ w. w,
    )

    quiet_now : Given [] → Refers k now ys
    quiet_now f = let m = gone_on [] f in refers_on k c xs now ys (m.0, (λ z. let x = m.1 z in omega (arith, x)), m.2) h

    pushes : (u : Task) → Given [] → Unless (λ d. Refers k d ys) (pushed u now)
    pushes u f = unless c.halted (acts.push_refers k ys i u now (quiet_now f))

    started : (goal : Goal) (class : ℕ) (x : Option Frame) → Given [] → After (start (classes r) i goal class x (proc now ys))
    started goal class None f = tt
    started goal class (Some b) f = acts.start_refers k ys i goal class ((classes r).label class) b now (quiet_now f) o.numbered

    started_alone : (class : ℕ) (x : Option Frame) → Given [] → After (start_alone (classes r) i class x (proc now ys))
    started_alone class None f = tt
    started_alone class (Some b) f = acts.void_refers k ys i Stored class ((classes r).label class) b now (quiet_now f) o.numbered

    effect_on : (goal : Goal) (eff : Effect) → Given [] → After (answer_effect (classes r) s i goal eff (proc now ys))
    effect_on goal (Make kd) f = acts.effect_refers k ys i s goal (Make kd) now (quiet_now f) (fresh_cell k r types c xs p)
    effect_on goal (Start class args) f = started goal class ((classes r).fresh class args) f
    effect_on goal (Draw lo hi) f = acts.effect_refers k ys i s goal (Draw lo hi) now (quiet_now f) (fresh_cell k r types c xs p)
    effect_on goal (Delay ticks) f = acts.effect_refers k ys i s goal (Delay ticks) now (quiet_now f) (fresh_cell k r types c xs p)
    effect_on goal Never f = acts.effect_refers k ys i s goal Never now (quiet_now f) (fresh_cell k r types c xs p)
    effect_on goal (Listen port) f = acts.effect_refers k ys i s goal (Listen port) now (quiet_now f) (fresh_cell k r types c xs p)
    effect_on goal (Disk call) f = acts.effect_refers k ys i s goal (Disk call) now (quiet_now f) (fresh_cell k r types c xs p)

    act_on : (act : Act) → ((z : Side) → holds z k a.frame.mem ≤ holds z k g.mem + all z k (handed z k act)) → After (answer (classes r) s i act (proc now ys))
    act_on Goes f = pushes (Run i) f
    act_on Pass f = after_turn (λ d. Refers k d ys) (λ d. pushed (Run i) d) now n (λ m. unless c.halted (acts.push_refers k ys i (Run i) (record now { left = m }) (quiet_now f)))
    act_on (Drops vs) f = waits.dropped_refers k ys i c xs now vs (gone_on vs f) h (Run i)
    act_on (Effects goal eff) f = effect_on goal eff f
    act_on (Starts class args) f = started_alone class ((classes r).fresh class args) f
    act_on (Operand spot q) f = unless c.halted (acts.push_refers k ys i (Keep i spot q) (pushed (Run i) now) (acts.push_refers k ys i (Run i) now (quiet_now f)))
    act_on (Waits spot vs) f =
        waits.wait_refers k ys i c xs now vs (gone_on vs f) h spot a.entry a.at a.awake (right_kinds r types c p.cells a.frame 0 a.entry.operands a.doing.2) t.agree p.numbered
    act_on (Sends j x) f = acts.send_refers k ys i j x now (quiet_now f)
    act_on (Cancels j) f = waits.cancel_refers k ys i (pushed (Run i) now) (acts.push_refers k ys i (Run i) now (quiet_now f)) t.agree p.numbered o.numbered (kinds_of k r types c xs p) j
    act_on (Prints v) f = acts.print_refers k ys i (print_line i v) now (quiet_now f)
    act_on (SendsTo q port text) f = acts.send_to_refers k ys i s q port text now (quiet_now f)
    act_on (Returns v vs) f = waits.dropped_refers k ys i c xs now vs (gone_on vs f) h (Close i (GoodOutcome v))
    act_on (Throws e) f = pushes (Throw i e) f
    act_on RunsOut f = tt
    act_on Stuck f = tt

  next_on : (a : Actor r types i (Run i) ts c xs) (q : Option Ask × Frame) → ((z : Side) → holds z k a.frame.mem ≤ holds z k q.1.mem + all z k (handed_by z k q.0))
      → After (run_next (classes r) s i ts q (proc c xs))
  next_on a (None, g) f = unless c.halted (refers_on k c xs c (put xs i g) (frame_onward k no_refs no_refs i a.frame g c xs a.stands (λ z. let m = f z in omega (arith, m))) h)
  next_on a (Some ask, g) f = act_on a ask.left g ask.act f

  pub run_refers : After (run (classes r) s i ts (thing xs i) (proc c xs))
  run_refers =
      let a = actor_here r types i (Run i) ts c xs o top (run_of i) p in
      subst (λ x. After (run (classes r) s i ts x (proc c xs))) (sym a.stands) (next_on a (next_step (class_names r) (view s i c) a.frame) (λ z. next_gives z k (class_names r) (view s i c) a.frame))
