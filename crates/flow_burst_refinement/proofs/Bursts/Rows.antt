-- A burst in memory is a burst of the class machine.
use Rattle.std.proofs.Common.{◌≡◌, ℕ, Bool, true, false, List, [], ◌∷◌, ◌++◌, refl, sym, ap, subst, ◌∙◌}
use Rattle.std.specs.Prelude.{is_some, pos}
use Rattle.std.specs.declared.option.Option.{Option}
use Rattle.std.specs.declared.option.Option.TheVariants.{None, Some}
use Rattle.flow_class.specs.Classes.{RawTree}
use Rattle.flow_code.specs.declared.program.Code.{Code}
use Rattle.flow_trace.specs.declared.line.Line.{Line}
use Rattle.flow_cancel.specs.Heap.{has_number, next_cell}
use Rattle.flow_cancel.specs.declared.task.Task as stack
use Rattle.flow_numbered.specs.Numbered.{Numbered}
use Rattle.flow_meaning.specs.Requests.{Request}
use Rattle.flow_meaning.specs.Process.{Spent, Proc}
use Rattle.flow_meaning.specs.Orderly.{UnlessStopped}
use Rattle.flow_meaning.specs.Burst.{Host, live, serve, advanced}
use Rattle.flow_meaning.specs.Step.{step}
use Rattle.flow_meaning.specs.Class.{classes}
use Rattle.flow_meaning.specs.Frame.{Frame}
use Rattle.flow_meaning.proofs.InOrder.{no_thing}
use Rattle.flow_heap_refinement.specs.Counted.{nothing_in_hand}
use Rattle.flow_heap_refinement.proofs.Shown.{no_tasks_shown}
use Rattle.flow_progress.specs.Ending.{Reaches, here, onward}
use Rattle.flow_steps.specs.declared.call.Call.{Call}
use Rattle.flow_steps.specs.declared.call.Call.TheVariants as call
use Rattle.flow_steps.specs.declared.process.Next.{Next}
use Rattle.flow_steps.specs.declared.process.Next.TheVariants as next
use Rattle.flow_steps.specs.declared.process.Process.{Process}
use Rattle.flow_steps.specs.Doing.{unasked}
use Rattle.flow_steps.specs.Evaluating.{program_time}
use Rattle.flow_steps.specs.Tasks.{TopTaken, IsDone, Tasks, all_spent, no_task, task_asks, task_done}
use Rattle.flow_machine.specs.declared.host.Burst.{Burst}
use Rattle.flow_machine.specs.declared.host.Burst.TheVariants as burst
use Rattle.flow_machine.specs.Serving.{Served, ServedIf}
use Rattle.flow_machine.specs.Bursts.{Bursts, rests, runs_out, asks}
use Rattle.flow_operation_refinement.specs.Stepped.{OnlyTells}
use Rattle.flow_operation_refinement.specs.Matching.{told, ProcessRepresents, AreSpent, shows, ends}
use Rattle.flow_operation_refinement.specs.Matching as memory
use Rattle.flow_step_refinement.specs.Services as serving
use Rattle.flow_step_refinement.specs.Services.{WroteOrQuiet}
use Rattle.flow_step_refinement.proofs.Services.{line_written, port_unheard}
use Rattle.flow_burst_refinement.specs.Invariants.Invariant.{ProcessInvariant}
use Rattle.flow_burst_refinement.specs.Invariants.Staying.{Stays}
use Rattle.flow_burst_refinement.specs.Invariants.Allowed.{IsValidCode}
use Rattle.flow_burst_refinement.proofs.Invariants.Once.{sorted_stays}
use Rattle.flow_burst_refinement.proofs.Invariants.Stays.{task_stays}
use Rattle.flow_burst_refinement.specs.Bursts as law
use Rattle.flow_burst_refinement.specs.Bursts.{ports_left, HostKeepsTime, RepresentsInWorld, AsksWorld, TaskGoes, by_itself, by_the_world, TasksGo, Wrote, no_line, and_more, EndsAs, SimulatesBurst}
use Rattle.flow_burst_refinement.proofs.Bursts.Ports.{no_port}
use Rattle.flow_step_refinement.specs.Resuming.{NoStaleWaits, Branched}
use Rattle.flow_step_refinement.proofs.Resuming.Tasks.{task_keeps}
use Rattle.flow_burst_refinement.proofs.Bursts.Service.{Serves, served_serves}
use Rattle.flow_burst_refinement.proofs.Bursts.Standing.{served_poised}
use Rattle.flow_burst_refinement.proofs.Bursts.Reached.{reaches_then, then_burst, stopped_rests, no_task_rests, reaches_keep}

some_none : {A : Type 0} (o : Option A) → is_some o ≡ false → o ≡ None
some_none None e = refl
some_none (Some x) e = cc

none_some : {A : Type 0} (o : Option A) → is_some o ≡ true → o ≡ None → ⊥
none_some None e f = cc
none_some (Some x) e f = cc

not_both : {b : Bool} → b ≡ true → b ≡ false → ⊥
not_both a b = cc

no_more : (ls : List Line) → ls ++ [] ≡ ls
no_more [] = refl
no_more (l ∷ ls) = ap (λ k. l ∷ k) (no_more ls)

three : (xs ys zs : List Line) → (xs ++ ys) ++ zs ≡ xs ++ (ys ++ zs)
three [] ys zs = refl
three (x ∷ xs) ys zs = ap (λ k. x ∷ k) (three xs ys zs)

module _ {A W : Type 0} (serves : Host W) (shown_by : A → Numbered ℕ → W → Type 0) (wrote : A → List Line → A → Type 0) (code : Code) (processes : ℕ) (r : RawTree) (run : IsValidCode r code) where
  abbrev In : List Line → Process → A → Proc Frame → W → Type 0
  In ls m a p w = RepresentsInWorld serves shown_by wrote code processes r ls m a p w

  abbrev To : Proc Frame → W → Proc Frame → W → Type 0
  To p w q u = Reaches (classes r) serves (live p w) (live q u)

  -- what holds between tasks
  kept_then : (p q : Proc Frame) (w u : W) → ProcessInvariant r p → p.core.halted ≡ None → q.core.halted ≡ None → To p w q u → ProcessInvariant r q
  kept_then p q w u k here_goes goes reach =
      subst (λ x. UnlessStopped x (ProcessInvariant r q)) goes (reaches_keep serves r run.valid (live p w) (live q u) (subst (λ x. UnlessStopped x (ProcessInvariant r p)) (sym here_goes) k) reach)

  pub in_then : (ls : List Line) (m n : Process) (a : A) (p q : Proc Frame) (w : W) → In ls m a p w → Stays m n → NoStaleWaits n.heap → To p w q w → ProcessRepresents r ls nothing_in_hand n q
      → n.asked ≡ None → (n.spent ≡ false → q.core.ports ≡ ports_left n.asked p.core.ports) → In ls n a q w
  in_then ls m n a p q w now stays poised reach s none ports = record {
    between = record { shown = s; sorted = sorted_stays m n stays now.between.sorted; kept = kept_then p q w w now.between.kept now.between.shown.goes s.goes reach };
    asked = none;
    world = subst (λ ps. shown_by a ps w) (sym (ports s.unspent ∙ ap (λ o. ports_left o p.core.ports) none)) now.world;
    time = stays.time ∙ now.time;
    clock = subst (λ t. program_time t ≡ pos t) (sym stays.time) now.clock;
    among = now.among;
    poised = poised;
  }

  -- what tasks come to
  pub data TasksEnd (ls : List Line) (m : Process) (a : A) (p : Proc Frame) (w : W) : Next → Process → Type 0 where
    rested : (n : Process) (q : Proc Frame) → To p w q w → In ls n a q w → q.core.tasks ≡ [] → TasksEnd ls m a p w next.Rested n
    spent : (n : Process) (q : Proc Frame) → To p w q w → AreSpent ls n q → n.asked ≡ None → TasksEnd ls m a p w next.Spent n
    told_last : (n k : Process) (o q : Proc Frame) → To p w o w → In ls k a o w → Stays k n → NoStaleWaits n.heap → To o w q w → memory.Matches r ls nothing_in_hand n q
        → OnlyTells n.asked → (n.spent ≡ false → q.core.ports ≡ ports_left n.asked o.core.ports) → is_some n.asked ≡ true → TasksEnd ls m a p w next.Asks n
    asked_last : (n k : Process) (o q : Proc Frame) → To p w o w → In ls k a o w → Stays k n → NoStaleWaits n.heap → To o w q w → AsksWorld serves shown_by wrote code processes r ls n a q w
        → TasksEnd ls m a p w next.Asks n

  onward_end : (ls : List Line) (m k : Process) (a : A) (p q : Proc Frame) (w : W) (e : Next) (n : Process) → To p w q w → TasksEnd ls k a q w e n → TasksEnd ls m a p w e n
  onward_end ls m k a p q w _ n reach (rested _ o more now none) = rested n o (reaches_then serves r (live p w) (live q w) (live o w) reach more) now none
  onward_end ls m k a p q w _ n reach (spent _ o more are none) = spent n o (reaches_then serves r (live p w) (live q w) (live o w) reach more) are none
  onward_end ls m k a p q w _ n reach (told_last _ j o x more now stays poised last s is ports some) =
      told_last n j o x (reaches_then serves r (live p w) (live q w) (live o w) reach more) now stays poised last s is ports some
  onward_end ls m k a p q w _ n reach (asked_last _ j o x more now stays poised last world) =
      asked_last n j o x (reaches_then serves r (live p w) (live q w) (live o w) reach more) now stays poised last world

  -- a spent event goes on with nothing
  pub spent_tasks : (m n : Process) (e : Next) → m.spent ≡ true → Tasks code m e n → (e ≡ next.Spent) × (n ≡ m)
  spent_tasks m n e s (all_spent _ t) = (refl, refl)
  spent_tasks m n e s (no_task _ un none) = absurd (not_both s un)
  spent_tasks m n e s (task_asks _ start _ t un taken done some) = absurd (not_both s un)
  spent_tasks m n e s (task_done _ start between _ t _ un taken done none more) = absurd (not_both s un)

  -- What a step asked is served: then the process is in its world again, with the lines that were written; or the event is spent.
  pub data ServedThen (ls : List Line) (a : A) (p : Proc Frame) (w : W) (j : Process) (b : A) : Type 0 where
    lives_on : (more : List Line) (t : Proc Frame) (u : W) → To p w t u → WroteOrQuiet serves shown_by wrote r nothing_in_hand a more b → In (ls ++ more) j b t u → ServedThen ls a p w j b
    is_spent : (more : List Line) (t : Proc Frame) → To p w t w → WroteOrQuiet serves shown_by wrote r nothing_in_hand a more b → j.spent ≡ true → t.core.halted ≡ Some Spent
        → t.core.lines ≡ ls ++ more
        → ServedThen ls a p w j b

  module _ (branched : Branched code.classes.items) (steady : HostKeepsTime serves) (go : TasksGo serves shown_by wrote code processes r) where
    still_poised : (ls : List Line) (m start n : Process) (a : A) (p : Proc Frame) (w : W) (t : stack.Task) → In ls m a p w → TopTaken t m start → IsDone code t start n → NoStaleWaits n.heap
    still_poised ls m start n a p w t now taken done = task_keeps code t m start n branched now.between.sorted.frames now.poised taken done

    pub tasks_end : (ls : List Line) (m n : Process) (e : Next) (a : A) (p : Proc Frame) (w : W) → In ls m a p w → Tasks code m e n → TasksEnd ls m a p w e n
    tasks_end ls m n e a p w now (all_spent _ t) = absurd (not_both t now.between.shown.unspent)
    tasks_end ls m n e a p w now (no_task _ un none) = rested m p here now (no_tasks_shown r m.heap p now.between.shown.holds.shows none)
    tasks_end ls m n e a p w now (task_asks _ start _ t un taken done some) =
        by_goes (go ls m start n a p w t now taken done)
      where
        by_goes : TaskGoes serves shown_by wrote code processes r ls n a p w → TasksEnd ls m a p w next.Asks n
        by_goes (by_itself q reach s is ports) = told_last n m p q here now (task_stays code t m start n now.asked taken done) (still_poised ls m start n a p w t now taken done) reach s is ports some
        by_goes (by_the_world q reach world) = asked_last n m p q here now (task_stays code t m start n now.asked taken done) (still_poised ls m start n a p w t now taken done) reach world
    tasks_end ls m n e a p w now (task_done _ start between _ t _ un taken done quiet more) =
        by_goes (go ls m start between a p w t now taken done) (λ q here_now. tasks_end ls between n e a q w here_now more)
      where
        none : between.asked ≡ None
        none = some_none between.asked quiet

        by_goes : TaskGoes serves shown_by wrote code processes r ls between a p w → ((q : Proc Frame) → In ls between a q w → TasksEnd ls between a q w e n) → TasksEnd ls m a p w e n
        by_goes (by_itself q reach (shows s) is ports) further =
            onward_end ls m between a p q w e n reach
            (further q (in_then ls m between a p q w now (task_stays code t m start between now.asked taken done) (still_poised ls m start between a p w t now taken done) reach s none ports))
        by_goes (by_itself q reach (ends s) is ports) further =
            let last = spent_tasks between n e s.spent more in
            subst (λ z. TasksEnd ls m a p w z n) (sym last.0) (subst (TasksEnd ls m a p w next.Spent) (sym last.1) (spent between q reach s none))
        by_goes (by_the_world q reach world) further = absurd (no_thing (sym none ∙ world.asked))

    abbrev Goes : List Line → A → Proc Frame → W → Burst → Process → A → Type 0
    Goes ls a p w e n b = SimulatesBurst serves shown_by wrote code processes r ls a p w e n b

    -- steps before a burst, with their lines
    before : (ls more : List Line) (a b c : A) (p q : Proc Frame) (w u : W) (e : Burst) (n : Process) → To p w q u → WroteOrQuiet serves shown_by wrote r nothing_in_hand a more b
        → Goes (ls ++ more) b q u e n c → Goes ls a p w e n c
    before ls more a b c p q w u e n reach said f = record {
      after = f.after;
      out = f.out;
      lines = more ++ f.lines;
      bursts = then_burst serves r (live p w) (live q u) (live f.after f.out) reach f.bursts;
      written = and_more a b c more f.lines said f.written;
      ends = subst (λ k. EndsAs serves shown_by wrote code processes r k e n c f.after f.out) (three ls more f.lines) f.ends;
    }

    -- a burst of a spent event
    record SpentBurst (e : Burst) (m n : Process) (b c : A) : Type 0 where
      how : e ≡ burst.Spent
      same : n ≡ m
      host : c ≡ b

    spent_burst : (m n : Process) (b c : A) (e : Burst) → m.spent ≡ true → Bursts serves shown_by wrote code processes m b e n c → SpentBurst e m n b c
    spent_burst m n b c e s (rests _ _ _ tasks) = absurd (let a = (spent_tasks m n next.Rested s tasks).0 in cc)
    spent_burst m n b c e s (runs_out _ _ _ tasks) = record { how = refl; same = (spent_tasks m n next.Spent s tasks).1; host = refl }
    spent_burst m n b c e s (asks _ q k _ _ d _ _ tasks served more) = absurd (let a = (spent_tasks m q next.Asks s tasks).0 in cc)

    spent_goes : (ls : List Line) (a : A) (p : Proc Frame) (w : W) (n : Process) → n.spent ≡ true → p.core.halted ≡ Some Spent → p.core.lines ≡ ls → Goes ls a p w burst.Spent n a
    spent_goes ls a p w n s halted lines = record {
      after = p;
      out = w;
      lines = [];
      bursts = stopped_rests serves r p w Spent halted;
      written = no_line a;
      ends = (s, halted, lines ∙ sym (no_more ls));
    }

    -- what a step told is served
    module _ (ls : List Line) (k n j : Process) (a b : A) (o q : Proc Frame) (w : W) (now : In ls k a o w) (stays : Stays k n) (poised : NoStaleWaits n.heap) (reach : To o w q w) where
      told_in : (more : List Line) → serving.Lives serves shown_by wrote r nothing_in_hand more j b q w → Serves (unasked n) j → NoStaleWaits j.heap → In more j b q w
      told_in more lives s after = record {
        between = record {
          shown = lives.shown;
          sorted = let z = sorted_stays k n stays now.between.sorted in s.sorted (record { cells = z.cells; streams = z.streams; actors = z.actors; frames = z.frames; ports = z.ports });
          kept = kept_then o q w w now.between.kept now.between.shown.goes lives.shown.goes reach;
        };
        asked = lives.served;
        world = lives.world;
        time = s.time ∙ stays.time ∙ now.time;
        clock = subst (λ t. program_time t ≡ pos t) (sym (s.time ∙ stays.time)) now.clock;
        among = now.among;
        poised = after;
      }

      free : ProcessRepresents r ls nothing_in_hand n q → has_number (unasked n).heap.ports (next_cell (unasked n).heap) ≡ false
      free s = no_port r n.heap q s.holds.shows (kept_then o q w w now.between.kept now.between.shown.goes s.goes reach).tied.numbers

      -- where it told nothing more than a line, or that a port is heard no more
      told_then : (some : is_some n.asked ≡ true) (x : Option Call) → n.asked ≡ x → OnlyTells x → (n.spent ≡ false → q.core.ports ≡ ports_left x o.core.ports) → memory.Matches r ls nothing_in_hand n q
          → ServedIf serves shown_by wrote processes x (unasked n) a j b → ServedThen ls a o w j b
      told_then some None is fits ports f served = absurd (none_some n.asked some is)
      told_then some (Some (call.Line l)) is fits ports (shows s) served =
          let x = line_written serves shown_by wrote r nothing_in_hand ls n j a b q w processes l s is (subst (λ ps. shown_by a ps w) (sym (ports s.unspent)) now.world) served in
          lives_on (l ∷ []) q w reach (serving.told x.0)
          (told_in (ls ++ l ∷ []) x.1 (served_serves serves shown_by wrote (unasked n) j a b (free s) processes (call.Line l) served)
          (served_poised serves shown_by wrote (unasked n) j a b processes (call.Line l) served poised))
      told_then some (Some (call.Unlisten k)) is fits ports (shows s) served =
          let x = port_unheard serves shown_by wrote r nothing_in_hand ls n j a b q w processes k o.core.ports s is now.world (sym (ports s.unspent)) served in
          lives_on [] q w reach (serving.told x.0)
          (subst (λ ks. In ks j b q w) (sym (no_more ls))
          (told_in ls x.1 (served_serves serves shown_by wrote (unasked n) j a b (free s) processes (call.Unlisten k) served)
          (served_poised serves shown_by wrote (unasked n) j a b processes (call.Unlisten k) served poised)))
      told_then some (Some (call.Line l)) is fits ports (ends s) served =
          is_spent (l ∷ []) q reach (serving.told served.1.0) (ap (λ (z : Process). z.spent) served.0 ∙ s.spent) s.halted (s.lines ∙ ap (λ z. ls ++ told z) is)
      told_then some (Some (call.Unlisten k)) is fits ports (ends s) served =
          is_spent [] q reach (serving.told served.1.0) (ap (λ (z : Process). z.spent) served.0 ∙ s.spent) s.halted (s.lines ∙ ap (λ z. ls ++ told z) is)
      told_then some (Some (call.Draw i g lo hi)) is fits ports f served = absurd fits
      told_then some (Some (call.Delay i g t)) is fits ports f served = absurd fits
      told_then some (Some (call.Listen i g t)) is fits ports f served = absurd fits
      told_then some (Some (call.Disk i g d)) is fits ports f served = absurd fits
      told_then some (Some (call.SendTo i t port text)) is fits ports f served = absurd fits

      -- where it asked something else of the world
      asked_then : (world : AsksWorld serves shown_by wrote code processes r ls n a q w) → Served serves shown_by wrote processes world.called (unasked n) a j b → ServedThen ls a o w j b
      asked_then world served =
          let d = world.done j b served in
          let l = serve serves world.after.1 world.after.0 w in
          let one : To q w l.proc l.out = onward l (ap (advanced serves w) world.steps) here in
          let all : To o w l.proc l.out = reaches_then serves r (live o w) (live q w) l reach one in
          let s = served_serves serves shown_by wrote (unasked n) j a b (no_port r n.heap world.asking world.shown.holds.shows world.numbers) processes world.called served in
          let z = sorted_stays k n stays now.between.sorted in
          let kept = world_keeps world.after.1 in
          lives_on (serving.lines_for serves shown_by wrote r nothing_in_hand world.after.1 w) l.proc l.out all d.told (record {
            between = record {
              shown = d.lives.shown;
              sorted = s.sorted (record { cells = z.cells; streams = z.streams; actors = z.actors; frames = z.frames; ports = z.ports });
              kept = kept_then o l.proc w l.out now.between.kept now.between.shown.goes d.lives.shown.goes all;
            };
            asked = d.lives.served;
            world = d.lives.world;
            time = s.time ∙ stays.time ∙ now.time ∙ sym (kept world.after.0).0;
            clock = subst (λ t. program_time t ≡ pos t) (sym (s.time ∙ stays.time)) now.clock;
            among = now.among ∙ sym (kept world.after.0).1;
            poised = served_poised serves shown_by wrote (unasked n) j a b processes world.called served poised;
          })
        where
          world_keeps : (x : Option Request) (t : Proc Frame) → ((serves.supply (serve serves x t w).out).now ≡ (serves.supply w).now)
              × ((serves.supply (serve serves x t w).out).processes ≡ (serves.supply w).processes)
          world_keeps None t = (refl, refl)
          world_keeps (Some x) t = steady x w

    -- steps before
    reached_then : (ls : List Line) (j : Process) (a b : A) (p o : Proc Frame) (w : W) → To p w o w → ServedThen ls a o w j b → ServedThen ls a p w j b
    reached_then ls j a b p o w reach (lives_on more t u further said now) = lives_on more t u (reaches_then serves r (live p w) (live o w) (live t u) reach further) said now
    reached_then ls j a b p o w reach (is_spent more t further said spent_now halted lines) =
        is_spent more t (reaches_then serves r (live p w) (live o w) (live t w) reach further) said spent_now halted lines

    -- tasks up to one that asks something, which is served
    pub served_then : (ls : List Line) (m k j : Process) (a b : A) (p : Proc Frame) (w : W) → In ls m a p w → Tasks code m next.Asks k
        → ServedIf serves shown_by wrote processes k.asked (unasked k) a j b → ServedThen ls a p w j b
    served_then ls m k j a b p w now tasks served = by_end (tasks_end ls m k next.Asks a p w now tasks)
      where
        by_end : TasksEnd ls m a p w next.Asks k → ServedThen ls a p w j b
        by_end (told_last _ z o q reach last stays poised step f is ports some) =
            reached_then ls j a b p o w reach (told_then ls z k j a b o q w last stays poised step some k.asked refl is ports f served)
        by_end (asked_last _ z o q reach last stays poised step world) =
            reached_then ls j a b p o w reach (asked_then ls z k j a b o q w last stays poised step world
            (subst (λ x. ServedIf serves shown_by wrote processes x (unasked k) a j b) world.asked served))

    -- a burst after that
    goes_after : (ls : List Line) (j n : Process) (a b d : A) (p : Proc Frame) (w : W) (e : Burst) → ServedThen ls a p w j d → Bursts serves shown_by wrote code processes j d e n b
        → ((ks : List Line) (t : Proc Frame) (u : W) → In ks j d t u → Goes ks d t u e n b) → Goes ls a p w e n b
    goes_after ls j n a b d p w e (lives_on more t u reach said now) bursts further = before ls more a d b p t w u e n reach said (further (ls ++ more) t u now)
    goes_after ls j n a b d p w e (is_spent more t reach said s halted lines) bursts further =
        let x = spent_burst j n d b e s bursts in
        before ls more a d b p t w w e n reach said
        (subst (λ z. Goes (ls ++ more) d t w z n b) (sym x.how)
        (subst (λ z. Goes (ls ++ more) d t w burst.Spent z b) (sym x.same) (subst (Goes (ls ++ more) d t w burst.Spent j) (sym x.host) (spent_goes (ls ++ more) d t w j s halted lines))))

    pub burst_goes : (ls : List Line) (m n : Process) (a b : A) (p : Proc Frame) (w : W) (e : Burst) → In ls m a p w → Bursts serves shown_by wrote code processes m a e n b → Goes ls a p w e n b
    burst_goes ls m n a b p w _ now (rests _ _ _ tasks) = by_end (tasks_end ls m n next.Rested a p w now tasks)
      where
        by_end : TasksEnd ls m a p w next.Rested n → Goes ls a p w burst.Rested n a
        by_end (rested _ q reach last none) = record {
          after = q;
          out = w;
          lines = [];
          bursts = then_burst serves r (live p w) (live q w) (live q w) reach (no_task_rests serves r q w last.between.shown.goes none);
          written = no_line a;
          ends = subst (λ ks. EndsAs serves shown_by wrote code processes r ks burst.Rested n a q w) (sym (no_more ls)) (last, none);
        }
    burst_goes ls m n a b p w _ now (runs_out _ _ _ tasks) = by_end (tasks_end ls m n next.Spent a p w now tasks)
      where
        by_end : TasksEnd ls m a p w next.Spent n → Goes ls a p w burst.Spent n a
        by_end (spent _ q reach are none) = record {
          after = q;
          out = w;
          lines = [];
          bursts = then_burst serves r (live p w) (live q w) (live q w) reach (stopped_rests serves r q w Spent are.halted);
          written = no_line a;
          ends = (are.spent, are.halted, are.lines ∙ ap (λ z. ls ++ told z) none);
        }
    burst_goes ls m n a b p w e now (asks _ k j _ _ d _ _ tasks served more) =
        goes_after ls j n a b d p w e (served_then ls m k j a d p w now tasks served) more (λ ks q u here_now. burst_goes ks j n d b q u e here_now more)

pub burst_follows : {A W : Type 0} (serves : Host W) (shown_by : A → Numbered ℕ → W → Type 0) (wrote : A → List Line → A → Type 0) (code : Code) (processes : ℕ) (r : RawTree)
    → law.BurstFollows serves shown_by wrote code processes r
burst_follows serves shown_by wrote code processes r run branched steady go ls m n a b p w e now bursts =
    burst_goes serves shown_by wrote code processes r run branched steady go ls m n a b p w e now bursts
