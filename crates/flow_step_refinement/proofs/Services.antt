-- What a step asks of the world, served.
use Rattle.std.proofs.Common.{◌≡◌, ℕ, suc, ◌+◌, ◌^◌, Bool, true, false, List, [], ◌∷◌, ◌++◌, refl, sym, ap, subst, ◌∙◌, arith, if◌then◌else◌}
use Rattle.std.specs.Prelude.{ℤ, ◌-ℤ◌, nat_le, is_some}
use Rattle.std.specs.declared.option.Option.{Option}
use Rattle.std.specs.declared.option.Option.TheVariants.{None, Some}
use Rattle.flow_base.specs.ErrorNumbers.{bad_argument, out_of_range, port_in_use}
use Rattle.flow_base.specs.declared.ids.ActorId.{ActorId}
use Rattle.flow_base.specs.declared.ids.CellId.{CellId}
use Rattle.flow_class.specs.Classes.{RawTree}
use Rattle.flow_eval.specs.Predefined.{natural}
use Rattle.flow_value.specs.Values.{ValueTree, IntValue, RefValue, refs_of}
use Rattle.flow_value.specs.View.{value_step, value_of}
use Rattle.flow_value.specs.declared.value.Kind.TheVariants as kind
use Rattle.flow_value.specs.declared.value.Value.TheVariants.{Int, rolls-Int}
use Rattle.flow_value.specs.declared.value.Value.TheFolds.{fold-roll-Value}
use Rattle.flow_value.specs.declared.value.Value.TheOpen as layer
use Rattle.flow_trace.specs.declared.line.Line.{Line}
use Rattle.flow_cancel.specs.declared.task.Task.TheVariants as task
use Rattle.flow_numbered.specs.Numbered.{Numbered, thing, added}
use Rattle.flow_meaning.specs.Requests as asks
use Rattle.flow_meaning.specs.Requests.{DiskCall, Request}
use Rattle.flow_meaning.specs.Process.{Task, Run, Throw, Core, Proc}
use Rattle.flow_meaning.specs.References.{Scan}
use Rattle.flow_meaning.specs.Cells.{Single, Stream}
use Rattle.flow_meaning.specs.Dropping.{port_of}
use Rattle.flow_meaning.specs.Work.{pushed, new_cell}
use Rattle.flow_meaning.specs.Burst.{Host}
use Rattle.flow_meaning.specs.Effects.{between, scaled, throws, gives, gives_open, open_port, is_port, judged, ask_disk, result_task, push_result}
use Rattle.flow_heap_refinement.specs.Rested.{InNumbers}
use Rattle.flow_heap_refinement.specs.Holds.{AllThere}
use Rattle.flow_meaning.specs.Step.{on_core, reacted, proc}
use Rattle.flow_meaning.specs.Frame.{Frame}
use Rattle.flow_steps.specs.declared.call.Goal.{Goal}
use Rattle.flow_steps.specs.declared.process.Process.{Process}
use Rattle.flow_steps.specs.Doing.{doing}
use Rattle.flow_steps.specs.Holding.{Gives}
use Rattle.flow_steps.specs.Delivering.{OpenGiven}
use Rattle.flow_machine.specs.Requests.{asked_of}
use Rattle.flow_machine.specs.Hosting.{Serves}
use Rattle.flow_machine.specs.Serving.{Thrown, StreamGiven, DrawServed, DelayServed, DiskServed, PortOpened, ListenServed, SendServed, may_send}
use Rattle.flow_operation_refinement.specs.Matching.{ProcessRepresents, with_task, told}
use Rattle.flow_operation_refinement.specs.Working.{SameGoal}
use Rattle.flow_operation_refinement.proofs.Working.{task_done, as_many_shown, holds_aside, no_more}
use Rattle.flow_operation_refinement.proofs.Giving.{result_given}
use Rattle.flow_operation_refinement.proofs.Making.{request_given, stream_given}
use Rattle.flow_step_refinement.specs.Services as law
use Rattle.flow_step_refinement.specs.Services.{Lives, WroteOrQuiet, quiet, told as wrote_so, Done, lines_for}

-- a number is seen as itself
int_seen : (n : ℤ) → value_of (Int n) ≡ IntValue n
int_seen n = ap value_of (sym (rolls-Int n)) ∙ fold-roll-Value ValueTree value_step (layer.Int n)

-- giving a result leaves the ports
push_ports : (i : ℕ) (o : Option Task) (c : Core) → (push_result i o c).ports ≡ c.ports
push_ports i None c = refl
push_ports i (Some t) c = refl

module _ {A W : Type 0} (serves : Host W) (shows : A → Numbered ℕ → W → Type 0) (wrote : A → List Line → A → Type 0) (r : RawTree) (x : Scan) where
  -- lines come after those that stand
  lines_after : (ls more : List Line) (m : Process) (p : Proc Frame) → m.asked ≡ None → ProcessRepresents r ls x m p
      → ProcessRepresents r (ls ++ more) x m (on_core (λ c. record c { lines = c.lines ++ more }) p)
  lines_after ls more m p none s = record {
    holds = holds_aside r x m.heap p (p.core.lines ++ more) p.core.left s.holds;
    left = s.left;
    lines = ap (λ k. k ++ more) (s.lines ∙ ap (λ o. ls ++ told o) none ∙ no_more ls) ∙ sym (ap (λ o. (ls ++ more) ++ told o) none ∙ no_more (ls ++ more));
    unspent = s.unspent;
    goes = s.goes;
  }

  module _ (ls : List Line) (m n : Process) (a b : A) (p : Proc Frame) (w : W) where
    -- an error is thrown
    pub is_thrown :
        (i : ActorId) (error : ℕ) → Lives serves shows wrote r x ls m a p w → Thrown serves shows wrote i error m a n b
        → Done serves shows wrote r x ls n a b (reacted p.actors (throws i.0 error p.core)) w
    is_thrown i error l t = record {
      told = subst (λ z. WroteOrQuiet serves shows wrote r x a [] z) (sym t.quiet) quiet;
      lives = record {
        shown = subst (λ k. ProcessRepresents r (ls ++ []) x k (on_core (pushed (Throw i.0 error)) p)) (sym t.thrown)
            (subst (λ k. ProcessRepresents r k x (doing (task.Throw i (record { 0 = error })) m) (on_core (pushed (Throw i.0 error)) p)) (sym (no_more ls))
            (task_done r ls x m p (task.Throw i (record { 0 = error })) (Throw i.0 error)
            (as_many_shown r ls x (with_task (Throw i.0 error) x) m p (λ s j. omega arith) l.shown) refl));
        served = ap (λ k. k.asked) t.thrown ∙ l.served;
        world = subst (λ z. shows z p.core.ports w) (sym t.quiet) l.world;
      };
    }

    -- a number is given
    int_given : (g : Goal) (h : asks.Goal) (i : ActorId) (k : ℤ) → ProcessRepresents r ls x m p → SameGoal p i.0 g h → Gives g i (Int k) m n
        → ProcessRepresents r ls x n (on_core (gives i.0 h (IntValue k)) p)
    int_given g h i k s same given =
        subst (λ v. ProcessRepresents r ls x n (on_core (gives i.0 h v) p)) (int_seen k)
        (result_given r ls x m p g h i (Int k) n s (subst (λ v. AllThere p (refs_of v)) (sym (int_seen k)) tt) same given)

    -- a number is drawn
    pub number_drawn : law.NumberDrawn serves shows wrote r x ls m n a b p w
    number_drawn count i g h lo hi l same served = by_range (between (hi -ℤ lo) 1 (2 ^ 32)) served
      where
        by_range : (fits : Bool) → DrawServed serves shows wrote fits i g lo (natural (hi -ℤ lo)) m a n b
            → Done serves shows wrote r x ls n a b (reacted p.actors
            (if fits then (gives i.0 h (IntValue (scaled lo (natural (hi -ℤ lo)) (serves.supply w).word)) p.core, Some (asks.Drew (natural (hi -ℤ lo)))) else throws i.0 bad_argument p.core)) w
        by_range false t = is_thrown i bad_argument l t
        by_range true d =
            let v = scaled lo (natural (hi -ℤ lo)) (serves.supply w).word in
            let number : d.number ≡ v = d.drawn.1 p.core.ports w l.world in
            let q = on_core (gives i.0 h (IntValue v)) p in
            let s = d.drawn.0 p.core.ports w l.world in
            let shown : ProcessRepresents r ls x n q =
            subst (λ z. ProcessRepresents r ls x n (on_core (gives i.0 h (IntValue z)) p)) number (int_given g h i d.number l.shown same d.given) in
            let none : n.asked ≡ None = ap (λ k. k.asked) d.given.given_by ∙ l.served in
            record {
              told = wrote_so s.0;
              lives = record {
                shown = lines_after ls (serves.serve (asks.Drew (natural (hi -ℤ lo))) w).0 n q none shown;
                served = none;
                world = subst (λ ps. shows b ps (serves.serve (asks.Drew (natural (hi -ℤ lo))) w).1) (sym (push_ports i.0 (result_task i.0 h (IntValue v)) p.core)) s.1;
              };
            }

    -- a request for a new cell
    request_done :
        (ask : ℕ → Request) (g : Goal) (h : asks.Goal) (i : ActorId) (k : CellId) → Lives serves shows wrote r x ls m a p w → InNumbers p.core
        → SameGoal p i.0 g h → OpenGiven g i k m n → Serves serves shows wrote (ask k.0) a b
        → Done serves shows wrote r x ls n a b (reacted p.actors (gives_open i.0 h p.core, Some (ask (suc p.core.made)))) w
    request_done ask g h i k l numbers same og sv =
        let given = request_given r ls x m p g h i k n l.shown numbers same og in
        let s = subst (λ j. wrote a (serves.serve (ask j) w).0 b × shows b p.core.ports (serves.serve (ask j) w).1) given.0 (sv p.core.ports w l.world) in
        let none : n.asked ≡ None = ap (λ k. k.asked) og.requested_then ∙ ap (λ k. k.asked) og.given.given_by ∙ l.served in
        let c : Core = new_cell (Single None []) (record p.core { requests = p.core.requests ++ suc p.core.made ∷ [] }) in
        record {
          told = wrote_so s.0;
          lives = record {
            shown = lines_after ls (serves.serve (ask (suc p.core.made)) w).0 n (on_core (gives_open i.0 h) p) none given.1;
            served = none;
            world = subst (λ ps. shows b ps (serves.serve (ask (suc p.core.made)) w).1) (sym (push_ports i.0 (result_task i.0 h (RefValue kind.Future (suc p.core.made))) c)) s.1;
          };
        }

    -- a timer
    pub timer_set : law.TimerSet serves shows wrote r x ls m n a b p w
    timer_set count i g h ticks l numbers same now served =
        by_time (nat_le ((serves.supply w).now + natural ticks) (2 ^ 62)) (subst (λ t. DelayServed serves shows wrote (nat_le (t + natural ticks) (2 ^ 62)) i g (t + natural ticks) m a n b) now served)
      where
        by_time : (fits : Bool) → DelayServed serves shows wrote fits i g ((serves.supply w).now + natural ticks) m a n b
            → Done serves shows wrote r x ls n a b (reacted p.actors
            (if fits then (gives_open i.0 h p.core, Some (asks.Timer (suc p.core.made) ((serves.supply w).now + natural ticks))) else throws i.0 out_of_range p.core)) w
        by_time false t = is_thrown i out_of_range l t
        by_time true d = request_done (λ k. asks.Timer k ((serves.supply w).now + natural ticks)) g h i d.cell l numbers same d.given d.served

    -- the disk
    pub disk_asked : law.DiskAsked serves shows wrote r x ls m n a b p w
    disk_asked count i g h request l numbers same served = by_call (judged (asked_of request)) served
      where
        by_call : (call : Option (DiskCall ℕ)) → DiskServed serves shows wrote call i g m a n b
            → Done serves shows wrote r x ls n a b (reacted p.actors (ask_disk i.0 h call p.core)) w
        by_call None t = is_thrown i bad_argument l t
        by_call (Some call) d = request_done (λ k. asks.Disks k call) g h i d.cell l numbers same d.given d.served

    -- a port
    stream_done :
        (g : Goal) (h : asks.Goal) (i : ActorId) (port : ℕ) → Lives serves shows wrote r x ls m a p w → InNumbers p.core → SameGoal p i.0 g h
        → port_of (suc p.core.made) p.core.ports ≡ None → thing p.core.ports port ≡ None → StreamGiven serves shows wrote i g port m a n b
        → Done serves shows wrote r x ls n a b (reacted p.actors (open_port i.0 h port None p.core)) w
    stream_done g h i port l numbers same new free d =
        let given = stream_given r ls x m p g h i d.cell port n l.shown numbers same free d.given in
        let none : n.asked ≡ None = ap (λ k. k.asked) d.given.heard_then ∙ ap (λ k. k.asked) d.given.given.given_by ∙ l.served in
        let s : shows b (added p.core.ports port (suc p.core.made)) w =
        subst (λ k. port_of k p.core.ports ≡ None → shows b (added p.core.ports port k) w) given.0 (d.listens.1 p.core.ports w l.world free) new in
        let c : Core = new_cell (Stream [] None None) (record p.core { ports = added p.core.ports port (suc p.core.made) }) in
        record {
          told = wrote_so d.listens.0;
          lives = record {
            shown = subst (λ k. ProcessRepresents r k x n (proc (open_port i.0 h port None p.core).0 p.actors)) (sym (no_more ls))
                (subst (λ o. ProcessRepresents r ls x n (proc (open_port i.0 h port o p.core).0 p.actors)) free given.1);
            served = none;
            world = subst (λ ps. shows b ps w) (sym (push_ports i.0 (result_task i.0 h (RefValue kind.FutureStream (suc p.core.made))) c)) s;
          };
        }

    pub port_heard : law.PortHeard serves shows wrote r x ls m n a b p w
    port_heard count i g h port l numbers same new served = by_range (is_port port) served
      where
        by_use : (o : Option ℕ) (in_use : Bool) → thing p.core.ports (natural port) ≡ o → in_use ≡ is_some o → PortOpened serves shows wrote in_use i g (natural port) m a n b
            → Done serves shows wrote r x ls n a b (reacted p.actors (open_port i.0 h (natural port) o p.core)) w
        by_use (Some k) true e u t = is_thrown i port_in_use l t
        by_use None false e u d = stream_done g h i (natural port) l numbers same new e d
        by_use (Some k) false e u d = absurd (cc)
        by_use None true e u t = absurd (cc)

        by_range : (fits : Bool) → ListenServed serves shows wrote fits i g (natural port) m a n b
            → Done serves shows wrote r x ls n a b (reacted p.actors (if fits then open_port i.0 h (natural port) (thing p.core.ports (natural port)) p.core else throws i.0 bad_argument p.core)) w
        by_range false t = is_thrown i bad_argument l t
        by_range true d = by_use (thing p.core.ports (natural port)) d.in_use refl (d.known p.core.ports w l.world) d.opened

    -- a text
    pub text_sent : law.TextSent serves shows wrote r x ls m n a b p w
    text_sent i number port text l served = by_range (may_send (serves.supply w).processes number port) served
      where
        by_range : (fits : Bool) → SendServed serves shows wrote fits i (natural number) (natural port) text m a n b
            → Done serves shows wrote r x ls n a b
            (reacted p.actors (if fits then (pushed (Run i.0) p.core, Some (asks.Packet (natural number) (natural port) text)) else throws i.0 bad_argument p.core)) w
        by_range false t = is_thrown i bad_argument l t
        by_range true d =
            let s = d.served p.core.ports w l.world in
            let none : n.asked ≡ None = ap (λ k. k.asked) d.goes ∙ l.served in
            let ran : ProcessRepresents r ls x n (on_core (pushed (Run i.0)) p) =
            subst (λ k. ProcessRepresents r ls x k (on_core (pushed (Run i.0)) p)) (sym d.goes)
            (task_done r ls x m p (task.Run i) (Run i.0) (as_many_shown r ls x (with_task (Run i.0) x) m p (λ z j. omega arith) l.shown) refl) in
            record {
              told = wrote_so s.0;
              lives = record {
                shown = lines_after ls (serves.serve (asks.Packet (natural number) (natural port) text) w).0 n (on_core (pushed (Run i.0)) p) none ran;
                served = none;
                world = s.1;
              };
            }

    -- what was asked is taken
    asked_taken : (more : List Line) → ProcessRepresents r ls x m p → told m.asked ≡ more → ProcessRepresents r (ls ++ more) x (record m { asked = None }) p
    asked_taken more s e = record {
      holds = s.holds;
      left = s.left;
      lines = s.lines ∙ ap (λ k. ls ++ k) e ∙ sym (no_more (ls ++ more));
      unspent = s.unspent;
      goes = s.goes;
    }

    -- a line
    pub line_written : law.LineWritten serves shows wrote r x ls m n a b p w
    line_written count l s e h v = (
      v.1.0,
      record {
        shown = subst (λ k. ProcessRepresents r (ls ++ l ∷ []) x k p) (sym v.0) (asked_taken (l ∷ []) s (ap told e));
        served = ap (λ k. k.asked) v.0;
        world = v.1.1 p.core.ports w h;
      },
    )

    -- a port that is gone
    pub port_unheard : law.PortUnheard serves shows wrote r x ls m n a b p w
    port_unheard count k ps s e h same v = (
      v.1.0,
      record {
        shown = subst (λ j. ProcessRepresents r ls x j p) (sym v.0)
            (subst (λ j. ProcessRepresents r j x (record m { asked = None }) p) (no_more ls) (asked_taken [] s (ap told e)));
        served = ap (λ k. k.asked) v.0;
        world = subst (λ j. shows b j w) same (v.1.1 ps w h);
      },
    )
