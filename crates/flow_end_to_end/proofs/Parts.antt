-- A burst in memory that breaks off has written a first part of the lines of the burst of the class machine.
use Rattle.std.proofs.Common.{◌≡◌, ◌⊎◌, inl, inr, ℕ, Bool, true, false, List, [], ◌∷◌, ◌++◌, append_assoc, append-nil, refl, sym, ap, ◌∙◌, subst}
use Rattle.std.specs.Prelude.{pos, ◌-ℤ◌}
use Rattle.std.specs.declared.option.Option.{Option}
use Rattle.std.specs.declared.option.Option.TheVariants.{None, Some}
use Rattle.flow_class.specs.Classes.{RawTree}
use Rattle.flow_code.specs.declared.program.Code.{Code}
use Rattle.flow_trace.specs.declared.line.Line.{Line}
use Rattle.flow_cancel.specs.declared.task.Task.TheVariants as task
use Rattle.flow_eval.specs.Predefined.{natural}
use Rattle.flow_numbered.specs.Numbered.{Numbered}
use Rattle.flow_meaning.specs.Requests.{Request, Packet}
use Rattle.flow_meaning.specs.Burst.{Host, Live, live, Burst}
use Rattle.flow_meaning.specs.Class.{classes}
use Rattle.flow_meaning.specs.Frame.{Frame}
use Rattle.flow_meaning.specs.Process.{Proc}
use Rattle.flow_meaning.specs.Turns.{Starts}
use Rattle.flow_heap_refinement.specs.Counted.{nothing_in_hand}
use Rattle.flow_progress.specs.Ending.{Reaches}
use Rattle.flow_steps.specs.declared.call.Call.{Call}
use Rattle.flow_steps.specs.declared.call.Call.TheVariants as call
use Rattle.flow_steps.specs.declared.process.Next.TheVariants as next
use Rattle.flow_steps.specs.declared.process.Process.{Process}
use Rattle.flow_steps.specs.Doing.{doing, unasked}
use Rattle.flow_steps.specs.Tasks.{Tasks}
use Rattle.flow_machine.specs.declared.host.RunFault.{RunFault}
use Rattle.flow_machine.specs.Serving.{ServedIf, SendServed, may_send}
use Rattle.flow_machine.specs.Breaking.{Unwritten, DrawBroke, SendBroke, ServingBrokeIf, BreaksOff, no_memory, gets_stuck, serving, further, BringingBreaksOff, unbrought, bringing_stuck, is_brought}
use Rattle.flow_operation_refinement.specs.Matching.{told, AreSpent}
use Rattle.flow_step_refinement.specs.Services as services
use Rattle.flow_step_refinement.specs.Services.{WroteOrQuiet}
use Rattle.flow_burst_refinement.specs.Invariants.Allowed.{IsValidCode, BetweenTasks}
use Rattle.flow_burst_refinement.specs.Invariants.Invariant.{ProcessInvariant}
use Rattle.flow_burst_refinement.specs.Boundaries.Delivering.{IsDelivered}
use Rattle.flow_burst_refinement.specs.Programs.Delivering.{HostRepresents}
use Rattle.flow_burst_refinement.proofs.Boundaries.Bringing.{burst_begins}
use Rattle.flow_steps.specs.Evaluating.{program_time}
use Rattle.flow_meaning.specs.Orderly.{UnlessStopped}
use Rattle.flow_burst_refinement.specs.Enabled.Tasking.{IsProgram}
use Rattle.flow_burst_refinement.specs.Bursts.{HostKeepsTime, RepresentsInWorld}
use Rattle.flow_burst_refinement.proofs.Bursts.Rows.{ServedThen, lives_on, is_spent, served_then, spent_tasks}
use Rattle.flow_burst_refinement.proofs.Programs.Goes.{branches_of, program_goes}
use Rattle.flow_end_to_end.specs.Parts as law
use Rattle.flow_end_to_end.specs.Parts.{WritesInPart, PartOf}
use Rattle.flow_end_to_end.proofs.Growing.{burst_grows, burst_from_reached}

-- A world that stands for itself: the ports and what can change in it, and the lines that it wrote last.
record Ideal (W : Type 0) : Type 0 where
  ports : Numbered ℕ
  world : W
  wrote : Option (List Line)

abbrev ideal_shows : {W : Type 0} → Ideal W → Numbered ℕ → W → Type 0
ideal_shows a ps w = (ps ≡ a.ports) × (w ≡ a.world)

abbrev ideal_wrote : {W : Type 0} → Ideal W → List Line → Ideal W → Type 0
ideal_wrote a ls b = b.wrote ≡ Some ls

not_none : {X : Type 0} {x : X} → None ≡ Some x → ⊥
not_none e = cc

same_some : {X : Type 0} {x y : X} → Some x ≡ Some y → x ≡ y
same_some e = cc

-- what it wrote are the lines that it wrote last
said_lines : {W : Type 0} (serves : Host W) (r : RawTree) (a b : Ideal W) (more ks : List Line) → a.wrote ≡ None → b.wrote ≡ Some ks
    → WroteOrQuiet serves ideal_shows ideal_wrote r nothing_in_hand a more b → more ≡ ks
said_lines serves r a _ _ ks none is services.quiet = absurd (not_none (sym none ∙ is))
said_lines serves r a b more ks none is (services.told said) = same_some (sym said ∙ is)

-- nothing was written of any lines
pub nothing_of : {A W : Type 0} (serves : Host W) (wrote broke : A → List Line → A → Type 0) → WritesInPart serves wrote broke → (a : A) (l : Live W Frame) → PartOf broke [] a a l
nothing_of serves wrote broke parts a l = record { rest = l.proc.core.lines; are = refl; part = parts.nothing a l.proc.core.lines }

module _ {A W : Type 0} (serves : Host W) (shown_by : A → Numbered ℕ → W → Type 0) (wrote broke : A → List Line → A → Type 0) (code : Code) (processes : ℕ) (r : RawTree)
    (program : IsProgram r code) (steady : HostKeepsTime serves) (parts : WritesInPart serves wrote broke) where
  abbrev In : List Line → Process → A → Proc Frame → W → Type 0
  In ls m a p w = RepresentsInWorld serves shown_by wrote code processes r ls m a p w

  abbrev Ends : Proc Frame → W → Live W Frame → Type 0
  Ends p w l = Burst (classes r) serves (live p w) l

  run : IsValidCode r code
  run = record { valid = program.whole.valid; coded = program.coded }

  -- a process between tasks has written the lines so far, and a burst goes on from there
  lines_of : (ls : List Line) (m : Process) (a : A) (p : Proc Frame) (w : W) → In ls m a p w → p.core.lines ≡ ls
  lines_of ls m a p w now = now.between.shown.lines ∙ ap (λ o. ls ++ told o) now.asked ∙ append-nil ls

  starts : (ls : List Line) (p : Proc Frame) (w : W) (l : Live W Frame) → p.core.lines ≡ ls → Ends p w l → Starts ls l.proc.core.lines
  starts ls p w l are ends = subst (λ ks. Starts ks l.proc.core.lines) are (burst_grows (classes r) serves ends)

  -- nothing more was written
  nothing_written : (ls : List Line) (a : A) (p : Proc Frame) (w : W) (l : Live W Frame) → p.core.lines ≡ ls → Ends p w l → PartOf broke ls a a l
  nothing_written ls a p w l are ends = let s = starts ls p w l are ends in record { rest = s.0; are = s.1; part = parts.nothing a s.0 }

  none_in_part : (ls : List Line) (a b : A) (p : Proc Frame) (w : W) (l : Live W Frame) → p.core.lines ≡ ls → Ends p w l → broke a [] b → PartOf broke ls a b l
  none_in_part ls a b p w l are ends none = let s = starts ls p w l are ends in record { rest = s.0; are = s.1; part = parts.more a b [] s.0 none }

  -- These lines come next, and of them a first part was written.
  pub these_in_part : (ls ks : List Line) (a b : A) (p t : Proc Frame) (w u : W) (l : Live W Frame) → Reaches (classes r) serves (live p w) (live t u) → t.core.lines ≡ ls ++ ks → Ends p w l → broke a ks b
      → PartOf broke ls a b l
  these_in_part ls ks a b p t w u l reach are ends part =
      let s = starts (ls ++ ks) t u l are (burst_from_reached (classes r) serves (live p w) (live t u) l reach ends) in
      record { rest = ks ++ s.0; are = s.1 ∙ append_assoc ls ks s.0; part = parts.more a b ks s.0 part }

  -- the same process in a world that stands for itself
  abbrev at : Proc Frame → W → Ideal W
  at p w = record { ports = p.core.ports; world = w; wrote = None }

  ideal : (ls : List Line) (m : Process) (a : A) (p : Proc Frame) (w : W) → In ls m a p w
      → RepresentsInWorld serves ideal_shows ideal_wrote code processes r ls m (at p w) p w
  ideal ls m a p w now = record {
    between = now.between;
    asked = now.asked;
    world = (refl, refl);
    time = now.time;
    clock = now.clock;
    among = now.among;
    poised = now.poised;
  }

  -- so what a step asks comes to these lines of the class machine
  asked_lines : (ls ks : List Line) (m q j : Process) (a : A) (p : Proc Frame) (w : W) (l : Live W Frame) (b : Ideal W) → In ls m a p w → Tasks code m next.Asks q
      → ServedIf serves ideal_shows ideal_wrote processes q.asked (unasked q) (at p w) j b → b.wrote ≡ Some ks → Ends p w l → (c : A) → broke a ks c → PartOf broke ls a c l
  asked_lines ls ks m q j a p w l b now tasks served is ends c part =
      by_served (served_then serves ideal_shows ideal_wrote code processes r run (branches_of r code program) steady (program_goes serves ideal_shows ideal_wrote code processes r program)
      ls m q j (at p w) b p w (ideal ls m a p w now) tasks served)
    where
      same : (more : List Line) → WroteOrQuiet serves ideal_shows ideal_wrote r nothing_in_hand (at p w) more b → more ≡ ks
      same more said = said_lines serves r (at p w) b more ks refl is said

      by_served : ServedThen serves ideal_shows ideal_wrote code processes r run ls (at p w) p w j b → PartOf broke ls a c l
      by_served (lives_on more t u reach said here_now) =
          these_in_part ls ks a c p t w u l reach
          (here_now.between.shown.lines ∙ ap (λ o. (ls ++ more) ++ told o) here_now.asked ∙ append-nil (ls ++ more) ∙ ap (λ z. ls ++ z) (same more said)) ends part
      by_served (is_spent more t reach said s halted lines) = these_in_part ls ks a c p t w w l reach (lines ∙ ap (λ z. ls ++ z) (same more said)) ends part

  -- Where what a step asks is served in part.
  module _ (ls : List Line) (m q : Process) (a b : A) (p : Proc Frame) (w : W) (l : Live W Frame) (now : In ls m a p w) (tasks : Tasks code m next.Asks q) (ends : Ends p w l) where
    unwritten : Unwritten serves shown_by wrote broke a b → PartOf broke ls a b l
    unwritten (inl same) = subst (λ z. PartOf broke ls a z l) (sym same) (nothing_written ls a p w l (lines_of ls m a p w now) ends)
    unwritten (inr none) = none_in_part ls a b p w l (lines_of ls m a p w now) ends none

    drawn : (width : ℕ) → DrawBroke serves shown_by wrote broke width a b → PartOf broke ls a b l
    drawn width (inl t) = unwritten t
    drawn width (inr t) =
        let said : wrote a [] b = subst (λ ks. wrote a ks b) (parts.draws width w) (t p.core.ports w now.world).0 in
        none_in_part ls a b p w l (lines_of ls m a p w now) ends (parts.after a b b [] [] said (parts.nothing b []))

    sent : (i : _) (number port : _) (text : _) → q.asked ≡ Some (call.SendTo i number port text) → (fits : Bool) → may_send processes number port ≡ fits
        → SendBroke serves shown_by wrote broke fits (natural number) (natural port) text a b → PartOf broke ls a b l
    sent i number port text is false fit t = unwritten (inl t)
    sent i number port text is true fit (inl t) = unwritten (inl t)
    sent i number port text is true fit (inr t) =
        let request : Request = Packet (natural number) (natural port) text in
        let left : Ideal W = record { ports = p.core.ports; world = (serves.serve request w).1; wrote = Some (serves.serve request w).0 } in
        let goes : SendServed serves ideal_shows ideal_wrote true i (natural number) (natural port) text (unasked q) (at p w) (doing (task.Run i) (unasked q)) left =
        record {
          goes = refl;
          served = λ ps v h. (ap (λ z. Some (serves.serve request z).0) (sym h.1), (h.0, ap (λ z. (serves.serve request z).1) h.1));
        } in
        asked_lines ls (serves.serve request w).0 m q (doing (task.Run i) (unasked q)) a p w l left now tasks
        (subst (λ o. ServedIf serves ideal_shows ideal_wrote processes o (unasked q) (at p w) (doing (task.Run i) (unasked q)) left) (sym is)
        (subst (λ z. SendServed serves ideal_shows ideal_wrote z i (natural number) (natural port) text (unasked q) (at p w) (doing (task.Run i) (unasked q)) left) (sym fit) goes))
        refl ends b (t p.core.ports w now.world)

    line_written : (x : Line) → q.asked ≡ Some (call.Line x) → broke a (x ∷ []) b → PartOf broke ls a b l
    line_written x is t =
        let left : Ideal W = record { ports = p.core.ports; world = w; wrote = Some (x ∷ []) } in
        asked_lines ls (x ∷ []) m q (unasked q) a p w l left now tasks
        (subst (λ o. ServedIf serves ideal_shows ideal_wrote processes o (unasked q) (at p w) (unasked q) left) (sym is) (refl, (refl, λ ps v h. h))) refl ends b t

    served_in_part : (o : Option Call) → q.asked ≡ o → ServingBrokeIf serves shown_by wrote broke processes o a b → PartOf broke ls a b l
    served_in_part None is t = absurd t
    served_in_part (Some (call.Line x)) is t = line_written x is t
    served_in_part (Some (call.Draw i g lo hi)) is t = drawn (natural (hi -ℤ lo)) t
    served_in_part (Some (call.Delay i g ticks)) is t = unwritten t
    served_in_part (Some (call.Listen i g port)) is t = unwritten t
    served_in_part (Some (call.Disk i g request)) is t = unwritten t
    served_in_part (Some (call.SendTo i number port text)) is t = sent i number port text is (may_send processes number port) refl t
    served_in_part (Some (call.Unlisten k)) is t = absurd t

  -- Once the event is spent nothing more is done, and nothing is written.
  pub spent_in_part : (m : Process) (a b : A) (f : RunFault) → m.spent ≡ true → BreaksOff serves shown_by wrote broke code processes m a f b → b ≡ a
  spent_in_part m a _ _ s (no_memory _ _) = refl
  spent_in_part m a _ _ s (gets_stuck _ _ stuck) = refl
  spent_in_part m a b f s (serving _ q _ _ _ tasks part why) = absurd (asks_spent (spent_tasks serves shown_by wrote code processes r run m q next.Asks s tasks).0)
    where
      asks_spent : next.Asks ≡ next.Spent → ⊥
      asks_spent e = cc (e)
  spent_in_part m a b f s (further _ q j _ d _ _ tasks served more) = absurd (asks_spent (spent_tasks serves shown_by wrote code processes r run m q next.Asks s tasks).0)
    where
      asks_spent : next.Asks ≡ next.Spent → ⊥
      asks_spent e = cc (e)

  -- lines that were written come before
  pub written_before : (ls ks : List Line) (a d b : A) (l : Live W Frame) → WroteOrQuiet serves shown_by wrote r nothing_in_hand a ks d → PartOf broke (ls ++ ks) d b l → PartOf broke ls a b l
  written_before ls ks a d b l (services.quiet) x = record { rest = x.rest; are = x.are ∙ ap (λ z. z ++ x.rest) (append-nil ls); part = x.part }
  written_before ls ks a d b l (services.told said) x = record { rest = ks ++ x.rest; are = x.are ∙ append_assoc ls ks x.rest; part = parts.after a d b ks x.rest said x.part }

  pub burst_in_part : (ls : List Line) (m : Process) (a b : A) (f : RunFault) (p : Proc Frame) (w : W) → In ls m a p w → BreaksOff serves shown_by wrote broke code processes m a f b
      → (l : Live W Frame) → Ends p w l → PartOf broke ls a b l
  burst_in_part ls m a _ _ p w now (no_memory _ _) l ends = nothing_written ls a p w l (lines_of ls m a p w now) ends
  burst_in_part ls m a _ _ p w now (gets_stuck _ _ stuck) l ends = nothing_written ls a p w l (lines_of ls m a p w now) ends
  burst_in_part ls m a b f p w now (serving _ q _ _ _ tasks part why) l ends = served_in_part ls m q a b p w l now tasks ends q.asked refl part
  burst_in_part ls m a b f p w now (further _ q j _ d _ _ tasks served more) l ends =
      by_served (served_then serves shown_by wrote code processes r run (branches_of r code program) steady (program_goes serves shown_by wrote code processes r program) ls m q j a d p w now tasks
      served)
      (λ ks t u here_now then_ends. burst_in_part ks j d b f t u here_now more l then_ends)
    where
      by_served : ServedThen serves shown_by wrote code processes r run ls a p w j d → ((ks : List Line) (t : Proc Frame) (u : W) → In ks j d t u → Ends t u l → PartOf broke ks d b l)
          → PartOf broke ls a b l
      by_served (lives_on ks t u reach said here_now) rest =
          written_before ls ks a d b l said (rest (ls ++ ks) t u here_now (burst_from_reached (classes r) serves (live p w) (live t u) l reach ends))
      by_served (is_spent ks t reach said s halted lines) rest =
          written_before ls ks a d b l said
          (subst (λ z. PartOf broke (ls ++ ks) d z l) (sym (spent_in_part j d b f s more))
          (nothing_written (ls ++ ks) d t w l lines (burst_from_reached (classes r) serves (live p w) (live t w) l reach ends)))

pub all_bursts_in_part : {A W : Type 0} (serves : Host W) (shown_by : A → Numbered ℕ → W → Type 0) (wrote broke : A → List Line → A → Type 0) (code : Code) (processes : ℕ) (r : RawTree)
    → law.BurstInPart serves shown_by wrote broke code processes r
all_bursts_in_part serves shown_by wrote broke code processes r program steady parts ls m a b f p w now off l ends =
    burst_in_part serves shown_by wrote broke code processes r program steady parts ls m a b f p w now off l ends

-- so it is of what is brought to a process, and what follows of it
module _ {A W : Type 0} (serves : Host W) (shown_by : A → Numbered ℕ → W → Type 0) (wrote broke : A → List Line → A → Type 0) (code : Code) (processes : ℕ) (r : RawTree)
    (program : IsProgram r code) (steady : HostKeepsTime serves) (parts : WritesInPart serves wrote broke) where
  pub delivered_in_part : (now : ℕ) (stuck : Type 0) (m : Process) (a b : A) (f : RunFault) (p : Proc Frame) (w : W) → IsDelivered r now m p → UnlessStopped p.core.halted (ProcessInvariant r p)
      → HostRepresents serves shown_by processes now a p w → BringingBreaksOff serves shown_by wrote broke code processes stuck m a f b
      → (l : Live W Frame) → Burst (classes r) serves (live p w) l → PartOf broke [] a b l
  delivered_in_part now stuck m a _ _ p w is kept around unbrought l burst = nothing_of serves wrote broke parts a l
  delivered_in_part now stuck m a _ _ p w is kept around (bringing_stuck got) l burst = nothing_of serves wrote broke parts a l
  delivered_in_part now stuck m a _ _ p w is kept around (is_brought f b off) l burst = by_begin (burst_begins r now m p is kept)
    where
      by_begin : BetweenTasks r [] m p ⊎ AreSpent [] m p → PartOf broke [] a b l
      by_begin (inl between) =
          burst_in_part serves shown_by wrote broke code processes r program steady parts [] m a b f p w
          (record {
            between = between;
            asked = is.asked;
            world = around.shown;
            time = is.time ∙ around.time;
            clock = subst (λ t. program_time t ≡ pos t) (sym is.time) around.clock;
            among = around.among;
            poised = is.poised;
          }) off l burst
      by_begin (inr are) =
          subst (λ z. PartOf broke [] a z l) (sym (spent_in_part serves shown_by wrote broke code processes r program steady parts m a b f are.spent off)) (nothing_of serves wrote broke parts a l)
