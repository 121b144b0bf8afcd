-- A step of an actor in memory by the end of its block is a row of steps of the class machine.
use Rattle.std.proofs.Common.{◌≡◌, ◌⊎◌, inl, ℕ, pos, true, false, List, refl, sym, ap, ◌∙◌, subst}
use Rattle.std.specs.declared.option.Option.TheVariants.{None}
use Rattle.flow_code.specs.declared.expr.expr.Resolved.{Resolved}
use Rattle.flow_code.specs.Resolved.View.{node_of}
use Rattle.flow_code.specs.Resolved.Resolving.{resolved}
use Rattle.flow_class.specs.Classes.{LastTree, GotoLast, PassLast, TestLast, ChooseLast, ReturnLast, ThrowLast, RawTree}
use Rattle.flow_class.specs.Code.{Last, fetch}
use Rattle.flow_code.specs.declared.class.Last as code_last
use Rattle.flow_code.specs.declared.class.Last.TheVariants as last
use Rattle.flow_code.specs.declared.program.Code.{Code}
use Rattle.flow_code.specs.View.{end_of}
use Rattle.flow_code.specs.Coding.{ended}
use Rattle.flow_trace.specs.declared.line.Line.{Line}
use Rattle.flow_meaning.specs.Requests.{Supply}
use Rattle.flow_meaning.specs.Evaluating.{value}
use Rattle.flow_meaning.specs.Process.{Run, Entry, Proc}
use Rattle.flow_meaning.specs.References.{Scan}
use Rattle.flow_meaning.specs.Work.{pushed}
use Rattle.flow_meaning.specs.Step.{view, on_core}
use Rattle.flow_meaning.specs.Class.{class_names}
use Rattle.flow_meaning.specs.Frame.{Frame, look}
use Rattle.flow_steps.specs.declared.frames.ControlPoint.{ControlPoint}
use Rattle.flow_steps.specs.declared.next.Pace.{Pace}
use Rattle.flow_steps.specs.declared.next.Pace.TheVariants.{On}
use Rattle.flow_steps.specs.declared.process.Process.{Process}
use Rattle.flow_steps.specs.Holding.{on_heap}
use Rattle.flow_steps.specs.Evaluating.{program_time}
use Rattle.flow_steps.specs.Points.{noting, noted, noted_stand}
use Rattle.flow_steps.specs.Stepping.{value_for, Ends, StepsOn, by_instruction, by_last}
use Rattle.flow_operation_refinement.specs.Continuing.{MayBeStale}
use Rattle.flow_operation_refinement.specs.Carried.{StepsAs}
use Rattle.flow_operation_refinement.proofs.Carrying.{goto_step, pass_step}
use Rattle.flow_operation_refinement.proofs.Evaluations.{throw_step}
use Rattle.flow_step_refinement.specs.Continuing.{AtOperands, moves, chooses, GoesBy}
use Rattle.flow_step_refinement.specs.Executing as law
use Rattle.flow_step_refinement.specs.Executing.{MayDoNext, MayChoose, coded_by, InProgram, Asks}
use Rattle.flow_step_refinement.proofs.Onward.{one_step}
use Rattle.flow_step_refinement.proofs.Decisions.{test_step, return_step}
use Rattle.flow_step_refinement.proofs.Decodes.{the_instruction, the_end, the_wait}
use Rattle.flow_step_refinement.proofs.Stays.{instruction_later, end_later}
use Rattle.flow_step_refinement.proofs.Choices.{choice_begins}
use Rattle.flow_step_refinement.proofs.Chooses.{choice_follows}
use Rattle.flow_step_refinement.proofs.Executes.{by, coding_now, value_is, does_follows}
use Rattle.flow_tree.specs.Tree.{returned_expr}

module _ (r : RawTree) (ls : List Line) (m : Process) (p : Proc Frame) (i : ℕ) (e : Entry) (f : Frame) (x : Scan) (s : ControlPoint) (w : Supply) (code : Code)
    (inp : InProgram r code s f) (time : program_time m.time ≡ pos w.now) (none : m.asked ≡ None) (pace : Pace) (n : Process) where
  abbrev row : Type 0
  row = GoesBy r ls x w i e.class (on_core (pushed (Run i)) p) pace n

  abbrev either : Type 0
  either = row ⊎ Asks code s m pace n

  -- a step after which its frame isn't told
  one : ((t : ControlPoint) → pace ≡ On t → t.noted ≡ false) → StepsAs r ls x w p i e pace n → either
  one later steps = inl (one_step r ls x w p i e pace n later steps)

  module _ (st : MayBeStale r ls x s m p i e f) (zero_state : s.noted ≡ true → st.stood.acts.memory.state ≡ 0) (may : MayDoNext r w p i e f (fetch f.code f.block f.instr)) where
    value_now : (t : _) (res : Resolved) → node_of res ≡ resolved (coding_now r ls m p i e f x s w code st inp time).names t
        → value_for code s.actor.0 res m ≡ value (class_names r) (view w i p.core) (look f.mem) t
    value_now t res same = value_is r ls m p i e f x s w code st inp time t res same

    by_end : (l : code_last.Last) (text : LastTree) → s.block.now.last ≡ l → fetch f.code f.block f.instr ≡ Last text → end_of l ≡ ended (coding_now r ls m p i e f x s w code st inp time) text
        → Ends code s l m pace n → either
    by_end (last.Goto b) (GotoLast d) is there same does =
        let block : d ≡ b = cc (same) in
        one (λ t on. end_later code s inp.standing.block t (last.Goto b) m n pace on does) (goto_step r ls m p i e f x s w b pace n st (there ∙ ap (λ y. Last (GotoLast y)) block) does)
    by_end (last.Pass b) (PassLast d) is there same does =
        let block : d ≡ b = cc (same) in
        one (λ t on. end_later code s inp.standing.block t (last.Pass b) m n pace on does) (pass_step r ls m p i e f x s w b pace n st (there ∙ ap (λ y. Last (PassLast y)) block) does)
    by_end (last.Test res b c) (TestLast t d k) is there same does =
        let node : node_of res ≡ resolved (coding_now r ls m p i e f x s w code st inp time).names t = cc (same) in
        let first : d ≡ b = cc (same) in
        let second : k ≡ c = cc (same) in
        one (λ t on. end_later code s inp.standing.block t (last.Test res b c) m n pace on does) (test_step r ls m p i e f x s w t b c (value_for code s.actor.0 res m) pace n st
        (there ∙ ap (λ y. Last (TestLast t y k)) first ∙ ap (λ y. Last (TestLast t b y)) second) (value_now t res node) does)
    by_end (last.Choose g) (ChooseLast d) is there same does =
        let number : d ≡ g = cc (same) in
        let fetched : fetch f.code f.block f.instr ≡ Last (ChooseLast g) = there ∙ ap (λ y. Last (ChooseLast y)) number in
        let fits : MayChoose r w p i e f g = subst (MayDoNext r w p i e f) fetched may in
        let wait = the_wait r code.classes.items s i f (by r ls m p i e f x s w code st inp time) inp.standing g st.standing fetched in
        let at = choice_begins r ls m p i e f x s g st wait fits.go zero_state in
        choice_follows r ls m p i e f x s w code inp time none at g fetched is fits pace n does
    by_end (last.Return res) (ReturnLast t) is there same does =
        let node : node_of res ≡ resolved (coding_now r ls m p i e f x s w code st inp time).names (returned_expr t) = cc (same) in
        let v = value_now (returned_expr t) res node in
        let fits = subst (MayDoNext r w p i e f) there may in
        one (λ t on. end_later code s inp.standing.block t (last.Return res) m n pace on does)
        (return_step r ls m p i e f x s w t (value_for code s.actor.0 res m) pace n st there v (λ u left done. fits u left (sym v ∙ done)) does)
    by_end (last.Throw res) (ThrowLast t) is there same does =
        let node : node_of res ≡ resolved (coding_now r ls m p i e f x s w code st inp time).names t = cc (same) in
        one (λ t on. end_later code s inp.standing.block t (last.Throw res) m n pace on does)
        (throw_step r ls m p i e f x s w t (value_for code s.actor.0 res m) pace n st there (value_now t res node) does)
    by_end (last.Goto b) (PassLast d) is there same does = absurd (cc (same))
    by_end (last.Goto b) (TestLast t d k) is there same does = absurd (cc (same))
    by_end (last.Goto b) (ChooseLast d) is there same does = absurd (cc (same))
    by_end (last.Goto b) (ReturnLast t) is there same does = absurd (cc (same))
    by_end (last.Goto b) (ThrowLast t) is there same does = absurd (cc (same))
    by_end (last.Pass b) (GotoLast d) is there same does = absurd (cc (same))
    by_end (last.Pass b) (TestLast t d k) is there same does = absurd (cc (same))
    by_end (last.Pass b) (ChooseLast d) is there same does = absurd (cc (same))
    by_end (last.Pass b) (ReturnLast t) is there same does = absurd (cc (same))
    by_end (last.Pass b) (ThrowLast t) is there same does = absurd (cc (same))
    by_end (last.Test res b c) (GotoLast d) is there same does = absurd (cc (same))
    by_end (last.Test res b c) (PassLast d) is there same does = absurd (cc (same))
    by_end (last.Test res b c) (ChooseLast d) is there same does = absurd (cc (same))
    by_end (last.Test res b c) (ReturnLast t) is there same does = absurd (cc (same))
    by_end (last.Test res b c) (ThrowLast t) is there same does = absurd (cc (same))
    by_end (last.Choose g) (GotoLast d) is there same does = absurd (cc (same))
    by_end (last.Choose g) (PassLast d) is there same does = absurd (cc (same))
    by_end (last.Choose g) (TestLast t d k) is there same does = absurd (cc (same))
    by_end (last.Choose g) (ReturnLast t) is there same does = absurd (cc (same))
    by_end (last.Choose g) (ThrowLast t) is there same does = absurd (cc (same))
    by_end (last.Return res) (GotoLast d) is there same does = absurd (cc (same))
    by_end (last.Return res) (PassLast d) is there same does = absurd (cc (same))
    by_end (last.Return res) (TestLast t d k) is there same does = absurd (cc (same))
    by_end (last.Return res) (ChooseLast d) is there same does = absurd (cc (same))
    by_end (last.Return res) (ThrowLast t) is there same does = absurd (cc (same))
    by_end (last.Throw res) (GotoLast d) is there same does = absurd (cc (same))
    by_end (last.Throw res) (PassLast d) is there same does = absurd (cc (same))
    by_end (last.Throw res) (TestLast t d k) is there same does = absurd (cc (same))
    by_end (last.Throw res) (ChooseLast d) is there same does = absurd (cc (same))
    by_end (last.Throw res) (ReturnLast t) is there same does = absurd (cc (same))

    moves_follow : StepsOn code s m pace n → either
    moves_follow (by_instruction y at does) = does_follows r ls m p i e f x s w code st inp time pace n (λ t on. instruction_later code s inp.standing.block t y m n pace on does) y at may does
    moves_follow (by_last at does) =
        let a = the_end r code.classes.items s i f (by r ls m p i e f x s w code st inp time) inp.standing st.standing st.instruction at in
        by_end s.block.now.last a.text refl a.fetched a.coded does

  -- where an actor is at its wait with operands
  module _ (at : AtOperands r ls x s m p i e f) (may : MayDoNext r w p i e f (fetch f.code f.block f.instr)) where
    -- its frame is told already
    same_stand : noted_stand s ≡ s
    same_stand = ap (λ b. record s { noted = b }) (sym at.noted)

    same_told : noted s m ≡ m
    same_told = ap (λ b. on_heap (noting b s.actor.0 s.place s.instruction) m) at.noted

    at_told : AtOperands r ls x (noted_stand s) (noted s m) p i e f
    at_told = subst (λ y. AtOperands r ls x y (noted s m) p i e f) (sym same_stand) (subst (λ y. AtOperands r ls x s y p i e f) (sym same_told) at)

    chooses_follow : StepsOn code s m pace n → either
    chooses_follow (by_instruction y there does) =
        let a = the_instruction r code.classes.items s i f (coded_by inp.program) inp.standing y at.standing at.instruction there in
        let b = at.wait.fetched in
        let c = a.fetched in absurd (cc (b, c))
    chooses_follow (by_last there does) =
        let fits : MayChoose r w p i e f at.group = subst (MayDoNext r w p i e f) at.wait.fetched may in
        choice_follows r ls m p i e f x s w code inp time none at_told at.group at.wait.fetched at.wait.last fits pace n
        (subst (λ l. Ends code s l m pace n) at.wait.last does)

pub step_follows : (r : RawTree) (ls : List Line) (m : Process) (p : Proc Frame) (i : ℕ) (e : Entry) (f : Frame) → law.StepFollows r ls m p i e f
step_follows r ls m p i e f x s w code pace n (moves st zero_state) inp none time may steps = moves_follow r ls m p i e f x s w code inp time none pace n st zero_state may steps
step_follows r ls m p i e f x s w code pace n (chooses at) inp none time may steps = chooses_follow r ls m p i e f x s w code inp time none pace n at may steps
