-- A row of steps of an actor in memory is a row of steps of the class machine, up to one that asks something.
use Rattle.std.proofs.Common.{◌≡◌, ◌⊎◌, inl, inr, ℕ, pos, List, refl, sym, ap, ◌∙◌, subst}
use Rattle.std.specs.Prelude.{slice_get}
use Rattle.std.specs.declared.option.Option.{Option}
use Rattle.std.specs.declared.option.Option.TheVariants.{None, Some}
use Rattle.flow_class.specs.Classes.{RawTree}
use Rattle.flow_code.specs.declared.program.Code.{Code}
use Rattle.flow_trace.specs.declared.line.Line.{Line}
use Rattle.flow_numbered.specs.Numbered.{thing}
use Rattle.flow_meaning.specs.Requests.{Supply}
use Rattle.flow_meaning.specs.Process.{Halt, Run, Entry, Proc}
use Rattle.flow_meaning.specs.References.{Scan}
use Rattle.flow_meaning.specs.Work.{pushed}
use Rattle.flow_meaning.specs.Step.{Stepped, silent, step_if, step, on_core}
use Rattle.flow_meaning.specs.Class.{classes}
use Rattle.flow_meaning.specs.Frame.{Frame}
use Rattle.flow_steps.specs.declared.frames.ControlPoint.{ControlPoint}
use Rattle.flow_steps.specs.declared.next.Pace.{Pace}
use Rattle.flow_steps.specs.declared.next.Pace.TheVariants.{On, Off}
use Rattle.flow_steps.specs.declared.process.Process.{Process}
use Rattle.flow_steps.specs.Evaluating.{program_time}
use Rattle.flow_steps.specs.Stepping.{GoesOn, StepsOn, Runs, runs_on, runs_off}
use Rattle.flow_operation_refinement.specs.Stepped.{OnlyTells}
use Rattle.flow_operation_refinement.specs.Matching.{Matches}
use Rattle.flow_operation_refinement.specs.Seeing.{IsCodeOf}
use Rattle.flow_step_refinement.specs.Continuing as going
use Rattle.flow_step_refinement.specs.Continuing.{Silent, no_more, then_on, MayStep, moves, chooses, GoesBy, Leads, InClass, GoesFurther}
use Rattle.flow_step_refinement.specs.Executing.{coded_by, InProgram, Asks, by_effect, by_act, by_start, by_method, by_operand}
use Rattle.flow_step_refinement.specs.Running as law
use Rattle.flow_step_refinement.specs.Running.{Allows, AsksAtLast, RanOff}
use Rattle.flow_step_refinement.proofs.Decodes.{in_code_of}
use Rattle.flow_step_refinement.proofs.Stays as stays
use Rattle.flow_step_refinement.proofs.Stays.{never, evaluated_on, in_class_stays}
use Rattle.flow_step_refinement.proofs.Quiet.{step_quiet}
use Rattle.flow_step_refinement.proofs.Ends.{step_follows}
use Rattle.flow_step_refinement.proofs.Telling.{step_told}

-- what asks something doesn't go on at once
pub asks_off : (code : Code) (s : ControlPoint) (m : Process) (pace : Pace) (n : Process) (t : ControlPoint) → pace ≡ On t → Asks code s m pace n → ⊥
asks_off code s m pace n t on (by_effect aim eff args at does) = stays.by_effect code s t _ eff args.items m n pace s on does
asks_off code s m pace n t on (by_act called args at does) = let a = evaluated_on s _ _ m _ t pace n on does in never t (sym a.1.1.0 ∙ on)
asks_off code s m pace n t on (by_start class args at does) = let a = evaluated_on s _ _ m _ t pace n on does in never t (sym a.1.1.0 ∙ on)
asks_off code s m pace n t on (by_method aim g args at change does) = stays.by_method code s t aim g args.items m n pace change on does
asks_off code s m pace n t on (by_operand number group b eff args end last of at is does) = stays.by_effect code s t _ eff args.items _ n pace _ on does

module _ (r : RawTree) (w : Supply) where
  -- rows one after the other
  pub joined : (p q z : Proc Frame) → Silent r w p q → Silent r w q z → Silent r w p z
  joined p q z (no_more a) row = row
  joined p q z (then_on a b c one rest) row = then_on a b z one (joined b q z rest row)

  -- a process that takes a step isn't stopped
  pub unstopped : (p : Proc Frame) (o : Option Halt) (x : Stepped Frame) → p.core.halted ≡ o → step (classes r) w p ≡ Some x → o ≡ None
  unstopped p None x h e = refl
  unstopped p (Some k) x h e = absurd (let a : None ≡ Some x = sym (ap (λ o. step_if (classes r) w o p) h) ∙ e in cc (a))

  module _ (holds : Proc Frame → Type 0) (allows : Allows r w holds) where
    pub holds_then : (p q : Proc Frame) → Silent r w p q → holds p → q.core.halted ≡ None → holds q
    holds_then p q (no_more a) h goes = h
    holds_then p q (then_on a b c one (no_more d)) h goes = allows.kept a b h one goes
    holds_then p q (then_on a b c one (then_on d g z two rest)) h goes = holds_then b q (then_on d g z two rest) (allows.kept a b h one (unstopped b b.core.halted (silent g) refl two)) goes

-- what is known of an actor that takes a step
module _ (r : RawTree) (ls : List Line) (x : Scan) (s : ControlPoint) (m : Process) (p : Proc Frame) (i : ℕ) (e : Entry) (f : Frame) where
  pub entered : MayStep r ls x s m p i e f → thing p.core.entries i ≡ Some e
  entered (moves st zero) = st.stood.acts.entered
  entered (chooses at) = at.stood.acts.entered

  pub acting : MayStep r ls x s m p i e f → thing p.actors i ≡ Some f
  acting (moves st zero) = st.acting
  acting (chooses at) = at.stood.acts.acting

  pub goes_on : MayStep r ls x s m p i e f → p.core.halted ≡ None
  goes_on (moves st zero) = st.stood.shown.goes
  goes_on (chooses at) = at.stood.shown.goes

  pub class_of : MayStep r ls x s m p i e f → slice_get r.classes e.class ≡ Some f.code
  class_of (moves st zero) = ap (slice_get r.classes) st.stood.acts.class ∙ st.stood.acts.stands.code
  class_of (chooses at) = ap (slice_get r.classes) at.stood.acts.class ∙ at.stood.acts.stands.code

module _ (r : RawTree) (ls : List Line) (x : Scan) (w : Supply) (holds : Proc Frame → Type 0) (code : Code) (program : IsCodeOf r code) (allows : Allows r w holds) where
  abbrev ending : ℕ → Proc Frame → (m n : Process) → Type 0
  ending i start m n = RanOff r ls x w holds code start n ⊎ AsksAtLast r ls x w holds code program i start m n

  -- after steps that were taken already
  later : (i : ℕ) (start q : Proc Frame) (m between n : Process) → Silent r w start q → ((z : Process) → Leads code between z → Leads code m z) → ending i q between n → ending i start m n
  later i start q m between n row lead (inl a) = inl (record { after = a.after; steps = joined r w start q a.after row a.steps; follows = a.follows; told = a.told })
  later i start q m between n row lead (inr a) = inr (record {
    stand = a.stand;
    memory = a.memory;
    process = a.process;
    entry = a.entry;
    frame = a.frame;
    steps = joined r w start q _ row a.steps;
    leads = lead a.memory a.leads;
    held = a.held;
    may = a.may;
    standing = a.standing;
    none = a.none;
    time = a.time;
    asks = a.asks;
  })

  module _ (i : ℕ) where
    pub in_program : (s : ControlPoint) (m : Process) (p : Proc Frame) (e : Entry) (f : Frame) → holds (on_core (pushed (Run i)) p) → MayStep r ls x s m p i e f → InClass code e.class s
        → InProgram r code s f
    in_program s m p e f held may here = record {
      program = program;
      standing = in_code_of r code e.class s f (coded_by program) here (class_of r ls x s m p i e f may);
      few = allows.few (on_core (pushed (Run i)) p) i e f held (entered r ls x s m p i e f may) (acting r ls x s m p i e f may);
    }

    -- after one step the actor goes on with the others
    goes_further : (s : ControlPoint) (m n : Process) (p : Proc Frame) (e : Entry) (f : Frame) (t : ControlPoint) (between : Process) → holds (on_core (pushed (Run i)) p) → InClass code e.class s
        → m.asked ≡ None
        → program_time m.time ≡ pos w.now → StepsOn code s m (On t) between → GoesBy r ls x w i e.class (on_core (pushed (Run i)) p) (On t) between ⊎ Asks code s m (On t) between
        → ((q : Proc Frame) (d : Entry) (g : Frame) → holds (on_core (pushed (Run i)) q) → MayStep r ls x t between q i d g → InClass code d.class t → between.asked ≡ None
        → program_time between.time ≡ pos w.now → ending i (on_core (pushed (Run i)) q) between n)
        → ending i (on_core (pushed (Run i)) p) m n
    goes_further s m n p e f t between held here none time steps (inr a) rest = absurd (asks_off code s m (On t) between t refl a)
    goes_further s m n p e f t between held here none time steps (inl g) rest =
        let quiet = step_quiet code s m between t (On t) refl steps in
        let a = g.onward in
        let row = subst (Silent r w (on_core (pushed (Run i)) p)) a.runs g.steps in
        let held2 = holds_then r w holds allows (on_core (pushed (Run i)) p) (on_core (pushed (Run i)) a.process) row held (goes_on r ls x t between a.process i a.entry a.frame a.next) in
        later i (on_core (pushed (Run i)) p) (on_core (pushed (Run i)) a.process) m between n row (λ z. going.goes_on s t m between z steps)
        (rest a.process a.entry a.frame held2 a.next (subst (λ k. InClass code k t) (sym a.same) (in_class_stays code e.class s t m between here steps))
        (quiet.asked ∙ none) (ap program_time quiet.time ∙ time))

    runs : (s : ControlPoint) (m n : Process) (p : Proc Frame) (e : Entry) (f : Frame) → holds (on_core (pushed (Run i)) p) → MayStep r ls x s m p i e f → InClass code e.class s → m.asked ≡ None
        → program_time m.time ≡ pos w.now → Runs code s m n → ending i (on_core (pushed (Run i)) p) m n
    runs s m n p e f held may here none time (runs_off a b c steps) =
        by_step (step_follows r ls m p i e f x s w code Off n may (in_program s m p e f held may here) none time
        (allows.next p i e f held (entered r ls x s m p i e f may) (acting r ls x s m p i e f may)) steps) (step_told code s m n Off none steps)
      where
        asks_last : Asks code s m Off n → ending i (on_core (pushed (Run i)) p) m n
        asks_last a = inr (record {
          stand = s;
          memory = m;
          process = p;
          entry = e;
          frame = f;
          steps = no_more (on_core (pushed (Run i)) p);
          leads = going.stays_there m;
          held = held;
          may = may;
          standing = in_program s m p e f held may here;
          none = none;
          time = time;
          asks = a;
        })

        by_step : GoesBy r ls x w i e.class (on_core (pushed (Run i)) p) Off n ⊎ Asks code s m Off n → OnlyTells n.asked ⊎ Asks code s m Off n → ending i (on_core (pushed (Run i)) p) m n
        by_step (inl g) (inl t) = inl (record { after = g.after; steps = g.steps; follows = g.onward; told = t })
        by_step (inl g) (inr a) = asks_last a
        by_step (inr a) t = asks_last a
    runs s m n p e f held may here none time (runs_on a t b between c steps rest) =
        goes_further s m n p e f t between held here none time steps
        (step_follows r ls m p i e f x s w code (On t) between may (in_program s m p e f held may here) none time
        (allows.next p i e f held (entered r ls x s m p i e f may) (acting r ls x s m p i e f may)) steps)
        (λ q d g held may here none time. runs t between n q d g held may here none time rest)

    further : (number : ℕ) (start : Proc Frame) (m n : Process) → holds start → (g : GoesFurther code r ls x w i number start m n) → g.between.asked ≡ None ⊎ (g.pace ≡ Off)
        → program_time g.between.time ≡ pos w.now
        → ending i start g.between n
    further number start m n held g quiet time = by_pace g.pace g.goes g.stands g.told g.further quiet
      where
        by_pace : (pace : Pace) → GoesBy r ls x w i number start pace g.between → ((t : ControlPoint) → pace ≡ On t → InClass code number t) → (pace ≡ Off → OnlyTells g.between.asked)
            → GoesOn code pace g.between n → g.between.asked ≡ None ⊎ (pace ≡ Off) → ending i start g.between n
        by_pace Off goes stands told is quiet = inl (record {
          after = goes.after;
          steps = goes.steps;
          follows = subst (λ (y : Process). Matches r ls x y goes.after) (sym is) goes.onward;
          told = subst (λ (y : Process). OnlyTells y.asked) (sym is) (told refl);
        })
        by_pace (On t) goes stands told is (inr off) = absurd (cc (off))
        by_pace (On t) goes stands told is (inl none) =
            let a = goes.onward in
            let row = subst (Silent r w start) a.runs goes.steps in
            let held2 = holds_then r w holds allows start (on_core (pushed (Run i)) a.process) row held (goes_on r ls x t g.between a.process i a.entry a.frame a.next) in
            later i start (on_core (pushed (Run i)) a.process) g.between g.between n row (λ z l. l)
            (runs t g.between n a.process a.entry a.frame held2 a.next (subst (λ k. InClass code k t) (sym a.same) (stands t refl)) none time is)

pub runs_follow : (r : RawTree) (ls : List Line) (x : Scan) (w : Supply) (holds : Proc Frame → Type 0) (code : Code) → law.RunsFollow r ls x w holds code
runs_follow r ls x w holds code m p i e f s n program allows held may here none time is = runs r ls x w holds code program allows i s m n p e f held may here none time is

pub further_follows : (r : RawTree) (ls : List Line) (x : Scan) (w : Supply) (holds : Proc Frame → Type 0) (code : Code) → law.FurtherFollows r ls x w holds code
further_follows r ls x w holds code i number start m n program allows held g quiet time = further r ls x w holds code program allows i number start m n held g quiet time
