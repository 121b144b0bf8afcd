-- A step of an actor in memory that asks something is a step of the class machine.
use Rattle.std.proofs.Common.{◌≡◌, ℕ, suc, ◌+◌, true, List, [], ◌∷◌, length, refl, sym, ap, ◌∙◌, subst}
use Rattle.std.specs.Prelude.{pos, slice_get}
use Rattle.std.specs.Option.{option_map, option_and_then}
use Rattle.std.specs.declared.option.Option.TheVariants.{Some}
use Rattle.std.specs.declared.vec.Vec.{Vec}
use Rattle.std.specs.declared.alloc.Global.{Global}
use Rattle.flow_base.specs.declared.ids.ActorId.{ActorId}
use Rattle.flow_tree.specs.declared.ty.Ident.{Ident}
use Rattle.flow_tree.specs.Tree.{ExprTrees, NoExprs, MoreExprs}
use Rattle.flow_eval.specs.Functions.{read_in}
use Rattle.flow_class.specs.Classes.{InstrTree, ActInstr, LastTree, GotoLast, PassLast, TestLast, ChooseLast, ReturnLast, ThrowLast, RawTree}
use Rattle.flow_class.specs.Code.{Body, Last, fetch, callback_at}
use Rattle.flow_code.specs.declared.expr.expr.Resolved.{Resolved}
use Rattle.flow_value.specs.View.{value_of}
use Rattle.flow_code.specs.Resolved.View.{nodes_of, places_in}
use Rattle.flow_code.specs.declared.class.Act.TheVariants as act
use Rattle.flow_code.specs.declared.class.Aim.{Aim}
use Rattle.flow_code.specs.declared.class.Branch.{Branch}
use Rattle.flow_code.specs.declared.class.Effect.{Effect}
use Rattle.flow_code.specs.declared.class.Group.{Group}
use Rattle.flow_code.specs.declared.class.Instruction.{Instruction}
use Rattle.flow_code.specs.declared.class.Instruction.TheVariants as instruction
use Rattle.flow_code.specs.declared.class.Operand.TheVariants as operand
use Rattle.flow_code.specs.declared.program.Code.{Code}
use Rattle.flow_code.specs.Classes.{ChooseEnd, BranchCode}
use Rattle.flow_code.specs.View.{aim_of, end_of, branch_of, operand_of, group_numbered}
use Rattle.flow_code.specs.Coding.{Coding, aimed, ended, coded_branch, coded_operand}
use Rattle.flow_code.specs.Coded.{coding}
use Rattle.flow_trace.specs.declared.line.Line.{Line}
use Rattle.flow_meaning.specs.Requests.{Supply}
use Rattle.flow_meaning.specs.Evaluating.{before_last}
use Rattle.flow_meaning.specs.Cells.{Ref}
use Rattle.flow_numbered.specs.Numbered.{thing}
use Rattle.flow_meaning.specs.Process.{Entry, Proc}
use Rattle.flow_meaning.specs.References.{Scan}
use Rattle.flow_meaning.specs.Step as machine
use Rattle.flow_meaning.specs.Frame.{Frame, look, spot_of}
use Rattle.flow_heap_refinement.specs.Representing.{wait_spot, held_from}
use Rattle.flow_steps.specs.declared.frames.ControlPoint.{ControlPoint}
use Rattle.flow_steps.specs.declared.next.Pace.{Pace}
use Rattle.flow_steps.specs.declared.process.Process.{Process}
use Rattle.flow_steps.specs.Holding.{on_heap}
use Rattle.flow_steps.specs.Points.{noting, noted, noted_stand, place_held, field_path}
use Rattle.flow_steps.specs.Waiting.{callbacks_in, callbacks_of}
use Rattle.flow_steps.specs.Evaluating.{program_time}
use Rattle.flow_steps.specs.Stepping.{OperandStep, kept_by}
use Rattle.flow_operation_refinement.specs.Continuing.{MayBeStale}
use Rattle.flow_operation_refinement.proofs.Stands.{both_mapped}
use Rattle.flow_operation_refinement.proofs.Carrying.{old, seen}
use Rattle.flow_step_refinement.specs.Continuing.{AtOperands, moves, chooses}
use Rattle.flow_step_refinement.specs.Assigning.{AimsAt}
use Rattle.flow_step_refinement.specs.Decoding.{AtInstruction}
use Rattle.flow_step_refinement.specs.Executing.{coded_by, InProgram, Asks, by_effect, by_act, by_start, by_method, by_operand}
use Rattle.flow_step_refinement.proofs.Decodes.{both_there, the_instruction, the_end, the_wait, group_there, aim_there}
use Rattle.flow_step_refinement.proofs.Choices.{choice_begins}
use Rattle.flow_step_refinement.specs.Effects.Asking.{Answered}
use Rattle.flow_step_refinement.specs.Effects.Calling.{AimsAtRef, MayCall}
use Rattle.flow_step_refinement.specs.Effects.Instructed.{Judged, MethodMay}
use Rattle.flow_step_refinement.proofs.Effects.Decoded.{method_coded, path_seen}
use Rattle.flow_step_refinement.proofs.Effects.Instructing.{effect_does, operand_does, call_does, void_does, method_does}
use Rattle.flow_burst_refinement.specs.Requests.Next as law
use Rattle.flow_burst_refinement.specs.Requests.Next.{MayAskNext, MayAffect, MayStartBy, MayCallOn, MayChooseBy}

-- as many operands as callbacks
pub as_many : (n : ℕ) (qs : List Ref) → length (held_from n qs) ≡ length qs
as_many n [] = refl
as_many n (q ∷ qs) = ap suc (as_many (suc n) qs)

-- the text of a wait
wait_text : (c : Coding) (number : ℕ) (text : LastTree) → ChooseEnd number ≡ ended c text → text ≡ ChooseLast number
wait_text c number (ChooseLast g) e = let same : number ≡ g = cc (e) in ap ChooseLast (sym same)
wait_text c number (GotoLast b) e = absurd (cc (e))
wait_text c number (PassLast b) e = absurd (cc (e))
wait_text c number (TestLast t a b) e = absurd (cc (e))
wait_text c number (ReturnLast t) e = absurd (cc (e))
wait_text c number (ThrowLast t) e = absurd (cc (e))

module _ (r : RawTree) (ls : List Line) (m : Process) (p : Proc Frame) (i : ℕ) (e : Entry) (f : Frame) (x : Scan) (s : ControlPoint) (w : Supply) (code : Code) (inp : InProgram r code s f)
    (call : MayCall m p) (time : program_time m.time ≡ pos w.now) (pace : Pace) (n : Process) where
  abbrev by : Coding
  by = coding inp.program.coded.names inp.program.coded.class (length f.code.slots)

  abbrev judged : Judged r code m w f
  judged = record { is = inp.program; time = time; few = inp.few }

  abbrev out : Type 0
  out = Answered r ls x w p i e pace n

  -- what it stands at
  at_instruction : (st : MayBeStale r ls x s m p i e f) (y : Instruction) → slice_get s.block.now.body.items s.instruction ≡ Some y → AtInstruction by f y
  at_instruction st y at = the_instruction r code.classes.items s i f (coded_by inp.program) inp.standing y st.standing st.instruction at

  -- a method aims where its path leads
  aims_at : (st : MayBeStale r ls x s m p i e f) (aim : Aim) (y z : Ident) (ys : List Ident) (es : ExprTrees) → aimed by (y ∷ before_last z ys) ≡ Some (aim_of aim)
      → MayCallOn r code w p i e f y z ys es → AimsAtRef r code m p i f aim (read_in r.records (look f.mem y.name) (before_last z ys))
  aims_at st aim y z ys es aims may = record {
    same = by_aim (aim_there r code.classes.items code f (y ∷ before_last z ys) aim (coded_by inp.program) inp.program.coded.are_numbers may.rooted aims);
    there = may.there;
  }
    where
      by_aim : AimsAt r.records code f (y ∷ before_last z ys) aim
          → field_path (places_in code.fields) aim.path.items (option_map value_of (place_held i aim.place m.heap)) ≡ read_in r.records (look f.mem y.name) (before_last z ys)
      by_aim a =
          let first : a.name ≡ y = let b = a.names in cc (b) in
          let others : a.fields ≡ before_last z ys = let b = a.names in cc (b) in
          path_seen r ls m (seen r ls m p i e f x s st) i e (old r ls m p i e f x s st) x code a.name a.fields aim a.place a.field st.stood a.named a.has a.number a.numbers a.numbering
          ∙ ap (λ (k : Ident). read_in r.records (look f.mem k.name) a.fields) first ∙ ap (read_in r.records (look f.mem y.name)) others

  -- an operand by an effect, where the frame says that it stands at the wait
  by_wait : (at : AtOperands r ls x (noted_stand s) (noted s m) p i e f) (number : ℕ) (group : Group) (b : Branch) (eff : Effect) (args : Vec Resolved Global)
      → group_numbered number s.class.now.groups.items ≡ Some group → slice_get group.branches.items (kept_by (noted_stand s) (noted s m)) ≡ Some b → b.operand ≡ operand.Effect eff args
      → fetch f.code f.block f.instr ≡ Last (ChooseLast number) → MayChooseBy r code w p i e f number
      → OperandStep code (noted_stand s) (group.first + kept_by (noted_stand s) (noted s m)) (operand.Effect eff args) (noted s m) pace n → out
  by_wait at number group b eff args of there is fetched may does =
      let g = group_there r code.classes.items s i f number group (coded_by inp.program) inp.standing of in
      let kept = kept_by (noted_stand s) (noted s m) in
      let many : kept ≡ length e.operands =
      ap (λ (a : ActorId). length (callbacks_of a.0 (noted s m).heap)) at.standing.actor
      ∙ ap (λ o. length (callbacks_in o)) at.stood.acts.framed
      ∙ ap length at.stood.acts.stands.callbacks
      ∙ as_many (wait_spot f).first e.operands in
      let entered : machine.kept_by (thing p.core.entries i) ≡ length e.operands = ap machine.kept_by at.stood.acts.entered in
      let c = both_there branch_of (coded_branch by) b (slice_get g.callbacks kept)
      (sym (ap (option_map branch_of) there) ∙ both_mapped branch_of (coded_branch by) group.branches.items g.callbacks kept g.coded) in
      let callback : callback_at f.code number (length e.operands) ≡ Some c.0 = ap (option_and_then (λ cs. slice_get cs (length e.operands))) g.at ∙ ap (slice_get g.callbacks) (sym many) ∙ c.1.0 in
      let coded : operand_of (operand.Effect eff args) ≡ coded_operand by c.0.operand = ap operand_of (sym is) ∙ ap (λ (y : BranchCode). y.operand) c.1.1 in
      operand_does r ls (noted s m) p i e f x (noted_stand s) w code number (group.first + kept) c.0 eff args pace n
      (record { actor = at.standing.actor; stood = at.stood; asked = call.asked }) at.stood (record { is = inp.program; time = time; few = inp.few }) fetched
      (ap (callback_at f.code number) entered ∙ callback)
      (ap (λ k. k + kept) g.first ∙ ap (λ k. (spot_of f.code number).first + k) (many ∙ sym entered)) coded (may.operand c.0 callback) does

  -- a frame that may be stale
  moves_ask : (st : MayBeStale r ls x s m p i e f) → (s.noted ≡ true → st.stood.acts.memory.state ≡ 0) → MayAskNext r code w p i e f (fetch f.code f.block f.instr) → Asks code s m pace n → out
  moves_ask st zero_state may (by_effect aim eff args at does) =
      let a = at_instruction st (instruction.Effect aim eff args) at in
      effect_does r ls m p i e f x s w code aim eff args a.text pace n st call.asked judged (record { fetched = a.fetched; coded = a.coded })
      (λ path t is. subst (MayAskNext r code w p i e f) (a.fetched ∙ ap Body is) may) does
  moves_ask st zero_state may (by_act called args at does) =
      let a = at_instruction st (instruction.Act (act.World called) args) at in
      call_does r ls m p i e f x s w code called args a.text pace n st call.asked judged (record { fetched = a.fetched; coded = a.coded }) does
  moves_ask st zero_state may (by_start class args at does) =
      let a = at_instruction st (instruction.Act (act.Actor class) args) at in
      void_does r ls m p i e f x s w code class args a.text pace n st call.asked judged (record { fetched = a.fetched; coded = a.coded })
      (λ name es is starts vs left done.
      let on : MayStartBy r code w p i e f name es = subst (MayAskNext r code w p i e f) (a.fetched ∙ ap Body is) may in on class starts vs left done)
      does
  moves_ask st zero_state may (by_method aim called args at no_change does) =
      let a = at_instruction st (instruction.Method aim called args) at in
      let of = method_coded by f.code a.text (aim_of aim) called (nodes_of args.items) a.coded in
      let on : MayCallOn r code w p i e f of.root of.second of.others of.exprs = subst (MayAskNext r code w p i e f) (a.fetched ∙ ap Body of.is) may in
      method_does r ls m p i e f x s w code aim called args a.text pace n st call judged (record { fetched = a.fetched; coded = a.coded }) no_change
      (method_may st aim a.text of.root of.second of.others of.exprs of.is of.aims on) does
    where
      method_may : (st : MayBeStale r ls x s m p i e f) (aim : Aim) (text : InstrTree) (y z : Ident) (ys : List Ident) (es : ExprTrees) → text ≡ ActInstr (y ∷ z ∷ ys) es
          → aimed by (y ∷ before_last z ys) ≡ Some (aim_of aim)
          → MayCallOn r code w p i e f y z ys es → MethodMay r ls m p i e f code w aim text
      method_may st aim text y z ys es is aims on = record {
        aims = λ k l ks fs same.
            let whole : ActInstr (y ∷ z ∷ ys) es ≡ ActInstr (k ∷ l ∷ ks) fs = sym is ∙ same in
            let first : y ≡ k = cc (whole) in
            let second : z ≡ l = cc (whole) in
            let others : ys ≡ ks = cc (whole) in
            subst (λ a. AimsAtRef r code m p i f aim (read_in r.records (look f.mem a.name) (before_last l ks))) first
            (subst (λ a. AimsAtRef r code m p i f aim (read_in r.records (look f.mem y.name) (before_last a ks))) second
            (subst (λ a. AimsAtRef r code m p i f aim (read_in r.records (look f.mem y.name) (before_last z a))) others (aims_at st aim y z ys es aims on)));
        there = λ ks t v left same done.
            let whole : ActInstr (y ∷ z ∷ ys) es ≡ ActInstr ks (MoreExprs t NoExprs) = sym is ∙ same in
            let args : es ≡ MoreExprs t NoExprs = cc (whole) in on.sent t v left args done;
      }
  moves_ask st zero_state may (by_operand number group b eff args at ends of there is does) =
      let here = the_end r code.classes.items s i f (coded_by inp.program) inp.standing st.standing st.instruction at in
      let fetched = here.fetched ∙ ap Last (wait_text by number here.text (sym (ap end_of ends) ∙ here.coded)) in
      let fits : MayChooseBy r code w p i e f number = subst (MayAskNext r code w p i e f) fetched may in
      let wait = the_wait r code.classes.items s i f (coded_by inp.program) inp.standing number st.standing fetched in
      by_wait (choice_begins r ls m p i e f x s number st wait fits.go zero_state) number group b eff args of there is fetched fits does

  -- one that stands at its wait
  no_instruction : (at : AtOperands r ls x s m p i e f) (y : Instruction) → slice_get s.block.now.body.items s.instruction ≡ Some y → ⊥
  no_instruction at y there =
      let a = the_instruction r code.classes.items s i f (coded_by inp.program) inp.standing y at.standing at.instruction there in
      let b = at.wait.fetched in
      let c = a.fetched in cc (b, c)

  at_told : AtOperands r ls x s m p i e f → AtOperands r ls x (noted_stand s) (noted s m) p i e f
  at_told at =
      let same_stand : noted_stand s ≡ s = ap (λ b. record s { noted = b }) (sym at.noted) in
      let same_told : noted s m ≡ m = ap (λ b. on_heap (noting b s.actor.0 s.place s.instruction) m) at.noted in
      subst (λ y. AtOperands r ls x y (noted s m) p i e f) (sym same_stand) (subst (λ y. AtOperands r ls x s y p i e f) (sym same_told) at)

  chooses_ask : AtOperands r ls x s m p i e f → MayAskNext r code w p i e f (fetch f.code f.block f.instr) → Asks code s m pace n → out
  chooses_ask at may (by_effect aim eff args there does) = absurd (no_instruction at (instruction.Effect aim eff args) there)
  chooses_ask at may (by_act called args there does) = absurd (no_instruction at (instruction.Act (act.World called) args) there)
  chooses_ask at may (by_start class args there does) = absurd (no_instruction at (instruction.Act (act.Actor class) args) there)
  chooses_ask at may (by_method aim called args there no_change does) = absurd (no_instruction at (instruction.Method aim called args) there)
  chooses_ask at may (by_operand number group b eff args end ends of there is does) =
      let same : at.group ≡ number = let k = at.wait.last in cc (k, ends) in
      let fetched : fetch f.code f.block f.instr ≡ Last (ChooseLast number) = at.wait.fetched ∙ ap (λ k. Last (ChooseLast k)) same in
      by_wait (at_told at) number group b eff args of there is fetched (subst (MayAskNext r code w p i e f) fetched may) does

pub ask_follows : (r : RawTree) (ls : List Line) (m : Process) (p : Proc Frame) (i : ℕ) (e : Entry) (f : Frame) → law.AskFollows r ls m p i e f
ask_follows r ls m p i e f x s w code pace n (moves st zero_state) inp call time may asks = moves_ask r ls m p i e f x s w code inp call time pace n st zero_state may asks
ask_follows r ls m p i e f x s w code pace n (chooses at) inp call time may asks = chooses_ask r ls m p i e f x s w code inp call time pace n at may asks
