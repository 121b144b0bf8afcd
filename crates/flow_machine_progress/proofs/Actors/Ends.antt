-- A step by the end of a block doesn't go astray.
use Rattle.std.proofs.Common.{◌≡◌, ◌<◌, inl, inr, ℕ, zero, suc, Bool, true, false, List, [], ◌∷◌, length, refl, sym, ap, ◌∙◌, subst, arith}
use Rattle.std.specs.Prelude.{slice_get}
use Rattle.std.specs.Option.{option_map}
use Rattle.std.specs.declared.option.Option.{Option}
use Rattle.std.specs.declared.option.Option.TheVariants.{None, Some}
use Rattle.flow_tree.specs.Tree.{ExprTree, returned_expr}
use Rattle.flow_value.specs.declared.value.Value.{Value}
use Rattle.flow_value.specs.Values.{ValueTree, IntValue, BoolValue, TextValue, VoidValue, ErrorValue, CompositeValue, RefValue}
use Rattle.flow_value.specs.View.{value_of}
use Rattle.flow_eval.specs.Answers.{bool_of, error_of}
use Rattle.flow_eval.specs.Eval.{Res, Done, Fails, Spent, Meaningless, truth_of}
use Rattle.flow_code.specs.declared.expr.expr.Resolved.{Resolved}
use Rattle.flow_code.specs.Resolved.View.{node_of}
use Rattle.flow_code.specs.Resolved.Resolving.{resolved}
use Rattle.flow_class.specs.Classes.{InstrTree, LastTree, GotoLast, PassLast, TestLast, ReturnLast, ThrowLast, BlockTree, RawTree}
use Rattle.flow_class.specs.Code.{Last, Nothing, fetch_in, fetch_at, fetch}
use Rattle.flow_code.specs.declared.class.Last as code_last
use Rattle.flow_code.specs.declared.class.Last.TheVariants as last
use Rattle.flow_code.specs.declared.program.Code.{Code}
use Rattle.flow_code.specs.Classes.{BlockCode, ClassCode}
use Rattle.flow_code.specs.View.{block_of, end_of}
use Rattle.flow_code.specs.Coded.{coding}
use Rattle.flow_code.specs.Coding.{Coding, coded_block}
use Rattle.flow_trace.specs.declared.line.Line.{Line}
use Rattle.flow_meaning.specs.Requests.{Returns, Supply}
use Rattle.flow_meaning.specs.Evaluating.{StepOf, asks, evaluated, value}
use Rattle.flow_meaning.specs.Process.{Entry, Proc}
use Rattle.flow_meaning.specs.References.{Scan}
use Rattle.flow_meaning.specs.Step.{view}
use Rattle.flow_meaning.specs.Class.{test, throw_value, class_names}
use Rattle.flow_meaning.specs.Class as meaning
use Rattle.flow_meaning.specs.Frame.{Frame, look, everything, over}
use Rattle.flow_progress.specs.Places.{class_vars}
use Rattle.flow_progress.specs.Rules.{IsBlock, LastFits}
use Rattle.flow_progress.specs.Written.{heads}
use Rattle.flow_steps.specs.declared.frames.ControlPoint.{ControlPoint}
use Rattle.flow_steps.specs.declared.process.Process.{Process}
use Rattle.flow_steps.specs.Holding.{value_refs}
use Rattle.flow_steps.specs.Evaluating.{with_left}
use Rattle.flow_steps.specs.Stepping.{value_for, truth_for, truth_value}
use Rattle.flow_steps.specs.Stuck.{BlockMissing}
use Rattle.flow_steps.specs.StuckSteps.{TestStuck, ReturnStuck, ErrorStuck, ThrowStuck, LastStuck}
use Rattle.flow_operation_refinement.specs.Continuing.{MayBeStale}
use Rattle.flow_operation_refinement.specs.Taking.{PointMatches}
use Rattle.flow_operation_refinement.specs.Coded.{CodedBy}
use Rattle.flow_operation_refinement.proofs.Stands.{as_many, both_mapped}
use Rattle.flow_step_refinement.specs.Decoding.{InCode}
use Rattle.flow_step_refinement.specs.Executing.{coded_by}
use Rattle.flow_step_refinement.specs.Continuing.{moves, chooses, MayStep}
use Rattle.flow_step_refinement.proofs.Decodes.{both_there, the_end}
use Rattle.flow_burst_refinement.specs.Enabled.Allowing.{Running}
use Rattle.flow_burst_refinement.proofs.Enabled.Steps.{gives_there}
use Rattle.flow_machine_progress.specs.Actors.{AtStep, EndMeant}
use Rattle.flow_machine_progress.proofs.Actors.Here.{Fit, own_rules, evaluation_there, fits_at, has_meaning, fits_onward}
use Rattle.flow_machine_progress.proofs.Actors.Froms.{EndOf, end_from}
use Rattle.flow_machine_progress.proofs.Actors.Choices.{choice_meant}
use Rattle.flow_machine_progress.proofs.Actors.Assigns.{coding_now, framed, refers, value_is_that}

-- behind the end of a block nothing stands
nothing_behind : (is : List InstrTree) (k : LastTree) (n : ℕ) → length is < n → fetch_in is k n ≡ Nothing
nothing_behind [] k zero lt = absurd (omega (arith, lt))
nothing_behind [] k (suc n) lt = refl
nothing_behind (i ∷ is) k zero lt = absurd (omega (arith, lt))
nothing_behind (i ∷ is) k (suc n) lt = nothing_behind is k n (omega (arith, lt))

-- the block in which an actor stands, and any other, is one of its frame's class
module _ (r : RawTree) (code : Code) (s : ControlPoint) (i : ℕ) (f : Frame) (c : CodedBy r code.classes.items) (at : InCode c s f) where
  abbrev now_coding : Coding
  now_coding = coding c.names c.class (length f.code.slots)

  same_blocks : (b : ℕ) → option_map block_of (slice_get s.class.now.blocks.items b) ≡ option_map (coded_block now_coding f.code) (slice_get f.code.blocks b)
  same_blocks b = both_mapped block_of (coded_block now_coding f.code) s.class.now.blocks.items f.code.blocks b (ap (λ (k : ClassCode). k.blocks) at.class)

  pub block_there : (b : ℕ) → IsBlock r (heads r) f.code (class_vars f.code) b → BlockMissing s.class.now b → ⊥
  block_there b is none = by_block (slice_get f.code.blocks b) refl
    where
      by_block : (o : Option BlockTree) → slice_get f.code.blocks b ≡ o → ⊥
      by_block None gone = is (ap (λ o. fetch_at o 0) gone)
      by_block (Some d) some =
          let both = sym (ap (option_map block_of) none) ∙ same_blocks b ∙ ap (option_map (coded_block now_coding f.code)) some in cc (both)

  pub not_behind : PointMatches s i f → s.instruction ≡ f.instr → (fetch f.code f.block f.instr ≡ Nothing → ⊥) → length s.block.now.body.items < s.instruction → ⊥
  not_behind standing number there behind =
      let here : Some (block_of s.block.now) ≡ option_map (coded_block now_coding f.code) (slice_get f.code.blocks f.block) =
      ap (option_map block_of) (sym at.block) ∙ same_blocks s.place ∙ ap (λ b. option_map (coded_block now_coding f.code) (slice_get f.code.blocks b)) standing.place in
      let block = both_there block_of (coded_block now_coding f.code) s.block.now (slice_get f.code.blocks f.block) here in
      let long : length s.block.now.body.items ≡ length block.0.body =
      sym (as_many _ s.block.now.body.items) ∙ ap (λ (k : BlockCode). length k.body) block.1.1 ∙ as_many _ block.0.body in
      there (ap (λ o. fetch_at o f.instr) block.1.0 ∙ nothing_behind block.0.body block.0.last f.instr (omega (arith, long, number, behind)))

-- a test has a truth value, and what is thrown is an error
module _ (r : RawTree) (w : Supply) (p : Proc Frame) (i : ℕ) (e : Entry) (f : Frame) (run : Running r p i e f) where
  abbrev tests : (one other : ℕ) → ValueTree → ℕ → StepOf Frame
  tests one other u left = test (class_names r) (view w i p.core) f left (bool_of u) one other

  has_truth : (one other : ℕ) (c : Res ValueTree) → Fit r w p i e f run (evaluated f c (tests one other)) → truth_of c ≡ Meaningless → ⊥
  has_truth one other (Done (BoolValue b) left) fit none = cc (none)
  has_truth one other (Done (IntValue n) left) fit none = fit.0
  has_truth one other (Done (TextValue t) left) fit none = fit.0
  has_truth one other (Done VoidValue left) fit none = fit.0
  has_truth one other (Done (ErrorValue n) left) fit none = fit.0
  has_truth one other (Done (CompositeValue n vs) left) fit none = fit.0
  has_truth one other (Done (RefValue kd k) left) fit none = fit.0
  has_truth one other (Fails err left) fit none = cc (none)
  has_truth one other Spent fit none = cc (none)
  has_truth one other Meaningless fit none = fit.0

  abbrev throws : ValueTree → ℕ → StepOf Frame
  throws u left = throw_value (class_names r) (view w i p.core) f left (error_of u)

module _ (r : RawTree) (code : Code) (w : Supply) (ls : List Line) (x : Scan) (s : ControlPoint) (m : Process) (p : Proc Frame) (i : ℕ) (e : Entry) (f : Frame)
    (now : AtStep r code w ls x s m p i e f) (st : MayBeStale r ls x s m p i e f) where
  abbrev run : Running r p i e f
  run = now.running

  block_of_class : (b : ℕ) → IsBlock r (heads r) f.code (class_vars f.code) b → BlockMissing s.class.now b → ⊥
  block_of_class = block_there r code s i f (coded_by now.standing.program) now.standing.standing

  fits : (text : LastTree) → fetch f.code f.block f.instr ≡ Last text → LastFits r (heads r) f.code (class_vars f.code) text
  fits text there = (own_rules r w p i e f run).lasts f.block f.instr text there

  asked : (text : LastTree) → fetch f.code f.block f.instr ≡ Last text → Fit r w p i e f run (meaning.last (class_names r) (view w i p.core) f text)
  asked text there = fits_at r w p i e f run (Last text) there

  module _ (t : ExprTree) (res : Resolved) (node : node_of res ≡ resolved (coding_now r code w ls x s m p i e f now st).names t) where
    abbrev comes_to : Res ValueTree
    comes_to = value (class_names r) (view w i p.core) (look f.mem) t

    is : value_for code s.actor.0 res m ≡ comes_to
    is = value_is_that r code w ls x s m p i e f now st t res node

    pub test_meant : (one other : ℕ) → fetch f.code f.block f.instr ≡ Last (TestLast t one other) → LastStuck code s (last.Test res one other) m → ⊥
    test_meant one other there =
        evaluation_there s truth_value (truth_for code s.actor.0 res m) m (TestStuck s one other)
        (λ none. has_truth r w p i e f run one other comes_to (asked (TestLast t one other) there) (ap truth_of (sym is) ∙ none))
        (framed r code w ls x s m p i e f now st) chosen
      where
        chosen : (b : Bool) (left : ℕ) → truth_for code s.actor.0 res m ≡ Done (truth_value b) left → TestStuck s one other b (with_left left m) → ⊥
        chosen true left done none = block_of_class one (fits (TestLast t one other) there).1 none
        chosen false left done none = block_of_class other (fits (TestLast t one other) there).2 none

    pub return_meant : (o : Option ExprTree) → returned_expr o ≡ t → fetch f.code f.block f.instr ≡ Last (ReturnLast o) → LastStuck code s (last.Return res) m → ⊥
    return_meant o given there =
        evaluation_there s value_of (value_for code s.actor.0 res m) m (ReturnStuck s)
        (λ none. has_meaning r w p i e f run comes_to (λ u left. asks left (Returns u (everything f.mem)) over)
        (subst (λ z. Fit r w p i e f run (evaluated f (value (class_names r) (view w i p.core) (look f.mem) z) (λ u left. asks left (Returns u (everything f.mem)) over))) given
        (asked (ReturnLast o) there)) (sym is ∙ none))
        (framed r code w ls x s m p i e f now st) returned
      where
        returned : (v : Value) (left : ℕ) → value_for code s.actor.0 res m ≡ Done (value_of v) left → ReturnStuck s v (with_left left m) → ⊥
        returned v left done (inl missing) = refers r code w ls x s m p i e f now st (value_refs v) (gives_there r w p i e f run t (value_of v) left (sym is ∙ done)) missing
        returned v left done (inr none) = framed r code w ls x s m p i e f now st none

    an_error : (u : ValueTree) (left : ℕ) → Fit r w p i e f run (throws r w p i e f run u left) → ErrorStuck s u m.heap → ⊥
    an_error (ErrorValue n) left fit none = framed r code w ls x s m p i e f now st none
    an_error (IntValue n) left fit stuck = fit.0
    an_error (BoolValue b) left fit stuck = fit.0
    an_error (TextValue t) left fit stuck = fit.0
    an_error VoidValue left fit stuck = fit.0
    an_error (CompositeValue n vs) left fit stuck = fit.0
    an_error (RefValue kd k) left fit stuck = fit.0

    pub throw_meant : fetch f.code f.block f.instr ≡ Last (ThrowLast t) → LastStuck code s (last.Throw res) m → ⊥
    throw_meant there =
        evaluation_there s value_of (value_for code s.actor.0 res m) m (ThrowStuck s)
        (λ none. has_meaning r w p i e f run comes_to (throws r w p i e f run) (asked (ThrowLast t) there) (sym is ∙ none)) (framed r code w ls x s m p i e f now st) thrown
      where
        thrown : (v : Value) (left : ℕ) → value_for code s.actor.0 res m ≡ Done (value_of v) left → ThrowStuck s v (with_left left m) → ⊥
        thrown v left done stuck =
            an_error (value_of v) left
            (fits_onward r w p i e f run comes_to (throws r w p i e f run) (value_of v) left (asked (ThrowLast t) there) (sym is ∙ done)) stuck

  -- by what stands at the end
  pub end_there : ((g : ℕ) → s.block.now.last ≡ last.Choose g → LastStuck code s (last.Choose g) m → ⊥) → (l : code_last.Last) → s.block.now.last ≡ l → (text : LastTree)
      → fetch f.code f.block f.instr ≡ Last text
      → EndOf (coding_now r code w ls x s m p i e f now st) text (end_of l) → LastStuck code s l m → ⊥
  end_there choices (last.Goto b) same text there of stuck = block_of_class b (fits (GotoLast b) (there ∙ ap Last of)) stuck
  end_there choices (last.Pass b) same text there of (inl stuck) = block_of_class b (fits (PassLast b) (there ∙ ap Last of)) stuck
  end_there choices (last.Pass b) same text there of (inr none) = framed r code w ls x s m p i e f now st none
  end_there choices (last.Test res one other) same text there of stuck = test_meant of.0 res of.2 one other (there ∙ ap Last of.1) stuck
  end_there choices (last.Choose g) same text there of stuck = choices g same stuck
  end_there choices (last.Return res) same text there of stuck = return_meant (returned_expr of.0) res of.2 of.0 refl (there ∙ ap Last of.1) stuck
  end_there choices (last.Throw res) same text there of stuck = throw_meant of.0 res of.2 (there ∙ ap Last of.1) stuck

pub end_meant : (r : RawTree) (code : Code) (w : Supply) (ls : List Line) (x : Scan) (s : ControlPoint) (m : Process) (p : Proc Frame) (i : ℕ) (e : Entry) (f : Frame)
    → EndMeant r code w ls x s m p i e f
end_meant r code w ls x s m p i e f now ends stuck = by_step now.may
  where
    by_step : MayStep r ls x s m p i e f → ⊥
    by_step (moves st zero_state) =
        let a = the_end r code.classes.items s i f (coded_by now.standing.program) now.standing.standing st.standing st.instruction ends in
        let c = coding_now r code w ls x s m p i e f now st in
        end_there r code w ls x s m p i e f now st (λ g same is. choice_meant r code w ls x s m p i e f g now ends same is) s.block.now.last refl a.text a.fetched
        (subst (EndOf c a.text) (sym a.coded) (end_from c a.text)) stuck
    by_step (chooses wait) = choice_meant r code w ls x s m p i e f wait.group now ends wait.wait.last (subst (λ l. LastStuck code s l m) wait.wait.last stuck)
