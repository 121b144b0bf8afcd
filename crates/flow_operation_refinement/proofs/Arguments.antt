-- What the arguments of a call in memory come to is what they come to in the frame that it shows.
use Rattle.std.proofs.Common.{◌≡◌, ◌≤◌, ◌^◌, ℕ, pos, ◌+◌, List, length, refl, sym, ap, ◌∙◌, subst}
use Rattle.std.proofs.Math.Path.{fun_ext}
use Rattle.std.specs.declared.option.Option.{Option}
use Rattle.flow_tree.specs.Tree.{ExprTrees, NoExprs, MoreExprs}
use Rattle.flow_value.specs.Values.{ValueTree}
use Rattle.flow_eval.specs.Eval.{Setting, more_args, eval, eval_all}
use Rattle.flow_eval.specs.Functions.{run_function, deepest}
use Rattle.flow_class.specs.Classes.{RawTree}
use Rattle.flow_code.specs.Resolved.Resolving.{Naming, AreRecords, AreFunctions, IsNumbering, SameMeaning, resolved_all}
use Rattle.flow_code.specs.Resolved.Evaluation.{ActorViewTree, values_at}
use Rattle.flow_code.specs.Resolved.View.{places_in}
use Rattle.flow_code.proofs.Resolved.Alike.{resolved_alike}
use Rattle.flow_code.specs.Places.{place_in}
use Rattle.flow_code.specs.declared.program.Code.{Code}
use Rattle.flow_trace.specs.declared.line.Line.{Line}
use Rattle.flow_numbered.specs.Numbered as stored
use Rattle.flow_numbered.specs.Numbered.{thing}
use Rattle.flow_meaning.specs.Cells.{outcome}
use Rattle.flow_meaning.specs.Requests.{Supply}
use Rattle.flow_meaning.specs.Process.{Entry, Proc}
use Rattle.flow_meaning.specs.References.{Scan}
use Rattle.flow_meaning.specs.Evaluating.{setting, values}
use Rattle.flow_meaning.specs.Step.{view}
use Rattle.flow_meaning.specs.Class.{class_names}
use Rattle.flow_meaning.specs.Frame.{Frame, look}
use Rattle.flow_heap_refinement.specs.Representing.{spot_of_actor}
use Rattle.flow_steps.specs.declared.process.Process.{Process}
use Rattle.flow_steps.specs.Seen.{content_in}
use Rattle.flow_steps.specs.Evaluating.{setting_in, sight_in, program_time}
use Rattle.flow_operation_refinement.specs.Placing.{RepresentsActor}
use Rattle.flow_operation_refinement.specs.Seeing.{IsCodeOf}
use Rattle.flow_operation_refinement.proofs.Seen.{seen, content_same}

-- arguments in order, each of which comes to the same
args_same : (n : Naming) (s : ActorViewTree) (look : List ℕ → Option ValueTree) → SameMeaning n s look → (es : ExprTrees) (left : ℕ)
    → values_at s (resolved_all n es) left ≡ eval_all s.setting s.run look es left
args_same n s look same NoExprs left = refl
args_same n s look same (MoreExprs e es) left =
    ap (λ k. more_args k (values_at s (resolved_all n es))) (same.same e left)
    ∙ ap (more_args (eval s.setting s.run look e left)) (fun_ext (args_same n s look same es))

module _ (r : RawTree) (ls : List Line) (x : Scan) (m : Process) (p : Proc Frame) (i : ℕ) (e : Entry) (f : Frame) (code : Code) (s : Supply)
    (st : RepresentsActor r ls x m p i e f) (c : IsCodeOf r code) (time : program_time m.time ≡ pos s.now) where
  -- the setting is that of the class program
  pub same_setting : setting_in code m ≡ setting (class_names r) (view s i p.core)
  same_setting =
      ap (λ (y : RawTree). record { records = y.records; functions = y.functions; cells = content_in m.heap.cells; now = program_time m.time }) c.program
      ∙ ap (λ y. record { records = r.records; functions = r.functions; cells = y; now = program_time m.time })
      (fun_ext (λ k. content_same (stored.thing m.heap.cells.things k) (stored.thing m.heap.streams.things k) (thing p.core.cells k) (spot_of_actor p.actors) (st.shown.holds.shows.cells k)))
      ∙ ap (λ y. record { records = r.records; functions = r.functions; cells = λ k. outcome (thing p.core.cells k); now = y }) time

  module _ (few : length f.code.slots + length f.mem.locals ≤ 2 ^ 32) where
    abbrev names : Naming
    names = record c.coded.names { place = place_in (length f.code.slots) }

    alike : SameMeaning names (sight_in code i m) (look f.mem)
    alike =
        resolved_alike names (sight_in code i m) (look f.mem)
        (subst (λ (y : RawTree). AreRecords y.records names.record_of) (sym c.program) c.coded.are_records)
        (subst (λ (y : RawTree). AreFunctions y.functions names.function) (sym c.program) c.coded.are_functions)
        (subst (λ (y : RawTree). IsNumbering y.records names.field (places_in code.fields)) (sym c.program) c.coded.are_numbers)
        (seen r ls x m p i e f st few)

    pub args_follow : (es : ExprTrees)
        → values_at (sight_in code i m) (resolved_all (record c.coded.names { place = place_in (length f.code.slots) }) es) m.left
        ≡ values (class_names r) (view s i p.core) (look f.mem) es
    args_follow es =
        args_same names (sight_in code i m) (look f.mem) alike es m.left
        ∙ ap (λ (k : Setting). eval_all k (run_function k deepest) (look f.mem) es m.left) same_setting
        ∙ ap (eval_all (setting (class_names r) (view s i p.core)) (run_function (setting (class_names r) (view s i p.core)) deepest) (look f.mem) es) (sym st.shown.left)
