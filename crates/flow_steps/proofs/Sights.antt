-- What an actor sees while it evaluates is what the heap holds.
use Rattle.std.proofs.Common.{◌≡◌, ℕ, ◌<◌, ◌≤◌, Bool, true, false, List, length, get_or, refl, ap, sym, ◌∙◌, if◌then◌else◌, ltb, arith, subst, Result}
use Rattle.std.proofs.Math.Path.{fun_ext}
use Rattle.std.proofs.lemmas.Bool.Decides.{nat_tests}
use Rattle.std.proofs.lemmas.List.{get_or_past}
use Rattle.std.specs.Option.{option_map}
use Rattle.std.specs.declared.option.Option.{Option}
use Rattle.std.specs.declared.option.Option.TheVariants.{None, Some}
use Rattle.std.specs.declared.vec.Vec.{Vec}
use Rattle.std.specs.declared.alloc.Global.{Global}
use Rattle.flow_tree.specs.declared.limits.TheConstants.{CALL_DEPTH}
use Rattle.flow_value.specs.declared.value.Value.{Value}
use Rattle.flow_value.specs.Values.{ValueTree, OutcomeTree}
use Rattle.flow_value.specs.View.{value_of}
use Rattle.flow_eval.specs.Eval.{Setting, truth_of}
use Rattle.flow_eval.specs.Functions.{run_function}
use Rattle.flow_eval.specs.View.{Gives, GivesAll, setting_of}
use Rattle.flow_eval.specs.declared.stop.Halt.{Halt}
use Rattle.flow_code.specs.declared.expr.evaluate.ActorView as code
use Rattle.flow_code.specs.Resolved.Tree.{Node, Nodes}
use Rattle.flow_code.specs.Resolved.Evaluation.{ActorViewTree, value_at, values_at}
use Rattle.flow_code.specs.Resolved.View.{places_in, held_in, actor_view_of}
use Rattle.flow_code.specs.Resolved.Truth.{GivesTruth}
use Rattle.flow_code.specs.declared.program.Code.{Code}
use Rattle.flow_numbered.specs.Numbered.{thing}
use Rattle.flow_frame.specs.Frames as frames
use Rattle.flow_frame.specs.Frames.{FrameTree, IsFilled}
use Rattle.flow_frame.proofs.Padded.{at_padded}
use Rattle.flow_steps.specs.declared.process.Process.{Process}
use Rattle.flow_steps.specs.Evaluating.{setting_in, sight_in}

-- the places that a frame holds, with those behind the last one that holds something left out
at_place : (all xs : List (Option Value)) (n : ℕ) → frames.padded (length all) xs ≡ all → length xs ≤ length all
    → get_or xs n None ≡ (if ltb n (length all) then get_or all n None else None)
at_place all xs n e le = by (ltb n (length all)) refl
  where
    by : (b : Bool) → ltb n (length all) ≡ b → get_or xs n None ≡ (if b then get_or all n None else None)
    by true is = let lt : n < length all = grind (arith, nat_tests, is) in sym (at_padded (length all) xs n lt) ∙ ap (λ l. get_or l n None) e
    by false is = let behind : length all ≤ n = grind (arith, nat_tests, is) in let past : length xs ≤ n = omega (arith, behind) in get_or_past xs n None past

pub held_same : (f : Option (FrameTree Value)) (xs : List (Option Value)) (n : ℕ) → IsFilled f xs → get_or xs n None ≡ frames.held_in n f
held_same None xs n e = ap (λ l. get_or l n None) e
held_same (Some f) xs n e = at_place f.places xs n e.0 e.1

-- with the setting known, and the places of its frame
pub same_sight : {C : Type 0} (content : C → ℕ → Option OutcomeTree) (sight : code.ActorView C) (program : Code) (i : ℕ) (p : Process)
    → setting_of content sight.setting ≡ setting_in program p → sight.fields.now ≡ program.fields → IsFilled (thing p.heap.frames.things i) sight.places.now
    → actor_view_of content sight ≡ sight_in program i p
same_sight content sight program i p e names filled =
    ap (λ (s : Setting). record { setting = s; run = run_function s CALL_DEPTH; places = places_in sight.fields.now; held = held_in sight.places.now }) e
    ∙ ap (λ n. record (sight_in program i p) { places = places_in n; held = held_in sight.places.now }) names
    ∙ ap (λ (held : ℕ → Option ValueTree). record (sight_in program i p) { held = held })
    (fun_ext (λ n. ap (option_map value_of) (held_same (thing p.heap.frames.things i) sight.places.now n filled)))

-- what one sees so comes to the same
pub value_seen : (s t : ActorViewTree) (e : Node) (left more : ℕ) (r : Result Value Halt) → s ≡ t → Gives (value_at s e left) r more → Gives (value_at t e left) r more
value_seen s t e left more r is g = subst (λ x. Gives (value_at x e left) r more) is g

pub truth_seen : (s t : ActorViewTree) (e : Node) (left more : ℕ) (r : Result Bool Halt) → s ≡ t → GivesTruth (truth_of (value_at s e left)) r more → GivesTruth (truth_of (value_at t e left)) r more
truth_seen s t e left more r is g = subst (λ x. GivesTruth (truth_of (value_at x e left)) r more) is g

pub values_seen : (s t : ActorViewTree) (es : Nodes) (left more : ℕ) (r : Result (Vec Value Global) Halt) → s ≡ t → GivesAll (values_at s es left) r more → GivesAll (values_at t es left) r more
values_seen s t es left more r is g = subst (λ x. GivesAll (values_at x es left) r more) is g
