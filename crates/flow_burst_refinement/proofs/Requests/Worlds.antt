-- What is asked of the world is asked in the class machine.
use Rattle.std.proofs.Common.{◌≡◌, ℕ, List, sym, subst}
use Rattle.flow_class.specs.Classes.{RawTree}
use Rattle.flow_code.specs.declared.program.Code.{Code}
use Rattle.flow_trace.specs.declared.line.Line.{Line}
use Rattle.flow_numbered.specs.Numbered.{Numbered, put}
use Rattle.flow_meaning.specs.Burst.{Host}
use Rattle.flow_meaning.specs.React.{react}
use Rattle.flow_meaning.specs.Step.{Stepped, reacted}
use Rattle.flow_meaning.specs.Frame.{Frame}
use Rattle.flow_heap_refinement.specs.Counted.{nothing_in_hand}
use Rattle.flow_steps.specs.Doing.{unasked}
use Rattle.flow_machine.specs.Serving.{ServedIf}
use Rattle.flow_step_refinement.specs.Services.{Done}
use Rattle.flow_step_refinement.specs.Effects.Asking.{resumed}
use Rattle.flow_step_refinement.proofs.Effects.Served.{ask_served}
use Rattle.flow_burst_refinement.specs.Requests.Next as law

module _ {A W : Type 0} (serves : Host W) (shows : A → Numbered ℕ → W → Type 0) (wrote : A → List Line → A → Type 0) (code : Code) (processes : ℕ) (r : RawTree) where
  pub world_asked : law.WorldAsked serves shows wrote code processes r
  world_asked ls n a p i w ask numbers time few world =
      let out : Stepped Frame = reacted (put p.actors i ask.frame) (react (serves.supply w) i ask.act (resumed i ask.frame ask.left p).core) in
      record {
        called = ask.called;
        asked = ask.asked;
        after = out;
        steps = ask.steps;
        asking = resumed i ask.frame ask.left p;
        shown = ask.shown;
        numbers = record { ports = numbers.ports; cells = numbers.cells; requests = numbers.requests };
        done = λ k b served.
            let s = ask_served serves shows wrote r nothing_in_hand ls n k a b p i w processes ask numbers time few world
            (subst (λ o. ServedIf serves shows wrote processes o (unasked n) a k b) (sym ask.asked) served) in
            let same : s.after ≡ out = let x = s.steps in let y = ask.steps in cc (x, y) in
            subst (λ z. Done serves shows wrote r nothing_in_hand ls k a b z w) same s.done;
      }
