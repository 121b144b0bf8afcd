-- Each frame does what it does, and one that waits is in the state of the wait at which it stands.
use Rattle.std.proofs.Common.{◌≡◌, ◌<◌, inl, refl, ap, subst}
use Rattle.std.specs.declared.option.Option.{Option}
use Rattle.std.specs.declared.option.Option.TheVariants.{None, Some}
use Rattle.flow_class.specs.Classes.{RawTree}
use Rattle.flow_meaning.specs.Requests.{Act, Waits}
use Rattle.flow_meaning.specs.Process.{View}
use Rattle.flow_meaning.specs.Evaluating.{StepOf}
use Rattle.flow_meaning.specs.Orderly.{Phase, Free, Risky, Due, Waiting}
use Rattle.flow_meaning.specs.Law.{BothOrNone, MatchesAsk, Simulates, still, phase_after}
use Rattle.flow_meaning.specs.Frame.{Frame, lose, raise}
use Rattle.flow_meaning.specs.Class.{classes, class_names}
use Rattle.flow_meaning.specs.Views.{frame_spot}
use Rattle.flow_heap_refinement.specs.Representing.{wait_spot}
use Rattle.flow_world_refinement.proofs.Views.Steps.{Waited, Well, step_well}

abbrev pub Itself : Phase → Frame → Frame → Type 0
Itself Free f g = f ≡ g
Itself Risky f g = f ≡ g
Itself Due f g = f ≡ g
Itself Waiting f g = (f ≡ g) × (frame_spot f ≡ wait_spot f)

both_same : (o : Option Frame) → BothOrNone (Itself Free) o o
both_same None = tt
both_same (Some f) = refl

asked : (act : Act) (g : Frame) → Waited act g → Itself (phase_after act) g g
asked (Waits spot vs) g w = (refl, w)
asked act g w = refl

module _ (r : RawTree) where
  own : (v : View) (f : Frame) (s : StepOf Frame) → (classes r).next v f ≡ s → Well s → MatchesAsk Itself (classes r) v (0 < 0) s.0 s.1 f
  own v f (None, g) e w = (g, inl (g, e, still), refl)
  own v f (Some ask, g) e w = (f, g, still, e, asked ask.act g w)

  answers : (v : View) (f g : Frame) → f ≡ g → MatchesAsk Itself (classes r) v (0 < 0) ((classes r).next v f).0 ((classes r).next v f).1 g
  answers v f g h =
      subst (λ z. MatchesAsk Itself (classes r) v (0 < 0) ((classes r).next v f).0 ((classes r).next v f).1 z) h
      (own v f ((classes r).next v f) refl (step_well (class_names r) v f))

  pub itself : Simulates (classes r) (classes r) Itself
  itself = record {
    main = refl;
    label = λ k. refl;
    fresh = λ k vs. both_same ((classes r).fresh k vs);
    waits = λ f g h. h.0;
    dues = λ f g h. h;
    risks = λ f g h. h;
    weight = λ f. 0;
    next = answers;
    lose = λ f g h. (ap (λ z. (lose z).0) h, ap (λ z. (lose z).1) h);
    store = λ u f g h. (ap (λ z. ((classes r).store u z).0) h, ap (λ z. ((classes r).store u z).1) h);
    take = λ n u f g h. (ap (λ z. ((classes r).take n u z).0) h, ap (λ z. ((classes r).take n u z).1) h);
    raise = λ e f g h. (ap (λ z. (raise e z).0) h, ap (λ z. (raise e z).1) h);
    occ = λ s k f g h. ap (λ z. (classes r).occ s k z) h;
  }
