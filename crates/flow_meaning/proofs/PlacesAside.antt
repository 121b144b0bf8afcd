-- Of programs, and of classes, that are equal but for places the same is seen in every world.
use Rattle.std.proofs.Common.{sym, ap, ◌∙◌, subst}
use Rattle.flow_tree.specs.Decls.{ProgramTree}
use Rattle.flow_tree.specs.Canon.{bare}
use Rattle.flow_class.specs.Classes.{RawTree}
use Rattle.flow_meaning.specs.Source.{source}
use Rattle.flow_meaning.specs.Class.{classes}
use Rattle.flow_meaning.specs.Views.{actor_spot, frame_spot}
use Rattle.flow_meaning.specs.Placeless.{placeless_classes, ProgramsAlike, ClassesAlike}
use Rattle.flow_meaning.specs.Observations.{SourceSeen, ClassSeen, WaitAlike}
use Rattle.flow_meaning.specs.Orderly.{Phase}
use Rattle.flow_meaning.specs.Law.{Simulates}
use Rattle.flow_meaning.specs.Items.{Actor}
use Rattle.flow_meaning.specs.Frame.{Frame}
use Rattle.flow_meaning.proofs.Mirrors.{Mirrored, mirrors_simulate}
use Rattle.flow_meaning.proofs.BareSource as text
use Rattle.flow_meaning.proofs.BareClass as class
use Rattle.flow_meaning.proofs.Sights.{sights_follow, sights_return}

module _ (p : ProgramTree) where
  -- the actors of both are the same, places aside
  abbrev Texts : Phase → Actor → Actor → Type 0
  Texts = Mirrored text.placeless_actor

  texts_wait : WaitAlike Texts actor_spot actor_spot
  texts_wait a b r = text.spot_bare a ∙ sym (ap actor_spot r)

  texts_simulate : Simulates (source p) (source (bare p)) Texts
  texts_simulate = mirrors_simulate (source p) (source (bare p)) text.placeless_actor (text.source_mirrors p)

module _ (r : RawTree) where
  abbrev Frames : Phase → Frame → Frame → Type 0
  Frames = Mirrored class.placeless_frame

  frames_wait : WaitAlike Frames frame_spot frame_spot
  frames_wait a b h = class.spot_bare a ∙ sym (ap frame_spot h)

  frames_simulate : Simulates (classes r) (classes (placeless_classes r)) Frames
  frames_simulate = mirrors_simulate (classes r) (classes (placeless_classes r)) class.placeless_frame (class.classes_mirror r)

pub source_aside : ProgramsAlike
source_aside p q w lines sights e s =
    let same = sights_follow (source p) (source (bare p)) (Texts p) (texts_simulate p) actor_spot actor_spot (texts_wait p) w lines sights s in
    sights_return (source q) (source (bare q)) (Texts q) (texts_simulate q) actor_spot actor_spot (texts_wait q) w lines sights
    (subst (λ z. SourceSeen z w lines sights) e same)

pub class_aside : ClassesAlike
class_aside r s w lines sights e h =
    let same = sights_follow (classes r) (classes (placeless_classes r)) (Frames r) (frames_simulate r) frame_spot frame_spot (frames_wait r) w lines sights h in
    sights_return (classes s) (classes (placeless_classes s)) (Frames s) (frames_simulate s) frame_spot frame_spot (frames_wait s) w lines sights
    (subst (λ z. ClassSeen z w lines sights) e same)
