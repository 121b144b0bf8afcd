-- Of classes that are equal but for places the same is shown, and so of programs.
use Rattle.std.proofs.Common.{sym, ap, ◌∙◌, subst}
use Rattle.flow_tree.specs.Decls.{ProgramTree}
use Rattle.flow_tree.specs.Canon.{bare}
use Rattle.flow_class.specs.Classes.{RawTree}
use Rattle.flow_meaning.specs.Class.{classes}
use Rattle.flow_meaning.specs.Frame.{Frame}
use Rattle.flow_meaning.specs.Items.{Actor}
use Rattle.flow_meaning.specs.Law.{Simulates}
use Rattle.flow_meaning.specs.Observations.{WaitAlike}
use Rattle.flow_meaning.specs.Orderly.{Phase}
use Rattle.flow_meaning.specs.Placeless.{placeless_classes}
use Rattle.flow_meaning.specs.Source.{source}
use Rattle.flow_meaning.specs.Views.{actor_spot, frame_spot}
use Rattle.flow_meaning.proofs.BareClass as class
use Rattle.flow_meaning.proofs.BareSource as text
use Rattle.flow_meaning.proofs.Mirrors.{Mirrored, mirrors_simulate}
use Rattle.flow_compile_laws.specs.Frames.Framed.{SourceShown, ClassShown}
use Rattle.flow_compile_laws.proofs.Frames.Alike.{shown_follow, shown_return}
use Rattle.flow_class_places_laws.specs.Shown.{ClassesShownAside, ProgramsShownAside}

module _ (p : ProgramTree) where
  -- the actors of both are the same, places aside
  abbrev Texts : Phase → Actor → Actor → Type 0
  Texts = Mirrored text.placeless_actor

  texts_wait : WaitAlike Texts actor_spot actor_spot
  texts_wait a b h = text.spot_bare a ∙ sym (ap actor_spot h)

  texts_simulate : Simulates (source p) (source (bare p)) Texts
  texts_simulate = mirrors_simulate (source p) (source (bare p)) text.placeless_actor (text.source_mirrors p)

module _ (r : RawTree) where
  -- and so are the frames
  abbrev Frames : Phase → Frame → Frame → Type 0
  Frames = Mirrored class.placeless_frame

  frames_wait : WaitAlike Frames frame_spot frame_spot
  frames_wait a b h = class.spot_bare a ∙ sym (ap frame_spot h)

  frames_simulate : Simulates (classes r) (classes (placeless_classes r)) Frames
  frames_simulate = mirrors_simulate (classes r) (classes (placeless_classes r)) class.placeless_frame (class.classes_mirror r)

pub classes_shown_aside : ClassesShownAside
classes_shown_aside a b f w lines e h =
    let same = shown_follow (classes a) (classes (placeless_classes a)) (Frames a) (frames_simulate a) frame_spot frame_spot (frames_wait a) f w lines h in
    shown_return (classes b) (classes (placeless_classes b)) (Frames b) (frames_simulate b) frame_spot frame_spot (frames_wait b) f w lines
    (subst (λ r. ClassShown f r w lines) e same)

pub programs_shown_aside : ProgramsShownAside
programs_shown_aside p q f w lines e h =
    let same = shown_follow (source p) (source (bare p)) (Texts p) (texts_simulate p) actor_spot actor_spot (texts_wait p) f w lines h in
    shown_return (source q) (source (bare q)) (Texts q) (texts_simulate q) actor_spot actor_spot (texts_wait q) f w lines
    (subst (λ t. SourceShown f t w lines) e same)
