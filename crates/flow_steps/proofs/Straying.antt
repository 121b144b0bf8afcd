-- Where an actor's frame stands nowhere.
use Rattle.std.proofs.Common.{◌≡◌, ℕ, List, refl, sym, subst}
use Rattle.std.specs.Option.{option_map}
use Rattle.std.specs.declared.option.Option.{Option}
use Rattle.std.specs.declared.option.Option.TheVariants.{None, Some}
use Rattle.flow_value.specs.declared.value.Value.{Value}
use Rattle.flow_numbered.specs.Numbered.{thing}
use Rattle.flow_code.specs.declared.class.Class.{Class}
use Rattle.flow_frame.specs.declared.standing.Standing.{Standing}
use Rattle.flow_frame.specs.Frames.{FrameTree, standing_of}
use Rattle.flow_cancel.specs.Heap.{HeapTree}
use Rattle.flow_steps.specs.Stuck.{Nowhere, HasNoPoint, frame}

pub stands_nowhere : (classes : List Class) (i : ℕ) (h : HeapTree) (at : Standing) → option_map standing_of (thing h.frames.things i) ≡ Some at → Nowhere classes at
    → HasNoPoint classes i h
stands_nowhere classes i h at e n = by (thing h.frames.things i) refl e
  where
    by : (o : Option (FrameTree Value)) → thing h.frames.things i ≡ o → option_map standing_of o ≡ Some at → HasNoPoint classes i h
    by None there e = absurd (cc (e))
    by (Some f) there e = let same : standing_of f ≡ at = cc (e) in frame f there (subst (Nowhere classes) (sym same) n)
