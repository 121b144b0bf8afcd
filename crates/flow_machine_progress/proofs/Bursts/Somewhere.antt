-- An actor that stands at an instruction of its class does so in memory.
use Rattle.std.proofs.Common.{◌≡◌, ℕ, List, refl, ap}
use Rattle.std.specs.Prelude.{slice_get}
use Rattle.std.specs.Option.{option_and_then}
use Rattle.std.specs.declared.option.Option.{Option}
use Rattle.std.specs.declared.option.Option.TheVariants.{None, Some}
use Rattle.flow_class.specs.Classes.{CallbackTree, RawTree}
use Rattle.flow_class.specs.Code.{Nothing, fetch, group_at, callback_at}
use Rattle.flow_code.specs.declared.program.Code.{Code}
use Rattle.flow_cancel.specs.Heap.{HeapTree}
use Rattle.flow_meaning.specs.Process.{Entry, Proc}
use Rattle.flow_meaning.specs.Frame.{Frame}
use Rattle.flow_invariants.specs.Unmarked.{AreWhole}
use Rattle.flow_invariants.proofs.Unmarked.Groups.{group_begins}
use Rattle.flow_steps.specs.Stuck.{HasNoPoint}
use Rattle.flow_operation_refinement.specs.Placing.{Acts}
use Rattle.flow_operation_refinement.specs.Seeing.{IsCodeOf}
use Rattle.flow_burst_refinement.proofs.Invariants.Acting.{by_code}
use Rattle.flow_burst_refinement.proofs.Invariants.Homes.{at_home}
use Rattle.flow_machine_progress.specs.Lookups.{HasPoint}
use Rattle.flow_machine_progress.proofs.Lookups.Standing.{stand_found}

module _ (r : RawTree) (whole : AreWhole r) where
  -- where that is a wait, its class has the group
  pub somewhere : (k : ℕ) (f : Frame) → slice_get r.classes k ≡ Some f.code → (fetch f.code f.block f.instr ≡ Nothing → ⊥) → HasPoint f
  somewhere k f at there = record {
    there = there;
    group = λ g e. by_group g (group_at f.code.groups g) refl (group_begins r whole.valid.valid k f.code at (whole.groups k f.code at) f.block f.instr g e);
  }
    where
      by_group : (g : ℕ) (o : Option (List CallbackTree)) → group_at f.code.groups g ≡ o → (callback_at f.code g 0 ≡ None → ⊥) → (cs : List CallbackTree) × (group_at f.code.groups g ≡ Some cs)
      by_group g None is begins = absurd (begins (ap (option_and_then (λ cs. slice_get cs 0)) is))
      by_group g (Some cs) is begins = (cs, is)

  pub stands_there : (code : Code) → IsCodeOf r code → (h : HeapTree) (p : Proc Frame) (i : ℕ) (e : Entry) (f : Frame) → Acts r h p i e f → (fetch f.code f.block f.instr ≡ Nothing → ⊥)
      → HasNoPoint code.classes.items i h → ⊥
  stands_there code coded h p i e f a there =
      stand_found r code.classes.items h p i e f (by_code r code whole.valid coded) (at_home r whole.valid.valid a.memory.class f.code a.stands.code) a (somewhere a.memory.class f a.stands.code there)
