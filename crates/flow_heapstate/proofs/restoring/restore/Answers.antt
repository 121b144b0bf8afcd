use Rattle.std.proofs.Common.{◌≡◌, Ok, Err, Result, IfOk, sym, subst}
use Rattle.flow_cancel.specs.Heap.{HeapTree}
use Rattle.flow_heapstate.specs.Restoring.{restored}
use Rattle.flow_heapstate.specs.Sound.{SoundHeap, RestsWith}
use Rattle.flow_heapstate.specs.State.{parts_kept}
use Rattle.flow_heapstate.specs.declared.state.HeapState.{HeapState}
use Rattle.flow_heapstate.proofs.Restored.{in_order}
use Rattle.flow_heapstate.proofs.Whole.{is_restored}
use Rattle.flow_heapstate.proofs.restoring.restore.Goals as goal

pub filled-requires : goal.filled-requires
filled-requires c = in_order c.args.state c.requires

if_filled : {E : Type 0} (s : HeapState) (r : Result HeapTree E) → SoundHeap (parts_kept s) → IfOk r (λ h. h ≡ restored s) → IfOk r (λ h. RestsWith (parts_kept s) h)
if_filled s (Ok h) sound is = subst (RestsWith (parts_kept s)) (sym is) (is_restored s sound)
if_filled s (Err e) sound is = is

pub returns-clause-rests : goal.returns-clause-rests
returns-clause-rests c = if_filled c.args.state c.filled.result c.requires c.filled.ensures
