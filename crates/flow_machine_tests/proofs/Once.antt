-- One port at most stands once; and what fits one by one fits.
use Rattle.std.proofs.Common.{◌<◌, ℕ, List, [], ◌∷◌, length, arith}
use Rattle.std.specs.List.{All, AllByRecursion}
use Rattle.std.proofs.lemmas.List.Elements.{All-from_recursion}
use Rattle.flow_base.specs.declared.ids.CellId.{CellId}
use Rattle.flow_simdisk.specs.declared.write.Write.{Write}
use Rattle.flow_simdisk.specs.Stored.{FitsFile}
use Rattle.flow_saved.specs.CanResume.{PortsOnce}

pub few_once : (xs : List (ℕ × CellId)) → length xs < 2 → PortsOnce xs
few_once [] lt = tt
few_once (x ∷ []) lt = (tt, tt)
few_once (x ∷ y ∷ xs) lt = absurd (omega (arith, lt))

pub all_fit : (ws : List Write) → AllByRecursion FitsFile ws → All FitsFile ws
all_fit ws h = All-from_recursion FitsFile ws h
