-- What the functions that read types answer.
use Rattle.std.specs.Prelude.{◌≡◌, ℕ, suc, ◌+◌, ◌≤◌, ◌<◌, List, true, drop, length, Result, Ok, Err}
use Rattle.flow_tree.specs.declared.token.Spot.{Spot}
use Rattle.flow_tree.specs.Tree.{TypeTree}
use Rattle.flow_tree.specs.View.{type_of}
use Rattle.flow_exprs.specs.declared.stop.Stop.{Stop}
use Rattle.flow_exprs.specs.declared.stop.Stop.TheVariants.{Short, Deep, NoMemory}
use Rattle.flow_exprs.specs.declared.ty.ReadType.{ReadType}
use Rattle.flow_exprs.specs.TypeMachine.{Around, WantType, HaveType, type_hole, type_height, around_fits, TypeOutcome, TypeShort, TypeDeep, type_run}
use Rattle.flow_tree.specs.declared.limits.TheConstants.{DEPTH}

-- the machine may want a type of this depth here
pub record TypeFit (depth : ℕ) (K : Around) : Type 0 where
  pub depth_is : type_hole K ≡ depth
  pub fits_is : around_fits K ≡ true

-- from one token to another a type is read
pub record ReadsType (spots : List Spot) (from depth : ℕ) (t : TypeTree) (to : ℕ) : Type 0 where
  pub after : from < to
  pub within : to ≤ length spots
  pub fits_in : depth + type_height t ≤ suc DEPTH
  pub comes : (K : Around) → TypeFit depth K → type_run from (WantType K) (drop from spots) ≡ type_run to (HaveType t K) (drop to spots)

abbrev pub TypeEnds : TypeOutcome → Stop → Type 0
TypeEnds o (Short k) = o ≡ TypeShort k
TypeEnds o (Deep k) = o ≡ TypeDeep k
TypeEnds o NoMemory = Unit {0}

abbrev pub RefusesType : List Spot → ℕ → ℕ → Stop → Type 0
RefusesType spots from depth stop = (K : Around) → TypeFit depth K → TypeEnds (type_run from (WantType K) (drop from spots)) stop

abbrev pub TypeAnswer : List Spot → ℕ → ℕ → Result ReadType Stop → Type 0
TypeAnswer spots from depth (Ok r) = ReadsType spots from depth (type_of r.ty) r.to
TypeAnswer spots from depth (Err s) = RefusesType spots from depth s
