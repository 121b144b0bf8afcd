-- Short names for the terms of worked runs.
use Rattle.std.proofs.Common.{◌≡◌, true≢false, sym}
use Rattle.std.specs.Prelude.{ℕ, true, false, List}
use Rattle.flow_base.specs.declared.place.Place.{Place}
use Rattle.flow_base.specs.declared.ids.ProcId.{ProcId}
use Rattle.flow_base.specs.declared.ids.ActorId.{ActorId}
use Rattle.flow_base.specs.declared.ids.CellId.{CellId}
use Rattle.flow_base.specs.declared.ids.ErrorCode.{ErrorCode}
use Rattle.flow_tree.specs.declared.ty.Ident.{Ident}

abbrev pub nowhere : Place
nowhere = record { line = 1; column = 1; byte = 0 }

abbrev pub id : List ℕ → Ident
id x = record { name = x; at = nowhere }

abbrev pub process : ℕ → ProcId
process n = record { 0 = n }

abbrev pub actor : ℕ → ActorId
actor n = record { 0 = n }

abbrev pub cell : ℕ → CellId
cell n = record { 0 = n }

abbrev pub error : ℕ → ErrorCode
error n = record { 0 = n }

-- no statement stands behind
pub nothing : {A : Type 0} → false ≡ true → A
nothing h = absurd (true≢false (sym h))
