-- The sizes of the code, seen as plain data.
use Rattle.std.specs.Prelude.{◌≡◌, ℕ, ◌≤◌, ◌<◌, Bool, true, false, List, map, Result, Ok, Err}
use Rattle.std.specs.declared.option.Option.{Option}
use Rattle.std.specs.declared.option.Option.TheVariants.{None, Some}
use denote.Ref.{Bor}
use Rattle.indexmap.specs.IndexMap.{IndexMap}
use Rattle.flow_tree.specs.declared.limits.TheConstants.{LEAF_FIELDS}
use Rattle.flow_tree.specs.declared.fault.SourceFault.{SourceFault}
use Rattle.flow_tree.specs.declared.fault.SourceFault.TheVariants.{Refused, AcrossWait, OutOfMemory}
use Rattle.flow_tree.specs.Decls.{RecordTree}
use Rattle.flow_types.specs.declared.size.Size as code
use Rattle.flow_rules.specs.Rules.{Size, record_size, too_large, large_record, with_size}
use Rattle.flow_types.specs.MapView.{bound}

abbrev pub size_of : code.Size → Size
size_of n = record { nesting = n.nesting; leaves = n.leaves }

abbrev pub sizes_of : {S : Type 0} → IndexMap (Bor (List ℕ)) code.Size S → List (List ℕ × Size)
sizes_of m = map (bound size_of) m.entries

-- this is the size, or there are too many fields
abbrev pub FieldsSized : Size → Option code.Size → Type 0
FieldsSized s (Some n) = (size_of n ≡ s) × (n.leaves ≤ LEAF_FIELDS)
FieldsSized s None = LEAF_FIELDS < s.leaves

-- this is the size, or the record is too large
abbrev pub RecordSized : Size → Option code.Size → Type 0
RecordSized s (Some n) = (size_of n ≡ s) × (too_large s ≡ false)
RecordSized s None = too_large s ≡ true

-- a record is within the limits, and its size is among these now; or it is too large
abbrev pub SizeAnswer : List (List ℕ × Size) → RecordTree → List (List ℕ × Size) → Result (Unit {0}) SourceFault → Type 0
SizeAnswer ns r new (Ok u) = (too_large (record_size ns r) ≡ false) × (new ≡ with_size ns r)
SizeAnswer ns r new (Err (Refused rule at)) = large_record (too_large (record_size ns r)) r ≡ Some (rule, at)
SizeAnswer ns r new (Err (AcrossWait at declared wait)) = ⊥
SizeAnswer ns r new (Err OutOfMemory) = Unit {0}
