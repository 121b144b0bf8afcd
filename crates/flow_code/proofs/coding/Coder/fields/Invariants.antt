use Rattle.std.proofs.Common.{◌≡◌, drop}
use Rattle.flow_code.specs.Coding.{fields_of}
use Rattle.flow_code.specs.Coder.{coding_of}
use Rattle.flow_code.proofs.Fields.{before}
use Rattle.flow_code.proofs.coding.Coder.fields.Given as goal

abbrev pub invariant-loop-name : goal.invariant-loop-name
invariant-loop-name l =
    before l.fields.items (fields_of (coding_of l.self).names.field (drop l.name-index l.path)) ≡ fields_of (coding_of l.self).names.field l.path
