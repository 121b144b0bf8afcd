use Rattle.std.proofs.Common.{◌≡◌, ◌+◌, ◌*◌, drop}
use Rattle.flow_steps.proofs.Holding.{fields_held, fields_missing}
use Rattle.flow_steps.proofs.process.Process.+hold_value.Given as goal

abbrev pub invariant-hold_parts-loop-part : goal.invariant-hold_parts-loop-part
invariant-hold_parts-loop-part l =
    (l.self ≡ record l.initial.self { heap = l.self.heap })
    × (fields_held (drop l.part-index l.parts) l.self.heap ≡ fields_held l.parts l.initial.self.heap)
    × (fields_missing (drop l.part-index l.parts) l.self.heap → fields_missing l.parts l.initial.self.heap)

-- a value, then its parts
abbrev pub decreases-hold_value : goal.decreases-hold_value
decreases-hold_value l = 2 * goal.size-hold_value l

abbrev pub decreases-hold_parts : goal.decreases-hold_parts
decreases-hold_parts l = 2 * goal.size-hold_parts l + 1
