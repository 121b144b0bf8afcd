use Rattle.std.proofs.Common.{◌≡◌, length, map, drop}
use Rattle.flow_class.specs.View as text
use Rattle.flow_code.specs.Coding.{homes_from, homes_of}
use Rattle.flow_code.proofs.coding.homes.Given as goal

abbrev pub invariant-loop-place : goal.invariant-loop-place
invariant-loop-place l =
    (homes_from l.place (map text.block_of (drop l.place l.class.blocks.items)) l.homes.items ≡ homes_of (text.class_of l.class))
    × (length l.homes.items ≡ length l.class.groups.items)
