use Rattle.std.proofs.Common.{◌≡◌, ◌++◌, map, drop}
use Rattle.flow_class.specs.View as text
use Rattle.flow_code.specs.Coding.{coded_groups}
use Rattle.flow_code.specs.Coder.{coding_of}
use Rattle.flow_code.specs.View.{group_of}
use Rattle.flow_code.proofs.coding.Coder.groups_at.Given as goal

abbrev pub invariant-loop-place : goal.invariant-loop-place
invariant-loop-place l =
    map group_of l.coded.items ++ coded_groups (coding_of l.self) l.first (drop l.place l.homes) (map text.group_of (drop l.place l.groups))
    ≡ coded_groups (coding_of l.self) 0 l.homes (map text.group_of l.groups)
