use Rattle.std.proofs.Common.{◌≡◌, ◌+◌, ◌≤◌, ◌-◌, ◌<◌, length}
use Rattle.flow_base.specs.Seen.{ReadsOn}
use Rattle.flow_base.proofs.input.read_past.Given as goal

abbrev pub invariant-loop-file : goal.invariant-loop-file
invariant-loop-file g l =
    let before = g.F.Files.seen l.initial.files in
    let after = g.F.Files.seen l.files in
    record {
      read : ReadsOn before.openings after.openings l.file.0 l.bytes.items;
      within : length l.bytes.items ≤ l.limit + 1;
      is_open : l.file.0 < length after.openings;
      content : after.content ≡ before.content;
      asked : after.asked ≡ before.asked;
      no_fault : after.faults ≡ before.faults;
    }

abbrev pub decreases-loop-file : goal.decreases-loop-file
decreases-loop-file g l = l.limit + 1 - length l.bytes.items
