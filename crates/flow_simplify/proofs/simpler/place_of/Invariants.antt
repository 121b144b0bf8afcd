use Rattle.std.proofs.Common.{◌≡◌, ◌+◌, ◌-◌, ◌<◌, ◌≤◌, drop, length}
use Rattle.flow_simplify.specs.Simpler.{uncommon, place_of}
use Rattle.flow_simplify.proofs.simpler.place_of.Given as goal

abbrev pub invariant-loop-place : goal.invariant-loop-place
invariant-loop-place l = record {
  place : place_of l.common l.number l.words ≡ l.place + place_of l.common l.left (drop l.place l.words);
  left : l.left < uncommon l.common (drop l.place l.words);
  within : l.place ≤ length l.words;
}

abbrev pub decreases-loop-place : goal.decreases-loop-place
decreases-loop-place l = length l.words - l.place
