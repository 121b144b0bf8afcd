use Rattle.std.proofs.Common.{◌≡◌, ◌≢◌, take}
use Rattle.flow_tree.specs.GrammarAnswer.{place_at}
use Rattle.flow_expected.specs.Expected.{CouldStand, Picks}
use Rattle.flow_expected.proofs.candidates.could_stand.Given as goal

abbrev pub invariant-loop-kind : goal.invariant-loop-kind
invariant-loop-kind l = record {
  spots : l.tokens.spots.items ≡ take l.fn.number l.fn.tokens.spots.items;
  place : l.at ≡ place_at l.fn.tokens l.fn.number;
  apart : l.tokens.end ≢ l.at;
  number : l.number ≡ l.fn.number;
  picks : Picks (CouldStand l.fn.tokens l.fn.number) (take l.kind-index l.fn.kinds) l.found.items;
}
