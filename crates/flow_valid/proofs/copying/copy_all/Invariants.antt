use Rattle.std.proofs.Common.{◌≡◌, map, take}
use Rattle.flow_valid.proofs.copying.copy_all.Given as goal

abbrev pub invariant-loop-thing : goal.invariant-loop-thing
invariant-loop-thing g l = map g.T.Copied.seen l.copies.items ≡ map g.T.Copied.seen (take l.thing-index l.things)
