use Rattle.std.proofs.Common.{◌≡◌, take}
use Rattle.flow_code.specs.Coding.{places}
use Rattle.flow_code.specs.Coder.{coding_of}
use Rattle.flow_code.proofs.coding.Coder.locals.Given as goal

abbrev pub invariant-loop-local : goal.invariant-loop-local
invariant-loop-local l = l.places.items ≡ places (coding_of l.self) (take l.local-index l.locals)
