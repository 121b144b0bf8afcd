use Rattle.std.proofs.Common.{◌≡◌, map}
use Rattle.flow_class.specs.Classes.{DropInstr}
use Rattle.flow_catch.specs.Inner.{lists_of, left_lists}
use Rattle.flow_split.specs.Emitting.{emitted, put}
use Rattle.flow_split.proofs.emitter.Emitter.drop_scopes.Given as goal

abbrev pub invariant-loop-numbers : goal.invariant-loop-numbers
invariant-loop-numbers l = put (map DropInstr (lists_of l.numbers-iterator.rest.items)) (emitted l.self) ≡ put (map DropInstr (left_lists l.depth l.initial.self.scopes)) (emitted l.initial.self)
