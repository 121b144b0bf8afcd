use Rattle.std.proofs.Common.{◌≡◌, find, drop}
use Rattle.std.specs.Str.{bytes_eq}
use Rattle.flow_ast.proofs.typing.find_named.Given as goal

abbrev pub invariant-loop-item : goal.invariant-loop-item
invariant-loop-item g l = find (λ x. bytes_eq (g.T.Declared.name_of x) l.name) l.items ≡ find (λ x. bytes_eq (g.T.Declared.name_of x) l.name) (drop l.item-index l.items)
