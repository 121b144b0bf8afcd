use Rattle.std.proofs.Common.{sym}
use Rattle.flow_tree.specs.View.{type_of}
use Rattle.flow_ast.proofs.TypingLists.{uneven}
use Rattle.flow_ast.proofs.typing.fit.Goals as goal

pub returns-then-params-types : goal.returns-then-params-types
returns-then-params-types g c = sym (uneven g.P.HasType.type_at type_of c.args.params.now c.args.types.now c.if-params-types.true)
