use Rattle.std.proofs.Common.{ap, ◌∙◌}
use Rattle.std.proofs.lemmas.Result.{on_ok_weaker}
use Rattle.flow_tree.specs.StmtView.{change_of}
use Rattle.flow_class.specs.Scopes.{path_over}
use Rattle.flow_split.specs.Contexts.{names_in, slots_in}
use Rattle.flow_split.specs.Emitting.{emitted, acted}
use Rattle.flow_split.proofs.Simples.{modified_by}
use Rattle.flow_split.proofs.emitter.Emitter.put_change.Goals as goal

pub returns : goal.returns
returns c =
    on_ok_weaker c.act.result
    (λ h. h ∙ ap (λ is. acted is (emitted c.args.self.now))
    (modified_by (names_in c.args.context.now) (slots_in c.args.context.now) c.args.self.now.scopes c.args.target.now.path.items _ c.args.first.now c.args.rest.now (change_of c.args.by.now) _ _
    c.requires (c.in_ok-path.ensures ∙ ap (path_over (slots_in c.args.context.now) c.args.self.now.scopes) c.deref.ensures.value) c.in_ok-value.ensures c.in_ok-old.ensures))
    c.act.ensures
