use Rattle.std.proofs.Common.{[], ◌++◌, sym, ap, ◌∙◌}
use Rattle.std.specs.Prelude.{if◌then◌else◌}
use Rattle.std.specs.Option.{option_map, option_copied}
use Rattle.std.proofs.lemmas.Result.{IfOk-weaker}
use Rattle.flow_tree.specs.View.{type_of, expr_of}
use Rattle.flow_tree.specs.StmtView.{into_of, body_of, simple_of}
use Rattle.flow_tree.specs.Body.{End, ForStmt}
use Rattle.flow_warning.specs.Walks.{alone, in_turn, round, tested}
use Rattle.flow_warning.specs.Warnings.{held, lost, lost_of_wait}
use Rattle.flow_warning.proofs.Found.{begun_for}
use Rattle.flow_warning.proofs.find.add_init.Goals as goal

pub returns-in-Some-losing : goal.returns-in-Some-losing
returns-in-Some-losing c =
    let i = c.in-Some.into.now in
    let e = option_map expr_of c.args.test.now in
    let step = simple_of c.args.step.now in
    let body = body_of c.args.body.now in
    let scope = ForStmt c.args.at End e step body End in
    let w = c.alone_rounds-walks.result in
    IfOk-weaker c.add_lost.result _ _
    (λ done more. more
    ∙ ap (λ l. c.args.found.now.items ++ l)
    (ap (λ h. lost h i.name.at w) (sym c.in-Some-losing.is) ∙ c.losing.ensures i.name.at w
    ∙ ap (λ y. if i.state then [] else lost (held (type_of i.ty)) i.name.at y)
    (begun_for i.name.name c.args.at e step body w
    (c.alone_rounds-walks.ensures ∙ ap (λ x. tested x e (in_turn (round (alone x body)) (alone x step))) c.bytes.ensures.bytes))
    ∙ sym (c.init_into.ensures scope ∙ ap (λ o. lost_of_wait (option_map into_of (option_copied o)) scope) c.in-Some.is)))
    c.add_lost.ensures
