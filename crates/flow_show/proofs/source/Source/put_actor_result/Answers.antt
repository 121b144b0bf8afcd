use Rattle.std.proofs.Common.{◌++◌, sym, ap, ◌∙◌}
use Rattle.std.proofs.lemmas.Result.{IfOk-weaker}
use Rattle.std.specs.Prelude.{codes}
use Rattle.flow_tree.specs.View.{type_of, result_of}
use Rattle.flow_tree.specs.Canon.{type_text, actor_text}
use Rattle.flow_show.proofs.Texts.{one_by_one}
use Rattle.flow_show.proofs.DeclPieces.{future_text}
use Rattle.flow_show.proofs.source.Source.put_actor_result.Goals as goal

pub returns-in_ok-put_type-in-Some : goal.returns-in_ok-put_type-in-Some
returns-in_ok-put_type-in-Some c =
    let t = c.in-Some.ty in
    IfOk-weaker c.put-in-Some.result _ _
    (λ done last. one_by_one c.args.self.now c.put.new.self c.put_type.new.self c.put-in-Some.new.self (codes "ACTOR Future<") (type_text (type_of t)) (codes ">")
    c.in_ok-put-in-Some.ensures c.in_ok-put_type-in-Some.ensures last
    ∙ ap (λ w. c.args.self.now ++ w) (sym (future_text t) ∙ ap (λ g. actor_text (result_of g)) (sym c.in-Some.is)))
    c.put-in-Some.ensures
