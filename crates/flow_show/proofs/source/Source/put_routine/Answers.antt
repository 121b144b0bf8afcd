use Rattle.std.proofs.Common.{[], ◌∷◌, ◌++◌, ◌∙◌}
use Rattle.std.specs.Prelude.{codes}
use Rattle.flow_tree.specs.DeclView.{params_of}
use Rattle.flow_tree.specs.StmtView.{body_of}
use Rattle.flow_tree.specs.Canon.{params_text, body_text}
use Rattle.flow_show.proofs.Texts.{seven}
use Rattle.flow_show.proofs.source.Source.put_routine.Goals as goal

pub returns : goal.returns
returns c =
    seven c.args.self.now _ _ _ _ _ _ _ (codes " ") _ (codes "(") _ _ _ _ c.in_ok-put.ensures c.in_ok-put-2.ensures c.in_ok-put-3.ensures c.in_ok-put_params.ensures
    c.in_ok-put-4.ensures c.in_ok-put_body.ensures c.in_ok-put-5.ensures
    ∙ (λ i. c.args.self.now ++ (codes " " ++ c.bytes.ensures.bytes i ++ codes "(" ++ params_text (params_of (c.deref.ensures.value i)) ++ (codes ") {" ++ 10 ∷ [])
    ++ body_text 1 (body_of (c.deref-2.ensures.value i)) ++ (codes "}" ++ 10 ∷ [])))
