use Rattle.std.proofs.Common.{refl, sym, ◌∙◌}
use Rattle.flow_tree.specs.declared.limits.TheConstants.{OF_CLASS_TEXT}
use Rattle.flow_parse.specs.Reading.{token_at}
use Rattle.flow_parse.proofs.Leaves.{answer_become}
use Rattle.flow_classread.proofs.PathForms.{place_callee, plain_callee}
use Rattle.flow_classread.proofs.instr.callee.Goals as goal

pub returns-in-Some-clause-reads : goal.returns-in-Some-clause-reads
returns-in-Some-clause-reads c =
    let t = c.args.tokens.now in
    answer_become OF_CLASS_TEXT (λ r. r.0.items) (λ r. r.1) t c.args.at c.requires.within refl (place_callee (token_at t.spots.items c.args.at) _ (sym c.place_here.ensures.place ∙ c.in-Some.is))
    c.path.result c.path.ensures.reads

pub returns-in-None-clause-reads : goal.returns-in-None-clause-reads
returns-in-None-clause-reads c =
    let t = c.args.tokens.now in
    answer_become OF_CLASS_TEXT (λ r. r.0.items) (λ r. r.1) t c.args.at c.requires.within refl (plain_callee (token_at t.spots.items c.args.at) (sym c.place_here.ensures.place ∙ c.in-None.is))
    c.single.result c.single.ensures.reads
