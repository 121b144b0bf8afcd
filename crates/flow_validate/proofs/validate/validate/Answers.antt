use Rattle.std.proofs.Common.{sym, ap, subst, ◌∙◌}
use Rattle.std.proofs.lemmas.Result.{err_from_is_err_and}
use Rattle.flow_class.specs.View.{raw_of}
use Rattle.flow_valid.specs.Validity.{IsValid}
use Rattle.flow_validate.proofs.validate.validate.Goals as goal

pub returns-in_err-judge-clause-refused : goal.returns-in_err-judge-clause-refused
returns-in_err-judge-clause-refused c =
    let p = err_from_is_err_and c.from_residual-in_err-judge.result c.from_residual-in_err-judge.ensures.1 in
    rw (p.1, p.2) (c.in_err-judge.ensures.refused (raw_of c.args.raw) c.in_ok-gathered.ensures.parts)

pub new-requires : goal.new-requires
new-requires c =
    let r = raw_of c.args.raw in
    subst IsValid (sym (c.in_ok-release.ensures r c.in_ok-gathered.ensures.parts)) (c.in_ok-judge.ensures.valid r c.in_ok-gathered.ensures.parts)

pub returns-clause-valid : goal.returns-clause-valid
returns-clause-valid c =
    let r = raw_of c.args.raw in
    (ap raw_of c.new.ensures ∙ c.in_ok-release.ensures r c.in_ok-gathered.ensures.parts, c.in_ok-judge.ensures.valid r c.in_ok-gathered.ensures.parts)
