use Rattle.std.proofs.Common.{◌<◌, length, map, position, ap, sym, ◌∙◌, arith}
use Rattle.std.specs.Str.{bytes_eq}
use Rattle.flow_tree.specs.DeclView.{param_of}
use Rattle.flow_tree.specs.Decls.{ParamTree}
use Rattle.flow_eval.proofs.Lookups.{place_there}
use Rattle.flow_eval.proofs.records.declared_place.Goals as goal

pub returns : goal.returns
returns c =
    let lt : c.args.k < length c.args.records.now = omega arith in
    c.param_place.ensures
    ∙ ap (λ ps. position (λ (p : ParamTree). bytes_eq p.name.name c.args.name.now) (map param_of ps)) c.deref.ensures.value
    ∙ sym (place_there c.args.records.now c.args.k c.args.name.now c.index-records-k.result lt)
