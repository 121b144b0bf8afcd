use Rattle.std.proofs.Common.{◌<◌, length, position, nat_eq, ap, sym, ◌∙◌, arith}
use Rattle.flow_code.proofs.Resolved.Places.{place_there}
use Rattle.flow_code.proofs.expr.names.declared_place.Goals as goal

pub returns : goal.returns
returns c =
    let lt : c.args.k < length c.args.records.now = omega arith in
    c.number_place.ensures
    ∙ ap (λ ns. position (λ n. nat_eq n c.args.number) ns) c.deref.ensures.value
    ∙ ap (λ v. position (λ n. nat_eq n c.args.number) v.items) c.index-records-k.is
    ∙ sym (place_there c.args.records.now c.args.k c.args.number c.index-records-k.result lt)
