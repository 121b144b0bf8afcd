use Rattle.std.proofs.Common.{map, not, sym, ◌∙◌}
use Rattle.flow_value.specs.View.{values_of, ref_of}
use Rattle.flow_value.proofs.References.{nothing_more}
use Rattle.flow_value.proofs.value.+add_refs.Goals as goal

pub add_all_refs-returns-then-not-any_may_refer : goal.add_all_refs-returns-then-not-any_may_refer
add_all_refs-returns-then-not-any_may_refer t c =
    nothing_more (map ref_of c.args.found.now.items) (values_of c.args.values.now)
    (sym c.any_may_refer.ensures ∙ c.if-not-any_may_refer.true)
