use Rattle.std.proofs.Common.{map, sym, subst}
use Rattle.flow_value.specs.View.{value_of}
use Rattle.flow_eval.specs.Meaning.{Means, setting_with, no_cells}
use Rattle.flow_eval.specs.WellTyped.{HasMeaning, CallAt}
use Rattle.flow_eval.proofs.TypesKept.{call_means}
use Rattle.flow_eval.proofs.eval.call.Goals as goal

pub called-requires-clause-meant : goal.called-requires-clause-meant
called-requires-clause-meant c =
    subst (λ s. HasMeaning (CallAt s c.args.function (map value_of c.args.args.items) c.args.turns.now.left)) (sym c.setting.ensures)
    (call_means (setting_with c.args.plain.now.records.items c.args.plain.now.functions.items no_cells 0) c.args.function (map value_of c.args.args.items) c.args.turns.now.left c.requires.typed)

pub returns : goal.returns
returns c =
    subst (λ s. Means (CallAt s c.args.function (map value_of c.args.args.items) c.args.turns.now.left) c.called.result c.called.new.turns.left) c.setting.ensures c.called.ensures
