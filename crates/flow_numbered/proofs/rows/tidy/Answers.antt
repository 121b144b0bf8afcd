use Rattle.std.proofs.Common.{rules, ◌≡◌}
use Rattle.std.specs.List.{filter}
use Rattle.std.proofs.lemmas.Fn.{filter_same}
use Rattle.flow_numbered.proofs.RowLemmas.{is_live, things_kept, rise_kept}
use Rattle.flow_numbered.proofs.rows.tidy.Goals as goal

pub returns-clause-same : goal.returns-clause-same
returns-clause-same g c =
    let is : c.retain.new.self.items ≡ filter is_live c.args.rows.now.items = filter_same _ is_live _ (λ x b f' k. search rules) _ _ c.retain.ensures.filtered in
    rw is (things_kept c.args.rows.now.items)

pub returns-clause-rise : goal.returns-clause-rise
returns-clause-rise g c = λ low most h.
    let is : c.retain.new.self.items ≡ filter is_live c.args.rows.now.items = filter_same _ is_live _ (λ x b f' k. search rules) _ _ c.retain.ensures.filtered in
    rw is (rise_kept low c.args.rows.now.items most h)
