use Rattle.flow_code.specs.Resolved.Named.{at_name}
use Rattle.std.proofs.Common.{map}
use Rattle.flow_tree.specs.DeclView.{record_of}
use Rattle.flow_code.proofs.Resolved.Keys.{numbered}
use Rattle.flow_code.proofs.Resolved.Numbering.{records_named, functions_named, functions_there}
use Rattle.flow_code.proofs.expr.names.Names.new.Goals as goal

pub returns-clause-records : goal.returns-clause-records
returns-clause-records c = λ x. records_named c.args.records.now (at_name c.in_ok-first_records.field-0 x) x (c.in_ok-first_records.ensures x)

pub returns-clause-functions : goal.returns-clause-functions
returns-clause-functions c = λ x.
    let at = at_name c.in_ok-first_functions.field-0 x in
    (functions_named c.args.functions.now at x (c.in_ok-first_functions.ensures x), functions_there c.args.functions.now at x (c.in_ok-first_functions.ensures x))

pub returns-clause-fields : goal.returns-clause-fields
returns-clause-fields c =
    numbered c.in_ok-fields.fields.keys c.number_records.new.names.keys (record { records = c.in_ok-of_records.of_records }) (map record_of c.args.records.now)
    c.len-count.ensures.unique c.in_ok-fields.ensures c.in_ok-of_records.ensures.kept c.in_ok-of_records.ensures.named
