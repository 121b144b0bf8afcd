use Rattle.std.proofs.Common.{map, string_bytes, Global}
use Rattle.clap.specs.Words.{app_of, found_of, rows_of}
use Rattle.flow_words.proofs.Matched.{read_of}
use Rattle.flow_lab_words.specs.Apps.{sweep_app}
use Rattle.flow_lab_words.specs.Asked.{sweep_request, sweep_by}
use Rattle.flow_lab_words.proofs.Unread.{none_read}
use Rattle.flow_lab_words.proofs.reading.sweep_of.Goals as goal

pub returns-in-Ok : goal.returns-in-Ok
returns-in-Ok c =
    read_of sweep_request sweep_by (app_of c.in_ok-sweep_command.field-0) sweep_app (map (string_bytes {Z = Global}) c.args.words.now) (rows_of (found_of c.in-Ok.found)) c.sweep_by.result
    c.in_ok-sweep_command.ensures c.in-Ok.ensures c.sweep_by.ensures

pub returns-in-Err : goal.returns-in-Err
returns-in-Err c =
    none_read sweep_request (λ m. rows_of (found_of m)) sweep_by (app_of c.in_ok-sweep_command.field-0) sweep_app (map (string_bytes {Z = Global}) c.args.words.now) c.in-Err.fault
    c.in_ok-sweep_command.ensures c.in-Err.ensures
