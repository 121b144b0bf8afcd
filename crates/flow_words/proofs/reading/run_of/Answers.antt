use Rattle.std.proofs.Common.{map, string_bytes, Global}
use Rattle.clap.specs.Words.{app_of, found_of, rows_of}
use Rattle.flow_words.specs.Apps.{run_app}
use Rattle.flow_words.specs.Asked.{run_request, run_by}
use Rattle.flow_words.proofs.Matched.{read_of}
use Rattle.flow_words.proofs.reading.run_of.Goals as goal

pub returns : goal.returns
returns c =
    read_of run_request run_by (app_of c.in_ok-run_command.field-0) run_app (map (string_bytes {Z = Global}) c.args.words.now) (rows_of (found_of c.in_ok-found.found)) c.run_by.result
    c.in_ok-run_command.ensures c.in_ok-found.ensures c.run_by.ensures
