use Rattle.std.proofs.Common.{map, string_bytes, Global}
use Rattle.clap.specs.Words.{app_of, found_of, rows_of}
use Rattle.flow_words.specs.Apps.{shrink_app}
use Rattle.flow_lab_words.specs.Asked.{request_of, simplify_by}
use Rattle.flow_words.proofs.Matched.{read_of}
use Rattle.flow_lab_words.proofs.reading.simplify_of.Goals as goal

pub returns : goal.returns
returns c =
    read_of request_of simplify_by (app_of c.in_ok-shrink_command.field-0) shrink_app (map (string_bytes {Z = Global}) c.args.words.now) (rows_of (found_of c.in_ok-found.found)) c.simplify_by.result
    c.in_ok-shrink_command.ensures c.in_ok-found.ensures c.simplify_by.ensures
