use Rattle.std.proofs.Common.{map, string_bytes, Global}
use Rattle.clap.specs.Words.{app_of, found_of, rows_of}
use Rattle.flow_words.specs.Apps.{three_texts_app}
use Rattle.flow_lab_words.specs.Asked.{request_of, storm_rows}
use Rattle.flow_words.proofs.Matched.{read_of}
use Rattle.flow_lab_words.proofs.reading.storm_of.Goals as goal

pub returns : goal.returns
returns c =
    read_of request_of storm_rows (app_of c.in_ok-three_texts.field-0) three_texts_app (map (string_bytes {Z = Global}) c.args.words.now) (rows_of (found_of c.in_ok-found.found)) c.storm_rows.result
    c.in_ok-three_texts.ensures c.in_ok-found.ensures c.storm_rows.ensures
