use Rattle.std.proofs.Common.{map, string_bytes, Global}
use Rattle.clap.specs.Words.{app_of, found_of, rows_of}
use Rattle.flow_words.specs.Apps.{two_texts_app}
use Rattle.flow_lab_words.specs.Asked.{request_of, pin_by}
use Rattle.flow_words.proofs.Matched.{read_of}
use Rattle.flow_lab_words.proofs.reading.pin_of.Goals as goal

pub returns : goal.returns
returns c =
    read_of request_of pin_by (app_of c.in_ok-two_texts.field-0) two_texts_app (map (string_bytes {Z = Global}) c.args.words.now) (rows_of (found_of c.in_ok-found.found)) c.pin_by.result
    c.in_ok-two_texts.ensures c.in_ok-found.ensures c.pin_by.ensures
