use Rattle.std.proofs.Common.{map, string_bytes, Global}
use Rattle.flow_top.proofs.Asks.{unread_words}
use Rattle.flow_top.proofs.asking.ask.Goals as goal

pub returns-in-Err : goal.returns-in-Err
returns-in-Err c =
    unread_words (map (string_bytes {Z = Global}) c.args.words.now) c.in-Err.fault c.words_outcome.result c.words_outcome.ensures c.in-Err.ensures
