use Rattle.std.proofs.Common.{map, string_bytes, Global}
use Rattle.clap.specs.Words.{app_of, found_of, rows_of}
use Rattle.flow_words.proofs.Matched.{are_matched}
use Rattle.flow_words.proofs.matching.matches.Goals as goal

pub returns-in-Ok : goal.returns-in-Ok
returns-in-Ok c =
    are_matched (app_of c.args.command) (map (string_bytes {Z = Global}) c.args.words.now) (rows_of (found_of c.in-Ok.matches)) _ c.requires (c.in-Ok.ensures.kinds c.requires)
    c.in-Ok.ensures.matches
