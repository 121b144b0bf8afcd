use Rattle.std.proofs.Common.{map, sym}
use Rattle.std.specs.String.{string_bytes}
use Rattle.flow_top.proofs.Asks.{without_words, by_words}
use Rattle.flow_top.proofs.top.flow_main.Goals as goal

pub returns-in-Err-clause-answers : goal.returns-in-Err-clause-answers
returns-in-Err-clause-answers g c = without_words (map string_bytes c.args.words.now) _ c.in-Err.told _ _ _ c.report_told.result c.in-Err.ensures c.report_told.ensures.reported

pub returns-in-Some-clause-answers : goal.returns-in-Some-clause-answers
returns-in-Some-clause-answers g c = by_words (map string_bytes c.args.words.now) _ _ _ _ _ _ _ c.in-Ok.ensures c.answer_again.ensures.answers

pub returns-clause-answers : goal.returns-clause-answers
returns-clause-answers g c = by_words (map string_bytes c.args.words.now) _ _ _ _ _ _ _ c.in-Ok.ensures c.answer_heard.ensures.answers

pub answer_again-requires : goal.answer_again-requires
answer_again-requires g c = sym c.in-Some.ensures

pub answer_heard-requires : goal.answer_heard-requires
answer_heard-requires g c = sym c.in-None.ensures
