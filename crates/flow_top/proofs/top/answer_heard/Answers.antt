use Rattle.flow_words.specs.Asked.{request_of}
use Rattle.flow_top.proofs.Asks.{answered, unanswered, as_handed}
use Rattle.flow_top.proofs.Deciding.{once}
use Rattle.flow_top.proofs.top.answer_heard.Goals as goal

pub report-requires-clause-once : goal.report-requires-clause-once
report-requires-clause-once g c = once (request_of c.args.asked.now) c.decide-outcome.result c.requires c.decide-outcome.ensures.fits

pub returns-in-Ok-clause-answers : goal.returns-in-Ok-clause-answers
returns-in-Ok-clause-answers g c =
    as_handed _ _ (request_of c.args.asked.now) _ _ _ _ _ c.new.ensures.handed
    (answered _ (request_of c.args.asked.now) _ c.decide-outcome.result _ _ _ _ c.report.result c.in-Ok.ensures.fault c.in-Ok.ensures.ears c.decide-outcome.ensures.decided
    c.report.ensures.reported)

pub returns-in-Err-clause-answers : goal.returns-in-Err-clause-answers
returns-in-Err-clause-answers g c =
    as_handed _ _ (request_of c.args.asked.now) _ _ _ _ _ c.new.ensures.handed
    (unanswered _ (request_of c.args.asked.now) c.in-Err.told _ _ _ c.report_told.result c.in-Err.ensures.fault c.report_told.ensures.reported)
