use Rattle.flow_words.specs.Asked.{request_of}
use Rattle.flow_top.proofs.Asks.{answered_alone, unanswered_alone}
use Rattle.flow_top.proofs.Deciding.{many, wants_one}
use Rattle.flow_top.proofs.top.answer_again.Goals as goal

pub report_again-requires-clause-again : goal.report_again-requires-clause-again
report_again-requires-clause-again g c = many (request_of c.args.asked.now) c.args.want.now c.decide-outcome.result c.requires c.decide-outcome.ensures.fits

pub returns-in-Ok-clause-answers : goal.returns-in-Ok-clause-answers
returns-in-Ok-clause-answers g c =
    answered_alone _ (request_of c.args.asked.now) c.args.want.now (wants_one (request_of c.args.asked.now) c.args.want.now c.requires) _ c.decide-outcome.result _ _ _ _ c.report_again.result
    c.in-Ok.ensures.fault c.in-Ok.ensures.ears c.decide-outcome.ensures.decided c.report_again.ensures.reported

pub returns-in-Err-clause-answers : goal.returns-in-Err-clause-answers
returns-in-Err-clause-answers g c =
    unanswered_alone _ (request_of c.args.asked.now) c.args.want.now (wants_one (request_of c.args.asked.now) c.args.want.now c.requires) c.in-Err.told _ _ _ c.report_told.result
    c.in-Err.ensures.fault c.report_told.ensures.reported
