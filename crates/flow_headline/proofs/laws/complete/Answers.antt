use Rattle.flow_headline.proofs.Complete.{complete}
use Rattle.flow_headline.proofs.laws.complete.Goals as goal

pub returns : goal.returns
returns c = complete c.one_verdict.ensures c.one_verdict-2.ensures c.class_texts_have_one_answer.ensures c.compiles.ensures c.exec_is_run.ensures.run c.exec_is_run.ensures.classes
