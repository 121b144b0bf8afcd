use Rattle.flow_headline.proofs.Telling.{exec_is_run, run_tells_program, exec_tells_classes}
use Rattle.flow_headline.proofs.laws.exec_is_run.Goals as goal

pub returns-clause-exec : goal.returns-clause-exec
returns-clause-exec c = exec_is_run c.one_verdict.ensures c.one_verdict-2.ensures c.compiled_text_shows_program.ensures

pub returns-clause-run : goal.returns-clause-run
returns-clause-run c = run_tells_program c.one_verdict.ensures c.one_verdict-2.ensures

pub returns-clause-classes : goal.returns-clause-classes
returns-clause-classes c = exec_tells_classes c.class_texts_have_one_answer.ensures c.one_verdict-2.ensures
