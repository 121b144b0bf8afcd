use Rattle.flow_headline.proofs.Telling.{same_bytes, exec_writes_as_run}
use Rattle.flow_headline.proofs.laws.one_shown.Goals as goal

pub returns-clause-shown : goal.returns-clause-shown
returns-clause-shown c = c.one_list_of_lines_is_shown.ensures.sources

pub returns-clause-same_bytes : goal.returns-clause-same_bytes
returns-clause-same_bytes c = same_bytes c.one_list_of_lines_is_shown.ensures.sources

pub returns-clause-exec_and_run : goal.returns-clause-exec_and_run
returns-clause-exec_and_run c = exec_writes_as_run c.one_list_of_lines_is_shown.ensures.sources c.exec_is_run.ensures.exec c.exec_is_run.ensures.run
