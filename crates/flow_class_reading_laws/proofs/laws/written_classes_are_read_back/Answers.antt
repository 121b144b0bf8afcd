use Rattle.flow_class_reading_laws.proofs.ReadBack.{written_is_read_back, compiled_is_read_back, read_is_read_back}
use Rattle.flow_class_reading_laws.proofs.laws.written_classes_are_read_back.Goals as goal

pub returns-clause-written : goal.returns-clause-written
returns-clause-written c = written_is_read_back

pub returns-clause-compiled : goal.returns-clause-compiled
returns-clause-compiled c = compiled_is_read_back

pub returns-clause-read : goal.returns-clause-read
returns-clause-read c = read_is_read_back
