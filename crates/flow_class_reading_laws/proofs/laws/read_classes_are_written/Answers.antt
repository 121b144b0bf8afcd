use Rattle.flow_class_reading_laws.proofs.Whole.{reads_whole}
use Rattle.flow_class_reading_laws.proofs.Written.{reads_written}
use Rattle.flow_class_reading_laws.proofs.laws.read_classes_are_written.Goals as goal

pub returns-clause-whole : goal.returns-clause-whole
returns-clause-whole c = reads_whole

pub returns-clause-written : goal.returns-clause-written
returns-clause-written c = reads_written
