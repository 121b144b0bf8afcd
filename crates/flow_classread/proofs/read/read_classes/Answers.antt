use Rattle.std.proofs.Common.{arith}
use Rattle.std.proofs.lemmas.List.{length-map}
use Rattle.flow_class.specs.View.{class_of, raw_of}
use Rattle.flow_classread.proofs.Small.{few_places, few_classes}
use Rattle.flow_classread.proofs.read.read_classes.Goals as goal

pub judge-requires-clause-few : goal.judge-requires-clause-few
judge-requires-clause-few c = few_places c.args.bytes.now (raw_of c.in-Ok.raw) c.in-Ok.ensures

pub judge-requires-clause-many : goal.judge-requires-clause-many
judge-requires-clause-many c = omega (arith, few_classes c.args.bytes.now (raw_of c.in-Ok.raw) c.in-Ok.ensures, length-map c.in-Ok.raw.classes.items class_of)
