use Rattle.flow_progress.specs.Places.{class_vars}
use Rattle.flow_progress.specs.Fitting.{typed_by}
use Rattle.flow_progress.specs.Written.{heads}
use Rattle.flow_progress.proofs.Asks.{next_fits}
use Rattle.flow_progress.proofs.KeptClasses.{class_rules}
use Rattle.flow_progress.proofs.laws.fitting_frames_are_never_stuck.Goals as goal

pub returns-clause-kept : goal.returns-clause-kept
returns-clause-kept c = λ r actors rules types v k f at cells s.
    next_fits r actors (class_vars f.code) (typed_by types) v f (rules.classes k f.code at) rules.functions cells s

pub returns-clause-rules : goal.returns-clause-rules
returns-clause-rules c = λ r valid written functions. class_rules r valid written functions

pub returns-clause-valid : goal.returns-clause-valid
returns-clause-valid c = λ r valid written functions types v k f at cells s.
    let rules = class_rules r valid written functions in
    next_fits r (heads r) (class_vars f.code) (typed_by types) v f (rules.classes k f.code at) rules.functions cells s
