use Rattle.std.proofs.Common.{ap, ◌∙◌}
use Rattle.flow_class.specs.View.{raw_of}
use Rattle.flow_compile.proofs.Rightness.{valid_classes, right_classes}
use Rattle.flow_compile.proofs.compiling.compile.Goals as goal

pub new-requires : goal.new-requires
new-requires c = valid_classes c.args.sound.now.typed.program _ c.compiled_classes_are_valid.ensures c.requires c.in-Ok.ensures.0

pub returns-in-Ok-clause-right : goal.returns-in-Ok-clause-right
returns-in-Ok-clause-right c =
    right_classes c.args.sound.now.typed.program _ c.compiled_classes_are_valid.ensures c.compiled_classes_carry_program.ensures
    c.compile_preserves_traces.ensures.traces c.compile_preserves_traces.ensures.traces_back c.compile_preserves_traces.ensures.views c.compile_preserves_traces.ensures.views_back
    c.requires (ap raw_of c.new.ensures ∙ c.in-Ok.ensures.0)
