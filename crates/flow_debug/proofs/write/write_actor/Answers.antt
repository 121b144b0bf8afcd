use Rattle.std.proofs.Common.{ap, sym, subst, ◌∙◌, append-nil}
use Rattle.std.specs.List.{flat_map}
use Rattle.std.specs.Option.{option_map}
use Rattle.flow_base.specs.Bytes.{AppendsPart}
use Rattle.flow_debug.specs.Told.{if_told}
use Rattle.flow_debug.specs.ViewText.{actor_lines}
use Rattle.flow_debug.specs.Views.{view_of}
use Rattle.flow_debug.proofs.write.write_actor.Goals as goal

pub returns-in-Ok-clause-part : goal.returns-in-Ok-clause-part
returns-in-Ok-clause-part g c =
    let told = sym (append-nil (actor_lines (view_of c.in-Ok-Some.view))) ∙ ap (λ o. flat_map actor_lines (if_told (option_map view_of o))) (sym c.in-Ok-Some.field-0-is)
    ∙ ap (λ o. flat_map actor_lines (if_told o)) c.in-Ok-Some.ensures in
    subst (AppendsPart ((g.S.Sink.seen c.args.out.now).written) ((g.S.Sink.seen c.write_lines.new.out).written))
    (c.deref.ensures.value ∙ c.in-Ok.ensures ∙ told) c.write_lines.ensures.part
