use Rattle.std.proofs.Common.{rules, arith}
use Rattle.flow_steps.specs.Stuck.{no_wait, no_block}
use Rattle.std.proofs.lemmas.Option.{slice_get_past}
use Rattle.flow_steps.proofs.frames.stand_in.Goals as goal

pub returns-in_err-place-clause-nowhere : goal.returns-in_err-place-clause-nowhere
returns-in_err-place-clause-nowhere c = λ n. no_wait c.in_ok-class.class.now (search rules) (search rules)

pub returns-in_err-get-clause-nowhere : goal.returns-in_err-get-clause-nowhere
returns-in_err-get-clause-nowhere c = λ n.
    no_block c.in_ok-class.class.now c.in_ok-place.place (search rules) (search rules)
    (slice_get_past c.in_ok-class.class.now.blocks.items c.in_ok-place.place (grind (arith, c.in_err-get.ensures, c.deref.ensures)))
