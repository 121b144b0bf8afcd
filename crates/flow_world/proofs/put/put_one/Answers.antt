use Rattle.std.proofs.Common.{rules, ◌≡◌, [], ◌∷◌, IfErr, subst}
use Rattle.flow_trace.specs.declared.line.Line.TheVariants as line
use Rattle.flow_meaning.specs.World.{kept_line}
use Rattle.flow_world.specs.BreakingEvents.{PutFails}
use Rattle.flow_world.proofs.Putting.{first_fails, none_put}
use Rattle.flow_world.proofs.put.put_one.Goals as goal

pub returns-in_err-name-clause-part : goal.returns-in_err-name-clause-part
returns-in_err-name-clause-part g c = none_put g.L.LineOut.puts c.from_residual.result c.args.out.now (kept_line c.args.kept.now ∷ [])

pub returns-clause-part : goal.returns-clause-part
returns-clause-part g c =
    let k = c.args.kept.now in
    let same : c.in_ok-name.name ≡ k.name = search rules in
    first_fails g.L.LineOut.puts c.put.result c.args.out.now c.put.new.out (kept_line k) []
    (subst (λ n. IfErr c.put.result (λ f. PutFails g.L.LineOut.puts (line.Kept n k.offset k.length k.kept) c.args.out.now f c.put.new.out)) same c.put.ensures.fails)
