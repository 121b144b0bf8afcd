use Rattle.std.proofs.Common.{[], ◌∷◌, ◌++◌, ap, ◌∙◌, codes, decimal}
use Rattle.std.proofs.lemmas.Result.{on_ok_weaker}
use Rattle.flow_trace.specs.Bytes.{joined}
use Rattle.flow_explain.proofs.pieces.LineBytes.timer.Goals as goal

pub returns : goal.returns
returns c =
    on_ok_weaker c.event.result
    (λ e. e ∙ ap (λ p. joined (codes "event" ∷ decimal c.args.n ∷ codes "at" ∷ (decimal c.args.t ++ codes ":") ∷ codes "a timer of process" ∷ p ∷ []))
    c.process.ensures)
    c.event.ensures
