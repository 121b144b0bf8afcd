use Rattle.std.proofs.Common.{[], ◌∷◌, ◌++◌, ap, ◌∙◌, codes, decimal}
use Rattle.std.proofs.lemmas.Result.{on_ok_weaker}
use Rattle.flow_trace.specs.Bytes.{joined}
use Rattle.flow_explain.specs.Pieces.{piece_bytes}
use Rattle.flow_explain.proofs.pieces.LineBytes.of_disk.Goals as goal

pub returns : goal.returns
returns c =
    on_ok_weaker c.event.result
    (λ e. e ∙ ap (λ p. joined (codes "event" ∷ decimal c.args.n ∷ codes "at" ∷ (decimal c.args.t ++ codes ":") ∷ codes "the disk of process" ∷ p
    ∷ codes "answers a" ∷ c.args.request.now ∷ piece_bytes c.args.answer ∷ [])) c.process.ensures)
    c.event.ensures
