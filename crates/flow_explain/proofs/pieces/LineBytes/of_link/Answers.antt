use Rattle.std.proofs.Common.{ℕ, List, [], ◌∷◌, ◌++◌, ap, ◌∙◌, codes, decimal}
use Rattle.std.proofs.lemmas.Result.{on_ok_weaker}
use Rattle.flow_trace.specs.Bytes.{joined}
use Rattle.flow_explain.specs.Pieces.{piece_bytes}
use Rattle.flow_explain.proofs.pieces.LineBytes.of_link.Goals as goal

pub returns : goal.returns
returns c =
    let words : List ℕ → List ℕ → List ℕ = λ p q. joined (codes "event" ∷ decimal c.args.n ∷ codes "at" ∷ (decimal c.args.t ++ codes ":") ∷ codes "the link of processes" ∷ p
    ∷ codes "and" ∷ q ∷ c.args.what.now ∷ []) in
    on_ok_weaker c.event.result
    (λ e. e ∙ ap (λ p. words p (piece_bytes c.process-2.result)) c.process.ensures ∙ ap (words (decimal c.args.one.0)) c.process-2.ensures)
    c.event.ensures
