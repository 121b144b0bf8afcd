use Rattle.std.proofs.Common.{List, ℕ, [], ◌∷◌, ◌++◌, ap, ◌∙◌, codes, decimal}
use Rattle.std.proofs.lemmas.Result.{on_ok_weaker}
use Rattle.flow_trace.specs.Bytes.{joined}
use Rattle.flow_explain.specs.Pieces.{piece_bytes}
use Rattle.flow_explain.proofs.pieces.LineBytes.disk_fails.Goals as goal

pub returns : goal.returns
returns c =
    let words : List ℕ → List ℕ → List ℕ = λ k p. joined (codes "event" ∷ decimal c.args.n ∷ codes "at" ∷ (decimal c.args.t ++ codes ":") ∷ codes "the next" ∷ k
    ∷ codes "disk requests of process" ∷ p ∷ codes "fail" ∷ []) in
    on_ok_weaker c.event.result
    (λ e. e ∙ ap (λ k. words k (piece_bytes c.process.result)) c.number.ensures ∙ ap (words (decimal c.args.k)) c.process.ensures)
    c.event.ensures
