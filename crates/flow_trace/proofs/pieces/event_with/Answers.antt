use Rattle.std.proofs.Common.{[], ◌∷◌, ◌++◌, ap, ◌∙◌, append-nil, codes, decimal}
use Rattle.flow_trace.specs.Pieces.{piece_words}
use Rattle.flow_trace.proofs.pieces.event_with.Goals as goal

-- the last piece is absent
pub returns-clause-words : goal.returns-clause-words
returns-clause-words c =
    let sixth = piece_words c.args.sixth in
    ap (λ n. codes "event" ∷ decimal c.args.number ∷ decimal c.args.time ∷ c.args.what.now ∷ decimal n ∷ sixth ++ []) c.from.ensures
    ∙ ap (λ l. codes "event" ∷ decimal c.args.number ∷ decimal c.args.time ∷ c.args.what.now ∷ decimal c.args.process.0 ∷ l) (append-nil sixth)
