use Rattle.std.proofs.Common.{[], ◌∷◌, ◌++◌, ap, ◌∙◌, append-nil, decimal, arith}
use Rattle.flow_trace.specs.Pieces.{piece_words}
use Rattle.flow_trace.proofs.pieces.numbered_with.Goals as goal

-- the last four pieces are absent
pub returns-clause-words : goal.returns-clause-words
returns-clause-words c =
    let third = piece_words c.args.third in
    ap (λ l. c.args.first.now ∷ decimal c.args.number ∷ l)
    (append-nil (((third ++ []) ++ []) ++ []) ∙ append-nil ((third ++ []) ++ []) ∙ append-nil (third ++ []) ∙ append-nil third)

pub returns-clause-room : goal.returns-clause-room
returns-clause-room c = omega arith
