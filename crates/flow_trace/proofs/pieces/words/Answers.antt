use Rattle.std.proofs.Common.{[], ◌∷◌, ◌++◌, ap, append-nil, arith}
use Rattle.flow_trace.specs.Pieces.{piece_words}
use Rattle.flow_trace.proofs.pieces.words.Goals as goal

-- the last two pieces are absent
pub returns-clause-words : goal.returns-clause-words
returns-clause-words c =
    ap (λ l. c.args.first.now ∷ l)
    (append-nil (((((piece_words c.args.second ++ piece_words c.args.third) ++ piece_words c.args.fourth) ++ piece_words c.args.fifth) ++ [])))

pub returns-clause-room : goal.returns-clause-room
returns-clause-room c = omega arith
