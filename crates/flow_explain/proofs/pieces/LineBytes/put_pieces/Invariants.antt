use Rattle.std.proofs.Common.{◌≡◌, ◌++◌, map, drop}
use Rattle.flow_trace.specs.Bytes.{spaced}
use Rattle.flow_explain.specs.Pieces.{piece_bytes}
use Rattle.flow_explain.proofs.pieces.LineBytes.put_pieces.Given as goal

abbrev pub invariant-loop-piece : goal.invariant-loop-piece
invariant-loop-piece l =
    l.self ++ spaced (map piece_bytes (drop l.piece-index l.pieces)) ≡ l.initial.self ++ spaced (map piece_bytes l.pieces)
