-- The pieces that a line in words is put together from.
use Rattle.std.specs.Prelude.{ℕ, List, [], ◌∷◌, ◌++◌, decimal}
use Rattle.std.specs.Fmt.{signed_decimal}
use Rattle.flow_base.specs.Quote.{quoted}
use Rattle.flow_explain.specs.declared.pieces.Piece.{Piece}
use Rattle.flow_explain.specs.declared.pieces.Piece.TheVariants.{Words, Number, Marked, Integer, Quoted, Spot}
use Rattle.flow_explain.specs.Phrases.{spot}

-- how a piece is spelled
abbrev pub piece_bytes : Piece → List ℕ
piece_bytes (Words bytes) = bytes.now
piece_bytes (Number n) = decimal n
piece_bytes (Marked n sign) = decimal n ++ sign ∷ []
piece_bytes (Integer z) = signed_decimal z
piece_bytes (Quoted bytes) = quoted bytes.now
piece_bytes (Spot at) = spot at
