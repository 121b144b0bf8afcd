-- The pieces that a line is printed from.
use Rattle.std.specs.Prelude.{ℕ, ◌+◌, ◌*◌, List, [], ◌∷◌, ◌++◌, length, decimal}
use Rattle.flow_base.specs.Quote.{quoted}
use Rattle.std.specs.Fmt.{signed_decimal}
use Rattle.flow_trace.specs.declared.pieces.Piece.{Piece}
use Rattle.flow_trace.specs.declared.pieces.Piece.TheVariants.{Absent, Word, Number, Integer, Quoted}
use Rattle.flow_trace.specs.declared.pieces.Pieces.{Pieces}

-- a piece's word, where there is one
abbrev pub piece_words : Piece → List (List ℕ)
piece_words Absent = []
piece_words (Word bytes) = bytes.now ∷ []
piece_words (Number n) = decimal n ∷ []
piece_words (Integer z) = signed_decimal z ∷ []
piece_words (Quoted bytes) = quoted bytes.now ∷ []

-- the words of a line
abbrev pub words_of : Pieces → List (List ℕ)
words_of p =
    p.first.now ∷ piece_words p.second ++ piece_words p.third ++ piece_words p.fourth ++ piece_words p.fifth
    ++ piece_words p.sixth ++ piece_words p.seventh

-- room enough for a piece and the space before it
abbrev pub piece_room : Piece → ℕ
piece_room Absent = 0
piece_room (Word bytes) = 1 + length bytes.now
piece_room (Number n) = 21
piece_room (Integer z) = 21
piece_room (Quoted bytes) = 3 + 4 * length bytes.now

-- room enough for a line and its line feed
abbrev pub room_of : Pieces → ℕ
room_of p =
    length p.first.now + piece_room p.second + piece_room p.third + piece_room p.fourth + piece_room p.fifth
    + piece_room p.sixth + piece_room p.seventh + 1
