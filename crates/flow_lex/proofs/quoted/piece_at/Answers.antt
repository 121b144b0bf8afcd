use Rattle.std.proofs.Common.{inl, inr, sym, arith}
use Rattle.flow_lex.proofs.Pieces.{plain_piece, escape_piece, code_piece, no_code}
use Rattle.flow_lex.proofs.quoted.piece_at.Goals as goal

pub returns-then-is_plain : goal.returns-then-is_plain
returns-then-is_plain c = plain_piece c.args.text.now (omega arith) (sym c.if-is_plain.ensures)

pub returns-in-Some : goal.returns-in-Some
returns-in-Some c = escape_piece c.args.text.now c.in-Some.b (omega arith) (omega arith) c.in-Some.ensures

pub returns-in_default-hex_digit : goal.returns-in_default-hex_digit
returns-in_default-hex_digit c = no_code c.args.text.now (sym c.if-is_plain.ensures) (sym c.in_default.ensures) (inl (sym c.in_default-hex_digit.ensures.value))

pub returns-in_default-hex_digit-2 : goal.returns-in_default-hex_digit-2
returns-in_default-hex_digit-2 c = no_code c.args.text.now (sym c.if-is_plain.ensures) (sym c.in_default.ensures) (inr (sym c.in_default-hex_digit-2.ensures.value))

pub returns : goal.returns
returns c = code_piece c.args.text.now c.in-Some-hex_digit.high c.in-Some-hex_digit-2.low (omega arith) (omega arith)
    (omega arith) c.in-Some-hex_digit.ensures.value c.in-Some-hex_digit-2.ensures.value
