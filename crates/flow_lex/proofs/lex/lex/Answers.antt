use Rattle.std.proofs.Common.{[], ◌∷◌, refl, ap, subst, sym, ◌∙◌, ◌++◌, take, length, cond, is_ok, arith}
use Rattle.flow_tree.specs.Lexing.{ReadsTokens, here}
use Rattle.flow_lex.proofs.Reading.{read_gap, read_token, has_room, read_whole}
use Rattle.flow_lex.proofs.lex.lex.Goals as goal

pub loop-rest-init : goal.loop-rest-init
loop-rest-init c =
    ([], refl, subst (λ s. ReadsTokens [] c.args.bytes.now s [] c.args.bytes.now) (sym c.new-spots.ensures.items) here)

pub past-at-requires-clause-line : goal.past-at-requires-clause-line
past-at-requires-clause-line c =
    let i = c.loop-rest.invariant in
    (has_room c.args.bytes.now i.0 c.loop-rest.rest.now c.loop-rest.spots.items c.loop-rest.at _ c.requires i.1 i.2 c.gap_len-gap.ensures.within).line

pub past-at-requires-clause-column : goal.past-at-requires-clause-column
past-at-requires-clause-column c =
    let i = c.loop-rest.invariant in
    (has_room c.args.bytes.now i.0 c.loop-rest.rest.now c.loop-rest.spots.items c.loop-rest.at _ c.requires i.1 i.2 c.gap_len-gap.ensures.within).column

pub past-at-requires-clause-byte : goal.past-at-requires-clause-byte
past-at-requires-clause-byte c =
    let i = c.loop-rest.invariant in
    (has_room c.args.bytes.now i.0 c.loop-rest.rest.now c.loop-rest.spots.items c.loop-rest.at _ c.requires i.1 i.2 c.gap_len-gap.ensures.within).byte

pub loop-rest-preserved-then-gap-gt0 : goal.loop-rest-preserved-then-gap-gt0
loop-rest-preserved-then-gap-gt0 c =
    let i = c.loop-rest.invariant in
    let n = c.gap_len-gap.result in
    let before' = i.0 ++ take n c.loop-rest.rest.now in (
      before',
      c.past-at.ensures i.0 i.1,
      subst (λ t. ReadsTokens [] c.args.bytes.now c.loop-rest.spots.items before' t) (sym c.after-rest.ensures)
          (read_gap c.args.bytes.now i.0 c.loop-rest.rest.now c.loop-rest.spots.items n i.2 c.gap_len-gap.ensures.length c.if-gap-gt0.true),
    )

pub token_at-requires-clause-line : goal.token_at-requires-clause-line
token_at-requires-clause-line c =
    let i = c.loop-rest.invariant in
    (has_room c.args.bytes.now i.0 c.loop-rest.rest.now c.loop-rest.spots.items c.loop-rest.at (length c.loop-rest.rest.now) c.requires i.1 i.2 (omega arith)).line

pub token_at-requires-clause-column : goal.token_at-requires-clause-column
token_at-requires-clause-column c =
    let i = c.loop-rest.invariant in
    (has_room c.args.bytes.now i.0 c.loop-rest.rest.now c.loop-rest.spots.items c.loop-rest.at (length c.loop-rest.rest.now) c.requires i.1 i.2 (omega arith)).column

pub token_at-requires-clause-byte : goal.token_at-requires-clause-byte
token_at-requires-clause-byte c =
    let i = c.loop-rest.invariant in
    (has_room c.args.bytes.now i.0 c.loop-rest.rest.now c.loop-rest.spots.items c.loop-rest.at (length c.loop-rest.rest.now) c.requires i.1 i.2 (omega arith)).byte

pub past-at-requires-else-gap-gt0-clause-line : goal.past-at-requires-else-gap-gt0-clause-line
past-at-requires-else-gap-gt0-clause-line c =
    let i = c.loop-rest.invariant in
    (has_room c.args.bytes.now i.0 c.loop-rest.rest.now c.loop-rest.spots.items c.loop-rest.at _ c.requires i.1 i.2 (c.in_ok-token.ensures i.0 i.1).0.within).line

pub past-at-requires-else-gap-gt0-clause-column : goal.past-at-requires-else-gap-gt0-clause-column
past-at-requires-else-gap-gt0-clause-column c =
    let i = c.loop-rest.invariant in
    (has_room c.args.bytes.now i.0 c.loop-rest.rest.now c.loop-rest.spots.items c.loop-rest.at _ c.requires i.1 i.2 (c.in_ok-token.ensures i.0 i.1).0.within).column

pub past-at-requires-else-gap-gt0-clause-byte : goal.past-at-requires-else-gap-gt0-clause-byte
past-at-requires-else-gap-gt0-clause-byte c =
    let i = c.loop-rest.invariant in
    (has_room c.args.bytes.now i.0 c.loop-rest.rest.now c.loop-rest.spots.items c.loop-rest.at _ c.requires i.1 i.2 (c.in_ok-token.ensures i.0 i.1).0.within).byte

pub loop-rest-preserved : goal.loop-rest-preserved
loop-rest-preserved c =
    let i = c.loop-rest.invariant in
    let n = c.in_ok-token.n in
    let before' = i.0 ++ take n c.loop-rest.rest.now in
    let found = c.in_ok-token.ensures i.0 i.1 in
    let pushed = c.push.ensures.items ∙ ap (λ b. cond b (c.loop-rest.spots.items ++ record { token = c.in_ok-token.token; at = c.loop-rest.at } ∷ []) c.loop-rest.spots.items)
    (ap is_ok c.in_ok-push.was) in (
      before',
      c.past-at-else-gap-gt0.ensures i.0 i.1,
      subst (λ t. ReadsTokens [] c.args.bytes.now c.push.new.self.items before' t) (sym c.after-rest-else-gap-gt0.ensures)
          (read_token c.args.bytes.now i.0 c.loop-rest.rest.now c.loop-rest.spots.items c.push.new.self.items c.in_ok-token.token n c.loop-rest.at i.2 found.0 found.1 i.1 pushed),
    )

pub returns : goal.returns
returns c =
    let i = c.loop-rest.invariant in
    read_whole c.args.bytes.now i.0 c.loop-rest.rest.now c.loop-rest.spots.items c.loop-rest.at i.2 (omega arith) i.1
