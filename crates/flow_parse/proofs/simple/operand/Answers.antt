use Rattle.std.proofs.Common.{refl, suc, ◌+◌, inl, inr}
use Rattle.std.proofs.lemmas.Result.{err_from_is_err_and}
use Rattle.flow_tree.specs.declared.token.Token.TheVariants as token
use Rattle.flow_tree.specs.declared.token.Word.TheVariants as word
use Rattle.flow_parse.specs.Reading.{token_at, Any}
use Rattle.flow_parse.specs.Parts.{Test, OperandPart}
use Rattle.flow_parse.proofs.Looking.{not_true}
use Rattle.flow_parse.proofs.Leaves.{then_reads, done, tok_reads, deeper, fails, none_fails}
use Rattle.flow_parse.proofs.Deeper.{deeper_fails}
use Rattle.flow_parse.proofs.Inhabitants.{some_operand}
use Rattle.flow_parse.proofs.SimpleBacks.{no_wait}
use Rattle.flow_parse.proofs.UniqueParts.{which_wait}
use Rattle.flow_parse.proofs.Variables.{wait_left, wait_next_left, wait_link}
use Rattle.flow_parse.proofs.simple.operand.Goals as goal

pub returns-then-is_word-clause-reads : goal.returns-then-is_word-clause-reads
returns-then-is_word-clause-reads c = λ limits.
    let t = c.args.tokens.now in
    let e = c.if-is_word.ensures.word.0 refl in
    let l = then_reads limits t.spots.items (wait_link (token.Word word.WaitNext) (suc c.args.depth)) (wait_next_left limits t c.args.at c.args.depth c.requires.within e)
    (tok_reads limits t c.args.at (token.Word word.WaitNext) e) in
    done limits t.spots.items l (deeper limits Test c.args.depth (c.in_ok-of.ensures.reads limits))

pub returns-in_err-of-clause-reads : goal.returns-in_err-of-clause-reads
returns-in_err-of-clause-reads c = λ limits.
    let t = c.args.tokens.now in
    let e = c.if-is_word.ensures.word.0 refl in
    let l = then_reads limits t.spots.items (wait_link (token.Word word.WaitNext) (suc c.args.depth)) (wait_next_left limits t c.args.at c.args.depth c.requires.within e)
    (tok_reads limits t c.args.at (token.Word word.WaitNext) e) in
    let p = err_from_is_err_and c.from_residual.result c.from_residual.ensures.1 in
    rw (p.1, p.2) (fails limits t l c.in_err-of.field-0.0 (deeper_fails limits Test Any t (c.args.at + 1) c.args.depth c.in_err-of.field-0.0 (c.in_err-of.ensures.reads limits)))

pub returns-then-is_word-2-clause-reads : goal.returns-then-is_word-2-clause-reads
returns-then-is_word-2-clause-reads c = λ limits.
    let t = c.args.tokens.now in
    let e = c.if-is_word-2.ensures.word.0 refl in
    let l = then_reads limits t.spots.items (wait_link (token.Word word.Wait) (suc c.args.depth)) (wait_left limits t c.args.at c.args.depth c.requires.within e)
    (tok_reads limits t c.args.at (token.Word word.Wait) e) in
    done limits t.spots.items l (deeper limits Test c.args.depth (c.in_ok-of-2.ensures.reads limits))

pub returns-in_err-of-2-clause-reads : goal.returns-in_err-of-2-clause-reads
returns-in_err-of-2-clause-reads c = λ limits.
    let t = c.args.tokens.now in
    let e = c.if-is_word-2.ensures.word.0 refl in
    let l = then_reads limits t.spots.items (wait_link (token.Word word.Wait) (suc c.args.depth)) (wait_left limits t c.args.at c.args.depth c.requires.within e)
    (tok_reads limits t c.args.at (token.Word word.Wait) e) in
    let p = err_from_is_err_and c.from_residual-in_err-of-2.result c.from_residual-in_err-of-2.ensures.1 in
    rw (p.1, p.2) (fails limits t l c.in_err-of-2.field-0.0 (deeper_fails limits Test Any t (c.args.at + 1) c.args.depth c.in_err-of-2.field-0.0 (c.in_err-of-2.ensures.reads limits)))

pub returns-clause-reads : goal.returns-clause-reads
returns-clause-reads c = λ limits.
    let t = c.args.tokens.now in
    let o = token_at t.spots.items c.args.at in
    rw c.refused.ensures (none_fails limits (OperandPart c.args.depth) Any t c.args.at (some_operand c.args.depth)
    (λ w z b r f l. no_wait z o (λ h. elim (which_wait o h) [ inl e ↦ not_true (c.if-is_word-2.ensures.word.1 e) | inr e ↦ not_true (c.if-is_word.ensures.word.1 e) ]) r l))
