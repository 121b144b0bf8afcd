use Rattle.std.proofs.Common.{refl}
use Rattle.std.proofs.lemmas.Result.{err_from_is_err_and}
use Rattle.flow_tree.specs.declared.limits.TheConstants.{OF_CLASS_TEXT}
use Rattle.flow_tree.specs.declared.token.Token.TheVariants as token
use Rattle.flow_tree.specs.declared.token.Word.TheVariants as word
use Rattle.flow_parse.specs.Reading.{token_at, Any}
use Rattle.flow_parse.proofs.Looking.{not_true}
use Rattle.flow_parse.proofs.Leaves.{nothing, narrow, done, fails}
use Rattle.flow_classread.specs.Parts.{Operand}
use Rattle.flow_classread.proofs.Combine.{behind_here, behind_reads, behind_fails}
use Rattle.flow_classread.proofs.GroupForms.{next_turns, wait_turns}
use Rattle.flow_classread.proofs.Links.{some_test}
use Rattle.flow_classread.proofs.group.operand.Goals as goal

pub returns-in_err-of-clause-reads : goal.returns-in_err-of-clause-reads
returns-in_err-of-clause-reads c =
    let t = c.args.tokens.now in
    let e = c.if-is_word.ensures.word.0 refl in
    let l = behind_here t (token.Word word.WaitNext) some_test (narrow OF_CLASS_TEXT t.spots.items e next_turns (nothing OF_CLASS_TEXT t.spots.items Operand Any c.args.at c.requires.within)) e in
    let p = err_from_is_err_and c.from_residual.result c.from_residual.ensures.1 in
    rw (p.1, p.2) (fails OF_CLASS_TEXT t l _ c.in_err-of.ensures.reads)

pub returns-then-is_word-clause-reads : goal.returns-then-is_word-clause-reads
returns-then-is_word-clause-reads c =
    let t = c.args.tokens.now in
    let e = c.if-is_word.ensures.word.0 refl in
    let l = behind_here t (token.Word word.WaitNext) some_test (narrow OF_CLASS_TEXT t.spots.items e next_turns (nothing OF_CLASS_TEXT t.spots.items Operand Any c.args.at c.requires.within)) e in
    done OF_CLASS_TEXT t.spots.items l c.in_ok-of.ensures.reads

pub returns-in_err-at-clause-reads : goal.returns-in_err-at-clause-reads
returns-in_err-at-clause-reads c =
    let t = c.args.tokens.now in
    let l = narrow OF_CLASS_TEXT t.spots.items refl (wait_turns (token_at t.spots.items c.args.at) (λ e. not_true (c.if-is_word.ensures.word.1 e)))
    (nothing OF_CLASS_TEXT t.spots.items Operand Any c.args.at c.requires.within) in
    let p = err_from_is_err_and c.from_residual-in_err-at.result c.from_residual-in_err-at.ensures.1 in
    rw (p.1, p.2) (behind_fails t (token.Word word.Wait) some_test l _ (c.in_err-at.ensures.reads OF_CLASS_TEXT))

pub returns-in_err-of-2-clause-reads : goal.returns-in_err-of-2-clause-reads
returns-in_err-of-2-clause-reads c =
    let t = c.args.tokens.now in
    let l = narrow OF_CLASS_TEXT t.spots.items refl (wait_turns (token_at t.spots.items c.args.at) (λ e. not_true (c.if-is_word.ensures.word.1 e)))
    (nothing OF_CLASS_TEXT t.spots.items Operand Any c.args.at c.requires.within) in
    let m = behind_reads t (token.Word word.Wait) some_test l (c.in_ok-at.ensures.reads OF_CLASS_TEXT) in
    let p = err_from_is_err_and c.from_residual-in_err-of-2.result c.from_residual-in_err-of-2.ensures.1 in
    rw (p.1, p.2) (fails OF_CLASS_TEXT t m _ c.in_err-of-2.ensures.reads)

pub returns-clause-reads : goal.returns-clause-reads
returns-clause-reads c =
    let t = c.args.tokens.now in
    let l = narrow OF_CLASS_TEXT t.spots.items refl (wait_turns (token_at t.spots.items c.args.at) (λ e. not_true (c.if-is_word.ensures.word.1 e)))
    (nothing OF_CLASS_TEXT t.spots.items Operand Any c.args.at c.requires.within) in
    let m = behind_reads t (token.Word word.Wait) some_test l (c.in_ok-at.ensures.reads OF_CLASS_TEXT) in
    done OF_CLASS_TEXT t.spots.items m c.in_ok-of-2.ensures.reads
