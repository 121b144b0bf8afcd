use Rattle.std.proofs.Common.{refl}
use Rattle.std.proofs.lemmas.Result.{err_from_is_err_and}
use Rattle.flow_tree.specs.declared.limits.TheConstants.{OF_CLASS_TEXT}
use Rattle.flow_parse.specs.Reading.{token_at, Any}
use Rattle.flow_parse.proofs.Looking.{not_true}
use Rattle.flow_parse.proofs.Leaves.{nothing, narrow, done, fails}
use Rattle.flow_classread.proofs.Combine.{behind_here, behind_reads, behind_fails}
use Rattle.std.specs.Prelude.{codes}
use Rattle.flow_tree.specs.declared.token.Token.TheVariants as token
use Rattle.flow_tree.specs.declared.token.Word.TheVariants as word
use Rattle.flow_classprint.specs.ClassGrammar.{LastRule}
use Rattle.flow_classread.proofs.InstrForms.{goto_turns, pass_turns, test_turns, choose_turns, return_turns, throw_else, some_branch}
use Rattle.flow_classread.proofs.Links.{some_target, some_ended, some_returned}
use Rattle.flow_classread.proofs.instr.last.Goals as goal

pub returns-in_err-block-clause-reads : goal.returns-in_err-block-clause-reads
returns-in_err-block-clause-reads c =
    let t = c.args.tokens.now in
    let l = behind_here t (token.Name (codes "goto")) some_target
    (narrow OF_CLASS_TEXT t.spots.items (c.if-says.ensures.says.0 refl) (goto_turns c.args.version) (nothing OF_CLASS_TEXT t.spots.items (LastRule c.args.version) Any c.args.at c.requires.within))
    (c.if-says.ensures.says.0 refl) in
    let p = err_from_is_err_and c.from_residual.result c.from_residual.ensures.1 in
    rw (p.1, p.2) (fails OF_CLASS_TEXT t l _ c.in_err-block.ensures.reads)

pub returns-then-says-clause-reads : goal.returns-then-says-clause-reads
returns-then-says-clause-reads c =
    let t = c.args.tokens.now in
    let l = behind_here t (token.Name (codes "goto")) some_target
    (narrow OF_CLASS_TEXT t.spots.items (c.if-says.ensures.says.0 refl) (goto_turns c.args.version) (nothing OF_CLASS_TEXT t.spots.items (LastRule c.args.version) Any c.args.at c.requires.within))
    (c.if-says.ensures.says.0 refl) in
    done OF_CLASS_TEXT t.spots.items l c.in_ok-block.ensures.reads

pub returns-in_err-block-2-clause-reads : goal.returns-in_err-block-2-clause-reads
returns-in_err-block-2-clause-reads c =
    let t = c.args.tokens.now in
    let l = behind_here t (token.Name (codes "pass")) some_target
    (narrow OF_CLASS_TEXT t.spots.items (c.if-says-2.ensures.says.0 refl) (pass_turns c.args.version) (nothing OF_CLASS_TEXT t.spots.items (LastRule c.args.version) Any c.args.at c.requires.within))
    (c.if-says-2.ensures.says.0 refl) in
    let p = err_from_is_err_and c.from_residual-in_err-block-2.result c.from_residual-in_err-block-2.ensures.1 in
    rw (p.1, p.2) (fails OF_CLASS_TEXT t l _ c.in_err-block-2.ensures.reads)

pub returns-then-says-2-clause-reads : goal.returns-then-says-2-clause-reads
returns-then-says-2-clause-reads c =
    let t = c.args.tokens.now in
    let l = behind_here t (token.Name (codes "pass")) some_target
    (narrow OF_CLASS_TEXT t.spots.items (c.if-says-2.ensures.says.0 refl) (pass_turns c.args.version) (nothing OF_CLASS_TEXT t.spots.items (LastRule c.args.version) Any c.args.at c.requires.within))
    (c.if-says-2.ensures.says.0 refl) in
    done OF_CLASS_TEXT t.spots.items l c.in_ok-block-2.ensures.reads

pub returns-in_err-last-clause-reads : goal.returns-in_err-last-clause-reads
returns-in_err-last-clause-reads c =
    let t = c.args.tokens.now in
    let l = behind_here t (token.Name (codes "test")) some_branch
    (narrow OF_CLASS_TEXT t.spots.items (c.if-says-3.ensures.says.0 refl) (test_turns c.args.version) (nothing OF_CLASS_TEXT t.spots.items (LastRule c.args.version) Any c.args.at c.requires.within))
    (c.if-says-3.ensures.says.0 refl) in
    let p = err_from_is_err_and c.from_residual-in_err-last.result c.from_residual-in_err-last.ensures.1 in
    rw (p.1, p.2) (fails OF_CLASS_TEXT t l _ c.in_err-last.ensures.reads)

pub returns-then-says-3-clause-reads : goal.returns-then-says-3-clause-reads
returns-then-says-3-clause-reads c =
    let t = c.args.tokens.now in
    let l = behind_here t (token.Name (codes "test")) some_branch
    (narrow OF_CLASS_TEXT t.spots.items (c.if-says-3.ensures.says.0 refl) (test_turns c.args.version) (nothing OF_CLASS_TEXT t.spots.items (LastRule c.args.version) Any c.args.at c.requires.within))
    (c.if-says-3.ensures.says.0 refl) in
    done OF_CLASS_TEXT t.spots.items l c.in_ok-last.ensures.reads

pub returns-in_err-group-clause-reads : goal.returns-in_err-group-clause-reads
returns-in_err-group-clause-reads c =
    let t = c.args.tokens.now in
    let l = behind_here t (token.Word word.Choose) some_target (narrow OF_CLASS_TEXT t.spots.items (c.if-is_word.ensures.word.0 refl) (choose_turns c.args.version)
    (nothing OF_CLASS_TEXT t.spots.items (LastRule c.args.version) Any c.args.at c.requires.within)) (c.if-is_word.ensures.word.0 refl) in
    let p = err_from_is_err_and c.from_residual-in_err-group.result c.from_residual-in_err-group.ensures.1 in
    rw (p.1, p.2) (fails OF_CLASS_TEXT t l _ c.in_err-group.ensures.reads)

pub returns-then-is_word-clause-reads : goal.returns-then-is_word-clause-reads
returns-then-is_word-clause-reads c =
    let t = c.args.tokens.now in
    let l = behind_here t (token.Word word.Choose) some_target (narrow OF_CLASS_TEXT t.spots.items (c.if-is_word.ensures.word.0 refl) (choose_turns c.args.version)
    (nothing OF_CLASS_TEXT t.spots.items (LastRule c.args.version) Any c.args.at c.requires.within)) (c.if-is_word.ensures.word.0 refl) in
    done OF_CLASS_TEXT t.spots.items l c.in_ok-group.ensures.reads

pub returns-in_err-value-clause-reads : goal.returns-in_err-value-clause-reads
returns-in_err-value-clause-reads c =
    let t = c.args.tokens.now in
    let l = behind_here t (token.Word word.Return) (some_returned c.args.version) (narrow OF_CLASS_TEXT t.spots.items (c.if-is_word-2.ensures.word.0 refl) (return_turns c.args.version)
    (nothing OF_CLASS_TEXT t.spots.items (LastRule c.args.version) Any c.args.at c.requires.within)) (c.if-is_word-2.ensures.word.0 refl) in
    let p = err_from_is_err_and c.from_residual-in_err-value.result c.from_residual-in_err-value.ensures.1 in
    rw (p.1, p.2) (fails OF_CLASS_TEXT t l _ c.in_err-value.ensures.reads)

pub returns-then-is_word-2-clause-reads : goal.returns-then-is_word-2-clause-reads
returns-then-is_word-2-clause-reads c =
    let t = c.args.tokens.now in
    let l = behind_here t (token.Word word.Return) (some_returned c.args.version) (narrow OF_CLASS_TEXT t.spots.items (c.if-is_word-2.ensures.word.0 refl) (return_turns c.args.version)
    (nothing OF_CLASS_TEXT t.spots.items (LastRule c.args.version) Any c.args.at c.requires.within)) (c.if-is_word-2.ensures.word.0 refl) in
    done OF_CLASS_TEXT t.spots.items l c.in_ok-value.ensures.reads

pub returns-in_err-at-clause-reads : goal.returns-in_err-at-clause-reads
returns-in_err-at-clause-reads c =
    let t = c.args.tokens.now in
    let l = narrow OF_CLASS_TEXT t.spots.items refl (throw_else c.args.version (token_at t.spots.items c.args.at) (λ e. not_true (c.if-says.ensures.says.1 e)) (λ e. not_true (c.if-says-2.ensures.says.1 e))
    (λ e. not_true (c.if-says-3.ensures.says.1 e)) (λ e. not_true (c.if-is_word.ensures.word.1 e)) (λ e. not_true (c.if-is_word-2.ensures.word.1 e)))
    (nothing OF_CLASS_TEXT t.spots.items (LastRule c.args.version) Any c.args.at c.requires.within) in
    let p = err_from_is_err_and c.from_residual-in_err-at.result c.from_residual-in_err-at.ensures.1 in
    rw (p.1, p.2) (behind_fails t (token.Word word.Throw) some_ended l _ (c.in_err-at.ensures.reads OF_CLASS_TEXT))

pub returns-in_err-error-clause-reads : goal.returns-in_err-error-clause-reads
returns-in_err-error-clause-reads c =
    let t = c.args.tokens.now in
    let l = behind_reads t (token.Word word.Throw) some_ended (narrow OF_CLASS_TEXT t.spots.items refl
    (throw_else c.args.version (token_at t.spots.items c.args.at) (λ e. not_true (c.if-says.ensures.says.1 e)) (λ e. not_true (c.if-says-2.ensures.says.1 e)) (λ e. not_true (c.if-says-3.ensures.says.1 e))
    (λ e. not_true (c.if-is_word.ensures.word.1 e)) (λ e. not_true (c.if-is_word-2.ensures.word.1 e))) (nothing OF_CLASS_TEXT t.spots.items (LastRule c.args.version) Any c.args.at c.requires.within))
    (c.in_ok-at.ensures.reads OF_CLASS_TEXT) in
    let p = err_from_is_err_and c.from_residual-in_err-error.result c.from_residual-in_err-error.ensures.1 in
    rw (p.1, p.2) (fails OF_CLASS_TEXT t l _ c.in_err-error.ensures.reads)

pub returns-clause-reads : goal.returns-clause-reads
returns-clause-reads c =
    let t = c.args.tokens.now in
    let l = behind_reads t (token.Word word.Throw) some_ended (narrow OF_CLASS_TEXT t.spots.items refl
    (throw_else c.args.version (token_at t.spots.items c.args.at) (λ e. not_true (c.if-says.ensures.says.1 e)) (λ e. not_true (c.if-says-2.ensures.says.1 e)) (λ e. not_true (c.if-says-3.ensures.says.1 e))
    (λ e. not_true (c.if-is_word.ensures.word.1 e)) (λ e. not_true (c.if-is_word-2.ensures.word.1 e))) (nothing OF_CLASS_TEXT t.spots.items (LastRule c.args.version) Any c.args.at c.requires.within))
    (c.in_ok-at.ensures.reads OF_CLASS_TEXT) in
    done OF_CLASS_TEXT t.spots.items l c.in_ok-error.ensures.reads
