use Rattle.std.proofs.lemmas.Result.{err_from_is_err_and}
use Rattle.flow_tree.specs.declared.limits.TheConstants.{OF_CLASS_TEXT}
use Rattle.flow_parse.proofs.Leaves.{done, fails, first_fails, then_reads, nothing}
use Rattle.flow_classread.proofs.Combine.{behind_fails, behind_reads}
use Rattle.flow_tree.specs.declared.token.Token.TheVariants as token
use Rattle.flow_parse.specs.Reading.{Any}
use Rattle.flow_classread.proofs.Combine.{as_left}
use Rattle.std.specs.Prelude.{codes}
use Rattle.flow_tree.specs.declared.token.Word.TheVariants as word
use Rattle.flow_classread.specs.Parts.{BranchPart, branch_tree, Branch}
use Rattle.flow_classread.proofs.Links.{branch_test_link, some_branch_numbers, branch_number_link, some_target}
use Rattle.flow_classread.proofs.instr.branch.Goals as goal

pub returns-in_err-condition-clause-reads : goal.returns-in_err-condition-clause-reads
returns-in_err-condition-clause-reads c =
    let t = c.args.tokens.now in
    let l = as_left branch_tree Branch t (nothing OF_CLASS_TEXT t.spots.items BranchPart Any c.args.at c.requires.within) in
    let p = err_from_is_err_and c.from_residual.result c.from_residual.ensures.1 in
    rw (p.1, p.2) (first_fails OF_CLASS_TEXT t branch_test_link l _ c.in_err-condition.ensures.reads)

pub returns-in_err-at-clause-reads : goal.returns-in_err-at-clause-reads
returns-in_err-at-clause-reads c =
    let t = c.args.tokens.now in
    let l = then_reads OF_CLASS_TEXT t.spots.items branch_test_link (as_left branch_tree Branch t (nothing OF_CLASS_TEXT t.spots.items BranchPart Any c.args.at c.requires.within))
    c.in_ok-condition.ensures.reads in
    let p = err_from_is_err_and c.from_residual-in_err-at.result c.from_residual-in_err-at.ensures.1 in
    rw (p.1, p.2) (behind_fails t (token.Name (codes "goto")) some_branch_numbers l _ c.in_err-at.ensures.reads)

pub returns-in_err-yes-clause-reads : goal.returns-in_err-yes-clause-reads
returns-in_err-yes-clause-reads c =
    let t = c.args.tokens.now in
    let l = behind_reads t (token.Name (codes "goto")) some_branch_numbers
    (then_reads OF_CLASS_TEXT t.spots.items branch_test_link (as_left branch_tree Branch t (nothing OF_CLASS_TEXT t.spots.items BranchPart Any c.args.at c.requires.within))
    c.in_ok-condition.ensures.reads) c.in_ok-at.ensures.reads in
    let p = err_from_is_err_and c.from_residual-in_err-yes.result c.from_residual-in_err-yes.ensures.1 in
    rw (p.1, p.2) (first_fails OF_CLASS_TEXT t branch_number_link l _ c.in_err-yes.ensures.reads)

pub returns-in_err-at-2-clause-reads : goal.returns-in_err-at-2-clause-reads
returns-in_err-at-2-clause-reads c =
    let t = c.args.tokens.now in
    let l = then_reads OF_CLASS_TEXT t.spots.items branch_number_link
    (behind_reads t (token.Name (codes "goto")) some_branch_numbers
    (then_reads OF_CLASS_TEXT t.spots.items branch_test_link (as_left branch_tree Branch t (nothing OF_CLASS_TEXT t.spots.items BranchPart Any c.args.at c.requires.within))
    c.in_ok-condition.ensures.reads) c.in_ok-at.ensures.reads) c.in_ok-yes.ensures.reads in
    let p = err_from_is_err_and c.from_residual-in_err-at-2.result c.from_residual-in_err-at-2.ensures.1 in
    rw (p.1, p.2) (behind_fails t (token.Word word.Else) some_target l _ (c.in_err-at-2.ensures.reads OF_CLASS_TEXT))

pub returns-in_err-no-clause-reads : goal.returns-in_err-no-clause-reads
returns-in_err-no-clause-reads c =
    let t = c.args.tokens.now in
    let l = behind_reads t (token.Word word.Else) some_target (then_reads OF_CLASS_TEXT t.spots.items branch_number_link
    (behind_reads t (token.Name (codes "goto")) some_branch_numbers
    (then_reads OF_CLASS_TEXT t.spots.items branch_test_link (as_left branch_tree Branch t (nothing OF_CLASS_TEXT t.spots.items BranchPart Any c.args.at c.requires.within))
    c.in_ok-condition.ensures.reads) c.in_ok-at.ensures.reads) c.in_ok-yes.ensures.reads) (c.in_ok-at-2.ensures.reads OF_CLASS_TEXT) in
    let p = err_from_is_err_and c.from_residual-in_err-no.result c.from_residual-in_err-no.ensures.1 in
    rw (p.1, p.2) (fails OF_CLASS_TEXT t l _ c.in_err-no.ensures.reads)

pub returns-clause-reads : goal.returns-clause-reads
returns-clause-reads c =
    let t = c.args.tokens.now in
    let l = behind_reads t (token.Word word.Else) some_target (then_reads OF_CLASS_TEXT t.spots.items branch_number_link
    (behind_reads t (token.Name (codes "goto")) some_branch_numbers
    (then_reads OF_CLASS_TEXT t.spots.items branch_test_link (as_left branch_tree Branch t (nothing OF_CLASS_TEXT t.spots.items BranchPart Any c.args.at c.requires.within))
    c.in_ok-condition.ensures.reads) c.in_ok-at.ensures.reads) c.in_ok-yes.ensures.reads) (c.in_ok-at-2.ensures.reads OF_CLASS_TEXT) in
    done OF_CLASS_TEXT t.spots.items l c.in_ok-no.ensures.reads
