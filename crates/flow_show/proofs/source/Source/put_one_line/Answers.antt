use Rattle.std.proofs.Common.{◌++◌, refl, ap, ◌∙◌}
use Rattle.std.specs.Prelude.{codes}
use Rattle.flow_tree.specs.View.{exprs_of}
use Rattle.flow_tree.specs.Canon.{line, call_text}
use Rattle.flow_tree.proofs.Views.{kind_break, kind_continue, kind_return, kind_throw, kind_declare, kind_assign, kind_modify, kind_call, kind_wait}
use Rattle.flow_show.proofs.StatementKinds.{puts_kind}
use Rattle.flow_show.proofs.source.Source.put_one_line.Goals as goal

pub returns-in_ok-put_declare_line-in-Declare : goal.returns-in_ok-put_declare_line-in-Declare
returns-in_ok-put_declare_line-in-Declare c =
    puts_kind c.args.level c.args.stmt.now _ _ _ _ _ c.in-Declare.is (kind_declare c.in-Declare.into c.in-Declare.value) (λ at rest. refl)
    c.in_ok-put_declare_line-in-Declare.ensures

pub returns-in_ok-put_assign_line-in-Assign : goal.returns-in_ok-put_assign_line-in-Assign
returns-in_ok-put_assign_line-in-Assign c =
    puts_kind c.args.level c.args.stmt.now _ _ _ _ _ c.in-Assign.is (kind_assign c.in-Assign.target c.in-Assign.value) (λ at rest. refl)
    c.in_ok-put_assign_line-in-Assign.ensures

pub returns-in_ok-put_modify_line-in-Modify : goal.returns-in_ok-put_modify_line-in-Modify
returns-in_ok-put_modify_line-in-Modify c =
    puts_kind c.args.level c.args.stmt.now _ _ _ _ _ c.in-Modify.is (kind_modify c.in-Modify.target c.in-Modify.change) (λ at rest. refl)
    c.in_ok-put_modify_line-in-Modify.ensures

pub returns-in_ok-put_wait_line-in-Wait : goal.returns-in_ok-put_wait_line-in-Wait
returns-in_ok-put_wait_line-in-Wait c =
    puts_kind c.args.level c.args.stmt.now _ _ _ _ _ c.in-Wait.is (kind_wait c.in-Wait.waiting) (λ at rest. refl)
    c.in_ok-put_wait_line-in-Wait.ensures

pub returns-in_ok-put_call_line-in-Call : goal.returns-in_ok-put_call_line-in-Call
returns-in_ok-put_call_line-in-Call c =
    puts_kind c.args.level c.args.stmt.now _ _ _ _ _ c.in-Call.is (kind_call c.in-Call.target c.in-Call.args) (λ at rest. refl)
    (c.in_ok-put_call_line-in-Call.ensures ∙ ap (λ l. c.args.self.now ++ line c.args.level (call_text c.in-Call.target.path.items (exprs_of l) ++ codes ";")) c.deref.ensures.value)

pub returns-in_ok-put_line-in-Break : goal.returns-in_ok-put_line-in-Break
returns-in_ok-put_line-in-Break c =
    puts_kind c.args.level c.args.stmt.now _ _ _ _ _ c.in-Break.is kind_break (λ at rest. refl) c.in_ok-put_line-in-Break.ensures

pub returns-in_ok-put_line-in-Continue : goal.returns-in_ok-put_line-in-Continue
returns-in_ok-put_line-in-Continue c =
    puts_kind c.args.level c.args.stmt.now _ _ _ _ _ c.in-Continue.is kind_continue (λ at rest. refl) c.in_ok-put_line-in-Continue.ensures

pub returns-in_ok-put_exit-in-Return : goal.returns-in_ok-put_exit-in-Return
returns-in_ok-put_exit-in-Return c =
    puts_kind c.args.level c.args.stmt.now _ _ _ _ _ c.in-Return.is (kind_return c.in-Return.value) (λ at rest. refl) c.in_ok-put_exit-in-Return.ensures

pub returns-in_ok-put_exit-in-Throw : goal.returns-in_ok-put_exit-in-Throw
returns-in_ok-put_exit-in-Throw c =
    puts_kind c.args.level c.args.stmt.now _ _ _ _ _ c.in-Throw.is (kind_throw c.in-Throw.error) (λ at rest. refl) c.in_ok-put_exit-in-Throw.ensures
