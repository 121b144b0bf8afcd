use Rattle.std.proofs.Common.{◌≡◌, ◌+◌, ◌*◌, max, drop}
use denote.Param.Weighed.{most}
use Rattle.flow_tree.proofs.expr.Expr.TheLaws.{the_size}
use Rattle.flow_tree.specs.View.{exprs_of}
use Rattle.flow_rules.specs.Least.{lesser}
use Rattle.flow_rules.specs.Judged.{faults}
use Rattle.flow_types.specs.View.{needs_view}
use Rattle.flow_types.specs.SettingView.{setting_view}
use Rattle.flow_types.proofs.judge.Setting.+judge.Given as goal

abbrev pub invariant-judge_args-loop-number : goal.invariant-judge_args-loop-number
invariant-judge_args-loop-number l =
    lesser l.fault (faults (setting_view l.self) l.number (needs_view l.needs) (exprs_of (drop l.number l.args)))
    ≡ faults (setting_view l.self) 0 (needs_view l.needs) (exprs_of l.args)

-- an expression, then a list, then a base with a list or an index
abbrev pub decreases-judge : goal.decreases-judge
decreases-judge l = 3 * goal.size-judge l

abbrev pub decreases-judge_args : goal.decreases-judge_args
decreases-judge_args l = 3 * goal.size-judge_args l + 1

abbrev pub decreases-judge_index : goal.decreases-judge_index
decreases-judge_index l = 3 * max (the_size l.of.now) (the_size l.index.now) + 2

abbrev pub decreases-judge_method : goal.decreases-judge_method
decreases-judge_method l = 3 * max (the_size l.of.now) (most the_size l.args.now) + 2
