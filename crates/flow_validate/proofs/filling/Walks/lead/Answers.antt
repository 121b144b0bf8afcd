use Rattle.std.specs.Option.{option_map}
use Rattle.std.proofs.Common.{◌++◌}
use Rattle.flow_class.specs.View.{class_of, catcher_of, last_of}
use Rattle.flow_validate.specs.WalkStates.{standing, handler_ways, last_ways, Entered}
use Rattle.flow_validate.proofs.Entering.{entered_then, ok_then}
use Rattle.flow_validate.proofs.filling.Walks.lead.Goals as goal

pub returns : goal.returns
returns c =
    let class = class_of c.args.class.now in
    let front = handler_ways class c.args.window (option_map catcher_of c.args.block.now.catcher) c.args.passage.thrown in
    let back = last_ways class c.args.window (last_of c.args.block.now.last) c.args.passage.empty in
    let old = standing c.args.self.now in
    let mid = standing c.enter_handler.new.self in
    let new = standing c.leave.new.self in
    ok_then c.leave.result (Entered mid new back) (Entered old new (front ++ back)) (entered_then old mid new front back c.in_ok-enter_handler.ensures) c.leave.ensures
