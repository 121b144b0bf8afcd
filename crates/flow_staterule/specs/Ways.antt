-- How walks through a body of statements leave it, and whether they pass a wait on the way.
--
-- Each statement is a node, a `for` a node besides its init and its step. A node leads on by the order of the text; an
-- `if` leads into its bodies, and past them without an `else`; a `while`, and a `for` with a condition, lead into the
-- body and past it, whatever the condition says, a `loop`, and a `for` without one, only into it; the end of a loop's
-- body leads back; a `choose` leads into each branch; `break`, `continue` and `return` lead as they say; a `throw` leads
-- to the catch alone. Each node in the body of a `try` leads besides to the innermost catch. A walk passes a wait where
-- it leaves a `wait` or a `choose`.
use Rattle.std.specs.Prelude.{ℕ, nat_eq, nat_lt, ◌-◌, Bool, true, false, ◌&&◌, ◌||◌, length, if◌then◌else◌}
use Rattle.std.specs.declared.option.Option.{Option}
use Rattle.std.specs.declared.option.Option.TheVariants.{None, Some}
use Rattle.flow_tree.specs.Body.{Body, End, BlockStmt, IfStmt, IfElseStmt, WhileStmt, ForStmt, LoopStmt, BreakStmt, ContinueStmt, ReturnStmt, ThrowStmt, TryStmt, ChooseStmt, DeclareStmt, AssignStmt, ModifyStmt, CallStmt, WaitStmt, Branches, NoBranches, MoreBranches}
use Rattle.flow_staterule.specs.declared.ways.Reached.{Reached}
use Rattle.flow_staterule.specs.declared.ways.Ways.{Ways}
use Rattle.flow_ast.specs.Slots.{body_groups, branch_groups}
use Rattle.flow_ast.specs.Typing.{is_there}

abbrev pub never : Reached
never = record { fresh = false; waited = false }

abbrev pub at_once : Reached
at_once = record { fresh = true; waited = false }

-- by walks of two kinds, and by walks that go on where others end
abbrev pub either : Reached → Reached → Reached
either r s = record { fresh = r.fresh || s.fresh; waited = r.waited || s.waited }

abbrev pub is_reached : Reached → Bool
is_reached r = r.fresh || r.waited

abbrev pub onward : Reached → Reached → Reached
onward r s = record { fresh = r.fresh && s.fresh; waited = (r.waited && is_reached s) || (r.fresh && s.waited) }

abbrev pub both : Ways → Ways → Ways
both w v = record {
  ends = either w.ends v.ends;
  breaks = either w.breaks v.breaks;
  continues = either w.continues v.continues;
  throws = either w.throws v.throws;
}

abbrev pub follow : Reached → Ways → Ways
follow r w = record { ends = onward r w.ends; breaks = onward r w.breaks; continues = onward r w.continues; throws = onward r w.throws }

-- a node that is left so, and no other way
abbrev pub node : Reached → Ways
node r = record { ends = never; breaks = never; continues = never; throws = r }

abbrev pub plain : Reached → Ways
plain r = record { ends = r; breaks = never; continues = never; throws = r }

-- one after the other
abbrev pub sequence : Ways → Ways → Ways
sequence w v = record {
  ends = onward w.ends v.ends;
  breaks = either w.breaks (onward w.ends v.breaks);
  continues = either w.continues (onward w.ends v.continues);
  throws = either w.throws (onward w.ends v.throws);
}

-- an empty body
abbrev pub empty : Ways
empty = record { ends = at_once; breaks = never; continues = never; throws = never }

-- by which walks a round of a loop comes to its end, or to the step of a `for`
abbrev pub round : Ways → Reached
round b = either b.ends b.continues

-- a round of a `for`: its body, and then its step
abbrev pub with_step : Ways → Ways → Ways
with_step b s = record {
  ends = onward (round b) s.ends;
  breaks = b.breaks;
  continues = never;
  throws = either b.throws (onward (round b) s.throws);
}

-- a loop by its round: its head is reached at once, and after each round; some loops lead past their body
abbrev pub head : Ways → Reached
head b = record { fresh = true; waited = (round b).waited }

abbrev pub past : Bool → Reached → Reached
past leads r = if leads then r else never

abbrev pub looped : Bool → Ways → Ways
looped leads b = record {
  ends = either (past leads (head b)) (onward (head b) b.breaks);
  breaks = never;
  continues = never;
  throws = either (head b) (onward (head b) b.throws);
}

-- a `try` with its handler
abbrev pub handled : Ways → Ways → Ways
handled b h = record {
  ends = either b.ends (onward b.throws h.ends);
  breaks = either b.breaks (onward b.throws h.breaks);
  continues = either b.continues (onward b.throws h.continues);
  throws = either at_once (onward b.throws h.throws);
}

-- behind a wait, of which the first n are looked for: others are as good as none
abbrev pub waited_at : ℕ → Reached
waited_at n = record { fresh = nat_eq n 0; waited = nat_lt 0 n }

-- the ways out of a body, of whose waits the first n are looked for
abbrev mutual
  pub ways : ℕ → Body → Ways
  ways n End = empty
  ways n (BlockStmt at b k) = sequence (both (node at_once) (ways n b)) (ways (n - length (body_groups b)) k)
  ways n (IfStmt at e b k) = sequence (both (plain at_once) (ways n b)) (ways (n - length (body_groups b)) k)
  ways n (IfElseStmt at e b c k) =
      sequence (both (node at_once) (both (ways n b) (ways (n - length (body_groups b)) c)))
      (ways (n - length (body_groups b) - length (body_groups c)) k)
  ways n (WhileStmt at e b k) = sequence (looped true (ways n b)) (ways (n - length (body_groups b)) k)
  ways n (ForStmt at i e t b k) =
      let s = n - length (body_groups i) in
      let m = s - length (body_groups t) in
      sequence (sequence (ways n i) (looped (is_there e) (with_step (ways m b) (ways s t)))) (ways (m - length (body_groups b)) k)
  ways n (LoopStmt at b k) = sequence (looped false (ways n b)) (ways (n - length (body_groups b)) k)
  ways n (BreakStmt at k) = record { ends = never; breaks = at_once; continues = never; throws = at_once }
  ways n (ContinueStmt at k) = record { ends = never; breaks = never; continues = at_once; throws = at_once }
  ways n (ReturnStmt at v k) = node at_once
  ways n (ThrowStmt at v k) = node at_once
  ways n (TryStmt at b q x h k) =
      sequence (handled (ways n b) (ways (n - length (body_groups b)) h)) (ways (n - length (body_groups b) - length (body_groups h)) k)
  ways n (ChooseStmt at bs k) =
      sequence (follow (waited_at n) (both (node at_once) (branch_ways (n - 1) bs))) (ways (n - 1 - length (branch_groups bs)) k)
  ways n (DeclareStmt at i v k) = sequence (plain at_once) (ways n k)
  ways n (AssignStmt at xs v k) = sequence (plain at_once) (ways n k)
  ways n (ModifyStmt at xs c k) = sequence (plain at_once) (ways n k)
  ways n (CallStmt at xs es k) = sequence (plain at_once) (ways n k)
  ways n (WaitStmt at w k) = sequence (plain (waited_at n)) (ways (n - 1) k)

  pub branch_ways : ℕ → Branches → Ways
  branch_ways n NoBranches = node never
  branch_ways n (MoreBranches at w b bs) = both (ways n b) (branch_ways (n - length (body_groups b)) bs)

-- an `if` whose first body is left so, and the waits in its `else`
abbrev pub branching : ℕ → Ways → Option Body → Ways
branching n b None = both (plain at_once) b
branching n b (Some c) = both (node at_once) (both b (ways n c))

abbrev pub else_waits : Option Body → ℕ
else_waits None = 0
else_waits (Some c) = length (body_groups c)
