use Rattle.std.proofs.Common.{◌≡◌, ℕ, List, [], ◌∷◌, length, refl, subst, arith}
use Rattle.flow_class.specs.View.{class_of}
use Rattle.flow_validate.specs.WalkStates.{WalkState, standing, PassesOr}
use Rattle.flow_validate.proofs.Followed.{passed_more, all_filled}
use Rattle.flow_validate.proofs.filling.Walks.pass_all.Goals as goal

none_left : (xs : List ℕ) → length xs ≡ 0 → xs ≡ []
none_left [] h = refl
none_left (x ∷ xs) h = absurd (omega (arith, h))

pub loop-block-preserved : goal.loop-block-preserved
loop-block-preserved c =
    let class = class_of c.args.class.now in
    let popped : WalkState = record { entries = c.loop-block.self.entries.items; todo = c.pop.new.self.items } in
    let new = standing c.pass.new.self in
    passed_more class c.args.window (standing c.loop-block.self) popped new c.in-Some.block refl c.in-Some.ensures.items c.loop-block.invariant
    (subst (PassesOr class c.args.window popped new c.in-Some.block) c.if-not-branch.false c.in_ok-pass.ensures)

pub returns : goal.returns
returns c =
    all_filled (class_of c.args.class.now) c.args.window (standing c.loop-block.self) (none_left c.loop-block.self.todo.items (omega (arith, c.in_default.ensures.cases.0))) c.loop-block.invariant
