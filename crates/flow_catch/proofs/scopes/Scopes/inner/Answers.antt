use Rattle.std.proofs.Common.{arith, sym, ap, ◌∙◌, take}
use Rattle.flow_class.specs.Scopes.{scope, outside}
use Rattle.flow_catch.specs.Inner.{scope_of}
use Rattle.flow_catch.proofs.ScopeLists.{inner_step}
use Rattle.flow_catch.proofs.scopes.Scopes.inner.Goals as goal

pub loop-left-preserved : goal.loop-left-preserved
loop-left-preserved c = (
  omega (arith, c.loop-left.invariant.0, c.outer-at.ensures.within),
  inner_step c.args.depth c.loop-left._left (scope_of (take c.loop-left.at c.self.inside.entries.items)) (scope_of (take c.outer-at.result c.self.inside.entries.items)) _ _ _ _
      (omega (arith, c.loop-left-test.true))
      (c.in_ok-found.ensures ∙ ap (λ l. scope (scope_of (take c.loop-left.at l))) c.deref.ensures.value)
      (ap (λ l. scope_of (take c.outer-at.result l)) (sym c.deref-in-loop-left.ensures.value) ∙ c.outer-at.ensures.outside
      ∙ ap (λ l. outside (scope_of (take c.loop-left.at l))) c.deref-in-loop-left.ensures.value)
      c.in_ok-append.ensures.items c.loop-left.invariant.1,
)
