use Rattle.std.proofs.Common.{◌≡◌, map, take}
use Rattle.flow_tree.specs.View.{expr_of}
use Rattle.flow_code.specs.Resolved.Named.{naming_of}
use Rattle.flow_code.specs.Resolved.Resolving.{resolved}
use Rattle.flow_code.specs.Resolved.View.{node_of}
use Rattle.flow_code.proofs.expr.resolve.+resolve.Given as goal

abbrev pub invariant-resolve_all-loop-expr : goal.invariant-resolve_all-loop-expr
invariant-resolve_all-loop-expr g l =
    map node_of l.resolved.items ≡ map (λ e. resolved (naming_of l.names (g.P.NamedPlaces.place_of l.places)) (expr_of e)) (take l.expr-index l.exprs)
