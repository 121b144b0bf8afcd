use Rattle.std.proofs.Common.{◌≡◌, map, ap, sym, ◌∙◌}
use Rattle.flow_tree.specs.Tree.{CallExpr, MethodExpr}
use Rattle.flow_tree.specs.View.{expr_of, exprs_of}
use Rattle.flow_ast.specs.TypingNames.{named, call_names, method_names}
use Rattle.flow_code.specs.Resolved.Named.{naming_of}
use Rattle.flow_code.specs.Resolved.Resolving.{call_node, resolved, resolved_all}
use Rattle.flow_code.specs.Resolved.Tree.{MethodNode}
use Rattle.flow_code.specs.Resolved.View.{node_of, nodes_of}
use Rattle.flow_code.proofs.Resolved.Resolves.{args_resolved, call_text, method_text, method_node}
use Rattle.flow_code.proofs.expr.resolve.+resolve.Goals as goal

pub resolve-returns-in_ok-args-in-Call : goal.resolve-returns-in_ok-args-in-Call
resolve-returns-in_ok-args-in-Call g t c =
    let n = naming_of c.args.names.now (g.P.NamedPlaces.place_of c.args.places.now) in
    let args : nodes_of c.in_ok-args-in-Call.args.items ≡ resolved_all n (exprs_of c.in-Call.args.items) =
    args_resolved n c.in_ok-args-in-Call.args.items c.in-Call.args.items (c.in_ok-args-in-Call.ensures ∙ ap (map (λ e. resolved n (expr_of e))) c.deref.ensures.value) in
    c.called.ensures
    ∙ ap (λ x. call_node (named call_names x) (n.record_of x) (n.function x) (nodes_of c.in_ok-args-in-Call.args.items)) c.bytes-in-Call.ensures.bytes
    ∙ ap (call_node (named call_names c.in-Call.name.name) (n.record_of c.in-Call.name.name) (n.function c.in-Call.name.name)) args
    ∙ ap (resolved n) (sym (ap expr_of c.in-Call.is ∙ call_text c.in-Call.name c.in-Call.args))

pub resolve-returns-in_ok-args-in-Method : goal.resolve-returns-in_ok-args-in-Method
resolve-returns-in_ok-args-in-Method g t c =
    let n = naming_of c.args.names.now (g.P.NamedPlaces.place_of c.args.places.now) in
    let args : nodes_of c.in_ok-args-in-Method.args.items ≡ resolved_all n (exprs_of c.in-Method.args.items) =
    args_resolved n c.in_ok-args-in-Method.args.items c.in-Method.args.items (c.in_ok-args-in-Method.ensures ∙ ap (map (λ e. resolved n (expr_of e))) c.deref-in-Method-2.ensures.value) in
    let of : node_of c.in_ok-of-in-Method.of.value ≡ resolved n (expr_of c.in-Method.of.value) =
    ap node_of c.in_ok-of-in-Method.ensures ∙ c.in_ok-resolve-in-Method.ensures ∙ ap (λ e. resolved n (expr_of e)) c.deref-in-Method.ensures in
    method_node c.in_ok-of-in-Method.of c.predefined_method.result c.in_ok-args-in-Method.args
    ∙ ap (λ m. MethodNode (node_of c.in_ok-of-in-Method.of.value) m (nodes_of c.in_ok-args-in-Method.args.items))
    (c.predefined_method.ensures ∙ ap (named method_names) c.bytes-in-Method.ensures.bytes)
    ∙ ap (λ o. MethodNode o (named method_names c.in-Method.name.name) (nodes_of c.in_ok-args-in-Method.args.items)) of
    ∙ ap (MethodNode (resolved n (expr_of c.in-Method.of.value)) (named method_names c.in-Method.name.name)) args
    ∙ ap (resolved n) (sym (ap expr_of c.in-Method.is ∙ method_text c.in-Method.of c.in-Method.name c.in-Method.args))
