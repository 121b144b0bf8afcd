use Rattle.std.proofs.Common.{◌∷◌, ap, sym, ◌∙◌}
use Rattle.flow_code.specs.Resolved.View.{nodes_of}
use Rattle.flow_code.specs.Coding.{coded_method}
use Rattle.flow_code.specs.Coder.{coding_of}
use Rattle.flow_code.proofs.Paths.{method_coded}
use Rattle.flow_code.proofs.coding.Coder.act.Goals as goal

pub returns : goal.returns
returns c =
    let d = coding_of c.args.self.now in
    let x = c.in-Some-split_first.first.now in
    let ps = c.in-Some-split_first.path.now in
    method_coded d _ (nodes_of c.args.args.items) c.args.target.now.path.items c.in-Some.before.now ps x c.in-Some.last.now
    (sym c.deref.ensures.value ∙ c.in-Some.ensures.cases.0) c.in-Some-split_first.ensures.cases.0
    (c.in_ok-method.ensures ∙ ap (λ n. coded_method d (x ∷ ps) n (nodes_of c.args.args.items)) c.bytes-name.ensures.bytes)
