use Rattle.std.proofs.Common.{◌++◌, ap, ◌∙◌, append_assoc, codes}
use Rattle.flow_refusal.proofs.waiting.put_name.Goals as goal

pub returns : goal.returns
returns c =
    let out = c.args.out.now.items in
    let name = c.args.name.now in
    c.in_ok-extend_from_slice-3.ensures.items
    ∙ ap (λ l. l ++ codes ", waits here\n") (c.in_ok-extend_from_slice-2.ensures.items ∙ ap (λ l. l ++ name) c.in_ok-extend_from_slice.ensures.items)
    ∙ append_assoc (out ++ codes ", ") name (codes ", waits here\n") ∙ append_assoc out (codes ", ") (name ++ codes ", waits here\n")
