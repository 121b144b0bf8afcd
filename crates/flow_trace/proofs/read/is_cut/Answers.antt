use Rattle.std.proofs.Common.{sym, ◌∙◌, take, length, ◌-◌}
use Rattle.std.proofs.lemmas.Slice.Eq.{bytes_eq-Decides}
use Rattle.flow_trace.proofs.Lines.{cut_same, cut_back}
use Rattle.flow_trace.proofs.read.is_cut.Goals as goal

pub returns-then-last-eq10 : goal.returns-then-last-eq10
returns-then-last-eq10 c =
    let bytes = c.args.bytes.now in
    let printed = c.args.printed.now in
    let compared = bytes_eq-Decides bytes (take (length printed - 1) printed) in (
      λ same. cut_same bytes printed c.in-len1-up.len_at_least c.if-last-eq10.true (compared.0 (sym c.eq.ensures ∙ same)),
      λ cut. c.eq.ensures ∙ compared.1 (cut_back bytes printed cut),
    )
