use Rattle.std.proofs.Common.{◌++◌, map, sym, ap, ◌∙◌, append-nil}
use Rattle.std.specs.List.{flat_map}
use Rattle.std.proofs.lemmas.Result.{on_ok_weaker}
use Rattle.flow_chart.specs.Drawing.{if_any}
use Rattle.flow_chart.specs.Elements.{element_bytes}
use Rattle.flow_chart.specs.Picture.{bar_element}
use Rattle.flow_chart.proofs.page.Page.maybe_bar.Goals as goal

pub returns-in-Some : goal.returns-in-Some
returns-in-Some c =
    on_ok_weaker c.bar.result
    (λ e.
    e
    ∙ ap (λ l. c.args.self.now ++ l) (sym (append-nil (element_bytes (bar_element c.in-Some.bar))))
    ∙ ap (λ o. c.args.self.now ++ flat_map element_bytes (map bar_element (if_any o))) (sym c.in-Some.is))
    c.bar.ensures

pub returns-in-None : goal.returns-in-None
returns-in-None c =
    sym (append-nil c.args.self.now)
    ∙ ap (λ o. c.args.self.now ++ flat_map element_bytes (map bar_element (if_any o))) (sym c.in-None.is)
