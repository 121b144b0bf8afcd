use Rattle.std.proofs.Common.{ℕ, List, [], ◌∷◌, ◌++◌, ap, ◌∙◌, codes}
use Rattle.std.proofs.lemmas.Result.{on_ok_weaker}
use Rattle.flow_chart.specs.Elements.{Empty, element_bytes}
use Rattle.flow_chart.specs.Picture.{column, worded, measured}
use Rattle.flow_chart.proofs.page.Page.dot.Goals as goal

pub returns : goal.returns
returns c =
    let drawn : ℕ → ℕ → List ℕ = λ x y. c.args.self.now ++ element_bytes (Empty (codes "circle") (worded (codes "class") (codes "e")
    ∷ measured (codes "cx") x ∷ measured (codes "cy") y ∷ worded (codes "r") (codes "3") ∷ [])) in
    on_ok_weaker c.empty.result
    (λ e. e ∙ ap (λ x. drawn x c.height.result) c.column.ensures ∙ ap (drawn (column c.args.at.column)) c.height.ensures)
    c.empty.ensures
