use Rattle.std.proofs.Common.{ℕ, List, [], ◌∷◌, map, sym, ap, ◌∙◌, codes, decimal, option_copied}
use Rattle.std.proofs.lemmas.Result.{on_ok_weaker}
use Rattle.std.specs.declared.option.Option.{Option}
use Rattle.flow_base.specs.declared.place.Place.{Place}
use Rattle.flow_trace.specs.Bytes.{joined, spelled}
use Rattle.flow_explain.specs.Texts.{ActorText}
use Rattle.flow_explain.specs.Phrases.{phrase, who, wait_of, wait_place, branch_place, spot, error_fields}
use Rattle.flow_explain.proofs.pieces.LineBytes.inner_line.Goals as goal

pub returns-in-Wait : goal.returns-in-Wait
returns-in-Wait c =
    let arm = c.in-Wait in
    let words : List ℕ → Option Place → List ℕ = λ x at. joined ([] ∷ [] ∷ [] ∷ [] ∷ x ∷ decimal arm.a.0 ∷ codes "waits at" ∷ spot at ∷ []) in
    let told : Option ActorText → List ℕ = λ o. words (spelled (who o)) (wait_place (wait_of o arm.group)) in
    on_ok_weaker c.deed-in-Wait.result
    (λ e.
    e
    ∙ ap (λ x. words x c.wait_place.result) c.name_of.ensures
    ∙ ap (words (spelled (who (option_copied c.text-text.result)))) c.wait_place.ensures
    ∙ ap told c.text-text.ensures
    ∙ ap (λ l. joined (map spelled (phrase c.args.texts.now c.args.told.now l))) (sym arm.is))
    c.deed-in-Wait.ensures

pub returns-in-Take : goal.returns-in-Take
returns-in-Take c =
    let arm = c.in-Take in
    let words : List ℕ → Option Place → List ℕ = λ x at. joined ([] ∷ [] ∷ [] ∷ [] ∷ x ∷ decimal arm.a.0 ∷ codes "goes on at" ∷ spot at ∷ []) in
    let told : Option ActorText → List ℕ = λ o. words (spelled (who o)) (branch_place (wait_of o arm.group) arm.branch) in
    on_ok_weaker c.deed-in-Take.result
    (λ e.
    e
    ∙ ap (λ x. words x c.branch_place.result) c.name_of-in-Take.ensures
    ∙ ap (words (spelled (who (option_copied c.text-text-in-Take.result)))) c.branch_place.ensures
    ∙ ap told c.text-text-in-Take.ensures
    ∙ ap (λ l. joined (map spelled (phrase c.args.texts.now c.args.told.now l))) (sym arm.is))
    c.deed-in-Take.ensures

pub returns-in-Throw : goal.returns-in-Throw
returns-in-Throw c =
    let arm = c.in-Throw in
    let words : List ℕ → List ℕ = λ x. joined ([] ∷ [] ∷ [] ∷ [] ∷ x ∷ decimal arm.a.0 ∷ codes "throws" ∷ map spelled (error_fields arm.e)) in
    on_ok_weaker c.error_deed.result
    (λ e.
    e
    ∙ ap words c.name_of-in-Throw.ensures
    ∙ ap (λ o. words (spelled (who o))) c.text.ensures
    ∙ ap (λ l. joined (map spelled (phrase c.args.texts.now c.args.told.now l))) (sym arm.is))
    c.error_deed.ensures

pub returns-in-Catch : goal.returns-in-Catch
returns-in-Catch c =
    let arm = c.in-Catch in
    let words : List ℕ → List ℕ = λ x. joined ([] ∷ [] ∷ [] ∷ [] ∷ x ∷ decimal arm.a.0 ∷ codes "catches" ∷ map spelled (error_fields arm.e)) in
    on_ok_weaker c.error_deed-in-Catch.result
    (λ e.
    e
    ∙ ap words c.name_of-in-Catch.ensures
    ∙ ap (λ o. words (spelled (who o))) c.text-in-Catch.ensures
    ∙ ap (λ l. joined (map spelled (phrase c.args.texts.now c.args.told.now l))) (sym arm.is))
    c.error_deed-in-Catch.ensures

pub returns-in-Finish : goal.returns-in-Finish
returns-in-Finish c =
    let arm = c.in-Finish in
    let words : List ℕ → List ℕ = λ x. joined ([] ∷ [] ∷ [] ∷ [] ∷ x ∷ decimal arm.a.0 ∷ codes "ends" ∷ []) in
    on_ok_weaker c.deed-in-Finish.result
    (λ e.
    e
    ∙ ap words c.name_of-in-Finish.ensures
    ∙ ap (λ o. words (spelled (who o))) c.text-in-Finish.ensures
    ∙ ap (λ l. joined (map spelled (phrase c.args.texts.now c.args.told.now l))) (sym arm.is))
    c.deed-in-Finish.ensures

pub returns-in-Cancel : goal.returns-in-Cancel
returns-in-Cancel c =
    let arm = c.in-Cancel in
    let words : List ℕ → List ℕ = λ x. joined ([] ∷ [] ∷ [] ∷ [] ∷ x ∷ decimal arm.a.0 ∷ codes "is cancelled" ∷ []) in
    on_ok_weaker c.deed-in-Cancel.result
    (λ e.
    e
    ∙ ap words c.name_of-in-Cancel.ensures
    ∙ ap (λ o. words (spelled (who o))) c.text-in-Cancel.ensures
    ∙ ap (λ l. joined (map spelled (phrase c.args.texts.now c.args.told.now l))) (sym arm.is))
    c.deed-in-Cancel.ensures
