use Rattle.std.proofs.Common.{◌≡◌, ℕ, ◌+◌, ◌*◌, List, [], ◌∷◌, ◌++◌, map, sym, ap, ◌∙◌, codes, append_assoc, append-nil}
use Rattle.std.specs.List.{flat_map, range_with_len}
use Rattle.std.proofs.lemmas.Result.{on_ok_weaker}
use Rattle.flow_chart.specs.Elements.{Element, Holding, element_bytes, opening, closing}
use Rattle.flow_chart.specs.Picture.{height, worded, measured, label, bar_element, bars_left, way_element, note_elements, plain_text, styles, ground, elements}
use Rattle.flow_chart.proofs.Gathered.{all_parts}
use Rattle.flow_chart.proofs.page.Page.draw.Goals as goal

pub returns : goal.returns
returns c =
    let d = c.args.drawing.now in
    let n = c.args.processes in
    let low = height d.cursor.row in
    let bottom : c.height-bottom.result ≡ low = c.height-bottom.ensures ∙ ap height c.row.ensures in
    let attributes = λ (h : ℕ). worded (codes "xmlns") (codes "http://www.w3.org/2000/svg")
    ∷ measured (codes "width") (110 + 190 * n) ∷ measured (codes "height") (h + 40) ∷ [] in
    let head = opening (codes "svg") (attributes low) in
    let g : List Element = Holding (codes "style") [] styles ∷ ground ∷ [] in
    let l : List Element = map label (range_with_len 0 n) in
    let b : List Element = map bar_element d.uptimes.over in
    let r : List Element = map bar_element (bars_left n d.cursor.row d.uptimes.since) in
    let w : List Element = map way_element d.packets.over in
    let m : List Element = flat_map note_elements d.notes in
    let last : Element = plain_text 8 (low + 28) d.end in
    let more : List ℕ → List Element → List ℕ = λ old es. old ++ flat_map element_bytes es in
    let begun : c.begin.new.self ≡ (c.args.self.now ++ head) ++ 62 ∷ 10 ∷ [] =
    c.in_ok-begin.ensures ∙ ap (λ h. (c.args.self.now ++ opening (codes "svg") (attributes h)) ++ 62 ∷ 10 ∷ []) bottom in
    let grounded = c.in_ok-ground.ensures ∙ ap (λ x. more x g) begun in
    let labelled = c.in_ok-put_labels.ensures ∙ ap (λ x. more x l) grounded in
    let barred = c.in_ok-put_bars.ensures
    ∙ ap (λ bs. more c.put_labels.new.self (map bar_element bs)) (c.over.ensures ∙ ap (λ u. u.over) c.uptimes.ensures)
    ∙ ap (λ x. more x b) labelled in
    let left = c.in_ok-put_bars_left.ensures
    ∙ ap (λ k. more c.put_bars.new.self (map bar_element (bars_left n k c.uptimes-2.result.now.since))) c.row-2.ensures
    ∙ ap (λ u. more c.put_bars.new.self (map bar_element (bars_left n d.cursor.row u.since))) c.uptimes-2.ensures
    ∙ ap (λ x. more x r) barred in
    let ways = c.in_ok-put_ways.ensures
    ∙ ap (λ ws. more c.put_bars_left.new.self (map way_element ws)) (c.over-2.ensures ∙ ap (λ p. p.over) c.packets.ensures)
    ∙ ap (λ x. more x w) left in
    let noted = c.in_ok-put_notes.ensures
    ∙ ap (λ ns. more c.put_ways.new.self (flat_map note_elements ns)) c.notes.ensures
    ∙ ap (λ x. more x m) ways in
    let ended = c.in_ok-plain_text.ensures
    ∙ ap (λ h. c.put_notes.new.self ++ element_bytes (plain_text 8 (h + 28) c.end.result.now)) bottom
    ∙ ap (λ t. c.put_notes.new.self ++ element_bytes (plain_text 8 (low + 28) t)) c.end.ensures
    ∙ ap (λ x. c.put_notes.new.self ++ x) (sym (append-nil (element_bytes last)))
    ∙ ap (λ x. more x (last ∷ [])) noted
    ∙ all_parts (c.args.self.now ++ head) g l b r w m (last ∷ []) in
    on_ok_weaker c.close.result
    (λ e.
    e
    ∙ ap (λ x. x ++ closing (codes "svg")) ended
    ∙ ap (λ x. x ++ closing (codes "svg")) (append_assoc c.args.self.now head (62 ∷ 10 ∷ flat_map element_bytes (elements n d)))
    ∙ append_assoc c.args.self.now (head ++ 62 ∷ 10 ∷ flat_map element_bytes (elements n d)) (closing (codes "svg")))
    c.close.ensures
