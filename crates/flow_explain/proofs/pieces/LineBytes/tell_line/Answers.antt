use Rattle.std.proofs.Common.{[], ◌∷◌, ◌++◌, map, sym, ap, ◌∙◌, codes, decimal}
use Rattle.std.proofs.lemmas.Result.{on_ok_weaker}
use Rattle.flow_trace.specs.Bytes.{joined, spelled}
use Rattle.flow_explain.specs.Phrases.{phrase}
use Rattle.flow_explain.proofs.pieces.LineBytes.tell_line.Goals as goal

pub returns-in-Read : goal.returns-in-Read
returns-in-Read c =
    let arm = c.in-Read in
    on_ok_weaker c.of_disk.result
    (λ e.
    e
    ∙ ap (λ a. joined (codes "event" ∷ decimal arm.n ∷ codes "at" ∷ (decimal arm.t ++ codes ":") ∷ codes "the disk of process" ∷ decimal arm.p.0
    ∷ codes "answers a" ∷ codes "read:" ∷ a ∷ [])) c.text_or_fail.ensures
    ∙ ap (λ l. joined (map spelled (phrase c.args.texts.now c.args.told.now l))) (sym arm.is))
    c.of_disk.ensures

pub returns-in-Write : goal.returns-in-Write
returns-in-Write c =
    let arm = c.in-Write in
    on_ok_weaker c.of_disk-in-Write.result
    (λ e.
    e
    ∙ ap (λ a. joined (codes "event" ∷ decimal arm.n ∷ codes "at" ∷ (decimal arm.t ++ codes ":") ∷ codes "the disk of process" ∷ decimal arm.p.0
    ∷ codes "answers a" ∷ codes "write:" ∷ a ∷ [])) c.outcome.ensures
    ∙ ap (λ l. joined (map spelled (phrase c.args.texts.now c.args.told.now l))) (sym arm.is))
    c.of_disk-in-Write.ensures
