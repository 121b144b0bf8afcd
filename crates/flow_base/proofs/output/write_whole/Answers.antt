-- What one more write took goes behind what was written before.
use Rattle.std.proofs.Common.{◌≡◌, ℕ, ◌-◌, List, ◌++◌, length, take, drop, sym, ap, ◌∙◌, append_assoc, take-append-drop, arith}
use Rattle.std.proofs.lemmas.List.{take_rest}
use Rattle.std.proofs.KnownBytes.{Appends-trans}
use Rattle.flow_base.proofs.Growing.{grows_trans}
use Rattle.flow_base.proofs.output.write_whole.Goals as goal

split_later : (piece done rest : List ℕ) (n : ℕ) → piece ≡ done ++ rest → piece ≡ (done ++ take n rest) ++ take (length rest - n) (drop n rest)
split_later piece done rest n split =
    let taken : rest ≡ take n rest ++ take (length rest - n) (drop n rest) =
    sym (take-append-drop n rest) ∙ ap (λ back. take n rest ++ back) (sym (take_rest rest n)) in
    split ∙ ap (λ back. done ++ back) taken ∙ sym (append_assoc done (take n rest) (take (length rest - n) (drop n rest)))

pub loop-rest-preserved : goal.loop-rest-preserved
loop-rest-preserved g c =
    let (done, split, appended) = c.loop-rest.invariant.written in
    let rest = c.loop-rest.rest.now in
    let n = c.in_ok-count.count in
    record {
      written = (done ++ take n rest, split_later _ done rest n split, Appends-trans _ _ _ _ _ appended c.in_ok-count.ensures.bytes);
      handed = grows_trans _ _ _ c.loop-rest.invariant.handed c.write.ensures.handed;
      kept = omega (arith, c.loop-rest.invariant.kept, c.write.ensures.cause.kept);
    }
