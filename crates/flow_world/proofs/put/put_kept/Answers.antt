use Rattle.std.proofs.Common.{rules, ◌≡◌, ◌+◌, [], ◌∷◌, map, drop, get_or, sym, ap, ◌∙◌, subst, arith}
use Rattle.std.proofs.lemmas.List.{drop_more, drop_all}
use Rattle.flow_meaning.specs.World.{kept_line}
use Rattle.flow_world.specs.Around.{Puts, no_line, more_lines, PutsPart, put_then}
use Rattle.flow_world.proofs.Putting.{on_err, part_more}
use Rattle.flow_world.proofs.put.put_kept.Goals as goal

pub loop-kept-preserved : goal.loop-kept-preserved
loop-kept-preserved g c =
    let i = c.loop-kept.kept-index in
    let all = c.args.fates.now in
    let item : get_or all i c.kept-item.result ≡ c.kept-item.result = search rules in
    let split : drop i all ≡ c.kept-item.result ∷ drop (i + 1) all = drop_more all i c.kept-item.result c.loop-kept-test.true ∙ ap (λ k. k ∷ drop (i + 1) all) item in
    record {
      risen = search rules;
      same = search rules;
      puts = λ after rest.
          c.loop-kept.invariant.puts after
          (subst (λ ks. Puts g.L.LineOut.puts c.loop-kept.out (map kept_line ks) after) (sym split) (more_lines c.in_ok-put_one.ensures.puts rest));
      part = λ after rest.
          c.loop-kept.invariant.part after
          (subst (λ ks. PutsPart g.L.LineOut.puts c.loop-kept.out (map kept_line ks) after) (sym split) (put_then c.in_ok-put_one.ensures.puts rest));
    }

pub returns-clause-puts : goal.returns-clause-puts
returns-clause-puts g c =
    c.loop-kept.invariant.puts _
    (subst (λ ks. Puts g.L.LineOut.puts c.loop-kept.out (map kept_line ks) c.loop-kept.out) (sym (drop_all c.loop-kept.kept-index c.args.fates.now (omega (arith, c.loop-kept-test.false)))) no_line)

pub returns-in_err-put_one-clause-part : goal.returns-in_err-put_one-clause-part
returns-in_err-put_one-clause-part g c =
    let i = c.loop-kept.kept-index in
    let all = c.args.fates.now in
    let item : get_or all i c.kept-item.result ≡ c.kept-item.result = search rules in
    let split : drop i all ≡ c.kept-item.result ∷ drop (i + 1) all = drop_more all i c.kept-item.result c.loop-kept-test.true ∙ ap (λ k. k ∷ drop (i + 1) all) item in
    on_err _ c.from_residual.result
    (c.loop-kept.invariant.part _
    (subst (λ ks. PutsPart g.L.LineOut.puts c.loop-kept.out (map kept_line ks) c.put_one.new.out) (sym split)
    (part_more g.L.LineOut.puts c.loop-kept.out c.put_one.new.out (kept_line c.kept-item.result ∷ []) (map kept_line (drop (i + 1) all)) c.in_err-put_one.ensures.part)))
