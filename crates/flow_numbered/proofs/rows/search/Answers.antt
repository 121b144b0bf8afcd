use Rattle.std.proofs.Common.{◌≡◌, ◌+◌, ◌<◌, length, Some, sym, arith}
use Rattle.std.proofs.lemmas.Bool.Decides.{nat_tests}
use Rattle.flow_numbered.proofs.RowLemmas.{place_within, place_of_at, at_here, after_it, before_it}
use Rattle.flow_numbered.proofs.rows.search.Goals as goal

pub loop-low-init : goal.loop-low-init
loop-low-init g c = (omega arith, λ i e. (omega arith, place_within c.args.rows.now c.args.number i e))

pub returns-then-found-number : goal.returns-then-found-number
returns-then-found-number g c =
    let rs = c.args.rows.now in
    let place = c.loop-low.low + c.min.result in
    let within : place < length rs = grind (arith, c.min.ensures, c.loop-low-test.true, c.loop-low.invariant.0) in
    let row = c.index-rows-middle.result in
    let same : row.number ≡ c.args.number = grind (arith, nat_tests, c.if-found-number.true) in
    sym (place_of_at 0 rs c.requires.0 c.args.number place c.requires.1 (at_here rs c.args.number place row within c.index-rows-middle.is same))

pub loop-low-preserved-then-found-number-2 : goal.loop-low-preserved-then-found-number-2
loop-low-preserved-then-found-number-2 g c =
    let rs = c.args.rows.now in
    let place = c.loop-low.low + c.min.result in
    let within : place < length rs = grind (arith, c.min.ensures, c.loop-low-test.true, c.loop-low.invariant.0) in
    let row = c.index-rows-middle.result in
    let less : row.number < c.args.number = grind (arith, nat_tests, c.if-found-number-2.true) in (
      c.loop-low.invariant.0,
      λ i e.
          let old = c.loop-low.invariant.1 i e in
          let after = after_it 0 rs c.requires.0 c.args.number place i row c.requires.1 within c.index-rows-middle.is less e in
          (omega (arith, after), old.1),
    )

pub loop-low-preserved : goal.loop-low-preserved
loop-low-preserved g c =
    let rs = c.args.rows.now in
    let place = c.loop-low.low + c.min.result in
    let within : place < length rs = grind (arith, c.min.ensures, c.loop-low-test.true, c.loop-low.invariant.0) in
    let row = c.index-rows-middle.result in
    let more : c.args.number < row.number = grind (arith, nat_tests, c.if-found-number.false, c.if-found-number-2.false) in (
      omega (arith, within),
      λ i e.
          let old = c.loop-low.invariant.1 i e in
          let before = before_it 0 rs c.requires.0 c.args.number place i row c.requires.1 within c.index-rows-middle.is more e in
          (old.0, before),
    )
