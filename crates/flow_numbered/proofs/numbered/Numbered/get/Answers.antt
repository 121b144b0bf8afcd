use Rattle.std.proofs.Common.{◌≡◌, length, Some, None, sym, ap, ◌∙◌, arith}
use Rattle.flow_numbered.specs.Rows.{place_in}
use Rattle.flow_numbered.proofs.RowLemmas.{thing_miss, place_within, found, rising_in}
use Rattle.flow_numbered.proofs.numbered.Numbered.get.Goals as goal

pub returns-in_err-place-clause-value : goal.returns-in_err-place-clause-value
returns-in_err-place-clause-value g c =
    let e : place_in c.self.inside.rows.items c.args.number ≡ None = grind (arith, c.deref.ensures.value) in
    let f = thing_miss c.self.inside.rows.items c.args.number e in
    rw (← c.self.view_is) (cc f)

pub returns-in_err-place-clause-rising : goal.returns-in_err-place-clause-rising
returns-in_err-place-clause-rising g c = rw (← c.self.view_is) (rising_in 0 _ _ c.self.invariant)

pub index-requires : goal.index-requires
index-requires g c =
    let e : place_in c.self.inside.rows.items c.args.number ≡ Some c.in_ok-place.place = grind (arith, c.deref.ensures.value) in
    let within = place_within c.self.inside.rows.items c.args.number c.in_ok-place.place e in
    omega (arith, within, c.deref.ensures.len, ap length c.deref.ensures.value)

pub returns-clause-value : goal.returns-clause-value
returns-clause-value g c =
    let e : place_in c.self.inside.rows.items c.args.number ≡ Some c.in_ok-place.place = grind (arith, c.deref.ensures.value) in
    let f = found 0 c.self.inside.rows.items _ c.args.number _ c.index.result.now c.self.invariant e c.index.ensures in
    rw (← c.self.view_is) (c.as_ref.ensures.value ∙ sym f.value)

pub returns-clause-rising : goal.returns-clause-rising
returns-clause-rising g c = rw (← c.self.view_is) (rising_in 0 _ _ c.self.invariant)
