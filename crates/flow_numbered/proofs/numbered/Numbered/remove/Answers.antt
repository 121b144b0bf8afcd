use Rattle.std.proofs.Common.{◌≡◌, length, set, Some, refl, sym, ap, ◌∙◌, arith}
use Rattle.flow_numbered.specs.Rows.{place_in, things_in}
use Rattle.flow_numbered.proofs.RowLemmas.{place_within, place_there, found, rising_in, rise_set, less_found}
use Rattle.flow_numbered.proofs.numbered.Numbered.remove.Goals as goal

pub unwrap-place-requires : goal.unwrap-place-requires
unwrap-place-requires g c =
    let there = place_there c.self.inside.rows.items c.args.number (rw (← c.self.view_is) at c.requires) in
    grind (arith, there.1, c.deref.ensures.value)

pub index_mut-requires : goal.index_mut-requires
index_mut-requires g c =
    let e : place_in c.self.inside.rows.items c.args.number ≡ Some c.unwrap-place.result = grind (arith, c.deref.ensures.value) in
    let within = place_within c.self.inside.rows.items c.args.number c.unwrap-place.result e in
    omega (arith, within, c.deref.ensures.len, ap length c.deref.ensures.value)

pub unwrap-requires : goal.unwrap-requires
unwrap-requires g c =
    let rs = c.self.inside.rows.items in
    let row = c.index_mut.result.now in
    let e : place_in rs c.args.number ≡ Some c.unwrap-place.result = grind (arith, c.deref.ensures.value) in
    let f = found 0 rs _ c.args.number _ row c.self.invariant e c.index_mut.ensures.value in
    rw c.take.ensures.value (rw (← c.self.view_is, f.value) at c.requires)

pub invariant_of-self : goal.invariant_of-self
invariant_of-self g c =
    let rs = c.self.inside.rows.items in
    let row = c.index_mut.result.now in
    let e : place_in rs c.args.number ≡ Some c.unwrap-place.result = grind (arith, c.deref.ensures.value) in
    let f = found 0 rs _ c.args.number _ row c.self.invariant e c.index_mut.ensures.value in
    rise_set 0 rs _ _ row _ c.self.invariant f.here refl

pub returns-clause-value : goal.returns-clause-value
returns-clause-value g c =
    let rs = c.self.inside.rows.items in
    let row = c.index_mut.result.now in
    let e : place_in rs c.args.number ≡ Some c.unwrap-place.result = grind (arith, c.deref.ensures.value) in
    let f = found 0 rs _ c.args.number _ row c.self.invariant e c.index_mut.ensures.value in
    rw (← c.self.view_is) (f.value ∙ sym c.take.ensures.value ∙ c.unwrap.ensures)

pub returns-clause-rest : goal.returns-clause-rest
returns-clause-rest g c =
    let rs = c.self.inside.rows.items in
    let row = c.index_mut.result.now in
    let e : place_in rs c.args.number ≡ Some c.unwrap-place.result = grind (arith, c.deref.ensures.value) in
    let f = found 0 rs _ c.args.number _ row c.self.invariant e c.index_mut.ensures.value in
    let is = less_found 0 rs _ c.args.number _ row c.unwrap.result c.self.invariant f (sym c.take.ensures.value ∙ c.unwrap.ensures) in
    let after = ap (λ o. things_in (set rs c.unwrap-place.result (record row { value = o }))) c.take.ensures.after in
    rw (← c.self.view_is) (ap (λ xs. record { things = xs; greatest = c.self.inside.greatest }) (after ∙ is))

pub returns-clause-rising : goal.returns-clause-rising
returns-clause-rising g c = rw (← c.self.view_is) (rising_in 0 _ _ c.self.invariant)
