use Rattle.std.proofs.Common.{◌≡◌, length, Some, None, refl, sym, ap, ◌∙◌, arith}
use Rattle.flow_numbered.specs.Rows.{place_in}
use Rattle.flow_numbered.proofs.RowLemmas.{place_within, place_there, found, rising_in, rise_set, put_found}
use Rattle.flow_numbered.proofs.numbered.Numbered.get_mut.Goals as goal

pub unwrap-place-requires : goal.unwrap-place-requires
unwrap-place-requires g c =
    let there = place_there c.self.inside.rows.items c.args.number (rw (← c.self.view_is) at c.requires) in
    grind (arith, there.1, c.deref.ensures.value)

pub index_mut-row-requires : goal.index_mut-row-requires
index_mut-row-requires g c =
    let e : place_in c.self.inside.rows.items c.args.number ≡ Some c.unwrap-place.result = grind (arith, c.deref.ensures.value) in
    let within = place_within c.self.inside.rows.items c.args.number c.unwrap-place.result e in
    omega (arith, within, c.deref.ensures.len, ap length c.deref.ensures.value)

pub unreachable-requires : goal.unreachable-requires
unreachable-requires g c =
    let e : place_in c.self.inside.rows.items c.args.number ≡ Some c.unwrap-place.result = grind (arith, c.deref.ensures.value) in
    let f = found 0 c.self.inside.rows.items _ c.args.number _ c.index_mut-row.result.now c.self.invariant e c.index_mut-row.ensures.value in
    let there = rw (← c.self.view_is, f.value, c.in-None.is) at c.requires in
    absurd (cc)

pub invariant_of-self-lent : goal.invariant_of-self-lent
invariant_of-self-lent g c w =
    let e : place_in c.self.inside.rows.items c.args.number ≡ Some c.unwrap-place.result = grind (arith, c.deref.ensures.value) in
    let f = found 0 c.self.inside.rows.items _ c.args.number _ c.index_mut-row.result.now c.self.invariant e c.index_mut-row.ensures.value in
    rise_set 0 _ _ _ c.index_mut-row.result.now _ c.self.invariant f.here refl

pub returns : goal.returns
returns g c =
    let rs = c.self.inside.rows.items in
    let e : place_in rs c.args.number ≡ Some c.unwrap-place.result = grind (arith, c.deref.ensures.value) in
    let row = c.index_mut-row.result.now in
    let f = found 0 rs _ c.args.number _ row c.self.invariant e c.index_mut-row.ensures.value in
    let is = λ (w : g.row.V.Denot). put_found 0 rs _ c.args.number _ row _ w c.self.invariant f c.in-Some.is in (
      (refl, λ w. rw (← c.self.view_is, c.in-Some.is) (ap (λ xs. record { things = xs; greatest = c.self.inside.greatest }) (is w))),
      record { lends = tt; rising = rw (← c.self.view_is) (rising_in 0 _ _ c.self.invariant); value = rw (← c.self.view_is) (f.value ∙ c.in-Some.is ∙ ap Some (sym c.in-Some.value-is)) },
    )
