use Rattle.std.proofs.Common.{◌≡◌, refl, sym}
use Rattle.flow_numbered.proofs.RowLemmas.{place_of_at}
use Rattle.flow_numbered.proofs.rows.place_of.Goals as goal

pub returns-then-is_at : goal.returns-then-is_at
returns-then-is_at g c = sym (place_of_at 0 c.args.rows.now c.requires.0 c.args.number c.args.near c.requires.1 (c.if-is_at.ensures refl))

pub returns-then-is_at-2 : goal.returns-then-is_at-2
returns-then-is_at-2 g c = sym (place_of_at 0 c.args.rows.now c.requires.0 c.args.number c.without_gaps-place.result c.requires.1 (c.if-is_at-2.ensures refl))
