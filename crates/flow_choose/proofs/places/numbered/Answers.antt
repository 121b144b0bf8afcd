use Rattle.std.proofs.Common.{◌∷◌, decimal, sym, subst, ◌∙◌, arith}
use Rattle.flow_base.specs.Names.{IsName}
use Rattle.flow_choose.proofs.Slots.{place_is_name}
use Rattle.flow_choose.proofs.places.numbered.Goals as goal

pub new-requires : goal.new-requires
new-requires c = grind (arith, place_is_name c.args.letter c.args.number c.requires c.ranges.number.fits)
