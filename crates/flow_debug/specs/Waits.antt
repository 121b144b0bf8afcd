-- The places of a program's waits in memory, as plain data.
use Rattle.std.specs.Prelude.{List, map}
use Rattle.std.specs.declared.alloc.Global.{Global}
use Rattle.std.specs.declared.vec.Vec.{Vec}
use Rattle.flow_base.specs.declared.place.Place.{Place}
use Rattle.flow_debug.specs.declared.waits.WaitPlaces.{WaitPlaces}

abbrev pub listed : Vec Place Global → List Place
listed v = v.items

abbrev pub waits_seen : WaitPlaces → List (List Place)
waits_seen w = map listed w.actors.items
