-- What contracts see of a world in memory.
use Rattle.flow_world.specs.declared.world.World.{World}
use Rattle.flow_world.specs.Changes.{seen}
use Rattle.flow_world.specs.Ending.{Seen}

abbrev pub world_seen : World → Seen
world_seen w = record {
  code = w.code;
  places = w.places.items;
  outside = seen w.outside;
  script = w.script;
  ran = w.ran;
  bound = w.file.events;
  turns = w.file.turns;
  ended = w.ended;
  file = w.file;
}
