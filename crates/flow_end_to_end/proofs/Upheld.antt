-- What a world keeps from event to event.
use Rattle.flow_class.specs.Classes.{RawTree}
use Rattle.flow_invariants.specs.Fitting.Laws.{AreValid}
use Rattle.flow_world_refinement.proofs.Invariants.Lasting.{lasting_starts, lasting_stays}
use Rattle.flow_invariants.proofs.OpenPorts.Worlds.{start_open, valid_open}
use Rattle.flow_end_to_end.specs.Events as law
use Rattle.flow_end_to_end.proofs.Disks.{disks_start, disks_stay}

pub upheld_starts : (r : RawTree) → law.MemoryWorldInvariantStarts r
upheld_starts r w range = record { lasting = (lasting_starts r w range).0; heard = start_open w; disks = disks_start w }

pub upheld_stays : (r : RawTree) → AreValid r → law.MemoryWorldInvariantStays r
upheld_stays r valid w b l h g q go = record {
  lasting = (lasting_stays r valid w b l h.lasting g q go).0;
  heard = valid_open r valid w b l h.lasting.keeps.fits h.heard g q go;
  disks = disks_stay r w b l h.disks g q;
}
