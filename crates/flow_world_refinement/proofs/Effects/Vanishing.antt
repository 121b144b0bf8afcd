-- A loss of power leaves of a process in memory what it leaves of the process that it shows, and of what is outside the same.
use Rattle.std.proofs.Common.{◌≡◌, ℕ, ◌+◌, List, [], ◌++◌, map, refl, sym, ap, ◌∙◌, subst}
use Rattle.std.specs.Prelude.{slice_set, slice_index_or}
use Rattle.flow_base.specs.declared.ids.ProcId.{ProcId}
use Rattle.flow_class.specs.Classes.{RawTree}
use Rattle.flow_draw.specs.Words.{word_at}
use Rattle.flow_simdisk.specs.declared.write.Kept.{Kept}
use Rattle.flow_simdisk.specs.Disk.{Disk, File, Losing, power_lost}
use Rattle.flow_meaning.specs.Deliver.{vanish}
use Rattle.flow_meaning.specs.Frame.{Frame}
use Rattle.flow_meaning.specs.Outside.{Outside, word_in, with_asked}
use Rattle.flow_meaning.specs.Process.{Proc}
use Rattle.flow_meaning.specs.World.{disk_of, kept_line, with_disk}
use Rattle.flow_steps.specs.declared.process.Process.{Process}
use Rattle.flow_steps.specs.Doing.{vanished}
use Rattle.flow_step_refinement.proofs.Effects.Brings.{vanishes}
use Rattle.flow_world.specs.Changes.{Surroundings, DiskLoses, loss_on}
use Rattle.flow_world.specs.Representing.{OutsideRepresents}
use Rattle.flow_world.proofs.Events.{found, requests_are_gone}
use Rattle.flow_world.proofs.Requests.{more_drawn, more_noted}
use Rattle.flow_world_refinement.specs.Effects.Quiescence.{Quiescent}
use Rattle.flow_world_refinement.specs.Effects.Vanishing as law

-- what is left of a process in memory
settled_gone : (r : RawTree) (m : Process) (p : Proc Frame) → Quiescent r m p → Quiescent r (vanished m) (vanish p)
settled_gone r m p s =
    let v = vanishes r m p s.resting.shown in
    record { resting = record { shown = v.1; sorted = v.0.running.sorted; poised = λ i a at. absurd (cc (at)) }; tasks = refl }

module _ (p : ProcId) (m lost : Surroundings) (o : Outside) (fates : List Kept) (s : OutsideRepresents m o) (d : DiskLoses p m lost fates) where
  -- what the definitions lose
  abbrev pub loss : Losing (List (List ℕ × File))
  loss = power_lost (word_in o) (disk_of o p.0).files

  disk_is : disk_of o p.0 ≡ d.disk
  disk_is = ap (λ ds. slice_index_or ds p.0 (record { fails = 0; files = [] })) (sym s.disks) ∙ found m.disks p.0 d.disk (record { fails = 0; files = [] }) d.there

  -- and memory, by the same words
  abbrev pub lost_here : Losing (List (List ℕ × File))
  lost_here = loss_on d.disk m

  loss_is : loss ≡ lost_here
  loss_is =
      ap (λ e. power_lost (word_in o) e.files) disk_is
      ∙ ap (λ n. power_lost (λ k. word_at o.file.seed o.file.words (n + k)) d.disk.files) (sym s.drawn)
      ∙ ap (λ ws. power_lost (λ k. word_at o.file.seed ws (m.draws.used + k)) d.disk.files) (sym s.words)
      ∙ ap (λ n. power_lost (λ k. word_at n m.draws.listed (m.draws.used + k)) d.disk.files) (sym s.seed)

  pub fates_are : loss.fates ≡ fates
  fates_are = ap (λ l. l.fates) loss_is ∙ sym d.lost

  -- the disk after it, and what its words were asked for
  abbrev put_in : (disk : Disk) → Losing (List (List ℕ × File)) → Outside
  put_in disk l = with_disk (with_asked o l.asked) p.0 (record { fails = disk.fails; files = l.left })

  disks_show : OutsideRepresents lost (put_in (disk_of o p.0) loss)
  disks_show =
      subst (λ l. OutsideRepresents lost (put_in (disk_of o p.0) l)) (sym loss_is)
      (subst (λ e. OutsideRepresents lost (put_in e lost_here)) (sym disk_is)
      (subst (λ n. OutsideRepresents n (put_in d.disk lost_here)) (sym d.left) (record {
        seed = s.seed;
        words = s.words;
        processes = s.processes;
        latency = s.latency;
        loss = s.loss;
        diskdelay = s.diskdelay;
        time = s.time;
        sent = s.sent;
        drawn = more_drawn m o lost_here.asked s;
        noted = more_noted m o lost_here.asked s;
        made = s.made;
        events = s.events;
        packets = s.packets;
        numbers = s.numbers;
        table = s.table;
        cuts = s.cuts;
        disks = ap (λ ds. slice_set ds p.0 (record { fails = d.disk.fails; files = lost_here.left })) s.disks;
      })))

pub loss_follows : (r : RawTree) → law.LossFollows r
loss_follows r turns p x o head at gone m lost left fates shows s d forgotten g =
    let now = disks_show p m lost o fates s d in
    let settled = settled_gone r at.machine.process x.proc shows.rests in
    record {
      lines = ap (λ fs. head ++ map kept_line fs) (fates_are p m lost o fates s d);
      shows = record {
        up = g.down;
        me = ap (λ (i : ProcId). i.0) g.me ∙ shows.me;
        processes_are = g.processes ∙ shows.processes_are;
        rests = subst (λ n. Quiescent r n (vanish x.proc)) (sym g.vanished) settled;
        ports = g.ports;
      };
      outside =
          subst (λ n. OutsideRepresents n (law.killed_in r turns p x o head).out) (sym (forgotten lost.timers.made now.numbers))
          (requests_are_gone lost (put_in p m lost o fates s d (disk_of o p.0) (loss p m lost o fates s d)) p now);
      stays = record { file = refl; time = refl; ran = refl; script = refl; active = refl };
      rests = refl;
    }
