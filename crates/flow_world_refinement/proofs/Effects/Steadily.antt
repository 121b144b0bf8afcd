-- What a burst leaves in the world around a process.
use Rattle.std.proofs.Common.{◌≡◌, ℕ, suc, List, refl, ap, ◌∙◌, subst}
use Rattle.std.specs.declared.option.Option.{Option}
use Rattle.std.specs.declared.option.Option.TheVariants.{None, Some}
use Rattle.flow_simnet.specs.declared.packet.Fate.{Fate}
use Rattle.flow_simnet.specs.declared.packet.Fate.TheVariants.{Cut, Drawn, At}
use Rattle.flow_meaning.specs.Requests.{Request, Drew, Timer, Packet, Disks}
use Rattle.flow_meaning.specs.Burst as machine
use Rattle.flow_meaning.specs.Burst.{Live, Burst, rests, steps, advance, advanced}
use Rattle.flow_meaning.specs.Outside.{Outside, host, serve, sent_by, drawn_by, fate_in}
use Rattle.flow_meaning.specs.Process.{Engine, Proc}
use Rattle.flow_meaning.specs.Step.{Stepped, step}
use Rattle.flow_meaning.proofs.Shifts.{same_of}
use Rattle.flow_meaning.proofs.InOrder.{no_thing}
use Rattle.flow_burst_refinement.specs.Bursts.{HostKeepsTime}
use Rattle.flow_world_refinement.specs.Effects.Actions.{StaysIn}

stays_still : (w : Outside) → StaysIn w w
stays_still w = record { file = refl; time = refl; ran = refl; script = refl; active = refl }

stays_then : (u v w : Outside) → StaysIn u v → StaysIn v w → StaysIn u w
stays_then u v w a b = record {
  file = b.file ∙ a.file;
  time = b.time ∙ a.time;
  ran = b.ran ∙ a.ran;
  script = b.script ∙ a.script;
  active = b.active ∙ a.active;
}

-- a request that is served
sent_stays : (f : Fate) (w : Outside) (m q port : ℕ) (text : List ℕ) → StaysIn w (sent_by f w m q port text).1
sent_stays Cut w m q port text = record { file = refl; time = refl; ran = refl; script = refl; active = refl }
sent_stays Drawn w m q port text = record { file = refl; time = refl; ran = refl; script = refl; active = refl }
sent_stays (At t) w m q port text = record { file = refl; time = refl; ran = refl; script = refl; active = refl }

served_stays : (q : Request) (w : Outside) → StaysIn w (serve q w).1
served_stays (Drew n) w = record { file = refl; time = refl; ran = refl; script = refl; active = refl }
served_stays (Timer k t) w = record { file = refl; time = refl; ran = refl; script = refl; active = refl }
served_stays (Packet q port text) w =
    let v = record w { sent = suc w.sent } in
    let s = sent_stays (fate_in v q) (drawn_by (fate_in v q) v) v.sent q port text in
    record { file = s.file; time = s.time; ran = s.ran; script = s.script; active = s.active }
served_stays (Disks k call) w = record { file = refl; time = refl; ran = refl; script = refl; active = refl }

pub host_steady : HostKeepsTime host
host_steady q w = let s = served_stays q w in (s.time, ap (λ f. f.processes) s.file)

module _ {F : Type 0} (e : Engine F) where
  requested_stays : (o : Option Request) (p : Proc F) (w : Outside) → StaysIn w (machine.serve host o p w).out
  requested_stays None p w = stays_still w
  requested_stays (Some q) p w = served_stays q w

  step_stays : (s t : Live Outside F) → advance e host s ≡ Some t → StaysIn s.out t.out
  step_stays s t is = by_step (step e (host.supply s.out) s.proc) is
    where
      by_step : (o : Option (Stepped F)) → advanced host s.out o ≡ Some t → StaysIn s.out t.out
      by_step None is = absurd (no_thing is)
      by_step (Some q) is = subst (λ (l : Live Outside F). StaysIn s.out l.out) (same_of is) (requested_stays q.1 q.0 s.out)

  -- and so a burst
  pub burst_stays : (s t : Live Outside F) → Burst e host s t → StaysIn s.out t.out
  burst_stays s t (rests is) = stays_still s.out
  burst_stays s t (steps next is more) = stays_then s.out next.out t.out (step_stays s next is) (burst_stays next t more)
