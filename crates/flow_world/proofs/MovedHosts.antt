-- What a process and its host do is what they do where the host is seen as something else that shows the same, and has written
-- these lines where the host has.
use Rattle.std.proofs.Common.{◌≡◌, inl, inr, ℕ, ap, subst}
use Rattle.std.specs.Prelude.{◌+◌, ◌^◌, ℤ, ◌-ℤ◌, nat_le, Bool, true, false, List, [], ◌∷◌}
use Rattle.std.specs.declared.option.Option.{Option}
use Rattle.std.specs.declared.option.Option.TheVariants.{None, Some}
use Rattle.flow_base.specs.declared.ids.ActorId.{ActorId}
use Rattle.flow_base.specs.declared.ids.ProcId.{ProcId}
use Rattle.flow_trace.specs.declared.line.Line.{Line}
use Rattle.flow_code.specs.declared.program.Code.{Code}
use Rattle.flow_eval.specs.Predefined.{natural}
use Rattle.flow_numbered.specs.Numbered.{Numbered}
use Rattle.flow_meaning.specs.Requests.{DiskCall, Request, Drew}
use Rattle.flow_meaning.specs.Burst.{Host}
use Rattle.flow_meaning.specs.Effects.{between, is_port, judged}
use Rattle.flow_steps.specs.declared.call.Call.{Call}
use Rattle.flow_steps.specs.declared.call.Call.TheVariants as call
use Rattle.flow_steps.specs.declared.call.Goal.{Goal}
use Rattle.flow_steps.specs.declared.process.Process.{Process}
use Rattle.flow_steps.specs.Doing.{unasked}
use Rattle.flow_machine.specs.declared.host.Burst.{Burst}
use Rattle.flow_machine.specs.declared.machine.Machine.{Machine}
use Rattle.flow_machine.specs.Requests.{asked_of}
use Rattle.flow_machine.specs.Hosting.{Serves}
use Rattle.flow_machine.specs.Serving.{Thrown, DrawServed, DelayServed, DiskServed, PortOpened, ListenServed, SendServed, Served, ServedIf, may_send}
use Rattle.flow_machine.specs.Bursts.{Bursts, rests, runs_out, asks, MainBursts}
use Rattle.flow_machine.specs.declared.host.RunFault.{RunFault}
use Rattle.flow_machine.specs.Breaking.{DrawBroke, SendBroke, Unwritten, ServingBrokeIf, BreaksOff, no_memory, gets_stuck, serving, further}
use Rattle.flow_machine.specs.Breaking.{MainBreaksOff, uncalled, main_stuck, untold, called, BringingBreaksOff, unbrought, bringing_stuck, is_brought}
use Rattle.flow_world.specs.declared.action.EventAction.{EventAction}
use Rattle.flow_world.specs.declared.action.EventAction.TheVariants.{Boots, Stops, Delivers, Brings}
use Rattle.flow_world.specs.Actions.{Does, BurstsAfter}

module _ {A B W : Type 0} (f : A → B) (serves : Host W) (shows : B → Numbered ℕ → W → Type 0) (wrote : B → List Line → B → Type 0)
    (written : A → List Line → A → Type 0) (as_well : (a b : A) (ls : List Line) → written a ls b → wrote (f a) ls (f b)) where
  abbrev shown : A → Numbered ℕ → W → Type 0
  shown a ps w = shows (f a) ps w

  serves_by : (r : Request) (a b : A) → Serves serves shown written r a b → Serves serves shows wrote r (f a) (f b)
  serves_by r a b t = λ ps w s. (as_well a b _ (t ps w s).0, (t ps w s).1)

  thrown_by : (i : ActorId) (error : ℕ) (p q : Process) (a b : A) → Thrown serves shown written i error p a q b → Thrown serves shows wrote i error p (f a) q (f b)
  thrown_by i error p q a b t = record { thrown = t.thrown; quiet = ap f t.quiet }

  draw_by : (fits : Bool) (i : ActorId) (g : Goal) (lo : ℤ) (width : ℕ) (p q : Process) (a b : A)
      → DrawServed serves shown written fits i g lo width p a q b → DrawServed serves shows wrote fits i g lo width p (f a) q (f b)
  draw_by true i g lo width p q a b t = record { number = t.number; drawn = (serves_by (Drew width) a b t.drawn.0, t.drawn.1); given = t.given }
  draw_by false i g lo width p q a b t = thrown_by i _ p q a b t

  delay_by : (fits : Bool) (i : ActorId) (g : Goal) (time : ℕ) (p q : Process) (a b : A)
      → DelayServed serves shown written fits i g time p a q b → DelayServed serves shows wrote fits i g time p (f a) q (f b)
  delay_by true i g time p q a b t = record { cell = t.cell; given = t.given; served = serves_by _ a b t.served }
  delay_by false i g time p q a b t = thrown_by i _ p q a b t

  disk_by : (asked : Option (DiskCall ℕ)) (i : ActorId) (g : Goal) (p q : Process) (a b : A)
      → DiskServed serves shown written asked i g p a q b → DiskServed serves shows wrote asked i g p (f a) q (f b)
  disk_by (Some asked) i g p q a b t = record { cell = t.cell; given = t.given; served = serves_by _ a b t.served }
  disk_by None i g p q a b t = thrown_by i _ p q a b t

  opened_by : (in_use : Bool) (i : ActorId) (g : Goal) (port : ℕ) (p q : Process) (a b : A)
      → PortOpened serves shown written in_use i g port p a q b → PortOpened serves shows wrote in_use i g port p (f a) q (f b)
  opened_by true i g port p q a b t = thrown_by i _ p q a b t
  opened_by false i g port p q a b t = record { cell = t.cell; given = t.given; listens = (as_well a b [] t.listens.0, t.listens.1) }

  listen_by : (fits : Bool) (i : ActorId) (g : Goal) (port : ℕ) (p q : Process) (a b : A)
      → ListenServed serves shown written fits i g port p a q b → ListenServed serves shows wrote fits i g port p (f a) q (f b)
  listen_by true i g port p q a b t = record { in_use = t.in_use; known = t.known; opened = opened_by t.in_use i g port p q a b t.opened }
  listen_by false i g port p q a b t = thrown_by i _ p q a b t

  send_by : (fits : Bool) (i : ActorId) (number port : ℕ) (text : List ℕ) (p q : Process) (a b : A)
      → SendServed serves shown written fits i number port text p a q b → SendServed serves shows wrote fits i number port text p (f a) q (f b)
  send_by true i number port text p q a b t = record { goes = t.goes; served = serves_by _ a b t.served }
  send_by false i number port text p q a b t = thrown_by i _ p q a b t

  served_by : (n : ℕ) (c : Call) (p q : Process) (a b : A) → Served serves shown written n c p a q b → Served serves shows wrote n c p (f a) q (f b)
  served_by n (call.Line l) p q a b t = (t.0, (as_well a b (l ∷ []) t.1.0, t.1.1))
  served_by n (call.Draw i g lo hi) p q a b t = draw_by (between (hi -ℤ lo) 1 (2 ^ 32)) i g lo (natural (hi -ℤ lo)) p q a b t
  served_by n (call.Delay i g ticks) p q a b t = delay_by (nat_le (p.time + natural ticks) (2 ^ 62)) i g (p.time + natural ticks) p q a b t
  served_by n (call.Listen i g port) p q a b t = listen_by (is_port port) i g (natural port) p q a b t
  served_by n (call.Disk i g request) p q a b t = disk_by (judged (asked_of request)) i g p q a b t
  served_by n (call.SendTo i number port text) p q a b t = send_by (may_send n number port) i (natural number) (natural port) text p q a b t
  served_by n (call.Unlisten k) p q a b t = (t.0, (as_well a b [] t.1.0, t.1.1))

  served_if_by : (n : ℕ) (c : Option Call) (p q : Process) (a b : A) → ServedIf serves shown written n c p a q b → ServedIf serves shows wrote n c p (f a) q (f b)
  served_if_by n None p q a b t = (t.0, ap f t.1)
  served_if_by n (Some c) p q a b t = served_by n c p q a b t

  bursts_by : (code : Code) (n : ℕ) (p q : Process) (a b : A) (e : Burst) → Bursts serves shown written code n p a e q b → Bursts serves shows wrote code n p (f a) e q (f b)
  bursts_by code n p q a _ e (rests _ _ _ t) = rests p q (f a) t
  bursts_by code n p q a _ e (runs_out _ _ _ t) = runs_out p q (f a) t
  bursts_by code n p s a c e (asks _ q r _ _ b _ _ t d rest) =
      asks p q r s (f a) (f b) (f c) e t (served_if_by n q.asked (unasked q) r a b d) (bursts_by code n r s b c e rest)

  main_by : (code : Code) (n : ℕ) (me : ProcId) (p q : Process) (a b : A) (e : Burst)
      → MainBursts serves shown written code n me p a e q b → MainBursts serves shows wrote code n me p (f a) e q (f b)
  main_by code n me p q a b e t = record {
    called = t.called;
    told = t.told;
    between = f t.between;
    calls = t.calls;
    line = served_if_by n t.called.asked (unasked t.called) t.told a t.between t.line;
    bursts = bursts_by code n t.told q t.between b e t.bursts;
  }

  follows_by : (code : Code) (d : EventAction) (m : Machine) (p q : Process) (a b : A) (e : Burst)
      → BurstsAfter serves shown written code d m p a e q b → BurstsAfter serves shows wrote code d m p (f a) e q (f b)
  follows_by code Boots m p q a b e t = main_by code m.processes m.me p q a b e t
  follows_by code Stops m p q a b e t = bursts_by code m.processes _ q a b e t
  follows_by code (Delivers k o) m p q a b e t = bursts_by code m.processes _ q a b e t
  follows_by code (Brings k v) m p q a b e t = bursts_by code m.processes _ q a b e t

  pub does_by : (code : Code) (now turns : ℕ) (d : EventAction) (m : Machine) (a : A) (e : Burst) (n : Machine) (b : A)
      → Does serves shown written code now turns d m a e n b → Does serves shows wrote code now turns d m (f a) e n (f b)
  does_by code now turns d m a e n b t = record {
    follows = follows_by code d m _ n.process a b e t.follows;
    me = t.me;
    processes = t.processes;
  }

  -- the same, where the host is seen as this after it
  pub does_to : (code : Code) (now turns : ℕ) (d : EventAction) (m : Machine) (a : A) (e : Burst) (n : Machine) (b : A) (left : B) → f b ≡ left
      → Does serves shown written code now turns d m a e n b → Does serves shows wrote code now turns d m (f a) e n left
  does_to code now turns d m a e n b left same t = subst (λ h. Does serves shows wrote code now turns d m (f a) e n h) same (does_by code now turns d m a e n b t)

  -- so it is where they break off, if what was written in part is so too
  module _ (broke : B → List Line → B → Type 0) (written_in_part : A → List Line → A → Type 0)
      (in_part_as_well : (a b : A) (ls : List Line) → written_in_part a ls b → broke (f a) ls (f b)) where
    unwritten_by : (a b : A) → Unwritten serves shown written written_in_part a b → Unwritten serves shows wrote broke (f a) (f b)
    unwritten_by a b (inl same) = inl (ap f same)
    unwritten_by a b (inr t) = inr (in_part_as_well a b [] t)

    draw_broke_by : (width : ℕ) (a b : A) → DrawBroke serves shown written written_in_part width a b → DrawBroke serves shows wrote broke width (f a) (f b)
    draw_broke_by width a b (inl t) = inl (unwritten_by a b t)
    draw_broke_by width a b (inr t) = inr (serves_by (Drew width) a b t)

    send_broke_by : (fits : Bool) (number port : ℕ) (text : List ℕ) (a b : A)
        → SendBroke serves shown written written_in_part fits number port text a b → SendBroke serves shows wrote broke fits number port text (f a) (f b)
    send_broke_by true number port text a b (inl same) = inl (ap f same)
    send_broke_by true number port text a b (inr t) = inr (λ ps w s. in_part_as_well a b _ (t ps w s))
    send_broke_by false number port text a b same = ap f same

    serving_broke_by : (n : ℕ) (c : Option Call) (a b : A) → ServingBrokeIf serves shown written written_in_part n c a b → ServingBrokeIf serves shows wrote broke n c (f a) (f b)
    serving_broke_by n None a b t = absurd t
    serving_broke_by n (Some (call.Line l)) a b t = in_part_as_well a b (l ∷ []) t
    serving_broke_by n (Some (call.Draw i g lo hi)) a b t = draw_broke_by _ a b t
    serving_broke_by n (Some (call.Delay i g ticks)) a b t = unwritten_by a b t
    serving_broke_by n (Some (call.Listen i g port)) a b t = unwritten_by a b t
    serving_broke_by n (Some (call.Disk i g request)) a b t = unwritten_by a b t
    serving_broke_by n (Some (call.SendTo i number port text)) a b t = send_broke_by (may_send n number port) (natural number) (natural port) text a b t
    serving_broke_by n (Some (call.Unlisten k)) a b t = absurd t

    pub breaks_by : (code : Code) (n : ℕ) (p : Process) (a b : A) (fault : RunFault)
        → BreaksOff serves shown written written_in_part code n p a fault b → BreaksOff serves shows wrote broke code n p (f a) fault (f b)
    breaks_by code n p a _ _ (no_memory _ _) = no_memory p (f a)
    breaks_by code n p a _ _ (gets_stuck _ _ t) = gets_stuck p (f a) t
    breaks_by code n p a b fault (serving _ q _ _ _ t broken stuck) = serving p q (f a) (f b) fault t (serving_broke_by n q.asked a b broken) stuck
    breaks_by code n p a c fault (further _ q r _ b _ _ t served rest) =
        further p q r (f a) (f b) (f c) fault t (served_if_by n q.asked (unasked q) r a b served) (breaks_by code n r b c fault rest)

    pub main_breaks_by : (code : Code) (n : ℕ) (me : ProcId) (p : Process) (a b : A) (fault : RunFault)
        → MainBreaksOff serves shown written written_in_part code n me p a fault b → MainBreaksOff serves shows wrote broke code n me p (f a) fault (f b)
    main_breaks_by code n me p a _ _ uncalled = uncalled
    main_breaks_by code n me p a _ _ (main_stuck t) = main_stuck t
    main_breaks_by code n me p a b fault (untold q _ _ t broken stuck) = untold q (f b) fault t (serving_broke_by n q.asked a b broken) stuck
    main_breaks_by code n me p a c fault (called q r b _ _ t served rest) =
        called q r (f b) (f c) fault t (served_if_by n q.asked (unasked q) r a b served) (breaks_by code n r b c fault rest)

    pub bringing_breaks_by : (code : Code) (n : ℕ) (stuck : Type 0) (brought : Process) (a b : A) (fault : RunFault)
        → BringingBreaksOff serves shown written written_in_part code n stuck brought a fault b
        → BringingBreaksOff serves shows wrote broke code n stuck brought (f a) fault (f b)
    bringing_breaks_by code n stuck brought a _ _ unbrought = unbrought
    bringing_breaks_by code n stuck brought a _ _ (bringing_stuck t) = bringing_stuck t
    bringing_breaks_by code n stuck brought a b fault (is_brought _ _ t) = is_brought fault (f b) (breaks_by code n brought a b fault t)
