-- An event leaves the code as it is.
use Rattle.std.proofs.Common.{◌≡◌, Bool, true, false, List, [], ◌∷◌, Some, None, refl, ap, ◌∙◌}
use Rattle.std.specs.Prelude.{Result}
use Rattle.std.specs.declared.option.Option.{Option}
use Rattle.flow_base.specs.declared.ids.CellId.{CellId}
use Rattle.flow_base.specs.declared.ids.ProcId.{ProcId}
use Rattle.flow_base.specs.declared.fault.OutFault.{OutFault}
use Rattle.flow_trace.specs.declared.line.Line.{Line}
use Rattle.flow_worldfile.specs.declared.world.Act.{Act}
use Rattle.flow_worldfile.specs.declared.world.Act.TheVariants as act
use Rattle.flow_worldfile.specs.declared.world.At.{At}
use Rattle.flow_timers.specs.Pending.{Pending}
use Rattle.flow_simnet.specs.declared.packet.Packet.{Packet}
use Rattle.flow_machine.specs.declared.host.Burst.{Burst}
use Rattle.flow_machine.specs.declared.host.Burst.TheVariants.{Rested, Spent}
use Rattle.flow_world.specs.declared.action.EventAction.{EventAction}
use Rattle.flow_world.specs.declared.outside.What.{What}
use Rattle.flow_world.specs.declared.outside.What.TheVariants as what
use Rattle.flow_world.specs.Ending.{Seen}
use Rattle.flow_world.specs.Happening.{Runs, RunsUnless, Taken, Ordered, Happened, LineComes, EventComes, Comes, ends, begins}
use Rattle.flow_world_refinement.specs.Traces.Traced.{CodeStays}

same_end : (e : Burst) (w : Seen) → (ends e w).code ≡ w.code
same_end Rested w = refl
same_end Spent w = refl

module _ {A : Type 0} (puts : A → Line → Result (Unit {0}) OutFault → A → Type 0) where
  unless : (held : Bool) (p : ProcId) (d : EventAction) (w v : Seen) (a b : A) (e : Burst) → RunsUnless puts held p d w a e v b → v.code ≡ w.code
  unless true p d w v a b e t = ap (λ s. s.code) t.1
  unless false p d w v a b e t = ap (λ s. s.code) t.acted.left

  runs : (p : ProcId) (d : EventAction) (w v : Seen) (a b : A) (e : Burst) → Runs puts p d w a e v b → v.code ≡ w.code
  runs p d w v a b e t = unless t.held p d w v a b e t.runs

  ordered : (x : Act) (w v : Seen) (a b : A) (e : Burst) → Ordered puts x w a e v b → v.code ≡ w.code
  ordered (act.Boot p) w v a b e t = runs p _ w v t.between b e t.rest
  ordered (act.Stop p) w v a b e t = runs p _ w v t.between b e t.rest
  ordered (act.Kill p) w v a b e t = ap (λ s. s.code) t.vanishes.left
  ordered (act.Cut p q) w v a b e t = ap (λ s. s.code) t.2
  ordered (act.Heal p q) w v a b e t = ap (λ s. s.code) t.2
  ordered (act.DiskFail p n) w v a b e t = ap (λ s. s.code) t.2.left

  taken : (heard : Option CellId) (p : ProcId) (l : Packet) (w v : Seen) (a b : A) (e : Burst) → Taken puts heard p l w a e v b → v.code ≡ w.code
  taken None p l w v a b e t = ap (λ s. s.code) t.2
  taken (Some k) p l w v a b e t = runs p _ w v a b e t.2

  happened : (x : What) (w v : Seen) (a b : A) (e : Burst) → Happened puts x w a e v b → v.code ≡ w.code
  happened (what.Boots p) w v a b e t = ordered (act.Boot p) w v a b e t
  happened (what.Rings p k) w v a b e t = runs p _ w v t.between b e t.rest
  happened (what.Arrives p n) w v a b e t = taken t.heard p _ _ v t.between b e t.taken
  happened (what.Answers p k asked) w v a b e t = runs p _ _ v t.between b e t.runs

  line_comes : (ls : List At) (w v : Seen) (a b : A) (e : Burst) → LineComes puts ls w a e v b → v.code ≡ w.code
  line_comes [] w v a b e t = elim t [ ]
  line_comes (l ∷ ls) w v a b e t = ordered l.act _ v a b e t

  event_comes : (es : List (Pending What)) (w v : Seen) (a b : A) (e : Burst) → EventComes puts es w a e v b → v.code ≡ w.code
  event_comes [] w v a b e t = elim t [ ]
  event_comes (x ∷ xs) w v a b e t = happened x.what _ v a b e t

  comes : (scripted : Bool) (w v : Seen) (a b : A) (e : Burst) → Comes puts scripted w a e v b → v.code ≡ w.code
  comes true w v a b e t = line_comes w.script w v a b e t
  comes false w v a b e t = event_comes w.outside.timers.pending w v a b e t

  pub code_stays : CodeStays puts
  code_stays w v a b e h = ap (λ s. s.code) h.after ∙ same_end e h.left ∙ comes h.scripted (begins h.time w) h.left a b e h.does
