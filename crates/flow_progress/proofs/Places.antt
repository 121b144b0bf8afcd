-- In a process that fits the result of an effect has a place.
use Rattle.std.proofs.Common.{◌≡◌, List, sym, subst, ◌∙◌}
use Rattle.std.specs.declared.option.Option.TheVariants.{None, Some}
use Rattle.flow_tree.specs.Decls.{RoutineTree}
use Rattle.flow_class.specs.Classes.{EffectInstr, RawTree}
use Rattle.flow_class.specs.Code.{Body, fetch}
use Rattle.flow_numbered.specs.Numbered.{Numbered}
use Rattle.flow_meaning.specs.Requests.{Supply}
use Rattle.flow_meaning.specs.Process.{Core}
use Rattle.flow_meaning.specs.Orderly.{Orderly}
use Rattle.flow_meaning.specs.Frame.{Frame, assign}
use Rattle.flow_meaning.proofs.Shifts.{store_of}
use Rattle.flow_progress.specs.Places.{class_vars}
use Rattle.flow_progress.specs.Rules.{ClassRules}
use Rattle.flow_progress.specs.Asking.{Stores}
use Rattle.flow_progress.specs.Fitting.{typed_by}
use Rattle.flow_progress.specs.Keeping.{FitsSome}
use Rattle.flow_progress.specs.Ending.{NoPlace}
use Rattle.flow_progress.proofs.Handed.{has_place}
use Rattle.flow_progress.proofs.StepFits.{actor_here, frame_rules}
use Rattle.flow_meaning.specs.Process.{Store}

same_frame : {x y : Frame} → Some x ≡ Some y → x ≡ y
same_frame h = cc

pub placed : (r : RawTree) (actors : List RoutineTree) → ClassRules r actors → (c : Core) (xs : Numbered Frame) → Orderly c → FitsSome r c xs → NoPlace r c xs → ⊥
placed r actors rules c xs o p n =
    let s : Supply = record { now = 0; processes = 0; word = 0 } in
    let types = p.0 in
    let a = actor_here r types n.actor (Store n.actor n.value) n.rest c xs o n.newest (store_of n.actor n.value) p.1 in
    let f = a.frame in
    let same : n.frame ≡ f = same_frame (sym n.stands ∙ a.stands) in
    let here = subst (λ (g : Frame). fetch g.code g.block g.instr ≡ Body (EffectInstr n.path n.call)) same n.instruction in
    let none = subst (λ (g : Frame). assign r.records g.mem n.path n.value ≡ None) same n.none in
    let k = frame_rules r actors rules s types a.entry a.class f a.owner a.doing.0 in
    let d = a.doing.2 in
    has_place r actors (class_vars f.code) (typed_by types) f k n.value d.0 n.path n.call a.doing.1 here (subst (λ z. Stores r f.code (class_vars f.code) z d.0) here d.1) d.2 none
