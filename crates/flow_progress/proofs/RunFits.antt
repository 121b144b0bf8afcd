-- An actor's step keeps a process fitting, and has a meaning.
use Rattle.std.proofs.Common.{◌≡◌, ℕ, suc, nat_eq, true, List, [], ◌∷◌, length, if◌then◌else◌, refl, sym, ap, ◌∙◌, subst, arith, false}
use Rattle.std.specs.Prelude.{slice_get}
use Rattle.std.specs.declared.option.Option.{Option}
use Rattle.std.specs.declared.option.Option.TheVariants.{None, Some}
use Rattle.flow_tree.specs.Tree.{TypeTree, FutureType}
use Rattle.flow_tree.specs.Decls.{RoutineTree}
use Rattle.flow_value.specs.declared.value.Kind.TheVariants as kind
use Rattle.flow_value.specs.Values.{ValueTree, RefValue, GoodOutcome, values_of_list}
use Rattle.flow_value.proofs.References.{any_parts}
use Rattle.flow_eval.specs.Typed.{HaveTypes, future_side}
use Rattle.flow_eval.proofs.TypedReferences.{types_move}
use Rattle.flow_class.specs.Classes.{ClassTree, RawTree}
use Rattle.flow_numbered.specs.Numbered.{Numbered, thing, added, put}
use Rattle.flow_meaning.specs.Cells.{Single}
use Rattle.flow_meaning.specs.Requests.{Act, Effects, Returns, Effect, Start, Goal, Stored, Kept, Ask, Supply, Starts}
use Rattle.flow_meaning.specs.Process.{Task, Run, Close, Entry, Core}
use Rattle.flow_meaning.specs.Lines.{start_line}
use Rattle.flow_meaning.specs.Work.{writes, pushed, dropping_values, new_cell}
use Rattle.flow_meaning.specs.Effects.{result_task, push_result}
use Rattle.flow_meaning.specs.Step.{proc, kept_by, view, enrol, start, answer_effect, answer, run_next, run, start_alone, enrol_with}
use Rattle.flow_meaning.specs.Orderly.{tasks_of, Rising, Orderly}
use Rattle.flow_meaning.specs.Frame.{Frame, over}
use Rattle.flow_meaning.specs.Class.{begun, fresh_from, next_step, classes, class_names}
use Rattle.flow_meaning.proofs.Posture.{thing_put, own_task}
use Rattle.flow_meaning.proofs.Shifts.{run_of, close_of}
use Rattle.flow_progress.specs.Places.{class_vars}
use Rattle.flow_progress.specs.Rules.{first_types, ClassRules}
use Rattle.flow_progress.specs.Asking.{HaveSome, OutcomeFits, Gives, Wanted, ActFits, StaysIn, AsksFit, Called, end_type}
use Rattle.flow_progress.specs.Fitting.{CellTypes, typed_by, OperandsFit, Standing, ActorFits, ProcessFits}
use Rattle.flow_progress.proofs.Asks.{next_fits}
use Rattle.flow_progress.proofs.Handed.{args_many, begun_fits}
use Rattle.flow_progress.proofs.Retyped.{Seen}
use Rattle.flow_progress.proofs.States.{Fine, fine_same, fine_since, fine_turn, FitsBut, put_back, all_but, frame_but, actor_at, dropping_fits}
use Rattle.flow_progress.proofs.NewCells.{with_type, Any, new_type, kept_types}
use Rattle.flow_progress.proofs.KeptNone.{OfWait, AsksOfWaitAt, none_kept, still_kept}
use Rattle.flow_progress.proofs.HandFits.{HandFits, doing_actor, goes_by, gives_state}
use Rattle.flow_progress.proofs.ReactFits.{hand_more, stands_more, keeps_more, wants_more}
use Rattle.flow_progress.proofs.WaitFits.{react_fits}
use Rattle.flow_progress.proofs.StepFits.{Actor, actor_here, cells_seen, After, frame_rules, add_actor}
use Rattle.flow_progress.proofs.Registered.{awake_registered}
use Rattle.flow_ast.specs.Typing.{is_nothing}

module _ (r : RawTree) (actors : List RoutineTree) (rules : ClassRules r actors) (s : Supply) where
  -- the call of an actor
  module _ (types : CellTypes) (i : ℕ) (k : Core) (xs : Numbered Frame) (e : Entry) (g : Frame) (c : ClassTree) (go : k.halted ≡ None) (h : HandFits r types i k xs e g c) (code : g.code ≡ c)
      (st : Standing r types g) (o : OperandsFit r types g 0 e.operands) (up : Rising 0 k.started k.entries) where
    started_fits : (goal : Goal) (class : ℕ) (args : List ValueTree) (t : TypeTree) (d : ClassTree) → (goal ≡ Stored → e.operands ≡ [])
        → Wanted r (class_vars g.code) (typed_by types) goal g (length e.operands) t
        → slice_get r.classes class ≡ Some d → HaveTypes r.records (typed_by types) (values_of_list args) (first_types d.params d.slots) → is_nothing d.returns ≡ false → t ≡ FutureType d.returns
        → After r actors rules s types (start (classes r) i goal class (Some (begun d args)) (proc k xs))
    started_fits goal class args t d none w is fits some q =
        let name = (classes r).label class in
        let a = begun d args in
        fine_turn r types (λ z. enrol class name (push_result i (result_task i goal (RefValue kind.Future (suc z.made))) z)) k (added xs (suc k.started) a)
        (λ m. let k2 = record k { left = m } in
        let p = h.rest in
        let h2 : HandFits r types i k2 xs e g c = record {
          entry = h.entry;
          awake = h.awake;
          frame = h.frame;
          owner = h.owner;
          rest = record {
            cells = p.cells;
            waiting = p.waiting;
            actors = p.actors;
            work = p.work;
            ports = p.ports;
            main = p.main;
            requests = p.requests;
            numbered = p.numbered;
            framed = p.framed;
            registered = p.registered;
          };
        } in
        let future = FutureType d.returns in
        let ts = with_type types (suc k.made) future in
        let keeps = kept_types r types future k2 xs i h2.rest in
        let k3 = new_cell (Single None []) k2 in
        let h3 = hand_more r i xs e g c code types k2 h2 st o future (Single None []) (d.returns, refl, tt) refl in
        let x = gives_state r ts i goal (RefValue kind.Future (suc k.made)) t k3 xs e g c h3 code (stands_more r i xs e g c code types k2 h2 st o future)
        (keeps_more r i xs e g c code types k2 h2 st o future) none
        (wants_more r i xs e g c code types ts goal t w) (d.returns, q, new_type types (suc k.made) future) in
        let k4 = writes (start_line (suc k.started) name) (pushed x.0 (pushed (Run i) k3)) in
        let p4 : ProcessFits r ts k4 xs = record {
          cells = x.2.cells;
          waiting = x.2.waiting;
          actors = x.2.actors;
          work = x.2.work;
          ports = x.2.ports;
          main = x.2.main;
          requests = x.2.requests;
          numbered = x.2.numbered;
          framed = x.2.framed;
          registered = x.2.registered;
        } in
        let args2 = types_move r.records (typed_by types) (typed_by ts) (Seen Any) (λ q u s e. keeps q.1 (future_side q.0 u) s e)
        (values_of_list args) (first_types d.params d.slots) (any_parts (Seen Any) (λ q. tt) (values_of_list args)) fits in
        let st4 = begun_fits r actors (class_vars d) (typed_by ts) d (rules.classes class d is) args args2 in
        subst (λ z. Fine r types (enrol class name (push_result i z k2)).halted (enrol class name (push_result i z k2)) (added xs (suc k.started) a)) (sym x.1)
        (fine_since r types ts None k.halted (enrol class name (pushed x.0 (pushed (Run i) k2))) (added xs (suc k.started) a) (λ n v q. keeps n v tt q)
        (fine_same r ts k.halted (enrol class name (pushed x.0 (pushed (Run i) k2))) (added xs (suc k.started) a) go
        (add_actor r actors rules s ts k4 xs class (Some (suc k.made)) d a up p4 is (some, new_type types (suc k.made) future) refl st4))))

    abbrev starts : Goal → ℕ → List ValueTree → Type 0
    starts goal class args = After r actors rules s types (start (classes r) i goal class ((classes r).fresh class args) (proc k xs))

    pub start_fits : (goal : Goal) (class : ℕ) (args : List ValueTree) (t : TypeTree) → (goal ≡ Stored → e.operands ≡ []) → Wanted r (class_vars g.code) (typed_by types) goal g (length e.operands) t
        → Gives r (typed_by types) (Start class args) t
        → starts goal class args
    start_fits goal class args t none w y =
        let d = y.0 in
        let many = args_many r actors (class_vars d) (typed_by types) args d.slots d.params (rules.classes class d y.1.0).params y.1.1 in
        let same : nat_eq (length args) d.params ≡ true = grind (arith, many) in
        let fresh : (classes r).fresh class args ≡ Some (begun d args) = ap (λ o. fresh_from o args) y.1.0 ∙ ap (λ b. if b then Some (begun d args) else None) same in
        subst (λ o. After r actors rules s types (start (classes r) i goal class o (proc k xs))) (sym fresh) (started_fits goal class args t d none w y.1.0 y.1.1 y.2 y.3)

    -- the call of a void actor
    alone_fits : (class : ℕ) (args : List ValueTree) (d : ClassTree) → slice_get r.classes class ≡ Some d
        → HaveTypes r.records (typed_by types) (values_of_list args) (first_types d.params d.slots) → is_nothing d.returns ≡ true
        → After r actors rules s types (start_alone (classes r) i class (Some (begun d args)) (proc k xs))
    alone_fits class args d is fits void =
        let name = (classes r).label class in
        let a = begun d args in
        fine_turn r types (λ z. enrol_with class name None (pushed (Run i) z)) k (added xs (suc k.started) a)
        (λ m. let k2 = record k { left = m } in
        let p = h.rest in
        let h2 : HandFits r types i k2 xs e g c = record {
          entry = h.entry;
          awake = h.awake;
          frame = h.frame;
          owner = h.owner;
          rest = record {
            cells = p.cells;
            waiting = p.waiting;
            actors = p.actors;
            work = p.work;
            ports = p.ports;
            main = p.main;
            requests = p.requests;
            numbered = p.numbered;
            framed = p.framed;
            registered = p.registered;
          };
        } in
        let q = goes_by r types i (Run i) k2 xs e g c h2 (run_of i) (λ ts. (code, st, o)) in
        let k4 = writes (start_line (suc k.started) name) (pushed (Run i) k2) in
        let p4 : ProcessFits r types k4 xs = record {
          cells = q.cells;
          waiting = q.waiting;
          actors = q.actors;
          work = q.work;
          ports = q.ports;
          main = q.main;
          requests = q.requests;
          numbered = q.numbered;
          framed = q.framed;
          registered = q.registered;
        } in
        let st4 = begun_fits r actors (class_vars d) (typed_by types) d (rules.classes class d is) args fits in
        fine_same r types k.halted (enrol_with class name None (pushed (Run i) k2)) (added xs (suc k.started) a) go
        (add_actor r actors rules s types k4 xs class None d a up p4 is void refl st4))

    pub void_fits : (class : ℕ) (args : List ValueTree) → (d : ClassTree) × Called r (typed_by types) class d args × (is_nothing d.returns ≡ true)
        → After r actors rules s types (start_alone (classes r) i class ((classes r).fresh class args) (proc k xs))
    void_fits class args y =
        let d = y.0 in
        let many = args_many r actors (class_vars d) (typed_by types) args d.slots d.params (rules.classes class d y.1.0).params y.1.1 in
        let same : nat_eq (length args) d.params ≡ true = grind (arith, many) in
        let fresh : (classes r).fresh class args ≡ Some (begun d args) = ap (λ o. fresh_from o args) y.1.0 ∙ ap (λ b. if b then Some (begun d args) else None) same in
        subst (λ o. After r actors rules s types (start_alone (classes r) i class o (proc k xs))) (sym fresh) (alone_fits class args d y.1.0 y.1.1 y.2)

  -- an actor asks
  module _ (types : CellTypes) (i : ℕ) (k : Core) (xs : Numbered Frame) (e : Entry) (g : Frame) (c : ClassTree) (go : k.halted ≡ None) (h : HandFits r types i k xs e g c)
      (up : Rising 0 k.started k.entries) where
    end_fits : (v : ValueTree) (vs : List ValueTree) → OutcomeFits r.records (typed_by types) (GoodOutcome v) (end_type c.returns) → HaveSome r.records (typed_by types) vs → g ≡ over → e.operands ≡ []
        → After r actors rules s types (answer (classes r) s i (Returns v vs) (proc k xs))
    end_fits v vs f some ended none =
        let t = Close i (GoodOutcome v) in
        fine_same r types k.halted (dropping_values vs (pushed t k)) xs go
        (dropping_fits r types vs (pushed t k) xs some (goes_by r types i t k xs e g c h (close_of i (GoodOutcome v)) (λ ts. (f, ended, none))))

    effect_asked : (goal : Goal) (eff : Effect) → g.code ≡ c → ActFits r (class_vars g.code) (typed_by types) c (length e.operands) (Effects goal eff) g → OperandsFit r types g 0 e.operands
        → ((OfWait (Effects goal eff) → ⊥) → e.operands ≡ [])
        → After r actors rules s types (answer_effect (classes r) s i goal eff (proc k xs))
    effect_asked goal (Start class args) code f o none =
        start_fits types i k xs e g c go h code f.0 o up goal class args f.1.0 (λ q. none (λ w. stored_waits goal (Start class args) q w)) f.1.1 f.1.2
      where
        stored_waits : (goal : Goal) (eff : Effect) → goal ≡ Stored → OfWait (Effects goal eff) → ⊥
        stored_waits Stored eff q w = w
        stored_waits (Kept spot) eff q w = cc
    effect_asked goal eff code f o none = react_fits r i xs e g c code types s (Effects goal eff) k go h up f o none (λ z class args q. cc) (λ v vs q. cc) (λ class args q. cc)

    pub asked_fits : (act : Act) → StaysIn r (class_vars g.code) (typed_by types) c act g → ActFits r (class_vars g.code) (typed_by types) c (length e.operands) act g
        → OperandsFit r types g 0 e.operands → ((OfWait act → ⊥) → e.operands ≡ [])
        → After r actors rules s types (answer (classes r) s i act (proc k xs))
    asked_fits (Returns v vs) stays f o none = end_fits v vs f.0 f.1 f.2 (none (λ w. w))
    asked_fits (Effects goal eff) stays f o none = effect_asked goal eff stays f o none
    asked_fits (Starts class args) stays f o none = void_fits types i k xs e g c go h stays f.0 o up class args f.1
    asked_fits act stays f o none = react_fits r i xs e g c stays types s act k go h up f o none (λ z class args q. cc) (λ v vs q. cc) (λ class args q. cc)

  -- what is asked for fits the frame that is there afterwards
  acts_after : (types : CellTypes) (f g : Frame) (c : ClassTree) (kept n : ℕ) (act : Act) → f.code ≡ c → kept ≡ n → StaysIn r (class_vars f.code) (typed_by types) f.code act g
      → ActFits r (class_vars f.code) (typed_by types) f.code kept act g
      → ActFits r (class_vars g.code) (typed_by types) c n act g × StaysIn r (class_vars g.code) (typed_by types) c act g
  acts_after types f g c kept n (Returns v vs) code q stays h = (subst (λ d. ActFits r (class_vars g.code) (typed_by types) d n (Returns v vs) g) code h, tt)
  acts_after types f g c kept n act code q stays h = (
    subst (λ d. ActFits r (class_vars g.code) (typed_by types) d n act g) code
        (subst (λ m. ActFits r (class_vars g.code) (typed_by types) f.code m act g) q
        (subst (λ d. ActFits r (class_vars d) (typed_by types) f.code kept act g) (sym stays) h)),
    stays ∙ code,
  )

  module _ (types : CellTypes) (i : ℕ) (ts : List Task) (c : Core) (xs : Numbered Frame) (o : Orderly c) (go : c.halted ≡ None) (top : c.tasks ≡ Run i ∷ ts) (p : ProcessFits r types c xs) where
    -- a quiet step
    quiet_fits : (a : Actor r types i (Run i) ts c xs) (g : Frame) → g.code ≡ a.class → Standing r types g → a.entry.operands ≡ [] → ProcessFits r types c (put xs i g)
    quiet_fits a g code st none =
        let rest = frame_but r types i c xs g a.running o.waiting (all_but r types i c xs p) in
        let list : tasks_of i c.tasks ≡ Run i ∷ tasks_of i ts = ap (tasks_of i) top ∙ own_task i (Run i) ts (run_of i) in
        let kept : OperandsFit r types g 0 a.entry.operands = subst (OperandsFit r types g 0) (sym none) tt in
        put_back r types i c (put xs i g) rest
        (actor_at r types a.entry g (thing c.entries i) (thing (put xs i g) i) (tasks_of i c.tasks) a.at (thing_put xs i a.frame g a.stands)
        (subst (ActorFits r types a.entry g) (sym list) (doing_actor r types a.entry g a.class (Run i ∷ tasks_of i ts) a.owner a.awake (code, st, kept))))
        (awake_registered i c.entries c.cells a.entry a.at a.awake)

    answered_fits : (a : Actor r types i (Run i) ts c xs) (q : Option Ask × Frame) → next_step (class_names r) (view s i c) a.frame ≡ q
        → AsksFit r (class_vars a.frame.code) (typed_by types) a.frame.code (view s i c).kept q
        → After r actors rules s types (run_next (classes r) s i ts q (proc c xs))
    answered_fits a (None, g) e fit =
        let f = a.frame in
        let none = none_kept r types (class_names r) (view s i c) f a.entry.operands a.doing.2 (λ w. subst (AsksOfWaitAt f) e w) in
        fine_same r types c.halted c (put xs i g) go (quiet_fits a g (fit.1 ∙ a.doing.0) fit.0 none)
    answered_fits a (Some ask, g) e fit =
        let f = a.frame in
        let v = view s i c in
        let k = record c { tasks = ts; left = ask.left } in
        let ops = a.entry.operands in
        let kept : v.kept ≡ length ops = ap kept_by a.at in
        let acts = acts_after types f g a.class v.kept (length ops) ask.act a.doing.0 kept fit.1 fit.0 in
        let o2 = still_kept r types (class_names r) v f ops ask g a.doing.2 e in
        let none : ((OfWait ask.act → ⊥) → ops ≡ []) = (λ n. none_kept r types (class_names r) v f ops a.doing.2 (λ w. n (subst (AsksOfWaitAt f) e w).0)) in
        let b = a.rest in
        let rest : FitsBut r types i k xs = record {
          cells = b.cells;
          waiting = b.waiting;
          actors = b.actors;
          work = b.work;
          ports = b.ports;
          main = b.main;
          requests = b.requests;
          numbered = b.numbered;
          framed = b.framed;
          registered = b.registered;
        } in
        let rest2 = frame_but r types i k xs g a.running o.waiting rest in
        asked_fits types i k (put xs i g) a.entry g a.class go
        (record { entry = a.at; awake = a.awake; frame = thing_put xs i f g a.stands; owner = a.owner; rest = rest2 })
        o.numbered ask.act acts.1 acts.0 o2 none

    pub run_fits : After r actors rules s types (run (classes r) s i ts (thing xs i) (proc c xs))
    run_fits =
        let a = actor_here r types i (Run i) ts c xs o top (run_of i) p in
        let f = a.frame in
        let v = view s i c in
        let fit = next_fits r actors (class_vars f.code) (typed_by types) v f (frame_rules r actors rules s types a.entry a.class f a.owner a.doing.0) rules.functions
        (cells_seen r types s i c xs p) a.doing.1 in
        subst (λ x. After r actors rules s types (run (classes r) s i ts x (proc c xs))) (sym a.stands) (answered_fits a (next_step (class_names r) v f) refl fit)
