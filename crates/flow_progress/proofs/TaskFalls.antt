-- Each task takes a turn or leaves less to do.
use Rattle.std.proofs.Common.{◌≡◌, ℕ, suc, ◌+◌, ◌<◌, ◌≤◌, true, List, [], ◌∷◌, ◌++◌, length, ◌⊎◌, inl, inr, refl, sym, ap, ◌∙◌, subst, arith}
use Rattle.std.specs.declared.option.Option.{Option}
use Rattle.std.specs.declared.option.Option.TheVariants.{None, Some}
use Rattle.flow_base.specs.ErrorNumbers.{operation_cancelled}
use Rattle.flow_tree.specs.declared.ty.Ident.{Ident}
use Rattle.flow_tree.specs.Tree.{ExprTree}
use Rattle.flow_value.specs.Values.{ValueTree, OutcomeTree, GoodOutcome, BadOutcome}
use Rattle.flow_class.specs.Classes.{CatcherTree, InstrTree, SetInstr, EffectInstr, NewInstr, ActInstr, DropInstr, RawTree}
use Rattle.flow_class.specs.Code.{Fetched, Body, Last, Nothing, fetch, catcher_at}
use Rattle.flow_valid.specs.Validity.{catchers_kept}
use Rattle.flow_numbered.specs.Numbered.{Numbered, thing, put, removed}
use Rattle.flow_meaning.specs.Cells.{Ref}
use Rattle.flow_meaning.specs.Requests.{Spot, Act, Effects, Effect, Start, Goal, Ask, Supply, Starts}
use Rattle.flow_meaning.specs.Process.{Task, Run, Give, Throw, Catch, Store, Keep, Close, Fire, Drop, Entry, Halt, Core}
use Rattle.flow_meaning.specs.Lines.{throw_line, catch_line}
use Rattle.flow_meaning.specs.References.{scan_of}
use Rattle.flow_meaning.specs.Work.{writes, pushed, dropping_values, leave_for, take_branch, is_ready_at}
use Rattle.flow_meaning.specs.Dropping.{drop, fire, close}
use Rattle.flow_meaning.specs.React.{react}
use Rattle.flow_meaning.specs.Step.{Stepped, proc, kept_by, view, start, start_core, answer_effect, answer, run_next, run, give, store, throw, throw_core, OperandFate, GoesOn, Cancelled, Ready, verdict, with_operand, below, keep_by, keep, handle, close_actor, step_tasks, step_if, start_void, start_alone}
use Rattle.flow_meaning.specs.Orderly.{tasks_of, is_suspended, Stands, Paired, Orderly, UnlessStopped, Phase, Free, Risky, Due, Waiting, phase_of}
use Rattle.flow_meaning.specs.Variables.{filled}
use Rattle.flow_meaning.specs.Frame.{Memory, Frame, read, write, next_instr, assign, lose, raise, raised}
use Rattle.flow_meaning.specs.Class.{stored, store_at, class_names, classes}
use Rattle.flow_meaning.proofs.Posture.{thing_put_other, thing_put, own_task, other_task, Unless, unless, unless_map, phase_awake, Awake}
use Rattle.flow_meaning.proofs.Shifts.{run_of, give_of, throw_of, catch_of, store_of, keep_of, close_of, same_of}
use Rattle.flow_meaning.proofs.TaskShifts.{next_below, below_unmoved}
use Rattle.flow_progress.specs.Phases.{Placed}
use Rattle.flow_progress.specs.FramesByRequest.{IsOf as OfClasses, AsksHere, Going}
use Rattle.flow_progress.specs.Ending.{LeadOn, NoPlace}
use Rattle.flow_progress.proofs.Ahead.{behind, ahead, whole, ahead_whole, behind_whole, ahead_behind, ahead_jump, catches_at}
use Rattle.flow_progress.proofs.Weights.{fires, stored_room, busy, weigh, weight, load, Less, Falls, falls_on, still_weight, still_less, dropping_lighter, Hand, weight_at, hand_weight, push_falls, leave_falls, fallen, eased_less}
use Rattle.flow_progress.proofs.TurnsTaken.{branch_turns, drop_turns, close_turns, start_turns, alone_turns}
use Rattle.flow_progress.proofs.Reacts.{Room, react_falls}
use Rattle.flow_progress.proofs.Rooms.{Leaves, next_leaves}
use Rattle.flow_progress.proofs.StepFalls.{leads_of_frame, fire_cell_easy, take_code, below_fires, one_more, Off, off_by, same_others, Shrinks, turned, shrinks, shrinks_same}

-- a frame that is known runs a class of the program
frame_code : (r : RawTree) (p : Phase) (f : Frame) → Going r p f → OfClasses r f.code
frame_code r Free f h = h
frame_code r Risky f h = h
frame_code r Due f h = h.0
frame_code r Waiting f h = h.0

asks_there : (x : Fetched) → AsksHere x → x ≡ Nothing → ⊥
asks_there Nothing h q = absurd h
asks_there (Body i) h q = cc
asks_there (Last l) h q = cc

-- after something in which the actor alone moved
falls_after : (i n : ℕ) (c k d : Core) (xs : Numbered Frame) → k.left ≤ c.left → fires k.tasks ≤ fires c.tasks → k.started ≡ c.started → ((j : ℕ) → (i ≡ j → ⊥) → weight k xs j ≡ weight c xs j)
    → Falls i n k d xs → Falls i n c d xs
falls_after i n c k d xs l f s same (inl t) = inl (omega (arith, t, l))
falls_after i n c k d xs l f s same (inr h) =
    inr (omega (arith, h.0, l), omega (arith, h.1, f), h.2 ∙ s, h.3, λ j o. let e = same j o in omega (arith, h.4 j o, e))

-- at hand with another frame
put_hand : (i : ℕ) (t : Task) (ts : List Task) (c k : Core) (xs : Numbered Frame) (e : Entry) (f g : Frame) → Off i t ts c xs e → thing k.entries i ≡ Some e → thing xs i ≡ Some f
    → Hand i k (put xs i g) e g
put_hand i t ts c k xs e f g h at fr = record { entry = at; awake = h.awake; frame = thing_put xs i f g fr }

module _ (r : RawTree) (leads : LeadOn r) (s : Supply) where
  abbrev After : Core → Numbered Frame → Stepped Frame → Type 0
  After c xs q = Unless (λ m. Less c (load c xs) m (load m q.0.actors)) q.0.core

  -- an actor's step
  start_less : (i : ℕ) (goal : Goal) (class : ℕ) (o : Option Frame) (c k : Core) (xs ys : Numbered Frame) → k.left ≤ c.left → After c xs (start (classes r) i goal class o (proc k ys))
  start_less i goal class None c k xs ys le = tt
  start_less i goal class (Some a) c k xs ys le =
      let d = start_core i goal class ((classes r).label class) k in
      unless_map d.halted (λ lt. inl (omega (arith, lt, le))) (start_turns i goal class ((classes r).label class) k)

  alone_less : (i class : ℕ) (o : Option Frame) (c k : Core) (xs ys : Numbered Frame) → k.left ≤ c.left → After c xs (start_alone (classes r) i class o (proc k ys))
  alone_less i class None c k xs ys le = tt
  alone_less i class (Some a) c k xs ys le =
      let d = start_void i class ((classes r).label class) k in
      unless_map d.halted (λ lt. inl (omega (arith, lt, le))) (alone_turns i class ((classes r).label class) k)

  module _ (i : ℕ) (ts : List Task) (c : Core) (xs : Numbered Frame) (e : Entry) (f g : Frame) (left : ℕ) where
    -- the process, with the actor as it is after its step
    abbrev asking : Core
    asking = record c { tasks = ts; left = left }

    reacted_less : Off i (Run i) ts c xs e → thing xs i ≡ Some f → left ≤ c.left → (act : Act) → Room act g (length e.operands) (ahead f.code f.block f.instr (length e.operands))
        → Unless (λ m. Less c (load c xs) m (load m (put xs i g))) (react s i act asking).0
    reacted_less h fr le act room =
        let n = ahead f.code f.block f.instr (length e.operands) in
        shrinks i (Run i) ts c xs e f g left (react s i act asking).0 h fr le
        (react_falls i n (put xs i g) e g s act asking h.pop.rises (put_hand i (Run i) ts c asking xs e f g h h.entry fr) room)

    effect_less : Off i (Run i) ts c xs e → thing xs i ≡ Some f → left ≤ c.left → (goal : Goal) (eff : Effect)
        → Room (Effects goal eff) g (length e.operands) (ahead f.code f.block f.instr (length e.operands))
        → After c xs (answer_effect (classes r) s i goal eff (proc asking (put xs i g)))
    effect_less h fr le goal (Start class args) room = start_less i goal class ((classes r).fresh class args) c asking xs (put xs i g) le
    effect_less h fr le goal eff room = reacted_less h fr le (Effects goal eff) room

    answer_less : Off i (Run i) ts c xs e → thing xs i ≡ Some f → left ≤ c.left → (act : Act) → Room act g (length e.operands) (ahead f.code f.block f.instr (length e.operands))
        → After c xs (answer (classes r) s i act (proc asking (put xs i g)))
    answer_less h fr le (Effects goal eff) room = effect_less h fr le goal eff room
    answer_less h fr le (Starts class args) room = alone_less i class ((classes r).fresh class args) c asking xs (put xs i g) le
    answer_less h fr le act room = reacted_less h fr le act room

  next_less : (i : ℕ) (ts : List Task) (c : Core) (xs : Numbered Frame) (e : Entry) (f : Frame) (p : Option Ask × Frame) → Orderly c → c.tasks ≡ Run i ∷ ts → Off i (Run i) ts c xs e
      → thing xs i ≡ Some f
      → Leaves (view s i c) f p → After c xs (run_next (classes r) s i ts p (proc c xs))
  next_less i ts c xs e f (None, g) o top h fr l =
      let kept : kept_by (thing c.entries i) ≡ length e.operands = ap kept_by h.entry in
      let room : ahead g.code g.block g.instr (length e.operands) < ahead f.code f.block f.instr (length e.operands) =
      subst (λ k. ahead g.code g.block g.instr k < ahead f.code f.block f.instr k) kept l in
      let before : weight c xs i ≡ ahead f.code f.block f.instr (length e.operands) = hand_weight i c xs e f (Run i ∷ tasks_of i ts) (record { entry = h.entry; awake = h.awake; frame = fr }) h.all in
      let now : weight c (put xs i g) i ≡ ahead g.code g.block g.instr (length e.operands) =
      hand_weight i c (put xs i g) e g (Run i ∷ tasks_of i ts) (record { entry = h.entry; awake = h.awake; frame = thing_put xs i f g fr }) h.all in
      unless c.halted (fallen i (weight c xs i) c c c xs (put xs i g) h.within (omega arith) (omega arith) (omega arith) refl
      (λ j k. ap (weigh (is_suspended (thing c.entries j)) (kept_by (thing c.entries j)) (tasks_of j c.tasks)) (thing_put_other xs i j g k))
      (inr (
        omega arith,
        omega arith,
        refl,
        omega (arith, now, before, room),
        λ j k. omega arith,
      )))
  next_less i ts c xs e f (Some ask, g) o top h fr l =
      let kept : kept_by (thing c.entries i) ≡ length e.operands = ap kept_by h.entry in
      answer_less i ts c xs e f g ask.left h fr l.0 ask.act (subst (λ k. Room ask.act g k (ahead f.code f.block f.instr k)) kept l.1)

  run_less : (i : ℕ) (ts : List Task) (c : Core) (xs : Numbered Frame) (x : Option Frame) → Orderly c → Placed (Going r) c xs → c.tasks ≡ Run i ∷ ts → thing xs i ≡ x
      → After c xs (run (classes r) s i ts x (proc c xs))
  run_less i ts c xs None o p top fr = tt
  run_less i ts c xs (Some f) o p top fr =
      let h = off_by i (Run i) ts c xs o top (run_of i) in
      let code = frame_code r (phase_of c i) f (p.phases i f fr) in
      next_less i ts c xs h.0 f ((classes r).next (view s i c) f) o top h.1 fr (next_leaves (view s i c) f (class_names r) (leads_of_frame r f.code leads code).0)

  -- a branch that was taken
  give_less : (i b : ℕ) (v : OutcomeTree) (ts : List Task) (c : Core) (xs : Numbered Frame) (x : Option Frame) → Orderly c → c.tasks ≡ Give i b v ∷ ts → thing xs i ≡ x
      → After c xs (give (classes r) i b v x (proc (record c { tasks = ts }) xs))
  give_less i b v ts c xs None o top fr = tt
  give_less i b (BadOutcome err) ts c xs (Some f) o top fr =
      let k = record c { tasks = ts } in
      let h = off_by i (Give i b (BadOutcome err)) ts c xs o top (give_of i b (BadOutcome err)) in
      shrinks_same i (Give i b (BadOutcome err)) ts c xs h.0 f (pushed (Throw i err) k) h.1 fr
      (unless c.halted (push_falls i (5 + whole f.code) (Throw i err) k xs h.0 f (record { entry = h.1.entry; awake = h.1.awake; frame = fr }) (throw_of i err)
      (λ us. omega (arith, behind_whole f.code f.block))))
  give_less i b (GoodOutcome v) ts c xs (Some f) o top fr =
      let k = record c { tasks = ts } in
      let h = off_by i (Give i b (GoodOutcome v)) ts c xs o top (give_of i b (GoodOutcome v)) in
      let out = (classes r).take b v f in
      let same : out.1.code ≡ f.code = take_code r b v f (fetch f.code f.block f.instr) in
      let d = pushed (Run i) k in
      shrinks i (Give i b (GoodOutcome v)) ts c xs h.0 f out.1 c.left (dropping_values out.0 d) h.1 fr (omega arith)
      (unless c.halted (falls_on i (5 + whole f.code) k d (dropping_values out.0 d) (put xs i out.1)
      (push_falls i (5 + whole f.code) (Run i) k (put xs i out.1) h.0 out.1 (put_hand i (Give i b (GoodOutcome v)) ts c k xs h.0 f out.1 h.1 h.1.entry fr) (run_of i)
      (λ us. let w : ahead out.1.code out.1.block out.1.instr (length h.0.operands) ≤ whole f.code = subst (λ z. ahead out.1.code out.1.block out.1.instr (length h.0.operands) ≤ whole z) same
      (ahead_whole out.1.code out.1.block out.1.instr (length h.0.operands)) in omega (arith, w)))
      (inr (dropping_lighter out.0 d (put xs i out.1)))))

  -- an error is thrown
  thrown_less : (i err : ℕ) (ts : List Task) (c : Core) (xs : Numbered Frame) (e : Entry) (f : Frame) (k : Option CatcherTree) → Off i (Throw i err) ts c xs e → thing xs i ≡ Some f
      → catcher_at f.code f.block ≡ k → catchers_kept f.code ≡ true
      → Shrinks i (Throw i err) ts c xs (throw_core i err (raised err f k).0 (Some e) (record c { tasks = ts })) (put xs i (raised err f k).1)
  thrown_less i err ts c xs e f None h fr q kept =
      let g = (raised err f None).1 in
      shrinks i (Throw i err) ts c xs e f g c.left (throw_core i err (raised err f None).0 (Some e) (record c { tasks = ts })) h fr (omega arith)
      (unless c.halted (leave_falls i (3 + behind f.code f.block) e e (raised err f None).0.values (Close i (BadOutcome err)) (writes (throw_line i err) (record c { tasks = ts }))
      (put xs i g) g h.entry (thing_put xs i f g fr)
      (close_of i (BadOutcome err)) (λ us. omega arith)))
  thrown_less i err ts c xs e f (Some k) h fr q kept =
      let g = (raised err f (Some k)).1 in
      shrinks i (Throw i err) ts c xs e f g c.left (throw_core i err (raised err f (Some k)).0 (Some e) (record c { tasks = ts })) h fr (omega arith)
      (unless c.halted (leave_falls i (3 + behind f.code f.block) e e (raised err f (Some k)).0.values (Catch i err) (writes (throw_line i err) (record c { tasks = ts })) (put xs i g) g h.entry
      (thing_put xs i f g fr)
      (catch_of i err) (λ us. omega (arith, ahead_jump f.code f.block k.block 0 (catches_at f.code f.block k kept q)))))

  throw_less : (i err : ℕ) (ts : List Task) (c : Core) (xs : Numbered Frame) (x : Option Frame) → Orderly c → Placed (Going r) c xs → c.tasks ≡ Throw i err ∷ ts → thing xs i ≡ x
      → After c xs (throw (classes r) i err x (proc (record c { tasks = ts }) xs))
  throw_less i err ts c xs None o p top fr = tt
  throw_less i err ts c xs (Some f) o p top fr =
      let h = off_by i (Throw i err) ts c xs o top (throw_of i err) in
      let code = frame_code r (phase_of c i) f (p.phases i f fr) in
      let a = thrown_less i err ts c xs h.0 f (catcher_at f.code f.block) h.1 fr refl (leads_of_frame r f.code leads code).1 in
      subst (λ en. Shrinks i (Throw i err) ts c xs (throw_core i err (raise err f).0 en (record c { tasks = ts })) (put xs i (raise err f).1)) (sym h.1.entry) a

  catch_less : (i err : ℕ) (ts : List Task) (c : Core) (xs : Numbered Frame) (x : Option Frame) → Orderly c → c.tasks ≡ Catch i err ∷ ts → thing xs i ≡ x
      → Shrinks i (Catch i err) ts c xs (handle i err (record c { tasks = ts })) xs
  catch_less i err ts c xs None o top fr =
      let k = record c { tasks = ts } in
      let h = off_by i (Catch i err) ts c xs o top (catch_of i err) in
      let d = handle i err k in
      let before : weight c xs i ≡ 1 = weight_at i c xs h.0 None (Catch i err ∷ tasks_of i ts) h.1.entry h.1.awake fr h.1.all in
      let now : weight d xs i ≡ 0 = weight_at i d xs h.0 None (Run i ∷ tasks_of i ts) h.1.entry h.1.awake fr (own_task i (Run i) ts (run_of i)) in
      unless c.halted (fallen i 1 c k d xs xs h.1.within (omega (arith, before)) (omega arith) h.1.few refl (same_others i (Catch i err) ts c xs h.0 h.1)
      (inr (omega arith, omega arith, refl, omega (arith, now), λ j o. still_less j k d xs ((refl, other_task i j (Run i) ts (run_of i) o), refl))))
  catch_less i err ts c xs (Some f) o top fr =
      let k = record c { tasks = ts } in
      let h = off_by i (Catch i err) ts c xs o top (catch_of i err) in
      shrinks_same i (Catch i err) ts c xs h.0 f (handle i err k) h.1 fr
      (unless c.halted (push_falls i (1 + ahead f.code f.block f.instr (length h.0.operands)) (Run i) (writes (catch_line i err) k) xs h.0 f
      (record { entry = h.1.entry; awake = h.1.awake; frame = fr }) (run_of i) (λ us. omega arith)))

  -- the result of an effect
  module _ (i : ℕ) (v : ValueTree) (ts : List Task) (c : Core) (xs : Numbered Frame) (f : Frame) (o : Orderly c) (top : c.tasks ≡ Store i v ∷ ts) (fr : thing xs i ≡ Some f) where
    abbrev left_over : Core
    left_over = record c { tasks = ts }

    -- the frame goes on, with no more ahead than was foreseen
    moved : (e : Entry) (g : Frame) (vs : List ValueTree) → Off i (Store i v) ts c xs e → ((kept : ℕ) → ahead g.code g.block g.instr kept ≤ stored_room (fetch f.code f.block f.instr) f kept)
        → Shrinks i (Store i v) ts c xs (dropping_values vs left_over) (put xs i g)
    moved e g vs h room =
        let n = busy f (length e.operands) (Store i v ∷ tasks_of i ts) in
        let now : weight left_over (put xs i g) i ≡ ahead g.code g.block g.instr (length e.operands) =
        hand_weight i left_over (put xs i g) e g (Run i ∷ []) (put_hand i (Store i v) ts c left_over xs e f g h h.entry fr) h.pop.rest in
        shrinks i (Store i v) ts c xs e f g c.left (dropping_values vs left_over) h fr (omega arith)
        (unless c.halted (falls_on i n left_over left_over (dropping_values vs left_over) (put xs i g)
        (inr (omega arith, omega arith, refl, omega (arith, now, room (length e.operands)), λ j o. omega arith)) (inr (dropping_lighter vs left_over (put xs i g)))))

    abbrev Comes : Fetched → Type 0
    Comes x = NoPlace r c xs ⊎ Shrinks i (Store i v) ts c xs (dropping_values (store_at (class_names r) v f x).0 left_over) (put xs i (store_at (class_names r) v f x).1)

    next_room : (x : InstrTree) → fetch f.code f.block f.instr ≡ Body x → (kept : ℕ) → ahead f.code f.block (suc f.instr) kept ≤ stored_room (fetch f.code f.block f.instr) f kept
    next_room x q kept = subst (λ z. ahead f.code f.block (suc f.instr) kept ≤ stored_room z f kept) (sym q) (omega arith)

    by_place : (e : Entry) (path : List Ident) (call : ExprTree) (a : Option (List ValueTree × Memory)) → Off i (Store i v) ts c xs e → fetch f.code f.block f.instr ≡ Body (EffectInstr path call)
        → assign (class_names r).records f.mem path v ≡ a → NoPlace r c xs ⊎ Shrinks i (Store i v) ts c xs (dropping_values (stored f a).0 left_over) (put xs i (stored f a).1)
    by_place e path call None h q a = inl (record { actor = i; value = v; rest = ts; frame = f; path = path; call = call; newest = top; stands = fr; instruction = q; none = a })
    by_place e path call (Some p) h q a = inr (moved e (next_instr p.1 f) p.0 h (next_room (EffectInstr path call) q))

    by_fetched : (e : Entry) (x : Fetched) → Off i (Store i v) ts c xs e → AsksHere x → fetch f.code f.block f.instr ≡ x → Comes x
    by_fetched e (Body (EffectInstr path call)) h due q = by_place e path call (assign (class_names r).records f.mem path v) h q refl
    by_fetched e (Body (NewInstr p)) h due q = inr (moved e (next_instr (write f.mem p (Some v)) f) (filled (read f.mem p ∷ [])) h (next_room (NewInstr p) q))
    by_fetched e (Last l) h due q = inr (moved e f [] h (λ kept. subst (λ z. ahead f.code f.block f.instr kept ≤ stored_room z f kept) (sym q) (omega arith)))
    by_fetched e (Body (SetInstr path call)) h due q = absurd due
    by_fetched e (Body (ActInstr path es)) h due q = absurd due
    by_fetched e (Body (DropInstr ns)) h due q = absurd due
    by_fetched e Nothing h due q = absurd due

    store_there : Placed (Going r) c xs → NoPlace r c xs ⊎ After c xs (store (classes r) i v (Some f) (proc left_over xs))
    store_there p =
        let h = off_by i (Store i v) ts c xs o top (store_of i v) in
        let awake : Awake i c = ap is_suspended h.1.entry ∙ ap Some h.1.awake in
        let first = phase_awake i c (Store i v) (tasks_of i ts) awake h.1.all in
        let due = (subst (λ q. Going r q f) first (p.phases i f fr)).1 in
        by_fetched h.0 (fetch f.code f.block f.instr) h.1 due refl

  store_less : (i : ℕ) (v : ValueTree) (ts : List Task) (c : Core) (xs : Numbered Frame) (x : Option Frame) → Orderly c → Placed (Going r) c xs → c.tasks ≡ Store i v ∷ ts → thing xs i ≡ x
      → NoPlace r c xs ⊎ After c xs (store (classes r) i v x (proc (record c { tasks = ts }) xs))
  store_less i v ts c xs None o p top fr = inr tt
  store_less i v ts c xs (Some f) o p top fr = store_there i v ts c xs f o top fr p

  -- an operand is kept
  module _ (i : ℕ) (spot : Spot) (q : Ref) (ts : List Task) (c : Core) (xs : Numbered Frame) (e : Entry) (f : Frame) (o : Orderly c) (top : c.tasks ≡ Keep i spot q ∷ ts)
      (fr : thing xs i ≡ Some f) where
    abbrev unkept : Core
    unkept = record c { tasks = ts }

    abbrev more_kept : Entry
    more_kept = with_operand spot q e

    goes_on : Off i (Keep i spot q) ts c xs e → Shrinks i (Keep i spot q) ts c xs (record unkept { entries = put c.entries i more_kept }) xs
    goes_on h =
        let n = busy f (length e.operands) (Keep i spot q ∷ tasks_of i ts) in
        let d = record unkept { entries = put c.entries i more_kept } in
        let now : weight d xs i ≡ ahead f.code f.block f.instr (length (e.operands ++ q ∷ [])) =
        hand_weight i d xs more_kept f (Run i ∷ []) (record { entry = thing_put c.entries i e more_kept h.entry; awake = h.awake; frame = fr }) h.pop.rest in
        let longer : length (e.operands ++ q ∷ []) ≡ suc (length e.operands) = one_more e.operands q in
        let now2 : weight d xs i ≡ ahead f.code f.block f.instr (suc (length e.operands)) = subst (λ m. weight d xs i ≡ ahead f.code f.block f.instr m) longer now in
        shrinks_same i (Keep i spot q) ts c xs e f d h fr
        (unless c.halted (inr (
          omega arith,
          omega arith,
          refl,
          omega (arith, now2),
          λ j k. still_less j unkept d xs ((ap is_suspended (thing_put_other c.entries i j more_kept k), refl), ap kept_by (thing_put_other c.entries i j more_kept k)),
        )))

    -- the actor leaves its wait: its step is off the stack too
    abbrev stepless : Core
    stepless = record unkept { tasks = below ts }

    cancels : Off i (Keep i spot q) ts c xs e → AsksHere (fetch f.code f.block f.instr)
        → Shrinks i (Keep i spot q) ts c xs (leave_for i more_kept (lose f).0 (Throw i operation_cancelled) stepless) (put xs i (lose f).1)
    cancels h due =
        let n = busy f (length e.operands) (Keep i spot q ∷ tasks_of i ts) in
        let g = (lose f).1 in
        let d = leave_for i more_kept (lose f).0 (Throw i operation_cancelled) stepless in
        let next = next_below i spot q c.tasks ts top o.paired in
        let few = below_fires ts in
        let there : behind f.code f.block + 6 ≤ ahead f.code f.block f.instr (suc (length e.operands)) =
        ahead_behind f.code f.block f.instr (suc (length e.operands)) (asks_there (fetch f.code f.block f.instr) due) in
        let left = leave_falls i n more_kept e (lose f).0 (Throw i operation_cancelled) stepless (put xs i g) g h.entry (thing_put xs i f g fr) (throw_of i operation_cancelled)
        (λ us. omega (arith, there)) in
        shrinks i (Keep i spot q) ts c xs e f g c.left d h fr (omega arith)
        (unless c.halted (falls_after i n unkept stepless d (put xs i g) (omega arith) few refl (λ j k. still_weight j unkept stepless (put xs i g) (below_unmoved i unkept next j k, refl)) left))

    kept_by_less : (b : ℕ) (w : OperandFate) → Off i (Keep i spot q) ts c xs e → AsksHere (fetch f.code f.block f.instr) → After c xs (keep_by (classes r) i b w q more_kept f (proc unkept xs))
    kept_by_less b GoesOn h due = goes_on h
    kept_by_less b Cancelled h due = cancels h due
    kept_by_less b Ready h due =
        let d = take_branch i b q.1 more_kept (lose f).0 (thing c.cells q.1) stepless in
        turned i (Keep i spot q) ts c xs stepless d (put xs i (lose f).1) (omega arith) (branch_turns i b q.1 more_kept (lose f).0 (thing c.cells q.1) stepless)

  keep_less : (i : ℕ) (spot : Spot) (q : Ref) (ts : List Task) (c : Core) (xs : Numbered Frame) (x : Option Frame) (y : Option Entry) → Orderly c → Placed (Going r) c xs → c.tasks ≡ Keep i spot q ∷ ts
      → thing xs i ≡ x → thing c.entries i ≡ y
      → After c xs (keep (classes r) i spot q x y (proc (record c { tasks = ts }) xs))
  keep_less i spot q ts c xs None None o p top fr at = tt
  keep_less i spot q ts c xs None (Some e) o p top fr at = tt
  keep_less i spot q ts c xs (Some f) None o p top fr at = tt
  keep_less i spot q ts c xs (Some f) (Some e) o p top fr at =
      let h = off_by i (Keep i spot q) ts c xs o top (keep_of i spot q) in
      let same : h.0 ≡ e = same_of (sym h.1.entry ∙ at) in
      let awake : Awake i c = ap is_suspended h.1.entry ∙ ap Some h.1.awake in
      let first = phase_awake i c (Keep i spot q) (tasks_of i ts) awake h.1.all in
      let due = (subst (λ z. Going r z f) first (p.phases i f fr)).1 in
      kept_by_less i spot q ts c xs e f o top fr (length e.operands) (verdict e.marked (is_ready_at (thing c.cells q.1))) (subst (Off i (Keep i spot q) ts c xs) same h.1) due

  close_less : (i : ℕ) (v : OutcomeTree) (ts : List Task) (c : Core) (xs : Numbered Frame) (y : Option Entry) → After c xs (close_actor (classes r) i v y (proc (record c { tasks = ts }) xs))
  close_less i v ts c xs None = tt
  close_less i v ts c xs (Some e) =
      let k = record c { tasks = ts } in
      let scan = scan_of (classes r).occ (removed xs i) in
      turned i (Close i v) ts c xs k (close scan i e.result v k) (removed xs i) (omega arith) (close_turns scan i e.result v k)

  fire_less : (n : ℕ) (ts : List Task) (c : Core) (xs : Numbered Frame) → Orderly c → c.tasks ≡ Fire n ∷ ts
      → Unless (λ m. Less c (load c xs) m (load m xs)) (fire (scan_of (classes r).occ xs) n (record c { tasks = ts }))
  fire_less n ts c xs o top =
      let k = record c { tasks = ts } in
      let scan = scan_of (classes r).occ xs in
      let d = fire scan n k in
      let few : fires ts < fires c.tasks = subst (λ us. fires ts < fires us) (sym top) (omega arith) in
      unless_map d.halted (eased_less c k d xs (omega arith) few refl
      (λ j. ap (λ us. weigh (is_suspended (thing c.entries j)) (kept_by (thing c.entries j)) us (thing xs j)) (sym (ap (tasks_of j) top))))
      (fire_cell_easy xs scan n (thing c.cells n) k (record {
        actors = λ j. subst (λ us. Stands j (is_suspended (thing c.entries j)) (tasks_of j us)) top (o.actors j);
        paired = subst Paired top o.paired;
        waiting = o.waiting;
        numbered = o.numbered;
      }))

  -- each step
  abbrev pub Comes_to : Core → Numbered Frame → Option (Stepped Frame) → Type 0
  Comes_to c xs None = Unit {0}
  Comes_to c xs (Some q) = NoPlace r c xs ⊎ After c xs q

  tasks_less : (ts : List Task) (c : Core) (xs : Numbered Frame) → Orderly c → Placed (Going r) c xs → c.tasks ≡ ts → Comes_to c xs (step_tasks (classes r) s ts (proc c xs))
  tasks_less [] c xs o p top = tt
  tasks_less (Run i ∷ ts) c xs o p top = inr (run_less i ts c xs (thing xs i) o p top refl)
  tasks_less (Give i b v ∷ ts) c xs o p top = inr (give_less i b v ts c xs (thing xs i) o top refl)
  tasks_less (Throw i err ∷ ts) c xs o p top = inr (throw_less i err ts c xs (thing xs i) o p top refl)
  tasks_less (Catch i err ∷ ts) c xs o p top = inr (catch_less i err ts c xs (thing xs i) o top refl)
  tasks_less (Store i v ∷ ts) c xs o p top = store_less i v ts c xs (thing xs i) o p top refl
  tasks_less (Keep i spot q ∷ ts) c xs o p top = inr (keep_less i spot q ts c xs (thing xs i) (thing c.entries i) o p top refl refl)
  tasks_less (Close i v ∷ ts) c xs o p top = inr (close_less i v ts c xs (thing c.entries i))
  tasks_less (Fire n ∷ ts) c xs o p top = inr (fire_less n ts c xs o top)
  tasks_less (Drop kind n ∷ ts) c xs o p top =
      let k = record c { tasks = ts } in
      let d = drop (scan_of (classes r).occ xs) kind n k in
      inr (unless_map d.halted (λ lt. inl lt) (drop_turns (scan_of (classes r).occ xs) kind n k))

  pub step_less : (x : Option Halt) (c : Core) (xs : Numbered Frame) → UnlessStopped x (Orderly c × Placed (Going r) c xs) → Comes_to c xs (step_if (classes r) s x (proc c xs))
  step_less (Some x) c xs h = tt
  step_less None c xs h = tasks_less c.tasks c xs h.0 h.1 refl
