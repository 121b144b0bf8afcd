-- An actor in hand, in a process that fits but for it, goes on.
use Rattle.std.proofs.Common.{◌≡◌, ℕ, suc, ◌+◌, Bool, true, false, List, [], ◌∷◌, ◌++◌, length, inl, inr, refl, sym, ap, ◌∙◌, subst, arith}
use Rattle.std.specs.Prelude.{slice_get}
use Rattle.std.specs.declared.option.Option.{Option}
use Rattle.std.specs.declared.option.Option.TheVariants.{None, Some}
use Rattle.flow_base.specs.ErrorNumbers.{operation_cancelled}
use Rattle.flow_tree.specs.Tree.{TypeTree, FutureType, FutureStreamType}
use Rattle.flow_value.specs.declared.value.Kind.{Kind}
use Rattle.flow_value.specs.declared.value.Kind.TheVariants as kind
use Rattle.flow_value.specs.Values.{ValueTree, RefValue, OutcomeTree}
use Rattle.flow_class.specs.Classes.{ChooseLast, ClassTree, RawTree}
use Rattle.flow_class.specs.Code.{Last, callback_at}
use Rattle.flow_meaning.specs.Effects.{result_task, push_result, gives}
use Rattle.flow_valid.specs.Validity.{operand_type}
use Rattle.flow_numbered.specs.Numbered.{Numbered, thing, put}
use Rattle.flow_meaning.specs.Cells.{Ref, Cell, is_ready, taken, after_taking}
use Rattle.flow_meaning.specs.Requests.{Goal, Stored, Kept, Request}
use Rattle.flow_meaning.specs.Process.{Task, Run, Give, Throw, Catch, Store, Keep, Close, Fire, Drop, Entry, Core}
use Rattle.flow_meaning.specs.Lines.{take_line, cancel_line}
use Rattle.flow_meaning.specs.Work.{writes, pushed, running, leave_for, give, take_branch, marked, cancel_by, cancel}
use Rattle.flow_meaning.specs.Orderly.{tasks_of}
use Rattle.flow_meaning.specs.Frame.{Frame}
use Rattle.flow_meaning.proofs.Posture.{thing_put_other, thing_put, IsOf, other_task}
use Rattle.flow_meaning.proofs.Shifts.{run_of, give_of, throw_of, store_of, keep_of}
use Rattle.flow_progress.specs.Places.{class_vars}
use Rattle.flow_progress.specs.Asking.{NextOperand, HaveSome, OutcomeFits, Wanted}
use Rattle.flow_progress.specs.Fitting.{CellTypes, typed_by, Fits, CellFits, CellAt, OperandsFit, Standing, Waiting, GivenFits, DoingFits, PostureFits, ActorFits, ActorAt, ProcessFits, OwnsResult}
use Rattle.flow_progress.specs.Keeping.{AskFits, FineAsking}
use Rattle.flow_progress.proofs.Given.{operand_ref}
use Rattle.flow_progress.proofs.States.{Fine, fine_of, fine_same, still_same, fine_turn, FitsBut, put_back, all_but, push_fits, actor_at, actor_of, operands_exist}
use Rattle.flow_progress.proofs.CellStates.{type_there, IsOfType, taken_fits, taking_state, leave_state}
use Rattle.flow_progress.proofs.Registered.{awake_registered, entry_registered}

-- an unfinished actor, but for what is to be done for it
pub record Owner (r : RawTree) (types : CellTypes) (e : Entry) (c : ClassTree) : Type 0 where
  pub is : slice_get r.classes e.class ≡ Some c
  pub owns : OwnsResult r types e.result c.returns

pub record HandFits (r : RawTree) (types : CellTypes) (i : ℕ) (k : Core) (xs : Numbered Frame) (e : Entry) (g : Frame) (c : ClassTree) : Type 0 where
  pub entry : thing k.entries i ≡ Some e
  pub awake : e.suspended ≡ false
  pub frame : thing xs i ≡ Some g
  pub owner : Owner r types e c
  pub rest : FitsBut r types i k xs

module _ (r : RawTree) (types : CellTypes) where
  pub doing_actor : (e : Entry) (f : Frame) (c : ClassTree) (ts : List Task) → Owner r types e c → e.suspended ≡ false → DoingFits r types c e f ts → ActorFits r types e f ts
  doing_actor e f c ts o a h = record {
    class = c;
    is = o.is;
    owns = o.owns;
    posture = subst (λ b. PostureFits r types b c e f ts) (sym a) h;
  }

  -- one task on top
  pub goes_by : (i : ℕ) (t : Task) (k : Core) (xs : Numbered Frame) (e : Entry) (g : Frame) (c : ClassTree) → HandFits r types i k xs e g c → IsOf i t
      → ((ts : List Task) → DoingFits r types c e g (t ∷ ts)) → ProcessFits r types (pushed t k) xs
  goes_by i t k xs e g c h own d =
      push_fits r types i t k xs h.rest own
      (actor_at r types e g (thing k.entries i) (thing xs i) (t ∷ tasks_of i k.tasks) h.entry h.frame (doing_actor e g c (t ∷ tasks_of i k.tasks) h.owner h.awake (d (tasks_of i k.tasks))))
      (awake_registered i k.entries k.cells e h.entry h.awake)

  -- and one over the actor's next step
  pub goes_by_two : (i : ℕ) (t : Task) (k : Core) (xs : Numbered Frame) (e : Entry) (g : Frame) (c : ClassTree) → HandFits r types i k xs e g c → IsOf i t
      → ((ts : List Task) → DoingFits r types c e g (t ∷ ts))
      → ProcessFits r types (pushed t (pushed (Run i) k)) xs
  goes_by_two i t k xs e g c h own d =
      let m = pushed (Run i) k in
      push_fits r types i t m xs (record {
        cells = h.rest.cells;
        waiting = h.rest.waiting;
        actors = λ j n. subst (ActorAt r types (thing k.entries j) (thing xs j)) (sym (other_task i j (Run i) k.tasks (run_of i) n)) (h.rest.actors j n);
        work = h.rest.work;
        ports = h.rest.ports;
        main = h.rest.main;
        requests = h.rest.requests;
        numbered = h.rest.numbered;
        framed = h.rest.framed;
        registered = h.rest.registered;
      }) own (actor_at r types e g (thing k.entries i) (thing xs i) (t ∷ tasks_of i m.tasks) h.entry h.frame (doing_actor e g c (t ∷ tasks_of i m.tasks) h.owner h.awake (d (tasks_of i m.tasks))))
      (awake_registered i k.entries k.cells e h.entry h.awake)

  -- operands
  pub operands_more : (g : Frame) (n : ℕ) (qs : List Ref) (q : Ref) (t : TypeTree) → OperandsFit r types g n qs → NextOperand g (n + length qs) t → Fits r types (RefValue q.0 q.1) t
      → OperandsFit r types g n (qs ++ q ∷ [])
  operands_more g n [] q t h next f = let e : n + 0 ≡ n = omega arith in ((t, subst (λ m. NextOperand g m t) e next, f), tt)
  operands_more g n (x ∷ qs) q t h next f =
      let e : n + suc (length qs) ≡ suc n + length qs = omega arith in
      (h.0, operands_more g (suc n) qs q t h.1 (subst (λ m. NextOperand g m t) e next) f)

  -- the cell of an operand has the operand's type
  pub operand_cell : (kd : Kind) (n : ℕ) (next : Bool) (u : TypeTree) → Fits r types (RefValue kd n) (operand_type next u) → types n ≡ Some (operand_type next u)
  operand_cell kind.Future n false u h = let e : h.0 ≡ u = let d = h.1 in cc in subst (λ z. types n ≡ Some (FutureType z)) e h.2
  operand_cell kind.FutureStream n true u h = let e : h.0 ≡ u = let d = h.1 in cc in subst (λ z. types n ≡ Some (FutureStreamType z)) e h.2
  operand_cell kind.Promise n false u h = let d = h.1 in absurd cc
  operand_cell kind.Promise n true u h = let d = h.1 in absurd cc
  operand_cell kind.PromiseStream n false u h = let d = h.1 in absurd cc
  operand_cell kind.PromiseStream n true u h = let d = h.1 in absurd cc
  operand_cell kind.Future n true u h = let d = h.1 in absurd cc
  operand_cell kind.FutureStream n false u h = let d = h.1 in absurd cc

  pub operand_is : (next : Bool) (u : TypeTree) → IsOfType r types (operand_type next u) u
  operand_is false u = inl refl
  operand_is true u = inr refl

  -- the result of an effect goes where it is wanted
  pub gives_state : (i : ℕ) (goal : Goal) (v : ValueTree) (t : TypeTree) (k : Core) (xs : Numbered Frame) (e : Entry) (g : Frame) (c : ClassTree) → HandFits r types i k xs e g c → g.code ≡ c
      → Standing r types g
      → OperandsFit r types g 0 e.operands → (goal ≡ Stored → e.operands ≡ []) → Wanted r (class_vars g.code) (typed_by types) goal g (length e.operands) t → Fits r types v t
      → (x : Task) × (result_task i goal v ≡ Some x) × ProcessFits r types (pushed x (pushed (Run i) k)) xs
  gives_state i Stored v t k xs e g c h code s ops none w f = (Store i v, refl, goes_by_two i (Store i v) k xs e g c h (store_of i v) (λ ts. (code, s, (t, w, f), none refl)))
  gives_state i (Kept spot) v t k xs e g c h code s ops none w f =
      let q = operand_ref r.records (typed_by types) w.callback.next v w.takes (subst (Fits r types v) w.type f) in
      let f2 = subst (λ z. Fits r types z t) q.1 f in
      let zero_plus : 0 + length e.operands ≡ length e.operands = omega arith in (
        Keep i spot q.0,
        ap (result_task i (Kept spot)) q.1,
        goes_by_two i (Keep i spot q.0) k xs e g c h (keep_of i spot q.0) (λ ts. (code, s, operands_more g 0 e.operands q.0 t ops (subst (λ m. NextOperand g m t) (sym zero_plus) w) f2)),
      )

  pub gives_task : (ask : Option Request) (i : ℕ) (goal : Goal) (v : ValueTree) (t : TypeTree) (k : Core) (xs : Numbered Frame) (e : Entry) (g : Frame) (c : ClassTree) → HandFits r types i k xs e g c
      → k.halted ≡ None → g.code ≡ c → Standing r types g
      → OperandsFit r types g 0 e.operands → (goal ≡ Stored → e.operands ≡ []) → Wanted r (class_vars g.code) (typed_by types) goal g (length e.operands) t → Fits r types v t → AskFits types ask
      → FineAsking r types ask (gives i goal v k).halted (gives i goal v k) xs
  gives_task ask i goal v t k xs e g c h go code s ops none w f asks =
      let x = gives_state i goal v t k xs e g c h code s ops none w f in
      subst (λ z. FineAsking r types ask (push_result i z k).halted (push_result i z k) xs) (sym x.1)
      (fine_of r types ask k.halted (pushed x.0 (pushed (Run i) k)) xs go (types, x.2, still_same types k.requests, asks))

  -- an actor is cancelled
  cancelled_state : (b : Bool) (i : ℕ) (e : Entry) (c : Core) (xs : Numbered Frame) (o : Option Frame) → thing c.entries i ≡ Some e → thing xs i ≡ o → e.suspended ≡ b → ProcessFits r types c xs
      → ProcessFits r types (cancel_by b i e c) xs
  cancelled_state b i e c xs None at fr s p = absurd (subst (λ x. ActorAt r types (Some e) x (tasks_of i c.tasks)) fr
      (subst (λ x. ActorAt r types x (thing xs i) (tasks_of i c.tasks)) at (p.actors i)))
  cancelled_state true i e c xs (Some f) at fr s p =
      let a = actor_of r types e f (thing c.entries i) (thing xs i) (tasks_of i c.tasks) at fr (p.actors i) in
      let parked = subst (λ b. PostureFits r types b a.class e f (tasks_of i c.tasks)) s a.posture in
      leave_state r types i (marked e) e [] (Throw i operation_cancelled) c xs f (all_but r types i c xs p) at fr (throw_of i operation_cancelled) (operands_exist r types f 0 e.operands parked.2) tt
      (λ ts. record { class = a.class; is = a.is; owns = a.owns; posture = (parked.0, inr parked.1, tt) })
  cancelled_state false i e c xs (Some f) at fr s p =
      let a = actor_of r types e f (thing c.entries i) (thing xs i) (tasks_of i c.tasks) at fr (p.actors i) in
      let h = all_but r types i c xs p in
      put_back r types i (record c { entries = put c.entries i (marked e) }) xs (record {
        cells = h.cells;
        waiting = h.waiting;
        actors = λ j n. subst (λ o. ActorAt r types o (thing xs j) (tasks_of j c.tasks)) (sym (thing_put_other c.entries i j (marked e) n)) (h.actors j n);
        work = h.work;
        ports = h.ports;
        main = h.main;
        requests = h.requests;
        numbered = h.numbered;
        framed = h.framed;
        registered = λ j n. entry_registered i j c.entries c.cells (marked e) n (h.registered j n);
      }) (actor_at r types (marked e) f (thing (put c.entries i (marked e)) i) (thing xs i) (tasks_of i c.tasks) (thing_put c.entries i e (marked e) at) fr
      (record { class = a.class; is = a.is; owns = a.owns; posture = marked_posture e.suspended a.class (tasks_of i c.tasks) a.posture }))
      (awake_registered i (put c.entries i (marked e)) c.cells (marked e) (thing_put c.entries i e (marked e) at) s)
    where
      marked_doing : (c : ClassTree) (ts : List Task) → DoingFits r types c e f ts → DoingFits r types c (marked e) f ts
      marked_doing c [] h = h
      marked_doing c (Run i ∷ ts) h = h
      marked_doing c (Store i v ∷ ts) h = h
      marked_doing c (Keep i spot q ∷ ts) h = h
      marked_doing c (Give i b o ∷ ts) h = h
      marked_doing c (Throw i err ∷ ts) h = h
      marked_doing c (Catch i err ∷ ts) h = h
      marked_doing c (Close i o ∷ ts) h = h
      marked_doing c (Fire n ∷ ts) h = h
      marked_doing c (Drop kd n ∷ ts) h = h

      marked_posture : (b : Bool) (c : ClassTree) (ts : List Task) → PostureFits r types b c e f ts → PostureFits r types b c (marked e) f ts
      marked_posture true c ts h = h
      marked_posture false c ts h = marked_doing c ts h

  pub cancel_state : (i : ℕ) (e : Entry) (c : Core) (xs : Numbered Frame) → thing c.entries i ≡ Some e → ProcessFits r types c xs → ProcessFits r types (cancel i e c) xs
  cancel_state i e c xs at p =
      cancelled_state e.suspended i e (writes (cancel_line i) c) xs (thing xs i) at refl refl
      (record {
        cells = p.cells;
        waiting = p.waiting;
        actors = p.actors;
        work = p.work;
        ports = p.ports;
        main = p.main;
        requests = p.requests;
        numbered = p.numbered;
        framed = p.framed;
        registered = p.registered;
      })

  -- a branch is taken from a cell that is ready
  pub branch_fits : (i b n : ℕ) (en e0 : Entry) (vs : List ValueTree) (c : Core) (xs : Numbered Frame) (f : Frame) (cls : ClassTree) (t : TypeTree) (cell : Cell) → thing c.cells n ≡ Some cell
      → is_ready cell ≡ true → c.halted ≡ None
      → thing c.entries i ≡ Some e0 → thing xs i ≡ Some f → FitsBut r types i c xs → Owner r types (running en) cls → f.code ≡ cls → Waiting r types f → NextOperand f b t → types n ≡ Some t
      → OperandsFit r types f 0 en.operands → HaveSome r.records (typed_by types) vs
      → Fine r types (take_branch i b n en vs (thing c.cells n) c).halted (take_branch i b n en vs (thing c.cells n) c) xs
  branch_fits i b n en e0 vs c xs f cls t cell at ready go entry fr rest owner code s next has ops some =
      subst (λ x. Fine r types (take_branch i b n en vs x c).halted (take_branch i b n en vs x c) xs) (sym at)
      (fine_turn r types (λ d. give i b en vs (taken cell) (record (writes (take_line i en.spot.group b) d) { cells = put d.cells n (after_taking cell) })) c xs by_turns)
    where
      there : (u : TypeTree) × (types n ≡ Some u) × CellFits r types cell u
      there = type_there r types n cell (types n) (subst (CellAt r types (types n)) at (rest.cells n))

      same : {X : Type 0} {x y : X} → Some x ≡ Some y → x ≡ y
      same h = cc

      cell_fits : CellFits r types cell t
      cell_fits = subst (CellFits r types cell) (same (sym there.1 ∙ has)) there.2

      got : (o : OutcomeTree) × (taken cell ≡ Some o) × OutcomeFits r.records (typed_by types) o next.takes
      got = taken_fits r types cell t next.takes cell_fits (subst (λ z. IsOfType r types z next.takes) (sym next.type) (operand_is next.callback.next next.takes)) ready

      same_group : (a b : ℕ) → Last (ChooseLast a) ≡ Last (ChooseLast b) → a ≡ b
      same_group a b h = cc

      given : GivenFits r types f b got.0
      given = record {
        waiting = s;
        callback = next.callback;
        takes = next.takes;
        there = subst (λ z. callback_at f.code z b ≡ Some next.callback) (same_group next.group s.group (sym next.there ∙ s.there)) next.next;
        into = next.into;
        outcome = got.2;
      }

      by_turns : (m : ℕ) → Fine r types (give i b en vs (taken cell) (record (writes (take_line i en.spot.group b) (record c { left = m })) { cells = put c.cells n (after_taking cell) })).halted
          (give i b en vs (taken cell) (record (writes (take_line i en.spot.group b) (record c { left = m })) { cells = put c.cells n (after_taking cell) })) xs
      by_turns m =
          let d = record (writes (take_line i en.spot.group b) (record c { left = m })) { cells = put c.cells n (after_taking cell) } in
          let p = taking_state r types n cell t i c xs at has cell_fits rest in
          let q : FitsBut r types i d xs = record {
            cells = p.cells;
            waiting = p.waiting;
            actors = p.actors;
            work = p.work;
            ports = p.ports;
            main = p.main;
            requests = p.requests;
            numbered = p.numbered;
            framed = p.framed;
            registered = p.registered;
          } in
          subst (λ o. Fine r types (give i b en vs o d).halted (give i b en vs o d) xs) (sym got.1)
          (fine_same r types c.halted (leave_for i en vs (Give i b got.0) d) xs go
          (leave_state r types i en e0 vs (Give i b got.0) d xs f q entry fr (give_of i b got.0) (operands_exist r types f 0 en.operands ops) some
          (λ ts. doing_actor (running en) f cls (Give i b got.0 ∷ ts) owner refl (code, given, refl))))
