-- An actor that goes on in memory, at once or by its task, goes on in the process.
use Rattle.std.proofs.Common.{◌≡◌, ℕ, suc, ◌+◌, ◌-◌, false, List, [], ◌∷◌, ◌++◌, length, map, refl, sym, ap, ◌∙◌, subst, arith}
use Rattle.std.proofs.lemmas.Bool.Decides.{nat_tests}
use Rattle.std.specs.declared.option.Option.{Option}
use Rattle.std.specs.declared.option.Option.TheVariants.{None, Some}
use Rattle.flow_base.specs.declared.ids.ActorId.{ActorId}
use Rattle.flow_class.specs.declared.class.Slotted.{Slotted}
use Rattle.flow_value.specs.declared.value.Value.{Value}
use Rattle.flow_value.specs.View.{value_of}
use Rattle.flow_class.specs.Classes.{RawTree}
use Rattle.flow_trace.specs.declared.line.Line.{Line}
use Rattle.flow_cancel.specs.declared.task.Task.TheVariants as task
use Rattle.flow_cancel.specs.Heap.{HeapTree, actor_id}
use Rattle.flow_cancel.specs.Dropping as dropping
use Rattle.flow_numbered.specs.Numbered.{put}
use Rattle.flow_meaning.specs.Cells.{Side, Ref}
use Rattle.flow_meaning.specs.Process.{Run, Entry, Proc}
use Rattle.flow_meaning.specs.References.{Scan, count, refs_in}
use Rattle.flow_meaning.specs.Work as work
use Rattle.flow_meaning.specs.Work.{turn, turn_of, pushed}
use Rattle.flow_meaning.specs.Step.{proc, on_core}
use Rattle.flow_meaning.specs.Variables.{filled}
use Rattle.flow_meaning.specs.Frame.{Frame, read, write, held_in, emptied, go}
use Rattle.flow_heap_refinement.specs.Acting.{put_frame}
use Rattle.flow_heap_refinement.specs.FrameChanges.{number_in}
use Rattle.flow_heap_refinement.specs.Holds.{with_refs}
use Rattle.flow_meaning.proofs.Posture.{thing_put}
use Rattle.flow_heap_refinement.proofs.Acted.{same_put}
use Rattle.flow_heap_refinement.proofs.Tasks.{refs_same}
use Rattle.flow_steps.specs.declared.frames.ControlPoint.{ControlPoint}
use Rattle.flow_steps.specs.declared.next.Pace.{Pace}
use Rattle.flow_steps.specs.declared.next.Pace.TheVariants.{On, Off}
use Rattle.flow_steps.specs.declared.process.Process.{Process}
use Rattle.flow_steps.specs.Doing.{turned, doing}
use Rattle.flow_steps.specs.Holding.{on_heap, value_refs, refs_dropped}
use Rattle.flow_steps.specs.Points.{gone, noting, noted, GoesTo, next_stand, place_held, place_put, referring, places_taken, places_emptied}
use Rattle.flow_steps.specs.Tasks.{bound_over, bound}
use Rattle.flow_steps.specs.Stepping.{OnAfter, Passes, no_pass, pass_begins}
use Rattle.flow_operation_refinement.specs.Matching.{ProcessRepresents, AreSpent, with_task}
use Rattle.flow_operation_refinement.specs.Placing.{RepresentsActor, with_memory}
use Rattle.flow_operation_refinement.specs.Continuing.{MayBeStale, MayMove, ContinuesAt}
use Rattle.flow_operation_refinement.specs.Continuing as law
use Rattle.flow_operation_refinement.proofs.Working.{as_many_shown, task_done, refs_dropped_shown, with_turn, without_turn}
use Rattle.flow_operation_refinement.proofs.Places.{as_many_stood, place_seen, place_changed}
use Rattle.flow_operation_refinement.proofs.Lost.{put_over}
use Rattle.flow_operation_refinement.proofs.Emptied.{referring_refs, locals_taken}
use Rattle.flow_operation_refinement.proofs.Parting.{acts_by}
use Rattle.flow_operation_refinement.proofs.Takings.{turned_heap}
use Rattle.flow_operation_refinement.proofs.Moving.{goes_in}

-- the stand that an actor goes to
pub record Stands (s : ControlPoint) (b n : ℕ) (t : ControlPoint) : Type 0 where
  pub actor : t.actor ≡ s.actor
  pub class : t.class ≡ s.class
  pub place : t.place ≡ b
  pub instruction : t.instruction ≡ n
  pub noted : t.noted ≡ false

pub goes_stands : (s : ControlPoint) (b n : ℕ) (t : ControlPoint) → GoesTo s b n t → Stands s b n t
goes_stands s b n t g = record {
  actor = ap (λ (u : ControlPoint). u.actor) g.same;
  class = ap (λ (u : ControlPoint). u.class) g.same;
  place = ap (λ (u : ControlPoint). u.place) g.same;
  instruction = ap (λ (u : ControlPoint). u.instruction) g.same;
  noted = ap (λ (u : ControlPoint). u.noted) g.same;
}

module _ (r : RawTree) (ls : List Line) (m : Process) (p : Proc Frame) (i : ℕ) (e : Entry) (f : Frame) where
  -- its frame is told
  pub told_there : (x : Scan) (s t : ControlPoint) (b n k : ℕ) → RepresentsActor r ls x m p i e f → MayMove s p i e f → Stands s b n t
      → RepresentsActor r ls x (noted t m) (put_frame i (record f { block = b; instr = n; state = k }) p) i e (record f { block = b; instr = n; state = k })
  told_there x s t b n k st may to =
      let g : Frame = record f { block = b; instr = n; state = k } in
      let told = goes_in r ls x m p i e f b n k st may.operands may.free in
      let actor : t.actor ≡ actor_id i = to.actor ∙ may.actor in
      subst (λ y. RepresentsActor r ls x (on_heap (noting y t.actor.0 t.place t.instruction) m) (put_frame i g p) i e g) (sym to.noted)
      (subst (λ (a : ActorId). RepresentsActor r ls x (on_heap (gone a.0 t.place t.instruction) m) (put_frame i g p) i e g) (sym actor)
      (subst (λ y. RepresentsActor r ls x (on_heap (gone i y t.instruction) m) (put_frame i g p) i e g) (sym to.place)
      (subst (λ y. RepresentsActor r ls x (on_heap (gone i b y) m) (put_frame i g p) i e g) (sym to.instruction) told)))

  -- or it isn't yet
  pub moved : (x : Scan) (s t : ControlPoint) (b n k : ℕ) → RepresentsActor r ls x m p i e f → MayMove s p i e f → Stands s b n t
      → ContinuesAt r ls x t m p i e (record f { block = b; instr = n; state = k })
  moved x s t b n k st may to =
      let g : Frame = record f { block = b; instr = n; state = k } in
      let back : put (put p.actors i g) i f ≡ p.actors = put_over p.actors i g f ∙ same_put p.actors i f st.acts.acting in record {
        block = f.block;
        instr = f.instr;
        state = f.state;
        stood = subst (λ xs. RepresentsActor r ls x m (proc p.core xs) i e f) (sym back) st;
        told = λ y. let z = to.noted in absurd (cc (y, z));
        acting = thing_put p.actors i f g st.acts.acting;
        standing = record { actor = to.actor ∙ may.actor; slots = ap (λ c. c.now.slots) to.class ∙ may.slots; place = to.place };
        instruction = to.instruction;
        free = record { waits = may.free.waits; keeps = may.free.keeps };
        operands = may.operands;
      }

  pub gone_on : law.GoneOn r ls m p i e f
  gone_on x s t b n k st may to = moved x s t b n k st may (goes_stands s b n t to)

  -- values are left over
  pub left_over : (x : Scan) (s t : ControlPoint) (b j k : ℕ) (vs : List Value) (pace : Pace) (n : Process) → RepresentsActor r ls (with_refs (refs_in (map value_of vs)) x) m p i e f
      → MayMove s p i e f → Stands s b j t → OnAfter t vs m pace n
      → law.AfterValues r ls m p i e f x t (refs_in (map value_of vs)) (record f { block = b; instr = j; state = k }) pace n
  left_over x s t b j k [] pace n st may to after =
      let g : Frame = record f { block = b; instr = j; state = k } in
      let went = moved x s t b j k (as_many_stood r ls (with_refs [] x) x m p i e f (λ z y. omega arith) st) may to in
      subst (λ q. law.AfterValues r ls m p i e f x t [] g q n) (sym after.0) (
        refl,
        refl,
        subst (λ q. ContinuesAt r ls x t q p i e g) (sym after.1) went,
      )
  left_over x s t b j k (v ∷ vs) pace n st may to after =
      let g : Frame = record f { block = b; instr = j; state = k } in
      let rs = refs_in (map value_of (v ∷ vs)) in
      let went = told_there (with_refs rs x) s t b j k st may to in
      let m1 : Process = noted t m in
      let q1 : Proc Frame = put_frame i g p in
      let actor : t.actor ≡ actor_id i = to.actor ∙ may.actor in
      let ran = task_done r ls (with_refs rs x) m1 q1 (task.Run (actor_id i)) (Run i) (as_many_shown r ls (with_refs rs x) (with_task (Run i) (with_refs rs x)) m1 q1 (λ z y. omega arith) went.shown)
      refl in
      let dropped = refs_dropped_shown r ls x (doing (task.Run (actor_id i)) m1) (on_core (pushed (Run i)) q1) rs ran in
      subst (λ q. law.AfterValues r ls m p i e f x t rs g q n) (sym after.0)
      (subst (λ q. ProcessRepresents r ls x q (proc (work.dropping rs (pushed (Run i) p.core)) (put p.actors i g))) (sym after.1)
      (subst (λ (a : ActorId). ProcessRepresents r ls x (on_heap (dropping.dropping (v ∷ vs)) (doing (task.Run a) m1)) (proc (work.dropping rs (pushed (Run i) p.core)) (put p.actors i g))) (sym actor)
      (subst (λ us. ProcessRepresents r ls x (on_heap (refs_dropped us) (doing (task.Run (actor_id i)) m1)) (proc (work.dropping rs (pushed (Run i) p.core)) (put p.actors i g)))
      (sym (refs_same (v ∷ vs))) dropped)))

  pub values_left : law.ValuesLeft r ls m p i e f
  values_left x s t b j k vs pace n st may to after = left_over x s t b j k vs pace n st may (goes_stands s b j t to) after

  -- a block
  pub went_to : law.WentTo r ls m p i e f
  went_to x s b pace n st may to =
      subst (λ q. law.GoesAt r ls m p i e f x (go b f.mem f) q n) (sym to.2)
      (subst (λ q. ContinuesAt r ls x to.0 q p i e (go b f.mem f)) (sym to.3) (gone_on x s to.0 b 0 0 st may to.1))

-- the same actor, put twice
pub over_after : (r : RawTree) (ls : List Line) (m n1 : Process) (p : Proc Frame) (i : ℕ) (e : Entry) (f h g : Frame) (x : Scan) (t : ControlPoint) (rs qs : List Ref) (pace : Pace) (n : Process)
    → rs ≡ qs
    → law.AfterValues r ls n1 (put_frame i h p) i e h x t rs g pace n → law.AfterValues r ls m p i e f x t qs g pace n
over_after r ls m n1 p i e f h g x t rs qs (On u) n same a = (
  a.0,
  sym same ∙ a.1,
  subst (λ xs. MayBeStale r ls x t n (proc p.core xs) i e g) (put_over p.actors i h g) a.2,
)
over_after r ls m n1 p i e f h g x t rs qs Off n same a =
    subst (λ us. ProcessRepresents r ls x n (proc (work.dropping us (pushed (Run i) p.core)) (put p.actors i g))) same
    (subst (λ xs. ProcessRepresents r ls x n (proc (work.dropping rs (pushed (Run i) p.core)) xs)) (put_over p.actors i h g) a)

pub same_refs : (r : RawTree) (ls : List Line) (m : Process) (p : Proc Frame) (i : ℕ) (e : Entry) (f g : Frame) (x : Scan) (t : ControlPoint) (rs qs : List Ref) (pace : Pace) (n : Process) → rs ≡ qs
    → law.AfterValues r ls m p i e f x t rs g pace n → law.AfterValues r ls m p i e f x t qs g pace n
same_refs r ls m p i e f g x t rs qs (On u) n same a = (a.0, sym same ∙ a.1, a.2)
same_refs r ls m p i e f g x t rs qs Off n same a = subst (λ us. ProcessRepresents r ls x n (proc (work.dropping us (pushed (Run i) p.core)) (put p.actors i g))) same a

-- nothing is appended
pub appended : (s : Side) (j : ℕ) (rs : List Ref) → count s j rs ≡ count s j (rs ++ [])
appended s j [] = refl
appended s j (q ∷ rs) = let a = appended s j rs in omega (arith, a)

module _ (r : RawTree) (ls : List Line) (m : Process) (p : Proc Frame) (i : ℕ) (e : Entry) (f : Frame) where
  pub locals_dropped : law.LocalsDropped r ls m p i e f
  locals_dropped x s ns k pace n st may has after =
      let places = map (λ k. length f.code.slots + k) ns in
      let taken = places_taken i places m.heap in
      let f2 : Frame = with_memory (emptied ns f.mem) f in
      let m1 : Process = on_heap (places_emptied i places) m in
      let p1 : Proc Frame = put_frame i f2 p in
      let lt = locals_taken r ls m p i e f x ns st has in
      let may1 : MayMove s p1 i e f2 = record {
        actor = may.actor;
        slots = may.slots;
        free = record { waits = may.free.waits; keeps = may.free.keeps };
        operands = may.operands;
      } in
      let to : Stands s s.place (suc s.instruction) (next_stand s) = record { actor = refl; class = refl; place = refl; instruction = refl; noted = refl } in
      let st1 = subst (λ rs. RepresentsActor r ls (with_refs rs x) m1 p1 i e f2) (sym lt.0) lt.1 in
      over_after r ls m m1 p i e f f2 (record f2 { block = s.place; instr = suc s.instruction; state = k }) x (next_stand s) (refs_in (map value_of taken)) (refs_in (held_in f.mem ns)) pace n lt.0
      (left_over r ls m1 p1 i e f2 x s (next_stand s) s.place (suc s.instruction) k taken pace n st1 may1 to after)

  pub pass_began : law.PassBegan r ls m p i e f
  pass_began x s b pace n st may passes = by_case pace passes
    where
      by_case : (pace : Pace) → Passes s b m pace n → law.AfterPass r ls m p i e f x (go b f.mem f) pace n
      by_case pace (no_pass t q to none is) =
          let zero_left : m.left ≡ 0 = grind (arith, nat_tests, none) in
          let a = without_turn r ls x m p (λ d. pushed (Run i) d) p.core (put p.actors i (go b f.mem f)) zero_left refl refl st.shown in
          subst (λ z. AreSpent ls z (proc (turn p.core (λ d. pushed (Run i) d)) (put p.actors i (go b f.mem f)))) (sym is) (record { spent = a.spent; halted = a.halted; lines = a.lines })
      by_case pace (pass_begins t q to some is) =
          let k = m.left - 1 in
          let left : m.left ≡ suc k = grind (arith, nat_tests, some) in
          let p1 : Proc Frame = on_core (λ c. record c { left = k }) p in
          let st1 : RepresentsActor r ls x (turned m) p1 i e f = record {
            shown = with_turn r ls x m p k left st.shown;
            acts = acts_by r m.heap (turned m).heap p p1 i e f (ap (λ (h : HeapTree). h.frames) (turned_heap m)) (ap (λ (h : HeapTree). h.actors) (turned_heap m)) refl refl st.acts;
          } in
          let may1 : MayMove s p1 i e f = record {
            actor = may.actor;
            slots = may.slots;
            free = record { waits = may.free.waits; keeps = may.free.keeps };
            operands = may.operands;
          } in (
            k,
            left,
            subst (λ z. ContinuesAt r ls x t z p1 i e (go b f.mem f)) (sym is) (gone_on r ls (turned m) p1 i e f x s t b 0 0 st1 may1 to),
          )

  -- a value goes to the place of a branch
  pub value_bound : law.ValueBound r ls m p i e f
  value_bound x s t b into place v pace n st may same to after = by_place into place same after
    where
      goes : Stands s b 0 t
      goes = goes_stands s b 0 t to

      by_place : (into : Option ℕ) (place : Option Slotted) → law.SameInto r ls m p i e f into place → OnAfter t (bound_over i into v m.heap) (on_heap (bound i into v) m) pace n
          → law.AfterValues r ls m p i e f x t (refs_in (law.over_at r ls m p i e f place (value_of v))) (go b (law.memory_at r ls m p i e f place (value_of v)) f) pace n
      by_place None None same after =
          let rs = referring_refs (Some v) in
          let hand : (z : Side) (j : ℕ) → with_refs (value_refs v) x z j ≡ with_refs (refs_in (value_of v ∷ [])) x z j = λ z j. ap (λ k. k + x z j) (appended z j (value_refs v)) in
          let st1 = subst (λ us. RepresentsActor r ls (with_refs us x) m p i e f) (sym rs) (as_many_stood r ls (with_refs (value_refs v) x) (with_refs (refs_in (value_of v ∷ [])) x) m p i e f hand st)
          in
          same_refs r ls m p i e f (go b f.mem f) x t (refs_in (map value_of (referring (Some v)))) (refs_in (value_of v ∷ [])) pace n rs
          (left_over r ls m p i e f x s t b 0 0 (referring (Some v)) pace n st1 may goes after)
      by_place (Some k) (Some q) same after =
          let f2 : Frame = with_memory (write f.mem q (Some (value_of v))) f in
          let number = number_in (length f.code.slots) q in
          let m1 : Process = on_heap (place_put i number (Some v)) m in
          let p1 : Proc Frame = put_frame i f2 p in
          let one = refs_in (filled (read f.mem q ∷ [])) in
          let st1 = place_changed r ls m p i e f (with_refs (value_refs v) x) (with_refs one x) q (Some v) st same.1
          (λ z j. let a = appended z j (value_refs v) in omega (arith, a)) in
          let rs : refs_in (map value_of (referring (place_held i number m.heap))) ≡ one =
          referring_refs (place_held i number m.heap) ∙ ap (λ o. refs_in (filled (o ∷ []))) (place_seen r ls m p i e f (with_refs (value_refs v) x) q st same.1) in
          let st2 = subst (λ us. RepresentsActor r ls (with_refs us x) m1 p1 i e f2) (sym rs) st1 in
          let may1 : MayMove s p1 i e f2 = record {
            actor = may.actor;
            slots = may.slots;
            free = record { waits = may.free.waits; keeps = may.free.keeps };
            operands = may.operands;
          } in
          let after1 = subst (λ j. OnAfter t (referring (place_held i j m.heap)) (on_heap (place_put i j (Some v)) m) pace n) same.0 after in
          over_after r ls m m1 p i e f f2 (go b (write f.mem q (Some (value_of v))) f) x t (refs_in (map value_of (referring (place_held i number m.heap)))) one pace n rs
          (left_over r ls m1 p1 i e f2 x s t b 0 0 (referring (place_held i number m.heap)) pace n st2 may1 goes after1)
      by_place None (Some q) same after = absurd same
      by_place (Some k) None same after = absurd same
