-- Each step of a process takes a turn or leaves less to do, unless the result of an effect has no place.
use Rattle.std.proofs.Common.{◌≡◌, ℕ, suc, ◌<◌, ◌≤◌, Bool, true, false, List, [], ◌∷◌, ◌++◌, length, inl, inr, refl, sym, ap, ◌∙◌, subst, arith}
use Rattle.std.specs.declared.option.Option.{Option}
use Rattle.std.specs.declared.option.Option.TheVariants.{None, Some}
use Rattle.flow_base.specs.ErrorNumbers.{broken_promise}
use Rattle.flow_value.specs.Values.{ValueTree, BadOutcome}
use Rattle.flow_class.specs.Classes.{GotoLast, PassLast, TestLast, ChooseLast, ReturnLast, ThrowLast, CallbackTree, ClassTree, RawTree}
use Rattle.flow_class.specs.Code.{Fetched, Body, Last, Nothing, callback_at}
use Rattle.flow_valid.specs.Validity.{leads_forward, catchers_kept}
use Rattle.flow_numbered.specs.Numbered.{Numbered, thing, put, removed}
use Rattle.flow_meaning.specs.Cells.{Side, PromiseSide, FutureSide, Ref, Waiter, Cell, is_ready, waiters, held}
use Rattle.flow_meaning.specs.Process.{Task, Fire, Entry, Core}
use Rattle.flow_meaning.specs.Lines.{broken_line}
use Rattle.flow_meaning.specs.References.{Scan, reference_count}
use Rattle.flow_meaning.specs.Work.{writes, pushed, fill, free_cell, take_branch, owner}
use Rattle.flow_meaning.specs.Dropping.{Loss, Freed, Broken, Orphan, Unheard, loss, port_of, suffer, lose_cell, lose_ref, drop, fire_to, fire_at, fire_cell, fire}
use Rattle.flow_meaning.specs.Dropping as dropping
use Rattle.flow_meaning.specs.Step.{kept_by, below}
use Rattle.flow_meaning.specs.Orderly.{tasks_of, is_suspended, Orderly}
use Rattle.flow_meaning.specs.Frame.{Memory, Frame}
use Rattle.flow_meaning.specs.Class.{bound, onward, take_callback, take_at, class_names}
use Rattle.flow_meaning.proofs.Posture.{thing_put_other, Unless, unless, unless_map, IsOf, own_task, awake_entry}
use Rattle.flow_meaning.proofs.Shifts.{owned, OwnedLoss, owned_loss}
use Rattle.flow_meaning.proofs.TaskShifts.{Popped, popped_at}
use Rattle.flow_progress.specs.FramesByRequest.{IsOf as OfClasses}
use Rattle.flow_progress.specs.Ending.{LeadOn}
use Rattle.flow_progress.proofs.Weights.{fires, busy, weigh, weight, load, Less, Eased, Falls, lighter_self, still_weight, dropping_lighter, hand_weight, quiet_task, took, within_started, fallen}
use Rattle.flow_progress.proofs.TurnsTaken.{fill_left, branch_turns}
use Rattle.flow_progress.proofs.Reacts.{cancel_lighter}

-- a class that a frame runs leads on
pub leads_of_frame : (r : RawTree) (c : ClassTree) → LeadOn r → OfClasses r c → (leads_forward c ≡ true) × (catchers_kept c ≡ true)
leads_of_frame r c h (inl q) = subst (λ d. (leads_forward d ≡ true) × (catchers_kept d ≡ true)) (sym q) (refl, refl)
leads_of_frame r c h (inr k) = h k.0 c k.1

-- drops and fires make no actor heavier
module _ (xs : Numbered Frame) where
  abbrev Easy : Core → Core → Type 0
  Easy c d = Unless (λ m. Eased c m xs) d

  free_easy : (k : ℕ) (c : Core) (x : Option Cell) → Easy c (free_cell k x c)
  free_easy k c None = tt
  free_easy k c (Some cell) =
      let d = record c { cells = removed c.cells k } in
      unless c.halted (inr (dropping_lighter (held cell) d xs))

  suffer_easy : (k : ℕ) (l : Loss) (c : Core) → OwnedLoss c l → Easy c (suffer k l c)
  suffer_easy k dropping.Kept c h = unless c.halted (inr (lighter_self c xs))
  suffer_easy k Freed c h = free_easy k c (thing c.cells k)
  suffer_easy k Broken c h =
      let r = suffer k Broken c in
      unless_map r.halted (λ lt. inl lt)
      (took (λ d. d.left < c.left) (λ d. fill k (BadOutcome broken_promise) (writes (broken_line k) d)) c (λ n lt.
      let d = writes (broken_line k) (record c { left = n }) in
      unless_map (fill k (BadOutcome broken_promise) d).halted (λ le. omega (arith, le, lt)) (fill_left n k (BadOutcome broken_promise) d (omega arith))))
  suffer_easy k (Orphan i e) c h = unless (suffer k (Orphan i e) c).halted (inr (cancel_lighter i e c xs h))
  suffer_easy k (Unheard port) c h = let d = record c { ports = removed c.ports port } in free_easy k d (thing d.cells k)

  lose_easy : (scan : Scan) (s : Side) (k : ℕ) (x : Option Cell) (c : Core) → Orderly c → Easy c (lose_cell scan s k x c)
  lose_easy scan s k None c o = tt
  lose_easy scan s k (Some cell) c o =
      let p = reference_count scan PromiseSide k c in let f = reference_count scan FutureSide k c in
      suffer_easy k (loss s p f cell (owner k c.entries) (port_of k c.ports)) c (owned_loss c s p f cell (owner k c.entries) (port_of k c.ports) (owned k c (owner k c.entries) o.numbered refl))

  fire_to_easy : (k : ℕ) (cell : Cell) (w : Waiter) (x : Option Entry) (c : Core) → Easy c (fire_to k cell w x c)
  fire_to_easy k cell w None c = tt
  fire_to_easy k cell w (Some e) c =
      let r = take_branch w.actor w.branch k e [] (Some cell) (pushed (Fire k) c) in
      unless_map r.halted (λ lt. inl lt) (branch_turns w.actor w.branch k e [] (Some cell) (pushed (Fire k) c))

  fire_at_easy : (scan : Scan) (k : ℕ) (cell : Cell) (ready : Bool) (ws : List Waiter) (c : Core) → Orderly c → Easy c (fire_at scan k cell ready ws c)
  fire_at_easy scan k cell ready [] c o = lose_easy scan FutureSide k (thing c.cells k) c o
  fire_at_easy scan k cell false (w ∷ ws) c o = lose_easy scan FutureSide k (thing c.cells k) c o
  fire_at_easy scan k cell true (w ∷ ws) c o = fire_to_easy k cell w (thing c.entries w.actor) c

  pub fire_cell_easy : (scan : Scan) (k : ℕ) (x : Option Cell) (c : Core) → Orderly c → Easy c (fire_cell scan k x c)
  fire_cell_easy scan k None c o = tt
  fire_cell_easy scan k (Some cell) c o = fire_at_easy scan k cell (is_ready cell) (waiters cell) c o

-- what a frame is handed leaves it in its class
onward_code : (f : Frame) (b : ℕ) (o : Option (List ValueTree × Memory)) → (onward f b o).1.code ≡ f.code
onward_code f b None = refl
onward_code f b (Some p) = refl

callback_code : (r : RawTree) (u : ValueTree) (f : Frame) (o : Option CallbackTree) → (take_callback (class_names r) u f o).1.code ≡ f.code
callback_code r u f None = refl
callback_code r u f (Some c) = onward_code f c.block (bound (class_names r) u f.mem c.into)

pub take_code : (r : RawTree) (n : ℕ) (u : ValueTree) (f : Frame) (o : Fetched) → (take_at (class_names r) n u f o).1.code ≡ f.code
take_code r n u f (Last (ChooseLast g)) = callback_code r u f (callback_at f.code g n)
take_code r n u f (Last (GotoLast b)) = refl
take_code r n u f (Last (PassLast b)) = refl
take_code r n u f (Last (TestLast e b c)) = refl
take_code r n u f (Last (ReturnLast e)) = refl
take_code r n u f (Last (ThrowLast e)) = refl
take_code r n u f (Body i) = refl
take_code r n u f Nothing = refl

pub below_fires : (ts : List Task) → fires (below ts) ≤ fires ts
below_fires [] = omega arith
below_fires (Fire k ∷ ts) = omega arith
below_fires (t ∷ ts) = omega arith

pub one_more : (rs : List Ref) (r : Ref) → length (rs ++ r ∷ []) ≡ suc (length rs)
one_more [] r = refl
one_more (x ∷ rs) r = ap suc (one_more rs r)

-- an actor whose task is off the stack: it weighed so much, and the others weigh what they weighed
pub record Off (i : ℕ) (t : Task) (ts : List Task) (c : Core) (xs : Numbered Frame) (e : Entry) : Type 0 where
  pub entry : thing c.entries i ≡ Some e
  pub awake : e.suspended ≡ false
  pub pop : Popped i t c (record c { tasks = ts })
  pub all : tasks_of i c.tasks ≡ t ∷ tasks_of i ts
  pub few : fires ts ≤ fires c.tasks
  pub within : i ≤ c.started

module _ (i : ℕ) (t : Task) (ts : List Task) (c : Core) (xs : Numbered Frame) where
  pub off_by : Orderly c → c.tasks ≡ t ∷ ts → IsOf i t → (e : Entry) × Off i t ts c xs e
  off_by o top own =
      let pop = popped_at i c.left t ts c o top own in
      let en = awake_entry i c (thing c.entries i) pop.awake in
      let q : fires c.tasks ≡ fires ts = ap fires top ∙ quiet_task i t ts own.own in (
        en.0,
        record {
          entry = en.1;
          awake = en.2;
          pop = pop;
          all = ap (tasks_of i) top ∙ own_task i t ts own;
          few = omega (arith, q);
          within = within_started c i en.0 o.numbered en.1;
        },
      )

  weighed : (e : Entry) (f : Frame) → Off i t ts c xs e → thing xs i ≡ Some f → weight c xs i ≡ busy f (length e.operands) (t ∷ tasks_of i ts)
  weighed e f h fr = hand_weight i c xs e f (t ∷ tasks_of i ts) (record { entry = h.entry; awake = h.awake; frame = fr }) h.all

  -- the others, where only the frame at i is another
  others_same : (e : Entry) (left : ℕ) (g : Frame) → Off i t ts c xs e → (j : ℕ) → (i ≡ j → ⊥) → weight (record c { tasks = ts; left = left }) (put xs i g) j ≡ weight c xs j
  others_same e left g h j k =
      still_weight j c (record c { tasks = ts; left = left }) (put xs i g) (h.pop.others j k, refl)
      ∙ ap (weigh (is_suspended (thing c.entries j)) (kept_by (thing c.entries j)) (tasks_of j c.tasks)) (thing_put_other xs i j g k)

  pub same_others : (e : Entry) → Off i t ts c xs e → (j : ℕ) → (i ≡ j → ⊥) → weight (record c { tasks = ts }) xs j ≡ weight c xs j
  same_others e h j k = still_weight j c (record c { tasks = ts }) xs (h.pop.others j k, refl)

  abbrev pub Shrinks : Core → Numbered Frame → Type 0
  Shrinks d ys = Unless (λ m. Less c (load c xs) m (load m ys)) d

  pub turned : (k d : Core) (ys : Numbered Frame) → k.left ≤ c.left → Unless (λ m. m.left < k.left) d → Shrinks d ys
  turned k d ys le h = unless_map d.halted (λ lt. inl (omega (arith, lt, le))) h

  -- the actor has another frame
  pub shrinks : (e : Entry) (f g : Frame) (left : ℕ) (d : Core) → Off i t ts c xs e → thing xs i ≡ Some f → left ≤ c.left
      → Unless (λ m. Falls i (busy f (length e.operands) (t ∷ tasks_of i ts)) (record c { tasks = ts; left = left }) m (put xs i g)) d → Shrinks d (put xs i g)
  shrinks e f g left d h fr le a =
      let w = weighed e f h fr in
      unless_map d.halted (λ x. fallen i (busy f (length e.operands) (t ∷ tasks_of i ts)) c (record c { tasks = ts; left = left }) d xs (put xs i g) h.within (omega (arith, w)) le h.few refl
      (others_same e left g h) x) a

  -- or the one that it had
  pub shrinks_same : (e : Entry) (f : Frame) (d : Core) → Off i t ts c xs e → thing xs i ≡ Some f
      → Unless (λ m. Falls i (busy f (length e.operands) (t ∷ tasks_of i ts)) (record c { tasks = ts }) m xs) d → Shrinks d xs
  shrinks_same e f d h fr a =
      let w = weighed e f h fr in
      unless_map d.halted (λ x. fallen i (busy f (length e.operands) (t ∷ tasks_of i ts)) c (record c { tasks = ts }) d xs xs h.within (omega (arith, w)) (omega arith) h.few refl (same_others e h) x)
      a
