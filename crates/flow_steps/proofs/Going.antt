-- Where the steps of actors go astray.
use Rattle.std.proofs.Common.{◌≡◌, ◌+◌, ◌<◌, ◌≤◌, ℕ, zero, suc, Bool, true, false, List, [], ◌∷◌, length, slice_get, drop, get_or, inr, Result, refl, ap, sym, ◌∙◌, subst, arith}
use Rattle.std.proofs.lemmas.List.{drop_more}
use Rattle.std.specs.Option.{option_map}
use Rattle.std.specs.declared.option.Option.{Option}
use Rattle.std.specs.declared.option.Option.TheVariants.{None, Some}
use Rattle.std.specs.declared.vec.Vec.{Vec}
use Rattle.std.specs.declared.alloc.Global.{Global}
use Rattle.flow_base.specs.declared.ids.ActorId.{ActorId}
use Rattle.flow_base.specs.declared.ids.CellId.{CellId}
use Rattle.flow_ast.specs.declared.predefined.Method.{Method}
use Rattle.flow_value.specs.declared.value.Kind.{Kind}
use Rattle.flow_value.specs.declared.value.Kind.TheVariants as kind
use Rattle.flow_value.specs.declared.value.Value.{Value}
use Rattle.flow_value.specs.declared.value.Value.TheVariants.{Ref}
use Rattle.flow_value.specs.Values.{ValueTree, RefValue}
use Rattle.flow_value.specs.View.{value_of}
use Rattle.flow_code.specs.declared.expr.expr.Resolved.{Resolved}
use Rattle.flow_code.specs.Resolved.Evaluation.{numbered_field}
use Rattle.flow_code.specs.Resolved.View.{places_in}
use Rattle.flow_numbered.specs.Numbered.{Store, thing}
use Rattle.flow_frame.specs.Frames.{FrameTree, with_place}
use Rattle.flow_code.specs.declared.class.Act.{Act}
use Rattle.flow_code.specs.declared.class.Act.TheVariants as act
use Rattle.flow_code.specs.declared.class.Aim.{Aim}
use Rattle.flow_code.specs.declared.class.Branch.{Branch}
use Rattle.flow_code.specs.declared.class.Group.{Group}
use Rattle.flow_code.specs.declared.class.Instruction.{Instruction}
use Rattle.flow_code.specs.declared.class.Instruction.TheVariants as instruction
use Rattle.flow_code.specs.declared.class.Last.{Last}
use Rattle.flow_code.specs.declared.class.Last.TheVariants as last
use Rattle.flow_code.specs.declared.program.Code.{Code}
use Rattle.flow_code.specs.View.{group_numbered}
use Rattle.flow_cancel.specs.declared.task.Task.{Task}
use Rattle.flow_cancel.specs.Heap.{HeapTree, next_cell, pushed}
use Rattle.flow_heap_refinement.specs.Holds.{hold, hold_all}
use Rattle.flow_steps.specs.declared.errors.Fault.{Fault}
use Rattle.flow_steps.specs.declared.frames.ControlPoint.{ControlPoint}
use Rattle.flow_steps.specs.declared.process.Process.{Process}
use Rattle.flow_steps.specs.Doing.{turned}
use Rattle.flow_steps.specs.Holding.{on_heap, value_refs}
use Rattle.flow_steps.specs.Delivering.{made, gone_to}
use Rattle.flow_steps.specs.Points.{Numbering, IsAtPoint, noting, noted, noted_stand, next_stand, GoesTo, place_held, place_put, places_emptied, field_path, Assigns}
use Rattle.flow_steps.specs.Acting.{args_of}
use Rattle.flow_steps.specs.Stepping.{kept_by, value_for, truth_for, values_for, truth_value}
use Rattle.flow_steps.specs.Stuck.{IfStuck, OnStuck, HasNoPoint, Missing, FrameMissing, PlaceMissing, NoPlace, PartMissing, AimsStuck, no_place, no_part}
use Rattle.flow_steps.specs.StuckRequests.{MethodStuck}
use Rattle.flow_steps.specs.StuckWaits.{KeepsStuck, WaitsStuck}
use Rattle.flow_steps.specs.StuckCalls.{EvaluatesStuck, EnrolsAloneStuck}
use Rattle.flow_steps.specs.StuckSteps.{SetStuck, ActStuck, NoReferenceAt, CallsStuck, method_stuck, CallsStuckOf, MethodStepStuck, DoesStuck, TestStuck, LastStuck, ReferenceStuck, ValueKeptStuck, AsksStuck, ChoosesStuck, operand_stuck, wait_stuck, StepStuck, behind_all, by_instruction, RunsStuck, RunsNowStuck, nowhere, runs_stuck}
use Rattle.flow_steps.proofs.Before.{with_frame_still, hold_frames, held_frames, path_nowhere}
use Rattle.flow_steps.proofs.Amiss.{turned_heap}
use Rattle.flow_steps.proofs.Afterwards.{frame_stays_emptied}
use Rattle.flow_steps.proofs.Called.{ref_seen, made_there}
use Rattle.flow_steps.proofs.Holding.{if_stuck_weaker, on_stuck_weaker}

-- a new cell leaves the frames as they are
made_frames : (kd : Kind) (h : HeapTree) → (made kd h).frames ≡ h.frames
made_frames kind.Promise h = refl
made_frames kind.Future h = refl
made_frames kind.PromiseStream h = refl
made_frames kind.FutureStream h = refl

-- a frame that is missing afterwards was missing before
pub frame_before : (i : ℕ) (g h : HeapTree) → g.frames ≡ h.frames → FrameMissing i g → FrameMissing i h
frame_before i g h e m = subst (λ (fs : Store (FrameTree Value)). thing fs.things i ≡ None) e m

pub noting_still : (b : Bool) (i n c m : ℕ) (h : HeapTree) → FrameMissing m (noting b i n c h) → FrameMissing m h
noting_still true i n c m h e = e
noting_still false i n c m h e = with_frame_still (gone_to n c) i m h e

pub frame_no_place : (i n : ℕ) (h : HeapTree) → FrameMissing i h → NoPlace i n h
frame_no_place i n h m = subst (PlaceMissing n) (sym m) tt

place_before : (i n : ℕ) (g h : HeapTree) → g.frames ≡ h.frames → NoPlace i n g → NoPlace i n h
place_before i n g h e m = subst (λ (fs : Store (FrameTree Value)). PlaceMissing n (thing fs.things i)) e m

-- an assignment
aims_before : (code : Code) (i : ℕ) (aim : Aim) (g h : HeapTree) → g.frames ≡ h.frames → AimsStuck code.fields i aim g → AimsStuck code.fields i aim h
aims_before code i aim g h e (no_place m) = no_place (place_before i aim.place g h e m)
aims_before code i aim g h e (no_part f fs at m) =
    no_part f fs at (subst (λ (xs : Store (FrameTree Value)). PartMissing code.fields aim.path.items (held_at xs)) e m)
  where
    held_at : Store (FrameTree Value) → Option Value
    held_at xs = place_held i aim.place (record h { frames = xs })

module _ (code : Code) (s : ControlPoint) (aim : Aim) (v : Value) (p held : Process) where
  pub set_aims : held ≡ on_heap (hold_all (value_refs v)) p → AimsStuck code.fields s.actor.0 aim held.heap → SetStuck code s aim v p
  set_aims e m = inr (aims_before code s.actor.0 aim held.heap p.heap (ap (λ (x : Process). x.heap.frames) e ∙ held_frames (value_refs v) p.heap) m)

  pub set_after : (old : Option Value) (q : Process) → held ≡ on_heap (hold_all (value_refs v)) p → Assigns code.fields s.actor aim v held old q
      → FrameMissing s.actor.0 q.heap → SetStuck code s aim v p
  set_after old q e a m =
      let before = with_frame_still (λ f. with_place f aim.place a.root) s.actor.0 s.actor.0 held.heap (subst (λ (x : Process). FrameMissing s.actor.0 x.heap) a.put m) in
      set_aims e (no_place (frame_no_place s.actor.0 aim.place held.heap before))

-- a new cell
module _ (i n : ℕ) (kd : Kind) (k : CellId) (p one two : Process) where
  pub new_holds : k.0 ≡ next_cell p.heap → one ≡ on_heap (made kd) p → Missing kd k.0 one.heap → ⊥
  new_holds at e m = made_there kd p.heap (subst (λ j. Missing kd j (made kd p.heap)) at (subst (λ (x : Process). Missing kd k.0 x.heap) e m))

  both_frames : one ≡ on_heap (made kd) p → two ≡ on_heap (hold kd k.0) one → two.heap.frames ≡ p.heap.frames
  both_frames e f =
      ap (λ (x : Process). x.heap.frames) f ∙ hold_frames kd k.0 one.heap ∙ ap (λ (x : Process). x.heap.frames) e ∙ made_frames kd p.heap

  pub new_puts : one ≡ on_heap (made kd) p → two ≡ on_heap (hold kd k.0) one → NoPlace i n two.heap → NoPlace i n p.heap
  new_puts e f m = place_before i n two.heap p.heap (both_frames e f) m

  pub new_after : (v : Option Value) (three : Process) → one ≡ on_heap (made kd) p → two ≡ on_heap (hold kd k.0) one → three ≡ on_heap (place_put i n v) two
      → FrameMissing i three.heap → NoPlace i n p.heap
  new_after v three e f g m =
      new_puts e f (frame_no_place i n two.heap (with_frame_still (λ x. with_place x n v) i i two.heap (subst (λ (x : Process). FrameMissing i x.heap) g m)))

-- places that are emptied
pub after_emptied : (i : ℕ) (ns : List ℕ) (p q : Process) → q ≡ on_heap (places_emptied i ns) p → FrameMissing i q.heap → FrameMissing i p.heap
after_emptied i ns p q e m = frame_stays_emptied i i ns p.heap (subst (λ (x : Process). FrameMissing i x.heap) e m)

-- the end of an actor
pub after_held : (i : ℕ) (v : Value) (p q : Process) → q ≡ on_heap (hold_all (value_refs v)) p → FrameMissing i q.heap → FrameMissing i p.heap
after_held i v p q e m = frame_before i q.heap p.heap (ap (λ (x : Process). x.heap.frames) e ∙ held_frames (value_refs v) p.heap) m

pub after_noted : (s : ControlPoint) (p q : Process) (t : Task) (h : HeapTree) → q ≡ noted s p → h ≡ pushed t q.heap → FrameMissing s.actor.0 h → FrameMissing s.actor.0 p.heap
after_noted s p q t h e f m =
    noting_still s.noted s.actor.0 s.place s.instruction s.actor.0 p.heap
    (subst (λ (x : Process). FrameMissing s.actor.0 x.heap) e (subst (λ g. FrameMissing s.actor.0 g) f m))

-- a pass whose begin can't be noted
pub after_turn : (i : ℕ) (p q : Process) → q ≡ turned p → FrameMissing i q.heap → FrameMissing i p.heap
after_turn i p q e m = subst (λ (h : HeapTree). FrameMissing i h) (ap (λ (x : Process). x.heap) e ∙ turned_heap p) m

pub begin_missing : (s t : ControlPoint) (b : ℕ) (h : HeapTree) → GoesTo s b 0 t → FrameMissing t.actor.0 h → FrameMissing s.actor.0 h
begin_missing s t b h g m = subst (λ (x : ControlPoint). FrameMissing x.actor.0 h) g.same m

-- a method with one argument, or more
pub one_stuck : {T : Type 0} (code : Code) (s : ControlPoint) (aim : Aim) (m : Method) (es : List Resolved) (e : Resolved) (r : Result T Fault) (p : Process) → length es ≡ 1 → e ≡ get_or es 0 e
    → OnStuck r (EvaluatesStuck s value_of (value_for code s.actor.0 e p) p (CallsStuckOf code s aim m)) → OnStuck r (MethodStepStuck code s aim m es p)
one_stuck code s aim m [] e r p n is go = absurd (omega (arith, n))
one_stuck code s aim m (x ∷ []) e r p n is go =
    subst (λ y. OnStuck r (EvaluatesStuck s value_of (value_for code s.actor.0 y p) p (CallsStuckOf code s aim m))) is go
one_stuck code s aim m (x ∷ y ∷ zs) e r p n is go = absurd (omega (arith, n))

pub more_stuck : (code : Code) (s : ControlPoint) (aim : Aim) (m : Method) (es : List Resolved) (p : Process) → 2 ≤ length es → MethodStepStuck code s aim m es p
more_stuck code s aim m [] p n = absurd (omega (arith, n))
more_stuck code s aim m (x ∷ []) p n = absurd (omega (arith, n))
more_stuck code s aim m (x ∷ y ∷ zs) p n = tt

pub method_gets_stuck : (code : Code) (s : ControlPoint) (aim : Aim) (m : Method) (sent : Option Value) (kd : Kind) (k : CellId) (p told : Process)
    → field_path (places_in code.fields) aim.path.items (option_map value_of (place_held s.actor.0 aim.place p.heap)) ≡ Some (RefValue kd k.0)
    → told ≡ noted (next_stand s) p → MethodStuck m kd k sent told.heap → CallsStuck code s aim m sent p
method_gets_stuck code s aim m sent kd k p told at e x = method_stuck kd k at (subst (λ (y : Process). MethodStuck m kd k sent y.heap) e x)

-- a void actor that isn't made
pub void_gets_stuck : (code : Code) (s : ControlPoint) (a : Act) (class : ℕ) (args : Vec Value Global) (p told : Process) → a ≡ act.Actor class
    → told ≡ noted (next_stand s) p → EnrolsAloneStuck code class args.items told.heap → ActStuck code s a args p
void_gets_stuck code s a class args p told is e m =
    subst (λ (x : Act). ActStuck code s x args p) (sym is) (inr (subst (λ (x : Process). EnrolsAloneStuck code class args.items x.heap) e m))

-- instructions by their kinds
pub acts_get_stuck : {T : Type 0} (code : Code) (s : ControlPoint) (x : Instruction) (a : Act) (args : Vec Resolved Global) (es : List Resolved) (r : Result T Fault) (p : Process)
    → x ≡ instruction.Act a args → es ≡ args.items
    → OnStuck r (EvaluatesStuck s args_of (values_for code s.actor.0 es p) p (ActStuck code s a)) → OnStuck r (DoesStuck code s x p)
acts_get_stuck code s x a args es r p is e go =
    subst (λ y. OnStuck r (DoesStuck code s y p)) (sym is)
    (subst (λ l. OnStuck r (EvaluatesStuck s args_of (values_for code s.actor.0 l p) p (ActStuck code s a))) e go)

pub tests_stuck : {T : Type 0} (code : Code) (s : ControlPoint) (x : Last) (e : Resolved) (one other : ℕ) (r : Result T Fault) (p : Process) → x ≡ last.Test e one other
    → OnStuck r (EvaluatesStuck s truth_value (truth_for code s.actor.0 e p) p (TestStuck s one other)) → OnStuck r (LastStuck code s x p)
tests_stuck code s x e one other r p is go = subst (λ y. OnStuck r (LastStuck code s y p)) (sym is) go

-- a wait
module _ (code : Code) (s t : ControlPoint) (number : ℕ) (g : Group) (p told : Process) where
  pub operand_gets_stuck : (b : Branch) (n : ℕ) → Some g ≡ group_numbered number s.class.now.groups.items → t ≡ noted_stand s → told ≡ noted s p
      → Some b ≡ slice_get g.branches.items (kept_by t told) → n ≡ g.first + kept_by t told → AsksStuck code t n b.operand told
      → ChoosesStuck code s number p
  operand_gets_stuck b n e m d at k o =
      let here = subst (λ x. AsksStuck code t x b.operand told) k o in
      let noted_here = subst (λ x. AsksStuck code x (g.first + kept_by x told) b.operand told) m here in
      let told_here = subst (λ x. AsksStuck code (noted_stand s) (g.first + kept_by s x) b.operand x) d noted_here in
      operand_stuck g b (sym e) (sym at') told_here
    where
      at' : Some b ≡ slice_get g.branches.items (kept_by s (noted s p))
      at' = at ∙ ap (λ (x : ControlPoint). slice_get g.branches.items (kept_by x told)) m ∙ ap (λ x. slice_get g.branches.items (kept_by s x)) d

  pub wait_gets_stuck : Some g ≡ group_numbered number s.class.now.groups.items → t ≡ noted_stand s → told ≡ noted s p
      → None ≡ slice_get g.branches.items (kept_by t told) → WaitsStuck t told.heap → ChoosesStuck code s number p
  wait_gets_stuck e m d at w =
      wait_stuck g (sym e) (sym (at ∙ ap (λ (x : ControlPoint). slice_get g.branches.items (kept_by x told)) m ∙ ap (λ x. slice_get g.branches.items (kept_by s x)) d))
      (subst (λ (x : Process). WaitsStuck (noted_stand s) x.heap) d (subst (λ x. WaitsStuck x told.heap) m w))

-- a step
pub instruction_stuck : {T : Type 0} (code : Code) (s : ControlPoint) (x : Instruction) (r : Result T Fault) (p : Process) → Some x ≡ slice_get s.block.now.body.items s.instruction
    → OnStuck r (DoesStuck code s x p) → OnStuck r (StepStuck code s p)
instruction_stuck code s x r p at go = on_stuck_weaker r _ _ (λ m. by_instruction x (sym at) m) go

nothing_at : {A : Type 0} (xs : List A) (n : ℕ) → slice_get xs n ≡ None → length xs ≤ n
nothing_at [] n e = omega arith
nothing_at (x ∷ xs) zero e = absurd (cc (e))
nothing_at (x ∷ xs) (suc n) e = (let le = nothing_at xs n e in omega (arith, le))

pub step_behind : (code : Code) (s : ControlPoint) (p : Process) → slice_get s.block.now.body.items s.instruction ≡ None
    → (s.instruction ≡ length s.block.now.body.items → ⊥) → StepStuck code s p
step_behind code s p none other = behind_all (omega (arith, nothing_at s.block.now.body.items s.instruction none, other))

-- the steps from where an actor stands, or it stands nowhere
pub runs_nowhere : (code : Code) (i : ActorId) (p : Process) (e : Fault) → IfStuck e (HasNoPoint code.classes.items i.0 p.heap) → IfStuck e (RunsNowStuck code i p)
runs_nowhere code i p e m = if_stuck_weaker e _ _ nowhere m

pub runs_get_stuck : {T : Type 0} (code : Code) (i : ActorId) (s : ControlPoint) (p : Process) (r : Result T Fault) → IsAtPoint code.classes.items i p s → OnStuck r (RunsStuck code s p)
    → OnStuck r (RunsNowStuck code i p)
runs_get_stuck code i s p r at m = on_stuck_weaker r _ _ (runs_stuck s at) m

-- a path that leads nowhere
pub part_ends : (at : Numbering) (path : List ℕ) (k d : ℕ) (v w : ValueTree) → k < length path → None ≡ numbered_field at v (get_or path k d)
    → field_path at (drop k path) (Some v) ≡ field_path at path (Some w) → field_path at path (Some w) ≡ None
part_ends at path k d v w lt none inv =
    sym inv
    ∙ ap (λ l. field_path at l (Some v)) (drop_more path k d lt)
    ∙ ap (field_path at (drop (k + 1) path)) (sym none)
    ∙ path_nowhere at (drop (k + 1) path)

module _ (code : Code) (i : ℕ) (aim : Aim) (h : HeapTree) where
  pub nothing_aimed : (o : Option Value) → o ≡ place_held i aim.place h → o ≡ None → NoReferenceAt code i aim h
  nothing_aimed o held none kd k e =
      let nowhere_at = ap (λ (x : Option Value). field_path (places_in code.fields) aim.path.items (option_map value_of x)) (sym held ∙ none) ∙ path_nowhere (places_in code.fields) aim.path.items in
      cc (nowhere_at, e)

  pub no_part_aimed : (v : Value) → Some v ≡ place_held i aim.place h → field_path (places_in code.fields) aim.path.items (Some (value_of v)) ≡ None → NoReferenceAt code i aim h
  no_part_aimed v held none kd k e =
      let nowhere_at = ap (λ (x : Option Value). field_path (places_in code.fields) aim.path.items (option_map value_of x)) (sym held) ∙ none in
      cc (nowhere_at, e)

  pub other_aimed : (v w : Value) → Some v ≡ place_held i aim.place h → field_path (places_in code.fields) aim.path.items (Some (value_of v)) ≡ Some (value_of w)
      → ((kd : Kind) (k : ℕ) → value_of w ≡ RefValue kd k → ⊥) → NoReferenceAt code i aim h
  other_aimed v w held part other kd k e =
      let there = ap (λ (x : Option Value). field_path (places_in code.fields) aim.path.items (option_map value_of x)) (sym held) ∙ part in
      other kd k (cc (there, e))

-- an operand that is a reference
pub kept_stuck : {T : Type 0} (s : ControlPoint) (n : ℕ) (v : Value) (kd : Kind) (k : CellId) (p held : Process) (r : Result T Fault) → v ≡ Ref kd k → held ≡ on_heap (hold kd k.0) p
    → OnStuck r (KeepsStuck s (record { callback = n; cell = k }) held.heap) → OnStuck r (ValueKeptStuck s n v p)
kept_stuck s n v kd k p held r is e m =
    on_stuck_weaker r _ _
    (λ x. subst (λ t. ReferenceStuck s n t p.heap) (sym (ap value_of is ∙ ref_seen kd k))
    (inr (subst (λ (y : Process). KeepsStuck s (record { callback = n; cell = k }) y.heap) e x))) m
