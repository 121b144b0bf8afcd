-- What an actor needs to go on by its task is there: the branch that was taken, the effect whose result is to be stored, the wait
-- whose operand is to be kept.
use Rattle.std.proofs.Common.{◌≡◌, ◌≤◌, ℕ, List, [], ◌∷◌, length, refl, sym, ap, ◌∙◌, subst, arith}
use Rattle.std.specs.Prelude.{slice_get}
use Rattle.std.specs.Option.{option_map, option_and_then}
use Rattle.std.specs.declared.option.Option.{Option}
use Rattle.std.specs.declared.option.Option.TheVariants.{None, Some}
use Rattle.flow_base.specs.declared.ids.ActorId.{ActorId}
use Rattle.flow_base.specs.declared.ids.CellId.{CellId}
use Rattle.flow_value.specs.declared.value.Value.{Value}
use Rattle.flow_value.specs.declared.value.Outcome.{Outcome}
use Rattle.flow_value.specs.declared.value.Outcome.TheVariants as outcome
use Rattle.flow_value.specs.View.{outcome_of}
use Rattle.flow_class.specs.declared.class.Slotted.{Slotted}
use Rattle.flow_class.specs.Classes.{ChooseLast, CallbackTree, BlockTree, RawTree}
use Rattle.flow_class.specs.Code.{Last, Nothing, fetch_at, fetch, group_at, callback_at}
use Rattle.flow_code.specs.declared.class.Branch.{Branch}
use Rattle.flow_code.specs.declared.class.Group.{Group}
use Rattle.flow_code.specs.declared.program.Code.{Code}
use Rattle.flow_code.specs.Classes.{ClassCode}
use Rattle.flow_code.specs.View.{block_of, branch_of, group_numbered}
use Rattle.flow_code.specs.Coding.{Coding, coded_block, coded_branch}
use Rattle.flow_code.specs.Coded.{coding}
use Rattle.flow_trace.specs.declared.line.Line.{Line}
use Rattle.flow_numbered.specs.Numbered as stored
use Rattle.flow_cancel.specs.declared.task.Task as stack
use Rattle.flow_cancel.specs.declared.task.Task.TheVariants as task
use Rattle.flow_cancel.specs.Heap.{actor_id}
use Rattle.flow_numbered.specs.Numbered.{thing}
use Rattle.flow_meaning.specs.Requests.{Spot}
use Rattle.flow_meaning.specs.Process.{Task, Run, Give, Keep, Entry, Proc}
use Rattle.flow_meaning.specs.References.{Scan}
use Rattle.flow_meaning.specs.Work.{pushed}
use Rattle.flow_meaning.specs.Step.{popped, on_core}
use Rattle.flow_meaning.specs.Views.{spot_at}
use Rattle.flow_meaning.specs.Frame.{Frame}
use Rattle.flow_meaning.proofs.Shifts.{keep_of}
use Rattle.flow_heap_refinement.specs.Representing.{TasksRepresent, wait_spot, spot_of_actor}
use Rattle.flow_heap_refinement.specs.Changes.{SameTask}
use Rattle.flow_heap_refinement.specs.Counted.{nothing_in_hand}
use Rattle.flow_progress.specs.Rules.{KeepsRules}
use Rattle.flow_progress.specs.Places.{class_vars}
use Rattle.flow_progress.specs.Written.{heads}
use Rattle.flow_progress.proofs.StepFits.{Actor, actor_here}
use Rattle.flow_steps.specs.declared.frames.ControlPoint.{ControlPoint}
use Rattle.flow_steps.specs.declared.next.Pace.{Pace}
use Rattle.flow_steps.specs.declared.process.Process.{Process}
use Rattle.flow_steps.specs.Holding.{on_heap}
use Rattle.flow_steps.specs.Points.{IsAtPoint, GoesTo}
use Rattle.flow_steps.specs.Stepping.{OnAfter}
use Rattle.flow_steps.specs.Tasks.{BranchAt, bound_over, bound, TopTaken}
use Rattle.flow_steps.specs.Tasks as memory
use Rattle.flow_steps.specs.Waiting.{KeepsOperand}
use Rattle.flow_steps.specs.Stuck.{NoPlace, BlockMissing, HasNoPoint}
use Rattle.flow_steps.specs.StuckSteps.{GoesStuck}
use Rattle.flow_steps.specs.StuckTasks.{nowhere, standing, NoBranchAt, not_waiting, no_group_at, not_in_group, NoPlaceFor, BranchStuck, no_branch_at, no_place_for, no_block_at, goes_there, GivenStuck, OperandStuck, keeps_stuck, goes_after, NotNewest, KeptStuck, not_next, its_next}
use Rattle.flow_operation_refinement.specs.Matching.{ProcessRepresents, with_task}
use Rattle.flow_operation_refinement.specs.Placing.{Acts, RepresentsActor}
use Rattle.flow_operation_refinement.specs.Taking.{PointMatches, AtWait}
use Rattle.flow_operation_refinement.specs.Continuing.{SameInto}
use Rattle.flow_operation_refinement.specs.Operands.{MayKeep}
use Rattle.flow_operation_refinement.specs.Stepped.{TopOff}
use Rattle.flow_operation_refinement.specs.Coded.{CodedBy, AtHome}
use Rattle.flow_operation_refinement.proofs.Stands.{both_mapped}
use Rattle.flow_operation_refinement.proofs.Parting.{acts_by}
use Rattle.flow_step_refinement.specs.Decoding.{InCode, IsGroup}
use Rattle.flow_step_refinement.specs.Executing.{coded_by}
use Rattle.flow_step_refinement.specs.Giving.{MayBranch}
use Rattle.flow_step_refinement.specs.Tasking.{MayGet, MayKeepOne}
use Rattle.flow_step_refinement.proofs.Decodes.{begins_in_code, group_there}
use Rattle.flow_burst_refinement.specs.Invariants.Invariant.{ProcessInvariant}
use Rattle.flow_burst_refinement.specs.Invariants.Allowed.{BetweenTasks}
use Rattle.flow_burst_refinement.proofs.Invariants.Acting.{stands_by, standing_there}
use Rattle.flow_burst_refinement.proofs.Invariants.Homes.{at_home}
use Rattle.flow_burst_refinement.specs.Enabled.Tasking.{IsProgram, StateIsNone}
use Rattle.flow_burst_refinement.proofs.Enabled.Tasks.{rules, give_allowed, keep_allowed}
use Rattle.flow_machine_progress.proofs.Lookups.References.{some_none}
use Rattle.flow_machine_progress.proofs.Lookups.Standing.{group_found}
use Rattle.flow_machine_progress.proofs.Actors.Here.{has_place}
use Rattle.flow_step_refinement.proofs.Chooses.{nothing_mapped}
use Rattle.flow_machine_progress.proofs.Actors.Operands.{Waiting, keeps_found}
use Rattle.flow_step_refinement.proofs.Gives.{run_off}
use Rattle.flow_machine_progress.proofs.Bursts.Somewhere.{somewhere, stands_there}

no_fetch : (o : Option BlockTree) (n : ℕ) → o ≡ None → fetch_at o n ≡ Nothing
no_fetch None n e = refl
no_fetch (Some b) n e = absurd (cc (e))

not_nothing : (c : _) (b n g : ℕ) → fetch c b n ≡ Last (ChooseLast g) → fetch c b n ≡ Nothing → ⊥
not_nothing c b n g e none = cc (e, none)

-- where a wait has a callback its class has the group
group_of_callback : (gs : List (List CallbackTree)) (g n : ℕ) (c : CallbackTree) → option_and_then (λ cs. slice_get cs n) (group_at gs g) ≡ Some c
    → (cs : List CallbackTree) × (group_at gs g ≡ Some cs) × (slice_get cs n ≡ Some c)
group_of_callback gs g n c e = by_group (group_at gs g) refl e
  where
    by_group : (o : Option (List CallbackTree)) → group_at gs g ≡ o → option_and_then (λ cs. slice_get cs n) o ≡ Some c
        → (cs : List CallbackTree) × (group_at gs g ≡ Some cs) × (slice_get cs n ≡ Some c)
    by_group None at e = absurd (cc (e))
    by_group (Some cs) at e = (cs, at, e)

-- an actor of a valid program in a process in memory
module _ (r : RawTree) (code : Code) (program : IsProgram r code) (y : Process) (z : Proc Frame) (i : ℕ) (e : Entry) (f : Frame) (acts : Acts r y.heap z i e f) where
  abbrev by : CodedBy r code.classes.items
  by = coded_by program.coded

  abbrev pub its_code : Coding
  its_code = coding by.names by.class (length f.code.slots)

  home : AtHome f.code
  home = at_home r program.whole.valid.valid acts.memory.class f.code acts.stands.code

  pub not_nowhere : (fetch f.code f.block f.instr ≡ Nothing → ⊥) → HasNoPoint code.classes.items i y.heap → ⊥
  not_nowhere there = stands_there r program.whole code program.coded y.heap z i e f acts there

  module _ (s : ControlPoint) (stands : IsAtPoint code.classes.items (actor_id i) y s) where
    pub in_code : InCode by s f
    in_code = begins_in_code r code.classes.items y z i e f s by acts stands

    pub stand_is : PointMatches s i f
    stand_is = (stands_by r code program.whole.valid program.coded y z i e f s acts stands).standing

    wait_is : (g : ℕ) → fetch f.code f.block f.instr ≡ Last (ChooseLast g) → AtWait s f g
    wait_is = (stands_by r code program.whole.valid program.coded y z i e f s acts stands).waits

    no_group : (g : ℕ) → fetch f.code f.block f.instr ≡ Last (ChooseLast g) → (cs : List CallbackTree) → group_at f.code.groups g ≡ Some cs
        → group_numbered g s.class.now.groups.items ≡ None → ⊥
    no_group = group_found r code.classes.items by s.class.now f in_code.class home

    -- a block that the frame's class has
    block_there : (b : ℕ) → (fetch f.code b 0 ≡ Nothing → ⊥) → BlockMissing s.class.now b → ⊥
    block_there b there missing =
        let blocks = both_mapped block_of (coded_block its_code f.code) s.class.now.blocks.items f.code.blocks b (ap (λ (k : ClassCode). k.blocks) in_code.class) in
        there (no_fetch (slice_get f.code.blocks b) 0 (nothing_mapped (coded_block its_code f.code) (slice_get f.code.blocks b) (sym (ap (option_map block_of) missing) ∙ blocks)))

    -- a branch that it has a callback for
    branch_there : (g n : ℕ) (c : CallbackTree) → fetch f.code f.block f.instr ≡ Last (ChooseLast g) → callback_at f.code g n ≡ Some c → NoBranchAt s n → ⊥
    branch_there g n c fetched at (not_waiting none) = none g (wait_is g fetched).last
    branch_there g n c fetched at (no_group_at h ends none) =
        let same : h ≡ g = let a = (wait_is g fetched).last in cc (a, ends) in
        let cs = group_of_callback f.code.groups g n c at in
        no_group g fetched cs.0 cs.1 (subst (λ k. group_numbered k s.class.now.groups.items ≡ None) same none)
    branch_there g n c fetched at (not_in_group h x ends there none) =
        let same : h ≡ g = let a = (wait_is g fetched).last in cc (a, ends) in
        let is : IsGroup its_code f g x = group_there r code.classes.items s i f g x by in_code (subst (λ k. group_numbered k s.class.now.groups.items ≡ Some x) same there) in
        let cs = group_of_callback f.code.groups g n c at in
        let callbacks : is.callbacks ≡ cs.0 = let a = is.at in let b = cs.1 in cc (a, b) in
        let branches = both_mapped branch_of (coded_branch its_code) x.branches.items is.callbacks n is.coded in
        let nothing = nothing_mapped (coded_branch its_code) (slice_get is.callbacks n) (sym (ap (option_map branch_of) none) ∙ branches) in
        some_none (sym cs.2 ∙ ap (λ ds. slice_get ds n) (sym callbacks) ∙ nothing)

-- the newest task that shows the next step of an actor is it
run_shows : (spots : ℕ → Spot) (kept : ℕ → ℕ) (i : ActorId) (ts : List stack.Task) (us : List Task) → TasksRepresent spots kept ts (Run i.0 ∷ us)
    → (below : List stack.Task) × (ts ≡ task.Run i ∷ below)
run_shows spots kept i [] us s = absurd s
run_shows spots kept i (task.Run a ∷ ts) us s =
    let number : i.0 ≡ a.0 = let e = s.0 in cc (e) in
    (ts, ap (λ n. task.Run (actor_id n) ∷ ts) (sym number))
run_shows spots kept i (task.Give a b o ∷ ts) us s = absurd (let e = s.0 in cc (e))
run_shows spots kept i (task.Throw a x ∷ ts) us s = absurd (let e = s.0 in cc (e))
run_shows spots kept i (task.Catch a x ∷ ts) us s = absurd (let e = s.0 in cc (e))
run_shows spots kept i (task.Fire k ∷ ts) us s = absurd (let e = s.0 in cc (e))
run_shows spots kept i (task.Drop kd k ∷ ts) us s = absurd (let e = s.0 in cc (e))
run_shows spots kept i (task.Store a v ∷ ts) us s = absurd (let e = s.0 in cc (e))
run_shows spots kept i (task.Keep a n k ∷ ts) us s = absurd (let e = s.0.2 in cc (e))
run_shows spots kept i (task.Close a o ∷ ts) us s = absurd (let e = s.0 in cc (e))

module _ (r : RawTree) (code : Code) (program : IsProgram r code) (ls : List Line) (m : Process) (p : Proc Frame) (now : BetweenTasks r ls m p) (t : stack.Task) (start : Process)
    (taken : TopTaken t m start) (o : TopOff r ls t start p) where
  abbrev k : ProcessInvariant r p
  k = now.kept

  abbrev q : Proc Frame
  q = popped o.below p

  abbrev hand : Scan
  hand = with_task o.top nothing_in_hand

  -- a branch that was taken
  module _ (i : ActorId) (b : ℕ) (w : Value) (is : o.top ≡ Give i.0 b (outcome_of (outcome.Value w)))
      (onward : (s u : ControlPoint) (x : Branch) (pace : Pace) (n : Process) → IsAtPoint code.classes.items i start s → BranchAt s b x → GoesTo s x.block 0 u
      → OnAfter u (bound_over i.0 x.into w start.heap) (on_heap (bound i.0 x.into w) start) pace n → GoesStuck code pace n → ⊥) where
    get : MayGet code r ls start q i.0 b (outcome.Value w)
    get = give_allowed r code program ls m p now t start taken o i.0 b (outcome.Value w) is

    abbrev its_entry : Entry
    its_entry = get.0

    abbrev its_frame : Frame
    its_frame = get.1.0

    acts : Acts r start.heap q i.0 its_entry its_frame
    acts = get.1.1.0

    may : MayBranch code r ls start q i.0 b its_entry its_frame
    may = get.1.1.1

    st : RepresentsActor r ls hand start q i.0 its_entry its_frame
    st = record { shown = o.shown; acts = acts }

    own_rules : KeepsRules r (heads r) its_frame.code (class_vars its_frame.code)
    own_rules = (rules r code program ls m p now).classes acts.memory.class its_frame.code acts.stands.code

    place_there : (a : Option ℕ) (c : Option Slotted) → SameInto r ls start q i.0 its_entry its_frame a c → NoPlaceFor i.0 a start.heap → ⊥
    place_there None c same none = none
    place_there (Some n) (Some place) same none =
        has_place r ls hand start q i.0 its_entry its_frame st place same.1 (subst (λ j. NoPlace i.0 j start.heap) same.0 none)
    place_there (Some n) None same none = same

    branch_goes : (s : ControlPoint) → IsAtPoint code.classes.items i start s → BranchStuck code i b w start s → ⊥
    branch_goes s stands (no_branch_at none) =
        branch_there r code program start q i.0 its_entry its_frame acts s stands may.group b may.callback may.fetched may.at none
    branch_goes s stands (no_place_for x at none) = place_there x.into may.callback.into (may.same s x stands at).1 none
    branch_goes s stands (no_block_at x at missing) =
        block_there r code program start q i.0 its_entry its_frame acts s stands may.callback.block
        (own_rules.lasts its_frame.block its_frame.instr (ChooseLast may.group) may.fetched b may.callback may.at).goes
        (subst (BlockMissing s.class.now) (may.same s x stands at).0 missing)
    branch_goes s stands (goes_there x u pace n at to after stuck) = onward s u x pace n stands at to after stuck

    value_given : GivenStuck code i b (outcome.Value w) start → ⊥
    value_given (nowhere none) =
        not_nowhere r code program start q i.0 its_entry its_frame acts (not_nothing its_frame.code its_frame.block its_frame.instr may.group may.fetched) none
    value_given (standing s stands stuck) = branch_goes s stands stuck

  pub given_found : (i : ActorId) (b : ℕ) (v : Outcome) → o.top ≡ Give i.0 b (outcome_of v)
      → ((w : Value) (s u : ControlPoint) (x : Branch) (pace : Pace) (n : Process) → v ≡ outcome.Value w → IsAtPoint code.classes.items i start s → BranchAt s b x → GoesTo s x.block 0 u
      → OnAfter u (bound_over i.0 x.into w start.heap) (on_heap (bound i.0 x.into w) start) pace n → GoesStuck code pace n → ⊥)
      → GivenStuck code i b v start → ⊥
  given_found i b (outcome.Value w) is onward stuck = value_given i b w is (λ s u x pace n. onward w s u x pace n refl) stuck
  given_found i b (outcome.Error x) is onward stuck = stuck

  -- an operand, by an actor whose task is next
  module _ (i : ActorId) (n : ℕ) (c : CellId) (same : SameTask q (task.Keep i n c) o.top) (state : StateIsNone start.heap i.0)
      (onward : (y : Process) (s : ControlPoint) (pace : Pace) (z : Process) → TopTaken (task.Run i) start y → IsAtPoint code.classes.items i y s
      → KeepsOperand s (record { callback = n; cell = c }) y pace z → GoesStuck code pace z → ⊥) where
    keep : MayKeepOne code r start q i.0 c.0 o.top
    keep = keep_allowed r code program ls m p now t start taken o i.0 n c.0 same state

    -- its entry and its frame, where the wait stands at which it is
    acting : thing p.actors i.0 ≡ Some keep.frame
    acting = ap (λ (x : Proc Frame). thing x.actors i.0) keep.next ∙ keep.acts.acting

    entered : thing p.core.entries i.0 ≡ Some keep.entry
    entered = ap (λ (x : Proc Frame). thing x.core.entries i.0) keep.next ∙ keep.acts.entered

    spot_is : spot_of_actor p.actors i.0 ≡ wait_spot keep.frame
    spot_is = ap (spot_at wait_spot) acting

    kept_is : o.top ≡ Keep i.0 (wait_spot keep.frame) (same.0, c.0)
    kept_is = same.2 ∙ ap (λ x. Keep i.0 x (same.0, c.0)) spot_is

    after_first : (wait_spot keep.frame).first ≤ n
    after_first =
        let a = same.1 in
        let b = ap (λ (x : Spot). x.first) spot_is in omega (arith, a, b)

    its_doing : Actor r k.types i.0 (Keep i.0 (spot_of_actor p.actors i.0) (same.0, c.0)) o.below p.core p.actors
    its_doing =
        actor_here r k.types i.0 (Keep i.0 (spot_of_actor p.actors i.0) (same.0, c.0)) o.below p.core p.actors k.orderly (o.tasks ∙ ap (λ u. u ∷ o.below) same.2)
        (keep_of i.0 (spot_of_actor p.actors i.0) (same.0, c.0)) k.fits

    there : fetch keep.frame.code keep.frame.block keep.frame.instr ≡ Nothing → ⊥
    there =
        let is : its_doing.frame ≡ keep.frame = let a = its_doing.stands in let b = acting in cc (a, b) in
        subst (λ (f : Frame). fetch f.code f.block f.instr ≡ Nothing → ⊥) is (standing_there r k.types its_doing.frame its_doing.doing.1)

    shown_then : ProcessRepresents r ls hand start (on_core (pushed (Run i.0)) keep.rest)
    shown_then = subst (ProcessRepresents r ls hand start) keep.next o.shown

    newest : NotNewest (task.Run i) start → ⊥
    newest none =
        let a = run_shows _ _ i start.heap.tasks keep.rest.core.tasks shown_then.holds.shows.tasks in
        none (memory.popped a.0 start) (record { tasks = a.0; top = a.1; rest = refl })

    -- where its own task is off, too
    module _ (y : Process) (next : TopTaken (task.Run i) start y) where
      acts_then : Acts r y.heap keep.rest i.0 keep.entry keep.frame
      acts_then =
          acts_by r start.heap y.heap (on_core (pushed (Run i.0)) keep.rest) keep.rest i.0 keep.entry keep.frame (ap (λ (x : Process). x.heap.frames) next.rest)
          (ap (λ (x : Process). x.heap.actors) next.rest) refl refl keep.acts

      off : ProcessRepresents r ls hand y keep.rest
      off = run_off r ls start y keep.rest i.0 hand shown_then next

      operand_found : (s : ControlPoint) → IsAtPoint code.classes.items i y s → OperandStuck code (record { callback = n; cell = c }) y s → ⊥
      operand_found s stands (goes_after pace z keeps stuck) = onward y s pace z next stands keeps stuck
      operand_found s stands (keeps_stuck stuck) = by_group (group_numbered keep.group s.class.now.groups.items) refl
        where
          ready : MayKeep s keep.rest i.0 keep.group (same.0, c.0) keep.entry keep.frame
          ready = keep.may same.0 (wait_spot keep.frame) s y kept_is (ap (λ (x : Process). x.heap.frames) next.rest) stands

          number : s.actor.0 ≡ i.0
          number = ap (λ (a : ActorId). a.0) ready.standing.actor

          waiting : (group : Group) → group_numbered keep.group s.class.now.groups.items ≡ Some group → Waiting y.heap s keep.group group
          waiting group at = record {
            note = acts_then.note;
            frame = acts_then.memory;
            noted = ap (stored.thing y.heap.actors.things) number ∙ acts_then.noted;
            framed = ap (stored.thing y.heap.frames.things) number ∙ acts_then.framed;
            waits = ready.wait.last;
            of_number = at;
          }

          by_group : (g : Option Group) → group_numbered keep.group s.class.now.groups.items ≡ g → ⊥
          by_group None at =
              let a = (somewhere r program.whole acts_then.memory.class keep.frame acts_then.stands.code there).group keep.group ready.wait.fetched in
              no_group r code program y keep.rest i.0 keep.entry keep.frame acts_then s stands keep.group ready.wait.fetched a.0 a.1 at
          by_group (Some group) at =
              let first = ready.wait.first group at in
              let l = after_first in
              keeps_found r hand y.heap keep.rest s keep.group group off.holds (waiting group at) (record { callback = n; cell = c }) ready.cell (omega (arith, first, l)) ready.takeable stuck

    operand_kept : KeptStuck code i (record { callback = n; cell = c }) start → ⊥
    operand_kept (not_next none) = newest none
    operand_kept (its_next y next (nowhere none)) = not_nowhere r code program y keep.rest i.0 keep.entry keep.frame (acts_then y next) there none
    operand_kept (its_next y next (standing s stands stuck)) = operand_found y next s stands stuck

  pub kept_found : (i : ActorId) (n : ℕ) (c : CellId) → SameTask q (task.Keep i n c) o.top → StateIsNone start.heap i.0
      → ((y : Process) (s : ControlPoint) (pace : Pace) (z : Process) → TopTaken (task.Run i) start y → IsAtPoint code.classes.items i y s
      → KeepsOperand s (record { callback = n; cell = c }) y pace z → GoesStuck code pace z → ⊥)
      → KeptStuck code i (record { callback = n; cell = c }) start → ⊥
  kept_found i n c same state onward stuck = operand_kept i n c same state onward stuck
