-- Each task may be done, by what the process keeps.
use Rattle.std.proofs.Common.{◌≡◌, ◌≤◌, ℕ, suc, ◌+◌, ◌^◌, List, [], ◌∷◌, ◌++◌, length, refl, sym, ap, subst, ◌∙◌, arith}
use Rattle.std.specs.declared.option.Option.TheVariants.{Some}
use Rattle.flow_tree.specs.Tree.{TypeTree}
use Rattle.flow_value.specs.declared.value.Value.{Value}
use Rattle.flow_value.specs.declared.value.Outcome.{Outcome}
use Rattle.flow_value.specs.declared.value.Outcome.TheVariants as outcome
use Rattle.flow_value.specs.declared.value.Kind.{Kind}
use Rattle.flow_value.specs.declared.value.Kind.TheVariants as kind
use Rattle.flow_value.specs.Values.{RefValue}
use Rattle.flow_value.specs.View.{value_of, outcome_of}
use Rattle.flow_class.specs.declared.class.Slotted.{Slotted}
use Rattle.flow_class.specs.declared.class.Slotted.TheVariants.{Slot, Local}
use Rattle.flow_class.specs.Classes.{EffectInstr, NewInstr, CallbackTree, RawTree}
use Rattle.flow_class.specs.Code.{Fetched, Body, fetch}
use Rattle.flow_code.specs.declared.class.Instruction.TheVariants as instruction
use Rattle.flow_code.specs.declared.program.Code.{Code}
use Rattle.flow_code.specs.View.{aim_of}
use Rattle.flow_code.specs.Resolved.View.{nodes_of}
use Rattle.flow_numbered.specs.Numbered as stored
use Rattle.flow_trace.specs.declared.line.Line.{Line}
use Rattle.flow_cancel.specs.declared.task.Task as stack
use Rattle.flow_cancel.specs.declared.task.Task.TheVariants as task
use Rattle.flow_cancel.specs.Heap.{actor_id}
use Rattle.flow_meaning.specs.Cells.{Ref}
use Rattle.flow_meaning.specs.Requests.{Spot}
use Rattle.flow_meaning.specs.Process.{Task, Run, Give, Store, Keep, Entry, Proc}
use Rattle.flow_meaning.specs.Orderly.{NextStep, Paired, tasks_of}
use Rattle.flow_meaning.specs.Work.{pushed}
use Rattle.flow_meaning.specs.Step.{popped, on_core}
use Rattle.flow_meaning.specs.Frame.{Frame}
use Rattle.flow_meaning.proofs.Posture.{own_task}
use Rattle.flow_meaning.proofs.Shifts.{run_of, give_of, store_of, keep_of, same_of}
use Rattle.flow_meaning.proofs.TaskShifts.{popped_at}
use Rattle.flow_tree.specs.Decls.{ParamTree}
use Rattle.flow_heap_refinement.specs.Representing.{Position, here, at_wait, spot_by, wait_spot, spot_of_actor}
use Rattle.flow_heap_refinement.specs.Changes.{SameTask}
use Rattle.flow_heap_refinement.specs.Rested.{Sorted}
use Rattle.flow_heap_refinement.specs.Counted.{nothing_in_hand}
use Rattle.flow_heap_refinement.specs.FrameChanges.{HasPlace}
use Rattle.flow_progress.specs.Places.{class_vars, HoldsTypes}
use Rattle.flow_progress.specs.Fitting.{CellTypes, typed_by, Fits, OperandsFit}
use Rattle.flow_valid.specs.Named.{path_place, expr_places}
use Rattle.flow_valid.specs.Named as names
use Rattle.flow_progress.specs.Asking.{Stores, NextOperand}
use Rattle.flow_progress.specs.Rules.{KeepsRules, ClassRules, takes_type}
use Rattle.flow_progress.specs.Written.{heads}
use Rattle.flow_progress.proofs.Functions.{functions_kept}
use Rattle.flow_progress.proofs.KeptClasses.{class_rules}
use Rattle.flow_progress.proofs.Handed.{has_place}
use Rattle.flow_progress.proofs.Memories.{within_of}
use Rattle.flow_progress.proofs.StepFits.{Actor, actor_here}
use Rattle.flow_steps.specs.declared.frames.ControlPoint.{ControlPoint}
use Rattle.flow_steps.specs.declared.process.Process.{Process}
use Rattle.flow_steps.specs.Points.{IsAtPoint}
use Rattle.flow_steps.specs.Tasks.{TopTaken, Stored, IsDone}
use Rattle.flow_operation_refinement.specs.Matching.{ProcessRepresents}
use Rattle.flow_operation_refinement.specs.Placing.{Acts}
use Rattle.flow_operation_refinement.specs.Coded.{CodedBy}
use Rattle.flow_operation_refinement.specs.Taking.{PointMatches}
use Rattle.flow_operation_refinement.specs.Stepped.{TopOff, MayDo}
use Rattle.flow_operation_refinement.proofs.Doing.{top_follows}
use Rattle.flow_operation_refinement.proofs.Working.{as_many_shown}
use Rattle.flow_operation_refinement.proofs.Parting.{acts_by}
use Rattle.flow_code.specs.Coded.{coding}
use Rattle.flow_step_refinement.specs.Decoding.{AtInstruction, Rooted}
use Rattle.flow_step_refinement.specs.Giving.{MayBranch, MayStore}
use Rattle.flow_step_refinement.specs.Tasking.{MayGo, is_free, has_operands, MayGet, MayKeepOne, MayGoOn, MayBeDone}
use Rattle.flow_step_refinement.proofs.Decodes.{begins_in_code, instruction_there}
use Rattle.flow_step_refinement.proofs.Matches.{effect_aims, branch_coded}
use Rattle.flow_step_refinement.proofs.Tasks.{task_follows}
use Rattle.flow_step_refinement.specs.Effects.Texts.{EffectInstruction}
use Rattle.flow_step_refinement.proofs.Effects.Decoded.{effect_coded}
use Rattle.flow_burst_refinement.specs.Invariants.Invariant.{ProcessInvariant}
use Rattle.flow_burst_refinement.specs.Invariants.Allowed as plain
use Rattle.flow_burst_refinement.specs.Invariants.Allowed.{BetweenTasks}
use Rattle.flow_burst_refinement.proofs.Invariants.Off.{no_tasks_keep, no_run_keep, kinds_right, free_off, go_off, sound_off}
use Rattle.flow_burst_refinement.proofs.Invariants.Acting.{acts_at, stands_by, standing_there, waiting_there}
use Rattle.flow_burst_refinement.proofs.Invariants.Theres as there
use Rattle.flow_burst_refinement.proofs.Invariants.MayDo.{both_parts}
use Rattle.flow_burst_refinement.proofs.Invariants.Tasks.{task_allowed}
use Rattle.flow_burst_refinement.proofs.Enabled.Steps.{instr_named, place_there, root_listed}
use Rattle.flow_burst_refinement.specs.Enabled.Tasking as law
use Rattle.flow_burst_refinement.specs.Enabled.Tasking.{IsProgram, StateIsNone, InNoWait}

rest_is : {t u : Task} {ts us : List Task} → t ∷ ts ≡ u ∷ us → ts ≡ us
rest_is h = cc

top_is : {t u : Task} {ts us : List Task} → t ∷ ts ≡ u ∷ us → t ≡ u
top_is h = cc

-- an instruction that stores a result is no wait
at_no_wait : (r : RawTree) (f : Frame) (vars : List ParamTree) (o : Fetched) (t : TypeTree) → Stores r f.code vars o t → (spot_by f.code o).group ≡ 0
at_no_wait r f vars (Body (EffectInstr path e)) t h = refl
at_no_wait r f vars (Body (NewInstr q)) t h = refl
at_no_wait r f vars o t h = absurd h

-- the last of some operands
pub last_fits : (r : RawTree) (types : CellTypes) (f : Frame) (n : ℕ) (qs : List Ref) (q : Ref) → OperandsFit r types f n (qs ++ q ∷ [])
    → (t : TypeTree) × NextOperand f (n + length qs) t × Fits r types (RefValue q.0 q.1) t
last_fits r types f n [] q h = let z : n ≡ n + 0 = omega arith in (h.0.0, subst (λ b. NextOperand f b h.0.0) z h.0.1, h.0.2)
last_fits r types f n (x ∷ qs) q h =
    let a = last_fits r types f (suc n) qs q h.1 in
    let z : suc n + length qs ≡ n + suc (length qs) = omega arith in (a.0, subst (λ b. NextOperand f b a.0) z a.1, a.2)

abbrev kind_in : Task → Kind
kind_in (Keep i s q) = q.0
kind_in t = kind.Future

kind_is : (i k : ℕ) {x y : Kind} {s z : Spot} → Keep i s (x, k) ≡ Keep i z (y, k) → x ≡ y
kind_is i k h = ap kind_in h

pub next_is : (i : ℕ) (ts : List Task) → NextStep i ts → (rest : List Task) × (ts ≡ Run i ∷ rest)
next_is i (Run j ∷ ts) h = (ts, ap (λ n. Run n ∷ ts) (sym h))
next_is i ts h = absurd h

zero_suc : {n : ℕ} → suc n ≡ 0 → ⊥
zero_suc h = cc

module _ (r : RawTree) (code : Code) (program : IsProgram r code) (ls : List Line) (m : Process) (p : Proc Frame) (now : BetweenTasks r ls m p) where
  abbrev k : ProcessInvariant r p
  k = now.kept

  pub rules : ClassRules r (heads r)
  rules = class_rules r program.whole.valid.valid program.whole.valid.written (functions_kept r program.whole.valid.valid program.whole.valid.functions)

  abbrev code_by : CodedBy r code.classes.items
  code_by = record { names = program.coded.coded.names; class = program.coded.coded.class; are_coded = program.coded.coded.are_coded }

  module _ (t : stack.Task) (start : Process) (taken : TopTaken t m start) (o : TopOff r ls t start p) where
    abbrev q : Proc Frame
    q = popped o.below p

    -- where an actor is in no state of a wait, it stands at the instruction of its frame
    pub instruction_is : (i : ℕ) (e : Entry) (f : Frame) (s : ControlPoint) → (a : Acts r start.heap q i e f) → a.memory.state ≡ 0 → IsAtPoint code.classes.items (actor_id i) start s
        → s.instruction ≡ f.instr
    instruction_is i e f s a state stands =
        stands.stands.instruction ∙ ap (λ x. x.instruction) (same_of (sym stands.at ∙ a.framed)) ∙ by_position a.stands.position
      where
        by_position : Position a.memory f → a.memory.instruction ≡ f.instr
        by_position (here z b n) = n
        by_position (at_wait g z w) = absurd (zero_suc (sym z ∙ state))

    -- an actor that stands at no wait is in no state of one
    pub no_state : (i : ℕ) (e : Entry) (f : Frame) → (a : Acts r start.heap q i e f) → (wait_spot f).group ≡ 0 → a.memory.state ≡ 0
    no_state i e f a none = by_position a.stands.position
      where
        by_position : Position a.memory f → a.memory.state ≡ 0
        by_position (here z b n) = z
        by_position (at_wait g z w) = w ∙ none

    pub shown_off : ((z : _) (j : ℕ) → Rattle.flow_meaning.specs.References.in_task z j o.top ≡ 0) → ProcessRepresents r ls nothing_in_hand start q
    shown_off none = as_many_shown r ls _ nothing_in_hand start q (λ z j. let a = none z j in omega (arith, a)) o.shown

    -- the next step of an actor
    pub run_allowed : (i : ℕ) → o.top ≡ Run i → StateIsNone start.heap i → MayGo code r ls start q i
    run_allowed i is state = by_operands a.entry.operands refl
      where
        tops : p.core.tasks ≡ Run i ∷ o.below
        tops = o.tasks ∙ ap (λ u. u ∷ o.below) is

        a : Actor r k.types i (Run i) o.below p.core p.actors
        a = actor_here r k.types i (Run i) o.below p.core p.actors k.orderly tops (run_of i) k.fits

        none : tasks_of i o.below ≡ []
        none = (popped_at i p.core.left (Run i) o.below p.core k.orderly tops (run_of i)).rest

        acts : Acts r start.heap q i a.entry a.frame
        acts = acts_at r start.heap q i a.entry a.frame o.shown.holds.shows a.at a.stands (standing_there r k.types a.frame a.doing.1)

        zero_state : acts.memory.state ≡ 0
        zero_state = state acts.memory acts.framed

        by_operands : (qs : List Ref) → a.entry.operands ≡ qs → MayGo code r ls start q i
        by_operands [] e =
            is_free a.entry a.frame acts zero_state
            (record {
              free = free_off r p k o.top o.below o.tasks i a.entry a.at a.awake (no_tasks_keep i o.below none);
              operands = e;
              stands = λ s z. ((stands_by r code program.whole.valid program.coded start q i a.entry a.frame s acts z).standing, instruction_is i a.entry a.frame s acts zero_state z);
            })
        by_operands (x ∷ xs) e =
            let ops : OperandsFit r k.types a.frame 0 (x ∷ xs) = subst (OperandsFit r k.types a.frame 0) e a.doing.2 in
            let at = ops.0.1.there in
            has_operands a.entry a.frame (λ s z. let b = stands_by r code program.whole.valid program.coded start q i a.entry a.frame s acts z in record {
              group = ops.0.1.group;
              stood = record { shown = shown_off (λ z j. ap (Rattle.flow_meaning.specs.References.in_task z j) is); acts = acts };
              runs = zero_state;
              noted = z.stands.noted;
              standing = b.standing;
              instruction = instruction_is i a.entry a.frame s acts zero_state z;
              wait = b.waits ops.0.1.group at;
              go = go_off r p k o.top o.below o.tasks i a.entry a.at none;
              awake = a.awake;
            })

    -- a branch that was taken
    pub give_allowed : (i b : ℕ) (v : Outcome) → o.top ≡ Give i b (outcome_of v) → MayGet code r ls start q i b v
    give_allowed i b v is = by_outcome v is
      where
        with_actor : (x : _) → p.core.tasks ≡ Give i b x ∷ o.below → (e : Entry) × ((f : Frame) × (Acts r start.heap q i e f × MayBranch code r ls start q i b e f))
        with_actor x tops =
            let a = actor_here r k.types i (Give i b x) o.below p.core p.actors k.orderly tops (give_of i b x) k.fits in
            let none = (popped_at i p.core.left (Give i b x) o.below p.core k.orderly tops (give_of i b x)).rest in
            let g = a.doing.1 in
            let acts = acts_at r start.heap q i a.entry a.frame o.shown.holds.shows a.at a.stands (waiting_there r k.types a.frame g.waiting) in (
              a.entry,
              (
                a.frame,
                (
                  acts,
                  record {
                    free = free_off r p k o.top o.below o.tasks i a.entry a.at a.awake (no_tasks_keep i o.below none);
                    operands = a.doing.2;
                    group = g.waiting.group;
                    callback = g.callback;
                    fetched = g.waiting.there;
                    at = g.there;
                    stands = λ s z. (stands_by r code program.whole.valid program.coded start q i a.entry a.frame s acts z).standing;
                    same = λ s br z w.
                        branch_coded r ls start q i a.entry a.frame code.classes.items s g.waiting.group b g.callback br code_by
                        (begins_in_code r code.classes.items start q i a.entry a.frame s code_by acts z)
                        (stands_by r code program.whole.valid program.coded start q i a.entry a.frame s acts z).standing g.waiting.there g.there
                        g.waiting.holds.slots (few_places a.entry a.frame acts g.waiting.holds.locals) (λ place into. into_there a.frame g.callback g.takes g.into g.waiting.holds place into) w;
                  },
                ),
              ),
            )
          where
            few_places : (e : Entry) (f : Frame) → Acts r start.heap q i e f → length f.mem.locals ≡ length f.code.locals → length f.code.slots + length f.mem.locals ≤ 2 ^ 32
            few_places e f acts long = let x = program.few acts.memory.class f.code acts.stands.code in subst (λ n. length f.code.slots + n ≤ 2 ^ 32) (sym long) x

            into_there : (f : Frame) (c : CallbackTree) (takes : TypeTree) → takes_type f.code c.into ≡ Some takes → HoldsTypes r.records (typed_by k.types) f.code f.mem → (place : Slotted)
                → c.into ≡ Some place → HasPlace f place
            into_there f c takes e holds place into = by_place place (ap (takes_type f.code) (sym into) ∙ e)
              where
                by_place : (place : Slotted) → takes_type f.code (Some place) ≡ Some takes → HasPlace f place
                by_place (Slot n) at = within_of f.code f.mem (Slot n) takes holds.slots holds.locals at
                by_place (Local n) at = within_of f.code f.mem (Local n) takes holds.slots holds.locals at

        by_outcome : (v : Outcome) → o.top ≡ Give i b (outcome_of v) → MayGet code r ls start q i b v
        by_outcome (outcome.Value x) is = with_actor (outcome_of (outcome.Value x)) (o.tasks ∙ ap (λ u. u ∷ o.below) is)
        by_outcome (outcome.Error x) is =
            let z = with_actor (outcome_of (outcome.Error x)) (o.tasks ∙ ap (λ u. u ∷ o.below) is) in (z.0, (z.1.0, z.1.1.0))

    -- the result of an effect, which is stored where its instruction aims
    store_allowed : (i : ℕ) (v : Value) (n : Process) → o.top ≡ Store i (value_of v) → Stored code (actor_id i) v start n
        → (e : Entry) × ((f : Frame) × (Acts r start.heap q i e f × MayStore code r start q i (value_of v) e f))
    store_allowed i v n is h = (
      a.entry,
      (
        a.frame,
        (
          acts,
          record {
            free = free_off r p k o.top o.below o.tasks i a.entry a.at a.awake (no_run_keep i o.below none);
            operands = a.doing.3;
            path = text.path;
            from = text.expr;
            fetched = fetched;
            can = has_place r (heads r) (class_vars a.frame.code) (typed_by k.types) a.frame own_rules (value_of v) a.doing.2.0 text.path text.expr a.doing.1 fetched stores a.doing.2.2;
            stands = λ s z. (by_stand s z, instruction_is i a.entry a.frame s acts state z);
            aims = λ s aim eff args z at.
                effect_aims r code.classes.items code s i a.frame text.path text.expr aim eff args code_by (begins_in_code r code.classes.items start q i a.entry a.frame s code_by acts z)
                (by_stand s z) (instruction_is i a.entry a.frame s acts state z) fetched at
                program.coded.coded.are_numbers rooted;
          },
        ),
      ),
    )
      where
        tops : p.core.tasks ≡ Store i (value_of v) ∷ o.below
        tops = o.tasks ∙ ap (λ u. u ∷ o.below) is

        a : Actor r k.types i (Store i (value_of v)) o.below p.core p.actors
        a = actor_here r k.types i (Store i (value_of v)) o.below p.core p.actors k.orderly tops (store_of i (value_of v)) k.fits

        none : tasks_of i o.below ≡ Run i ∷ []
        none = (popped_at i p.core.left (Store i (value_of v)) o.below p.core k.orderly tops (store_of i (value_of v))).rest

        acts : Acts r start.heap q i a.entry a.frame
        acts = acts_at r start.heap q i a.entry a.frame o.shown.holds.shows a.at a.stands (standing_there r k.types a.frame a.doing.1)

        own_rules : KeepsRules r (heads r) a.frame.code (class_vars a.frame.code)
        own_rules = rules.classes acts.memory.class a.frame.code acts.stands.code

        state : acts.memory.state ≡ 0
        state = no_state i a.entry a.frame acts (at_no_wait r a.frame (class_vars a.frame.code) (fetch a.frame.code a.frame.block a.frame.instr) a.doing.2.0 a.doing.2.1)

        by_stand : (s : ControlPoint) → IsAtPoint code.classes.items (actor_id i) start s → PointMatches s i a.frame
        by_stand s z = (stands_by r code program.whole.valid program.coded start q i a.entry a.frame s acts z).standing

        at_text : AtInstruction (coding code_by.names code_by.class (length a.frame.code.slots)) a.frame (instruction.Effect h.aim h.effect h.args)
        at_text =
            instruction_there r code.classes.items h.stand i a.frame (instruction.Effect h.aim h.effect h.args) code_by
            (begins_in_code r code.classes.items start q i a.entry a.frame h.stand code_by acts h.stands) (by_stand h.stand h.stands)
            (instruction_is i a.entry a.frame h.stand acts state h.stands) h.at

        text : EffectInstruction r (coding code_by.names code_by.class (length a.frame.code.slots)) at_text.text (aim_of h.aim) h.effect (nodes_of h.args.items)
        text = effect_coded r (coding code_by.names code_by.class (length a.frame.code.slots)) a.frame.code at_text.text (aim_of h.aim) h.effect
            (nodes_of h.args.items) program.coded.coded.are_classes at_text.coded

        fetched : fetch a.frame.code a.frame.block a.frame.instr ≡ Body (EffectInstr text.path text.expr)
        fetched = at_text.fetched ∙ ap Body text.is

        stores : Stores r a.frame.code (class_vars a.frame.code) (Body (EffectInstr text.path text.expr)) a.doing.2.0
        stores = subst (λ x. Stores r a.frame.code (class_vars a.frame.code) x a.doing.2.0) fetched a.doing.2.1

        rooted : Rooted a.frame text.path
        rooted place root =
            let named = instr_named r program.whole.valid.valid acts.memory.class a.frame.code acts.stands.code a.frame.block a.frame.instr (EffectInstr text.path text.expr) fetched in
            place_there r.records (typed_by k.types) a.frame place a.doing.1.holds
            (root_listed a.frame.code text.path place root (both_parts (names.has_place a.frame.code) (path_place text.path) (expr_places text.expr) named).0)

    -- an operand, by an actor whose task is next
    pub keep_allowed : (i n cell : ℕ) → SameTask q (task.Keep (actor_id i) n (record { 0 = cell })) o.top → StateIsNone start.heap i → MayKeepOne code r start q i cell o.top
    keep_allowed i n cell same state = record {
      rest = rest;
      next = ap (λ ts. popped ts p) under.1;
      entry = a.entry;
      frame = a.frame;
      acts = acts_over;
      state = state acts_over.memory acts_over.framed;
      group = one.1.group;
      may = λ kd spot s other is frames z.
          let same_kind : kd ≡ same.0 = kind_is i cell (sym is ∙ same.2) in
          let here_now : IsAtPoint code.classes.items (actor_id i) start s = record { frame = z.frame; at = subst (λ x. stored.thing x.things i ≡ Some z.frame) frames z.at; stands = z.stands } in
          let b = stands_by r code program.whole.valid program.coded start q i a.entry a.frame s acts here_now in
          let c = there.operand_cell r k.types rest k.fits.cells same.0 cell one.1.callback.next one.1.takes (subst (Fits r k.types (RefValue same.0 cell)) one.1.type one.2) in
          record {
            standing = b.standing;
            wait = b.waits one.1.group one.1.there;
            go = record { agree = k.tied.agree; cells = k.fits.numbered; kinds = kinds_right r p k i a.entry a.at; keeps = no_tasks_keep i under.0 last };
            awake = a.awake;
            cell = c.cell;
            takeable = record { at = c.at; there = there.content_there r k.types rest k.fits.cells c.cell c.type c.fits };
            kind = same_kind ∙ c.kind;
          };
    }
      where
        spot : Spot
        spot = spot_of_actor p.actors i

        tops : p.core.tasks ≡ Keep i spot (same.0, cell) ∷ o.below
        tops = o.tasks ∙ ap (λ u. u ∷ o.below) same.2

        a : Actor r k.types i (Keep i spot (same.0, cell)) o.below p.core p.actors
        a = actor_here r k.types i (Keep i spot (same.0, cell)) o.below p.core p.actors k.orderly tops (keep_of i spot (same.0, cell)) k.fits

        none : tasks_of i o.below ≡ Run i ∷ []
        none = (popped_at i p.core.left (Keep i spot (same.0, cell)) o.below p.core k.orderly tops (keep_of i spot (same.0, cell))).rest

        acts : Acts r start.heap q i a.entry a.frame
        acts = acts_at r start.heap q i a.entry a.frame o.shown.holds.shows a.at a.stands (standing_there r k.types a.frame a.doing.1)

        -- its next step is under it
        under : (ts : List Task) × (o.below ≡ Run i ∷ ts)
        under = next_is i o.below (subst Paired tops k.orderly.paired).0

        rest : Proc Frame
        rest = popped under.0 p

        acts_over : Acts r start.heap (on_core (pushed (Run i)) rest) i a.entry a.frame
        acts_over = acts_by r start.heap start.heap q (on_core (pushed (Run i)) rest) i a.entry a.frame refl refl refl refl acts

        last : tasks_of i under.0 ≡ []
        last = rest_is (sym (own_task i (Run i) under.0 (run_of i)) ∙ ap (tasks_of i) (sym under.1) ∙ none)

        -- the operand is the next one of its wait
        one : (t : TypeTree) × NextOperand a.frame (0 + length a.entry.operands) t × Fits r k.types (RefValue same.0 cell) t
        one = last_fits r k.types a.frame 0 a.entry.operands (same.0, cell) a.doing.2

  -- all tasks
  module _ (start n : Process) where
    abbrev Off : stack.Task → Type 0
    Off t = (taken : TopTaken t m start) (o : TopOff r ls t start p) → InNoWait start.heap t → IsDone code t start n → MayGoOn code r ls start (popped o.below p) t o.top

    may_plainly : (t : stack.Task) → plain.IsPlain t → TopTaken t m start → (o : TopOff r ls t start p) → MayDo code r start (popped o.below p) t
    may_plainly t is taken o = (task_allowed r code (record { valid = program.whole.valid; coded = program.coded }) ls m p now t start o.top o.below taken o.tasks is).may

    may_go_on : (t : stack.Task) → Off t
    may_go_on (task.Run i) taken o state done = run_allowed (task.Run i) start taken o i.0 o.same state
    may_go_on (task.Give i b v) taken o state done = give_allowed (task.Give i b v) start taken o i.0 b v.value o.same
    may_go_on (task.Store i v) taken o state done = store_allowed (task.Store i v) start taken o i.0 v.value n o.same done
    may_go_on (task.Keep i c h) taken o state done = keep_allowed (task.Keep i c h) start taken o i.0 c h.0 o.same state
    may_go_on (task.Drop kd j) taken o state done = may_plainly (task.Drop kd j) tt taken o
    may_go_on (task.Fire j) taken o state done = may_plainly (task.Fire j) tt taken o
    may_go_on (task.Throw i e) taken o state done = may_plainly (task.Throw i e) tt taken o
    may_go_on (task.Catch i e) taken o state done = may_plainly (task.Catch i e) tt taken o
    may_go_on (task.Close i v) taken o state done = may_plainly (task.Close i v) tt taken o

  pub same_wait : (t : stack.Task) (start : Process) → TopTaken t m start → InNoWait m.heap t → InNoWait start.heap t
  same_wait (task.Run i) start taken h = subst (λ (x : Process). StateIsNone x.heap i.0) (sym taken.rest) h
  same_wait (task.Keep i c j) start taken h = subst (λ (x : Process). StateIsNone x.heap i.0) (sym taken.rest) h
  same_wait (task.Give i b v) start taken h = tt
  same_wait (task.Store i v) start taken h = tt
  same_wait (task.Drop kd j) start taken h = tt
  same_wait (task.Fire j) start taken h = tt
  same_wait (task.Throw i e) start taken h = tt
  same_wait (task.Catch i e) start taken h = tt
  same_wait (task.Close i v) start taken h = tt

  pub still_sorted : (t : stack.Task) (start : Process) → TopTaken t m start → Sorted start.heap
  still_sorted t start taken =
      let s = now.sorted in
      subst (λ (z : Process). Sorted z.heap) (sym taken.rest) (record { cells = s.cells; streams = s.streams; actors = s.actors; frames = s.frames; ports = s.ports })

  pub any_allowed : law.AnyAllowed r code program ls m p now
  any_allowed t start n u below taken top state done =
      let o = top_follows r ls m p t start now.shown taken in
      let one : MayBeDone code r ls start (popped o.below p) t o.top = record {
        sound = sound_off r p k o.top o.below o.tasks;
        sorted = still_sorted t start taken;
        may = may_go_on start n t taken o (same_wait t start taken state) done;
      } in
      let two : MayBeDone code r ls start (popped below p) t o.top = subst (λ us. MayBeDone code r ls start (popped us p) t o.top) (rest_is (sym o.tasks ∙ top)) one in
      subst (MayBeDone code r ls start (popped below p) t) (top_is (sym o.tasks ∙ top)) two

  pub any_goes : law.AnyGoes r code program ls m p now
  any_goes w t start n none taken state done =
      task_follows r ls m p code w t start n now.shown none taken (λ below u top. any_allowed t start n u below taken top state done) done
