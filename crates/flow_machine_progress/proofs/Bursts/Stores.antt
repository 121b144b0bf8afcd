-- The result of an effect is stored where the effect aims at which its actor stands.
use Rattle.std.proofs.Common.{◌≡◌, ◌⊎◌, inl, inr, ℕ, zero, suc, ◌+◌, ◌^◌, ◌≤◌, List, [], ◌∷◌, length, refl, sym, ap, ◌∙◌, subst}
use Rattle.std.specs.Prelude.{slice_get}
use Rattle.std.specs.Option.{option_map}
use Rattle.std.specs.declared.option.Option.{Option}
use Rattle.std.specs.declared.option.Option.TheVariants.{None, Some}
use Rattle.flow_base.specs.declared.ids.ActorId.{ActorId}
use Rattle.flow_ast.specs.Typing.{is_there}
use Rattle.flow_tree.specs.declared.ty.Ident.{Ident}
use Rattle.flow_tree.specs.Tree.{TypeTree, PromiseType, PromiseStreamType, VectorType, ExprTree}
use Rattle.flow_tree.specs.Decls.{RecordTree, ParamTree}
use Rattle.flow_value.specs.declared.value.Value.{Value}
use Rattle.flow_value.specs.declared.value.Kind.TheVariants as kind
use Rattle.flow_value.specs.Values.{ValueTree, IntValue, BoolValue, TextValue, VoidValue, ErrorValue, CompositeValue, RecordWhole, ListWhole, RefValue}
use Rattle.flow_value.specs.View.{value_of}
use Rattle.flow_eval.specs.Typed.{HasType}
use Rattle.flow_eval.proofs.TypedValues.{no_parts, has_parts}
use Rattle.flow_class.specs.declared.class.Slotted.{Slotted}
use Rattle.flow_class.specs.Classes.{InstrTree, EffectInstr, NewInstr, LastTree, RawTree}
use Rattle.flow_class.specs.Code.{Fetched, Body, fetch_in, fetch_at, fetch, type_at}
use Rattle.flow_valid.specs.Named.{path_place, expr_places}
use Rattle.flow_valid.specs.Named as names
use Rattle.flow_code.specs.declared.class.Instruction.{Instruction}
use Rattle.flow_code.specs.declared.class.Instruction.TheVariants as instruction
use Rattle.flow_code.specs.declared.program.Code.{Code}
use Rattle.flow_code.specs.Classes.{AimTree, EffectCode, BlockCode}
use Rattle.flow_code.specs.View.{instruction_of}
use Rattle.flow_code.specs.Coding.{coded_instruction}
use Rattle.flow_code.specs.Coded.{coding}
use Rattle.flow_code.specs.declared.class.Effect.{Effect}
use Rattle.flow_code.specs.Resolved.Tree.{Nodes}
use Rattle.flow_trace.specs.declared.line.Line.{Line}
use Rattle.flow_cancel.specs.declared.task.Task as stack
use Rattle.flow_meaning.specs.Process.{Store, Proc}
use Rattle.flow_meaning.specs.References.{Scan}
use Rattle.flow_meaning.specs.Step.{popped}
use Rattle.flow_meaning.specs.Frame.{Frame}
use Rattle.flow_meaning.proofs.Shifts.{store_of}
use Rattle.flow_heap_refinement.specs.Representing.{spot_by}
use Rattle.flow_heap_refinement.specs.Counted.{nothing_in_hand}
use Rattle.flow_progress.specs.Asking.{Stores}
use Rattle.flow_progress.specs.Rules.{KeepsRules}
use Rattle.flow_progress.specs.Places.{class_vars}
use Rattle.flow_progress.specs.Written.{heads}
use Rattle.flow_progress.specs.Fitting.{typed_by}
use Rattle.flow_progress.proofs.Handed.{has_place}
use Rattle.flow_progress.proofs.StepFits.{Actor, actor_here}
use Rattle.flow_steps.specs.declared.frames.ControlPoint.{ControlPoint}
use Rattle.flow_steps.specs.declared.process.Process.{Process}
use Rattle.flow_steps.specs.Points.{IsAtPoint}
use Rattle.flow_steps.specs.Tasks.{TopTaken}
use Rattle.flow_steps.specs.StuckTasks.{nowhere, standing, NoEffect, EffectAimsStuck, no_instruction, no_effect_at, aims_nowhere, StoredStuck}
use Rattle.flow_operation_refinement.specs.Matching.{with_task}
use Rattle.flow_operation_refinement.specs.Placing.{Acts, RepresentsActor}
use Rattle.flow_operation_refinement.specs.Stepped.{TopOff}
use Rattle.flow_operation_refinement.proofs.Stands.{both_mapped}
use Rattle.flow_step_refinement.specs.Assigning.{AimsAt, CanAssign}
use Rattle.flow_step_refinement.specs.Decoding.{AtInstruction, Rooted, CodedFrom, from_set, from_effect, from_new, from_vector, from_act, from_method, from_drop, from_none}
use Rattle.flow_step_refinement.specs.Executing.{coded_by}
use Rattle.flow_step_refinement.proofs.Decodes.{instruction_there}
use Rattle.flow_step_refinement.proofs.Froms.{instruction_from}
use Rattle.flow_step_refinement.proofs.Matches.{effect_aims}
use Rattle.flow_burst_refinement.specs.Invariants.Invariant.{ProcessInvariant}
use Rattle.flow_burst_refinement.specs.Invariants.Allowed.{BetweenTasks}
use Rattle.flow_burst_refinement.proofs.Invariants.Acting.{acts_at, by_code, stands_by, standing_there}
use Rattle.flow_burst_refinement.proofs.Invariants.MayDo.{both_parts}
use Rattle.flow_burst_refinement.specs.Enabled.Tasking.{IsProgram}
use Rattle.flow_burst_refinement.proofs.Enabled.Steps.{instr_named, place_there, root_listed}
use Rattle.flow_burst_refinement.proofs.Enabled.Tasks.{rules, instruction_is, no_state}
use Rattle.flow_machine_progress.specs.Stores.{NoPromise}
use Rattle.flow_machine_progress.proofs.Actors.Aims.{aims_there}
use Rattle.flow_machine_progress.proofs.Actors.Parts.{always_coded}
use Rattle.flow_machine_progress.proofs.Bursts.Begins.{its_code, not_nowhere, in_code, stand_is}

-- the types of what is put in place at once: of promises and of vectors
abbrev MadeAtOnce : TypeTree → TypeTree → Type 0
MadeAtOnce t u = (t ≡ PromiseType u) ⊎ ((t ≡ PromiseStreamType u) ⊎ (t ≡ VectorType u))

-- what has such a type is a promise or a vector
promised : (rs : List RecordTree) (typed : ℕ → TypeTree → Type 0) (v : ValueTree) (t u : TypeTree) → MadeAtOnce t u → HasType rs typed v t → NoPromise v → ⊥
promised rs typed (IntValue n) t u (inl e) h none = cc (e, h)
promised rs typed (IntValue n) t u (inr (inl e)) h none = cc (e, h)
promised rs typed (IntValue n) t u (inr (inr e)) h none = cc (e, h)
promised rs typed (BoolValue n) t u (inl e) h none = cc (e, h)
promised rs typed (BoolValue n) t u (inr (inl e)) h none = cc (e, h)
promised rs typed (BoolValue n) t u (inr (inr e)) h none = cc (e, h)
promised rs typed (TextValue n) t u (inl e) h none = cc (e, h)
promised rs typed (TextValue n) t u (inr (inl e)) h none = cc (e, h)
promised rs typed (TextValue n) t u (inr (inr e)) h none = cc (e, h)
promised rs typed VoidValue t u (inl e) h none = cc (e, h)
promised rs typed VoidValue t u (inr (inl e)) h none = cc (e, h)
promised rs typed VoidValue t u (inr (inr e)) h none = cc (e, h)
promised rs typed (ErrorValue n) t u (inl e) h none = cc (e, h)
promised rs typed (ErrorValue n) t u (inr (inl e)) h none = cc (e, h)
promised rs typed (ErrorValue n) t u (inr (inr e)) h none = cc (e, h)
promised rs typed (CompositeValue ListWhole vs) t u e h none = none
promised rs typed (CompositeValue (RecordWhole k) vs) t u (inl e) h none = no_parts rs (RecordWhole k) t h.0 (ap has_parts e) h.1
promised rs typed (CompositeValue (RecordWhole k) vs) t u (inr (inl e)) h none = no_parts rs (RecordWhole k) t h.0 (ap has_parts e) h.1
promised rs typed (CompositeValue (RecordWhole k) vs) t u (inr (inr e)) h none = let a = h.1.named in cc (e, a)
promised rs typed (RefValue kind.Promise k) t u e h none = none
promised rs typed (RefValue kind.PromiseStream k) t u e h none = none
promised rs typed (RefValue kind.Future k) t u (inl e) h none = let a = h.1 in cc (e, a)
promised rs typed (RefValue kind.Future k) t u (inr (inl e)) h none = let a = h.1 in cc (e, a)
promised rs typed (RefValue kind.Future k) t u (inr (inr e)) h none = let a = h.1 in cc (e, a)
promised rs typed (RefValue kind.FutureStream k) t u (inl e) h none = let a = h.1 in cc (e, a)
promised rs typed (RefValue kind.FutureStream k) t u (inr (inl e)) h none = let a = h.1 in cc (e, a)
promised rs typed (RefValue kind.FutureStream k) t u (inr (inr e)) h none = let a = h.1 in cc (e, a)

-- so what is none is stored by an effect
pub record AtEffect (o : Fetched) : Type 0 where
  pub path : List Ident
  pub expr : ExprTree
  pub is : o ≡ Body (EffectInstr path expr)

at_effect : (r : RawTree) (f : Frame) (vars : List ParamTree) (typed : ℕ → TypeTree → Type 0) (v : ValueTree) (o : Fetched) (t : TypeTree) → Stores r f.code vars o t → HasType r.records typed v t
    → NoPromise v
    → ((q : Slotted) → o ≡ Body (NewInstr q) → (s : TypeTree) × (type_at f.code q ≡ Some s) × ((u : TypeTree) × MadeAtOnce s u)) → AtEffect o
at_effect r f vars typed v (Body (EffectInstr path e)) t h fits none news = record { path = path; expr = e; is = refl }
at_effect r f vars typed v (Body (NewInstr q)) t h fits none news =
    let a = news q refl in
    let same : t ≡ a.0 = let b = a.1 in cc (h, b) in
    absurd (promised r.records typed v a.0 a.2.0 a.2.1 (subst (HasType r.records typed v) same fits) none)
at_effect r f vars typed v o t h fits none news = absurd h

-- what stands in a body
body_at : (is : List InstrTree) (l : LastTree) (n : ℕ) (t : InstrTree) → fetch_in is l n ≡ Body t → slice_get is n ≡ Some t
body_at [] l zero t e = absurd (cc (e))
body_at [] l (suc n) t e = absurd (cc (e))
body_at (i ∷ is) l zero t e = let s : i ≡ t = cc (e) in ap Some s
body_at (i ∷ is) l (suc n) t e = body_at is l n t e

some_mapped : {A B : Type 0} (g : A → B) (o : Option A) (a : A) → None ≡ option_map g o → o ≡ Some a → ⊥
some_mapped g None a e is = cc (is)
some_mapped g (Some b) a e is = cc (e)

-- an instruction that is coded as an effect is one
is_effect : (x : Instruction) (a : AimTree) (g : Effect) (args : Nodes) → instruction_of x ≡ EffectCode a g args → NoEffect x → ⊥
is_effect (instruction.Effect aim e args) a g ns same none = none aim e args refl
is_effect (instruction.Set aim e) a g ns same none = cc (same)
is_effect (instruction.New place kd) a g ns same none = cc (same)
is_effect (instruction.Act called args) a g ns same none = cc (same)
is_effect (instruction.Method aim m args) a g ns same none = cc (same)
is_effect (instruction.Drop places) a g ns same none = cc (same)
is_effect instruction.Invalid a g ns same none = cc (same)

module _ (r : RawTree) (code : Code) (program : IsProgram r code) (ls : List Line) (m : Process) (p : Proc Frame) (now : BetweenTasks r ls m p) (t : stack.Task) (start : Process)
    (taken : TopTaken t m start) (o : TopOff r ls t start p) where
  abbrev k : ProcessInvariant r p
  k = now.kept

  abbrev q : Proc Frame
  q = popped o.below p

  abbrev hand : Scan
  hand = with_task o.top nothing_in_hand

  module _ (i : ActorId) (v : Value) (is : o.top ≡ Store i.0 (value_of v)) (no_promise : NoPromise (value_of v)) where
    a : Actor r k.types i.0 (Store i.0 (value_of v)) o.below p.core p.actors
    a =
        actor_here r k.types i.0 (Store i.0 (value_of v)) o.below p.core p.actors k.orderly (o.tasks ∙ ap (λ u. u ∷ o.below) is) (store_of i.0 (value_of v)) k.fits

    abbrev f : Frame
    f = a.frame

    acts : Acts r start.heap q i.0 a.entry f
    acts = acts_at r start.heap q i.0 a.entry f o.shown.holds.shows a.at a.stands (standing_there r k.types f a.doing.1)

    st : RepresentsActor r ls hand start q i.0 a.entry f
    st = record { shown = o.shown; acts = acts }

    own_rules : KeepsRules r (heads r) f.code (class_vars f.code)
    own_rules = (rules r code program ls m p now).classes acts.memory.class f.code acts.stands.code

    effect : AtEffect (fetch f.code f.block f.instr)
    effect =
        at_effect r f (class_vars f.code) (typed_by k.types) (value_of v) (fetch f.code f.block f.instr) a.doing.2.0 a.doing.2.1 a.doing.2.2 no_promise
        (λ place at. own_rules.instructions f.block f.instr (NewInstr place) at)

    stores : Stores r f.code (class_vars f.code) (Body (EffectInstr effect.path effect.expr)) a.doing.2.0
    stores = subst (λ x. Stores r f.code (class_vars f.code) x a.doing.2.0) effect.is a.doing.2.1

    can : CanAssign r.records f effect.path (value_of v)
    can =
        has_place r (heads r) (class_vars f.code) (typed_by k.types) f own_rules (value_of v) a.doing.2.0 effect.path effect.expr a.doing.1 effect.is stores a.doing.2.2

    state : acts.memory.state ≡ 0
    state = no_state r code program ls m p now t start taken o i.0 a.entry f acts (ap (λ x. (spot_by f.code x).group) effect.is)

    rooted : Rooted f effect.path
    rooted place root =
        let named = instr_named r program.whole.valid.valid acts.memory.class f.code acts.stands.code f.block f.instr (EffectInstr effect.path effect.expr) effect.is in
        place_there r.records (typed_by k.types) f place a.doing.1.holds
        (root_listed f.code effect.path place root (both_parts (names.has_place f.code) (path_place effect.path) (expr_places effect.expr) named).0)

    few : length f.code.slots + length f.mem.locals ≤ 2 ^ 32
    few = subst (λ n. length f.code.slots + n ≤ 2 ^ 32) (sym a.doing.1.holds.locals) (program.few acts.memory.class f.code acts.stands.code)

    module _ (s : ControlPoint) (stands : IsAtPoint code.classes.items i start s) where
      number : s.instruction ≡ f.instr
      number = instruction_is r code program ls m p now t start taken o i.0 a.entry f s acts state stands

      -- it stands at an instruction
      something : slice_get s.block.now.body.items s.instruction ≡ None → ⊥
      something none =
          let c = by_code r code program.whole.valid program.coded in
          let coded = coded_instruction (coding c.names c.class (length f.code.slots)) f.code in
          let b = stands_by r code program.whole.valid program.coded start q i.0 a.entry f s acts stands in
          let body = both_mapped instruction_of coded s.block.now.body.items b.block.body s.instruction (ap (λ (x : BlockCode). x.body) b.same) in
          let here = sym (ap (λ x. fetch_at x f.instr) b.there) ∙ effect.is in
          some_mapped coded (slice_get b.block.body s.instruction) (EffectInstr effect.path effect.expr)
          (sym (ap (option_map instruction_of) none) ∙ body) (ap (slice_get b.block.body) number ∙ body_at b.block.body b.block.last f.instr (EffectInstr effect.path effect.expr) here)

      at : (x : Instruction) → slice_get s.block.now.body.items s.instruction ≡ Some x → AtInstruction (its_code r code program start q i.0 a.entry f acts) f x
      at x there =
          instruction_there r code.classes.items s i.0 f x (coded_by program.coded) (in_code r code program start q i.0 a.entry f acts s stands)
          (stand_is r code program start q i.0 a.entry f acts s stands) number there

      -- which is an effect
      some_effect : (x : Instruction) → slice_get s.block.now.body.items s.instruction ≡ Some x → NoEffect x → ⊥
      some_effect x there none =
          by_from (subst (CodedFrom (its_code r code program start q i.0 a.entry f acts) f.code here.text) (sym here.coded)
          (instruction_from (its_code r code program start q i.0 a.entry f acts) f.code here.text))
        where
          here : AtInstruction (its_code r code program start q i.0 a.entry f acts) f x
          here = at x there

          text : here.text ≡ EffectInstr effect.path effect.expr
          text = let b = here.fetched in let c = effect.is in cc (b, c)

          by_from : CodedFrom (its_code r code program start q i.0 a.entry f acts) f.code here.text (instruction_of x) → ⊥
          by_from (from_effect xs e aim g b aims eff same) = is_effect x aim g.0 g.1 same none
          by_from (from_none same) =
              always_coded r code f own_rules (λ place ty is. place_there r.records (typed_by k.types) f place a.doing.1.holds (ap is_there is)) a.doing.1.holds.slots program.coded few here.text
              here.fetched (sym same ∙ here.coded)
          by_from (from_set xs e aim b aims same) = cc (b, text)
          by_from (from_new place n u kd b placed typed kind_is same) = cc (b, text)
          by_from (from_vector place n u b placed typed same) = cc (b, text)
          by_from (from_act g es called b named same) = cc (b, text)
          by_from (from_method y z zs es aim g b aims named same) = cc (b, text)
          by_from (from_drop ns b same) = cc (b, text)

      -- that aims somewhere
      stored_there : EffectAimsStuck code i start s → ⊥
      stored_there (no_instruction none) = something none
      stored_there (no_effect_at x there none) = some_effect x there none
      stored_there (aims_nowhere x aim there to stuck) =
          let aims : AimsAt r.records code f effect.path aim =
          effect_aims r code.classes.items code s i.0 f effect.path effect.expr aim to.effect to.args (coded_by program.coded)
          (in_code r code program start q i.0 a.entry f acts s stands) (stand_is r code program start q i.0 a.entry f acts s stands) number effect.is (there ∙ ap Some to.is)
          program.coded.coded.are_numbers rooted in
          aims_there r ls hand start q i.0 a.entry f st code effect.path aim (value_of v) aims can stuck

    value_stored : StoredStuck code i start → ⊥
    value_stored (nowhere none) = not_nowhere r code program start q i.0 a.entry f acts (standing_there r k.types f a.doing.1) none
    value_stored (standing s stands stuck) = stored_there s stands stuck

  pub stored_found : (i : ActorId) (v : Value) → o.top ≡ Store i.0 (value_of v) → NoPromise (value_of v) → StoredStuck code i start → ⊥
  stored_found i v is no_promise stuck = value_stored i v is no_promise stuck
