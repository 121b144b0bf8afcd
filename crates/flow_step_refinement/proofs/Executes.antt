-- A step of an actor in memory by an instruction that asks nothing of the world is a row of steps of the class machine.
use Rattle.std.proofs.Common.{◌≡◌, ◌⊎◌, inl, inr, ℕ, ◌+◌, pos, false, List, [], ◌∷◌, length, map, refl, sym, ap, ◌∙◌, subst, Bool, true, ◌≤◌, ◌^◌, nat_lt, if◌then◌else◌, arith, ◌<◌}
use Rattle.std.specs.Prelude.{slice_get}
use Rattle.std.specs.declared.option.Option.{Option}
use Rattle.std.specs.declared.option.Option.TheVariants.{None, Some}
use Rattle.std.specs.declared.vec.Vec.{Vec}
use Rattle.std.specs.declared.alloc.Global.{Global}
use Rattle.std.proofs.lemmas.Bool.Decides.{nat_tests}
use Rattle.flow_base.specs.declared.ids.ActorId.{ActorId}
use Rattle.flow_ast.specs.declared.predefined.Predefined.{Predefined}
use Rattle.flow_ast.specs.TypingNames.{named, call_names, method_names}
use Rattle.flow_ast.specs.declared.predefined.Method.{Method}
use Rattle.flow_tree.specs.Tree.{ExprTree, ExprTrees, NoExprs, MoreExprs}
use Rattle.flow_tree.specs.declared.ty.Ident.{Ident}
use Rattle.flow_tree.specs.Canon.{first_place}
use Rattle.flow_value.specs.declared.value.Kind.{Kind}
use Rattle.flow_value.specs.View.{value_of}
use Rattle.flow_eval.specs.Functions.{routine_at}
use Rattle.flow_code.specs.declared.expr.expr.Resolved.{Resolved}
use Rattle.flow_code.specs.Resolved.View.{node_of, nodes_of}
use Rattle.flow_code.specs.Resolved.Evaluation.{value_at, values_at}
use Rattle.flow_code.specs.Resolved.Resolving.{resolved, resolved_all}
use Rattle.flow_class.specs.Classes.{InstrTree, SetInstr, NewInstr, ActInstr, DropInstr, RawTree}
use Rattle.flow_class.specs.Code.{Body, fetch}
use Rattle.flow_class.proofs.Numbers.{IsSmall, place_back}
use Rattle.flow_class.specs.declared.class.Slotted.{Slotted}
use Rattle.flow_class.specs.declared.class.Slotted.TheVariants.{Slot, Local}
use Rattle.flow_class.specs.Places.{place_name}
use Rattle.flow_code.specs.declared.class.Act.TheVariants as act
use Rattle.flow_code.specs.declared.class.Aim.{Aim}
use Rattle.flow_code.specs.declared.class.Instruction.{Instruction}
use Rattle.flow_code.specs.declared.class.Instruction.TheVariants as instruction
use Rattle.flow_code.specs.declared.program.Code.{Code}
use Rattle.flow_code.specs.Classes.{SetCode, NewCode, ActCode, DropCode, AimTree, InstructionTree, MethodCode}
use Rattle.flow_code.specs.View.{aim_of}
use Rattle.flow_code.specs.Coding.{Coding, act_named, aimed, coded_instruction}
use Rattle.flow_code.specs.Coded.{coding}
use Rattle.flow_code.specs.Places.{place_of}
use Rattle.flow_code.specs.Resolved.Tree.{EmptyNode}
use Rattle.flow_trace.specs.declared.line.Line.{Line}
use Rattle.flow_meaning.specs.Requests.{Supply}
use Rattle.flow_meaning.specs.Evaluating.{value, values, Change, change_by, before_last, last_of}
use Rattle.flow_meaning.specs.Process.{Run, Entry, Proc}
use Rattle.flow_meaning.specs.References.{Scan}
use Rattle.flow_meaning.specs.Work.{pushed}
use Rattle.flow_meaning.specs.Step.{view, on_core}
use Rattle.flow_meaning.specs.Class.{class_names}
use Rattle.flow_meaning.specs.Frame.{Frame, look}
use Rattle.flow_heap_refinement.specs.Acting.{put_frame}
use Rattle.flow_heap_refinement.specs.FrameChanges.{number_in}
use Rattle.flow_steps.specs.declared.frames.ControlPoint.{ControlPoint}
use Rattle.flow_steps.specs.declared.next.Pace.{Pace}
use Rattle.flow_steps.specs.declared.next.Pace.TheVariants.{On}
use Rattle.flow_steps.specs.declared.process.Process.{Process}
use Rattle.flow_steps.specs.Holding.{on_heap}
use Rattle.flow_steps.specs.Acting.{args_of}
use Rattle.flow_steps.specs.Evaluating.{sight_in, program_time, Evaluates}
use Rattle.flow_steps.specs.Points.{next_stand, places_taken, places_emptied}
use Rattle.flow_steps.specs.Stepping.{OnAfter, value_for, values_for, IsAct, IsNew, Does, MethodStep, IsMethodBy, IsSet}
use Rattle.flow_operation_refinement.specs.Continuing.{stale, MayBeStale}
use Rattle.flow_operation_refinement.specs.Carried.{StepsAs}
use Rattle.flow_operation_refinement.specs.Coded.{CodedBy}
use Rattle.flow_operation_refinement.proofs.Seen.{expr_follows}
use Rattle.flow_operation_refinement.proofs.Arguments.{same_setting, args_follow}
use Rattle.flow_operation_refinement.proofs.Carrying.{drop_step}
use Rattle.flow_step_refinement.specs.Continuing.{GoesBy}
use Rattle.flow_step_refinement.specs.Decoding.{AtInstruction, CodedFrom, from_set, from_effect, from_new, from_act, from_method, from_drop, from_none, from_vector}
use Rattle.flow_step_refinement.specs.Executing.{MayDoNext, coded_by, InProgram, Asks, by_effect, by_act, by_method, by_start}
use Rattle.flow_step_refinement.proofs.Onward.{one_step}
use Rattle.flow_step_refinement.proofs.Assigns.{set_step, new_step, empty_step}
use Rattle.flow_step_refinement.proofs.Calls.{function_step}
use Rattle.flow_step_refinement.proofs.Decodes.{placed, the_instruction, aim_there}
use Rattle.flow_step_refinement.proofs.Froms.{instruction_from}
use Rattle.flow_step_refinement.proofs.Changes.{change_alone, change_with}
use Rattle.flow_step_refinement.proofs.Effects.Decoded.{method_coded}

-- a call statement of a plain function
pub function_is : (o : Option Predefined) (k class : Option ℕ) (n : ℕ) → act_named o k class ≡ Some (act.Function n) → (o ≡ None) × (k ≡ Some n)
function_is (Some p) k class n e = absurd (cc (e))
function_is None None None n e = absurd (cc (e))
function_is None None (Some c) n e = absurd (cc (e))
function_is None (Some j) class n e = let same : j ≡ n = cc (e) in (refl, ap (λ y. Some y) same)

-- where an assignment of the code aims
abbrev set_aim : InstructionTree → AimTree
set_aim (SetCode a e) = a
set_aim _ = record { place = 0; path = [] }

-- a place of a frame has a name
is_small : (slots : ℕ) (q : Slotted) (n : ℕ) → slots ≤ 2 ^ 32 → place_of slots q ≡ Some n → IsSmall q
is_small slots (Slot k) n few e = by_test (nat_lt k slots) refl e
  where
    by_test : (t : Bool) → nat_lt k slots ≡ t → (if t then Some k else None) ≡ Some n → k < 2 ^ 64
    by_test true less h = grind (arith, nat_tests, few, less)
    by_test false less h = absurd (cc (h))
is_small slots (Local k) n few e = by_test (nat_lt (slots + k) (2 ^ 32)) refl e
  where
    by_test : (t : Bool) → nat_lt (slots + k) (2 ^ 32) ≡ t → (if t then Some (slots + k) else None) ≡ Some n → k < 2 ^ 64
    by_test true less h = grind (arith, nat_tests, less)
    by_test false less h = absurd (cc (h))

module _ (r : RawTree) (ls : List Line) (m : Process) (p : Proc Frame) (i : ℕ) (e : Entry) (f : Frame) (x : Scan) (s : ControlPoint) (w : Supply) (code : Code)
    (st : MayBeStale r ls x s m p i e f) (inp : InProgram r code s f) (time : program_time m.time ≡ pos w.now) where
  abbrev pub by : CodedBy r code.classes.items
  by = coded_by inp.program

  abbrev pub coding_now : Coding
  coding_now = coding by.names by.class (length f.code.slots)

  abbrev row : Pace → Process → Type 0
  row pace n = GoesBy r ls x w i e.class (on_core (pushed (Run i)) p) pace n

  -- an expression in memory, and arguments
  pub value_is : (t : ExprTree) (res : Resolved) → node_of res ≡ resolved coding_now.names t → value_for code s.actor.0 res m ≡ value (class_names r) (view w i p.core) (look f.mem) t
  value_is t res same =
      ap (λ (a : ActorId). value_at (sight_in code a.0 m) (node_of res) m.left) st.standing.actor
      ∙ ap (λ k. value_at (sight_in code i m) k m.left) same
      ∙ expr_follows r ls x m (put_frame i (stale st.block st.instr st.state f) p) i e (stale st.block st.instr st.state f) code w t st.stood inp.program time inp.few

  values_are : (es : ExprTrees) (rs : List Resolved) → nodes_of rs ≡ resolved_all coding_now.names es → values_for code s.actor.0 rs m ≡ values (class_names r) (view w i p.core) (look f.mem) es
  values_are es rs same =
      ap (λ (a : ActorId). values_at (sight_in code a.0 m) (nodes_of rs) m.left) st.standing.actor
      ∙ ap (λ k. values_at (sight_in code i m) k m.left) same
      ∙ args_follow r ls x m (put_frame i (stale st.block st.instr st.state f) p) i e (stale st.block st.instr st.state f) code w st.stood inp.program time inp.few es

  module _ (pace : Pace) (n : Process) (later : (t : ControlPoint) → pace ≡ On t → t.noted ≡ false) where
    one : StepsAs r ls x w p i e pace n → row pace n
    one steps = one_step r ls x w p i e pace n later steps

    -- by what it is coded from
    sets : (aim : Aim) (res : Resolved) (text : InstrTree) → fetch f.code f.block f.instr ≡ Body text → MayDoNext r w p i e f (fetch f.code f.block f.instr)
        → CodedFrom coding_now f.code text (SetCode (aim_of aim) (node_of res))
        → Does code s (instruction.Set aim res) m pace n → row pace n
    sets aim res text there may (from_set xs t a is aims same) does =
        let fetched : fetch f.code f.block f.instr ≡ Body (SetInstr xs t) = there ∙ ap Body is in
        let fits = subst (MayDoNext r w p i e f) fetched may in
        let place : a ≡ aim_of aim = cc (same) in
        let node : node_of res ≡ resolved coding_now.names t = cc (same) in
        let v = value_is t res node in
        one (set_step r ls m p i e f x s w code xs t aim (value_for code s.actor.0 res m) pace n st fetched v
        (λ u left done. fits.there u left (sym v ∙ done))
        (aim_there r code.classes.items code f xs aim by inp.program.coded.are_numbers fits.rooted (aims ∙ ap (λ y. Some y) place))
        (λ u left done. fits.can u left (sym v ∙ done)) does)
    sets aim res text there may (from_effect xs t a g is aims eff same) does = absurd (cc (same))
    sets aim res text there may (from_new q k u kd is place typed kind same) does = absurd (cc (same))
    sets aim res text there may (from_vector q k u is placed_at typed same) does =
        let fetched : fetch f.code f.block f.instr ≡ Body (NewInstr q) = there ∙ ap Body is in
        let fits = subst (MayDoNext r w p i e f) fetched may in
        let place : aim.place ≡ k = ap (λ o. (set_aim o).place) same in
        let path : aim.path.items ≡ [] = ap (λ o. (set_aim o).path) same in
        let node : node_of res ≡ EmptyNode = cc (same) in
        let name : Ident = record { name = place_name q; at = first_place } in
        let named = place_back q (is_small (length f.code.slots) q k (let a = inp.few in omega (arith, a)) placed_at) in
        one (empty_step r ls m p i e f x s w code q u name aim pace n st fetched typed named
        (record {
          name = name;
          fields = [];
          place = q;
          field = by.names.field;
          names = refl;
          named = named;
          has = fits.0;
          number = place ∙ placed (length f.code.slots) q k placed_at;
          numbering = inp.program.coded.are_numbers;
          numbers = ap (λ l. Some l) (sym path);
        })
        (subst (λ o. Evaluates s value_of o m (IsSet code s aim) pace n) (ap (λ o. value_at (sight_in code s.actor.0 m) o m.left) node) does))
    sets aim res text there may (from_act g es a is named_ same) does = absurd (cc (same))
    sets aim res text there may (from_method y z zs es a g is aims named_ same) does = absurd (cc (same))
    sets aim res text there may (from_drop ns is same) does = absurd (cc (same))
    sets aim res text there may (from_none same) does = absurd (cc (same))

    makes : (place : ℕ) (kd : Kind) (text : InstrTree) → fetch f.code f.block f.instr ≡ Body text → MayDoNext r w p i e f (fetch f.code f.block f.instr)
        → CodedFrom coding_now f.code text (NewCode place kd)
        → IsNew s place kd m pace n → row pace n
    makes place kd text there may (from_new q k u kq is placed_at typed kind same) does =
        let fetched : fetch f.code f.block f.instr ≡ Body (NewInstr q) = there ∙ ap Body is in
        let fits = subst (MayDoNext r w p i e f) fetched may in
        let number : place ≡ k = cc (same) in
        let kind_is : kq ≡ kd = cc (same) in
        let here : place ≡ number_in (length f.code.slots) q = number ∙ placed (length f.code.slots) q k placed_at in
        new_step r ls m p i e f x s w q u kd pace n st fetched fits.0 typed (kind ∙ ap (λ y. Some y) kind_is) fits.1
        (subst (λ y. IsNew s y kd m pace n) here does)
    makes place kd text there may (from_set xs t a is aims same) does = absurd (cc (same))
    makes place kd text there may (from_effect xs t a g is aims eff same) does = absurd (cc (same))
    makes place kd text there may (from_vector q k u is placed_at typed same) does = absurd (cc (same))
    makes place kd text there may (from_act g es a is named_ same) does = absurd (cc (same))
    makes place kd text there may (from_method y z zs es a g is aims named_ same) does = absurd (cc (same))
    makes place kd text there may (from_drop ns is same) does = absurd (cc (same))
    makes place kd text there may (from_none same) does = absurd (cc (same))

    calls : (k : ℕ) (args : List Resolved) (text : InstrTree) → fetch f.code f.block f.instr ≡ Body text → CodedFrom coding_now f.code text (ActCode (act.Function k) (nodes_of args))
        → Evaluates s args_of (values_for code s.actor.0 args m) m (IsAct code s (act.Function k)) pace n → row pace n
    calls k args text there (from_act g es a is named_ same) does =
        let fetched : fetch f.code f.block f.instr ≡ Body (ActInstr (g ∷ []) es) = there ∙ ap Body is in
        let act_is : a ≡ act.Function k = cc (same) in
        let nodes : nodes_of args ≡ resolved_all coding_now.names es = cc (same) in
        let own = function_is (named call_names g.name) (by.names.function g.name) (by.class g.name) k (named_ ∙ ap (λ y. Some y) act_is) in
        one (function_step r ls m p i e f x s w code g es k (values_for code s.actor.0 args m) pace n st fetched
        (record {
          own = own.0;
          same = (inp.program.coded.are_functions g.name).0 ∙ ap (routine_at r.functions) own.1;
        })
        (same_setting r ls x m (put_frame i (stale st.block st.instr st.state f) p) i e (stale st.block st.instr st.state f) code w st.stood inp.program time)
        (values_are es args nodes) does)
    calls k args text there (from_set xs t a is aims same) does = absurd (cc (same))
    calls k args text there (from_effect xs t a g is aims eff same) does = absurd (cc (same))
    calls k args text there (from_new q j u kq is placed_at typed kind same) does = absurd (cc (same))
    calls k args text there (from_vector q j u is placed_at typed same) does = absurd (cc (same))
    calls k args text there (from_method y z zs es a g is aims named_ same) does = absurd (cc (same))
    calls k args text there (from_drop ns is same) does = absurd (cc (same))
    calls k args text there (from_none same) does = absurd (cc (same))

    drops : (places : List ℕ) (text : InstrTree) → fetch f.code f.block f.instr ≡ Body text → MayDoNext r w p i e f (fetch f.code f.block f.instr) → CodedFrom coding_now f.code text (DropCode places)
        → OnAfter (next_stand s) (places_taken s.actor.0 places m.heap) (on_heap (places_emptied s.actor.0 places) m) pace n → row pace n
    drops places text there may (from_drop ns is same) does =
        let fetched : fetch f.code f.block f.instr ≡ Body (DropInstr ns) = there ∙ ap Body is in
        let fits = subst (MayDoNext r w p i e f) fetched may in
        let locals : places ≡ map (λ k. length f.code.slots + k) ns = cc (same) in
        one (drop_step r ls m p i e f x s w ns pace n st fits fetched
        (subst (λ l. OnAfter (next_stand s) (places_taken i l m.heap) (on_heap (places_emptied i l) m) pace n) locals
        (subst (λ (a : ActorId). OnAfter (next_stand s) (places_taken a.0 places m.heap) (on_heap (places_emptied a.0 places) m) pace n) st.standing.actor does)))
    drops places text there may (from_set xs t a is aims same) does = absurd (cc (same))
    drops places text there may (from_effect xs t a g is aims eff same) does = absurd (cc (same))
    drops places text there may (from_new q j u kq is placed_at typed kind same) does = absurd (cc (same))
    drops places text there may (from_vector q j u is placed_at typed same) does = absurd (cc (same))
    drops places text there may (from_act g es a is named_ same) does = absurd (cc (same))
    drops places text there may (from_method y z zs es a g is aims named_ same) does = absurd (cc (same))
    drops places text there may (from_none same) does = absurd (cc (same))

    -- a change of a vector
    changes : (aim : Aim) (g : Method) (args : Vec Resolved Global) (how : Change) (text : InstrTree) → fetch f.code f.block f.instr ≡ Body text
        → MayDoNext r w p i e f (fetch f.code f.block f.instr)
        → MethodCode (aim_of aim) g (nodes_of args.items) ≡ coded_instruction coding_now f.code text → change_by (Some g) ≡ Some how
        → MethodStep code s aim g args.items m pace n → row pace n
    changes aim g args how text there may coded by_how does =
        let of = method_coded coding_now f.code text (aim_of aim) g (nodes_of args.items) coded in
        by_args of.root of.second of.others args.items of.exprs of.resolved (there ∙ ap Body of.is) of.named of.aims does
      where
        by_args : (y z : Ident) (ys : List Ident) (items : List Resolved) (es : ExprTrees) → nodes_of items ≡ resolved_all coding_now.names es
            → fetch f.code f.block f.instr ≡ Body (ActInstr (y ∷ z ∷ ys) es) → named method_names (last_of z ys).name ≡ Some g
            → aimed coding_now (y ∷ before_last z ys) ≡ Some (aim_of aim) → MethodStep code s aim g items m pace n → row pace n
        by_args y z ys [] NoExprs is fetched name aims d =
            let fits = subst (MayDoNext r w p i e f) fetched may in
            one (change_alone r ls m p i e f x s w code y z ys aim g how pace n st (aim_there r code.classes.items code f (y ∷ before_last z ys) aim by inp.program.coded.are_numbers fits.rooted aims)
            name by_how fetched (subst (λ o. IsMethodBy o code s aim g None m pace n) by_how d))
        by_args y z ys (a ∷ []) (MoreExprs t NoExprs) is fetched name aims d =
            let fits = subst (MayDoNext r w p i e f) fetched may in
            let node : node_of a ≡ resolved coding_now.names t = cc (is) in
            let v = value_is t a node in
            one (change_with r ls m p i e f x s w code y z ys aim g how pace n st (aim_there r code.classes.items code f (y ∷ before_last z ys) aim by inp.program.coded.are_numbers fits.rooted aims)
            name by_how t (value_for code s.actor.0 a m) fetched (λ u left done. fits.there t refl u left (sym v ∙ done)) v
            (subst (λ o. Evaluates s value_of (value_for code s.actor.0 a m) m (λ u. IsMethodBy o code s aim g (Some u)) pace n) by_how d))
        by_args y z ys [] (MoreExprs t es) is fetched name aims d = absurd (cc (is))
        by_args y z ys (a ∷ []) NoExprs is fetched name aims d = absurd (cc (is))
        by_args y z ys (a ∷ []) (MoreExprs t (MoreExprs u es)) is fetched name aims d = absurd (cc (is))
        by_args y z ys (a ∷ b ∷ items) es is fetched name aims d = absurd d

    pub does_follows : (y : Instruction) → slice_get s.block.now.body.items s.instruction ≡ Some y → MayDoNext r w p i e f (fetch f.code f.block f.instr) → Does code s y m pace n
        → row pace n ⊎ Asks code s m pace n
    does_follows y at may does = by_code y at (the_instruction r code.classes.items s i f by inp.standing y st.standing st.instruction at) does
      where
        by_code : (y : Instruction) → slice_get s.block.now.body.items s.instruction ≡ Some y → AtInstruction coding_now f y → Does code s y m pace n → row pace n ⊎ Asks code s m pace n
        by_code (instruction.Set aim res) at a does =
            inl (sets aim res a.text a.fetched may (subst (CodedFrom coding_now f.code a.text) (sym a.coded) (instruction_from coding_now f.code a.text)) does)
        by_code (instruction.Effect aim eff args) at a does = inr (by_effect aim eff args at does)
        by_code (instruction.New place kd) at a does =
            inl (makes place kd a.text a.fetched may (subst (CodedFrom coding_now f.code a.text) (sym a.coded) (instruction_from coding_now f.code a.text)) does)
        by_code (instruction.Act (act.World called) args) at a does = inr (by_act called args at does)
        by_code (instruction.Act (act.Function k) args) at a does =
            inl (calls k args.items a.text a.fetched (subst (CodedFrom coding_now f.code a.text) (sym a.coded) (instruction_from coding_now f.code a.text)) does)
        by_code (instruction.Act (act.Actor class) args) at a does = inr (by_start class args at does)
        by_code (instruction.Method aim g args) at a does = by_change (change_by (Some g)) refl
          where
            by_change : (o : Option Change) → change_by (Some g) ≡ o → row pace n ⊎ Asks code s m pace n
            by_change None h = inr (by_method aim g args at h does)
            by_change (Some how) h = inl (changes aim g args how a.text a.fetched may a.coded h does)
        by_code (instruction.Drop places) at a does =
            inl (drops places.items a.text a.fetched may (subst (CodedFrom coding_now f.code a.text) (sym a.coded) (instruction_from coding_now f.code a.text)) does)
        by_code instruction.Invalid at a does = absurd does
