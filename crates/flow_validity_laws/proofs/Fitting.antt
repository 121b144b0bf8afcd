-- The blocks and groups of a lowered body fit their types.
use Rattle.std.proofs.Common.{◌≡◌, ℕ, suc, ◌+◌, ◌^◌, ◌<◌, Bool, true, false, not, List, [], ◌∷◌, ◌++◌, length, map, if◌then◌else◌, refl, ap, sym, subst, ◌∙◌, arith, length-append}
use Rattle.std.specs.List.{list_all}
use Rattle.std.specs.declared.option.Option.{Option}
use Rattle.std.specs.declared.option.Option.TheVariants.{None, Some}
use Rattle.flow_base.specs.declared.place.Place.{Place}
use Rattle.flow_tree.specs.Tree.{TypeTree, BoolType, ErrorType, ExprTree}
use Rattle.flow_tree.specs.Body.{IntoTree, WaitTree, Body, End, BlockStmt, IfStmt, IfElseStmt, WhileStmt, ForStmt, LoopStmt, BreakStmt, ContinueStmt, ReturnStmt, ThrowStmt, TryStmt, ChooseStmt, DeclareStmt, AssignStmt, ModifyStmt, CallStmt, WaitStmt, Branches, NoBranches, MoreBranches}
use Rattle.flow_ast.specs.Slots.{body_slots, branch_slots, waited_slots}
use Rattle.flow_ast.specs.Leaving.{has_statement}
use Rattle.flow_ast.specs.TypingNames.{named}
use Rattle.flow_ast.specs.Typing.{is_there}
use Rattle.flow_class.specs.Classes.{InstrTree, DropInstr, ActInstr, LastTree, GotoLast, PassLast, TestLast, ChooseLast, ReturnLast, ThrowLast, ClassTree}
use Rattle.flow_class.specs.Scopes.{Scope, Mark, Var, scope, over, over_all, path_over, act_over, Above}
use Rattle.flow_catch.specs.Inner.{left_lists}
use Rattle.flow_layout.specs.Locals.{body_locals, branch_locals, declared_locals, into_locals}
use Rattle.flow_rules.specs.declared.rule.SemanticRule.{SemanticRule}
use Rattle.flow_rules.specs.declared.rule.SemanticRule.TheVariants.{WaitInFunction}
use Rattle.flow_rules.specs.Least.{unless}
use Rattle.flow_rules.specs.Judged.{Setting, called, wanted, returned}
use Rattle.flow_rules.specs.Items.{Env, item, with_var, with_states, in_loop, in_catch, behind, declared, waited, started, fresh, into_fault, value_fault, declare_fault, assign_fault, modify_fault, call_fault, wait_fault, maybe_into, wait_type, test_fault, maybe_test, throw_fault, slot_names, body_refusal, branch_refusal}
use Rattle.flow_rules.proofs.Lesser.{no_first, no_second, no_item}
use Rattle.flow_meaning.specs.Evaluating.{Names, effectful}
use Rattle.flow_meaning.specs.Items.{change}
use Rattle.flow_split.specs.Around.{Exit, Text, Scoped, Part, Hand, Around, inner, pass, guarded, handling}
use Rattle.flow_split.specs.Counts.{Next, begun, taken, grouped, past, past_branches, local_count, into_count, locals_in}
use Rattle.flow_split.specs.Lowered.{Chunk, block_with, blocks_of, joined, ends, acting, dropping, drop_of, finished, exits, exited, with_local, with_into, with_taken, later, tested, assigned, changed, taken_in, place_in, declares, thrown, cancelled, callback, callbacks, test_before, lowered, branches, text_end}
use Rattle.flow_valid.specs.Validity.{calls_effect, instr_fits, last_fits, block_fits, callback_fits}
use Rattle.flow_tree.specs.Formed.{IsInit}
use Rattle.flow_lowering_laws.specs.Actors.Parts.{HasParts, HaveParts}
use Rattle.flow_lowering_laws.specs.Actors.InPlace.{MayTake, InPlace, AllInPlace}
use Rattle.flow_lowering_laws.specs.Actors.InPlace as place_of_names
use Rattle.flow_lowering_laws.proofs.Actors.Standing.{LocalsAt, locals_front, locals_back}
use Rattle.flow_lowering_laws.proofs.Actors.Around.{above_more}
use Rattle.flow_lowering_laws.proofs.Actors.Places.{names, names_with, Placing, placing}
use Rattle.flow_lowering_laws.proofs.Actors.Further.{locals_count, branch_locals_count, into_locals_count, locals_after, exited_local, names_taken, try_room}
use Rattle.flow_lowering_laws.proofs.Actors.Fors.{step_locals, test_local}
use Rattle.std.specs.Str.{bytes_eq}
use Rattle.std.specs.Option.{option_map}
use Rattle.flow_typing_laws.proofs.Typing.Names.{bytes_self}
use Rattle.flow_typing_laws.proofs.Typing.Agreement.{neither_first, neither_second}
use Rattle.flow_validity_laws.proofs.Naming.{both, all_both}
use Rattle.flow_validity_laws.proofs.OverPlaces.{over_names, over_class, Sees}
use Rattle.flow_validity_laws.proofs.InForce.{New, is_new, new_into, class_var, sees_into, sees_error}
use Rattle.flow_validity_laws.proofs.Instructions.{IsAt, at_place, assign_fits, change_fits, act_fits, declare_fits, type_fits, Caught, throw_fits, IsTaken, callback_suits, return_fits}
use Rattle.flow_validity_laws.proofs.Agreeing.{EffectsAgree}

-- a setting with one more variable
abbrev pub with_row : List ℕ → TypeTree → Setting → Setting
with_row x t s = record s { vars = s.vars ++ (x, t) ∷ [] }

module _ (base : Setting) (ns : Names) (c : ClassTree) (few_slots : length c.slots < 2 ^ 64) (few_locals : length c.locals < 2 ^ 64)
    (agree : EffectsAgree base ns) where
  abbrev places : Setting
  places = over_class base c

  -- what a chunk is made of fits
  pub record Fit (ch : Chunk) : Type 0 where
    pub body : list_all (instr_fits c places) ch.body ≡ true
    pub last : last_fits c places ch.last ≡ true
    pub more : list_all (block_fits c places) ch.more ≡ true
    pub groups : list_all (list_all (callback_fits c places)) ch.groups ≡ true

  pub block_fit : (h : Option Hand) (ch : Chunk) → Fit ch → block_fits c places (block_with h ch) ≡ true
  block_fit h ch f = both (list_all (instr_fits c places) ch.body) _ f.body f.last

  joined_fit : (h : Option Hand) (a b : Chunk) → Fit a → Fit b → Fit (joined h a b)
  joined_fit h a b f g = record {
    body = f.body;
    last = f.last;
    more = all_both (block_fits c places) a.more (blocks_of h b) f.more (both (block_fits c places (block_with h b)) _ (block_fit h b g) g.more);
    groups = all_both (list_all (callback_fits c places)) a.groups b.groups f.groups g.groups;
  }

  acting_fit : (is : List InstrTree) (ch : Chunk) → list_all (instr_fits c places) is ≡ true → Fit ch → Fit (acting is ch)
  acting_fit is ch h f = record { body = all_both (instr_fits c places) is ch.body h f.body; last = f.last; more = f.more; groups = f.groups }

  drops_fit : (ds : List ℕ) → list_all (instr_fits c places) (drop_of ds) ≡ true
  drops_fit [] = refl
  drops_fit (d ∷ ds) = refl

  lists_fit : (ls : List (List ℕ)) → list_all (instr_fits c places) (map DropInstr ls) ≡ true
  lists_fit [] = refl
  lists_fit (l ∷ ls) = lists_fit ls

  dropping_fit : (ds : List ℕ) (ch : Chunk) → Fit ch → Fit (dropping ds ch)
  dropping_fit ds ch f = record { body = all_both (instr_fits c places) (drop_of ds) ch.body (drops_fit ds) f.body; last = f.last; more = f.more; groups = f.groups }

  ends_fit : (w : Around) (s : Scope) (acts : Bool) (is : List InstrTree) (l : LastTree) → list_all (instr_fits c places) is ≡ true → last_fits c places l ≡ true → Fit (ends w s acts is l)
  ends_fit w s acts is l h k = record { body = h; last = k; more = refl; groups = refl }

  exits_fit : (t : Bool) (w : Around) (s : Scope) (n : Next) (l : LastTree) → last_fits c places l ≡ true → Fit (exits t w s n l)
  exits_fit false w s n l k = ends_fit w s false (map DropInstr (left_lists w.looped.depth s)) l (lists_fit (left_lists w.looped.depth s)) k
  exits_fit true w s n l k = record {
    body = refl;
    last = refl;
    more = both _ true
        (both (list_all (instr_fits c places) (map DropInstr (left_lists w.looped.depth s))) _ (lists_fit (left_lists w.looped.depth s)) k) refl;
    groups = refl;
  }

  rest_fit : (b : Bool) (h : Option Hand) (a d : Chunk) → Fit a → Fit d → Fit (if b then joined h a d else a)
  rest_fit true h a d f g = joined_fit h a d f g
  rest_fit false h a d f g = f

  -- what goes on at the end of a body, or of a round, fits
  abbrev pub ExitFits : Exit → Type 0
  ExitFits (Text close) = last_fits c places (text_end close) ≡ true
  ExitFits (Scoped l) = last_fits c places l ≡ true
  ExitFits (Part l) = last_fits c places l ≡ true

  pub record IsPlain (w : Around) : Type 0 where
    pub exit : ExitFits w.exit
    pub again : last_fits c places w.looped.again ≡ true

  plain_inner : (w : Around) (x : Exit) → ExitFits x → IsPlain w → IsPlain (inner w x)
  plain_inner w x h p = record { exit = h; again = p.again }

  finished_fit : (w : Around) (s : Scope) (x : Exit) → ExitFits x → Fit (finished w s x)
  finished_fit w s (Text close) h = ends_fit w s false [] (text_end close) refl h
  finished_fit w s (Scoped l) h = ends_fit w s false (drop_of (scope s)) l (drops_fit (scope s)) h
  finished_fit w s (Part l) h = ends_fit w s false [] l refl h

  -- What is in force at a body: its setting and result, that each variable has a place, and the error of the catch around.
  pub record Stands (e : Env) (vs : List (List ℕ × TypeTree)) (s : Scope) (o : Option (List ℕ)) : Type 0 where
    pub setting : e.setting ≡ over_names base c vs
    pub returns : e.returns ≡ c.returns
    pub sees : Sees base c vs s
    pub caught : Caught base ns c agree vs s sees e.caught o

  -- a judgement in what is in force
  pub at_item : (e : Env) (vs : List (List ℕ × TypeTree)) (at : Place) (f : Setting → Option SemanticRule) → e.setting ≡ over_names base c vs → item at (f e.setting) ≡ None
      → f (over_names base c vs) ≡ None
  at_item e vs at f k h = ap f (sym k) ∙ no_item at (f e.setting) h

  pub stands_states : (e : Env) (xs : List (List ℕ)) (vs : List (List ℕ × TypeTree)) (s : Scope) (o : Option (List ℕ)) → Stands e vs s o → Stands (with_states e xs) vs s o
  stands_states e xs vs s o k = record { setting = k.setting; returns = k.returns; sees = k.sees; caught = k.caught }

  pub stands_behind : (e : Env) (b : Body) (vs : List (List ℕ × TypeTree)) (s : Scope) (o : Option (List ℕ)) → Stands e vs s o → Stands (behind e b) vs s o
  stands_behind e b vs s o k = stands_states e (slot_names (body_slots b)) vs s o k

  pub stands_loop : (e : Env) (vs : List (List ℕ × TypeTree)) (s : Scope) (o : Option (List ℕ)) → Stands e vs s o → Stands (in_loop e) vs s o
  stands_loop e vs s o k = record { setting = k.setting; returns = k.returns; sees = k.sees; caught = k.caught }

  pub sees_marked : (vs : List (List ℕ × TypeTree)) (s : Scope) → Sees base c vs s → Sees base c vs (Mark ∷ s)
  sees_marked vs s k x t e = let p = k x t e in record { to = p.to; is = p.is; typed = p.typed; plain = p.plain; variable = p.variable }

  pub stands_marked : (e : Env) (vs : List (List ℕ × TypeTree)) (s : Scope) (o : Option (List ℕ)) → Stands e vs s o → Stands e vs (Mark ∷ s) o
  stands_marked e vs s o k = record { setting = k.setting; returns = k.returns; sees = sees_marked vs s k.sees; caught = record { known = k.caught.known } }

  found_more : (vs : List (List ℕ × TypeTree)) (r : List ℕ × TypeTree) (x : List ℕ) (t : TypeTree) → named vs x ≡ Some t → named (vs ++ r ∷ []) x ≡ Some t
  found_more [] r x t e = cc
  found_more (v ∷ vs) r x t e = by_name (bytes_eq x v.0) e (found_more vs r x t)
    where
      by_name : (b : Bool) → (if b then Some v.1 else named vs x) ≡ Some t → (named vs x ≡ Some t → named (vs ++ r ∷ []) x ≡ Some t) → (if b then Some v.1 else named (vs ++ r ∷ []) x) ≡ Some t
      by_name true h f = h
      by_name false h f = f h

  pub last_found : (vs : List (List ℕ × TypeTree)) (x : List ℕ) → named vs x ≡ None → named (vs ++ (x, ErrorType) ∷ []) x ≡ Some ErrorType
  last_found [] x e = ap (λ b. if b then Some ErrorType else None) (bytes_self x)
  last_found (v ∷ vs) x e = by_name (bytes_eq x v.0) e (last_found vs x)
    where
      by_name : (b : Bool) → (if b then Some v.1 else named vs x) ≡ None → (named vs x ≡ None → named (vs ++ (x, ErrorType) ∷ []) x ≡ Some ErrorType)
          → (if b then Some v.1 else named (vs ++ (x, ErrorType) ∷ []) x) ≡ Some ErrorType
      by_name true h f = cc
      by_name false h f = f h

  -- a declared variable
  pub new_here : (e : Env) (vs : List (List ℕ × TypeTree)) (i : IntoTree) → e.setting ≡ over_names base c vs → into_fault e.setting e.states i ≡ None → New vs i.name.name
  new_here e vs i k h = new_into (over_names base c vs) e.states i (ap (λ z. into_fault z e.states i) (sym k) ∙ h)

  pub stands_into : (e : Env) (vs : List (List ℕ × TypeTree)) (s : Scope) (o : Option (List ℕ)) (l : ℕ) (i : IntoTree) → Stands e vs s o → into_fault e.setting e.states i ≡ None
      → Placing ns c few_slots few_locals s l i
      → Stands (declared e i) (vs ++ (i.name.name, i.ty) ∷ []) (with_into i l s) o
  stands_into e vs s o l i k h p =
      let sees = sees_into base ns c few_slots few_locals vs s l i k.sees (new_here e vs i k.setting h) p in
      record {
        setting = ap (with_row i.name.name i.ty) k.setting;
        returns = k.returns;
        sees = sees;
        caught = record { known = λ t. let q = k.caught.known t in (q.0, q.1, found_more vs (i.name.name, i.ty) q.0 ErrorType q.2) };
      }

  own_place : (s : Scope) (l : ℕ) (i : IntoTree) (vs : List (List ℕ × TypeTree)) (sees : Sees base c vs s) → Placing ns c few_slots few_locals s l i
      → IsAt base ns c agree vs s sees (place_in ns c.slots i l s) i.ty
  own_place s l i vs sees p = at_place base ns c agree vs s sees (place_in ns c.slots i l s) p.to i.ty p.is p.type (class_var base ns c few_slots few_locals p.to i.ty p.type)

  -- the variables in force behind a wait
  abbrev pub waited_vars : List (List ℕ × TypeTree) → Option IntoTree → List (List ℕ × TypeTree)
  waited_vars vs None = vs
  waited_vars vs (Some i) = vs ++ (i.name.name, i.ty) ∷ []

  pub stands_taken : (e : Env) (vs : List (List ℕ × TypeTree)) (s : Scope) (o : Option (List ℕ)) (l : ℕ) (into : Option IntoTree) → Stands e vs s o → maybe_into e.setting e.states into ≡ None
      → Above l s → LocalsAt ns c l (into_locals into)
      → MayTake c.slots (names s) into → Stands (waited e into) (waited_vars vs into) (with_taken into l s) o
  stands_taken e vs s o l None k h a r m = k
  stands_taken e vs s o l (Some i) k h a r m = stands_into e vs s o l i k h (placing ns c few_slots few_locals s l i a r m)

  is_taken : (vs : List (List ℕ × TypeTree)) (s : Scope) (sees : Sees base c vs s) (l : ℕ) (into : Option IntoTree) → Above l s → LocalsAt ns c l (into_locals into) → MayTake c.slots (names s) into
      → IsTaken base ns c agree vs s sees into (taken_in ns c.slots into l s)
  is_taken vs s sees l None a r m = refl
  is_taken vs s sees l (Some i) a r m = own_place s l i vs sees (placing ns c few_slots few_locals s l i a r m)

  wait_fits : (e : Env) (vs : List (List ℕ × TypeTree)) (s : Scope) (o : Option (List ℕ)) (at : Place) (w : WaitTree) (l b : ℕ) → Stands e vs s o → item at (wait_fault e.setting e.states w) ≡ None
      → Above l s → LocalsAt ns c l (into_locals w.into)
      → MayTake c.slots (names s) w.into → callback_fits c places (callback ns c.slots s w l b) ≡ true
  wait_fits e vs s o at w l b k h a r m =
      let f = at_item e vs at (λ z. wait_fault z e.states w) k.setting h in
      let q = wanted (over_names base c vs) true w.operand (wait_type w.next w.into) in
      callback_suits base ns c agree vs s k.sees w l b (is_taken vs s k.sees l w.into a r m) (no_first q _ (no_second (maybe_into (over_names base c vs) e.states w.into) _ f))

  pub into_of_wait : (e : Env) (at : Place) (w : WaitTree) → item at (wait_fault e.setting e.states w) ≡ None → maybe_into e.setting e.states w.into ≡ None
  into_of_wait e at w h = no_first (maybe_into e.setting e.states w.into) _ (no_item at (wait_fault e.setting e.states w) h)

  above_local : (b : Bool) (x : List ℕ) (l : ℕ) (s : Scope) → Above l s → Above ((if b then 0 else 1) + l) (with_local b x l s)
  above_local true x l s a = above_more ns c l (0 + l) s (omega arith) a
  above_local false x l s a = (omega arith, above_more ns c l (1 + l) s (omega arith) a)

  pub above_taken : (o : Option IntoTree) (l : ℕ) (s : Scope) → Above l s → Above (into_count o + l) (with_taken o l s)
  above_taken None l s a = above_more ns c l (0 + l) s (omega arith) a
  above_taken (Some i) l s a = above_local i.state i.name.name l s a

  test_fit : (e : Env) (vs : List (List ℕ × TypeTree)) (s : Scope) (o : Option (List ℕ)) (at : Place) (q : ExprTree) (w : Around) (y z : ℕ) → Stands e vs s o → item at (test_fault e.setting q) ≡ None
      → Fit (ends w s true [] (TestLast (over c.slots s q) y z))
  test_fit e vs s o at q w y z k h = ends_fit w s true [] (TestLast (over c.slots s q) y z) refl
      (type_fits base ns c agree vs s k.sees false q BoolType (at_item e vs at (λ t. test_fault t q) k.setting h))

  for_test : (e : Env) (vs : List (List ℕ × TypeTree)) (s : Scope) (o : Option (List ℕ)) (at : Place) (q : Option ExprTree) (w : Around) (m out : ℕ) (a : Chunk) → Stands e vs s o
      → item at (maybe_test e.setting q) ≡ None → Fit a
      → Fit (test_before ns c.slots w s q m out a)
  for_test e vs s o at None w m out a k h f = f
  for_test e vs s o at (Some q) w m out a k h f = joined_fit w.hand a (ends w s true [] (TestLast (over c.slots s q) m out)) f (test_fit e vs s o at q w m out k h)

  -- the variables in force behind the init of a `for`
  pub record Begins (e : Env) (i : Body) (s : Scope) (l : ℕ) (o : Option (List ℕ)) : Type 0 where
    pub vars : List (List ℕ × TypeTree)
    pub stands : Stands (started e i) vars (later i l s) o
    pub above : Above (l + locals_in i) (later i l s)
    pub named : names (later i l s) ≡ place_of_names.started i (names s)

  pub begins : (i : Body) (e : Env) (vs : List (List ℕ × TypeTree)) (s : Scope) (o : Option (List ℕ)) (l : ℕ) (d t : Bool) → IsInit i → Stands e vs s o → body_refusal e i ≡ None → Above l s
      → LocalsAt ns c l (body_locals i) → InPlace c.slots d t (names s) i
      → Begins e i s l o
  begins (DeclareStmt at i v End) e vs s o l d t is k h a r ok =
      let f = item at (declare_fault e.setting e.states i v) in
      let g = no_first (into_fault e.setting e.states i) _ (no_item at (declare_fault e.setting e.states i v) (neither_first f None h)) in
      let p = placing ns c few_slots few_locals s l i a (locals_front ns c l (declared_locals i) [] r) ok.0 in
      record {
        vars = vs ++ (i.name.name, i.ty) ∷ [];
        stands = stands_into e vs s o l i k g p;
        above = above_more ns c (local_count i + l) (l + (local_count i + 0)) (with_into i l s) (omega arith) (above_taken (Some i) l s a);
        named = names_with i.state i.name.name l s;
      }
  begins End e vs s o l d t is k h a r ok = record { vars = vs; stands = stands_behind e End vs s o k; above = above_more ns c l (l + 0) s (omega arith) a; named = refl }
  begins (AssignStmt at xs v End) e vs s o l d t is k h a r ok = record {
    vars = vs;
    stands = stands_behind e (AssignStmt at xs v End) vs s o k;
    above = above_more ns c l (l + 0) s (omega arith) a;
    named = refl;
  }
  begins (ModifyStmt at xs v End) e vs s o l d t is k h a r ok = record {
    vars = vs;
    stands = stands_behind e (ModifyStmt at xs v End) vs s o k;
    above = above_more ns c l (l + 0) s (omega arith) a;
    named = refl;
  }
  begins _ e vs s o l d t is k h a r ok = absurd is

  mutual
    pub body_fit : (b : Body) (l t : Bool) (e : Env) (vs : List (List ℕ × TypeTree)) (s : Scope) (w : Around) (n : Next) → Stands e vs s w.caught → IsPlain w → Above n.local s
        → LocalsAt ns c n.local (body_locals b) → HasParts b
        → InPlace c.slots l t (names s) b → body_refusal e b ≡ None → Fit (lowered ns c.slots s w n b)
    body_fit End l t e vs s w n k p a r parts ok h = finished_fit w s w.exit p.exit
    body_fit (BlockStmt at b x) l t e vs s w n k p a r parts ok h =
        let j = past w.looped.tried b n in
        let v = inner w (Scoped (GotoLast j.block)) in
        joined_fit w.hand (lowered ns c.slots (Mark ∷ s) v n b) (lowered ns c.slots s w (begun j) x)
        (body_fit b l t e vs (Mark ∷ s) v n (stands_marked e vs s w.caught k) (plain_inner w (Scoped (GotoLast j.block)) refl p) a
        (locals_front ns c n.local (body_locals b) (body_locals x) r) parts.1 ok.0 (neither_first (body_refusal e b) _ h))
        (body_fit x l t (behind e b) vs s w (begun j) (stands_behind e b vs s w.caught k) p (above_more ns c n.local j.local s (omega arith) a)
        (locals_after ns c b n.local (body_locals x) r) parts.2 ok.1 (neither_second (body_refusal e b) _ h))
    body_fit (IfStmt at q b x) l t e vs s w n k p a r parts ok h =
        let j = past w.looped.tried b (begun n) in
        let v = inner w (Scoped (GotoLast j.block)) in
        let c0 = ends w s true [] (TestLast (over c.slots s q) n.block j.block) in
        let c1 = lowered ns c.slots (Mark ∷ s) v (begun n) b in
        let i = item at (test_fault e.setting q) in
        let m = neither_second i _ h in
        joined_fit w.hand (joined w.hand c0 c1) (lowered ns c.slots s w (begun j) x)
        (joined_fit w.hand c0 c1 (test_fit e vs s w.caught at q w n.block j.block k (neither_first i _ h))
        (body_fit b l t e vs (Mark ∷ s) v (begun n) (stands_marked e vs s w.caught k) (plain_inner w (Scoped (GotoLast j.block)) refl p) a
        (locals_front ns c n.local (body_locals b) (body_locals x) r) parts.1 ok.0 (neither_first (body_refusal e b) _ m)))
        (body_fit x l t (behind e b) vs s w (begun j) (stands_behind e b vs s w.caught k) p (above_more ns c n.local j.local s (omega arith) a)
        (locals_after ns c b n.local (body_locals x) r) parts.2 ok.1 (neither_second (body_refusal e b) _ m))
    body_fit (IfElseStmt at q b d x) l t e vs s w n k p a r parts ok h =
        let i = past w.looped.tried b (begun n) in
        let j = past w.looped.tried d (begun i) in
        let v = inner w (Scoped (GotoLast j.block)) in
        let pv = plain_inner w (Scoped (GotoLast j.block)) refl p in
        let c0 = ends w s true [] (TestLast (over c.slots s q) n.block i.block) in
        let c1 = lowered ns c.slots (Mark ∷ s) v (begun n) b in
        let c2 = lowered ns c.slots (Mark ∷ s) v (begun i) d in
        let f = item at (test_fault e.setting q) in
        let m = neither_second f _ h in
        let o = neither_second (body_refusal e b) _ m in
        let kb = stands_behind e b vs s w.caught k in
        let r12 = locals_front ns c n.local (body_locals b ++ body_locals d) (body_locals x) r in
        let sizes : length (body_locals b ++ body_locals d) ≡ locals_in b + locals_in d = omega (arith, length-append (body_locals b) (body_locals d), locals_count b, locals_count d) in
        joined_fit w.hand (joined w.hand (joined w.hand c0 c1) c2) (lowered ns c.slots s w (begun j) x)
        (joined_fit w.hand (joined w.hand c0 c1) c2
        (joined_fit w.hand c0 c1 (test_fit e vs s w.caught at q w n.block i.block k (neither_first f _ h))
        (body_fit b l t e vs (Mark ∷ s) v (begun n) (stands_marked e vs s w.caught k) pv a (locals_front ns c n.local (body_locals b) (body_locals d) r12) parts.1 ok.0
        (neither_first (body_refusal e b) _ m)))
        (body_fit d l t (behind e b) vs (Mark ∷ s) v (begun i) (stands_marked (behind e b) vs s w.caught kb) pv (above_more ns c n.local i.local s (omega arith) a)
        (locals_after ns c b n.local (body_locals d) r12) parts.2 ok.1 (neither_first (body_refusal (behind e b) d) _ o)))
        (body_fit x l t (behind (behind e b) d) vs s w (begun j) (stands_behind (behind e b) d vs s w.caught kb) p (above_more ns c n.local j.local s (omega arith) a)
        (locals_back ns c n.local j.local (body_locals b ++ body_locals d) (body_locals x) (omega (arith, sizes)) r) parts.3 ok.2 (neither_second (body_refusal (behind e b) d) _ o))
    body_fit (WhileStmt at q b x) l t e vs s w n k p a r parts ok h =
        let g = begun n in
        let j = past false b (begun g) in
        let v = pass w 1 (PassLast n.block) j.block in
        let c0 = ends w s false [] (PassLast n.block) in
        let c1 = ends w s true [] (TestLast (over c.slots s q) g.block j.block) in
        let c2 = lowered ns c.slots (Mark ∷ s) v (begun g) b in
        let i = item at (test_fault e.setting q) in
        let m = neither_second i _ h in
        joined_fit w.hand (joined w.hand (joined w.hand c0 c1) c2) (lowered ns c.slots s w (begun j) x)
        (joined_fit w.hand (joined w.hand c0 c1) c2 (joined_fit w.hand c0 c1 (ends_fit w s false [] (PassLast n.block) refl refl)
        (test_fit e vs s w.caught at q w g.block j.block k (neither_first i _ h)))
        (body_fit b true t (in_loop e) vs (Mark ∷ s) v (begun g) (stands_marked (in_loop e) vs s w.caught (stands_loop e vs s w.caught k)) (record { exit = refl; again = refl }) a
        (locals_front ns c n.local (body_locals b) (body_locals x) r) parts.1 ok.0 (neither_first (body_refusal (in_loop e) b) _ m)))
        (body_fit x l t (behind e b) vs s w (begun j) (stands_behind e b vs s w.caught k) p (above_more ns c n.local j.local s (omega arith) a)
        (locals_after ns c b n.local (body_locals x) r) parts.2 ok.1 (neither_second (body_refusal (in_loop e) b) _ m))
    body_fit (ForStmt at i q d b x) l t e vs s w n k p a r parts ok h =
        let tr = w.looped.tried in
        let hd = past tr i n in
        let g = tested q hd in
        let j = past false b (begun g) in
        let o = past tr d (begun j) in
        let s1 = Mark ∷ s in
        let sc = later i n.local s1 in
        let v = inner w (Part (PassLast hd.block)) in
        let pv = plain_inner w (Part (PassLast hd.block)) refl p in
        let f = pass w 2 (GotoLast j.block) o.block in
        let c0 = lowered ns c.slots s1 v n i in
        let c1 = test_before ns c.slots v sc q g.block o.block c0 in
        let c2 = lowered ns c.slots (Mark ∷ sc) f (begun g) b in
        let c3 = lowered ns c.slots sc v (begun j) d in
        let c4 = lowered ns c.slots s w (begun o) x in
        let e' = started e i in
        let m1 = neither_second (body_refusal e i) _ h in
        let it = item at (maybe_test e'.setting q) in
        let m2 = neither_second it _ m1 in
        let m3 = neither_second (body_refusal e' d) _ m2 in
        let e'' = in_loop (behind e' d) in
        let tl = test_local ns c few_slots few_locals q hd in
        let none : locals_in d ≡ 0 = sym (locals_count d) ∙ ap length (step_locals d parts.0.1) in
        let n12 = length-append (body_locals i) (body_locals d) in
        let n123 = length-append (body_locals i ++ body_locals d) (body_locals b) in
        let r123 = locals_front ns c n.local (body_locals i ++ body_locals d ++ body_locals b) (body_locals x) r in
        let r12 = locals_front ns c n.local (body_locals i ++ body_locals d) (body_locals b) r123 in
        let r1 = locals_front ns c n.local (body_locals i) (body_locals d) r12 in
        let r2 : LocalsAt ns c g.local (body_locals b) = locals_back ns c n.local g.local (body_locals i ++ body_locals d) (body_locals b)
        (omega (arith, tl, n12, locals_count i, locals_count d, none)) r123 in
        let r4 : LocalsAt ns c o.local (body_locals x) =
        locals_back ns c n.local o.local (body_locals i ++ body_locals d ++ body_locals b) (body_locals x) (omega (arith, tl, n12, n123, locals_count i, locals_count d, locals_count b)) r in
        let r3 : LocalsAt ns c j.local (body_locals d) = subst (λ ls. LocalsAt ns c j.local ls) (sym (step_locals d parts.0.1)) tt in
        let k1 = stands_marked e vs s w.caught k in
        let st = begins i e vs s1 w.caught n.local l t parts.0.0 k1 (neither_first (body_refusal e i) _ h) a r1 ok.0 in
        let a2 : Above g.local sc = subst (λ z. Above z sc) (sym tl) st.above in
        let kb = stands_behind e' d st.vars sc w.caught st.stands in
        let f1 = for_test e' st.vars sc w.caught at q v g.block o.block c0 st.stands (neither_first it _ m1) (body_fit i l t e vs s1 v n k1 pv a r1 parts.1 ok.0 (neither_first (body_refusal e i) _ h))
        in
        let f2 = body_fit b true t e'' st.vars (Mark ∷ sc) f (begun g) (stands_marked e'' st.vars sc w.caught (stands_loop (behind e' d) st.vars sc w.caught kb))
        (record { exit = refl; again = refl }) a2 r2 parts.3
        (subst (λ xs. InPlace c.slots true t xs b) (sym st.named) ok.2) (neither_first (body_refusal e'' b) _ m3) in
        let f3 = body_fit d l t e' st.vars sc v (begun j) st.stands pv (above_more ns c g.local j.local sc (omega arith) a2) r3 parts.2 (subst (λ xs. InPlace c.slots l t xs d) (sym st.named) ok.1)
        (neither_first (body_refusal e' d) _ m2) in
        let kx = stands_behind (behind (behind e i) d) b vs s w.caught (stands_behind (behind e i) d vs s w.caught (stands_behind e i vs s w.caught k)) in
        let f4 = body_fit x l t (behind (behind (behind e i) d) b) vs s w (begun o) kx p (above_more ns c n.local o.local s (omega (arith, tl)) a) r4 parts.4 ok.3
        (neither_second (body_refusal e'' b) _ m3) in
        joined_fit w.hand (joined w.hand (joined w.hand c1 c2) c3) (dropping (scope (later d j.local sc)) c4) (joined_fit w.hand (joined w.hand c1 c2) c3 (joined_fit w.hand c1 c2 f1 f2) f3)
        (dropping_fit (scope (later d j.local sc)) c4 f4)
    body_fit (LoopStmt at b x) l t e vs s w n k p a r parts ok h =
        let j = past false b (begun n) in
        let v = pass w 1 (PassLast n.block) j.block in
        let c0 = ends w s false [] (PassLast n.block) in
        let c1 = lowered ns c.slots (Mark ∷ s) v (begun n) b in
        joined_fit w.hand (joined w.hand c0 c1) (lowered ns c.slots s w (begun j) x)
        (joined_fit w.hand c0 c1 (ends_fit w s false [] (PassLast n.block) refl refl)
        (body_fit b true t (in_loop e) vs (Mark ∷ s) v (begun n) (stands_marked (in_loop e) vs s w.caught (stands_loop e vs s w.caught k)) (record { exit = refl; again = refl }) a
        (locals_front ns c n.local (body_locals b) (body_locals x) r) parts.1 ok.0 (neither_first (body_refusal (in_loop e) b) _ h)))
        (body_fit x l t (behind e b) vs s w (begun j) (stands_behind e b vs s w.caught k) p (above_more ns c n.local j.local s (omega arith) a)
        (locals_after ns c b n.local (body_locals x) r) parts.2 ok.1 (neither_second (body_refusal (in_loop e) b) _ h))
    body_fit (BreakStmt at x) l t e vs s w n k p a r parts ok h =
        let m = exited w.looped.tried n in
        let el = exited_local w.looped.tried n in
        rest_fit (has_statement x) w.hand (exits w.looped.tried w s n (GotoLast w.looped.out)) (lowered ns c.slots s w (begun m) x) (exits_fit w.looped.tried w s n (GotoLast w.looped.out) refl)
        (body_fit x l t e vs s w (begun m) k p (subst (λ z. Above z s) (sym el) a) (subst (λ z. LocalsAt ns c z (body_locals x)) (sym el) r) parts.1 ok.1 (neither_second (item at _) _ h))
    body_fit (ContinueStmt at x) l t e vs s w n k p a r parts ok h =
        let m = exited w.looped.tried n in
        let el = exited_local w.looped.tried n in
        rest_fit (has_statement x) w.hand (exits w.looped.tried w s n w.looped.again) (lowered ns c.slots s w (begun m) x) (exits_fit w.looped.tried w s n w.looped.again p.again)
        (body_fit x l t e vs s w (begun m) k p (subst (λ z. Above z s) (sym el) a) (subst (λ z. LocalsAt ns c z (body_locals x)) (sym el) r) parts.1 ok.1 (neither_second (item at _) _ h))
    body_fit (ReturnStmt at q x) l t e vs s w n k p a r parts ok h =
        let i = item at (returned e.setting q e.returns) in
        let f = at_item e vs at (λ z. returned z q e.returns) k.setting (neither_first i _ h) in
        let good = return_fits base ns c agree vs s k.sees q (ap (λ z. returned (over_names base c vs) q z) (sym k.returns) ∙ f) in
        let last = ReturnLast (option_map (over c.slots s) q) in
        rest_fit (has_statement x) w.hand (ends w s true [] last) (lowered ns c.slots s w (begun n) x) (ends_fit w s true [] last refl good)
        (body_fit x l t e vs s w (begun n) k p a r parts.1 ok (neither_second i _ h))
    body_fit (ThrowStmt at q x) l t e vs s w n k p a r parts ok h =
        let i = item at (throw_fault e.setting e.caught q) in
        let f = at_item e vs at (λ z. throw_fault z e.caught q) k.setting (neither_first i _ h) in
        let last = ThrowLast (thrown ns c.slots s at q w.caught) in
        rest_fit (has_statement x) w.hand (ends w s true [] last) (lowered ns c.slots s w (begun n) x)
        (ends_fit w s true [] last refl (throw_fits base ns c agree vs s k.sees at q e.caught w.caught k.caught f))
        (body_fit x l t e vs s w (begun n) k p a r parts.1 ok.1 (neither_second i _ h))
    body_fit (TryStmt at b q u d x) l t e vs s w n k p a r parts ok h =
        let tr = w.looped.tried in
        let m = past true b (begun n) in
        let g = begun (record m { local = suc m.local }) in
        let j = past tr d g in
        let hand : Hand = record { block = m.block; error = m.local } in
        let exit = Scoped (GotoLast j.block) in
        let v = guarded w exit hand in
        let f = handling w exit u.name in
        let s2 = Var u.name m.local ∷ Mark ∷ s in
        let c0 = ends w s false [] (GotoLast n.block) in
        let c1 = lowered ns c.slots (Mark ∷ s) v (begun n) b in
        let c2 = lowered ns c.slots s2 f g d in
        let whole = try_room ns c b d (body_locals x) n.local r in
        let r123 = locals_front ns c n.local (body_locals b ++ (ErrorType ∷ []) ++ body_locals d) (body_locals x) whole in
        let r12 = locals_front ns c n.local (body_locals b ++ (ErrorType ∷ [])) (body_locals d) r123 in
        let error = locals_after ns c b n.local (ErrorType ∷ []) r12 in
        let n12 : length (body_locals b ++ (ErrorType ∷ [])) ≡ suc (locals_in b) = omega (arith, length-append (body_locals b) (ErrorType ∷ []), locals_count b) in
        let n123 : length (body_locals b ++ (ErrorType ∷ []) ++ body_locals d) ≡ suc (locals_in b) + locals_in d =
        omega (arith, length-append (body_locals b ++ (ErrorType ∷ [])) (body_locals d), n12, locals_count d) in
        let eb = behind e b in
        let kb = stands_behind e b vs s w.caught k in
        let ec = in_catch (with_var eb u.name ErrorType) in
        let h1 = neither_second (body_refusal e b) _ h in
        let i = item q (fresh e.setting eb.states false u.name) in
        let h2 = neither_second i _ h1 in
        let new = is_new (over_names base c vs) eb.states false u.name (at_item e vs q (λ z. fresh z eb.states false u.name) k.setting (neither_first i _ h1)) in
        let sees = sees_error base ns c few_slots few_locals vs (Mark ∷ s) m.local u.name (sees_marked vs s k.sees) new error.0 in
        let kc : Stands ec (vs ++ (u.name, ErrorType) ∷ []) s2 (Some u.name) = record {
          setting = ap (with_row u.name ErrorType) k.setting;
          returns = k.returns;
          sees = sees;
          caught = record { known = λ z. (u.name, refl, last_found vs u.name new.unknown) };
        } in
        joined_fit w.hand (joined w.hand (joined (Some hand) c0 c1) c2) (lowered ns c.slots s w (begun j) x)
        (joined_fit w.hand (joined (Some hand) c0 c1) c2
        (joined_fit (Some hand) c0 c1 (ends_fit w s false [] (GotoLast n.block) refl refl)
        (body_fit b l t e vs (Mark ∷ s) v (begun n) (stands_marked e vs s w.caught k) (record { exit = refl; again = p.again }) a
        (locals_front ns c n.local (body_locals b) (ErrorType ∷ []) r12) parts.1 ok.0 (neither_first (body_refusal e b) _ h)))
        (body_fit d l true ec (vs ++ (u.name, ErrorType) ∷ []) s2 f g kc (record { exit = refl; again = p.again }) (omega arith, above_more ns c n.local g.local s (omega arith) a)
        (locals_back ns c n.local g.local (body_locals b ++ (ErrorType ∷ [])) (body_locals d) (omega (arith, n12)) r123) parts.2 ok.1 (neither_first (body_refusal ec d) _ h2)))
        (body_fit x l t (behind eb d) vs s w (begun j) (stands_behind eb d vs s w.caught kb) p (above_more ns c n.local j.local s (omega arith) a)
        (locals_back ns c n.local j.local (body_locals b ++ (ErrorType ∷ []) ++ body_locals d) (body_locals x) (omega (arith, n123)) whole) parts.3 ok.2 (neither_second (body_refusal ec d) _ h2))
    body_fit (ChooseStmt at bs x) l t e vs s w n k p a r parts ok h =
        let tr = w.looped.tried in
        let g = grouped n in
        let j = past_branches tr bs g in
        let v = inner w (Scoped (GotoLast j.block)) in
        let ks = callbacks ns c.slots s tr g bs in
        let c0 : Chunk = record (ends w s true [] (ChooseLast n.group)) { groups = ks ∷ [] } in
        let i = item at (unless (not e.setting.plain) WaitInFunction) in
        let m = neither_second i _ h in
        let hb = neither_first (branch_refusal e bs) _ m in
        let rb = locals_front ns c n.local (branch_locals bs) (body_locals x) r in
        let f0 : Fit c0 = record { body = refl; last = refl; more = refl; groups = both (list_all (callback_fits c places) ks) true (callbacks_fit bs l t e vs s w.caught tr g k a rb ok.0 hb) refl } in
        joined_fit w.hand (branches ns c.slots c0 s v g bs) (lowered ns c.slots s w (begun j) x)
        (branches_fit bs l t e vs s v g c0 k (plain_inner w (Scoped (GotoLast j.block)) refl p) a rb parts.1 ok.0 hb f0)
        (body_fit x l t (with_states e (slot_names (branch_slots bs))) vs s w (begun j) (stands_states e (slot_names (branch_slots bs)) vs s w.caught k) p
        (above_more ns c n.local j.local s (omega arith) a)
        (locals_back ns c n.local j.local (branch_locals bs) (body_locals x) (omega (arith, branch_locals_count bs)) r) parts.2 ok.1 (neither_second (branch_refusal e bs) _ m))
    body_fit (DeclareStmt at i q x) l t e vs s w n k p a r parts ok h =
        let f = item at (declare_fault e.setting e.states i q) in
        let g = no_item at (declare_fault e.setting e.states i q) (neither_first f _ h) in
        let into = no_first (into_fault e.setting e.states i) (value_fault e.setting i.ty q) g in
        let value = ap (λ z. value_fault z i.ty q) (sym k.setting) ∙ no_second (into_fault e.setting e.states i) (value_fault e.setting i.ty q) g in
        let room = locals_front ns c n.local (declared_locals i) (body_locals x) r in
        let pl = placing ns c few_slots few_locals s n.local i a room ok.0 in
        let n1 = into_locals_count (Some i) in
        let z = taken (Some i) n in
        acting_fit (declares ns c.slots s n.local i q) (lowered ns c.slots (with_into i n.local s) w z x)
        (declare_fits base ns c agree vs s k.sees n.local i q (own_place s n.local i vs k.sees pl) value)
        (body_fit x l t (declared e i) (vs ++ (i.name.name, i.ty) ∷ []) (with_into i n.local s) w z (stands_into e vs s w.caught n.local i k into pl) p (above_taken (Some i) n.local s a)
        (locals_back ns c n.local z.local (declared_locals i) (body_locals x) (omega (arith, n1)) r) parts.1
        (subst (λ xs. InPlace c.slots l t xs x) (sym (names_with i.state i.name.name n.local s)) ok.1) (neither_second f _ h))
    body_fit (AssignStmt at xs q x) l t e vs s w n k p a r parts ok h =
        let f = item at (assign_fault e.setting xs q) in
        let i = assigned ns c.slots s (path_over c.slots s xs) q in
        acting_fit (i ∷ []) (lowered ns c.slots s w n x) (both (instr_fits c places i) true
        (assign_fits base ns c agree vs s k.sees xs q (at_item e vs at (λ z. assign_fault z xs q) k.setting (neither_first f _ h))) refl)
        (body_fit x l t e vs s w n k p a r parts.1 ok (neither_second f _ h))
    body_fit (ModifyStmt at xs d x) l t e vs s w n k p a r parts ok h =
        let f = item at (modify_fault e.setting xs d) in
        acting_fit (changed ns c.slots s xs (change xs d)) (lowered ns c.slots s w n x)
        (change_fits base ns c agree vs s k.sees xs d (at_item e vs at (λ z. modify_fault z xs d) k.setting (neither_first f _ h)))
        (body_fit x l t e vs s w n k p a r parts.1 ok (neither_second f _ h))
    body_fit (CallStmt at xs es x) l t e vs s w n k p a r parts ok h =
        let f = item at (call_fault e.setting xs es) in
        let i = ActInstr (act_over c.slots s xs) (over_all c.slots s es) in
        acting_fit (i ∷ []) (lowered ns c.slots s w n x) (both (instr_fits c places i) true
        (act_fits base ns c agree vs s k.sees xs es (at_item e vs at (λ z. call_fault z xs es) k.setting (neither_first f _ h))) refl)
        (body_fit x l t e vs s w n k p a r parts.1 ok (neither_second f _ h))
    body_fit (WaitStmt at u x) l t e vs s w n k p a r parts ok h =
        let f = item at (wait_fault e.setting e.states u) in
        let cb = callback ns c.slots s u n.local n.block in
        let c0 : Chunk = record (ends w s true [] (ChooseLast n.group)) { groups = (cb ∷ []) ∷ [] } in
        let z = taken u.into (begun (grouped n)) in
        let s2 = with_taken u.into n.local s in
        let mine = locals_front ns c n.local (into_locals u.into) (body_locals x) r in
        let n1 = into_locals_count u.into in
        let i = wait_fits e vs s w.caught at u n.local n.block k (neither_first f _ h) a mine ok.0 in
        let f0 : Fit c0 = record { body = refl; last = refl; more = refl; groups = both (list_all (callback_fits c places) (cb ∷ [])) true (both (callback_fits c places cb) true i refl) refl } in
        joined_fit w.hand c0 (lowered ns c.slots s2 w z x) f0
        (body_fit x l t (waited e u.into) (waited_vars vs u.into) s2 w z (stands_taken e vs s w.caught n.local u.into k (into_of_wait e at u (neither_first f _ h)) a mine ok.0) p
        (above_taken u.into n.local s a)
        (locals_back ns c n.local z.local (into_locals u.into) (body_locals x) (omega (arith, n1)) r) parts.1 (subst (λ xs. InPlace c.slots l t xs x) (sym (names_taken ns c u.into n.local s)) ok.1)
        (neither_second f _ h))

    callbacks_fit : (bs : Branches) (l t : Bool) (e : Env) (vs : List (List ℕ × TypeTree)) (s : Scope) (o : Option (List ℕ)) (tr : Bool) (n : Next) → Stands e vs s o → Above n.local s
        → LocalsAt ns c n.local (branch_locals bs) → AllInPlace c.slots l t (names s) bs
        → branch_refusal e bs ≡ None → list_all (callback_fits c places) (callbacks ns c.slots s tr n bs) ≡ true
    callbacks_fit NoBranches l t e vs s o tr n k a r ok h = refl
    callbacks_fit (MoreBranches at w b bs) l t e vs s o tr n k a r ok h =
        let f = item at (wait_fault e.setting e.states w) in
        let m = neither_second f _ h in
        let j = past tr b (taken w.into (begun n)) in
        let r12 = locals_front ns c n.local (into_locals w.into ++ body_locals b) (branch_locals bs) r in
        let mine = locals_front ns c n.local (into_locals w.into) (body_locals b) r12 in
        let n1 = into_locals_count w.into in
        let n12 = length-append (into_locals w.into) (body_locals b) in
        let xs = slot_names (waited_slots w ++ body_slots b) in
        both (callback_fits c places (callback ns c.slots s w n.local n.block)) _ (wait_fits e vs s o at w n.local n.block k (neither_first f _ h) a mine ok.0)
        (callbacks_fit bs l t (with_states e xs) vs s o tr j (stands_states e xs vs s o k) (above_more ns c n.local j.local s (omega arith) a)
        (locals_back ns c n.local j.local (into_locals w.into ++ body_locals b) (branch_locals bs) (omega (arith, n1, n12, locals_count b)) r) ok.2
        (neither_second (body_refusal (waited e w.into) b) _ m))

    branches_fit : (bs : Branches) (l t : Bool) (e : Env) (vs : List (List ℕ × TypeTree)) (s : Scope) (w : Around) (n : Next) (ch : Chunk) → Stands e vs s w.caught → IsPlain w → Above n.local s
        → LocalsAt ns c n.local (branch_locals bs) → HaveParts bs
        → AllInPlace c.slots l t (names s) bs → branch_refusal e bs ≡ None → Fit ch → Fit (branches ns c.slots ch s w n bs)
    branches_fit NoBranches l t e vs s w n ch k p a r parts ok h f = f
    branches_fit (MoreBranches at u b bs) l t e vs s w n ch k p a r parts ok h f =
        let tr = w.looped.tried in
        let z = taken u.into (begun n) in
        let j = past tr b z in
        let s1 = Mark ∷ s in
        let s2 = with_taken u.into n.local s1 in
        let d = lowered ns c.slots s2 w z b in
        let i = item at (wait_fault e.setting e.states u) in
        let m = neither_second i _ h in
        let r12 = locals_front ns c n.local (into_locals u.into ++ body_locals b) (branch_locals bs) r in
        let mine = locals_front ns c n.local (into_locals u.into) (body_locals b) r12 in
        let n1 = into_locals_count u.into in
        let n12 = length-append (into_locals u.into) (body_locals b) in
        let xs = slot_names (waited_slots u ++ body_slots b) in
        let k2 = stands_taken e vs s1 w.caught n.local u.into (stands_marked e vs s w.caught k) (into_of_wait e at u (neither_first i _ h)) a mine ok.0 in
        let f2 = body_fit b l t (waited e u.into) (waited_vars vs u.into) s2 w z k2 p (above_taken u.into n.local s1 a)
        (locals_back ns c n.local z.local (into_locals u.into) (body_locals b) (omega (arith, n1)) r12) parts.1
        (subst (λ ys. InPlace c.slots l t ys b) (sym (names_taken ns c u.into n.local s1)) ok.1) (neither_first (body_refusal (waited e u.into) b) _ m) in
        branches_fit bs l t (with_states e xs) vs s w j (joined w.hand ch d) (stands_states e xs vs s w.caught k) p (above_more ns c n.local j.local s (omega arith) a)
        (locals_back ns c n.local j.local (into_locals u.into ++ body_locals b) (branch_locals bs) (omega (arith, n1, n12, locals_count b)) r) parts.2 ok.2
        (neither_second (body_refusal (waited e u.into) b) _ m) (joined_fit w.hand ch d f f2)
