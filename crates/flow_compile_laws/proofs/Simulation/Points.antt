-- An actor and a frame at the same point, of which it is known where an error goes; and what both do with values there.
use Rattle.std.proofs.Common.{◌≡◌, ℕ, true, false, Bool, List, inr, refl, sym, ap, subst, ◌∙◌}
use Rattle.std.specs.Prelude.{option_map}
use Rattle.std.specs.declared.option.Option.{Option}
use Rattle.std.specs.declared.option.Option.TheVariants.{None, Some}
use Rattle.flow_tree.specs.declared.ty.Ident.{Ident}
use Rattle.flow_tree.specs.Tree.{ExprTree, ExprTrees}
use Rattle.flow_value.specs.Values.{ValueTree, RefValue}
use Rattle.flow_eval.specs.Answers.{bool_of}
use Rattle.flow_class.specs.Classes.{ClassTree, SetInstr, EffectInstr, TestLast, CallbackTree}
use Rattle.flow_class.specs.Code.{Fetched, Last}
use Rattle.flow_class.specs.Code as code
use Rattle.flow_class.specs.Scopes.{Scope, over, over_all}
use Rattle.flow_meaning.specs.Orderly.{Free, Risky, Due}
use Rattle.flow_meaning.specs.Requests.{Spot, Goal, Stored, Kept, Effects, Drops, Waits}
use Rattle.flow_meaning.specs.Cells.{is_some}
use Rattle.flow_meaning.specs.Process.{View, Engine}
use Rattle.flow_meaning.specs.Evaluating.{Names, StepOf, asks, given, Effectful, effect_in, effect_of, value, values}
use Rattle.flow_meaning.specs.Variables.{Vars}
use Rattle.flow_meaning.specs.Variables as source
use Rattle.flow_meaning.specs.Items.{Target, Item, Actor, actor, put_goal}
use Rattle.flow_meaning.specs.SourceStep as text
use Rattle.flow_meaning.specs.Source.{is_effect_in}
use Rattle.flow_meaning.specs.Frame.{Memory, Frame, all_emptied, reversed, spot_of, go}
use Rattle.flow_meaning.specs.Frame as frame
use Rattle.flow_meaning.specs.Class as class
use Rattle.flow_meaning.specs.Views.{actor_spot}
use Rattle.flow_meaning.specs.Carry as carry
use Rattle.flow_meaning.specs.Carry.{Pos, entry, after, JumpsTo, here, AssignBy, AssignAt}
use Rattle.flow_compile_laws.specs.Simulation.Memories.{vars_of, Held, frame_at}
use Rattle.flow_compile_laws.specs.Simulation.Matching.{ThrowsAt, RestAt, AsksFirst, ActorMatches}
use Rattle.flow_compile_laws.proofs.Simulation.Seen.{seen_lost, held_lost, locals_values}
use Rattle.flow_compile_laws.proofs.Simulation.Evals.{value_over, values_over, effect_over, effect_in_over}
use Rattle.flow_compile_laws.proofs.Simulation.Puts.{Puts}
use Rattle.flow_compile_laws.proofs.Simulation.Row.{Agree, Replied, next_is, agreed, evaluated_agree, given_agree, free}

pub record Point (ns : Names) : Type 0 where
  pub c : ClassTree
  pub m : Memory
  pub p : Pos
  pub n : ℕ
  pub s : Scope
  pub ts : List carry.Target
  pub rest : List Item
  pub held : Held c m s
  pub at : RestAt ns c s rest ts p
  pub throws : ThrowsAt ns c s rest p

module _ (d : Engine Frame) (ns : Names) (steps : (v : View) (f : Frame) → d.next v f ≡ class.next_step ns v f) (t : Point ns) where
  abbrev pub point_actor : Actor
  point_actor = actor (vars_of t.c t.m t.s) t.rest

  abbrev pub point_frame : Frame
  point_frame = frame_at t.c t.m t.p t.n

  pub may_go : ActorMatches ns Free point_actor point_frame
  may_go = inr (record { s = t.s; ts = t.ts; to = t.p; vars = refl; held = t.held; at = t.at; way = here })

  pub may_throw : ActorMatches ns Risky point_actor point_frame
  may_throw = record { s = t.s; ts = t.ts; to = t.p; vars = refl; held = t.held; at = t.at; way = (here, t.throws) }

  pub is_due : AsksFirst ns t.rest → ActorMatches ns Due point_actor point_frame
  is_due first = record { s = t.s; ts = t.ts; to = t.p; vars = refl; held = t.held; at = t.at; way = (refl, t.throws, first) }

  -- what stands at the point answers
  pub answered : (v : View) (i : Fetched) (x : StepOf Actor) → carry.at ns t.c t.p ≡ i → Agree d ns steps x (class.fetched ns v point_frame i) → Replied d ns steps v x point_frame
  answered v i x e h = agreed d ns steps v point_frame x (class.fetched ns v point_frame i) (next_is d ns steps v t.c t.m t.p t.n i e) h

  -- a value is put in place, and the actor goes on behind the statement
  pub placed_agree : (v : View) (later : Scope) (r : List Item) (left : ℕ) (o : Option (List ValueTree × Vars)) (q : Option (List ValueTree × Memory))
      → Puts t.c later o q → RestAt ns t.c later r t.ts (after t.p)
      → Agree d ns steps (given point_actor o (text.placed ns v left point_actor r)) (given point_frame q (class.placed ns v point_frame left))
  placed_agree v later r left None None h at = (refl, may_go)
  placed_agree v later r left None (Some b) h at = absurd h
  placed_agree v later r left (Some a) None h at = absurd h
  placed_agree v later r left (Some a) (Some b) h at = (
    ap (λ vs. Some (record { left = left; act = Drops vs })) (sym h.0),
    subst (λ vs. ActorMatches ns Free (actor vs r) (frame_at t.c b.1 (after t.p) t.n)) (sym h.1)
        (free d ns steps t.c b.1 later t.ts r (after t.p) (after t.p) t.n h.2 at here),
  )

  -- an effect is asked for, by the same arguments
  pub effects_agree : (v : View) (goal : Goal) (g : Effectful × ExprTrees) → AsksFirst ns t.rest
      → Agree d ns steps (text.effects ns v point_actor goal g) (class.effects ns v point_frame goal (effect_over t.c.slots t.s g))
  effects_agree v goal g first =
      evaluated_agree d ns steps point_actor point_frame
      (values ns v (source.look (vars_of t.c t.m t.s)) g.1) (values ns v (frame.look t.m) (over_all t.c.slots t.s g.1))
      (λ vs left. given point_actor (effect_of g.0 vs) (λ eff. asks left (Effects goal eff) point_actor))
      (λ vs left. given point_frame (effect_of g.0 vs) (λ eff. asks left (Effects goal eff) point_frame))
      (values_over t.c t.m t.s t.held ns v g.1) may_throw
      (λ vs left.
      given_agree d ns steps point_actor point_frame (effect_of g.0 vs) (λ eff. asks left (Effects goal eff) point_actor) (λ eff. asks left (Effects goal eff) point_frame) may_go
      (λ eff. (refl, is_due first)))

  -- an assignment of an expression, or of an effect
  pub store_row : (v : View) (goal : Target) (path : List Ident) (e : ExprTree) (later : Scope) (r : List Item) → AssignAt ns t.c t.s path e t.p
      → ((u : ValueTree) → Puts t.c later (put_goal ns.records goal u (vars_of t.c t.m t.s)) (frame.assign ns.records t.m path u))
      → RestAt ns t.c later r t.ts (after t.p) → (is_effect_in ns e ≡ true → AsksFirst ns t.rest)
      → Replied d ns steps v (text.store ns v point_actor goal e r) point_frame
  store_row v goal path e later r stands puts at first = by_effect (effect_in ns e) refl stands
    where
      by_effect : (o : Option (Effectful × ExprTrees)) → effect_in ns e ≡ o → AssignBy ns t.c o path (over t.c.slots t.s e) t.p
          → Replied d ns steps v (text.store_by ns v o point_actor goal e r) point_frame
      by_effect None eo h =
          answered v (code.Body (SetInstr path (over t.c.slots t.s e))) (text.store_by ns v None point_actor goal e r) h
          (evaluated_agree d ns steps point_actor point_frame
          (value ns v (source.look (vars_of t.c t.m t.s)) e) (value ns v (frame.look t.m) (over t.c.slots t.s e))
          (λ u left. text.place ns v left point_actor goal u r) (λ u left. given point_frame (frame.assign ns.records t.m path u) (class.placed ns v point_frame left))
          (value_over t.c t.m t.s t.held ns v e) may_throw
          (λ u left. placed_agree v later r left (put_goal ns.records goal u (vars_of t.c t.m t.s)) (frame.assign ns.records t.m path u) (puts u) at))
      by_effect (Some g) eo h =
          answered v (code.Body (EffectInstr path (over t.c.slots t.s e))) (text.store_by ns v (Some g) point_actor goal e r) h
          (subst (λ o. Agree d ns steps (text.effects ns v point_actor Stored g) (given point_frame o (class.effects ns v point_frame Stored)))
          (sym (effect_in_over ns t.c.slots t.s e ∙ ap (option_map (effect_over t.c.slots t.s)) eo))
          (effects_agree v Stored g (first (ap is_some eo))))

  -- one of two blocks by a condition
  pub test_row : (v : View) (e : ExprTree) (y z : ℕ) (main other : Actor) → carry.at ns t.c t.p ≡ Last (TestLast (over t.c.slots t.s e) y z)
      → ActorMatches ns Free main (frame_at t.c t.m (entry y) 0) → ActorMatches ns Free other (frame_at t.c t.m (entry z) 0)
      → Replied d ns steps v (text.test ns v point_actor e main other) point_frame
  test_row v e y z main other h f g =
      answered v (Last (TestLast (over t.c.slots t.s e) y z)) (text.test ns v point_actor e main other) h
      (evaluated_agree d ns steps point_actor point_frame
      (value ns v (source.look (vars_of t.c t.m t.s)) e) (value ns v (frame.look t.m) (over t.c.slots t.s e))
      (λ u left. text.choose left point_actor (bool_of u) main other) (λ u left. class.test ns v point_frame left (bool_of u) y z)
      (value_over t.c t.m t.s t.held ns v e) may_throw (λ u left. by_truth left (bool_of u)))
    where
      by_truth : (left : ℕ) (o : Option Bool) → Agree d ns steps (text.choose left point_actor o main other) (class.test ns v point_frame left o y z)
      by_truth left None = (refl, may_go)
      by_truth left (Some true) = (refl, f)
      by_truth left (Some false) = (refl, g)

  -- an error is thrown by its value
  pub error_agree : (v : View) (left : ℕ) (o : Option ℕ) → Agree d ns steps (text.throw_value ns v point_actor o left) (class.throw_value ns v point_frame left o)
  error_agree v left None = (refl, may_go)
  error_agree v left (Some err) = (refl, may_throw)

  -- the operand of a branch on both sides, or none on either
  abbrev pub SameOperand : Option ExprTree → Option CallbackTree → Type 0
  SameOperand None None = Unit {0}
  SameOperand None (Some k) = ⊥
  SameOperand (Some e) None = ⊥
  SameOperand (Some e) (Some k) = k.operand ≡ over t.c.slots t.s e

  reference_agree : (v : View) (left : ℕ) (spot : Spot) (u : ValueTree) → AsksFirst ns t.rest
      → Agree d ns steps (text.operand_ref ns v left spot point_actor u) (class.operand_ref ns v point_frame left spot u)
  reference_agree v left spot (RefValue k cell) first = (refl, is_due first)
  reference_agree v left spot u first = (refl, may_go)

  operand_agree : (v : View) (spot : Spot) (e : ExprTree) (o : Option (Effectful × ExprTrees)) → effect_in ns e ≡ o → AsksFirst ns t.rest
      → Agree d ns steps (text.operand_by ns v o point_actor spot e) (class.operand_by ns v point_frame spot (over t.c.slots t.s e) (option_map (effect_over t.c.slots t.s) o))
  operand_agree v spot e (Some g) eo first = effects_agree v (Kept spot) g first
  operand_agree v spot e None eo first =
      evaluated_agree d ns steps point_actor point_frame
      (value ns v (source.look (vars_of t.c t.m t.s)) e) (value ns v (frame.look t.m) (over t.c.slots t.s e))
      (λ u left. text.operand_ref ns v left spot point_actor u) (λ u left. class.operand_ref ns v point_frame left spot u)
      (value_over t.c t.m t.s t.held ns v e) may_throw (λ u left. reference_agree v left spot u first)

  -- the next operand is asked for, or all are kept and the actor waits
  pub await_agree : (v : View) (spot : Spot) (o : Option ExprTree) (k : Option CallbackTree) → SameOperand o k → AsksFirst ns t.rest → actor_spot point_actor ≡ spot_of t.c spot.group
      → Agree d ns steps (text.await ns v point_actor spot o) (class.choose ns v point_frame spot k)
  await_agree v spot None None h first same = (
    ap (λ vs. Some (record { left = v.left; act = Waits spot vs })) (sym (locals_values t.c t.m t.s t.held)),
    record {
      s = t.s;
      ts = t.ts;
      to = t.p;
      vars = ap (λ l. record { states = (vars_of t.c t.m t.s).states; locals = l }) (seen_lost t.m t.s);
      held = held_lost t.c t.m t.s t.held;
      at = t.at;
      way = (refl, t.throws, first, same);
    },
  )
  await_agree v spot None (Some k) h first same = absurd h
  await_agree v spot (Some e) None h first same = absurd h
  await_agree v spot (Some e) (Some k) h first same =
      subst (λ x. Agree d ns steps (text.operand_by ns v (effect_in ns e) point_actor spot e) (class.operand_by ns v point_frame spot x (effect_in ns x))) (sym h)
      (subst (λ o. Agree d ns steps (text.operand_by ns v (effect_in ns e) point_actor spot e) (class.operand_by ns v point_frame spot (over t.c.slots t.s e) o))
      (sym (effect_in_over ns t.c.slots t.s e))
      (operand_agree v spot e (effect_in ns e) refl first))
