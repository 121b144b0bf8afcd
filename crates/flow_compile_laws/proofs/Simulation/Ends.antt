-- Statements that end an actor, throw, or call; and the end of a text.
use Rattle.std.proofs.Common.{◌≡◌, ℕ, List, [], ◌∷◌, inl, inr, refl, sym, ap, subst, ◌∙◌, codes}
use Rattle.std.specs.Prelude.{option_map, Bool, true, false}
use Rattle.std.specs.declared.option.Option.{Option}
use Rattle.std.specs.declared.option.Option.TheVariants.{None, Some}
use Rattle.flow_base.specs.declared.place.Place.{Place}
use Rattle.flow_base.specs.ErrorNumbers.{operation_cancelled}
use Rattle.flow_tree.specs.declared.ty.Ident.{Ident}
use Rattle.flow_tree.specs.Tree.{ExprTree, ExprTrees, VarExpr, CallExpr, NoExprs, VoidExpr, returned_expr}
use Rattle.flow_tree.specs.Body.{Body, ReturnStmt, ThrowStmt, CallStmt, End}
use Rattle.flow_ast.specs.TypingNames.{named, constant_names}
use Rattle.flow_value.specs.Values.{ValueTree, VoidValue}
use Rattle.flow_eval.specs.Answers.{Answer, error_of}
use Rattle.flow_eval.specs.Eval.{Res, Done, Fails, Spent, Meaningless, at_once, found, variable}
use Rattle.flow_class.specs.declared.class.Slotted.{Slotted}
use Rattle.flow_class.specs.Classes.{ClassTree, ActInstr, ReturnLast, ThrowLast}
use Rattle.flow_class.specs.Places.{place_named}
use Rattle.flow_class.specs.Code.{Last}
use Rattle.flow_class.specs.Code as code
use Rattle.flow_class.specs.Scopes.{Scope, place_of, over, over_all, act_over}
use Rattle.flow_meaning.specs.Orderly.{Risky, Free}
use Rattle.flow_meaning.specs.Requests.{Act, Effects, Operand, Waits, Sends, SendsTo, Returns, Throws, Drops}
use Rattle.flow_meaning.specs.Process.{View, Engine}
use Rattle.flow_meaning.specs.Evaluating.{Names, bind, StepOf, asks, evaluated, value, call_act, given, Change, change_of, base_of, storing, call_by}
use Rattle.flow_meaning.specs.Law.{phase_after}
use Rattle.flow_meaning.specs.Variables.{flat, Vars}
use Rattle.flow_meaning.specs.Variables as source
use Rattle.flow_meaning.specs.Items.{Site, Item, Do, Actor, actor, everything, Unwound, unwind}
use Rattle.flow_meaning.specs.Items as item
use Rattle.flow_meaning.specs.SourceStep as text
use Rattle.flow_meaning.specs.Frame.{Memory, Frame, read}
use Rattle.flow_meaning.specs.Frame as frame
use Rattle.flow_meaning.specs.Class as class
use Rattle.flow_meaning.specs.Carry as carry
use Rattle.flow_meaning.specs.Carry.{Pos, after, Target, here, hand_of, CaughtBy, TextEndsAt}
use Rattle.flow_meaning.specs.Carries.{ThrowAt}
use Rattle.flow_compile_laws.specs.Simulation.Memories.{vars_of, Held, frame_at}
use Rattle.flow_compile_laws.specs.Simulation.Matching.{StmtsAt, body, RestAt, ThrowsAt, Beside, ActorMatches}
use Rattle.flow_compile_laws.proofs.Simulation.Places.{place_no_constant}
use Rattle.flow_compile_laws.proofs.Simulation.Seen.{place_found, every_value}
use Rattle.flow_compile_laws.proofs.Simulation.Evals.{value_over, call_over, IsMild, AllMild, call_mild, storing_over, change_over, base_over}
use Rattle.flow_compile_laws.proofs.Simulation.Row.{Agree, Replied, later, next_is, jumps, agreed, risks, evaluated_agree, risky, free}
use Rattle.flow_compile_laws.proofs.Simulation.Parts.{whole, throws_behind, text_ends}
use Rattle.flow_compile_laws.proofs.Simulation.Points.{Point, point_actor, point_frame, may_go, may_throw, answered, error_agree}
use Rattle.flow_compile_laws.proofs.Simulation.Puts.{Puts, assign_puts}

module _ (d : Engine Frame) (ns : Names) (steps : (v : View) (f : Frame) → d.next v f ≡ class.next_step ns v f) (v : View) (c : ClassTree) (m : Memory) (p : Pos) (n : ℕ) (s : Scope) (ts : List Target)
    (held : Held c m s) where
  -- the end of a text returns, or throws
  module _ (x : Site) (h : StmtsAt ns c s [] ts x End p) where
    abbrev rest : List Item
    rest = Do x End ∷ []

    text_returns : TextEndsAt ns c true p → Replied d ns steps v (text.end_body ns v (actor (vars_of c m s) rest) true []) (frame_at c m p n)
    text_returns w =
        let j = jumps d ns steps v c m n w.1 in
        let a = asks v.left (Returns VoidValue (everything (vars_of c m s))) item.over in
        let f = frame_at c m w.0 j.0 in
        later d ns steps v a.0 a.1 (frame_at c m p n) f j.1
        (agreed d ns steps v f a (asks v.left (Returns VoidValue (frame.everything m)) frame.over) (next_is d ns steps v c m w.0 j.0 (Last (ReturnLast None)) w.2)
        (ap (λ vs. Some (record { left = v.left; act = Returns VoidValue vs })) (sym (every_value c m s held)), inl (refl, refl)))

    named_error : (f : Ident) → f.name ≡ codes "operation_cancelled" → (g : Frame) → class.last ns v g (ThrowLast (CallExpr f NoExprs)) ≡ asks v.left (Throws operation_cancelled) g
    named_error f e g = subst (λ l. class.last ns v g (ThrowLast (CallExpr (record f { name = l }) NoExprs)) ≡ asks v.left (Throws operation_cancelled) g) (sym e) refl

    text_throws : (w : TextEndsAt ns c false p) → StmtsAt ns c s [] ts x End w.0 → Replied d ns steps v (text.end_body ns v (actor (vars_of c m s) rest) false []) (frame_at c m p n)
    text_throws w there =
        let j = jumps d ns steps v c m n w.2 in
        let a = asks v.left (Throws operation_cancelled) (actor (vars_of c m s) rest) in
        let f = frame_at c m w.0 j.0 in
        later d ns steps v a.0 a.1 (frame_at c m p n) f j.1
        (agreed d ns steps v f a (asks v.left (Throws operation_cancelled) f)
        (next_is d ns steps v c m w.0 j.0 (Last (ThrowLast (CallExpr w.1 NoExprs))) w.3 ∙ named_error w.1 w.4 f) (
          refl,
          risky d ns steps c m s ts rest w.0 w.0 j.0 held there here
              (record { items = []; targets = ts; same = λ ps ls. refl; below = tt; caught = w.5 }),
        ))

    by_void : (void : Bool) → x.is_void ≡ void → TextEndsAt ns c void p → Replied d ns steps v (text.end_body ns v (actor (vars_of c m s) rest) void []) (frame_at c m p n)
    by_void true e w = text_returns w
    by_void false e w = text_throws w (body (subst (λ b. TextEndsAt ns c b w.0) (sym e) (w.0, w.1, here, w.3, w.4, w.5)) tt)

    pub text_row : Replied d ns steps v (text.do_body ns v (actor (vars_of c m s) rest) x End []) (frame_at c m p n)
    text_row = by_void x.is_void refl (text_ends ns c s ts x p h)

  -- the error of a catch, by its variable
  abbrev thrown : Point ns → Answer → StepOf Frame
  thrown t q = evaluated (point_frame d ns steps t) (at_once q v.left) (λ u left. class.throw_value ns v (point_frame d ns steps t) left (error_of u))

  read_agree : (t : Point ns) (o : Option ValueTree) → Agree d ns steps (text.throw_value ns v (point_actor d ns steps t) (bind o error_of) v.left) (thrown t (found o))
  read_agree t None = (refl, may_go d ns steps t)
  read_agree t (Some u) = error_agree d ns steps t v v.left (error_of u)

  caught_agree : (t : Point ns) (z : List ℕ) (o : Option Slotted) → place_named z ≡ o → (q : Option ℕ) → named constant_names z ≡ q
      → Agree d ns steps (text.throw_value ns v (point_actor d ns steps t) (bind (flat (option_map (read t.m) o)) error_of) v.left) (thrown t (variable (frame.look t.m) z q))
  caught_agree t z None e (Some k) f = (refl, may_go d ns steps t)
  caught_agree t z (Some y) e (Some k) f = absurd (no_constant_there (place_no_constant z y e) f)
    where
      no_constant_there : {a : Option ℕ} {k : ℕ} → a ≡ None → a ≡ Some k → ⊥
      no_constant_there g h = cc
  caught_agree t z None e None f =
      subst (λ i. Agree d ns steps (text.throw_value ns v (point_actor d ns steps t) None v.left) (thrown t (found (bind i (read t.m))))) (sym e) (refl, may_go d ns steps t)
  caught_agree t z (Some y) e None f =
      subst (λ i. Agree d ns steps (text.throw_value ns v (point_actor d ns steps t) (bind (read t.m y) error_of) v.left) (thrown t (found (bind i (read t.m))))) (sym e) (read_agree t (read t.m y))

  module _ (r : List Item) (x : Site) where
    returned_over : (e : Option ExprTree)
        → value ns v (frame.look m) (returned_expr (option_map (over c.slots s) e)) ≡ value ns v (source.look (vars_of c m s)) (returned_expr e)
    returned_over None = value_over c m s held ns v VoidExpr
    returned_over (Some e) = value_over c m s held ns v e

    pub return_row : (at : Place) (e : Option ExprTree) (k : Body) → StmtsAt ns c s r ts x (ReturnStmt at e k) p
        → Replied d ns steps v (text.do_body ns v (actor (vars_of c m s) (Do x (ReturnStmt at e k) ∷ r)) x (ReturnStmt at e k) r) (frame_at c m p n)
    return_row at e k h =
        let w = whole ns c s r ts x (ReturnStmt at e k) p tt h in
        let t : Point ns = record {
          c = c;
          m = m;
          p = p;
          n = n;
          s = s;
          ts = ts;
          rest = Do x (ReturnStmt at e k) ∷ r;
          held = held;
          at = h;
          throws = throws_behind ns c s r ts x (ReturnStmt at e k) p w.0.0 w.1;
        } in
        answered d ns steps t v (Last (ReturnLast (option_map (over c.slots s) e))) (text.do_body ns v (point_actor d ns steps t) x (ReturnStmt at e k) r) w.0.1
        (evaluated_agree d ns steps (point_actor d ns steps t) (point_frame d ns steps t)
        (value ns v (source.look (vars_of c m s)) (returned_expr e)) (value ns v (frame.look m) (returned_expr (option_map (over c.slots s) e)))
        (λ u left. asks left (Returns u (everything (vars_of c m s))) item.over) (λ u left. asks left (Returns u (frame.everything m)) frame.over)
        (returned_over e) (may_throw d ns steps t)
        (λ u left. (ap (λ vs. Some (record { left = left; act = Returns u vs })) (sym (every_value c m s held)), inl (refl, refl))))

    -- the error of the catch around, by its variable
    caught_row : (at : Place) (k : Body) → (h : StmtsAt ns c s r ts x (ThrowStmt at None k) p) (throws : ThrowsAt ns c s (Do x (ThrowStmt at None k) ∷ r) p) (y : List ℕ) (z : Ident)
        → carry.at ns c p ≡ Last (ThrowLast (VarExpr z)) → place_named z.name ≡ place_of c.slots s y
        → Replied d ns steps v (text.throw_value ns v (actor (vars_of c m s) (Do x (ThrowStmt at None k) ∷ r)) (bind (source.look (vars_of c m s) y) error_of) v.left) (frame_at c m p n)
    caught_row at k h throws y z stands same =
        let t : Point ns = record { c = c; m = m; p = p; n = n; s = s; ts = ts; rest = Do x (ThrowStmt at None k) ∷ r; held = held; at = h; throws = throws } in
        answered d ns steps t v (Last (ThrowLast (VarExpr z))) (text.throw_value ns v (point_actor d ns steps t) (bind (source.look (vars_of c m s) y) error_of) v.left) stands
        (subst (λ o. Agree d ns steps (text.throw_value ns v (point_actor d ns steps t) (bind (flat o) error_of) v.left) (thrown t (variable (frame.look m) z.name (named constant_names z.name))))
        (sym (place_found c m s held y))
        (caught_agree t z.name (place_of c.slots s y) same (named constant_names z.name) refl))

    pub throw_row : (at : Place) (e : Option ExprTree) (k : Body) → StmtsAt ns c s r ts x (ThrowStmt at e k) p
        → Replied d ns steps v (text.do_body ns v (actor (vars_of c m s) (Do x (ThrowStmt at e k) ∷ r)) x (ThrowStmt at e k) r) (frame_at c m p n)
    throw_row at (Some e) k h =
        let w = whole ns c s r ts x (ThrowStmt at (Some e) k) p tt h in
        let t : Point ns = record {
          c = c;
          m = m;
          p = p;
          n = n;
          s = s;
          ts = ts;
          rest = Do x (ThrowStmt at (Some e) k) ∷ r;
          held = held;
          at = h;
          throws = throws_behind ns c s r ts x (ThrowStmt at (Some e) k) p w.0.0 w.1;
        } in
        answered d ns steps t v (Last (ThrowLast (over c.slots s e))) (text.do_body ns v (point_actor d ns steps t) x (ThrowStmt at (Some e) k) r) w.0.1
        (evaluated_agree d ns steps (point_actor d ns steps t) (point_frame d ns steps t)
        (value ns v (source.look (vars_of c m s)) e) (value ns v (frame.look m) (over c.slots s e))
        (λ u left. text.throw_value ns v (point_actor d ns steps t) (error_of u) left) (λ u left. class.throw_value ns v (point_frame d ns steps t) left (error_of u))
        (value_over c m s held ns v e) (may_throw d ns steps t) (λ u left. error_agree d ns steps t v left (error_of u)))
    throw_row at None k h =
        let w = whole ns c s r ts x (ThrowStmt at None k) p tt h in
        by_caught x.caught w.0.1 (throws_behind ns c s r ts x (ThrowStmt at None k) p w.0.0 w.1)
      where
        by_caught : (o : Option (List ℕ)) → ThrowAt ns c s None o p → ThrowsAt ns c s (Do x (ThrowStmt at None k) ∷ r) p
            → Replied d ns steps v (text.throws ns v (actor (vars_of c m s) (Do x (ThrowStmt at None k) ∷ r)) None o) (frame_at c m p n)
        by_caught None w throws = absurd w
        by_caught (Some y) w throws = caught_row at k h throws y w.0 w.1 w.2

    -- a call asks for the same, and for no effect
    mild_stands : (act : Act) (a : Actor) (f : Frame) → IsMild act → Beside ns Risky a f → ActorMatches ns (phase_after act) a f
    mild_stands (Effects goal eff) a f i b = absurd i
    mild_stands (Operand spot q) a f i b = absurd i
    mild_stands (Waits spot vs) a f i b = absurd i
    mild_stands (Sends j o) a f i b = b
    mild_stands (SendsTo q port t) a f i b = b
    mild_stands (Throws e) a f i b = b
    mild_stands _ a f i b = inr (risks d ns steps a f b)

    call_agree : (t : Point ns) (next : Actor) (g : Frame) (q : Res Act) → AllMild q → Beside ns Risky next g
        → Agree d ns steps (evaluated (point_actor d ns steps t) q (λ act left. asks left act next)) (evaluated (point_frame d ns steps t) q (λ act left. asks left act g))
    call_agree t next g (Done act left) i b = (refl, mild_stands act next g i b)
    call_agree t next g (Fails e left) i b = (refl, may_throw d ns steps t)
    call_agree t next g Spent i b = (refl, may_go d ns steps t)
    call_agree t next g Meaningless i b = (refl, may_go d ns steps t)

    -- an error at the next instruction goes to the same handler
    caught_after : (o : Option (Unwound ℕ)) (g : Option (ℕ × ℕ)) → CaughtBy ns c s o g p → CaughtBy ns c s o g (after p)
    caught_after None g h = h
    caught_after (Some u) None h = h
    caught_after (Some u) (Some g) h = h

    -- what is put in place on both sides, or on neither
    put_agree : {k : Body} (t : Point ns) (ds : List ValueTree) (left : ℕ) (o : Option (List ValueTree × Vars)) (q : Option (List ValueTree × Memory)) → Puts c s o q
        → RestAt ns c s (Do x k ∷ r) ts (after p)
        → Agree d ns steps (given (point_actor d ns steps t) (option_map (λ (b : List ValueTree × Vars). actor b.1 (Do x k ∷ r)) o) (λ a. asks left (Drops ds) a))
        (given (point_frame d ns steps t) (option_map (λ (b : List ValueTree × Memory). frame_at c b.1 (after p) n) q) (λ f. asks left (Drops ds) f))
    put_agree t ds left None None h at = (refl, may_go d ns steps t)
    put_agree t ds left None (Some g) h at = absurd h
    put_agree t ds left (Some b) None h at = absurd h
    put_agree {k} t ds left (Some b) (Some g) h at =
        (refl, subst (λ vs. ActorMatches ns Free (actor vs (Do x k ∷ r)) (frame_at c g.1 (after p) n)) (sym h.1) (free d ns steps c g.1 s ts (Do x k ∷ r) (after p) (after p) n h.2 at here))

    pub call_row : (at : Place) (xs : List Ident) (es : ExprTrees) (k : Body) → StmtsAt ns c s r ts x (CallStmt at xs es k) p
        → Replied d ns steps v (text.do_body ns v (actor (vars_of c m s) (Do x (CallStmt at xs es k) ∷ r)) x (CallStmt at xs es k) r) (frame_at c m p n)
    call_row at xs es k h =
        let w = whole ns c s r ts x (CallStmt at xs es k) p tt h in
        let t : Point ns = record {
          c = c;
          m = m;
          p = p;
          n = n;
          s = s;
          ts = ts;
          rest = Do x (CallStmt at xs es k) ∷ r;
          held = held;
          at = h;
          throws = throws_behind ns c s r ts x (CallStmt at xs es k) p w.0.0 w.1;
        } in
        let next = risky d ns steps c m s ts (Do x k ∷ r) (after p) (after p) n held (body w.0.2 w.1) here
        (throws_behind ns c s r ts x k (after p) (caught_after (unwind [] s r) (hand_of ns c r ts) w.0.0) w.1) in
        answered d ns steps t v (code.Body (ActInstr (act_over c.slots s xs) (over_all c.slots s es))) (text.do_body ns v (point_actor d ns steps t) x (CallStmt at xs es k) r) w.0.1
        (subst (λ q. Agree d ns steps (text.do_body ns v (point_actor d ns steps t) x (CallStmt at xs es k) r)
        (call_by ns v (frame.look m) q (frame_at c m p n) (frame_at c m (after p) n) (class.put_path ns v (frame_at c m p n)) (act_over c.slots s xs) (over_all c.slots s es)))
        (sym (change_over c s xs)) (by_change h t.throws next (body w.0.2 w.1) (change_of xs)))
      where
        by_change : (h : StmtsAt ns c s r ts x (CallStmt at xs es k) p) (throws : ThrowsAt ns c s (Do x (CallStmt at xs es k) ∷ r) p) → Beside ns Risky (actor (vars_of c m s) (Do x k ∷ r)) (frame_at c m (after p) n)
            → RestAt ns c s (Do x k ∷ r) ts (after p) → (o : Option Change)
            → Agree d ns steps
            (call_by ns v (source.look (vars_of c m s)) o (actor (vars_of c m s) (Do x (CallStmt at xs es k) ∷ r)) (actor (vars_of c m s) (Do x k ∷ r)) (text.put_path ns v (actor (vars_of c m s) (Do x (CallStmt at xs es k) ∷ r)) (Do x k ∷ r)) xs es)
            (call_by ns v (frame.look m) o (frame_at c m p n) (frame_at c m (after p) n) (class.put_path ns v (frame_at c m p n)) (act_over c.slots s xs) (over_all c.slots s es))
        by_change h throws next stands None =
            let t : Point ns = record { c = c; m = m; p = p; n = n; s = s; ts = ts; rest = Do x (CallStmt at xs es k) ∷ r; held = held; at = h; throws = throws } in
            subst (λ q. Agree d ns steps (evaluated (point_actor d ns steps t) (call_act ns v (source.look (vars_of c m s)) xs es) (λ act left. asks left act (actor (vars_of c m s) (Do x k ∷ r))))
            (evaluated (point_frame d ns steps t) q (λ act left. asks left act (frame_at c m (after p) n))))
            (sym (call_over c m s held ns v xs es))
            (call_agree t (actor (vars_of c m s) (Do x k ∷ r)) (frame_at c m (after p) n) (call_act ns v (source.look (vars_of c m s)) xs es) (call_mild ns v (source.look (vars_of c m s)) xs es) next)
        by_change h throws next stands (Some how) =
            let t : Point ns = record { c = c; m = m; p = p; n = n; s = s; ts = ts; rest = Do x (CallStmt at xs es k) ∷ r; held = held; at = h; throws = throws } in
            evaluated_agree d ns steps (point_actor d ns steps t) (point_frame d ns steps t) (storing ns v (source.look (vars_of c m s)) how (base_of xs) es)
            (storing ns v (frame.look m) how (base_of (act_over c.slots s xs)) (over_all c.slots s es))
            (λ g left. given (point_actor d ns steps t) (text.put_path ns v (point_actor d ns steps t) (Do x k ∷ r) (base_of xs) g.0) (λ a. asks left (Drops g.1) a))
            (λ g left. given (point_frame d ns steps t) (class.put_path ns v (point_frame d ns steps t) (base_of (act_over c.slots s xs)) g.0) (λ a. asks left (Drops g.1) a))
            (storing_over c m s held ns v how xs es) (may_throw d ns steps t)
            (λ g left. put_agree t g.1 left (item.assign ns.records (base_of xs) g.0 (vars_of c m s)) (frame.assign ns.records m (base_of (act_over c.slots s xs)) g.0)
            (subst (λ ys. Puts c s (item.assign ns.records (base_of xs) g.0 (vars_of c m s)) (frame.assign ns.records m ys g.0)) (sym (base_over c s xs))
            (assign_puts ns c m s held (base_of xs) g.0)) stands)
