-- The catch part of a block covers the locals of its try body that are in force at each statement in it.
use Rattle.std.proofs.Common.{◌≡◌, ℕ, zero, suc, ◌+◌, ◌<◌, ◌≤◌, Bool, true, false, List, [], ◌∷◌, ◌++◌, if◌then◌else◌, refl, ap, sym, subst, ◌∙◌, arith, append_assoc}
use Rattle.std.specs.declared.option.Option.{Option}
use Rattle.std.specs.declared.option.Option.TheVariants.{None, Some}
use Rattle.std.specs.Option.{option_map}
use Rattle.flow_tree.specs.Tree.{ExprTree}
use Rattle.flow_tree.specs.Body.{Body, End, BlockStmt, ForStmt, BreakStmt, ContinueStmt, ReturnStmt, ThrowStmt, ChooseStmt, DeclareStmt, AssignStmt, ModifyStmt, CallStmt, Branches, NoBranches, MoreBranches}
use Rattle.flow_ast.specs.Leaving.{has_statement}
use Rattle.flow_class.specs.Classes.{LastTree, GotoLast, PassLast, ChooseLast, ReturnLast, ThrowLast, ClassTree}
use Rattle.flow_class.specs.Code.{catcher_at}
use Rattle.flow_class.specs.Scopes.{Scope, Mark, Var, scope, outside, over, Above, Apart, Covers, none, this, extra}
use Rattle.flow_catch.specs.Inner.{inner_locals}
use Rattle.flow_meaning.specs.Requests.{Spot}
use Rattle.flow_meaning.specs.Evaluating.{Names}
use Rattle.flow_meaning.specs.Items.{Item, Do, Leave, Round, Check, Made, Handler, Over, Unwound, unwind}
use Rattle.flow_meaning.specs.Carry.{Pos, Target, hand_of, CaughtBy, CaughtAt}
use Rattle.flow_meaning.specs.Carry as carry
use Rattle.flow_split.specs.Around.{Exit, Text, Scoped, Part, Hand, Around, inner}
use Rattle.flow_split.specs.Counts.{Next, begun, taken, grouped, past, past_branches}
use Rattle.flow_split.specs.Lowered.{Chunk, catch_part, joined, ends, before_rest, exits, exited, finished, thrown, with_local, with_into, with_taken, later, tested, callbacks, test_before, lowered, branches}
use Rattle.flow_lowering_laws.proofs.Actors.Standing.{Stands}

-- a list with numbers from l on before it
pub data Grown (l : ℕ) (ns : List ℕ) : List ℕ → Type 0 where
  same : Grown l ns ns
  more : {n : ℕ} {ds : List ℕ} → l ≤ n → Grown l ns ds → Grown l ns (n ∷ ds)

lower_bound : {l m : ℕ} {ns ds : List ℕ} → l ≤ m → Grown m ns ds → Grown l ns ds
lower_bound le same = same
lower_bound le (more g h) = more (omega arith) (lower_bound le h)

with_first : {l k : ℕ} {ns ds : List ℕ} → l ≤ k → Grown l (k ∷ ns) ds → Grown l ns ds
with_first le same = more le same
with_first le (more g h) = more g (with_first le h)

above_apart : (l n : ℕ) (s : Scope) → l ≤ n → Above l s → Apart n s
above_apart l n [] le a = tt
above_apart l n (Mark ∷ s) le a = above_apart l n s le a
above_apart l n (Var x k ∷ s) le a = (λ e. unlike e (omega (arith, a.0)), above_apart l n s le a.1)
  where
    unlike : {n k : ℕ} → n ≡ k → k < n → ⊥
    unlike e lt = omega (arith, e)

covers_same : (s : Scope) (ns : List ℕ) → Covers s ns ns
covers_same s [] = none
covers_same s (n ∷ ns) = this (covers_same s ns)

grown_covers : (l : ℕ) (s : Scope) {ns ds : List ℕ} → Above l s → Grown l ns ds → Covers s ds ns
grown_covers l s {ns = ns} a same = covers_same s ns
grown_covers l s a (more {n = n} le h) = extra (above_apart l n s le a) (grown_covers l s a h)

-- there is no handler among the items
abbrev pub NoHandler : List Item → Type 0
NoHandler [] = Unit {0}
NoHandler (Handler x s b ∷ r) = ⊥
NoHandler (Do s b ∷ r) = NoHandler r
NoHandler (Leave ∷ r) = NoHandler r
NoHandler (Round l ∷ r) = NoHandler r
NoHandler (Check l ∷ r) = NoHandler r
NoHandler (Made l ∷ r) = NoHandler r
NoHandler (Over ∷ r) = NoHandler r

-- the innermost handler among the items stands behind so many scopes, and goes on there
abbrev pub HandlerIn : Hand → (depth : ℕ) → List Item → List Target → Type 0
HandlerIn h d [] ts = ⊥
HandlerIn h zero (Leave ∷ r) ts = ⊥
HandlerIn h (suc d) (Leave ∷ r) ts = HandlerIn h d r ts
HandlerIn h d (Handler x s b ∷ r) [] = ⊥
HandlerIn h d (Handler x s b ∷ r) (t ∷ ts) = (d ≡ 0) × (t ≡ carry.Hand h.block h.error)
HandlerIn h d (Do s b ∷ r) [] = ⊥
HandlerIn h d (Do s b ∷ r) (t ∷ ts) = HandlerIn h d r ts
HandlerIn h d (Round l ∷ r) [] = ⊥
HandlerIn h d (Round l ∷ r) (t ∷ ts) = HandlerIn h d r ts
HandlerIn h d (Check l ∷ r) [] = ⊥
HandlerIn h d (Check l ∷ r) (t ∷ ts) = HandlerIn h d r ts
HandlerIn h d (Made l ∷ r) [] = ⊥
HandlerIn h d (Made l ∷ r) (t ∷ ts) = HandlerIn h d r ts
HandlerIn h d (Over ∷ r) ts = ⊥

abbrev pub HandIn : Option Hand → (depth : ℕ) → List Item → List Target → Type 0
HandIn None d r ts = NoHandler r
HandIn (Some h) d r ts = HandlerIn h d r ts

not_unwound : (ps : List ℕ) (s : Scope) (r : List Item) → NoHandler r → unwind ps s r ≡ None
not_unwound ps s [] h = refl
not_unwound ps s (Handler x y b ∷ r) h = absurd h
not_unwound ps s (Do x b ∷ r) h = not_unwound ps s r h
not_unwound ps s (Leave ∷ r) h = not_unwound (ps ++ scope s) (outside s) r h
not_unwound ps s (Round l ∷ r) h = not_unwound ps s r h
not_unwound ps s (Check l ∷ r) h = not_unwound ps s r h
not_unwound ps s (Made l ∷ r) h = not_unwound ps s r h
not_unwound ps s (Over ∷ r) h = not_unwound ps s r h

uncaught_part : (acts : Bool) (held : List ℕ) → catch_part acts None held ≡ None
uncaught_part true held = refl
uncaught_part false held = refl

module _ (ns : Names) (c : ClassTree) where
  -- what an error leaves, and where it goes on
  record Unwinds (h : Hand) (d : ℕ) (ps : List ℕ) (s : Scope) (r : List Item) (ts : List Target) : Type 0 where
    to : Unwound ℕ
    is : unwind ps s r ≡ Some to
    left : to.left ≡ ps ++ inner_locals d s
    hand : hand_of ns c r ts ≡ Some (h.block, h.error)

  unwinds : (h : Hand) (d : ℕ) (ps : List ℕ) (s : Scope) (r : List Item) (ts : List Target) → HandlerIn h d r ts → Unwinds h d ps s r ts
  unwinds h d ps s [] ts i = absurd i
  unwinds h zero ps s (Leave ∷ r) ts i = absurd i
  unwinds h (suc d) ps s (Leave ∷ r) ts i =
      let u = unwinds h d (ps ++ scope s) (outside s) r ts i in
      record { to = u.to; is = u.is; left = u.left ∙ append_assoc ps (scope s) (inner_locals d (outside s)); hand = u.hand }
  unwinds h d ps s (Handler x y b ∷ r) [] i = absurd i
  unwinds h d ps s (Handler x y b ∷ r) (t ∷ ts) i = record {
    to = record { left = ps; locals = s; name = x; site = y; handler = b; rest = r };
    is = refl;
    left = none_left ps ∙ ap (λ k. ps ++ inner_locals k s) (sym i.0);
    hand = ap (λ k. hand_of ns c (Handler x y b ∷ r) (k ∷ ts)) i.1;
  }
    where
      none_left : (ps : List ℕ) → ps ≡ ps ++ []
      none_left [] = refl
      none_left (p ∷ ps) = ap (λ qs. p ∷ qs) (none_left ps)
  unwinds h d ps s (Do y b ∷ r) [] i = absurd i
  unwinds h d ps s (Do y b ∷ r) (t ∷ ts) i = let u = unwinds h d ps s r ts i in record { to = u.to; is = u.is; left = u.left; hand = u.hand }
  unwinds h d ps s (Round l ∷ r) [] i = absurd i
  unwinds h d ps s (Round l ∷ r) (t ∷ ts) i = let u = unwinds h d ps s r ts i in record { to = u.to; is = u.is; left = u.left; hand = u.hand }
  unwinds h d ps s (Check l ∷ r) [] i = absurd i
  unwinds h d ps s (Check l ∷ r) (t ∷ ts) i = let u = unwinds h d ps s r ts i in record { to = u.to; is = u.is; left = u.left; hand = u.hand }
  unwinds h d ps s (Made l ∷ r) [] i = absurd i
  unwinds h d ps s (Made l ∷ r) (t ∷ ts) i = let u = unwinds h d ps s r ts i in record { to = u.to; is = u.is; left = u.left; hand = u.hand }
  unwinds h d ps s (Over ∷ r) ts i = absurd i

  pub uncaught : (p : Pos) (n : ℕ) (x : Spot) (h : Option Hand) (ch : Chunk) → h ≡ None → Stands ns c p n x h ch → catcher_at c p.block ≡ None
  uncaught p n x h ch e st = st.caught ∙ ap (λ o. catch_part st.acts o ch.held) e ∙ uncaught_part st.acts ch.held

  -- where a statement stands in a chunk, its block catches as the items say
  pub caught_by : (l d : ℕ) (s : Scope) (r : List Item) (ts : List Target) (p : Pos) (n : ℕ) (x : Spot) (h : Option Hand) (ch : Chunk) → Above l s → HandIn h d r ts
      → Grown l (inner_locals d s) ch.held
      → ch.acts ≡ true → Stands ns c p n x h ch → CaughtAt ns c s r ts p
  caught_by l d s r ts p n x None ch a i g acts st =
      subst (λ o. CaughtBy ns c s o (hand_of ns c r ts) p) (sym (not_unwound [] s r i)) (uncaught p n x None ch refl st)
  caught_by l d s r ts p n x (Some h) ch a i g acts st =
      let u = unwinds h d [] s r ts i in
      let caught = st.caught ∙ ap (λ b. catch_part b (Some h) ch.held) (st.acted acts) in
      subst (λ o. CaughtBy ns c s o (hand_of ns c r ts) p) (sym u.is)
      (subst (λ o. CaughtBy ns c s (Some u.to) o p) (sym u.hand)
      (ch.held, caught, subst (λ ps. Covers s ch.held ps) (sym u.left) (grown_covers l s a g)))

  -- what a body holds at the end of its first block
  inner_more : (l d : ℕ) (x : List ℕ) (s : Scope) (ds : List ℕ) → Grown (suc l) (inner_locals d (Var x l ∷ s)) ds → Grown l (inner_locals d s) ds
  inner_more l zero x s ds g = lower_bound (omega arith) g
  inner_more l (suc d) x s ds g = with_first (omega arith) (lower_bound (omega arith) g)

  local_held : (b : Bool) (l d : ℕ) (x : List ℕ) (s : Scope) (ds : List ℕ) → Grown ((if b then 0 else 1) + l) (inner_locals d (with_local b x l s)) ds → Grown l (inner_locals d s) ds
  local_held true l d x s ds g = lower_bound (omega arith) g
  local_held false l d x s ds g = inner_more l d x s ds (lower_bound (omega arith) g)

  exits_held : (t : Bool) (w : Around) (s : Scope) (n : Next) (l : LastTree) → (exits t w s n l).held ≡ inner_locals w.depth s
  exits_held false w s n l = refl
  exits_held true w s n l = refl

  finished_held : (w : Around) (s : Scope) (x : Exit) → (finished w s x).held ≡ inner_locals w.depth s
  finished_held w s (Text close) = refl
  finished_held w s (Scoped l) = refl
  finished_held w s (Part l) = refl

  rest_held : (h : Option Hand) (a b : Chunk) (k : Body) → (before_rest h a k b).held ≡ a.held
  rest_held h a b k = by_cases (has_statement k)
    where
      by_cases : (t : Bool) → (if t then joined h a b else a).held ≡ a.held
      by_cases true = refl
      by_cases false = refl

  test_held : (w : Around) (s : Scope) (e : Option ExprTree) (m o : ℕ) (a : Chunk) → (test_before ns c.slots w s e m o a).held ≡ a.held
  test_held w s None m o a = refl
  test_held w s (Some e) m o a = refl

  still : (l : ℕ) (ds es : List ℕ) → ds ≡ es → Grown l es ds
  still l ds es e = subst (λ x. Grown l es x) (sym e) same

  branches_held : (a : Chunk) (s : Scope) (w : Around) (n : Next) (bs : Branches) → (branches ns c.slots a s w n bs).held ≡ a.held
  branches_held a s w n NoBranches = refl
  branches_held a s w n (MoreBranches at v b bs) =
      let m = taken v.into (begun n) in
      branches_held (joined w.hand a (lowered ns c.slots (with_taken v.into n.local (Mark ∷ s)) w m b)) s w (past w.looped.tried b m) bs

  pub lowered_held : (s : Scope) (w : Around) (n : Next) (b : Body) → Grown n.local (inner_locals w.depth s) (lowered ns c.slots s w n b).held
  lowered_held s w n End = still n.local _ _ (finished_held w s w.exit)
  lowered_held s w n (BlockStmt at b k) = lowered_held (Mark ∷ s) (inner w (Scoped (GotoLast (past w.looped.tried b n).block))) n b
  lowered_held s w n (ForStmt at i e p b k) =
      let f = past w.looped.tried i n in
      let g = tested e f in
      let o = past w.looped.tried p (begun (past false b (begun g))) in
      let v = inner w (Part (PassLast f.block)) in
      subst (λ ds. Grown n.local (inner_locals w.depth s) ds) (sym (test_held v (later i n.local (Mark ∷ s)) e g.block o.block (lowered ns c.slots (Mark ∷ s) v n i)))
      (lowered_held (Mark ∷ s) v n i)
  lowered_held s w n (BreakStmt at k) =
      let a = exits w.looped.tried w s n (GotoLast w.looped.out) in
      still n.local _ _ (rest_held w.hand a (lowered ns c.slots s w (begun (exited w.looped.tried n)) k) k ∙ exits_held w.looped.tried w s n (GotoLast w.looped.out))
  lowered_held s w n (ContinueStmt at k) =
      let a = exits w.looped.tried w s n w.looped.again in
      still n.local _ _ (rest_held w.hand a (lowered ns c.slots s w (begun (exited w.looped.tried n)) k) k ∙ exits_held w.looped.tried w s n w.looped.again)
  lowered_held s w n (ReturnStmt at e k) = still n.local _ _ (rest_held w.hand (ends w s true [] (ReturnLast (option_map (over c.slots s) e))) (lowered ns c.slots s w (begun n) k) k)
  lowered_held s w n (ThrowStmt at e k) =
      still n.local _ _ (rest_held w.hand (ends w s true [] (ThrowLast (thrown ns c.slots s at e w.caught))) (lowered ns c.slots s w (begun n) k) k)
  lowered_held s w n (ChooseStmt at bs k) =
      let g = grouped n in
      let t = w.looped.tried in
      let c0 : Chunk = record (ends w s true [] (ChooseLast n.group)) { groups = callbacks ns c.slots s t g bs ∷ [] } in
      still n.local _ _ (branches_held c0 s (inner w (Scoped (GotoLast (past_branches t bs g).block))) g bs)
  lowered_held s w n (DeclareStmt at i e k) =
      local_held i.state n.local w.depth i.name.name s _ (lowered_held (with_into i n.local s) w (taken (Some i) n) k)
  lowered_held s w n (AssignStmt at xs e k) = lowered_held s w n k
  lowered_held s w n (ModifyStmt at xs d k) = lowered_held s w n k
  lowered_held s w n (CallStmt at xs es k) = lowered_held s w n k
  lowered_held s w n _ = same
