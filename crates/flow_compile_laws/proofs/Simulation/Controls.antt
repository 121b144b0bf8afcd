-- Blocks, conditions, loops and `try`, and the items that they leave behind.
use Rattle.std.proofs.Common.{◌≡◌, ℕ, List, ◌∷◌, refl, sym, ap, subst}
use Rattle.std.specs.declared.option.Option.{Option}
use Rattle.std.specs.declared.option.Option.TheVariants.{None, Some}
use Rattle.flow_base.specs.declared.place.Place.{Place}
use Rattle.flow_tree.specs.declared.ty.Ident.{Ident}
use Rattle.flow_tree.specs.Tree.{ExprTree}
use Rattle.flow_tree.specs.Body.{Body, End, BlockStmt, IfStmt, IfElseStmt, WhileStmt, ForStmt, LoopStmt, TryStmt, DeclareStmt, AssignStmt, ModifyStmt}
use Rattle.flow_class.specs.Classes.{ClassTree, PassLast}
use Rattle.flow_class.specs.Code.{Last}
use Rattle.flow_class.specs.Scopes.{Scope, Mark, outside}
use Rattle.flow_meaning.specs.Requests.{Pass}
use Rattle.flow_meaning.specs.Process.{View, Engine}
use Rattle.flow_meaning.specs.Evaluating.{Names, asks, quietly}
use Rattle.flow_meaning.specs.Law.{still}
use Rattle.flow_meaning.specs.Items.{Site, Loop, Item, Do, Leave, Round, Check, Made, Handler, Actor, actor, site_past}
use Rattle.flow_meaning.specs.SourceStep as text
use Rattle.flow_meaning.specs.Frame.{Memory, Frame}
use Rattle.flow_meaning.specs.Class as class
use Rattle.flow_meaning.specs.Carry.{Pos, entry, Target, At, Again, Hand, JumpsTo, here, SimpleAt}
use Rattle.flow_meaning.specs.Carries.{LoopAt, BodyAt}
use Rattle.flow_compile_laws.specs.Simulation.Memories.{vars_of, Held, frame_at}
use Rattle.flow_compile_laws.specs.Simulation.Matching.{Below, StmtsAt, body, part, RestAt}
use Rattle.flow_compile_laws.proofs.Simulation.Seen.{held_mark}
use Rattle.flow_compile_laws.proofs.Simulation.Row.{Replied, later, next_is, jumps, agreed, free}
use Rattle.flow_compile_laws.proofs.Simulation.Parts.{whole, throws_behind, declared_outside, Resumes, resumes, ends_at}
use Rattle.flow_compile_laws.proofs.Simulation.Points.{Point, test_row}

-- the init of a `for` leaves what is outside its scope
simple_outside : (ns : Names) (c : ClassTree) (s : Scope) (r : List Item) (ts : List Target) (b : Body) (p q : Pos) (s2 : Scope) → SimpleAt ns c s r ts b p q s2 → outside s2 ≡ outside s
simple_outside ns c s r ts End p q s2 h = ap outside h.1
simple_outside ns c s r ts (DeclareStmt at i e End) p q s2 h = declared_outside ns c s i h.1 s2 h.3
simple_outside ns c s r ts (AssignStmt at xs e End) p q s2 h = ap outside h.3
simple_outside ns c s r ts (ModifyStmt at xs d End) p q s2 h = ap outside h.3
simple_outside ns c s r ts b p q s2 h = absurd h

module _ (d : Engine Frame) (ns : Names) (steps : (v : View) (f : Frame) → d.next v f ≡ class.next_step ns v f) (v : View) (c : ClassTree) (m : Memory) where
  -- what quietly stays where it is, or is at a point further on
  quiet_row : (s : Scope) (ts : List Target) (r : List Item) (p q : Pos) (n : ℕ) → Held c m s → RestAt ns c s r ts q → JumpsTo ns c p q
      → Replied d ns steps v (quietly (actor (vars_of c m s) r)) (frame_at c m p n)
  quiet_row s ts r p q n held at g = (frame_at c m p n, still, free d ns steps c m s ts r p q n held at g)

  resumed : (s : Scope) (r : List Item) (p : Pos) (n : ℕ) → Held c m s → Resumes ns c s r p → Replied d ns steps v (quietly (actor (vars_of c m s) r)) (frame_at c m p n)
  resumed s r p n held w = quiet_row s w.targets r p w.to n held w.stands w.goes

  module _ (p : Pos) (n : ℕ) (s : Scope) (ts : List Target) (held : Held c m s) (r : List Item) (x : Site) where
    pub end_row : (i : Item) → StmtsAt ns c s (i ∷ r) ts x End p → Replied d ns steps v (text.do_body ns v (actor (vars_of c m s) (Do x End ∷ i ∷ r)) x End (i ∷ r)) (frame_at c m p n)
    end_row i h = resumed s (i ∷ r) p n held (ends_at ns c s i r ts x p h)

    pub block_row : (at : Place) (b k : Body) → StmtsAt ns c s r ts x (BlockStmt at b k) p
        → Replied d ns steps v (text.do_body ns v (actor (vars_of c m s) (Do x (BlockStmt at b k) ∷ r)) x (BlockStmt at b k) r) (frame_at c m p n)
    block_row at b k h =
        let w = whole ns c s r ts x (BlockStmt at b k) p tt h in
        quiet_row (Mark ∷ s) (At w.0.0 ∷ ts) (Do x b ∷ Leave ∷ Do (site_past b x) k ∷ r) p p n (held_mark c m s held) (body w.0.1 (w.0.2, w.1)) here

    pub if_row : (at : Place) (e : ExprTree) (b k : Body) → StmtsAt ns c s r ts x (IfStmt at e b k) p
        → Replied d ns steps v (text.do_body ns v (actor (vars_of c m s) (Do x (IfStmt at e b k) ∷ r)) x (IfStmt at e b k) r) (frame_at c m p n)
    if_row at e b k h =
        let w = whole ns c s r ts x (IfStmt at e b k) p tt h in
        let t : Point ns = record {
          c = c;
          m = m;
          p = p;
          n = n;
          s = s;
          ts = ts;
          rest = Do x (IfStmt at e b k) ∷ r;
          held = held;
          at = h;
          throws = throws_behind ns c s r ts x (IfStmt at e b k) p w.0.0 w.1;
        } in
        test_row d ns steps t v e w.0.1 w.0.2 _ _ w.0.4
        (free d ns steps c m (Mark ∷ s) (At w.0.3 ∷ ts) (Do x b ∷ Leave ∷ Do (site_past b x) k ∷ r) (entry w.0.1) (entry w.0.1) 0 (held_mark c m s held) (body w.0.5 (w.0.7, w.1)) here)
        (free d ns steps c m s ts (Do (site_past b x) k ∷ r) (entry w.0.2) w.0.3 0 held (body w.0.7 w.1) w.0.6)

    pub if_else_row : (at : Place) (e : ExprTree) (b g k : Body) → StmtsAt ns c s r ts x (IfElseStmt at e b g k) p
        → Replied d ns steps v (text.do_body ns v (actor (vars_of c m s) (Do x (IfElseStmt at e b g k) ∷ r)) x (IfElseStmt at e b g k) r) (frame_at c m p n)
    if_else_row at e b g k h =
        let w = whole ns c s r ts x (IfElseStmt at e b g k) p tt h in
        let t : Point ns = record {
          c = c;
          m = m;
          p = p;
          n = n;
          s = s;
          ts = ts;
          rest = Do x (IfElseStmt at e b g k) ∷ r;
          held = held;
          at = h;
          throws = throws_behind ns c s r ts x (IfElseStmt at e b g k) p w.0.0 w.1;
        } in
        let y = site_past b x in
        test_row d ns steps t v e w.0.1 w.0.2 _ _ w.0.4
        (free d ns steps c m (Mark ∷ s) (At w.0.3 ∷ ts) (Do x b ∷ Leave ∷ Do (site_past g y) k ∷ r) (entry w.0.1) (entry w.0.1) 0 (held_mark c m s held) (body w.0.5 (w.0.7, w.1)) here)
        (free d ns steps c m (Mark ∷ s) (At w.0.3 ∷ ts) (Do y g ∷ Leave ∷ Do (site_past g y) k ∷ r) (entry w.0.2) (entry w.0.2) 0 (held_mark c m s held) (body w.0.6 (w.0.7, w.1)) here)

    pub while_row : (at : Place) (e : ExprTree) (b k : Body) → StmtsAt ns c s r ts x (WhileStmt at e b k) p
        → Replied d ns steps v (text.do_body ns v (actor (vars_of c m s) (Do x (WhileStmt at e b k) ∷ r)) x (WhileStmt at e b k) r) (frame_at c m p n)
    while_row at e b k h =
        let w = whole ns c s r ts x (WhileStmt at e b k) p tt h in
        let l : Loop = record { site = x; condition = Some e; step = End; inner = b } in
        quiet_row s (Again w.0.0 ∷ At w.0.1 ∷ ts) (Round l ∷ Do (site_past b x) k ∷ r) p p n held (w.0.2, w.0.3, (w.0.4, w.1)) here

    pub loop_row : (at : Place) (b k : Body) → StmtsAt ns c s r ts x (LoopStmt at b k) p
        → Replied d ns steps v (text.do_body ns v (actor (vars_of c m s) (Do x (LoopStmt at b k) ∷ r)) x (LoopStmt at b k) r) (frame_at c m p n)
    loop_row at b k h =
        let w = whole ns c s r ts x (LoopStmt at b k) p tt h in
        let l : Loop = record { site = x; condition = None; step = End; inner = b } in
        quiet_row s (Again w.0.0 ∷ At w.0.1 ∷ ts) (Round l ∷ Do (site_past b x) k ∷ r) p p n held (w.0.2, w.0.3, (w.0.4, w.1)) here

    pub for_row : (at : Place) (i : Body) (e : Option ExprTree) (t b k : Body) → StmtsAt ns c s r ts x (ForStmt at i e t b k) p
        → Replied d ns steps v (text.do_body ns v (actor (vars_of c m s) (Do x (ForStmt at i e t b k) ∷ r)) x (ForStmt at i e t b k) r) (frame_at c m p n)
    for_row at i e t b k h =
        let w = whole ns c s r ts x (ForStmt at i e t b k) p tt h in
        let y = site_past t (site_past i x) in
        let l : Loop = record { site = y; condition = e; step = t; inner = b } in
        let behind = Leave ∷ Do (site_past b y) k ∷ r in
        let u : Below ns c (Mark ∷ s) behind (At w.0.2 ∷ ts) = (w.0.7, w.1) in
        let inside = simple_outside ns c (Mark ∷ s) (Round l ∷ behind) (Again w.0.0 ∷ At w.0.2 ∷ ts) i p w.0.1 w.0.3 w.0.4 in
        quiet_row (Mark ∷ s) (Again w.0.0 ∷ At w.0.2 ∷ ts) (Do x i ∷ Round l ∷ behind) p p n (held_mark c m s held)
        (part (w.0.1, w.0.3, w.0.4, w.0.5, w.0.6, u, subst (λ o. Below ns c o (Do (site_past b y) k ∷ r) (At w.0.2 ∷ ts)) (sym inside) u)) here

    pub try_row : (at : Place) (b : Body) (q : Place) (y : Ident) (g k : Body) → StmtsAt ns c s r ts x (TryStmt at b q y g k) p
        → Replied d ns steps v (text.do_body ns v (actor (vars_of c m s) (Do x (TryStmt at b q y g k) ∷ r)) x (TryStmt at b q y g k) r) (frame_at c m p n)
    try_row at b q y g k h =
        let w = whole ns c s r ts x (TryStmt at b q y g k) p tt h in
        let z = site_past b x in
        quiet_row (Mark ∷ s) (Hand w.0.1 w.0.2 ∷ At w.0.3 ∷ ts)
        (Do x b ∷ Leave ∷ Handler y.name (record z { caught = Some y.name }) g ∷ Do (site_past g z) k ∷ r) p w.0.0 n (held_mark c m s held)
        (body w.0.5 (w.0.6, w.0.7, (w.0.8, w.1))) w.0.4

  -- a pass of a loop begins
  pub round_row : (p : Pos) (n : ℕ) (s : Scope) (ts : List Target) → Held c m s → (l : Loop) (r : List Item) → RestAt ns c s (Round l ∷ r) ts p
      → Replied d ns steps v (text.do_item ns v (actor (vars_of c m s) (Round l ∷ r)) (Round l ∷ r)) (frame_at c m p n)
  round_row p n s (Again b ∷ ts) held l r h =
      let w = h.0 in
      let j = jumps d ns steps v c m n w.1 in
      let x = asks v.left Pass (actor (vars_of c m s) (Check l ∷ r)) in
      later d ns steps v x.0 x.1 (frame_at c m p n) (frame_at c m w.0 j.0) j.1
      (agreed d ns steps v (frame_at c m w.0 j.0) x (asks v.left Pass (frame_at c m (entry b) 0))
      (next_is d ns steps v c m w.0 j.0 (Last (PassLast b)) w.2)
      (refl, free d ns steps c m s ts (Check l ∷ r) (entry b) (entry b) 0 held (b, refl, h.1, h.2) here))
  round_row p n s ts held l r h = absurd h

  -- its condition is tested
  pub check_row : (p : Pos) (n : ℕ) (s : Scope) (ts : List Target) → Held c m s → (l : Loop) (r : List Item) → RestAt ns c s (Check l ∷ r) ts p
      → Replied d ns steps v (text.do_item ns v (actor (vars_of c m s) (Check l ∷ r)) (Check l ∷ r)) (frame_at c m p n)
  check_row p n s ts held l r h =
      subst (λ q. Replied d ns steps v (text.do_item ns v (actor (vars_of c m s) (Check l ∷ r)) (Check l ∷ r)) (frame_at c m q n)) (sym h.1) (by_condition l.condition h.2)
    where
      a : Actor
      a = actor (vars_of c m s) (Check l ∷ r)

      inside : (q : Pos) → JumpsTo ns c q q → BodyAt ns c (Mark ∷ s) (Leave ∷ Made l ∷ r) (Again h.0 ∷ ts) l.site l.inner q
          → RestAt ns c (Mark ∷ s) (Do l.site l.inner ∷ Leave ∷ Made l ∷ r) (Again h.0 ∷ ts) q
      inside q g w = body w (h.2, h.3)

      by_condition : (o : Option ExprTree) → LoopAt ns c s r ts o h.0 (BodyAt ns c (Mark ∷ s) (Leave ∷ Made l ∷ r) (Again h.0 ∷ ts) l.site l.inner)
          → Replied d ns steps v (text.check ns v a l o r) (frame_at c m (entry h.0) n)
      by_condition None w =
          quiet_row (Mark ∷ s) (Again h.0 ∷ ts) (Do l.site l.inner ∷ Leave ∷ Made l ∷ r) (entry h.0) (entry h.0) n (held_mark c m s held) (inside (entry h.0) here w) here
      by_condition (Some e) w =
          let t : Point ns = record {
            c = c;
            m = m;
            p = entry h.0;
            n = n;
            s = s;
            ts = ts;
            rest = Check l ∷ r;
            held = held;
            at = (h.0, refl, h.2, h.3);
            throws = record { items = r; targets = ts; same = λ ps ls. refl; below = h.3; caught = w.0 };
          } in
          let g = resumes ns c s r ts (entry w.2) w.5 h.3 in
          test_row d ns steps t v e w.1 w.2 _ _ w.3
          (free d ns steps c m (Mark ∷ s) (Again h.0 ∷ ts) (Do l.site l.inner ∷ Leave ∷ Made l ∷ r) (entry w.1) (entry w.1) 0 (held_mark c m s held) (inside (entry w.1) here w.4) here)
          (free d ns steps c m s g.targets r (entry w.2) g.to 0 held g.stands g.goes)

  -- a pass was made
  pub made_row : (p : Pos) (n : ℕ) (s : Scope) (ts : List Target) → Held c m s → (l : Loop) (r : List Item) → RestAt ns c s (Made l ∷ r) ts p
      → Replied d ns steps v (text.do_item ns v (actor (vars_of c m s) (Made l ∷ r)) (Made l ∷ r)) (frame_at c m p n)
  made_row p n s (Again b ∷ ts) held l r h =
      let w = h.0 in
      quiet_row s (Again b ∷ ts) (Do l.site l.step ∷ Round l ∷ r) p w.0 n held (part (w.1, s, w.3, w.4, h.1, h.2, h.2)) w.2
  made_row p n s ts held l r h = absurd h

  -- the end of a try body
  pub handler_row : (p : Pos) (n : ℕ) (s : Scope) (ts : List Target) → Held c m s → (y : List ℕ) (x : Site) (k : Body) (r : List Item) → RestAt ns c s (Handler y x k ∷ r) ts p
      → Replied d ns steps v (text.do_item ns v (actor (vars_of c m s) (Handler y x k ∷ r)) (Handler y x k ∷ r)) (frame_at c m p n)
  handler_row p n s (Hand b g ∷ ts) held y x k r h = resumed s r p n held (resumes ns c s r ts p h.0 h.1)
  handler_row p n s ts held y x k r h = absurd h
