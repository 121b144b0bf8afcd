-- What is known of a point of the text, statement by statement, in a body and as a part of a `for`.
use Rattle.std.proofs.Common.{◌≡◌, ℕ, List, [], ◌∷◌, refl, sym, ap, subst}
use Rattle.std.specs.declared.option.Option.{Option}
use Rattle.std.specs.declared.option.Option.TheVariants.{None, Some}
use Rattle.flow_base.specs.declared.place.Place.{Place}
use Rattle.flow_tree.specs.declared.ty.Ident.{Ident}
use Rattle.flow_tree.specs.Tree.{ExprTree}
use Rattle.flow_tree.specs.Body.{IntoTree, ChangeTree, Body, End, BreakStmt, ContinueStmt, DeclareStmt, AssignStmt, ModifyStmt}
use Rattle.flow_class.specs.declared.class.Slotted.{Slotted}
use Rattle.flow_class.specs.declared.class.Slotted.TheVariants as place
use Rattle.flow_class.specs.Classes.{ClassTree}
use Rattle.flow_class.specs.Scopes.{Scope, outside, path_over}
use Rattle.flow_meaning.specs.Evaluating.{Names}
use Rattle.flow_meaning.specs.Items.{Site, Loop, Item, Do, Leave, Round, Made, Handler, change}
use Rattle.flow_meaning.specs.SourceStep.{Breaks, Continues}
use Rattle.flow_meaning.specs.Carry.{Pos, after, Target, At, Again, Hand, EndsScope, JumpsTo, here, CaughtAt, AssignAt, ChangeAt, DeclareAt, DeclaredAs, SimpleAt, PassAt, GoesOn, TextEndsAt}
use Rattle.flow_meaning.specs.Carries.{ExitAt, BodyAt, TakesInto}
use Rattle.flow_compile_laws.specs.Simulation.Matching.{LoopStands, Below, PartAt, LeavesAt, StmtsAt, body, part, leaves, RestAt, ThrowsAt}

-- statements that can be a part of a `for`, and those that can't and go on to what follows, or end the actor
abbrev pub IsSimple : Body → Type 0
IsSimple End = Unit {0}
IsSimple (DeclareStmt at i e k) = Unit {0}
IsSimple (AssignStmt at xs e k) = Unit {0}
IsSimple (ModifyStmt at xs d k) = Unit {0}
IsSimple _ = ⊥

abbrev pub IsWhole : Body → Type 0
IsWhole End = ⊥
IsWhole (DeclareStmt at i e k) = ⊥
IsWhole (AssignStmt at xs e k) = ⊥
IsWhole (ModifyStmt at xs d k) = ⊥
IsWhole (BreakStmt at k) = ⊥
IsWhole (ContinueStmt at k) = ⊥
IsWhole _ = Unit {0}

not_both : (b : Body) → IsSimple b → IsWhole b → ⊥
not_both End i w = w
not_both (DeclareStmt at i e k) j w = w
not_both (AssignStmt at xs e k) i w = w
not_both (ModifyStmt at xs d k) i w = w
not_both b i w = i

module _ (ns : Names) (c : ClassTree) where
  simple_is : (s : Scope) (r : List Item) (ts : List Target) (b : Body) (p q : Pos) (later : Scope) → SimpleAt ns c s r ts b p q later → IsSimple b
  simple_is s r ts End p q later h = tt
  simple_is s r ts (DeclareStmt at i e k) p q later h = tt
  simple_is s r ts (AssignStmt at xs e k) p q later h = tt
  simple_is s r ts (ModifyStmt at xs d k) p q later h = tt
  simple_is s r ts b p q later h = absurd h

  part_simple : (s : Scope) (r : List Item) (ts : List Target) (b : Body) (p : Pos) → PartAt ns c s r ts b p → IsSimple b
  part_simple s (Round l ∷ r) (Again y ∷ ts) b p h = simple_is s (Round l ∷ r) (Again y ∷ ts) b p h.0 h.1 h.2
  part_simple s r ts b p h = absurd h

  leaves_not : (s : Scope) (r : List Item) (ts : List Target) (b : Body) (p : Pos) → IsWhole b → LeavesAt ns c s r ts b p → ⊥
  leaves_not s r ts (BreakStmt at k) p w h = w
  leaves_not s r ts (ContinueStmt at k) p w h = w
  leaves_not s r ts b p w h = h

  -- a statement that is no part of a `for` stands in a body
  pub whole : (s : Scope) (r : List Item) (ts : List Target) (x : Site) (b : Body) (p : Pos) → IsWhole b → StmtsAt ns c s r ts x b p → BodyAt ns c s r ts x b p × Below ns c s r ts
  whole s r ts x b p w (body h u) = (h, u)
  whole s r ts x b p w (part h) = absurd (not_both b (part_simple s r ts b p h) w)
  whole s r ts x b p w (leaves h u) = absurd (leaves_not s r ts b p w h)

  pub breaks_at : (s : Scope) (r : List Item) (ts : List Target) (x : Site) (at : Place) (k : Body) (p : Pos) → StmtsAt ns c s r ts x (BreakStmt at k) p
      → ExitAt ns c Breaks s r ts p × Below ns c s r ts
  breaks_at s r ts x at k p (body h u) = (h.0, u)
  breaks_at s r ts x at k p (part h) = absurd (part_simple s r ts (BreakStmt at k) p h)
  breaks_at s r ts x at k p (leaves h u) = (h, u)

  pub continues_at : (s : Scope) (r : List Item) (ts : List Target) (x : Site) (at : Place) (k : Body) (p : Pos) → StmtsAt ns c s r ts x (ContinueStmt at k) p
      → ExitAt ns c Continues s r ts p × Below ns c s r ts
  continues_at s r ts x at k p (body h u) = (h.0, u)
  continues_at s r ts x at k p (part h) = absurd (part_simple s r ts (ContinueStmt at k) p h)
  continues_at s r ts x at k p (leaves h u) = (h, u)

  -- an error at the first statement goes where the items behind it say
  pub throws_behind : (s : Scope) (r : List Item) (ts : List Target) (x : Site) (b : Body) (p : Pos) → CaughtAt ns c s r ts p → Below ns c s r ts → ThrowsAt ns c s (Do x b ∷ r) p
  throws_behind s r ts x b p h u = record { items = r; targets = ts; same = λ ps ls. refl; below = u; caught = h }

  throws_part : (s : Scope) (l : Loop) (r : List Item) (y : ℕ) (ts : List Target) (x : Site) (b : Body) (p : Pos) → CaughtAt ns c s (Round l ∷ r) (Again y ∷ ts) p → Below ns c s r ts
      → ThrowsAt ns c s (Do x b ∷ Round l ∷ r) p
  throws_part s l r y ts x b p h u = record { items = r; targets = ts; same = λ ps ls. refl; below = u; caught = h }

  -- a new variable is of the innermost scope
  pub declared_outside : (s : Scope) (i : IntoTree) (to : Slotted) (s2 : Scope) → DeclaredAs ns c s i to s2 → outside s2 ≡ outside s
  declared_outside s i (place.Slot n) s2 d = ap outside d.2
  declared_outside s i (place.Local n) s2 d = ap outside d.2

  pub taken_outside : (s : Scope) (i : Option IntoTree) (to : Option Slotted) (s2 : Scope) → TakesInto ns c s i to s2 → outside s2 ≡ outside s
  taken_outside s None None s2 d = ap outside d
  taken_outside s None (Some to) s2 d = absurd d
  taken_outside s (Some i) None s2 d = absurd d
  taken_outside s (Some i) (Some to) s2 d = declared_outside s i to s2 d

  pub below_outside : (s s2 : Scope) (r : List Item) (ts : List Target) → EndsScope r → outside s2 ≡ outside s → Below ns c s r ts → Below ns c s2 r ts
  below_outside s s2 [] ts e h u = tt
  below_outside s s2 (Leave ∷ r) ts e h u = subst (λ o. Below ns c o r ts) (sym h) u
  below_outside s s2 r ts e h u = absurd e

  -- a declaration
  pub record DeclaresAt (s : Scope) (r : List Item) (ts : List Target) (x : Site) (at : Place) (i : IntoTree) (e : Option ExprTree) (k : Body) (p : Pos) : Type 0 where
    pub throws : ThrowsAt ns c s (Do x (DeclareStmt at i e k) ∷ r) p
    pub to : Slotted
    pub later : Scope
    pub puts : DeclareAt ns c s to i.ty e p
    pub declared : DeclaredAs ns c s i to later
    pub next : RestAt ns c later (Do x k ∷ r) ts (after p)

  part_next : (s later : Scope) (l : Loop) (r : List Item) (y : ℕ) (ts : List Target) (x : Site) (p q : Pos) → p ≡ q → PassAt ns c q y → LoopStands ns c later r ts l y → Below ns c later r ts
      → StmtsAt ns c later (Round l ∷ r) (Again y ∷ ts) x End p
  part_next s later l r y ts x p q e h w u = part (q, later, (e, refl), h, w, u, u)

  declare_part : (s : Scope) (r : List Item) (ts : List Target) (x : Site) (at : Place) (i : IntoTree) (e : Option ExprTree) (k : Body) (p : Pos) → PartAt ns c s r ts (DeclareStmt at i e k) p
      → DeclaresAt s r ts x at i e k p
  declare_part s (Round l ∷ r) (Again y ∷ ts) x at i e End p h =
      record {
        throws = throws_part s l r y ts x (DeclareStmt at i e End) p h.2.0 h.5;
        to = h.2.1;
        later = h.1;
        puts = h.2.2;
        declared = h.2.3;
        next = part_next s h.1 l r y ts x (after p) h.0 (sym h.2.4) h.3 h.4 h.6;
      }
  declare_part s (Round l ∷ r) (Again y ∷ ts) x at i e k p h = absurd h.2
  declare_part s r ts x at i e k p h = absurd h

  pub declares_at : (s : Scope) (r : List Item) (ts : List Target) (x : Site) (at : Place) (i : IntoTree) (e : Option ExprTree) (k : Body) (p : Pos) → StmtsAt ns c s r ts x (DeclareStmt at i e k) p
      → DeclaresAt s r ts x at i e k p
  declares_at s r ts x at i e k p (body h u) =
      record {
        throws = throws_behind s r ts x (DeclareStmt at i e k) p h.0 u;
        to = h.2;
        later = h.3;
        puts = h.4;
        declared = h.5;
        next = body h.6 (below_outside s h.3 r ts h.1 (declared_outside s i h.2 h.3 h.5) u);
      }
  declares_at s r ts x at i e k p (part h) = declare_part s r ts x at i e k p h
  declares_at s r ts x at i e k p (leaves h u) = absurd h

  -- an assignment, and a change in place
  pub record AssignsAt (s : Scope) (r : List Item) (ts : List Target) (x : Site) (stmt k : Body) (puts : Pos → Type 0) (p : Pos) : Type 0 where
    pub throws : ThrowsAt ns c s (Do x stmt ∷ r) p
    pub stands : puts p
    pub next : RestAt ns c s (Do x k ∷ r) ts (after p)

  assign_part : (s : Scope) (r : List Item) (ts : List Target) (x : Site) (at : Place) (xs : List Ident) (e : ExprTree) (k : Body) (p : Pos) → PartAt ns c s r ts (AssignStmt at xs e k) p
      → AssignsAt s r ts x (AssignStmt at xs e k) k (AssignAt ns c s (path_over c.slots s xs) e) p
  assign_part s (Round l ∷ r) (Again y ∷ ts) x at xs e End p h =
      record {
        throws = throws_part s l r y ts x (AssignStmt at xs e End) p h.2.0 h.5;
        stands = h.2.1;
        next = subst (λ o. StmtsAt ns c o (Round l ∷ r) (Again y ∷ ts) x End (after p)) h.2.3 (part_next s h.1 l r y ts x (after p) h.0 (sym h.2.2) h.3 h.4 h.6);
      }
  assign_part s (Round l ∷ r) (Again y ∷ ts) x at xs e k p h = absurd h.2
  assign_part s r ts x at xs e k p h = absurd h

  pub assigns_at : (s : Scope) (r : List Item) (ts : List Target) (x : Site) (at : Place) (xs : List Ident) (e : ExprTree) (k : Body) (p : Pos) → StmtsAt ns c s r ts x (AssignStmt at xs e k) p
      → AssignsAt s r ts x (AssignStmt at xs e k) k (AssignAt ns c s (path_over c.slots s xs) e) p
  assigns_at s r ts x at xs e k p (body h u) = record { throws = throws_behind s r ts x (AssignStmt at xs e k) p h.0 u; stands = h.1; next = body h.2 u }
  assigns_at s r ts x at xs e k p (part h) = assign_part s r ts x at xs e k p h
  assigns_at s r ts x at xs e k p (leaves h u) = absurd h

  modify_part : (s : Scope) (r : List Item) (ts : List Target) (x : Site) (at : Place) (xs : List Ident) (d : ChangeTree) (k : Body) (p : Pos) → PartAt ns c s r ts (ModifyStmt at xs d k) p
      → AssignsAt s r ts x (ModifyStmt at xs d k) k (ChangeAt ns c s xs (change xs d)) p
  modify_part s (Round l ∷ r) (Again y ∷ ts) x at xs d End p h =
      record {
        throws = throws_part s l r y ts x (ModifyStmt at xs d End) p h.2.0 h.5;
        stands = h.2.1;
        next = subst (λ o. StmtsAt ns c o (Round l ∷ r) (Again y ∷ ts) x End (after p)) h.2.3 (part_next s h.1 l r y ts x (after p) h.0 (sym h.2.2) h.3 h.4 h.6);
      }
  modify_part s (Round l ∷ r) (Again y ∷ ts) x at xs d k p h = absurd h.2
  modify_part s r ts x at xs d k p h = absurd h

  pub modifies_at : (s : Scope) (r : List Item) (ts : List Target) (x : Site) (at : Place) (xs : List Ident) (d : ChangeTree) (k : Body) (p : Pos) → StmtsAt ns c s r ts x (ModifyStmt at xs d k) p
      → AssignsAt s r ts x (ModifyStmt at xs d k) k (ChangeAt ns c s xs (change xs d)) p
  modifies_at s r ts x at xs d k p (body h u) = record { throws = throws_behind s r ts x (ModifyStmt at xs d k) p h.0 u; stands = h.1; next = body h.2 u }
  modifies_at s r ts x at xs d k p (part h) = modify_part s r ts x at xs d k p h
  modifies_at s r ts x at xs d k p (leaves h u) = absurd h

  -- what follows a body goes on where its target says
  pub record Resumes (s : Scope) (r : List Item) (p : Pos) : Type 0 where
    pub targets : List Target
    pub to : Pos
    pub goes : JumpsTo ns c p to
    pub stands : RestAt ns c s r targets to

  pub resumes : (s : Scope) (r : List Item) (ts : List Target) (p : Pos) → GoesOn ns c s r ts p → Below ns c s r ts → Resumes s r p
  resumes s (Leave ∷ r) ts p g u = record { targets = ts; to = p; goes = here; stands = (g, u) }
  resumes s (Do x k ∷ r) (At q ∷ ts) p g u = record { targets = ts; to = q; goes = g; stands = body u.0 u.1 }
  resumes s (Made l ∷ r) (Again b ∷ ts) p g u = record { targets = Again b ∷ ts; to = p; goes = here; stands = (g, u.0, u.1) }
  resumes s (Handler x y k ∷ r) (Hand b n ∷ ts) p g u = record { targets = Hand b n ∷ ts; to = p; goes = here; stands = (g, u.2) }
  resumes s r ts p g u = absurd g

  part_ends : (s : Scope) (r : List Item) (ts : List Target) (p : Pos) → PartAt ns c s r ts End p → Resumes s r p
  part_ends s (Round l ∷ r) (Again y ∷ ts) p h =
      record {
        targets = Again y ∷ ts;
        to = p;
        goes = here;
        stands = (
          subst (λ q. PassAt ns c q y) (sym h.2.0) h.3,
          subst (λ o. LoopStands ns c o r ts l y) h.2.1 h.4,
          h.5,
        );
      }
  part_ends s r ts p h = absurd h

  -- the end of a body, over what follows
  pub ends_at : (s : Scope) (i : Item) (r : List Item) (ts : List Target) (x : Site) (p : Pos) → StmtsAt ns c s (i ∷ r) ts x End p → Resumes s (i ∷ r) p
  ends_at s i r ts x p (body h u) = resumes s (i ∷ r) ts p h u
  ends_at s i r ts x p (part h) = part_ends s (i ∷ r) ts p h
  ends_at s i r ts x p (leaves h u) = absurd h

  -- the end of the text
  pub text_ends : (s : Scope) (ts : List Target) (x : Site) (p : Pos) → StmtsAt ns c s [] ts x End p → TextEndsAt ns c x.is_void p
  text_ends s ts x p (body h u) = h
  text_ends s ts x p (part h) = absurd h
  text_ends s ts x p (leaves h u) = absurd h
