-- A `for` stands where lowering put it: its init, its test, its body, its step, and what drops its variable.
use Rattle.std.proofs.Common.{◌≡◌, ℕ, suc, ◌+◌, ◌^◌, ◌<◌, Bool, true, false, List, [], ◌∷◌, length, if◌then◌else◌, refl, subst, arith}
use Rattle.std.proofs.lemmas.Option.{slice_get_within}
use Rattle.std.specs.declared.option.Option.{Option}
use Rattle.std.specs.declared.option.Option.TheVariants.{None, Some}
use Rattle.flow_tree.specs.Tree.{TypeTree, ExprTree}
use Rattle.flow_tree.specs.Body.{Body, End, DeclareStmt, AssignStmt, ModifyStmt}
use Rattle.flow_class.specs.Classes.{TestLast, ClassTree}
use Rattle.flow_class.specs.Scopes.{Scope, Above, over}
use Rattle.flow_layout.specs.Locals.{body_locals, declared_locals}
use Rattle.flow_meaning.specs.Requests.{Spot}
use Rattle.flow_meaning.specs.Evaluating.{Names}
use Rattle.flow_meaning.specs.Items.{Site, Loop, Item, Do, Leave, Round, Made}
use Rattle.flow_meaning.specs.Carry.{Pos, entry, after, Target, At, Again, at, JumpsTo, here, DropThen, GoesOn}
use Rattle.flow_meaning.specs.Carries.{LoopAt}
use Rattle.flow_split.specs.Around.{Hand, Around}
use Rattle.flow_split.specs.Counts.{test_blocks, locals_in, Next}
use Rattle.flow_split.specs.Lowered.{Chunk, ends, dropping, with_local, later, tested, test_before}
use Rattle.flow_tree.specs.Formed.{IsStep, IsInit}
use Rattle.flow_lowering_laws.specs.Actors.InPlace.{started}
use Rattle.flow_lowering_laws.proofs.Actors.Standing.{moved, LocalsAt, locals_front, Stands, first, second}
use Rattle.flow_lowering_laws.proofs.Actors.Held.{same, caught_by, HandIn, HandlerIn}
use Rattle.flow_lowering_laws.proofs.Actors.Around.{InClass, above_more}
use Rattle.flow_lowering_laws.proofs.Actors.Places.{names, names_with}
use Rattle.flow_lowering_laws.proofs.Actors.Further.{blocks_joined}

-- a step declares nothing
pub step_is_init : (b : Body) → IsStep b → IsInit b
step_is_init End h = tt
step_is_init (AssignStmt at xs e End) h = tt
step_is_init (ModifyStmt at xs d End) h = h
step_is_init _ h = absurd h

pub step_later : (b : Body) (l : ℕ) (s : Scope) → IsStep b → later b l s ≡ s
step_later End l s h = refl
step_later (AssignStmt at xs e End) l s h = refl
step_later (ModifyStmt at xs d End) l s h = refl
step_later _ l s h = absurd h

pub step_locals : (b : Body) → IsStep b → body_locals b ≡ []
step_locals End h = refl
step_locals (AssignStmt at xs e End) h = refl
step_locals (ModifyStmt at xs d End) h = refl
step_locals _ h = absurd h

module _ (ns : Names) (c : ClassTree) (few_slots : length c.slots < 2 ^ 64) (few_locals : length c.locals < 2 ^ 64) where
  -- the locals in force behind an init
  pub record Started (i : Body) (l : ℕ) (s : Scope) : Type 0 where
    pub above : Above (l + locals_in i) (later i l s)
    pub known : InClass ns c (later i l s)
    pub named : names (later i l s) ≡ started i (names s)

  started_with : (b : Bool) (x : List ℕ) (t : TypeTree) (l m : ℕ) (s : Scope) → m ≡ l + ((if b then 0 else 1) + 0) → Above l s → InClass ns c s → LocalsAt ns c l (if b then [] else t ∷ [])
      → Above m (with_local b x l s) × InClass ns c (with_local b x l s)
  started_with true x t l m s e a k h = (above_more ns c l m s (omega (arith, e)) a, k)
  started_with false x t l m s e a k h = ((omega (arith, e), above_more ns c l m s (omega (arith, e)) a), (slice_get_within c.locals l t h.0, k))

  pub starts : (i : Body) (l : ℕ) (s : Scope) → IsInit i → Above l s → InClass ns c s → LocalsAt ns c l (body_locals i) → Started i l s
  starts (DeclareStmt at i e End) l s is a k h =
      let r = started_with i.state i.name.name i.ty l (l + locals_in (DeclareStmt at i e End)) s refl a k (locals_front ns c l (declared_locals i) [] h) in
      record { above = r.0; known = r.1; named = names_with i.state i.name.name l s }
  starts End l s is a k h = record { above = above_more ns c l (l + 0) s (omega arith) a; known = k; named = refl }
  starts (AssignStmt at xs e End) l s is a k h = record { above = above_more ns c l (l + 0) s (omega arith) a; known = k; named = refl }
  starts (ModifyStmt at xs d End) l s is a k h = record { above = above_more ns c l (l + 0) s (omega arith) a; known = k; named = refl }
  starts _ l s is a k h = absurd is

  -- handlers further out
  pub hand_part : (h : Option Hand) (d : ℕ) (x : Site) (l : Loop) (k : Body) (b : ℕ) (q : Pos) (r : List Item) (ts : List Target) → HandIn h d r ts
      → HandIn h (suc d) (Round l ∷ Leave ∷ Do x k ∷ r) (Again b ∷ At q ∷ ts)
  hand_part None d x l k b q r ts i = i
  hand_part (Some h) d x l k b q r ts i = i

  pub hand_behind : (h : Option Hand) (d : ℕ) (x : Site) (k : Body) (q : Pos) (r : List Item) (ts : List Target) → HandIn h d r ts → HandIn h (suc d) (Leave ∷ Do x k ∷ r) (At q ∷ ts)
  hand_behind None d x k q r ts i = i
  hand_behind (Some h) d x k q r ts i = i

  pub hand_made : (h : Option Hand) (d : ℕ) (x : Site) (l : Loop) (k : Body) (b : ℕ) (q : Pos) (r : List Item) (ts : List Target) → HandIn h d r ts
      → HandIn h (d + 2) (Leave ∷ Made l ∷ Leave ∷ Do x k ∷ r) (Again b ∷ At q ∷ ts)
  hand_made None d x l k b q r ts i = i
  hand_made (Some h) d x l k b q r ts i = subst (λ e. HandlerIn h e (Leave ∷ Made l ∷ Leave ∷ Do x k ∷ r) (Again b ∷ At q ∷ ts)) (two_more d) i
    where
      two_more : (d : ℕ) → suc (suc d) ≡ d + 2
      two_more d = omega arith

  -- drops before a chunk
  pub record Dropped (ds : List ℕ) (p : Pos) (n : ℕ) (x : Spot) (h : Option Hand) (ch : Chunk) : Type 0 where
    pub to : Pos
    pub drops : DropThen ns c ds p (λ q. JumpsTo ns c q to)
    pub stands : Stands ns c to n x h ch

  pub dropped : (ds : List ℕ) (p : Pos) (n : ℕ) (x : Spot) (h : Option Hand) (ch : Chunk) → Stands ns c p n x h (dropping ds ch) → Dropped ds p n x h ch
  dropped [] p n x h ch st = record { to = p; drops = here; stands = record { code = st.code; acts = st.acts; caught = st.caught; acted = st.acted; more = st.more; groups = st.groups } }
  dropped (d ∷ ds) p n x h ch st = record {
    to = after p;
    drops = (p, here, st.code.0, here);
    stands = record { code = st.code.1; acts = st.acts; caught = st.caught; acted = st.acted; more = st.more; groups = st.groups };
  }

  -- the test, or none
  pub test_block : (e : Option ExprTree) (h : Next) → (tested e h).block ≡ h.block + test_blocks e
  test_block None h = omega arith
  test_block (Some e) h = omega arith

  pub test_local : (e : Option ExprTree) (h : Next) → (tested e h).local ≡ h.local
  test_local None h = refl
  test_local (Some e) h = refl

  pub test_group : (e : Option ExprTree) (h : Next) → (tested e h).group ≡ h.group
  test_group None h = refl
  test_group (Some e) h = refl

  pub test_more : (v : Around) (s : Scope) (e : Option ExprTree) (m o n : ℕ) (a : Chunk) → length a.more ≡ n → length (test_before ns c.slots v s e m o a).more ≡ n + test_blocks e
  test_more v s None m o n a h = omega (arith, h)
  test_more v s (Some e) m o n a h = blocks_joined ns c v.hand a (ends v s true [] (TestLast (over c.slots s e) m o)) n 0 h refl

  pub test_first : (v : Around) (s : Scope) (e : Option ExprTree) (m o n : ℕ) (p : Pos) (x : Spot) (a : Chunk) → Stands ns c p n x v.hand (test_before ns c.slots v s e m o a)
      → Stands ns c p n x v.hand a
  test_first v s None m o n p x a st = st
  test_first v s (Some e) m o n p x a st = first ns c p n x v.hand v.hand a (ends v s true [] (TestLast (over c.slots s e) m o)) st

  pub test_at : (v : Around) (s : Scope) (e : Option ExprTree) (h : Next) (o n l : ℕ) (p : Pos) (x : Spot) (a : Chunk) (r : List Item) (ts : List Target) (inside : Pos → Type 0) → Above l s
      → HandIn v.hand v.depth r ts
      → h.block ≡ n + length a.more → Stands ns c p n x v.hand (test_before ns c.slots v s e (tested e h).block o a) → inside (entry (tested e h).block) → GoesOn ns c s r ts (entry o)
      → LoopAt ns c s r ts e h.block inside
  test_at v s None h o n l p x a r ts inside above hand e st b g = b
  test_at v s (Some t) h o n l p x a r ts inside above hand e st b g =
      let d = ends v s true [] (TestLast (over c.slots s t) (suc h.block) o) in
      let two = second ns c p n h.block x (moved a.groups x) v.hand v.hand a d e refl st in
      (caught_by ns c l v.depth s r ts (entry h.block) (suc h.block) (moved a.groups x) v.hand d above hand same refl two, suc h.block, o, two.code, b, g)
