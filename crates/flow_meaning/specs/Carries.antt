-- A class carries an actor: the recursion over the actor's text.
use Rattle.std.specs.Prelude.{◌≡◌, ℕ, true, List, [], ◌∷◌}
use Rattle.std.specs.Option.{option_map}
use Rattle.std.specs.declared.option.Option.{Option}
use Rattle.std.specs.declared.option.Option.TheVariants.{None, Some}
use Rattle.flow_tree.specs.declared.ty.Ident.{Ident}
use Rattle.flow_tree.specs.Tree.{ExprTree, VarExpr}
use Rattle.flow_tree.specs.Body.{IntoTree, WaitTree, Body, End, BlockStmt, IfStmt, IfElseStmt, WhileStmt, ForStmt, LoopStmt, BreakStmt, ContinueStmt, ReturnStmt, ThrowStmt, TryStmt, ChooseStmt, DeclareStmt, AssignStmt, ModifyStmt, CallStmt, WaitStmt, Branches, NoBranches, MoreBranches}
use Rattle.flow_tree.specs.Decls.{RoutineTree, ProgramTree}
use Rattle.flow_ast.specs.Leaving.{has_statement}
use Rattle.flow_class.specs.declared.class.Slotted.{Slotted}
use Rattle.flow_class.specs.Classes.{ActInstr, TestLast, ChooseLast, ReturnLast, ThrowLast, CallbackTree, ClassTree, RawTree}
use Rattle.flow_meaning.specs.Requests.{Spot}
use Rattle.flow_meaning.specs.Evaluating.{Names}
use Rattle.flow_class.specs.Scopes.{Mark, Var, scope, outside}
use Rattle.flow_meaning.specs.Text.{next_spot, branch_count, past_branches}
use Rattle.flow_meaning.specs.Items.{Site, Loop, Item, Do, Leave, Round, Made, Handler, change, site_past, site_at}
use Rattle.flow_meaning.specs.SourceStep.{Exit, Breaks, Continues}
use Rattle.flow_meaning.specs.Source.{names_of, actors_in, first_site}
use Rattle.flow_class.specs.Places.{place_named}
use Rattle.flow_class.specs.Code.{Last, group_at}
use Rattle.flow_meaning.specs.Frame.{spot_of}
use Rattle.flow_class.specs.Code as frame
use Rattle.flow_class.specs.Scopes.{Scope, place_of, over, over_all, path_over, act_over}
use Rattle.flow_meaning.specs.Carry.{Pos, entry, after, Target, At, Again, Hand, EndsScope, at, JumpsTo, NewLocal, CaughtAt, AssignAt, ChangeAt, DeclareAt, DeclaredAs, SimpleAt, PassAt, DropThen, GoesOn, EndsAt}

module _ (ns : Names) (c : ClassTree) where
  -- a break or a continue: the scopes up to the loop are left, each with its drop, and then the loop
  abbrev pub ExitAt : Exit → Scope → List Item → List Target → Pos → Type 0
  ExitAt how s (Leave ∷ r) ts p = DropThen ns c (scope s) p (ExitAt how (outside s) r ts)
  ExitAt how s (Do site k ∷ r) (t ∷ ts) p = ExitAt how s r ts p
  ExitAt how s (Handler x site k ∷ r) (t ∷ ts) p = ExitAt how s r ts p
  ExitAt Breaks s (Made l ∷ r) (t ∷ ts) p = GoesOn ns c s r ts p
  ExitAt Continues s (Made l ∷ r) (t ∷ ts) p = GoesOn ns c s (Made l ∷ r) (t ∷ ts) p
  ExitAt how s _ ts p = ⊥

  -- what stands at the block of a loop: its body, or the test of its condition
  abbrev pub LoopAt : Scope → List Item → List Target → Option ExprTree → (block : ℕ) → (Pos → Type 0) → Type 0
  LoopAt s r ts None b inner = inner (entry b)
  LoopAt s r ts (Some e) b inner =
      CaughtAt ns c s r ts (entry b) × (y : ℕ) × (n : ℕ) × (at ns c (entry b) ≡ Last (TestLast (over c.slots s e) y n))
      × inner (entry y)
      × GoesOn ns c s r ts (entry n)

  -- an error by an expression, or that of the catch around by its variable
  abbrev pub ThrowAt : Scope → Option ExprTree → Option (List ℕ) → Pos → Type 0
  ThrowAt s (Some e) caught p = at ns c p ≡ Last (ThrowLast (over c.slots s e))
  ThrowAt s None None p = ⊥
  ThrowAt s None (Some x) p = (y : Ident) × (at ns c p ≡ Last (ThrowLast (VarExpr y))) × (place_named y.name ≡ place_of c.slots s x)

  -- a group's callbacks at a position
  abbrev pub GroupAt : Spot → List CallbackTree → Pos → Type 0
  GroupAt spot cs p = (at ns c p ≡ Last (ChooseLast spot.group)) × (spot_of c spot.group ≡ spot)
      × (group_at c.groups spot.group ≡ Some cs)

  -- a callback has the operand of its branch, and the place of the variable that this declares
  abbrev pub TakesInto : Scope → Option IntoTree → Option Slotted → Scope → Type 0
  TakesInto s None None later = later ≡ s
  TakesInto s None (Some to) later = ⊥
  TakesInto s (Some i) None later = ⊥
  TakesInto s (Some i) (Some to) later = DeclaredAs ns c s i to later

  abbrev pub BranchAt : Scope → Scope → WaitTree → CallbackTree → Scope → Type 0
  BranchAt s inside w k later = (k.next ≡ w.next) × (k.operand ≡ over c.slots s w.operand) × TakesInto inside w.into k.into later

  -- A body stands at p, over the items r, which go on at the targets ts. Statements behind one that isn't passed stand
  -- somewhere.
  abbrev mutual
    pub BodyAt : Scope → List Item → List Target → Site → Body → Pos → Type 0
    BodyAt s r ts x End p = EndsAt ns c x.is_void s r ts p
    BodyAt s r ts x (BlockStmt place b k) p =
        (q : Pos) × BodyAt (Mark ∷ s) (Leave ∷ Do (site_past b x) k ∷ r) (At q ∷ ts) x b p × BodyAt s r ts (site_past b x) k q
    BodyAt s r ts x (IfStmt place e b k) p =
        CaughtAt ns c s r ts p × (y : ℕ) × (n : ℕ) × (q : Pos) × (at ns c p ≡ Last (TestLast (over c.slots s e) y n))
        × BodyAt (Mark ∷ s) (Leave ∷ Do (site_past b x) k ∷ r) (At q ∷ ts) x b (entry y)
        × JumpsTo ns c (entry n) q
        × BodyAt s r ts (site_past b x) k q
    BodyAt s r ts x (IfElseStmt place e b d k) p =
        CaughtAt ns c s r ts p × (y : ℕ) × (n : ℕ) × (q : Pos) × (at ns c p ≡ Last (TestLast (over c.slots s e) y n))
        × BodyAt (Mark ∷ s) (Leave ∷ Do (site_past d (site_past b x)) k ∷ r) (At q ∷ ts) x b (entry y)
        × BodyAt (Mark ∷ s) (Leave ∷ Do (site_past d (site_past b x)) k ∷ r) (At q ∷ ts) (site_past b x) d (entry n)
        × BodyAt s r ts (site_past d (site_past b x)) k q
    BodyAt s r ts x (WhileStmt place e b k) p =
        (h : ℕ) × (q : Pos) × PassAt ns c p h
        × LoopAt s (Do (site_past b x) k ∷ r) (At q ∷ ts) (Some e) h
        (BodyAt (Mark ∷ s)
        (Leave ∷ Made (record { site = x; condition = Some e; step = End; inner = b }) ∷ Do (site_past b x) k ∷ r)
        (Again h ∷ At q ∷ ts) x b)
        × BodyAt s r ts (site_past b x) k q
    BodyAt s r ts x (LoopStmt place b k) p =
        (h : ℕ) × (q : Pos) × PassAt ns c p h
        × LoopAt s (Do (site_past b x) k ∷ r) (At q ∷ ts) None h
        (BodyAt (Mark ∷ s) (Leave ∷ Made (record { site = x; condition = None; step = End; inner = b }) ∷ Do (site_past b x) k ∷ r)
        (Again h ∷ At q ∷ ts) x b)
        × BodyAt s r ts (site_past b x) k q
    BodyAt s r ts x (ForStmt place i e t b k) p =
        let y = site_past t (site_past i x) in
        let l : Loop = record { site = y; condition = e; step = t; inner = b } in
        let behind = Leave ∷ Do (site_past b y) k ∷ r in
        (h : ℕ) × (m : Pos) × (q : Pos) × (s2 : Scope)
        × SimpleAt ns c (Mark ∷ s) (Round l ∷ behind) (Again h ∷ At q ∷ ts) i p m s2
        × PassAt ns c m h
        × LoopAt s2 behind (At q ∷ ts) e h (BodyAt (Mark ∷ s2) (Leave ∷ Made l ∷ behind) (Again h ∷ At q ∷ ts) y b)
        × BodyAt s r ts (site_past b y) k q
    BodyAt s r ts x (BreakStmt place k) p = ExitAt Breaks s r ts p × (has_statement k ≡ true → (q : Pos) × BodyAt s r ts x k q)
    BodyAt s r ts x (ContinueStmt place k) p = ExitAt Continues s r ts p × (has_statement k ≡ true → (q : Pos) × BodyAt s r ts x k q)
    BodyAt s r ts x (ReturnStmt place e k) p =
        CaughtAt ns c s r ts p × (at ns c p ≡ Last (ReturnLast (option_map (over c.slots s) e)))
        × (has_statement k ≡ true → (q : Pos) × BodyAt s r ts x k q)
    BodyAt s r ts x (ThrowStmt place e k) p =
        CaughtAt ns c s r ts p × ThrowAt s e x.caught p × (has_statement k ≡ true → (q : Pos) × BodyAt s r ts x k q)
    BodyAt s r ts x (TryStmt place b w v d k) p =
        let y = site_past b x in
        let z : Site = record y { caught = Some v.name } in
        (m : Pos) × (h : ℕ) × (n : ℕ) × (q : Pos) × JumpsTo ns c p m
        × BodyAt (Mark ∷ s) (Leave ∷ Handler v.name z d ∷ Do (site_past d y) k ∷ r) (Hand h n ∷ At q ∷ ts) x b m
        × NewLocal ns c n s
        × BodyAt (Var v.name n ∷ Mark ∷ s) (Leave ∷ Do (site_past d y) k ∷ r) (At q ∷ ts) z d (entry h)
        × BodyAt s r ts (site_past d y) k q
    BodyAt s r ts x (ChooseStmt place bs k) p =
        let y = site_at (next_spot (branch_count bs) x.spot) x in
        let z = site_at (past_branches bs (next_spot (branch_count bs) x.spot)) x in
        (cs : List CallbackTree) × (q : Pos) × CaughtAt ns c s r ts p × GroupAt x.spot cs p
        × BranchesAt s (Do z k ∷ r) (At q ∷ ts) y bs cs
        × BodyAt s r ts z k q
    BodyAt s r ts x (DeclareStmt place i e k) p =
        CaughtAt ns c s r ts p × EndsScope r × (to : Slotted) × (s2 : Scope) × DeclareAt ns c s to i.ty e p × DeclaredAs ns c s i to s2
        × BodyAt s2 r ts x k (after p)
    BodyAt s r ts x (AssignStmt place xs e k) p =
        CaughtAt ns c s r ts p × AssignAt ns c s (path_over c.slots s xs) e p × BodyAt s r ts x k (after p)
    BodyAt s r ts x (ModifyStmt place xs d k) p = CaughtAt ns c s r ts p × ChangeAt ns c s xs (change xs d) p
        × BodyAt s r ts x k (after p)
    BodyAt s r ts x (CallStmt place xs es k) p =
        CaughtAt ns c s r ts p × (at ns c p ≡ frame.Body (ActInstr (act_over c.slots s xs) (over_all c.slots s es)))
        × BodyAt s r ts x k (after p)
    BodyAt s r ts x (WaitStmt place w k) p =
        (d : CallbackTree) × (s2 : Scope) × CaughtAt ns c s r ts p × EndsScope r × GroupAt x.spot (d ∷ []) p × BranchAt s s w d s2
        × BodyAt s2 r ts (site_at (next_spot 1 x.spot) x) k (entry d.block)

    -- the branches of a choose, each with its callback, in a scope of its own
    pub BranchesAt : Scope → List Item → List Target → Site → Branches → List CallbackTree → Type 0
    BranchesAt s r ts x NoBranches [] = Unit {0}
    BranchesAt s r ts x NoBranches (d ∷ ds) = ⊥
    BranchesAt s r ts x (MoreBranches place w b bs) [] = ⊥
    BranchesAt s r ts x (MoreBranches place w b bs) (d ∷ ds) =
        (s2 : Scope) × BranchAt s (Mark ∷ s) w d s2 × BodyAt s2 (Leave ∷ r) ts x b (entry d.block)
        × BranchesAt s r ts (site_past b x) bs ds

-- a class carries an actor, from the begin of its text and the begin of its first block
abbrev pub Carries : Names → RoutineTree → ClassTree → Type 0
Carries ns a c = BodyAt ns c [] [] [] (first_site a) a.body (entry 0)

-- each actor of a program is carried by the class in its place
abbrev pub AllCarried : Names → List RoutineTree → List ClassTree → Type 0
AllCarried ns [] cs = Unit {0}
AllCarried ns (a ∷ rest) [] = ⊥
AllCarried ns (a ∷ rest) (c ∷ cs) = Carries ns a c × AllCarried ns rest cs

abbrev pub CarriesProgram : ProgramTree → RawTree → Type 0
CarriesProgram p r = AllCarried (names_of p) (actors_in p.decls) r.classes
