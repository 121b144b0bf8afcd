-- The class that an actor is lowered to.
use Rattle.std.specs.Prelude.{ℕ, suc, Bool, true, false, pos, List, [], ◌∷◌, ◌++◌, map, length, codes, if◌then◌else◌}
use Rattle.std.specs.Option.{option_map, option_and_then}
use Rattle.std.specs.declared.option.Option.{Option}
use Rattle.std.specs.declared.option.Option.TheVariants.{None, Some}
use Rattle.flow_base.specs.declared.place.Place.{Place}
use Rattle.flow_tree.specs.declared.ty.Ident.{Ident}
use Rattle.flow_tree.specs.Tree.{TypeTree, IntType, BoolType, StringType, ExprTree, IntExpr, TextExpr, BoolExpr, VarExpr, CallExpr, BinaryExpr, ParenExpr, NoExprs}
use Rattle.flow_tree.specs.Body.{IntoTree, WaitTree, ChangeTree, PlusChange, MinusChange, UpChange, DownChange, Body, End, BlockStmt, IfStmt, IfElseStmt, WhileStmt, ForStmt, LoopStmt, BreakStmt, ContinueStmt, ReturnStmt, ThrowStmt, TryStmt, ChooseStmt, DeclareStmt, AssignStmt, ModifyStmt, CallStmt, WaitStmt, Branches, NoBranches, MoreBranches}
use Rattle.flow_tree.specs.declared.expr.Op.TheVariants.{Add, Sub}
use Rattle.flow_tree.specs.Decls.{SlotTree, RoutineTree}
use Rattle.flow_ast.specs.Typing.{is_there, is_nothing}
use Rattle.flow_ast.specs.Leaving.{has_statement}
use Rattle.flow_class.specs.declared.class.Slotted.{Slotted}
use Rattle.flow_class.specs.declared.class.Slotted.TheVariants as place
use Rattle.flow_class.specs.Classes.{CatcherTree, InstrTree, SetInstr, EffectInstr, NewInstr, ActInstr, DropInstr, LastTree, GotoLast, PassLast, TestLast, ChooseLast, ReturnLast, ThrowLast, BlockTree, CallbackTree, ClassTree}
use Rattle.flow_class.specs.Scopes.{Mark, Var, Scope, scope, place_of, var_over, over, over_all, path_over, act_over}
use Rattle.flow_catch.specs.Inner.{inner_locals, left_lists}
use Rattle.flow_choose.specs.Places.{ident_at}
use Rattle.flow_meaning.specs.Evaluating.{Names, effect_in}
use Rattle.flow_meaning.specs.Items.{change}
use Rattle.flow_layout.specs.Laying.{LayoutTree}
use Rattle.flow_split.specs.Around.{Exit, Text, Scoped, Part, Hand, Around, whole, inner, pass, guarded, handling}
use Rattle.flow_split.specs.Counts.{Next, begun, taken, grouped, past, past_branches}

-- What a body comes to: the rest of the block at hand and its last instruction; whether a statement stands in it; the
-- locals that its try body has in force at its end, newest first; the blocks after it, and the groups.
pub record Chunk : Type 0 where
  pub body : List InstrTree
  pub last : LastTree
  pub acts : Bool
  pub held : List ℕ
  pub more : List BlockTree
  pub groups : List (List CallbackTree)

-- A block catches where a statement of a try body stands in it; a block of drops and jumps alone can't fail.
abbrev pub catch_part : (acts : Bool) → Option Hand → List ℕ → Option CatcherTree
catch_part true (Some h) held = Some (record { block = h.block; error = Some h.error; drops = held })
catch_part true None held = None
catch_part false h held = None

abbrev pub block_with : Option Hand → Chunk → BlockTree
block_with h c = record { catcher = catch_part c.acts h c.held; body = c.body; last = c.last }

abbrev pub blocks_of : Option Hand → Chunk → List BlockTree
blocks_of h c = block_with h c ∷ c.more

-- a chunk, and then another one in blocks of its own
abbrev pub joined : Option Hand → Chunk → Chunk → Chunk
joined h c d = record c { more = c.more ++ blocks_of h d; groups = c.groups ++ d.groups }

-- the block at hand ends so, with a statement or without one
abbrev pub ends : Around → Scope → (acts : Bool) → List InstrTree → LastTree → Chunk
ends w s acts body last = record { body = body; last = last; acts = acts; held = inner_locals w.depth s; more = []; groups = [] }

-- instructions of a statement before the rest of the block
abbrev pub acting : List InstrTree → Chunk → Chunk
acting is c = record c { body = is ++ c.body; acts = true }

-- locals are dropped, where there are any
abbrev pub drop_of : List ℕ → List InstrTree
drop_of [] = []
drop_of (n ∷ ns) = DropInstr (n ∷ ns) ∷ []

abbrev pub dropping : List ℕ → Chunk → Chunk
dropping ns c = record c { body = drop_of ns ++ c.body }

-- the end of a text, which nothing reaches
abbrev pub cancelled : Place → LastTree
cancelled at = ThrowLast (CallExpr (record { name = codes "operation_cancelled"; at = at }) NoExprs)

abbrev pub text_end : Option Place → LastTree
text_end None = ReturnLast None
text_end (Some close) = cancelled close

-- the end of a body
abbrev pub finished : Around → Scope → Exit → Chunk
finished w s (Text close) = ends w s false [] (text_end close)
finished w s (Scoped last) = ends w s false (drop_of (scope s)) last
finished w s (Part last) = ends w s false [] last

-- what stands behind a statement that nothing goes on from, if anything does
abbrev pub before_rest : Option Hand → Chunk → (rest : Body) → Chunk → Chunk
before_rest h c k d = if has_statement k then joined h c d else c

-- A break or a continue drops scope by scope and jumps. Out of a try body it does so in a block outside of that.
abbrev pub exits : (tried : Bool) → Around → Scope → Next → LastTree → Chunk
exits false w s n last = ends w s false (map DropInstr (left_lists w.looped.depth s)) last
exits true w s n last = record (ends w s false [] (GotoLast n.block)) {
  more = record { catcher = None; body = map DropInstr (left_lists w.looped.depth s); last = last } ∷ [];
}

-- the numbers behind such an exit
abbrev pub exited : (tried : Bool) → Next → Next
exited false n = n
exited true n = begun n

-- a variable that is a local is in force from then on
abbrev pub with_local : Bool → List ℕ → ℕ → Scope → Scope
with_local true x l s = s
with_local false x l s = Var x l ∷ s

abbrev pub with_into : IntoTree → ℕ → Scope → Scope
with_into i l s = with_local i.state i.name.name l s

abbrev pub with_taken : Option IntoTree → ℕ → Scope → Scope
with_taken None l s = s
with_taken (Some i) l s = with_into i l s

-- the locals in force behind the first statement of a body
abbrev pub later : Body → ℕ → Scope → Scope
later (DeclareStmt at i e k) l s = with_into i l s
later (WaitStmt at w k) l s = with_taken w.into l s
later _ l s = s

-- what a variable holds that is declared without a value, but for a new cell
abbrev pub first_value : TypeTree → Option ExprTree
first_value IntType = Some (IntExpr (pos 0))
first_value BoolType = Some (BoolExpr false)
first_value StringType = Some (TextExpr [])
first_value _ = None

abbrev pub new_at : Option Slotted → List InstrTree
new_at None = []
new_at (Some p) = NewInstr p ∷ []

abbrev pub first_at : IntoTree → Option Slotted → Option ExprTree → List InstrTree
first_at i p None = new_at p
first_at i p (Some e) = SetInstr (ident_at p i.name ∷ []) e ∷ []

-- the body of a `for` begins behind its test, where it has one
abbrev pub tested : Option ExprTree → Next → Next
tested None n = n
tested (Some e) n = begun n

module _ (ns : Names) (slots : List SlotTree) where
  -- an assignment of an expression or of an effect
  abbrev pub assign_by : Bool → List Ident → ExprTree → InstrTree
  assign_by true xs e = EffectInstr xs e
  assign_by false xs e = SetInstr xs e

  abbrev pub assigned : Scope → List Ident → ExprTree → InstrTree
  assigned s xs e = assign_by (is_there (effect_in ns e)) xs (over slots s e)

  abbrev pub changed : Scope → List Ident → Option ExprTree → List InstrTree
  changed s xs None = []
  changed s xs (Some e) = assigned s (path_over slots s xs) e ∷ []

  -- the place of a declared variable: its slot, or the local of this number
  abbrev pub place_by : Bool → List ℕ → ℕ → Scope → Option Slotted
  place_by true x l s = place_of slots s x
  place_by false x l s = Some (place.Local l)

  abbrev pub place_in : IntoTree → ℕ → Scope → Option Slotted
  place_in i l s = place_by i.state i.name.name l s

  abbrev pub taken_in : Option IntoTree → ℕ → Scope → Option Slotted
  taken_in None l s = None
  taken_in (Some i) l s = place_in i l s

  abbrev pub declares : Scope → ℕ → IntoTree → Option ExprTree → List InstrTree
  declares s l i None = first_at i (place_in i l s) (first_value i.ty)
  declares s l i (Some e) = assigned s (ident_at (place_in i l s) i.name ∷ []) e ∷ []

  -- an error by an expression, or that of the catch around by its variable
  abbrev pub thrown : Scope → Place → Option ExprTree → Option (List ℕ) → ExprTree
  thrown s at (Some e) caught = over slots s e
  thrown s at None caught = VarExpr (record { name = var_over (option_and_then (place_of slots s) caught); at = at })

  -- a wait: its operand, the place of its variable, and where it goes on
  abbrev pub callback : Scope → WaitTree → ℕ → (block : ℕ) → CallbackTree
  callback s w l block = record { next = w.next; operand = over slots s w.operand; into = taken_in w.into l s; block = block }

  abbrev pub callbacks : Scope → (tried : Bool) → Next → Branches → List CallbackTree
  callbacks s t n NoBranches = []
  callbacks s t n (MoreBranches at w b bs) = callback s w n.local n.block ∷ callbacks s t (past t b (taken w.into (begun n))) bs

  -- the test of a `for`, in a block of its own
  abbrev pub test_before : Around → Scope → Option ExprTree → (main out : ℕ) → Chunk → Chunk
  test_before w s None main out c = c
  test_before w s (Some e) main out c = joined w.hand c (ends w s true [] (TestLast (over slots s e) main out))

  -- A body over the locals in force, with the numbers that come next.
  abbrev mutual
    pub lowered : Scope → Around → Next → Body → Chunk
    lowered s w n End = finished w s w.exit
    lowered s w n (BlockStmt at b k) =
        let m = past w.looped.tried b n in
        joined w.hand (lowered (Mark ∷ s) (inner w (Scoped (GotoLast m.block))) n b) (lowered s w (begun m) k)
    lowered s w n (IfStmt at e b k) =
        let m = past w.looped.tried b (begun n) in
        joined w.hand
        (joined w.hand
        (ends w s true [] (TestLast (over slots s e) n.block m.block))
        (lowered (Mark ∷ s) (inner w (Scoped (GotoLast m.block))) (begun n) b))
        (lowered s w (begun m) k)
    lowered s w n (IfElseStmt at e b c k) =
        let m = past w.looped.tried b (begun n) in
        let j = past w.looped.tried c (begun m) in
        let v = inner w (Scoped (GotoLast j.block)) in
        joined w.hand
        (joined w.hand
        (joined w.hand
        (ends w s true [] (TestLast (over slots s e) n.block m.block))
        (lowered (Mark ∷ s) v (begun n) b))
        (lowered (Mark ∷ s) v (begun m) c))
        (lowered s w (begun j) k)
    lowered s w n (WhileStmt at e b k) =
        let h = begun n in
        let m = past false b (begun h) in
        joined w.hand
        (joined w.hand
        (joined w.hand
        (ends w s false [] (PassLast n.block))
        (ends w s true [] (TestLast (over slots s e) h.block m.block)))
        (lowered (Mark ∷ s) (pass w 1 (PassLast n.block) m.block) (begun h) b))
        (lowered s w (begun m) k)
    lowered s w n (ForStmt at i e p b k) =
        let t = w.looped.tried in
        let h = past t i n in
        let g = tested e h in
        let m = past false b (begun g) in
        let o = past t p (begun m) in
        let r = later i n.local (Mark ∷ s) in
        let v = inner w (Part (PassLast h.block)) in
        joined w.hand
        (joined w.hand
        (joined w.hand
        (test_before v r e g.block o.block (lowered (Mark ∷ s) v n i))
        (lowered (Mark ∷ r) (pass w 2 (GotoLast m.block) o.block) (begun g) b))
        (lowered r v (begun m) p))
        (dropping (scope (later p m.local r)) (lowered s w (begun o) k))
    lowered s w n (LoopStmt at b k) =
        let m = past false b (begun n) in
        joined w.hand
        (joined w.hand
        (ends w s false [] (PassLast n.block))
        (lowered (Mark ∷ s) (pass w 1 (PassLast n.block) m.block) (begun n) b))
        (lowered s w (begun m) k)
    lowered s w n (BreakStmt at k) =
        let m = exited w.looped.tried n in
        before_rest w.hand (exits w.looped.tried w s n (GotoLast w.looped.out)) k (lowered s w (begun m) k)
    lowered s w n (ContinueStmt at k) =
        let m = exited w.looped.tried n in
        before_rest w.hand (exits w.looped.tried w s n w.looped.again) k (lowered s w (begun m) k)
    lowered s w n (ReturnStmt at e k) =
        before_rest w.hand (ends w s true [] (ReturnLast (option_map (over slots s) e))) k (lowered s w (begun n) k)
    lowered s w n (ThrowStmt at e k) =
        before_rest w.hand (ends w s true [] (ThrowLast (thrown s at e w.caught))) k (lowered s w (begun n) k)
    lowered s w n (TryStmt at b p x c k) =
        let t = w.looped.tried in
        let m = past true b (begun n) in
        let g = begun (record m { local = suc m.local }) in
        let j = past t c g in
        let h : Hand = record { block = m.block; error = m.local } in
        let exit = Scoped (GotoLast j.block) in
        joined w.hand
        (joined w.hand
        (joined (Some h)
        (ends w s false [] (GotoLast n.block))
        (lowered (Mark ∷ s) (guarded w exit h) (begun n) b))
        (lowered (Var x.name m.local ∷ Mark ∷ s) (handling w exit x.name) g c))
        (lowered s w (begun j) k)
    lowered s w n (ChooseStmt at bs k) =
        let t = w.looped.tried in
        let g = grouped n in
        let j = past_branches t bs g in
        joined w.hand
        (branches (record (ends w s true [] (ChooseLast n.group)) { groups = callbacks s t g bs ∷ [] }) s
        (inner w (Scoped (GotoLast j.block))) g bs)
        (lowered s w (begun j) k)
    lowered s w n (DeclareStmt at i e k) =
        acting (declares s n.local i e) (lowered (with_into i n.local s) w (taken (Some i) n) k)
    lowered s w n (AssignStmt at xs e k) = acting (assigned s (path_over slots s xs) e ∷ []) (lowered s w n k)
    lowered s w n (ModifyStmt at xs d k) = acting (changed s xs (change xs d)) (lowered s w n k)
    lowered s w n (CallStmt at xs es k) = acting (ActInstr (act_over slots s xs) (over_all slots s es) ∷ []) (lowered s w n k)
    lowered s w n (WaitStmt at v k) =
        joined w.hand
        (record (ends w s true [] (ChooseLast n.group)) { groups = (callback s v n.local n.block ∷ []) ∷ [] })
        (lowered (with_taken v.into n.local s) w (taken v.into (begun (grouped n))) k)

    -- the branches of a choose behind it, each with its variable in a scope of its own
    pub branches : Chunk → Scope → Around → Next → Branches → Chunk
    branches c s w n NoBranches = c
    branches c s w n (MoreBranches at v b bs) =
        let m = taken v.into (begun n) in
        branches (joined w.hand c (lowered (with_taken v.into n.local (Mark ∷ s)) w m b)) s w (past w.looped.tried b m) bs

-- the brace that nothing reaches
abbrev pub close_of : RoutineTree → Option Place
close_of a = if is_nothing a.returns then None else Some a.close

-- the class of an actor with this layout
abbrev pub lowered_class : Names → LayoutTree → RoutineTree → ClassTree
lowered_class ns l a =
    let c = lowered ns l.slots [] (whole (close_of a)) (record { block = 1; local = 0; group = 1 }) a.body in
    record {
      name = a.name.name;
      returns = a.returns;
      params = length a.params;
      slots = l.slots;
      locals = l.locals;
      blocks = blocks_of None c;
      groups = c.groups;
    }

-- what a change in place makes of an old value over places
abbrev pub change_over : List SlotTree → Scope → ChangeTree → ExprTree → ExprTree
change_over slots s (PlusChange e) old = BinaryExpr Add old (ParenExpr (over slots s e))
change_over slots s (MinusChange e) old = BinaryExpr Sub old (ParenExpr (over slots s e))
change_over slots s UpChange old = BinaryExpr Add old (IntExpr (pos 1))
change_over slots s DownChange old = BinaryExpr Sub old (IntExpr (pos 1))
