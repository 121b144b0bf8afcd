-- A class carries an actor: what stands where in the blocks of a class, for each point of the actor's text. A point has a
-- position only where control comes back to it; everything else is said by recursion over the text.
use Rattle.std.specs.Prelude.{◌≡◌, ℕ, suc, ◌<◌, pos, true, false, List, [], ◌∷◌, length, codes, Bool}
use Rattle.std.specs.declared.option.Option.{Option}
use Rattle.std.specs.declared.option.Option.TheVariants.{None, Some}
use Rattle.flow_tree.specs.declared.ty.Ident.{Ident}
use Rattle.flow_tree.specs.Tree.{TypeTree, IntType, BoolType, StringType, ExprTree, ExprTrees, IntExpr, TextExpr, BoolExpr, CallExpr, NoExprs}
use Rattle.flow_tree.specs.Body.{IntoTree, Body, End, DeclareStmt, AssignStmt, ModifyStmt}
use Rattle.flow_class.specs.declared.class.Slotted.{Slotted}
use Rattle.flow_class.specs.declared.class.Slotted.TheVariants as place
use Rattle.flow_class.specs.Classes.{SetInstr, EffectInstr, NewInstr, DropInstr, GotoLast, PassLast, ReturnLast, ThrowLast, ClassTree}
use Rattle.flow_meaning.specs.Evaluating.{Names, Effectful, effect_in}
use Rattle.flow_class.specs.Scopes.{Var, scope, outside, Scope, Above, Covers, place_of, over, path_over}
use Rattle.flow_meaning.specs.Items.{Item, Do, Leave, Round, Made, Handler, Unwound, unwind, change}
use Rattle.flow_class.specs.Places.{place_named}
use Rattle.flow_class.specs.Code.{Fetched, Last, Nothing, fetch, catcher_at, group_at}
use Rattle.flow_class.specs.Code as frame
use Rattle.flow_class.specs.Code.{type_at}

-- a position in a class
pub record Pos : Type 0 where
  pub block : ℕ
  pub instr : ℕ

abbrev pub entry : ℕ → Pos
entry b = record { block = b; instr = 0 }

abbrev pub after : Pos → Pos
after p = record { block = p.block; instr = suc p.instr }

-- Where an item goes on: at a position; wherever the step of the loop and a pass into that block stand; at a handler's
-- block, with the local that takes the error.
pub data Target : Type 0 where
  At : Pos → Target
  Again : (block : ℕ) → Target
  Hand : (block error : ℕ) → Target

-- a body follows the scope of its own, or is the whole text
abbrev pub EndsScope : List Item → Type 0
EndsScope [] = Unit {0}
EndsScope (Leave ∷ r) = Unit {0}
EndsScope _ = ⊥

module _ (ns : Names) (c : ClassTree) where
  abbrev pub at : Pos → Fetched
  at p = fetch c p.block p.instr

  -- from p the class comes to q by jumps alone
  pub data JumpsTo : Pos → Pos → Type 0 where
    here : {p : Pos} → JumpsTo p p
    jump : {p q : Pos} (b : ℕ) → at p ≡ Last (GotoLast b) → JumpsTo (entry b) q → JumpsTo p q

  -- a local that there is, with a number above those of all locals in force
  abbrev pub NewLocal : ℕ → Scope → Type 0
  NewLocal n s = (n < length c.locals) × Above n s

  -- The block of a position catches as the items say: at the innermost catch's handler, after the drop of the locals
  -- declared inside its body, or not at all.
  abbrev pub hand_of : List Item → List Target → Option (ℕ × ℕ)
  hand_of [] ts = None
  hand_of (Leave ∷ r) ts = hand_of r ts
  hand_of (Handler x s h ∷ r) (Hand b n ∷ ts) = Some (b, n)
  hand_of (i ∷ r) [] = None
  hand_of (i ∷ r) (t ∷ ts) = hand_of r ts

  abbrev pub CaughtBy : Scope → Option (Unwound ℕ) → Option (ℕ × ℕ) → Pos → Type 0
  CaughtBy s None o p = catcher_at c p.block ≡ None
  CaughtBy s (Some u) None p = ⊥
  CaughtBy s (Some u) (Some h) p =
      (ds : List ℕ) × (catcher_at c p.block ≡ Some (record { block = h.0; error = Some h.1; drops = ds })) × Covers s ds u.left

  abbrev pub CaughtAt : Scope → List Item → List Target → Pos → Type 0
  CaughtAt s r ts p = CaughtBy s (unwind [] s r) (hand_of r ts) p

  -- an assignment of an expression, or of an effect, to a path
  abbrev pub AssignBy : Option (Effectful × ExprTrees) → List Ident → ExprTree → Pos → Type 0
  AssignBy None path e p = at p ≡ frame.Body (SetInstr path e)
  AssignBy (Some g) path e p = at p ≡ frame.Body (EffectInstr path e)

  abbrev pub AssignAt : Scope → List Ident → ExprTree → Pos → Type 0
  AssignAt s path e p = AssignBy (effect_in ns e) path (over c.slots s e) p

  abbrev pub ChangeAt : Scope → List Ident → Option ExprTree → Pos → Type 0
  ChangeAt s xs None p = ⊥
  ChangeAt s xs (Some e) p = AssignAt s (path_over c.slots s xs) e p

  -- a declared variable gets its value at a position: what its type has at first, a new cell, an expression, an effect
  abbrev pub default_expr : TypeTree → Option ExprTree
  default_expr IntType = Some (IntExpr (pos 0))
  default_expr BoolType = Some (BoolExpr false)
  default_expr StringType = Some (TextExpr [])
  default_expr _ = None

  abbrev pub FirstAt : Slotted → TypeTree → Option ExprTree → Pos → Type 0
  FirstAt to t None p = (at p ≡ frame.Body (NewInstr to)) × (type_at c to ≡ Some t)
  FirstAt to t (Some e) p = (x : Ident) × (at p ≡ frame.Body (SetInstr (x ∷ []) e)) × (place_named x.name ≡ Some to)

  abbrev pub DeclareAt : Scope → Slotted → TypeTree → Option ExprTree → Pos → Type 0
  DeclareAt s to t None p = FirstAt to t (default_expr t) p
  DeclareAt s to t (Some e) p = (x : Ident) × AssignAt s (x ∷ []) e p × (place_named x.name ≡ Some to)

  -- the place of a declared variable: its slot, or a free local, which is in force from then on
  abbrev pub DeclaredAs : Scope → IntoTree → Slotted → Scope → Type 0
  DeclaredAs s i (place.Slot n) later = (i.state ≡ true) × (place_of c.slots s i.name.name ≡ Some (place.Slot n)) × (later ≡ s)
  DeclaredAs s i (place.Local n) later = (i.state ≡ false) × NewLocal n s × (later ≡ Var i.name.name n ∷ s)

  -- A part of a `for`, or none, from p to q, and the locals in force after it.
  abbrev pub SimpleAt : Scope → List Item → List Target → Body → Pos → Pos → Scope → Type 0
  SimpleAt s r ts End p q later = (p ≡ q) × (later ≡ s)
  SimpleAt s r ts (AssignStmt place xs e End) p q later =
      CaughtAt s r ts p × AssignAt s (path_over c.slots s xs) e p × (q ≡ after p) × (later ≡ s)
  SimpleAt s r ts (ModifyStmt place xs k End) p q later = CaughtAt s r ts p × ChangeAt s xs (change xs k) p × (q ≡ after p) × (later ≡ s)
  SimpleAt s r ts (DeclareStmt place i e End) p q later =
      CaughtAt s r ts p × (to : Slotted) × DeclareAt s to i.ty e p × DeclaredAs s i to later × (q ≡ after p)
  SimpleAt s r ts _ p q later = ⊥

  -- a pass into that block stands at p
  abbrev pub PassAt : Pos → ℕ → Type 0
  PassAt p b = (h : Pos) × JumpsTo p h × (at h ≡ Last (PassLast b))

  -- the scope's locals are dropped, where it has any, and then comes what follows
  abbrev pub DropThen : List ℕ → Pos → (Pos → Type 0) → Type 0
  DropThen [] p follows = follows p
  DropThen (n ∷ ns) p follows = (h : Pos) × JumpsTo p h × (at h ≡ frame.Body (DropInstr (n ∷ ns))) × follows (after h)

  -- from p the class goes on with the items
  abbrev pub GoesOn : Scope → List Item → List Target → Pos → Type 0
  GoesOn s (Leave ∷ r) ts p = DropThen (scope s) p (GoesOn (outside s) r ts)
  GoesOn s (Do site k ∷ r) (At q ∷ ts) p = JumpsTo p q
  GoesOn s (Made l ∷ r) (Again b ∷ ts) p = (h : Pos) × (q : Pos) × JumpsTo p h × SimpleAt s (Round l ∷ r) (Again b ∷ ts) l.step h q s
      × PassAt q b
  GoesOn s (Handler x site k ∷ r) (Hand b n ∷ ts) p = GoesOn s r ts p
  GoesOn s _ ts p = ⊥

  -- The end of a text: that of a void actor is `return;`, and that of another, which nothing reaches, throws, and nothing catches that.
  abbrev pub TextEndsAt : (is_void : Bool) → Pos → Type 0
  TextEndsAt true p = (h : Pos) × JumpsTo p h × (at h ≡ Last (ReturnLast None))
  TextEndsAt false p = (h : Pos) × (f : Ident) × JumpsTo p h × (at h ≡ Last (ThrowLast (CallExpr f NoExprs)))
      × (f.name ≡ codes "operation_cancelled")
      × (catcher_at c h.block ≡ None)

  -- the end of a body, over the items that follow
  abbrev pub EndsAt : (is_void : Bool) → Scope → List Item → List Target → Pos → Type 0
  EndsAt void s [] ts p = TextEndsAt void p
  EndsAt void s (i ∷ r) ts p = GoesOn s (i ∷ r) ts p
