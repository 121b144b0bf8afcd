-- What the rules ask of the statements of an actor so that each has a meaning where it stands.
use Rattle.std.specs.Prelude.{◌≡◌, ℕ, Bool, true, false, List, [], ◌∷◌, position, slice_get}
use Rattle.std.specs.Str.{bytes_eq}
use Rattle.std.specs.Option.{option_and_then}
use Rattle.std.specs.declared.option.Option.{Option}
use Rattle.std.specs.declared.option.Option.TheVariants.{None, Some}
use Rattle.flow_tree.specs.Tree.{ExprTree}
use Rattle.flow_tree.specs.Body.{IntoTree, Body, End, BlockStmt, IfStmt, IfElseStmt, WhileStmt, ForStmt, LoopStmt, BreakStmt, ContinueStmt, ReturnStmt, ThrowStmt, TryStmt, ChooseStmt, DeclareStmt, AssignStmt, ModifyStmt, CallStmt, WaitStmt, Branches, NoBranches, MoreBranches}
use Rattle.flow_tree.specs.Decls.{SlotTree}

-- none of these names is x
abbrev pub NotAmong : List (List ℕ) → List ℕ → Type 0
NotAmong [] x = Unit {0}
NotAmong (y ∷ ys) x = (bytes_eq x y ≡ false) × NotAmong ys x

-- a declared variable is a local in force from then on, but for a state variable
abbrev pub naming_if : (state : Bool) → List ℕ → List (List ℕ) → List (List ℕ)
naming_if true x xs = xs
naming_if false x xs = x ∷ xs

abbrev pub naming : IntoTree → List (List ℕ) → List (List ℕ)
naming i xs = naming_if i.state i.name.name xs

abbrev pub naming_any : Option IntoTree → List (List ℕ) → List (List ℕ)
naming_any None xs = xs
naming_any (Some i) xs = naming i xs

-- the locals in force behind the init of a `for`
abbrev pub started : Body → List (List ℕ) → List (List ℕ)
started (DeclareStmt at i e k) xs = naming i xs
started b xs = xs

-- the error that is thrown on is that of a catch around
abbrev pub IsThrown : (caught : Bool) → Option ExprTree → Type 0
IsThrown caught None = caught ≡ true
IsThrown caught (Some e) = Unit {0}

module _ (slots : List SlotTree) where
  -- the first slot of a name
  abbrev pub slot_of : List ℕ → Option SlotTree
  slot_of x =
      option_and_then (slice_get slots) (position (λ (t : SlotTree). bytes_eq x t.name) slots)

  -- a state variable has the name of no local in force, and the first slot of its name is its own
  pub record HasSlot (locals : List (List ℕ)) (i : IntoTree) : Type 0 where
    pub apart : NotAmong locals i.name.name
    pub slot : slot_of i.name.name ≡ Some (record { ty = i.ty; name = i.name.name })

  abbrev pub MayDeclare : List (List ℕ) → IntoTree → Type 0
  MayDeclare xs i = i.state ≡ true → HasSlot xs i

  abbrev pub MayTake : List (List ℕ) → Option IntoTree → Type 0
  MayTake xs None = Unit {0}
  MayTake xs (Some i) = MayDeclare xs i

  -- A break or a continue stands in a loop, a throw without an error in a catch, and each state variable has its slot;
  -- xs are the names of the locals in force.
  abbrev mutual
    pub InPlace : (looped caught : Bool) → (xs : List (List ℕ)) → Body → Type 0
    InPlace l t xs End = Unit {0}
    InPlace l t xs (BlockStmt at b k) = InPlace l t xs b × InPlace l t xs k
    InPlace l t xs (IfStmt at e b k) = InPlace l t xs b × InPlace l t xs k
    InPlace l t xs (IfElseStmt at e b d k) = InPlace l t xs b × InPlace l t xs d × InPlace l t xs k
    InPlace l t xs (WhileStmt at e b k) = InPlace true t xs b × InPlace l t xs k
    InPlace l t xs (ForStmt at i e p b k) =
        InPlace l t xs i × InPlace l t (started i xs) p × InPlace true t (started i xs) b
        × InPlace l t xs k
    InPlace l t xs (LoopStmt at b k) = InPlace true t xs b × InPlace l t xs k
    InPlace l t xs (BreakStmt at k) = (l ≡ true) × InPlace l t xs k
    InPlace l t xs (ContinueStmt at k) = (l ≡ true) × InPlace l t xs k
    InPlace l t xs (ReturnStmt at e k) = InPlace l t xs k
    InPlace l t xs (ThrowStmt at e k) = IsThrown t e × InPlace l t xs k
    InPlace l t xs (TryStmt at b q x h k) =
        InPlace l t xs b × InPlace l true (x.name ∷ xs) h × InPlace l t xs k
    InPlace l t xs (ChooseStmt at bs k) = AllInPlace l t xs bs × InPlace l t xs k
    InPlace l t xs (DeclareStmt at i e k) = MayDeclare xs i × InPlace l t (naming i xs) k
    InPlace l t xs (AssignStmt at ys e k) = InPlace l t xs k
    InPlace l t xs (ModifyStmt at ys d k) = InPlace l t xs k
    InPlace l t xs (CallStmt at ys es k) = InPlace l t xs k
    InPlace l t xs (WaitStmt at w k) = MayTake xs w.into × InPlace l t (naming_any w.into xs) k

    pub AllInPlace : (looped caught : Bool) → (xs : List (List ℕ)) → Branches → Type 0
    AllInPlace l t xs NoBranches = Unit {0}
    AllInPlace l t xs (MoreBranches at w b bs) =
        MayTake xs w.into × InPlace l t (naming_any w.into xs) b × AllInPlace l t xs bs
