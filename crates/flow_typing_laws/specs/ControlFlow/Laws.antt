-- What the rules on bodies say by walks.
use Rattle.std.specs.Prelude.{◌≡◌, ℕ, ◌<◌, ◌↔◌, IsTrue, List, [], ◌∷◌, Contains, slice_get}
use Rattle.std.specs.declared.option.Option.{Option}
use Rattle.std.specs.declared.option.Option.TheVariants.{None, Some}
use Rattle.flow_tree.specs.Body.{Body, ForStmt, Branches}
use Rattle.flow_tree.specs.Decls.{ParamTree, DeclTree, StructDecl, FunctionDecl, ActorDecl}
use Rattle.flow_tree.specs.Folds.{EachStmt, EachBranch}
use Rattle.flow_tree.specs.Formed.{IsInit, IsStep, EachBody}
use Rattle.flow_rules.specs.Closing.{ways}
use Rattle.flow_staterule.specs.declared.rule.Lost.{Lost}
use Rattle.flow_staterule.specs.StateRule.{first_lost}
use Rattle.flow_typing_laws.specs.ControlFlow.Graph.{Walk, Reaches}
use Rattle.flow_typing_laws.specs.ControlFlow.Control.{control, closing}
use Rattle.flow_typing_laws.specs.ControlFlow.Mentions.{Mention, Wait, routine_mentions, waits}

-- the parts of a `for` are simple, as the grammar has them
abbrev pub IsSimpleFor : Body → Type 0
IsSimpleFor (ForStmt at i e t b k) = IsInit i × IsStep t
IsSimpleFor b = Unit {0}

abbrev pub HasSimpleParts : Body → Type 0
HasSimpleParts b = EachStmt IsSimpleFor b

abbrev pub HaveSimpleParts : Branches → Type 0
HaveSimpleParts bs = EachBranch IsSimpleFor bs

abbrev pub AllHaveSimpleParts : List DeclTree → Type 0
AllHaveSimpleParts ds = EachBody HasSimpleParts ds

-- some walk leads from the opening brace of a body to the closing one
abbrev pub ComesToEnd : Body → Type 0
ComesToEnd b = Reaches (control b) 0 (closing b)

-- a body is left by its end where the rule that tests its structure says so
abbrev pub EndsByWalk : Body → Type 0
EndsByWalk b = HasSimpleParts b → IsTrue (ways b).end ↔ ComesToEnd b

-- A use is bad by a wait: a walk leads from its declaration to it, passes the wait, and doesn't pass the declaration again.
-- A walk passes a point where it leaves it. A wait that declares the local itself is left before the walk begins.
abbrev pub IsBad : Body → Mention → Wait → Type 0
IsBad b u w =
    let d = u.declared.point in
    (left : List ℕ) × Walk (control b) d (d ∷ left) u.point × Contains left w.point × (Contains left d → ⊥)

-- a use is bad by some wait
abbrev pub IsBadUse : Body → Mention → Type 0
IsBadUse b u = (w : Wait) × Contains (waits b 1) w × IsBad b u w

-- the use and the wait with these numbers, in the order of the text
abbrev pub IsUse : List ParamTree → Body → ℕ → Mention → Type 0
IsUse ps b i u = slice_get (routine_mentions ps b) i ≡ Some u

abbrev pub IsWait : Body → ℕ → Wait → Type 0
IsWait b i w = slice_get (waits b 1) i ≡ Some w

-- the first bad use, and the first wait by which it is bad
pub record IsFirstBad (ps : List ParamTree) (b : Body) (l : Lost) : Type 0 where
  pub use_number : ℕ
  pub wait_number : ℕ
  pub mention : Mention
  pub wait : Wait
  pub is_use : IsUse ps b use_number mention
  pub is_wait : IsWait b wait_number wait
  pub told : l ≡ record { at = mention.at; declared = mention.declared.at; wait = wait.at }
  pub bad : IsBad b mention wait
  pub no_use_before : (i : ℕ) (u : Mention) → i < use_number → IsUse ps b i u → IsBadUse b u → ⊥
  pub no_wait_before : (i : ℕ) (w : Wait) → i < wait_number → IsWait b i w → IsBad b mention w → ⊥

-- what is lost in a function or actor
abbrev pub LostIn : List ParamTree → Body → Option Lost → Type 0
LostIn ps b None = (u : Mention) → Contains (routine_mentions ps b) u → IsBadUse b u → ⊥
LostIn ps b (Some l) = IsFirstBad ps b l

-- what is lost in a declaration, and first in declarations
abbrev pub LostInDecl : DeclTree → Option Lost → Type 0
LostInDecl (StructDecl r) l = l ≡ None
LostInDecl (FunctionDecl f) l = LostIn f.params f.body l
LostInDecl (ActorDecl f) l = LostIn f.params f.body l

pub data FirstLost : List DeclTree → Option Lost → Type 0 where
  nothing : FirstLost [] None
  here : (d : DeclTree) (ds : List DeclTree) (l : Lost) → LostInDecl d (Some l) → FirstLost (d ∷ ds) (Some l)
  later : (d : DeclTree) (ds : List DeclTree) (l : Option Lost) → LostInDecl d None → FirstLost ds l → FirstLost (d ∷ ds) l

-- the use that the rule on state tells is the first bad one by walks, and there is none where it tells none
abbrev pub LostByWalk : List DeclTree → Type 0
LostByWalk ds = AllHaveSimpleParts ds → FirstLost ds (first_lost ds)
