-- What is in force at an item of the code, seen as plain data, and what its walk answers.
use Rattle.std.specs.Prelude.{◌≡◌, ℕ, false, List, [], ◌++◌, map, take, length, Result, Ok, Err}
use Rattle.std.specs.declared.option.Option.{Option}
use Rattle.std.specs.declared.option.Option.TheVariants.{None, Some}
use denote.Ref.{Bor}
use Rattle.indexmap.specs.IndexSet.{IndexSet}
use Rattle.flow_tree.specs.declared.fault.SourceFault.{SourceFault}
use Rattle.flow_tree.specs.declared.fault.SourceFault.TheVariants.{Refused, AcrossWait, OutOfMemory}
use Rattle.flow_tree.specs.Body.{Body, End, Branches}
use Rattle.flow_tree.specs.Decls.{SlotTree}
use Rattle.flow_ast.specs.Slots.{body_slots, branch_slots}
use Rattle.flow_types.specs.declared.walk.Walk as code
use Rattle.flow_types.specs.declared.walk.Around.{Around}
use Rattle.flow_rules.specs.Items.{Env, Refusal, with_states, started, slot_names, body_refusal, branch_refusal}
use Rattle.flow_types.specs.View.{found_of}
use Rattle.flow_types.specs.SettingView.{setting_view}

abbrev pub texts_of : {S : Type 0} → IndexSet (Bor (List ℕ)) S → List (List ℕ)
texts_of s = map (λ (k : Bor (List ℕ)). k.now) s.keys

abbrev pub env_of : code.Walk → Around → Env
env_of w a = record {
  setting = setting_view w.setting;
  returns = found_of w.returns;
  states = texts_of w.states;
  looped = a.looped;
  caught = a.caught;
}

-- nothing fails, or this is the first refusal; want of memory may come anywhere
abbrev pub Says : Option Refusal → Result (Unit {0}) SourceFault → Type 0
Says r (Ok u) = r ≡ None
Says r (Err (Refused rule at)) = r ≡ Some (rule, at)
Says r (Err (AcrossWait at declared wait)) = ⊥
Says r (Err OutOfMemory) = Unit {0}

-- what is in force, but for variables, names of state variables, and what stands around
abbrev pub bare : Env → Env
bare e = record e { setting = record e.setting { vars = [] }; states = []; looped = false; caught = false }

-- behind statements there may be more variables, and more names of state variables
pub record Grows (e new : Env) (b : Body) : Type 0 where
  pub states : new.states ≡ e.states ++ slot_names (body_slots b)
  pub vars : take (length e.setting.vars) new.setting.vars ≡ e.setting.vars
  pub others : bare new ≡ bare e

-- a statement leads to what is in force behind it, from where any body goes on
pub record Steps (e new : Env) (f : Body → Body) : Type 0 where
  pub refusal : (k : Body) → body_refusal e (f k) ≡ body_refusal new k
  pub states : (k : Body) → new.states ++ slot_names (body_slots k) ≡ e.states ++ slot_names (body_slots (f k))
  pub exact : new ≡ started e (f End)

-- the same of a branch, whose variables are in force in it alone
pub record Passes (e new : Env) (f : Branches → Branches) : Type 0 where
  pub refusal : (k : Branches) → branch_refusal e (f k) ≡ branch_refusal new k
  pub states : (k : Branches) → new.states ++ slot_names (branch_slots k) ≡ e.states ++ slot_names (branch_slots (f k))
  pub others : new ≡ record e { states = new.states }

abbrev pub StmtAnswer : Env → Env → (Body → Body) → Result (Unit {0}) SourceFault → Type 0
StmtAnswer e new f (Ok u) = Steps e new f
StmtAnswer e new f (Err (Refused rule at)) = (k : Body) → body_refusal e (f k) ≡ Some (rule, at)
StmtAnswer e new f (Err (AcrossWait at declared wait)) = ⊥
StmtAnswer e new f (Err OutOfMemory) = Unit {0}

abbrev pub BranchAnswer : Env → Env → (Branches → Branches) → Result (Unit {0}) SourceFault → Type 0
BranchAnswer e new f (Ok u) = Passes e new f
BranchAnswer e new f (Err (Refused rule at)) = (k : Branches) → branch_refusal e (f k) ≡ Some (rule, at)
BranchAnswer e new f (Err (AcrossWait at declared wait)) = ⊥
BranchAnswer e new f (Err OutOfMemory) = Unit {0}

-- statements in a scope that goes on behind them
abbrev pub BodyAnswer : Env → Env → Body → Result (Unit {0}) SourceFault → Type 0
BodyAnswer e new b (Ok u) = (body_refusal e b ≡ None) × Grows e new b
BodyAnswer e new b (Err (Refused rule at)) = body_refusal e b ≡ Some (rule, at)
BodyAnswer e new b (Err (AcrossWait at declared wait)) = ⊥
BodyAnswer e new b (Err OutOfMemory) = Unit {0}

-- a part of a `for`
abbrev pub PartAnswer : Env → Env → Body → Result (Unit {0}) SourceFault → Type 0
PartAnswer e new b (Ok u) = (body_refusal e b ≡ None) × (new ≡ started e b) × (new.states ≡ e.states ++ slot_names (body_slots b))
PartAnswer e new b (Err (Refused rule at)) = body_refusal e b ≡ Some (rule, at)
PartAnswer e new b (Err (AcrossWait at declared wait)) = ⊥
PartAnswer e new b (Err OutOfMemory) = Unit {0}

-- this fails none, and new names of state variables stay; or it is the first refusal
abbrev pub Leads : Env → Env → Option Refusal → List SlotTree → Result (Unit {0}) SourceFault → Type 0
Leads e new before ss (Ok u) = (before ≡ None) × (new ≡ with_states e (slot_names ss))
Leads e new before ss (Err (Refused rule at)) = before ≡ Some (rule, at)
Leads e new before ss (Err (AcrossWait at declared wait)) = ⊥
Leads e new before ss (Err OutOfMemory) = Unit {0}

-- of the body of an `else`, or where there is none
abbrev pub else_refusal : Env → Option Body → Option Refusal
else_refusal e None = None
else_refusal e (Some b) = body_refusal e b

abbrev pub else_slots : Option Body → List SlotTree
else_slots None = []
else_slots (Some b) = body_slots b
