-- A rule on references, kept by values.
use Rattle.std.specs.Prelude.{◌≡◌, ℕ, Bool, true, List, [], ◌∷◌}
use Rattle.std.specs.declared.option.Option.{Option}
use Rattle.std.specs.declared.option.Option.TheVariants.{None, Some}
use Rattle.flow_tree.specs.Tree.{ExprTree, ExprTrees}
use Rattle.flow_tree.specs.Decls.{RoutineTree}
use Rattle.flow_value.specs.declared.value.Kind.{Kind}
use Rattle.flow_value.specs.declared.value.Kind.TheVariants as kind
use Rattle.flow_value.specs.Values.{ValueTree, GoodOutcome, AllRefs}
use Rattle.flow_eval.specs.Eval.{Res, Done, Setting, eval_all}
use Rattle.flow_eval.specs.Functions.{Eval, Call, run_function, deepest}

-- the rule: whether a reference of a kind to a cell keeps it
abbrev pub Rule : Type 0
Rule = Kind → ℕ → Bool

-- where a promise keeps it, so does the future that it gives
pub record GivesFutures (p : Rule) : Type 0 where
  pub single : (k : ℕ) → p kind.Promise k ≡ true → p kind.Future k ≡ true
  pub stream : (k : ℕ) → p kind.PromiseStream k ≡ true → p kind.FutureStream k ≡ true

module _ (p : Rule) where
  abbrev pub RefNamed : Kind × ℕ → Type 0
  RefNamed r = p r.0 r.1 ≡ true

  -- each reference of a value keeps it
  abbrev pub Named : ValueTree → Type 0
  Named = AllRefs RefNamed

  abbrev pub AllNamed : List ValueTree → Type 0
  AllNamed [] = Unit {0}
  AllNamed (v ∷ vs) = Named v × AllNamed vs

  abbrev pub MaybeNamed : Option ValueTree → Type 0
  MaybeNamed None = Unit {0}
  MaybeNamed (Some v) = Named v

  -- what evaluation comes to, if that is a value or values
  abbrev pub ResNamed : Res ValueTree → Type 0
  ResNamed (Done v left) = Named v
  ResNamed _ = Unit {0}

  abbrev pub AllResNamed : Res (List ValueTree) → Type 0
  AllResNamed (Done vs left) = AllNamed vs
  AllResNamed _ = Unit {0}

  -- what the set cells hold, and variables
  abbrev pub CellsNamed : Setting → Type 0
  CellsNamed s = (k : ℕ) (v : ValueTree) → s.cells k ≡ Some (GoodOutcome v) → Named v

  abbrev pub LookNamed : (List ℕ → Option ValueTree) → Type 0
  LookNamed look = (x : List ℕ) → MaybeNamed (look x)

abbrev pub EvalNamed : Type 0
EvalNamed =
    (p : Rule) (s : Setting) (look : List ℕ → Option ValueTree) (e : ExprTree) (left : ℕ) → GivesFutures p → CellsNamed p s
    → LookNamed p look → ResNamed p (Eval s look e left)

abbrev pub AllEvalNamed : Type 0
AllEvalNamed =
    (p : Rule) (s : Setting) (look : List ℕ → Option ValueTree) (es : ExprTrees) (left : ℕ) → GivesFutures p → CellsNamed p s
    → LookNamed p look → AllResNamed p (eval_all s (run_function s deepest) look es left)

abbrev pub CallNamed : Type 0
CallNamed =
    (p : Rule) (s : Setting) (f : RoutineTree) (vs : List ValueTree) (left : ℕ) → GivesFutures p → CellsNamed p s → AllNamed p vs
    → ResNamed p (Call s f vs left)
