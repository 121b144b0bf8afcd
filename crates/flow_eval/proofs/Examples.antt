-- The function of the example is well typed, and so is what the tests call.
use Rattle.std.proofs.Common.{◌≡◌, ℕ, zero, suc, ℤ, pos, List, [], ◌∷◌, refl, sym, subst, map}
use Rattle.std.specs.Prelude.{codes}
use Rattle.std.specs.declared.option.Option.{Option}
use Rattle.std.specs.declared.option.Option.TheVariants.{None}
use Rattle.flow_tree.specs.declared.decl.RecordDecl.{RecordDecl}
use Rattle.flow_tree.specs.declared.decl.FunctionDecl.{FunctionDecl}
use Rattle.flow_tree.specs.DeclView.{record_of, function_of}
use Rattle.flow_tree.specs.Tree.{FutureType, TypeTree, IntType, ExprTree}
use Rattle.flow_tree.specs.Decls.{RecordTree, RoutineTree}
use Rattle.flow_ast.specs.TypingNames.{named}
use Rattle.flow_value.specs.Values.{ValueTree, IntValue, OutcomeTree}
use Rattle.flow_eval.specs.declared.variables.Var.{Var}
use Rattle.flow_eval.specs.Variables.{var_of}
use Rattle.flow_eval.specs.Meaning.{setting_with, no_cells}
use Rattle.flow_eval.specs.Functions.{Locals}
use Rattle.flow_ast.specs.Fits.{FunctionFits, FunctionsFit}
use Rattle.flow_eval.specs.Typed.{CellsFit}
use Rattle.flow_eval.specs.WellTyped.{cell_typed, WellTyped, WellTypedCall}
use Rattle.flow_eval.specs.Example.{word, n, call_f, countdown}
use Rattle.flow_eval.proofs.TypedValues.{some_same, none_some}
use Rattle.flow_eval.proofs.TypedLocals.{locals_look}

countdown_fits : FunctionFits [] (countdown ∷ []) [] countdown
countdown_fits = (((refl, refl), ((refl, refl), tt {0}), ((refl, refl), tt {0})), refl)

functions_fit : FunctionsFit [] (countdown ∷ []) []
functions_fit zero f e = subst (FunctionFits [] (countdown ∷ []) []) (some_same countdown f e) countdown_fits
functions_fit (suc k) f e = none_some f e

-- cells without types hold anything
abbrev no_types : ℕ → Option TypeTree
no_types c = None

cells_fit : (rs : List RecordTree) (cells : ℕ → Option OutcomeTree) → CellsFit rs (cell_typed no_types) cells
cells_fit rs cells c t v e h = none_some (FutureType t) e

pub example_called : (cells : ℕ → Option OutcomeTree) (now m : ℤ) → WellTypedCall (record { records = []; functions = countdown ∷ []; cells = cells; now = now }) 0 (IntValue m ∷ [])
example_called cells now m = record {
  cell_types = no_types;
  actors = [];
  called = countdown;
  there = refl;
  functions_fit = functions_fit;
  cells_fit = cells_fit [] cells;
  arguments_fit = (IntType, [], refl, refl, refl);
}

pub example_typed : (cells : ℕ → Option OutcomeTree) (now m : ℤ) → WellTyped (record { records = []; functions = countdown ∷ []; cells = cells; now = now }) (named ((codes "n", IntValue m) ∷ []))
    (call_f n)
example_typed cells now m = record {
  cell_types = no_types;
  actors = [];
  vars = record { ty = IntType; name = word (codes "n") } ∷ [];
  type = IntType;
  functions_fit = functions_fit;
  cells_fit = cells_fit [] cells;
  variables_fit = locals_look [] (cell_typed no_types) (record { ty = IntType; name = word (codes "n") } ∷ []) ((codes "n", IntValue m) ∷ []) (refl, refl, tt {0});
  yields = (refl, refl);
}

-- the same of what the code builds
pub countdown_called : (rs : List RecordDecl) (fs : List FunctionDecl) (vs : List ValueTree) (m : ℤ) → rs ≡ [] → map function_of fs ≡ countdown ∷ [] → vs ≡ IntValue m ∷ []
    → WellTypedCall (setting_with rs fs no_cells 0) 0 vs
countdown_called rs fs vs m r f v =
    subst (λ (vs : List ValueTree). WellTypedCall (setting_with rs fs no_cells 0) 0 vs) (sym v)
    (subst (λ (fs : List RoutineTree). WellTypedCall (record { records = map record_of rs; functions = fs; cells = no_cells; now = pos 0 }) 0 (IntValue m ∷ [])) (sym f)
    (subst (λ (rs : List RecordDecl). WellTypedCall (record { records = map record_of rs; functions = countdown ∷ []; cells = no_cells; now = pos 0 }) 0 (IntValue m ∷ [])) (sym r)
    (example_called no_cells (pos 0) m)))

pub countdown_typed : (rs : List RecordDecl) (fs : List FunctionDecl) (vs : List Var) (e : ExprTree) (m : ℤ) (cells : ℕ → Option OutcomeTree) (now : ℕ) → rs ≡ [] → map function_of fs ≡ countdown ∷ []
    → map var_of vs ≡ (codes "n", IntValue m) ∷ [] → e ≡ call_f n → WellTyped (setting_with rs fs cells now) (named (map var_of vs)) e
countdown_typed rs fs vs e m cells now r f v is =
    subst (λ (e : ExprTree). WellTyped (setting_with rs fs cells now) (named (map var_of vs)) e) (sym is)
    (subst (λ (l : Locals). WellTyped (setting_with rs fs cells now) (named l) (call_f n)) (sym v)
    (subst (λ (fs : List RoutineTree). WellTyped (record { records = map record_of rs; functions = fs; cells = cells; now = pos now }) (named ((codes "n", IntValue m) ∷ [])) (call_f n)) (sym f)
    (subst (λ (rs : List RecordDecl). WellTyped (record { records = map record_of rs; functions = countdown ∷ []; cells = cells; now = pos now }) (named ((codes "n", IntValue m) ∷ [])) (call_f n))
    (sym r)
    (example_typed cells (pos now) m))))
