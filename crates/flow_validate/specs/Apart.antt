-- Declarations taken apart, names that they take, and types in any setting: what the code's calls say of themselves.
use Rattle.std.specs.Prelude.{◌≡◌, ℕ, Bool, false, ◌&&◌, nat_lt, List, [], ◌∷◌}
use Rattle.std.specs.List.{list_all}
use Rattle.flow_tree.specs.Decls.{RecordTree, RoutineTree, DeclTree, StructDecl, FunctionDecl, ActorDecl}
use Rattle.flow_ast.specs.Typing.{is_there}
use Rattle.flow_rules.specs.Known.{known}
use Rattle.flow_rules.specs.Items.{among}
use Rattle.flow_rules.specs.Judged.{Setting}
use Rattle.flow_class.specs.declared.class.Slotted.{Slotted}
use Rattle.flow_class.specs.declared.class.Slotted.TheVariants.{Slot, Local}
use Rattle.flow_class.specs.Classes.{ClassTree}
use Rattle.flow_valid.specs.Validity.{block_fits, callback_fits}

-- the records and the functions among declarations
abbrev pub records_in : List DeclTree → List RecordTree
records_in [] = []
records_in (StructDecl r ∷ ds) = r ∷ records_in ds
records_in (FunctionDecl f ∷ ds) = records_in ds
records_in (ActorDecl f ∷ ds) = records_in ds

abbrev pub functions_in : List DeclTree → List RoutineTree
functions_in [] = []
functions_in (StructDecl r ∷ ds) = functions_in ds
functions_in (FunctionDecl f ∷ ds) = f ∷ functions_in ds
functions_in (ActorDecl f ∷ ds) = functions_in ds

-- these names are those of declarations, and the predefined record's
abbrev pub AreTaken : List (List ℕ) → List DeclTree → Type 0
AreTaken names ds = (x : List ℕ) → among names x ≡ is_there (known ds x)

-- the first slots are the parameters
abbrev pub is_parameter_of : (params : ℕ) → Slotted → Bool
is_parameter_of params (Slot n) = nat_lt n params
is_parameter_of params (Local n) = false

-- the types of a class fit in a setting
abbrev pub types_fit_in : ClassTree → Setting → Bool
types_fit_in c s = list_all (block_fits c s) c.blocks && list_all (list_all (callback_fits c s)) c.groups
