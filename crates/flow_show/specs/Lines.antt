-- What writing a statement adds to a text.
use Rattle.std.specs.Prelude.{◌≡◌, ℕ, suc, Bool, true, false, List, [], ◌∷◌, ◌++◌, codes}
use Rattle.std.specs.declared.option.Option.{Option}
use Rattle.std.specs.declared.option.Option.TheVariants.{None, Some}
use Rattle.flow_tree.specs.declared.ty.Ident.{Ident}
use Rattle.flow_tree.specs.Body.{Body, Branches, BreakStmt, ContinueStmt, ReturnStmt, ThrowStmt, DeclareStmt, AssignStmt, ModifyStmt, CallStmt, WaitStmt}
use Rattle.flow_tree.specs.Decls.{ParamTree}
use Rattle.flow_tree.specs.Canon.{line, body_text, branches_text, params_text}

-- The text grows by a statement at this level: with the text of any body behind it, it is what it was,
-- with the text of the body that the statement and these make.
abbrev pub PutsBefore : ℕ → (Body → Body) → List ℕ → List ℕ → Type 0
PutsBefore k stmt old new = (rest : Body) → new ++ body_text k rest ≡ old ++ body_text k (stmt rest)

-- the same of a branch
abbrev pub PutsBranch : ℕ → (Branches → Branches) → List ℕ → List ℕ → Type 0
PutsBranch k branch old new = (rest : Branches) → new ++ branches_text k rest ≡ old ++ branches_text k (branch rest)

-- what stands behind the body of an `if`: the line that closes it, or that of `else`, its body and a
-- closing line
abbrev pub else_text : ℕ → Option Body → List ℕ
else_text k None = line k (codes "}")
else_text k (Some body) = line k (codes "} else {") ++ (body_text (suc k) body ++ line k (codes "}"))

-- the line of a `catch`, its body and a closing line
abbrev pub handler_text : ℕ → Ident → Body → List ℕ
handler_text k x body = line k (codes "} catch (Error& " ++ x.name ++ codes ") {") ++ (body_text (suc k) body ++ line k (codes "}"))

-- names, each behind a dot
abbrev pub more_names_text : List Ident → List ℕ
more_names_text [] = []
more_names_text (x ∷ xs) = codes "." ++ x.name ++ more_names_text xs

-- what stands behind the result of a function or an actor: its name, its parameters, its body and a
-- closing line
abbrev pub behind_result : Ident → List ParamTree → Body → List ℕ
behind_result x params body =
    codes " " ++ x.name ++ codes "(" ++ params_text params ++ (codes ") {" ++ 10 ∷ []) ++ body_text 1 body ++ (codes "}" ++ 10 ∷ [])

-- whether a body begins with a statement of one line
abbrev pub is_line : Body → Bool
is_line (BreakStmt at rest) = true
is_line (ContinueStmt at rest) = true
is_line (ReturnStmt at e rest) = true
is_line (ThrowStmt at e rest) = true
is_line (DeclareStmt at i value rest) = true
is_line (AssignStmt at path e rest) = true
is_line (ModifyStmt at path c rest) = true
is_line (CallStmt at path es rest) = true
is_line (WaitStmt at w rest) = true
is_line other = false
