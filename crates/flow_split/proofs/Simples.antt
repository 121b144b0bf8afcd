-- What the code emits for a statement without bodies.
use Rattle.std.proofs.Common.{◌≡◌, ℕ, ◌+◌, true, List, [], ◌∷◌, pos, refl, ap, ap₂, sym, subst, ◌∙◌, arith}
use Rattle.std.specs.Option.{option_map}
use Rattle.std.specs.declared.option.Option.{Option}
use Rattle.flow_base.specs.declared.place.Place.{Place}
use Rattle.flow_tree.specs.declared.ty.Ident.{Ident}
use Rattle.flow_tree.specs.Tree.{ExprTree, ExprTrees, IntExpr, VarExpr, FieldExpr, BinaryExpr, ParenExpr}
use Rattle.flow_tree.specs.declared.expr.Op.TheVariants.{Add, Sub}
use Rattle.flow_tree.specs.Body.{IntoTree, ChangeTree, PlusChange, MinusChange, UpChange, DownChange, ReturnStmt, ThrowStmt, DeclareStmt, AssignStmt, ModifyStmt, CallStmt}
use Rattle.flow_tree.specs.Decls.{SlotTree}
use Rattle.flow_class.specs.Classes.{SetInstr, ActInstr, ReturnLast, ThrowLast}
use Rattle.flow_class.specs.Scopes.{Scope, ident_over, over, over_all, path_over, act_over}
use Rattle.flow_meaning.specs.Evaluating.{Names}
use Rattle.flow_meaning.specs.Items.{change, path_from}
use Rattle.flow_split.specs.Around.{Around}
use Rattle.flow_split.specs.Counts.{locals_in, local_count}
use Rattle.flow_split.specs.Lowered.{assigned, changed, change_over, declares, thrown}
use Rattle.flow_split.specs.Emitting.{Emitted, going, closed, acted, declaring, Emits}
use Rattle.flow_split.proofs.Steps.{ended_acting, stop, instrs_emit}

swapped : (a b c : ℕ) → (a + b) + c ≡ b + (a + c)
swapped a b c = omega arith

-- the value of a path over places is that of the path, over places
pub over_path : (slots : List SlotTree) (s : Scope) (e : ExprTree) (xs : List Ident) → over slots s (path_from e xs) ≡ path_from (over slots s e) xs
over_path slots s e [] = refl
over_path slots s e (x ∷ xs) = over_path slots s (FieldExpr e x) xs

-- a change is an assignment, and no effect
pub changed_is : (ns : Names) (slots : List SlotTree) (s : Scope) (x : Ident) (xs : List Ident) (d : ChangeTree)
    → changed ns slots s (x ∷ xs) (change (x ∷ xs) d) ≡ SetInstr (path_over slots s (x ∷ xs)) (change_over slots s d (path_from (VarExpr (ident_over slots s x)) xs)) ∷ []
changed_is ns slots s x xs (PlusChange e) = ap (λ z. SetInstr (path_over slots s (x ∷ xs)) (BinaryExpr Add z (ParenExpr (over slots s e))) ∷ []) (over_path slots s (VarExpr x) xs)
changed_is ns slots s x xs (MinusChange e) = ap (λ z. SetInstr (path_over slots s (x ∷ xs)) (BinaryExpr Sub z (ParenExpr (over slots s e))) ∷ []) (over_path slots s (VarExpr x) xs)
changed_is ns slots s x xs UpChange = ap (λ z. SetInstr (path_over slots s (x ∷ xs)) (BinaryExpr Add z (IntExpr (pos 1))) ∷ []) (over_path slots s (VarExpr x) xs)
changed_is ns slots s x xs DownChange = ap (λ z. SetInstr (path_over slots s (x ∷ xs)) (BinaryExpr Sub z (IntExpr (pos 1))) ∷ []) (over_path slots s (VarExpr x) xs)

pub modified_by : (ns : Names) (slots : List SlotTree) (s : Scope) (xs path : List Ident) (x : Ident) (rest : List Ident) (d : ChangeTree) (value old : ExprTree) → xs ≡ x ∷ rest
    → path ≡ path_over slots s xs
    → value ≡ change_over slots s d old → old ≡ path_from (VarExpr (ident_over slots s x)) rest → SetInstr path value ∷ [] ≡ changed ns slots s xs (change xs d)
modified_by ns slots s xs path x rest d value old xe pe ve oe =
    ap₂ (λ p v. SetInstr p v ∷ []) (pe ∙ ap (path_over slots s) xe) (ve ∙ ap (change_over slots s d) oe) ∙ sym (changed_is ns slots s x rest d) ∙ ap (λ z. changed ns slots s z (change z d)) (sym xe)

module _ (ns : Names) (slots : List SlotTree) (w : Around) (e f : Emitted) (at : Place) where
  pub return_emits : (x : Option ExprTree) → e.is_open ≡ true → f ≡ closed w (ReturnLast (option_map (over slots e.scopes) x)) (acted [] e) → Emits ns slots w (ReturnStmt at x) e f
  return_emits x o h =
      let r = ended_acting w [] (ReturnLast (option_map (over slots e.scopes) x)) e f h in
      stop ns slots w e f _ (going e) (ReturnStmt at x) o (ap (λ z. z.is_open) h) r.at r.stands (λ k. refl) (λ k. refl) refl

  pub throw_emits : (x : Option ExprTree) → e.is_open ≡ true → f ≡ closed w (ThrowLast (thrown ns slots e.scopes at x w.caught)) (acted [] e) → Emits ns slots w (ThrowStmt at x) e f
  throw_emits x o h =
      let r = ended_acting w [] (ThrowLast (thrown ns slots e.scopes at x w.caught)) e f h in
      stop ns slots w e f _ (going e) (ThrowStmt at x) o (ap (λ z. z.is_open) h) r.at r.stands (λ k. refl) (λ k. refl) refl

  pub declare_emits : (i : IntoTree) (x : Option ExprTree) → e.is_open ≡ true → f ≡ declaring i (acted (declares ns slots e.scopes e.next i x) e) → Emits ns slots w (DeclareStmt at i x) e f
  declare_emits i x o h =
      let is = declares ns slots e.scopes e.next i x in
      subst (Emits ns slots w (DeclareStmt at i x) e) (sym h)
      (instrs_emit ns slots w e (declaring i (acted is e)) is (DeclareStmt at i x) o refl refl o refl refl (λ k. refl) (λ k. swapped (local_count i) e.next (locals_in k)) refl)

  pub assign_emits : (xs : List Ident) (x : ExprTree) → e.is_open ≡ true → f ≡ acted (assigned ns slots e.scopes (path_over slots e.scopes xs) x ∷ []) e → Emits ns slots w (AssignStmt at xs x) e f
  assign_emits xs x o h =
      let is = assigned ns slots e.scopes (path_over slots e.scopes xs) x ∷ [] in
      subst (Emits ns slots w (AssignStmt at xs x) e) (sym h) (instrs_emit ns slots w e (acted is e) is (AssignStmt at xs x) o refl refl o refl refl (λ k. refl) (λ k. refl) refl)

  pub modify_emits : (xs : List Ident) (d : ChangeTree) → e.is_open ≡ true → f ≡ acted (changed ns slots e.scopes xs (change xs d)) e → Emits ns slots w (ModifyStmt at xs d) e f
  modify_emits xs d o h =
      let is = changed ns slots e.scopes xs (change xs d) in
      subst (Emits ns slots w (ModifyStmt at xs d) e) (sym h) (instrs_emit ns slots w e (acted is e) is (ModifyStmt at xs d) o refl refl o refl refl (λ k. refl) (λ k. refl) refl)

  pub call_emits : (xs : List Ident) (es : ExprTrees) → e.is_open ≡ true → f ≡ acted (ActInstr (act_over slots e.scopes xs) (over_all slots e.scopes es) ∷ []) e
      → Emits ns slots w (CallStmt at xs es) e f
  call_emits xs es o h =
      let is = ActInstr (act_over slots e.scopes xs) (over_all slots e.scopes es) ∷ [] in
      subst (Emits ns slots w (CallStmt at xs es) e) (sym h) (instrs_emit ns slots w e (acted is e) is (CallStmt at xs es) o refl refl o refl refl (λ k. refl) (λ k. refl) refl)
