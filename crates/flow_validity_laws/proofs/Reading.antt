-- What the instructions of a lowered statement read is filled, and what they fill is filled behind them.
use Rattle.std.proofs.Common.{◌≡◌, ◌⊎◌, inl, inr, ℕ, pos, Bool, true, false, not, ◌&&◌, ◌||◌, List, [], ◌∷◌, ◌++◌, length, refl, ap, ap₂, subst, ◌∙◌}
use Rattle.std.proofs.lemmas.Bool.{or_left, or_right}
use Rattle.std.specs.declared.option.Option.{Option}
use Rattle.std.specs.declared.option.Option.TheVariants.{None, Some}
use Rattle.flow_tree.specs.declared.ty.Ident.{Ident}
use Rattle.flow_tree.specs.declared.expr.Op.TheVariants.{Add, Sub}
use Rattle.flow_tree.specs.Tree.{TypeTree, IntType, BoolType, StringType, ExprTree, ExprTrees, IntExpr, TextExpr, BoolExpr, VarExpr, FieldExpr}
use Rattle.flow_tree.specs.Body.{IntoTree, ChangeTree, PlusChange, MinusChange, UpChange, DownChange}
use Rattle.flow_ast.specs.TypingNames.{named}
use Rattle.flow_ast.specs.Typing.{is_there}
use Rattle.flow_class.specs.declared.class.Slotted.{Slotted}
use Rattle.flow_class.specs.Places.{place_name, place_named}
use Rattle.flow_class.specs.Classes.{InstrTree, SetInstr, NewInstr, ActInstr, ClassTree}
use Rattle.flow_class.specs.Scopes.{Scope, place_of, var_over, over, over_all, path_over, act_over}
use Rattle.flow_rules.specs.declared.rule.SemanticRule.TheVariants.{UnknownName}
use Rattle.flow_rules.specs.Least.{lesser, unless}
use Rattle.flow_rules.specs.Judged.{Setting, Need, called, called_on, needs_of, calls, said, variable_as, variable_form, form, fault, faults, operands}
use Rattle.flow_rules.specs.Items.{target_form, target_fault, path_fault, assigned as fits_target, assign_fault, change_fault, modify_fault, ends_of, base_form, base_fault, call_fault}
use Rattle.flow_rules.proofs.Lesser.{no_first, no_second, holds}
use Rattle.flow_choose.specs.Places.{ident_at}
use Rattle.flow_staterule.specs.declared.scope.Point.{Point}
use Rattle.flow_staterule.specs.Uses.{Variable, named as named_use, expr_uses, exprs_uses, target_uses, base_uses, change_uses}
use Rattle.flow_meaning.specs.Evaluating.{Names, effect_in}
use Rattle.flow_meaning.specs.Items.{path_from, modified}
use Rattle.flow_split.specs.Lowered.{first_value, new_at, first_at, assign_by, assigned, place_in, declares}
use Rattle.flow_valid.specs.Named.{listed, expr_places, exprs_places, base_place}
use Rattle.flow_valid.specs.Filling.{among, filled_path, instr_reads, instr_fills, instr_empties}
use Rattle.flow_typing_laws.proofs.Typing.Names.{there}
use Rattle.flow_validity_laws.proofs.OverPlaces.{over_names, Sees, base_known}
use Rattle.flow_validity_laws.proofs.Walks.{Places, AllIn, after}
use Rattle.flow_validity_laws.proofs.Lines.{and_true, Has, Covers, AllFresh, fresh_left, fresh_right, in_both, in_none, Lined, found_in, expr_in, exprs_in, same_self}

abbrev pub IsNamed : List Ident → Type 0
IsNamed [] = ⊥
IsNamed (x ∷ xs) = Unit {0}

-- an instruction that empties nothing
abbrev pub Keeps : InstrTree → Type 0
Keeps i = (q : Slotted) → instr_empties i q ≡ false

pub covers_after : (i : InstrTree) (z : Places) (gs : List Slotted) (st : ℕ) → Keeps i → Covers z gs st → Covers (after i z) gs st
covers_after i z gs st k cover q h = or_right (among (instr_fills i) q) (z q && not (instr_empties i q)) (and_true (z q) (instr_empties i q) (cover q h) (k q))

-- and that fills a new place
pub covers_new : (i : InstrTree) (z : Places) (gs : List Slotted) (st : ℕ) (to : Slotted) → Keeps i → among (instr_fills i) to ≡ true → Covers z gs st → Covers (after i z) (to ∷ gs) st
covers_new i z gs st to k f cover q h = by_side h.1
  where
    by_side : ((h.0 ≡ length gs) × (to ≡ q)) ⊎ Has gs h.0 q → after i z q ≡ true
    by_side (inl e) = subst (λ x. after i z x ≡ true) e.1 (or_left (among (instr_fills i) to) (z to && not (instr_empties i to)) f)
    by_side (inr e) = covers_after i z gs st k cover q (h.0, e, h.2)

module _ (base : Setting) (ns : Names) (c : ClassTree) where
  module _ (s : Scope) where
    reads_assigned : (path : List Ident) (e : ExprTree) (z : Places) → AllIn (base_place path) z → AllIn (expr_places (over c.slots s e)) z → AllIn (instr_reads (assigned ns c.slots s path e)) z
    reads_assigned path e z f g = by_kind (is_there (effect_in ns e))
      where
        by_kind : (b : Bool) → AllIn (instr_reads (assign_by ns c.slots b path (over c.slots s e))) z
        by_kind true = in_both z (base_place path) (expr_places (over c.slots s e)) f g
        by_kind false = in_both z (base_place path) (expr_places (over c.slots s e)) f g

    pub keeps_assigned : (path : List Ident) (e : ExprTree) → Keeps (assigned ns c.slots s path e)
    keeps_assigned path e q = by_kind (is_there (effect_in ns e))
      where
        by_kind : (b : Bool) → instr_empties (assign_by ns c.slots b path (over c.slots s e)) q ≡ false
        by_kind true = refl
        by_kind false = refl

    fills_assigned : (path : List Ident) (e : ExprTree) → instr_fills (assigned ns c.slots s path e) ≡ filled_path path
    fills_assigned path e = by_kind (is_there (effect_in ns e))
      where
        by_kind : (b : Bool) → instr_fills (assign_by ns c.slots b path (over c.slots s e)) ≡ filled_path path
        by_kind true = refl
        by_kind false = refl

  module _ (rows : List (List ℕ × TypeTree)) (s : Scope) (sees : Sees base c rows s) (vs : List Variable) (gs : List Slotted) (l : ℕ) (line : Lined base c vs gs rows s l) (p : Point)
      (start : p.from ≡ 0) (z : Places) (cover : Covers z gs p.stale) where
    abbrev names : Setting
    names = over_names base c rows

    pub whole_in : (whole : Bool) (e : ExprTree) → fault names whole e ≡ None → AllFresh (expr_uses vs p e) → AllIn (expr_places (over c.slots s e)) z
    whole_in whole e f h = expr_in base c vs gs rows s l line p start z cover whole e f h

    root_in : (x : Ident) → is_there (named rows x.name) ≡ true → AllFresh (named_use vs p x) → AllIn (listed (place_named (var_over (place_of c.slots s x.name)))) z
    root_in x k h = let t = there (named rows x.name) k in found_in base c vs gs rows s l line p start z cover x.name x.at (line.finds x.name t.value t.is) h

    target_in : (xs : List Ident) → target_fault names xs ≡ None → AllFresh (target_uses vs p xs) → AllIn (base_place (path_over c.slots s xs)) z
    target_in [] f h = in_none z
    target_in (x ∷ []) f h = in_none z
    target_in (x ∷ (y ∷ ys)) f h = root_in x (holds (is_there (named rows x.name)) UnknownName (no_first (unless (is_there (named rows x.name)) UnknownName) _ f)) h

    pub assign_in : (xs : List Ident) (e : ExprTree) → assign_fault names xs e ≡ None → AllFresh (target_uses vs p xs ++ expr_uses vs p e)
        → AllIn (instr_reads (assigned ns c.slots s (path_over c.slots s xs) e)) z
    assign_in xs e f h =
        let t = target_fault names xs in
        let r = no_first (lesser t (fault names true e)) (fits_target (form names e) (target_form names xs)) f in
        let us = target_uses vs p xs in
        reads_assigned s (path_over c.slots s xs) e z (target_in xs (no_first t (fault names true e) r) (fresh_left us (expr_uses vs p e) h))
        (whole_in true e (no_second t (fault names true e) r) (fresh_right us (expr_uses vs p e) h))

    from_path : (xs : List Ident) (e : ExprTree) → AllIn (expr_places (over c.slots s e)) z → AllIn (expr_places (over c.slots s (path_from e xs))) z
    from_path [] e h = h
    from_path (x ∷ xs) e h = from_path xs (FieldExpr e x) h

    changed_in : (d : ChangeTree) (old : ExprTree) (o : Option TypeTree) → change_fault names o d ≡ None → AllFresh (change_uses vs p d) → AllIn (expr_places (over c.slots s old)) z
        → AllIn (expr_places (over c.slots s (modified d old))) z
    changed_in (PlusChange e) old o f h k = in_both z (expr_places (over c.slots s old)) (expr_places (over c.slots s e)) k
        (whole_in false e (no_first (fault names false e) (operands Add o (form names e)) f) h)
    changed_in (MinusChange e) old o f h k = in_both z (expr_places (over c.slots s old)) (expr_places (over c.slots s e)) k
        (whole_in false e (no_first (fault names false e) (operands Sub o (form names e)) f) h)
    changed_in UpChange old o f h k = in_both z (expr_places (over c.slots s old)) [] k (in_none z)
    changed_in DownChange old o f h k = in_both z (expr_places (over c.slots s old)) [] k (in_none z)

    pub change_in : (x : Ident) (xs : List Ident) (d : ChangeTree) → modify_fault names (x ∷ xs) d ≡ None → AllFresh (named_use vs p x ++ change_uses vs p d)
        → AllIn (instr_reads (assigned ns c.slots s (path_over c.slots s (x ∷ xs)) (modified d (path_from (VarExpr x) xs)))) z
    change_in x xs d f h =
        let t = target_fault names (x ∷ xs) in
        let o = target_form names (x ∷ xs) in
        let a = no_first t (change_fault names o d) f in
        let us = named_use vs p x in
        let known = unless (is_there (named rows x.name)) UnknownName in
        let b = no_first known (path_fault names (named rows x.name) xs) a in
        let r = there (named rows x.name) (holds (is_there (named rows x.name)) UnknownName b) in
        let var : variable_form names x.name ≡ named rows x.name = ap (variable_as names x.name) (sees x.name r.value r.is).plain in
        let sound : fault names false (VarExpr x) ≡ None = ap (λ q. unless (is_there q) UnknownName) var ∙ b in
        let fresh = fresh_left us (change_uses vs p d) h in
        reads_assigned s (path_over c.slots s (x ∷ xs)) (modified d (path_from (VarExpr x) xs)) z (target_in (x ∷ xs) a fresh)
        (changed_in d (path_from (VarExpr x) xs) o (no_second t (change_fault names o d) f) (fresh_right us (change_uses vs p d) h) (from_path xs (VarExpr x) (whole_in false (VarExpr x) sound fresh)))

    args_in : (k : ℕ) (needs : List Need) (es : ExprTrees) → faults names k needs es ≡ None → AllFresh (exprs_uses vs p es) → AllIn (exprs_places (over_all c.slots s es)) z
    args_in k needs es f h = exprs_in base c vs gs rows s l line p start z cover k needs es f h

    pub act_in : (xs : List Ident) (es : ExprTrees) → call_fault names xs es ≡ None → AllFresh (base_uses vs p xs ++ exprs_uses vs p es) → IsNamed xs
        → AllIn (instr_reads (ActInstr (act_over c.slots s xs) (over_all c.slots s es))) z
    act_in [] es f h k = absurd k
    act_in (x ∷ []) es f h k =
        let o = called names x.name in
        in_both z [] (exprs_places (over_all c.slots s es)) (in_none z) (args_in 0 (needs_of o) es (no_first (faults names 0 (needs_of o) es) (calls es o (said names)) f) h)
    act_in (x ∷ (y ∷ ys)) es f h k =
        let b = (ends_of x (y ∷ ys)).0 in
        let m = (ends_of x (y ∷ ys)).1.name in
        let o = called_on (base_form names b) m in
        let a = faults names 0 (needs_of o) es in
        let r = calls es o (said names) in
        let us = named_use vs p x in
        in_both z (listed (place_named (var_over (place_of c.slots s x.name)))) (exprs_places (over_all c.slots s es))
        (root_in x (base_known base c rows s sees x y ys es f) (fresh_left us (exprs_uses vs p es) h))
        (args_in 0 (needs_of o) es (no_first a r (no_second (base_fault names b) (lesser a r) f)) (fresh_right us (exprs_uses vs p es) h))

  -- a declared variable is filled
  pub record Declared (s : Scope) (l : ℕ) (i : IntoTree) (v : Option ExprTree) (to : Slotted) : Type 0 where
    pub instr : InstrTree
    pub is : declares ns c.slots s l i v ≡ instr ∷ []
    pub fills : among (instr_fills instr) to ≡ true
    pub keeps : Keeps instr
    pub reads : (z : Places) → ((e : ExprTree) → v ≡ Some e → AllIn (expr_places (over c.slots s e)) z) → AllIn (instr_reads instr) z

  fills_own : (o : Option Slotted) (to : Slotted) (x : Ident) → o ≡ Some to → place_named (place_name to) ≡ Some to → among (filled_path (ident_at o x ∷ [])) to ≡ true
  fills_own o to x e read =
      ap (λ q. among (listed (place_named (var_over q))) to) e ∙ ap (λ q. among (listed q) to) read ∙ ap (λ b. b || false) (same_self to)

  literal : (t : TypeTree) (i : IntoTree) (o : Option Slotted) (to : Slotted) (s : Scope) (l : ℕ) → o ≡ Some to → place_named (place_name to) ≡ Some to → place_in ns c.slots i l s ≡ o → i.ty ≡ t
      → Declared s l i None to
  literal IntType i o to s l e read p t = record {
    instr = SetInstr (ident_at o i.name ∷ []) (IntExpr (pos 0));
    is = ap₂ (λ q u. first_at i q (first_value u)) p t;
    fills = fills_own o to i.name e read;
    keeps = λ q. refl;
    reads = λ z f. in_none z;
  }
  literal BoolType i o to s l e read p t = record {
    instr = SetInstr (ident_at o i.name ∷ []) (BoolExpr false);
    is = ap₂ (λ q u. first_at i q (first_value u)) p t;
    fills = fills_own o to i.name e read;
    keeps = λ q. refl;
    reads = λ z f. in_none z;
  }
  literal StringType i o to s l e read p t = record {
    instr = SetInstr (ident_at o i.name ∷ []) (TextExpr []);
    is = ap₂ (λ q u. first_at i q (first_value u)) p t;
    fills = fills_own o to i.name e read;
    keeps = λ q. refl;
    reads = λ z f. in_none z;
  }
  literal u i o to s l e read p t = record {
    instr = NewInstr to;
    is = ap₂ (λ q v. first_at i q (first_value v)) p t ∙ ap new_at e;
    fills = ap (λ b. b || false) (same_self to);
    keeps = λ q. refl;
    reads = λ z f. in_none z;
  }

  pub declared_by : (s : Scope) (l : ℕ) (i : IntoTree) (v : Option ExprTree) (to : Slotted) → place_in ns c.slots i l s ≡ Some to → place_named (place_name to) ≡ Some to → Declared s l i v to
  declared_by s l i None to e read = literal i.ty i (place_in ns c.slots i l s) to s l e read refl refl
  declared_by s l i (Some v) to e read =
      let o = place_in ns c.slots i l s in
      record {
        instr = assigned ns c.slots s (ident_at o i.name ∷ []) v;
        is = refl;
        fills = ap (λ ps. among ps to) (fills_assigned s (ident_at o i.name ∷ []) v) ∙ fills_own o to i.name e read;
        keeps = keeps_assigned s (ident_at o i.name ∷ []) v;
        reads = λ z f. reads_assigned s (ident_at o i.name ∷ []) v z (in_none z) (f v refl);
      }
