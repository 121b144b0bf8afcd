-- The rules on statements refuse the same, places aside.
use Rattle.std.proofs.Common.{◌≡◌, ℕ, List, [], ◌∷◌, ◌++◌, Bool, true, false, not, map, refl, ap, ap₂, ◌∙◌}
use Rattle.std.specs.Prelude.{is_none, option_map}
use Rattle.std.specs.declared.option.Option.{Option}
use Rattle.std.specs.declared.option.Option.TheVariants.{None, Some}
use Rattle.flow_base.specs.declared.place.Place.{Place}
use Rattle.flow_tree.specs.declared.ty.Ident.{Ident}
use Rattle.flow_tree.specs.declared.expr.Op.TheVariants.{Add, Sub}
use Rattle.flow_tree.specs.Tree.{TypeTree, BoolType, ErrorType, ExprTree, ExprTrees}
use Rattle.flow_tree.specs.Body.{IntoTree, WaitTree, ChangeTree, PlusChange, MinusChange, UpChange, DownChange, Body, End, BlockStmt, IfStmt, IfElseStmt, WhileStmt, ForStmt, LoopStmt, BreakStmt, ContinueStmt, ReturnStmt, ThrowStmt, TryStmt, ChooseStmt, DeclareStmt, AssignStmt, ModifyStmt, CallStmt, WaitStmt, Branches, NoBranches, MoreBranches}
use Rattle.flow_tree.specs.Folds.{Fold, folded, folded_branches}
use Rattle.flow_tree.specs.Canon.{first_place, placeless_ident, placeless_expr, placeless_exprs, placeless_into, placeless_wait, placeless_change, placeless_body, placeless_branches}
use Rattle.flow_ast.specs.Slots.{into_slots, waited_slots, stmt_slots, slots_listed, body_slots, branch_slots}
use Rattle.flow_ast.specs.Leaving.{has_statement}
use Rattle.flow_ast.specs.Typing.{is_there}
use Rattle.flow_ast.specs.TypingNames.{named}
use Rattle.flow_rules.specs.declared.rule.SemanticRule.{SemanticRule}
use Rattle.flow_rules.specs.declared.rule.SemanticRule.TheVariants.{UnknownName, WaitInFunction}
use Rattle.flow_rules.specs.Least.{lesser, unless}
use Rattle.flow_rules.specs.Judged.{Setting, faults, wanted, operands, of_field, field_form, variable_form, called, called_on, needs_of, calls, said}
use Rattle.flow_rules.specs.Items.{Env, item, with_var, with_states, in_loop, in_catch, slot_names, behind, declared, waited, fresh, into_fault, value_fault, path_form, path_fault, target_form, target_fault, assigned, assign_fault, change_fault, ends_of, base_form, base_fault, call_on, call_fault, wait_type, maybe_into, wait_fault, maybe_test, throw_fault, declare_fault, modify_fault, started, body_refusal, branch_refusal}
use Rattle.flow_rules.specs.Closing.{past, and_then, either, looped, handled, ways, branch_ways}
use Rattle.flow_class_places_laws.proofs.Parts.{Alike, is_there_over, or_same}
use Rattle.flow_class_places_laws.proofs.Expressions.{form_aside, fault_aside, faults_aside, wanted_aside, calls_aside}

-- paths
module _ (s : Setting) where
  path_form_aside : (t : Option TypeTree) (xs : List Ident) → path_form s t (map placeless_ident xs) ≡ path_form s t xs
  path_form_aside t [] = refl
  path_form_aside None (x ∷ xs) = refl
  path_form_aside (Some t) (x ∷ xs) = path_form_aside (field_form s t x.name) xs

  path_fault_aside : (t : Option TypeTree) (xs : List Ident) → path_fault s t (map placeless_ident xs) ≡ path_fault s t xs
  path_fault_aside t [] = refl
  path_fault_aside None (x ∷ xs) = refl
  path_fault_aside (Some t) (x ∷ xs) = ap (λ k. lesser (of_field s (Some t) x.name) k) (path_fault_aside (field_form s t x.name) xs)

  pub target_form_aside : (xs : List Ident) → target_form s (map placeless_ident xs) ≡ target_form s xs
  target_form_aside [] = refl
  target_form_aside (x ∷ xs) = path_form_aside (named s.vars x.name) xs

  pub target_fault_aside : (xs : List Ident) → target_fault s (map placeless_ident xs) ≡ target_fault s xs
  target_fault_aside [] = refl
  target_fault_aside (x ∷ xs) = ap (λ k. lesser (unless (is_there (named s.vars x.name)) UnknownName) k) (path_fault_aside (named s.vars x.name) xs)

  base_form_aside : (xs : List Ident) → base_form s (map placeless_ident xs) ≡ base_form s xs
  base_form_aside [] = refl
  base_form_aside (x ∷ xs) = path_form_aside (variable_form s x.name) xs

  base_fault_aside : (xs : List Ident) → base_fault s (map placeless_ident xs) ≡ base_fault s xs
  base_fault_aside [] = refl
  base_fault_aside (x ∷ xs) = ap (λ k. lesser (unless (is_there (variable_form s x.name)) UnknownName) k) (path_fault_aside (variable_form s x.name) xs)

  ends_aside : (x : Ident) (xs : List Ident)
      → ends_of (placeless_ident x) (map placeless_ident xs) ≡ (map placeless_ident (ends_of x xs).0, placeless_ident (ends_of x xs).1)
  ends_aside x [] = refl
  ends_aside x (y ∷ ys) = ap (λ (r : List Ident × Ident). (placeless_ident x ∷ r.0, r.1)) (ends_aside y ys)

  call_on_aside : (base : List Ident) (m : List ℕ) (es : ExprTrees) → call_on s (map placeless_ident base) m (placeless_exprs es) ≡ call_on s base m es
  call_on_aside base m es =
      ap₂ (λ k t. lesser k (lesser (faults s 0 (needs_of (called_on t m)) (placeless_exprs es)) (calls (placeless_exprs es) (called_on t m) (said s))))
      (base_fault_aside base) (base_form_aside base)
      ∙ ap₂ (λ k n. lesser (base_fault s base) (lesser k n))
      (faults_aside s 0 (needs_of (called_on (base_form s base) m)) es) (calls_aside es (called_on (base_form s base) m) (said s))

  -- statements by themselves
  pub call_aside : (xs : List Ident) (es : ExprTrees) → call_fault s (map placeless_ident xs) (placeless_exprs es) ≡ call_fault s xs es
  call_aside [] es = refl
  call_aside (f ∷ []) es = ap₂ (λ k n. lesser k n) (faults_aside s 0 (needs_of (called s f.name)) es) (calls_aside es (called s f.name) (said s))
  call_aside (x ∷ (y ∷ ys)) es =
      ap (λ (r : List Ident × Ident). call_on s r.0 r.1.name (placeless_exprs es)) (ends_aside x (y ∷ ys))
      ∙ call_on_aside (ends_of x (y ∷ ys)).0 (ends_of x (y ∷ ys)).1.name es

  assign_aside : (xs : List Ident) (v : ExprTree) → assign_fault s (map placeless_ident xs) (placeless_expr v) ≡ assign_fault s xs v
  assign_aside xs v =
      ap₂ (λ k n. lesser k n) (ap₂ (λ k n. lesser k n) (target_fault_aside xs) (fault_aside s true v))
      (ap₂ (λ t u. assigned t u) (form_aside s v) (target_form_aside xs))

  change_aside : (t : Option TypeTree) (c : ChangeTree) → change_fault s t (placeless_change c) ≡ change_fault s t c
  change_aside t (PlusChange v) = ap₂ (λ k u. lesser k (operands Add t u)) (fault_aside s false v) (form_aside s v)
  change_aside t (MinusChange v) = ap₂ (λ k u. lesser k (operands Sub t u)) (fault_aside s false v) (form_aside s v)
  change_aside t UpChange = refl
  change_aside t DownChange = refl

  modify_aside : (xs : List Ident) (c : ChangeTree) → modify_fault s (map placeless_ident xs) (placeless_change c) ≡ modify_fault s xs c
  modify_aside xs c =
      ap₂ (λ k t. lesser k (change_fault s t (placeless_change c))) (target_fault_aside xs) (target_form_aside xs)
      ∙ ap (λ k. lesser (target_fault s xs) k) (change_aside (target_form s xs) c)

  value_aside : (t : TypeTree) (v : Option ExprTree) → value_fault s t (option_map placeless_expr v) ≡ value_fault s t v
  value_aside t None = refl
  value_aside t (Some v) = wanted_aside s true v t

  declare_aside : (states : List (List ℕ)) (i : IntoTree) (v : Option ExprTree)
      → declare_fault s states (placeless_into i) (option_map placeless_expr v) ≡ declare_fault s states i v
  declare_aside states i v = ap (λ k. lesser (into_fault s states i) k) (value_aside i.ty v)

  test_aside : (t : Option ExprTree) → maybe_test s (option_map placeless_expr t) ≡ maybe_test s t
  test_aside None = refl
  test_aside (Some t) = wanted_aside s false t BoolType

  throw_aside : (caught : Bool) (v : Option ExprTree) → throw_fault s caught (option_map placeless_expr v) ≡ throw_fault s caught v
  throw_aside caught None = refl
  throw_aside caught (Some v) = wanted_aside s false v ErrorType

  into_aside : (states : List (List ℕ)) (o : Option IntoTree) → maybe_into s states (option_map placeless_into o) ≡ maybe_into s states o
  into_aside states None = refl
  into_aside states (Some i) = refl

  wait_aside : (states : List (List ℕ)) (w : WaitTree) → wait_fault s states (placeless_wait w) ≡ wait_fault s states w
  wait_aside states w =
      ap₂ (λ k n. lesser k (lesser n (unless (not s.plain) WaitInFunction))) (into_aside states w.into)
      (wanted_aside s true w.operand (wait_type w.next (option_map placeless_into w.into)) ∙ ap (λ t. wanted s true w.operand t) (type_aside w.next w.into))
    where
      type_aside : (next : Bool) (o : Option IntoTree) → wait_type next (option_map placeless_into o) ≡ wait_type next o
      type_aside false None = refl
      type_aside true None = refl
      type_aside false (Some i) = refl
      type_aside true (Some i) = refl

-- what a walk gives that doesn't see places in what it meets
module _ {R : Type 0} (f : Fold R)
    (stmt : (b : Body) (r : R) → f.of_stmt (placeless_body b) r ≡ f.of_stmt b r)
    (catch : (x : Ident) (r : R) → f.of_catch (placeless_ident x) r ≡ f.of_catch x r)
    (wait : (w : WaitTree) (r : R) → f.of_wait (placeless_wait w) r ≡ f.of_wait w r) where
  both_same : {p q r s : R} → p ≡ q → r ≡ s → f.both p r ≡ f.both q s
  both_same h k = ap₂ (λ x y. f.both x y) h k

  at : (b : Body) {p q : R} → p ≡ q → f.of_stmt (placeless_body b) p ≡ f.of_stmt b q
  at b {p} {q} h = stmt b p ∙ ap (λ x. f.of_stmt b x) h

  mutual
    pub folded_aside : (b : Body) → folded f (placeless_body b) ≡ folded f b
    folded_aside End = refl
    folded_aside (BlockStmt p b k) = at (BlockStmt p b k) (both_same (folded_aside b) (folded_aside k))
    folded_aside (IfStmt p e b k) = at (IfStmt p e b k) (both_same (folded_aside b) (folded_aside k))
    folded_aside (IfElseStmt p e b c k) = at (IfElseStmt p e b c k) (both_same (both_same (folded_aside b) (folded_aside c)) (folded_aside k))
    folded_aside (WhileStmt p e b k) = at (WhileStmt p e b k) (both_same (folded_aside b) (folded_aside k))
    folded_aside (ForStmt p i e t b k) =
        at (ForStmt p i e t b k) (both_same (both_same (both_same (folded_aside i) (folded_aside t)) (folded_aside b)) (folded_aside k))
    folded_aside (LoopStmt p b k) = at (LoopStmt p b k) (both_same (folded_aside b) (folded_aside k))
    folded_aside (BreakStmt p k) = at (BreakStmt p k) (folded_aside k)
    folded_aside (ContinueStmt p k) = at (ContinueStmt p k) (folded_aside k)
    folded_aside (ReturnStmt p e k) = at (ReturnStmt p e k) (folded_aside k)
    folded_aside (ThrowStmt p e k) = at (ThrowStmt p e k) (folded_aside k)
    folded_aside (TryStmt p b q x h k) =
        at (TryStmt p b q x h k)
        (both_same (both_same (folded_aside b) (catch x (folded f (placeless_body h)) ∙ ap (λ r. f.of_catch x r) (folded_aside h))) (folded_aside k))
    folded_aside (ChooseStmt p bs k) = at (ChooseStmt p bs k) (both_same (branches_aside bs) (folded_aside k))
    folded_aside (DeclareStmt p i e k) = at (DeclareStmt p i e k) (folded_aside k)
    folded_aside (AssignStmt p xs e k) = at (AssignStmt p xs e k) (folded_aside k)
    folded_aside (ModifyStmt p xs c k) = at (ModifyStmt p xs c k) (folded_aside k)
    folded_aside (CallStmt p xs es k) = at (CallStmt p xs es k) (folded_aside k)
    folded_aside (WaitStmt p w k) = at (WaitStmt p w k) (folded_aside k)

    pub branches_aside : (bs : Branches) → folded_branches f (placeless_branches bs) ≡ folded_branches f bs
    branches_aside NoBranches = refl
    branches_aside (MoreBranches p w b bs) =
        both_same (wait w (folded f (placeless_body b)) ∙ ap (λ r. f.of_wait w r) (folded_aside b)) (branches_aside bs)

waited_slots_aside : (w : WaitTree) → waited_slots (placeless_wait w) ≡ waited_slots w
waited_slots_aside w = into_same w.into
  where
    into_same : (o : Option IntoTree) → into_slots (option_map placeless_into o) ≡ into_slots o
    into_same None = refl
    into_same (Some i) = refl

stmt_slots_aside : (b : Body) → stmt_slots (placeless_body b) ≡ stmt_slots b
stmt_slots_aside (WaitStmt p w k) = waited_slots_aside w
stmt_slots_aside _ = refl

slots_aside : (b : Body) → body_slots (placeless_body b) ≡ body_slots b
slots_aside = folded_aside slots_listed (λ b r. ap (λ ss. ss ++ r) (stmt_slots_aside b)) (λ x r. refl) (λ w r. ap (λ ss. ss ++ r) (waited_slots_aside w))

branch_slots_aside : (bs : Branches) → branch_slots (placeless_branches bs) ≡ branch_slots bs
branch_slots_aside = branches_aside slots_listed (λ b r. ap (λ ss. ss ++ r) (stmt_slots_aside b)) (λ x r. refl) (λ w r. ap (λ ss. ss ++ r) (waited_slots_aside w))

-- what is in force behind
behind_aside : (e : Env) (b : Body) → behind e (placeless_body b) ≡ behind e b
behind_aside e b = ap (λ ss. with_states e (slot_names ss)) (slots_aside b)

waited_aside : (e : Env) (o : Option IntoTree) → waited e (option_map placeless_into o) ≡ waited e o
waited_aside e None = refl
waited_aside e (Some i) = refl

started_aside : (e : Env) (b : Body) → started e (placeless_body b) ≡ started e b
started_aside e (DeclareStmt p i v k) = refl
started_aside e (WaitStmt p w k) = waited_aside e w.into
started_aside e b = behind_aside e b

-- how a body is left
statement_aside : (b : Body) → has_statement (placeless_body b) ≡ has_statement b
statement_aside End = refl
statement_aside _ = refl

mutual
  pub ways_aside : (b : Body) → ways (placeless_body b) ≡ ways b
  ways_aside End = refl
  ways_aside (BlockStmt p b k) = ap₂ (λ v w. and_then v w) (ways_aside b) (ways_aside k)
  ways_aside (IfStmt p t b k) = ap₂ (λ v w. and_then (either v past) w) (ways_aside b) (ways_aside k)
  ways_aside (IfElseStmt p t b c k) = ap₂ (λ v w. and_then v w) (ap₂ (λ v w. either v w) (ways_aside b) (ways_aside c)) (ways_aside k)
  ways_aside (WhileStmt p t b k) = ap₂ (λ v w. and_then (looped true v) w) (ways_aside b) (ways_aside k)
  ways_aside (ForStmt p i t n b k) = ap₂ (λ v w. and_then v w) (ap₂ (λ x v. looped x v) (is_there_over placeless_expr t) (ways_aside b)) (ways_aside k)
  ways_aside (LoopStmt p b k) = ap₂ (λ v w. and_then (looped false v) w) (ways_aside b) (ways_aside k)
  ways_aside (BreakStmt p k) = refl
  ways_aside (ContinueStmt p k) = refl
  ways_aside (ReturnStmt p v k) = refl
  ways_aside (ThrowStmt p v k) = refl
  ways_aside (TryStmt p b q x h k) =
      ap₂ (λ v w. and_then v w) (ap₂ (λ v w. handled (has_statement (placeless_body b)) v w) (ways_aside b) (ways_aside h) ∙ ap (λ c. handled c (ways b) (ways h)) (statement_aside b))
      (ways_aside k)
  ways_aside (ChooseStmt p bs k) = ap₂ (λ v w. and_then v w) (branch_ways_aside bs) (ways_aside k)
  ways_aside (DeclareStmt p i v k) = ways_aside k
  ways_aside (AssignStmt p xs v k) = ways_aside k
  ways_aside (ModifyStmt p xs c k) = ways_aside k
  ways_aside (CallStmt p xs es k) = ways_aside k
  ways_aside (WaitStmt p w k) = ways_aside k

  branch_ways_aside : (bs : Branches) → branch_ways (placeless_branches bs) ≡ branch_ways bs
  branch_ways_aside NoBranches = refl
  branch_ways_aside (MoreBranches p w b bs) = ap₂ (λ v u. either v u) (ways_aside b) (branch_ways_aside bs)

-- an item is refused as another is
pub item_same : (q : Place) {f g : Option SemanticRule} → f ≡ g → Alike (item first_place f) (item q g)
item_same q {f} {g} h = record { same = ap (λ k. is_none (item first_place k)) h ∙ at_any g }
  where
    at_any : (k : Option SemanticRule) → is_none (item first_place k) ≡ is_none (item q k)
    at_any None = refl
    at_any (Some n) = refl

-- statements in what is in force behind others, where they are refused alike in any
under : (k : Body) {e n : Env} → e ≡ n → ((m : Env) → Alike (body_refusal m (placeless_body k)) (body_refusal m k))
    → Alike (body_refusal e (placeless_body k)) (body_refusal n k)
under k {e} {n} h all = record { same = ap (λ m. is_none (body_refusal m (placeless_body k))) h ∙ (all n).same }

mutual
  pub body_aside : (b : Body) (e : Env) → Alike (body_refusal e (placeless_body b)) (body_refusal e b)
  body_aside End e = record { same = refl }
  body_aside (BlockStmt p b k) e = or_same (body_aside b e) (under k (behind_aside e b) (body_aside k))
  body_aside (IfStmt p t b k) e =
      or_same (item_same p (wanted_aside e.setting false t BoolType)) (or_same (body_aside b e) (under k (behind_aside e b) (body_aside k)))
  body_aside (IfElseStmt p t b c k) e =
      or_same (item_same p (wanted_aside e.setting false t BoolType))
      (or_same (body_aside b e)
      (or_same (under c (behind_aside e b) (body_aside c))
      (under k (ap (λ n. behind n (placeless_body c)) (behind_aside e b) ∙ behind_aside (behind e b) c) (body_aside k))))
  body_aside (WhileStmt p t b k) e =
      or_same (item_same p (wanted_aside e.setting false t BoolType)) (or_same (body_aside b (in_loop e)) (under k (behind_aside e b) (body_aside k)))
  body_aside (ForStmt p i t n b k) e =
      let begun = started_aside e i in
      let stepped = ap (λ m. behind m (placeless_body n)) begun ∙ behind_aside (started e i) n in
      let passed = ap (λ m. behind m (placeless_body n)) (behind_aside e i) ∙ behind_aside (behind e i) n in
      or_same (body_aside i e)
      (or_same (item_same p (ap (λ (m : Env). maybe_test m.setting (option_map placeless_expr t)) begun ∙ test_aside (started e i).setting t))
      (or_same (under n begun (body_aside n))
      (or_same (under b (ap (λ m. in_loop m) stepped) (body_aside b))
      (under k (ap (λ m. behind m (placeless_body b)) passed ∙ behind_aside (behind (behind e i) n) b) (body_aside k)))))
  body_aside (LoopStmt p b k) e = or_same (body_aside b (in_loop e)) (under k (behind_aside e b) (body_aside k))
  body_aside (BreakStmt p k) e = or_same (item_same p refl) (body_aside k e)
  body_aside (ContinueStmt p k) e = or_same (item_same p refl) (body_aside k e)
  body_aside (ReturnStmt p None k) e = or_same (item_same p refl) (body_aside k e)
  body_aside (ReturnStmt p (Some v) k) e = or_same (item_same p (wanted_aside e.setting false v e.returns)) (body_aside k e)
  body_aside (ThrowStmt p v k) e = or_same (item_same p (throw_aside e.setting e.caught v)) (body_aside k e)
  body_aside (TryStmt p b q x h k) e =
      or_same (body_aside b e)
      (or_same (item_same q (ap (λ (n : Env). fresh e.setting n.states false x.name) (behind_aside e b)))
      (or_same (under h (ap (λ n. in_catch (with_var n x.name ErrorType)) (behind_aside e b)) (body_aside h))
      (under k (ap (λ n. behind n (placeless_body h)) (behind_aside e b) ∙ behind_aside (behind e b) h) (body_aside k))))
  body_aside (ChooseStmt p bs k) e =
      or_same (item_same p refl) (or_same (branch_aside bs e) (under k (ap (λ ss. with_states e (slot_names ss)) (branch_slots_aside bs)) (body_aside k)))
  body_aside (DeclareStmt p i v k) e = or_same (item_same p (declare_aside e.setting e.states i v)) (body_aside k (declared e i))
  body_aside (AssignStmt p xs v k) e = or_same (item_same p (assign_aside e.setting xs v)) (body_aside k e)
  body_aside (ModifyStmt p xs c k) e = or_same (item_same p (modify_aside e.setting xs c)) (body_aside k e)
  body_aside (CallStmt p xs es k) e = or_same (item_same p (call_aside e.setting xs es)) (body_aside k e)
  body_aside (WaitStmt p w k) e = or_same (item_same p (wait_aside e.setting e.states w)) (under k (waited_aside e w.into) (body_aside k))

  branch_aside : (bs : Branches) (e : Env) → Alike (branch_refusal e (placeless_branches bs)) (branch_refusal e bs)
  branch_aside NoBranches e = record { same = refl }
  branch_aside (MoreBranches p w b bs) e =
      let slots = ap₂ (λ u v. u ++ v) (waited_slots_aside w) (slots_aside b) in
      or_same (item_same p (wait_aside e.setting e.states w))
      (or_same (under b (waited_aside e w.into) (body_aside b))
      (record {
        same =
            ap (λ ss. is_none (branch_refusal (with_states e (slot_names ss)) (placeless_branches bs))) slots
            ∙ (branch_aside bs (with_states e (slot_names (waited_slots w ++ body_slots b)))).same;
      }))
