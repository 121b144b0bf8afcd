-- The heads of a program's classes stand behind its records and functions.
use Rattle.std.proofs.Common.{◌≡◌, ℕ, suc, ◌≤◌, Bool, true, false, not, ◌&&◌, ◌||◌, nat_le, List, [], ◌∷◌, ◌++◌, length, map, if◌then◌else◌, refl, ap, ap₂, sym, subst, ◌∙◌, arith, length-append, append_assoc}
use Rattle.std.specs.List.{list_all}
use Rattle.std.proofs.lemmas.List.{append-nil, map-append}
use Rattle.std.specs.declared.option.Option.{Option}
use Rattle.std.specs.declared.option.Option.TheVariants.{None, Some}
use Rattle.flow_tree.specs.Decls.{ParamTree, SlotTree, DeclTree, StructDecl, FunctionDecl, ActorDecl, ProgramTree}
use Rattle.flow_ast.specs.Slots.{param_slot, body_slots, slots_of}
use Rattle.flow_ast.specs.Typing.{is_there}
use Rattle.flow_rules.specs.declared.rule.SemanticRule.TheVariants.{UnknownName}
use Rattle.flow_rules.specs.Least.{unless}
use Rattle.flow_rules.specs.Known.{row_of, known, type_known, is_predefined}
use Rattle.flow_rules.specs.Judged.{Setting}
use Rattle.flow_rules.specs.Items.{item, written, body_refusal}
use Rattle.flow_rules.specs.Rules.{setting_of, with_name, name_fault, param_fault, params_fault, header_fault, body_env, decl_refusal, decls_refusal}
use Rattle.flow_rules.proofs.Lesser.{no_first, no_second, holds, no_item}
use Rattle.flow_meaning.specs.Evaluating.{Names}
use Rattle.flow_meaning.specs.Source.{actors_in, names_of}
use Rattle.flow_lower.specs.Compiled.{class_in, compiled}
use Rattle.flow_valid.specs.Heads.{head_of, head_kept, first_head, broken_head}
use Rattle.flow_typing_laws.proofs.Typing.Agreement.{neither_first, neither_second, Distinct}
use Rattle.flow_validity_laws.proofs.Naming.{both, all_both}
use Rattle.flow_validity_laws.proofs.Sorting.{structs, functions, structs_append, plain_append, RowsApart, apart_both, rows, structs_apart, functions_apart, actors_apart, head_rows, known_same}
use Rattle.flow_validity_laws.proofs.Declaring.{Accepted, alone, not_known, no_packet, header_new}
use Rattle.flow_validity_laws.proofs.TypesKnown.{SlotsKnown, body_known}

actors_append : (xs ys : List DeclTree) → actors_in (xs ++ ys) ≡ actors_in xs ++ actors_in ys
actors_append [] ys = refl
actors_append (StructDecl r ∷ xs) ys = actors_append xs ys
actors_append (FunctionDecl f ∷ xs) ys = actors_append xs ys
actors_append (ActorDecl f ∷ xs) ys = ap (λ l. f ∷ l) (actors_append xs ys)

params_known : (s : Setting) (taken : List ℕ → Bool) (ps : List ParamTree) → params_fault s taken ps ≡ None → SlotsKnown s.known (map param_slot ps)
params_known s taken [] h = refl
params_known s taken (p ∷ ps) h =
    let f = param_fault s taken p in
    let r = params_fault s (with_name p.name.name taken) ps in
    let w = no_first (written s p.ty) _ (no_first f r h) in
    both (type_known s.known p.ty) _ (holds (type_known s.known p.ty) UnknownName (no_first (unless (type_known s.known p.ty) UnknownName) _ w))
    (params_known s (with_name p.name.name taken) ps (no_second f r h))

slots_count : (ps : List ParamTree) → length (map param_slot ps) ≡ length ps
slots_count [] = refl
slots_count (p ∷ ps) = ap suc (slots_count ps)

le_is : (a b : ℕ) → a ≤ b → nat_le a b ≡ true
le_is a b h = grind arith

module _ (ns : Names) (all : Bool → Setting) where
  abbrev heads : List DeclTree → List DeclTree
  heads ds = map head_of (map (class_in ns) (actors_in ds))

  heads_append : (xs ys : List DeclTree) → heads (xs ++ ys) ≡ heads xs ++ heads ys
  heads_append xs ys =
      ap (λ l. map head_of (map (class_in ns) l)) (actors_append xs ys) ∙ ap (map head_of) (map-append (class_in ns) (actors_in xs) (actors_in ys))
      ∙ map-append head_of (map (class_in ns) (actors_in xs)) (map (class_in ns) (actors_in ys))

  abbrev plain : List DeclTree → List DeclTree
  plain ds = structs ds ++ functions ds

  plain_apart : (x : List ℕ) (before ds : List DeclTree) (d : DeclTree) → RowsApart x (rows (structs before)) → RowsApart x (rows (structs ds)) → RowsApart x (rows (functions before))
      → RowsApart x (rows (functions ds))
      → structs (d ∷ []) ≡ [] → functions (d ∷ []) ≡ [] → RowsApart x (rows (plain (before ++ d ∷ ds)))
  plain_apart x before ds d a b c e f g =
      let s : RowsApart x (rows (structs (before ++ d ∷ ds))) =
      subst (λ l. RowsApart x (rows l)) (sym (structs_append before (d ∷ ds) ∙ ap (λ l. structs before ++ l) (structs_append (d ∷ []) ds ∙ ap (λ l. l ++ structs ds) f)))
      (subst (RowsApart x) (sym (map-append row_of (structs before) (structs ds))) (apart_both x (rows (structs before)) (rows (structs ds)) a b)) in
      let r : RowsApart x (rows (functions (before ++ d ∷ ds))) =
      subst (λ l. RowsApart x (rows l)) (sym (plain_append before (d ∷ ds) ∙ ap (λ l. functions before ++ l) (plain_append (d ∷ []) ds ∙ ap (λ l. l ++ functions ds) g)))
      (subst (RowsApart x) (sym (map-append row_of (functions before) (functions ds))) (apart_both x (rows (functions before)) (rows (functions ds)) c e)) in
      subst (RowsApart x) (sym (map-append row_of (structs (before ++ d ∷ ds)) (functions (before ++ d ∷ ds)))) (apart_both x _ _ s r)

  if_kept : (b : Bool) (o : Option ℕ) (i : ℕ) → b ≡ true → o ≡ None → (if b then o else Some i) ≡ None
  if_kept true o i e h = h
  if_kept false o i e h = cc

  heads_kept : (before ds : List DeclTree) (i : ℕ) → Distinct (before ++ ds) → decls_refusal all before ds ≡ None
      → first_head (all false).known (plain (before ++ ds) ++ heads before) i (map (class_in ns) (actors_in ds)) ≡ None
  heads_kept before [] i a h = refl
  heads_kept before (StructDecl r ∷ ds) i a h =
      let d = decl_refusal all (known before) (StructDecl r) in
      let next = before ++ StructDecl r ∷ [] in
      subst (λ l. first_head (all false).known l i (map (class_in ns) (actors_in ds)) ≡ None)
      (ap₂ (λ l m. plain l ++ m) (append_assoc before (StructDecl r ∷ []) ds) (heads_append before (StructDecl r ∷ []) ∙ append-nil (heads before)))
      (heads_kept next ds i (subst Distinct (sym (append_assoc before (StructDecl r ∷ []) ds)) a) (neither_second d _ h))
  heads_kept before (FunctionDecl r ∷ ds) i a h =
      let d = decl_refusal all (known before) (FunctionDecl r) in
      let next = before ++ FunctionDecl r ∷ [] in
      subst (λ l. first_head (all false).known l i (map (class_in ns) (actors_in ds)) ≡ None)
      (ap₂ (λ l m. plain l ++ m) (append_assoc before (FunctionDecl r ∷ []) ds) (heads_append before (FunctionDecl r ∷ []) ∙ append-nil (heads before)))
      (heads_kept next ds i (subst Distinct (sym (append_assoc before (FunctionDecl r ∷ []) ds)) a) (neither_second d _ h))
  heads_kept before (ActorDecl r ∷ ds) i a h =
      let d = decl_refusal all (known before) (ActorDecl r) in
      let s = all false in
      let x = r.name.name in
      let c = class_in ns r in
      let here = neither_first d _ h in
      let o = alone before ds (ActorDecl r) a in
      let head = item r.at (header_fault (known before) s r) in
      let header = no_item r.at (header_fault (known before) s r) (neither_first head _ here) in
      let body = neither_first (body_refusal (body_env s r) r.body) _ (neither_second head _ here) in
      let params = no_second (written s r.returns) (params_fault s (λ z. false) r.params) (no_second (name_fault (known before) x) _ header) in
      let fresh = header_new (known before) s r header in
      let whole = plain (before ++ ActorDecl r ∷ ds) in
      let records = plain_apart x before ds (ActorDecl r) (structs_apart x before o.front) (structs_apart x ds o.back) (functions_apart x before o.front) (functions_apart x ds o.back) refl refl in
      let others : RowsApart x (rows (whole ++ heads before)) =
      subst (RowsApart x) (sym (map-append row_of whole (heads before)))
      (apart_both x (rows whole) (rows (heads before)) records (subst (RowsApart x) (sym (head_rows ns (actors_in before))) (actors_apart x before o.front))) in
      let new = not_known (whole ++ heads before) x (no_packet x fresh) others in
      let types = body_known s.known r.body (body_env s r) refl body in
      let named : not (is_predefined x || is_there (known (whole ++ heads before) x)) ≡ true = ap₂ (λ p q. not (p || q)) fresh new in
      let many : nat_le c.params (length c.slots) ≡ true = le_is (length r.params) (length (slots_of r))
      (omega (arith, length-append (map param_slot r.params) (body_slots r.body), slots_count r.params)) in
      let slots : SlotsKnown s.known c.slots = all_both _ (map param_slot r.params) (body_slots r.body) (params_known s (λ z. false) r.params params) types.slots in
      let next = before ++ ActorDecl r ∷ [] in
      let free = not (is_predefined x || is_there (known (whole ++ heads before) x)) in
      let enough = nat_le c.params (length c.slots) in
      let kept : head_kept (known (whole ++ heads before)) s.known c ≡ true =
      both (free && enough && list_all (λ (t : SlotTree). type_known s.known t.ty) c.slots) _ (both (free && enough) _ (both free enough named many) slots) types.locals in
      if_kept (head_kept (known (whole ++ heads before)) s.known c) _ i kept
      (subst (λ l. first_head s.known l (suc i) (map (class_in ns) (actors_in ds)) ≡ None)
      (ap₂ (λ l m. plain l ++ m) (append_assoc before (ActorDecl r ∷ []) ds) (heads_append before (ActorDecl r ∷ [])) ∙ sym (append_assoc whole (heads before) (head_of c ∷ [])))
      (heads_kept next ds (suc i) (subst Distinct (sym (append_assoc before (ActorDecl r ∷ []) ds)) a) (neither_second d _ h)))

-- the heads of a program's classes are kept
pub heads_well : (p : ProgramTree) → Accepted p → broken_head (compiled p) ≡ None
heads_well p h =
    let ns = names_of p in
    subst (λ k. first_head k (structs p.decls ++ functions p.decls) 0 (map (class_in ns) (actors_in p.decls)) ≡ None) (sym (known_same p h.apart))
    (subst (λ l. first_head (known p.decls) l 0 (map (class_in ns) (actors_in p.decls)) ≡ None) (append-nil (structs p.decls ++ functions p.decls))
    (heads_kept ns (setting_of p.decls) [] p.decls 0 h.apart h.decls))
