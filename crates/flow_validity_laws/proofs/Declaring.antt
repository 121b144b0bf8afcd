-- The records and functions of a program keep the rules by themselves, and the heads of its classes stand behind them.
use Rattle.std.proofs.Common.{◌≡◌, ℕ, Bool, true, false, not, ◌||◌, is_none, List, [], ◌∷◌, ◌++◌, map, if◌then◌else◌, codes, refl, ap, ap₂, sym, subst, ◌∙◌, append_assoc}
use Rattle.std.specs.Str.{bytes_eq}
use Rattle.std.proofs.lemmas.List.{append-nil, map-append}
use Rattle.std.specs.declared.option.Option.{Option}
use Rattle.std.specs.declared.option.Option.TheVariants.{None, Some}
use Rattle.flow_base.specs.declared.place.Place.{Place}
use Rattle.flow_tree.specs.Tree.{TypeTree, NamedType, FutureType, FutureStreamType, PromiseType, PromiseStreamType, VectorType}
use Rattle.flow_tree.specs.Decls.{ParamTree, RecordTree, RoutineTree, DeclTree, StructDecl, FunctionDecl, ActorDecl, ProgramTree}
use Rattle.flow_ast.specs.TypingNames.{named}
use Rattle.flow_ast.specs.Typing.{or_else, is_there, is_packet}
use Rattle.flow_rules.specs.declared.rule.SemanticRule.{SemanticRule}
use Rattle.flow_rules.specs.declared.rule.SemanticRule.TheVariants.{UnknownName, TakenName, NoMain}
use Rattle.flow_rules.specs.Least.{lesser, unless}
use Rattle.flow_rules.specs.Known.{Meaning, row_of, packet_row, known, is_record, type_known, is_predefined}
use Rattle.flow_rules.specs.Judged.{Setting}
use Rattle.flow_rules.specs.Items.{item, written}
use Rattle.flow_rules.specs.Rules.{setting_of, name_fault, with_name, fields_fault, record_fault, params_fault, header_fault, routine_refusal, decl_refusal, decls_refusal, Size, packet_size, record_size, too_large, large_record, with_size, first_large, is_main, refusal_of}
use Rattle.flow_rules.proofs.Lesser.{no_first, no_second, no_lesser, holds, no_item}
use Rattle.flow_meaning.specs.Source.{functions_in}
use Rattle.flow_lower.specs.Compiled.{compiled}
use Rattle.flow_valid.specs.Heads.{all_decls, declarations_kept, has_main}
use Rattle.flow_typing_laws.proofs.Typing.Names.{bytes_sym, some_none}
use Rattle.flow_typing_laws.proofs.Typing.Agreement.{neither_first, neither_second, not_true, neither_left, neither_right, Apart, Distinct, distinct}
use Rattle.flow_validity_laws.proofs.Sorting.{structs, functions, structs_append, plain_append, RowsApart, none_of, apart_both, rows, structs_apart, functions_apart, known_same, setting_same}

both_none : {A : Type 0} (x y : Option A) → x ≡ None → y ≡ None → or_else x y ≡ None
both_none None y e f = f
both_none (Some a) y e f = absurd (some_none e)

still_item : (at : Place) (f : Option SemanticRule) → f ≡ None → item at f ≡ None
still_item at None e = refl
still_item at (Some k) e = absurd (some_none e)

-- What is known by fewer declarations: a name that is new stays so, and records are known.
record Less (k j : List ℕ → Option Meaning) : Type 0 where
  new : (x : List ℕ) → is_there (k x) ≡ false → is_there (j x) ≡ false
  records : (x : List ℕ) → is_record (k x) ≡ true → is_record (j x) ≡ true

abbrev LessAt : Option Meaning → Option Meaning → Type 0
LessAt o q = (is_there o ≡ false → is_there q ≡ false) × (is_record o ≡ true → is_record q ≡ true)

less_named : (ds : List DeclTree) (x : List ℕ) → LessAt (named (rows ds) x) (named (rows (structs ds)) x)
less_named [] x = (λ e. e, λ e. e)
less_named (StructDecl r ∷ ds) x = by_name (bytes_eq x r.name.name) (less_named ds x)
  where
    by_name : (b : Bool) → LessAt (named (rows ds) x) (named (rows (structs ds)) x)
        → LessAt (if b then Some (row_of (StructDecl r)).1 else named (rows ds) x) (if b then Some (row_of (StructDecl r)).1 else named (rows (structs ds)) x)
    by_name true h = (λ e. e, λ e. e)
    by_name false h = h
less_named (FunctionDecl f ∷ ds) x = by_name (bytes_eq x f.name.name) (less_named ds x)
  where
    by_name : (b : Bool) → LessAt (named (rows ds) x) (named (rows (structs ds)) x) → LessAt (if b then Some (row_of (FunctionDecl f)).1 else named (rows ds) x) (named (rows (structs ds)) x)
    by_name true h = (λ e. cc, λ e. cc)
    by_name false h = h
less_named (ActorDecl f ∷ ds) x = by_name (bytes_eq x f.name.name) (less_named ds x)
  where
    by_name : (b : Bool) → LessAt (named (rows ds) x) (named (rows (structs ds)) x) → LessAt (if b then Some (row_of (ActorDecl f)).1 else named (rows ds) x) (named (rows (structs ds)) x)
    by_name true h = (λ e. cc, λ e. cc)
    by_name false h = h

less_at : (ds : List DeclTree) (x : List ℕ) → LessAt (known ds x) (known (structs ds) x)
less_at ds x = by_name (bytes_eq x packet_row.0)
  where
    by_name : (b : Bool) → LessAt (if b then Some packet_row.1 else named (rows ds) x) (if b then Some packet_row.1 else named (rows (structs ds)) x)
    by_name true = (λ e. e, λ e. e)
    by_name false = less_named ds x

less : (ds : List DeclTree) → Less (known ds) (known (structs ds))
less ds = record { new = λ x. (less_at ds x).0; records = λ x. (less_at ds x).1 }

type_less : (k j : List ℕ → Option Meaning) → Less k j → (t : TypeTree) → type_known k t ≡ true → type_known j t ≡ true
type_less k j l (NamedType x) e = l.records x e
type_less k j l (FutureType t) e = type_less k j l t e
type_less k j l (FutureStreamType t) e = type_less k j l t e
type_less k j l (PromiseType t) e = type_less k j l t e
type_less k j l (PromiseStreamType t) e = type_less k j l t e
type_less k j l (VectorType t) e = type_less k j l t e
type_less k j l _ e = refl

unless_true : (b : Bool) (n : SemanticRule) → b ≡ true → unless b n ≡ None
unless_true true n e = refl
unless_true false n e = cc

new_name : (p a c : Bool) → (a ≡ false → c ≡ false) → unless (not (p || a)) TakenName ≡ None → unless (not (p || c)) TakenName ≡ None
new_name p a c f h =
    let n = not_true (p || a) (holds (not (p || a)) TakenName h) in
    ap (λ b. unless (not (b || c)) TakenName) (neither_left p a n) ∙ ap (λ b. unless (not b) TakenName) (f (neither_right p a n))

fields_less : (k j : List ℕ → Option Meaning) → Less k j → (taken : List ℕ → Bool) (fs : List ParamTree) → fields_fault k taken fs ≡ None → fields_fault j taken fs ≡ None
fields_less k j l taken [] h = refl
fields_less k j l taken (f ∷ fs) h =
    let known_type = unless (type_known k f.ty) UnknownName in
    let once = unless (not (taken f.name.name)) TakenName in
    let rest = fields_fault k (with_name f.name.name taken) fs in
    let a = no_first (lesser known_type once) rest h in
    no_lesser (lesser (unless (type_known j f.ty) UnknownName) once) (fields_fault j (with_name f.name.name taken) fs)
    (no_lesser (unless (type_known j f.ty) UnknownName) once (unless_true (type_known j f.ty) UnknownName
    (type_less k j l f.ty (holds (type_known k f.ty) UnknownName (no_first known_type once a)))) (no_second known_type once a))
    (fields_less k j l (with_name f.name.name taken) fs (no_second (lesser known_type once) rest h))

record_less : (k j : List ℕ → Option Meaning) → Less k j → (r : RecordTree) → record_fault k r ≡ None → record_fault j r ≡ None
record_less k j l r h =
    let n = name_fault k r.name.name in
    let f = fields_fault k (λ x. false) r.fields in
    no_lesser (name_fault j r.name.name) (fields_fault j (λ x. false) r.fields)
    (new_name (is_predefined r.name.name) (is_there (k r.name.name)) (is_there (j r.name.name)) (l.new r.name.name) (no_first n f h))
    (fields_less k j l (λ x. false) r.fields (no_second n f h))

-- the records by themselves
module _ (all : Bool → Setting) where
  records_kept : (before ds : List DeclTree) → decls_refusal all before ds ≡ None → decls_refusal all (structs before) (structs ds) ≡ None
  records_kept before [] h = refl
  records_kept before (StructDecl r ∷ ds) h =
      let d = decl_refusal all (known before) (StructDecl r) in
      let f = no_item r.at (record_fault (known before) r) (neither_first d _ h) in
      both_none (decl_refusal all (known (structs before)) (StructDecl r)) _
      (still_item r.at (record_fault (known (structs before)) r) (record_less (known before) (known (structs before)) (less before) r f))
      (subst (λ b. decls_refusal all b (structs ds) ≡ None) (structs_append before (StructDecl r ∷ [])) (records_kept (before ++ StructDecl r ∷ []) ds (neither_second d _ h)))
  records_kept before (FunctionDecl f ∷ ds) h =
      subst (λ b. decls_refusal all b (structs ds) ≡ None) (structs_append before (FunctionDecl f ∷ []) ∙ append-nil (structs before))
      (records_kept (before ++ FunctionDecl f ∷ []) ds (neither_second (decl_refusal all (known before) (FunctionDecl f)) _ h))
  records_kept before (ActorDecl f ∷ ds) h =
      subst (λ b. decls_refusal all b (structs ds) ≡ None) (structs_append before (ActorDecl f ∷ []) ∙ append-nil (structs before))
      (records_kept (before ++ ActorDecl f ∷ []) ds (neither_second (decl_refusal all (known before) (ActorDecl f)) _ h))

  decls_append : (before xs ys : List DeclTree) → decls_refusal all before xs ≡ None → decls_refusal all (before ++ xs) ys ≡ None → decls_refusal all before (xs ++ ys) ≡ None
  decls_append before [] ys h k = subst (λ b. decls_refusal all b ys ≡ None) (append-nil before) k
  decls_append before (x ∷ xs) ys h k =
      let d = decl_refusal all (known before) x in
      both_none d _ (neither_first d _ h) (decls_append (before ++ x ∷ []) xs ys (neither_second d _ h) (subst (λ b. decls_refusal all b ys ≡ None) (sym (append_assoc before (x ∷ []) xs)) k))

-- a declaration among others has its name alone
apart_front : (x : List ℕ) (pre ds : List DeclTree) → Apart x (pre ++ ds) → Apart x pre
apart_front x [] ds a = tt
apart_front x (d ∷ pre) ds a = (a.0, apart_front x pre ds a.1)

apart_back : (x : List ℕ) (pre ds : List DeclTree) → Apart x (pre ++ ds) → Apart x ds
apart_back x [] ds a = a
apart_back x (d ∷ pre) ds a = apart_back x pre ds a.1

pub record Alone (d : DeclTree) (pre post : List DeclTree) : Type 0 where
  pub front : Apart (row_of d).0 pre
  pub back : Apart (row_of d).0 post

apart_turned : (x y : List ℕ) → bytes_eq x y ≡ false → bytes_eq y x ≡ false
apart_turned x y e = bytes_sym y x ∙ e

apart_of : (x : List ℕ) (pre post : List DeclTree) (d : DeclTree) → Apart x (pre ++ d ∷ post) → bytes_eq x (row_of d).0 ≡ false
apart_of x [] post d a = a.0
apart_of x (e ∷ pre) post d a = apart_of x pre post d a.1

pub alone : (pre post : List DeclTree) (d : DeclTree) → Distinct (pre ++ d ∷ post) → Alone d pre post
alone [] post d h = record { front = tt; back = h.0 }
alone (e ∷ pre) post d h =
    let r = alone pre post d h.1 in
    record { front = (apart_turned (row_of e).0 (row_of d).0 (apart_of (row_of e).0 pre post d h.0), r.front); back = r.back }

-- no name but that of the predefined record is known by other rows
pub not_known : (ds : List DeclTree) (x : List ℕ) → is_packet x ≡ false → RowsApart x (rows ds) → is_there (known ds x) ≡ false
not_known ds x e a = ap (λ b. is_there (if b then Some packet_row.1 else named (rows ds) x)) e ∙ ap (λ (o : Option Meaning). is_there o) (none_of (rows ds) x a)

pub header_new : (before : List ℕ → Option Meaning) (s : Setting) (f : RoutineTree) → header_fault before s f ≡ None → is_predefined f.name.name ≡ false
header_new before s f h =
    let n = no_first (name_fault before f.name.name) (lesser (written s f.returns) (params_fault s (λ x. false) f.params)) h in
    neither_left (is_predefined f.name.name) (is_there (before f.name.name))
    (not_true (is_predefined f.name.name || is_there (before f.name.name)) (holds (not (is_predefined f.name.name || is_there (before f.name.name))) TakenName n))

pub no_packet : (x : List ℕ) → is_predefined x ≡ false → is_packet x ≡ false
no_packet x e = neither_left (is_packet x) _ (neither_left _ _ e)

header_moved : (k j : List ℕ → Option Meaning) (s : Setting) (f : RoutineTree) → is_there (j f.name.name) ≡ false → header_fault k s f ≡ None → header_fault j s f ≡ None
header_moved k j s f e h =
    let n = name_fault k f.name.name in
    let r = lesser (written s f.returns) (params_fault s (λ x. false) f.params) in
    no_lesser (name_fault j f.name.name) r (new_name (is_predefined f.name.name) (is_there (k f.name.name)) (is_there (j f.name.name)) (λ z. e) (no_first n r h)) (no_second n r h)

routine_moved : (k j : List ℕ → Option Meaning) (s : Setting) (f : RoutineTree) → is_there (j f.name.name) ≡ false → routine_refusal k s f ≡ None → routine_refusal j s f ≡ None
routine_moved k j s f e h =
    let i = item f.at (header_fault k s f) in
    both_none (item f.at (header_fault j s f)) _ (still_item f.at (header_fault j s f) (header_moved k j s f e (no_item f.at (header_fault k s f) (neither_first i _ h)))) (neither_second i _ h)

module _ (all : Bool → Setting) where
  -- the functions behind all records
  functions_kept : (before ds : List DeclTree) → Distinct (before ++ ds) → decls_refusal all before ds ≡ None → decls_refusal all (structs (before ++ ds) ++ functions before) (functions ds) ≡ None
  functions_kept before [] a h = refl
  functions_kept before (FunctionDecl f ∷ ds) a h =
      let d = decl_refusal all (known before) (FunctionDecl f) in
      let x = f.name.name in
      let here = neither_first d _ h in
      let i = alone before ds (FunctionDecl f) a in
      let header = no_item f.at (header_fault (known before) (all true) f) (neither_first (item f.at (header_fault (known before) (all true) f)) _ here) in
      let whole = structs (before ++ FunctionDecl f ∷ ds) in
      let records : RowsApart x (rows whole) = subst (λ l. RowsApart x (rows l)) (sym (structs_append before (FunctionDecl f ∷ ds)))
      (subst (RowsApart x) (sym (map-append row_of (structs before) (structs ds)))
      (apart_both x (rows (structs before)) (rows (structs ds)) (structs_apart x before i.front) (structs_apart x ds i.back))) in
      let others : RowsApart x (rows (whole ++ functions before)) =
      subst (RowsApart x) (sym (map-append row_of whole (functions before))) (apart_both x (rows whole) (rows (functions before)) records (functions_apart x before i.front)) in
      let new = not_known (whole ++ functions before) x (no_packet x (header_new (known before) (all true) f header)) others in
      let next = before ++ FunctionDecl f ∷ [] in
      let rest = functions_kept next ds (subst Distinct (sym (append_assoc before (FunctionDecl f ∷ []) ds)) a) (neither_second d _ h) in
      let same : structs (next ++ ds) ++ functions next ≡ (whole ++ functions before) ++ FunctionDecl f ∷ [] =
      ap₂ (λ l m. structs l ++ m) (append_assoc before (FunctionDecl f ∷ []) ds) (plain_append before (FunctionDecl f ∷ [])) ∙ sym (append_assoc whole (functions before) (FunctionDecl f ∷ [])) in
      both_none (decl_refusal all (known (whole ++ functions before)) (FunctionDecl f)) _ (routine_moved (known before) (known (whole ++ functions before)) (all true) f new here)
      (subst (λ b. decls_refusal all b (functions ds) ≡ None) same rest)
  functions_kept before (StructDecl r ∷ ds) a h =
      let d = decl_refusal all (known before) (StructDecl r) in
      let next = before ++ StructDecl r ∷ [] in
      let rest = functions_kept next ds (subst Distinct (sym (append_assoc before (StructDecl r ∷ []) ds)) a) (neither_second d _ h) in
      let same : structs (next ++ ds) ++ functions next ≡ structs (before ++ StructDecl r ∷ ds) ++ functions before =
      ap₂ (λ l m. structs l ++ m) (append_assoc before (StructDecl r ∷ []) ds) (plain_append before (StructDecl r ∷ []) ∙ append-nil (functions before)) in
      subst (λ b. decls_refusal all b (functions ds) ≡ None) same rest
  functions_kept before (ActorDecl r ∷ ds) a h =
      let d = decl_refusal all (known before) (ActorDecl r) in
      let next = before ++ ActorDecl r ∷ [] in
      let rest = functions_kept next ds (subst Distinct (sym (append_assoc before (ActorDecl r ∷ []) ds)) a) (neither_second d _ h) in
      let same : structs (next ++ ds) ++ functions next ≡ structs (before ++ ActorDecl r ∷ ds) ++ functions before =
      ap₂ (λ l m. structs l ++ m) (append_assoc before (ActorDecl r ∷ []) ds) (plain_append before (ActorDecl r ∷ []) ∙ append-nil (functions before)) in
      subst (λ b. decls_refusal all b (functions ds) ≡ None) same rest

  pub plain_kept : (ds : List DeclTree) → Distinct ds → decls_refusal all [] ds ≡ None → decls_refusal all [] (structs ds ++ functions ds) ≡ None
  plain_kept ds a h =
      decls_append all [] (structs ds) (functions ds) (records_kept all [] ds h) (subst (λ b. decls_refusal all b (functions ds) ≡ None) (append-nil (structs ds)) (functions_kept [] ds a h))

-- the sizes of records
functions_small : (ns : List (List ℕ × Size)) (fs : List RoutineTree) → first_large ns (map FunctionDecl fs) ≡ None
functions_small ns [] = refl
functions_small ns (f ∷ fs) = functions_small ns fs

sizes_kept : (ns : List (List ℕ × Size)) (ds : List DeclTree) (fs : List RoutineTree) → first_large ns ds ≡ None → first_large ns (structs ds ++ map FunctionDecl fs) ≡ None
sizes_kept ns [] fs h = functions_small ns fs
sizes_kept ns (StructDecl r ∷ ds) fs h =
    let o = large_record (too_large (record_size ns r)) r in
    both_none o _ (neither_first o _ h) (sizes_kept (with_size ns r) ds fs (neither_second o _ h))
sizes_kept ns (FunctionDecl f ∷ ds) fs h = sizes_kept ns ds fs h
sizes_kept ns (ActorDecl f ∷ ds) fs h = sizes_kept ns ds fs h

none_is : {A : Type 0} (o : Option A) → o ≡ None → is_none o ≡ true
none_is None e = refl
none_is (Some a) e = absurd (some_none e)

-- what the rules say of a program that none refuses
pub record Accepted (p : ProgramTree) : Type 0 where
  pub decls : decls_refusal (setting_of p.decls) [] p.decls ≡ None
  pub main : is_main (known p.decls (codes "main")) ≡ true
  pub sizes : first_large ((codes "Packet", packet_size) ∷ []) p.decls ≡ None
  pub apart : Distinct p.decls

pub is_accepted : (p : ProgramTree) → refusal_of p ≡ None → Accepted p
is_accepted p h =
    let d = decls_refusal (setting_of p.decls) [] p.decls in
    let a = neither_first d _ h in
    let m = unless (is_main (known p.decls (codes "main"))) NoMain in
    let r = neither_second d _ h in
    record {
      decls = a;
      main = holds (is_main (known p.decls (codes "main"))) NoMain (no_item p.end m (neither_first (item p.end m) _ r));
      sizes = neither_second (item p.end m) _ r;
      apart = distinct (setting_of p.decls) [] p.decls a;
    }

-- the records and functions of a program keep the rules of records and functions, and there is a `main`
pub declares_well : (p : ProgramTree) → Accepted p → declarations_kept (compiled p) ≡ true
declares_well p h =
    let same : setting_of (all_decls (compiled p)) ≡ setting_of p.decls = λ i b. setting_same p h.apart b i in
    let plain = structs p.decls ++ functions p.decls in
    let kept = subst (λ s. decls_refusal s [] plain ≡ None) (sym same) (plain_kept (setting_of p.decls) p.decls h.apart h.decls) in
    none_is _ (both_none (decls_refusal (setting_of (all_decls (compiled p))) [] plain) _ kept (sizes_kept ((codes "Packet", packet_size) ∷ []) p.decls (functions_in p.decls) h.sizes))

pub mains_well : (p : ProgramTree) → Accepted p → has_main (compiled p) ≡ true
mains_well p h = ap (λ k. is_main (k (codes "main"))) (known_same p h.apart) ∙ h.main
