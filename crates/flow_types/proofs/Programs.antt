-- Fields, parameters and declarations, one after another.
use Rattle.std.proofs.Common.{◌≡◌, ℕ, zero, suc, ◌+◌, ◌≤◌, ◌<◌, Bool, true, false, not, ◌||◌, ◌&&◌, List, [], ◌∷◌, ◌++◌, length, map, drop, take, get_or, if◌then◌else◌, Result, Ok, Err, refl, sym, ap, ap₂, subst, ◌∙◌, arith, append_assoc, append-nil}
use Rattle.std.specs.List.{list_any}
use Rattle.std.specs.Option.{option_map}
use Rattle.std.specs.Str.{bytes_eq}
use Rattle.std.specs.declared.option.Option.{Option}
use Rattle.std.specs.declared.option.Option.TheVariants.{None, Some}
use Rattle.std.proofs.lemmas.Slice.Eq.{bytes_eq-Decides}
use denote.Ref.{Bor}
use Rattle.indexmap.specs.IndexMap.{insert_entry}
use Rattle.indexmap.specs.IndexSet.{insert_key}
use Rattle.flow_tree.specs.declared.decl.Param.{Param}
use Rattle.flow_tree.specs.declared.decl.Decl.{Decl}
use Rattle.flow_tree.specs.declared.fault.SourceFault.{SourceFault}
use Rattle.flow_tree.specs.declared.fault.SourceFault.TheVariants.{Refused, AcrossWait, OutOfMemory}
use Rattle.flow_tree.specs.Tree.{TypeTree}
use Rattle.flow_tree.specs.Decls.{ParamTree, RecordTree, RoutineTree, DeclTree, StructDecl, FunctionDecl, ActorDecl}
use Rattle.flow_tree.specs.View.{type_of}
use Rattle.flow_tree.specs.DeclView.{param_of, params_of, decl_of}
use Rattle.flow_ast.specs.TypingNames.{named}
use Rattle.flow_ast.specs.Typing.{is_there, or_else}
use Rattle.flow_rules.specs.declared.rule.SemanticRule.{SemanticRule}
use Rattle.flow_rules.specs.declared.rule.SemanticRule.TheVariants.{UnknownName, TakenName, FallsOff}
use Rattle.flow_rules.specs.Least.{lesser, unless}
use Rattle.flow_rules.specs.Known.{Meaning, field_row, row_of, packet_row, known, type_known, is_predefined}
use Rattle.flow_rules.specs.Judged.{Setting}
use Rattle.flow_rules.specs.Items.{Refusal, item, written, among, body_refusal}
use Rattle.flow_rules.specs.Closing.{ways}
use Rattle.flow_rules.specs.Rules.{with_name, name_fault, fields_fault, record_fault, param_fault, params_fault, header_fault, body_env, routine_refusal, decl_refusal, decls_refusal, param_name, Size, first_large, setting_of}
use Rattle.flow_types.specs.declared.type_view.TypeView as code
use Rattle.flow_types.specs.View.{found_of}
use Rattle.flow_types.specs.MapView.{bound}
use Rattle.flow_types.specs.declared.walk.Walk.{Walk}
use Rattle.flow_types.specs.declared.walk.Around.{Around}
use Rattle.flow_types.specs.declared.top_names.TopNames.{TopNames}
use Rattle.flow_rules.specs.Known.{holds_by, record_holds}
use lib.ListN.{length-map}
use Rattle.flow_rules.specs.Items.{Env}
use Rattle.flow_rules.proofs.Lesser.{lesser_none, lesser_assoc, lesser_both, holds, no_item}
use Rattle.flow_types.specs.MapView.{known_by, flag_of, vars_of}
use Rattle.flow_types.specs.SettingView.{setting_view}
use Rattle.flow_types.specs.WalkView.{Says, texts_of, env_of}
use Rattle.flow_types.specs.ProgramView.{ParamsIn, setting_by}
use Rattle.flow_types.proofs.Steps.{drop_more, drop_all}
use Rattle.flow_types.proofs.Lookups.{among_any}
use Rattle.flow_types.proofs.Inserts.{row_inserted, text_inserted}
use Rattle.flow_types.proofs.Walking.{none_there}
use Rattle.flow_types.proofs.Fails.{Fails, fails_first, fails_next, says_fails}

-- a name that is put into a set or a map is taken from then on
or_false : (b : Bool) → (b || false) ≡ b
or_false true = refl
or_false false = refl

or_true : (b : Bool) → (b || true) ≡ true
or_true true = refl
or_true false = refl

or_swap : (a b : Bool) → (a || b) ≡ (b || a)
or_swap true b = sym (or_true b)
or_swap false b = sym (or_false b)

there_if : {A : Type 0} (b : Bool) (a : A) (o : Option A) → is_there (if b then Some a else o) ≡ (b || is_there o)
there_if true a o = refl
there_if false a o = refl

text_same : (x y : List ℕ) → bytes_eq x y ≡ true → x ≡ y
text_same x y is = (bytes_eq-Decides x y).0 is

texts_last : (ks : List (Bor (List ℕ))) (k : Bor (List ℕ)) (x : List ℕ)
    → list_any (λ (j : Bor (List ℕ)). bytes_eq x j.now) (ks ++ k ∷ []) ≡ (bytes_eq x k.now || list_any (λ (j : Bor (List ℕ)). bytes_eq x j.now) ks)
texts_last [] k x = refl
texts_last (j ∷ ks) k x =
    ap (λ b. bytes_eq x j.now || b) (texts_last ks k x) ∙ turn (bytes_eq x j.now) (bytes_eq x k.now) (list_any (λ (l : Bor (List ℕ)). bytes_eq x l.now) ks)
  where
    turn : (a b c : Bool) → (a || (b || c)) ≡ (b || (a || c))
    turn true b c = sym (or_true b)
    turn false b c = refl

text_there : (ks : List (Bor (List ℕ))) (k : Bor (List ℕ)) (x : List ℕ) → list_any (λ (j : Bor (List ℕ)). bytes_eq k.now j.now) ks ≡ true → (b : Bool) → bytes_eq x k.now ≡ b
    → list_any (λ (j : Bor (List ℕ)). bytes_eq x j.now) ks ≡ (bytes_eq x k.now || list_any (λ (j : Bor (List ℕ)). bytes_eq x j.now) ks)
text_there ks k x h true is = ap (λ y. list_any (λ (j : Bor (List ℕ)). bytes_eq y j.now) ks) (text_same x k.now is) ∙ h ∙ sym (ap (λ b. b || list_any (λ (j : Bor (List ℕ)). bytes_eq x j.now) ks) is)
text_there ks k x h false is = sym (ap (λ b. b || list_any (λ (j : Bor (List ℕ)). bytes_eq x j.now) ks) is)

text_put : (ks : List (Bor (List ℕ))) (k : Bor (List ℕ)) (x : List ℕ) (b : Bool) → list_any (λ (j : Bor (List ℕ)). bytes_eq k.now j.now) ks ≡ b
    → list_any (λ (j : Bor (List ℕ)). bytes_eq x j.now) (if b then ks else ks ++ k ∷ []) ≡ (bytes_eq x k.now || list_any (λ (j : Bor (List ℕ)). bytes_eq x j.now) ks)
text_put ks k x true is = text_there ks k x is (bytes_eq x k.now) refl
text_put ks k x false is = texts_last ks k x

pub text_taken : (ks : List (Bor (List ℕ))) (k : Bor (List ℕ))
    → among (map (λ (j : Bor (List ℕ)). j.now) (insert_key (λ (i j : Bor (List ℕ)). bytes_eq i.now j.now) ks k)) ≡ with_name k.now (among (map (λ (j : Bor (List ℕ)). j.now) ks))
text_taken ks k = λ i x. at x i
  where
    at : (x : List ℕ) → among (map (λ (j : Bor (List ℕ)). j.now) (insert_key (λ (i j : Bor (List ℕ)). bytes_eq i.now j.now) ks k)) x
        ≡ (bytes_eq x k.now || among (map (λ (j : Bor (List ℕ)). j.now) ks) x)
    at x =
        among_any x (insert_key (λ (i j : Bor (List ℕ)). bytes_eq i.now j.now) ks k) ∙ text_put ks k x (list_any (λ (j : Bor (List ℕ)). bytes_eq k.now j.now) ks) refl
        ∙ ap (λ b. bytes_eq x k.now || b) (sym (among_any x ks))

row_there : {A X : Type 0} (f : A → X) (k : Bor (List ℕ)) (v : A) (e : Bor (List ℕ) × A) (es new : List (Bor (List ℕ) × A)) (x : List ℕ)
    → is_there (named (map (bound f) new) x) ≡ (bytes_eq x k.now || is_there (named (map (bound f) es) x)) → (b : Bool) → bytes_eq k.now e.0.now ≡ b
    → is_there (named (map (bound f) (if b then (e.0, v) ∷ es else e ∷ new)) x) ≡ (bytes_eq x k.now || is_there (named (map (bound f) (e ∷ es)) x))
row_there f k v e es new x h true is =
    let rest = named (map (bound f) es) x in
    let c = bytes_eq x e.0.now in
    there_if c (f v) rest ∙ twice c (is_there rest) ∙ ap (λ b. c || b) (sym (there_if c (f e.1) rest))
    ∙ ap (λ y. bytes_eq x y || is_there (if c then Some (f e.1) else rest)) (sym (text_same k.now e.0.now is))
  where
    twice : (a b : Bool) → (a || b) ≡ (a || (a || b))
    twice true b = refl
    twice false b = refl
row_there f k v e es new x h false is =
    let c = bytes_eq x e.0.now in
    there_if c (f e.1) (named (map (bound f) new) x) ∙ ap (λ b. c || b) h ∙ turn c (bytes_eq x k.now) (is_there (named (map (bound f) es) x))
    ∙ ap (λ b. bytes_eq x k.now || b) (sym (there_if c (f e.1) (named (map (bound f) es) x)))
  where
    turn : (a b c : Bool) → (a || (b || c)) ≡ (b || (a || c))
    turn true b c = sym (or_true b)
    turn false b c = refl

row_at : {A X : Type 0} (f : A → X) (k : Bor (List ℕ)) (v : A) (es : List (Bor (List ℕ) × A)) (x : List ℕ)
    → is_there (named (map (bound f) (insert_entry (λ (i j : Bor (List ℕ)). bytes_eq i.now j.now) es k v)) x) ≡ (bytes_eq x k.now || is_there (named (map (bound f) es) x))
row_at f k v [] x = there_if (bytes_eq x k.now) (f v) None
row_at f k v (e ∷ es) x = row_there f k v e es (insert_entry (λ (i j : Bor (List ℕ)). bytes_eq i.now j.now) es k v) x (row_at f k v es x) (bytes_eq k.now e.0.now) refl

pub row_taken : {A X : Type 0} (f : A → X) (k : Bor (List ℕ)) (v : A) (es : List (Bor (List ℕ) × A))
    → (λ x. is_there (named (map (bound f) (insert_entry (λ (i j : Bor (List ℕ)). bytes_eq i.now j.now) es k v)) x)) ≡ with_name k.now (λ x. is_there (named (map (bound f) es) x))
row_taken f k v es = λ i x. row_at f k v es x i

-- one more field
pub fields_step : (k : List ℕ → Option Meaning) (fs : List Param) (i : ℕ) (f : Param) (old own new total : Option SemanticRule) (taken more : List ℕ → Bool) → i < length fs → f ≡ get_or fs i f
    → own ≡ lesser (unless (type_known k (type_of f.ty)) UnknownName) (unless (not (taken f.name.name)) TakenName) → new ≡ lesser old own → more ≡ with_name f.name.name taken
    → lesser old (fields_fault k taken (params_of (drop i fs))) ≡ total → lesser new (fields_fault k more (params_of (drop (i + 1) fs))) ≡ total
fields_step k fs i f old own new total taken more lt at o n m h =
    let rest = params_of (drop (i + 1) fs) in
    ap₂ (λ a t. lesser a (fields_fault k t rest)) (n ∙ ap (lesser old) o) m ∙ lesser_assoc old _ (fields_fault k (with_name f.name.name taken) rest)
    ∙ ap (λ l. lesser old (fields_fault k taken (params_of l))) (sym (drop_more fs i f lt at)) ∙ h

pub fields_end : (k : List ℕ → Option Meaning) (fs : List Param) (i : ℕ) (old total : Option SemanticRule) (taken : List ℕ → Bool) → length fs ≤ i
    → lesser old (fields_fault k taken (params_of (drop i fs))) ≡ total → old ≡ total
fields_end k fs i old total taken le h = sym (lesser_none old) ∙ ap (λ l. lesser old (fields_fault k taken (params_of l))) (sym (drop_all fs i le)) ∙ h

-- one more parameter
pub params_step : (s : Setting) (ps : List Param) (i : ℕ) (p : Param) (old own new total : Option SemanticRule) (taken more : List ℕ → Bool) → i < length ps → p ≡ get_or ps i p
    → own ≡ param_fault s taken (param_of p) → new ≡ lesser old own → more ≡ with_name p.name.name taken
    → lesser old (params_fault s taken (params_of (drop i ps))) ≡ total → lesser new (params_fault s more (params_of (drop (i + 1) ps))) ≡ total
params_step s ps i p old own new total taken more lt at o n m h =
    let rest = params_of (drop (i + 1) ps) in
    ap₂ (λ a t. lesser a (params_fault s t rest)) (n ∙ ap (lesser old) o) m ∙ lesser_assoc old _ (params_fault s (with_name p.name.name taken) rest)
    ∙ ap (λ l. lesser old (params_fault s taken (params_of l))) (sym (drop_more ps i p lt at)) ∙ h

-- what fails at a parameter doesn't hang on the variables in force
abbrev judging : Bor TopNames → Bool → List (List ℕ × TypeTree) → Setting
judging n plain vars = record { known = known_by n.now; holds = holds_by (flag_of n.now); vars = vars; plain = plain }

pub any_variables : (n m : Bor TopNames) (a b : Bool) (us vs : List (List ℕ × TypeTree)) (taken : List ℕ → Bool) (p : ParamTree) → n ≡ m → a ≡ b
    → param_fault (judging n a us) taken p ≡ param_fault (judging m b vs) taken p
any_variables n m a b us vs taken p e f = ap₂ (λ x y. param_fault (judging x y us) taken p) e f

pub params_end : (s : Setting) (ps : List Param) (i : ℕ) (old total : Option SemanticRule) (taken : List ℕ → Bool) → length ps ≤ i → lesser old (params_fault s taken (params_of (drop i ps))) ≡ total
    → old ≡ total
params_end s ps i old total taken le h = sym (lesser_none old) ∙ ap (λ l. lesser old (params_fault s taken (params_of l))) (sym (drop_all ps i le)) ∙ h

pub rows_step : {A : Type 0} (f : ParamTree → A) (ps : List Param) (i : ℕ) (p : Param) (old new total : List A) → i < length ps → p ≡ get_or ps i p → new ≡ old ++ f (param_of p) ∷ []
    → old ++ map f (params_of (drop i ps)) ≡ total → new ++ map f (params_of (drop (i + 1) ps)) ≡ total
rows_step f ps i p old new total lt at n h =
    ap (λ l. l ++ map f (params_of (drop (i + 1) ps))) n ∙ append_assoc old (f (param_of p) ∷ []) (map f (params_of (drop (i + 1) ps)))
    ∙ ap (λ l. old ++ map f (params_of l)) (sym (drop_more ps i p lt at)) ∙ h

pub rows_end : {A : Type 0} (f : ParamTree → A) (ps : List Param) (i : ℕ) (old total : List A) → length ps ≤ i → old ++ map f (params_of (drop i ps)) ≡ total → old ≡ total
rows_end f ps i old total le h = sym (append-nil old) ∙ ap (λ l. old ++ map f (params_of l)) (sym (drop_all ps i le)) ∙ h

-- where no rule fails at a parameter, its name is free
not_false : (a : Bool) → not a ≡ true → a ≡ false
not_false true h = cc
not_false false h = refl

or_none : (a b : Bool) → (a || b) ≡ false → (a ≡ false) × (b ≡ false)
or_none true b h = cc
or_none false b h = (refl, h)

pub param_free : (s : Setting) (taken : List ℕ → Bool) (p : ParamTree) → param_fault s taken p ≡ None → taken p.name.name ≡ false
param_free s taken p h =
    let once = (lesser_both (written s p.ty) (unless (not (taken p.name.name || is_predefined p.name.name || is_there (s.known p.name.name))) TakenName) h).1 in
    let all = not_false _ (holds _ _ once) in
    let two = (or_none (taken p.name.name || is_predefined p.name.name) (is_there (s.known p.name.name)) all).0 in
    (or_none (taken p.name.name) (is_predefined p.name.name) two).0

-- one more parameter is in force, with the first value that its name had
abbrev same_text : Bor (List ℕ) → Bor (List ℕ) → Bool
same_text i j = bytes_eq i.now j.now

abbrev pub texts : List (Bor (List ℕ)) → List (List ℕ)
texts ks = map (λ (j : Bor (List ℕ)). j.now) ks

abbrev taken_by : List (Bor (List ℕ) × code.TypeView) → List ℕ → Bool
taken_by es x = is_there (named (map (bound found_of) es) x)

module _ (s : Setting) (p : ParamTree) (k : Bor (List ℕ)) (v : code.TypeView) (es es' : List (Bor (List ℕ) × code.TypeView)) (ks ks' : List (Bor (List ℕ))) (fault : Option SemanticRule)
    (entries : es' ≡ insert_entry same_text es k v) (keys : ks' ≡ insert_key same_text ks k) (name : k.now ≡ p.name.name) where
  pub new_taken : taken_by es' ≡ with_name p.name.name (taken_by es)
  new_taken = ap taken_by entries ∙ row_taken found_of k v es ∙ ap (λ x. with_name x (taken_by es)) name

  pub new_only : among (texts ks) ≡ taken_by es → among (texts ks') ≡ taken_by es'
  new_only only = ap (λ l. among (texts l)) keys ∙ text_taken ks k ∙ ap₂ with_name name only ∙ sym new_taken

  free_of : fault ≡ param_fault s (taken_by es) p → fault ≡ None → taken_by es k.now ≡ false
  free_of f none = ap (taken_by es) name ∙ param_free s (taken_by es) p (sym f ∙ none)

  pub new_vars : fault ≡ param_fault s (taken_by es) p → found_of v ≡ p.ty → fault ≡ None → map (bound found_of) es' ≡ map (bound found_of) es ++ (p.name.name, p.ty) ∷ []
  new_vars f ty none =
      ap (map (bound found_of)) entries ∙ row_inserted found_of k v es (none_there _ (free_of f none)) ∙ ap₂ (λ x t. map (bound found_of) es ++ (x, t) ∷ []) name ty

  pub new_states : among (texts ks) ≡ taken_by es → fault ≡ param_fault s (taken_by es) p → fault ≡ None → texts ks' ≡ texts ks ++ p.name.name ∷ []
  new_states only f none =
      ap texts keys ∙ text_inserted k ks (ap (λ g. g k.now) only ∙ free_of f none) ∙ ap (λ x. texts ks ++ x ∷ []) name

-- where no rule fails at a name at the top, it is new
pub name_new : (before : List ℕ → Option Meaning) (x : List ℕ) → name_fault before x ≡ None → before x ≡ None
name_new before x h = none_there (before x) (or_none (is_predefined x) (is_there (before x)) (not_false _ (holds _ _ h))).1

or_both : {A : Type 0} (o p : Option A) → or_else o p ≡ None → (o ≡ None) × (p ≡ None)
or_both None p h = (refl, h)
or_both (Some a) p h = cc

routine_new : (before : List ℕ → Option Meaning) (s : Setting) (f : RoutineTree) → routine_refusal before s f ≡ None → before f.name.name ≡ None
routine_new before s f h =
    let header : header_fault before s f ≡ None = no_item f.at (header_fault before s f) (or_both (item f.at (header_fault before s f)) _ h).0 in
    name_new before f.name.name (lesser_both (name_fault before f.name.name) _ header).0

pub decl_new : (all : Bool → Setting) (before : List ℕ → Option Meaning) (d : DeclTree) → decl_refusal all before d ≡ None → before (row_of d).0 ≡ None
decl_new all before (StructDecl r) h = name_new before r.name.name (lesser_both (name_fault before r.name.name) _ (no_item r.at (record_fault before r) h)).0
decl_new all before (FunctionDecl f) h = routine_new before (all true) f h
decl_new all before (ActorDecl f) h = routine_new before (all false) f h

-- one more declaration
map_last : {A B : Type 0} (f : A → B) (xs : List A) (x : A) → map f (xs ++ x ∷ []) ≡ map f xs ++ f x ∷ []
map_last f [] x = refl
map_last f (y ∷ ys) x = ap (λ l. f y ∷ l) (map_last f ys x)

take_next : {A B : Type 0} (f : A → B) (xs : List A) (i : ℕ) (x : A) → i < length xs → x ≡ get_or xs i x → map f (take (i + 1) xs) ≡ map f (take i xs) ++ f x ∷ []
take_next f [] i x lt at = absurd (omega arith)
take_next f (y ∷ ys) zero x lt at = ap (λ z. f z ∷ []) (sym at)
take_next f (y ∷ ys) (suc i) x lt at =
    let m : i < length ys = omega arith in
    let n : suc i + 1 ≡ suc (i + 1) = omega arith in
    ap (λ k. map f (take k (y ∷ ys))) n ∙ ap (λ l. f y ∷ l) (take_next f ys i x m at)

pub decls_step : (all : Bool → Setting) (ds : List Decl) (i : ℕ) (d : Decl) (old new : List (List ℕ × Meaning)) (total : Option Refusal) → i < length ds → d ≡ get_or ds i d
    → old ≡ packet_row ∷ map row_of (map decl_of (take i ds)) → new ≡ old ++ row_of (decl_of d) ∷ [] → decl_refusal all (named old) (decl_of d) ≡ None
    → decls_refusal all (map decl_of (take i ds)) (map decl_of (drop i ds)) ≡ total
    → (new ≡ packet_row ∷ map row_of (map decl_of (take (i + 1) ds))) × (decls_refusal all (map decl_of (take (i + 1) ds)) (map decl_of (drop (i + 1) ds)) ≡ total)
decls_step all ds i d old new total lt at o n holds h =
    let more : map decl_of (take (i + 1) ds) ≡ map decl_of (take i ds) ++ decl_of d ∷ [] = take_next decl_of ds i d lt at in
    let rest = map decl_of (drop (i + 1) ds) in
    let none : decl_refusal all (known (map decl_of (take i ds))) (decl_of d) ≡ None = ap (λ l. decl_refusal all (named l) (decl_of d)) (sym o) ∙ holds in (
      n ∙ ap (λ l. l ++ row_of (decl_of d) ∷ []) o ∙ ap (λ l. packet_row ∷ l) (sym (map_last row_of (map decl_of (take i ds)) (decl_of d)) ∙ ap (map row_of) (sym more)),
      ap (λ l. decls_refusal all l rest) more ∙ ap (λ f. or_else f (decls_refusal all (map decl_of (take i ds) ++ decl_of d ∷ []) rest)) (sym none)
          ∙ ap (λ l. decls_refusal all (map decl_of (take i ds)) (map decl_of l)) (sym (drop_more ds i d lt at)) ∙ h,
    )

pub decls_fail : (all : Bool → Setting) (ds : List Decl) (i : ℕ) (d : Decl) (old : List (List ℕ × Meaning)) (total : Option Refusal) (x : SourceFault) → i < length ds → d ≡ get_or ds i d
    → old ≡ packet_row ∷ map row_of (map decl_of (take i ds)) → decls_refusal all (map decl_of (take i ds)) (map decl_of (drop i ds)) ≡ total
    → Says (decl_refusal all (named old) (decl_of d)) (Err x) → Says total (Err x)
decls_fail all ds i d old total (Refused rule place) lt at o h a =
    sym h ∙ ap (λ l. decls_refusal all (map decl_of (take i ds)) (map decl_of l)) (drop_more ds i d lt at)
    ∙ ap (λ l. or_else (decl_refusal all (named l) (decl_of d)) (decls_refusal all (map decl_of (take i ds) ++ decl_of d ∷ []) (map decl_of (drop (i + 1) ds)))) (sym o)
    ∙ ap (λ f. or_else f (decls_refusal all (map decl_of (take i ds) ++ decl_of d ∷ []) (map decl_of (drop (i + 1) ds)))) a
decls_fail all ds i d old total (AcrossWait at declared wait) lt here o h a = a
decls_fail all ds i d old total OutOfMemory lt at o h a = a

pub decls_end : (all : Bool → Setting) (ds : List Decl) (i : ℕ) (total : Option Refusal) → length ds ≤ i → decls_refusal all (map decl_of (take i ds)) (map decl_of (drop i ds)) ≡ total → total ≡ None
decls_end all ds i total le h = sym h ∙ ap (λ l. decls_refusal all (map decl_of (take i ds)) (map decl_of l)) (drop_all ds i le)

-- one part and then another
pub says_first : (p q : Option Refusal) (x : SourceFault) → Says p (Err x) → Says (or_else p q) (Err x)
says_first p q (Refused rule at) h = ap (λ b. or_else b q) h
says_first p q (AcrossWait at declared wait) h = h
says_first p q OutOfMemory h = h

pub says_next : (p q : Option Refusal) (r : Result (Unit {0}) SourceFault) → p ≡ None → Says q r → Says (or_else p q) r
says_next p q (Ok u) e h = ap (λ b. or_else b q) e ∙ h
says_next p q (Err (Refused rule at)) e h = ap (λ b. or_else b q) e ∙ h
says_next p q (Err (AcrossWait at declared wait)) e h = h
says_next p q (Err OutOfMemory) e h = h

pub fails_says : (p : Option Refusal) (x : SourceFault) → Fails p x → Says p (Err x)
fails_says p (Refused rule at) h = h
fails_says p (AcrossWait at declared wait) h = h
fails_says p OutOfMemory h = h

-- what is in force where a routine's body begins
abbrev pub outside : Around
outside = record { looped = false; caught = false }

abbrev made : Bor TopNames → Bool → List (List ℕ × TypeTree) → TypeTree → List (List ℕ) → Env
made n p vs r ss = record {
  setting = record { known = known_by n.now; holds = holds_by (flag_of n.now); vars = vs; plain = p };
  returns = r;
  states = ss;
  looped = false;
  caught = false;
}

abbrev begun : Setting → List (List ℕ × TypeTree) → TypeTree → List (List ℕ) → Env
begun s vs r ss = record { setting = record s { vars = vs }; returns = r; states = ss; looped = false; caught = false }

pub routine_env : (old new : Walk) (s : Setting) (f : RoutineTree) → setting_view old.setting ≡ s → found_of old.returns ≡ f.returns → ParamsIn old new f.params → env_of new outside ≡ body_env s f
routine_env old new s f is returns h =
    ap₂ (λ n p. made n p (vars_of new.setting.vars) (found_of new.returns) (texts_of new.states)) h.others.0 h.others.1
    ∙ ap₂ (λ vs ss. made old.setting.names old.setting.plain vs (found_of new.returns) ss) h.vars h.states
    ∙ ap (λ r. made old.setting.names old.setting.plain (map field_row f.params) (found_of r) (map param_name f.params)) h.others.2
    ∙ ap₂ (λ t r. begun t (map field_row f.params) r (map param_name f.params)) is returns

abbrev the_setting : (List ℕ → Option Meaning) → (List ℕ → Bool) → Bool → Setting
the_setting f g plain = record { known = f; holds = holds_by g; vars = []; plain = plain }

-- what is in force in all routines of a program, and its declarations by their code
pub setting_all : (n : TopNames) (ds : List Decl) → known_by n ≡ known (map decl_of ds) → flag_of n ≡ record_holds (known (map decl_of ds)) (suc (length ds))
    → setting_by n ≡ setting_of (map decl_of ds)
setting_all n ds k h =
    ap₂ the_setting k (h ∙ ap (λ m. record_holds (known (map decl_of ds)) (suc m)) (sym (length-map ds decl_of)))

pub decls_by : (all own : Bool → Setting) (ss ts : List Decl) (r : Result (Unit {0}) SourceFault) → ts ≡ ss → own ≡ all
    → Says (decls_refusal own [] (map decl_of ts)) r → Says (decls_refusal all [] (map decl_of ss)) r
decls_by all own ss ts r is same h = subst (λ l. Says (decls_refusal all [] (map decl_of l)) r) is (subst (λ f. Says (decls_refusal f [] (map decl_of ts)) r) same h)

pub large_by : (ns : List (List ℕ × Size)) (ss ts : List Decl) (r : Result (Unit {0}) SourceFault) → ts ≡ ss → Says (first_large ns (map decl_of ts)) r → Says (first_large ns (map decl_of ss)) r
large_by ns ss ts r is h = subst (λ l. Says (first_large ns (map decl_of l)) r) is h
