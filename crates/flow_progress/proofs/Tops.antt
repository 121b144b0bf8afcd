-- The declarations of valid classes: what the program's scope has, and that no two have one name.
use Rattle.std.proofs.Common.{◌≡◌, ◌≤◌, ℕ, zero, suc, ◌+◌, Bool, true, false, not, ◌&&◌, ◌||◌, List, [], ◌∷◌, ◌++◌, map, length, refl, sym, ap, ap₂, subst, ◌∙◌, arith, if◌then◌else◌}
use Rattle.std.specs.Prelude.{is_none, nat_le, take, position, slice_get, ltb, cond}
use Rattle.std.specs.List.{position_or_len}
use Rattle.std.specs.Str.{bytes_eq}
use Rattle.std.specs.List.{list_all}
use Rattle.std.specs.Option.{option_map}
use Rattle.std.proofs.lemmas.Bool.{false≢true, true≢false}
use Rattle.std.proofs.lemmas.List.{append-nil}
use Rattle.std.specs.declared.option.Option.{Option}
use Rattle.std.specs.declared.option.Option.TheVariants.{None, Some}
use Rattle.flow_tree.specs.Tree.{TypeTree}
use Rattle.flow_tree.specs.Decls.{ParamTree, SlotTree, RecordTree, RoutineTree, DeclTree, StructDecl, FunctionDecl}
use Rattle.flow_tree.specs.Canon.{first_place}
use Rattle.flow_tree.specs.Body.{End}
use Rattle.flow_ast.specs.TypingNames.{named}
use Rattle.flow_ast.specs.Typing.{is_there, is_packet, packet_fields, param_types, routine_named}
use Rattle.flow_rules.specs.Known.{Meaning, RecordOf, ActorOf, row_of, packet_row, known, type_known, is_predefined}
use Rattle.flow_rules.specs.Rules.{setting_of, decls_refusal}
use Rattle.flow_class.specs.Classes.{ClassTree, RawTree}
use Rattle.flow_valid.specs.Heads.{slot_param, head_of, plain_decls, all_decls, head_kept, first_head, ident}
use Rattle.flow_valid.specs.Validity.{IsValid}
use Rattle.flow_meaning.specs.Source.{records_in, functions_in, actors_in}
use Rattle.flow_meaning.specs.Class.{class_name}
use Rattle.flow_ast.specs.Fits.{scope_over}
use Rattle.flow_typing_laws.specs.Typing.Scopes.{scope_in}
use Rattle.flow_progress.specs.Rules.{first_types}
use Rattle.flow_progress.specs.Written.{heads}
use Rattle.flow_typing_laws.proofs.Typing.Names.{bytes_same, bytes_sym, some_none, none_some, some_same}
use Rattle.flow_typing_laws.proofs.Typing.Agreement.{Apart, Distinct, distinct, neither_first, neither_right, not_true}

pub first_true : (a b : Bool) → a && b ≡ true → a ≡ true
first_true true b e = refl
first_true false b e = absurd (false≢true e)

pub second_true : (a b : Bool) → a && b ≡ true → b ≡ true
second_true true b e = e
second_true false b e = absurd (false≢true e)

pub none_is : {A : Type 0} (o : Option A) → is_none o ≡ true → o ≡ None
none_is None e = refl
none_is (Some a) e = absurd (false≢true e)

-- the place of the first that passes
step : (b : Bool) (n l : ℕ) → cond (ltb (cond (not b) (1 + n) 0) (suc l)) (Some (cond (not b) (1 + n) 0)) None ≡ (if b then Some 0 else option_map suc (cond (ltb n l) (Some n) None))
step true n l = grind arith
step false n l = by_test (ltb n l) refl
  where
    by_test : (b : Bool) → ltb n l ≡ b → cond (ltb (1 + n) (suc l)) (Some (1 + n)) None ≡ option_map suc (cond b (Some n) None)
    by_test true e = grind (arith, e)
    by_test false e = grind (arith, e)

position_step : {A : Type 0} (p : A → Bool) (x : A) (xs : List A) → position p (x ∷ xs) ≡ (if p x then Some 0 else option_map suc (position p xs))
position_step p x xs = step (p x) (position_or_len p xs) (length xs)

append_snoc : {A : Type 0} (xs : List A) (y : A) (ys : List A) → (xs ++ y ∷ []) ++ ys ≡ xs ++ y ∷ ys
append_snoc [] y ys = refl
append_snoc (x ∷ xs) y ys = ap (λ l. x ∷ l) (append_snoc xs y ys)

-- the records, functions and actors among them
structs_records : (rs : List RecordTree) (ds es : List DeclTree) → records_in ((map StructDecl rs ++ ds) ++ es) ≡ rs ++ records_in (ds ++ es)
structs_records [] ds es = refl
structs_records (r ∷ rs) ds es = ap (λ l. r ∷ l) (structs_records rs ds es)

structs_functions : (rs : List RecordTree) (ds es : List DeclTree) → functions_in ((map StructDecl rs ++ ds) ++ es) ≡ functions_in (ds ++ es)
structs_functions [] ds es = refl
structs_functions (r ∷ rs) ds es = structs_functions rs ds es

functions_records : (fs : List RoutineTree) (es : List DeclTree) → records_in (map FunctionDecl fs ++ es) ≡ records_in es
functions_records [] es = refl
functions_records (f ∷ fs) es = functions_records fs es

functions_functions : (fs : List RoutineTree) (es : List DeclTree) → functions_in (map FunctionDecl fs ++ es) ≡ fs ++ functions_in es
functions_functions [] es = refl
functions_functions (f ∷ fs) es = ap (λ l. f ∷ l) (functions_functions fs es)

heads_records : (cs : List ClassTree) → records_in (map head_of cs) ≡ []
heads_records [] = refl
heads_records (c ∷ cs) = heads_records cs

heads_functions : (cs : List ClassTree) → functions_in (map head_of cs) ≡ []
heads_functions [] = refl
heads_functions (c ∷ cs) = heads_functions cs

pub all_records : (r : RawTree) → records_in (all_decls r) ≡ r.records
all_records r =
    structs_records r.records (map FunctionDecl r.functions) (map head_of r.classes)
    ∙ ap (λ l. r.records ++ l) (functions_records r.functions (map head_of r.classes) ∙ heads_records r.classes) ∙ append-nil r.records

pub all_functions : (r : RawTree) → functions_in (all_decls r) ≡ r.functions
all_functions r =
    structs_functions r.records (map FunctionDecl r.functions) (map head_of r.classes) ∙ functions_functions r.functions (map head_of r.classes)
    ∙ ap (λ l. r.functions ++ l) (heads_functions r.classes) ∙ append-nil r.functions

pub scope_same : (r : RawTree) (vars : List ParamTree) → scope_in (all_decls r) vars ≡ scope_over r.records r.functions (heads r) vars
scope_same r vars = ap₂ (λ rs fs. scope_over rs fs (heads r) vars) (all_records r) (all_functions r)

-- one more declaration with a new name
apart_more : (x : List ℕ) (ds : List DeclTree) (d : DeclTree) → Apart x ds → bytes_eq x (row_of d).0 ≡ false → Apart x (ds ++ d ∷ [])
apart_more x [] d a e = (e, tt)
apart_more x (y ∷ ds) d a e = (a.0, apart_more x ds d a.1 e)

distinct_more : (ds : List DeclTree) (d : DeclTree) → Distinct ds → is_there (named (map row_of ds) (row_of d).0) ≡ false → Distinct (ds ++ d ∷ [])
distinct_more [] d k e = (tt, tt)
distinct_more (y ∷ ds) d k e = by_test (bytes_eq (row_of d).0 (row_of y).0) refl e (distinct_more ds d k.1)
  where
    by_test : (b : Bool) → bytes_eq (row_of d).0 (row_of y).0 ≡ b → is_there (if b then Some (row_of y).1 else named (map row_of ds) (row_of d).0) ≡ false
        → (is_there (named (map row_of ds) (row_of d).0) ≡ false → Distinct (ds ++ d ∷ [])) → Apart (row_of y).0 (ds ++ d ∷ []) × Distinct (ds ++ d ∷ [])
    by_test true q e f = absurd (true≢false e)
    by_test false q e f = (apart_more (row_of y).0 ds d k.0 (bytes_sym (row_of y).0 (row_of d).0 ∙ q), f e)

behind_packet : (ds : List DeclTree) (x : List ℕ) → is_there (known ds x) ≡ false → is_there (named (map row_of ds) x) ≡ false
behind_packet ds x e = by_test (is_packet x) e
  where
    by_test : (b : Bool) → is_there (if b then Some (RecordOf packet_fields) else named (map row_of ds) x) ≡ false → is_there (named (map row_of ds) x) ≡ false
    by_test true e = absurd (true≢false e)
    by_test false e = e

-- a head that is kept
kept_first : (b : Bool) (o : Option ℕ) (i : ℕ) → (if b then o else Some i) ≡ None → (b ≡ true) × (o ≡ None)
kept_first true o i e = (refl, e)
kept_first false o i e = absurd (some_none e)

abbrev fresh_name : (List ℕ → Option Meaning) → ClassTree → Bool
fresh_name before c = not (is_predefined c.name || is_there (before c.name))

abbrev slots_known : (List ℕ → Option Meaning) → ClassTree → Bool
slots_known all c = list_all (λ (s : SlotTree). type_known all s.ty) c.slots

head_first : (before all : List ℕ → Option Meaning) (c : ClassTree) → head_kept before all c ≡ true → fresh_name before c && nat_le c.params (length c.slots) ≡ true
head_first before all c e =
    first_true (fresh_name before c && nat_le c.params (length c.slots)) (slots_known all c)
    (first_true (fresh_name before c && nat_le c.params (length c.slots) && slots_known all c) (list_all (type_known all) c.locals) e)

head_new : (before all : List ℕ → Option Meaning) (c : ClassTree) → head_kept before all c ≡ true → is_there (before c.name) ≡ false
head_new before all c e =
    neither_right (is_predefined c.name) (is_there (before c.name))
    (not_true (is_predefined c.name || is_there (before c.name)) (first_true (fresh_name before c) (nat_le c.params (length c.slots)) (head_first before all c e)))

head_params : (before all : List ℕ → Option Meaning) (c : ClassTree) → head_kept before all c ≡ true → c.params ≤ length c.slots
head_params before all c e =
    let b = second_true (fresh_name before c) (nat_le c.params (length c.slots)) (head_first before all c e) in
    let f : c.params ≤ length c.slots = grind (arith, b) in f

module _ (all : List ℕ → Option Meaning) where
  distinct_heads : (ds : List DeclTree) (i : ℕ) (cs : List ClassTree) → first_head all ds i cs ≡ None → Distinct ds → Distinct (ds ++ map head_of cs)
  distinct_heads ds i [] e d = subst Distinct (sym (append-nil ds)) d
  distinct_heads ds i (c ∷ cs) e d =
      let k = kept_first (head_kept (known ds) all c) (first_head all (ds ++ head_of c ∷ []) (suc i) cs) i e in
      subst Distinct (append_snoc ds (head_of c) (map head_of cs))
      (distinct_heads (ds ++ head_of c ∷ []) (suc i) cs k.1 (distinct_more ds (head_of c) d (behind_packet ds c.name (head_new (known ds) all c k.0))))

  params_at : (ds : List DeclTree) (i : ℕ) (cs : List ClassTree) → first_head all ds i cs ≡ None → (k : ℕ) (c : ClassTree) → slice_get cs k ≡ Some c → c.params ≤ length c.slots
  params_at ds i [] e k c at = absurd (none_some at)
  params_at ds i (d ∷ cs) e zero c at =
      let k = kept_first (head_kept (known ds) all d) (first_head all (ds ++ head_of d ∷ []) (suc i) cs) i e in
      subst (λ (c : ClassTree). c.params ≤ length c.slots) (some_same d c at) (head_params (known ds) all d k.0)
  params_at ds i (d ∷ cs) e (suc n) c at = params_at (ds ++ head_of d ∷ []) (suc i) cs (kept_first (head_kept (known ds) all d) (first_head all (ds ++ head_of d ∷ []) (suc i) cs) i e).1 n c at

-- the name of a class is that of nothing before the classes
less_there : (rows more : List (List ℕ × Meaning)) (x : List ℕ) → is_there (named (rows ++ more) x) ≡ false → is_there (named rows x) ≡ false
less_there [] more x e = refl
less_there (r ∷ rows) more x e = by_test (bytes_eq x r.0) e (less_there rows more x)
  where
    by_test : (b : Bool) → is_there (if b then Some r.1 else named (rows ++ more) x) ≡ false → (is_there (named (rows ++ more) x) ≡ false → is_there (named rows x) ≡ false)
        → is_there (if b then Some r.1 else named rows x) ≡ false
    by_test true e f = e
    by_test false e f = f e

pub named_behind : (rows more : List (List ℕ × Meaning)) (x : List ℕ) → is_there (named rows x) ≡ false → named (rows ++ more) x ≡ named more x
named_behind [] more x e = refl
named_behind (r ∷ rows) more x e = by_test (bytes_eq x r.0) e (named_behind rows more x)
  where
    by_test : (b : Bool) → is_there (if b then Some r.1 else named rows x) ≡ false → (is_there (named rows x) ≡ false → named (rows ++ more) x ≡ named more x)
        → (if b then Some r.1 else named (rows ++ more) x) ≡ named more x
    by_test true e f = absurd (true≢false e)
    by_test false e f = f e

rows_more : (ds es : List DeclTree) → packet_row ∷ map row_of (ds ++ es) ≡ (packet_row ∷ map row_of ds) ++ map row_of es
rows_more ds es = ap (λ l. packet_row ∷ l) (go ds)
  where
    go : (ds : List DeclTree) → map row_of (ds ++ es) ≡ map row_of ds ++ map row_of es
    go [] = refl
    go (d ∷ ds) = ap (λ l. row_of d ∷ l) (go ds)

pub known_behind : (ds es : List DeclTree) (x : List ℕ) → is_there (known ds x) ≡ false → known (ds ++ es) x ≡ named (map row_of es) x
known_behind ds es x e = ap (λ l. named l x) (rows_more ds es) ∙ named_behind (packet_row ∷ map row_of ds) (map row_of es) x e

pub class_new : (all : List ℕ → Option Meaning) (ds : List DeclTree) (i : ℕ) (cs : List ClassTree) (x : List ℕ) (k : ℕ) → first_head all ds i cs ≡ None
    → position (bytes_eq x) (map class_name cs) ≡ Some k → is_there (known ds x) ≡ false
class_new all ds i [] x k e p = absurd (none_some p)
class_new all ds i (c ∷ cs) x k e p = by_test (bytes_eq x c.name) refl (sym (position_step (bytes_eq x) c.name (map class_name cs)) ∙ p)
    (λ n h q. class_new all (ds ++ head_of c ∷ []) (suc i) cs x n h q)
  where
    more : (o : Option ℕ) → option_map suc o ≡ Some k → (n : ℕ) × (o ≡ Some n)
    more None h = absurd (none_some h)
    more (Some n) h = (n, refl)

    by_test : (b : Bool) → bytes_eq x c.name ≡ b → (if b then Some 0 else option_map suc (position (bytes_eq x) (map class_name cs))) ≡ Some k
        → ((n : ℕ) → first_head all (ds ++ head_of c ∷ []) (suc i) cs ≡ None → position (bytes_eq x) (map class_name cs) ≡ Some n → is_there (known (ds ++ head_of c ∷ []) x) ≡ false)
        → is_there (known ds x) ≡ false
    by_test true q p f =
        let h = kept_first (head_kept (known ds) all c) (first_head all (ds ++ head_of c ∷ []) (suc i) cs) i e in
        subst (λ y. is_there (known ds y) ≡ false) (sym (bytes_same x c.name q)) (head_new (known ds) all c h.0)
    by_test false q p f =
        let h = kept_first (head_kept (known ds) all c) (first_head all (ds ++ head_of c ∷ []) (suc i) cs) i e in
        let m = more (position (bytes_eq x) (map class_name cs)) p in
        less_there (packet_row ∷ map row_of ds) (row_of (head_of c) ∷ []) x
        (subst (λ l. is_there (named l x) ≡ false) (rows_more ds (head_of c ∷ [])) (f m.0 h.1 m.1))

-- what a name of a class means
pub heads_mean : (cs : List ClassTree) (x : List ℕ) (k : ℕ) → position (bytes_eq x) (map class_name cs) ≡ Some k
    → (ts : List TypeTree) × (t : TypeTree) × (named (map row_of (map head_of cs)) x ≡ Some (ActorOf ts t))
heads_mean [] x k p = absurd (none_some p)
heads_mean (c ∷ cs) x k p = by_test (bytes_eq x c.name) (sym (position_step (bytes_eq x) c.name (map class_name cs)) ∙ p) (λ n q. heads_mean cs x n q)
  where
    more : (o : Option ℕ) → option_map suc o ≡ Some k → (n : ℕ) × (o ≡ Some n)
    more None h = absurd (none_some h)
    more (Some n) h = (n, refl)

    by_test : (b : Bool) → (if b then Some 0 else option_map suc (position (bytes_eq x) (map class_name cs))) ≡ Some k
        → ((n : ℕ) → position (bytes_eq x) (map class_name cs) ≡ Some n → (ts : List TypeTree) × (t : TypeTree) × (named (map row_of (map head_of cs)) x ≡ Some (ActorOf ts t)))
        → (ts : List TypeTree) × (t : TypeTree) × ((if b then Some (row_of (head_of c)).1 else named (map row_of (map head_of cs)) x) ≡ Some (ActorOf ts t))
    by_test true p f = (param_types (map slot_param (take c.params c.slots)), c.returns, refl)
    by_test false p f = let m = more (position (bytes_eq x) (map class_name cs)) p in f m.0 m.1

-- and the class that a name of an actor means
pub record IsClass (cs : List ClassTree) (x : List ℕ) (ts : List TypeTree) (t : TypeTree) : Type 0 where
  pub place : ℕ
  pub class : ClassTree
  pub found : position (bytes_eq x) (map class_name cs) ≡ Some place
  pub is : slice_get cs place ≡ Some class
  pub takes : first_types class.params class.slots ≡ ts
  pub gives : class.returns ≡ t

taken_types : (n : ℕ) (ss : List SlotTree) → first_types n ss ≡ param_types (map slot_param (take n ss))
taken_types zero [] = refl
taken_types (suc n) [] = refl
taken_types zero (s ∷ ss) = refl
taken_types (suc n) (s ∷ ss) = ap (λ l. s.ty ∷ l) (taken_types n ss)

actor_types : (ts us : List TypeTree) (t u : TypeTree) → Some (ActorOf ts t) ≡ Some (ActorOf us u) → (ts ≡ us) × (t ≡ u)
actor_types ts us t u e = (cc, cc)

class_in : (cs : List ClassTree) (x : List ℕ) (ts : List TypeTree) (t : TypeTree) → named (map row_of (map head_of cs)) x ≡ Some (ActorOf ts t) → IsClass cs x ts t
class_in [] x ts t e = absurd (none_some e)
class_in (c ∷ cs) x ts t e = by_test (bytes_eq x c.name) refl e (class_in cs x ts t)
  where
    by_test : (b : Bool) → bytes_eq x c.name ≡ b → (if b then Some (row_of (head_of c)).1 else named (map row_of (map head_of cs)) x) ≡ Some (ActorOf ts t)
        → (named (map row_of (map head_of cs)) x ≡ Some (ActorOf ts t) → IsClass cs x ts t) → IsClass (c ∷ cs) x ts t
    by_test true q e f =
        let h = actor_types (param_types (map slot_param (take c.params c.slots))) ts c.returns t e in
        record {
          place = 0;
          class = c;
          found = position_step (bytes_eq x) c.name (map class_name cs) ∙ ap (λ b. if b then Some 0 else option_map suc (position (bytes_eq x) (map class_name cs))) q;
          is = refl;
          takes = taken_types c.params c.slots ∙ h.0;
          gives = h.1;
        }
    by_test false q e f =
        let k = f e in
        record {
          place = suc k.place;
          class = k.class;
          found = position_step (bytes_eq x) c.name (map class_name cs) ∙ ap (λ b. if b then Some 0 else option_map suc (position (bytes_eq x) (map class_name cs))) q ∙ ap (option_map suc) k.found;
          is = k.is;
          takes = k.takes;
          gives = k.gives;
        }

-- the head of a class as an actor
abbrev head_routine : ClassTree → RoutineTree
head_routine c = record {
  at = first_place;
  returns = c.returns;
  name = ident c.name;
  params = map slot_param (take c.params c.slots);
  body = End;
  close = first_place;
}

-- the class that is found among the actors by its name
routine_class : (cs : List ClassTree) (x : List ℕ) (a : RoutineTree) → routine_named (actors_in (map head_of cs)) x ≡ Some a → IsClass cs x (param_types a.params) a.returns
routine_class [] x a e = absurd (none_some e)
routine_class (c ∷ cs) x a e = by_test (bytes_eq c.name x) refl e (routine_class cs x a)
  where
    by_test : (b : Bool) → bytes_eq c.name x ≡ b → cond b (Some (head_routine c)) (routine_named (actors_in (map head_of cs)) x) ≡ Some a
        → (routine_named (actors_in (map head_of cs)) x ≡ Some a → IsClass cs x (param_types a.params) a.returns) → IsClass (c ∷ cs) x (param_types a.params) a.returns
    by_test true q e f =
        let same : head_routine c ≡ a = some_same (head_routine c) a e in
        record {
          place = 0;
          class = c;
          found = position_step (bytes_eq x) c.name (map class_name cs)
              ∙ ap (λ b. if b then Some 0 else option_map suc (position (bytes_eq x) (map class_name cs))) (bytes_sym x c.name ∙ q);
          is = refl;
          takes = taken_types c.params c.slots ∙ ap (λ (z : RoutineTree). param_types z.params) same;
          gives = ap (λ (z : RoutineTree). z.returns) same;
        }
    by_test false q e f =
        let k = f e in
        record {
          place = suc k.place;
          class = k.class;
          found = position_step (bytes_eq x) c.name (map class_name cs)
              ∙ ap (λ b. if b then Some 0 else option_map suc (position (bytes_eq x) (map class_name cs))) (bytes_sym x c.name ∙ q) ∙ ap (option_map suc) k.found;
          is = k.is;
          takes = k.takes;
          gives = k.gives;
        }

actors_skip : (rs : List RecordTree) (fs : List RoutineTree) (ds : List DeclTree) → actors_in ((map StructDecl rs ++ map FunctionDecl fs) ++ ds) ≡ actors_in ds
actors_skip [] [] ds = refl
actors_skip [] (f ∷ fs) ds = actors_skip [] fs ds
actors_skip (r ∷ rs) fs ds = actors_skip rs fs ds

pub actor_class : (r : RawTree) (x : List ℕ) (a : RoutineTree) → routine_named (actors_in (all_decls r)) x ≡ Some a → IsClass r.classes x (param_types a.params) a.returns
actor_class r x a e = routine_class r.classes x a (ap (λ fs. routine_named fs x) (sym (actors_skip r.records r.functions (map head_of r.classes))) ∙ e)

-- records and functions are no actors
structs_skip : (rs : List RecordTree) (ds es : List DeclTree) (x : List ℕ) (ts : List TypeTree) (t : TypeTree) → named (map row_of ((map StructDecl rs ++ ds) ++ es)) x ≡ Some (ActorOf ts t)
    → named (map row_of (ds ++ es)) x ≡ Some (ActorOf ts t)
structs_skip [] ds es x ts t e = e
structs_skip (r ∷ rs) ds es x ts t e = by_test (bytes_eq x r.name.name) e (structs_skip rs ds es x ts t)
  where
    by_test : (b : Bool) → (if b then Some (row_of (StructDecl r)).1 else named (map row_of ((map StructDecl rs ++ ds) ++ es)) x) ≡ Some (ActorOf ts t)
        → (named (map row_of ((map StructDecl rs ++ ds) ++ es)) x ≡ Some (ActorOf ts t) → named (map row_of (ds ++ es)) x ≡ Some (ActorOf ts t)) → named (map row_of (ds ++ es)) x ≡ Some (ActorOf ts t)
    by_test true e f = absurd cc
    by_test false e f = f e

functions_skip : (fs : List RoutineTree) (es : List DeclTree) (x : List ℕ) (ts : List TypeTree) (t : TypeTree) → named (map row_of (map FunctionDecl fs ++ es)) x ≡ Some (ActorOf ts t)
    → named (map row_of es) x ≡ Some (ActorOf ts t)
functions_skip [] es x ts t e = e
functions_skip (f ∷ fs) es x ts t e = by_test (bytes_eq x f.name.name) e (functions_skip fs es x ts t)
  where
    by_test : (b : Bool) → (if b then Some (row_of (FunctionDecl f)).1 else named (map row_of (map FunctionDecl fs ++ es)) x) ≡ Some (ActorOf ts t)
        → (named (map row_of (map FunctionDecl fs ++ es)) x ≡ Some (ActorOf ts t) → named (map row_of es) x ≡ Some (ActorOf ts t)) → named (map row_of es) x ≡ Some (ActorOf ts t)
    by_test true e g = absurd cc
    by_test false e g = g e

pub class_of : (r : RawTree) (x : List ℕ) (ts : List TypeTree) (t : TypeTree) → known (all_decls r) x ≡ Some (ActorOf ts t) → IsClass r.classes x ts t
class_of r x ts t e = by_test (is_packet x) e
  where
    by_test : (b : Bool) → (if b then Some (RecordOf packet_fields) else named (map row_of (all_decls r)) x) ≡ Some (ActorOf ts t) → IsClass r.classes x ts t
    by_test true e = absurd cc
    by_test false e =
        class_in r.classes x ts t (functions_skip r.functions (map head_of r.classes) x ts t (structs_skip r.records (map FunctionDecl r.functions) (map head_of r.classes) x ts t e))

module _ (r : RawTree) (valid : IsValid r) where
  pub all_distinct : Distinct (all_decls r)
  all_distinct =
      distinct_heads (known (all_decls r)) (plain_decls r) 0 r.classes valid.heads
      (distinct (setting_of (all_decls r)) [] (plain_decls r) (neither_first (decls_refusal (setting_of (all_decls r)) [] (plain_decls r)) _ (none_is _ valid.declarations)))

  pub kept_params : (k : ℕ) (c : ClassTree) → slice_get r.classes k ≡ Some c → c.params ≤ length c.slots
  kept_params = params_at (known (all_decls r)) (plain_decls r) 0 r.classes valid.heads

  -- a class's name means its head
  pub class_means : (x : List ℕ) (k : ℕ) → position (bytes_eq x) (map class_name r.classes) ≡ Some k → (ts : List TypeTree) × (t : TypeTree) × (known (all_decls r) x ≡ Some (ActorOf ts t))
  class_means x k p =
      let m = heads_mean r.classes x k p in
      (m.0, m.1, known_behind (plain_decls r) (map head_of r.classes) x (class_new (known (all_decls r)) (plain_decls r) 0 r.classes x k valid.heads p) ∙ m.2)
