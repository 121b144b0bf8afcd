-- A value of a type refers to no cell of futures of that type: records are declared before their use.
use Rattle.std.proofs.Common.{◌≡◌, ◌<◌, ℕ, suc, ◌+◌, Bool, true, false, not, cond, List, [], ◌∷◌, ◌++◌, map, length, refl, sym, ap, subst, ◌∙◌, arith, if◌then◌else◌, ◌⊎◌, inl, inr}
use Rattle.std.specs.Str.{bytes_eq}
use Rattle.std.specs.Option.{option_map}
use Rattle.std.proofs.lemmas.Bool.{false≢true, true≢false}
use Rattle.std.specs.declared.option.Option.{Option}
use Rattle.std.specs.declared.option.Option.TheVariants.{None, Some}
use Rattle.flow_tree.specs.Tree.{TypeTree, NamedType, FutureType, FutureStreamType, PromiseType, PromiseStreamType, VectorType}
use Rattle.flow_tree.specs.Decls.{ParamTree, RecordTree, DeclTree, StructDecl, FunctionDecl}
use Rattle.flow_ast.specs.TypingNames.{named}
use Rattle.flow_ast.specs.Typing.{Signature, is_there, is_packet, packet_fields, param_types, record_named, record_call}
use Rattle.flow_value.specs.declared.value.Kind.{Kind}
use Rattle.flow_value.specs.declared.value.Kind.TheVariants as kind
use Rattle.flow_value.specs.Values.{ValueTree, CompositeValue, RefValue, Whole, RecordWhole, ListWhole}
use Rattle.flow_value.proofs.References.{parts_map}
use Rattle.flow_eval.specs.Typed.{IsMadeOf, reference_type, future_side, AllAre}
use Rattle.flow_eval.proofs.TypedReferences.{AllTypes, LeadsBy, typed_parts}
use Rattle.flow_rules.specs.declared.rule.SemanticRule.TheVariants.{UnknownName, TakenName}
use Rattle.flow_rules.specs.Least.{lesser, unless}
use Rattle.flow_rules.specs.Known.{Meaning, RecordOf, row_of, known, is_record, type_known}
use Rattle.flow_rules.specs.Judged.{Setting}
use Rattle.flow_rules.specs.Rules.{name_fault, with_name, fields_fault, record_fault, decl_refusal, decls_refusal}
use Rattle.flow_class.specs.Classes.{RawTree}
use Rattle.flow_valid.specs.Heads.{plain_decls, all_decls}
use Rattle.flow_valid.specs.Validity.{IsValid}
use Rattle.flow_rules.specs.Rules.{setting_of}
use Rattle.flow_rules.proofs.Lesser.{no_first, no_second, holds, no_item}
use Rattle.flow_typing_laws.proofs.Typing.Names.{bytes_sym, none_some}
use Rattle.flow_typing_laws.proofs.Typing.Agreement.{neither_first, neither_second}
use Rattle.flow_meaning.specs.Cells.{Ref}
use Rattle.flow_progress.specs.Fitting.{CellTypes, typed_by, Fits}
use Rattle.flow_progress.proofs.Tops.{none_is}
use Rattle.flow_progress.proofs.Unseen.{Off}
use Rattle.flow_progress.proofs.Retyped.{Seen, Sees}

-- the place of a record by its name, counted from n
abbrev place : ℕ → List RecordTree → List ℕ → ℕ
place n [] x = n
place n (r ∷ rs) x = if bytes_eq r.name.name x then n else place (suc n) rs x

-- how late the records in a type are declared
abbrev level : List RecordTree → TypeTree → ℕ
level rs (NamedType x) = if is_packet x then 1 else place 2 rs x
level rs (FutureType t) = level rs t
level rs (FutureStreamType t) = level rs t
level rs (PromiseType t) = level rs t
level rs (PromiseStreamType t) = level rs t
level rs (VectorType t) = level rs t
level rs _ = 0

abbrev Below : List RecordTree → ℕ → TypeTree → Type 0
Below rs n t = level rs t < n

abbrev AllBelow : List RecordTree → ℕ → List TypeTree → Type 0
AllBelow rs n = AllTypes (Below rs n)

-- what is known among some records stands among them
place_known : (done more : List RecordTree) (n : ℕ) (x : List ℕ) → is_there (named (map row_of (map StructDecl done)) x) ≡ true → place n (done ++ more) x < n + length done
place_known [] more n x h = absurd (false≢true h)
place_known (r ∷ rs) more n x h = by_test (bytes_eq x r.name.name) (bytes_eq r.name.name x) (bytes_sym x r.name.name) h (place_known rs more (suc n) x)
  where
    by_test : (b d : Bool) → b ≡ d → is_there (if b then Some (row_of (StructDecl r)).1 else named (map row_of (map StructDecl rs)) x) ≡ true
        → (is_there (named (map row_of (map StructDecl rs)) x) ≡ true → place (suc n) (rs ++ more) x < suc n + length rs)
        → (if d then n else place (suc n) (rs ++ more) x) < n + suc (length rs)
    by_test true true e h f = omega arith
    by_test false false e h f = let g = f h in omega (arith, g)
    by_test true false e h f = absurd (true≢false e)
    by_test false true e h f = absurd (false≢true e)

record_there : (o : Option Meaning) → is_record o ≡ true → is_there o ≡ true
record_there None h = absurd (false≢true h)
record_there (Some m) h = refl

level_known : (done more : List RecordTree) (t : TypeTree) → type_known (known (map StructDecl done)) t ≡ true → level (done ++ more) t < 2 + length done
level_known done more (NamedType x) h = by_test (is_packet x) h
  where
    by_test : (b : Bool) → is_record (if b then Some (RecordOf packet_fields) else named (map row_of (map StructDecl done)) x) ≡ true → (if b then 1 else place 2 (done ++ more) x) < 2 + length done
    by_test true h = omega arith
    by_test false h = place_known done more 2 x (record_there (named (map row_of (map StructDecl done)) x) h)
level_known done more (FutureType t) h = level_known done more t h
level_known done more (FutureStreamType t) h = level_known done more t h
level_known done more (PromiseType t) h = level_known done more t h
level_known done more (PromiseStreamType t) h = level_known done more t h
level_known done more (VectorType t) h = level_known done more t h
level_known done more _ h = omega arith

fields_known : (done more : List RecordTree) (taken : List ℕ → Bool) (fs : List ParamTree) → fields_fault (known (map StructDecl done)) taken fs ≡ None
    → AllBelow (done ++ more) (2 + length done) (param_types fs)
fields_known done more taken [] h = tt
fields_known done more taken (f ∷ fs) h =
    let a = lesser (unless (type_known (known (map StructDecl done)) f.ty) UnknownName) (unless (not (taken f.name.name)) TakenName) in
    let b = no_first a (fields_fault (known (map StructDecl done)) (with_name f.name.name taken) fs) h in
    let k = holds (type_known (known (map StructDecl done)) f.ty) UnknownName
    (no_first (unless (type_known (known (map StructDecl done)) f.ty) UnknownName) (unless (not (taken f.name.name)) TakenName) b) in
    (level_known done more f.ty k, fields_known done more (with_name f.name.name taken) fs (no_second a (fields_fault (known (map StructDecl done)) (with_name f.name.name taken) fs) h))

snoc : {A : Type 0} (xs : List A) (y : A) (ys : List A) → (xs ++ y ∷ []) ++ ys ≡ xs ++ y ∷ ys
snoc [] y ys = refl
snoc (x ∷ xs) y ys = ap (λ l. x ∷ l) (snoc xs y ys)

map_snoc : (xs : List RecordTree) (y : RecordTree) → map StructDecl xs ++ StructDecl y ∷ [] ≡ map StructDecl (xs ++ y ∷ [])
map_snoc [] y = refl
map_snoc (x ∷ xs) y = ap (λ l. StructDecl x ∷ l) (map_snoc xs y)

length_snoc : (xs : List RecordTree) (y : RecordTree) → 2 + length (xs ++ y ∷ []) ≡ suc (2 + length xs)
length_snoc [] y = refl
length_snoc (x ∷ xs) y = let h = length_snoc xs y in omega (arith, h)

-- the fields of a record are declared before it
fields_before : (all : Bool → Setting) (done more : List RecordTree) (rest : List DeclTree) (x : List ℕ) (r : RecordTree) → decls_refusal all (map StructDecl done) (map StructDecl more ++ rest) ≡ None
    → record_named more x ≡ Some r
    → AllBelow (done ++ more) (place (2 + length done) more x) (param_types r.fields)
fields_before all done [] rest x r h e = absurd (none_some e)
fields_before all done (m ∷ more) rest x r h e =
    let i = decl_refusal all (known (map StructDecl done)) (StructDecl m) in
    let f = no_second (name_fault (known (map StructDecl done)) m.name.name) (fields_fault (known (map StructDecl done)) (λ x. false) m.fields)
    (no_item m.at (record_fault (known (map StructDecl done)) m) (neither_first i _ h)) in
    let next = subst (λ ds. decls_refusal all ds (map StructDecl more ++ rest) ≡ None) (map_snoc done m) (neither_second i _ h) in
    by_test (bytes_eq m.name.name x) e (fields_known done (m ∷ more) (λ x. false) m.fields f)
    (λ e. subst (λ l. AllBelow l (place (suc (2 + length done)) more x) (param_types r.fields)) (snoc done m more)
    (subst (λ n. AllBelow ((done ++ m ∷ []) ++ more) (place n more x) (param_types r.fields)) (length_snoc done m) (fields_before all (done ++ m ∷ []) more rest x r next e)))
  where
    same : Some m ≡ Some r → m ≡ r
    same q = cc

    by_test : (b : Bool) → cond b (Some m) (record_named more x) ≡ Some r → AllBelow (done ++ m ∷ more) (2 + length done) (param_types m.fields)
        → (record_named more x ≡ Some r → AllBelow (done ++ m ∷ more) (place (suc (2 + length done)) more x) (param_types r.fields))
        → AllBelow (done ++ m ∷ more) (if b then 2 + length done else place (suc (2 + length done)) more x) (param_types r.fields)
    by_test true e f g = subst (λ (r : RecordTree). AllBelow (done ++ m ∷ more) (2 + length done) (param_types r.fields)) (same e) f
    by_test false e f g = g e

assoc : {A : Type 0} (xs ys zs : List A) → (xs ++ ys) ++ zs ≡ xs ++ (ys ++ zs)
assoc [] ys zs = refl
assoc (x ∷ xs) ys zs = ap (λ l. x ∷ l) (assoc xs ys zs)

-- the depth of a type
abbrev depth : TypeTree → ℕ
depth (FutureType t) = suc (depth t)
depth (FutureStreamType t) = suc (depth t)
depth (PromiseType t) = suc (depth t)
depth (PromiseStreamType t) = suc (depth t)
depth (VectorType t) = suc (depth t)
depth _ = 0

no_loop : (kd : Kind) (u : TypeTree) → u ≡ reference_type kd u → ⊥
no_loop kind.Promise u e = let h = ap depth e in omega (arith, h)
no_loop kind.Future u e = let h = ap depth e in omega (arith, h)
no_loop kind.PromiseStream u e = let h = ap depth e in omega (arith, h)
no_loop kind.FutureStream u e = let h = ap depth e in omega (arith, h)

same_inner : (kd : Kind) (u w : TypeTree) → future_side kd u ≡ FutureType w → u ≡ w
same_inner kind.Promise u w e = cc
same_inner kind.Future u w e = cc
same_inner kind.PromiseStream u w e = absurd cc
same_inner kind.FutureStream u w e = absurd cc

inner_level : (rs : List RecordTree) (kd : Kind) (u : TypeTree) → level rs (reference_type kd u) ≡ level rs u
inner_level rs kind.Promise u = refl
inner_level rs kind.Future u = refl
inner_level rs kind.PromiseStream u = refl
inner_level rs kind.FutureStream u = refl

-- One type is less than another: its records are declared before, or it is less deep.
abbrev Less : List RecordTree → TypeTree → TypeTree → Type 0
Less rs u t = (level rs u < level rs t) ⊎ ((level rs u ≡ level rs t) × (depth u < depth t))

less_on : (rs : List RecordTree) (u s t : TypeTree) → Less rs u s → Less rs s t → Less rs u t
less_on rs u s t (inl a) (inl b) = inl (omega (arith, a, b))
less_on rs u s t (inl a) (inr b) = let e = b.0 in inl (omega (arith, a, e))
less_on rs u s t (inr a) (inl b) = let e = a.0 in inl (omega (arith, b, e))
less_on rs u s t (inr a) (inr b) = inr (a.0 ∙ b.0, omega (arith, a.1, b.1))

-- a reference to a cell of futures of a type has no less type
no_less : (rs : List RecordTree) (kd : Kind) (t : TypeTree) → Less rs (reference_type kd t) t → ⊥
no_less rs kind.Promise t (inl a) = omega (arith, a)
no_less rs kind.Future t (inl a) = omega (arith, a)
no_less rs kind.PromiseStream t (inl a) = omega (arith, a)
no_less rs kind.FutureStream t (inl a) = omega (arith, a)
no_less rs kind.Promise t (inr a) = let l = a.1 in omega (arith, l)
no_less rs kind.Future t (inr a) = let l = a.1 in omega (arith, l)
no_less rs kind.PromiseStream t (inr a) = let l = a.1 in omega (arith, l)
no_less rs kind.FutureStream t (inr a) = let l = a.1 in omega (arith, l)

all_of : (rs : List RecordTree) (u : TypeTree) (ts : List TypeTree) → AllAre u ts → AllTypes (λ z. Less rs z (VectorType u)) ts
all_of rs u [] h = tt
all_of rs u (t ∷ ts) h = (subst (λ z. Less rs z (VectorType u)) (sym h.0) (inr (refl, omega arith)), all_of rs u ts h.1)

below_less : (rs : List RecordTree) (t : TypeTree) (ts : List TypeTree) → AllBelow rs (level rs t) ts → AllTypes (λ u. Less rs u t) ts
below_less rs t [] h = tt
below_less rs t (u ∷ us) h = (inl h.0, below_less rs t us h.1)

all_less : (rs : List RecordTree) (s t : TypeTree) (ts : List TypeTree) → Less rs s t → AllTypes (λ u. Less rs u s) ts → AllTypes (λ u. Less rs u t) ts
all_less rs s t [] l h = tt
all_less rs s t (u ∷ us) l h = (less_on rs u s t h.0 l, all_less rs s t us l h.1)

module _ (r : RawTree) (valid : IsValid r) (types : CellTypes) where
  some_params : (s : Signature) (ts : List TypeTree) (t : TypeTree) → Some (record { params = ts; gives = t }) ≡ Some s → ts ≡ s.params
  some_params s ts t e = ap (λ (g : Signature). g.params) (same (record { params = ts; gives = t }) e)
    where
      same : (g : Signature) → Some g ≡ Some s → g ≡ s
      same g e = cc

  params_before : (x : List ℕ) (s : Signature) → record_call r.records x ≡ Some s → AllBelow r.records (level r.records (NamedType x)) s.params
  params_before x s e = by_test (is_packet x) e
    where
      rows : (o : Option RecordTree) → record_named r.records x ≡ o → option_map (λ (q : RecordTree). record { params = param_types q.fields; gives = NamedType x }) o ≡ Some s
          → AllBelow r.records (place 2 r.records x) s.params
      rows None q e = absurd (none_some e)
      rows (Some d) q e =
          subst (AllBelow r.records (place 2 r.records x)) (some_params s (param_types d.fields) (NamedType x) e)
          (fields_before (setting_of (all_decls r)) [] r.records (map FunctionDecl r.functions) x d
          (neither_first (decls_refusal (setting_of (all_decls r)) [] (plain_decls r)) _ (none_is _ valid.declarations)) q)

      by_test : (b : Bool) → (if b then Some (record { params = map (λ (f : List ℕ × TypeTree). f.1) packet_fields; gives = NamedType x }) else option_map
          (λ (q : RecordTree). record { params = param_types q.fields; gives = NamedType x }) (record_named r.records x)) ≡ Some s
          → AllBelow r.records (if b then 1 else place 2 r.records x) s.params
      by_test true e = subst (AllBelow r.records 1) (some_params s (map (λ (f : List ℕ × TypeTree). f.1) packet_fields) (NamedType x) e) (omega arith, (omega arith, (omega arith, tt)))
      by_test false e = rows (record_named r.records x) refl e

  some_type : (t u : TypeTree) → Some t ≡ Some u → t ≡ u
  some_type t u e = cc

  -- the types of which the values of a type are made are less
  parts_less : (w : Whole) (t : TypeTree) (ts : List TypeTree) → IsMadeOf r.records w t ts → AllTypes (λ u. Less r.records u t) ts
  parts_less (RecordWhole d) t ts h =
      below_less r.records t ts
      (subst (λ u. AllBelow r.records (level r.records u) ts) (sym h.named)
      (subst (AllBelow r.records (level r.records (NamedType h.name))) (sym h.fields) (params_before h.name h.call h.called)))
  parts_less ListWhole t ts h = subst (λ z. AllTypes (λ u. Less r.records u z) ts) (sym h.1) (all_of r.records h.0 ts h.2)

  -- a reference of a type less than another leads to no cell of its futures
  lower_ref : (t : TypeTree) (q : Ref) → LeadsBy (typed_by types) (λ u. Less r.records u t) q → types q.1 ≡ Some (FutureType t) → ⊥
  lower_ref t q h e =
      let same : h.0 ≡ t = same_inner q.0 h.0 t (some_type (future_side q.0 h.0) (FutureType t) (sym h.1 ∙ e)) in
      no_less r.records q.0 t (subst (λ u. Less r.records (reference_type q.0 u) t) same h.2)

  -- no value of a type refers to a cell of its futures
  pub apart : (k : ℕ) (v : ValueTree) (t : TypeTree) → types k ≡ Some (FutureType t) → Fits r types v t → Sees (Off k) v
  apart k (CompositeValue w vs) t e h =
      parts_map (LeadsBy (typed_by types) (λ u. Less r.records u t)) (Seen (Off k)) (λ q l j. lower_ref t q l (ap types j ∙ e)) vs
      (typed_parts r.records (typed_by types) (λ u. Less r.records u t) (λ x s ts m l. all_less r.records s t ts l (parts_less x s ts m)) vs h.0 h.2
      (parts_less w t h.0 h.1))
  apart k (RefValue kd j) t e h = λ q.
      let same : h.0 ≡ t = same_inner kd h.0 t (some_type (future_side kd h.0) (FutureType t) (sym h.2 ∙ ap types q ∙ e)) in
      no_loop kd h.0 (same ∙ h.1)
  apart k _ t e h = tt
