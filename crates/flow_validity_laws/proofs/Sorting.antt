-- A program's declarations, with the records first, then the functions, then the actors, mean the same.
use Rattle.std.proofs.Common.{◌≡◌, ℕ, suc, ◌+◌, Bool, true, false, List, [], ◌∷◌, ◌++◌, length, map, take, if◌then◌else◌, refl, ap, ap₂, sym, ◌∙◌, arith, length-append, append_assoc}
use Rattle.std.specs.Str.{bytes_eq}
use Rattle.std.proofs.lemmas.List.{map-append}
use Rattle.std.proofs.Math.Path.{fun_ext}
use Rattle.std.specs.declared.option.Option.TheVariants.{None, Some}
use Rattle.flow_tree.specs.Decls.{ParamTree, SlotTree, RoutineTree, DeclTree, StructDecl, FunctionDecl, ActorDecl, ProgramTree}
use Rattle.flow_ast.specs.Slots.{param_slot, body_slots}
use Rattle.flow_ast.specs.TypingNames.{named}
use Rattle.flow_ast.specs.Typing.{param_types}
use Rattle.flow_class.specs.Classes.{RawTree}
use Rattle.flow_rules.specs.Known.{Meaning, ActorOf, row_of, packet_row, known, holds}
use Rattle.flow_rules.specs.Rules.{setting_of}
use Rattle.flow_meaning.specs.Evaluating.{Names}
use Rattle.flow_meaning.specs.Source.{records_in, functions_in, actors_in, names_of}
use Rattle.flow_lower.specs.Compiled.{class_in, compiled}
use Rattle.flow_valid.specs.Heads.{slot_param, head_of, plain_decls, all_decls}
use Rattle.flow_typing_laws.proofs.Typing.Names.{bytes_same}
use Rattle.flow_typing_laws.proofs.Typing.Agreement.{Apart, Distinct}

-- the declarations of each kind
abbrev pub structs : List DeclTree → List DeclTree
structs ds = map StructDecl (records_in ds)

abbrev pub functions : List DeclTree → List DeclTree
functions ds = map FunctionDecl (functions_in ds)

abbrev pub actors : List DeclTree → List DeclTree
actors ds = map ActorDecl (actors_in ds)

pub records_append : (xs ys : List DeclTree) → records_in (xs ++ ys) ≡ records_in xs ++ records_in ys
records_append [] ys = refl
records_append (StructDecl r ∷ xs) ys = ap (λ l. r ∷ l) (records_append xs ys)
records_append (FunctionDecl f ∷ xs) ys = records_append xs ys
records_append (ActorDecl f ∷ xs) ys = records_append xs ys

pub functions_append : (xs ys : List DeclTree) → functions_in (xs ++ ys) ≡ functions_in xs ++ functions_in ys
functions_append [] ys = refl
functions_append (StructDecl r ∷ xs) ys = functions_append xs ys
functions_append (FunctionDecl f ∷ xs) ys = ap (λ l. f ∷ l) (functions_append xs ys)
functions_append (ActorDecl f ∷ xs) ys = functions_append xs ys

pub structs_append : (xs ys : List DeclTree) → structs (xs ++ ys) ≡ structs xs ++ structs ys
structs_append xs ys = ap (map StructDecl) (records_append xs ys) ∙ map-append StructDecl (records_in xs) (records_in ys)

pub plain_append : (xs ys : List DeclTree) → functions (xs ++ ys) ≡ functions xs ++ functions ys
plain_append xs ys = ap (map FunctionDecl) (functions_append xs ys) ∙ map-append FunctionDecl (functions_in xs) (functions_in ys)

-- no row has this name
abbrev pub RowsApart : {A : Type 0} → List ℕ → List (List ℕ × A) → Type 0
RowsApart x [] = Unit {0}
RowsApart x (r ∷ rs) = (bytes_eq x r.0 ≡ false) × RowsApart x rs

pub none_of : {A : Type 0} (rows : List (List ℕ × A)) (x : List ℕ) → RowsApart x rows → named rows x ≡ None
none_of [] x a = refl
none_of (r ∷ rows) x a = ap (λ b. if b then Some r.1 else named rows x) a.0 ∙ none_of rows x a.1

pub apart_both : {A : Type 0} (x : List ℕ) (rs ss : List (List ℕ × A)) → RowsApart x rs → RowsApart x ss → RowsApart x (rs ++ ss)
apart_both x [] ss a b = b
apart_both x (r ∷ rs) ss a b = (a.0, apart_both x rs ss a.1 b)

true_false : true ≡ false → ⊥
true_false h = cc

-- a row among rows of other names may stand first
moved_front : {A : Type 0} (rs ss : List (List ℕ × A)) (r : List ℕ × A) (x : List ℕ) → RowsApart r.0 rs → named (rs ++ r ∷ ss) x ≡ (if bytes_eq x r.0 then Some r.1 else named (rs ++ ss) x)
moved_front [] ss r x a = refl
moved_front (q ∷ rs) ss r x a = by_name (bytes_eq x q.0) (bytes_eq x r.0) refl refl (moved_front rs ss r x a.1)
  where
    by_name : (b d : Bool) → bytes_eq x q.0 ≡ b → bytes_eq x r.0 ≡ d → named (rs ++ r ∷ ss) x ≡ (if bytes_eq x r.0 then Some r.1 else named (rs ++ ss) x)
        → (if b then Some q.1 else named (rs ++ r ∷ ss) x) ≡ (if d then Some r.1 else if b then Some q.1 else named (rs ++ ss) x)
    by_name true true e f g = absurd (true_false (sym (ap (λ z. bytes_eq z q.0) (sym (bytes_same x r.0 f)) ∙ e) ∙ a.0))
    by_name true false e f g = refl
    by_name false d e f g = g ∙ ap (λ z. if z then Some r.1 else named (rs ++ ss) x) f

-- the rows of declarations of one kind, and their names
abbrev pub rows : List DeclTree → List (List ℕ × Meaning)
rows ds = map row_of ds

pub structs_apart : (x : List ℕ) (ds : List DeclTree) → Apart x ds → RowsApart x (rows (structs ds))
structs_apart x [] a = tt
structs_apart x (StructDecl r ∷ ds) a = (a.0, structs_apart x ds a.1)
structs_apart x (FunctionDecl f ∷ ds) a = structs_apart x ds a.1
structs_apart x (ActorDecl f ∷ ds) a = structs_apart x ds a.1

pub functions_apart : (x : List ℕ) (ds : List DeclTree) → Apart x ds → RowsApart x (rows (functions ds))
functions_apart x [] a = tt
functions_apart x (StructDecl r ∷ ds) a = functions_apart x ds a.1
functions_apart x (FunctionDecl f ∷ ds) a = (a.0, functions_apart x ds a.1)
functions_apart x (ActorDecl f ∷ ds) a = functions_apart x ds a.1

pub actors_apart : (x : List ℕ) (ds : List DeclTree) → Apart x ds → RowsApart x (rows (actors ds))
actors_apart x [] a = tt
actors_apart x (StructDecl r ∷ ds) a = actors_apart x ds a.1
actors_apart x (FunctionDecl f ∷ ds) a = actors_apart x ds a.1
actors_apart x (ActorDecl f ∷ ds) a = (a.0, actors_apart x ds a.1)

abbrev sorted : List DeclTree → List (List ℕ × Meaning)
sorted ds = rows (structs ds) ++ (rows (functions ds) ++ rows (actors ds))

sorted_same : (ds : List DeclTree) (x : List ℕ) → Distinct ds → named (sorted ds) x ≡ named (rows ds) x
sorted_same [] x d = refl
sorted_same (StructDecl r ∷ ds) x d = ap (λ o. if bytes_eq x r.name.name then Some (row_of (StructDecl r)).1 else o) (sorted_same ds x d.1)
sorted_same (FunctionDecl f ∷ ds) x d =
    moved_front (rows (structs ds)) (rows (functions ds) ++ rows (actors ds)) (row_of (FunctionDecl f)) x (structs_apart f.name.name ds d.0)
    ∙ ap (λ o. if bytes_eq x f.name.name then Some (row_of (FunctionDecl f)).1 else o) (sorted_same ds x d.1)
sorted_same (ActorDecl f ∷ ds) x d =
    let s = rows (structs ds) in
    let g = rows (functions ds) in
    let r = row_of (ActorDecl f) in
    ap (λ l. named l x) (sym (append_assoc s g (r ∷ rows (actors ds))))
    ∙ moved_front (s ++ g) (rows (actors ds)) r x (apart_both f.name.name s g (structs_apart f.name.name ds d.0) (functions_apart f.name.name ds d.0))
    ∙ ap (λ l. if bytes_eq x f.name.name then Some r.1 else named l x) (append_assoc s g (rows (actors ds))) ∙ ap (λ o. if bytes_eq x f.name.name then Some r.1 else o) (sorted_same ds x d.1)

-- the heads of the classes are those of the actors
first_slots : (ps : List ParamTree) (ss : List SlotTree) → param_types (map slot_param (take (length ps) (map param_slot ps ++ ss))) ≡ param_types ps
first_slots [] ss = refl
first_slots (p ∷ ps) ss = ap (λ l. p.ty ∷ l) (first_slots ps ss)

pub head_row : (ns : Names) (a : RoutineTree) → row_of (head_of (class_in ns a)) ≡ row_of (ActorDecl a)
head_row ns a = ap (λ ts. (a.name.name, ActorOf ts a.returns)) (first_slots a.params (body_slots a.body))

pub head_rows : (ns : Names) (as' : List RoutineTree) → rows (map head_of (map (class_in ns) as')) ≡ rows (map ActorDecl as')
head_rows ns [] = refl
head_rows ns (a ∷ as') = ap₂ (λ r rs. r ∷ rs) (head_row ns a) (head_rows ns as')

module _ (p : ProgramTree) (apart : Distinct p.decls) where
  abbrev raw : RawTree
  raw = compiled p

  all_rows : rows (all_decls raw) ≡ sorted p.decls
  all_rows =
      map-append row_of (plain_decls raw) (map head_of raw.classes)
      ∙ ap₂ (λ l m. l ++ m) (map-append row_of (structs p.decls) (functions p.decls)) (head_rows (names_of p) (actors_in p.decls))
      ∙ append_assoc (rows (structs p.decls)) (rows (functions p.decls)) (rows (actors p.decls))

  known_at : (x : List ℕ) → known (all_decls raw) x ≡ known p.decls x
  known_at x = ap (λ o. if bytes_eq x packet_row.0 then Some packet_row.1 else o) (ap (λ l. named l x) all_rows ∙ sorted_same p.decls x apart)

  pub known_same : known (all_decls raw) ≡ known p.decls
  known_same = fun_ext known_at

  -- as many declarations
  kinds_count : (ds : List DeclTree) → length (structs ds) + (length (functions ds) + length (actors ds)) ≡ length ds
  kinds_count [] = refl
  kinds_count (StructDecl r ∷ ds) = omega (arith, kinds_count ds)
  kinds_count (FunctionDecl f ∷ ds) = omega (arith, kinds_count ds)
  kinds_count (ActorDecl f ∷ ds) = omega (arith, kinds_count ds)

  heads_count : (ns : Names) (as' : List RoutineTree) → length (map head_of (map (class_in ns) as')) ≡ length (map ActorDecl as')
  heads_count ns [] = refl
  heads_count ns (a ∷ as') = ap suc (heads_count ns as')

  all_count : length (all_decls raw) ≡ length p.decls
  all_count = omega (
    arith,
    length-append (plain_decls raw) (map head_of raw.classes),
    length-append (structs p.decls) (functions p.decls),
    heads_count (names_of p) (actors_in p.decls),
    kinds_count p.decls,
  )

  pub setting_same : (plain : Bool) → setting_of (all_decls raw) plain ≡ setting_of p.decls plain
  setting_same plain = ap₂ (λ k n. record { known = k; holds = holds k (suc n); vars = []; plain = plain }) known_same all_count
