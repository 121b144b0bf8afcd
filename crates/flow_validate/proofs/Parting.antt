-- Declarations that are taken apart, one more at a time.
use Rattle.std.proofs.Common.{◌≡◌, List, [], ◌∷◌, ◌++◌, map, refl, sym, ap, ◌∙◌, append_assoc}
use Rattle.std.proofs.lemmas.List.{append-nil, map-append}
use Rattle.flow_tree.specs.declared.decl.Decl.{Decl}
use Rattle.flow_tree.specs.declared.decl.Decl.TheVariants.{Struct, Function, Actor}
use Rattle.flow_tree.specs.declared.decl.RecordDecl.{RecordDecl}
use Rattle.flow_tree.specs.declared.decl.FunctionDecl.{FunctionDecl}
use Rattle.flow_tree.specs.declared.decl.ActorDecl.{ActorDecl}
use Rattle.flow_tree.specs.Decls as tree
use Rattle.flow_tree.specs.DeclView.{record_of, function_of, decl_of}
use Rattle.flow_validate.specs.Apart.{records_in, functions_in}

pub records_both : (ds es : List tree.DeclTree) → records_in (ds ++ es) ≡ records_in ds ++ records_in es
records_both [] es = refl
records_both (tree.StructDecl r ∷ ds) es = ap (λ l. r ∷ l) (records_both ds es)
records_both (tree.FunctionDecl f ∷ ds) es = records_both ds es
records_both (tree.ActorDecl a ∷ ds) es = records_both ds es

pub functions_both : (ds es : List tree.DeclTree) → functions_in (ds ++ es) ≡ functions_in ds ++ functions_in es
functions_both [] es = refl
functions_both (tree.StructDecl r ∷ ds) es = functions_both ds es
functions_both (tree.FunctionDecl f ∷ ds) es = ap (λ l. f ∷ l) (functions_both ds es)
functions_both (tree.ActorDecl a ∷ ds) es = functions_both ds es

pub records_next : (ys : List Decl) (d : Decl) → records_in (map decl_of (ys ++ d ∷ [])) ≡ records_in (map decl_of ys) ++ records_in (decl_of d ∷ [])
records_next ys d = ap records_in (map-append decl_of ys (d ∷ [])) ∙ records_both (map decl_of ys) (decl_of d ∷ [])

pub functions_next : (ys : List Decl) (d : Decl) → functions_in (map decl_of (ys ++ d ∷ [])) ≡ functions_in (map decl_of ys) ++ functions_in (decl_of d ∷ [])
functions_next ys d = ap functions_in (map-append decl_of ys (d ∷ [])) ∙ functions_both (map decl_of ys) (decl_of d ∷ [])

-- one more, where it is of the kind, and where it is of another
pub records_more : (ys : List Decl) (d : Decl) (r : RecordDecl) (old new : List RecordDecl) → d ≡ Struct r → new ≡ old ++ r ∷ [] → map record_of old ≡ records_in (map decl_of ys)
    → map record_of new ≡ records_in (map decl_of (ys ++ d ∷ []))
records_more ys d r old new is push h =
    ap (map record_of) push ∙ map-append record_of old (r ∷ []) ∙ ap (λ l. l ++ record_of r ∷ []) h
    ∙ ap (λ (x : Decl). records_in (map decl_of ys) ++ records_in (decl_of x ∷ [])) (sym is) ∙ sym (records_next ys d)

pub functions_more : (ys : List Decl) (d : Decl) (f : FunctionDecl) (old new : List FunctionDecl) → d ≡ Function f → new ≡ old ++ f ∷ [] → map function_of old ≡ functions_in (map decl_of ys)
    → map function_of new ≡ functions_in (map decl_of (ys ++ d ∷ []))
functions_more ys d f old new is push h =
    ap (map function_of) push ∙ map-append function_of old (f ∷ []) ∙ ap (λ l. l ++ function_of f ∷ []) h
    ∙ ap (λ (x : Decl). functions_in (map decl_of ys) ++ functions_in (decl_of x ∷ [])) (sym is) ∙ sym (functions_next ys d)

pub records_same : (ys : List Decl) (d : Decl) (old : List RecordDecl) → records_in (decl_of d ∷ []) ≡ [] → map record_of old ≡ records_in (map decl_of ys)
    → map record_of old ≡ records_in (map decl_of (ys ++ d ∷ []))
records_same ys d old none h = h ∙ sym (append-nil (records_in (map decl_of ys))) ∙ ap (λ l. records_in (map decl_of ys) ++ l) (sym none) ∙ sym (records_next ys d)

pub functions_same : (ys : List Decl) (d : Decl) (old : List FunctionDecl) → functions_in (decl_of d ∷ []) ≡ [] → map function_of old ≡ functions_in (map decl_of ys)
    → map function_of old ≡ functions_in (map decl_of (ys ++ d ∷ []))
functions_same ys d old none h = h ∙ sym (append-nil (functions_in (map decl_of ys))) ∙ ap (λ l. functions_in (map decl_of ys) ++ l) (sym none) ∙ sym (functions_next ys d)

pub none_in_struct : (d : Decl) (r : RecordDecl) → d ≡ Struct r → functions_in (decl_of d ∷ []) ≡ []
none_in_struct d r is = ap (λ (x : Decl). functions_in (decl_of x ∷ [])) is

pub none_in_function : (d : Decl) (f : FunctionDecl) → d ≡ Function f → records_in (decl_of d ∷ []) ≡ []
none_in_function d f is = ap (λ (x : Decl). records_in (decl_of x ∷ [])) is

pub no_records : (d : Decl) (a : ActorDecl) → d ≡ Actor a → records_in (decl_of d ∷ []) ≡ []
no_records d a is = ap (λ (x : Decl). records_in (decl_of x ∷ [])) is

pub no_functions : (d : Decl) (a : ActorDecl) → d ≡ Actor a → functions_in (decl_of d ∷ []) ≡ []
no_functions d a is = ap (λ (x : Decl). functions_in (decl_of x ∷ [])) is

pub rest_next : (ys all : List Decl) (d : Decl) (before after : List Decl) → before ≡ d ∷ after → ys ++ before ≡ all → (ys ++ d ∷ []) ++ after ≡ all
rest_next ys all d before after e h = append_assoc ys (d ∷ []) after ∙ ap (λ l. ys ++ l) (sym e) ∙ h
