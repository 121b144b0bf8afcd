-- Parts of a program, collected a declaration at a time.
use Rattle.std.proofs.Common.{◌≡◌, ℕ, ◌+◌, ◌<◌, ◌≤◌, List, [], ◌∷◌, ◌++◌, map, take, get_or, length, refl, sym, ap, ◌∙◌}
use Rattle.std.proofs.lemmas.List.{take_more, take_all, map-append}
use Rattle.flow_tree.specs.declared.decl.RecordDecl.{RecordDecl}
use Rattle.flow_tree.specs.declared.decl.FunctionDecl.{FunctionDecl}
use Rattle.flow_tree.specs.declared.decl.Decl.{Decl}
use Rattle.flow_tree.specs.Decls as tree
use Rattle.flow_tree.specs.Decls.{RecordTree, RoutineTree, DeclTree, StructDecl, ActorDecl}
use Rattle.flow_tree.specs.DeclView.{decl_of, record_of, function_of}
use Rattle.flow_class.specs.Classes.{ClassTree}
use Rattle.flow_meaning.specs.Evaluating.{Names}
use Rattle.flow_meaning.specs.Source.{records_in, functions_in, actors_in}
use Rattle.flow_lower.specs.Compiled.{class_in}

-- a part of declarations that is taken from each by itself
abbrev Splits : {A : Type 0} → (List DeclTree → List A) → Type 0
Splits part = (xs ys : List DeclTree) → part (xs ++ ys) ≡ part xs ++ part ys

records_split : Splits records_in
records_split [] ys = refl
records_split (StructDecl r ∷ xs) ys = ap (λ l. r ∷ l) (records_split xs ys)
records_split (tree.FunctionDecl f ∷ xs) ys = records_split xs ys
records_split (ActorDecl a ∷ xs) ys = records_split xs ys

functions_split : Splits functions_in
functions_split [] ys = refl
functions_split (StructDecl r ∷ xs) ys = functions_split xs ys
functions_split (tree.FunctionDecl f ∷ xs) ys = ap (λ l. f ∷ l) (functions_split xs ys)
functions_split (ActorDecl a ∷ xs) ys = functions_split xs ys

actors_split : Splits actors_in
actors_split [] ys = refl
actors_split (StructDecl r ∷ xs) ys = actors_split xs ys
actors_split (tree.FunctionDecl f ∷ xs) ys = actors_split xs ys
actors_split (ActorDecl a ∷ xs) ys = ap (λ l. a ∷ l) (actors_split xs ys)

classes_split : (ns : Names) → Splits (λ ds. map (class_in ns) (actors_in ds))
classes_split ns xs ys = ap (map (class_in ns)) (actors_split xs ys) ∙ map-append (class_in ns) (actors_in xs) (actors_in ys)

grown : {A : Type 0} (part : List DeclTree → List A) → Splits part → (olds news : List A) (ds : List Decl) (i : ℕ) (d x : Decl) → i < length ds
    → olds ≡ part (map decl_of (take i ds)) → x ≡ get_or ds i d → news ≡ olds ++ part (decl_of x ∷ []) → news ≡ part (map decl_of (take (i + 1) ds))
grown part splits olds news ds i d x lt e is f =
    f ∙ ap (λ y. olds ++ part (decl_of y ∷ [])) is ∙ ap (λ l. l ++ part (decl_of (get_or ds i d) ∷ [])) e ∙ sym (splits (map decl_of (take i ds)) (decl_of (get_or ds i d) ∷ []))
    ∙ ap part (sym (map-append decl_of (take i ds) (get_or ds i d ∷ []))) ∙ ap (λ l. part (map decl_of l)) (sym (take_more ds i d lt))

whole : {A : Type 0} (part : List DeclTree → List A) (all : List A) (ds : List Decl) (i : ℕ) → length ds ≤ i → all ≡ part (map decl_of (take i ds)) → all ≡ part (map decl_of ds)
whole part all ds i le e = e ∙ ap (λ l. part (map decl_of l)) (take_all i ds le)

pub records_more : (olds news : List RecordTree) (ds : List Decl) (i : ℕ) (d x : Decl) → i < length ds → olds ≡ records_in (map decl_of (take i ds))
    → x ≡ get_or ds i d → news ≡ olds ++ records_in (decl_of x ∷ []) → news ≡ records_in (map decl_of (take (i + 1) ds))
records_more olds news ds i d x lt e is f = grown records_in records_split olds news ds i d x lt e is f

pub records_all : (all : List RecordTree) (ds : List Decl) (i : ℕ) → length ds ≤ i → all ≡ records_in (map decl_of (take i ds)) → all ≡ records_in (map decl_of ds)
records_all all ds i le e = whole records_in all ds i le e

pub functions_more : (olds news : List RoutineTree) (ds : List Decl) (i : ℕ) (d x : Decl) → i < length ds → olds ≡ functions_in (map decl_of (take i ds))
    → x ≡ get_or ds i d → news ≡ olds ++ functions_in (decl_of x ∷ []) → news ≡ functions_in (map decl_of (take (i + 1) ds))
functions_more olds news ds i d x lt e is f = grown functions_in functions_split olds news ds i d x lt e is f

pub functions_all : (all : List RoutineTree) (ds : List Decl) (i : ℕ) → length ds ≤ i → all ≡ functions_in (map decl_of (take i ds)) → all ≡ functions_in (map decl_of ds)
functions_all all ds i le e = whole functions_in all ds i le e

pub classes_more : (ns : Names) (olds news : List ClassTree) (ds : List Decl) (i : ℕ) (d x : Decl) → i < length ds → olds ≡ map (class_in ns) (actors_in (map decl_of (take i ds)))
    → x ≡ get_or ds i d → news ≡ olds ++ map (class_in ns) (actors_in (decl_of x ∷ [])) → news ≡ map (class_in ns) (actors_in (map decl_of (take (i + 1) ds)))
classes_more ns olds news ds i d x lt e is f = grown (λ ts. map (class_in ns) (actors_in ts)) (classes_split ns) olds news ds i d x lt e is f

pub classes_all : (ns : Names) (all : List ClassTree) (ds : List Decl) (i : ℕ) → length ds ≤ i → all ≡ map (class_in ns) (actors_in (map decl_of (take i ds)))
    → all ≡ map (class_in ns) (actors_in (map decl_of ds))
classes_all ns all ds i le e = whole (λ ts. map (class_in ns) (actors_in ts)) all ds i le e
