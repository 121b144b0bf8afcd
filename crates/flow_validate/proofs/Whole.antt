-- A class program that is gathered and let go again.
use Rattle.std.proofs.Common.{◌≡◌, ◌+◌, ◌≤◌, List, [], ◌∷◌, ◌++◌, map, length, refl, sym, ap, ap₂, ◌∙◌, arith, length-append}
use Rattle.std.proofs.lemmas.List.{length-map, append-nil}
use Rattle.flow_tree.specs.declared.decl.Decl.{Decl}
use Rattle.flow_tree.specs.declared.decl.RecordDecl.{RecordDecl}
use Rattle.flow_tree.specs.declared.decl.FunctionDecl.{FunctionDecl}
use Rattle.flow_tree.specs.Decls.{RecordTree, RoutineTree, StructDecl, FunctionDecl as function_decl}
use Rattle.flow_tree.specs.DeclView.{record_of, function_of, decl_of}
use Rattle.flow_class.specs.declared.class.RawClasses.{RawClasses}
use Rattle.flow_class.specs.Classes.{ClassTree, RawTree}
use Rattle.flow_class.specs.View.{class_of}
use Rattle.flow_valid.specs.Heads.{head_of, plain_decls, all_decls}
use Rattle.flow_validate.specs.declared.validate.Gathered.{Gathered}
use Rattle.flow_validate.specs.Apart.{records_in, functions_in}
use Rattle.flow_validate.specs.Gathered.{AreParts}
use Rattle.flow_validate.proofs.Parting.{records_both, functions_both}

records_of_structs : (rs : List RecordTree) → records_in (map StructDecl rs) ≡ rs
records_of_structs [] = refl
records_of_structs (r ∷ rs) = ap (λ l. r ∷ l) (records_of_structs rs)

records_of_functions : (fs : List RoutineTree) → records_in (map function_decl fs) ≡ []
records_of_functions [] = refl
records_of_functions (f ∷ fs) = records_of_functions fs

records_of_heads : (cs : List ClassTree) → records_in (map head_of cs) ≡ []
records_of_heads [] = refl
records_of_heads (c ∷ cs) = records_of_heads cs

functions_of_structs : (rs : List RecordTree) → functions_in (map StructDecl rs) ≡ []
functions_of_structs [] = refl
functions_of_structs (r ∷ rs) = functions_of_structs rs

functions_of_functions : (fs : List RoutineTree) → functions_in (map function_decl fs) ≡ fs
functions_of_functions [] = refl
functions_of_functions (f ∷ fs) = ap (λ l. f ∷ l) (functions_of_functions fs)

functions_of_heads : (cs : List ClassTree) → functions_in (map head_of cs) ≡ []
functions_of_heads [] = refl
functions_of_heads (c ∷ cs) = functions_of_heads cs

all_records : (r : RawTree) → records_in (all_decls r) ≡ r.records
all_records r =
    records_both (plain_decls r) (map head_of r.classes)
    ∙ ap₂ (λ l m. l ++ m)
    (records_both (map StructDecl r.records) (map function_decl r.functions) ∙ ap₂ (λ l m. l ++ m) (records_of_structs r.records) (records_of_functions r.functions) ∙ append-nil r.records)
    (records_of_heads r.classes)
    ∙ append-nil r.records

all_functions : (r : RawTree) → functions_in (all_decls r) ≡ r.functions
all_functions r =
    functions_both (plain_decls r) (map head_of r.classes)
    ∙ ap₂ (λ l m. l ++ m)
    (functions_both (map StructDecl r.records) (map function_decl r.functions) ∙ ap₂ (λ l m. l ++ m) (functions_of_structs r.records) (functions_of_functions r.functions))
    (functions_of_heads r.classes)
    ∙ append-nil r.functions

abbrev the_raw : List RecordTree → List RoutineTree → List ClassTree → RawTree
the_raw rs fs cs = record { records = rs; functions = fs; classes = cs }

pub released : (g : Gathered) (records : List RecordDecl) (functions : List FunctionDecl) (r : RawTree) → AreParts r g
    → map record_of records ≡ records_in (map decl_of g.decls.items) → map function_of functions ≡ functions_in (map decl_of g.decls.items)
    → ◌≡◌ {A = RawTree} (record { records = map record_of records; functions = map function_of functions; classes = map class_of g.classes.items }) r
released g records functions r h e f =
    ap₂ (λ (rs : List RecordTree) (fs : List RoutineTree). the_raw rs fs (map class_of g.classes.items))
    (e ∙ ap records_in (sym h.all) ∙ all_records r) (f ∙ ap functions_in (sym h.all) ∙ all_functions r)
    ∙ ap (λ (cs : List ClassTree). the_raw r.records r.functions cs) (sym h.kept)

pub within_all : (raw : RawClasses) (decls plain : List Decl) → map decl_of decls ≡ map decl_of plain ++ map head_of (map class_of raw.classes.items) → length plain ≤ length decls
within_all raw decls plain a =
    let long : length decls ≡ length plain + length (map head_of (map class_of raw.classes.items)) =
    sym (length-map decls decl_of) ∙ ap length a ∙ length-append (map decl_of plain) (map head_of (map class_of raw.classes.items))
    ∙ ap (λ n. n + length (map head_of (map class_of raw.classes.items))) (length-map plain decl_of) in
    omega arith
