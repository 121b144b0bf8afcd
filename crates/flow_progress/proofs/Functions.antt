-- The functions of valid classes are well typed: the first rule says so.
use Rattle.std.proofs.Common.{◌≡◌, ℕ, suc, List, [], ◌∷◌, ◌++◌, map, ap, ◌∙◌, subst, refl}
use Rattle.std.specs.Prelude.{slice_get}
use Rattle.std.specs.declared.option.Option.TheVariants.{Some}
use Rattle.flow_tree.specs.Decls.{RecordTree, RoutineTree, DeclTree, StructDecl, FunctionDecl}
use Rattle.flow_ast.specs.Fits.{FunctionFits}
use Rattle.flow_rules.specs.Rules.{setting_of, decls_refusal}
use Rattle.flow_typing_laws.specs.ControlFlow.Laws.{AllHaveSimpleParts}
use Rattle.flow_class.specs.Classes.{RawTree}
use Rattle.flow_valid.specs.Heads.{plain_decls, all_decls}
use Rattle.flow_valid.specs.Validity.{IsValid}
use Rattle.flow_meaning.specs.Source.{functions_in, actors_in}
use Rattle.flow_typing_laws.specs.Typing.Paths.{AllHavePaths}
use Rattle.flow_typing_laws.proofs.Typing.Agreement.{neither_first}
use Rattle.flow_typing_laws.proofs.Typing.Bodies.{functions_fit}
use Rattle.flow_progress.specs.Written.{HasBody, FunctionsWritten, FunctionsKept, heads}
use Rattle.flow_progress.proofs.Tops.{none_is, all_records, all_functions, all_distinct}

functions_simple : (fs : List RoutineTree) → ((k : ℕ) (f : RoutineTree) → slice_get fs k ≡ Some f → HasBody f) → AllHaveSimpleParts (map FunctionDecl fs)
functions_simple [] h = tt
functions_simple (f ∷ fs) h = ((h 0 f refl).0, functions_simple fs (λ k. h (suc k)))

functions_paths : (fs : List RoutineTree) → ((k : ℕ) (f : RoutineTree) → slice_get fs k ≡ Some f → HasBody f) → AllHavePaths (map FunctionDecl fs)
functions_paths [] h = tt
functions_paths (f ∷ fs) h = ((h 0 f refl).1, functions_paths fs (λ k. h (suc k)))

plain_simple : (rs : List RecordTree) (ds : List DeclTree) → AllHaveSimpleParts ds → AllHaveSimpleParts (map StructDecl rs ++ ds)
plain_simple [] ds h = h
plain_simple (r ∷ rs) ds h = (tt, plain_simple rs ds h)

plain_paths : (rs : List RecordTree) (ds : List DeclTree) → AllHavePaths ds → AllHavePaths (map StructDecl rs ++ ds)
plain_paths [] ds h = h
plain_paths (r ∷ rs) ds h = (tt, plain_paths rs ds h)

structs_none : (rs : List RecordTree) (ds : List DeclTree) → functions_in (map StructDecl rs ++ ds) ≡ functions_in ds
structs_none [] ds = refl
structs_none (r ∷ rs) ds = structs_none rs ds

functions_all : (fs : List RoutineTree) → functions_in (map FunctionDecl fs) ≡ fs
functions_all [] = refl
functions_all (f ∷ fs) = ap (λ l. f ∷ l) (functions_all fs)

pub functions_kept : (r : RawTree) → IsValid r → FunctionsWritten r → FunctionsKept r
functions_kept r valid w k f at =
    let ds = all_decls r in
    let clean = neither_first (decls_refusal (setting_of ds) [] (plain_decls r)) _ (none_is _ valid.declarations) in
    let simple = plain_simple r.records (map FunctionDecl r.functions) (functions_simple r.functions w) in
    let paths = plain_paths r.records (map FunctionDecl r.functions) (functions_paths r.functions w) in
    let same = structs_none r.records (map FunctionDecl r.functions) ∙ functions_all r.functions in
    let here : slice_get (functions_in (plain_decls r)) k ≡ Some f = ap (λ fs. slice_get fs k) same ∙ at in
    let fits = functions_fit ds (all_distinct r valid) [] (plain_decls r) clean simple paths k f here in
    subst (λ rs. FunctionFits rs r.functions (heads r) f) (all_records r)
    (subst (λ fs. FunctionFits (Rattle.flow_meaning.specs.Source.records_in ds) fs (actors_in ds) f) (all_functions r) fits)
