-- The rules on records, functions and heads of classes don't see places.
use Rattle.std.proofs.Common.{◌≡◌, ℕ, suc, List, [], ◌∷◌, ◌++◌, Bool, true, false, not, map, length, codes, refl, sym, ap, ap₂, ◌∙◌, if◌then◌else◌, ◌||◌}
use Rattle.std.specs.Prelude.{is_none}
use Rattle.std.specs.declared.option.Option.{Option}
use Rattle.std.specs.declared.option.Option.TheVariants.{Some}
use Rattle.std.proofs.lemmas.List.{length-map, map-append}
use Rattle.flow_tree.specs.Decls.{ParamTree, RecordTree, RoutineTree, DeclTree, StructDecl, FunctionDecl, ActorDecl}
use Rattle.flow_tree.specs.Canon.{placeless_param, placeless_record, placeless_routine, placeless_decl, placeless_body}
use Rattle.flow_ast.specs.Typing.{is_there}
use Rattle.flow_ast.specs.TypingNames.{named}
use Rattle.flow_rules.specs.declared.rule.SemanticRule.TheVariants.{UnknownName, TakenName, FallsOff}
use Rattle.flow_rules.specs.Least.{lesser, unless}
use Rattle.flow_rules.specs.Known.{Meaning, RecordOf, FunctionOf, ActorOf, field_row, row_of, packet_row, known, type_known, holds}
use Rattle.flow_rules.specs.Judged.{Setting, is_void}
use Rattle.flow_rules.specs.Items.{written, body_refusal}
use Rattle.flow_rules.specs.Closing.{Ways}
use Rattle.flow_rules.specs.Rules.{setting_of, name_fault, with_name, fields_fault, param_fault, params_fault, param_name, body_env, routine_refusal, decl_refusal, decls_refusal, is_main, Size, type_size, beside, fields_size, record_size, too_large, large_record, with_size, first_large, packet_size}
use Rattle.flow_class.specs.Classes.{ClassTree, RawTree}
use Rattle.flow_meaning.specs.Placeless.{placeless_class, placeless_classes}
use Rattle.flow_valid.specs.Heads.{head_of, plain_decls, all_decls, declarations_kept, head_kept, first_head, broken_head, has_main}
use Rattle.flow_class_places_laws.proofs.Parts.{Alike, map_over, or_same}
use Rattle.flow_class_places_laws.proofs.Statements.{body_aside, ways_aside, item_same}

-- what names mean
row_aside : (d : DeclTree) → row_of (placeless_decl d) ≡ row_of d
row_aside (StructDecl r) = ap (λ fs. (r.name.name, RecordOf fs)) (map_over field_row placeless_param (λ p. refl) r.fields)
row_aside (FunctionDecl f) = ap (λ ts. (f.name.name, FunctionOf ts f.returns)) (map_over (λ (p : ParamTree). p.ty) placeless_param (λ p. refl) f.params)
row_aside (ActorDecl f) = ap (λ ts. (f.name.name, ActorOf ts f.returns)) (map_over (λ (p : ParamTree). p.ty) placeless_param (λ p. refl) f.params)

known_same : (ds es : List DeclTree) → map row_of ds ≡ map row_of es → known ds ≡ known es
known_same ds es h = ap (λ rs. named (packet_row ∷ rs)) h

-- declarations that mean the same, and one more
rows_more : (ds es : List DeclTree) (d e : DeclTree) → map row_of ds ≡ map row_of es → row_of d ≡ row_of e → map row_of (ds ++ d ∷ []) ≡ map row_of (es ++ e ∷ [])
rows_more ds es d e h k = map-append row_of ds (d ∷ []) ∙ ap₂ (λ rs r. rs ++ r ∷ []) h k ∙ sym (map-append row_of es (e ∷ []))

setting_same : (ds es : List DeclTree) → map row_of ds ≡ map row_of es → setting_of ds ≡ setting_of es
setting_same ds es h =
    ap₂ (λ k n (plain : Bool). record { known = k; holds = holds k (suc n); vars = []; plain = plain }) (known_same ds es h)
    (sym (length-map ds row_of) ∙ ap length h ∙ length-map es row_of)

-- one declaration
fields_fault_aside : (before : List ℕ → Option Meaning) (taken : List ℕ → Bool) (fs : List ParamTree)
    → fields_fault before taken (map placeless_param fs) ≡ fields_fault before taken fs
fields_fault_aside before taken [] = refl
fields_fault_aside before taken (f ∷ fs) =
    ap (λ k. lesser (lesser (unless (type_known before f.ty) UnknownName) (unless (not (taken f.name.name)) TakenName)) k)
    (fields_fault_aside before (with_name f.name.name taken) fs)

params_fault_aside : (s : Setting) (taken : List ℕ → Bool) (ps : List ParamTree) → params_fault s taken (map placeless_param ps) ≡ params_fault s taken ps
params_fault_aside s taken [] = refl
params_fault_aside s taken (p ∷ ps) = ap (λ k. lesser (param_fault s taken p) k) (params_fault_aside s (with_name p.name.name taken) ps)

body_env_aside : (s : Setting) (f : RoutineTree) → body_env s (placeless_routine f) ≡ body_env s f
body_env_aside s f =
    ap₂ (λ vs ns. record { setting = record s { vars = vs }; returns = f.returns; states = ns; looped = false; caught = false })
    (map_over field_row placeless_param (λ p. refl) f.params) (map_over param_name placeless_param (λ p. refl) f.params)

routine_aside : (before : List ℕ → Option Meaning) (s : Setting) (f : RoutineTree)
    → Alike (routine_refusal before s (placeless_routine f)) (routine_refusal before s f)
routine_aside before s f =
    or_same (item_same f.at (ap (λ k. lesser (name_fault before f.name.name) (lesser (written s f.returns) k)) (params_fault_aside s (λ x. false) f.params)))
    (or_same (record { same = ap (λ e. is_none (body_refusal e (placeless_body f.body))) (body_env_aside s f) ∙ (body_aside f.body (body_env s f)).same })
    (item_same f.close (ap (λ (w : Ways). unless (is_void s f.returns || not w.end) FallsOff) (ways_aside f.body))))

decl_aside : (all : Bool → Setting) (before : List ℕ → Option Meaning) (d : DeclTree) → Alike (decl_refusal all before (placeless_decl d)) (decl_refusal all before d)
decl_aside all before (StructDecl r) =
    item_same r.at (ap (λ k. lesser (name_fault before r.name.name) k) (fields_fault_aside before (λ x. false) r.fields))
decl_aside all before (FunctionDecl f) = routine_aside before (all true) f
decl_aside all before (ActorDecl f) = routine_aside before (all false) f

-- a program's declarations, behind those that mean the same
decls_aside : (all : Bool → Setting) (ds old new : List DeclTree) → map row_of new ≡ map row_of old
    → Alike (decls_refusal all new (map placeless_decl ds)) (decls_refusal all old ds)
decls_aside all [] old new h = record { same = refl }
decls_aside all (d ∷ ds) old new h =
    or_same (record { same = ap (λ k. is_none (decl_refusal all k (placeless_decl d))) (known_same new old h) ∙ (decl_aside all (known old) d).same })
    (decls_aside all ds (old ++ d ∷ []) (new ++ placeless_decl d ∷ []) (rows_more new old (placeless_decl d) d h (row_aside d)))

-- sizes of records
record_size_aside : (ns : List (List ℕ × Size)) (r : RecordTree) → record_size ns (placeless_record r) ≡ record_size ns r
record_size_aside ns r = ap (λ (n : Size). record { nesting = suc n.nesting; leaves = n.leaves }) (fields_aside r.fields)
  where
    fields_aside : (fs : List ParamTree) → fields_size ns (map placeless_param fs) ≡ fields_size ns fs
    fields_aside [] = refl
    fields_aside (f ∷ fs) = ap (λ n. beside (type_size ns f.ty) n) (fields_aside fs)

large_aside : (ns : List (List ℕ × Size)) (ds : List DeclTree) → Alike (first_large ns (map placeless_decl ds)) (first_large ns ds)
large_aside ns [] = record { same = refl }
large_aside ns (StructDecl r ∷ ds) =
    or_same
    (record { same = ap (λ n. is_none (large_record (too_large n) (placeless_record r))) (record_size_aside ns r) ∙ at_any (too_large (record_size ns r)) })
    (record {
      same =
          ap (λ n. is_none (first_large (if is_there (named ns r.name.name) then ns else ns ++ (r.name.name, n) ∷ []) (map placeless_decl ds))) (record_size_aside ns r)
          ∙ (large_aside (with_size ns r) ds).same;
    })
  where
    at_any : (b : Bool) → is_none (large_record b (placeless_record r)) ≡ is_none (large_record b r)
    at_any true = refl
    at_any false = refl
large_aside ns (FunctionDecl f ∷ ds) = large_aside ns ds
large_aside ns (ActorDecl f ∷ ds) = large_aside ns ds

-- what stands at the top of classes
plain_aside : (r : RawTree) → plain_decls (placeless_classes r) ≡ map placeless_decl (plain_decls r)
plain_aside r = ap₂ (λ ds es. ds ++ es) (records r.records) (functions r.functions) ∙ sym (map-append placeless_decl (map StructDecl r.records) (map FunctionDecl r.functions))
  where
    records : (rs : List RecordTree) → map StructDecl (map placeless_record rs) ≡ map placeless_decl (map StructDecl rs)
    records [] = refl
    records (x ∷ xs) = ap (λ ds. StructDecl (placeless_record x) ∷ ds) (records xs)

    functions : (fs : List RoutineTree) → map FunctionDecl (map placeless_routine fs) ≡ map placeless_decl (map FunctionDecl fs)
    functions [] = refl
    functions (x ∷ xs) = ap (λ ds. FunctionDecl (placeless_routine x) ∷ ds) (functions xs)

plain_rows : (r : RawTree) → map row_of (plain_decls (placeless_classes r)) ≡ map row_of (plain_decls r)
plain_rows r = ap (λ ds. map row_of ds) (plain_aside r) ∙ map_over row_of placeless_decl row_aside (plain_decls r)

all_rows : (r : RawTree) → map row_of (all_decls (placeless_classes r)) ≡ map row_of (all_decls r)
all_rows r =
    map-append row_of (plain_decls (placeless_classes r)) (map head_of (map placeless_class r.classes))
    ∙ ap₂ (λ ds es. ds ++ map row_of es) (plain_rows r) (map_over head_of placeless_class (λ c. refl) r.classes)
    ∙ sym (map-append row_of (plain_decls r) (map head_of r.classes))

all_known : (r : RawTree) → known (all_decls (placeless_classes r)) ≡ known (all_decls r)
all_known r = known_same (all_decls (placeless_classes r)) (all_decls r) (all_rows r)

pub top_setting : (r : RawTree) → setting_of (all_decls (placeless_classes r)) ≡ setting_of (all_decls r)
top_setting r = setting_same (all_decls (placeless_classes r)) (all_decls r) (all_rows r)

-- and the rules on it
pub kept_aside : (r : RawTree) → declarations_kept (placeless_classes r) ≡ declarations_kept r
kept_aside r =
    (or_same
    (record {
      same =
          ap₂ (λ s ds. is_none (decls_refusal s [] ds)) (top_setting r) (plain_aside r)
          ∙ (decls_aside (setting_of (all_decls r)) (plain_decls r) [] [] refl).same;
    })
    (record {
      same =
          ap (λ ds. is_none (first_large ((codes "Packet", packet_size) ∷ []) ds)) (plain_aside r)
          ∙ (large_aside ((codes "Packet", packet_size) ∷ []) (plain_decls r)).same;
    })).same

heads_aside : (all : List ℕ → Option Meaning) (cs : List ClassTree) (old new : List DeclTree) (i : ℕ) → map row_of new ≡ map row_of old
    → first_head all new i (map placeless_class cs) ≡ first_head all old i cs
heads_aside all [] old new i h = refl
heads_aside all (c ∷ cs) old new i h =
    ap₂ (λ k o. if head_kept k all c then o else Some i) (known_same new old h)
    (heads_aside all cs (old ++ head_of c ∷ []) (new ++ head_of c ∷ []) (suc i) (rows_more new old (head_of c) (head_of c) h refl))

pub head_aside : (r : RawTree) → broken_head (placeless_classes r) ≡ broken_head r
head_aside r =
    ap (λ k. first_head k (plain_decls (placeless_classes r)) 0 (map placeless_class r.classes)) (all_known r)
    ∙ heads_aside (known (all_decls r)) r.classes (plain_decls r) (plain_decls (placeless_classes r)) 0 (plain_rows r)

pub main_aside : (r : RawTree) → has_main (placeless_classes r) ≡ has_main r
main_aside r = ap (λ k. is_main (k (codes "main"))) (all_known r)
