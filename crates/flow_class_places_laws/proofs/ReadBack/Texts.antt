-- Class text as a whole is read back from the canonical text of what it derives.
use Rattle.std.proofs.Common.{◌≡◌, ℕ, List, [], ◌∷◌, ◌++◌, map, refl, sym, ap, ap₂, ◌∙◌, subst, append_assoc, append-nil, arith, decimal}
use Rattle.std.proofs.lemmas.Fmt.{decimal_digit}
use Rattle.std.specs.Prelude.{codes}
use Rattle.flow_tree.specs.declared.limits.TheConstants.{OF_CLASS_TEXT}
use Rattle.flow_tree.specs.Decls.{RecordTree, RoutineTree, DeclTree, StructDecl, FunctionDecl, ActorDecl}
use Rattle.flow_tree.specs.Lexing.{place_after, ReadsTokens}
use Rattle.flow_tree.specs.GrammarToken.{Node, Marked, begin, spots_of, AllInLimitsOf, KeepsOf}
use Rattle.flow_tree.specs.declared.decl.RoutineKind.TheVariants.{Function}
use Rattle.flow_tree.specs.GrammarDecl.{RecordRule, FunctionRule, DeclRule, record_decl, function_decl}
use Rattle.flow_tree.specs.Canon.{line, placeless_record, placeless_routine, placeless_decl}
use Rattle.flow_class.specs.Classes.{RawTree}
use Rattle.flow_meaning.specs.Placeless.{placeless_classes}
use Rattle.flow_classprint.specs.declared.version.Version.TheVariants.{Two}
use Rattle.flow_classprint.specs.ClassGrammar.{said, number_at, AreSpelled, HeadRecordRule, record_rule, HeadFunctionRule, function_rule, HeadsRule, no_heads, more_records, more_functions, VersionRule, text}
use Rattle.flow_classprint.specs.ClassText.{all_text, record_text, function_text, class_text, ClassText}
use Rattle.flow_show.proofs.Going.{Piece, Any, nothing, both, as_rule, begun, spaced, lined}
use Rattle.flow_show.proofs.TokenPieces.{name_piece}
use Rattle.flow_show.proofs.ValuePieces.{number_piece}
use Rattle.flow_show.proofs.Valid.{AllValid, valid_token, valid_head, valid_tail, valid_left, valid_right, valid_begun}
use Rattle.flow_show.proofs.DeclPieces.{decl_some, decl_piece}
use Rattle.flow_show.proofs.RoundTrip.{of_parts, to_parts}
use Rattle.flow_class_places_laws.specs.Laws.{ClassTextReadBack}
use Rattle.flow_class_places_laws.proofs.ReadBack.Pieces.{Kept}
use Rattle.flow_class_places_laws.proofs.ReadBack.Classes.{classes_piece}

-- things one after another
data EachRule {A : Type 0} (R : List Marked → A → Type 0) : List Marked → List A → Type 0 where
  no_more : EachRule R [] []
  and_more : {m n : List Marked} {x : A} {xs : List A} → R m x → EachRule R n xs → EachRule R (m ++ n) (x ∷ xs)

each_piece : {A : Type 0} (bare : A → A) (R : List Marked → A → Type 0) (spell : A → List ℕ)
    → ((m : List Marked) (x : A) → R m x → AllValid m → Piece {X = Kept bare R x} (λ y. y.marked) m (spell x) Any)
    → {m : List Marked} {xs : List A} → EachRule R m xs → AllValid m → Piece {X = Kept (map bare) (EachRule R) xs} (λ y. y.marked) m (all_text spell xs) Any
each_piece bare R spell one no_more v = as_rule nothing (λ y. record { marked = _; tree = []; rule = no_more; like = refl }) (λ y. refl) refl refl
each_piece bare R spell one (and_more {m = first} {n = rest} {x = x} r s) v =
    as_rule (both (one first x r (valid_left first rest v)) (each_piece bare R spell one s (valid_right first rest v)) (λ u g. tt))
    (λ y. record { marked = _; tree = y.0.tree ∷ y.1.tree; rule = and_more y.0.rule y.1.rule; like = ap₂ (λ u us. u ∷ us) y.0.like y.1.like })
    (λ y. refl) refl refl

-- records and functions
struct_of : {m : List Marked} (r : RecordTree) (d : DeclTree) → DeclRule m d → placeless_decl d ≡ StructDecl (placeless_record r)
    → (q : RecordTree) × RecordRule m q × (placeless_record q ≡ placeless_record r)
struct_of r (StructDecl q) (record_decl rule) h = (q, rule, same_of h)
  where
    same_of : {u v : RecordTree} → StructDecl u ≡ StructDecl v → u ≡ v
    same_of k = cc
struct_of r (FunctionDecl q) rule h = absurd cc
struct_of r (ActorDecl q) rule h = absurd cc

function_of : {m : List Marked} (f : RoutineTree) (d : DeclTree) → DeclRule m d → placeless_decl d ≡ FunctionDecl (placeless_routine f)
    → (q : RoutineTree) × FunctionRule Function m q × (placeless_routine q ≡ placeless_routine f)
function_of f (StructDecl q) rule h = absurd cc
function_of f (FunctionDecl q) (function_decl rule) h = (q, rule, same_of h)
  where
    same_of : {u v : RoutineTree} → FunctionDecl u ≡ FunctionDecl v → u ≡ v
    same_of k = cc
function_of f (ActorDecl q) rule h = absurd cc

record_piece : {m : List Marked} {r : RecordTree} → HeadRecordRule m r → AllValid m → Piece {X = Kept placeless_record HeadRecordRule r} (λ y. y.marked) m (record_text r) Any
record_piece (record_rule {r = r} of rule) v =
    let d = record_decl rule in
    as_rule (begun (Node 1) (λ y. y.some) (decl_some d) (decl_piece d (valid_begun (Node 1) of v)))
    (λ y. let q = struct_of r y.tree y.rule y.like in record { marked = begin (Node 1) y.marked; tree = q.0; rule = record_rule y.marked q.1; like = q.2 })
    (λ y. refl) refl refl

function_piece : {m : List Marked} {f : RoutineTree} → HeadFunctionRule Two m f → AllValid m
    → Piece {X = Kept placeless_routine (HeadFunctionRule Two) f} (λ y. y.marked) m (function_text f) Any
function_piece (function_rule {f = f} of rule) v =
    let d = function_decl rule in
    as_rule (begun (Node 1) (λ y. y.some) (decl_some d) (decl_piece d (valid_begun (Node 1) of v)))
    (λ y. let q = function_of f y.tree y.rule y.like in record { marked = begin (Node 1) y.marked; tree = q.0; rule = function_rule y.marked q.1; like = q.2 })
    (λ y. refl) refl refl

-- what holds of tokens one by one holds of parts of them
holds_left : (a b : List Marked) → KeepsOf OF_CLASS_TEXT 7 (a ++ b) → KeepsOf OF_CLASS_TEXT 7 a
holds_left [] b h = tt
holds_left (x ∷ a) b h = (h.0, holds_left a b h.1)

holds_right : (a b : List Marked) → KeepsOf OF_CLASS_TEXT 7 (a ++ b) → KeepsOf OF_CLASS_TEXT 7 b
holds_right [] b h = h
holds_right (x ∷ a) b h = holds_right a b h.1

holds_both : (a b : List Marked) → KeepsOf OF_CLASS_TEXT 7 a → KeepsOf OF_CLASS_TEXT 7 b → KeepsOf OF_CLASS_TEXT 7 (a ++ b)
holds_both [] b h k = k
holds_both (x ∷ a) b h k = (h.0, holds_both a b h.1 k)

valid_both : (a b : List Marked) → AllValid a → AllValid b → AllValid (a ++ b)
valid_both [] b h k = k
valid_both (x ∷ a) b h k = record { all = (valid_head h, (valid_both a b (valid_tail h) k).all) }

-- the records apart from the functions
record Sorted (rs : List RecordTree) (fs : List RoutineTree) : Type 0 where
  pub records : List Marked
  pub functions : List Marked
  pub records_rule : EachRule HeadRecordRule records rs
  pub functions_rule : EachRule (HeadFunctionRule Two) functions fs
  pub records_valid : AllValid records
  pub functions_valid : AllValid functions
  pub records_keep : KeepsOf OF_CLASS_TEXT 7 records
  pub functions_keep : KeepsOf OF_CLASS_TEXT 7 functions

sorted : {m : List Marked} {rs : List RecordTree} {fs : List RoutineTree} → HeadsRule Two m rs fs → AllValid m → KeepsOf OF_CLASS_TEXT 7 m → Sorted rs fs
sorted no_heads v k = record {
  records = [];
  functions = [];
  records_rule = no_more;
  functions_rule = no_more;
  records_valid = v;
  functions_valid = v;
  records_keep = tt;
  functions_keep = tt;
}
sorted (more_records first rest r s e) v k =
    let a = subst AllValid e v in
    let b = subst (KeepsOf OF_CLASS_TEXT 7) e k in
    let more = sorted s (valid_right first rest a) (holds_right first rest b) in
    record {
      records = first ++ more.records;
      functions = more.functions;
      records_rule = and_more r more.records_rule;
      functions_rule = more.functions_rule;
      records_valid = valid_both first more.records (valid_left first rest a) more.records_valid;
      functions_valid = more.functions_valid;
      records_keep = holds_both first more.records (holds_left first rest b) more.records_keep;
      functions_keep = more.functions_keep;
    }
sorted (more_functions first rest r s e) v k =
    let a = subst AllValid e v in
    let b = subst (KeepsOf OF_CLASS_TEXT 7) e k in
    let more = sorted s (valid_right first rest a) (holds_right first rest b) in
    record {
      records = more.records;
      functions = first ++ more.functions;
      records_rule = more.records_rule;
      functions_rule = and_more r more.functions_rule;
      records_valid = more.records_valid;
      functions_valid = valid_both first more.functions (valid_left first rest a) more.functions_valid;
      records_keep = more.records_keep;
      functions_keep = holds_both first more.functions (holds_left first rest b) more.functions_keep;
    }

functions_first : {m : List Marked} {fs : List RoutineTree} → EachRule (HeadFunctionRule Two) m fs → HeadsRule Two m [] fs
functions_first no_more = no_heads
functions_first (and_more r s) = more_functions _ _ r (functions_first s) refl

heads_of : {m n : List Marked} {rs : List RecordTree} {fs : List RoutineTree} → EachRule HeadRecordRule m rs → EachRule (HeadFunctionRule Two) n fs → HeadsRule Two (m ++ n) rs fs
heads_of no_more k = functions_first k
heads_of {n = n} (and_more {m = first} {n = rest} r s) k = more_records first (rest ++ n) r (heads_of s k) (append_assoc first rest n)

-- the tokens of a text are valid
all_valid : (m : List Marked) → AreSpelled m → AllValid m
all_valid [] h = record { all = tt }
all_valid (x ∷ m) h = record { all = (valid_token x.spot.token h.0.bytes h.0.spells h.0.bounded, (all_valid m h.1).all) }

text_by : (h r f c : List ℕ) → h ++ r ++ f ++ c ≡ h ++ (r ++ (f ++ c))
text_by h r f c = simp append_assoc refl

text_is : (r f c : List ℕ) → line 0 (codes "classes 2") ++ r ++ f ++ c ≡ line 0 (codes "classes" ++ (32 ∷ decimal 2)) ++ (r ++ (f ++ c))
text_is r f c =
    text_by (line 0 (codes "classes 2")) r f c
    ∙ ap (λ d. line 0 (codes "classes" ++ (32 ∷ d)) ++ (r ++ (f ++ c))) (sym (decimal_digit 2 (omega arith)))

-- the tokens of a canonical text, wherever it stands
text_piece : {m : List Marked} {raw : RawTree} → VersionRule Two m raw → AllValid m → KeepsOf OF_CLASS_TEXT 7 m
    → (o : List Marked) × KeepsOf OF_CLASS_TEXT 7 o × Piece {X = Kept placeless_classes (VersionRule Two) raw} (λ y. y.marked) o (ClassText raw) Any
text_piece {raw = raw} (text p q heads classes hr cr e) v k =
    let a = subst AllValid e v in
    let b = subst (KeepsOf OF_CLASS_TEXT 7) e k in
    let tops = sorted hr (valid_left heads classes (valid_tail (valid_tail a))) (holds_left heads classes b.1.1) in (
      said (codes "classes") p ∷ number_at 2 q ∷ (tops.records ++ (tops.functions ++ classes)),
      (b.0, (b.1.0, holds_both tops.records _ tops.records_keep (holds_both tops.functions classes tops.functions_keep (holds_right heads classes b.1.1)))),
      as_rule
          (both (lined 0 (both (name_piece [] (codes "classes") p (valid_head a)) (spaced (number_piece [] 2 q (omega arith))) (λ u g. refl)) (λ u. refl))
          (both (each_piece placeless_record HeadRecordRule record_text (λ m r j w. record_piece j w) tops.records_rule tops.records_valid)
          (both (each_piece placeless_routine (HeadFunctionRule Two) function_text (λ m f j w. function_piece j w) tops.functions_rule tops.functions_valid)
          (classes_piece cr (valid_right heads classes (valid_tail (valid_tail a)))) (λ u g. tt)) (λ u g. tt)) (λ u g. tt))
          (λ y. record {
            marked = said (codes "classes") y.0.0 ∷ number_at 2 y.0.1 ∷ ((y.1.0.marked ++ y.1.1.0.marked) ++ y.1.1.1.marked);
            tree = record { records = y.1.0.tree; functions = y.1.1.0.tree; classes = y.1.1.1.tree };
            rule = text y.0.0 y.0.1 (y.1.0.marked ++ y.1.1.0.marked) y.1.1.1.marked (heads_of y.1.0.rule y.1.1.0.rule) y.1.1.1.rule refl;
            like = λ i. record { records = y.1.0.like i; functions = y.1.1.0.like i; classes = y.1.1.1.like i };
          })
          (λ y. ap (λ l. said (codes "classes") y.0.0 ∷ number_at 2 y.0.1 ∷ l) (append_assoc y.1.0.marked y.1.1.0.marked y.1.1.1.marked))
          refl (text_is (all_text record_text raw.records) (all_text function_text raw.functions) (all_text class_text raw.classes)),
    )

pub class_text_read_back : ClassTextReadBack
class_text_read_back raw w =
    let o = text_piece w.rule (all_valid w.tokens w.spelled) w.keeps in
    let got = o.2.at [] [] tt in
    record {
      spots = spots_of got.value.marked;
      end = place_after (ClassText raw);
      tree = got.value.tree;
      lexes = record { reads = subst (λ t. ReadsTokens [] t (spots_of got.value.marked) (ClassText raw) []) (append-nil (ClassText raw)) got.reads; ends = refl };
      derives = record {
        marked = got.value.marked;
        rule = got.value.rule;
        is = refl;
        keeps = of_parts OF_CLASS_TEXT 7 got.value.marked (subst (AllInLimitsOf OF_CLASS_TEXT 7) (sym got.parts) (to_parts OF_CLASS_TEXT 7 o.0 o.1));
      };
      same = got.value.like;
    }
