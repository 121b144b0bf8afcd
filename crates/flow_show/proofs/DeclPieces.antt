-- Declarations are read back from their texts.
use Rattle.std.proofs.Common.{◌≡◌, ℕ, ◌<◌, List, [], ◌∷◌, ◌++◌, map, length, refl, sym, ap, ap₂, ◌∙◌, subst, arith, append_assoc, length-append}
use Rattle.std.proofs.lemmas.List.{length-map}
use Rattle.std.specs.Prelude.{codes}
use Rattle.flow_base.specs.declared.place.Place.{Place}
use Rattle.flow_tree.specs.declared.token.Word.TheVariants as word
use Rattle.flow_tree.specs.declared.token.Sign.TheVariants as sign
use Rattle.flow_tree.specs.declared.ty.Ty.{Ty}
use Rattle.flow_tree.specs.declared.ty.Ty.TheOpen as layer
use Rattle.flow_tree.specs.declared.ty.Ty.TheOpen.{Ty-F}
use Rattle.flow_tree.specs.declared.decl.RoutineKind.{RoutineKind}
use Rattle.flow_tree.specs.declared.decl.RoutineKind.TheVariants.{Actor}
use Rattle.flow_tree.specs.Tree.{TypeTree, NothingType}
use Rattle.flow_tree.specs.View.{type_of, type_step}
use Rattle.flow_tree.proofs.Views.{by_layer}
use Rattle.flow_tree.specs.Decls.{ParamTree, RecordTree, RoutineTree, DeclTree, StructDecl, FunctionDecl, ActorDecl}
use Rattle.flow_tree.specs.GrammarToken.{Declaration, Node, Variable, Marked, begin}
use Rattle.flow_tree.specs.Grammar.{sign_at, word_at, name_at, FutureOf, FutureStreamOf, PromiseOf, PromiseStreamOf, VectorOf, TypeRule, int_type, bool_type, string_type, void_type, error_type, named_type, wrapped_type}
use Rattle.flow_tree.specs.GrammarStmt.{StmtsRule}
use Rattle.flow_tree.specs.GrammarDecl.{ParamRule, param, FieldsRule, no_fields, more_fields, MoreParamsRule, end_params, more_params, ParamsRule, no_params, some_params, RecordRule, fields, RoutineRule, routine, FunctionRule, function, ActorRule, actor, void_actor, DeclRule, record_decl, function_decl, actor_decl, DeclsRule, no_decls, more_decls}
use Rattle.flow_tree.specs.Canon.{type_text, actor_text, named_text, line, fields_text, more_params_text, params_text, routine_text, decl_text, decls_text, body_text, first_place, placeless_ident, placeless_param, placeless_record, placeless_routine, placeless_decl}
use Rattle.flow_show.proofs.Going.{Piece, Any, nothing, both, as_rule, begun, begin_some, behind, spaced, lined, under, blank}
use Rattle.flow_show.proofs.TokenPieces.{Apart, name_piece, word_piece, sign_piece, Ends, comma_ends, space_ends}
use Rattle.flow_show.proofs.Valid.{AllValid, valid_head, valid_tail, valid_left, valid_right, valid_begun}
use Rattle.flow_show.proofs.ExprPieces.{some_in, type_some, type_piece, space, closed, type_opens, less_by, Closing, closing}
use Rattle.flow_show.proofs.PartPieces.{first_at, starts, starts_some}
use Rattle.flow_show.proofs.StmtPieces.{sign_open, sign_shut, sign_end, braced, curly_open, curly_close, in_braces, stmts_piece}

pub record ParamKept (n : ℕ) (p : ParamTree) : Type 0 where
  pub marked : List Marked
  pub tree : ParamTree
  pub rule : ParamRule n marked tree
  pub like : placeless_param tree ≡ placeless_param p

pub param_piece : {n : ℕ} {m : List Marked} {p : ParamTree} → ParamRule n m p → AllValid m → Piece {X = ParamKept n p} (λ y. y.marked) m (named_text p.ty p.name) Apart
param_piece {n} (param {t = t} x of r e) v =
    let a = valid_begun (Variable n) (of ++ name_at x ∷ []) (subst AllValid e v) in
    as_rule
    (begun (Variable n) (λ y. some_in y.0.marked _ [] refl) (some_in of (name_at x) [] refl)
    (both (type_piece r (valid_left of _ a)) (spaced (name_piece [] x.name x.at (valid_head (valid_right of _ a)))) (λ rest g. space _)))
    (λ y. record { marked = _; tree = _; rule = param (record { name = x.name; at = y.1 }) y.0.marked y.0.rule refl; like = refl })
    (λ y. refl) e (append_assoc (type_text t) (codes " ") x.name)

pub record FieldsKept (n : ℕ) (fs : List ParamTree) : Type 0 where
  pub marked : List Marked
  pub trees : List ParamTree
  pub rule : FieldsRule n marked trees
  pub like : map placeless_param trees ≡ map placeless_param fs

pub fields_piece : {n : ℕ} {m : List Marked} {fs : List ParamTree} → FieldsRule n m fs → AllValid m → Piece {X = FieldsKept n fs} (λ y. y.marked) m (fields_text fs) Any
fields_piece no_fields v = as_rule nothing (λ y. record { marked = _; trees = _; rule = no_fields; like = refl }) (λ y. refl) refl refl
fields_piece (more_fields {f = f} {fs = fs} p xs more r s e) v =
    let a = subst AllValid e v in
    as_rule
    (both (lined 1 (both (param_piece r (valid_left xs _ a)) (sign_end p) (λ rest g. refl)) (λ rest. tt))
    (fields_piece s (valid_tail (valid_right xs _ a))) (λ rest g. tt))
    (λ y. record {
      marked = y.0.0.marked ++ (sign_at sign.Semicolon y.0.1 ∷ y.1.marked);
      trees = y.0.0.tree ∷ y.1.trees;
      rule = more_fields y.0.1 y.0.0.marked y.1.marked y.0.0.rule y.1.rule refl;
      like = ap₂ (λ u us. u ∷ us) y.0.0.like y.1.like;
    })
    (λ y. sym (append_assoc y.0.0.marked (sign_at sign.Semicolon y.0.1 ∷ []) y.1.marked)) (e ∙ sym (append_assoc xs (sign_at sign.Semicolon p ∷ []) more)) refl

pub record MoreParamsKept (n : ℕ) (ps : List ParamTree) : Type 0 where
  pub marked : List Marked
  pub trees : List ParamTree
  pub rule : MoreParamsRule n marked trees
  pub like : map placeless_param trees ≡ map placeless_param ps

pub record ParamsKept (ps : List ParamTree) : Type 0 where
  pub marked : List Marked
  pub trees : List ParamTree
  pub rule : ParamsRule marked trees
  pub like : map placeless_param trees ≡ map placeless_param ps

more_apart : (ps : List ParamTree) (rest : List ℕ) → Closing rest → Apart (more_params_text ps ++ rest)
more_apart [] rest (closing w) = refl
more_apart (p ∷ ps) rest (closing w) = refl

pub sign_comma : (p : Place) → Piece {X = Place} (λ x. sign_at sign.Comma x ∷ []) (sign_at sign.Comma p ∷ []) (44 ∷ []) Any
sign_comma p = under (sign_piece [] sign.Comma p) (λ rest g. comma_ends rest)

more_params_piece : {n : ℕ} {m : List Marked} {ps : List ParamTree} → MoreParamsRule n m ps → AllValid m → Piece {X = MoreParamsKept n ps} (λ y. y.marked) m (more_params_text ps) Closing
more_params_piece end_params v = as_rule nothing (λ y. record { marked = _; trees = _; rule = end_params; like = refl }) (λ y. refl) refl refl
more_params_piece (more_params {f = f} {fs = fs} p xs more r s e) v =
    let a = valid_tail (subst AllValid e v) in
    as_rule
    (both (sign_comma p) (spaced (both (param_piece r (valid_left xs _ a)) (more_params_piece s (valid_right xs _ a)) (λ rest g. more_apart fs rest g))) (λ rest g. tt))
    (λ y. record { marked = _; trees = _; rule = more_params y.0 y.1.0.marked y.1.1.marked y.1.0.rule y.1.1.rule refl; like = ap₂ (λ u us. u ∷ us) y.1.0.like y.1.1.like })
    (λ y. refl) e refl

pub params_piece : {m : List Marked} {ps : List ParamTree} → ParamsRule m ps → AllValid m → Piece {X = ParamsKept ps} (λ y. y.marked) m (params_text ps) Closing
params_piece no_params v = as_rule nothing (λ y. record { marked = _; trees = _; rule = no_params; like = refl }) (λ y. refl) refl refl
params_piece (some_params {f = f} {fs = fs} first more r s e) v =
    let a = subst AllValid e v in
    as_rule (both (param_piece r (valid_left first _ a)) (more_params_piece s (valid_right first _ a)) (λ rest g. more_apart fs rest g))
    (λ y. record { marked = _; trees = _; rule = some_params y.0.marked y.1.marked y.0.rule y.1.rule refl; like = ap₂ (λ u us. u ∷ us) y.0.like y.1.like })
    (λ y. refl) e refl

-- records

pub record RecordKept (r : RecordTree) : Type 0 where
  pub marked : List Marked
  pub tree : RecordTree
  pub rule : RecordRule marked tree
  pub like : placeless_record tree ≡ placeless_record r

record_by : (h w : List ℕ) → line 0 (h ++ codes " {") ++ w ++ line 0 (codes "};") ≡ line 0 (h ++ (32 ∷ (123 ∷ (10 ∷ (w ++ (125 ∷ (59 ∷ [])))))))
record_by h w = simp append_assoc refl

record_text : (n w : List ℕ) → line 0 (codes "struct " ++ n ++ codes " {") ++ w ++ line 0 (codes "};") ≡ line 0 (codes "struct " ++ (n ++ (32 ∷ (123 ∷ (10 ∷ (w ++ (125 ∷ (59 ∷ []))))))))
record_text n w = record_by (codes "struct " ++ n) w

nil_cons : {X : Type 0} (x : X) (xs : List X) → [] ≡ x ∷ xs → ⊥
nil_cons x xs e = cc

pub record_piece : {m : List Marked} {t : RecordTree} → RecordRule m t → AllValid m → Piece {X = RecordKept t} (λ y. y.marked) m (decl_text (StructDecl t)) Any
record_piece (fields {f = f} {fs = fs} at p q r x xs rule e) v =
    let a = valid_tail (subst AllValid e v) in
    as_rule
    (lined 0 (both (word_piece [] word.Struct at) (spaced (both (name_piece [] x.name x.at (valid_head a))
    (spaced (both (curly_open p) (behind (blank 10 refl) (both (fields_piece rule (valid_left xs _ (valid_tail (valid_tail a))))
    (both (curly_close q) (sign_end r) (λ rest g. tt)) (λ rest g. tt))) (λ rest g. tt))) (λ rest g. refl))) (λ rest g. refl)) (λ rest. tt))
    (λ y. kept y.0 y.1.0 y.1.1.0 y.1.1.1.1.0 y.1.1.1.1.1 y.1.1.1.0.marked y.1.1.1.0.trees y.1.1.1.0.rule y.1.1.1.0.like)
    (λ y. kept_marks y.0 y.1.0 y.1.1.0 y.1.1.1.1.0 y.1.1.1.1.1 y.1.1.1.0.marked y.1.1.1.0.trees y.1.1.1.0.rule y.1.1.1.0.like)
    e (record_text x.name (fields_text (f ∷ fs)))
  where
    kept : (at' x' p' q' r' : Place) (xs' : List Marked) (ts : List ParamTree) → FieldsRule 1 xs' ts → map placeless_param ts ≡ map placeless_param (f ∷ fs)
        → RecordKept (record { at = at; name = x; fields = f ∷ fs })
    kept at' x' p' q' r' xs' [] rule' like = absurd (nil_cons _ _ like)
    kept at' x' p' q' r' xs' (t ∷ ts) rule' like = record {
      marked = _;
      tree = _;
      rule = fields at' p' q' r' (record { name = x.name; at = x' }) xs' rule' refl;
      like = ap (λ l. record { at = first_place; name = placeless_ident x; fields = l }) like;
    }

    kept_marks : (at' x' p' q' r' : Place) (xs' : List Marked) (ts : List ParamTree) (rule' : FieldsRule 1 xs' ts) (like : map placeless_param ts ≡ map placeless_param (f ∷ fs))
        → (kept at' x' p' q' r' xs' ts rule' like).marked ≡ word_at word.Struct at'
        ∷ (name_at (record { name = x.name; at = x' }) ∷ (sign_at sign.OpenCurly p' ∷ (xs' ++ (sign_at sign.CloseCurly q' ∷ (sign_at sign.Semicolon r' ∷ [])))))
    kept_marks at' x' p' q' r' xs' [] rule' like = absurd (nil_cons _ _ like)
    kept_marks at' x' p' q' r' xs' (t ∷ ts) rule' like = refl

-- functions and actors behind their result

pub record RoutineKept (home : RoutineKind) (t : TypeTree) (r : RoutineTree) : Type 0 where
  pub marked : List Marked
  pub make : Place → RoutineTree
  pub rule : (at : Place) → RoutineRule home at t marked (make at)
  pub like : (at : Place) → placeless_routine (make at) ≡ placeless_routine r

abbrev tail_text : RoutineTree → List ℕ
tail_text r = r.name.name ++ (40 ∷ (params_text r.params ++ (41 ∷ (32 ∷ braced 0 (body_text 1 r.body)))))

routine_is : (w : List ℕ) (r : RoutineTree) → routine_text w r ≡ line 0 (w ++ (32 ∷ tail_text r))
routine_is w r = routine_by w r.name.name (params_text r.params) (body_text 1 r.body)
  where
    routine_by : (w n p b : List ℕ) → line 0 (w ++ codes " " ++ n ++ codes "(" ++ p ++ codes ") {") ++ b ++ line 0 (codes "}") ≡ line 0 (w ++ (32 ∷ (n ++ (40 ∷ (p ++ (41 ∷ (32 ∷ braced 0 b)))))))
    routine_by w n p b = simp append_assoc refl

same_length : (xs ys : List ParamTree) → map placeless_param xs ≡ map placeless_param ys → length ys ≡ length xs
same_length xs ys e = omega (arith, ap length e, length-map xs placeless_param, length-map ys placeless_param)

pub routine_piece : {home : RoutineKind} {at : Place} {t : TypeTree} {m : List Marked} {r : RoutineTree} → RoutineRule home at t m r → AllValid m
    → Piece {X = RoutineKept home t r} (λ y. y.marked) m (tail_text r) Any
routine_piece {home} {at} {t} (routine {c = c} {ps = ps} p q r close x params xs pr sr e) v =
    let a = subst AllValid e v in
    let second = valid_right params _ (valid_tail (valid_tail a)) in
    as_rule
    (both (name_piece [] x.name x.at (valid_head a)) (both (sign_open p) (both (params_piece pr (valid_left params _ (valid_tail (valid_tail a))))
    (both (sign_shut q) (spaced (in_braces 0 r close (stmts_piece 1 sr (valid_left xs _ (valid_tail (valid_tail second)))))) (λ rest g. tt)) (λ rest g. closing _)) (λ rest g. tt)) (λ rest g. refl))
    (λ y. record {
      marked = _;
      make = λ at'. record { at = at'; returns = t; name = record { name = x.name; at = y.0 }; params = y.1.1.0.trees; body = y.1.1.1.1.1.0.tree; close = y.1.1.1.1.1.1 };
      rule = λ at'. routine y.1.0 y.1.1.1.0 y.1.1.1.1.0 y.1.1.1.1.1.1 (record { name = x.name; at = y.0 }) y.1.1.0.marked y.1.1.1.1.1.0.marked y.1.1.0.rule
          (subst (λ n. StmtsRule home 2 (record { statements = 0; variables = n }) c y.1.1.1.1.1.0.marked y.1.1.1.1.1.0.tree) (same_length y.1.1.0.trees ps y.1.1.0.like) y.1.1.1.1.1.0.rule) refl;
      like = λ at'. λ i. record { at = first_place; returns = t; name = placeless_ident x; params = y.1.1.0.like i; body = y.1.1.1.1.1.0.like i; close = first_place };
    })
    (λ y. refl) e refl

-- what has a text, and each type of the code, is a value's, and an actor gives its future
pub future_text : (t : Ty) → actor_text (type_of t) ≡ codes "ACTOR Future<" ++ type_text (type_of t) ++ codes ">"
future_text = by_layer (λ t. actor_text t ≡ codes "ACTOR Future<" ++ type_text t ++ codes ">") layer_text
  where
    layer_text : (l : Ty-F TypeTree) → actor_text (type_step l) ≡ codes "ACTOR Future<" ++ type_text (type_step l) ++ codes ">"
    layer_text layer.Int = refl
    layer_text layer.Bool = refl
    layer_text layer.Str = refl
    layer_text layer.Void = refl
    layer_text layer.Error = refl
    layer_text (layer.Named n) = refl
    layer_text (layer.Future t) = refl
    layer_text (layer.FutureStream t) = refl
    layer_text (layer.Promise t) = refl
    layer_text (layer.PromiseStream t) = refl
    layer_text (layer.Vector t) = refl

read_text : {d : ℕ} {m : List Marked} {t : TypeTree} → TypeRule d m t → actor_text t ≡ codes "ACTOR Future<" ++ type_text t ++ codes ">"
read_text (int_type p) = refl
read_text (bool_type p) = refl
read_text (string_type p) = refl
read_text (void_type p) = refl
read_text (error_type p) = refl
read_text (named_type x) = refl
read_text (wrapped_type FutureOf p q r of k e) = refl
read_text (wrapped_type FutureStreamOf p q r of k e) = refl
read_text (wrapped_type PromiseOf p q r of k e) = refl
read_text (wrapped_type PromiseStreamOf p q r of k e) = refl
read_text (wrapped_type VectorOf p q r of k e) = refl

returns_is : {home : RoutineKind} {at : Place} {t : TypeTree} {m : List Marked} {r : RoutineTree} → RoutineRule home at t m r → r.returns ≡ t
returns_is (routine p q r close x params xs pr sr e) = refl

-- functions

pub record FunctionKept (home : RoutineKind) (f : RoutineTree) : Type 0 where
  pub marked : List Marked
  pub tree : RoutineTree
  pub rule : FunctionRule home marked tree
  pub like : placeless_routine tree ≡ placeless_routine f
  pub some : 0 < length marked

pub function_some : {home : RoutineKind} {m : List Marked} {f : RoutineTree} → FunctionRule home m f → 0 < length m
function_some (function at of xs tr rr e st) = starts_some _ at st

pub function_piece : {home : RoutineKind} {m : List Marked} {f : RoutineTree} → FunctionRule home m f → AllValid m
    → Piece {X = FunctionKept home f} (λ y. y.marked) m (decl_text (FunctionDecl f)) Any
function_piece (function {t = t} {f = f} at of xs tr rr e st) v =
    let a = subst AllValid e v in
    as_rule
    (lined 0 (both (type_piece tr (valid_left of _ a)) (spaced (routine_piece rr (valid_right of _ a))) (λ rest g. space _)) (λ rest. tt))
    (λ y. record {
      marked = _;
      tree = _;
      rule = function (first_at y.0.marked) y.0.marked y.1.marked y.0.rule (y.1.rule (first_at y.0.marked)) refl (starts y.0.marked _ (type_some y.0.rule));
      like = y.1.like (first_at y.0.marked);
      some = omega (arith, length-append y.0.marked y.1.marked, type_some y.0.rule);
    })
    (λ y. refl) e (routine_is (type_text f.returns) f ∙ ap (λ u. line 0 (type_text u ++ (32 ∷ tail_text f))) (returns_is rr))

-- actors

pub record ActorKept (f : RoutineTree) : Type 0 where
  pub marked : List Marked
  pub tree : RoutineTree
  pub rule : ActorRule marked tree
  pub like : placeless_routine tree ≡ placeless_routine f
  pub some : 0 < length marked

pub actor_some : {m : List Marked} {f : RoutineTree} → ActorRule m f → 0 < length m
actor_some (actor at p q r of xs tr rr e) = some_in [] _ _ e
actor_some (void_actor at p xs rr e) = some_in [] _ _ e

actor_is : {at : Place} {t : TypeTree} {m : List Marked} (f : RoutineTree) → RoutineRule Actor at t m f → decl_text (ActorDecl f) ≡ line 0 (actor_text t ++ (32 ∷ tail_text f))
actor_is f rr = routine_is (actor_text f.returns) f ∙ ap (λ u. line 0 (actor_text u ++ (32 ∷ tail_text f))) (returns_is rr)

pub actor_piece : {m : List Marked} {f : RoutineTree} → ActorRule m f → AllValid m → Piece {X = ActorKept f} (λ y. y.marked) m (decl_text (ActorDecl f)) Any
actor_piece (actor {t = t} {f = f} at p q r of xs tr rr e) v =
    let a = valid_tail (valid_tail (valid_tail (subst AllValid e v))) in
    let inner = valid_left of _ a in
    as_rule
    (lined 0 (both (word_piece [] word.Actor at) (spaced (both (word_piece [] word.Future p) (both (sign_piece [] sign.Less q) (both (type_piece tr inner)
    (both (sign_piece [] sign.Greater r) (spaced (routine_piece rr (valid_tail (valid_right of _ a)))) (λ rest g. space_ends sign.Greater _)) (λ rest g. closed _))
    (λ rest g. subst (λ l. Ends sign.Less l) (sym (append_assoc (type_text t) (62 ∷ (32 ∷ tail_text f)) rest)) (less_by _ (type_opens ((62 ∷ (32 ∷ tail_text f)) ++ rest) tr inner))))
    (λ rest g. refl))) (λ rest g. refl)) (λ rest. tt))
    (λ y. record {
      marked = _;
      tree = _;
      rule = actor y.0 y.1.0 y.1.1.0 y.1.1.1.1.0 y.1.1.1.0.marked y.1.1.1.1.1.marked y.1.1.1.0.rule (y.1.1.1.1.1.rule y.0) refl;
      like = y.1.1.1.1.1.like y.0;
      some = omega arith;
    })
    (λ y. refl) e
    (actor_is f rr ∙ ap (λ w. line 0 (w ++ (32 ∷ tail_text f))) (read_text tr)
    ∙ ap (λ l. line 0 (codes "ACTOR Future<" ++ l)) (append_assoc (type_text t) (codes ">") (32 ∷ tail_text f)))
actor_piece (void_actor {f = f} at p xs rr e) v =
    as_rule
    (lined 0 (both (word_piece [] word.Actor at) (spaced (both (word_piece [] word.NoResult p) (spaced (routine_piece rr (valid_tail (valid_tail (subst AllValid e v)))))
    (λ rest g. refl))) (λ rest g. refl)) (λ rest. tt))
    (λ y. record {
      marked = _;
      tree = _;
      rule = void_actor y.0 y.1.0 y.1.1.marked (y.1.1.rule y.0) refl;
      like = y.1.1.like y.0;
      some = omega arith;
    })
    (λ y. refl) e (actor_is f rr)

-- declarations

pub record DeclKept (x : DeclTree) : Type 0 where
  pub marked : List Marked
  pub tree : DeclTree
  pub rule : DeclRule marked tree
  pub like : placeless_decl tree ≡ placeless_decl x
  pub some : 0 < length marked

pub record_some : {m : List Marked} {r : RecordTree} → RecordRule m r → 0 < length m
record_some (fields at p q r x xs rule e) = some_in [] _ _ e

pub decl_some : {m : List Marked} {x : DeclTree} → DeclRule m x → 0 < length m
decl_some (record_decl r) = record_some r
decl_some (function_decl f) = function_some f
decl_some (actor_decl a) = actor_some a

pub decl_piece : {m : List Marked} {x : DeclTree} → DeclRule m x → AllValid m → Piece {X = DeclKept x} (λ y. y.marked) m (decl_text x) Any
decl_piece (record_decl r) v =
    as_rule (record_piece r v) (λ y. record { marked = y.marked; tree = _; rule = record_decl y.rule; like = ap StructDecl y.like; some = record_some y.rule }) (λ y. refl) refl refl
decl_piece (function_decl f) v =
    as_rule (function_piece f v) (λ y. record { marked = y.marked; tree = _; rule = function_decl y.rule; like = ap FunctionDecl y.like; some = y.some }) (λ y. refl) refl refl
decl_piece (actor_decl a) v =
    as_rule (actor_piece a v) (λ y. record { marked = y.marked; tree = _; rule = actor_decl y.rule; like = ap ActorDecl y.like; some = y.some }) (λ y. refl) refl refl

pub record DeclsKept (n : ℕ) (xs : List DeclTree) : Type 0 where
  pub marked : List Marked
  pub trees : List DeclTree
  pub rule : DeclsRule n marked trees
  pub like : map placeless_decl trees ≡ map placeless_decl xs

pub decls_piece : {n : ℕ} {m : List Marked} {xs : List DeclTree} → DeclsRule n m xs → AllValid m → Piece {X = DeclsKept n xs} (λ y. y.marked) m (decls_text xs) Any
decls_piece no_decls v = as_rule nothing (λ y. record { marked = _; trees = _; rule = no_decls; like = refl }) (λ y. refl) refl refl
decls_piece {n} (more_decls {x = x} {xs = xs} first more r s e) v =
    let a = subst AllValid e v in
    let own = begin (Declaration n) (begin (Node 1) first) in
    as_rule
    (both (begun (Declaration n) (λ y. begin_some (Node 1) _ y.some) (begin_some (Node 1) _ (decl_some r))
    (begun (Node 1) (λ y. y.some) (decl_some r) (decl_piece r (valid_begun (Node 1) first (valid_begun (Declaration n) (begin (Node 1) first) (valid_left own _ a))))))
    (decls_piece s (valid_right own _ a)) (λ rest g. tt))
    (λ y. record { marked = _; trees = _; rule = more_decls y.0.marked y.1.marked y.0.rule y.1.rule refl; like = ap₂ (λ u us. u ∷ us) y.0.like y.1.like })
    (λ y. refl) e refl
