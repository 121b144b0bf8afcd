-- How declarations are read.
use Rattle.std.proofs.Common.{◌≡◌, ℕ, suc, ◌+◌, ◌≤◌, ◌<◌, List, [], ◌∷◌, ◌++◌, length, refl, sym, ap, ◌∙◌, subst, arith, append_assoc}
use Rattle.std.specs.declared.option.Option.{Option}
use Rattle.std.specs.declared.option.Option.TheVariants.{None, Some}
use Rattle.flow_tree.specs.declared.limits.Limits.{Limits}
use Rattle.flow_base.specs.declared.place.Place.{Place}
use Rattle.flow_tree.specs.declared.token.Token.{Token}
use Rattle.flow_tree.specs.declared.token.Token.TheVariants as token
use Rattle.flow_tree.specs.declared.token.Word.TheVariants as word
use Rattle.flow_tree.specs.declared.token.Sign.TheVariants as sign
use Rattle.flow_tree.specs.declared.token.Spot.{Spot}
use Rattle.flow_tree.specs.declared.token.Tokens.{Tokens}
use Rattle.flow_tree.specs.declared.ty.Ident.{Ident}
use Rattle.flow_tree.specs.declared.decl.RoutineKind.{RoutineKind}
use Rattle.flow_tree.specs.declared.decl.RoutineKind.TheVariants as routines
use Rattle.flow_tree.specs.Tree.{TypeTree, NothingType}
use Rattle.flow_tree.specs.Decls.{ParamTree, RoutineTree, DeclTree, StructDecl, FunctionDecl, ActorDecl}
use Rattle.flow_tree.specs.GrammarToken.{Declaration, Variable, Marked, begin}
use Rattle.flow_tree.specs.Grammar.{sign_at, word_at, name_at, TypeRule}
use Rattle.flow_tree.specs.GrammarStmt.{StartsAt}
use Rattle.flow_tree.specs.GrammarAnswer.{place_at}
use Rattle.flow_tree.specs.GrammarDecl.{ParamRule, param, FieldsRule, no_fields, more_fields, end_params, more_params, no_params, some_params, RecordRule, fields, RoutineRule, routine, function, ActorRule, actor, void_actor, DeclRule, record_decl, function_decl, actor_decl, DeclsRule, no_decls, more_decls}
use Rattle.flow_parse.specs.Reading.{token_at, Tok, Named, Then, Any, Reads}
use Rattle.flow_parse.specs.Follow.{AtEnd}
use Rattle.flow_parse.specs.Parts.{Placed, Marks, Block, FieldsPart, AllFields, MoreParams, Params, Routine, Record, Function, Gives, gives, gives_nothing, Actor}
use Rattle.flow_parse.proofs.Leaves.{Leaves, Link, free, Turns, nothing, narrow, then_reads, tok_reads, empty, glue, behind, starts_append}
use Rattle.flow_parse.proofs.Failing.{Inhabited}
use Rattle.flow_parse.proofs.Inhabitants.{some_then, some_opening, some_named, some_type, some_block, some_param, some_fields, some_all_fields, some_more_params, some_params as params_inhabited, some_routine, some_gives, some_decls}
use Rattle.flow_parse.proofs.DeclBacks.{param_back, no_params_back, params_back, more_params_back, end_params_back, end_fields_back, more_fields_back, all_fields_back, routine_back, record_tree, function_tree, actor_tree, record_part_back, function_part_back, gives_nothing_back, gives_back, actor_part_back, record_kind_back, function_kind_back, actor_kind_back, DeclMarks, end_decls_back, decls_back}
use Rattle.flow_parse.proofs.Stmts.{closed_by}
use Rattle.flow_parse.proofs.Shapes.{TypeName}

pub record_rule : (at p q r : Place) (x : Ident) (xs w : List Marked) (fs : List ParamTree) → FieldsRule 1 xs fs → 0 < length fs
    → w ≡ word_at word.Struct at ∷ name_at x ∷ sign_at sign.OpenCurly p ∷ (xs ++ (sign_at sign.CloseCurly q ∷ sign_at sign.Semicolon r ∷ [])) → RecordRule w (record { at = at; name = x; fields = fs })
record_rule at p q r x xs w [] f l e = absurd (omega arith)
record_rule at p q r x xs w (y ∷ ys) f l e = fields at p q r x xs f e

some_more : {A : Type 0} (x : A) (xs : List A) → 0 < length (x ∷ xs)
some_more x xs = omega arith

-- what follows each part of a sequence, and that there is some
pub params_link : Link (ParamRule 1) Any (λ f. MoreParams 2) Any
params_link = free (λ f. some_more_params 2)

pub more_params_link : (n : ℕ) → Link (Tok (token.Sign sign.Comma)) Any (λ p. Then (ParamRule n) (λ f. MoreParams (suc n))) Any
more_params_link n = free (λ p. some_then (ParamRule n) (λ f. MoreParams (suc n)) (some_param n) (λ f. some_more_params (suc n)))

pub next_param_link : (n : ℕ) → Link (ParamRule n) Any (λ f. MoreParams (suc n)) Any
next_param_link n = free (λ f. some_more_params (suc n))

pub field_link : (n : ℕ) → Link (ParamRule n) Any (λ f. Then (Tok (token.Sign sign.Semicolon)) (λ p. FieldsPart (suc n))) Any
field_link n = free (λ f. some_then (Tok (token.Sign sign.Semicolon)) (λ p. FieldsPart (suc n)) (some_opening [] (token.Sign sign.Semicolon)) (λ p. some_fields (suc n)))

pub semicolon_link : (n : ℕ) → Link (Tok (token.Sign sign.Semicolon)) Any (λ p. FieldsPart n) Any
semicolon_link n = free (λ p. some_fields n)

-- "struct" name "{" fields "}" ";"
pub record_fields_link : Link AllFields Any (λ fs. Tok (token.Sign sign.Semicolon)) Any
record_fields_link = free (λ fs. some_opening [] (token.Sign sign.Semicolon))

some_record_fields : Inhabited (Then AllFields (λ fs. Tok (token.Sign sign.Semicolon)))
some_record_fields = some_then AllFields (λ fs. Tok (token.Sign sign.Semicolon)) some_all_fields (λ fs. some_opening [] (token.Sign sign.Semicolon))

pub record_open_link : Link (Tok (token.Sign sign.OpenCurly)) Any (λ q. Then AllFields (λ fs. Tok (token.Sign sign.Semicolon))) Any
record_open_link = free (λ q. some_record_fields)

some_record_open : Inhabited (Then (Tok (token.Sign sign.OpenCurly)) (λ q. Then AllFields (λ fs. Tok (token.Sign sign.Semicolon))))
some_record_open = some_then (Tok (token.Sign sign.OpenCurly)) (λ q. Then AllFields (λ fs. Tok (token.Sign sign.Semicolon))) (some_opening [] (token.Sign sign.OpenCurly)) (λ q. some_record_fields)

pub record_name_link : Link Named Any (λ x. Then (Tok (token.Sign sign.OpenCurly)) (λ q. Then AllFields (λ fs. Tok (token.Sign sign.Semicolon)))) Any
record_name_link = free (λ x. some_record_open)

pub struct_link : Link (Tok (token.Word word.Struct)) Any (λ p. Then Named (λ x. Then (Tok (token.Sign sign.OpenCurly)) (λ q. Then AllFields (λ fs. Tok (token.Sign sign.Semicolon))))) Any
struct_link = free (λ p. some_then Named (λ x. Then (Tok (token.Sign sign.OpenCurly)) (λ q. Then AllFields (λ fs. Tok (token.Sign sign.Semicolon)))) some_named (λ x. some_record_open))

-- name "(" params ")" block
pub routine_params_link : (home : RoutineKind) → Link Params Any (λ ps. Block home 2 (record { statements = 0; variables = length ps })) Any
routine_params_link home = free (λ ps. some_block home 2 (record { statements = 0; variables = length ps }))

some_routine_params : (home : RoutineKind) → Inhabited (Then Params (λ ps. Block home 2 (record { statements = 0; variables = length ps })))
some_routine_params home = some_then Params (λ ps. Block home 2 (record { statements = 0; variables = length ps })) params_inhabited
    (λ ps. some_block home 2 (record { statements = 0; variables = length ps }))

pub routine_open_link : (home : RoutineKind) → Link (Tok (token.Sign sign.OpenRound)) Any (λ p. Then Params (λ ps. Block home 2 (record { statements = 0; variables = length ps }))) Any
routine_open_link home = free (λ p. some_routine_params home)

pub routine_name_link : (home : RoutineKind) → Link Named Any (λ x. Then (Tok (token.Sign sign.OpenRound)) (λ p. Then Params (λ ps. Block home 2 (record { statements = 0; variables = length ps })))) Any
routine_name_link home = free (λ x. some_then (Tok (token.Sign sign.OpenRound)) (λ p. Then Params (λ ps. Block home 2 (record { statements = 0; variables = length ps })))
    (some_opening [] (token.Sign sign.OpenRound)) (λ p. some_routine_params home))

-- type routine
pub function_link : (home : RoutineKind) → Link (Placed (TypeRule 1)) Any (λ y. Routine home) Any
function_link home = free (λ y. some_routine home)

-- "Future" "<" type ">"
pub result_link : Link (TypeRule 2) Any (λ y. Tok (token.Sign sign.Greater)) Any
result_link = free (λ y. some_opening [] (token.Sign sign.Greater))

some_result : Inhabited (Then (TypeRule 2) (λ y. Tok (token.Sign sign.Greater)))
some_result = some_then (TypeRule 2) (λ y. Tok (token.Sign sign.Greater)) (some_type 2) (λ y. some_opening [] (token.Sign sign.Greater))

pub less_link : Link (Tok (token.Sign sign.Less)) Any (λ s. Then (TypeRule 2) (λ y. Tok (token.Sign sign.Greater))) Any
less_link = free (λ s. some_result)

pub future_link : Link (Tok (token.Word word.Future)) Any (λ q. Then (Tok (token.Sign sign.Less)) (λ s. Then (TypeRule 2) (λ y. Tok (token.Sign sign.Greater)))) Any
future_link = free (λ q. some_then (Tok (token.Sign sign.Less)) (λ s. Then (TypeRule 2) (λ y. Tok (token.Sign sign.Greater))) (some_opening [] (token.Sign sign.Less)) (λ s. some_result))

-- "ACTOR", what it gives, and its routine
pub gives_link : Link Gives Any (λ y. Routine routines.Actor) Any
gives_link = free (λ y. some_routine routines.Actor)

pub actor_link : Link (Tok (token.Word word.Actor)) Any (λ p. Then Gives (λ y. Routine routines.Actor)) Any
actor_link = free (λ p. some_then Gives (λ y. Routine routines.Actor) some_gives (λ y. some_routine routines.Actor))

actor_rule : {w of xs : List Marked} {y : TypeTree} {f : RoutineTree} (at : Place) → Gives of y → RoutineRule routines.Actor at y xs f → w ≡ word_at word.Actor at ∷ (of ++ xs) → ActorRule w f
actor_rule {xs = xs} at (gives p q r of t e) u k = actor at p q r of xs t u (k ∙ ap (λ z. word_at word.Actor at ∷ (z ++ xs)) e
    ∙ ap (λ z. word_at word.Actor at ∷ word_at word.Future p ∷ sign_at sign.Less q ∷ z) (append_assoc of (sign_at sign.Greater r ∷ []) xs))
actor_rule {xs = xs} at (gives_nothing p) u k = void_actor at p xs u k

-- declarations one after another
pub decls_link : (n : ℕ) → Link (DeclMarks n) Any (λ x. DeclsRule (suc n)) (λ x. AtEnd x.1)
decls_link n = free (λ x. some_decls (suc n))

module _ (limits : Limits) (t : Tokens) (at : ℕ) (h : at ≤ length t.spots.items) where
  pub param_left : (n : ℕ) → Leaves limits (ParamRule n) Any (Marks (Variable n) TypeName) Any (λ x. record { ty = x.0; name = x.1 }) t.spots.items at at
  param_left n = narrow limits t.spots.items refl (record {
    back = λ w z b r f l. param_back z r;
    forth = λ u x r. param x.1 r.1.first r.1.front (r.2 ∙ ap (begin (Variable n)) (glue _ r.1.is r.1.back));
  }) (nothing limits t.spots.items (ParamRule n) Any at h)

  pub no_params_left : token_at t.spots.items at ≡ Some (token.Sign sign.CloseRound) → Leaves limits Params Any (Tok (token.Sign sign.CloseRound)) Any (λ p. []) t.spots.items at at
  no_params_left e = narrow limits t.spots.items e (record { back = λ w z b r f l. no_params_back z r l; forth = λ u p r. (p, [], no_params, r) }) (nothing limits t.spots.items Params Any at h)

  pub params_left : (token_at t.spots.items at ≡ Some (token.Sign sign.CloseRound) → ⊥) → Leaves limits Params Any (Then (ParamRule 1) (λ f. MoreParams 2)) Any (λ x. x.0 ∷ x.1) t.spots.items at at
  params_left n = narrow limits t.spots.items refl (record {
    back = λ w z b r f l. params_back z (token_at t.spots.items at) n r l;
    forth = λ u x r. (r.back.0, r.first ++ r.back.1, some_params r.first r.back.1 r.front r.back.2 refl, glue _ r.is r.back.3 ∙ sym (append_assoc r.first r.back.1 _));
  })
      (nothing limits t.spots.items Params Any at h)

  pub fields_left : Leaves limits AllFields Any (Then (ParamRule 1) (λ f. Then (Tok (token.Sign sign.Semicolon)) (λ p. FieldsPart 2))) Any (λ x. x.0 ∷ x.1.1) t.spots.items at at
  fields_left = narrow limits t.spots.items refl (record {
    back = λ w z b r f l. all_fields_back z r;
    forth = λ u x r.
        let k = r.back.back in (
          (
            k.0,
            r.first ++ (sign_at sign.Semicolon x.1.0 ∷ k.1),
            more_fields x.1.0 r.first k.1 r.front k.2 refl,
            glue _ r.is (behind r.back.is r.back.front k.3)
                ∙ sym (append_assoc r.first (sign_at sign.Semicolon x.1.0 ∷ k.1) _),
          ),
          some_more x.0 x.1.1,
        );
  }) (nothing limits t.spots.items AllFields Any at h)

  pub record_left : Leaves limits Record Any (Then (Tok (token.Word word.Struct))
      (λ p. Then Named (λ x. Then (Tok (token.Sign sign.OpenCurly)) (λ q. Then AllFields (λ fs. Tok (token.Sign sign.Semicolon)))))) Any record_tree t.spots.items at at
  record_left = narrow limits t.spots.items refl (record {
    back = λ w z b r f l. record_part_back z r;
    forth = λ u x r.
        let k = r.back.back.back in
        (record_rule x.0 x.1.1.0 k.front.0.0 x.1.1.1.1 x.1.0 k.front.0.1 u x.1.1.1.0 k.front.0.2 k.front.1
        (behind r.is r.front (behind r.back.is r.back.front (behind r.back.back.is r.back.back.front (closed_by _ _ k.is k.front.0.3 k.back)))));
  }) (nothing limits t.spots.items Record Any at h)

  pub routine_left : (home : RoutineKind) → Leaves limits (Routine home) Any
      (Then Named (λ x. Then (Tok (token.Sign sign.OpenRound)) (λ p. Then Params (λ ps. Block home 2 (record { statements = 0; variables = length ps }))))) Any
      (λ x. record { name = x.0; params = x.1.1.0; body = x.1.1.1.body; close = x.1.1.1.close }) t.spots.items at at
  routine_left home = narrow limits t.spots.items refl (record {
    back = λ w z b r f l. routine_back z r;
    forth = λ u x r p y.
        let k = r.back.back in
        routine x.1.0 k.front.0 k.back.0 x.1.1.1.close x.0 k.front.1 k.back.1 k.front.2 k.back.2 (behind r.is r.front (behind r.back.is r.back.front (closed_by _ _ k.is k.front.3 k.back.3)));
  }) (nothing limits t.spots.items (Routine home) Any at h)

  pub function_left : (home : RoutineKind) → Leaves limits (Function home) Any (Then (Placed (TypeRule 1)) (λ y. Routine home)) Any function_tree t.spots.items at at
  function_left home = narrow limits t.spots.items refl (record {
    back = λ w z b r f l. function_part_back z r;
    forth = λ u x r. function x.0.0 r.first r.rest r.front.1 (r.back x.0.0 x.0.1) r.is (subst (λ z. StartsAt z x.0.0) (sym r.is) (starts_append r.first r.rest x.0.0 r.front.0));
  }) (nothing limits t.spots.items (Function home) Any at h)

  -- what an actor gives
  pub gives_nothing_left : token_at t.spots.items at ≡ Some (token.Word word.NoResult)
      → Leaves limits Gives Any (Tok (token.Word word.NoResult)) Any (λ p. NothingType) t.spots.items at at
  gives_nothing_left e = narrow limits t.spots.items e (record { back = λ w z b r f l. gives_nothing_back z r l; forth = λ u p r. subst (λ k. Gives k NothingType) (sym r) (gives_nothing p) })
      (nothing limits t.spots.items Gives Any at h)

  pub gives_left : (token_at t.spots.items at ≡ Some (token.Word word.NoResult) → ⊥)
      → Leaves limits Gives Any (Then (Tok (token.Word word.Future)) (λ p. Then (Tok (token.Sign sign.Less)) (λ s. Then (TypeRule 2) (λ y. Tok (token.Sign sign.Greater))))) Any (λ x. x.1.1.0)
      t.spots.items at at
  gives_left n = narrow limits t.spots.items refl (record {
    back = λ w z b r f l. gives_back z (token_at t.spots.items at) n r l;
    forth = λ u x r. gives x.0 x.1.0 x.1.1.1 r.back.back.first r.back.back.front
        (behind r.is r.front (behind r.back.is r.back.front (glue _ r.back.back.is r.back.back.back)));
  }) (nothing limits t.spots.items Gives Any at h)

  pub actor_left : Leaves limits Actor Any (Then (Tok (token.Word word.Actor)) (λ p. Then Gives (λ y. Routine routines.Actor))) Any actor_tree t.spots.items at at
  actor_left = narrow limits t.spots.items refl (record {
    back = λ w z b r f l. actor_part_back z r;
    forth = λ u x r. actor_rule x.0 r.back.front (r.back.back x.0 x.1.0) (behind r.is r.front r.back.is);
  }) (nothing limits t.spots.items Actor Any at h)

  -- behind the word that begins it
  pub struct_read : token_at t.spots.items at ≡ Some (token.Word word.Struct)
      → Leaves limits Record Any (Then Named (λ x. Then (Tok (token.Sign sign.OpenCurly)) (λ q. Then AllFields (λ fs. Tok (token.Sign sign.Semicolon))))) Any
      (λ x. record_tree (place_at t at, x)) t.spots.items at (at + 1)
  struct_read e = then_reads limits t.spots.items struct_link record_left (tok_reads limits t at (token.Word word.Struct) e)

  pub actor_read : token_at t.spots.items at ≡ Some (token.Word word.Actor)
      → Leaves limits Actor Any (Then Gives (λ y. Routine routines.Actor)) Any (λ x. actor_tree (place_at t at, x)) t.spots.items at (at + 1)
  actor_read e = then_reads limits t.spots.items actor_link actor_left (tok_reads limits t at (token.Word word.Actor) e)

-- which kind of declaration it is
pub record_turns : Turns DeclRule Any Record Any StructDecl (Some (token.Word word.Struct))
record_turns = record { back = λ w z b r f l. record_kind_back z r l; forth = λ w c r. record_decl r }

pub actor_turns : Turns DeclRule Any Actor Any ActorDecl (Some (token.Word word.Actor))
actor_turns = record { back = λ w z b r f l. actor_kind_back z r l; forth = λ w c r. actor_decl r }

pub function_turns : (o : Option Token) → (o ≡ Some (token.Word word.Struct) → ⊥) → (o ≡ Some (token.Word word.Actor) → ⊥) → Turns DeclRule Any (Function routines.Function) Any FunctionDecl o
function_turns o n m = record { back = λ w z b r f l. function_kind_back z o n m r l; forth = λ w c r. function_decl r }

module _ (limits : Limits) (spots : List Spot) where
  pub more_params_left : {A : Type 0} {W : List Marked → A → Type 0} {FW : A → List Marked → Type 0} {g : List ParamTree → A} {from at n : ℕ} → token_at spots at ≡ Some (token.Sign sign.Comma)
      → Leaves limits W FW (MoreParams n) Any g spots from at
      → Leaves limits W FW (Then (Tok (token.Sign sign.Comma)) (λ p. Then (ParamRule n) (λ f. MoreParams (suc n)))) Any (λ x. g (x.1.0 ∷ x.1.1)) spots from at
  more_params_left e l = narrow limits spots e (record {
    back = λ w z b r f k. more_params_back z r k;
    forth = λ u x r. (
      r.back.back.0,
      _,
      more_params x.0 r.back.first r.back.back.1 r.back.front r.back.back.2 refl,
      behind r.is r.front
          (glue r.back.first r.back.is r.back.back.3 ∙ sym (append_assoc r.back.first r.back.back.1 _)),
    );
  }) l

  pub end_params_left : {A : Type 0} {W : List Marked → A → Type 0} {FW : A → List Marked → Type 0} {g : List ParamTree → A} {from at n : ℕ} → (token_at spots at ≡ Some (token.Sign sign.Comma) → ⊥)
      → Leaves limits W FW (MoreParams n) Any g spots from at
      → Leaves limits W FW (Tok (token.Sign sign.CloseRound)) Any (λ p. g []) spots from at
  end_params_left {at = at} n l = narrow limits spots refl (record { back = λ w z b r f k. end_params_back z (token_at spots at) n r k; forth = λ u p r. (p, [], end_params, r) }) l

  pub more_fields_left : {A : Type 0} {W : List Marked → A → Type 0} {FW : A → List Marked → Type 0} {g : List ParamTree → A} {from at n : ℕ}
      → (token_at spots at ≡ Some (token.Sign sign.CloseCurly) → ⊥) → Leaves limits W FW (FieldsPart n) Any g spots from at
      → Leaves limits W FW (Then (ParamRule n) (λ f. Then (Tok (token.Sign sign.Semicolon)) (λ p. FieldsPart (suc n)))) Any (λ x. g (x.0 ∷ x.1.1)) spots from at
  more_fields_left {at = at} n l = narrow limits spots refl (record {
    back = λ w z b r f k. more_fields_back z (token_at spots at) n r k;
    forth = λ u x r.
        let k = r.back.back in (
          k.0,
          r.first ++ (sign_at sign.Semicolon x.1.0 ∷ k.1),
          more_fields x.1.0 r.first k.1 r.front k.2 refl,
          glue _ r.is (behind r.back.is r.back.front k.3)
              ∙ sym (append_assoc r.first (sign_at sign.Semicolon x.1.0 ∷ k.1) _),
        );
  }) l

  pub end_fields_left : {A : Type 0} {W : List Marked → A → Type 0} {FW : A → List Marked → Type 0} {g : List ParamTree → A} {from at n : ℕ} → token_at spots at ≡ Some (token.Sign sign.CloseCurly)
      → Leaves limits W FW (FieldsPart n) Any g spots from at
      → Leaves limits W FW (Tok (token.Sign sign.CloseCurly)) Any (λ p. g []) spots from at
  end_fields_left e l = narrow limits spots e (record { back = λ w z b r f k. end_fields_back z r k; forth = λ u p r. (p, [], no_fields, r) }) l

  -- there is one more declaration
  pub decl_left : {A : Type 0} {W : List Marked → A → Type 0} {FW : A → List Marked → Type 0} {g : List DeclTree → A} {from at n : ℕ} (x : Token) → token_at spots at ≡ Some x
      → Leaves limits W FW (DeclsRule n) AtEnd g spots from at
      → Leaves limits W FW (Then (DeclMarks n) (λ x. DeclsRule (suc n))) (λ x. AtEnd x.1) (λ x. g (x.0 ∷ x.1)) spots from at
  decl_left x e l = narrow limits spots e (record {
    back = λ w z b r f k. decls_back z x r f k;
    forth = λ u y r. more_decls r.front.1.0 r.rest r.front.1.1 r.back (r.is ∙ ap (λ z. z ++ r.rest) (r.front.2 ∙ ap (begin (Declaration _)) r.front.1.2));
  }) l

  -- and here there is none
  pub no_decl_reads : (at n : ℕ) → at ≤ length spots → token_at spots at ≡ None → Reads limits (DeclsRule n) AtEnd spots at [] at
  no_decl_reads at n h e = empty limits spots (DeclsRule n) AtEnd at [] None h e no_decls (λ w z b r f l. end_decls_back z r l)
