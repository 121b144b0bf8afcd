-- Fields, parameters and declarations by their next token: the other way round.
use Rattle.std.proofs.Common.{◌≡◌, ℕ, suc, ◌<◌, List, [], ◌∷◌, ◌++◌, length, refl, sym, ap, ◌∙◌, subst, append_assoc, arith}
use Rattle.std.specs.declared.option.Option.{Option}
use Rattle.std.specs.declared.option.Option.TheVariants.{None, Some}
use Rattle.flow_base.specs.declared.place.Place.{Place}
use Rattle.flow_tree.specs.declared.token.Token.{Token}
use Rattle.flow_tree.specs.declared.token.Token.TheVariants as token
use Rattle.flow_tree.specs.declared.token.Word.TheVariants as word
use Rattle.flow_tree.specs.declared.token.Sign.TheVariants as sign
use Rattle.flow_tree.specs.declared.ty.Ident.{Ident}
use Rattle.flow_tree.specs.declared.decl.RoutineKind.{RoutineKind}
use Rattle.flow_tree.specs.declared.decl.RoutineKind.TheVariants as routines
use Rattle.flow_tree.specs.Tree.{TypeTree, NothingType, VoidType}
use Rattle.flow_tree.specs.Decls.{ParamTree, RecordTree, RoutineTree, DeclTree, StructDecl, FunctionDecl, ActorDecl}
use Rattle.flow_tree.specs.GrammarToken.{Part, Declaration, Node, Variable, Marked, begin}
use Rattle.flow_tree.specs.Grammar.{sign_at, word_at, name_at, TypeRule}
use Rattle.flow_tree.specs.GrammarStmt.{StartsAt}
use Rattle.flow_tree.specs.GrammarDecl.{ParamRule, param, FieldsRule, no_fields, more_fields, MoreParamsRule, end_params, more_params, ParamsRule, no_params, some_params, RecordRule, fields, RoutineRule, routine, FunctionRule, function, ActorRule, actor, void_actor, DeclRule, record_decl, function_decl, actor_decl, DeclsRule, no_decls, more_decls}
use Rattle.flow_parse.specs.Openers.{TypeToken, DeclToken}
use Rattle.flow_parse.specs.Reading.{Tok, Named, Then, Any}
use Rattle.flow_parse.specs.Follow.{AtEnd}
use Rattle.flow_parse.specs.Parts.{BlockOut, Placed, Marks, Block, FieldsPart, AllFields, MoreParams, Params, RoutineOut, Routine, Record, Function, Gives, gives, gives_nothing, Actor}
use Rattle.flow_parse.proofs.Shapes.{TypeName}
use Rattle.flow_parse.proofs.Looking.{Looks, Back}
use Rattle.flow_parse.proofs.Backs.{Formed, front, tok_front}
use Rattle.flow_parse.proofs.Begins.{Starts, starts_is, starts_looks, looks_first, looks_is, type_starts}

pub param_back : {n : ℕ} {w : List Marked} {f : ParamTree} (z : List Marked) → ParamRule n w f → Back (ParamRule n) Any (Marks (Variable n) TypeName) Any (λ x. record { ty = x.0; name = x.1 }) w z f
param_back z (param {t = t} x of r e) = record { tree = (t, x); rule = (of ++ name_at x ∷ [], front (TypeRule 1) t x of (name_at x ∷ []) refl r refl, e); is = refl; follows = tt }

starts_marked : (P : Token → Type 0) (p : Part) (w : List Marked) → Starts P w → Starts P (begin p w)
starts_marked P p [] h = h
starts_marked P p (x ∷ w) h = h

pub param_starts : {n : ℕ} {w : List Marked} {f : ParamTree} → ParamRule n w f → Starts TypeToken w
param_starts {n = n} (param x of r e) = subst (Starts TypeToken) (sym e) (starts_marked TypeToken (Variable n) (of ++ name_at x ∷ []) (starts_is TypeToken of (name_at x ∷ []) refl (type_starts r)))

-- parameters
pub no_params_back : {w : List Marked} {fs : List ParamTree} (z : List Marked) → Params w fs → Looks (Some (token.Sign sign.CloseRound)) (w ++ z)
    → Back Params Any (Tok (token.Sign sign.CloseRound)) Any (λ p. []) w z fs
no_params_back z r l = by_rule z r.0 r.1 r.2 r.3 l
  where
    by_rule : {w : List Marked} {fs : List ParamTree} (z : List Marked) (q : Place) (of : List Marked) → ParamsRule of fs → w ≡ of ++ sign_at sign.CloseRound q ∷ []
        → Looks (Some (token.Sign sign.CloseRound)) (w ++ z) → Back Params Any (Tok (token.Sign sign.CloseRound)) Any (λ p. []) w z fs
    by_rule z q of no_params e l = record { tree = q; rule = e; is = refl; follows = tt }
    by_rule {w = w} z q of (some_params first more p m f) e l = absurd
        (starts_looks TypeToken w z (Some (token.Sign sign.CloseRound))
        (starts_is TypeToken first (more ++ sign_at sign.CloseRound q ∷ []) (e ∙ ap (λ k. k ++ sign_at sign.CloseRound q ∷ []) f ∙ append_assoc first more _) (param_starts p)) l)

pub params_back : {w : List Marked} {fs : List ParamTree} (z : List Marked) (o : Option Token) → (o ≡ Some (token.Sign sign.CloseRound) → ⊥) → Params w fs → Looks o (w ++ z)
    → Back Params Any (Then (ParamRule 1) (λ f. MoreParams 2)) Any (λ x. x.0 ∷ x.1) w z fs
params_back z o n r l = by_rule z o n r.0 r.1 r.2 r.3 l
  where
    by_rule : {w : List Marked} {fs : List ParamTree} (z : List Marked) (o : Option Token) → (o ≡ Some (token.Sign sign.CloseRound) → ⊥) → (q : Place) (of : List Marked) → ParamsRule of fs
        → w ≡ of ++ sign_at sign.CloseRound q ∷ [] → Looks o (w ++ z) → Back Params Any (Then (ParamRule 1) (λ f. MoreParams 2)) Any (λ x. x.0 ∷ x.1) w z fs
    by_rule z o n q of no_params e l = absurd (n (looks_is o (sign_at sign.CloseRound q) [] z e l))
    by_rule z o n q of (some_params {f = g} {fs = gs} first more p m f) e l =
        record {
          tree = (g, gs);
          rule = front (ParamRule 1) g gs first (more ++ sign_at sign.CloseRound q ∷ []) (e ∙ ap (λ k. k ++ sign_at sign.CloseRound q ∷ []) f ∙ append_assoc first more _) p
              (q, more, m, refl);
          is = refl;
          follows = tt;
        }

pub more_params_back : {n : ℕ} {w : List Marked} {fs : List ParamTree} (z : List Marked) → MoreParams n w fs → Looks (Some (token.Sign sign.Comma)) (w ++ z)
    → Back (MoreParams n) Any (Then (Tok (token.Sign sign.Comma)) (λ p. Then (ParamRule n) (λ f. MoreParams (suc n)))) Any (λ x. x.1.0 ∷ x.1.1) w z fs
more_params_back z r l = by_rule z r.0 r.1 r.2 r.3 l
  where
    by_rule : {n : ℕ} {w : List Marked} {fs : List ParamTree} (z : List Marked) (q : Place) (of : List Marked) → MoreParamsRule n of fs → w ≡ of ++ sign_at sign.CloseRound q ∷ []
        → Looks (Some (token.Sign sign.Comma)) (w ++ z) → Back (MoreParams n) Any (Then (Tok (token.Sign sign.Comma)) (λ p. Then (ParamRule n) (λ f. MoreParams (suc n)))) Any
        (λ x. x.1.0 ∷ x.1.1) w z fs
    by_rule z q of end_params e l = let k = looks_is (Some (token.Sign sign.Comma)) (sign_at sign.CloseRound q) [] z e l in absurd (cc)
    by_rule {n = n} z q of (more_params {f = g} {fs = gs} p xs more r m f) e l = record {
      tree = (p, (g, gs));
      rule = tok_front (token.Sign sign.Comma) p (g, gs) (xs ++ (more ++ sign_at sign.CloseRound q ∷ []))
          (e ∙ ap (λ k. k ++ sign_at sign.CloseRound q ∷ []) f ∙ ap (λ k. sign_at sign.Comma p ∷ k) (append_assoc xs more (sign_at sign.CloseRound q ∷ [])))
          (front (ParamRule n) g gs xs (more ++ sign_at sign.CloseRound q ∷ []) refl r (q, more, m, refl));
      is = refl;
      follows = tt;
    }

pub end_params_back : {n : ℕ} {w : List Marked} {fs : List ParamTree} (z : List Marked) (o : Option Token) → (o ≡ Some (token.Sign sign.Comma) → ⊥) → MoreParams n w fs → Looks o (w ++ z)
    → Back (MoreParams n) Any (Tok (token.Sign sign.CloseRound)) Any (λ p. []) w z fs
end_params_back z o n r l = by_rule z o n r.0 r.1 r.2 r.3 l
  where
    by_rule : {n : ℕ} {w : List Marked} {fs : List ParamTree} (z : List Marked) (o : Option Token) → (o ≡ Some (token.Sign sign.Comma) → ⊥) → (q : Place) (of : List Marked) → MoreParamsRule n of fs
        → w ≡ of ++ sign_at sign.CloseRound q ∷ [] → Looks o (w ++ z) → Back (MoreParams n) Any (Tok (token.Sign sign.CloseRound)) Any (λ p. []) w z fs
    by_rule z o h q of end_params e l = record { tree = q; rule = e; is = refl; follows = tt }
    by_rule z o h q of (more_params p xs more r m f) e l = absurd (h
        (looks_is o (sign_at sign.Comma p) ((xs ++ more) ++ sign_at sign.CloseRound q ∷ []) z (e ∙ ap (λ k. k ++ sign_at sign.CloseRound q ∷ []) f) l))

-- fields
pub end_fields_back : {n : ℕ} {w : List Marked} {fs : List ParamTree} (z : List Marked) → FieldsPart n w fs → Looks (Some (token.Sign sign.CloseCurly)) (w ++ z)
    → Back (FieldsPart n) Any (Tok (token.Sign sign.CloseCurly)) Any (λ p. []) w z fs
end_fields_back z r l = by_rule z r.0 r.1 r.2 r.3 l
  where
    by_rule : {n : ℕ} {w : List Marked} {fs : List ParamTree} (z : List Marked) (q : Place) (of : List Marked) → FieldsRule n of fs → w ≡ of ++ sign_at sign.CloseCurly q ∷ []
        → Looks (Some (token.Sign sign.CloseCurly)) (w ++ z) → Back (FieldsPart n) Any (Tok (token.Sign sign.CloseCurly)) Any (λ p. []) w z fs
    by_rule z q of no_fields e l = record { tree = q; rule = e; is = refl; follows = tt }
    by_rule {w = w} z q of (more_fields p xs more r m f) e l = absurd
        (starts_looks TypeToken w z (Some (token.Sign sign.CloseCurly))
        (starts_is TypeToken xs _ (e ∙ ap (λ k. k ++ sign_at sign.CloseCurly q ∷ []) f ∙ append_assoc xs (sign_at sign.Semicolon p ∷ more) _) (param_starts r)) l)

pub more_fields_back : {n : ℕ} {w : List Marked} {fs : List ParamTree} (z : List Marked) (o : Option Token) → (o ≡ Some (token.Sign sign.CloseCurly) → ⊥) → FieldsPart n w fs → Looks o (w ++ z)
    → Back (FieldsPart n) Any (Then (ParamRule n) (λ f. Then (Tok (token.Sign sign.Semicolon)) (λ p. FieldsPart (suc n)))) Any (λ x. x.0 ∷ x.1.1) w z fs
more_fields_back z o n r l = by_rule z o n r.0 r.1 r.2 r.3 l
  where
    by_rule : {n : ℕ} {w : List Marked} {fs : List ParamTree} (z : List Marked) (o : Option Token) → (o ≡ Some (token.Sign sign.CloseCurly) → ⊥) → (q : Place) (of : List Marked) → FieldsRule n of fs
        → w ≡ of ++ sign_at sign.CloseCurly q ∷ [] → Looks o (w ++ z)
        → Back (FieldsPart n) Any (Then (ParamRule n) (λ f. Then (Tok (token.Sign sign.Semicolon)) (λ p. FieldsPart (suc n)))) Any (λ x. x.0 ∷ x.1.1) w z fs
    by_rule z o h q of no_fields e l = absurd (h (looks_is o (sign_at sign.CloseCurly q) [] z e l))
    by_rule {n = n} z o h q of (more_fields {f = g} {fs = gs} p xs more r m f) e l = record {
      tree = (g, (p, gs));
      rule = front (ParamRule n) g (p, gs) xs (sign_at sign.Semicolon p ∷ (more ++ sign_at sign.CloseCurly q ∷ []))
          (e ∙ ap (λ k. k ++ sign_at sign.CloseCurly q ∷ []) f ∙ append_assoc xs (sign_at sign.Semicolon p ∷ more) _) r
          (tok_front (token.Sign sign.Semicolon) p gs (more ++ sign_at sign.CloseCurly q ∷ []) refl (q, more, m, refl));
      is = refl;
      follows = tt;
    }

pub all_fields_back : {w : List Marked} {fs : List ParamTree} (z : List Marked) → AllFields w fs
    → Back AllFields Any (Then (ParamRule 1) (λ f. Then (Tok (token.Sign sign.Semicolon)) (λ p. FieldsPart 2))) Any (λ x. x.0 ∷ x.1.1) w z fs
all_fields_back z r = by_rule z r.0.0 r.0.1 r.0.2 r.0.3 r.1
  where
    by_rule : {w : List Marked} {fs : List ParamTree} (z : List Marked) (q : Place) (of : List Marked) → FieldsRule 1 of fs → w ≡ of ++ sign_at sign.CloseCurly q ∷ [] → 0 < length fs
        → Back AllFields Any (Then (ParamRule 1) (λ f. Then (Tok (token.Sign sign.Semicolon)) (λ p. FieldsPart 2))) Any (λ x. x.0 ∷ x.1.1) w z fs
    by_rule z q of no_fields e h = absurd (omega arith)
    by_rule z q of (more_fields {f = g} {fs = gs} p xs more r m f) e h = record {
      tree = (g, (p, gs));
      rule = front (ParamRule 1) g (p, gs) xs (sign_at sign.Semicolon p ∷ (more ++ sign_at sign.CloseCurly q ∷ []))
          (e ∙ ap (λ k. k ++ sign_at sign.CloseCurly q ∷ []) f ∙ append_assoc xs (sign_at sign.Semicolon p ∷ more) _) r
          (tok_front (token.Sign sign.Semicolon) p gs (more ++ sign_at sign.CloseCurly q ∷ []) refl (q, more, m, refl));
      is = refl;
      follows = tt;
    }

-- declarations
some_field : (f : ParamTree) (fs : List ParamTree) → 0 < length (f ∷ fs)
some_field f fs = omega arith

abbrev pub RecordSeq : List Marked → Place × (Ident × (Place × (List ParamTree × Place))) → Type 0
RecordSeq w x = Then (Tok (token.Word word.Struct)) (λ p. Then Named (λ x. Then (Tok (token.Sign sign.OpenCurly)) (λ q. Then AllFields (λ fs. Tok (token.Sign sign.Semicolon))))) w x

record_form : {w : List Marked} {r : RecordTree} → RecordRule w r → Formed RecordSeq (λ x. record { at = x.0; name = x.1.0; fields = x.1.1.1.0 }) w r
record_form (fields {f = f} {fs = fs} at p q r x xs g e) = record {
  tree = (at, (x, (p, (f ∷ fs, r))));
  rule = tok_front (token.Word word.Struct) at (x, (p, (f ∷ fs, r))) (name_at x ∷ sign_at sign.OpenCurly p ∷ (xs ++ (sign_at sign.CloseCurly q ∷ sign_at sign.Semicolon r ∷ []))) e
      (front Named x (p, (f ∷ fs, r)) (name_at x ∷ []) (sign_at sign.OpenCurly p ∷ (xs ++ (sign_at sign.CloseCurly q ∷ sign_at sign.Semicolon r ∷ []))) refl refl
      (tok_front (token.Sign sign.OpenCurly) p (f ∷ fs, r) (xs ++ (sign_at sign.CloseCurly q ∷ sign_at sign.Semicolon r ∷ [])) refl
      (front AllFields (f ∷ fs) r (xs ++ sign_at sign.CloseCurly q ∷ []) (sign_at sign.Semicolon r ∷ []) (sym (append_assoc xs (sign_at sign.CloseCurly q ∷ []) (sign_at sign.Semicolon r ∷ [])))
      ((q, xs, g, refl), some_field f fs) refl)));
  is = refl;
}

abbrev pub RoutineSeq : RoutineKind → List Marked → Ident × (Place × (List ParamTree × BlockOut)) → Type 0
RoutineSeq home w x = Then Named (λ x. Then (Tok (token.Sign sign.OpenRound)) (λ p. Then Params (λ ps. Block home 2 (record { statements = 0; variables = length ps })))) w x

abbrev pub out_of : RoutineTree → RoutineOut
out_of f = record { name = f.name; params = f.params; body = f.body; close = f.close }

routine_form : {home : RoutineKind} {at : Place} {t : TypeTree} {w : List Marked} {f : RoutineTree} → RoutineRule home at t w f
    → Formed (RoutineSeq home) (λ x. record { at = at; returns = t; name = x.0; params = x.1.1.0; body = x.1.1.1.body; close = x.1.1.1.close }) w f
routine_form {home = home} (routine {c = c} {ps = ps} {body = body} p q r close x params xs g ss e) =
    let b : BlockOut = record { body = body; counts = c; close = close } in
    record {
      tree = (x, (p, (ps, b)));
      rule = front Named x (p, (ps, b)) (name_at x ∷ []) (sign_at sign.OpenRound p ∷ (params ++ (sign_at sign.CloseRound q ∷ sign_at sign.OpenCurly r ∷ (xs ++ sign_at sign.CloseCurly close ∷ [])))) e
          refl (tok_front (token.Sign sign.OpenRound) p (ps, b) (params ++ (sign_at sign.CloseRound q ∷ sign_at sign.OpenCurly r ∷ (xs ++ sign_at sign.CloseCurly close ∷ []))) refl
          (front Params ps b (params ++ sign_at sign.CloseRound q ∷ []) (sign_at sign.OpenCurly r ∷ (xs ++ sign_at sign.CloseCurly close ∷ []))
          (sym (append_assoc params (sign_at sign.CloseRound q ∷ []) (sign_at sign.OpenCurly r ∷ (xs ++ sign_at sign.CloseCurly close ∷ [])))) (q, params, g, refl) (r, xs, ss, refl)));
      is = refl;
    }

routine_any : {home : RoutineKind} {at : Place} {t : TypeTree} {w : List Marked} {f : RoutineTree} → RoutineRule home at t w f → Routine home w (out_of f)
routine_any (routine p q r close x params xs g ss e) = λ at t. routine p q r close x params xs g ss e

routine_same : {home : RoutineKind} {at : Place} {t : TypeTree} {w : List Marked} {f : RoutineTree} → RoutineRule home at t w f
    → f ≡ record { at = at; returns = t; name = f.name; params = f.params; body = f.body; close = f.close }
routine_same (routine p q r close x params xs g ss e) = refl

pub routine_back : {home : RoutineKind} {w : List Marked} {u : RoutineOut} (z : List Marked) → Routine home w u
    → Back (Routine home) Any (RoutineSeq home) Any (λ x. record { name = x.0; params = x.1.1.0; body = x.1.1.1.body; close = x.1.1.1.close }) w z u
routine_back {u = u} z r =
    let k = routine_form (r u.close VoidType) in
    record { tree = k.tree; rule = k.rule; is = ap out_of k.is; follows = tt }

starts_placed : (P : Token → Type 0) {w : List Marked} (p : Place) (xs ys : List Marked) → w ≡ xs ++ ys → Starts P xs → StartsAt w p → StartsAt xs p
starts_placed P p [] ys e h s = absurd h
starts_placed P p (x ∷ xs) ys e h s = subst (λ v. StartsAt v p) e s

abbrev pub FunctionSeq : RoutineKind → List Marked → (Place × TypeTree) × RoutineOut → Type 0
FunctionSeq home w x = Then (Placed (TypeRule 1)) (λ y. Routine home) w x

abbrev pub function_tree : (Place × TypeTree) × RoutineOut → RoutineTree
function_tree x = record { at = x.0.0; returns = x.0.1; name = x.1.name; params = x.1.params; body = x.1.body; close = x.1.close }

-- what an actor gives, by its next token
abbrev pub GivesSeq : List Marked → Place × (Place × (TypeTree × Place)) → Type 0
GivesSeq w x = Then (Tok (token.Word word.Future)) (λ p. Then (Tok (token.Sign sign.Less)) (λ s. Then (TypeRule 2) (λ y. Tok (token.Sign sign.Greater)))) w x

pub gives_nothing_back : {w : List Marked} {t : TypeTree} (z : List Marked) → Gives w t → Looks (Some (token.Word word.NoResult)) (w ++ z)
    → Back Gives Any (Tok (token.Word word.NoResult)) Any (λ p. NothingType) w z t
gives_nothing_back z (gives_nothing p) l = record { tree = p; rule = refl; is = refl; follows = tt }
gives_nothing_back z (gives p q r of t e) l = let k = looks_is (Some (token.Word word.NoResult)) (word_at word.Future p) _ z e l in absurd (cc)

pub gives_back : {w : List Marked} {t : TypeTree} (z : List Marked) (o : Option Token) → (o ≡ Some (token.Word word.NoResult) → ⊥) → Gives w t → Looks o (w ++ z)
    → Back Gives Any GivesSeq Any (λ x. x.1.1.0) w z t
gives_back z o n (gives_nothing p) l = absurd (n (looks_first o (word_at word.NoResult p) z l))
gives_back z o n (gives {t = y} p q r of t e) l = record {
  tree = (p, (q, (y, r)));
  rule = tok_front (token.Word word.Future) p (q, (y, r)) (sign_at sign.Less q ∷ (of ++ sign_at sign.Greater r ∷ [])) e
      (tok_front (token.Sign sign.Less) q (y, r) (of ++ sign_at sign.Greater r ∷ []) refl (front (TypeRule 2) y r of (sign_at sign.Greater r ∷ []) refl t refl));
  is = refl;
  follows = tt;
}

abbrev pub ActorSeq : List Marked → Place × (TypeTree × RoutineOut) → Type 0
ActorSeq w x = Then (Tok (token.Word word.Actor)) (λ p. Then Gives (λ y. Routine routines.Actor)) w x

abbrev pub actor_tree : Place × (TypeTree × RoutineOut) → RoutineTree
actor_tree x = record { at = x.0; returns = x.1.0; name = x.1.1.name; params = x.1.1.params; body = x.1.1.body; close = x.1.1.close }

struct_actor : (o : Option Token) → o ≡ Some (token.Word word.Struct) → o ≡ Some (token.Word word.Actor) → ⊥
struct_actor o e f = cc

record_looks : {w : List Marked} {r : RecordTree} (z : List Marked) (o : Option Token) → RecordRule w r → Looks o (w ++ z) → o ≡ Some (token.Word word.Struct)
record_looks z o (fields at p q r x xs g e) l = looks_is o (word_at word.Struct at) _ z e l

actor_looks : {w : List Marked} {f : RoutineTree} (z : List Marked) (o : Option Token) → ActorRule w f → Looks o (w ++ z) → o ≡ Some (token.Word word.Actor)
actor_looks z o (actor at p q r of xs t u e) l = looks_is o (word_at word.Actor at) _ z e l
actor_looks z o (void_actor at p xs u e) l = looks_is o (word_at word.Actor at) _ z e l

function_starts : {home : RoutineKind} {w : List Marked} {f : RoutineTree} → FunctionRule home w f → Starts TypeToken w
function_starts (function at of xs t r e s) = starts_is TypeToken of xs e (type_starts t)

-- one kind of declaration, whatever its next token is
abbrev pub record_tree : Place × (Ident × (Place × (List ParamTree × Place))) → RecordTree
record_tree x = record { at = x.0; name = x.1.0; fields = x.1.1.1.0 }

pub record_part_back : {w : List Marked} {r : RecordTree} (z : List Marked) → Record w r → Back Record Any RecordSeq Any record_tree w z r
record_part_back z r = let k = record_form r in record { tree = k.tree; rule = k.rule; is = k.is; follows = tt }

pub function_part_back : {home : RoutineKind} {w : List Marked} {f : RoutineTree} (z : List Marked) → Function home w f
    → Back (Function home) Any (FunctionSeq home) Any function_tree w z f
function_part_back z (function {t = y} {f = f} at of xs t r e s) = record {
  tree = ((at, y), out_of f);
  rule = front (Placed (TypeRule 1)) (at, y) (out_of f) of xs e (starts_placed TypeToken at of xs e (type_starts t) s, t) (routine_any r);
  is = routine_same r;
  follows = tt;
}

pub actor_part_back : {w : List Marked} {f : RoutineTree} (z : List Marked) → Actor w f → Back Actor Any ActorSeq Any actor_tree w z f
actor_part_back z (actor {t = y} {f = f} at p q r of xs t u e) = record {
  tree = (at, (y, out_of f));
  rule = tok_front (token.Word word.Actor) at (y, out_of f) (word_at word.Future p ∷ sign_at sign.Less q ∷ (of ++ (sign_at sign.Greater r ∷ xs))) e
      (front Gives y (out_of f) (word_at word.Future p ∷ sign_at sign.Less q ∷ (of ++ sign_at sign.Greater r ∷ [])) xs
      (ap (λ k. word_at word.Future p ∷ sign_at sign.Less q ∷ k) (sym (append_assoc of (sign_at sign.Greater r ∷ []) xs))) (gives p q r of t refl) (routine_any u));
  is = routine_same u;
  follows = tt;
}
actor_part_back z (void_actor {f = f} at p xs u e) = record {
  tree = (at, (NothingType, out_of f));
  rule = tok_front (token.Word word.Actor) at (NothingType, out_of f) (word_at word.NoResult p ∷ xs) e
      (front Gives NothingType (out_of f) (word_at word.NoResult p ∷ []) xs refl (gives_nothing p) (routine_any u));
  is = routine_same u;
  follows = tt;
}

-- a declaration is of one kind, as its next token says
pub record_kind_back : {w : List Marked} {t : DeclTree} (z : List Marked) → DeclRule w t → Looks (Some (token.Word word.Struct)) (w ++ z) → Back DeclRule Any Record Any StructDecl w z t
record_kind_back z (record_decl {r = r} k) l = record { tree = r; rule = k; is = refl; follows = tt }
record_kind_back {w = w} z (function_decl k) l = absurd (starts_looks TypeToken w z (Some (token.Word word.Struct)) (function_starts k) l)
record_kind_back z (actor_decl k) l = absurd (struct_actor (Some (token.Word word.Struct)) refl (actor_looks z (Some (token.Word word.Struct)) k l))

pub actor_kind_back : {w : List Marked} {t : DeclTree} (z : List Marked) → DeclRule w t → Looks (Some (token.Word word.Actor)) (w ++ z) → Back DeclRule Any Actor Any ActorDecl w z t
actor_kind_back z (record_decl k) l = absurd (struct_actor (Some (token.Word word.Actor)) (record_looks z (Some (token.Word word.Actor)) k l) refl)
actor_kind_back {w = w} z (function_decl k) l = absurd (starts_looks TypeToken w z (Some (token.Word word.Actor)) (function_starts k) l)
actor_kind_back z (actor_decl {f = f} k) l = record { tree = f; rule = k; is = refl; follows = tt }

pub function_kind_back : {w : List Marked} {t : DeclTree} (z : List Marked) (o : Option Token) → (o ≡ Some (token.Word word.Struct) → ⊥) → (o ≡ Some (token.Word word.Actor) → ⊥) → DeclRule w t
    → Looks o (w ++ z) → Back DeclRule Any (Function routines.Function) Any FunctionDecl w z t
function_kind_back z o n m (record_decl k) l = absurd (n (record_looks z o k l))
function_kind_back z o n m (function_decl {f = f} k) l = record { tree = f; rule = k; is = refl; follows = tt }
function_kind_back z o n m (actor_decl k) l = absurd (m (actor_looks z o k l))

type_decl : (w : List Marked) → Starts TypeToken w → Starts DeclToken w
type_decl [] h = absurd h
type_decl (x ∷ w) h = by_token x.spot.token h
  where
    by_token : (t : Token) → TypeToken t → DeclToken t
    by_token (token.Word word.Struct) h = tt
    by_token (token.Word word.Actor) h = tt
    by_token _ h = h

pub decl_starts : {w : List Marked} {t : DeclTree} → DeclRule w t → Starts DeclToken w
decl_starts (record_decl (fields at p q r x xs g e)) = subst (Starts DeclToken) (sym e) tt
decl_starts {w = w} (function_decl k) = type_decl w (function_starts k)
decl_starts (actor_decl (actor at p q r of xs t u e)) = subst (Starts DeclToken) (sym e) tt
decl_starts (actor_decl (void_actor at p xs u e)) = subst (Starts DeclToken) (sym e) tt

abbrev pub DeclMarks : ℕ → List Marked → DeclTree → Type 0
DeclMarks n w t = Marks (Declaration n) (Marks (Node 1) DeclRule) w t

pub decl_marks_starts : {n : ℕ} {w : List Marked} {t : DeclTree} → DeclMarks n w t → Starts DeclToken w
decl_marks_starts {n = n} r = subst (Starts DeclToken) (sym r.2) (starts_marked DeclToken (Declaration n) r.0
    (subst (Starts DeclToken) (sym r.1.2) (starts_marked DeclToken (Node 1) r.1.0 (decl_starts r.1.1))))

pub end_decls_back : {n : ℕ} {w : List Marked} {ts : List DeclTree} (z : List Marked) → DeclsRule n w ts → Looks None (w ++ z) → (ts ≡ []) × (w ≡ [])
end_decls_back z no_decls l = (refl, refl)
end_decls_back {n = n} {w = w} z (more_decls first more r m e) l =
    absurd (starts_looks DeclToken w z None (starts_is DeclToken (begin (Declaration n) (begin (Node 1) first)) more e
    (starts_marked DeclToken (Declaration n) (begin (Node 1) first) (starts_marked DeclToken (Node 1) first (decl_starts r)))) l)

pub decls_back : {n : ℕ} {w : List Marked} {ts : List DeclTree} (z : List Marked) (t : Token) → DeclsRule n w ts → AtEnd ts z → Looks (Some t) (w ++ z)
    → Back (DeclsRule n) AtEnd (Then (DeclMarks n) (λ x. DeclsRule (suc n))) (λ x. AtEnd x.1) (λ x. x.0 ∷ x.1) w z ts
decls_back z t no_decls f l = absurd (subst (Looks (Some t)) f l)
decls_back {n = n} z t (more_decls {x = x} {xs = xs} first more r m e) f l = record {
  tree = (x, xs);
  rule = front (DeclMarks n) x xs (begin (Declaration n) (begin (Node 1) first)) more e (begin (Node 1) first, (first, r, refl), refl) m;
  is = refl;
  follows = f;
}
