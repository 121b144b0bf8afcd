-- Where parameters and declarations are refused.
use Rattle.std.proofs.Common.{◌≡◌, ℕ, ◌+◌, ◌≤◌, ◌<◌, List, [], ◌∷◌, ◌++◌, length, take, drop, refl, sym, ap, ◌∙◌, subst, arith, inr}
use Rattle.std.specs.Prelude.{Err}
use Rattle.std.specs.declared.option.Option.TheVariants.{Some}
use Rattle.flow_tree.specs.declared.limits.Limits.{Limits}
use Rattle.flow_tree.specs.declared.limits.TheConstants.{OF_PROGRAMS}
use Rattle.flow_base.specs.declared.place.Place.{Place}
use Rattle.flow_tree.specs.declared.token.Token.{Token}
use Rattle.flow_tree.specs.declared.token.Token.TheVariants as token
use Rattle.flow_tree.specs.declared.token.Word.TheVariants as word
use Rattle.flow_tree.specs.declared.token.Sign.TheVariants as sign
use Rattle.flow_tree.specs.declared.token.Spot.{Spot}
use Rattle.flow_tree.specs.declared.token.Tokens.{Tokens}
use Rattle.flow_tree.specs.declared.ty.Ident.{Ident}
use Rattle.flow_tree.specs.declared.fault.Rule.TheVariants as rule
use Rattle.flow_tree.specs.declared.fault.SourceFault.{SourceFault}
use Rattle.flow_tree.specs.declared.fault.SourceFault.TheVariants.{Refused, AcrossWait, OutOfMemory}
use Rattle.flow_tree.specs.declared.decl.RoutineKind.TheVariants as routines
use Rattle.flow_tree.specs.Decls.{DeclTree, StructDecl, FunctionDecl, ActorDecl}
use Rattle.flow_tree.specs.Tree.{IntType}
use Rattle.flow_tree.specs.GrammarAnswer.{place_at}
use Rattle.flow_tree.specs.GrammarToken.{Declaration, Node, Variable, Marked, begin, GoodOf}
use Rattle.flow_tree.specs.Grammar.{sign_at, word_at, name_at, node_word, TypeRule, int_type}
use Rattle.flow_tree.specs.GrammarStmt.{StartsAt}
use Rattle.flow_tree.specs.GrammarDecl.{ParamRule, function, actor, DeclRule, record_decl, function_decl, actor_decl, DeclsRule}
use Rattle.flow_exprs.proofs.Goes.{nowhere}
use Rattle.flow_parse.specs.Openers.{AsFirst, TypeToken, DeclToken}
use Rattle.flow_parse.specs.Reading.{token_at, Named, Any}
use Rattle.flow_parse.specs.Follow.{AtEnd}
use Rattle.flow_parse.specs.Failing.{Fails}
use Rattle.flow_parse.specs.Parts.{Marks, Routine}
use Rattle.flow_parse.specs.ParseAnswer.{ParseAnswer}
use Rattle.flow_parse.proofs.Looking.{first_of}
use Rattle.flow_parse.proofs.Begins.{Starts, starts_is, starts_looks, type_starts}
use Rattle.flow_parse.proofs.Failing.{Inhabited, good_first, good_marks}
use Rattle.flow_parse.proofs.Inhabitants.{some_then, some_type, some_named, some_param, some_all_fields, some_routine, some_marks}
use Rattle.flow_parse.proofs.Leaves.{Leaves, next_is, fails, none_fails, beyond_fails, marks_fails, first_fails}
use Rattle.flow_parse.proofs.DeclBacks.{param_starts, decl_starts, DeclMarks, decl_marks_starts}
use Rattle.flow_parse.proofs.Shapes.{TypeName}
use Rattle.flow_parse.proofs.TreeOpens.{type_opens}
use Rattle.flow_parse.proofs.Decls.{record_rule, param_left, decl_left, decls_link}
use Rattle.flow_parse.proofs.ProgramFails.{program_fails, program_limit}

-- what begins with the next token
next_first : (P : Token → Type 0) (spots : List Spot) (at : ℕ) → AsFirst P (token_at spots at) → AsFirst P (first_of (drop at spots))
next_first P spots at h = subst (AsFirst P) (sym (next_is spots at)) h

-- a parameter or a field
param_opens : (limits : Limits) (m : ℕ) (ts : List Spot) → AsFirst TypeToken (first_of ts) → GoodOf limits TypeName m (take 1 ts)
param_opens limits m ts b = good_first limits (TypeRule 1) Any (λ y. Named) Any (λ a b v z s f. tt) m (take 1 ts) (λ y. some_named) (type_opens limits m 1 (λ l. omega arith) ts b)

type_name_begins : (w : List Marked) (x : _) → TypeName w x → Starts TypeToken w
type_name_begins w x r = starts_is TypeToken r.first r.rest r.is (type_starts r.front)

some_type_name : Inhabited TypeName
some_type_name = some_then (TypeRule 1) (λ y. Named) (some_type 1) (λ y. some_named)

module _ (limits : Limits) (t : Tokens) (at n : ℕ) (h : at ≤ length t.spots.items) where
  -- with a number that is too great
  pub param_beyond : limits.variables < n → at < length t.spots.items → AsFirst TypeToken (token_at t.spots.items at) → Fails limits (ParamRule n) Any t at (Refused (rule.L 6) (place_at t at))
  param_beyond g lt b = fails limits t (param_left limits t at h n) (Refused (rule.L 6) (place_at t at))
      (beyond_fails limits TypeName Any (Variable n) 6 t at (omega arith) (omega arith) lt (λ k. let x = k (omega arith) in omega arith)
      (λ m l k. absurd (omega arith)) TypeToken type_name_begins some_type_name (λ m l. param_opens limits m (drop at t.spots.items) (next_first TypeToken t.spots.items at b)))

  pub no_param : (AsFirst TypeToken (token_at t.spots.items at) → ⊥) → Fails limits (ParamRule n) Any t at (Refused (rule.S 5) (place_at t at))
  no_param b = none_fails limits (ParamRule n) Any t at (some_param n) (λ w z x r f l. b (starts_looks TypeToken w z (token_at t.spots.items at) (param_starts r) l))

  pub param_fails : n ≤ limits.variables → (e : SourceFault) → Fails limits TypeName Any t at e → Fails limits (ParamRule n) Any t at e
  param_fails l e a = fails limits t (param_left limits t at h n) e (marks_fails limits TypeName Any (Variable n) t at (λ m le k. l) e a)

-- a declaration
some_name : Ident
some_name = record { name = []; at = nowhere }

struct_good : (limits : Limits) (m : ℕ) (p : Place) → GoodOf limits DeclRule m (record { token = token.Word word.Struct; at = p } ∷ [])
struct_good limits m p =
    let x = some_all_fields in
    let xs = x.rule.0.1 in
    let rest = name_at some_name ∷ sign_at sign.OpenCurly nowhere ∷ (xs ++ (sign_at sign.CloseCurly nowhere ∷ sign_at sign.Semicolon nowhere ∷ [])) in
    record {
      read = word_at word.Struct p ∷ [];
      rest = rest;
      tree = StructDecl (record { at = p; name = some_name; fields = x.tree });
      rule = record_decl (record_rule p nowhere nowhere nowhere some_name xs (word_at word.Struct p ∷ rest) x.tree x.rule.0.2 x.rule.1 refl);
      is = refl;
      keeps = (tt, tt);
    }

actor_good : (limits : Limits) (m : ℕ) (p : Place) → GoodOf limits DeclRule m (record { token = token.Word word.Actor; at = p } ∷ [])
actor_good limits m p =
    let r = some_routine routines.Actor in
    let of = node_word 2 word.Int nowhere ∷ [] in
    record {
      read = word_at word.Actor p ∷ [];
      rest = word_at word.Future nowhere ∷ sign_at sign.Less nowhere ∷ (of ++ (sign_at sign.Greater nowhere ∷ r.marked));
      tree = ActorDecl (record { at = p; returns = IntType; name = r.tree.name; params = r.tree.params; body = r.tree.body; close = r.tree.close });
      rule = actor_decl (actor p nowhere nowhere nowhere of r.marked (int_type nowhere) (r.rule p IntType) refl);
      is = refl;
      keeps = (tt, tt);
    }

starts_at : (P : Token → Type 0) (w : List Marked) → Starts P w → (p : Place) × StartsAt w p
starts_at P [] h = absurd h
starts_at P (x ∷ w) h = (x.spot.at, refl)

function_good : (limits : Limits) (m : ℕ) (ts : List Spot) → GoodOf limits (TypeRule 1) m ts → GoodOf limits DeclRule m ts
function_good limits m ts t =
    let g = good_first limits (TypeRule 1) Any (λ y. Routine routines.Function) Any (λ a b v z s f. tt) m ts (λ y. some_routine routines.Function) t in
    let y = g.tree.0 in
    let r = g.tree.1 in
    let p = starts_at TypeToken (g.read ++ g.rest) (starts_is TypeToken g.rule.first g.rule.rest g.rule.is (type_starts g.rule.front)) in
    record {
      read = g.read;
      rest = g.rest;
      tree = FunctionDecl (record { at = p.0; returns = y; name = r.name; params = r.params; body = r.body; close = r.close });
      rule = function_decl (function p.0 g.rule.first g.rule.rest g.rule.front (g.rule.back p.0 y) g.rule.is p.1);
      is = g.is;
      keeps = g.keeps;
    }

decl_with : (limits : Limits) (m : ℕ) (x : Token) (p : Place) (ts : List Spot) → DeclToken x → GoodOf limits DeclRule m (take 1 (record { token = x; at = p } ∷ ts))
decl_with limits m (token.Word word.Struct) p ts b = struct_good limits m p
decl_with limits m (token.Word word.Actor) p ts b = actor_good limits m p
decl_with limits m x p ts b = function_good limits m _ (type_opens limits m 1 (λ l. omega arith) (record { token = x; at = p } ∷ ts) b)

decl_opens : (limits : Limits) (m : ℕ) (ts : List Spot) → AsFirst DeclToken (first_of ts) → GoodOf limits DeclRule m (take 1 ts)
decl_opens limits m [] b = absurd b
decl_opens limits m (x ∷ ts) b = decl_with limits m x.token x.at ts b

some_decl : (limits : Limits) → Inhabited DeclRule
some_decl limits = let g = actor_good limits 2 nowhere in record { marked = g.read ++ g.rest; tree = g.tree; rule = g.rule }

node_opens : (limits : Limits) (m : ℕ) (ts : List Spot) → AsFirst DeclToken (first_of ts) → GoodOf limits (Marks (Node 1) DeclRule) m (take 1 ts)
node_opens limits m ts b = good_marks limits DeclRule Any (Node 1) m (take 1 ts) (λ l. omega arith) (decl_opens limits m ts b)

node_begins : (w : List Marked) (x : DeclTree) → Marks (Node 1) DeclRule w x → Starts DeclToken w
node_begins w x r = starts_marks r.0 (decl_starts r.1) r.2
  where
    starts_marks : {w : List Marked} (xs : List Marked) → Starts DeclToken xs → w ≡ begin (Node 1) xs → Starts DeclToken w
    starts_marks [] h e = absurd h
    starts_marks (x ∷ xs) h e = subst (Starts DeclToken) (sym e) h

-- what `parse` answers where declarations are refused
program_refused : (t : Tokens) → length t.spots.items ≤ 200000 → (f : SourceFault) → Fails OF_PROGRAMS (DeclsRule 1) AtEnd t 0 f → ParseAnswer t (Err f)
program_refused t few (Refused (rule.S n) p) a = let s = a.1 in let e : 0 + s.number ≡ s.number =
    omega arith in (a.0, program_fails t 2 s.number p (omega arith) few (s.place ∙ ap (place_at t) e) s.stops)
program_refused t few (Refused (rule.L n) p) a = let s = a.2 in let e : 0 + s.number ≡ s.number = omega arith in inr (program_limit t n s.number p a.0 a.1 few (s.place ∙ ap (place_at t) e) s.stops)
program_refused t few (Refused (rule.K n) p) a = a
program_refused t few (AcrossWait p q r) a = a
program_refused t few OutOfMemory a = tt

module _ (t : Tokens) (few : length t.spots.items ≤ 200000) {at n : ℕ} {g : List DeclTree → List DeclTree} (l : Leaves OF_PROGRAMS (DeclsRule 1) AtEnd (DeclsRule n) AtEnd g t.spots.items 0 at)
    (x : Token) (e : token_at t.spots.items at ≡ Some x) where
  -- one declaration more than there may be
  pub decl_beyond : 4096 < n → at < length t.spots.items → AsFirst DeclToken (token_at t.spots.items at) → ParseAnswer t (Err (Refused (rule.L 3) (place_at t at)))
  decl_beyond k lt b = program_refused t few (Refused (rule.L 3) (place_at t at))
      (first_fails OF_PROGRAMS t (decls_link n) (decl_left OF_PROGRAMS t.spots.items x e l) (Refused (rule.L 3) (place_at t at))
      (beyond_fails OF_PROGRAMS (Marks (Node 1) DeclRule) Any (Declaration n) 3 t at (omega arith) (omega arith) lt (λ h. let y = h (omega arith) in omega arith)
      (λ m i h. absurd (omega arith)) DeclToken node_begins (some_marks DeclRule (Node 1) (some_decl OF_PROGRAMS))
      (λ m i. node_opens OF_PROGRAMS m (drop at t.spots.items) (next_first DeclToken t.spots.items at b))))

  -- no declaration begins here
  pub no_decl : (AsFirst DeclToken (token_at t.spots.items at) → ⊥) → ParseAnswer t (Err (Refused (rule.S 5) (place_at t at)))
  no_decl b = program_refused t few (Refused (rule.S 5) (place_at t at)) (first_fails OF_PROGRAMS t (decls_link n) (decl_left OF_PROGRAMS t.spots.items x e l) (Refused (rule.S 5) (place_at t at))
      (none_fails OF_PROGRAMS (DeclMarks n) Any t at (some_marks (Marks (Node 1) DeclRule) (Declaration n) (some_marks DeclRule (Node 1) (some_decl OF_PROGRAMS)))
      (λ w z y r f k. b (starts_looks DeclToken w z (token_at t.spots.items at) (decl_marks_starts r) k))))

  -- the declaration that begins here is refused
  pub decl_fails : n ≤ 4096 → (f : SourceFault) → Fails OF_PROGRAMS DeclRule Any t at f → ParseAnswer t (Err f)
  decl_fails k f a = program_refused t few f (first_fails OF_PROGRAMS t (decls_link n) (decl_left OF_PROGRAMS t.spots.items x e l) f
      (marks_fails OF_PROGRAMS (Marks (Node 1) DeclRule) Any (Declaration n) t at (λ m le h. k) f (marks_fails OF_PROGRAMS DeclRule Any (Node 1) t at (λ m le h. omega arith) f a)))
