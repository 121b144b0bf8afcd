-- What the loops over parameters, fields and declarations have read so far.
use Rattle.std.proofs.Common.{◌≡◌, ℕ, zero, suc, ◌+◌, ◌≤◌, ◌<◌, List, [], ◌∷◌, ◌++◌, length, map, drop, refl, sym, ap, ◌∙◌, subst, arith}
use Rattle.std.proofs.lemmas.List.{append-nil}
use Rattle.std.specs.declared.option.Option.TheVariants.{None, Some}
use Rattle.flow_tree.specs.declared.limits.Limits.{Limits}
use Rattle.flow_tree.specs.declared.limits.TheConstants.{OF_PROGRAMS}
use Rattle.flow_base.specs.declared.place.Place.{Place}
use Rattle.flow_tree.specs.declared.token.Token.{Token}
use Rattle.flow_tree.specs.declared.token.Token.TheVariants as token
use Rattle.flow_tree.specs.declared.token.Sign.TheVariants as sign
use Rattle.flow_tree.specs.declared.token.Spot.{Spot}
use Rattle.flow_tree.specs.declared.token.Tokens.{Tokens}
use Rattle.flow_tree.specs.declared.decl.Param.{Param}
use Rattle.flow_tree.specs.declared.decl.Decl.{Decl}
use Rattle.flow_tree.specs.Decls.{ParamTree, DeclTree}
use Rattle.flow_tree.specs.DeclView.{param_of, params_of, decl_of}
use Rattle.flow_tree.specs.GrammarToken.{Declaration, Node, spots_of}
use Rattle.flow_tree.specs.GrammarDecl.{ParamRule, DeclRule, DeclsRule, program, IsProgram}
use Rattle.flow_parse.specs.Reading.{token_at, Tok, Any, Reads}
use Rattle.flow_parse.specs.Follow.{AtEnd}
use Rattle.flow_parse.specs.Parts.{FieldsPart, AllFields, MoreParams, Params}
use Rattle.flow_parse.proofs.Leaves.{Leaves, means, then_reads, done, marks_reads}
use Rattle.flow_parse.proofs.Decls.{params_link, more_params_link, next_param_link, field_link, semicolon_link, decls_link, params_left, more_params_left, end_params_left, fields_left, more_fields_left, end_fields_left, decl_left, no_decl_reads}
use Rattle.flow_parse.proofs.Lists.{params_push, decls_push}

abbrev pub params_before : List Param → List ParamTree → List ParamTree
params_before ps qs = params_of ps ++ qs

pub params_init : (limits : Limits) (t : Tokens) (at to : ℕ) (ps : List Param) (p : Param) → at ≤ length t.spots.items → (token_at t.spots.items at ≡ Some (token.Sign sign.CloseRound) → ⊥)
    → ps ≡ p ∷ [] → Reads limits (ParamRule 1) Any t.spots.items at (param_of p) to
    → Leaves limits Params Any (MoreParams 2) Any (params_before ps) t.spots.items at to
params_init limits t at to ps p h n q r = means limits t.spots.items (params_before ps) (λ ts. ap (λ z. params_before z ts) (sym q))
    (then_reads limits t.spots.items params_link (params_left limits t at h n) r)

pub params_step : (limits : Limits) (spots : List Spot) (from at to n m : ℕ) (k : Place) (ps qs : List Param) (p : Param) → qs ≡ ps ++ p ∷ [] → m ≡ suc n
    → token_at spots at ≡ Some (token.Sign sign.Comma) → Leaves limits Params Any (MoreParams n) Any (params_before ps) spots from at
    → Reads limits (Tok (token.Sign sign.Comma)) Any spots at k (at + 1) → Reads limits (ParamRule n) Any spots (at + 1) (param_of p) to
    → Leaves limits Params Any (MoreParams m) Any (params_before qs) spots from to
params_step limits spots from at to n m k ps qs p q e x l s r =
    subst (λ i. Leaves limits Params Any (MoreParams i) Any (params_before qs) spots from to) (sym e)
    (means limits spots (params_before qs) (λ ts. params_push ps p ts ∙ ap (λ z. params_before z ts) (sym q))
    (then_reads limits spots (next_param_link n) (then_reads limits spots (more_params_link n) (more_params_left limits spots x l) s) r))

pub params_done : (limits : Limits) (spots : List Spot) (from at to n : ℕ) (k : Place) (ps : List Param) → (token_at spots at ≡ Some (token.Sign sign.Comma) → ⊥)
    → Leaves limits Params Any (MoreParams n) Any (params_before ps) spots from at → Reads limits (Tok (token.Sign sign.CloseRound)) Any spots at k to
    → Reads limits Params Any spots from (params_of ps) to
params_done limits spots from at to n k ps x l r = subst (λ z. Reads limits Params Any spots from z to) (append-nil (params_of ps)) (done limits spots (end_params_left limits spots x l) r)

pub fields_init : (limits : Limits) (t : Tokens) (at mid to : ℕ) (k : Place) (ps : List Param) (p : Param) → at ≤ length t.spots.items → ps ≡ p ∷ []
    → Reads limits (ParamRule 1) Any t.spots.items at (param_of p) mid → Reads limits (Tok (token.Sign sign.Semicolon)) Any t.spots.items mid k to
    → Leaves limits AllFields Any (FieldsPart 2) Any (params_before ps) t.spots.items at to
fields_init limits t at mid to k ps p h q r s = means limits t.spots.items (params_before ps) (λ ts. ap (λ z. params_before z ts) (sym q))
    (then_reads limits t.spots.items (semicolon_link 2) (then_reads limits t.spots.items (field_link 1) (fields_left limits t at h) r) s)

pub fields_step : (limits : Limits) (spots : List Spot) (from at mid to n m : ℕ) (k : Place) (ps qs : List Param) (p : Param) → qs ≡ ps ++ p ∷ [] → m ≡ suc n
    → (token_at spots at ≡ Some (token.Sign sign.CloseCurly) → ⊥) → Leaves limits AllFields Any (FieldsPart n) Any (params_before ps) spots from at
    → Reads limits (ParamRule n) Any spots at (param_of p) mid → Reads limits (Tok (token.Sign sign.Semicolon)) Any spots mid k to
    → Leaves limits AllFields Any (FieldsPart m) Any (params_before qs) spots from to
fields_step limits spots from at mid to n m k ps qs p q e x l r s =
    subst (λ i. Leaves limits AllFields Any (FieldsPart i) Any (params_before qs) spots from to) (sym e)
    (means limits spots (params_before qs) (λ ts. params_push ps p ts ∙ ap (λ z. params_before z ts) (sym q))
    (then_reads limits spots (semicolon_link (suc n)) (then_reads limits spots (field_link n) (more_fields_left limits spots x l) r) s))

pub fields_done : (limits : Limits) (spots : List Spot) (from at to n : ℕ) (k : Place) (ps : List Param) → token_at spots at ≡ Some (token.Sign sign.CloseCurly)
    → Leaves limits AllFields Any (FieldsPart n) Any (params_before ps) spots from at → Reads limits (Tok (token.Sign sign.CloseCurly)) Any spots at k to
    → Reads limits AllFields Any spots from (params_of ps) to
fields_done limits spots from at to n k ps x l r = subst (λ z. Reads limits AllFields Any spots from z to) (append-nil (params_of ps)) (done limits spots (end_fields_left limits spots x l) r)

-- a token stands before the end, and none behind it
pub some_at : (spots : List Spot) (at : ℕ) → at < length spots → (x : Token) × (token_at spots at ≡ Some x)
some_at [] at h = absurd (omega arith)
some_at (s ∷ spots) zero h = (s.token, refl)
some_at (s ∷ spots) (suc at) h = some_at spots at (omega arith)

pub none_at : (spots : List Spot) (at : ℕ) → length spots ≤ at → token_at spots at ≡ None
none_at [] zero h = refl
none_at [] (suc at) h = refl
none_at (s ∷ spots) zero h = absurd (omega arith)
none_at (s ∷ spots) (suc at) h = none_at spots at (omega arith)

abbrev pub decls_before : List Decl → List DeclTree → List DeclTree
decls_before ds ts = map decl_of ds ++ ts

pub decls_step : (limits : Limits) (spots : List Spot) (at to n m : ℕ) (ds es : List Decl) (d : Decl) → es ≡ ds ++ d ∷ [] → m ≡ suc n → n ≤ limits.declarations → (x : Token)
    → token_at spots at ≡ Some x → Leaves limits (DeclsRule 1) AtEnd (DeclsRule n) AtEnd (decls_before ds) spots 0 at
    → Reads limits DeclRule Any spots at (decl_of d) to → Leaves limits (DeclsRule 1) AtEnd (DeclsRule m) AtEnd (decls_before es) spots 0 to
decls_step limits spots at to n m ds es d q e k x f l r =
    subst (λ i. Leaves limits (DeclsRule 1) AtEnd (DeclsRule i) AtEnd (decls_before es) spots 0 to) (sym e)
    (means limits spots (decls_before es) (λ ts. decls_push ds d ts ∙ ap (λ z. decls_before z ts) (sym q))
    (then_reads limits spots (decls_link n) (decl_left limits spots x f l) (marks_reads limits spots (Declaration n) (λ h. k) (marks_reads limits spots (Node 1) (λ h. omega arith) r))))

pub decls_done : (limits : Limits) (spots : List Spot) (at n : ℕ) (ds : List Decl) → length spots ≤ at → Leaves limits (DeclsRule 1) AtEnd (DeclsRule n) AtEnd (decls_before ds) spots 0 at
    → Reads limits (DeclsRule 1) AtEnd spots 0 (map decl_of ds) at
decls_done limits spots at n ds h l = subst (λ z. Reads limits (DeclsRule 1) AtEnd spots 0 z at) (append-nil (map decl_of ds))
    (done limits spots l (no_decl_reads limits spots at n l.within (none_at spots at h)))

-- all of a text has been read
drop_all : (xs : List Spot) → drop (length xs) xs ≡ []
drop_all [] = refl
drop_all (x ∷ xs) = drop_all xs

pub program_derived : (t : Tokens) (at : ℕ) (ds : List DeclTree) → length t.spots.items ≤ at → Reads OF_PROGRAMS (DeclsRule 1) AtEnd t.spots.items 0 ds at
    → IsProgram t (record { decls = ds; end = t.end })
program_derived t at ds h r =
    let e : at ≡ length t.spots.items = omega (arith, r.within) in
    let f : drop at t.spots.items ≡ [] = ap (λ k. drop k t.spots.items) e ∙ drop_all t.spots.items in
    record { marked = r.marked; rule = program r.rule; is = sym (append-nil (spots_of r.marked)) ∙ sym (r.is ∙ ap (λ z. spots_of r.marked ++ z) f); keeps = r.keeps }
