-- Tokens are one program at most.
use Rattle.std.proofs.Common.{◌≡◌, ℕ, zero, suc, List, [], ◌∷◌, length, refl, sym, ap, ◌∙◌, subst, arith, inl, inr}
use Rattle.std.proofs.lemmas.List.{append-nil}
use Rattle.std.specs.declared.option.Option.{Option}
use Rattle.std.specs.declared.option.Option.TheVariants.{None, Some}
use Rattle.flow_base.specs.declared.place.Place.{Place}
use Rattle.flow_tree.specs.declared.token.Token.{Token}
use Rattle.flow_tree.specs.declared.token.Token.TheVariants as token
use Rattle.flow_tree.specs.declared.token.Word.TheVariants as word
use Rattle.flow_tree.specs.declared.token.Sign.TheVariants as sign
use Rattle.flow_tree.specs.declared.token.Spot.{Spot}
use Rattle.flow_tree.specs.declared.decl.RoutineKind.{RoutineKind}
use Rattle.flow_tree.specs.declared.decl.RoutineKind.TheVariants as routines
use Rattle.flow_tree.specs.Tree.{NothingType}
use Rattle.flow_tree.specs.Decls.{StructDecl, FunctionDecl, ActorDecl, ProgramTree}
use Rattle.flow_tree.specs.GrammarToken.{Declaration, Node, Variable, Marked, spots_of, Derives}
use Rattle.flow_tree.specs.Grammar.{TypeRule}
use Rattle.flow_tree.specs.GrammarDecl.{ParamRule, DeclRule, DeclsRule, ProgramRule, program}
use Rattle.flow_parse.specs.Openers.{TypeToken, DeclToken}
use Rattle.flow_parse.specs.Reading.{Tok, Named, Then, Any}
use Rattle.flow_parse.specs.Follow.{AtEnd}
use Rattle.flow_parse.specs.Parts.{Placed, Marks, Block, FieldsPart, AllFields, MoreParams, Params, Routine, Record, Function, Gives, Actor}
use Rattle.flow_parse.proofs.Shapes.{TypeName}
use Rattle.flow_parse.proofs.DeclBacks.{param_back, param_starts, no_params_back, params_back, more_params_back, end_params_back, end_fields_back, more_fields_back, all_fields_back, RecordSeq, record_tree, RoutineSeq, routine_back, FunctionSeq, function_tree, GivesSeq, gives_nothing_back, gives_back, ActorSeq, actor_tree, record_part_back, function_part_back, actor_part_back, record_kind_back, actor_kind_back, function_kind_back, decl_marks_starts, DeclMarks, end_decls_back, decls_back}
use Rattle.flow_parse.proofs.Unique.{Uniq, UniqAt, uniq_by, at_nil, at_narrow, narrowed, uniq_opening, uniq_name, uniq_marks, uniq_placed, seq, seq_less, seq_tok, same_tok, at_close, at_comma, at_close_curly, at_struct, at_no_result, at_actor}
use Rattle.flow_parse.proofs.UniqueTypes.{uniq_type}
use Rattle.flow_parse.proofs.UniqueStmts.{uniq_block}

uniq_param : (n k : ℕ) → Uniq k (ParamRule n) Any
uniq_param n k = narrowed (ParamRule n) Any (Marks (Variable n) TypeName) Any (λ x. record { ty = x.0; name = x.1 }) k (λ w z b r f. param_back z r)
    (uniq_marks TypeName Any (Variable n) k (seq (TypeRule 1) Any (λ y. Named) Any k (λ a b v z r f. tt) (uniq_type k 1) (λ y. uniq_name k)))

-- parameters and fields
uniq_more_params : (k n : ℕ) → Uniq k (MoreParams n) Any
uniq_more_params zero n = λ w z v u a b lt r g s h e. absurd (omega arith)
uniq_more_params (suc k) n = uniq_by (MoreParams n) Any (suc k) (λ o. elim (at_comma o) [
  | inl e ↦ subst (λ y. UniqAt y (suc k) (MoreParams n) Any) (sym e)
      (at_narrow (MoreParams n) Any (Then (Tok (token.Sign sign.Comma)) (λ p. Then (ParamRule n) (λ f. MoreParams (suc n)))) Any (λ x. x.1.0 ∷ x.1.1) (suc k) (Some (token.Sign sign.Comma))
      (λ w z b r f l. more_params_back z r l)
      (seq_tok [] (token.Sign sign.Comma) (λ p. Then (ParamRule n) (λ f. MoreParams (suc n))) Any k
      (λ p. seq (ParamRule n) Any (λ f. MoreParams (suc n)) Any k (λ a b v z r f. tt) (uniq_param n k) (λ f. uniq_more_params k (suc n)))))
  | inr m ↦ at_narrow (MoreParams n) Any (Tok (token.Sign sign.CloseRound)) Any (λ p. []) (suc k) o (λ w z b r f l. end_params_back z o m r l) (uniq_opening [] (token.Sign sign.CloseRound) (suc k))
])

uniq_params : (k : ℕ) → Uniq k Params Any
uniq_params k = uniq_by Params Any k (λ o. elim (at_close o) [
  | inl e ↦ subst (λ y. UniqAt y k Params Any) (sym e) (at_narrow Params Any (Tok (token.Sign sign.CloseRound)) Any (λ p. []) k (Some (token.Sign sign.CloseRound))
      (λ w z b r f l. no_params_back z r l) (uniq_opening [] (token.Sign sign.CloseRound) k))
  | inr m ↦ at_narrow Params Any (Then (ParamRule 1) (λ f. MoreParams 2)) Any (λ x. x.0 ∷ x.1) k o (λ w z b r f l. params_back z o m r l)
      (seq (ParamRule 1) Any (λ f. MoreParams 2) Any k (λ a b v z r f. tt) (uniq_param 1 k) (λ f. uniq_more_params k 2))
])

uniq_fields : (k n : ℕ) → Uniq k (FieldsPart n) Any
uniq_fields zero n = λ w z v u a b lt r g s h e. absurd (omega arith)
uniq_fields (suc k) n = uniq_by (FieldsPart n) Any (suc k) (λ o. elim (at_close_curly o) [
  | inl e ↦ subst (λ y. UniqAt y (suc k) (FieldsPart n) Any) (sym e)
      (at_narrow (FieldsPart n) Any (Tok (token.Sign sign.CloseCurly)) Any (λ p. []) (suc k) (Some (token.Sign sign.CloseCurly)) (λ w z b r f l. end_fields_back z r l)
      (uniq_opening [] (token.Sign sign.CloseCurly) (suc k)))
  | inr m ↦ at_narrow (FieldsPart n) Any (Then (ParamRule n) (λ f. Then (Tok (token.Sign sign.Semicolon)) (λ p. FieldsPart (suc n)))) Any (λ x. x.0 ∷ x.1.1) (suc k) o
      (λ w z b r f l. more_fields_back z o m r l)
      (seq_less (ParamRule n) Any (λ f. Then (Tok (token.Sign sign.Semicolon)) (λ p. FieldsPart (suc n))) Any k (λ a b v z r f. tt) (uniq_param n (suc k))
      (λ f. same_tok [] (token.Sign sign.Semicolon) (λ p. FieldsPart (suc n)) Any k (λ p. uniq_fields k (suc n))) TypeToken (λ w a r. param_starts r))
])

uniq_all_fields : (k : ℕ) → Uniq k AllFields Any
uniq_all_fields k = narrowed AllFields Any (Then (ParamRule 1) (λ f. Then (Tok (token.Sign sign.Semicolon)) (λ p. FieldsPart 2))) Any (λ x. x.0 ∷ x.1.1) k (λ w z b r f. all_fields_back z r)
    (seq (ParamRule 1) Any (λ f. Then (Tok (token.Sign sign.Semicolon)) (λ p. FieldsPart 2)) Any k (λ a b v z r f. tt) (uniq_param 1 k)
    (λ f. same_tok [] (token.Sign sign.Semicolon) (λ p. FieldsPart 2) Any k (λ p. uniq_fields k 2)))

-- declarations
uniq_routine : (home : RoutineKind) (k : ℕ) → Uniq k (Routine home) Any
uniq_routine home k = narrowed (Routine home) Any (RoutineSeq home) Any (λ x. record { name = x.0; params = x.1.1.0; body = x.1.1.1.body; close = x.1.1.1.close }) k (λ w z b r f. routine_back z r)
    (seq Named Any (λ x. Then (Tok (token.Sign sign.OpenRound)) (λ p. Then Params (λ ps. Block home 2 (record { statements = 0; variables = length ps })))) Any k (λ a b v z r f. tt) (uniq_name k)
    (λ x.
    same_tok [] (token.Sign sign.OpenRound) (λ p. Then Params (λ ps. Block home 2 (record { statements = 0; variables = length ps }))) Any k (λ p.
    seq Params Any (λ ps. Block home 2 (record { statements = 0; variables = length ps })) Any k (λ a b v z r f. tt) (uniq_params k)
    (λ ps. uniq_block home 2 (record { statements = 0; variables = length ps }) k))))

uniq_record : (k : ℕ) → Uniq k Record Any
uniq_record k = narrowed Record Any RecordSeq Any record_tree k (λ w z b r f. record_part_back z r)
    (same_tok [] (token.Word word.Struct) (λ p. Then Named (λ x. Then (Tok (token.Sign sign.OpenCurly)) (λ q. Then AllFields (λ fs. Tok (token.Sign sign.Semicolon))))) Any k (λ p.
    seq Named Any (λ x. Then (Tok (token.Sign sign.OpenCurly)) (λ q. Then AllFields (λ fs. Tok (token.Sign sign.Semicolon)))) Any k (λ a b v z r f. tt) (uniq_name k) (λ x.
    same_tok [] (token.Sign sign.OpenCurly) (λ q. Then AllFields (λ fs. Tok (token.Sign sign.Semicolon))) Any k
    (λ q. seq AllFields Any (λ fs. Tok (token.Sign sign.Semicolon)) Any k (λ a b v z r f. tt) (uniq_all_fields k) (λ fs. uniq_opening [] (token.Sign sign.Semicolon) k)))))

uniq_function : (home : RoutineKind) (k : ℕ) → Uniq k (Function home) Any
uniq_function home k = narrowed (Function home) Any (FunctionSeq home) Any function_tree k (λ w z b r f. function_part_back z r)
    (seq (Placed (TypeRule 1)) Any (λ y. Routine home) Any k (λ a b v z r f. tt) (uniq_placed (TypeRule 1) Any k (uniq_type k 1)) (λ y. uniq_routine home k))

uniq_gives : (k : ℕ) → Uniq k Gives Any
uniq_gives k = uniq_by Gives Any k (λ o. elim (at_no_result o) [
  | inl e ↦ subst (λ y. UniqAt y k Gives Any) (sym e) (at_narrow Gives Any (Tok (token.Word word.NoResult)) Any (λ p. NothingType) k (Some (token.Word word.NoResult))
      (λ w z b r f l. gives_nothing_back z r l) (uniq_opening [] (token.Word word.NoResult) k))
  | inr n ↦ at_narrow Gives Any GivesSeq Any (λ x. x.1.1.0) k o (λ w z b r f l. gives_back z o n r l)
      (same_tok [] (token.Word word.Future) (λ q. Then (Tok (token.Sign sign.Less)) (λ s. Then (TypeRule 2) (λ y. Tok (token.Sign sign.Greater)))) Any k (λ q.
      same_tok [] (token.Sign sign.Less) (λ s. Then (TypeRule 2) (λ y. Tok (token.Sign sign.Greater))) Any k (λ s.
      seq (TypeRule 2) Any (λ y. Tok (token.Sign sign.Greater)) Any k (λ a b v z r f. tt) (uniq_type k 2) (λ y. uniq_opening [] (token.Sign sign.Greater) k))))
])

uniq_actor : (k : ℕ) → Uniq k Actor Any
uniq_actor k = narrowed Actor Any ActorSeq Any actor_tree k (λ w z b r f. actor_part_back z r)
    (same_tok [] (token.Word word.Actor) (λ p. Then Gives (λ y. Routine routines.Actor)) Any k (λ p.
    seq Gives Any (λ y. Routine routines.Actor) Any k (λ a b v z r f. tt) (uniq_gives k) (λ y. uniq_routine routines.Actor k)))

uniq_decl : (k : ℕ) → Uniq k DeclRule Any
uniq_decl k = uniq_by DeclRule Any k (λ o. elim (at_struct o) [
  | inl e ↦ subst (λ y. UniqAt y k DeclRule Any) (sym e) (at_narrow DeclRule Any Record Any StructDecl k (Some (token.Word word.Struct)) (λ w z b r f l. record_kind_back z r l) (uniq_record k))
  | inr n ↦ elim (at_actor o) [
    | inl e ↦ subst (λ y. UniqAt y k DeclRule Any) (sym e) (at_narrow DeclRule Any Actor Any ActorDecl k (Some (token.Word word.Actor)) (λ w z b r f l. actor_kind_back z r l) (uniq_actor k))
    | inr m ↦ at_narrow DeclRule Any (Function routines.Function) Any FunctionDecl k o (λ w z b r f l. function_kind_back z o n m r l) (uniq_function routines.Function k)
  ]
])

uniq_decls : (k n : ℕ) → Uniq k (DeclsRule n) AtEnd
uniq_decls zero n = λ w z v u a b lt r g s h e. absurd (omega arith)
uniq_decls (suc k) n = uniq_by (DeclsRule n) AtEnd (suc k) (by_next k n (uniq_decls k))
  where
    by_next : (k n : ℕ) → ((m : ℕ) → Uniq k (DeclsRule m) AtEnd) → (o : Option Token) → UniqAt o (suc k) (DeclsRule n) AtEnd
    by_next k n later None = at_nil (DeclsRule n) AtEnd (suc k) None [] (λ w z b r f l. end_decls_back z r l)
    by_next k n later (Some t) = at_narrow (DeclsRule n) AtEnd (Then (DeclMarks n) (λ x. DeclsRule (suc n))) (λ x. AtEnd x.1) (λ x. x.0 ∷ x.1) (suc k) (Some t) (λ w z b r f l. decls_back z t r f l)
        (seq_less (DeclMarks n) Any (λ x. DeclsRule (suc n)) (λ x. AtEnd x.1) k (λ a b v z r f. tt)
        (uniq_marks (Marks (Node 1) DeclRule) Any (Declaration n) (suc k) (uniq_marks DeclRule Any (Node 1) (suc k) (uniq_decl (suc k)))) (λ x. later (suc n)) DeclToken
        (λ w a r. decl_marks_starts r))

-- the tokens of a program are one program, whatever limits it keeps
pub one_program : (end : Place) (n m : ℕ) (toks : List Spot) (p q : ProgramTree) → Derives (ProgramRule end) n toks p → Derives (ProgramRule end) m toks q → p ≡ q
one_program end n m toks p q a b = by_rule a.marked b.marked a.rule b.rule (a.is ∙ sym b.is)
  where
    by_rule : {end : Place} {p q : ProgramTree} (w v : List Marked) → ProgramRule end w p → ProgramRule end v q → spots_of w ≡ spots_of v → p ≡ q
    by_rule {end = end} w v (program {xs = xs} r) (program {xs = ys} s) e =
        let k = uniq_decls (suc (length w)) 1 w [] v [] xs ys (omega arith) r refl s refl (ap spots_of (append-nil w) ∙ e ∙ sym (ap spots_of (append-nil v))) in
        ap (λ y. record { decls = y; end = end }) k.0
