-- Each part has tokens that are it.
use Rattle.std.proofs.Common.{ℕ, suc, true, false, List, [], ◌∷◌, ◌++◌, refl, length, arith, ◌<◌, inl, inr}
use Rattle.std.specs.declared.option.Option.TheVariants.{None, Some}
use Rattle.flow_base.specs.declared.place.Place.{Place}
use Rattle.flow_tree.specs.declared.token.Token.{Token}
use Rattle.flow_tree.specs.declared.token.Token.TheVariants as token
use Rattle.flow_tree.specs.declared.token.Word.TheVariants as word
use Rattle.flow_tree.specs.declared.token.Sign.TheVariants as sign
use Rattle.flow_tree.specs.declared.ty.Ident.{Ident}
use Rattle.flow_tree.specs.declared.decl.RoutineKind.{RoutineKind}
use Rattle.flow_tree.specs.Tree.{IntType, NothingType, BoolExpr, NoExprs}
use Rattle.flow_tree.specs.Body.{IntoTree, End, BreakStmt, ModifyStmt, UpChange, DeclareStmt, NoBranches, MoreBranches}
use Rattle.flow_tree.specs.GrammarToken.{Part, Branch, Node, Variable, Marked, opens, begin}
use Rattle.flow_tree.specs.Grammar.{sign_at, word_at, name_at, node_word, TypeRule, int_type, ExprRule, truth, no_args, end_args}
use Rattle.flow_tree.specs.GrammarStmt.{Counts, one_statement, begin_statement, no_state, declared, wait, plain_wait, last_name, up, change, no_init, no_step, no_expr, something, break_stmt, plain_stmt, block_body, braces, no_stmts, no_whens, branch}
use Rattle.flow_tree.specs.GrammarDecl.{ParamRule, param, no_fields, more_fields, end_params, no_params, routine, DeclsRule, no_decls}
use Rattle.flow_exprs.proofs.Goes.{nowhere}
use Rattle.flow_parse.specs.Reading.{Opening, Named, Then}
use Rattle.flow_parse.specs.Parts.{Out, Test, Args, MoreArgs, MoreNames, MaybeExpr, Returned, StatePart, IntoPart, OperandPart, WaitingPart, ChangeRule, goes_up, ChangedRule, changes, DeclaredRule, no_value, ValuedRule, declares, Unended, Simple, Init, Assignment, StartPart, NextPart, Plain, One, BodyPart, Closing, Block, Catch, WhenPart, WhensPart, AllWhens, FieldsPart, AllFields, MoreParams, Params, Routine, Gives, gives_nothing, Marks, Begun}
use Rattle.flow_parse.proofs.SimpleBacks.{Given}
use Rattle.flow_parse.proofs.StmtBacks.{ElsePart}
use Rattle.flow_parse.proofs.UnendedBacks.{init_unended, AfterName, AfterInit}
use Rattle.flow_parse.proofs.Failing.{Inhabited}

abbrev name : Ident
name = record { name = []; at = nowhere }

pub some_then : {A B : Type 0} (R : List Marked → A → Type 0) (S : A → List Marked → B → Type 0) → Inhabited R → ((a : A) → Inhabited (S a)) → Inhabited (Then R S)
some_then R S r s = let x = s r.tree in record { marked = r.marked ++ x.marked; tree = (r.tree, x.tree); rule = record { first = r.marked; rest = x.marked; is = refl; front = r.rule; back = x.rule } }

pub some_marks : {A : Type 0} (R : List Marked → A → Type 0) (p : Part) → Inhabited R → Inhabited (Marks p R)
some_marks R p r = record { marked = begin p r.marked; tree = r.tree; rule = (r.marked, r.rule, refl) }

pub some_begun : {A : Type 0} (R : List Marked → A → Type 0) (c : Counts) (d : ℕ) → Inhabited R → Inhabited (Begun c d R)
some_begun R c d r = record { marked = begin_statement c d r.marked; tree = r.tree; rule = (r.marked, r.rule, refl) }

pub some_opening : (ps : List Part) (x : Token) → Inhabited (Opening ps x)
some_opening ps x = record { marked = opens ps x nowhere ∷ []; tree = nowhere; rule = refl }

pub some_named : Inhabited Named
some_named = record { marked = name_at name ∷ []; tree = name; rule = refl }

pub some_type : (d : ℕ) → Inhabited (TypeRule d)
some_type d = record { marked = node_word d word.Int nowhere ∷ []; tree = IntType; rule = int_type nowhere }

pub some_expr : (d : ℕ) → Inhabited (ExprRule 0 d)
some_expr d = record { marked = node_word d word.Yes nowhere ∷ []; tree = BoolExpr true; rule = truth nowhere }

pub some_test : (d : ℕ) → Inhabited (Test d)
some_test d = let e = some_expr d in record {
  marked = sign_at sign.OpenRound nowhere ∷ (e.marked ++ sign_at sign.CloseRound nowhere ∷ []);
  tree = e.tree;
  rule = (nowhere, nowhere, e.marked, e.rule, refl);
}

pub some_state : (home : RoutineKind) (c : Counts) → Inhabited (StatePart home c)
some_state home c = record { marked = []; tree = (false, c); rule = no_state }

pub some_into : (home : RoutineKind) (d : ℕ) (c : Counts) → Inhabited (IntoPart home d c)
some_into home d c = let t = some_type d in record {
  marked = [] ++ (t.marked ++ name_at name ∷ []);
  tree = (record { state = false; ty = t.tree; name = name }, c);
  rule = declared name [] t.marked no_state t.rule refl;
}

pub some_operand : (d : ℕ) → Inhabited (OperandPart d)
some_operand d = let e = some_expr (suc d) in record {
  marked = word_at word.Wait nowhere ∷ sign_at sign.OpenRound nowhere ∷ (e.marked ++ sign_at sign.CloseRound nowhere ∷ []);
  tree = (false, e.tree);
  rule = wait nowhere nowhere nowhere e.marked e.rule refl;
}

pub some_waiting : (home : RoutineKind) (d : ℕ) (c : Counts) → Inhabited (WaitingPart home d c)
some_waiting home d c = let o = some_operand d in record { marked = o.marked; tree = (record { into = None; next = o.tree.0; operand = o.tree.1 }, c); rule = plain_wait o.rule }

pub some_names : (x : Ident) → Inhabited (MoreNames x)
some_names x = record { marked = []; tree = x ∷ []; rule = last_name x }

pub some_args : (d : ℕ) → Inhabited (Args d)
some_args d = record { marked = sign_at sign.CloseRound nowhere ∷ []; tree = NoExprs; rule = (nowhere, [], no_args, refl) }

pub some_more_args : (d : ℕ) → Inhabited (MoreArgs d)
some_more_args d = record { marked = sign_at sign.CloseRound nowhere ∷ []; tree = NoExprs; rule = (nowhere, [], end_args, refl) }

pub some_change : (d : ℕ) (at : Place) (xs : List Ident) → Inhabited (ChangeRule d at xs)
some_change d at xs = record { marked = sign_at sign.PlusPlus nowhere ∷ []; tree = ModifyStmt at xs UpChange End; rule = goes_up nowhere }

pub some_changed : (d : ℕ) (at : Place) (xs : List Ident) → Inhabited (ChangedRule d at xs)
some_changed d at xs = let x = some_change d at xs in record { marked = x.marked; tree = x.tree; rule = changes x.rule }

pub some_declared : (d : ℕ) (at : Place) (i : IntoTree) → Inhabited (DeclaredRule d at i)
some_declared d at i = record { marked = []; tree = DeclareStmt at i None End; rule = no_value }

pub some_valued : (d : ℕ) (at : Place) (i : IntoTree) → Inhabited (ValuedRule d at i)
some_valued d at i = record { marked = []; tree = DeclareStmt at i None End; rule = declares no_value }

pub some_assignment : (d : ℕ) → Inhabited (Assignment d)
some_assignment d = record {
  marked = name_at name ∷ sign_at sign.PlusPlus nowhere ∷ [];
  tree = ModifyStmt nowhere (name ∷ []) UpChange End;
  rule = (nowhere, up nowhere nowhere (name_at name ∷ []) (last_name name) refl refl);
}

pub some_init : (home : RoutineKind) (d : ℕ) (c : Counts) → Inhabited (Init home d c)
some_init home d c = let x = some_assignment d in record { marked = x.marked; tree = record { body = x.tree; counts = c; ends_if = false }; rule = (x.rule.0, change x.rule.0 x.rule.1, refl) }

pub some_unended : (home : RoutineKind) (d : ℕ) (c : Counts) → Inhabited (Unended home d c)
some_unended home d c = let x = some_init home d c in record { marked = x.marked; tree = x.tree; rule = (init_unended x.rule.1, x.rule.2) }

pub some_simple : (home : RoutineKind) (d : ℕ) (c : Counts) → Inhabited (Simple home d c)
some_simple home d c = let x = some_unended home d c in record { marked = x.marked ++ sign_at sign.Semicolon nowhere ∷ []; tree = x.tree; rule = (nowhere, x.marked, x.rule, refl) }

pub some_maybe : (d : ℕ) → Inhabited (MaybeExpr d)
some_maybe d = record { marked = sign_at sign.Semicolon nowhere ∷ []; tree = None; rule = (nowhere, [], no_expr, refl) }

pub some_returned : (home : RoutineKind) (d : ℕ) → Inhabited (Returned home d)
some_returned home d = let e = some_expr d in record { marked = e.marked ++ sign_at sign.Semicolon nowhere ∷ []; tree = Some e.tree; rule = (nowhere, e.marked, something e.rule, refl) }

pub some_gives : Inhabited Gives
some_gives = record { marked = word_at word.NoResult nowhere ∷ []; tree = NothingType; rule = gives_nothing nowhere }

pub some_start : (home : RoutineKind) (d : ℕ) (c : Counts) → Inhabited (StartPart home d c)
some_start home d c = record { marked = sign_at sign.Semicolon nowhere ∷ []; tree = (End, c); rule = (nowhere, [], no_init, refl) }

pub some_next : (d : ℕ) (c : Counts) → Inhabited (NextPart d c)
some_next d c = record { marked = sign_at sign.CloseRound nowhere ∷ []; tree = (End, c); rule = (nowhere, [], no_step, refl) }

pub some_else : (home : RoutineKind) (d : ℕ) (o : Out) → Inhabited (ElsePart home d o)
some_else home d o = record { marked = []; tree = None; rule = refl }

pub some_plain : (home : RoutineKind) (d : ℕ) (c : Counts) → Inhabited (Plain home d c)
some_plain home d c = record {
  marked = word_at word.Break nowhere ∷ sign_at sign.Semicolon nowhere ∷ [];
  tree = record { body = BreakStmt nowhere End; counts = c; ends_if = false };
  rule = (nowhere, break_stmt nowhere nowhere);
}

pub some_one : (home : RoutineKind) (d : ℕ) (c : Counts) → Inhabited (One home d c)
some_one home d c = let x = some_plain home d (one_statement c) in record { marked = begin_statement c d x.marked; tree = x.tree; rule = plain_stmt x.rule.0 x.marked x.rule.1 refl }

pub some_closing : (home : RoutineKind) (d : ℕ) (c : Counts) → Inhabited (Closing home d c)
some_closing home d c = record { marked = sign_at sign.CloseCurly nowhere ∷ []; tree = record { body = End; counts = c; close = nowhere }; rule = ([], no_stmts, refl) }

pub some_block : (home : RoutineKind) (d : ℕ) (c : Counts) → Inhabited (Block home d c)
some_block home d c = record {
  marked = sign_at sign.OpenCurly nowhere ∷ sign_at sign.CloseCurly nowhere ∷ [];
  tree = record { body = End; counts = c; close = nowhere };
  rule = (nowhere, [], no_stmts, refl);
}

pub some_body : (home : RoutineKind) (d : ℕ) (c : Counts) → Inhabited (BodyPart home d c)
some_body home d c = record {
  marked = sign_at sign.OpenCurly nowhere ∷ sign_at sign.CloseCurly nowhere ∷ [];
  tree = record { body = End; counts = c; ends_if = false };
  rule = block_body (braces nowhere nowhere [] no_stmts refl);
}

pub some_catch : Inhabited Catch
some_catch = record {
  marked = word_at word.Catch nowhere ∷ sign_at sign.OpenRound nowhere ∷ word_at word.Error nowhere ∷ sign_at sign.Amp nowhere ∷ name_at name ∷ sign_at sign.CloseRound nowhere
      ∷ [];
  tree = (nowhere, name);
  rule = (nowhere, nowhere, nowhere, nowhere, refl);
}

pub some_when : (home : RoutineKind) (d n : ℕ) (c : Counts) → Inhabited (WhenPart home d n c)
some_when home d n c =
    let y = some_waiting home d c in
    let o = some_body home (suc d) y.tree.1 in
    record {
      marked = opens (Branch n ∷ Node d ∷ []) (token.Word word.When) nowhere ∷ sign_at sign.OpenRound nowhere ∷ (y.marked ++ (sign_at sign.CloseRound nowhere ∷ o.marked));
      tree = record { at = nowhere; waiting = y.tree.0; body = o.tree.body; counts = o.tree.counts };
      rule = λ bs. branch nowhere nowhere nowhere y.marked o.marked y.rule o.rule refl;
    }

pub some_whens : (home : RoutineKind) (d n : ℕ) (c : Counts) → Inhabited (WhensPart home d n c)
some_whens home d n c = record { marked = sign_at sign.CloseCurly nowhere ∷ []; tree = (NoBranches, c); rule = (nowhere, [], no_whens, refl) }

pub some_param : (n : ℕ) → Inhabited (ParamRule n)
some_param n = let t = some_type 1 in record { marked = begin (Variable n) (t.marked ++ name_at name ∷ []); tree = record { ty = t.tree; name = name }; rule = param name t.marked t.rule refl }

pub some_fields : (n : ℕ) → Inhabited (FieldsPart n)
some_fields n = record { marked = sign_at sign.CloseCurly nowhere ∷ []; tree = []; rule = (nowhere, [], no_fields, refl) }

pub some_more_params : (n : ℕ) → Inhabited (MoreParams n)
some_more_params n = record { marked = sign_at sign.CloseRound nowhere ∷ []; tree = []; rule = (nowhere, [], end_params, refl) }

pub some_params : Inhabited Params
some_params = record { marked = sign_at sign.CloseRound nowhere ∷ []; tree = []; rule = (nowhere, [], no_params, refl) }

pub some_routine : (home : RoutineKind) → Inhabited (Routine home)
some_routine home = record {
  marked = name_at name ∷ sign_at sign.OpenRound nowhere ∷ sign_at sign.CloseRound nowhere ∷ sign_at sign.OpenCurly nowhere ∷ sign_at sign.CloseCurly nowhere ∷ [];
  tree = record { name = name; params = []; body = End; close = nowhere };
  rule = λ at t. routine nowhere nowhere nowhere nowhere name [] [] no_params no_stmts refl;
}

pub some_decls : (n : ℕ) → Inhabited (DeclsRule n)
some_decls n = record { marked = []; tree = []; rule = no_decls }

pub some_all_fields : Inhabited AllFields
some_all_fields =
    let x = some_param 1 in
    record {
      marked = (x.marked ++ sign_at sign.Semicolon nowhere ∷ []) ++ sign_at sign.CloseCurly nowhere ∷ [];
      tree = x.tree ∷ [];
      rule = ((nowhere, x.marked ++ sign_at sign.Semicolon nowhere ∷ [], more_fields nowhere x.marked [] x.rule no_fields refl, refl), one x.tree);
    }
  where
    one : {A : Type 0} (x : A) → 0 < length (x ∷ [])
    one x = omega arith

pub some_all_whens : (home : RoutineKind) (d : ℕ) (c : Counts) → Inhabited (AllWhens home d c)
some_all_whens home d c =
    let x = some_when home d 1 c in
    record {
      marked = x.marked ++ ([] ++ sign_at sign.CloseCurly nowhere ∷ []);
      tree = (MoreBranches x.tree.at x.tree.waiting x.tree.body NoBranches, x.tree.counts);
      rule = (nowhere, x.marked, [], x.tree.counts, NoBranches, x.rule NoBranches, no_whens, refl);
    }

pub some_after_name : (d : ℕ) (x : Ident) → Inhabited (AfterName d x)
some_after_name d x = let y = some_changed d x.at (x ∷ []) in record {
  marked = y.marked;
  tree = y.tree;
  rule = inr (record { tree = (x ∷ [], y.tree); rule = record { first = []; rest = y.marked; is = refl; front = last_name x; back = y.rule }; is = refl });
}

pub some_after_init : (d : ℕ) (x : Ident) → Inhabited (AfterInit d x)
some_after_init d x = let y = some_change d x.at (x ∷ []) in record {
  marked = y.marked;
  tree = y.tree;
  rule = inr (record { tree = (x ∷ [], y.tree); rule = record { first = []; rest = y.marked; is = refl; front = last_name x; back = y.rule }; is = refl });
}

pub some_given : (d : ℕ) (at : Place) (i : IntoTree) → Inhabited (Given d at i)
some_given d at i = let e = some_expr (suc d) in record { marked = e.marked; tree = DeclareStmt at i (Some e.tree) End; rule = inl (record { tree = e.tree; rule = e.rule; is = refl }) }
