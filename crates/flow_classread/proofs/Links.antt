-- What follows each part of a class text, and that there is some of each.
use Rattle.std.proofs.Common.{◌≡◌, ℕ, ◌+◌, List, [], ◌∷◌, ◌++◌, refl, sym, ap, ◌∙◌, subst, append_assoc, true}
use Rattle.std.specs.Prelude.{codes}
use Rattle.std.specs.declared.option.Option.{Option}
use Rattle.std.specs.declared.option.Option.TheVariants.{None, Some}
use Rattle.flow_base.specs.declared.place.Place.{Place}
use Rattle.flow_tree.specs.declared.limits.TheConstants.{OF_CLASS_TEXT}
use Rattle.flow_tree.specs.declared.token.Token.{Token}
use Rattle.flow_tree.specs.declared.token.Token.TheVariants as token
use Rattle.flow_tree.specs.declared.token.Word.TheVariants as word
use Rattle.flow_tree.specs.declared.token.Sign.TheVariants as sign
use Rattle.flow_tree.specs.declared.token.Tokens.{Tokens}
use Rattle.flow_tree.specs.Tree.{ExprTree, BoolExpr, NoExprs}
use Rattle.flow_tree.specs.GrammarToken.{Marked, opens}
use Rattle.flow_tree.specs.Grammar.{sign_at, node_word, ExprRule, truth, no_args}
use Rattle.flow_exprs.proofs.Goes.{nowhere}
use Rattle.flow_parse.specs.Reading.{token_at, Tok, Any, Reads}
use Rattle.flow_parse.specs.Openers.{ExprToken}
use Rattle.flow_parse.specs.Follow.{NotBefore}
use Rattle.flow_parse.proofs.Looking.{Looks, Back}
use Rattle.flow_parse.proofs.Begins.{starts_looks, expr_starts, looks_is}
use Rattle.flow_parse.proofs.Failing.{Inhabited}
use Rattle.flow_parse.proofs.Leaves.{Link, Turns, free, become, tok_reads}
use Rattle.flow_classprint.specs.declared.version.Version.{Version}
use Rattle.flow_classprint.specs.declared.version.Version.TheVariants.{Two}
use Rattle.flow_classprint.specs.ClassGrammar.{WholeRule, VarPathRule, CalleeRule, ReturnedRule, nothing, something}
use Rattle.flow_classread.specs.Parts.{Behind, Closed, Both, NumberPart, Target, Ended, Test, FreeArgs, Args, Returned}
use Rattle.flow_classread.proofs.Single.{some_number}
use Rattle.flow_classread.proofs.Combine.{some_behind, some_closed, some_both}

-- a part and then one that begins with a token of its own
pub behind_link : {A B : Type 0} (R : List Marked → A → Type 0) (FR : A → List Marked → Type 0) (x : Token) (S : List Marked → B → Type 0) (F : A × B → List Marked → Type 0)
    → ((a : A) (p : Place) (z : List Marked) → FR a (opens [] x p ∷ z)) → Inhabited S → Link R FR (λ a. Behind x S) F
behind_link R FR x S F ok some = record { follows = λ a b v z s f. subst (λ k. FR a (k ++ z)) (sym s.3) (ok a s.0 (s.1 ++ z)); more = λ a. some_behind x S some }

pub some_whole : Inhabited WholeRule
some_whole = record { marked = node_word 1 word.Yes nowhere ∷ []; tree = BoolExpr true; rule = record { rule = truth nowhere; free = tt } }

pub some_round : Inhabited (Closed (token.Sign sign.CloseRound) WholeRule)
some_round = some_closed (token.Sign sign.CloseRound) WholeRule some_whole

pub some_target : Inhabited Target
some_target = some_closed (token.Sign sign.Semicolon) NumberPart some_number

pub some_ended : Inhabited Ended
some_ended = some_closed (token.Sign sign.Semicolon) WholeRule some_whole

pub some_returned : (v : Version) → Inhabited (Returned v)
some_returned v =
    some_closed (token.Sign sign.Semicolon) (ReturnedRule v) (record { marked = some_whole.marked; tree = Some some_whole.tree; rule = something some_whole.rule })

-- version 2 has no expression where the semicolon stands; else there is one
semicolon_opens : {k d : ℕ} {w : List Marked} {e : ExprTree} (z : List Marked) → ExprRule k d w e → Looks (Some (token.Sign sign.Semicolon)) (w ++ z) → ⊥
semicolon_opens {w = w} z r l = starts_looks ExprToken w z (Some (token.Sign sign.Semicolon)) (expr_starts r) l

pub bare_turns : Turns (Returned Two) Any (Tok (token.Sign sign.Semicolon)) Any (λ p. None) (Some (token.Sign sign.Semicolon))
bare_turns = record { back = λ w z b r f l. of w z b r.0 r.1 r.2 r.3 l; forth = λ w p r. (p, [], nothing, r) }
  where
    of : (w z : List Marked) (b : Option ExprTree) (p : Place) (inner : List Marked) → ReturnedRule Two inner b → w ≡ inner ++ sign_at sign.Semicolon p ∷ []
        → Looks (Some (token.Sign sign.Semicolon)) (w ++ z)
        → Back (Returned Two) Any (Tok (token.Sign sign.Semicolon)) Any (λ p. None) w z b
    of w z b p inner nothing e l = record { tree = p; rule = e; is = refl; follows = tt }
    of w z b p inner (something r) e l = absurd (semicolon_opens (sign_at sign.Semicolon p ∷ z) r.rule
        (subst (Looks (Some (token.Sign sign.Semicolon))) (ap (λ y. y ++ z) e ∙ append_assoc inner (sign_at sign.Semicolon p ∷ []) z) l))

pub bare_reads : (t : Tokens) (at : ℕ) (v : Version) → v ≡ Two → token_at t.spots.items at ≡ Some (token.Sign sign.Semicolon)
    → Reads OF_CLASS_TEXT (Returned v) Any t.spots.items at None (at + 1)
bare_reads t at v e f = subst (λ u. Reads OF_CLASS_TEXT (Returned u) Any t.spots.items at None (at + 1)) (sym e)
    (become OF_CLASS_TEXT t.spots.items f bare_turns (tok_reads OF_CLASS_TEXT t at (token.Sign sign.Semicolon) f))

pub value_turns : (v : Version) (o : Option Token) → (v ≡ Two → o ≡ Some (token.Sign sign.Semicolon) → ⊥) → Turns (Returned v) Any Ended Any Some o
value_turns v o nope = record { back = λ w z b r f l. of v refl w z b r.0 r.1 r.2 r.3 l; forth = λ w e r. (r.0, r.1, something r.2, r.3) }
  where
    of : (u : Version) → v ≡ u → (w z : List Marked) (b : Option ExprTree) (p : Place) (inner : List Marked) → ReturnedRule u inner b → w ≡ inner ++ sign_at sign.Semicolon p ∷ []
        → Looks o (w ++ z)
        → Back (Returned v) Any Ended Any Some w z b
    of u q w z b p inner (something {e = t} r) e l = record { tree = t; rule = (p, inner, r, e); is = refl; follows = tt }
    of Two q w z b p inner nothing e l = absurd (nope q (looks_is o (sign_at sign.Semicolon p) [] z e l))

pub some_test : Inhabited Test
some_test = some_behind (token.Sign sign.OpenRound) (Closed (token.Sign sign.CloseRound) WholeRule) some_round

pub path_link : Link VarPathRule (NotBefore (token.Sign sign.Dot)) (λ xs. Behind (token.Sign sign.Assign) Ended) Any
path_link = behind_link VarPathRule (NotBefore (token.Sign sign.Dot)) (token.Sign sign.Assign) Ended Any (λ a p z e. absurd (cc)) some_ended

some_args : Inhabited Args
some_args = some_closed (token.Sign sign.CloseRound) FreeArgs (record { marked = []; tree = NoExprs; rule = (no_args, tt) })

pub some_closed_args : Inhabited (Closed (token.Sign sign.Semicolon) Args)
some_closed_args = some_closed (token.Sign sign.Semicolon) Args some_args

pub callee_link : Link CalleeRule (NotBefore (token.Sign sign.Dot)) (λ xs. Behind (token.Sign sign.OpenRound) (Closed (token.Sign sign.Semicolon) Args)) Any
callee_link = behind_link CalleeRule (NotBefore (token.Sign sign.Dot)) (token.Sign sign.OpenRound) (Closed (token.Sign sign.Semicolon) Args) Any (λ a p z e. absurd (cc)) some_closed_args

-- "goto" number "else" number ";"
some_else : Inhabited (Behind (token.Word word.Else) Target)
some_else = some_behind (token.Word word.Else) Target some_target

pub some_branch_numbers : Inhabited (Both NumberPart (Behind (token.Word word.Else) Target))
some_branch_numbers = some_both NumberPart (Behind (token.Word word.Else) Target) some_number some_else

pub branch_number_link : Link NumberPart Any (λ n. Behind (token.Word word.Else) Target) Any
branch_number_link = free (λ n. some_else)

pub branch_test_link : Link Test Any (λ e. Behind (token.Name (codes "goto")) (Both NumberPart (Behind (token.Word word.Else) Target))) Any
branch_test_link = free (λ e. some_behind (token.Name (codes "goto")) (Both NumberPart (Behind (token.Word word.Else) Target)) some_branch_numbers)
