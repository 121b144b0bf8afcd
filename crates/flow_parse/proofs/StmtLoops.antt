-- What the loops over statements and branches have read so far.
use Rattle.std.proofs.Common.{◌≡◌, ℕ, suc, ◌≤◌, Bool, List, [], ◌∷◌, ◌++◌, length, sym, ap, ◌∙◌, subst}
use Rattle.flow_tree.specs.declared.limits.Limits.{Limits}
use Rattle.flow_base.specs.declared.place.Place.{Place}
use Rattle.std.specs.declared.option.Option.TheVariants.{Some}
use Rattle.flow_tree.specs.declared.token.Token.TheVariants as token
use Rattle.flow_tree.specs.declared.token.Word.TheVariants as word
use Rattle.flow_tree.specs.declared.token.Sign.TheVariants as sign
use Rattle.flow_tree.specs.declared.token.Spot.{Spot}
use Rattle.flow_tree.specs.declared.token.Tokens.{Tokens}
use Rattle.flow_tree.specs.declared.stmt.Stmt.{Stmt}
use Rattle.flow_tree.specs.declared.stmt.When.{When}
use Rattle.flow_tree.specs.declared.decl.RoutineKind.{RoutineKind}
use Rattle.flow_tree.specs.Body.{End, Branches, MoreBranches}
use Rattle.flow_tree.specs.StmtView.{stmt_of, body_of, branch_of, branches_of}
use Rattle.flow_tree.specs.GrammarStmt.{Counts}
use Rattle.flow_parse.specs.Reading.{token_at, Tok, Any, Reads}
use Rattle.flow_parse.specs.Follow.{NotBefore}
use Rattle.flow_parse.specs.Parts.{NoElse, BlockOut, WhenOut, One, Closing, WhenPart, WhensPart, AllWhens}
use Rattle.flow_parse.specs.Views.{Stands}
use Rattle.flow_parse.proofs.Leaves.{Leaves, means, then_reads, done}
use Rattle.flow_parse.proofs.Lists.{stmts_before, stmts_push, stmts_end, branches_before, branches_push, branches_end}
use Rattle.flow_parse.proofs.Stmts.{stmt_more, when_more, stmt_left, end_left, whens_left, more_left, end_whens}

-- statements put before those that are still to come
abbrev pub closing_before : List Stmt → BlockOut → BlockOut
closing_before ss o = record { body = stmts_before ss o.body; counts = o.counts; close = o.close }

pub stmts_step : (limits : Limits) (spots : List Spot) (home : RoutineKind) (d : ℕ) (c0 : Counts) (from at to : ℕ) (c : Counts) (s : Stmt) (c' : Counts) (b : Bool) (ss fs : List Stmt) → fs ≡ ss ++ s ∷ []
    → Stands s → (token_at spots at ≡ Some (token.Sign sign.CloseCurly) → ⊥)
    → Leaves limits (Closing home d c0) Any (Closing home d c) Any (closing_before ss) spots from at
    → Reads limits (One home d c) NoElse spots at (record { body = stmt_of s End; counts = c'; ends_if = b }) to
    → Leaves limits (Closing home d c0) Any (Closing home d c') Any (closing_before fs) spots from to
stmts_step limits spots home d c0 from at to c s c' b ss fs q st n l r =
    (means limits) spots (closing_before fs) (λ o. ap (λ z. record { body = z; counts = o.counts; close = o.close })
    (ap (stmts_before ss) (sym (st o.body)) ∙ stmts_push ss s o.body ∙ ap (λ z. stmts_before z o.body) (sym q))) (then_reads limits spots (stmt_more home d c) (stmt_left limits spots n l) r)

pub stmts_done : (limits : Limits) (spots : List Spot) (home : RoutineKind) (d : ℕ) (c0 : Counts) (from at to : ℕ) (p : Place) (c : Counts) (ss : List Stmt)
    → token_at spots at ≡ Some (token.Sign sign.CloseCurly) → Leaves limits (Closing home d c0) Any (Closing home d c) Any (closing_before ss) spots from at
    → Reads limits (Tok (token.Sign sign.CloseCurly)) Any spots at p to → Reads limits (Closing home d c0) Any spots from (record { body = body_of ss; counts = c; close = p }) to
stmts_done limits spots home d c0 from at to p c ss e l r = subst (λ z. Reads limits (Closing home d c0) Any spots from (record { body = z; counts = c; close = p }) to) (stmts_end ss)
    (done limits spots (end_left limits spots e l) r)

abbrev pub whens_before : List When → Branches × Counts → Branches × Counts
whens_before ws x = (branches_before ws x.0, x.1)

-- the branch is this part
abbrev pub IsBranch : When → WhenOut → Type 0
IsBranch w o = (more : Branches) → branch_of w more ≡ MoreBranches o.at o.waiting o.body more

pub whens_init : (limits : Limits) (t : Tokens) (at : ℕ) (home : RoutineKind) (d : ℕ) (c : Counts) (to : ℕ) (o : WhenOut) (w : When) (ws : List When) → at ≤ length t.spots.items → ws ≡ w ∷ [] → IsBranch w o
    → Reads limits (WhenPart home d 1 c) (NotBefore (token.Word word.Else)) t.spots.items at o to
    → Leaves limits (AllWhens home d c) Any (WhensPart home d 2 o.counts) Any (whens_before ws) t.spots.items at to
whens_init limits t at home d c to o w ws h q b r = means limits t.spots.items (whens_before ws) (λ x. ap (λ z. (z, x.1)) (sym (b x.0) ∙ ap (λ z. branches_before z x.0) (sym q)))
    (then_reads limits t.spots.items (when_more home d c 1) (whens_left limits t at home d c h) r)

pub whens_step : (limits : Limits) (spots : List Spot) (home : RoutineKind) (d : ℕ) (c0 : Counts) (from at to n m : ℕ) (c : Counts) (o : WhenOut) (w : When) (ws vs : List When) → vs ≡ ws ++ w ∷ []
    → IsBranch w o → m ≡ suc n → token_at spots at ≡ Some (token.Word word.When)
    → Leaves limits (AllWhens home d c0) Any (WhensPart home d n c) Any (whens_before ws) spots from at → Reads limits (WhenPart home d n c) (NotBefore (token.Word word.Else)) spots at o to
    → Leaves limits (AllWhens home d c0) Any (WhensPart home d m o.counts) Any (whens_before vs) spots from to
whens_step limits spots home d c0 from at to n m c o w ws vs q b e f l r =
    subst (λ k. Leaves limits (AllWhens home d c0) Any (WhensPart home d k o.counts) Any (whens_before vs) spots from to) (sym e)
    (means limits spots (whens_before vs) (λ x. ap (λ z. (z, x.1)) (ap (branches_before ws) (sym (b x.0)) ∙ branches_push ws w x.0 ∙ ap (λ z. branches_before z x.0) (sym q)))
    (then_reads limits spots (when_more home d c n) (more_left limits spots f l) r))

pub whens_done : (limits : Limits) (spots : List Spot) (home : RoutineKind) (d : ℕ) (c0 : Counts) (from at to n : ℕ) (p : Place) (c : Counts) (ws : List When)
    → (token_at spots at ≡ Some (token.Word word.When) → ⊥) → Leaves limits (AllWhens home d c0) Any (WhensPart home d n c) Any (whens_before ws) spots from at
    → Reads limits (Tok (token.Sign sign.CloseCurly)) Any spots at p to → Reads limits (AllWhens home d c0) Any spots from (branches_of ws, c) to
whens_done limits spots home d c0 from at to n p c ws f l r = subst (λ z. Reads limits (AllWhens home d c0) Any spots from (z, c) to) (branches_end ws)
    (done limits spots (end_whens limits spots f l) r)

-- a first one, pushed
pub one_pushed : {A : Type 0} (xs ys : List A) (x : A) → ys ≡ xs ++ x ∷ [] → xs ≡ [] → ys ≡ x ∷ []
one_pushed xs ys x e f = e ∙ ap (λ z. z ++ x ∷ []) f
