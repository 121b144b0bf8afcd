-- Variables, waits, paths, arguments and changes by their next token: the other way round.
use Rattle.std.proofs.Common.{◌≡◌, ℕ, suc, Bool, true, false, List, [], ◌∷◌, ◌++◌, refl, sym, ap, ◌∙◌, subst, append_assoc, ◌⊎◌, inl, inr}
use Rattle.std.specs.declared.option.Option.{Option}
use Rattle.std.specs.declared.option.Option.TheVariants.{None, Some}
use Rattle.flow_base.specs.declared.place.Place.{Place}
use Rattle.flow_tree.specs.declared.token.Token.{Token}
use Rattle.flow_tree.specs.declared.token.Token.TheVariants as token
use Rattle.flow_tree.specs.declared.token.Word.TheVariants as word
use Rattle.flow_tree.specs.declared.token.Sign.{Sign}
use Rattle.flow_tree.specs.declared.token.Sign.TheVariants as sign
use Rattle.flow_tree.specs.declared.ty.Ident.{Ident}
use Rattle.flow_tree.specs.declared.decl.RoutineKind.{RoutineKind}
use Rattle.flow_tree.specs.Tree.{TypeTree, ExprTree, ExprTrees, NoExprs, MoreExprs}
use Rattle.flow_tree.specs.Body.{IntoTree, WaitTree, PlusChange, MinusChange, UpChange, DownChange, Body, End, DeclareStmt, AssignStmt, ModifyStmt, CallStmt, WaitStmt}
use Rattle.flow_tree.specs.GrammarToken.{Marked, opens}
use Rattle.flow_tree.specs.Grammar.{sign_at, word_at, name_at, TypeRule, ExprRule, ArgsRule, no_args, some_args, MoreArgsRule, end_args, more_args}
use Rattle.flow_tree.specs.GrammarStmt.{Counts, one_state, state_parts, StateRule, no_state, some_state, IntoRule, declared, OperandRule, wait, wait_next, WaitingRule, plain_wait, into_wait, PathRule, last_name, more_names}
use Rattle.flow_exprs.specs.Machine.{ident}
use Rattle.flow_parse.specs.Openers.{AsFirst, ExprToken, TypeToken, IntoToken, WaitToken}
use Rattle.flow_parse.specs.Reading.{Opening, Tok, Named, Then, Any}
use Rattle.flow_parse.specs.Follow.{ExprEnds, Before, NotBefore}
use Rattle.flow_parse.specs.Parts.{Test, Args, MoreArgs, MoreNames, StatePart, IntoPart, OperandPart, WaitingPart, ChangeRule, assigns, adds, takes, goes_up, goes_down, ChangedRule, changes, calls, DeclaredRule, no_value, value, ValuedRule, declares, waits}
use Rattle.flow_parse.proofs.Looking.{Looks, Back}
use Rattle.flow_parse.proofs.Backs.{Formed, front, tok_front}
use Rattle.flow_parse.proofs.Begins.{Starts, starts_is, starts_looks, looks_first, looks_is, expr_starts, type_starts, into_starts, operand_starts, wait_no_into, wait_no_expr}
use Rattle.flow_parse.proofs.Narrow.{then_tok_looks, semicolon_ends}

-- "(" expr ")"
pub test_back : {d : ℕ} {w : List Marked} {e : ExprTree} (z : List Marked) → Test d w e
    → Back (Test d) Any (Then (Tok (token.Sign sign.OpenRound)) (λ p. Then (ExprRule 0 d) (λ e. Tok (token.Sign sign.CloseRound)))) Any (λ x. x.1.0) w z e
test_back {d = d} {e = e} z r = record {
  tree = (r.0, (e, r.1));
  rule = tok_front (token.Sign sign.OpenRound) r.0 (e, r.1) (r.2 ++ sign_at sign.CloseRound r.1 ∷ []) r.4 (front (ExprRule 0 d) e r.1 r.2 (sign_at sign.CloseRound r.1 ∷ []) refl r.3 refl);
  is = refl;
  follows = tt;
}

-- the word `state`, or nothing
pub state_back : {home : RoutineKind} {c c' : Counts} {w : List Marked} {s : Bool} (z : List Marked) → StateRule home c c' w s → NotBefore (token.Word word.State) {A = Bool × Counts} (s, c') z
    → Looks (Some (token.Word word.State)) (w ++ z)
    → Back (StatePart home c) (NotBefore (token.Word word.State)) (Opening (state_parts home c) (token.Word word.State)) Any (λ p. (true, one_state home c)) w z (s, c')
state_back [] no_state f l = absurd l
state_back (y ∷ z) no_state f l = absurd (f l)
state_back z (some_state p) f l = record { tree = p; rule = refl; is = refl; follows = tt }

pub no_state_back : {home : RoutineKind} {c c' : Counts} {w : List Marked} {s : Bool} (z : List Marked) (o : Option Token) → (o ≡ Some (token.Word word.State) → ⊥) → StateRule home c c' w s
    → Looks o (w ++ z) → (◌≡◌ {A = Bool × Counts} (s, c') (false, c)) × (w ≡ [])
no_state_back z o n no_state l = (refl, refl)
no_state_back {home = home} {c = c} z o n (some_state p) l = absurd (n (looks_first o (opens (state_parts home c) (token.Word word.State) p) z l))

-- [ "state" ] type name
pub into_back : {home : RoutineKind} {d : ℕ} {c c' : Counts} {w : List Marked} {i : IntoTree} (z : List Marked) → IntoRule home d c c' w i
    → Back (IntoPart home d c) Any (Then (StatePart home c) (λ s. Then (TypeRule d) (λ y. Named))) Any (λ x. (record { state = x.0.0; ty = x.1.0; name = x.1.1 }, x.0.1)) w z (i, c')
into_back {home = home} {d = d} {c = c} {c' = c'} z (declared {s = s} {t = t} x kept of st ty e) = record {
  tree = ((s, c'), (t, x));
  rule = front (StatePart home c) (s, c') (t, x) kept (of ++ name_at x ∷ []) e st (front (TypeRule d) t x of (name_at x ∷ []) refl ty refl);
  is = refl;
  follows = tt;
}

pub type_name_starts : {d : ℕ} {w : List Marked} {x : TypeTree × Ident} → Then (TypeRule d) (λ y. Named) w x → Starts TypeToken w
type_name_starts r = starts_is TypeToken r.first r.rest r.is (type_starts r.front)

-- waits
sign_clash : (k s : Sign) (o : Option Token) → o ≡ Some (token.Sign k) → o ≡ Some (token.Sign s) → k ≡ s
sign_clash k s o e f = cc

pub wait_back : {d : ℕ} {w : List Marked} {b : Bool} {e : ExprTree} (z : List Marked) → OperandRule d w b e → Looks (Some (token.Word word.Wait)) (w ++ z)
    → Back (OperandPart d) Any (Then (Tok (token.Word word.Wait)) (λ p. Test (suc d))) Any (λ x. (false, x.1)) w z (b, e)
wait_back {e = t} z (wait p q r of x e) l = record {
  tree = (p, t);
  rule = tok_front (token.Word word.Wait) p t (sign_at sign.OpenRound q ∷ (of ++ sign_at sign.CloseRound r ∷ [])) e (q, r, of, x, refl);
  is = refl;
  follows = tt;
}
wait_back z (wait_next p q r of x e) l = let k = looks_is (Some (token.Word word.Wait)) (word_at word.WaitNext p) (sign_at sign.OpenRound q ∷ (of ++ sign_at sign.CloseRound r ∷ [])) z e l in absurd
    (cc)

pub wait_next_back : {d : ℕ} {w : List Marked} {b : Bool} {e : ExprTree} (z : List Marked) → OperandRule d w b e → Looks (Some (token.Word word.WaitNext)) (w ++ z)
    → Back (OperandPart d) Any (Then (Tok (token.Word word.WaitNext)) (λ p. Test (suc d))) Any (λ x. (true, x.1)) w z (b, e)
wait_next_back {e = t} z (wait_next p q r of x e) l = record {
  tree = (p, t);
  rule = tok_front (token.Word word.WaitNext) p t (sign_at sign.OpenRound q ∷ (of ++ sign_at sign.CloseRound r ∷ [])) e (q, r, of, x, refl);
  is = refl;
  follows = tt;
}
wait_next_back z (wait p q r of x e) l = let k = looks_is (Some (token.Word word.WaitNext)) (word_at word.Wait p) (sign_at sign.OpenRound q ∷ (of ++ sign_at sign.CloseRound r ∷ [])) z e l in absurd
    (cc)

pub no_wait : {d : ℕ} {w : List Marked} {b : Bool} {e : ExprTree} (z : List Marked) (o : Option Token) → (AsFirst WaitToken o → ⊥) → OperandRule d w b e → Looks o (w ++ z) → ⊥
no_wait {w = w} z o n r l = n (starts_looks WaitToken w z o (operand_starts r) l)

pub plain_wait_back : {home : RoutineKind} {d : ℕ} {c c' : Counts} {w : List Marked} {x : WaitTree} (z : List Marked) (o : Option Token) → AsFirst WaitToken o → WaitingRule home d c c' w x
    → Looks o (w ++ z)
    → Back (WaitingPart home d c) Any (OperandPart d) Any (λ y. (record { into = None; next = y.0; operand = y.1 }, c)) w z (x, c')
plain_wait_back z o h (plain_wait {next = b} {e = e} r) l = record { tree = (b, e); rule = r; is = refl; follows = tt }
plain_wait_back {w = w} z o h (into_wait p left right i r e) l = absurd (wait_no_into o h (starts_looks IntoToken w z o (starts_is IntoToken left (sign_at sign.Assign p ∷ right) e (into_starts i)) l))

pub into_wait_back : {home : RoutineKind} {d : ℕ} {c c' : Counts} {w : List Marked} {x : WaitTree} (z : List Marked) (o : Option Token) → (AsFirst WaitToken o → ⊥) → WaitingRule home d c c' w x
    → Looks o (w ++ z)
    → Back (WaitingPart home d c) Any (Then (IntoPart home d c) (λ i. Then (Tok (token.Sign sign.Assign)) (λ p. OperandPart d))) Any
    (λ y. (record { into = Some y.0.0; next = y.1.1.0; operand = y.1.1.1 }, y.0.1)) w z (x, c')
into_wait_back {w = w} z o n (plain_wait r) l = absurd (no_wait z o n r l)
into_wait_back {home = home} {d = d} {c = c} {c' = c'} z o n (into_wait {i = i} {next = b} {e = t} p left right r s e) l = record {
  tree = ((i, c'), (p, (b, t)));
  rule = front (IntoPart home d c) (i, c') (p, (b, t)) left (sign_at sign.Assign p ∷ right) e r (tok_front (token.Sign sign.Assign) p (b, t) right refl s);
  is = refl;
  follows = tt;
}

-- the names of a path
abbrev first_or : Marked → List Marked → Marked
first_or y [] = y
first_or y (x ∷ w) = x

abbrev rest_of : List Marked → List Marked
rest_of [] = []
rest_of (x ∷ w) = w

pub same_name : (x y : Ident) (w v : List Marked) → name_at x ∷ w ≡ name_at y ∷ v → (x ≡ y) × (w ≡ v)
same_name x y w v e = (ap (λ k. ident (first_or (name_at x) k).spot) e, ap rest_of e)

pub path_named : {w : List Marked} {xs : List Ident} → PathRule w xs → (n : Ident) × Then Named MoreNames w (n, xs)
path_named (last_name x) = (x, front Named x (x ∷ []) (name_at x ∷ []) [] refl refl (last_name x))
path_named {xs = xs} (more_names x p more r e) = (x, front Named x xs (name_at x ∷ []) (sign_at sign.Dot p ∷ more) e refl (more_names x p more r refl))

names_cases : {all : List Marked} {xs : List Ident} (x : Ident) (w : List Marked) → all ≡ name_at x ∷ w → PathRule all xs
    → ((xs ≡ x ∷ []) × (w ≡ [])) ⊎ Formed (Then (Tok (token.Sign sign.Dot)) (λ p. Then Named MoreNames)) (λ y. x ∷ y.1.1) w xs
names_cases x w e (last_name y) =
    let k = same_name y x [] w e in
    inl (ap (λ n. n ∷ []) k.0, sym k.1)
names_cases x w e (more_names {xs = xs} y p more r f) =
    let k = same_name x y w (sign_at sign.Dot p ∷ more) (sym e ∙ f) in
    let n = path_named r in
    inr (record { tree = (p, (n.0, xs)); rule = tok_front (token.Sign sign.Dot) p (n.0, xs) more k.1 n.1; is = ap (λ i. i ∷ xs) (sym k.0) })

pub dot_back : {x : Ident} {w : List Marked} {xs : List Ident} (z : List Marked) → MoreNames x w xs → NotBefore (token.Sign sign.Dot) xs z → Looks (Some (token.Sign sign.Dot)) (w ++ z)
    → Back (MoreNames x) (NotBefore (token.Sign sign.Dot)) (Then (Tok (token.Sign sign.Dot)) (λ p. Then Named MoreNames)) (λ y. NotBefore (token.Sign sign.Dot) y.1.1) (λ y. x ∷ y.1.1) w z xs
dot_back {x = x} {w = w} {xs = xs} z r f l = elim (names_cases x w refl r) [
  | inl k ↦ absurd (not_here z f (subst (λ v. Looks (Some (token.Sign sign.Dot)) (v ++ z)) k.1 l))
  | inr k ↦ record { tree = k.tree; rule = k.rule; is = k.is; follows = others k.tree.1.1 z f }
]
  where
    not_here : (z : List Marked) → NotBefore (token.Sign sign.Dot) xs z → Looks (Some (token.Sign sign.Dot)) z → ⊥
    not_here [] f l = l
    not_here (y ∷ z) f l = f l

    others : (ys : List Ident) (z : List Marked) → NotBefore (token.Sign sign.Dot) xs z → NotBefore (token.Sign sign.Dot) ys z
    others ys [] f = tt
    others ys (y ∷ z) f = f

pub no_dot_back : {x : Ident} {w : List Marked} {xs : List Ident} (z : List Marked) (o : Option Token) → (o ≡ Some (token.Sign sign.Dot) → ⊥) → MoreNames x w xs → Looks o (w ++ z)
    → (xs ≡ x ∷ []) × (w ≡ [])
no_dot_back {x = x} {w = w} z o n r l = elim (names_cases x w refl r) [
  | inl k ↦ k
  | inr k ↦ absurd (n (then_tok_looks (token.Sign sign.Dot) (λ p. Then Named MoreNames) o w z k.tree k.rule l))
]

-- arguments
pub end_of_args : {d : ℕ} {w : List Marked} {ts : ExprTrees} (z : List Marked) → Args d w ts → Looks (Some (token.Sign sign.CloseRound)) (w ++ z)
    → Back (Args d) Any (Tok (token.Sign sign.CloseRound)) Any (λ p. NoExprs) w z ts
end_of_args z r l = by_rule z r.0 r.1 r.2 r.3 l
  where
    by_rule : {d : ℕ} {w : List Marked} {ts : ExprTrees} (z : List Marked) (q : Place) (of : List Marked) → ArgsRule d of ts → w ≡ of ++ sign_at sign.CloseRound q ∷ []
        → Looks (Some (token.Sign sign.CloseRound)) (w ++ z) → Back (Args d) Any (Tok (token.Sign sign.CloseRound)) Any (λ p. NoExprs) w z ts
    by_rule z q of no_args e l = record { tree = q; rule = e; is = refl; follows = tt }
    by_rule {w = w} z q of (some_args first more a m f) e l = absurd
        (starts_looks ExprToken w z (Some (token.Sign sign.CloseRound))
        (starts_is ExprToken first (more ++ sign_at sign.CloseRound q ∷ []) (e ∙ ap (λ k. k ++ sign_at sign.CloseRound q ∷ []) f ∙ append_assoc first more (sign_at sign.CloseRound q ∷ []))
        (expr_starts a)) l)

pub first_arg : {d : ℕ} {w : List Marked} {ts : ExprTrees} (z : List Marked) (o : Option Token) → (o ≡ Some (token.Sign sign.CloseRound) → ⊥) → Args d w ts → Looks o (w ++ z)
    → Back (Args d) Any (Then (ExprRule 0 d) (λ e. MoreArgs d)) Any (λ x. MoreExprs x.0 x.1) w z ts
first_arg z o n r l = by_rule z o n r.0 r.1 r.2 r.3 l
  where
    by_rule : {d : ℕ} {w : List Marked} {ts : ExprTrees} (z : List Marked) (o : Option Token) → (o ≡ Some (token.Sign sign.CloseRound) → ⊥) → (q : Place) (of : List Marked) → ArgsRule d of ts
        → w ≡ of ++ sign_at sign.CloseRound q ∷ [] → Looks o (w ++ z) → Back (Args d) Any (Then (ExprRule 0 d) (λ e. MoreArgs d)) Any (λ x. MoreExprs x.0 x.1) w z ts
    by_rule z o n q of no_args e l = absurd (n (looks_is o (sign_at sign.CloseRound q) [] z e l))
    by_rule {d = d} z o n q of (some_args {t = t} {ts = ts} first more a m f) e l = record {
      tree = (t, ts);
      rule = front (ExprRule 0 d) t ts first (more ++ sign_at sign.CloseRound q ∷ []) (e ∙ ap (λ k. k ++ sign_at sign.CloseRound q ∷ []) f ∙ append_assoc first more (sign_at sign.CloseRound q ∷ [])) a
          (q, more, m, refl);
      is = refl;
      follows = tt;
    }

pub next_arg : {d : ℕ} {w : List Marked} {ts : ExprTrees} (z : List Marked) → MoreArgs d w ts → Looks (Some (token.Sign sign.Comma)) (w ++ z)
    → Back (MoreArgs d) Any (Then (Tok (token.Sign sign.Comma)) (λ p. Then (ExprRule 0 d) (λ e. MoreArgs d))) Any (λ x. MoreExprs x.1.0 x.1.1) w z ts
next_arg z r l = by_rule z r.0 r.1 r.2 r.3 l
  where
    by_rule : {d : ℕ} {w : List Marked} {ts : ExprTrees} (z : List Marked) (q : Place) (of : List Marked) → MoreArgsRule d of ts → w ≡ of ++ sign_at sign.CloseRound q ∷ []
        → Looks (Some (token.Sign sign.Comma)) (w ++ z) → Back (MoreArgs d) Any (Then (Tok (token.Sign sign.Comma)) (λ p. Then (ExprRule 0 d) (λ e. MoreArgs d))) Any
        (λ x. MoreExprs x.1.0 x.1.1) w z ts
    by_rule z q of end_args e l = let k = looks_is (Some (token.Sign sign.Comma)) (sign_at sign.CloseRound q) [] z e l in absurd (cc)
    by_rule {d = d} z q of (more_args {t = t} {ts = ts} p next more a m f) e l = record {
      tree = (p, (t, ts));
      rule = tok_front (token.Sign sign.Comma) p (t, ts) (next ++ (more ++ sign_at sign.CloseRound q ∷ []))
          (e ∙ ap (λ k. k ++ sign_at sign.CloseRound q ∷ []) f ∙ ap (λ k. sign_at sign.Comma p ∷ k) (append_assoc next more (sign_at sign.CloseRound q ∷ [])))
          (front (ExprRule 0 d) t ts next (more ++ sign_at sign.CloseRound q ∷ []) refl a (q, more, m, refl));
      is = refl;
      follows = tt;
    }

pub no_more_args : {d : ℕ} {w : List Marked} {ts : ExprTrees} (z : List Marked) (o : Option Token) → (o ≡ Some (token.Sign sign.Comma) → ⊥) → MoreArgs d w ts → Looks o (w ++ z)
    → Back (MoreArgs d) Any (Tok (token.Sign sign.CloseRound)) Any (λ p. NoExprs) w z ts
no_more_args z o n r l = by_rule z o n r.0 r.1 r.2 r.3 l
  where
    by_rule : {d : ℕ} {w : List Marked} {ts : ExprTrees} (z : List Marked) (o : Option Token) → (o ≡ Some (token.Sign sign.Comma) → ⊥) → (q : Place) (of : List Marked) → MoreArgsRule d of ts
        → w ≡ of ++ sign_at sign.CloseRound q ∷ [] → Looks o (w ++ z) → Back (MoreArgs d) Any (Tok (token.Sign sign.CloseRound)) Any (λ p. NoExprs) w z ts
    by_rule z o n q of end_args e l = record { tree = q; rule = e; is = refl; follows = tt }
    by_rule z o n q of (more_args p next more a m f) e l = absurd (n
        (looks_is o (sign_at sign.Comma p) ((next ++ more) ++ sign_at sign.CloseRound q ∷ []) z (e ∙ ap (λ k. k ++ sign_at sign.CloseRound q ∷ []) f) l))

-- a change of a variable, behind its path, by its sign
abbrev pub change_sign : {d : ℕ} {p : Place} {xs : List Ident} {w : List Marked} {b : Body} → ChangeRule d p xs w b → Sign
change_sign (assigns p of x e) = sign.Assign
change_sign (adds p of x e) = sign.PlusAssign
change_sign (takes p of x e) = sign.MinusAssign
change_sign (goes_up p) = sign.PlusPlus
change_sign (goes_down p) = sign.MinusMinus

abbrev pub ChangeSign : Token → Type 0
ChangeSign (token.Sign sign.Assign) = Unit {0}
ChangeSign (token.Sign sign.PlusAssign) = Unit {0}
ChangeSign (token.Sign sign.MinusAssign) = Unit {0}
ChangeSign (token.Sign sign.PlusPlus) = Unit {0}
ChangeSign (token.Sign sign.MinusMinus) = Unit {0}
ChangeSign _ = ⊥

pub change_starts : {d : ℕ} {p : Place} {xs : List Ident} {w : List Marked} {b : Body} → ChangeRule d p xs w b → Starts ChangeSign w
change_starts (assigns p of x e) = subst (Starts ChangeSign) (sym e) tt
change_starts (adds p of x e) = subst (Starts ChangeSign) (sym e) tt
change_starts (takes p of x e) = subst (Starts ChangeSign) (sym e) tt
change_starts (goes_up p) = tt
change_starts (goes_down p) = tt

abbrev pub Changing : Sign → ℕ → Place → List Ident → List Marked → Body → Type 0
Changing sign.Assign d at xs w b = Formed (Then (Tok (token.Sign sign.Assign)) (λ p. ExprRule 0 (suc d))) (λ x. AssignStmt at xs x.1 End) w b
Changing sign.PlusAssign d at xs w b = Formed (Then (Tok (token.Sign sign.PlusAssign)) (λ p. ExprRule 0 (suc d))) (λ x. ModifyStmt at xs (PlusChange x.1) End) w b
Changing sign.MinusAssign d at xs w b = Formed (Then (Tok (token.Sign sign.MinusAssign)) (λ p. ExprRule 0 (suc d))) (λ x. ModifyStmt at xs (MinusChange x.1) End) w b
Changing sign.PlusPlus d at xs w b = Formed (Tok (token.Sign sign.PlusPlus)) (λ p. ModifyStmt at xs UpChange End) w b
Changing sign.MinusMinus d at xs w b = Formed (Tok (token.Sign sign.MinusMinus)) (λ p. ModifyStmt at xs DownChange End) w b
Changing _ d at xs w b = ⊥

change_form : {d : ℕ} {at : Place} {xs : List Ident} {w : List Marked} {b : Body} → (r : ChangeRule d at xs w b) → Changing (change_sign r) d at xs w b
change_form (assigns {e = t} p of x e) = record { tree = (p, t); rule = tok_front (token.Sign sign.Assign) p t of e x; is = refl }
change_form (adds {e = t} p of x e) = record { tree = (p, t); rule = tok_front (token.Sign sign.PlusAssign) p t of e x; is = refl }
change_form (takes {e = t} p of x e) = record { tree = (p, t); rule = tok_front (token.Sign sign.MinusAssign) p t of e x; is = refl }
change_form (goes_up p) = record { tree = p; rule = refl; is = refl }
change_form (goes_down p) = record { tree = p; rule = refl; is = refl }

change_looks : {d : ℕ} {at : Place} {xs : List Ident} {w : List Marked} {b : Body} (z : List Marked) (o : Option Token) → (r : ChangeRule d at xs w b) → Looks o (w ++ z)
    → o ≡ Some (token.Sign (change_sign r))
change_looks z o (assigns p of x e) l = looks_is o (sign_at sign.Assign p) of z e l
change_looks z o (adds p of x e) l = looks_is o (sign_at sign.PlusAssign p) of z e l
change_looks z o (takes p of x e) l = looks_is o (sign_at sign.MinusAssign p) of z e l
change_looks z o (goes_up p) l = looks_first o (sign_at sign.PlusPlus p) z l
change_looks z o (goes_down p) l = looks_first o (sign_at sign.MinusMinus p) z l

pub change_back : {d : ℕ} {at : Place} {xs : List Ident} {w : List Marked} {b : Body} (z : List Marked) (s : Sign) → ChangeRule d at xs w b → Looks (Some (token.Sign s)) (w ++ z)
    → Changing s d at xs w b
change_back {d = d} {at = at} {xs = xs} {w = w} {b = b} z s r l = subst (λ k. Changing k d at xs w b)
    (sign_clash (change_sign r) s (Some (token.Sign s)) (change_looks z (Some (token.Sign s)) r l) refl) (change_form r)

pub call_back : {d : ℕ} {at : Place} {xs : List Ident} {w : List Marked} {b : Body} (z : List Marked) → ChangedRule d at xs w b → Looks (Some (token.Sign sign.OpenRound)) (w ++ z)
    → Back (ChangedRule d at xs) ExprEnds (Then (Tok (token.Sign sign.OpenRound)) (λ q. Args (suc d))) Any (λ x. CallStmt at xs x.1 End) w z b
call_back {w = w} z (changes r) l = absurd (starts_looks ChangeSign w z (Some (token.Sign sign.OpenRound)) (change_starts r) l)
call_back z (calls {ts = ts} p args a e) l = record { tree = (p, ts); rule = tok_front (token.Sign sign.OpenRound) p ts args e a; is = refl; follows = tt }

pub no_call_back : {d : ℕ} {at : Place} {xs : List Ident} {w : List Marked} {b : Body} (z : List Marked) (o : Option Token) → (o ≡ Some (token.Sign sign.OpenRound) → ⊥) → ChangedRule d at xs w b
    → Looks o (w ++ z) → ChangeRule d at xs w b
no_call_back z o n (changes r) l = r
no_call_back z o n (calls p args a e) l = absurd (n (looks_is o (sign_at sign.OpenRound p) args z e l))

-- what stands behind a declared variable
not_before_semicolon : {A : Type 0} (a : A) (s : Sign) (z : List Marked) → (s ≡ sign.Semicolon → ⊥) → Before (token.Sign sign.Semicolon) a z → Looks (Some (token.Sign s)) z → ⊥
not_before_semicolon a s [] n f l = f
not_before_semicolon a s (y ∷ z) n f l = n (sign_clash s sign.Semicolon (Some y.spot.token) (ap Some l) (ap Some f))

assign_semicolon : sign.Assign ≡ sign.Semicolon → ⊥
assign_semicolon e = cc

pub value_back : {d : ℕ} {at : Place} {i : IntoTree} {w : List Marked} {b : Body} (z : List Marked) → DeclaredRule d at i w b → Before (token.Sign sign.Semicolon) b z
    → Looks (Some (token.Sign sign.Assign)) (w ++ z)
    → Back (DeclaredRule d at i) (Before (token.Sign sign.Semicolon)) (Then (Tok (token.Sign sign.Assign)) (λ q. ExprRule 0 (suc d))) (λ x. ExprEnds x.1) (λ x. DeclareStmt at i (Some x.1) End) w z b
value_back {b = b} z no_value f l = absurd (not_before_semicolon b sign.Assign z assign_semicolon f l)
value_back {b = b} z (value {e = t} p of x e) f l = record { tree = (p, t); rule = tok_front (token.Sign sign.Assign) p t of e x; is = refl; follows = semicolon_ends b t z f }

pub no_value_back : {d : ℕ} {at : Place} {i : IntoTree} {w : List Marked} {b : Body} (z : List Marked) (o : Option Token) → (o ≡ Some (token.Sign sign.Assign) → ⊥) → DeclaredRule d at i w b
    → Looks o (w ++ z) → (b ≡ DeclareStmt at i None End) × (w ≡ [])
no_value_back z o n no_value l = (refl, refl)
no_value_back z o n (value p of x e) l = absurd (n (looks_is o (sign_at sign.Assign p) of z e l))

-- in a statement, behind the `=`: a value or a wait
abbrev pub Given : ℕ → Place → IntoTree → List Marked → Body → Type 0
Given d at i w b = Formed (ExprRule 0 (suc d)) (λ e. DeclareStmt at i (Some e) End) w b ⊎ Formed (OperandPart d) (λ x. WaitStmt at (record { into = Some i; next = x.0; operand = x.1 }) End) w b

pub given_back : {d : ℕ} {at : Place} {i : IntoTree} {w : List Marked} {b : Body} (z : List Marked) → ValuedRule d at i w b → Before (token.Sign sign.Semicolon) b z
    → Looks (Some (token.Sign sign.Assign)) (w ++ z)
    → Back (ValuedRule d at i) (Before (token.Sign sign.Semicolon)) (Then (Tok (token.Sign sign.Assign)) (λ q. Given d at i)) (λ x. Before (token.Sign sign.Semicolon) x.1) (λ x. x.1) w z b
given_back {b = b} z (declares no_value) f l = absurd (not_before_semicolon b sign.Assign z assign_semicolon f l)
given_back {b = b} z (declares (value {e = t} p of x e)) f l = record {
  tree = (p, b);
  rule = tok_front (token.Sign sign.Assign) p b of e (inl (record { tree = t; rule = x; is = refl }));
  is = refl;
  follows = f;
}
given_back {b = b} z (waits {next = n} {e = t} p of x e) f l = record {
  tree = (p, b);
  rule = tok_front (token.Sign sign.Assign) p b of e (inr (record { tree = (n, t); rule = x; is = refl }));
  is = refl;
  follows = f;
}

pub not_given_back : {d : ℕ} {at : Place} {i : IntoTree} {w : List Marked} {b : Body} (z : List Marked) (o : Option Token) → (o ≡ Some (token.Sign sign.Assign) → ⊥) → ValuedRule d at i w b
    → Looks o (w ++ z) → (b ≡ DeclareStmt at i None End) × (w ≡ [])
not_given_back z o n (declares r) l = no_value_back z o n r l
not_given_back z o n (waits p of x e) l = absurd (n (looks_is o (sign_at sign.Assign p) of z e l))

pub given_wait_back : {d : ℕ} {at : Place} {i : IntoTree} {w : List Marked} {b : Body} (z : List Marked) (o : Option Token) → AsFirst WaitToken o → Given d at i w b → Looks o (w ++ z)
    → Back (Given d at i) (Before (token.Sign sign.Semicolon)) (OperandPart d) Any (λ x. WaitStmt at (record { into = Some i; next = x.0; operand = x.1 }) End) w z b
given_wait_back {w = w} z o h (inl k) l = absurd (wait_no_expr o h (starts_looks ExprToken w z o (expr_starts k.rule) l))
given_wait_back z o h (inr k) l = record { tree = k.tree; rule = k.rule; is = k.is; follows = tt }

pub given_value_back : {d : ℕ} {at : Place} {i : IntoTree} {w : List Marked} {b : Body} (z : List Marked) (o : Option Token) → (AsFirst WaitToken o → ⊥) → Given d at i w b
    → Before (token.Sign sign.Semicolon) b z → Looks o (w ++ z)
    → Back (Given d at i) (Before (token.Sign sign.Semicolon)) (ExprRule 0 (suc d)) ExprEnds (λ e. DeclareStmt at i (Some e) End) w z b
given_value_back {b = b} z o n (inl k) f l = record { tree = k.tree; rule = k.rule; is = k.is; follows = semicolon_ends b k.tree z f }
given_value_back z o n (inr k) f l = absurd (no_wait z o n k.rule l)
