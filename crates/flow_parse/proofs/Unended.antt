-- How a statement that holds no other is read, and the init of a `for`.
use Rattle.std.proofs.Common.{◌≡◌, ℕ, suc, ◌+◌, ◌≤◌, ◌<◌, drop, false, List, [], ◌∷◌, ◌++◌, length, refl, sym, ap, ◌∙◌, subst, arith, append_assoc, inl, inr}
use Rattle.std.proofs.lemmas.List.{append-nil}
use Rattle.std.specs.declared.option.Option.{Option}
use Rattle.std.specs.declared.option.Option.TheVariants.{None, Some}
use Rattle.flow_tree.specs.declared.limits.Limits.{Limits}
use Rattle.flow_base.specs.declared.place.Place.{Place}
use Rattle.flow_tree.specs.declared.token.Token.TheVariants as token
use Rattle.flow_tree.specs.declared.token.Sign.TheVariants as sign
use Rattle.flow_tree.specs.declared.token.Token.{Token}
use Rattle.flow_tree.specs.declared.token.Spot.{Spot}
use Rattle.flow_tree.specs.declared.token.Tokens.{Tokens}
use Rattle.flow_tree.specs.declared.ty.Ident.{Ident}
use Rattle.flow_tree.specs.declared.decl.RoutineKind.{RoutineKind}
use Rattle.flow_tree.specs.Tree.{NamedType}
use Rattle.flow_tree.specs.Body.{IntoTree, Body, End, DeclareStmt, WaitStmt}
use Rattle.flow_tree.specs.GrammarToken.{Marked, spots_of}
use Rattle.flow_tree.specs.Grammar.{sign_at, name_at, node_name, named_type, ExprRule}
use Rattle.flow_tree.specs.GrammarStmt.{Counts, StartsAt, no_state, IntoRule, declared, plain_wait, into_wait, PathRule, AssignRule, assign, plus, minus, up, down, InitRule, declare, declare_value, change, PlainRule, init_stmt, wait_stmt, call_stmt}
use Rattle.flow_parse.specs.Reading.{token_at, Reads, Tok, Named, Then, Any}
use Rattle.flow_parse.specs.Follow.{ExprEnds, Before, NotBefore}
use Rattle.flow_parse.specs.Parts.{Out, MoreNames, Placed, IntoPart, OperandPart, WaitingPart, ChangeRule, assigns, adds, takes, goes_up, goes_down, ChangedRule, changes, calls, DeclaredRule, no_value, value, ValuedRule, declares, waits, UnendedRule, declaring, changing, waiting, Unended, Simple, Plain, Init, Assignment}
use Rattle.flow_parse.specs.Openers.{AsFirst, WaitToken}
use Rattle.flow_parse.proofs.Looking.{Looks, Back}
use Rattle.flow_parse.proofs.Backs.{Formed}
use Rattle.flow_parse.proofs.Narrow.{before_is, before_same}
use Rattle.flow_parse.proofs.Inhabitants.{some_then, some_opening, some_names, some_change, some_changed, some_declared, some_valued, some_operand, some_given}
use Rattle.flow_parse.proofs.SimpleBacks.{Given, given_back, not_given_back, given_wait_back, given_value_back, plain_wait_back, into_wait_back}
use Rattle.flow_parse.proofs.UnendedBacks.{AnyName, AfterName, AfterInit, of_name, named_value_back, changed_back, named_declared_back, change_init_back, unended_wait, unended_into, unended_name, init_into, init_name, simple_back, assignment_back}
use Rattle.flow_parse.proofs.UniqueParts.{changed_no_dot, out_is}
use Rattle.flow_parse.proofs.Exact.{spot_name}
use Rattle.flow_parse.proofs.Leaves.{Leaves, Link, free, nothing, narrow, empty, glue, behind, starts_append}
use Rattle.flow_parse.proofs.Second.{Split, behind_first}
use Rattle.flow_parse.proofs.Shapes.{closed}

starts_is : {w : List Marked} (a b : List Marked) (p : Place) → w ≡ a ++ b → StartsAt a p → StartsAt w p
starts_is a b p e h = subst (λ z. StartsAt z p) (sym e) (starts_append a b p h)

init_of : {home : RoutineKind} {d : ℕ} {c c' : Counts} {w left right : List Marked} {i : IntoTree} {p : Place} {body : Body} → IntoRule home d c c' left i → DeclaredRule d p i right body
    → w ≡ left ++ right → StartsAt w p → InitRule home d c c' w p End body
init_of {home} {d} {c} {c'} {w} {left} {right} {i} {p} r no_value e s =
    let f : w ≡ left = e ∙ append-nil left in
    declare p (subst (λ z. IntoRule home d c c' z i) (sym f) r) s
init_of {left = left} {right = right} {p = p} r (value q of x f) e s = declare_value p q left of r x (glue left e f) s

assign_of : {d : ℕ} {w path right : List Marked} {p : Place} {xs : List Ident} {body : Body} → PathRule path xs → ChangeRule d p xs right body → w ≡ path ++ right → StartsAt w p
    → AssignRule d w p End body
assign_of {path} {p} r (assigns q of x f) e s = assign p q path of r x (glue path e f) s
assign_of {path} {p} r (adds q of x f) e s = plus p q path of r x (glue path e f) s
assign_of {path} {p} r (takes q of x f) e s = minus p q path of r x (glue path e f) s
assign_of {path} {p} r (goes_up q) e s = up p q path r e s
assign_of {path} {p} r (goes_down q) e s = down p q path r e s

named_into : (home : RoutineKind) (d : ℕ) (c : Counts) (x y : Ident) → IntoRule home d c c (node_name d x ∷ name_at y ∷ []) (record { state = false; ty = NamedType x.name; name = y })
named_into home d c x y = declared y [] (node_name d x ∷ []) no_state (named_type x) refl

unended_plain : {home : RoutineKind} {d : ℕ} {c c' : Counts} {w of : List Marked} {body : Body} (q : Place) → UnendedRule home d c of c' body → w ≡ of ++ sign_at sign.Semicolon q ∷ []
    → (at : Place) × PlainRule home d c c' w at End body false
unended_plain {of} q (declaring at left right i (declares v) e s) g = (at, init_stmt at q of (init_of i v e s) g)
unended_plain {of} q (declaring at left right i (waits p xs o f) e s) g = (at, wait_stmt at q of (into_wait p left xs i o (glue left e f)) g (starts_is of _ at g s))
unended_plain {of} q (changing {x} left right r (changes v) e) g = (x.at, init_stmt x.at q of (change x.at (assign_of r v e (subst (λ z. StartsAt z x.at) (sym e) refl))) g)
unended_plain {of} q (changing {x} left right r (calls p args a f) e) g =
    let whole = g ∙ ap (λ z. z ++ sign_at sign.Semicolon q ∷ []) (glue (name_at x ∷ left) e (f ∙ ap (λ z. sign_at sign.OpenRound p ∷ z) a.3)) in
    let tail = a.1 ++ sign_at sign.CloseRound a.0 ∷ [] in
    let e2 = whole ∙ append_assoc (name_at x ∷ left) (sign_at sign.OpenRound p ∷ tail) (sign_at sign.Semicolon q ∷ [])
    ∙ ap (λ z. (name_at x ∷ left) ++ (sign_at sign.OpenRound p ∷ z)) (append_assoc a.1 (sign_at sign.CloseRound a.0 ∷ []) (sign_at sign.Semicolon q ∷ [])) in
    (x.at, call_stmt x.at p a.0 q (name_at x ∷ left) a.1 r a.2 e2 (subst (λ z. StartsAt z x.at) (sym e2) refl))
unended_plain {of} q (waiting at o s) g = (at, wait_stmt at q of (plain_wait o) g (starts_is _ _ at g s))

pub simple_plain : (home : RoutineKind) (d : ℕ) (c : Counts) (w : List Marked) (o : Out) → Simple home d c w o → Plain home d c w o
simple_plain home d c w o r =
    let x = unended_plain r.0 r.2.0 r.3 in
    (x.0, subst (λ b. PlainRule home d c o.counts w x.0 End o.body b) (sym r.2.1) x.1)

-- what follows each part of a sequence, and that there is some
pub given_link : (d : ℕ) (p : Place) (i : IntoTree) → Link (Tok (token.Sign sign.Assign)) Any (λ q. Given d p i) (λ x. Before (token.Sign sign.Semicolon) x.1)
given_link d p i = free (λ q. some_given d p i)

pub declared_link : (home : RoutineKind) (d : ℕ) (c : Counts) → Link (Placed (IntoPart home d c)) Any (λ y. DeclaredRule d y.0 y.1.0) (λ x. Before (token.Sign sign.Semicolon) x.1)
declared_link home d c = free (λ y. some_declared d y.0 y.1.0)

pub valued_link : (home : RoutineKind) (d : ℕ) (c : Counts) → Link (Placed (IntoPart home d c)) Any (λ y. ValuedRule d y.0 y.1.0) (λ x. Before (token.Sign sign.Semicolon) x.1)
valued_link home d c = free (λ y. some_valued d y.0 y.1.0)

pub named_declared_link : (d : ℕ) (x : Ident) → Link Named Any (λ y. DeclaredRule d x.at (of_name x y)) (λ v. Before (token.Sign sign.Semicolon) v.1)
named_declared_link d x = free (λ y. some_declared d x.at (of_name x y))

pub named_valued_link : (d : ℕ) (x : Ident) → Link Named Any (λ y. ValuedRule d x.at (of_name x y)) (λ v. Before (token.Sign sign.Semicolon) v.1)
named_valued_link d x = free (λ y. some_valued d x.at (of_name x y))

pub path_changed_link : (d : ℕ) (x : Ident) → Link (MoreNames x) (NotBefore (token.Sign sign.Dot)) (λ xs. ChangedRule d x.at xs) (λ v. ExprEnds v.1)
path_changed_link d x = record { follows = λ a b v z r f. changed_no_dot a v z r; more = λ xs. some_changed d x.at xs }

pub path_change_link : (d : ℕ) (x : Ident) → Link (MoreNames x) (NotBefore (token.Sign sign.Dot)) (λ xs. ChangeRule d x.at xs) (λ v. ExprEnds v.1)
path_change_link d x = record { follows = λ a b v z r f. changed_no_dot a v z (changes r); more = λ xs. some_change d x.at xs }

pub semicolon_link : (home : RoutineKind) (d : ℕ) (c : Counts) → Link (Unended home d c) (Before (token.Sign sign.Semicolon)) (λ o. Tok (token.Sign sign.Semicolon)) Any
semicolon_link home d c = record { follows = λ a b v z r f. before_is a (sign_at sign.Semicolon b) v [] z r; more = λ o. some_opening [] (token.Sign sign.Semicolon) }

pub into_wait_link : (home : RoutineKind) (d : ℕ) (c : Counts) → Link (IntoPart home d c) Any (λ y. Then (Tok (token.Sign sign.Assign)) (λ q. OperandPart d)) Any
into_wait_link home d c = free (λ y. some_then (Tok (token.Sign sign.Assign)) (λ q. OperandPart d) (some_opening [] (token.Sign sign.Assign)) (λ q. some_operand d))

pub assign_wait_link : (d : ℕ) → Link (Tok (token.Sign sign.Assign)) Any (λ q. OperandPart d) Any
assign_wait_link d = free (λ q. some_operand d)

-- what stands behind a declared variable in a statement
module _ (limits : Limits) (t : Tokens) (at d : ℕ) (p : Place) (i : IntoTree) (h : at ≤ length t.spots.items) where
  pub no_value_reads2 : (token_at t.spots.items at ≡ Some (token.Sign sign.Assign) → ⊥)
      → Reads limits (ValuedRule d p i) (Before (token.Sign sign.Semicolon)) t.spots.items at (DeclareStmt p i None End) at
  no_value_reads2 n = empty limits t.spots.items (ValuedRule d p i) _ at (DeclareStmt p i None End) (token_at t.spots.items at) h refl (declares no_value)
      (λ w z b r f l. not_given_back z (token_at t.spots.items at) n r l)

  pub given_left : token_at t.spots.items at ≡ Some (token.Sign sign.Assign)
      → Leaves limits (ValuedRule d p i) (Before (token.Sign sign.Semicolon)) (Then (Tok (token.Sign sign.Assign)) (λ q. Given d p i)) (λ x. Before (token.Sign sign.Semicolon) x.1)
      (λ x. x.1) t.spots.items at at
  given_left e = narrow limits t.spots.items e (record { back = λ w z b r f l. given_back z r f l; forth = λ u x r. value_of x.0 x.1 r.rest r.back (behind r.is r.front refl) })
      (nothing limits t.spots.items (ValuedRule d p i) _ at h)
    where
      value_of : {w : List Marked} (q : Place) (b : Body) (v : List Marked) → Given d p i v b → w ≡ sign_at sign.Assign q ∷ v → ValuedRule d p i w b
      value_of q b v (inl k) e = subst (ValuedRule d p i _) (sym k.is) (declares (value q v k.rule e))
      value_of q b v (inr k) e = subst (ValuedRule d p i _) (sym k.is) (waits q v k.rule e)

module _ (limits : Limits) (spots : List Spot) {A : Type 0} {W : List Marked → A → Type 0} {FW : A → List Marked → Type 0} {g : Body → A} {from at : ℕ} (d : ℕ) (p : Place) (i : IntoTree)
    (l : Leaves limits W FW (Given d p i) (λ b. Before (token.Sign sign.Semicolon) b) g spots from at) where
  pub given_wait : AsFirst WaitToken (token_at spots at) → Leaves limits W FW (OperandPart d) Any (λ x. g (WaitStmt p (record { into = Some i; next = x.0; operand = x.1 }) End)) spots from at
  given_wait h = narrow limits spots refl (record { back = λ w z b r f k. given_wait_back z (token_at spots at) h r k; forth = λ w x r. inr (record { tree = x; rule = r; is = refl }) }) l

  pub given_value : (AsFirst WaitToken (token_at spots at) → ⊥) → Leaves limits W FW (ExprRule 0 (suc d)) ExprEnds (λ e. g (DeclareStmt p i (Some e) End)) spots from at
  given_value n = narrow limits spots refl (record { back = λ w z b r f k. given_value_back z (token_at spots at) n r f k; forth = λ w x r. inl (record { tree = x; rule = r; is = refl }) }) l

-- a name, alone or as a type, is one token
any_name_is : (d : ℕ) (w : List Marked) (x : Ident) → AnyName d w x → (m : Marked) × (w ≡ m ∷ []) × (m.spot ≡ (name_at x).spot)
any_name_is d w x (inl r) = (name_at x, r, refl)
any_name_is d w x (inr r) = (node_name d x, r, refl)

-- behind a first name, where the second token says what follows
module _ (d : ℕ) (c : Counts) (x : Ident) (m : Marked) (ms : m.spot ≡ (name_at x).spot) (o : Option Token) {B : Type 0} (V : List Marked → B → Type 0) (FV : B → List Marked → Type 0) (h : B → Body)
    (After : Ident → List Marked → Body → Type 0)
    (after : (w z : List Marked) (b : Body) → After x w b → Before (token.Sign sign.Semicolon) b z → Looks o (w ++ z) → Back (After x) (Before (token.Sign sign.Semicolon)) V FV h w z b) where
  split_name : (w z : List Marked) (a : Out) → Formed {A = Body × Counts} (Then (AnyName d) After) (λ y. (y.1, c)) w (a.body, a.counts) → a.ends_if ≡ false → Before (token.Sign sign.Semicolon) a z
      → Split V FV (λ b. closed (h b) c) m o w z a
  split_name w z a q e f =
      let k = any_name_is d q.rule.first q.tree.0 q.rule.front in
      record {
        first = k.0;
        rest = q.rule.rest;
        is = q.rule.is ∙ ap (λ u. u ++ q.rule.rest) k.1;
        same = λ s l.
            let i : q.tree.0 ≡ x = spot_name q.tree.0 x (sym k.2 ∙ s ∙ ms) in
            let b = after q.rule.rest z q.tree.1 (subst (λ y. After y q.rule.rest q.tree.1) i q.rule.back) (before_same (token.Sign sign.Semicolon) a q.tree.1 z f) l in
            (b.tree, b.rule, out_is a (q.tree.1, c) q.is e ∙ ap (λ y. closed y c) b.is, b.follows);
      }

module _ (limits : Limits) (t : Tokens) (at : ℕ) (home : RoutineKind) (d : ℕ) (c : Counts) where
  -- the init of a `for`
  pub init_left : at ≤ length t.spots.items → ((m : List ℕ) → token_at t.spots.items at ≡ Some (token.Name m) → ⊥)
      → Leaves limits (Init home d c) (Before (token.Sign sign.Semicolon)) (Then (Placed (IntoPart home d c)) (λ y. DeclaredRule d y.0 y.1.0)) (λ x. Before (token.Sign sign.Semicolon) x.1)
      (λ x. closed x.1 x.0.1.1) t.spots.items at at
  init_left h n = narrow limits t.spots.items refl (record {
    back = λ w z b r f l. let q = init_into z (token_at t.spots.items at) n r.1 l
        in record { tree = q.tree; rule = q.rule; is = out_is b (q.tree.1, q.tree.0.1.1) q.is r.2; follows = before_same (token.Sign sign.Semicolon) b q.tree.1 z f };
    forth = λ u x r. (x.0.0, init_of r.front.1 r.back r.is (starts_is r.first r.rest x.0.0 r.is r.front.0), refl);
  }) (nothing limits t.spots.items (Init home d c) _ at h)

  pub unended_left : at ≤ length t.spots.items → (AsFirst WaitToken (token_at t.spots.items at) → ⊥) → ((m : List ℕ) → token_at t.spots.items at ≡ Some (token.Name m) → ⊥)
      → Leaves limits (Unended home d c) (Before (token.Sign sign.Semicolon)) (Then (Placed (IntoPart home d c)) (λ y. ValuedRule d y.0 y.1.0)) (λ x. Before (token.Sign sign.Semicolon) x.1)
      (λ x. closed x.1 x.0.1.1) t.spots.items at at
  unended_left h v n = narrow limits t.spots.items refl (record {
    back = λ w z b r f l. let q = unended_into z (token_at t.spots.items at) v n r.0 l
        in record { tree = q.tree; rule = q.rule; is = out_is b (q.tree.1, q.tree.0.1.1) q.is r.1; follows = before_same (token.Sign sign.Semicolon) b q.tree.1 z f };
    forth = λ u x r. (declaring x.0.0 r.first r.rest r.front.1 r.back r.is (starts_is r.first r.rest x.0.0 r.is r.front.0), refl);
  }) (nothing limits t.spots.items (Unended home d c) _ at h)

  pub unended_wait_left : at ≤ length t.spots.items → AsFirst WaitToken (token_at t.spots.items at)
      → Leaves limits (Unended home d c) (Before (token.Sign sign.Semicolon)) (Placed (OperandPart d)) Any (λ x. closed (WaitStmt x.0 (record { into = None; next = x.1.0; operand = x.1.1 }) End) c)
      t.spots.items at at
  unended_wait_left h v = narrow limits t.spots.items refl (record {
    back = λ w z b r f l. let q = unended_wait z (token_at t.spots.items at) v r.0 l
        in record { tree = q.tree; rule = q.rule; is = out_is b (WaitStmt q.tree.0 (record { into = None; next = q.tree.1.0; operand = q.tree.1.1 }) End, c) q.is r.1; follows = tt };
    forth = λ u x r. (waiting x.0 r.1 r.0, refl);
  }) (nothing limits t.spots.items (Unended home d c) _ at h)

  -- behind a first name
  module _ (x : Ident) (r : Reads limits Named Any t.spots.items at x (at + 1)) where
    spot_here : drop at t.spots.items ≡ (name_at x).spot ∷ drop (at + 1) t.spots.items
    spot_here = r.is ∙ ap (λ z. spots_of z ++ drop (at + 1) t.spots.items) r.rule

    some_here : at < length t.spots.items
    some_here = omega (arith, r.within)

    pub init_named : (n : List ℕ) → d ≤ 64 → token_at t.spots.items (at + 1) ≡ Some (token.Name n)
        → Leaves limits (Init home d c) (Before (token.Sign sign.Semicolon)) (Then Named (λ y. DeclaredRule d x.at (of_name x y))) (λ v. Before (token.Sign sign.Semicolon) v.1)
        (λ v. closed v.1 c) t.spots.items at (at + 1)
    init_named n k e = behind_first limits (node_name d x) (Some (token.Name n))
        (λ v b s. (x.at, init_of (named_into home d c x b.0) s.back (ap (λ z. node_name d x ∷ z) (behind s.is s.front refl)) refl, refl))
        (λ w z a s f l. split_name d c x (node_name d x) refl (Some (token.Name n)) (Then Named (λ y. DeclaredRule d x.at (of_name x y))) (λ v. Before (token.Sign sign.Semicolon) v.1) (λ v. v.1)
        (AfterInit d) (λ w z b u f l. named_declared_back z n u f l) w z a (init_name z x.name s.1 l) s.2 f)
        t.spots.items at some_here ((λ i. k), tt) spot_here e

    pub init_change : ((m : List ℕ) → token_at t.spots.items (at + 1) ≡ Some (token.Name m) → ⊥)
        → Leaves limits (Init home d c) (Before (token.Sign sign.Semicolon)) (Then (MoreNames x) (λ xs. ChangeRule d x.at xs)) (λ v. ExprEnds v.1) (λ v. closed v.1 c) t.spots.items at (at + 1)
    init_change n = behind_first limits (name_at x) (token_at t.spots.items (at + 1))
        (λ v b s. (x.at, change x.at (assign_of s.front s.back (ap (λ z. name_at x ∷ z) s.is) refl), refl))
        (λ w z a s f l. split_name d c x (name_at x) refl (token_at t.spots.items (at + 1)) (Then (MoreNames x) (λ xs. ChangeRule d x.at xs)) (λ v. ExprEnds v.1) (λ v. v.1) (AfterInit d)
        (λ w z b u f l. change_init_back z (token_at t.spots.items (at + 1)) n u f l) w z a (init_name z x.name s.1 l) s.2 f)
        t.spots.items at some_here tt spot_here refl

    pub unended_named : (n : List ℕ) → d ≤ 64 → token_at t.spots.items (at + 1) ≡ Some (token.Name n)
        → Leaves limits (Unended home d c) (Before (token.Sign sign.Semicolon)) (Then Named (λ y. ValuedRule d x.at (of_name x y))) (λ v. Before (token.Sign sign.Semicolon) v.1)
        (λ v. closed v.1 c) t.spots.items at (at + 1)
    unended_named n k e = behind_first limits (node_name d x) (Some (token.Name n))
        (λ v b s. (declaring x.at (node_name d x ∷ name_at b.0 ∷ []) s.rest (named_into home d c x b.0) s.back (ap (λ z. node_name d x ∷ z) (behind s.is s.front refl)) refl, refl))
        (λ w z a s f l. split_name d c x (node_name d x) refl (Some (token.Name n)) (Then Named (λ y. ValuedRule d x.at (of_name x y))) (λ v. Before (token.Sign sign.Semicolon) v.1) (λ v. v.1)
        (AfterName d) (λ w z b u f l. named_value_back z n u f l) w z a (unended_name z x.name s.0 l) s.1 f)
        t.spots.items at some_here ((λ i. k), tt) spot_here e

    pub unended_change : ((m : List ℕ) → token_at t.spots.items (at + 1) ≡ Some (token.Name m) → ⊥)
        → Leaves limits (Unended home d c) (Before (token.Sign sign.Semicolon)) (Then (MoreNames x) (λ xs. ChangedRule d x.at xs)) (λ v. ExprEnds v.1) (λ v. closed v.1 c) t.spots.items at (at + 1)
    unended_change n = behind_first limits (name_at x) (token_at t.spots.items (at + 1))
        (λ v b s. (changing s.first s.rest s.front s.back (ap (λ z. name_at x ∷ z) s.is), refl))
        (λ w z a s f l. split_name d c x (name_at x) refl (token_at t.spots.items (at + 1)) (Then (MoreNames x) (λ xs. ChangedRule d x.at xs)) (λ v. ExprEnds v.1) (λ v. v.1) (AfterName d)
        (λ w z b u f l. changed_back z (token_at t.spots.items (at + 1)) n u f l) w z a (unended_name z x.name s.0 l) s.1 f)
        t.spots.items at some_here tt spot_here refl

module _ (limits : Limits) (t : Tokens) (at : ℕ) (home : RoutineKind) (d : ℕ) (c : Counts) (h : at ≤ length t.spots.items) where
  pub simple_left : Leaves limits (Simple home d c) Any (Then (Unended home d c) (λ o. Tok (token.Sign sign.Semicolon))) Any (λ x. x.0) t.spots.items at at
  simple_left = narrow limits t.spots.items refl (record { back = λ w z b r f l. simple_back z r; forth = λ u x r. (x.1, r.first, r.front, glue _ r.is r.back) })
      (nothing limits t.spots.items (Simple home d c) Any at h)

  pub plain_waiting : AsFirst WaitToken (token_at t.spots.items at)
      → Leaves limits (WaitingPart home d c) Any (OperandPart d) Any (λ x. (record { into = None; next = x.0; operand = x.1 }, c)) t.spots.items at at
  plain_waiting v = narrow limits t.spots.items refl (record { back = λ w z b r f l. plain_wait_back z (token_at t.spots.items at) v r l; forth = λ u x r. plain_wait r })
      (nothing limits t.spots.items (WaitingPart home d c) Any at h)

  pub into_waiting : (AsFirst WaitToken (token_at t.spots.items at) → ⊥)
      → Leaves limits (WaitingPart home d c) Any (Then (IntoPart home d c) (λ y. Then (Tok (token.Sign sign.Assign)) (λ q. OperandPart d))) Any
      (λ x. (record { into = Some x.0.0; next = x.1.1.0; operand = x.1.1.1 }, x.0.1)) t.spots.items at at
  into_waiting v = narrow limits t.spots.items refl (record {
    back = λ w z b r f l. into_wait_back z (token_at t.spots.items at) v r l;
    forth = λ u x r. into_wait x.1.0 r.first r.back.rest r.front r.back.back (glue _ r.is (behind r.back.is r.back.front refl));
  }) (nothing limits t.spots.items (WaitingPart home d c) Any at h)

module _ (limits : Limits) (t : Tokens) (at d : ℕ) (h : at ≤ length t.spots.items) where
  pub assignment_left : Leaves limits (Assignment d) ExprEnds (Then Named (λ x. Then (MoreNames x) (λ xs. ChangeRule d x.at xs))) (λ v. ExprEnds v.1.1) (λ x. x.1.1) t.spots.items at at
  assignment_left = narrow limits t.spots.items refl (record {
    back = λ w z b r f l. assignment_back z r f;
    forth = λ u x r.
        let e = behind r.is r.front r.back.is in
        (x.0.at, assign_of r.back.front r.back.back e (subst (λ z. StartsAt z x.0.at) (sym e) refl));
  }) (nothing limits t.spots.items (Assignment d) ExprEnds at h)

pub assigned_link : (d : ℕ) → Link Named Any (λ x. Then (MoreNames x) (λ xs. ChangeRule d x.at xs)) (λ v. ExprEnds v.1.1)
assigned_link d = free (λ x. some_then (MoreNames x) (λ xs. ChangeRule d x.at xs) (some_names x) (λ xs. some_change d x.at xs))
