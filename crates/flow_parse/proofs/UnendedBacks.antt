-- Declarations, changes, waits and calls by their first tokens: the other way round.
use Rattle.std.proofs.Common.{◌≡◌, ℕ, Bool, false, List, [], ◌∷◌, ◌++◌, refl, sym, ap, ◌∙◌, subst, append_assoc, ◌⊎◌, inl, inr}
use Rattle.std.proofs.lemmas.List.{append-nil}
use Rattle.std.specs.declared.option.Option.{Option}
use Rattle.std.specs.declared.option.Option.TheVariants.{None, Some}
use Rattle.flow_base.specs.declared.place.Place.{Place}
use Rattle.flow_tree.specs.declared.token.Token.{Token}
use Rattle.flow_tree.specs.declared.token.Token.TheVariants as token
use Rattle.flow_tree.specs.declared.token.Word.TheVariants as word
use Rattle.flow_tree.specs.declared.token.Sign.{Sign}
use Rattle.flow_tree.specs.declared.token.Sign.TheVariants as sign
use Rattle.flow_tree.specs.declared.ty.Ident.{Ident}
use Rattle.flow_tree.specs.declared.decl.RoutineKind.{RoutineKind}
use Rattle.flow_tree.specs.Tree.{TypeTree, NamedType}
use Rattle.flow_tree.specs.Body.{IntoTree, WaitTree, Body, End, WaitStmt}
use Rattle.flow_tree.specs.GrammarToken.{Marked}
use Rattle.flow_tree.specs.Grammar.{sign_at, name_at, node_name, node_word, wrapper_word, TypeRule, int_type, bool_type, string_type, void_type, error_type, named_type, wrapped_type}
use Rattle.flow_tree.specs.GrammarStmt.{Counts, StartsAt, no_state, some_state, IntoRule, declared, WaitingRule, plain_wait, into_wait, PathRule, last_name, more_names, AssignRule, assign, plus, minus, up, down, InitRule, declare, declare_value, change, PlainRule, if_stmt, if_else_stmt, while_stmt, for_stmt, loop_stmt, break_stmt, continue_stmt, return_stmt, throw_stmt, try_stmt, choose_stmt, init_stmt, wait_stmt, call_stmt}
use Rattle.flow_parse.specs.Openers.{AsFirst, IntoToken, WaitToken}
use Rattle.flow_parse.specs.Reading.{Tok, Named, Then, Any}
use Rattle.flow_parse.specs.Follow.{ExprEnds, Before}
use Rattle.flow_parse.specs.Parts.{Out, MoreNames, NodeName, Placed, IntoPart, OperandPart, ChangeRule, assigns, adds, takes, goes_up, goes_down, ChangedRule, changes, calls, DeclaredRule, no_value, value, ValuedRule, declares, waits, UnendedRule, declaring, changing, waiting, Unended, Simple, Assignment}
use Rattle.flow_parse.proofs.Looking.{Looks, Back}
use Rattle.flow_parse.proofs.Backs.{opener, Formed, front}
use Rattle.flow_parse.proofs.Begins.{Starts, starts_is, starts_looks, looks_first, looks_is, into_starts, operand_starts, wait_no_into}
use Rattle.flow_parse.proofs.Narrow.{semicolon_ends}
use Rattle.flow_parse.proofs.SimpleBacks.{no_wait}

-- a name, alone or as a type
abbrev pub AnyName : ℕ → List Marked → Ident → Type 0
AnyName d w x = Named w x ⊎ NodeName d w x

abbrev pub of_name : Ident → Ident → IntoTree
of_name ty x = record { state = false; ty = NamedType ty.name; name = x }

-- a type that begins with a name
type_named : {d : ℕ} {w : List Marked} {t : TypeTree} (z : List Marked) (m : List ℕ) → TypeRule d w t → Looks (Some (token.Name m)) (w ++ z)
    → (n : Ident) × (w ≡ node_name d n ∷ []) × (t ≡ NamedType n.name)
type_named z m (int_type p) l = absurd (cc)
type_named z m (bool_type p) l = absurd (cc)
type_named z m (string_type p) l = absurd (cc)
type_named z m (void_type p) l = absurd (cc)
type_named z m (error_type p) l = absurd (cc)
type_named z m (named_type x) l = (x, refl, refl)
type_named {d = d} z m (wrapped_type w p q r of t e) l = let k = looks_is (Some (token.Name m)) (node_word d (wrapper_word w) p) (sign_at sign.Less q ∷ (of ++ sign_at sign.Greater r ∷ [])) z e l
    in absurd (cc)

record NamedInto (d : ℕ) (c c' : Counts) (w : List Marked) (i : IntoTree) : Type 0 where
  ty : Ident
  name : Ident
  is : w ≡ node_name d ty ∷ name_at name ∷ []
  tree : i ≡ of_name ty name
  counts : c' ≡ c

into_named : {home : RoutineKind} {d : ℕ} {c c' : Counts} {w : List Marked} {i : IntoTree} (z : List Marked) (m : List ℕ) → IntoRule home d c c' w i → Looks (Some (token.Name m)) (w ++ z)
    → NamedInto d c c' w i
into_named z m (declared x kept of no_state t e) l =
    let k = type_named (name_at x ∷ z) m t (subst (Looks (Some (token.Name m))) (ap (λ v. v ++ z) e ∙ append_assoc of (name_at x ∷ []) z) l) in
    record { ty = k.0; name = x; is = e ∙ ap (λ v. v ++ name_at x ∷ []) k.1; tree = ap (λ y. record { state = false; ty = y; name = x }) k.2; counts = refl }
into_named z m (declared x kept of (some_state p) t e) l = absurd (state_clash m (subst (λ v. Looks (Some (token.Name m)) (v ++ z)) e l))
  where
    state_clash : (m : List ℕ) → token.Word word.State ≡ token.Name m → ⊥
    state_clash m h = cc

-- the place of a first part is that of the whole
pub starts_front : (P : Token → Type 0) {w : List Marked} (p : Place) (xs ys : List Marked) → w ≡ xs ++ ys → Starts P xs → StartsAt w p → StartsAt xs p
starts_front P p [] ys e h s = absurd h
starts_front P p (x ∷ xs) ys e h s = subst (λ v. StartsAt v p) e s

-- a change is a path and what stands behind it
record Path (w : List Marked) (xs : List Ident) : Type 0 where
  name : Ident
  left : List Marked
  is : w ≡ name_at name ∷ left
  rule : PathRule (name_at name ∷ left) xs

path_parts : {w : List Marked} {xs : List Ident} → PathRule w xs → Path w xs
path_parts (last_name x) = record { name = x; left = []; is = refl; rule = last_name x }
path_parts (more_names x p more r e) = record { name = x; left = sign_at sign.Dot p ∷ more; is = e; rule = more_names x p more r refl }

pub record Changes (d : ℕ) (at : Place) (w : List Marked) (body : Body) : Type 0 where
  pub name : Ident
  pub left : List Marked
  pub right : List Marked
  pub names : List Ident
  pub path : PathRule (name_at name ∷ left) names
  pub rule : ChangeRule d name.at names right body
  pub is : w ≡ name_at name ∷ (left ++ right)

changes_of : {d : ℕ} {at : Place} {w path right : List Marked} {xs : List Ident} {body : Body} → PathRule path xs → ChangeRule d at xs right body → w ≡ path ++ right → StartsAt w at
    → Changes d at w body
changes_of {d = d} {at = at} {w = w} {path = path} {right = right} {xs = xs} {body = body} r ch e s =
    let k = path_parts r in
    let f : w ≡ name_at k.name ∷ (k.left ++ right) = e ∙ ap (λ v. v ++ right) k.is in
    record { name = k.name; left = k.left; right = right; names = xs; path = k.rule; rule = subst (λ p. ChangeRule d p xs right body) (sym (subst (λ v. StartsAt v at) f s)) ch; is = f }

pub assign_changes : {d : ℕ} {at : Place} {w : List Marked} {body : Body} → AssignRule d w at End body → Changes d at w body
assign_changes (assign at p path of r x e s) = changes_of r (assigns p of x refl) e s
assign_changes (plus at p path of r x e s) = changes_of r (adds p of x refl) e s
assign_changes (minus at p path of r x e s) = changes_of r (takes p of x refl) e s
assign_changes (up at p path r e s) = changes_of r (goes_up p) e s
assign_changes (down at p path r e s) = changes_of r (goes_down p) e s

pub assignment_back : {d : ℕ} {w : List Marked} {body : Body} (z : List Marked) → Assignment d w body → ExprEnds body z
    → Back (Assignment d) ExprEnds (Then Named (λ x. Then (MoreNames x) (λ xs. ChangeRule d x.at xs))) (λ v. ExprEnds v.1.1) (λ v. v.1.1) w z body
assignment_back {body = body} z r f =
    let k = assign_changes r.1 in
    record {
      tree = (k.name, (k.names, body));
      rule = front Named k.name (k.names, body) (name_at k.name ∷ []) (k.left ++ k.right) k.is refl (front (MoreNames k.name) k.names body k.left k.right refl k.path k.rule);
      is = refl;
      follows = f;
    }

-- what may stand behind a first name
abbrev pub AfterName : ℕ → Ident → List Marked → Body → Type 0
AfterName d x w b = Formed (Then Named (λ y. ValuedRule d x.at (of_name x y))) (λ v. v.1) w b ⊎ Formed (Then (MoreNames x) (λ xs. ChangedRule d x.at xs)) (λ v. v.1) w b

abbrev pub AfterInit : ℕ → Ident → List Marked → Body → Type 0
AfterInit d x w b = Formed (Then Named (λ y. DeclaredRule d x.at (of_name x y))) (λ v. v.1) w b ⊎ Formed (Then (MoreNames x) (λ xs. ChangeRule d x.at xs)) (λ v. v.1) w b

-- behind a path stands a sign
path_sign : {x : Ident} {w : List Marked} {xs : List Ident} (rest z : List Marked) (o : Option Token) → MoreNames x w xs → ((s : Sign) × (Looks o (rest ++ z) → o ≡ Some (token.Sign s)))
    → Looks o (w ++ (rest ++ z)) → (s : Sign) × (o ≡ Some (token.Sign s))
path_sign {x = x} {w = w} rest z o r k l = by_path (name_at x ∷ w) w refl r l
  where
    by_path : {xs : List Ident} (all w : List Marked) → all ≡ name_at x ∷ w → PathRule all xs → Looks o (w ++ (rest ++ z)) → (s : Sign) × (o ≡ Some (token.Sign s))
    by_path all w e (last_name y) l = (k.0, k.1 (subst (λ v. Looks o (v ++ (rest ++ z))) (sym (tail_is e)) l))
      where
        tail_of : List Marked → List Marked
        tail_of [] = []
        tail_of (m ∷ v) = v

        tail_is : {y : Ident} {w : List Marked} → name_at y ∷ [] ≡ name_at x ∷ w → [] ≡ w
        tail_is e = ap tail_of e
    by_path all w e (more_names y p more r f) l = (sign.Dot, looks_is o (sign_at sign.Dot p) more (rest ++ z) (ap (λ v. tail_of v) (sym e ∙ f)) l)
      where
        tail_of : List Marked → List Marked
        tail_of [] = []
        tail_of (m ∷ v) = v

changed_sign : {d : ℕ} {at : Place} {xs : List Ident} {w : List Marked} {b : Body} (z : List Marked) (o : Option Token) → ChangedRule d at xs w b
    → (s : Sign) × (Looks o (w ++ z) → o ≡ Some (token.Sign s))
changed_sign z o (changes (assigns p of x e)) = (sign.Assign, λ l. looks_is o (sign_at sign.Assign p) of z e l)
changed_sign z o (changes (adds p of x e)) = (sign.PlusAssign, λ l. looks_is o (sign_at sign.PlusAssign p) of z e l)
changed_sign z o (changes (takes p of x e)) = (sign.MinusAssign, λ l. looks_is o (sign_at sign.MinusAssign p) of z e l)
changed_sign z o (changes (goes_up p)) = (sign.PlusPlus, λ l. looks_first o (sign_at sign.PlusPlus p) z l)
changed_sign z o (changes (goes_down p)) = (sign.MinusMinus, λ l. looks_first o (sign_at sign.MinusMinus p) z l)
changed_sign z o (calls p args a e) = (sign.OpenRound, λ l. looks_is o (sign_at sign.OpenRound p) args z e l)

behind_path : {d : ℕ} {at : Place} {x : Ident} {w : List Marked} {v : List Ident × Body} (z : List Marked) (o : Option Token) → Then (MoreNames x) (λ xs. ChangedRule d at xs) w v → Looks o (w ++ z)
    → (s : Sign) × (o ≡ Some (token.Sign s))
behind_path z o r l = path_sign r.rest z o r.front (changed_sign z o r.back) (subst (Looks o) (ap (λ k. k ++ z) r.is ∙ append_assoc r.first r.rest z) l)

sign_no_name : (o : Option Token) (s : Sign) (m : List ℕ) → o ≡ Some (token.Sign s) → o ≡ Some (token.Name m) → ⊥
sign_no_name o s m e f = cc

pub named_value_back : {d : ℕ} {x : Ident} {w : List Marked} {b : Body} (z : List Marked) (m : List ℕ) → AfterName d x w b → Before (token.Sign sign.Semicolon) b z
    → Looks (Some (token.Name m)) (w ++ z)
    → Back (AfterName d x) (Before (token.Sign sign.Semicolon)) (Then Named (λ y. ValuedRule d x.at (of_name x y))) (λ v. Before (token.Sign sign.Semicolon) v.1) (λ v. v.1) w z b
named_value_back z m (inl k) f l = record { tree = k.tree; rule = k.rule; is = k.is; follows = subst (λ v. Before (token.Sign sign.Semicolon) v z) k.is f }
named_value_back z m (inr k) f l = let s = behind_path z (Some (token.Name m)) k.rule l in absurd (sign_no_name (Some (token.Name m)) s.0 m s.1 refl)

pub changed_back : {d : ℕ} {x : Ident} {w : List Marked} {b : Body} (z : List Marked) (o : Option Token) → ((m : List ℕ) → o ≡ Some (token.Name m) → ⊥) → AfterName d x w b
    → Before (token.Sign sign.Semicolon) b z → Looks o (w ++ z)
    → Back (AfterName d x) (Before (token.Sign sign.Semicolon)) (Then (MoreNames x) (λ xs. ChangedRule d x.at xs)) (λ v. ExprEnds v.1) (λ v. v.1) w z b
changed_back z o n (inl k) f l = absurd (n k.tree.0.name (looks_is o (name_at k.tree.0) k.rule.rest z (k.rule.is ∙ ap (λ v. v ++ k.rule.rest) k.rule.front) l))
changed_back {b = b} z o n (inr k) f l = record { tree = k.tree; rule = k.rule; is = k.is; follows = semicolon_ends b k.tree.1 z f }

pub named_declared_back : {d : ℕ} {x : Ident} {w : List Marked} {b : Body} (z : List Marked) (m : List ℕ) → AfterInit d x w b → Before (token.Sign sign.Semicolon) b z
    → Looks (Some (token.Name m)) (w ++ z)
    → Back (AfterInit d x) (Before (token.Sign sign.Semicolon)) (Then Named (λ y. DeclaredRule d x.at (of_name x y))) (λ v. Before (token.Sign sign.Semicolon) v.1) (λ v. v.1) w z b
named_declared_back z m (inl k) f l = record { tree = k.tree; rule = k.rule; is = k.is; follows = subst (λ v. Before (token.Sign sign.Semicolon) v z) k.is f }
named_declared_back {d = d} {x = x} {w = w} z m (inr k) f l =
    let r : Then (MoreNames x) (λ xs. ChangedRule d x.at xs) w k.tree = record { first = k.rule.first; rest = k.rule.rest; is = k.rule.is; front = k.rule.front; back = changes k.rule.back } in
    let s = behind_path z (Some (token.Name m)) r l in
    absurd (sign_no_name (Some (token.Name m)) s.0 m s.1 refl)

pub change_init_back : {d : ℕ} {x : Ident} {w : List Marked} {b : Body} (z : List Marked) (o : Option Token) → ((m : List ℕ) → o ≡ Some (token.Name m) → ⊥) → AfterInit d x w b
    → Before (token.Sign sign.Semicolon) b z → Looks o (w ++ z)
    → Back (AfterInit d x) (Before (token.Sign sign.Semicolon)) (Then (MoreNames x) (λ xs. ChangeRule d x.at xs)) (λ v. ExprEnds v.1) (λ v. v.1) w z b
change_init_back z o n (inl k) f l = absurd (n k.tree.0.name (looks_is o (name_at k.tree.0) k.rule.rest z (k.rule.is ∙ ap (λ v. v ++ k.rule.rest) k.rule.front) l))
change_init_back {b = b} z o n (inr k) f l = record { tree = k.tree; rule = k.rule; is = k.is; follows = semicolon_ends b k.tree.1 z f }

-- a statement without its semicolon
wait_clash : (o : Option Token) (m : List ℕ) → o ≡ Some (token.Name m) → AsFirst WaitToken o → ⊥
wait_clash o m e h = subst (AsFirst WaitToken) e h

pub unended_wait : {home : RoutineKind} {d : ℕ} {c c' : Counts} {w : List Marked} {b : Body} (z : List Marked) (o : Option Token) → AsFirst WaitToken o → UnendedRule home d c w c' b → Looks o (w ++ z)
    → Formed {A = Body × Counts} (Placed (OperandPart d)) (λ x. (WaitStmt x.0 (record { into = None; next = x.1.0; operand = x.1.1 }) End, c)) w (b, c')
unended_wait {w = w} z o h (declaring at left right i v e s) l = absurd (wait_no_into o h (starts_looks IntoToken w z o (starts_is IntoToken left right e (into_starts i)) l))
unended_wait z o h (changing {x = x} left right r ch e) l = absurd (wait_clash o x.name (looks_is o (name_at x) (left ++ right) z e l) h)
unended_wait z o h (waiting {next = n} {e = t} at r s) l = record { tree = (at, (n, t)); rule = (s, r); is = refl }

pub unended_into : {home : RoutineKind} {d : ℕ} {c c' : Counts} {w : List Marked} {b : Body} (z : List Marked) (o : Option Token) → (AsFirst WaitToken o → ⊥) → ((m : List ℕ) → o ≡ Some (token.Name m) → ⊥)
    → UnendedRule home d c w c' b → Looks o (w ++ z)
    → Formed {A = Body × Counts} (Then (Placed (IntoPart home d c)) (λ x. ValuedRule d x.0 x.1.0)) (λ x. (x.1, x.0.1.1)) w (b, c')
unended_into {home = home} {d = d} {c = c} {c' = c'} {b = b} z o h n (declaring {i = i} at left right r v e s) l = record {
  tree = ((at, (i, c')), b);
  rule = front (Placed (IntoPart home d c)) (at, (i, c')) b left right e (starts_front IntoToken at left right e (into_starts r) s, r) v;
  is = refl;
}
unended_into z o h n (changing {x = x} left right r ch e) l = absurd (n x.name (looks_is o (name_at x) (left ++ right) z e l))
unended_into z o h n (waiting at r s) l = absurd (no_wait z o h r l)

module _ (V : Place → IntoTree → List Marked → Body → Type 0) (Q : Ident → List Marked → Body → Type 0) where
  -- a type that is a name, a name, and what follows
  named_declaring : {home : RoutineKind} {d : ℕ} {c c' : Counts} {w left right : List Marked} {i : IntoTree} {at : Place} {b : Body} (z : List Marked) (m : List ℕ) → IntoRule home d c c' left i
      → V at i right b → w ≡ left ++ right → StartsAt w at → Looks (Some (token.Name m)) (w ++ z)
      → Formed {A = Body × Counts} (Then (AnyName d) (λ x v e. Formed (Then Named (λ y. V x.at (of_name x y))) (λ u. u.1) v e ⊎ Q x v e)) (λ x. (x.1, c)) w (b, c')
  named_declaring {d = d} {w = w} {left = left} {right = right} {i = i} {at = at} {b = b} z m r v e s l =
      let k = into_named (right ++ z) m r (subst (Looks (Some (token.Name m))) (ap (λ u. u ++ z) e ∙ append_assoc left right z) l) in
      let f : w ≡ node_name d k.ty ∷ name_at k.name ∷ right = e ∙ ap (λ u. u ++ right) k.is in
      let g : at ≡ k.ty.at = sym (subst (λ u. StartsAt u at) f s) in
      let v2 : V k.ty.at (of_name k.ty k.name) right b = subst (λ p. V p (of_name k.ty k.name) right b) g (subst (λ j. V at j right b) k.tree v) in
      record {
        tree = (k.ty, b);
        rule = front (AnyName d) k.ty b (node_name d k.ty ∷ []) (name_at k.name ∷ right) f (inr refl)
            (inl (record { tree = (k.name, b); rule = front Named k.name b (name_at k.name ∷ []) right refl refl v2; is = refl }));
        is = ap (λ n. (b, n)) k.counts;
      }

pub unended_name : {home : RoutineKind} {d : ℕ} {c c' : Counts} {w : List Marked} {b : Body} (z : List Marked) (m : List ℕ) → UnendedRule home d c w c' b → Looks (Some (token.Name m)) (w ++ z)
    → Formed {A = Body × Counts} (Then (AnyName d) (AfterName d)) (λ x. (x.1, c)) w (b, c')
unended_name {d = d} z m (declaring at left right r v e s) l = named_declaring (ValuedRule d) (λ x v e. Formed (Then (MoreNames x) (λ xs. ChangedRule d x.at xs)) (λ u. u.1) v e) z m r v e s l
unended_name {d = d} {b = b} z m (changing {x = x} {xs = xs} left right r ch e) l = record {
  tree = (x, b);
  rule = front (AnyName d) x b (name_at x ∷ []) (left ++ right) e (inl refl) (inr (record { tree = (xs, b); rule = front (MoreNames x) xs b left right refl r ch; is = refl }));
  is = refl;
}
unended_name {w = w} z m (waiting at r s) l = absurd (wait_clash (Some (token.Name m)) m refl (starts_looks WaitToken w z (Some (token.Name m)) (operand_starts r) l))

-- the same for the init of a `for`
pub init_into : {home : RoutineKind} {d : ℕ} {c c' : Counts} {w : List Marked} {at : Place} {b : Body} (z : List Marked) (o : Option Token) → ((m : List ℕ) → o ≡ Some (token.Name m) → ⊥)
    → InitRule home d c c' w at End b → Looks o (w ++ z)
    → Formed {A = Body × Counts} (Then (Placed (IntoPart home d c)) (λ x. DeclaredRule d x.0 x.1.0)) (λ x. (x.1, x.0.1.1)) w (b, c')
init_into {home = home} {d = d} {c = c} {c' = c'} {w = w} {b = b} z o n (declare {i = i} at r s) l = record {
  tree = ((at, (i, c')), b);
  rule = front (Placed (IntoPart home d c)) (at, (i, c')) b w [] (sym (append-nil w)) (s, r) no_value;
  is = refl;
}
init_into {home = home} {d = d} {c = c} {c' = c'} {b = b} z o n (declare_value {i = i} at p left of r x e s) l = record {
  tree = ((at, (i, c')), b);
  rule = front (Placed (IntoPart home d c)) (at, (i, c')) b left (sign_at sign.Assign p ∷ of) e (starts_front IntoToken at left (sign_at sign.Assign p ∷ of) e (into_starts r) s, r)
      (value p of x refl);
  is = refl;
}
init_into z o n (change at r) l =
    let k = assign_changes r in
    absurd (n k.name.name (looks_is o (name_at k.name) (k.left ++ k.right) z k.is l))

pub init_name : {home : RoutineKind} {d : ℕ} {c c' : Counts} {w : List Marked} {at : Place} {b : Body} (z : List Marked) (m : List ℕ) → InitRule home d c c' w at End b
    → Looks (Some (token.Name m)) (w ++ z)
    → Formed {A = Body × Counts} (Then (AnyName d) (AfterInit d)) (λ x. (x.1, c)) w (b, c')
init_name {d = d} {w = w} z m (declare at r s) l = named_declaring (DeclaredRule d) (λ x v e. Formed (Then (MoreNames x) (λ xs. ChangeRule d x.at xs)) (λ u. u.1) v e) z m r no_value
    (sym (append-nil w)) s l
init_name {d = d} z m (declare_value at p left of r x e s) l = named_declaring (DeclaredRule d) (λ x v e. Formed (Then (MoreNames x) (λ xs. ChangeRule d x.at xs)) (λ u. u.1) v e) z m r
    (value p of x refl) e s l
init_name {d = d} {b = b} z m (change at r) l =
    let k = assign_changes r in
    record {
      tree = (k.name, b);
      rule = front (AnyName d) k.name b (name_at k.name ∷ []) (k.left ++ k.right) k.is (inl refl)
          (inr (record { tree = (k.names, b); rule = front (MoreNames k.name) k.names b k.left k.right refl k.path k.rule; is = refl }));
      is = refl;
    }

-- a statement that begins with no word of its own
pub init_unended : {home : RoutineKind} {d : ℕ} {c c' : Counts} {w : List Marked} {at : Place} {b : Body} → InitRule home d c c' w at End b → UnendedRule home d c w c' b
init_unended {w = w} (declare at r s) = declaring at w [] r (declares no_value) (sym (append-nil w)) s
init_unended (declare_value at p left of r x e s) = declaring at left (sign_at sign.Assign p ∷ of) r (declares (value p of x refl)) e s
init_unended (change at r) = let k = assign_changes r in changing k.left k.right k.path (changes k.rule) k.is

waiting_unended : {home : RoutineKind} {d : ℕ} {c c' : Counts} {w all : List Marked} {x : WaitTree} {at : Place} (p : Place) → WaitingRule home d c c' w x → all ≡ w ++ sign_at sign.Semicolon p ∷ []
    → StartsAt all at → UnendedRule home d c w c' (WaitStmt at x End)
waiting_unended {w = w} {at = at} p (plain_wait r) e s = waiting at r (starts_front WaitToken at w (sign_at sign.Semicolon p ∷ []) e (operand_starts r) s)
waiting_unended {w = w} {at = at} p (into_wait q left right i o f) e s =
    declaring at left (sign_at sign.Assign q ∷ right) i (waits q right o refl) f
    (starts_front IntoToken at w (sign_at sign.Semicolon p ∷ []) e (starts_is IntoToken left (sign_at sign.Assign q ∷ right) f (into_starts i)) s)

call_unended : {home : RoutineKind} {d : ℕ} {c : Counts} {w path right : List Marked} {xs : List Ident} {at : Place} {b : Body} → PathRule path xs → ChangedRule d at xs right b → w ≡ path ++ right
    → StartsAt w at → UnendedRule home d c w c b
call_unended {d = d} {w = w} {right = right} {xs = xs} {at = at} {b = b} r ch e s =
    let k = path_parts r in
    let f : w ≡ name_at k.name ∷ (k.left ++ right) = e ∙ ap (λ v. v ++ right) k.is in
    changing k.left right k.rule (subst (λ p. ChangedRule d p xs right b) (sym (subst (λ v. StartsAt v at) f s)) ch) f

none_some : {A : Type 0} (k : A) → Some k ≡ None → ⊥
none_some k e = cc

pub plain_simple : {home : RoutineKind} {d : ℕ} {c c' : Counts} {w : List Marked} {p : Place} {b : Body} {h : Bool} → (r : PlainRule home d c c' w p End b h) → opener r ≡ None
    → Simple home d c w (record { body = b; counts = c'; ends_if = h })
plain_simple (if_stmt at p q test body e b f) n = absurd (none_some word.If n)
plain_simple (if_else_stmt at p q r test body other e b o f) n = absurd (none_some word.If n)
plain_simple (while_stmt at p q test body e b f) n = absurd (none_some word.While n)
plain_simple (for_stmt at p q r s init test step body i e t b f) n = absurd (none_some word.For n)
plain_simple (loop_stmt at body b f) n = absurd (none_some word.Loop n)
plain_simple (break_stmt at p) n = absurd (none_some word.Break n)
plain_simple (continue_stmt at p) n = absurd (none_some word.Continue n)
plain_simple (return_stmt at p of e f) n = absurd (none_some word.Return n)
plain_simple (throw_stmt at p of e f) n = absurd (none_some word.Throw n)
plain_simple (try_stmt at p q r s u x body caught b h f) n = absurd (none_some word.Try n)
plain_simple (choose_stmt at p q first more w ws f) n = absurd (none_some word.Choose n)
plain_simple (init_stmt at p xs i f) n = (p, xs, (init_unended i, refl), f)
plain_simple (wait_stmt at p xs w f s) n = (p, xs, (waiting_unended p w f s, refl), f)
plain_simple (call_stmt at p q r path args x a f s) n =
    let of = path ++ (sign_at sign.OpenRound p ∷ (args ++ sign_at sign.CloseRound q ∷ [])) in
    let e = f ∙ ap (λ k. path ++ (sign_at sign.OpenRound p ∷ k)) (sym (append_assoc args (sign_at sign.CloseRound q ∷ []) (sign_at sign.Semicolon r ∷ [])))
    ∙ sym (append_assoc path (sign_at sign.OpenRound p ∷ (args ++ sign_at sign.CloseRound q ∷ [])) (sign_at sign.Semicolon r ∷ [])) in (
      r,
      of,
      (
        call_unended x (calls p (args ++ sign_at sign.CloseRound q ∷ []) (q, args, a, refl) refl) refl
            (call_starts (sign_at sign.OpenRound p ∷ (args ++ sign_at sign.CloseRound q ∷ [])) at r path x e s),
        refl,
      ),
      e,
    )
  where
    call_starts : {w : List Marked} {xs : List Ident} (rest : List Marked) (at p : Place) (path : List Marked) → PathRule path xs → w ≡ (path ++ rest) ++ sign_at sign.Semicolon p ∷ [] → StartsAt w at
        → StartsAt (path ++ rest) at
    call_starts rest at p path (last_name x) e s = subst (λ v. StartsAt v at) e s
    call_starts rest at p path (more_names x q more r f) e s = subst (λ v. StartsAt (v ++ rest) at) (sym f)
        (subst (λ v. StartsAt v at) (e ∙ ap (λ v. (v ++ rest) ++ sign_at sign.Semicolon p ∷ []) f) s)

pub simple_back : {home : RoutineKind} {d : ℕ} {c : Counts} {w : List Marked} {o : Out} (z : List Marked) → Simple home d c w o
    → Back (Simple home d c) Any (Then (Unended home d c) (λ o. Tok (token.Sign sign.Semicolon))) Any (λ x. x.0) w z o
simple_back {home = home} {d = d} {c = c} {o = o} z r = record { tree = (o, r.0); rule = front (Unended home d c) o r.0 r.1 (sign_at sign.Semicolon r.0 ∷ []) r.3 r.2 refl; is = refl; follows = tt }
