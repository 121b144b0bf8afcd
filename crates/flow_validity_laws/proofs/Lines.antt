-- The variables in force in the words of the rule on state, with their places; what is read is filled.
use Rattle.std.proofs.Common.{◌≡◌, ◌⊎◌, inl, inr, ℕ, suc, ◌^◌, ◌<◌, ◌≤◌, Bool, true, false, not, ◌&&◌, ◌||◌, nat_eq, nat_lt, nat_le, List, [], ◌∷◌, ◌++◌, length, slice_get, if◌then◌else◌, refl, ap, ap₂, sym, subst, ◌∙◌, arith}
use Rattle.std.proofs.lemmas.Bool.{false≢true, or_right}
use Rattle.std.specs.Str.{bytes_eq}
use Rattle.std.specs.List.{list_all}
use Rattle.std.proofs.lemmas.List.Folds.{list_all-append, list_any-append}
use Rattle.std.specs.declared.option.Option.{Option}
use Rattle.std.specs.declared.option.Option.TheVariants.{None, Some}
use Rattle.flow_base.proofs.Bools.{and_left, and_right}
use Rattle.flow_base.specs.declared.place.Place.{Place}
use Rattle.flow_tree.specs.declared.ty.Ident.{Ident}
use Rattle.flow_tree.specs.Tree.{TypeTree, IntType, BoolType, ExprTree, ExprTrees, VarExpr, CallExpr, FieldExpr, MethodExpr, NotExpr, NegExpr, BinaryExpr, ParenExpr, NoExprs, MoreExprs}
use Rattle.flow_ast.specs.TypingNames.{named, constant_names}
use Rattle.flow_ast.specs.Typing.{or_else, is_there}
use Rattle.flow_class.specs.declared.class.Slotted.{Slotted}
use Rattle.flow_class.specs.declared.class.Slotted.TheVariants as place
use Rattle.flow_class.specs.Places.{place_name, place_named}
use Rattle.flow_class.specs.Classes.{ClassTree}
use Rattle.flow_class.specs.Scopes.{Scope, Mark, place_of, var_over, name_over, over, over_all}
use Rattle.flow_rules.specs.declared.rule.SemanticRule.TheVariants.{UnknownName}
use Rattle.flow_rules.specs.Least.{lesser}
use Rattle.flow_rules.specs.Judged.{Setting, Need, called, needs_of, calls, calls_on, placed, form, fault, faults, fits, wants, operands, of_field, variable_as, selected_on}
use Rattle.flow_rules.proofs.Lesser.{no_first, no_second, holds}
use Rattle.flow_staterule.specs.declared.scope.Point.{Point}
use Rattle.flow_staterule.specs.declared.scope.Use.{Use}
use Rattle.flow_staterule.specs.Uses.{Variable, use_of, mention, expr_uses, exprs_uses}
use Rattle.flow_meaning.specs.Evaluating.{Names}
use Rattle.flow_valid.specs.Named.{listed, expr_places, exprs_places}
use Rattle.flow_valid.specs.Filling.{same_place, among, is_local}
use Rattle.flow_typing_laws.proofs.Typing.Names.{bytes_same, bytes_self, bytes_sym, none_some, there}
use Rattle.flow_validity_laws.proofs.Naming.{constant_no_place}
use Rattle.flow_validity_laws.proofs.OverPlaces.{over_names}
use Rattle.flow_validity_laws.proofs.InForce.{New, named_append, Grows}
use Rattle.flow_validity_laws.proofs.Walks.{Places, AllIn}

pub same_is : (p q : Slotted) → same_place p q ≡ true → p ≡ q
same_is (place.Slot m) (place.Slot n) e = ap place.Slot (equal m n e)
  where
    equal : (m n : ℕ) → nat_eq m n ≡ true → m ≡ n
    equal m n e = grind (arith, e)
same_is (place.Local m) (place.Local n) e = ap place.Local (equal m n e)
  where
    equal : (m n : ℕ) → nat_eq m n ≡ true → m ≡ n
    equal m n e = grind (arith, e)
same_is (place.Slot m) (place.Local n) e = cc
same_is (place.Local m) (place.Slot n) e = cc

pub same_self : (p : Slotted) → same_place p p ≡ true
same_self (place.Slot n) = equal n
  where
    equal : (n : ℕ) → nat_eq n n ≡ true
    equal n = grind arith
same_self (place.Local n) = equal n
  where
    equal : (n : ℕ) → nat_eq n n ≡ true
    equal n = grind arith

-- the place with this number from the oldest on
abbrev pub Has : List Slotted → ℕ → Slotted → Type 0
Has [] j q = ⊥
Has (g ∷ gs) j q = ((j ≡ length gs) × (g ≡ q)) ⊎ Has gs j q

pub has_below : (gs : List Slotted) (j : ℕ) (q : Slotted) → Has gs j q → j < length gs
has_below [] j q h = absurd h
has_below (g ∷ gs) j q (inl h) = omega (arith, h.0)
has_below (g ∷ gs) j q (inr h) = omega (arith, has_below gs j q h)

abbrev pub Sub : List Slotted → List Slotted → Type 0
Sub gs hs = (j : ℕ) (q : Slotted) → Has gs j q → Has hs j q

-- what is filled where the locals with numbers below `stale` are lost
abbrev pub Holds : List Slotted → (stale : ℕ) → Slotted → Type 0
Holds gs stale q = (j : ℕ) × Has gs j q × (is_local q ≡ true → stale ≤ j)

abbrev pub filled : List Slotted → (stale : ℕ) → List Slotted
filled [] stale = []
filled (g ∷ gs) stale = if is_local g && nat_lt (length gs) stale then filled gs stale else g ∷ filled gs stale

pub or_split : (a b : Bool) → a || b ≡ true → (a ≡ true) ⊎ (b ≡ true)
or_split true b e = inl refl
or_split false b e = inr e

kept_local : (n st : ℕ) (b : Bool) → b && nat_lt n st ≡ false → b ≡ true → st ≤ n
kept_local n st b e h = not_less n st (ap (λ z. z && nat_lt n st) (sym h) ∙ e)
  where
    not_less : (n st : ℕ) → nat_lt n st ≡ false → st ≤ n
    not_less n st e = grind (arith, e)

pub filled_holds : (gs : List Slotted) (st : ℕ) (q : Slotted) → among (filled gs st) q ≡ true → Holds gs st q
filled_holds [] st q e = cc
filled_holds (g ∷ gs) st q e = by_kept (is_local g && nat_lt (length gs) st) refl e (filled_holds gs st q)
  where
    with_more : Holds gs st q → Holds (g ∷ gs) st q
    with_more h = (h.0, inr h.1, h.2)

    by_kept : (b : Bool) → is_local g && nat_lt (length gs) st ≡ b → among (if b then filled gs st else g ∷ filled gs st) q ≡ true → (among (filled gs st) q ≡ true → Holds gs st q)
        → Holds (g ∷ gs) st q
    by_kept true k e f = with_more (f e)
    by_kept false k e f = by_first (or_split (same_place q g) (among (filled gs st) q) e)
      where
        by_first : (same_place q g ≡ true) ⊎ (among (filled gs st) q ≡ true) → Holds (g ∷ gs) st q
        by_first (inl h) =
            let same : g ≡ q = sym (same_is q g h) in
            (length gs, inl (refl, same), λ l. kept_local (length gs) st (is_local g) k (ap is_local same ∙ l))
        by_first (inr h) = with_more (f h)

pub and_true : (a b : Bool) → a ≡ true → b ≡ false → a && not b ≡ true
and_true true false e f = refl
and_true true true e f = cc
and_true false b e f = cc

-- a set has what is filled
abbrev pub Covers : Places → List Slotted → (stale : ℕ) → Type 0
Covers s gs stale = (q : Slotted) → Holds gs stale q → s q ≡ true

pub covers_sub : (s : Places) (gs hs : List Slotted) (st : ℕ) → Sub hs gs → Covers s gs st → Covers s hs st
covers_sub s gs hs st sub c q h = c q (h.0, sub h.0 q h.1, h.2)

pub covers_filled : (gs : List Slotted) (st : ℕ) → Covers (among (filled gs st)) gs st
covers_filled [] st q h = absurd h.1
covers_filled (g ∷ gs) st q h = by_kept (is_local g && nat_lt (length gs) st) refl h.1 (λ r. covers_filled gs st q (h.0, r, h.2))
  where
    gone : is_local g && nat_lt (length gs) st ≡ true → (h.0 ≡ length gs) × (g ≡ q) → ⊥
    gone e k = below (length gs) st (and_second (is_local g) (nat_lt (length gs) st) e) (subst (λ j. st ≤ j) k.0 (h.2 (ap is_local (sym k.1) ∙ and_first (is_local g) (nat_lt (length gs) st) e)))
      where
        and_first : (a b : Bool) → a && b ≡ true → a ≡ true
        and_first true b e = refl
        and_first false b e = cc

        and_second : (a b : Bool) → a && b ≡ true → b ≡ true
        and_second true b e = e
        and_second false b e = cc

        below : (n st : ℕ) → nat_lt n st ≡ true → st ≤ n → ⊥
        below n st e le = grind (arith, e)

    by_kept : (b : Bool) → is_local g && nat_lt (length gs) st ≡ b → ((h.0 ≡ length gs) × (g ≡ q)) ⊎ Has gs h.0 q → (Has gs h.0 q → among (filled gs st) q ≡ true)
        → among (if b then filled gs st else g ∷ filled gs st) q ≡ true
    by_kept true e (inl k) f = absurd (gone e k)
    by_kept true e (inr k) f = f k
    by_kept false e (inl k) f = ap (λ z. same_place z g || among (filled gs st) z) (sym k.1) ∙ ap (λ z. z || among (filled gs st) g) (same_self g)
    by_kept false e (inr k) f = or_right (same_place q g) (among (filled gs st) q) (f k)

-- lists of places
pub in_both : (s : Places) (ps qs : List Slotted) → AllIn ps s → AllIn qs s → AllIn (ps ++ qs) s
in_both s ps qs f g q h = by_side (or_split (among ps q) (among qs q) (sym (list_any-append (same_place q) ps qs) ∙ h))
  where
    by_side : (among ps q ≡ true) ⊎ (among qs q ≡ true) → s q ≡ true
    by_side (inl e) = f q e
    by_side (inr e) = g q e

pub in_one : (s : Places) (p : Slotted) → s p ≡ true → AllIn (p ∷ []) s
in_one s p h q e = by_same (or_split (same_place q p) false e)
  where
    by_same : (same_place q p ≡ true) ⊎ (false ≡ true) → s q ≡ true
    by_same (inl k) = ap s (same_is q p k) ∙ h
    by_same (inr k) = cc

pub in_none : (s : Places) → AllIn [] s
in_none s q e = cc

-- uses that are not lost
abbrev pub AllFresh : List Use → Type 0
AllFresh us = list_all (λ (u : Use). not u.stale) us ≡ true

pub fresh_left : (us ws : List Use) → AllFresh (us ++ ws) → AllFresh us
fresh_left us ws h = and_left (list_all (λ (u : Use). not u.stale) us) (list_all (λ (u : Use). not u.stale) ws) (sym (list_all-append (λ (u : Use). not u.stale) us ws) ∙ h)

pub fresh_right : (us ws : List Use) → AllFresh (us ++ ws) → AllFresh ws
fresh_right us ws h = and_right (list_all (λ (u : Use). not u.stale) us) (list_all (λ (u : Use). not u.stale) ws) (sym (list_all-append (λ (u : Use). not u.stale) us ws) ∙ h)

pub not_lost : (p : Point) (at : Place) (named : Place) (j : ℕ) → p.from ≡ 0 → AllFresh (use_of at p (Some named) j) → p.stale ≤ j
not_lost p at named j z h = by_stale (nat_lt j p.stale) refl (ap (λ f. not (nat_le f j && nat_lt j p.stale) && true) (sym z) ∙ h)
  where
    not_less : (j st : ℕ) → nat_lt j st ≡ false → st ≤ j
    not_less j st e = grind (arith, e)

    all_le : (j : ℕ) → nat_le 0 j ≡ true
    all_le j = grind arith

    by_stale : (b : Bool) → nat_lt j p.stale ≡ b → not (nat_le 0 j && nat_lt j p.stale) && true ≡ true → p.stale ≤ j
    by_stale false e k = not_less j p.stale e
    by_stale true e k = absurd (false≢true (sym (ap₂ (λ a b. not (a && b) && true) (all_le j) e) ∙ k))

module _ (base : Setting) (c : ClassTree) where
  -- a variable of a name: its number, and its place
  pub record Found (vs : List Variable) (gs : List Slotted) (s : Scope) (x : List ℕ) : Type 0 where
    pub to : Slotted
    pub number : ℕ
    pub local : Option Place
    pub place : place_of c.slots s x ≡ Some to
    pub read : place_named (place_name to) ≡ Some to
    pub has : Has gs number to
    pub kind : is_local to ≡ is_there local
    pub uses : (p : Point) (at : Place) → mention vs p at x ≡ use_of at p local number

  pub record Lined (vs : List Variable) (gs : List Slotted) (rows : List (List ℕ × TypeTree)) (s : Scope) (l : ℕ) : Type 0 where
    pub size : length vs ≡ length gs
    pub finds : (x : List ℕ) (t : TypeTree) → named rows x ≡ Some t → Found vs gs s x
    pub below : (j k : ℕ) → Has gs j (place.Local k) → k < l

  pub lined_marked : (vs : List Variable) (gs : List Slotted) (rows : List (List ℕ × TypeTree)) (s : Scope) (l m : ℕ) → l ≤ m → Lined vs gs rows s l → Lined vs gs rows (Mark ∷ s) m
  lined_marked vs gs rows s l m le h = record {
    size = h.size;
    finds = λ x t e. let f = h.finds x t e in record { to = f.to; number = f.number; local = f.local; place = f.place; read = f.read; has = f.has; kind = f.kind; uses = f.uses };
    below = λ j k q. less (h.below j k q);
  }
    where
      less : {k : ℕ} → k < l → k < m
      less h = omega arith

  pub lined_past : (vs : List Variable) (gs : List Slotted) (rows : List (List ℕ × TypeTree)) (s : Scope) (l m : ℕ) → l ≤ m → Lined vs gs rows s l → Lined vs gs rows s m
  lined_past vs gs rows s l m le h = record { size = h.size; finds = h.finds; below = λ j k q. less (h.below j k q) }
    where
      less : {k : ℕ} → k < l → k < m
      less h = omega arith

  -- with one more variable
  pub lined_more : (ns : Names) (few_slots : length c.slots < 2 ^ 64) (few_locals : length c.locals < 2 ^ 64) (vs : List Variable) (gs : List Slotted) (rows : List (List ℕ × TypeTree))
      (s later : Scope) (l m : ℕ) (v : Variable) (t : TypeTree) (to : Slotted)
      → Lined vs gs rows s l → New rows v.name → Grows base ns c few_slots few_locals s later v.name to → place_named (place_name to) ≡ Some to → is_local to ≡ is_there v.local → l ≤ m
      → ((k : ℕ) → to ≡ place.Local k → k < m)
      → Lined (v ∷ vs) (to ∷ gs) (rows ++ (v.name, t) ∷ []) later m
  lined_more ns few_slots few_locals vs gs rows s later l m v t to h new grows read kind le small = record {
    size = ap suc h.size;
    finds = λ y u e. by_found y u (named rows y) refl (sym (named_append rows ((v.name, t) ∷ []) y) ∙ e);
    below = λ j k q. by_side j k q;
  }
    where
      less : {k : ℕ} → k < l → k < m
      less h = omega arith

      by_side : (j k : ℕ) → ((j ≡ length gs) × (to ≡ place.Local k)) ⊎ Has gs j (place.Local k) → k < m
      by_side j k (inl q) = small k q.1
      by_side j k (inr q) = less (h.below j k q)

      old_name : (y : List ℕ) (u : TypeTree) → named rows y ≡ Some u → bytes_eq y v.name ≡ false
      old_name y u is = by_name (bytes_eq y v.name) refl
        where
          by_name : (b : Bool) → bytes_eq y v.name ≡ b → b ≡ false
          by_name true e = absurd (none_some (sym new.unknown ∙ ap (named rows) (sym (bytes_same y v.name e)) ∙ is))
          by_name false e = refl

      this_name : (y : List ℕ) (u : TypeTree) (b : Bool) → bytes_eq y v.name ≡ b → (if b then Some t else None) ≡ Some u → Found (v ∷ vs) (to ∷ gs) later y
      this_name y u false e k = absurd (none_some k)
      this_name y u true e k =
          let same : y ≡ v.name = bytes_same y v.name e in
          record {
            to = to;
            number = length gs;
            local = v.local;
            place = ap (place_of c.slots later) same ∙ grows.own;
            read = read;
            has = inl (refl, refl);
            kind = kind;
            uses = λ p at. ap (λ b. if b then use_of at p v.local (length vs) else mention vs p at y) (ap (bytes_eq v.name) same ∙ bytes_self v.name) ∙ ap (use_of at p v.local) h.size;
          }

      by_found : (y : List ℕ) (u : TypeTree) (o : Option TypeTree) → named rows y ≡ o → or_else o (named ((v.name, t) ∷ []) y) ≡ Some u → Found (v ∷ vs) (to ∷ gs) later y
      by_found y u (Some w) is k =
          let f = h.finds y w is in
          let other = old_name y w is in
          record {
            to = f.to;
            number = f.number;
            local = f.local;
            place = grows.others y other ∙ f.place;
            read = f.read;
            has = inr f.has;
            kind = f.kind;
            uses = λ p at. ap (λ b. if b then use_of at p v.local (length vs) else mention vs p at y) (bytes_sym v.name y ∙ other) ∙ f.uses p at;
          }
      by_found y u None is k = this_name y u (bytes_eq y v.name) refl k

  module _ (vs : List Variable) (gs : List Slotted) (rows : List (List ℕ × TypeTree)) (s : Scope) (l : ℕ) (line : Lined vs gs rows s l) (p : Point) (start : p.from ≡ 0) where
    -- a variable that is not lost is filled
    pub found_holds : (x : List ℕ) (at : Place) (f : Found vs gs s x) → AllFresh (mention vs p at x) → Holds gs p.stale f.to
    found_holds x at f h = (f.number, f.has, λ e. by_local f.local (sym f.kind ∙ e) (subst AllFresh (f.uses p at) h))
      where
        by_local : (o : Option Place) → is_there o ≡ true → AllFresh (use_of at p o f.number) → p.stale ≤ f.number
        by_local None e k = cc
        by_local (Some named) e k = not_lost p at named f.number start k

    module _ (set : Places) (cover : Covers set gs p.stale) where
      pub found_in : (x : List ℕ) (at : Place) (f : Found vs gs s x) → AllFresh (mention vs p at x) → AllIn (listed (place_named (var_over (place_of c.slots s x)))) set
      found_in x at f h =
          subst (λ o. AllIn (listed (place_named (var_over o))) set) (sym f.place) (subst (λ o. AllIn (listed o) set) (sym f.read) (in_one set f.to (cover f.to (found_holds x at f h))))

      var_in : (x : Ident) (o : Option ℕ) → named constant_names x.name ≡ o → is_there (variable_as (over_names base c rows) x.name o) ≡ true → AllFresh (mention vs p x.at x.name)
          → AllIn (listed (place_named (name_over o (place_of c.slots s x.name) x.name))) set
      var_in x (Some n) e k h = subst (λ o. AllIn (listed o) set) (sym (constant_no_place x.name n e)) (in_none set)
      var_in x None e k h = let t = there (named rows x.name) k in found_in x.name x.at (line.finds x.name t.value t.is) h

      mutual
        pub expr_in : (whole : Bool) (e : ExprTree) → fault (over_names base c rows) whole e ≡ None → AllFresh (expr_uses vs p e) → AllIn (expr_places (over c.slots s e)) set
        expr_in whole (VarExpr x) f h = var_in x (named constant_names x.name) refl (holds _ UnknownName f) h
        expr_in whole (CallExpr g es) f h =
            let n = over_names base c rows in
            exprs_in 0 (needs_of (called n g.name)) es (no_first (faults n 0 (needs_of (called n g.name)) es) (calls es (called n g.name) (placed n whole)) f) h
        expr_in whole (FieldExpr e x) f h =
            let n = over_names base c rows in
            expr_in false e (no_first (fault n false e) (of_field n (form n e) x.name) f) h
        expr_in whole (MethodExpr e m es) f h =
            let n = over_names base c rows in
            let o = selected_on (form n e) m in
            let a = faults n 0 (needs_of o) es in
            let b = calls_on (form n e) es o (placed n false) in
            let us = expr_uses vs p e in
            let ws = exprs_uses vs p es in
            in_both set (expr_places (over c.slots s e)) (exprs_places (over_all c.slots s es)) (expr_in false e (no_first (fault n false e) (lesser a b) f) (fresh_left us ws h))
            (exprs_in 0 (needs_of o) es (no_first a b (no_second (fault n false e) (lesser a b) f)) (fresh_right us ws h))
        expr_in whole (NotExpr e) f h = let n = over_names base c rows in expr_in false e (no_first (fault n false e) (wants (form n e) BoolType) f) h
        expr_in whole (NegExpr e) f h = let n = over_names base c rows in expr_in false e (no_first (fault n false e) (wants (form n e) IntType) f) h
        expr_in whole (BinaryExpr op a b) f h =
            let n = over_names base c rows in
            let r = no_first (lesser (fault n false a) (fault n false b)) (operands op (form n a) (form n b)) f in
            let us = expr_uses vs p a in
            let ws = expr_uses vs p b in
            in_both set (expr_places (over c.slots s a)) (expr_places (over c.slots s b)) (expr_in false a (no_first (fault n false a) (fault n false b) r) (fresh_left us ws h))
            (expr_in false b (no_second (fault n false a) (fault n false b) r) (fresh_right us ws h))
        expr_in whole (ParenExpr e) f h = expr_in false e f h
        expr_in whole _ f h = in_none set

        pub exprs_in : (k : ℕ) (needs : List Need) (es : ExprTrees) → faults (over_names base c rows) k needs es ≡ None → AllFresh (exprs_uses vs p es)
            → AllIn (exprs_places (over_all c.slots s es)) set
        exprs_in k needs NoExprs f h = in_none set
        exprs_in k needs (MoreExprs e es) f h =
            let n = over_names base c rows in
            let a = fits (form n e) (slice_get needs k) in
            let r = no_first (lesser (fault n false e) a) (faults n (suc k) needs es) f in
            let us = expr_uses vs p e in
            let ws = exprs_uses vs p es in
            in_both set (expr_places (over c.slots s e)) (exprs_places (over_all c.slots s es)) (expr_in false e (no_first (fault n false e) a r) (fresh_left us ws h))
            (exprs_in (suc k) needs es (no_second (lesser (fault n false e) a) (faults n (suc k) needs es) f) (fresh_right us ws h))
