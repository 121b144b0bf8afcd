-- What a lowered statement names is in its class.
use Rattle.std.proofs.Common.{◌≡◌, ℕ, zero, suc, ◌+◌, ◌^◌, ◌<◌, ◌≤◌, Bool, true, false, not, ◌&&◌, ◌||◌, nat_eq, nat_lt, pos, List, [], ◌∷◌, ◌++◌, length, map, position, slice_get, if◌then◌else◌, refl, ap, sym, subst, ◌∙◌, arith}
use Rattle.std.specs.List.{list_all, list_any}
use Rattle.std.specs.Str.{bytes_eq}
use Rattle.std.specs.Option.{option_map, option_and_then}
use Rattle.std.proofs.lemmas.List.Folds.{list_all-append}
use Rattle.std.proofs.lemmas.List.Quantifiers.{position-Some}
use Rattle.std.proofs.lemmas.Slice.Eq.{bytes_eq-Decides}
use Rattle.std.specs.declared.option.Option.{Option}
use Rattle.std.specs.declared.option.Option.TheVariants.{None, Some}
use Rattle.flow_base.specs.declared.place.Place.{Place}
use Rattle.flow_tree.specs.declared.ty.Ident.{Ident}
use Rattle.flow_tree.specs.Tree.{TypeTree, IntType, BoolType, StringType, ExprTree, ExprTrees, IntExpr, TextExpr, BoolExpr, VarExpr, CallExpr, FieldExpr, MethodExpr, NotExpr, NegExpr, BinaryExpr, ParenExpr, NoExprs, MoreExprs}
use Rattle.flow_tree.specs.Body.{IntoTree}
use Rattle.flow_tree.specs.Decls.{SlotTree}
use Rattle.flow_ast.specs.TypingNames.{named, constant_names}
use Rattle.flow_ast.specs.Typing.{is_there}
use Rattle.flow_class.specs.declared.class.Slotted.{Slotted}
use Rattle.flow_class.specs.declared.class.Slotted.TheVariants as place
use Rattle.flow_class.specs.Classes.{InstrTree, SetInstr, NewInstr, ActInstr, DropInstr, ClassTree}
use Rattle.flow_class.specs.Places.{place_name, place_named}
use Rattle.flow_class.specs.Scopes.{Scope, Mark, Var, find, scope, outside, place_by, place_of, var_over, name_over, over, over_all, path_over, act_over}
use Rattle.flow_valid.specs.Named.{listed, expr_places, exprs_places, path_place, base_place, instr_places, has_place}
use Rattle.flow_valid.specs.Validity.{distinct}
use Rattle.flow_catch.specs.Inner.{inner_locals, listed as with_list, left_lists}
use Rattle.flow_choose.specs.Places.{ident_at}
use Rattle.flow_meaning.specs.Evaluating.{Names, effect_in}
use Rattle.flow_split.specs.Counts.{local_count, into_count}
use Rattle.flow_split.specs.Lowered.{drop_of, with_local, with_into, with_taken, first_value, new_at, first_at, assign_by, assigned, changed, place_in, taken_in, declares, thrown}
use Rattle.flow_split.specs.Lowered as lowering
use Rattle.flow_lowering_laws.proofs.Actors.Places.{slot_named, local_named}

pub both : (a b : Bool) → a ≡ true → b ≡ true → a && b ≡ true
both true b e f = f
both false b e f = cc

pub all_both : {X : Type 0} (p : X → Bool) (xs ys : List X) → list_all p xs ≡ true → list_all p ys ≡ true → list_all p (xs ++ ys) ≡ true
all_both p xs ys e f = list_all-append p xs ys ∙ both (list_all p xs) (list_all p ys) e f

pub less_is : (a b : ℕ) → a < b → nat_lt a b ≡ true
less_is a b h = grind arith

unlike : (a b : ℕ) → b < a → nat_eq a b ≡ false
unlike a b h = grind arith

pub inside : {X : Type 0} (xs : List X) (n : ℕ) → n < length xs → is_there (slice_get xs n) ≡ true
inside [] n lt = absurd (omega arith)
inside (x ∷ xs) zero lt = refl
inside (x ∷ xs) (suc n) lt = inside xs n (omega arith)

-- The numbers of the locals in force fall from the newest on, and are below this one; likewise those of a list.
abbrev pub Falling : ℕ → Scope → Type 0
Falling l [] = Unit {0}
Falling l (Mark ∷ s) = Falling l s
Falling l (Var x k ∷ s) = (k < l) × Falling k s

abbrev pub Falls : ℕ → List ℕ → Type 0
Falls l [] = Unit {0}
Falls l (n ∷ ns) = (n < l) × Falls n ns

pub falling_more : (l m : ℕ) (s : Scope) → l ≤ m → Falling l s → Falling m s
falling_more l m [] le f = tt
falling_more l m (Mark ∷ s) le f = falling_more l m s le f
falling_more l m (Var x k ∷ s) le f = (omega (arith, f.0), f.1)

pub falls_more : (l m : ℕ) (ns : List ℕ) → l ≤ m → Falls l ns → Falls m ns
falls_more l m [] le f = tt
falls_more l m (n ∷ ns) le f = (omega (arith, f.0), f.1)

pub scope_falls : (l : ℕ) (s : Scope) → Falling l s → Falls l (scope s)
scope_falls l [] f = tt
scope_falls l (Mark ∷ s) f = tt
scope_falls l (Var x k ∷ s) f = (f.0, scope_falls k s f.1)

outside_falling : (l : ℕ) (s : Scope) → Falling l s → Falling l (outside s)
outside_falling l [] f = tt
outside_falling l (Mark ∷ s) f = f
outside_falling l (Var x k ∷ s) f = falling_more k l (outside s) (omega (arith, f.0)) (outside_falling k s f.1)

inner_none : (d : ℕ) → inner_locals d [] ≡ []
inner_none zero = refl
inner_none (suc d) = inner_none d

pub inner_falls : (d l : ℕ) (s : Scope) → Falling l s → Falls l (inner_locals d s)
inner_falls zero l s f = tt
inner_falls (suc d) l [] f = subst (Falls l) (sym (inner_none d)) tt
inner_falls (suc d) l (Mark ∷ s) f = inner_falls d l s f
inner_falls (suc d) l (Var x k ∷ s) f = (f.0, inner_falls (suc d) k s f.1)

not_any : (n l : ℕ) (ns : List ℕ) → l ≤ n → Falls l ns → list_any (nat_eq n) ns ≡ false
not_any n l [] le f = refl
not_any n l (k ∷ ns) le f = ap (λ b. b || list_any (nat_eq n) ns) (unlike n k (omega (arith, f.0))) ∙ not_any n k ns (omega (arith, f.0)) f.1

pub falls_distinct : (l : ℕ) (ns : List ℕ) → Falls l ns → distinct ns ≡ true
falls_distinct l [] f = refl
falls_distinct l (n ∷ ns) f = both (not (list_any (nat_eq n) ns)) (distinct ns) (ap not (not_any n n ns (omega arith) f.1)) (falls_distinct n ns f.1)

-- a number that is there is below this one
abbrev Below : ℕ → Option ℕ → Type 0
Below m None = Unit {0}
Below m (Some n) = n < m

below_more : (l m : ℕ) (o : Option ℕ) → l ≤ m → Below l o → Below m o
below_more l m None le h = tt
below_more l m (Some n) le h = omega arith

find_below : (l : ℕ) (s : Scope) (x : List ℕ) → Falling l s → Below l (find s x)
find_below l [] x f = tt
find_below l (Mark ∷ s) x f = find_below l s x f
find_below l (Var y k ∷ s) x f = by_name (bytes_eq x y) (find_below k s x f.1)
  where
    by_name : (b : Bool) → Below k (find s x) → Below l (if b then Some k else find s x)
    by_name true h = f.0
    by_name false h = below_more k l (find s x) (omega (arith, f.0)) h

position_below : (p : SlotTree → Bool) (ss : List SlotTree) (o : Option ℕ) → position p ss ≡ o → Below (length ss) o
position_below p ss None e = tt
position_below p ss (Some n) e = (position-Some p ss n (record { ty = IntType; name = [] }) e).0

-- a constant names no place
abbrev NoPlaces : List (List ℕ × ℕ) → Type 0
NoPlaces [] = Unit {0}
NoPlaces (r ∷ rs) = (place_named r.0 ≡ None) × NoPlaces rs

no_place : (rows : List (List ℕ × ℕ)) (x : List ℕ) (n : ℕ) → NoPlaces rows → named rows x ≡ Some n → place_named x ≡ None
no_place [] x n h e = cc
no_place (r ∷ rows) x n h e = by_name (bytes_eq x r.0) refl e (no_place rows x n h.1)
  where
    by_name : (b : Bool) → bytes_eq x r.0 ≡ b → (if b then Some r.1 else named rows x) ≡ Some n → (named rows x ≡ Some n → place_named x ≡ None) → place_named x ≡ None
    by_name true is e f = ap place_named ((bytes_eq-Decides x r.0).0 is) ∙ h.0
    by_name false is e f = f e

pub constant_no_place : (x : List ℕ) (n : ℕ) → named constant_names x ≡ Some n → place_named x ≡ None
constant_no_place x n e = no_place constant_names x n (refl, (refl, (refl, (refl, (refl, tt))))) e

module _ (c : ClassTree) (few_slots : length c.slots < 2 ^ 64) (few_locals : length c.locals < 2 ^ 64) where
  -- these places are in the class
  abbrev pub There : List Slotted → Type 0
  There ps = list_all (has_place c) ps ≡ true

  pub there_both : (ps qs : List Slotted) → There ps → There qs → There (ps ++ qs)
  there_both ps qs h k = all_both (has_place c) ps qs h k

  pub falls_there : (l : ℕ) (ns : List ℕ) → l ≤ length c.locals → Falls l ns → There (map place.Local ns)
  falls_there l [] le f = refl
  falls_there l (n ∷ ns) le f = both (has_place c (place.Local n)) _ (inside c.locals n (omega (arith, f.0))) (falls_there n ns (omega (arith, f.0)) f.1)

  -- a place that there is, if any, and that is read back from its name
  abbrev pub IsPlace : Option Slotted → Type 0
  IsPlace None = Unit {0}
  IsPlace (Some p) = (has_place c p ≡ true) × (place_named (place_name p) ≡ Some p)

  local_place : (n : ℕ) → n < length c.locals → IsPlace (Some (place.Local n))
  local_place n lt = (inside c.locals n lt, local_named n (omega (arith, few_locals)))

  slot_type : (n : ℕ) → n < length c.slots → has_place c (place.Slot n) ≡ true
  slot_type n lt = by_slot (slice_get c.slots n) (inside c.slots n lt)
    where
      by_slot : (o : Option SlotTree) → is_there o ≡ true → is_there (option_map (λ (t : SlotTree). t.ty) o) ≡ true
      by_slot None e = cc
      by_slot (Some t) e = refl

  slot_place : (n : ℕ) → n < length c.slots → IsPlace (Some (place.Slot n))
  slot_place n lt = (slot_type n lt, slot_named n (omega (arith, few_slots)))

  by_numbers : (o k : Option ℕ) → Below (length c.locals) o → Below (length c.slots) k → IsPlace (place_by o k)
  by_numbers (Some n) k h j = local_place n h
  by_numbers None (Some n) h j = slot_place n j
  by_numbers None None h j = tt

  -- each name in force is that of a place
  abbrev pub Knows : Scope → Type 0
  Knows s = (x : List ℕ) → IsPlace (place_of c.slots s x)

  pub falling_knows : (l : ℕ) (s : Scope) → l ≤ length c.locals → Falling l s → Knows s
  falling_knows l s le f x =
      let p = λ (t : SlotTree). bytes_eq x t.name in
      by_numbers (find s x) (position p c.slots) (below_more l (length c.locals) (find s x) le (find_below l s x f)) (position_below p c.slots (position p c.slots) refl)

  pub place_there : (o : Option Slotted) → IsPlace o → There (listed o)
  place_there None h = refl
  place_there (Some p) h = both (has_place c p) true h.0 refl

  pub name_there : (o : Option Slotted) → IsPlace o → There (listed (place_named (var_over o)))
  name_there None h = refl
  name_there (Some p) h = subst (λ q. There (listed q)) (sym h.1) (place_there (Some p) h)

  module _ (s : Scope) (k : Knows s) where
    by_constant : (o : Option ℕ) (x : List ℕ) → named constant_names x ≡ o → There (listed (place_named (name_over o (place_of c.slots s x) x)))
    by_constant (Some n) x e = ap (λ q. list_all (has_place c) (listed q)) (constant_no_place x n e)
    by_constant None x e = name_there (place_of c.slots s x) (k x)

    mutual
      pub expr_there : (e : ExprTree) → There (expr_places (over c.slots s e))
      expr_there (VarExpr x) = by_constant (named constant_names x.name) x.name refl
      expr_there (CallExpr f es) = exprs_there es
      expr_there (FieldExpr e x) = expr_there e
      expr_there (MethodExpr e m es) = there_both (expr_places (over c.slots s e)) (exprs_places (over_all c.slots s es)) (expr_there e) (exprs_there es)
      expr_there (NotExpr e) = expr_there e
      expr_there (NegExpr e) = expr_there e
      expr_there (BinaryExpr op a b) = there_both (expr_places (over c.slots s a)) (expr_places (over c.slots s b)) (expr_there a) (expr_there b)
      expr_there (ParenExpr e) = expr_there e
      expr_there _ = refl

      pub exprs_there : (es : ExprTrees) → There (exprs_places (over_all c.slots s es))
      exprs_there NoExprs = refl
      exprs_there (MoreExprs e es) = there_both (expr_places (over c.slots s e)) (exprs_places (over_all c.slots s es)) (expr_there e) (exprs_there es)

    pub path_there : (xs : List Ident) → There (path_place (path_over c.slots s xs))
    path_there [] = refl
    path_there (x ∷ xs) = name_there (place_of c.slots s x.name) (k x.name)

    pub base_there : (xs : List Ident) → There (base_place (act_over c.slots s xs))
    base_there [] = refl
    base_there (x ∷ []) = refl
    base_there (x ∷ (y ∷ ys)) = name_there (place_of c.slots s x.name) (k x.name)

    -- what an instruction names
    abbrev pub AllNamed : List InstrTree → Type 0
    AllNamed is = list_all (λ (i : InstrTree). list_all (has_place c) (instr_places i)) is ≡ true

    abbrev pub InstrNamed : InstrTree → Type 0
    InstrNamed i = There (instr_places i)

    pub one_named : (i : InstrTree) → InstrNamed i → AllNamed (i ∷ [])
    one_named i h = both (list_all (has_place c) (instr_places i)) true h refl

    pub assigned_named : (ns : Names) (xs : List Ident) (e : ExprTree) → There (path_place xs) → InstrNamed (assigned ns c.slots s xs e)
    assigned_named ns xs e h = by_kind (is_there (effect_in ns e))
      where
        by_kind : (b : Bool) → InstrNamed (assign_by ns c.slots b xs (over c.slots s e))
        by_kind true = there_both (path_place xs) (expr_places (over c.slots s e)) h (expr_there e)
        by_kind false = there_both (path_place xs) (expr_places (over c.slots s e)) h (expr_there e)

    pub changed_named : (ns : Names) (xs : List Ident) (o : Option ExprTree) → AllNamed (changed ns c.slots s xs o)
    changed_named ns xs None = refl
    changed_named ns xs (Some e) = one_named (assigned ns c.slots s (path_over c.slots s xs) e) (assigned_named ns (path_over c.slots s xs) e (path_there xs))

    -- the place of a declared variable
    by_state : (ns : Names) (b : Bool) (x : List ℕ) (l : ℕ) → l + (if b then 0 else 1) ≤ length c.locals → IsPlace (lowering.place_by ns c.slots b x l s)
    by_state ns true x l le = k x
    by_state ns false x l le = local_place l (omega arith)

    pub into_place : (ns : Names) (i : IntoTree) (l : ℕ) → l + local_count i ≤ length c.locals → IsPlace (place_in ns c.slots i l s)
    into_place ns i l le = by_state ns i.state i.name.name l le

    pub taken_place : (ns : Names) (o : Option IntoTree) (l : ℕ) → l + into_count o ≤ length c.locals → IsPlace (taken_in ns c.slots o l s)
    taken_place ns None l le = tt
    taken_place ns (Some i) l le = into_place ns i l le

    new_named : (o : Option Slotted) → IsPlace o → AllNamed (new_at o)
    new_named None h = refl
    new_named (Some p) h = one_named (NewInstr p) (place_there (Some p) h)

    value_named : (t : TypeTree) (i : IntoTree) (o : Option Slotted) → IsPlace o → AllNamed (first_at i o (first_value t))
    value_named IntType i o h = one_named (SetInstr (ident_at o i.name ∷ []) (IntExpr (pos 0))) (there_both (listed (place_named (var_over o))) [] (name_there o h) refl)
    value_named BoolType i o h = one_named (SetInstr (ident_at o i.name ∷ []) (BoolExpr false)) (there_both (listed (place_named (var_over o))) [] (name_there o h) refl)
    value_named StringType i o h = one_named (SetInstr (ident_at o i.name ∷ []) (TextExpr [])) (there_both (listed (place_named (var_over o))) [] (name_there o h) refl)
    value_named t i o h = new_named o h

    pub declares_named : (ns : Names) (l : ℕ) (i : IntoTree) (e : Option ExprTree) → l + local_count i ≤ length c.locals → AllNamed (declares ns c.slots s l i e)
    declares_named ns l i None le = value_named i.ty i (place_in ns c.slots i l s) (into_place ns i l le)
    declares_named ns l i (Some e) le =
        let p = place_in ns c.slots i l s in
        one_named (assigned ns c.slots s (ident_at p i.name ∷ []) e) (assigned_named ns (ident_at p i.name ∷ []) e (name_there p (into_place ns i l le)))

    by_caught : (x : Option (List ℕ)) → IsPlace (option_and_then (place_of c.slots s) x)
    by_caught None = tt
    by_caught (Some x) = k x

    pub thrown_there : (ns : Names) (at : Place) (e : Option ExprTree) (x : Option (List ℕ)) → There (expr_places (thrown ns c.slots s at e x))
    thrown_there ns at (Some e) x = expr_there e
    thrown_there ns at None x = name_there (option_and_then (place_of c.slots s) x) (by_caught x)

    pub act_named : (xs : List Ident) (es : ExprTrees) → InstrNamed (ActInstr (act_over c.slots s xs) (over_all c.slots s es))
    act_named xs es = there_both (base_place (act_over c.slots s xs)) (exprs_places (over_all c.slots s es)) (base_there xs) (exprs_there es)

  -- what is dropped
  abbrev pub AllInstrsNamed : List InstrTree → Type 0
  AllInstrsNamed is = list_all (λ (i : InstrTree). list_all (has_place c) (instr_places i)) is ≡ true

  pub drop_named : (l : ℕ) (ns : List ℕ) → l ≤ length c.locals → Falls l ns → AllInstrsNamed (drop_of ns)
  drop_named l [] le f = refl
  drop_named l (n ∷ ns) le f = both (list_all (has_place c) (map place.Local (n ∷ ns))) true (falls_there l (n ∷ ns) le f) refl

  list_named : (l : ℕ) (ns : List ℕ) (lists : List (List ℕ)) → l ≤ length c.locals → Falls l ns → AllInstrsNamed (map DropInstr lists) → AllInstrsNamed (map DropInstr (with_list ns lists))
  list_named l [] lists le f h = h
  list_named l (n ∷ ns) lists le f h = both (list_all (has_place c) (map place.Local (n ∷ ns))) _ (falls_there l (n ∷ ns) le f) h

  pub left_named : (d l : ℕ) (s : Scope) → l ≤ length c.locals → Falling l s → AllInstrsNamed (map DropInstr (left_lists d s))
  left_named zero l s le f = refl
  left_named (suc d) l s le f = list_named l (scope s) (left_lists d (outside s)) le (scope_falls l s f) (left_named d l (outside s) le (outside_falling l s f))
