-- Look-ups by place, through the mirrors of records and values.
use Rattle.std.proofs.Common.{◌≡◌, ℕ, zero, suc, ◌<◌, ◌≤◌, Bool, true, false, cond, List, [], ◌∷◌, length, map, position, get_or, set, refl, ap, sym, subst, ◌∙◌, arith, ltb}
use Rattle.std.specs.List.{position_or_len}
use Rattle.std.specs.Str.{bytes_eq}
use Rattle.std.specs.declared.option.Option.{Option}
use Rattle.std.specs.declared.option.Option.TheVariants.{None, Some}
use Rattle.flow_tree.specs.declared.decl.RecordDecl.{RecordDecl}
use Rattle.flow_tree.specs.declared.decl.Param.{Param}
use Rattle.flow_tree.specs.DeclView.{record_of, param_of}
use Rattle.flow_tree.specs.Decls.{ParamTree, RecordTree}
use Rattle.flow_value.specs.declared.value.Value.{Value}
use Rattle.flow_value.specs.View.{value_of, values_of}
use Rattle.flow_value.specs.Values.{ValueTree, ValueTrees, NoValues, MoreValues, value_at, value_put}
use Rattle.std.specs.Option.{option_map}
use Rattle.std.proofs.Common.{slice_get, if◌then◌else◌}
use Rattle.flow_tree.specs.declared.ty.Ident.{Ident}
use Rattle.flow_eval.specs.declared.variables.Var.{Var}
use Rattle.flow_eval.specs.Variables.{var_of}
use Rattle.flow_eval.specs.Functions.{Locals, put_in, put_place, put_at_var, put_path}
use Rattle.flow_eval.specs.Records.{place_in}

length-mapped : {X Y : Type 0} (f : X → Y) (xs : List X) → length (map f xs) ≡ length xs
length-mapped f [] = refl
length-mapped f (x ∷ xs) = ap suc (length-mapped f xs)

first_by : {X Y : Type 0} (f : X → Y) (p : Y → Bool) (xs : List X) → position_or_len p (map f xs) ≡ position_or_len (λ x. p (f x)) xs
first_by f p [] = refl
first_by f p (x ∷ xs) = grind (arith, first_by f p xs)

-- a place among mirrors is a place among what they mirror
map-position : {X Y : Type 0} (f : X → Y) (p : Y → Bool) (xs : List X) → position p (map f xs) ≡ position (λ x. p (f x)) xs
map-position f p xs =
    ap (λ n. cond (ltb n (length (map f xs))) (Some n) None) (first_by f p xs)
    ∙ ap (λ n. cond (ltb (position_or_len (λ x. p (f x)) xs) n) (Some (position_or_len (λ x. p (f x)) xs)) None) (length-mapped f xs)

pub position_records : (rs : List RecordDecl) (x : List ℕ) → position (λ (r : RecordTree). bytes_eq r.name.name x) (map record_of rs) ≡ position (λ (r : RecordDecl). bytes_eq r.name.name x) rs
position_records rs x = map-position record_of (λ (r : RecordTree). bytes_eq r.name.name x) rs

pub position_params : (ps : List Param) (x : List ℕ) → position (λ (p : ParamTree). bytes_eq p.name.name x) (map param_of ps) ≡ position (λ (p : Param). bytes_eq p.name.name x) ps
position_params ps x = map-position param_of (λ (p : ParamTree). bytes_eq p.name.name x) ps

pub place_there : (rs : List RecordDecl) (k : ℕ) (x : List ℕ) (d : RecordDecl) → k < length rs
    → place_in (map record_of rs) k x ≡ position (λ (p : ParamTree). bytes_eq p.name.name x) (record_of (get_or rs k d)).fields
place_there [] k x d lt = absurd (omega arith)
place_there (r ∷ rs) zero x d lt = refl
place_there (r ∷ rs) (suc k) x d lt = let lt' : k < length rs = omega arith in place_there rs k x d lt'

pub place_past : (rs : List RecordDecl) (k : ℕ) (x : List ℕ) → length rs ≤ k → place_in (map record_of rs) k x ≡ None
place_past [] k x le = refl
place_past (r ∷ rs) zero x le = absurd (omega arith)
place_past (r ∷ rs) (suc k) x le = let le' : length rs ≤ k = omega arith in place_past rs k x le'

pub value_there : (vs : List Value) (k : ℕ) (d : Value) → k < length vs → value_at (values_of vs) k ≡ Some (value_of (get_or vs k d))
value_there [] k d lt = absurd (omega arith)
value_there (v ∷ vs) zero d lt = refl
value_there (v ∷ vs) (suc k) d lt = let lt' : k < length vs = omega arith in value_there vs k d lt'

pub value_past : (vs : List Value) (k : ℕ) → length vs ≤ k → value_at (values_of vs) k ≡ None
value_past [] k le = refl
value_past (v ∷ vs) zero le = absurd (omega arith)
value_past (v ∷ vs) (suc k) le = let le' : length vs ≤ k = omega arith in value_past vs k le'

pub values_set : (vs : List Value) (k : ℕ) (v : Value) → values_of (set vs k v) ≡ value_put (values_of vs) k (value_of v)
values_set [] k v = refl
values_set (w ∷ vs) zero v = refl
values_set (w ∷ vs) (suc k) v = ap (MoreValues (value_of w)) (values_set vs k v)

pub put_again : (vs : ValueTrees) (k : ℕ) (v w : ValueTree) → value_put (value_put vs k v) k w ≡ value_put vs k w
put_again NoValues k v w = refl
put_again (MoreValues u vs) zero v w = refl
put_again (MoreValues u vs) (suc k) v w = ap (MoreValues u) (put_again vs k v w)

pub position_vars : (vs : List Var) (x : List ℕ) → position (λ (v : List ℕ × ValueTree). bytes_eq x v.0) (map var_of vs) ≡ position (λ (v : Var). bytes_eq x v.name) vs
position_vars vs x = map-position var_of (λ (v : List ℕ × ValueTree). bytes_eq x v.0) vs

var_got : (vs : List Var) (k : ℕ) (d : Var) → k < length vs → slice_get (map var_of vs) k ≡ Some (var_of (get_or vs k d))
var_got [] k d lt = absurd (omega arith)
var_got (v ∷ vs) zero d lt = refl
var_got (v ∷ vs) (suc k) d lt = let lt' : k < length vs = omega arith in var_got vs k d lt'

var_none : (vs : List Var) (k : ℕ) → length vs ≤ k → slice_get (map var_of vs) k ≡ None
var_none [] k le = refl
var_none (v ∷ vs) zero le = absurd (omega arith)
var_none (v ∷ vs) (suc k) le = let le' : length vs ≤ k = omega arith in var_none vs k le'

var_set : (vs : List Var) (k : ℕ) (v : Var) → map var_of (set vs k v) ≡ set (map var_of vs) k (var_of v)
var_set [] k v = refl
var_set (w ∷ vs) zero v = refl
var_set (w ∷ vs) (suc k) v = ap (λ l. var_of w ∷ l) (var_set vs k v)

some_set : (vs : List Var) (k : ℕ) (x : List ℕ) (o : Option ValueTree) (w : Var) (b : Bool) → option_map (λ u. (x, u)) o ≡ (if b then Some (var_of w) else None)
    → option_map (λ u. set (map var_of vs) k (x, u)) o ≡ (if b then Some (map var_of (set vs k w)) else None)
some_set vs k x None w true e = cc
some_set vs k x None w false e = refl
some_set vs k x (Some u) w true e =
    let f : Option (List ℕ × ValueTree) → Option Locals = option_map (λ v. set (map var_of vs) k v) in
    ap f e ∙ ap Some (sym (var_set vs k w))
some_set vs k x (Some u) w false e = cc

-- a variable with a value put into it stands at its place
pub put_back : (rs : List RecordTree) (vs : List Var) (k : ℕ) (d w : Var) (xs : List Ident) (v : ValueTree) (b : Bool) → k < length vs
    → option_map (λ u. ((get_or vs k d).name, u)) (put_in rs (Some (value_of (get_or vs k d).value)) xs v) ≡ (if b then Some (var_of w) else None)
    → put_place rs (map var_of vs) (Some k) xs v ≡ (if b then Some (map var_of (set vs k w)) else None)
put_back rs vs k d w xs v b lt e =
    ap (λ o. put_at_var rs (map var_of vs) k o xs v) (var_got vs k d lt)
    ∙ some_set vs k (get_or vs k d).name (put_in rs (Some (value_of (get_or vs k d).value)) xs v) w b e

pub put_back_at : (rs : List RecordTree) (vs : List Var) (k : ℕ) (old w : Var) (xs : List Ident) (v : ValueTree) (b : Bool) → k < length vs → old ≡ get_or vs k old
    → option_map (λ u. (old.name, u)) (put_in rs (Some (value_of old.value)) xs v) ≡ (if b then Some (var_of w) else None)
    → put_place rs (map var_of vs) (Some k) xs v ≡ (if b then Some (map var_of (set vs k w)) else None)
put_back_at rs vs k old w xs v b lt e h =
    put_back rs vs k old w xs v b lt
    (subst (λ (o : Var). option_map (λ u. (o.name, u)) (put_in rs (Some (value_of o.value)) xs v) ≡ (if b then Some (var_of w) else None)) e h)

pub put_past : (rs : List RecordTree) (vs : List Var) (k : ℕ) (xs : List Ident) (v : ValueTree) → length vs ≤ k → put_place rs (map var_of vs) (Some k) xs v ≡ None
put_past rs vs k xs v le = ap (λ o. put_at_var rs (map var_of vs) k o xs v) (var_none vs k le)

pub path_none : (rs : List RecordTree) (vars : Locals) (path : List Ident) (x : Ident) (xs : List Ident) (w : ValueTree) → path ≡ x ∷ xs
    → position (λ (v : List ℕ × ValueTree). bytes_eq x.name v.0) vars ≡ None → put_path rs vars path w ≡ None
path_none rs vars path x xs w e p = ap (λ q. put_path rs vars q w) e ∙ ap (λ o. put_place rs vars o xs w) p

pub path_some : (rs : List RecordTree) (vars : Locals) (path : List Ident) (x : Ident) (xs : List Ident) (w : ValueTree) (k : ℕ) → path ≡ x ∷ xs
    → position (λ (v : List ℕ × ValueTree). bytes_eq x.name v.0) vars ≡ Some k → put_path rs vars path w ≡ put_place rs vars (Some k) xs w
path_some rs vars path x xs w k e p = ap (λ q. put_path rs vars q w) e ∙ ap (λ o. put_place rs vars o xs w) p
