-- Files by their names.
use Rattle.std.proofs.Common.{◌≡◌, ◌≢◌, ◌++◌, ℕ, zero, suc, ◌+◌, ◌-◌, ◌*◌, ◌≤◌, List, [], ◌∷◌, map, length, ap, sym, subst, ◌∙◌, refl, Some, None, arith}
use Rattle.std.specs.Prelude.{Bool, true, false, ◌==◌, vec_len, nat_lt, if◌then◌else◌, Result, Ok, Err, OnOk, OnErr, fold}
use Rattle.std.specs.List.{All, AllByRecursion}
use Rattle.std.specs.List.Sorted.{IsStrictlySortedBy}
use Rattle.std.specs.declared.cmp.Ordering.{Ordering}
use Rattle.std.specs.declared.cmp.Ordering.TheVariants.{Less, Equal, Greater}
use Rattle.std.specs.declared.alloc.Global.{Global}
use Rattle.std.specs.declared.vec.Vec.{Vec}
use Rattle.std.specs.Option.{unwrap_or}
use Rattle.std.specs.Ordering.{match_ordering, nat_cmp, is_eq, ordering_reverse}
use Rattle.std.specs.Cmp.Lexicographic.{slice_cmp}
use Rattle.std.specs.Map.{lookup, set_value, keys_of}
use Rattle.std.specs.BTreeMap.{is_at, insert_entry}
use Rattle.std.proofs.lemmas.Cmp.{nat_list_cmp_total}
use Rattle.std.proofs.lemmas.List.Sums.{sum_by-cons}
use Rattle.std.proofs.lemmas.List.{append-nil, append_assoc, nil_from_length}
use Rattle.std.proofs.lemmas.List.Elements.{All-cons, All-tail}
use Rattle.std.proofs.lemmas.Map.{lookup-none}
use Rattle.std.proofs.lemmas.Map.Entries.{none_below_head}
use Rattle.std.proofs.lemmas.Map.Keys.{sorted_tail, sorted_head}
use Rattle.flow_simdisk.specs.Asks.{DiskCall}
use Rattle.flow_simdisk.specs.Disk.{File, empty_file, file_named, with_file, with_bytes, files_after, reply_of, served}
use Rattle.flow_simdisk.specs.Stored.{files_of, IsThere, HasFiles, HasRisingNames, StandInOrder, FitsFile, write_in, most_words}

-- the order of names as keys
abbrev pub by_name : Vec ℕ Global → Vec ℕ Global → Ordering
by_name j k = slice_cmp nat_cmp j.items k.items

abbrev pub at_name : List ℕ → Vec ℕ Global → Bool
at_name x k = is_at (slice_cmp nat_cmp x) k.items

pub lookup_named : (es : List (Vec ℕ Global × File)) (x : List ℕ) → lookup (is_at (slice_cmp nat_cmp x)) (files_of es) ≡ lookup (at_name x) es
lookup_named [] x = refl
lookup_named (e ∷ es) x = ap (λ o. if at_name x e.0 then Some e.1 else o) (lookup_named es x)

-- the file of a name, where it is there and where it isn't
pub found_file : (es : List (Vec ℕ Global × File)) (x : List ℕ) (f : File) → lookup (at_name x) es ≡ Some f → file_named (files_of es) x ≡ f
found_file es x f e = ap (λ o. unwrap_or o empty_file) (lookup_named es x ∙ e)

pub no_file : (es : List (Vec ℕ Global × File)) (x : List ℕ) → lookup (at_name x) es ≡ None → file_named (files_of es) x ≡ empty_file
no_file es x e = ap (λ o. unwrap_or o empty_file) (lookup_named es x ∙ e)

pub set_named : (es : List (Vec ℕ Global × File)) (x : List ℕ) (f : File) → files_of (set_value (at_name x) es f) ≡ set_value (is_at (slice_cmp nat_cmp x)) (files_of es) f
set_named [] x f = refl
set_named (e ∷ es) x f = by (set_named es x f) (at_name x e.0)
  where
    by : files_of (set_value (at_name x) es f) ≡ set_value (is_at (slice_cmp nat_cmp x)) (files_of es) f
        → (b : Bool) → files_of (if b then (e.0, f) ∷ es else e ∷ set_value (at_name x) es f)
        ≡ (if b then (e.0.items, f) ∷ files_of es else (e.0.items, e.1) ∷ set_value (is_at (slice_cmp nat_cmp x)) (files_of es) f)
    by go true = refl
    by go false = ap (λ fs. (e.0.items, e.1) ∷ fs) go

pub insert_named : (es : List (Vec ℕ Global × File)) (k : Vec ℕ Global) (f : File) → files_of (insert_entry by_name es k f) ≡ with_file (files_of es) k.items f
insert_named [] k f = refl
insert_named (e ∷ es) k f = by (insert_named es k f) (by_name k e.0)
  where
    by : files_of (insert_entry by_name es k f) ≡ with_file (files_of es) k.items f
        → (o : Ordering) → files_of (match_ordering o ((k, f) ∷ e ∷ es) ((e.0, f) ∷ es) (e ∷ insert_entry by_name es k f))
        ≡ match_ordering o ((k.items, f) ∷ (e.0.items, e.1) ∷ files_of es) ((e.0.items, f) ∷ files_of es) ((e.0.items, e.1) ∷ with_file (files_of es) k.items f)
    by go Less = refl
    by go Equal = refl
    by go Greater = ap (λ fs. (e.0.items, e.1) ∷ fs) go

some : {X : Type 0} {y z : X} → Some y ≡ Some z → y ≡ z
some h = cc

not_both : {X : Type 0} {y : X} → None ≡ Some y → ⊥
not_both h = cc

-- names are in order where keys are
names_below : (k : Vec ℕ Global) (es : List (Vec ℕ Global × File)) → AllByRecursion (λ j. by_name k j ≡ Less) (keys_of es)
    → AllByRecursion (λ y. slice_cmp nat_cmp k.items y ≡ Less) (keys_of (files_of es))
names_below k [] below = below
names_below k (e ∷ es) (first, rest) = (first, names_below k es rest)

pub names_sorted : (es : List (Vec ℕ Global × File)) → IsStrictlySortedBy by_name (keys_of es) → IsStrictlySortedBy (slice_cmp nat_cmp) (keys_of (files_of es))
unfolding IsStrictlySortedBy
names_sorted [] sorted = sorted
names_sorted (e ∷ es) (first, rest) = (names_below e.0 es first, names_sorted es rest)

-- a file that is there is put in its place by its name
pub set_is_inserted : (es : List (List ℕ × File)) (x : List ℕ) (f g : File) → IsStrictlySortedBy (slice_cmp nat_cmp) (keys_of es)
    → lookup (is_at (slice_cmp nat_cmp x)) es ≡ Some g → set_value (is_at (slice_cmp nat_cmp x)) es f ≡ with_file es x f
set_is_inserted [] x f g sorted found = absurd (not_both found)
set_is_inserted (e ∷ es) x f g sorted found =
    by (set_is_inserted es x f g (sorted_tail (slice_cmp nat_cmp) e.0 (keys_of es) sorted)) (slice_cmp nat_cmp x e.0) refl
  where
    here : (o : Ordering) → slice_cmp nat_cmp x e.0 ≡ o → (if is_eq o then Some e.1 else lookup (is_at (slice_cmp nat_cmp x)) es) ≡ Some g
    here o same = subst (λ p. (if is_eq p then Some e.1 else lookup (is_at (slice_cmp nat_cmp x)) es) ≡ Some g) same found

    by : (lookup (is_at (slice_cmp nat_cmp x)) es ≡ Some g → set_value (is_at (slice_cmp nat_cmp x)) es f ≡ with_file es x f)
        → (o : Ordering) → slice_cmp nat_cmp x e.0 ≡ o → set_value (is_at (slice_cmp nat_cmp x)) (e ∷ es) f ≡ with_file (e ∷ es) x f
    by go Less same =
        absurd (not_both (sym (lookup-none (is_at (slice_cmp nat_cmp x)) (e ∷ es) (none_below_head nat_list_cmp_total x e es sorted same)) ∙ found))
    by go Equal same = rw same refl
    by go Greater same = rw same (ap (λ fs. e ∷ fs) (go (here Greater same)))

-- what holds of each entry holds when a file takes another's place or its own
pub all_set : {K X : Type 0} (P : K × X → Type 0) (test : K → Bool) (es : List (K × X)) (w : X) → All P es → ((k : K) (v : X) → P (k, v) → P (k, w)) → All P (set_value test es w)
all_set {K} {X} P test [] w all by = all
all_set {K} {X} P test (e ∷ es) w all by =
    all_if (test e.0) _ _
    (All-cons P (e.0, w) es (by e.0 e.1 (all 0 e (omega arith))) (All-tail P e es all))
    (All-cons P e _ (all 0 e (omega arith)) (all_set P test es w (All-tail P e es all) by))
  where
    all_if : (b : Bool) (xs ys : List (K × X)) → All P xs → All P ys → All P (if b then xs else ys)
    all_if true xs ys p q = p
    all_if false xs ys p q = q

pub all_inserted : {K X : Type 0} (P : K × X → Type 0) (cmp : K → K → Ordering) (es : List (K × X)) (k : K) (w : X) → All P es → P (k, w)
    → ((j : K) (v : X) → P (j, v) → P (j, w)) → All P (insert_entry cmp es k w)
all_inserted P cmp [] k w all p by = All-cons P (k, w) [] p all
all_inserted {K} {X} P cmp (e ∷ es) k w all p by =
    all_by (cmp k e.0) _ _ _
    (All-cons P (k, w) (e ∷ es) p all)
    (All-cons P (e.0, w) es (by e.0 e.1 (all 0 e (omega arith))) (All-tail P e es all))
    (All-cons P e _ (all 0 e (omega arith)) (all_inserted P cmp es k w (All-tail P e es all) p by))
  where
    all_by : (o : Ordering) (xs ys zs : List (K × X)) → All P xs → All P ys → All P zs → All P (match_ordering o xs ys zs)
    all_by Less xs ys zs p q r = p
    all_by Equal xs ys zs p q r = q
    all_by Greater xs ys zs p q r = r

-- a file that is put back changes nothing
pub put_back : {K X : Type 0} (test : K → Bool) (es : List (K × X)) (old : X) → lookup test es ≡ Some old → set_value test es old ≡ es
put_back test [] old found = refl
put_back {K} {X} test (e ∷ es) old found = by (put_back test es old) (test e.0) refl
  where
    here : (b : Bool) → test e.0 ≡ b → (if b then Some e.1 else lookup test es) ≡ Some old
    here b same = subst (λ p. (if p then Some e.1 else lookup test es) ≡ Some old) same found

    by : (lookup test es ≡ Some old → set_value test es old ≡ es) → (b : Bool) → test e.0 ≡ b → set_value test (e ∷ es) old ≡ e ∷ es
    by go true same = rw same (ap (λ y. (e.0, y) ∷ es) (sym (some (here true same))))
    by go false same = rw same (ap (λ ys. e ∷ ys) (go (here false same)))

-- a file that isn't there isn't set
pub set_none : {K X : Type 0} (test : K → Bool) (es : List (K × X)) (w : X) → lookup test es ≡ None → set_value test es w ≡ es
set_none test [] w none = refl
set_none {K} {X} test (e ∷ es) w none = by (set_none test es w) (test e.0) refl
  where
    here : (b : Bool) → test e.0 ≡ b → (if b then Some e.1 else lookup test es) ≡ None
    here b same = subst (λ p. (if p then Some e.1 else lookup test es) ≡ None) same none

    by : (lookup test es ≡ None → set_value test es w ≡ es) → (b : Bool) → test e.0 ≡ b → set_value test (e ∷ es) w ≡ e ∷ es
    by go true same = absurd (not_both (sym (here true same)))
    by go false same = rw same (ap (λ ys. e ∷ ys) (go (here false same)))

pub on_ok : {X E P Q : Type 0} (r : Result X E) → (P → Q) → OnOk r P → OnOk r Q
on_ok (Ok x) f p = f p
on_ok (Err e) f p = p

pub on_err : {X E P Q : Type 0} (r : Result X E) → (P → Q) → OnErr r P → OnErr r Q
on_err (Ok x) f p = p
on_err (Err e) f p = f p

pub in_both : {X E P : Type 0} (r : Result X E) → OnOk r P → OnErr r P → P
in_both (Ok x) p q = p
in_both (Err e) p q = q

pub with_bytes_some : (fs : List (List ℕ × File)) (x bs : List ℕ) → bs ≢ [] → with_bytes fs x bs ≡ with_file fs x (record { durable = bs; unsynced = [] })
with_bytes_some fs x [] some = absurd (some refl)
with_bytes_some fs x (b ∷ bs) some = refl

abbrev pub HasFile : Vec ℕ Global × File → Type 0
HasFile e = (length e.0.items ≤ 65535) × IsThere e.1

pub there_found : (test : Vec ℕ Global → Bool) (es : List (Vec ℕ Global × File)) (f : File) → HasFiles es → lookup test es ≡ Some f → IsThere f
there_found test [] f all found = absurd (not_both found)
there_found test (e ∷ es) f all found = by (there_found test es f (λ k d lt. all (suc k) d (omega (arith, lt)))) (test e.0) found
  where
    by : (lookup test es ≡ Some f → IsThere f) → (b : Bool) → (if b then Some e.1 else lookup test es) ≡ Some f → IsThere f
    by go true same = subst IsThere (some same) (all 0 e (omega arith)).1
    by go false same = go same

pub some_length : {X : Type 0} (xs : List X) → xs ≢ [] → 1 ≤ length xs
some_length [] some = absurd (some refl)
some_length (x ∷ xs) some = omega arith

pub none_left : (v : Vec ℕ Global) (b : Bool) → b ≡ (vec_len v == 0) → b ≡ true → v.items ≡ []
none_left v b is held = nil_from_length v.items (sym v.ok.0 ∙ none v.len (sym is ∙ held))
  where
    none : (n : ℕ) → (n == 0) ≡ true → n ≡ 0
    none n e = grind (arith, e)

-- a request that takes effect
pub served_done : (q : DiskCall ℕ) (n : ℕ) (fs : List (List ℕ × File)) → nat_lt 0 n ≡ false
    → (record { fails = n - 1; files = files_after q fs }, reply_of q fs) ≡ served q n fs
served_done q zero fs e = refl
served_done q (suc n) fs e = absurd (wrong e)
  where
    wrong : nat_lt 0 (suc n) ≡ false → ⊥
    wrong h = grind (arith, h)

pub more_words : (e : Vec ℕ Global × File) (es : List (Vec ℕ Global × File)) → most_words (files_of (e ∷ es)) ≡ 2 * length e.1.unsynced + most_words (files_of es)
more_words e es = omega (arith, sum_by-cons (λ f. length f.1.unsynced) (e.0.items, e.1) (files_of es))

-- a file whose name is above those of all others is put behind them
put_last : (fs : List (List ℕ × File)) (x : List ℕ) (f : File) → AllByRecursion (λ y. slice_cmp nat_cmp x y ≡ Greater) (keys_of fs)
    → with_file fs x f ≡ fs ++ (x, f) ∷ []
put_last [] x f above = refl
put_last (e ∷ es) x f (first, rest) = rw first (ap (λ gs. e ∷ gs) (put_last es x f rest))

above_one_more : (x : List ℕ) (fs : List (List ℕ × File)) (y : List ℕ) (g : File) → AllByRecursion (λ z. slice_cmp nat_cmp x z ≡ Greater) (keys_of fs)
    → slice_cmp nat_cmp x y ≡ Greater → AllByRecursion (λ z. slice_cmp nat_cmp x z ≡ Greater) (keys_of (fs ++ (y, g) ∷ []))
above_one_more x [] y g above last = (last, tt)
above_one_more x (e ∷ es) y g (first, rest) last = (first, above_one_more x es y g rest last)

greater : (x y : List ℕ) → slice_cmp nat_cmp y x ≡ Less → slice_cmp nat_cmp x y ≡ Greater
greater x y e = nat_list_cmp_total.antisymm x y ∙ ap ordering_reverse e

-- names all of which are above those of some files
abbrev AllAbove : List (List ℕ × File) → List (List ℕ × File) → Type 0
AllAbove fs [] = Unit {0}
AllAbove fs (e ∷ es) = AllByRecursion (λ y. slice_cmp nat_cmp e.0 y ≡ Greater) (keys_of fs) × AllAbove fs es

still_above : (fs es : List (List ℕ × File)) (x : List ℕ) (f : File) → AllAbove fs es → AllByRecursion (λ y. slice_cmp nat_cmp x y ≡ Less) (keys_of es)
    → AllAbove (fs ++ (x, f) ∷ []) es
still_above fs [] x f above below = tt
still_above fs (e ∷ es) x f (first, rest) (here, later) =
    (above_one_more e.0 fs x f first (greater e.0 x here), still_above fs es x f rest later)

all_placed : (fs es : List (List ℕ × File)) → HasRisingNames es → AllAbove fs es → fold (λ gs f. with_file gs f.0 f.1) fs es ≡ fs ++ es
all_placed fs [] rising above = sym (append-nil fs)
all_placed fs (e ∷ es) rising (first, rest) =
    ap (λ gs. fold (λ hs f. with_file hs f.0 f.1) gs es) (put_last fs e.0 e.1 first)
    ∙ all_placed (fs ++ e ∷ []) es (sorted_tail (slice_cmp nat_cmp) e.0 (keys_of es) rising)
    (still_above fs es e.0 e.1 rest (sorted_head (slice_cmp nat_cmp) e.0 (keys_of es) rising))
    ∙ append_assoc fs (e ∷ []) es

none_above : (es : List (List ℕ × File)) → AllAbove [] es
none_above [] = tt
none_above (e ∷ es) = (tt, none_above es)

pub stand_in_order : StandInOrder
stand_in_order fs rising = all_placed [] fs rising (none_above fs)

-- writes as plain data
pub fits_at : (ys zs : List (ℕ × List ℕ)) (y : ℕ × List ℕ) → All FitsFile (map write_in (ys ++ y ∷ zs)) → FitsFile (write_in y)
fits_at [] zs y all = all 0 (write_in y) (omega arith)
fits_at (x ∷ xs) zs y all = fits_at xs zs y (All-tail FitsFile (write_in x) (map write_in (xs ++ y ∷ zs)) all)
