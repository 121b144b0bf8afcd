-- A script that is sorted by time, lines of one time in their order, shows the script in the order of the file.
use Rattle.std.proofs.Common.{◌≡◌, ℕ, suc, ◌+◌, ◌<◌, ◌≤◌, Bool, true, false, List, [], ◌∷◌, Some, get_or, map, nat_lt, nat_eq, refl, sym, ap, ap₂, ◌∙◌, subst, arith, if◌then◌else◌}
use Rattle.std.specs.Prelude.{not, ◌&&◌}
use Rattle.std.specs.List.{filter}
use Rattle.std.specs.List.Sorted.{IsSortedByKey, IsStableByKey}
use Rattle.std.specs.Ordering.{nat_cmp, is_lt}
use Rattle.std.specs.declared.cmp.Ordering.TheVariants.{Equal, Greater}
use Rattle.std.proofs.lemmas.Bool.Decides.{nat_tests}
use Rattle.flow_worldfile.specs.declared.world.Act.TheVariants.{Boot}
use Rattle.flow_worldfile.specs.declared.world.At.{At}
use Rattle.flow_worldfile.specs.Worlds.{timed}
use Rattle.flow_meaning.specs.World.{soonest, sooner}
use Rattle.flow_world.specs.Starting.{ScriptInOrder}
use Rattle.flow_world_refinement.specs.Order.Showing.{ScriptRepresents}

-- the lines of one time, in their order
abbrev of_time : ℕ → List At → List At
of_time t [] = []
of_time t (l ∷ ls) = if nat_eq l.time t then l ∷ of_time t ls else of_time t ls

-- no line is sooner than the ones before it
abbrev Rise : ℕ → List At → Type 0
Rise t [] = Unit {0}
Rise t (l ∷ ls) = (t ≤ l.time) × Rise l.time ls

-- this one comes first, and these are the others
record IsFirst (xs : List At) (y : At) (ys : List At) : Type 0 where
  soonest_is : soonest (map timed xs) ≡ Some (timed y, map timed ys)
  own : of_time y.time xs ≡ y ∷ of_time y.time ys
  others : (t : ℕ) → nat_eq y.time t ≡ false → of_time t xs ≡ of_time t ys
  none_sooner : (t : ℕ) → t < y.time → of_time t xs ≡ []

data HasFirst : List At → Type 0 where
  nothing : HasFirst []
  first : {x : At} {xs : List At} (y : At) (ys : List At) → IsFirst (x ∷ xs) y ys → HasFirst (x ∷ xs)

has_first : (xs : List At) → HasFirst xs
has_first [] = nothing
has_first (x ∷ xs) = by_rest xs (has_first xs)
  where
    by_rest : (zs : List At) → HasFirst zs → HasFirst (x ∷ zs)
    by_rest [] nothing =
        let same : nat_eq x.time x.time ≡ true = grind (arith, nat_tests) in
        first x [] (record {
          soonest_is = refl;
          own = rw same refl;
          others = λ t e. rw e refl;
          none_sooner = λ t l. let e : nat_eq x.time t ≡ false = grind (arith, nat_tests, l) in rw e refl;
        })
    by_rest (z ∷ zs) (first y ys h) = by_test (nat_lt y.time x.time) refl
      where
        by_test : (b : Bool) → nat_lt y.time x.time ≡ b → HasFirst (x ∷ z ∷ zs)
        by_test true e =
            let other : nat_eq x.time y.time ≡ false = grind (arith, nat_tests) in
            first y (x ∷ ys) (record {
              soonest_is = ap (λ o. Some (sooner (timed x) (map timed (z ∷ zs)) o)) h.soonest_is ∙ ap (λ b. Some (if b then (timed y, timed x ∷ map timed ys) else (timed x, map timed (z ∷ zs)))) e;
              own = rw other h.own;
              others = λ t f. ap (λ ls. if nat_eq x.time t then x ∷ ls else ls) (h.others t f);
              none_sooner = λ t l. let f : nat_eq x.time t ≡ false = grind (arith, nat_tests, l) in rw f (h.none_sooner t l);
            })
        by_test false e =
            let same : nat_eq x.time x.time ≡ true = grind (arith, nat_tests) in
            first x (z ∷ zs) (record {
              soonest_is = ap (λ o. Some (sooner (timed x) (map timed (z ∷ zs)) o)) h.soonest_is ∙ ap (λ b. Some (if b then (timed y, timed x ∷ map timed ys) else (timed x, map timed (z ∷ zs)))) e;
              own = rw same refl;
              others = λ t f. rw f refl;
              none_sooner = λ t l.
                  let f : nat_eq x.time t ≡ false = grind (arith, nat_tests, l) in
                  let g : t < y.time = grind (arith, nat_tests, l) in
                  rw f (h.none_sooner t g);
            })

-- of lines that rise, the first is the only one of its time that comes first
none_below : (t k : ℕ) (ls : List At) → Rise k ls → t < k → of_time t ls ≡ []
none_below t k [] r l = refl
none_below t k (x ∷ ls) r l =
    let e : nat_eq x.time t ≡ false = grind (arith, nat_tests, r.0, l) in
    rw e (none_below t x.time ls r.1 (omega (arith, r.0, l)))

abbrev SameTimes : List At → List At → Type 0
SameTimes ls xs = (t : ℕ) → of_time t ls ≡ of_time t xs

not_empty : (x : At) (xs : List At) → of_time x.time (x ∷ xs) ≡ [] → ⊥
not_empty x xs e = let same : nat_eq x.time x.time ≡ true = grind (arith, nat_tests) in absurd (cc (rw same at e))

pub script_shows : (k : ℕ) (ls xs : List At) → Rise k ls → SameTimes ls xs → ScriptRepresents ls (map timed xs)
script_shows k [] [] r s = refl
script_shows k [] (x ∷ xs) r s = absurd (not_empty x xs (sym (s x.time)))
script_shows k (l ∷ ls) [] r s = absurd (not_empty l ls (s l.time))
script_shows k (l ∷ ls) (x ∷ xs) r s = by_first (has_first (x ∷ xs)) (λ ys t. script_shows l.time ls ys r.1 t)
  where
    head : {y z : At} {ys zs : List At} → y ∷ ys ≡ z ∷ zs → y ≡ z
    head e = cc

    tail : {y z : At} {ys zs : List At} → y ∷ ys ≡ z ∷ zs → ys ≡ zs
    tail e = cc

    own_time : of_time l.time (l ∷ ls) ≡ l ∷ of_time l.time ls
    own_time = let same : nat_eq l.time l.time ≡ true = grind (arith, nat_tests) in rw same refl

    by_order : (y : At) (ys : List At) → IsFirst (x ∷ xs) y ys → (b c : Bool) → nat_lt l.time y.time ≡ b → nat_lt y.time l.time ≡ c → l.time ≡ y.time
    by_order y ys h true c e f = absurd (not_empty l ls (s l.time ∙ h.none_sooner l.time (grind (arith, nat_tests))))
    by_order y ys h false true e f =
        let none : of_time y.time (l ∷ ls) ≡ [] = none_below y.time l.time (l ∷ ls) (omega arith, r.1) (grind (arith, nat_tests)) in
        absurd (cc (sym none ∙ s y.time ∙ h.own))
    by_order y ys h false false e f = grind (arith, nat_tests)

    by_first : HasFirst (x ∷ xs) → ((ys : List At) → SameTimes ls ys → ScriptRepresents ls (map timed ys)) → ScriptRepresents (l ∷ ls) (map timed (x ∷ xs))
    by_first (first y ys h) others =
        let time : l.time ≡ y.time = by_order y ys h (nat_lt l.time y.time) (nat_lt y.time l.time) refl refl in
        let both : l ∷ of_time l.time ls ≡ y ∷ of_time y.time ys = sym own_time ∙ s l.time ∙ ap (λ t. of_time t (x ∷ xs)) time ∙ h.own in
        let same : l ≡ y = head both in
        (map timed ys, h.soonest_is ∙ ap (λ z. Some (timed z, map timed ys)) (sym same), others ys (λ t. by_time t (nat_eq l.time t) refl))
      where
        by_time : (t : ℕ) (b : Bool) → nat_eq l.time t ≡ b → of_time t ls ≡ of_time t ys
        by_time t true e =
            let time : l.time ≡ y.time = by_order y ys h (nat_lt l.time y.time) (nat_lt y.time l.time) refl refl in
            let both : l ∷ of_time l.time ls ≡ y ∷ of_time y.time ys = sym own_time ∙ s l.time ∙ ap (λ u. of_time u (x ∷ xs)) time ∙ h.own in
            let t_is : l.time ≡ t = grind (arith, nat_tests) in
            subst (λ u. of_time u ls ≡ of_time u ys) t_is (tail both ∙ ap (λ u. of_time u ys) (sym time))
        by_time t false e =
            let time : l.time ≡ y.time = by_order y ys h (nat_lt l.time y.time) (nat_lt y.time l.time) refl refl in
            let not_own : nat_eq y.time t ≡ false = subst (λ u. nat_eq u t ≡ false) time e in
            let skip : of_time t (l ∷ ls) ≡ of_time t ls = rw e refl in
            sym skip ∙ s t ∙ h.others t not_own

-- what the sort says
cmp_lt : (a b : ℕ) → is_lt (nat_cmp a b) ≡ nat_lt a b
cmp_lt a b = by_test (nat_lt a b) refl
  where
    not_less : (t : Bool) → is_lt (if t then Equal else Greater) ≡ false
    not_less true = refl
    not_less false = refl

    by_test : (t : Bool) → nat_lt a b ≡ t → is_lt (nat_cmp a b) ≡ t
    by_test true e = rw e refl
    by_test false e = rw e (not_less _)

abbrev at_time : ℕ → At
at_time t = record { time = t; act = Boot (record { 0 = 0 }) }

abbrev tied : ℕ → At → Bool
tied t l = not (is_lt (nat_cmp t l.time)) && not (is_lt (nat_cmp l.time t))

tied_is : (t : ℕ) (l : At) → tied t l ≡ nat_eq l.time t
tied_is t l =
    let first = cmp_lt t l.time in
    let second = cmp_lt l.time t in
    rw (first, second) (grind (arith, nat_tests))

filter_is : (t : ℕ) (ls : List At) → filter (tied t) ls ≡ of_time t ls
filter_is t [] = refl
filter_is t (l ∷ ls) = ap₂ (λ b rest. if b then l ∷ rest else rest) (tied_is t l) (filter_is t ls)

same_times : (xs ls : List At) → IsStableByKey (λ l. l.time) nat_cmp xs ls → SameTimes ls xs
same_times xs ls s t = sym (filter_is t ls) ∙ s (at_time t) ∙ filter_is t xs

rises : (k : ℕ) (l : At) (ls : List At) → k ≤ l.time → IsSortedByKey (λ x. x.time) nat_cmp (l ∷ ls) → Rise k (l ∷ ls)
rises k l [] le s = (le, tt)
rises k l (m ∷ ls) le s =
    let not_less : nat_lt m.time l.time ≡ false = sym (cmp_lt m.time l.time) ∙ s 0 l (omega arith) (omega arith) in
    let rise : l.time ≤ m.time = grind (arith, nat_tests) in (
      le,
      rises l.time m ls rise (λ j d low high.
          let e : suc j + 1 ≡ suc (j + 1) = omega arith in
          subst (λ k. is_lt (nat_cmp (get_or (l ∷ m ∷ ls) k d).time (get_or (l ∷ m ∷ ls) (suc j) d).time) ≡ false) e (s (suc j) d (omega arith) (omega (arith, high)))),
    )

rise : (ls : List At) → IsSortedByKey (λ x. x.time) nat_cmp ls → Rise 0 ls
rise [] s = tt
rise (l ∷ ls) s = rises 0 l ls (omega arith) s

pub sorted_shows : (written lines : List At) → ScriptInOrder written lines → ScriptRepresents lines (map timed written)
sorted_shows written lines o = script_shows 0 lines written (rise lines o.sorted) (same_times written lines o.stable)
