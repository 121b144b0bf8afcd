-- Monitors that join one after another, and wanted items that fail.
use Rattle.std.proofs.Common.{◌≡◌, ◌<◌, ◌≤◌, ◌+◌, inl, inr, ℕ, zero, suc, List, [], ◌∷◌, ◌++◌, Bool, true, false, Option, None, Some, refl, sym, ap, ◌∙◌, map, length, get_or, take, ◌||◌, arith, add-one}
use Rattle.std.specs.Prelude.{Ok, Err, if◌then◌else◌}
use Rattle.std.specs.List.{list_any}
use Rattle.flow_monitor.specs.Attaching.{Handed, has, limit_of, joined, joins, joined_by, attached, or_named, named_from, first_named, AttachFails}
use Rattle.flow_monitor.specs.declared.attach.PanelFault.{PanelFault}
use Rattle.flow_monitor.specs.declared.attach.PanelFault.TheVariants.{OutOfMemory}
use Rattle.flow_monitor.specs.declared.attach.Want.{Want}
use Rattle.flow_monitor.specs.Ears.{Ears}

pub map_last : {X Y : Type 0} (f : X → Y) (xs : List X) (x : X) (y : Y) → f x ≡ y → map f (xs ++ x ∷ []) ≡ map f xs ++ y ∷ []
map_last f [] x y e = ap (λ z. z ∷ []) e
map_last f (z ∷ xs) x y e = ap (λ ys. f z ∷ ys) (map_last f xs x y e)

-- one more joins, or not
pub joins_not : (wanted : List Want) (ears : Ears) (m : Handed) → has ears m.name ≡ true → ears ≡ joins wanted ears m
joins_not wanted ears m there = sym (ap (λ b. joined (if b then None else limit_of wanted m.name) m ears) there)

pub joins_unwanted : (wanted : List Want) (ears : Ears) (m : Handed) → has ears m.name ≡ false → limit_of wanted m.name ≡ None → ears ≡ joins wanted ears m
joins_unwanted wanted ears m there limit =
    sym (ap (λ b. joined (if b then None else limit_of wanted m.name) m ears) there ∙ ap (λ x. joined x m ears) limit)

pub joins_wanted : (wanted : List Want) (ears next : Ears) (m : Handed) (limit : ℕ) → has ears m.name ≡ false → limit_of wanted m.name ≡ Some limit
    → next ≡ ears ++ record { name = m.name; ear = Some (m.begun limit) } ∷ [] → next ≡ joins wanted ears m
joins_wanted wanted ears next m limit there is e =
    e ∙ sym (ap (λ b. joined (if b then None else limit_of wanted m.name) m ears) there ∙ ap (λ x. joined x m ears) is)

joined_last : (wanted : List Want) (ears : Ears) (ms : List Handed) (m : Handed) → joined_by wanted ears (ms ++ m ∷ []) ≡ joins wanted (joined_by wanted ears ms) m
joined_last wanted ears [] m = refl
joined_last wanted ears (x ∷ ms) m = joined_last wanted (joins wanted ears x) ms m

pub joined_more : {M : Type 0} (h : M → Handed) (wanted : List Want) (ms : List M) (m : M) (ears next : Ears) → ears ≡ attached wanted (map h ms)
    → next ≡ joins wanted ears (h m) → next ≡ attached wanted (map h (ms ++ m ∷ []))
joined_more h wanted ms m ears next e n =
    n ∙ ap (λ x. joins wanted x (h m)) e ∙ sym (joined_last wanted [] (map h ms) (h m)) ∙ ap (attached wanted) (sym (map_last h ms m (h m) refl))

named_last : (name : List ℕ) (found : Option Handed) (ms : List Handed) (m : Handed) → named_from name found (ms ++ m ∷ []) ≡ or_named name (named_from name found ms) m
named_last name found [] m = refl
named_last name found (x ∷ ms) m = named_last name (or_named name found x) ms m

pub named_more : {M : Type 0} (h : M → Handed) (name : List ℕ) (ms : List M) (m : M) (found next : Option Handed) → found ≡ first_named name (map h ms)
    → next ≡ or_named name found (h m) → next ≡ first_named name (map h (ms ++ m ∷ []))
named_more h name ms m found next e n =
    n ∙ ap (λ x. or_named name x (h m)) e ∙ sym (named_last name None (map h ms) (h m)) ∙ ap (first_named name) (sym (map_last h ms m (h m) refl))

-- a look through a list, one item after another
or_both : (a b c : Bool) → (a || (b || c)) ≡ ((a || b) || c)
or_both true b c = refl
or_both false b c = refl

or_nothing : (a : Bool) → (a || false) ≡ a
or_nothing true = refl
or_nothing false = refl

any_more : {X : Type 0} (test : X → Bool) (xs : List X) (i : ℕ) (d : X) → i < length xs
    → list_any test (take (suc i) xs) ≡ (list_any test (take i xs) || test (get_or xs i d))
any_more test [] i d lt = absurd (omega (arith, lt))
any_more test (x ∷ xs) zero d lt = or_nothing (test x)
any_more test (x ∷ xs) (suc i) d lt =
    ap (λ b. test x || b) (any_more test xs i d (omega (arith, lt))) ∙ or_both (test x) (list_any test (take i xs)) (test (get_or xs i d))

pub any_step : {X : Type 0} (test : X → Bool) (xs : List X) (i : ℕ) (d : X) (found here next : Bool) → i < length xs → d ≡ get_or xs i d → found ≡ list_any test (take i xs)
    → here ≡ test d → next ≡ (found || here) → next ≡ list_any test (take (i + 1) xs)
any_step test xs i d found here next lt at e h n =
    n ∙ ap (λ b. b || here) e ∙ ap (λ b. list_any test (take i xs) || b) (h ∙ ap test at) ∙ sym (any_more test xs i d lt) ∙ ap (λ k. list_any test (take k xs)) (sym (add-one i))

any_map : {X Y : Type 0} (test : Y → Bool) (f : X → Y) (xs : List X) → list_any (λ x. test (f x)) xs ≡ list_any test (map f xs)
any_map test f [] = refl
any_map test f (x ∷ xs) = ap (λ b. test (f x) || b) (any_map test f xs)

all_taken : {X : Type 0} (xs : List X) (i : ℕ) → length xs ≤ i → take i xs ≡ xs
all_taken [] zero lt = refl
all_taken [] (suc i) lt = refl
all_taken (x ∷ xs) zero lt = absurd (omega (arith, lt))
all_taken (x ∷ xs) (suc i) lt = ap (λ ys. x ∷ ys) (all_taken xs i (omega (arith, lt)))

pub any_all : {X Y : Type 0} (test : Y → Bool) (f : X → Y) (xs : List X) (i : ℕ) (found : Bool) → length xs ≤ i → found ≡ list_any (λ x. test (f x)) (take i xs)
    → found ≡ list_any test (map f xs)
any_all test f xs i found all e = e ∙ ap (list_any (λ x. test (f x))) (all_taken xs i all) ∙ any_map test f xs

-- what is answered for a panel
module _ (T : Type 0) where
  pub attach_faulty : (first : Option PanelFault) (fault : PanelFault) → first ≡ Some fault → AttachFails {T = T} first (Err fault)
  attach_faulty first fault e = inl e

  pub attach_wanting : (first : Option PanelFault) (fault : PanelFault) → first ≡ None → fault ≡ OutOfMemory → AttachFails {T = T} first (Err fault)
  attach_wanting first fault e f = inr (e, f)

  pub attach_made : (first : Option PanelFault) (panel : T) → first ≡ None → AttachFails {T = T} first (Ok panel)
  attach_made first panel e = e
