-- The one monitor that is wanted alone is the panel of it.
use Rattle.std.proofs.Common.{◌≡◌, ℕ, Bool, true, false, true≢false, List, [], ◌∷◌, map, refl, sym, ap, ◌∙◌, arith, Option, None, Some}
use Rattle.std.specs.Prelude.{is_some, bytes_eq, position, ◌||◌, if◌then◌else◌}
use Rattle.std.proofs.lemmas.Slice.Eq.{bytes_eq-Decides}
use Rattle.flow_monitor.specs.declared.attach.Want.{Want}
use Rattle.flow_monitor.specs.Attaching.{Handed, is_before, fault_of, is_among, want_fault, has, joined, joined_by, attached, named_from, first_named}
use Rattle.flow_monitor.specs.Ears.{Ears}
use Rattle.flow_top.specs.Requests.{alone}

abbrev pub names : List Handed → List (List ℕ)
names hs = map (λ (h : Handed). h.name) hs

abbrev place : Want → Option ℕ
place want = position (λ (w : Want). bytes_eq w.name want.name) (want ∷ [])

-- none comes before the first item
never_before : (p : Option ℕ) → is_before p 0 ≡ false
never_before None = refl
never_before (Some n) = grind arith

one_fault : (want : Want) (hs : List Handed) (p : Option ℕ) → is_some (fault_of (is_before p 0) (is_among (names hs) want.name) 0) ≡ is_some (fault_of false (is_among (names hs) want.name) 0)
one_fault want hs p = ap (λ b. is_some (fault_of b (is_among (names hs) want.name) 0)) (never_before p)

-- whether there is one of a name
stays : (name : List ℕ) (h : Handed) (hs : List Handed) → named_from name (Some h) hs ≡ Some h
stays name h [] = refl
stays name h (m ∷ ms) = stays name h ms

there_more : (name : List ℕ) (m : Handed) (ms : List Handed) (b : Bool) → is_some (named_from name None ms) ≡ is_among (names ms) name
    → is_some (named_from name (if b then Some m else None) ms) ≡ (b || is_among (names ms) name)
there_more name m ms true e = ap is_some (stays name m ms)
there_more name m ms false e = e

there : (name : List ℕ) (hs : List Handed) → is_some (first_named name hs) ≡ is_among (names hs) name
there name [] = refl
there name (m ∷ ms) = there_more name m ms (bytes_eq m.name name) (there name ms)

fault_by : (b : Bool) → is_some (fault_of false b 0) ≡ true → b ≡ false
fault_by true e = absurd (true≢false (sym e))
fault_by false e = refl

no_fault_by : (b : Bool) → b ≡ true → fault_of false b 0 ≡ None
no_fault_by true e = refl
no_fault_by false e = absurd (true≢false (sym e))

some_fault_by : (b : Bool) → b ≡ false → is_some (fault_of false b 0) ≡ true
some_fault_by true e = absurd (true≢false e)
some_fault_by false e = refl

pub is_there : (want : Want) (hs : List Handed) (h : Handed) → Some h ≡ first_named want.name hs → want_fault (names hs) (want ∷ []) ≡ None
is_there want hs h e =
    let among : is_among (names hs) want.name ≡ true = sym (there want.name hs) ∙ sym (ap is_some e) in
    ap (λ b. fault_of b (is_among (names hs) want.name) 0) (never_before (place want)) ∙ no_fault_by (is_among (names hs) want.name) among

pub is_not_there : (want : Want) (hs : List Handed) → None ≡ first_named want.name hs → is_some (want_fault (names hs) (want ∷ [])) ≡ true
is_not_there want hs e =
    let among : is_among (names hs) want.name ≡ false = sym (there want.name hs) ∙ sym (ap is_some e) in
    one_fault want hs (place want) ∙ some_fault_by (is_among (names hs) want.name) among

-- texts compare alike both ways
flipped : (a b : List ℕ) → bytes_eq a b ≡ true → bytes_eq b a ≡ true
flipped a b e = (bytes_eq-Decides b a).1 (sym ((bytes_eq-Decides a b).0 e))

compare_more : (x y : Bool) → (x ≡ true → y ≡ true) → (y ≡ true → x ≡ true) → x ≡ y
compare_more true y on back = sym (on refl)
compare_more false true on back = back refl
compare_more false false on back = refl

compared : (a b : List ℕ) → bytes_eq a b ≡ bytes_eq b a
compared a b = compare_more (bytes_eq a b) (bytes_eq b a) (flipped a b) (flipped b a)

-- once one has joined, nobody else does
module _ (want : Want) (h : Handed) where
  abbrev one : Ears
  one = alone h.name (h.begun want.limit)

  joins_no_more : (m : Handed) (b c : Bool) → b ≡ c → joined (if b || false then None else if c then Some want.limit else None) m one ≡ one
  joins_no_more m true c e = refl
  joins_no_more m false true e = absurd (true≢false (sym e))
  joins_no_more m false false e = refl

  no_more : (hs : List Handed) → bytes_eq h.name want.name ≡ true → joined_by (want ∷ []) one hs ≡ one
  no_more [] is = refl
  no_more (m ∷ ms) is =
      let same : h.name ≡ want.name = (bytes_eq-Decides h.name want.name).0 is in
      ap (λ ears. joined_by (want ∷ []) ears ms) (joins_no_more m (bytes_eq h.name m.name) (bytes_eq want.name m.name) (ap (λ n. bytes_eq n m.name) same)) ∙ no_more ms is

-- it is the panel of the first of that name
module _ (want : Want) where
  joins_first : (h m : Handed) (ms : List Handed) (b : Bool) → bytes_eq m.name want.name ≡ b → (Some h ≡ named_from want.name None ms → joined_by (want ∷ []) [] ms ≡ alone h.name (h.begun want.limit))
      → Some h ≡ named_from want.name (if b then Some m else None) ms
      → joined_by (want ∷ []) (joined (if b then Some want.limit else None) m []) ms ≡ alone h.name (h.begun want.limit)
  joins_first h m ms true is later e =
      let found : Some h ≡ Some m = e ∙ stays want.name m ms in
      no_more want m ms is ∙ ap (λ (x : Handed). alone x.name (x.begun want.limit)) (sym (some_same found))
    where
      some_same : {x y : Handed} → Some x ≡ Some y → x ≡ y
      some_same k = cc
  joins_first h m ms false is later e = later e

  pub panel_of : (h : Handed) (hs : List Handed) → Some h ≡ first_named want.name hs → attached (want ∷ []) hs ≡ alone h.name (h.begun want.limit)
  panel_of h [] e = absurd (cc)
  panel_of h (m ∷ ms) e =
      ap (λ b. joined_by (want ∷ []) (joined (if b then Some want.limit else None) m []) ms) (compared want.name m.name)
      ∙ joins_first h m ms (bytes_eq m.name want.name) refl (panel_of h ms) e
