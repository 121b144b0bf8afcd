-- Frames that become others, and places that are emptied.
use Rattle.std.proofs.Common.{◌≡◌, ℕ, zero, suc, ◌+◌, ◌-◌, ◌<◌, ◌≤◌, Bool, true, false, List, [], ◌∷◌, ◌++◌, length, drop, get_or, set, refl, ap, sym, ◌∙◌, if◌then◌else◌, ltb, arith}
use Rattle.std.proofs.lemmas.Bool.{false≢true}
use Rattle.std.proofs.lemmas.Bool.Decides.{nat_tests}
use Rattle.std.proofs.lemmas.List.{append_assoc, drop_more, set-get_or, set-set, get_or_past}
use Rattle.std.specs.Option.{IsSome, ForSome}
use Rattle.std.specs.declared.option.Option.{Option}
use Rattle.std.specs.declared.option.Option.TheVariants.{None, Some}
use Rattle.flow_value.specs.declared.value.Value.{Value}
use Rattle.flow_numbered.specs.Numbered.{Store, thing, with_thing}
use Rattle.flow_numbered.proofs.Things.{with_same}
use Rattle.flow_frame.specs.Frames.{FrameTree, IsFilled, held_in, with_place}
use Rattle.flow_cancel.specs.Heap.{HeapTree}
use Rattle.flow_cancel.proofs.Puts.{found_put, put_twice}
use Rattle.flow_steps.specs.Points.{reframed, with_frame, place_held, place_put, place_lost, places_lost, referring, places_taken, places_emptied, losing_from, lost_from}
use Rattle.flow_steps.proofs.Sights.{held_same}

-- the frame of an actor that has one
pub frame_changed : (g : FrameTree Value → FrameTree Value) (i : ℕ) (h : HeapTree) (new : Store (FrameTree Value)) → IsSome (thing h.frames.things i)
    → ForSome (thing h.frames.things i) (λ f. new ≡ with_thing h.frames i (g f))
    → record h { frames = new } ≡ with_frame g i h
frame_changed g i h new is q = by (thing h.frames.things i) is q
  where
    by : (o : Option (FrameTree Value)) → IsSome o → ForSome o (λ f. new ≡ with_thing h.frames i (g f)) → record h { frames = new } ≡ reframed g i o h
    by (Some f) is q = ap (λ s. record h { frames = s }) (q f refl)
    by None is q = absurd (false≢true is)

-- places from one on
abbrev pub emptied_after : (actor : ℕ) → List ℕ → (done : ℕ) → HeapTree → HeapTree
emptied_after i ns k h = places_emptied i (drop k ns) h

abbrev pub taken_after : (actor : ℕ) → List ℕ → (done : ℕ) → List Value → HeapTree → List Value
taken_after i ns k vs h = vs ++ places_taken i (drop k ns) h

pub one_emptied : (i : ℕ) (ns : List ℕ) (k d : ℕ) (h : HeapTree) → k < length ns
    → emptied_after i ns (k + 1) (place_put i (get_or ns k d) None h) ≡ emptied_after i ns k h
one_emptied i ns k d h lt = ap (λ l. places_emptied i l h) (sym (drop_more ns k d lt))

pub one_taken : (i : ℕ) (ns : List ℕ) (k d : ℕ) (vs : List Value) (h : HeapTree) → k < length ns
    → taken_after i ns (k + 1) (vs ++ referring (place_held i (get_or ns k d) h)) (place_put i (get_or ns k d) None h) ≡ taken_after i ns k vs h
one_taken i ns k d vs h lt =
    append_assoc vs (referring (place_held i (get_or ns k d) h)) (places_taken i (drop (k + 1) ns) (place_put i (get_or ns k d) None h))
    ∙ ap (λ l. vs ++ places_taken i l h) (sym (drop_more ns k d lt))

-- what a place holds that holds nothing
empty_at : (xs : List (Option Value)) (n : ℕ) → (if ltb n (length xs) then get_or xs n None else None) ≡ None → get_or xs n None ≡ None
empty_at xs n e = by (ltb n (length xs)) refl e
  where
    by : (b : Bool) → ltb n (length xs) ≡ b → (if b then get_or xs n None else None) ≡ None → get_or xs n None ≡ None
    by true is e = e
    by false is e = let past : length xs ≤ n = grind (arith, nat_tests, is) in get_or_past xs n None past

nothing_if : (b : Bool) (o : Option Value) → o ≡ None → (if b then o else None) ≡ None
nothing_if true o e = e
nothing_if false o e = refl

-- an empty place that is emptied stays as it is
empty_again : (xs : List (Option Value)) (n : ℕ) → (if ltb n (length xs) then get_or xs n None else None) ≡ None → set xs n None ≡ xs
empty_again xs n e = ap (set xs n) (sym (empty_at xs n e)) ∙ set-get_or xs n None

pub put_none : (i n : ℕ) (h : HeapTree) → place_held i n h ≡ None → place_put i n None h ≡ h
put_none i n h e = by (thing h.frames.things i) refl e
  where
    by : (o : Option (FrameTree Value)) → thing h.frames.things i ≡ o → held_in n o ≡ None → reframed (λ f. with_place f n None) i o h ≡ h
    by None is e = refl
    by (Some f) is e =
        ap (λ l. record h { frames = with_thing h.frames i (record f { places = l }) }) (empty_again f.places n e)
        ∙ ap (λ s. record h { frames = s }) (with_same h.frames i f is)

pub lost_none : (i n : ℕ) (h : HeapTree) → place_held i n h ≡ None → place_lost i n h ≡ h
lost_none i n h e = rw e (put_none i n h e)

-- a place that is emptied leaves the empty ones empty
still_none : (xs : List (Option Value)) (n k : ℕ) → get_or xs k None ≡ None → get_or (set xs n None) k None ≡ None
still_none [] n k e = e
still_none (x ∷ xs) zero zero e = refl
still_none (x ∷ xs) zero (suc k) e = e
still_none (x ∷ xs) (suc n) zero e = e
still_none (x ∷ xs) (suc n) (suc k) e = still_none xs n k e

still : (xs : List (Option Value)) (n k : ℕ) → (if ltb k (length xs) then get_or xs k None else None) ≡ None
    → (if ltb k (length (set xs n None)) then get_or (set xs n None) k None else None) ≡ None
still xs n k e = nothing_if (ltb k (length (set xs n None))) (get_or (set xs n None) k None) (still_none xs n k (empty_at xs k e))

pub still_empty : (i n k : ℕ) (h : HeapTree) → place_held i k h ≡ None → place_held i k (place_lost i n h) ≡ None
still_empty i n k h e = by (thing h.frames.things i) refl e
  where
    by : (o : Option (FrameTree Value)) → thing h.frames.things i ≡ o → held_in k o ≡ None
        → held_in k (thing (reframed (λ f. with_place f n None) i o h).frames.things i) ≡ None
    by None is e = ap (held_in k) is
    by (Some f) is e = ap (held_in k) (found_put h.frames.things i f (with_place f n None) is) ∙ still f.places n k e

-- nothing is lost where all is empty
pub behind_lost : (i n m : ℕ) (h : HeapTree) → ((k : ℕ) → n ≤ k → place_held i k h ≡ None) → places_lost i n m h ≡ h
behind_lost i n zero h e = refl
behind_lost i n (suc m) h e =
    let here : n ≤ n = omega arith in
    ap (places_lost i (suc n) m) (lost_none i n h (e n here)) ∙ behind_lost i (suc n) m h (λ k le. let le' : n ≤ k = omega arith in e k le')

pub lost_further : (i n m r : ℕ) (h : HeapTree) → places_lost i n (m + r) h ≡ places_lost i (n + m) r (places_lost i n m h)
lost_further i n zero r h =
    let none : 0 + r ≡ r = omega arith in
    let same : n ≡ n + 0 = omega arith in
    ap (λ t. places_lost i n t h) none ∙ ap (λ a. places_lost i a r h) same
lost_further i n (suc m) r h =
    let one : suc m + r ≡ suc (m + r) = omega arith in
    let same : suc n + m ≡ n + suc m = omega arith in
    ap (λ t. places_lost i n t h) one
    ∙ lost_further i (suc n) m r (place_lost i n h)
    ∙ ap (λ a. places_lost i a r (places_lost i (suc n) m (place_lost i n h))) same

-- a place that gets something after something else
pub put_anew : (i n : ℕ) (v w : Option Value) (h : HeapTree) → place_put i n v (place_put i n w h) ≡ place_put i n v h
put_anew i n v w h = by (thing h.frames.things i) refl
  where
    by : (o : Option (FrameTree Value)) → thing h.frames.things i ≡ o
        → place_put i n v (reframed (λ f. with_place f n w) i o h) ≡ reframed (λ f. with_place f n v) i o h
    by None is = ap (λ o. reframed (λ f. with_place f n v) i o h) is
    by (Some f) is =
        ap (λ o. reframed (λ g. with_place g n v) i o (reframed (λ g. with_place g n w) i (Some f) h)) (found_put h.frames.things i f (with_place f n w) is)
        ∙ ap (λ xs. record h { frames = record h.frames { things = xs } }) (put_twice h.frames.things i (with_place f n w) (with_place (with_place f n w) n v))
        ∙ ap (λ l. record h { frames = with_thing h.frames i (record f { places = l }) }) (set-set f.places n w v)

-- the places from one on, of which those behind the last that is filled hold nothing
pub lost_all : (i first last : ℕ) (f : FrameTree Value) (h g : HeapTree) → thing h.frames.things i ≡ Some f → last ≤ length f.places
    → g ≡ places_lost i first (last - first) h → ((k : ℕ) → last ≤ k → place_held i k g ≡ None) → g ≡ lost_from i first h
lost_all i first last f h g at le e behind =
    let count : (last - first) + ((length f.places - first) - (last - first)) ≡ length f.places - first = omega arith in
    let rest = (length f.places - first) - (last - first) in
    e
    ∙ sym (behind_lost i (first + (last - first)) rest (places_lost i first (last - first) h)
    (λ k past. let past' : last ≤ k = omega arith in ap (place_held i k) (sym e) ∙ behind k past'))
    ∙ sym (lost_further i first (last - first) rest h)
    ∙ ap (λ m. places_lost i first m h) count
    ∙ ap (λ o. losing_from i first o h) (sym at)

pub filled_behind : (o : Option (FrameTree Value)) (xs : List (Option Value)) (k : ℕ) → IsFilled o xs → length xs ≤ k → held_in k o ≡ None
filled_behind o xs k e le = sym (held_same o xs k e) ∙ get_or_past xs k None le

-- one place more
pub lost_one : (i place last : ℕ) (h : HeapTree) → place < last → places_lost i (place + 1) (last - (place + 1)) (place_lost i place h) ≡ places_lost i place (last - place) h
lost_one i place last h lt =
    let more : suc (last - (place + 1)) ≡ last - place = omega arith in
    let next : place + 1 ≡ suc place = omega arith in
    ap (λ n. places_lost i n (last - (place + 1)) (place_lost i place h)) next ∙ ap (λ m. places_lost i place m h) more

pub lost_end : (i first last place : ℕ) (xs : List (Option Value)) (h g : HeapTree) → IsSome (thing h.frames.things i) → IsFilled (thing h.frames.things i) xs → last ≡ length xs → last ≤ place
    → places_lost i place (last - place) g ≡ places_lost i first (last - first) h → ((k : ℕ) → last ≤ k → place_held i k g ≡ None) → g ≡ lost_from i first h
lost_end i first last place xs h g there filled count le inv behind =
    let none : last - place ≡ 0 = omega (arith, le) in
    let is : g ≡ places_lost i first (last - first) h = sym (ap (λ m. places_lost i place m g) none) ∙ inv in
    by (thing h.frames.things i) refl there filled is
  where
    by : (o : Option (FrameTree Value)) → thing h.frames.things i ≡ o → IsSome o → IsFilled o xs → g ≡ places_lost i first (last - first) h → g ≡ lost_from i first h
    by (Some f) at s e is = let within : last ≤ length f.places = omega (arith, count, e.1) in lost_all i first last f h g at within is behind
    by None at s e is = absurd (false≢true s)
