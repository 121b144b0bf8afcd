-- Steps of the loops over a text's bytes.
use Rattle.std.proofs.Common.{◌≡◌, ℕ, ◌+◌, ◌≤◌, ◌<◌, List, [], ◌∷◌, ◌++◌, length, take, drop, get_or, refl, sym, ap, ◌∙◌, arith, append_assoc, Bool, true, false, cond, Option, Some, None}
use Rattle.std.specs.Option.{option_map}
use Rattle.std.proofs.lemmas.List.{take_more, drop_more, drop_all}
use Rattle.flow_base.specs.declared.place.Place.{Place}
use Rattle.flow_tree.specs.Spelling.{begins_close, close_position}
use Rattle.flow_tree.specs.Lexing.{place_after}

map_map : (o : Option ℕ) (k : ℕ) → option_map (λ n. k + n) (option_map (λ n. n + 1) o) ≡ option_map (λ n. (k + 1) + n) o
map_map None k = refl
map_map (Some n) k = ap Some (omega arith)

-- where the byte at k closes nothing, the first close is the first one from the next byte on
pub close_step : (text : List ℕ) (k : ℕ) → k < length text → begins_close (drop k text) ≡ false
    → close_position text ≡ option_map (λ n. k + n) (close_position (drop k text))
    → close_position text ≡ option_map (λ n. (k + 1) + n) (close_position (drop (k + 1) text))
close_step text k lt shut is =
    let e = drop_more text k 0 lt in
    let shut' : begins_close (get_or text k 0 ∷ drop (k + 1) text) ≡ false = ap begins_close (sym e) ∙ shut in
    is ∙ ap (λ l. option_map (λ n. k + n) (close_position l)) e
    ∙ ap (λ b. option_map (λ n. k + n) (cond b (Some 0) (option_map (λ n. n + 1) (close_position (drop (k + 1) text))))) shut'
    ∙ map_map (close_position (drop (k + 1) text)) k

within_by : (here : Bool) (later : Option ℕ) (l k : ℕ) → 0 < l → ((m : ℕ) → later ≡ Some m → m + 2 ≤ l)
    → cond here (Some 0) (option_map (λ n. n + 1) later) ≡ Some k → k + 2 ≤ l + 1
within_by true later l k some rest h = let z : 0 ≡ k = cc in omega arith
within_by false None l k some rest h = cc
within_by false (Some m) l k some rest h = let z : m + 1 ≡ k = cc in omega (arith, rest m refl)

-- the first close has room for its two bytes
pub close_within : (text : List ℕ) (k : ℕ) → close_position text ≡ Some k → k + 2 ≤ length text
close_within [] k h = cc
close_within (b ∷ []) k h = cc
close_within (b ∷ c ∷ w) k h =
    omega (arith, within_by (begins_close (b ∷ (c ∷ w))) (close_position (c ∷ w)) (length (c ∷ w)) k (omega arith) (λ m e. close_within (c ∷ w) m e) h)

pub close_here : (text : List ℕ) (k : ℕ) → k < length text → begins_close (drop k text) ≡ true
    → close_position text ≡ option_map (λ n. k + n) (close_position (drop k text)) → close_position text ≡ Some k
close_here text k lt shut is =
    let e = drop_more text k 0 lt in
    let shut' : begins_close (get_or text k 0 ∷ drop (k + 1) text) ≡ true = ap begins_close (sym e) ∙ shut in
    is ∙ ap (λ l. option_map (λ n. k + n) (close_position l)) e
    ∙ ap (λ b. option_map (λ n. k + n) (cond b (Some 0) (option_map (λ n. n + 1) (close_position (drop (k + 1) text))))) shut'
    ∙ ap Some (omega arith)

-- past the last byte nothing is closed
pub close_none : (text : List ℕ) (k : ℕ) → length text ≤ k → close_position text ≡ option_map (λ n. k + n) (close_position (drop k text)) → None ≡ close_position text
close_none text k le is = sym (is ∙ ap (λ l. option_map (λ n. k + n) (close_position l)) (drop_all k text le))

-- one more byte of a text leads one byte on
pub past_step : (at p q : Place) (bytes : List ℕ) (i : ℕ) → i < length bytes
    → ((before : List ℕ) → at ≡ place_after before → p ≡ place_after (before ++ take i bytes))
    → ((before : List ℕ) → p ≡ place_after before → q ≡ place_after (before ++ get_or bytes i 0 ∷ []))
    → (before : List ℕ) → at ≡ place_after before → q ≡ place_after (before ++ take (i + 1) bytes)
past_step at p q bytes i lt one more before e =
    more (before ++ take i bytes) (one before e)
    ∙ ap place_after (append_assoc before (take i bytes) (get_or bytes i 0 ∷ []) ∙ ap (λ l. before ++ l) (sym (take_more bytes i 0 lt)))
