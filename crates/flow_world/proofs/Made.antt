-- What a world is made of that goes on from a state, made one by one.
use Rattle.std.proofs.Common.{◌≡◌, ◌<◌, ℕ, suc, ◌+◌, List, [], ◌∷◌, ◌++◌, length, take, drop, get_or, if◌then◌else◌, refl, sym, ap, ◌∙◌, subst, arith}
use Rattle.std.specs.List.{All, AllByRecursion}
use Rattle.std.specs.declared.option.Option.TheVariants.{None, Some}
use Rattle.std.proofs.lemmas.List.{drop_more, take_more, take-append-drop, map_push}
use Rattle.std.proofs.lemmas.List.Elements.{All-from_recursion}
use Rattle.flow_base.specs.declared.ids.CellId.{CellId}
use Rattle.flow_simdisk.specs.declared.state.FileState.{FileState}
use Rattle.flow_simdisk.specs.Stored.{CanRestore, files_in}
use Rattle.flow_numbered.specs.Numbered.{thing, added}
use Rattle.flow_meaning.specs.Dropping.{port_of}
use Rattle.flow_meaning.proofs.Posture.{other_number}
use Rattle.flow_saved.specs.CanResume.{PortsOnce, IsStored}
use Rattle.flow_saved.specs.Saved.{SavedProcess}
use Rattle.flow_world.specs.declared.place.Place.{Place}
use Rattle.flow_world.specs.Resuming.{PlaceMade, PlacesMade}
use Rattle.flow_world.specs.Saving.{numbers_of}

-- what holds of all holds of one among them
among : {A : Type 0} (P : A → Type 0) (xs : List A) (x : A) (ys : List A) → AllByRecursion P (xs ++ x ∷ ys) → P x
among P [] x ys h = h.0
among P (y ∷ xs) x ys h = among P xs x ys h.1

-- a port and a stream that come once aren't among those before
port_apart : (xs : List (ℕ × CellId)) (x : ℕ × CellId) (ys : List (ℕ × CellId)) → PortsOnce (xs ++ x ∷ ys) → thing (numbers_of xs) x.0 ≡ None
port_apart [] x ys h = refl
port_apart (y ∷ xs) x ys h =
    ap (λ t. if t then Some y.1.0 else thing (numbers_of xs) x.0) (other_number y.0 x.0 (among _ xs x ys h.0).0) ∙ port_apart xs x ys h.1

stream_apart : (xs : List (ℕ × CellId)) (x : ℕ × CellId) (ys : List (ℕ × CellId)) → PortsOnce (xs ++ x ∷ ys) → port_of x.1.0 (numbers_of xs) ≡ None
stream_apart [] x ys h = refl
stream_apart (y ∷ xs) x ys h =
    ap (λ t. if t then Some y.0 else port_of x.1.0 (numbers_of xs)) (other_number y.1.0 x.1.0 (among _ xs x ys h.0).1) ∙ stream_apart xs x ys h.1

-- one more port that is listened at, of those that come once
pub port_more :
    (P : List (ℕ × ℕ) → Type 0) (xs : List (ℕ × CellId)) (i : ℕ) (d : ℕ × CellId) → i < length xs → PortsOnce xs
    → (thing (numbers_of (take i xs)) (get_or xs i d).0 ≡ None → port_of (get_or xs i d).1.0 (numbers_of (take i xs)) ≡ None
    → P (added (numbers_of (take i xs)) (get_or xs i d).0 (get_or xs i d).1.0))
    → P (numbers_of (take (i + 1) xs))
port_more P xs i d lt once h =
    let x : ℕ × CellId = get_or xs i d in
    let parts : take i xs ++ x ∷ drop (i + 1) xs ≡ xs = ap (λ ys. take i xs ++ ys) (sym (drop_more xs i d lt)) ∙ take-append-drop i xs in
    let apart = subst PortsOnce (sym parts) once in
    subst P (sym (ap numbers_of (take_more xs i d lt) ∙ map_push (λ z. (z.0, z.1.0)) (take i xs) x))
    (h (port_apart (take i xs) x (drop (i + 1) xs) apart) (stream_apart (take i xs) x (drop (i + 1) xs) apart))

-- files that can be stored can be made again
files_stored : (ss : List FileState) → AllByRecursion (λ f. IsStored f.1) (files_in ss) → AllByRecursion CanRestore ss
files_stored [] h = tt
files_stored (s ∷ ss) h = (record { durable_fits = h.0.durable_fits; writes_fit = h.0.writes_fit; there = h.0.there }, files_stored ss h.1)

pub can_restore : (ss : List FileState) → AllByRecursion (λ f. IsStored f.1) (files_in ss) → All CanRestore ss
can_restore ss h = All-from_recursion CanRestore ss (files_stored ss h)

-- one more process
pub place_more : (n k : ℕ) (ss : List SavedProcess) (ats : List Place) (s : SavedProcess) (at : Place) → PlacesMade n k ss ats → PlaceMade n (k + length ss) s at
    → PlacesMade n k (ss ++ s ∷ []) (ats ++ at ∷ [])
place_more n k [] [] s at h one = let e : k + 0 ≡ k = omega arith in (subst (λ m. PlaceMade n m s at) e one, tt)
place_more n k [] (x ∷ ats) s at h one = absurd h
place_more n k (y ∷ ss) [] s at h one = absurd h
place_more n k (y ∷ ss) (x ∷ ats) s at h one =
    let e : k + length (y ∷ ss) ≡ suc k + length ss = omega arith in
    (h.0, place_more n (suc k) ss ats s at h.1 (subst (λ m. PlaceMade n m s at) e one))
