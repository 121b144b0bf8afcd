-- Bytes told that grow.
use Rattle.std.proofs.Common.{◌≡◌, ℕ, ◌+◌, List, ◌++◌, length, take, refl, sym, ap, ◌∙◌, Option, None, Some, take_all, take_at, le_refl, append_assoc, take-append-drop}
use Rattle.std.specs.Prelude.{drop}
use Rattle.std.specs.Io.KnownBytes.{Appends, Keeps}
use Rattle.flow_base.specs.Bytes.{Grows}

pub grows_same : (a : Option (List ℕ)) → Grows a a
grows_same None = tt
grows_same (Some xs) = ap Some (take_all (length xs) xs (le_refl _))

pub grows_by : (a b : Option (List ℕ)) (bytes : List ℕ) → Appends a b bytes → Grows a b
grows_by None b bytes p = tt
grows_by (Some xs) None bytes p = elim p [ ]
grows_by (Some xs) (Some ys) bytes p = ap Some (ap (take (length xs)) p ∙ take_at xs bytes (length xs) refl)

-- what grew by as many bytes as there are behind
appended : (xs ys : List ℕ) → take (length xs) ys ≡ xs → ys ≡ xs ++ drop (length xs) ys
appended xs ys e = sym (take-append-drop (length xs) ys) ∙ ap (λ front. front ++ drop (length xs) ys) e

unwrapped : {xs ys : List ℕ} → Some xs ≡ Some ys → xs ≡ ys
unwrapped p = cc

pub grows_trans : (a b c : Option (List ℕ)) → Grows a b → Grows b c → Grows a c
grows_trans None b c p q = tt
grows_trans (Some xs) None c p q = cc
grows_trans (Some xs) (Some ys) None p q = cc
grows_trans (Some xs) (Some ys) (Some zs) p q =
    let first : ys ≡ xs ++ drop (length xs) ys = appended xs ys (unwrapped p) in
    let then : zs ≡ ys ++ drop (length ys) zs = appended ys zs (unwrapped q) in
    let both = then ∙ ap (λ l. l ++ drop (length ys) zs) first ∙ append_assoc xs (drop (length xs) ys) (drop (length ys) zs) in
    ap Some (ap (take (length xs)) both ∙ take_at xs (drop (length xs) ys ++ drop (length ys) zs) (length xs) refl)

pub grows_kept : (a b c : Option (List ℕ)) → Grows a b → Keeps b c → Grows a c
grows_kept None b c p kept = tt
grows_kept (Some xs) None c p kept = cc
grows_kept (Some xs) (Some ys) None p kept = elim kept [ ]
grows_kept (Some xs) (Some ys) (Some zs) p kept = ap (λ l. Some (take (length xs) l)) kept ∙ p
