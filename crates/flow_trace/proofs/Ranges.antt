-- Bytes of a slice are below 256.
use Rattle.std.proofs.Common.{ℕ, suc, ◌<◌, ◌^◌, List, [], ◌∷◌, get_or, Fits, w8, arith}
use Rattle.std.specs.List.{AllByRecursion}

pub bytes_of_slice : (bytes : List ℕ) → ((k : ℕ) → Fits w8 (get_or bytes k 0)) → AllByRecursion (λ b. b < 2 ^ 8) bytes
bytes_of_slice [] each = tt
bytes_of_slice (b ∷ bs) each = (omega (arith, each 0), bytes_of_slice bs (λ k. each (suc k)))
