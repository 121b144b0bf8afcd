-- The places of fields by the numbers of their names.
use Rattle.std.proofs.Common.{◌≡◌, ℕ, zero, suc, ◌<◌, ◌≤◌, List, [], ◌∷◌, length, get_or, position, nat_eq, refl, arith}
use Rattle.std.specs.declared.alloc.Global.{Global}
use Rattle.std.specs.declared.option.Option.TheVariants.{None}
use Rattle.std.specs.declared.vec.Vec.{Vec}
use Rattle.flow_code.specs.Resolved.View.{place_in}

pub place_there : (rs : List (Vec ℕ Global)) (k f : ℕ) (d : Vec ℕ Global) → k < length rs → place_in rs k f ≡ position (λ n. nat_eq n f) (get_or rs k d).items
place_there [] k f d lt = absurd (omega arith)
place_there (r ∷ rs) zero f d lt = refl
place_there (r ∷ rs) (suc k) f d lt = let lt' : k < length rs = omega arith in place_there rs k f d lt'

pub place_past : (rs : List (Vec ℕ Global)) (k f : ℕ) → length rs ≤ k → place_in rs k f ≡ None
place_past [] k f le = refl
place_past (r ∷ rs) zero f le = absurd (omega arith)
place_past (r ∷ rs) (suc k) f le = let le' : length rs ≤ k = omega arith in place_past rs k f le'
