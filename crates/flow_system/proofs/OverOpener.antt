-- Files over what opens them.
use Rattle.std.proofs.Common.{◌≡◌, ℕ, ◌<◌, List, [], length, map, set, get_or, sym, subst, ap, ◌∙◌, arith, get_or-set_same, Option, Result, Ok, Err, append-nil}
use Rattle.std.proofs.lemmas.List.{length-map, get_or-map, map-set}
use Rattle.std.specs.Io.KnownBytes.{Consumes, Keeps}
use Rattle.std.proofs.KnownBytes.{Consumes-nil, Consumes-kept}
use Rattle.std.specs.Prelude.{OnErr}
use Rattle.flow_system.specs.Opened.{Advances}
use Rattle.flow_base.specs.Seen.{Missing, Opening, just_opened, read_on, opening_at, ReadsOn}

no_opening : Opening
no_opening = just_opened [] Missing

-- where one of the files that were opened advances, its opening reads on
pub advances_at : {X : Type 0} (f : X → Opening) (xs : List X) (k : ℕ) (d o x : X) (bytes : List ℕ) → k < length (map f xs) → o ≡ get_or xs k d
    → Advances (f o) (f x) bytes → ReadsOn (map f xs) (map f (set xs k x)) k bytes
unfolding no_opening
advances_at f xs k d o x bytes within was advances =
    let lt : k < length xs = omega (arith, within, length-map xs f) in
    let here : opening_at (map f xs) k ≡ f o = get_or-map f xs k d no_opening lt ∙ ap f (sym was) in
    record {
      left = advances.left;
      consumes = subst (λ (o : Opening). Consumes o.left advances.left bytes) (sym here) advances.consumes;
      openings = map-set f xs k x ∙ ap (set (map f xs) k) (advances.is ∙ ap (λ o. read_on o bytes advances.left) (sym here));
    }

-- its opening then
pub opened_then : {X : Type 0} (f : X → Opening) (xs : List X) (k : ℕ) (x : X) → k < length (map f xs) → opening_at (map f (set xs k x)) k ≡ f x
unfolding no_opening
opened_then f xs k x lt = ap (λ l. opening_at l k) (map-set f xs k x) ∙ get_or-set_same (map f xs) k (f x) no_opening lt

-- a file whose bytes stay, and of which nothing was read, advances by nothing
pub advances_none : (name read read' : List ℕ) (a b : Option (List ℕ)) → read' ≡ read → Keeps a b
    → Advances (record { name = name; read = read; left = a }) (record { name = name; read = read'; left = b }) []
advances_none name read read' a b same kept = record {
  left = b;
  consumes = Consumes-kept a a b [] (Consumes-nil a) kept;
  is = ap (λ (bytes : List ℕ). record { name = name; read = bytes; left = b }) (same ∙ sym (append-nil read));
}

pub on_err : {T E P : Type 0} (answer : Result T E) → P → OnErr answer P
on_err (Ok value) p = tt
on_err (Err fault) p = p
