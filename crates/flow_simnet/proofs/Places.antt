-- The places of links in the table.
use Rattle.std.proofs.Common.{ℕ, zero, suc, ◌+◌, ◌/◌, ◌%◌, ◌<◌, ◌≤◌, List, [], ◌∷◌, subst, arith}
use Rattle.std.specs.Prelude.{Bool, true, false, slice_set, replicate}
use Rattle.std.specs.List.{All}
use Rattle.std.proofs.lemmas.List.Elements.{All-cons, All-tail}
use Rattle.flow_base.specs.declared.ids.ProcId.{ProcId}
use Rattle.flow_simnet.specs.Links.{link, cut_links, IsLinkBelow, AreBelow}

abbrev pub at_place : ℕ → ProcId × ProcId
at_place k = (record { 0 = k / 64 }, record { 0 = k % 64 })

-- a further link that is cut
pub cut_more : (n place i : ℕ) (bs : List Bool) → IsLinkBelow n (at_place (place + i)) → All (IsLinkBelow n) (cut_links place bs)
    → All (IsLinkBelow n) (cut_links place (slice_set bs i true))
cut_more n place i [] new all = all
cut_more n place zero (true ∷ bs) new all = all
cut_more n place zero (false ∷ bs) new all = All-cons (IsLinkBelow n) (at_place place) (cut_links (suc place) bs) (subst (λ k. IsLinkBelow n (at_place k)) (omega arith) new) all
cut_more n place (suc i) (true ∷ bs) new all =
    let first : IsLinkBelow n (at_place place) = all 0 (at_place place) (omega arith) in
    let next : IsLinkBelow n (at_place (suc place + i)) = subst (λ k. IsLinkBelow n (at_place k)) (omega arith) new in
    All-cons (IsLinkBelow n) (at_place place) _ first (cut_more n (suc place) i bs next (All-tail (IsLinkBelow n) (at_place place) (cut_links (suc place) bs) all))
cut_more n place (suc i) (false ∷ bs) new all =
    let next : IsLinkBelow n (at_place (suc place + i)) = subst (λ k. IsLinkBelow n (at_place k)) (omega arith) new in
    cut_more n (suc place) i bs next all

-- one link fewer
pub cut_less : (n place i : ℕ) (bs : List Bool) → All (IsLinkBelow n) (cut_links place bs) → All (IsLinkBelow n) (cut_links place (slice_set bs i false))
cut_less n place i [] all = all
cut_less n place zero (true ∷ bs) all = All-tail (IsLinkBelow n) (at_place place) (cut_links (suc place) bs) all
cut_less n place zero (false ∷ bs) all = all
cut_less n place (suc i) (true ∷ bs) all =
    let first : IsLinkBelow n (at_place place) = all 0 (at_place place) (omega arith) in
    All-cons (IsLinkBelow n) (at_place place) _ first (cut_less n (suc place) i bs (All-tail (IsLinkBelow n) (at_place place) (cut_links (suc place) bs) all))
cut_less n place (suc i) (false ∷ bs) all = cut_less n (suc place) i bs all

-- no link of a new table is cut
pub none_cut : (n place k : ℕ) → All (IsLinkBelow n) (cut_links place (replicate k false))
none_cut n place zero i d lt = absurd (omega (arith, lt))
none_cut n place (suc k) i d lt = none_cut n (suc place) k i d lt

-- the place of a link says its processes
pub links_place : (n p q : ℕ) → p < n → q < n → n ≤ 64 → IsLinkBelow n (at_place (0 + link p q))
links_place n p q low high few = (omega arith, omega arith)

pub below_each : (n : ℕ) (links : List (ProcId × ProcId)) → All (IsLinkBelow n) links → AreBelow n links
below_each n links all k d lt = (omega (arith, (all k d lt).0, (all k d lt).1), (all k d lt).1)
