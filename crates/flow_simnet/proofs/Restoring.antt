-- Links that are restored from a state.
use Rattle.std.proofs.Common.{◌≡◌, ℕ, suc, ◌/◌, ◌%◌, List, [], ◌∷◌, ◌++◌, length, sym, ap, ◌∙◌, refl, arith}
use Rattle.std.specs.Prelude.{Bool, true, false, slice_set, replicate}
use Rattle.std.specs.declared.cmp.Ordering.TheVariants.{Less, Greater}
use Rattle.std.specs.List.{All, AllByRecursion}
use Rattle.std.specs.List.Sorted.{IsStrictlySortedBy}
use Rattle.std.specs.Map.{keys_of}
use Rattle.std.specs.Ordering.{nat_cmp, ordering_reverse}
use Rattle.std.specs.BTreeMap.{insert_entry}
use Rattle.std.proofs.lemmas.Cmp.{nat_cmp_total}
use Rattle.std.proofs.lemmas.List.{append-nil, append_assoc, set_at, length_push}
use Rattle.std.proofs.lemmas.List.Elements.{All-tail}
use Rattle.std.proofs.lemmas.Map.Keys.{sorted_head, sorted_tail}
use Rattle.flow_simnet.specs.declared.packet.Letter.{Letter}
use Rattle.flow_simnet.specs.Links.{link, cut_links, all_cut, all_on_way, packets_of, IsLinkBelow, Restores}
use Rattle.flow_simnet.proofs.Places.{at_place}

-- the place of a link that stands at its place
place_back : (n k : ℕ) → IsLinkBelow n (at_place k) → link (k / 64) (k % 64) ≡ k
place_back n k below = omega (arith, below.0)

cut_in_turn : (n place : ℕ) (pre bs : List Bool) → length pre ≡ place → All (IsLinkBelow n) (cut_links place bs)
    → all_cut (pre ++ replicate (length bs) false) (cut_links place bs) ≡ pre ++ bs
cut_in_turn n place pre [] here all = refl
cut_in_turn n place pre (true ∷ bs) here all =
    let first : IsLinkBelow n (at_place place) = all 0 (at_place place) (omega arith) in
    let rest = cut_in_turn n (suc place) (pre ++ true ∷ []) bs (omega (arith, length_push pre true, here)) (All-tail (IsLinkBelow n) (at_place place) (cut_links (suc place) bs) all) in
    ap (λ k. all_cut (slice_set (pre ++ false ∷ replicate (length bs) false) k true) (cut_links (suc place) bs)) (place_back n place first)
    ∙ ap (λ cs. all_cut cs (cut_links (suc place) bs)) (set_at pre false (replicate (length bs) false) true place here ∙ sym (append_assoc pre (true ∷ []) (replicate (length bs) false)))
    ∙ rest
    ∙ append_assoc pre (true ∷ []) bs
cut_in_turn n place pre (false ∷ bs) here all =
    let rest = cut_in_turn n (suc place) (pre ++ false ∷ []) bs (omega (arith, length_push pre false, here)) all in
    ap (λ cs. all_cut cs (cut_links (suc place) bs)) (sym (append_assoc pre (false ∷ []) (replicate (length bs) false)))
    ∙ rest
    ∙ append_assoc pre (false ∷ []) bs

-- a packet whose number is above those of all others is put behind them
put_last : (es : List (ℕ × Letter)) (k : ℕ) (l : Letter) → AllByRecursion (λ j. nat_cmp k j ≡ Greater) (keys_of es) → insert_entry nat_cmp es k l ≡ es ++ (k, l) ∷ []
put_last [] k l above = refl
put_last (e ∷ es) k l (first, rest) = rw first (ap (λ fs. e ∷ fs) (put_last es k l rest))

above_one_more : (k : ℕ) (es : List (ℕ × Letter)) (j : ℕ) (l : Letter) → AllByRecursion (λ i. nat_cmp k i ≡ Greater) (keys_of es) → nat_cmp k j ≡ Greater
    → AllByRecursion (λ i. nat_cmp k i ≡ Greater) (keys_of (es ++ (j, l) ∷ []))
above_one_more k [] j l above last = (last, tt)
above_one_more k (e ∷ es) j l (first, rest) last = (first, above_one_more k es j l rest last)

greater : (k j : ℕ) → nat_cmp j k ≡ Less → nat_cmp k j ≡ Greater
greater k j e = nat_cmp_total.antisymm k j ∙ ap ordering_reverse e

-- numbers all of which are above those of some packets
abbrev AllAbove : List (ℕ × Letter) → List (ℕ × Letter) → Type 0
AllAbove fs [] = Unit {0}
AllAbove fs (e ∷ es) = AllByRecursion (λ j. nat_cmp e.0 j ≡ Greater) (keys_of fs) × AllAbove fs es

still_above : (fs es : List (ℕ × Letter)) (k : ℕ) (l : Letter) → AllAbove fs es → AllByRecursion (λ j. nat_cmp k j ≡ Less) (keys_of es) → AllAbove (fs ++ (k, l) ∷ []) es
still_above fs [] k l above below = tt
still_above fs (e ∷ es) k l (first, rest) (here, later) = (above_one_more e.0 fs k l first (greater e.0 k here), still_above fs es k l rest later)

put_in_turn : (fs es : List (ℕ × Letter)) → IsStrictlySortedBy nat_cmp (keys_of es) → AllAbove fs es → all_on_way fs (packets_of es) ≡ fs ++ es
put_in_turn fs [] rising above = sym (append-nil fs)
put_in_turn fs (e ∷ es) rising (first, rest) =
    ap (λ gs. all_on_way gs (packets_of es)) (put_last fs e.0 e.1 first)
    ∙ put_in_turn (fs ++ e ∷ []) es (sorted_tail nat_cmp e.0 (keys_of es) rising) (still_above fs es e.0 e.1 rest (sorted_head nat_cmp e.0 (keys_of es) rising))
    ∙ append_assoc fs (e ∷ []) es

none_above : (es : List (ℕ × Letter)) → AllAbove [] es
none_above [] = tt
none_above (e ∷ es) = (tt, none_above es)

pub restores : Restores
restores net long links rising =
    (ap (λ k. all_cut (replicate k false) (cut_links 0 net.cuts)) (sym long) ∙ cut_in_turn net.processes 0 [] net.cuts refl links, put_in_turn [] net.on_way rising (none_above net.on_way))
