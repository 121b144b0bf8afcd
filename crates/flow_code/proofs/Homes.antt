-- The homes of groups, block by block.
use Rattle.std.proofs.Common.{◌≡◌, ℕ, suc, ◌+◌, ◌<◌, ◌≤◌, List, map, drop, get_or, length, sym, ap, ◌∙◌, add-one}
use Rattle.flow_class.specs.declared.class.Block.{Block}
use Rattle.flow_class.specs.View as text
use Rattle.std.proofs.lemmas.List.{drop_all}
use Rattle.flow_code.proofs.Resolved.Maps.{drop_more}
use Rattle.flow_code.specs.Coding.{home_noted, homes_from}

pub homes_step : (bs : List Block) (i : ℕ) (d : Block) (old new all : List ℕ) → i < length bs
    → new ≡ home_noted (text.last_of (get_or bs i d).last) i old
    → homes_from i (map text.block_of (drop i bs)) old ≡ all
    → homes_from (i + 1) (map text.block_of (drop (i + 1) bs)) new ≡ all
homes_step bs i d old new all lt put inv =
    rw add-one
    (ap (homes_from (suc i) (map text.block_of (drop (suc i) bs))) put
    ∙ ap (λ l. homes_from i (map text.block_of l) old) (sym (drop_more bs i d lt))
    ∙ inv)

pub homes_end : (bs : List Block) (i : ℕ) (old all : List ℕ) → length bs ≤ i → homes_from i (map text.block_of (drop i bs)) old ≡ all → old ≡ all
homes_end bs i old all le inv = ap (λ l. homes_from i (map text.block_of l) old) (sym (drop_all i bs le)) ∙ inv
