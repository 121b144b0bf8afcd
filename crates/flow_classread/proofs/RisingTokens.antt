-- The tokens of a text stand one behind another, and there are no more than bytes.
use Rattle.std.proofs.Common.{ℕ, zero, suc, ◌+◌, ◌≤◌, ◌<◌, ◌^◌, List, [], ◌∷◌, length, take, sym, ap, subst, arith, length-append}
use Rattle.std.specs.Prelude.{unwrap_or, slice_get}
use Rattle.std.specs.Option.{option_map}
use Rattle.flow_base.specs.declared.place.Place.{Place}
use Rattle.flow_tree.specs.declared.token.Spot.{Spot}
use Rattle.flow_tree.specs.declared.token.Token.{Token}
use Rattle.flow_tree.specs.declared.token.Tokens.{Tokens}
use Rattle.flow_tree.specs.Spelling.{Spells, gap_length}
use Rattle.flow_tree.specs.Lexing.{TokenAt, ReadsTokens, here, gap, token, Lexes}
use Rattle.flow_lex.proofs.Bytes.{no_spelling}
use Rattle.flow_classread.specs.Rising.{AreRising}

-- tokens that stand one behind another, from one byte on, up to another
abbrev Climbs : (from : ℕ) → List Spot → (to : ℕ) → Type 0
Climbs from [] to = from ≤ to
Climbs from (s ∷ spots) to = (from ≤ s.at.byte) × Climbs (suc s.at.byte) spots to

earlier : (a b : ℕ) (spots : List Spot) (to : ℕ) → a ≤ b → Climbs b spots to → Climbs a spots to
earlier a b [] to h c = omega (arith, h, c)
earlier a b (s ∷ spots) to h c = (omega (arith, h, c.0), c.1)

some_byte : (text : List ℕ) (t : Token) (n : ℕ) → TokenAt text t n → 0 < length (take n text)
some_byte text t n a = of (take n text) a.spelled
  where
    of : (w : List ℕ) → Spells t w → 0 < length w
    of [] s = absurd (no_spelling t s)
    of (b ∷ w) s = omega arith

climbs : {before text before' text' : List ℕ} {spots : List Spot} → ReadsTokens before text spots before' text' → Climbs (length before) spots (length before')
climbs here = omega arith
climbs {before = before} {text = text} {before' = before'} {spots = spots} (gap some r) =
    earlier (length before) _ spots (length before') (omega (arith, length-append before (take (gap_length text) text))) (climbs r)
climbs {before = before} {text = text} {before' = before'} (token {spots = spots} t n a bounded r) =
    (omega arith, earlier (suc (length before)) _ spots (length before') (omega (arith, length-append before (take n text), some_byte text t n a)) (climbs r))

climbs_far : (from : ℕ) (spots : List Spot) (to : ℕ) → Climbs from spots to → from + length spots ≤ to
climbs_far from [] to c = omega (arith, c)
climbs_far from (s ∷ spots) to c = omega (arith, c.0, climbs_far (suc s.at.byte) spots to c.1)

-- the place of a token, or of the end
abbrev at_place : List Spot → Place → ℕ → Place
at_place spots end k = unwrap_or (option_map (λ s. s.at) (slice_get spots k)) end

not_before : (from : ℕ) (spots : List Spot) (end : Place) (k : ℕ) → Climbs from spots end.byte → k ≤ length spots → from ≤ (at_place spots end k).byte
not_before from [] end k c h = c
not_before from (s ∷ spots) end zero c h = c.0
not_before from (s ∷ spots) end (suc k) c h = omega (arith, c.0, not_before (suc s.at.byte) spots end k c.1 (omega (arith, h)))

rise_on : (from : ℕ) (spots : List Spot) (end : Place) (i j : ℕ) → Climbs from spots end.byte → i < j → j ≤ length spots
    → (at_place spots end i).byte < (at_place spots end j).byte
rise_on from [] end i j c lt h = absurd (omega (arith, lt, h))
rise_on from (s ∷ spots) end zero zero c lt h = absurd (omega (arith, lt))
rise_on from (s ∷ spots) end zero (suc j) c lt h = omega (arith, not_before (suc s.at.byte) spots end j c.1 (omega (arith, h)))
rise_on from (s ∷ spots) end (suc i) zero c lt h = absurd (omega (arith, lt))
rise_on from (s ∷ spots) end (suc i) (suc j) c lt h = rise_on (suc s.at.byte) spots end i j c.1 (omega (arith, lt)) (omega (arith, h))

module _ (bytes : List ℕ) (spots : List Spot) (end : Place) (l : Lexes bytes spots end) where
  whole_text : Climbs 0 spots end.byte
  whole_text = subst (Climbs 0 spots) (sym (ap (λ p. p.byte) l.ends)) (climbs l.reads)

  pub no_more_than_bytes : length spots ≤ length bytes
  no_more_than_bytes = omega (arith, climbs_far 0 spots (length bytes) (climbs l.reads))

pub rising : (bytes : List ℕ) (t : Tokens) → length bytes < 2 ^ 31 → Lexes bytes t.spots.items t.end → AreRising t
rising bytes t short l = record {
  rise = λ i j lt h. rise_on 0 t.spots.items t.end i j (whole_text bytes t.spots.items t.end l) lt h;
  few = omega (arith, short, no_more_than_bytes bytes t.spots.items t.end l);
}
