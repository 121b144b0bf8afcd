-- How the first stray variable is found.
use Rattle.std.proofs.Common.{◌≡◌, ℕ, zero, suc, ◌≤◌, ◌<◌, Bool, true, false, List, length, refl, sym, ap, ◌∙◌, subst, arith, ◌⊎◌, inl, inr}
use Rattle.std.specs.declared.option.Option.TheVariants.{None, Some}
use Rattle.flow_tree.specs.declared.token.Token.TheVariants as token
use Rattle.flow_tree.specs.declared.token.Sign.TheVariants as sign
use Rattle.flow_tree.specs.declared.token.Spot.{Spot}
use Rattle.flow_tree.specs.declared.token.Tokens.{Tokens}
use Rattle.flow_tree.specs.GrammarAnswer.{place_at}
use Rattle.flow_parse.specs.Reading.{token_at}
use Rattle.flow_parse.proofs.DeclLoops.{none_at}
use Rattle.flow_classread.specs.Rising.{AreRising}
use Rattle.flow_classread.specs.Strays.{is_far, IsLone, IsStray, NoStrays}

-- a dot stands before this token, behind the one from which on the tokens are read
pub record Dotted (spots : List Spot) (from at : ℕ) (b : Bool) : Type 0 where
  pub dot : b ≡ true → (j : ℕ) × (from ≤ j) × (at ≡ suc j) × (token_at spots j ≡ Some (token.Sign sign.Dot))
  pub none : b ≡ false → (j : ℕ) → from ≤ j → at ≡ suc j → token_at spots j ≡ Some (token.Sign sign.Dot) → ⊥

pub dotted_first : (spots : List Spot) (from : ℕ) → Dotted spots from from false
dotted_first spots from = record { dot = λ e. absurd (cc); none = λ e j h f g. omega (arith, f, h) }

pub dotted_next : (spots : List Spot) (from at to : ℕ) (b : Bool) → from ≤ at → to ≡ suc at → (b ≡ true → token_at spots at ≡ Some (token.Sign sign.Dot))
    → (token_at spots at ≡ Some (token.Sign sign.Dot) → b ≡ true)
    → Dotted spots from to b
dotted_next spots from at to b h e f g = record {
  dot = λ x. (at, h, e, f x);
  none = λ x j le y z. let same : j ≡ at = omega (arith, e, y) in let q : false ≡ true = sym x ∙ g (subst (λ k. token_at spots k ≡ Some (token.Sign sign.Dot)) same z) in cc;
}

split : (k n : ℕ) → k < suc n → (k ≡ n → ⊥) → k < n
split k n h f = of k n h f
  where
    of : (k n : ℕ) → k < suc n → (k ≡ n → ⊥) → k < n
    of zero zero h f = absurd (f refl)
    of zero (suc n) h f = omega arith
    of (suc k) zero h f = absurd (omega (arith, h))
    of (suc k) (suc n) h f = let r = of k n (omega (arith, h)) (λ e. f (ap suc e)) in omega (arith, r)

-- one token more without a stray
pub no_strays_next : (spots : List Spot) (from at to : ℕ) → to ≡ suc at → NoStrays spots from at → (IsStray spots from at → ⊥) → NoStrays spots from to
no_strays_next spots from at to e clear here k h lt s = clear k h (split k at (subst (λ n. k < n) e lt) (λ f. here (subst (IsStray spots from) f s))) s

-- none stands behind the tokens
pub stray_within : (spots : List Spot) (from k : ℕ) → IsStray spots from k → k < length spots
stray_within spots from k s = elim_or (below k (length spots))
  where
    below : (a b : ℕ) → (a < b) ⊎ (b ≤ a)
    below a zero = inr (omega arith)
    below zero (suc b) = inl (omega arith)
    below (suc a) (suc b) = elim (below a b) [
      | inl l ↦ inl (omega arith)
      | inr l ↦ inr (omega arith)
    ]

    elim_or : (k < length spots) ⊎ (length spots ≤ k) → k < length spots
    elim_or (inl l) = l
    elim_or (inr l) = let e : is_far None ≡ true = ap is_far (sym (none_at spots k l)) ∙ s.lone.far in absurd (cc)

-- none before a place where the tokens come to it
pub none_before : (t : Tokens) (from at until : ℕ) → AreRising t → NoStrays t.spots.items from at → at ≤ length t.spots.items → (at < length t.spots.items → until ≤ (place_at t at).byte) → (k : ℕ)
    → from ≤ k
    → (place_at t k).byte < until → IsStray t.spots.items from k → ⊥
none_before t from at until rising clear h stop k le lt s =
    of (three k at)
  where
    three : (a b : ℕ) → (a < b) ⊎ (b ≤ a)
    three a zero = inr (omega arith)
    three zero (suc b) = inl (omega arith)
    three (suc a) (suc b) = elim (three a b) [
      | inl l ↦ inl (omega arith)
      | inr l ↦ inr (omega arith)
    ]

    same : (a b : ℕ) → a ≤ b → (a < b) ⊎ (a ≡ b)
    same zero zero h = inr refl
    same zero (suc b) h = inl (omega arith)
    same (suc a) zero h = absurd (omega (arith, h))
    same (suc a) (suc b) h = elim (same a b (omega (arith, h))) [
      | inl l ↦ inl (omega arith)
      | inr e ↦ inr (ap suc e)
    ]

    of : (k < at) ⊎ (at ≤ k) → ⊥
    of (inl l) = clear k le l s
    of (inr l) =
        let w = stray_within t.spots.items from k s in
        let u = stop (omega (arith, w, l)) in
        elim (same at k l) [
          | inl m ↦ let r = rising.rise at k m (omega (arith, w)) in omega (arith, r, u, lt)
          | inr e ↦ let g = ap (λ n. (place_at t n).byte) e in omega (arith, g, u, lt)
        ]

-- a stray, by what was kept of the token before
pub stray_now : (spots : List Spot) (from at : ℕ) (b : Bool) → Dotted spots from at b → IsStray spots from at → (b ≡ false) × IsLone spots at
stray_now spots from at b d s = (of b refl, s.lone)
  where
    of : (x : Bool) → b ≡ x → b ≡ false
    of false e = e
    of true e = let j = d.dot e in absurd (s.undotted j.0 j.1 j.2 j.3)

pub no_stray_now : (spots : List Spot) (from at : ℕ) (b : Bool) → Dotted spots from at b → (b ≡ false) × IsLone spots at → IsStray spots from at
no_stray_now spots from at b d h = record { lone = h.1; undotted = d.none h.0 }

pub reach_end : (t : Tokens) (at until : ℕ) → ((at < length t.spots.items) × ((place_at t at).byte < until) → ⊥) → at < length t.spots.items → until ≤ (place_at t at).byte
reach_end t at until f h = of (place_at t at).byte until (λ l. f (h, l))
  where
    of : (a b : ℕ) → (a < b → ⊥) → b ≤ a
    of a zero f = omega arith
    of zero (suc b) f = absurd (f (omega arith))
    of (suc a) (suc b) f = let r = of a b (λ l. f (omega (arith, l))) in omega (arith, r)
