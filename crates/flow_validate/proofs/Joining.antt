-- Where the touches of a block stand among those of all.
use Rattle.std.proofs.Common.{◌≡◌, ℕ, zero, suc, ◌+◌, ◌-◌, ◌<◌, ◌≤◌, List, [], ◌∷◌, ◌++◌, take, drop, length, get_or, slice_get, refl, sym, ap, ap₂, ◌∙◌, arith}
use Rattle.std.specs.declared.option.Option.TheVariants.{Some}
use Rattle.std.proofs.lemmas.Option.{slice_get_read}
use Rattle.std.proofs.lemmas.List.{append-nil, append_assoc, length-append}
use Rattle.std.proofs.Math.Seq.{take-append_seam, drop-append_seam}
use Rattle.flow_validate.specs.declared.touch.Touch.{Touch}
use Rattle.flow_validate.specs.declared.touch.Touches.{Touches}
use Rattle.flow_validate.specs.Joined.{joined, ends_from, AreJoined}

-- one more block
pub more_joined : (all : List (List Touch)) (ts : List Touch) → joined (all ++ ts ∷ []) ≡ joined all ++ ts
more_joined [] ts = append-nil ts
more_joined (x ∷ all) ts = ap (λ (l : List Touch). x ++ l) (more_joined all ts) ∙ sym (append_assoc x (joined all) ts)

pub more_ends : (n : ℕ) (all : List (List Touch)) (ts : List Touch) → ends_from n (all ++ ts ∷ []) ≡ ends_from n all ++ (n + length (joined (all ++ ts ∷ []))) ∷ []
more_ends n [] ts = ap (λ m. (n + m) ∷ []) (sym (ap length (append-nil ts)))
more_ends n (x ∷ all) ts =
    let a = length-append x (joined (all ++ ts ∷ [])) in
    let e : (n + length x) + length (joined (all ++ ts ∷ [])) ≡ n + length (joined (x ∷ (all ++ ts ∷ []))) = omega (arith, a) in
    ap (λ (l : List ℕ). (n + length x) ∷ l) (more_ends (n + length x) all ts) ∙ ap (λ m. (n + length x) ∷ (ends_from (n + length x) all ++ m ∷ [])) e

-- the ends of so many blocks
pub ends_long : (n : ℕ) (all : List (List Touch)) → length (ends_from n all) ≡ length all
ends_long n [] = refl
ends_long n (x ∷ all) = ap suc (ends_long (n + length x) all)

pub end_at : (n : ℕ) (all : List (List Touch)) (i : ℕ) → i < length all → slice_get (ends_from n all) i ≡ Some (n + length (joined (take (suc i) all)))
end_at n [] i lt = absurd (omega (arith, lt))
end_at n (x ∷ all) zero lt = ap (λ m. Some (n + m)) (sym (ap length (append-nil x)))
end_at n (x ∷ all) (suc i) lt =
    let less : i < length all = omega (arith, lt) in
    let a = length-append x (joined (take (suc i) all)) in
    let e : (n + length x) + length (joined (take (suc i) all)) ≡ n + length (joined (x ∷ take (suc i) all)) = omega (arith, a) in
    end_at (n + length x) all i less ∙ ap Some e

-- a block, and what stands before it
pub record Cut (all : List (List Touch)) (i : ℕ) : Type 0 where
  pub own : List Touch
  pub rest : List Touch
  pub is : slice_get all i ≡ Some own
  pub apart : joined all ≡ joined (take i all) ++ (own ++ rest)
  pub next : joined (take (suc i) all) ≡ joined (take i all) ++ own

pub cut : (all : List (List Touch)) (i : ℕ) → i < length all → Cut all i
cut [] i lt = absurd (omega (arith, lt))
cut (x ∷ all) zero lt = record { own = x; rest = joined all; is = refl; apart = refl; next = append-nil x }
cut (x ∷ all) (suc i) lt =
    let c = cut all i (omega (arith, lt)) in record {
      own = c.own;
      rest = c.rest;
      is = c.is;
      apart = ap (λ (l : List Touch). x ++ l) c.apart ∙ sym (append_assoc x (joined (take i all)) (c.own ++ c.rest));
      next = ap (λ (l : List Touch). x ++ l) c.next ∙ sym (append_assoc x (joined (take i all)) c.own);
    }

inside : {A : Type 0} {a b : A} → Some a ≡ Some b → a ≡ b
inside e = cc

-- so many blocks as ends
pub ends_many : (t : Touches) (all : List (List Touch)) → AreJoined t all → length t.ends.items ≡ length all
ends_many t all h = ap length h.1 ∙ ends_long 0 all

pub end_here : (t : Touches) (all : List (List Touch)) (i e : ℕ) → AreJoined t all → i < length all → e ≡ get_or t.ends.items i e → e ≡ length (joined (take (suc i) all))
end_here t all i e h lt is =
    let many = ends_many t all h in
    let at : slice_get t.ends.items i ≡ Some e = slice_get_read t.ends.items (length t.ends.items) i e refl (omega (arith, lt, many)) is in
    let same : e ≡ 0 + length (joined (take (suc i) all)) = inside (sym at ∙ ap (λ (l : List ℕ). slice_get l i) h.1 ∙ end_at 0 all i lt) in
    omega (arith, same)

-- what stands between the end of the block before and its own
pub record Stands (t : Touches) (all : List (List Touch)) (i start end : ℕ) : Type 0 where
  pub order : start ≤ end
  pub within : end ≤ length t.all.items
  pub own : slice_get all i ≡ Some (take (end - start) (drop start t.all.items))

pub stands : (t : Touches) (all : List (List Touch)) (i start end : ℕ) → AreJoined t all → i < length all
    → start ≡ length (joined (take i all)) → end ≡ length (joined (take (suc i) all)) → Stands t all i start end
stands t all i start end h lt first last =
    let c = cut all i lt in
    let front = joined (take i all) in
    let a = length-append front c.own in
    let b = length-append front (c.own ++ c.rest) in
    let d = length-append c.own c.rest in
    let e = ap length c.next in
    let f = ap length c.apart in
    let g = ap length h.0 in
    let many : end - start ≡ length c.own = omega (arith, first, last, a, e) in
    record {
      order = omega (arith, first, last, a, e);
      within = omega (arith, last, a, b, d, e, f, g);
      own = c.is ∙ ap Some (sym (take-append_seam c.own c.rest) ∙ ap (take (length c.own)) (sym (drop-append_seam front (c.own ++ c.rest)))
          ∙ ap (λ (l : List Touch). take (length c.own) (drop (length front) l)) (sym (h.0 ∙ c.apart))
          ∙ ap₂ (λ m n. take m (drop n t.all.items)) (sym many) (sym first));
    }

-- the touches of one block more
pub joined_more : (t : Touches) (before : List (List Touch)) (ts all : List Touch) (ends : List ℕ) → AreJoined t before
    → all ≡ t.all.items ++ ts → ends ≡ t.ends.items ++ length all ∷ [] → (all ≡ joined (before ++ ts ∷ [])) × (ends ≡ ends_from 0 (before ++ ts ∷ []))
joined_more t before ts all ends h put ended =
    let whole : all ≡ joined (before ++ ts ∷ []) = put ∙ ap (λ (l : List Touch). l ++ ts) h.0 ∙ sym (more_joined before ts) in
    let many : length all ≡ 0 + length (joined (before ++ ts ∷ [])) = omega (arith, ap length whole) in
    (whole, ended ∙ ap₂ (λ (l : List ℕ) m. l ++ m ∷ []) h.1 many ∙ sym (more_ends 0 before ts))
