-- Questions of two rows of words that are the same up to one that the words answer otherwise.
use Rattle.std.proofs.Common.{◌≡◌, ◌≢◌, ◌⊎◌, inl, inr, ℕ, zero, suc, ◌+◌, List, [], ◌∷◌, ◌++◌, length, take, refl, sym, ap, ap₂, subst, arith}
use native.Mathlib.Decide.{ℕ_discrete}
use Rattle.flow_draw.specs.declared.question.Question.{Question}
use Rattle.flow_draw.specs.Questions.{answer}
use Rattle.flow_draw.specs.Words.{word_at}
use Rattle.flow_worldfile.specs.Worlds as file
use Rattle.flow_draw_laws.specs.Answers.{answers_from}

-- two numbers are the same, or they aren't
pub same_or_not : (m n : ℕ) → (m ≡ n) ⊎ (m ≢ n)
same_or_not m n = elim (ℕ_discrete m n) [ yes a ↦ inl a | no b ↦ inr b ]

-- The same is asked, of the word of this number and of those after it, up to a question that the words answer otherwise.
abbrev pub Parted : (v w : ℕ → ℕ) → (number : ℕ) → List Question → List Question → Type 0
Parted v w k [] rs = ⊥
Parted v w k (q ∷ qs) [] = ⊥
Parted v w k (q ∷ qs) (r ∷ rs) = (q ≡ r) × ((answer q (v k) ≢ answer q (w k)) ⊎ Parted v w (suc k) qs rs)

-- whatever is asked later
pub parted_more : (v w : ℕ → ℕ) (k : ℕ) (qs rs xs ys : List Question) → Parted v w k qs rs → Parted v w k (qs ++ xs) (rs ++ ys)
parted_more v w k [] rs xs ys h = absurd h
parted_more v w k (q ∷ qs) [] xs ys h = absurd h
parted_more v w k (q ∷ qs) (r ∷ rs) xs ys (e, inl d) = (e, inl d)
parted_more v w k (q ∷ qs) (r ∷ rs) xs ys (e, inr h) = (e, inr (parted_more v w (suc k) qs rs xs ys h))

-- whatever the same was asked before
pub parted_after : (v w : ℕ → ℕ) (k n : ℕ) (before qs rs : List Question) → n ≡ k + length before → Parted v w n qs rs → Parted v w k (before ++ qs) (before ++ rs)
parted_after v w k n [] qs rs e h = subst (λ m. Parted v w m qs rs) (omega arith) h
parted_after v w k n (a ∷ before) qs rs e h = (refl, inr (parted_after v w (suc k) n before qs rs (omega arith) h))

-- the same by words that are counted from a later one
pub parted_from : (v w : ℕ → ℕ) (m k n : ℕ) (qs rs : List Question) → n ≡ m + k → Parted (λ i. v (m + i)) (λ i. w (m + i)) k qs rs → Parted v w n qs rs
parted_from v w m k n [] rs e h = absurd h
parted_from v w m k n (q ∷ qs) [] e h = absurd h
parted_from v w m k n (q ∷ qs) (r ∷ rs) e (a, inl d) = (a, inl (subst (λ i. answer q (v i) ≢ answer q (w i)) (sym e) d))
parted_from v w m k n (q ∷ qs) (r ∷ rs) e (a, inr h) = (a, inr (parted_from v w m (suc k) (suc n) qs rs (omega arith) h))

-- the words of a world
abbrev pub words_of : file.World → ℕ → ℕ
words_of w k = word_at w.seed w.words k

head_of : {X : Type 0} {x y : X} {xs ys : List X} → x ∷ xs ≡ y ∷ ys → x ≡ y
head_of h = cc

tail_of : {X : Type 0} {x y : X} {xs ys : List X} → x ∷ xs ≡ y ∷ ys → xs ≡ ys
tail_of h = cc

-- words that answer alike don't part
pub not_parted : (v w : file.World) (k : ℕ) (qs rs : List Question) → answers_from k qs v ≡ answers_from k qs w → Parted (words_of v) (words_of w) k qs rs → ⊥
not_parted v w k [] rs a h = absurd h
not_parted v w k (q ∷ qs) [] a h = absurd h
not_parted v w k (q ∷ qs) (r ∷ rs) a (e, inl d) = d (head_of a)
not_parted v w k (q ∷ qs) (r ∷ rs) a (e, inr h) = not_parted v w (suc k) qs rs (tail_of a) h

-- as long as answers agree, the same is asked next
pub parted_next : (v w : file.World) (k : ℕ) (qs rs : List Question) → Parted (words_of v) (words_of w) k qs rs → (n : ℕ)
    → answers_from k (take n qs) v ≡ answers_from k (take n qs) w → take (suc n) qs ≡ take (suc n) rs
parted_next v w k [] rs h n a = absurd h
parted_next v w k (q ∷ qs) [] h n a = absurd h
parted_next v w k (q ∷ qs) (r ∷ rs) (e, h) zero a = ap (λ x. x ∷ []) e
parted_next v w k (q ∷ qs) (r ∷ rs) (e, inl d) (suc n) a = absurd (d (head_of a))
parted_next v w k (q ∷ qs) (r ∷ rs) (e, inr h) (suc n) a = ap₂ (λ x xs. x ∷ xs) e (parted_next v w (suc k) qs rs h n (tail_of a))
