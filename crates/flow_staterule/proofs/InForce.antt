-- The variables in force: those of the code stand the other way round.
use Rattle.std.proofs.Common.{◌≡◌, ℕ, zero, suc, ◌+◌, ◌-◌, ◌<◌, ◌≤◌, Bool, true, false, List, [], ◌∷◌, ◌++◌, length, take, get_or, refl, sym, ap, ap₂, subst, ◌∙◌, arith}
use Rattle.std.specs.Prelude.{if◌then◌else◌}
use Rattle.std.specs.Str.{bytes_eq}
use Rattle.flow_base.specs.declared.place.Place.{Place}
use Rattle.flow_staterule.specs.declared.scope.Point.{Point}
use Rattle.flow_staterule.specs.declared.scope.Use.{Use}
use Rattle.flow_staterule.specs.declared.scope.Variable as code
use Rattle.flow_staterule.specs.Uses.{Variable, mention, use_of}
use Rattle.flow_staterule.specs.View.{variable_of, declared_after}

count_after : (vs : List Variable) (cs : List code.Variable) → length (declared_after vs cs) ≡ length vs + length cs
count_after vs [] = omega arith
count_after vs (c ∷ cs) = let e : length (declared_after (variable_of c ∷ vs) cs) ≡ suc (length vs) + length cs = count_after (variable_of c ∷ vs) cs in omega (arith, e)

pub how_many : (cs : List code.Variable) → length (declared_after [] cs) ≡ length cs
how_many cs = let e : length (declared_after [] cs) ≡ 0 + length cs = count_after [] cs in omega (arith, e)

pub one_more : (vs : List Variable) (cs : List code.Variable) (c : code.Variable) → declared_after vs (cs ++ c ∷ []) ≡ variable_of c ∷ declared_after vs cs
one_more vs [] c = refl
one_more vs (b ∷ cs) c = one_more (variable_of b ∷ vs) cs c

pub take_before : {A : Type 0} (xs ys : List A) → take (length xs) (xs ++ ys) ≡ xs
take_before [] ys = refl
take_before (x ∷ xs) ys = ap (λ l. x ∷ l) (take_before xs ys)

pub take_all : {A : Type 0} (xs : List A) → take (length xs) xs ≡ xs
take_all [] = refl
take_all (x ∷ xs) = ap (λ l. x ∷ l) (take_all xs)

abbrev head_or : {A : Type 0} → A → List A → A
head_or d [] = d
head_or d (x ∷ xs) = x

abbrev tail_of : {A : Type 0} → List A → List A
tail_of [] = []
tail_of (x ∷ xs) = xs

nothing_in : {A : Type 0} (x : A) (xs : List A) → [] ≡ x ∷ xs → ⊥
nothing_in x xs e = let f : 0 ≡ suc (length xs) = ap length e in omega (arith, f)

-- those that were there twice before
pub take_twice : {A : Type 0} (xs ys zs : List A) → take (length xs) ys ≡ xs → take (length ys) zs ≡ ys → take (length xs) zs ≡ xs
take_twice [] ys zs e f = refl
take_twice (x ∷ xs) [] zs e f = absurd (nothing_in x xs e)
take_twice (x ∷ xs) (y ∷ ys) [] e f = absurd (nothing_in y ys f)
take_twice (x ∷ xs) (y ∷ ys) (z ∷ zs) e f =
    ap₂ (λ a l. a ∷ l) (ap (head_or x) f ∙ ap (head_or x) e) (take_twice xs ys zs (ap tail_of e) (ap tail_of f))

-- the last of the first so many
pub newest : (vs : List Variable) (cs : List code.Variable) (n : ℕ) (c : code.Variable) → n < length cs → c ≡ get_or cs n c
    → declared_after vs (take (suc n) cs) ≡ variable_of c ∷ declared_after vs (take n cs)
newest vs [] n c lt e = absurd (omega arith)
newest vs (b ∷ cs) zero c lt e = ap (λ x. variable_of x ∷ vs) (sym e)
newest vs (b ∷ cs) (suc n) c lt e = let m : n < length cs = omega arith in newest (variable_of b ∷ vs) cs n c m e

-- a mention is looked for from the newest variable on
pub mention_all : (cs : List code.Variable) (n : ℕ) (p : Point) (at : Place) (x : List ℕ) → n ≡ length cs → mention (declared_after [] (take n cs)) p at x ≡ mention (declared_after [] cs) p at x
mention_all cs n p at x e = ap (λ l. mention (declared_after [] l) p at x) (ap (λ k. take k cs) e ∙ take_all cs)

mention_at : (cs : List code.Variable) (n : ℕ) (c : code.Variable) (p : Point) (at : Place) (x : List ℕ) (b : Bool) → n < length cs → c ≡ get_or cs n c → bytes_eq c.name.now x ≡ b
    → mention (declared_after [] (take (suc n) cs)) p at x ≡ (if b then use_of at p c.local (length (declared_after [] (take n cs))) else mention (declared_after [] (take n cs)) p at x)
mention_at cs n c p at x b lt got e =
    ap (λ vs. mention vs p at x) (newest [] cs n c lt got)
    ∙ ap (λ y. if y then use_of at p c.local (length (declared_after [] (take n cs))) else mention (declared_after [] (take n cs)) p at x) e

counted : (cs : List code.Variable) (n : ℕ) → n < length cs → length (declared_after [] (take n cs)) ≡ n
counted cs n lt = let m : n ≤ length cs = omega (arith, lt) in how_many (take n cs) ∙ length_take n cs m
  where
    length_take : (n : ℕ) (cs : List code.Variable) → n ≤ length cs → length (take n cs) ≡ n
    length_take zero cs le = refl
    length_take (suc n) [] le = absurd (omega (arith, le))
    length_take (suc n) (c ∷ cs) le = let m : n ≤ length cs = omega (arith, le) in ap suc (length_take n cs m)

pub mention_next : (cs : List code.Variable) (k : ℕ) (c : code.Variable) (p : Point) (at : Place) (x : List ℕ) (whole : List Use) → 0 < k → k ≤ length cs → c ≡ get_or cs (k - 1) c
    → bytes_eq c.name.now x ≡ false → mention (declared_after [] (take k cs)) p at x ≡ whole → mention (declared_after [] (take (k - 1) cs)) p at x ≡ whole
mention_next cs zero c p at x whole some le got e inv = absurd (omega (arith, some))
mention_next cs (suc n) c p at x whole some le got e inv =
    let lt : n < length cs = omega (arith, le) in
    let s : suc n - 1 ≡ n = omega arith in
    rw s (sym (mention_at cs n c p at x false lt (subst (λ k. c ≡ get_or cs k c) s got) e) ∙ inv)

pub mention_here : (cs : List code.Variable) (k : ℕ) (c : code.Variable) (p : Point) (at : Place) (x : List ℕ) (us whole : List Use) → 0 < k → k ≤ length cs → c ≡ get_or cs (k - 1) c
    → bytes_eq c.name.now x ≡ true → us ≡ use_of at p c.local (k - 1) → mention (declared_after [] (take k cs)) p at x ≡ whole → us ≡ whole
mention_here cs zero c p at x us whole some le got e is inv = absurd (omega (arith, some))
mention_here cs (suc n) c p at x us whole some le got e is inv =
    let lt : n < length cs = omega (arith, le) in
    let s : suc n - 1 ≡ n = omega arith in
    is ∙ ap (use_of at p c.local) (s ∙ sym (counted cs n lt)) ∙ sym (mention_at cs n c p at x true lt (subst (λ k. c ≡ get_or cs k c) s got) e) ∙ inv
