-- A use to which a walk leads past a wait, and not past its declaration again, is stale.
use Rattle.std.proofs.Common.{◌≡◌, ℕ, zero, suc, ◌<◌, ◌≤◌, true, ◌⊎◌, inl, inr, List, [], ◌∷◌, length, refl, sym, ap, subst, ◌∙◌, arith}
use Rattle.std.specs.Prelude.{Contains}
use Rattle.std.proofs.lemmas.List.Elements.{All-contains}
use Rattle.flow_typing_laws.specs.ControlFlow.Graph.{Edge, Walk, stay, go}
use Rattle.flow_typing_laws.specs.ControlFlow.Mentions.{Declared}
use Rattle.flow_typing_laws.proofs.ControlFlow.Notes.{Note}
use Rattle.flow_typing_laws.proofs.ControlFlow.Leading.{Has}
use Rattle.flow_typing_laws.proofs.ControlFlow.Flowing.{Flow, IsFlow, Kept}
use Rattle.flow_typing_laws.proofs.ControlFlow.Walking.{contains_first}

-- what is declared at the point d reaches a point, and is stale there
abbrev pub IsThere : ℕ → Note → Type 0
IsThere d a = (j : ℕ) (x : Declared) → Has a.named j x → x.point ≡ d → a.point.from ≤ j

abbrev pub IsStale : ℕ → Note → Type 0
IsStale d a = (j : ℕ) (x : Declared) → Has a.named j x → x.point ≡ d → j < a.point.stale

in_rest : (x : ℕ) (left : List ℕ) (w : ℕ) → Contains (x ∷ left) w → (x ≡ w) ⊎ Contains left w
in_rest x left w (zero, lt, e) = inl e
in_rest x left w (suc k, lt, e) = inr (k, (let l : suc k < length (x ∷ left) = lt in omega (arith, l)), e)

to_rest : (x : ℕ) (left : List ℕ) (w : ℕ) → Contains left w → Contains (x ∷ left) w
to_rest x left w c = let l = c.1 in (suc c.0, omega (arith, l), c.2)

abbrev rest : List ℕ → List ℕ
rest [] = []
rest (x ∷ xs) = xs

module _ (tell : ℕ → Note) (g : List (Edge ℕ)) (kept : Kept tell g) where
  abbrev PassesWait : List ℕ → Type 0
  PassesWait left = (w : ℕ) × Contains left w × ((tell w).counts ≡ true)

  flow : (x z : ℕ) → Contains g (record { from = x; to = z }) → Flow x (tell x) (tell z)
  flow x z e = All-contains (IsFlow tell) g (record { from = x; to = z }) kept.along e

  elsewhere : (d x : ℕ) (left : List ℕ) (y : Declared) → (Contains (x ∷ left) d → ⊥) → y.point ≡ d → y.point ≡ x → ⊥
  elsewhere d x left y avoids q r = avoids (subst (Contains (x ∷ left)) (sym r ∙ q) (contains_first x left))

  there_on : (d x z : ℕ) (left : List ℕ) → Contains g (record { from = x; to = z }) → (Contains (x ∷ left) d → ⊥) → IsThere d (tell x) → IsThere d (tell z)
  there_on d x z left e avoids t j y h q = let f = flow x z e in let n = elsewhere d x left y avoids q in f.from j y h n (t j y (f.keeps j y h n) q)

  stale_on : (d x z : ℕ) (left : List ℕ) → Contains g (record { from = x; to = z }) → (Contains (x ∷ left) d → ⊥) → IsThere d (tell x) → ((tell x).counts ≡ true) ⊎ IsStale d (tell x)
      → IsStale d (tell z)
  stale_on d x z left e avoids t (inl c) j y h q = let f = flow x z e in let n = elsewhere d x left y avoids q in f.stale j y h n (t j y (f.keeps j y h n) q) (inl c)
  stale_on d x z left e avoids t (inr s) j y h q = let f = flow x z e in let n = elsewhere d x left y avoids q in let k = f.keeps j y h n in f.stale j y h n (t j y k q) (inr (s j y k q))

  stale_along : (d : ℕ) {x y : ℕ} {left : List ℕ} → Walk g x left y → (Contains left d → ⊥) → IsThere d (tell x) → IsStale d (tell x) → IsThere d (tell y) × IsStale d (tell y)
  stale_along d (stay x) avoids t s = (t, s)
  stale_along d (go {left = left} x z e w) avoids t s =
      stale_along d w (λ c. avoids (to_rest x left d c)) (there_on d x z left e avoids t) (stale_on d x z left e avoids t (inr s))

  waits_along : (d : ℕ) {x y : ℕ} {left : List ℕ} → Walk g x left y → (Contains left d → ⊥) → IsThere d (tell x) → (w : ℕ) → Contains left w → (tell w).counts ≡ true
      → IsThere d (tell y) × IsStale d (tell y)
  waits_along d (stay x) avoids t w c k = absurd (let l = c.1 in omega (arith, l))
  waits_along d (go {left = left} x z e r) avoids t w c k =
      let a = λ (c : Contains left d). avoids (to_rest x left d c) in
      let t' = there_on d x z left e avoids t in
      elim (in_rest x left w c) [
        | inl i ↦ stale_along d r a t' (stale_on d x z left e avoids t (inl (subst (λ v. (tell v).counts ≡ true) (sym i) k)))
        | inr i ↦ waits_along d r a t' w i k
      ]

  first_step : {x y : ℕ} {ps : List ℕ} → Walk g x ps y → (left : List ℕ) → ps ≡ x ∷ left → (Contains left x → ⊥) → (w : ℕ) → Contains left w → (tell w).counts ≡ true
      → IsThere x (tell y) × IsStale x (tell y)
  first_step (stay x) left i avoids w c k = absurd (let e = ap length i in omega (arith, e))
  first_step (go {left = l} x z e r) left i avoids w c k =
      let same : left ≡ l = sym (ap rest i) in
      waits_along x r (λ h. avoids (subst (λ y. Contains y x) (sym same) h)) (λ j y h p. (flow x z e).begins j y h p) w (subst (λ y. Contains y w) same c) k

  pub bad_is_stale : (d q : ℕ) (left : List ℕ) → Walk g d (d ∷ left) q → (Contains left d → ⊥) → (w : ℕ) → Contains left w → (tell w).counts ≡ true → IsThere d (tell q) × IsStale d (tell q)
  bad_is_stale d q left r avoids w c k = first_step r left refl avoids w c k
