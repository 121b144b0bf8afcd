-- Groups with their homes, group by group.
use Rattle.std.proofs.Common.{◌≡◌, ℕ, suc, ◌+◌, ◌<◌, ◌≤◌, List, [], ◌∷◌, ◌++◌, map, drop, get_or, length, sym, ap, ◌∙◌, refl, add-one}
use Rattle.flow_class.specs.declared.class.Group as text
use Rattle.flow_class.specs.View as view
use Rattle.flow_class.specs.Classes.{CallbackTree}
use Rattle.std.proofs.lemmas.List.{drop_all}
use Rattle.flow_code.proofs.Resolved.Maps.{drop_more}
use Rattle.flow_code.specs.declared.class.Group.{Group}
use Rattle.flow_code.specs.View.{branch_of, group_of}
use Rattle.flow_code.specs.Classes.{GroupCode}
use Rattle.flow_code.specs.Coding.{Coding, coded_branch, coded_groups}

length_map : {A B : Type 0} (f : A → B) (xs : List A) → length (map f xs) ≡ length xs
length_map f [] = refl
length_map f (x ∷ xs) = ap suc (length_map f xs)

assoc : {A : Type 0} (xs : List A) (y : A) (zs : List A) → (xs ++ y ∷ []) ++ zs ≡ xs ++ y ∷ zs
assoc [] y zs = refl
assoc (x ∷ xs) y zs = ap (λ l. x ∷ l) (assoc xs y zs)

map_last : {A B : Type 0} (f : A → B) (xs : List A) (y : A) → map f (xs ++ y ∷ []) ≡ map f xs ++ f y ∷ []
map_last f [] y = refl
map_last f (x ∷ xs) y = ap (λ l. f x ∷ l) (map_last f xs y)

empty_after : {A : Type 0} (xs : List A) → xs ++ [] ≡ xs
empty_after [] = refl
empty_after (x ∷ xs) = ap (λ l. x ∷ l) (empty_after xs)

no_groups : (c : Coding) (first : ℕ) (hs : List ℕ) → coded_groups c first hs [] ≡ []
no_groups c first [] = refl
no_groups c first (h ∷ hs) = refl

-- a group coded
abbrev pub made : Coding → ℕ → ℕ → List CallbackTree → GroupCode
made c first h g = record { block = h; first = first; branches = map (coded_branch c) g }

module _ (c : Coding) (gs : List text.Group) (hs : List ℕ) (all : List GroupCode) where
  pub groups_step : (i : ℕ) (dg : text.Group) (dh : ℕ) (first next : ℕ) (old new : List Group) (g : Group) → i < length gs → i < length hs
      → g.block ≡ get_or hs i dh → g.first ≡ first → map branch_of g.branches.items ≡ map (coded_branch c) (view.group_of (get_or gs i dg))
      → next ≡ first + length g.branches.items
      → new ≡ old ++ g ∷ []
      → map group_of old ++ coded_groups c first (drop i hs) (map view.group_of (drop i gs)) ≡ all
      → map group_of new ++ coded_groups c next (drop (i + 1) hs) (map view.group_of (drop (i + 1) gs)) ≡ all
  groups_step i dg dh first next old new g lt lth block begins branches on put inv =
      let text : List CallbackTree = view.group_of (get_or gs i dg) in
      let count : length g.branches.items ≡ length text =
      sym (length_map branch_of g.branches.items) ∙ ap length branches ∙ length_map (coded_branch c) text in
      let is : group_of g ≡ made c first (get_or hs i dh) text = ap (λ b. record { block = b; first = g.first; branches = map branch_of g.branches.items }) block
      ∙ ap (λ f. record { block = get_or hs i dh; first = f; branches = map branch_of g.branches.items }) begins
      ∙ ap (λ bs. record { block = get_or hs i dh; first = first; branches = bs }) branches in
      let rest : ℕ → List GroupCode = λ n. coded_groups c n (drop (suc i) hs) (map view.group_of (drop (suc i) gs)) in
      rw add-one
      (ap (λ n. map group_of new ++ rest n) (on ∙ ap (λ k. first + k) count)
      ∙ ap (λ l. map group_of l ++ rest (first + length text)) put
      ∙ ap (λ l. l ++ rest (first + length text)) (map_last group_of old g)
      ∙ assoc (map group_of old) (group_of g) (rest (first + length text))
      ∙ ap (λ x. map group_of old ++ x ∷ rest (first + length text)) is
      ∙ ap (λ l. map group_of old ++ coded_groups c first l (map view.group_of (get_or gs i dg ∷ drop (suc i) gs))) (sym (drop_more hs i dh lth))
      ∙ ap (λ l. map group_of old ++ coded_groups c first (drop i hs) (map view.group_of l)) (sym (drop_more gs i dg lt))
      ∙ inv)

  pub groups_end : (i : ℕ) (first : ℕ) (old : List Group) → length gs ≤ i
      → map group_of old ++ coded_groups c first (drop i hs) (map view.group_of (drop i gs)) ≡ all
      → map group_of old ≡ all
  groups_end i first old le inv =
      sym (empty_after (map group_of old))
      ∙ ap (λ l. map group_of old ++ l) (sym (no_groups c first (drop i hs)))
      ∙ ap (λ l. map group_of old ++ coded_groups c first (drop i hs) (map view.group_of l)) (sym (drop_all i gs le))
      ∙ inv
