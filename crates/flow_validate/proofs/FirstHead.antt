-- The first class whose head doesn't stand, one class after another.
use Rattle.std.proofs.Common.{◌≡◌, ℕ, suc, ◌+◌, ◌<◌, true, false, List, [], ◌∷◌, ◌++◌, map, take, drop, length, get_or, if◌then◌else◌, sym, ap, ◌∙◌, arith, append_assoc}
use Rattle.std.specs.declared.option.Option.{Option}
use Rattle.std.specs.declared.option.Option.TheVariants.{Some}
use Rattle.std.proofs.lemmas.List.{map-append, map_more, drop_more}
use Rattle.flow_tree.specs.Decls.{DeclTree}
use Rattle.flow_rules.specs.Known.{Meaning, known}
use Rattle.flow_class.specs.declared.class.Class.{Class}
use Rattle.flow_class.specs.View.{class_of}
use Rattle.flow_valid.specs.Heads.{head_of, head_kept, first_head}

-- the declarations before a class
abbrev pub before : List DeclTree → List Class → ℕ → List DeclTree
before ds cs i = ds ++ map head_of (map class_of (take i cs))

module _ (all : List ℕ → Option Meaning) (ds : List DeclTree) (cs : List Class) (i : ℕ) (c : Class) (lt : i < length cs) (at : c ≡ get_or cs i c) where
  pub before_more : before ds cs (i + 1) ≡ before ds cs i ++ head_of (class_of c) ∷ []
  before_more =
      ap (λ l. ds ++ map head_of l) (map_more class_of cs i c lt ∙ ap (λ (y : Class). map class_of (take i cs) ++ class_of y ∷ []) (sym at))
      ∙ ap (λ l. ds ++ l) (map-append head_of (map class_of (take i cs)) (class_of c ∷ []))
      ∙ sym (append_assoc ds (map head_of (map class_of (take i cs))) (head_of (class_of c) ∷ []))

  by_kept : first_head all (before ds cs i) i (map class_of (drop i cs))
      ≡ (if head_kept (known (before ds cs i)) all (class_of c) then first_head all (before ds cs i ++ head_of (class_of c) ∷ []) (suc i) (map class_of (drop (i + 1) cs)) else Some i)
  by_kept =
      ap (λ l. first_head all (before ds cs i) i (map class_of l)) (drop_more cs i c lt ∙ ap (λ (y : Class). y ∷ drop (i + 1) cs) (sym at))

  pub first_more : (total : Option ℕ) → head_kept (known (before ds cs i)) all (class_of c) ≡ true → first_head all (before ds cs i) i (map class_of (drop i cs)) ≡ total
      → first_head all (before ds cs (i + 1)) (i + 1) (map class_of (drop (i + 1) cs)) ≡ total
  first_more total kept h =
      let one : i + 1 ≡ suc i = omega arith in
      ap (λ l. first_head all l (i + 1) (map class_of (drop (i + 1) cs))) before_more
      ∙ ap (λ n. first_head all (before ds cs i ++ head_of (class_of c) ∷ []) n (map class_of (drop (i + 1) cs))) one
      ∙ sym (by_kept ∙ ap (λ b. if b then first_head all (before ds cs i ++ head_of (class_of c) ∷ []) (suc i) (map class_of (drop (i + 1) cs)) else Some i) kept) ∙ h

  pub first_found : (total : Option ℕ) → head_kept (known (before ds cs i)) all (class_of c) ≡ false → first_head all (before ds cs i) i (map class_of (drop i cs)) ≡ total → Some i ≡ total
  first_found total kept h =
      sym (by_kept ∙ ap (λ b. if b then first_head all (before ds cs i ++ head_of (class_of c) ∷ []) (suc i) (map class_of (drop (i + 1) cs)) else Some i) kept) ∙ h
