-- Valid classes differ by their names, so a class stands at one place.
use Rattle.std.proofs.Common.{◌≡◌, ℕ, zero, suc, Bool, true, false, not, ◌&&◌, ◌||◌, List, [], ◌∷◌, ◌++◌, map, refl, sym, ap, subst, ◌∙◌, if◌then◌else◌}
use Rattle.std.proofs.lemmas.List.{map-append}
use Rattle.std.proofs.lemmas.Slice.Eq.{bytes_eq-Decides}
use Rattle.std.specs.Prelude.{slice_get, bytes_eq, nat_le, length}
use Rattle.std.specs.List.{list_all}
use Rattle.std.specs.declared.option.Option.{Option}
use Rattle.std.specs.declared.option.Option.TheVariants.{None, Some}
use Rattle.flow_tree.specs.Decls.{SlotTree, DeclTree}
use Rattle.flow_ast.specs.TypingNames.{named}
use Rattle.flow_ast.specs.Typing.{is_there}
use Rattle.flow_class.specs.Classes.{ClassTree, RawTree}
use Rattle.flow_rules.specs.Known.{Meaning, packet_row, row_of, known, type_known, is_predefined}
use Rattle.flow_valid.specs.Heads.{head_of, plain_decls, all_decls, head_kept, first_head}
use Rattle.flow_valid.specs.Validity.{IsValid}

-- a class stands at one place
abbrev pub AreDistinct : RawTree → Type 0
AreDistinct r = (i k : ℕ) (c : ClassTree) → slice_get r.classes i ≡ Some c → slice_get r.classes k ≡ Some c → i ≡ k

-- what is found among some is found among more
found_more : {A : Type 0} (rows more : List (List ℕ × A)) (x : List ℕ) → is_there (named rows x) ≡ true → is_there (named (rows ++ more) x) ≡ true
found_more [] more x e = cc
found_more {A} (row ∷ rows) more x e = by_test (bytes_eq x row.0) (found_more rows more x) e
  where
    by_test : (b : Bool) → (is_there (named rows x) ≡ true → is_there (named (rows ++ more) x) ≡ true)
        → is_there (if b then Some row.1 else named rows x) ≡ true → is_there (if b then Some row.1 else named (rows ++ more) x) ≡ true
    by_test true next e = refl
    by_test false next e = next e

found_last : {A : Type 0} (rows : List (List ℕ × A)) (x : List ℕ) (a : A) → is_there (named (rows ++ ((x, a) ∷ [])) x) ≡ true
found_last [] x a = ap (λ b. is_there (if b then Some a else None)) ((bytes_eq-Decides x x).1 refl)
found_last {A} (row ∷ rows) x a = by_test (bytes_eq x row.0) (found_last rows x a)
  where
    by_test : (b : Bool) → is_there (named (rows ++ ((x, a) ∷ [])) x) ≡ true → is_there (if b then Some row.1 else named (rows ++ ((x, a) ∷ [])) x) ≡ true
    by_test true h = refl
    by_test false h = h

rows_behind : (ds : List DeclTree) (d : DeclTree) → packet_row ∷ map row_of (ds ++ (d ∷ [])) ≡ (packet_row ∷ map row_of ds) ++ (row_of d ∷ [])
rows_behind ds d = ap (λ rows. packet_row ∷ rows) (map-append row_of ds (d ∷ []))

known_more : (ds : List DeclTree) (d : DeclTree) (x : List ℕ) → is_there (known ds x) ≡ true → is_there (known (ds ++ (d ∷ [])) x) ≡ true
known_more ds d x e =
    ap (λ rows. is_there (named rows x)) (rows_behind ds d) ∙ found_more (packet_row ∷ map row_of ds) (row_of d ∷ []) x e

known_last : (ds : List DeclTree) (c : ClassTree) → is_there (known (ds ++ (head_of c ∷ [])) c.name) ≡ true
known_last ds c =
    ap (λ rows. is_there (named rows c.name)) (rows_behind ds (head_of c)) ∙ found_last (packet_row ∷ map row_of ds) c.name (row_of (head_of c)).1

module _ (all : List ℕ → Option Meaning) where
  -- of one class after some that are kept
  record Kept (ds : List DeclTree) (i : ℕ) (c : ClassTree) (cs : List ClassTree) : Type 0 where
    own : is_there (known ds c.name) ≡ false
    rest : first_head all (ds ++ (head_of c ∷ [])) (suc i) cs ≡ None

  name_free : (a b x y z : Bool) → (not (a || b) && x && y && z) ≡ true → b ≡ false
  name_free true b x y z e = cc
  name_free false true x y z e = cc
  name_free false false x y z e = refl

  kept : (ds : List DeclTree) (i : ℕ) (c : ClassTree) (cs : List ClassTree) → first_head all ds i (c ∷ cs) ≡ None → Kept ds i c cs
  kept ds i c cs e = by_test (head_kept (known ds) all c) refl e
    where
      by_test : (b : Bool) → head_kept (known ds) all c ≡ b → (if b then first_head all (ds ++ (head_of c ∷ [])) (suc i) cs else Some i) ≡ None → Kept ds i c cs
      by_test true h e = record {
        own = name_free (is_predefined c.name) (is_there (known ds c.name)) (nat_le c.params (length c.slots))
            (list_all (λ (s : SlotTree). type_known all s.ty) c.slots) (list_all (type_known all) c.locals) h;
        rest = e;
      }
      by_test false h e = cc

  later_free : (ds : List DeclTree) (i : ℕ) (cs : List ClassTree) (k : ℕ) (c : ClassTree) → first_head all ds i cs ≡ None → slice_get cs k ≡ Some c
      → is_there (known ds c.name) ≡ false
  later_free ds i [] k c e g = cc
  later_free ds i (d ∷ cs) zero c e g = let same : d ≡ c = cc in subst (λ z. is_there (known ds z.name) ≡ false) same (kept ds i d cs e).own
  later_free ds i (d ∷ cs) (suc k) c e g =
      before (is_there (known ds c.name)) (is_there (known (ds ++ (head_of d ∷ [])) c.name)) (known_more ds (head_of d) c.name)
      (later_free (ds ++ (head_of d ∷ [])) (suc i) cs k c (kept ds i d cs e).rest g)
    where
      before : (b q : Bool) → (b ≡ true → q ≡ true) → q ≡ false → b ≡ false
      before false q f h = refl
      before true q f h = absurd (both q (f refl) h)
        where
          both : (q : Bool) → q ≡ true → q ≡ false → ⊥
          both q x y = cc

  not_again : (ds : List DeclTree) (i : ℕ) (c : ClassTree) (cs : List ClassTree) (k : ℕ) → first_head all ds i (c ∷ cs) ≡ None → slice_get cs k ≡ Some c → ⊥
  not_again ds i c cs k e g =
      let free = later_free (ds ++ (head_of c ∷ [])) (suc i) cs k c (kept ds i c cs e).rest g in both (known_last ds c) free
    where
      both : {b : Bool} → b ≡ true → b ≡ false → ⊥
      both x y = cc

  once : (ds : List DeclTree) (n : ℕ) (cs : List ClassTree) → first_head all ds n cs ≡ None → (i k : ℕ) (c : ClassTree) → slice_get cs i ≡ Some c → slice_get cs k ≡ Some c → i ≡ k
  once ds n [] e i k c g h = cc
  once ds n (d ∷ cs) e zero zero c g h = refl
  once ds n (d ∷ cs) e zero (suc k) c g h = let same : d ≡ c = cc in absurd (not_again ds n d cs k e (h ∙ ap (λ z. Some z) (sym same)))
  once ds n (d ∷ cs) e (suc i) zero c g h = let same : d ≡ c = cc in absurd (not_again ds n d cs i e (g ∙ ap (λ z. Some z) (sym same)))
  once ds n (d ∷ cs) e (suc i) (suc k) c g h = ap suc (once (ds ++ (head_of d ∷ [])) (suc n) cs (kept ds n d cs e).rest i k c g h)

pub valid_distinct : (r : RawTree) → IsValid r → AreDistinct r
valid_distinct r v i k c g h = once (known (all_decls r)) (plain_decls r) 0 r.classes v.heads i k c g h
