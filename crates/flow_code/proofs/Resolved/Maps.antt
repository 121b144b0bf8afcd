-- Names in maps: the first of a name is noted.
use Rattle.std.proofs.Common.{◌≡◌, ℕ, zero, suc, ◌+◌, ◌<◌, ◌≤◌, Bool, true, false, List, [], ◌∷◌, ◌++◌, length, map, drop, get_or, is_some, if◌then◌else◌, refl, sym, ap, subst, ◌∙◌, arith, add-one}
use Rattle.std.proofs.lemmas.Bool.{false≢true}
use Rattle.std.proofs.lemmas.Slice.Eq.{bytes_eq-Decides}
use Rattle.std.specs.Map.{lookup}
use Rattle.std.specs.Str.{bytes_eq}
use Rattle.std.specs.declared.option.Option.{Option}
use Rattle.std.specs.declared.option.Option.TheVariants.{None, Some}
use denote.Ref.{Bor}
use Rattle.indexmap.specs.IndexMap.{insert_entry}
use Rattle.flow_code.specs.Resolved.Named.{first_from, or_else}

abbrev pub Key : Type 0
Key = Bor (List ℕ)

abbrev pub same : Key → Key → Bool
same x y = bytes_eq x.now y.now

abbrev pub found : List ℕ → List (Key × ℕ) → Option ℕ
found x es = lookup (λ k. bytes_eq x k.now) es

lookup_last : (p : Key → Bool) (es : List (Key × ℕ)) (k : Key) (v : ℕ) → lookup p (es ++ (k, v) ∷ []) ≡ or_else (lookup p es) (if p k then Some v else None)
lookup_last p [] k v = refl
lookup_last p (e ∷ es) k v =
    elim (p e.0) as (λ b. (if b then Some e.1 else lookup p (es ++ (k, v) ∷ [])) ≡ or_else (if b then Some e.1 else lookup p es) (if p k then Some v else None))
    [ true ↦ refl | false ↦ lookup_last p es k v ]

some_none : (n : ℕ) → Some n ≡ None → ⊥
some_none n e = false≢true (sym (ap is_some e))

inserted_last : (k : Key) (v : ℕ) (es : List (Key × ℕ)) → found k.now es ≡ None → insert_entry same es k v ≡ es ++ (k, v) ∷ []
inserted_last k v [] h = refl
inserted_last k v (e ∷ es) h = by (inserted_last k v es) (bytes_eq k.now e.0.now) refl
  where
    by : (found k.now es ≡ None → insert_entry same es k v ≡ es ++ (k, v) ∷ []) → (b : Bool) → bytes_eq k.now e.0.now ≡ b
        → (if bytes_eq k.now e.0.now then (e.0, v) ∷ es else e ∷ insert_entry same es k v) ≡ e ∷ (es ++ (k, v) ∷ [])
    by more true is = absurd (some_none e.1 (sym (ap (λ b. if b then Some e.1 else found k.now es) is) ∙ h))
    by more false is =
        ap (λ b. if b then (e.0, v) ∷ es else e ∷ insert_entry same es k v) is
        ∙ ap (λ l. e ∷ l) (more (sym (ap (λ b. if b then Some e.1 else found k.now es) is) ∙ h))

pub noted_new : (k : Key) (v : ℕ) (old new : List (Key × ℕ)) → new ≡ insert_entry same old k v → found k.now old ≡ None
    → (x : List ℕ) → found x new ≡ or_else (found x old) (if bytes_eq x k.now then Some v else None)
noted_new k v old new e h x = ap (found x) (e ∙ inserted_last k v old h) ∙ lookup_last (λ j. bytes_eq x j.now) old k v

pub noted_there : (y : List ℕ) (v : ℕ) (es : List (Key × ℕ)) → is_some (found y es) ≡ true → (x : List ℕ) → found x es ≡ or_else (found x es) (if bytes_eq x y then Some v else None)
noted_there y v es h x = by (found x es) refl (bytes_eq x y) refl
  where
    by : (o : Option ℕ) → found x es ≡ o → (b : Bool) → bytes_eq x y ≡ b → o ≡ or_else o (if b then Some v else None)
    by (Some n) e b f = refl
    by None e false f = refl
    by None e true f =
        let one : x ≡ y = (bytes_eq-Decides x y).0 f in
        absurd (false≢true (ap is_some (sym e) ∙ ap (λ z. is_some (found z es)) one ∙ h))

pub drop_more : {A : Type 0} (rs : List A) (i : ℕ) (d : A) → i < length rs → drop i rs ≡ get_or rs i d ∷ drop (suc i) rs
drop_more [] i d lt = absurd (omega arith)
drop_more (r ∷ rs) zero d lt = refl
drop_more (r ∷ rs) (suc i) d lt = let lt' : i < length rs = omega arith in drop_more rs i d lt'

drop_all : {A : Type 0} (rs : List A) (i : ℕ) → length rs ≤ i → drop i rs ≡ []
drop_all [] zero le = refl
drop_all [] (suc i) le = refl
drop_all (r ∷ rs) zero le = absurd (omega arith)
drop_all (r ∷ rs) (suc i) le = let le' : length rs ≤ i = omega arith in drop_all rs i le'

else_step : (o : Option ℕ) (b : Bool) (i : ℕ) (rest : Option ℕ) → or_else (or_else o (if b then Some i else None)) rest ≡ or_else o (if b then Some i else rest)
else_step (Some n) b i rest = refl
else_step None true i rest = refl
else_step None false i rest = refl

else_none : (o : Option ℕ) → or_else o None ≡ o
else_none (Some n) = refl
else_none None = refl

module _ {A : Type 0} (f : A → List ℕ) (rs : List A) (all : List ℕ → Option ℕ) where
  pub first_step : (i : ℕ) (d : A) (name : List ℕ) (old new : List ℕ → Option ℕ) → i < length rs → name ≡ f (get_or rs i d)
      → ((x : List ℕ) → new x ≡ or_else (old x) (if bytes_eq x name then Some i else None))
      → ((x : List ℕ) → or_else (old x) (first_from i (map f (drop i rs)) x) ≡ all x)
      → (x : List ℕ) → or_else (new x) (first_from (i + 1) (map f (drop (i + 1) rs)) x) ≡ all x
  first_step i d name old new lt is put inv x =
      rw add-one
      (ap (λ o. or_else o (first_from (suc i) (map f (drop (suc i) rs)) x)) (put x)
      ∙ else_step (old x) (bytes_eq x name) i (first_from (suc i) (map f (drop (suc i) rs)) x)
      ∙ ap (λ n. or_else (old x) (if bytes_eq x n then Some i else first_from (suc i) (map f (drop (suc i) rs)) x)) is
      ∙ ap (λ l. or_else (old x) (first_from i (map f l) x)) (sym (drop_more rs i d lt))
      ∙ inv x)

  pub first_end : (i : ℕ) (old : List ℕ → Option ℕ) → length rs ≤ i → ((x : List ℕ) → or_else (old x) (first_from i (map f (drop i rs)) x) ≡ all x) → (x : List ℕ) → old x ≡ all x
  first_end i old le inv x = sym (else_none (old x)) ∙ ap (λ l. or_else (old x) (first_from i (map f l) x)) (sym (drop_all rs i le)) ∙ inv x
