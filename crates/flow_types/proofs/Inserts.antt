-- What is put into the maps of the code comes last in their tables.
use Rattle.std.proofs.Common.{◌≡◌, ℕ, Bool, true, false, List, [], ◌∷◌, ◌++◌, map, if◌then◌else◌, refl, sym, ap, subst, ◌∙◌}
use Rattle.std.specs.Str.{bytes_eq}
use Rattle.std.specs.List.{list_any}
use Rattle.std.specs.declared.option.Option.{Option}
use Rattle.std.specs.declared.option.Option.TheVariants.{None, Some}
use denote.Ref.{Bor}
use Rattle.indexmap.specs.IndexMap.{insert_entry}
use Rattle.indexmap.specs.IndexSet.{insert_key}
use Rattle.flow_ast.specs.TypingNames.{named}
use Rattle.flow_rules.specs.Items.{among}
use Rattle.flow_types.specs.MapView.{bound}
use Rattle.flow_types.proofs.Lookups.{among_any}

pub row_inserted : {A X : Type 0} (f : A → X) (k : Bor (List ℕ)) (v : A) (es : List (Bor (List ℕ) × A)) → named (map (bound f) es) k.now ≡ None
    → map (bound f) (insert_entry (λ (x y : Bor (List ℕ)). bytes_eq x.now y.now) es k v) ≡ map (bound f) es ++ (k.now, f v) ∷ []
row_inserted f k v [] h = refl
row_inserted f k v (e ∷ es) h = by (row_inserted f k v es) (bytes_eq k.now e.0.now) refl
  where
    by : (named (map (bound f) es) k.now ≡ None → map (bound f) (insert_entry (λ (x y : Bor (List ℕ)). bytes_eq x.now y.now) es k v) ≡ map (bound f) es ++ (k.now, f v) ∷ [])
        → (b : Bool) → bytes_eq k.now e.0.now ≡ b
        → map (bound f) (if bytes_eq k.now e.0.now then (e.0, v) ∷ es else e ∷ insert_entry (λ (x y : Bor (List ℕ)). bytes_eq x.now y.now) es k v) ≡ bound f e ∷ (map (bound f) es ++ (k.now, f v) ∷ [])
    by more true is = let there : Some (f e.1) ≡ None = sym (ap (λ b. if b then Some (f e.1) else named (map (bound f) es) k.now) is) ∙ h in cc
    by more false is =
        ap (λ b. map (bound f) (if b then (e.0, v) ∷ es else e ∷ insert_entry (λ (x y : Bor (List ℕ)). bytes_eq x.now y.now) es k v)) is
        ∙ ap (λ l. bound f e ∷ l) (more (sym (ap (λ b. if b then Some (f e.1) else named (map (bound f) es) k.now) is) ∙ h))

pub text_inserted : (k : Bor (List ℕ)) (ks : List (Bor (List ℕ))) → among (map (λ (x : Bor (List ℕ)). x.now) ks) k.now ≡ false
    → map (λ (x : Bor (List ℕ)). x.now) (insert_key (λ (x y : Bor (List ℕ)). bytes_eq x.now y.now) ks k) ≡ map (λ (x : Bor (List ℕ)). x.now) ks ++ k.now ∷ []
text_inserted k ks h =
    ap (λ b. map (λ (x : Bor (List ℕ)). x.now) (if b then ks else ks ++ k ∷ [])) (sym (among_any k.now ks) ∙ h) ∙ last ks
  where
    last : (l : List (Bor (List ℕ))) → map (λ (x : Bor (List ℕ)). x.now) (l ++ k ∷ []) ≡ map (λ (x : Bor (List ℕ)). x.now) l ++ k.now ∷ []
    last [] = refl
    last (x ∷ l) = ap (λ r. x.now ∷ r) (last l)
