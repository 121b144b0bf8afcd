-- What lines say, one after another.
use Rattle.std.proofs.Common.{◌≡◌, ℕ, inl, inr, List, [], ◌∷◌, ◌++◌, ap, ap₂, sym, ◌∙◌, refl}
use Rattle.flow_worldfile.specs.declared.directive.Directive.{Directive}
use Rattle.flow_worldfile.specs.Lines.{IsPassedOver}
use Rattle.flow_worldfile.specs.Directives.{HasForm}
use Rattle.flow_worldfile.specs.Reading.{Say}
use Rattle.flow_worldfile.proofs.FormLemmas.{one_form}
use Rattle.flow_worldfile.proofs.RuleLemmas.{over_formless}

-- one more line that is passed over
pub say_over : (front : List (List ℕ)) (line : List ℕ) (ds : List Directive) → Say front ds → IsPassedOver line → Say (front ++ line ∷ []) ds
say_over [] line ds says over = inl (over, says)
say_over (l ∷ ls) line ds (inl h) over = inl (h.0, say_over ls line ds h.1 over)
say_over (l ∷ ls) line ds (inr h) over = inr (h.0, h.1, h.2, h.3, say_over ls line h.1 h.4 over)

-- one more line that has a form
pub say_more : (front : List (List ℕ)) (line : List ℕ) (ds : List Directive) (d : Directive) → Say front ds → HasForm line d → Say (front ++ line ∷ []) (ds ++ d ∷ [])
say_more [] line ds d says form = inr (d, [], ap (λ l. l ++ d ∷ []) says, form, refl)
say_more (l ∷ ls) line ds d (inl h) form = inl (h.0, say_more ls line ds d h.1 form)
say_more (l ∷ ls) line ds d (inr h) form = inr (h.0, h.1 ++ d ∷ [], ap (λ xs. xs ++ d ∷ []) h.2, h.3, say_more ls line h.1 d h.4 form)

-- lines say one thing
pub say_once : (ls : List (List ℕ)) (ds es : List Directive) → Say ls ds → Say ls es → ds ≡ es
say_once [] ds es g h = g ∙ sym h
say_once (l ∷ ls) ds es (inl g) (inl h) = say_once ls ds es g.1 h.1
say_once (l ∷ ls) ds es (inl g) (inr h) = absurd (over_formless l h.0 g.0 h.3)
say_once (l ∷ ls) ds es (inr g) (inl h) = absurd (over_formless l g.0 h.0 g.3)
say_once (l ∷ ls) ds es (inr g) (inr h) = g.2 ∙ ap₂ (λ x xs. x ∷ xs) (one_form l g.0 h.0 g.3 h.3) (say_once ls g.1 h.1 g.4 h.4) ∙ sym h.2

-- what the first lines say, and what the others say
pub record SaySplit (front others : List (List ℕ)) (ds : List Directive) : Type 0 where
  pub here : List Directive
  pub there : List Directive
  pub is : ds ≡ here ++ there
  pub says_front : Say front here
  pub says_others : Say others there

pub say_split : (front others : List (List ℕ)) (ds : List Directive) → Say (front ++ others) ds → SaySplit front others ds
say_split [] others ds says = record { here = []; there = ds; is = refl; says_front = refl; says_others = says }
say_split (l ∷ ls) others ds (inl h) =
    let s = say_split ls others ds h.1 in
    record { here = s.here; there = s.there; is = s.is; says_front = inl (h.0, s.says_front); says_others = s.says_others }
say_split (l ∷ ls) others ds (inr h) =
    let s = say_split ls others h.1 h.4 in
    record {
      here = h.0 ∷ s.here;
      there = s.there;
      is = h.2 ∙ ap (λ xs. h.0 ∷ xs) s.is;
      says_front = inr (h.0, s.here, refl, h.3, s.says_front);
      says_others = s.says_others;
    }
