-- What is known at each point of a whole body.
use Rattle.std.proofs.Common.{◌≡◌, ℕ, zero, suc, ◌+◌, ◌≤◌, ◌⊎◌, inl, inr, List, [], ◌∷◌, ◌++◌, length, get_or, refl, sym, ap, subst, ◌∙◌, arith}
use Rattle.std.specs.Prelude.{Contains}
use Rattle.std.proofs.lemmas.List.Elements.{Contains-append_left, Contains-append_right}
use Rattle.std.specs.declared.option.Option.TheVariants.{None}
use Rattle.flow_tree.specs.Body.{Body}
use Rattle.flow_staterule.specs.Ways.{ways, at_once}
use Rattle.flow_staterule.specs.Uses.{begins}
use Rattle.flow_typing_laws.specs.ControlFlow.Control.{points, Around, leads, first, edges, control, closing}
use Rattle.flow_typing_laws.specs.ControlFlow.Mentions.{Named}
use Rattle.flow_typing_laws.specs.ControlFlow.Laws.{HasSimpleParts}
use Rattle.flow_typing_laws.proofs.ControlFlow.Notes.{Note, note, behind_all, notes, notes_many, Tells, tells_first, tells_rest, tells_itself}
use Rattle.flow_typing_laws.proofs.ControlFlow.Leading.{Into, into_self, Exits, none_some}
use Rattle.flow_typing_laws.proofs.ControlFlow.Flowing.{Flow, Below, Kept, leads_flow, to_one, then_flow, into_first}
use Rattle.flow_typing_laws.proofs.ControlFlow.AlongEdges.{flows}
use Rattle.flow_typing_laws.proofs.ControlFlow.Walking.{Part, Walked}
use Rattle.flow_typing_laws.proofs.ControlFlow.WaysWalked.{walked}

abbrev pub around : Body → Around
around b = record { follows = closing b; breaks = None; continues = None; catches = None }

-- with these variables before the opening brace, and those behind it
abbrev pub last_note : ℕ → Body → List Named → Note
last_note n b vs = note vs (behind_all vs begins (ways n b).ends)

abbrev pub all_notes : ℕ → Body → List Named → List Named → List Note
all_notes n b us vs = (note us begins ∷ []) ++ (notes n b 1 vs begins ++ (last_note n b vs ∷ []))

abbrev pub told : ℕ → Body → List Named → List Named → ℕ → Note
told n b us vs m = get_or (all_notes n b us vs) m (note us begins)

pub told_first : (n : ℕ) (b : Body) (us vs : List Named) → told n b us vs 0 ≡ note us begins
told_first n b us vs = refl

told_rest : (n : ℕ) (b : Body) (us vs : List Named) → Tells (told n b us vs) 1 (notes n b 1 vs begins ++ (last_note n b vs ∷ []))
told_rest n b us vs = tells_itself (note us begins ∷ []) (notes n b 1 vs begins ++ (last_note n b vs ∷ [])) (note us begins)

pub told_body : (n : ℕ) (b : Body) (us vs : List Named) → Tells (told n b us vs) 1 (notes n b 1 vs begins)
told_body n b us vs = tells_first (told n b us vs) 1 (notes n b 1 vs begins) (last_note n b vs ∷ []) (told_rest n b us vs)

pub told_last : (n : ℕ) (b : Body) (us vs : List Named) → told n b us vs (closing b) ≡ last_note n b vs
told_last n b us vs =
    let t = tells_rest (told n b us vs) 1 (points b) (notes n b 1 vs begins) (last_note n b vs ∷ []) (notes_many n b 1 vs begins) (told_rest n b us vs) in
    let e : closing b ≡ 1 + points b = omega arith in
    ap (told n b us vs) e ∙ t.0

routine_exits : (n : ℕ) (b : Body) (us vs : List Named) → Exits (told n b us vs) (ways n b) vs begins (around b)
routine_exits n b us vs = record {
  follows = subst (Into (ways n b).ends vs begins) (sym (told_last n b us vs)) (into_self (ways n b).ends vs begins);
  breaks = λ t e. absurd (none_some t e);
  continues = λ t e. absurd (none_some t e);
  catches = λ t e. absurd (none_some t e);
}

pub routine_kept : (n : ℕ) (b : Body) (us vs : List Named) → HasSimpleParts b → Below 1 vs
    → ((y : Note) → Into at_once vs begins y → Flow 0 (note us begins) y) → Kept (told n b us vs) (control b)
routine_kept n b us vs s below begin =
    let t = told n b us vs in
    let x = routine_exits n b us vs in
    let f = first b 1 (closing b) in
    let z : 0 ≤ length vs = omega arith in
    then_flow t (leads 0 (f ∷ [])) (edges b 1 (around b))
    (leads_flow t 0 (f ∷ []) (to_one t 0 f (begin (t f) (into_first t n b 1 vs begins (closing b) s (told_body n b us vs) x.follows))))
    (flows t n b 1 vs begins (around b) s (told_body n b us vs) below z x)

pub routine_part : (n : ℕ) (b : Body) (us vs : List Named) → Part (told n b us vs) (control b) (edges b 1 (around b))
routine_part n b us vs = record { holds = λ e c. Contains-append_right (leads 0 (first b 1 (closing b) ∷ [])) (edges b 1 (around b)) e c }

pub routine_walked : (n : ℕ) (b : Body) (us vs : List Named) → Walked (told n b us vs) (control b) (ways n b) 1 (first b 1 (closing b)) (around b)
routine_walked n b us vs = walked (told n b us vs) (control b) n b 1 vs begins (around b) (told_body n b us vs) (routine_part n b us vs)

pub begin_leads : (b : Body) → Contains (control b) (record { from = 0; to = first b 1 (closing b) })
begin_leads b = Contains-append_left (leads 0 (first b 1 (closing b) ∷ [])) (edges b 1 (around b)) _ (0, omega arith, refl)

-- Equal numbers.
pub same_or : (p q : ℕ) → (p ≡ q) ⊎ (p ≡ q → ⊥)
same_or zero zero = inl refl
same_or zero (suc q) = inr (λ h. omega (arith, h))
same_or (suc p) zero = inr (λ h. omega (arith, h))
same_or (suc p) (suc q) = elim (same_or p q) [ inl e ↦ inl (ap suc e) | inr n ↦ inr (λ h. n (omega (arith, h))) ]
