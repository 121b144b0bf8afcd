-- A body is left by its end exactly where a walk leads there.
use Rattle.std.proofs.Common.{◌≡◌, ℕ, ◌≤◌, Bool, true, false, ◌||◌, inl, inr, List, [], ◌∷◌, refl, sym, ap, subst, ◌∙◌, arith}
use Rattle.std.proofs.lemmas.Bool.{false≢true}
use Rattle.std.proofs.lemmas.List.Elements.{All-contains}
use Rattle.std.specs.declared.option.Option.TheVariants.{Some}
use Rattle.flow_tree.specs.Body.{Body}
use Rattle.flow_rules.specs.Closing as rule
use Rattle.flow_staterule.specs.Ways.{ways, at_once}
use Rattle.flow_staterule.specs.Uses.{behind, begins}
use Rattle.flow_typing_laws.specs.ControlFlow.Graph.{Edge, Walk, stay, go}
use Rattle.flow_typing_laws.specs.ControlFlow.Control.{control, closing, first}
use Rattle.flow_typing_laws.specs.ControlFlow.Mentions.{Declared, Named}
use Rattle.flow_typing_laws.specs.ControlFlow.Laws.{HasSimpleParts, ComesToEnd, EndsByWalk}
use Rattle.flow_typing_laws.proofs.ControlFlow.Notes.{Note}
use Rattle.flow_typing_laws.proofs.ControlFlow.Leading.{Has}
use Rattle.flow_typing_laws.proofs.ControlFlow.Flowing.{Flow, Below, IsFlow, Kept, flow_more, point_of}
use Rattle.flow_typing_laws.proofs.ControlFlow.Walking.{reached_trail}
use Rattle.flow_typing_laws.proofs.ControlFlow.WholeBody.{told, told_last, routine_kept, routine_walked, begin_leads, same_or}
use Rattle.flow_typing_laws.proofs.ControlFlow.SameEnds.{same_ways}

-- a local that is declared at the opening brace
abbrev mark : Declared
mark = record { at = record { line = 0; column = 0; byte = 0 }; point = 0 }

abbrev marked : Named
marked = record { name = []; local = Some mark }

abbrev marked_notes : Body → ℕ → Note
marked_notes b = told 0 b [] (marked ∷ [])

mark_point : (d : Declared) → Some mark ≡ Some d → d.point ≡ 0
mark_point d e = sym (ap point_of e)

mark_below : Below 1 (marked ∷ [])
mark_below j d (inl o) = let e = mark_point d o.1 in omega (arith, e)
mark_below j d (inr h) = absurd h

none_below : Below 0 []
none_below j d h = absurd h

kept : (b : Body) → HasSimpleParts b → Kept (marked_notes b) (control b)
kept b s =
    let z : 0 ≤ 0 = omega arith in
    routine_kept 0 b [] (marked ∷ []) s mark_below
    (λ y i. flow_more (marked_notes b) 0 marked [] begins false at_once y (λ e. absurd (false≢true e)) refl none_below z mark_point i)

-- what is declared at the brace reaches the points of each walk from it
abbrev IsMarked : Note → Type 0
IsMarked a = (j : ℕ) (d : Declared) → Has a.named j d → d.point ≡ 0 → a.point.from ≤ j

mark_step : (x : ℕ) (a c : Note) → Flow x a c → IsMarked a → IsMarked c
mark_step x a c f m j d h e = elim (same_or d.point x) [ inl y ↦ f.begins j d h y | inr n ↦ f.from j d h n (m j d (f.keeps j d h n) e) ]

mark_walk : (tell : ℕ → Note) (g : List (Edge ℕ)) → Kept tell g → {x y : ℕ} {left : List ℕ} → Walk g x left y → IsMarked (tell x) → IsMarked (tell y)
mark_walk tell g k (stay x) m = m
mark_walk tell g k (go x z e w) m = mark_walk tell g k w (mark_step x (tell x) (tell z) (All-contains (IsFlow tell) g (record { from = x; to = z }) k.along e) m)

-- it reaches the end only where a way leads there
reached_end : (f w : Bool) → (behind 1 begins (record { fresh = f; waited = w })).from ≤ 0 → f || w ≡ true
reached_end true w le = refl
reached_end false true le = refl
reached_end false false le = absurd (omega (arith, le))

walk_ends : (b : Body) → HasSimpleParts b → ComesToEnd b → (rule.ways b).end ≡ true
walk_ends b s r =
    let m = mark_walk (marked_notes b) (control b) (kept b s) r.1 (λ j d h. absurd h) in
    let e = told_last 0 b [] (marked ∷ []) in
    let m' = subst IsMarked e m in
    let le = m' 0 mark (inl (refl, refl)) refl in
    (same_ways 0 b s).end ∙ reached_end (ways 0 b).ends.fresh (ways 0 b).ends.waited le

end_walks : (b : Body) → HasSimpleParts b → (rule.ways b).end ≡ true → ComesToEnd b
end_walks b s e =
    let w = routine_walked 0 b [] (marked ∷ []) in
    let t = reached_trail (marked_notes b) (control b) (ways 0 b).ends.fresh (ways 0 b).ends.waited 1 (first b 1 (closing b)) (closing b) w.ends (sym ((same_ways 0 b s).end) ∙ e) in
    (0 ∷ t.left, go 0 (first b 1 (closing b)) (begin_leads b) t.walk)

pub ends_by_walk : (b : Body) → EndsByWalk b
ends_by_walk b s = (end_walks b s, walk_ends b s)
