-- Parts of a body, as parts of its text.
use Rattle.std.proofs.Common.{◌≡◌, ℕ, ◌+◌, List, [], ◌++◌, length, refl, sym, ap, ◌∙◌, append_assoc, arith, length-append}
use Rattle.flow_base.specs.declared.place.Place.{Place}
use Rattle.flow_tree.specs.Body.{Body, End, AssignStmt, ModifyStmt, ChooseStmt, WaitStmt, Branches}
use Rattle.flow_tree.specs.Formed.{IsStep}
use Rattle.flow_tree.proofs.Folds.{folds_alike, branches_alike}
use Rattle.flow_staterule.specs.StateRule.{stmt_places, places_listed, wait_places, branch_places}
use Rattle.flow_typing_laws.specs.ControlFlow.Laws.{HasSimpleParts}
use Rattle.flow_meaning.specs.Requests.{Spot}
use Rattle.flow_meaning.specs.Text.{past, past_branches, spots_passed, stmt_spots, next_spot, branch_count}
use Rattle.flow_meaning.specs.Items.{Site, site_past, site_at}
use Rattle.flow_view_laws.specs.Within.{PartOf, BodyWithin}

-- the number of the wait after some
abbrev pub Passes : (Spot → Spot) → List Place → Type 0
Passes f ps = (s : Spot) → (f s).group ≡ s.group + length ps

pub both_pass : (f g : Spot → Spot) (xs ys : List Place) → Passes f xs → Passes g ys → Passes (λ s. g (f s)) (xs ++ ys)
both_pass f g xs ys p q s = omega (arith, p s, q (f s), length-append xs ys)

none_pass : Passes (λ s. s) []
none_pass s = omega arith

stmt_passes : (b : Body) (f : Spot → Spot) (ps : List Place) → Passes f ps → Passes (stmt_spots b f) (stmt_places b ++ ps)
stmt_passes (ChooseStmt at bs k) f ps h s = omega (arith, h (next_spot (branch_count bs) s))
stmt_passes (WaitStmt at w k) f ps h s = omega (arith, h (next_spot 1 s))
stmt_passes _ f ps h s = h s

pub past_passes : (b : Body) → Passes (past b) (wait_places b)
past_passes b = folds_alike Passes spots_passed places_listed (record {
  nothing = none_pass;
  both = λ f g xs ys p q. both_pass f g xs ys p q;
  of_stmt = λ c f ps p h. stmt_passes c f ps h;
  of_catch = λ x f ps h. h;
  of_wait = λ at w k f ps p h. h;
}) b

pub branches_pass : (bs : Branches) → Passes (past_branches bs) (branch_places bs)
branches_pass bs = branches_alike Passes spots_passed places_listed (record {
  nothing = none_pass;
  both = λ f g xs ys p q. both_pass f g xs ys p q;
  of_stmt = λ c f ps p h. stmt_passes c f ps h;
  of_catch = λ x f ps h. h;
  of_wait = λ at w k f ps p h. h;
}) bs

-- the step of a `for` has no wait
pub step_stays : (t : Body) → IsStep t → (s : Spot) → past t s ≡ s
step_stays End h s = refl
step_stays (AssignStmt at xs e End) h s = refl
step_stays (ModifyStmt at xs c End) h s = refl
step_stays _ h s = absurd h

module _ (all : List Place) where
  pub no_part : (g : ℕ) (xs : List Place) → PartOf all g xs → PartOf all g []
  no_part g xs p = record { front = p.front; behind = xs ++ p.behind; are = p.are; first = p.first }

  pub first_part : (g : ℕ) (xs ys : List Place) → PartOf all g (xs ++ ys) → PartOf all g xs
  first_part g xs ys p = record {
    front = p.front;
    behind = ys ++ p.behind;
    are = p.are ∙ ap (λ l. p.front ++ l) (append_assoc xs ys p.behind);
    first = p.first;
  }

  pub later_part : (g n : ℕ) (xs ys : List Place) → n ≡ g + length xs → PartOf all g (xs ++ ys) → PartOf all n ys
  later_part g n xs ys e p = record {
    front = p.front ++ xs;
    behind = p.behind;
    are = p.are ∙ ap (λ l. p.front ++ l) (append_assoc xs ys p.behind) ∙ sym (append_assoc p.front xs (ys ++ p.behind));
    first = omega (arith, e, p.first, length-append p.front xs);
  }

  pub first_body : (s : Site) (b : Body) (ys : List Place) → PartOf all s.spot.group (wait_places b ++ ys) → HasSimpleParts b → BodyWithin all s b
  first_body s b ys p h = record { waits = first_part s.spot.group (wait_places b) ys p; parts = h }

  pub later_body : (f : Spot → Spot) (s : Site) (xs : List Place) (k : Body) → Passes f xs → PartOf all s.spot.group (xs ++ wait_places k) → HasSimpleParts k
      → BodyWithin all (site_at (f s.spot) s) k
  later_body f s xs k e p h = record { waits = later_part s.spot.group (f s.spot).group xs (wait_places k) (e s.spot) p; parts = h }

  -- a body, and the one behind it
  pub two_bodies : (s : Site) (b k : Body) → PartOf all s.spot.group (wait_places b ++ wait_places k) → HasSimpleParts b → HasSimpleParts k
      → BodyWithin all s b × BodyWithin all (site_past b s) k
  two_bodies s b k p hb hk = (first_body s b (wait_places k) p hb, later_body (past b) s (wait_places b) k (past_passes b) p hk)

  pub three_bodies : (s : Site) (b c k : Body) → PartOf all s.spot.group ((wait_places b ++ wait_places c) ++ wait_places k) → HasSimpleParts b → HasSimpleParts c
      → HasSimpleParts k
      → BodyWithin all s b × BodyWithin all (site_past b s) c × BodyWithin all (site_past c (site_past b s)) k
  three_bodies s b c k p hb hc hk =
      let xs = wait_places b ++ wait_places c in
      let inner = two_bodies s b c (first_part s.spot.group xs (wait_places k) p) hb hc in (
        inner.0,
        inner.1,
        later_body (λ z. past c (past b z)) s xs k (both_pass (past b) (past c) (wait_places b) (wait_places c) (past_passes b) (past_passes c)) p hk,
      )

  pub empty_body : (s : Site) (xs : List Place) → PartOf all s.spot.group xs → BodyWithin all s End
  empty_body s xs p = record { waits = no_part s.spot.group xs p; parts = tt }
