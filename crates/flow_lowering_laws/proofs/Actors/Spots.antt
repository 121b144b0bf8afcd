-- The numbers of waits behind a lowered body are those behind the body in its text.
use Rattle.std.proofs.Common.{◌≡◌, suc, Bool, List, [], ◌∷◌, ◌++◌, length, refl, ap, sym, ◌∙◌}
use Rattle.std.proofs.lemmas.List.{map-append}
use Rattle.flow_tree.specs.Body.{WaitTree, Body, End, ChooseStmt, AssignStmt, ModifyStmt, WaitStmt, Branches, NoBranches, MoreBranches}
use Rattle.flow_tree.specs.Decls.{SlotTree}
use Rattle.flow_ast.specs.Slots.{body_groups, branch_groups, branch_waits, stmt_groups, groups_listed}
use Rattle.flow_class.specs.Classes.{CallbackTree}
use Rattle.flow_class.specs.Scopes.{Scope}
use Rattle.flow_meaning.specs.Requests.{Spot}
use Rattle.flow_meaning.specs.Evaluating.{Names}
use Rattle.flow_meaning.specs.Shape.{waits_kinds, callback_kinds}
use Rattle.flow_meaning.specs.Text.{next_spot, branch_count}
use Rattle.flow_meaning.specs.Text as text
use Rattle.flow_split.specs.Around.{Around}
use Rattle.flow_split.specs.Counts.{Next}
use Rattle.flow_split.specs.Lowered.{Chunk, callbacks, lowered, branches}
use Rattle.flow_tree.specs.Formed.{IsStep}
use Rattle.flow_tree.proofs.Folds.{Agree, folds_alike, branches_alike}
use Rattle.flow_lowering_laws.specs.Actors.Parts.{HasParts, HaveParts}
use Rattle.flow_lowering_laws.proofs.Actors.Standing.{moved, moved_append}
use Rattle.flow_lowering_laws.proofs.Actors.Groups.{kinds, wanted, branch_kinds, lowered_kinds, branches_kinds}

-- a chunk and another one: the waits of both
pub both : (gs hs : List (List CallbackTree)) (x y z : Spot) → moved gs x ≡ y → moved hs y ≡ z → moved (gs ++ hs) x ≡ z
both gs hs x y z a b = moved_append gs hs x ∙ ap (moved hs) a ∙ b

-- the next wait behind groups that take so much
spread : List (List Bool) → Spot → Spot
spread [] x = x
spread (ks ∷ rest) x = spread rest (next_spot (length ks) x)

spread_append : (ks ls : List (List Bool)) (x : Spot) → spread (ks ++ ls) x ≡ spread ls (spread ks x)
unfolding spread
spread_append [] ls x = refl
spread_append (k ∷ ks) ls x = spread_append ks ls (next_spot (length k) x)

kinds_count : (cs : List CallbackTree) → length (callback_kinds cs) ≡ length cs
kinds_count [] = refl
kinds_count (c ∷ cs) = ap suc (kinds_count cs)

moved_spread : (gs : List (List CallbackTree)) (x : Spot) → moved gs x ≡ spread (kinds gs) x
unfolding spread
moved_spread [] x = refl
moved_spread (cs ∷ gs) x = moved_spread gs (next_spot (length cs) x) ∙ ap (λ n. spread (kinds gs) (next_spot n x)) (sym (kinds_count cs))

waits_count : (bs : Branches) → length (waits_kinds (branch_waits bs)) ≡ branch_count bs
waits_count NoBranches = refl
waits_count (MoreBranches at w b bs) = ap suc (waits_count bs)

-- of groups one after another
two : (us vs : List (List WaitTree)) (x y z : Spot) → spread (wanted us) x ≡ y → spread (wanted vs) y ≡ z → spread (wanted (us ++ vs)) x ≡ z
two us vs x y z e f = ap (λ ks. spread ks x) (map-append waits_kinds us vs) ∙ spread_append (wanted us) (wanted vs) x ∙ ap (spread (wanted vs)) e ∙ f

-- the groups of a body are spread as its waits are numbered
abbrev SpreadBy : List (List WaitTree) → (Spot → Spot) → Type 0
SpreadBy gs f = (x : Spot) → spread (wanted gs) x ≡ f x

choose_from : (bs : Branches) (gs : List (List WaitTree)) (f : Spot → Spot) → SpreadBy gs f → SpreadBy (branch_waits bs ∷ gs) (λ x. f (next_spot (branch_count bs) x))
unfolding spread
choose_from bs gs f h x = ap (λ n. spread (wanted gs) (next_spot n x)) (waits_count bs) ∙ h (next_spot (branch_count bs) x)

stmt_spread : (s : Body) (gs : List (List WaitTree)) (f : Spot → Spot) → SpreadBy gs f → SpreadBy (stmt_groups s ++ gs) (text.stmt_spots s f)
unfolding spread
stmt_spread (ChooseStmt at bs k) gs f h = choose_from bs gs f h
stmt_spread (WaitStmt at w k) gs f h = λ x. h (next_spot 1 x)
stmt_spread _ gs f h = λ x. h x

all_spread : Agree SpreadBy (λ s. Unit {0}) groups_listed text.spots_passed
unfolding spread
all_spread = record {
  nothing = λ x. refl;
  both = λ us vs f g h k x. two us vs x (f x) (g (f x)) (h x) (k (f x));
  of_stmt = λ s gs f p h. stmt_spread s gs f h;
  of_catch = λ v gs f h. h;
  of_wait = λ at w k gs f p h. h;
}

past_groups : (b : Body) (x : Spot) → spread (wanted (body_groups b)) x ≡ text.past b x
past_groups b = folds_alike SpreadBy groups_listed text.spots_passed all_spread b

choose_groups : (bs : Branches) (x : Spot) → spread (wanted (branch_waits bs ∷ branch_groups bs)) x ≡ text.past_branches bs (next_spot (branch_count bs) x)
choose_groups bs x = choose_from bs (branch_groups bs) (λ y. text.past_branches bs y) (branches_alike SpreadBy groups_listed text.spots_passed all_spread bs) x

-- nor is there one in a part of a `for`
pub step_still : (b : Body) (x : Spot) → IsStep b → text.past b x ≡ x
step_still End x h = refl
step_still (AssignStmt at xs e End) x h = refl
step_still (ModifyStmt at xs d End) x h = refl
step_still _ x h = absurd h

module _ (ns : Names) (slots : List SlotTree) where
  pub lowered_moved : (s : Scope) (w : Around) (n : Next) (b : Body) (x : Spot) → HasParts b → moved (lowered ns slots s w n b).groups x ≡ text.past b x
  lowered_moved s w n b x h = moved_spread (lowered ns slots s w n b).groups x ∙ ap (λ ks. spread ks x) (lowered_kinds ns slots s w n b h) ∙ past_groups b x

  pub callbacks_count : (s : Scope) (t : Bool) (n : Next) (bs : Branches) → length (callbacks ns slots s t n bs) ≡ branch_count bs
  callbacks_count s t n bs = sym (kinds_count (callbacks ns slots s t n bs)) ∙ ap length (branch_kinds ns slots s t n bs) ∙ waits_count bs

  -- of a choose with all its branches
  pub choose_moved : (c : Chunk) (s : Scope) (w : Around) (n : Next) (bs : Branches) (x : Spot) → kinds c.groups ≡ wanted (branch_waits bs ∷ []) → HaveParts bs
      → moved (branches ns slots c s w n bs).groups x ≡ text.past_branches bs (next_spot (branch_count bs) x)
  choose_moved c s w n bs x e h =
      moved_spread (branches ns slots c s w n bs).groups x ∙ ap (λ ks. spread ks x) (branches_kinds ns slots c s w n bs (branch_waits bs ∷ []) e h) ∙ choose_groups bs x
