-- The class of an actor carries it.
use Rattle.std.proofs.Common.{◌≡◌, ℕ, suc, ◌+◌, true, false, List, [], ◌∷◌, ◌++◌, length, slice_get, refl, ap, sym, subst, ◌∙◌, arith, length-append, append_assoc, Bool, if◌then◌else◌}
use Rattle.std.specs.declared.option.Option.TheVariants.{None, Some}
use Rattle.std.specs.Prelude.{is_none}
use Rattle.flow_tree.specs.Tree.{TypeTree}
use Rattle.flow_tree.specs.Decls.{RoutineTree}
use Rattle.flow_ast.specs.Slots.{slots_of}
use Rattle.flow_ast.specs.Typing.{is_nothing}
use Rattle.flow_class.specs.Classes.{BlockTree, CallbackTree, ClassTree}
use Rattle.flow_class.specs.Code.{callbacks_before}
use Rattle.flow_layout.specs.Laying.{layout_of}
use Rattle.flow_meaning.specs.Requests.{Spot}
use Rattle.flow_meaning.specs.Evaluating.{Names}
use Rattle.flow_meaning.specs.Text.{first_spot, next_spot}
use Rattle.flow_meaning.specs.Carry.{entry}
use Rattle.flow_meaning.specs.Carries.{Carries}
use Rattle.flow_meaning.specs.Source.{first_site}
use Rattle.flow_split.specs.Around.{whole}
use Rattle.flow_split.specs.Counts.{Next}
use Rattle.flow_split.specs.Lowered.{lowered, lowered_class, close_of}
use Rattle.flow_lowering_laws.specs.Actors.Parts.{HasParts}
use Rattle.flow_lowering_laws.specs.Actors.InPlace.{InPlace}
use Rattle.flow_lowering_laws.specs.Actors.Laws.{IsSmall}
use Rattle.flow_lowering_laws.proofs.Actors.Standing.{BlocksAt, LocalsAt, GroupsAt, in_blocks}
use Rattle.flow_lowering_laws.proofs.Actors.Carried.{carried}

seam : {A : Type 0} (pre xs : List A) (x : A) → slice_get (pre ++ x ∷ xs) (length pre) ≡ Some x
seam [] xs x = refl
seam (y ∷ pre) xs x = seam pre xs x

one_more : {A : Type 0} (pre : List A) (x : A) → length (pre ++ x ∷ []) ≡ suc (length pre)
one_more pre x = omega (arith, length-append pre (x ∷ []))

-- how many callbacks there are
total : List (List CallbackTree) → ℕ
total [] = 0
total (g ∷ gs) = length g + total gs

total_more : (pre : List (List CallbackTree)) (g : List CallbackTree) → total (pre ++ g ∷ []) ≡ total pre + length g
unfolding total
total_more [] g = omega arith
total_more (h ∷ pre) g = omega (arith, total_more pre g)

before : (pre gs : List (List CallbackTree)) → callbacks_before (pre ++ gs) (suc (length pre)) ≡ total pre
unfolding total
before [] gs = refl
before (h ∷ pre) gs = ap (λ n. length h + n) (before pre gs)

spot_behind : List (List CallbackTree) → Spot
spot_behind pre = record { group = suc (length pre); first = total pre }

next_behind : (pre : List (List CallbackTree)) (g : List CallbackTree) → spot_behind (pre ++ g ∷ []) ≡ next_spot (length g) (spot_behind pre)
unfolding spot_behind
next_behind pre g i = record { group = suc (one_more pre g i); first = total_more pre g i }

module _ (ns : Names) (c : ClassTree) where
  -- what a class has stands in it
  all_blocks : (pre bs : List BlockTree) → c.blocks ≡ pre ++ bs → BlocksAt ns c (length pre) bs
  all_blocks pre [] e = tt
  all_blocks pre (b ∷ bs) e = (
    ap (λ xs. slice_get xs (length pre)) e ∙ seam pre bs b,
    subst (λ n. BlocksAt ns c n bs) (one_more pre b) (all_blocks (pre ++ b ∷ []) bs (e ∙ sym (append_assoc pre (b ∷ []) bs))),
  )

  all_locals : (pre ts : List TypeTree) → c.locals ≡ pre ++ ts → LocalsAt ns c (length pre) ts
  all_locals pre [] e = tt
  all_locals pre (t ∷ ts) e = (
    ap (λ xs. slice_get xs (length pre)) e ∙ seam pre ts t,
    subst (λ n. LocalsAt ns c n ts) (one_more pre t) (all_locals (pre ++ t ∷ []) ts (e ∙ sym (append_assoc pre (t ∷ []) ts))),
  )

  all_groups : (pre gs : List (List CallbackTree)) → c.groups ≡ pre ++ gs → GroupsAt ns c (spot_behind pre) gs
  unfolding spot_behind
  all_groups pre [] e = tt
  all_groups pre (g ∷ gs) e = (
    ap (λ xs. slice_get xs (length pre)) e ∙ seam pre gs g,
    (λ i. record { group = suc (length pre); first = (ap (λ xs. callbacks_before xs (suc (length pre))) e ∙ before pre (g ∷ gs)) i }),
    subst (λ x. GroupsAt ns c x gs) (next_behind pre g) (all_groups (pre ++ g ∷ []) gs (e ∙ sym (append_assoc pre (g ∷ []) gs))),
  )

-- no locals, blocks or groups yet, but for the first block
abbrev start : Next
start = record { block = 1; local = 0; group = 1 }

pub keeps_text : (ns : Names) (a : RoutineTree) → IsSmall a → HasParts a.body → InPlace (slots_of a) false false [] a.body → Carries ns a (lowered_class ns (layout_of a) a)
unfolding spot_behind total
keeps_text ns a small parts ok =
    let c = lowered_class ns (layout_of a) a in
    let w = whole (close_of a) in
    let ch = lowered ns c.slots [] w start a.body in
    let st = in_blocks ns c 0 first_spot None ch (all_blocks ns c [] c.blocks refl) (all_groups ns c [] c.groups refl) in
    carried ns c small.slots small.locals a.body false [] w start (first_site a) [] [] (entry 0)
    (record { ends = (refl, by_result (is_nothing a.returns)); breaks = λ e. absurd (no_loop e); continues = λ e. absurd (no_loop e); hand = tt; named = refl; above = tt; known = tt; group = refl })
    (all_locals ns c [] c.locals refl) parts ok st
  where
    no_loop : false ≡ true → ⊥
    no_loop e = cc

    by_result : (b : Bool) → is_none (if b then None else Some a.close) ≡ b
    by_result true = refl
    by_result false = refl
