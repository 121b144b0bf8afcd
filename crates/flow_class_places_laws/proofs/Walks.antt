-- Walks of two classes that are equal but for places are the same, and so is which place is empty when it is read.
use Rattle.std.proofs.Common.{◌≡◌, ℕ, zero, suc, List, [], ◌∷◌, ◌++◌, Bool, not, ◌&&◌, ◌||◌, map, refl, sym, ap, ap₂, ◌∙◌, subst}
use Rattle.std.proofs.lemmas.Option.{slice_get-map}
use Rattle.std.specs.Prelude.{option_map, slice_get, nat_lt, Contains}
use Rattle.std.specs.Option.{option_and_then}
use Rattle.std.specs.declared.option.Option.{Option}
use Rattle.std.specs.declared.option.Option.TheVariants.{None, Some}
use Rattle.flow_tree.specs.declared.ty.Ident.{Ident}
use Rattle.flow_tree.specs.Canon.{placeless_ident}
use Rattle.flow_class.specs.declared.class.Slotted.{Slotted}
use Rattle.flow_class.specs.declared.class.Slotted.TheVariants.{Slot, Local}
use Rattle.flow_class.specs.Classes.{CatcherTree, InstrTree, SetInstr, EffectInstr, NewInstr, ActInstr, DropInstr, LastTree, GotoLast, PassLast, TestLast, ChooseLast, ReturnLast, ThrowLast, BlockTree, CallbackTree, ClassTree}
use Rattle.flow_class.specs.Code.{Fetched, Body, Last, Nothing, fetch_in, fetch_at, fetch, catcher_in, catcher_at, group_at, callback_at}
use Rattle.flow_meaning.specs.Placeless.{placeless_instr, placeless_last, placeless_block, placeless_callback, placeless_class}
use Rattle.flow_valid.specs.Named.{targets}
use Rattle.flow_valid.specs.Filling.{among, filled_path, instr_reads, instr_fills, instr_empties, operands, group_reads, reads, is_parameter, behind, taken, Comes, ReadsEmpty, ReadsFilled, begins, goes_on, jumps, is_taken, fails, wait_fails}
use Rattle.flow_class_places_laws.proofs.Parts.{agree, some_alike}
use Rattle.flow_class_places_laws.proofs.Naming.{expr_places_aside, exprs_places_aside, base_place_aside, targets_aside, group_aside}

-- what instructions fill, empty and read
filled_path_aside : (xs : List Ident) → filled_path (map placeless_ident xs) ≡ filled_path xs
filled_path_aside [] = refl
filled_path_aside (x ∷ []) = refl
filled_path_aside (x ∷ (y ∷ ys)) = refl

fills_aside : (i : InstrTree) → instr_fills (placeless_instr i) ≡ instr_fills i
fills_aside (SetInstr xs e) = filled_path_aside xs
fills_aside (EffectInstr xs e) = filled_path_aside xs
fills_aside (NewInstr p) = refl
fills_aside (ActInstr xs es) = refl
fills_aside (DropInstr ns) = refl

empties_aside : (p : Slotted) (i : InstrTree) → instr_empties (placeless_instr i) p ≡ instr_empties i p
empties_aside p (SetInstr xs e) = refl
empties_aside p (EffectInstr xs e) = refl
empties_aside p (NewInstr q) = refl
empties_aside p (ActInstr xs es) = refl
empties_aside p (DropInstr ns) = refl

instr_reads_aside : (i : InstrTree) → instr_reads (placeless_instr i) ≡ instr_reads i
instr_reads_aside (SetInstr xs e) = ap₂ (λ ps qs. ps ++ qs) (base_place_aside xs) (expr_places_aside e)
instr_reads_aside (EffectInstr xs e) = ap₂ (λ ps qs. ps ++ qs) (base_place_aside xs) (expr_places_aside e)
instr_reads_aside (NewInstr p) = refl
instr_reads_aside (ActInstr xs es) = ap₂ (λ ps qs. ps ++ qs) (base_place_aside xs) (exprs_places_aside es)
instr_reads_aside (DropInstr ns) = refl

operands_aside : (ks : List CallbackTree) → operands (map placeless_callback ks) ≡ operands ks
operands_aside [] = refl
operands_aside (k ∷ ks) = ap₂ (λ ps qs. ps ++ qs) (expr_places_aside k.operand) (operands_aside ks)

group_reads_aside : (o : Option (List CallbackTree)) → group_reads (option_map (map placeless_callback) o) ≡ group_reads o
group_reads_aside None = refl
group_reads_aside (Some ks) = operands_aside ks

-- what stands at a position
abbrev placeless_fetched : Fetched → Fetched
placeless_fetched (Body i) = Body (placeless_instr i)
placeless_fetched (Last l) = Last (placeless_last l)
placeless_fetched Nothing = Nothing

fetch_aside : (c : ClassTree) (b n : ℕ) → fetch (placeless_class c) b n ≡ placeless_fetched (fetch c b n)
fetch_aside c b n = ap (λ o. fetch_at o n) (slice_get-map placeless_block c.blocks b) ∙ at (slice_get c.blocks b)
  where
    in_block : (is : List InstrTree) (l : LastTree) (n : ℕ) → fetch_in (map placeless_instr is) (placeless_last l) n ≡ placeless_fetched (fetch_in is l n)
    in_block [] l zero = refl
    in_block [] l (suc n) = refl
    in_block (i ∷ is) l zero = refl
    in_block (i ∷ is) l (suc n) = in_block is l n

    at : (o : Option BlockTree) → fetch_at (option_map placeless_block o) n ≡ placeless_fetched (fetch_at o n)
    at None = refl
    at (Some b) = in_block b.body b.last n

catcher_aside : (c : ClassTree) (b : ℕ) → catcher_at (placeless_class c) b ≡ catcher_at c b
catcher_aside c b = ap catcher_in (slice_get-map placeless_block c.blocks b) ∙ at (slice_get c.blocks b)
  where
    at : (o : Option BlockTree) → catcher_in (option_map placeless_block o) ≡ catcher_in o
    at None = refl
    at (Some b) = refl

callback_aside : (c : ClassTree) (g n : ℕ) → callback_at (placeless_class c) g n ≡ option_map placeless_callback (callback_at c g n)
callback_aside c g n = ap (λ o. option_and_then (λ ks. slice_get ks n) o) (group_aside c.groups g) ∙ at (group_at c.groups g)
  where
    at : (o : Option (List CallbackTree))
        → option_and_then (λ ks. slice_get ks n) (option_map (map placeless_callback) o) ≡ option_map placeless_callback (option_and_then (λ ks. slice_get ks n) o)
    at None = refl
    at (Some ks) = slice_get-map placeless_callback ks n

reads_aside : (c : ClassTree) (f : Fetched) → reads (placeless_class c) (placeless_fetched f) ≡ reads c f
reads_aside c (Body i) = instr_reads_aside i
reads_aside c (Last (GotoLast b)) = refl
reads_aside c (Last (PassLast b)) = refl
reads_aside c (Last (TestLast e b n)) = expr_places_aside e
reads_aside c (Last (ChooseLast g)) = ap group_reads (group_aside c.groups g) ∙ group_reads_aside (group_at c.groups g)
reads_aside c (Last (ReturnLast None)) = refl
reads_aside c (Last (ReturnLast (Some e))) = expr_places_aside e
reads_aside c (Last (ThrowLast e)) = expr_places_aside e
reads_aside c Nothing = refl

-- what is fetched behind an equal one without places
body_alike : (f : Fetched) (i : InstrTree) → placeless_fetched f ≡ Body (placeless_instr i) → (j : InstrTree) × (f ≡ Body j) × (placeless_instr j ≡ placeless_instr i)
body_alike (Body j) i h = (j, refl, same_of h)
  where
    same_of : {u v : InstrTree} → Body u ≡ Body v → u ≡ v
    same_of k = cc
body_alike (Last l) i h = absurd cc
body_alike Nothing i h = absurd cc

last_alike : (f : Fetched) (l : LastTree) → placeless_fetched f ≡ Last (placeless_last l) → (m : LastTree) × (f ≡ Last m) × (placeless_last m ≡ placeless_last l)
last_alike (Body j) l h = absurd cc
last_alike (Last m) l h = (m, refl, same_of h)
  where
    same_of : {u v : LastTree} → Last u ≡ Last v → u ≡ v
    same_of k = cc
last_alike Nothing l h = absurd cc

choose_alike : (l : LastTree) (g : ℕ) → placeless_last l ≡ ChooseLast g → l ≡ ChooseLast g
choose_alike (GotoLast b) g h = absurd cc
choose_alike (PassLast b) g h = absurd cc
choose_alike (TestLast e b n) g h = absurd cc
choose_alike (ChooseLast k) g h = h
choose_alike (ReturnLast e) g h = absurd cc
choose_alike (ThrowLast e) g h = absurd cc

-- c and d are equal but for places
module _ (c d : ClassTree) (alike : placeless_class c ≡ placeless_class d) where
  fetch_both : (b n : ℕ) → placeless_fetched (fetch d b n) ≡ placeless_fetched (fetch c b n)
  fetch_both b n = sym (fetch_aside d b n) ∙ ap (λ z. fetch z b n) (sym alike) ∙ fetch_aside c b n

  body_there : (b n : ℕ) (i : InstrTree) → fetch c b n ≡ Body i → (j : InstrTree) × (fetch d b n ≡ Body j) × (placeless_instr j ≡ placeless_instr i)
  body_there b n i h = body_alike (fetch d b n) i (fetch_both b n ∙ ap placeless_fetched h)

  last_there : (b n : ℕ) (l : LastTree) → fetch c b n ≡ Last l → (m : LastTree) × (fetch d b n ≡ Last m) × (placeless_last m ≡ placeless_last l)
  last_there b n l h = last_alike (fetch d b n) l (fetch_both b n ∙ ap placeless_fetched h)

  choose_there : (b n g : ℕ) → fetch c b n ≡ Last (ChooseLast g) → fetch d b n ≡ Last (ChooseLast g)
  choose_there b n g h = let m = last_there b n (ChooseLast g) h in m.1 ∙ ap (λ l. Last l) (choose_alike m.0 g m.2)

  catcher_there : (b : ℕ) (k : CatcherTree) → catcher_at c b ≡ Some k → catcher_at d b ≡ Some k
  catcher_there b k h = sym (catcher_aside d b) ∙ ap (λ z. catcher_at z b) (sym alike) ∙ catcher_aside c b ∙ h

  callback_there : (g n : ℕ) (k : CallbackTree) → callback_at c g n ≡ Some k
      → (j : CallbackTree) × (callback_at d g n ≡ Some j) × (placeless_callback j ≡ placeless_callback k)
  callback_there g n k h =
      some_alike placeless_callback (callback_at d g n) k
      (sym (callback_aside d g n) ∙ ap (λ z. callback_at z g n) (sym alike) ∙ callback_aside c g n ∙ ap (option_map placeless_callback) h)

  parameter_same : (p q : Slotted) → is_parameter d p q ≡ is_parameter c p q
  parameter_same p (Slot n) = ap (λ (z : ClassTree). nat_lt n z.params) (sym alike)
  parameter_same p (Local n) = refl

  behind_same : (p : Slotted) (i j : InstrTree) (filled : Bool) → placeless_instr j ≡ placeless_instr i → behind d p j filled ≡ behind c p i filled
  behind_same p i j filled h =
      ap₂ (λ ps x. among ps p || (filled && not x)) (agree placeless_instr instr_fills fills_aside j i h)
      (agree placeless_instr (λ z. instr_empties z p) (empties_aside p) j i h)

  pub comes_over : {p : Slotted} {b n : ℕ} {filled : Bool} → Comes c p b n filled → Comes d p b n filled
  comes_over {p} begins = subst (λ x. Comes d p 0 0 x) (parameter_same p p) begins
  comes_over {p} (goes_on {b} {n} {filled} i h e) =
      let j = body_there b n i e in subst (λ x. Comes d p b (suc n) x) (behind_same p i j.0 filled j.2) (goes_on j.0 (comes_over h) j.1)
  comes_over {p} (jumps {b} {n} {filled} l to h e m) =
      let k = last_there b n l e in jumps k.0 to (comes_over h) k.1 (subst (λ bs. Contains bs to) (sym (agree placeless_last targets targets_aside k.0 l k.2)) m)
  comes_over {p} (is_taken {b} {n} {filled} g branch k h e at) =
      let j = callback_there g branch k at in
      subst (λ (z : CallbackTree). Comes d p z.block 0 (taken d p z filled)) j.2 (is_taken g branch j.0 (comes_over h) (choose_there b n g e) j.1)
  comes_over {p} (fails {b} {n} {filled} k h at) = fails k (comes_over h) (catcher_there b k at)
  comes_over {p} (wait_fails {b} {n} {filled} g k h e at) = wait_fails g k (comes_over h) (choose_there b n g e) (catcher_there b k at)

  pub reads_same : (b n : ℕ) → reads c (fetch c b n) ≡ reads d (fetch d b n)
  reads_same b n =
      sym (reads_aside c (fetch c b n)) ∙ ap₂ (λ z f. reads z f) alike (sym (fetch_both b n)) ∙ reads_aside d (fetch d b n)

  pub empty_over : ReadsEmpty c → ReadsEmpty d
  empty_over h = (h.0, h.1, h.2, comes_over h.3, sym (ap (λ ps. among ps h.0) (reads_same h.1 h.2)) ∙ h.4)

pub filled_over : (c d : ClassTree) → placeless_class c ≡ placeless_class d → ReadsFilled c → ReadsFilled d
filled_over c d alike h p b n w =
    ap (λ ps. among ps p) (sym (reads_same c d alike b n)) ∙ h p b n (comes_over d c (sym alike) w)
