-- An actor that stands somewhere does so in memory.
use Rattle.std.proofs.Common.{◌≡◌, ℕ, zero, suc, ◌+◌, List, [], ◌∷◌, length, map, refl, sym, ap, ◌∙◌, subst, arith}
use Rattle.std.specs.Prelude.{slice_get}
use Rattle.std.specs.Option.{option_map}
use Rattle.std.specs.declared.option.Option.{Option}
use Rattle.std.specs.declared.option.Option.TheVariants.{None, Some}
use Rattle.flow_value.specs.declared.value.Value.{Value}
use Rattle.flow_class.specs.Classes.{GotoLast, PassLast, TestLast, ChooseLast, ReturnLast, ThrowLast, CallbackTree, BlockTree, ClassTree, RawTree}
use Rattle.flow_class.specs.Code.{Fetched, Body, Last, Nothing, fetch_at, fetch, group_at}
use Rattle.flow_code.specs.declared.class.Class.{Class}
use Rattle.flow_code.specs.declared.class.Group.{Group}
use Rattle.flow_code.specs.Classes.{ClassCode}
use Rattle.flow_code.specs.View.{code_of, block_of, group_of, group_numbered}
use Rattle.flow_code.specs.Coding.{Coding, homes_of, coded_block, coded_groups}
use Rattle.flow_code.specs.Coded.{coding, coded}
use Rattle.flow_frame.specs.Frames.{FrameTree, standing_of}
use Rattle.flow_cancel.specs.Heap.{HeapTree}
use Rattle.flow_meaning.specs.Process.{Entry, Proc}
use Rattle.flow_meaning.specs.Frame.{Frame}
use Rattle.flow_heap_refinement.specs.Representing.{Position, here, at_wait, spot_by, wait_spot}
use Rattle.flow_steps.specs.Points.{block_in}
use Rattle.flow_steps.specs.Stuck.{Nowhere, no_class, no_wait, no_block, BlockMissing, no_frame, frame}
use Rattle.flow_operation_refinement.specs.Placing.{Acts}
use Rattle.flow_operation_refinement.specs.Coded.{CodedBy, AtHome}
use Rattle.flow_operation_refinement.proofs.Stands.{get_mapped, both_mapped, at_end, group_coded}
use Rattle.flow_machine_progress.specs.Lookups.{HasPoint, StandFound}

-- the wait at which a frame stands
waits_at : (c : ClassTree) (x : Fetched) (g : ℕ) → (spot_by c x).group ≡ suc g → x ≡ Last (ChooseLast (suc g))
waits_at c (Last (ChooseLast k)) g e = ap (λ n. Last (ChooseLast n)) e
waits_at c (Last (GotoLast b)) g e = absurd (omega (arith, e))
waits_at c (Last (PassLast b)) g e = absurd (omega (arith, e))
waits_at c (Last (TestLast x a b)) g e = absurd (omega (arith, e))
waits_at c (Last (ReturnLast x)) g e = absurd (omega (arith, e))
waits_at c (Last (ThrowLast x)) g e = absurd (omega (arith, e))
waits_at c (Body i) g e = absurd (omega (arith, e))
waits_at c Nothing g e = absurd (omega (arith, e))

-- a group with a home is coded
coded_there : (k : Coding) (first : ℕ) (hs : List ℕ) (gs : List (List CallbackTree)) (n b : ℕ) (cs : List CallbackTree) → slice_get hs n ≡ Some b → slice_get gs n ≡ Some cs
    → slice_get (coded_groups k first hs gs) n ≡ None → ⊥
coded_there k first [] gs n b cs a d e = cc (a)
coded_there k first (h ∷ hs) [] n b cs a d e = cc (d)
coded_there k first (h ∷ hs) (g ∷ gs) zero b cs a d e = cc (e)
coded_there k first (h ∷ hs) (g ∷ gs) (suc n) b cs a d e = coded_there k (first + length g) hs gs n b cs a d e

module _ (r : RawTree) (classes : List Class) (h : HeapTree) (p : Proc Frame) (i : ℕ) (e : Entry) (f : Frame) (c : CodedBy r classes) (home : AtHome f.code) (a : Acts r h p i e f)
    (stands : HasPoint f) where
  abbrev code : Coding
  code = coding c.names c.class (length f.code.slots)

  -- a class of the code at the number of the frame's is coded from the frame's
  class_coded : option_map code_of (slice_get classes a.memory.class) ≡ Some (coded c.names c.class f.code)
  class_coded = both_mapped code_of (coded c.names c.class) classes r.classes a.memory.class c.are_coded ∙ ap (option_map (coded c.names c.class)) a.stands.code

  same_code : (k : Class) → slice_get classes a.memory.class ≡ Some k → code_of k ≡ coded c.names c.class f.code
  same_code k at = let x : Some (code_of k) ≡ Some (coded c.names c.class f.code) = sym (ap (option_map code_of) at) ∙ class_coded in cc (x)

  groups_of : (k : Class) → slice_get classes a.memory.class ≡ Some k → map group_of k.groups.items ≡ coded_groups code 0 (homes_of f.code) f.code.groups
  groups_of k at = ap (λ (z : ClassCode). z.groups) (same_code k at)

  -- the home of the wait at which it stands
  record Home (g : ℕ) : Type 0 where
    at_home : slice_get (homes_of f.code) g ≡ Some f.block
    callbacks : List CallbackTree
    there : slice_get f.code.groups g ≡ Some callbacks

  home_of : (g : ℕ) → a.memory.state ≡ suc g → a.memory.state ≡ (wait_spot f).group → Home g
  home_of g z w =
      let fetched = waits_at f.code (fetch f.code f.block f.instr) g (sym w ∙ z) in
      let ends = at_end f.code f.block f.instr (ChooseLast (suc g)) fetched in
      let group = stands.group (suc g) fetched in
      record { at_home = home f.block g ends.block ends.there ends.ends; callbacks = group.0; there = group.1 }

  group_there : (k : Class) → slice_get classes a.memory.class ≡ Some k → (g : ℕ) → Home g → slice_get k.groups.items g ≡ None → ⊥
  group_there k at g x none =
      coded_there code 0 (homes_of f.code) f.code.groups g f.block x.callbacks x.at_home x.there
      (ap (λ l. slice_get l g) (sym (groups_of k at)) ∙ get_mapped group_of k.groups.items g ∙ ap (option_map group_of) none)

  block_of_group : (k : Class) → slice_get classes a.memory.class ≡ Some k → (g : ℕ) → Home g → (x : Group) → slice_get k.groups.items g ≡ Some x → x.block ≡ f.block
  block_of_group k at g x y there =
      let z = (group_coded code 0 (homes_of f.code) f.code.groups g (group_of y)
      (ap (λ l. slice_get l g) (sym (groups_of k at)) ∙ get_mapped group_of k.groups.items g ∙ ap (option_map group_of) there)).0 in
      let w = x.at_home in cc (z, w)

  -- its block is the one in which the frame stands
  place_is : (k : Class) → slice_get classes a.memory.class ≡ Some k → Position a.memory f → (n : ℕ) → block_in k a.memory.state a.memory.block ≡ Some n → n ≡ f.block
  place_is k at (here z b q) n y =
      let x : block_in k 0 a.memory.block ≡ Some n = ap (λ s. block_in k s a.memory.block) (sym z) ∙ y in
      let w : a.memory.block ≡ n = cc (x) in sym w ∙ b
  place_is k at (at_wait g z w) n y =
      let x : block_in k (suc g) a.memory.block ≡ Some n = ap (λ s. block_in k s a.memory.block) (sym z) ∙ y in
      by_group (slice_get k.groups.items g) refl x
    where
      by_group : (o : Option Group) → slice_get k.groups.items g ≡ o → option_map (λ (x : Group). x.block) o ≡ Some n → n ≡ f.block
      by_group None there x = absurd (cc (x))
      by_group (Some v) there x = let u = block_of_group k at g (home_of g z w) v there in let s : v.block ≡ n = cc (x) in sym s ∙ u

  waits_there : (k : Class) → slice_get classes a.memory.class ≡ Some k → Position a.memory f → block_in k a.memory.state a.memory.block ≡ None → ⊥
  waits_there k at (here z b q) y = let x : block_in k 0 a.memory.block ≡ None = ap (λ s. block_in k s a.memory.block) (sym z) ∙ y in cc (x)
  waits_there k at (at_wait g z w) y =
      let x : block_in k (suc g) a.memory.block ≡ None = ap (λ s. block_in k s a.memory.block) (sym z) ∙ y in
      by_group (slice_get k.groups.items g) refl x
    where
      by_group : (o : Option Group) → slice_get k.groups.items g ≡ o → option_map (λ (x : Group). x.block) o ≡ None → ⊥
      by_group None there x = group_there k at g (home_of g z w) there
      by_group (Some v) there x = cc (x)

  block_there : (k : Class) → slice_get classes a.memory.class ≡ Some k → BlockMissing k f.block → ⊥
  block_there k at missing =
      let blocks = both_mapped block_of (coded_block code f.code) k.blocks.items f.code.blocks f.block (ap (λ (z : ClassCode). z.blocks) (same_code k at)) in
      by_block (slice_get f.code.blocks f.block) refl (sym (ap (option_map block_of) missing) ∙ blocks)
    where
      by_block : (o : Option BlockTree) → slice_get f.code.blocks f.block ≡ o → None ≡ option_map (coded_block code f.code) o → ⊥
      by_block None there x = stands.there (ap (λ o. fetch_at o f.instr) there)
      by_block (Some b) there x = cc (x)

  somewhere : Nowhere classes (standing_of a.memory) → ⊥
  somewhere (no_class none) = let x = sym class_coded ∙ ap (option_map code_of) none in cc (x)
  somewhere (no_wait k at none) = waits_there k at a.stands.position none
  somewhere (no_block k n at named missing) = block_there k at (subst (BlockMissing k) (place_is k at a.stands.position n named) missing)

pub stand_found : StandFound
stand_found r classes h p i e f c home a stands (no_frame none) = let x = sym a.framed ∙ none in cc (x)
stand_found r classes h p i e f c home a stands (frame m at nowhere) =
    let same : m ≡ a.memory = let x = sym at ∙ a.framed in cc (x) in
    somewhere r classes h p i e f c home a stands (subst (λ (z : FrameTree Value). Nowhere classes (standing_of z)) same nowhere)

-- the group of the wait at which a frame stands is there in a class that is coded from the frame's
pub group_found : (r : RawTree) (classes : List Class) (c : CodedBy r classes) (k : Class) (f : Frame) → code_of k ≡ coded c.names c.class f.code → AtHome f.code
    → (g : ℕ) → fetch f.code f.block f.instr ≡ Last (ChooseLast g) → (cs : List CallbackTree) → group_at f.code.groups g ≡ Some cs → group_numbered g k.groups.items ≡ None → ⊥
group_found r classes c k f same home zero fetched cs at none = cc (at)
group_found r classes c k f same home (suc n) fetched cs at none =
    let code : Coding = coding c.names c.class (length f.code.slots) in
    let ends = at_end f.code f.block f.instr (ChooseLast (suc n)) fetched in
    let groups : map group_of k.groups.items ≡ coded_groups code 0 (homes_of f.code) f.code.groups = ap (λ (z : ClassCode). z.groups) same in
    coded_there code 0 (homes_of f.code) f.code.groups n f.block cs (home f.block n ends.block ends.there ends.ends) at
    (ap (λ l. slice_get l n) (sym groups) ∙ get_mapped group_of k.groups.items n ∙ ap (option_map group_of) none)
