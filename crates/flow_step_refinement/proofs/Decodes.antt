-- What stands in the code where an actor stands is coded from what its frame has there.
use Rattle.std.proofs.Common.{◌≡◌, ℕ, zero, suc, ◌+◌, nat_lt, ◌^◌, Bool, true, false, List, [], ◌∷◌, length, map, if◌then◌else◌, refl, sym, ap, ◌∙◌, arith}
use Rattle.std.specs.Prelude.{slice_get}
use Rattle.std.specs.Option.{option_map, option_and_then}
use Rattle.std.specs.declared.option.Option.{Option}
use Rattle.std.specs.declared.option.Option.TheVariants.{None, Some}
use Rattle.flow_value.specs.declared.value.Value.{Value}
use Rattle.flow_class.specs.declared.class.Slotted.{Slotted}
use Rattle.flow_class.specs.declared.class.Slotted.TheVariants.{Slot, Local}
use Rattle.flow_class.specs.Classes.{InstrTree, LastTree, ChooseLast, CallbackTree, BlockTree, RawTree}
use Rattle.flow_class.specs.Code.{Body, Last, fetch_in, fetch_at, fetch}
use Rattle.flow_class.specs.Places.{place_named, small_place}
use Rattle.flow_code.specs.declared.class.Class.{Class}
use Rattle.flow_code.specs.declared.class.Group.{Group}
use Rattle.flow_code.specs.declared.class.Instruction.{Instruction}
use Rattle.flow_code.specs.Classes.{AimTree, BlockCode, GroupCode, ClassCode, ChooseEnd}
use Rattle.flow_code.specs.Places.{place_of, place_in}
use Rattle.flow_code.specs.View.{code_of, block_of, group_of, aim_of, instruction_of, end_of, group_numbered}
use Rattle.flow_code.specs.Coding.{Coding, homes_of, fields_of, aim_at, coded_instruction, ended, coded_block, coded_branch, coded_groups}
use Rattle.flow_code.specs.Coded.{coding, coded}
use Rattle.flow_frame.specs.Frames.{FrameTree}
use Rattle.flow_meaning.specs.Frame.{Frame}
use Rattle.flow_heap_refinement.specs.Representing.{spot_by, wait_spot}
use Rattle.flow_heap_refinement.specs.FrameChanges.{number_in}
use Rattle.flow_steps.specs.declared.frames.ControlPoint.{ControlPoint}
use Rattle.flow_operation_refinement.specs.Taking.{PointMatches, AtWait}
use Rattle.flow_operation_refinement.specs.Coded.{CodedBy}
use Rattle.flow_operation_refinement.proofs.Stands.{get_mapped, as_many, both_mapped, at_end, group_coded, choose_is}
use Rattle.flow_step_refinement.specs.Decoding as law
use Rattle.flow_step_refinement.specs.Decoding.{InCode, AtInstruction, AtEnd}

-- what is mapped to the same is there on both sides
pub both_there : {A B C : Type 0} (g : A → C) (h : B → C) (a : A) (o : Option B) → Some (g a) ≡ option_map h o → (b : B) × ((o ≡ Some b) × (g a ≡ h b))
both_there g h a None e = absurd (cc (e))
both_there g h a (Some b) e = (b, (refl, let same : g a ≡ h b = cc (e) in same))

pub begins_in_code : law.BeginsInCode
begins_in_code r classes m p i e f s c a now = record {
  class =
      let same : now.frame ≡ a.memory = let x = now.at in let y = a.framed in cc (x, y) in
      let x = both_mapped code_of (coded c.names c.class) classes r.classes now.frame.class c.are_coded in
      let y = ap (option_map code_of) now.stands.class in
      let z = ap (λ (g : FrameTree Value). option_map (coded c.names c.class) (slice_get r.classes g.class)) same ∙ ap (option_map (coded c.names c.class)) a.stands.code in
      let w : Some (code_of s.class.now) ≡ Some (coded c.names c.class f.code) = sym y ∙ x ∙ z in cc (w);
  block = now.stands.block;
}

pub in_code_of : law.InCodeOf
in_code_of r code number s f c here at = record {
  class =
      let a = both_mapped code_of (coded c.names c.class) code.classes.items r.classes number c.are_coded in
      let b : Some (code_of s.class.now) ≡ Some (coded c.names c.class f.code) =
      sym (ap (option_map code_of) here.class) ∙ a ∙ ap (option_map (coded c.names c.class)) at in cc (b);
  block = here.block;
}

-- what stands in a body, and at its end
body_in : (is : List InstrTree) (k : LastTree) (n : ℕ) (t : InstrTree) → slice_get is n ≡ Some t → fetch_in is k n ≡ Body t
body_in [] k n t e = absurd (cc (e))
body_in (i ∷ is) k zero t e = let same : i ≡ t = cc (e) in ap Body same
body_in (i ∷ is) k (suc n) t e = body_in is k n t e

end_in : (is : List InstrTree) (k : LastTree) → fetch_in is k (length is) ≡ Last k
end_in [] k = refl
end_in (i ∷ is) k = end_in is k

module _ (r : RawTree) (classes : List Class) (s : ControlPoint) (i : ℕ) (f : Frame) (c : CodedBy r classes) (at : InCode c s f) where
  abbrev code : Coding
  code = coding c.names c.class (length f.code.slots)

  record TheBlock : Type 0 where
    block : BlockTree
    there : slice_get f.code.blocks f.block ≡ Some block
    same : block_of s.block.now ≡ coded_block code f.code block

  the_block : PointMatches s i f → TheBlock
  the_block standing =
      let blocks = both_mapped block_of (coded_block code f.code) s.class.now.blocks.items f.code.blocks f.block (ap (λ (k : ClassCode). k.blocks) at.class) in
      let here : option_map block_of (slice_get s.class.now.blocks.items f.block) ≡ Some (block_of s.block.now) =
      ap (λ b. option_map block_of (slice_get s.class.now.blocks.items b)) (sym standing.place) ∙ ap (option_map block_of) at.block in
      let there = both_there block_of (coded_block code f.code) s.block.now (slice_get f.code.blocks f.block) (sym here ∙ blocks) in
      record { block = there.0; there = there.1.0; same = there.1.1 }

  same_groups : map group_of s.class.now.groups.items ≡ coded_groups code 0 (homes_of f.code) f.code.groups
  same_groups = ap (λ (k : ClassCode). k.groups) at.class

  pub the_instruction : (x : Instruction) → PointMatches s i f → s.instruction ≡ f.instr → slice_get s.block.now.body.items s.instruction ≡ Some x → AtInstruction code f x
  the_instruction x standing number there =
      let b = the_block standing in
      let body = both_mapped instruction_of (coded_instruction code f.code) s.block.now.body.items b.block.body s.instruction (ap (λ (k : BlockCode). k.body) b.same) in
      let text = both_there instruction_of (coded_instruction code f.code) x (slice_get b.block.body s.instruction) (sym (ap (option_map instruction_of) there) ∙ body) in record {
        text = text.0;
        fetched =
            ap (λ o. fetch_at o f.instr) b.there ∙ ap (fetch_in b.block.body b.block.last) (sym number) ∙ body_in b.block.body b.block.last s.instruction text.0 text.1.0;
        coded = text.1.1;
      }

  pub the_end : PointMatches s i f → s.instruction ≡ f.instr → s.instruction ≡ length s.block.now.body.items → AtEnd code f s.block.now.last
  the_end standing number ends =
      let b = the_block standing in
      let long : length s.block.now.body.items ≡ length b.block.body =
      sym (as_many _ s.block.now.body.items) ∙ ap (λ (k : BlockCode). length k.body) b.same ∙ as_many _ b.block.body in record {
        text = b.block.last;
        fetched = ap (λ o. fetch_at o f.instr) b.there ∙ ap (fetch_in b.block.body b.block.last) (sym number ∙ ends ∙ long) ∙ end_in b.block.body b.block.last;
        coded = ap (λ (k : BlockCode). k.last) b.same;
      }

  pub the_wait : (number : ℕ) → PointMatches s i f → fetch f.code f.block f.instr ≡ Last (ChooseLast number) → AtWait s f number
  the_wait g standing fetched =
      let b = the_block standing in
      let ends = at_end f.code f.block f.instr (ChooseLast g) fetched in
      let same : b.block ≡ ends.block = let x = b.there in let y = ends.there in cc (x, y) in
      let last_is : end_of s.block.now.last ≡ ChooseEnd g = ap (λ (k : BlockCode). k.last) b.same ∙ ap (λ (k : BlockTree). ended code k.last) same ∙ ap (ended code) ends.ends in
      let long : length s.block.now.body.items ≡ length b.block.body =
      sym (as_many _ s.block.now.body.items) ∙ ap (λ (k : BlockCode). length k.body) b.same ∙ as_many _ b.block.body in
      record {
        last = choose_is s.block.now.last g last_is;
        fetched = fetched;
        end = long ∙ ap (λ (k : BlockTree). length k.body) same ∙ ends.end;
        first = by_number g fetched;
      }
    where
      by_number : (g : ℕ) → fetch f.code f.block f.instr ≡ Last (ChooseLast g) → (x : Group) → group_numbered g s.class.now.groups.items ≡ Some x → x.first ≡ (wait_spot f).first
      by_number zero h x there = absurd (cc (there))
      by_number (suc n) h x there =
          let k = (group_coded code 0 (homes_of f.code) f.code.groups n (group_of x)
          (ap (λ l. slice_get l n) (sym same_groups) ∙ get_mapped group_of s.class.now.groups.items n ∙ ap (option_map group_of) there)).1 in
          let u = ap (λ y. (spot_by f.code y).first) h in omega (arith, k, u)

-- the branches of a coded group
branches_coded : (k : Coding) (first : ℕ) (hs : List ℕ) (gs : List (List CallbackTree)) (n : ℕ) (y : GroupCode) → slice_get (coded_groups k first hs gs) n ≡ Some y
    → (cs : List CallbackTree) × ((slice_get gs n ≡ Some cs) × (y.branches ≡ map (coded_branch k) cs))
branches_coded k first [] gs n y e = absurd (cc (e))
branches_coded k first (h ∷ hs) [] n y e = absurd (cc (e))
branches_coded k first (h ∷ hs) (g ∷ gs) zero y e =
    let same : record { block = h; first = first; branches = map (coded_branch k) g } ≡ y = cc (e) in
    (g, (refl, ap (λ (z : GroupCode). z.branches) (sym same)))
branches_coded k first (h ∷ hs) (g ∷ gs) (suc n) y e = branches_coded k (first + length g) hs gs n y e

pub group_there : (r : RawTree) (classes : List Class) (s : ControlPoint) (i : ℕ) (f : Frame) → law.GroupAt r classes s i f
group_there r classes s i f zero g c at there = absurd (cc (there))
group_there r classes s i f (suc n) g c at there =
    let code : Coding = coding c.names c.class (length f.code.slots) in
    let here : slice_get (coded_groups code 0 (homes_of f.code) f.code.groups) n ≡ Some (group_of g) =
    ap (λ l. slice_get l n) (sym (same_groups r classes s i f c at)) ∙ get_mapped group_of s.class.now.groups.items n ∙ ap (option_map group_of) there in
    let a = branches_coded code 0 (homes_of f.code) f.code.groups n (group_of g) here in
    let b = (group_coded code 0 (homes_of f.code) f.code.groups n (group_of g) here).1 in record {
      callbacks = a.0;
      at = a.1.0;
      first = omega (arith, b);
      coded = a.1.1;
    }

pub instruction_there : (r : RawTree) (classes : List Class) (s : ControlPoint) (i : ℕ) (f : Frame) → law.InstructionAt r classes s i f
instruction_there r classes s i f x c at standing number there = the_instruction r classes s i f c at x standing number there

pub end_there : (r : RawTree) (classes : List Class) (s : ControlPoint) (i : ℕ) (f : Frame) → law.EndAt r classes s i f
end_there r classes s i f c at standing number ends = the_end r classes s i f c at standing number ends

pub wait_there : (r : RawTree) (classes : List Class) (s : ControlPoint) (i : ℕ) (f : Frame) → law.WaitAt r classes s i f
wait_there r classes s i f number c at standing fetched = the_wait r classes s i f c at number standing fetched

-- a place by its name
pub placed : (slots : ℕ) (q : Slotted) (n : ℕ) → place_of slots q ≡ Some n → n ≡ number_in slots q
placed slots (Slot k) n e = by_test (nat_lt k slots) e
  where
    by_test : (t : Bool) → (if t then Some k else None) ≡ Some n → n ≡ k
    by_test true h = let same : k ≡ n = cc (h) in sym same
    by_test false h = absurd (cc (h))
placed slots (Local k) n e = by_test (nat_lt (slots + k) (2 ^ 32)) e
  where
    by_test : (t : Bool) → (if t then Some (slots + k) else None) ≡ Some n → n ≡ slots + k
    by_test true h = let same : slots + k ≡ n = cc (h) in sym same
    by_test false h = absurd (cc (h))

small_is : (o : Option Slotted) (q : Slotted) → small_place o ≡ Some q → o ≡ Some q
small_is None q e = absurd (cc (e))
small_is (Some (Slot n)) q e = by_test (nat_lt n (2 ^ 32)) e
  where
    by_test : (t : Bool) → option_map Slot (if t then Some n else None) ≡ Some q → Some (Slot n) ≡ Some q
    by_test true h = h
    by_test false h = absurd (cc (h))
small_is (Some (Local n)) q e = by_test (nat_lt n (2 ^ 32)) e
  where
    by_test : (t : Bool) → option_map Local (if t then Some n else None) ≡ Some q → Some (Local n) ≡ Some q
    by_test true h = h
    by_test false h = absurd (cc (h))

place_is : (slots : ℕ) (name : List ℕ) (n : ℕ) → place_in slots name ≡ Some n → (q : Slotted) × ((place_named name ≡ Some q) × (n ≡ number_in slots q))
place_is slots name n e = by_place (small_place (place_named name)) refl e
  where
    by_place : (o : Option Slotted) → small_place (place_named name) ≡ o → option_and_then (place_of slots) o ≡ Some n → (q : Slotted) × ((place_named name ≡ Some q) × (n ≡ number_in slots q))
    by_place None h k = absurd (cc (k))
    by_place (Some q) h k = (q, (small_is (place_named name) q h, placed slots q n k))

aim_is : (o : Option ℕ) (fs : Option (List ℕ)) (a : AimTree) → aim_at o fs ≡ Some a → (o ≡ Some a.place) × (fs ≡ Some a.path)
aim_is None fs a e = absurd (cc (e))
aim_is (Some n) None a e = absurd (cc (e))
aim_is (Some n) (Some gs) a e =
    let same : record { place = n; path = gs } ≡ a = cc (e) in
    (ap (λ (y : AimTree). Some y.place) same, ap (λ (y : AimTree). Some y.path) same)

pub aim_there : law.AimOf
aim_there r classes code f [] aim c numbering rooted e = absurd (cc (e))
aim_there r classes code f (x ∷ xs) aim c numbering rooted e =
    let a = aim_is (place_in (length f.code.slots) x.name) (fields_of c.names.field xs) (aim_of aim) e in
    let b = place_is (length f.code.slots) x.name aim.place a.0 in record {
      name = x;
      fields = xs;
      place = b.0;
      field = c.names.field;
      names = refl;
      named = b.1.0;
      has = rooted b.0 b.1.0;
      number = b.1.1;
      numbering = numbering;
      numbers = a.1;
    }
