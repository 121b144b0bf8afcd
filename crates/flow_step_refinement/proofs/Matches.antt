-- What a task of an actor finds in the code is coded from what its frame has there.
use Rattle.std.proofs.Common.{◌≡◌, ◌≤◌, ℕ, ◌+◌, ◌^◌, nat_lt, true, List, length, if◌then◌else◌, refl, sym, ap, ◌∙◌, subst, arith}
use Rattle.std.proofs.lemmas.Bool.Decides.{nat_tests}
use Rattle.std.specs.Prelude.{slice_get}
use Rattle.std.specs.Option.{option_map, option_and_then}
use Rattle.std.specs.declared.option.Option.{Option}
use Rattle.std.specs.declared.option.Option.TheVariants.{None, Some}
use Rattle.flow_tree.specs.declared.ty.Ident.{Ident}
use Rattle.flow_tree.specs.Tree.{ExprTree}
use Rattle.flow_class.specs.declared.class.Slotted.{Slotted}
use Rattle.flow_class.specs.declared.class.Slotted.TheVariants.{Slot, Local}
use Rattle.flow_class.specs.Classes.{InstrTree, EffectInstr, RawTree}
use Rattle.flow_code.specs.declared.class.Effect.{Effect}
use Rattle.flow_code.specs.declared.class.Instruction.TheVariants as instruction
use Rattle.flow_code.specs.Classes.{AimTree, EffectCode, BranchCode}
use Rattle.flow_code.specs.Places.{place_of}
use Rattle.flow_code.specs.View.{aim_of, branch_of, group_numbered}
use Rattle.flow_code.specs.Coding.{Coding, aimed, coded_branch}
use Rattle.flow_code.specs.Coded.{coding}
use Rattle.flow_code.specs.Resolved.Tree.{Nodes}
use Rattle.flow_trace.specs.declared.line.Line.{Line}
use Rattle.flow_meaning.specs.Process.{Entry, Proc}
use Rattle.flow_meaning.specs.Frame.{Frame}
use Rattle.flow_heap_refinement.specs.FrameChanges.{HasPlace}
use Rattle.flow_steps.specs.declared.process.Process.{Process}
use Rattle.flow_operation_refinement.specs.Continuing.{SameInto}
use Rattle.flow_operation_refinement.proofs.Stands.{both_mapped}
use Rattle.flow_step_refinement.specs.Decoding.{CodedFrom, from_set, from_effect, from_new, from_act, from_method, from_drop, from_none, from_vector}
use Rattle.flow_step_refinement.specs.Matching as law
use Rattle.flow_step_refinement.proofs.Decodes.{both_there, placed, the_instruction, the_wait, group_there, aim_there}
use Rattle.flow_step_refinement.proofs.Froms.{instruction_from}

-- an effect that is coded from a text
effect_from : (k : Coding) (f : Frame) (path : List Ident) (from : ExprTree) (a : AimTree) (g : Effect) (ns : Nodes) (text : InstrTree) → text ≡ EffectInstr path from
    → CodedFrom k f.code text (EffectCode a g ns) → aimed k path ≡ Some a
effect_from k f path from a g ns text is (from_effect xs e b h text_is aims eff same) =
    let both : EffectInstr xs e ≡ EffectInstr path from = sym text_is ∙ is in
    let paths : xs ≡ path = cc (both) in
    let aim : a ≡ b = cc (same) in ap (aimed k) (sym paths) ∙ aims ∙ ap (λ y. Some y) (sym aim)
effect_from k f path from a g ns text is (from_set xs e b text_is aims same) = absurd (cc (same))
effect_from k f path from a g ns text is (from_new q n u kd text_is place typed kind same) = absurd (cc (same))
effect_from k f path from a g ns text is (from_vector q n u text_is place typed same) = absurd (cc (same))
effect_from k f path from a g ns text is (from_act x es b text_is named same) = absurd (cc (same))
effect_from k f path from a g ns text is (from_method x y ys es b h text_is aims named same) = absurd (cc (same))
effect_from k f path from a g ns text is (from_drop xs text_is same) = absurd (cc (same))
effect_from k f path from a g ns text is (from_none same) = absurd (cc (same))

pub effect_aims : law.EffectAims
effect_aims r classes code s i f path from aim eff args c here standing number fetched at numbering rooted =
    let k : Coding = coding c.names c.class (length f.code.slots) in
    let a = the_instruction r classes s i f c here (instruction.Effect aim eff args) standing number at in
    let text : a.text ≡ EffectInstr path from = let x = a.fetched in cc (x, fetched) in
    let from_there = subst (CodedFrom k f.code a.text) (sym a.coded) (instruction_from k f.code a.text) in
    aim_there r classes code f path aim c numbering rooted (effect_from k f path from (aim_of aim) eff _ a.text text from_there)

-- the place of a value that a frame has is one of the code
place_there : (f : Frame) (q : Slotted) → length f.mem.slots ≡ length f.code.slots → length f.code.slots + length f.mem.locals ≤ 2 ^ 32 → HasPlace f q
    → (n : ℕ) × (place_of (length f.code.slots) q ≡ Some n)
place_there f (Slot n) same few has =
    let in_place : nat_lt n (length f.code.slots) ≡ true = grind (arith, nat_tests, same, has) in (n, ap (λ b. if b then Some n else None) in_place)
place_there f (Local n) same few has =
    let in_place : nat_lt (length f.code.slots + n) (2 ^ 32) ≡ true = grind (arith, nat_tests, few, has) in
    (length f.code.slots + n, ap (λ b. if b then Some (length f.code.slots + n) else None) in_place)

module _ (r : RawTree) (ls : List Line) (m : Process) (p : Proc Frame) (i : ℕ) (e : Entry) (f : Frame) (same : length f.mem.slots ≡ length f.code.slots)
    (few : length f.code.slots + length f.mem.locals ≤ 2 ^ 32) where
  into_same : (into : Option ℕ) (o : Option Slotted) → ((q : Slotted) → o ≡ Some q → HasPlace f q) → into ≡ option_and_then (place_of (length f.code.slots)) o → SameInto r ls m p i e f into o
  into_same None None has is = tt
  into_same (Some n) None has is = absurd (cc (is))
  into_same None (Some q) has is = let a = place_there f q same few (has q refl) in absurd (let b = a.1 in cc (is, b))
  into_same (Some n) (Some q) has is = (placed (length f.code.slots) q n (sym is), has q refl)

pub branch_coded : law.BranchCoded
branch_coded r ls m p i e f classes s group number callback b c here standing fetched at same few has there =
    let k : Coding = coding c.names c.class (length f.code.slots) in
    let wait = the_wait r classes s i f c here group standing fetched in
    let group_is : there.group ≡ group = let x = there.waits in let y = wait.last in cc (x, y) in
    let g = group_there r classes s i f group there.of c here (subst (λ y. group_numbered y s.class.now.groups.items ≡ Some there.of) group_is there.of_number) in
    let mapped = both_mapped branch_of (coded_branch k) there.of.branches.items g.callbacks number g.coded in
    let d = both_there branch_of (coded_branch k) b (slice_get g.callbacks number) (sym (ap (option_map branch_of) there.at) ∙ mapped) in
    let here_too : slice_get g.callbacks number ≡ Some callback = sym (ap (option_and_then (λ cs. slice_get cs number)) g.at) ∙ at in
    let callback_is : d.0 ≡ callback = let x = d.1.0 in cc (x, here_too) in
    let coded : branch_of b ≡ coded_branch k callback = d.1.1 ∙ ap (coded_branch k) callback_is in (
      ap (λ (y : BranchCode). y.block) coded,
      into_same r ls m p i e f same few b.into callback.into has (ap (λ (y : BranchCode). y.into) coded),
    )
