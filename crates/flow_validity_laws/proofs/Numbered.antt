-- The class of an actor names what there is, leads on, and catches further on.
use Rattle.std.proofs.Common.{◌≡◌, ℕ, suc, ◌+◌, ◌^◌, ◌<◌, true, false, List, [], ◌∷◌, ◌++◌, length, slice_get, refl, ap, sym, subst, ◌∙◌, arith, length-append, append_assoc}
use Rattle.std.proofs.lemmas.Bool.{false≢true}
use Rattle.std.specs.List.{list_all}
use Rattle.std.specs.declared.option.Option.TheVariants.{None, Some}
use Rattle.flow_tree.specs.Tree.{TypeTree}
use Rattle.flow_tree.specs.Body.{Body, End, BlockStmt, IfStmt, IfElseStmt, WhileStmt, ForStmt, LoopStmt, BreakStmt, ContinueStmt, ReturnStmt, ThrowStmt, TryStmt, ChooseStmt, DeclareStmt, AssignStmt, ModifyStmt, CallStmt, WaitStmt, Branches, NoBranches, MoreBranches}
use Rattle.flow_tree.specs.Decls.{RoutineTree}
use Rattle.flow_ast.specs.Slots.{slots_of}
use Rattle.flow_class.specs.Classes.{BlockTree, ClassTree}
use Rattle.flow_valid.specs.Named.{has_named, names_exist}
use Rattle.flow_valid.specs.Validity.{all_blocks as each_block, leads_on, leads_forward, catches, catchers_kept}
use Rattle.flow_layout.specs.Laying.{layout_of}
use Rattle.flow_meaning.specs.Evaluating.{Names}
use Rattle.flow_split.specs.Around.{whole}
use Rattle.flow_split.specs.Counts.{Next, blocks_in}
use Rattle.flow_split.specs.Lowered.{lowered, lowered_class, close_of}
use Rattle.flow_split.proofs.Lengths.{lowered_more, lowered_groups}
use Rattle.flow_lowering_laws.specs.Actors.Parts.{HasParts}
use Rattle.flow_lowering_laws.specs.Actors.InPlace.{InPlace}
use Rattle.flow_lowering_laws.specs.Actors.Laws.{IsSmall}
use Rattle.flow_lowering_laws.proofs.Actors.Standing.{LocalsAt}
use Rattle.flow_lowering_laws.proofs.Actors.Further.{locals_count}
use Rattle.flow_validity_laws.proofs.Naming.{both}
use Rattle.flow_validity_laws.proofs.Chunks.{AllSound, block_sound}
use Rattle.flow_validity_laws.proofs.Rooms.{Kept}
use Rattle.flow_validity_laws.proofs.Statements.{end_kept, block_kept, if_kept, if_else_kept, while_kept, loop_kept, break_kept, continue_kept, return_kept, throw_kept, try_kept}
use Rattle.flow_validity_laws.proofs.Waits.{for_kept, declare_kept, assign_kept, modify_kept, call_kept, wait_kept, BranchesKept, no_branches_kept, more_branches_kept, choose_kept}

module _ (ns : Names) (c : ClassTree) (few_slots : length c.slots < 2 ^ 64) (few_locals : length c.locals < 2 ^ 64) where
  mutual
    pub all_kept : (b : Body) → Kept ns c few_slots few_locals b
    all_kept End = end_kept ns c few_slots few_locals
    all_kept (BlockStmt at b k) = block_kept ns c few_slots few_locals at b k (all_kept b) (all_kept k)
    all_kept (IfStmt at e b k) = if_kept ns c few_slots few_locals at e b k (all_kept b) (all_kept k)
    all_kept (IfElseStmt at e b d k) = if_else_kept ns c few_slots few_locals at e b d k (all_kept b) (all_kept d) (all_kept k)
    all_kept (WhileStmt at e b k) = while_kept ns c few_slots few_locals at e b k (all_kept b) (all_kept k)
    all_kept (ForStmt at i e p b k) = for_kept ns c few_slots few_locals at i e p b k (all_kept i) (all_kept p) (all_kept b) (all_kept k)
    all_kept (LoopStmt at b k) = loop_kept ns c few_slots few_locals at b k (all_kept b) (all_kept k)
    all_kept (BreakStmt at k) = break_kept ns c few_slots few_locals at k (all_kept k)
    all_kept (ContinueStmt at k) = continue_kept ns c few_slots few_locals at k (all_kept k)
    all_kept (ReturnStmt at e k) = return_kept ns c few_slots few_locals at e k (all_kept k)
    all_kept (ThrowStmt at e k) = throw_kept ns c few_slots few_locals at e k (all_kept k)
    all_kept (TryStmt at b q x d k) = try_kept ns c few_slots few_locals at q x b d k (all_kept b) (all_kept d) (all_kept k)
    all_kept (ChooseStmt at bs k) = choose_kept ns c few_slots few_locals at bs k (branches_kept bs) (all_kept k)
    all_kept (DeclareStmt at i e k) = declare_kept ns c few_slots few_locals at i e k (all_kept k)
    all_kept (AssignStmt at xs e k) = assign_kept ns c few_slots few_locals at xs e k (all_kept k)
    all_kept (ModifyStmt at xs d k) = modify_kept ns c few_slots few_locals at xs d k (all_kept k)
    all_kept (CallStmt at xs es k) = call_kept ns c few_slots few_locals at xs es k (all_kept k)
    all_kept (WaitStmt at w k) = wait_kept ns c few_slots few_locals at w k (all_kept k)

    branches_kept : (bs : Branches) → BranchesKept ns c few_slots few_locals bs
    branches_kept NoBranches = no_branches_kept ns c few_slots few_locals
    branches_kept (MoreBranches at w b bs) = more_branches_kept ns c few_slots few_locals at w b bs (all_kept b) (branches_kept bs)

  all_named : (n : ℕ) (bs : List BlockTree) → AllSound c few_slots few_locals n bs → list_all (has_named c) bs ≡ true
  all_named n [] h = refl
  all_named n (b ∷ bs) h = both (has_named c b) _ h.0.named (all_named (suc n) bs h.1)

  all_on : (n : ℕ) (bs : List BlockTree) → AllSound c few_slots few_locals n bs → each_block (λ m (b : BlockTree). leads_on m b.last) n bs ≡ true
  all_on n [] h = refl
  all_on n (b ∷ bs) h = both (leads_on n b.last) _ h.0.on (all_on (suc n) bs h.1)

  all_caught : (n : ℕ) (bs : List BlockTree) → AllSound c few_slots few_locals n bs → each_block (λ m (b : BlockTree). catches c m b.catcher) n bs ≡ true
  all_caught n [] h = refl
  all_caught n (b ∷ bs) h = both (catches c n b.catcher) _ h.0.caught (all_caught (suc n) bs h.1)

pub seam : {A : Type 0} (pre xs : List A) (x : A) → slice_get (pre ++ x ∷ xs) (length pre) ≡ Some x
seam [] xs x = refl
seam (y ∷ pre) xs x = seam pre xs x

pub one_more : {A : Type 0} (pre : List A) (x : A) → length (pre ++ x ∷ []) ≡ suc (length pre)
one_more pre x = omega (arith, length-append pre (x ∷ []))

-- the locals of a class stand in it from the first on
pub all_types : (ns : Names) (c : ClassTree) (pre ts : List TypeTree) → c.locals ≡ pre ++ ts → LocalsAt ns c (length pre) ts
all_types ns c pre [] e = tt
all_types ns c pre (t ∷ ts) e = (
  ap (λ xs. slice_get xs (length pre)) e ∙ seam pre ts t,
  subst (λ n. LocalsAt ns c n ts) (one_more pre t) (all_types ns c (pre ++ t ∷ []) ts (e ∙ sym (append_assoc pre (t ∷ []) ts))),
)

-- what a class keeps of the rules on its numbers
pub record IsNumberedWell (c : ClassTree) : Type 0 where
  pub named : names_exist c ≡ true
  pub forward : leads_forward c ≡ true
  pub caught : catchers_kept c ≡ true

abbrev start : Next
start = record { block = 1; local = 0; group = 1 }

pub numbered_well : (ns : Names) (a : RoutineTree) → IsSmall a → HasParts a.body → InPlace (slots_of a) false false [] a.body → IsNumberedWell (lowered_class ns (layout_of a) a)
numbered_well ns a small parts ok =
    let c = lowered_class ns (layout_of a) a in
    let w = whole (close_of a) in
    let ch = lowered ns c.slots [] w start a.body in
    let more = lowered_more ns c.slots [] w start a.body in
    let gs = lowered_groups ns c.slots [] w start a.body in
    let ls = locals_count a.body in
    let g = all_kept ns c small.slots small.locals a.body false false [] [] w start 0 (length c.blocks)
    (record { within = omega arith; exit = tt; hand = tt; out = λ e. absurd (false≢true e); again = λ e. absurd (false≢true e) })
    (record { blocks = omega (arith, more); locals = omega (arith, ls); groups = omega (arith, gs); first = omega arith; types = all_types ns c [] c.locals refl }) tt (omega arith) parts ok in
    let s = block_sound c small.slots small.locals (length c.blocks) 0 1 (1 + blocks_in false a.body) None ch tt (omega arith) g in
    let all : AllSound c small.slots small.locals 0 c.blocks = (s, g.more) in
    record {
      named = both (list_all (has_named c) c.blocks) _ (all_named ns c small.slots small.locals 0 c.blocks all) g.groups;
      forward = all_on ns c small.slots small.locals 0 c.blocks all;
      caught = all_caught ns c small.slots small.locals 0 c.blocks all;
    }
