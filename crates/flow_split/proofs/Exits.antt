-- What the code emits for a break, a continue, a wait and a choose.
use Rattle.std.proofs.Common.{◌≡◌, ℕ, suc, ◌+◌, Bool, true, false, ◌||◌, List, [], ◌∷◌, ◌++◌, map, length, refl, ap, ap₂, sym, subst, ◌∙◌, arith, append_assoc, length-append}
use Rattle.flow_base.specs.declared.place.Place.{Place}
use Rattle.flow_tree.specs.Body.{WaitTree, BreakStmt, ContinueStmt, ChooseStmt, WaitStmt, Branches}
use Rattle.flow_tree.specs.Decls.{SlotTree}
use Rattle.flow_class.specs.Classes.{DropInstr, LastTree, GotoLast, ChooseLast, BlockTree, CallbackTree}
use Rattle.flow_catch.specs.Inner.{left_lists}
use Rattle.flow_meaning.specs.Evaluating.{Names}
use Rattle.flow_split.specs.Around.{Around, Scoped, inner}
use Rattle.flow_split.specs.Counts.{locals_in, into_count, branch_blocks, branch_group_count, branch_local_count, Next, begun, taken, grouped, past_branches}
use Rattle.flow_split.specs.Lowered.{Chunk, ends, exits, exited, with_taken, callback, callbacks, lowered, branches}
use Rattle.flow_split.specs.Emitting.{Emitted, At, going, opened, closed, closed_block, put, acted, left_loop, shut_if, shut_by, waiting_for, taking, with_chunk, with_rest_if, Emits, EmitsBranches}
use Rattle.flow_split.proofs.Joins.{join, coming_at}
use Rattle.flow_split.proofs.Lengths.{branches_more, branches_groups}
use Rattle.flow_split.proofs.Steps.{Stands, ended, ended_plain, blocks_push, stop, finish}

pub record Exited (t : Bool) (w : Around) (last : LastTree) (e f : Emitted) : Type 0 where
  pub at : At w.hand e (exits t w e.scopes (going e) last) f
  pub stands : Stands f e.scopes (exited t (going e))
  pub shut : f.is_open ≡ false

two_blocks : (bs cs : List BlockTree) (a b : BlockTree) → cs ≡ bs ++ a ∷ [] → cs ++ b ∷ [] ≡ bs ++ (a ∷ (b ∷ []))
two_blocks bs cs a b e = ap (λ x. x ++ b ∷ []) e ∙ append_assoc bs (a ∷ []) (b ∷ [])

exited_if : (t : Bool) (w : Around) (last : LastTree) (e : Emitted) → Exited t w last e (shut_if t w last e)
exited_if false w last e =
    let r = ended w (map DropInstr (left_lists w.looped.depth e.scopes)) last e (left_loop w last e) refl in
    record { at = r.at; stands = r.stands; shut = refl }
exited_if true w last e =
    let out = closed w (GotoLast (suc (length e.blocks))) e in
    let r = ended_plain w (GotoLast (suc (length e.blocks))) e out refl in
    record {
      at = record {
        all = λ i. record {
          blocks = two_blocks e.blocks out.blocks (closed_block w (GotoLast (suc (length e.blocks))) (put [] e))
              (closed_block w last (put (map DropInstr (left_lists w.looped.depth e.scopes)) (opened out))) (ap (λ x. x.blocks) r.at.all) i;
          groups = (ap (λ x. x.groups) r.at.all) i;
        };
        fresh = record { body = refl; acts = refl };
      };
      stands = record {
        scopes = refl;
        coming = ap (λ b. record { block = b; local = e.next; group = suc (length e.groups) })
            (blocks_push out.blocks (closed_block w last (put (map DropInstr (left_lists w.looped.depth e.scopes)) (opened out)))
            ∙ ap suc (blocks_push e.blocks (closed_block w (GotoLast (suc (length e.blocks))) e)));
      };
      shut = refl;
    }

pub exited_by : (w : Around) (last : LastTree) (e f : Emitted) → f ≡ shut_by w last e → Exited w.looped.tried w last e f
exited_by w last e f h = subst (Exited w.looped.tried w last e) (sym h) (exited_if w.looped.tried w last e)

exit_local : (t : Bool) (n : Next) → (exited t n).local ≡ n.local
exit_local false n = refl
exit_local true n = refl

-- a wait for callbacks
pub record Waits (w : Around) (cs : List CallbackTree) (e f : Emitted) : Type 0 where
  pub at : At w.hand e (record (ends w e.scopes true [] (ChooseLast (going e).group)) { groups = cs ∷ [] }) f
  pub stands : Stands f e.scopes (grouped (going e))

group_push : (gs : List (List CallbackTree)) (g : List CallbackTree) → length (gs ++ g ∷ []) ≡ suc (length gs)
group_push gs g = length-append gs (g ∷ []) ∙ plus_one (length gs)
  where
    plus_one : (n : ℕ) → n + 1 ≡ suc n
    plus_one n = omega arith

pub waits : (w : Around) (cs : List CallbackTree) (e f : Emitted) → f ≡ waiting_for w cs e → Waits w cs e f
waits w cs e f h =
    subst (Waits w cs e) (sym h)
    (record {
      at = record { all = refl; fresh = record { body = refl; acts = refl } };
      stands = record {
        scopes = refl;
        coming = λ i. record {
          block = blocks_push e.blocks (closed_block w (ChooseLast (suc (length e.groups))) (acted [] e)) i;
          local = e.next;
          group = suc (group_push e.groups cs i);
        };
      };
    })

module _ (ns : Names) (slots : List SlotTree) (w : Around) where
  pub break_emits : (e f : Emitted) (at : Place) → e.is_open ≡ true → f ≡ shut_by w (GotoLast w.looped.out) e → Emits ns slots w (BreakStmt at) e f
  break_emits e f at o h =
      let r = exited_by w (GotoLast w.looped.out) e f h in
      stop ns slots w e f _ _ (BreakStmt at) o r.shut r.at r.stands (λ k. refl) (λ k. ap (λ x. x + locals_in k) (exit_local w.looped.tried (going e))) refl

  pub continue_emits : (e f : Emitted) (at : Place) → e.is_open ≡ true → f ≡ shut_by w w.looped.again e → Emits ns slots w (ContinueStmt at) e f
  continue_emits e f at o h =
      let r = exited_by w w.looped.again e f h in
      stop ns slots w e f _ _ (ContinueStmt at) o r.shut r.at r.stands (λ k. refl) (λ k. ap (λ x. x + locals_in k) (exit_local w.looped.tried (going e))) refl

  swapped : (a b c : ℕ) → (a + b) + c ≡ b + (a + c)
  swapped a b c = omega arith

  pub wait_emits : (e e1 d new : Emitted) (at : Place) (v : WaitTree) (cs : List CallbackTree) (block : ℕ) → e.is_open ≡ true → block ≡ (going e).block
      → cs ≡ callback ns slots e.scopes v e.next block ∷ [] → e1 ≡ waiting_for w cs e → d ≡ opened e1 → new ≡ taking v.into d → Emits ns slots w (WaitStmt at v) e new
  wait_emits e e1 d new at v cs block o be ce hc de hd =
      let h = hc ∙ ap (λ x. waiting_for w x e) ce in
      let nw = hd ∙ ap (taking v.into) de in
      let r = waits w (callback ns slots e.scopes v e.next (going e).block ∷ []) e e1 (h ∙ ap (λ x. waiting_for w (callback ns slots e.scopes v e.next x ∷ []) e) be) in
      subst (Emits ns slots w (WaitStmt at v) e) (sym nw)
      (record {
        code = λ k.
            ap₂ (λ s n. with_chunk w.hand e1 (lowered ns slots (with_taken v.into n.local s) w (taken v.into (begun n)) k)) r.stands.scopes r.stands.coming
            ∙ join w.hand w.hand e e1 _ (lowered ns slots (with_taken v.into e.next e.scopes) w (taken v.into (begun (grouped (going e)))) k) r.at
            ∙ ap (λ x. with_rest_if ns slots (x || true) e w (WaitStmt at v k)) (sym o);
        next = λ k. ap (λ n. (into_count v.into + n.local) + locals_in k) r.stands.coming ∙ swapped (into_count v.into) e.next (locals_in k);
        scopes = ap₂ (λ s n. with_taken v.into n.local s) r.stands.scopes r.stands.coming;
        shut = λ x. absurd (no_false x);
      })
    where
      no_false : true ≡ false → ⊥
      no_false h = cc

  pub choose_emits : (v : Around) (e e1 f new : Emitted) (at : Place) (bs : Branches) (first q : ℕ) → e.is_open ≡ true → first ≡ (going e).block
      → q ≡ (past_branches w.looped.tried bs (grouped (going e))).block → v ≡ inner w (Scoped (GotoLast q))
      → e1 ≡ waiting_for w (callbacks ns slots e.scopes w.looped.tried (grouped (going e)) bs) e → EmitsBranches ns slots v bs e1 f → new ≡ opened f
      → Emits ns slots w (ChooseStmt at bs) e new
  choose_emits v e e1 f new at bs first q o fe qe ve h hb nw =
      let n = going e in
      let j = past_branches w.looped.tried bs (grouped n) in
      let cs = callbacks ns slots e.scopes w.looped.tried (grouped n) bs in
      let r = waits w cs e e1 h in
      let u = inner w (Scoped (GotoLast j.block)) in
      let g : EmitsBranches ns slots u bs e1 f = subst (λ x. EmitsBranches ns slots x bs e1 f) (ve ∙ ap (λ x. inner w (Scoped (GotoLast x))) qe) hb in
      let c0 : Chunk = record (ends w e.scopes true [] (ChooseLast n.group)) { groups = cs ∷ [] } in
      let a = subst (λ s. At w.hand e (branches ns slots c0 s u (grouped n) bs) f) r.stands.scopes
      (subst (λ m. At w.hand e (branches ns slots c0 e1.scopes u m bs) f) r.stands.coming (g.all e c0 r.at)) in
      let st : Stands f e.scopes j = record {
        scopes = g.scopes ∙ r.stands.scopes;
        coming =
            coming_at w.hand e f _ _ _ (branches_more ns slots c0 e.scopes u (grouped n) bs) (branches_groups ns slots c0 e.scopes u (grouped n) bs) a
            ∙ (λ i. record {
              block = block_numbers (length e.blocks) (branch_blocks w.looped.tried bs) i;
              local = (g.next ∙ ap (λ m. m.local + branch_local_count bs) r.stands.coming) i;
              group = group_numbers (length e.groups) (branch_group_count bs) i;
            });
      } in
      finish ns slots w e f new _ _ (ChooseStmt at bs) o nw a st (λ k. refl) (λ k. sums e.next (branch_local_count bs) (locals_in k)) refl
    where
      block_numbers : (a b : ℕ) → a + suc (0 + b) ≡ suc a + b
      block_numbers a b = omega arith

      group_numbers : (a b : ℕ) → suc (a + (1 + b)) ≡ suc (suc a) + b
      group_numbers a b = omega arith

      sums : (a b c : ℕ) → (a + b) + c ≡ a + (b + c)
      sums a b c = omega arith
