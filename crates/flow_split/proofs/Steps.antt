-- What the code emits, step by step: blocks that end, bodies in scopes, and the numbers behind them.
use Rattle.std.proofs.Common.{◌≡◌, ℕ, suc, ◌+◌, Bool, true, false, ◌||◌, List, [], ◌∷◌, ◌++◌, length, if◌then◌else◌, refl, ap, ap₂, sym, subst, ◌∙◌, arith, append_assoc, length-append}
use Rattle.std.proofs.lemmas.List.{append-nil}
use Rattle.std.specs.declared.option.Option.{Option}
use Rattle.flow_tree.specs.Body.{IntoTree, Body, End}
use Rattle.flow_tree.specs.Decls.{SlotTree}
use Rattle.flow_ast.specs.Leaving.{has_statement}
use Rattle.flow_class.specs.Classes.{InstrTree, LastTree, BlockTree}
use Rattle.flow_class.specs.Scopes.{Scope, Mark, Var}
use Rattle.flow_meaning.specs.Evaluating.{Names}
use Rattle.flow_split.specs.Around.{Hand, Around}
use Rattle.flow_split.specs.Counts.{blocks_in, locals_in, groups_in, into_count, Next, begun, taken, past}
use Rattle.flow_split.specs.Lowered.{Chunk, blocks_of, joined, before_rest, acting, ends, with_taken, later, lowered}
use Rattle.flow_split.specs.Emitting.{Emitted, with_chunk, onto, At, coming, going, opened, closed, closed_block, put, acted, with_rest_if, rest_of, Emits, EmitsBody, EmitsPart, EmitsScope, EmitsBranch, EmitsHandler}
use Rattle.flow_split.proofs.Joins.{join, coming_at, closed_at, acted_at}
use Rattle.flow_split.proofs.Lengths.{lowered_more, lowered_groups}

-- a state with these locals in force and these numbers
pub record Stands (f : Emitted) (s : Scope) (n : Next) : Type 0 where
  pub scopes : f.scopes ≡ s
  pub coming : coming f ≡ n

pub blocks_push : (bs : List BlockTree) (b : BlockTree) → length (bs ++ b ∷ []) ≡ suc (length bs)
blocks_push bs b = length-append bs (b ∷ []) ∙ plus_one (length bs)
  where
    plus_one : (n : ℕ) → n + 1 ≡ suc n
    plus_one n = omega arith

closed_stands : (w : Around) (last : LastTree) (e : Emitted) → Stands (closed w last e) e.scopes (going e)
closed_stands w last e = record {
  scopes = refl;
  coming = ap (λ b. record { block = b; local = e.next; group = suc (length e.groups) }) (blocks_push e.blocks (closed_block w last e));
}

-- a block ends without a statement, and with one
pub record Ended (w : Around) (acts : Bool) (is : List InstrTree) (last : LastTree) (e f : Emitted) : Type 0 where
  pub at : At w.hand e (ends w e.scopes acts is last) f
  pub stands : Stands f e.scopes (going e)

pub ended : (w : Around) (is : List InstrTree) (last : LastTree) (e f : Emitted) → f ≡ closed w last (put is e) → Ended w false is last e f
ended w is last e f h = subst (Ended w false is last e) (sym h) (record { at = closed_at w last e is; stands = closed_stands w last (put is e) })

pub ended_acting : (w : Around) (is : List InstrTree) (last : LastTree) (e f : Emitted) → f ≡ closed w last (acted is e) → Ended w true is last e f
ended_acting w is last e f h = subst (Ended w true is last e) (sym h) (record { at = acted_at w last e is; stands = closed_stands w last (acted is e) })

-- no instructions before the end
pub put_none : (e : Emitted) → e ≡ put [] e
put_none e i = record e { body = sym (append-nil e.body) i }

pub ended_plain : (w : Around) (last : LastTree) (e f : Emitted) → f ≡ closed w last e → Ended w false [] last e f
ended_plain w last e f h = ended w [] last e f (h ∙ ap (closed w last) (put_none e))

-- the block at hand may be open or not
pub reopen : (h : Option Hand) (e f : Emitted) (c : Chunk) → At h (opened e) c f → At h e c f
reopen h e f c a = record { all = a.all; fresh = a.fresh }

more_numbers : (a b c : ℕ) → a + suc b ≡ suc a + b
more_numbers a b c = omega arith

group_numbers : (a b : ℕ) → suc (a + b) ≡ suc a + b
group_numbers a b = omega arith

module _ (ns : Names) (slots : List SlotTree) where
  -- behind a lowered body
  pub behind_body : (w : Around) (s : Scope) (l : ℕ) (b : Body) (after : Scope) (e f : Emitted) → EmitsBody ns slots s l w b after e f
      → Stands f after (past w.looped.tried b (record (going e) { local = l }))
  behind_body w s l b after e f h = record {
    scopes = h.scopes;
    coming =
        coming_at w.hand e f (lowered ns slots s w (record (going e) { local = l }) b) (blocks_in w.looped.tried b) (groups_in b) (lowered_more ns slots s w (record (going e) { local = l }) b)
        (lowered_groups ns slots s w (record (going e) { local = l }) b) h.all
        ∙ (λ i. record {
          block = more_numbers (length e.blocks) (blocks_in w.looped.tried b) 0 i;
          local = h.next i;
          group = group_numbers (length e.groups) (groups_in b) i;
        });
  }

  pub record Scoping (v : Around) (s : Scope) (n : Next) (b : Body) (e f : Emitted) : Type 0 where
    pub at : At v.hand e (lowered ns slots (Mark ∷ s) v n b) f
    pub stands : Stands f s (past v.looped.tried b n)

  -- a scope, in a block that begins for it
  pub scope_in : (v : Around) (s : Scope) (n : Next) (b : Body) (e f : Emitted) → Stands e s n → EmitsScope ns slots v b e f → Scoping v s (begun n) b e f
  scope_in v s n b e f st h =
      subst (λ x. Scoping v x (begun n) b e f) st.scopes
      (subst (λ m. Scoping v e.scopes (begun m) b e f) st.coming (record { at = h.all; stands = behind_body v (Mark ∷ e.scopes) e.next b e.scopes e f h }))

  pub scope_begins : (v : Around) (s : Scope) (n : Next) (b : Body) (e f : Emitted) → Stands e s n → EmitsScope ns slots v b (opened e) f → Scoping v s (begun n) b e f
  scope_begins v s n b e f st h =
      let r = scope_in v s n b (opened e) f (record { scopes = st.scopes; coming = st.coming }) h in
      record { at = reopen v.hand e f _ r.at; stands = r.stands }

  -- a body that begins with a variable, and a part of a `for`, in a block that begins for it
  pub record Bodying (v : Around) (s : Scope) (n : Next) (b : Body) (after : Scope) (e f : Emitted) : Type 0 where
    pub at : At v.hand e (lowered ns slots s v n b) f
    pub stands : Stands f after (past v.looped.tried b n)

  pub handler_begins : (v : Around) (x : List ℕ) (s : Scope) (n : Next) (b : Body) (e f : Emitted) → Stands e s n → EmitsHandler ns slots v x b (opened e) f
      → Bodying v (Var x n.local ∷ Mark ∷ s) (record (begun n) { local = suc n.local }) b s e f
  handler_begins v x s n b e f st h =
      subst (λ y. Bodying v (Var x n.local ∷ Mark ∷ y) (record (begun n) { local = suc n.local }) b y e f) st.scopes
      (subst (λ m. Bodying v (Var x m.local ∷ Mark ∷ e.scopes) (record (begun m) { local = suc m.local }) b e.scopes e f) st.coming
      (record { at = reopen v.hand e f _ h.all; stands = behind_body v (Var x e.next ∷ Mark ∷ e.scopes) (suc e.next) b e.scopes (opened e) f h }))

  pub branch_begins : (v : Around) (i : Option IntoTree) (s : Scope) (n : Next) (b : Body) (e f : Emitted) → Stands e s n → EmitsBranch ns slots v i b (opened e) f
      → Bodying v (with_taken i n.local (Mark ∷ s)) (taken i (begun n)) b s e f
  branch_begins v i s n b e f st h =
      subst (λ y. Bodying v (with_taken i n.local (Mark ∷ y)) (taken i (begun n)) b y e f) st.scopes
      (subst (λ m. Bodying v (with_taken i m.local (Mark ∷ e.scopes)) (taken i (begun m)) b e.scopes e f) st.coming
      (record { at = reopen v.hand e f _ h.all; stands = behind_body v (with_taken i e.next (Mark ∷ e.scopes)) (into_count i + e.next) b e.scopes (opened e) f h }))

  pub part_in : (v : Around) (s : Scope) (n : Next) (b : Body) (e f : Emitted) → Stands e s n → EmitsPart ns slots v b e f → Bodying v s (begun n) b (later b n.local s) e f
  part_in v s n b e f st h =
      subst (λ y. Bodying v y (begun n) b (later b n.local y) e f) st.scopes
      (subst (λ m. Bodying v e.scopes (begun m) b (later b m.local e.scopes) e f) st.coming (record { at = h.all; stands = behind_body v e.scopes e.next b (later b e.next e.scopes) e f h }))

  -- a scope in the block at hand
  pub scope_goes_on : (v : Around) (b : Body) (e f : Emitted) → EmitsScope ns slots v b e f → Scoping v e.scopes (going e) b e f
  scope_goes_on v b e f h = record { at = h.all; stands = behind_body v (Mark ∷ e.scopes) e.next b e.scopes e f h }

  -- a statement that goes on in a block of its own
  pub finish : (w : Around) (e f new : Emitted) (c : Chunk) (m : Next) (stmt : Body → Body) → e.is_open ≡ true → new ≡ opened f → At w.hand e c f → Stands f e.scopes m
      → ((k : Body) → rest_of ns slots e w (stmt k) ≡ joined w.hand c (lowered ns slots e.scopes w (begun m) k))
      → ((k : Body) → m.local + locals_in k ≡ e.next + locals_in (stmt k))
      → later (stmt End) e.next e.scopes ≡ e.scopes
      → Emits ns slots w stmt e new
  finish w e f new c m stmt o nw a st code next same =
      subst (Emits ns slots w stmt e) (sym nw)
      (record {
        code = λ k.
            ap₂ (λ s n. with_chunk w.hand f (lowered ns slots s w (begun n) k)) st.scopes st.coming
            ∙ join w.hand w.hand e f c (lowered ns slots e.scopes w (begun m) k) a
            ∙ ap (with_chunk w.hand e) (sym (code k))
            ∙ ap (λ x. with_rest_if ns slots (x || has_statement (stmt k)) e w (stmt k)) (sym o);
        next = λ k. ap (λ n. n.local + locals_in k) st.coming ∙ next k;
        scopes = st.scopes ∙ sym same;
        shut = λ h. absurd (no_false h);
      })
    where
      no_false : true ≡ false → ⊥
      no_false h = cc

  -- a statement that nothing goes on from
  behind_if : (b : Bool) (w : Around) (e f : Emitted) (c : Chunk) (m : Next) (k : Body) → At w.hand e c f → Stands f e.scopes m
      → with_rest_if ns slots b f w k ≡ with_chunk w.hand e (if b then joined w.hand c (lowered ns slots e.scopes w (begun m) k) else c)
  behind_if true w e f c m k a st =
      ap₂ (λ s n. with_chunk w.hand f (lowered ns slots s w (begun n) k)) st.scopes st.coming ∙ join w.hand w.hand e f c (lowered ns slots e.scopes w (begun m) k) a
  behind_if false w e f c m k a st = a.all

  pub stop : (w : Around) (e f : Emitted) (c : Chunk) (m : Next) (stmt : Body → Body) → e.is_open ≡ true → f.is_open ≡ false → At w.hand e c f → Stands f e.scopes m
      → ((k : Body) → rest_of ns slots e w (stmt k) ≡ before_rest w.hand c k (lowered ns slots e.scopes w (begun m) k))
      → ((k : Body) → m.local + locals_in k ≡ e.next + locals_in (stmt k))
      → later (stmt End) e.next e.scopes ≡ e.scopes
      → Emits ns slots w stmt e f
  stop w e f c m stmt o sh a st code next same = record {
    code = λ k.
        ap (λ x. with_rest_if ns slots (x || has_statement k) f w k) sh
        ∙ behind_if (has_statement k) w e f c m k a st
        ∙ ap (with_chunk w.hand e) (sym (code k))
        ∙ ap (λ x. with_rest_if ns slots (x || has_statement (stmt k)) e w (stmt k)) (sym o);
    next = λ k. ap (λ n. n.local + locals_in k) st.coming ∙ next k;
    scopes = st.scopes ∙ sym same;
    shut = λ h. a.fresh;
  }

  -- a statement of instructions alone
  or_true : (b : Bool) → b || true ≡ true
  or_true true = refl
  or_true false = refl

  onto_acted : (is : List InstrTree) (e : Emitted) (c : Chunk) → onto (acted is e) c ≡ onto e (acting is c)
  onto_acted is e c i = record c { body = append_assoc e.body is c.body i; acts = or_true c.acts i }

  pub instrs_emit : (w : Around) (e f : Emitted) (is : List InstrTree) (stmt : Body → Body) → e.is_open ≡ true → f.blocks ≡ e.blocks → f.groups ≡ e.groups → f.is_open ≡ true → f.body ≡ e.body ++ is
      → f.acts ≡ true
      → ((k : Body) → rest_of ns slots e w (stmt k) ≡ acting is (rest_of ns slots f w k))
      → ((k : Body) → f.next + locals_in k ≡ e.next + locals_in (stmt k))
      → f.scopes ≡ later (stmt End) e.next e.scopes
      → Emits ns slots w stmt e f
  instrs_emit w e f is stmt o fb fg fo fi fa code next same = record {
    code = λ k.
        ap (λ x. with_rest_if ns slots (x || has_statement k) f w k) fo
        ∙ (λ i. record {
          blocks = fb i ++ blocks_of w.hand (record (rest_of ns slots f w k) { body = fi i ++ (rest_of ns slots f w k).body; acts = (rest_of ns slots f w k).acts || fa i });
          groups = fg i ++ (rest_of ns slots f w k).groups;
        })
        ∙ (λ i. record { blocks = e.blocks ++ blocks_of w.hand (onto_acted is e (rest_of ns slots f w k) i); groups = e.groups ++ (rest_of ns slots f w k).groups })
        ∙ ap (with_chunk w.hand e) (sym (code k))
        ∙ ap (λ x. with_rest_if ns slots (x || has_statement (stmt k)) e w (stmt k)) (sym o);
    next = next;
    scopes = same;
    shut = λ h. absurd (true_is_false (sym fo ∙ h));
  }
    where
      true_is_false : true ≡ false → ⊥
      true_is_false h = cc
