-- What the code keeps while it lowers, seen as plain data, and what each step adds to it.
use Rattle.std.specs.Prelude.{◌≡◌, ℕ, suc, ◌+◌, Bool, true, false, ◌||◌, List, [], ◌∷◌, ◌++◌, map, length}
use Rattle.std.specs.declared.option.Option.{Option}
use Rattle.std.specs.declared.option.Option.TheVariants.{None, Some}
use Rattle.flow_tree.specs.Body.{IntoTree, Body, End, Branches, NoBranches, MoreBranches}
use Rattle.flow_tree.specs.Decls.{SlotTree}
use Rattle.flow_ast.specs.Leaving.{has_statement}
use Rattle.flow_class.specs.Classes.{InstrTree, DropInstr, LastTree, GotoLast, TestLast, ChooseLast, BlockTree, CallbackTree}
use Rattle.flow_class.specs.Scopes.{Scope, Mark, Var, scope, outside, over}
use Rattle.flow_class.specs.View.{instr_of, block_of, group_of, callback_of}
use Rattle.flow_catch.specs.Inner.{inner_locals, left_lists}
use Rattle.flow_meaning.specs.Evaluating.{Names}
use Rattle.flow_class.specs.declared.class.Callback.{Callback}
use Rattle.flow_tree.specs.Tree.{ExprTree}
use Rattle.flow_split.specs.declared.emitter.Emitter.{Emitter}
use Rattle.flow_split.specs.Around.{Exit, Text, Scoped, Part, Hand, Around}
use Rattle.flow_split.specs.Counts.{locals_in, branch_local_count, local_count, into_count, Next, begun}
use Rattle.flow_split.specs.Lowered.{Chunk, catch_part, blocks_of, drop_of, text_end, with_into, with_taken, later, lowered, branches}

-- the locals in force and the number of the next one; the blocks and groups so far; whether a block is open, whether a
-- statement stands in it, and its instructions
pub record Emitted : Type 0 where
  pub scopes : Scope
  pub next : ℕ
  pub blocks : List BlockTree
  pub groups : List (List CallbackTree)
  pub is_open : Bool
  pub acts : Bool
  pub body : List InstrTree

abbrev pub emitted : Emitter → Emitted
emitted e = record {
  scopes = e.scopes;
  next = e.next;
  blocks = map block_of e.blocks.items;
  groups = map group_of e.groups.items;
  is_open = e.is_open;
  acts = e.acts;
  body = map instr_of e.body.items;
}

-- a block begins, instructions are added, and the block ends
abbrev pub opened : Emitted → Emitted
opened e = record e { is_open = true }

abbrev pub put : List InstrTree → Emitted → Emitted
put is e = record e { body = e.body ++ is }

abbrev pub acted : List InstrTree → Emitted → Emitted
acted is e = record e { body = e.body ++ is; acts = true }

abbrev pub closed_block : Around → LastTree → Emitted → BlockTree
closed_block w last e = record { catcher = catch_part e.acts w.hand (inner_locals w.depth e.scopes); body = e.body; last = last }

abbrev pub closed : Around → LastTree → Emitted → Emitted
closed w last e = record e {
  blocks = e.blocks ++ closed_block w last e ∷ [];
  is_open = false;
  acts = false;
  body = [];
}

-- a scope begins
abbrev pub in_scope : Emitted → Emitted
in_scope e = record e { scopes = Mark ∷ e.scopes }

-- and ends
abbrev pub out_of_scope : Emitted → Emitted
out_of_scope e = record e { scopes = outside e.scopes }

-- the scope of a catch begins, with the local that takes the error
abbrev pub in_catch : List ℕ → Emitted → Emitted
in_catch x e = record e { scopes = Var x e.next ∷ Mark ∷ e.scopes; next = suc e.next }

-- the end of a body
abbrev pub closed_by : Around → Emitted → Exit → Emitted
closed_by w e (Text close) = closed w (text_end close) e
closed_by w e (Scoped last) = closed w last (put (drop_of (scope e.scopes)) e)
closed_by w e (Part last) = closed w last e

abbrev pub closed_end : Around → Emitted → Emitted
closed_end w e = closed_by w e w.exit

-- a break or a continue: the scopes up to the loop are left, out of a try body in a block outside of that
abbrev pub left_loop : Around → LastTree → Emitted → Emitted
left_loop w last e = closed w last (put (map DropInstr (left_lists w.looped.depth e.scopes)) e)

abbrev pub shut_if : Bool → Around → LastTree → Emitted → Emitted
shut_if true w last e = left_loop w last (opened (closed w (GotoLast (suc (length e.blocks))) e))
shut_if false w last e = left_loop w last e

abbrev pub shut_by : Around → LastTree → Emitted → Emitted
shut_by w last e = shut_if w.looped.tried w last e

-- a declared variable is in force
abbrev pub declaring : IntoTree → Emitted → Emitted
declaring i e = record e { scopes = with_into i e.next e.scopes; next = local_count i + e.next }

abbrev pub taking : Option IntoTree → Emitted → Emitted
taking i e = record e { scopes = with_taken i e.next e.scopes; next = into_count i + e.next }

-- the numbers of the block, the local and the group that come next, where no block is open, and where one is
abbrev pub coming : Emitted → Next
coming e = record { block = length e.blocks; local = e.next; group = suc (length e.groups) }

abbrev pub going : Emitted → Next
going e = begun (coming e)

-- the block at hand with the rest of it
abbrev pub onto : Emitted → Chunk → Chunk
onto e c = record c { body = e.body ++ c.body; acts = c.acts || e.acts }

-- all blocks and groups so far
pub record Emission : Type 0 where
  pub blocks : List BlockTree
  pub groups : List (List CallbackTree)

abbrev pub emission : Emitted → Emission
emission e = record { blocks = e.blocks; groups = e.groups }

-- and those of a chunk, which begins in the block at hand
abbrev pub with_chunk : Option Hand → Emitted → Chunk → Emission
with_chunk h e c = record { blocks = e.blocks ++ blocks_of h (onto e c); groups = e.groups ++ c.groups }

-- nothing stands in the block at hand
pub record Fresh (e : Emitted) : Type 0 where
  pub body : e.body ≡ []
  pub acts : e.acts ≡ false

-- from e on just this chunk was emitted
pub record At (h : Option Hand) (e : Emitted) (c : Chunk) (f : Emitted) : Type 0 where
  pub all : emission f ≡ with_chunk h e c
  pub fresh : Fresh f

module _ (ns : Names) (slots : List SlotTree) where
  -- what is emitted, with what a body adds to it
  abbrev pub rest_of : Emitted → Around → Body → Chunk
  rest_of e w k = lowered ns slots e.scopes w (going e) k

  abbrev pub with_rest_if : Bool → Emitted → Around → Body → Emission
  with_rest_if true e w k = with_chunk w.hand e (rest_of e w k)
  with_rest_if false e w k = emission e

  abbrev pub with_rest : Emitted → Around → Body → Emission
  with_rest e w k = with_rest_if (e.is_open || has_statement k) e w k

  -- from old to new just the statement was emitted, whatever follows it
  pub record Emits (w : Around) (stmt : Body → Body) (old new : Emitted) : Type 0 where
    pub code : (k : Body) → with_rest new w k ≡ with_rest old w (stmt k)
    pub next : (k : Body) → new.next + locals_in k ≡ old.next + locals_in (stmt k)
    pub scopes : new.scopes ≡ later (stmt End) old.next old.scopes
    pub shut : new.is_open ≡ false → Fresh new

  -- a whole body was emitted, over the locals s with l as the next number; the locals are then those outside of its scope
  pub record EmitsBody (s : Scope) (l : ℕ) (w : Around) (b : Body) (after : Scope) (old new : Emitted) : Type 0 where
    pub all : At w.hand old (lowered ns slots s w (record (going old) { local = l }) b) new
    pub next : new.next ≡ l + locals_in b
    pub scopes : new.scopes ≡ after

  -- a whole body, and what stands before its scope ends
  pub record EmitsAll (w : Around) (b : Body) (old new : Emitted) : Type 0 where
    pub all : At w.hand old (rest_of old w b) new
    pub next : new.next ≡ old.next + locals_in b
    pub scopes : outside new.scopes ≡ outside old.scopes

  -- a part of a `for`, whose locals stay
  abbrev pub EmitsPart : Around → Body → Emitted → Emitted → Type 0
  EmitsPart w b old new = EmitsBody old.scopes old.next w b (later b old.next old.scopes) old new

  -- a body in a scope of its own, which may begin with a variable
  abbrev pub EmitsScope : Around → Body → Emitted → Emitted → Type 0
  EmitsScope w b old new = EmitsBody (Mark ∷ old.scopes) old.next w b old.scopes old new

  abbrev pub EmitsBranch : Around → Option IntoTree → Body → Emitted → Emitted → Type 0
  EmitsBranch w i b old new = EmitsBody (with_taken i old.next (Mark ∷ old.scopes)) (into_count i + old.next) w b old.scopes old new

  abbrev pub EmitsHandler : Around → List ℕ → Body → Emitted → Emitted → Type 0
  EmitsHandler w x b old new = EmitsBody (Var x old.next ∷ Mark ∷ old.scopes) (suc old.next) w b old.scopes old new

  -- branches of a choose, behind what was emitted before
  pub record EmitsBranches (w : Around) (bs : Branches) (old new : Emitted) : Type 0 where
    pub all : (e : Emitted) (c : Chunk) → At w.hand e c old → At w.hand e (branches ns slots c old.scopes w (coming old) bs) new
    pub next : new.next ≡ old.next + branch_local_count bs
    pub scopes : new.scopes ≡ old.scopes

-- the end of a body, where a block is still open
abbrev pub ended_if : Bool → Around → Emitted → Emitted
ended_if true w e = closed_end w e
ended_if false w e = e

abbrev pub ended_by : Around → Emitted → Emitted
ended_by w e = ended_if e.is_open w e

-- the test of a `for`
abbrev pub testing : List SlotTree → Around → Option ExprTree → (main out : ℕ) → Emitted → Emitted
testing slots w None main out e = e
testing slots w (Some t) main out e = opened (closed w (TestLast (over slots e.scopes t) main out) (acted [] e))

-- a wait for callbacks
abbrev pub callbacks_of : List Callback → List CallbackTree
callbacks_of cs = map callback_of cs

abbrev pub waiting_for : Around → List CallbackTree → Emitted → Emitted
waiting_for w cs e = record (closed w (ChooseLast (suc (length e.groups))) (acted [] e)) { groups = e.groups ++ cs ∷ [] }

-- a branch of a choose, in a scope of its own
abbrev pub EmitsOnly : Names → List SlotTree → Around → Branches → Emitted → Emitted → Type 0
EmitsOnly ns slots w NoBranches old new = ⊥
EmitsOnly ns slots w (MoreBranches at v b bs) old new = EmitsBranch ns slots w v.into b old new

abbrev pub EmitsWhen : Names → List SlotTree → Around → (Branches → Branches) → Emitted → Emitted → Type 0
EmitsWhen ns slots w f old new = EmitsOnly ns slots w (f NoBranches) old new
