-- What stands where in a class: lists of instructions, blocks, groups and locals, and chunks.
use Rattle.std.proofs.Common.{◌≡◌, ℕ, suc, ◌+◌, Bool, true, List, [], ◌∷◌, ◌++◌, length, slice_get, refl, ap, subst, ◌∙◌, arith}
use Rattle.std.specs.declared.option.Option.{Option}
use Rattle.std.specs.declared.option.Option.TheVariants.{Some}
use Rattle.flow_tree.specs.Tree.{TypeTree}
use Rattle.flow_class.specs.Classes.{InstrTree, LastTree, BlockTree, CallbackTree, ClassTree}
use Rattle.flow_class.specs.Code.{Last, catcher_at, group_at}
use Rattle.flow_class.specs.Code as code
use Rattle.flow_meaning.specs.Requests.{Spot}
use Rattle.flow_meaning.specs.Evaluating.{Names}
use Rattle.flow_meaning.specs.Text.{next_spot}
use Rattle.flow_meaning.specs.Frame.{spot_of}
use Rattle.flow_meaning.specs.Carry.{Pos, entry, after, at}
use Rattle.flow_split.specs.Around.{Hand}
use Rattle.flow_split.specs.Lowered.{Chunk, catch_part, block_with, blocks_of, joined, acting}

-- the next wait behind such groups
abbrev pub moved : List (List CallbackTree) → Spot → Spot
moved [] x = x
moved (cs ∷ gs) x = moved gs (next_spot (length cs) x)

pub moved_append : (gs hs : List (List CallbackTree)) (x : Spot) → moved (gs ++ hs) x ≡ moved hs (moved gs x)
moved_append [] hs x = refl
moved_append (cs ∷ gs) hs x = moved_append gs hs (next_spot (length cs) x)

pub moved_group : (gs : List (List CallbackTree)) (x : Spot) → (moved gs x).group ≡ x.group + length gs
moved_group [] x = omega arith
moved_group (cs ∷ gs) x = let e = moved_group gs (next_spot (length cs) x) in omega (arith, e)

module _ (ns : Names) (c : ClassTree) where
  -- instructions and a last one from a position on, blocks and locals from a number on, and groups from a wait on
  abbrev pub InstrsAt : Pos → List InstrTree → LastTree → Type 0
  InstrsAt p [] l = at ns c p ≡ Last l
  InstrsAt p (i ∷ is) l = (at ns c p ≡ code.Body i) × InstrsAt (after p) is l

  abbrev pub BlocksAt : ℕ → List BlockTree → Type 0
  BlocksAt n [] = Unit {0}
  BlocksAt n (b ∷ bs) = (slice_get c.blocks n ≡ Some b) × BlocksAt (suc n) bs

  abbrev pub LocalsAt : ℕ → List TypeTree → Type 0
  LocalsAt n [] = Unit {0}
  LocalsAt n (t ∷ ts) = (slice_get c.locals n ≡ Some t) × LocalsAt (suc n) ts

  abbrev pub GroupsAt : Spot → List (List CallbackTree) → Type 0
  GroupsAt x [] = Unit {0}
  GroupsAt x (cs ∷ gs) = (group_at c.groups x.group ≡ Some cs) × (spot_of c x.group ≡ x) × GroupsAt (next_spot (length cs) x) gs

  -- of lists one after another
  blocks_front : (n : ℕ) (xs ys : List BlockTree) → BlocksAt n (xs ++ ys) → BlocksAt n xs
  blocks_front n [] ys h = tt
  blocks_front n (x ∷ xs) ys h = (h.0, blocks_front (suc n) xs ys h.1)

  blocks_back : (n m : ℕ) (xs ys : List BlockTree) → m ≡ n + length xs → BlocksAt n (xs ++ ys) → BlocksAt m ys
  blocks_back n m [] ys e h = let same : n ≡ m = omega (arith, e) in subst (λ k. BlocksAt k ys) same h
  blocks_back n m (x ∷ xs) ys e h = blocks_back (suc n) m xs ys (omega (arith, e)) h.1

  pub locals_front : (n : ℕ) (xs ys : List TypeTree) → LocalsAt n (xs ++ ys) → LocalsAt n xs
  locals_front n [] ys h = tt
  locals_front n (x ∷ xs) ys h = (h.0, locals_front (suc n) xs ys h.1)

  pub locals_back : (n m : ℕ) (xs ys : List TypeTree) → m ≡ n + length xs → LocalsAt n (xs ++ ys) → LocalsAt m ys
  locals_back n m [] ys e h = let same : n ≡ m = omega (arith, e) in subst (λ k. LocalsAt k ys) same h
  locals_back n m (x ∷ xs) ys e h = locals_back (suc n) m xs ys (omega (arith, e)) h.1

  groups_front : (x : Spot) (gs hs : List (List CallbackTree)) → GroupsAt x (gs ++ hs) → GroupsAt x gs
  groups_front x [] hs h = tt
  groups_front x (cs ∷ gs) hs h = (h.0, h.1, groups_front (next_spot (length cs) x) gs hs h.2)

  groups_back : (x : Spot) (gs hs : List (List CallbackTree)) → GroupsAt x (gs ++ hs) → GroupsAt (moved gs x) hs
  groups_back x [] hs h = h
  groups_back x (cs ∷ gs) hs h = groups_back (next_spot (length cs) x) gs hs h.2

  -- A chunk stands at p, with its further blocks from number n on and its groups from the wait x on: where a statement
  -- stands in it the block catches as the chunk says.
  pub record Stands (p : Pos) (n : ℕ) (x : Spot) (h : Option Hand) (ch : Chunk) : Type 0 where
    pub code : InstrsAt p ch.body ch.last
    pub acts : Bool
    pub caught : catcher_at c p.block ≡ catch_part acts h ch.held
    pub acted : ch.acts ≡ true → acts ≡ true
    pub more : BlocksAt n ch.more
    pub groups : GroupsAt x ch.groups

  in_block : (n i : ℕ) (is : List InstrTree) (l : LastTree) → ((j : ℕ) → at ns c (record { block = n; instr = i + j }) ≡ code.fetch_in is l j) → InstrsAt (record { block = n; instr = i }) is l
  in_block n i [] l h = ap (λ k. at ns c (record { block = n; instr = k })) (plus_zero i) ∙ h 0
    where
      plus_zero : (i : ℕ) → i ≡ i + 0
      plus_zero i = omega arith
  in_block n i (o ∷ is) l h =
      (ap (λ k. at ns c (record { block = n; instr = k })) (plus_zero i) ∙ h 0, in_block n (suc i) is l (λ j. ap (λ k. at ns c (record { block = n; instr = k })) (plus_suc i j) ∙ h (suc j)))
    where
      plus_zero : (i : ℕ) → i ≡ i + 0
      plus_zero i = omega arith

      plus_suc : (i j : ℕ) → suc i + j ≡ i + suc j
      plus_suc i j = omega arith

  -- a block stands at its entry
  pub at_entry : (n : ℕ) (b : BlockTree) → slice_get c.blocks n ≡ Some b → InstrsAt (entry n) b.body b.last
  at_entry n b e = in_block n 0 b.body b.last (λ j. ap (λ o. code.fetch_at o (0 + j)) e ∙ ap (code.fetch_in b.body b.last) (zero_plus j))
    where
      zero_plus : (j : ℕ) → 0 + j ≡ j
      zero_plus j = omega arith

  pub in_blocks : (n : ℕ) (x : Spot) (h : Option Hand) (ch : Chunk) → BlocksAt n (blocks_of h ch) → GroupsAt x ch.groups → Stands (entry n) (suc n) x h ch
  in_blocks n x h ch b g = record {
    code = at_entry n (block_with h ch) b.0;
    acts = ch.acts;
    caught = ap code.catcher_in b.0;
    acted = λ e. e;
    more = b.1;
    groups = g;
  }

  -- a chunk and then another one
  pub first : (p : Pos) (n : ℕ) (x : Spot) (h g : Option Hand) (a b : Chunk) → Stands p n x h (joined g a b) → Stands p n x h a
  first p n x h g a b s = record {
    code = s.code;
    acts = s.acts;
    caught = s.caught;
    acted = s.acted;
    more = blocks_front n a.more (blocks_of g b) s.more;
    groups = groups_front x a.groups b.groups s.groups;
  }

  pub second : (p : Pos) (n m : ℕ) (x y : Spot) (h g : Option Hand) (a b : Chunk) → m ≡ n + length a.more → moved a.groups x ≡ y → Stands p n x h (joined g a b) → Stands (entry m) (suc m) y g b
  second p n m x y h g a b em ey s =
      in_blocks m y g b (blocks_back n m a.more (blocks_of g b) em s.more) (subst (λ z. GroupsAt z b.groups) ey (groups_back x a.groups b.groups s.groups))

  -- an instruction and then the rest
  pub one_at : (p : Pos) (n : ℕ) (x : Spot) (h : Option Hand) (i : InstrTree) (ch : Chunk) → Stands p n x h (acting (i ∷ []) ch) → at ns c p ≡ code.Body i
  one_at p n x h i ch s = s.code.0

  pub one_on : (p : Pos) (n : ℕ) (x : Spot) (h : Option Hand) (i : InstrTree) (ch : Chunk) → Stands p n x h (acting (i ∷ []) ch) → Stands (after p) n x h ch
  one_on p n x h i ch s = record { code = s.code.1; acts = s.acts; caught = s.caught; acted = λ e. s.acted refl; more = s.more; groups = s.groups }
