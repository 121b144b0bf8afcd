-- How much lies ahead of a frame in its class before it takes a turn, since jumps and tests lead forward.
use Rattle.std.proofs.Common.{◌≡◌, ℕ, zero, suc, ◌+◌, ◌*◌, ◌-◌, ◌<◌, ◌≤◌, Bool, true, false, List, [], ◌∷◌, length, refl, sym, subst, arith}
use Rattle.std.specs.Prelude.{nat_lt, ◌&&◌, slice_get}
use Rattle.std.specs.declared.option.Option.{Option}
use Rattle.std.specs.declared.option.Option.TheVariants.{None, Some}
use Rattle.flow_class.specs.Classes.{CatcherTree, InstrTree, LastTree, GotoLast, PassLast, TestLast, ChooseLast, ReturnLast, ThrowLast, BlockTree, CallbackTree, ClassTree}
use Rattle.flow_class.specs.Code.{Body, Last, Nothing, fetch_in, fetch_at, fetch, catcher_in, catcher_at, group_at, callback_at}
use Rattle.flow_valid.specs.Validity.{all_blocks, leads_on, leads_forward, takes_error, distinct, catches, catchers_kept}

-- the branches of a group
abbrev branches : Option (List CallbackTree) → ℕ
branches None = 0
branches (Some ks) = length ks

module _ (gs : List (List CallbackTree)) where
  -- what is ahead at a last instruction, with so many operands kept
  abbrev last_room : ℕ → LastTree → ℕ
  last_room kept (ChooseLast g) = 6 + 2 * (branches (group_at gs g) - kept)
  last_room kept l = 6

  -- at an instruction of a block
  abbrev rest_room : List InstrTree → LastTree → (instr kept : ℕ) → ℕ
  rest_room [] l zero kept = last_room kept l
  rest_room [] l (suc n) kept = 0
  rest_room (i ∷ is) l zero kept = 2 + rest_room is l zero 0
  rest_room (i ∷ is) l (suc n) kept = rest_room is l n kept

  -- in the blocks from a number on
  abbrev rooms : List BlockTree → ℕ → ℕ
  rooms [] n = 0
  rooms (b ∷ bs) zero = rest_room b.body b.last 0 0 + rooms bs 0
  rooms (b ∷ bs) (suc n) = rooms bs n

  abbrev block_room : Option BlockTree → (instr kept : ℕ) → ℕ
  block_room None n kept = 0
  block_room (Some b) n kept = rest_room b.body b.last n kept

  last_least : (kept : ℕ) (l : LastTree) → 6 ≤ last_room kept l
  last_least kept (ChooseLast g) = omega arith
  last_least kept _ = omega arith

  last_most : (kept : ℕ) (l : LastTree) → last_room kept l ≤ last_room 0 l
  last_most kept (ChooseLast g) = omega arith
  last_most kept _ = omega arith

  rest_least : (is : List InstrTree) (l : LastTree) (n kept : ℕ) → (fetch_in is l n ≡ Nothing → ⊥) → 6 ≤ rest_room is l n kept
  rest_least [] l zero kept h = last_least kept l
  rest_least [] l (suc n) kept h = absurd (h refl)
  rest_least (i ∷ is) l zero kept h = omega (arith, rest_least is l zero 0 (last_there is l))
    where
      last_there : (is : List InstrTree) (l : LastTree) → fetch_in is l zero ≡ Nothing → ⊥
      last_there [] l q = cc
      last_there (i ∷ is) l q = cc
  rest_least (i ∷ is) l (suc n) kept h = rest_least is l n kept h

  rest_most : (is : List InstrTree) (l : LastTree) (n kept : ℕ) → rest_room is l n kept ≤ rest_room is l 0 0
  rest_most [] l zero kept = last_most kept l
  rest_most [] l (suc n) kept = omega (arith, last_least 0 l)
  rest_most (i ∷ is) l zero kept = omega arith
  rest_most (i ∷ is) l (suc n) kept = omega (arith, rest_most is l n kept)

  -- each instruction takes two
  rest_next : (is : List InstrTree) (l : LastTree) (n kept other : ℕ) (i : InstrTree) → fetch_in is l n ≡ Body i → rest_room is l (suc n) other + 2 ≤ rest_room is l n kept
  rest_next [] l zero kept other i q = absurd (no_body q)
    where
      no_body : {l : LastTree} {i : InstrTree} → Last l ≡ Body i → ⊥
      no_body h = cc
  rest_next [] l (suc n) kept other i q = absurd (no_body q)
    where
      no_body : {i : InstrTree} → Nothing ≡ Body i → ⊥
      no_body h = cc
  rest_next (x ∷ is) l zero kept other i q = omega (arith, rest_most is l 0 other)
  rest_next (x ∷ is) l (suc n) kept other i q = rest_next is l n kept other i q

  -- and so does each operand
  rest_kept : (is : List InstrTree) (n g kept : ℕ) → fetch_in is (ChooseLast g) n ≡ Last (ChooseLast g) → kept < branches (group_at gs g)
      → rest_room is (ChooseLast g) n (suc kept) + 2 ≤ rest_room is (ChooseLast g) n kept
  rest_kept [] zero g kept q h = omega (arith, h)
  rest_kept [] (suc n) g kept q h = absurd (no_last q)
    where
      no_last : {l : LastTree} → Nothing ≡ Last l → ⊥
      no_last h = cc
  rest_kept (i ∷ is) zero g kept q h = absurd (no_last q)
    where
      no_last : {i : InstrTree} {l : LastTree} → Body i ≡ Last l → ⊥
      no_last h = cc
  rest_kept (i ∷ is) (suc n) g kept q h = rest_kept is n g kept q h

  -- the last instruction of a block is the block's own
  pub own_last : (is : List InstrTree) (k l : LastTree) (n : ℕ) → fetch_in is k n ≡ Last l → k ≡ l
  own_last [] k l zero q = same_last q
    where
      same_last : {k l : LastTree} → Last k ≡ Last l → k ≡ l
      same_last h = cc
  own_last [] k l (suc n) q = absurd (no_last q)
    where
      no_last : {l : LastTree} → Nothing ≡ Last l → ⊥
      no_last h = cc
  own_last (i ∷ is) k l zero q = absurd (no_last q)
    where
      no_last : {i : InstrTree} {l : LastTree} → Body i ≡ Last l → ⊥
      no_last h = cc
  own_last (i ∷ is) k l (suc n) q = own_last is k l n q

  rooms_fall : (bs : List BlockTree) (n : ℕ) → rooms bs (suc n) ≤ rooms bs n
  rooms_fall [] n = omega arith
  rooms_fall (b ∷ bs) zero = omega arith
  rooms_fall (b ∷ bs) (suc n) = rooms_fall bs n

  rooms_on : (bs : List BlockTree) (n k : ℕ) → rooms bs (k + n) ≤ rooms bs n
  rooms_on bs n zero = let e : 0 + n ≡ n = omega arith in subst (λ k. rooms bs k ≤ rooms bs n) (sym e) (omega arith)
  rooms_on bs n (suc k) =
      let e : suc k + n ≡ suc (k + n) = omega arith in
      subst (λ m. rooms bs m ≤ rooms bs n) (sym e) (omega (arith, rooms_fall bs (k + n), rooms_on bs n k))

  rooms_less : (bs : List BlockTree) (n m : ℕ) → n ≤ m → rooms bs m ≤ rooms bs n
  rooms_less bs n m h =
      let e : (m - n) + n ≡ m = omega (arith, h) in
      subst (λ k. rooms bs k ≤ rooms bs n) e (rooms_on bs n (m - n))

  block_within : (bs : List BlockTree) (b n kept : ℕ) → block_room (slice_get bs b) n kept + rooms bs (suc b) ≤ rooms bs b
  block_within [] b n kept = omega arith
  block_within (x ∷ bs) zero n kept = omega (arith, rest_most x.body x.last n kept)
  block_within (x ∷ bs) (suc b) n kept = block_within bs b n kept

-- what lies behind a block, what is ahead at an instruction, and what there is in the whole class
abbrev pub behind : ClassTree → (block : ℕ) → ℕ
behind c b = rooms c.groups c.blocks (suc b)

abbrev pub ahead : ClassTree → (block instr kept : ℕ) → ℕ
ahead c b n kept = block_room c.groups (slice_get c.blocks b) n kept + behind c b

abbrev pub whole : ClassTree → ℕ
whole c = rooms c.groups c.blocks 0

pub ahead_whole : (c : ClassTree) (b n kept : ℕ) → ahead c b n kept ≤ whole c
ahead_whole c b n kept = omega (arith, block_within c.groups c.blocks b n kept, rooms_less c.groups c.blocks 0 b (omega arith))

pub behind_whole : (c : ClassTree) (b : ℕ) → behind c b ≤ whole c
behind_whole c b = rooms_less c.groups c.blocks 0 (suc b) (omega arith)

-- what is there is more than what lies behind its block
pub ahead_behind : (c : ClassTree) (b n kept : ℕ) → (fetch c b n ≡ Nothing → ⊥) → behind c b + 6 ≤ ahead c b n kept
ahead_behind c b n kept h = by_block (slice_get c.blocks b) h
  where
    by_block : (o : Option BlockTree) → (fetch_at o n ≡ Nothing → ⊥) → behind c b + 6 ≤ block_room c.groups o n kept + behind c b
    by_block None h = absurd (h refl)
    by_block (Some x) h = omega (arith, rest_least c.groups x.body x.last n kept h)

pub ahead_next : (c : ClassTree) (b n kept other : ℕ) (i : InstrTree) → fetch c b n ≡ Body i → ahead c b (suc n) other + 2 ≤ ahead c b n kept
ahead_next c b n kept other i q = by_block (slice_get c.blocks b) q
  where
    no_body : {i : InstrTree} → Nothing ≡ Body i → ⊥
    no_body h = cc

    by_block : (o : Option BlockTree) → fetch_at o n ≡ Body i → block_room c.groups o (suc n) other + behind c b + 2 ≤ block_room c.groups o n kept + behind c b
    by_block None q = absurd (no_body q)
    by_block (Some x) q = omega (arith, rest_next c.groups x.body x.last n kept other i q)

pub ahead_kept : (c : ClassTree) (b n g kept : ℕ) (k : CallbackTree) → fetch c b n ≡ Last (ChooseLast g) → callback_at c g kept ≡ Some k → ahead c b n (suc kept) + 2 ≤ ahead c b n kept
ahead_kept c b n g kept k q h = by_block (slice_get c.blocks b) q
  where
    no_last : {l : LastTree} → Nothing ≡ Last l → ⊥
    no_last h = cc

    none_some : {X : Type 0} {x : X} → None ≡ Some x → ⊥
    none_some h = cc

    within : (ks : List CallbackTree) (n : ℕ) → slice_get ks n ≡ Some k → n < length ks
    within [] n q = absurd (none_some q)
    within (x ∷ ks) zero q = omega arith
    within (x ∷ ks) (suc n) q = omega (arith, within ks n q)

    few : (o : Option (List CallbackTree)) → Rattle.std.specs.Option.option_and_then (λ cs. slice_get cs kept) o ≡ Some k → kept < branches o
    few None q = absurd (none_some q)
    few (Some ks) q = within ks kept q

    room_at : (x : BlockTree) (l : LastTree) → l ≡ ChooseLast g → fetch_in x.body l n ≡ Last (ChooseLast g) → rest_room c.groups x.body l n (suc kept) + 2 ≤ rest_room c.groups x.body l n kept
    room_at x l e q =
        subst (λ m. rest_room c.groups x.body m n (suc kept) + 2 ≤ rest_room c.groups x.body m n kept) (sym e)
        (rest_kept c.groups x.body n g kept (subst (λ m. fetch_in x.body m n ≡ Last (ChooseLast g)) e q) (few (group_at c.groups g) h))

    by_block : (o : Option BlockTree) → fetch_at o n ≡ Last (ChooseLast g) → block_room c.groups o n (suc kept) + behind c b + 2 ≤ block_room c.groups o n kept + behind c b
    by_block None q = absurd (no_last q)
    by_block (Some x) q = omega (arith, room_at x x.last (own_last c.groups x.body x.last (ChooseLast g) n q) q)

-- a block of greater number, and all from there on, lies behind
pub ahead_jump : (c : ClassTree) (b to kept : ℕ) → b < to → ahead c to 0 kept ≤ behind c b
ahead_jump c b to kept h = omega (arith, block_within c.groups c.blocks to 0 kept, rooms_less c.groups c.blocks (suc b) to (omega (arith, h)))

-- what holds of each block, with its number
blocks_at : (p : ℕ → BlockTree → Bool) (from : ℕ) (bs : List BlockTree) (n : ℕ) (x : BlockTree) → all_blocks p from bs ≡ true → slice_get bs n ≡ Some x → p (n + from) x ≡ true
blocks_at p from [] n x h q = absurd (none_some q)
  where
    none_some : {X : Type 0} {x : X} → None ≡ Some x → ⊥
    none_some h = cc
blocks_at p from (b ∷ bs) zero x h q =
    let e : b ≡ x = cc in
    let f : 0 + from ≡ from = omega arith in
    subst (λ m. p m x ≡ true) (sym f) (subst (λ y. p from y ≡ true) e (both_left (p from b) (all_blocks p (suc from) bs) h))
  where
    both_left : (a b : Bool) → a && b ≡ true → a ≡ true
    both_left true b h = refl
    both_left false b h = h
blocks_at p from (b ∷ bs) (suc n) x h q =
    let e : n + suc from ≡ suc n + from = omega arith in
    subst (λ m. p m x ≡ true) e (blocks_at p (suc from) bs n x (both_right (p from b) (all_blocks p (suc from) bs) h) q)
  where
    both_right : (a b : Bool) → a && b ≡ true → b ≡ true
    both_right true b h = h
    both_right false b h = absurd (no_true h)
      where
        no_true : false ≡ true → ⊥
        no_true h = cc

less_of : (a b : ℕ) → nat_lt a b ≡ true → a < b
less_of a b h = grind arith

-- where a last instruction leads, and a catch part
abbrev pub Leads : ℕ → LastTree → Type 0
Leads b (GotoLast to) = b < to
Leads b (TestLast e x y) = (b < x) × (b < y)
Leads b l = Unit {0}

leads_of : (b : ℕ) (l : LastTree) → leads_on b l ≡ true → Leads b l
leads_of b (GotoLast to) h = less_of b to h
leads_of b (TestLast e x y) h = (less_of b x (both_left (nat_lt b x) (nat_lt b y) h), less_of b y (both_right (nat_lt b x) (nat_lt b y) h))
  where
    both_left : (a b : Bool) → a && b ≡ true → a ≡ true
    both_left true b h = refl
    both_left false b h = h

    both_right : (a b : Bool) → a && b ≡ true → b ≡ true
    both_right true b h = h
    both_right false b h = absurd (no_true h)
      where
        no_true : false ≡ true → ⊥
        no_true h = cc
leads_of b (PassLast to) h = tt
leads_of b (ChooseLast g) h = tt
leads_of b (ReturnLast e) h = tt
leads_of b (ThrowLast e) h = tt

pub leads_at : (c : ClassTree) (b n : ℕ) (l : LastTree) → leads_forward c ≡ true → fetch c b n ≡ Last l → Leads b l
leads_at c b n l h q = by_block (slice_get c.blocks b) refl q
  where
    no_last : {l : LastTree} → Nothing ≡ Last l → ⊥
    no_last h = cc

    by_block : (o : Option BlockTree) → slice_get c.blocks b ≡ o → fetch_at o n ≡ Last l → Leads b l
    by_block None at q = absurd (no_last q)
    by_block (Some x) at q =
        let own = own_last c.groups x.body x.last l n q in
        let e : b + 0 ≡ b = omega arith in
        subst (Leads b) own (leads_of b x.last (subst (λ m. leads_on m x.last ≡ true) e (blocks_at (λ n (b : BlockTree). leads_on n b.last) 0 c.blocks b x h at)))

pub catches_at : (c : ClassTree) (b : ℕ) (k : CatcherTree) → catchers_kept c ≡ true → catcher_at c b ≡ Some k → b < k.block
catches_at c b k h q = by_block (slice_get c.blocks b) refl q
  where
    none_some : {X : Type 0} {x : X} → None ≡ Some x → ⊥
    none_some h = cc

    first_of : (x y z : Bool) → x && y && z ≡ true → x ≡ true
    first_of true y z h = refl
    first_of false y z h = h

    by_block : (o : Option BlockTree) → slice_get c.blocks b ≡ o → catcher_in o ≡ Some k → b < k.block
    by_block None at q = absurd (none_some q)
    by_block (Some x) at q =
        let e : b + 0 ≡ b = omega arith in
        let h2 : catches c b x.catcher ≡ true = subst (λ m. catches c m x.catcher ≡ true) e (blocks_at (λ n (b : BlockTree). catches c n b.catcher) 0 c.blocks b x h at) in
        let h3 : catches c b (Some k) ≡ true = subst (λ o. catches c b o ≡ true) q h2 in
        less_of b k.block (first_of (nat_lt b k.block) (takes_error c k.error) (distinct k.drops) h3)
