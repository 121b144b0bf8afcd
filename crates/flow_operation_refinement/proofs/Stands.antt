-- Where the code has an actor stand is where its frame does.
use Rattle.std.proofs.Common.{◌≡◌, ℕ, zero, suc, ◌+◌, List, [], ◌∷◌, length, map, refl, sym, ap, ◌∙◌, subst, arith}
use Rattle.std.specs.Prelude.{slice_get}
use Rattle.std.specs.Option.{option_map}
use Rattle.std.specs.declared.option.Option.{Option}
use Rattle.std.specs.declared.option.Option.TheVariants.{None, Some}
use Rattle.flow_value.specs.declared.value.Value.{Value}
use Rattle.flow_class.specs.Classes.{InstrTree, LastTree, GotoLast, PassLast, TestLast, ChooseLast, ReturnLast, ThrowLast, CatcherTree, CallbackTree, BlockTree, ClassTree, RawTree}
use Rattle.flow_class.specs.Code.{Fetched, Body, Last, Nothing, fetch_in, fetch_at, fetch, catcher_in, callbacks_before}
use Rattle.flow_code.specs.declared.class.Class.{Class}
use Rattle.flow_code.specs.declared.class.Group.{Group}
use Rattle.flow_code.specs.declared.class.Catcher.{Catcher}
use Rattle.flow_code.specs.declared.class.Last as coded_last
use Rattle.flow_code.specs.declared.class.Last.TheVariants as last
use Rattle.flow_code.specs.Classes.{GroupCode, ChooseEnd, BlockCode, ClassCode}
use Rattle.flow_code.specs.View.{code_of, block_of, group_of, end_of, catcher_of, group_numbered}
use Rattle.flow_code.specs.Coding.{Coding, homes_of, caught, ended, coded_block, coded_branch, coded_groups}
use Rattle.flow_code.specs.Coded.{coding, coded}
use Rattle.flow_frame.specs.Frames.{FrameTree}
use Rattle.flow_cancel.specs.Heap.{actor_id}
use Rattle.flow_meaning.specs.Process.{Entry, Proc}
use Rattle.flow_meaning.specs.Frame.{Frame}
use Rattle.flow_heap_refinement.specs.Representing.{Position, here, at_wait, spot_by, wait_spot}
use Rattle.flow_steps.specs.declared.frames.ControlPoint.{ControlPoint}
use Rattle.flow_steps.specs.declared.process.Process.{Process}
use Rattle.flow_steps.specs.Points.{block_in, IsAtPoint}
use Rattle.flow_operation_refinement.specs.Placing.{Acts}
use Rattle.flow_operation_refinement.specs.Taking.{AtWait}
use Rattle.flow_operation_refinement.specs.Throwing.{SameCatcher}
use Rattle.flow_operation_refinement.specs.Coded.{CodedBy, AtHome, PointIsCoded}
use Rattle.flow_operation_refinement.specs.Coded as law

-- lists
pub get_mapped : {A B : Type 0} (g : A → B) (xs : List A) (n : ℕ) → slice_get (map g xs) n ≡ option_map g (slice_get xs n)
get_mapped g [] n = refl
get_mapped g (x ∷ xs) zero = refl
get_mapped g (x ∷ xs) (suc n) = get_mapped g xs n

pub as_many : {A B : Type 0} (g : A → B) (xs : List A) → length (map g xs) ≡ length xs
as_many g [] = refl
as_many g (x ∷ xs) = ap suc (as_many g xs)

-- what is mapped to the same from both sides
pub both_mapped : {A B C : Type 0} (g : A → C) (h : B → C) (xs : List A) (ys : List B) (n : ℕ) → map g xs ≡ map h ys → option_map g (slice_get xs n) ≡ option_map h (slice_get ys n)
both_mapped g h xs ys n e = sym (get_mapped g xs n) ∙ ap (λ zs. slice_get zs n) e ∙ get_mapped h ys n

-- what stands at the end of a block
pub record AtEnd (c : ClassTree) (b n : ℕ) (l : LastTree) : Type 0 where
  pub block : BlockTree
  pub there : slice_get c.blocks b ≡ Some block
  pub ends : block.last ≡ l
  pub end : length block.body ≡ n

pub last_in : (is : List InstrTree) (k l : LastTree) (n : ℕ) → fetch_in is k n ≡ Last l → (k ≡ l) × (length is ≡ n)
last_in [] k l zero e = (let a : k ≡ l = cc (e) in a, refl)
last_in [] k l (suc n) e = absurd (cc (e))
last_in (i ∷ is) k l zero e = absurd (cc (e))
last_in (i ∷ is) k l (suc n) e = let a = last_in is k l n e in (a.0, ap suc a.1)

pub at_end : (c : ClassTree) (b n : ℕ) (l : LastTree) → fetch c b n ≡ Last l → AtEnd c b n l
at_end c b n l e = by_block (slice_get c.blocks b) refl e
  where
    by_block : (o : Option BlockTree) → slice_get c.blocks b ≡ o → fetch_at o n ≡ Last l → AtEnd c b n l
    by_block None at f = absurd (cc (f))
    by_block (Some k) at f = let a = last_in k.body k.last l n f in record { block = k; there = at; ends = a.0; end = a.1 }

-- the wait at which a frame stands
waits_at : (c : ClassTree) (x : Fetched) (g : ℕ) → (spot_by c x).group ≡ suc g → x ≡ Last (ChooseLast (suc g))
waits_at c (Last (ChooseLast k)) g e = ap (λ n. Last (ChooseLast n)) e
waits_at c (Last (GotoLast b)) g e = absurd (omega (arith, e))
waits_at c (Last (PassLast b)) g e = absurd (omega (arith, e))
waits_at c (Last (TestLast x a b)) g e = absurd (omega (arith, e))
waits_at c (Last (ReturnLast x)) g e = absurd (omega (arith, e))
waits_at c (Last (ThrowLast x)) g e = absurd (omega (arith, e))
waits_at c (Body i) g e = absurd (omega (arith, e))
waits_at c Nothing g e = absurd (omega (arith, e))

-- a coded group: its home, and the number of its first branch
pub group_coded : (k : Coding) (first : ℕ) (hs : List ℕ) (gs : List (List CallbackTree)) (n : ℕ) (y : GroupCode) → slice_get (coded_groups k first hs gs) n ≡ Some y
    → (slice_get hs n ≡ Some y.block) × (y.first ≡ first + callbacks_before gs (suc n))
group_coded k first [] gs n y e = absurd (cc (e))
group_coded k first (h ∷ hs) [] n y e = absurd (cc (e))
group_coded k first (h ∷ hs) (g ∷ gs) zero y e =
    let same : record { block = h; first = first; branches = map (coded_branch k) g } ≡ y = cc (e) in
    (ap (λ (z : GroupCode). Some z.block) same, sym (ap (λ (z : GroupCode). z.first) same) ∙ omega arith)
group_coded k first (h ∷ hs) (g ∷ gs) (suc n) y e = let a = group_coded k (first + length g) hs gs n y e in (a.0, let b = a.1 in omega (arith, b))

-- a coded wait is one
pub choose_is : (l : coded_last.Last) (g : ℕ) → end_of l ≡ ChooseEnd g → l ≡ last.Choose g
choose_is (last.Choose k) g e = let same : k ≡ g = cc (e) in ap last.Choose same
choose_is (last.Goto b) g e = absurd (cc (e))
choose_is (last.Pass b) g e = absurd (cc (e))
choose_is (last.Test x a b) g e = absurd (cc (e))
choose_is (last.Return x) g e = absurd (cc (e))
choose_is (last.Throw x) g e = absurd (cc (e))

pub same_catcher : (k : Coding) (a : Option Catcher) (b : Option CatcherTree) → option_map catcher_of a ≡ option_map (caught k) b → SameCatcher k.slots a b
same_catcher k None None e = tt
same_catcher k (Some c) (Some t) e =
    let same : catcher_of c ≡ caught k t = cc (e) in
    (ap (λ (x : CatcherTree). x.block) same, ap (λ (x : CatcherTree). x.error) same, ap (λ (x : CatcherTree). x.drops) same)
same_catcher k None (Some t) e = absurd (cc (e))
same_catcher k (Some c) None e = absurd (cc (e))

module _ (r : RawTree) (classes : List Class) (m : Process) (p : Proc Frame) (i : ℕ) (e : Entry) (f : Frame) (s : ControlPoint) (c : CodedBy r classes) (home : AtHome f.code)
    (a : Acts r m.heap p i e f) (now : IsAtPoint classes (actor_id i) m s) where
  abbrev code : Coding
  code = coding c.names c.class (length f.code.slots)

  same_frame : now.frame ≡ a.memory
  same_frame = let x = now.at in let y = a.framed in cc (x, y)

  same_class : code_of s.class.now ≡ coded c.names c.class f.code
  same_class =
      let x = both_mapped code_of (coded c.names c.class) classes r.classes now.frame.class c.are_coded in
      let y = ap (option_map code_of) now.stands.class in
      let z = ap (λ (g : FrameTree Value). option_map (coded c.names c.class) (slice_get r.classes g.class)) same_frame ∙ ap (option_map (coded c.names c.class)) a.stands.code in
      let w : Some (code_of s.class.now) ≡ Some (coded c.names c.class f.code) = sym y ∙ x ∙ z in cc (w)

  same_groups : map group_of s.class.now.groups.items ≡ coded_groups code 0 (homes_of f.code) f.code.groups
  same_groups = ap (λ (k : ClassCode). k.groups) same_class

  -- a group of the class
  group_is : (g : ℕ) (x : Group) → slice_get s.class.now.groups.items g ≡ Some x → (slice_get (homes_of f.code) g ≡ Some x.block) × (x.first ≡ 0 + callbacks_before f.code.groups (suc g))
  group_is g x at =
      group_coded code 0 (homes_of f.code) f.code.groups g (group_of x)
      (ap (λ l. slice_get l g) (sym same_groups) ∙ get_mapped group_of s.class.now.groups.items g ∙ ap (option_map group_of) at)

  place_of : Position a.memory f → s.place ≡ f.block
  place_of (here z b n) =
      let x = ap (λ (g : FrameTree Value). block_in s.class.now g.state g.block) (sym same_frame) ∙ now.stands.place in
      let y : block_in s.class.now 0 a.memory.block ≡ Some s.place = ap (λ k. block_in s.class.now k a.memory.block) (sym z) ∙ x in
      let w : a.memory.block ≡ s.place = cc (y) in sym w ∙ b
  place_of (at_wait g z w) =
      let x = ap (λ (k : FrameTree Value). block_in s.class.now k.state k.block) (sym same_frame) ∙ now.stands.place in
      let y : block_in s.class.now (suc g) a.memory.block ≡ Some s.place = ap (λ k. block_in s.class.now k a.memory.block) (sym z) ∙ x in
      let fetched = waits_at f.code (fetch f.code f.block f.instr) g (sym w ∙ z) in
      let ends = at_end f.code f.block f.instr (ChooseLast (suc g)) fetched in
      by_group g (slice_get s.class.now.groups.items g) refl y (home f.block g ends.block ends.there ends.ends)
    where
      by_group : (g : ℕ) (o : Option Group) → slice_get s.class.now.groups.items g ≡ o → option_map (λ (x : Group). x.block) o ≡ Some s.place → slice_get (homes_of f.code) g ≡ Some f.block
          → s.place ≡ f.block
      by_group g None at y h = absurd (cc (y))
      by_group g (Some x) at y h = let k = (group_is g x at).0 in let u : x.block ≡ s.place = cc (y) in let v : x.block ≡ f.block = cc (k, h) in sym u ∙ v

  -- the block
  place_is : s.place ≡ f.block
  place_is = place_of a.stands.position

  record TheBlock : Type 0 where
    block : BlockTree
    there : slice_get f.code.blocks f.block ≡ Some block
    same : block_of s.block.now ≡ coded_block code f.code block

  the_block : TheBlock
  the_block = by_block (slice_get f.code.blocks f.block) refl
    where
      blocks : option_map block_of (slice_get s.class.now.blocks.items f.block) ≡ option_map (coded_block code f.code) (slice_get f.code.blocks f.block)
      blocks = both_mapped block_of (coded_block code f.code) s.class.now.blocks.items f.code.blocks f.block (ap (λ (k : ClassCode). k.blocks) same_class)

      at : option_map block_of (slice_get s.class.now.blocks.items f.block) ≡ Some (block_of s.block.now)
      at = ap (λ b. option_map block_of (slice_get s.class.now.blocks.items b)) (sym place_is) ∙ ap (option_map block_of) now.stands.block

      by_block : (o : Option BlockTree) → slice_get f.code.blocks f.block ≡ o → TheBlock
      by_block None e = let x : Some (block_of s.block.now) ≡ None = sym at ∙ blocks ∙ ap (option_map (coded_block code f.code)) e in absurd (cc (x))
      by_block (Some b) e = let x : Some (block_of s.block.now) ≡ Some (coded_block code f.code b) =
          sym at ∙ blocks ∙ ap (option_map (coded_block code f.code)) e in record { block = b; there = e; same = cc (x) }

  at_wait_of : (g : ℕ) → fetch f.code f.block f.instr ≡ Last (ChooseLast g) → AtWait s f g
  at_wait_of g fetched =
      let b = the_block in
      let ends = at_end f.code f.block f.instr (ChooseLast g) fetched in
      let same : b.block ≡ ends.block = let x = b.there in let y = ends.there in cc (x, y) in
      let last_is : end_of s.block.now.last ≡ ChooseEnd g = ap (λ (k : BlockCode). k.last) b.same ∙ ap (λ (k : BlockTree). ended code k.last) same ∙ ap (ended code) ends.ends in
      let long : length s.block.now.body.items ≡ length b.block.body =
      sym (as_many _ s.block.now.body.items) ∙ ap (λ (k : BlockCode). length k.body) b.same ∙ as_many _ b.block.body in
      record {
        last = choose_is s.block.now.last g last_is;
        fetched = fetched;
        end = long ∙ ap (λ (k : BlockTree). length k.body) same ∙ ends.end;
        first = by_number g fetched;
      }
    where
      by_number : (g : ℕ) → fetch f.code f.block f.instr ≡ Last (ChooseLast g) → (x : Group) → group_numbered g s.class.now.groups.items ≡ Some x → x.first ≡ (wait_spot f).first
      by_number zero h x at = absurd (cc (at))
      by_number (suc n) h x at =
          let k = (group_is n x at).1 in
          let u = ap (λ y. (spot_by f.code y).first) h in omega (arith, k, u)

  pub stand_by : PointIsCoded c s i f
  stand_by = record {
    standing = record { actor = now.stands.actor; slots = ap (λ (k : ClassCode). k.slots) same_class; place = place_is };
    block = the_block.block;
    there = the_block.there;
    same = the_block.same;
    catcher = subst (λ o. SameCatcher (length f.code.slots) s.block.now.catcher (catcher_in o)) (sym the_block.there)
        (same_catcher code s.block.now.catcher the_block.block.catcher (ap (λ (k : BlockCode). k.catcher) the_block.same));
    waits = at_wait_of;
  }

pub stand_follows : law.StandFollows
stand_follows r classes m p i e f s c home a now = stand_by r classes m p i e f s c home a now
