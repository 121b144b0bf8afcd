-- Further on in a text: the locals, waits and blocks behind a body.
use Rattle.std.proofs.Common.{◌≡◌, ℕ, suc, ◌+◌, ◌<◌, ◌≤◌, Bool, true, false, List, [], ◌∷◌, ◌++◌, length, if◌then◌else◌, refl, ap, sym, subst, ◌∙◌, arith, length-append}
use Rattle.std.proofs.lemmas.Option.{slice_get_within}
use Rattle.std.proofs.lemmas.List.{append_assoc}
use Rattle.std.specs.declared.option.Option.{Option}
use Rattle.std.specs.declared.option.Option.TheVariants.{None, Some}
use Rattle.flow_tree.specs.Tree.{TypeTree, ErrorType}
use Rattle.flow_tree.specs.Body.{IntoTree, Body, DeclareStmt, WaitStmt, Branches}
use Rattle.flow_tree.proofs.Folds.{Agree, folds_alike, branches_alike}
use Rattle.flow_ast.specs.Leaving.{has_statement}
use Rattle.flow_ast.specs.Typing.{is_there}
use Rattle.flow_class.specs.Classes.{LastTree, ClassTree}
use Rattle.flow_class.specs.Scopes.{Scope}
use Rattle.flow_layout.specs.Locals.{stmt_locals, locals_listed, body_locals, branch_locals, declared_locals, into_locals}
use Rattle.flow_meaning.specs.Requests.{Spot}
use Rattle.flow_meaning.specs.Evaluating.{Names}
use Rattle.flow_meaning.specs.Items.{Site, Item, site_at}
use Rattle.flow_meaning.specs.Text as text
use Rattle.flow_meaning.specs.Carry.{Pos, entry, Target}
use Rattle.flow_meaning.specs.Carries.{BodyAt}
use Rattle.flow_split.specs.Around.{Hand, Around}
use Rattle.flow_split.specs.Counts.{local_count, into_count, stmt_locals_counted, locals_counted, locals_in, branch_local_count, groups_in, Next, begun}
use Rattle.flow_split.specs.Lowered.{Chunk, block_with, joined, before_rest, exits, exited, with_local, with_into, with_taken, lowered}
use Rattle.flow_split.proofs.Joins.{join_more}
use Rattle.flow_split.proofs.Lengths.{lowered_groups}
use Rattle.flow_lowering_laws.specs.Actors.Parts.{HasParts}
use Rattle.flow_lowering_laws.specs.Actors.InPlace.{naming_any, InPlace}
use Rattle.flow_lowering_laws.proofs.Actors.Standing.{moved, moved_group, LocalsAt, locals_back, Stands, first, second}
use Rattle.flow_lowering_laws.proofs.Actors.Spots.{lowered_moved}
use Rattle.flow_lowering_laws.proofs.Actors.Around.{Here, here_past, here_local}
use Rattle.flow_lowering_laws.proofs.Actors.Places.{names, names_with}

-- how many locals a body has
declared_count : (i : IntoTree) → length (declared_locals i) ≡ local_count i
declared_count i = by_state i.state i.ty
  where
    by_state : (b : Bool) (t : TypeTree) → length (if b then [] else t ∷ []) ≡ (if b then 0 else 1)
    by_state true t = refl
    by_state false t = refl

pub into_locals_count : (o : Option IntoTree) → length (into_locals o) ≡ into_count o
into_locals_count None = refl
into_locals_count (Some i) = declared_count i

two : (xs ys : List TypeTree) (a b : ℕ) → length xs ≡ a → length ys ≡ b → length (xs ++ ys) ≡ a + b
two xs ys a b e f = omega (arith, length-append xs ys, e, f)

stmt_locals_count : (s : Body) (ts : List TypeTree) (n : ℕ) → length ts ≡ n → length (stmt_locals s ++ ts) ≡ stmt_locals_counted s n
stmt_locals_count (DeclareStmt at i e k) ts n h = two (declared_locals i) ts _ n (declared_count i) h
stmt_locals_count (WaitStmt at w k) ts n h = two (into_locals w.into) ts _ n (into_locals_count w.into) h
stmt_locals_count _ ts n h = h

locals_agree : Agree (λ (ts : List TypeTree) n. length ts ≡ n) (λ s. Unit {0}) locals_listed locals_counted
locals_agree = record {
  nothing = refl;
  both = two;
  of_stmt = λ s ts n p h. stmt_locals_count s ts n h;
  of_catch = λ x ts n h. ap suc h;
  of_wait = λ at w k ts n p h. two (into_locals w.into) ts _ n (into_locals_count w.into) h;
}

pub locals_count : (b : Body) → length (body_locals b) ≡ locals_in b
locals_count b = folds_alike (λ ts n. length ts ≡ n) locals_listed locals_counted locals_agree b

pub branch_locals_count : (bs : Branches) → length (branch_locals bs) ≡ branch_local_count bs
branch_locals_count bs = branches_alike (λ ts n. length ts ≡ n) locals_listed locals_counted locals_agree bs

-- the chunk behind a statement that nothing goes on from
abbrev rest_if : Bool → Option Hand → Chunk → Chunk → Chunk
rest_if b h a d = if b then joined h a d else a

pub exited_local : (t : Bool) (n : Next) → (exited t n).local ≡ n.local
exited_local true n = refl
exited_local false n = refl

pub exited_group : (t : Bool) (n : Next) → (exited t n).group ≡ n.group
exited_group true n = refl
exited_group false n = refl

pub exited_block : (t : Bool) (w : Around) (s : Scope) (n : Next) (l : LastTree) → (exited t n).block ≡ n.block + length (exits t w s n l).more
exited_block true w s n l = omega arith
exited_block false w s n l = omega arith

module _ (ns : Names) (c : ClassTree) where
  -- in this class a body stands wherever lowering put it
  abbrev pub Carried : Body → Type 0
  Carried b =
      (l : Bool) (s : Scope) (w : Around) (n : Next) (x : Site) (r : List Item) (ts : List Target) (p : Pos) → Here ns c l w s n x r ts → LocalsAt ns c n.local (body_locals b) → HasParts b
      → InPlace c.slots l (is_there x.caught) (names s) b → Stands ns c p n.block x.spot w.hand (lowered ns c.slots s w n b) → BodyAt ns c s r ts x b p

  -- the locals behind a body
  pub locals_after : (b : Body) (n : ℕ) (ks : List TypeTree) → LocalsAt ns c n (body_locals b ++ ks) → LocalsAt ns c (n + locals_in b) ks
  locals_after b n ks h = locals_back ns c n (n + locals_in b) (body_locals b) ks (ap (λ m. n + m) (sym (locals_count b))) h

  -- the locals of a `try`: those of its body with the variable of the catch, and then those of the handler
  pub try_room : (b d : Body) (ks : List TypeTree) (n : ℕ) → LocalsAt ns c n (body_locals b ++ (ErrorType ∷ body_locals d) ++ ks)
      → LocalsAt ns c n (body_locals b ++ (ErrorType ∷ []) ++ body_locals d ++ ks)
  try_room b d ks n h = subst (λ ls. LocalsAt ns c n (ls ++ ks)) (sym (append_assoc (body_locals b) (ErrorType ∷ []) (body_locals d))) h

  -- the waits behind a body
  pub groups_after : (s : Scope) (w : Around) (n : Next) (b : Body) (x : Spot) (g : ℕ) → HasParts b → g ≡ x.group → g + groups_in b ≡ (text.past b x).group
  groups_after s w n b x g h e =
      ap (λ m. m + groups_in b) e ∙ ap (λ m. x.group + m) (sym (lowered_groups ns c.slots s w n b)) ∙ sym (moved_group (lowered ns c.slots s w n b).groups x)
      ∙ ap (λ y. y.group) (lowered_moved ns c.slots s w n b x h)

  -- the blocks of a chunk and another one
  pub blocks_joined : (h : Option Hand) (a b : Chunk) (n m : ℕ) → length a.more ≡ n → length b.more ≡ m → length (joined h a b).more ≡ n + suc m
  blocks_joined h a b n m e f = join_more a.more b.more (block_with h b) n m e f

  -- what stands behind a statement, in a block of its own
  pub rest_at : (k : Body) → Carried k → (l : Bool) (s : Scope) (w : Around) (n m : Next) (x : Site) (y u : Spot) (r : List Item) (ts : List Target) (p : Pos) (first_block : ℕ) (h : Option Hand)
      (a : Chunk)
      → Here ns c l w s n x r ts → n.local ≤ m.local → m.group ≡ y.group → LocalsAt ns c m.local (body_locals k) → HasParts k → InPlace c.slots l (is_there x.caught) (names s) k
      → m.block ≡ first_block + length a.more → moved a.groups u ≡ y → Stands ns c p first_block u h (joined w.hand a (lowered ns c.slots s w (begun m) k))
      → BodyAt ns c s r ts (site_at y x) k (entry m.block)
  rest_at k body l s w n m x y u r ts p first_block h a here le e room parts ok eb ey st =
      body l s w (begun m) (site_at y x) r ts (entry m.block) (here_past ns c l w s n (begun m) x y r ts le e here) room parts ok
      (second ns c p first_block m.block u y h w.hand a (lowered ns c.slots s w (begun m) k) eb ey st)

  -- behind a statement that nothing goes on from
  dead_if : (b : Bool) (p : Pos) (n m : ℕ) (x : Spot) (h : Option Hand) (a d : Chunk) → b ≡ true → m ≡ n + length a.more → a.groups ≡ [] → Stands ns c p n x h (rest_if b h a d)
      → Stands ns c (entry m) (suc m) x h d
  dead_if true p n m x h a d t e g st = second ns c p n m x x h h a d e (ap (λ gs. moved gs x) g) st
  dead_if false p n m x h a d t e g st = absurd (no_true t)
    where
      no_true : false ≡ true → ⊥
      no_true h = cc

  live_if : (b : Bool) (p : Pos) (n : ℕ) (x : Spot) (h : Option Hand) (a d : Chunk) → Stands ns c p n x h (rest_if b h a d) → Stands ns c p n x h a
  live_if true p n x h a d st = first ns c p n x h h a d st
  live_if false p n x h a d st = st

  pub live_at : (p : Pos) (n : ℕ) (x : Spot) (h : Option Hand) (a d : Chunk) (k : Body) → Stands ns c p n x h (before_rest h a k d) → Stands ns c p n x h a
  live_at p n x h a d k st = live_if (has_statement k) p n x h a d st

  pub dead_at : (k : Body) → Carried k → (l : Bool) (s : Scope) (w : Around) (n m : Next) (x : Site) (r : List Item) (ts : List Target) (p : Pos) (a : Chunk) → Here ns c l w s n x r ts
      → m.local ≡ n.local → m.group ≡ n.group
      → LocalsAt ns c n.local (body_locals k) → HasParts k → InPlace c.slots l (is_there x.caught) (names s) k → m.block ≡ n.block + length a.more → a.groups ≡ []
      → Stands ns c p n.block x.spot w.hand (before_rest w.hand a k (lowered ns c.slots s w (begun m) k)) → has_statement k ≡ true → (q : Pos) × BodyAt ns c s r ts x k q
  dead_at k body l s w n m x r ts p a here el eg room parts ok eb none st t = (
    entry m.block,
    body l s w (begun m) x r ts (entry m.block) (here_past ns c l w s n (begun m) x x.spot r ts (omega (arith, el)) (eg ∙ here.group) here)
        (subst (λ j. LocalsAt ns c j (body_locals k)) (sym el) room) parts ok
        (dead_if (has_statement k) p n.block m.block x.spot w.hand a (lowered ns c.slots s w (begun m) k) t eb none st),
  )

  -- with a declared variable
  own_local : (b : Bool) (l : ℕ) (t : TypeTree) → LocalsAt ns c l (if b then [] else t ∷ []) → b ≡ false → l < length c.locals
  own_local true l t h e = absurd (no_false e)
    where
      no_false : true ≡ false → ⊥
      no_false h = cc
  own_local false l t h e = slice_get_within c.locals l t h.0

  here_with : (b : Bool) (l : Bool) (w : Around) (s : Scope) (n m : Next) (x : Site) (z : Spot) (r : List Item) (ts : List Target) (y : List ℕ) → m.local ≡ (if b then 0 else 1) + n.local
      → (b ≡ false → n.local < length c.locals)
      → m.group ≡ z.group → Here ns c l w s n x r ts → Here ns c l w (with_local b y n.local s) m (site_at z x) r ts
  here_with true l w s n m x z r ts y e own g h = here_past ns c l w s n m x z r ts (omega (arith, e)) g h
  here_with false l w s n m x z r ts y e own g h = here_local ns c l w s n m x z r ts y (omega (arith, e)) (own refl) g h

  pub here_into : (i : IntoTree) (l : Bool) (w : Around) (s : Scope) (n m : Next) (x : Site) (z : Spot) (r : List Item) (ts : List Target) → m.local ≡ local_count i + n.local
      → LocalsAt ns c n.local (declared_locals i)
      → m.group ≡ z.group → Here ns c l w s n x r ts → Here ns c l w (with_into i n.local s) m (site_at z x) r ts
  here_into i l w s n m x z r ts e room g h = here_with i.state l w s n m x z r ts i.name.name e (own_local i.state n.local i.ty room) g h

  pub here_taken : (o : Option IntoTree) (l : Bool) (w : Around) (s : Scope) (n m : Next) (x : Site) (z : Spot) (r : List Item) (ts : List Target) → m.local ≡ into_count o + n.local
      → LocalsAt ns c n.local (into_locals o)
      → m.group ≡ z.group → Here ns c l w s n x r ts → Here ns c l w (with_taken o n.local s) m (site_at z x) r ts
  here_taken None l w s n m x z r ts e room g h = here_past ns c l w s n m x z r ts (omega (arith, e)) g h
  here_taken (Some i) l w s n m x z r ts e room g h = here_into i l w s n m x z r ts e room g h

  pub names_taken : (o : Option IntoTree) (l : ℕ) (s : Scope) → names (with_taken o l s) ≡ naming_any o (names s)
  names_taken None l s = refl
  names_taken (Some i) l s = names_with i.state i.name.name l s
