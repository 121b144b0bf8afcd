-- What a body comes to can be said, where the body can and the numbers of its locals are small.
use Rattle.std.proofs.Common.{◌≡◌, ◌≤◌, ◌+◌, ◌^◌, ℕ, zero, suc, pos, Bool, true, false, List, [], ◌∷◌, ◌++◌, length, map, position, Option, Some, None, if◌then◌else◌, refl, ap, arith}
use Rattle.std.specs.Prelude.{codes}
use Rattle.std.specs.List.{AllByRecursion}
use Rattle.std.specs.Option.{option_and_then}
use Rattle.std.specs.Str.{bytes_eq}
use Rattle.std.proofs.lemmas.List.Quantifiers.{position-Some}
use Rattle.flow_base.specs.declared.place.Place.{Place}
use Rattle.flow_tree.specs.declared.limits.TheConstants.{BRANCHES}
use Rattle.flow_tree.specs.declared.token.Sign.TheVariants as sign
use Rattle.flow_tree.specs.declared.ty.Ident.{Ident}
use Rattle.flow_tree.specs.Spelling.{empty}
use Rattle.flow_tree.specs.Tree.{TypeTree, IntType, BoolType, StringType, ExprTree, VarExpr}
use Rattle.flow_tree.specs.Decls.{SlotTree}
use Rattle.flow_tree.specs.Grammar.{number, text, falsehood, variable, call, no_args}
use Rattle.flow_tree.specs.GrammarStmt.{last_name}
use Rattle.flow_tree.specs.Body.{IntoTree, ChangeTree, Body, End, BlockStmt, IfStmt, IfElseStmt, WhileStmt, ForStmt, LoopStmt, BreakStmt, ContinueStmt, ReturnStmt, ThrowStmt, TryStmt, ChooseStmt, DeclareStmt, AssignStmt, ModifyStmt, CallStmt, WaitStmt, Branches, NoBranches, MoreBranches}
use Rattle.flow_ast.specs.Typing.{is_there}
use Rattle.flow_ast.specs.Leaving.{has_statement}
use Rattle.flow_class.specs.declared.class.Slotted.{Slotted}
use Rattle.flow_class.specs.Classes.{InstrTree, ActInstr, DropInstr, LastTree, GotoLast, PassLast, TestLast, ChooseLast, ReturnLast, ThrowLast, CallbackTree}
use Rattle.flow_class.specs.Scopes.{Scope, Var, Mark, scope, outside, find, place_by, place_of, var_over, path_over, act_over, over, over_all}
use Rattle.flow_catch.specs.Inner.{listed, left_lists}
use Rattle.flow_choose.specs.Places.{ident_at}
use Rattle.flow_meaning.specs.Evaluating.{Names, effect_in}
use Rattle.flow_meaning.specs.Items.{path_from, modified, change}
use Rattle.flow_split.specs.Around.{Exit, Text, Scoped, Part, Hand, Around, inner, pass, guarded, handling}
use Rattle.flow_split.specs.Counts.{local_count, into_count, locals_in, branch_local_count, Next, begun, taken, grouped, past, past_branches}
use Rattle.flow_split.specs.Lowered.{Chunk, blocks_of, joined, ends, acting, drop_of, dropping, cancelled, finished, before_rest, exits, exited, with_local, with_into, with_taken, later, first_value, new_at, first_at, tested, assign_by, assigned, changed, place_by as placed_by, place_in, declares, thrown, callback, callbacks, test_before, lowered, branches}
use Rattle.flow_classprint.specs.ClassGrammar.{IsNumber}
use Rattle.flow_class_text_laws.proofs.Writable.{ExprWritable, IsMaybeNumber, IsMaybePlace}
use Rattle.flow_class_text_laws.proofs.Spelled.{sign_spelled, word_spelled, number_spelled, cancelled_spelled}
use Rattle.flow_class_text_laws.proofs.Written.{p}
use Rattle.flow_class_text_laws.proofs.Names.{over_good, over_no_constant}
use Rattle.flow_class_text_laws.proofs.Paths.{path_renamed}
use Rattle.flow_class_text_laws.proofs.Bodies.{MaybeSaid, PathSaid, no_path, ChangeSaid, BodySaid, BranchesSaid, branches_of}
use Rattle.flow_class_text_laws.proofs.Changes.{Reached, names_spelled, whole_over, args_over, modified_over}
use Rattle.flow_class_text_laws.proofs.Said.{TargetSaid, CalledSaid, InstrSaid, InstrsSaid, LastSaid, BlockSaid, CallbackSaid, GroupSaid}

-- so it is in a chunk
pub record ChunkSaid (ch : Chunk) : Type 0 where
  pub body : InstrsSaid ch.body
  pub last : LastSaid ch.last
  pub more : AllByRecursion BlockSaid ch.more
  pub groups : AllByRecursion GroupSaid ch.groups

-- what stands around a body: jumps by themselves
abbrev pub ExitSaid : Exit → Type 0
ExitSaid (Text close) = Unit {0}
ExitSaid (Scoped last) = LastSaid last
ExitSaid (Part last) = LastSaid last

abbrev pub AroundSaid : Around → Type 0
AroundSaid w = ExitSaid w.exit × LastSaid w.looped.again

pub all_more : {A : Type 0} (P : A → Type 0) (xs ys : List A) → AllByRecursion P xs → AllByRecursion P ys → AllByRecursion P (xs ++ ys)
all_more P [] ys h k = k
all_more P (x ∷ xs) ys h k = (h.0, all_more P xs ys h.1 k)

-- drops
listed_said : (ns : List ℕ) (ls : List (List ℕ)) → InstrsSaid (map DropInstr ls) → InstrsSaid (map DropInstr (listed ns ls))
listed_said [] ls h = h
listed_said (n ∷ ns) ls h = (tt, h)

left_said : (d : ℕ) (s : Scope) → InstrsSaid (map DropInstr (left_lists d s))
left_said zero s = tt
left_said (suc d) s = listed_said (scope s) (left_lists d (outside s)) (left_said d (outside s))

drop_said : (ns : List ℕ) → InstrsSaid (drop_of ns)
drop_said [] = tt
drop_said (n ∷ ns) = (tt, tt)

-- chunks
joined_said : (h : Option Hand) {a b : Chunk} → ChunkSaid a → ChunkSaid b → ChunkSaid (joined h a b)
joined_said h {a = a} {b = b} f g = record {
  body = f.body;
  last = f.last;
  more = all_more BlockSaid a.more (blocks_of h b) f.more ((g.body, g.last), g.more);
  groups = all_more GroupSaid a.groups b.groups f.groups g.groups;
}

acting_said : (is : List InstrTree) {a : Chunk} → InstrsSaid is → ChunkSaid a → ChunkSaid (acting is a)
acting_said is {a = a} h f = record { body = all_more InstrSaid is a.body h f.body; last = f.last; more = f.more; groups = f.groups }

dropping_said : (ns : List ℕ) {a : Chunk} → ChunkSaid a → ChunkSaid (dropping ns a)
dropping_said ns {a = a} f = record { body = all_more InstrSaid (drop_of ns) a.body (drop_said ns) f.body; last = f.last; more = f.more; groups = f.groups }

ends_said : (w : Around) (s : Scope) (acts : Bool) (is : List InstrTree) (l : LastTree) → InstrsSaid is → LastSaid l → ChunkSaid (ends w s acts is l)
ends_said w s acts is l h k = record { body = h; last = k; more = tt; groups = tt }

cancelled_said : (at : Place) → LastSaid (cancelled at)
cancelled_said at = (
  record {
    tokens = _;
    rule = call (record { name = codes "operation_cancelled"; at = at }) p p [] no_args refl;
    are = ((cancelled_spelled, ((λ j. omega arith), tt)), ((sign_spelled sign.OpenRound, tt), ((sign_spelled sign.CloseRound, tt), tt)));
  },
  tt,
)

finished_said : (w : Around) (s : Scope) (x : Exit) → ExitSaid x → ChunkSaid (finished w s x)
finished_said w s (Text None) h = record { body = tt; last = tt; more = tt; groups = tt }
finished_said w s (Text (Some at)) h = record { body = tt; last = cancelled_said at; more = tt; groups = tt }
finished_said w s (Scoped l) h = record { body = drop_said (scope s); last = h; more = tt; groups = tt }
finished_said w s (Part l) h = record { body = tt; last = h; more = tt; groups = tt }

rest_said : (h : Option Hand) (k : Body) {a b : Chunk} → ChunkSaid a → ChunkSaid b → ChunkSaid (before_rest h a k b)
rest_said h k {a = a} {b = b} f g = by_test (has_statement k)
  where
    by_test : (x : Bool) → ChunkSaid (if x then joined h a b else a)
    by_test true = joined_said h f g
    by_test false = f

exits_said : (t : Bool) (w : Around) (s : Scope) (n : Next) (l : LastTree) → LastSaid l → ChunkSaid (exits t w s n l)
exits_said false w s n l h = record { body = left_said w.looped.depth s; last = h; more = tt; groups = tt }
exits_said true w s n l h = record { body = tt; last = tt; more = ((left_said w.looped.depth s, h), tt); groups = tt }

-- locals in force whose numbers are small
abbrev pub SmallScope : Scope → Type 0
SmallScope [] = Unit {0}
SmallScope (Mark ∷ s) = SmallScope s
SmallScope (Var x k ∷ s) = IsNumber k × SmallScope s

small_into : (i : IntoTree) (l : ℕ) (s : Scope) → l + local_count i ≤ 2 ^ 32 → SmallScope s → SmallScope (with_into i l s)
small_into i l s le h = by_state i.state le
  where
    by_state : (b : Bool) → l + (if b then 0 else 1) ≤ 2 ^ 32 → SmallScope (with_local b i.name.name l s)
    by_state true le = h
    by_state false le = (omega (arith, le), h)

small_taken : (o : Option IntoTree) (l : ℕ) (s : Scope) → l + into_count o ≤ 2 ^ 32 → SmallScope s → SmallScope (with_taken o l s)
small_taken None l s le h = h
small_taken (Some i) l s le h = small_into i l s le h

small_later : (b : Body) (l : ℕ) (s : Scope) → l + locals_in b ≤ 2 ^ 32 → SmallScope s → SmallScope (later b l s)
small_later (DeclareStmt at i e k) l s le h = small_into i l s (omega (arith, le)) h
small_later (WaitStmt at w k) l s le h = small_taken w.into l s (omega (arith, le)) h
small_later _ l s le h = h

find_small : (s : Scope) (x : List ℕ) → SmallScope s → IsMaybeNumber (find s x)
find_small [] x h = tt
find_small (Mark ∷ s) x h = find_small s x h
find_small (Var y k ∷ s) x h = by_name (bytes_eq x y) (find_small s x h.1)
  where
    by_name : (b : Bool) → IsMaybeNumber (find s x) → IsMaybeNumber (if b then Some k else find s x)
    by_name true r = h.0
    by_name false r = r

position_small : (q : SlotTree → Bool) (ss : List SlotTree) → length ss ≤ 2 ^ 32 → (o : Option ℕ) → position q ss ≡ o → IsMaybeNumber o
position_small q ss le None e = tt
position_small q ss le (Some n) e = omega (arith, le, (position-Some q ss n (record { ty = IntType; name = [] }) e).0)

by_numbers : (o k : Option ℕ) → IsMaybeNumber o → IsMaybeNumber k → IsMaybePlace (place_by o k)
by_numbers (Some n) k h j = h
by_numbers None (Some n) h j = j
by_numbers None None h j = tt

pub place_small : (slots : List SlotTree) (s : Scope) → length slots ≤ 2 ^ 32 → SmallScope s → (x : List ℕ) → IsMaybePlace (place_of slots s x)
place_small slots s le h x =
    let q = λ (t : SlotTree). bytes_eq x t.name in
    by_numbers (find s x) (position q slots) (find_small s x h) (position_small q slots le (position q slots) refl)

-- the numbers of locals behind the test of a `for`, a break and a continue
tested_local : (e : Option ExprTree) (n : Next) → (tested e n).local ≡ n.local
tested_local None n = refl
tested_local (Some e) n = refl

exited_local : (t : Bool) (n : Next) → (exited t n).local ≡ n.local
exited_local true n = refl
exited_local false n = refl

-- a target is a declared variable, or what a path leads to
declared_said : (o : Option Slotted) (x : Ident) → IsMaybePlace o → TargetSaid (ident_at o x ∷ [])
declared_said o x h =
    let good = over_good o h in
    (record { tokens = _; rule = last_name (ident_at o x); are = ((good.0, tt), tt) }, over_no_constant o h)

new_said : (o : Option Slotted) → InstrsSaid (new_at o)
new_said None = tt
new_said (Some q) = (tt, tt)

abbrev MaybeWritten : Option ExprTree → Type 0
MaybeWritten None = Unit {0}
MaybeWritten (Some e) = ExprWritable e

first_written : (t : TypeTree) → MaybeWritten (first_value t)
first_written IntType = (record { tokens = _; rule = number (pos 0) p; are = ((number_spelled 0 (omega arith), ((λ j. omega arith), tt)), tt) }, tt)
first_written BoolType = (record { tokens = _; rule = falsehood p; are = ((word_spelled _, ((λ j. omega arith), tt)), tt) }, tt)
first_written StringType = (record { tokens = _; rule = text [] p; are = ((record { bytes = 34 ∷ 34 ∷ []; spells = ([], refl, empty); bounded = omega arith }, ((λ j. omega arith), tt)), tt) }, tt)
first_written _ = tt

first_said : (i : IntoTree) (o : Option Slotted) (e : Option ExprTree) → IsMaybePlace o → MaybeWritten e → InstrsSaid (first_at i o e)
first_said i o None h k = new_said o
first_said i o (Some e) h k = ((declared_said o i.name h, λ r. k), tt)

-- a path over places
module _ (ns : Names) (slots : List SlotTree) (le : length slots ≤ 2 ^ 32) where
  target_over : (s : Scope) → SmallScope s → (xs : List Ident) → PathSaid xs → TargetSaid (path_over slots s xs)
  target_over s h [] k = absurd (no_path k)
  target_over s h (x ∷ xs) k =
      let o = place_small slots s le h x.name in
      let good = over_good (place_of slots s x.name) o in
      (path_renamed (var_over (place_of slots s x.name)) good.0 k.rule k.are x xs refl, over_no_constant (place_of slots s x.name) o)

  called_over : (s : Scope) → SmallScope s → (xs : List Ident) → PathSaid xs → CalledSaid (act_over slots s xs)
  called_over s h [] k = no_path k
  called_over s h (f ∷ []) k = (names_spelled (f ∷ []) k).0
  called_over s h (x ∷ (y ∷ ys)) k = target_over s h (x ∷ (y ∷ ys)) k

  assign_said : (b : Bool) (xs : List Ident) (e : ExprTree) → TargetSaid xs → (Reached xs → ExprWritable e) → InstrSaid (assign_by ns slots b xs e)
  assign_said true xs e h k = (h, k)
  assign_said false xs e h k = (h, k)

  assigned_said : (s : Scope) (xs : List Ident) (e : ExprTree) → TargetSaid xs → (Reached xs → ExprWritable (over slots s e)) → InstrSaid (assigned ns slots s xs e)
  assigned_said s xs e h k = assign_said (is_there (effect_in ns e)) xs (over slots s e) h k

  changed_said : (s : Scope) → SmallScope s → (xs : List Ident) (d : ChangeTree) → PathSaid xs → ChangeSaid d → InstrsSaid (changed ns slots s xs (change xs d))
  changed_said s h [] d k c = tt
  changed_said s h (x ∷ xs) d k c = (
    assigned_said s (path_over slots s (x ∷ xs)) (modified d (path_from (VarExpr x) xs)) (target_over s h (x ∷ xs) k)
        (λ r. modified_over slots s (place_small slots s le h) x xs d (names_spelled (x ∷ xs) k) c r),
    tt,
  )

  place_in_small : (s : Scope) (l : ℕ) (i : IntoTree) → SmallScope s → l + local_count i ≤ 2 ^ 32 → IsMaybePlace (place_in ns slots i l s)
  place_in_small s l i h few = by_state i.state few
    where
      by_state : (b : Bool) → l + (if b then 0 else 1) ≤ 2 ^ 32 → IsMaybePlace (placed_by ns slots b i.name.name l s)
      by_state true few = place_small slots s le h i.name.name
      by_state false few = omega (arith, few)

  declares_said : (s : Scope) (l : ℕ) (i : IntoTree) (e : Option ExprTree) → SmallScope s → l + local_count i ≤ 2 ^ 32 → MaybeSaid e → InstrsSaid (declares ns slots s l i e)
  declares_said s l i None h few k = first_said i (place_in ns slots i l s) (first_value i.ty) (place_in_small s l i h few) (first_written i.ty)
  declares_said s l i (Some e) h few k = (
    assigned_said s (ident_at (place_in ns slots i l s) i.name ∷ []) e (declared_said (place_in ns slots i l s) i.name (place_in_small s l i h few))
        (λ r. whole_over slots s (place_small slots s le h) e k),
    tt,
  )

  thrown_written : (s : Scope) (at : Place) (e : Option ExprTree) (caught : Option (List ℕ)) → SmallScope s → MaybeSaid e → ExprWritable (thrown ns slots s at e caught)
  thrown_written s at (Some e) caught h k = whole_over slots s (place_small slots s le h) e k
  thrown_written s at None caught h k =
      let good = over_good (option_and_then (place_of slots s) caught) (caught_small caught) in
      (record { tokens = _; rule = variable (record { name = var_over (option_and_then (place_of slots s) caught); at = at }); are = ((good.0, ((λ j. omega arith), tt)), tt) }, good.1)
    where
      caught_small : (o : Option (List ℕ)) → IsMaybePlace (option_and_then (place_of slots s) o)
      caught_small None = tt
      caught_small (Some x) = place_small slots s le h x

  test_said : (w : Around) (s : Scope) (e : Option ExprTree) (main out : ℕ) (a : Chunk) → SmallScope s → MaybeSaid e → ChunkSaid a → ChunkSaid (test_before ns slots w s e main out a)
  test_said w s None main out a h k f = f
  test_said w s (Some e) main out a h k f =
      joined_said w.hand f (ends_said w s true [] (TestLast (over slots s e) main out) tt (whole_over slots s (place_small slots s le h) e k))

  -- the callbacks of a choose
  callbacks_count : (s : Scope) (t : Bool) (n : Next) (bs : Branches) → length (callbacks ns slots s t n bs) ≡ branches_of bs
  callbacks_count s t n NoBranches = refl
  callbacks_count s t n (MoreBranches at w b bs) = ap suc (callbacks_count s t (past t b (taken w.into (begun n))) bs)

  callbacks_said : (s : Scope) (t : Bool) (n : Next) (bs : Branches) → SmallScope s → BranchesSaid bs → AllByRecursion CallbackSaid (callbacks ns slots s t n bs)
  callbacks_said s t n NoBranches h k = tt
  callbacks_said s t n (MoreBranches at w b bs) h k =
      (whole_over slots s (place_small slots s le h) w.operand k.0.1, callbacks_said s t (past t b (taken w.into (begun n))) bs h k.2)

  group_said : (cs : List CallbackTree) (n : ℕ) → length cs ≡ n → 1 ≤ n → n ≤ BRANCHES → AllByRecursion CallbackSaid cs → GroupSaid cs
  group_said [] n e some few h = absurd (omega (arith, e, some))
  group_said (c ∷ cs) n e some few h = (omega (arith, e, few), h)

  mutual
    pub lowered_said : (b : Body) (s : Scope) (w : Around) (n : Next) → BodySaid b → SmallScope s → AroundSaid w → n.local + locals_in b ≤ 2 ^ 32 → ChunkSaid (lowered ns slots s w n b)
    lowered_said End s w n k h a l = finished_said w s w.exit a.0
    lowered_said (BlockStmt at b x) s w n k h a l =
        let m = past w.looped.tried b n in
        joined_said w.hand (lowered_said b (Mark ∷ s) (inner w (Scoped (GotoLast m.block))) n k.1 h (tt, a.1) (omega (arith, l))) (lowered_said x s w (begun m) k.2 h a (omega (arith, l)))
    lowered_said (IfStmt at e b x) s w n k h a l =
        let m = past w.looped.tried b (begun n) in
        joined_said w.hand
        (joined_said w.hand (ends_said w s true [] (TestLast (over slots s e) n.block m.block) tt (whole_over slots s (place_small slots s le h) e k.0))
        (lowered_said b (Mark ∷ s) (inner w (Scoped (GotoLast m.block))) (begun n) k.1 h (tt, a.1) (omega (arith, l))))
        (lowered_said x s w (begun m) k.2 h a (omega (arith, l)))
    lowered_said (IfElseStmt at e b c x) s w n k h a l =
        let m = past w.looped.tried b (begun n) in
        let j = past w.looped.tried c (begun m) in
        let v = inner w (Scoped (GotoLast j.block)) in
        joined_said w.hand
        (joined_said w.hand
        (joined_said w.hand (ends_said w s true [] (TestLast (over slots s e) n.block m.block) tt (whole_over slots s (place_small slots s le h) e k.0))
        (lowered_said b (Mark ∷ s) v (begun n) k.1 h (tt, a.1) (omega (arith, l))))
        (lowered_said c (Mark ∷ s) v (begun m) k.2 h (tt, a.1) (omega (arith, l))))
        (lowered_said x s w (begun j) k.3 h a (omega (arith, l)))
    lowered_said (WhileStmt at e b x) s w n k h a l =
        let g = begun n in
        let m = past false b (begun g) in
        joined_said w.hand
        (joined_said w.hand
        (joined_said w.hand (ends_said w s false [] (PassLast n.block) tt tt)
        (ends_said w s true [] (TestLast (over slots s e) g.block m.block) tt (whole_over slots s (place_small slots s le h) e k.0)))
        (lowered_said b (Mark ∷ s) (pass w 1 (PassLast n.block) m.block) (begun g) k.1 h (tt, tt) (omega (arith, l))))
        (lowered_said x s w (begun m) k.2 h a (omega (arith, l)))
    lowered_said (ForStmt at i e q b x) s w n k h a l =
        let t = w.looped.tried in
        let d = past t i n in
        let g = tested e d in
        let m = past false b (begun g) in
        let o = past t q (begun m) in
        let r = later i n.local (Mark ∷ s) in
        let v = inner w (Part (PassLast d.block)) in
        let f = small_later i n.local (Mark ∷ s) (omega (arith, l)) h in
        let same = tested_local e d in
        joined_said w.hand
        (joined_said w.hand
        (joined_said w.hand (test_said v r e g.block o.block (lowered ns slots (Mark ∷ s) v n i) f k.0 (lowered_said i (Mark ∷ s) v n k.1 h (tt, a.1) (omega (arith, l))))
        (lowered_said b (Mark ∷ r) (pass w 2 (GotoLast m.block) o.block) (begun g) k.3 f (tt, tt) (omega (arith, l, same))))
        (lowered_said q r v (begun m) k.2 f (tt, a.1) (omega (arith, l, same))))
        (dropping_said (scope (later q m.local r)) (lowered_said x s w (begun o) k.4 h a (omega (arith, l, same))))
    lowered_said (LoopStmt at b x) s w n k h a l =
        let m = past false b (begun n) in
        joined_said w.hand
        (joined_said w.hand (ends_said w s false [] (PassLast n.block) tt tt) (lowered_said b (Mark ∷ s) (pass w 1 (PassLast n.block) m.block) (begun n) k.1 h (tt, tt) (omega (arith, l))))
        (lowered_said x s w (begun m) k.2 h a (omega (arith, l)))
    lowered_said (BreakStmt at x) s w n k h a l =
        let m = exited w.looped.tried n in
        let same = exited_local w.looped.tried n in
        rest_said w.hand x (exits_said w.looped.tried w s n (GotoLast w.looped.out) tt) (lowered_said x s w (begun m) k.1 h a (omega (arith, l, same)))
    lowered_said (ContinueStmt at x) s w n k h a l =
        let m = exited w.looped.tried n in
        let same = exited_local w.looped.tried n in
        rest_said w.hand x (exits_said w.looped.tried w s n w.looped.again a.1) (lowered_said x s w (begun m) k.1 h a (omega (arith, l, same)))
    lowered_said (ReturnStmt at None x) s w n k h a l =
        rest_said w.hand x (ends_said w s true [] (ReturnLast None) tt tt) (lowered_said x s w (begun n) k.1 h a l)
    lowered_said (ReturnStmt at (Some e) x) s w n k h a l =
        rest_said w.hand x (ends_said w s true [] (ReturnLast (Some (over slots s e))) tt (whole_over slots s (place_small slots s le h) e k.0)) (lowered_said x s w (begun n) k.1 h a l)
    lowered_said (ThrowStmt at e x) s w n k h a l =
        rest_said w.hand x (ends_said w s true [] (ThrowLast (thrown ns slots s at e w.caught)) tt (thrown_written s at e w.caught h k.0)) (lowered_said x s w (begun n) k.1 h a l)
    lowered_said (TryStmt at b q y c x) s w n k h a l =
        let t = w.looped.tried in
        let m = past true b (begun n) in
        let g = begun (record m { local = suc m.local }) in
        let j = past t c g in
        let d : Hand = record { block = m.block; error = m.local } in
        let exit = Scoped (GotoLast j.block) in
        joined_said w.hand
        (joined_said w.hand
        (joined_said (Some d) (ends_said w s false [] (GotoLast n.block) tt tt) (lowered_said b (Mark ∷ s) (guarded w exit d) (begun n) k.1 h (tt, a.1) (omega (arith, l))))
        (lowered_said c (Var y.name m.local ∷ Mark ∷ s) (handling w exit y.name) g k.2 (omega (arith, l), h) (tt, a.1) (omega (arith, l))))
        (lowered_said x s w (begun j) k.3 h a (omega (arith, l)))
    lowered_said (ChooseStmt at bs x) s w n k h a l =
        let t = w.looped.tried in
        let g = grouped n in
        let j = past_branches t bs g in
        let c : Chunk = record (ends w s true [] (ChooseLast n.group)) { groups = callbacks ns slots s t g bs ∷ [] } in
        let f : ChunkSaid c = record {
          body = tt;
          last = tt;
          more = tt;
          groups = (group_said (callbacks ns slots s t g bs) (branches_of bs) (callbacks_count s t g bs) k.0.0 k.0.1 (callbacks_said s t g bs h k.1), tt);
        } in
        joined_said w.hand (branches_said bs c s (inner w (Scoped (GotoLast j.block))) g k.1 h (tt, a.1) (omega (arith, l)) f) (lowered_said x s w (begun j) k.2 h a (omega (arith, l)))
    lowered_said (DeclareStmt at i e x) s w n k h a l =
        acting_said (declares ns slots s n.local i e) (declares_said s n.local i e h (omega (arith, l)) k.0.1)
        (lowered_said x (with_into i n.local s) w (taken (Some i) n) k.1 (small_into i n.local s (omega (arith, l)) h) a (omega (arith, l)))
    lowered_said (AssignStmt at xs e x) s w n k h a l =
        acting_said (assigned ns slots s (path_over slots s xs) e ∷ [])
        (assigned_said s (path_over slots s xs) e (target_over s h xs k.0.0) (λ r. whole_over slots s (place_small slots s le h) e k.0.1), tt) (lowered_said x s w n k.1 h a l)
    lowered_said (ModifyStmt at xs d x) s w n k h a l =
        acting_said (changed ns slots s xs (change xs d)) (changed_said s h xs d k.0.0 k.0.1) (lowered_said x s w n k.1 h a l)
    lowered_said (CallStmt at xs es x) s w n k h a l =
        acting_said (ActInstr (act_over slots s xs) (over_all slots s es) ∷ [])
        ((called_over s h xs k.0.0, args_over slots s (place_small slots s le h) es k.0.1), tt) (lowered_said x s w n k.1 h a l)
    lowered_said (WaitStmt at v x) s w n k h a l =
        let c : Chunk = record (ends w s true [] (ChooseLast n.group)) { groups = (callback ns slots s v n.local n.block ∷ []) ∷ [] } in
        let f : ChunkSaid c = record { body = tt; last = tt; more = tt; groups = ((omega arith, (whole_over slots s (place_small slots s le h) v.operand k.0.1, tt)), tt) } in
        joined_said w.hand f (lowered_said x (with_taken v.into n.local s) w (taken v.into (begun (grouped n))) k.1 (small_taken v.into n.local s (omega (arith, l)) h) a (omega (arith, l)))

    branches_said : (bs : Branches) (c : Chunk) (s : Scope) (w : Around) (n : Next) → BranchesSaid bs → SmallScope s → AroundSaid w → n.local + branch_local_count bs ≤ 2 ^ 32 → ChunkSaid c
        → ChunkSaid (branches ns slots c s w n bs)
    branches_said NoBranches c s w n k h a l f = f
    branches_said (MoreBranches at v b bs) c s w n k h a l f =
        let m = taken v.into (begun n) in
        let r = with_taken v.into n.local (Mark ∷ s) in
        branches_said bs (joined w.hand c (lowered ns slots r w m b)) s w (past w.looped.tried b m) k.2 h a (omega (arith, l))
        (joined_said w.hand f (lowered_said b r w m k.1 (small_taken v.into n.local (Mark ∷ s) (omega (arith, l)) h) a (omega (arith, l))))
