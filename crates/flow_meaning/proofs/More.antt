-- What a process does with more turns: the same, or more where the turns ran out.
use Rattle.std.proofs.Common.{◌≡◌, ℕ, zero, suc, ◌+◌, List, [], ◌∷◌, ◌++◌, ◌⊎◌, inl, inr, refl, sym, ap, ◌∙◌, subst, append_assoc, arith}
use Rattle.std.specs.Prelude.{Bool, true, false}
use Rattle.std.proofs.lemmas.List.{append-nil}
use Rattle.std.specs.declared.option.Option.{Option}
use Rattle.std.specs.declared.option.Option.TheVariants.{None, Some}
use Rattle.flow_base.specs.ErrorNumbers.{operation_cancelled, broken_promise}
use Rattle.flow_value.specs.declared.value.Kind.{Kind}
use Rattle.flow_value.specs.Values.{ValueTree, OutcomeTree, BadOutcome}
use Rattle.flow_trace.specs.declared.line.Line.{Line}
use Rattle.flow_numbered.specs.Numbered.{thing, put, removed}
use Rattle.flow_meaning.specs.Cells.{side_of, Side, PromiseSide, FutureSide, Ref, Waiter, Cell, is_ready, waiters, taken, after_taking}
use Rattle.flow_meaning.specs.Process.{Task, Give, Throw, Fire, Entry, Halt, Spent, NoMeaning, Core}
use Rattle.flow_meaning.specs.Lines.{take_line, cancel_line, broken_line, end_line}
use Rattle.flow_meaning.specs.References.{refs_in, value_in, Scan, reference_count}
use Rattle.flow_meaning.specs.Work.{halt, turn, turn_of, writes, pushed, dropping, fill, fill_cell, free, free_cell, leave_for, give, take_from, take_branch, cancel, cancel_by, cancel_owner, marked}
use Rattle.flow_meaning.specs.Dropping.{Loss, Kept, Freed, Broken, Orphan, Unheard, loss, port_of, break_cell, suffer, lose_cell, lose_ref, drop, fire_to, fire_at, fire_cell, fire, set_result, give_result, close}
use Rattle.flow_meaning.specs.Work.{owner}
use Rattle.flow_meaning.specs.Turns.{Starts, more, IsHalted}

pub starts_same : (ls : List Line) → Starts ls ls
starts_same ls = ([], sym (append-nil ls))

pub starts_on : (ls : List Line) {ks ms : List Line} → Starts ls ks → Starts ks ms → Starts ls ms
starts_on ls a b = (a.0 ++ b.0, b.1 ∙ ap (λ x. x ++ b.0) a.1 ∙ append_assoc ls a.0 b.0)

-- the second is the first with so many turns more, or the first was stopped and has written no more than the second
abbrev pub Ahead : ℕ → Core → Core → Type 0
Ahead k c d = (d ≡ more k c) ⊎ (IsHalted c × Starts c.lines d.lines)

-- what is done with a process is done alike with more turns, and only adds lines
pub record Fair (f : Core → Core) : Type 0 where
  pub alike : (k : ℕ) (c : Core) → Ahead k (f c) (f (more k c))
  pub grows : (c : Core) → Starts c.lines (f c).lines

-- what neither takes a turn nor asks how many are left
pub record Even (f : Core → Core) : Type 0 where
  pub even : (k : ℕ) (c : Core) → f (more k c) ≡ more k (f c)
  pub adds : (c : Core) → Starts c.lines (f c).lines

pub fair : (f : Core → Core) → Even f → Fair f
fair f h = record { alike = λ k c. inl (h.even k c); grows = h.adds }

-- what writes no line
pub still : (f : Core → Core) → ((k : ℕ) (c : Core) → f (more k c) ≡ more k (f c)) → ((c : Core) → (f c).lines ≡ c.lines) → Even f
still f e l = record { even = e; adds = λ c. ([], l c ∙ sym (append-nil c.lines)) }

-- a turn, and then something that is fair
turn_alike : (f : Core → Core) → Fair f → (k left sum : ℕ) (c : Core) → sum ≡ left + k → Ahead k (turn_of left c f) (turn_of sum (record c { left = sum }) f)
turn_alike f h k zero zero c e = inr ((Spent, refl), starts_same c.lines)
turn_alike f h k zero (suc m) c e = inr ((Spent, refl), h.grows (record c { left = m }))
turn_alike f h k (suc n) zero c e = absurd (omega arith)
turn_alike f h k (suc n) (suc m) c e =
    let p : m ≡ n + k = omega arith in
    subst (λ x. Ahead k (f (record c { left = n })) (f (record c { left = x }))) (sym p) (h.alike k (record c { left = n }))

turn_grows : (f : Core → Core) → Fair f → (left : ℕ) (c : Core) → Starts c.lines (turn_of left c f).lines
turn_grows f h zero c = starts_same c.lines
turn_grows f h (suc n) c = h.grows (record c { left = n })

pub after_turn : (f : Core → Core) → Fair f → Fair (λ c. turn c f)
after_turn f h = record { alike = λ k c. turn_alike f h k c.left (c.left + k) c refl; grows = λ c. turn_grows f h c.left c }

-- one thing after another, the first of which is even
pub then_fair : (g f : Core → Core) → Even g → Fair f → Fair (λ c. f (g c))
then_fair g f e h = record {
  alike = λ k c. subst (λ x. Ahead k (f (g c)) (f x)) (sym (e.even k c)) (h.alike k (g c));
  grows = λ c. starts_on c.lines (e.adds c) (h.grows (g c));
}

pub then_even : (g f : Core → Core) → Even g → Even f → Even (λ c. f (g c))
then_even g f e h = record {
  even = λ k c. ap f (e.even k c) ∙ h.even k (g c);
  adds = λ c. starts_on c.lines (e.adds c) (h.adds (g c));
}

-- what depends on something of the process besides its turns
pub own_fair : {X : Type 0} (f : X → Core → Core) (x : Core → X) → ((k : ℕ) (c : Core) → x (more k c) ≡ x c) → ((y : X) → Fair (f y)) → Fair (λ c. f (x c) c)
own_fair f x e h = record {
  alike = λ k c. subst (λ y. Ahead k (f (x c) c) (f y (more k c))) (sym (e k c)) ((h (x c)).alike k c);
  grows = λ c. (h (x c)).grows c;
}

pub own_even : {X : Type 0} (f : X → Core → Core) (x : Core → X) → ((k : ℕ) (c : Core) → x (more k c) ≡ x c) → ((y : X) → Even (f y)) → Even (λ c. f (x c) c)
own_even f x e h = record {
  even = λ k c. ap (λ y. f y (more k c)) (e k c) ∙ (h (x c)).even k c;
  adds = λ c. (h (x c)).adds c;
}

pub same_even : Even (λ c. c)
same_even = still (λ c. c) (λ k c. refl) (λ c. refl)

pub halt_even : (h : Halt) → Even (halt h)
halt_even h = still (halt h) (λ k c. refl) (λ c. refl)

pub writes_even : (l : Line) → Even (writes l)
writes_even l = record { even = λ k c. refl; adds = λ c. (l ∷ [], refl) }

pub pushed_even : (t : Task) → Even (pushed t)
pushed_even t = still (pushed t) (λ k c. refl) (λ c. refl)

pub dropping_even : (rs : List Ref) → Even (dropping rs)
dropping_even rs = still (dropping rs) (λ k c. refl) (λ c. refl)

fill_cell_even : (k : ℕ) (o : OutcomeTree) (x : Option Cell) → Even (fill_cell k o x)
fill_cell_even k o None = halt_even NoMeaning
fill_cell_even k o (Some cell) = still (fill_cell k o (Some cell)) (λ n c. refl) (λ c. refl)

pub fill_even : (k : ℕ) (o : OutcomeTree) → Even (fill k o)
fill_even k o = own_even (fill_cell k o) (λ c. thing c.cells k) (λ n c. refl) (fill_cell_even k o)

free_cell_even : (k : ℕ) (x : Option Cell) → Even (free_cell k x)
free_cell_even k None = halt_even NoMeaning
free_cell_even k (Some cell) = still (free_cell k (Some cell)) (λ n c. refl) (λ c. refl)

free_even : (k : ℕ) → Even (free k)
free_even k = own_even (free_cell k) (λ c. thing c.cells k) (λ n c. refl) (free_cell_even k)

pub leave_for_even : (i : ℕ) (e : Entry) (vs : List ValueTree) (t : Task) → Even (leave_for i e vs t)
leave_for_even i e vs t = still (leave_for i e vs t) (λ k c. refl) (λ c. refl)

give_even : (i b : ℕ) (e : Entry) (vs : List ValueTree) (o : Option OutcomeTree) → Even (give i b e vs o)
give_even i b e vs None = halt_even NoMeaning
give_even i b e vs (Some o) = leave_for_even i e vs (Give i b o)

take_from_fair : (i b k : ℕ) (e : Entry) (vs : List ValueTree) (cell : Cell) → Fair (take_from i b k e vs cell)
take_from_fair i b k e vs cell =
    after_turn (λ d. give i b e vs (taken cell) (record (writes (take_line i e.spot.group b) d) { cells = put d.cells k (after_taking cell) }))
    (fair _ (then_even (λ d. record (writes (take_line i e.spot.group b) d) { cells = put d.cells k (after_taking cell) }) (give i b e vs (taken cell))
    (record { even = λ n c. refl; adds = λ c. (take_line i e.spot.group b ∷ [], refl) }) (give_even i b e vs (taken cell))))

pub take_branch_fair : (i b k : ℕ) (e : Entry) (vs : List ValueTree) (x : Option Cell) → Fair (take_branch i b k e vs x)
take_branch_fair i b k e vs None = fair _ (halt_even NoMeaning)
take_branch_fair i b k e vs (Some cell) = take_from_fair i b k e vs cell

cancel_by_even : (s : Bool) (i : ℕ) (e : Entry) → Even (cancel_by s i e)
cancel_by_even true i e = leave_for_even i (marked e) [] (Throw i operation_cancelled)
cancel_by_even false i e = still (cancel_by false i e) (λ k c. refl) (λ c. refl)

cancel_even : (i : ℕ) (e : Entry) → Even (cancel i e)
cancel_even i e = then_even (writes (cancel_line i)) (cancel_by e.suspended i e) (writes_even (cancel_line i)) (cancel_by_even e.suspended i e)

pub cancel_owner_even : (o : Option (ℕ × Entry)) → Even (cancel_owner o)
cancel_owner_even None = same_even
cancel_owner_even (Some o) = cancel_even o.0 o.1

-- drops
break_cell_fair : (k : ℕ) → Fair (break_cell k)
break_cell_fair k =
    after_turn (λ d. fill k (BadOutcome broken_promise) (writes (broken_line k) d))
    (fair _ (then_even (writes (broken_line k)) (fill k (BadOutcome broken_promise)) (writes_even (broken_line k)) (fill_even k (BadOutcome broken_promise))))

suffer_fair : (k : ℕ) (l : Loss) → Fair (suffer k l)
suffer_fair k Kept = fair _ same_even
suffer_fair k Freed = fair _ (free_even k)
suffer_fair k Broken = break_cell_fair k
suffer_fair k (Orphan i e) = fair _ (cancel_even i e)
suffer_fair k (Unheard port) =
    fair _ (then_even (λ c. record c { ports = removed c.ports port }) (free k) (still (λ c. record c { ports = removed c.ports port }) (λ n c. refl) (λ c. refl)) (free_even k))

lose_cell_fair : (scan : Scan) (s : Side) (k : ℕ) (x : Option Cell) → Fair (lose_cell scan s k x)
lose_cell_fair scan s k None = fair _ (halt_even NoMeaning)
lose_cell_fair scan s k (Some cell) =
    own_fair (suffer k) (λ c. loss s (reference_count scan PromiseSide k c) (reference_count scan FutureSide k c) cell (owner k c.entries) (port_of k c.ports)) (λ n c. refl) (suffer_fair k)

lose_ref_fair : (scan : Scan) (s : Side) (k : ℕ) → Fair (lose_ref scan s k)
lose_ref_fair scan s k = own_fair (lose_cell scan s k) (λ c. thing c.cells k) (λ n c. refl) (lose_cell_fair scan s k)

pub drop_fair : (scan : Scan) (kind : Kind) (k : ℕ) → Fair (drop scan kind k)
drop_fair scan kind k = after_turn (lose_ref scan (side_of kind) k) (lose_ref_fair scan (side_of kind) k)

fire_to_fair : (k : ℕ) (cell : Cell) (w : Waiter) (e : Option Entry) → Fair (fire_to k cell w e)
fire_to_fair k cell w None = fair _ (halt_even NoMeaning)
fire_to_fair k cell w (Some e) =
    then_fair (pushed (Fire k)) (take_branch w.actor w.branch k e [] (Some cell)) (pushed_even (Fire k)) (take_branch_fair w.actor w.branch k e [] (Some cell))

fire_at_fair : (scan : Scan) (k : ℕ) (cell : Cell) (r : Bool) (ws : List Waiter) → Fair (fire_at scan k cell r ws)
fire_at_fair scan k cell r [] = lose_ref_fair scan FutureSide k
fire_at_fair scan k cell false (w ∷ ws) = lose_ref_fair scan FutureSide k
fire_at_fair scan k cell true (w ∷ ws) = own_fair (fire_to k cell w) (λ c. thing c.entries w.actor) (λ n c. refl) (fire_to_fair k cell w)

fire_cell_fair : (scan : Scan) (k : ℕ) (x : Option Cell) → Fair (fire_cell scan k x)
fire_cell_fair scan k None = fair _ (halt_even NoMeaning)
fire_cell_fair scan k (Some cell) = fire_at_fair scan k cell (is_ready cell) (waiters cell)

pub fire_fair : (scan : Scan) (k : ℕ) → Fair (fire scan k)
fire_fair scan k = own_fair (fire_cell scan k) (λ c. thing c.cells k) (λ n c. refl) (fire_cell_fair scan k)

set_result_fair : (k : ℕ) (o : OutcomeTree) (f : ℕ) → Fair (set_result k o f)
set_result_fair k o zero = fair _ (still (set_result k o zero) (λ n c. refl) (λ c. refl))
set_result_fair k o (suc f) = after_turn (fill k o) (fair _ (fill_even k o))

give_result_fair : (scan : Scan) (r : Option ℕ) (o : OutcomeTree) → Fair (give_result scan r o)
give_result_fair scan None o = fair _ (dropping_even (refs_in (value_in o)))
give_result_fair scan (Some k) o = own_fair (set_result k o) (λ c. reference_count scan FutureSide k c) (λ n c. refl) (set_result_fair k o)

pub close_fair : (scan : Scan) (i : ℕ) (r : Option ℕ) (o : OutcomeTree) → Fair (close scan i r o)
close_fair scan i r o =
    then_fair (λ c. record c { entries = removed c.entries i }) (λ c. turn c (λ d. give_result scan r o (writes (end_line i o) d)))
    (still (λ c. record c { entries = removed c.entries i }) (λ n c. refl) (λ c. refl))
    (after_turn (λ d. give_result scan r o (writes (end_line i o) d))
    (then_fair (writes (end_line i o)) (give_result scan r o) (writes_even (end_line i o)) (give_result_fair scan r o)))
