-- What a process does to itself gives it no turns.
use Rattle.std.proofs.Common.{ℕ, zero, suc, ◌<◌, ◌≤◌, Bool, true, false, List, arith}
use Rattle.std.specs.declared.option.Option.{Option}
use Rattle.std.specs.declared.option.Option.TheVariants.{None, Some}
use Rattle.flow_base.specs.ErrorNumbers.{broken_promise}
use Rattle.flow_value.specs.declared.value.Kind.{Kind}
use Rattle.flow_value.specs.declared.value.Kind.TheVariants as kind
use Rattle.flow_value.specs.Values.{ValueTree, IntValue, BoolValue, TextValue, VoidValue, ErrorValue, CompositeValue, RefValue, OutcomeTree, BadOutcome}
use Rattle.flow_numbered.specs.Numbered.{thing, put, removed}
use Rattle.flow_meaning.specs.Cells.{Side, FutureSide, PromiseSide, side_of, Cell, taken, after_taking}
use Rattle.flow_meaning.specs.Requests.{Goal, Stored, Kept}
use Rattle.flow_meaning.specs.Process.{Entry, Core, Run}
use Rattle.flow_meaning.specs.Lines.{take_line, cancel_line, broken_line, end_line}
use Rattle.flow_meaning.specs.References.{Scan, reference_count}
use Rattle.flow_meaning.specs.Work.{writes, fill_cell, fill, free_cell, free, give, take_branch, owner, cancel_by, cancel, pushed}
use Rattle.flow_meaning.specs.Dropping.{Loss, Freed, Broken, Orphan, Unheard, loss, port_of, suffer, lose_cell, lose_ref, drop, set_result, give_result, close}
use Rattle.flow_meaning.specs.Dropping as dropping
use Rattle.flow_meaning.specs.Effects.{result_task, push_result}
use Rattle.flow_meaning.specs.Step.{enrol, start_core, enrol_with, start_void}
use Rattle.flow_meaning.proofs.Posture.{Unless, unless, unless_map}
use Rattle.flow_progress.proofs.Weights.{took}

-- n turns are left at most
abbrev pub LeftAtMost : ℕ → Core → Type 0
LeftAtMost n c = c.left ≤ n

fill_cell_left : (n k : ℕ) (o : OutcomeTree) (c : Core) (x : Option Cell) → c.left ≤ n → Unless (LeftAtMost n) (fill_cell k o x c)
fill_cell_left n k o c None h = tt
fill_cell_left n k o c (Some cell) h = unless c.halted h

pub fill_left : (n k : ℕ) (o : OutcomeTree) (c : Core) → c.left ≤ n → Unless (LeftAtMost n) (fill k o c)
fill_left n k o c h = fill_cell_left n k o c (thing c.cells k) h

free_cell_left : (n k : ℕ) (c : Core) (x : Option Cell) → c.left ≤ n → Unless (LeftAtMost n) (free_cell k x c)
free_cell_left n k c None h = tt
free_cell_left n k c (Some cell) h = unless c.halted h

free_left : (n k : ℕ) (c : Core) → c.left ≤ n → Unless (LeftAtMost n) (free k c)
free_left n k c h = free_cell_left n k c (thing c.cells k) h

pub give_left : (n i b : ℕ) (e : Entry) (vs : List ValueTree) (o : Option OutcomeTree) (c : Core) → c.left ≤ n → Unless (LeftAtMost n) (give i b e vs o c)
give_left n i b e vs None c h = tt
give_left n i b e vs (Some o) c h = unless c.halted h

-- a branch that is taken takes a turn
pub branch_turns : (i b k : ℕ) (e : Entry) (vs : List ValueTree) (x : Option Cell) (c : Core) → Unless (λ d. d.left < c.left) (take_branch i b k e vs x c)
branch_turns i b k e vs None c = tt
branch_turns i b k e vs (Some cell) c =
    took (λ d. d.left < c.left) (λ d. give i b e vs (taken cell) (record (writes (take_line i e.spot.group b) d) { cells = put d.cells k (after_taking cell) })) c
    (λ n lt. let d = record (writes (take_line i e.spot.group b) (record c { left = n })) { cells = put c.cells k (after_taking cell) } in
    let r = give i b e vs (taken cell) d in
    unless_map r.halted (λ le. omega (arith, le, lt)) (give_left n i b e vs (taken cell) d (omega arith)))

cancel_by_left : (n : ℕ) (s : Bool) (i : ℕ) (e : Entry) (c : Core) → c.left ≤ n → (cancel_by s i e c).left ≤ n
cancel_by_left n true i e c h = h
cancel_by_left n false i e c h = h

pub cancel_left : (n i : ℕ) (e : Entry) (c : Core) → c.left ≤ n → (cancel i e c).left ≤ n
cancel_left n i e c h = cancel_by_left n e.suspended i e (writes (cancel_line i) c) h

suffer_left : (n k : ℕ) (l : Loss) (c : Core) → c.left ≤ n → Unless (LeftAtMost n) (suffer k l c)
suffer_left n k dropping.Kept c h = unless c.halted h
suffer_left n k Freed c h = free_left n k c h
suffer_left n k Broken c h =
    took (LeftAtMost n) (λ d. fill k (BadOutcome broken_promise) (writes (broken_line k) d)) c
    (λ m lt. fill_left n k (BadOutcome broken_promise) (writes (broken_line k) (record c { left = m })) (omega (arith, lt, h)))
suffer_left n k (Orphan i e) c h = unless (cancel i e c).halted (cancel_left n i e c h)
suffer_left n k (Unheard port) c h = free_left n k (record c { ports = removed c.ports port }) h

lose_cell_left : (n : ℕ) (scan : Scan) (s : Side) (k : ℕ) (x : Option Cell) (c : Core) → c.left ≤ n → Unless (LeftAtMost n) (lose_cell scan s k x c)
lose_cell_left n scan s k None c h = tt
lose_cell_left n scan s k (Some cell) c h =
    suffer_left n k (loss s (reference_count scan PromiseSide k c) (reference_count scan FutureSide k c) cell (owner k c.entries) (port_of k c.ports)) c h

lose_left : (n : ℕ) (scan : Scan) (s : Side) (k : ℕ) (c : Core) → c.left ≤ n → Unless (LeftAtMost n) (lose_ref scan s k c)
lose_left n scan s k c h = lose_cell_left n scan s k (thing c.cells k) c h

-- a drop takes a turn
pub drop_turns : (scan : Scan) (kd : Kind) (k : ℕ) (c : Core) → Unless (λ d. d.left < c.left) (drop scan kd k c)
drop_turns scan kd k c =
    took (λ d. d.left < c.left) (lose_ref scan (side_of kd) k) c
    (λ n lt. let r = lose_ref scan (side_of kd) k (record c { left = n }) in
    unless_map r.halted (λ le. omega (arith, le, lt)) (lose_left n scan (side_of kd) k (record c { left = n }) (omega arith)))

-- and so does the end of an actor
set_result_left : (n k : ℕ) (o : OutcomeTree) (f : ℕ) (c : Core) → c.left ≤ n → Unless (LeftAtMost n) (set_result k o f c)
set_result_left n k o zero c h = unless c.halted h
set_result_left n k o (suc f) c h = took (LeftAtMost n) (fill k o) c (λ m lt. fill_left n k o (record c { left = m }) (omega (arith, lt, h)))

result_left : (n : ℕ) (scan : Scan) (r : Option ℕ) (o : OutcomeTree) (c : Core) → c.left ≤ n → Unless (LeftAtMost n) (give_result scan r o c)
result_left n scan None o c h = unless c.halted h
result_left n scan (Some k) o c h = set_result_left n k o (reference_count scan FutureSide k c) c h

pub close_turns : (scan : Scan) (i : ℕ) (r : Option ℕ) (o : OutcomeTree) (c : Core) → Unless (λ d. d.left < c.left) (close scan i r o c)
close_turns scan i r o c =
    let k = record c { entries = removed c.entries i } in
    took (λ d. d.left < c.left) (λ d. give_result scan r o (writes (end_line i o) d)) k
    (λ n lt. let d = writes (end_line i o) (record k { left = n }) in
    unless_map (give_result scan r o d).halted (λ le. omega (arith, le, lt)) (result_left n scan r o d (omega arith)))

-- and the call of an actor
push_left : (n i : ℕ) (goal : Goal) (class : ℕ) (name : List ℕ) (v : ValueTree) (c : Core) → c.left ≤ n → Unless (LeftAtMost n) (enrol class name (push_result i (result_task i goal v) c))
push_left n i Stored class name v c h = unless c.halted h
push_left n i (Kept spot) class name (RefValue k cell) c h = unless c.halted h
push_left n i (Kept spot) class name (IntValue z) c h = tt
push_left n i (Kept spot) class name (BoolValue b) c h = tt
push_left n i (Kept spot) class name (TextValue t) c h = tt
push_left n i (Kept spot) class name VoidValue c h = tt
push_left n i (Kept spot) class name (ErrorValue z) c h = tt
push_left n i (Kept spot) class name (CompositeValue z vs) c h = tt

pub start_turns : (i : ℕ) (goal : Goal) (class : ℕ) (name : List ℕ) (c : Core) → Unless (λ d. d.left < c.left) (start_core i goal class name c)
start_turns i goal class name c =
    took (λ d. d.left < c.left) (λ d. enrol class name (push_result i (result_task i goal (RefValue kind.Future (suc d.made))) d)) c
    (λ n lt. let k = record c { left = n } in
    let r = enrol class name (push_result i (result_task i goal (RefValue kind.Future (suc c.made))) k) in
    unless_map r.halted (λ le. omega (arith, le, lt)) (push_left n i goal class name (RefValue kind.Future (suc c.made)) k (omega arith)))

pub alone_turns : (i class : ℕ) (name : List ℕ) (c : Core) → Unless (λ d. d.left < c.left) (start_void i class name c)
alone_turns i class name c =
    took (λ d. d.left < c.left) (λ d. enrol_with class name None (pushed (Run i) d)) c (λ n lt. unless c.halted (omega (arith, lt)))
