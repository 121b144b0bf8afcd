-- What a process does for an actor that asks leaves each cell with a reference.
use Rattle.std.proofs.Common.{◌≡◌, ℕ, suc, ◌+◌, ◌≤◌, nat_eq, Bool, true, false, List, [], ◌∷◌, ◌++◌, if◌then◌else◌, refl, sym, ap, subst, ◌∙◌, arith}
use Rattle.std.specs.Prelude.{ℤ, pos, ◌-ℤ◌, ◌^◌, ◌&&◌, int_le, nat_le, nat_lt}
use Rattle.std.specs.declared.option.Option.{Option}
use Rattle.std.specs.declared.option.Option.TheVariants.{None, Some}
use Rattle.flow_base.specs.ErrorNumbers.{already_set, bad_argument, out_of_range, port_in_use}
use Rattle.flow_trace.specs.declared.line.Line.{Line}
use Rattle.flow_value.specs.declared.value.Kind.{Kind}
use Rattle.flow_value.specs.declared.value.Kind.TheVariants as kind
use Rattle.flow_value.specs.Values.{ValueTree, IntValue, BoolValue, TextValue, VoidValue, ErrorValue, CompositeValue, RefValue, OutcomeTree}
use Rattle.flow_draw.specs.Words.{scaled}
use Rattle.flow_eval.specs.Predefined.{natural}
use Rattle.flow_numbered.specs.Numbered.{Numbered, thing, added, put}
use Rattle.flow_meaning.specs.Cells.{Side, PromiseSide, FutureSide, side_of, Cell, Single, Stream, is_complete, filled}
use Rattle.flow_meaning.specs.Requests.{DiskCall, Effect, Make, Start, Draw, Delay, Never, Listen, Disk, Goal, Stored, Kept, Supply}
use Rattle.flow_meaning.specs.Process.{Task, Run, Throw, Store, Keep, Fire, Entry, Core}
use Rattle.flow_meaning.specs.References.{one, in_task}
use Rattle.flow_meaning.specs.Orderly.{Rising}
use Rattle.flow_meaning.specs.Work.{writes, pushed, new_cell, fill_cell, fill}
use Rattle.flow_meaning.specs.Effects.{Reaction, throws, result_task, push_result, gives, gives_new, gives_open, empty_cell, between, is_port, open_port, judged, ask_disk, effect, send_to}
use Rattle.flow_meaning.specs.React.{send_by, send_in, print}
use Rattle.flow_meaning.specs.Step.{proc, entry_of, enrol, start_core, start_void, enrol_with}
use Rattle.flow_meaning.specs.Frame.{Frame}
use Rattle.flow_meaning.proofs.Posture.{Unless, unless, after_turn, same_number, thing_added}
use Rattle.flow_meaning.proofs.TaskShifts.{beyond_none, thing_new}
use Rattle.flow_meaning.proofs.Shifts.{same_of}
use Rattle.flow_meaning.proofs.InOrder.{no_thing}
use Rattle.flow_heap_refinement.proofs.Referring.{of_new_cell, of_new_actor, of_port, of_request}
use Rattle.flow_invariants.proofs.Referenced.Onward.{IsThere, refs, Wants, Refers, refers_on, push_onward, filling_onward, IsOpen}

pub one_side : (k : ℕ) (s : Side) (n : ℕ) → n ≡ k → one PromiseSide k s n + one FutureSide k s n ≡ 1
one_side k PromiseSide n e =
    let a : one PromiseSide k PromiseSide n ≡ 1 = ap (λ z. one PromiseSide k PromiseSide z) e ∙ ap (λ (b : Bool). if b then 1 else 0) (same_number k) in
    let z : one FutureSide k PromiseSide n ≡ 0 = refl in omega (arith, a, z)
one_side k FutureSide n e =
    let a : one FutureSide k FutureSide n ≡ 1 = ap (λ z. one FutureSide k FutureSide z) e ∙ ap (λ (b : Bool). if b then 1 else 0) (same_number k) in
    let z : one PromiseSide k FutureSide n ≡ 0 = refl in omega (arith, a, z)

pub is_open : (k : ℕ) (cell : Cell) → is_complete cell ≡ false → IsOpen k cell
is_open k (Single None ws) e = tt
is_open k (Single (Some o) ws) e = absurd cc
is_open k (Stream q e w) h = tt

module _ (k : ℕ) (ys : Numbered Frame) (i : ℕ) where
  abbrev Fine : Core → Type 0
  Fine d = Unless (λ d. Refers k d ys) d

  pub push_refers : (t : Task) (c : Core) → Refers k c ys → Refers k (pushed t c) ys
  push_refers t c h = refers_on k c ys (pushed t c) ys ((λ z. z), (λ s. let m = (push_onward k t c ys).1 s in omega (arith, m)), (λ w. w)) h

  push_fine : (t : Task) (c : Core) → Refers k c ys → Fine (pushed t c)
  push_fine t c h = unless c.halted (push_refers t c h)

  -- the result of an effect
  pub gives_refers : (goal : Goal) (v : ValueTree) (c : Core) → Refers k c ys → Fine (gives i goal v c)
  gives_refers Stored v c h = push_fine (Store i v) (pushed (Run i) c) (push_refers (Run i) c h)
  gives_refers (Kept spot) (RefValue kd cell) c h = push_fine (Keep i spot (kd, cell)) (pushed (Run i) c) (push_refers (Run i) c h)
  gives_refers (Kept spot) (IntValue n) c h = tt
  gives_refers (Kept spot) (BoolValue n) c h = tt
  gives_refers (Kept spot) (TextValue n) c h = tt
  gives_refers (Kept spot) VoidValue c h = tt
  gives_refers (Kept spot) (ErrorValue n) c h = tt
  gives_refers (Kept spot) (CompositeValue n vs) c h = tt

  -- nobody wants a cell that isn't there yet
  abbrev pub Fresh : Core → Type 0
  Fresh c = suc c.made ≡ k → Wants k c → ⊥

  -- a new cell, which a task refers to
  new_refers : (kd : Kind) (cell : Cell) (c : Core) → Refers k c ys → Fresh c → (t : Task) → ((s : Side) → one s k (side_of kd) (suc c.made) ≤ in_task s k t)
      → Refers k (pushed t (pushed (Run i) (new_cell cell c))) ys
  new_refers kd cell c h fresh t holds = by_test (nat_eq (suc c.made) k) refl
    where
      more : (s : Side) → refs k s c ys + in_task s k t ≤ refs k s (pushed t (pushed (Run i) (new_cell cell c))) ys
      more s =
          let a = of_new_cell (proc c ys) s k cell in
          let b = (push_onward k (Run i) (new_cell cell c) ys).1 s in
          let d = (push_onward k t (pushed (Run i) (new_cell cell c)) ys).1 s in omega (arith, a, b, d)

      by_test : (b : Bool) → nat_eq (suc c.made) k ≡ b → Refers k (pushed t (pushed (Run i) (new_cell cell c))) ys
      by_test true q =
          let same : suc c.made ≡ k = grind (arith, q) in
          let x = one_side k (side_of kd) (suc c.made) same in
          let a = more PromiseSide in
          let b = more FutureSide in
          let u = holds PromiseSide in
          let v = holds FutureSide in ((λ z. omega (arith, x, a, b, u, v)), (λ w. absurd (fresh same w)))
      by_test false q =
          let other : suc c.made ≡ k → ⊥ = (λ z. let f : ⊥ = grind (arith, q, z) in f) in
          let a = more PromiseSide in
          let b = more FutureSide in (
            λ z. let n = h.0 (subst IsThere (thing_added c.cells (suc c.made) k cell other) z) in omega (arith, a, b, n),
            λ w. let n = h.1 w in omega (arith, b, n),
          )

  pub gives_new_refers : (goal : Goal) (kd : Kind) (cell : Cell) (c : Core) → Refers k c ys → Fresh c → Fine (gives_new i goal kd cell c)
  gives_new_refers Stored kd cell c h fresh = unless c.halted (new_refers kd cell c h fresh (Store i (RefValue kd (suc c.made))) (λ s. omega arith))
  gives_new_refers (Kept spot) kd cell c h fresh = unless c.halted (new_refers kd cell c h fresh (Keep i spot (kd, suc c.made)) (λ s. omega arith))

  gives_open_refers : (goal : Goal) (c : Core) → Refers k c ys → Fresh c → Fine (gives_open i goal c)
  gives_open_refers goal c h fresh =
      let d = record c { requests = c.requests ++ suc c.made ∷ [] } in
      gives_new_refers goal kind.Future (Single None []) d (refers_on k c ys d ys ((λ z. z), (λ s. let m = of_request (proc c ys) s k (suc c.made) in omega (arith, m)), (λ w. w)) h) fresh

  by_if : (b : Bool) (x y : Reaction) → Fine x.0 → Fine y.0 → Fine (if b then x else y).0
  by_if true x y f g = f
  by_if false x y f g = g

  port_refers : (goal : Goal) (port : ℕ) (o : Option ℕ) (c : Core) → Refers k c ys → Fresh c → Fine (open_port i goal port o c).0
  port_refers goal port (Some cell) c h fresh = push_fine (Throw i port_in_use) c h
  port_refers goal port None c h fresh =
      let d = record c { ports = added c.ports port (suc c.made) } in
      gives_new_refers goal kind.FutureStream (Stream [] None None) d (refers_on k c ys d ys ((λ z. z), (λ s. let m = of_port (proc c ys) s k port (suc c.made) in omega (arith, m)), (λ w. w)) h) fresh

  disk_refers : (goal : Goal) (o : Option (DiskCall ℕ)) (c : Core) → Refers k c ys → Fresh c → Fine (ask_disk i goal o c).0
  disk_refers goal None c h fresh = push_fine (Throw i bad_argument) c h
  disk_refers goal (Some call) c h fresh = gives_open_refers goal c h fresh

  pub effect_refers : (s : Supply) (goal : Goal) (eff : Effect) (c : Core) → Refers k c ys → Fresh c → Fine (effect s i goal eff c).0
  effect_refers s goal (Make kd) c h fresh = gives_new_refers goal kd (empty_cell kd) c h fresh
  effect_refers s goal (Start class args) c h fresh = tt
  effect_refers s goal (Draw lo hi) c h fresh =
      by_if (between (hi -ℤ lo) 1 (2 ^ 32)) (gives i goal (IntValue (scaled lo (natural (hi -ℤ lo)) s.word)) c, Some (Rattle.flow_meaning.specs.Requests.Drew (natural (hi -ℤ lo)))) (throws i bad_argument c)
      (gives_refers goal (IntValue (scaled lo (natural (hi -ℤ lo)) s.word)) c h) (push_fine (Throw i bad_argument) c h)
  effect_refers s goal (Delay ticks) c h fresh =
      let time = s.now + natural ticks in
      by_if (nat_le time (2 ^ 62)) (gives_open i goal c, Some (Rattle.flow_meaning.specs.Requests.Timer (suc c.made) time)) (throws i out_of_range c) (gives_open_refers goal c h fresh)
      (push_fine (Throw i out_of_range) c h)
  effect_refers s goal Never c h fresh = gives_new_refers goal kind.Future (Single None []) c h fresh
  effect_refers s goal (Listen port) c h fresh =
      by_if (is_port port) (open_port i goal (natural port) (thing c.ports (natural port)) c) (throws i bad_argument c) (port_refers goal (natural port) (thing c.ports (natural port)) c h fresh)
      (push_fine (Throw i bad_argument) c h)
  effect_refers s goal (Disk call) c h fresh = disk_refers goal (judged call) c h fresh

  pub send_to_refers : (s : Supply) (q port : ℤ) (text : List ℕ) (c : Core) → Refers k c ys → Fine (send_to s i q port text c).0
  send_to_refers s q port text c h =
      by_if (int_le (pos 0) q && nat_lt (natural q) s.processes && is_port port) (pushed (Run i) c, Some (Rattle.flow_meaning.specs.Requests.Packet (natural q) (natural port) text))
      (throws i bad_argument c)
      (push_fine (Run i) c h) (push_fine (Throw i bad_argument) c h)

  pub print_refers : (l : Option Line) (c : Core) → Refers k c ys → Fine (print i l c)
  print_refers None c h = tt
  print_refers (Some line) c h = unless c.halted (push_refers (Run i) (writes line c) h)

  -- a send
  pub send_refers : (j : ℕ) (o : OutcomeTree) (c : Core) → Refers k c ys → Fine (send_in (thing c.cells j) i j o c)
  send_refers j o c h = by_cell (thing c.cells j) refl
    where
      by_complete : (cell : Cell) → thing c.cells j ≡ Some cell → (b : Bool) → is_complete cell ≡ b → Fine (send_by b i j o c)
      by_complete cell at true q = push_fine (Throw i already_set) c h
      by_complete cell at false q = after_turn (λ d. Refers k d ys) (λ d. fill j o (pushed (Run i) d)) c c.left by_left
        where
          by_left : (n : ℕ) → Fine (fill j o (pushed (Run i) (record c { left = n })))
          by_left n =
              let d = pushed (Run i) (record c { left = n }) in
              let e = record d { cells = put c.cells j (filled cell o) } in
              let x = filling_onward k j cell o d ys at (is_open k cell q) in
              let y = push_onward k (Fire j) e ys in
              subst (λ z. Fine (fill_cell j o z d)) (sym at)
              (unless c.halted (refers_on k c ys (fill_cell j o (Some cell) d) ys
              ((λ z. x.0 z), (λ s. let a = (push_onward k (Run i) c ys).1 s in let b = x.1 s in let f = y.1 s in omega (arith, a, b, f)), (λ w. w)) h))

      by_cell : (x : Option Cell) → thing c.cells j ≡ x → Fine (send_in x i j o c)
      by_cell None q = tt
      by_cell (Some cell) q = by_complete cell q (is_complete cell) refl

  -- an actor is called
  module _ (goal : Goal) (class : ℕ) (name : List ℕ) (a : Frame) where
    abbrev zs : Core → Numbered Frame
    zs c = added ys (suc c.started) a

    started : (c : Core) → Refers k c ys → Rising 0 c.started c.entries → (t : Task) → ((s : Side) → one s k FutureSide (suc c.made) ≤ in_task s k t)
        → Refers k (enrol class name (pushed t (pushed (Run i) c))) (zs c)
    started c h up t holds = by_test (nat_eq (suc c.made) k) refl
      where
        d : Core
        d = pushed t (pushed (Run i) c)

        cell : Cell
        cell = Single None []

        more : (s : Side) → refs k s c ys + in_task s k t ≤ refs k s (enrol class name (pushed t (pushed (Run i) c))) (added ys (suc c.started) a)
        more s =
            let x = (push_onward k (Run i) c ys).1 s in
            let y = (push_onward k t (pushed (Run i) c) ys).1 s in
            let m = of_new_cell (proc (pushed t (pushed (Run i) c)) ys) s k (Single None []) in
            let n = of_new_actor (proc (new_cell (Single None []) (pushed t (pushed (Run i) c))) ys) s k (suc c.started) (entry_of class (Some (suc c.made))) a in omega (arith, x, y, m, n)

        before : (suc c.made ≡ k → ⊥) → Wants k (enrol class name (pushed t (pushed (Run i) c))) → Wants k c
        before other w = by_number (nat_eq (suc c.started) w.0) refl
          where
            by_number : (b : Bool) → nat_eq (suc c.started) w.0 ≡ b → Wants k c
            by_number true q =
                let same : suc c.started ≡ w.0 = grind (arith, q) in
                let e = entry_of class (Some (suc c.made)) in
                let new = thing_new c.entries (suc c.started) e (beyond_none c.entries 0 c.started (suc c.started) up (omega arith)) in
                let is = same_of (sym (subst (λ n. thing (added c.entries (suc c.started) e) n ≡ Some e) same new) ∙ w.2) in
                absurd (other (same_of (ap (λ (x : Entry). x.result) is ∙ w.4)))
            by_number false q =
                let differ : suc c.started ≡ w.0 → ⊥ = (λ z. let f : ⊥ = grind (arith, q, z) in f) in
                (w.0, w.1, sym (thing_added c.entries (suc c.started) w.0 (entry_of class (Some (suc c.made))) differ) ∙ w.2, w.3, w.4)

        by_test : (b : Bool) → nat_eq (suc c.made) k ≡ b → Refers k (enrol class name (pushed t (pushed (Run i) c))) (added ys (suc c.started) a)
        by_test true q =
            let same : suc c.made ≡ k = grind (arith, q) in
            let x : one FutureSide k FutureSide (suc c.made) ≡ 1 = let z : one PromiseSide k FutureSide (suc c.made) ≡ 0 = refl in let y =
            one_side k FutureSide (suc c.made) same in omega (arith, y, z) in
            let b = more FutureSide in
            let v = holds FutureSide in ((λ z. omega (arith, x, b, v)), (λ w. omega (arith, x, b, v)))
        by_test false q =
            let other : suc c.made ≡ k → ⊥ = (λ z. let f : ⊥ = grind (arith, q, z) in f) in
            let x = more PromiseSide in
            let b = more FutureSide in (
              λ z. let n = h.0 (subst IsThere (thing_added c.cells (suc c.made) k (Single None []) other) z) in omega (arith, x, b, n),
              λ w. let n = h.1 (before other w) in omega (arith, b, n),
            )

    -- a void one
    alone_refers : (c : Core) → Refers k c ys → Rising 0 c.started c.entries → Refers k (enrol_with class name None c) (zs c)
    alone_refers c h up =
        refers_on k c ys (enrol_with class name None c) (zs c)
        ((λ z. z), (λ s. let n = of_new_actor (proc c ys) s k (suc c.started) (entry_of class None) a in omega (arith, n)), (λ w. before w)) h
      where
        before : Wants k (enrol_with class name None c) → Wants k c
        before w = by_number (nat_eq (suc c.started) w.0) refl
          where
            by_number : (b : Bool) → nat_eq (suc c.started) w.0 ≡ b → Wants k c
            by_number true q =
                let same : suc c.started ≡ w.0 = grind (arith, q) in
                let e = entry_of class None in
                let new = thing_new c.entries (suc c.started) e (beyond_none c.entries 0 c.started (suc c.started) up (omega arith)) in
                let is = same_of (sym (subst (λ n. thing (added c.entries (suc c.started) e) n ≡ Some e) same new) ∙ w.2) in
                absurd (no_thing (ap (λ (x : Entry). x.result) is ∙ w.4))
            by_number false q =
                let differ : suc c.started ≡ w.0 → ⊥ = (λ z. let f : ⊥ = grind (arith, q, z) in f) in
                (w.0, w.1, sym (thing_added c.entries (suc c.started) w.0 (entry_of class None) differ) ∙ w.2, w.3, w.4)

    pub void_refers : (c : Core) → Refers k c ys → Rising 0 c.started c.entries → Unless (λ d. Refers k d (added ys (suc c.started) a)) (start_void i class name c)
    void_refers c h up =
        after_turn (λ d. Refers k d (added ys (suc c.started) a)) (λ d. enrol_with class name None (pushed (Run i) d)) c c.left
        (λ n. let d = record c { left = n } in unless c.halted (alone_refers (pushed (Run i) d) (push_refers (Run i) d h) up))

    pub start_refers : (c : Core) → Refers k c ys → Rising 0 c.started c.entries → Unless (λ d. Refers k d (added ys (suc c.started) a)) (start_core i goal class name c)
    start_refers c h up =
        after_turn (λ d. Refers k d (added ys (suc c.started) a)) (λ d. enrol class name (push_result i (result_task i goal (RefValue kind.Future (suc d.made))) d)) c c.left (λ n. by_goal goal n)
      where
        by_goal : (goal : Goal) (n : ℕ) → Unless (λ d. Refers k d (added ys (suc c.started) a))
            (enrol class name (push_result i (result_task i goal (RefValue kind.Future (suc c.made))) (record c { left = n })))
        by_goal Stored n = unless c.halted (started (record c { left = n }) h up (Store i (RefValue kind.Future (suc c.made))) (λ s. omega arith))
        by_goal (Kept spot) n = unless c.halted (started (record c { left = n }) h up (Keep i spot (kind.Future, suc c.made)) (λ s. omega arith))
