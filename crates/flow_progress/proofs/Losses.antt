-- A lost reference, a drop and a fire keep a process fitting.
use Rattle.std.proofs.Common.{◌≡◌, ℕ, zero, suc, ◌+◌, nat_eq, Bool, true, false, List, [], ◌∷◌, inl, inr, refl, sym, subst, ◌∙◌, arith, if◌then◌else◌}
use Rattle.std.specs.declared.option.Option.{Option}
use Rattle.std.specs.declared.option.Option.TheVariants.{None, Some}
use Rattle.flow_base.specs.ErrorNumbers.{broken_promise}
use Rattle.flow_trace.specs.declared.line.Line.{Line}
use Rattle.flow_tree.specs.Tree.{TypeTree}
use Rattle.flow_value.specs.Values.{BadOutcome}
use Rattle.flow_class.specs.Classes.{RawTree}
use Rattle.flow_numbered.specs.Numbered.{Numbered, thing, removed}
use Rattle.flow_meaning.specs.Cells.{Side, PromiseSide, FutureSide, Cell, Single, Stream, is_complete}
use Rattle.flow_meaning.specs.Process.{Entry, Core}
use Rattle.flow_meaning.specs.Lines.{broken_line, cancel_line}
use Rattle.flow_meaning.specs.References.{one, in_ports, in_cells, in_entries, in_tasks, in_requests, count_maybe, reference_count}
use Rattle.flow_meaning.specs.Work.{writes, fill, free_cell, free, owner, cancel, cancel_by}
use Rattle.flow_meaning.specs.Dropping.{port_of, promises_gone, futures_gone, loss, suffer, break_cell, lose_cell, lose_ref}
use Rattle.flow_meaning.specs.Orderly.{Rising}
use Rattle.flow_meaning.specs.Frame.{Frame}
use Rattle.flow_meaning.proofs.Posture.{each_number, thing_removed_other}
use Rattle.flow_meaning.proofs.Shifts.{owned}
use Rattle.flow_progress.specs.Fitting.{CellTypes, Exists, CellFits, ProcessFits}
use Rattle.flow_progress.specs.Alone.{frames_scan}
use Rattle.flow_progress.proofs.Ones.{PortsGone}
use Rattle.flow_progress.specs.Keeping.{Fine}
use Rattle.flow_progress.proofs.States.{fine_same, fine_turn}
use Rattle.flow_progress.proofs.CellStates.{cell_there, IsOfType, fill_fits}
use Rattle.flow_progress.proofs.HandFits.{cancel_state}
use Rattle.flow_progress.proofs.Unseen.{zero_first, zero_second}
use Rattle.flow_progress.proofs.Removing.{unseen, freed_fits}

ports_less : (s : Side) (k : ℕ) (ps : Numbered ℕ) (port : ℕ) → in_ports s k ps ≡ 0 → in_ports s k (removed ps port) ≡ 0
ports_less s k [] port a = a
ports_less s k (x ∷ xs) port a = by_test (nat_eq port x.0) (zero_first (one s k PromiseSide x.1) (in_ports s k xs) a) (zero_second (one s k PromiseSide x.1) (in_ports s k xs) a)
    (ports_less s k xs port (zero_second (one s k PromiseSide x.1) (in_ports s k xs) a))
  where
    by_test : (b : Bool) → one s k PromiseSide x.1 ≡ 0 → in_ports s k xs ≡ 0 → in_ports s k (removed xs port) ≡ 0 → in_ports s k (if b then xs else x ∷ removed xs port) ≡ 0
    by_test true a d e = d
    by_test false a d e = omega (arith, a, e)

fewer_ports : (q a b d p p2 e f : ℕ) → q + (a + b + d + p + e + f) ≡ 0 → p2 ≡ 0 → q + (a + b + d + p2 + e + f) ≡ 0
fewer_ports q a b d p p2 e f h k = omega (arith, h, k)

ports_of_zero : (q a b d p e f : ℕ) → q + (a + b + d + p + e + f) ≡ 0 → p ≡ 0
ports_of_zero q a b d p e f h = omega (arith, h)

module _ (r : RawTree) (types : CellTypes) (xs : Numbered Frame) where
  -- the type of a cell is one of futures
  is_of_type : (cell : Cell) (t : TypeTree) → CellFits r types cell t → (u : TypeTree) × IsOfType r types t u
  is_of_type (Single o ws) t h = (h.0, inl h.1)
  is_of_type (Stream q end w) t h = (h.0, inr h.1)

  lined : (c : Core) (n : ℕ) (ls : List Line) → ProcessFits r types c xs → ProcessFits r types (record c { left = n; lines = ls }) xs
  lined c n ls p = record {
    cells = p.cells;
    waiting = p.waiting;
    actors = p.actors;
    work = p.work;
    ports = p.ports;
    main = p.main;
    requests = p.requests;
    numbered = p.numbered;
    framed = p.framed;
    registered = p.registered;
  }

  broken_fits : (k : ℕ) (c : Core) (cell : Cell) (t : TypeTree) → c.halted ≡ None → types k ≡ Some t → CellFits r types cell t → ProcessFits r types c xs
      → Fine r types (break_cell k c).halted (break_cell k c) xs
  broken_fits k c cell t go e h p =
      let u = is_of_type cell t h in
      fine_turn r types (λ d. fill k (BadOutcome broken_promise) (writes (broken_line k) d)) c xs
      (λ n. let d = writes (broken_line k) (record c { left = n }) in fill_fits r types k (BadOutcome broken_promise) d xs t u.0 go e u.1 tt (lined c n d.lines p))

  cancel_goes : (b : Bool) (j : ℕ) (x : Entry) (d : Core) → d.halted ≡ None → (cancel_by b j x d).halted ≡ None
  cancel_goes true j x d go = go
  cancel_goes false j x d go = go

  module _ (c : Core) (p : ProcessFits r types c xs) (go : c.halted ≡ None) (up : Rising 0 c.started c.entries) (alone : PortsGone c xs) where
    freed : (k : ℕ) (cell : Cell) (t : TypeTree) → thing c.cells k ≡ Some cell → CellFits r types cell t → reference_count (frames_scan xs) PromiseSide k c ≡ 0
        → reference_count (frames_scan xs) FutureSide k c ≡ 0 → Fine r types (free k c).halted (free k c) xs
    freed k cell t at h a b =
        subst (λ x. Fine r types (free_cell k x c).halted (free_cell k x c) xs) (sym at) (freed_fits r types k c xs p (unseen k c xs p.registered a b) cell t go at h)

    -- a port that nobody hears
    unheard : (port k : ℕ) (cell : Cell) (t : TypeTree) → port_of k c.ports ≡ Some port → thing c.cells k ≡ Some cell → CellFits r types cell t → reference_count (frames_scan xs) FutureSide k c ≡ 0
        → Fine r types (suffer k (futures_gone None (Some port)) c).halted (suffer k (futures_gone None (Some port)) c) xs
    unheard port k cell t q at h b =
        let d = record c { ports = removed c.ports port } in
        let z = ports_of_zero (frames_scan xs FutureSide k) (in_cells FutureSide k c.cells) (in_entries FutureSide k c.entries) (in_tasks FutureSide k c.tasks) (in_ports FutureSide k c.ports)
        (in_requests FutureSide k c.requests)
        (count_maybe FutureSide k FutureSide c.main) b in
        let b2 = fewer_ports (frames_scan xs FutureSide k) (in_cells FutureSide k c.cells) (in_entries FutureSide k c.entries) (in_tasks FutureSide k c.tasks) (in_ports FutureSide k c.ports)
        (in_ports FutureSide k d.ports)
        (in_requests FutureSide k c.requests) (count_maybe FutureSide k FutureSide c.main) b (ports_less FutureSide k c.ports port z) in
        let pd : ProcessFits r types d xs = record {
          cells = p.cells;
          waiting = p.waiting;
          actors = p.actors;
          work = p.work;
          ports = each_number port (λ i. (n : ℕ) → thing d.ports i ≡ Some n → types n ≡ Some _) (λ n e. absurd (none_there (thing d.ports port) n (alone.once port) e))
              (λ i o n e. p.ports i n (sym (thing_removed_other c.ports port i o) ∙ e));
          main = p.main;
          requests = p.requests;
          numbered = p.numbered;
          framed = p.framed;
          registered = p.registered;
        } in
        subst (λ x. Fine r types (free_cell k x d).halted (free_cell k x d) xs) (sym at) (freed_fits r types k d xs pd (unseen k d xs p.registered (alone.alone port k q) b2) cell t go at h)
      where
        none_there : (o : Option ℕ) (n : ℕ) → o ≡ None → o ≡ Some n → ⊥
        none_there o n e f = cc

    gone_fits : (k : ℕ) (cell : Cell) (t : TypeTree) (o : Option (ℕ × Entry)) (port : Option ℕ) → owner k c.entries ≡ o → port_of k c.ports ≡ port → thing c.cells k ≡ Some cell
        → CellFits r types cell t → reference_count (frames_scan xs) FutureSide k c ≡ 0
        → Fine r types (suffer k (futures_gone o port) c).halted (suffer k (futures_gone o port) c) xs
    gone_fits k cell t (Some o) port own q at h b =
        fine_same r types (cancel o.0 o.1 c).halted (cancel o.0 o.1 c) xs (cancel_goes o.1.suspended o.0 o.1 (writes (cancel_line o.0) c) go)
        (cancel_state r types o.0 o.1 c xs (owned k c (Some o) up own) p)
    gone_fits k cell t None (Some port) own q at h b = unheard port k cell t q at h b
    gone_fits k cell t None None own q at h b = fine_same r types c.halted c xs go (p)

    -- by what still refers to the cell
    loss_fits : (s : Side) (k m n : ℕ) (cell : Cell) (t : TypeTree) → reference_count (frames_scan xs) PromiseSide k c ≡ m → reference_count (frames_scan xs) FutureSide k c ≡ n
        → thing c.cells k ≡ Some cell → types k ≡ Some t → CellFits r types cell t
        → Fine r types (suffer k (loss s m n cell (owner k c.entries) (port_of k c.ports)) c).halted (suffer k (loss s m n cell (owner k c.entries) (port_of k c.ports)) c) xs
    loss_fits PromiseSide k zero zero cell t a b at e h = freed k cell t at h a b
    loss_fits FutureSide k zero zero cell t a b at e h = freed k cell t at h a b
    loss_fits PromiseSide k zero (suc f) cell t a b at e h = by_test (is_complete cell)
      where
        by_test : (x : Bool) → Fine r types (suffer k (promises_gone x) c).halted (suffer k (promises_gone x) c) xs
        by_test true = fine_same r types c.halted c xs go (p)
        by_test false = broken_fits k c cell t go e h p
    loss_fits PromiseSide k (suc m) zero cell t a b at e h = fine_same r types c.halted c xs go (p)
    loss_fits PromiseSide k (suc m) (suc f) cell t a b at e h = fine_same r types c.halted c xs go (p)
    loss_fits FutureSide k (suc m) zero cell t a b at e h = gone_fits k cell t (owner k c.entries) (port_of k c.ports) refl refl at h b
    loss_fits FutureSide k zero (suc f) cell t a b at e h = fine_same r types c.halted c xs go (p)
    loss_fits FutureSide k (suc m) (suc f) cell t a b at e h = fine_same r types c.halted c xs go (p)

    pub lose_fits : (s : Side) (k : ℕ) → Exists r types k → Fine r types (lose_ref (frames_scan xs) s k c).halted (lose_ref (frames_scan xs) s k c) xs
    lose_fits s k x =
        let there = cell_there r types k x.0 (thing c.cells k) x.1 (p.cells k) in
        subst (λ o. Fine r types (lose_cell (frames_scan xs) s k o c).halted (lose_cell (frames_scan xs) s k o c) xs) (sym there.1)
        (loss_fits s k (reference_count (frames_scan xs) PromiseSide k c) (reference_count (frames_scan xs) FutureSide k c) there.0 x.0 refl refl there.1 x.1 there.2)
