-- Packets and answers keep a process fitting.
use Rattle.std.proofs.Common.{ℕ, nat_eq, Bool, true, false, List, [], ◌∷◌, inl, inr, map, refl, if◌then◌else◌}
use Rattle.std.specs.Prelude.{codes}
use Rattle.flow_tree.specs.Tree.{TypeTree, IntType, StringType, NamedType, FutureType, FutureStreamType}
use Rattle.flow_ast.specs.Typing.{packet_fields}
use Rattle.flow_value.specs.declared.value.Kind.TheVariants as kind
use Rattle.flow_value.specs.Values.{GoodOutcome}
use Rattle.flow_class.specs.Classes.{RawTree}
use Rattle.flow_numbered.specs.Numbered.{Numbered}
use Rattle.flow_meaning.specs.Process.{Drop, Core}
use Rattle.flow_meaning.specs.Work.{pushed, fill}
use Rattle.flow_meaning.specs.Deliver.{closed_request}
use Rattle.flow_meaning.specs.World.{packet}
use Rattle.flow_meaning.specs.Frame.{Frame}
use Rattle.flow_progress.specs.Fitting.{CellTypes, Fits, AllExist, ProcessFits}
use Rattle.flow_progress.specs.Beginning.{ArrivalsFit, DeliveriesFit}
use Rattle.flow_progress.proofs.States.{fine_turn}
use Rattle.flow_progress.proofs.CellStates.{fill_fits}

packet_fits : (r : RawTree) (types : CellTypes) (from at : ℕ) (text : List ℕ) → Fits r types (packet from at text) (NamedType (codes "Packet"))
packet_fits r types from at text = (
  IntType ∷ IntType ∷ StringType ∷ [],
  record {
    name = codes "Packet";
    named = refl;
    placed = refl;
    call = record { params = map (λ (f : List ℕ × TypeTree). f.1) packet_fields; gives = NamedType (codes "Packet") };
    called = refl;
    fields = refl;
  },
  (IntType, IntType ∷ StringType ∷ [], refl, refl, (IntType, StringType ∷ [], refl, refl, (StringType, [], refl, refl, refl))),
)

module _ (r : RawTree) (types : CellTypes) (xs : Numbered Frame) where
  lined : (c : Core) (n : ℕ) → ProcessFits r types c xs → ProcessFits r types (record c { left = n }) xs
  lined c n p = record {
    cells = p.cells;
    waiting = p.waiting;
    actors = p.actors;
    work = p.work;
    ports = p.ports;
    main = p.main;
    requests = p.requests;
    numbered = p.numbered;
    framed = p.framed;
    registered = p.registered;
  }

  fewer_exist : (k : ℕ) (ks : List ℕ) → AllExist r types ks → AllExist r types (closed_request k ks)
  fewer_exist k [] h = tt
  fewer_exist k (n ∷ ns) h = by_test (nat_eq k n) (fewer_exist k ns h.1)
    where
      by_test : (b : Bool) → AllExist r types (closed_request k ns) → AllExist r types (if b then ns else n ∷ closed_request k ns)
      by_test true f = h.1
      by_test false f = (h.0, f)

pub arrivals_fit : (r : RawTree) → ArrivalsFit r
arrivals_fit r types c xs port k from at text p go e =
    let v = packet from at text in
    let t = FutureStreamType (NamedType (codes "Packet")) in
    fine_turn r types (λ d. fill k (GoodOutcome v) d) c xs
    (λ n. fill_fits r types k (GoodOutcome v) (record c { left = n }) xs t (NamedType (codes "Packet")) go (p.ports port k e) (inr refl) (packet_fits r types from at text) (lined r types xs c n p))

pub deliveries_fit : (r : RawTree) → DeliveriesFit r
deliveries_fit r types c xs k o u p go e f =
    let d = pushed (Drop kind.Promise k) (record c { requests = closed_request k c.requests }) in
    let state : ProcessFits r types d xs = record {
      cells = p.cells;
      waiting = p.waiting;
      actors = p.actors;
      work = ((u, e), p.work);
      ports = p.ports;
      main = p.main;
      requests = fewer_exist r types xs k c.requests p.requests;
      numbered = p.numbered;
      framed = p.framed;
      registered = p.registered;
    } in
    fine_turn r types (λ d. fill k o d) d xs (λ n. fill_fits r types k o (record d { left = n }) xs (FutureType u) u go e (inl refl) f (lined r types xs d n state))
