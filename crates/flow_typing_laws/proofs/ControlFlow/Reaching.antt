-- A set that is grown along edges until nothing is added holds exactly what some walk reaches.
use Rattle.std.proofs.Common.{zero, suc, ◌<◌, List, [], ◌∷◌, length, subst, arith}
use Rattle.std.specs.Prelude.{Contains}
use Rattle.std.proofs.lemmas.List.Elements.{Contains-append_right}
use Rattle.flow_typing_laws.specs.ControlFlow.Graph.{Edge, Leads, Walk, stay, go, Reaches, Grown, begun, added, IsClosed, ReachedFrom}

module _ {P : Type 0} (edges : List (Edge P)) where
  -- one step more at the end of a walk
  further : {a b : P} {left : List P} → Walk edges a left b → (c : P) → Leads edges b c → Reaches edges a c
  further (stay a) c e = (a ∷ [], go a c e (stay c))
  further (go a b f w) c e = let r = further w c e in (a ∷ r.0, go a b f r.1)

  -- what is in a set that was added to
  in_more : (b : P) (reached : List P) (c : P) → Contains (b ∷ reached) c → (Q : P → Type 0) → Q b → (Contains reached c → Q c) → Q c
  in_more b reached c (zero, lt, e) Q q f = subst Q e q
  in_more b reached c (suc k, lt, e) Q q f = f (k, (let l : suc k < length (b ∷ reached) = lt in omega (arith, l)), e)

  pub grown_reached : (begins reached : List P) → Grown edges begins reached → (c : P) → Contains reached c → ReachedFrom edges begins c
  grown_reached begins _ begun c h = (c, h, ([], stay c))
  grown_reached begins _ (added {reached} a b i e g) c h =
      in_more b reached c h (λ d. ReachedFrom edges begins d)
      (let r = grown_reached begins reached g a i in (r.0, r.1, further r.2.1 b e))
      (λ j. grown_reached begins reached g c j)

  begins_kept : (begins reached : List P) → Grown edges begins reached → (c : P) → Contains begins c → Contains reached c
  begins_kept begins _ begun c h = h
  begins_kept begins _ (added {reached} a b i e g) c h = Contains-append_right (b ∷ []) reached c (begins_kept begins reached g c h)

  pub closed_along : (reached : List P) → IsClosed edges reached → {a b : P} {left : List P} → Walk edges a left b → Contains reached a → Contains reached b
  closed_along reached closed (stay a) h = h
  closed_along reached closed (go a b e w) h = closed_along reached closed w (closed a b h e)

  pub reached_grown : (begins reached : List P) → Grown edges begins reached → IsClosed edges reached → (c : P) → ReachedFrom edges begins c → Contains reached c
  reached_grown begins reached g closed c r = closed_along reached closed r.2.1 (begins_kept begins reached g r.0 r.1)
