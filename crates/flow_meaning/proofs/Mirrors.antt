-- Actors of one kind that are those of another seen in another way: the second kind simulates the first.
use Rattle.std.proofs.Common.{◌≡◌, ℕ, List, refl, sym, ap, ◌∙◌, inl}
use Rattle.std.specs.Prelude.{option_map}
use Rattle.std.specs.declared.option.Option.{Option}
use Rattle.std.specs.declared.option.Option.TheVariants.{None, Some}
use Rattle.flow_value.specs.Values.{ValueTree}
use Rattle.flow_meaning.specs.Cells.{Side}
use Rattle.flow_meaning.specs.Requests.{Ask}
use Rattle.flow_meaning.specs.Process.{View, Engine}
use Rattle.flow_meaning.specs.Orderly.{Phase}
use Rattle.flow_meaning.specs.Law.{still, MatchesAsk, Alike, BothOrNone, Simulates}
use Rattle.flow_meaning.proofs.BareActs.{through}

pub record Mirrors {A B : Type 0} (e : Engine A) (d : Engine B) (f : A → B) : Type 0 where
  pub main : e.main ≡ d.main
  pub label : (k : ℕ) → e.label k ≡ d.label k
  pub fresh : (k : ℕ) (vs : List ValueTree) → d.fresh k vs ≡ option_map f (e.fresh k vs)
  pub next : (v : View) (a : A) → d.next v (f a) ≡ through f (e.next v a)
  pub lose : (a : A) → d.lose (f a) ≡ through f (e.lose a)
  pub store : (u : ValueTree) (a : A) → d.store u (f a) ≡ through f (e.store u a)
  pub take : (n : ℕ) (u : ValueTree) (a : A) → d.take n u (f a) ≡ through f (e.take n u a)
  pub raise : (err : ℕ) (a : A) → d.raise err (f a) ≡ through f (e.raise err a)
  pub occ : (s : Side) (k : ℕ) (a : A) → d.occ s k (f a) ≡ e.occ s k a

-- an actor is related to itself, seen in the other way
abbrev pub Mirrored : {A B : Type 0} → (A → B) → Phase → A → B → Type 0
Mirrored f p a b = b ≡ f a

module _ {A B : Type 0} (e : Engine A) (d : Engine B) (f : A → B) (m : Mirrors e d f) where
  fresh_both : (o : Option A) (u : Option B) → u ≡ option_map f o → BothOrNone (λ a b. b ≡ f a) o u
  fresh_both None None h = tt
  fresh_both None (Some b) h = absurd cc
  fresh_both (Some a) None h = absurd cc
  fresh_both (Some a) (Some b) h = same_of h
    where
      same_of : {x y : B} → Some x ≡ Some y → x ≡ y
      same_of k = cc

  alike : {X : Type 0} (p : X × A) (q : X × B) → q ≡ through f p → Alike (λ a b. b ≡ f a) p q
  alike p q h = (sym (ap (λ z. z.0) h), ap (λ z. z.1) h)

  answer : (v : View) (lighter : Type 0) (k : Option Ask) (a c : A) (b : B) → b ≡ f a → d.next v (f a) ≡ (k, f c) → MatchesAsk (Mirrored f) d v lighter k c b
  answer v lighter None a c b r h = (f c, inl (f c, ap (d.next v) r ∙ h, still), refl)
  answer v lighter (Some ask) a c b r h = (b, f c, still, ap (d.next v) r ∙ h, refl)

  pub mirrors_simulate : Simulates e d (Mirrored f)
  mirrors_simulate = record {
    main = m.main;
    label = m.label;
    fresh = λ k vs. fresh_both (e.fresh k vs) (d.fresh k vs) (m.fresh k vs);
    waits = λ a b r. r;
    dues = λ a b r. r;
    risks = λ a b r. r;
    weight = λ a. 0;
    next = λ v a b r. answer v _ (e.next v a).0 a (e.next v a).1 b r (m.next v a);
    lose = λ a b r. alike (e.lose a) (d.lose b) (ap d.lose r ∙ m.lose a);
    store = λ u a b r. alike (e.store u a) (d.store u b) (ap (d.store u) r ∙ m.store u a);
    take = λ n u a b r. alike (e.take n u a) (d.take n u b) (ap (d.take n u) r ∙ m.take n u a);
    raise = λ err a b r. alike (e.raise err a) (d.raise err b) (ap (d.raise err) r ∙ m.raise err a);
    occ = λ s k a b r. sym (m.occ s k a) ∙ ap (d.occ s k) (sym r);
  }
