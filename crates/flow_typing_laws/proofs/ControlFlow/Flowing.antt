-- What is known at the points of a body is kept along each edge of its control graph.
use Rattle.std.proofs.Common.{◌≡◌, ℕ, zero, suc, ◌+◌, ◌<◌, ◌≤◌, Bool, true, false, ◌||◌, ◌⊎◌, inl, inr, List, [], ◌∷◌, ◌++◌, length, refl, sym, ap, subst, arith}
use Rattle.std.specs.Prelude.{All, nat_eq, nat_lt, is_some, if◌then◌else◌}
use Rattle.std.proofs.lemmas.Bool.{false≢true, lt-ltb}
use Rattle.std.proofs.lemmas.List.Elements.{All-nil, All-cons, All-append, All-map}
use Rattle.std.specs.declared.option.Option.{Option}
use Rattle.std.specs.declared.option.Option.TheVariants.{None, Some}
use Rattle.flow_tree.specs.declared.ty.Ident.{Ident}
use Rattle.flow_tree.specs.Body.{IntoTree, Body, End, WhileStmt, ForStmt, LoopStmt, ChooseStmt, WaitStmt}
use Rattle.flow_tree.proofs.ForParts.{InitKind, no_init, declares, assigns, modifies, init_kind}
use Rattle.flow_staterule.specs.declared.scope.Point.{Point}
use Rattle.flow_staterule.specs.declared.ways.Reached.{Reached}
use Rattle.flow_staterule.specs.declared.ways.Ways.{Ways}
use Rattle.flow_staterule.specs.Ways.{ways, at_once, is_reached, sequence, head, waited_at}
use Rattle.flow_typing_laws.specs.ControlFlow.Graph.{Edge}
use Rattle.flow_typing_laws.specs.ControlFlow.Control.{points, Around, listed, leads, statement, first, edge}
use Rattle.flow_typing_laws.specs.ControlFlow.Mentions.{Declared, Named, local_at, declared, with_into, declaring}
use Rattle.flow_typing_laws.specs.ControlFlow.Laws.{HasSimpleParts}
use Rattle.flow_typing_laws.proofs.ControlFlow.Notes.{Note, note, wait_note, behind_all, for_round, for_point, notes, Tells}
use Rattle.flow_typing_laws.proofs.ControlFlow.Leading.{Has, has_below, Into, into_less, less_head, into_self, into_back, behind_from, behind_stale, within_behind, Exits, exits_rest}

-- What is known is kept from a point of this number to another: what is declared there reaches the other.
pub record Flow (x : ℕ) (a b : Note) : Type 0 where
  pub begins : (j : ℕ) (d : Declared) → Has b.named j d → d.point ≡ x → b.point.from ≤ j
  pub keeps : (j : ℕ) (d : Declared) → Has b.named j d → (d.point ≡ x → ⊥) → Has a.named j d
  pub from : (j : ℕ) (d : Declared) → Has b.named j d → (d.point ≡ x → ⊥) → a.point.from ≤ j → b.point.from ≤ j
  pub stale : (j : ℕ) (d : Declared) → Has b.named j d → (d.point ≡ x → ⊥) → a.point.from ≤ j → (a.counts ≡ true) ⊎ (j < a.point.stale) → j < b.point.stale

-- all variables are declared at points below this one
abbrev pub Below : ℕ → List Named → Type 0
Below m vs = (j : ℕ) (d : Declared) → Has vs j d → d.point < m

abbrev pub point_of : Option Declared → ℕ
point_of None = 0
point_of (Some d) = d.point

pub declared_at : (s : Bool) (m : ℕ) (x : Ident) (d : Declared) → (if s then record { name = x.name; local = None } else local_at m x).local ≡ Some d → d.point ≡ m
declared_at true m x d e = absurd (false≢true (ap is_some e))
declared_at false m x d e = sym (ap (λ o. point_of o) e)

pub below_more : (m n : ℕ) (vs : List Named) → m ≤ n → Below m vs → Below n vs
below_more m n vs le b j d h = let l = b j d h in omega (arith, l, le)

pub below_declared : (m : ℕ) (v : Named) (vs : List Named) → ((d : Declared) → v.local ≡ Some d → d.point ≡ m) → Below m vs → Below (suc m) (v ∷ vs)
below_declared m v vs f b j d (inl e) = let g = f d e.1 in omega (arith, g)
below_declared m v vs f b j d (inr h) = let l = b j d h in omega (arith, l)

pub into_point : (m : ℕ) (i : IntoTree) (d : Declared) → (declared m i).local ≡ Some d → d.point ≡ m
into_point m i d e = declared_at i.state m i.name d e

pub below_into : (m : ℕ) (o : Option IntoTree) (vs : List Named) → Below m vs → Below (suc m) (with_into m o vs)
below_into m None vs b = let le : m ≤ suc m = omega arith in below_more m (suc m) vs le b
below_into m (Some i) vs b = below_declared m (declared m i) vs (into_point m i) b

pub within_into : (m n : ℕ) (o : Option IntoTree) (vs : List Named) → n ≤ length vs → n ≤ length (with_into m o vs)
within_into m n None vs le = le
within_into m n (Some i) vs le = omega (arith, le)

pub waited_reached : (n : ℕ) → is_reached (waited_at n) ≡ true
waited_reached zero = refl
waited_reached (suc n) = let some : 0 < suc n = omega arith in or_true (nat_eq (suc n) 0) (nat_lt 0 (suc n)) (lt-ltb 0 (suc n) some)
  where
    or_true : (a b : Bool) → b ≡ true → a || b ≡ true
    or_true true b e = refl
    or_true false b e = e

module _ (tell : ℕ → Note) where
  abbrev pub IsFlow : Edge ℕ → Type 0
  IsFlow e = Flow e.from (tell e.from) (tell e.to)

  pub record Kept (es : List (Edge ℕ)) : Type 0 where
    pub along : All IsFlow es

  pub nothing_kept : Kept []
  nothing_kept = record { along = All-nil IsFlow }

  abbrev pub FlowsTo : ℕ → ℕ → Type 0
  FlowsTo m t = Flow m (tell m) (tell t)

  pub flow_from : (m : ℕ) (vs : List Named) (p : Point) (c : Bool) (r : Reached) (y : Note) → (c ≡ true → r.waited ≡ true) → is_reached r ≡ true → Below m vs → Into r vs p y
      → Flow m (record { named = vs; point = p; counts = c }) y
  flow_from m vs p c r y w e b i = record {
    begins = λ j d h x. let l = b j d (i.keeps j d h) in absurd (omega (arith, l, x));
    keeps = λ j d h x. i.keeps j d h;
    from = λ j d h x f. i.from j d h e f;
    stale = λ j d h x f. elim [ inl o ↦ i.stale j d h e f (inl (w o)) | inr o ↦ i.stale j d h e f (inr o) ];
  }

  -- a point without a wait
  pub flow_plain : (m : ℕ) (vs : List Named) (p : Point) (t : ℕ) → tell m ≡ note vs p → Below m vs → Into at_once vs p (tell t) → FlowsTo m t
  flow_plain m vs p t e b i = subst (λ a. Flow m a (tell t)) (sym e) (flow_from m vs p false at_once (tell t) (λ x. absurd (false≢true x)) refl b i)

  pub flow_wait : (n m : ℕ) (vs : List Named) (p : Point) (t : ℕ) → tell m ≡ wait_note n vs p → Below m vs → Into (waited_at n) vs p (tell t) → FlowsTo m t
  flow_wait n m vs p t e b i = subst (λ a. Flow m a (tell t)) (sym e) (flow_from m vs p (nat_lt 0 n) (waited_at n) (tell t) (λ x. x) (waited_reached n) b i)

  -- a point that declares a variable
  pub flow_more : (m : ℕ) (v : Named) (vs : List Named) (p : Point) (c : Bool) (r : Reached) (y : Note) → (c ≡ true → r.waited ≡ true) → is_reached r ≡ true → Below m vs → p.from ≤ length vs
      → ((d : Declared) → v.local ≡ Some d → d.point ≡ m) → Into at_once (v ∷ vs) (behind_all vs p r) y → Flow m (record { named = vs; point = p; counts = c }) y
  flow_more m v vs p c r y w e b l f i = record {
    begins = λ j d h x. elim (i.keeps j d h) [
      | inl o ↦ (let k = within_behind r vs p l in let q : (behind_all vs p r).from ≤ j = (let g = o.0 in omega (arith, k, g)) in i.from j d h refl q)
      | inr o ↦ (let k = b j d o in absurd (omega (arith, k, x)))
    ];
    keeps = λ j d h x. older j d x (i.keeps j d h);
    from = λ j d h x g. i.from j d h refl (behind_from r vs j p e g);
    stale = λ j d h x g o. i.stale j d h refl (behind_from r vs j p e g) (inr (behind_stale r vs j p (has_below vs j d (older j d x (i.keeps j d h))) e (waits o)));
  }
    where
      older : (j : ℕ) (d : Declared) → (d.point ≡ m → ⊥) → Has (v ∷ vs) j d → Has vs j d
      older j d x (inl o) = absurd (x (f d o.1))
      older j d x (inr o) = o

      waits : {A : Type 0} → (c ≡ true) ⊎ A → (r.waited ≡ true) ⊎ A
      waits (inl o) = inl (w o)
      waits (inr o) = inr o

  pub flow_into : (m : ℕ) (o : Option IntoTree) (vs : List Named) (p : Point) (c : Bool) (r : Reached) (y : Note) → (c ≡ true → r.waited ≡ true) → is_reached r ≡ true → Below m vs → p.from ≤ length vs
      → Into at_once (with_into m o vs) (behind_all vs p r) y → Flow m (record { named = vs; point = p; counts = c }) y
  flow_into m None vs p c r y w e b l i = flow_from m vs p c r y w e b (into_back r vs p y i)
  flow_into m (Some v) vs p c r y w e b l i = flow_more m (declared m v) vs p c r y w e b l (into_point m v) i

  -- the edges of a point, and those of a statement
  pub leads_flow : (m : ℕ) (tos : List ℕ) → All (FlowsTo m) tos → Kept (leads m tos)
  leads_flow m tos h = record { along = All-map IsFlow (edge m) tos h }

  pub listed_flow : (m : ℕ) (o : Option ℕ) → ((t : ℕ) → o ≡ Some t → FlowsTo m t) → All (FlowsTo m) (listed o)
  listed_flow m None f = All-nil (FlowsTo m)
  listed_flow m (Some t) f = All-cons (FlowsTo m) t [] (f t refl) (All-nil (FlowsTo m))

  pub statement_flow : (m : ℕ) (a : Around) (tos : List ℕ) → All (FlowsTo m) tos → ((t : ℕ) → a.catches ≡ Some t → FlowsTo m t) → Kept (statement m a tos)
  statement_flow m a tos h f = leads_flow m (tos ++ listed a.catches) (All-append (FlowsTo m) tos (listed a.catches) h (listed_flow m a.catches f))

  pub to_one : (m t : ℕ) → FlowsTo m t → All (FlowsTo m) (t ∷ [])
  to_one m t f = All-cons (FlowsTo m) t [] f (All-nil (FlowsTo m))

  pub to_two : (m t u : ℕ) → FlowsTo m t → FlowsTo m u → All (FlowsTo m) (t ∷ u ∷ [])
  to_two m t u f g = All-cons (FlowsTo m) t (u ∷ []) f (to_one m u g)

  pub then_flow : (xs ys : List (Edge ℕ)) → Kept xs → Kept ys → Kept (xs ++ ys)
  then_flow xs ys h k = record { along = All-append IsFlow xs ys h.along k.along }

  -- a body leads on from its first point
  pub into_here : (vs : List Named) (p : Point) (m : ℕ) → tell m ≡ note vs p → Into at_once vs p (tell m)
  into_here vs p m e = subst (Into at_once vs p) (sym e) (into_self at_once vs p)

  pub into_waiting : (n : ℕ) (vs : List Named) (p : Point) (m : ℕ) → tell m ≡ wait_note n vs p → Into at_once vs p (tell m)
  into_waiting n vs p m e = let i = into_self at_once vs p in subst (Into at_once vs p) (sym e) (record { keeps = i.keeps; from = i.from; stale = i.stale })

  pub into_headed : (w : Ways) (vs : List Named) (p : Point) (m : ℕ) → tell m ≡ note vs (behind_all vs p (head w)) → Into at_once vs p (tell m)
  into_headed w vs p m e = subst (Into at_once vs p) (sym e) (into_less at_once (head w) vs p _ (less_head w) (into_self (head w) vs p))

  pub into_for : (n m : ℕ) (vs : List Named) (p : Point) (i t b : Body) (f : ℕ) (ns : List Note) → InitKind i
      → Tells tell m (notes n i m vs p ++ (note (declaring m i vs) (for_point n m vs p i t b) ∷ ns))
      → Into at_once vs p (tell (first i m (m + points i)))
  into_for n m vs p _ t b f ns no_init h = let e : m ≡ m + 0 = omega arith in subst (λ x. Into at_once vs p (tell x)) e (into_headed (for_round n End t b) vs p m h.0)
  into_for n m vs p _ t b f ns (declares at i v) h = into_here vs p m h.0
  into_for n m vs p _ t b f ns (assigns at xs v) h = into_here vs p m h.0
  into_for n m vs p _ t b f ns (modifies at xs c) h = into_here vs p m h.0

  pub into_first : (n : ℕ) (b : Body) (m : ℕ) (vs : List Named) (p : Point) (f : ℕ) → HasSimpleParts b → Tells tell m (notes n b m vs p) → Into (ways n b).ends vs p (tell f)
      → Into at_once vs p (tell (first b m f))
  into_first n End m vs p f s h i = i
  into_first n (WhileStmt at e b k) m vs p f s h i = into_headed (ways n b) vs p m h.0
  into_first n (ForStmt at j e t b k) m vs p f s h i = into_for n m vs p j t b f _ (init_kind j s.0.0) h
  into_first n (LoopStmt at b k) m vs p f s h i = into_headed (ways n b) vs p m h.0
  into_first n (ChooseStmt at bs k) m vs p f s h i = into_waiting n vs p m h.0
  into_first n (WaitStmt at w k) m vs p f s h i = into_waiting n vs p m h.0
  into_first n _ m vs p f s h i = into_here vs p m h.0

  -- what comes behind a statement that is left so
  pub into_next : (w : Ways) (n : ℕ) (k : Body) (m : ℕ) (vs : List Named) (p : Point) (a : Around) → HasSimpleParts k → Tells tell m (notes n k m vs (behind_all vs p w.ends))
      → Exits tell (sequence w (ways n k)) vs p a
      → Into w.ends vs p (tell (first k m a.follows))
  into_next w n k m vs p a s h e = into_back w.ends vs p _ (into_first n k m vs (behind_all vs p w.ends) a.follows s h (exits_rest tell w (ways n k) vs p a e).follows)
