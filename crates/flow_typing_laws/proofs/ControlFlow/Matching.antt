-- The points and variables of the rule on state beside the notes of a body.
use Rattle.std.proofs.Common.{◌≡◌, ℕ, ◌+◌, ◌-◌, ◌≤◌, Bool, true, false, List, [], ◌∷◌, ◌++◌, length, map, refl, sym, ap, ap₂, subst, subst₂, ◌∙◌, arith, rules, length-append, inr}
use Rattle.std.specs.Prelude.{if◌then◌else◌}
use Rattle.std.proofs.lemmas.List.{length-map}
use Rattle.std.specs.declared.option.Option.{Option}
use Rattle.std.specs.declared.option.Option.TheVariants.{None, Some}
use Rattle.flow_tree.specs.declared.ty.Ident.{Ident}
use Rattle.flow_tree.specs.Body.{IntoTree, Body}
use Rattle.flow_tree.proofs.ForParts.{InitKind, no_init, declares, assigns, modifies}
use Rattle.flow_staterule.specs.declared.scope.Point.{Point}
use Rattle.flow_staterule.specs.declared.scope.Use.{Use}
use Rattle.flow_staterule.specs.declared.uses.Caught.{Caught}
use Rattle.flow_staterule.specs.declared.ways.Reached.{Reached}
use Rattle.flow_staterule.specs.Ways.{at_once, onward}
use Rattle.flow_staterule.specs.Uses.{Variable, behind}
use Rattle.flow_staterule.specs.Uses as rule
use Rattle.flow_typing_laws.specs.ControlFlow.Graph.{Edge, Leads}
use Rattle.flow_typing_laws.specs.ControlFlow.Control.{points, Around, followed_by, statement, first, edges}
use Rattle.flow_typing_laws.specs.ControlFlow.Mentions.{Declared, Named, Mention, local_at, declared, with_into, declaring}
use Rattle.flow_typing_laws.proofs.ControlFlow.Notes.{Note, note, wait_note, behind_all}
use Rattle.flow_typing_laws.proofs.ControlFlow.Leading.{Has}
use Rattle.flow_typing_laws.proofs.ControlFlow.Flowing.{Below, into_point}
use Rattle.flow_typing_laws.proofs.ControlFlow.Walking.{goes_trail, trail_step, Part, part_left, statement_first}
use Rattle.flow_typing_laws.proofs.ControlFlow.Backing.{variable_of, Real, real_then, real_declared, Here, Each, IsCaught}

-- the same waits left, variables in force and point
pub record Alike (n n' : ℕ) (vs : List Named) (vs' : List Variable) (p p' : Point) : Type 0 where
  pub left : n ≡ n'
  pub named : map variable_of vs ≡ vs'
  pub point : p ≡ p'

pub long : (vs : List Named) (vs' : List Variable) → map variable_of vs ≡ vs' → length vs ≡ length vs'
long vs vs' e = sym (length-map vs variable_of) ∙ ap length e

onward_once : (r : Reached) → onward r at_once ≡ r
onward_once r = grind rules

pub behind_alike : (vs : List Named) (vs' : List Variable) (p p' : Point) (r r' : Reached) → map variable_of vs ≡ vs' → p ≡ p' → r ≡ r' → behind_all vs p r ≡ behind (length vs') p' r'
behind_alike vs vs' p p' r r' e f g = ap₂ (λ k q. behind k q r) (long vs vs' e) f ∙ ap (λ s. behind (length vs') p' s) g

-- behind a statement that nothing follows
pub beyond_alike : (vs : List Named) (vs' : List Variable) (p p' : Point) (r r' : Reached) → map variable_of vs ≡ vs' → p ≡ p' → r ≡ r' → behind_all vs p r ≡ behind (length vs') p' (onward r' at_once)
beyond_alike vs vs' p p' r r' e f g = behind_alike vs vs' p p' r (onward r' at_once) e f (g ∙ sym (onward_once r'))

-- the waits that are left behind one, two and three parts
pub left_one : {A : Type 0} (n n' : ℕ) (xs : List A) → n ≡ n' → n - length xs ≡ n' - length (xs ++ [])
left_one n n' xs e = let f = length-append xs [] in omega (arith, e, f)

pub left_two : {A : Type 0} (n n' : ℕ) (xs ys : List A) → n ≡ n' → n - length xs - length ys ≡ n' - length (xs ++ ys ++ [])
left_two n n' xs ys e = let f = length-append (xs ++ ys) [] in let g = length-append xs ys in omega (arith, e, f, g)

pub left_three : {A : Type 0} (n n' : ℕ) (xs ys zs : List A) → n ≡ n' → n - length xs - length ys - length zs ≡ n' - length (xs ++ ys ++ zs ++ [])
left_three n n' xs ys zs e =
    let f = length-append (xs ++ ys ++ zs) [] in
    let g = length-append (xs ++ ys) zs in
    let h = length-append xs ys in
    omega (arith, e, f, g, h)

pub left_more : {A : Type 0} (n n' : ℕ) (x : A) (xs : List A) → n ≡ n' → n - 1 - length xs ≡ n' - length (x ∷ xs ++ [])
left_more n n' x xs e = let f = length-append xs [] in omega (arith, e, f)

-- declared variables
declared_cases : (s : Bool) (m : ℕ) (x : Ident) → variable_of (if s then record { name = x.name; local = None } else local_at m x) ≡ record { name = x.name; local = if s then None else Some x.at }
declared_cases true m x = refl
declared_cases false m x = refl

pub declared_alike : (m : ℕ) (i : IntoTree) (vs : List Named) (vs' : List Variable) → map variable_of vs ≡ vs' → map variable_of (declared m i ∷ vs) ≡ rule.declared i ∷ vs'
declared_alike m i vs vs' e = ap₂ (λ x l. x ∷ l) (declared_cases i.state m i.name) e

pub into_alike : (m : ℕ) (o : Option IntoTree) (vs : List Named) (vs' : List Variable) → map variable_of vs ≡ vs' → map variable_of (with_into m o vs) ≡ rule.with_into vs' o
into_alike m None vs vs' e = e
into_alike m (Some i) vs vs' e = declared_alike m i vs vs' e

pub init_alike : (m : ℕ) (i : Body) (vs : List Named) (vs' : List Variable) → InitKind i → map variable_of vs ≡ vs' → map variable_of (declaring m i vs) ≡ rule.declaring vs' i
init_alike m _ vs vs' no_init e = e
init_alike m _ vs vs' (declares at i v) e = declared_alike m i vs vs' e
init_alike m _ vs vs' (assigns at xs v) e = e
init_alike m _ vs vs' (modifies at xs c) e = e

within_cases : (f w : Bool) (d : ℕ) (p : Point) → p.stale ≤ d → (behind d p (record { fresh = f; waited = w })).stale ≤ d
within_cases f true d p l = omega arith
within_cases true false d p l = l
within_cases false false d p l = omega arith

pub stale_within : (vs : List Named) (p : Point) (r : Reached) → p.stale ≤ length vs → (behind_all vs p r).stale ≤ length vs
stale_within vs p r l = within_cases r.fresh r.waited (length vs) p l

pub stale_into : (m k : ℕ) (o : Option IntoTree) (vs : List Named) → k ≤ length vs → k ≤ length (with_into m o vs)
stale_into m k None vs l = l
stale_into m k (Some i) vs l = omega (arith, l)

module _ (tell : ℕ → Note) (g : List (Edge ℕ)) where
  pub here_of : (m : ℕ) (vs : List Named) (p : Point) → tell m ≡ note vs p → Real tell g m vs p → Here tell g m vs p
  here_of m vs p e r = record {
    has = λ j d h. subst (λ (a : Note). Has a.named j d) (sym e) h;
    point = ap (λ (a : Note). a.point) e;
    real = r;
  }

  pub here_waiting : (n m : ℕ) (vs : List Named) (p : Point) → tell m ≡ wait_note n vs p → Real tell g m vs p → Here tell g m vs p
  here_waiting n m vs p e r = record {
    has = λ j d h. subst (λ (a : Note). Has a.named j d) (sym e) h;
    point = ap (λ (a : Note). a.point) e;
    real = r;
  }

  -- what is found with the variables and the point of the one is found with those of the other
  pub found_alike : (f : List Variable → Point → List Use) (vs : List Named) (vs' : List Variable) (p p' : Point) (ms : List Mention) → map variable_of vs ≡ vs' → p ≡ p'
      → Each tell g (f (map variable_of vs) p) ms → Each tell g (f vs' p') ms
  found_alike f vs vs' p p' ms e h k = subst₂ (λ v q. Each tell g (f v q) ms) e h k

  pub real_step : (m y : ℕ) (vs : List Named) (p : Point) → Leads g m y → Below m vs → Real tell g m vs p → Real tell g y vs p
  real_step m y vs p l b r = let le : m ≤ m = omega arith in real_then tell g at_once m m y vs p b (goes_trail tell g m m y (trail_step tell g m m y le l)) r

  pub real_into : (m y : ℕ) (o : Option IntoTree) (vs : List Named) (p : Point) → Leads g m y → p.stale ≤ length vs → Real tell g y vs p → Real tell g y (with_into m o vs) p
  real_into m y None vs p l s r = r
  real_into m y (Some i) vs p l s r = real_declared tell g m y (declared m i) vs p l (into_point m i) s r

  -- behind the init of a `for`
  pub init_real : (i : Body) (m : ℕ) (vs : List Named) (p : Point) (a : Around) → InitKind i → Part tell g (edges i m (followed_by a (m + points i))) → Below m vs → p.stale ≤ length vs
      → Real tell g (first i m (m + points i)) vs p → Real tell g (m + points i) (declaring m i vs) p
  init_real _ m vs p a no_init q b s r = r
  init_real _ m vs p a (declares at i v) q b s r =
      let l = statement_first tell g m (followed_by a (m + 1)) (m + 1) [] (part_left tell g (statement m (followed_by a (m + 1)) ((m + 1) ∷ [])) [] q) in
      real_declared tell g m (m + 1) (declared m i) vs p l (into_point m i) s (real_step m (m + 1) vs p l b r)
  init_real _ m vs p a (assigns at xs v) q b s r =
      real_step m (m + 1) vs p (statement_first tell g m (followed_by a (m + 1)) (m + 1) [] (part_left tell g (statement m (followed_by a (m + 1)) ((m + 1) ∷ [])) [] q)) b r
  init_real _ m vs p a (modifies at xs c) q b s r =
      real_step m (m + 1) vs p (statement_first tell g m (followed_by a (m + 1)) (m + 1) [] (part_left tell g (statement m (followed_by a (m + 1)) ((m + 1) ∷ [])) [] q)) b r

  pub caught_deeper : (c : Option Caught) (d : Option Declared) (v : Named) (vs : List Named) → IsCaught tell g c d vs → IsCaught tell g c d (v ∷ vs)
  caught_deeper None None v vs h = tt
  caught_deeper None (Some d) v vs h = absurd h
  caught_deeper (Some c) None v vs h = absurd h
  caught_deeper (Some c) (Some d) v vs h = (h.0, inr h.1)

  pub caught_into : (m : ℕ) (o : Option IntoTree) (c : Option Caught) (d : Option Declared) (vs : List Named) → IsCaught tell g c d vs → IsCaught tell g c d (with_into m o vs)
  caught_into m None c d vs h = h
  caught_into m (Some i) c d vs h = caught_deeper c d (declared m i) vs h

  pub caught_init : (m : ℕ) (i : Body) (c : Option Caught) (d : Option Declared) (vs : List Named) → InitKind i → IsCaught tell g c d vs → IsCaught tell g c d (declaring m i vs)
  caught_init m _ c d vs no_init h = h
  caught_init m _ c d vs (declares at i v) h = caught_deeper c d (declared m i) vs h
  caught_init m _ c d vs (assigns at xs v) h = h
  caught_init m _ c d vs (modifies at xs e) h = h
