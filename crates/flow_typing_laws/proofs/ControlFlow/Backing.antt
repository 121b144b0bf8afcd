-- Walks from declarations: to what reaches a point, and past a wait to what is stale there.
use Rattle.std.proofs.Common.{◌≡◌, ℕ, suc, ◌<◌, ◌≤◌, Bool, true, false, ◌&&◌, inl, inr, List, [], ◌∷◌, ◌++◌, length, map, refl, sym, ap, subst, ◌∙◌, arith, append_assoc, append-nil}
use Rattle.std.specs.Prelude.{Contains, nat_le, nat_lt, if◌then◌else◌}
use Rattle.std.specs.Option.{option_map}
use Rattle.std.specs.Str.{bytes_eq}
use Rattle.std.proofs.lemmas.Bool.{false≢true, leb-true, ltb-true}
use Rattle.std.proofs.lemmas.List.Elements.{Contains-append_left, Contains-append_right}
use Rattle.std.proofs.lemmas.List.{length-map}
use Rattle.std.specs.declared.option.Option.{Option}
use Rattle.std.specs.declared.option.Option.TheVariants.{None, Some}
use Rattle.flow_base.specs.declared.place.Place.{Place}
use Rattle.flow_tree.specs.declared.ty.Ident.{Ident}
use Rattle.flow_tree.specs.Tree.{ExprTree, ExprTrees}
use Rattle.flow_tree.specs.Body.{ChangeTree, PlusChange, MinusChange, UpChange, DownChange}
use Rattle.flow_tree.proofs.Folds.{names_agree, all_names_agree}
use Rattle.flow_staterule.specs.declared.scope.Point.{Point}
use Rattle.flow_staterule.specs.declared.scope.Use.{Use}
use Rattle.flow_staterule.specs.declared.uses.Caught.{Caught}
use Rattle.flow_staterule.specs.declared.ways.Reached.{Reached}
use Rattle.flow_staterule.specs.Ways.{never}
use Rattle.flow_staterule.specs.Uses.{Variable, behind, is_stale, use_of, mention, named, expr_uses, exprs_uses, maybe_uses, target_uses, base_uses, change_uses, thrown_uses}
use Rattle.flow_typing_laws.specs.ControlFlow.Graph.{Edge, Leads, Walk, stay, go}
use Rattle.flow_typing_laws.specs.ControlFlow.Mentions.{Declared, Named, Mention, mention_of, of_name, of_names, expr_names, exprs_names, maybe_names, target_names, base_names, change_names, thrown}
use Rattle.flow_typing_laws.proofs.ControlFlow.Notes.{Note, behind_all}
use Rattle.flow_typing_laws.proofs.ControlFlow.Leading.{Has, has_below}
use Rattle.flow_typing_laws.proofs.ControlFlow.Flowing.{Below}
use Rattle.flow_typing_laws.proofs.ControlFlow.Walking.{AtLeast, least_both, least_less, walk_on, Trail, WaitTrail, Goes}

-- a variable as the rule on state has it
abbrev pub place_of : Declared → Place
place_of d = d.at

abbrev pub variable_of : Named → Variable
variable_of v = record { name = v.name; local = option_map place_of v.local }

module _ (tell : ℕ → Note) (g : List (Edge ℕ)) where
  pub record From (d : Declared) (x : ℕ) : Type 0 where
    pub left : List ℕ
    pub walk : Walk g d.point (d.point ∷ left) x
    pub later : AtLeast (suc d.point) left

  pub record Bad (d : Declared) (x : ℕ) : Type 0 where
    pub led : From d x
    pub wait : ℕ
    pub passed : Contains led.left wait
    pub counts : (tell wait).counts ≡ true

  pub record Real (x : ℕ) (vs : List Named) (p : Point) : Type 0 where
    pub led : (j : ℕ) (d : Declared) → Has vs j d → p.from ≤ j → From d x
    pub bad : (j : ℕ) (d : Declared) → Has vs j d → p.from ≤ j → j < p.stale → Bad d x

  abbrev from_on : (d : Declared) (lo x y : ℕ) → suc d.point ≤ lo → From d x → Trail tell g lo x y → From d y
  from_on d lo x y le f t = record { left = f.left ++ t.left; walk = walk_on f.walk t.walk; later = least_both (suc d.point) f.left t.left f.later (least_less (suc d.point) lo t.left le t.least) }

  bad_on : (d : Declared) (lo x y : ℕ) → suc d.point ≤ lo → Bad d x → Trail tell g lo x y → Bad d y
  bad_on d lo x y le b t = record { led = from_on d lo x y le b.led t; wait = b.wait; passed = Contains-append_left b.led.left t.left b.wait b.passed; counts = b.counts }

  on_bad : (d : Declared) (lo x y : ℕ) → suc d.point ≤ lo → From d x → WaitTrail tell g lo x y → Bad d y
  on_bad d lo x y le f t = record { led = from_on d lo x y le f t.trail; wait = t.wait; passed = Contains-append_right f.left t.trail.left t.wait t.passed; counts = t.counts }

  below_least : (lo : ℕ) (vs : List Named) → Below lo vs → (j : ℕ) (d : Declared) → Has vs j d → suc d.point ≤ lo
  below_least lo vs b j d h = let l = b j d h in omega (arith, l)

  real_then_cases : (f w : Bool) (lo x y : ℕ) (vs : List Named) (p : Point) → Below lo vs → Goes tell g (record { fresh = f; waited = w }) lo x y → Real x vs p
      → Real y vs (behind (length vs) p (record { fresh = f; waited = w }))
  real_then_cases f true lo x y vs p b t r = record {
    led = λ j d h e. from_on d lo x y (below_least lo vs b j d h) (r.led j d h e) (t.waited refl).trail;
    bad = λ j d h e s. on_bad d lo x y (below_least lo vs b j d h) (r.led j d h e) (t.waited refl);
  }
  real_then_cases true false lo x y vs p b t r = record {
    led = λ j d h e. from_on d lo x y (below_least lo vs b j d h) (r.led j d h e) (t.fresh refl);
    bad = λ j d h e s. bad_on d lo x y (below_least lo vs b j d h) (r.bad j d h e s) (t.fresh refl);
  }
  real_then_cases false false lo x y vs p b t r = record {
    led = λ j d h e. let l = has_below vs j d h in absurd (omega (arith, l, e));
    bad = λ j d h e s. let l = has_below vs j d h in absurd (omega (arith, l, e));
  }

  pub real_then : (r : Reached) (lo x y : ℕ) (vs : List Named) (p : Point) → Below lo vs → Goes tell g r lo x y → Real x vs p → Real y vs (behind_all vs p r)
  real_then r lo x y vs p b t k = real_then_cases r.fresh r.waited lo x y vs p b t k

  -- nothing reaches what is dead
  pub real_dead : (y : ℕ) (vs : List Named) (p : Point) → Real y vs (behind_all vs p never)
  real_dead y vs p = record {
    led = λ j d h e. let l = has_below vs j d h in absurd (omega (arith, l, e));
    bad = λ j d h e s. let l = has_below vs j d h in absurd (omega (arith, l, e));
  }

  -- a variable that is declared at a point before another
  pub real_declared : (m y : ℕ) (v : Named) (vs : List Named) (p : Point) → Leads g m y → ((d : Declared) → v.local ≡ Some d → d.point ≡ m) → p.stale ≤ length vs → Real y vs p → Real y (v ∷ vs) p
  real_declared m y v vs p l f s r = record { led = led; bad = bad }
    where
      led : (j : ℕ) (d : Declared) → Has (v ∷ vs) j d → p.from ≤ j → From d y
      led j d (inl o) e = let q = f d o.1 in record { left = []; walk = subst (λ x. Walk g x (x ∷ []) y) (sym q) (go m y l (stay y)); later = tt }
      led j d (inr h) e = r.led j d h e

      bad : (j : ℕ) (d : Declared) → Has (v ∷ vs) j d → p.from ≤ j → j < p.stale → Bad d y
      bad j d (inl o) e k = let q = o.0 in absurd (omega (arith, q, s, k))
      bad j d (inr h) e k = r.bad j d h e k

  -- A use is the mention of a local that the rule on state has there, and where it is stale a walk is bad for it.
  pub record Fits (u : Use) (n : Mention) : Type 0 where
    pub at : u.at ≡ n.at
    pub declared : u.declared ≡ n.declared.at
    pub number : ℕ
    pub has : Has (tell n.point).named number n.declared
    pub stale : u.stale ≡ is_stale (tell n.point).point number
    pub bad : u.stale ≡ true → Bad n.declared n.point

  pub data Each : List Use → List Mention → Type 0 where
    no_uses : Each [] []
    and_use : {us : List Use} {ns : List Mention} (u : Use) (n : Mention) → Fits u n → Each us ns → Each (u ∷ us) (n ∷ ns)

  pub each_then : {us : List Use} {ns : List Mention} (vs : List Use) (ms : List Mention) → Each us ns → Each vs ms → Each (us ++ vs) (ns ++ ms)
  each_then vs ms no_uses k = k
  each_then vs ms (and_use u n f e) k = and_use u n f (each_then vs ms e k)

  -- what is known at the point of a use
  pub record Here (m : ℕ) (vs : List Named) (p : Point) : Type 0 where
    pub has : (j : ℕ) (d : Declared) → Has vs j d → Has (tell m).named j d
    pub point : (tell m).point ≡ p
    pub real : Real m vs p

  and_first : (a b : Bool) → a && b ≡ true → a ≡ true
  and_first true b e = refl
  and_first false b e = absurd (false≢true e)

  and_second : (a b : Bool) → a && b ≡ true → b ≡ true
  and_second true b e = e
  and_second false b e = absurd (false≢true e)

  stale_bad : (m : ℕ) (vs : List Named) (p : Point) → Real m vs p → (j : ℕ) (d : Declared) → Has vs j d → is_stale p j ≡ true → Bad d m
  stale_bad m vs p r j d h e = r.bad j d h (leb-true p.from j (and_first (nat_le p.from j) (nat_lt j p.stale) e)) (ltb-true j p.stale (and_second (nat_le p.from j) (nat_lt j p.stale) e))

  use_fits : (m : ℕ) (vs : List Named) (p : Point) (at : Place) (j : ℕ) (o : Option Declared) → Here m vs p → ((d : Declared) → o ≡ Some d → Has vs j d)
      → Each (use_of at p (option_map place_of o) j) (mention_of m at o)
  use_fits m vs p at j None k f = no_uses
  use_fits m vs p at j (Some d) k f = and_use _ _ (record {
    at = refl;
    declared = refl;
    number = j;
    has = k.has j d (f d refl);
    stale = ap (λ q. is_stale q j) (sym k.point);
    bad = stale_bad m vs p k.real j d (f d refl);
  }) no_uses

  pick : (b : Bool) (us vs : List Use) (ns ms : List Mention) → Each us ns → Each vs ms → Each (if b then us else vs) (if b then ns else ms)
  pick true us vs ns ms e k = e
  pick false us vs ns ms e k = k

  -- the newest variables
  name_fits : (m : ℕ) (ws : List Named) (p : Point) (x : Ident) → Here m ws p → (vs : List Named) → ((j : ℕ) (d : Declared) → Has vs j d → Has ws j d)
      → Each (mention (map variable_of vs) p x.at x.name) (of_name vs m x)
  name_fits m ws p x k [] f = no_uses
  name_fits m ws p x k (v ∷ vs) f =
      pick (bytes_eq v.name x.name) _ _ _ _
      (use_fits m ws p x.at (length (map variable_of vs)) v.local k (λ d e. f (length (map variable_of vs)) d (inl (length-map vs variable_of, e))))
      (name_fits m ws p x k vs (λ j d h. f j d (inr h)))

  one_fits : (m : ℕ) (vs : List Named) (p : Point) (x : Ident) → Here m vs p → Each (named (map variable_of vs) p x) (of_name vs m x)
  one_fits m vs p x k = name_fits m vs p x k vs (λ j d h. h)

  names_apart : (vs : List Named) (m : ℕ) (xs ys : List Ident) → of_names vs m (xs ++ ys) ≡ of_names vs m xs ++ of_names vs m ys
  names_apart vs m [] ys = refl
  names_apart vs m (x ∷ xs) ys = ap (λ l. of_name vs m x ++ l) (names_apart vs m xs ys) ∙ sym (append_assoc (of_name vs m x) (of_names vs m xs) (of_names vs m ys))

  alone : (m : ℕ) (vs : List Named) (us : List Use) (x : Ident) → Each us (of_name vs m x) → Each us (of_names vs m (x ∷ []))
  alone m vs us x e = subst (Each us) (sym (append-nil (of_name vs m x))) e

  apart : (m : ℕ) (vs : List Named) (us ws : List Use) (xs ys : List Ident) → Each us (of_names vs m xs) → Each ws (of_names vs m ys) → Each (us ++ ws) (of_names vs m (xs ++ ys))
  apart m vs us ws xs ys e k = subst (Each (us ++ ws)) (sym (names_apart vs m xs ys)) (each_then ws (of_names vs m ys) e k)

  -- each name of an expression by itself, and one part with another
  module _ (m : ℕ) (vs : List Named) (p : Point) (k : Here m vs p) where
    abbrev FitsAll : List Use → List Ident → Type 0
    FitsAll us xs = Each us (of_names vs m xs)

    each_name : (x : Ident) → FitsAll (named (map variable_of vs) p x) (x ∷ [])
    each_name x = alone m vs _ x (one_fits m vs p x k)

    both_fit : (us ws : List Use) (xs ys : List Ident) → FitsAll us xs → FitsAll ws ys → FitsAll (us ++ ws) (xs ++ ys)
    both_fit us ws xs ys e h = apart m vs us ws xs ys e h

  pub expr_fits : (m : ℕ) (vs : List Named) (p : Point) (e : ExprTree) → Here m vs p → Each (expr_uses (map variable_of vs) p e) (of_names vs m (expr_names e))
  expr_fits m vs p e k = names_agree (FitsAll m vs p k) (named (map variable_of vs) p) (λ x. x ∷ []) no_uses (each_name m vs p k) (both_fit m vs p k) e

  pub exprs_fit : (m : ℕ) (vs : List Named) (p : Point) (es : ExprTrees) → Here m vs p → Each (exprs_uses (map variable_of vs) p es) (of_names vs m (exprs_names es))
  exprs_fit m vs p es k = all_names_agree (FitsAll m vs p k) (named (map variable_of vs) p) (λ x. x ∷ []) no_uses (each_name m vs p k) (both_fit m vs p k) es

  pub maybe_fits : (m : ℕ) (vs : List Named) (p : Point) (e : Option ExprTree) → Here m vs p → Each (maybe_uses (map variable_of vs) p e) (of_names vs m (maybe_names e))
  maybe_fits m vs p None k = no_uses
  maybe_fits m vs p (Some e) k = expr_fits m vs p e k

  pub target_fits : (m : ℕ) (vs : List Named) (p : Point) (xs : List Ident) → Here m vs p → Each (target_uses (map variable_of vs) p xs) (of_names vs m (target_names xs))
  target_fits m vs p [] k = no_uses
  target_fits m vs p (x ∷ xs) k = alone m vs _ x (one_fits m vs p x k)

  pub base_fits : (m : ℕ) (vs : List Named) (p : Point) (xs : List Ident) → Here m vs p → Each (base_uses (map variable_of vs) p xs) (of_names vs m (base_names xs))
  base_fits m vs p [] k = no_uses
  base_fits m vs p (x ∷ []) k = no_uses
  base_fits m vs p (x ∷ (y ∷ ys)) k = alone m vs _ x (one_fits m vs p x k)

  pub change_fits : (m : ℕ) (vs : List Named) (p : Point) (c : ChangeTree) → Here m vs p → Each (change_uses (map variable_of vs) p c) (of_names vs m (change_names c))
  change_fits m vs p (PlusChange e) k = expr_fits m vs p e k
  change_fits m vs p (MinusChange e) k = expr_fits m vs p e k
  change_fits m vs p UpChange k = no_uses
  change_fits m vs p DownChange k = no_uses

  -- the variable of the catch around
  abbrev pub IsCaught : Option Caught → Option Declared → List Named → Type 0
  IsCaught None None vs = Unit {0}
  IsCaught None (Some d) vs = ⊥
  IsCaught (Some c) None vs = ⊥
  IsCaught (Some c) (Some d) vs = (c.declared ≡ d.at) × Has vs c.number d

  pub thrown_fits : (m : ℕ) (vs : List Named) (p : Point) (c : Option Caught) (d : Option Declared) (at : Place) (e : Option ExprTree) → Here m vs p → IsCaught c d vs
      → Each (thrown_uses p c at e (map variable_of vs)) (thrown vs m at d e)
  thrown_fits m vs p c d at (Some e) k h = expr_fits m vs p e k
  thrown_fits m vs p None None at None k h = no_uses
  thrown_fits m vs p None (Some d) at None k h = absurd h
  thrown_fits m vs p (Some c) None at None k h = absurd h
  thrown_fits m vs p (Some c) (Some d) at None k h = and_use _ _ (record {
    at = refl;
    declared = h.0;
    number = c.number;
    has = k.has c.number d h.1;
    stale = ap (λ q. is_stale q c.number) (sym k.point);
    bad = stale_bad m vs p k.real c.number d h.1;
  }) no_uses
