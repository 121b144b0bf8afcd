-- Assignments and declarations put the same values in place on both sides.
use Rattle.std.proofs.Common.{◌≡◌, ℕ, ◌<◌, true, false, List, [], ◌∷◌, refl, sym, ap, subst, ◌∙◌}
use Rattle.std.specs.Prelude.{option_map}
use Rattle.std.specs.declared.option.Option.{Option}
use Rattle.std.specs.declared.option.Option.TheVariants.{None, Some}
use Rattle.flow_tree.specs.declared.ty.Ident.{Ident}
use Rattle.flow_tree.specs.Body.{IntoTree}
use Rattle.flow_value.specs.Values.{ValueTree}
use Rattle.flow_eval.specs.Functions.{put_in, read_in}
use Rattle.flow_class.specs.declared.class.Slotted.{Slotted}
use Rattle.flow_class.specs.declared.class.Slotted.TheVariants as place
use Rattle.flow_class.specs.Classes.{ClassTree}
use Rattle.flow_class.specs.Places.{place_named}
use Rattle.flow_class.specs.Scopes.{Scope, all_locals, place_of, var_over, path_over}
use Rattle.flow_meaning.specs.Evaluating.{Names, bind}
use Rattle.flow_meaning.specs.Variables.{Vars, flat, filled, look}
use Rattle.flow_meaning.specs.Items.{is_there, declare, declare_by, assign_at, assign_old, assign_root}
use Rattle.flow_meaning.specs.Items as source
use Rattle.flow_meaning.specs.Source as text
use Rattle.flow_meaning.specs.Class as class
use Rattle.flow_meaning.specs.Frame.{Memory, read, write, put_at, put_root}
use Rattle.flow_meaning.specs.Frame as frame
use Rattle.flow_meaning.specs.Carry.{DeclaredAs}
use Rattle.flow_meaning.specs.Carries.{TakesInto}
use Rattle.flow_compile_laws.specs.Simulation.Memories.{vars_of, Held}
use Rattle.flow_compile_laws.proofs.Simulation.Lists.{below_out, filled_none}
use Rattle.flow_class.proofs.Numbers.{place_back}
use Rattle.flow_compile_laws.proofs.Simulation.Seen.{seen_new, new_falls, held_new, place_found, place_small, var_set, held_set}

-- a value is put in place, and what stood there handed out, on both sides or on neither
abbrev pub Puts : ClassTree → Scope → Option (List ValueTree × Vars) → Option (List ValueTree × Memory) → Type 0
Puts c later None None = Unit {0}
Puts c later None (Some b) = ⊥
Puts c later (Some a) None = ⊥
Puts c later (Some a) (Some b) = (a.0 ≡ b.0) × (a.1 ≡ vars_of c b.1 later) × Held c b.1 later

module _ (ns : Names) (c : ClassTree) (m : Memory) (s : Scope) (held : Held c m s) where
  root_puts : (x : List ℕ) (p : Slotted) (old : List ValueTree) (o : Option ValueTree) → place_of c.slots s x ≡ Some p
      → Puts c s (assign_root x o old (vars_of c m s)) (put_root m p old o)
  root_puts x p old None e = tt
  root_puts x p old (Some root) e = (refl, var_set c m s held x p root e, held_set c m s held x p (Some root) e)

  old_puts : (x : Ident) (xs : List Ident) (v : ValueTree) (p : Slotted) → place_of c.slots s x.name ≡ Some p
      → Puts c s (assign_old ns.records x xs v (vars_of c m s) (read m p)) (put_at ns.records m p xs v)
  old_puts x [] v p e = (refl, var_set c m s held x.name p v e, held_set c m s held x.name p (Some v) e)
  old_puts x (y ∷ ys) v p e =
      root_puts x.name p (filled (read_in ns.records (read m p) (y ∷ ys) ∷ [])) (put_in ns.records (read m p) (y ∷ ys) v) e

  at_puts : (x : Ident) (xs : List Ident) (v : ValueTree) (o : Option Slotted) → place_of c.slots s x.name ≡ o
      → Puts c s (assign_at ns.records x xs v (vars_of c m s) (option_map (read m) o)) (bind (place_named (var_over o)) (λ p. put_at ns.records m p xs v))
  at_puts x xs v None e = tt
  at_puts x xs v (Some p) e =
      subst (λ q. Puts c s (assign_old ns.records x xs v (vars_of c m s) (read m p)) (bind q (λ p. put_at ns.records m p xs v)))
      (sym (place_back p (place_small c m s held x.name p e))) (old_puts x xs v p e)

  pub assign_puts : (xs : List Ident) (v : ValueTree) → Puts c s (source.assign ns.records xs v (vars_of c m s)) (frame.assign ns.records m (path_over c.slots s xs) v)
  assign_puts [] v = tt
  assign_puts (x ∷ xs) v =
      subst (λ q. Puts c s (assign_at ns.records x xs v (vars_of c m s) q) (bind (place_named (var_over (place_of c.slots s x.name))) (λ p. put_at ns.records m p xs v)))
      (sym (place_found c m s held x.name)) (at_puts x xs v (place_of c.slots s x.name) refl)

  pub declare_puts : (i : IntoTree) (to : Slotted) (later : Scope) (v : ValueTree) → DeclaredAs ns c s i to later
      → Puts c later (Some (declare i v (vars_of c m s))) (put_at ns.records m to [] v)
  declare_puts i (place.Slot n) later v d =
      subst (λ b. Puts c later (Some (declare_by b i.name.name v (vars_of c m s))) (put_at ns.records m (place.Slot n) [] v)) (sym d.0)
      (subst (λ l. Puts c l (Some (declare_by true i.name.name v (vars_of c m s))) (put_at ns.records m (place.Slot n) [] v)) (sym d.2)
      (old_there i.name.name (place.Slot n) d.1, var_set c m s held i.name.name (place.Slot n) v d.1, held_set c m s held i.name.name (place.Slot n) (Some v) d.1))
    where
      old_there : (x : List ℕ) (p : Slotted) → place_of c.slots s x ≡ Some p → is_there (look (vars_of c m s) x) ≡ filled (read m p ∷ [])
      old_there x p e = ap (λ o. is_there (flat o)) (place_found c m s held x ∙ ap (option_map (read m)) e)
  declare_puts i (place.Local n) later v d =
      let a = new_falls c m s held n d.1.1 in
      let out = below_out n (all_locals s) a in
      subst (λ b. Puts c later (Some (declare_by b i.name.name v (vars_of c m s))) (put_at ns.records m (place.Local n) [] v)) (sym d.0)
      (subst (λ l. Puts c l (Some (declare_by false i.name.name v (vars_of c m s))) (put_at ns.records m (place.Local n) [] v)) (sym d.2) (
        sym (filled_none (read m (place.Local n)) [] (held.empty n out)),
        ap (λ l. record { states = (vars_of c m s).states; locals = l }) (sym (seen_new m s i.name.name n v (subst (λ k. n < k) (sym held.locals) d.1.0) out)),
        held_new c m s held i.name.name n (Some v) d.1.0 d.1.1,
      ))

  pub bound_puts : (i : Option IntoTree) (to : Option Slotted) (later : Scope) (v : ValueTree) → TakesInto ns c s i to later
      → Puts c later (Some (text.bound i v (vars_of c m s))) (class.bound ns v m to)
  bound_puts None None later v d = (refl, ap (vars_of c m) (sym d), subst (Held c m) (sym d) held)
  bound_puts None (Some to) later v d = absurd d
  bound_puts (Some i) None later v d = absurd d
  bound_puts (Some i) (Some to) later v d = declare_puts i to later v d
