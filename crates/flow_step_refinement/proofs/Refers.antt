-- What an actor evaluates refers to what is there.
use Rattle.std.proofs.Common.{◌≡◌, ℕ, Bool, true, false, List, [], ◌∷◌, refl, ap, ◌∙◌, subst}
use Rattle.std.specs.declared.option.Option.{Option}
use Rattle.std.specs.declared.option.Option.TheVariants.{None, Some}
use Rattle.flow_value.specs.declared.value.Kind.{Kind}
use Rattle.flow_value.specs.declared.value.Kind.TheVariants as kind
use Rattle.flow_value.specs.Values.{ValueTree, refs_of}
use Rattle.flow_value.proofs.References.{refs_map, listed_both, refs_listed, listed_refs}
use Rattle.flow_eval.specs.Eval.{Res, Done}
use Rattle.flow_class.specs.declared.class.Slotted.{Slotted}
use Rattle.flow_class.specs.Places.{place_named}
use Rattle.flow_heap_refinement.specs.Evaluation.{Rule, GivesFutures, RefNamed, Named, AllNamed, MaybeNamed, ResNamed, AllResNamed, LookNamed}
use Rattle.flow_heap_refinement.proofs.Evaluation.Names.{eval_names, all_names}
use Rattle.flow_numbered.specs.Numbered.{thing}
use Rattle.flow_meaning.specs.Cells.{Cell, Single, Stream, Ref}
use Rattle.flow_meaning.specs.Evaluating.{bind, setting}
use Rattle.flow_meaning.specs.Process.{Proc}
use Rattle.flow_meaning.specs.References.{refs_in}
use Rattle.flow_meaning.specs.Step.{view}
use Rattle.flow_meaning.specs.Class.{class_names}
use Rattle.flow_meaning.specs.Frame.{Frame, read, look}
use Rattle.flow_heap_refinement.specs.Losing.{RightCell}
use Rattle.flow_heap_refinement.specs.Holds.{There, AllThere}
use Rattle.flow_step_refinement.specs.Referring as law
use Rattle.flow_step_refinement.specs.Referring.{HoldsThere}

-- whether a reference of a kind leads to a cell of that kind
abbrev right : Kind → Option Cell → Bool
right kind.Promise (Some (Single o ws)) = true
right kind.Future (Some (Single o ws)) = true
right kind.PromiseStream (Some (Stream q d w)) = true
right kind.FutureStream (Some (Stream q d w)) = true
right _ _ = false

right_is : (kd : Kind) (c : Cell) → RightCell kd c → right kd (Some c) ≡ true
right_is kind.Promise (Single o ws) h = refl
right_is kind.Future (Single o ws) h = refl
right_is kind.PromiseStream (Stream q d w) h = refl
right_is kind.FutureStream (Stream q d w) h = refl
right_is kind.Promise (Stream q d w) h = absurd h
right_is kind.Future (Stream q d w) h = absurd h
right_is kind.PromiseStream (Single o ws) h = absurd h
right_is kind.FutureStream (Single o ws) h = absurd h

is_right : (kd : Kind) (o : Option Cell) → right kd o ≡ true → (c : Cell) × ((o ≡ Some c) × RightCell kd c)
is_right kind.Promise (Some (Single o ws)) h = (Single o ws, (refl, tt))
is_right kind.Future (Some (Single o ws)) h = (Single o ws, (refl, tt))
is_right kind.PromiseStream (Some (Stream q d w)) h = (Stream q d w, (refl, tt))
is_right kind.FutureStream (Some (Stream q d w)) h = (Stream q d w, (refl, tt))
is_right kind.Promise (Some (Stream q d w)) h = absurd (cc (h))
is_right kind.Future (Some (Stream q d w)) h = absurd (cc (h))
is_right kind.PromiseStream (Some (Single o ws)) h = absurd (cc (h))
is_right kind.FutureStream (Some (Single o ws)) h = absurd (cc (h))
is_right kind.Promise None h = absurd (cc (h))
is_right kind.Future None h = absurd (cc (h))
is_right kind.PromiseStream None h = absurd (cc (h))
is_right kind.FutureStream None h = absurd (cc (h))

future_right : (o : Option Cell) → right kind.Promise o ≡ true → right kind.Future o ≡ true
future_right None h = absurd (cc (h))
future_right (Some (Single o ws)) h = refl
future_right (Some (Stream q d w)) h = absurd (cc (h))

stream_right : (o : Option Cell) → right kind.PromiseStream o ≡ true → right kind.FutureStream o ≡ true
stream_right None h = absurd (cc (h))
stream_right (Some (Single o ws)) h = absurd (cc (h))
stream_right (Some (Stream q d w)) h = refl

module _ (p : Proc Frame) where
  abbrev rule : Rule
  rule kd k = right kd (thing p.core.cells k)

  futures : GivesFutures rule
  futures = record { single = λ k. future_right (thing p.core.cells k); stream = λ k. stream_right (thing p.core.cells k) }

  there_named : (q : Ref) → There p q → RefNamed rule q
  there_named q t = ap (right q.0) t.at ∙ right_is q.0 t.cell t.right

  named_there : (q : Ref) → RefNamed rule q → There p q
  named_there q h = let a = is_right q.0 (thing p.core.cells q.1) h in record { cell = a.0; at = a.1.0; right = a.1.1 }

  names : (v : ValueTree) → AllThere p (refs_of v) → Named rule v
  names v h = refs_map (There p) (RefNamed rule) there_named v (listed_refs (There p) v h)

  refers : (v : ValueTree) → Named rule v → AllThere p (refs_of v)
  refers v h = refs_listed (There p) v (refs_map (RefNamed rule) (There p) named_there v h)

  all_refer : (vs : List ValueTree) → AllNamed rule vs → AllThere p (refs_in vs)
  all_refer [] h = tt
  all_refer (v ∷ vs) h = listed_both (There p) (refs_of v) (refs_in vs) (refers v h.0) (all_refer vs h.1)

  maybe : (o : Option ValueTree) → ((v : ValueTree) → o ≡ Some v → AllThere p (refs_of v)) → MaybeNamed rule o
  maybe None h = tt
  maybe (Some v) h = names v (h v refl)

  look_names : (f : Frame) → HoldsThere p f → LookNamed rule (look f.mem)
  look_names f h x = by_place (place_named x)
    where
      by_place : (o : Option Slotted) → MaybeNamed rule (bind o (read f.mem))
      by_place None = tt
      by_place (Some q) = maybe (read f.mem q) (h q)

  by_value : (c : Res ValueTree) → ResNamed rule c → (v : ValueTree) (left : ℕ) → c ≡ Done v left → AllThere p (refs_of v)
  by_value c h v left e = refers v (subst (ResNamed rule) e h)

  by_values : (c : Res (List ValueTree)) → AllResNamed rule c → (vs : List ValueTree) (left : ℕ) → c ≡ Done vs left → AllThere p (refs_in vs)
  by_values c h vs left e = all_refer vs (subst (AllResNamed rule) e h)

pub value_there : law.ValueThere
value_there r p f w i t holds set =
    by_value p _ (eval_names (rule p) (setting (class_names r) (view w i p.core)) (look f.mem) t p.core.left (futures p) (λ k v e. names p v (set k v e)) (look_names p f holds))

pub arguments_there : law.ArgumentsThere
arguments_there r p f w i es holds set =
    by_values p _ (all_names (rule p) (setting (class_names r) (view w i p.core)) (look f.mem) es p.core.left (futures p) (λ k v e. names p v (set k v e)) (look_names p f holds))
