-- Where a path leads at which a value can be put, an aim of an actor in memory leads, too.
use Rattle.std.proofs.Common.{◌≡◌, ℕ, List, [], ◌∷◌, refl, sym, ap, ◌∙◌, subst}
use Rattle.std.specs.declared.option.Option.{Option}
use Rattle.std.specs.declared.option.Option.TheVariants.{None, Some}
use Rattle.flow_tree.specs.declared.ty.Ident.{Ident}
use Rattle.flow_tree.specs.Decls.{RecordTree}
use Rattle.flow_value.specs.Values.{ValueTree, IntValue, BoolValue, TextValue, VoidValue, ErrorValue, CompositeValue, RefValue}
use Rattle.flow_eval.specs.Records.{field}
use Rattle.flow_eval.specs.Functions as eval
use Rattle.flow_eval.specs.Functions.{put_in, read_in}
use Rattle.flow_class.specs.declared.class.Slotted.{Slotted}
use Rattle.flow_class.specs.Classes.{RawTree}
use Rattle.flow_code.specs.declared.class.Aim.{Aim}
use Rattle.flow_code.specs.declared.program.Code.{Code}
use Rattle.flow_code.specs.Coding.{fields_of}
use Rattle.flow_trace.specs.declared.line.Line.{Line}
use Rattle.flow_meaning.specs.Evaluating.{bind}
use Rattle.flow_meaning.specs.Process.{Entry, Proc}
use Rattle.flow_meaning.specs.References.{Scan}
use Rattle.flow_meaning.specs.Variables.{filled}
use Rattle.flow_meaning.specs.Frame.{Memory, Frame, read, look, put_at, put_root, assign}
use Rattle.flow_steps.specs.declared.process.Process.{Process}
use Rattle.flow_steps.specs.Points.{place_held}
use Rattle.flow_steps.specs.Stuck.{NoPlace, PartMissing, AimsStuck, no_place, no_part}
use Rattle.flow_operation_refinement.specs.Placing.{RepresentsActor}
use Rattle.flow_step_refinement.specs.Assigning.{AimsAt, CanAssign}
use Rattle.flow_step_refinement.proofs.Effects.Decoded.{path_seen}
use Rattle.flow_machine_progress.proofs.Actors.Here.{has_place}

-- where a path leads to nothing, nothing is put
no_part_put : (v : ValueTree) (o : Option ℕ) → eval.put_at v o None ≡ None
no_part_put (CompositeValue n vs) None = refl
no_part_put (CompositeValue n vs) (Some k) = refl
no_part_put (IntValue z) o = refl
no_part_put (BoolValue b) o = refl
no_part_put (TextValue t) o = refl
no_part_put VoidValue o = refl
no_part_put (ErrorValue n) o = refl
no_part_put (RefValue kd k) o = refl

nothing_put : (rs : List RecordTree) (o : Option ValueTree) (ys : List Ident) (u : ValueTree) → read_in rs o ys ≡ None → put_in rs o ys u ≡ None
nothing_put rs None ys u e = refl
nothing_put rs (Some v) [] u e = absurd (cc (e))
nothing_put rs (Some v) (y ∷ ys) u e =
    ap (eval.put_at v (eval.place_of rs v y.name)) (nothing_put rs (field rs v y.name) ys u e) ∙ no_part_put v (eval.place_of rs v y.name)

not_put : (rs : List RecordTree) (m : Memory) (q : Slotted) (y : Ident) (ys : List Ident) (u : ValueTree) → read_in rs (read m q) (y ∷ ys) ≡ None → put_at rs m q (y ∷ ys) u ≡ None
not_put rs m q y ys u e = ap (put_root m q (filled (read_in rs (read m q) (y ∷ ys) ∷ []))) (nothing_put rs (read m q) (y ∷ ys) u e)

module _ (r : RawTree) (ls : List Line) (x : Scan) (m : Process) (p : Proc Frame) (i : ℕ) (e : Entry) (f : Frame) (st : RepresentsActor r ls x m p i e f) (code : Code)
    (xs : List Ident) (aim : Aim) (v : ValueTree) (to : AimsAt r.records code f xs aim) (can : CanAssign r.records f xs v) where
  part_there : (g : ℕ) (gs : List ℕ) → aim.path.items ≡ g ∷ gs → PartMissing code.fields aim.path.items (place_held i aim.place m.heap) → ⊥
  part_there g gs path none = by_fields to.fields refl to.numbers
    where
      nothing : read_in r.records (look f.mem to.name.name) to.fields ≡ None
      nothing = sym (path_seen r ls m p i e f x code to.name to.fields aim to.place to.field st to.named to.has to.number to.numbers to.numbering) ∙ none

      not_there : (fs : List Ident) → to.fields ≡ fs → read_in r.records (read f.mem to.place) fs ≡ None
      not_there fs is =
          ap (λ ys. read_in r.records (read f.mem to.place) ys) (sym is) ∙ ap (λ o. read_in r.records (bind o (read f.mem)) to.fields) (sym to.named) ∙ nothing

      by_fields : (fs : List Ident) → to.fields ≡ fs → fields_of to.field to.fields ≡ Some aim.path.items → ⊥
      by_fields [] is numbers = let none = ap (fields_of to.field) (sym is) ∙ numbers in cc (none, path)
      by_fields (y ∷ ys) is numbers =
          can
          (ap (λ zs. assign r.records f.mem zs v) to.names
          ∙ ap (λ o. bind o (λ q. put_at r.records f.mem q to.fields v)) to.named
          ∙ ap (λ zs. put_at r.records f.mem to.place zs v) is
          ∙ not_put r.records f.mem to.place y ys v (not_there (y ∷ ys) is))

  pub aims_there : AimsStuck code.fields i aim m.heap → ⊥
  aims_there (no_place none) = has_place r ls x m p i e f st to.place to.has (subst (λ n. NoPlace i n m.heap) to.number none)
  aims_there (no_part g gs path none) = part_there g gs path none
