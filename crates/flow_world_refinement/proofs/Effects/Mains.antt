-- The `main` of valid classes may start in a process that keeps what it has to.
use Rattle.std.proofs.Common.{◌≡◌, ℕ, suc, ◌+◌, nat_eq, Bool, true, false, List, [], ◌∷◌, length, map, refl, sym, ap, ◌∙◌, if◌then◌else◌, arith}
use Rattle.std.proofs.lemmas.Bool.Decides.{nat_tests}
use Rattle.std.specs.Prelude.{pos, slice_get, codes, position, unwrap_or, ltb, cond}
use Rattle.std.specs.List.{position_or_len}
use Rattle.std.specs.Str.{bytes_eq}
use Rattle.std.specs.declared.option.Option.{Option}
use Rattle.std.specs.declared.option.Option.TheVariants.{None, Some}
use Rattle.flow_value.specs.Values.{ValueTree, IntValue}
use Rattle.flow_class.specs.Classes.{ClassTree, RawTree}
use Rattle.flow_code.specs.declared.program.Code.{Code}
use Rattle.flow_code.specs.Resolved.Named.{first_from}
use Rattle.flow_meaning.specs.Process.{Proc}
use Rattle.flow_meaning.specs.Deliver.{boot_with}
use Rattle.flow_meaning.specs.Class.{classes, fresh_from, begun, class_name}
use Rattle.flow_meaning.specs.Frame.{Frame}
use Rattle.flow_meaning.proofs.InOrder.{no_thing}
use Rattle.flow_progress.specs.Keeping.{IsFine}
use Rattle.flow_progress.specs.Rules.{ClassRules}
use Rattle.flow_progress.specs.Written.{heads}
use Rattle.flow_progress.proofs.Boots.{boots_fit}
use Rattle.flow_progress.proofs.Functions.{functions_kept}
use Rattle.flow_progress.proofs.KeptClasses.{class_rules}
use Rattle.flow_step_refinement.specs.Executing.{coded_by}
use Rattle.flow_step_refinement.specs.Effects.Starting.{MayStart}
use Rattle.flow_step_refinement.proofs.Effects.Fresh.{actor_free}
use Rattle.flow_burst_refinement.specs.Enabled.Tasking.{IsProgram}
use Rattle.flow_burst_refinement.specs.Invariants.Invariant.{ProcessInvariant}

-- the place of the first of a name
named_place : (x : List ℕ) (k : ℕ) (ys : List (List ℕ))
    → first_from k ys x ≡ cond (ltb (position_or_len (bytes_eq x) ys) (length ys)) (Some (k + position_or_len (bytes_eq x) ys)) None
named_place x k [] = refl
named_place x k (y ∷ ys) = grind (arith, named_place x (suc k) ys)

first_named : (x : List ℕ) (ys : List (List ℕ)) → first_from 0 ys x ≡ position (bytes_eq x) ys
first_named x ys =
    let none : 0 + position_or_len (bytes_eq x) ys ≡ position_or_len (bytes_eq x) ys = omega arith in
    named_place x 0 ys ∙ ap (λ n. cond (ltb (position_or_len (bytes_eq x) ys) (length ys)) (Some n) None) none

-- nothing stands behind the last
behind : (cs : List ClassTree) → slice_get cs (length (map class_name cs)) ≡ None
behind [] = refl
behind (c ∷ cs) = behind cs

place_is : (cs : List ClassTree) (o : Option ℕ) (c : ClassTree) → slice_get cs (unwrap_or o (length (map class_name cs))) ≡ Some c
    → o ≡ Some (unwrap_or o (length (map class_name cs)))
place_is cs (Some k) c at = refl
place_is cs None c at = absurd (no_thing (sym (behind cs) ∙ at))

-- the class of a frame that starts takes its arguments
record Takes (o : Option ClassTree) (vs : List ValueTree) : Type 0 where
  class : ClassTree
  is : o ≡ Some class
  taken : length vs ≡ class.params

fresh_takes : (o : Option ClassTree) (vs : List ValueTree) (f : Frame) → fresh_from o vs ≡ Some f → Takes o vs
fresh_takes None vs f e = absurd (no_thing e)
fresh_takes (Some c) vs f e = by_test (nat_eq (length vs) c.params) refl e
  where
    by_test : (b : Bool) → nat_eq (length vs) c.params ≡ b → (if b then Some (begun c vs) else None) ≡ Some f → Takes (Some c) vs
    by_test true same e = record { class = c; is = refl; taken = grind (arith, nat_tests, same) }
    by_test false same e = absurd (no_thing e)

module _ (r : RawTree) (code : Code) (program : IsProgram r code) where
  rules : ClassRules r (heads r)
  rules = class_rules r program.whole.valid.valid program.whole.valid.written (functions_kept r program.whole.valid.valid program.whole.valid.functions)

  module _ (p : Proc Frame) (kept : ProcessInvariant r p) (go : p.core.halted ≡ None) (me : ℕ) where
    abbrev args : List ValueTree
    args = IntValue (pos me) ∷ []

    takes : Takes (slice_get r.classes (classes r).main) args
    takes = by_fresh ((classes r).fresh (classes r).main args) refl (boots_fit r program.whole.valid.valid (heads r) rules kept.types me p kept.fits kept.orderly.numbered go)
      where
        by_fresh : (o : Option Frame) → (classes r).fresh (classes r).main args ≡ o → IsFine r kept.types (Some (boot_with (classes r) o p, None)) → Takes (slice_get r.classes (classes r).main) args
        by_fresh None is fine = absurd fine
        by_fresh (Some f) is fine = fresh_takes (slice_get r.classes (classes r).main) args f is

    pub may_start : MayStart r p code (classes r).main args
    may_start =
        let free = actor_free p.core kept.tied.agree kept.orderly in record {
          coded = coded_by program.coded;
          cells = kept.fits.numbered;
          entries = kept.orderly.numbered;
          free = record { waits = free.waits; keeps = free.keeps };
          there = tt;
          tree = takes.class;
          at = takes.is;
          taken = takes.taken;
          fits = (rules.classes (classes r).main takes.class takes.is).params;
        }

    -- the code has the same `main`
    pub main_is : code.main ≡ Some (classes r).main
    main_is =
        program.coded.coded.is_main ∙ first_named (codes "main") (map class_name r.classes)
        ∙ place_is r.classes (position (bytes_eq (codes "main")) (map class_name r.classes)) takes.class takes.is
