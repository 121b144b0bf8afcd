-- A stream that a test has found without an end has none.
use Rattle.std.proofs.Common.{◌≡◌, Bool, false, refl, sym, ◌∙◌}
use Rattle.std.specs.Prelude.{is_some}
use Rattle.std.specs.Option.{ForSome}
use Rattle.std.specs.declared.option.Option.{Option}
use Rattle.std.specs.declared.option.Option.TheVariants.{None, Some}

none_is : {A : Type 0} (o : Option A) → is_some o ≡ false → o ≡ None
none_is None e = refl
none_is (Some a) e = cc

pub endless : {S E : Type 0} (f : S → Option E) (o : Option S) (ended : Bool) → ForSome o (λ s. ended ≡ is_some (f s)) → ended ≡ false → ForSome o (λ s. f s ≡ None)
endless f o ended h e = λ s is. none_is (f s) (sym (h s is) ∙ e)
