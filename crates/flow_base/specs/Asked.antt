-- The names that were asked for.
use Rattle.std.specs.Prelude.{◌≡◌, ℕ, List, [], ◌∷◌, ◌++◌, ◌⊎◌, Result, Ok, Err}
use Rattle.flow_base.specs.declared.fault.OutFault.{OutFault}
use Rattle.flow_base.specs.declared.fault.OutFault.TheVariants.{Failed, OutOfMemory}

-- the name is added at the end of the names asked for, unless memory was wanting
abbrev pub AsksFor : {T : Type 0} → List (List ℕ) → List (List ℕ) → List ℕ → Result T OutFault → Type 0
AsksFor old new name (Ok file) = new ≡ old ++ name ∷ []
AsksFor old new name (Err Failed) = new ≡ old ++ name ∷ []
AsksFor old new name (Err OutOfMemory) = new ≡ old

-- the same, but where memory was wanting, the name may have been added before or not
abbrev pub AsksOnce : {T : Type 0} → List (List ℕ) → List (List ℕ) → List ℕ → Result T OutFault → Type 0
AsksOnce old new name (Ok file) = new ≡ old ++ name ∷ []
AsksOnce old new name (Err Failed) = new ≡ old ++ name ∷ []
AsksOnce old new name (Err OutOfMemory) = (new ≡ old) ⊎ (new ≡ old ++ name ∷ [])
