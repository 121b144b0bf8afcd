-- Runs that are made one after another: what comes of some, and then of others.
use Rattle.std.proofs.Common.{◌≡◌, ℕ, Bool, true, false, true≢false, if◌then◌else◌, List, [], ◌∷◌, ◌++◌, refl, sym, ap, ◌∙◌, append_assoc, append-nil, Option, None, Some, Result, Ok, subst}
use Rattle.std.specs.Prelude.{◌||◌}
use Rattle.std.specs.List.{list_any}
use Rattle.std.specs.Io.KnownBytes.{Appends}
use Rattle.std.proofs.lemmas.List.Concat.{flat_map-append}
use Rattle.flow_base.specs.Bytes.{AppendsPart}
use Rattle.flow_base.specs.declared.fault.OutFault.{OutFault}
use Rattle.flow_sweep.specs.declared.sweep.Went.{Went}
use Rattle.flow_sweep.specs.declared.sweep.Went.TheVariants.{On}
use Rattle.flow_sweep.specs.Sweeps.{Tally, Row, is_told, told_as, row_text, rows_text, tallied, tally_from, Goes, goes_on, finds, fails}

pub appends_nothing : (a : Option (List ℕ)) → Appends a a []
appends_nothing None = tt
appends_nothing (Some xs) = sym (append-nil xs)

pub appends_two : (a b c : Option (List ℕ)) (x y : List ℕ) → Appends a b x → Appends b c y → Appends a c (x ++ y)
appends_two None b c x y p q = tt
appends_two (Some xs) None c x y p q = elim p [ ]
appends_two (Some xs) (Some ys) None x y p q = elim q [ ]
appends_two (Some xs) (Some ys) (Some zs) x y p q = q ∙ ap (λ l. l ++ y) p ∙ append_assoc xs x y

pub appends_part : (a b c : Option (List ℕ)) (x y : List ℕ) → Appends a b x → AppendsPart b c y → AppendsPart a c (x ++ y)
appends_part a b c x y p q =
    (x ++ q.0, q.1, ap (λ l. x ++ l) q.2 ∙ sym (append_assoc x q.0 q.1), appends_two a b c x q.0 p q.3)

pub tally_two : (t : Tally) (a b : List Row) → tally_from t (a ++ b) ≡ tally_from (tally_from t a) b
tally_two t [] b = refl
tally_two t (r ∷ a) b = tally_two (tallied r.ran t) a b

either_quiet : (t u v : Bool) → (u ≡ false → v ≡ false) → (t || u) ≡ false → (t || v) ≡ false
either_quiet true u v f p = p
either_quiet false u v f p = f p

pub quiet_two : (a b : List Row) → list_any is_told a ≡ false → list_any is_told b ≡ false → list_any is_told (a ++ b) ≡ false
quiet_two [] b p q = q
quiet_two (r ∷ a) b p q = either_quiet (is_told r) (list_any is_told a) (list_any is_told (a ++ b)) (λ h. quiet_two a b h q) p

none_told : (t : Bool) (x rest : List ℕ) (u : Bool) → (u ≡ false → rest ≡ []) → (t || u) ≡ false → (if t then x else []) ++ rest ≡ []
none_told true x rest u f p = absurd (true≢false p)
none_told false x rest u f p = f p

-- runs of which none is told write nothing
pub quiet_text : (first : Bool) (rows : List Row) → list_any is_told rows ≡ false → rows_text first rows ≡ []
quiet_text first [] p = refl
quiet_text first (r ∷ rows) p =
    none_told (is_told r) (told_as first r.trial.seed r.trial.loss r.trial.world r.ran) (rows_text first rows) (list_any is_told rows)
    (quiet_text first rows) p

module _ (All Part All' Part' Whole Begun : List Row → Type 0) (first : Bool) where
  -- after some runs by which nothing ended, what comes of others
  pub then_goes : (t0 t1 t2 : Tally) (w0 w1 w2 : Option (List ℕ)) (r : Result Went OutFault) → Goes All Part first t0 t1 w0 w1 (Ok On)
      → Goes All' Part' first t1 t2 w1 w2 r → ((a b : List Row) → All a → All' b → Whole (a ++ b))
      → ((a b : List Row) → All a → Part' b → Begun (a ++ b)) → Goes Whole Begun first t0 t2 w0 w2 r
  then_goes t0 t1 t2 w0 w1 w2 _ (goes_on rows all quiet tally written) (goes_on more all' quiet' tally' written') f g =
      goes_on (rows ++ more) (f rows more all all') (λ h. quiet_two rows more (quiet h) (quiet' h))
      (tally' ∙ ap (λ t. tally_from t more) tally ∙ sym (tally_two t0 rows more))
      (subst (Appends w0 w2) (sym (flat_map-append (row_text first) rows more))
      (appends_two w0 w1 w2 (rows_text first rows) (rows_text first more) written written'))
  then_goes t0 t1 t2 w0 w1 w2 _ (goes_on rows all quiet tally written) (finds more found part' is_first quiet' told tally' written') f g =
      let one : List Row = found ∷ [] in
      finds (rows ++ more) found (subst Begun (sym (append_assoc rows more one)) (g rows (more ++ one) all part')) is_first
      (quiet_two rows more (quiet is_first) quiet') told
      (tally' ∙ ap (λ t. tally_from t (more ++ one)) tally ∙ sym (tally_two t0 rows (more ++ one)) ∙ ap (tally_from t0) (sym (append_assoc rows more one)))
      (appends_two w0 w1 w2 [] (rows_text true one) (subst (Appends w0 w1) (quiet_text first rows (quiet is_first)) written) written')
  then_goes t0 t1 t2 w0 w1 w2 _ (goes_on rows all quiet tally written) (fails more fault part' written') f g =
      fails (rows ++ more) fault (g rows more all part')
      (subst (AppendsPart w0 w2) (sym (flat_map-append (row_text first) rows more))
      (appends_part w0 w1 w2 (rows_text first rows) (rows_text first more) written written'))

module _ (All Part Whole Begun : List Row → Type 0) (first : Bool) where
  -- the same, said of other lists of runs
  pub said_so : (t0 t1 : Tally) (w0 w1 : Option (List ℕ)) (r : Result Went OutFault) → Goes All Part first t0 t1 w0 w1 r
      → ((a : List Row) → All a → Whole a) → ((a : List Row) → Part a → Begun a) → Goes Whole Begun first t0 t1 w0 w1 r
  said_so t0 t1 w0 w1 _ (goes_on rows all quiet tally written) f g = goes_on rows (f rows all) quiet tally written
  said_so t0 t1 w0 w1 _ (finds rows found part is_first quiet told tally written) f g =
      finds rows found (g (rows ++ found ∷ []) part) is_first quiet told tally written
  said_so t0 t1 w0 w1 _ (fails rows fault part written) f g = fails rows fault (g rows part) written

-- before any run
pub goes_none : (All Part : List Row → Type 0) (first : Bool) (t : Tally) (w : Option (List ℕ)) → All [] → Goes All Part first t t w w (Ok On)
goes_none All Part first t w all = goes_on [] all (λ h. refl) refl (appends_nothing w)
