-- Lines that are told by what goes on to its end though a put fails.
use Rattle.std.proofs.Common.{◌≡◌, List, [], ◌∷◌, refl, sym, ap₂, subst, ◌∙◌, arith}
use Rattle.std.specs.Prelude.{Result, Ok, Err, IfOk, IfErr, OnOk, IsErrOf}
use Rattle.std.specs.declared.option.Option.{Option}
use Rattle.std.specs.declared.option.Option.TheVariants.{None, Some}
use Rattle.flow_base.specs.Faults.{Rose}
use Rattle.flow_base.specs.declared.fault.OutFault.{OutFault}
use Rattle.flow_base.specs.declared.fault.OutFault.TheVariants as put
use Rattle.flow_trace.specs.declared.line.Line.{Line}
use Rattle.flow_machine.specs.declared.host.RunFault.{RunFault}
use Rattle.flow_machine.specs.declared.host.RunFault.TheVariants.{Failed}
use Rattle.flow_machine.specs.Cause.{RunCause, fault_of}
use Rattle.flow_world.specs.Around.{Puts, no_line, more_lines}
use Rattle.flow_world.specs.BreakingEvents.{PutFails}
use Rattle.flow_world.specs.FaultedLines.{Telling, TellsAfter, tells, whole, failed, unless_failed}

module _ {A : Type 0} (puts : A → Line → Result (Unit {0}) OutFault → A → Type 0) where
  -- a line that was put, and one that failed
  pub whole_line : (a b : A) (l : Line) → puts a l (Ok tt) b → tells puts (whole a) l (Ok tt) (whole b)
  whole_line a b l t = (Ok tt, t, refl)

  pub failed_line : (a b : A) (l : Line) → puts a l (Err put.Failed) b → tells puts (whole a) l (Ok tt) (failed b)
  failed_line a b l t = (Err put.Failed, t, refl)

  -- a put that failed, by its fault
  pub failed_put : {T : Type 0} (a b : A) (l : Line) (r : Result T RunFault) → IsErrOf r Failed → IfErr r (λ f. PutFails puts l a f b) → puts a l (Err put.Failed) b
  failed_put a b l r e t = of_fault (subst (λ z. IfErr z (λ f. PutFails puts l a f b)) e t)
    where
      by_fault : (fault : OutFault) → Failed ≡ fault_of fault → puts a l (Err fault) b → puts a l (Err put.Failed) b
      by_fault put.Failed is t = t
      by_fault put.OutOfMemory is t = absurd (cc (is))

      of_fault : PutFails puts l a Failed b → puts a l (Err put.Failed) b
      of_fault x = by_fault x.fault x.is x.put

  -- no line is put after that
  pub no_more : (b : A) (ls : List Line) → Puts (tells puts) (failed b) ls (failed b)
  no_more b [] = no_line
  no_more b (l ∷ ls) = more_lines (refl, refl) (no_more b ls)

  pub stays : (a b : Telling A) (fault : OutFault) (ls : List Line) → a.fault ≡ Some fault → Puts (tells puts) a ls b → b ≡ a
  stays a _ fault [] e no_line = refl
  stays a b fault (l ∷ ls) e (more_lines {b = m} t rest) =
      let quiet : (m.out ≡ a.out) × (m.fault ≡ Some fault) = subst (λ z. TellsAfter puts z a.out l m) e t in
      let same : m ≡ a = ap₂ (λ o f. record { out = o; fault = f }) quiet.0 (quiet.1 ∙ sym e) in
      stays m b fault ls quiet.1 rest ∙ same

module _ {T : Type 0} where
  -- where nothing was counted nothing failed
  pub nothing_failed : (r : Result T RunFault) → RunCause 0 0 r → IsErrOf r Failed → ⊥
  nothing_failed r c e = let rose : Rose 0 0 = c.failed e in omega (arith, rose)

  -- `Failed` is answered in the end where a put did
  pub put_failed : (r : Result T RunFault) (fault : Option OutFault) → RunCause 0 0 r → IsErrOf (unless_failed r fault) Failed → fault ≡ Some put.Failed
  put_failed (Ok x) None c e = absurd (cc)
  put_failed (Ok x) (Some put.Failed) c e = refl
  put_failed (Ok x) (Some put.OutOfMemory) c e = absurd (cc)
  put_failed (Err f) fault c e = absurd (nothing_failed (Err f) c e)

  -- what holds where an answer is good
  pub if_ok : (P : Type 0) (r : Result T RunFault) → OnOk r P → IfOk r (λ x. P)
  if_ok P (Ok x) p = p
  if_ok P (Err f) p = tt

  pub on_ok : (P : Type 0) (r : Result T RunFault) → IfOk r (λ x. P) → OnOk r P
  on_ok P (Ok x) p = p
  on_ok P (Err f) p = tt

-- what was told, by what is answered in the end
module _ {T A : Type 0} (Told : T → Telling A → Type 0) where
  whole_by : (b : A) (r : Result T RunFault) (fault : Option OutFault) → IfOk r (λ x. Told x (record { out = b; fault = fault })) → IfOk (unless_failed r fault) (λ x. Told x (whole b))
  whole_by b (Ok x) None t = t
  whole_by b (Ok x) (Some f) t = tt
  whole_by b (Err f) fault t = tt

  part_by : (b : A) (r : Result T RunFault) (fault : Option OutFault) → RunCause 0 0 r → IfOk r (λ x. Told x (record { out = b; fault = fault }))
      → IsErrOf (unless_failed r fault) Failed → (x : T) × Told x (failed b)
  part_by b (Ok x) fault c t e = (x, subst (λ f. Told x (record { out = b; fault = f })) (put_failed (Ok x) fault c e) t)
  part_by b (Err f) fault c t e = absurd (nothing_failed (Err f) c e)

  at : (t : Telling A) (b : A) (r : Result T RunFault) → t.out ≡ b → IfOk r (λ x. Told x t) → IfOk r (λ x. Told x (record { out = b; fault = t.fault }))
  at t b r same h = subst (λ o. IfOk r (λ x. Told x (record { out = o; fault = t.fault }))) same h

  pub told_whole : (t : Telling A) (b : A) (r result : Result T RunFault) → t.out ≡ b → result ≡ unless_failed r t.fault → IfOk r (λ x. Told x t) → IfOk result (λ x. Told x (whole b))
  told_whole t b r result same answer h = subst (λ z. IfOk z (λ x. Told x (whole b))) (sym answer) (whole_by b r t.fault (at t b r same h))

  pub told_part : (t : Telling A) (b : A) (r result : Result T RunFault) → t.out ≡ b → result ≡ unless_failed r t.fault → RunCause 0 0 r → IfOk r (λ x. Told x t)
      → IsErrOf result Failed → (x : T) × Told x (failed b)
  told_part t b r result same answer c h e = part_by b r t.fault c (at t b r same h) (sym answer ∙ e)

  -- and where it is a fault: what went on broke off, or went on to its end though a put failed
  pub told_fails : (Broke : RunFault → Telling A → Type 0) (t : Telling A) (r result : Result T RunFault) → result ≡ unless_failed r t.fault → IfErr r (λ f. Broke f t) → IfOk r (λ x. Told x t)
      → ((f : RunFault) (x : T) (fault : OutFault) → f ≡ fault_of fault → t.fault ≡ Some fault → Told x t → Broke f t) → IfErr result (λ f. Broke f t)
  told_fails Broke t r result same broke told by_put = subst (λ z. IfErr z (λ f. Broke f t)) (sym same) (by_answer r t.fault refl broke told)
    where
      by_answer : (r : Result T RunFault) (fault : Option OutFault) → t.fault ≡ fault → IfErr r (λ f. Broke f t) → IfOk r (λ x. Told x t) → IfErr (unless_failed r fault) (λ f. Broke f t)
      by_answer (Ok x) None e b h = tt
      by_answer (Ok x) (Some fault) e b h = by_put (fault_of fault) x fault refl e h
      by_answer (Err f) fault e b h = b
