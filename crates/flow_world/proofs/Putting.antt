-- Lines that are put one after another.
use Rattle.std.proofs.Common.{◌≡◌, List, [], ◌∷◌, ◌++◌, sym, subst}
use Rattle.std.specs.Prelude.{Result, Ok, Err, IfErr, OnErr}
use Rattle.flow_base.specs.declared.fault.OutFault.{OutFault}
use Rattle.flow_trace.specs.declared.line.Line.{Line}
use Rattle.flow_world.specs.Around.{Puts, no_line, more_lines, PutsPart, no_more, put_then, put_fails}
use Rattle.flow_world.specs.BreakingEvents.{PutFails}
use Rattle.flow_machine.specs.declared.host.RunFault.{RunFault}

-- what holds where an answer is a fault
pub err_is : {T E : Type 0} (P : E → Type 0) (r : Result T E) (z : E) → r ≡ Err z → P z → IfErr r P
err_is P r z is p = subst (λ x. IfErr x P) (sym is) p

pub on_err : {T E : Type 0} (P : Type 0) (r : Result T E) → P → OnErr r P
on_err P (Ok x) p = tt
on_err P (Err f) p = p

pub on_err_map : {T E P Q : Type 0} (r : Result T E) → (P → Q) → OnErr r P → OnErr r Q
on_err_map (Ok x) f p = tt
on_err_map (Err e) f p = f p

module _ {A : Type 0} (puts : A → Line → Result (Unit {0}) OutFault → A → Type 0) where
  pub puts_one : (a b : A) (l : Line) → puts a l (Ok tt) b → Puts puts a (l ∷ []) b
  puts_one a b l t = more_lines t no_line

  pub puts_more : (a b c : A) (ls ms : List Line) → Puts puts a ls b → Puts puts b ms c → Puts puts a (ls ++ ms) c
  puts_more a b c [] ms no_line rest = rest
  puts_more a b c (l ∷ ls) ms (more_lines {b = m} t more) rest = more_lines t (puts_more m b c ls ms more rest)

  -- a first part of lines is one of more lines; all of them are; and lines come before it
  pub part_more : (a b : A) (ls ms : List Line) → PutsPart puts a ls b → PutsPart puts a (ls ++ ms) b
  part_more a _ ls ms no_more = no_more
  part_more a b (l ∷ ls) ms (put_then {b = c} t rest) = put_then t (part_more c b ls ms rest)
  part_more a b (l ∷ ls) ms (put_fails t) = put_fails t

  pub part_all : (a b : A) (ls : List Line) → Puts puts a ls b → PutsPart puts a ls b
  part_all a b [] no_line = no_more
  part_all a b (l ∷ ls) (more_lines {b = m} t more) = put_then t (part_all m b ls more)

  pub puts_part : (a b c : A) (ls ms : List Line) → Puts puts a ls b → PutsPart puts b ms c → PutsPart puts a (ls ++ ms) c
  puts_part a b c [] ms no_line rest = rest
  puts_part a b c (l ∷ ls) ms (more_lines {b = m} t more) rest = put_then t (puts_part m b c ls ms more rest)

  -- the first of them that wasn't put
  pub first_fails : {T : Type 0} (r : Result T RunFault) (a b : A) (l : Line) (ls : List Line) → IfErr r (λ f. PutFails puts l a f b) → OnErr r (PutsPart puts a (l ∷ ls) b)
  first_fails (Ok x) a b l ls t = tt
  first_fails (Err f) a b l ls t = put_fails t.put

  pub none_put : {T E : Type 0} (r : Result T E) (a : A) (ls : List Line) → OnErr r (PutsPart puts a ls a)
  none_put (Ok x) a ls = tt
  none_put (Err f) a ls = no_more
