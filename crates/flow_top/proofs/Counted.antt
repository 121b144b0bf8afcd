-- Lines that were counted.
use Rattle.std.proofs.Common.{◌≡◌, ℕ, ◌+◌, Bool, true, false, List, [], ◌∷◌, refl, ap, ap₂, ◌∙◌, subst, arith, Ok, Err, Some, None, Result}
use Rattle.std.specs.Prelude.{count_by}
use mathlib.Core.Bool.{cond}
use Rattle.std.proofs.lemmas.List.Sums.{sum_by-cons}
use Rattle.std.specs.Result.{result_err}
use Rattle.flow_base.specs.declared.fault.OutFault.{OutFault}
use Rattle.flow_trace.specs.declared.line.Line.{Line}
use Rattle.flow_trace.specs.Groups.{is_event}
use Rattle.flow_world.specs.Around.{Puts, no_line, more_lines}
use Rattle.flow_world.specs.FaultedLines.{Telling, tells, whole}
use Rattle.flow_world.proofs.Telling.{stays}
use Rattle.flow_top.specs.declared.counting.Counts.{Counts}
use Rattle.flow_top.specs.Summary.{is_start, is_throw, is_print, counts_of, one_if, counted, CountsLine}

abbrev pub none : Counts
none = record { events = 0; starts = 0; throws = 0; prints = 0 }

abbrev counts : (events starts throws prints : ℕ) → Counts
counts events starts throws prints = record { events = events; starts = starts; throws = throws; prints = prints }

-- one line after another
abbrev counted_all : List Line → Counts → Counts
counted_all [] c = c
counted_all (l ∷ ls) c = counted_all ls (counted l c)

-- what is counted of one line and more
abbrev bit : (Line → Bool) → Line → ℕ
bit p l = cond (p l) 1 0

is_bit : (b : Bool) → one_if b ≡ cond b 1 0
is_bit true = refl
is_bit false = refl

abbrev more : (p : Line → Bool) → List Line → ℕ → ℕ
more p ls n = n + count_by p ls

one_more : (p : Line → Bool) (l : Line) (ls : List Line) (n : ℕ) → more p ls (n + one_if (p l)) ≡ more p (l ∷ ls) n
one_more p l ls n = omega (arith, is_bit (p l), sum_by-cons (bit p) l ls)

all_counted : (ls : List Line) (c : Counts)
    → counted_all ls c ≡ counts (more is_event ls c.events) (more is_start ls c.starts) (more is_throw ls c.throws) (more is_print ls c.prints)
all_counted [] c = by_none (nothing_more is_event c.events) (nothing_more is_start c.starts) (nothing_more is_throw c.throws) (nothing_more is_print c.prints)
  where
    nothing_more : (p : Line → Bool) (n : ℕ) → n ≡ more p [] n
    nothing_more p n = omega arith

    by_none : {e s t p : ℕ} → c.events ≡ e → c.starts ≡ s → c.throws ≡ t → c.prints ≡ p → c ≡ counts e s t p
    by_none e s t p = ap₂ (λ (f : ℕ → ℕ → Counts) (r : ℕ × ℕ). f r.0 r.1) (ap₂ counts e s) (ap₂ (λ x y. (x, y)) t p)
all_counted (l ∷ ls) c =
    all_counted ls (counted l c)
    ∙ ap₂ (λ (f : ℕ → ℕ → Counts) (r : ℕ × ℕ). f r.0 r.1) (ap₂ counts (one_more is_event l ls c.events) (one_more is_start l ls c.starts))
    (ap₂ (λ x y. (x, y)) (one_more is_throw l ls c.throws) (one_more is_print l ls c.prints))

were_put : (a b : Counts) (lines : List Line) → Puts (tells CountsLine) (whole a) lines (whole b) → b ≡ counted_all lines a
were_put a _ [] no_line = refl
were_put a b (l ∷ ls) (more_lines {b = m} put rest) = by_answer put.0 put.1 put.2 (were_put m.out b ls)
  where
    by_answer : (answer : Result (Unit {0}) OutFault) → CountsLine a l answer m.out → m.fault ≡ result_err answer
        → (Puts (tells CountsLine) (whole m.out) ls (whole b) → b ≡ counted_all ls m.out) → b ≡ counted_all (l ∷ ls) a
    by_answer (Ok done) is e later =
        let none_failed : m ≡ whole m.out = ap (λ f. record { out = m.out; fault = f }) e in
        later (subst (λ z. Puts (tells CountsLine) z ls (whole b)) none_failed rest) ∙ ap (counted_all ls) is
    by_answer (Err fault) is e later =
        let same : whole b ≡ m = stays CountsLine m (whole b) fault ls e rest in
        let some : None ≡ Some fault = ap (λ (t : Telling Counts). t.fault) same ∙ e in
        absurd (cc)

from_none : (n : ℕ) → 0 + n ≡ n
from_none n = omega arith

-- all lines that were put from none on
pub put_counts : (b : Counts) (lines : List Line) → Puts (tells CountsLine) (whole none) lines (whole b) → b ≡ counts_of lines
put_counts b lines t =
    were_put none b lines t ∙ all_counted lines none
    ∙ ap₂ (λ (f : ℕ → ℕ → Counts) (r : ℕ × ℕ). f r.0 r.1) (ap₂ counts (from_none (count_by is_event lines)) (from_none (count_by is_start lines)))
    (ap₂ (λ x y. (x, y)) (from_none (count_by is_throw lines)) (from_none (count_by is_print lines)))
