-- Lines told one after another are their bytes: all of them, or a first part where a put failed.
use Rattle.std.proofs.Common.{◌≡◌, ℕ, List, [], ◌∷◌, ◌++◌, append-nil, refl, sym, ap, ◌∙◌, subst}
use Rattle.std.specs.Prelude.{Result, Ok, Err}
use Rattle.std.specs.declared.option.Option.{Option}
use Rattle.std.specs.declared.option.Option.TheVariants.{None, Some}
use Rattle.std.specs.Io.KnownBytes.{Appends}
use Rattle.std.proofs.KnownBytes.{Appends-nil, Appends-trans}
use Rattle.std.proofs.lemmas.List.{append_assoc}
use Rattle.std.specs.Result.{result_err}
use Rattle.flow_base.specs.Bytes.{AppendsPart}
use Rattle.flow_base.specs.declared.fault.OutFault.{OutFault}
use Rattle.flow_trace.specs.Bytes.{Bytes}
use Rattle.flow_trace.specs.Out.{WritesLine}
use Rattle.flow_trace.specs.declared.line.Line.{Line}
use Rattle.flow_world.specs.Around.{Puts, no_line, more_lines, PutsPart, no_more, put_then, put_fails}
use Rattle.flow_world.specs.FaultedLines.{Telling, tells, whole, failed}
use Rattle.flow_world.proofs.Telling.{stays}
use Rattle.flow_world.specs.Written.{put_bytes, bytes_of}

abbrev Known : Type 0
Known = Option (List ℕ)

part_after : (a b c : Known) (first second : List ℕ) → Appends a b first → AppendsPart b c second → AppendsPart a c (first ++ second)
part_after a b c first second whole part =
    (first ++ part.0, part.1, ap (λ bytes. first ++ bytes) part.2 ∙ sym (append_assoc first part.0 part.1), Appends-trans a b c first part.0 whole part.3)

part_before : (a b : Known) (first second : List ℕ) → AppendsPart a b first → AppendsPart a b (first ++ second)
part_before a b first second part = (part.0, part.1 ++ second, ap (λ bytes. bytes ++ second) part.2 ∙ append_assoc part.0 part.1 second, part.3)

-- what was told, by whether a put failed
abbrev Told : (fault : Option OutFault) → Known → List ℕ → Known → Type 0
Told None a bytes b = Appends a b bytes
Told (Some fault) a bytes b = AppendsPart a b bytes

told_after : (fault : Option OutFault) (a b c : Known) (first second : List ℕ) → Appends a b first → Told fault b second c → Told fault a (first ++ second) c
told_after None a b c first second whole rest = Appends-trans a b c first second whole rest
told_after (Some fault) a b c first second whole rest = part_after a b c first second whole rest

bytes_told : (a : Known) (t : Telling Known) (lines : List Line) → Puts (tells put_bytes) (whole a) lines t → Told t.fault a (bytes_of lines) t.out
bytes_told a _ [] no_line = Appends-nil a
bytes_told a t (line ∷ lines) (more_lines {b = m} put rest) = by_answer put.0 put.1 put.2 (bytes_told m.out t lines)
  where
    by_answer : (answer : Result (Unit {0}) OutFault) → WritesLine a m.out line answer → m.fault ≡ result_err answer
        → (Puts (tells put_bytes) (whole m.out) lines t → Told t.fault m.out (bytes_of lines) t.out) → Told t.fault a (bytes_of (line ∷ lines)) t.out
    by_answer (Ok done) written e later =
        let none_failed : m ≡ whole m.out = ap (λ f. record { out = m.out; fault = f }) e in
        told_after t.fault a m.out t.out (Bytes line) (bytes_of lines) written.whole
        (later (subst (λ z. Puts (tells put_bytes) z lines t) none_failed rest))
    by_answer (Err fault) written e later =
        let same : t ≡ m = stays put_bytes m t fault lines e rest in
        let part = part_before a m.out (Bytes line) (bytes_of lines) written.part in
        subst (λ (z : Telling Known). Told z.fault a (bytes_of (line ∷ lines)) z.out) (sym same)
        (subst (λ f. Told f a (bytes_of (line ∷ lines)) m.out) (sym e) part)

pub bytes_put : (a b : Known) (lines : List Line) → Puts (tells put_bytes) (whole a) lines (whole b) → Appends a b (bytes_of lines)
bytes_put a b lines t = bytes_told a (whole b) lines t

pub part_put : (a b : Known) (lines : List Line) → Puts (tells put_bytes) (whole a) lines (failed b) → AppendsPart a b (bytes_of lines)
part_put a b lines t = bytes_told a (failed b) lines t

-- a first part of lines that are told is all of fewer lines
pub tells_part : {A : Type 0} (puts : A → Line → Result (Unit {0}) OutFault → A → Type 0) (a b : Telling A) (ls : List Line) → PutsPart (tells puts) a ls b
    → (part rest : List Line) × (ls ≡ part ++ rest) × Puts (tells puts) a part b
tells_part puts a _ ls no_more = ([], ls, refl, no_line)
tells_part puts a b (l ∷ ls) (put_then {b = c} t more) = let x = tells_part puts c b ls more in (l ∷ x.0, x.1, ap (λ ks. l ∷ ks) x.2, more_lines t x.3)
tells_part puts a b (l ∷ ls) (put_fails t) = absurd t

bytes_both : (ls ms : List Line) → bytes_of (ls ++ ms) ≡ bytes_of ls ++ bytes_of ms
bytes_both [] ms = refl
bytes_both (l ∷ ls) ms = ap (λ bytes. Bytes l ++ bytes) (bytes_both ls ms) ∙ sym (append_assoc (Bytes l) (bytes_of ls) (bytes_of ms))

part_told : (fault : Option OutFault) (a b : Known) (bytes : List ℕ) → Told fault a bytes b → AppendsPart a b bytes
part_told None a b bytes t = (bytes, [], sym (append-nil bytes), t)
part_told (Some fault) a b bytes t = t

-- so their bytes are written in part
pub lines_in_part : (a : Known) (t : Telling Known) (lines : List Line) → PutsPart (tells put_bytes) (whole a) lines t → AppendsPart a t.out (bytes_of lines)
lines_in_part a t lines puts =
    let x = tells_part put_bytes (whole a) t lines puts in
    subst (λ ls. AppendsPart a t.out (bytes_of ls)) (sym x.2)
    (subst (AppendsPart a t.out) (sym (bytes_both x.0 x.1)) (part_before a t.out (bytes_of x.0) (bytes_of x.1) (part_told t.fault a t.out (bytes_of x.0) (bytes_told a t x.0 x.3))))
