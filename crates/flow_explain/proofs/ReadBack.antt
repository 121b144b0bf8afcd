-- A line in words is read back: its words are put into the order of the trace's line, which is read as that.
use Rattle.std.proofs.Common.{◌≡◌, ℕ, List, [], ◌∷◌, ◌++◌, true, false, map, slice_get, codes, decimal, refl, ap, ◌∙◌, arith, lit<, if◌then◌else◌}
use Rattle.std.specs.Bool.{◌==◌}
use Rattle.std.proofs.lemmas.Bool.{cond_both}
use Rattle.flow_base.specs.ErrorNumbers.{end_of_stream, timed_out, broken_promise, operation_cancelled, out_of_range, too_long, second_waiter, already_set, port_in_use, not_ready, bad_argument, disk_failed}
use Rattle.flow_base.specs.declared.ids.ActorId.{ActorId}
use Rattle.std.specs.Option.{option_map_or}
use Rattle.std.specs.List.{AllByRecursion}
use Rattle.std.specs.declared.option.Option.{Option}
use Rattle.std.specs.declared.option.Option.TheVariants.{None, Some}
use Rattle.flow_trace.specs.Bytes.{Field, fields, IsLine}
use Rattle.flow_trace.specs.Reading.{is_word, bytes_at, number_at, line_from}
use Rattle.flow_trace.specs.Scan.{WordState, no_word, words_in}
use Rattle.flow_trace.specs.declared.line.Line.{Line}
use Rattle.flow_trace.specs.declared.line.Line.TheVariants.{Head, Boot, Kill, Stop, Cut, Heal, DiskFail, Timer, Arrival, Read, Write, Sync, Size, Start, Wait, Take, Throw, Catch, Fail, Finish, Cancel, Broken, PrintInt, PrintBool, PrintText, Send, LostCut, LostDraw, Discard, Kept, Frame, Callback, EndIdle, EndBound, EndSpent, EndStop}
use Rattle.flow_trace.proofs.ReadBack.{line_back}
use Rattle.flow_trace.proofs.Scanning.{word_of, bare, number_in-decimal}
use Rattle.flow_explain.specs.Texts.{ActorText}
use Rattle.flow_explain.specs.Living.{Telling, text_of, living_in}
use Rattle.flow_explain.specs.Phrases.{actor_text, who, wait_of, wait_place, branch_place, spot, error_name, phrase}
use Rattle.flow_explain.specs.Words.{line_in_words}
use Rattle.flow_explain.specs.Laws.{no_cell, without_cell, IsPlaced, IsActorText, ReadBack}
use Rattle.flow_explain.proofs.Clean.{Clean, done, fixed, named, counted, signed, quoted, signing, spotted, IsTold, told, event_told, inner_told, words_told}
use Rattle.flow_explain.proofs.Finding.{wait_number, take_numbers, wait_back, take_back, text_at_is}

-- the word at a place, and one without the sign at its end
abbrev at : List WordState → ℕ → WordState
at ws k = option_map_or (λ w. w) (slice_get ws k) no_word

abbrev shortened : List ℕ → List ℕ
shortened [] = []
shortened (b ∷ []) = []
shortened (b ∷ c ∷ bs) = b ∷ shortened (c ∷ bs)

abbrev unsigned : WordState → WordState
unsigned w = bare (shortened w.bytes)

shortened-last : (xs : List ℕ) (b : ℕ) → shortened (xs ++ b ∷ []) ≡ xs
shortened-last [] b = refl
shortened-last (x ∷ []) b = refl
shortened-last (x ∷ y ∷ xs) b = ap (λ l. x ∷ l) (shortened-last (y ∷ xs) b)

-- the words of an event's line
abbrev event_line : List WordState → (what : WordState) → List WordState → List WordState
event_line ws what rest = bare (codes "event") ∷ at ws 1 ∷ unsigned (at ws 3) ∷ what ∷ rest

abbrev event_words : List WordState → List WordState
event_words ws =
    if is_word ws 4 (codes "process") then
    event_line ws
    (bare (if is_word ws 6 (codes "boots") then codes "boot" else if is_word ws 6 (codes "loses") then codes "kill" else codes "stop"))
    (at ws 5 ∷ [])
    else if is_word ws 4 (codes "a") then event_line ws (bare (codes "timer")) (at ws 8 ∷ bare (decimal 0) ∷ [])
    else if is_word ws 4 (codes "packet") then event_line ws (bare (codes "packet")) (at ws 9 ∷ at ws 5 ∷ [])
    else if is_word ws 5 (codes "link") then
    event_line ws (bare (if is_word ws 11 (codes "is") then codes "cut" else codes "heal")) (at ws 8 ∷ at ws 10 ∷ [])
    else if is_word ws 5 (codes "next") then event_line ws (bare (codes "diskfail")) (at ws 11 ∷ at ws 6 ∷ [])
    else event_line ws (unsigned (at ws 11)) (at ws 8 ∷ bare (decimal 0) ∷ at ws 12 ∷ [])

-- those of a line that says what becomes of a packet or of an actor
abbrev state_words : List WordState → List WordState
state_words ws =
    if is_word ws 7 (codes "cancelled") then bare (codes "cancel") ∷ at ws 5 ∷ []
    else if is_word ws 7 (codes "discarded:") then bare (codes "discard") ∷ at ws 5 ∷ []
    else bare (codes "lost") ∷ at ws 5 ∷ bare (if is_word ws 8 (codes "the") then codes "cut" else codes "draw") ∷ []

abbrev pair_words : ℕ × ℕ → List WordState
pair_words p = bare (decimal p.0) ∷ bare (decimal p.1) ∷ []

-- those of a line within an event, by the text of its actor
abbrev inner_words : Option ActorText → List WordState → List WordState
inner_words t ws =
    if is_word ws 6 (codes "starts") then bare (codes "start") ∷ at ws 5 ∷ at ws 4 ∷ []
    else if is_word ws 6 (codes "waits") then bare (codes "wait") ∷ at ws 5 ∷ bare (decimal (wait_number t (bytes_at ws 8))) ∷ []
    else if is_word ws 6 (codes "goes") then bare (codes "take") ∷ at ws 5 ∷ pair_words (take_numbers t (bytes_at ws 9))
    else if is_word ws 6 (codes "throws") then bare (codes "throw") ∷ at ws 5 ∷ at ws 7 ∷ []
    else if is_word ws 6 (codes "catches") then bare (codes "catch") ∷ at ws 5 ∷ at ws 7 ∷ []
    else if is_word ws 6 (codes "fails") then bare (codes "fail") ∷ at ws 5 ∷ at ws 8 ∷ []
    else if is_word ws 6 (codes "ends") then bare (codes "done") ∷ at ws 5 ∷ []
    else if is_word ws 6 (codes "prints") then bare (codes "print") ∷ at ws 5 ∷ at ws 7 ∷ []
    else if is_word ws 6 (codes "is") then state_words ws
    else if is_word ws 6 (codes "to") then bare (codes "send") ∷ at ws 5 ∷ unsigned (at ws 8) ∷ unsigned (at ws 10) ∷ at ws 11 ∷ []
    else if is_word ws 6 (codes "bytes") then bare (codes "kept") ∷ at ws 9 ∷ unsigned (at ws 11) ∷ at ws 5 ∷ at ws 12 ∷ []
    else bare (codes "broken") ∷ at ws 9 ∷ []

-- the words of the trace's line, by those of one in words
abbrev trace_words : List ActorText → Telling → List WordState → List WordState
trace_words texts s ws =
    if is_word ws 0 (codes "event") then event_words ws
    else if is_word ws 0 [] then inner_words (actor_text texts s (number_at ws 5)) ws
    else ws

abbrev read_words : List ActorText → Telling → List ℕ → Option Line
read_words texts s bytes = line_from (trace_words texts s (words_in bytes))

-- the name of an error
error_clean : (n : ℕ) → Clean (error_name n)
error_clean n =
    cond_both (n == end_of_stream) _ _ Clean (λ _. fixed refl done)
    (λ _. cond_both (n == timed_out) _ _ Clean (λ _. fixed refl done)
    (λ _. cond_both (n == broken_promise) _ _ Clean (λ _. fixed refl done)
    (λ _. cond_both (n == operation_cancelled) _ _ Clean (λ _. fixed refl done)
    (λ _. cond_both (n == out_of_range) _ _ Clean (λ _. fixed refl (fixed refl (fixed refl done)))
    (λ _. cond_both (n == too_long) _ _ Clean (λ _. fixed refl (fixed refl (fixed refl done)))
    (λ _. cond_both (n == second_waiter) _ _ Clean (λ _. fixed refl (fixed refl done))
    (λ _. cond_both (n == already_set) _ _ Clean (λ _. fixed refl (fixed refl done))
    (λ _. cond_both (n == port_in_use) _ _ Clean (λ _. fixed refl (fixed refl (fixed refl done)))
    (λ _. cond_both (n == not_ready) _ _ Clean (λ _. fixed refl (fixed refl done))
    (λ _. cond_both (n == bad_argument) _ _ Clean (λ _. fixed refl (fixed refl done))
    (λ _. cond_both (n == disk_failed) _ _ Clean (λ _. fixed refl (fixed refl done)) (λ _. done))))))))))))

-- what an actor is called
who_clean : (o : Option ActorText) {fs : List Field} → ((t : ActorText) → o ≡ Some t → IsActorText t) → Clean fs → Clean (who o ∷ fs)
who_clean None each rest = fixed refl rest
who_clean (Some t) each rest = named (each t refl).name rest

module _ (texts : List ActorText) (s : Telling) (all : AllByRecursion IsActorText texts) where
  each : (a : ℕ) (t : ActorText) → actor_text texts s a ≡ Some t → IsActorText t
  each a t is = text_at_is texts all (text_of (living_in s.living s.process) a) t is

  finish : (l m : Line) → IsTold (phrase texts s l) → trace_words texts s (map word_of (phrase texts s l)) ≡ map word_of (fields m) → IsLine m
      → read_words texts s (line_in_words texts s l) ≡ Some m
  finish l m t moved range =
      ap (λ ws. line_from (trace_words texts s ws)) (words_told (phrase texts s l) t) ∙ ap line_from moved ∙ line_back m range

  wait_moved : (a : ActorId) (g : ℕ) → IsLine (Wait a g) → IsPlaced texts s (Wait a g)
      → trace_words texts s (map word_of (phrase texts s (Wait a g))) ≡ map word_of (fields (Wait a g))
  wait_moved a g range (p, is, _) =
      let known = actor_text texts s in
      let words : ℕ → List WordState = λ k. bare (codes "wait") ∷ bare (decimal a.0) ∷ bare (decimal k) ∷ [] in
      ap (λ i. words (wait_number (known i) (spot (wait_place (wait_of (known a.0) g))))) (number_in-decimal a.0 range.1.0)
      ∙ ap (λ o. words (wait_number (known a.0) (spot o))) is
      ∙ ap words (wait_back (known a.0) g p (each a.0) is)

  take_moved : (a : ActorId) (g b : ℕ) → IsLine (Take a g b) → IsPlaced texts s (Take a g b)
      → trace_words texts s (map word_of (phrase texts s (Take a g b))) ≡ map word_of (fields (Take a g b))
  take_moved a g b range (p, is, _) =
      let known = actor_text texts s in
      let words : ℕ × ℕ → List WordState = λ k. bare (codes "take") ∷ bare (decimal a.0) ∷ pair_words k in
      ap (λ i. words (take_numbers (known i) (spot (branch_place (wait_of (known a.0) g) b)))) (number_in-decimal a.0 range.1.0)
      ∙ ap (λ o. words (take_numbers (known a.0) (spot o))) is
      ∙ ap words (take_back (known a.0) g b p (each a.0) is)

  back : (l : Line) → IsLine l → IsPlaced texts s l → read_words texts s (line_in_words texts s l) ≡ Some (without_cell l)
  back (Boot n t p) range placed =
      finish (Boot n t p) (Boot n t p)
      (event_told range.1.0 range.1.1.0 (fixed refl (counted range.1.1.1.1.0 refl (fixed refl done))))
      (simp (shortened-last (decimal t) 58) refl) range
  back (Kill n t p) range placed =
      finish (Kill n t p) (Kill n t p)
      (event_told range.1.0 range.1.1.0 (fixed refl (counted range.1.1.1.1.0 refl (fixed refl (fixed refl done)))))
      (simp (shortened-last (decimal t) 58) refl) range
  back (Stop n t p) range placed =
      finish (Stop n t p) (Stop n t p)
      (event_told range.1.0 range.1.1.0 (fixed refl (counted range.1.1.1.1.0 refl (fixed refl (fixed refl done)))))
      (simp (shortened-last (decimal t) 58) refl) range
  back (Cut n t p q) range placed =
      finish (Cut n t p q) (Cut n t p q)
      (event_told range.1.0 range.1.1.0 (fixed refl (fixed refl (fixed refl (fixed refl (counted range.1.1.1.1.0 refl (fixed refl (counted range.1.1.1.1.1.0 refl (fixed refl (fixed refl done)))))))))
      )
      (simp (shortened-last (decimal t) 58) refl) range
  back (Heal n t p q) range placed =
      finish (Heal n t p q) (Heal n t p q)
      (event_told range.1.0 range.1.1.0 (fixed refl (fixed refl (fixed refl (fixed refl (counted range.1.1.1.1.0 refl (fixed refl (counted range.1.1.1.1.1.0 refl (fixed refl done)))))))))
      (simp (shortened-last (decimal t) 58) refl) range
  back (DiskFail n t p k) range placed =
      finish (DiskFail n t p k) (DiskFail n t p k)
      (event_told range.1.0 range.1.1.0 (fixed refl (fixed refl (counted range.1.1.1.1.1.0 refl
      (fixed refl (fixed refl (fixed refl (fixed refl (counted range.1.1.1.1.0 refl (fixed refl done))))))))))
      (simp (shortened-last (decimal t) 58) refl) range
  back (Timer n t p c) range placed =
      finish (Timer n t p c) (Timer n t p no_cell)
      (event_told range.1.0 range.1.1.0 (fixed refl (fixed refl (fixed refl (fixed refl (counted range.1.1.1.1.0 refl done))))))
      (simp (shortened-last (decimal t) 58) refl) (range.0, (range.1.0, (range.1.1.0, (range.1.1.1.0, (range.1.1.1.1.0, (lit< tt, tt))))))
  back (Arrival n t q m) range placed =
      finish (Arrival n t q m) (Arrival n t q m)
      (event_told range.1.0 range.1.1.0 (fixed refl (counted range.1.1.1.1.1.0 refl (fixed refl (fixed refl (fixed refl (counted range.1.1.1.1.0 refl done)))))))
      (simp (shortened-last (decimal t) 58) refl) range
  back (Read n t p c (Some x)) range placed =
      finish (Read n t p c (Some x)) (Read n t p no_cell (Some x))
      (event_told range.1.0 range.1.1.0 (fixed refl (fixed refl (fixed refl (fixed refl (counted range.1.1.1.1.0 refl (fixed refl (fixed refl (fixed refl (quoted range.1.1.1.1.1.1.0 done))))))))))
      (simp (shortened-last (decimal t) 58) refl) (range.0, (range.1.0, (range.1.1.0, (range.1.1.1.0, (range.1.1.1.1.0, (lit< tt, (range.1.1.1.1.1.1.0, tt)))))))
  back (Read n t p c None) range placed =
      finish (Read n t p c None) (Read n t p no_cell None)
      (event_told range.1.0 range.1.1.0 (fixed refl (fixed refl (fixed refl (fixed refl (counted range.1.1.1.1.0 refl (fixed refl (fixed refl (fixed refl (fixed refl done))))))))))
      (simp (shortened-last (decimal t) 58) refl) (range.0, (range.1.0, (range.1.1.0, (range.1.1.1.0, (range.1.1.1.1.0, (lit< tt, (range.1.1.1.1.1.1.0, tt)))))))
  back (Write n t p c true) range placed =
      finish (Write n t p c true) (Write n t p no_cell true)
      (event_told range.1.0 range.1.1.0 (fixed refl (fixed refl (fixed refl (fixed refl (counted range.1.1.1.1.0 refl (fixed refl (fixed refl (fixed refl (fixed refl done))))))))))
      (simp (shortened-last (decimal t) 58) refl) (range.0, (range.1.0, (range.1.1.0, (range.1.1.1.0, (range.1.1.1.1.0, (lit< tt, (range.1.1.1.1.1.1.0, tt)))))))
  back (Write n t p c false) range placed =
      finish (Write n t p c false) (Write n t p no_cell false)
      (event_told range.1.0 range.1.1.0 (fixed refl (fixed refl (fixed refl (fixed refl (counted range.1.1.1.1.0 refl (fixed refl (fixed refl (fixed refl (fixed refl done))))))))))
      (simp (shortened-last (decimal t) 58) refl) (range.0, (range.1.0, (range.1.1.0, (range.1.1.1.0, (range.1.1.1.1.0, (lit< tt, (range.1.1.1.1.1.1.0, tt)))))))
  back (Sync n t p c true) range placed =
      finish (Sync n t p c true) (Sync n t p no_cell true)
      (event_told range.1.0 range.1.1.0 (fixed refl (fixed refl (fixed refl (fixed refl (counted range.1.1.1.1.0 refl (fixed refl (fixed refl (fixed refl (fixed refl done))))))))))
      (simp (shortened-last (decimal t) 58) refl) (range.0, (range.1.0, (range.1.1.0, (range.1.1.1.0, (range.1.1.1.1.0, (lit< tt, (range.1.1.1.1.1.1.0, tt)))))))
  back (Sync n t p c false) range placed =
      finish (Sync n t p c false) (Sync n t p no_cell false)
      (event_told range.1.0 range.1.1.0 (fixed refl (fixed refl (fixed refl (fixed refl (counted range.1.1.1.1.0 refl (fixed refl (fixed refl (fixed refl (fixed refl done))))))))))
      (simp (shortened-last (decimal t) 58) refl) (range.0, (range.1.0, (range.1.1.0, (range.1.1.1.0, (range.1.1.1.1.0, (lit< tt, (range.1.1.1.1.1.1.0, tt)))))))
  back (Size n t p c (Some k)) range placed =
      finish (Size n t p c (Some k)) (Size n t p no_cell (Some k))
      (event_told range.1.0 range.1.1.0 (fixed refl (fixed refl (fixed refl (fixed refl (counted range.1.1.1.1.0 refl
      (fixed refl (fixed refl (fixed refl (counted range.1.1.1.1.1.1.0 refl done))))))))))
      (simp (shortened-last (decimal t) 58) refl) (range.0, (range.1.0, (range.1.1.0, (range.1.1.1.0, (range.1.1.1.1.0, (lit< tt, (range.1.1.1.1.1.1.0, tt)))))))
  back (Size n t p c None) range placed =
      finish (Size n t p c None) (Size n t p no_cell None)
      (event_told range.1.0 range.1.1.0 (fixed refl (fixed refl (fixed refl (fixed refl (counted range.1.1.1.1.0 refl (fixed refl (fixed refl (fixed refl (fixed refl done))))))))))
      (simp (shortened-last (decimal t) 58) refl) (range.0, (range.1.0, (range.1.1.0, (range.1.1.1.0, (range.1.1.1.1.0, (lit< tt, (range.1.1.1.1.1.1.0, tt)))))))
  back (Start a class) range placed =
      finish (Start a class) (Start a class) (inner_told (named range.1.1.0 (counted range.1.0 refl (fixed refl done))))
      (refl) range
  back (Wait a g) range placed =
      finish (Wait a g) (Wait a g) (inner_told (who_clean (actor_text texts s a.0) (each a.0) (counted range.1.0 refl (fixed refl (fixed refl (spotted placed done))))))
      (wait_moved a g range placed) range
  back (Take a g b) range placed =
      finish (Take a g b) (Take a g b) (inner_told (who_clean (actor_text texts s a.0) (each a.0) (counted range.1.0 refl (fixed refl (fixed refl (fixed refl (spotted placed done)))))))
      (take_moved a g b range placed) range
  back (Throw a e) range placed =
      finish (Throw a e) (Throw a e) (inner_told (who_clean (actor_text texts s a.0) (each a.0) (counted range.1.0 refl (fixed refl (counted range.1.1.0 refl (error_clean e.0))))))
      (refl) range
  back (Catch a e) range placed =
      finish (Catch a e) (Catch a e) (inner_told (who_clean (actor_text texts s a.0) (each a.0) (counted range.1.0 refl (fixed refl (counted range.1.1.0 refl (error_clean e.0))))))
      (refl) range
  back (Fail a e) range placed =
      finish (Fail a e) (Fail a e) (inner_told (who_clean (actor_text texts s a.0) (each a.0) (counted range.1.0 refl (fixed refl (fixed refl (counted range.1.1.0 refl (error_clean e.0)))))))
      (refl) range
  back (Finish a) range placed =
      finish (Finish a) (Finish a) (inner_told (who_clean (actor_text texts s a.0) (each a.0) (counted range.1.0 refl (fixed refl done))))
      (refl) range
  back (Cancel a) range placed =
      finish (Cancel a) (Cancel a) (inner_told (who_clean (actor_text texts s a.0) (each a.0) (counted range.1.0 refl (fixed refl (fixed refl done)))))
      (refl) range
  back (Broken c) range placed =
      finish (Broken c) (Broken c) (inner_told (fixed refl (fixed refl (fixed refl (fixed refl (fixed refl (counted range.1.0 refl (fixed refl (fixed refl done)))))))))
      (refl) range
  back (PrintInt a value) range placed =
      finish (PrintInt a value) (PrintInt a value) (inner_told (who_clean (actor_text texts s a.0) (each a.0) (counted range.1.0 refl (fixed refl (signed range.1.1.0 done)))))
      (refl) range
  back (PrintBool a true) range placed =
      finish (PrintBool a true) (PrintBool a true) (inner_told (who_clean (actor_text texts s a.0) (each a.0) (counted range.1.0 refl (fixed refl (fixed refl done)))))
      (refl) range
  back (PrintBool a false) range placed =
      finish (PrintBool a false) (PrintBool a false) (inner_told (who_clean (actor_text texts s a.0) (each a.0) (counted range.1.0 refl (fixed refl (fixed refl done)))))
      (refl) range
  back (PrintText a x) range placed =
      finish (PrintText a x) (PrintText a x) (inner_told (who_clean (actor_text texts s a.0) (each a.0) (counted range.1.0 refl (fixed refl (quoted range.1.1.0 done)))))
      (refl) range
  back (Send m q port x) range placed =
      finish (Send m q port x) (Send m q port x)
      (inner_told (fixed refl (counted range.1.0 refl (fixed refl (fixed refl (signing q.0 (44 ∷ []) (omega (arith, range.1.1.0)) refl
      (fixed refl (signing port (58 ∷ []) (omega (arith, range.1.1.1.0)) refl (quoted range.1.1.1.1.0 done))))))))
      )
      (simp (shortened-last (decimal q.0) 44, shortened-last (decimal port) 58) refl) range
  back (LostCut m) range placed =
      finish (LostCut m) (LostCut m) (inner_told (fixed refl (counted range.1.0 refl (fixed refl (fixed refl (fixed refl (fixed refl (fixed refl (fixed refl done)))))))))
      (refl) range
  back (LostDraw m) range placed =
      finish (LostDraw m) (LostDraw m) (inner_told (fixed refl (counted range.1.0 refl (fixed refl (fixed refl (fixed refl (fixed refl (fixed refl done))))))))
      (refl) range
  back (Discard m) range placed =
      finish (Discard m) (Discard m) (inner_told (fixed refl (counted range.1.0 refl (fixed refl (fixed refl (fixed refl (fixed refl done)))))))
      (refl) range
  back (Kept file offset len kept) range placed =
      finish (Kept file offset len kept) (Kept file offset len kept)
      (inner_told (fixed refl (counted range.1.1.1.0 refl (fixed refl (fixed refl (fixed refl (quoted range.1.0 (fixed refl (signing offset (44 ∷ []) (omega (arith, range.1.1.0)) refl (counted range.1.1.1.1.0 refl
      (fixed refl done))))))))))
      )
      (simp (shortened-last (decimal offset) 44) refl) range
  back Head range placed =
      finish Head Head (told (fixed refl (fixed refl done))) refl range
  back (Frame p a class group) range placed =
      finish (Frame p a class group) (Frame p a class group)
      (told (fixed refl (counted range.1.0 refl (counted range.1.1.0 refl (named range.1.1.1.0 (counted range.1.1.1.1.0 refl done)))))) refl range
  back (Callback p a k c) range placed =
      finish (Callback p a k c) (Callback p a k c)
      (told (fixed refl (counted range.1.0 refl (counted range.1.1.0 refl (counted range.1.1.1.0 refl (counted range.1.1.1.1.0 refl done)))))) refl range
  back EndIdle range placed =
      finish EndIdle EndIdle (told (fixed refl (fixed refl done))) refl range
  back EndBound range placed =
      finish EndBound EndBound (told (fixed refl (fixed refl done))) refl range
  back EndSpent range placed =
      finish EndSpent EndSpent (told (fixed refl (fixed refl done))) refl range
  back (EndStop monitor) range placed =
      finish (EndStop monitor) (EndStop monitor) (told (fixed refl (fixed refl (named range.1.1.0 done)))) refl range

pub read_back : ReadBack
read_back texts s all = (read_words texts s, back texts s all)
