-- What several touches of one kind do to a place on its way.
use Rattle.std.proofs.Common.{◌≡◌, ℕ, Bool, true, false, not, ◌&&◌, ◌||◌, List, [], ◌∷◌, ◌++◌, map, refl, sym, ap, ◌∙◌}
use Rattle.flow_class.specs.declared.class.Slotted.{Slotted}
use Rattle.flow_class.specs.declared.class.Slotted.TheVariants.{Slot, Local}
use Rattle.flow_class.specs.Classes.{InstrTree, SetInstr, EffectInstr, NewInstr, ActInstr, DropInstr, ClassTree}
use Rattle.flow_validate.specs.declared.touch.Touch.{Touch}
use Rattle.flow_validate.specs.declared.touch.Touch.TheVariants.{Throws, Reads, Fills, Empties, Waits}
use Rattle.flow_valid.specs.Filling.{same_place, among, is_local, dropped, instr_reads, instr_fills, behind, waited}
use Rattle.flow_validate.specs.Following.{Passing, touched, passed, emptied_by, instr_touches}
use Rattle.flow_validate.proofs.Bits.{eq_turned}

pub same_turned : (p q : Slotted) → same_place p q ≡ same_place q p
same_turned (Slot m) (Slot n) = eq_turned m n
same_turned (Local m) (Local n) = eq_turned m n
same_turned (Slot m) (Local n) = refl
same_turned (Local m) (Slot n) = refl

module _ (p : Slotted) where
  pub passed_both : (ts us : List Touch) (s : Passing) → passed p (ts ++ us) s ≡ passed p us (passed p ts s)
  passed_both [] us s = refl
  passed_both (t ∷ ts) us s = passed_both ts us (touched p t s)

  abbrev pub throwing : Passing → Passing
  throwing s = record s { thrown = s.thrown || s.empty }

  abbrev pub reading : List Slotted → Passing → Passing
  reading ps s = record s { misread = s.misread || (s.empty && among ps p) }

  abbrev pub filling : List Slotted → Passing → Passing
  filling ps s = record s { empty = s.empty && not (among ps p) }

  abbrev pub emptying : List ℕ → Passing → Passing
  emptying ns s = record s { empty = s.empty || dropped ns p }

  abbrev pub waiting : Passing → Passing
  waiting s = record s { empty = s.empty || is_local p }

  more_read : (m e x y : Bool) → ((m || (e && x)) || (e && y)) ≡ (m || (e && (x || y)))
  more_read true e x y = refl
  more_read false true true y = refl
  more_read false true false y = refl
  more_read false false x y = refl

  more_filled : (e x y : Bool) → ((e && not x) && not y) ≡ (e && not (x || y))
  more_filled true true y = refl
  more_filled true false y = refl
  more_filled false x y = refl

  more_emptied : (e x y : Bool) → ((e || x) || y) ≡ (e || (x || y))
  more_emptied true x y = refl
  more_emptied false x y = refl

  no_more : (m e : Bool) → (m || (e && false)) ≡ m
  no_more true e = refl
  no_more false true = refl
  no_more false false = refl

  no_fill : (e : Bool) → (e && not false) ≡ e
  no_fill true = refl
  no_fill false = refl

  no_emptied : (e : Bool) → (e || false) ≡ e
  no_emptied true = refl
  no_emptied false = refl

  pub passed_reads : (ps : List Slotted) (s : Passing) → passed p (map Reads ps) s ≡ reading ps s
  passed_reads [] s = ap (λ (m : Bool). record s { misread = m }) (sym (no_more s.misread s.empty))
  passed_reads (q ∷ qs) s =
      passed_reads qs (touched p (Reads q) s)
      ∙ ap (λ (x : Bool). record s { misread = (s.misread || (s.empty && x)) || (s.empty && among qs p) }) (same_turned q p)
      ∙ ap (λ (m : Bool). record s { misread = m }) (more_read s.misread s.empty (same_place p q) (among qs p))

  pub passed_fills : (ps : List Slotted) (s : Passing) → passed p (map Fills ps) s ≡ filling ps s
  passed_fills [] s = ap (λ (m : Bool). record s { empty = m }) (sym (no_fill s.empty))
  passed_fills (q ∷ qs) s =
      passed_fills qs (touched p (Fills q) s)
      ∙ ap (λ (x : Bool). record s { empty = (s.empty && not x) && not (among qs p) }) (same_turned q p)
      ∙ ap (λ (m : Bool). record s { empty = m }) (more_filled s.empty (same_place p q) (among qs p))

none_dropped : (p : Slotted) → dropped [] p ≡ false
none_dropped (Slot n) = refl
none_dropped (Local n) = refl

one_dropped : (n : ℕ) (ns : List ℕ) (p : Slotted) → (same_place (Local n) p || dropped ns p) ≡ dropped (n ∷ ns) p
one_dropped n ns (Slot m) = refl
one_dropped n ns (Local m) = ap (λ (x : Bool). x || dropped ns (Local m)) (eq_turned n m)

module _ (p : Slotted) where
  pub passed_empties : (ns : List ℕ) (s : Passing) → passed p (map Empties ns) s ≡ emptying p ns s
  passed_empties [] s = ap (λ (m : Bool). record s { empty = m }) (sym (no_emptied p s.empty) ∙ ap (λ (x : Bool). s.empty || x) (sym (none_dropped p)))
  passed_empties (n ∷ ns) s =
      passed_empties ns (touched p (Empties n) s)
      ∙ ap (λ (m : Bool). record s { empty = m }) (more_emptied p s.empty (same_place (Local n) p) (dropped ns p) ∙ ap (λ (x : Bool). s.empty || x) (one_dropped n ns p))

  -- an instruction, and the last one
  abbrev pub instructed : InstrTree → Passing → Passing
  instructed i s = emptying p (emptied_by i) (filling p (instr_fills i) (reading p (instr_reads i) (throwing p s)))

  pub passed_instr : (i : InstrTree) (s : Passing) → passed p (instr_touches i) s ≡ instructed i s
  passed_instr i s =
      passed_both p (map Reads (instr_reads i) ++ map Fills (instr_fills i)) (map Empties (emptied_by i)) (touched p Throws s)
      ∙ ap (passed p (map Empties (emptied_by i))) (passed_both p (map Reads (instr_reads i)) (map Fills (instr_fills i)) (touched p Throws s))
      ∙ ap (λ (x : Passing). passed p (map Empties (emptied_by i)) (passed p (map Fills (instr_fills i)) x)) (passed_reads p (instr_reads i) (throwing p s))
      ∙ ap (passed p (map Empties (emptied_by i))) (passed_fills p (instr_fills i) (reading p (instr_reads i) (throwing p s)))
      ∙ passed_empties (emptied_by i) (filling p (instr_fills i) (reading p (instr_reads i) (throwing p s)))

  pub passed_wait : (ps : List Slotted) (s : Passing) → passed p (Throws ∷ map Reads ps ++ Waits ∷ Throws ∷ []) s ≡ throwing p (waiting p (reading p ps (throwing p s)))
  passed_wait ps s =
      passed_both p (map Reads ps) (Waits ∷ Throws ∷ []) (throwing p s)
      ∙ ap (passed p (Waits ∷ Throws ∷ [])) (passed_reads p ps (throwing p s))

  pub passed_end : (ps : List Slotted) (s : Passing) → passed p (Throws ∷ map Reads ps) s ≡ reading p ps (throwing p s)
  passed_end ps s = passed_reads p ps (throwing p s)

  no_drop : (a e : Bool) → not ((e && not a) || false) ≡ (a || (not e && not false))
  no_drop true true = refl
  no_drop true false = refl
  no_drop false true = refl
  no_drop false false = refl

  only_drop : (d e : Bool) → not ((e && not false) || d) ≡ (false || (not e && not d))
  only_drop true true = refl
  only_drop true false = refl
  only_drop false true = refl
  only_drop false false = refl

  -- behind an instruction a place is filled, by either account
  pub filled_behind : (c : ClassTree) (i : InstrTree) (e : Bool) → not ((e && not (among (instr_fills i) p)) || dropped (emptied_by i) p) ≡ behind c p i (not e)
  filled_behind c (SetInstr path v) e = ap (λ (x : Bool). not ((e && not (among (instr_fills (SetInstr path v)) p)) || x)) (none_dropped p) ∙ no_drop (among (instr_fills (SetInstr path v)) p) e
  filled_behind c (EffectInstr path v) e = ap (λ (x : Bool). not ((e && not (among (instr_fills (EffectInstr path v)) p)) || x)) (none_dropped p)
      ∙ no_drop (among (instr_fills (EffectInstr path v)) p) e
  filled_behind c (NewInstr q) e = ap (λ (x : Bool). not ((e && not (among (q ∷ []) p)) || x)) (none_dropped p) ∙ no_drop (among (q ∷ []) p) e
  filled_behind c (ActInstr path es) e = ap (λ (x : Bool). not ((e && not false) || x)) (none_dropped p) ∙ no_drop false e
  filled_behind c (DropInstr ns) e = only_drop (dropped ns p) e

  pub filled_waited : (c : ClassTree) (e : Bool) → not (e || is_local p) ≡ waited c p (not e)
  filled_waited c true = refl
  filled_waited c false = refl
