-- The tokens of a program that is read: each can be spelled, and its parts keep the limits.
use Rattle.std.proofs.Common.{ℕ, List, [], ◌∷◌, ◌++◌, take, subst, sym}
use Rattle.flow_tree.specs.declared.token.Spot.{Spot}
use Rattle.flow_tree.specs.declared.decl.Program.{Program}
use Rattle.flow_tree.specs.GrammarToken.{Part, Marked, begin, spots_of, AllInLimits, Keeps}
use Rattle.flow_tree.specs.GrammarStmt.{Counts, begin_statement}
use Rattle.flow_tree.specs.Lexing.{ReadsTokens, here, gap, token}
use Rattle.flow_front.specs.Verdict.{IsProgram}
use Rattle.flow_tree.proofs.GrammarLists.{class_parts}
use Rattle.flow_classprint.specs.ClassGrammar.{IsSpelled}
use Rattle.flow_class_text_laws.proofs.Spelled.{AreTokens}

abbrev pub AllSpelled : List Spot → Type 0
AllSpelled [] = Unit {0}
AllSpelled (x ∷ xs) = IsSpelled x.token × AllSpelled xs

reads_spelled : {before text before' text' : List ℕ} {spots : List Spot} → ReadsTokens before text spots before' text' → AllSpelled spots
reads_spelled here = tt
reads_spelled (gap l r) = reads_spelled r
reads_spelled {text = text} (token t n at bounded r) = (record { bytes = take n text; spells = at.spelled; bounded = bounded }, reads_spelled r)

-- tokens that can be spelled, whose parts keep the limits
abbrev pub Fine : List Marked → Type 0
Fine [] = Unit {0}
Fine (x ∷ xs) = (IsSpelled x.spot.token × AllInLimits 7 x.parts) × Fine xs

all_fine : (ms : List Marked) → AllSpelled (spots_of ms) → Keeps 7 ms → Fine ms
all_fine [] s k = tt
all_fine (m ∷ ms) s k = ((s.0, k.0), all_fine ms s.1 k.1)

pub fine_front : (xs ys : List Marked) → Fine (xs ++ ys) → Fine xs
fine_front [] ys h = tt
fine_front (x ∷ xs) ys h = (h.0, fine_front xs ys h.1)

pub fine_back : (xs ys : List Marked) → Fine (xs ++ ys) → Fine ys
fine_back [] ys h = h
fine_back (x ∷ xs) ys h = fine_back xs ys h.1

pub unbegun : (part : Part) (xs : List Marked) → Fine (begin part xs) → Fine xs
unbegun part [] h = tt
unbegun part (x ∷ xs) h = ((h.0.0, h.0.1.1), h.1)

pub statement_unbegun : (c : Counts) (d : ℕ) (xs : List Marked) → Fine (begin_statement c d xs) → Fine xs
statement_unbegun c d [] h = tt
statement_unbegun c d (x ∷ xs) h = ((h.0.0, h.0.1.1.1), h.1)

pub fine_are : (xs : List Marked) → Fine xs → AreTokens xs
fine_are [] h = tt
fine_are (x ∷ xs) h = ((h.0.0, class_parts 7 x.parts h.0.1), fine_are xs h.1)

-- those of a text that is a program
pub program_fine : (text : List ℕ) (p : Program) (h : IsProgram text p) → Fine h.parsed.1.marked
program_fine text p h =
    let d = h.parsed.1 in
    all_fine d.marked (subst AllSpelled (sym d.is) (reads_spelled h.has.lexes.reads)) d.keeps
