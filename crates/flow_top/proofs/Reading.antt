-- Texts that were read.
use Rattle.std.proofs.Common.{◌≡◌, ℕ, ◌+◌, ◌≤◌, List, [], ◌∷◌, ◌++◌, map, length, take, refl, sym, ap, ◌∙◌, subst, arith, append_assoc, inl, inr, Ok, Err, Option, None, Some, Vec, Global, length-take}
use Rattle.std.proofs.lemmas.List.{append-nil, map-append}
use Rattle.flow_base.specs.Asked.{AsksOnce}
use Rattle.flow_base.specs.Bytes.{AreFirst, AreFirstOf}
use Rattle.flow_base.specs.Faults.{Counts}
use Rattle.flow_base.specs.Seen.{Content, told_bytes, FilesSeen, ReadsFrom, ReadsWithin, opened, unopened}
use Rattle.flow_base.specs.declared.fault.OutFault.{OutFault}
use Rattle.flow_base.specs.declared.fault.OutFault.TheVariants as fault
use Rattle.flow_base.specs.declared.fault.OutFault.TheVariants.{Failed}
use Rattle.flow_top.specs.declared.outcome.Answered as told
use Rattle.flow_top.specs.declared.outcome.Answered.TheVariants.{OutOfMemory}
use Rattle.flow_top.specs.Outcomes.{outcome_of}
use Rattle.flow_top.specs.Sources.{Source, of_file, generated, FileText, read_for, names_of, AllWithin, AreTexts}
use Rattle.flow_top.specs.Decided.{read_by, bytes_by, ReadsFiles, AskedFor, none_asked, none_opened, one_opened}
use Rattle.flow_top.specs.Steps.{TextRead, is_read, is_unread, starved}

abbrev file : (name : List ℕ) (most : ℕ) (text : List ℕ) → FileText
file name most text = record { name = name; most = most; text = text }

-- what was read first of a file is short
short_first : (n : ℕ) (told : Option (List ℕ)) (bytes : List ℕ) → AreFirst n told bytes → length bytes ≤ n
short_first n None bytes first = first
short_first n (Some told) bytes first = omega (arith, ap length first, length-take n told)

-- a file that was opened and read
reads_one : (before after : FilesSeen) (name bytes : List ℕ) (most : ℕ) → length bytes ≤ most + 1 → ReadsFrom before after name bytes
    → ReadsFiles before after (name ∷ []) (file name most bytes ∷ [])
reads_one before after name bytes most short from = record {
  asked = from.asked;
  opened = ap (map read_by) from.openings ∙ map-append read_by before.openings (record { name = name; read = bytes; left = from.left } ∷ []);
  within = (short, tt);
}

-- no file was opened
reads_none : (before after : FilesSeen) (names : List (List ℕ)) → after.asked ≡ before.asked ++ names → after.openings ≡ before.openings
    → ReadsFiles before after names []
reads_none before after names asked same = record {
  asked = asked;
  opened = ap (map read_by) same ∙ sym (append-nil (map read_by before.openings));
  within = tt;
}

-- nothing was asked for
pub untouched : (files : FilesSeen) → ReadsFiles files files [] []
untouched files = reads_none files files [] (sym (append-nil files.asked)) refl

within_then : (fs gs : List FileText) → AllWithin fs → AllWithin gs → AllWithin (fs ++ gs)
within_then [] gs f g = g
within_then (x ∷ fs) gs f g = (f.0, within_then fs gs f.1 g)

-- files were read, and then others
pub reads_then : (before mid after : FilesSeen) (names more : List (List ℕ)) (fs gs : List FileText) → ReadsFiles before mid names fs → ReadsFiles mid after more gs
    → ReadsFiles before after (names ++ more) (fs ++ gs)
reads_then before mid after names more fs gs first next = record {
  asked = next.asked ∙ ap (λ l. l ++ more) first.asked ∙ append_assoc before.asked names more;
  opened = next.opened ∙ ap (λ l. l ++ map bytes_by gs) first.opened ∙ append_assoc (map read_by before.openings) (map bytes_by fs) (map bytes_by gs)
      ∙ ap (λ l. map read_by before.openings ++ l) (sym (map-append bytes_by fs gs));
  within = within_then fs gs first.within next.within;
}

-- so their texts are those of their files, where the content doesn't change
texts_then : (content : List ℕ → Content) (fs gs : List FileText) → AreTexts content fs → AreTexts content gs → AreTexts content (fs ++ gs)
texts_then content [] gs f g = g
texts_then content (x ∷ fs) gs f g = (f.0, texts_then content fs gs f.1 g)

pub texts_both : (content content' : List ℕ → Content) (fs gs : List FileText) → content' ≡ content → AreTexts content fs → AreTexts content' gs → AreTexts content (fs ++ gs)
texts_both content content' fs gs same f g = texts_then content fs gs f (subst (λ k. AreTexts k gs) same g)

pub names_both : (fs gs : List FileText) → names_of fs ++ names_of gs ≡ names_of (fs ++ gs)
names_both fs gs = sym (map-append (λ (f : FileText). f.name) fs gs)

-- the file was read
pub read_well : (before after : FilesSeen) (name : List ℕ) (most : ℕ) (v : Vec ℕ Global) → AreFirstOf (most + 1) (before.content name) v.items
    → ReadsFrom before after name v.items → after.faults ≡ before.faults → TextRead (of_file name most) before after (Ok v)
read_well before after name most v first from same = is_read v (record {
  is_of = tt;
  reads = reads_one before after name v.items most (short_first (most + 1) (told_bytes (before.content name)) v.items first.1) from;
  are = (first, tt);
  no_fault = same;
})

-- what was asked for and read where the file couldn't be read
record Tried (name : List ℕ) (most : ℕ) (before after : FilesSeen) : Type 0 where
  names : List (List ℕ)
  files : List FileText
  one : AskedFor (of_file name most) names files
  reads : ReadsFiles before after names files

tried : (T : Type 0) (before after : FilesSeen) (name : List ℕ) (most : ℕ) (fault : OutFault) → AsksOnce {T = T} before.asked after.asked name (Err fault)
    → ReadsWithin (most + 1) name before after → Tried name most before after
tried T before after name most fault asked (opened bytes short from) = record {
  names = name ∷ [];
  files = file name most bytes ∷ [];
  one = one_opened name most bytes;
  reads = reads_one before after name bytes most short from;
}
tried T before after name most Failed asked (unopened same) =
    record { names = name ∷ []; files = []; one = none_opened name most; reads = reads_none before after (name ∷ []) asked same }
tried T before after name most fault.OutOfMemory (inl asked) (unopened same) =
    record { names = []; files = []; one = none_asked (of_file name most); reads = reads_none before after [] (asked ∙ sym (append-nil before.asked)) same }
tried T before after name most fault.OutOfMemory (inr asked) (unopened same) =
    record { names = name ∷ []; files = []; one = none_opened name most; reads = reads_none before after (name ∷ []) asked same }

-- the file couldn't be read
pub without_bytes : (T : Type 0) {before after : FilesSeen} {name : List ℕ} {most : ℕ} {o : told.Answered} (fault : OutFault) → o ≡ outcome_of fault
    → AsksOnce {T = T} before.asked after.asked name (Err fault) → ReadsWithin (most + 1) name before after
    → Counts {T = T} before.faults after.faults (Err fault) → TextRead (of_file name most) before after (Err o)
without_bytes T {before = b} {after = a} {name = n} {most = m} Failed o asked within counted =
    let t = tried T b a n m Failed asked within in
    subst (λ x. TextRead (of_file n m) b a (Err x)) (sym o) (is_unread t.names t.files t.one t.reads counted)
without_bytes T {before = b} {after = a} {name = n} {most = m} fault.OutOfMemory o asked within counted =
    let t = tried T b a n m fault.OutOfMemory asked within in
    subst (λ x. TextRead (of_file n m) b a (Err x)) (sym o) (starved t.names t.files t.one t.reads counted)

-- a generated text
pub generated_is : (files : FilesSeen) (own : List ℕ) (v : Vec ℕ Global) → v.items ≡ own → TextRead (generated own) files files (Ok v)
generated_is files own v is = is_read v (record { is_of = is; reads = untouched files; are = tt; no_fault = refl })

pub not_generated : (files : FilesSeen) (own : List ℕ) → TextRead (generated own) files files (Err OutOfMemory)
not_generated files own = starved [] [] (none_asked (generated own)) (untouched files) refl

-- what is asked for where a text was had
pub asked_had : (s : Source) (text : List ℕ) → AskedFor s (names_of (read_for s text)) (read_for s text)
asked_had (of_file name most) text = one_opened name most text
asked_had (generated own) text = none_asked (generated own)
