-- A loss of power in steps, by the words that are drawn.
use Rattle.std.proofs.Common.{◌≡◌, ℕ, suc, ◌+◌, ◌<◌, List, [], ◌∷◌, ◌++◌, length, take, get_or, ap, ap₂, sym, subst, ◌∙◌, refl, arith}
use Rattle.std.specs.Prelude.{◌%◌, fold}
use Rattle.std.proofs.lemmas.List.Sums.{fold_more}
use Rattle.flow_draw.specs.declared.question.Question.{Question}
use Rattle.flow_draw.specs.Words.{Drawn, word_at, word_in, asked}
use Rattle.flow_draw.proofs.Asking.{asked_more}
use Rattle.flow_simdisk.specs.declared.write.Write.{Write}
use Rattle.flow_simdisk.specs.declared.write.Kept.{Kept}
use Rattle.flow_simdisk.specs.Disk.{File, Losing, fate, fate_by, lose_write, lose_next, lose_file, lose_files}
use Rattle.flow_simdisk.specs.Stored.{losing, HasCome, GoesOn}

-- the fate of a write by the words from now on
pub fate_later : (d : Drawn) (qs : List Question) (w : Write) → fate (word_in (asked d qs)) 0 w ≡ fate (word_in d) (length qs) w
fate_later d qs w =
    let here : d.used + length qs + 0 ≡ d.used + length qs = omega arith in
    let next : d.used + length qs + 1 ≡ d.used + suc (length qs) = omega arith in
    ap₂ (λ i j. fate_by (word_at d.seed d.listed i % 3) (length w.text) (word_at d.seed d.listed j)) here next

-- what is asked in two parts
pub asked_both : (start old new : Drawn) (qs ps rs : List Question) → old ≡ asked start qs → ps ≡ rs → new ≡ asked old ps → new ≡ asked start (qs ++ rs)
asked_both start old new qs ps rs was same is = is ∙ ap₂ asked was same ∙ asked_more start qs rs

pub none_asked : (d : Drawn) → d ≡ asked d []
none_asked d =
    let same : d.used ≡ d.used + 0 = omega arith in
    ap (λ n. record d { used = n }) same

-- writes in turn
pub none_lost : (left : List ℕ) (fates : List Kept) (d : Drawn) → GoesOn (λ word qs. losing left qs fates) d left fates d
none_lost left fates d start qs was = (refl, refl, was)

pub writes_go_on : (x from : List ℕ) (noted : List Kept) (ws : List Write) (i : ℕ) (w : Write) (old now new : Drawn) (left after : List ℕ) (fates more : List Kept)
    → i < length ws
    → get_or ws i w ≡ w
    → GoesOn (λ word qs. fold (lose_write word x) (losing from qs noted) (take i ws)) old left fates now
    → GoesOn (λ word qs. lose_write word x (losing left qs fates) w) now after more new
    → GoesOn (λ word qs. fold (lose_write word x) (losing from qs noted) (take (i + 1) ws)) old after more new
writes_go_on x from noted ws i w old now new left after fates more lt at goes step start qs was =
    let f = lose_write (word_in start) x in
    let before = losing from qs noted in
    let l = fold f before (take i ws) in
    let come : HasCome l start left fates now = goes start qs was in
    let next : HasCome (f (losing left l.asked fates) w) start after more new = step start l.asked come.2 in
    let same : f (losing left l.asked fates) w ≡ fold f before (take (i + 1) ws) =
    ap₂ (λ bs ks. f (losing bs l.asked ks) w) come.0 come.1 ∙ ap (f l) (sym at) ∙ sym (fold_more f before ws i w lt) in
    subst (λ m. HasCome m start after more new) same next

-- files in turn: what is left to go through makes all of it of what has come so far
abbrev pub Comes : (start : Drawn) → List (List ℕ × File) → List Kept → (now : Drawn) → List (List ℕ × File) → Losing (List (List ℕ × File)) → Type 0
Comes start left fates now rest all =
    (qs : List Question) × (now ≡ asked start qs) × (lose_files (word_in start) (losing left qs fates) rest ≡ all)

pub files_go_on : (start now new : Drawn) (left after : List (List ℕ × File)) (fates more : List Kept) (x : List ℕ) (f : File)
    (rest : List (List ℕ × File)) (all : Losing (List (List ℕ × File)))
    → Comes start left fates now ((x, f) ∷ rest) all
    → GoesOn (λ word qs. lose_next left x (lose_file word qs fates x f)) now after more new
    → Comes start after more new rest all
files_go_on start now new left after fates more x f rest all (qs, was, is) goes =
    let l = lose_next left x (lose_file (word_in start) qs fates x f) in
    let come : HasCome l start after more new = goes start qs was in
    (l.asked, come.2, ap₂ (λ fs ks. lose_files (word_in start) (losing fs l.asked ks) rest) come.0 come.1 ∙ is)

pub all_come : (start now : Drawn) (left : List (List ℕ × File)) (fates : List Kept) (all : Losing (List (List ℕ × File)))
    → Comes start left fates now [] all → HasCome all start left fates now
all_come start now left fates all (qs, was, is) = (ap (λ l. l.left) is, ap (λ l. l.fates) is, was ∙ ap (λ l. asked start l.asked) is)
