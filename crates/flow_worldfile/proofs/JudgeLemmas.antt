-- The verdict on a text, while it is read.
use Rattle.std.proofs.Common.{◌≡◌, ℕ, ◌+◌, ◌⊎◌, inl, inr, List, [], ◌∷◌, ◌++◌, length, length-append, append_assoc, append-nil, Err, ap, subst, sym, ◌∙◌, refl, arith}
use Rattle.flow_worldfile.specs.declared.directive.Directive.{Directive}
use Rattle.flow_worldfile.specs.declared.world.WorldFault.{WorldFault}
use Rattle.flow_worldfile.specs.declared.world.WorldFault.TheVariants.{Form, Range, Twice, NoProcess, TooLarge, OutOfMemory}
use Rattle.flow_worldfile.specs.Lines.{lines, IsPassedOver}
use Rattle.flow_worldfile.specs.Worlds.{Said, said}
use Rattle.flow_worldfile.specs.Reading.{Rule, W1, W2, W3, W4, Keeps, Breaks, Say, AllKept, accepted, refused, Judges}
use Rattle.flow_worldfile.specs.Drafts.{added, LineRead, LinesRead}
use Rattle.flow_worldfile.proofs.SaidLemmas.{said_more}
use Rattle.flow_worldfile.proofs.SayLemmas.{say_over, say_more}
use Rattle.flow_worldfile.proofs.KeptLemmas.{none_kept, kept_more}

-- The first k lines say what was said, and keep the rules.
pub record IsSoFar (count k : ℕ) (s : Said) (left all : List ℕ) : Type 0 where
  pub front : List (List ℕ)
  pub before : List Directive
  pub splits : lines all ≡ front ++ lines left
  pub number : k ≡ length front
  pub says : Say front before
  pub kept : AllKept count before
  pub said_is : s ≡ said before

longer : (front : List (List ℕ)) (line : List ℕ) (k : ℕ) → k ≡ length front → k + 1 ≡ length (front ++ line ∷ [])
longer front line k is = ap (λ n. n + 1) is ∙ sym (length-append front (line ∷ []))

moved : (front more : List (List ℕ)) (line : List ℕ) (ls left : List (List ℕ)) → ls ≡ front ++ left → left ≡ line ∷ more → ls ≡ (front ++ line ∷ []) ++ more
moved front more line ls left splits parts = splits ∙ ap (λ l. front ++ l) parts ∙ sym (append_assoc front (line ∷ []) more)

-- one line more
pub next_line_read : (count k : ℕ) (old new : Said) (line more left all : List ℕ) → IsSoFar count k old left all
    → lines left ≡ line ∷ lines more
    → (IsPassedOver line × (new ≡ old)) ⊎ ((d : Directive) × Keeps count old line d × (new ≡ added old d))
    → IsSoFar count (k + 1) new more all
next_line_read count k old new line more left all far parts (inl over) = record {
  front = far.front ++ line ∷ [];
  before = far.before;
  splits = moved far.front (lines more) line (lines all) (lines left) far.splits parts;
  number = longer far.front line k far.number;
  says = say_over far.front line far.before far.says over.0;
  kept = far.kept;
  said_is = over.1 ∙ far.said_is;
}
next_line_read count k old new line more left all far parts (inr kept) =
    let (d, keeps, adds) = kept in
    let keeps' : Keeps count (said far.before) line d = subst (λ s. Keeps count s line d) far.said_is keeps in
    record {
      front = far.front ++ line ∷ [];
      before = far.before ++ d ∷ [];
      splits = moved far.front (lines more) line (lines all) (lines left) far.splits parts;
      number = longer far.front line k far.number;
      says = say_more far.front line far.before d far.says keeps'.form;
      kept = kept_more count far.before line d keeps' far.kept;
      said_is = adds ∙ ap (λ s. added s d) far.said_is ∙ sym (said_more far.before d keeps'.once);
    }

-- a line that breaks a rule
pub line_refused : (count k : ℕ) (old : Said) (line more left all : List ℕ) (rule : Rule) → IsSoFar count k old left all
    → lines left ≡ line ∷ lines more → Breaks count old line rule → Judges count (lines all) (refused (k + 1) rule)
line_refused count k old line more left all rule far parts breaks = record {
  front = far.front;
  line = line;
  more = lines more;
  before = far.before;
  splits = far.splits ∙ ap (λ l. far.front ++ l) parts;
  number = ap (λ n. n + 1) far.number;
  says = far.says;
  kept = far.kept;
  breaks = subst (λ s. Breaks count s line rule) far.said_is breaks;
}

-- a line that can't be kept
pub line_fails : (count k : ℕ) (old new : Said) (line more left all : List ℕ) (fault : WorldFault) → IsSoFar count k old left all
    → lines left ≡ line ∷ lines more → LineRead count (k + 1) old line (Err fault) new → LinesRead count all (Err fault)
line_fails count k old new line more left all (Form n) far parts (is, breaks) =
    subst (λ m. Judges count (lines all) (refused m W1)) (sym is) (line_refused count k old line more left all W1 far parts breaks)
line_fails count k old new line more left all (Range n) far parts (is, breaks) =
    subst (λ m. Judges count (lines all) (refused m W2)) (sym is) (line_refused count k old line more left all W2 far parts breaks)
line_fails count k old new line more left all (Twice n) far parts (is, breaks) =
    subst (λ m. Judges count (lines all) (refused m W3)) (sym is) (line_refused count k old line more left all W3 far parts breaks)
line_fails count k old new line more left all (NoProcess n) far parts (is, breaks) =
    subst (λ m. Judges count (lines all) (refused m W4)) (sym is) (line_refused count k old line more left all W4 far parts breaks)
line_fails count k old new line more left all TooLarge far parts h = h
line_fails count k old new line more left all OutOfMemory far parts h = tt

-- before the first line
pub none_read : (count : ℕ) (s : Said) (all : List ℕ) → s ≡ said [] → IsSoFar count 0 s all all
none_read count s all is = record { front = []; before = []; splits = refl; number = refl; says = refl; kept = none_kept count; said_is = is }

-- behind the last line
pub all_read : (count k : ℕ) (s : Said) (left all : List ℕ) → IsSoFar count k s left all → length left ≡ 0
    → (ds : List Directive) × Judges count (lines all) (accepted ds) × (s ≡ said ds)
all_read count k s [] all far none =
    let whole : lines all ≡ far.front = far.splits ∙ append-nil far.front in
    (far.before, (subst (λ l. Say l far.before) (sym whole) far.says, far.kept), far.said_is)
all_read count k s (b ∷ left) all far none = absurd (omega arith)
