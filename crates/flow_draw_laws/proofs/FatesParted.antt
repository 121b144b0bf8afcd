-- What becomes of a packet, and of the unsynced writes of a disk, by two rows of words: the same, or the words part.
use Rattle.std.proofs.Common.{◌≡◌, ◌≢◌, ◌⊎◌, inl, inr, ℕ, zero, suc, ◌+◌, ◌%◌, Bool, true, false, true≢false, List, [], ◌∷◌, ◌++◌, length, take, fold, nat_lt, if◌then◌else◌, refl, sym, ap, ◌∙◌, subst, arith}
use Rattle.flow_draw.specs.declared.question.Question.TheVariants.{Among}
use Rattle.flow_simnet.specs.declared.packet.Fate.{Fate}
use Rattle.flow_simnet.specs.declared.packet.Fate.TheVariants.{Drawn as LostDraw, At}
use Rattle.flow_simnet.specs.Links as links
use Rattle.flow_simnet.specs.Links.{width, draw_in, questions_of}
use Rattle.flow_simdisk.specs.declared.write.Write.{Write}
use Rattle.flow_simdisk.specs.Disk as disk
use Rattle.flow_simdisk.specs.Disk.{File, Losing, kept_of, written, lose_write, lose_file, lose_next, lose_files, power_lost}
use Rattle.flow_draw_laws.proofs.Parted.{same_or_not, Parted, parted_more, parted_after}

abbrev one_if : Bool → ℕ
one_if b = if b then 1 else 0

one_if_same : (a b : Bool) → one_if a ≡ one_if b → a ≡ b
one_if_same true true h = refl
one_if_same true false h = absurd (omega arith)
one_if_same false true h = absurd (omega arith)
one_if_same false false h = refl

module _ (v w : ℕ → ℕ) where
  -- a packet
  abbrev SplitFate : (loss : ℕ) → (latency : ℕ × ℕ) → Fate → Fate → Type 0
  SplitFate loss latency f g = (f ≡ g) ⊎ Parted v w zero (questions_of loss latency f) (questions_of loss latency g)

  arrives : (loss : ℕ) (latency : ℕ × ℕ) (now : ℕ) → SplitFate loss latency (At (now + draw_in latency (v 1))) (At (now + draw_in latency (w 1)))
  arrives loss latency now = by (same_or_not (v 1 % width latency) (w 1 % width latency))
    where
      by : (v 1 % width latency ≡ w 1 % width latency) ⊎ (v 1 % width latency ≢ w 1 % width latency)
          → SplitFate loss latency (At (now + draw_in latency (v 1))) (At (now + draw_in latency (w 1)))
      by (inl e) = inl (ap (λ d. At (now + (latency.0 + d))) e)
      by (inr d) = inr (refl, inr (refl, inl d))

  abbrev chosen : Bool → (time : ℕ) → Fate
  chosen b time = if b then LostDraw else At time

  chosen_split : (loss : ℕ) (latency : ℕ × ℕ) (now : ℕ) (a b : Bool) → nat_lt (v 0 % 1000) loss ≡ a → nat_lt (w 0 % 1000) loss ≡ b
      → SplitFate loss latency (chosen a (now + draw_in latency (v 1))) (chosen b (now + draw_in latency (w 1)))
  chosen_split loss latency now true true p q = inl refl
  chosen_split loss latency now true false p q = inr (refl, inl (λ h. true≢false (sym p ∙ one_if_same _ _ h ∙ q)))
  chosen_split loss latency now false true p q = inr (refl, inl (λ h. true≢false (sym q ∙ sym (one_if_same _ _ h) ∙ p)))
  chosen_split loss latency now false false p q = arrives loss latency now

  pub fates_split : (cut : Bool) (loss : ℕ) (latency : ℕ × ℕ) (now : ℕ)
      → SplitFate loss latency (links.fate_by cut loss latency now v) (links.fate_by cut loss latency now w)
  fates_split true loss latency now = inl refl
  fates_split false loss latency now = chosen_split loss latency now _ _ refl refl

  -- a write
  abbrev SplitKept : (k : ℕ) → disk.Fate → disk.Fate → Type 0
  SplitKept k f g = (f ≡ g) ⊎ Parted v w k f.asked g.asked

  kept_by : (k size r : ℕ) → SplitKept k (disk.fate_by r size (v (suc k))) (disk.fate_by r size (w (suc k)))
  kept_by k size zero = inl refl
  kept_by k size (suc zero) = inl refl
  kept_by k size (suc (suc n)) = by (same_or_not (v (suc k) % size) (w (suc k) % size))
    where
      by : (v (suc k) % size ≡ w (suc k) % size) ⊎ (v (suc k) % size ≢ w (suc k) % size)
          → SplitKept k (disk.fate_by (suc (suc n)) size (v (suc k))) (disk.fate_by (suc (suc n)) size (w (suc k)))
      by (inl e) = inl (ap (λ r. record { kept = r; asked = Among 3 ∷ Among size ∷ [] }) e)
      by (inr d) = inr (refl, inr (refl, inl d))

  -- whatever is kept of a write, one of three is asked first
  kept_otherwise : (k size r s m n : ℕ) → v k % 3 ≢ w k % 3 → Parted v w k (disk.fate_by r size m).asked (disk.fate_by s size n).asked
  kept_otherwise k size zero zero m n d = (refl, inl d)
  kept_otherwise k size zero (suc zero) m n d = (refl, inl d)
  kept_otherwise k size zero (suc (suc s)) m n d = (refl, inl d)
  kept_otherwise k size (suc zero) zero m n d = (refl, inl d)
  kept_otherwise k size (suc zero) (suc zero) m n d = (refl, inl d)
  kept_otherwise k size (suc zero) (suc (suc s)) m n d = (refl, inl d)
  kept_otherwise k size (suc (suc r)) zero m n d = (refl, inl d)
  kept_otherwise k size (suc (suc r)) (suc zero) m n d = (refl, inl d)
  kept_otherwise k size (suc (suc r)) (suc (suc s)) m n d = (refl, inl d)

  kept_split : (k : ℕ) (t : Write) → SplitKept k (disk.fate v k t) (disk.fate w k t)
  kept_split k t = by (same_or_not (v k % 3) (w k % 3))
    where
      by : (v k % 3 ≡ w k % 3) ⊎ (v k % 3 ≢ w k % 3) → SplitKept k (disk.fate v k t) (disk.fate w k t)
      by (inl e) = subst (λ r. SplitKept k (disk.fate v k t) (disk.fate_by r (length t.text) (w (suc k)))) e (kept_by k (length t.text) (v k % 3))
      by (inr d) = inr (kept_otherwise k (length t.text) (v k % 3) (w k % 3) (v (suc k)) (w (suc k)) d)

  -- all writes of a file, and all files
  abbrev pub SplitLosing : {X : Type 0} → Losing X → Losing X → Type 0
  SplitLosing l m = (l ≡ m) ⊎ Parted v w zero l.asked m.asked

  abbrev lost_by : List ℕ → Losing (List ℕ) → Write → disk.Fate → Losing (List ℕ)
  lost_by x l t f = record {
    left = written l.left t.offset (take f.kept t.text);
    asked = l.asked ++ f.asked;
    fates = l.fates ++ kept_of x t f.kept ∷ [];
  }

  write_lost : (x : List ℕ) (l : Losing (List ℕ)) (t : Write) → SplitLosing (lose_write v x l t) (lose_write w x l t)
  write_lost x l t = by _ _ (kept_split (length l.asked) t)
    where
      by : (f g : disk.Fate) → SplitKept (length l.asked) f g → SplitLosing (lost_by x l t f) (lost_by x l t g)
      by f g (inl e) = inl (ap (lost_by x l t) e)
      by f g (inr h) = inr (parted_after v w zero (length l.asked) l.asked f.asked g.asked (omega arith) h)

  write_split : (x : List ℕ) (l m : Losing (List ℕ)) (t : Write) → SplitLosing l m → SplitLosing (lose_write v x l t) (lose_write w x m t)
  write_split x l m t (inl e) = subst (λ n. SplitLosing (lose_write v x l t) (lose_write w x n t)) e (write_lost x l t)
  write_split x l m t (inr h) = inr (parted_more v w zero l.asked m.asked _ _ h)

  writes_split : (x : List ℕ) (l m : Losing (List ℕ)) (ts : List Write) → SplitLosing l m → SplitLosing (fold (lose_write v x) l ts) (fold (lose_write w x) m ts)
  writes_split x l m [] h = h
  writes_split x l m (t ∷ ts) h = writes_split x (lose_write v x l t) (lose_write w x m t) ts (write_split x l m t h)

  writes_parted : (x : List ℕ) (l m : Losing (List ℕ)) (ts : List Write) → Parted v w zero l.asked m.asked
      → Parted v w zero (fold (lose_write v x) l ts).asked (fold (lose_write w x) m ts).asked
  writes_parted x l m [] h = h
  writes_parted x l m (t ∷ ts) h = writes_parted x (lose_write v x l t) (lose_write w x m t) ts (parted_more v w zero l.asked m.asked _ _ h)

  abbrev Files : Type 0
  Files = List (List ℕ × File)

  abbrev named : (ℕ → ℕ) → Losing Files → List ℕ × File → Losing Files
  named word l f = lose_next l.left f.0 (lose_file word l.asked l.fates f.0 f.1)

  file_lost : (l : Losing Files) (f : List ℕ × File) → SplitLosing (named v l f) (named w l f)
  file_lost l f = by _ _ (writes_split f.0 _ _ f.1.unsynced (inl refl))
    where
      by : (a b : Losing (List ℕ)) → SplitLosing a b → SplitLosing (lose_next l.left f.0 a) (lose_next l.left f.0 b)
      by a b (inl e) = inl (ap (lose_next l.left f.0) e)
      by a b (inr h) = inr h

  file_split : (l m : Losing Files) (f : List ℕ × File) → SplitLosing l m → SplitLosing (named v l f) (named w m f)
  file_split l m f (inl e) = subst (λ n. SplitLosing (named v l f) (named w n f)) e (file_lost l f)
  file_split l m f (inr h) = inr (writes_parted f.0 _ _ f.1.unsynced h)

  files_split : (l m : Losing Files) (fs : Files) → SplitLosing l m → SplitLosing (lose_files v l fs) (lose_files w m fs)
  files_split l m [] h = h
  files_split l m (f ∷ fs) h = files_split (named v l f) (named w m f) fs (file_split l m f h)

  pub losses_split : (fs : Files) → SplitLosing (power_lost v fs) (power_lost w fs)
  losses_split fs = files_split _ _ fs (inl refl)
