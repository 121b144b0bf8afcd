-- What the openings of files read.
use Rattle.std.proofs.Common.{◌≡◌, ℕ, ◌+◌, ◌<◌, ◌≤◌, List, [], ◌∷◌, ◌++◌, length, take, set, get_or, sym, subst, ap, ◌∙◌, Option, None, Some, Ok, take_all, append_assoc, append-nil, get_or-set_same, set-set, length-set}
use Rattle.std.specs.Io.KnownBytes.{Consumes, IsAtEnd}
use Rattle.std.proofs.KnownBytes.{Consumes-nil, Consumes-trans}
use lib.Seq.{set-get_or, set-append_seam, get_or-append_seam}
use Rattle.flow_base.specs.Bytes.{AreFirst}
use Rattle.flow_base.specs.Seen.{Missing, Opening, FilesSeen, just_opened, read_on, opening_at, Opens, ReadsOn, ReadsFrom}
use Rattle.flow_base.specs.declared.ids.FileNo.{FileNo}

no_opening : Opening
no_opening = just_opened [] Missing

-- an opening of which nothing was read
pub reads_none : (openings : List Opening) (k : ℕ) → ReadsOn openings openings k []
unfolding no_opening
reads_none openings k =
    let o = opening_at openings k in
    record {
      left = o.left;
      consumes = Consumes-nil o.left;
      openings = sym (ap (λ (bytes : List ℕ). set openings k (record { name = o.name; read = bytes; left = o.left })) (append-nil o.read) ∙ set-get_or openings k no_opening);
    }

-- the opening after a read
pub opening_after : (a b : List Opening) (k : ℕ) (bytes : List ℕ) (reads : ReadsOn a b k bytes) → k < length a
    → opening_at b k ≡ read_on (opening_at a k) bytes reads.left
unfolding no_opening
opening_after a b k bytes reads lt = ap (λ l. opening_at l k) reads.openings ∙ get_or-set_same a k (read_on (opening_at a k) bytes reads.left) no_opening lt

-- one read and then another
pub reads_more : (a b c : List Opening) (k : ℕ) (bytes more : List ℕ) → k < length a → ReadsOn a b k bytes → ReadsOn b c k more
    → ReadsOn a c k (bytes ++ more)
reads_more a b c k bytes more lt first next =
    let o = opening_at a k in
    let was : opening_at b k ≡ read_on o bytes first.left = opening_after a b k bytes first lt in
    let joined : read_on (read_on o bytes first.left) more next.left ≡ read_on o (bytes ++ more) next.left =
    ap (λ (read : List ℕ). record { name = o.name; read = read; left = next.left }) (append_assoc o.read bytes more) in
    record {
      left = next.left;
      consumes = Consumes-trans o.left first.left next.left bytes more first.consumes
          (subst (λ (p : Opening). Consumes p.left next.left more) was next.consumes);
      openings = next.openings
          ∙ ap (λ p. set b k (read_on p more next.left)) was
          ∙ ap (λ l. set l k (read_on (read_on o bytes first.left) more next.left)) first.openings
          ∙ set-set a k (read_on o bytes first.left) (read_on (read_on o bytes first.left) more next.left)
          ∙ ap (set a k) joined;
    }

-- a read that gave nothing
pub reads_no_more : (a b c : List Opening) (k n : ℕ) (bytes buffer : List ℕ) → n ≡ 0 → k < length a → ReadsOn a b k bytes → ReadsOn b c k (take n buffer)
    → ReadsOn a c k bytes
reads_no_more a b c k n bytes buffer none lt first next =
    subst (ReadsOn a c k) (ap (λ m. bytes ++ take m buffer) none ∙ append-nil bytes) (reads_more a b c k bytes (take n buffer) lt first next)

-- a read makes no opening
pub openings_stay : (a b : List Opening) (k : ℕ) (bytes : List ℕ) → ReadsOn a b k bytes → length b ≡ length a
openings_stay a b k bytes reads = ap length reads.openings ∙ length-set a k (read_on (opening_at a k) bytes reads.left)

-- what was read of a file that is at its end
pub first_to_end : (n : ℕ) (a b : Option (List ℕ)) (bytes : List ℕ) → length bytes ≤ n → Consumes a b bytes → IsAtEnd b → AreFirst n a bytes
first_to_end n None b bytes short p end = short
first_to_end n (Some xs) None bytes short p end = elim p [ ]
first_to_end n (Some xs) (Some ys) bytes short p end =
    let whole : xs ≡ bytes = p ∙ ap (λ back. bytes ++ back) end ∙ append-nil bytes in
    sym (ap (take n) whole ∙ take_all n bytes short)

-- what was read by an opening that is at its end
pub end_reached : (a b : List Opening) (k n : ℕ) (bytes : List ℕ) → k < length a → length bytes ≤ n → ReadsOn a b k bytes → IsAtEnd (opening_at b k).left
    → AreFirst n (opening_at a k).left bytes
end_reached a b k n bytes lt short reads end =
    first_to_end n (opening_at a k).left reads.left bytes short reads.consumes
    (subst (λ (p : Opening). IsAtEnd p.left) (opening_after a b k bytes reads lt) end)

-- the last opening is the one that was made
pub opened_last : (before after : FilesSeen) (name : List ℕ) (file : FileNo) → Opens before name (Ok file) after
    → opening_at after.openings file.0 ≡ just_opened name (before.content name)
unfolding no_opening
opened_last before after name file opens =
    let o = just_opened name (before.content name) in
    ap (λ l. opening_at l file.0) opens.openings
    ∙ ap (opening_at (before.openings ++ o ∷ [])) opens.number
    ∙ get_or-append_seam before.openings o [] no_opening

-- a file that was opened, and then read
pub reads_from : (before middle after : FilesSeen) (name bytes : List ℕ) (file : FileNo) → Opens before name (Ok file) middle
    → middle.asked ≡ before.asked ++ name ∷ [] → after.asked ≡ middle.asked → ReadsOn middle.openings after.openings file.0 bytes
    → ReadsFrom before after name bytes
reads_from before middle after name bytes file opens asked no_more reads =
    let o = just_opened name (before.content name) in
    let was = opened_last before middle name file opens in
    record {
      asked = no_more ∙ asked;
      there = opens.there;
      left = reads.left;
      consumes = subst (λ (p : Opening). Consumes p.left reads.left bytes) was reads.consumes;
      openings = reads.openings
          ∙ ap (λ p. set middle.openings file.0 (read_on p bytes reads.left)) was
          ∙ ap (λ l. set l file.0 (read_on o bytes reads.left)) opens.openings
          ∙ ap (λ n. set (before.openings ++ o ∷ []) n (read_on o bytes reads.left)) opens.number
          ∙ set-append_seam before.openings o [] (read_on o bytes reads.left);
    }
