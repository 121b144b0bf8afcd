-- Bytes with writes over them, byte by byte.
use Rattle.std.proofs.Common.{◌≡◌, ◌≢◌, ℕ, zero, suc, ◌+◌, ◌-◌, ◌<◌, ◌≤◌, List, [], ◌∷◌, ◌++◌, length, take, drop, get_or, sym, ap, ◌∙◌, refl, arith, replicate, le_refl, ltb-true, ltb-false}
use Rattle.std.specs.Prelude.{Bool, true, false, nat_lt, fold, max, if◌then◌else◌}
use Rattle.std.specs.List.{All}
use Rattle.std.proofs.lemmas.List.{length-append, length-take-le, length-drop, length-replicate, get_or_append_left, get_or-append_right, get_or-take, get_or-drop, ext_get_or, append-nil, take_all}
use Rattle.flow_simdisk.specs.declared.write.Write.{Write}
use Rattle.flow_simdisk.specs.Disk.{padded, over, written, applied}
use Rattle.flow_simdisk.specs.Stored.{all_over, EndsBy, FitsFile}

zero_at : (n i : ℕ) → ◌≡◌ {A = ℕ} (get_or (replicate n 0) i 0) 0
zero_at zero i = refl
zero_at (suc n) zero = refl
zero_at (suc n) (suc i) = zero_at n i

-- zeros behind bytes change none of them
behind_at : (xs : List ℕ) (n i : ℕ) → get_or (xs ++ replicate n 0) i 0 ≡ get_or xs i 0
behind_at [] n i = zero_at n i
behind_at (x ∷ xs) n zero = refl
behind_at (x ∷ xs) n (suc i) = behind_at xs n i

padded_at : (xs : List ℕ) (n i : ℕ) → get_or (padded xs n) i 0 ≡ get_or xs i 0
padded_at xs n i = behind_at xs (n - length xs) i

pub length-padded : (xs : List ℕ) (n : ℕ) → length (padded xs n) ≡ length xs + (n - length xs)
length-padded xs n = length-append xs (replicate (n - length xs) 0) ∙ ap (λ k. length xs + k) (length-replicate (n - length xs) 0)

pub length-over : (xs : List ℕ) (o : ℕ) (ys : List ℕ) → o ≤ length xs → length (over xs o ys) ≡ o + length ys + (length xs - (o + length ys))
length-over xs o ys h =
    omega (
      arith,
      length-append (take o xs ++ ys) (drop (o + length ys) xs),
      length-append (take o xs) ys,
      length-take-le o xs h,
      length-drop (o + length ys) xs,
    )

-- the byte at i of bytes with others over them
abbrev mixed : List ℕ → ℕ → List ℕ → ℕ → ℕ
mixed xs o ys i = if nat_lt i o then get_or xs i 0 else if nat_lt i (o + length ys) then get_or ys (i - o) 0 else get_or xs i 0

over_at : (xs : List ℕ) (o : ℕ) (ys : List ℕ) (i : ℕ) → o ≤ length xs → get_or (over xs o ys) i 0 ≡ mixed xs o ys i
over_at xs o ys i h = by (nat_lt i o) refl (nat_lt i (o + length ys)) refl
  where
    front : length (take o xs ++ ys) ≡ o + length ys
    front = omega (arith, length-append (take o xs) ys, length-take-le o xs h)

    by : (b : Bool) → nat_lt i o ≡ b → (c : Bool) → nat_lt i (o + length ys) ≡ c
        → get_or (over xs o ys) i 0 ≡ (if b then get_or xs i 0 else if c then get_or ys (i - o) 0 else get_or xs i 0)
    by true e c f =
        let lt : i < o = ltb-true i o e in
        let near : i < length (take o xs) = omega (arith, length-take-le o xs h) in
        let inside : i < length (take o xs ++ ys) = omega (arith, front) in
        get_or_append_left (take o xs ++ ys) (drop (o + length ys) xs) 0 i inside
        ∙ get_or_append_left (take o xs) ys 0 i near
        ∙ get_or-take o xs i 0 lt
    by false e true f =
        let ge : o ≤ i = ltb-false i o e in
        let lt : i < o + length ys = ltb-true i (o + length ys) f in
        let inside : i < length (take o xs ++ ys) = omega (arith, front) in
        get_or_append_left (take o xs ++ ys) (drop (o + length ys) xs) 0 i inside
        ∙ get_or-append_right (take o xs) ys o i 0 (length-take-le o xs h) ge
    by false e false f =
        let ge : o + length ys ≤ i = ltb-false i (o + length ys) f in
        let at : o + length ys + (i - (o + length ys)) ≡ i = omega arith in
        get_or-append_right (take o xs ++ ys) (drop (o + length ys) xs) (o + length ys) i 0 front ge
        ∙ get_or-drop (o + length ys) xs (i - (o + length ys)) 0
        ∙ ap (λ k. get_or xs k 0) at

over_padded_at : (xs : List ℕ) (n o : ℕ) (ys : List ℕ) (i : ℕ) → o ≤ length (padded xs n) → get_or (over (padded xs n) o ys) i 0 ≡ mixed xs o ys i
over_padded_at xs n o ys i h =
    over_at (padded xs n) o ys i h
    ∙ ap (λ x. if nat_lt i o then x else if nat_lt i (o + length ys) then get_or ys (i - o) 0 else x) (padded_at xs n i)

-- zeros up to the end of a write serve as well as zeros up to its begin
pub over_longer : (xs : List ℕ) (o : ℕ) (ys : List ℕ) → over (padded xs (max (length xs) (o + length ys))) o ys ≡ over (padded xs o) o ys
over_longer xs o ys =
    let m = max (length xs) (o + length ys) in
    let far : o ≤ length (padded xs m) = omega (arith, length-padded xs m) in
    let near : o ≤ length (padded xs o) = omega (arith, length-padded xs o) in
    let same : length (over (padded xs m) o ys) ≡ length (over (padded xs o) o ys) = omega (
      arith,
      length-over (padded xs m) o ys far,
      length-over (padded xs o) o ys near,
      length-padded xs m,
      length-padded xs o,
    ) in
    ext_get_or 0 _ _ same (λ i lt. over_padded_at xs m o ys i far ∙ sym (over_padded_at xs o o ys i near))

-- zeros behind may be put before or after a write within
over_within : (xs : List ℕ) (o : ℕ) (ys : List ℕ) (n : ℕ) → length xs ≤ n → o + length ys ≤ n
    → over (padded xs n) o ys ≡ padded (over (padded xs o) o ys) n
over_within xs o ys n long ends =
    let far : o ≤ length (padded xs n) = omega (arith, length-padded xs n) in
    let near : o ≤ length (padded xs o) = omega (arith, length-padded xs o) in
    let same : length (over (padded xs n) o ys) ≡ length (padded (over (padded xs o) o ys) n) = omega (
      arith,
      length-over (padded xs n) o ys far,
      length-padded (over (padded xs o) o ys) n,
      length-over (padded xs o) o ys near,
      length-padded xs n,
      length-padded xs o,
    ) in
    ext_get_or 0 _ _ same (λ i lt. over_padded_at xs n o ys i far ∙ sym (padded_at (over (padded xs o) o ys) n i ∙ over_padded_at xs o o ys i near))

-- a write of a byte or more
pub written_over : (xs : List ℕ) (o : ℕ) (ys : List ℕ) → ys ≢ [] → written xs o ys ≡ over (padded xs o) o ys
written_over xs o [] some = absurd (some refl)
written_over xs o (y ∷ ys) some = refl

pub written_fits : (xs : List ℕ) (o : ℕ) (ys : List ℕ) (n : ℕ) → length xs ≤ n → o + length ys ≤ n → length (written xs o ys) ≤ n
written_fits xs o [] n long ends = long
written_fits xs o (y ∷ ys) n long ends =
    let near : o ≤ length (padded xs o) = omega (arith, length-padded xs o) in
    omega (arith, length-over (padded xs o) o (y ∷ ys) near, length-padded xs o)

-- no write makes a file shorter, and none ends past the file
longer : (xs : List ℕ) (o : ℕ) (ys : List ℕ) → length xs ≤ length (written xs o ys)
longer xs o [] = le_refl (length xs)
longer xs o (y ∷ ys) =
    let near : o ≤ length (padded xs o) = omega (arith, length-padded xs o) in
    omega (arith, length-over (padded xs o) o (y ∷ ys) near, length-padded xs o)

reaches : (xs : List ℕ) (o : ℕ) (ys : List ℕ) → ys ≢ [] → o + length ys ≤ length (written xs o ys)
reaches xs o [] some = absurd (some refl)
reaches xs o (y ∷ ys) some =
    let near : o ≤ length (padded xs o) = omega (arith, length-padded xs o) in
    omega (arith, length-over (padded xs o) o (y ∷ ys) near, length-padded xs o)

all_longer : (xs : List ℕ) (ws : List Write) → length xs ≤ length (fold applied xs ws)
all_longer xs [] = le_refl (length xs)
all_longer xs (w ∷ ws) = omega (arith, longer xs w.offset w.text, all_longer (applied xs w) ws)

pub all_reach : (xs : List ℕ) (ws : List Write) → All FitsFile ws → EndsBy (length (fold applied xs ws)) ws
all_reach xs [] fit zero d lt = absurd (omega (arith, lt))
all_reach xs [] fit (suc k) d lt = absurd (omega (arith, lt))
all_reach xs (w ∷ ws) fit zero d lt =
    let first = fit zero w (omega arith) in
    omega (arith, reaches xs w.offset w.text first.0, all_longer (applied xs w) ws)
all_reach xs (w ∷ ws) fit (suc k) d lt =
    all_reach (applied xs w) ws (λ j e l. fit (suc j) e (omega (arith, l))) k d (omega (arith, lt))

self_padded : (xs : List ℕ) → padded xs (length xs) ≡ xs
self_padded xs =
    let none : length xs - length xs ≡ 0 = omega arith in
    rw none (append-nil xs)

over_in_turn : (xs : List ℕ) (ws : List Write) (n : ℕ) → length (fold applied xs ws) ≤ n → All FitsFile ws
    → all_over (padded xs n) ws ≡ padded (fold applied xs ws) n
over_in_turn xs [] n ends fit = refl
over_in_turn xs (w ∷ ws) n ends fit =
    let first = fit zero w (omega arith) in
    let long : length xs ≤ n = omega (arith, longer xs w.offset w.text, all_longer (applied xs w) ws) in
    let near : w.offset + length w.text ≤ n = omega (arith, reaches xs w.offset w.text first.0, all_longer (applied xs w) ws) in
    let is : applied xs w ≡ over (padded xs w.offset) w.offset w.text = written_over xs w.offset w.text first.0 in
    ap (λ bs. all_over bs ws) (over_within xs w.offset w.text n long near ∙ ap (λ bs. padded bs n) (sym is))
    ∙ over_in_turn (applied xs w) ws n ends (λ j e l. fit (suc j) e (omega (arith, l)))

-- all writes put over the durable bytes give the bytes that a program sees
pub all_synced : (xs : List ℕ) (ws : List Write) (n k : ℕ) → n ≡ length (fold applied xs ws) → k ≡ length xs → All FitsFile ws
    → all_over (take n xs ++ replicate (n - k) 0) ws ≡ fold applied xs ws
all_synced xs ws n k e here fit =
    let long : length xs ≤ n = omega (arith, all_longer xs ws, e) in
    ap (λ j. all_over (take n xs ++ replicate (n - j) 0) ws) here
    ∙ ap (λ bs. all_over (bs ++ replicate (n - length xs) 0) ws) (take_all n xs long)
    ∙ over_in_turn xs ws n (omega (arith, e)) fit
    ∙ ap (λ j. padded (fold applied xs ws) j) e
    ∙ self_padded (fold applied xs ws)

-- bytes made long enough for a write, with the write over them
pub put_written : (xs : List ℕ) (o : ℕ) (ys : List ℕ) (n k : ℕ) → n ≡ max (length xs) (o + length ys) → k ≡ length xs → ys ≢ []
    → over (take n xs ++ replicate (n - k) 0) o ys ≡ written xs o ys
put_written xs o ys n k e here some =
    let long : length xs ≤ n = omega (arith, e) in
    ap (λ j. over (take n xs ++ replicate (n - j) 0) o ys) here
    ∙ ap (λ bs. over (bs ++ replicate (n - length xs) 0) o ys) (take_all n xs long)
    ∙ ap (λ j. over (padded xs j) o ys) e
    ∙ over_longer xs o ys
    ∙ sym (written_over xs o ys some)

-- a file with a durable byte or a write has a byte that a program sees
pub some_seen : (xs : List ℕ) (ws : List Write) → All FitsFile ws → 1 ≤ length xs + length ws → 1 ≤ length (fold applied xs ws)
some_seen xs [] fit some = omega (arith, some)
some_seen xs (w ∷ ws) fit some =
    let first = fit zero w (omega arith) in
    omega (arith, some_byte w.text first.0, reaches xs w.offset w.text first.0, all_longer (applied xs w) ws)
  where
    some_byte : (ys : List ℕ) → ys ≢ [] → 1 ≤ length ys
    some_byte [] some = absurd (some refl)
    some_byte (y ∷ ys) some = omega arith
