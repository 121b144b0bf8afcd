-- The files in memory and what is known of them.
use Rattle.std.proofs.Common.{◌≡◌, ℕ, ◌+◌, ◌<◌, ◌≤◌, List, [], ◌∷◌, ◌++◌, Bool, not, cond, length, map, take, drop, get_or, set, sym, ap, ◌∙◌, refl, subst, Some, Result, Ok, Err, arith, string_bytes, take-append-drop, length-append, length-drop, take-add, drop-drop, take_at, length-take-le, get_or-set_same}
use Rattle.std.specs.declared.string.String.{String}
use Rattle.std.specs.declared.vec.Vec.{Vec}
use Rattle.std.specs.Prelude.{IfOk, OnErr}
use Rattle.std.specs.Option.{option_map_or}
use Rattle.std.specs.List.{position, position_or_len}
use Rattle.std.specs.Str.{bytes_eq}
use Rattle.std.specs.Io.KnownBytes.{Consumes, IsAtEnd}
use Rattle.std.proofs.lemmas.List.{length-map, get_or-map, map-set, nil_from_length}
use Rattle.std.proofs.lemmas.List.Quantifiers.{position-Some}
use Rattle.std.proofs.lemmas.Slice.Eq.{bytes_eq-Decides}
use Rattle.flow_base.specs.MemoryFiles.{FilesState, named_bytes, place_of, file_at, content_of, opening_of, position_at, seen_of, OpensFile, Copies, moved_by, ReadsFile}
use Rattle.flow_base.specs.Seen.{Missing, Bytes, Opening, just_opened, read_on, opening_at, Opens, ReadsOn}
use Rattle.flow_base.proofs.Reading.{reads_none}
use Rattle.flow_base.specs.declared.fault.OutFault.{OutFault}
use Rattle.flow_base.specs.declared.fault.OutFault.TheVariants.{Failed, OutOfMemory}
use Rattle.flow_base.specs.declared.ids.FileNo.{FileNo}
use Rattle.flow_base.specs.declared.mem_files.Position.{Position}

missing_told : {bytes : List ℕ} → Bytes bytes ≡ Missing → ⊥
missing_told e = cc

position_or_len-map : {A B : Type 0} (f : A → B) (p : B → Bool) (xs : List A) → position_or_len p (map f xs) ≡ position_or_len (λ x. p (f x)) xs
position_or_len-map f p [] = refl
position_or_len-map f p (x ∷ xs) = ap (λ n. cond (not (p (f x))) (1 + n) 0) (position_or_len-map f p xs)

position-map : {A B : Type 0} (f : A → B) (p : B → Bool) (xs : List A) → position p (map f xs) ≡ position (λ x. p (f x)) xs
position-map f p xs = grind (arith, position_or_len-map f p xs, length-map xs f)

-- the place of a name among the files as they are stored
pub place_is : {Z W : Type 0} (files : List (String Z × Vec ℕ W)) (name : List ℕ)
    → place_of (map named_bytes files) name ≡ position (λ f. bytes_eq (string_bytes f.0) name) files
unfolding place_of
place_is files name = position-map named_bytes (λ f. bytes_eq f.0 name) files

map-append_one : {A B : Type 0} (f : A → B) (xs : List A) (x : A) → map f (xs ++ x ∷ []) ≡ map f xs ++ f x ∷ []
map-append_one f [] x = refl
map-append_one f (y ∷ ys) x = ap (λ l. f y ∷ l) (map-append_one f ys x)

-- the file at the place of a name has this name
name_is : (files : List (List ℕ × List ℕ)) (name : List ℕ) (k : ℕ) → place_of files name ≡ Some k → (file_at files k).0 ≡ name
unfolding place_of
name_is files name k found =
    let (inside, passes, before) = position-Some (λ f. bytes_eq f.0 name) files k ([], []) found in
    (bytes_eq-Decides (file_at files k).0 name).0 passes

-- what is told of a name that is there
told_there : (files : List (List ℕ × List ℕ)) (name : List ℕ) (k : ℕ) → place_of files name ≡ Some k → content_of files name ≡ Bytes (file_at files k).1
told_there files name k found = ap (λ o. option_map_or (λ k. Bytes (file_at files k).1) o Missing) found

-- an opening in memory is one
pub opens_seen : (s t : FilesState) (name : List ℕ) (answer : Result FileNo OutFault) → OpensFile s name answer t → Opens (seen_of s) name answer (seen_of t)
opens_seen s t name (Ok file) does =
    let told = told_there s.files name does.place does.found in
    let start : Position = record { file = does.place; count = 0 } in
    let opening : opening_of s.files start ≡ just_opened name (content_of s.files name) =
    ap (λ (n : List ℕ). record { name = n; read = []; left = Some (file_at s.files does.place).1 }) (name_is s.files name does.place does.found)
    ∙ ap (just_opened name) (sym told) in
    record {
      there = λ missing. missing_told (sym told ∙ missing);
      number = does.number ∙ sym (length-map s.positions (opening_of s.files));
      openings = ap (λ (v : FilesState). map (opening_of v.files) v.positions) does.rest
          ∙ map-append_one (opening_of s.files) s.positions start
          ∙ ap (λ o. map (opening_of s.files) s.positions ++ o ∷ []) opening;
    }
opens_seen s t name (Err Failed) does = ap (λ (v : FilesState). map (opening_of v.files) v.positions) does.1
opens_seen s t name (Err OutOfMemory) does = ap (λ (v : FilesState). map (opening_of v.files) v.positions) does

-- what a read copies is the front of what is left, and stands at the front of the buffer
copied : (left buffer filled : List ℕ) (n : ℕ) → Copies left buffer filled n → take n filled ≡ take n left
copied left buffer filled n copies =
    let within : n ≤ length left = omega (arith, copies.count) in
    ap (take n) copies.buffer ∙ take_at (take n left) (drop n buffer) n (length-take-le n left within)

-- what an opening has read and what is left of it, after n bytes more
read_further : (files : List (List ℕ × List ℕ)) (p : Position) (n : ℕ) (buffer filled : List ℕ)
    → Copies (drop p.count (file_at files p.file).1) buffer filled n
    → opening_of files (moved_by n p) ≡ read_on (opening_of files p) (take n filled) (Some (drop (p.count + n) (file_at files p.file).1))
read_further files p n buffer filled copies =
    let bytes = (file_at files p.file).1 in
    ap (λ (read : List ℕ). record { name = (file_at files p.file).0; read = read; left = Some (drop (p.count + n) bytes) })
    (take-add p.count n bytes ∙ ap (λ more. take p.count bytes ++ more) (sym (copied (drop p.count bytes) buffer filled n copies)))

consumed_front : (bytes buffer filled : List ℕ) (p n : ℕ) → Copies (drop p bytes) buffer filled n → drop p bytes ≡ take n filled ++ drop (p + n) bytes
consumed_front bytes buffer filled p n copies =
    sym (take-append-drop n (drop p bytes))
    ∙ ap (λ l. l ++ drop n (drop p bytes)) (sym (copied (drop p bytes) buffer filled n copies))
    ∙ ap (λ l. take n filled ++ l) (drop-drop n p bytes)

-- a read in memory is one
reads_more : (s t : FilesState) (k n : ℕ) (buffer filled : List ℕ) → k < length s.positions → ReadsFile s k buffer (Ok n) filled t
    → ReadsOn (seen_of s).openings (seen_of t).openings k (take n filled)
reads_more s t k n buffer filled lt does =
    let p = position_at s.positions k in
    let f = opening_of s.files in
    let bytes = (file_at s.files p.file).1 in
    let lt' : k < length (map f s.positions) = omega (arith, length-map s.positions f) in
    let here : opening_at (map f s.positions) k ≡ f p = get_or-map f s.positions k (record { file = 0; count = 0 }) (just_opened [] Missing) lt in
    record {
      left = Some (drop (p.count + n) bytes);
      consumes = subst (λ (o : Opening). Consumes o.left (Some (drop (p.count + n) bytes)) (take n filled)) (sym here)
          (consumed_front bytes buffer filled p.count n does.bytes);
      openings = ap (λ (v : FilesState). map (opening_of v.files) v.positions) does.rest
          ∙ map-set f s.positions k (moved_by n p)
          ∙ ap (set (map f s.positions) k) (read_further s.files p n buffer filled does.bytes)
          ∙ ap (λ o. set (map f s.positions) k (read_on o (take n filled) (Some (drop (p.count + n) bytes)))) (sym here);
    }

-- a read that gives nothing into a buffer with room is at the end
at_end : (s t : FilesState) (k n : ℕ) (buffer filled : List ℕ) → k < length s.positions → ReadsFile s k buffer (Ok n) filled t
    → n ≡ 0 → 0 < length filled → IsAtEnd (opening_at (seen_of t).openings k).left
unfolding reads_more
at_end s t k n buffer filled lt does none room =
    let p = position_at s.positions k in
    let f = opening_of s.files in
    let bytes = (file_at s.files p.file).1 in
    let rest = drop p.count bytes in
    let long : length filled ≡ length (take n rest) + length (drop n buffer) = ap length does.bytes.buffer ∙ length-append (take n rest) (drop n buffer) in
    let over : length (drop (p.count + n) bytes) ≡ 0 =
    ap length (sym (drop-drop n p.count bytes)) ∙ length-drop n rest
    ∙ omega (arith, does.bytes.count, none, room, long, length-drop n buffer, length-take-le n rest (omega (arith, does.bytes.count))) in
    let left = (reads_more s t k n buffer filled lt does).openings in
    let mine : opening_at (seen_of t).openings k ≡ read_on (opening_at (seen_of s).openings k) (take n filled) (Some (drop (p.count + n) bytes)) =
    ap (λ l. opening_at l k) left ∙ get_or-set_same (seen_of s).openings k _ (just_opened [] Missing) (omega (arith, lt, length-map s.positions f)) in
    subst (λ (o : Opening). IsAtEnd o.left) (sym mine) (nil_from_length (drop (p.count + n) bytes) over)

pub reads_seen : (s t : FilesState) (k : ℕ) (buffer filled : List ℕ) (answer : Result ℕ OutFault) → k < length s.positions → ReadsFile s k buffer answer filled t
    → IfOk answer (λ n. ReadsOn (seen_of s).openings (seen_of t).openings k (take n filled))
reads_seen s t k buffer filled (Ok n) lt does = reads_more s t k n buffer filled lt does
reads_seen s t k buffer filled (Err fault) lt does = tt

pub ends_seen : (s t : FilesState) (k : ℕ) (buffer filled : List ℕ) (answer : Result ℕ OutFault) → k < length s.positions → ReadsFile s k buffer answer filled t
    → IfOk answer (λ n. n ≡ 0 → 0 < length filled → IsAtEnd (opening_at (seen_of t).openings k).left)
ends_seen s t k buffer filled (Ok n) lt does = at_end s t k n buffer filled lt does
ends_seen s t k buffer filled (Err fault) lt does = tt

pub unread_seen : (s t : FilesState) (k : ℕ) (buffer filled : List ℕ) (answer : Result ℕ OutFault) → ReadsFile s k buffer answer filled t
    → OnErr answer (ReadsOn (seen_of s).openings (seen_of t).openings k [])
unread_seen s t k buffer filled (Ok n) does = tt
unread_seen s t k buffer filled (Err Failed) does =
    subst (λ (v : FilesState). ReadsOn (seen_of s).openings (seen_of v).openings k []) (sym does.2) (reads_none (seen_of s).openings k)
unread_seen s t k buffer filled (Err OutOfMemory) does = absurd does
