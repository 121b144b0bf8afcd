-- What follows from an answer for a text.
use Rattle.std.proofs.Common.{◌≡◌, ℕ, List, ◌≤◌, length, Result, Ok, Err, ap, sym, ◌∙◌, refl, arith}
use Rattle.std.specs.Result.{IfOk, MatchResult}
use Rattle.flow_worldfile.specs.declared.world.World0.{World0}
use Rattle.flow_worldfile.specs.declared.world.WorldFault.{WorldFault}
use Rattle.flow_worldfile.specs.declared.world.WorldFault.TheVariants.{Form, Range, Twice, NoProcess, TooLarge, OutOfMemory}
use Rattle.flow_worldfile.specs.Worlds.{World, seen, said, world_of, IsInRange}
use Rattle.flow_worldfile.specs.declared.TheConstants.{WORLD_BYTES}
use Rattle.flow_worldfile.specs.Reading.{Rule, W1, W2, W3, W4, accepted, refused, IsFileOf, IsRefused, ReadsWorld}
use Rattle.flow_worldfile.proofs.OneVerdict.{one_verdict}
use Rattle.flow_worldfile.proofs.KeptLemmas.{file_in_range}

pub in_range : (bytes : List ℕ) (r : Result World0 WorldFault) → ReadsWorld bytes r → IfOk r (λ world. IsInRange (seen world))
in_range bytes (Ok world) h = file_in_range bytes (seen world) h.1
in_range bytes (Err fault) h = tt

-- a text is no file of two worlds
one_world : (bytes : List ℕ) (v w : World) → IsFileOf bytes v → IsFileOf bytes w → v ≡ w
one_world bytes v w (ds, judged, is) (es, there, says) =
    let same : accepted ds ≡ accepted es = one_verdict bytes (accepted ds) (accepted es) judged there in
    let lines_same : ds ≡ es = cc in
    is ∙ ap (λ l. world_of (said l)) lines_same ∙ sym says

-- a world file isn't refused
not_refused : (bytes : List ℕ) (w : World) (line : ℕ) (rule : Rule) → IsFileOf bytes w → IsRefused bytes line rule → ⊥
not_refused bytes w line rule (ds, judged, is) h =
    let same : accepted ds ≡ refused line rule = one_verdict bytes (accepted ds) (refused line rule) judged h.1 in
    absurd (cc)

pub is_read : (bytes : List ℕ) (r : Result World0 WorldFault) → ReadsWorld bytes r → (w : World) → IsFileOf bytes w → length bytes ≤ WORLD_BYTES
    → MatchResult r (λ world. seen world ≡ w) (λ fault. fault ≡ OutOfMemory)
is_read bytes (Ok world) h w file small = one_world bytes (seen world) w h.1 file
is_read bytes (Err (Form n)) h w file small = absurd (not_refused bytes w n W1 file h)
is_read bytes (Err (Range n)) h w file small = absurd (not_refused bytes w n W2 file h)
is_read bytes (Err (Twice n)) h w file small = absurd (not_refused bytes w n W3 file h)
is_read bytes (Err (NoProcess n)) h w file small = absurd (not_refused bytes w n W4 file h)
is_read bytes (Err TooLarge) h w file small = absurd (omega arith)
is_read bytes (Err OutOfMemory) h w file small = refl
