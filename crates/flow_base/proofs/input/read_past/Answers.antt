-- One read more, the end of the file, and the limit.
use Rattle.std.proofs.Common.{rules, true, ap, ◌∙◌, drop, ◌≡◌, ◌+◌, ◌≤◌, ◌<◌, List, ℕ, ◌++◌, length, take, subst, sym, arith, length-append, [], append-nil}
use Rattle.std.specs.Prelude.{is_ok, if◌then◌else◌}
use lib.Seq.{take-append-le}
use Rattle.flow_base.specs.Seen.{ReadsOn}
use Rattle.flow_base.proofs.Reading.{reads_none, reads_more, reads_no_more, openings_stay, end_reached}
use Rattle.flow_base.proofs.input.read_past.Goals as goal

pub loop-file-init : goal.loop-file-init
loop-file-init g c =
    let openings = (g.F.Files.seen c.args.files.now).openings in
    record {
      read = subst (ReadsOn openings openings c.args.file.0) (sym c.new-bytes.ensures.items) (reads_none openings c.args.file.0);
      within = search rules;
      is_open = c.requires;
      content = search rules;
      asked = search rules;
      no_fault = search rules;
    }

pub returns-then-count-eq0-clause-read : goal.returns-then-count-eq0-clause-read
returns-then-count-eq0-clause-read g c =
    reads_no_more _ _ _ _ _ _ _ c.if-count-eq0.true c.requires c.loop-file.invariant.read c.in_ok-count.ensures.reads

pub returns-then-count-eq0-clause-bytes : goal.returns-then-count-eq0-clause-bytes
returns-then-count-eq0-clause-bytes g c =
    end_reached _ _ _ _ _ c.requires c.loop-file.invariant.within
    (reads_no_more _ _ _ _ _ _ _ c.if-count-eq0.true c.requires c.loop-file.invariant.read c.in_ok-count.ensures.reads)
    (c.in_ok-count.ensures.end c.if-count-eq0.true (search rules))

pub returns-then-count-eq0-clause-within : goal.returns-then-count-eq0-clause-within
returns-then-count-eq0-clause-within g c = (
  c.loop-file.bytes.items,
  c.loop-file.invariant.within,
  reads_no_more _ _ _ _ _ _ _ c.if-count-eq0.true c.requires c.loop-file.invariant.read c.in_ok-count.ensures.reads,
)

pub returns-in_err-count-clause-within : goal.returns-in_err-count-clause-within
returns-in_err-count-clause-within g c =
    let old = c.loop-file.bytes.items in
    let short = subst (λ l. length l ≤ c.args.limit + 1) (sym (append-nil old)) c.loop-file.invariant.within in
    (old ++ [], short, reads_more _ _ _ _ old [] c.requires c.loop-file.invariant.read c.in_err-count.ensures.unread)

pub returns-then-is_err-clause-within : goal.returns-then-is_err-clause-within
returns-then-is_err-clause-within g c =
    let old = c.loop-file.bytes.items in
    let more : List ℕ = take c.in_ok-count.count c.read.new.buf in
    let short : length (old ++ more) ≤ c.args.limit + 1 = grind (arith, rules, length-append old more) in
    (old ++ more, short, reads_more _ _ _ _ _ _ c.requires c.loop-file.invariant.read c.in_ok-count.ensures.reads)

pub loop-file-preserved : goal.loop-file-preserved
loop-file-preserved g c =
    let old = c.loop-file.bytes.items in
    let more : List ℕ = take c.in_ok-count.count c.read.new.buf in
    let n = c.in_ok-count.count in
    let buffer = c.read.new.buf in
    let tail = drop (c.min-room.result + 1) c.loop-file.buf in
    let fine : is_ok c.extend_from_slice.result ≡ true = search rules in
    let gained : c.extend_from_slice.new.self.items ≡ old ++ more =
    c.extend_from_slice.ensures.items
    ∙ ap (λ b. if b then old ++ take n (buffer ++ tail) else old) fine
    ∙ ap (λ l. old ++ l) (take-append-le n buffer tail c.in_ok-count.ensures.count) in
    let stay = openings_stay _ _ _ _ c.in_ok-count.ensures.reads in
    let openings = (g.F.Files.seen c.args.files.now).openings in
    let after = (g.F.Files.seen c.read.new.self).openings in
    record {
      read = subst (ReadsOn openings after c.args.file.0) (sym gained) (reads_more _ _ _ _ _ _ c.requires c.loop-file.invariant.read c.in_ok-count.ensures.reads);
      within = grind (arith, rules, length-append old more);
      is_open = subst (λ n. c.args.file.0 < n) (sym stay) c.loop-file.invariant.is_open;
      content = search rules;
      asked = search rules;
      no_fault = search rules;
    }
