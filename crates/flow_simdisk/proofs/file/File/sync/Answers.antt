use Rattle.std.proofs.Common.{◌≡◌, ◌∙◌, length, ap, ap₂, sym, subst, rules, arith}
use Rattle.std.specs.Prelude.{fold, vec_len}
use Rattle.flow_simdisk.specs.Disk.{applied, synced}
use Rattle.flow_simdisk.specs.Stored.{all_over, EndsBy, IsThere}
use Rattle.flow_simdisk.proofs.Overlays.{all_reach, all_synced, some_seen}
use Rattle.flow_simdisk.proofs.Whole.{whole_alone}
use Rattle.flow_simdisk.proofs.file.File.sync.Goals as goal

pub put_all_over-requires : goal.put_all_over-requires
put_all_over-requires c =
    let xs = c.self.inside.durable.items in
    let ws = c.self.inside.unsynced.items in
    let long : length c.resize.new.self.items ≡ length c.self.inside.seen.items = search rules in
    let same : length c.resize.new.self.items ≡ length (fold applied xs ws) = long ∙ ap length c.self.invariant.seen_is in
    let reach : EndsBy (length c.resize.new.self.items) ws = subst (λ n. EndsBy n ws) (sym same) (all_reach xs ws c.self.invariant.writes_fit) in
    subst (λ vs. EndsBy (length c.resize.new.self.items) vs) (sym c.deref.ensures.value) reach

pub invariant_of-self-2 : goal.invariant_of-self-2
invariant_of-self-2 c =
    let xs = c.self.inside.durable.items in
    let ws = c.self.inside.unsynced.items in
    let long : c.len.result ≡ length c.self.inside.seen.items = search rules in
    let same : c.len.result ≡ length (fold applied xs ws) = long ∙ ap length c.self.invariant.seen_is in
    let here : vec_len c.self.inside.durable ≡ length xs = search rules in
    let is = c.put_all_over.ensures ∙ ap₂ all_over c.in_ok-resize.ensures.items c.deref.ensures.value
    ∙ all_synced xs ws c.len.result (vec_len c.self.inside.durable) same here c.self.invariant.writes_fit in
    whole_alone _ _ _ c.clear.ensures.items (c.self.invariant.seen_is ∙ sym is) c.self.invariant.seen_fits

pub returns-clause-synced : goal.returns-clause-synced
returns-clause-synced c =
    let xs = c.self.inside.durable.items in
    let ws = c.self.inside.unsynced.items in
    let long : c.len.result ≡ length c.self.inside.seen.items = search rules in
    let same : c.len.result ≡ length (fold applied xs ws) = long ∙ ap length c.self.invariant.seen_is in
    let here : vec_len c.self.inside.durable ≡ length xs = search rules in
    let is = c.put_all_over.ensures ∙ ap₂ all_over c.in_ok-resize.ensures.items c.deref.ensures.value
    ∙ all_synced xs ws c.len.result (vec_len c.self.inside.durable) same here c.self.invariant.writes_fit in
    ap₂ (λ d u. record { durable = d; unsynced = u }) is c.clear.ensures.items ∙ ap synced c.self.view_is

pub returns-clause-there : goal.returns-clause-there
returns-clause-there c =
    λ there.
    let xs = c.self.inside.durable.items in
    let ws = c.self.inside.unsynced.items in
    let was : IsThere (record { durable = xs; unsynced = ws }) = subst IsThere (sym c.self.view_is) there in
    subst (λ f. IsThere (synced f)) c.self.view_is (omega (arith, some_seen xs ws c.self.invariant.writes_fit was))
