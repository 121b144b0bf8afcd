-- Events that run without a line, one by one.
use Rattle.std.proofs.Common.{◌≡◌, ℕ, zero, suc, ◌+◌, ◌<◌, false, refl, sym, ap, ◌∙◌, subst, arith}
use Rattle.std.specs.Prelude.{Ok, Err}
use Rattle.std.specs.declared.option.Option.{Option}
use Rattle.std.specs.declared.option.Option.TheVariants.{None}
use Rattle.flow_machine.specs.declared.host.RunFault.{RunFault}
use Rattle.flow_world.specs.declared.ending.Ending.{Ending}
use Rattle.flow_world.specs.declared.event.Event.TheVariants.{Ran}
use Rattle.flow_world.specs.declared.silence.Silence.{Silence}
use Rattle.flow_world.specs.Ending.{Seen, MeansEvent}
use Rattle.flow_world.specs.FaultedLines.{Telling, tells, whole}
use Rattle.flow_world.specs.Around.{no_line}
use Rattle.flow_world.specs.Happening.{EventDoes}
use Rattle.flow_world.specs.BreakingEvents.{EventFails}
use Rattle.flow_world.specs.Tracing.{no_event, one_more, last_answer}
use Rattle.flow_world.specs.Skipping.{unkept, Skips, SkipsToEnd, SkipFails}

pub skips_none : (w : Seen) (a : Silence) → Skips zero w w a
skips_none w a = let e : w.ran ≡ w.ran + 0 = omega arith in record { first = a; runs = no_event; counted = e }

pub skips_one : (n : ℕ) (w u v : Seen) (a b : Silence) → Skips n w u a → EventDoes (tells unkept) Ran u (whole a) v (whole b) → v.ran ≡ u.ran + 1 → Skips (n + 1) w v b
skips_one n w u v a b t does ran =
    let e : v.ran ≡ w.ran + (n + 1) = omega (arith, ran, t.counted) in
    record { first = t.first; runs = one_more t.runs does no_line; counted = e }

pub skips_end : (n most : ℕ) (e : Ending) (w u v : Seen) (a b : Silence) → n < most → Skips n w u a → EventDoes (tells unkept) (last_answer e) u (whole a) v (whole b)
    → SkipsToEnd most w e v
skips_end n most e w u v a b fewer t does = record { many = n; fewer = fewer; last = u; before = a; after = b; skips = t; ends = does }

pub skip_fails : (n most : ℕ) (w u : Seen) (f : RunFault) (a b : Silence) → n < most → Skips n w u a
    → (t : Telling Silence) × (t.out ≡ b) × EventFails unkept u (whole a) f t → SkipFails most w f
skip_fails n most w u f a b fewer so_far x = record { many = n; fewer = fewer; last = u; before = a; left = x.0; skips = so_far; fails = x.2 }
