-- One step more of the generator.
use Rattle.std.proofs.Common.{◌≡◌, ℕ, zero, suc, ◌+◌, ◌-◌, ◌≤◌, refl, ap, sym, ◌∙◌, arith}
use Rattle.rand_pcg.specs.Lcg.{Lcg, state_after, next_state, next, advance}
use Rattle.rand_pcg.specs.Pcg.{multiplier_64}
use Rattle.flow_draw.specs.Words.{generator_of}

-- the last of n + 1 steps comes after n steps
last_step : (w m increment n state : ℕ)
    → state_after w m increment (suc n) state ≡ next_state w m increment (state_after w m increment n state)
unfolding state_after
last_step w m increment zero state = refl
last_step w m increment (suc n) state = last_step w m increment n (next_state w m increment state)

-- the generator after one step more
pub stepped : (seed used listed : ℕ) (g : Lcg) → listed ≤ used → g ≡ advance 64 multiplier_64 (used - listed) (generator_of seed)
    → next 64 multiplier_64 g ≡ advance 64 multiplier_64 (used + 1 - listed) (generator_of seed)
stepped seed used listed g past is =
    let one_more : suc (used - listed) ≡ used + 1 - listed = omega arith in
    let start = generator_of seed in
    ap (next 64 multiplier_64) is
    ∙ ap (λ s. record start { state = s }) (sym (last_step 64 multiplier_64 start.increment (used - listed) start.state))
    ∙ ap (λ k. advance 64 multiplier_64 k start) one_more
