use Rattle.std.proofs.Common.{◌<◌, ◌≤◌, ◌+◌, ◌*◌, ◌^◌, ℕ, arith, lit<}
use Rattle.std.proofs.Math.Nat.{pow-le-pow_right}
use Rattle.std.proofs.lemmas.Grind.{common_steps, pow_more}
use Rattle.rx_file.proofs.texts.value_of.Goals as goal

-- at most 38 digits stay below 2 ^ 128
small : (value index count : ℕ) → value < 10 ^ index → index < count → count ≤ 38 → 10 * value + 9 < 2 ^ 128
small value index count below within few =
    let more : 10 ^ (index + 1) ≤ 10 ^ 38 = pow-le-pow_right {n = 10} (lit< tt) {i = index + 1} {j = 38} (omega arith) in
    omega (arith, pow_more 10 index)

pub overflow_mul-value : goal.overflow_mul-value
overflow_mul-value c =
    let room = small _ _ _ c.loop-byte.invariant.bound c.loop-byte-test.true c.requires.few in
    omega arith

pub overflow_add-value : goal.overflow_add-value
overflow_add-value c =
    let room = small _ _ _ c.loop-byte.invariant.bound c.loop-byte-test.true c.requires.few in
    grind (arith, common_steps)
