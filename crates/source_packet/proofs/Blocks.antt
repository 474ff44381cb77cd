-- Which blocks stand in a payload. Assumes nothing.
use Prim.Native.Nat.{ℕ, zero, suc, ◌+◌, ◌*◌, ◌≤◌, ◌<◌}
use mathlib.Core.Path.{◌≡◌, sym, ap, ◌∙◌}
use mathlib.Core.List.{List}
use native.Mathlib.Nat.{suc-mul, le-div_iff_mul-le, div-lt_iff_lt-mul, mul-le-mul}
use native.Mathlib.Omega.{arith}
use lib.ListN.{length, drop}
use lib.Seq.{take-take}
use Rattle.wire.specs.Numbers.{number, number_at, number_or_0}
use Rattle.wire.proofs.Numbers.{there}
use Rattle.frame.specs.declared.layout.Cip.{Cip}
use Rattle.frame.specs.Checks.{block_bytes}
use Rattle.frame.specs.Reading.{blocks_of}
use Rattle.frame.proofs.Groups.{block_some}
use Rattle.source_packet.specs.Blocks.{blocks_in, block_at}

quadlet : (dbs : ℕ) → 4 ≤ block_bytes dbs
unfolding block_bytes
quadlet dbs = omega (arith, block_some dbs)

block_limit : (dbs : ℕ) → dbs < 256 → block_bytes dbs ≤ 1024
unfolding block_bytes
block_limit zero h = omega arith
block_limit (suc n) h = omega arith

-- where one of the first 256 blocks ends
pub end_limit : (i dbs : ℕ) → i < 256 → dbs < 256 → (i + 1) * block_bytes dbs ≤ 256 * 1024
end_limit i dbs h k = mul-le-mul {n₁ = i + 1} {n₂ = 256} (omega (arith, h)) (block_limit dbs k)

module _ (c : Cip) (payload : List ℕ) (i : ℕ) where
  -- block i is there where the payload goes on to its end
  pub inside : (i + 1) * block_bytes c.dbs ≤ length payload → i < blocks_in c payload
  unfolding blocks_of
  inside h = omega (arith, (le-div_iff_mul-le {x = i + 1} {y = length payload} (block_some c.dbs)).1 h)

  pub outside : length payload < (i + 1) * block_bytes c.dbs → blocks_in c payload ≤ i
  unfolding blocks_of
  outside h = omega (arith, (div-lt_iff_lt-mul {x = length payload} {y = i + 1} (block_some c.dbs)).1 h)

  module _ (h : i < blocks_in c payload) where
    pub within : i * block_bytes c.dbs + block_bytes c.dbs ≤ length payload
    unfolding blocks_of
    within = omega (arith, suc-mul i (block_bytes c.dbs), (le-div_iff_mul-le {x = suc i} {y = length payload} (block_some c.dbs)).0 h)

    -- its first four bytes are read
    pub opening : number_or_0 (i * block_bytes c.dbs) 4 payload ≡ number_at 0 4 (block_at c payload i)
    opening =
        let at = i * block_bytes c.dbs in
        let four = quadlet c.dbs in
        there number at 4 payload (omega (arith, within, four)) ∙ ap number (sym (take-take 4 (block_bytes c.dbs) (drop at payload) four))
