use Rattle.std.proofs.Common.{◌+◌, ◌/◌, ◌%◌, ◌≡◌, ◌∷◌, [], ◌∙◌, arith}
use Rattle.text.proofs.Sets.{part_set}
use Rattle.text.specs.Private.{low_bytes}
use Rattle.text.proofs.put_low_bytes.Goals as goal

pub returns : goal.returns
returns c =
    let n = c.args.n in
    let a : n % 4294967296 % 256 ≡ n % 256 = omega arith in
    let b : n % 4294967296 / 256 % 256 ≡ n / 256 % 256 = omega arith in
    let d : n % 4294967296 / 65536 % 256 ≡ n / 65536 % 256 = omega arith in
    let e : n % 4294967296 / 16777216 % 256 ≡ n / 16777216 % 256 = omega arith in
    part_set c.args.out.now (low_bytes n) _ c.args.at (c.args.at + 4) (c.copy_from_slice.ensures.after ∙ c.to_le_bytes.ensures ∙ (λ i. a i ∷ b i ∷ d i ∷ e i ∷ [])) (omega arith) (omega arith)
