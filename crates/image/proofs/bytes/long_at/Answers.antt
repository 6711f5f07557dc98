-- `bytes::long_at` meets its contract: two words of two bytes.
use Rattle.std.specs.Prelude.{◌≡◌, ◌+◌}
use Rattle.lists.specs.Kit.{arith}
use Rattle.mesh.specs.Image.{word_at}
use Rattle.image.proofs.bytes.long_at.Goals as goal

pub returns : goal.returns
unfolding word_at
returns c =
    let last : c.args.at + 2 + 1 ≡ c.args.at + 3 = omega arith in
    rw last (omega arith, omega arith, omega arith)
