-- `blocks::is_next` meets its contract: the halves of x are the ones of its key, the other way round.
use Rattle.std.specs.Prelude.{◌≡◌, ◌+◌, ◌*◌, ◌/◌, ◌%◌}
use Rattle.lists.specs.Kit.{arith}
use Rattle.image_reader.specs.Site.{next_key}
use Rattle.image_reader.proofs.{ListedLaws.{key_low, key_high}}
use Rattle.image_reader.proofs.blocks.is_next.Goals as goal

pub returns : goal.returns
unfolding next_key
returns c =
    let sum : c.args.x ≡ c.args.x % 65536 + 65536 * (c.args.x / 65536) = omega arith in
    rw (
      key_low c.args.x (c.args.x % 65536) (c.args.x / 65536) sum (omega arith) (omega arith),
      key_high c.args.x (c.args.x % 65536) (c.args.x / 65536) sum (omega arith) (omega arith),
      c.key_of.ensures,
    )
