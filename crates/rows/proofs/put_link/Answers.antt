-- `rows::put_link` meets its contract: two calls of `put_bit`, with the ends exchanged.
use Rattle.lists.specs.Kit.{ap, ◌∙◌}
use Rattle.mesh.specs.Tables.{put_bit, put_link}
use Rattle.rows.proofs.put_link.Goals as goal

pub returns : goal.returns
unfolding put_link
returns c = c.put_bit-2.ensures ∙ ap (put_bit c.args.up c.args.b c.args.a) c.put_bit.ensures
