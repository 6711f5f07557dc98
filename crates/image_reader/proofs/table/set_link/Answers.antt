-- `table::set_link` meets its contract: two bits, with the ends exchanged.
use Rattle.lists.specs.Kit.{ap, ◌∙◌, true}
use Rattle.mesh.specs.Tables.{put_bit, put_link}
use Rattle.image_reader.proofs.table.set_link.Goals as goal

pub returns : goal.returns
unfolding put_link
returns c = c.set_bit-2.ensures ∙ ap (put_bit true c.args.b c.args.a) c.set_bit.ensures
