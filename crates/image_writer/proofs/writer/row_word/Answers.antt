-- `writer::row_word` meets its contract: the eight bytes are lent by themselves, so that no test of their place is left.
use Rattle.std.specs.Prelude.{◌+◌, ◌*◌, ◌-◌}
use Rattle.lists.specs.Kit.{◌∙◌, arith}
use Rattle.image_writer.proofs.{LinksPut.{word_of_part}}
use Rattle.image_writer.proofs.writer.row_word.Goals as goal

pub returns : goal.returns
returns c =
    let at = 64 * c.args.a + 8 * c.args.k in
    c.word_of.ensures ∙ word_of_part c.args.links.now at (at + 8 - at) (omega arith) (omega arith)
