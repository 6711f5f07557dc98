-- `writer::row_start` meets its contract: what is left of the row's own word above the radio, and the words after it, are the radios above.
use Rattle.lists.specs.Kit.{refl, sym, ◌∙◌}
use Rattle.image_writer.proofs.{LinksPut.{row_left_is, links_row}}
use Rattle.image_writer.proofs.writer.row_start.Goals as goal

pub returns-clause-started : goal.returns-clause-started
returns-clause-started c =
    row_left_is (c.args.links.now) (c.args.a) _ _ _
    ∙ sym (links_row (c.args.links.now) (λ j. (c.type_inv.links j).fits) (c.args.a) _ _ (c.requires.0) (c.requires.1)
    c.row_word.ensures refl)
