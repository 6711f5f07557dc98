-- `writer::fill_links` meets its contract: head and links stand in the part, zeros after them, and the block is sealed.
use Rattle.std.specs.Prelude.{◌-◌}
use Rattle.lists.specs.Kit.{ap, ◌∙◌, arith, length, length-set}
use Rattle.image_writer.specs.Filler.{sealed}
use Rattle.image_writer.proofs.{FillerLaws.{zeros_put}, BlockFilling.{links_sealed, next_full}}
use Rattle.image_writer.proofs.writer.fill_links.Goals as goal

pub returns-clause-filled : goal.returns-clause-filled
returns-clause-filled c =
    let long = c.put_links-next.auto.part ∙ (simp length-set at c.put_word.auto.part) ∙ c.requires.0 in
    links_sealed c.put_links-next.ensures.put (next_full c.put_links-next.ensures.stopped) _ c.args.part.now c.requires.0
    (rw c.byte.ensures at c.put_word.ensures) _
    (c.close_block.ensures ∙ ap sealed (zeros_put c.put_links-next.new.part _ c.put_links-next.result.at
    (length c.put_links-next.new.part - c.put_links-next.result.at) long (omega (arith, c.put_links-next.ensures.put.within)) (omega (arith, long))
    c.fill.ensures))
