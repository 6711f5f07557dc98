-- `play::link_parts` meets its contract: what the call leaves of a part is in front of the table.
use Rattle.player.proofs.BoardLaws.{part_written}
use Rattle.player.proofs.play.link_parts.Goals as goal

pub returns : goal.returns
returns c =
    rw (
      part_written _ _ _ c.requires.links c.link.auto.links,
      part_written _ _ _ c.requires.numbers c.link.auto.numbers,
      part_written _ _ _ c.requires.order c.link.auto.order,
      part_written _ _ _ c.requires.answer c.link.auto.answer,
    )
    c.link.ensures
