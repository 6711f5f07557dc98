-- `reading::turn` meets its contract: what the read brought is handed on, and is at most what a read can bring.
use Rattle.lists.specs.Kit.{arith, rules}
use Rattle.player.proofs.{ReadingLaws.{ready_less, reads_once}}
use Rattle.player.proofs.reading.turn.Goals as goal

pub take_read-requires : goal.take_read-requires
take_read-requires g c =
    record { live = c.requires.live; ready = ready_less (omega (arith, c.read-got.ensures.counts.0, c.read-got.ensures.counts.1)) c.requires.ready }

pub returns : goal.returns
returns g c =
    record {
      radios = c.take_read.ensures.radios;
      room = c.take_read.ensures.room;
      read = reads_once _ _ _ _ _ _ _ _ _ _ _ c.read-got.ensures.counts.0 (search rules) c.read-got.ensures.found c.take_read.ensures.found
          c.take_read.ensures.taken;
    }
