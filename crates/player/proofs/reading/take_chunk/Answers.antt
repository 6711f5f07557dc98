-- `reading::take_chunk` meets its contract: the bytes passed so far are taken.
use Rattle.lists.specs.Kit.{refl, arith}
use Rattle.player.proofs.ReadingLaws.{chunk_none, chunk_more, chunk_end, marked_room}
use Rattle.player.proofs.reading.take_chunk.Goals as goal

pub loop-byte-init : goal.loop-byte-init
loop-byte-init c = record { line = refl; out = refl; radios = refl; marked = λ m. m; taken = chunk_none _ _ _ _ _ _ c.requires }

pub take_byte-taken-requires : goal.take_byte-taken-requires
take_byte-taken-requires c = omega (arith, c.loop-byte.invariant.taken.ready.number)

pub loop-byte-preserved : goal.loop-byte-preserved
loop-byte-preserved c =
    record {
      line = omega (arith, c.take_byte-taken.auto.line, c.loop-byte.invariant.line);
      out = omega (arith, c.take_byte-taken.auto.out, c.loop-byte.invariant.out);
      radios = omega (arith, c.take_byte-taken.ensures.radios, c.loop-byte.invariant.radios);
      marked = λ m. marked_room _ _ c.make_room-s.ensures (c.take_byte-taken.ensures.marked (c.loop-byte.invariant.marked m));
      taken = chunk_more _ _ _ _ _ _ _ _ _ _ _ _ _ _ _ _ _ _ _ _ c.loop-byte-test.true refl c.loop-byte.invariant.line c.loop-byte.invariant.radios
          (omega (arith, c.take_byte-taken.auto.out)) c.make_room-s.ensures c.loop-byte.invariant.taken
          c.take_byte-taken.ensures.taken;
    }

pub returns : goal.returns
returns c =
    record {
      radios = c.loop-byte.invariant.radios;
      room = c.loop-byte.invariant.taken.ready.at;
      marked = c.loop-byte.invariant.marked;
      taken = chunk_end _ _ _ _ _ _ _ _ _ c.loop-byte-test.false c.loop-byte.invariant.taken;
    }
