-- `reading::take_read` meets its contract: by what the read found.
use Rattle.lists.specs.Kit.{refl, sym, ◌∙◌, true≢false, arith}
use Rattle.player.specs.{Board.{tables_of, answer_of}, Machine.{Marked}, Reading.{TakesRead}}
use Rattle.player.proofs.{BoardLaws.{numbers_few, order_few}, ReadingLaws.{ready_less, turn_ended, turn_broken, broken_live, broken_at, marked_live}}
use Rattle.player.proofs.reading.take_read.Goals as goal

pub end-requires : goal.end-requires
unfolding tables_of
end-requires c =
    let few = c.args.board.now.few in
    record {
      ready = ready_less (omega arith) c.requires.ready;
      few = (omega (arith, numbers_few c.args.board.now), omega (arith, order_few c.args.board.now));
    }

pub returns-in-End : goal.returns-in-End
unfolding TakesRead tables_of answer_of
returns-in-End c =
    record {
      radios = refl;
      room = λ l. absurd (true≢false (sym l ∙ c.end.ensures.over));
      found = record { going = λ l f. absurd (true≢false (sym l ∙ c.end.ensures.over)); ended = λ l f. c.in-End.is; over = λ l. rw c.in-End.is tt };
      taken = rw c.in-End.is (turn_ended (tables_of c.args.board.now) (answer_of c.args.board.now) _ _ _ c.args.s _ c.requires.live c.end.ensures.over c.end.ensures.closed);
    }

pub returns-in-Failed : goal.returns-in-Failed
unfolding TakesRead
returns-in-Failed c =
    record {
      radios = refl;
      room = λ l. omega (arith, broken_at _ _ c.broken.ensures.value, c.requires.ready.at);
      found = record {
        going = λ l f. absurd (c.broken.ensures.fault f);
        ended = λ l f. absurd (c.broken.ensures.fault f);
        over = λ l. absurd (true≢false (sym c.requires.live ∙ sym (broken_live _ _ c.broken.ensures.value) ∙ l));
      };
      taken = rw c.in-Failed.is (turn_broken _ _ _ _ _ _ c.broken.ensures.value);
    }

pub returns-in-GoesOn : goal.returns-in-GoesOn
unfolding Marked TakesRead
returns-in-GoesOn c =
    record {
      radios = c.take_chunk.ensures.radios;
      room = λ l. c.take_chunk.ensures.room;
      found = record {
        going = λ l f. c.in-GoesOn.is;
        ended = λ l f. absurd (c.take_chunk.ensures.marked (marked_live c.args.s c.requires.live) l f);
        over = λ l. rw c.in-GoesOn.is tt;
      };
      taken = rw c.in-GoesOn.is c.take_chunk.ensures.taken;
    }
