-- `machine::take_byte` meets its contract: each way through it is one thing that the machine does with a byte.
use Rattle.std.specs.Prelude.{◌+◌}
use Rattle.lists.specs.Kit.{refl, sym, true, true≢false, not-true, not-false}
use Rattle.player.specs.{Board.{tables_of, answer_of}, Machine.{Marked}, declared.machine.Progress.{Progress}}
use Rattle.player.proofs.{ByteLaws.{byte_over, byte_long, byte_held, byte_call, byte_bad}}
use Rattle.player.proofs.machine.take_byte.Goals as goal

pub returns-then-not-s : goal.returns-then-not-s
unfolding Marked
returns-then-not-s c =
    record {
      radios = refl;
      marked = (λ m. m);
      taken = byte_over c.args.board.now.radios c.args.byte c.args.s (tables_of c.args.board.now) (answer_of c.args.board.now)
          c.args.line.now (not-true c.args.s.live c.if-not-s.true);
    }

pub returns-then-line-s : goal.returns-then-line-s
unfolding Marked
returns-then-line-s c =
    record {
      radios = refl;
      marked = (λ m l f. c.stopped.ensures.fault f);
      taken = byte_long c.args.board.now.radios c.args.byte c.args.s c.stopped.result (tables_of c.args.board.now)
          (answer_of c.args.board.now) c.args.line.now (not-false c.args.s.live c.if-not-s.false) c.if-line-s.true c.stopped.ensures;
    }

pub returns-then-byte-ne10 : goal.returns-then-byte-ne10
unfolding Marked
returns-then-byte-ne10 c =
    let after : Progress = record { number = c.args.s.number; held = c.args.s.held + 1; at = c.args.s.at; live = true; fault = c.args.s.fault } in record {
      radios = refl;
      marked = (λ m l f. true≢false l);
      taken = byte_held c.args.board.now.radios c.args.byte c.args.s after (tables_of c.args.board.now) (answer_of c.args.board.now)
          c.args.line.now (not-false c.args.s.live c.if-not-s.false) c.if-line-s.false c.if-byte-ne10.true refl refl refl refl;
    }

pub returns-in_default : goal.returns-in_default
unfolding Marked
returns-in_default c =
    record {
      radios = c.in_default.ensures.radios;
      marked = (λ m l f. c.stopped-in_default.ensures.fault f);
      taken = byte_bad c.args.board.now.radios c.args.byte c.args.s c.stopped-in_default.result (tables_of c.args.board.now) _
          (answer_of c.args.board.now) _ c.args.line.now (not-false c.args.s.live c.if-not-s.false) c.if-line-s.false c.if-byte-ne10.false
          (sym c.in_default.ensures.call) c.in_default.ensures.played
          c.stopped-in_default.ensures;
    }

pub returns : goal.returns
unfolding Marked
returns c =
    let after : Progress = record { number = c.args.s.number + 1; held = 0; at = c.in-Some.at; live = true; fault = c.args.s.fault } in record {
      radios = c.in-Some.ensures.radios;
      marked = (λ m l f. true≢false l);
      taken = byte_call c.args.board.now.radios c.args.byte c.args.s after (tables_of c.args.board.now) _ (answer_of c.args.board.now) _
          c.args.line.now (not-false c.args.s.live c.if-not-s.false) c.if-line-s.false c.if-byte-ne10.false
          (sym c.in-Some.ensures.call) c.in-Some.ensures.played refl refl refl;
    }
