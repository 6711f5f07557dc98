-- `reading::read_turns` meets its contract: what the reads so far brought is taken, and the others can be.
use Rattle.lists.specs.Kit.{refl, sym, ◌∙◌, arith}
use Rattle.player.specs.Machine.{spot}
use Rattle.player.proofs.{ReadingLaws.{read_none, read_more, read_end, ready_turn, none_is}}
use Rattle.player.proofs.reading.read_turns.Goals as goal

pub loop-done-init : goal.loop-done-init
unfolding spot
loop-done-init g c =
    record {
      line = refl;
      out = refl;
      radios = refl;
      taken = read_none _ _ _ _ _ _ refl (record { at = omega arith; number = omega arith; room = c.requires.out });
    }

pub turn-s-requires : goal.turn-s-requires
turn-s-requires g c =
    let live = c.if-not-s.false in
    record { live = live; ready = ready_turn _ _ _ (omega (arith, c.most-done-end.ensures)) (c.loop-done.invariant.taken.ready live) }

pub loop-done-preserved : goal.loop-done-preserved
unfolding spot
loop-done-preserved g c =
    let live = c.if-not-s.false in
    record {
      line = omega (arith, c.turn-s.auto, c.loop-done.invariant.line);
      out = omega (arith, c.turn-s.auto, c.loop-done.invariant.out);
      radios = omega (arith, c.turn-s.ensures.radios, c.loop-done.invariant.radios);
      taken = read_more _ _ _ _ _ _ _ _ _ _ _ _ _ _ (omega (arith, c.most-done-end.ensures)) c.loop-done.invariant.radios (c.loop-done.invariant.line ∙ c.requires.line) live
          (none_is _ (sym c.is_some.ensures ∙ c.if-is_some.false)) refl refl refl refl (omega (arith, c.turn-s.auto)) c.turn-s.ensures.room c.loop-done.invariant.taken
          c.turn-s.ensures.read;
    }

pub returns : goal.returns
returns g c = read_end _ _ _ _ _ _ _ _ c.requires.start c.loop-done.invariant.taken

pub returns-then-not-s : goal.returns-then-not-s
returns-then-not-s g c = read_end _ _ _ _ _ _ _ _ c.requires.start c.loop-done.invariant.taken

pub returns-then-is_some : goal.returns-then-is_some
returns-then-is_some g c = read_end _ _ _ _ _ _ _ _ c.requires.start c.loop-done.invariant.taken
