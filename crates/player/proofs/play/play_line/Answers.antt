-- `play::play_line` meets its contract: the cases of the parser are the cases of `Played`.
use Rattle.lists.specs.Kit.{refl}
use Rattle.player.specs.Lines.{is_call}
use Rattle.player.proofs.{LineLaws.{line_calls, up_played, down_played, none_played}}
use Rattle.player.proofs.play.play_line.Goals as goal

pub returns-in-Up : goal.returns-in-Up
unfolding is_call
returns-in-Up c =
    record {
      radios = c.play_call.ensures.radios;
      call = line_calls _ c.parse.ensures c.in-Up.is;
      played = up_played _ _ c.parse.ensures c.in-Up.is c.play_call.ensures.called;
    }

pub returns-in-Down : goal.returns-in-Down
unfolding is_call
returns-in-Down c =
    record {
      radios = c.play_call-in-Down.ensures.radios;
      call = line_calls _ c.parse.ensures c.in-Down.is;
      played = down_played _ _ c.parse.ensures c.in-Down.is c.play_call-in-Down.ensures.called;
    }

pub returns-in-Radios : goal.returns-in-Radios
unfolding is_call
returns-in-Radios c =
    record { radios = refl; call = line_calls _ c.parse.ensures c.in-Radios.is; played = none_played _ _ _ _ _ c.parse.ensures c.in-Radios.is refl }

pub returns-in-Bad : goal.returns-in-Bad
unfolding is_call
returns-in-Bad c =
    record { radios = refl; call = line_calls _ c.parse.ensures c.in-Bad.is; played = none_played _ _ _ _ _ c.parse.ensures c.in-Bad.is refl }
