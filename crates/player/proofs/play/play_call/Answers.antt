-- `play::play_call` meets its contract: the line put is the one of the reply that the call gave.
use Rattle.std.specs.Prelude.{◌≡◌}
use Rattle.lists.specs.Kit.{rules}
use Rattle.std.proofs.Common.{w8, to_z, of_z}
use Rattle.player.specs.Board.{answer_of}
use Rattle.player.proofs.LineLaws.{called_prints}
use Rattle.player.proofs.play.play_call.Goals as goal

pub returns-clause-called : goal.returns-clause-called
unfolding answer_of
returns-clause-called c =
    let step_kept : to_z w8 (of_z w8 c.from-reply.result.step) ≡ c.from-reply.result.step = search rules in
    called_prints _ _ _ _ c.from-reply.result (rw c.from-reply.ensures c.link.ensures.called) step_kept c.put_link_line.ensures
