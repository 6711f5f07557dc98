-- `site::run_maxima` meets its contract: the radios passed have their maximum.
use Rattle.lists.specs.Kit.{refl, arith}
use Rattle.image_reader.proofs.MaximaLaws.{running_turn, running_end, entry_room}
use Rattle.image_reader.proofs.site.run_maxima.Goals as goal

pub bounds-counts-v : goal.bounds-counts-v
bounds-counts-v c = entry_room c.args.order.now c.requires.0 _ c.loop-radio-test.true _ _ c.requires.1 refl

pub bounds-cores-v : goal.bounds-cores-v
bounds-cores-v c = entry_room c.args.order.now c.requires.0 _ c.loop-radio-test.true _ _ c.requires.2 c.loop-radio.invariant.long

pub loop-radio-preserved : goal.loop-radio-preserved
loop-radio-preserved c = running_turn c.loop-radio.invariant c.requires.0 (omega arith) c.requires.2 _ c.larger-top.ensures

pub returns : goal.returns
returns c = running_end _ _ _ _ _ _ c.loop-radio.invariant (omega arith)
