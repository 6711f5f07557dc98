-- `step::put_places` meets its contract: what is left of the places brings the table to what all of them bring it to.
use Rattle.lists.{specs.Kit.{sym, ap, ℕ, arith, get_or, set}}
use Rattle.lists.{proofs.Loops.{folding_turn, folding_end}, proofs.Range.{get_d_range, length_range}}
use Rattle.links.specs.Steps.{places_put}
use Rattle.links.proofs.step.put_places.Goals as goal

pub loop-i-preserved : goal.loop-i-preserved
loop-i-preserved c =
    folding_turn _ _ _ c.loop-i.places _ c.loop-i.i c.loop-i.invariant (omega (arith, length_range c.args.start c.args.size))
    (ap (λ (p : ℕ). set c.loop-i.places (get_or c.args.order.now p 0) p) (sym (get_d_range c.args.start c.args.size c.loop-i.i c.loop-i-test.true)))

pub returns : goal.returns
unfolding places_put
returns c = folding_end _ _ _ _ _ c.loop-i.invariant (omega (arith, length_range c.args.start c.args.size, c.loop-i-test.false))
