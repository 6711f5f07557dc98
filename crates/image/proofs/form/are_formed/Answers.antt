-- `form::are_formed` meets its contract: the blocks passed are formed, so what is left decides.
use Rattle.lists.specs.Kit.{sym, ap₂, ◌∙◌, Bool, arith}
use Rattle.image.specs.Form.{block_formed, blocks_formed}
use Rattle.image.proofs.{CheckLaws.{testing_turn, testing_stop, testing_end}}
use Rattle.image.proofs.form.are_formed.Goals as goal

pub returns-then-not-is_block : goal.returns-then-not-is_block
unfolding blocks_formed
returns-then-not-is_block c =
    let formed = c.is_block.ensures
    ∙ ap₂ {C = Bool} (λ k u. block_formed c.args.image.now c.loop-i.i k u) c.shape_of-shape.ensures.0 c.shape_of-shape.ensures.1 in
    sym (testing_stop _ _ _ c.loop-i.invariant (omega arith) (sym formed ∙ c.if-not-is_block.true))

pub loop-i-preserved : goal.loop-i-preserved
loop-i-preserved c =
    let formed = c.is_block.ensures
    ∙ ap₂ {C = Bool} (λ k u. block_formed c.args.image.now c.loop-i.i k u) c.shape_of-shape.ensures.0 c.shape_of-shape.ensures.1 in
    testing_turn _ _ _ c.loop-i.invariant (omega arith) (sym formed ∙ c.if-not-is_block.false)

pub returns : goal.returns
unfolding blocks_formed
returns c = sym (testing_end _ _ _ c.loop-i.invariant (omega arith))
