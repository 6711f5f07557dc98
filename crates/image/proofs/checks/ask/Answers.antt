-- `checks::ask` meets its contract: each test is a question of the chain, and its "no" the number.
use Rattle.lists.specs.Kit.{eq-eqb, ne_eqb}
use Rattle.mesh.specs.Image.{whole_blocks}
use Rattle.calls.specs.Questions.{ask, blocks_refusal}
use Rattle.image.proofs.checks.ask.Goals as goal

pub returns-then-length-eq0 : goal.returns-then-length-eq0
unfolding blocks_refusal ask whole_blocks
returns-then-length-eq0 c = rw (eq-eqb _ 0 c.if-length-eq0.true)

pub returns-then-length-ne0 : goal.returns-then-length-ne0
unfolding blocks_refusal ask whole_blocks
returns-then-length-ne0 c = rw (ne_eqb _ 0 c.if-length-eq0.false, ne_eqb _ 0 c.if-length-ne0.true)

pub returns-then-not-all_good : goal.returns-then-not-all_good
unfolding blocks_refusal ask whole_blocks
returns-then-not-all_good c =
    rw (
      ne_eqb _ 0 c.if-length-eq0.false,
      eq-eqb _ 0 c.if-length-ne0.false,
      ← c.all_good.ensures,
      c.if-not-all_good.true,
    )

pub returns : goal.returns
unfolding blocks_refusal ask whole_blocks
returns c =
    rw (
      ne_eqb _ 0 c.if-length-eq0.false,
      eq-eqb _ 0 c.if-length-ne0.false,
      ← c.all_good.ensures,
      c.if-not-all_good.false,
    )
