-- `writer::close_block` meets its contract: the check's two lower and two upper bytes.
use Rattle.std.specs.Prelude.{◌/◌}
use Rattle.lists.specs.Kit.{ap, ◌∙◌, List, ℕ, sets}
use Rattle.mesh.specs.Image.{word}
use Rattle.image_writer.proofs.{FillerLaws.{sealed_sets}}
use Rattle.image_writer.proofs.writer.close_block.Goals as goal

pub returns : goal.returns
returns c =
    c.put_word-2.ensures ∙ ap (λ (b : List ℕ). sets b 510 (word (c.check_sum-sum.result / 65536))) c.put_word.ensures
    ∙ sealed_sets c.args.part.now c.check_sum-sum.result c.requires c.check_sum-sum.ensures
