-- `writer::open_block` meets its contract: zeros, then the kind and the index.
use Rattle.lists.specs.Kit.{ap, ◌∙◌, ℕ, replicate}
use Rattle.image_writer.specs.Filler.{opened}
use Rattle.image_writer.proofs.{FillerLaws.{opened_sets}}
use Rattle.image_writer.proofs.writer.open_block.Goals as goal

pub returns : goal.returns
returns c =
    c.put_word.ensures ∙ opened_sets c.byte.result c.args.index c.fill.new.d
    (c.fill.ensures ∙ ap (λ (k : ℕ). replicate {A = ℕ} k 0) c.requires)
    ∙ ap (λ (k : ℕ). opened k c.args.index) c.byte.ensures
