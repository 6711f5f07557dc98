-- `writer::fill_counts` meets its contract: the payload of an opened block, which is then sealed.
use Rattle.lists.specs.Kit.{ap, ◌∙◌, List, ℕ, sets}
use Rattle.mesh.specs.Image.{word}
use Rattle.image_writer.specs.Filler.{sealed}
use Rattle.image_writer.proofs.{FillerLaws.{sealed_counts}}
use Rattle.image_writer.proofs.writer.fill_counts.Goals as goal

pub returns : goal.returns
returns c =
    c.close_block.ensures
    ∙ ap sealed (c.put_word-2.ensures ∙ ap (λ (b : List ℕ). sets b 6 (word c.args.header.links))
    (c.put_word.ensures ∙ ap (λ (b : List ℕ). sets b 4 (word c.args.header.radios)) c.open_block.ensures))
    ∙ sealed_counts c.args.header.radios c.args.header.links
