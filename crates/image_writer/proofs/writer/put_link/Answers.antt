-- `writer::put_link` meets its contract: the lower radio's bytes, then the higher one's.
use Rattle.std.specs.Prelude.{◌+◌}
use Rattle.lists.{specs.Kit.{ap, sym, ◌∙◌, List, ℕ, sets}, proofs.Overwrite.{sets_append}}
use Rattle.mesh.specs.Image.{word, link_bytes}
use Rattle.image_writer.proofs.writer.put_link.Goals as goal

pub returns : goal.returns
unfolding link_bytes word
returns c =
    c.put_word-2.ensures ∙ ap (λ (b : List ℕ). sets b (c.args.at + 2) (word c.args.b)) c.put_word.ensures
    ∙ sym (sets_append c.args.part.now c.args.at (word c.args.a) (word c.args.b))
