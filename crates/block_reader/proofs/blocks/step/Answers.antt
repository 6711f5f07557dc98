-- What a step gives of the image.
use mathlib.Core.Path.{refl, sym, subst}
use Prim.Native.Nat.{ℕ}
use Rattle.block_reader.specs.Reader.{PartOf}
use Rattle.block_reader.proofs.StepLaws.{block_named}
use Rattle.block_reader.proofs.blocks.step.Goals as goal

pub payload-part-requires : goal.payload-part-requires
payload-part-requires c = (block_named c.args.r.image.now c.args.r.next c.block-b.result c.block-b.ensures).0

pub returns : goal.returns
returns c =
    let d = c.args.r in
    let b = c.block-b.result in
    record {
      answer = b;
      answered = c.block-b.ensures;
      number = refl;
      end = refl;
      part = subst (λ (x : ℕ). PartOf x b.length d.image c.payload-part.result)
          (sym (block_named d.image.now d.next b c.block-b.ensures).1) c.payload-part.ensures;
      next = refl;
    }
