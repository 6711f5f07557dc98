-- `put_mark` meets its contract: zeros, the name in front, and the image in front of the rest.
use Rattle.mesh.specs.Lent.{read_of}
use Rattle.marks.proofs.{Placed.{placed}}
use Rattle.marks.proofs.put_mark.Goals as goal

pub returns : goal.returns
returns c =
    placed c.args.t.now.radios (read_of c.args.t.now) c.args.name.now c.requires.0 _ c.requires.1
    c.fill.new.d c.copy.new.d c.fill.ensures c.copy.ensures _ _ c.write.ensures
