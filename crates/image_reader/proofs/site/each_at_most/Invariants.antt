-- `site::each_at_most` meets its contract: the answer so far is that of the entries passed.
use Rattle.lists.specs.Kit.{length}
use Rattle.image.proofs.CheckLaws.{Passing}
use Rattle.image_reader.proofs.{KOrderLaws.{at_most}}
use Rattle.image_reader.proofs.site.each_at_most.Given as goal

abbrev pub invariant-loop-v : goal.invariant-loop-v
invariant-loop-v l = Passing (at_most l.entries l.most) (length l.entries) l.all l.v
