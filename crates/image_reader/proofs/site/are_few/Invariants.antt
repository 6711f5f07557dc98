-- `site::are_few` meets its contract: the answer so far is that of the counts passed.
use Rattle.lists.specs.Kit.{leb, length, get_or}
use Rattle.mesh.specs.Limits.{max_neighbours}
use Rattle.image.proofs.CheckLaws.{Passing}
use Rattle.image_reader.proofs.site.are_few.Given as goal

abbrev pub invariant-loop-count : goal.invariant-loop-count
invariant-loop-count l = Passing (λ w. leb (get_or l.counts w 0) max_neighbours) (length l.counts) l.few l.count-index
