-- `sizes::is_size` meets its contract: the second test is the answer where the first is passed.
use Rattle.lists.specs.Kit.{lt-leb, le-leb}
use Rattle.calls.specs.Questions.{size_good}
use Rattle.tables.proofs.sizes.is_size.Goals as goal

pub returns-then-n-lt1 : goal.returns-then-n-lt1
unfolding size_good
returns-then-n-lt1 c = simp (lt-leb _ _ c.if-n-lt1.true)

pub returns : goal.returns
unfolding size_good
returns c = simp (le-leb _ _ c.if-n-lt1.false)
