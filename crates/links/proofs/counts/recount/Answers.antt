-- `counts::recount` meets its contract: the words of the set are counted one by one, and the radios from word k on bring the counts to what
-- all of them bring them to (`SetRecounting`).
use Rattle.lists.specs.Kit.{arith}
use Rattle.links.proofs.{CountLaws.{set_none, bits_known, set_turn, set_end}}
use Rattle.links.proofs.counts.recount.Goals as goal

pub loop-k-init : goal.loop-k-init
loop-k-init c = set_none _ _ _ _ _ c.requires.2

pub recount_word-requires : goal.recount_word-requires
recount_word-requires c = (
  c.requires.0,
  omega (arith, c.requires.1, c.loop-k.invariant.1.long),
  omega arith,
  rw c.word.ensures (bits_known _ _ _ _ _ c.loop-k.k _ (omega arith) c.loop-k.invariant),
)

pub loop-k-preserved : goal.loop-k-preserved
loop-k-preserved c = set_turn _ _ _ _ _ c.loop-k.k _ (omega arith) c.loop-k.invariant _ (rw c.word.ensures at c.recount_word.ensures)

pub returns : goal.returns
returns c = set_end _ _ _ _ _ _ _ c.loop-k-test.false c.loop-k.invariant
