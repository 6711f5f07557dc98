-- `fill_on` meets its contract: what the read brought has room in the buffer.
use Rattle.lists.specs.Kit.{arith}
use Rattle.player.proofs.ReadLaws.{none_found, take_none, put_within, prefix_len}
use Rattle.player.proofs.input.fill_on.Goals as goal

pub returns-clause-counts : goal.returns-clause-counts
returns-clause-counts g c =
    prefix_len _ _ (put_within _ _ _ _ _ (omega arith) (omega arith) c.put_text-count.ensures)

pub returns-clause-fills : goal.returns-clause-fills
returns-clause-fills g c =
    record {
      bytes = _;
      puts = c.put_text-count.ensures;
      none = λ h. take_none _ _ (none_found c.read-got.ensures.found h);
    }
