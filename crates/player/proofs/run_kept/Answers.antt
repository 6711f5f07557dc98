-- `run_kept` meets its contract: a first line that names a site names at most 512 radios, and the lines after it have a status.
use Rattle.player.specs.Reading.{ReadsFirst}
use Rattle.player.proofs.{StatusLaws.{run_wrong, run_status, named_some, named_few}}
use Rattle.player.proofs.run_kept.Goals as goal

pub returns-in-Err : goal.returns-in-Err
returns-in-Err g c = run_wrong _ c.unread.ensures

pub returns-in-None : goal.returns-in-None
returns-in-None g c = run_wrong _ c.print_bad.ensures

pub read_all-requires : goal.read_all-requires
unfolding ReadsFirst
read_all-requires g c = (named_some _ _ c.in-Ok.ensures c.in-Some.is, named_few _ _ c.in-Ok.ensures c.in-Some.is)

pub returns-in-Some : goal.returns-in-Some
unfolding ReadsFirst
returns-in-Some g c = run_status _ _ c.in-Ok.ensures c.in-Some.is _ c.read_all.ensures
