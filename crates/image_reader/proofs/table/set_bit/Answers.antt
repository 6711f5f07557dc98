-- `table::set_bit` meets its contract: `|` with the mask of the bit sets it.
use Rattle.image_reader.proofs.{TableWritten.{put_bit_through}}
use Rattle.image_reader.proofs.table.set_bit.Goals as goal

pub returns : goal.returns
returns c = put_bit_through _ _ _
