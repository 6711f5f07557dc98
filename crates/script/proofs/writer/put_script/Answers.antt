-- `put_script` meets its contract: line 1, then the lines of the links, which have the room that is left.
use Rattle.lists.specs.Kit.{arith}
use Rattle.text.proofs.PrintLaws.{puts_append}
use Rattle.calls.specs.Script.{script_of}
use Rattle.rows.specs.Links.{links_from}
use Rattle.script.proofs.{ScriptLengths.{length_radios, length_script}, PutLaws.{puts_place}}
use Rattle.script.proofs.writer.put_script.Goals as goal

pub put_links-requires : goal.put_links-requires
put_links-requires c =
    let whole = length_script c.args.n
    (links_from c.args.n c.args.links.now 0 0) in let place = puts_place c.put_first-place.ensures
    (omega (arith, length_radios c.args.n, whole, c.requires.room)) in record {
      listed = c.requires.listed;
      room = omega
          (arith, length_radios c.args.n, whole, c.requires.room, place, c.put_first-place.auto.buffer);
    }

pub returns : goal.returns
unfolding script_of
returns c = puts_append c.put_first-place.ensures c.put_links.ensures
