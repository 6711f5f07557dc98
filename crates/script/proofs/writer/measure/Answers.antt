-- `measure` meets its contract: line 1 and the lines of the links.
use Rattle.lists.specs.Kit.{arith}
use Rattle.rows.specs.Links.{links_from}
use Rattle.script.proofs.{ScriptLengths.{length_script}}
use Rattle.script.proofs.writer.measure.Goals as goal

pub digits-requires : goal.digits-requires
digits-requires c = omega (arith, c.requires.listed.most)

pub links_length-requires : goal.links_length-requires
links_length-requires c =
    let ls = links_from c.args.n c.args.links.now 0 0 in
    record { listed = c.requires.listed; short = omega (arith, c.requires.short, length_script c.args.n ls) }

pub overflow_add-result-2 : goal.overflow_add-result-2
overflow_add-result-2 c =
    let ls = links_from c.args.n c.args.links.now 0 0 in
    omega (arith, c.requires.short, length_script c.args.n ls, c.links_length.ensures, c.digits.ensures.0)

pub returns : goal.returns
returns c =
    let ls = links_from c.args.n c.args.links.now 0 0 in
    omega (arith, length_script c.args.n ls, c.links_length.ensures, c.digits.ensures.0)
