-- `names::verb_of` meets its contract: the names one after another, then the plain ones.
use Rattle.lists.specs.{Lists.{same}}
use Rattle.text.specs.Text.{bytes_of}
use Rattle.site_program.specs.{declared.names.Verb.TheVariants.{Backbone, Staircase, Tree, Core, Lift}, Names.{verb_of}}
use Rattle.site_program.proofs.{NameLaws.{or_next}}
use Rattle.site_program.proofs.names.verb_of.Goals as goal

pub returns : goal.returns
unfolding verb_of
returns c =
    or_next (same c.args.word.now (bytes_of "backbone")) Backbone c.named.ensures (
    or_next (same c.args.word.now (bytes_of "staircase")) Staircase c.named-staircase.ensures (
    or_next (same c.args.word.now (bytes_of "tree")) Tree c.named-tree.ensures (
    or_next (same c.args.word.now (bytes_of "core")) Core c.named-core.ensures (
    or_next (same c.args.word.now (bytes_of "lift")) Lift c.named-lift.ensures c.plain_verb_of-plain.ensures))))
