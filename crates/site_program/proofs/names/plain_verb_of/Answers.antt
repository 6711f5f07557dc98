-- `names::plain_verb_of` meets its contract: the names one after another.
use Rattle.lists.specs.{Lists.{same}}
use Rattle.text.specs.Text.{bytes_of}
use Rattle.site_program.specs.{declared.names.Verb.TheVariants.{Help, Check, Numbers, Sheet, Script}, Names.{plain_verb_of}}
use Rattle.site_program.proofs.{NameLaws.{or_next}}
use Rattle.site_program.proofs.names.plain_verb_of.Goals as goal

pub returns : goal.returns
unfolding plain_verb_of
returns c =
    or_next (same c.args.word.now (bytes_of "help")) Help c.named.ensures (
    or_next (same c.args.word.now (bytes_of "check")) Check c.named-check.ensures (
    or_next (same c.args.word.now (bytes_of "numbers")) Numbers c.named-numbers.ensures (
    or_next (same c.args.word.now (bytes_of "sheet")) Sheet c.named-sheet.ensures (
    or_next (same c.args.word.now (bytes_of "script")) Script c.named-script.ensures c.named-image.ensures))))
