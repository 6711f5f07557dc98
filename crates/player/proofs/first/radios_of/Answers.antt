-- `first::radios_of` meets its contract: the cases of the parser are the cases of `site_of`.
use Rattle.lists.specs.Kit.{sym, ap, ◌∙◌}
use Rattle.player.specs.{First.{some_radios}, Play.{site_of}}
use Rattle.player.proofs.{PlayLaws.{radios_of_line, some_site, no_site}}
use Rattle.player.proofs.first.radios_of.Goals as goal

pub returns-in-Radios : goal.returns-in-Radios
returns-in-Radios c =
    some_site c.in-Radios.n (sym c.is_size.ensures ∙ c.if-is_size.true) ∙ ap some_radios (radios_of_line _ c.parse.ensures c.in-Radios.is)

pub returns-in-Radios-2 : goal.returns-in-Radios-2
returns-in-Radios-2 c =
    no_site c.in-Radios.n (sym c.is_size.ensures ∙ c.if-is_size.false) ∙ ap some_radios (radios_of_line _ c.parse.ensures c.in-Radios.is)

pub returns-in-Up : goal.returns-in-Up
unfolding site_of
returns-in-Up c = ap some_radios (radios_of_line _ c.parse.ensures c.in-Up.is)

pub returns-in-Down : goal.returns-in-Down
unfolding site_of
returns-in-Down c = ap some_radios (radios_of_line _ c.parse.ensures c.in-Down.is)

pub returns-in-Bad : goal.returns-in-Bad
unfolding site_of
returns-in-Bad c = ap some_radios (radios_of_line _ c.parse.ensures c.in-Bad.is)
