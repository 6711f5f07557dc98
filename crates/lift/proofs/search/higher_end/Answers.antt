-- `search::higher_end` meets its contract: of a's pairs only untried ones can lift r, and the peel goes on with them (`Settling`). The measure is
-- the untried radios.
use Rattle.lists.specs.{Kit.{sym, ◌∙◌, rules}}
use Rattle.lift.proofs.{TrySteps.{site_small, settling_start}, SearchSteps.{end_closed, end_empty, end_number, trying_start}}
use Rattle.lift.proofs.search.higher_end.Goals as goal

pub returns-then-not-has : goal.returns-then-not-has
returns-then-not-has c =
    end_closed _ _ _ c.requires.0 _ c.requires.1 _ c.requires.3 _ _ c.requires.4 c.requires.5 _ c.requires.2
    (sym c.has.ensures ∙ c.if-not-has.true)

pub all_ends-untried-requires : goal.all_ends-untried-requires
all_ends-untried-requires c = (site_small _ _ _ c.requires.0, c.requires.2)

pub returns-in-None : goal.returns-in-None
returns-in-None c =
    let on = sym c.has.ensures ∙ c.if-not-has.false in
    end_empty _ _ _ c.requires.0 c.args.r c.requires.1 _ _ (trying_start _ _ _ c.requires.0 c.args.r c.requires.1 _ c.requires.3 _ _ c.requires.4
    c.requires.5 _ c.requires.2 on _ c.all_ends-untried.ensures) c.in-None.ensures

pub start-base-requires : goal.start-base-requires
start-base-requires c = site_small _ _ _ c.requires.0

pub loop-b-init : goal.loop-b-init
loop-b-init c =
    let on = sym c.has.ensures ∙ c.if-not-has.false in
    let trying = trying_start _ _ _ c.requires.0 c.args.r c.requires.1 _ c.requires.3 _ _ c.requires.4 c.requires.5 _ c.requires.2 on _
    c.all_ends-untried.ensures in (
      trying,
      settling_start _ _ _ c.requires.0 c.args.r c.requires.1 _ (search rules) c.start-base.ensures _ _ c.requires.2
          (end_number _ _ _ c.requires.0 c.args.r c.requires.1 _ c.requires.3 _ _ c.requires.4 c.requires.5 _ c.requires.2 on) trying,
    )
