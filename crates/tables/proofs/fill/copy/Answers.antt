-- `fill::copy` meets its contract: the entries so far stand in front of the table as it was.
use Rattle.lists.specs.Kit.{ap, sym, arith, ◌∙◌, get_or}
use Rattle.tables.proofs.EntryLaws.{copying_turn, copying_end}
use Rattle.tables.proofs.fill.copy.Goals as goal

pub loop-i-preserved : goal.loop-i-preserved
loop-i-preserved g c =
    copying_turn _ _ _ c.loop-i.i c.set.new.self c.loop-i.invariant (omega arith) (omega arith)
    (c.set.ensures ∙ c.index-s-i.is ∙ ap (λ y. get_or c.args.s.now c.loop-i.i y) (sym c.set.ensures))

pub returns : goal.returns
returns g c = copying_end _ _ _ c.loop-i.i c.loop-i.invariant (omega arith)
