-- `mark` meets its contract: the rows before row a are marked, and counted with what is left as the whole (`Marking`).
use Rattle.lists.specs.Kit.{sym, ap, ◌∙◌, ℕ, replicate}
use Rattle.conditions.{proofs.MarkLaws.{marking_none, marking_fits, marking_turn, marking_end}}
use Rattle.hearing.proofs.one_sided.mark.Goals as goal

pub loop-a-init : goal.loop-a-init
loop-a-init c = (c.requires, marking_none _ _ _ c.requires _ (c.fill.ensures ∙ ap (λ (k : ℕ). replicate k 0) (sym c.fill.auto.d)))

pub overflow_add-count : goal.overflow_add-count
overflow_add-count c = marking_fits _ _ _ c.loop-a.invariant.0 _ _ _ c.loop-a.invariant.1 c.loop-a-test.true _ _ c.mark_row-count.ensures

pub loop-a-preserved : goal.loop-a-preserved
loop-a-preserved c = (
  c.loop-a.invariant.0,
  marking_turn _ _ _ c.loop-a.invariant.0 _ _ _ c.loop-a.invariant.1 c.loop-a-test.true _ _
      c.mark_row-count.ensures,
)

pub returns : goal.returns
returns c =
    marking_end _ _ _ c.loop-a.invariant.0 _ _ _ _ c.fill.auto.d c.loop-a.invariant.1
    c.loop-a-test.false
