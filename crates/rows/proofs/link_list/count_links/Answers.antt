-- `count_links` meets its contract: the links of the rows passed and of the rows left are all. The measure is the rows left.
use Rattle.lists.specs.Kit.{◌∙◌, arith}
use Rattle.rows.proofs.{AboveLaws.{above_count}, LinksFrom.{counting_turn, counting_end}}
use Rattle.rows.proofs.link_list.count_links.Goals as goal

pub loop-a-preserved : goal.loop-a-preserved
loop-a-preserved c =
    let kept = c.row_above.auto.list ∙ c.loop-a.invariant.0 in (
      kept,
      counting_turn _ _ _ _ _ c.loop-a.invariant.1 (omega arith) (omega (arith, c.row_above.ensures.counted))
          (above_count _ _ c.loop-a.list _ _ c.row_above.ensures.counted c.row_above.ensures.listed
          (omega (arith, c.requires.few c.loop-a.a (omega arith), c.loop-a.invariant.0))),
    )

pub returns : goal.returns
returns c = counting_end _ _ _ _ c.loop-a.invariant.1 (omega arith)
