-- `take_bits` meets its contract: each turn takes the lowest set bit off the word, and what is left gives what the whole word gives
-- (`Taking`). The measure is the word that is left.
use Rattle.std.specs.Prelude.{◌∷◌, ◌+◌, ◌-◌}
use Rattle.lists.specs.Kit.{[], bit_and, count_trailing_zeros}
use Rattle.mesh.specs.Graph.{link_of}
use Rattle.rows.{specs.Rows.{set_bits}, proofs.WordLaws.{word_less}, proofs.LinksFrom.{links_lowest, links_none}, specs.Links.{links_to}}
use Rattle.staircase.proofs.TakingLaws.{taking_front, taking_part, taking_end}
use Rattle.staircase.proofs.forest.Forest.take_bits.Goals as goal

pub take_link-requires : goal.take_link-requires
take_link-requires c =
    let lowest = links_lowest c.args.a c.args.first c.loop-rest.rest c.loop-rest.invariant.0 c.loop-rest-test.true in
    taking_front _ _ (link_of c.args.a (c.args.first + count_trailing_zeros 64 c.loop-rest.rest) ∷ [])
    (links_to c.args.a (set_bits 64 c.args.first (bit_and c.loop-rest.rest (c.loop-rest.rest - 1)))) _
    (rw lowest at c.loop-rest.invariant.1)

pub loop-rest-preserved : goal.loop-rest-preserved
loop-rest-preserved c =
    let lowest = links_lowest c.args.a c.args.first c.loop-rest.rest c.loop-rest.invariant.0 c.loop-rest-test.true in (
      word_less c.loop-rest.rest c.loop-rest.invariant.0,
      taking_part _ _ (link_of c.args.a (c.args.first + count_trailing_zeros 64 c.loop-rest.rest) ∷ [])
          (links_to c.args.a (set_bits 64 c.args.first (bit_and c.loop-rest.rest (c.loop-rest.rest - 1)))) _ _
          (rw lowest at c.loop-rest.invariant.1) c.take_link.ensures,
    )

pub returns : goal.returns
returns c = taking_end _ _ _ _ (links_none c.args.a c.args.first _ c.loop-rest-test.false) c.loop-rest.invariant.1
