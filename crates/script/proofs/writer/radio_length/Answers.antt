-- `radio_length` meets its contract: what is listed are the neighbours above the radio, all of them, since the row fits the list.
use Rattle.lists.specs.Kit.{sym, ap, ◌∙◌, List, flat_map, ℕ, arith, length, replicate, length-take-le}
use Rattle.mesh.specs.Limits.{max_neighbours}
use Rattle.calls.specs.Script.{up_line}
use Rattle.rows.{specs.Links.{links_to, links_above}, proofs.AboveLaws.{above_front}}
use Rattle.script.proofs.{PutLaws.{above_radios}}
use Rattle.script.proofs.writer.radio_length.Goals as goal

pub slice_bounds-row_length-end : goal.slice_bounds-row_length-end
slice_bounds-row_length-end c = sym (length-take-le _ _ (omega (arith, c.row_above-count.ensures.counted, c.row_above-count.auto.list)))

pub row_length-requires : goal.row_length-requires
row_length-requires c =
    let is = above_front c.args.links.now c.args.a
    (replicate max_neighbours 0) _ _ c.row_above-count.ensures.counted c.row_above-count.ensures.listed (omega (arith, c.requires.1)) in
    record { radios = (c.requires.0, rw is (above_radios c.args.links.now c.args.a)); few = omega (arith, c.requires.1, ap length is) }

pub returns : goal.returns
unfolding links_above
returns c =
    let is = above_front c.args.links.now c.args.a (replicate max_neighbours 0) _ _ c.row_above-count.ensures.counted c.row_above-count.ensures.listed
    (omega (arith, c.requires.1)) in
    c.row_length.ensures ∙ ap (λ (bs : List ℕ). length (flat_map up_line (links_to c.args.a bs))) is
