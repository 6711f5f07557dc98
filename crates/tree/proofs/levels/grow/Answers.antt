-- `levels::grow` meets its contract: the root alone first, then all levels; on sound tables no number is above the most neighbours, and the
-- radios of a level stand side by side in the order.
use Rattle.lists.specs.Kit.{arith, length, drop, length-append, length-take-le}
use Rattle.mesh.specs.Lent.{read_of}
use Rattle.soundness.proofs.SoundSite.{fits_sound_site}
use Rattle.tree.specs.Trees.{lists}
use Rattle.tree.proofs.{ShellSets.{sound_levels}, TreeLoop.{filled_front, grown_all}}
use Rattle.tree.proofs.levels.grow.Goals as goal

pub take_levels-requires : goal.take_levels-requires
take_levels-requires c = record {
  named = omega (
    arith,
    c.requires.1.answer,
    c.fill.auto.d,
    length-take-le (length c.args.t.now.numbers.now) c.args.answer.now c.requires.1.answer,
    length-append c.fill.new.d (drop (length c.args.t.now.numbers.now) c.args.answer.now),
  );
  low = omega (arith, c.least-top.ensures);
  start = sound_levels (length c.args.t.now.numbers.now) (read_of c.args.t.now) c.requires.0;
}

pub returns : goal.returns
returns c =
    let old = lists c.args.nodes.now c.args.answer.now in
    let site = fits_sound_site (length c.args.t.now.numbers.now) (read_of c.args.t.now) c.requires.0 in
    grown_all c.args.t.now.links.now c.args.t.now.numbers.now old _ _ _ _ _ site.small
    c.greatest.ensures
    c.least-top.ensures
    c.put_node.ensures
    (filled_front c.args.answer.now _ (length c.args.t.now.numbers.now) _ c.requires.1.answer c.fill.ensures)
    c.take_levels.ensures c.args.t.now.order.now c.requires.0 c.requires.1
