-- `RadioSet::join_row` meets its contract: the words before word k are joined with the row's (`RowJoining`). The measure is the words
-- that are left.
use Rattle.std.specs.Prelude.{◌+◌, ◌*◌, ◌-◌}
use Rattle.lists.specs.Kit.{ap, ◌∙◌, arith, bit_or, get_or}
use Rattle.mesh.specs.Limits.{row_bytes}
use Rattle.rows.proofs.{RowWords.{word_of_row}, SetLaws.{changing_turn, row_joining_end, row_joined_short}}
use Rattle.rows.proofs.sets.RadioSet.join_row.Goals as goal

pub returns-then-links-end : goal.returns-then-links-end
returns-then-links-end c = rw (← c.self.view_is) (row_joined_short _ c.args.a _ (omega (arith, c.if-links-end.true)) c.self.invariant)

pub loop-k-preserved : goal.loop-k-preserved
loop-k-preserved c =
    let word = c.word_of.ensures
    ∙ word_of_row c.args.links.now c.args.a c.loop-k.k (row_bytes * c.args.a + row_bytes - row_bytes * c.args.a) (omega arith)
    (omega (arith, c.if-links-end.false)) c.loop-k-test.true in
    changing_turn _ c.self.inside.words c.loop-k.k _ c.loop-k.words c.loop-k-test.true
    (ap (bit_or (get_or c.loop-k.words c.loop-k.k 0)) word) c.loop-k.invariant

pub returns : goal.returns
returns c =
    rw (← c.self.view_is)
    (row_joining_end c.args.links.now c.args.a c.self.inside.words (λ j. (c.type_inv.links j).fits) c.loop-k.k c.loop-k.words
    c.loop-k-test.false (omega (arith, c.if-links-end.false)) c.self.invariant c.loop-k.invariant)
