-- `staircase` meets its contract: refused, the table is untouched; else the tables are sound, and what grows is the staircase tree.
use Rattle.lists.specs.{Kit.{refl, sym, ap, ◌∙◌, length, length-take-le, rules}, Lists.{range}}
use Rattle.mesh.specs.Lent.{read_of}
use Rattle.calls.proofs.AnswerLaws.{refused_not}
use Rattle.staircase.proofs.{AnswerLaws.{staircase_refused, staircase_small, staircase_mutual, staircase_rows, staircase_low, staircase_answered}}
use Rattle.staircase.proofs.LevelsTaken.{first_parents, first_roots}
use Rattle.staircase.proofs.staircase.Goals as goal

pub returns-in-Err : goal.returns-in-Err
returns-in-Err c =
    staircase_refused c.args.t.now.radios (read_of c.args.t.now) c.args.table.now _ c.in-Err.ensures (refused_not c.in-Err.refusal)

pub slice_bounds-all-end : goal.slice_bounds-all-end
slice_bounds-all-end c = staircase_small c.args.t.now.radios (read_of c.args.t.now) c.args.table.now _ c.in_default.ensures refl

pub slice_bounds-parents-end : goal.slice_bounds-parents-end
slice_bounds-parents-end c =
    let small = staircase_small c.args.t.now.radios (read_of c.args.t.now) c.args.table.now _ c.in_default.ensures refl in
    sym (length-take-le (length c.args.t.now.numbers.now) _ small)

pub invariant_of-forest : goal.invariant_of-forest
invariant_of-forest c =
    let small = staircase_small c.args.t.now.radios (read_of c.args.t.now) c.args.table.now _ c.in_default.ensures refl in
    record { rooted = first_parents c.index16.new.d _ c.index16.ensures (rw (length-take-le (length c.args.t.now.numbers.now) _ small) small) }

pub take_levels-requires : goal.take_levels-requires
take_levels-requires c =
    let n = c.args.t.now.radios in
    let t = read_of c.args.t.now in
    let small = staircase_small n t c.args.table.now _ c.in_default.ensures refl in (
      c.index16.auto.d ∙ length-take-le (length c.args.t.now.numbers.now) _ small,
      refl,
      staircase_mutual n t c.args.table.now _ c.in_default.ensures refl,
      staircase_rows n t c.args.table.now _ c.in_default.ensures refl,
      staircase_low n t c.args.table.now _ c.in_default.ensures refl,
    )

pub returns : goal.returns
returns c =
    let n = c.args.t.now.radios in
    let t = read_of c.args.t.now in
    let small = staircase_small n t c.args.table.now _ c.in_default.ensures refl in
    let long = length-take-le (length c.args.t.now.numbers.now) _ small in
    staircase_answered n t c.args.table.now _ c.in_default.ensures refl _ _ c.take_levels.ensures
    (first_roots c.index16.new.d _ c.index16.ensures (rw long small) ∙ ap (range 0) long) refl refl _ (search rules)
