-- `soundness::walk_word` meets its contract: a word that is not above the highest marks radios of the site alone (`walking_radio`). Each
-- turn takes the lowest set bit off the word and counts its radio, and what is left and what is counted come to what the whole word comes
-- to (`Walking`). The measure is the word that is left.
use Rattle.std.specs.Prelude.{◌+◌, ◌-◌}
use Rattle.lists.specs.Kit.{sym, ◌∙◌, arith, and_le_r, count_trailing_zeros, trailing_le, ltb, leb, get_or, rules}
use Rattle.soundness.proofs.Tallies.{count_fits, walking_none, walking_zero, walking_above, walking_radio, walking_few, walking_alone}
use Rattle.soundness.proofs.{Tallies.{walking_turn, walking_end}}
use Rattle.soundness.proofs.walk_word.Goals as goal

pub returns-then-word-eq0 : goal.returns-then-word-eq0
returns-then-word-eq0 c = walking_zero _ _ _ _ _ _ _ c.if-word-eq0.true c.requires.1

pub returns-then-highest-word : goal.returns-then-highest-word
returns-then-highest-word c =
    walking_above _ _ _ _ _ _ _ _ c.requires.0.linked (search rules) (omega (arith, c.requires.2, c.if-highest-word.true)) _

pub loop-rest-init : goal.loop-rest-init
loop-rest-init c = walking_none _ _ _ _ _ _ _ (search rules) c.requires.1

pub overflow_add-b : goal.overflow_add-b
overflow_add-b c = omega (arith, trailing_le 64 c.loop-rest.rest, c.requires.1.start)

pub marks-requires : goal.marks-requires
marks-requires c =
    let radio = walking_radio _ _ _ _ _ _ _ c.loop-rest.rest _ c.loop-rest-test.true c.loop-rest.invariant _ _ c.requires.2
    c.if-highest-word.false in
    omega (arith, c.requires.0.linked, c.requires.0.radio, c.requires.0.small)

pub returns-then-not-marks : goal.returns-then-not-marks
returns-then-not-marks c =
    walking_alone _ _ _ _ _ _ _ c.loop-rest.rest _ c.loop-rest-test.true c.loop-rest.invariant _
    (sym c.marks.ensures ∙ c.if-not-marks.true)

pub overflow_cast-p : goal.overflow_cast-p
overflow_cast-p c = omega (arith, trailing_le 64 c.loop-rest.rest, c.requires.1.start)

pub offset_bounds-places-b : goal.offset_bounds-places-b
offset_bounds-places-b c =
    let radio = walking_radio _ _ _ _ _ _ _ c.loop-rest.rest _ c.loop-rest-test.true c.loop-rest.invariant _ _ c.requires.2
    c.if-highest-word.false in
    omega (arith, c.requires.0.small)

pub bounds-places-b : goal.bounds-places-b
bounds-places-b c =
    let radio = walking_radio _ _ _ _ _ _ _ c.loop-rest.rest _ c.loop-rest-test.true c.loop-rest.invariant _ _ c.requires.2
    c.if-highest-word.false in
    omega (arith, c.requires.0.placed)

pub overflow_add-count : goal.overflow_add-count
overflow_add-count c =
    omega (arith, walking_few _ _ _ _ _ _ _ c.loop-rest.rest _ c.loop-rest-test.true c.loop-rest.invariant c.requires.1.few)

pub overflow_add-later : goal.overflow_add-later
overflow_add-later c =
    let b = c.args.first + count_trailing_zeros 64 c.loop-rest.rest in
    let few = walking_few _ _ _ _ _ _ _ c.loop-rest.rest _ c.loop-rest-test.true c.loop-rest.invariant c.requires.1.few in
    count_fits _ (ltb (get_or c.args.places.now c.args.a 0) (get_or c.args.places.now b 0)) (omega (arith, few, c.loop-rest.invariant.so_far.few_later))

pub overflow_cast-b : goal.overflow_cast-b
overflow_cast-b c =
    let radio = walking_radio _ _ _ _ _ _ _ c.loop-rest.rest _ c.loop-rest-test.true c.loop-rest.invariant _ _ c.requires.2
    c.if-highest-word.false in
    omega (arith, c.requires.0.small)

pub overflow_cast-high : goal.overflow_cast-high
overflow_cast-high c = omega (arith, trailing_le 64 c.loop-rest.rest, c.requires.1.start)

pub bounds-t-b : goal.bounds-t-b
bounds-t-b c =
    let radio = walking_radio _ _ _ _ _ _ _ c.loop-rest.rest _ c.loop-rest-test.true c.loop-rest.invariant _ _ c.requires.2
    c.if-highest-word.false in
    omega arith

pub overflow_add-high : goal.overflow_add-high
overflow_add-high c =
    let b = c.args.first + count_trailing_zeros 64 c.loop-rest.rest in
    let few = walking_few _ _ _ _ _ _ _ c.loop-rest.rest _ c.loop-rest-test.true c.loop-rest.invariant c.requires.1.few in
    count_fits _ (leb (get_or c.args.t.now.numbers.now c.args.a 0) (get_or c.args.t.now.numbers.now b 0)) (omega (arith, few, c.loop-rest.invariant.so_far.few_high))

pub loop-rest-smaller : goal.loop-rest-smaller
loop-rest-smaller c = omega (arith, and_le_r c.loop-rest.rest (c.loop-rest.rest - 1))

pub loop-rest-preserved : goal.loop-rest-preserved
loop-rest-preserved c =
    walking_turn _ _ _ _ _ _ _ c.loop-rest.rest _ c.loop-rest-test.true c.loop-rest.invariant _
    (sym c.marks.ensures ∙ c.if-not-marks.false) c.sooner-key.ensures

pub returns : goal.returns
returns c = walking_end _ _ _ _ _ _ _ _ _ c.loop-rest-test.false c.loop-rest.invariant
