-- `soundness::count_ends` meets its contract: the words of the row are walked one by one, and the ends that are left and what is counted
-- come to what the whole row comes to (`RowWalking`). The measure is the words that are left.
use Rattle.std.specs.Prelude.{◌+◌, ◌*◌, ◌-◌}
use Rattle.lists.specs.Kit.{refl, sym, ◌∙◌, arith}
use Rattle.mesh.specs.Limits.{row_bytes}
use Rattle.rows.proofs.RowWords.{word_of_row}
use Rattle.soundness.proofs.{RowChecks.{ends_own, ends_many, ends_alone, ends_right}, Tallies.{row_walking_none, row_walking_alone}}
use Rattle.soundness.proofs.{Tallies.{row_walking_many, row_walking_turn, row_walking_end}}
use Rattle.soundness.proofs.count_ends.Goals as goal

pub returns-then-is_marked : goal.returns-then-is_marked
returns-then-is_marked c =
    ends_own _ _ _ _ _ (omega (arith, c.requires.0.radio, c.requires.0.small)) (sym c.is_marked.ensures ∙ c.if-is_marked.true)

pub slice_bounds-row-end : goal.slice_bounds-row-end
slice_bounds-row-end c = omega (arith, c.requires.0.linked, c.requires.0.radio)

pub loop-k-init : goal.loop-k-init
loop-k-init c = row_walking_none _ _ _ _

pub walk_word-requires : goal.walk_word-requires
walk_word-requires c = (
  c.requires.0,
  record { start = omega arith; few = c.loop-k.invariant.few; few_later = c.loop-k.invariant.so_far.few_later; few_high = c.loop-k.invariant.so_far.few_high; few_key = c.loop-k.invariant.so_far.few_key },
  c.requires.1.at c.loop-k.k (omega arith),
)

pub returns-in_default : goal.returns-in_default
returns-in_default c =
    let bytes = c.args.t.now.link_bytes in
    let word = c.word_of-word.ensures
    ∙ word_of_row c.args.t.now.links.now c.args.a c.loop-k.k (row_bytes * c.args.a + row_bytes - row_bytes * c.args.a) (omega arith)
    (omega (arith, c.requires.0.linked, c.requires.0.radio)) (omega arith) in
    ends_alone _ _ _ _ _ c.requires.0.linked (sym c.is_marked.ensures ∙ c.if-is_marked.false)
    (row_walking_alone _ _ _ _ bytes c.loop-k.k _ (omega arith) c.loop-k.invariant
    c.word_of-word.result word _ _ c.in_default.ensures refl)

pub returns-then-further-gt-NEIGHBOURS : goal.returns-then-further-gt-NEIGHBOURS
returns-then-further-gt-NEIGHBOURS c =
    let bytes = c.args.t.now.link_bytes in
    let word = c.word_of-word.ensures
    ∙ word_of_row c.args.t.now.links.now c.args.a c.loop-k.k (row_bytes * c.args.a + row_bytes - row_bytes * c.args.a) (omega arith)
    (omega (arith, c.requires.0.linked, c.requires.0.radio)) (omega arith) in
    ends_many _ _ _ _ _
    (row_walking_many _ _ _ _ bytes c.loop-k.k _ (omega arith) c.loop-k.invariant
    c.word_of-word.result word _ _ c.in-Some.ensures refl c.if-further-gt-NEIGHBOURS.true)

pub loop-k-preserved : goal.loop-k-preserved
loop-k-preserved c =
    let bytes = c.args.t.now.link_bytes in
    let word = c.word_of-word.ensures
    ∙ word_of_row c.args.t.now.links.now c.args.a c.loop-k.k (row_bytes * c.args.a + row_bytes - row_bytes * c.args.a) (omega arith)
    (omega (arith, c.requires.0.linked, c.requires.0.radio)) (omega arith) in
    row_walking_turn _ _ _ _ bytes c.loop-k.k _ (omega arith) c.loop-k.invariant
    c.word_of-word.result word _ _ c.in-Some.ensures refl c.if-further-gt-NEIGHBOURS.false

pub returns : goal.returns
returns c =
    ends_right _ _ _ _ _ c.requires.0.linked (sym c.is_marked.ensures ∙ c.if-is_marked.false) _ c.loop-k.invariant.few
    (row_walking_end _ _ _ _ _ _ c.loop-k-test.false c.loop-k.invariant)
