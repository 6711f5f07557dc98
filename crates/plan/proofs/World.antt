-- The functions that other crates call, as they stand in a linked program: the crate's table of names and codes, and that each has its code there,
-- with the code of all that it calls, where this table and those of the crates below stand in it. Written by tools/worlds.
use mathlib.Core.Bool.{true}
use prog.{Linked.{Tree, World, Holds, in_world}, LinkedThreads.{HasT}}
use Rattle.plan.proofs.TheLink as link
use Rattle.plan.proofs.decision.plan.Symbol as decision_plan
use Rattle.plan.proofs.decision.plan_link.Symbol as decision_plan_link
use Rattle.plan.proofs.end_questions.ask_ends.Symbol as end_questions_ask_ends
use Rattle.rows.proofs.World as rows
use Rattle.soundness.proofs.World as soundness
use Rattle.tables.proofs.World as tables

abbrev pub table : Tree
table = link.table

-- the tables that stand in it
abbrev pub Stand : World → Type 0
Stand W = Holds W "plan" table × rows.Stand W × soundness.Stand W × tables.Stand W

below : (W : World) → Stand W → link.Below W
below W h = (
  rows.has_is_marked W h.1,
  (
    rows.has_put_bit W h.1,
    (
      rows.has_row_degree W h.1,
      (
        rows.has_row_neighbours W h.1,
        (
          rows.has_sets_RadioSet_count_common W h.1,
          (
            rows.has_sets_RadioSet_empty W h.1,
            (
              rows.has_sets_RadioSet_first_common W h.1,
              (
                rows.has_sets_RadioSet_full W h.1,
                (
                  rows.has_sets_RadioSet_has W h.1,
                  (
                    rows.has_sets_RadioSet_join_row W h.1,
                    (
                      rows.has_sets_RadioSet_put_in W h.1,
                      (
                        rows.has_sets_RadioSet_take_out W h.1,
                        (
                          rows.has_sets_RadioSet_word W h.1,
                          (
                            rows.has_word_of W h.1,
                            (
                              soundness.has_Found_new W h.2,
                              (
                                soundness.has_asked W h.2,
                                (
                                  tables.has_fill_U16Entry_is W h.3,
                                  (
                                    tables.has_fill_U16Entry_set W h.3,
                                    (
                                      tables.has_fill_U8Entry_is W h.3,
                                      (
                                        tables.has_fill_U8Entry_set W h.3,
                                        (
                                          tables.has_fill_copy W h.3,
                                          (
                                            tables.has_fill_least W h.3,
                                            (tables.has_fill_put16 W h.3, tt),
                                          ),
                                        ),
                                      ),
                                    ),
                                  ),
                                ),
                              ),
                            ),
                          ),
                        ),
                      ),
                    ),
                  ),
                ),
              ),
            ),
          ),
        ),
      ),
    ),
  ),
)

pub has_decision_plan : (W : World) → Stand W → HasT (in_world W) true decision_plan.code
has_decision_plan W h = link.linked-plan::decision::plan W h.0 (below W h)

pub has_decision_plan_link : (W : World) → Stand W → HasT (in_world W) true decision_plan_link.code
has_decision_plan_link W h = link.linked-plan::decision::plan_link W h.0 (below W h)

pub has_end_questions_ask_ends : (W : World) → Stand W → HasT (in_world W) true end_questions_ask_ends.code
has_end_questions_ask_ends W h = link.linked-plan::end_questions::ask_ends W h.0 (below W h)
