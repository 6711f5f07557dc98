-- The functions that other crates call, as they stand in a linked program: the crate's table of names and codes, and that each has its code there,
-- with the code of all that it calls, where this table and those of the crates below stand in it. Written by tools/worlds.
use mathlib.Core.Bool.{true}
use prog.{Linked.{Tree, World, Holds, in_world}, LinkedThreads.{HasT}}
use Rattle.links.proofs.TheLink as link
use Rattle.links.proofs.step.step.Symbol as step_step
use Rattle.links.proofs.ask.ask.Symbol as ask_ask
use Rattle.links.proofs.batch.batch.Symbol as batch_batch
use Rattle.links.proofs.batch.reply.Symbol as batch_reply
use Rattle.links.proofs.commit.commit.Symbol as commit_commit
use Rattle.links.proofs.link.link.Symbol as link_link
use Rattle.calls.proofs.World as calls
use Rattle.plan.proofs.World as plan
use Rattle.rows.proofs.World as rows
use Rattle.soundness.proofs.World as soundness
use Rattle.tables.proofs.World as tables

abbrev pub table : Tree
table = link.table

-- the tables that stand in it
abbrev pub Stand : World → Type 0
Stand W = Holds W "links" table × calls.Stand W × plan.Stand W × rows.Stand W × soundness.Stand W × tables.Stand W

below : (W : World) → Stand W → link.Below W
below W h = (
  calls.has_U32FromRefusal_from W h.1,
  (
    plan.has_decision_plan W h.2,
    (
      plan.has_decision_plan_link W h.2,
      (
        plan.has_end_questions_ask_ends W h.2,
        (
          rows.has_put_link W h.3,
          (
            rows.has_row_neighbours W h.3,
            (
              rows.has_sets_RadioSet_count_common W h.3,
              (
                rows.has_sets_RadioSet_empty W h.3,
                (
                  rows.has_sets_RadioSet_join_row W h.3,
                  (
                    rows.has_sets_RadioSet_list W h.3,
                    (
                      rows.has_sets_RadioSet_put_in W h.3,
                      (
                        rows.has_sets_RadioSet_word W h.3,
                        (
                          soundness.has_Found_new W h.4,
                          (
                            soundness.has_asked W h.4,
                            (
                              tables.has_fill_U16Entry_is W h.5,
                              (
                                tables.has_fill_U16Entry_set W h.5,
                                (tables.has_fill_copy W h.5, (tables.has_fill_is_same W h.5, (tables.has_steps_step_numbers W h.5, tt))),
                              ),
                            ),
                          ),
                        ),
                      ),
                    ),
                  ),
                ),
              ),
            ),
          ),
        ),
      ),
    ),
  ),
)

pub has_step_step : (W : World) → Stand W → HasT (in_world W) true step_step.code
has_step_step W h = link.linked-links::step::step W h.0 (below W h)

pub has_ask_ask : (W : World) → Stand W → HasT (in_world W) true ask_ask.code
has_ask_ask W h = link.linked-links::ask::ask W h.0 (below W h)

pub has_batch_batch : (W : World) → Stand W → HasT (in_world W) true batch_batch.code
has_batch_batch W h = link.linked-links::batch::batch W h.0 (below W h)

pub has_batch_reply : (W : World) → Stand W → HasT (in_world W) true batch_reply.code
has_batch_reply W h = link.linked-links::batch::reply W h.0 (below W h)

pub has_commit_commit : (W : World) → Stand W → HasT (in_world W) true commit_commit.code
has_commit_commit W h = link.linked-links::commit::commit W h.0 (below W h)

pub has_link_link : (W : World) → Stand W → HasT (in_world W) true link_link.code
has_link_link W h = link.linked-links::link::link W h.0 (below W h)
