-- The public calls in one linked program: the world of the tables of this crate and of those below it, in which each call has its code, and so
-- runs.
--   routines    the routines of the public calls, in that program
--   runs        each runs as crate hosts says of it
use Rattle.std.specs.Prelude.{◌≡◌, ◌∷◌}
use Rattle.lists.specs.Kit.{refl, true, false, []}
use lib.Chars.{codes as letters}
use prog.{Routine.{Routine, Env}, Wired.{Wired, Code}, Linked.{World, Holds, in_world}}
use prog.LinkedThreads.{HasT, tie_t, tie_t-follows, tie_t-threads, has-wired_t}
use Rattle.machine.specs.Cells.{Runs}
use Rattle.hosts.specs.{Public.{Public, of_book, call}, Public.Known.{clear, image_read, link, commit, link_batch, hear, mark_set, mark_remove, mark_return}}
use Rattle.hosts.specs.{Public.Public.{ask, check, number, neighbours, linked, first, later_of, lift, core, backbone, tree, staircase, image_write}}
use Rattle.hosts.specs.{Public.Public.{sheet, script_length, script_write, image_block, reader_open, reader_step, reader_moved, version}}
use Rattle.summerbugle.proofs.Runs.{names, HasAll, runs_in}
use Rattle.summerbugle.proofs.TheLink as made
use Rattle.text.proofs.World as in_text
use Rattle.calls.proofs.World as in_calls
use Rattle.rows.proofs.World as in_rows
use Rattle.tables.proofs.World as in_tables
use Rattle.image.proofs.World as in_image
use Rattle.soundness.proofs.World as in_soundness
use Rattle.lift.proofs.World as in_lift
use Rattle.script.proofs.World as in_script
use Rattle.plan.proofs.World as in_plan
use Rattle.image_reader.proofs.World as in_image_reader
use Rattle.floods.proofs.World as in_floods
use Rattle.queries.proofs.World as in_queries
use Rattle.tree.proofs.World as in_tree
use Rattle.staircase.proofs.World as in_staircase
use Rattle.block_reader.proofs.World as in_block_reader
use Rattle.image_writer.proofs.World as in_image_writer
use Rattle.marks.proofs.World as in_marks
use Rattle.links.proofs.World as in_links
use Rattle.hearing.proofs.World as in_hearing
use Rattle.sheet.proofs.World as in_sheet

pub the_world : World
the_world = (letters "summerbugle", made.table) ∷ (letters "sheet", in_sheet.table) ∷ (letters "hearing", in_hearing.table) ∷
    (letters "links", in_links.table) ∷ (letters "marks", in_marks.table) ∷ (letters "image_writer", in_image_writer.table) ∷
    (letters "block_reader", in_block_reader.table) ∷ (letters "staircase", in_staircase.table) ∷ (letters "tree", in_tree.table) ∷
    (letters "queries", in_queries.table) ∷ (letters "floods", in_floods.table) ∷ (letters "image_reader", in_image_reader.table) ∷
    (letters "plan", in_plan.table) ∷ (letters "script", in_script.table) ∷ (letters "lift", in_lift.table) ∷
    (letters "soundness", in_soundness.table) ∷ (letters "image", in_image.table) ∷ (letters "tables", in_tables.table) ∷
    (letters "rows", in_rows.table) ∷ (letters "calls", in_calls.table) ∷ (letters "text", in_text.table) ∷ []

stand_text : in_text.Stand the_world
unfolding the_world
stand_text = refl

stand_calls : in_calls.Stand the_world
unfolding the_world
stand_calls = refl

stand_rows : in_rows.Stand the_world
unfolding the_world
stand_rows = refl

stand_tables : in_tables.Stand the_world
unfolding the_world
stand_tables = refl

stand_image : in_image.Stand the_world
unfolding the_world
stand_image = (refl, stand_tables)

stand_soundness : in_soundness.Stand the_world
unfolding the_world
stand_soundness = (refl, stand_rows, stand_tables)

stand_lift : in_lift.Stand the_world
unfolding the_world
stand_lift = (refl, stand_rows, stand_soundness)

stand_script : in_script.Stand the_world
unfolding the_world
stand_script = (refl, stand_rows, stand_soundness, stand_tables, stand_text)

stand_plan : in_plan.Stand the_world
unfolding the_world
stand_plan = (refl, stand_rows, stand_soundness, stand_tables)

stand_image_reader : in_image_reader.Stand the_world
unfolding the_world
stand_image_reader = (refl, stand_image, stand_soundness, stand_tables)

stand_floods : in_floods.Stand the_world
unfolding the_world
stand_floods = (refl, stand_rows, stand_tables)

stand_queries : in_queries.Stand the_world
unfolding the_world
stand_queries = (refl, stand_floods, stand_rows, stand_soundness, stand_tables)

stand_tree : in_tree.Stand the_world
unfolding the_world
stand_tree = (refl, stand_floods, stand_rows, stand_soundness, stand_tables)

stand_staircase : in_staircase.Stand the_world
unfolding the_world
stand_staircase = (refl, stand_floods, stand_rows, stand_soundness, stand_tables)

stand_block_reader : in_block_reader.Stand the_world
unfolding the_world
stand_block_reader = (refl, stand_calls, stand_image)

stand_image_writer : in_image_writer.Stand the_world
unfolding the_world
stand_image_writer = (refl, stand_image, stand_rows, stand_soundness, stand_tables)

stand_marks : in_marks.Stand the_world
unfolding the_world
stand_marks = (refl, stand_image, stand_image_reader, stand_image_writer, stand_soundness, stand_tables)

stand_links : in_links.Stand the_world
unfolding the_world
stand_links = (refl, stand_calls, stand_plan, stand_rows, stand_soundness, stand_tables)

stand_hearing : in_hearing.Stand the_world
unfolding the_world
stand_hearing = (refl, stand_links, stand_rows, stand_soundness, stand_tables)

stand_sheet : in_sheet.Stand the_world
unfolding the_world
stand_sheet = (refl, stand_soundness, stand_tables)

stand : Holds the_world "summerbugle" made.table
unfolding the_world
stand = refl

-- what the exported calls call
below : made.Below the_world
below = (
  in_block_reader.has_blocks_block the_world stand_block_reader,
  (
    in_calls.has_LaterFromResultWakeRefusal_from the_world stand_calls,
    (
      in_calls.has_PairFromResultEndsRefusal_from the_world stand_calls,
      (
        in_calls.has_ReplyFromResultChangeRefusal_from the_world stand_calls,
        (
          in_calls.has_ValueFromResultU32Refusal_from the_world stand_calls,
          (
            in_calls.has_number the_world stand_calls,
            (
              in_hearing.has_hear_hear the_world stand_hearing,
              (
                in_image_reader.has_reader_read the_world stand_image_reader,
                (
                  in_image_writer.has_writer_write the_world stand_image_writer,
                  (
                    in_lift.has_lift the_world stand_lift,
                    (
                      in_links.has_ask_ask the_world stand_links,
                      (
                        in_links.has_batch_batch the_world stand_links,
                        (
                          in_links.has_batch_reply the_world stand_links,
                          (
                            in_links.has_commit_commit the_world stand_links,
                            (
                              in_links.has_link_link the_world stand_links,
                              (
                                in_marks.has_come_back the_world stand_marks,
                                (
                                  in_marks.has_remove the_world stand_marks,
                                  (
                                    in_marks.has_set the_world stand_marks,
                                    (
                                      in_queries.has_backbone_backbone the_world stand_queries,
                                      (
                                        in_queries.has_cores_core the_world stand_queries,
                                        (
                                          in_queries.has_radios_first the_world stand_queries,
                                          (
                                            in_queries.has_radios_linked the_world stand_queries,
                                            (
                                              in_queries.has_radios_neighbours the_world stand_queries,
                                              (
                                                in_queries.has_radios_number the_world stand_queries,
                                                (
                                                  in_script.has_writer_length the_world stand_script,
                                                  (
                                                    in_script.has_writer_write the_world stand_script,
                                                    (
                                                      in_sheet.has_sheet the_world stand_sheet,
                                                      (
                                                        in_soundness.has_check the_world stand_soundness,
                                                        (
                                                          in_soundness.has_wake_later_of the_world stand_soundness,
                                                          (
                                                            in_staircase.has_staircase the_world stand_staircase,
                                                            (
                                                              in_tables.has_clear_clear the_world stand_tables,
                                                              (in_tree.has_levels_shell_tree the_world stand_tree, tt),
                                                            ),
                                                          ),
                                                        ),
                                                      ),
                                                    ),
                                                  ),
                                                ),
                                              ),
                                            ),
                                          ),
                                        ),
                                      ),
                                    ),
                                  ),
                                ),
                              ),
                            ),
                          ),
                        ),
                      ),
                    ),
                  ),
                ),
              ),
            ),
          ),
        ),
      ),
    ),
  ),
)

-- the program
abbrev pub program : Env
program = tie_t (in_world the_world)

wired : (c : Code) → HasT (in_world the_world) true c → Wired program c
wired c h = has-wired_t (in_world the_world) program (tie_t-follows (in_world the_world)) (tie_t-threads (in_world the_world)) c h

has_all : HasAll program
has_all (of_book clear) = wired _ (made.linked-summerbugle::sb_clear the_world stand below)
has_all (of_book image_read) = wired _ (made.linked-summerbugle::sb_image_read the_world stand below)
has_all (of_book (link true)) = wired _ (made.linked-summerbugle::sb_link_up the_world stand below)
has_all (of_book (link false)) = wired _ (made.linked-summerbugle::sb_link_down the_world stand below)
has_all (of_book (commit true)) = wired _ (made.linked-summerbugle::sb_commit_up the_world stand below)
has_all (of_book (commit false)) = wired _ (made.linked-summerbugle::sb_commit_down the_world stand below)
has_all (of_book link_batch) = wired _ (made.linked-summerbugle::sb_link_batch the_world stand below)
has_all (of_book hear) = wired _ (made.linked-summerbugle::sb_hear the_world stand below)
has_all (of_book mark_set) = wired _ (made.linked-summerbugle::sb_mark_set the_world stand below)
has_all (of_book mark_remove) = wired _ (made.linked-summerbugle::sb_mark_remove the_world stand below)
has_all (of_book mark_return) = wired _ (made.linked-summerbugle::sb_mark_return the_world stand below)
has_all (ask true) = wired _ (made.linked-summerbugle::sb_ask_up the_world stand below)
has_all (ask false) = wired _ (made.linked-summerbugle::sb_ask_down the_world stand below)
has_all check = wired _ (made.linked-summerbugle::sb_check the_world stand below)
has_all number = wired _ (made.linked-summerbugle::sb_number the_world stand below)
has_all neighbours = wired _ (made.linked-summerbugle::sb_neighbours the_world stand below)
has_all linked = wired _ (made.linked-summerbugle::sb_linked the_world stand below)
has_all first = wired _ (made.linked-summerbugle::sb_first the_world stand below)
has_all later_of = wired _ (made.linked-summerbugle::sb_later_of the_world stand below)
has_all lift = wired _ (made.linked-summerbugle::sb_lift the_world stand below)
has_all core = wired _ (made.linked-summerbugle::sb_core the_world stand below)
has_all backbone = wired _ (made.linked-summerbugle::sb_backbone the_world stand below)
has_all tree = wired _ (made.linked-summerbugle::sb_tree the_world stand below)
has_all staircase = wired _ (made.linked-summerbugle::sb_staircase the_world stand below)
has_all image_write = wired _ (made.linked-summerbugle::sb_image_write the_world stand below)
has_all sheet = wired _ (made.linked-summerbugle::sb_sheet the_world stand below)
has_all script_length = wired _ (made.linked-summerbugle::sb_script_length the_world stand below)
has_all script_write = wired _ (made.linked-summerbugle::sb_script_write the_world stand below)
has_all image_block = wired _ (made.linked-summerbugle::sb_image_block the_world stand below)
has_all version = wired _ (made.linked-summerbugle::sb_version the_world stand below)
has_all reader_open = wired _ (in_block_reader.has_blocks_open the_world stand_block_reader)
has_all reader_step = wired _ (in_block_reader.has_blocks_step the_world stand_block_reader)
has_all reader_moved = wired _ (in_block_reader.has_blocks_moved the_world stand_block_reader)

abbrev pub routines : Public → Routine
routines x = program (names x)

pub runs : (x : Public) → Runs (routines x) (call x)
runs = runs_in program has_all
