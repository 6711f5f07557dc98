-- Whole inputs print exactly what is said of them: M1's, computed from its bytes to its text.
use Rattle.std.specs.Prelude.{◌≡◌}
use Rattle.lists.specs.{Kit.{refl, subst, ◌∙◌, flat_map}, Lists.{overwrite}}
use Rattle.mesh.specs.{Graph.{neighbours_in}, Tables.{put_digit, put_bit, put_link, row_links, graph_in}}
use Rattle.calls.{specs.Questions.{lengths_of, answer_length, site_refusal}, specs.Switches.{switched}, specs.Outcomes.{link_outcome}}
use Rattle.calls.{specs.Runs.{answer_of}, specs.Replay.{bad_line, answer_line}, proofs.WorkedState.{compute}}
use Rattle.text.specs.Text.{bytes_of}
use Rattle.script.specs.Lines.{is_digit, digits_on, number_of, ended, last_number_of, starts, radios_line, link_with, link_after, link_from, line_of}
use Rattle.player.specs.{Play.{site_of, radios_of, glue, lines_of, front, rest, cleared}, Whole.{RunPrints}, RunText.{call_text, line_text, lines_text}}
use Rattle.player.specs.{RunText.{text_from, run_text}, Texts.{Text, TextRight, m1, bad_third, no_first, texts, AllRight}}
use Rattle.player.proofs.RunLaws.{run_met, run_only}

-- everything that link calls, lines and texts compute with
unfoldable compute_calls : Unit {0}
unfolding compute overwrite neighbours_in put_digit put_bit put_link row_links graph_in lengths_of answer_length site_refusal switched link_outcome
compute_calls = tt

unfoldable compute_lines : Unit {0}
unfolding bad_line is_digit digits_on number_of ended last_number_of starts radios_line link_with link_after link_from line_of site_of radios_of
compute_lines = tt

unfoldable compute_text : Unit {0}
unfolding compute_calls compute_lines glue lines_of front rest cleared answer_line answer_of call_text line_text lines_text text_from run_text m1 bad_third
    no_first
compute_text = tt

-- the text that a run computes
computed : (x : Text) → run_text (flat_map bytes_of x.input) ≡ flat_map bytes_of x.printed → TextRight x
computed x e =
    record {
      prints = subst (RunPrints (flat_map bytes_of x.input)) e (run_met (flat_map bytes_of x.input));
      only = λ text h. run_only (flat_map bytes_of x.input) text h ∙ e;
    }

m1_right : TextRight m1
unfolding compute_text
m1_right = computed m1 refl

bad_third_right : TextRight bad_third
unfolding compute_text
bad_third_right = computed bad_third refl

no_first_right : TextRight no_first
unfolding compute_text
no_first_right = computed no_first refl

pub texts_right : AllRight texts
unfolding texts AllRight
texts_right = (m1_right, (bad_third_right, (no_first_right, tt)))
