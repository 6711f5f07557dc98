-- `listing::put_list` meets its contract: the word and the fields are the line.
use Rattle.std.specs.Prelude.{◌≡◌}
use Rattle.lists.{specs.Kit.{ap, ◌∙◌, List, ℕ, take}, proofs.Parts.{take_min}}
use Rattle.text.{specs.Text.{printed_line}, proofs.PrintLaws.{puts_append, puts_as}}
use Rattle.site_program.specs.Texts.{radios_line}
use Rattle.site_program.proofs.listing.put_list.Goals as goal

pub returns : goal.returns
unfolding radios_line printed_line
returns c =
    let front : take c.least-many.result c.args.answer.now ≡ take c.args.count c.args.answer.now
    = ap (λ (k : ℕ). take k c.args.answer.now) c.least-many.ensures ∙ take_min c.args.count c.args.answer.now in
    puts_as (ap (λ (k : List ℕ). radios_line c.args.word.now k) front) (puts_append c.put_text-place.ensures c.put_fields.ensures)
