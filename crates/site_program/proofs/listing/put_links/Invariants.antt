-- `listing::put_links` meets its contract: the lines that are left take the buffer where all lines take the lent one.
use Rattle.std.specs.Prelude.{◌≤◌, ◌*◌, ◌/◌}
use Rattle.lists.specs.Kit.{length, drop}
use Rattle.text.{specs.Print.{buffer_at}, proofs.PrintLaws.{Putting}}
use Rattle.site_program.specs.Texts.{pair_lines}
use Rattle.site_program.proofs.listing.put_links.Given as goal

abbrev pub invariant-loop-i : goal.invariant-loop-i
invariant-loop-i l = (l.i ≤ length l.table / 2) × Putting (buffer_at l.initial.out 0) (pair_lines l.table) (buffer_at l.out l.place)
    (pair_lines (drop (2 * l.i) l.table))
