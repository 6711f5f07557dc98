-- `listing::put_kept` meets its contract: the lines are of the links that are counted.
use Rattle.std.specs.Prelude.{◌≡◌, ◌*◌}
use Rattle.lists.specs.Kit.{refl, ap, List, ℕ, take}
use Rattle.text.proofs.PrintLaws.{puts_as}
use Rattle.site_program.specs.Texts.{pair_lines}
use Rattle.site_program.proofs.{TextLaws.{take_least}}
use Rattle.site_program.proofs.listing.put_kept.Goals as goal

pub returns : goal.returns
returns c =
    let front : take c.least-many.result c.args.table.now ≡ take (2 * c.args.count) c.args.table.now
    = take_least (2 * c.args.count) _ _ c.args.table.now refl c.least-many.ensures in
    puts_as (ap (λ (k : List ℕ). pair_lines k) front) c.put_links.ensures
