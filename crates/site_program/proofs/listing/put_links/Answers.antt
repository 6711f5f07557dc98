-- `listing::put_links` meets its contract: the lines that are left take the buffer where all lines take the lent one.
use Rattle.lists.specs.Kit.{refl, arith}
use Rattle.text.{proofs.PrintLaws.{putting_none, putting_piece, putting_end}}
use Rattle.site_program.proofs.{LineLaws.{pair_next, pair_end}}
use Rattle.site_program.proofs.listing.put_links.Goals as goal

pub loop-i-init : goal.loop-i-init
loop-i-init c = (omega arith, putting_none)

pub loop-i-preserved : goal.loop-i-preserved
loop-i-preserved c = (
  omega arith,
  putting_piece _ _ (pair_next c.args.table.now c.loop-i.i _ _ (omega arith) refl refl) c.loop-i.invariant.1
      (c.put_link-place.ensures),
)

pub returns : goal.returns
returns c = putting_end c.loop-i.invariant.1 (pair_end c.args.table.now c.loop-i.i (omega arith))
