-- `run_site` meets its contract: a site of at most 512 radios takes parts of the largest tables.
use Rattle.lists.specs.Kit.{sym, length-take-le, rules}
use Rattle.site_program.proofs.run_site.Goals as goal

pub slice_bounds-run_on-end : goal.slice_bounds-run_on-end
slice_bounds-run_on-end g c = sym (length-take-le _ _ (search rules))

pub slice_bounds-run_on-end-2 : goal.slice_bounds-run_on-end-2
slice_bounds-run_on-end-2 g c = sym (length-take-le _ _ (search rules))

pub slice_bounds-run_on-end-3 : goal.slice_bounds-run_on-end-3
slice_bounds-run_on-end-3 g c = sym (length-take-le _ _ (search rules))
