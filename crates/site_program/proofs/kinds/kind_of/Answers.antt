-- `kinds::kind_of` meets its contract: the first six bytes, or all where there are fewer, are compared with the word.
use Rattle.std.specs.Prelude.{◌≡◌}
use Rattle.lists.{specs.Kit.{ap, sym, ◌∙◌, true≢false, ℕ, take}, proofs.Parts.{take_min}}
use Rattle.site_program.proofs.NameLaws.{script_is, script_not}
use Rattle.site_program.proofs.kinds.kind_of.Goals as goal

pub returns-then-is_same : goal.returns-then-is_same
returns-then-is_same c =
    let first : take c.within-count.result c.args.front.now ≡ take 6 c.args.front.now
    = ap (λ (k : ℕ). take k c.args.front.now) c.within-count.ensures.least ∙ take_min 6 c.args.front.now in
    script_is _ (sym first ∙ c.is_same.ensures.0 c.if-is_same.true)

pub returns-else-is_same : goal.returns-else-is_same
returns-else-is_same c =
    let first : take c.within-count.result c.args.front.now ≡ take 6 c.args.front.now
    = ap (λ (k : ℕ). take k c.args.front.now) c.within-count.ensures.least ∙ take_min 6 c.args.front.now in
    script_not _ (λ e. true≢false (sym (c.is_same.ensures.1 (first ∙ e)) ∙ c.if-is_same.false))
