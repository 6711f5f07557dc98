-- `names::named` meets its contract: the word is the name, or it is not.
use Rattle.lists.specs.Kit.{sym, ◌∙◌, true≢false}
use Rattle.site_program.proofs.NameLaws.{named_is, named_not}
use Rattle.site_program.proofs.names.named.Goals as goal

pub returns-then-is_same : goal.returns-then-is_same
returns-then-is_same c = named_is _ _ _ _ (c.is_same.ensures.0 c.if-is_same.true)

pub returns : goal.returns
returns c = named_not _ _ _ _ (λ e. true≢false (sym (c.is_same.ensures.1 e) ∙ c.if-is_same.false))
