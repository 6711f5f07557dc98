-- `names::is_padded` meets its contract: the bytes passed are alphanumeric, so what is left decides.
use Rattle.lists.specs.{Kit.{sym, ap, ◌∙◌, ℕ, arith, eqb}, Lists.{all}}
use Rattle.marks.proofs.{Left.{padded_pass, padded_stop, padded_end, rest_part}}
use Rattle.marks.proofs.names.is_padded.Goals as goal

pub returns-then-not-is_alphanumeric : goal.returns-then-not-is_alphanumeric
returns-then-not-is_alphanumeric c =
    c.are_all.ensures ∙ ap (all (λ (d : ℕ). eqb d 32)) (rest_part _ c.loop-i.i)
    ∙ sym (padded_stop _ c.loop-i.i c.loop-i.invariant (omega arith)
    (sym c.is_alphanumeric.ensures ∙ c.if-not-is_alphanumeric.true))

pub loop-i-preserved : goal.loop-i-preserved
loop-i-preserved c =
    padded_pass _ c.loop-i.i c.loop-i.invariant (omega arith) (sym c.is_alphanumeric.ensures ∙ c.if-not-is_alphanumeric.false)

pub returns : goal.returns
returns c = sym (padded_end _ c.loop-i.i c.loop-i.invariant (omega arith))
