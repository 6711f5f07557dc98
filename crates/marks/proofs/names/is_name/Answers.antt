-- `names::is_name` meets its contract: each test is a part of the definition.
use Rattle.lists.specs.Kit.{eq-eqb, ne_eqb}
use Rattle.mesh.specs.Marks.{is_name}
use Rattle.marks.proofs.names.is_name.Goals as goal

pub returns-then-name-ne8 : goal.returns-then-name-ne8
unfolding is_name
returns-then-name-ne8 c = rw (ne_eqb _ _ c.if-name-ne8.true)

pub returns-then-not-is_alphanumeric : goal.returns-then-not-is_alphanumeric
unfolding is_name
returns-then-not-is_alphanumeric c =
    rw (
      eq-eqb _ _ c.if-name-ne8.false,
      ← c.is_alphanumeric.ensures,
      c.if-not-is_alphanumeric.true,
    )

pub returns : goal.returns
unfolding is_name
returns c =
    rw (
      eq-eqb _ _ c.if-name-ne8.false,
      ← c.is_alphanumeric.ensures,
      c.if-not-is_alphanumeric.false,
    ) c.is_padded.ensures
