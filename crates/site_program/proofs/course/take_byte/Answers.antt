-- `take_byte` meets its contract: each way through it is one thing that a byte does.
use Rattle.lists.specs.Kit.{sym, ◌∙◌}
use Rattle.mesh.specs.Tables.{tables}
use Rattle.site_program.proofs.CourseLaws.{byte_over, byte_long, byte_held, byte_refused, byte_accepted}
use Rattle.site_program.proofs.course.take_byte.Goals as goal

pub returns-then-is_some : goal.returns-then-is_some
returns-then-is_some c = byte_over _ _ _ _ _ c.args.s (sym c.is_some.ensures ∙ c.if-is_some.true)

pub returns-then-line-s : goal.returns-then-line-s
returns-then-line-s c = byte_long _ _ _ _ c.args.s (sym c.is_some.ensures ∙ c.if-is_some.false) c.if-line-s.true

pub returns-then-byte-ne10 : goal.returns-then-byte-ne10
returns-then-byte-ne10 c =
    byte_held c.args.n c.args.byte (tables c.args.links.now c.args.numbers.now c.args.order.now)
    c.args.line.now c.args.s (sym c.is_some.ensures ∙ c.if-is_some.false) c.if-line-s.false c.if-byte-ne10.true

pub returns-then-is_some-2 : goal.returns-then-is_some-2
returns-then-is_some-2 c =
    byte_refused c.args.n c.args.byte (tables c.args.links.now c.args.numbers.now c.args.order.now)
    c.args.line.now c.args.s (sym c.is_some.ensures ∙ c.if-is_some.false) c.if-line-s.false c.if-byte-ne10.false _ _ c.play_line-fault.ensures
    (sym c.is_some-2.ensures ∙ c.if-is_some-2.true)

pub returns : goal.returns
returns c =
    byte_accepted c.args.n c.args.byte (tables c.args.links.now c.args.numbers.now c.args.order.now)
    c.args.line.now c.args.s (sym c.is_some.ensures ∙ c.if-is_some.false) c.if-line-s.false c.if-byte-ne10.false _ _ c.play_line-fault.ensures _
    (sym c.is_some-2.ensures ∙ c.if-is_some-2.false) c.next_line.ensures
