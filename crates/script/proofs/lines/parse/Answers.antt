-- `lines::parse` meets its contract: the three words are tried in the order of `line_of`.
use Rattle.lists.specs.Kit.{sym, ◌∙◌}
use Rattle.script.proofs.{LineLaws.{line_up, line_down, line_other, line_no_number, line_radios}}
use Rattle.script.proofs.lines.parse.Goals as goal

pub returns-then-starts_with : goal.returns-then-starts_with
returns-then-starts_with c =
    c.read_link.ensures ∙ line_up c.args.s.now
    (sym c.starts_with.ensures ∙ c.if-starts_with.true)

pub returns-then-starts_with-2 : goal.returns-then-starts_with-2
returns-then-starts_with-2 c =
    c.read_link-then-starts_with-2.ensures ∙ line_down c.args.s.now
    (sym c.starts_with.ensures ∙ c.if-starts_with.false)
    (sym c.starts_with-2.ensures ∙ c.if-starts_with-2.true)

pub returns-in-Some : goal.returns-in-Some
returns-in-Some c =
    line_radios c.args.s.now (sym c.starts_with.ensures ∙ c.if-starts_with.false)
    (sym c.starts_with-2.ensures ∙ c.if-starts_with-2.false)
    (sym c.starts_with-3.ensures ∙ c.if-starts_with-3.true) _ c.in-Some.ensures

pub returns-in_default : goal.returns-in_default
returns-in_default c =
    line_no_number c.args.s.now (sym c.starts_with.ensures ∙ c.if-starts_with.false)
    (sym c.starts_with-2.ensures ∙ c.if-starts_with-2.false)
    (sym c.starts_with-3.ensures ∙ c.if-starts_with-3.true) c.in_default.ensures

pub returns-else-starts_with-3 : goal.returns-else-starts_with-3
returns-else-starts_with-3 c =
    line_other c.args.s.now
    (sym c.starts_with.ensures ∙ c.if-starts_with.false)
    (sym c.starts_with-2.ensures ∙ c.if-starts_with-2.false)
    (sym c.starts_with-3.ensures ∙ c.if-starts_with-3.false)
