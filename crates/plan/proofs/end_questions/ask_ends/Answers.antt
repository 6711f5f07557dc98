-- `end_questions::ask_ends` meets its contract: each test is a question of the chain, and proper rows mark the links and count the
-- neighbours of the graph that the questions are put to.
use Rattle.lists.specs.Kit.{sym, ◌∙◌, arith}
use Rattle.mesh.specs.{Limits.{max_neighbours}, Tables.{graph_in}}
use Rattle.rows.specs.Rows.{row_count}
use Rattle.plan.proofs.{EndsLaws.{linked_marked, degree_listed, ends_four_first, ends_four_second, ends_five, ends_six, ends_down, ends_seven_first}}
use Rattle.plan.proofs.{EndsLaws.{ends_seven_second, ends_up}}
use Rattle.plan.proofs.end_questions.ask_ends.Goals as goal

pub returns-then-n-a : goal.returns-then-n-a
returns-then-n-a c =
    let g = graph_in c.args.n c.args.links.now in
    ends_four_first max_neighbours c.args.up c.args.n c.args.a c.args.b g c.if-n-a.true

pub returns-then-n-b : goal.returns-then-n-b
returns-then-n-b c =
    let g = graph_in c.args.n c.args.links.now in
    ends_four_second max_neighbours c.args.up c.args.n c.args.a c.args.b g c.if-n-a.false c.if-n-b.true

pub returns-then-a-b : goal.returns-then-a-b
returns-then-a-b c =
    let g = graph_in c.args.n c.args.links.now in
    ends_five max_neighbours c.args.up c.args.n c.args.a c.args.b g c.if-n-a.false c.if-n-b.false c.if-a-b.true

pub returns-then-is_marked-up : goal.returns-then-is_marked-up
returns-then-is_marked-up c =
    let g = graph_in c.args.n c.args.links.now in
    let says = linked_marked max_neighbours c.args.n c.args.links.now c.requires.0 c.requires.1 c.requires.2 c.args.a c.args.b c.if-n-a.false c.if-n-b.false ∙ sym c.is_marked.ensures in
    ends_six max_neighbours c.args.up c.args.n c.args.a c.args.b g c.if-n-a.false c.if-n-b.false c.if-a-b.false c.is_marked.result says c.if-is_marked-up.true

pub returns-then-not-up : goal.returns-then-not-up
returns-then-not-up c =
    let g = graph_in c.args.n c.args.links.now in
    let says = linked_marked max_neighbours c.args.n c.args.links.now c.requires.0 c.requires.1 c.requires.2 c.args.a c.args.b c.if-n-a.false c.if-n-b.false ∙ sym c.is_marked.ensures in
    ends_down max_neighbours c.args.up c.args.n c.args.a c.args.b g c.if-n-a.false c.if-n-b.false c.if-a-b.false c.is_marked.result says
    c.if-is_marked-up.false (c.if-not-up.true)

pub returns-then-row_degree-ge-NEIGHBOURS : goal.returns-then-row_degree-ge-NEIGHBOURS
unfolding row_count
returns-then-row_degree-ge-NEIGHBOURS c =
    let g = graph_in c.args.n c.args.links.now in
    let says = linked_marked max_neighbours c.args.n c.args.links.now c.requires.0 c.requires.1 c.requires.2 c.args.a c.args.b c.if-n-a.false c.if-n-b.false ∙ sym
    c.is_marked.ensures in
    let near = degree_listed max_neighbours c.args.n c.args.links.now c.requires.0 c.requires.1 c.requires.2 in
    ends_seven_first max_neighbours c.args.up c.args.n c.args.a c.args.b g c.if-n-a.false c.if-n-b.false c.if-a-b.false
    c.is_marked.result says c.if-is_marked-up.false (c.if-not-up.false)
    (omega (arith, near c.args.a c.if-n-a.false, c.row_degree.ensures))

pub returns-then-row_degree-ge-NEIGHBOURS-2 : goal.returns-then-row_degree-ge-NEIGHBOURS-2
unfolding row_count
returns-then-row_degree-ge-NEIGHBOURS-2 c =
    let g = graph_in c.args.n c.args.links.now in
    let says = linked_marked max_neighbours c.args.n c.args.links.now c.requires.0 c.requires.1 c.requires.2 c.args.a c.args.b c.if-n-a.false c.if-n-b.false ∙ sym
    c.is_marked.ensures in
    let near = degree_listed max_neighbours c.args.n c.args.links.now c.requires.0 c.requires.1 c.requires.2 in
    ends_seven_second max_neighbours c.args.up c.args.n c.args.a c.args.b g c.if-n-a.false c.if-n-b.false c.if-a-b.false
    c.is_marked.result says c.if-is_marked-up.false
    (c.if-not-up.false) (omega (arith, near c.args.a c.if-n-a.false, c.row_degree.ensures))
    (omega (arith, near c.args.b c.if-n-b.false, c.row_degree-2.ensures))

pub returns : goal.returns
unfolding row_count
returns c =
    let g = graph_in c.args.n c.args.links.now in
    let says = linked_marked max_neighbours c.args.n c.args.links.now c.requires.0 c.requires.1 c.requires.2 c.args.a c.args.b c.if-n-a.false c.if-n-b.false ∙ sym
    c.is_marked.ensures in
    let near = degree_listed max_neighbours c.args.n c.args.links.now c.requires.0 c.requires.1 c.requires.2 in
    ends_up max_neighbours c.args.up c.args.n c.args.a c.args.b g c.if-n-a.false c.if-n-b.false c.if-a-b.false
    c.is_marked.result says c.if-is_marked-up.false
    (c.if-not-up.false) (omega (arith, near c.args.a c.if-n-a.false, c.row_degree.ensures))
    (omega (arith, near c.args.b c.if-n-b.false, c.row_degree-2.ensures))
