-- `trees::tree` meets its contract: the text is of the nodes and the names that the call lists.
use Rattle.std.proofs.lemmas.Result.{err_from_is_err_and}
use Rattle.lists.specs.Kit.{◌∙◌, ℕ, replicate, length-replicate}
use Rattle.mesh.specs.{Lent.{read_of}, declared.Node.{Node}}
use Rattle.site_program.proofs.{TreeLaws.{tree_refused, tree_told}}
use Rattle.site_program.proofs.trees.tree.Goals as goal

none : Node
none = record { name = 0; level = 0; parent = 0 }

pub returns-in_err-count : goal.returns-in_err-count
unfolding none
returns-in_err-count c =
    let p = err_from_is_err_and c.from_residual.result c.from_residual.ensures.1 in
    rw (p.1, p.2)
    (tree_refused c.args.t.now.radios (read_of c.args.t.now) (replicate 513 none) c.shell_tree.new.nodes (replicate 512 0) c.shell_tree.new.answer
    (length-replicate 513 none) (length-replicate {A = ℕ} 512 0) c.args.out.now _ c.in_err-count.ensures.tree)

pub returns : goal.returns
unfolding none
returns c =
    tree_told c.args.t.now.radios (read_of c.args.t.now) (replicate 513 none) c.shell_tree.new.nodes (replicate 512 0) c.shell_tree.new.answer
    (length-replicate 513 none) (length-replicate {A = ℕ} 512 0) c.in_ok-count.count c.in_ok-count.ensures.tree c.args.out.now c.put_tree.new.out
    c.least-many.result c.least-radios.result c.put_tree.result (c.shell_tree.auto.nodes ∙ length-replicate 513 none) c.least-many.ensures
    c.least-radios.ensures c.put_tree.ensures
