-- The node of the shell tree as a row.
use Rattle.std.specs.Prelude.{◌≡◌, ◌∷◌}
use Rattle.lists.specs.Kit.{refl, []}
use base.Logic.{via}
use contract.Monad.{fact, fact_mono}
use denote.{Struct.Laws.{makes, owes, owed, copied}, Laws.{Is, shows}}
use Rattle.machine.proofs.{Whole.{𝓥}, Rows.{Row, W₀}}
use Rattle.hosts.specs.Public.{nodes}
use Rattle.mesh.specs.contracts.Node as node
use Rattle.mesh.proofs.Node.TheLaws as node_laws

abbrev pub node_row : Row
node_row = record {
  row = node.the_row;
  ty = nodes.ty;
  one = refl;
  size_is = refl;
  machine = nodes.machine;
  Holds = nodes.Holds;
  typed = λ d h. (tt, (record { fits = h.0 }, (record { fits = h.1 }, (record { fits = h.2 }, tt))));
  makes = λ d h. makes node.the_type node_laws.the_plain W₀ d (nodes.machine d ∷ [])
      (owes node.the_type node_laws.the_laws d ((refl, h.0), ((refl, h.1), ((refl, h.2), tt))));
  shows = λ d vs.
      via 𝓥 (fact 𝓥 (Is node.the_row d vs)) (shows W₀ node.the_row d vs)
      (fact_mono 𝓥 (Is node.the_row d vs) ((vs ≡ nodes.machine d ∷ []) × nodes.Holds d) (λ p.
      let f = owed node.the_type node_laws.the_laws d vs p in
      ((node_laws.lowers).val_is d vs p, (f.0.1, f.1.0.1, f.1.1.0.1))));
  copied = copied node.the_type node_laws.the_copy W₀;
}
