-- The limits in the code are the limits in the definitions: what `Site`'s constants hand out is, by each function's own
-- contract, the number of specs/Limits.antt, and each contract is met.
use Rattle.std.specs.Prelude.{◌≡◌}
use Rattle.lists.specs.Kit.{refl}
use seplogic.Ra.Ura.{Ura}
use types.Logic.{Logic}
use contract.Monad.{fact}
use Rattle.mesh.specs.Limits.{max_radios, max_neighbours, row_bytes}
use Rattle.mesh.specs.contracts.Site.radio_limit as radio_limit
use Rattle.mesh.proofs.Site.radio_limit.Met as radio_limit_proof
use Rattle.mesh.proofs.Site.radio_limit.Statement as radio_limit_statement
use Rattle.mesh.specs.contracts.Site.neighbour_limit as neighbour_limit
use Rattle.mesh.proofs.Site.neighbour_limit.Met as neighbour_limit_proof
use Rattle.mesh.proofs.Site.neighbour_limit.Statement as neighbour_limit_statement
use Rattle.mesh.specs.contracts.Site.row_length as row_length
use Rattle.mesh.proofs.Site.row_length.Met as row_length_proof
use Rattle.mesh.proofs.Site.row_length.Statement as row_length_statement

module _ {M : Type 1} {𝓤 : Ura M} (𝓛 : Logic 𝓤) where
  pub radios_say : (κs : _) (A : _) (run : _) (r : _) → radio_limit.ensures-1 𝓛 κs A run r ≡ fact 𝓤 (r ≡ max_radios)
  radios_say κs A run r = refl

  pub neighbours_say : (κs : _) (A : _) (run : _) (r : _) → neighbour_limit.ensures-1 𝓛 κs A run r ≡ fact 𝓤 (r ≡ max_neighbours)
  neighbours_say κs A run r = refl

  pub rows_say : (κs : _) (A : _) (run : _) (r : _) → row_length.ensures-1 𝓛 κs A run r ≡ fact 𝓤 (r ≡ row_bytes)
  rows_say κs A run r = refl

-- all three contracts are met
pub record LimitsMet (M : Type 1) : Type 2 where
  pub radios : radio_limit_statement.statement M
  pub neighbours : neighbour_limit_statement.statement M
  pub rows : row_length_statement.statement M

pub limits_met : {M : Type 1} → LimitsMet M
limits_met = record { radios = radio_limit_proof.met; neighbours = neighbour_limit_proof.met; rows = row_length_proof.met }
