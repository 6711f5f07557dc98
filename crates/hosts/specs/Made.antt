-- The machine: that hosts exist. From every memory in which a site's tables stand and can be lent, for every list of calls, on the site and elsewhere,
-- with numbers and lists that their types hold, there is a host that makes these calls.
--   Wanted            a call, and what is to be passed: where lists are, and what a site's own tables hold, is not taken from it
--   AHost            a host whose calls the book takes for these
--   HostsExist       the statement
-- Definitions only.
use Rattle.std.specs.Prelude.{◌≡◌}
use Rattle.lists.specs.Kit.{List, [], map}
use prog.{Memory.{Memory}, Routine.{Routine}}
use Rattle.machine.specs.{Cells.{Inputs, Ready, All, to_write}, Made.{Fitting}}
use Rattle.mesh.specs.Tables.{Tables}
use Rattle.calls.specs.Questions.{lengths_of}
use Rattle.hosts.specs.{Public.{Public, call, site_params}, Hosts.{Site, lent_at, Turn, made, Step, Hosted, book_call, call_of}}

abbrev pub Wanted : Type 0
Wanted = (w : Turn) × Inputs (call (made w)).params

pub record AHost (ρ : Public → Routine) (s : Site) (σ : Memory) (ws : List Wanted) : Type 0 where
  pub steps : List Step
  pub last : Memory
  pub hosted : Hosted ρ s σ steps last
  pub calls : map call_of steps ≡ map (λ w. book_call w.0 w.1) ws

abbrev pub HostsExist : (Public → Routine) → Type 0
HostsExist ρ =
    (s : Site) (t : Tables) (σ : Memory) → lengths_of t ≡ s.lengths → Ready σ (site_params 0 to_write []) (lent_at s t) →
    (ws : List Wanted) → All (λ w. Fitting (call (made w.0)).params w.1) ws → ∥ AHost ρ s σ ws ∥₁
