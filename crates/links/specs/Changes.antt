-- What applying a plan writes.
--   in_order xs          the radios of the list xs, ascending, each once
--   counted_step up k    document 01's step, by the count of changed radios
--   PlanFits            the stretch and the order are long enough for a plan
--   Reported             what a plan would change, listed
--   PlanPut             what is written into the tables, with a list of the changed radios
--   Applied              the same, and what is listed and told
-- Laws are in proofs/ChangeLaws.antt and proofs/Marking.antt. Definitions only.
use Rattle.std.specs.Prelude.{◌≡◌, ◌+◌, ◌≤◌}
use Rattle.lists.specs.Kit.{Bool, cond, List, ℕ, zero, suc, ℤ, pos, negsuc, length, take, paste}
use Rattle.lists.specs.{Lists.{range, filter, member, overwrite}}
use Rattle.mesh.specs.{Limits.{max_radios}, Tables.{Tables, put_link}}
use Rattle.calls.specs.declared.Change.{Change}
use Rattle.tables.specs.Steps.{all_stepped}
use Rattle.plan.specs.Planned.{changed_part}

unfoldable pub in_order : (radios : List ℕ) → List ℕ
in_order xs = filter (λ v. member v xs) (range 0 max_radios)

unfoldable pub counted_step : (up : Bool) → (count : ℕ) → ℤ
counted_step up zero = pos 0
counted_step up (suc k) = cond up (pos 1) (negsuc 0)

-- `stretch` and `order` are lengths
pub record PlanFits (start size taken stretch order : ℕ) : Type 0 where
  pub taken_fits : taken ≤ size
  pub long : size ≤ stretch
  pub fits : start + size ≤ order

pub record Reported (up : Bool) (size taken : ℕ) (stretch answer : List ℕ) (r : Change) (x : List ℕ) : Type 0 where
  pub count : r.count ≡ length (in_order (changed_part up taken size stretch))
  pub step : r.step ≡ counted_step up r.count
  pub answer_is : x ≡ overwrite (take (length answer) (in_order (changed_part up taken size stretch))) answer

-- the two link bits, the numbers of the listed radios, the stretch of the order
pub record PlanPut (up : Bool) (a b start size : ℕ) (stretch listed : List ℕ) (step : ℤ) (t v : Tables) : Type 0 where
  pub links : v.links ≡ put_link up a b t.links
  pub numbers : v.numbers ≡ all_stepped listed step t.numbers
  pub order : v.order ≡ paste t.order start stretch size

-- the two link bits, the numbers of the changed radios, the stretch of the order, the answer table's front
pub record Applied (up : Bool) (a b start size taken : ℕ) (stretch : List ℕ) (t : Tables) (answer : List ℕ) (r : Change) (v : Tables)
    (x : List ℕ) : Type 0 where
  pub count : r.count ≡ length (in_order (changed_part up taken size stretch))
  pub step : r.step ≡ counted_step up r.count
  pub links : v.links ≡ put_link up a b t.links
  pub answer_is : x ≡ overwrite (take (length answer) (in_order (changed_part up taken size stretch))) answer
  pub numbers : v.numbers ≡ all_stepped (take r.count x) r.step t.numbers
  pub order : v.order ≡ paste t.order start stretch size
