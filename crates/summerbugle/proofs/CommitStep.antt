-- A step that is handed on is the step that was lent: committing's contract, over equal steps.
use Rattle.std.specs.Prelude.{◌≡◌}
use Rattle.lists.specs.Kit.{subst, Bool, List, ℕ, ℤ}
use Rattle.mesh.specs.Tables.{Tables}
use Rattle.calls.specs.{declared.Reply.{Reply}, CallContracts.{CommitContract}}

pub commit_step : (up : Bool) (n a b : ℕ) (xs : List ℕ) (t v : Tables) (r : Reply) (y z : ℤ) → y ≡ z → CommitContract up n a b y xs t r v
    → CommitContract up n a b z xs t r v
commit_step up n a b xs t v r y z e = subst (λ (x : ℤ). CommitContract up n a b x xs t r v) e
