-- The contract of a verb, told which verb it is; contracts of calls that write a text themselves.
use Rattle.std.specs.Prelude.{◌≡◌, Result}
use Rattle.lists.specs.Kit.{sym, subst, List, ℕ}
use Rattle.mesh.specs.Tables.{Tables}
use Rattle.calls.specs.declared.Refusal.{Refusal}
use Rattle.site_program.specs.{declared.names.Verb.{Verb}, Said.{Said}}

pub as_verb : {e f : Verb} (v k n : ℕ) (t : Tables) (w : List ℕ) (r : Result ℕ Refusal) (x : List ℕ) → e ≡ f → Said f v k n t w r x → Said e v k n t w r x
as_verb v k n t w r x p s = subst (λ (y : Verb). Said y v k n t w r x) (sym p) s
