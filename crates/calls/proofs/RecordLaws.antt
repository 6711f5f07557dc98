-- Tables and answers are equal when their parts are.
use Rattle.std.specs.Prelude.{◌≡◌}
use Rattle.mesh.specs.Tables.{Tables}
use Rattle.calls.specs.declared.{Reply.{Reply}, Value.{Value}, Later.{Later}, Block.{Block}}

pub tables_ext : (t v : Tables) → t.links ≡ v.links → t.numbers ≡ v.numbers → t.order ≡ v.order → t ≡ v
tables_ext t v p q r = rw (← p, ← q, ← r)

pub reply_ext : (r s : Reply) → r.number ≡ s.number → r.step ≡ s.step → r.count ≡ s.count → r ≡ s
reply_ext r s p q t = rw (← p, ← q, ← t)

pub value_ext : (r s : Value) → r.number ≡ s.number → r.value ≡ s.value → r ≡ s
value_ext r s p q = rw (← p, ← q)

pub later_ext : (r s : Later) → r.number ≡ s.number → r.count ≡ s.count → r.first ≡ s.first → r ≡ s
later_ext r s p q t = rw (← p, ← q, ← t)

pub block_ext :
    (r s : Block) → r.number ≡ s.number → r.end ≡ s.end → r.offset ≡ s.offset → r.length ≡ s.length → r.next ≡ s.next →
    r ≡ s
block_ext r s p q t u v = rw (← p, ← q, ← t, ← u, ← v)
