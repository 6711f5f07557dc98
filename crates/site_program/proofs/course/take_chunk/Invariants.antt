-- `take_chunk` meets its contract: what is left of the chunk takes the run where the whole takes it.
use Rattle.std.specs.Prelude.{◌≡◌}
use Rattle.lists.specs.Kit.{length, drop}
use Rattle.mesh.specs.Tables.{tables}
use Rattle.site_program.specs.Course.{spot, bytes_taken}
use Rattle.site_program.proofs.course.take_chunk.Given as goal

abbrev pub invariant-loop-byte : goal.invariant-loop-byte
invariant-loop-byte l = (length l.line ≡ length l.initial.line) × (length l.links ≡ length l.initial.links) ×
    (length l.numbers ≡ length l.initial.numbers) × (length l.order ≡ length l.initial.order) ×
    (bytes_taken (length l.initial.line) l.n (drop l.byte-index l.chunk) (spot (tables l.links l.numbers l.order) l.line l.s)
    ≡ bytes_taken (length l.initial.line) l.n l.chunk
    (spot (tables l.initial.links l.initial.numbers l.initial.order) l.initial.line l.initial.s))
