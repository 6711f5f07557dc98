-- `put_up` meets its contract: the word, both radios with a space between, the line feed, each after what stands before it.
use Rattle.lists.specs.Kit.{arith, length-set}
use Rattle.text.proofs.PrintLaws.{puts_byte_in, puts_append}
use Rattle.script.proofs.{ScriptLengths.{length_up_text}, PutLaws.{up_put, up_word, up_lower, up_higher}}
use Rattle.script.proofs.writer.put_up.Goals as goal

pub put_word-lower-requires : goal.put_word-lower-requires
put_word-lower-requires c = omega (arith, c.requires.2, length_up_text c.args.a c.args.b)

pub put_number-space-requires : goal.put_number-space-requires
put_number-space-requires c = (
  omega (arith, c.requires.0, c.requires.1),
  omega (
    arith,
    c.put_word-lower.auto.buffer,
    up_word c.args.buffer.now c.args.at c.args.a c.args.b c.requires.2
        (omega arith) c.put_word-lower.ensures,
  ),
)

pub bounds-buffer-space : goal.bounds-buffer-space
bounds-buffer-space c =
    omega (
      arith,
      c.put_word-lower.auto.buffer,
      c.put_number-space.auto.buffer,
      up_lower c.args.buffer.now c.args.at c.args.a c.args.b c.requires.2 (omega arith)
          c.put_word-lower.ensures c.put_number-space.ensures,
    )

pub overflow_add-space : goal.overflow_add-space
overflow_add-space c =
    omega (arith, up_lower c.args.buffer.now c.args.at c.args.a c.args.b c.requires.2 (omega arith) c.put_word-lower.ensures c.put_number-space.ensures)

pub put_number-feed-requires : goal.put_number-feed-requires
put_number-feed-requires c = (
  omega (arith, c.requires.0, c.requires.1),
  simp length-set (omega (
    arith,
    c.put_word-lower.auto.buffer,
    c.put_number-space.auto.buffer,
    up_lower c.args.buffer.now c.args.at c.args.a c.args.b c.requires.2
        (omega arith) c.put_word-lower.ensures c.put_number-space.ensures,
  )),
)

pub bounds-buffer-feed : goal.bounds-buffer-feed
bounds-buffer-feed c =
    let same = simp length-set at c.put_number-feed.auto.buffer in
    omega (
      arith,
      same,
      c.put_word-lower.auto.buffer,
      c.put_number-space.auto.buffer,
      up_higher c.args.buffer.now c.args.at c.args.a c.args.b c.requires.2 (omega arith) c.put_word-lower.ensures
          c.put_number-space.ensures c.put_number-feed.ensures,
    )

pub overflow_add-result : goal.overflow_add-result
overflow_add-result c =
    omega (
      arith,
      up_higher c.args.buffer.now c.args.at c.args.a c.args.b c.requires.2 (omega arith) c.put_word-lower.ensures c.put_number-space.ensures
          c.put_number-feed.ensures,
    )

pub returns : goal.returns
returns c =
    let room = up_lower c.args.buffer.now c.args.at c.args.a c.args.b c.requires.2 (omega arith) c.put_word-lower.ensures c.put_number-space.ensures in
    let last = up_higher c.args.buffer.now c.args.at c.args.a c.args.b c.requires.2 (omega arith) c.put_word-lower.ensures c.put_number-space.ensures
    c.put_number-feed.ensures in
    up_put c.args.a c.args.b c.put_word-lower.ensures c.put_number-space.ensures
    (puts_append (puts_byte_in _ _ _ (omega (arith, room))) c.put_number-feed.ensures) (puts_byte_in _ _ _ (omega (arith, last)))
