-- `wanted_word` meets its contract: `&` with the complement of a word leaves the bits that the word lacks.
use Rattle.lists.specs.Kit.{◌∙◌, ap, sym, Bool, rules}
use Rattle.mesh.specs.Tables.{digit}
use Rattle.conditions.{specs.Hearing.{wanted_by}, proofs.WantLaws.{word_up, word_down}}
use Rattle.hearing.proofs.wanted.wanted_word.Goals as goal

pub returns-then-up : goal.returns-then-up
returns-then-up c =
    λ m l.
    word_up c.args.heard c.args.alone c.args.links (search rules) (search rules) (search rules) m l
    ∙ ap (λ (u : Bool). wanted_by u (digit c.args.heard m) (digit c.args.alone m) (digit c.args.links m)) (sym c.if-up.true)

pub returns : goal.returns
returns c =
    λ m l.
    word_down c.args.heard c.args.alone c.args.links (search rules) (search rules) (search rules) m l
    ∙ ap (λ (u : Bool). wanted_by u (digit c.args.heard m) (digit c.args.alone m) (digit c.args.links m)) (sym c.if-up.false)
