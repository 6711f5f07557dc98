-- What each verb of the program `site` says: its text in front of a buffer, or the refusal of its call.
--   BackboneSaid .. TreeSaid   texts of lists, which have room for every site; LiftSaid a link's line
--   Said verb       the contract of a verb
-- Definitions only.
use Rattle.std.specs.Prelude.{◌+◌, ◌*◌, Result}
use Rattle.lists.specs.Kit.{List, [], ℕ}
use Rattle.text.specs.Text.{bytes_of}
use Rattle.mesh.specs.{Limits.{max_radios}, Tables.{Tables, graph_in}, Sound.{sound}, Connected.{core_of, backbone}, Staircase.{staircase, link_entries}}
use Rattle.calls.specs.{Questions.{lengths_of}, Lift.{lifting, first_pair}}
use Rattle.calls.specs.{Replay.{numbers_line}, CallContracts.{SheetContract, ScriptContract, WriteContract}, declared.Refusal.{Refusal}, Answers.{value_reply}}
use Rattle.site_program.specs.{declared.names.Verb.{Verb}, declared.names.Verb.TheVariants.{Help, Check, Numbers, Sheet}}
use Rattle.site_program.specs.{declared.names.Verb.TheVariants.{Script, Image, Backbone, Staircase, Tree, Core, Lift, Unknown}, Texts.{radios_line}}
use Rattle.site_program.specs.{Texts.{link_line, pair_lines, tree_text, accepted_line, TextBy}}
use Rattle.calls.specs.Chains.{core_refusal, backbone_refusal, staircase_refusal, tree_refusal, lift_refusal}

-- the backbone, in one line
unfoldable pub BackboneSaid : (n : ℕ) → Tables → (old : List ℕ) → Result ℕ Refusal → (now : List ℕ) → Type 0
BackboneSaid n t w r x =
    TextBy (backbone_refusal n (lengths_of t) max_radios (sound n t)) (radios_line (bytes_of "backbone") (backbone (graph_in n t.links))) w r x

-- the connected core of v at level k, in one line
unfoldable pub CoreSaid : (n v k : ℕ) → Tables → (old : List ℕ) → Result ℕ Refusal → (now : List ℕ) → Type 0
CoreSaid n v k t w r x =
    let g = graph_in n t.links in
    TextBy (core_refusal n v k (lengths_of t) max_radios (sound n t) g) (radios_line (bytes_of "core") (core_of g v k)) w r x

-- the first link that lifts v, in one line
unfoldable pub LiftSaid : (n v : ℕ) → Tables → (old : List ℕ) → Result ℕ Refusal → (now : List ℕ) → Type 0
LiftSaid n v t w r x =
    let g = graph_in n t.links in
    let l = first_pair (lifting g v) in
    TextBy (lift_refusal n v (lengths_of t) (sound n t) g) (link_line l.low l.high) w r x

-- the staircase tree, a line for each kept link
unfoldable pub StaircaseSaid : (n : ℕ) → Tables → (old : List ℕ) → Result ℕ Refusal → (now : List ℕ) → Type 0
StaircaseSaid n t w r x =
    TextBy (staircase_refusal n (lengths_of t) (2 * max_radios) (sound n t)) (pair_lines (link_entries (staircase (graph_in n t.links)))) w r x

-- the shell tree
unfoldable pub TreeSaid : (n : ℕ) → Tables → (old : List ℕ) → Result ℕ Refusal → (now : List ℕ) → Type 0
TreeSaid n t w r x =
    TextBy (tree_refusal n (lengths_of t) (max_radios + 1) max_radios (sound n t)) (tree_text (graph_in n t.links)) w r x

-- v and k are the numbers after the verb; help and a word that is no verb say nothing here
unfoldable pub Said : Verb → (v k n : ℕ) → Tables → (old : List ℕ) → Result ℕ Refusal → (now : List ℕ) → Type 0
Said Help v k n t w r x = TextBy 0 [] w r x
Said Check v k n t w r x = TextBy 0 (accepted_line n) w r x
Said Numbers v k n t w r x = TextBy 0 (numbers_line t.numbers) w r x
Said Sheet v k n t w r x = SheetContract n t w (value_reply r) x
Said Script v k n t w r x = ScriptContract n t w (value_reply r) x
Said Image v k n t w r x = WriteContract n t w (value_reply r) x
Said Backbone v k n t w r x = BackboneSaid n t w r x
Said Staircase v k n t w r x = StaircaseSaid n t w r x
Said Tree v k n t w r x = TreeSaid n t w r x
Said Core v k n t w r x = CoreSaid n v k t w r x
Said Lift v k n t w r x = LiftSaid n v t w r x
Said Unknown v k n t w r x = TextBy 0 [] w r x
