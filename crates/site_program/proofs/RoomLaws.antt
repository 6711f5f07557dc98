-- A buffer with room for the longest text holds the text of every verb: none is refused by 9, 12 or 13.
use Rattle.std.specs.Prelude.{◌≡◌, ◌≤◌, Result, Ok, Err}
use Rattle.lists.specs.Kit.{refl, sym, ap, ◌∙◌, Bool, true, false, List, ℕ, zero, suc, arith, length, le-leb}
use Rattle.mesh.{specs.Limits.{max_radios, max_neighbours}, specs.Tables.{Tables, graph_in}, specs.Sound.{sound}, proofs.Tables.DegreeSum.{block_count_most}}
use Rattle.mesh.{proofs.Images.Tables.{valid_graph_in}}
use Rattle.calls.{specs.Outcomes.{Listing, listing, listing_outcome, write_outcome, sheet_outcome, script_outcome}, specs.CallContracts.{SheetContract}}
use Rattle.calls.{specs.CallContracts.{ScriptContract, WriteContract}, specs.Questions.{Lengths, lengths_of, ask, image_length}}
use Rattle.calls.{specs.Questions.{lent_refusal, site_refusal}}
use Rattle.calls.{specs.Sheet.{sheet_lines, sheet_length}}
use Rattle.calls.{proofs.QuestionLaws.{ask_yes, ask_later}, proofs.ChainLaws.{lent_later}, proofs.ScriptLaws.{script_most}}
use Rattle.site_program.specs.{declared.names.Verb.{Verb}, declared.names.Verb.TheVariants.{Help, Check, Numbers, Sheet}}
use Rattle.site_program.specs.{declared.names.Verb.TheVariants.{Script, Image, Backbone, Staircase, Tree, Core, Lift, Unknown}, Texts.{TextBy}}
use Rattle.site_program.specs.{Said.{BackboneSaid, CoreSaid, LiftSaid, StaircaseSaid, TreeSaid, Said}, Room.{text_room, Held}}
use Rattle.calls.specs.Questions.{by_number}
use Rattle.calls.specs.Chains.{write_refusal, sheet_refusal, script_refusal}
use Rattle.calls.specs.{Answers.{call_number, value_reply}, declared.Value.{Value}, declared.Refusal.{Refusal}}
use Rattle.calls.specs.Chains.{holds_image, holds_sheet, holds_script}

-- ---- numbers that are none of the three

held_is : {q r : ℕ} → r ≡ q → Held q → Held r
held_is e h = record { image = λ f. h.image (sym e ∙ f); page = λ f. h.page (sym e ∙ f); text = λ f. h.text (sym e ∙ f) }

held_zero : Held 0
held_zero = record { image = λ f. omega (arith, f); page = λ f. omega (arith, f); text = λ f. omega (arith, f) }

held_one : Held 1
held_one = record { image = λ f. omega (arith, f); page = λ f. omega (arith, f); text = λ f. omega (arith, f) }

held_two : Held 2
held_two = record { image = λ f. omega (arith, f); page = λ f. omega (arith, f); text = λ f. omega (arith, f) }

held_three : Held 3
held_three = record { image = λ f. omega (arith, f); page = λ f. omega (arith, f); text = λ f. omega (arith, f) }

held_four : Held 4
held_four = record { image = λ f. omega (arith, f); page = λ f. omega (arith, f); text = λ f. omega (arith, f) }

held_eight : Held 8
held_eight = record { image = λ f. omega (arith, f); page = λ f. omega (arith, f); text = λ f. omega (arith, f) }

held_twenty : Held 20
held_twenty = record { image = λ f. omega (arith, f); page = λ f. omega (arith, f); text = λ f. omega (arith, f) }

held_ask : (q : ℕ) (b : Bool) (later : ℕ) → Held q → Held later → Held (ask q b later)
unfolding ask
held_ask q true later h k = k
held_ask q false later h k = h

-- questions 1 to 3 stand before
held_site : (n : ℕ) (l : Lengths) (others good : Bool) (later : ℕ) → Held later → Held (site_refusal n l others good later)
unfolding site_refusal lent_refusal
held_site n l others good later h =
    held_ask 1 _ _ held_one (held_ask 2 _ _ held_two (held_ask 3 good later held_three h))

-- ---- the three questions get yes of sound tables

module _ (n : ℕ) (t : Tables) (room : ℕ) (long : text_room ≤ room) where
  sound_later : (x : ℕ) → (n ≤ max_radios → sound n t ≡ true → x ≡ 0)
      → site_refusal n (lengths_of t) true (sound n t) x ≡ site_refusal n (lengths_of t) true (sound n t) 0
  unfolding site_refusal
  sound_later x h = lent_later n (lengths_of t) true _ _ (λ lent. ask_later 3 (sound n t) x 0 (λ s. h lent.most s))

  image_holds : n ≤ max_radios → sound n t ≡ true → ask 9 (holds_image (graph_in n t.links) room) 0 ≡ 0
  unfolding image_length graph_in sound
  image_holds small s =
      let few = block_count_most (graph_in n t.links) t.order small (valid_graph_in max_neighbours n t small s) in
      ask_yes 9 _ 0 (le-leb _ room (omega (arith, few)))

  script_holds : n ≤ max_radios → sound n t ≡ true → ask 13 (holds_script (graph_in n t.links) room) 0 ≡ 0
  unfolding graph_in sound
  script_holds small s =
      let few = script_most (graph_in n t.links) t.order small (valid_graph_in max_neighbours n t small s) in
      ask_yes 13 _ 0 (le-leb _ room (omega (arith, few)))

  sheet_holds : n ≤ max_radios → sound n t ≡ true → ask 12 (holds_sheet n room) 0 ≡ 0
  unfolding sheet_length sheet_lines
  sheet_holds small s = ask_yes 12 _ 0 (le-leb _ room (omega (arith, small)))

  pub image_held : Held (write_refusal n (lengths_of t) room (sound n t) (graph_in n t.links))
  image_held = held_is (sound_later _ image_holds) (held_site n (lengths_of t) true (sound n t) 0 held_zero)

  pub script_held : Held (script_refusal n (lengths_of t) room (sound n t) (graph_in n t.links))
  script_held = held_is (sound_later _ script_holds) (held_site n (lengths_of t) true (sound n t) 0 held_zero)

  pub sheet_held : Held (sheet_refusal n (lengths_of t) room (sound n t))
  sheet_held = held_is (sound_later _ sheet_holds) (held_site n (lengths_of t) true (sound n t) 0 held_zero)

-- ---- the verbs

-- an outcome's number is its refusal
value_number : (r : Result ℕ Refusal) → (value_reply r).number ≡ call_number r
value_number (Ok k) = refl
value_number (Err f) = refl

number_by : (q x : ℕ) (new old : List ℕ) (r : Result ℕ Refusal) (after : List ℕ) → listing (value_reply r) after ≡ listing_outcome q x new old
    → call_number r ≡ q
unfolding listing_outcome by_number
number_by zero x new old r after e = sym (value_number r) ∙ ap (λ (o : Listing Value (List ℕ)). o.reply.number) e
number_by (suc q) x new old r after e = sym (value_number r) ∙ ap (λ (o : Listing Value (List ℕ)). o.reply.number) e

text_by : (q : ℕ) (text old : List ℕ) (r : Result ℕ Refusal) (after : List ℕ) → TextBy q text old r after → call_number r ≡ q
unfolding TextBy
text_by zero text old r after h = h.number
text_by (suc q) text old r after h = h.number

-- everything that a verb's contract says of its number
unfoldable compute : Unit {0}
unfolding Said BackboneSaid CoreSaid LiftSaid StaircaseSaid TreeSaid
    SheetContract ScriptContract WriteContract sheet_outcome script_outcome write_outcome sound
compute = tt

pub verb_held : (verb : Verb) (v k n : ℕ) (t : Tables) (old : List ℕ) (r : Result ℕ Refusal) (after : List ℕ)
    → text_room ≤ length old → Said verb v k n t old r after
    → Held (call_number r)
unfolding compute
verb_held Help v k n t old r after long h = held_is (text_by _ _ old r after h) held_zero
verb_held Check v k n t old r after long h = held_is (text_by _ _ old r after h) held_zero
verb_held Numbers v k n t old r after long h = held_is (text_by _ _ old r after h) held_zero
verb_held Sheet v k n t old r after long h = held_is (number_by _ _ _ old r after h) (sheet_held n t (length old) long)
verb_held Script v k n t old r after long h = held_is (number_by _ _ _ old r after h) (script_held n t (length old) long)
verb_held Image v k n t old r after long h = held_is (number_by _ _ _ old r after h) (image_held n t (length old) long)
verb_held Backbone v k n t old r after long h = held_is (text_by _ _ old r after h) (held_site n (lengths_of t) _ (sound n t) 0 held_zero)
verb_held Staircase v k n t old r after long h = held_is (text_by _ _ old r after h) (held_site n (lengths_of t) _ (sound n t) 0 held_zero)
verb_held Tree v k n t old r after long h = held_is (text_by _ _ old r after h) (held_site n (lengths_of t) _ (sound n t) 0 held_zero)
verb_held Core v k n t old r after long h =
    held_is (text_by _ _ old r after h) (held_site n (lengths_of t) _ (sound n t) _ (held_ask 4 _ _ held_four (held_ask 8 _ 0 held_eight held_zero)))
verb_held Lift v k n t old r after long h =
    held_is (text_by _ _ old r after h) (held_site n (lengths_of t) true (sound n t) _ (held_ask 4 _ _ held_four (held_ask 20 _ 0 held_twenty held_zero)))
verb_held Unknown v k n t old r after long h = held_is (text_by _ _ old r after h) held_zero
