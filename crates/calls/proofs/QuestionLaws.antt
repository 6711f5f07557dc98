-- Laws of the questions: one question of a chain, then each question as what it asks, both ways; 1 is in mesh. Chains are in
-- ChainLaws.antt.
use Rattle.std.specs.Prelude.{◌≡◌, ◌&&◌, ◌+◌, ◌*◌, ◌≤◌, ◌<◌}
use Rattle.lists.{specs.Kit.{refl, Bool, true, false, not, ℕ, suc, arith, ltb, eqb, ltb-true, leb-true, eqb-true, eqb-false}}
use Rattle.lists.{specs.Kit.{lt-ltb, le-leb, eq-eqb, ne_eqb, not-true}, proofs.Tests.{never, and_left, and_right, and_both}}
use Rattle.mesh.specs.{Limits.{row_bytes}, Graph.{Graph, linked, degree}, Cores.{number}}
use Rattle.calls.specs.{Sheet.{sheet_length}, Questions.{ask, Lengths, site_lengths, answer_length, is_radio, are_radios, ends_differ}}
use Rattle.calls.specs.{Questions.{can_switch, has_room, has_level, image_length}}
pub use Rattle.mesh.proofs.Sizes.{size_good_true, true_size_good}
use Rattle.calls.specs.Chains.{nodes_length, holds_image, holds_sheet}

-- ---- one question

pub ask_yes : (r : ℕ) (answer : Bool) (later : ℕ) → answer ≡ true → ask r answer later ≡ later
unfolding ask
ask_yes r x later e = rw e

pub ask_no : (r : ℕ) (answer : Bool) (later : ℕ) → answer ≡ false → ask r answer later ≡ r
unfolding ask
ask_no r x later e = rw e

-- no "no": this question got yes, and so did the later ones
pub ask_zero : (r : ℕ) (answer : Bool) (later : ℕ) → ask (suc r) answer later ≡ 0 → (answer ≡ true) × (later ≡ 0)
unfolding ask
ask_zero r true later p = (refl, p)
ask_zero r false later p = absurd (omega arith)

-- chains agree that agree after a yes
pub ask_later : (r : ℕ) (answer : Bool) (x y : ℕ) → (answer ≡ true → x ≡ y) → ask r answer x ≡ ask r answer y
unfolding ask
ask_later r true x y e = e refl
ask_later r false x y e = refl

-- ---- 2: lengths

-- the lengths of links, numbers and order that question 2 wants
pub record SiteLengths (n : ℕ) (l : Lengths) : Type 0 where
  pub links : l.links ≡ row_bytes * n
  pub numbers : l.numbers ≡ n
  pub order : l.order ≡ n

pub site_lengths_true : (n : ℕ) (l : Lengths) → site_lengths n l ≡ true → SiteLengths n l
unfolding site_lengths
site_lengths_true n l p =
    let q = and_right (eqb l.links (row_bytes * n)) (eqb l.numbers n && eqb l.order n) p in
    record {
      links = eqb-true l.links (row_bytes * n) (and_left (eqb l.links (row_bytes * n)) (eqb l.numbers n && eqb l.order n) p);
      numbers = eqb-true l.numbers n (and_left (eqb l.numbers n) (eqb l.order n) q);
      order = eqb-true l.order n (and_right (eqb l.numbers n) (eqb l.order n) q);
    }

pub true_site_lengths : (n : ℕ) (l : Lengths) → SiteLengths n l → site_lengths n l ≡ true
unfolding site_lengths
true_site_lengths n l s =
    rw (eq-eqb l.links (row_bytes * n) s.links, eq-eqb l.numbers n s.numbers, eq-eqb l.order n s.order)

pub answer_length_true : (n w : ℕ) → answer_length n w ≡ true → n ≤ w
unfolding answer_length
answer_length_true n w p = leb-true n w p

pub true_answer_length : (n w : ℕ) → n ≤ w → answer_length n w ≡ true
unfolding answer_length
true_answer_length n w l = le-leb n w l

pub nodes_length_true : (n w : ℕ) → nodes_length n w ≡ true → n + 1 ≤ w
nodes_length_true n w p = leb-true (n + 1) w p

pub true_nodes_length : (n w : ℕ) → n + 1 ≤ w → nodes_length n w ≡ true
true_nodes_length n w l = le-leb (n + 1) w l

-- ---- 4 to 9: radios, links, levels, room

pub is_radio_true : (n v : ℕ) → is_radio n v ≡ true → v < n
unfolding is_radio
is_radio_true n v p = ltb-true v n p

pub true_is_radio : (n v : ℕ) → v < n → is_radio n v ≡ true
unfolding is_radio
true_is_radio n v l = lt-ltb v n l

pub are_radios_true : (n a b : ℕ) → are_radios n a b ≡ true → (a < n) × (b < n)
unfolding are_radios is_radio
are_radios_true n a b p = (ltb-true a n (and_left (ltb a n) (ltb b n) p), ltb-true b n (and_right (ltb a n) (ltb b n) p))

pub true_are_radios : (n a b : ℕ) → a < n → b < n → are_radios n a b ≡ true
unfolding are_radios is_radio
true_are_radios n a b p q = and_both (ltb a n) (ltb b n) (lt-ltb a n p) (lt-ltb b n q)

pub ends_differ_true : (a b : ℕ) → ends_differ a b ≡ true → a ≡ b → ⊥
unfolding ends_differ
ends_differ_true a b p = eqb-false a b (not-true (eqb a b) p)

pub true_ends_differ : (a b : ℕ) → (a ≡ b → ⊥) → ends_differ a b ≡ true
unfolding ends_differ
true_ends_differ a b h = rw (ne_eqb a b h)

pub can_switch_true : (up : Bool) (g : Graph) (a b : ℕ) → can_switch up g a b ≡ true → linked g a b ≡ not up
unfolding can_switch
can_switch_true true g a b p = not-true (linked g a b) p
can_switch_true false g a b p = p

pub true_can_switch : (up : Bool) (g : Graph) (a b : ℕ) → linked g a b ≡ not up → can_switch up g a b ≡ true
unfolding can_switch
true_can_switch true g a b p = rw p
true_can_switch false g a b p = p

pub has_room_true : (most : ℕ) (up : Bool) (g : Graph) (a b : ℕ) → has_room most up g a b ≡ true → up ≡ true → (degree g a < most) × (degree g b < most)
unfolding has_room
has_room_true most true g a b p e = (
  ltb-true (degree g a) most (and_left (ltb (degree g a) most) (ltb (degree g b) most) p),
  ltb-true (degree g b) most (and_right (ltb (degree g a) most) (ltb (degree g b) most) p),
)
has_room_true most false g a b p e = never false e refl

pub true_has_room : (most : ℕ) (up : Bool) (g : Graph) (a b : ℕ) → (up ≡ true → (degree g a < most) × (degree g b < most)) → has_room most up g a b ≡ true
unfolding has_room
true_has_room most true g a b h =
    and_both (ltb (degree g a) most) (ltb (degree g b) most) (lt-ltb (degree g a) most (h refl).0) (lt-ltb (degree g b) most (h refl).1)
true_has_room most false g a b h = refl

pub has_level_true : (g : Graph) (v k : ℕ) → has_level g v k ≡ true → k ≤ number g v
unfolding has_level
has_level_true g v k p = leb-true k (number g v) p

pub true_has_level : (g : Graph) (v k : ℕ) → k ≤ number g v → has_level g v k ≡ true
unfolding has_level
true_has_level g v k l = le-leb k (number g v) l

pub holds_image_true : (g : Graph) (room : ℕ) → holds_image g room ≡ true → image_length g ≤ room
holds_image_true g room p = leb-true (image_length g) room p

pub true_holds_image : (g : Graph) (room : ℕ) → image_length g ≤ room → holds_image g room ≡ true
true_holds_image g room l = le-leb (image_length g) room l

pub holds_sheet_true : (n room : ℕ) → holds_sheet n room ≡ true → sheet_length n ≤ room
holds_sheet_true n room p = leb-true (sheet_length n) room p

pub true_holds_sheet : (n room : ℕ) → sheet_length n ≤ room → holds_sheet n room ≡ true
true_holds_sheet n room l = le-leb (sheet_length n) room l
