-- Laws of links put into a block.
-- In order: putting links, one link, a part of the links, the links of a word, of a row and of the rows, a cursor.
use Rattle.std.specs.Prelude.{◌≡◌, ◌∷◌, ◌++◌, ◌+◌, ◌*◌, ◌-◌, ◌/◌, ◌%◌, ◌^◌, ◌≤◌, ◌<◌}
use Rattle.lists.{specs.Kit.{refl, sym, ap, ap₂, ◌∙◌, inl, inr, List, [], flat_map, append-nil, ℕ}}
use Rattle.lists.{specs.Kit.{arith, bit_and, count_trailing_zeros, length, get_or, take, drop, length-append, length-take, length-drop, sets, take-append-le}}
use Rattle.lists.{specs.Kit.{drop-append-le, take-add, drop-drop, length-take-le}, proofs.Map.{map_append, flat_map_append}, proofs.Parts.{length_flat_map}}
use Rattle.lists.{proofs.Overwrite.{sets_append}}
use Rattle.mesh.{specs.Graph.{Link, link_of}, specs.Limits.{max_radios, row_bytes}, specs.Image.{link_bytes}, proofs.Images.Blocks.{length_link_bytes}}
use Rattle.rows.{specs.Rows.{row_from, set_bits, row_word, word_of}, proofs.RowWords.{row_split, row_from_end, word_of_whole, row_word_part}}
use Rattle.rows.{proofs.WordLaws.{word_none}, specs.Links.{links_to, links_above, links_from}, proofs.AboveWords.{above_words}}
use Rattle.rows.{proofs.LinksFrom.{links_lowest, links_none, links_from_row, links_from_end}}
use Rattle.image_writer.specs.Blocks.{LinksPut, RowStopped, row_left, links_left}

-- ---- links put one after the other

pub put_none : (ls : List Link) (from : ℕ) (old : List ℕ) → from ≤ 508 → LinksPut ls from old old from ls
unfolding flat_map
put_none ls from old h = record { done = 0; long = omega arith; place = omega arith; within = h; is = refl; rest = refl }

-- so many bytes
length_put : (ls : List Link) (k : ℕ) → k ≤ length ls → length (flat_map link_bytes (take k ls)) ≡ 4 * k
length_put ls k h = length_flat_map link_bytes 4 length_link_bytes (take k ls) ∙ ap (λ (j : ℕ). 4 * j) (length-take-le k ls h)

-- more of what is left
pub put_then : {ls : List Link} {from : ℕ} {old now : List ℕ} {at : ℕ} (xs more : List Link) (new : List ℕ) (to : ℕ) (left : List Link)
    → LinksPut ls from old now at (xs ++ more) → LinksPut xs at now new to left → LinksPut ls from old new to (left ++ more)
put_then {ls} {from} {old} {now} {at} xs more new to left p q =
    let j = p.done in
    let k = q.done in
    let whole : xs ++ more ≡ drop j ls = p.rest in
    let tail : take k (drop j ls) ≡ take k xs = ap (take k) (sym whole) ∙ take-append-le k xs more q.long in
    let both : take (j + k) ls ≡ take j ls ++ take k xs = take-add j k ls ∙ ap (λ (z : List Link). take j ls ++ z) tail in
    let bytes : flat_map link_bytes (take (j + k) ls) ≡ flat_map link_bytes (take j ls) ++ flat_map link_bytes (take k xs) =
    ap (flat_map link_bytes) both ∙ flat_map_append link_bytes (take j ls) (take k xs) in
    let here : at ≡ from + length (flat_map link_bytes (take j ls)) = omega (arith, p.place, length_put ls j p.long) in
    record {
      done = j + k;
      long = omega (arith, p.long, q.long, ap length whole, length-append xs more, length-drop j ls);
      place = omega (arith, p.place, q.place);
      within = q.within;
      is =
          q.is ∙ ap₂ {C = List ℕ} (λ (bs : List ℕ) (i : ℕ). sets bs i (flat_map link_bytes (take k xs))) p.is here
          ∙ sym (sets_append old from (flat_map link_bytes (take j ls)) (flat_map link_bytes (take k xs))) ∙ ap (sets old from) (sym bytes);
      rest =
          ap (λ (z : List Link). z ++ more) q.rest ∙ sym (drop-append-le k xs more q.long) ∙ ap (drop k) whole ∙ drop-drop k j ls;
    }

-- the same where nothing of the part is left
pub put_whole : {ls : List Link} {from : ℕ} {old now : List ℕ} {at : ℕ} (xs more : List Link) (new : List ℕ) (to : ℕ) (left : List Link)
    → LinksPut ls from old now at (xs ++ more) → LinksPut xs at now new to left → left ≡ [] → LinksPut ls from old new to more
put_whole xs more new to left p q e = rw e at (put_then xs more new to left p q)

-- one link
pub put_one : (l : Link) (at : ℕ) (now new : List ℕ) → at + 4 ≤ 508 → new ≡ sets now at (link_bytes l) → LinksPut (l ∷ []) at now new (at + 4) []
unfolding flat_map
put_one l at now new h e =
    record { done = 1; long = omega arith; place = omega arith; within = h; is = e ∙ ap (sets now at) (sym (append-nil (link_bytes l))); rest = refl }

-- ---- the set bits of a word, the lowest first

module _ (a first rest : ℕ) (some : rest ≡ 0 → ⊥) (low : rest < 2 ^ 64) where
  abbrev b : ℕ
  b = first + count_trailing_zeros 64 rest

  pub bits_turn : {ls : List Link} {from : ℕ} {old now : List ℕ} {at : ℕ} (new : List ℕ) → LinksPut ls from old now at (links_to a (set_bits 64 first rest))
      → at + 4 ≤ 508 → new ≡ sets now at (link_bytes (link_of a b)) → LinksPut ls from old new (at + 4)
      (links_to a (set_bits 64 first (bit_and rest (rest - 1))))
  bits_turn {ls} {from} {old} {now} {at} new p h e =
      put_whole (link_of a b ∷ []) (links_to a (set_bits 64 first (bit_and rest (rest - 1)))) new (at + 4) []
      (rw (links_lowest a first rest low some) at p) (put_one (link_of a b) at now new h e) refl

-- ---- rows

-- the links of a row from word k on, of which w is word k
module _ (ts : List ℕ) (bytes : (j : ℕ) → get_or ts j 0 < 256) (a k w : ℕ) (h : k < 8) (e : w ≡ row_word 8 ts (row_bytes * a + 8 * k)) where
  pub links_word : links_to a (row_from ts a k) ≡ links_to a (set_bits 64 (64 * k) w) ++ links_to a (row_from ts a (k + 1))
  links_word =
      ap (links_to a) (row_split ts bytes a k w h e)
      ∙ map_append (link_of a) (set_bits 64 (64 * k) w) (row_from ts a (k + 1))

-- the links of a row, of which w is the row's own word and x what is left of it above a
module _ (ts : List ℕ) (bytes : (j : ℕ) → get_or ts j 0 < 256) (a w x : ℕ) (small : a < max_radios) (fits : row_bytes * a + row_bytes ≤ length ts)
    (e : w ≡ row_word 8 ts (row_bytes * a + 8 * (a / 64))) (f : x ≡ w / 2 ^ (a % 64) / 2 ^ 1) where
  pub links_row : links_above ts a ≡ links_to a (set_bits 64 (a + 1) x) ++ links_to a (row_from ts a (a / 64 + 1))
  unfolding links_above
  links_row =
      ap (links_to a) (above_words ts a small fits bytes w x e f) ∙ map_append (link_of a) (set_bits 64 (a + 1) x) (row_from ts a (a / 64 + 1))

-- the links of the rows from a on
pub links_rows : (n : ℕ) (ts : List ℕ) (a : ℕ) → a < n → links_from n ts a 0 ≡ links_above ts a ++ links_from n ts (a + 1) 0
unfolding links_above
links_rows n ts a h = links_from_row n ts a 0 h (omega arith)

-- ---- a word that is lent by itself

pub word_of_part : (ts : List ℕ) (at m : ℕ) → m ≡ 8 → at + 8 ≤ length ts → word_of (take m (drop at ts)) 0 ≡ row_word 8 ts at
word_of_part ts at m e h =
    let here : at + 0 ≡ at = omega arith in
    word_of_whole (take m (drop at ts)) 0 (omega (arith, length-take m (drop at ts), length-drop at ts)) ∙ row_word_part ts at m 0 8 (omega arith)
    ∙ ap (row_word 8 ts) here

-- ---- cursors

module _ (ts : List ℕ) (a : ℕ) where
  pub row_left_is : (k first rest : ℕ) → row_left ts a k first rest ≡ links_to a (set_bits 64 first rest) ++ links_to a (row_from ts a (k + 1))
  unfolding row_left
  row_left_is k first rest = map_append (link_of a) (set_bits 64 first rest) (row_from ts a (k + 1))

  pub row_left_none : (first rest : ℕ) → rest ≡ 0 → row_left ts a 7 first rest ≡ []
  unfolding row_left
  row_left_none first rest e =
      ap (λ (bs : List ℕ). links_to a (bs ++ row_from ts a 8)) (word_none first rest e) ∙ ap (links_to a) (row_from_end ts a 8 (omega arith))

-- ---- the words of a row

module _ (ts : List ℕ) (bytes : (j : ℕ) → get_or ts j 0 < 256) (a k w : ℕ) (h : k < 8) (e : w ≡ row_word 8 ts (row_bytes * a + 8 * k))
    {ls : List Link} {from : ℕ} {old now : List ℕ} {at : ℕ} (p : LinksPut ls from old now at (links_to a (row_from ts a k)))
    (new : List ℕ) (to rest : ℕ) (q : LinksPut (links_to a (set_bits 64 (64 * k) w)) at now new to (links_to a (set_bits 64 (64 * k) rest))) where
  pub words_stop : LinksPut ls from old new to (row_left ts a k (64 * k) rest)
  words_stop =
      rw (row_left_is ts a k (64 * k) rest)
      (put_then (links_to a (set_bits 64 (64 * k) w)) (links_to a (row_from ts a (k + 1))) new to _ (rw (links_word ts bytes a k w h e) at p) q)

  pub words_turn : rest ≡ 0 → LinksPut ls from old new to (links_to a (row_from ts a (k + 1)))
  words_turn z =
      put_whole (links_to a (set_bits 64 (64 * k) w)) (links_to a (row_from ts a (k + 1))) new to _ (rw (links_word ts bytes a k w h e) at p) q
      (links_none a (64 * k) rest z)

pub words_end : (ts : List ℕ) (a k : ℕ) {ls : List Link} {from : ℕ} {old now : List ℕ} {at : ℕ} → 8 ≤ k
    → LinksPut ls from old now at (links_to a (row_from ts a k)) → LinksPut ls from old now at (row_left ts a 7 0 0)
words_end ts a k h p = rw (row_left_none ts a 0 0 refl) (rw (row_from_end ts a k h) at p)

-- ---- what a cursor leaves of its row

abbrev after : (links : List ℕ) → (a k : ℕ) → List Link
after ts a k = links_to a (row_from ts a (k + 1))

module _ (ts : List ℕ) (a k first rest left : ℕ) {old new : List ℕ} {from at : ℕ}
    (p : LinksPut (links_to a (set_bits 64 first rest)) from old new at (links_to a (set_bits 64 first left))) where
  whole : LinksPut (row_left ts a k first rest) from old new at (links_to a (set_bits 64 first left) ++ after ts a k)
  whole =
      rw (row_left_is ts a k first rest)
      (put_then (links_to a (set_bits 64 first rest)) (after ts a k) new at _
      (put_none (links_to a (set_bits 64 first rest) ++ after ts a k) from old (omega (arith, p.place, p.within))) p)

  pub row_stop : LinksPut (row_left ts a k first rest) from old new at (row_left ts a k first left)
  row_stop = rw (row_left_is ts a k first left) whole

  pub row_turn : left ≡ 0 → (last : List ℕ) (to : ℕ) (others : List Link) → LinksPut (after ts a k) at new last to others
      → LinksPut (row_left ts a k first rest) from old last to others
  row_turn z last to others q =
      let mine : LinksPut (row_left ts a k first rest) from old new at (after ts a k ++ []) = rw (append-nil (after ts a k))
      (rw (links_none a first left z) at whole) in
      rw (append-nil others) at (put_then (after ts a k) [] last to others mine q)

-- ---- rows

module _ (n : ℕ) (ts : List ℕ) (a : ℕ) (h : a < n) {ls : List Link} {from : ℕ} {old now : List ℕ} {at : ℕ}
    (p : LinksPut ls from old now at (links_from n ts a 0)) (row left : List Link) (new : List ℕ) (to : ℕ) (e : row ≡ links_above ts a)
    (q : LinksPut row at now new to left) where
  rows_put : LinksPut ls from old new to (left ++ links_from n ts (a + 1) 0)
  rows_put = put_then (links_above ts a) (links_from n ts (a + 1) 0) new to left (rw (links_rows n ts a h) at p) (rw e at q)

  pub rows_stop : (k first rest : ℕ) → left ≡ row_left ts a k first rest → LinksPut ls from old new to (links_left n ts a k first rest)
  unfolding links_left
  rows_stop k first rest d = rw d at rows_put

  pub rows_turn : left ≡ [] → LinksPut ls from old new to (links_from n ts (a + 1) 0)
  rows_turn d = rw d at rows_put

module _ (n : ℕ) (ts : List ℕ) where
  -- past the last row nothing is left
  pub links_left_end : (row first : ℕ) → n ≤ row → links_left n ts row 7 first 0 ≡ []
  unfolding links_left
  links_left_end row first h = ap₂ {C = List Link} (λ xs ys. xs ++ ys) (row_left_none ts row first 0 refl) (links_from_end n ts (row + 1) 0 (omega arith))

  pub rows_end : (a : ℕ) {ls : List Link} {from : ℕ} {old now : List ℕ} {at : ℕ} → n ≤ a → LinksPut ls from old now at (links_from n ts a 0)
      → LinksPut ls from old now at (links_left n ts n 7 0 0)
  rows_end a h p = rw (links_left_end n 0 (omega arith)) (rw (links_from_end n ts a 0 h) at p)

-- ---- what a cursor leaves

module _ (n : ℕ) (ts : List ℕ) (a k first rest : ℕ) {from at : ℕ} {old now : List ℕ} (left : List Link)
    (p : LinksPut (row_left ts a k first rest) from old now at left) where
  left_put : LinksPut (links_left n ts a k first rest) from old now at (left ++ links_from n ts (a + 1) 0)
  unfolding links_left
  left_put =
      put_then (row_left ts a k first rest) (links_from n ts (a + 1) 0) now at left
      (put_none (row_left ts a k first rest ++ links_from n ts (a + 1) 0) from old (omega (arith, p.place, p.within))) p

  pub left_stop : (k₂ first₂ rest₂ : ℕ) → left ≡ row_left ts a k₂ first₂ rest₂ → LinksPut (links_left n ts a k first rest) from old now at
      (links_left n ts a k₂ first₂ rest₂)
  unfolding links_left
  left_stop k₂ first₂ rest₂ d = rw d at left_put

  pub left_turn : left ≡ [] → (new : List ℕ) (to : ℕ) (others : List Link) → LinksPut (links_from n ts (a + 1) 0) at now new to others
      → LinksPut (links_left n ts a k first rest) from old new to others
  left_turn d new to others q =
      let mine : LinksPut (links_left n ts a k first rest) from old now at (links_from n ts (a + 1) 0 ++ []) = rw append-nil (rw d at left_put) in
      rw (append-nil others) at (put_then (links_from n ts (a + 1) 0) [] new to others mine q)

-- ---- as the code names its values

module _ (n : ℕ) (ts : List ℕ) (a : ℕ) (h : a < n) {ls : List Link} {from : ℕ} {old now : List ℕ} {at : ℕ}
    (p : LinksPut ls from old now at (links_from n ts a 0)) {at₁ row₁ : ℕ} (k₁ first₁ rest₁ : ℕ) (begun : row_left ts a k₁ first₁ rest₁ ≡ links_above ts a)
    (same : (at₁ ≡ at) × (row₁ ≡ a) × (k₁ < 8) × (first₁ ≤ max_radios)) {new : List ℕ} {to : ℕ} (k first rest : ℕ)
    (q : LinksPut (row_left ts row₁ k₁ first₁ rest₁) at₁ now new to (row_left ts row₁ k first rest)) where
  mine : LinksPut (row_left ts a k₁ first₁ rest₁) at now new to (row_left ts a k first rest)
  mine = rw (same.0, same.1) at q

  pub rows_stop_as : (row : ℕ) → row ≡ row₁ → LinksPut ls from old new to (links_left n ts row k first rest)
  rows_stop_as row e = rw (e ∙ same.1) (rows_stop n ts a h p _ _ new to begun mine k first rest refl)

  pub rows_turn_as : row_left ts row₁ k first rest ≡ [] → LinksPut ls from old new to (links_from n ts (a + 1) 0)
  rows_turn_as d = rows_turn n ts a h p _ _ new to begun mine (rw same.1 at d)

-- nothing of the row is left, or the block is full
module _ (ts : List ℕ) (at a k first rest : ℕ) (s : RowStopped ts at a k first rest) where
  pub row_none : rest ≡ 0 → row_left ts a k first rest ≡ []
  row_none e = go s
    where
      go : RowStopped ts at a k first rest → row_left ts a k first rest ≡ []
      go (inl d) = d.1
      go (inr d) = absurd (d.0 e)

module _ (n : ℕ) (ts : List ℕ) (a k first rest : ℕ) {from at : ℕ} {old now : List ℕ} (e : from ≡ 4) (k₂ first₂ rest₂ : ℕ)
    (p : LinksPut (row_left ts a k first rest) from old now at (row_left ts a k₂ first₂ rest₂)) where
  pub left_stop_as : (row : ℕ) → row ≡ a → LinksPut (links_left n ts a k first rest) 4 old now at (links_left n ts row k₂ first₂ rest₂)
  left_stop_as row d = rw d (rw e at (left_stop n ts a k first rest _ p k₂ first₂ rest₂ refl))

  pub left_turn_as : row_left ts a k₂ first₂ rest₂ ≡ [] → (new : List ℕ) (to : ℕ) (others : List Link) → LinksPut (links_from n ts (a + 1) 0) at now new to
      others
      → LinksPut (links_left n ts a k first rest) 4 old new to others
  left_turn_as d new to others q = rw e at (left_turn n ts a k first rest _ p d new to others q)

-- a word of which something is left has a link
pub left_some : (n : ℕ) (ts : List ℕ) (a k first rest : ℕ) → (rest ≡ 0 → ⊥) → rest < 2 ^ 64 → 1 ≤ length (links_left n ts a k first rest)
unfolding links_left
left_some n ts a k first rest some low =
    omega (
      arith,
      ap length (row_left_is ts a k first rest ∙ ap (λ (xs : List Link). xs ++ after ts a k) (links_lowest a first rest low some)),
      length-append (row_left ts a k first rest) (links_from n ts (a + 1) 0),
    )

-- a full block takes no link
module _ {ls left : List Link} {old new : List ℕ} {at : ℕ} (p : LinksPut ls 508 old new at left) where
  none_done : p.done ≡ 0
  none_done = omega (arith, p.place, p.within)

  pub full_same : new ≡ old
  unfolding flat_map
  full_same = p.is ∙ ap (λ (k : ℕ). sets old 508 (flat_map link_bytes (take k ls))) none_done

  pub full_left : left ≡ ls
  full_left = p.rest ∙ ap (λ (k : ℕ). drop k ls) none_done
