-- Laws of the form of an image.
-- In order: the shape of a block; what the code tests of a block; that a formed image whose checks are good is canonical.
--   formed_canonical, canonical_formed   the tests hold of an image of n radios, and only of one
--   is_image_formed                      question 11 of formed bytes: what they list is a valid site
use Rattle.std.specs.Prelude.{◌≡◌, ◌↔◌, ◌&&◌, ◌+◌, ◌*◌, ◌-◌, ◌≤◌, ◌<◌}
use Rattle.lists.{specs.Kit.{refl, sym, ap, ◌∙◌, Bool, true, false, cond, List, ℕ, zero, suc, min, arith, ltb, eqb}}
use Rattle.lists.{specs.Kit.{length, get_or, lt-ltb, le-ltb, eqb-true, eq-eqb}, proofs.Tests.{and_left, and_right, and_both}, proofs.All.{all_below, below_all}}
use Rattle.lists.{specs.Facts.{Bytes}}
use Rattle.mesh.{specs.Limits.{max_radios, max_neighbours}, specs.Image.{block_bytes, payload_bytes, block_entries, block_links, word, word_at, order_blocks}}
use Rattle.mesh.{specs.Image.{block_count, order_payload, links_payload, image_order, image_links, image_graph, checks_good, is_image}}
use Rattle.mesh.{proofs.Images.Blocks.{length_order_payload, length_links_payload}, proofs.Images.Of.{kind_at, content_at}, proofs.Images.Canonical.{Canonical}}
use Rattle.mesh.{proofs.Images.Canonical.{length_image_links, length_image_order, is_image_canonical}, specs.Valid.{Valid}}
use Rattle.image.specs.Form.{zeros, kind_of, used_of, block_formed, blocks_formed, is_formed}

-- ---- the shape of a block, by its kind

pub shape_counts : (n m i : ℕ) → i ≡ 0 → (0 ≡ kind_of n i) × (4 ≡ used_of n m i)
unfolding kind_of used_of
shape_counts n m zero e = (refl, refl)
shape_counts n m (suc i) e = absurd (omega arith)

pub shape_order : (n m i : ℕ) → 1 ≤ i → i - 1 < order_blocks n
    → (1 ≡ kind_of n i) × (2 * min block_entries (n - block_entries * (i - 1)) ≡ used_of n m i)
unfolding kind_of used_of
shape_order n m zero h l = absurd (omega arith)
shape_order n m (suc j) h l =
    let k : suc j - 1 ≡ j = omega arith in
    let t : ltb j (order_blocks n) ≡ true = lt-ltb j (order_blocks n) (omega arith) in rw (t, k) (refl, refl)

pub shape_links : (n m i : ℕ) → 1 ≤ i → order_blocks n ≤ i - 1
    → (2 ≡ kind_of n i) × (4 * min block_links (m - block_links * (i - 1 - order_blocks n)) ≡ used_of n m i)
unfolding kind_of used_of
shape_links n m zero h l = absurd (omega arith)
shape_links n m (suc j) h l =
    let k : suc j - 1 ≡ j = omega arith in
    let t : ltb j (order_blocks n) ≡ false = le-ltb j (order_blocks n) (omega arith) in rw (t, k) (refl, refl)

pub links_most : (r x : ℕ) → r ≡ min block_links x → 4 * r ≤ payload_bytes
links_most r x e = omega arith

-- ---- a formed block, as facts

zeros_at : (bs : List ℕ) (at k : ℕ) → zeros bs at k ≡ true → (j : ℕ) → j < k → get_or bs (at + j) 0 ≡ 0
unfolding zeros
zeros_at bs at k h j l = eqb-true (get_or bs (at + j) 0) 0 (all_below (λ i. eqb (get_or bs (at + i) 0) 0) k h j l)

at_zeros : (bs : List ℕ) (at k : ℕ) → ((j : ℕ) → j < k → get_or bs (at + j) 0 ≡ 0) → zeros bs at k ≡ true
unfolding zeros
at_zeros bs at k h = below_all (λ i. eqb (get_or bs (at + i) 0) 0) k (λ j l. eq-eqb (get_or bs (at + j) 0) 0 (h j l))

record Formed (bs : List ℕ) (i kind used : ℕ) : Type 0 where
  kind_is : get_or bs (block_bytes * i) 0 ≡ kind
  zero_is : get_or bs (block_bytes * i + 1) 0 ≡ 0
  index_is : word_at bs (block_bytes * i + 2) ≡ i
  padding_is : zeros bs (block_bytes * i + 4 + used) (payload_bytes - used) ≡ true

module _ (bs : List ℕ) (i k u : ℕ) where
  abbrev first : Bool
  first = eqb (get_or bs (block_bytes * i) 0) k

  abbrev second : Bool
  second = eqb (get_or bs (block_bytes * i + 1) 0) 0

  abbrev index : Bool
  index = eqb (word_at bs (block_bytes * i + 2)) i

  abbrev padding : Bool
  padding = zeros bs (block_bytes * i + 4 + u) (payload_bytes - u)

  formed_of : block_formed bs i k u ≡ true → Formed bs i k u
  unfolding block_formed
  formed_of h =
      let rest = and_right first (second && (index && padding)) h in
      let last = and_right second (index && padding) rest in
      record {
        kind_is = eqb-true (get_or bs (block_bytes * i) 0) k (and_left first (second && (index && padding)) h);
        zero_is = eqb-true (get_or bs (block_bytes * i + 1) 0) 0 (and_left second (index && padding) rest);
        index_is = eqb-true (word_at bs (block_bytes * i + 2)) i (and_left index padding last);
        padding_is = and_right index padding last;
      }

  of_formed : Formed bs i k u → block_formed bs i k u ≡ true
  unfolding block_formed
  of_formed f =
      and_both first (second && (index && padding)) (eq-eqb (get_or bs (block_bytes * i) 0) k f.kind_is)
      (and_both second (index && padding) (eq-eqb (get_or bs (block_bytes * i + 1) 0) 0 f.zero_is)
      (and_both index padding (eq-eqb (word_at bs (block_bytes * i + 2)) i f.index_is) f.padding_is))

-- ---- a formed image

module _ (n : ℕ) (bs : List ℕ) where
  abbrev m : ℕ
  m = word_at bs 6

  abbrev content : ℕ → List ℕ
  content = content_at (image_graph n bs) (image_order n bs)

  kind_same : (i : ℕ) → kind_of n i ≡ kind_at (image_graph n bs) i
  unfolding kind_of kind_at image_graph
  kind_same zero = refl
  kind_same (suc j) = refl

  used_same : (i : ℕ) → used_of n m i ≡ length (content i)
  unfolding used_of content_at image_graph word
  used_same zero = refl
  used_same (suc j) = go (ltb j (order_blocks n))
    where
      go : (t : Bool)
          → cond t (2 * min block_entries (n - block_entries * j)) (4 * min block_links (m - block_links * (j - order_blocks n)))
          ≡ length (cond t (order_payload (image_order n bs) j) (links_payload (image_links n bs) (j - order_blocks n)))
      go true =
          sym (length_order_payload (image_order n bs) j
          ∙ ap (λ (k : ℕ). 2 * min block_entries (k - block_entries * j)) (length_image_order n bs))
      go false =
          sym (length_links_payload (image_links n bs) (j - order_blocks n)
          ∙ ap (λ (k : ℕ). 4 * min block_links (k - block_links * (j - order_blocks n))) (length_image_links n bs))

  abbrev says : Bool
  says = eqb (word_at bs 4) n

  abbrev long : Bool
  long = eqb (length bs) (block_bytes * block_count n m)

  abbrev formed : Bool
  formed = blocks_formed n m bs (block_count n m)

  pub formed_canonical : is_formed n bs ≡ true → checks_good bs ≡ true → Canonical n bs
  unfolding is_formed blocks_formed
  formed_canonical h c =
      let rest = and_right says (long && formed) h in
      let at : (i : ℕ) → i < block_count n m → Formed bs i (kind_of n i) (used_of n m i) =
      λ i l. formed_of bs i (kind_of n i) (used_of n m i)
      (all_below (λ i. block_formed bs i (kind_of n i) (used_of n m i)) (block_count n m) (and_right long formed rest) i l) in
      record {
        whole = eqb-true (length bs) (block_bytes * block_count n m) (and_left long formed rest);
        radios = eqb-true (word_at bs 4) n (and_left says (long && formed) h);
        checks = c;
        kinds = λ i l. (at i l).kind_is ∙ kind_same i;
        zeros = λ i l. (at i l).zero_is;
        indices = λ i l. (at i l).index_is;
        padding = λ i j l past k.
            let u : ℕ = used_of n m i in
            let e = used_same i in
            ap (λ (x : ℕ). get_or bs x 0) (omega arith)
            ∙ zeros_at bs (block_bytes * i + 4 + u) (payload_bytes - u) (at i l).padding_is (j - u) (omega arith);
      }

  pub canonical_formed : Canonical n bs → is_formed n bs ≡ true
  unfolding is_formed blocks_formed
  canonical_formed c =
      and_both says (long && formed) (eq-eqb (word_at bs 4) n c.radios)
      (and_both long formed (eq-eqb (length bs) (block_bytes * block_count n m) c.whole)
      (below_all (λ i. block_formed bs i (kind_of n i) (used_of n m i)) (block_count n m)
      (λ i l. of_formed bs i (kind_of n i) (used_of n m i) (record {
        kind_is = c.kinds i l ∙ sym (kind_same i);
        zero_is = c.zeros i l;
        index_is = c.indices i l;
        padding_is =
            let u : ℕ = used_of n m i in
            let e = used_same i in
            at_zeros bs (block_bytes * i + 4 + u) (payload_bytes - u)
            (λ j k. ap (λ (x : ℕ). get_or bs x 0) (omega arith) ∙ c.padding i (u + j) l (omega arith) (omega arith));
      }))))

  pub is_image_formed : n ≤ max_radios → Bytes bs → checks_good bs ≡ true
      → (is_image n bs ≡ true) ↔ ((is_formed n bs ≡ true) × Valid max_neighbours (image_graph n bs) (image_order n bs))
  is_image_formed small b c = let d = is_image_canonical n bs small b in (
    λ h. let r = d.0 h in (canonical_formed r.0, r.1),
    λ r. d.1 (formed_canonical r.0 c, r.1),
  )
