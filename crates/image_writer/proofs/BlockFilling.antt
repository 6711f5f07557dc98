-- Laws of the writer's blocks: each kind of block is the image's block.
-- In order: a block of links, the blocks before the links, blocks one after the other, all blocks of links, the image.
use Rattle.std.specs.Prelude.{◌≡◌, ◌⊎◌, ◌∷◌, ◌++◌, ◌+◌, ◌*◌, ◌-◌, ◌/◌, ◌^◌, ◌≤◌, ◌<◌}
use Rattle.lists.{specs.Kit.{refl, sym, ap, ap₂, ◌∙◌, inl, inr, true, false, List, [], flat_map, append_assoc, append-nil, ℕ, zero, suc}}
use Rattle.lists.{specs.Kit.{min, arith, ltb, length, take, drop, set, replicate, length-append, length-drop, length-set}}
use Rattle.lists.{specs.Kit.{take-append-drop, sets, sets-eq, length-sets, take_at, take_all, drop_at, drop-drop, length-take-le, lt-ltb, le-ltb}}
use Rattle.lists.{specs.Lists.{range}, proofs.Parts.{length_flat_map}, proofs.Map.{flat_map_append}, proofs.Range.{range_append}}
use borrow.Rule.Slice.PartMut.{put_mid, put_same, same_len_mid}
use Rattle.mesh.{specs.Limits.{max_radios}, specs.Graph.{Link, graph}, specs.Image.{block_bytes, payload_bytes, block_entries, block_links, word, link_bytes}}
use Rattle.mesh.{specs.Image.{block, blocks_for, order_blocks, order_payload, links_payload, block_at}, proofs.Images.Blocks.{length_link_bytes}}
use Rattle.rows.specs.Links.{links_from}
use Rattle.image_writer.specs.{Filler.{sealed}, Blocks.{LinksPut, links_left, NextLink, LinksFilled, links_block, AllLinksFilled, front_block}}
use Rattle.image_writer.proofs.{LinksPut.{left_some}, FillerLaws.{filled_payload, sealed_payload}}

-- ---- the blocks before the links

module _ (n m : ℕ) (order after : List ℕ) where
  pub front_counts : (i : ℕ) → i ≡ 0 → after ≡ block 0 0 (word n ++ word m) → after ≡ front_block n m order i
  unfolding front_block
  front_counts zero h e = e
  front_counts (suc j) h e = absurd (omega arith)

  pub front_order : (i : ℕ) → (i ≡ 0 → ⊥) → after ≡ block 1 i (flat_map word (take block_entries (drop (block_entries * (i - 1)) order)))
      → after ≡ front_block n m order i
  unfolding front_block order_payload
  front_order zero h e = absurd (h refl)
  front_order (suc j) h e = let k : suc j - 1 ≡ j = omega arith in e ∙ rw k

-- ---- blocks one after the other: from block s to block j so far, each in its own part of the buffer

pub record Filling (f : ℕ → List ℕ) (start : List ℕ) (s j : ℕ) (buffer : List ℕ) : Type 0 where
  pub low : s ≤ j
  pub room : block_bytes * s ≤ length start
  pub long : length buffer ≡ length start
  pub front : length (flat_map f (range s (j - s))) ≡ block_bytes * (j - s)
  pub is : buffer ≡ take (block_bytes * s) start ++ (flat_map f (range s (j - s)) ++ drop (block_bytes * j) start)

pub filling_none : (f : ℕ → List ℕ) (start : List ℕ) (s : ℕ) → block_bytes * s ≤ length start → Filling f start s s start
unfolding flat_map range
filling_none f start s h =
    let none : s - s ≡ 0 = omega arith in record {
      low = omega arith;
      room = h;
      long = refl;
      front = rw none;
      is = rw none (sym (take-append-drop (block_bytes * s) start));
    }

module _ (f : ℕ → List ℕ) (start : List ℕ) (s j k : ℕ) (buffer : List ℕ) (g : Filling f start s j buffer) (e : k ≡ block_bytes) where
  abbrev done : List ℕ
  done = take (block_bytes * s) start ++ flat_map f (range s (j - s))

  abbrev rest : List ℕ
  rest = drop (block_bytes * j) start

  done_long : length done ≡ block_bytes * j
  done_long = omega (
    arith,
    length-append (take (block_bytes * s) start) (flat_map f (range s (j - s))),
    length-take-le (block_bytes * s) start g.room,
    g.front,
    g.low,
  )

  is : buffer ≡ done ++ rest
  is = g.is ∙ sym (append_assoc (take (block_bytes * s) start) (flat_map f (range s (j - s))) rest)

  pub filling_turn : (new : List ℕ) → block_bytes * j + block_bytes ≤ length buffer → length new ≡ length (take k (drop (block_bytes * j) buffer)) → new ≡ f j
      → Filling f start s (j + 1) (put_mid (block_bytes * j) k buffer new)
  unfolding flat_map range
  filling_turn new fits same_long h =
      let seam : take (block_bytes * j) buffer ≡ done = ap (take (block_bytes * j)) is ∙ take_at done rest (block_bytes * j) done_long in
      let left : drop (block_bytes * j) buffer ≡ rest = ap (drop (block_bytes * j)) is ∙ drop_at done rest (block_bytes * j) done_long in
      let far : block_bytes * j + block_bytes ≡ block_bytes * (j + 1) = omega arith in
      let tail : drop k (drop (block_bytes * j) buffer) ≡ drop (block_bytes * (j + 1)) start =
      ap₂ {C = List ℕ} drop e left ∙ drop-drop block_bytes (block_bytes * j) start ∙ ap (λ (m : ℕ). drop m start) far in
      let z : s + (j - s) ≡ j = omega (arith, g.low) in
      let one : j + 1 - s ≡ j - s + 1 = omega (arith, g.low) in
      let more : flat_map f (range s (j + 1 - s)) ≡ flat_map f (range s (j - s)) ++ f j =
      ap (λ (i : ℕ). flat_map f (range s i)) one ∙ ap (flat_map f) (range_append s (j - s) 1) ∙ flat_map_append f (range s (j - s)) (range (s + (j - s)) 1)
      ∙ ap (λ (ys : List ℕ). flat_map f (range s (j - s)) ++ ys) (append-nil (f (s + (j - s))) ∙ ap f z) in
      let size : length new ≡ block_bytes = same_long ∙ length-take-le k (drop (block_bytes * j) buffer) (omega (arith, length-drop (block_bytes * j) buffer)) ∙
      e in
      record {
        low = omega (arith, g.low);
        room = g.room;
        long = same_len_mid (block_bytes * j) k buffer new same_long ∙ g.long;
        front = omega (arith, ap length more, length-append (flat_map f (range s (j - s))) (f j), ap length h, g.front, g.low);
        is =
            ap₂ {C = List ℕ} (λ xs ys. xs ++ (new ++ ys)) seam tail ∙ ap (λ (b : List ℕ). done ++ (b ++ drop (block_bytes * (j + 1)) start)) h
            ∙ append_assoc (take (block_bytes * s) start) (flat_map f (range s (j - s))) (f j ++ drop (block_bytes * (j + 1)) start)
            ∙ ap (λ (xs : List ℕ). take (block_bytes * s) start ++ xs)
            (sym (append_assoc (flat_map f (range s (j - s))) (f j) (drop (block_bytes * (j + 1)) start))
            ∙ ap (λ (xs : List ℕ). xs ++ drop (block_bytes * (j + 1)) start) (sym more));
      }

-- ---- a block of links

module _ {ls left : List Link} {old new : List ℕ} {at : ℕ} (p : LinksPut ls 4 old new at left) (full : (left ≡ []) ⊎ (at ≡ 508)) where
  -- as many as a block has
  pub put_count : p.done ≡ min block_links (length ls)
  put_count = go full
    where
      go : (left ≡ []) ⊎ (at ≡ 508) → p.done ≡ min block_links (length ls)
      go (inl e) = omega (arith, p.long, p.place, p.within, length-drop p.done ls, ap length (sym p.rest ∙ e))
      go (inr e) = omega (arith, p.long, p.place)

  put_take : take p.done ls ≡ take block_links ls
  put_take = go full
    where
      go : (left ≡ []) ⊎ (at ≡ 508) → take p.done ls ≡ take block_links ls
      go (inr e) = let same : p.done ≡ block_links = omega (arith, p.place) in ap (λ (k : ℕ). take k ls) same
      go (inl e) =
          let all_of : length ls ≤ p.done = omega (arith, length-drop p.done ls, ap length (sym p.rest ∙ e)) in
          take_all p.done ls all_of ∙ sym (take_all block_links ls (omega (arith, p.place, p.within)))

  pub put_left : left ≡ drop block_links ls
  put_left = go full
    where
      go : (left ≡ []) ⊎ (at ≡ 508) → left ≡ drop block_links ls
      go (inr e) = let same : p.done ≡ block_links = omega (arith, p.place) in p.rest ∙ ap (λ (k : ℕ). drop k ls) same
      go (inl e) =
          let few : length ls ≤ block_links = omega (arith, p.place, p.within, length-drop p.done ls, ap length (sym p.rest ∙ e)) in
          e ∙ sym (none few)
        where
          none : length ls ≤ block_links → drop block_links ls ≡ []
          none few = empty (drop block_links ls) (omega (arith, length-drop block_links ls))
            where
              empty : (xs : List Link) → length xs ≡ 0 → xs ≡ []
              empty [] h = refl
              empty (x ∷ xs) h = absurd (omega arith)

-- kind, zero and index of a block of links, stored
head_put : (index : ℕ) (part : List ℕ) → 4 ≤ length part → take 4 (sets (set (set part 0 2) 1 0) 2 (word index)) ≡ 2 ∷ 0 ∷ word index
unfolding word
head_put index [] h = absurd (omega arith)
head_put index (a ∷ []) h = absurd (omega arith)
head_put index (a ∷ b ∷ []) h = absurd (omega arith)
head_put index (a ∷ b ∷ c ∷ []) h = absurd (omega arith)
head_put index (a ∷ b ∷ c ∷ d ∷ more) h = refl

-- head, links and zeros, sealed
pub links_sealed : {ls left : List Link} {old new : List ℕ} {at : ℕ} (p : LinksPut ls 4 old new at left) → (left ≡ []) ⊎ (at ≡ 508) → (index : ℕ)
    (part : List ℕ)
    → length part ≡ block_bytes → old ≡ sets (set (set part 0 2) 1 0) 2 (word index) → (x : List ℕ) → x ≡ sealed (take at new ++ replicate (block_bytes - at) 0)
    → LinksFilled index ls x at left
unfolding word
links_sealed {ls} {left} {old} {new} {at} p full index part long e x sealed_is =
    let xs : List ℕ = flat_map link_bytes (take p.done ls) in
    let size : length xs ≡ 4 * p.done = length_flat_map link_bytes 4 length_link_bytes (take p.done ls) ∙ ap (λ (k : ℕ). 4 * k)
    (length-take-le p.done ls p.long) in
    let old_long : length old ≡ block_bytes =
    ap length e ∙ length-sets (set (set part 0 2) 1 0) 2 (word index) ∙ length-set (set part 0 2) 1 0 ∙ length-set part 0 2 ∙ long in
    let head : take 4 old ≡ 2 ∷ 0 ∷ word index = ap (take 4) e ∙ head_put index part (omega arith) in
    let few : length xs ≤ payload_bytes = omega (arith, size, p.place, p.within) in
    let front : take at new ≡ take 4 old ++ xs =
    ap (take at) (p.is ∙ sets-eq xs old 4 (omega (arith, few)))
    ∙ take_at (take 4 old ++ xs) (drop (4 + length xs) old) at
    (omega (arith, length-append (take 4 old) xs, length-take-le 4 old (omega arith), size, p.place)) in
    let zeros : block_bytes - at ≡ 508 - length xs = omega (arith, size, p.place) in
    record {
      is =
          sealed_is ∙ ap (λ (bs : List ℕ). sealed (bs ++ replicate (block_bytes - at) 0)) (front ∙ ap (λ (bs : List ℕ). bs ++ xs) head)
          ∙ ap (λ (k : ℕ). sealed ((2 ∷ 0 ∷ word index ++ xs) ++ replicate k 0)) zeros ∙ ap sealed (sym (filled_payload 2 index xs few))
          ∙ sealed_payload 2 index xs few ∙ ap (λ (ys : List Link). block 2 index (flat_map link_bytes ys)) (put_take p full);
      place = omega (arith, p.place, put_count p full);
      rest = put_left p full;
    }

-- ---- all blocks of links: the cursor stands before what block i is to hold

pub record Linking (s n : ℕ) (ts start : List ℕ) (row k first rest i count : ℕ) (buffer : List ℕ) : Type 0 where
  pub low : k < 8
  pub small : first ≤ max_radios
  pub left : links_left n ts row k first rest ≡ drop (block_links * (i - s)) (links_from n ts 0 0)
  pub either : ((row < n) × (1 ≤ length (links_left n ts row k first rest))) ⊎ ((n ≤ row) × (links_left n ts row k first rest ≡ []))
  pub tight : block_links * (i - s) < length (links_from n ts 0 0) + block_links
  pub counted : count ≡ min (block_links * (i - s)) (length (links_from n ts 0 0))
  pub filling : Filling (links_block s (links_from n ts 0 0)) start s i buffer

module _ {s n : ℕ} {ts start : List ℕ} {row k first rest i count : ℕ} {buffer : List ℕ} (g : Linking s n ts start row k first rest i count buffer) where
  abbrev ls : List Link
  ls = links_from n ts 0 0

  -- a row that is there has a link, and its block has room
  pub linking_more : row < n → block_links * (i - s) < length ls
  linking_more h = go g.either
    where
      go : ((row < n) × (1 ≤ length (links_left n ts row k first rest))) ⊎ ((n ≤ row) × (links_left n ts row k first rest ≡ [])) → block_links * (i - s) <
          length ls
      go (inl e) = omega (arith, e.1, ap length g.left, length-drop (block_links * (i - s)) ls)
      go (inr e) = absurd (omega (arith, e.0))

  pub linking_room : row < n → block_bytes * (s + blocks_for (length ls) block_links) ≤ length start → block_bytes * i + block_bytes ≤ length buffer
  unfolding blocks_for
  linking_room h fits = omega (arith, linking_more h, g.filling.long, g.filling.low)

  -- past the last row all links are written
  pub linking_end : n ≤ row → AllLinksFilled s ls start buffer i count
  unfolding blocks_for
  linking_end h = go g.either
    where
      go : ((row < n) × (1 ≤ length (links_left n ts row k first rest))) ⊎ ((n ≤ row) × (links_left n ts row k first rest ≡ [])) → AllLinksFilled s ls start
          buffer i count
      go (inl e) = absurd (omega (arith, e.0))
      go (inr e) =
          let none : length ls ≤ block_links * (i - s) = omega (arith, ap length (sym g.left ∙ e.1), length-drop (block_links * (i - s)) ls) in
          let many : i - s ≡ blocks_for (length ls) block_links = omega (arith, g.tight) in
          let all_of : i ≡ s + blocks_for (length ls) block_links = omega (arith, many, g.filling.low) in
          record {
            ended = all_of;
            counted = omega (arith, g.counted);
            long = g.filling.long;
            is =
                g.filling.is
                ∙ ap₂ {C = List ℕ} (λ (m j : ℕ). take (block_bytes * s) start ++ (flat_map (links_block s ls) (range s m) ++ drop (block_bytes * j) start)) many
                all_of;
          }

-- a block after which a link is left is full
pub next_full : {n : ℕ} {ts : List ℕ} {at row k first rest : ℕ} → NextLink n ts at row k first rest → (links_left n ts row k first rest ≡ []) ⊎ (at ≡ 508)
next_full {n} {ts} {at} {row} {k} {first} {rest} h = go h.either
  where
    go : ((row < n) × (rest ≡ 0 → ⊥) × ((at ≡ 508) × (rest < 2 ^ 64))) ⊎ ((n ≤ row) × (links_left n ts row k first rest ≡ [])) →
        (links_left n ts row k first rest ≡ []) ⊎ (at ≡ 508)
    go (inl e) = inr e.2.0
    go (inr e) = inl e.1

-- a row that is there has a link
next_either : {n : ℕ} {ts : List ℕ} {at row k first rest : ℕ} → NextLink n ts at row k first rest
    → ((row < n) × (1 ≤ length (links_left n ts row k first rest))) ⊎ ((n ≤ row) × (links_left n ts row k first rest ≡ []))
next_either {n} {ts} {at} {row} {k} {first} {rest} h = go h.either
  where
    go : ((row < n) × (rest ≡ 0 → ⊥) × ((at ≡ 508) × (rest < 2 ^ 64))) ⊎ ((n ≤ row) × (links_left n ts row k first rest ≡ []))
        → ((row < n) × (1 ≤ length (links_left n ts row k first rest))) ⊎ ((n ≤ row) × (links_left n ts row k first rest ≡ []))
    go (inl e) = inl (e.0, left_some n ts row k first rest e.1 e.2.1)
    go (inr e) = inr e

-- the cursor before the first link
pub linking_none : (s : ℕ) {n : ℕ} {ts start : List ℕ} {at row k first rest : ℕ} → NextLink n ts at row k first rest
    → links_left n ts row k first rest ≡ links_from n ts 0 0 → block_bytes * s ≤ length start → Linking s n ts start row k first rest s 0 start
linking_none s {n} {ts} {start} h e room =
    let none : block_links * (s - s) ≡ 0 = omega arith in
    record {
      low = h.low;
      small = h.small;
      left = rw none e;
      either = next_either h;
      tight = omega arith;
      counted = omega arith;
      filling = filling_none (links_block s (links_from n ts 0 0)) start s room;
    }

-- the first block as it was
pub first_same : (xs new : List ℕ) → new ≡ take block_bytes xs → put_mid 0 block_bytes xs new ≡ xs
first_same xs new e = ap (put_mid 0 block_bytes xs) e ∙ put_same 0 block_bytes xs

-- so many, and so many of the rest
count_more : (a b m : ℕ) → min a m + min b (m - a) ≡ min (a + b) m
count_more a b m = omega arith

-- one block more
module _ {s n : ℕ} {ts start : List ℕ} {row k first rest i count : ℕ} {buffer : List ℕ} (g : Linking s n ts start row k first rest i count buffer)
    (here : row < n)
    {new : List ℕ} {at row₂ k₂ first₂ rest₂ : ℕ} (f : LinksFilled i (links_left n ts row k first rest) new at (links_left n ts row₂ k₂ first₂ rest₂))
    (h : NextLink n ts at row₂ k₂ first₂ rest₂) where
  abbrev all_links : List Link
  all_links = links_from n ts 0 0

  more : length (links_left n ts row k first rest) ≡ length all_links - block_links * (i - s)
  more = ap length g.left ∙ length-drop (block_links * (i - s)) all_links

  pub linking_count : (at - 4) / 4 ≡ min block_links (length all_links - block_links * (i - s))
  linking_count = omega (arith, f.place, more)

  pub linking_turn : (m : ℕ) → m ≡ block_bytes → block_bytes * i + block_bytes ≤ length buffer → length new ≡ length (take m (drop (block_bytes * i) buffer))
      → Linking s n ts start row₂ k₂ first₂ rest₂ (i + 1) (count + (at - 4) / 4) (put_mid (block_bytes * i) m buffer new)
  unfolding links_block links_payload
  linking_turn m e fits same =
      let far : block_links * (i - s) + block_links ≡ block_links * (i + 1 - s) = omega (arith, g.filling.low) in
      record {
        low = h.low;
        small = h.small;
        left =
            f.rest ∙ ap (drop block_links) g.left ∙ drop-drop block_links (block_links * (i - s)) all_links ∙ ap (λ (j : ℕ). drop j all_links) far;
        either = next_either h;
        tight = omega (arith, linking_more g here, far);
        counted = ap₂ {C = ℕ} (λ (x y : ℕ). x + y) g.counted linking_count ∙ count_more (block_links * (i - s)) block_links (length all_links) ∙ ap
            (λ (x : ℕ). min x (length all_links)) far;
        filling = filling_turn (links_block s all_links) start s i m buffer g.filling e new fits same
            (f.is ∙ ap (λ (xs : List Link). block 2 i (flat_map link_bytes (take block_links xs))) g.left);
      }

-- ---- the image: the blocks of links from block `first` on, and the blocks before them

flat_map_same : (f g : ℕ → List ℕ) (i k : ℕ) → ((j : ℕ) → i ≤ j → j < i + k → f j ≡ g j) → flat_map f (range i k) ≡ flat_map g (range i k)
unfolding flat_map range
flat_map_same f g i zero h = refl
flat_map_same f g i (suc k) h =
    ap₂ {C = List ℕ} (λ xs ys. xs ++ ys) (h i (omega arith) (omega arith)) (flat_map_same f g (suc i) k (λ j l m. h j (omega arith) (omega arith)))

module _ (n first : ℕ) (ls : List Link) (order start : List ℕ) (h : first ≡ 1 + order_blocks n) where
  front_is : (m : ℕ) → m ≡ length ls → (j : ℕ) → j < first → front_block n m order j ≡ block_at (graph n ls) order j
  unfolding front_block block_at
  front_is m e zero l = rw e
  front_is m e (suc j) l = let within : ltb j (order_blocks n) ≡ true = lt-ltb j (order_blocks n) (omega arith) in rw within

  link_is : (j : ℕ) → first ≤ j → links_block first ls j ≡ block_at (graph n ls) order j
  unfolding links_block block_at
  link_is zero l = absurd (omega arith)
  link_is (suc j) l =
      let past : ltb j (order_blocks n) ≡ false = le-ltb j (order_blocks n) (omega arith) in
      let e : suc j - first ≡ j - order_blocks n = omega arith in rw (past, e)

  pub image_filled : (filled x : List ℕ) (blocks count : ℕ) → AllLinksFilled first ls start filled blocks count → block_bytes * first ≤ length start
      → x ≡ flat_map (front_block n count order) (range 0 first) ++ drop (block_bytes * first) filled
      → x ≡ flat_map (block_at (graph n ls) order) (range 0 blocks) ++ drop (block_bytes * blocks) start
  image_filled filled x blocks count r room e =
      let m : ℕ = blocks_for (length ls) block_links in
      let f : ℕ → List ℕ = block_at (graph n ls) order in
      let behind : drop (block_bytes * first) filled ≡ flat_map (links_block first ls) (range first m) ++ drop (block_bytes * (first + m)) start =
      ap (drop (block_bytes * first)) r.is ∙ drop_at (take (block_bytes * first) start) _ (block_bytes * first)
      (length-take-le (block_bytes * first) start room) in
      let z : 0 + first ≡ first = omega arith in
      let all_blocks : flat_map f (range 0 (first + m)) ≡ flat_map f (range 0 first) ++ flat_map f (range first m) =
      ap (flat_map f) (range_append 0 first m) ∙ flat_map_append f (range 0 first) (range (0 + first) m) ∙ ap
      (λ (k : ℕ). flat_map f (range 0 first) ++ flat_map f (range k m)) z in
      e ∙ ap₂ {C = List ℕ} (λ xs ys. xs ++ ys) (flat_map_same (front_block n count order) f 0 first (λ j l k. front_is count r.counted j (omega arith)))
      behind
      ∙ ap (λ (ys : List ℕ). flat_map f (range 0 first) ++ (ys ++ drop (block_bytes * (first + m)) start))
      (flat_map_same (links_block first ls) f first m (λ j l k. link_is j l))
      ∙ sym (append_assoc (flat_map f (range 0 first)) (flat_map f (range first m)) (drop (block_bytes * (first + m)) start))
      ∙ ap (λ (ys : List ℕ). ys ++ drop (block_bytes * (first + m)) start) (sym all_blocks)
      ∙ ap (λ (k : ℕ). flat_map f (range 0 k) ++ drop (block_bytes * k) start) (sym r.ended)
