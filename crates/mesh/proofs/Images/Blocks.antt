-- Laws of a block and of the payloads.
-- In order: a block's bytes by place, its length, its check; the payloads of kind 1 and kind 2, entry by entry.
use Rattle.std.specs.Prelude.{◌≡◌, ◌∷◌, ◌++◌, ◌+◌, ◌*◌, ◌-◌, ◌/◌, ◌%◌, ◌≤◌, ◌<◌}
use Rattle.lists.{specs.Kit.{refl, sym, ap, ◌∙◌, List, flat_map, ℕ, zero, suc, min, arith, length, get_or}}
use Rattle.lists.{specs.Kit.{take, drop, replicate, length-append, length-take, length-drop, length-replicate, List·getD-append, get_or-append-add, get_or-take}}
use Rattle.lists.{specs.Kit.{get_or-drop, take_at, drop_at}, specs.Facts.{Bytes}, proofs.Parts.{bytes_replicate, length_flat_map, get_d_flat_map, bytes_cons}}
use Rattle.lists.{proofs.Parts.{bytes_append, bytes_flat_map, get_d_append_zeros}}
use Rattle.mesh.specs.{Graph.{Link}, Image.{block_bytes, payload_bytes, block_entries, block_links, word, long, check_sum, block, link_bytes}}
use Rattle.mesh.specs.{Image.{order_payload, links_payload}}
use Rattle.mesh.proofs.Images.Words.{length_word, bytes_word, get_d_word_zero, length_long, bytes_long}

-- ---- a block

-- the payload, filled up with zeros
abbrev pub filled : List ℕ → List ℕ
filled xs = xs ++ replicate (payload_bytes - length xs) 0

pub length_filled : (xs : List ℕ) → length xs ≤ payload_bytes → length (filled xs) ≡ payload_bytes
length_filled xs h =
    omega (arith, length-append xs (replicate (payload_bytes - length xs) 0), length-replicate {A = ℕ} (payload_bytes - length xs) 0)

-- a block without its check
abbrev pub block_body : (kind index : ℕ) → (payload : List ℕ) → List ℕ
block_body k i xs = k ∷ 0 ∷ i % 256 ∷ i / 256 % 256 ∷ filled xs

pub block_check_last : (k i : ℕ) (xs : List ℕ) → block k i xs ≡ block_body k i xs ++ long (check_sum (block_body k i xs))
unfolding block word
block_check_last k i xs = refl

pub bytes_block : (k i : ℕ) (xs : List ℕ) → k < 256 → Bytes xs → Bytes (block k i xs)
bytes_block k i xs h b =
    let rest = bytes_append xs (replicate (payload_bytes - length xs) 0) b (bytes_replicate (payload_bytes - length xs)) in
    let index = bytes_cons (i % 256) (i / 256 % 256 ∷ filled xs) (omega arith) (bytes_cons (i / 256 % 256) (filled xs) (omega arith) rest) in
    rw (block_check_last k i xs) (bytes_append (block_body k i xs) (long (check_sum (block_body k i xs)))
    (bytes_cons k (0 ∷ i % 256 ∷ i / 256 % 256 ∷ filled xs) h (bytes_cons 0 (i % 256 ∷ i / 256 % 256 ∷ filled xs) (omega arith) index))
    (bytes_long (check_sum (block_body k i xs))))

-- by place: kind, zero and the index
pub get_d_block_kind : (k i : ℕ) (xs : List ℕ) → get_or (block k i xs) 0 0 ≡ k
unfolding block word
get_d_block_kind k i xs = refl

pub get_d_block_zero : (k i : ℕ) (xs : List ℕ) → get_or (block k i xs) 1 0 ≡ 0
unfolding block word
get_d_block_zero k i xs = refl

pub get_d_block_index : (k i : ℕ) (xs : List ℕ) → get_or (block k i xs) 2 0 ≡ i % 256
unfolding block word
get_d_block_index k i xs = refl

pub get_d_block_index_high : (k i : ℕ) (xs : List ℕ) → get_or (block k i xs) 3 0 ≡ i / 256 % 256
unfolding block word
get_d_block_index_high k i xs = refl

module _ (k i : ℕ) (xs : List ℕ) (fits : length xs ≤ payload_bytes) where
  abbrev check : List ℕ
  check = long (check_sum (block_body k i xs))

  pub length_block_body : length (block_body k i xs) ≡ 508
  length_block_body = omega (arith, length_filled xs fits)

  pub length_block : length (block k i xs) ≡ block_bytes
  length_block =
      ap length (block_check_last k i xs) ∙ length-append (block_body k i xs) check
      ∙ omega (arith, length_block_body, length_long (check_sum (block_body k i xs)))

  -- the payload's bytes, and zeros past its end
  pub get_d_block_payload : (j : ℕ) → j < payload_bytes → get_or (block k i xs) (4 + j) 0 ≡ get_or xs j 0
  get_d_block_payload j h =
      let e : 4 + j ≡ suc (suc (suc (suc j))) = omega arith in
      ap (λ (bs : List ℕ). get_or bs (4 + j) 0) (block_check_last k i xs)
      ∙ ap (λ (p : ℕ). get_or (block_body k i xs ++ check) p 0) e
      ∙ List·getD-append (filled xs) check 0 j (omega (arith, length_filled xs fits))
      ∙ get_d_append_zeros xs (payload_bytes - length xs) j

  pub take_block : take 508 (block k i xs) ≡ block_body k i xs
  take_block = ap (take 508) (block_check_last k i xs) ∙ take_at (block_body k i xs) check 508 length_block_body

  -- a block passes its check
  pub drop_block : drop 508 (block k i xs) ≡ long (check_sum (take 508 (block k i xs)))
  drop_block =
      ap (drop 508) (block_check_last k i xs) ∙ drop_at (block_body k i xs) check 508 length_block_body
      ∙ ap (λ (bs : List ℕ). long (check_sum bs)) (sym take_block)

-- ---- entries in a payload: part j of a list, `each` entries of `size` bytes a block

module _ {A : Type 0} (f : A → List ℕ) (size : ℕ) (sizes : (x : A) → length (f x) ≡ size) (each : ℕ) where
  abbrev part : List A → (j : ℕ) → List ℕ
  part xs j = flat_map f (take each (drop (each * j) xs))

  length_part : (xs : List A) (j : ℕ) → length (part xs j) ≡ size * min each (length xs - each * j)
  length_part xs j =
      length_flat_map f size sizes (take each (drop (each * j) xs))
      ∙ ap (λ (k : ℕ). size * k) (length-take each (drop (each * j) xs) ∙ ap (min each) (length-drop (each * j) xs))

  get_d_part : (d : A) → ((e : ℕ) → get_or (f d) e 0 ≡ 0) → (xs : List A) (j v e : ℕ) → v < each → e < size
      → get_or (part xs j) (size * v + e) 0 ≡ get_or (f (get_or xs (each * j + v) d)) e 0
  get_d_part d zeros xs j v e h l =
      get_d_flat_map f size sizes d zeros (take each (drop (each * j) xs)) v e l
      ∙ ap (λ (x : A). get_or (f x) e 0) (get_or-take each (drop (each * j) xs) v d h ∙ get_or-drop (each * j) xs v d)

-- kind 1
pub length_order_payload : (xs : List ℕ) (j : ℕ) → length (order_payload xs j) ≡ 2 * min block_entries (length xs - block_entries * j)
unfolding order_payload
length_order_payload = length_part word 2 length_word block_entries

pub bytes_order_payload : (xs : List ℕ) (j : ℕ) → Bytes (order_payload xs j)
unfolding order_payload
bytes_order_payload xs j = bytes_flat_map word bytes_word (take block_entries (drop (block_entries * j) xs))

pub get_d_order_payload : (xs : List ℕ) (j v e : ℕ) → v < block_entries → e < 2
    → get_or (order_payload xs j) (2 * v + e) 0 ≡ get_or (word (get_or xs (block_entries * j + v) 0)) e 0
unfolding order_payload
get_d_order_payload = get_d_part word 2 length_word block_entries 0 get_d_word_zero

-- kind 2
abbrev pub no_link : Link
no_link = record { low = 0; high = 0 }

pub length_link_bytes : (l : Link) → length (link_bytes l) ≡ 4
unfolding link_bytes word
length_link_bytes l = refl

bytes_link_bytes : (l : Link) → Bytes (link_bytes l)
unfolding link_bytes
bytes_link_bytes l = bytes_append (word l.low) (word l.high) (bytes_word l.low) (bytes_word l.high)

pub get_d_link_bytes_low : (l : Link) (e : ℕ) → e < 2 → get_or (link_bytes l) e 0 ≡ get_or (word l.low) e 0
unfolding link_bytes
get_d_link_bytes_low l e h = List·getD-append (word l.low) (word l.high) 0 e (omega (arith, length_word l.low))

pub get_d_link_bytes_high : (l : Link) (e : ℕ) → get_or (link_bytes l) (2 + e) 0 ≡ get_or (word l.high) e 0
unfolding link_bytes word
get_d_link_bytes_high l e = get_or-append-add (word l.low) (word l.high) e 0

get_d_no_link : (e : ℕ) → get_or (link_bytes no_link) e 0 ≡ 0
unfolding link_bytes word
get_d_no_link zero = refl
get_d_no_link (suc zero) = refl
get_d_no_link (suc (suc e)) = get_d_word_zero e

pub length_links_payload : (ls : List Link) (j : ℕ) → length (links_payload ls j) ≡ 4 * min block_links (length ls - block_links * j)
unfolding links_payload
length_links_payload = length_part link_bytes 4 length_link_bytes block_links

pub bytes_links_payload : (ls : List Link) (j : ℕ) → Bytes (links_payload ls j)
unfolding links_payload
bytes_links_payload ls j = bytes_flat_map link_bytes bytes_link_bytes (take block_links (drop (block_links * j) ls))

pub get_d_links_payload : (ls : List Link) (j v e : ℕ) → v < block_links → e < 4
    → get_or (links_payload ls j) (4 * v + e) 0 ≡ get_or (link_bytes (get_or ls (block_links * j + v) no_link)) e 0
unfolding links_payload
get_d_links_payload = get_d_part link_bytes 4 length_link_bytes block_links no_link get_d_no_link
