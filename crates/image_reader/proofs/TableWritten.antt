-- The links table, link by link: marking one link more.
use Rattle.std.specs.Prelude.{◌≡◌, ◌||◌, ◌∷◌, ◌++◌, ◌+◌, ◌*◌, ◌/◌, ◌%◌, ◌^◌, ◌≤◌, ◌<◌}
use Rattle.lists.specs.{Kit.{refl, sym, ap, ◌∙◌, Bool, true, false, cond, List, [], ℕ, arith, bit_or}}
use Rattle.lists.specs.{Kit.{length, get_or, set, replicate}, Lists.{range, member}}
use Rattle.mesh.{specs.Limits.{max_radios, row_bytes}, specs.Graph.{Link, link_of, graph, other_ends, linked, proper}, specs.Tables.{put_bit, put_link}}
use Rattle.mesh.{specs.Tables.{links_table}, specs.Image.{image_link}, proofs.GraphLaws.{ends, joins, linked_by, linked_by_cons}}
use Rattle.mesh.{proofs.Tables.AscendingLinks.{link_eq}, proofs.Tables.Laws.{table_eq, length_put_link, bytes_put_link, marked_put_link, length_links_table}}
use Rattle.mesh.{proofs.Tables.Laws.{bytes_links_table, marked_links_table, links_table_cleared}}
use Rattle.rows.proofs.MaskLaws.{put_bit_true}
use Rattle.image_reader.specs.Site.{LinkAt, links_up_to}
use Rattle.image_reader.proofs.TallyLaws.{links_one_more, proper_pair}

-- ---- one link more, at the end of the list

linked_append : (ls : List Link) (l : Link) (v w : ℕ) → linked_by (ls ++ (l ∷ [])) v w ≡ (joins l v w || linked_by ls v w)
unfolding other_ends member
linked_append [] l v w = linked_by_cons l [] v w
linked_append (m ∷ ls) l v w =
    linked_by_cons m (ls ++ (l ∷ [])) v w ∙ ap (λ (x : Bool). joins m v w || x) (linked_append ls l v w)
    ∙ swap (joins m v w) (joins l v w) (linked_by ls v w) ∙ ap (λ (x : Bool). joins l v w || x) (sym (linked_by_cons m ls v w))
  where
    swap : (a b c : Bool) → (a || (b || c)) ≡ (b || (a || c))
    swap true true c = refl
    swap true false c = refl
    swap false b c = refl

put_link_append : (n a b : ℕ) (ls : List Link) → n ≤ max_radios → a < n → b < n
    → put_link true a b (links_table (graph n ls)) ≡ links_table (graph n (ls ++ (link_of a b ∷ [])))
unfolding linked
put_link_append n a b ls small la lb =
    let before : List ℕ = links_table (graph n ls) in
    let more : List Link = ls ++ (link_of a b ∷ []) in
    table_eq n (put_link true a b before) (links_table (graph n more))
    (length_put_link true a b before ∙ length_links_table (graph n ls)) (length_links_table (graph n more))
    (bytes_put_link true a b before (bytes_links_table (graph n ls))) (bytes_links_table (graph n more))
    (λ v w lv lw. marked_put_link true n a b before v w small (length_links_table (graph n ls)) la lb lw
    ∙ ap (λ (x : Bool). cond (ends a b v w) true x) (marked_links_table (graph n ls) v w lv lw)
    ∙ either (ends a b v w) (linked_by ls v w) ∙ sym (linked_append ls (link_of a b) v w)
    ∙ sym (marked_links_table (graph n more) v w lv lw))
  where
    either : (s t : Bool) → cond s true t ≡ (s || t)
    either true t = refl
    either false t = refl

-- ---- the loop: the table of the first j links

abbrev pub Linking : (n : ℕ) → (image : List ℕ) → (table : List ℕ) → (j : ℕ) → Type 0
Linking n bs ts j = ts ≡ links_table (graph n (links_up_to n bs j))

pub linking_none : (n : ℕ) (bs start ts : List ℕ) → length start ≡ row_bytes * n → ts ≡ replicate (length start) 0 → Linking n bs ts 0
unfolding links_up_to range
linking_none n bs start ts e h = h ∙ ap (λ (k : ℕ). replicate {A = ℕ} k 0) e ∙ sym (links_table_cleared n)

pub linking_turn : (n m : ℕ) (bs ts after : List ℕ) (j a b : ℕ) → n ≤ max_radios → proper n (links_up_to n bs m) ≡ true → j < m
    → LinkAt n bs j a b → Linking n bs ts j → after ≡ put_link true a b ts → Linking n bs after (j + 1)
linking_turn n m bs ts after j a b small p l pair s e =
    let r = proper_pair n bs m j a b p l pair in
    e ∙ ap (put_link true a b) s ∙ put_link_append n a b (links_up_to n bs j) small (omega (arith, r.0, r.1)) (omega (arith, r.1))
    ∙ ap (λ (x : Link). links_table (graph n (links_up_to n bs j ++ (x ∷ []))))
    (sym (link_eq (image_link n bs j) (link_of a b) (sym pair.low) (sym pair.high)))
    ∙ ap (λ (ls : List Link). links_table (graph n ls)) (sym (links_one_more n bs j))

pub linking_at : (n : ℕ) (bs ts : List ℕ) (i j : ℕ) → Linking n bs ts i → i ≡ j → Linking n bs ts j
linking_at n bs ts i j s e = s ∙ ap (λ (k : ℕ). links_table (graph n (links_up_to n bs k))) e

-- ---- one bit as the code sets it: bits are numbered through all rows

pub put_bit_through : (ts : List ℕ) (a b : ℕ)
    → set ts ((512 * a + b) / 8) (bit_or (get_or ts ((512 * a + b) / 8) 0) (1 * 2 ^ ((512 * a + b) % 8) % 256)) ≡ put_bit true a b ts
put_bit_through ts a b =
    let place : (512 * a + b) / 8 ≡ 64 * a + b / 8 = omega arith in
    let bit : (512 * a + b) % 8 ≡ b % 8 = omega arith in
    rw (place, bit) (put_bit_true ts a b)

-- the table has the rows of a link
pub rows_there : (n : ℕ) (bs ts : List ℕ) (j b : ℕ) → Linking n bs ts j → b < n → row_bytes * b + row_bytes ≤ length ts
rows_there n bs ts j b s l = omega (arith, ap length s, length_links_table (graph n (links_up_to n bs j)))
