-- Tables and images from before the bound on neighbours was raised.
--   few_more, sound_within_more   rows and tables within a bound are within a greater one
--   is_image_within_more          and so are images
--   older_image                   an image of tables that were sound is one of tables that are
use Rattle.std.specs.Prelude.{◌≡◌, ◌&&◌, ◌≤◌}
use Rattle.lists.{specs.Kit.{true, List, ℕ, arith, leb, le-leb}, specs.Lists.{same}, proofs.Tests.{and_left, and_right, and_both}}
use Rattle.lists.{proofs.All.{below_all}}
use Rattle.mesh.specs.{Limits.{max_neighbours, former_neighbours}, Graph.{proper, ascending}, Orders.{each_once, rising, few_later}, Tables.{Tables}}
use Rattle.mesh.specs.{Tables.{marked, tables_of}, Sound.{symmetric, irreflexive, within, row_degree, few, rows_proper, enough, number_in, sound_within}}
use Rattle.mesh.specs.{Image.{image_graph, image_order, image_of, is_image_within, is_image}}
use Rattle.mesh.proofs.Tables.Rows.{few_of}

-- ---- tables

few_more : (a b n : ℕ) (ts : List ℕ) → a ≤ b → few a n ts ≡ true → few b n ts ≡ true
unfolding few
few_more a b n ts l h =
    below_all (λ v. leb (row_degree ts v) b) n (λ v p. le-leb (row_degree ts v) b (omega (arith, few_of a n ts h v p)))

pub sound_within_more : (a b n : ℕ) (t : Tables) → a ≤ b → sound_within a n t ≡ true → sound_within b n t ≡ true
unfolding sound_within rows_proper
sound_within_more a b n t l h =
    let ts = t.links in
    let num = number_in t.numbers in
    let mirrored = symmetric n ts && irreflexive n ts in
    let ordered = each_once n t.order && (rising num t.order && (few_later (marked ts) num t.order && enough n (marked ts) num)) in
    let rows = and_left (mirrored && (within n ts && few a n ts)) ordered h in
    let bounded = and_right mirrored (within n ts && few a n ts) rows in
    and_both (mirrored && (within n ts && few b n ts)) ordered
    (and_both mirrored (within n ts && few b n ts) (and_left mirrored (within n ts && few a n ts) rows)
    (and_both (within n ts) (few b n ts) (and_left (within n ts) (few a n ts) bounded)
    (few_more a b n ts l (and_right (within n ts) (few a n ts) bounded))))
    (and_right (mirrored && (within n ts && few a n ts)) ordered h)

-- ---- images

pub is_image_within_more : (a b n : ℕ) (bs : List ℕ) → a ≤ b → is_image_within a n bs ≡ true → is_image_within b n bs ≡ true
unfolding is_image_within
is_image_within_more a b n bs l h =
    let g = image_graph n bs in
    let t = tables_of g (image_order n bs) in
    let links = proper n g.links && ascending g.links in
    let written = same (image_of g (image_order n bs)) bs in
    let rest = and_right links (sound_within a n t && written) h in
    and_both links (sound_within b n t && written) (and_left links (sound_within a n t && written) h)
    (and_both (sound_within b n t) written (sound_within_more a b n t l (and_left (sound_within a n t) written rest))
    (and_right (sound_within a n t) written rest))

-- what is read of it, `image_graph` and `image_order`, does not mention the bound
pub older_image : (n : ℕ) (bs : List ℕ) → is_image_within former_neighbours n bs ≡ true → is_image n bs ≡ true
unfolding is_image
older_image n bs h = is_image_within_more former_neighbours max_neighbours n bs (omega arith) h
