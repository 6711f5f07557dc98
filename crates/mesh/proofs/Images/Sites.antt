-- Question 11, and both round trips: what is written is read back, and what is read is what was written.
--   read_written        a valid site, written and read
--   written_read        an accepted image, read and written
--   is_image_radios     its header says its n
--   image_injective     valid sites with equal images are equal
--   is_image_iff        accepted are exactly the images of valid sites with this n
use Rattle.std.specs.Prelude.{◌≡◌, ◌↔◌, ◌&&◌, ◌≤◌, ◌<◌}
use Rattle.lists.{specs.Kit.{refl, sym, ap, ap₂, ◌∙◌, Bool, true, List, ℕ, arith, length, get_or}, specs.Lists.{same}}
use Rattle.lists.{specs.Facts.{EachOnce}, proofs.Tests.{and_right, and_both}, proofs.Range.{once_length, once_below}, proofs.All.{same_refl, same_eq}}
use Rattle.lists.{proofs.Member.{in_get_d}}
use Rattle.mesh.specs.{Limits.{max_radios, max_neighbours}, Graph.{Graph, proper, ascending}, Tables.{tables_of}, Sound.{sound, sound_within}}
use Rattle.mesh.specs.{Image.{image_of, word_at, image_order, image_graph, is_image_within, is_image}, Valid.{Valid}}
use Rattle.mesh.proofs.{GraphLaws.{proper_of}, Cores.KOrders.{k_order_certificate}, Tables.Soundness.{valid_sound}, Tables.Sites.{image_valid}}
use Rattle.mesh.proofs.{Images.Read.{word_at_radios, image_order_image_of, image_graph_image_of}, Tables.DegreeSum.{links_most}}

-- ---- written and read

module _ (g : Graph) (xs : List ℕ) (small : g.n ≤ max_radios) (v : Valid max_neighbours g xs) where
  abbrev once : EachOnce g.n xs
  once = (k_order_certificate g xs v.k_order).once

  pub length_order : length xs ≡ g.n
  length_order = once_length g.n xs once

  pub get_d_order_less : (j : ℕ) → j < length xs → get_or xs j 0 < g.n
  get_d_order_less j l = once_below g.n xs once (get_or xs j 0) (in_get_d xs j l)

  pub read_written_graph : image_graph g.n (image_of g xs) ≡ g
  read_written_graph = image_graph_image_of g xs (omega arith) (omega (arith, links_most g xs small v)) (proper_of g.n g.links v.links_proper)

  pub read_written_order : image_order g.n (image_of g xs) ≡ xs
  read_written_order = image_order_image_of g xs length_order (λ j l. omega (arith, get_d_order_less j l))

  -- question 11 gets yes, with any bound on neighbours that the site keeps
  pub is_image_within_image_of : (most : ℕ) → Valid most g xs → is_image_within most g.n (image_of g xs) ≡ true
  unfolding is_image_within
  is_image_within_image_of most k =
      let links : Graph → Bool = λ h. proper g.n h.links && ascending h.links in
      let rest : Graph → List ℕ → Bool = λ h ys. sound_within most g.n (tables_of h ys) && same (image_of h ys) (image_of g xs) in
      ap₂ (λ (h : Graph) (ys : List ℕ). links h && rest h ys) read_written_graph read_written_order
      ∙ and_both (links g) (rest g xs)
      (and_both (proper g.n g.links) (ascending g.links) v.links_proper v.links_ascending)
      (and_both (sound_within most g.n (tables_of g xs)) (same (image_of g xs) (image_of g xs)) (valid_sound most g xs small k) (same_refl (image_of g xs)))

  pub is_image_image_of : is_image g.n (image_of g xs) ≡ true
  unfolding is_image
  is_image_image_of = is_image_within_image_of max_neighbours v

pub read_written : (g : Graph) (xs : List ℕ) → g.n ≤ max_radios → Valid max_neighbours g xs
    → (image_graph g.n (image_of g xs) ≡ g) × (image_order g.n (image_of g xs) ≡ xs)
read_written g xs small v = (read_written_graph g xs small v, read_written_order g xs small v)

pub image_injective : (g h : Graph) (xs ys : List ℕ) → g.n ≤ max_radios → h.n ≤ max_radios → Valid max_neighbours g xs → Valid max_neighbours h ys
    → image_of g xs ≡ image_of h ys → (g ≡ h) × (xs ≡ ys)
image_injective g h xs ys small_g small_h v w e =
    let n : g.n ≡ h.n = sym (word_at_radios g xs (omega arith)) ∙ ap (λ (bs : List ℕ). word_at bs 4) e ∙ word_at_radios h ys (omega arith) in (
      sym (read_written_graph g xs small_g v) ∙ ap₂ image_graph n e ∙ read_written_graph h ys small_h w,
      sym (read_written_order g xs small_g v) ∙ ap₂ image_order n e ∙ read_written_order h ys small_h w,
    )

-- ---- read and written

pub written_read : (n : ℕ) (bs : List ℕ) → is_image n bs ≡ true → image_of (image_graph n bs) (image_order n bs) ≡ bs
unfolding is_image is_image_within sound
written_read n bs h =
    let g = image_graph n bs in
    let xs = image_order n bs in
    let s = sound n (tables_of g xs) in
    let i = same (image_of g xs) bs in
    same_eq (image_of g xs) bs (and_right s i (and_right (proper n g.links && ascending g.links) (s && i) h))

-- an image says its n, so that no other need be tried
pub is_image_radios : (n : ℕ) (bs : List ℕ) → n ≤ max_radios → is_image n bs ≡ true → word_at bs 4 ≡ n
unfolding image_graph
is_image_radios n bs small h =
    sym (ap (λ (xs : List ℕ). word_at xs 4) (written_read n bs h)) ∙ word_at_radios (image_graph n bs) (image_order n bs) (omega arith)

-- ---- question 11

-- the bytes are the image of a valid site with n radios
pub record SiteImage (n : ℕ) (bs : List ℕ) : Type 0 where
  pub site : Graph
  pub order : List ℕ
  pub radios : site.n ≡ n
  pub valid : Valid max_neighbours site order
  pub written : image_of site order ≡ bs

pub is_image_iff : (n : ℕ) (bs : List ℕ) → n ≤ max_radios → (is_image n bs ≡ true) ↔ SiteImage n bs
unfolding image_graph
is_image_iff n bs small = (there, back)
  where
    there : is_image n bs ≡ true → SiteImage n bs
    there h = record { site = image_graph n bs; order = image_order n bs; radios = refl; valid = image_valid n bs small h; written = written_read n bs h }

    back : SiteImage n bs → is_image n bs ≡ true
    back s = sym (ap₂ is_image s.radios s.written) ∙ is_image_image_of s.site s.order (omega (arith, s.radios)) s.valid
