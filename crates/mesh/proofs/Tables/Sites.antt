-- Valid sites to start from: a cleared one, and one read from an image.
use Rattle.std.specs.Prelude.{◌≡◌, ◌&&◌, ◌∷◌, ◌≤◌}
use Rattle.lists.{specs.Kit.{refl, inl, inr, true, false, List, [], map, ℕ, zero, suc, arith, le_of_eq, replicate}, specs.Lists.{range}}
use Rattle.lists.{specs.Lists.{count, member, same, In}, specs.Facts.{Rising}, proofs.Tests.{and_left, and_right}, proofs.Count.{count_none}}
use Rattle.lists.{proofs.Range.{range_in}}
use Rattle.mesh.specs.{Limits.{max_radios, max_neighbours}, Graph.{graph, radios, other_ends, linked, neighbours_among, degree, proper, ascending}}
use Rattle.mesh.specs.{Cores.{number, numbers}, Tables.{tables_of}, Sound.{sound}, Image.{image_graph, image_order, image_of, is_image_within, is_image}}
use Rattle.mesh.specs.{Valid.{Valid}}
use Rattle.mesh.proofs.{Cores.Orders.{FewLater}, Cores.Certificate.{Certificate}, Cores.KOrders.{certificate_number, certificate_k_order}}
use Rattle.mesh.proofs.{Tables.Soundness.{sound_valid}}

-- ---- cleared

module _ (n : ℕ) where
  not_linked : (a b : ℕ) → linked (graph n []) a b ≡ false
  unfolding linked other_ends member
  not_linked a b = refl

  no_neighbours : (v : ℕ) (xs : List ℕ) → count (linked (graph n []) v) xs ≡ 0
  no_neighbours v xs = count_none (linked (graph n []) v) xs (λ x m. not_linked v x)

  few_cleared : (xs : List ℕ) → FewLater (linked (graph n [])) (λ v. 0) xs
  few_cleared [] = tt
  few_cleared (x ∷ xs) = (le_of_eq (no_neighbours x xs), few_cleared xs)

  rising_cleared : (xs : List ℕ) → Rising (λ v. 0) xs
  rising_cleared [] = tt
  rising_cleared (x ∷ xs) = (λ w m. omega arith, rising_cleared xs)

  cleared_certificate : Certificate (graph n []) (λ v. 0) (range 0 n)
  cleared_certificate = record { once = λ f. refl; rising = rising_cleared (range 0 n); few = few_cleared (range 0 n); enough = λ v l. omega arith }

  pub valid_cleared : (most : ℕ) → Valid most (graph n []) (range 0 n)
  unfolding proper ascending degree neighbours_among radios
  valid_cleared most = record {
    links_proper = refl;
    links_ascending = refl;
    degrees = λ v l. omega (arith, no_neighbours v (range 0 n));
    k_order = certificate_k_order (graph n []) (λ v. 0) (range 0 n) (λ w. not_linked w w) cleared_certificate;
  }

  map_zero : (f : ℕ → ℕ) (i k : ℕ) → ((v : ℕ) → In v (range i k) → f v ≡ 0) → map f (range i k) ≡ replicate k 0
  unfolding range
  map_zero f i zero h = refl
  map_zero f i (suc k) h = rw (h i (inl refl), map_zero f (suc i) k (λ v m. h v (inr m)))

  pub numbers_cleared : numbers (graph n []) ≡ replicate n 0
  unfolding numbers radios
  numbers_cleared =
      map_zero (number (graph n [])) 0 n
      (λ v m. certificate_number (graph n []) (λ v. 0) (range 0 n) (λ w. not_linked w w) cleared_certificate v (omega (arith, range_in 0 n v m)))

-- ---- read from an image

-- question 11 got yes: what the image lists is a valid site
pub image_valid : (n : ℕ) (bs : List ℕ) → n ≤ max_radios → is_image n bs ≡ true → Valid max_neighbours (image_graph n bs) (image_order n bs)
unfolding is_image is_image_within image_graph sound
image_valid n bs small h =
    let g = image_graph n bs in
    let xs = image_order n bs in
    let p = proper n g.links in
    let a = ascending g.links in
    let s = sound n (tables_of g xs) in
    let i = same (image_of g xs) bs in
    let front = and_left (p && a) (s && i) h in
    let back = and_right (p && a) (s && i) h in
    sound_valid max_neighbours g xs small (and_left p a front) (and_right p a front) (and_left s i back)
