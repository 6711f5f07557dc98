-- What the parts of question 11 come to, and the tables that reading writes.
use Rattle.std.specs.Prelude.{◌≡◌, ◌⊎◌, ◌&&◌, ◌*◌, ◌≤◌, ◌<◌}
use Rattle.lists.{specs.Kit.{refl, sym, ap, subst, ◌∙◌, inl, inr, Bool, true, false, List, ℕ, arith, eqb, length, get_or, take}}
use Rattle.lists.{specs.Kit.{ext_get_or, eqb-true}, specs.Lists.{overwrite}, specs.Facts.{Bytes}, proofs.Tests.{bool_cases, never, iff_eq, and_left, and_right}}
use Rattle.lists.{proofs.Tests.{and_both}, proofs.Map.{get_d_map_range}, proofs.Overwrite.{overwrite_take}}
use Rattle.mesh.{specs.Limits.{max_radios, max_neighbours}, specs.Graph.{Link, Graph, graph, proper, ascending}, specs.Cores.{number, numbers}}
use Rattle.mesh.{specs.Orders.{is_k_order}, specs.Tables.{tables_of, Tables, tables, links_table}, specs.Image.{block_bytes, block_count, word_at, image_order}}
use Rattle.mesh.{specs.Image.{image_links, image_graph, checks_good, is_image}, proofs.Cores.Peeling.{length_numbers, get_d_numbers}}
use Rattle.mesh.{proofs.Tables.Sites.{image_valid}, proofs.Images.Tables.{number_most}, proofs.Images.Canonical.{length_image_order}, specs.Valid.{Valid}}
use Rattle.tables.{specs.Widths.{values}, proofs.WidthLaws.{length_values, values_below}}
use Rattle.image.{specs.Header.{HeaderOf, header}, specs.Form.{blocks_formed, is_formed}, proofs.FormLaws.{is_image_formed}}
use Rattle.image_reader.specs.{Site.{links_up_to, few_ends, TallyRoom, SiteRoom, SiteDecided}, Reading.{ImageDecided}}
use Rattle.image_reader.proofs.KOrderLaws.{few_degrees}

-- ---- question 11, part by part

-- an image that is formed has the blocks for its links
whole_of : (n : ℕ) (bs : List ℕ) (m : ℕ) → m ≡ word_at bs 6 → is_formed n bs ≡ true → length bs ≡ block_bytes * block_count n m
unfolding is_formed
whole_of n bs m counted h =
    let k : ℕ = word_at bs 6 in
    let long : Bool = eqb (length bs) (block_bytes * block_count n k) in
    let rest : Bool = blocks_formed n k bs (block_count n k) in
    eqb-true (length bs) (block_bytes * block_count n k) (and_left long rest (and_right (eqb (word_at bs 4) n) (long && rest) h))
    ∙ ap (λ (j : ℕ). block_bytes * block_count n j) (sym counted)

module _ (n : ℕ) (bs : List ℕ) (small : n ≤ max_radios) (u : Bool) (u_is : u ≡ is_formed n bs) where
  -- what asking the site wants
  pub site_room : u ≡ true → (m x y : ℕ) → HeaderOf bs (header n m) → x ≡ n → y ≡ n → SiteRoom (header n m) bs x y
  site_room e m x y h ex ey = record {
    most = small;
    few = h.links_fit;
    whole = omega (arith, whole_of n bs m h.links_said (sym u_is ∙ e));
    order_long = ex;
    numbers_long = ey;
  }

  module _ (b : Bytes bs) (checked : checks_good bs ≡ true) where
    -- an image is formed, and its links and its order are valid
    valid_of : is_image n bs ≡ true → Valid max_neighbours (image_graph n bs) (image_order n bs)
    valid_of h = ((is_image_formed n bs small b checked).0 h).1

    pub not_formed : (xs ns : List ℕ) → u ≡ false → ImageDecided n bs xs ns false
    not_formed xs ns f = record { answer = sym (pick (bool_cases (is_image n bs))); order_is = λ e. never false e refl; numbers_are = λ e. never false e refl }
      where
        pick : (is_image n bs ≡ true) ⊎ (is_image n bs ≡ false) → is_image n bs ≡ false
        pick (inl e) = never u (u_is ∙ ((is_image_formed n bs small b checked).0 e).0) f
        pick (inr e) = e

    module _ (yes : u ≡ true) (m : ℕ) (counted : m ≡ word_at bs 6) (xs ns : List ℕ) (r : Bool) (d : SiteDecided (header n m) bs xs ns r) where
      abbrev ls : List Link
      ls = links_up_to n bs m

      abbrev good : Bool
      good = proper n ls && ascending ls

      listed_is : graph n ls ≡ image_graph n bs
      unfolding image_graph image_links links_up_to
      listed_is = ap (λ (k : ℕ). graph n (links_up_to n bs k)) counted

      -- the site's answer is yes where the links and the order are valid
      of_valid : Valid max_neighbours (graph n ls) (image_order n bs) → r ≡ true
      of_valid v =
          d.answer ∙ and_both good (few_ends max_neighbours n ls && is_k_order (graph n ls) (image_order n bs))
          (and_both (proper n ls) (ascending ls) v.links_proper v.links_ascending)
          (and_both (few_ends max_neighbours n ls) (is_k_order (graph n ls) (image_order n bs))
          ((few_degrees n ls v.links_proper v.links_ascending max_neighbours).1 v.degrees) v.k_order)

      to_valid : r ≡ true → Valid max_neighbours (graph n ls) (image_order n bs)
      to_valid e =
          let rest : Bool = few_ends max_neighbours n ls && is_k_order (graph n ls) (image_order n bs) in
          let all = sym d.answer ∙ e in
          let p = and_left (proper n ls) (ascending ls) (and_left good rest all) in
          let a = and_right (proper n ls) (ascending ls) (and_left good rest all) in
          let few = and_left (few_ends max_neighbours n ls) (is_k_order (graph n ls) (image_order n bs)) (and_right good rest all) in
          record {
            links_proper = p;
            links_ascending = a;
            degrees = (few_degrees n ls p a max_neighbours).0 few;
            k_order = and_right (few_ends max_neighbours n ls) (is_k_order (graph n ls) (image_order n bs)) (and_right good rest all);
          }

      -- the form got yes: the site decides
      pub image_decided : ImageDecided n bs xs ns r
      image_decided = record {
        answer = iff_eq r (is_image n bs)
            (λ e. (is_image_formed n bs small b checked).1 (
              sym u_is ∙ yes,
              subst (λ (k : Graph). Valid max_neighbours k (image_order n bs)) listed_is (to_valid e),
            ))
            (λ h. of_valid (subst (λ (k : Graph). Valid max_neighbours k (image_order n bs)) (sym listed_is) (valid_of h)));
        order_is = d.order_is;
        numbers_are = λ e v l. d.numbers_are e v l ∙ ap (λ (k : Graph). number k v) listed_is;
      }

-- ---- the tables

module _ (n : ℕ) (bs : List ℕ) (small : n ≤ max_radios) (xs ns : List ℕ) (u : Bool) (d : ImageDecided n bs xs ns u) (yes : u ≡ true) where
  is_site : is_image n bs ≡ true
  is_site = sym d.answer ∙ yes

  abbrev g : Graph
  g = image_graph n bs

  numbers_bytes : (v : ℕ) → v < n → get_or ns v 0 < 256
  unfolding image_graph
  numbers_bytes v l =
      omega (arith, d.numbers_are yes v l, number_most max_neighbours g (image_order n bs) (image_valid n bs small is_site) v l)

  numbers_written : values 8 (λ v. get_or ns v 0) n ≡ numbers g
  unfolding image_graph
  numbers_written =
      ext_get_or 0 (values 8 (λ v. get_or ns v 0) n) (numbers g) (length_values 8 (λ v. get_or ns v 0) n ∙ sym (length_numbers g))
      (λ v l. let h : v < n = omega (arith, length_values 8 (λ v. get_or ns v 0) n) in
      ap (λ (zs : List ℕ). get_or zs v 0) (values_below 8 (λ v. get_or ns v 0) n numbers_bytes)
      ∙ get_d_map_range 0 (λ v. get_or ns v 0) 0 n v h ∙ ap (λ (w : ℕ). get_or ns w 0) (omega arith) ∙ d.numbers_are yes v h ∙ sym (get_d_numbers g v h))

  site_proper : (m : ℕ) → m ≡ word_at bs 6 → proper n (links_up_to n bs m) ≡ true
  unfolding image_graph image_links links_up_to
  site_proper m counted =
      ap (λ (k : ℕ). proper n (links_up_to n bs k)) counted ∙ (image_valid n bs small is_site).links_proper

  -- what writing the links wants
  pub links_room : Bytes bs → checks_good bs ≡ true → (m : ℕ) → m ≡ word_at bs 6 → m < 65536 → TallyRoom (header n m) bs n n
  links_room b checked m counted fits = record {
    most = small;
    few = fits;
    whole = omega (arith, whole_of n bs m counted ((is_image_formed n bs small b checked).0 is_site).0);
    ranked = refl;
    counted = refl;
    is_proper = site_proper m counted;
  }

  -- what the writers of the three tables leave
  pub site_accepted : (m : ℕ) (t : Tables) (ls ks os : List ℕ) → m ≡ word_at bs 6 → length t.numbers ≡ n → length t.order ≡ n
      → ls ≡ links_table (graph n (links_up_to n bs m)) → ks ≡ values 8 (λ v. get_or ns v 0) (length t.numbers)
      → os ≡ overwrite (take (length t.order) xs) t.order → tables ls ks os ≡ tables_of (image_graph n bs) (image_order n bs)
  unfolding image_graph image_links links_up_to tables_of
  site_accepted m t ls ks os counted kn on le ke oe =
      rw (
        le ∙ ap (λ (k : ℕ). links_table (graph n (links_up_to n bs k))) counted,
        ke ∙ ap (values 8 (λ v. get_or ns v 0)) kn ∙ numbers_written,
        oe ∙ overwrite_take xs t.order (ap length (d.order_is yes) ∙ length_image_order n bs ∙ sym on) ∙ d.order_is yes,
      )
