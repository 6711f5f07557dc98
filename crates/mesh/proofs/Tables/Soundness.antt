-- Sound tables are exactly the ones with proper rows, core numbers and a k-order.
--   sound_iff     soundness by the local conditions, on any tables of the right lengths
--   valid_sound   the tables of a valid site are sound
--   sound_valid   sound tables of proper ascending links are a valid site's
-- Each takes the bound on a row's bits as a parameter.
use Rattle.std.specs.Prelude.{◌≡◌, ◌↔◌, ◌&&◌, ◌≤◌, ◌<◌}
use Rattle.lists.{specs.Kit.{refl, sym, ap, ◌∙◌, Bool, true, false, List, ℕ, arith, le_trans, le_of_eq, leb, length, get_or, ext_get_or}}
use Rattle.lists.{specs.Kit.{leb-true, le-leb}, specs.Lists.{range, count, In}, specs.Facts.{EachOnce}, proofs.Tests.{and_left, and_right, and_both}}
use Rattle.lists.{proofs.Count.{count_ext}, proofs.Range.{once_below, range_in}, proofs.All.{all_below, below_all}, proofs.Ascending.{rising_cong}}
use Rattle.mesh.specs.{Limits.{max_radios}, Graph.{Graph, radios, linked, neighbours_in, proper, ascending}, Cores.{number, numbers}, Orders.{each_once}}
use Rattle.mesh.specs.{Orders.{rising, few_later, is_k_order}, Tables.{Tables, marked, links_table, graph_in, tables_of}, Sound.{symmetric, irreflexive}}
use Rattle.mesh.specs.{Sound.{within, few, rows_proper, enough, number_in, sound_within}, Valid.{Valid}}
use Rattle.mesh.proofs.{GraphLaws.{linked_self, neighbours_in_subset}, Cores.Orders.{each_once_of, of_each_once, rising_of, of_rising, FewLater}}
use Rattle.mesh.proofs.{Cores.Orders.{few_later_of, of_few_later, few_later_cong, Enough}, Cores.Certificate.{Certificate}}
use Rattle.mesh.proofs.{Cores.Peeling.{length_numbers, get_d_numbers}, Cores.KOrders.{k_order_certificate, certificate_number, certificate_k_order}}
use Rattle.mesh.proofs.{Tables.Rows.{few_of, row_degree_links_table, rows_proper_links_table}, Tables.ReadBack.{proper_graph_in, linked_graph_in}}
use Rattle.mesh.proofs.{Tables.ReadBack.{graph_in_links_table}}

-- numbers that agree on the radios are certified alike
certificate_cong : (g : Graph) (num new : ℕ → ℕ) (xs : List ℕ) → ((v : ℕ) → v < g.n → num v ≡ new v) → Certificate g num xs → Certificate g new xs
certificate_cong g num new xs h c =
    let at : (v : ℕ) → In v xs → num v ≡ new v = λ v m. h v (once_below g.n xs c.once v m) in
    record {
      once = c.once;
      rising = rising_cong num new xs at c.rising;
      few = few_later_cong (linked g) (linked g) num new xs (λ v w m p q. q) (λ v m. le_of_eq (at v m)) c.few;
      enough = λ v l. le_trans (le_of_eq (sym (h v l))) (le_trans (c.enough v l)
          (neighbours_in_subset g v (λ w. leb (num v) (num w)) (λ w. leb (new v) (new w))
          (λ w lw q. le-leb (new v) (new w) (omega (arith, leb-true (num v) (num w) q, h v l, h w lw)))));
    }

-- ---- the conditions on bits, and the graph that the table marks

module _ (most n : ℕ) (t : Tables) where
  abbrev marks : Graph
  marks = graph_in n t.links

  abbrev num : ℕ → ℕ
  num = number_in t.numbers

  module _ (proper_rows : rows_proper most n t.links ≡ true) where
    marks_linked : (a b : ℕ) → a < n → b < n → linked marks a b ≡ marked t.links a b
    unfolding rows_proper
    marks_linked =
        let first = and_left (symmetric n t.links && irreflexive n t.links) (within n t.links && few most n t.links) proper_rows in
        linked_graph_in n t.links (and_left (symmetric n t.links) (irreflexive n t.links) first)
        (and_right (symmetric n t.links) (irreflexive n t.links) first)

    degree_marks : (v : ℕ) → v < n
        → count (λ b. marked t.links v b && leb (num v) (num b)) (range 0 n) ≡ neighbours_in marks v (λ w. leb (num v) (num w))
    unfolding neighbours_in radios graph_in
    degree_marks v l =
        count_ext (λ b. marked t.links v b && leb (num v) (num b)) (λ b. linked marks v b && leb (num v) (num b)) (range 0 n)
        (λ b m. ap (λ (x : Bool). x && leb (num v) (num b)) (sym (marks_linked v b l (omega (arith, range_in 0 n b m)))))

    enough_of : enough n (marked t.links) num ≡ true → Enough marks num
    unfolding enough graph_in
    enough_of h v l =
        le_trans (leb-true (num v) (count (λ b. marked t.links v b && leb (num v) (num b)) (range 0 n))
        (all_below (λ v. leb (num v) (count (λ b. marked t.links v b && leb (num v) (num b)) (range 0 n))) n h v l)) (le_of_eq (degree_marks v l))

    of_enough : Enough marks num → enough n (marked t.links) num ≡ true
    unfolding enough graph_in
    of_enough h =
        below_all (λ v. leb (num v) (count (λ b. marked t.links v b && leb (num v) (num b)) (range 0 n))) n
        (λ v l. le-leb (num v) (count (λ b. marked t.links v b && leb (num v) (num b)) (range 0 n)) (le_trans (h v l) (le_of_eq (sym (degree_marks v l)))))

    -- later neighbours by bits and by links
    few_marks : EachOnce n t.order → FewLater (marked t.links) num t.order → FewLater (linked marks) num t.order
    few_marks o h =
        few_later_cong (marked t.links) (linked marks) num num t.order
        (λ v w m p q. sym (marks_linked v w (once_below n t.order o v m) (once_below n t.order o w p)) ∙ q) (λ v m. le_of_eq refl) h

    few_bits : EachOnce n t.order → FewLater (linked marks) num t.order → FewLater (marked t.links) num t.order
    few_bits o h =
        few_later_cong (linked marks) (marked t.links) num num t.order
        (λ v w m p q. marks_linked v w (once_below n t.order o v m) (once_below n t.order o w p) ∙ q) (λ v m. le_of_eq refl) h

  abbrev rest : Bool
  rest =
      each_once n t.order
      && (rising num t.order && (few_later (marked t.links) num t.order && enough n (marked t.links) num))

  -- soundness is proper rows and a certificate
  pub sound_certificate : sound_within most n t ≡ true → (rows_proper most n t.links ≡ true) × Certificate marks num t.order
  unfolding sound_within graph_in
  sound_certificate h =
      let e = each_once n t.order in
      let r = rising num t.order in
      let f = few_later (marked t.links) num t.order in
      let k = enough n (marked t.links) num in
      let p = and_left (rows_proper most n t.links) rest h in
      let q = and_right (rows_proper most n t.links) rest h in
      let once = each_once_of n t.order (and_left e (r && (f && k)) q) in
      let s = and_right e (r && (f && k)) q in
      let u = and_right r (f && k) s in (
        p,
        record {
          once = once;
          rising = rising_of num t.order (and_left r (f && k) s);
          few = few_marks p once (few_later_of (marked t.links) num t.order (and_left f k u));
          enough = enough_of p (and_right f k u);
        },
      )

  pub certificate_sound : rows_proper most n t.links ≡ true → Certificate marks num t.order → sound_within most n t ≡ true
  unfolding sound_within graph_in
  certificate_sound p c =
      let e = each_once n t.order in
      let r = rising num t.order in
      let f = few_later (marked t.links) num t.order in
      let k = enough n (marked t.links) num in
      and_both (rows_proper most n t.links) rest p
      (and_both e (r && (f && k)) (of_each_once n t.order c.once)
      (and_both r (f && k) (of_rising num t.order c.rising)
      (and_both f k (of_few_later (marked t.links) num t.order (few_bits p c.once c.few)) (of_enough p c.enough))))

  marks_irreflexive : (w : ℕ) → linked marks w w ≡ false
  unfolding graph_in
  marks_irreflexive = linked_self marks (proper_graph_in n t.links)

  -- proper rows, core numbers and a k-order
  pub record Right : Type 0 where
    pub rows : rows_proper most n t.links ≡ true
    pub core_numbers : t.numbers ≡ numbers marks
    pub k_order : is_k_order marks t.order ≡ true

  pub sound_right : length t.numbers ≡ n → sound_within most n t ≡ true → Right
  unfolding graph_in
  sound_right e h =
      let r = sound_certificate h in
      record {
        rows = r.0;
        core_numbers = ext_get_or 0 t.numbers (numbers marks) (e ∙ sym (length_numbers marks))
            (λ v l. sym (certificate_number marks num t.order marks_irreflexive r.1 v (omega arith)) ∙ sym (get_d_numbers marks v (omega arith)));
        k_order = certificate_k_order marks num t.order marks_irreflexive r.1;
      }

  pub right_sound : Right → sound_within most n t ≡ true
  unfolding graph_in
  right_sound r =
      certificate_sound r.rows
      (certificate_cong marks (number marks) num t.order
      (λ v l. sym (get_d_numbers marks v l) ∙ ap (λ (z : List ℕ). get_or z v 0) (sym r.core_numbers)) (k_order_certificate marks t.order r.k_order))

-- document 01: sound tables are exactly the ones with proper rows, core numbers and a k-order
pub sound_iff : (most n : ℕ) (t : Tables) → length t.numbers ≡ n → (sound_within most n t ≡ true) ↔ Right most n t
sound_iff most n t e = (sound_right most n t e, right_sound most n t)

-- ---- the tables of a site

pub valid_sound : (most : ℕ) (g : Graph) (xs : List ℕ) → g.n ≤ max_radios → Valid most g xs → sound_within most g.n (tables_of g xs) ≡ true
unfolding tables_of
valid_sound most g xs small v =
    let back = graph_in_links_table g small v.links_proper v.links_ascending in
    right_sound most g.n (tables_of g xs) (record {
      rows = rows_proper_links_table most g small v.links_proper v.degrees;
      core_numbers = ap numbers (sym back);
      k_order = rw back v.k_order;
    })

pub sound_valid : (most : ℕ) (g : Graph) (xs : List ℕ) → g.n ≤ max_radios → proper g.n g.links ≡ true → ascending g.links ≡ true
    → sound_within most g.n (tables_of g xs) ≡ true → Valid most g xs
unfolding tables_of rows_proper
sound_valid most g xs small p asc h =
    let back = graph_in_links_table g small p asc in
    let r = sound_right most g.n (tables_of g xs) (length_numbers g) h in
    let first = symmetric g.n (links_table g) && irreflexive g.n (links_table g) in
    let second = within g.n (links_table g) && few most g.n (links_table g) in
    record {
      links_proper = p;
      links_ascending = asc;
      degrees = λ v l. le_trans (le_of_eq (sym (row_degree_links_table g small p v l)))
          (few_of most g.n (links_table g) (and_right (within g.n (links_table g)) (few most g.n (links_table g)) (and_right first second r.rows)) v
          l);
      k_order = rw back at r.k_order;
    }
