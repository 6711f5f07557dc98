-- A k-order is a certificate of the core numbers, and a certificate is a k-order.
use Rattle.std.specs.Prelude.{◌≡◌, ◌&&◌, ◌<◌}
use Rattle.lists.{specs.Kit.{sym, true, false, List, ℕ, le_of_eq}, proofs.Tests.{and_left, and_right, and_both}, proofs.Range.{once_below}}
use Rattle.lists.{proofs.Ascending.{rising_cong}}
use Rattle.mesh.specs.{Graph.{Graph, linked}, Cores.{number}, Orders.{each_once, rising, few_later, is_k_order}}
use Rattle.mesh.proofs.Cores.{Orders.{each_once_of, of_each_once, rising_of, of_rising, few_later_of, of_few_later, few_later_cong}}
use Rattle.mesh.proofs.Cores.{Certificate.{Certificate, certificate_core, core_enough}, Peeling.{number_core, number_unique}}

pub k_order_certificate : (g : Graph) (xs : List ℕ) → is_k_order g xs ≡ true → Certificate g (number g) xs
unfolding is_k_order
k_order_certificate g xs h =
    let e = each_once g.n xs in
    let r = rising (number g) xs in
    let f = few_later (linked g) (number g) xs in
    let rest = and_right e (r && f) h in
    record {
      once = each_once_of g.n xs (and_left e (r && f) h);
      rising = rising_of (number g) xs (and_left r f rest);
      few = few_later_of (linked g) (number g) xs (and_right r f rest);
      enough = core_enough g (number g) (number_core g);
    }

module _ (g : Graph) (num : ℕ → ℕ) (xs : List ℕ) (irr : (w : ℕ) → linked g w w ≡ false) (c : Certificate g num xs) where
  pub certificate_number : (v : ℕ) → v < g.n → number g v ≡ num v
  certificate_number v l = number_unique g v (num v) l (certificate_core g num xs irr c v l)

  pub certificate_k_order : is_k_order g xs ≡ true
  unfolding is_k_order
  certificate_k_order =
      let e = each_once g.n xs in
      let r = rising (number g) xs in
      let f = few_later (linked g) (number g) xs in
      and_both e (r && f) (of_each_once g.n xs c.once)
      (and_both r f
      (of_rising (number g) xs (rising_cong num (number g) xs (λ x m. sym (certificate_number x (once_below g.n xs c.once x m))) c.rising))
      (of_few_later (linked g) (number g) xs (few_later_cong (linked g) (linked g) num (number g) xs (λ v w m p q. q)
      (λ x m. le_of_eq (sym (certificate_number x (once_below g.n xs c.once x m)))) c.few)))
