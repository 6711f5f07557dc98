-- Labels: each radio's lowest joined one. A new link between two parts lowers the count of parts by one.
--   Labels n ks f     f gives each radio the lowest that the links ks join it with
--   relabel lo hi f   the label hi replaced by lo
--   parts n f         how many radios are their own label: how many parts there are
--   parts_some        there is a part
--   labels_new        labels after one link more between two parts
--   parts_new         one part less
--   parts_le          links that join more have no more parts
use Rattle.std.specs.Prelude.{◌≡◌, ◌⊎◌, ◌||◌, ◌+◌, ◌≤◌, ◌<◌}
use Rattle.lists.{specs.Kit.{refl, sym, ap, ◌∙◌, inl, inr, true, false, cond, List, [], ℕ, zero, suc, arith, eqb, eqb-true}}
use Rattle.lists.{specs.Kit.{eq-eqb, ne_eqb}, specs.Lists.{range, count, In}, proofs.Tests.{bool_cases, never, or_cases, or_left, or_right, iff_eq}}
use Rattle.lists.{proofs.Range.{range_in, length_range, count_range_one}, proofs.Count.{count_mono, count_all, count_cong, count_or}}
use Rattle.mesh.{specs.Graph.{Link, InLinks}, specs.Connected.{here}, specs.Staircase.{Joined}, proofs.GraphLaws.{Ends}, proofs.Trees.Reach.{reachable_trans}}
use Rattle.forests.proofs.JoinedLaws.{Inside, joined_sym, joined_next, joined_link, joined_mono, joined_same}

pub record Labels (n : ℕ) (ks : List Link) (f : ℕ → ℕ) : Type 0 where
  pub low : (v : ℕ) → f v ≤ v
  pub settled : (v : ℕ) → f (f v) ≡ f v
  pub same : {u v : ℕ} → Joined n ks u v → f u ≡ f v
  pub leads : (v : ℕ) → v < n → Joined n ks (f v) v

unfoldable pub relabel : (lo hi : ℕ) → (ℕ → ℕ) → ℕ → ℕ
relabel lo hi f v = cond (eqb (f v) hi) lo (f v)

unfoldable pub parts : (n : ℕ) → (ℕ → ℕ) → ℕ
parts n f = count (λ v. eqb (f v) v) (range 0 n)

-- ms has the link l beside the links ks
pub record OneMore (ks ms : List Link) (l : Link) : Type 0 where
  pub from : (m : Link) → InLinks m ms → (m ≡ l) ⊎ InLinks m ks
  pub keeps : (m : Link) → InLinks m ks → InLinks m ms
  pub has : InLinks l ms

pub equal_or_not : (a b : ℕ) → (a ≡ b) ⊎ (a ≡ b → ⊥)
equal_or_not a b = go (bool_cases (eqb a b))
  where
    go : (eqb a b ≡ true) ⊎ (eqb a b ≡ false) → (a ≡ b) ⊎ (a ≡ b → ⊥)
    go (inl e) = inl (eqb-true a b e)
    go (inr e) = inr (λ q. never (eqb a b) (eq-eqb a b q) e)

pub relabel_hit : (lo hi : ℕ) (f : ℕ → ℕ) (v : ℕ) → f v ≡ hi → relabel lo hi f v ≡ lo
unfolding relabel
relabel_hit lo hi f v e = rw (eq-eqb (f v) hi e)

pub relabel_miss : (lo hi : ℕ) (f : ℕ → ℕ) (v : ℕ) → (f v ≡ hi → ⊥) → relabel lo hi f v ≡ f v
unfolding relabel
relabel_miss lo hi f v e = rw (ne_eqb (f v) hi e)

-- equal labels stay equal
relabel_same : (lo hi : ℕ) (f : ℕ → ℕ) (u v : ℕ) → f u ≡ f v → relabel lo hi f u ≡ relabel lo hi f v
unfolding relabel
relabel_same lo hi f u v e = rw e

-- no links: every radio is its own label
pub labels_none : (n : ℕ) → Labels n [] (λ v. v)
labels_none n = record {
  low = λ v. omega arith;
  settled = λ v. refl;
  same = λ r. joined_same n [] (λ v. v) (λ l i. absurd i) r;
  leads = λ v h. here;
}

pub parts_none : (n : ℕ) → parts n (λ v. v) ≡ n
unfolding parts
parts_none n = count_cong (λ v. eqb v v) (λ v. true) (range 0 n) (λ v. eq-eqb v v refl) ∙ count_all (range 0 n) ∙ length_range 0 n

-- radio 0 is its own label
pub parts_some : (n : ℕ) (ks : List Link) (f : ℕ → ℕ) → Labels n ks f → 1 ≤ n → 1 ≤ parts n f
unfolding parts range count
parts_some zero ks f a h = absurd (omega arith)
parts_some (suc n) ks f a h = rw (eq-eqb (f 0) 0 (omega (arith, a.low 0))) (omega arith)

-- a link l more, whose ends x and y have the labels f x < f y
module _ (n : ℕ) (ks ms : List Link) (l : Link) (inside : Inside n ms) (more : OneMore ks ms l) (f : ℕ → ℕ) (labels : Labels n ks f)
    (x y : ℕ) (ends : Ends l.low l.high x y) (x_radio : x < n) (y_radio : y < n) (less : f x < f y) where
  abbrev new : ℕ → ℕ
  new = relabel (f x) (f y) f

  hit : (v : ℕ) → f v ≡ f y → new v ≡ f x
  hit v e = relabel_hit (f x) (f y) f v e

  miss : (v : ℕ) → (f v ≡ f y → ⊥) → new v ≡ f v
  miss v e = relabel_miss (f x) (f y) f v e

  inside_old : Inside n ks
  inside_old m i = inside m (more.keeps m i)

  wider : {u v : ℕ} → Joined n ks u v → Joined n ms u v
  wider r = joined_mono n ks ms inside_old more.keeps r

  new_ends : Ends l.low l.high x y → new l.low ≡ new l.high
  new_ends (inl e) = rw (← e.0, ← e.1) (miss x (λ q. omega arith) ∙ sym (hit y refl))
  new_ends (inr e) = rw (← e.0, ← e.1) (hit y refl ∙ sym (miss x (λ q. omega arith)))

  new_same : (m : Link) → (m ≡ l) ⊎ InLinks m ks → new m.low ≡ new m.high
  new_same m (inl e) = ap (λ (z : Link). new z.low) e ∙ new_ends ends ∙ sym (ap (λ (z : Link). new z.high) e)
  new_same m (inr i) =
      relabel_same (f x) (f y) f m.low m.high (labels.same (joined_link n ks m i (inside_old m i).1))

  new_leads : (v : ℕ) → v < n → (f v ≡ f y) ⊎ (f v ≡ f y → ⊥) → Joined n ms (new v) v
  new_leads v h (inl e) =
      rw (hit v e) (reachable_trans (joined_next n ms l more.has y_radio ends (wider (labels.leads x x_radio)))
      (reachable_trans (joined_sym n ms (omega (arith, labels.low y)) (wider (labels.leads y y_radio))) (rw (← e) (wider (labels.leads v h)))))
  new_leads v h (inr e) = rw (miss v e) (wider (labels.leads v h))

  new_settled : (v : ℕ) → (f v ≡ f y) ⊎ (f v ≡ f y → ⊥) → new (new v) ≡ new v
  new_settled v (inl e) = rw (hit v e) (miss (f x) (λ q. omega (arith, labels.settled x)) ∙ labels.settled x)
  new_settled v (inr e) = rw (miss v e) (miss (f v) (λ q. e (sym (labels.settled v) ∙ q)) ∙ labels.settled v)

  new_low : (v : ℕ) → (f v ≡ f y) ⊎ (f v ≡ f y → ⊥) → new v ≤ v
  new_low v (inl e) = omega (arith, hit v e, labels.low v)
  new_low v (inr e) = omega (arith, miss v e, labels.low v)

  pub labels_new : Labels n ms new
  labels_new = record {
    low = λ v. new_low v (equal_or_not (f v) (f y));
    settled = λ v. new_settled v (equal_or_not (f v) (f y));
    same = λ r. joined_same n ms new (λ m i. new_same m (more.from m i)) r;
    leads = λ v h. new_leads v h (equal_or_not (f v) (f y));
  }

  -- f y is its own label no more
  own : (v : ℕ) → eqb (f v) v ≡ (eqb (new v) v || eqb v (f y))
  own v = iff_eq (eqb (f v) v) (eqb (new v) v || eqb v (f y)) (λ e. to (eqb-true (f v) v e) (equal_or_not (f v) (f y)))
      (λ e. from (equal_or_not (f v) (f y)) (or_cases (eqb (new v) v) (eqb v (f y)) e))
    where
      to : f v ≡ v → (f v ≡ f y) ⊎ (f v ≡ f y → ⊥) → (eqb (new v) v || eqb v (f y)) ≡ true
      to e (inl q) = or_right (eqb (new v) v) (eqb v (f y)) (eq-eqb v (f y) (omega arith))
      to e (inr q) = or_left (eqb (new v) v) (eqb v (f y)) (eq-eqb (new v) v (miss v q ∙ e))

      from : (f v ≡ f y) ⊎ (f v ≡ f y → ⊥) → (eqb (new v) v ≡ true) ⊎ (eqb v (f y) ≡ true) → eqb (f v) v ≡ true
      from (inl q) (inl e) = absurd (omega (arith, hit v q, eqb-true (new v) v e, labels.settled x, ap f (sym (hit v q) ∙ eqb-true (new v) v e)))
      from (inr q) (inl e) = eq-eqb (f v) v (sym (miss v q) ∙ eqb-true (new v) v e)
      from q (inr e) = eq-eqb (f v) v (let p : v ≡ f y = eqb-true v (f y) e in ap f p ∙ labels.settled y ∙ sym p)

  pub parts_new : parts n f ≡ parts n new + 1
  unfolding parts
  parts_new =
      count_cong (λ v. eqb (f v) v) (λ v. eqb (new v) v || eqb v (f y)) (range 0 n) own
      ∙ count_or (λ v. eqb (new v) v) (λ v. eqb v (f y)) (range 0 n) apart
      ∙ ap (λ (k : ℕ). count (λ v. eqb (new v) v) (range 0 n) + k) (count_range_one n (f y) (omega (arith, labels.low y)))
    where
      apart : (v : ℕ) → eqb (new v) v ≡ true → eqb v (f y) ≡ false
      apart v e = ne_eqb v (f y) (λ q. omega (arith, hit v (ap f q ∙ labels.settled y), eqb-true (new v) v e))

-- links that join more have no more parts
pub parts_le : (n : ℕ) (ks ms : List Link) (f h : ℕ → ℕ) → Labels n ks f → Labels n ms h → ((u v : ℕ) → Joined n ks u v → Joined n ms u v)
    → parts n h ≤ parts n f
unfolding parts
parts_le n ks ms f h a b sub = count_mono (λ v. eqb (h v) v) (λ v. eqb (f v) v) (range 0 n) (λ v m e. own v (range_below v m) (eqb-true (h v) v e))
  where
    range_below : (v : ℕ) → In v (range 0 n) → v < n
    range_below v m = omega (arith, range_in 0 n v m)

    own : (v : ℕ) → v < n → h v ≡ v → eqb (f v) v ≡ true
    own v l e = eq-eqb (f v) v (omega (arith, a.low v, b.low (f v), b.same (sub (f v) v (a.leads v l))))
