-- What grows is the kept links, with their labels.
--   Shows n old ks s   s has the labels, the list and the count of the links ks; `old` is what the lent table held
--   shows_all          the links ls taken in turn give what `keep` gives
use Rattle.std.specs.Prelude.{◌≡◌, ◌⊎◌, ◌∷◌, ◌++◌, ◌+◌, ◌*◌, ◌≤◌, ◌<◌}
use Rattle.lists.{specs.Kit.{refl, sym, ap, subst, ◌∙◌, inl, inr, true, false, cond, List, [], map, ℕ, zero, suc, min}}
use Rattle.lists.{specs.Kit.{max, arith, eqb, length, get_or, length-append, List·getD-eq-default, sets, eqb-true, eq-eqb}, specs.Lists.{range}}
use Rattle.lists.{proofs.Parts.{get_d_any}, proofs.Tests.{bool_cases, never, iff_eq, trichotomy}, proofs.Range.{length_range, get_d_range}}
use Rattle.lists.{proofs.Map.{length-map}, proofs.Overwrite.{sets_append}}
use Rattle.mesh.specs.{Graph.{Link}, Staircase.{Joined, joined, keep, link_entries}}
use Rattle.forests.proofs.{JoinedLaws.{Inside, joined_iff}, Labels.{Labels, relabel, labels_none, labels_new, relabel_miss}, Forests.{same_label}}
use Rattle.forests.proofs.{Keeping.{now, now_inside, more_end, inside_end}, Tree.{length_link_entries}}
use Rattle.forests.specs.Growing.{Growing, growing, relabelled, joined_up, grown_one, grown_all}

-- ---- entries of a list

get_d_map_in : (h : ℕ → ℕ) (xs : List ℕ) (v d e : ℕ) → v < length xs → get_or (map h xs) v d ≡ h (get_or xs v e)
get_d_map_in h [] v d e l = absurd (omega arith)
get_d_map_in h (x ∷ xs) zero d e l = refl
get_d_map_in h (x ∷ xs) (suc v) d e l = get_d_map_in h xs v d e (omega arith)

link_entries_end : (ks : List Link) (l : Link) → link_entries (ks ++ (l ∷ [])) ≡ link_entries ks ++ (l.low ∷ l.high ∷ [])
unfolding link_entries
link_entries_end [] l = refl
link_entries_end (k ∷ ks) l = ap {B = List ℕ} (λ xs. k.low ∷ k.high ∷ xs) (link_entries_end ks l)

-- ---- labels by entries

abbrev pub entry : List ℕ → ℕ → ℕ
entry xs v = get_or xs v v

labels_ext : (n : ℕ) (ks : List Link) (f h : ℕ → ℕ) → Labels n ks f → ((v : ℕ) → h v ≡ f v) → Labels n ks h
labels_ext n ks f h a e = record {
  low = λ v. omega (arith, e v, a.low v);
  settled = λ v. e (h v) ∙ ap f (e v) ∙ a.settled v ∙ sym (e v);
  same = λ {u} {v} r. e u ∙ a.same r ∙ sym (e v);
  leads = λ v l. subst (λ (x : ℕ). Joined n ks x v) (sym (e v)) (a.leads v l);
}

entry_relabelled : (xs : List ℕ) (lo hi : ℕ) → hi < length xs → (v : ℕ) → entry (map (relabelled lo hi) xs) v ≡ relabel lo hi (entry xs) v
unfolding relabelled relabel
entry_relabelled xs lo hi l v = go (trichotomy v (length xs))
  where
    out : length xs ≤ v → get_or (map (relabelled lo hi) xs) v v ≡ relabel lo hi (entry xs) v
    out h =
        let e : entry xs v ≡ v = List·getD-eq-default xs v {n = v} h in
        List·getD-eq-default (map (relabelled lo hi) xs) v {n = v} (omega (arith, length-map (relabelled lo hi) xs))
        ∙ sym (relabel_miss lo hi (entry xs) v (λ q. omega arith) ∙ e)

    go : (v < length xs) ⊎ ((v ≡ length xs) ⊎ (length xs < v)) → get_or (map (relabelled lo hi) xs) v v ≡ relabel lo hi (entry xs) v
    go (inl h) = get_d_map_in (relabelled lo hi) xs v v v h
    go (inr (inl h)) = out (omega arith)
    go (inr (inr h)) = out (omega arith)

-- ---- what is shown

pub record Shows (n : ℕ) (old : List ℕ) (ks : List Link) (s : Growing) : Type 0 where
  pub long : length s.labels ≡ n
  pub labels : Labels n ks (entry s.labels)
  pub counted : s.count ≡ length ks
  pub listed : s.table ≡ sets old 0 (link_entries ks)

pub shows_none : (n : ℕ) (old : List ℕ) → Shows n old [] (growing (range 0 n) old 0)
unfolding link_entries
shows_none n old = record {
  long = length_range 0 n;
  labels = labels_ext n [] (λ v. v) (entry (range 0 n)) (labels_none n) own;
  counted = refl;
  listed = refl;
}
  where
    own : (v : ℕ) → entry (range 0 n) v ≡ v
    own v = go (trichotomy v n)
      where
        go : (v < n) ⊎ ((v ≡ n) ⊎ (n < v)) → entry (range 0 n) v ≡ v
        go (inl h) = omega (arith, get_d_any (range 0 n) v v 0 (omega (arith, length_range 0 n)), get_d_range 0 n v h)
        go (inr (inl h)) = List·getD-eq-default (range 0 n) v {n = v} (omega (arith, length_range 0 n))
        go (inr (inr h)) = List·getD-eq-default (range 0 n) v {n = v} (omega (arith, length_range 0 n))

module _ (n : ℕ) (old : List ℕ) (ks : List Link) (inside : Inside n ks) (l : Link) (ends : (l.low < n) × (l.high < n)) (s : Growing)
    (shows : Shows n old ks s) where
  labels_up : (entry s.labels l.low ≡ entry s.labels l.high → ⊥)
      → Labels n (ks ++ (l ∷ [])) (entry (map (relabelled (min (entry s.labels l.low) (entry s.labels l.high))
      (max (entry s.labels l.low) (entry s.labels l.high))) s.labels))
  labels_up ne = go (trichotomy p q)
    where
      p : ℕ
      p = entry s.labels l.low

      q : ℕ
      q = entry s.labels l.high

      go : (p < q) ⊎ ((p ≡ q) ⊎ (q < p)) → Labels n (ks ++ (l ∷ [])) (entry (map (relabelled (min p q) (max p q)) s.labels))
      go (inl h) =
          let lo : min p q ≡ p = omega arith in
          let hi : max p q ≡ q = omega arith in
          rw (lo, hi) (labels_ext n (ks ++ (l ∷ [])) (relabel p q (entry s.labels)) (entry (map (relabelled p q) s.labels))
          (labels_new n ks (ks ++ (l ∷ [])) l (inside_end n l ks inside ends) (more_end l ks) (entry s.labels) shows.labels l.low l.high
          (inl (refl, refl)) ends.0 ends.1 h)
          (entry_relabelled s.labels p q (omega (arith, shows.labels.low l.high, ends.1, shows.long))))
      go (inr (inl h)) = absurd (ne h)
      go (inr (inr h)) =
          let lo : min p q ≡ q = omega arith in
          let hi : max p q ≡ p = omega arith in
          rw (lo, hi) (labels_ext n (ks ++ (l ∷ [])) (relabel q p (entry s.labels)) (entry (map (relabelled q p) s.labels))
          (labels_new n ks (ks ++ (l ∷ [])) l (inside_end n l ks inside ends) (more_end l ks) (entry s.labels) shows.labels l.high l.low
          (inr (refl, refl)) ends.1 ends.0 h)
          (entry_relabelled s.labels q p (omega (arith, shows.labels.low l.low, ends.0, shows.long))))

  shows_up : (entry s.labels l.low ≡ entry s.labels l.high → ⊥)
      → Shows n old (ks ++ (l ∷ [])) (joined_up l.low l.high (entry s.labels l.low) (entry s.labels l.high) s)
  unfolding joined_up
  shows_up ne = record {
    long = length-map _ s.labels ∙ shows.long;
    labels = labels_up ne;
    counted = omega (arith, shows.counted, length-append ks (l ∷ []));
    listed =
        let e : 2 * s.count ≡ length (link_entries ks) = omega (arith, shows.counted, length_link_entries ks) in
        let z : 2 * s.count + 1 ≡ suc (length (link_entries ks)) = omega arith in
        let o : 0 + length (link_entries ks) ≡ length (link_entries ks) = omega arith in
        rw (shows.listed, z, e) (sym (rw (link_entries_end ks l) (sets_append old 0 (link_entries ks) (l.low ∷ l.high ∷ []) ∙ rw o)));
  }

  -- the labels tell what is joined
  labels_tell : joined n ks l.low l.high ≡ eqb (entry s.labels l.low) (entry s.labels l.high)
  labels_tell = iff_eq (joined n ks l.low l.high) (eqb (entry s.labels l.low) (entry s.labels l.high))
      (λ e. eq-eqb _ _ (shows.labels.same ((joined_iff n ks l.low ends.0 l.high).0 e)))
      (λ e. (joined_iff n ks l.low ends.0 l.high).1 (same_label n ks (entry s.labels) shows.labels l.low l.high ends.0 ends.1
      (eqb-true (entry s.labels l.low) (entry s.labels l.high) e)))

  pub shows_one : Shows n old (now n ks l) (grown_one l s)
  unfolding grown_one
  shows_one =
      rw (
        labels_tell,
        get_d_any s.labels l.low 0 l.low (omega (arith, ends.0, shows.long)),
        get_d_any s.labels l.high 0 l.high
            (omega (arith, ends.1, shows.long)),
      )
      (go (bool_cases (eqb (entry s.labels l.low) (entry s.labels l.high))))
    where
      a : ℕ
      a = entry s.labels l.low

      b : ℕ
      b = entry s.labels l.high

      go : (eqb a b ≡ true) ⊎ (eqb a b ≡ false) → Shows n old (cond (eqb a b) ks (ks ++ (l ∷ [])))
          (cond {A = Growing} (eqb a b) s (joined_up l.low l.high a b s))
      go (inl e) = rw e shows
      go (inr e) = rw e (shows_up (λ q. never (eqb a b) (eq-eqb a b q) e))

pub shows_all : (n : ℕ) (old : List ℕ) (ls ks : List Link) → Inside n ls → Inside n ks → (s : Growing) → Shows n old ks s → Shows n old (keep n ks ls)
    (grown_all ls s)
unfolding keep grown_all
shows_all n old [] ks u i s h = h
shows_all n old (l ∷ ls) ks u i s h =
    let e = u l (inl refl) in
    shows_all n old ls (now n ks l) (λ m j. u m (inr j)) (now_inside n ks l i e) (grown_one l s) (shows_one n old ks i l e s h)
