-- Laws of the peel: what is taken and what is left, in which order, and when it ends. A loop grows `Takes` at its end (takes_more) and ends with `Peels`;
-- document 01's rule is the same peel (laid_out_is).
use Rattle.std.specs.Prelude.{◌≡◌, ◌⊎◌, ◌∷◌, ◌++◌, ◌+◌, ◌≤◌, ◌<◌}
use Rattle.lists.{specs.Kit.{refl, sym, ap, ◌∙◌, inl, inr, Bool, true, false, not, List, [], append_assoc, ℕ, zero, suc}}
use Rattle.lists.{specs.Kit.{arith, leb, length, length-append, leb-true, leb-false, le-leb, lt-leb, eq-eqb, ne_eqb}, specs.Lists.{count, filter, member, In}}
use Rattle.lists.{specs.Facts.{Distinct, Permutation}, proofs.Tests.{bool_cases, bit_false}, proofs.Member.{in_left, in_right, in_member, not_member}}
use Rattle.lists.{proofs.Count.{count_append, count_mid, count_not, count_all}, proofs.Distinct.{permutation_in, distinct_mid}, proofs.Filter.{in_filter}}
use Rattle.lists.{proofs.Filter.{filter_all, filter_append, filter_keep_mid, filter_drop_mid, length_filter, count_parts}}
use Rattle.mesh.specs.{Graph.{neighbours_among}, Levels.{first_fitting, without, laid_out}, Peel.{Takes, none, first, Peels}}
use Rattle.mesh.proofs.Cores.Orders.{FewLater, few_later_drop}

module _ (f : ℕ → ℕ → Bool) (most : ℕ) (others : List ℕ) where
  -- one more is taken at the end
  pub takes_more : {left taken now : List ℕ} (x : ℕ) (ps qs : List ℕ) → Takes f most others left taken now → now ≡ ps ++ x ∷ qs
      → count (f x) (ps ++ qs) + count (f x) others ≤ most → ((w : ℕ) → In w ps → most < count (f w) now + count (f w) others)
      → Takes f most others left (taken ++ (x ∷ [])) (ps ++ qs)
  takes_more x ps qs none e h g = first x ps qs e h g none
  takes_more x ps qs (first y rs ss c fit before rest) e h g = first y rs ss c fit before (takes_more x ps qs rest e h g)

  -- ---- what is taken and what is left make up what there was

  pub takes_permutation : {left taken now : List ℕ} → Takes f most others left taken now → Permutation left (taken ++ now)
  unfolding count
  takes_permutation none g = refl
  takes_permutation (first x ps qs c fit before rest) g =
      omega (arith, ap (count g) c, count_mid g x ps qs, takes_permutation rest g)

  pub takes_now_in : {left taken now : List ℕ} → Takes f most others left taken now → (v : ℕ) → In v now → In v left
  takes_now_in {left} {taken} {now} r v m =
      permutation_in (taken ++ now) left (λ g. sym (takes_permutation r g)) v (in_right v taken now m)

  pub takes_taken_in : {left taken now : List ℕ} → Takes f most others left taken now → (v : ℕ) → In v taken → In v left
  takes_taken_in {left} {taken} {now} r v m =
      permutation_in (taken ++ now) left (λ g. sym (takes_permutation r g)) v (in_left v taken now m)

  -- what is left keeps its order
  pub takes_now_filter : {left taken now : List ℕ} → Distinct left → Takes f most others left taken now → now ≡ filter (λ v. member v now) left
  takes_now_filter {left} d none = sym (filter_all (λ v. member v left) left (λ v m. in_member v left m))
  takes_now_filter {left} {taken} {now} d (first x ps qs c fit before rest) =
      let e = distinct_mid x ps qs (rw c at d) in
      takes_now_filter e.1 rest
      ∙ sym (filter_drop_mid (λ v. member v now) x ps qs (not_member x now (λ m. e.0 (takes_now_in rest x m))))
      ∙ ap (filter (λ v. member v now)) (sym c)

  -- ---- later neighbours

  -- the left ones have no more later neighbours than before, whatever the neighbours and numbers
  pub takes_now_few : (h : ℕ → ℕ → Bool) (num : ℕ → ℕ) {left taken now : List ℕ} → Takes f most others left taken now
      → FewLater h num (left ++ others) → FewLater h num (now ++ others)
  takes_now_few h num none k = k
  takes_now_few h num (first x ps qs c fit before rest) k =
      takes_now_few h num rest (rw append_assoc (few_later_drop h num x ps (qs ++ others) (rw (c, append_assoc) at k)))

  -- the taken have at most so many
  pub takes_taken_few : (new : ℕ → ℕ) {left taken now : List ℕ} → Takes f most others left taken now → ((v : ℕ) → In v taken → most ≤ new v)
      → FewLater f new (now ++ others) → FewLater f new (taken ++ (now ++ others))
  takes_taken_few new none h k = k
  takes_taken_few new {now = now} (first {taken = taken} x ps qs c fit before rest) h k = (
    omega (
      arith,
      fit,
      h x (inl refl),
      count_append (f x) taken (now ++ others),
      count_append (f x) now others,
      count_append (f x) taken now,
      takes_permutation rest (f x),
    ),
    takes_taken_few new rest (λ v m. h v (inr m)) k,
  )

  -- ---- there is a peel

  record Fits (left rest : List ℕ) : Type 0 where
    x : ℕ
    ps : List ℕ
    qs : List ℕ
    cut : rest ≡ ps ++ x ∷ qs
    fit : count (f x) left + count (f x) others ≤ most
    before : (w : ℕ) → In w ps → most < count (f w) left + count (f w) others

  find : (left rest : List ℕ) → Fits left rest ⊎ ((v : ℕ) → In v rest → most < count (f v) left + count (f v) others)
  find left [] = inr (λ v m. absurd m)
  find left (y ∷ rest) = go (find left rest) (bool_cases (leb (count (f y) left + count (f y) others) most))
    where
      both : (zs : List ℕ) → leb (count (f y) left + count (f y) others) most ≡ false
          → ((w : ℕ) → In w zs → most < count (f w) left + count (f w) others) → (w : ℕ) → In w (y ∷ zs) → most < count (f w) left + count (f w) others
      both zs e h w (inl p) = rw (← p) (leb-false (count (f y) left + count (f y) others) most e)
      both zs e h w (inr p) = h w p

      go : Fits left rest ⊎ ((v : ℕ) → In v rest → most < count (f v) left + count (f v) others)
          → (leb (count (f y) left + count (f y) others) most ≡ true) ⊎ (leb (count (f y) left + count (f y) others) most ≡ false)
          → Fits left (y ∷ rest) ⊎ ((v : ℕ) → In v (y ∷ rest) → most < count (f v) left + count (f v) others)
      go r (inl e) = inl (record {
        x = y;
        ps = [];
        qs = rest;
        cut = refl;
        fit = leb-true (count (f y) left + count (f y) others) most e;
        before = λ w m. absurd
            m;
      })
      go (inl r) (inr e) =
          inl (record { x = r.x; ps = y ∷ r.ps; qs = r.qs; cut = ap {B = List ℕ} (λ z. y ∷ z) r.cut; fit = r.fit; before = both r.ps e r.before })
      go (inr r) (inr e) = inr (both rest e r)

  pub record Peeling (left : List ℕ) : Type 0 where
    pub taken : List ℕ
    pub stuck : List ℕ
    pub peels : Peels f most others left taken stuck

  exists : (turns : ℕ) (left : List ℕ) → length left ≤ turns → Peeling left
  exists zero [] h = record { taken = []; stuck = []; peels = record { takes = none; full = λ v m. absurd m } }
  exists zero (x ∷ left) h = absurd (omega arith)
  exists (suc t) left h = go (exists t) (find left left)
    where
      go : ((l : List ℕ) → length l ≤ t → Peeling l)
          → Fits left left ⊎ ((v : ℕ) → In v left → most < count (f v) left + count (f v) others) → Peeling left
      go rec (inr h) = record { taken = []; stuck = left; peels = record { takes = none; full = h } }
      go rec (inl r) =
          let u = rec (r.ps ++ r.qs) (omega (arith, ap length r.cut, length-append r.ps (r.x ∷ r.qs), length-append r.ps r.qs)) in
          record {
            taken = r.x ∷ u.taken;
            stuck = u.stuck;
            peels = record {
              takes = first r.x r.ps r.qs r.cut
                  (omega (arith, r.fit, ap (count (f r.x)) r.cut, count_mid (f r.x) r.x r.ps r.qs)) r.before u.peels.takes;
              full = u.peels.full;
            };
          }

  pub peeling : (left : List ℕ) → Peeling left
  peeling left = exists (length left) left (omega arith)

  -- ---- document 01's rule takes the same ones in the same turn

  first_fitting_is : (left os ps : List ℕ) (x : ℕ) (qs : List ℕ) → ((w : ℕ) → In w ps → most < count (f w) left + count (f w) os)
      → count (f x) left + count (f x) os ≤ most → first_fitting f most left os (ps ++ x ∷ qs) ≡ x
  unfolding first_fitting neighbours_among
  first_fitting_is left os [] x qs h g = rw (le-leb (count (f x) left + count (f x) os) most g)
  first_fitting_is left os (p ∷ ps) x qs h g =
      rw (lt-leb (count (f p) left + count (f p) os) most (h p (inl refl))) (first_fitting_is left os ps x qs (λ w m. h w (inr m)) g)

  without_mid : (x : ℕ) (ps qs : List ℕ) → (In x ps → ⊥) → without x (ps ++ x ∷ qs) ≡ ps ++ qs
  unfolding without
  without_mid x [] qs h = rw (eq-eqb x x refl)
  without_mid x (p ∷ ps) qs h = rw (ne_eqb p x (λ e. h (inl e)), without_mid x ps qs (λ m. h (inr m)))

  laid_out_step : (t : ℕ) (left os : List ℕ) (x : ℕ) → first_fitting f most left os left ≡ x
      → laid_out (suc t) f most left os ≡ x ∷ laid_out t f most (without x left) os
  unfolding laid_out
  laid_out_step t left os x e = rw e

  pub laid_out_is : ((w : ℕ) → f w w ≡ false) → {left taken stuck : List ℕ} → Distinct left → Takes f most others left taken stuck
      → laid_out (length taken) f most (filter (λ v. not (member v stuck)) left) (stuck ++ others) ≡ taken
  unfolding laid_out
  laid_out_is irr d none = refl
  laid_out_is irr {left} {stuck = stuck} d (first {taken = taken} x ps qs c fit before rest) =
      let p : ℕ → Bool = λ v. not (member v stuck) in
      let e = distinct_mid x ps qs (rw c at d) in
      let out : member x stuck ≡ false = not_member x stuck (λ m. e.0 (takes_now_in rest x m)) in
      let px : p x ≡ true = rw out in
      let cut : filter p left ≡ filter p ps ++ x ∷ filter p qs = ap (filter p) c ∙ filter_keep_mid p x ps qs px in
      let counts : (v : ℕ) → count (f v) (filter p left) + count (f v) (stuck ++ others) ≡ count (f v) left + count (f v) others =
      λ v. omega (
        arith,
        count_append (f v) stuck others,
        ap (count (f v)) (takes_now_filter d (first x ps qs c fit before rest)),
        count_parts (f v) (λ b. member b stuck) left,
      ) in
      let fits : count (f x) (filter p left) + count (f x) (stuck ++ others) ≤ most =
      omega (arith, counts x, fit, ap (count (f x)) c, count_mid (f x) x ps qs, bit_false (f x x) (irr x)) in
      let one : first_fitting f most (filter p left) (stuck ++ others) (filter p left) ≡ x =
      ap (first_fitting f most (filter p left) (stuck ++ others)) cut
      ∙ first_fitting_is (filter p left) (stuck ++ others) (filter p ps) x (filter p qs) (λ w m. omega (arith, counts w, before w (in_filter p ps w m).0))
      fits in
      laid_out_step (length taken) (filter p left) (stuck ++ others) x one
      ∙ ap {B = List ℕ} (λ z. x ∷ z)
      (ap (λ (z : List ℕ). laid_out (length taken) f most z (stuck ++ others))
      (ap (without x) cut ∙ without_mid x (filter p ps) (filter p qs) (λ m. e.0 (in_left x ps qs (in_filter p ps x m).0)) ∙ sym (filter_append p ps qs))
      ∙ laid_out_is irr e.1 rest)

  -- what is taken is what was left without the stuck
  pub length_taken : {left taken stuck : List ℕ} → Distinct left → Takes f most others left taken stuck
      → length (filter (λ v. not (member v stuck)) left) ≡ length taken
  length_taken {left} {taken} {stuck} d r =
      omega (
        arith,
        ap length (takes_now_filter d r),
        length_filter (λ v. not (member v stuck)) left,
        length_filter (λ v. member v stuck) left,
        count_not (λ v. member v stuck) left,
        count_all left,
        takes_permutation r (λ x. true),
        count_all (taken ++ stuck),
        length-append taken stuck,
      )
