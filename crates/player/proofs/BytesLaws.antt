-- Bytes taken in turn: one more at the end, chunk after chunk, and after the end of the run.
use Rattle.std.specs.Prelude.{◌≡◌, ◌∷◌, ◌++◌}
use Rattle.lists.specs.Kit.{refl, sym, ap, subst, ◌∙◌, false, List, [], append_assoc, append-nil, ℕ}
use Rattle.player.specs.Machine.{Spot, Ignored, Takes, TakesAll}
use Rattle.player.proofs.MachineLaws.{takes_none}

-- ---- one byte more

takes_one : (m n b : ℕ) (p q r : Spot) (t u : List ℕ) → Ignored p t q → Takes m n b q u r → TakesAll m n (b ∷ []) p (t ++ u) r
unfolding TakesAll
takes_one m n b p q r t u none h =
    record {
      middle = r;
      first = u;
      more = [];
      takes = subst (λ (s : Spot). Takes m n b s u r) none.same h;
      rest = record { says = refl; same = refl };
      whole = ap (λ (x : List ℕ). x ++ u) none.says ∙ sym (append-nil u);
    }

pub takes_more : (m n : ℕ) (bs : List ℕ) (b : ℕ) (p q r : Spot) (t u : List ℕ) → TakesAll m n bs p t q → Takes m n b q u r
    → TakesAll m n (bs ++ (b ∷ [])) p (t ++ u) r
unfolding TakesAll
takes_more m n [] b p q r t u all h = takes_one m n b p q r t u all h
takes_more m n (x ∷ bs) b p q r t u all h =
    record {
      middle = all.middle;
      first = all.first;
      more = all.more ++ u;
      takes = all.takes;
      rest = takes_more m n bs b all.middle q r all.more u all.rest h;
      whole = ap (λ (y : List ℕ). y ++ u) all.whole ∙ append_assoc all.first all.more u;
    }

-- ---- chunk after chunk

-- what two chunks print is what they print together
pub takes_append : (m n : ℕ) (xs ys : List ℕ) (p q r : Spot) (t u : List ℕ) → TakesAll m n xs p t q → TakesAll m n ys q u r
    → TakesAll m n (xs ++ ys) p (t ++ u) r
unfolding TakesAll
takes_append m n [] ys p q r t u none h =
    subst (λ (s : Spot). TakesAll m n ys s (t ++ u) r) none.same
    (subst (λ (x : List ℕ). TakesAll m n ys q (x ++ u) r) (sym none.says) h)
takes_append m n (x ∷ xs) ys p q r t u all h =
    record {
      middle = all.middle;
      first = all.first;
      more = all.more ++ u;
      takes = all.takes;
      rest = takes_append m n xs ys all.middle q r all.more u all.rest h;
      whole = ap (λ (y : List ℕ). y ++ u) all.whole ∙ append_assoc all.first all.more u;
    }

-- once the run is over, whatever follows prints nothing
pub takes_over : (m n : ℕ) (bs : List ℕ) (p : Spot) → p.live ≡ false → TakesAll m n bs p [] p
unfolding TakesAll
takes_over m n [] p l = record { says = refl; same = refl }
takes_over m n (b ∷ bs) p l =
    record {
      middle = p;
      first = [];
      more = [];
      takes = takes_none m n b p [] p l (record { says = refl; same = refl });
      rest = takes_over m n bs p l;
      whole = refl;
    }
