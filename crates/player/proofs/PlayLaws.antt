-- Laws of `radios_of`: what a first line comes to, and its bound.
use Rattle.std.specs.Prelude.{◌≡◌, ◌⊎◌, ◌≤◌, ◌<◌, IfSome, Some, None}
use Rattle.lists.{specs.Kit.{refl, sym, ap, ◌∙◌, inl, inr, true, false, true≢false, cond, List, ℕ, zero, suc, arith, leb, le-leb, lt-leb, leb-true}}
use Rattle.lists.{proofs.Tests.{bool_cases}}
use Rattle.mesh.{specs.Limits.{max_radios, size_good}, proofs.Sizes.{size_good_true, true_size_good}}
use Rattle.script.specs.{Lines.{line_of}, declared.lines.Line.{Line}, declared.lines.Line.TheVariants.{Radios, Up, Down, Bad}}
use Rattle.player.specs.{First.{some_radios}, Play.{site_of, radios_of}}

-- l is what the parser answers, m the case it is found to be
pub radios_of_line : (s : List ℕ) {l m : Line} → l ≡ line_of s → l ≡ m → site_of m ≡ radios_of s
unfolding radios_of
radios_of_line s e f = ap site_of (sym f ∙ e)

pub site_of_radios : (n : ℕ) → n ≤ max_radios → site_of (Radios n) ≡ n
unfolding site_of
site_of_radios n h = rw (le-leb n max_radios h)

pub site_of_over : (n : ℕ) → max_radios < n → site_of (Radios n) ≡ 0
unfolding site_of
site_of_over n h = rw (lt-leb n max_radios h)

pub some_site : (n : ℕ) → size_good n ≡ true → Some n ≡ some_radios (site_of (Radios n))
some_site n h = let good = size_good_true n h in rw (site_of_radios n good.1) (go n good.0)
  where
    go : (k : ℕ) → 1 ≤ k → Some k ≡ some_radios k
    go zero l = absurd (omega arith)
    go (suc k) l = refl

pub no_site : (n : ℕ) → size_good n ≡ false → None ≡ some_radios (site_of (Radios n))
unfolding site_of
no_site n h = go n (bool_cases (leb n max_radios)) h
  where
    go : (k : ℕ) → (leb k max_radios ≡ true) ⊎ (leb k max_radios ≡ false) → size_good k ≡ false → None ≡ some_radios (cond (leb k max_radios) k 0)
    go zero c e = refl
    go (suc k) (inl c) e = absurd (true≢false (sym (true_size_good (suc k) (omega arith) (leb-true (suc k) max_radios c)) ∙ e))
    go (suc k) (inr c) e = rw c

site_of_le : (l : Line) → site_of l ≤ max_radios
unfolding site_of
site_of_le (Radios n) = go (bool_cases (leb n max_radios))
  where
    go : (leb n max_radios ≡ true) ⊎ (leb n max_radios ≡ false) → cond (leb n max_radios) n 0 ≤ max_radios
    go (inl e) = rw e (leb-true n max_radios e)
    go (inr e) = rw e (omega arith)
site_of_le (Up a b) = omega arith
site_of_le (Down a b) = omega arith
site_of_le Bad = omega arith

pub radios_of_le : (s : List ℕ) → radios_of s ≤ max_radios
unfolding radios_of
radios_of_le s = site_of_le (line_of s)

pub some_le : (k : ℕ) → k ≤ max_radios → IfSome (some_radios k) (λ n. n ≤ max_radios)
some_le zero h = tt
some_le (suc k) h = h

pub some_radios_le : (s : List ℕ) → IfSome (some_radios (radios_of s)) (λ n. n ≤ max_radios)
some_radios_le s = some_le (radios_of s) (radios_of_le s)
