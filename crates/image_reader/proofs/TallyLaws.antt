-- Laws of the counts over an image's links: links in a row, one link counted, and the loop that counts two runs of links.
use Rattle.std.specs.Prelude.{◌≡◌, ◌⊎◌, ◌&&◌, ◌∷◌, ◌++◌, ◌+◌, ◌≤◌, ◌<◌}
use Rattle.lists.{specs.Kit.{refl, sym, ap, ap₂, subst, ◌∙◌, inl, inr, Bool, true, false, cond, List, [], map, ℕ, zero, suc}}
use Rattle.lists.{specs.Kit.{arith, ltb, eqb, length, get_or, set, replicate, length-set, get_or-replicate, get_or-set_same, get_or-set_other, ltb-true}}
use Rattle.lists.{specs.Kit.{eqb-true, eqb-false, eq-eqb, ne_eqb}, specs.Lists.{range, count}, proofs.Tests.{bool_cases, and_left, and_right}}
use Rattle.lists.{proofs.Count.{count_append, count_le_length}, proofs.Range.{range_append, length_range}, proofs.Map.{map_append, length-map}}
use Rattle.mesh.{specs.Graph.{Link, link_of, other_ends, proper}, specs.Image.{image_link}, proofs.Tables.AscendingLinks.{link_eq}}
use Rattle.image_reader.specs.Site.{LinkAt, links_up_to, tallied, Tallied, count_link, LinkFits}

-- ---- laws of lists

other_ends_append : (v : ℕ) (ls ms : List Link) → other_ends v (ls ++ ms) ≡ other_ends v ls ++ other_ends v ms
unfolding other_ends
other_ends_append v [] ms = refl
other_ends_append v (l ∷ ls) ms = go (eqb l.low v) (eqb l.high v) (other_ends_append v ls ms)
  where
    go : (s t : Bool) → other_ends v (ls ++ ms) ≡ other_ends v ls ++ other_ends v ms
        → cond s (l.high ∷ other_ends v (ls ++ ms)) (cond t (l.low ∷ other_ends v (ls ++ ms)) (other_ends v (ls ++ ms)))
        ≡ cond s (l.high ∷ other_ends v ls) (cond t (l.low ∷ other_ends v ls) (other_ends v ls)) ++ other_ends v ms
    go true t e = ap {B = List ℕ} (λ zs. l.high ∷ zs) e
    go false true e = ap {B = List ℕ} (λ zs. l.low ∷ zs) e
    go false false e = e

length_other_ends : (v : ℕ) (ls : List Link) → length (other_ends v ls) ≤ length ls
unfolding other_ends
length_other_ends v [] = omega arith
length_other_ends v (l ∷ ls) = go (eqb l.low v) (eqb l.high v) (length_other_ends v ls)
  where
    go : (s t : Bool) → length (other_ends v ls) ≤ length ls
        → length (cond s (l.high ∷ other_ends v ls) (cond t (l.low ∷ other_ends v ls) (other_ends v ls))) ≤ suc (length ls)
    go true t e = omega arith
    go false true e = omega arith
    go false false e = omega arith

-- ---- proper links

-- link j of them
pub proper_at : (n : ℕ) (f : ℕ → Link) (i k j : ℕ) → proper n (map f (range i k)) ≡ true → i ≤ j → j < i + k
    → ((f j).low < (f j).high) × ((f j).high < n)
unfolding proper range
proper_at n f i zero j h a b = absurd (omega arith)
proper_at n f i (suc k) j h a b = go (eqb i j) refl (λ p. proper_at n f (suc i) k j (and_right here (proper n (map f (range (suc i) k))) h) p (omega arith))
  where
    here : Bool
    here = ltb (f i).low (f i).high && ltb (f i).high n

    go : (t : Bool) → eqb i j ≡ t → (suc i ≤ j → ((f j).low < (f j).high) × ((f j).high < n)) → ((f j).low < (f j).high) × ((f j).high < n)
    go true e rec =
        let both = and_left here (proper n (map f (range (suc i) k))) h in
        let first : ((f i).low < (f i).high) × ((f i).high < n) = (
          ltb-true (f i).low (f i).high (and_left (ltb (f i).low (f i).high) (ltb (f i).high n) both),
          ltb-true (f i).high n (and_right (ltb (f i).low (f i).high) (ltb (f i).high n) both),
        ) in
        subst (λ (x : ℕ). ((f x).low < (f x).high) × ((f x).high < n)) (eqb-true i j e) first
    go false e rec = rec (let d : (i ≡ j → ⊥) = eqb-false i j e in omega arith)

-- the pair that is read
pub proper_pair : (n : ℕ) (bs : List ℕ) (m j a b : ℕ) → proper n (links_up_to n bs m) ≡ true → j < m → LinkAt n bs j a b → (a < b) × (b < n)
unfolding links_up_to
proper_pair n bs m j a b h l pair = omega (arith, proper_at n (image_link n bs) 0 m j h (omega arith) (omega arith), pair.low, pair.high)

-- ---- links in a row

-- the k links from link j on; `links_up_to` has the links from the first one on
unfoldable pub links_of : (n : ℕ) → (image : List ℕ) → (j k : ℕ) → List Link
links_of n bs j k = map (image_link n bs) (range j k)

length_links_of : (n : ℕ) (bs : List ℕ) (j k : ℕ) → length (links_of n bs j k) ≡ k
unfolding links_of
length_links_of n bs j k = length-map (image_link n bs) (range j k) ∙ length_range j k

up_to : (n : ℕ) (bs : List ℕ) (j : ℕ) → links_up_to n bs j ≡ links_of n bs 0 j
unfolding links_up_to links_of
up_to n bs j = refl

links_of_append : (n : ℕ) (bs : List ℕ) (j k i : ℕ) → links_of n bs j (k + i) ≡ links_of n bs j k ++ links_of n bs (j + k) i
unfolding links_of
links_of_append n bs j k i =
    ap (map (image_link n bs)) (range_append j k i) ∙ map_append (image_link n bs) (range j k) (range (j + k) i)

pub links_one_more : (n : ℕ) (bs : List ℕ) (j : ℕ) → links_up_to n bs (j + 1) ≡ links_up_to n bs j ++ (image_link n bs j ∷ [])
unfolding links_up_to links_of range
links_one_more n bs j = let z : 0 + j ≡ j = omega arith in links_of_append n bs 0 j 1 ∙ rw z

module _ (rs : List ℕ) (s : ℕ) where
  abbrev below : (v w : ℕ) → Bool
  below v w = ltb (get_or rs v 0) (get_or rs w 0 + s)

  tallied_le : (ls : List Link) (v : ℕ) → tallied rs s ls v ≤ length ls
  unfolding tallied
  tallied_le ls v = omega (arith, count_le_length (below v) (other_ends v ls), length_other_ends v ls)

  tallied_append : (ls ms : List Link) (v : ℕ) → tallied rs s (ls ++ ms) v ≡ tallied rs s ls v + tallied rs s ms v
  unfolding tallied
  tallied_append ls ms v = ap (count (below v)) (other_ends_append v ls ms) ∙ count_append (below v) (other_ends v ls) (other_ends v ms)

  tallied_row : (n : ℕ) (bs : List ℕ) (j k i v : ℕ)
      → tallied rs s (links_of n bs j (k + i)) v ≡ tallied rs s (links_of n bs j k) v + tallied rs s (links_of n bs (j + k) i) v
  tallied_row n bs j k i v =
      ap (λ (ls : List Link). tallied rs s ls v) (links_of_append n bs j k i) ∙ tallied_append (links_of n bs j k) (links_of n bs (j + k) i) v

  tallied_no_links : (n : ℕ) (bs : List ℕ) (k v : ℕ) → tallied rs s (links_of n bs k 0) v ≡ 0
  tallied_no_links n bs k v = omega (arith, tallied_le (links_of n bs k 0) v, length_links_of n bs k 0)

  -- one link at its ends, and at others
  tallied_low : (a b v : ℕ) → a ≡ v → tallied rs s (link_of a b ∷ []) v ≡ cond (below v b) 1 0
  unfolding tallied other_ends count
  tallied_low a b v e = rw (eq-eqb a v e) (omega arith)

  tallied_high : (a b v : ℕ) → (a ≡ v → ⊥) → b ≡ v → tallied rs s (link_of a b ∷ []) v ≡ cond (below v a) 1 0
  unfolding tallied other_ends count
  tallied_high a b v d e = rw (ne_eqb a v d, eq-eqb b v e) (omega arith)

  tallied_other : (a b v : ℕ) → (a ≡ v → ⊥) → (b ≡ v → ⊥) → tallied rs s (link_of a b ∷ []) v ≡ 0
  unfolding tallied other_ends count
  tallied_other a b v d e = rw (ne_eqb a v d, ne_eqb b v e)

-- ---- one link counted

module _ (rs : List ℕ) (s a b : ℕ) (counts : List ℕ) (lower : a < b) (there : b < length counts) where
  abbrev once : List ℕ
  once = set counts a (get_or counts a 0 + cond (below rs s a b) 1 0)

  abbrev twice : List ℕ
  twice = set once b (get_or once b 0 + cond (below rs s b a) 1 0)

  once_other : (v : ℕ) → (v ≡ a → ⊥) → get_or once v 0 ≡ get_or counts v 0
  once_other v d = get_or-set_other counts a v (get_or counts a 0 + cond (below rs s a b) 1 0) 0 d

  twice_low : get_or twice a 0 ≡ get_or counts a 0 + tallied rs s (link_of a b ∷ []) a
  twice_low =
      omega (
        arith,
        get_or-set_other once b a (get_or once b 0 + cond (below rs s b a) 1 0) 0 (λ z. omega arith),
        get_or-set_same counts a (get_or counts a 0 + cond (below rs s a b) 1 0) 0 (omega arith),
        tallied_low rs s a b a refl,
      )

  twice_high : get_or twice b 0 ≡ get_or counts b 0 + tallied rs s (link_of a b ∷ []) b
  twice_high =
      omega (
        arith,
        get_or-set_same once b (get_or once b 0 + cond (below rs s b a) 1 0) 0 (omega (arith, length-set counts a (get_or counts a 0 + cond (below rs s a b) 1 0))),
        once_other b (λ z. omega arith),
        tallied_high rs s a b b (λ z. omega arith) refl,
      )

  twice_at : (v : ℕ) → (v ≡ a) ⊎ (v ≡ a → ⊥) → (v ≡ b) ⊎ (v ≡ b → ⊥) → get_or twice v 0 ≡ get_or counts v 0 + tallied rs s (link_of a b ∷ []) v
  twice_at v (inl e) q = subst (λ (x : ℕ). get_or twice x 0 ≡ get_or counts x 0 + tallied rs s (link_of a b ∷ []) x) (sym e) twice_low
  twice_at v (inr d) (inl e) = subst (λ (x : ℕ). get_or twice x 0 ≡ get_or counts x 0 + tallied rs s (link_of a b ∷ []) x) (sym e) twice_high
  twice_at v (inr d) (inr e) =
      omega (
        arith,
        get_or-set_other once b v (get_or once b 0 + cond (below rs s b a) 1 0) 0 e,
        once_other v d,
        tallied_other rs s a b v (λ z. d (sym z)) (λ z. e (sym z)),
      )

  get_d_count_link : (v : ℕ) → get_or (count_link rs s a b counts) v 0 ≡ get_or counts v 0 + tallied rs s (link_of a b ∷ []) v
  unfolding count_link
  get_d_count_link v = twice_at v (same_or v a) (same_or v b)
    where
      same_or : (x y : ℕ) → (x ≡ y) ⊎ (x ≡ y → ⊥)
      same_or x y = go (bool_cases (eqb x y))
        where
          go : (eqb x y ≡ true) ⊎ (eqb x y ≡ false) → (x ≡ y) ⊎ (x ≡ y → ⊥)
          go (inl e) = inl (eqb-true x y e)
          go (inr e) = inr (eqb-false x y e)

  length_count_link : length (count_link rs s a b counts) ≡ length counts
  unfolding count_link
  length_count_link =
      length-set once b (get_or once b 0 + cond (below rs s b a) 1 0) ∙ length-set counts a (get_or counts a 0 + cond (below rs s a b) 1 0)

-- ---- the loop: the first j links are counted, and i links from link k on

pub record Tallying (n : ℕ) (rs : List ℕ) (s : ℕ) (bs start counts : List ℕ) (j k i : ℕ) : Type 0 where
  pub long : length counts ≡ length start
  pub at : (v : ℕ) → v < n → get_or counts v 0 ≡ tallied rs s (links_of n bs 0 j) v + tallied rs s (links_of n bs k i) v

pub tallied_none : (n : ℕ) (rs : List ℕ) (s : ℕ) (bs counts : List ℕ) (long j : ℕ) → n ≤ long → counts ≡ replicate long 0 → j ≡ 0
    → Tallied n rs s (links_up_to n bs j) counts
unfolding tallied links_up_to range other_ends count
tallied_none n rs s bs counts long j h e z =
    record { at = λ v l. ap (λ (xs : List ℕ). get_or xs v 0) e ∙ get_or-replicate long v 0 0 (omega arith) ∙ rw z }

-- a link of the image, as it is read
pub record ListedLink (n : ℕ) (bs : List ℕ) (j a b : ℕ) : Type 0 where
  pub pair : LinkAt n bs j a b
  pub lower : a < b
  pub radio : b < n

pub listed_link : (n : ℕ) (bs : List ℕ) (m j a b : ℕ) → proper n (links_up_to n bs m) ≡ true → j < m → LinkAt n bs j a b → ListedLink n bs j a b
listed_link n bs m j a b h l pair = let good = proper_pair n bs m j a b h l pair in record { pair = pair; lower = good.0; radio = good.1 }

module _ (n : ℕ) (rs : List ℕ) (s : ℕ) (bs start counts : List ℕ) (j k i : ℕ) (t : Tallying n rs s bs start counts j k i) (x a b : ℕ)
    (link : ListedLink n bs x a b) (fits : n ≤ length start) where
  one_link : (v : ℕ) → tallied rs s (links_of n bs x 1) v ≡ tallied rs s (link_of a b ∷ []) v
  unfolding links_of range
  one_link v =
      ap (λ (l : Link). tallied rs s (l ∷ []) v) (link_eq (image_link n bs x) (link_of a b) (sym link.pair.low) (sym link.pair.high))

  -- there is room to count the link
  pub link_fits : j + i < 65535 → LinkFits a b counts
  link_fits h =
      record {
        lower = link.lower;
        there = omega (arith, t.long, link.radio);
        low_fits = small a (omega (arith, link.lower, link.radio));
        high_fits = small b link.radio;
      }
    where
      small : (v : ℕ) → v < n → get_or counts v 0 < 65535
      small v l =
          omega (
            arith,
            t.at v l,
            tallied_le rs s (links_of n bs 0 j) v,
            tallied_le rs s (links_of n bs k i) v,
            length_links_of n bs 0 j,
            length_links_of n bs k i,
          )

  counted : (after : List ℕ) → after ≡ count_link rs s a b counts → (y : ℕ) → x ≡ y → (v : ℕ) → v < n
      → get_or after v 0 ≡ tallied rs s (links_of n bs 0 j) v + tallied rs s (links_of n bs k i) v + tallied rs s (links_of n bs y 1) v
  counted after e y z v l =
      omega (
        arith,
        ap (λ (xs : List ℕ). get_or xs v 0) e,
        get_d_count_link rs s a b counts link.lower (omega (arith, t.long, link.radio)) v,
        t.at v l,
        one_link v,
        ap (λ (h : ℕ). tallied rs s (links_of n bs h 1) v) z,
      )

  counted_long : (after : List ℕ) → after ≡ count_link rs s a b counts → length after ≡ length start
  counted_long after e = ap length e ∙ length_count_link rs s a b counts link.lower (omega (arith, t.long, link.radio)) ∙ t.long

  -- the link after the first j
  pub tallying_first : (after : List ℕ) → after ≡ count_link rs s a b counts → x ≡ 0 + j → (next : ℕ) → j + 1 ≡ next → Tallying n rs s bs start after next k i
  tallying_first after e z next f =
      record {
        long = counted_long after e;
        at = λ v l.
            omega (
              arith,
              counted after e (0 + j) z v l,
              tallied_row rs s n bs 0 j 1 v,
              ap (λ (h : ℕ). tallied rs s (links_of n bs 0 h) v) f,
            );
      }

  -- the link after the i from link k on
  pub tallying_second : (after : List ℕ) → after ≡ count_link rs s a b counts → x ≡ k + i → (next : ℕ) → i + 1 ≡ next → Tallying n rs s bs start after j k next
  tallying_second after e z next f =
      record {
        long = counted_long after e;
        at = λ v l.
            omega (
              arith,
              counted after e (k + i) z v l,
              tallied_row rs s n bs k i 1 v,
              ap (λ (h : ℕ). tallied rs s (links_of n bs k h) v) f,
            );
      }

-- ---- one link, end by end

pub link_counted : (rs : List ℕ) (s a b : ℕ) (counts one two : List ℕ) (p q : Bool) → p ≡ below rs s a b → q ≡ below rs s b a
    → one ≡ set counts a (get_or counts a 0 + cond p 1 0) → two ≡ set one b (get_or one b 0 + cond q 1 0) → two ≡ count_link rs s a b counts
unfolding count_link
link_counted rs s a b counts one two p q p_is q_is one_is two_is =
    let e : one ≡ set counts a (get_or counts a 0 + cond (below rs s a b) 1 0) =
    one_is ∙ ap (λ (x : Bool). set counts a (get_or counts a 0 + cond x 1 0)) p_is in
    two_is ∙ ap₂ {C = List ℕ} (λ (xs : List ℕ) (x : Bool). set xs b (get_or xs b 0 + cond x 1 0)) e q_is

-- counts taken over at j links, and handed on
pub tallying_from : (n : ℕ) (rs : List ℕ) (s : ℕ) (bs counts : List ℕ) (i j k : ℕ) → Tallied n rs s (links_up_to n bs i) counts → i ≡ j
    → Tallying n rs s bs counts counts j k 0
tallying_from n rs s bs counts i j k t e =
    record {
      long = refl;
      at = λ v l.
          omega (
            arith,
            t.at v l,
            ap (λ (ls : List Link). tallied rs s ls v) (up_to n bs i),
            ap (λ (h : ℕ). tallied rs s (links_of n bs 0 h) v) e,
            tallied_no_links rs s n bs k v,
          );
    }

-- the second run starts where the first ends
pub tallying_join : (n : ℕ) (rs : List ℕ) (s : ℕ) (bs start counts : List ℕ) (j k i h l : ℕ) → Tallying n rs s bs start counts j k i → k ≡ 0 + j → j + i ≡ h
    → Tallying n rs s bs start counts h l 0
tallying_join n rs s bs start counts j k i h l t d e =
    record {
      long = t.long;
      at = λ v o.
          omega (
            arith,
            t.at v o,
            ap (λ (x : ℕ). tallied rs s (links_of n bs x i) v) d,
            tallied_row rs s n bs 0 j i v,
            ap (λ (x : ℕ). tallied rs s (links_of n bs 0 x) v) e,
            tallied_no_links rs s n bs l v,
          );
    }

pub tallying_to : (n : ℕ) (rs : List ℕ) (s : ℕ) (bs start counts : List ℕ) (i k j : ℕ) → Tallying n rs s bs start counts i k 0 → i ≡ j
    → Tallied n rs s (links_up_to n bs j) counts
tallying_to n rs s bs start counts i k j t e =
    record {
      at = λ v l.
          omega (
            arith,
            t.at v l,
            ap (λ (ls : List Link). tallied rs s ls v) (up_to n bs j),
            ap (λ (h : ℕ). tallied rs s (links_of n bs 0 h) v) e,
            tallied_no_links rs s n bs k v,
          );
    }

pub tallied_at : (n : ℕ) (rs : List ℕ) (s : ℕ) (bs counts : List ℕ) (i j : ℕ) → Tallied n rs s (links_up_to n bs i) counts → i ≡ j
    → Tallied n rs s (links_up_to n bs j) counts
tallied_at n rs s bs counts i j t e = subst (λ (k : ℕ). Tallied n rs s (links_up_to n bs k) counts) e t
