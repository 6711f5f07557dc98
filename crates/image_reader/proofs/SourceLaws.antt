-- Questions 15 and 11 from the n that the header says.
--   found_none, found_other, found_this   what the two questions give, by whether the bytes are an image of the header's n
--   header_stops                          the number of the header is the image's
--   header_passes                         where it is 0, 9 and 10 got yes and the header says a size
--   opened_blocks, opened_no_size, opened_size   opening's three outcomes
--   source_none, source_other, source_this   the decision's three outcomes
--   source_refused, source_accepted       the tables after
use Rattle.std.specs.Prelude.{◌≡◌, ◌⊎◌, ◌&&◌, ◌%◌, ◌≤◌}
use Rattle.lists.{specs.Kit.{refl, sym, ap, subst, ◌∙◌, inl, inr, Bool, true, false, not, List, ℕ, zero, suc, arith, eqb, length}}
use Rattle.lists.{specs.Kit.{eq-eqb, ne_eqb, eqb-true}, proofs.Tests.{bool_cases, never, and_right, and_both}}
use Rattle.mesh.{specs.Limits.{size_good}, specs.Tables.{Tables, tables_of}, specs.Image.{block_bytes, word_at, image_graph, image_order, whole_blocks}}
use Rattle.mesh.{specs.Image.{checks_good, is_image, other_size}, proofs.Sizes.{size_good_true}, proofs.Images.Sites.{is_image_radios}}
use Rattle.calls.{specs.Questions.{ask, lengths_of, blocks_refusal, image_refusal, read_refusal}, specs.Outcomes.{read_outcome}}
use Rattle.calls.{specs.CallContracts.{ReadContract}, proofs.QuestionLaws.{ask_zero}, proofs.ContractLaws.{by_accepted, by_refused}}
use Rattle.calls.{proofs.ChainLaws.{BlocksGood, blocks_zero, blocks_yes}}
use Rattle.image.specs.Header.{HeaderOf, header}
use Rattle.image_reader.specs.Reading.{header_refusal, ImageDecided, SourceDecided}
use Rattle.calls.specs.{Chains.{block_refusal, source_refusal}}

-- ---- by the header's n

and-false : (a : Bool) → (a && false) ≡ false
and-false true = refl
and-false false = refl

module _ (n : ℕ) (bs : List ℕ) (one : size_good n ≡ true) where
  abbrev says : ℕ
  says = word_at bs 4

  pub found_none : (size_good says && is_image says bs) ≡ false → source_refusal n bs ≡ 11
  unfolding other_size ask
  found_none e = go (bool_cases (is_image n bs))
    where
      go : (is_image n bs ≡ true) ⊎ (is_image n bs ≡ false) → source_refusal n bs ≡ 11
      go (inl h) =
          never (size_good n && is_image n bs) (and_both (size_good n) (is_image n bs) one h)
          (ap (λ (k : ℕ). size_good k && is_image k bs) (sym (is_image_radios n bs (size_good_true n one).1 h)) ∙ e)
      go (inr h) = rw (e, h, and-false (not (eqb says n)))

  pub found_other : (size_good says && is_image says bs) ≡ true → (says ≡ n → ⊥) → source_refusal n bs ≡ 15
  unfolding other_size ask
  found_other e d = rw (e, ne_eqb says n d)

  pub found_this : is_image n bs ≡ true → says ≡ n → source_refusal n bs ≡ 0
  unfolding other_size ask
  found_this e q = rw (eq-eqb says n q, e)

  -- ---- the header

  pub header_stops : (header_refusal bs ≡ 0 → ⊥) → image_refusal n bs ≡ header_refusal bs
  unfolding header_refusal image_refusal blocks_refusal ask
  header_stops = go (whole_blocks bs) (checks_good bs) (size_good says) refl
    where
      go : (a b c : Bool) → size_good says ≡ c → (ask 9 a (ask 10 b (ask 11 c 0)) ≡ 0 → ⊥)
          → ask 9 a (ask 10 b (source_refusal n bs)) ≡ ask 9 a (ask 10 b (ask 11 c 0))
      go false b c e h = refl
      go true false c e h = refl
      go true true false e h = found_none (rw e)
      go true true true e h = absurd (h refl)

pub header_passes : (bs : List ℕ) → header_refusal bs ≡ 0 → BlocksGood bs × (size_good (word_at bs 4) ≡ true)
unfolding header_refusal
header_passes bs e =
    let q = blocks_zero bs (ask 11 (size_good (word_at bs 4)) 0) e in (q.0, (ask_zero 10 (size_good (word_at bs 4)) 0 q.1).0)

-- ---- opening, after questions 9 and 10 gave p

module _ (bs : List ℕ) (p : ℕ) (p_is : p ≡ block_refusal bs) where
  pub opened_blocks : (p ≡ 0 → ⊥) → p ≡ header_refusal bs
  unfolding header_refusal blocks_refusal ask
  opened_blocks h = p_is ∙ go (whole_blocks bs) (checks_good bs) (ask 11 (size_good (word_at bs 4)) 0) (λ z. h (p_is ∙ z))
    where
      go : (a b : Bool) (x : ℕ) → (ask 9 a (ask 10 b 0) ≡ 0 → ⊥) → ask 9 a (ask 10 b 0) ≡ ask 9 a (ask 10 b x)
      go false b x h = refl
      go true false x h = refl
      go true true x h = absurd (h refl)

  module _ (z : p ≡ 0) where
    good : BlocksGood bs
    good = (blocks_zero bs 0 (sym p_is ∙ z)).0

    -- block 0 is there
    pub first_block : block_bytes ≤ length bs
    unfolding whole_blocks
    first_block = go (length bs) good.whole
      where
        go : (k : ℕ) → (not (eqb k 0) && eqb (k % block_bytes) 0) ≡ true → block_bytes ≤ k
        go zero h = never false h refl
        go (suc k) h = omega (arith, eqb-true (suc k % block_bytes) 0 (and_right (not (eqb (suc k) 0)) (eqb (suc k % block_bytes) 0) h))

    module _ (n m : ℕ) (says : HeaderOf bs (header n m)) (u : Bool) (u_is : u ≡ size_good n) where
      asked_size : ask 11 u 0 ≡ header_refusal bs
      unfolding header_refusal
      asked_size =
          ap (λ (x : Bool). ask 11 x 0) (u_is ∙ ap size_good says.radios_said) ∙ sym (blocks_yes bs (ask 11 (size_good (word_at bs 4)) 0) good)

      pub opened_no_size : u ≡ false → 11 ≡ header_refusal bs
      unfolding ask
      opened_no_size e = rw e at asked_size

      pub opened_size : u ≡ true → 0 ≡ header_refusal bs
      unfolding ask
      opened_size e = rw e at asked_size

-- ---- the decision's outcomes; the bytes were decided for the header's m

module _ (n m : ℕ) (bs : List ℕ) (one : size_good n ≡ true) (m_is : m ≡ word_at bs 4) (size : size_good m ≡ true) (xs ns : List ℕ) (u : Bool)
    (d : ImageDecided m bs xs ns u) where
  pub source_none : u ≡ false → SourceDecided n bs xs ns 11
  source_none e = record {
    answer = sym (found_none n bs one
        (ap (λ (k : ℕ). size_good k && is_image k bs) (sym m_is) ∙ rw (size, ← d.answer) e));
    order_is = λ z. absurd (omega arith);
    numbers_are = λ z. absurd (omega arith);
  }

  found : u ≡ true → (size_good (word_at bs 4) && is_image (word_at bs 4) bs) ≡ true
  found e = ap (λ (k : ℕ). size_good k && is_image k bs) (sym m_is) ∙ rw (size, ← d.answer) e

  pub source_other : u ≡ true → (m ≡ n → ⊥) → SourceDecided n bs xs ns 15
  source_other e q = record {
    answer = sym (found_other n bs one (found e) (λ z. q (m_is ∙ z)));
    order_is = λ z. absurd (omega arith);
    numbers_are = λ z. absurd (omega arith);
  }

  pub source_this : u ≡ true → m ≡ n → SourceDecided n bs xs ns 0
  source_this e q =
      let is : ImageDecided n bs xs ns u = subst (λ (k : ℕ). ImageDecided k bs xs ns u) q d in
      record {
        answer = sym (found_this n bs one (sym is.answer ∙ e) (sym m_is ∙ q));
        order_is = λ z. is.order_is e;
        numbers_are = λ z. is.numbers_are e;
      }

-- ---- the tables

module _ (n : ℕ) (bs : List ℕ) (t : Tables) (same : read_refusal n (lengths_of t) bs ≡ source_refusal n bs) (xs ns : List ℕ) (r : ℕ)
    (d : SourceDecided n bs xs ns r) where
  pub source_refused : (r ≡ 0 → ⊥) → ReadContract n bs t r t
  unfolding ReadContract read_outcome
  source_refused h = by_refused _ _ _ (λ z. h (d.answer ∙ sym same ∙ z)) (rw (d.answer ∙ sym same))

  pub source_accepted : r ≡ 0 → (v : Tables) → v ≡ tables_of (image_graph n bs) (image_order n bs) → ReadContract n bs t 0 v
  unfolding ReadContract read_outcome
  source_accepted e v a = by_accepted _ _ (same ∙ sym d.answer ∙ e) (rw a)

-- the bytes are then an image of n radios
pub source_site : (n : ℕ) (bs xs ns : List ℕ) (r : ℕ) → SourceDecided n bs xs ns r → r ≡ 0 → ImageDecided n bs xs ns true
source_site n bs xs ns r d e =
    let a = ask_zero _ (not (other_size n bs)) _ (sym d.answer ∙ e) in
    record {
      answer = sym (ask_zero _ (is_image n bs) 0 a.1).0;
      order_is = λ t. d.order_is e;
      numbers_are = λ t. d.numbers_are e;
    }

-- the header then says n
pub source_says : (n m : ℕ) (bs xs ns : List ℕ) (r : ℕ) → size_good n ≡ true → m ≡ word_at bs 4 → SourceDecided n bs xs ns r → r ≡ 0 → m ≡ n
source_says n m bs xs ns r one m_is d e =
    m_is ∙ is_image_radios n bs (size_good_true n one).1 (sym (source_site n bs xs ns r d e).answer)
