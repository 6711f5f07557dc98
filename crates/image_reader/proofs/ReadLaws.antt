-- The outcomes of reading and of asking an image alone: the first question that gets no, or the tables of the image.
use Rattle.std.specs.Prelude.{◌≡◌, ◌&&◌, ◌*◌}
use Rattle.lists.specs.Kit.{refl, sym, ap, ◌∙◌, Bool, true, false, List, ℕ, length}
use Rattle.mesh.{specs.Limits.{row_bytes, size_good}, specs.Tables.{Tables}, specs.Image.{word_at}, proofs.Sizes.{true_size_good}}
use Rattle.calls.{specs.Questions.{ask, Lengths, lengths_of, site_lengths, lent_refusal, tables_refusal, image_refusal, read_refusal}}
use Rattle.calls.{specs.Outcomes.{read_outcome}, specs.CallContracts.{ReadContract}, proofs.ContractLaws.{by_refused}, proofs.QuestionLaws.{ask_yes}}
use Rattle.calls.{proofs.ChainLaws.{LentGood, lent_zero, lent_yes, BlocksGood, blocks_yes}}
use Rattle.image.specs.declared.header.Header.{Header}
use Rattle.image_reader.specs.Reading.{alone_refusal, header_refusal, Opened, SourceRoom, SourceDecided}
use Rattle.image_reader.proofs.SourceLaws.{header_stops, header_passes}
use Rattle.calls.specs.Chains.{source_refusal}

-- ---- the image is opened

module _ (bs : List ℕ) (h : Header) (o : Opened bs h) where
  passed : BlocksGood bs × (size_good (word_at bs 4) ≡ true)
  passed = header_passes bs (sym o.asked)

  said_size : size_good h.radios ≡ true
  said_size = ap size_good o.said.radios_said ∙ passed.1

  -- 15 and 11 decide
  asked_last : (n : ℕ) → image_refusal n bs ≡ source_refusal n bs
  unfolding image_refusal
  asked_last n = blocks_yes bs (source_refusal n bs) passed.0

  pub header_room : (n : ℕ) → size_good n ≡ true → (x y : ℕ) → x ≡ h.radios → y ≡ h.radios → SourceRoom n h bs x y
  header_room n one x y ex ey = record {
    this_size = one;
    says_size = said_size;
    room = record { most = o.small; says = o.said; checked = passed.0.checks; listed_long = ex; cores_long = ey };
  }

-- ---- an image alone

pub alone_no_size : (n : ℕ) (bs : List ℕ) → size_good n ≡ false → 1 ≡ alone_refusal n bs
unfolding alone_refusal ask
alone_no_size n bs e = rw e

module _ (n : ℕ) (bs : List ℕ) (one : size_good n ≡ true) where
  alone_asked : alone_refusal n bs ≡ image_refusal n bs
  unfolding alone_refusal
  alone_asked = ask_yes 1 (size_good n) (image_refusal n bs) one

  pub alone_header : (p : ℕ) → p ≡ header_refusal bs → (p ≡ 0 → ⊥) → p ≡ alone_refusal n bs
  alone_header p e h = e ∙ sym (header_stops n bs one (λ z. h (e ∙ z))) ∙ sym alone_asked

  pub alone_decided : (h : Header) → Opened bs h → (xs ns : List ℕ) (r : ℕ) → SourceDecided n bs xs ns r → r ≡ alone_refusal n bs
  alone_decided h o xs ns r d = d.answer ∙ sym (asked_last bs h o n) ∙ sym alone_asked

-- ---- reading

module _ (n : ℕ) (bs : List ℕ) (t : Tables) where
  abbrev l : Lengths
  l = lengths_of t

  read_refused : (q : ℕ) → q ≡ read_refusal n l bs → (q ≡ 0 → ⊥) → ReadContract n bs t q t
  unfolding ReadContract read_outcome
  read_refused q e h = by_refused _ _ _ (λ z. h (e ∙ z)) (rw e)

  -- question 1 or 2 got no
  lent_no : (tables_refusal n l ≡ 0 → ⊥) → read_refusal n l bs ≡ tables_refusal n l
  unfolding read_refusal tables_refusal lent_refusal ask
  lent_no = go (size_good n) (site_lengths n l) (image_refusal n bs)
    where
      go : (a b : Bool) (x : ℕ) → (ask 1 a (ask 2 (b && true) 0) ≡ 0 → ⊥) → ask 1 a (ask 2 (b && true) x) ≡ ask 1 a (ask 2 (b && true) 0)
      go false b x h = refl
      go true false x h = refl
      go true true x h = absurd (h refl)

  pub read_not_lent : (q : ℕ) → q ≡ tables_refusal n l → (q ≡ 0 → ⊥) → ReadContract n bs t q t
  read_not_lent q e h = read_refused q (e ∙ sym (lent_no (λ z. h (e ∙ z)))) h

  module _ (q : ℕ) (q_is : q ≡ tables_refusal n l) (q_zero : q ≡ 0) where
    lent : LentGood n l true
    unfolding tables_refusal
    lent = (lent_zero n l true 0 (sym q_is ∙ q_zero)).0

    pub read_size : size_good n ≡ true
    read_size = true_size_good n lent.least lent.most

    asked : read_refusal n l bs ≡ image_refusal n bs
    unfolding read_refusal
    asked = lent_yes n l true (image_refusal n bs) lent

    -- question 9 or 10 got no, or the header says no size
    pub read_not_header : (p : ℕ) → p ≡ header_refusal bs → (p ≡ 0 → ⊥) → ReadContract n bs t p t
    read_not_header p e h = read_refused p (e ∙ sym (header_stops n bs read_size (λ z. h (e ∙ z))) ∙ sym asked) h

    pub read_sized : (length t.links ≡ row_bytes * n) × (length t.numbers ≡ n) × (length t.order ≡ n)
    unfolding lengths_of
    read_sized = (lent.lengths.links, lent.lengths.numbers, lent.lengths.order)

    -- the image is opened: 15 and 11 decide
    pub read_asked : (h : Header) → Opened bs h → read_refusal n l bs ≡ source_refusal n bs
    read_asked h o = asked ∙ asked_last bs h o n
