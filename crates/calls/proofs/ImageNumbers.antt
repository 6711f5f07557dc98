-- The number that an image gets where questions 1, 2, 9 and 10 got yes: 0, 15 or 11.
--   image_answered   the image of sound tables with this n, with another n, or of none
--   eleven_iff       11 is the answer to bytes that are the image of no sound tables, and to no others
--   read_eleven      so it is of the number that reading answers
use Rattle.std.specs.Prelude.{◌≡◌, ◌↔◌, ◌⊎◌}
use Rattle.lists.{specs.Kit.{refl, subst, ◌∙◌, inl, inr, Bool, true, false, not, List, ℕ, arith, eqb, eqb-true, eqb-false}}
use Rattle.lists.{proofs.Tests.{bool_cases, never}}
use Rattle.mesh.{specs.Tables.{Tables}, specs.Image.{whole_blocks, checks_good, is_image, other_size, TablesImage, ImageOfNone}}
use Rattle.mesh.{proofs.Images.Tables.{is_image_tables}, proofs.Images.OtherSize.{other_size_iff, is_image_not_other}}
use Rattle.calls.specs.{Questions.{ask, lengths_of, size_good, site_lengths, lent_refusal, blocks_refusal, image_refusal, read_refusal}}
use Rattle.calls.specs.{Outcomes.{Tabled, read_outcome}, Results.{ImageAnswered}}
use Rattle.calls.proofs.{QuestionLaws.{size_good_true}, ContractLaws.{number_by}}

module _ (n : ℕ) (bs : List ℕ) (one : size_good n ≡ true) where
  of_this_size : (is_image n bs ≡ true) ↔ TablesImage n bs
  of_this_size = is_image_tables n bs (size_good_true n one).1

  -- neither of this size nor of another
  of_none : other_size n bs ≡ false → is_image n bs ≡ false → ImageOfNone bs
  of_none o i m s t = go (bool_cases (eqb m n))
    where
      go : (eqb m n ≡ true) ⊎ (eqb m n ≡ false) → ⊥
      go (inl e) = never (is_image n bs) (of_this_size.1 (subst (λ (k : ℕ). TablesImage k bs) (eqb-true m n e) t)) i
      go (inr e) =
          never (other_size n bs) ((other_size_iff n bs).1 (record { another = m; size = s; other = eqb-false m n e; of_tables = t })) o

  -- the last two questions
  answered : (o i : Bool) (r : ℕ) → other_size n bs ≡ o → is_image n bs ≡ i → r ≡ ask 15 (not o) (ask 11 i 0) → ImageAnswered n bs r
  unfolding ask
  answered true true r eo ei e = never (other_size n bs) eo (is_image_not_other n bs (size_good_true n one).1 ei)
  answered true false r eo ei e = record {
    accepted = (λ z. absurd (omega arith), λ t. never (is_image n bs) (of_this_size.1 t) ei);
    other_size = (λ z. (other_size_iff n bs).0 eo, λ t. e);
    none = (λ z. absurd (omega arith), λ h. let t = (other_size_iff n bs).0 eo in absurd (h t.another t.size t.of_tables));
  }
  answered false true r eo ei e = record {
    accepted = (λ z. of_this_size.0 ei, λ t. e);
    other_size = (λ z. absurd (omega arith), λ t. never (other_size n bs) ((other_size_iff n bs).1 t) eo);
    none = (λ z. absurd (omega arith), λ h. absurd (h n one (of_this_size.0 ei)));
  }
  answered false false r eo ei e = record {
    accepted = (λ z. absurd (omega arith), λ t. never (is_image n bs) (of_this_size.1 t) ei);
    other_size = (λ z. absurd (omega arith), λ t. never (other_size n bs) ((other_size_iff n bs).1 t) eo);
    none = (λ z. of_none eo ei, λ h. e);
  }

  pub image_answered : whole_blocks bs ≡ true → checks_good bs ≡ true → ImageAnswered n bs (image_refusal n bs)
  unfolding image_refusal blocks_refusal ask
  image_answered nine ten = answered (other_size n bs) (is_image n bs) (image_refusal n bs) refl refl (rw (nine, ten))

  pub eleven_iff : whole_blocks bs ≡ true → checks_good bs ≡ true → (image_refusal n bs ≡ 11) ↔ ImageOfNone bs
  eleven_iff nine ten = (image_answered nine ten).none

-- of the number that reading answers, where 1, 2, 9 and 10 get yes
pub read_eleven :
    (n : ℕ) (bs : List ℕ) (t : Tables) → size_good n ≡ true → site_lengths n (lengths_of t) ≡ true → whole_blocks bs ≡ true → checks_good bs ≡ true →
    ImageAnswered n bs (read_outcome n bs t).reply
unfolding read_outcome read_refusal lent_refusal image_refusal blocks_refusal ask
read_eleven n bs t one two nine ten =
    answered n bs one (other_size n bs) (is_image n bs) _ refl refl
    (number_by (λ (o : Tabled ℕ). o.reply) (read_refusal n (lengths_of t) bs) _ _ refl (λ q. refl) ∙ rw (one, two, nine, ten))
