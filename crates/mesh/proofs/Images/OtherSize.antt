-- Question 15: the image of sound tables with another n.
--   other_size_iff       what is worked out from the header's n is the image of some sound tables with another n
--   is_image_not_other   an image of n radios is of no other size
use Rattle.std.specs.Prelude.{◌≡◌, ◌↔◌, ◌&&◌, ◌≤◌}
use Rattle.lists.{specs.Kit.{ap, true, false, not, List, ℕ, eqb, eqb-false, eq-eqb, ne_eqb, not-true}, proofs.Tests.{and_left}}
use Rattle.lists.{proofs.Tests.{and_right, and_both}}
use Rattle.mesh.specs.{Limits.{max_radios, size_good}, Image.{word_at, is_image, TablesImage, other_size, OtherSize}}
use Rattle.mesh.proofs.{Sizes.{size_good_true}, Images.Sites.{is_image_radios}, Images.Tables.{is_image_tables}}

-- the image of sound tables with m radios says m
tables_image_radios : (m : ℕ) (bs : List ℕ) → size_good m ≡ true → TablesImage m bs → (word_at bs 4 ≡ m) × (is_image m bs ≡ true)
tables_image_radios m bs s i =
    let small : m ≤ max_radios = (size_good_true m s).1 in
    let h = (is_image_tables m bs small).1 i in (is_image_radios m bs small h, h)

pub other_size_iff : (n : ℕ) (bs : List ℕ) → (other_size n bs ≡ true) ↔ OtherSize n bs
unfolding other_size
other_size_iff n bs = (there, back)
  where
    m : ℕ
    m = word_at bs 4

    there : (not (eqb m n) && (size_good m && is_image m bs)) ≡ true → OtherSize n bs
    there h =
        let rest = and_right (not (eqb m n)) (size_good m && is_image m bs) h in
        let size = and_left (size_good m) (is_image m bs) rest in
        record {
          another = m;
          size = size;
          other = eqb-false m n (not-true (eqb m n) (and_left (not (eqb m n)) (size_good m && is_image m bs) h));
          of_tables = (is_image_tables m bs (size_good_true m size).1).0 (and_right (size_good m) (is_image m bs) rest);
        }

    back : OtherSize n bs → (not (eqb m n) && (size_good m && is_image m bs)) ≡ true
    back o =
        let r = tables_image_radios o.another bs o.size o.of_tables in
        rw r.0 (and_both (not (eqb o.another n)) (size_good o.another && is_image o.another bs)
        (ap not (ne_eqb o.another n o.other)) (and_both (size_good o.another) (is_image o.another bs) o.size r.1))

pub is_image_not_other : (n : ℕ) (bs : List ℕ) → n ≤ max_radios → is_image n bs ≡ true → other_size n bs ≡ false
unfolding other_size
is_image_not_other n bs small h = rw (eq-eqb (word_at bs 4) n (is_image_radios n bs small h))
