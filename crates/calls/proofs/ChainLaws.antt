-- Laws of the chains of questions: a chain is 0 exactly when every question gets yes.
--   LentGood     1 and 2 got yes
--   SiteGood     1 to 3 got yes
--   BlocksGood   9 and 10 got yes
--   ..-zero       a chain that is 0: what was asked holds
--   ..-yes        the way back
-- Questions 4 to 7 are `Allowed` of mesh. In order: parts of chains, then the chain of each call.
use Rattle.std.specs.Prelude.{◌≡◌, ◌&&◌, ◌≤◌, ◌<◌}
use Rattle.lists.{specs.Kit.{◌∙◌, ap, refl, Bool, true, not, false, List, ℕ, arith, ℤ}, proofs.Tests.{and_left, and_right}}
use Rattle.mesh.{specs.Limits.{max_radios, max_neighbours}, specs.Graph.{Graph, Allowed}, specs.Cores.{number}, specs.Image.{whole_blocks, checks_good}}
use Rattle.mesh.{specs.Image.{other_size, is_image}, proofs.Images.OtherSize.{is_image_not_other}, specs.Sound.{sound}}
use Rattle.calls.specs.{Questions.{ask, Lengths, size_good, site_lengths, answer_length, are_radios, is_radio, ends_differ, can_switch, has_room}}
use Rattle.calls.specs.{Questions.{has_level, image_length, lent_refusal, site_refusal, ends_then, ends_refusal}}
use Rattle.calls.specs.{Questions.{radio_refusal, pair_refusal, blocks_refusal}}
use Rattle.calls.specs.{Questions.{image_refusal, read_refusal, is_proposal, commit_refusal}, Sheet.{sheet_length}}
use Rattle.calls.proofs.QuestionLaws.{ask_yes, ask_zero, ask_later, size_good_true, true_size_good, SiteLengths, site_lengths_true, true_site_lengths}
use Rattle.calls.proofs.QuestionLaws.{is_radio_true, true_is_radio, are_radios_true, true_are_radios, ends_differ_true, true_ends_differ}
use Rattle.calls.proofs.QuestionLaws.{can_switch_true, true_can_switch, has_room_true, true_has_room, has_level_true, true_has_level, holds_image_true}
use Rattle.calls.proofs.QuestionLaws.{true_holds_image, holds_sheet_true, true_holds_sheet}
use Rattle.calls.specs.Chains.{core_refusal, write_refusal, sheet_refusal}
use Rattle.calls.specs.Chains.{holds_image, link_refusal, source_refusal, holds_sheet}

-- ---- 1 and 2

pub record LentGood (n : ℕ) (l : Lengths) (others : Bool) : Type 0 where
  pub least : 1 ≤ n
  pub most : n ≤ max_radios
  pub lengths : SiteLengths n l
  pub further : others ≡ true

pub lent_good : (n : ℕ) (l : Lengths) (others : Bool) → size_good n ≡ true → (site_lengths n l && others) ≡ true → LentGood n l others
lent_good n l others p q =
    let s = size_good_true n p in
    record {
      least = s.0;
      most = s.1;
      lengths = site_lengths_true n l (and_left (site_lengths n l) others q);
      further = and_right (site_lengths n l) others q;
    }

pub lent_zero : (n : ℕ) (l : Lengths) (others : Bool) (later : ℕ) → lent_refusal n l others later ≡ 0 → LentGood n l others × (later ≡ 0)
unfolding lent_refusal
lent_zero n l others later p =
    let q = ask_zero 0 (size_good n) (ask 2 (site_lengths n l && others) later) p in
    let r = ask_zero 1 (site_lengths n l && others) later q.1 in (lent_good n l others q.0 r.0, r.1)

pub lent_yes : (n : ℕ) (l : Lengths) (others : Bool) (later : ℕ) → LentGood n l others → lent_refusal n l others later ≡ later
unfolding lent_refusal ask
lent_yes n l others later g =
    rw (true_size_good n g.least g.most, true_site_lengths n l g.lengths, g.further)

pub lent_later : (n : ℕ) (l : Lengths) (others : Bool) (x y : ℕ) → (LentGood n l others → x ≡ y) → lent_refusal n l others x ≡ lent_refusal n l others y
unfolding lent_refusal
lent_later n l others x y e =
    ask_later 1 (size_good n) _ _ (λ p. ask_later 2 (site_lengths n l && others) x y (λ q. e (lent_good n l others p q)))

-- ---- 1 to 3

pub record SiteGood (n : ℕ) (l : Lengths) (others sound : Bool) : Type 0 where
  pub lent : LentGood n l others
  pub is_sound : sound ≡ true

pub site_zero :
    (n : ℕ) (l : Lengths) (others sound : Bool) (later : ℕ) → site_refusal n l others sound later ≡ 0 →
    SiteGood n l others sound × (later ≡ 0)
unfolding site_refusal
site_zero n l others sound later p =
    let q = lent_zero n l others (ask 3 sound later) p in
    let r = ask_zero 2 sound later q.1 in (record { lent = q.0; is_sound = r.0 }, r.1)

pub site_yes :
    (n : ℕ) (l : Lengths) (others sound : Bool) (later : ℕ) → SiteGood n l others sound → site_refusal n l others sound later ≡ later
unfolding site_refusal
site_yes n l others sound later g =
    lent_yes n l others (ask 3 sound later) g.lent ∙ ask_yes 3 sound later g.is_sound

-- ---- 4 to 7

pub ends_zero : (most : ℕ) (up : Bool) (a b : ℕ) (g : Graph) → ends_refusal most up g.n a b g ≡ 0 → Allowed most up a b g
unfolding ends_refusal
ends_zero most up a b g p =
    let q = ask_zero 3 (are_radios g.n a b) _ p in
    let r = ask_zero 4 (ends_differ a b) _ q.1 in
    let s = ask_zero _ (can_switch up g a b) _ r.1 in
    let t = ask_zero 6 (has_room most up g a b) 0 s.1 in
    record {
      a_radio = (are_radios_true g.n a b q.0).0;
      b_radio = (are_radios_true g.n a b q.0).1;
      differ = ends_differ_true a b r.0;
      state = can_switch_true up g a b s.0;
      room = has_room_true most up g a b t.0;
    }

pub ends_yes : (most : ℕ) (up : Bool) (a b : ℕ) (g : Graph) → Allowed most up a b g → ends_refusal most up g.n a b g ≡ 0
unfolding ends_refusal ask
ends_yes most up a b g h =
    rw (
      true_are_radios g.n a b h.a_radio h.b_radio,
      true_ends_differ a b h.differ,
      true_can_switch up g a b h.state,
      true_has_room most up g a b h.room,
    )

-- 4 to 7 and what comes after them
pub ends_then_zero :
    (most : ℕ) (up : Bool) (n a b : ℕ) (g : Graph) (later : ℕ) → ends_then most up n a b g later ≡ 0 →
    (ends_refusal most up n a b g ≡ 0) × (later ≡ 0)
unfolding ends_refusal ask
ends_then_zero most up n a b g later p = go (are_radios n a b) (ends_differ a b) (can_switch up g a b) (has_room most up g a b) p
  where
    go : (h i j k : Bool) → ask 4 h (ask 5 i (ask 6 j (ask 7 k later))) ≡ 0 → (ask 4 h (ask 5 i (ask 6 j (ask 7 k 0))) ≡ 0) × (later ≡ 0)
    go true true true true e = (refl, e)
    go true true true false e = absurd (omega arith)
    go true true false k e = absurd (omega arith)
    go true false j k e = absurd (omega arith)
    go false i j k e = absurd (omega arith)

pub ends_then_yes :
    (most : ℕ) (up : Bool) (n a b : ℕ) (g : Graph) (later : ℕ) → ends_refusal most up n a b g ≡ 0 → ends_then most up n a b g later ≡ later
unfolding ends_refusal ask
ends_then_yes most up n a b g later p = go (are_radios n a b) (ends_differ a b) (can_switch up g a b) (has_room most up g a b) p
  where
    go : (h i j k : Bool) → ask 4 h (ask 5 i (ask 6 j (ask 7 k 0))) ≡ 0 → ask 4 h (ask 5 i (ask 6 j (ask 7 k later))) ≡ later
    go true true true true e = refl
    go true true true false e = absurd (omega arith)
    go true true false k e = absurd (omega arith)
    go true false j k e = absurd (omega arith)
    go false i j k e = absurd (omega arith)

-- a "no" of 4 to 7 comes before what comes after them
pub ends_then_no :
    (most : ℕ) (up : Bool) (n a b : ℕ) (g : Graph) (later : ℕ) → (ends_refusal most up n a b g ≡ 0 → ⊥) →
    ends_then most up n a b g later ≡ ends_refusal most up n a b g
unfolding ends_refusal ask
ends_then_no most up n a b g later stops = go (are_radios n a b) (ends_differ a b) (can_switch up g a b) (has_room most up g a b) stops
  where
    go : (h i j k : Bool) → (ask 4 h (ask 5 i (ask 6 j (ask 7 k 0))) ≡ 0 → ⊥) →
        ask 4 h (ask 5 i (ask 6 j (ask 7 k later))) ≡ ask 4 h (ask 5 i (ask 6 j (ask 7 k 0)))
    go true true true true s = absurd (s refl)
    go true true true false s = refl
    go true true false k s = refl
    go true false j k s = refl
    go false i j k s = refl

-- ---- 9 to 11, and 15

pub record BlocksGood (image : List ℕ) : Type 0 where
  pub whole : whole_blocks image ≡ true
  pub checks : checks_good image ≡ true

pub blocks_zero : (bs : List ℕ) (later : ℕ) → blocks_refusal bs later ≡ 0 → BlocksGood bs × (later ≡ 0)
unfolding blocks_refusal
blocks_zero bs later p =
    let q = ask_zero 8 (whole_blocks bs) (ask 10 (checks_good bs) later) p in
    let r = ask_zero 9 (checks_good bs) later q.1 in (record { whole = q.0; checks = r.0 }, r.1)

pub blocks_yes : (bs : List ℕ) (later : ℕ) → BlocksGood bs → blocks_refusal bs later ≡ later
unfolding blocks_refusal
blocks_yes bs later g =
    ask_yes 9 (whole_blocks bs) (ask 10 (checks_good bs) later) g.whole ∙ ask_yes 10 (checks_good bs) later g.checks

pub image_zero : (n : ℕ) (bs : List ℕ) → image_refusal n bs ≡ 0 → BlocksGood bs × (is_image n bs ≡ true)
unfolding image_refusal
image_zero n bs p =
    let q = blocks_zero bs (source_refusal n bs) p in
    let r = ask_zero _ (not (other_size n bs)) _ q.1 in (q.0, (ask_zero _ (is_image n bs) 0 r.1).0)

-- an image of n radios is of no other size
pub image_yes : (n : ℕ) (bs : List ℕ) → n ≤ max_radios → BlocksGood bs → is_image n bs ≡ true → image_refusal n bs ≡ 0
unfolding image_refusal
image_yes n bs small g p =
    blocks_yes bs (source_refusal n bs) g
    ∙ ask_yes _ (not (other_size n bs)) _ (ap not (is_image_not_other n bs small p))
    ∙ ask_yes _ (is_image n bs) 0 p

-- ---- the chain of each call; clearing, checking, backbone, shell tree, staircase tree and block reader have the parts above

pub link_zero :
    (up : Bool) (a b : ℕ) (l : Lengths) (w : ℕ) (sound : Bool) (g : Graph) → link_refusal up g.n a b l w sound g ≡ 0 →
    SiteGood g.n l (answer_length g.n w) sound × Allowed max_neighbours up a b g
link_zero up a b l w sound g p =
    let q = site_zero g.n l (answer_length g.n w) sound (ends_refusal max_neighbours up g.n a b g) p in
    (q.0, ends_zero max_neighbours up a b g q.1)

pub commit_zero :
    (up : Bool) (a b : ℕ) (z : ℤ) (xs : List ℕ) (l : Lengths) (sound : Bool) (g : Graph) → commit_refusal up g.n a b z xs l sound g ≡ 0 →
    SiteGood g.n l true sound × Allowed max_neighbours up a b g × (is_proposal up a b z xs g ≡ true)
unfolding commit_refusal
commit_zero up a b z xs l sound g p =
    let q = site_zero g.n l true sound _ p in
    let r = ends_then_zero max_neighbours up g.n a b g (ask 16 (is_proposal up a b z xs g) 0) q.1 in
    (q.0, ends_zero max_neighbours up a b g r.0, (ask_zero 15 (is_proposal up a b z xs g) 0 r.1).0)

pub radio_zero :
    (n v : ℕ) (l : Lengths) (sound : Bool) → radio_refusal n v l sound ≡ 0 → SiteGood n l true sound × (v < n)
unfolding radio_refusal
radio_zero n v l sound p =
    let q = site_zero n l true sound (ask 4 (is_radio n v) 0) p in
    (q.0, is_radio_true n v (ask_zero 3 (is_radio n v) 0 q.1).0)

pub radio_yes : (n v : ℕ) (l : Lengths) (sound : Bool) → SiteGood n l true sound → v < n → radio_refusal n v l sound ≡ 0
unfolding radio_refusal
radio_yes n v l sound s h =
    site_yes n l true sound (ask 4 (is_radio n v) 0) s ∙ ask_yes 4 (is_radio n v) 0 (true_is_radio n v h)

pub pair_zero :
    (n a b : ℕ) (l : Lengths) (sound : Bool) → pair_refusal n a b l sound ≡ 0 →
    SiteGood n l true sound × (a < n) × (b < n)
unfolding pair_refusal
pair_zero n a b l sound p =
    let q = site_zero n l true sound (ask 4 (are_radios n a b) 0) p in
    let r = are_radios_true n a b (ask_zero 3 (are_radios n a b) 0 q.1).0 in (q.0, r.0, r.1)

pub pair_yes :
    (n a b : ℕ) (l : Lengths) (sound : Bool) → SiteGood n l true sound → a < n → b < n → pair_refusal n a b l sound ≡ 0
unfolding pair_refusal
pair_yes n a b l sound s p q =
    site_yes n l true sound (ask 4 (are_radios n a b) 0) s ∙ ask_yes 4 (are_radios n a b) 0 (true_are_radios n a b p q)

pub core_zero :
    (n v k : ℕ) (l : Lengths) (w : ℕ) (sound : Bool) (g : Graph) → core_refusal n v k l w sound g ≡ 0 →
    SiteGood n l (answer_length n w) sound × (v < n) × (k ≤ number g v)
core_zero n v k l w sound g p =
    let q = site_zero n l (answer_length n w) sound (ask 4 (is_radio n v) (ask 8 (has_level g v k) 0)) p in
    let r = ask_zero 3 (is_radio n v) (ask 8 (has_level g v k) 0) q.1 in
    (q.0, is_radio_true n v r.0, has_level_true g v k (ask_zero 7 (has_level g v k) 0 r.1).0)

pub core_yes :
    (n v k : ℕ) (l : Lengths) (w : ℕ) (sound : Bool) (g : Graph) → SiteGood n l (answer_length n w) sound → v < n →
    k ≤ number g v → core_refusal n v k l w sound g ≡ 0
core_yes n v k l w sound g s p q =
    site_yes n l (answer_length n w) sound (ask 4 (is_radio n v) (ask 8 (has_level g v k) 0)) s
    ∙ ask_yes 4 (is_radio n v) (ask 8 (has_level g v k) 0) (true_is_radio n v p)
    ∙ ask_yes 8 (has_level g v k) 0 (true_has_level g v k q)

pub write_zero :
    (n : ℕ) (l : Lengths) (room : ℕ) (sound : Bool) (g : Graph) → write_refusal n l room sound g ≡ 0 →
    SiteGood n l true sound × (image_length g ≤ room)
write_zero n l room sound g p =
    let q = site_zero n l true sound (ask 9 (holds_image g room) 0) p in
    (q.0, holds_image_true g room (ask_zero 8 (holds_image g room) 0 q.1).0)

pub write_yes :
    (n : ℕ) (l : Lengths) (room : ℕ) (sound : Bool) (g : Graph) → SiteGood n l true sound → image_length g ≤ room →
    write_refusal n l room sound g ≡ 0
write_yes n l room sound g s h =
    site_yes n l true sound (ask 9 (holds_image g room) 0) s ∙ ask_yes 9 (holds_image g room) 0 (true_holds_image g room h)

pub sheet_zero :
    (n : ℕ) (l : Lengths) (room : ℕ) (sound : Bool) → sheet_refusal n l room sound ≡ 0 → SiteGood n l true sound × (sheet_length n ≤ room)
sheet_zero n l room sound p =
    let q = site_zero n l true sound (ask 12 (holds_sheet n room) 0) p in
    (q.0, holds_sheet_true n room (ask_zero 11 (holds_sheet n room) 0 q.1).0)

pub sheet_yes :
    (n : ℕ) (l : Lengths) (room : ℕ) (sound : Bool) → SiteGood n l true sound → sheet_length n ≤ room → sheet_refusal n l room sound ≡ 0
sheet_yes n l room sound s h =
    site_yes n l true sound (ask 12 (holds_sheet n room) 0) s ∙ ask_yes 12 (holds_sheet n room) 0 (true_holds_sheet n room h)

pub read_zero :
    (n : ℕ) (l : Lengths) (bs : List ℕ) → read_refusal n l bs ≡ 0 →
    LentGood n l true × BlocksGood bs × (is_image n bs ≡ true)
unfolding read_refusal
read_zero n l bs p =
    let q = lent_zero n l true (image_refusal n bs) p in
    let r = image_zero n bs q.1 in (q.0, r.0, r.1)

pub read_yes :
    (n : ℕ) (l : Lengths) (bs : List ℕ) → LentGood n l true → BlocksGood bs → is_image n bs ≡ true →
    read_refusal n l bs ≡ 0
unfolding read_refusal
read_yes n l bs g s p = lent_yes n l true (image_refusal n bs) g ∙ image_yes n bs g.most s p

-- a chain that stops at 1 to 3 does not ask further
pub site_stops : (n : ℕ) (l : Lengths) (others sound : Bool) (later : ℕ) → (site_refusal n l others sound 0 ≡ 0 → ⊥)
    → site_refusal n l others sound later ≡ site_refusal n l others sound 0
unfolding site_refusal lent_refusal ask
site_stops n l others sound later h = go (size_good n) (site_lengths n l && others) sound h
  where
    go : (a b c : Bool) → (ask 1 a (ask 2 b (ask 3 c 0)) ≡ 0 → ⊥) → ask 1 a (ask 2 b (ask 3 c later)) ≡ ask 1 a (ask 2 b (ask 3 c 0))
    go true true true k = absurd (k refl)
    go true true false k = refl
    go true false c k = refl
    go false b c k = refl
