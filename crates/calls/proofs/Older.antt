-- Calls on tables and images from before the limit on neighbours was raised.
--   older_call     a link call on formerly sound tables: accepted then, the same now; refused by 7 then, taken now
--   older_read     an image that was read is read as it was
--   older_other    an older image with another n gets 15, where it got 11
--   older          all calls
-- In order: a chain whose last question gets another answer, link calls, images, calls that only read.
use Rattle.std.specs.Prelude.{◌≡◌}
use Rattle.lists.specs.Kit.{refl, sym, ◌∙◌, Bool, true, false, not, List, ℕ, arith, length}
use Rattle.mesh.{specs.Limits.{max_neighbours, former_neighbours}, specs.Graph.{Graph}, specs.Tables.{Tables, graph_in}, specs.Sound.{sound}}
use Rattle.mesh.{specs.Image.{other_size, is_image_within, is_image}, proofs.Tables.Older.{sound_within_more, older_image}}
use Rattle.mesh.{proofs.Images.Tables.{valid_graph_in, is_image_within_sound, is_image_tables}, proofs.Images.OtherSize.{other_size_iff, is_image_not_other}}
use Rattle.calls.specs.{Questions.{ask, Lengths, lengths_of, size_good, are_radios, has_room, lent_refusal, site_refusal, ends_refusal}}
use Rattle.calls.specs.{Questions.{by_number, link_refusal_within, blocks_refusal, image_refusal, read_refusal}, Outcomes.{Tabled}}
use Rattle.calls.specs.{Outcomes.{tabled, Linked, read_outcome, link_outcome_within, link_outcome}, Older.{WasSound}}
use Rattle.calls.specs.{Older.{former_read_refusal, former_read_outcome, Older}}
use Rattle.calls.proofs.{ContractLaws.{number_by}, QuestionLaws.{size_good_true, are_radios_true, has_room_true, true_has_room}}
use Rattle.calls.specs.declared.Reply.{Reply}
use Rattle.calls.specs.Chains.{source_refusal}

-- ---- a chain whose last question gets another answer

-- chains x and y agree unless x gives z: so they do after a question more
ask_unless : (q : ℕ) (answer : Bool) (z x y : ℕ) → (answer ≡ true → (x ≡ z → ⊥) → y ≡ x) → (ask q answer x ≡ z → ⊥) → ask q answer y ≡ ask q answer x
unfolding ask
ask_unless q true z x y f h = f refl h
ask_unless q false z x y f h = refl

ask_last : (z : ℕ) (then now : Bool) → (then ≡ true → now ≡ true) → (ask z then 0 ≡ z → ⊥) → ask z now 0 ≡ ask z then 0
unfolding ask
ask_last z true now f h = rw (f refl)
ask_last z false now f h = absurd (h refl)

-- a chain that gives another number than q got yes from question q
ask_passed : (q : ℕ) (answer : Bool) (z x : ℕ) → (q ≡ z → ⊥) → ask q answer x ≡ z → (answer ≡ true) × (x ≡ z)
unfolding ask
ask_passed q true z x f e = (refl, e)
ask_passed q false z x f e = absurd (f e)

now_sound : (n : ℕ) (t : Tables) → WasSound n t → sound n t ≡ true
unfolding sound
now_sound n t h = sound_within_more former_neighbours max_neighbours n t (omega arith) h

-- ---- link calls

all_yes : ask 1 true (ask 2 true (ask 3 true (ask 4 true (ask 5 true (ask 6 true (ask 7 true 0)))))) ≡ 0
unfolding ask
all_yes = refl

module _ (up : Bool) (n a b : ℕ) (t : Tables) (w : List ℕ) (were : WasSound n t) where
  abbrev g : Graph
  g = graph_in n t.links

  -- the chain, where 3 gets yes
  abbrev asked : (most : ℕ) → ℕ
  asked most = link_refusal_within most up n a b (lengths_of t) (length w) true g

  room_more : has_room former_neighbours up g a b ≡ true → has_room max_neighbours up g a b ≡ true
  room_more h =
      true_has_room max_neighbours up g a b
      (λ e. let r = has_room_true former_neighbours up g a b h e in (omega (arith, r.0), omega (arith, r.1)))

  same_unless_seven : (asked former_neighbours ≡ 7 → ⊥) → asked max_neighbours ≡ asked former_neighbours
  unfolding site_refusal lent_refusal ends_refusal
  same_unless_seven =
      ask_unless 1 _ 7 _ _ (λ e1. ask_unless 2 _ 7 _ _ (λ e2. ask_unless 3 _ 7 _ _ (λ e3. ask_unless 4 _ 7 _ _ (λ e4.
      ask_unless 5 _ 7 _ _ (λ e5. ask_unless 6 _ 7 _ _ (λ e6. ask_last 7 _ _ room_more))))))

  -- formerly sound tables have fewer neighbours than the limit is now
  seven_taken : asked former_neighbours ≡ 7 → asked max_neighbours ≡ 0
  unfolding site_refusal lent_refusal ends_refusal graph_in
  seven_taken e =
      let one = ask_passed 1 (size_good n) 7 _ (λ z. omega arith) e in
      let two = ask_passed 2 _ 7 _ (λ z. omega arith) one.1 in
      let three = ask_passed 3 _ 7 _ (λ z. omega arith) two.1 in
      let four = ask_passed 4 (are_radios n a b) 7 _ (λ z. omega arith) three.1 in
      let five = ask_passed 5 _ 7 _ (λ z. omega arith) four.1 in
      let six = ask_passed 6 _ 7 _ (λ z. omega arith) five.1 in
      let v = valid_graph_in former_neighbours n t (size_good_true n one.0).1 were in
      let ends = are_radios_true n a b four.0 in
      let room : has_room max_neighbours up g a b ≡ true =
      true_has_room max_neighbours up g a b (λ z. (omega (arith, v.degrees a ends.0), omega (arith, v.degrees b ends.1))) in
      rw (one.0, two.0, four.0, five.0, six.0, room) all_yes

  number_then : (link_outcome_within former_neighbours up n a b t w).reply.number ≡ asked former_neighbours
  number_then = rw were (number_by (λ (o : Linked Reply). o.reply.number) (asked former_neighbours) _ _ refl (λ q. refl))

  number_now : (link_outcome up n a b t w).reply.number ≡ asked max_neighbours
  unfolding link_outcome sound
  number_now = rw (now_sound n t were) (number_by (λ (o : Linked Reply). o.reply.number) (asked max_neighbours) _ _ refl (λ q. refl))

  pub older_call :
      (((link_outcome_within former_neighbours up n a b t w).reply.number ≡ 7 → ⊥) →
      link_outcome up n a b t w ≡ link_outcome_within former_neighbours up n a b t w)
      × ((link_outcome_within former_neighbours up n a b t w).reply.number ≡ 7 → (link_outcome up n a b t w).reply.number ≡ 0)
  unfolding link_outcome sound
  older_call = (
    λ h. rw (were, now_sound n t were, same_unless_seven (λ e. h (number_then ∙ e))),
    λ e. number_now ∙ seven_taken (sym number_then ∙ e),
  )

-- ---- images

-- 15 gets yes: an image of n radios is of no other size
same_last :
    (n : ℕ) (bs : List ℕ) → size_good n ≡ true → (ask 11 (is_image_within former_neighbours n bs) 0 ≡ 11 → ⊥) →
    source_refusal n bs ≡ ask 11 (is_image_within former_neighbours n bs) 0
unfolding ask
same_last n bs s = go (is_image_within former_neighbours n bs) refl
  where
    go : (b : Bool) → is_image_within former_neighbours n bs ≡ b → (ask 11 b 0 ≡ 11 → ⊥) →
        source_refusal n bs ≡ ask 11 b 0
    go true e h = let i = older_image n bs e in rw (is_image_not_other n bs (size_good_true n s).1 i, i)
    go false e h = absurd (h refl)

same_unless_eleven :
    (n : ℕ) (bs : List ℕ) (l : Lengths) → (former_read_refusal n l bs ≡ 11 → ⊥) → read_refusal n l bs ≡ former_read_refusal n l bs
unfolding former_read_refusal read_refusal image_refusal lent_refusal blocks_refusal
same_unless_eleven n bs l =
    ask_unless 1 _ 11 _ _ (λ s. ask_unless 2 _ 11 _ _ (λ e2. ask_unless 9 _ 11 _ _ (λ e9. ask_unless 10 _ 11 _ _ (λ e10. same_last n bs s))))

number_former : (n : ℕ) (bs : List ℕ) (t : Tables) → (former_read_outcome n bs t).reply ≡ former_read_refusal n (lengths_of t) bs
unfolding former_read_outcome
number_former n bs t = number_by (λ (o : Tabled ℕ). o.reply) (former_read_refusal n (lengths_of t) bs) _ _ refl (λ q. refl)

pub older_read :
    (n : ℕ) (bs : List ℕ) (t : Tables) → ((former_read_outcome n bs t).reply ≡ 11 → ⊥) → read_outcome n bs t ≡ former_read_outcome n bs t
unfolding read_outcome former_read_outcome
older_read n bs t h = rw (same_unless_eleven n bs (lengths_of t) (λ e. h (number_former n bs t ∙ e)))

fifteen : (x : ℕ) → ask 1 true (ask 2 true (ask 9 true (ask 10 true (ask 15 (not true) x)))) ≡ 15
unfolding ask
fifteen x = refl

-- 1, 2, 9 and 10 get what they got
fifteen_for_eleven :
    (n : ℕ) (bs : List ℕ) (l : Lengths) → other_size n bs ≡ true → former_read_refusal n l bs ≡ 11 → read_refusal n l bs ≡ 15
unfolding former_read_refusal read_refusal image_refusal lent_refusal blocks_refusal
fifteen_for_eleven n bs l o e =
    let one = ask_passed 1 (size_good n) 11 _ (λ z. omega arith) e in
    let two = ask_passed 2 _ 11 _ (λ z. omega arith) one.1 in
    let nine = ask_passed 9 _ 11 _ (λ z. omega arith) two.1 in
    let ten = ask_passed 10 _ 11 _ (λ z. omega arith) nine.1 in rw (one.0, two.0, nine.0, ten.0, o) (fifteen (ask 11 (is_image n bs) 0))

pub older_other :
    (m n : ℕ) (bs : List ℕ) (t : Tables) → size_good m ≡ true → (m ≡ n → ⊥) → is_image_within former_neighbours m bs ≡ true →
    (former_read_outcome n bs t).reply ≡ 11 → read_outcome n bs t ≡ tabled 15 t
unfolding read_outcome by_number
older_other m n bs t s d i e =
    let small = (size_good_true m s).1 in
    let o = (other_size_iff n bs).1
    (record { another = m; size = s; other = d; of_tables = (is_image_tables m bs small).0 (older_image m bs i) }) in
    rw (fifteen_for_eleven n bs (lengths_of t) o (sym (number_former n bs t) ∙ e))

-- ---- all calls

pub older : Older
older = record {
  link = λ up n a b t w s. (older_call up n a b t w s).0;
  seven = λ up n a b t w s. (older_call up n a b t w s).1;
  reads = now_sound;
  image_written = λ n t l s. is_image_within_sound former_neighbours n t l (omega arith) s;
  image = older_image;
  image_read = older_read;
  image_other_size = older_other;
}
