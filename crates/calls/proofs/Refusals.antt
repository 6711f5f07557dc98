-- Property 1 by the number that the host sees: an outcome whose number is not 0 has zeros beside it, and everything lent is as it was.
-- What a batch keeps is in Batches.antt.
--   ..-keeps          so it is of each call, by `refused_is`
use Rattle.std.specs.Prelude.{◌≡◌}
use Rattle.lists.specs.Kit.{ap, refl, Bool, true, false, List, ℕ, ℤ, pos}
use Rattle.mesh.specs.{Tables.{Tables}, declared.Node.{Node}}
use Rattle.calls.specs.{Outcomes.{Tabled, tabled, Linked, linked_with, Listing, listing}}
use Rattle.calls.specs.{Outcomes.{reply, value, later, clear_outcome, read_outcome, link_outcome, ask_outcome, commit_outcome}}
use Rattle.calls.specs.{Outcomes.{hear_outcome, value_outcome, check_outcome, number_outcome, neighbours_outcome, linked_outcome, first_outcome}}
use Rattle.calls.specs.{Outcomes.{later_outcome, listing_outcome, core_outcome, backbone_outcome, staircase_outcome, write_outcome, sheet_outcome}}
use Rattle.calls.specs.{Outcomes.{script_length_outcome, script_outcome, tree_outcome, no_block, block_or_end, block_outcome}}
use Rattle.calls.specs.{MarkOutcomes.{store_outcome, set_outcome, remove_outcome, return_outcome}, LiftOutcome.{pair, lift_outcome}}
use Rattle.calls.specs.{declared.Value.{Value}, declared.Later.{Later}, declared.Block.{Block}, declared.Pair.{Pair}}
use Rattle.calls.proofs.ContractLaws.{refused_is}
use Rattle.calls.specs.declared.Reply.{Reply}

-- ---- forms that several calls have

pub value_keeps : (R x : ℕ) → let o = value_outcome R x in (o.number ≡ 0 → ⊥) → o ≡ value o.number 0
unfolding value_outcome
value_keeps R x = refused_is (λ (o : Value). o.number) (value_outcome R x) _ _ _ refl (λ q. refl) refl

pub listing_keeps :
    (R x : ℕ) (new old : List ℕ) → let o = listing_outcome R x new old in (o.reply.number ≡ 0 → ⊥) → o ≡ listing (value o.reply.number 0) old
unfolding listing_outcome
listing_keeps R x new old = refused_is (λ (o : Listing Value (List ℕ)). o.reply.number) (listing_outcome R x new old) _ _ _ refl (λ q. refl) refl

pub store_keeps : (R : ℕ) (new old : List ℕ) → let o = store_outcome R new old in (o.reply ≡ 0 → ⊥) → o ≡ listing o.reply old
unfolding store_outcome
store_keeps R new old = refused_is (λ (o : Listing ℕ (List ℕ)). o.reply) (store_outcome R new old) _ _ _ refl (λ q. refl) refl

-- ---- calls that write links, numbers and order

pub clear_keeps : (n : ℕ) (t : Tables) → let o = clear_outcome n t in (o.reply ≡ 0 → ⊥) → o ≡ tabled o.reply t
unfolding clear_outcome
clear_keeps n t = refused_is (λ (o : Tabled ℕ). o.reply) (clear_outcome n t) _ _ _ refl (λ q. refl) refl

pub read_keeps : (n : ℕ) (bs : List ℕ) (t : Tables) → let o = read_outcome n bs t in (o.reply ≡ 0 → ⊥) → o ≡ tabled o.reply t
unfolding read_outcome
read_keeps n bs t = refused_is (λ (o : Tabled ℕ). o.reply) (read_outcome n bs t) _ _ _ refl (λ q. refl) refl

pub return_keeps : (n : ℕ) (x bs : List ℕ) (t : Tables) → let o = return_outcome n x bs t in (o.reply ≡ 0 → ⊥) → o ≡ tabled o.reply t
unfolding return_outcome
return_keeps n x bs t = refused_is (λ (o : Tabled ℕ). o.reply) (return_outcome n x bs t) _ _ _ refl (λ q. refl) refl

pub link_keeps :
    (up : Bool) (n a b : ℕ) (t : Tables) (w : List ℕ) → let o = link_outcome up n a b t w in
    (o.reply.number ≡ 0 → ⊥) → o ≡ linked_with (reply o.reply.number (pos 0) 0) t w
unfolding link_outcome
link_keeps up n a b t w = refused_is (λ (o : Linked Reply). o.reply.number) (link_outcome up n a b t w) _ _ _ refl (λ q. refl) refl

pub commit_keeps :
    (up : Bool) (n a b : ℕ) (z : ℤ) (xs : List ℕ) (t : Tables) → let o = commit_outcome up n a b z xs t in
    (o.reply.number ≡ 0 → ⊥) → o ≡ tabled (reply o.reply.number (pos 0) 0) t
unfolding commit_outcome
commit_keeps up n a b z xs t = refused_is (λ (o : Tabled Reply). o.reply.number) (commit_outcome up n a b z xs t) _ _ _ refl (λ q. refl) refl

pub hear_keeps :
    (n : ℕ) (hs : List ℕ) (t : Tables) (w : List ℕ) → let o = hear_outcome n hs t w in
    (o.reply.number ≡ 0 → ⊥) → o ≡ linked_with (value o.reply.number 0) t w
unfolding hear_outcome
hear_keeps n hs t w = refused_is (λ (o : Linked Value). o.reply.number) (hear_outcome n hs t w) _ _ _ refl (λ q. refl) refl

-- ---- calls that only read them

pub check_keeps : (n : ℕ) (t : Tables) → let o = check_outcome n t in (o.number ≡ 0 → ⊥) → o ≡ value o.number 0
unfolding check_outcome
check_keeps n t = value_keeps _ _

pub number_keeps : (n v : ℕ) (t : Tables) → let o = number_outcome n v t in (o.number ≡ 0 → ⊥) → o ≡ value o.number 0
unfolding number_outcome
number_keeps n v t = value_keeps _ _

pub neighbours_keeps : (n v : ℕ) (t : Tables) → let o = neighbours_outcome n v t in (o.number ≡ 0 → ⊥) → o ≡ value o.number 0
unfolding neighbours_outcome
neighbours_keeps n v t = value_keeps _ _

pub linked_keeps : (n a b : ℕ) (t : Tables) → let o = linked_outcome n a b t in (o.number ≡ 0 → ⊥) → o ≡ value o.number 0
unfolding linked_outcome
linked_keeps n a b t = value_keeps _ _

pub first_keeps : (n a b : ℕ) (t : Tables) → let o = first_outcome n a b t in (o.number ≡ 0 → ⊥) → o ≡ value o.number 0
unfolding first_outcome
first_keeps n a b t = value_keeps _ _

pub later_keeps : (n v : ℕ) (t : Tables) → let o = later_outcome n v t in (o.number ≡ 0 → ⊥) → o ≡ later o.number 0 0
unfolding later_outcome
later_keeps n v t = refused_is (λ (o : Later). o.number) (later_outcome n v t) _ _ _ refl (λ q. refl) refl

pub lift_keeps : (n v : ℕ) (t : Tables) → let o = lift_outcome n v t in (o.number ≡ 0 → ⊥) → o ≡ pair o.number 0 0
unfolding lift_outcome
lift_keeps n v t = refused_is (λ (o : Pair). o.number) (lift_outcome n v t) _ _ _ refl (λ q. refl) refl

pub ask_keeps :
    (up : Bool) (n a b : ℕ) (t : Tables) (w : List ℕ) → let o = ask_outcome up n a b t w in
    (o.reply.number ≡ 0 → ⊥) → o ≡ listing (reply o.reply.number (pos 0) 0) w
unfolding ask_outcome
ask_keeps up n a b t w h = ap (λ (o : Linked Reply). listing o.reply o.lent) (link_keeps up n a b t w h)

pub core_keeps :
    (n v k : ℕ) (t : Tables) (w : List ℕ) → let o = core_outcome n v k t w in (o.reply.number ≡ 0 → ⊥) → o ≡ listing (value o.reply.number 0) w
unfolding core_outcome
core_keeps n v k t w = listing_keeps _ _ _ w

pub backbone_keeps :
    (n : ℕ) (t : Tables) (w : List ℕ) → let o = backbone_outcome n t w in (o.reply.number ≡ 0 → ⊥) → o ≡ listing (value o.reply.number 0) w
unfolding backbone_outcome
backbone_keeps n t w = listing_keeps _ _ _ w

pub staircase_keeps :
    (n : ℕ) (t : Tables) (w : List ℕ) → let o = staircase_outcome n t w in (o.reply.number ≡ 0 → ⊥) → o ≡ listing (value o.reply.number 0) w
unfolding staircase_outcome
staircase_keeps n t w = listing_keeps _ _ _ w

pub write_keeps :
    (n : ℕ) (t : Tables) (w : List ℕ) → let o = write_outcome n t w in (o.reply.number ≡ 0 → ⊥) → o ≡ listing (value o.reply.number 0) w
unfolding write_outcome
write_keeps n t w = listing_keeps _ _ _ w

pub sheet_keeps :
    (n : ℕ) (t : Tables) (w : List ℕ) → let o = sheet_outcome n t w in (o.reply.number ≡ 0 → ⊥) → o ≡ listing (value o.reply.number 0) w
unfolding sheet_outcome
sheet_keeps n t w = listing_keeps _ _ _ w

pub script_length_keeps : (n : ℕ) (t : Tables) → let o = script_length_outcome n t in (o.number ≡ 0 → ⊥) → o ≡ value o.number 0
unfolding script_length_outcome
script_length_keeps n t = value_keeps _ _

pub script_keeps :
    (n : ℕ) (t : Tables) (w : List ℕ) → let o = script_outcome n t w in (o.reply.number ≡ 0 → ⊥) → o ≡ listing (value o.reply.number 0) w
unfolding script_outcome
script_keeps n t w = listing_keeps _ _ _ w

pub tree_keeps :
    (n : ℕ) (t : Tables) (m : List Node) (w : List ℕ) → let o = tree_outcome n t m w in
    (o.reply.number ≡ 0 → ⊥) → o ≡ listing (value o.reply.number 0) (m, w)
unfolding tree_outcome
tree_keeps n t m w = refused_is (λ (o : Listing Value (List Node × List ℕ)). o.reply.number) (tree_outcome n t m w) _ _ _ refl (λ q. refl) refl

pub set_keeps : (n : ℕ) (x : List ℕ) (t : Tables) (bs : List ℕ) → let o = set_outcome n x t bs in (o.reply ≡ 0 → ⊥) → o ≡ listing o.reply bs
unfolding set_outcome
set_keeps n x t bs = store_keeps _ _ bs

pub remove_keeps : (n : ℕ) (x : List ℕ) (t : Tables) (bs : List ℕ) → let o = remove_outcome n x t bs in (o.reply ≡ 0 → ⊥) → o ≡ listing o.reply bs
unfolding remove_outcome
remove_keeps n x t bs = store_keeps _ _ bs

-- ---- a step of the block reader, which keeps its number

given_number : (there : Bool) (i : ℕ) → (block_or_end there i).number ≡ 0
unfolding block_or_end no_block
given_number true i = refl
given_number false i = refl

pub block_keeps : (bs : List ℕ) (i : ℕ) → let o = block_outcome bs i in (o.number ≡ 0 → ⊥) → o ≡ no_block o.number 0 i
unfolding block_outcome no_block
block_keeps bs i = refused_is (λ (o : Block). o.number) (block_outcome bs i) _ _ _ (given_number _ i) (λ q. refl) refl
