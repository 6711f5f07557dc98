-- Document 02, W-208: tables and images from before the limit on neighbours was raised, when it was `former_neighbours`.
--   WasSound                formerly sound
--   former_read_refusal      reading's questions then
--   former_read_outcome      what reading gave then
--   Older                    what calls give of them: what they gave then, but that a link-up call refused by 7 is taken
-- That it holds is `older` in proofs/Older.antt. Clearing and the block reader do not ask for the limit. Definitions only.
use Rattle.std.specs.Prelude.{◌≡◌, ◌≤◌}
use Rattle.lists.specs.Kit.{Bool, true, List, ℕ}
use Rattle.mesh.specs.{Limits.{max_radios, former_neighbours, size_good}, Tables.{Tables, graph_in, tables_of}, Sound.{sound_within, sound}}
use Rattle.mesh.specs.{Image.{image_of, image_graph, image_order, is_image_within, is_image}}
use Rattle.calls.specs.{Questions.{ask, by_number, Lengths, lengths_of, lent_refusal, blocks_refusal}, Outcomes.{Tabled, tabled, read_outcome}}
use Rattle.calls.specs.{Outcomes.{link_outcome_within, link_outcome}}

-- the conditions of soundness, with the former limit
abbrev pub WasSound : (n : ℕ) → Tables → Type 0
WasSound n t = sound_within former_neighbours n t ≡ true

-- the former limit, and 11 for every image that is not one of n radios: 15 is document 02's, W-207
unfoldable pub former_read_refusal : (n : ℕ) → Lengths → (image : List ℕ) → ℕ
former_read_refusal n l bs = lent_refusal n l true (blocks_refusal bs (ask 11 (is_image_within former_neighbours n bs) 0))

unfoldable pub former_read_outcome : (n : ℕ) → (image : List ℕ) → Tables → Tabled ℕ
former_read_outcome n bs t =
    by_number (former_read_refusal n (lengths_of t) bs) (tabled 0 (tables_of (image_graph n bs) (image_order n bs))) (λ q. tabled q t)

pub record Older : Type 0 where
  -- accepted then, or refused by another question than 7: as it was, result and every lent table
  pub link :
      (up : Bool) (n a b : ℕ) (t : Tables) (w : List ℕ) → WasSound n t →
      ((link_outcome_within former_neighbours up n a b t w).reply.number ≡ 7 → ⊥) →
      link_outcome up n a b t w ≡ link_outcome_within former_neighbours up n a b t w
  -- refused by 7 then: taken
  pub seven :
      (up : Bool) (n a b : ℕ) (t : Tables) (w : List ℕ) → WasSound n t →
      (link_outcome_within former_neighbours up n a b t w).reply.number ≡ 7 → (link_outcome up n a b t w).reply.number ≡ 0
  -- calls that only read: question 3 gets yes as it did then, and so does the check; nothing else of these outcomes goes by the limit
  pub reads : (n : ℕ) (t : Tables) → WasSound n t → sound n t ≡ true
  -- an older image: what was written of formerly sound tables
  pub image_written :
      (n : ℕ) (t : Tables) → n ≤ max_radios → WasSound n t →
      is_image_within former_neighbours n (image_of (graph_in n t.links) t.order) ≡ true
  -- it is an image
  pub image : (n : ℕ) (bs : List ℕ) → is_image_within former_neighbours n bs ≡ true → is_image n bs ≡ true
  -- and reads as it did: accepted then, or refused by another question than 11
  pub image_read :
      (n : ℕ) (bs : List ℕ) (t : Tables) → ((former_read_outcome n bs t).reply ≡ 11 → ⊥) →
      read_outcome n bs t ≡ former_read_outcome n bs t
  -- one with another n, refused by 11 then, is refused by 15
  pub image_other_size :
      (m n : ℕ) (bs : List ℕ) (t : Tables) → size_good m ≡ true → (m ≡ n → ⊥) → is_image_within former_neighbours m bs ≡ true →
      (former_read_outcome n bs t).reply ≡ 11 → read_outcome n bs t ≡ tabled 15 t
