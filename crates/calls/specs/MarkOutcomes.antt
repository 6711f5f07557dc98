-- The outcome of each call on named marks (W-211) as an executable definition. The contract of a call (CallContracts.antt) is that its
-- result and lent tables are this outcome. Definitions only.
use Rattle.lists.specs.Kit.{List, ℕ}
use Rattle.mesh.specs.{Tables.{Tables, tables_of, graph_in}, Sound.{sound}, Image.{image_of, image_graph, image_order}, Marks.{place_of, marks_in}}
use Rattle.mesh.specs.Marks.{store_of, with_mark, without_mark}
use Rattle.calls.specs.{Questions.{by_number, lengths_of}, Marks.{set_refusal, named_refusal, mark_image}, Outcomes.{Tabled}}
use Rattle.calls.specs.{Outcomes.{tabled, Listing, listing}}

-- the store `new`, or the refusal
unfoldable pub store_outcome : (refusal : ℕ) → (new old : List ℕ) → Listing ℕ (List ℕ)
store_outcome R new old = by_number R (listing 0 new) (λ q. listing q old)

-- the mark is the image of the tables
unfoldable pub set_outcome : (n : ℕ) → (name : List ℕ) → Tables → (store : List ℕ) → Listing ℕ (List ℕ)
set_outcome n x t bs =
    let mark = place_of x (image_of (graph_in n t.links) t.order) in
    store_outcome (set_refusal n (lengths_of t) (sound n t) x bs) (store_of (with_mark mark (marks_in bs))) bs

unfoldable pub remove_outcome : (n : ℕ) → (name : List ℕ) → Tables → (store : List ℕ) → Listing ℕ (List ℕ)
remove_outcome n x t bs = store_outcome (named_refusal n (lengths_of t) (sound n t) x bs) (store_of (without_mark x (marks_in bs))) bs

-- the number and the tables of the mark's image
unfoldable pub return_outcome : (n : ℕ) → (name store : List ℕ) → Tables → Tabled ℕ
return_outcome n x bs t =
    let image = mark_image n x bs in
    by_number (named_refusal n (lengths_of t) (sound n t) x bs) (tabled 0 (tables_of (image_graph n image) (image_order n image))) (λ q. tabled q t)
