-- A mark put into its place: zeros, the name in front, then the image in front of the rest.
--   placed       so the place is the mark of the name and the tables
--   placed_at    put into place i of a store
use Rattle.std.specs.Prelude.{◌≡◌, ◌++◌, ◌+◌, ◌*◌, ◌-◌, ◌≤◌}
use Rattle.lists.{specs.Kit.{ap, ap₂, ◌∙◌, List, [], append-nil, ℕ, arith, length, take, drop, replicate}}
use Rattle.lists.{specs.Kit.{length-drop, length-replicate, drop_of_length-le, take_at, drop_at, drop-drop, take_all}, specs.Lists.{overwrite}}
use Rattle.lists.{proofs.Parts.{drop_replicate}}
use borrow.Rule.Slice.PartMut.{put_mid}
use Rattle.mesh.{specs.Tables.{Tables, graph_in}, specs.Sound.{sound}, specs.Image.{image_of}, specs.Marks.{name_bytes, place_bytes, place_of}}
use Rattle.mesh.{proofs.Marks.Laws.{length_name}}
use Rattle.calls.{specs.Questions.{lengths_of}, specs.Outcomes.{Listing, listing_outcome, write_outcome}, specs.CallContracts.{WriteContract}}
use Rattle.calls.{specs.declared.Value.{Value}, proofs.ContractLaws.{by_zero}}
use Rattle.marks.specs.Placing.{Markable, mark_place, put_place}
use Rattle.calls.specs.Chains.{write_refusal}

module _ (n : ℕ) (t : Tables) (x : List ℕ) (k : Markable n t x) (len : ℕ) (long : len ≡ place_bytes) (z y : List ℕ) (zeros : z ≡ replicate len 0)
    (named : y ≡ overwrite (take (length z) x) z) where
  -- the name, then zeros
  name_then : y ≡ x ++ replicate (len - name_bytes) 0
  unfolding overwrite
  name_then =
      let m = length_name x k.name in
      let l : length z ≡ len = ap length zeros ∙ length-replicate len 0 in
      let e : take (length z) x ≡ x = take_all (length z) x (omega arith) in
      named ∙ ap (λ (xs : List ℕ). xs ++ drop (length xs) z) e
      ∙ ap₂ {C = List ℕ} (λ j zs. x ++ drop j zs) m zeros ∙ ap (λ (zs : List ℕ). x ++ zs) (drop_replicate name_bytes len 0)

  rest_zeros : take (length y - name_bytes) (drop name_bytes y) ≡ replicate (len - name_bytes) 0
  rest_zeros =
      take_all (length y - name_bytes) (drop name_bytes y) (omega (arith, length-drop name_bytes y))
      ∙ ap (drop name_bytes) name_then ∙ drop_at x (replicate (len - name_bytes) 0) name_bytes (length_name x k.name)

  module _ (r : Value) (w : List ℕ) (written : WriteContract n t (take (length y - name_bytes) (drop name_bytes y)) r w) where
    abbrev image : List ℕ
    image = image_of (graph_in n t.links) t.order

    accepted : w ≡ image ++ replicate (place_bytes - (name_bytes + length image)) 0
    unfolding WriteContract write_outcome listing_outcome sound overwrite
    accepted =
        let part = take (length y - name_bytes) (drop name_bytes y) in
        let e : length part ≡ place_bytes - name_bytes = ap length rest_zeros ∙ length-replicate (len - name_bytes) 0 ∙ ap (λ (j : ℕ). j - name_bytes) long in
        let z : write_refusal n (lengths_of t) (length part) (sound n t) (graph_in n t.links) ≡ 0 =
        ap (λ (j : ℕ). write_refusal n (lengths_of t) j (sound n t) (graph_in n t.links)) e ∙ k.writable in
        let a = by_zero _ _ _ z written in
        let f : len - name_bytes - length image ≡ place_bytes - (name_bytes + length image) = omega arith in
        ap (λ (o : Listing Value (List ℕ)). o.lent) a ∙ ap (λ (zs : List ℕ). image ++ drop (length image) zs) rest_zeros
        ∙ ap (λ (zs : List ℕ). image ++ zs) (drop_replicate (length image) (len - name_bytes) 0 ∙ ap (λ (j : ℕ). replicate j 0) f)

    pub placed : put_mid name_bytes (length y - name_bytes) y w ≡ mark_place n t x
    unfolding mark_place place_of
    placed =
        let none : drop (length y - name_bytes) (drop name_bytes y) ≡ [] =
        let l : length (drop name_bytes y) ≤ length y - name_bytes = omega (arith, length-drop name_bytes y) in drop_of_length-le (drop name_bytes y) l in
        ap₂ {C = List ℕ} (λ xs ys. xs ++ (w ++ ys))
        (ap (take name_bytes) name_then ∙ take_at x (replicate (len - name_bytes) 0) name_bytes (length_name x k.name)) none
        ∙ ap (λ (ys : List ℕ). x ++ ys) (append-nil w ∙ accepted)

-- a place of the store
pub placed_at : (bs : List ℕ) (i : ℕ) (w p : List ℕ) → w ≡ p → put_mid (place_bytes * i) (place_bytes * i + place_bytes - place_bytes * i) bs w ≡ put_place bs i
    p
unfolding put_place
placed_at bs i w p e =
    let f : place_bytes * i + (place_bytes * i + place_bytes - place_bytes * i) ≡ place_bytes * i + place_bytes = omega arith in
    ap₂ {C = List ℕ} (λ ys zs. take (place_bytes * i) bs ++ (ys ++ zs)) e
    (drop-drop (place_bytes * i + place_bytes - place_bytes * i) (place_bytes * i) bs ∙ ap (λ (j : ℕ). drop j bs) f)
