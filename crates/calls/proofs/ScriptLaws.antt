-- Laws of the script that rebuilds a site (document 02, W-203).
--   script_zero, script_yes   the chain of writing it
--   script_most           a site's script has at most 112,651 bytes
--   script_right          what is written is the script, and later bytes keep their content
--   script_beforehand     the length beforehand is the length written, and 13 compares with it
-- That playing it rebuilds the site is in proofs/Rebuilt.antt, and over the replay language in crate playback.
use Rattle.std.specs.Prelude.{◌≡◌, ◌∷◌, ◌++◌, ◌*◌, ◌≤◌, ◌<◌}
use Rattle.lists.{specs.Kit.{refl, ◌∙◌, inl, inr, Bool, true, List, [], flat_map, ℕ, arith, length, length-append, leb-true}}
use Rattle.lists.{specs.Kit.{le-leb, lt-leb}, proofs.Overwrite.{take_overwrite, drop_overwrite}}
use Rattle.mesh.{specs.Limits.{max_radios, max_neighbours}, specs.Graph.{Link, Graph, InLinks}, specs.Tables.{Tables, graph_in}, specs.Sound.{sound}}
use Rattle.mesh.{specs.Valid.{Valid}, proofs.GraphLaws.{proper_of}, proofs.Tables.AscendingLinks.{in_links_proper}, proofs.Tables.DegreeSum.{links_most}}
use Rattle.text.{specs.Text.{decimal, further_fields, printed_line}, proofs.DecimalLaws.{length_decimal_le}}
use Rattle.calls.specs.{Script.{radios_text, up_line, script_of, script_length}, Questions.{ask, Lengths, lengths_of}}
use Rattle.calls.specs.{Outcomes.{listing_outcome, script_length_outcome, script_outcome}}
use Rattle.calls.specs.{Results.{ScriptRight, ScriptBeforehand}}
use Rattle.calls.proofs.{QuestionLaws.{ask_yes, ask_no, ask_zero}, ChainLaws.{SiteGood, site_zero, site_yes}, Accepted.{value_is, listing_is}}
use Rattle.calls.specs.Chains.{script_length_refusal, script_refusal}
use Rattle.calls.specs.Questions.{by_number}
use Rattle.calls.specs.Chains.{holds_script}

-- ---- the chain: 1 to 3 and 13

pub script_zero :
    (n : ℕ) (l : Lengths) (room : ℕ) (sound : Bool) (g : Graph) → script_refusal n l room sound g ≡ 0 →
    SiteGood n l true sound × (script_length g ≤ room)
script_zero n l room sound g p =
    let q = site_zero n l true sound (ask 13 (holds_script g room) 0) p in
    (q.0, leb-true (script_length g) room (ask_zero 12 (holds_script g room) 0 q.1).0)

pub script_yes :
    (n : ℕ) (l : Lengths) (room : ℕ) (sound : Bool) (g : Graph) → SiteGood n l true sound → script_length g ≤ room →
    script_refusal n l room sound g ≡ 0
script_yes n l room sound g s h =
    site_yes n l true sound (ask 13 (holds_script g room) 0) s ∙ ask_yes 13 (holds_script g room) 0 (le-leb (script_length g) room h)

pub script_no :
    (n : ℕ) (l : Lengths) (room : ℕ) (sound : Bool) (g : Graph) → SiteGood n l true sound → room < script_length g →
    script_refusal n l room sound g ≡ 13
script_no n l room sound g s h =
    site_yes n l true sound (ask 13 (holds_script g room) 0) s ∙ ask_no 13 (holds_script g room) 0 (lt-leb (script_length g) room h)

-- ---- its length

length_radios : (n : ℕ) → n < 1000 → length (radios_text n) ≤ 11
unfolding printed_line further_fields
length_radios n h = omega (arith, length-append (decimal n) (10 ∷ []), length_decimal_le 2 n (omega arith))

length_up_line : (l : Link) → l.low < 1000 → l.high < 1000 → length (up_line l) ≤ 11
unfolding up_line printed_line further_fields
length_up_line l h k =
    omega (
      arith,
      length-append (decimal l.low) (32 ∷ (decimal l.high ++ (10 ∷ []))),
      length-append (decimal l.high) (10 ∷ []),
      length_decimal_le 2 l.low (omega arith),
      length_decimal_le 2 l.high (omega arith),
    )

length_ups : (ls : List Link) → ((l : Link) → InLinks l ls → (l.low < 1000) × (l.high < 1000)) → length (flat_map up_line ls) ≤ 11 * length ls
unfolding flat_map
length_ups [] h = omega arith
length_ups (l ∷ ls) h =
    omega (
      arith,
      length-append (up_line l) (flat_map up_line ls),
      length_up_line l (h l (inl refl)).0 (h l (inl refl)).1,
      length_ups ls (λ m i. h m (inr i)),
    )

pub script_most : (g : Graph) (xs : List ℕ) → g.n ≤ max_radios → Valid max_neighbours g xs → script_length g ≤ 112651
unfolding script_length script_of
script_most g xs small v =
    let ends : (l : Link) → InLinks l g.links → (l.low < 1000) × (l.high < 1000) =
    λ l i. let p = in_links_proper g.n g.links l (proper_of g.n g.links v.links_proper) i in (omega arith, omega arith) in
    omega (
      arith,
      length-append (radios_text g.n) (flat_map up_line g.links),
      length_radios g.n (omega arith),
      length_ups g.links ends,
      links_most g xs small v,
    )

-- ---- an accepted call

pub script_right :
    (n : ℕ) (t : Tables) (w : List ℕ) → let o = script_outcome n t w in o.reply.number ≡ 0 → ScriptRight n t o.reply.value w o.lent
unfolding script_outcome script_length sound
script_right n t w z =
    let g = graph_in n t.links in
    let new = script_of g in
    let c = listing_is (script_refusal n (lengths_of t) (length w) (sound n t) g) (length new) new w z in
    rw c.1 (record { long = refl; text = take_overwrite new w; later_bytes = drop_overwrite new w })

pub script_beforehand :
    (n : ℕ) (t : Tables) (w : List ℕ) → let s = script_length_outcome n t in let o = script_outcome n t w in
    s.number ≡ 0 → ScriptBeforehand s.value (length w) o.reply.number o.reply.value
unfolding script_length_outcome script_outcome listing_outcome by_number sound
script_beforehand n t w z =
    let g = graph_in n t.links in
    let c = value_is (script_length_refusal n (lengths_of t) (sound n t)) (script_length g) z in
    let good = (site_zero n (lengths_of t) true (sound n t) 0 c.0).0 in
    rw c.1 (record {
      written = λ h. rw (script_yes n (lengths_of t) (length w) (sound n t) g good h) (refl, refl);
      refused = λ h. rw (script_no n (lengths_of t) (length w) (sound n t) g good h) (refl, refl);
    })
