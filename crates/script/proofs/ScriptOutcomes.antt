-- The calls for a site's script meet their contracts, on plain values: refused by 1 to 3, the length, refused by 13, the script in front
-- of the buffer. What is put are the links that the rows mark, which are the graph's.
use Rattle.std.specs.Prelude.{◌≡◌, ◌++◌, ◌+◌, ◌≤◌, ◌<◌}
use Rattle.lists.specs.{Kit.{sym, ap, ◌∙◌, true, List, ℕ, arith, length, drop}, Lists.{overwrite}}
use Rattle.mesh.{specs.Limits.{max_neighbours}, specs.Graph.{Graph, graph}, specs.Tables.{Tables, graph_in}, specs.Sound.{sound}}
use Rattle.mesh.{proofs.Images.Tables.{valid_graph_in}}
use Rattle.text.{specs.Print.{Buffer, buffer_at, max_place, put, Puts}, proofs.PrintLaws.{put_fits}}
use Rattle.calls.{specs.Script.{script_of, script_length}, specs.Questions.{ask, lengths_of, site_refusal}}
use Rattle.calls.{specs.CallContracts.{ScriptLengthContract, ScriptContract}, specs.Outcomes.{value, script_length_outcome, script_outcome}}
use Rattle.calls.{proofs.ContractLaws.{value_refused, value_answered, listing_refused, listing_answered}, proofs.ChainLaws.{SiteGood, site_zero, site_stops}}
use Rattle.calls.{proofs.ScriptLaws.{script_yes, script_no, script_most}}
use Rattle.soundness.proofs.SoundSite.{SoundSite, site_good_sound}
use Rattle.rows.{specs.Links.{links_from, RowsListed}, proofs.GraphLinks.{rows_listed_few, links_graph_in}}
use Rattle.script.specs.Longest.{longest_script}
use Rattle.calls.specs.{Chains.{script_refusal, holds_script}}

module _ (n : ℕ) (t : Tables) where
  abbrev questions : ℕ
  questions = site_refusal n (lengths_of t) true (sound n t) 0

  abbrev g : Graph
  g = graph_in n t.links

  -- the graph of the links that the rows mark
  abbrev marks : Graph
  marks = graph n (links_from n t.links 0 0)

  abbrev refusal : (w : List ℕ) → ℕ
  refusal w = script_refusal n (lengths_of t) (length w) (sound n t) g

  pub length_refused : (q : ℕ) → q ≡ questions → (q ≡ 0 → ⊥) → ScriptLengthContract n t (value q 0)
  unfolding ScriptLengthContract script_length_outcome sound
  length_refused q e h = value_refused _ _ q e h

  pub write_refused : (w : List ℕ) (q : ℕ) → q ≡ questions → (q ≡ 0 → ⊥) → ScriptContract n t w (value q 0) w
  unfolding ScriptContract script_outcome sound
  write_refused w q e h =
      listing_refused (refusal w) _ _ w q
      (e ∙ sym (site_stops n (lengths_of t) true (sound n t) (ask 13 (holds_script g (length w)) 0) (λ z. h (e ∙ z)))) h

  module _ (none : questions ≡ 0) where
    passed : SiteGood n (lengths_of t) true (sound n t)
    passed = (site_zero n (lengths_of t) true (sound n t) 0 none).0

    site : SoundSite n t
    site = site_good_sound n t true passed

    pub rows_good : RowsListed n t.links max_neighbours
    rows_good = rows_listed_few n t.links site.small site.links_long max_neighbours site.few

    marks_all : marks ≡ g
    unfolding graph_in
    marks_all = ap (graph n) (links_graph_in n t.links site.small site.links_long site.within)

    pub script_short : script_length marks ≤ longest_script
    unfolding sound graph_in
    script_short =
        omega (
          arith,
          ap script_length marks_all,
          script_most g t.order site.small (valid_graph_in max_neighbours n t site.small passed.is_sound),
        )

    module _ (size : ℕ) (sized : size ≡ script_length marks) where
      size_is : size ≡ script_length g
      size_is = sized ∙ ap script_length marks_all

      pub length_answered : ScriptLengthContract n t (value 0 size)
      unfolding ScriptLengthContract script_length_outcome sound
      length_answered = value_answered _ _ size none size_is

      module _ (w : List ℕ) where
        pub write_no_room : length w < size → ScriptContract n t w (value 13 0) w
        unfolding ScriptContract script_outcome sound
        write_no_room h =
            listing_refused (refusal w) _ _ w 13 (sym (script_no n (lengths_of t) (length w) (sound n t) g passed (omega (arith, size_is))))
            (λ z. omega (arith, z))

        pub write_accepted : (x : List ℕ) (r : ℕ) → size ≤ length w → length w ≤ max_place → Puts (buffer_at w 0) (script_of marks) (buffer_at x r)
            → ScriptContract n t w (value 0 size) x
        unfolding ScriptContract script_outcome sound script_length overwrite
        write_accepted x r room short p =
            let text = script_of g in
            let all : 0 + length text ≡ length text = omega arith in
            let front : x ≡ overwrite text w =
            ap (λ (b : Buffer). b.bytes) p.is ∙ ap (λ (h : Graph). (put (buffer_at w 0) (script_of h)).bytes) marks_all
            ∙ ap (λ (b : Buffer). b.bytes) (put_fits w 0 text (omega (arith, size_is)) short)
            ∙ ap (λ (k : ℕ). text ++ drop k w) all in
            listing_answered (refusal w) _ _ w size x (script_yes n (lengths_of t) (length w) (sound n t) g passed (omega (arith, size_is))) size_is front
