-- Chains of questions as the code puts them: questions 1 to 3 first, then the later ones. q is the number so far.
use Rattle.std.specs.Prelude.{◌≡◌, ◌&&◌, ◌≤◌, ◌<◌}
use Rattle.lists.specs.Kit.{sym, ◌∙◌, Bool, true, false, ℕ, arith, leb, get_or, lt-leb}
use Rattle.mesh.specs.{Graph.{Graph}, Cores.{number}, Tables.{Tables, graph_in}, Sound.{sound}}
use Rattle.calls.{specs.Questions.{ask, Lengths, lengths_of, answer_length, is_radio, are_radios, has_level, site_refusal, radio_refusal, pair_refusal}}
use Rattle.calls.{proofs.QuestionLaws.{ask_yes, ask_no, true_is_radio}, proofs.ChainLaws.{site_zero, site_yes}}
use Rattle.calls.{proofs.ChainLaws.{radio_zero, pair_yes, core_yes}}
use Rattle.soundness.proofs.{SoundSite.{SoundSite, site_good_sound, number_entry}, RadioLaws.{site_later_no, site_later_yes, not_radio}}
use Rattle.calls.specs.Chains.{core_refusal, level_refusal}

-- ---- 4: two radios

module _ (n a b : ℕ) (l : Lengths) (sound : Bool) (q : ℕ) (asked : q ≡ radio_refusal n a l sound) where
  pub pair_no : (q ≡ 0 → ⊥) → q ≡ pair_refusal n a b l sound
  unfolding radio_refusal pair_refusal are_radios ask
  pair_no h = go (is_radio n a) asked
    where
      go : (t : Bool) → q ≡ site_refusal n l true sound (ask 4 t 0) → q ≡ site_refusal n l true sound (ask 4 (t && is_radio n b) 0)
      go true e = site_later_no n l true sound q e (ask 4 (is_radio n b) 0) h
      go false e = e

  pub pair_four : q ≡ 0 → n ≤ b → 4 ≡ pair_refusal n a b l sound
  unfolding pair_refusal are_radios
  pair_four e h =
      let r = radio_zero n a l sound (sym asked ∙ e) in
      let no : (is_radio n a && is_radio n b) ≡ false = rw (true_is_radio n a r.1, not_radio n b h) in
      sym (site_yes n l true sound (ask 4 (is_radio n a && is_radio n b) 0) r.0 ∙ ask_no 4 (is_radio n a && is_radio n b) 0 no)

  pub pair_none : q ≡ 0 → b < n → 0 ≡ pair_refusal n a b l sound
  pair_none e h =
      let r = radio_zero n a l sound (sym asked ∙ e) in sym (pair_yes n a b l sound r.0 r.1 h)

-- ---- 4 and 8

module _ (n v k w : ℕ) (t : Tables) (q : ℕ) (asked : q ≡ site_refusal n (lengths_of t) (leb n w) (sound n t) 0) where
  abbrev g : Graph
  g = graph_in n t.links

  pub core_no : (q ≡ 0 → ⊥) → q ≡ core_refusal n v k (lengths_of t) w (sound n t) g
  unfolding answer_length
  core_no h = site_later_no n (lengths_of t) (leb n w) (sound n t) q asked (level_refusal n v k g) h

  pub core_four : q ≡ 0 → n ≤ v → 4 ≡ core_refusal n v k (lengths_of t) w (sound n t) g
  unfolding answer_length
  core_four e h = sym (site_later_yes n (lengths_of t) (leb n w) (sound n t) q asked _ e ∙ ask_no 4 (is_radio n v) (ask 8 (has_level g v k) 0)
      (not_radio n v h))

  -- the tables, once 1 to 3 got yes
  pub core_site : q ≡ 0 → SoundSite n t
  core_site e = site_good_sound n t (leb n w) (site_zero n (lengths_of t) (leb n w) (sound n t) 0 (sym asked ∙ e)).0

  pub core_eight : q ≡ 0 → v < n → get_or t.numbers v 0 < k → 8 ≡ core_refusal n v k (lengths_of t) w (sound n t) g
  unfolding answer_length has_level
  core_eight e l h =
      sym (site_later_yes n (lengths_of t) (leb n w) (sound n t) q asked _ e
      ∙ ask_yes 4 (is_radio n v) (ask 8 (leb k (number g v)) 0) (true_is_radio n v l)
      ∙ ask_no 8 (leb k (number g v)) 0 (lt-leb k (number g v) (omega (arith, number_entry n t (core_site e) v l))))

  pub core_none : q ≡ 0 → v < n → k ≤ get_or t.numbers v 0 → 0 ≡ core_refusal n v k (lengths_of t) w (sound n t) g
  unfolding answer_length
  core_none e l h =
      sym (core_yes n v k (lengths_of t) w (sound n t) g (site_zero n (lengths_of t) (leb n w) (sound n t) 0 (sym asked ∙ e)).0 l
      (omega (arith, number_entry n t (core_site e) v l)))
