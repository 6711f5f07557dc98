-- Chains of questions as the code puts them: questions 1 to 3 first, then the later ones. q is the number so far.
use Rattle.std.specs.Prelude.{◌≡◌, ◌&&◌, ◌≤◌, ◌<◌}
use Rattle.lists.specs.Kit.{refl, sym, ◌∙◌, Bool, true, false, ℕ, le-ltb}
use Rattle.calls.{specs.Questions.{ask, Lengths, size_good, site_lengths, is_radio, lent_refusal, site_refusal, radio_refusal}, proofs.QuestionLaws.{ask_no}}
use Rattle.calls.{proofs.ChainLaws.{site_zero, site_yes, radio_yes}}

-- ---- 1 to 3, and later questions

module _ (n : ℕ) (l : Lengths) (others sound : Bool) (q : ℕ) (asked : q ≡ site_refusal n l others sound 0) where
  -- one of them got no
  pub site_later_no : (later : ℕ) → (q ≡ 0 → ⊥) → q ≡ site_refusal n l others sound later
  unfolding site_refusal lent_refusal ask
  site_later_no later h = asked ∙ go (size_good n) (site_lengths n l && others) sound (λ e. h (asked ∙ e))
    where
      go : (a b c : Bool) → (ask 1 a (ask 2 b (ask 3 c 0)) ≡ 0 → ⊥) → ask 1 a (ask 2 b (ask 3 c 0)) ≡ ask 1 a (ask 2 b (ask 3 c later))
      go false b c z = refl
      go true false c z = refl
      go true true false z = refl
      go true true true z = absurd (z refl)

  -- all of them got yes
  pub site_later_yes : (later : ℕ) → q ≡ 0 → site_refusal n l others sound later ≡ later
  site_later_yes later e = site_yes n l others sound later (site_zero n l others sound 0 (sym asked ∙ e)).0

-- ---- 4: one radio

pub not_radio : (n v : ℕ) → n ≤ v → is_radio n v ≡ false
unfolding is_radio
not_radio n v h = le-ltb v n h

module _ (n v : ℕ) (l : Lengths) (sound : Bool) (q : ℕ) (asked : q ≡ site_refusal n l true sound 0) where
  pub radio_no : (q ≡ 0 → ⊥) → q ≡ radio_refusal n v l sound
  unfolding radio_refusal
  radio_no h = site_later_no n l true sound q asked (ask 4 (is_radio n v) 0) h

  pub radio_four : q ≡ 0 → n ≤ v → 4 ≡ radio_refusal n v l sound
  unfolding radio_refusal
  radio_four e h = sym (site_later_yes n l true sound q asked (ask 4 (is_radio n v) 0) e ∙ ask_no 4 (is_radio n v) 0 (not_radio n v h))

  pub radio_none : q ≡ 0 → v < n → 0 ≡ radio_refusal n v l sound
  radio_none e h = sym (radio_yes n v l sound (site_zero n l true sound 0 (sym asked ∙ e)).0 h)
