-- The three cases of `rules_out`: a radio above the level, one that is left, one that was taken.
use Rattle.std.specs.Prelude.{◌≡◌, ◌+◌, ◌≤◌, ◌<◌}
use Rattle.lists.specs.Kit.{Bool, ℕ, ltb, lt-ltb, le-ltb}
use Rattle.lift.specs.Counters.{rules_out}

module _ (k : ℕ) (gone : Bool) (m x : ℕ) where
  pub rules_above : k < m → gone ≡ rules_out k gone m x
  unfolding rules_out
  rules_above h = rw (lt-ltb k m h)

  pub rules_left : m ≤ k → x < 128 → gone ≡ rules_out k gone m x
  unfolding rules_out
  rules_left h q = rw (le-ltb k m h, lt-ltb x 128 q)

  pub rules_taken : m ≤ k → 128 ≤ x → ltb x (128 + k) ≡ rules_out k gone m x
  unfolding rules_out
  rules_taken h q = rw (le-ltb k m h, le-ltb x 128 q)
