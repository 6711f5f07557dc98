-- A name told, or the next one; and how long a name is at most.
use Rattle.std.specs.Prelude.{◌≡◌, ◌⊎◌, ◌≤◌, ◌<◌}
use Rattle.lists.{specs.Kit.{refl, inl, inr, ap, ◌∙◌, Bool, true, false, cond, List, ℕ, arith, length, take}, specs.Lists.{same}}
use Rattle.lists.proofs.{All.{same_lengths, same_refl, same_eq}, Tests.{bool_cases}}
use Rattle.text.specs.Text.{bytes_of}
use Rattle.player.specs.Words.{longest_word}
use Rattle.site_program.specs.{Inputs.{script_word, kind_of}, declared.kinds.Kind.TheVariants.{Script, Image}}
use Rattle.site_program.specs.{Names.{plain_verb_of, verb_of}, declared.names.Verb.{Verb}, declared.names.Verb.TheVariants.{Unknown}}

-- what is named here, and the rest by another name for it
pub or_next : {r other rest : Verb} (here : Bool) (verb : Verb) → r ≡ cond here verb other → other ≡ rest → r ≡ cond here verb rest
or_next here verb p q = p ∙ ap (λ (y : Verb). cond here verb y) q

-- a buffer with room for `longest_word` bytes has room for every verb: a longer word is none
pub longer_unknown : (w : List ℕ) → longest_word < length w → verb_of w ≡ Unknown
unfolding verb_of plain_verb_of
longer_unknown w h =
    rw (
      other (bytes_of "backbone") 8 refl (omega arith),
      other (bytes_of "staircase") 9 refl (omega arith),
      other (bytes_of "tree") 4 refl (omega arith),
      other (bytes_of "core") 4 refl (omega arith),
      other (bytes_of "lift") 4 refl (omega arith),
      other (bytes_of "help") 4 refl (omega arith),
      other (bytes_of "check") 5 refl (omega arith),
      other (bytes_of "numbers") 7 refl (omega arith),
      other (bytes_of "sheet") 5 refl (omega arith),
      other (bytes_of "script") 6 refl (omega arith),
      other (bytes_of "image") 5 refl (omega arith),
    )
  where
    other : (x : List ℕ) (k : ℕ) → length x ≡ k → k ≤ longest_word → same w x ≡ false
    other x k e few = same_lengths w x (λ f. absurd (omega (arith, e, few, f, h)))

-- the word is the name, or it is not
module _ (w n : List ℕ) (verb other : Verb) where
  pub named_is : w ≡ n → verb ≡ cond (same w n) verb other
  named_is e = rw (e, same_refl n)

  pub named_not : (w ≡ n → ⊥) → other ≡ cond (same w n) verb other
  named_not h = go (bool_cases (same w n))
    where
      go : (same w n ≡ true) ⊎ (same w n ≡ false) → other ≡ cond (same w n) verb other
      go (inl e) = absurd (h (same_eq w n e))
      go (inr e) = rw e

-- ---- what an input is

pub script_is : (xs : List ℕ) → take 6 xs ≡ script_word → Script ≡ kind_of xs
unfolding kind_of
script_is xs e = rw (e, same_refl script_word)

pub script_not : (xs : List ℕ) → (take 6 xs ≡ script_word → ⊥) → Image ≡ kind_of xs
unfolding kind_of
script_not xs h = go (bool_cases (same (take 6 xs) script_word))
  where
    go : (same (take 6 xs) script_word ≡ true) ⊎ (same (take 6 xs) script_word ≡ false) → Image ≡ kind_of xs
    go (inl e) = absurd (h (same_eq (take 6 xs) script_word e))
    go (inr e) = rw e
