-- The status of a run: 0 only where all is read to its end and played.
use Rattle.std.specs.Prelude.{◌≡◌, ◌∷◌, ◌≤◌, ◌<◌, Option, Some, None}
use Rattle.lists.specs.Kit.{refl, sym, subst, ◌∙◌, true, false, true≢false, List, [], ℕ, zero, suc, arith, ℤ, pos, negsuc, take, ltb-true}
use Rattle.lists.specs.Kit.{leb-false, lt-ltb}
use lib.Signed.{lt_z, le_z, non_neg}
use Rattle.mesh.specs.Limits.{max_radios}
use Rattle.text.specs.Print.{Buffer}
use Rattle.player.specs.{Reads.{NotFailed, Found, Read, input_of, Going, Unbroken, ToEnd}, Reading.{ReadsAll}, First.{some_radios}, Play.{radios_of}}
use Rattle.player.specs.{Reading.{FirstIs, Concluded, PlayedToEnd, LinesStatus, RunStatus, is_keep, CopiesOnce, Copied}}
use Rattle.player.specs.declared.{input.Brought.{Brought}, input.State.{State}, input.State.TheVariants.{GoesOn, End, Failed}}
use Rattle.player.specs.declared.{first.First.{First}, input.Unread.{Unread}, machine.Progress.{Progress}}
use Rattle.player.proofs.{ReadLaws.{none_found, take_none}, PlayLaws.{radios_of_le}}

-- ---- the end of a run

pub concluded_wrong : (s : Progress) (r : ℕ) → r ≡ 1 → Concluded s r
concluded_wrong s r e =
    record { few = omega (arith, e); over = λ f. absurd (omega (arith, e, f)); right = λ f. absurd (omega (arith, e, f)) }

pub concluded_over : (s : Progress) (r : ℕ) → s.live ≡ false → r ≤ 1 → (r ≡ 0 → s.fault ≡ None) → Concluded s r
concluded_over s r l few h = record { few = few; over = λ e. l; right = h }

pub lines_status : (n r : ℕ) (b : Buffer) (s : Progress) (out : List ℕ) → ReadsAll n b s out → Concluded s r → LinesStatus n r
lines_status n r b s out all end =
    record {
      few = end.few;
      whole = λ e. record {
        reads = all.reads;
        text = all.text;
        to_end = all.to_end (end.over e) (end.right e);
        prints = all.prints (end.over e);
      };
    }

-- ---- a whole input

going_unbroken : (rs : List Read) → Going rs → Unbroken rs
unfolding Going Unbroken
going_unbroken [] g = tt
going_unbroken (r ∷ rs) g = (subst NotFailed (sym g.0) tt, g.1)

end_unbroken : (rs : List Read) → ToEnd rs → Unbroken rs
unfolding ToEnd Unbroken
end_unbroken [] g = absurd g
end_unbroken (r ∷ rs) g = (subst NotFailed (sym g.0) tt, g.1)

pub unbroken_on : {r : State} (rs : List Read) → r ≡ GoesOn → (r ≡ GoesOn → Going rs) → Unbroken rs
unbroken_on rs e going = going_unbroken rs (going e)

pub unbroken_ended : {r : State} (rs : List Read) → r ≡ End → (r ≡ End → ToEnd rs) → Unbroken rs
unbroken_ended rs e ended = end_unbroken rs (ended e)

pub run_wrong : (r : ℕ) → r ≡ 1 → RunStatus r
run_wrong r e = record { few = omega (arith, e); whole = λ f. absurd (omega (arith, e, f)) }

named_is : (k n : ℕ) → Some n ≡ some_radios k → (k ≡ n) × (0 < k)
named_is zero n e = absurd (cc)
named_is (suc k) n e = let h : n ≡ suc k = cc in (sym h, omega arith)

pub few_named : (bs : List ℕ) (r : Option ℕ) → r ≡ some_radios (radios_of bs) → (n : ℕ) → r ≡ Some n → n ≤ max_radios
few_named bs r e n h = omega (arith, (named_is (radios_of bs) n (sym h ∙ e)).0, radios_of_le bs)

-- the first line names n radios
module _ (n : ℕ) (r : First) (first : FirstIs r) (named : r.radios ≡ Some n) where
  named_radios : (radios_of (input_of first.reads) ≡ n) × (0 < radios_of (input_of first.reads))
  named_radios = named_is _ n (sym named ∙ first.names)

  pub named_some : 0 < n
  named_some = omega (arith, named_radios.0, named_radios.1)

  pub named_few : n ≤ max_radios
  named_few = first.few n named

  pub run_status : (r : ℕ) → LinesStatus n r → RunStatus r
  run_status r lines =
      record {
        few = lines.few;
        whole = λ e. record {
          first = first.reads;
          unbroken = first.unbroken;
          named = named_radios.1;
          lines = subst PlayedToEnd (sym named_radios.0) (lines.whole e);
        };
      }

-- ---- the keep

-- a descriptor that is none, or above the program's own
pub keep_none : (z : ℤ) → lt_z z (pos 0) ≡ true → is_keep z ≡ true
keep_none (pos k) h = absurd (omega (arith, ltb-true k 0 h))
keep_none (negsuc k) h = refl

pub keep_above : (z : ℤ) → le_z z (pos 2) ≡ false → is_keep z ≡ true
keep_above (pos k) h = lt-ltb 2 k (leb-false k 2 h)
keep_above (negsuc k) h = absurd (true≢false h)

-- its bytes are in the front of a chunk
unfoldable kept_read : (size : ℕ) (chunk : List ℕ) (r : Brought) → Found size r → Read
kept_read size chunk r found =
    record { bytes = take r.count chunk; state = r.state; none = λ f. take_none r.count chunk (none_found found f) }

pub copy_failed : (why : Unread) (size : ℕ) (chunk : List ℕ) (r : Brought) → Found size r → CopiesOnce (Failed why)
copy_failed why size chunk r found = record { read = kept_read size chunk r found; found = λ e. absurd e }

pub copy_once : (size : ℕ) (chunk : List ℕ) (r : Brought) → Found size r → CopiesOnce r.state
unfolding kept_read
copy_once size chunk r found = record { read = kept_read size chunk r found; found = λ e. refl }

-- the reads of the keep so far went on
pub record Copying : Type 0 where
  pub reads : List Read
  pub going : Going reads

pub copying_none : Copying
unfolding Going
copying_none = record { reads = []; going = tt }

pub copying_more : CopiesOnce GoesOn → Copying → Copying
unfolding Going
copying_more once so = record { reads = once.read ∷ so.reads; going = (once.found tt, so.going) }

pub copied : CopiesOnce End → Copying → Copied
unfolding ToEnd
copied once so = record { reads = once.read ∷ so.reads; to_end = (once.found tt, so.going) }

-- without a keep there is nothing to read
pub no_keep : (z : ℤ) → lt_z z (pos 0) ≡ true → non_neg z ≡ true → Copied
no_keep (pos k) h e = absurd (omega (arith, ltb-true k 0 h))
no_keep (negsuc k) h e = absurd (true≢false (sym e))
