-- The integers as rows, and as results.
use mathlib.Core.{Path.{◌≡◌, refl, ◌∙◌, ap}, List.{[], ◌∷◌}}
use Prim.Native.Nat.{ℕ, ◌<◌, ◌^◌}
use lib.{Signed.{mag}, Dec.{eqb_refl}}
use mir.{Syntax.{Width, ty_int}, Val.{Val, vint, bits, hbits, bytes, of_z}, ValLaws.{of_z_fits}}
use base.Logic.{via}
use contract.{Monad.{fact, fact_mono}, Lifetimes.{Lfts}}
use denote.{Plain.{UInt, uint_Makes}, Signed.{SInt, sint_Makes}, Copied.{uint_Copied, sint_Copied}, RattleType.{RattleType}, Lowered.{Lowered}, Laws.{Is, shows}}
use Rattle.machine.proofs.{Whole.{𝓥}, Rows.{Row, W₀}, Law.{Answer, Told}}

abbrev pub number_row : Width → Row
number_row w = record {
  row = UInt w;
  ty = ty_int w;
  one = refl;
  size_is = refl;
  machine = vint w;
  Holds = λ n. n < 2 ^ bits w;
  typed = λ n h. (eqb_refl (bytes w), record { fits = h });
  makes = λ n h. uint_Makes W₀ w n (vint w n ∷ []) (refl, h);
  shows = λ n vs. via 𝓥 (fact 𝓥 (Is (UInt w) n vs)) (shows W₀ (UInt w) n vs)
      (fact_mono 𝓥 (Is (UInt w) n vs) ((vs ≡ vint w n ∷ []) × (n < 2 ^ bits w)) (λ p. (p.0, p.1)));
  copied = uint_Copied W₀ w;
}

abbrev pub signed_row : Width → Row
signed_row w = record {
  row = SInt w;
  ty = ty_int w;
  one = refl;
  size_is = refl;
  machine = λ z. vint w (of_z w z);
  Holds = λ z. mag z < 2 ^ hbits w;
  typed = λ z h. (eqb_refl (bytes w), of_z_fits w z (record { sfits = h }));
  makes = λ z h. sint_Makes W₀ w z (vint w (of_z w z) ∷ []) (refl, h);
  shows = λ z vs. via 𝓥 (fact 𝓥 (Is (SInt w) z vs)) (shows W₀ (SInt w) z vs)
      (fact_mono 𝓥 (Is (SInt w) z vs) ((vs ≡ vint w (of_z w z) ∷ []) × (mag z < 2 ^ hbits w)) (λ p. (p.0, p.1)));
  copied = sint_Copied W₀ w;
}

abbrev pub number_answer : Width → Answer
number_answer w = record {
  row = UInt w;
  machine = vint w;
  shows = λ n vs. via 𝓥 (fact 𝓥 (Is (UInt w) n vs)) (shows W₀ (UInt w) n vs) (fact_mono 𝓥 (Is (UInt w) n vs) (vs ≡ vint w n ∷ []) (λ p. p.0));
}

-- a declared type whose machine values its module states
abbrev pub declared_answer : (R : RattleType) → Lowered R → Answer
declared_answer R L = record {
  row = R;
  machine = L.lowered;
  shows = λ x vs. via 𝓥 (fact 𝓥 (Is R x vs)) (shows W₀ R x vs) (fact_mono 𝓥 (Is R x vs) (vs ≡ L.lowered x ∷ []) (L.val_is x vs));
}

-- one at a call's lifetimes, which may hold references
abbrev pub declared_told : (n : ℕ) (R : Lfts n → RattleType) (L : (κs : Lfts n) → Lowered (R κs)) (Result : Type 0)
    (told : (κs : Lfts n) → (R κs).Denot → Result) (machine : Result → Val)
    → ((κs : Lfts n) (x : (R κs).Denot) → (L κs).lowered x ≡ machine (told κs x)) → Told n
declared_told n R L Result told machine is = record {
  row = R;
  Result = Result;
  told = told;
  machine = machine;
  shows = λ κs x vs.
      via 𝓥 (fact 𝓥 (Is (R κs) x vs)) (shows W₀ (R κs) x vs)
      (fact_mono 𝓥 (Is (R κs) x vs) (vs ≡ machine (told κs x) ∷ []) (λ p. (L κs).val_is x vs p ∙ ap (λ (v : Val). v ∷ []) (is κs x)));
}
