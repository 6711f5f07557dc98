-- The words of the kit that the repository uses, passed on: one line of a file brings them. It defines nothing.
pub use Rattle.std.specs.Prelude.{◌%◌, ◌*◌, ◌+◌, ◌-◌, ◌/◌, ◌<◌, ◌^◌, ◌≤◌, max, min, suc, zero, ℕ, T, eqb, leb, ltb, ◌+ℤ◌, ◌-ℤ◌, nat_abs, negsuc, pos, ℤ, drop, get_or, length, replicate, set, take, Bool, ◌&&◌, ◌||◌, cond, false, not, true, [], ◌++◌, ◌∷◌, map, ◌↔◌, ◌⊎◌, ◌≡◌, refl}
pub use Rattle.std.proofs.Common.{zero-le, eq-eqb, eqb-true, le-leb, le-ltb, leb-false, leb-true, lt-ltb, ltb-false, ltb-true, ne_eqb, lit<, drop_of_length-le, length-append, length-drop, length-set, length-take, take-append-drop, drop_at, drop-cons, drop-drop, ext_get_or, get_or-append-add, get_or-drop, get_or-set_other, get_or-set_same, get_or-take, length-take-le, take-add, take_all, take_at, take-suc, take-suc-set, take-take, true≢false, append_assoc, append-nil, inl, inr, ⊎_elim, ◌∙◌, ap, ap₂, subst, sym, add-mul, add-suc, add-zero, eq-or-lt_of_le, le_antisymm, le-mul_of_pos_right, le_of_eq, le_of_suc-le-suc, le_refl, le_trans, lt_of_le_of_lt, lt_of_lt_of_le, lt_trans, mod-eq_of_lt, mod-lt, mul-add, mul_comm, mul-le-mul, mul-le-mul_right, mul-suc, one-mul, suc-add, suc-mul, zero-add, zero-lt-suc, add-one, add-one-le, arith}
pub use borrow.Author.Rules.{rules, scaled_Fits}
pub use Rattle.std.proofs.lemmas.Bool.{eqb-false, lt-leb, not-false, not-true}
pub use Rattle.std.proofs.lemmas.Nat.{and_le_l, and_le_r, and_mask, and_shr, or_shr, xor_shr, trailing_le}
pub use Rattle.std.specs.Int.Bits.{and_lt, and_self, and_step, bit_and, bit_or, bit_xor, block_half, block_odd, differ, or_add_and, or_shifted_r, or_step, or_zero_l, or_zero_r, xor_step, xor_zero_r}
pub use Rattle.std.specs.Int.Count.{ones_step}
unfoldable pub use Rattle.std.specs.Int.Count.{ones, count_trailing_zeros}
pub use Rattle.std.proofs.Math.Dec.{eqb-suc-suc as eqb·suc-suc, eqb-suc-zero as eqb·suc-zero, eqb-zero-suc as eqb·zero-suc}
pub use Rattle.std.proofs.Math.ListN.{get_or-append as List·getD-append, get_or-eq_default as List·getD-eq-default, get_or-map as List·getD-map}
pub use Rattle.std.proofs.lemmas.List.{get_or-replicate, length-map, length-replicate, replicate-append-replicate, drop-append-le, get_or_at, set-append_left, set_at, set-get_or, take-append-le, take-set-le}
pub use Rattle.std.proofs.Math.Seq.{drop-append-add, drop-append_seam, drop-length, drop-nil, length_paste_head, length-sets, paste, paste-suc, paste-zero, set_out, take-append_seam, take-length, take-nil}
pub use Rattle.std.proofs.lemmas.List.Edits.{drop-paste, length-paste, sets, sets-eq, take-paste}
pub use Rattle.std.specs.Bool.{beq as Bool·beq}
pub use Rattle.std.proofs.Math.Bool.{not-not as Bool·not-not, and_assoc, and_comm, and-false, and-true, or_comm, or-false, or-true}
pub use mathlib.Core.List.Memᴰ.{append_cases as List·Memᴰ·append-cases}
pub use mathlib.Core.List.Memᴰ.{append_left as Memᴰ·append-left}
pub use mathlib.Core.List.Memᴰ.{cases_cons as List·Memᴰ·cases-cons}
pub use mathlib.Core.List.Memᴰ.{head as List·Memᴰ·head}
pub use mathlib.Core.List.Memᴰ.{not-nil as List·Memᴰ·not-nil}
pub use mathlib.Core.List.Memᴰ.{tail as List·Memᴰ·tail}
pub use mathlib.Core.List.{List, Memᴰ as ListAsMemᴰ}
pub use mathlib.Core.List.Memᴰ.{append_right as Memᴰ·append-right}
pub use Rattle.std.proofs.lemmas.Simd.{map-map}
unfoldable pub use mathlib.Core.List.{flat_map}
pub use Rattle.std.proofs.Math.Logic.{∥∥₁_elim, ∥∥₁_map, ∥∥₁_prop}
pub use Rattle.std.proofs.Math.Option.{Option, none, some}
pub use Rattle.std.proofs.Math.Nat.{div-add-mod, div-div-eq-div-mul, pow-succ', sub-zero, suc-min-suc, suc-sub-suc, zero-div, zero-min, zero-sub}
pub use Rattle.std.proofs.Math.Numerals.{add-one-dec}
