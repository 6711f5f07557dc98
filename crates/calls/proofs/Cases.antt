-- Every row of the table of cases is right: computed on pairs and order, and so by `all_by_state` over the contracts' own outcomes.
use Rattle.std.specs.Prelude.{◌≡◌}
use Rattle.lists.specs.Kit.{refl, true, false, List, ℕ, length}
use Rattle.mesh.specs.Marks.{store_bytes, marks_in}
use Rattle.calls.specs.{Questions.{ask}, Marks.{is_marked, has_place}, Worked.{Right, AllRight}, Cases.{triangle, two_triangles, two_triangles_tied}}
use Rattle.calls.specs.{Cases.{cases, m1, m2_before, m2, m3, m4, m5, m6, m7, m8, m9, m10, image_253, image_300, former_32, former_33, staircase_m4}}
use Rattle.calls.specs.{Cases.{texts, one_hub, other_hub}}
use Rattle.calls.proofs.{WorkedState.{all_state_right, compute}, WorkedLaws.{all_by_state}}

computed : all_state_right cases ≡ true
unfolding compute triangle two_triangles two_triangles_tied cases m1 m2_before m2 m3 m4 m5 m6 m7 m8 m9 m10 image_253 image_300 former_32 former_33 staircase_m4
    texts one_hub other_hub
computed = refl

pub cases_right : AllRight cases
cases_right = all_by_state cases computed

-- the worked pair of W-214
pub one_hub_right : Right one_hub
unfolding AllRight cases
one_hub_right = cases_right.1.1.1.1.1.1.1.1.1.1.1.1.1.1.1.1.1.0

pub other_hub_right : Right other_hub
unfolding AllRight cases
other_hub_right = cases_right.1.1.1.1.1.1.1.1.1.1.1.1.1.1.1.1.1.1.0

-- ---- a store of 8 places (W-211), whatever it holds: it has 352,320 bytes, an eighth name finds a place, and a ninth gets 19

pub store_size : store_bytes ≡ 352320
store_size = refl

module _ (x bs : List ℕ) (new : is_marked x bs ≡ false) where
  pub eighth_name : length (marks_in bs) ≡ 7 → ask 19 (has_place x bs) 0 ≡ 0
  unfolding has_place ask
  eighth_name e = rw (new, e)

  pub ninth_name : length (marks_in bs) ≡ 8 → ask 19 (has_place x bs) 0 ≡ 19
  unfolding has_place ask
  ninth_name e = rw (new, e)
