-- Every history is right: computed on pairs and order, and so by `all_by_state` over the contracts' own outcomes. Group by group, since
-- many rows in one declaration take longer than the same rows in several, and a declaration may compute only so much.
use Rattle.std.specs.Prelude.{◌≡◌}
use Rattle.lists.specs.Kit.{refl, true}
use Rattle.calls.{specs.Worked.{AllRight}, proofs.WorkedState.{all_state_right, compute}, proofs.WorkedLaws.{all_by_state, all_right_append}}
use Rattle.vectors.specs.Histories.{refusals, cliques, joins, rises, falls, trees, printing, tables, images, random_small, random_middle, random_large}
use Rattle.vectors.specs.Histories.{histories}

refusals_right : all_state_right refusals ≡ true
unfolding compute refusals
refusals_right = refl

cliques_right : all_state_right cliques ≡ true
unfolding compute cliques
cliques_right = refl

joins_right : all_state_right joins ≡ true
unfolding compute joins
joins_right = refl

rises_right : all_state_right rises ≡ true
unfolding compute rises
rises_right = refl

falls_right : all_state_right falls ≡ true
unfolding compute falls
falls_right = refl

trees_right : all_state_right trees ≡ true
unfolding compute trees
trees_right = refl

printing_right : all_state_right printing ≡ true
unfolding compute printing
printing_right = refl

tables_right : all_state_right tables ≡ true
unfolding compute tables
tables_right = refl

images_right : all_state_right images ≡ true
unfolding compute images
images_right = refl

random_small_right : all_state_right random_small ≡ true
unfolding compute random_small
random_small_right = refl

random_middle_right : all_state_right random_middle ≡ true
unfolding compute random_middle
random_middle_right = refl

random_large_right : all_state_right random_large ≡ true
unfolding compute random_large
random_large_right = refl

pub histories_right : AllRight histories
unfolding histories
histories_right =
    all_right_append refusals _ (all_by_state refusals refusals_right) (
    all_right_append cliques _ (all_by_state cliques cliques_right) (
    all_right_append joins _ (all_by_state joins joins_right) (
    all_right_append rises _ (all_by_state rises rises_right) (
    all_right_append falls _ (all_by_state falls falls_right) (
    all_right_append trees _ (all_by_state trees trees_right) (
    all_right_append printing _ (all_by_state printing printing_right) (
    all_right_append tables _ (all_by_state tables tables_right) (
    all_right_append images _ (all_by_state images images_right) (
    all_right_append random_small _ (all_by_state random_small random_small_right) (
    all_right_append random_middle random_large (all_by_state random_middle random_middle_right) (all_by_state random_large random_large_right)))))))))))
