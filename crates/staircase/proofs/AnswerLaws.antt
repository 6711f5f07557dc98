-- The call's contract, met: refused and answered.
use Rattle.std.specs.Prelude.{◌≡◌, ◌*◌, ◌≤◌}
use Rattle.lists.specs.{Kit.{sym, ◌∙◌, List, ℕ, arith, leb, length, leb-true}, Lists.{range}}
use Rattle.mesh.{specs.Limits.{max_radios, max_neighbours}, specs.Connected.{greatest}, specs.Tables.{Tables}, specs.Sound.{sound}}
use Rattle.mesh.{proofs.Tables.Rows.{symmetric_of}, proofs.Trees.Listed.{greatest_le}}
use Rattle.calls.{specs.Questions.{lengths_of, site_refusal}, specs.CallContracts.{StaircaseContract}}
use Rattle.calls.{proofs.SheetLaws.{numbers_two_digits}, proofs.ChainLaws.{SiteGood, site_zero}, specs.Outcomes.{value, staircase_outcome}}
use Rattle.calls.{proofs.ContractLaws.{listing_refused, listing_answered}}
use Rattle.rows.{specs.Links.{links_from, RowsListed}, proofs.GraphLinks.{rows_listed_few}}
use Rattle.soundness.proofs.SoundSite.{SoundSite, site_good_sound}
use Rattle.forests.specs.Growing.{table_weight, levels_falling}
use Rattle.staircase.specs.{Taking.{growth, Taken}, Parts.{roots}, Rows.{Mutual}, declared.forest.Forest.{Forest}}
use Rattle.staircase.proofs.LevelLaws.{staircase_count, staircase_table}

module _ (n : ℕ) (t : Tables) (old : List ℕ) (q : ℕ) (asked : q ≡ site_refusal n (lengths_of t) (leb (2 * n) (length old)) (sound n t) 0) where
  pub staircase_refused : (q ≡ 0 → ⊥) → StaircaseContract n t old (value q 0) old
  unfolding StaircaseContract staircase_outcome sound
  staircase_refused h = listing_refused _ _ _ old q asked h

  module _ (e : q ≡ 0) where
    good : SiteGood n (lengths_of t) (leb (2 * n) (length old)) (sound n t)
    good = (site_zero n (lengths_of t) (leb (2 * n) (length old)) (sound n t) 0 (sym asked ∙ e)).0

    site : SoundSite n t
    site = site_good_sound n t (leb (2 * n) (length old)) good

    pub staircase_small : length t.numbers ≤ max_radios
    staircase_small = omega (arith, site.small, site.numbers_long)

    pub staircase_rows : RowsListed (length t.numbers) t.links max_neighbours
    staircase_rows = rw site.numbers_long (rows_listed_few n t.links site.small site.links_long max_neighbours site.few)

    pub staircase_mutual : Mutual (length t.numbers) t.links
    staircase_mutual = rw site.numbers_long
        (record { most = site.small; whole = omega (arith, site.links_long); both = λ a b la lb. symmetric_of n t.links site.symmetric a b la lb })

    pub staircase_low : greatest t.numbers ≤ max_neighbours
    staircase_low = greatest_le t.numbers max_neighbours
        (λ v l. numbers_two_digits n t site.numbers_long good.is_sound site.small v (omega (arith, site.numbers_long)))

    -- from the forest where each radio is a part of its own
    pub staircase_answered : (f end : Forest)
        → Taken (levels_falling (table_weight t.numbers) (greatest t.numbers) (links_from (length t.numbers) t.links 0 0)) f end
        → roots f.parents.now ≡ range 0 (length t.numbers) → f.table.now ≡ old → f.count ≡ 0 → (table : List ℕ) → table ≡ end.table.now
        → StaircaseContract n t old (value 0 end.count) table
    unfolding StaircaseContract staircase_outcome sound
    staircase_answered f end taken own lent none table same =
        let room = leb-true (2 * n) (length old) good.lent.further in
        let h = rw (own, lent, none) at taken.is in
        listing_answered _ _ _ old end.count table (sym asked ∙ e)
        (staircase_count n t site good.lent.least old room (growth end) h)
        (same ∙ staircase_table n t site good.lent.least old room (growth end) h)
