-- What sound tables say of the graph that they mark: links by bits, numbers by entries, a row's neighbours.
use Rattle.std.specs.Prelude.{◌≡◌, ◌&&◌, ◌≤◌, ◌<◌}
use Rattle.lists.{specs.Kit.{sym, ap, ◌∙◌, Bool, true, List, ℕ, arith, get_or}, proofs.Tests.{and_left, and_right, and_both}}
use Rattle.mesh.{specs.Limits.{max_radios, max_neighbours}, specs.Graph.{linked, degree}, specs.Cores.{number}, specs.Tables.{Tables, marked}}
use Rattle.mesh.{specs.Tables.{graph_in}, specs.Sound.{symmetric, irreflexive, within, few, rows_proper, sound}, proofs.Cores.Peeling.{get_d_numbers}}
use Rattle.mesh.{proofs.Tables.ReadBack.{linked_graph_in, degree_graph_in}, proofs.Tables.Rows.{few_of}, proofs.Tables.Soundness.{Right, sound_right}}
use Rattle.calls.{specs.Questions.{lengths_of, size_good, site_lengths}, proofs.QuestionLaws.{SiteLengths, size_good_true, true_size_good, site_lengths_true}}
use Rattle.calls.{proofs.QuestionLaws.{true_site_lengths}, proofs.ChainLaws.{SiteGood}}
use Rattle.rows.{specs.Rows.{neighbours_of, row_listed, row_count}, proofs.RowListLaws.{row_count_few}, proofs.RowWords.{row_listed_whole}}
use Rattle.soundness.specs.Checks.{fits_sound}
pub use Rattle.soundness.specs.Checks.{SoundSite}

pub sound_site : (n : ℕ) (t : Tables) → n ≤ max_radios → SiteLengths n (lengths_of t) → sound n t ≡ true → SoundSite n t
unfolding sound rows_proper lengths_of
sound_site n t small l h = go (sound_right max_neighbours n t l.numbers h)
  where
    first : Bool
    first = symmetric n t.links && irreflexive n t.links

    second : Bool
    second = within n t.links && few max_neighbours n t.links

    go : Right max_neighbours n t → SoundSite n t
    go r = record {
      small = small;
      links_long = l.links;
      numbers_long = l.numbers;
      symmetric = and_left (symmetric n t.links) (irreflexive n t.links) (and_left first second r.rows);
      irreflexive = and_right (symmetric n t.links) (irreflexive n t.links) (and_left first second r.rows);
      within = and_left (within n t.links) (few max_neighbours n t.links) (and_right first second r.rows);
      few = and_right (within n t.links) (few max_neighbours n t.links) (and_right first second r.rows);
      numbers = r.core_numbers;
    }

-- questions 1 to 3 in one test, and by their chain
pub fits_sound_site : (n : ℕ) (t : Tables) → fits_sound n t ≡ true → SoundSite n t
unfolding fits_sound
fits_sound_site n t h =
    let rest = and_right (size_good n) (site_lengths n (lengths_of t) && sound n t) h in
    sound_site n t (size_good_true n (and_left (size_good n) (site_lengths n (lengths_of t) && sound n t) h)).1
    (site_lengths_true n (lengths_of t) (and_left (site_lengths n (lengths_of t)) (sound n t) rest))
    (and_right (site_lengths n (lengths_of t)) (sound n t) rest)

pub site_good_fits : (n : ℕ) (t : Tables) (others : Bool) → SiteGood n (lengths_of t) others (sound n t) → fits_sound n t ≡ true
unfolding fits_sound
site_good_fits n t others good =
    and_both (size_good n) (site_lengths n (lengths_of t) && sound n t) (true_size_good n good.lent.least good.lent.most)
    (and_both (site_lengths n (lengths_of t)) (sound n t) (true_site_lengths n (lengths_of t) good.lent.lengths) good.is_sound)

module _ (n : ℕ) (t : Tables) (s : SoundSite n t) where
  pub linked_marked : (a b : ℕ) → a < n → b < n → linked (graph_in n t.links) a b ≡ marked t.links a b
  linked_marked a b la lb = linked_graph_in n t.links s.symmetric s.irreflexive a b la lb

  pub number_entry : (v : ℕ) → v < n → get_or t.numbers v 0 ≡ number (graph_in n t.links) v
  unfolding graph_in
  number_entry v l = ap (λ (ns : List ℕ). get_or ns v 0) s.numbers ∙ get_d_numbers (graph_in n t.links) v l

  pub row_listed_neighbours : (a : ℕ) → a < n → row_listed t.links a ≡ neighbours_of t.links a
  row_listed_neighbours a l = row_listed_whole t.links a (omega (arith, s.links_long))

  -- a sound row is counted to its end
  pub degree_counted : (a : ℕ) → a < n → row_count max_neighbours t.links a ≡ degree (graph_in n t.links) a
  degree_counted a l =
      row_count_few max_neighbours n t.links s.links_long a l (few_of max_neighbours n t.links s.few a l)
      ∙ sym (degree_graph_in n t.links s.small s.symmetric s.irreflexive s.within a l)

-- once questions 1 to 3 got yes
pub site_good_sound : (n : ℕ) (t : Tables) (others : Bool) → SiteGood n (lengths_of t) others (sound n t) → SoundSite n t
site_good_sound n t others g = sound_site n t g.lent.most g.lent.lengths g.is_sound
