-- Rows with too many bits: the byte stops one past the limit, whatever the row has, and tables with such a row are not sound.
-- 256 + 32 and 256 + 40 are what a byte that wraps would take for a sound row's.
use Rattle.std.specs.Prelude.{◌≡◌, ◌⊎◌, ◌&&◌, ◌∷◌, ◌*◌, ◌<◌}
use Rattle.lists.{specs.Kit.{refl, inl, inr, true, false, List, [], ℕ, suc, arith, ltb, length, ltb-true}, specs.Lists.{all, In}}
use Rattle.lists.{proofs.Tests.{bool_cases, and_left, and_right}, proofs.All.{all_in}}
use Rattle.mesh.{specs.Limits.{max_neighbours, row_bytes}, specs.Orders.{each_once, rising, few_later}, specs.Tables.{Tables, marked}, specs.Sound.{symmetric}}
use Rattle.mesh.{specs.Sound.{irreflexive, within, row_degree, few, rows_proper, enough, number_in, sound_within, sound}, proofs.Tables.Rows.{few_of}}
use Rattle.rows.{specs.Rows.{row_count}, proofs.RowListLaws.{row_count_many}}

sound_few : (n : ℕ) (t : Tables) → sound n t ≡ true → few max_neighbours n t.links ≡ true
unfolding sound sound_within rows_proper
sound_few n t h =
    let ts = t.links in
    let num = number_in t.numbers in
    let mirrored = symmetric n ts && irreflexive n ts in
    let bounded = within n ts && few max_neighbours n ts in
    let ordered = each_once n t.order && (rising num t.order && (few_later (marked ts) num t.order && enough n (marked ts) num)) in
    and_right (within n ts) (few max_neighbours n ts) (and_right mirrored bounded (and_left (mirrored && bounded) ordered h))

pub sound_many : (n : ℕ) (t : Tables) (a : ℕ) → a < n → max_neighbours < row_degree t.links a → sound n t ≡ false
sound_many n t a l many = go (bool_cases (sound n t))
  where
    go : (sound n t ≡ true) ⊎ (sound n t ≡ false) → sound n t ≡ false
    go (inl h) = absurd (omega (arith, few_of max_neighbours n t.links (sound_few n t h) a l))
    go (inr h) = h

-- ---- the rows that are tried

abbrev pub long_rows : List ℕ
long_rows = 41 ∷ 255 ∷ 256 ∷ 257 ∷ 288 ∷ 296 ∷ 512 ∷ []

long_many : (d : ℕ) → In d long_rows → max_neighbours < d
unfolding all
long_many d m = ltb-true max_neighbours d (all_in (ltb max_neighbours) long_rows refl d m)

-- with a row of so many bits tables are not sound
pub long_rows_unsound : (n : ℕ) (t : Tables) (a : ℕ) → a < n → In (row_degree t.links a) long_rows → sound n t ≡ false
long_rows_unsound n t a l m = sound_many n t a l (long_many (row_degree t.links a) m)

-- and the byte says so
pub long_rows_counted : (n : ℕ) (ts : List ℕ) → length ts ≡ row_bytes * n → (a : ℕ) → a < n → In (row_degree ts a) long_rows
    → row_count max_neighbours ts a ≡ suc max_neighbours
long_rows_counted n ts e a l m = row_count_many max_neighbours n ts e a l (long_many (row_degree ts a) m)
