-- Places of the walk of a link going up, in the order and in its level.
--   level_start ns k           how many numbers are below k: where the stretch of level k starts
--   level_size ns k            how many numbers are k: how long that stretch is
--   other_end a b v            the other end of the link a-b, where v is an end; else v itself
--   beginning_end              the lower end, with equal numbers the earlier
--   stands_first first k ns os   the radio at place `first` stands first in level k
--   next_turn                  the next turn of a walk, none when it is at its end
--   set_places ws              the places of a set of words, ascending
--   entries_at first tail ps   the entries of `tail`, which stands from place `first` on, at the places ps
--   Stands first size ps       all of ps are places of it
--   MarkedPlaces              a set of words that tells the places of marked entries
-- Laws are in proofs/PlaceLaws.antt. Definitions only.
use Rattle.std.specs.Prelude.{Option, None, Some, ◌≡◌, ◌+◌, ◌-◌, ◌≤◌, ◌<◌}
use Rattle.lists.specs.{Kit.{Bool, true, cond, List, map, ℕ, min, ltb, leb, eqb, length, get_or}, Lists.{count, filter, head_or, range}}
use Rattle.lists.specs.{Lists.{In}}
use Rattle.mesh.specs.Limits.{max_radios}
use Rattle.rows.specs.{Sets.{in_set}}
use Rattle.rows.specs.Sets.{common}
use Rattle.plan.specs.declared.places.Turn.{Turn, TheVariants.{Back, Ahead}}

abbrev pub level_start : (numbers : List ℕ) → (k : ℕ) → ℕ
level_start ns k = count (λ x. ltb x k) ns

abbrev pub level_size : (numbers : List ℕ) → (k : ℕ) → ℕ
level_size ns k = count (λ x. eqb x k) ns

unfoldable pub other_end : (a b v : ℕ) → ℕ
other_end a b v = cond (eqb v a) b (cond (eqb v b) a v)

unfoldable pub beginning_end : (a b : ℕ) → (numbers places : List ℕ) → ℕ
beginning_end a b ns ps =
    cond (ltb (get_or ns a 0) (get_or ns b 0)) a (cond (ltb (get_or ns b 0) (get_or ns a 0)) b (cond (ltb (get_or ps a 0) (get_or ps b 0)) a b))

-- nothing stands before it, or what does is of a lower level
unfoldable pub stands_first : (first k : ℕ) → (numbers order : List ℕ) → Bool
stands_first first k ns os = cond (eqb first 0) true (ltb (get_or ns (get_or os (first - 1) 0) 0) k)

-- back to the first place due where it stands before the front; else the walk is at its end when no candidate is left or the part is at its
-- end, and goes ahead when neither is so, up to the first place due or the end of the part
unfoldable pub next_turn : (first size front taken : ℕ) → (due : List ℕ) → Option Turn
next_turn first size front taken ds =
    let p = head_or (first + size) (common ds ds) in
    cond (leb front taken) None (cond (ltb p (first + front)) (Some (Back p)) (cond (leb size front) None (Some (Ahead (min (p - first) size)))))

abbrev pub set_places : (words : List ℕ) → List ℕ
set_places ws = filter (in_set ws) (range 0 max_radios)

abbrev pub entries_at : (first : ℕ) → (tail places : List ℕ) → List ℕ
entries_at first tail ps = map (λ p. get_or tail (p - first) 0) ps

abbrev pub Stands : (first size : ℕ) → (places : List ℕ) → Type 0
Stands first size ps = (p : ℕ) → In p ps → (first ≤ p) × (p - first < size)

-- of the first `size` entries of `tail`, which stands from place `first` on
pub record MarkedPlaces (first size : ℕ) (tail : List ℕ) (mark : ℕ → Bool) (words : List ℕ) : Type 0 where
  pub long : length words ≡ 8
  pub inside : (p : ℕ) → in_set words p ≡ true → (first ≤ p) × (p < first + size)
  pub is : (q : ℕ) → q < size → in_set words (first + q) ≡ mark (get_or tail q 0)
