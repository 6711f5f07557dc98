-- Words for lists that the definitions use.
--   range i k           the numbers i, i + 1, .., k of them
--   count f xs          how many entries of xs pass the test f
--   total f xs          the sum of f over xs
--   filter f xs         the entries of xs that pass the test f, in their order
--   member v xs         is v an entry of xs
--   all f xs            does every entry of xs pass the test f
--   same xs ys          are the two lists equal
--   head_or d xs        the first entry of xs, or d where there is none
--   overwrite xs ys     the list ys with xs in front: its later entries keep their content
--   In v xs             v is an entry of xs
--   Ascending xs        each entry is below all later ones
--   EntriesBelow k xs  every entry is below k: 256 for a table of bytes, 65,536 for one of 16-bit entries
-- What only proofs and contracts say of lists is in Facts.antt; laws are in proofs/. Definitions only.
use Rattle.std.specs.Prelude.{◌≡◌, ◌⊎◌, ◌&&◌, ◌||◌, ◌∷◌, ◌++◌, ◌+◌, ◌<◌}
use Rattle.lists.specs.Kit.{Bool, true, false, cond, List, [], ℕ, zero, suc, eqb, length, drop, get_or}

-- ---- lists worked out

-- the numbers i, i + 1, .., k of them
unfoldable pub range : (i k : ℕ) → List ℕ
range i zero = []
range i (suc k) = i ∷ range (suc i) k

-- how many entries pass the test
unfoldable pub count : (ℕ → Bool) → List ℕ → ℕ
count f [] = 0
count f (x ∷ xs) = cond (f x) 1 0 + count f xs

-- the sum of f over the entries
abbrev pub total : (ℕ → ℕ) → List ℕ → ℕ
total f [] = 0
total f (x ∷ xs) = f x + total f xs

-- the entries that pass the test, in their order
unfoldable pub filter : (ℕ → Bool) → List ℕ → List ℕ
filter f [] = []
filter f (x ∷ xs) = let rest = filter f xs in cond (f x) (x ∷ rest) rest

-- is v an entry?
unfoldable pub member : ℕ → List ℕ → Bool
member v [] = false
member v (x ∷ xs) = eqb x v || member v xs

-- does every entry pass the test?
unfoldable pub all : (ℕ → Bool) → List ℕ → Bool
all f [] = true
all f (x ∷ xs) = f x && all f xs

-- are the two lists equal?
unfoldable pub same : (xs ys : List ℕ) → Bool
same [] [] = true
same [] (y ∷ ys) = false
same (x ∷ xs) [] = false
same (x ∷ xs) (y ∷ ys) = eqb x y && same xs ys

-- the first entry, or the default
unfoldable pub head_or : (default : ℕ) → List ℕ → ℕ
head_or d [] = d
head_or d (x ∷ xs) = x

-- document 01: a list fills the first entries; later entries keep their content
unfoldable pub overwrite : {A : Type 0} → (new old : List A) → List A
overwrite new old = new ++ drop (length new) old

-- ---- facts about lists

-- v is an entry
abbrev pub In : ℕ → List ℕ → Type 0
In v [] = ⊥
In v (x ∷ xs) = (x ≡ v) ⊎ In v xs

-- document 01: ascending. Each entry is below all later ones
abbrev pub Ascending : List ℕ → Type 0
Ascending [] = Unit {0}
Ascending (x ∷ xs) = ((v : ℕ) → In v xs → x < v) × Ascending xs

-- every entry is below the bound: 256 for a table of bytes, 65,536 for one of 16-bit entries
abbrev pub EntriesBelow : (bound : ℕ) → List ℕ → Type 0
EntriesBelow k xs = (i : ℕ) → i < length xs → get_or xs i 0 < k
