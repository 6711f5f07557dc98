-- What the parts of the question come to: degrees within the limit, a k-order; and that the order's blocks are there.
use Rattle.std.specs.Prelude.{◌≡◌, ◌+◌, ◌*◌, ◌≤◌}
use Rattle.lists.{specs.Kit.{refl, sym, ◌∙◌, Bool, true, false, List, ℕ, arith}, proofs.Tests.{never}}
use Rattle.mesh.specs.{Limits.{max_neighbours}, Graph.{Link, graph}, Image.{block_bytes, order_blocks, block_count}}
use Rattle.image_reader.specs.Site.{few_ends, KOrderDecided, SoundDecided}

-- ---- degrees and k-order

module _ (n : ℕ) (ls : List Link) (xs ns : List ℕ) (w : Bool) (w_is : w ≡ few_ends max_neighbours n ls) where
  pub not_few : w ≡ false → SoundDecided n ls xs ns false
  not_few e = let none : few_ends max_neighbours n ls ≡ false = sym w_is ∙ e in record { answer = rw none; numbers = λ f. never false f refl }

  pub sound_decided : (r : Bool) → w ≡ true → KOrderDecided (graph n ls) xs ns r → SoundDecided n ls xs ns r
  sound_decided r e d = let few : few_ends max_neighbours n ls ≡ true = sym w_is ∙ e in record { answer = rw few d.answer; numbers = d.numbers }

-- an image with the blocks for its links has the ones for its order
pub orders_inside : (n m k long : ℕ) → k ≡ n → block_bytes * block_count n m ≤ long → block_bytes * (1 + order_blocks k) ≤ long
unfolding block_count
orders_inside n m k long e w = rw e (omega arith)
